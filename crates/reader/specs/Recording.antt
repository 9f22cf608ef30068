-- A recording of the wires: sample bytes of which bit 0 is SCL and bit 1 is SDA as it was on the wire.
use Rattle.std.specs.Prelude.{ℕ, zero, suc, ◌/◌, ◌%◌, Bool, true, false, not, ◌&&◌, List, [], ◌∷◌, length, Some, None, Option, option_map, ◌==◌, slice_index_or}
use Rattle.board.specs.Samples.{odd}
use Rattle.board.specs.Wires.{Edge, steady, started, stopped, rose, fell, edge, Transfer, next}

-- the two wires after n samples; before the first both count as HIGH
abbrev pub scl_after : List ℕ → ℕ → Bool
scl_after xs zero = true
scl_after xs (suc n) = odd (slice_index_or xs n 0)

abbrev pub sda_after : List ℕ → ℕ → Bool
sda_after xs zero = true
sda_after xs (suc n) = odd (slice_index_or xs n 0 / 2)

-- what lies between sample n and the one before it
abbrev pub edge_at : List ℕ → ℕ → Edge
edge_at xs n = edge (scl_after xs n) (scl_after xs (suc n)) (sda_after xs n) (sda_after xs (suc n))

-- The open transfer after n samples, as on a board; but of a pull no more shows than that SDA is LOW at the rise.
abbrev pub open_after : List ℕ → ℕ → Option Transfer
open_after xs zero = None
open_after xs (suc n) = next (edge_at xs n) (not (sda_after xs (suc n))) (open_after xs n)

-- the bits of the rises since a START, the newest first, after n samples; none where no transfer is open
abbrev pub with_rise : Edge → Option (List Bool) → Option (List Bool)
with_rise steady o = o
with_rise started o = Some []
with_rise stopped o = None
with_rise (rose bit) o = option_map (λ ws. bit ∷ ws) o
with_rise fell o = o

abbrev pub rises_after : List ℕ → ℕ → Option (List Bool)
rises_after xs zero = None
rises_after xs (suc n) = with_rise (edge_at xs n) (rises_after xs n)

-- SDA was LOW at the last of some rises, and at the last but one
abbrev pub last_is_low : List Bool → Bool
last_is_low [] = false
last_is_low (bit ∷ ws) = not bit

abbrev pub last_but_one_is_low : List Bool → Bool
last_but_one_is_low [] = false
last_but_one_is_low (bit ∷ ws) = last_is_low ws

-- A STOP is clean where exactly one rise lies after a ninth rise with SDA LOW, whatever the ninth rises before it showed.
abbrev pub clean_rises : Option (List Bool) → Bool
clean_rises None = false
clean_rises (Some ws) = (length ws % 9 == 1) && last_but_one_is_low ws

-- a STOP at sample n is clean
abbrev pub clean_at : List ℕ → ℕ → Bool
clean_at xs n = clean_rises (rises_after xs n)
