-- The two wires of a sample, and what the reader keeps of an open transfer: the numbers that its record needs.
use Rattle.std.specs.Prelude.{ℕ, ◌+◌, ◌*◌, ◌/◌, ◌^◌, ◌<◌, Bool, true, false, not, ◌&&◌, ◌||◌, cond, List, length, Some, None, Option, ◌==◌, nat_lt, option_map}
use Rattle.board.specs.Samples.{bit_value, odd}
use Rattle.board.specs.Wires.{Edge, steady, started, stopped, rose, fell, Transfer, value, address}
use Rattle.reader.specs.declared.kept.Kept.{Kept}
use Rattle.reader.specs.declared.wires.Edge.{Edge as Seen}
use Rattle.reader.specs.declared.wires.Edge.TheVariants.{Steady, Start, Stop, Rise, Fall}
use Rattle.reader.specs.declared.wires.Wires.{Wires}
use Rattle.reader.specs.Reading.{last_acked}
use Rattle.reader.specs.Recording.{scl_after, sda_after}

abbrev pub idle_wires : Wires
idle_wires = record { scl = true; sda = true }

abbrev pub wires_at : ℕ → Wires
wires_at x = record { scl = odd x; sda = odd (x / 2) }

abbrev pub edge_of : Seen → Edge
edge_of Steady = steady
edge_of Start = started
edge_of Stop = stopped
edge_of (Rise bit) = rose bit
edge_of Fall = fell

abbrev pub starts : Edge → Bool
starts steady = false
starts started = true
starts stopped = false
starts (rose bit) = false
starts fell = false

-- what is kept of an open transfer
abbrev pub kept_of : Transfer → Kept
kept_of t = record { bits = length t.bits; value = value t.bits; ninths = length t.bytes; address = address t.bytes; acked = last_acked t.bytes }

-- right after its START
abbrev pub kept_new : Kept
kept_new = record { bits = 0; value = 0; ninths = 0; address = 0; acked = false }

-- after one rise more: the ninth after eight bits makes a byte whole
abbrev pub kept_risen_by : Bool → Bool → Kept → Kept
kept_risen_by true bit k = record { bits = k.bits + 1; value = k.value * 2 + bit_value bit; ninths = k.ninths; address = k.address; acked = k.acked }
kept_risen_by false bit k = record { bits = 0; value = 0; ninths = k.ninths + 1; address = cond (k.ninths == 0) k.value k.address; acked = not bit }

abbrev pub kept_risen : Bool → Kept → Kept
kept_risen bit k = kept_risen_by (nat_lt k.bits 8) bit k

abbrev pub kept_next : Edge → Option Kept → Option Kept
kept_next steady o = o
kept_next started o = Some kept_new
kept_next stopped o = None
kept_next (rose bit) o = option_map (kept_risen bit) o
kept_next fell o = o

abbrev pub kept_address : Kept → ℕ
kept_address k = cond (nat_lt 0 k.ninths) k.address (cond (k.bits == 8) k.value 0)

-- the last rise, the eighth or the ninth of a byte, shows in the record; of the others it shows nothing
abbrev pub rise_shows : Kept → Bool
rise_shows k = (k.bits == 8) || (k.bits == 0)

abbrev pub kept_clean : Kept → Bool
kept_clean k = (k.bits == 1) && k.acked

-- one rise more can be counted
abbrev pub Small : Kept → Type 0
Small k = (k.bits < 8 → k.value < 128) × (k.ninths + 1 < 2 ^ 64)

abbrev pub AllSmall : Option Kept → Type 0
AllSmall None = Unit {0}
AllSmall (Some k) = Small k
