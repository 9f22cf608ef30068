-- A potentiometer of 100 taps: which byte stands for which tap.
use Rattle.std.specs.Prelude.{◌≡◌, ℕ, ◌+◌, ◌-◌, ◌<◌, cond, List, map, ◌==◌, ◌≢◌, nat_lt, slice_index}
use Rattle.std.specs.List.{position, range_with_len}
use Rattle.std.specs.Option.{unwrap_or}
use Rattle.dcp.specs.declared.taps.Entry.{Entry}

-- bytes 0 to 24 for taps 0 to 24, 56 down to 32 for 25 to 49, 64 to 88 for 50 to 74, 120 down to 96 for 75 to 99
abbrev pub byte_of : ℕ → ℕ
byte_of t = cond (nat_lt t 25) t (cond (nat_lt t 50) (81 - t) (cond (nat_lt t 75) (t + 14) (195 - t)))

-- the table of these bytes, shut since it would compute entry by entry
unfoldable pub bytes : List ℕ
bytes = map byte_of (range_with_len 0 100)

-- the tap of a byte in a table: the place of its first entry that is the byte, 99 where none is
unfoldable pub tap_in : List ℕ → ℕ → ℕ
tap_in xs b = unwrap_or (position (λ x. x == b) xs) 99

-- that tap, and the entry there
abbrev pub looked : List ℕ → ℕ → Entry
looked xs b = record { tap = tap_in xs b; byte = slice_index xs (tap_in xs b) }

-- The tap of a byte undoes the byte of a tap, and a byte that stands for no tap means tap 99.
pub record Inverse (b : ℕ) (e : Entry) : Type 0 where
  pub below : e.tap < 100
  pub its : e.byte ≡ byte_of e.tap
  pub back : (t : ℕ) → t < 100 → byte_of t ≡ b → e.tap ≡ t
  pub none : ((t : ℕ) → t < 100 → byte_of t ≢ b) → e.tap ≡ 99
