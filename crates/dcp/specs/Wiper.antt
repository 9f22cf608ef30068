-- A wiper that is moved by bytes. Its register holds the byte of its tap.
use Rattle.std.specs.Prelude.{◌≡◌, ℕ, ◌-◌, min, Bool, true, false, ◌==◌}
use Rattle.dcp.specs.declared.dcp.Dcp.{Dcp}
use Rattle.dcp.specs.declared.taps.Entry.{Entry}
use Rattle.dcp.specs.Taps.{byte_of, bytes, looked}

-- Of 100 taps the table says which; otherwise a byte is its tap, and one beyond the taps means the last.
abbrev pub entry_by : Bool → ℕ → ℕ → Entry
entry_by true taps b = looked bytes b
entry_by false taps b = record { tap = min b (taps - 1); byte = min b (taps - 1) }

abbrev pub entry_for : ℕ → ℕ → Entry
entry_for taps b = entry_by (taps == 100) taps b

abbrev pub at_byte : ℕ → ℕ → Dcp
at_byte taps b = record { register = (entry_for taps b).byte; taps = taps }

-- where the wiper stands
abbrev pub tap_of : Dcp → ℕ
tap_of d = (entry_for d.taps d.register).tap

-- the byte that stands for a tap
abbrev pub byte_by : Bool → ℕ → ℕ
byte_by true t = byte_of t
byte_by false t = t

abbrev pub byte_for : ℕ → ℕ → ℕ
byte_for taps t = byte_by (taps == 100) t

-- The wiper stands at the tap of byte b, and its register holds the byte of that tap.
pub record Holds (b : ℕ) (d : Dcp) : Type 0 where
  pub tap : tap_of d ≡ (entry_for d.taps b).tap
  pub byte : d.register ≡ byte_for d.taps (tap_of d)
