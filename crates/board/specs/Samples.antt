-- A sample as a byte: bit 0 is SCL, bit 1 the master's SDA, bit 2 WP, bit 3 V2RO, bit 4 V3RO, 1 for HIGH. No line has bits 5 to 7.
use Rattle.std.specs.Prelude.{ℕ, ◌+◌, ◌*◌, ◌/◌, ◌%◌, Bool, true, false, cond, ◌==◌, nat_lt}
use Rattle.refusals.specs.Told.{Told, ok, refused}
use Rattle.part.specs.declared.levels.Levels.{Levels}
use Rattle.board.specs.declared.sample.Sample.{Sample}

abbrev pub bit_value : Bool → ℕ
bit_value true = 1
bit_value false = 0

abbrev pub odd : ℕ → Bool
odd n = n % 2 == 1

abbrev pub levels : ℕ → Levels
levels x = record { wp = odd (x / 4); v2ro = odd (x / 8); v3ro = odd (x / 16) }

-- the byte of a sample: SCL and SDA as the master drives them, at the levels l of the lines beside the wires
abbrev pub sample_byte : Levels → Bool → Bool → ℕ
sample_byte l scl sda = bit_value scl + 2 * bit_value sda + (4 * bit_value l.wp + 8 * bit_value l.v2ro + 16 * bit_value l.v3ro)

abbrev pub sample_at : ℕ → Sample
sample_at x = record { scl = odd x; sda = odd (x / 2); levels = levels x }

-- the sample that a byte stands for, where it stands for one
abbrev pub decoded : ℕ → Told Sample
decoded x = cond (nat_lt x 32) (ok (sample_at x)) (refused 1 0)
