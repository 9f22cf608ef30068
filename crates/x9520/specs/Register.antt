-- The register: its byte as it is read, and what the latches do.
use Rattle.std.specs.Prelude.{ℕ, ◌+◌, ◌*◌, ◌/◌, ◌%◌, Bool, true, false, cond, ◌==◌}
use Rattle.eeprom.specs.Cells.{byte_at}
use Rattle.protection.specs.declared.latches.Latches.{Latches}
use Rattle.x9520.specs.declared.state.X9520.{X9520}
use Rattle.protection.specs.Latching.{cleared, enabled, armed}

-- bit n of a byte, by its weight
abbrev pub bit : ℕ → ℕ → Bool
bit weight x = x / weight % 2 == 1

abbrev pub weigh : ℕ → Bool → ℕ
weigh weight true = weight
weigh weight false = 0

-- the register byte as it is stored
abbrev pub stored_register : X9520 → ℕ
stored_register s = byte_at s.eeprom 259

-- Bits 7, 4, 3 and 0 are the stored ones; V2OS is bit 6, V3OS bit 5, RWEL bit 2, WEL bit 1.
abbrev pub register_byte : X9520 → ℕ
register_byte s =
    stored_register s / 128 * 128 + weigh 64 s.flags.v2os + weigh 32 s.flags.v3os
    + stored_register s / 8 % 4 * 8 + weigh 4 s.latches.rwel + weigh 2 s.latches.wel + stored_register s % 2

-- what a latch byte does at its STOP: 00h clears both, 02h sets WEL, 06h sets RWEL; any other changes nothing
abbrev pub latched : Latches → ℕ → Latches
latched l x = cond (x == 0) cleared (cond (x == 2) (enabled l) (cond (x == 6) (armed l) l))
