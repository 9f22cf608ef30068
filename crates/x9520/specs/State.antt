-- An X9520 between two calls: its power-up, its fresh state, and the addresses that it answers.
use Rattle.std.specs.Prelude.{ℕ, ◌+◌, ◌/◌, ◌%◌, Bool, true, false, cond, ◌||◌, List, [], ◌∷◌, Some, None, Option, ◌==◌}
use Rattle.eeprom.specs.declared.Eeprom.{Eeprom}
use Rattle.eeprom.specs.Cells.{byte_at, all_fresh, stages, begins, finishes}
use Rattle.dcp.specs.declared.dcp.Dcp.{Dcp}
use Rattle.dcp.specs.Wiper.{at_byte}
use Rattle.protection.specs.declared.latches.Latches.{Latches}
use Rattle.x9520.specs.declared.state.Device.{Device}
use Rattle.x9520.specs.declared.state.Device.TheVariants.{Memory, Register, Dcps}
use Rattle.x9520.specs.declared.state.Flags.{Flags}
use Rattle.x9520.specs.declared.state.Mode.{Mode}
use Rattle.x9520.specs.declared.state.Mode.TheVariants.{Idle, Aiming, MemoryBytes, DcpByte, RegisterByte, Moved, Latching, Storing, Reading}
use Rattle.x9520.specs.declared.state.X9520.{X9520}
use Rattle.protection.specs.Latching.{cleared}

abbrev pub chip : Eeprom 260 → List Dcp → Latches → Flags → ℕ → ℕ → Mode → X9520
chip e d l f n m w = record { eeprom = e; dcps = d; latches = l; flags = f; counter = n; named = m; mode = w }

abbrev pub flags : Bool → Bool → Flags
flags v2 v3 = record { v2os = v2; v3os = v3 }

-- The DCPs have 64, 100 and 256 taps. At power-up each wiper goes to its stored byte, and everything else is clear.
abbrev pub wipers_from : Eeprom 260 → List Dcp
wipers_from e = at_byte 64 (byte_at e 256) ∷ at_byte 100 (byte_at e 257) ∷ at_byte 256 (byte_at e 258) ∷ []

abbrev pub powered : Eeprom 260 → X9520
powered e = chip e (wipers_from e) cleared (flags false false) 0 0 Idle

-- all cells 00h, but the register byte 01h, which was written as any byte is
abbrev pub factory : Eeprom 260
factory = finishes (begins (stages all_fresh 259 1))

abbrev pub fresh : X9520
fresh = powered factory

-- The addresses: 50h the memory, 52h the register, 57h the DCPs. The address byte for writing is twice that, for reading one more.
abbrev pub known : ℕ → Bool
known n = n == 80 || (n == 82 || n == 87)

abbrev pub device : ℕ → Device
device n = cond (n == 80) Memory (cond (n == 82) Register Dcps)

abbrev pub write_byte : Device → ℕ
write_byte Memory = 160
write_byte Register = 164
write_byte Dcps = 174

-- the address byte heard
abbrev pub heard_in : Mode → Option ℕ
heard_in Idle = None
heard_in (Aiming d) = Some (write_byte d)
heard_in MemoryBytes = Some 160
heard_in (DcpByte store) = Some 174
heard_in RegisterByte = Some 164
heard_in Moved = Some 174
heard_in (Latching x) = Some 164
heard_in (Storing x) = Some 164
heard_in (Reading d) = Some (write_byte d + 1)

-- after an address byte, with whether it was heard
abbrev pub mode_after : Bool → ℕ → Mode
mode_after true x = cond (x % 2 == 1) (Reading (device (x / 2))) (Aiming (device (x / 2)))
mode_after false x = Idle
