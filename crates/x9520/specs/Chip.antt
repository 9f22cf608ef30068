-- The X9520, as functions over its state. Assumes nothing.
-- k is a numbered part's number, of which there is only 0; i is a cell's number, j a wiper's;
-- a is the transfer's address byte, x a byte, l the levels.
use Rattle.std.specs.Prelude.{ℕ, ◌+◌, ◌%◌, Bool, false, cond, not, ◌&&◌, List, Some, None, Option, nat_lt, slice_index_or}
use Rattle.part.specs.declared.levels.Levels.{Levels}
use Rattle.part.specs.Ops.{Ops, is}
use Rattle.eeprom.specs.Cells.{byte_at, unstages, stopped, cuts}
use Rattle.eeprom.specs.OnePart.{OnePart, part_of, hears_at}
use Rattle.dcp.specs.declared.dcp.Dcp.{Dcp}
use Rattle.dcp.specs.Wiper.{tap_of}
use Rattle.protection.specs.declared.latches.Latches.{Latches}
use Rattle.x9520.specs.declared.state.Device.{Device}
use Rattle.x9520.specs.declared.state.Device.TheVariants.{Memory, Register, Dcps}
use Rattle.x9520.specs.declared.state.Flags.{Flags}
use Rattle.x9520.specs.declared.state.Mode.{Mode}
use Rattle.x9520.specs.declared.state.Mode.TheVariants.{Idle, Aiming, MemoryBytes, DcpByte, RegisterByte, Moved, Latching, Storing, Reading}
use Rattle.x9520.specs.declared.state.X9520.{X9520}
use Rattle.protection.specs.Latching.{disarmed}
use Rattle.protection.specs.Lock.{wp_forbids}
use Rattle.x9520.specs.Register.{bit, stored_register, register_byte, latched}
use Rattle.x9520.specs.State.{chip, flags, powered, fresh, known, heard_in, mode_after}
use Rattle.x9520.specs.Writing.{aim_of, aim_acks, aimed, verdict, acks, taken, no_dcp}

-- it hears its addresses while no write is under way
abbrev pub hears : X9520 → ℕ → Bool
hears s = hears_at known s.eeprom

-- A byte for sending is the one at the counter, which goes up, FFh to 00h; the wiper register last named; or the register. Out of turn it is FFh.
abbrev pub source_in : Mode → Option Device
source_in Idle = None
source_in (Aiming d) = None
source_in MemoryBytes = None
source_in (DcpByte store) = None
source_in RegisterByte = None
source_in Moved = None
source_in (Latching y) = None
source_in (Storing y) = None
source_in (Reading d) = Some d

abbrev pub source : X9520 → ℕ → Option Device
source s a = cond (is a (heard_in s.mode)) (source_in s.mode) None

abbrev pub wiper_register : List Dcp → ℕ → ℕ
wiper_register d m = cond (nat_lt m 3) (slice_index_or d m no_dcp).register 0

abbrev pub given : Option Device → X9520 → ℕ
given None s = 255
given (Some Memory) s = byte_at s.eeprom s.counter
given (Some Register) s = register_byte s
given (Some Dcps) s = wiper_register s.dcps s.named

abbrev pub counter_given : Option Device → ℕ → ℕ
counter_given None n = n
counter_given (Some Memory) n = (n + 1) % 256
counter_given (Some Register) n = n
counter_given (Some Dcps) n = n

abbrev pub gave : Option Device → X9520 → X9520
gave o s = chip s.eeprom s.dcps s.latches s.flags (counter_given o s.counter) s.named s.mode

-- a LOW output clears its flag
abbrev pub flags_at : Flags → Levels → Flags
flags_at f l = flags (f.v2os && l.v2ro) (f.v3os && l.v3ro)

-- Latches change at a clean STOP that the WP rule allows. The STOP that starts the register cycle clears RWEL,
-- and sets V2OS to bit 6 and V3OS to bit 5 where that output is HIGH, else to 0.
abbrev pub latches_stopped : Mode → Bool → Bool → ℕ → Latches → Latches
latches_stopped Idle clean wp r l = l
latches_stopped (Aiming d) clean wp r l = l
latches_stopped MemoryBytes clean wp r l = l
latches_stopped (DcpByte store) clean wp r l = l
latches_stopped RegisterByte clean wp r l = l
latches_stopped Moved clean wp r l = l
latches_stopped (Latching x) clean wp r l = cond (clean && not (wp_forbids false wp r)) (latched l x) l
latches_stopped (Storing x) clean wp r l = cond (clean && not wp) (disarmed l) l
latches_stopped (Reading d) clean wp r l = l

abbrev pub flags_stopped : Mode → Bool → Levels → Flags → Flags
flags_stopped Idle begins l f = f
flags_stopped (Aiming d) begins l f = f
flags_stopped MemoryBytes begins l f = f
flags_stopped (DcpByte store) begins l f = f
flags_stopped RegisterByte begins l f = f
flags_stopped Moved begins l f = f
flags_stopped (Latching x) begins l f = f
flags_stopped (Storing x) begins l f = cond begins (flags (bit 64 x && l.v2ro) (bit 32 x && l.v3ro)) f
flags_stopped (Reading d) begins l f = f

-- a clean STOP with WP LOW begins the writes staged; any other drops them
abbrev pub stopped_chip : X9520 → Bool → Levels → X9520
stopped_chip s clean l =
    chip (stopped (clean && not l.wp) s.eeprom) s.dcps
    (latches_stopped s.mode clean l.wp (stored_register s) s.latches)
    (flags_stopped s.mode (clean && not l.wp) l s.flags) s.counter s.named Idle

-- where a wiper stands
abbrev pub tap_at : List Dcp → ℕ → ℕ
tap_at d j = cond (nat_lt j 3) (tap_of (slice_index_or d j no_dcp)) 0

-- the chip as the one numbered part: what is asked of its cells, and a finish, are said there for every such chip
abbrev pub as_part : OnePart X9520 260
as_part = record {
  has = known;
  wipers = 3;
  eeprom = λ s. s.eeprom;
  with_eeprom = λ s e. chip e s.dcps s.latches s.flags s.counter s.named s.mode;
  tap = λ s j. tap_at s.dcps j;
  heard = λ s. heard_in s.mode;
  fresh = fresh;
  start = λ s. chip (unstages s.eeprom) s.dcps s.latches s.flags s.counter s.named Idle;
  address = λ s x. chip (unstages s.eeprom) s.dcps s.latches s.flags s.counter s.named (mode_after (hears s x) x);
  aims = λ s a l x. aim_acks (aim_of s a x);
  aim = λ s a l x. aimed (aim_of s a x) s;
  takes = λ s a l x. acks (verdict s a l.wp x);
  take = λ s a l x. taken (verdict s a l.wp x) s x;
  given = λ s a. given (source s a) s;
  give = λ s a. gave (source s a) s;
  level = λ s l. chip s.eeprom s.dcps s.latches (flags_at s.flags l) s.counter s.named s.mode;
  stop = stopped_chip;
  cut = λ s p. powered (cuts s.eeprom p.mask);
}

abbrev pub x9520 : Ops X9520
x9520 = part_of as_part
