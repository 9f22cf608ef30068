-- Bytes that are written to an X9520: the first byte after a write address, and the data bytes.
use Rattle.std.specs.Prelude.{ℕ, ◌+◌, ◌%◌, Bool, true, false, cond, not, ◌&&◌, ◌||◌, List, ◌==◌, nat_le, nat_lt, slice_index_or, slice_set}
use Rattle.part.specs.Ops.{is}
use Rattle.eeprom.specs.declared.Eeprom.{Eeprom}
use Rattle.eeprom.specs.Cells.{stages, unstages}
use Rattle.eeprom.specs.Pages.{next_in_page}
use Rattle.dcp.specs.declared.dcp.Dcp.{Dcp}
use Rattle.dcp.specs.Wiper.{at_byte}
use Rattle.protection.specs.declared.latches.Latches.{Latches}
use Rattle.x9520.specs.declared.state.Device.{Device}
use Rattle.x9520.specs.declared.state.Device.TheVariants.{Memory, Register, Dcps}
use Rattle.x9520.specs.declared.state.Mode.{Mode}
use Rattle.x9520.specs.declared.state.Mode.TheVariants.{Idle, Aiming, MemoryBytes, DcpByte, RegisterByte, Moved, Latching, Storing, Reading}
use Rattle.x9520.specs.declared.state.X9520.{X9520}
use Rattle.protection.specs.Latching.{disarmed}
use Rattle.protection.specs.Lock.{locks_memory, locks_wipers, wp_forbids}
use Rattle.x9520.specs.Register.{bit, stored_register}
use Rattle.x9520.specs.State.{chip, heard_in}

-- What a first byte does: it gets no ACK, sets the counter, names a DCP, to be stored or not, or opens the register.
pub data Aim : Type 0 where
  rejected : Aim
  at_cell : (cell : ℕ) → Aim
  names : (dcp : ℕ) (store : Bool) → Aim
  opens : Aim

-- For the DCPs: bit 7 is whether to store, bits 6 to 2 are 0, and the rest is 0, 1 or 2. For the register: FFh.
abbrev pub aim_for : Device → ℕ → Aim
aim_for Memory x = at_cell x
aim_for Register x = cond (x == 255) opens rejected
aim_for Dcps x = cond (nat_lt (x % 128) 3) (names (x % 128) (nat_le 128 x)) rejected

abbrev pub aim_in : Mode → ℕ → Aim
aim_in Idle x = rejected
aim_in (Aiming d) x = aim_for d x
aim_in MemoryBytes x = rejected
aim_in (DcpByte store) x = rejected
aim_in RegisterByte x = rejected
aim_in Moved x = rejected
aim_in (Latching y) x = rejected
aim_in (Storing y) x = rejected
aim_in (Reading d) x = rejected

-- under another address byte than the one heard it is out of turn
abbrev pub aim_of : X9520 → ℕ → ℕ → Aim
aim_of s a x = cond (is a (heard_in s.mode)) (aim_in s.mode x) rejected

abbrev pub aim_acks : Aim → Bool
aim_acks rejected = false
aim_acks (at_cell i) = true
aim_acks (names j store) = true
aim_acks opens = true

abbrev pub aim_counter : Aim → ℕ → ℕ
aim_counter rejected n = n
aim_counter (at_cell i) n = i
aim_counter (names j store) n = n
aim_counter opens n = n

abbrev pub aim_named : Aim → ℕ → ℕ
aim_named rejected m = m
aim_named (at_cell i) m = m
aim_named (names j store) m = j
aim_named opens m = m

abbrev pub aim_mode : Aim → Mode
aim_mode rejected = Idle
aim_mode (at_cell i) = MemoryBytes
aim_mode (names j store) = DcpByte store
aim_mode opens = RegisterByte

abbrev pub aimed : Aim → X9520 → X9520
aimed v s = chip (unstages s.eeprom) s.dcps s.latches s.flags (aim_counter v s.counter) (aim_named v s.named) (aim_mode v)

-- What a data byte does: it gets no ACK; it gets none and clears RWEL, as a try at locked memory; it is staged for the memory cell at the counter;
-- it moves the named wiper, and with `store` is staged for the stored wiper; it waits for the STOP to change the latches;
-- or it is staged for the register and waits for the STOP.
pub data Verdict : Type 0 where
  refused : Verdict
  barred : Verdict
  pages : Verdict
  moves : (store : Bool) → Verdict
  latches : Verdict
  stores : Verdict

-- A data byte is judged by the latches l, the stored register byte r, the counter n and WP.
-- It is tested in this order: WEL (the register excepted), WP, lock.
abbrev pub memory_verdict : Latches → ℕ → ℕ → Bool → Verdict
memory_verdict l r n wp =
    cond (not l.wel) refused (
    cond (wp_forbids true wp r) refused (
    cond (locks_memory r n) barred pages))

abbrev pub dcp_verdict : Latches → ℕ → Bool → Bool → Verdict
dcp_verdict l r store wp =
    cond (not l.wel) refused (
    cond (wp_forbids store wp r) refused (
    cond (locks_wipers r) refused (moves store)))

-- With RWEL set, a byte with bits 2 and 1 set changes nothing, and one with bit 2 clear and bit 1 set is stored.
abbrev pub armed_verdict : ℕ → Bool → ℕ → Verdict
armed_verdict r wp x = cond (bit 2 x) (cond (bit 4 x) latches (cond (wp_forbids true wp r) refused stores)) refused

-- 00h, 02h with RWEL clear, and 06h with WEL set and RWEL clear, are for the latches.
abbrev pub register_verdict : Latches → ℕ → Bool → ℕ → Verdict
register_verdict l r wp x =
    cond (wp_forbids false wp r) refused (
    cond (x == 0) latches (
    cond l.rwel (armed_verdict r wp x) (
    cond (x == 2 || (x == 6 && l.wel)) latches refused)))

abbrev pub verdict_in : Mode → Latches → ℕ → ℕ → Bool → ℕ → Verdict
verdict_in Idle l r n wp x = refused
verdict_in (Aiming d) l r n wp x = refused
verdict_in MemoryBytes l r n wp x = memory_verdict l r n wp
verdict_in (DcpByte store) l r n wp x = dcp_verdict l r store wp
verdict_in RegisterByte l r n wp x = register_verdict l r wp x
verdict_in Moved l r n wp x = refused
verdict_in (Latching y) l r n wp x = refused
verdict_in (Storing y) l r n wp x = refused
verdict_in (Reading d) l r n wp x = refused

abbrev pub verdict : X9520 → ℕ → Bool → ℕ → Verdict
verdict s a wp x =
    cond (is a (heard_in s.mode)) (verdict_in s.mode s.latches (stored_register s) s.counter wp x) refused

abbrev pub acks : Verdict → Bool
acks refused = false
acks barred = false
acks pages = true
acks (moves store) = true
acks latches = true
acks stores = true

-- without an ACK nothing stays staged
abbrev pub cells_taken : Verdict → Eeprom 260 → ℕ → ℕ → ℕ → Eeprom 260
cells_taken refused e n m x = unstages e
cells_taken barred e n m x = unstages e
cells_taken pages e n m x = stages e n x
cells_taken (moves true) e n m x = stages e (256 + m) x
cells_taken (moves false) e n m x = e
cells_taken latches e n m x = e
cells_taken stores e n m x = stages e 259 x

-- the DCPs with number m moved to the tap of a byte, where there is one
abbrev pub no_dcp : Dcp
no_dcp = record { register = 0; taps = 0 }

abbrev pub with_moved : List Dcp → ℕ → ℕ → List Dcp
with_moved d m x = cond (nat_lt m 3) (slice_set d m (at_byte (slice_index_or d m no_dcp).taps x)) d

abbrev pub dcps_taken : Verdict → List Dcp → ℕ → ℕ → List Dcp
dcps_taken refused d m x = d
dcps_taken barred d m x = d
dcps_taken pages d m x = d
dcps_taken (moves store) d m x = with_moved d m x
dcps_taken latches d m x = d
dcps_taken stores d m x = d

abbrev pub latches_taken : Verdict → Latches → Latches
latches_taken refused l = l
latches_taken barred l = disarmed l
latches_taken pages l = l
latches_taken (moves store) l = l
latches_taken latches l = l
latches_taken stores l = l

-- the counter goes up within its page of sixteen cells
abbrev pub in_page : ℕ → ℕ
in_page = next_in_page 16

abbrev pub counter_taken : Verdict → ℕ → ℕ
counter_taken refused n = n
counter_taken barred n = n
counter_taken pages n = in_page n
counter_taken (moves store) n = n
counter_taken latches n = n
counter_taken stores n = n

abbrev pub mode_taken : Verdict → ℕ → Mode
mode_taken refused x = Idle
mode_taken barred x = Idle
mode_taken pages x = MemoryBytes
mode_taken (moves store) x = Moved
mode_taken latches x = Latching x
mode_taken stores x = Storing x

abbrev pub taken : Verdict → X9520 → ℕ → X9520
taken v s x =
    chip (cells_taken v s.eeprom s.counter s.named x) (dcps_taken v s.dcps s.named x)
    (latches_taken v s.latches) s.flags (counter_taken v s.counter) s.named (mode_taken v x)
