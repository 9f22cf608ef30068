-- The DS1846 with A0 HIGH, as functions over its state. Assumes nothing.
-- k is a numbered part's number, of which there is only 0; i is a cell's number, j a wiper's;
-- a is the transfer's address byte, x a byte, l the levels.
use Rattle.std.specs.Prelude.{ℕ, ◌+◌, ◌%◌, Bool, true, false, cond, not, ◌&&◌, Some, None, Option, ◌==◌, nat_lt}
use Rattle.part.specs.declared.levels.Levels.{Levels}
use Rattle.part.specs.Ops.{Ops}
use Rattle.eeprom.specs.declared.Eeprom.{Eeprom}
use Rattle.eeprom.specs.Cells.{byte_at, is_busy, all_fresh, stages, unstages, stopped, cuts}
use Rattle.eeprom.specs.OnePart.{OnePart, part_of, hears_at}
use Rattle.eeprom.specs.Pages.{next_in_page}
use Rattle.ds1846.specs.declared.state.Ds1846.{Ds1846}
use Rattle.ds1846.specs.declared.state.Mode.{Mode}
use Rattle.ds1846.specs.declared.state.Mode.TheVariants.{Idle, Aiming, Writing, Reading}

abbrev pub chip : Eeprom 256 → ℕ → Mode → Ds1846
chip e n m = record { eeprom = e; counter = n; mode = m }

-- all cells 00h, nothing staged, under way or heard
abbrev pub fresh : Ds1846
fresh = chip all_fresh 0 Idle

-- its one address is 51h: A2h is the address byte for writing, A3h that for reading
abbrev pub heard_in : Mode → Option ℕ
heard_in Idle = None
heard_in Aiming = Some 162
heard_in Writing = Some 162
heard_in Reading = Some 163

-- it hears its address while no write is under way
abbrev pub hears : Ds1846 → ℕ → Bool
hears s = hears_at (λ n. (n == 81)) s.eeprom

abbrev pub mode_after : Bool → ℕ → Mode
mode_after true x = cond (x % 2 == 1) Reading Aiming
mode_after false x = Idle

-- the first byte after a write address is the counter, whatever the level of WP; out of turn it gets no ACK
abbrev pub is_aiming : Mode → Bool
is_aiming Idle = false
is_aiming Aiming = true
is_aiming Writing = false
is_aiming Reading = false

abbrev pub aims : Ds1846 → ℕ → Bool
aims s a = is_aiming s.mode && (a == 162 && not (is_busy s.eeprom))

abbrev pub aimed : Bool → Ds1846 → ℕ → Ds1846
aimed ack s x = chip (unstages s.eeprom) (cond ack x s.counter) (cond ack Writing Idle)

-- a later byte is staged at the counter, which goes up within its page of eight cells; with WP HIGH or out of turn
-- it gets no ACK, and nothing stays staged
abbrev pub is_writing : Mode → Bool
is_writing Idle = false
is_writing Aiming = false
is_writing Writing = true
is_writing Reading = false

abbrev pub takes : Ds1846 → ℕ → Levels → Bool
takes s a l = is_writing s.mode && (a == 162 && (not (is_busy s.eeprom) && not l.wp))

abbrev pub in_page : ℕ → ℕ
in_page = next_in_page 8

abbrev pub cells_taken : Bool → Eeprom 256 → ℕ → ℕ → Eeprom 256
cells_taken true e n x = stages e n x
cells_taken false e n x = unstages e

abbrev pub taken : Bool → Ds1846 → ℕ → Ds1846
taken ack s x =
    chip (cells_taken ack s.eeprom s.counter x) (cond ack (in_page s.counter) s.counter) (cond ack Writing Idle)

-- a byte for sending is that at the counter, which goes up, FFh to 00h; out of turn it is FFh
abbrev pub is_reading : Mode → Bool
is_reading Idle = false
is_reading Aiming = false
is_reading Writing = false
is_reading Reading = true

abbrev pub reads : Ds1846 → ℕ → Bool
reads s a = is_reading s.mode && a == 163

abbrev pub given : Bool → Ds1846 → ℕ
given turn s = cond turn (byte_at s.eeprom s.counter) 255

abbrev pub gave : Bool → Ds1846 → Ds1846
gave turn s = chip s.eeprom (cond turn ((s.counter + 1) % 256) s.counter) s.mode

-- the wipers follow the stored bytes: wiper 1 has 256 taps; of wipers 0 and 2 the low seven bits count, up to tap 99
abbrev pub tap_of : ℕ → ℕ
tap_of n = cond (nat_lt 99 n) 99 n

abbrev pub tap_at : Eeprom 256 → ℕ → ℕ
tap_at e j =
    cond (j == 0) (tap_of (byte_at e 249 % 128))
    (cond (j == 1) (byte_at e 248) (cond (j == 2) (tap_of (byte_at e 250 % 128)) 0))

-- The chip as the one numbered part: what is asked of its cells, and a finish, are said there for every such chip.
-- A clean STOP with WP LOW begins the writes staged; any other drops them.
abbrev pub as_part : OnePart Ds1846 256
as_part = record {
  has = λ n. (n == 81);
  wipers = 3;
  eeprom = λ s. s.eeprom;
  with_eeprom = λ s e. chip e s.counter s.mode;
  tap = λ s j. tap_at s.eeprom j;
  heard = λ s. heard_in s.mode;
  fresh = fresh;
  start = λ s. chip (unstages s.eeprom) s.counter Idle;
  address = λ s x. chip (unstages s.eeprom) s.counter (mode_after (hears s x) x);
  aims = λ s a l x. aims s a;
  aim = λ s a l x. aimed (aims s a) s x;
  takes = λ s a l x. takes s a l;
  take = λ s a l x. taken (takes s a l) s x;
  given = λ s a. given (reads s a) s;
  give = λ s a. gave (reads s a) s;
  level = λ s l. s;
  stop = λ s clean l. chip (stopped (clean && not l.wp) s.eeprom) s.counter Idle;
  cut = λ s p. chip (cuts s.eeprom p.mask) 0 Idle;
}

abbrev pub ds1846 : Ops Ds1846
ds1846 = part_of as_part
