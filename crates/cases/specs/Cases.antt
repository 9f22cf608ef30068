-- The worked cases, on a board with a fresh X9520 (part 0) paired with a fresh DS1846 (part 1).
-- The X9520 has its memory at 50h (80), its register at 52h (82) and its DCPs at 57h (87); the DS1846 is at 51h (81).
use Rattle.std.specs.Prelude.{◌≡◌, ℕ, List, [], ◌∷◌, ◌++◌, map}
use Rattle.refusals.specs.Told.{ok}
use Rattle.board.specs.declared.board.Board.{Board}
use Rattle.board.specs.Engine.{idle}
use Rattle.ds1846.specs.declared.state.Ds1846.{Ds1846}
use Rattle.ds1846.specs.Chip.{ds1846, fresh as fresh-ds1846}
use Rattle.x9520.specs.declared.state.X9520.{X9520}
use Rattle.x9520.specs.Chip.{x9520}
use Rattle.x9520.specs.State.{fresh as fresh-x9520}
use Rattle.pair.specs.declared.Pair.{Pair}
use Rattle.pair.specs.Both.{both, join}
use Rattle.dcp.specs.Taps.{bytes, tap_in}
use Rattle.jobfile.specs.Fields.{number_from}
use Rattle.cases.specs.Play.{Call, samples, finish, start, bits_sent, raised, wp, unstopped, write, write_high, write_stop_high, Question, cells, tap, acks, acks_high, reads, clocks, play, answer}

-- A case: after some calls a question has this answer; bytes of a potentiometer of 100 taps stand for these taps; or these bytes spell a number.
pub data Case : Type 0 where
  board : List Call → Question → List ℕ → Case
  taps : (bytes : List ℕ) → (taps : List ℕ) → Case
  spelled : (groups : List ℕ) (number taken : ℕ) → Case

abbrev pub fresh_board : Board (Pair X9520 Ds1846)
fresh_board = idle (join fresh-x9520 fresh-ds1846)

abbrev pub Holds : Case → Type 0
Holds (board calls question wanted) = answer (both x9520 ds1846) (play (both x9520 ds1846) fresh_board calls) question ≡ wanted
Holds (taps xs wanted) = map (tap_in bytes) xs ≡ wanted
Holds (spelled groups n taken) = number_from 3 0 0 groups ≡ ok (n, taken)

-- register writes: 02h sets WEL, 06h then sets RWEL, and 0Bh, stored, locks the last quarter of the memory
abbrev pub enable : List Call
enable = write 82 (0xff ∷ 0x02 ∷ []) ∷ []

abbrev pub arm : List Call
arm = enable ++ (write 82 (0xff ∷ 0x06 ∷ []) ∷ [])

abbrev pub lock : List Call
lock = arm ++ (write 82 (0xff ∷ 0x0b ∷ []) ∷ finish 0 ∷ [])

-- a byte with bits 2 and 1 set while RWEL is set
abbrev pub idled : List Call
idled = arm ++ (write 82 (0xff ∷ 0x0e ∷ []) ∷ [])

-- 13h locks the last half
abbrev pub lock_half : List Call
lock_half = arm ++ (write 82 (0xff ∷ 0x13 ∷ []) ∷ finish 0 ∷ [])

-- RWEL set again while the last quarter is locked, and then a byte for C0h with no STOP
abbrev pub rearm : List Call
rearm = lock ++ (write 82 (0xff ∷ 0x06 ∷ []) ∷ [])

abbrev pub tried : List Call
tried = rearm ++ (samples (unstopped 80 (0xc0 ∷ 0x55 ∷ [])) ∷ [])

-- the same with WP HIGH, where WP is what forbids the byte
abbrev pub tried_high : List Call
tried_high = rearm ++ (samples (raised wp (unstopped 80 (0xc0 ∷ 0x55 ∷ []))) ∷ [])

-- the two bytes of `arm` with WP HIGH
abbrev pub arm_high : List Call
arm_high = write_high 82 (0xff ∷ 0x02 ∷ []) ∷ write_high 82 (0xff ∷ 0x06 ∷ []) ∷ []

-- 00h, which would clear the latches, while the last quarter is locked: with WP HIGH, and with WP HIGH at the STOP alone
abbrev pub clear_high : List Call
clear_high = lock ++ (write_high 82 (0xff ∷ 0x00 ∷ []) ∷ write_stop_high 82 (0xff ∷ 0x00 ∷ []) ∷ [])

-- twelve bytes from 0Bh on
abbrev pub twelve : List Call
twelve = enable ++ (write 80 (0x0b ∷ 1 ∷ 2 ∷ 3 ∷ 4 ∷ 5 ∷ 6 ∷ 7 ∷ 8 ∷ 9 ∷ 10 ∷ 11 ∷ 12 ∷ []) ∷ finish 0 ∷ [])

-- byte 40h for DCP 0, which has 64 taps
abbrev pub beyond : List Call
beyond = enable ++ (write 87 (0x00 ∷ 0x40 ∷ []) ∷ [])

-- E4h stored in cell F9h of the DS1846
abbrev pub follows : List Call
follows = write 81 (0xf9 ∷ 0xe4 ∷ []) ∷ finish 1 ∷ []

-- a read address of the memory, up to the rise of its eighth bit; the byte to come is 00h
abbrev pub sending : List Call
sending = samples (start ++ bits_sent 7 80 ++ (2 ∷ 3 ∷ [])) ∷ []

-- The table is four lists, with a test for each: one test of all would take more memory than the checker gives it.
abbrev pub chips : List Case
chips =
    -- the register: 01h fresh, 03h after 02h, 07h after 06h, 0Bh after 0Bh and its finish
    board [] (reads 82 1) (0x01 ∷ [])
    ∷ board enable (reads 82 1) (0x03 ∷ [])
    ∷ board arm (reads 82 1) (0x07 ∷ [])
    ∷ board lock (reads 82 1) (0x0b ∷ [])
    -- then C0h is locked, and BFh is not
    ∷ board lock (acks 80 (0xc0 ∷ 0x55 ∷ [])) (1 ∷ 1 ∷ 0 ∷ [])
    ∷ board lock (acks 80 (0xbf ∷ 0x55 ∷ [])) (1 ∷ 1 ∷ 1 ∷ [])
    -- twelve bytes fill 0Bh to 0Fh and then 00h to 06h, and the counter is 07h
    ∷ board twelve (cells 0 0 16) (6 ∷ 7 ∷ 8 ∷ 9 ∷ 10 ∷ 11 ∷ 12 ∷ 0 ∷ 0 ∷ 0 ∷ 0 ∷ 1 ∷ 2 ∷ 3 ∷ 4 ∷ 5 ∷ [])
    ∷ board twelve (reads 80 5) (0 ∷ 0 ∷ 0 ∷ 0 ∷ 1 ∷ [])
    -- a byte beyond the taps moves the wiper to the last, and its byte is read
    ∷ board beyond (tap 0 0) (63 ∷ [])
    ∷ board beyond (reads 87 1) (0x3f ∷ [])
    ∷ board follows (tap 1 0) (99 ∷ [])
    -- SDA is HIGH on clock 10, and not on clock 9 or before
    ∷ board sending (clocks 10) (0 ∷ 0 ∷ 0 ∷ 0 ∷ 0 ∷ 0 ∷ 0 ∷ 0 ∷ 0 ∷ 1 ∷ [])
    ∷ taps (24 ∷ 56 ∷ 32 ∷ 64 ∷ 120 ∷ 96 ∷ 25 ∷ []) (24 ∷ 25 ∷ 49 ∷ 50 ∷ 75 ∷ 99 ∷ 99 ∷ [])
    ∷ spelled (0x82 ∷ 0x2c ∷ []) 300 2
    ∷ []

-- with WP LOW: what gets no ACK, and what gets one right beside it
abbrev pub no_ack : List Case
no_ack =
    -- without WEL: a byte for the memory, one for a DCP, and 06h for the register
    board [] (acks 80 (0x10 ∷ 0x55 ∷ [])) (1 ∷ 1 ∷ 0 ∷ [])
    ∷ board [] (acks 87 (0x00 ∷ 0x20 ∷ [])) (1 ∷ 1 ∷ 0 ∷ [])
    ∷ board [] (acks 82 (0xff ∷ 0x06 ∷ [])) (1 ∷ 1 ∷ 0 ∷ [])
    -- 0Eh while RWEL is set gets one and changes nothing
    ∷ board idled (reads 82 1) (0x07 ∷ [])
    -- 40h as the first byte for a DCP
    ∷ board [] (acks 87 (0x40 ∷ [])) (1 ∷ 0 ∷ [])
    -- with the last half locked: 80h, and not 7Fh
    ∷ board lock_half (acks 80 (0x80 ∷ 0x55 ∷ [])) (1 ∷ 1 ∷ 0 ∷ [])
    ∷ board lock_half (acks 80 (0x7f ∷ 0x55 ∷ [])) (1 ∷ 1 ∷ 1 ∷ [])
    -- a byte for a locked page, which clears RWEL at once: the register reads 0Fh before it, and 0Bh after
    ∷ board rearm (reads 82 1) (0x0f ∷ [])
    ∷ board rearm (acks 80 (0xc0 ∷ 0x55 ∷ [])) (1 ∷ 1 ∷ 0 ∷ [])
    ∷ board tried (reads 82 1) (0x0b ∷ [])
    ∷ []

-- with WP HIGH and nothing locked
abbrev pub wp_high : List Case
wp_high =
    -- no byte to be stored gets an ACK: in the DS1846, in the memory, for a DCP where the first byte is 80h, in the register
    board [] (acks_high 81 (0x10 ∷ 0x55 ∷ [])) (1 ∷ 1 ∷ 0 ∷ [])
    ∷ board enable (acks_high 80 (0x10 ∷ 0x55 ∷ [])) (1 ∷ 1 ∷ 0 ∷ [])
    ∷ board enable (acks_high 87 (0x80 ∷ 0x20 ∷ [])) (1 ∷ 1 ∷ 0 ∷ [])
    ∷ board arm (acks_high 82 (0xff ∷ 0x0b ∷ [])) (1 ∷ 1 ∷ 0 ∷ [])
    -- any other does: for a DCP where the first byte is 00h, and for the latches
    ∷ board enable (acks_high 87 (0x00 ∷ 0x20 ∷ [])) (1 ∷ 1 ∷ 1 ∷ [])
    ∷ board enable (acks_high 82 (0xff ∷ 0x02 ∷ [])) (1 ∷ 1 ∷ 1 ∷ [])
    ∷ board enable (acks_high 82 (0xff ∷ 0x06 ∷ [])) (1 ∷ 1 ∷ 1 ∷ [])
    ∷ board enable (acks_high 82 (0xff ∷ 0x00 ∷ [])) (1 ∷ 1 ∷ 1 ∷ [])
    -- and the latches change at its STOP
    ∷ board arm_high (reads 82 1) (0x07 ∷ [])
    ∷ []

-- with WP HIGH and the last quarter locked
abbrev pub wp_high_locked : List Case
wp_high_locked =
    -- no byte gets an ACK
    board lock (acks_high 87 (0x00 ∷ 0x20 ∷ [])) (1 ∷ 1 ∷ 0 ∷ [])
    ∷ board lock (acks_high 82 (0xff ∷ 0x02 ∷ [])) (1 ∷ 1 ∷ 0 ∷ [])
    ∷ board lock (acks_high 82 (0xff ∷ 0x06 ∷ [])) (1 ∷ 1 ∷ 0 ∷ [])
    ∷ board lock (acks_high 82 (0xff ∷ 0x00 ∷ [])) (1 ∷ 1 ∷ 0 ∷ [])
    -- and the latches stay, also where WP is HIGH at the STOP alone
    ∷ board clear_high (reads 82 1) (0x0b ∷ [])
    -- nor is a byte for a locked page tried: WP is tested before the lock
    ∷ board tried_high (reads 82 1) (0x0f ∷ [])
    ∷ []

abbrev pub cases : List Case
cases = chips ++ (no_ack ++ (wp_high ++ wp_high_locked))

-- what holds of each of a list
abbrev pub All : (Case → Type 0) → List Case → Type 0
All P [] = Unit {0}
All P (c ∷ cs) = P c × All P cs

abbrev pub EveryCaseHolds : Type 0
EveryCaseHolds = All Holds cases
