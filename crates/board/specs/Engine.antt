-- The wire engine: what one sample, one finish, one power cut and one question do to a board, in the words of the wires.
-- A rise is SCL going HIGH, a fall SCL going LOW. START is SDA going LOW, STOP is SDA going HIGH, with SCL HIGH in both samples.
use Rattle.std.specs.Prelude.{ℕ, ◌+◌, ◌*◌, ◌/◌, ◌%◌, Bool, true, false, cond, not, ◌&&◌, Some, None, Option, ◌==◌, nat_le, nat_lt}
use Rattle.refusals.specs.Told.{Told, ok, refused}
use Rattle.part.specs.declared.levels.Levels.{Levels}
use Rattle.part.specs.declared.power.PowerCut.{PowerCut}
use Rattle.part.specs.Ops.{Ops, below}
use Rattle.board.specs.declared.board.Board.{Board}
use Rattle.board.specs.declared.bus.Bus.{Bus}
use Rattle.board.specs.declared.bus.Kind.{Kind}
use Rattle.board.specs.declared.bus.Kind.TheVariants.{Address, First, Later}
use Rattle.board.specs.declared.bus.Next.{Next}
use Rattle.board.specs.declared.bus.Next.TheVariants.{ThenFirst, ThenLater, ThenGiven}
use Rattle.board.specs.declared.bus.Phase.{Phase}
use Rattle.board.specs.declared.bus.Phase.TheVariants.{Closed, Deaf, Taking, AckDue, AckPulled, AckRisen, Giving, Released, Wanted}
use Rattle.board.specs.Samples.{bit_value, odd, levels}

-- A part pulls SDA LOW for its ACK, from the fall after the eighth rise to the fall after the ninth, and for each 0 of a byte that it gives.
abbrev pub pulls : Phase → Bool
pulls Closed = false
pulls Deaf = false
pulls (Taking kind bits byte) = false
pulls (AckDue next) = false
pulls (AckPulled next) = true
pulls (AckRisen next) = true
pulls (Giving address rises rest bit) = not bit
pulls (Released address) = false
pulls (Wanted address) = false

-- A STOP here is clean: exactly one rise lies after the ninth rise of an acknowledged byte.
abbrev pub clean : Phase → Bool
clean Closed = false
clean Deaf = false
clean (Taking Address bits byte) = false
clean (Taking (First address) bits byte) = bits == 1
clean (Taking (Later address) bits byte) = bits == 1
clean (AckDue next) = false
clean (AckPulled next) = false
clean (AckRisen next) = false
clean (Giving address rises rest bit) = rises == 1
clean (Released address) = false
clean (Wanted address) = false

-- a byte of a kind, of which no bit has come
abbrev pub no_bits : Kind → Phase
no_bits kind = Taking kind 0 0

-- both wires HIGH before, no transfer open, nothing pulled
abbrev pub idle_bus : Bus
idle_bus = record { scl = true; sda = true; phase = Closed }

module _ {S : Type 0} where
  -- the board with another phase and part
  abbrev pub with : Board S → Phase → S → Board S
  with b ph s = record { bus = record { scl = b.bus.scl; sda = b.bus.sda; phase = ph }; part = s }

  abbrev pub idle : S → Board S
  idle s = record { bus = idle_bus; part = s }

  module _ (ops : Ops S) where
    -- a whole byte sent by the master, with whether it gets an ACK; without one the part is deaf until START
    abbrev pub addressed : Bool → Board S → ℕ → Board S
    addressed true b x = with b (AckDue (cond (odd x) (ThenGiven x) (ThenFirst x))) (ops.address b.part x)
    addressed false b x = with b Deaf (ops.address b.part x)

    abbrev pub aimed : Bool → Board S → ℕ → Levels → ℕ → Board S
    aimed true b a l x = with b (AckDue (ThenLater a)) (ops.aim b.part a l x)
    aimed false b a l x = with b Deaf (ops.aim b.part a l x)

    abbrev pub taken : Bool → Board S → ℕ → Levels → ℕ → Board S
    taken true b a l x = with b (AckDue (ThenLater a)) (ops.take b.part a l x)
    taken false b a l x = with b Deaf (ops.take b.part a l x)

    abbrev pub whole : Kind → Board S → Levels → ℕ → Board S
    whole Address b l x = addressed (ops.hears b.part x) b x
    whole (First a) b l x = aimed (ops.aims b.part a l x) b a l x
    whole (Later a) b l x = taken (ops.takes b.part a l x) b a l x

    -- one bit more, with whether it is not yet the eighth: the part takes the byte at its eighth rise
    abbrev pub bit_taken : Bool → Board S → Kind → ℕ → Levels → ℕ → Board S
    bit_taken true b kind bits l x = with b (Taking kind (bits + 1) x) b.part
    bit_taken false b kind bits l x = whole kind b l x

    abbrev pub rise_at : Phase → Board S → Bool → Levels → Board S
    rise_at Closed b bit l = b
    rise_at Deaf b bit l = b
    rise_at (Taking kind bits byte) b bit l = bit_taken (nat_lt bits 7) b kind bits l (byte % 128 * 2 + bit_value bit)
    rise_at (AckPulled next) b bit l = with b (AckRisen next) b.part
    rise_at (Giving a rises rest out) b bit l = with b (Giving a (cond (nat_lt rises 8) (rises + 1) rises) rest out) b.part
    -- after a HIGH ninth bit of a byte that it gave, the part is deaf until START
    rise_at (Released a) b bit l = with b (cond bit Deaf (Wanted a)) b.part
    -- no rise comes here: a fall lies before it
    rise_at (AckDue next) b bit l = with b Deaf b.part
    rise_at (AckRisen next) b bit l = with b Deaf b.part
    rise_at (Wanted a) b bit l = with b Deaf b.part

    abbrev pub rise : Board S → Bool → Levels → Board S
    rise b bit l = rise_at b.bus.phase b bit l

    -- the byte fetched is on the wire with its highest bit
    abbrev pub fetch : Board S → ℕ → Board S
    fetch b a = with b (Giving a 0 (ops.given b.part a % 128 * 2) (odd (ops.given b.part a / 128))) (ops.give b.part a)

    abbrev pub go_on : Next → Board S → Board S
    go_on (ThenFirst a) b = with b (no_bits (First a)) b.part
    go_on (ThenLater a) b = with b (no_bits (Later a)) b.part
    go_on (ThenGiven a) b = fetch b a

    -- the next bit of a byte given, with whether there is one; after the eighth SDA is released
    abbrev pub shift : Bool → Board S → ℕ → ℕ → ℕ → Board S
    shift true b a rises rest = with b (Giving a rises (rest % 128 * 2) (nat_le 128 rest)) b.part
    shift false b a rises rest = with b (Released a) b.part

    abbrev pub fall_at : Phase → Board S → Board S
    fall_at Closed b = b
    fall_at Deaf b = b
    fall_at (Taking kind bits byte) b = b
    fall_at (AckDue next) b = with b (AckPulled next) b.part
    fall_at (AckPulled next) b = b
    fall_at (AckRisen next) b = go_on next b
    fall_at (Giving a rises rest bit) b = shift (nat_lt rises 8) b a rises rest
    fall_at (Released a) b = b
    fall_at (Wanted a) b = fetch b a

    abbrev pub fall : Board S → Board S
    fall b = fall_at b.bus.phase b

    -- START opens a transfer, and calls off an ACK or a byte still to come
    abbrev pub start : Board S → Board S
    start b = with b (no_bits Address) (ops.start b.part)

    -- after a STOP nothing is taken until START
    abbrev pub stop : Board S → Levels → Board S
    stop b l = with b Closed (ops.stop b.part (clean b.bus.phase) l)

    -- SCL HIGH in both samples: SDA before, and now
    abbrev pub held : Bool → Bool → Board S → Levels → Board S
    held true true b l = b
    held true false b l = start b
    held false true b l = stop b l
    held false false b l = b

    -- SCL before, and now: pulls change at a fall
    abbrev pub lower : Bool → Bool → Board S → Board S
    lower true true b = b
    lower true false b = fall b
    lower false scl b = b

    -- SCL before and now, SDA on the wire before and now
    abbrev pub act : Bool → Bool → Bool → Bool → Board S → Levels → Board S
    act true true sda wire b l = held sda wire b l
    act false true sda wire b l = rise b wire l
    act before false sda wire b l = b

    -- SDA on the wire is HIGH when the master releases it and no part pulls
    abbrev pub wire : Board S → Bool → Bool
    wire b sda = sda && not (pulls b.bus.phase)

    abbrev pub with_wires : Board S → Bool → Bool → Board S
    with_wires b scl sda = record { bus = record { scl = scl; sda = sda; phase = b.bus.phase }; part = b.part }

    abbrev pub level : Board S → Levels → Board S
    level b l = record { bus = b.bus; part = ops.level b.part l }

    abbrev pub settle : Board S → Bool → Bool → Bool → Bool → Levels → Board S
    settle b before sda-before scl sda l = with_wires (act before scl sda-before (wire b sda) b l) scl (wire b sda)

    -- In one sample the levels reach the part, a fall changes pulls, the wire's SDA is fixed, and then comes START, STOP or a rise.
    abbrev pub with_levels : Board S → Bool → Bool → Levels → Board S
    with_levels b scl sda l = settle (lower b.bus.scl scl (level b l)) b.bus.scl b.bus.sda scl sda l

    abbrev pub with_sample : Board S → ℕ → Board S
    with_sample b x = with_levels b (odd x) (odd (x / 2)) (levels x)

    -- A sample with bit 5, 6 or 7 set is refused; any other answers SDA on the wire.
    abbrev pub sampled : Board S → ℕ → Board S
    sampled b x = cond (nat_lt x 32) (with_sample b x) b

    abbrev pub sample_told : Board S → ℕ → Told Bool
    sample_told b x = cond (nat_lt x 32) (ok (with_sample b x).bus.sda) (refused 1 0)

    -- A finish of part k, with whether the board has it and whether a write is under way in it.
    abbrev pub finish_by : Bool → Bool → Board S → ℕ → Board S
    finish_by true true b k = record { bus = b.bus; part = ops.finish b.part k }
    finish_by true false b k = b
    finish_by false busy b k = b

    abbrev pub finish_told_by : Bool → Bool → Told (Unit {0})
    finish_told_by true true = ok tt
    finish_told_by true false = refused 3 0
    finish_told_by false busy = refused 2 0

    abbrev pub numbered : Board S → ℕ → Bool
    numbered b k = nat_lt k (ops.count b.part)

    -- whether it has a part of that number, as an answer
    abbrev pub numbered_by : Bool → Told (Unit {0})
    numbered_by true = ok tt
    numbered_by false = refused 2 0

    abbrev pub numbered_told : Board S → ℕ → Told (Unit {0})
    numbered_told b k = numbered_by (numbered b k)

    abbrev pub finished : Board S → ℕ → Board S
    finished b k = finish_by (numbered b k) (ops.busy b.part k) b k

    abbrev pub finish_told : Board S → ℕ → Told (Unit {0})
    finish_told b k = finish_told_by (numbered b k) (ops.busy b.part k)

    -- A power cut: the part stores and loses what its law says and powers up, on wires that are as on a board just made.
    abbrev pub cut : Board S → PowerCut → Board S
    cut b p = idle (ops.cut b.part p)

    -- A question, with whether the board has the part, and what stands there, if anything does.
    abbrev pub asked : Bool → Option ℕ → Told ℕ
    asked true (Some v) = ok v
    asked true None = refused 4 0
    asked false o = refused 2 0

    abbrev pub cell_told : Board S → ℕ → ℕ → Told ℕ
    cell_told b k i = asked (numbered b k) (below (ops.cells b.part k) i (ops.cell b.part k i))

    abbrev pub tap_told : Board S → ℕ → ℕ → Told ℕ
    tap_told b k j = asked (numbered b k) (below (ops.wipers b.part k) j (ops.tap b.part k j))
