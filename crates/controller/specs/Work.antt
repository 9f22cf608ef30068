-- The work of a job on a part by itself, without wires: START, whole bytes and STOP, at the levels l of the lines. Of a byte given eight bits count.
-- s is the part, a an address of seven bits, y the address byte of the transfer; an answer numbers the byte without an ACK, from 0 in the job.
use Rattle.std.specs.Prelude.{◌≡◌, ℕ, zero, suc, ◌+◌, ◌%◌, Bool, true, false, cond, List, [], ◌∷◌, length, nat_le}
use Rattle.refusals.specs.Told.{Told, ok, refused}
use Rattle.part.specs.Ops.{Ops}
use Rattle.part.specs.declared.levels.Levels.{Levels}
use Rattle.board.specs.declared.board.Board.{Board}
use Rattle.board.specs.Engine.{idle}
use Rattle.rows.specs.declared.row.Row.{Row}
use Rattle.controller.specs.Answers.{Into}
use Rattle.controller.specs.Jobs.{write_byte, read_byte}

module _ {S : Type 0} where
  -- byte number n got its ACK and the work goes on, or it ends there
  abbrev pub on_ack : Bool → ℕ → (S → S × Told (List ℕ)) → S → S × Told (List ℕ)
  on_ack true n go s = go s
  on_ack false n go s = (s, refused 8 n)

  -- a refusal ends the work
  abbrev pub on_ok : Told (List ℕ) → (S → S × Told (List ℕ)) → S → S × Told (List ℕ)
  on_ok (ok xs) go s = go s
  on_ok (refused n p) go s = (s, refused n p)

  -- the end of a part of the work
  abbrev pub done : S → S × Told (List ℕ)
  done s = (s, ok [])

abbrev pub is_ok : Told (List ℕ) → Bool
is_ok (ok xs) = true
is_ok (refused n p) = false

module _ {S : Type 0} (ops : Ops S) (l : Levels) where
  -- the bytes after the first, numbered from n on
  abbrev pub later : ℕ → ℕ → List ℕ → S → S × Told (List ℕ)
  later y n [] s = done s
  later y n (x ∷ xs) s = on_ack (ops.takes s y l x) n (later y (n + 1) xs) (ops.take s y l x)

  abbrev pub bytes : ℕ → List ℕ → S → S × Told (List ℕ)
  bytes y [] s = done s
  bytes y (x ∷ xs) s = on_ack (ops.aims s y l x) 1 (later y 2 xs) (ops.aim s y l x)

  -- START and the address byte y, number n of the job
  abbrev pub begun : ℕ → ℕ → (S → S × Told (List ℕ)) → S → S × Told (List ℕ)
  begun n y go s = on_ack (ops.hears (ops.start s) y) n go (ops.address (ops.start s) y)

  abbrev pub sent : ℕ → List ℕ → S → S × Told (List ℕ)
  sent a xs s = begun 0 (write_byte a) (bytes (write_byte a) xs) s

  -- the STOP of a write, clean where every byte got its ACK
  abbrev pub closed : S × Told (List ℕ) → S × Told (List ℕ)
  closed w = (ops.stop w.0 (is_ok w.1) l, w.1)

  -- A write. The levels come first, and after that change nothing.
  unfoldable pub written : ℕ → List ℕ → S → S × Told (List ℕ)
  written a xs s = closed (sent a xs (ops.level s l))

  -- n bytes given
  abbrev pub given : ℕ → ℕ → S → S × List ℕ
  given y zero s = (s, [])
  given y (suc n) s = ((given y n (ops.give s y)).0, ops.given s y % 256 ∷ (given y n (ops.give s y)).1)

  -- the address of a read, after a write of aim bytes where there are some
  abbrev pub addressed : ℕ → List ℕ → S → S × Told (List ℕ)
  addressed a [] s = begun 0 (read_byte a) done s
  addressed a (x ∷ xs) s =
      on_ok (sent a (x ∷ xs) s).1 (begun (1 + length (x ∷ xs)) (read_byte a) done) (sent a (x ∷ xs) s).0

  -- the bytes of a read and its STOP, which is not clean: the last byte gets no ACK
  abbrev pub fetched : ℕ → ℕ → Told (List ℕ) → S → S × Told (List ℕ)
  fetched y n (ok xs) s = (ops.stop (given y n s).0 false l, ok (given y n s).1)
  fetched y n (refused r p) s = (ops.stop s false l, refused r p)

  -- a read of n bytes, one at least
  unfoldable pub read : ℕ → List ℕ → ℕ → S → S × Told (List ℕ)
  read a aim n s = fetched (read_byte a) n (addressed a aim (ops.level s l)).1 (addressed a aim (ops.level s l)).0

  -- a wait of at most n polls, each a write of no bytes, up to the first that gets its ACK
  abbrev pub unless_ready : Told (List ℕ) → (S → S × Told (List ℕ)) → S → S × Told (List ℕ)
  unless_ready (ok xs) go s = done s
  unless_ready (refused n p) go s = go s

  unfoldable pub polled : ℕ → ℕ → S → S × Told (List ℕ)
  polled a zero s = (s, refused 10 0)
  polled a (suc n) s = unless_ready (written a [] s).1 (polled a n) (written a [] s).0

-- the work is not begun where the caller's row has no room for n bytes
abbrev pub with_room : {S : Type 0} → ℕ → ℕ → (S → S × Told (List ℕ)) → S → S × Told (List ℕ)
with_room n room go s = cond (nat_le n room) (go s) (s, refused 9 0)

-- the board after some work from idle wires, both HIGH and no transfer open, which are idle again; and the answer
abbrev pub on_idle : {S : Type 0} → S × Told (List ℕ) → Board S × Told (List ℕ)
on_idle w = (idle w.0, w.1)

-- From idle wires a job is this work on the part: it leaves idle wires and the part after the work, and answers as the work does.
unfoldable pub Works : {S : Type 0} → (S → S × Told (List ℕ)) → Board S → Board S → Told (List ℕ) → Type 0
Works {S} go b c answer = (s : S) → b ≡ idle s → (c, answer) ≡ on_idle (go s)

-- and so does one that answers bytes into a row
unfoldable pub WorksInto : {S : Type 0} → (S → S × Told (List ℕ)) → Board S → Board S → Row ℕ → Row ℕ → Told (Unit {0}) → Type 0
WorksInto {S} go b c before after answer = (s : S) → b ≡ idle s → Into (on_idle (go s)) c before after answer
