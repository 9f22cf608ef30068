-- A run of a board: its states under a sequence of calls, and what the wires have shown and the part has said by then.
use Rattle.std.specs.Prelude.{◌≡◌, ℕ, zero, suc, ◌+◌, ◌-◌, ◌/◌, ◌^◌, ◌<◌, ◌≤◌, Bool, true, false, cond, not, ◌&&◌, List, [], ◌∷◌, length, map, Some, None, Option, ◌==◌, nat_lt, slice_index_or}
use Rattle.part.specs.declared.levels.Levels.{Levels}
use Rattle.part.specs.Ops.{Ops}
use Rattle.part.specs.Moves.{Move, starting, addressing, aiming, taking, giving as giving_byte, levelling, stopping, finishing, cutting, renewing, moved}
use Rattle.board.specs.declared.board.Board.{Board}
use Rattle.board.specs.declared.call.Call.{Call}
use Rattle.board.specs.declared.call.Call.TheVariants.{Sample, Finish, Cut}
use Rattle.board.specs.Engine.{sampled, finished, cut, numbered}
use Rattle.board.specs.Samples.{odd, levels}
use Rattle.board.specs.Wires.{Edge, steady, started, stopped, rose, fell, edge, Byte, Transfer, value, next, address, sending, giving, clean}

-- What the wires have shown and the part has said: the open transfer, if any, with the answer of the part to the byte
-- that it was offered last, and the byte that it gave last.
pub record History : Type 0 where
  pub ongoing : Option Transfer
  pub answer : Bool
  pub byte : ℕ

-- What a part may do to SDA at a moment: nothing, pull for an ACK, or pull for a 0 at bit n of a byte that it gives.
pub data Slot : Type 0 where
  free : Slot
  ack : Slot
  bit_at : (n : ℕ) → Slot

abbrev pub ack_after : List Byte → Slot
ack_after [] = free
ack_after (x ∷ bs) = cond (sending bs) ack free

-- The ACK of a byte sent lasts from the fall after its eighth rise to the fall after its ninth; a bit of a byte given lasts
-- from the fall before its rise to the fall after it.
abbrev pub slot : Bool → Transfer → Slot
slot false t = cond (nat_lt (length t.bits) 8) (cond (giving t.bytes) (bit_at (7 - length t.bits)) free) (cond (sending t.bytes) ack free)
slot true t = cond (length t.bits == 0) (ack_after t.bytes) (cond (giving t.bytes) (bit_at (8 - length t.bits)) free)

abbrev pub pulls_in : Slot → Bool → ℕ → Bool
pulls_in free answer byte = false
pulls_in ack answer byte = answer
pulls_in (bit_at n) answer byte = not (odd (byte / 2 ^ n))

abbrev pub pulls_by : Bool → Option Transfer → Bool → ℕ → Bool
pulls_by scl None answer byte = false
pulls_by scl (Some t) answer byte = pulls_in (slot scl t) answer byte

-- whether a part pulls SDA, by SCL and what was before
abbrev pub pulls : Bool → History → Bool
pulls scl h = pulls_by scl h.ongoing h.answer h.byte

-- A whole byte that is sent is offered to the part: as the address byte, the first after it, or a later one.
abbrev pub offered : Levels → List Byte → ℕ → Move
offered l [] x = addressing x
offered l (a ∷ []) x = aiming a.value l x
offered l (y ∷ (z ∷ bs)) x = taking (address (z ∷ bs)) l x

-- What an edge tells the part: START, STOP and whether it is clean, a byte sent at its eighth rise,
-- and, at the fall after an acknowledged ninth rise, to give the next byte.
abbrev pub told : Edge → Levels → Option Transfer → List Move
told steady l o = []
told started l o = starting ∷ []
told stopped l o = stopping (clean o) l ∷ []
told (rose bit) l None = []
told (rose bit) l (Some t) = cond ((length t.bits == 7) && sending t.bytes) (offered l t.bytes (value (bit ∷ t.bits)) ∷ []) []
told fell l None = []
told fell l (Some t) = cond ((length t.bits == 0) && giving t.bytes) (giving_byte (address t.bytes) ∷ []) []

-- a call is a power cut
abbrev pub IsCut : Call → Type 0
IsCut (Sample x) = ⊥
IsCut (Finish k) = ⊥
IsCut (Cut p) = Unit {0}

-- the calls of a list by their place; past its end stands any call
abbrev pub call_at : List Call → ℕ → Call
call_at calls n = slice_index_or calls n (Finish 0)

module _ {S : Type 0} (ops : Ops S) where
  -- the board after one call; a refused one leaves it as it was
  abbrev pub step : Board S → Call → Board S
  step b (Sample x) = sampled ops b x
  step b (Finish k) = finished ops b k
  step b (Cut p) = cut ops b p

  -- the edge of a call from b to c, and the moves that it makes the part go through: at each sample that is accepted the levels come first
  abbrev pub edge_of : Board S → Call → Board S → Edge
  edge_of b (Sample x) c = edge b.bus.scl c.bus.scl b.bus.sda c.bus.sda
  edge_of b (Finish k) c = steady
  edge_of b (Cut p) c = steady

  abbrev pub moves_of : Board S → Call → Board S → Option Transfer → List Move
  moves_of b (Sample x) c o = cond (nat_lt x 32) (levelling (levels x) ∷ told (edge_of b (Sample x) c) (levels x) o) []
  moves_of b (Finish k) c o = cond (numbered ops b k && ops.busy b.part k) (finishing k ∷ []) []
  moves_of b (Cut p) c o = cutting p ∷ []

  -- what the part answers to a byte that it is offered, and which byte it gives; else as before
  abbrev pub answer_of : S → Move → Bool → Bool
  answer_of s starting was = was
  answer_of s (addressing x) was = ops.hears s x
  answer_of s (aiming a l x) was = ops.aims s a l x
  answer_of s (taking a l x) was = ops.takes s a l x
  answer_of s (giving_byte a) was = was
  answer_of s (levelling l) was = was
  answer_of s (stopping clean l) was = was
  answer_of s (finishing k) was = was
  answer_of s (cutting p) was = was
  answer_of s renewing was = was

  abbrev pub byte_of : S → Move → ℕ → ℕ
  byte_of s starting was = was
  byte_of s (addressing x) was = was
  byte_of s (aiming a l x) was = was
  byte_of s (taking a l x) was = was
  byte_of s (giving_byte a) was = ops.given s a
  byte_of s (levelling l) was = was
  byte_of s (stopping clean l) was = was
  byte_of s (finishing k) was = was
  byte_of s (cutting p) was = was
  byte_of s renewing was = was

  abbrev pub answer_after : S → List Move → Bool → Bool
  answer_after s [] was = was
  answer_after s (m ∷ ms) was = answer_after (moved ops s m) ms (answer_of s m was)

  abbrev pub byte_after : S → List Move → ℕ → ℕ
  byte_after s [] was = was
  byte_after s (m ∷ ms) was = byte_after (moved ops s m) ms (byte_of s m was)

  -- the open transfer after a call; a power cut ends it
  abbrev pub open_after : Board S → Call → Board S → History → Option Transfer
  open_after b (Sample x) c h = next (edge_of b (Sample x) c) (pulls b.bus.scl h) h.ongoing
  open_after b (Finish k) c h = h.ongoing
  open_after b (Cut p) c h = None

  abbrev pub onward : Board S → Call → Board S → History → History
  onward b k c h = record {
    ongoing = open_after b k c h;
    answer = answer_after b.part (moves_of b k c h.ongoing) h.answer;
    byte = byte_after b.part (moves_of b k c h.ongoing) h.byte;
  }

  -- A run: the board b, and the calls that it is given.
  module _ (b : Board S) (calls : ℕ → Call) where
    -- the board after the first n calls
    abbrev pub state : ℕ → Board S
    state zero = b
    state (suc n) = step (state n) (calls n)

    -- what was before, if no transfer was open at first
    abbrev pub history : ℕ → History
    history zero = record { ongoing = None; answer = false; byte = 0 }
    history (suc n) = onward (state n) (calls n) (state (suc n)) (history n)

    -- between state n and the next: the edge, and the moves of the part
    abbrev pub edge_at : ℕ → Edge
    edge_at n = edge_of (state n) (calls n) (state (suc n))

    abbrev pub moves_at : ℕ → List Move
    moves_at n = moves_of (state n) (calls n) (state (suc n)) (history n).ongoing

  -- these calls lead from one board to another, one after another
  unfoldable pub Leads : Board S → List Call → Board S → Type 0
  Leads b calls c = c ≡ state b (call_at calls) (length calls)

  -- samples do, given by their bytes
  abbrev pub SampledBy : Board S → List ℕ → Board S → Type 0
  SampledBy b samples c = Leads b (map (λ x. Sample x) samples) c

  -- One run, whose calls are `whole`: the first n calls of a run from the board `made`, and then `more`, which lead on to the board c.
  -- Its states are those of the run, and then those on the way to c.
  pub record Joins (made : Board S) (calls : ℕ → Call) (n : ℕ) (more : List Call) (c : Board S) (whole : ℕ → Call) : Type 0 where
    pub first : (j : ℕ) → j < n → whole j ≡ calls j
    pub rest : (j : ℕ) → whole (n + j) ≡ call_at more j
    pub before : (j : ℕ) → j ≤ n → state made whole j ≡ state made calls j
    pub between : (j : ℕ) → state made whole (n + j) ≡ state (state made calls n) (call_at more) j
    pub there : c ≡ state made whole (n + length more)

  -- Whatever calls lead on from a state of a run, there is one run that begins as that one did and comes to where they lead:
  -- so what holds of any two states of a run holds from before a job to after it.
  unfoldable pub GoesOn : Board S → Type 0
  GoesOn made = (calls : ℕ → Call) (n : ℕ) (more : List Call) (c : Board S) → Leads (state made calls n) more c → (whole : ℕ → Call) × Joins made calls n more c whole
