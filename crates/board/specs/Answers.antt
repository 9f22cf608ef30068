-- What calls answer and what board they leave: one call, and a list of them, one after another.
use Rattle.std.specs.Prelude.{◌≡◌, ℕ, Bool, true, false, List, [], ◌∷◌, map, Some, None, Option, nat_le}
use Rattle.refusals.specs.Told.{Told, ok, refused, number, place, and_then}
use Rattle.rows.specs.declared.row.Row.{Row}
use Rattle.rows.specs.Rows.{room_of, Grown}
use Rattle.part.specs.Ops.{Ops}
use Rattle.board.specs.declared.answer.Answer.{Answer}
use Rattle.board.specs.declared.answer.Answer.TheVariants.{Level, Done, Refused}
use Rattle.board.specs.declared.board.Board.{Board}
use Rattle.board.specs.declared.call.Call.{Call}
use Rattle.board.specs.declared.call.Call.TheVariants.{Sample, Finish, Cut}
use Rattle.board.specs.Engine.{sample_told, finish_told}
use Rattle.board.specs.Runs.{step, Leads}

-- an answer by its number and its values: a level, nothing, or why the call was refused
abbrev pub shown : Answer → Told (Option Bool)
shown (Level high) = ok (Some high)
shown Done = ok None
shown (Refused r) = refused (number r) (place r)

-- the row has room for n items more
abbrev pub has_room : {A : Type 0} → Row A → ℕ → Bool
has_room row n = nat_le n (room_of row)

module _ {S : Type 0} (ops : Ops S) where
  -- what one call answers on the board b; a power cut is never refused
  abbrev pub call_told : Board S → Call → Told (Option Bool)
  call_told b (Sample x) = and_then (sample_told ops b x) (λ high. ok (Some high))
  call_told b (Finish k) = and_then (finish_told ops b k) (λ _. ok None)
  call_told b (Cut p) = ok None

  -- each call of a list on the board that the calls before it leave, and the board after all
  abbrev pub answers_of : Board S → List Call → List (Told (Option Bool))
  answers_of b [] = []
  answers_of b (k ∷ ks) = call_told b k ∷ answers_of (step ops b k) ks

  abbrev pub after_all : Board S → List Call → Board S
  after_all b [] = b
  after_all b (k ∷ ks) = after_all (step ops b k) ks

  -- the answers to the calls are appended to the row
  abbrev pub Appended : Board S → List Call → Row Answer → Row Answer → Type 0
  Appended b calls before after = (got : List Answer) × Grown before got after × (map shown got ≡ answers_of b calls)

  -- The board b and a row before and after the calls, and what is told of them, with whether the row has room for all answers:
  -- the board is that of the run of these calls, or board and row are as they were.
  abbrev pub Ran : Bool → List Call → Board S → Board S → Row Answer → Row Answer → Told (Unit {0}) → Type 0
  Ran true calls b c before after answer = Leads ops b calls c × Appended b calls before after × (answer ≡ ok tt)
  Ran false calls b c before after answer = (c ≡ b) × (after ≡ before) × (answer ≡ refused 9 0)
