use Rattle.std.proofs.Common.{◌≡◌, List, ◌++◌, length, map, drop}
use Rattle.rows.specs.Rows.{Grown}
use Rattle.board.specs.declared.answer.Answer.{Answer}
use Rattle.board.specs.Answers.{shown, answers_of, after_all}
use Rattle.board.proofs.board.Board.give_all.Given as goal

-- what is answered so far, with what the calls left will answer, is the whole
abbrev pub invariant-loop-call : goal.invariant-loop-call
invariant-loop-call g l =
    (got : List Answer) × (length got ≡ l.call-index) × Grown l.initial.answers got l.answers × (l.answers.items.ghost_name ≡ l.initial.answers.items.ghost_name)
    × (map shown got ++ answers_of g.P.Part.ops l.self (drop l.call-index l.calls) ≡ answers_of g.P.Part.ops l.initial.self l.calls)
    × (after_all g.P.Part.ops l.self (drop l.call-index l.calls) ≡ after_all g.P.Part.ops l.initial.self l.calls)
