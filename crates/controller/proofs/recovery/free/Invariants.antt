use Rattle.board.proofs.Clocks.{bound}
use Rattle.controller.proofs.Recovering.{SoFar}
use Rattle.controller.proofs.recovery.free.Given as goal

abbrev pub invariant-loop-count : goal.invariant-loop-count
invariant-loop-count g l = SoFar g.P.Part.ops l.levels l.initial.board l.board l.count

-- each clock that reads LOW leaves fewer rises that may
abbrev pub decreases-loop-count : goal.decreases-loop-count
decreases-loop-count g l = bound l.board
