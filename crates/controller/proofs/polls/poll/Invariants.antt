use Rattle.std.proofs.Common.{◌≡◌, ◌-◌}
use Rattle.controller.specs.Master.{run}
use Rattle.controller.specs.Jobs.{waiting, lowered}
use Rattle.controller.proofs.polls.poll.Given as goal

abbrev pub invariant-loop-n : goal.invariant-loop-n
invariant-loop-n g l =
    (l.lines ≡ l.initial.lines)
    × (run g.P.Part.ops (waiting (lowered l.initial.lines) l.address (l.polls - l._n)) l.board ≡ run g.P.Part.ops (waiting (lowered l.initial.lines) l.address l.polls) l.initial.board)
