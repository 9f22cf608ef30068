use Rattle.std.proofs.Common.{◌≡◌, ℕ, ◌-◌, List, [], length}
use Rattle.rows.specs.Rows.{Grown}
use Rattle.controller.specs.Master.{run}
use Rattle.controller.specs.Jobs.{receive_all}
use Rattle.controller.proofs.read.receive_all.Given as goal

abbrev pub invariant-loop-n : goal.invariant-loop-n
invariant-loop-n g l =
    (got : List ℕ) × (length got ≡ l.n) × Grown l.initial.row got l.row × (l.row.items.ghost_name ≡ l.initial.row.items.ghost_name)
    × (run g.P.Part.ops (receive_all l.levels (l.count - l.n) got) l.board ≡ run g.P.Part.ops (receive_all l.levels l.count []) l.initial.board)
