use Rattle.std.proofs.Common.{◌≡◌, ℕ, List, [], length, drop}
use Rattle.rows.specs.Rows.{Grown}
use Rattle.controller.specs.Master.{run}
use Rattle.controller.specs.Jobs.{giving}
use Rattle.controller.proofs.samples.give_all.Given as goal

abbrev pub invariant-loop-sample : goal.invariant-loop-sample
invariant-loop-sample g l =
    (got : List ℕ) × (length got ≡ l.sample-index) × Grown l.initial.row got l.row × (l.row.items.ghost_name ≡ l.initial.row.items.ghost_name)
    × (run g.P.Part.ops (giving (drop l.sample-index l.samples) got) l.board ≡ run g.P.Part.ops (giving l.samples []) l.initial.board)
