use Rattle.std.proofs.Common.{subst}
use Rattle.reader.specs.Steps.{Changes}
use Rattle.reader.specs.Reading.{ended}
use Rattle.reader.proofs.Changing.{stopped_by}
use Rattle.reader.proofs.reader.stop.Goals as goal

pub returns-in-Some-clause-stops : goal.returns-in-Some-clause-stops
returns-in-Some-clause-stops c =
    stopped_by c.args.n c.args.before c.in-Some.kept c.args.row.now c.end.new.row c.in-Some.is
    (subst (λ q. Changes (ended c.args.n q) c.args.row.now c.end.new.row) c.is_clean.ensures c.end.ensures.changes)
