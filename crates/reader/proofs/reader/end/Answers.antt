use Rattle.std.proofs.Common.{sym}
use Rattle.reader.specs.Reading.{ended}
use Rattle.reader.proofs.Changing.{changed, grown_some}
use Rattle.reader.proofs.reader.end.Goals as goal

pub returns-in-Some-clause-changes : goal.returns-in-Some-clause-changes
returns-in-Some-clause-changes c =
    changed (ended c.args.n c.args.clean) c.args.row.now c.replace_last.new.self c.in-Some.field-0.now c.in-Some.ensures c.replace_last.ensures.count
    (rw c.ended.ensures at c.replace_last.ensures.items)

pub returns-in_default-clause-changes : goal.returns-in_default-clause-changes
returns-in_default-clause-changes c start r rows grown = absurd (grown_some start c.args.row.now r rows grown (sym (rw c.in_default.is at c.last.ensures)))
