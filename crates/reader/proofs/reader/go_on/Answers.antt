use Rattle.std.proofs.Common.{sym, ◌∙◌}
use Rattle.reader.proofs.Changing.{gone_on, unshown}
use Rattle.reader.proofs.reader.go_on.Goals as goal

pub returns-then-rise_shows-clause-goes_on : goal.returns-then-rise_shows-clause-goes_on
returns-then-rise_shows-clause-goes_on c =
    gone_on c.args.n c.args.before c.args.after _ c.in-Some-Some.kept c.args.row.now c.prolong.new.row c.in-Some-Some.is-0 c.in-Some-Some.is-1
    c.prolong.ensures.changes

pub returns-else-rise_shows-clause-goes_on : goal.returns-else-rise_shows-clause-goes_on
returns-else-rise_shows-clause-goes_on c =
    unshown c.args.n c.args.before c.args.after _ c.in-Some-Some.kept c.args.row.now c.requires.0 c.requires.1 c.in-Some-Some.is-0 c.in-Some-Some.is-1
    (sym c.rise_shows.ensures ∙ c.if-rise_shows.false)
