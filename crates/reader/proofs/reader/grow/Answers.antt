use Rattle.reader.proofs.Changing.{quiet, stands_begun, stands_stopped}
use Rattle.reader.proofs.reader.grow.Goals as goal

pub returns-in-Start-clause-row : goal.returns-in-Start-clause-row
returns-in-Start-clause-row c =
    rw c.in-Start.is (stands_begun c.args.n c.args.before c.args.after c.args.row.now c.reach.new.row c.begin.new.row
    (rw c.in-Start.is at c.requires.after) c.reach.ensures.reaches c.begin.ensures.begins)

pub returns-in-Stop-clause-row : goal.returns-in-Stop-clause-row
returns-in-Stop-clause-row c =
    rw c.in-Stop.is (stands_stopped c.args.n c.args.before c.args.after c.args.row.now c.stop.new.row (rw c.in-Stop.is at c.requires.after) c.stop.ensures.stops)

pub returns-in-Rise-clause-row : goal.returns-in-Rise-clause-row
returns-in-Rise-clause-row c = rw c.in-Rise.is c.go_on.ensures.goes_on

pub returns-in-Steady-clause-row : goal.returns-in-Steady-clause-row
returns-in-Steady-clause-row c = quiet c.args.n c.args.before c.args.after c.args.row.now c.args.edge c.requires.after c.in-Steady.is
