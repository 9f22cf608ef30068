use Rattle.std.proofs.Common.{ap}
use Rattle.controller.specs.Jobs.{acked}
use Rattle.controller.proofs.Sends.{one_sent}
use Rattle.controller.proofs.transfer.send_one.Goals as goal

pub returns-then-send : goal.returns-then-send
returns-then-send g c =
    one_sent g.P.Part.ops c.args.levels.now c.args.sent c.args.byte c.args.board.now _ _ c.send.ensures (ap (acked c.args.sent) c.if-send.true)

pub returns-else-send : goal.returns-else-send
returns-else-send g c =
    one_sent g.P.Part.ops c.args.levels.now c.args.sent c.args.byte c.args.board.now _ _ c.send.ensures (ap (acked c.args.sent) c.if-send.false)
