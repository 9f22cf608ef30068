use Rattle.controller.proofs.Sends.{opens}
use Rattle.controller.proofs.transfer.open_with.Goals as goal

pub returns : goal.returns
returns g c =
    opens g.P.Part.ops c.args.levels.now c.args.sent c.args.byte c.args.board.now _ _ _ _ c.start.ensures c.send_one.ensures
