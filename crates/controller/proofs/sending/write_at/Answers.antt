use Rattle.controller.proofs.Sends.{writes}
use Rattle.controller.proofs.sending.write_at.Goals as goal

pub returns : goal.returns
returns g c =
    writes g.P.Part.ops c.args.levels.now c.args.address c.args.bytes.now c.args.board.now _ _ _ c.open_write-result.ensures.run c.stop.ensures.run
