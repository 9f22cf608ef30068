use Rattle.controller.proofs.Runs.{sent_more, sent_all, sent}
use Rattle.controller.proofs.wires.send.Goals as goal

pub loop-n-preserved : goal.loop-n-preserved
loop-n-preserved g c =
    sent_more g.P.Part.ops c.args.levels.now c.args.byte c.loop-n.n c.loop-n.board _ _ c.loop-n-test.true c.send_bit.ensures c.loop-n.invariant

pub returns : goal.returns
returns g c =
    sent g.P.Part.ops c.args.levels.now c.args.byte c.args.board.now c.loop-n.board _ _
    (sent_all g.P.Part.ops c.args.levels.now c.args.byte c.loop-n.n c.loop-n.board c.loop-n-test.false c.loop-n.invariant) c.read_bit.ensures
