use Rattle.controller.proofs.Runs.{read_step, read_all, received}
use Rattle.controller.proofs.wires.receive.Goals as goal

pub loop-n-preserved : goal.loop-n-preserved
loop-n-preserved g c =
    rw c.from.ensures (read_step g.P.Part.ops c.args.levels.now c.loop-n.byte c.loop-n._n c.loop-n.board _ _ c.loop-n-test.true c.loop-n.invariant.0 c.read_bit.ensures c.loop-n.invariant.1)

pub returns : goal.returns
returns g c =
    received g.P.Part.ops c.args.levels.now c.args.more c.args.board.now c.loop-n.board _ c.loop-n.byte _
    (read_all g.P.Part.ops c.args.levels.now c.loop-n.byte c.loop-n._n c.loop-n.board c.loop-n-test.false c.loop-n.invariant.1) c.send_bit.ensures
