use Rattle.controller.proofs.Recovering.{high_board, high_frees}
use Rattle.controller.proofs.recovery.free.Goals as goal

pub returns : goal.returns
returns g c =
    record {
      frees = high_frees g.P.Part.ops c.args.levels.now c.args.board.now c.loop-count.board _ c.loop-count.count _ c.loop-count-test.false c.loop-count.invariant c.clock.ensures;
      board = high_board g.P.Part.ops c.args.levels.now c.args.board.now c.loop-count.board _ c.loop-count.count _ c.loop-count-test.false c.loop-count.invariant c.clock.ensures;
    }
