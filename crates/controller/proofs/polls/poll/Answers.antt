use Rattle.std.proofs.Common.{[], sym, ap, ◌∙◌}
use Rattle.controller.specs.Master.{run}
use Rattle.controller.specs.Jobs.{writing, lowered}
use Rattle.controller.proofs.Sends.{wait_more, wait_ready, wait_over}
use Rattle.controller.proofs.polls.poll.Goals as goal

pub returns-then-is_ok : goal.returns-then-is_ok
returns-then-is_ok g c =
    let same = ap (λ l. run g.P.Part.ops (writing (lowered l) c.args.address []) c.loop-n.board) (sym c.loop-n.invariant.0) in
    record {
      run = wait_ready g.P.Part.ops (lowered c.args.lines.now) c.args.address c.loop-n._n c.args.polls c.loop-n.board _ _ c.loop-n-test.true
          (sym c.is_ok.ensures.value ∙ c.if-is_ok.true) (same ∙ c.write_low.ensures.run) c.loop-n.invariant.1;
      lines = c.write_low.ensures.lines ∙ c.loop-n.invariant.0;
    }

pub loop-n-preserved : goal.loop-n-preserved
loop-n-preserved g c =
    let same = ap (λ l. run g.P.Part.ops (writing (lowered l) c.args.address []) c.loop-n.board) (sym c.loop-n.invariant.0) in (
      c.write_low.ensures.lines ∙ c.loop-n.invariant.0,
      wait_more g.P.Part.ops (lowered c.args.lines.now) c.args.address c.loop-n._n c.args.polls c.loop-n.board _ _ c.loop-n-test.true
          (sym c.is_ok.ensures.value ∙ c.if-is_ok.false) (same ∙ c.write_low.ensures.run) c.loop-n.invariant.1,
    )

pub returns : goal.returns
returns g c =
    record {
      run = wait_over g.P.Part.ops (lowered c.args.lines.now) c.args.address c.loop-n._n c.args.polls c.loop-n.board c.loop-n-test.false c.loop-n.invariant.1;
      lines = c.loop-n.invariant.0;
    }
