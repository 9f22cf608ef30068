use Rattle.controller.specs.Jobs.{writing, lowered}
use Rattle.controller.proofs.Sampling.{same_sampled}
use Rattle.controller.proofs.write.write.Goals as goal

pub returns-in_err-write_low-clause-sampled : goal.returns-in_err-write_low-clause-sampled
returns-in_err-write_low-clause-sampled g c =
    same_sampled g.P.Part.ops (writing (lowered c.args.lines.now) c.address.result c.bytes.result.now) _ c.args.board.now _ _
    (λ i. writing (lowered c.args.lines.now) (c.address.ensures.value i) (c.bytes.ensures.value i)) c.write_low.ensures.run

pub returns-clause-sampled : goal.returns-clause-sampled
returns-clause-sampled g c =
    same_sampled g.P.Part.ops (writing (lowered c.args.lines.now) c.address.result c.bytes.result.now) _ c.args.board.now _ _
    (λ i. writing (lowered c.args.lines.now) (c.address.ensures.value i) (c.bytes.ensures.value i)) c.write_low.ensures.run
