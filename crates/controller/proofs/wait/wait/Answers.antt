use Rattle.controller.specs.Jobs.{waiting, lowered}
use Rattle.controller.proofs.Sampling.{same_sampled}
use Rattle.controller.proofs.Working.{wait_works}
use Rattle.controller.proofs.wait.wait.Goals as goal

pub returns-then-is_ok-clause-sampled : goal.returns-then-is_ok-clause-sampled
returns-then-is_ok-clause-sampled g c =
    same_sampled g.P.Part.ops (waiting (lowered c.args.lines.now) c.address.result c.polls.result) _ c.args.board.now _ _
    (λ i. waiting (lowered c.args.lines.now) (c.address.ensures.value i) (c.polls.ensures.value i)) c.poll-answer.ensures.run

pub returns-else-is_ok-clause-sampled : goal.returns-else-is_ok-clause-sampled
returns-else-is_ok-clause-sampled g c =
    same_sampled g.P.Part.ops (waiting (lowered c.args.lines.now) c.address.result c.polls.result) _ c.args.board.now _ _
    (λ i. waiting (lowered c.args.lines.now) (c.address.ensures.value i) (c.polls.ensures.value i)) c.poll-answer.ensures.run

pub returns-then-is_ok-clause-work : goal.returns-then-is_ok-clause-work
returns-then-is_ok-clause-work g c =
    wait_works g.P.Part.ops g.met.P.Part.keeps (lowered c.args.lines.now) c.address.result c.args.job.now.address c.polls.result c.args.job.now.polls c.args.board.now _ _
    c.address.ensures.value c.polls.ensures.value c.poll-answer.ensures.run

pub returns-else-is_ok-clause-work : goal.returns-else-is_ok-clause-work
returns-else-is_ok-clause-work g c =
    wait_works g.P.Part.ops g.met.P.Part.keeps (lowered c.args.lines.now) c.address.result c.args.job.now.address c.polls.result c.args.job.now.polls c.args.board.now _ _
    c.address.ensures.value c.polls.ensures.value c.poll-answer.ensures.run
