use Rattle.std.proofs.Common.{[], sym, ap, ◌∙◌, arith}
use Rattle.rows.specs.Rows.{room_of}
use Rattle.controller.specs.Jobs.{giving, sampling}
use Rattle.controller.proofs.Sampling.{all_given, same_sampled}
use Rattle.controller.proofs.samples.samples.Goals as goal

pub returns-clause-sampled : goal.returns-clause-sampled
returns-clause-sampled g c =
    let given = all_given c.bytes-samples.result.now (room_of c.args.row.now) (sym c.all_samples.ensures ∙ c.if-not-all_samples.false) (omega (arith, c.if-room-samples.false, c.room.ensures)) in
    same_sampled g.P.Part.ops (giving c.bytes-samples.result.now []) _ c.args.board.now _ _
    (given ∙ ap (λ xs. sampling xs (room_of c.args.row.now)) c.bytes-samples.ensures.value) c.give_all.ensures.run.3
