use Rattle.std.proofs.Common.{refl}
use Rattle.controller.proofs.Runs.{answered, taken_sample}
use Rattle.controller.proofs.samples.give.Goals as goal

pub unwrap-requires : goal.unwrap-requires
unwrap-requires g c = rw (taken_sample g.P.Part.ops c.args.board.now c.args.sample c.sample.result c.requires c.sample.ensures.answer) refl

pub returns : goal.returns
returns g c =
    answered g.P.Part.ops c.args.board.now _ c.args.sample _ _ c.requires c.sample.ensures.after c.sample.ensures.answer c.unwrap.ensures
