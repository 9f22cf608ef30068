use Rattle.std.proofs.Common.{[], ap, ◌∙◌}
use Rattle.refusals.specs.Told.{told, refused, number, place}
use Rattle.controller.specs.Master.{run}
use Rattle.controller.specs.Jobs.{stop_refused}
use Rattle.controller.proofs.Sends.{closes}
use Rattle.controller.proofs.receiving.stop_refused.Goals as goal

pub returns-in-Err : goal.returns-in-Err
returns-in-Err g c =
    ap (λ r. run g.P.Part.ops (stop_refused c.args.levels.now (told (λ _. []) r)) c.args.board.now) c.in-Err.is
    ∙ closes g.P.Part.ops c.args.levels.now (refused (number c.in-Err.refusal) (place c.in-Err.refusal)) c.args.board.now _ c.stop.ensures.run
