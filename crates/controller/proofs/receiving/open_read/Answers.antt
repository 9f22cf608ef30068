use Rattle.std.proofs.Common.{◌≡◌, ◌+◌, [], length, sym, ap, ◌∙◌, subst}
use Rattle.std.proofs.lemmas.Bool.{eqb-true, eqb-false}
use Rattle.refusals.specs.Told.{told}
use Rattle.controller.specs.Master.{run}
use Rattle.controller.specs.Jobs.{open_with, read_byte}
use Rattle.controller.specs.Transfers.{Sent}
use Rattle.controller.proofs.Sends.{reads_directly, reads_aimed, aim_refused}
use Rattle.controller.proofs.receiving.open_read.Goals as goal

pub returns-then-is_empty-clause-run : goal.returns-then-is_empty-clause-run
returns-then-is_empty-clause-run g c =
    let first = ap (λ n. run g.P.Part.ops (open_with c.args.levels.now n (read_byte c.args.address)) c.args.board.now) (sym c.new.ensures) in
    reads_directly g.P.Part.ops c.args.levels.now c.args.address c.args.aim.now c.args.board.now _ _ (eqb-true _ 0 (sym c.is_empty.ensures ∙ c.if-is_empty.true))
    (first ∙ c.read-result.ensures.run) c.stop_refused.ensures

pub returns-in-Ok-clause-run : goal.returns-in-Ok-clause-run
returns-in-Ok-clause-run g c =
    let count : c.open_write-sent.result.0.sent ≡ 1 + length c.args.aim.now = subst (Sent (1 + length c.args.aim.now) c.open_write-sent.result.0.sent) c.in-Ok.is c.open_write-sent.ensures.count in
    let next = ap (λ n. run g.P.Part.ops (open_with c.args.levels.now n (read_byte c.args.address)) c.open_write-sent.new.board) (sym count) in
    reads_aimed g.P.Part.ops c.args.levels.now c.args.address c.args.aim.now c.args.board.now _ _ _ (eqb-false _ 0 (sym c.is_empty.ensures ∙ c.if-is_empty.false))
    (c.open_write-sent.ensures.run ∙ ap (λ r. (c.open_write-sent.new.board, told (λ _. []) r)) c.in-Ok.is)
    (next ∙ c.read-result-in-Ok.ensures.run) c.stop_refused-in-Ok.ensures

pub returns-in-Err-clause-run : goal.returns-in-Err-clause-run
returns-in-Err-clause-run g c =
    aim_refused g.P.Part.ops c.args.levels.now c.args.address _ _ c.args.aim.now c.args.board.now _ _ (eqb-false _ 0 (sym c.is_empty.ensures ∙ c.if-is_empty.false))
    (c.open_write-sent.ensures.run ∙ ap (λ r. (c.open_write-sent.new.board, told (λ _. []) r)) c.in-Err.is) c.stop.ensures.run
