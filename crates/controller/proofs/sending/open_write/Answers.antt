use Rattle.std.proofs.Common.{◌≡◌, ◌+◌, length, sym, ap, ◌∙◌, subst, arith}
use Rattle.controller.specs.Master.{run}
use Rattle.controller.specs.Jobs.{send_all, open_with, write_byte}
use Rattle.controller.specs.Transfers.{Sent}
use Rattle.controller.proofs.Sends.{sends, sends_refused, uncounted}
use Rattle.controller.proofs.sending.open_write.Goals as goal

pub returns-then-is_err : goal.returns-then-is_err
returns-then-is_err g c =
    let first = ap (λ n. run g.P.Part.ops (open_with c.args.levels.now n (write_byte c.args.address)) c.args.board.now) (sym c.new.ensures) in
    let err = sym c.is_err.ensures.value ∙ c.if-is_err.true in
    record { run = sends_refused g.P.Part.ops c.args.levels.now c.args.address c.args.bytes.now c.args.board.now _ _ err (first ∙ c.write-result.ensures.run); count = uncounted _ _ _ err }

pub returns : goal.returns
returns g c =
    let one : c.write-result.result.0.sent ≡ 1 = omega (arith, c.write-result.ensures.count, c.new.ensures) in
    let first = ap (λ n. run g.P.Part.ops (open_with c.args.levels.now n (write_byte c.args.address)) c.args.board.now) (sym c.new.ensures) in
    record {
      run = sends g.P.Part.ops c.args.levels.now c.args.address c.args.bytes.now c.args.board.now _ _ _ _ (sym c.is_err.ensures.value ∙ c.if-is_err.false)
          (first ∙ c.write-result.ensures.run) (ap (λ n. run g.P.Part.ops (send_all c.args.levels.now n c.args.bytes.now) c.write-result.new.board) (sym one)
          ∙ c.send_all.ensures.run);
      count = subst (λ n. Sent (n + length c.args.bytes.now) c.send_all.result.0.sent c.send_all.result.1) one c.send_all.ensures.count;
    }
