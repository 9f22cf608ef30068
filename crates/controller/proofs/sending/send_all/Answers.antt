use Rattle.std.proofs.Common.{◌≡◌, ◌+◌, sym, ◌∙◌, arith}
use Rattle.controller.proofs.Sends.{all_more, all_refused, all_sent, uncounted}
use Rattle.controller.proofs.sending.send_all.Goals as goal

pub returns-then-is_err : goal.returns-then-is_err
returns-then-is_err g c =
    let err = sym c.is_err.ensures.value ∙ c.if-is_err.true in
    record {
      run = all_refused g.P.Part.ops c.args.levels.now c.loop-byte.writing.sent c.loop-byte.byte-index c.args.bytes.now c.loop-byte.board _ _
          c.loop-byte-test.true err c.send-result.ensures.run c.loop-byte.invariant.1;
      count = uncounted _ _ _ err;
    }

pub loop-byte-preserved : goal.loop-byte-preserved
loop-byte-preserved g c =
    let next : c.send-result.result.0.sent ≡ c.loop-byte.writing.sent + 1 = omega (arith, c.send-result.ensures.count, c.loop-byte.invariant.0, c.requires) in
    let acked = sym c.is_err.ensures.value ∙ c.if-is_err.false in (
      omega (arith, next, c.loop-byte.invariant.0),
      all_more g.P.Part.ops c.args.levels.now c.loop-byte.writing.sent _ c.loop-byte.byte-index c.args.bytes.now c.loop-byte.board _ _ next c.loop-byte-test.true acked
          c.send-result.ensures.run c.loop-byte.invariant.1,
    )

pub returns : goal.returns
returns g c =
    record {
      run = all_sent g.P.Part.ops c.args.levels.now c.loop-byte.writing.sent c.loop-byte.byte-index c.args.bytes.now c.loop-byte.board c.loop-byte-test.false
          c.loop-byte.invariant.1;
      count = omega (arith, c.loop-byte.invariant.0);
    }
