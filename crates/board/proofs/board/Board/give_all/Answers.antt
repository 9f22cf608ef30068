use Rattle.std.proofs.Common.{◌+◌, ◌<◌, List, [], ◌∷◌, ◌++◌, length, refl, ap, ◌∙◌, arith}
use Rattle.std.proofs.lemmas.List.{length_push}
use Rattle.std.proofs.lemmas.Bool.{lt-ltb}
use Rattle.rows.specs.Rows.{items_of}
use Rattle.rows.proofs.Growing.{grown_none, grown_more, length_grown}
use Rattle.board.specs.declared.answer.Answer.{Answer}
use Rattle.board.proofs.Calls.{answers_more, answers_all, board_more, board_all}
use Rattle.board.proofs.board.Board.give_all.Goals as goal

pub loop-call-init : goal.loop-call-init
loop-call-init g c = ([], refl, grown_none c.args.answers.now, refl, refl, refl)

pub loop-call-preserved : goal.loop-call-preserved
loop-call-preserved g c =
    let got : List Answer = c.loop-call.invariant.0 in
    let grown = c.loop-call.invariant.2 in
    let same = length_grown c.args.answers.now c.loop-call.answers got grown in
    let room : c.loop-call.answers.count < length (items_of c.loop-call.answers) = omega (arith, same, grown.count, c.loop-call.invariant.1, c.loop-call-test.true, c.requires) in (
      got ++ (c.call-answer.result ∷ []),
      length_push got c.call-answer.result ∙ ap (λ n. n + 1) c.loop-call.invariant.1,
      grown_more c.args.answers.now c.loop-call.answers c.append.new.self got _ grown (lt-ltb _ _ room) c.append.ensures.count c.append.ensures.items,
      c.append.ensures.lender ∙ c.loop-call.invariant.3,
      answers_more g.P.Part.ops c.args.calls.now c.loop-call.call-index _ got c.call-answer.result c.loop-call.self _ c.loop-call-test.true c.call-answer.ensures.after
          c.call-answer.ensures.answer c.loop-call.invariant.4,
      board_more g.P.Part.ops c.args.calls.now c.loop-call.call-index _ c.loop-call.self _ c.loop-call-test.true c.call-answer.ensures.after c.loop-call.invariant.5,
    )

pub returns : goal.returns
returns g c =
    record {
      after = board_all g.P.Part.ops c.args.calls.now c.loop-call.call-index c.loop-call.self c.loop-call-test.false c.loop-call.invariant.5;
      answers = (
        c.loop-call.invariant.0,
        c.loop-call.invariant.2,
        answers_all g.P.Part.ops c.args.calls.now c.loop-call.call-index c.loop-call.invariant.0 c.loop-call.self c.loop-call-test.false c.loop-call.invariant.4,
      );
      lender = c.loop-call.invariant.3;
    }
