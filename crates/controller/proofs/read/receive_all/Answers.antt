use Rattle.std.proofs.Common.{ℕ, ◌+◌, ◌<◌, List, [], ◌∷◌, ◌++◌, length, refl, ap, ◌∙◌, arith}
use native.Mathlib.Nat.{sub-zero}
use Rattle.std.proofs.lemmas.List.{length_push}
use Rattle.std.proofs.lemmas.Bool.{lt-ltb}
use Rattle.rows.specs.Rows.{items_of}
use Rattle.rows.proofs.Growing.{grown_none, grown_more, length_grown}
use Rattle.controller.specs.Master.{run}
use Rattle.controller.specs.Jobs.{receive_all}
use Rattle.controller.proofs.Receives.{received_more, received_all}
use Rattle.controller.proofs.read.receive_all.Goals as goal

pub loop-n-init : goal.loop-n-init
loop-n-init g c =
    ([], refl, grown_none c.args.row.now, refl, ap (λ n. run g.P.Part.ops (receive_all c.args.levels.now n []) c.args.board.now) (sub-zero c.args.count))

pub loop-n-preserved : goal.loop-n-preserved
loop-n-preserved g c =
    let got : List ℕ = c.loop-n.invariant.0 in
    let grown = c.loop-n.invariant.2 in
    let same = length_grown c.args.row.now c.loop-n.row got grown in
    let room : c.loop-n.row.count < length (items_of c.loop-n.row) = omega (arith, same, grown.count, c.loop-n.invariant.1, c.requires) in (
      got ++ (c.receive-byte.result.1 ∷ []),
      length_push got c.receive-byte.result.1 ∙ ap (λ n. n + 1) c.loop-n.invariant.1,
      grown_more c.args.row.now c.loop-n.row c.append.new.self got _ grown (lt-ltb _ _ room) c.append.ensures.count c.append.ensures.items,
      c.append.ensures.lender ∙ c.loop-n.invariant.3,
      received_more g.P.Part.ops c.args.levels.now c.loop-n.n c.args.count _ got c.loop-n.board _ c.loop-n-test.true c.receive-byte.ensures.run c.loop-n.invariant.4,
    )

pub returns : goal.returns
returns g c =
    record {
      run = (
        c.loop-n.invariant.0,
        omega (arith, c.loop-n.invariant.1, c.loop-n-test.false, c.loop-n.auto.n-end),
        c.loop-n.invariant.2,
        received_all g.P.Part.ops c.args.levels.now c.loop-n.n c.args.count c.loop-n.invariant.0 c.loop-n.board c.loop-n-test.false c.loop-n.invariant.4,
      );
      lender = c.loop-n.invariant.3;
    }
