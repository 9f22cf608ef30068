use Rattle.std.proofs.Common.{◌≡◌, ℕ, ◌+◌, ◌<◌, List, [], ◌∷◌, ◌++◌, length, refl, ap, ◌∙◌, arith}
use mir.Val.{bool_byte}
use Rattle.std.proofs.lemmas.List.{length_push}
use Rattle.std.proofs.lemmas.Bool.{lt-ltb}
use Rattle.rows.specs.Rows.{items_of}
use Rattle.rows.proofs.Growing.{grown_none, grown_more, length_grown}
use Rattle.controller.proofs.GivenSamples.{good_next, given_more, given_all}
use Rattle.controller.proofs.samples.give_all.Goals as goal

one_longer : (got : List ℕ) (v n : ℕ) → length got ≡ n → length (got ++ (v ∷ [])) ≡ n + 1
one_longer got v n e = length_push got v ∙ ap (λ n. n + 1) e

pub loop-sample-init : goal.loop-sample-init
loop-sample-init g c = ([], refl, grown_none c.args.row.now, refl, refl)

pub give-level-requires : goal.give-level-requires
give-level-requires g c = good_next c.args.samples.now c.loop-sample.sample-index c.loop-sample-test.true c.requires.0

pub loop-sample-preserved : goal.loop-sample-preserved
loop-sample-preserved g c =
    let got : List ℕ = c.loop-sample.invariant.0 in
    let grown = c.loop-sample.invariant.2 in
    let same = length_grown c.args.row.now c.loop-sample.row got grown in
    let room : c.loop-sample.row.count < length (items_of c.loop-sample.row) = omega (arith, same, grown.count, c.loop-sample.invariant.1, c.requires.1) in (
      got ++ (bool_byte c.give-level.result ∷ []),
      one_longer got (bool_byte c.give-level.result) _ c.loop-sample.invariant.1,
      grown_more c.args.row.now c.loop-sample.row c.append.new.self got _ grown (lt-ltb _ _ room) c.append.ensures.count (rw c.from.ensures at c.append.ensures.items),
      ◌∙◌ {a = c.append.new.self.items.ghost_name} c.append.ensures.lender c.loop-sample.invariant.3,
      given_more g.P.Part.ops c.args.samples.now c.loop-sample.sample-index got c.give-level.result c.loop-sample.board _ c.loop-sample-test.true c.give-level.ensures c.loop-sample.invariant.4,
    )

pub returns : goal.returns
returns g c =
    record {
      run = (
        c.loop-sample.invariant.0,
        omega (arith, c.loop-sample.invariant.1, c.loop-sample-test.false, c.loop-sample.auto.sample-index-end),
        c.loop-sample.invariant.2,
        given_all g.P.Part.ops c.args.samples.now c.loop-sample.sample-index c.loop-sample.invariant.0 c.loop-sample.board
            c.loop-sample-test.false c.loop-sample.invariant.4,
      );
      lender = c.loop-sample.invariant.3;
    }
