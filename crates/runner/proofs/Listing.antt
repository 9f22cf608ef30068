-- What one job adds to the rows of a file.
use Rattle.std.proofs.Common.{◌≡◌, ℕ, ◌+◌, ◌-◌, ◌<◌, ◌≤◌, cond, List, [], ◌∷◌, length, set, sym, ap, ◌∙◌, subst, arith}
use Rattle.std.proofs.lemmas.Bool.{lt-ltb}
use Rattle.refusals.specs.Told.{Told, ok, refused}
use Rattle.rows.specs.declared.row.Row.{Row}
use Rattle.rows.specs.Rows.{Grown, items_of, roomy}
use Rattle.rows.proofs.Growing.{grown_none, grown_more}
use Rattle.controller.specs.Answers.{Answered, plain}
use Rattle.runner.specs.Results.{done, seen_at, seen_between}
use Rattle.runner.specs.Runs.{bytes_of}

-- the bytes answered stand between the counts before and after
pub seen_same : (before after : Row ℕ) (t : Told (List ℕ)) (u : Told (Unit {0})) → Answered before t after → u ≡ plain t → seen_between before.count after.count u ≡ seen_at before.count t
seen_same before after (ok xs) u h e =
    let n : after.count - before.count ≡ length xs = omega (arith, h.count) in
    ap (seen_between before.count after.count) e ∙ ap (done before.count) n
seen_same before after (refused r p) u h e = ap (seen_between before.count after.count) e

pub grown_bytes : (before after : Row ℕ) (t : Told (List ℕ)) → Answered before t after → Grown before (bytes_of t) after
grown_bytes before after (ok xs) h = h
grown_bytes before after (refused r p) h = subst (Grown before []) (sym h) (grown_none before)

pub count_grows : (before after : Row ℕ) (t : Told (List ℕ)) → Answered before t after → before.count ≤ after.count
count_grows before after (ok xs) h = omega (arith, h.count)
count_grows before after (refused r p) h = let e : after.count ≡ before.count = ap (λ r. r.count) h in omega arith

-- an append where there is room
pub one_more : {A : Type 0} (a c : Row A) (x : A) → a.count < length (items_of a) → c.count ≡ cond (roomy a) (a.count + 1) a.count
    → items_of c ≡ cond (roomy a) (set (items_of a) a.count x) (items_of a) → Grown a (x ∷ []) c
one_more a c x h n i = grown_more a a c [] x (grown_none a) (lt-ltb _ _ h) n i
