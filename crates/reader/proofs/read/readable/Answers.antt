use Rattle.std.proofs.Common.{◌≡◌, ℕ, Bool, true, false, List, [], ◌∷◌, ◌++◌, ◌&&◌, ap, ◌∙◌, refl, subst, rules}
use Rattle.std.specs.Prelude.{nat_lt}
use Rattle.std.proofs.lemmas.Fn.{fold_over, slice_gives, fronts}
use Rattle.reader.specs.Read.{readable}
use Rattle.reader.proofs.read.readable.Goals as goal

-- with one sample more
more : (xs : List ℕ) (x : ℕ) → (readable xs && nat_lt x 32) ≡ readable (xs ++ (x ∷ []))
more [] x = by_last (nat_lt x 32)
  where
    by_last : (b : Bool) → b ≡ (b && true)
    by_last true = refl
    by_last false = refl
more (y ∷ xs) x = by_first (nat_lt y 32) (more xs x)
  where
    by_first : (b : Bool) → (readable xs && nat_lt x 32) ≡ readable (xs ++ (x ∷ [])) → ((b && readable xs) && nat_lt x 32) ≡ (b && readable (xs ++ (x ∷ [])))
    by_first true e = e
    by_first false e = refl

pub returns : goal.returns
returns c = subst (λ l. c.fold.result ≡ readable l) c.iter.ensures.rest
    (fold_over fronts (λ y. y.now) _ (λ ys b. b ≡ readable ys) _
    (λ ys a x b f' j k. (
      let is : b ≡ (a && nat_lt x.now 32) = search rules in
          is ∙ ap (λ so. so && nat_lt x.now 32) j ∙ more ys x.now,
      search rules,
    ))
    _ _ _ _ (slice_gives c.iter.result) refl c.fold.ensures.ran)
