-- A row that grows: nothing yet, then one append after another, or one growth after another.
use Rattle.std.proofs.Common.{◌≡◌, ◌+◌, ◌-◌, ◌<◌, Bool, true, false, cond, List, [], ◌∷◌, ◌++◌, length, get_or, set, Some, sym, refl, ap, ◌∙◌, add-zero, arith, ltb-true}
use Rattle.std.specs.List.{slice_get}
use Rattle.std.proofs.lemmas.Bool.{ne_eqb}
use Rattle.std.proofs.lemmas.List.{length_push, length-append, length-take-le, get_or-take}
use Rattle.std.proofs.lemmas.Option.{slice_get-get_or}
use Rattle.refusals.specs.Told.{ok}
use Rattle.rows.specs.declared.row.Row.{Row}
use Rattle.rows.specs.Rows.{items_of, row_of, roomy, appends, holds_none, Grown}
use Rattle.rows.proofs.Filling.{filled_none, filled_more, filled-filled, length-filled, take-filled, filled_other, filled_last}

module _ {A : Type 0} where
  pub grown_none : (a : Row A) → Grown a [] a
  grown_none a = record { count = sym (add-zero _); fits = rw add-zero a.fits; items = sym (filled_none (items_of a) a.count) }

  pub length_grown : (a b : Row A) (xs : List A) → Grown a xs b → length (items_of b) ≡ length (items_of a)
  length_grown a b xs g = ap length g.items ∙ length-filled (items_of a) a.count xs g.fits

  -- the facts after the one of growth are what an append ensures where there is room
  pub grown_more : (a b c : Row A) (xs : List A) (x : A) → Grown a xs b → roomy b ≡ true → c.count ≡ cond (roomy b) (b.count + 1) b.count
      → items_of c ≡ cond (roomy b) (set (items_of b) b.count x) (items_of b) → Grown a (xs ++ (x ∷ [])) c
  grown_more a b c xs x g r n i =
      let l = length_grown a b xs g in
      let h : b.count < length (items_of b) = ltb-true _ _ r in
      let room : a.count + length xs < length (items_of a) = omega (arith, g.count) in
      let m : c.count ≡ b.count + 1 = rw r at n in
      let j : items_of c ≡ set (items_of b) b.count x = rw r at i in
      let p = length_push xs x in
      let f = filled_more (items_of a) a.count xs x room in
      record { count = omega (arith, p, g.count); fits = omega (arith, p); items = cc }

  pub grown_then : (a b c : Row A) (xs ys : List A) → Grown a xs b → Grown b ys c → Grown a (xs ++ ys) c
  grown_then a b c xs ys g k =
      let l = length_grown a b xs g in
      let p = length-append xs ys in
      let f = filled-filled (items_of a) a.count xs ys (omega (arith, g.fits)) in
      record { count = omega (arith, p, g.count, k.count); fits = omega (arith, p, g.count, k.fits); items = cc }

  -- the row is what it was, and then what it grew by
  pub row_grown : (a b : Row A) (xs : List A) → Grown a xs b → row_of b ≡ row_of a ++ xs
  row_grown a b xs g = let t = take-filled (items_of a) a.count xs (omega (arith, g.fits)) in cc

  -- the item that was appended last is the last of the row
  pub last_grown : (a b : Row A) (xs : List A) (x : A) → Grown a (xs ++ (x ∷ [])) b → slice_get (row_of b) (b.count - 1) ≡ Some x
  last_grown a b xs x g =
      let p = length_push xs x in
      let l = length_grown a b (xs ++ (x ∷ [])) g in
      let e : b.count - 1 ≡ a.count + length xs = omega (arith, p, g.count) in
      let long = length-take-le b.count (items_of b) (omega (arith, l, p, g.count, g.fits)) in
      let within : b.count - 1 < length (row_of b) = omega (arith, long, e, p, g.count) in
      slice_get-get_or (row_of b) (b.count - 1) x within
      ∙ ap Some (
      get_or-take b.count (items_of b) (b.count - 1) x (omega (arith, e, p, g.count))
      ∙ ap (λ i. get_or (items_of b) i x) e
      ∙ ap (λ ys. get_or ys (a.count + length xs) x) g.items
      ∙ filled_last (items_of a) a.count xs (omega (arith, g.fits)) x x
      )

  -- the facts after the one of growth are what putting another item in its place ensures
  pub grown_other : (a b c : Row A) (xs : List A) (x y : A) → Grown a (xs ++ (x ∷ [])) b → c.count ≡ b.count
      → items_of c ≡ cond (holds_none b) (items_of b) (set (items_of b) (b.count - 1) y) → Grown a (xs ++ (y ∷ [])) c
  grown_other a b c xs x y g n i =
      let p = length_push xs x in
      let q = length_push xs y in
      let e : b.count - 1 ≡ a.count + length xs = omega (arith, p, g.count) in
      let some : holds_none b ≡ false = ne_eqb b.count 0 (λ z. omega (arith, z, p, g.count)) in
      let j : items_of c ≡ set (items_of b) (b.count - 1) y = rw some at i in
      let f = filled_other (items_of a) a.count xs (omega (arith, g.fits)) x y in
      record {
        count = omega (arith, n, p, q, g.count);
        fits = omega (arith, p, q, g.fits);
        items = j ∙ ap (λ k. set (items_of b) k y) e ∙ ap (λ ys. set ys (a.count + length xs) y) g.items ∙ f;
      }

-- where an append was not refused there was room
pub took : (room : Bool) → ok tt ≡ appends room → room ≡ true
took true e = refl
took false e = cc
