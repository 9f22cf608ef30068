-- A list that is filled: nothing at first, then one item after another.
use Rattle.std.proofs.Common.{◌≡◌, ℕ, ◌+◌, ◌<◌, ◌≤◌, List, [], ◌∷◌, ◌++◌, length, get_or, take, drop, set, sym, refl, ap, ◌∙◌, append_assoc, add-zero, arith, length-append}
use lib.Seq.{paste}
use Rattle.std.proofs.lemmas.List.{take-append-drop, length-take-le, take_at, length_push, set_at, get_or_at}
use Rattle.std.proofs.lemmas.List.Edits.{paste_all, paste-paste, length-paste, sets-eq}
use Rattle.rows.specs.Filled.{filled}

module _ {A : Type 0} (items : List A) (n : ℕ) where
  pub filled_none : filled items n [] ≡ items
  filled_none = rw add-zero (take-append-drop n items)

  -- in the library's words
  as_paste : (xs : List A) → filled items n xs ≡ paste items n xs (length xs)
  as_paste xs = sym (paste_all items n xs (length xs) refl)

  pub length-filled : (xs : List A) → n + length xs ≤ length items → length (filled items n xs) ≡ length items
  length-filled xs h = ap length (as_paste xs) ∙ length-paste items n xs (length xs) h (omega arith)

module _ {A : Type 0} (items : List A) (n : ℕ) (xs : List A) where
  -- many more items
  pub filled-filled : (ys : List A) → n ≤ length items → filled (filled items n xs) (n + length xs) ys ≡ filled items n (xs ++ ys)
  filled-filled ys h =
      as_paste (filled items n xs) (n + length xs) ys
      ∙ ap (λ zs. paste zs (n + length xs) ys (length ys)) (as_paste items n xs)
      ∙ paste-paste items n xs ys (length xs) (length ys) refl refl h
      ∙ ap (paste items n (xs ++ ys)) (sym (length-append xs ys))
      ∙ sym (as_paste items n (xs ++ ys))

  -- one more item
  pub filled_more : (x : A) → n + length xs < length items → set (filled items n xs) (n + length xs) x ≡ filled items n (xs ++ (x ∷ []))
  filled_more x h =
      let same = length-filled items n xs (omega arith) in
      let one : set (filled items n xs) (n + length xs) x ≡ filled (filled items n xs) (n + length xs) (x ∷ []) =
      sets-eq (x ∷ []) (filled items n xs) (n + length xs) (omega arith) ∙ append_assoc (take (n + length xs) (filled items n xs)) (x ∷ []) _ in
      one ∙ filled-filled (x ∷ []) (omega arith)

-- the items written in their places: what stands before the rest, and the last of them
module _ {A : Type 0} (items : List A) (n : ℕ) (xs : List A) (h : n ≤ length items) where
  front : List A
  front = take n items ++ xs

  split : (x : A) → filled items n (xs ++ (x ∷ [])) ≡ front ++ (x ∷ drop (n + (length xs + 1)) items)
  unfolding front
  split x =
      ap (λ m. take n items ++ ((xs ++ (x ∷ [])) ++ drop (n + m) items)) (length_push xs x)
      ∙ ap (λ ys. take n items ++ ys) (append_assoc xs (x ∷ []) (drop (n + (length xs + 1)) items))
      ∙ sym (append_assoc (take n items) xs (x ∷ drop (n + (length xs + 1)) items))

  place : length front ≡ n + length xs
  unfolding front
  place = length-append (take n items) xs ∙ ap (λ m. m + length xs) (length-take-le n items h)

  -- what stands below the last item filled in
  pub take-filled : take (n + length xs) (filled items n xs) ≡ take n items ++ xs
  unfolding front
  take-filled = let t = take_at front (drop (n + length xs) items) (n + length xs) place in rw append_assoc at t

  pub filled_other : (x y : A) → set (filled items n (xs ++ (x ∷ []))) (n + length xs) y ≡ filled items n (xs ++ (y ∷ []))
  filled_other x y =
      ap (λ ys. set ys (n + length xs) y) (split x)
      ∙ set_at front x (drop (n + (length xs + 1)) items) y (n + length xs) place
      ∙ sym (split y)

  pub filled_last : (x d : A) → get_or (filled items n (xs ++ (x ∷ []))) (n + length xs) d ≡ x
  filled_last x d = ap (λ ys. get_or ys (n + length xs) d) (split x) ∙ get_or_at front x (drop (n + (length xs + 1)) items) d (n + length xs) place
