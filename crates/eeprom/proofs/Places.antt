-- What stands at a place of a table, and lists as tables. Assumes nothing.
use Rattle.std.proofs.Common.{◌≡◌, ℕ, zero, suc, ◌<◌, Bool, true, false, cond, eqb, ltb, List, length, get_or, set, replicate, sym, refl, ◌∙◌, subst, ◌+◌, ◌≤◌, ⊎_elim, arith}
use Rattle.std.specs.Array.{IsFromFnResult, IsFromFnResultFrom}
use Rattle.std.specs.Fn.{Called}
use denote.Param.Members.{Mut}
use Rattle.std.proofs.lemmas.List.FromFn.{get_or-map-range_with_len, length-map-range_with_len, fill_by_all}
use Rattle.std.proofs.lemmas.List.{length-set, length-replicate, get_or-set_same, get_or-set_other, get_or-replicate, get_or_past}
use Rattle.std.proofs.lemmas.Bool.{ltb-true, ltb-false, lt-ltb, eq-eqb, ne_eqb, cases_eq}
use Rattle.eeprom.specs.Cells.{place, table, all_of}

module _ {A : Type 0} where
  pub length_table : (f : ℕ → A) (n : ℕ) → length (table n f) ≡ n
  unfolding table
  length_table f n = length-map-range_with_len f 0 n

  pub table_at : (f : ℕ → A) (d : A) (n i : ℕ) → i < n → get_or (table n f) i d ≡ f i
  unfolding table
  table_at f d n i h = get_or-map-range_with_len f 0 n i i d h (omega arith)

  -- a list whose place k is f k
  as_table : (f : ℕ → A) (d : A) (xs : List A) (n : ℕ) → length xs ≡ n → ((k : ℕ) → k < n → get_or xs k d ≡ f k) → xs ≡ table n f
  unfolding table
  as_table f d xs n long h = fill_by_all f xs n d long h

  -- an array made by a function, which gives v i at i and stays as it was
  made_from : {F : Type 0} (g : Mut F (ℕ × Unit {0}) A) (f : F) (v : ℕ → A) → ((i : ℕ) (y : A) (q : F) → Called g f (i, tt) y q → (q ≡ f) × (y ≡ v i))
      → (ys : List A) (n i k : ℕ) (d : A) → IsFromFnResultFrom g f ys i n → i ≤ k → k < i + n → get_or ys k d ≡ v k
  made_from g f v calls ys zero i k d r low high = absurd (omega arith)
  made_from g f v calls ys (suc n) i k d r low high =
      let call = calls i r.1 r.0 r.3 in
      ⊎_elim
      (λ e. rw e (r.2.1 d ∙ call.1))
      (λ e. made_from g f v calls ys n (i + 1) k d (subst (λ q. IsFromFnResultFrom g q ys (i + 1) n) call.0 r.4) (omega arith) (omega arith))
      (cases_eq k i)

  pub made_table : {F : Type 0} (g : Mut F (ℕ × Unit {0}) A) (f : F) (v : ℕ → A) (d : A) (ys : List A) (n : ℕ) → IsFromFnResult g f ys n
      → ((i : ℕ) (y : A) (q : F) → Called g f (i, tt) y q → (q ≡ f) × (y ≡ v i)) → ys ≡ table n v
  made_table g f v d ys n r calls = as_table v d ys n r.long (λ k h. made_from g f v calls ys n 0 k d r.each (omega arith) (omega arith))

  pub table_of : (d : A) (xs : List A) (n : ℕ) → length xs ≡ n → xs ≡ table n (place n d xs)
  table_of d xs n long = as_table (place n d xs) d xs n long (λ k h. rw (lt-ltb k n h))

  -- one place set
  changed : (d v : A) (xs : List A) (n m k : ℕ) → n < m → length xs ≡ m → k < m → get_or (set xs n v) k d ≡ cond (eqb k n) v (place m d xs k)
  changed d v xs n m k lt long h =
      ⊎_elim
      (λ e. rw (eq-eqb k n e, e) (get_or-set_same xs n v d (omega arith)))
      (λ e. rw (ne_eqb k n e, lt-ltb k m h) (get_or-set_other xs n k v d e))
      (cases_eq k n)

  pub set_table : (d v : A) (xs : List A) (n m : ℕ) → n < m → length xs ≡ m → set xs n v ≡ table m (λ i. cond (eqb i n) v (place m d xs i))
  set_table d v xs n m lt long = as_table _ d _ m (simp length-set long) (λ k h. changed d v xs n m k lt long h)

  at_table : (b : Bool) (f : ℕ → A) (d : A) (n i : ℕ) → ltb i n ≡ b → (b ≡ false → f i ≡ d) → cond b (get_or (table n f) i d) d ≡ f i
  at_table true f d n i e out = table_at f d n i (ltb-true i n e)
  at_table false f d n i e out = sym (out refl)

  -- a table whose function gives the default past the end
  pub place_table : (f : ℕ → A) (d : A) (n i : ℕ) → (ltb i n ≡ false → f i ≡ d) → place n d (table n f) i ≡ f i
  place_table f d n i out = at_table (ltb i n) f d n i refl out

  none_at : (t s : Bool) (d : A) (n m i : ℕ) → ltb i n ≡ t → ltb i m ≡ s → place n d (all_of m d) i ≡ d
  unfolding all_of
  none_at true true d n m i h k = rw h (get_or-replicate m i d d (ltb-true i m k))
  none_at true false d n m i h k = let e = length-replicate m d in rw h (get_or_past (replicate m d) i d (omega (arith, e, ltb-false i m k)))
  none_at false s d n m i h k = rw h

  -- the default everywhere, also where the list is of another length than is asked
  pub place_none : (d : A) (n m i : ℕ) → place n d (all_of m d) i ≡ d
  place_none d n m i = none_at (ltb i n) (ltb i m) d n m i refl refl
