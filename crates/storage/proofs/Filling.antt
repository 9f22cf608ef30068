-- What data bytes staged one after another in a page leave in the cells: the last byte to fall on a cell is staged for it, and once the
-- write cycle is over it stands there.
use Rattle.std.proofs.Common.{◌≡◌, ℕ, zero, suc, ◌<◌, ◌≤◌, ◌≢◌, false, cond, eqb, ◌⊎◌, List, [], ◌∷◌, length, Some, None, Option, unwrap_or, sym, refl, ap, ◌∙◌, subst, inl, inr, arith}
use Rattle.std.proofs.lemmas.Bool.{lt-ltb, eq-eqb, ne_eqb, cases_eq, cond-true}
use Rattle.std.specs.Option.{option_or}
use Rattle.eeprom.specs.Cells.{byte_at, staged_at, under_way_at, is_busy, stages, unstages, begins}
use Rattle.eeprom.specs.OnePart.{OnePart, part_of}
use Rattle.eeprom.specs.Pages.{next_in_page}
use Rattle.eeprom.specs.declared.Eeprom.{Eeprom}
use Rattle.eeprom.proofs.Moves.{stages_staged, unstages_staged, begins_under_way}
use Rattle.eeprom.proofs.OnePart.{OwnMoves}
use Rattle.storage.specs.Cells.{falls_on, Last, Missed, Stands}
use Rattle.storage.proofs.Over.{over, free_under_way, over_cell}

-- how the cells of a page follow one another, in a memory of 256 cells
pub record Turns (page : ℕ) : Type 0 where
  first : (n : ℕ) → falls_on page n 0 ≡ n
  more : (n m : ℕ) → falls_on page n (suc m) ≡ falls_on page (next_in_page page n) m
  inside : (n : ℕ) → n < 256 → next_in_page page n < 256

pub turns_8 : Turns 8
turns_8 = record {
  first = λ n. omega arith;
  more = λ n m. omega arith;
  inside = λ n h. omega arith;
}

pub turns_16 : Turns 16
turns_16 = record {
  first = λ n. omega arith;
  more = λ n m. omega arith;
  inside = λ n h. omega arith;
}

-- the cells after data bytes staged from cell n on, each at the next cell of the page; and the cell that comes next
abbrev pub filled : {N : ℕ} → ℕ → Eeprom N → ℕ → List ℕ → Eeprom N
filled page e n [] = e
filled page e n (x ∷ xs) = filled page (stages e n x) (next_in_page page n) xs

abbrev pub reached : ℕ → ℕ → List ℕ → ℕ
reached page n [] = n
reached page n (x ∷ xs) = reached page (next_in_page page n) xs

-- the write w that stands for cell i after the data, where o stood before: that of the last byte to fall there
abbrev Staged : ℕ → ℕ → List ℕ → ℕ → Option ℕ → Option ℕ → Type 0
Staged page n ds i o w = ((v : ℕ) × (Last page n ds i v × (w ≡ Some v))) ⊎ (Missed page n ds i × (w ≡ o))

module _ (page : ℕ) (t : Turns page) (n x : ℕ) (xs : List ℕ) (i : ℕ) where
  -- where the later bytes fall elsewhere from number k on
  none_since : (k : ℕ) → ((m : ℕ) → k ≤ m → m < length xs → falls_on page (next_in_page page n) m ≢ i) → (m : ℕ) → k < m → m < length (x ∷ xs) → falls_on page n m ≢ i
  none_since k none zero h l e = omega arith
  none_since k none (suc m) h l e = none m (omega arith) (omega arith) (sym (t.more n m) ∙ e)

  last_more : (v : ℕ) → Last page (next_in_page page n) xs i v → Last page n (x ∷ xs) i v
  last_more v l = record {
    n = suc l.n;
    among = let h = l.among in omega arith;
    there = t.more n l.n ∙ l.there;
    value = l.value;
    no_later = none_since (suc l.n) (λ m h. l.no_later m (omega arith));
  }

  last_first : n ≡ i → Missed page (next_in_page page n) xs i → Last page n (x ∷ xs) i x
  last_first e none = record {
    n = 0;
    among = omega arith;
    there = t.first n ∙ e;
    value = refl;
    no_later = none_since 0 (λ m h. none m);
  }

  missed_more : (n ≢ i) → Missed page (next_in_page page n) xs i → Missed page n (x ∷ xs) i
  missed_more d none zero l e = d (sym (t.first n) ∙ e)
  missed_more d none (suc m) l e = none_since 0 (λ m h. none m) (suc m) (omega arith) l e

  staged_first : (o w : Option ℕ) → (n ≡ i) ⊎ (n ≢ i) → w ≡ cond (eqb i n) (Some x) o → Missed page (next_in_page page n) xs i → Staged page n (x ∷ xs) i o w
  staged_first o w (inl e) h none = inl (x, (last_first e none, rw (eq-eqb i n (sym e)) at h))
  staged_first o w (inr d) h none = inr (missed_more d none, rw (ne_eqb i n (λ e. d (sym e))) at h)

  staged_more : (o p w : Option ℕ) → p ≡ cond (eqb i n) (Some x) o → Staged page (next_in_page page n) xs i p w → Staged page n (x ∷ xs) i o w
  staged_more o p w h (inl l) = inl (l.0, (last_more l.0 l.1.0, l.1.1))
  staged_more o p w h (inr m) = staged_first o w (cases_eq n i) (m.1 ∙ h) m.0

module _ {N : ℕ} (page : ℕ) where
  filled_byte : (e : Eeprom N) (n : ℕ) (ds : List ℕ) (i : ℕ) → byte_at (filled page e n ds) i ≡ byte_at e i
  filled_byte e n [] i = refl
  filled_byte e n (x ∷ xs) i = filled_byte (stages e n x) (next_in_page page n) xs i

  filled_under_way : (e : Eeprom N) (n : ℕ) (ds : List ℕ) (i : ℕ) → under_way_at (filled page e n ds) i ≡ under_way_at e i
  filled_under_way e n [] i = refl
  filled_under_way e n (x ∷ xs) i = filled_under_way (stages e n x) (next_in_page page n) xs i

  filled_staged : Turns page → 256 ≤ N → (e : Eeprom N) (n : ℕ) (ds : List ℕ) (i : ℕ) → n < 256 → Staged page n ds i (staged_at e i) (staged_at (filled page e n ds) i)
  filled_staged t large e n [] i h = inr ((λ m l e. absurd (omega arith)), refl)
  filled_staged t large e n (x ∷ xs) i h =
      staged_more page t n x xs i (staged_at e i) (staged_at (stages e n x) i) _
      (stages_staged e n x i ∙ cond-true _ _ _ (lt-ltb n N (omega arith)))
      (filled_staged t large (stages e n x) (next_in_page page n) xs i (t.inside n h))

module _ (page n : ℕ) (ds : List ℕ) (i : ℕ) where
  -- a write that stands for a cell, and comes to be stored there
  value_stands : (b : ℕ) (w : Option ℕ) → Staged page n ds i None w → Stands page n ds i b (unwrap_or w b)
  value_stands b w (inl l) = inl (subst (λ v. Last page n ds i v) (sym (ap (λ w. unwrap_or w b) l.1.1)) l.1.0)
  value_stands b w (inr m) = inr (m.0, ap (λ w. unwrap_or w b) m.1)

  -- once the write cycle of data bytes staged from cell n on is over
  pub over_stands : {S : Type 0} {N : ℕ} (c : OnePart S N) (moves : OwnMoves c) (s : S) (e : Eeprom N) → Turns page → 256 ≤ N → n < 256 → is_busy e ≡ false →
      c.eeprom s ≡ begins (filled page (unstages e) n ds) → Stands page n ds i (byte_at e i) ((part_of c).cell (over (part_of c) s) 0 i)
  over_stands {N = N} c moves s e turns large small free is =
      let old : ℕ = byte_at e i in
      let f : Eeprom N = filled page (unstages e) n ds in
      let none : under_way_at f i ≡ None = filled_under_way page (unstages e) n ds i ∙ free_under_way e free i in
      let write : under_way_at (begins f) i ≡ staged_at f i = begins_under_way f i ∙ ap (λ u. option_or u (staged_at f i)) none in
      let stored = over_cell c moves s i ∙ ap (λ g. unwrap_or (under_way_at g i) (byte_at g i)) is ∙ (λ k. unwrap_or (write k) (filled_byte page (unstages e) n ds i k)) in
      let staged = subst (λ o. Staged page n ds i o (staged_at f i)) (unstages_staged e i) (filled_staged page turns large (unstages e) n ds i small) in
      subst (λ v. Stands page n ds i old v) (sym stored) (value_stands old (staged_at f i) staged)
