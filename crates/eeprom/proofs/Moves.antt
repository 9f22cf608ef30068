-- What the cells, the writes staged for them and those under way are after each move. Assumes nothing.
-- What is not named here is as it was, by computation.
use Rattle.std.proofs.Common.{◌≡◌, ℕ, ◌<◌, Bool, true, false, cond, eqb, ltb, List, Some, None, Option, unwrap_or, refl, arith}
use Rattle.std.specs.Option.{option_or}
use Rattle.std.proofs.lemmas.Bool.{ltb-true, ltb-false, eqb-true}
use Rattle.eeprom.specs.declared.Eeprom.{Eeprom}
use Rattle.eeprom.specs.Cells.{place, table, byte_at, staged_at, under_way_at, marks, is_busy, all_fresh, stages, unstages, begins, finishes, cuts}
use Rattle.eeprom.proofs.Busy.{busy_at, busy_by}
use Rattle.eeprom.proofs.Places.{place_table, place_none}

same : (b : Bool) → cond {A = ℕ} b 0 0 ≡ 0
same true = refl
same false = refl

-- a write is to a cell that there is
inside : (b : Bool) (w : Option ℕ) (n i v : ℕ) → ltb i n ≡ b → cond b w None ≡ Some v → i < n
inside true w n i v e h = ltb-true i n e
inside false w n i v e h = let z : ◌≡◌ {A = ℕ} 0 1 = cc in absurd (omega arith)

pub write_in : (n : ℕ) (ws : List (Option ℕ)) (i v : ℕ) → place n None ws i ≡ Some v → i < n
write_in n ws i v h = inside (ltb i n) _ n i v refl h

-- a cell that a byte is staged for, and the others, where the cell n is (t) or is not
staged_here : (e : Bool) (n m i : ℕ) (b : ℕ) (w : Option ℕ) → eqb i n ≡ e → n < m → ltb i m ≡ false → w ≡ None → cond e (Some b) w ≡ None
staged_here true n m i b w e lt out h = absurd (omega (arith, eqb-true i n e, ltb-false i m out))
staged_here false n m i b w e lt out h = h

staged_by : (t : Bool) (m n b i : ℕ) (ws : List (Option ℕ)) → ltb n m ≡ t
    → place m None (cond t (table m (λ k. cond (eqb k n) (Some b) (place m None ws k))) ws) i ≡ cond t (cond (eqb i n) (Some b) (place m None ws i)) (place m None ws i)
staged_by true m n b i ws e =
    place_table (λ k. cond (eqb k n) (Some b) (place m None ws k)) None m i
    (λ out. staged_here (eqb i n) n m i b (place m None ws i) refl (ltb-true n m e) out (rw out))
staged_by false m n b i ws e = refl

module _ (N : ℕ) where
  pub fresh_byte : (i : ℕ) → byte_at {N = N} all_fresh i ≡ 0
  fresh_byte i = place_none 0 N N i

  pub fresh_staged : (i : ℕ) → staged_at {N = N} all_fresh i ≡ None
  fresh_staged i = place_none None N N i

  pub fresh_under_way : (i : ℕ) → under_way_at {N = N} all_fresh i ≡ None
  fresh_under_way i = place_none None N N i

module _ {N : ℕ} (e : Eeprom N) where
  pub staged_in : (i v : ℕ) → staged_at e i ≡ Some v → i < N
  staged_in i v h = write_in N e.staged i v h

  pub under_way_in : (i v : ℕ) → under_way_at e i ≡ Some v → i < N
  under_way_in i v h = write_in N e.under_way i v h

  pub busy_if : (i v : ℕ) → under_way_at e i ≡ Some v → is_busy e ≡ true
  busy_if i v h = busy_at e i v (under_way_in i v h) h

  -- with no write under way anywhere
  free_by : (b : Bool) → is_busy e ≡ b → ((i : ℕ) → under_way_at e i ≡ None) → is_busy e ≡ false
  free_by true h n = let u = busy_by e h in let w = n u.0 in let f = u.1.1 in let z : ◌≡◌ {A = ℕ} 0 1 = cc in absurd (omega arith)
  free_by false h n = h

  pub free_if : ((i : ℕ) → under_way_at e i ≡ None) → is_busy e ≡ false
  free_if n = free_by (is_busy e) refl n

  pub stages_staged : (n b i : ℕ) → staged_at (stages e n b) i ≡ cond (ltb n N) (cond (eqb i n) (Some b) (staged_at e i)) (staged_at e i)
  stages_staged n b i = staged_by (ltb n N) N n b i e.staged refl

  pub unstages_staged : (i : ℕ) → staged_at (unstages e) i ≡ None
  unstages_staged i = place_none None N N i

  pub begins_staged : (i : ℕ) → staged_at (begins e) i ≡ None
  begins_staged i = place_none None N N i

  pub begins_under_way : (i : ℕ) → under_way_at (begins e) i ≡ option_or (under_way_at e i) (staged_at e i)
  begins_under_way i = place_table (λ k. option_or (under_way_at e k) (staged_at e k)) None N i (λ out. rw out)

  pub finishes_byte : (i : ℕ) → byte_at (finishes e) i ≡ unwrap_or (under_way_at e i) (byte_at e i)
  finishes_byte i = place_table (λ k. unwrap_or (under_way_at e k) (byte_at e k)) 0 N i (λ out. rw out)

  pub finishes_under_way : (i : ℕ) → under_way_at (finishes e) i ≡ None
  finishes_under_way i = place_none None N N i

  pub cuts_byte : (m i : ℕ) → byte_at (cuts e m) i ≡ cond (marks m i) (unwrap_or (under_way_at e i) (byte_at e i)) (byte_at e i)
  cuts_byte m i = place_table (λ k. cond (marks m k) (unwrap_or (under_way_at e k) (byte_at e k)) (byte_at e k)) 0 N i (λ out. rw out (same (marks m i)))

  pub cuts_staged : (m i : ℕ) → staged_at (cuts e m) i ≡ None
  cuts_staged m i = place_none None N N i

  pub cuts_under_way : (m i : ℕ) → under_way_at (cuts e m) i ≡ None
  cuts_under_way m i = place_none None N N i
