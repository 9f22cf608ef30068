-- The cells of a chip that is the one numbered part, with number 0: facts about the cells as facts about each numbered part.
-- In them q is whether part 0 is meant. Assumes nothing.
use Rattle.std.proofs.Common.{◌≡◌, ℕ, ◌<◌, ◌≤◌, Bool, true, false, cond, not, ◌&&◌, eqb, ltb, ◌⊎◌, Some, None, Option, unwrap_or, sym, refl, ap, ◌∙◌, inl, inr, arith}
use borrow.Author.Tests.{clash}
use Rattle.std.specs.Option.{option_or}
use Rattle.std.proofs.lemmas.Bool.{eqb-true, ne_eqb, cond-false}
use Rattle.eeprom.specs.declared.Eeprom.{Eeprom}
use Rattle.eeprom.specs.Cells.{byte_at, staged_at, under_way_at, is_busy, stages, stopped, finishes}
use Rattle.eeprom.specs.OnePart.{of_part}
use Rattle.eeprom.proofs.Busy.{busy_by}
use Rattle.eeprom.proofs.Moves.{busy_if, stages_staged, unstages_staged, begins_staged, begins_under_way, finishes_byte, finishes_under_way}

pub part_none : (q : Bool) (w : Option ℕ) → w ≡ None → cond q w None ≡ None
part_none true w h = h
part_none false w h = refl

pub other_part : {A : Type 0} (k : ℕ) (d n : A) → 1 ≤ k → of_part k n d ≡ d
other_part k d n h = cond-false (eqb k 0) n d (ne_eqb k 0 (λ e. omega arith))

-- an address that part 0 owns where b is true
pub owned : (b : Bool) (k : ℕ) → cond {A = Option ℕ} b (Some 0) None ≡ Some k → (0 ≡ k) × (b ≡ true)
owned true k h = (cc, refl)
owned false k h = let z : ◌≡◌ {A = ℕ} 0 1 = cc in absurd (omega arith)

pub write_of : (N : ℕ) (q : Bool) (w : Option ℕ) (i v : ℕ) → (w ≡ Some v → i < N) → cond q w None ≡ Some v → i < cond q N 0
write_of N true w i v f h = f h
write_of N false w i v f h = let z : ◌≡◌ {A = ℕ} 0 1 = cc in absurd (omega arith)

-- at the STOP a write begins only where none is under way
begun : (q : Bool) (u w v : Option ℕ) → v ≡ option_or u w → (cond q v None ≡ cond q u None) ⊎ ((cond q u None ≡ None) × (true ≡ true) × (false ≡ false) × (cond q v None ≡ cond q w None))
begun true None w v h = inr (refl, refl, refl, h)
begun true (Some x) w v h = inl h
begun false u w v h = inl refl

-- a write staged: t is whether there is a cell n, f whether the cell i is cell n
staged_one : (q t f : Bool) (k n i x : ℕ) (o w v : Option ℕ) → eqb k 0 ≡ q → eqb i n ≡ f → o ≡ Some 0 → v ≡ cond t (cond f (Some x) w) w
    → (cond q v None ≡ cond q w None) ⊎ ((cond q v None ≡ None) ⊎ ((i ≡ n) × (o ≡ Some k) × (cond q v None ≡ Some x)))
staged_one true true true k n i x o w v e g h z = inr (inr (eqb-true i n g, h ∙ ap Some (sym (eqb-true k 0 e)), z))
staged_one true true false k n i x o w v e g h z = inl z
staged_one true false f k n i x o w v e g h z = inl z
staged_one false t f k n i x o w v e g h z = inl refl

pub cut_stores : (q : Bool) (b v : ℕ) (w : Option ℕ) → b ≡ unwrap_or w v → cond q b 0 ≡ unwrap_or (cond q w None) (cond q v 0)
cut_stores true b v w h = h
cut_stores false b v w h = refl

-- of two different numbers one at most is 0
pub apart : (k q : ℕ) → (k ≡ q → ⊥) → eqb k 0 ≡ true → eqb q 0 ≡ true → ⊥
apart k q h a b = h (eqb-true k 0 a ∙ sym (eqb-true q 0 b))

-- a chip none of whose cells has a write under way
pub never_busy : (q b : Bool) → b ≡ false → cond q b false ≡ false
never_busy true b h = h
never_busy false b h = refl

module _ {N : ℕ} (e : Eeprom N) where
  pub deaf_while_busy : (q t : Bool) → cond q (is_busy e) false ≡ true → (t && not (is_busy e)) ≡ false
  deaf_while_busy true true h = rw h
  deaf_while_busy true false h = refl
  deaf_while_busy false t h = absurd (clash h)

  -- a clean STOP with WP LOW
  pub begins_in : (q wp : Bool) (i : ℕ) → wp ≡ false → cond q (under_way_at (stopped (true && not wp) e) i) None ≡ option_or (cond q (under_way_at e i) None) (cond q (staged_at e i) None)
  begins_in true true i h = absurd (clash (sym h))
  begins_in true false i h = begins_under_way e i
  begins_in false wp i h = refl

  pub busy_of : (q : Bool) (i v : ℕ) → cond q (under_way_at e i) None ≡ Some v → cond q (is_busy e) false ≡ true
  busy_of true i v h = busy_if e i v h
  busy_of false i v h = let z : ◌≡◌ {A = ℕ} 0 1 = cc in absurd (omega arith)

  pub busy_from : (q : Bool) → cond q (is_busy e) false ≡ true → (i : ℕ) × ((v : ℕ) × (cond q (under_way_at e i) None ≡ Some v))
  busy_from true h = busy_by e h
  busy_from false h = absurd (clash h)

  -- the byte x staged for cell n of part 0, which owns the address
  pub staged_by : (n x k i : ℕ) (o : Option ℕ) → o ≡ Some 0 → (of_part k (staged_at (stages e n x) i) None ≡ of_part k (staged_at e i) None)
      ⊎ ((of_part k (staged_at (stages e n x) i) None ≡ None) ⊎ ((i ≡ n) × (o ≡ Some k) × (of_part k (staged_at (stages e n x) i) None ≡ Some x)))
  staged_by n x k i o h = staged_one (eqb k 0) (ltb n N) (eqb i n) k n i x o (staged_at e i) (staged_at (stages e n x) i) refl refl h (stages_staged e n x i)

  pub stopped_byte : (b : Bool) (i : ℕ) → byte_at (stopped b e) i ≡ byte_at e i
  stopped_byte true i = refl
  stopped_byte false i = refl

  pub stopped_staged : (b : Bool) (i : ℕ) → staged_at (stopped b e) i ≡ None
  stopped_staged true i = begins_staged e i
  stopped_staged false i = unstages_staged e i

  pub stopped_under_way : (clean wp : Bool) (k i : ℕ) → (of_part k (under_way_at (stopped (clean && not wp) e) i) None ≡ of_part k (under_way_at e i) None)
      ⊎ ((of_part k (under_way_at e i) None ≡ None) × (clean ≡ true) × (wp ≡ false)
      × (of_part k (under_way_at (stopped (clean && not wp) e) i) None ≡ of_part k (staged_at e i) None))
  stopped_under_way true true k i = inl refl
  stopped_under_way true false k i = begun (eqb k 0) (under_way_at e i) (staged_at e i) _ (begins_under_way e i)
  stopped_under_way false wp k i = inl refl

  -- a finish of the part that q means
  pub finish_stores : (q : Bool) (i : ℕ) → cond q (byte_at (cond q (finishes e) e) i) 0 ≡ unwrap_or (cond q (under_way_at e i) None) (cond q (byte_at e i) 0)
  finish_stores true i = finishes_byte e i
  finish_stores false i = refl

  pub finish_ends : (q : Bool) (i : ℕ) → cond q (under_way_at (cond q (finishes e) e) i) None ≡ None
  finish_ends true i = finishes_under_way e i
  finish_ends false i = refl

  pub finish_staged : (q : Bool) (i : ℕ) → staged_at (cond q (finishes e) e) i ≡ staged_at e i
  finish_staged true i = refl
  finish_staged false i = refl

  -- only part 0 has something to finish
  pub elsewhere : {A : Type 0} (f : Eeprom N → A) (d : A) (p q : Bool) → (p ≡ true → q ≡ true → ⊥) → cond p (f (cond q (finishes e) e)) d ≡ cond p (f e) d
  elsewhere f d true true h = absurd (h refl refl)
  elsewhere f d true false h = refl
  elsewhere f d false q h = refl
