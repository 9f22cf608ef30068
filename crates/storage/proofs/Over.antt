-- A chip once its write cycle, if one runs, is over: what was under way in it is stored, and it is busy no more.
use Rattle.std.proofs.Common.{◌≡◌, ℕ, Bool, true, false, cond, Some, None, Option, unwrap_or, sym, refl, ap, ◌∙◌}
use borrow.Author.Tests.{clash}
use Rattle.part.specs.Ops.{Ops}
use Rattle.eeprom.specs.Cells.{byte_at, under_way_at, is_busy, finishes}
use Rattle.eeprom.specs.OnePart.{OnePart, part_of}
use Rattle.eeprom.specs.declared.Eeprom.{Eeprom}
use Rattle.eeprom.proofs.Moves.{finishes_byte, finishes_under_way, free_if, busy_if}
use Rattle.eeprom.proofs.OnePart.{OwnMoves}

abbrev pub over : {C : Type 0} → Ops C → C → C
over chip s = cond (chip.busy s 0) (chip.finish s 0) s

module _ {N : ℕ} (e : Eeprom N) where
  none_by : (w : Option ℕ) (i : ℕ) → is_busy e ≡ false → under_way_at e i ≡ w → w ≡ None
  none_by None i free u = refl
  none_by (Some v) i free u = absurd (clash (sym free ∙ busy_if e i v u))

  -- where none runs, no write is under way to any cell
  pub free_under_way : is_busy e ≡ false → (i : ℕ) → under_way_at e i ≡ None
  free_under_way free i = none_by (under_way_at e i) i free refl

-- of a chip that is the one numbered part
module _ {S : Type 0} {N : ℕ} (c : OnePart S N) where
  abbrev over_if : Bool → S → S
  over_if b s = cond b (c.with_eeprom s (finishes (c.eeprom s))) s

  rest_by : {A : Type 0} (b : Bool) (s : S) (f : S → A) → ((e : Eeprom N) → f (c.with_eeprom s e) ≡ f s) → f (over_if b s) ≡ f s
  rest_by true s f same = same (finishes (c.eeprom s))
  rest_by false s f same = refl

  -- what does not hang on the cells is as it was
  pub over_rest : {A : Type 0} (s : S) (f : S → A) → ((e : Eeprom N) → f (c.with_eeprom s e) ≡ f s) → f (over (part_of c) s) ≡ f s
  over_rest s f = rest_by (is_busy (c.eeprom s)) s f

  module _ (moves : OwnMoves c) (s : S) where
    cell_by : (b : Bool) (i : ℕ) → is_busy (c.eeprom s) ≡ b → byte_at (c.eeprom (over_if b s)) i ≡ unwrap_or (under_way_at (c.eeprom s) i) (byte_at (c.eeprom s) i)
    cell_by true i busy = ap (λ e. byte_at e i) (moves.put s (finishes (c.eeprom s))) ∙ finishes_byte (c.eeprom s) i
    cell_by false i free = ap (λ w. unwrap_or w (byte_at (c.eeprom s) i)) (sym (free_under_way (c.eeprom s) free i))

    ready_by : (b : Bool) → is_busy (c.eeprom s) ≡ b → is_busy (c.eeprom (over_if b s)) ≡ false
    ready_by true busy = ap is_busy (moves.put s (finishes (c.eeprom s))) ∙ free_if (finishes (c.eeprom s)) (finishes_under_way (c.eeprom s))
    ready_by false free = free

    pub over_cell : (i : ℕ) → (part_of c).cell (over (part_of c) s) 0 i ≡ unwrap_or (under_way_at (c.eeprom s) i) (byte_at (c.eeprom s) i)
    over_cell i = cell_by (is_busy (c.eeprom s)) i refl

    pub over_ready : (part_of c).busy (over (part_of c) s) 0 ≡ false
    over_ready = ready_by (is_busy (c.eeprom s)) refl
