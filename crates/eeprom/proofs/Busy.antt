-- Whether some cell has a write under way: from one that has, and down to it. Assumes nothing.
use Rattle.std.proofs.Common.{◌≡◌, ℕ, ◌<◌, true, is_some, Some, None, Option, sym, refl, ap, ◌∙◌, arith}
use borrow.Author.Tests.{clash}
use Rattle.std.proofs.lemmas.List.Folds.{Any-from_list_any, list_any_at}
use Rattle.eeprom.specs.declared.Eeprom.{Eeprom}
use Rattle.eeprom.specs.Cells.{table, under_way_at, is_busy}
use Rattle.eeprom.proofs.Places.{length_table, table_at}

valued : (w : Option ℕ) → is_some w ≡ true → (v : ℕ) × (w ≡ Some v)
valued None h = absurd (clash h)
valued (Some v) h = (v, refl)

module _ {N : ℕ} (e : Eeprom N) where
  pub busy_at : (i v : ℕ) → i < N → under_way_at e i ≡ Some v → is_busy e ≡ true
  busy_at i v lt h =
      let long = length_table (under_way_at e) N in
      list_any_at is_some (table N (under_way_at e)) i None (omega arith) (ap is_some (table_at (under_way_at e) None N i lt ∙ h))

  pub busy_by : is_busy e ≡ true → (i : ℕ) × ((v : ℕ) × (under_way_at e i ≡ Some v))
  busy_by h =
      let any = Any-from_list_any is_some (table N (under_way_at e)) h in
      let long = length_table (under_way_at e) N in
      let same = sym (table_at (under_way_at e) any.1 N any.0 (omega arith)) ∙ any.3 in
      (any.0, valued (under_way_at e any.0) (ap is_some same ∙ any.4))
