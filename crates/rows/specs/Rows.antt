-- What a row holds, and what is found in it.
use Rattle.std.specs.Prelude.{◌≡◌, ℕ, ◌+◌, ◌-◌, ◌≤◌, Bool, true, false, List, length, take, Option, ◌==◌, nat_lt}
use Rattle.std.specs.List.{position}
use Rattle.refusals.specs.Told.{Told, ok, refused}
use Rattle.rows.specs.declared.row.Row.{Row}
use Rattle.rows.specs.Filled.{filled}

-- all slots of the list lent
abbrev pub items_of : {A : Type 0} → Row A → List A
items_of row = row.items.now

-- the items of the row: those below the count
abbrev pub row_of : {A : Type 0} → Row A → List A
row_of row = take row.count (items_of row)

-- how many items more the row can take
abbrev pub room_of : {A : Type 0} → Row A → ℕ
room_of row = length (items_of row) - row.count

-- one more item fits
abbrev pub roomy : {A : Type 0} → Row A → Bool
roomy row = nat_lt row.count (length (items_of row))

-- no item is in the row
abbrev pub holds_none : {A : Type 0} → Row A → Bool
holds_none row = row.count == 0

-- what an append answers where there is room, and where there is none
abbrev pub appends : Bool → Told (Unit {0})
appends true = ok tt
appends false = refused 9 0

-- a row after the items xs were appended to the one before: every other slot is as it was
pub record Grown {A : Type 0} (before : Row A) (xs : List A) (after : Row A) : Type 0 where
  pub count : after.count ≡ before.count + length xs
  pub fits : before.count + length xs ≤ length (items_of before)
  pub items : items_of after ≡ filled (items_of before) before.count xs

-- the place of the first item with the key k
abbrev pub first_with : {A : Type 0} → (A → ℕ) → ℕ → List A → Option ℕ
first_with key k xs = position (λ x. key x == k) xs
