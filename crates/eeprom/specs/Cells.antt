-- Lasting cells, the writes staged for them and the writes under way, as functions over their state.
-- There are N cells, numbered from 0; i is a cell's number. What stands past the N in a list counts for nothing.
use Rattle.std.specs.Prelude.{ℕ, ◌/◌, ◌%◌, ◌^◌, Bool, true, false, cond, List, map, replicate, is_some, Some, None, Option, ◌==◌, nat_lt, slice_index_or}
use Rattle.std.specs.List.{range_with_len, list_any}
use Rattle.std.specs.Option.{option_or, unwrap_or}
use Rattle.eeprom.specs.declared.Eeprom.{Eeprom}

-- place i of the first n of a list, or the default d where there is none
abbrev pub place : {A : Type 0} → ℕ → A → List A → ℕ → A
place n d xs i = cond (nat_lt i n) (slice_index_or xs i d) d

-- the list of f 0, f 1 and so on, n long; and n times a
-- Lists of n stay shut: at an n that is a numeral they would compute place by place.
unfoldable pub table : {A : Type 0} → ℕ → (ℕ → A) → List A
table n f = map f (range_with_len 0 n)

unfoldable pub all_of : {A : Type 0} → ℕ → A → List A
all_of n a = replicate n a

module _ {N : ℕ} where
  -- a cell's stored byte, the value staged for it, and the value that a write under way brings it
  abbrev pub byte_at : Eeprom N → ℕ → ℕ
  byte_at e = place N 0 e.bytes

  abbrev pub staged_at : Eeprom N → ℕ → Option ℕ
  staged_at e = place N None e.staged

  abbrev pub under_way_at : Eeprom N → ℕ → Option ℕ
  under_way_at e = place N None e.under_way

-- the writes with one of b to place n, where there is such a place
abbrev pub with_write : ℕ → List (Option ℕ) → ℕ → ℕ → List (Option ℕ)
with_write m ws n b = cond (nat_lt n m) (table m (λ i. cond (i == n) (Some b) (place m None ws i))) ws

-- bit i modulo 16 of a mask is 1
abbrev pub marks : ℕ → ℕ → Bool
marks m i = m / 2 ^ (i % 16) % 2 == 1

module _ {N : ℕ} where
  abbrev pub is_busy : Eeprom N → Bool
  is_busy e = list_any is_some (table N (under_way_at e))

  abbrev pub all_fresh : Eeprom N
  all_fresh = record { bytes = all_of N 0; staged = all_of N None; under_way = all_of N None }

  abbrev pub stages : Eeprom N → ℕ → ℕ → Eeprom N
  stages e n b = record {
    bytes = e.bytes;
    staged = with_write N e.staged n b;
    under_way = e.under_way;
  }

  abbrev pub unstages : Eeprom N → Eeprom N
  unstages e = record { bytes = e.bytes; staged = all_of N None; under_way = e.under_way }

  abbrev pub ends : Eeprom N → Eeprom N
  ends e = record { bytes = e.bytes; staged = e.staged; under_way = all_of N None }

  abbrev pub begins : Eeprom N → Eeprom N
  begins e = record {
    bytes = e.bytes;
    staged = all_of N None;
    under_way = table N (λ i. option_or (under_way_at e i) (staged_at e i));
  }

  -- a STOP at which the writes staged begin, or are dropped
  abbrev pub stopped : Bool → Eeprom N → Eeprom N
  stopped true e = begins e
  stopped false e = unstages e

  abbrev pub finishes : Eeprom N → Eeprom N
  finishes e = record {
    bytes = table N (λ i. unwrap_or (under_way_at e i) (byte_at e i));
    staged = e.staged;
    under_way = all_of N None;
  }

  abbrev pub cuts : Eeprom N → ℕ → Eeprom N
  cuts e m = record {
    bytes = table N (λ i. cond (marks m i) (unwrap_or (under_way_at e i) (byte_at e i)) (byte_at e i));
    staged = all_of N None;
    under_way = all_of N None;
  }
