-- Whether there is a write among writes. Assumes nothing.
use Rattle.std.proofs.Common.{◌≡◌, ℕ, zero, suc, ◌<◌, ◌≤◌, true, false, List, [], ◌∷◌, length, set, is_some, Some, None, Option, sym, refl, ap, arith}
use borrow.Author.Tests.{clash}
use Rattle.std.specs.List.{list_any}
use Rattle.std.proofs.lemmas.List.Folds.{list_any_at}
use Rattle.std.proofs.lemmas.List.{length-set, get_or-set_same}
use Rattle.std.proofs.lemmas.Bool.{lt-ltb, le-ltb}
use Rattle.eeprom.specs.Cells.{place, table, all_of, with_write}
use Rattle.eeprom.proofs.Places.{table_of, set_table}

pub none_any : (n : ℕ) → list_any (is_some {T = ℕ}) (all_of n None) ≡ false
unfolding all_of
none_any zero = refl
none_any (suc n) = none_any n

pub any_none : (n : ℕ) (ws : List (Option ℕ)) → length ws ≡ n → list_any is_some ws ≡ false → ws ≡ all_of n None
unfolding all_of
any_none zero [] long h = refl
any_none (suc n) [] long h = absurd (omega arith)
any_none zero (w ∷ ws) long h = absurd (omega arith)
any_none (suc n) (None ∷ ws) long h = ap (λ xs. None ∷ xs) (any_none n ws (omega arith) h)
any_none (suc n) (Some v ∷ ws) long h = absurd (clash (sym h))

pub all_any : (n : ℕ) (ws : List (Option ℕ)) → length ws ≡ n → list_any is_some ws ≡ list_any is_some (table n (place n None ws))
all_any n ws long = ap (list_any is_some) (table_of None ws n long)

pub set_any : (n b : ℕ) (ws : List (Option ℕ)) → n < length ws → list_any is_some (set ws n (Some b)) ≡ true
set_any n b ws lt = list_any_at is_some (set ws n (Some b)) n None (simp length-set lt) (ap is_some (get_or-set_same ws n (Some b) None lt))

pub set_write : (m n b : ℕ) (ws : List (Option ℕ)) → n < m → length ws ≡ m → set ws n (Some b) ≡ with_write m ws n b
set_write m n b ws h long = rw (lt-ltb n m h) (set_table None (Some b) ws n m h long)

pub no_write : (m n b : ℕ) (ws : List (Option ℕ)) → m ≤ n → ws ≡ with_write m ws n b
no_write m n b ws h = rw (le-ltb n m h) refl
