-- Samples given one after another: whether the board takes them all, and what their run comes to.
use Rattle.std.proofs.Common.{◌≡◌, ℕ, ◌+◌, ◌<◌, ◌≤◌, Bool, true, false, ltb, List, [], ◌∷◌, ◌++◌, length, get_or, drop, sym, refl, ap, ◌∙◌, ltb-true}
use mir.Val.{bool_byte}
use borrow.Author.Tests.{clash}
use Rattle.std.proofs.lemmas.List.{at_drop_more, at_drop_all}
use Rattle.std.proofs.lemmas.List.Folds.{list_all_at}
use Rattle.refusals.specs.Told.{Told, ok}
use Rattle.part.specs.Ops.{Ops}
use Rattle.board.specs.declared.board.Board.{Board}
use Rattle.board.specs.Samples.{bit_value}
use Rattle.controller.specs.Master.{ended, gives, run}
use Rattle.controller.specs.Jobs.{giving, all_samples}
use Rattle.controller.proofs.Runs.{byte_bit}

-- where all are good the next one is
pub good_next : (xs : List ℕ) (i : ℕ) → i < length xs → all_samples xs ≡ true → get_or xs i 0 < 32
good_next xs i h e = by_test (ltb (get_or xs i 0) 32) refl
  where
    by_test : (t : Bool) → ltb (get_or xs i 0) 32 ≡ t → get_or xs i 0 < 32
    by_test true p = ltb-true _ _ p
    by_test false p = absurd (clash (sym (list_all_at (λ x. ltb x 32) xs i 0 h p) ∙ e))

module _ {S : Type 0} (ops : Ops S) where
  pub given_more : (xs : List ℕ) (i : ℕ) (got : List ℕ) (high : Bool) (b c : Board S) {z : Board S × Told (List ℕ)} → i < length xs
      → run ops (gives (get_or xs i 0) ended) b ≡ (c, high) → run ops (giving (drop i xs) got) b ≡ z
      → run ops (giving (drop (i + 1) xs) (got ++ (bool_byte high ∷ []))) c ≡ z
  unfolding giving
  given_more xs i got high b c h e f =
      ap (λ v. run ops (giving (drop (i + 1) xs) (got ++ (v ∷ []))) c) (byte_bit high)
      ∙ sym (ap (λ r. run ops (giving (drop (i + 1) xs) (got ++ (bit_value r.1 ∷ []))) r.0) e)
      ∙ sym (ap (λ m. run ops m b) (at_drop_more (λ ys. giving ys got) xs i 0 h))
      ∙ f

  pub given_all : (xs : List ℕ) (i : ℕ) (got : List ℕ) (b : Board S) {z : Board S × Told (List ℕ)} → length xs ≤ i → run ops (giving (drop i xs) got) b ≡ z → z ≡ (b, ok got)
  unfolding giving
  given_all xs i got b h f = sym f ∙ ap (λ m. run ops m b) (at_drop_all (λ ys. giving ys got) xs i h)
