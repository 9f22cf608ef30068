-- What one job of a file leaves, from what its run leaves.
use Rattle.std.proofs.Common.{◌≡◌, ℕ, ◌≤◌, Bool, true, false, cond, List, [], ◌∷◌, length, Ok, Err, Result, sym, refl, ap, ◌∙◌, subst, arith}
use Rattle.std.proofs.lemmas.Bool.{le-leb}
use Rattle.refusals.specs.declared.Refusal.{Refusal}
use Rattle.refusals.specs.Told.{Told, ok, refused, told}
use Rattle.part.specs.Ops.{Ops}
use Rattle.board.specs.declared.board.Board.{Board}
use Rattle.rows.specs.declared.row.Row.{Row}
use Rattle.rows.specs.Rows.{Grown}
use Rattle.rows.proofs.Growing.{grown_none}
use Rattle.controller.specs.Answers.{Answered, Into, Lasts, plain}
use Rattle.controller.specs.Master.{Master, ended, run}
use Rattle.controller.specs.Jobs.{with_room, sampling, all_samples, giving}
use Rattle.runner.specs.Runs.{no_bytes, Within}

module _ {S : Type 0} where
  -- a job that answers no bytes leaves the byte list as it was
  pub without_bytes : (z : Board S × Told (List ℕ)) (b : Board S) (r : Result (Unit {0}) Refusal) (row : Row ℕ) → z ≡ (b, told (λ _. []) r) → Into z b row row (told (λ x. x) r)
  without_bytes z b (Ok x) row e =
      record { board_is = sym (ap (λ y. y.0) e); row_is = subst (λ y. Answered row y.1 row) (sym e) (grown_none row); answer_is = by_answer z.1 (ap (λ y. y.1) e) }
    where
      by_answer : (t : Told (List ℕ)) → t ≡ ok [] → ok x ≡ plain t
      by_answer t q = ap plain (sym q)
  without_bytes z b (Err x) row e =
      record { board_is = sym (ap (λ y. y.0) e); row_is = subst (λ y. Answered row y.1 row) (sym e) refl; answer_is = ap (λ y. plain y.1) (sym e) }

  pub none_within : (n : ℕ) (z : Board S × Told (List ℕ)) (b : Board S) (r : Result (Unit {0}) Refusal) → z ≡ (b, told (λ _. []) r) → Within n z.1
  none_within n z b (Ok x) e = subst (λ y. Within n y.1) (sym e) (let h : 0 ≤ n = omega arith in h)
  none_within n z b (Err x) e = subst (λ y. Within n y.1) (sym e) (let h : 0 ≤ n = omega arith in h)

  pub same_into : (z z' : Board S × Told (List ℕ)) (b : Board S) (before after : Row ℕ) (t : Told (Unit {0})) → z ≡ z' → Into z b before after t → Into z' b before after t
  same_into z z' b before after t e h = subst (λ y. Into y b before after t) e h

-- a job that answers one byte leaves it in the list
pub one_byte : {S : Type 0} (z : Board S × Told (List ℕ)) (b : Board S) (x : ℕ) (before after : Row ℕ) → z ≡ (b, ok (x ∷ []))
    → Grown before (x ∷ []) after → Into z b before after (ok tt) × Lasts 1 z.1
one_byte z b x before after e h =
    (subst (λ y. Into y b before after (ok tt)) (sym e) (record { board_is = refl; row_is = h; answer_is = refl }), subst (λ y. Lasts 1 y.1) (sym e) refl)

pub lasts_within : (n : ℕ) (t : Told (List ℕ)) → Lasts n t → Within n t
lasts_within n (ok xs) h = omega arith
lasts_within n (refused r p) h = omega arith

no_bytes_told : (r : Result (Unit {0}) Refusal) → no_bytes (told (λ x. x) r) ≡ told (λ _. []) r
no_bytes_told (Ok x) = refl
no_bytes_told (Err x) = refl

-- a call of the board by its contract
pub called : {S : Type 0} (b b' : Board S) (t : Told (Unit {0})) (r : Result (Unit {0}) Refusal) → b' ≡ b → told (λ x. x) r ≡ t
    → ◌≡◌ {A = Board S × Told (List ℕ)} (b, no_bytes t) (b', told (λ _. []) r)
called b b' t r p q = λ i. (sym p i, (ap no_bytes (sym q) ∙ no_bytes_told r) i)

module _ {S : Type 0} (ops : Ops S) where
  -- room enough is as good as just enough
  pub enough_room : (n room : ℕ) (m : Master (Told (List ℕ))) (b : Board S) → n ≤ room → run ops (with_room n room m) b ≡ run ops (with_room n n m) b
  enough_room n room m b h =
      let all : n ≤ n = omega arith in
      rw (le-leb n room h, le-leb n n all)

  pub enough_samples : (xs : List ℕ) (room : ℕ) (b : Board S) → length xs ≤ room → run ops (sampling xs room) b ≡ run ops (sampling xs (length xs)) b
  enough_samples xs room b h = by_test (all_samples xs)
    where
      by_test : (t : Bool) → run ops (cond t (with_room (length xs) room (giving xs [])) (ended (refused 1 0))) b
          ≡ run ops (cond t (with_room (length xs) (length xs) (giving xs [])) (ended (refused 1 0))) b
      by_test true = enough_room (length xs) room (giving xs []) b h
      by_test false = refl
