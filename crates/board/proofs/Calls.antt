-- A list of calls, one after another: what they answer while they are given, and the board after all. Assumes nothing.
use Rattle.std.proofs.Common.{◌≡◌, ℕ, zero, suc, ◌+◌, ◌<◌, ◌≤◌, List, [], ◌∷◌, ◌++◌, length, map, get_or, drop, refl, sym, ap, ◌∙◌}
use Rattle.std.proofs.lemmas.List.{at_drop_more, at_drop_all, map-append, append_assoc, append-nil}
use Rattle.part.specs.Ops.{Ops}
use Rattle.board.specs.declared.answer.Answer.{Answer}
use Rattle.board.specs.declared.board.Board.{Board}
use Rattle.board.specs.declared.call.Call.{Call}
use Rattle.board.specs.Runs.{step, state, call_at}
use Rattle.board.specs.Answers.{shown, call_told, answers_of, after_all}

module _ {S : Type 0} (ops : Ops S) where
  pub answers_more : (xs : List Call) (i : ℕ) (d : Call) (got : List Answer) (a : Answer) (b c : Board S) {z : List _} → i < length xs → c ≡ step ops b (get_or xs i d)
      → shown a ≡ call_told ops b (get_or xs i d)
      → map shown got ++ answers_of ops b (drop i xs) ≡ z → map shown (got ++ (a ∷ [])) ++ answers_of ops c (drop (i + 1) xs) ≡ z
  answers_more xs i d got a b c h e f g =
      ap (λ ys. ys ++ answers_of ops c (drop (i + 1) xs)) (map-append shown got (a ∷ []))
      ∙ append_assoc (map shown got) (shown a ∷ []) (answers_of ops c (drop (i + 1) xs))
      ∙ ap (λ v. map shown got ++ (v ∷ answers_of ops c (drop (i + 1) xs))) f
      ∙ ap (λ s. map shown got ++ (call_told ops b (get_or xs i d) ∷ answers_of ops s (drop (i + 1) xs))) e
      ∙ sym (at_drop_more (λ ys. map shown got ++ answers_of ops b ys) xs i d h)
      ∙ g

  pub answers_all : (xs : List Call) (i : ℕ) (got : List Answer) (b : Board S) {z : List _} → length xs ≤ i → map shown got ++ answers_of ops b (drop i xs) ≡ z → map shown got ≡ z
  answers_all xs i got b h g = sym (append-nil (map shown got)) ∙ sym (at_drop_all (λ ys. map shown got ++ answers_of ops b ys) xs i h) ∙ g

  pub board_more : (xs : List Call) (i : ℕ) (d : Call) (b c : Board S) {z : Board S} → i < length xs → c ≡ step ops b (get_or xs i d) → after_all ops b (drop i xs) ≡ z
      → after_all ops c (drop (i + 1) xs) ≡ z
  board_more xs i d b c h e g = ap (λ s. after_all ops s (drop (i + 1) xs)) e ∙ sym (at_drop_more (λ ys. after_all ops b ys) xs i d h) ∙ g

  pub board_all : (xs : List Call) (i : ℕ) (b : Board S) {z : Board S} → length xs ≤ i → after_all ops b (drop i xs) ≡ z → b ≡ z
  board_all xs i b h g = sym (at_drop_all (λ ys. after_all ops b ys) xs i h) ∙ g

  -- a run that begins one call later
  state_later : (b : Board S) (calls : ℕ → Call) (n : ℕ) → state ops (step ops b (calls 0)) (λ m. calls (suc m)) n ≡ state ops b calls (suc n)
  state_later b calls zero = refl
  state_later b calls (suc n) = ap (λ s. step ops s (calls (suc n))) (state_later b calls n)

  -- the board after a list of calls is the last state of their run
  pub after_state : (b : Board S) (xs : List Call) → after_all ops b xs ≡ state ops b (call_at xs) (length xs)
  after_state b [] = refl
  after_state b (k ∷ ks) = after_state (step ops b k) ks ∙ state_later b (call_at (k ∷ ks)) (length ks)
