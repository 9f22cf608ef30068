-- Runs of calls and of samples, one after another. Assumes nothing.
use Rattle.std.proofs.Common.{◌≡◌, ℕ, zero, suc, ◌+◌, ◌<◌, ◌≤◌, List, [], ◌∷◌, ◌++◌, length, refl, sym, ap, ◌∙◌, arith}
use Rattle.part.specs.Ops.{Ops}
use Rattle.board.specs.declared.board.Board.{Board}
use Rattle.board.specs.declared.call.Call.{Call}
use Rattle.board.specs.Runs.{step, state, call_at, Leads, GoesOn}
use Rattle.board.specs.Answers.{after_all}
use Rattle.board.proofs.Calls.{after_state}

-- the first n calls of one sequence, and then the other from its first on
joined : (ℕ → Call) → ℕ → (ℕ → Call) → ℕ → Call
joined calls zero next j = next j
joined calls (suc n) next zero = calls 0
joined calls (suc n) next (suc j) = joined (λ i. calls (suc i)) n next j

joined_first : (calls : ℕ → Call) (n : ℕ) (next : ℕ → Call) (j : ℕ) → j < n → joined calls n next j ≡ calls j
unfolding joined
joined_first calls zero next j h = absurd (omega (arith, h))
joined_first calls (suc n) next zero h = refl
joined_first calls (suc n) next (suc j) h = joined_first (λ i. calls (suc i)) n next j (omega (arith, h))

joined_rest : (calls : ℕ → Call) (n : ℕ) (next : ℕ → Call) (j : ℕ) → joined calls n next (n + j) ≡ next j
unfolding joined
joined_rest calls zero next j = let z : 0 + j ≡ j = omega arith in ap next z
joined_rest calls (suc n) next j = let z : suc n + j ≡ suc (n + j) = omega arith in ap (joined calls (suc n) next) z ∙ joined_rest (λ i. calls (suc i)) n next j

module _ {S : Type 0} (ops : Ops S) where
  -- the same calls leave the same states
  state_same : (b : Board S) (calls others : ℕ → Call) (n : ℕ) → ((j : ℕ) → j < n → calls j ≡ others j) → state ops b calls n ≡ state ops b others n
  state_same b calls others zero h = refl
  state_same b calls others (suc n) h = ap (λ c. step ops c (calls n)) (state_same b calls others n (λ j lt. h j (omega (arith, lt)))) ∙ ap (step ops (state ops b others n)) (h n (omega arith))

  -- calls that are given from state n of a run on
  state_rest : (b : Board S) (whole next : ℕ → Call) (n : ℕ) → ((j : ℕ) → whole (n + j) ≡ next j) → (j : ℕ) → state ops b whole (n + j) ≡ state ops (state ops b whole n) next j
  state_rest b whole next n h zero = let z : n + 0 ≡ n = omega arith in ap (state ops b whole) z
  state_rest b whole next n h (suc j) =
      let z : n + suc j ≡ suc (n + j) = omega arith in
      ap (state ops b whole) z ∙ ap (λ c. step ops c (whole (n + j))) (state_rest b whole next n h j) ∙ ap (step ops (state ops (state ops b whole n) next j)) (h j)

  pub goes_on : (made : Board S) → GoesOn ops made
  unfolding GoesOn Leads
  goes_on made calls n more c leads =
      let next = call_at more in
      let whole = joined calls n next in
      let before : (j : ℕ) → j ≤ n → state ops made whole j ≡ state ops made calls j =
      λ j h. state_same made whole calls j (λ i lt. joined_first calls n next i (omega (arith, h, lt))) in
      let between : (j : ℕ) → state ops made whole (n + j) ≡ state ops (state ops made calls n) next j =
      λ j. state_rest made whole next n (joined_rest calls n next) j ∙ ap (λ d. state ops d next j) (before n (omega arith)) in (
        whole,
        record {
          first = joined_first calls n next;
          rest = joined_rest calls n next;
          before = before;
          between = between;
          there = leads ∙ sym (between (length more));
        },
      )

  -- lists of calls, one after another
  pub after_leads : (b c : Board S) (calls : List Call) → c ≡ after_all ops b calls → Leads ops b calls c
  unfolding Leads
  after_leads b c calls e = e ∙ after_state ops b calls

  pub leads_none : (b : Board S) → Leads ops b [] b
  unfolding Leads
  leads_none b = refl

  pub after_more : (b : Board S) (xs ys : List Call) → after_all ops b (xs ++ ys) ≡ after_all ops (after_all ops b xs) ys
  after_more b [] ys = refl
  after_more b (x ∷ xs) ys = after_more (step ops b x) xs ys
