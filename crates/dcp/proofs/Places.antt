-- Where the first entry of a list that is a given number stands. Assumes nothing.
use Rattle.std.proofs.Common.{◌≡◌, ℕ, ◌<◌, Bool, true, false, not, eqb, ltb, ◌⊎◌, List, length, get_or, refl, inl, inr, arith}
use Rattle.std.specs.List.{position_or_len}
use Rattle.std.proofs.lemmas.Bool.{eqb-true, eqb-false, ltb-true, ltb-false, not-true, not-false}
use Rattle.std.proofs.lemmas.List.Sums.{prefix_len_passes, prefix_len_stops}
use Rattle.dcp.specs.Taps.{tap_in}

-- the entry b stands at the tap answered
abbrev pub Found : ℕ → List ℕ → Type 0
Found b xs = (tap_in xs b < length xs) × (get_or xs (tap_in xs b) 0 ≡ b)

abbrev pub Missing : ℕ → List ℕ → Type 0
Missing b xs = ((k : ℕ) → k < length xs → get_or xs k 0 ≡ b → ⊥) × (tap_in xs b ≡ 99)

tells_by : (t : Bool) (b : ℕ) (xs : List ℕ) → ltb (position_or_len (λ x. eqb x b) xs) (length xs) ≡ t → Found b xs ⊎ Missing b xs
unfolding tap_in
tells_by true b xs e =
    let lt = ltb-true _ _ e in
    inl (rw e (lt, eqb-true _ _ (not-false _ (prefix_len_stops (λ x. not (eqb x b)) xs 0 lt))))
tells_by false b xs e =
    let le = ltb-false _ _ e in
    inr ((λ k h. eqb-false _ b (not-true _ (prefix_len_passes (λ x. not (eqb x b)) xs k 0 (omega arith)))), rw e refl)

pub tells : (b : ℕ) (xs : List ℕ) → Found b xs ⊎ Missing b xs
tells b xs = tells_by _ b xs refl
