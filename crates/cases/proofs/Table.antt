-- The cases are proved by a test of each list, which the checker computes. Assumes nothing.
use Rattle.std.proofs.Common.{◌≡◌, ℕ, Bool, true, false, ◌&&◌, eqb, List, [], ◌∷◌, ◌++◌, map, refl}
use borrow.Author.Tests.{clash}
use Rattle.std.proofs.lemmas.Bool.{eqb-true, and_parts}
use Rattle.refusals.specs.Told.{Told, ok, refused}
use Rattle.ds1846.specs.Chip.{ds1846}
use Rattle.x9520.specs.Chip.{x9520}
use Rattle.pair.specs.Both.{both}
use Rattle.dcp.specs.Taps.{bytes, tap_in}
use Rattle.eeprom.specs.Cells.{table, all_of}
use Rattle.jobfile.specs.Fields.{number_from}
use Rattle.cases.specs.Play.{play, answer}
use Rattle.cases.specs.Cases.{Case, board, taps, spelled, fresh_board, Holds, chips, no_ack, wp_high, wp_high_locked, All, EveryCaseHolds}

abbrev same : List ℕ → List ℕ → Bool
same [] [] = true
same [] (y ∷ ys) = false
same (x ∷ xs) [] = false
same (x ∷ xs) (y ∷ ys) = eqb x y && same xs ys

same_true : (xs ys : List ℕ) → same xs ys ≡ true → xs ≡ ys
same_true [] [] h = refl
same_true [] (y ∷ ys) h = absurd (clash h)
same_true (x ∷ xs) [] h = absurd (clash h)
same_true (x ∷ xs) (y ∷ ys) h =
    λ i. eqb-true x y (and_parts _ _ h).0 i ∷ same_true xs ys (and_parts _ _ h).1 i

abbrev spells : Told (ℕ × ℕ) → ℕ → ℕ → Bool
spells (ok p) n taken = eqb p.0 n && eqb p.1 taken
spells (refused r place) n taken = false

spells_true : (t : Told (ℕ × ℕ)) (n taken : ℕ) → spells t n taken ≡ true → t ≡ ok (n, taken)
spells_true (ok p) n taken h = λ i. ok (eqb-true p.0 n (and_parts _ _ h).0 i, eqb-true p.1 taken (and_parts _ _ h).1 i)
spells_true (refused r place) n taken h = absurd (clash h)

-- whether a case holds, by computing
abbrev passes : Case → Bool
passes (board calls question wanted) = same (answer (both x9520 ds1846) (play (both x9520 ds1846) fresh_board calls) question) wanted
passes (taps xs wanted) = same (map (tap_in bytes) xs) wanted
passes (spelled groups n taken) = spells (number_from 3 0 0 groups) n taken

holds : (c : Case) → passes c ≡ true → Holds c
holds (board calls question wanted) h = same_true _ _ h
holds (taps xs wanted) h = same_true _ _ h
holds (spelled groups n taken) h = spells_true _ n taken h

abbrev all_pass : List Case → Bool
all_pass [] = true
all_pass (c ∷ cs) = passes c && all_pass cs

all_hold : (cs : List Case) → all_pass cs ≡ true → All Holds cs
all_hold [] h = tt
all_hold (c ∷ cs) h = (holds c (and_parts _ _ h).0, all_hold cs (and_parts _ _ h).1)

all_both : (cs ds : List Case) → All Holds cs → All Holds ds → All Holds (cs ++ ds)
all_both [] ds h k = k
all_both (c ∷ cs) ds h k = (h.0, all_both cs ds h.1 k)

chips_pass : all_pass chips ≡ true
unfolding table all_of bytes tap_in number_from play answer
chips_pass = refl

no_ack_pass : all_pass no_ack ≡ true
unfolding table all_of bytes tap_in number_from play answer
no_ack_pass = refl

wp_high_pass : all_pass wp_high ≡ true
unfolding table all_of bytes tap_in number_from play answer
wp_high_pass = refl

wp_high_locked_pass : all_pass wp_high_locked ≡ true
unfolding table all_of bytes tap_in number_from play answer
wp_high_locked_pass = refl

pub every_case_holds : EveryCaseHolds
every_case_holds =
    all_both chips (no_ack ++ (wp_high ++ wp_high_locked)) (all_hold chips chips_pass) (
    all_both no_ack (wp_high ++ wp_high_locked) (all_hold no_ack no_ack_pass) (
    all_both wp_high wp_high_locked (all_hold wp_high wp_high_pass) (all_hold wp_high_locked wp_high_locked_pass)))
