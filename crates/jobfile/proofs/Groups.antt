-- One turn of the number reader, at group i of the rest xs of the file, with the number v so far.
use Rattle.std.proofs.Common.{◌≡◌, ℕ, suc, ◌+◌, ◌-◌, ◌*◌, ◌<◌, ◌≤◌, List, length, get_or, drop, add-one, arith, drop-cons}
use Rattle.std.proofs.lemmas.List.{drop_all}
use Rattle.std.proofs.lemmas.Bool.{lt-ltb, le-ltb}
use Rattle.refusals.specs.Told.{ok, refused}
use Rattle.jobfile.specs.Fields.{number_from}

pub at_end : (i v : ℕ) (xs : List ℕ) → i < 3 → length xs ≤ i → number_from (3 - i) v i (drop i xs) ≡ refused 5 0
unfolding number_from
at_end i v xs h k =
    let e : 3 - i ≡ suc (2 - i) = omega arith in
    rw (e, drop_all i xs k)

pub at_last : (i v : ℕ) (xs : List ℕ) → i < 3 → i < length xs → get_or xs i 0 < 128 → number_from (3 - i) v i (drop i xs) ≡ ok (v * 128 + get_or xs i 0, i + 1)
unfolding number_from
at_last i v xs h k l =
    let e : 3 - i ≡ suc (2 - i) = omega arith in
    rw (e, drop-cons xs i 0 k, lt-ltb (get_or xs i 0) 128 l)

pub at_more : (i v : ℕ) (xs : List ℕ) → i < 3 → i < length xs → 128 ≤ get_or xs i 0
    → number_from (3 - i) v i (drop i xs) ≡ number_from (3 - (i + 1)) (v * 128 + (get_or xs i 0 - 128)) (i + 1) (drop (i + 1) xs)
unfolding number_from
at_more i v xs h k l =
    let e : 3 - i ≡ suc (2 - i) = omega arith in
    let f : 3 - (i + 1) ≡ 2 - i = omega arith in
    rw (e, f, drop-cons xs i 0 k, le-ltb (get_or xs i 0) 128 l, add-one)

-- a third group that marks more
pub at_third : (i v : ℕ) (xs : List ℕ) → i ≡ 2 → i < length xs → 128 ≤ get_or xs i 0 → number_from (3 - i) v i (drop i xs) ≡ refused 7 0
unfolding number_from
at_third i v xs h k l =
    let e : 3 - i ≡ 1 = omega arith in
    rw (e, drop-cons xs i 0 k, le-ltb (get_or xs i 0) 128 l)

pub ruleset groups = (at_end, at_last, at_more, at_third)
