-- The fields of a job: numbers within limits, and bytes. Where the file ends inside a field it is refused with 5, beyond a limit with 7.
use Rattle.std.specs.Prelude.{ℕ, zero, suc, ◌+◌, ◌-◌, ◌*◌, cond, List, [], ◌∷◌, length, take, drop, nat_lt}
use Rattle.std.specs.Borrow.{Bor}
use Rattle.refusals.specs.Told.{Told, ok, refused, and_then}

-- A number in groups of seven bits, the highest first; from 128 on a byte marks that more follow.
-- With how many groups are left, the number so far, the bytes taken so far and the rest of the file: the number, and how many bytes it takes.
unfoldable pub number_from : ℕ → ℕ → ℕ → List ℕ → Told (ℕ × ℕ)
number_from zero value taken rest = refused 7 0
number_from (suc left) value taken [] = refused 5 0
number_from (suc left) value taken (x ∷ rest) =
    cond (nat_lt x 128) (ok (value * 128 + x, taken + 1)) (number_from left (value * 128 + (x - 128)) (taken + 1) rest)

-- the number at an offset, of at most three groups, and the offset after it
abbrev pub number_at : List ℕ → ℕ → Told (ℕ × ℕ)
number_at file at = and_then (number_from 3 0 0 (drop at file)) (λ p. ok (p.0, at + p.1))

-- a number from least to most, and the offset after it
abbrev pub field_at : List ℕ → ℕ → ℕ → ℕ → Told (ℕ × ℕ)
field_at file at least most =
    and_then (number_at file at) (λ p. cond (nat_lt p.0 least) (refused 7 0) (cond (nat_lt most p.0) (refused 7 0) (ok p)))

-- n bytes
abbrev pub bytes_at : List ℕ → ℕ → ℕ → Told (List ℕ × ℕ)
bytes_at file at n = cond (nat_lt (length file) (at + n)) (refused 5 0) (ok (take n (drop at file), at))

-- a count of at most so many and then that many bytes: the bytes, and their offset
abbrev pub counted_at : List ℕ → ℕ → ℕ → Told (List ℕ × ℕ)
counted_at file at most = and_then (field_at file at 0 most) (λ count. bytes_at file count.1 count.0)

abbrev pub counted_bytes : Bor (List ℕ) × ℕ → List ℕ × ℕ
counted_bytes p = (p.0.now, p.1)
