-- A list that is filled from some place on.
use Rattle.std.specs.Prelude.{ℕ, ◌+◌, List, ◌++◌, length, take, drop}

-- the items with xs written from place n on; all others are as they were
abbrev pub filled : {A : Type 0} → List A → ℕ → List A → List A
filled items n xs = take n items ++ (xs ++ drop (n + length xs) items)
