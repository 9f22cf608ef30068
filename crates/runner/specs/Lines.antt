-- The text of a result's line.
use Rattle.std.specs.Prelude.{ℕ, ◌+◌, ◌/◌, ◌%◌, cond, List, [], ◌∷◌, ◌++◌, take, drop, codes, decimal, nat_lt}
use Rattle.runner.specs.declared.result.Refused.{Refused}
use Rattle.runner.specs.Results.{Seen, done, no}

-- a digit of lower-case hex
abbrev pub hex_digit : ℕ → ℕ
hex_digit n = cond (nat_lt n 10) (48 + n) (87 + n)

-- two digits a byte
abbrev pub hexes : List ℕ → List ℕ
hexes [] = []
hexes (x ∷ xs) = hex_digit (x / 16) ∷ hex_digit (x % 16) ∷ hexes xs

abbrev pub bytes_text : List ℕ → List ℕ
bytes_text [] = codes "-"
bytes_text (x ∷ xs) = hexes (x ∷ xs)

-- the refusal and its place
abbrev pub refused_text : Refused → List ℕ
refused_text r = decimal r.number ++ (codes " " ++ decimal r.place)

-- `ok` and the answered bytes, or `no`, the refusal and its place
abbrev pub outcome_text : Seen → List ℕ → List ℕ
outcome_text (done from count) bytes = codes " ok " ++ bytes_text (take count (drop from bytes))
outcome_text (no refusal place) bytes = codes " no " ++ (decimal refusal ++ (codes " " ++ decimal place))

-- the job's number, and what became of it; its bytes stand in the byte list
abbrev pub line_text : ℕ × Seen → List ℕ → List ℕ
line_text result bytes = decimal result.0 ++ outcome_text result.1 bytes
