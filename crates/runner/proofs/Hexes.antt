-- The hexadecimal text of bytes, one chunk after another. Assumes nothing.
use Rattle.std.proofs.Common.{◌≡◌, ℕ, suc, ◌/◌, ◌%◌, ◌<◌, ◌==◌, true, List, [], ◌∷◌, ◌++◌, length, slice_index, ltb, inl, inr, refl, ap, arith}
use Rattle.std.specs.Str.{IsUtf8, IsAscii}
use Rattle.std.proofs.lemmas.Bool.{agree_below_at, cases_lt, eqb-true, ltb-true}
use Rattle.std.proofs.lemmas.List.{get_or_past}
use Rattle.std.proofs.lemmas.Str.{IsUtf8-from_ascii}
use Rattle.hex.specs.Hex.{IsBytes, encode_lower, encode_with, lower_digits}
use Rattle.hex.proofs.HexLemmas.{IsAscii-encode_with}
use Rattle.runner.specs.Lines.{hex_digit, hexes, bytes_text}

-- the digits of the table
digit_at : (n : ℕ) → n < 16 → slice_index lower_digits n ≡ hex_digit n
digit_at n h = eqb-true _ _ (agree_below_at (λ n. slice_index lower_digits n == hex_digit n) (λ n. true) 16 n refl h)

pub encoded : (xs : List ℕ) → IsBytes xs → encode_lower xs ≡ hexes xs
unfolding encode_with
encoded [] h = refl
encoded (x ∷ xs) h =
    let b = h 0 in
    let high = digit_at (x / 16) (omega arith) in
    let low = digit_at (x % 16) (omega arith) in
    let rest = encoded xs (λ i. h (suc i)) in
    rw (high, low, rest) refl

pub hexes_append : (xs ys : List ℕ) → hexes (xs ++ ys) ≡ hexes xs ++ hexes ys
hexes_append [] ys = refl
hexes_append (x ∷ xs) ys = ap (λ (r : List ℕ). hex_digit (x / 16) ∷ hex_digit (x % 16) ∷ r) (hexes_append xs ys)

pub some_text : (xs : List ℕ) → 0 < length xs → hexes xs ≡ bytes_text xs
some_text [] h = absurd (omega arith)
some_text (x ∷ xs) h = refl

ascii : IsAscii lower_digits
ascii i = elim (cases_lt i 16) [
  | inl h ↦ ltb-true _ _ (agree_below_at (λ n. ltb (slice_index lower_digits n) 128) (λ n. true) 16 i refl h)
  | inr h ↦ let past = get_or_past lower_digits i 0 h in omega (arith, past)
]

pub is_text : (xs : List ℕ) → IsUtf8 (encode_lower xs)
is_text xs = IsUtf8-from_ascii (encode_lower xs) (IsAscii-encode_with lower_digits xs ascii)
