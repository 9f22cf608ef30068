-- Short lists of bytes.
use Rattle.std.proofs.Common.{ℕ, zero, suc, ◌<◌, List, [], ◌∷◌, arith}
use Rattle.controller.specs.Bytes.{AllBytes}

pub no_bytes : AllBytes []
no_bytes i = omega arith

pub one_more : (x : ℕ) (xs : List ℕ) → x < 256 → AllBytes xs → AllBytes (x ∷ xs)
one_more x xs h small zero = h
one_more x xs h small (suc i) = small i

pub one_byte : (x : ℕ) → x < 256 → AllBytes (x ∷ [])
one_byte x h = one_more x [] h no_bytes
