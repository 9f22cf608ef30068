-- What a job that answers bytes leaves in the caller's row.
use Rattle.std.specs.Prelude.{◌≡◌, ℕ, List, length}
use Rattle.refusals.specs.Told.{Told, ok, refused}
use Rattle.board.specs.declared.board.Board.{Board}
use Rattle.rows.specs.declared.row.Row.{Row}
use Rattle.rows.specs.Rows.{Grown}

-- the bytes answered are appended to the row, and a refusal leaves it as it was
abbrev pub Answered : Row ℕ → Told (List ℕ) → Row ℕ → Type 0
Answered before (ok xs) after = Grown before xs after
Answered before (refused n p) after = after ≡ before

-- an accepted job answers n bytes
abbrev pub Lasts : ℕ → Told (List ℕ) → Type 0
Lasts n (ok xs) = length xs ≡ n
Lasts n (refused r p) = Unit {0}

-- an answer without its bytes, which went into the row
abbrev pub plain : Told (List ℕ) → Told (Unit {0})
plain (ok xs) = ok tt
plain (refused n p) = refused n p

-- board, row and answer after a job are those of its master's run
pub record Into {S : Type 0} (ran : Board S × Told (List ℕ)) (board : Board S) (before after : Row ℕ) (answer : Told (Unit {0})) : Type 0 where
  pub board_is : board ≡ ran.0
  pub row_is : Answered before ran.1 after
  pub answer_is : answer ≡ plain ran.1
