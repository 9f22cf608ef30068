-- The laws over runs, of a board as it is made. Assumes nothing.
use Rattle.std.proofs.Common.{◌≡◌, refl, sym, subst}
use Rattle.part.specs.Ops.{Ops}
use Rattle.part.specs.Keeps.{Keeps}
use Rattle.board.specs.declared.board.Board.{Board}
use Rattle.board.specs.Engine.{idle}
use Rattle.board.specs.Cause.{Caused}
use Rattle.board.specs.Obeys.{Obeys}
use Rattle.board.specs.Recovery.{Recoverable}
use Rattle.board.proofs.Running.{obeys}
use Rattle.board.proofs.Causing.{caused}
use Rattle.board.proofs.Recovering.{recoverable}

module _ {S : Type 0} (ops : Ops S) (keeps : Keeps ops) (s : S) (b : Board S) (made : b ≡ idle (ops.renew s)) where
  pub made_obeys : Obeys ops b
  made_obeys = subst (Obeys ops) (sym made) (obeys ops _ refl)

  pub made_causes : Caused ops b
  made_causes = subst (Caused ops) (sym made) (caused ops keeps _ refl)

  pub made_recovers : Recoverable ops b
  made_recovers = subst (Recoverable ops) (sym made) (recoverable ops keeps _ refl)
