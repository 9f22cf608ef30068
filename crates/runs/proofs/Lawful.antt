-- The law of runs, put together. Assumes nothing.
use Rattle.std.proofs.Common.{◌≡◌, sym, subst}
use Rattle.part.specs.Ops.{Ops}
use Rattle.part.specs.Keeps.{Keeps}
use Rattle.board.specs.declared.board.Board.{Board}
use Rattle.board.specs.Engine.{idle}
use Rattle.board.specs.Cause.{Caused}
use Rattle.board.specs.Obeys.{Obeys}
use Rattle.board.specs.Recovery.{Recoverable}
use Rattle.board.specs.Runs.{GoesOn}
use Rattle.runs.specs.Lawful.{Lawful}
use Rattle.runs.specs.Lock.{Locks}
use Rattle.runs.proofs.Locking.{locking}

module _ {S : Type 0} (ops : Ops S) (keeps : Keeps ops) (s : S) (b : Board S) (made : b ≡ idle (ops.renew s)) where
  pub made_lawful : Obeys ops b → Caused ops b → Recoverable ops b → GoesOn ops b → Lawful ops b
  made_lawful o c r g = record { obeys = o; causes = c; locks = subst (Locks ops) (sym made) (locking ops keeps s); recovers = r; goes_on = g }
