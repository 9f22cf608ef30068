-- The law of runs, whole: what holds of every run of calls, samples, finishes and power cuts, from the making of a board on.
use Rattle.part.specs.Ops.{Ops}
use Rattle.board.specs.declared.board.Board.{Board}
use Rattle.board.specs.Cause.{Caused}
use Rattle.board.specs.Obeys.{Obeys}
use Rattle.board.specs.Recovery.{Recoverable}
use Rattle.board.specs.Runs.{GoesOn}
use Rattle.runs.specs.Lock.{Locks}

pub record Lawful {S : Type 0} (ops : Ops S) (made : Board S) : Type 0 where
  -- each state is what the rules make of the calls so far
  pub obeys : Obeys ops made
  -- a stored byte changes only for cause
  pub causes : Caused ops made
  -- the lock of every X9520 holds
  pub locks : Locks ops made
  -- ten clocks free the wires, and then a START is heard
  pub recovers : Recoverable ops made
  -- a run goes on as one run
  pub goes_on : GoesOn ops made
