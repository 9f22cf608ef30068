use Rattle.pair.proofs.Seating.{firsts, seconds}
use Rattle.pair.proofs.Pair.seats.Goals as goal

pub returns-clause-firsts : goal.returns-clause-firsts
returns-clause-firsts g c = firsts g.A.Part.ops g.B.Part.ops g.C.Part.ops

pub returns-clause-seconds : goal.returns-clause-seconds
returns-clause-seconds g c = seconds g.A.Part.ops g.B.Part.ops g.C.Part.ops g.met.A.Part.keeps
