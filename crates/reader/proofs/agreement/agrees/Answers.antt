use Rattle.reader.proofs.Agreeing.{reads_runs}
use Rattle.reader.proofs.agreement.agrees.Goals as goal

pub returns : goal.returns
returns g c = reads_runs g.P.Part.ops
