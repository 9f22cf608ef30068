use Rattle.jobfile.proofs.Unknown.{no_kind}
use Rattle.std.proofs.Common.{rules}
use Rattle.jobfile.proofs.next_job.Goals as goal

pub returns-in_err-kind-clause-value : goal.returns-in_err-kind-clause-value
returns-in_err-kind-clause-value c = search (rules, no_kind)
