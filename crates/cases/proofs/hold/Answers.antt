use Rattle.cases.proofs.Table.{every_case_holds}
use Rattle.cases.proofs.hold.Goals as goal

pub returns : goal.returns
returns c = every_case_holds
