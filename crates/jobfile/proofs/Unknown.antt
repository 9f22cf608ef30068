-- A byte that no kind has.
use Rattle.std.proofs.Common.{◌≡◌, ◌≢◌, ℕ, List, sym}
use Rattle.std.proofs.lemmas.Bool.{ne_eqb}
use Rattle.refusals.specs.Told.{refused}
use Rattle.jobfile.specs.declared.kind.Kind.{Kind}
use Rattle.jobfile.specs.declared.kind.Kind.TheVariants.{Write, Read, Wait, Finish, Cut, Recover, Samples}
use Rattle.jobfile.specs.Kinds.{kind_byte}
use Rattle.jobfile.specs.Jobs.{job_as}

pub no_kind : (byte : ℕ) (file : List ℕ) (at : ℕ) → ((kind : Kind) → kind_byte kind ≢ byte) → job_as byte file at ≡ refused 6 0
no_kind byte file at none =
    rw (
      ne_eqb byte 1 (λ e. none Write (sym e)),
      ne_eqb byte 2 (λ e. none Read (sym e)),
      ne_eqb byte 3 (λ e. none Wait (sym e)),
      ne_eqb byte 4 (λ e. none Finish (sym e)),
      ne_eqb byte 5 (λ e. none Cut (sym e)),
      ne_eqb byte 6 (λ e. none Recover (sym e)),
      ne_eqb byte 7 (λ e. none Samples (sym e)),
    )
