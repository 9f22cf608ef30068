-- The kinds of jobs, by the byte that a job begins with.
use Rattle.std.specs.Prelude.{◌≡◌, ◌≢◌, ℕ, Ok, Err, Result}
use Rattle.refusals.specs.declared.Refusal.{Refusal}
use Rattle.refusals.specs.declared.Refusal.TheVariants.{UnknownKind}
use Rattle.jobfile.specs.declared.kind.Kind.{Kind}
use Rattle.jobfile.specs.declared.kind.Kind.TheVariants.{Write, Read, Wait, Finish, Cut, Recover, Samples}

abbrev pub kind_byte : Kind → ℕ
kind_byte Write = 1
kind_byte Read = 2
kind_byte Wait = 3
kind_byte Finish = 4
kind_byte Cut = 5
kind_byte Recover = 6
kind_byte Samples = 7

-- the kind with the byte, or a refusal of a byte that no kind has
abbrev pub Decodes : ℕ → Result Kind Refusal → Type 0
Decodes byte (Ok kind) = kind_byte kind ≡ byte
Decodes byte (Err refusal) = (refusal ≡ UnknownKind) × ((kind : Kind) → kind_byte kind ≢ byte)
