-- What a job says, by values. One beyond a limit is refused with 7.
use Rattle.std.specs.Prelude.{ℕ, cond, List, length, nat_lt}
use Rattle.refusals.specs.Told.{Told, ok, refused}
use Rattle.jobfile.specs.declared.cut.Cut.{Cut}
use Rattle.jobfile.specs.declared.finish.Finish.{Finish}
use Rattle.jobfile.specs.declared.read.Read.{Read}
use Rattle.jobfile.specs.declared.samples.Samples.{Samples}
use Rattle.jobfile.specs.declared.wait.Wait.{Wait}
use Rattle.jobfile.specs.declared.write.Write.{Write}

-- bytes stand beside the offset of the first
pub data Said : Type 0 where
  write : (address : ℕ) (bytes : List ℕ) (at : ℕ) → Said
  read : (address : ℕ) (aim : List ℕ) (at : ℕ) (count : ℕ) → Said
  wait : (address : ℕ) (polls : ℕ) → Said
  finish : (part : ℕ) → Said
  cut : (mask : ℕ) → Said
  recover : Said
  samples : (bytes : List ℕ) (at : ℕ) → Said

-- What a record says: its fields, which its ghost fields hold within the limits.
abbrev pub shown_write : Write → Said
shown_write job = write job.address job.bytes.now job.at

abbrev pub shown_read : Read → Said
shown_read job = read job.address job.aim.now job.at job.count

abbrev pub shown_wait : Wait → Said
shown_wait job = wait job.address job.polls

abbrev pub shown_finish : Finish → Said
shown_finish job = finish job.part

abbrev pub shown_cut : Cut → Said
shown_cut job = cut job.mask

abbrev pub shown_samples : Samples → Said
shown_samples job = samples job.bytes.now job.at

-- What a maker answers: the job as given, or the refusal of one beyond a limit.
abbrev pub written : ℕ → List ℕ → ℕ → Told Said
written address bytes at =
    cond (nat_lt 127 address) (refused 7 0) (cond (nat_lt 255 (length bytes)) (refused 7 0) (ok (write address bytes at)))

abbrev pub readable : ℕ → List ℕ → ℕ → ℕ → Told Said
readable address aim at count =
    cond (nat_lt 127 address) (refused 7 0) (cond (nat_lt 2 (length aim)) (refused 7 0) (cond (nat_lt count 1) (refused 7 0) (ok (read address aim at count))))

abbrev pub waited : ℕ → ℕ → Told Said
waited address polls =
    cond (nat_lt 127 address) (refused 7 0) (cond (nat_lt polls 1) (refused 7 0) (cond (nat_lt 1000 polls) (refused 7 0) (ok (wait address polls))))

abbrev pub sampled : List ℕ → ℕ → Told Said
sampled bytes at = cond (nat_lt 255 (length bytes)) (refused 7 0) (ok (samples bytes at))
