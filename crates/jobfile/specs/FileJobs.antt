-- The jobs of a whole file, in order, each with its offset.
use Rattle.std.specs.Prelude.{ℕ, zero, suc, cond, List, [], ◌∷◌, length, nat_lt}
use Rattle.refusals.specs.Told.{Told, ok, refused}
use Rattle.jobfile.specs.Said.{Said}
use Rattle.jobfile.specs.Jobs.{job_at}

-- a job as decoded, or why it cannot be, and its offset
abbrev pub FileJob : Type 0
FileJob = Told Said × ℕ

-- a job at an offset, and the jobs from the next offset on; the first that cannot be decoded is the last
abbrev pub job_then : Told (Said × ℕ) → ℕ → (ℕ → List FileJob) → List FileJob
job_then (ok job) at from = (ok job.0, at) ∷ from job.1
job_then (refused r p) at from = (refused r p, at) ∷ []

-- Every job takes a byte at least, so a file has no more jobs than bytes: n is how many may yet come.
unfoldable pub jobs_from : ℕ → List ℕ → ℕ → List FileJob
jobs_from zero file at = []
jobs_from (suc n) file at = cond (nat_lt at (length file)) (job_then (job_at file at) at (jobs_from n file)) []

abbrev pub file_jobs : List ℕ → List FileJob
file_jobs file = jobs_from (length file) file 0
