-- What the iterator over the jobs of a file has left, and what it gives.
use Rattle.std.specs.Prelude.{ℕ, ◌-◌, List, length, Result}
use Rattle.refusals.specs.declared.Refusal.{Refusal}
use Rattle.refusals.specs.Told.{told}
use Rattle.jobfile.specs.declared.job.Job.{Job}
use Rattle.jobfile.specs.declared.jobs.Jobs.{Jobs}
use Rattle.jobfile.specs.Jobs.{said}
use Rattle.jobfile.specs.FileJobs.{FileJob, jobs_from}

-- the jobs from an offset on
abbrev pub jobs_at : List ℕ → ℕ → List FileJob
jobs_at file at = jobs_from (length file - at) file at

abbrev pub left : Jobs → List FileJob
left jobs = jobs_at jobs.file.now jobs.at

-- an item: the offset of a job, and what came of decoding it
abbrev pub file_job : ℕ × Result Job Refusal → FileJob
file_job item = (told said item.1, item.0)
