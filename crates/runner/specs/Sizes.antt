-- How many bytes jobs answer where they are accepted.
use Rattle.std.specs.Prelude.{ℕ, ◌+◌, List, [], ◌∷◌, length}
use Rattle.refusals.specs.Told.{Told, ok, refused}
use Rattle.jobfile.specs.Said.{Said, write, read, wait, finish, cut, recover, samples}
use Rattle.jobfile.specs.FileJobs.{FileJob}

abbrev pub answers : Said → ℕ
answers (write a xs at) = 0
answers (read a aim at n) = n
answers (wait a n) = 0
answers (finish k) = 0
answers (cut mask) = 0
answers recover = 1
answers (samples xs at) = length xs

abbrev pub job_answers : Told Said → ℕ
job_answers (ok said) = answers said
job_answers (refused r p) = 0

abbrev pub all_answers : List FileJob → ℕ
all_answers [] = 0
all_answers (job ∷ jobs) = job_answers job.0 + all_answers jobs
