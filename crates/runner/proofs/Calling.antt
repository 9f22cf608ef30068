-- What a file does to a board is the run of the calls that its jobs give.
use Rattle.std.proofs.Common.{◌≡◌, ℕ, Bool, true, false, List, [], ◌∷◌, length, sym, refl, ap, ◌∙◌}
use Rattle.refusals.specs.Told.{Told, ok, refused}
use Rattle.part.specs.Ops.{Ops}
use Rattle.part.specs.declared.levels.Levels.{Levels}
use Rattle.board.specs.declared.board.Board.{Board}
use Rattle.board.specs.Answers.{after_all}
use Rattle.board.specs.Runs.{Leads}
use Rattle.board.proofs.Splices.{after_leads, after_more, leads_none}
use Rattle.jobfile.specs.Said.{Said, write, read, wait, finish, cut, recover, samples}
use Rattle.jobfile.specs.FileJobs.{FileJob}
use Rattle.controller.specs.Said.{master_of}
use Rattle.controller.proofs.Sampling.{after_samples}
use Rattle.runner.specs.Results.{calls_run}
use Rattle.runner.specs.Runs.{job_run, file_job_run, ran, job_calls, file_job_calls, file_calls}

module _ {S : Type 0} (ops : Ops S) (l : Levels) where
  job_after : (job : Said) (b : Board S) → (job_run ops l job b).0 ≡ after_all ops b (job_calls ops l job b)
  unfolding job_run
  job_after (write a xs at) b = after_samples ops (master_of l 0 (write a xs at)) b
  job_after (read a aim at n) b = after_samples ops (master_of l n (read a aim at n)) b
  job_after (wait a n) b = after_samples ops (master_of l 0 (wait a n)) b
  job_after (finish k) b = refl
  job_after (cut mask) b = refl
  job_after recover b = after_samples ops (master_of l 1 recover) b
  job_after (samples xs at) b = after_samples ops (master_of l (length xs) (samples xs at)) b

  file_job_after : (job : Told Said) (at : ℕ) (b : Board S) → (file_job_run ops l job at b).0 ≡ after_all ops b (file_job_calls ops l job b)
  file_job_after (ok said) at b = job_after said b
  file_job_after (refused r p) at b = refl

  jobs_after : (jobs : List FileJob) (b : Board S) → (ran ops l jobs b).0 ≡ after_all ops b (file_calls ops l jobs b)
  unfolding ran
  jobs_after [] b = refl
  jobs_after (job ∷ jobs) b =
      let c : Board S = (file_job_run ops l job.0 job.1 b).0 in
      jobs_after jobs c
      ∙ ap (λ d. after_all ops d (file_calls ops l jobs c)) (file_job_after job.0 job.1 b)
      ∙ sym (after_more ops b (file_job_calls ops l job.0 b) (file_calls ops l jobs c))

  pub file_called : (fits : Bool) (jobs : List FileJob) (b c : Board S) → fits ≡ true → c ≡ (ran ops l jobs b).0 → Leads ops b (calls_run ops l fits jobs b) c
  file_called fits jobs b c f e = rw f (after_leads ops b c (file_calls ops l jobs b) (e ∙ jobs_after jobs b))

  pub none_called : (fits : Bool) (jobs : List FileJob) (b : Board S) → fits ≡ false → Leads ops b (calls_run ops l fits jobs b) b
  none_called fits jobs b f = rw f (leads_none ops b)
