-- A job file run on a board, at the levels l of the lines beside the wires: the board after each job, and what the job answers.
use Rattle.std.specs.Prelude.{ℕ, ◌≤◌, List, [], ◌∷◌, ◌++◌, length, map}
use Rattle.refusals.specs.Told.{Told, ok, refused}
use Rattle.part.specs.Ops.{Ops}
use Rattle.part.specs.declared.levels.Levels.{Levels}
use Rattle.board.specs.declared.board.Board.{Board}
use Rattle.board.specs.declared.call.Call.{Call}
use Rattle.board.specs.declared.call.Call.TheVariants.{Sample, Finish, Cut}
use Rattle.board.specs.Engine.{finished, finish_told, cut as board-cut}
use Rattle.jobfile.specs.Said.{Said, write, read, wait, finish, cut, recover, samples}
use Rattle.controller.specs.Master.{Master, run, samples_of}
use Rattle.controller.specs.Said.{master_of}
use Rattle.jobfile.specs.FileJobs.{FileJob}

abbrev pub no_bytes : Told (Unit {0}) → Told (List ℕ)
no_bytes (ok x) = ok []
no_bytes (refused r p) = refused r p

-- the bytes that an answer brings
abbrev pub bytes_of : Told (List ℕ) → List ℕ
bytes_of (ok xs) = xs
bytes_of (refused r p) = []

abbrev pub all_bytes : List (Told (List ℕ)) → List ℕ
all_bytes [] = []
all_bytes (t ∷ ts) = bytes_of t ++ all_bytes ts

-- a refused job, and one that answers at most n bytes
abbrev pub Within : ℕ → Told (List ℕ) → Type 0
Within n t = length (bytes_of t) ≤ n

-- one after another: the board goes on, the answers come in order
abbrev pub then_rest : {B A : Type 0} → B × A → (B → B × List A) → B × List A
then_rest ran rest = ((rest ran.0).0, ran.1 ∷ (rest ran.0).1)

module _ {S : Type 0} (ops : Ops S) (l : Levels) where
  -- a finish and a power cut are calls of the board; every other job is a master's run, with room for just its bytes
  unfoldable pub job_run : Said → Board S → Board S × Told (List ℕ)
  job_run (write a xs at) b = run ops (master_of l 0 (write a xs at)) b
  job_run (read a aim at n) b = run ops (master_of l n (read a aim at n)) b
  job_run (wait a n) b = run ops (master_of l 0 (wait a n)) b
  job_run (finish k) b = (finished ops b k, no_bytes (finish_told ops b k))
  job_run (cut mask) b = (board-cut ops b (record { mask = mask }), ok [])
  job_run recover b = run ops (master_of l 1 recover) b
  job_run (samples xs at) b = run ops (master_of l (length xs) (samples xs at)) b

  -- a job as decoded, at its offset: one that cannot be decoded changes nothing, and its place is that offset
  abbrev pub file_job_run : Told Said → ℕ → Board S → Board S × Told (List ℕ)
  file_job_run (ok said) at b = job_run said b
  file_job_run (refused r p) at b = (b, refused r at)

  unfoldable pub ran : List FileJob → Board S → Board S × List (Told (List ℕ))
  ran [] b = (b, [])
  ran (job ∷ jobs) b = then_rest (file_job_run job.0 job.1 b) (ran jobs)

  -- The calls that a job gives the board: a finish and a power cut are one each, and every other job gives the samples of its master.
  abbrev pub samples_given : Master (Told (List ℕ)) → Board S → List Call
  samples_given m b = map (λ x. Sample x) (samples_of ops m b)

  abbrev pub job_calls : Said → Board S → List Call
  job_calls (write a xs at) b = samples_given (master_of l 0 (write a xs at)) b
  job_calls (read a aim at n) b = samples_given (master_of l n (read a aim at n)) b
  job_calls (wait a n) b = samples_given (master_of l 0 (wait a n)) b
  job_calls (finish k) b = Finish k ∷ []
  job_calls (cut mask) b = Cut (record { mask = mask }) ∷ []
  job_calls recover b = samples_given (master_of l 1 recover) b
  job_calls (samples xs at) b = samples_given (master_of l (length xs) (samples xs at)) b

  abbrev pub file_job_calls : Told Said → Board S → List Call
  file_job_calls (ok said) b = job_calls said b
  file_job_calls (refused r p) b = []

  -- those of the jobs of a file, each on the board that the jobs before it leave
  abbrev pub file_calls : List FileJob → Board S → List Call
  file_calls [] b = []
  file_calls (job ∷ jobs) b = file_job_calls job.0 b ++ file_calls jobs (file_job_run job.0 job.1 b).0
