-- The jobs of a file from an offset on.
use Rattle.std.proofs.Common.{◌≡◌, ℕ, zero, suc, ◌+◌, ◌-◌, ◌<◌, ◌≤◌, Bool, true, false, cond, ltb, List, [], ◌∷◌, length, sym, refl, ap, ◌∙◌, arith}
use Rattle.std.proofs.lemmas.Bool.{lt-ltb, le-ltb}
use Rattle.refusals.specs.Told.{Told, ok, refused}
use Rattle.jobfile.specs.Said.{Said}
use Rattle.jobfile.specs.Jobs.{job_at}
use Rattle.jobfile.specs.FileJobs.{FileJob, job_then, jobs_from, file_jobs}
use Rattle.jobfile.specs.Left.{jobs_at}
use Rattle.jobfile.proofs.Past.{Past, job_past}

-- past the end there are none
none_from : (file : List ℕ) (n at : ℕ) → length file ≤ at → jobs_from n file at ≡ []
unfolding jobs_from
none_from file zero at h = refl
none_from file (suc n) at h = rw (le-ltb at (length file) h)

-- two ways to go on from a job come to the same, if they do at each offset past it
same_then : (t : Told (Said × ℕ)) (at : ℕ) (f g : ℕ → List FileJob) → Past (at + 1) t → ((next : ℕ) → at + 1 ≤ next → f next ≡ g next) → job_then t at f ≡ job_then t at g
same_then (ok job) at f g h e = ap (λ js. (ok job.0, at) ∷ js) (e job.1 h)
same_then (refused r p) at f g h e = refl

-- as many jobs as bytes are left are enough, and more make no difference
enough : (file : List ℕ) (m n at : ℕ) → length file ≤ at + m → length file ≤ at + n → jobs_from m file at ≡ jobs_from n file at
unfolding jobs_from
enough file zero n at h k = sym (none_from file n at (omega arith))
enough file (suc m) zero at h k = none_from file (suc m) at (omega arith)
enough file (suc m) (suc n) at h k =
    ap (λ js. cond (ltb at (length file)) js []) (same_then (job_at file at) at (jobs_from m file) (jobs_from n file) (job_past file at) (λ next l. enough file m n next (omega arith) (omega arith)))

turn : (file : List ℕ) (at : ℕ) → at < length file → jobs_at file at ≡ job_then (job_at file at) at (jobs_at file)
unfolding jobs_from
turn file at h =
    let p : length file - at ≡ suc (length file - (at + 1)) = omega arith in
    let one : jobs_at file at ≡ job_then (job_at file at) at (jobs_from (length file - (at + 1)) file) = rw (p, lt-ltb at (length file) h) in
    one ∙ same_then (job_at file at) at (jobs_from (length file - (at + 1)) file) (jobs_at file) (job_past file at) (λ next l. enough file _ _ next (omega arith) (omega arith))

pub next_job : (file : List ℕ) (at next : ℕ) (said : Said) → at < length file → ok (said, next) ≡ job_at file at → jobs_at file at ≡ (ok said, at) ∷ jobs_at file next
next_job file at next said h e = turn file at h ∙ ap (λ t. job_then t at (jobs_at file)) (sym e)

pub last_job : (file : List ℕ) (at r p : ℕ) → at < length file → refused r p ≡ job_at file at → jobs_at file at ≡ (refused r p, at) ∷ jobs_at file (length file)
last_job file at r p h e =
    turn file at h ∙ ap (λ t. job_then t at (jobs_at file)) (sym e) ∙ ap (λ js. (refused r p, at) ∷ js) (sym (none_from file _ (length file) (omega arith)))

pub no_job : (file : List ℕ) (at : ℕ) → length file ≤ at → jobs_at file at ≡ []
no_job file at h = none_from file _ at h

one_more : (t : Bool) (job : Told (Said × ℕ)) (at n : ℕ) (f : ℕ → List FileJob) → ((next : ℕ) → length (f next) ≤ n) → length (cond t (job_then job at f) []) ≤ suc n
one_more true (ok job) at n f h = let l = h job.1 in omega arith
one_more true (refused r p) at n f h = omega arith
one_more false job at n f h = omega arith

-- no more jobs than may yet come
few : (file : List ℕ) (n at : ℕ) → length (jobs_from n file at) ≤ n
unfolding jobs_from
few file zero at = omega arith
few file (suc n) at = one_more (ltb at (length file)) (job_at file at) at n (jobs_from n file) (few file n)

pub few_jobs : (file : List ℕ) → length (file_jobs file) ≤ length file
few_jobs file = few file (length file) 0

pub ruleset turns = (next_job, last_job, no_job)
