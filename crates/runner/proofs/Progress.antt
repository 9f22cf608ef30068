-- How far a file has been run: what lasts from job to job.
use Rattle.std.proofs.Common.{◌≡◌, ℕ, suc, ◌+◌, ◌<◌, ◌≤◌, List, [], ◌∷◌, ◌++◌, length, sym, refl, ap, ◌∙◌, subst, append_assoc, append-nil, add-zero, arith, length-append}
use mathlib.Core.List.{map-append}
use lib.ListN.{length-map}
use Rattle.refusals.specs.Told.{Told, ok, refused}
use Rattle.part.specs.Ops.{Ops}
use Rattle.part.specs.declared.levels.Levels.{Levels}
use Rattle.board.specs.declared.board.Board.{Board}
use Rattle.rows.specs.declared.row.Row.{Row}
use Rattle.rows.specs.Rows.{Grown, items_of}
use Rattle.rows.proofs.Growing.{grown_none, grown_then, length_grown}
use Rattle.jobfile.specs.FileJobs.{FileJob}
use Rattle.runner.specs.declared.result.JobResult.{JobResult}
use Rattle.runner.specs.Sizes.{job_answers, all_answers}
use Rattle.runner.specs.Results.{Listed, Filed, shown, seen_at, place_after, listed}
use Rattle.runner.specs.Runs.{file_job_run, ran, bytes_of, all_bytes, Within}

-- answers so far, and one more
listed_push : (n from : ℕ) (ts : List (Told (List ℕ))) (t : Told (List ℕ)) → listed n from (ts ++ (t ∷ [])) ≡ listed n from ts ++ ((n + length ts, seen_at (from + length (all_bytes ts)) t) ∷ [])
listed_push n from [] t = ap (λ m. (m, seen_at from t) ∷ []) (sym (add-zero n)) ∙ ap (λ p. (n + 0, seen_at p t) ∷ []) (sym (add-zero from))
listed_push n from (ok xs ∷ ts) t =
    let number : n + 1 + length ts ≡ n + suc (length ts) = omega arith in
    let place : from + length xs + length (all_bytes ts) ≡ from + length (xs ++ all_bytes ts) = omega (arith, length-append xs (all_bytes ts)) in
    ap (λ r. (n, seen_at from (ok xs)) ∷ r) (
    listed_push (n + 1) (from + length xs) ts t
    ∙ ap (λ m. listed (n + 1) (from + length xs) ts ++ ((m, seen_at (from + length xs + length (all_bytes ts)) t) ∷ [])) number
    ∙ ap (λ p. listed (n + 1) (from + length xs) ts ++ ((n + suc (length ts), seen_at p t) ∷ [])) place)
listed_push n from (refused r p ∷ ts) t =
    let number : n + 1 + length ts ≡ n + suc (length ts) = omega arith in
    ap (λ s. (n, seen_at from (refused r p)) ∷ s) (
    listed_push (n + 1) from ts t
    ∙ ap (λ m. listed (n + 1) from ts ++ ((m, seen_at (from + length (all_bytes ts)) t) ∷ [])) number)

all_bytes_push : (ts : List (Told (List ℕ))) (t : Told (List ℕ)) → all_bytes (ts ++ (t ∷ [])) ≡ all_bytes ts ++ bytes_of t
all_bytes_push [] t = append-nil (bytes_of t)
all_bytes_push (u ∷ ts) t = ap (λ r. bytes_of u ++ r) (all_bytes_push ts t) ∙ sym (append_assoc (bytes_of u) (all_bytes ts) (bytes_of t))

length_listed : (n from : ℕ) (ts : List (Told (List ℕ))) → length (listed n from ts) ≡ length ts
length_listed n from [] = refl
length_listed n from (t ∷ ts) = ap suc (length_listed (n + 1) (place_after from t) ts)

module _ {S : Type 0} (ops : Ops S) (l : Levels) (jobs : List FileJob) (b₀ : Board S) (results₀ : Row JobResult) (bytes₀ : Row ℕ) where
  -- so many jobs have been run: their answers and the jobs that are left make up the whole
  pub record SoFar (number : ℕ) (left : List FileJob) (b : Board S) (results : Row JobResult) (bytes : Row ℕ) : Type 0 where
    pub answers : List (Told (List ℕ))
    pub count : length answers ≡ number
    pub all : number + length left ≡ length jobs
    pub whole : ran ops l jobs b₀ ≡ ((ran ops l left b).0, answers ++ (ran ops l left b).1)
    pub filed : Filed answers results₀ results bytes₀ bytes
    pub results_room : results₀.count + length jobs ≤ length (items_of results₀)
    pub bytes_room : bytes₀.count + (length (all_bytes answers) + all_answers left) ≤ length (items_of bytes₀)

  -- at the start
  pub so_far_none : (number : ℕ) (left : List FileJob) → number ≡ 0 → left ≡ jobs → results₀.count + length jobs ≤ length (items_of results₀)
      → bytes₀.count + all_answers jobs ≤ length (items_of bytes₀) → SoFar number left b₀ results₀ bytes₀
  so_far_none number left none e h k =
      record {
        answers = [];
        count = sym none;
        all = omega (arith, none, ap length e);
        whole = ap (λ js. ran ops l js b₀) (sym e);
        filed = record { listed_as = ([], grown_none results₀, refl); bytes_as = grown_none bytes₀ };
        results_room = h;
        bytes_room = omega (arith, k, ap all_answers e);
      }

  module _ (number : ℕ) (left : List FileJob) (b : Board S) (results : Row JobResult) (bytes : Row ℕ) (s : SoFar number left b results bytes) where
    results_so_far : results.count ≡ results₀.count + number
    results_so_far =
        let xs : List JobResult = s.filed.listed_as.0 in
        let n : length xs ≡ number = sym (length-map xs shown) ∙ ap length s.filed.listed_as.2 ∙ length_listed 1 bytes₀.count s.answers ∙ s.count in
        omega (arith, s.filed.listed_as.1.count, n)

    -- at the end
    pub so_far_all : left ≡ [] → (b ≡ (ran ops l jobs b₀).0) × Filed (ran ops l jobs b₀).1 results₀ results bytes₀ bytes
    unfolding ran
    so_far_all none =
        let all : ran ops l jobs b₀ ≡ (b, s.answers) = s.whole ∙ ap (λ js. ((ran ops l js b).0, s.answers ++ (ran ops l js b).1)) none ∙ ap (λ ts. (b, ts)) (append-nil s.answers) in
        (sym (ap (λ r. r.0) all), subst (λ r. Filed r.1 results₀ results bytes₀ bytes) (sym all) s.filed)

    module _ (job : FileJob) (js : List FileJob) (e : left ≡ job ∷ js) where
      -- the result of the next job finds room
      pub result_fits : results.count < length (items_of results)
      result_fits =
          let same = length_grown results₀ results _ s.filed.listed_as.1 in
          omega (arith, results_so_far, s.results_room, s.all, ap length e, same)

      -- one job more
      module _ (b' : Board S) (results' : Row JobResult) (bytes' : Row ℕ) where
        abbrev answer : Told (List ℕ)
        answer = (file_job_run ops l job.0 job.1 b).1

        whole_more : b' ≡ (file_job_run ops l job.0 job.1 b).0 → ran ops l jobs b₀ ≡ ((ran ops l js b').0, (s.answers ++ (answer ∷ [])) ++ (ran ops l js b').1)
        unfolding ran
        whole_more f =
            s.whole
            ∙ ap (λ is. ((ran ops l is b).0, s.answers ++ (ran ops l is b).1)) e
            ∙ ap (λ c. ((ran ops l js c).0, s.answers ++ (answer ∷ (ran ops l js c).1))) (sym f)
            ∙ ap (λ ts. ((ran ops l js b').0, ts)) (sym (append_assoc s.answers (answer ∷ []) (ran ops l js b').1))

        filed_more : Listed (number + 1) bytes.count answer results results' → Grown bytes (bytes_of answer) bytes' → Filed (s.answers ++ (answer ∷ [])) results₀ results' bytes₀ bytes'
        filed_more (x, grown, e) h =
            let xs : List JobResult = s.filed.listed_as.0 in
            let n : number + 1 ≡ 1 + length s.answers = omega (arith, s.count) in
            let from : bytes.count ≡ bytes₀.count + length (all_bytes s.answers) = s.filed.bytes_as.count in
            let put : shown x ≡ (1 + length s.answers, seen_at (bytes₀.count + length (all_bytes s.answers)) answer) =
            e ∙ ap (λ m. (m, seen_at bytes.count answer)) n ∙ ap (λ p. (1 + length s.answers, seen_at p answer)) from in
            let list =
            map-append shown xs (x ∷ [])
            ∙ ap (λ ys. ys ++ (shown x ∷ [])) s.filed.listed_as.2
            ∙ ap (λ y. listed 1 bytes₀.count s.answers ++ (y ∷ [])) put
            ∙ sym (listed_push 1 bytes₀.count s.answers answer) in
            record {
              listed_as = (xs ++ (x ∷ []), grown_then results₀ results results' xs (x ∷ []) s.filed.listed_as.1 grown, list);
              bytes_as = subst (λ ys. Grown bytes₀ ys bytes') (sym (all_bytes_push s.answers answer)) (grown_then bytes₀ bytes bytes' (all_bytes s.answers) (bytes_of answer) s.filed.bytes_as h);
            }

        pub so_far_more : b' ≡ (file_job_run ops l job.0 job.1 b).0 → Listed (number + 1) bytes.count answer results results'
            → Grown bytes (bytes_of answer) bytes' → Within (job_answers job.0) answer → SoFar (number + 1) js b' results' bytes'
        so_far_more f listing grown within =
            let push = length-append s.answers (answer ∷ []) in
            let bytes-push = ap length (all_bytes_push s.answers answer) ∙ length-append (all_bytes s.answers) (bytes_of answer) in
            record {
              answers = s.answers ++ (answer ∷ []);
              count = omega (arith, push, s.count);
              all = omega (arith, s.all, ap length e);
              whole = whole_more f;
              filed = filed_more listing grown;
              results_room = s.results_room;
              bytes_room = omega (arith, s.bytes_room, ap all_answers e, bytes-push, within);
            }
