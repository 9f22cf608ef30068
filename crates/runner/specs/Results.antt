-- The results of a file as they stand in the caller's row.
use Rattle.std.specs.Prelude.{◌≡◌, ℕ, ◌+◌, ◌-◌, Bool, true, false, ◌&&◌, List, [], ◌∷◌, map, length, Ok, Err, Result, nat_le}
use Rattle.refusals.specs.Told.{Told, ok, refused}
use Rattle.rows.specs.declared.row.Row.{Row}
use Rattle.rows.specs.Rows.{Grown, items_of}
use Rattle.part.specs.Ops.{Ops}
use Rattle.part.specs.declared.levels.Levels.{Levels}
use Rattle.board.specs.declared.board.Board.{Board}
use Rattle.board.specs.declared.call.Call.{Call}
use Rattle.runner.specs.declared.result.JobResult.{JobResult}
use Rattle.runner.specs.declared.result.Done.{Done}
use Rattle.runner.specs.declared.result.Refused.{Refused}
use Rattle.jobfile.specs.FileJobs.{FileJob}
use Rattle.runner.specs.Sizes.{all_answers}
use Rattle.runner.specs.Runs.{all_bytes, file_calls}

-- what an outcome shows: where its bytes stand and how many there are, or the number of a refusal and its place
pub data Seen : Type 0 where
  done : (from count : ℕ) → Seen
  no : (refusal place : ℕ) → Seen

abbrev pub seen : Result Done Refused → Seen
seen (Ok bytes) = done bytes.from bytes.count
seen (Err why) = no why.number why.place

abbrev pub shown : JobResult → ℕ × Seen
shown result = (result.number, seen result.outcome)

-- an answer whose bytes stand from a place on
abbrev pub seen_at : ℕ → Told (List ℕ) → Seen
seen_at from (ok xs) = done from (length xs)
seen_at from (refused r p) = no r p

-- what a call's answer shows where its bytes stand between two places
abbrev pub seen_between : ℕ → ℕ → Told (Unit {0}) → Seen
seen_between from to (ok x) = done from (to - from)
seen_between from to (refused r p) = no r p

-- one result more, of job number n
abbrev pub Listed : ℕ → ℕ → Told (List ℕ) → Row JobResult → Row JobResult → Type 0
Listed n from t before after = (x : JobResult) × Grown before (x ∷ []) after × (shown x ≡ (n, seen_at from t))

-- the place after its bytes
abbrev pub place_after : ℕ → Told (List ℕ) → ℕ
place_after from (ok xs) = from + length xs
place_after from (refused r p) = from

-- answers one after another, numbered from n on, with their bytes from a place on
abbrev pub listed : ℕ → ℕ → List (Told (List ℕ)) → List (ℕ × Seen)
listed n from [] = []
listed n from (t ∷ ts) = (n, seen_at from t) ∷ listed (n + 1) (place_after from t) ts

-- there is room for a result of each job and for all bytes where every job is accepted
abbrev pub fits : List FileJob → Row JobResult → Row ℕ → Bool
fits jobs results bytes =
    nat_le (length jobs) (length (items_of results) - results.count) && nat_le (all_answers jobs) (length (items_of bytes) - bytes.count)

-- the rows after a file, from its answers: the results are appended in order, numbered from 1, and the answered bytes to the byte list
pub record Filed (answers : List (Told (List ℕ))) (results results' : Row JobResult) (bytes bytes' : Row ℕ) : Type 0 where
  pub listed_as : (xs : List JobResult) × Grown results xs results' × (map shown xs ≡ listed 1 bytes.count answers)
  pub bytes_as : Grown bytes (all_bytes answers) bytes'

-- the calls that a run of the file gives: all of its jobs', where there is room, and else none
abbrev pub calls_run : {S : Type 0} → Ops S → Levels → Bool → List FileJob → Board S → List Call
calls_run ops l true jobs b = file_calls ops l jobs b
calls_run ops l false jobs b = []

-- what a file leaves, where there is room and where there is none
abbrev pub FileRun : {S : Type 0} → Bool → Board S × List (Told (List ℕ)) → Board S → Board S → Row JobResult → Row JobResult → Row ℕ → Row ℕ → Told (Unit {0}) → Type 0
FileRun true ran b b' results results' bytes bytes' t = (b' ≡ ran.0) × Filed ran.1 results results' bytes bytes' × (t ≡ ok tt)
FileRun false ran b b' results results' bytes bytes' t = (b' ≡ b) × (results' ≡ results) × (bytes' ≡ bytes) × (t ≡ refused 9 0)
