-- A job's next offset lies past the job's own.
use Rattle.std.proofs.Common.{ℕ, ◌+◌, ◌≤◌, Bool, true, false, cond, List, length, arith, drop, ltb, eqb, slice_index}
use Rattle.refusals.specs.Told.{Told, ok, refused, and_then}
use Rattle.jobfile.specs.Fields.{number_from, number_at, field_at, counted_at}
use Rattle.jobfile.specs.Jobs.{write_at, read_at, wait_at, cut_at, samples_at, job_as, job_at}

-- an offset that comes with an answer is no earlier than this one
abbrev pub Past : {A : Type 0} → ℕ → Told (A × ℕ) → Type 0
Past from (ok p) = from ≤ p.1
Past from (refused n p) = Unit {0}

then_past : {A B : Type 0} (from : ℕ) (t : Told (A × ℕ)) (f : A × ℕ → Told (B × ℕ)) → Past from t → ((a : A × ℕ) → from ≤ a.1 → Past from (f a)) → Past from (and_then t f)
then_past from (ok a) f h k = k a h
then_past from (refused n p) f h k = tt

either_past : {A : Type 0} (from : ℕ) (b : Bool) (t u : Told (A × ℕ)) → Past from t → Past from u → Past from (cond b t u)
either_past from true t u h k = h
either_past from false t u h k = k

module _ (file : List ℕ) (from : ℕ) where
  number_past : (at : ℕ) → from ≤ at → Past from (number_at file at)
  number_past at h = after (number_from 3 0 0 (drop at file))
    where
      after : (t : Told (ℕ × ℕ)) → Past from (and_then t (λ p. ok (p.0, at + p.1)))
      after (ok p) = omega arith
      after (refused n p) = tt

  field_past : (at least most : ℕ) → from ≤ at → Past from (field_at file at least most)
  field_past at least most h =
      then_past from (number_at file at) _ (number_past at h) (λ p k. either_past from (ltb p.0 least) _ _ tt (either_past from (ltb most p.0) _ _ tt k))

  counted_past : (at most : ℕ) → from ≤ at → Past from (counted_at file at most)
  counted_past at most h =
      then_past from (field_at file at 0 most) _ (field_past at 0 most h) (λ p k. either_past from (ltb (length file) (p.1 + p.0)) _ _ tt k)

  write_past : (at : ℕ) → from ≤ at → Past from (write_at file at)
  write_past at h =
      then_past from (field_at file at 0 127) _ (field_past at 0 127 h) (λ a k.
      then_past from (counted_at file a.1 255) _ (counted_past a.1 255 k) (λ p l. let m : from ≤ p.1 + length p.0 = omega arith in m))

  read_past : (at : ℕ) → from ≤ at → Past from (read_at file at)
  read_past at h =
      then_past from (field_at file at 0 127) _ (field_past at 0 127 h) (λ a k.
      then_past from (counted_at file a.1 2) _ (counted_past a.1 2 k) (λ p l.
      then_past from (field_at file (p.1 + length p.0) 1 255) _ (field_past (p.1 + length p.0) 1 255 (omega arith)) (λ c m. m)))

  wait_past : (at : ℕ) → from ≤ at → Past from (wait_at file at)
  wait_past at h =
      then_past from (field_at file at 0 127) _ (field_past at 0 127 h) (λ a k.
      then_past from (field_at file a.1 1 1000) _ (field_past a.1 1 1000 k) (λ p l. l))

  cut_past : (at : ℕ) → from ≤ at → Past from (cut_at file at)
  cut_past at h = then_past from (field_at file at 0 65535) _ (field_past at 0 65535 h) (λ mask k. k)

  samples_past : (at : ℕ) → from ≤ at → Past from (samples_at file at)
  samples_past at h =
      then_past from (counted_at file at 255) _ (counted_past at 255 h) (λ p l. let m : from ≤ p.1 + length p.0 = omega arith in m)

  kind_past : (kind at : ℕ) → from ≤ at → Past from (job_as kind file at)
  kind_past kind at h =
      either_past from (eqb kind 1) _ _ (write_past at h) (
      either_past from (eqb kind 2) _ _ (read_past at h) (
      either_past from (eqb kind 3) _ _ (wait_past at h) (
      either_past from (eqb kind 4) _ _ (then_past from (number_at file at) _ (number_past at h) (λ p k. k)) (
      either_past from (eqb kind 5) _ _ (cut_past at h) (
      either_past from (eqb kind 6) _ _ h (
      either_past from (eqb kind 7) _ _ (samples_past at h) tt))))))

pub job_past : (file : List ℕ) (at : ℕ) → Past (at + 1) (job_at file at)
job_past file at =
    either_past (at + 1) (ltb at (length file)) _ _ (kind_past file (at + 1) (slice_index file at) (at + 1) (omega arith)) tt
