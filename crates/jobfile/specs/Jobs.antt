-- The job at an offset of a file, and the offset of the next. Fields are tested in the order of the file; the first that is refused decides.
use Rattle.std.specs.Prelude.{ℕ, ◌+◌, cond, List, length, ◌==◌, nat_lt, slice_index}
use Rattle.refusals.specs.Told.{Told, ok, refused, and_then}
use Rattle.jobfile.specs.declared.job.Job.{Job}
use Rattle.jobfile.specs.declared.job.Job.TheVariants.{Write, Read, Wait, Finish, Cut, Recover, Samples}
use Rattle.jobfile.specs.Fields.{number_at, field_at, counted_at}
use Rattle.jobfile.specs.Said.{Said, write, read, wait, finish, cut, recover, samples, shown_write, shown_read, shown_wait, shown_finish, shown_cut, shown_samples}

abbrev pub said : Job → Said
said (Write job) = shown_write job
said (Read job) = shown_read job
said (Wait job) = shown_wait job
said (Finish job) = shown_finish job
said (Cut job) = shown_cut job
said Recover = recover
said (Samples job) = shown_samples job

abbrev pub said_next : Job × ℕ → Said × ℕ
said_next p = (said p.0, p.1)

-- address, counted bytes
abbrev pub write_at : List ℕ → ℕ → Told (Said × ℕ)
write_at file at =
    and_then (field_at file at 0 127) (λ address.
    and_then (counted_at file address.1 255) (λ bytes.
    ok (write address.0 bytes.0 bytes.1, bytes.1 + length bytes.0)))

-- address, counted aim bytes, read count
abbrev pub read_at : List ℕ → ℕ → Told (Said × ℕ)
read_at file at =
    and_then (field_at file at 0 127) (λ address.
    and_then (counted_at file address.1 2) (λ aim.
    and_then (field_at file (aim.1 + length aim.0) 1 255) (λ count.
    ok (read address.0 aim.0 aim.1 count.0, count.1))))

-- address, polls
abbrev pub wait_at : List ℕ → ℕ → Told (Said × ℕ)
wait_at file at =
    and_then (field_at file at 0 127) (λ address.
    and_then (field_at file address.1 1 1000) (λ polls.
    ok (wait address.0 polls.0, polls.1)))

-- part number
abbrev pub finish_at : List ℕ → ℕ → Told (Said × ℕ)
finish_at file at = and_then (number_at file at) (λ part. ok (finish part.0, part.1))

-- mask
abbrev pub cut_at : List ℕ → ℕ → Told (Said × ℕ)
cut_at file at = and_then (field_at file at 0 65535) (λ mask. ok (cut mask.0, mask.1))

-- no field
abbrev pub recover_at : List ℕ → ℕ → Told (Said × ℕ)
recover_at file at = ok (recover, at)

-- counted samples
abbrev pub samples_at : List ℕ → ℕ → Told (Said × ℕ)
samples_at file at =
    and_then (counted_at file at 255) (λ bytes. ok (samples bytes.0 bytes.1, bytes.1 + length bytes.0))

-- by its kind byte, with the offset after that
abbrev pub job_as : ℕ → List ℕ → ℕ → Told (Said × ℕ)
job_as kind file at =
    cond (kind == 1) (write_at file at) (
    cond (kind == 2) (read_at file at) (
    cond (kind == 3) (wait_at file at) (
    cond (kind == 4) (finish_at file at) (
    cond (kind == 5) (cut_at file at) (
    cond (kind == 6) (recover_at file at) (
    cond (kind == 7) (samples_at file at) (
    refused 6 0)))))))

abbrev pub job_at : List ℕ → ℕ → Told (Said × ℕ)
job_at file at = cond (nat_lt at (length file)) (job_as (slice_index file at) file (at + 1)) (refused 5 0)
