use Rattle.std.proofs.Common.{◌≡◌, ◌+◌, ◌-◌, ◌^◌, ◌<◌, min, length}
use Rattle.jobfile.specs.FileJobs.{file_jobs}
use Rattle.jobfile.specs.Left.{left}
use Rattle.runner.specs.Sizes.{all_answers}
use Rattle.runner.proofs.room.room_for.Given as goal

abbrev pub invariant-loop-job : goal.invariant-loop-job
invariant-loop-job l =
    (goal.iterator-loop-job).can_next l.job-iterator
    × (goal.iterator-loop-job).is_finite l.job-iterator
    × (l.room.bytes < 2 ^ 64)
    × (l.room.results + length (left l.job-iterator) ≡ length (file_jobs l.file))
    × (min (l.room.bytes + all_answers (left l.job-iterator)) (2 ^ 64 - 1) ≡ min (all_answers (file_jobs l.file)) (2 ^ 64 - 1))
