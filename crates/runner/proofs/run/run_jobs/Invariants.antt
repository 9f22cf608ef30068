use Rattle.std.proofs.Common.{◌≡◌}
use Rattle.std.specs.Iterator.Adapters.{enumerate_source, enumerate_count}
use Rattle.jobfile.specs.FileJobs.{file_jobs}
use Rattle.jobfile.specs.Left.{left}
use Rattle.runner.proofs.Progress.{SoFar}
use Rattle.runner.proofs.run.run_jobs.Given as goal

abbrev pub invariant-loop-before : goal.invariant-loop-before
invariant-loop-before g l =
    (goal.iterator-loop-before g).can_next l.before-iterator
    × (goal.iterator-loop-before g).is_finite l.before-iterator
    × SoFar g.P.Part.ops l.initial.lines (file_jobs l.file) l.initial.board l.initial.results l.initial.bytes (enumerate_count l.before-iterator)
    (left (enumerate_source l.before-iterator)) l.board l.results l.bytes
    × (l.lines ≡ l.initial.lines)
    × (l.results.items.ghost_name ≡ l.initial.results.items.ghost_name)
    × (l.bytes.items.ghost_name ≡ l.initial.bytes.items.ghost_name)
