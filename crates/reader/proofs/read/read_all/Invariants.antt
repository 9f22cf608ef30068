use Rattle.std.proofs.Common.{◌≡◌, ◌-◌}
use Rattle.reader.specs.Steps.{reader_after, Stands}
use Rattle.reader.specs.Reading.{rows_after}
use Rattle.reader.specs.Recording.{open_after}
use Rattle.reader.proofs.read.read_all.Given as goal

-- reader and row are those of the samples so far, of which the last is n - 1
abbrev pub invariant-loop-n : goal.invariant-loop-n
invariant-loop-n l = (l.reader ≡ reader_after l.recording l.n)
    × Stands l.initial.row (l.n - 1) (open_after l.recording l.n) (rows_after l.recording l.n) l.row
    × (l.row.items.ghost_name ≡ l.initial.row.items.ghost_name)
