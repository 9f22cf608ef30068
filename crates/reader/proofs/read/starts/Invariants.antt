use Rattle.std.proofs.Common.{◌≡◌, ◌+◌, ◌-◌, ◌≤◌, length}
use Rattle.reader.proofs.After.{wires_after}
use Rattle.reader.specs.Reading.{rows_after}
use Rattle.reader.proofs.read.starts.Given as goal

-- wires and count are those of the samples so far, and no more STARTs are few than samples
abbrev pub invariant-loop-n : goal.invariant-loop-n
invariant-loop-n l = (l.wires ≡ wires_after l.recording l.n) × (l.count + l.few ≡ length (rows_after l.recording l.n)) × (l.at + l.few ≤ l.n)

abbrev pub invariant-loop-at : goal.invariant-loop-at
invariant-loop-at l = (l.wires ≡ wires_after l.recording l.at) × (l.count ≡ length (rows_after l.recording l.at)) × (l.at ≤ length l.recording)

abbrev pub decreases-loop-at : goal.decreases-loop-at
decreases-loop-at l = length l.recording - l.at
