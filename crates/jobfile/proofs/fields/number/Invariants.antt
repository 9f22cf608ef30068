use Rattle.std.proofs.Common.{◌≡◌, ◌-◌, ◌<◌, ◌≤◌, drop}
use Rattle.jobfile.specs.Fields.{number_from}
use Rattle.jobfile.proofs.fields.number.Given as goal

abbrev pub invariant-loop-i : goal.invariant-loop-i
invariant-loop-i l =
    (l.i < 3) × (l.i ≤ 0 → l.value ≤ 0) × (l.i ≤ 1 → l.value < 128) × (l.i ≤ 2 → l.value < 16384) × (number_from 3 0 0 l.rest ≡ number_from (3 - l.i) l.value l.i (drop l.i l.rest))
