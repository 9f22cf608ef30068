use Rattle.std.proofs.Common.{◌≡◌, ◌-◌, ◌^◌, ◌<◌}
use Rattle.controller.specs.Master.{run}
use Rattle.controller.specs.Bytes.{read_bits}
use Rattle.controller.proofs.wires.receive.Given as goal

abbrev pub invariant-loop-n : goal.invariant-loop-n
invariant-loop-n g l =
    (l.byte < 2 ^ l._n) × (run g.P.Part.ops (read_bits l.levels (8 - l._n) l.byte) l.board ≡ run g.P.Part.ops (read_bits l.levels 8 0) l.initial.board)
