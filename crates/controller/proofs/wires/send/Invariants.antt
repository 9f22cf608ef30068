use Rattle.std.proofs.Common.{◌≡◌, ◌-◌}
use Rattle.controller.specs.Master.{run}
use Rattle.controller.specs.Bytes.{send_bits}
use Rattle.controller.proofs.wires.send.Given as goal

abbrev pub invariant-loop-n : goal.invariant-loop-n
invariant-loop-n g l =
    run g.P.Part.ops (send_bits l.levels (8 - l.n) l.byte) l.board ≡ run g.P.Part.ops (send_bits l.levels 8 l.byte) l.initial.board
