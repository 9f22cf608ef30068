use Rattle.std.proofs.Common.{◌≡◌, ◌+◌, drop}
use Rattle.controller.specs.Master.{run}
use Rattle.controller.specs.Jobs.{send_all}
use Rattle.controller.proofs.sending.send_all.Given as goal

abbrev pub invariant-loop-byte : goal.invariant-loop-byte
invariant-loop-byte g l =
    (l.writing.sent ≡ l.initial.writing.sent + l.byte-index)
    × (run g.P.Part.ops (send_all l.levels l.writing.sent (drop l.byte-index l.bytes)) l.board ≡ run g.P.Part.ops (send_all l.levels l.initial.writing.sent l.bytes) l.initial.board)
