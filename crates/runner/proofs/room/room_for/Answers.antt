use Rattle.std.proofs.Common.{length, ap, arith}
use Rattle.jobfile.proofs.Turns.{few_jobs}
use Rattle.runner.proofs.room.room_for.Goals as goal

pub overflow_add-room : goal.overflow_add-room
overflow_add-room c = omega (arith, few_jobs c.args.file.now, ap length c.in-Some.ensures.steps)
