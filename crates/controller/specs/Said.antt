-- What a job of the file says, as a master: at the levels l of the lines, with room for so many answered bytes.
use Rattle.std.specs.Prelude.{ℕ, List, []}
use Rattle.refusals.specs.Told.{Told, ok}
use Rattle.part.specs.declared.levels.Levels.{Levels}
use Rattle.jobfile.specs.Said.{Said, write, read, wait, finish, cut, recover, samples}
use Rattle.controller.specs.Master.{Master, ended}
use Rattle.controller.specs.Jobs.{writing, reading, waiting, sampling, with_room, lowered}
use Rattle.controller.specs.Recovery.{recovering}

-- a write and a wait lower WP; a finish and a power cut are calls of their own and give no samples; a recovery cannot refuse, and answers one byte
abbrev pub master_of : Levels → ℕ → Said → Master (Told (List ℕ))
master_of l room (write a xs at) = writing (lowered l) a xs
master_of l room (read a aim at n) = with_room n room (reading l a aim n)
master_of l room (wait a n) = waiting (lowered l) a n
master_of l room (finish k) = ended (ok [])
master_of l room (cut mask) = ended (ok [])
master_of l room recover = recovering l
master_of l room (samples xs at) = sampling xs room
