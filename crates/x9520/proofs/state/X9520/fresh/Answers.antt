use Rattle.eeprom.proofs.Seat.{sits_itself}
use Rattle.x9520.specs.Chip.{as_part}
use Rattle.x9520.specs.Keeping.{moves}
use Rattle.x9520.proofs.Alone.{always_x9520}
use Rattle.x9520.proofs.Settling.{settled_x9520}
use Rattle.x9520.proofs.Standing.{always_sound}
use Rattle.x9520.proofs.state.X9520.fresh.Goals as goal

pub returns-clause-seat : goal.returns-clause-seat
returns-clause-seat c = sits_itself as_part moves

pub returns-clause-always : goal.returns-clause-always
returns-clause-always c = always_x9520

pub returns-clause-settled : goal.returns-clause-settled
returns-clause-settled c = settled_x9520

pub returns-clause-sound : goal.returns-clause-sound
returns-clause-sound c = always_sound
