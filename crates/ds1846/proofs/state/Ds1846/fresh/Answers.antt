use Rattle.eeprom.proofs.Seat.{sits_itself}
use Rattle.ds1846.specs.Chip.{as_part}
use Rattle.ds1846.specs.Keeping.{moves}
use Rattle.ds1846.proofs.Alone.{always_ds1846, settled_ds1846}
use Rattle.ds1846.proofs.state.Ds1846.fresh.Goals as goal

pub returns-clause-seat : goal.returns-clause-seat
returns-clause-seat c = sits_itself as_part moves

pub returns-clause-always : goal.returns-clause-always
returns-clause-always c = always_ds1846

pub returns-clause-settled : goal.returns-clause-settled
returns-clause-settled c = settled_ds1846
