-- What the chip promises besides the laws of every part. Assumes nothing.
use Rattle.std.proofs.Common.{◌≡◌, false}
use Rattle.part.specs.Chips.{AlwaysChip}
use Rattle.eeprom.specs.Cells.{is_busy, all_fresh, stages, begins}
use Rattle.eeprom.proofs.Moves.{finishes_under_way, free_if}
use Rattle.eeprom.proofs.OnePart.{always_part}
use Rattle.x9520.specs.Chip.{x9520, as_part}
use Rattle.x9520.specs.State.{factory, fresh}
use Rattle.x9520.specs.Bytes.{acked_heard}
use Rattle.x9520.specs.Keeping.{moves}

fresh_free : is_busy factory ≡ false
fresh_free = free_if factory (finishes_under_way (begins (stages all_fresh 259 1)))

pub always_x9520 : AlwaysChip x9520 fresh
always_x9520 = always_part as_part moves (λ s a l x. acked_heard s a l.wp x) fresh_free
