use Rattle.std.proofs.Common.{None, rules}
use Rattle.eeprom.proofs.Places.{made_table}
use Rattle.eeprom.proofs.writes.Writes.fill_from.Goals as goal

pub returns : goal.returns
returns g c = made_table _ _ _ None _ _ c.from_fn-values.ensures.items (λ i y q k. search rules)
