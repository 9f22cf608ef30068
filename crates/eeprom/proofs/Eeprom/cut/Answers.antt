use Rattle.std.proofs.Common.{None, ap, ◌∙◌, rules}
use Rattle.eeprom.specs.Cells.{all_of, unstages}
use Rattle.eeprom.proofs.Places.{made_table}
use Rattle.eeprom.proofs.Eeprom.cut.Goals as goal

pub returns : goal.returns
returns g c =
    c.unstage.ensures ∙ ap unstages c.end.ensures ∙ ap
    (λ xs. record { bytes = xs; staged = all_of g.row.N None; under_way = all_of g.row.N None })
    (made_table _ _ _ 0 _ _ c.from_fn-self.ensures.items (λ i y q k. search rules))
