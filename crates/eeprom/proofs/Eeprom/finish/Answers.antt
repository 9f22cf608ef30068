use Rattle.std.proofs.Common.{None, ap, ◌∙◌, rules}
use Rattle.eeprom.specs.Cells.{all_of}
use Rattle.eeprom.proofs.Places.{made_table}
use Rattle.eeprom.proofs.Eeprom.finish.Goals as goal

pub returns : goal.returns
returns g c =
    c.end.ensures ∙ ap
    (λ xs. record { bytes = xs; staged = c.args.self.now.staged; under_way = all_of g.row.N None })
    (made_table _ _ _ 0 _ _ c.from_fn-self.ensures.items (λ i y q k. search rules))
