use Rattle.std.proofs.Common.{arith, ◌∙◌}
use Rattle.std.proofs.Output.{has_written_of_eq}
use Rattle.hex.specs.Hex.{IsBytes}
use Rattle.runner.proofs.Hexes.{encoded, is_text}
use Rattle.runner.proofs.line.write_digits.Goals as goal

pub unreachable-requires-in_default-from_utf8 : goal.unreachable-requires-in_default-from_utf8
unreachable-requires-in_default-from_utf8 g c =
    c.in_default-from_utf8.ensures.cases.0 (rw c.in-Ok.ensures.written (is_text c.args.bytes.now))

pub returns : goal.returns
returns g c = λ plain done.
    let bytes : IsBytes c.args.bytes.now = λ i. let fits = c.type_inv.bytes i in omega arith in
    let shown = c.in-Ok-from_utf8.ensures.cases.0 ∙ c.in-Ok.ensures.written ∙ encoded c.args.bytes.now bytes in
    has_written_of_eq _ _ _ _ _ shown (c.write_str.ensures.writes plain done)
