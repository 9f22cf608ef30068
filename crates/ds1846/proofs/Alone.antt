-- What the chip promises besides the laws of every part. Assumes nothing.
use Rattle.std.proofs.Common.{◌≡◌, ℕ, true, false, refl, sym, ap, ◌∙◌}
use Rattle.std.proofs.lemmas.Bool.{and_parts, eqb-true, eq-eqb}
use Rattle.part.specs.declared.levels.Levels.{Levels}
use Rattle.part.specs.Ops.{is}
use Rattle.part.specs.Chips.{AlwaysChip, StaysSettled}
use Rattle.eeprom.specs.Cells.{is_busy}
use Rattle.eeprom.proofs.Moves.{fresh_under_way, free_if}
use Rattle.eeprom.proofs.OnePart.{always_part}
use Rattle.ds1846.specs.declared.state.Ds1846.{Ds1846}
use Rattle.ds1846.specs.Chip.{ds1846, as_part, fresh, heard_in, takes}
use Rattle.ds1846.specs.Keeping.{writing_heard, moves}

fresh_free : is_busy fresh.eeprom ≡ false
fresh_free = free_if fresh.eeprom (fresh_under_way 256)

-- a data byte gets an ACK only in a transfer for writing
taken_heard : (s : Ds1846) (a : ℕ) (l : Levels) → takes s a l ≡ true → is a (heard_in s.mode) ≡ true
taken_heard s a l h =
    let e = eqb-true a 162 (and_parts _ _ (and_parts _ _ h).1).0 in
    sym (ap (is a) (writing_heard s.mode _ h)) ∙ eq-eqb 162 a (sym e)

pub always_ds1846 : AlwaysChip ds1846 fresh
always_ds1846 = always_part as_part moves (λ s a l x. taken_heard s a l) fresh_free

-- it does not look at levels
pub settled_ds1846 : StaysSettled ds1846
settled_ds1846 = record { after_stop = λ s l clean h. refl; after_finish = λ s l q h. refl }
