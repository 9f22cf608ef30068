-- Which write jobs a chip by itself accepts. One that is the one numbered part accepts none while a write is under way in it.
use Rattle.std.proofs.Common.{◌≡◌, ℕ, ◌/◌, Bool, true, false, not, ◌&&◌, List, [], refl, ap, ◌∙◌}
use Rattle.std.proofs.lemmas.Bool.{and_from}
use Rattle.refusals.specs.Told.{Told, ok, refused}
use Rattle.part.specs.Ops.{Ops}
use Rattle.part.specs.declared.levels.Levels.{Levels}
use Rattle.eeprom.specs.Cells.{is_busy, unstages}
use Rattle.eeprom.specs.OnePart.{OnePart, part_of}
use Rattle.eeprom.proofs.Numbered.{deaf_while_busy}
use Rattle.eeprom.proofs.OnePart.{OwnMoves}
use Rattle.controller.specs.Jobs.{write_byte}
use Rattle.controller.specs.Work.{on_ack, bytes, written}

-- a job of the chip u is accepted exactly if it is not busy and takes the bytes
pub record AcceptedIf {C : Type 0} (chip : Ops C) (u : C) (answer : Told (List ℕ)) (Takes : Type 0) : Type 0 where
  pub accepts : chip.busy u 0 ≡ false → Takes → answer ≡ ok []
  pub accepts_only : answer ≡ ok [] → (chip.busy u 0 ≡ false) × Takes

module _ {S : Type 0} {N : ℕ} (c : OnePart S N) (moves : OwnMoves c) (l : Levels) (a : ℕ) (xs : List ℕ) (s : S) where
  -- the chip when the address byte comes
  abbrev started : S
  started = c.start (c.level s l)

  same_busy : is_busy (c.eeprom started) ≡ is_busy (c.eeprom s)
  same_busy = ap is_busy ((moves.start (c.level s l)).eeprom ∙ ap unstages (moves.level s l).eeprom)

  by_ack : {ack : Bool} → (c.has (write_byte a / 2) && not (is_busy (c.eeprom started))) ≡ ack →
      (written (part_of c) l a xs s).1 ≡ (on_ack ack 0 (bytes (part_of c) l (write_byte a) xs) (c.address started (write_byte a))).1
  unfolding written
  by_ack h = ap (λ ack. (on_ack ack 0 (bytes (part_of c) l (write_byte a) xs) (c.address started (write_byte a))).1) h

  pub busy_refuses : is_busy (c.eeprom s) ≡ true → (written (part_of c) l a xs s).1 ≡ refused 8 0
  busy_refuses busy = by_ack (deaf_while_busy (c.eeprom started) true (c.has (write_byte a / 2)) (same_busy ∙ busy))

  free_by : (b : Bool) → is_busy (c.eeprom s) ≡ b → (written (part_of c) l a xs s).1 ≡ ok [] → is_busy (c.eeprom s) ≡ false
  free_by true busy accepted = let refuses = busy_refuses busy in cc
  free_by false free accepted = free

  pub free_if_accepted : (written (part_of c) l a xs s).1 ≡ ok [] → is_busy (c.eeprom s) ≡ false
  free_if_accepted = free_by (is_busy (c.eeprom s)) refl

  -- so it is enough to tell which bytes it accepts while it is not busy
  pub accepted_if : {Takes : Type 0} → (is_busy (c.eeprom s) ≡ false → Takes → (written (part_of c) l a xs s).1 ≡ ok []) →
      (is_busy (c.eeprom s) ≡ false → (written (part_of c) l a xs s).1 ≡ ok [] → Takes) → AcceptedIf (part_of c) s (written (part_of c) l a xs s).1 Takes
  accepted_if takes only = record { accepts = takes; accepts_only = λ accepted. let free = free_if_accepted accepted in (free, only free accepted) }

-- a write of no bytes to one of its addresses
pub empty_accepted : {S : Type 0} {N : ℕ} (c : OnePart S N) (moves : OwnMoves c) (l : Levels) (a : ℕ) (s : S) → c.has (write_byte a / 2) ≡ true →
    AcceptedIf (part_of c) s (written (part_of c) l a [] s).1 (Unit {0})
empty_accepted c moves l a s h =
    accepted_if c moves l a [] s (λ free any. by_ack c moves l a [] s (and_from _ _ h (ap not (same_busy c moves l a [] s ∙ free)))) (λ free accepted. tt)
