-- All that can be done to a part, one move after another.
use Rattle.std.specs.Prelude.{ℕ, Bool, List, [], ◌∷◌}
use Rattle.part.specs.declared.levels.Levels.{Levels}
use Rattle.part.specs.declared.power.PowerCut.{PowerCut}
use Rattle.part.specs.Ops.{Ops}

pub data Move : Type 0 where
  starting : Move
  addressing : (byte : ℕ) → Move
  aiming : (address : ℕ) (levels : Levels) (byte : ℕ) → Move
  taking : (address : ℕ) (levels : Levels) (byte : ℕ) → Move
  giving : (address : ℕ) → Move
  levelling : (levels : Levels) → Move
  stopping : (clean : Bool) (levels : Levels) → Move
  finishing : (part : ℕ) → Move
  cutting : (power : PowerCut) → Move
  renewing : Move

module _ {S : Type 0} (ops : Ops S) where
  abbrev pub moved : S → Move → S
  moved s starting = ops.start s
  moved s (addressing x) = ops.address s x
  moved s (aiming a l x) = ops.aim s a l x
  moved s (taking a l x) = ops.take s a l x
  moved s (giving a) = ops.give s a
  moved s (levelling l) = ops.level s l
  moved s (stopping clean l) = ops.stop s clean l
  moved s (finishing k) = ops.finish s k
  moved s (cutting p) = ops.cut s p
  moved s renewing = ops.renew s

  abbrev pub after : S → List Move → S
  after s [] = s
  after s (m ∷ ms) = after (moved s m) ms
