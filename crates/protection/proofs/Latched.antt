-- Latches are the same where both flags are: that they are in order has one proof at most. Assumes nothing.
use mathlib.Core.Path.{◌≡◌}
use mathlib.Core.Bool.{true, Bool-set}
use mathlib.Core.HLevel.{is_prop→PathP, →_prop}
use Rattle.protection.specs.declared.latches.Latches.{Latches}

pub same_latches : (a b : Latches) → a.wel ≡ b.wel → a.rwel ≡ b.rwel → a ≡ b
same_latches a b p q = λ i. record {
  wel = p i;
  rwel = q i;
  ordered = is_prop→PathP (λ j. q j ≡ true → p j ≡ true) (λ j. →_prop (Bool-set (p j) true)) a.ordered b.ordered i;
}
