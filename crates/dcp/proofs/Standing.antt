-- A wiper that was moved by a byte stands at the tap of that byte. Assumes nothing.
use Rattle.std.proofs.Common.{◌≡◌, ℕ, Bool, true, false, eqb, sym, ap, ◌∙◌, arith}
use Rattle.dcp.specs.Taps.{byte_of}
use Rattle.dcp.specs.Wiper.{entry_by, byte_by, at_byte, Holds}
use Rattle.dcp.proofs.Table.{inverse}

same_tap : (t : Bool) (taps b : ℕ) → (entry_by t taps (entry_by t taps b).byte).tap ≡ (entry_by t taps b).tap
same_tap true taps b = (inverse _).back _ (inverse b).below (sym (inverse b).its)
same_tap false taps b = omega arith

its_byte : (t : Bool) (taps b : ℕ) → (entry_by t taps b).byte ≡ byte_by t (entry_by t taps (entry_by t taps b).byte).tap
its_byte true taps b = (inverse b).its ∙ ap byte_of (sym (same_tap true taps b))
its_byte false taps b = omega arith

pub holds : (taps b : ℕ) → Holds b (at_byte taps b)
holds taps b = record { tap = same_tap (eqb taps 100) taps b; byte = its_byte (eqb taps 100) taps b }
