-- Each of the three wipers always stands at a tap, and its register holds the byte of that tap. Assumes nothing.
use Rattle.std.proofs.Common.{◌≡◌, ℕ, zero, suc, ◌%◌, ◌<◌, Bool, true, false, cond, eqb, ltb, leb, List, [], ◌∷◌, get_or, refl, arith, lit<}
use Rattle.std.proofs.lemmas.Bool.{ltb-true}
use Rattle.part.specs.Ops.{is}
use Rattle.part.specs.Moves.{Move, starting, addressing, aiming, taking, giving, levelling, stopping, finishing, cutting, renewing, moved, after}
use Rattle.eeprom.specs.declared.Eeprom.{Eeprom}
use Rattle.eeprom.specs.Cells.{byte_at, cuts}
use Rattle.dcp.specs.declared.dcp.Dcp.{Dcp}
use Rattle.dcp.specs.Wiper.{at_byte, byte_for, tap_of}
use Rattle.dcp.proofs.Standing.{holds}
use Rattle.x9520.specs.declared.state.Device.{Device}
use Rattle.x9520.specs.declared.state.Device.TheVariants.{Memory, Register, Dcps}
use Rattle.x9520.specs.declared.state.Mode.{Mode}
use Rattle.x9520.specs.declared.state.Mode.TheVariants.{Idle, Aiming, MemoryBytes, DcpByte, RegisterByte, Moved, Latching, Storing, Reading}
use Rattle.x9520.specs.declared.state.X9520.{X9520}
use Rattle.x9520.specs.Chip.{x9520}
use Rattle.x9520.specs.Sound.{Sound, AlwaysSound}
use Rattle.x9520.specs.State.{factory, fresh, wipers_from, heard_in}
use Rattle.x9520.specs.Writing.{names, opens, rejected, aim_for, aim_in, aim_named, Verdict, refused, barred, pages, moves, latches, stores, verdict, dcps_taken, with_moved, no_dcp}

abbrev pub standing : ℕ → ℕ → ℕ → List Dcp
standing a b c = at_byte 64 a ∷ at_byte 100 b ∷ at_byte 256 c ∷ []

-- each was moved there by a byte
abbrev pub Stands : List Dcp → Type 0
Stands d = (a : ℕ) × ((b : ℕ) × ((c : ℕ) × (d ≡ standing a b c)))

not_one : (t : Bool) (n x a b c : ℕ) (d : List Dcp) → ltb (suc (suc (suc n))) 3 ≡ t → Stands (cond t d (standing a b c))
not_one true n x a b c d e = absurd (omega (arith, ltb-true (suc (suc (suc n))) 3 e))
not_one false n x a b c d e = (a, (b, (c, refl)))

one_moved : (m x a b c : ℕ) → Stands (with_moved (standing a b c) m x)
one_moved zero x a b c = (x, (b, (c, refl)))
one_moved (suc zero) x a b c = (a, (x, (c, refl)))
one_moved (suc (suc zero)) x a b c = (a, (b, (x, refl)))
one_moved (suc (suc (suc n))) x a b c = not_one (ltb (suc (suc (suc n))) 3) n x a b c _ refl

moved_stands : (d : List Dcp) (m x : ℕ) → Stands d → Stands (with_moved d m x)
moved_stands d m x s = rw s.1.1.1 (one_moved m x s.0 s.1.0 s.1.1.0)

taken_stands : (v : Verdict) (d : List Dcp) (m x : ℕ) → Stands d → Stands (dcps_taken v d m x)
taken_stands refused d m x s = s
taken_stands barred d m x s = s
taken_stands pages d m x s = s
taken_stands (moves store) d m x s = moved_stands d m x s
taken_stands latches d m x s = s
taken_stands stores d m x s = s

pub powered_stands : (e : Eeprom 260) → Stands (wipers_from e)
powered_stands e = (byte_at e 256, (byte_at e 257, (byte_at e 258, refl)))

-- and the DCP last named is one of them
named_for : (t : Bool) (x n : ℕ) → ltb (x % 128) 3 ≡ t → n < 3 → aim_named (cond t (names (x % 128) (leb 128 x)) rejected) n < 3
named_for true x n e h = ltb-true (x % 128) 3 e
named_for false x n e h = h

named_opens : (t : Bool) (n : ℕ) → n < 3 → aim_named (cond t opens rejected) n < 3
named_opens true n h = h
named_opens false n h = h

named_at : (d : Device) (x n : ℕ) → n < 3 → aim_named (aim_for d x) n < 3
named_at Memory x n h = h
named_at Register x n h = named_opens (eqb x 255) n h
named_at Dcps x n h = named_for (ltb (x % 128) 3) x n refl h

named_in : (w : Mode) (x n : ℕ) → n < 3 → aim_named (aim_in w x) n < 3
named_in Idle x n h = h
named_in (Aiming d) x n h = named_at d x n h
named_in MemoryBytes x n h = h
named_in (DcpByte store) x n h = h
named_in RegisterByte x n h = h
named_in Moved x n h = h
named_in (Latching y) x n h = h
named_in (Storing y) x n h = h
named_in (Reading d) x n h = h

pub named_by : (t : Bool) (w : Mode) (x n : ℕ) → n < 3 → aim_named (cond t (aim_in w x) rejected) n < 3
named_by true w x n h = named_in w x n h
named_by false w x n h = h

pub step : (s : X9520) (m : Move) → Stands s.dcps × (s.named < 3) → Stands (moved x9520 s m).dcps × ((moved x9520 s m).named < 3)
step s starting h = h
step s (addressing x) h = h
step s (aiming a l x) h = (h.0, named_by (is a (heard_in s.mode)) s.mode x s.named h.1)
step s (taking a l x) h = (taken_stands (verdict s a l.wp x) s.dcps s.named x h.0, h.1)
step s (giving a) h = h
step s (levelling l) h = h
step s (stopping clean l) h = h
step s (finishing k) h = h
step s (cutting p) h = (powered_stands (cuts s.eeprom p.mask), lit< tt)
step s renewing h = (powered_stands factory, lit< tt)

-- what the three hold
taps_are : (j a b c : ℕ) → j < 3 → (get_or (standing a b c) j no_dcp).taps ≡ get_or (64 ∷ 100 ∷ 256 ∷ []) j 0
taps_are zero a b c h = refl
taps_are (suc zero) a b c h = refl
taps_are (suc (suc zero)) a b c h = refl
taps_are (suc (suc (suc n))) a b c h = absurd (omega arith)

registers_hold : (j a b c : ℕ) → j < 3 → (get_or (standing a b c) j no_dcp).register ≡ byte_for (get_or (standing a b c) j no_dcp).taps (tap_of (get_or (standing a b c) j no_dcp))
registers_hold zero a b c h = (holds 64 a).byte
registers_hold (suc zero) a b c h = (holds 100 b).byte
registers_hold (suc (suc zero)) a b c h = (holds 256 c).byte
registers_hold (suc (suc (suc n))) a b c h = absurd (omega arith)

pub sound : (s : X9520) → Stands s.dcps → s.named < 3 → Sound s
sound s d n = record {
  latches = s.latches.ordered;
  named = n;
  taps = λ j h. rw d.1.1.1 (taps_are j d.0 d.1.0 d.1.1.0 h);
  registers = λ j h. rw d.1.1.1 (registers_hold j d.0 d.1.0 d.1.1.0 h);
}

sound_after : (ms : List Move) (s : X9520) → Stands s.dcps × (s.named < 3) → Sound (after x9520 s ms)
sound_after [] s h = sound s h.0 h.1
sound_after (m ∷ ms) s h = sound_after ms (moved x9520 s m) (step s m h)

pub always_sound : AlwaysSound fresh
always_sound ms = sound_after ms fresh (powered_stands factory, lit< tt)
