-- Levels that the chip knows it knows after a STOP at them too, and after a finish. Assumes nothing.
use Rattle.std.proofs.Common.{◌≡◌, ℕ, Bool, true, false, cond, not, ◌&&◌, ap}
use Rattle.part.specs.declared.levels.Levels.{Levels}
use Rattle.part.specs.Chips.{StaysSettled}
use Rattle.x9520.specs.declared.state.Flags.{Flags}
use Rattle.x9520.specs.declared.state.Mode.{Mode}
use Rattle.x9520.specs.declared.state.Mode.TheVariants.{Idle, Aiming, MemoryBytes, DcpByte, RegisterByte, Moved, Latching, Storing, Reading}
use Rattle.x9520.specs.Chip.{x9520, flags_at, flags_stopped}
use Rattle.x9520.specs.Register.{bit}
use Rattle.x9520.specs.State.{flags}
use Rattle.x9520.specs.Keeping.{flags_again, with_flags}

begun_flags : (b : Bool) (x : ℕ) (l : Levels) (f : Flags) → flags_at f l ≡ f
    → flags_at (cond b (flags (bit 64 x && l.v2ro) (bit 32 x && l.v3ro)) f) l ≡ cond b (flags (bit 64 x && l.v2ro) (bit 32 x && l.v3ro)) f
begun_flags true x l f h = flags_again (bit 64 x) (bit 32 x) l
begun_flags false x l f h = h

stopped_flags : (m : Mode) (b : Bool) (l : Levels) (f : Flags) → flags_at f l ≡ f → flags_at (flags_stopped m b l f) l ≡ flags_stopped m b l f
stopped_flags Idle b l f h = h
stopped_flags (Aiming d) b l f h = h
stopped_flags MemoryBytes b l f h = h
stopped_flags (DcpByte store) b l f h = h
stopped_flags RegisterByte b l f h = h
stopped_flags Moved b l f h = h
stopped_flags (Latching x) b l f h = h
stopped_flags (Storing x) b l f h = begun_flags b x l f h
stopped_flags (Reading d) b l f h = h

pub settled_x9520 : StaysSettled x9520
settled_x9520 = record {
  after_stop = λ s l clean h. ap (with_flags (x9520.stop s clean l)) (stopped_flags s.mode (clean && not l.wp) l s.flags (ap (λ t. t.flags) h));
  after_finish = λ s l q h. ap (λ t. x9520.finish t q) h;
}
