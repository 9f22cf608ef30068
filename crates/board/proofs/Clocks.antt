-- Ten clocks free the wires, whatever the board stands at. Assumes nothing of the part.
-- What is said is of single samples with SDA released, at any levels: how many rises may yet read LOW before one reads HIGH.
use Rattle.std.proofs.Common.{◌≡◌, ℕ, ◌+◌, ◌-◌, ◌<◌, ◌≤◌, Bool, true, false, cond, not, ltb, sym, refl, arith, ltb-true, ltb-false}
use borrow.Author.Tests.{clash}
use Rattle.part.specs.declared.levels.Levels.{Levels}
use Rattle.part.specs.Ops.{Ops}
use Rattle.board.specs.declared.board.Board.{Board}
use Rattle.board.specs.declared.bus.Next.{Next}
use Rattle.board.specs.declared.bus.Next.TheVariants.{ThenFirst, ThenLater, ThenGiven}
use Rattle.board.specs.declared.bus.Phase.{Phase}
use Rattle.board.specs.declared.bus.Phase.TheVariants.{Closed, Deaf, Taking, AckDue, AckPulled, AckRisen, Giving, Released, Wanted}
use Rattle.board.specs.Engine.{pulls, go_on, shift, held, level, with_levels}
use Rattle.board.specs.Clocks.{clock}

-- how many rises may yet read LOW from a phase with SCL LOW
abbrev pub after_fall : Phase → ℕ
after_fall Closed = 0
after_fall Deaf = 0
after_fall (Taking kind bits byte) = 0
after_fall (AckDue next) = 0
after_fall (AckPulled next) = 9
after_fall (AckRisen next) = 9
after_fall (Giving address rises rest bit) = 1 + (7 - rises)
after_fall (Released address) = 0
after_fall (Wanted address) = 0

-- and with SCL HIGH, where a fall comes first
abbrev pub after_rise : Phase → ℕ
after_rise Closed = 0
after_rise Deaf = 0
after_rise (Taking kind bits byte) = 0
after_rise (AckDue next) = 9
after_rise (AckPulled next) = 9
after_rise (AckRisen next) = 8
after_rise (Giving address rises rest bit) = 8 - rises
after_rise (Released address) = 0
after_rise (Wanted address) = 8

abbrev pub bound_at : Bool → Phase → ℕ
bound_at true ph = after_rise ph
bound_at false ph = after_fall ph

fall_nine : (ph : Phase) → after_fall ph ≤ 9
fall_nine Closed = omega arith
fall_nine Deaf = omega arith
fall_nine (Taking kind bits byte) = omega arith
fall_nine (AckDue next) = omega arith
fall_nine (AckPulled next) = omega arith
fall_nine (AckRisen next) = omega arith
fall_nine (Giving address rises rest bit) = omega arith
fall_nine (Released address) = omega arith
fall_nine (Wanted address) = omega arith

rise_nine : (ph : Phase) → after_rise ph ≤ 9
rise_nine Closed = omega arith
rise_nine Deaf = omega arith
rise_nine (Taking kind bits byte) = omega arith
rise_nine (AckDue next) = omega arith
rise_nine (AckPulled next) = omega arith
rise_nine (AckRisen next) = omega arith
rise_nine (Giving address rises rest bit) = omega arith
rise_nine (Released address) = omega arith
rise_nine (Wanted address) = omega arith

nine_at : (scl : Bool) (ph : Phase) → bound_at scl ph ≤ 9
nine_at true ph = rise_nine ph
nine_at false ph = fall_nine ph

module _ {S : Type 0} where
  abbrev pub bound : Board S → ℕ
  bound b = bound_at b.bus.scl b.bus.phase

  -- at most nine rises read LOW, so one of the first ten reads HIGH
  pub at_most_nine : (b : Board S) → bound b ≤ 9
  at_most_nine b = nine_at b.bus.scl b.bus.phase

  abbrev at : Bool → Bool → Phase → S → Board S
  at scl sda ph s = record { bus = record { scl = scl; sda = sda; phase = ph }; part = s }

module _ {S : Type 0} (ops : Ops S) where
  next_near : (next : Next) (b : Board S) → after_fall (go_on ops next b).bus.phase ≤ 8
  next_near (ThenFirst a) b = omega arith
  next_near (ThenLater a) b = omega arith
  next_near (ThenGiven a) b = omega arith

  shift_near : (more : Bool) (b : Board S) (a rises rest : ℕ) → ltb rises 8 ≡ more → after_fall (shift ops more b a rises rest).bus.phase ≤ 8 - rises
  shift_near true b a rises rest h = let less : rises < 8 = ltb-true rises 8 h in omega arith
  shift_near false b a rises rest h = omega arith

  -- a fall brings no rise that reads LOW
  at_fall : (ph : Phase) (s : S) (sda : Bool) (l : Levels) → after_fall (with_levels ops (at true sda ph s) false true l).bus.phase ≤ after_rise ph
  at_fall Closed s sda l = omega arith
  at_fall Deaf s sda l = omega arith
  at_fall (Taking kind bits byte) s sda l = omega arith
  at_fall (AckDue next) s sda l = omega arith
  at_fall (AckPulled next) s sda l = omega arith
  at_fall (AckRisen next) s sda l = next_near next _
  at_fall (Giving a rises rest bit) s sda l = shift_near (ltb rises 8) _ a rises rest refl
  at_fall (Released a) s sda l = omega arith
  at_fall (Wanted a) s sda l = omega arith

  -- with SCL HIGH in both samples there is nothing, a START or a STOP
  held_near : (sda wire : Bool) (b : Board S) (l : Levels) → after_rise (held ops sda wire b l).bus.phase ≤ after_rise b.bus.phase
  held_near true true b l = omega arith
  held_near true false b l = omega arith
  held_near false true b l = omega arith
  held_near false false b l = omega arith

  no_rise_at : (before scl sda : Bool) (ph : Phase) (s : S) (l : Levels) → (before ≡ false → scl ≡ false) → bound (with_levels ops (at before sda ph s) scl true l) ≤ bound_at before ph
  no_rise_at true true sda ph s l h = held_near sda (not (pulls ph)) (level ops (at true sda ph s) l) l
  no_rise_at true false sda ph s l h = at_fall ph s sda l
  no_rise_at false true sda ph s l h = absurd (clash (sym (h refl)))
  no_rise_at false false sda ph s l h = omega arith

  rise_near : (more : Bool) (rises : ℕ) → ltb rises 8 ≡ more → 8 - cond more (rises + 1) rises < 1 + (7 - rises)
  rise_near true rises h = let less : rises < 8 = ltb-true rises 8 h in omega arith
  rise_near false rises h = let more : 8 ≤ rises = ltb-false rises 8 h in omega arith

  at_rise : (ph : Phase) (s : S) (sda : Bool) (l : Levels) → not (pulls ph) ≡ false → after_rise (with_levels ops (at false sda ph s) true true l).bus.phase < after_fall ph
  at_rise Closed s sda l h = absurd (clash (sym h))
  at_rise Deaf s sda l h = absurd (clash (sym h))
  at_rise (Taking kind bits byte) s sda l h = absurd (clash (sym h))
  at_rise (AckDue next) s sda l h = absurd (clash (sym h))
  at_rise (AckPulled next) s sda l h = omega arith
  at_rise (AckRisen next) s sda l h = omega arith
  at_rise (Giving a rises rest bit) s sda l h = rise_near (ltb rises 8) rises refl
  at_rise (Released a) s sda l h = absurd (clash (sym h))
  at_rise (Wanted a) s sda l h = absurd (clash (sym h))

  rise_low_at : (before : Bool) (ph : Phase) (s : S) (sda : Bool) (l : Levels) → before ≡ false → (with_levels ops (at before sda ph s) true true l).bus.sda ≡ false
      → bound (with_levels ops (at before sda ph s) true true l) < bound_at before ph
  rise_low_at true ph s sda l e h = absurd (clash (sym e))
  rise_low_at false ph s sda l e h = at_rise ph s sda l h

  -- A sample that is no rise brings no further rise that reads LOW.
  pub no_rise : (b : Board S) (scl : Bool) (l : Levels) → (b.bus.scl ≡ false → scl ≡ false) → bound (with_levels ops b scl true l) ≤ bound b
  no_rise b scl l h = no_rise_at b.bus.scl scl b.bus.sda b.bus.phase b.part l h

  -- A rise that reads LOW leaves one fewer.
  pub rise_low : (b : Board S) (l : Levels) → b.bus.scl ≡ false → (with_levels ops b true true l).bus.sda ≡ false → bound (with_levels ops b true true l) < bound b
  rise_low b l e h = rise_low_at b.bus.scl b.bus.phase b.part b.bus.sda l e h

  -- and so does a clock
  pub clock_low : (b : Board S) (l : Levels) → (clock ops l b).bus.sda ≡ false → bound (clock ops l b) < bound b
  clock_low b l h =
      omega (arith, no_rise b false l (λ e. refl), rise_low (with_levels ops b false true l) l refl h)
