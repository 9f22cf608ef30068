-- The chip keeps the laws of a part. Assumes nothing.
use Rattle.std.specs.Prelude.{◌≡◌, ℕ, ◌/◌, ◌%◌, Bool, true, false, not, ◌&&◌, ◌⊎◌, Some, None, ◌==◌, refl}
use Rattle.std.proofs.Common.{ap, inl, inr}
use Rattle.std.proofs.lemmas.Bool.{and_parts, cond-true}
use Rattle.part.specs.declared.levels.Levels.{Levels}
use Rattle.part.specs.Keeps.{Keeps, Unstaged, Takes, Settles}
use Rattle.eeprom.specs.Cells.{is_busy}
use Rattle.eeprom.proofs.OnePart.{fixed, stored, unstaged, still, refused, Addressed, Aimed, OwnMoves, keeps_part}
use Rattle.x9520.specs.declared.state.Flags.{Flags}
use Rattle.x9520.specs.declared.state.X9520.{X9520}
use Rattle.x9520.specs.Chip.{x9520, as_part, hears, flags_at, tap_at}
use Rattle.x9520.specs.State.{chip, flags, known, heard_in, mode_after}
use Rattle.x9520.specs.Writing.{verdict}
use Rattle.x9520.specs.Bytes.{taken_rests, taken_none, target, taken_staged, taken_dcps, taken_heard, aimed_heard, acked_known, mode_heard}

heard_after : (b : Bool) (x : ℕ) (t : Bool) → (known (x / 2) && t) ≡ b → (heard_in (mode_after b x) ≡ None) ⊎ ((heard_in (mode_after b x) ≡ Some x) × ((known (x / 2) && t) ≡ true))
heard_after true x t e = inr (mode_heard (x % 2 == 1) x refl (and_parts _ _ e).0, e)
heard_after false x t e = inl refl

addressed : (s : X9520) (x : ℕ) → Addressed as_part s x (x9520.address s x)
addressed s x = record { eeprom = refl; tap = λ j. refl; heard = heard_after (hears s x) x (not (is_busy s.eeprom)) refl }

aimed : (s : X9520) (a : ℕ) (l : Levels) (x : ℕ) → Aimed as_part s (x9520.aim s a l x)
aimed s a l x = record { eeprom = refl; tap = λ j. refl; forgets = aimed_heard s a x }

unacked : (s : X9520) (a : ℕ) (l : Levels) (x : ℕ) → x9520.takes s a l x ≡ false → Unstaged x9520 (x9520.take s a l x)
unacked s a l x h = unstaged as_part (x9520.take s a l x) (λ i. taken_none (verdict s a l.wp x) s.eeprom s.counter s.named x i h)

taking : (s : X9520) (a : ℕ) (l : Levels) (x : ℕ) → Takes x9520 s a x (x9520.takes s a l x) (x9520.take s a l x)
taking s a l x =
    let t = x9520.take s a l x in
    let v = verdict s a l.wp x in
    let e = s.eeprom in
    let n = s.counter in
    let m = s.named in
    record {
      fixed = fixed as_part s t;
      stored = stored as_part s t (taken_rests v e n m x);
      forgets = taken_heard s a l.wp x;
      acked = λ h. (target v n m, λ k i. taken_staged v e n m x k i _ (cond-true _ _ _ (acked_known s a l.wp x h)) h);
      unacked = λ h. refused as_part s t (a / 2) (unacked s a l x h) (still as_part s t (λ j. ap (λ d. tap_at d j) (taken_dcps v s.dcps m x h)));
    }

-- a flag that a LOW output has cleared stays so at the same level
again : (b v : Bool) → ((b && v) && v) ≡ (b && v)
again true true = refl
again true false = refl
again false v = refl

pub flags_again : (a b : Bool) (l : Levels) → flags_at (flags (a && l.v2ro) (b && l.v3ro)) l ≡ flags (a && l.v2ro) (b && l.v3ro)
flags_again a b l i = flags (again a l.v2ro i) (again b l.v3ro i)

abbrev pub with_flags : X9520 → Flags → X9520
with_flags s f = chip s.eeprom s.dcps s.latches f s.counter s.named s.mode

-- the levels come before or after one of these moves: it makes no difference
settles : Settles x9520
settles = record {
  after_level = λ s l. ap (with_flags s) (flags_again s.flags.v2os s.flags.v3os l);
  after_start = λ s l h. ap x9520.start h;
  after_address = λ s l x h. ap (λ t. x9520.address t x) h;
  after_aim = λ s l a x h. ap (λ t. x9520.aim t a l x) h;
  after_take = λ s l a x h. ap (λ t. x9520.take t a l x) h;
  after_give = λ s l a h. ap (λ t. x9520.give t a) h;
}

pub moves : OwnMoves as_part
moves = record {
  put = λ s e. refl;
  put_heard = λ s e. refl;
  put_back = λ s. refl;
  start = λ s. record { eeprom = refl; heard = refl };
  address = addressed;
  aim = aimed;
  take = taking;
  unacked = unacked;
  give = λ s a. record { eeprom = refl; tap = λ j. refl; heard = refl };
  level = λ s l. record { eeprom = refl; tap = λ j. refl; heard = refl };
  stop = λ s clean l. record { eeprom = refl; heard = refl };
  cut = λ s p. record { eeprom = refl; heard = refl };
  settles = settles;
}

pub keeps_x9520 : Keeps x9520
keeps_x9520 = keeps_part as_part moves
