-- The chip keeps the laws of a part. Assumes nothing.
use Rattle.std.specs.Prelude.{◌≡◌, ℕ, ◌/◌, ◌%◌, Bool, true, false, cond, not, ◌&&◌, ◌⊎◌, Some, None, Option, ◌==◌, refl}
use Rattle.std.proofs.Common.{ap, sym, ◌∙◌, inl, inr, arith}
use borrow.Author.Tests.{clash}
use Rattle.std.proofs.lemmas.Bool.{eqb-true, eqb-false, and_parts}
use Rattle.part.specs.declared.levels.Levels.{Levels}
use Rattle.part.specs.Keeps.{Keeps, Unstaged, Forgets, Still, Takes, Settles}
use Rattle.eeprom.specs.declared.Eeprom.{Eeprom}
use Rattle.eeprom.specs.Cells.{byte_at, staged_at, is_busy}
use Rattle.eeprom.specs.OnePart.{of_part}
use Rattle.eeprom.proofs.Moves.{unstages_staged}
use Rattle.eeprom.proofs.Numbered.{staged_by}
use Rattle.eeprom.proofs.OnePart.{Rests, unstages_rests, stages_rests, fixed, stored, unstaged, still, stays, ended, refused, Addressed, Aimed, OwnMoves, keeps_part}
use Rattle.ds1846.specs.declared.state.Ds1846.{Ds1846}
use Rattle.ds1846.specs.declared.state.Mode.{Mode}
use Rattle.ds1846.specs.declared.state.Mode.TheVariants.{Idle, Aiming, Writing, Reading}
use Rattle.ds1846.specs.Chip.{ds1846, as_part, heard_in, hears, mode_after, is_aiming, aims, is_writing, takes, cells_taken, tap_at}

-- the wipers follow the stored bytes
pub tap_same : (e f : Eeprom 256) → ((i : ℕ) → byte_at f i ≡ byte_at e i) → (j : ℕ) → tap_at f j ≡ tap_at e j
tap_same e f h j = let a = h 249 in let b = h 248 in let c = h 250 in cc

same_taps : (s t : Ds1846) → ((i : ℕ) → byte_at t.eeprom i ≡ byte_at s.eeprom i) → Still ds1846 s t
same_taps s t b = still as_part s t (tap_same s.eeprom t.eeprom b)

-- an address byte that is heard has the chip's address, so it is A2h or A3h
by_parity : (odd : Bool) (x : ℕ) → (x % 2 == 1) ≡ odd → x / 2 ≡ 81 → heard_in (cond odd Reading Aiming) ≡ Some x
by_parity true x e h = let p = eqb-true (x % 2) 1 e in let q : 163 ≡ x = omega arith in ap Some q
by_parity false x e h = let p = eqb-false (x % 2) 1 e in let q : 162 ≡ x = omega arith in ap Some q

heard_after : (b : Bool) (x : ℕ) (t : Bool) → (x / 2 == 81 && t) ≡ b → (heard_in (mode_after b x) ≡ None) ⊎ ((heard_in (mode_after b x) ≡ Some x) × ((x / 2 == 81 && t) ≡ true))
heard_after true x t e = inr (by_parity (x % 2 == 1) x refl (eqb-true (x / 2) 81 (and_parts _ _ e).0), e)
heard_after false x t e = inl refl

addressed : (s : Ds1846) (x : ℕ) → Addressed as_part s x (ds1846.address s x)
addressed s x = record { eeprom = refl; tap = λ j. refl; heard = heard_after (hears s x) x (not (is_busy s.eeprom)) refl }

-- a byte that gets an ACK comes in a transfer for writing
forgets_by : (ack : Bool) (s t : Ds1846) → t.mode ≡ cond ack Writing Idle → (ack ≡ true → Some 162 ≡ heard_in s.mode) → Forgets ds1846 s t
forgets_by true s t e h = stays as_part s t (ap heard_in e ∙ h refl)
forgets_by false s t e h = ended as_part s t (ap heard_in e)

aiming_heard : (m : Mode) (t : Bool) → (is_aiming m && t) ≡ true → Some 162 ≡ heard_in m
aiming_heard Idle t h = absurd (clash h)
aiming_heard Aiming t h = refl
aiming_heard Writing t h = refl
aiming_heard Reading t h = absurd (clash h)

pub writing_heard : (m : Mode) (t : Bool) → (is_writing m && t) ≡ true → Some 162 ≡ heard_in m
writing_heard Idle t h = absurd (clash h)
writing_heard Aiming t h = absurd (clash h)
writing_heard Writing t h = refl
writing_heard Reading t h = absurd (clash h)

aimed : (s : Ds1846) (a : ℕ) (l : Levels) (x : ℕ) → Aimed as_part s (ds1846.aim s a l x)
aimed s a l x = record { eeprom = refl; tap = λ j. refl; forgets = forgets_by (aims s a) s (ds1846.aim s a l x) refl (aiming_heard s.mode _) }

taken_rests : (ack : Bool) (e : Eeprom 256) (n x : ℕ) → Rests e (cells_taken ack e n x)
taken_rests true e n x = stages_rests e n x
taken_rests false e n x = unstages_rests e

taken_none : (ack : Bool) (e : Eeprom 256) (n x i : ℕ) → ack ≡ false → staged_at (cells_taken ack e n x) i ≡ None
taken_none true e n x i h = absurd (clash (sym h))
taken_none false e n x i h = unstages_staged e i

unacked : (s : Ds1846) (a : ℕ) (l : Levels) (x : ℕ) → takes s a l ≡ false → Unstaged ds1846 (ds1846.take s a l x)
unacked s a l x h = unstaged as_part (ds1846.take s a l x) (λ i. taken_none (takes s a l) s.eeprom s.counter x i h)

taken_staged : (ack : Bool) (e : Eeprom 256) (n x k i : ℕ) (o : Option ℕ) → o ≡ Some 0 → ack ≡ true
    → (of_part k (staged_at (cells_taken ack e n x) i) None ≡ of_part k (staged_at e i) None)
    ⊎ ((of_part k (staged_at (cells_taken ack e n x) i) None ≡ None) ⊎ ((i ≡ n) × (o ≡ Some k) × (of_part k (staged_at (cells_taken ack e n x) i) None ≡ Some x)))
taken_staged true e n x k i o h a = staged_by e n x k i o h
taken_staged false e n x k i o h a = absurd (clash a)

owner_then : (s : Ds1846) (a : ℕ) (l : Levels) → takes s a l ≡ true → ds1846.owner s (a / 2) ≡ Some 0
owner_then s a l h =
    let e = eqb-true a 162 (and_parts _ _ (and_parts _ _ h).1).0 in
    ap (λ n. ds1846.owner s (n / 2)) e

taking : (s : Ds1846) (a : ℕ) (l : Levels) (x : ℕ) → Takes ds1846 s a x (ds1846.takes s a l x) (ds1846.take s a l x)
taking s a l x =
    let t = ds1846.take s a l x in
    let ack = takes s a l in
    let rest = taken_rests ack s.eeprom s.counter x in
    record {
      fixed = fixed as_part s t;
      stored = stored as_part s t rest;
      forgets = forgets_by ack s t refl (writing_heard s.mode _);
      acked = λ h. (s.counter, λ k i. taken_staged ack s.eeprom s.counter x k i _ (owner_then s a l h) h);
      unacked = λ h. refused as_part s t (a / 2) (unacked s a l x h) (same_taps s t rest.byte);
    }

settles : Settles ds1846
settles = record {
  after_level = λ s l. refl;
  after_start = λ s l h. refl;
  after_address = λ s l x h. refl;
  after_aim = λ s l a x h. refl;
  after_take = λ s l a x h. refl;
  after_give = λ s l a h. refl;
}

pub moves : OwnMoves as_part
moves = record {
  put = λ s e. refl;
  put_heard = λ s e. refl;
  put_back = λ s. refl;
  start = λ s. record { eeprom = refl; heard = refl };
  address = addressed;
  aim = aimed;
  take = taking;
  unacked = unacked;
  give = λ s a. record { eeprom = refl; tap = λ j. refl; heard = refl };
  level = λ s l. record { eeprom = refl; tap = λ j. refl; heard = refl };
  stop = λ s clean l. record { eeprom = refl; heard = refl };
  cut = λ s p. record { eeprom = refl; heard = refl };
  settles = settles;
}

pub keeps_ds1846 : Keeps ds1846
keeps_ds1846 = keeps_part as_part moves
