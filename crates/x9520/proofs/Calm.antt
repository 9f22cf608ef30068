-- What each single move does to cells, latches and wipers: a move other than STOP, finish, cut and renewal changes no cell,
-- sets no latch and moves no locked wiper; a STOP alone sets latches. Assumes nothing.
use Rattle.std.proofs.Common.{◌≡◌, ℕ, Bool, true, false, cond, not, ◌&&◌, ◌⊎◌, Some, None, Option, unwrap_or, sym, refl, ap, ◌∙◌, inl, inr, eqb}
use borrow.Author.Tests.{clash}
use Rattle.std.specs.Option.{option_or}
use Rattle.std.proofs.lemmas.Bool.{and_from, eqb-true}
use Rattle.part.specs.declared.levels.Levels.{Levels}
use Rattle.part.specs.declared.power.PowerCut.{PowerCut}
use Rattle.part.specs.Moves.{Move, starting, addressing, aiming, taking, giving, levelling, stopping, finishing, cutting, renewing, moved}
use Rattle.eeprom.specs.Cells.{byte_at, staged_at, under_way_at, marks, stopped}
use Rattle.eeprom.proofs.Moves.{begins_under_way, finishes_byte, finishes_under_way, cuts_byte, cuts_under_way}
use Rattle.eeprom.proofs.Numbered.{stopped_byte}
use Rattle.protection.specs.declared.latches.Latches.{Latches}
use Rattle.protection.specs.Latching.{cleared, enabled, armed, disarmed}
use Rattle.protection.specs.Lock.{locks_wipers, wp_forbids}
use Rattle.x9520.specs.declared.state.Mode.{Mode}
use Rattle.x9520.specs.declared.state.Mode.TheVariants.{Idle, Aiming, MemoryBytes, DcpByte, RegisterByte, Moved, Latching, Storing, Reading}
use Rattle.x9520.specs.declared.state.X9520.{X9520}
use Rattle.x9520.specs.Bytes.{taken_rests}
use Rattle.x9520.specs.Chip.{x9520, tap_at, latches_stopped}
use Rattle.x9520.specs.Register.{stored_register, latched}
use Rattle.x9520.specs.Writing.{Verdict, refused, barred, pages, moves, latches, stores, verdict, dcps_taken, latches_taken}
use Rattle.x9520.proofs.Locks.{locks}
use Rattle.x9520.proofs.Lock.{Judged, judged, Guarded, guarded_step, locked_rests}

pub record CalmMove (c d : X9520) : Type 0 where
  pub cells : (i : ℕ) → byte_at d.eeprom i ≡ byte_at c.eeprom i
  pub under_way : (i : ℕ) → under_way_at d.eeprom i ≡ under_way_at c.eeprom i
  -- no latch comes to be set, and only RWEL may fall
  pub wel : d.latches.wel ≡ c.latches.wel
  pub rwel : d.latches.rwel ≡ true → c.latches.rwel ≡ true
  -- a locked wiper stays
  pub wiper : locks_wipers (stored_register c) ≡ true → (j : ℕ) → x9520.tap d 0 j ≡ x9520.tap c 0 j

pub calm_same : (c : X9520) → CalmMove c c
calm_same c = record { cells = λ i. refl; under_way = λ i. refl; wel = refl; rwel = λ h. h; wiper = λ h j. refl }

pub calm_equal : (c d : X9520) → d ≡ c → CalmMove c d
calm_equal c d e = record {
  cells = λ i. ap (λ s. byte_at s.eeprom i) e;
  under_way = λ i. ap (λ s. under_way_at s.eeprom i) e;
  wel = ap (λ s. s.latches.wel) e;
  rwel = λ h. sym (ap (λ s. s.latches.rwel) e) ∙ h;
  wiper = λ h j. ap (λ s. x9520.tap s 0 j) e;
}

-- the register stays too, and with it what is locked
pub calm_register : (c d : X9520) → CalmMove c d → stored_register d ≡ stored_register c
calm_register c d m = m.cells 259

pub calm_then : (c d e : X9520) → CalmMove c d → CalmMove d e → CalmMove c e
calm_then c d e p q = record {
  cells = λ i. q.cells i ∙ p.cells i;
  under_way = λ i. q.under_way i ∙ p.under_way i;
  wel = q.wel ∙ p.wel;
  rwel = λ h. p.rwel (q.rwel h);
  wiper = λ h j. q.wiper (ap locks_wipers (p.cells 259) ∙ h) j ∙ p.wiper h j;
}

pub calm_start : (s : X9520) → CalmMove s (x9520.start s)
calm_start s = record { cells = λ i. refl; under_way = λ i. refl; wel = refl; rwel = λ h. h; wiper = λ h j. refl }

pub calm_address : (s : X9520) (x : ℕ) → CalmMove s (x9520.address s x)
calm_address s x = record { cells = λ i. refl; under_way = λ i. refl; wel = refl; rwel = λ h. h; wiper = λ h j. refl }

pub calm_aim : (s : X9520) (a : ℕ) (l : Levels) (x : ℕ) → CalmMove s (x9520.aim s a l x)
calm_aim s a l x = record { cells = λ i. refl; under_way = λ i. refl; wel = refl; rwel = λ h. h; wiper = λ h j. refl }

pub calm_give : (s : X9520) (a : ℕ) → CalmMove s (x9520.give s a)
calm_give s a = record { cells = λ i. refl; under_way = λ i. refl; wel = refl; rwel = λ h. h; wiper = λ h j. refl }

pub calm_level : (s : X9520) (l : Levels) → CalmMove s (x9520.level s l)
calm_level s l = record { cells = λ i. refl; under_way = λ i. refl; wel = refl; rwel = λ h. h; wiper = λ h j. refl }

-- a data byte, by what it was judged to do
taken_wel : (v : Verdict) (l : Latches) → (latches_taken v l).wel ≡ l.wel
taken_wel refused l = refl
taken_wel barred l = refl
taken_wel pages l = refl
taken_wel (moves store) l = refl
taken_wel latches l = refl
taken_wel stores l = refl

pub taken_rwel : (v : Verdict) (l : Latches) → (latches_taken v l).rwel ≡ true → l.rwel ≡ true
taken_rwel refused l h = h
taken_rwel barred l h = absurd (clash h)
taken_rwel pages l h = h
taken_rwel (moves store) l h = h
taken_rwel latches l h = h
taken_rwel stores l h = h

taken_wiper : (v : Verdict) (s : X9520) (x : ℕ) → Judged s.mode s.latches (stored_register s) s.counter x v → locks_wipers (stored_register s) ≡ true → dcps_taken v s.dcps s.named x ≡ s.dcps
taken_wiper refused s x j h = refl
taken_wiper barred s x j h = refl
taken_wiper pages s x j h = refl
taken_wiper (moves store) s x j h = absurd (clash (sym j.1 ∙ h))
taken_wiper latches s x j h = refl
taken_wiper stores s x j h = refl

pub calm_take : (s : X9520) (a : ℕ) (l : Levels) (x : ℕ) → CalmMove s (x9520.take s a l x)
calm_take s a l x =
    let v = verdict s a l.wp x in
    let r = taken_rests v s.eeprom s.counter s.named x in
    record {
      cells = r.byte;
      under_way = r.under_way;
      wel = taken_wel v s.latches;
      rwel = taken_rwel v s.latches;
      wiper = λ h j. ap (λ d. tap_at d j) (taken_wiper v s x (judged s a l.wp x) h);
    }

-- the moves that are calm
abbrev pub Calms : Move → Type 0
Calms starting = Unit {0}
Calms (addressing x) = Unit {0}
Calms (aiming a l x) = Unit {0}
Calms (taking a l x) = Unit {0}
Calms (giving a) = Unit {0}
Calms (levelling l) = Unit {0}
Calms (stopping clean l) = ⊥
Calms (finishing k) = ⊥
Calms (cutting p) = ⊥
Calms renewing = ⊥

pub calm_move : (s : X9520) (m : Move) → Calms m → CalmMove s (moved x9520 s m)
calm_move s starting h = calm_start s
calm_move s (addressing x) h = calm_address s x
calm_move s (aiming a l x) h = calm_aim s a l x
calm_move s (taking a l x) h = calm_take s a l x
calm_move s (giving a) h = calm_give s a
calm_move s (levelling l) h = calm_level s l
calm_move s (stopping clean l) h = absurd h
calm_move s (finishing k) h = absurd h
calm_move s (cutting p) h = absurd h
calm_move s renewing h = absurd h

-- What a STOP does to the latches: nothing, or it begins the write of the register byte held and clears RWEL,
-- or it does what the latch byte held says.
abbrev pub Disarms : Mode → Bool → Bool → Latches → Latches → Type 0
Disarms m clean wp l k = (v : ℕ) × ((m ≡ Storing v) × (clean ≡ true) × (wp ≡ false) × (k.rwel ≡ false) × (k.wel ≡ l.wel))

abbrev pub Obeys : Mode → Bool → Bool → ℕ → Latches → Latches → Type 0
Obeys m clean wp r l k = (v : ℕ) × ((m ≡ Latching v) × (clean ≡ true) × (wp_forbids false wp r ≡ false) × (k ≡ latched l v))

abbrev pub StopLatches : Mode → Bool → Bool → ℕ → Latches → Latches → Type 0
StopLatches m clean wp r l k = (k ≡ l) ⊎ (Disarms m clean wp l k ⊎ Obeys m clean wp r l k)

stop_storing : (clean wp : Bool) (x r : ℕ) (l : Latches) → StopLatches (Storing x) clean wp r l (cond (clean && not wp) (disarmed l) l)
stop_storing true true x r l = inl refl
stop_storing true false x r l = inr (inl (x, (refl, refl, refl, refl, refl)))
stop_storing false wp x r l = inl refl

latching_by : (t : Bool) (clean wp : Bool) (x r : ℕ) (l : Latches) → wp_forbids false wp r ≡ t → StopLatches (Latching x) clean wp r l (cond (clean && not t) (latched l x) l)
latching_by true true wp x r l e = inl refl
latching_by false true wp x r l e = inr (inr (x, (refl, refl, e, refl)))
latching_by t false wp x r l e = inl refl

stop_by : (m : Mode) (clean wp : Bool) (r : ℕ) (l : Latches) → StopLatches m clean wp r l (latches_stopped m clean wp r l)
stop_by Idle clean wp r l = inl refl
stop_by (Aiming d) clean wp r l = inl refl
stop_by MemoryBytes clean wp r l = inl refl
stop_by (DcpByte store) clean wp r l = inl refl
stop_by RegisterByte clean wp r l = inl refl
stop_by Moved clean wp r l = inl refl
stop_by (Latching x) clean wp r l = latching_by (wp_forbids false wp r) clean wp x r l refl
stop_by (Storing x) clean wp r l = stop_storing clean wp x r l
stop_by (Reading d) clean wp r l = inl refl

module _ (c : X9520) (clean : Bool) (l : Levels) where
  pub stop_latches : StopLatches c.mode clean l.wp (stored_register c) c.latches (x9520.stop c clean l).latches
  stop_latches = stop_by c.mode clean l.wp (stored_register c) c.latches

  pub stop_byte : (i : ℕ) → byte_at (x9520.stop c clean l).eeprom i ≡ byte_at c.eeprom i
  stop_byte i = stopped_byte c.eeprom (clean && not l.wp) i

  pub stop_tap : (j : ℕ) → x9520.tap (x9520.stop c clean l) 0 j ≡ x9520.tap c 0 j
  stop_tap j = refl

  -- what comes under way
  pub stop_begins : clean ≡ true → l.wp ≡ false → (i : ℕ) → under_way_at (x9520.stop c clean l).eeprom i ≡ option_or (under_way_at c.eeprom i) (staged_at c.eeprom i)
  stop_begins h low i = ap (λ b. under_way_at (stopped b c.eeprom) i) (and_from clean (not l.wp) h (ap not low)) ∙ begins_under_way c.eeprom i

stored_or : (t : Bool) (u : Option ℕ) (b n : ℕ) → n ≡ cond t (unwrap_or u b) b → (n ≡ b) ⊎ (u ≡ Some n)
stored_or true None b n e = inl e
stored_or true (Some v) b n e = inr (ap Some (sym e))
stored_or false u b n e = inl e

module _ (c : X9520) where
  -- a finish stores all that is under way, and touches nothing else
  finish_byte : (i : ℕ) → byte_at (x9520.finish c 0).eeprom i ≡ unwrap_or (under_way_at c.eeprom i) (byte_at c.eeprom i)
  finish_byte i = finishes_byte c.eeprom i

  pub finish_under_way : (i : ℕ) → under_way_at (x9520.finish c 0).eeprom i ≡ None
  finish_under_way i = finishes_under_way c.eeprom i

  pub finish_tap : (j : ℕ) → x9520.tap (x9520.finish c 0) 0 j ≡ x9520.tap c 0 j
  finish_tap j = refl

  pub finish_latches : (x9520.finish c 0).latches ≡ c.latches
  finish_latches = refl

  -- a power cut stores those that its mask marks, and clears the rest
  cut_byte : (p : PowerCut) (i : ℕ) → byte_at (x9520.cut c p).eeprom i ≡ cond (marks p.mask i) (unwrap_or (under_way_at c.eeprom i) (byte_at c.eeprom i)) (byte_at c.eeprom i)
  cut_byte p i = cuts_byte c.eeprom p.mask i

  pub cut_under_way : (p : PowerCut) (i : ℕ) → under_way_at (x9520.cut c p).eeprom i ≡ None
  cut_under_way p i = cuts_under_way c.eeprom p.mask i

  pub cut_latches : (p : PowerCut) → (x9520.cut c p).latches ≡ cleared
  cut_latches p = refl

  -- the byte of a cell afterwards is the one before, or was under way
  pub finish_either : (i : ℕ) → (byte_at (x9520.finish c 0).eeprom i ≡ byte_at c.eeprom i) ⊎ (under_way_at c.eeprom i ≡ Some (byte_at (x9520.finish c 0).eeprom i))
  finish_either i = stored_or true (under_way_at c.eeprom i) (byte_at c.eeprom i) _ (finish_byte i)

  pub cut_either : (p : PowerCut) (i : ℕ) → (byte_at (x9520.cut c p).eeprom i ≡ byte_at c.eeprom i) ⊎ (under_way_at c.eeprom i ≡ Some (byte_at (x9520.cut c p).eeprom i))
  cut_either p i = stored_or (marks p.mask i) (under_way_at c.eeprom i) (byte_at c.eeprom i) _ (cut_byte p i)

-- What a latch byte sets: WEL by 02h alone, and RWEL by 06h alone, where WEL stands.
set_wel : (z t f : Bool) (l : Latches) (x : ℕ) → eqb x 2 ≡ t → (cond z cleared (cond t (enabled l) (cond f (armed l) l))).wel ≡ true → (l.wel ≡ true) ⊎ (x ≡ 2)
set_wel true t f l x e h = absurd (clash h)
set_wel false true f l x e h = inr (eqb-true x 2 e)
set_wel false false true l x e h = inl h
set_wel false false false l x e h = inl h

set_rwel : (z t f : Bool) (l : Latches) (x : ℕ) → eqb x 6 ≡ f → (cond z cleared (cond t (enabled l) (cond f (armed l) l))).rwel ≡ true → (l.rwel ≡ true) ⊎ ((x ≡ 6) × (l.wel ≡ true))
set_rwel true t f l x e h = absurd (clash h)
set_rwel false true f l x e h = inl h
set_rwel false false true l x e h = inr (eqb-true x 6 e, h)
set_rwel false false false l x e h = inl h

pub latched_wel : (l : Latches) (x : ℕ) → (latched l x).wel ≡ true → (l.wel ≡ true) ⊎ (x ≡ 2)
latched_wel l x h = set_wel (eqb x 0) (eqb x 2) (eqb x 6) l x refl h

pub latched_rwel : (l : Latches) (x : ℕ) → (latched l x).rwel ≡ true → (l.rwel ≡ true) ⊎ ((x ≡ 6) × (l.wel ≡ true))
latched_rwel l x h = set_rwel (eqb x 0) (eqb x 2) (eqb x 6) l x refl h

module _ (c : X9520) (clean : Bool) (l : Levels) where
  -- what is locked does not come under way
  pub stop_locked : Guarded c → (i : ℕ) → locks (stored_register c) i ≡ true → under_way_at (x9520.stop c clean l).eeprom i ≡ under_way_at c.eeprom i
  stop_locked g i e =
      let h = guarded_step c (stopping clean l) tt g in
      locked_rests (x9520.stop c clean l) h i (ap (λ r. locks r i) (stop_byte c clean l 259) ∙ e) ∙ sym (locked_rests c g i e)
