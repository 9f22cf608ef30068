-- Nothing staged or under way is locked, and a byte staged for the register is held for the STOP: an invariant of every move. Assumes nothing.
use Rattle.std.proofs.Common.{◌≡◌, ℕ, ◌+◌, ◌/◌, ◌%◌, ◌<◌, Bool, true, false, cond, not, ◌&&◌, eqb, ltb, ◌≢◌, ◌⊎◌, Some, None, Option, unwrap_or, sym, refl, ap, ◌∙◌, inl, inr, ⊎_elim, arith, lit<}
use borrow.Author.Tests.{clash}
use Rattle.std.specs.Option.{option_or}
use Rattle.std.proofs.lemmas.Bool.{and_parts, not-true, cond_both, cond-false, cond-true, eqb-true, ne_eqb, lt-ltb, le-ltb}
use Rattle.std.proofs.lemmas.Option.{none-some}
use Rattle.part.specs.declared.levels.Levels.{Levels}
use Rattle.part.specs.Ops.{is}
use Rattle.part.specs.Moves.{Move, starting, addressing, aiming, taking, giving, levelling, stopping, finishing, cutting, renewing, moved}
use Rattle.eeprom.specs.declared.Eeprom.{Eeprom}
use Rattle.eeprom.specs.Cells.{byte_at, staged_at, under_way_at, is_busy, all_fresh, stages, unstages, stopped, begins, finishes, cuts}
use Rattle.eeprom.proofs.Moves.{busy_if, free_if, stages_staged, unstages_staged, begins_staged, begins_under_way, finishes_byte, finishes_under_way, cuts_staged, cuts_under_way}
use Rattle.eeprom.proofs.Numbered.{stopped_byte, stopped_staged}
use Rattle.protection.specs.declared.latches.Latches.{Latches}
use Rattle.protection.specs.Lock.{locks_memory, locks_wipers, wp_forbids}
use Rattle.x9520.specs.declared.state.Device.{Device}
use Rattle.x9520.specs.declared.state.Device.TheVariants.{Memory, Register, Dcps}
use Rattle.x9520.specs.declared.state.Mode.{Mode}
use Rattle.x9520.specs.declared.state.Mode.TheVariants.{Idle, Aiming, MemoryBytes, DcpByte, RegisterByte, Moved, Latching, Storing, Reading}
use Rattle.x9520.specs.declared.state.Flags.{Flags}
use Rattle.x9520.specs.declared.state.X9520.{X9520}
use Rattle.x9520.specs.Chip.{x9520, hears, source, counter_given, flags_at}
use Rattle.x9520.proofs.Locks.{locks}
use Rattle.x9520.specs.Register.{bit, stored_register}
use Rattle.x9520.specs.State.{chip, factory, fresh, device, heard_in, mode_after}
use Rattle.x9520.specs.Writing.{Aim, rejected, at_cell, names, opens, aim_for, aim_in, aim_of, aim_counter, aim_mode, Verdict, refused, barred, pages, moves, latches, stores, memory_verdict, dcp_verdict, armed_verdict, register_verdict, verdict_in, verdict, taken}
use Rattle.x9520.proofs.Standing.{named_by}

-- the modes in which a write may be staged
abbrev pub may_stage : Mode → Bool
may_stage Idle = false
may_stage (Aiming d) = false
may_stage MemoryBytes = true
may_stage (DcpByte store) = false
may_stage RegisterByte = false
may_stage Moved = true
may_stage (Latching x) = false
may_stage (Storing x) = true
may_stage (Reading d) = false

-- the modes told apart
abbrev pub mode_tag : Mode → ℕ
mode_tag Idle = 0
mode_tag (Aiming d) = 1
mode_tag MemoryBytes = 2
mode_tag (DcpByte store) = 3
mode_tag RegisterByte = 4
mode_tag Moved = 5
mode_tag (Latching x) = 6
mode_tag (Storing x) = 7
mode_tag (Reading d) = 8

pub other_mode : {X : Type 0} (m n : Mode) → m ≡ n → (mode_tag m ≡ mode_tag n → ⊥) → X
other_mode m n e f = absurd (f (ap mode_tag e))

abbrev pub Empty : Eeprom 260 → Type 0
Empty e = (i : ℕ) → staged_at e i ≡ None

-- nothing under way is locked by the register byte of these cells
abbrev pub Unlocked : Eeprom 260 → Type 0
Unlocked e = (i v : ℕ) → under_way_at e i ≡ Some v → locks (byte_at e 259) i ≡ false

pub record Guarded (s : X9520) : Type 0 where
  -- the counter is a memory cell's number, and the DCP last named is one of the three
  pub counter_in : s.counter < 256
  pub named_in : s.named < 3
  -- nothing staged is locked now, and nothing under way
  pub free : (i v : ℕ) → staged_at s.eeprom i ≡ Some v → locks (stored_register s) i ≡ false
  pub unlocked : (i v : ℕ) → under_way_at s.eeprom i ≡ Some v → locks (stored_register s) i ≡ false
  pub empty : may_stage s.mode ≡ false → Empty s.eeprom
  -- while a write is under way nothing is heard
  pub idle : is_busy s.eeprom ≡ true → s.mode ≡ Idle
  -- a byte staged for the register is held for the STOP, by RWEL; with it no other write is staged, and its bit 1 is set
  pub held : (v : ℕ) → staged_at s.eeprom 259 ≡ Some v → (s.mode ≡ Storing v) × (s.latches.rwel ≡ true)
  pub storing : (v : ℕ) → s.mode ≡ Storing v → (bit 2 v ≡ true) × (staged_at s.eeprom 259 ≡ Some v) × ((i : ℕ) → i ≢ 259 → staged_at s.eeprom i ≡ None)

-- with nothing staged
empty_guarded : (s : X9520) → s.counter < 256 → s.named < 3 → Empty s.eeprom → Unlocked s.eeprom → (mode_tag s.mode ≡ 7 → ⊥) → (is_busy s.eeprom ≡ true → s.mode ≡ Idle) → Guarded s
empty_guarded s c n e u m b = record {
  counter_in = c;
  named_in = n;
  free = λ i v h. absurd (none-some v (sym (e i) ∙ h));
  unlocked = u;
  empty = λ h. e;
  idle = b;
  held = λ v h. absurd (none-some v (sym (e 259) ∙ h));
  storing = λ v h. absurd (m (ap mode_tag h));
}

idle_guarded : (s : X9520) → s.counter < 256 → s.named < 3 → Empty s.eeprom → Unlocked s.eeprom → s.mode ≡ Idle → Guarded s
idle_guarded s c n e u m = empty_guarded s c n e u (λ z. let y : mode_tag s.mode ≡ 0 = ap mode_tag m in omega arith) (λ b. m)

-- with nothing under way
ended : (e : Eeprom 260) → ((i : ℕ) → under_way_at e i ≡ None) → Unlocked e
ended e n i v h = absurd (none-some v (sym (n i) ∙ h))

-- an address byte, with whether it was heard, leaves no byte held for the STOP
pub heard_tag : (t : Bool) (d : Device) (n : ℕ) → 5 < n → n < 8 → mode_tag (cond t (Reading d) (Aiming d)) ≡ n → ⊥
heard_tag true d n lo hi h = omega arith
heard_tag false d n lo hi h = omega arith

addressed : (t : Bool) (s : X9520) (x : ℕ) → hears s x ≡ t → Guarded s → Guarded (chip (unstages s.eeprom) s.dcps s.latches s.flags s.counter s.named (mode_after t x))
addressed true s x e h =
    empty_guarded (chip (unstages s.eeprom) s.dcps s.latches s.flags s.counter s.named (mode_after true x)) h.counter_in h.named_in (unstages_staged s.eeprom) h.unlocked
    (heard_tag (eqb (x % 2) 1) (device (x / 2)) 7 (lit< tt) (lit< tt))
    (λ b. absurd (clash (sym (ap not b) ∙ (and_parts _ _ e).1)))
addressed false s x e h = idle_guarded (chip (unstages s.eeprom) s.dcps s.latches s.flags s.counter s.named Idle) h.counter_in h.named_in (unstages_staged s.eeprom) h.unlocked refl

-- the first byte after a write address
abbrev CountsIn : ℕ → Aim → Type 0
CountsIn n v = aim_counter v n < 256

counts_at : (d : Device) (x n : ℕ) → x < 256 → n < 256 → CountsIn n (aim_for d x)
counts_at Memory x n g h = g
counts_at Register x n g h = cond_both (eqb x 255) opens rejected (CountsIn n) (λ e. h) (λ e. h)
counts_at Dcps x n g h = cond_both (ltb (x % 128) 3) (names _ _) rejected (CountsIn n) (λ e. h) (λ e. h)

counts_in : (m : Mode) (x n : ℕ) → x < 256 → n < 256 → CountsIn n (aim_in m x)
counts_in Idle x n g h = h
counts_in (Aiming d) x n g h = counts_at d x n g h
counts_in MemoryBytes x n g h = h
counts_in (DcpByte store) x n g h = h
counts_in RegisterByte x n g h = h
counts_in Moved x n g h = h
counts_in (Latching y) x n g h = h
counts_in (Storing y) x n g h = h
counts_in (Reading d) x n g h = h

-- a first byte leaves no byte held for the STOP
pub aimed_tag : (v : Aim) (n : ℕ) → 5 < n → mode_tag (aim_mode v) ≡ n → ⊥
aimed_tag rejected n lo h = omega arith
aimed_tag (at_cell i) n lo h = omega arith
aimed_tag (names j store) n lo h = omega arith
aimed_tag opens n lo h = omega arith

aimed_guarded : (s : X9520) (a : ℕ) (l : Levels) (x : ℕ) → x < 256 → Guarded s → Guarded (x9520.aim s a l x)
aimed_guarded s a l x g h =
    empty_guarded (x9520.aim s a l x)
    (cond_both (is a (heard_in s.mode)) (aim_in s.mode x) rejected (CountsIn s.counter) (λ e. counts_in s.mode x s.counter g h.counter_in) (λ e. h.counter_in))
    (named_by (is a (heard_in s.mode)) s.mode x s.named h.named_in)
    (unstages_staged s.eeprom)
    h.unlocked
    (aimed_tag (aim_of s a x) 7 (lit< tt))
    (λ b. ap (λ m. aim_mode (cond (is a (heard_in m)) (aim_in m x) rejected)) (h.idle b))

-- a data byte, by what it was judged to do
abbrev pub Judged : Mode → Latches → ℕ → ℕ → ℕ → Verdict → Type 0
Judged m l r n x refused = Unit {0}
Judged m l r n x barred = Unit {0}
Judged m l r n x pages = (m ≡ MemoryBytes) × (locks_memory r n ≡ false)
Judged m l r n x (moves store) = (m ≡ DcpByte store) × (locks_wipers r ≡ false)
Judged m l r n x latches = m ≡ RegisterByte
Judged m l r n x stores = (m ≡ RegisterByte) × (l.rwel ≡ true) × (bit 2 x ≡ true)

judged_memory : (l : Latches) (r n : ℕ) (wp : Bool) (x : ℕ) → Judged MemoryBytes l r n x (memory_verdict l r n wp)
judged_memory l r n wp x =
    let P = Judged MemoryBytes l r n x in
    cond_both (not l.wel) refused _ P (λ e. tt) (λ e.
    cond_both (wp_forbids true wp r) refused _ P (λ f. tt) (λ f.
    cond_both (locks_memory r n) barred pages P (λ g. tt) (λ g. (refl, g))))

judged_dcp : (l : Latches) (r n : ℕ) (store wp : Bool) (x : ℕ) → Judged (DcpByte store) l r n x (dcp_verdict l r store wp)
judged_dcp l r n store wp x =
    let P = Judged (DcpByte store) l r n x in
    cond_both (not l.wel) refused _ P (λ e. tt) (λ e.
    cond_both (wp_forbids store wp r) refused _ P (λ f. tt) (λ f.
    cond_both (locks_wipers r) refused (moves store) P (λ g. tt) (λ g. (refl, g))))

judged_armed : (l : Latches) (r n : ℕ) (wp : Bool) (x : ℕ) → l.rwel ≡ true → Judged RegisterByte l r n x (armed_verdict r wp x)
judged_armed l r n wp x h =
    let P = Judged RegisterByte l r n x in
    cond_both (bit 2 x) _ refused P (λ e.
    cond_both (bit 4 x) latches _ P (λ f. refl) (λ f.
    cond_both (wp_forbids true wp r) refused stores P (λ g. tt) (λ g. (refl, h, e)))) (λ e. tt)

judged_register : (l : Latches) (r n : ℕ) (wp : Bool) (x : ℕ) → Judged RegisterByte l r n x (register_verdict l r wp x)
judged_register l r n wp x =
    let P = Judged RegisterByte l r n x in
    cond_both (wp_forbids false wp r) refused _ P (λ e. tt) (λ e.
    cond_both (eqb x 0) latches _ P (λ f. refl) (λ f.
    cond_both l.rwel (armed_verdict r wp x) _ P (λ g. judged_armed l r n wp x g) (λ g.
    cond_both _ latches refused P (λ k. refl) (λ k. tt))))

judged_in : (m : Mode) (l : Latches) (r n : ℕ) (wp : Bool) (x : ℕ) → Judged m l r n x (verdict_in m l r n wp x)
judged_in Idle l r n wp x = tt
judged_in (Aiming d) l r n wp x = tt
judged_in MemoryBytes l r n wp x = judged_memory l r n wp x
judged_in (DcpByte store) l r n wp x = judged_dcp l r n store wp x
judged_in RegisterByte l r n wp x = judged_register l r n wp x
judged_in Moved l r n wp x = tt
judged_in (Latching y) l r n wp x = tt
judged_in (Storing y) l r n wp x = tt
judged_in (Reading d) l r n wp x = tt

pub judged : (s : X9520) (a : ℕ) (wp : Bool) (x : ℕ) → Judged s.mode s.latches (stored_register s) s.counter x (verdict s a wp x)
judged s a wp x =
    cond_both (is a (heard_in s.mode)) (verdict_in s.mode s.latches (stored_register s) s.counter wp x) refused (Judged s.mode s.latches (stored_register s) s.counter x)
    (λ e. judged_in s.mode s.latches (stored_register s) s.counter wp x) (λ e. tt)

-- a write staged: t is whether there is a cell n, f whether the cell is it
staged_new : (t f : Bool) (x v : ℕ) (w : Option ℕ) → cond t (cond f (Some x) w) w ≡ Some v → (f ≡ true) ⊎ (w ≡ Some v)
staged_new true true x v w h = inl refl
staged_new true false x v w h = inr h
staged_new false f x v w h = inr h

staged_one : (e : Eeprom 260) (n x i v : ℕ) → staged_at (stages e n x) i ≡ Some v → (i ≡ n) ⊎ (staged_at e i ≡ Some v)
staged_one e n x i v h =
    ⊎_elim (λ f. inl (eqb-true i n f)) (λ f. inr f)
    (staged_new (ltb n 260) (eqb i n) x v (staged_at e i) (sym (stages_staged e n x i) ∙ h))

memory_free : (r n : ℕ) → n < 256 → locks_memory r n ≡ false → locks r n ≡ false
memory_free r n h e = cond-true _ _ _ (lt-ltb n 256 h) ∙ e

wipers_free : (t f : Bool) (r i : ℕ) → f ≡ false → t ≡ false → cond t (locks_memory r i) (ltb i 259 && f) ≡ false
wipers_free t f r i h e = rw (e, h) (both (ltb i 259))
  where
    both : (b : Bool) → (b && false) ≡ false
    both true = refl
    both false = refl

free_at : (r n i : ℕ) → i ≡ n → locks r n ≡ false → locks r i ≡ false
free_at r n i e h = ap (locks r) e ∙ h

paged : (s : X9520) (x : ℕ) → (s.mode ≡ MemoryBytes) × (locks_memory (stored_register s) s.counter ≡ false) → Guarded s → Guarded (taken pages s x)
paged s x j h = record {
  counter_in = let c = h.counter_in in omega arith;
  named_in = h.named_in;
  free = λ i v w. ⊎_elim (λ e. free_at (stored_register s) s.counter i e (memory_free (stored_register s) s.counter h.counter_in j.1)) (λ e. h.free i v e) (staged_one s.eeprom s.counter x i v w);
  unlocked = h.unlocked;
  empty = λ e. absurd (clash (sym e));
  idle = λ b. other_mode MemoryBytes Idle (sym j.0 ∙ h.idle b) (λ z. omega arith);
  held = λ v w. ⊎_elim (λ e. let c = h.counter_in in absurd (omega arith)) (λ e. other_mode MemoryBytes (Storing v) (sym j.0 ∙ (h.held v e).0) (λ z. omega arith))
      (staged_one s.eeprom s.counter x 259 v w);
  storing = λ v e. other_mode MemoryBytes (Storing v) e (λ z. omega arith);
}

moved_stored : (s : X9520) (x : ℕ) → (s.mode ≡ DcpByte true) × (locks_wipers (stored_register s) ≡ false) → Guarded s → Guarded (taken (moves true) s x)
moved_stored s x j h =
    let none = h.empty (ap may_stage j.0) in
    record {
      counter_in = h.counter_in;
      named_in = h.named_in;
      free = λ i v w. ⊎_elim (λ e. free_at (stored_register s) (256 + s.named) i e
          (wipers_free (ltb (256 + s.named) 256) (locks_wipers (stored_register s)) (stored_register s) (256 + s.named) j.1 (le-ltb (256 + s.named) 256 (omega arith))))
          (λ e. h.free i v e) (staged_one s.eeprom (256 + s.named) x i v w);
      unlocked = h.unlocked;
      empty = λ e. absurd (clash (sym e));
      idle = λ b. other_mode (DcpByte true) Idle (sym j.0 ∙ h.idle b) (λ z. omega arith);
      held = λ v w. ⊎_elim (λ e. let c = h.named_in in absurd (omega arith)) (λ e. absurd (none-some v (sym (none 259) ∙ e))) (staged_one s.eeprom (256 + s.named) x 259 v w);
      storing = λ v e. other_mode Moved (Storing v) e (λ z. omega arith);
    }

-- the byte held
abbrev pub byte_held : Mode → ℕ
byte_held Idle = 0
byte_held (Aiming d) = 0
byte_held MemoryBytes = 0
byte_held (DcpByte store) = 0
byte_held RegisterByte = 0
byte_held Moved = 0
byte_held (Latching x) = x
byte_held (Storing x) = x
byte_held (Reading d) = 0

register_staged : (s : X9520) (x : ℕ) → staged_at (stages s.eeprom 259 x) 259 ≡ Some x
register_staged s x = stages_staged s.eeprom 259 x 259

value_of : (v w : ℕ) → Some v ≡ Some w → v ≡ w
value_of v w e = ap (λ o. unwrap_or o 0) e

stored : (s : X9520) (x : ℕ) → (s.mode ≡ RegisterByte) × (s.latches.rwel ≡ true) × (bit 2 x ≡ true) → Guarded s → Guarded (taken stores s x)
stored s x j h =
    let none = h.empty (ap may_stage j.0) in
    let here = register_staged s x in
    record {
      counter_in = h.counter_in;
      named_in = h.named_in;
      free = λ i v w. ⊎_elim (λ e. free_at (stored_register s) 259 i e refl) (λ e. h.free i v e) (staged_one s.eeprom 259 x i v w);
      unlocked = h.unlocked;
      empty = λ e. absurd (clash (sym e));
      idle = λ b. other_mode RegisterByte Idle (sym j.0 ∙ h.idle b) (λ z. omega arith);
      held = λ v w. (ap Storing (value_of x v (sym here ∙ w)), j.1);
      storing = λ v e.
          let same = ap byte_held e in
          (sym (ap (bit 2) same) ∙ j.2, here ∙ ap Some same, λ i n. stages_staged s.eeprom 259 x i ∙ cond-false (eqb i 259) _ _ (ne_eqb i 259 n) ∙ none i);
    }

taken_guarded : (v : Verdict) (s : X9520) (x : ℕ) → Judged s.mode s.latches (stored_register s) s.counter x v → Guarded s → Guarded (taken v s x)
taken_guarded refused s x j h = idle_guarded (taken refused s x) h.counter_in h.named_in (unstages_staged s.eeprom) h.unlocked refl
taken_guarded barred s x j h = idle_guarded (taken barred s x) h.counter_in h.named_in (unstages_staged s.eeprom) h.unlocked refl
taken_guarded pages s x j h = paged s x j h
taken_guarded (moves true) s x j h = moved_stored s x j h
taken_guarded (moves false) s x j h =
    empty_guarded (taken (moves false) s x) h.counter_in h.named_in (h.empty (ap may_stage j.0)) h.unlocked (λ z. omega arith)
    (λ b. other_mode (DcpByte false) Idle (sym j.0 ∙ h.idle b) (λ z. omega arith))
taken_guarded latches s x j h =
    empty_guarded (taken latches s x) h.counter_in h.named_in (h.empty (ap may_stage j)) h.unlocked (λ z. omega arith)
    (λ b. other_mode RegisterByte Idle (sym j ∙ h.idle b) (λ z. omega arith))
taken_guarded stores s x j h = stored s x j h

-- a finish: what is staged while something is under way
unchanged : (u : Option ℕ) (b : ℕ) → u ≡ None → unwrap_or u b ≡ b
unchanged u b e = ap (λ o. unwrap_or o b) e

no_write : (e : Eeprom 260) (i : ℕ) (o : Option ℕ) → under_way_at e i ≡ o → (is_busy e ≡ true → ⊥) → under_way_at e i ≡ None
no_write e i None h n = h
no_write e i (Some v) h n = absurd (n (busy_if e i v h))

same_register : (s : X9520) (i v : ℕ) → staged_at s.eeprom i ≡ Some v → Guarded s → byte_at (finishes s.eeprom) 259 ≡ stored_register s
same_register s i v w h =
    finishes_byte s.eeprom 259
    ∙ unchanged (under_way_at s.eeprom 259) _ (no_write s.eeprom 259 (under_way_at s.eeprom 259) refl (λ b. absurd (none-some v (sym (h.empty (ap may_stage (h.idle b)) i) ∙ w))))

finished : (q : Bool) (s : X9520) → Guarded s → Guarded (chip (cond q (finishes s.eeprom) s.eeprom) s.dcps s.latches s.flags s.counter s.named s.mode)
finished true s h = record {
  counter_in = h.counter_in;
  named_in = h.named_in;
  free = λ i v w. ap (λ r. locks r i) (same_register s i v w h) ∙ h.free i v w;
  unlocked = ended (finishes s.eeprom) (finishes_under_way s.eeprom);
  empty = h.empty;
  idle = λ b. absurd (clash (sym (free_if (finishes s.eeprom) (finishes_under_way s.eeprom)) ∙ b));
  held = h.held;
  storing = h.storing;
}
finished false s h = h

-- a STOP: what is under way was so before, or was staged
from_either : (u w : Option ℕ) (v : ℕ) → option_or u w ≡ Some v → (u ≡ Some v) ⊎ (w ≡ Some v)
from_either None w v h = inr h
from_either (Some x) w v h = inl h

begun : (e : Eeprom 260) (b : Bool) (i v : ℕ) → under_way_at (stopped b e) i ≡ Some v → (under_way_at e i ≡ Some v) ⊎ ((b ≡ true) × (staged_at e i ≡ Some v))
begun e true i v h = ⊎_elim (λ u. inl u) (λ w. inr (refl, w)) (from_either (under_way_at e i) (staged_at e i) v (sym (begins_under_way e i) ∙ h))
begun e false i v h = inl h

stopped_unlocked : (s : X9520) (b : Bool) → Guarded s → Unlocked (stopped b s.eeprom)
stopped_unlocked s b h i v w =
    ap (λ r. locks r i) (stopped_byte s.eeprom b 259)
    ∙ ⊎_elim (λ u. h.unlocked i v u) (λ u. h.free i v u.1) (begun s.eeprom b i v w)

counted : (o : Option Device) (n : ℕ) → n < 256 → counter_given o n < 256
counted None n h = h
counted (Some Memory) n h = omega arith
counted (Some Register) n h = h
counted (Some Dcps) n h = h

-- whatever the flags are, and wherever in the memory the counter stands
recounted : (s : X9520) (f : Flags) (n : ℕ) → n < 256 → Guarded s → Guarded (chip s.eeprom s.dcps s.latches f n s.named s.mode)
recounted s f n small h = record {
  counter_in = small;
  named_in = h.named_in;
  free = h.free;
  unlocked = h.unlocked;
  empty = h.empty;
  idle = h.idle;
  held = h.held;
  storing = h.storing;
}

pub guarded_fresh : Guarded fresh
guarded_fresh = idle_guarded fresh (lit< tt) (lit< tt) (begins_staged (stages all_fresh 259 1)) (ended factory (finishes_under_way (begins (stages all_fresh 259 1)))) refl

-- a first byte has eight bits: a number past them would be taken for a cell past the memory
abbrev pub Sendable : Move → Type 0
Sendable starting = Unit {0}
Sendable (addressing x) = Unit {0}
Sendable (aiming a l x) = x < 256
Sendable (taking a l x) = Unit {0}
Sendable (giving a) = Unit {0}
Sendable (levelling l) = Unit {0}
Sendable (stopping clean l) = Unit {0}
Sendable (finishing k) = Unit {0}
Sendable (cutting p) = Unit {0}
Sendable renewing = Unit {0}

pub guarded_step : (s : X9520) (m : Move) → Sendable m → Guarded s → Guarded (moved x9520 s m)
guarded_step s starting b h = idle_guarded (x9520.start s) h.counter_in h.named_in (unstages_staged s.eeprom) h.unlocked refl
guarded_step s (addressing x) b h = addressed (hears s x) s x refl h
guarded_step s (aiming a l x) b h = aimed_guarded s a l x b h
guarded_step s (taking a l x) b h = taken_guarded (verdict s a l.wp x) s x (judged s a l.wp x) h
guarded_step s (giving a) b h = recounted s s.flags _ (counted (source s a) s.counter h.counter_in) h
guarded_step s (levelling l) b h = recounted s (flags_at s.flags l) s.counter h.counter_in h
guarded_step s (stopping clean l) b h = idle_guarded (x9520.stop s clean l) h.counter_in h.named_in (stopped_staged s.eeprom (clean && not l.wp)) (stopped_unlocked s (clean && not l.wp) h) refl
guarded_step s (finishing k) b h = finished (eqb k 0) s h
guarded_step s (cutting p) b h = idle_guarded (x9520.cut s p) (lit< tt) (lit< tt) (cuts_staged s.eeprom p.mask) (ended (cuts s.eeprom p.mask) (cuts_under_way s.eeprom p.mask)) refl
guarded_step s renewing b h = guarded_fresh

pub none_by : (o : Option ℕ) → ((v : ℕ) → o ≡ Some v → ⊥) → o ≡ None
none_by None n = refl
none_by (Some v) n = absurd (n v refl)

module _ (s : X9520) (h : Guarded s) where
  -- so nothing is under way in a locked cell
  pub locked_rests : (i : ℕ) → locks (stored_register s) i ≡ true → under_way_at s.eeprom i ≡ None
  locked_rests i e = none_by (under_way_at s.eeprom i) (λ v w. clash (sym (h.unlocked i v w) ∙ e))

  -- nothing is staged while a latch byte waits
  pub latching_empty : (v : ℕ) → s.mode ≡ Latching v → (i : ℕ) → staged_at s.eeprom i ≡ None
  latching_empty v e = h.empty (ap may_stage e)

  -- a register byte comes under way only at a clean STOP with WP LOW, out of the byte held by RWEL
  pub register_begins : (clean : Bool) (l : Levels) (v : ℕ) → under_way_at (x9520.stop s clean l).eeprom 259 ≡ Some v
      → (under_way_at s.eeprom 259 ≡ Some v) ⊎ ((s.mode ≡ Storing v) × (s.latches.rwel ≡ true) × (clean ≡ true) × (l.wp ≡ false))
  register_begins clean l v w =
      ⊎_elim (λ u. inl u) (λ u. let b = and_parts clean (not l.wp) u.0 in inr ((h.held v u.1).0, (h.held v u.1).1, b.0, not-true l.wp b.1))
      (begun s.eeprom (clean && not l.wp) 259 v w)
