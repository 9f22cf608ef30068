-- A locked byte or wiper of an X9520 differs only after its register was opened. Assumes nothing.
use Rattle.std.proofs.Common.{◌≡◌, ℕ, zero, suc, ◌+◌, ◌-◌, ◌<◌, ◌≤◌, Bool, true, false, ◌⊎◌, Some, None, Option, refl, sym, ap, ◌∙◌, subst, inl, inr, arith, lt-suc_self}
use borrow.Author.Tests.{clash}
use Rattle.std.proofs.lemmas.Bool.{cases_eq}
use Rattle.std.proofs.lemmas.Option.{none-some}
use Rattle.part.specs.declared.levels.Levels.{Levels}
use Rattle.part.specs.declared.power.PowerCut.{PowerCut}
use Rattle.part.specs.Ops.{Ops}
use Rattle.part.specs.Keeps.{Keeps}
use Rattle.part.specs.Moves.{levelling}
use Rattle.part.specs.Seats.{Seat}
use Rattle.eeprom.specs.Cells.{byte_at, under_way_at}
use Rattle.x9520.specs.declared.state.X9520.{X9520}
use Rattle.x9520.specs.declared.state.Mode.TheVariants.{Storing}
use Rattle.x9520.specs.Chip.{x9520}
use Rattle.x9520.specs.State.{fresh}
use Rattle.x9520.specs.Register.{bit, stored_register}
use Rattle.x9520.proofs.Lock.{Guarded, guarded_step, none_by, register_begins}
use Rattle.x9520.proofs.Calm.{CalmMove, calm_register, stop_byte, stop_tap, stop_locked, finish_either, finish_under_way, finish_tap, cut_either, cut_under_way}
use Rattle.x9520.proofs.Place.{where_is}
use Rattle.board.specs.declared.board.Board.{Board}
use Rattle.board.specs.declared.bus.Phase.TheVariants.{Closed}
use Rattle.board.specs.declared.call.Call.{Call}
use Rattle.board.specs.Engine.{idle}
use Rattle.board.specs.Runs.{IsCut, state, history}
use Rattle.board.specs.Cause.{wp_of}
use Rattle.runs.specs.Lock.{Registers, Opened, LockHolds, Locks, register, locks_cell, locks_wipers}
use Rattle.runs.proofs.Bits.{lock_is, wipers_is}
use Rattle.runs.proofs.Events.{Event, calm, stops, finishes, cuts, event, guarded, cell_is, under_way_is, tap_is}
use Rattle.runs.proofs.Latching.{IsStop, clean_at, Armed, known, writes, one_byte}

module _ {S : Type 0} (ops : Ops S) (keeps : Keeps ops) (number : S → ℕ) (see : S → X9520) (seat : Seat ops x9520 number see)
    (b : Board S) (closed : b.bus.phase ≡ Closed) (new : see b.part ≡ fresh) (calls : ℕ → Call) where
  abbrev B : ℕ → Board S
  B n = state ops b calls n

  abbrev C : ℕ → X9520
  C n = see (B n).part

  abbrev k : ℕ
  k = number b.part

  abbrev Writes : ℕ → ℕ → Type 0
  Writes n v = Registers ops b calls k n v

  guard : (n : ℕ) → Guarded (C n)
  guard n = guarded ops keeps number see seat b closed new calls n

  -- a thing that a register byte locks, from state p to state q: what is the same of it, and what keeps that
  module _ (lock : ℕ → Bool) (Same : X9520 → Type 0) (p q : ℕ)
      (same_calm : (c d : X9520) → CalmMove c d → lock (stored_register c) ≡ true → Same c → Same d)
      (same_stop : (c : X9520) (clean : Bool) (l : Levels) → Guarded c → lock (stored_register c) ≡ true → Same c → Same (x9520.stop (x9520.level c l) clean l))
      (same_finish : (c : X9520) → Same c → Same (x9520.finish c 0))
      (same_cut : (n : ℕ) → p ≤ n → n < q → IsCut (calls n) → (c : X9520) (w : PowerCut) → Same c → Same (x9520.cut c w)) where
    -- it is the same and still locked, and a register byte under way locks it too
    record Shut (c : X9520) : Type 0 where
      same : Same c
      shut : lock (stored_register c) ≡ true
      coming : (v : ℕ) → under_way_at c.eeprom 259 ≡ Some v → lock v ≡ true

    abbrev Op : ℕ → Type 0
    Op n = Opened ops b calls k lock p n

    later : (n : ℕ) → Op n → Op (suc n)
    later n r =
        let lt = r.to in
        record {
          first = r.first;
          second = r.second;
          third = r.third;
          byte = r.byte;
          second_later = r.second_later;
          third_later = r.third_later;
          from = r.from;
          to = omega arith;
          enables = r.enables;
          arms = r.arms;
          unlocks = r.unlocks;
          low = r.low;
          unlocking = r.unlocking;
          unbroken = r.unbroken;
          alone = r.alone;
        }

    -- the STOP of a byte that unlocks
    opens : (n v : ℕ) → p ≤ n → IsStop ops keeps number see seat b closed new calls n → (IsCut (calls n) → ⊥)
        → clean_at ops keeps number see seat b closed new calls n ≡ true → wp_of (calls n) ≡ false → (C n).mode ≡ Storing v → (C n).latches.rwel ≡ true → lock v ≡ false
        → Op (suc n)
    opens n v lo st nc cl low m armed f =
        let a : Armed ops keeps number see seat b closed new calls n = (known ops keeps number see seat b closed new calls n).rwel armed in
        let w : Writes n v = writes ops keeps number see seat b closed new calls n v st cl (ap where_is m) (rw low refl) in
        let nz : Writes n 0 → ⊥ = λ z. (let e : v ≡ 0 = one_byte ops keeps number see seat b closed new calls n v 0 w z in clash (sym (ap (bit 2) e) ∙ ((guard n).storing v m).0)) in
        record {
          first = a.first;
          second = a.second;
          third = n;
          byte = v;
          second_later = a.second_later;
          third_later = a.later;
          from = lo;
          to = lt-suc_self n;
          enables = a.enables;
          arms = a.arms;
          unlocks = w;
          low = low;
          unlocking = f;
          unbroken = λ j from to. elim (cases_eq j n) [
            | inl e ↦ subst (λ i. (IsCut (calls i) → ⊥) × (Writes i 0 → ⊥)) (sym e) (nc, nz)
            | inr d ↦ (let z : j ≡ n → ⊥ = d in a.since j from (omega arith))
          ];
          alone = a.alone;
        }

    -- what a finish or a power cut leaves of the register
    stored_lock : (old new_byte : ℕ) (o : Option ℕ) → (new_byte ≡ old) ⊎ (o ≡ Some new_byte) → lock old ≡ true → ((v : ℕ) → o ≡ Some v → lock v ≡ true) → lock new_byte ≡ true
    stored_lock old new_byte o (inl e) h g = ap lock e ∙ h
    stored_lock old new_byte o (inr e) h g = g new_byte e

    coming_at : (o : Option ℕ) (t : Bool) (n : ℕ) (c : X9520) → under_way_at c.eeprom 259 ≡ o → ((v : ℕ) → o ≡ Some v → (lock v ≡ true) ⊎ Op (suc n))
        → Op (suc n) ⊎ ((v : ℕ) → under_way_at c.eeprom 259 ≡ Some v → lock v ≡ true)
    coming_at None t n c e f = inr (λ v u. absurd (none-some v (sym e ∙ u)))
    coming_at (Some v) t n c e f = elim (f v refl) [
      | inl h ↦ inr (λ u g. (let z : v ≡ u = (let y : ◌≡◌ {A = Option ℕ} (Some v) (Some u) = sym e ∙ g in (let x : v ≡ u = cc in x)) in subst (λ i. lock i ≡ true) z h))
      | inr o ↦ inl o
    ]

    either_way : (t : Bool) (n v : ℕ) → lock v ≡ t → (lock v ≡ false → Op (suc n)) → (lock v ≡ true) ⊎ Op (suc n)
    either_way true n v e f = inl e
    either_way false n v e f = inr (f e)

    shut_stop : (n : ℕ) (l : Levels) → p ≤ n → wp_of (calls n) ≡ l.wp
        → C (suc n) ≡ x9520.stop (x9520.level (C n) l) (clean_at ops keeps number see seat b closed new calls n) l → IsStop ops keeps number see seat b closed new calls n
        → (IsCut (calls n) → ⊥) → Shut (C n) → Op (suc n) ⊎ Shut (C (suc n))
    shut_stop n l lo low is st nc r =
        let cl = clean_at ops keeps number see seat b closed new calls n in
        let d = x9520.stop (x9520.level (C n) l) cl l in
        let g : Guarded (x9520.level (C n) l) = level_guarded (C n) l (guard n) in
        elim (coming_at (under_way_at d.eeprom 259) true n d refl (λ v u. elim (register_begins (x9520.level (C n) l) g cl l v u) [
          | inl was ↦ inl (r.coming v was)
          | inr s ↦ either_way _ n v refl (opens n v lo st nc s.2 (low ∙ s.3) s.0 s.1)
        ])) [
          | inl o ↦ inl o
          | inr c ↦ inr (subst Shut (sym is) (record { same = same_stop (C n) cl l (guard n) r.shut r.same; shut = ap lock (stop_byte (x9520.level (C n) l) cl l 259) ∙ r.shut; coming = c }))
        ]
      where
        level_guarded : (c : X9520) (l : Levels) → Guarded c → Guarded (x9520.level c l)
        level_guarded c l g = guarded_step c (levelling l) tt g

    shut_event : (n : ℕ) → p ≤ n → n < q → Event ops keeps number see seat (B n) (calls n) (B (suc n)) (history ops b calls n) → Shut (C n) → Op (suc n) ⊎ Shut (C (suc n))
    shut_event n lo hi (calm m f c) r = inr (record { same = same_calm (C n) _ m r.shut r.same; shut = ap lock (calm_register (C n) _ m) ∙ r.shut; coming = λ v u. r.coming v (sym (m.under_way 259) ∙ u) })
    shut_event n lo hi (stops l low is st c) r = shut_stop n l lo low is st c r
    shut_event n lo hi (finishes is f c) r =
        inr (subst Shut (sym is) (record {
          same = same_finish (C n) r.same;
          shut = stored_lock _ _ _ (finish_either (C n) 259) r.shut r.coming;
          coming = λ v u. absurd (none-some v (sym (finish_under_way (C n) 259) ∙ u));
        }))
    shut_event n lo hi (cuts w is f c) r =
        inr (subst Shut (sym is) (record {
          same = same_cut n lo hi c (C n) w r.same;
          shut = stored_lock _ _ _ (cut_either (C n) w 259) r.shut r.coming;
          coming = λ v u. absurd (none-some v (sym (cut_under_way (C n) w 259) ∙ u));
        }))

    one_on : (n : ℕ) → p ≤ n → n < q → Op n ⊎ Shut (C n) → Op (suc n) ⊎ Shut (C (suc n))
    one_on n lo hi (inl o) = inl (later n o)
    one_on n lo hi (inr r) = shut_event n lo hi (event ops keeps number see seat b closed new calls n) r

    on : (d n : ℕ) → n ≡ d + p → n ≤ q → Shut (C p) → Op n ⊎ Shut (C n)
    on zero n e hi r = let z : p ≡ n = omega arith in subst (λ i. Op i ⊎ Shut (C i)) z (inr r)
    on (suc d) n e hi r = let z : suc (d + p) ≡ n = omega arith in subst (λ i. Op i ⊎ Shut (C i)) z (one_on (d + p) (omega arith) (omega arith) (on d (d + p) refl (omega arith) r))

    pub unchanged : p ≤ q → Same (C p) → lock (stored_register (C p)) ≡ true → ((v : ℕ) → under_way_at (C p).eeprom 259 ≡ Some v → ⊥) → Op q ⊎ Same (C q)
    unchanged le s h u = elim (on (q - p) q (omega arith) (omega arith) (record { same = s; shut = h; coming = λ v e. absurd (u v e) })) [ inl o ↦ inl o | inr r ↦ inr r.same ]

  -- from a state with nothing under way in the chip
  module _ (p q : ℕ) (le : p ≤ q) (free : ops.busy (B p).part k ≡ false) where
    idle_cell : (i v : ℕ) → under_way_at (C p).eeprom i ≡ Some v → ⊥
    idle_cell i v e = clash (sym free ∙ (keeps.shape (B p).part).busy_if k i v (under_way_is ops keeps number see seat b closed new calls p i ∙ e))

    register_is : register ops b calls k p ≡ stored_register (C p)
    register_is = cell_is ops keeps number see seat b closed new calls p 259

    abbrev SameByte : ℕ → X9520 → Type 0
    SameByte i c = (byte_at c.eeprom i ≡ byte_at (C p).eeprom i) × (under_way_at c.eeprom i ≡ None)

    -- a cell with nothing under way keeps its byte at a finish, or at a power cut
    rests : (i : ℕ) (old now : ℕ) (o : Option ℕ) → (now ≡ old) ⊎ (o ≡ Some now) → o ≡ None → now ≡ old
    rests i old now o (inl e) n = e
    rests i old now o (inr e) n = absurd (none-some _ (sym n ∙ e))

    locked_byte : (i : ℕ) → locks_cell (register ops b calls k p) i ≡ true → (ops.cell (B q).part k i ≡ ops.cell (B p).part k i) ⊎ Opened ops b calls k (λ r. locks_cell r i) p q
    locked_byte i h = elim (unchanged (λ r. locks_cell r i) (SameByte i) p q
        (λ c d m l s. (m.cells i ∙ s.0, m.under_way i ∙ s.1))
        (λ c cl l g h s. (stop_byte (x9520.level c l) cl l i ∙ s.0, stop_locked (x9520.level c l) cl l (guarded_step c (levelling l) tt g) i (sym (lock_is (stored_register c) i) ∙ h) ∙ s.1))
        (λ c s. (rests i _ _ _ (finish_either c i) s.1 ∙ s.0, finish_under_way c i))
        (λ n lo hi cu c w s. (rests i _ _ _ (cut_either c w i) s.1 ∙ s.0, cut_under_way c w i))
        le (refl, none_by _ (idle_cell i)) (ap (λ r. locks_cell r i) (sym register_is) ∙ h) (idle_cell 259)) [
          | inl o ↦ inr o
          | inr s ↦ inl (cell_is ops keeps number see seat b closed new calls q i ∙ s.0 ∙ sym (cell_is ops keeps number see seat b closed new calls p i))
        ]

    locked_wiper : (j : ℕ) → locks_wipers (register ops b calls k p) ≡ true → ((n : ℕ) → p ≤ n → n < q → IsCut (calls n) → ⊥)
        → (ops.tap (B q).part k j ≡ ops.tap (B p).part k j) ⊎ Opened ops b calls k locks_wipers p q
    locked_wiper j h no_cut = elim (unchanged locks_wipers (λ c. x9520.tap c 0 j ≡ x9520.tap (C p) 0 j) p q
        (λ c d m l s. m.wiper (sym (wipers_is (stored_register c)) ∙ l) j ∙ s)
        (λ c cl l g h s. stop_tap (x9520.level c l) cl l j ∙ s)
        (λ c s. finish_tap c j ∙ s)
        (λ n lo hi cu c w s. absurd (no_cut n lo hi cu))
        le refl (ap locks_wipers (sym register_is) ∙ h) (idle_cell 259)) [
          | inl o ↦ inr o
          | inr s ↦ inl (tap_is ops keeps number see seat b closed new calls q j ∙ s ∙ sym (tap_is ops keeps number see seat b closed new calls p j))
        ]

-- on a board as it is made
pub locking : {S : Type 0} (ops : Ops S) (keeps : Keeps ops) (s : S) → Locks ops (idle (ops.renew s))
unfolding Locks LockHolds
locking ops keeps s number see seat calls p q le free =
    let new = seat.renew s in
    record {
      byte = locked_byte ops keeps number see seat (idle (ops.renew s)) refl new calls p q le free;
      wiper = locked_wiper ops keeps number see seat (idle (ops.renew s)) refl new calls p q le free;
    }
