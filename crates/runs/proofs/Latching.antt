-- WEL set on an X9520 means that 02h was written to its register, unbroken since, and RWEL that 06h was written after it. Assumes nothing.
use Rattle.std.proofs.Common.{◌≡◌, ℕ, zero, suc, ◌<◌, ◌≤◌, Bool, true, false, refl, sym, ap, ◌∙◌, subst, inl, inr, arith, is_some, lt-suc_self}
use borrow.Author.Tests.{clash}
use Rattle.std.proofs.lemmas.Bool.{cases_eq}
use Rattle.part.specs.declared.levels.Levels.{Levels}
use Rattle.part.specs.Ops.{Ops}
use Rattle.part.specs.Keeps.{Keeps}
use Rattle.part.specs.Seats.{Seat}
use Rattle.eeprom.specs.Cells.{staged_at}
use Rattle.protection.specs.declared.latches.Latches.{Latches}
use Rattle.protection.specs.Latching.{cleared}
use Rattle.protection.specs.Lock.{wp_forbids}
use Rattle.x9520.specs.declared.state.X9520.{X9520}
use Rattle.x9520.specs.declared.state.Mode.{Mode}
use Rattle.x9520.specs.declared.state.Mode.TheVariants.{Latching}
use Rattle.x9520.specs.Chip.{x9520, latches_stopped}
use Rattle.x9520.specs.State.{fresh}
use Rattle.x9520.specs.Register.{stored_register}
use Rattle.x9520.proofs.Lock.{Guarded, latching_empty}
use Rattle.x9520.proofs.Calm.{stop_latches, finish_latches, cut_latches, latched_wel, latched_rwel}
use Rattle.x9520.proofs.Waiting.{Idles, storing_disarms}
use Rattle.x9520.proofs.Place.{holding, where_is, held_byte, is_holding}
use Rattle.board.specs.declared.board.Board.{Board}
use Rattle.board.specs.declared.bus.Phase.TheVariants.{Closed}
use Rattle.board.specs.declared.call.Call.{Call}
use Rattle.board.specs.Wires.{stopped, clean}
use Rattle.board.specs.Runs.{IsCut, edge_of, state, history}
use Rattle.board.specs.Cause.{wp_of}
use Rattle.runs.specs.Lock.{Registers}
use Rattle.runs.proofs.Bits.{forbidden_is}
use Rattle.runs.proofs.Events.{Event, calm, stops, finishes, cuts, event, guarded, waiting, cell_is, staged_is, sent_by, held_by}

module _ {S : Type 0} (ops : Ops S) (keeps : Keeps ops) (number : S → ℕ) (see : S → X9520) (seat : Seat ops x9520 number see)
    (b : Board S) (closed : b.bus.phase ≡ Closed) (new : see b.part ≡ fresh) (calls : ℕ → Call) where
  abbrev pub B : ℕ → Board S
  B n = state ops b calls n

  abbrev pub C : ℕ → X9520
  C n = see (B n).part

  abbrev pub W : ℕ → ℕ → Type 0
  W n v = Registers ops b calls (number b.part) n v

  abbrev pub IsStop : ℕ → Type 0
  IsStop n = edge_of ops (B n) (calls n) (B (suc n)) ≡ stopped

  abbrev pub clean_at : ℕ → Bool
  clean_at n = clean (history ops b calls n).ongoing

  pub writes : (n v : ℕ) → IsStop n → clean_at n ≡ true → where_is (C n).mode ≡ holding v → wp_forbids (is_some (staged_at (C n).eeprom 259)) (wp_of (calls n)) (stored_register (C n)) ≡ false → W n v
  writes n v st c h p =
      let s = sent_by ops keeps number see seat b closed new calls n v c h in
      let q = forbidden_is _ (wp_of (calls n)) (stored_register (C n)) ∙ p in
      record {
        stop = st;
        t = s.t;
        ongoing = s.ongoing;
        clean = s.clean_is;
        sent = s.bytes;
        acked = s.acked;
        mine = s.mine;
        passes = rw (staged_is ops keeps number see seat b closed new calls n 259, cell_is ops keeps number see seat b closed new calls n 259) q;
      }

  -- what is written is what the chip holds
  pub holds : (n v : ℕ) → W n v → where_is (C n).mode ≡ holding v
  holds n v w = held_by ops keeps number see seat b closed new calls n v w.t w.ongoing w.clean w.sent w.mine

  pub one_byte : (n v u : ℕ) → W n v → W n u → v ≡ u
  one_byte n v u p q = ap held_byte (sym (holds n v p) ∙ holds n u q)

  passed : (n v : ℕ) → W n v → wp_forbids (is_some (staged_at (C n).eeprom 259)) (wp_of (calls n)) (stored_register (C n)) ≡ false
  passed n v w =
      sym (forbidden_is _ (wp_of (calls n)) (stored_register (C n)))
      ∙ rw (sym (staged_is ops keeps number see seat b closed new calls n 259), sym (cell_is ops keeps number see seat b closed new calls n 259)) w.passes

  clean_by : (n v : ℕ) → W n v → clean_at n ≡ true
  clean_by n v w = ap clean w.ongoing ∙ w.clean

  guard : (n : ℕ) → Guarded (C n)
  guard n = guarded ops keeps number see seat b closed new calls n

  no_stage : (n v : ℕ) → (C n).mode ≡ Latching v → is_some (staged_at (C n).eeprom 259) ≡ false
  no_stage n v m = ap is_some (latching_empty (C n) (guard n) v m 259)

  -- WP LOW is what lets a stored write pass
  wp_clear : (stores wp : Bool) (r : ℕ) → stores ≡ true → wp_forbids stores wp r ≡ false → wp ≡ false
  wp_clear true true r e h = h
  wp_clear true false r e h = refl
  wp_clear false wp r e h = absurd (clash e)

  -- 00h written clears both latches
  zero_by : (m : Mode) (c wp : Bool) (r : ℕ) (l : Latches) → m ≡ Latching 0 → c ≡ true → wp_forbids false wp r ≡ false → latches_stopped m c wp r l ≡ cleared
  zero_by m c wp r l e f p = rw (e, f, p) refl

  zero_clears : (n : ℕ) (l : Levels) → wp_of (calls n) ≡ l.wp → C (suc n) ≡ x9520.stop (x9520.level (C n) l) (clean_at n) l → W n 0 → (C (suc n)).latches ≡ cleared
  zero_clears n l e is w = elim (is_holding (C n).mode 0 (holds n 0 w)) [
    | inl m ↦ ap (λ c. c.latches) is
        ∙ zero_by (C n).mode (clean_at n) l.wp (stored_register (C n)) (C n).latches m (clean_by n 0 w)
        (subst (λ z. wp_forbids false z (stored_register (C n)) ≡ false) e
        (subst (λ z. wp_forbids z (wp_of (calls n)) (stored_register (C n)) ≡ false) (no_stage n 0 m) (passed n 0 w)))
    | inr m ↦ absurd (clash ((guard n).storing 0 m).0)
  ]

  -- from call a on, before call n
  abbrev pub Since : ℕ → ℕ → Type 0
  Since a n = (j : ℕ) → a ≤ j → j < n → (IsCut (calls j) → ⊥) × (W j 0 → ⊥)

  further : (a n : ℕ) → Since a n → (IsCut (calls n) → ⊥) → (W n 0 → ⊥) → Since a (suc n)
  further a n u c w j lo hi = elim (cases_eq j n) [
    | inl e ↦ subst (λ i. (IsCut (calls i) → ⊥) × (W i 0 → ⊥)) (sym e) (c, w)
    | inr d ↦ (let z : j ≡ n → ⊥ = d in u j lo (omega arith))
  ]

  pub record Enabled (n : ℕ) : Type 0 where
    pub first : ℕ
    pub later : first < n
    pub enables : W first 2
    pub since : Since first n

  pub record Armed (n : ℕ) : Type 0 where
    pub first : ℕ
    pub second : ℕ
    pub second_later : first < second
    pub later : second < n
    pub enables : W first 2
    pub arms : W second 6
    pub since : Since first n
    pub alone : (j v : ℕ) → second < j → j < n → W j v → Idles v

  pub record Known (n : ℕ) : Type 0 where
    pub wel : (C n).latches.wel ≡ true → Enabled n
    pub rwel : (C n).latches.rwel ≡ true → Armed n

  enabled_on : (n : ℕ) → (IsCut (calls n) → ⊥) → (W n 0 → ⊥) → Enabled n → Enabled (suc n)
  enabled_on n c w e = let lt = e.later in record { first = e.first; later = omega arith; enables = e.enables; since = further e.first n e.since c w }

  armed_on : (n : ℕ) → (IsCut (calls n) → ⊥) → (W n 0 → ⊥) → ((v : ℕ) → W n v → Idles v) → Armed n → Armed (suc n)
  armed_on n c w i e =
      let lt = e.later in
      record {
        first = e.first;
        second = e.second;
        second_later = e.second_later;
        later = omega arith;
        enables = e.enables;
        arms = e.arms;
        since = further e.first n e.since c w;
        alone = λ j v lo hi x. elim (cases_eq j n) [
          | inl same ↦ i v (subst (λ z. W z v) same x)
          | inr d ↦ (let z : j ≡ n → ⊥ = d in e.alone j v lo (omega arith) x)
        ];
      }

  kept : (n : ℕ) (d : X9520) → C (suc n) ≡ d → (IsCut (calls n) → ⊥) → ((v : ℕ) → W n v → ⊥) → (d.latches.wel ≡ true → (C n).latches.wel ≡ true)
      → (d.latches.rwel ≡ true → (C n).latches.rwel ≡ true) → Known n → Known (suc n)
  kept n d is c w f g h = record {
    wel = λ e. enabled_on n c (w 0) (h.wel (f (ap (λ z. z.latches.wel) (sym is) ∙ e)));
    rwel = λ e. armed_on n c (w 0) (λ v x. absurd (w v x)) (h.rwel (g (ap (λ z. z.latches.rwel) (sym is) ∙ e)));
  }

  -- a STOP
  module _ (n : ℕ) (l : Levels) (low : wp_of (calls n) ≡ l.wp) (is : C (suc n) ≡ x9520.stop (x9520.level (C n) l) (clean_at n) l) (st : IsStop n) (nc : IsCut (calls n) → ⊥) (h : Known n) where
    latch_writes : (v : ℕ) → (C n).mode ≡ Latching v → clean_at n ≡ true → wp_forbids false l.wp (stored_register (C n)) ≡ false → W n v
    latch_writes v m c p = writes n v st c (ap where_is m) (rw (no_stage n v m, low) p)

    not_zero : (C (suc n)).latches.wel ≡ true → W n 0 → ⊥
    not_zero e w = clash (ap (λ z. z.wel) (sym (zero_clears n l low is w)) ∙ e)

    ordered : (C (suc n)).latches.rwel ≡ true → (C (suc n)).latches.wel ≡ true
    ordered e = (C (suc n)).latches.ordered e

    -- while RWEL stands, nothing is written but what changes nothing
    idles_only : (C n).latches.rwel ≡ true → (C (suc n)).latches.rwel ≡ true → (v : ℕ) → W n v → Idles v
    idles_only was e v w = elim (is_holding (C n).mode v (holds n v w)) [
      | inl m ↦ elim (waiting ops keeps number see seat b closed new calls n v m was) [
        | inl z ↦ absurd (not_zero (ordered e) (subst (W n) z w))
        | inr i ↦ i
      ]
      | inr m ↦ (
          let stored = ((guard n).storing v m).1 in
          let wp_low : wp_of (calls n) ≡ false = wp_clear _ (wp_of (calls n)) (stored_register (C n)) (ap is_some stored) (passed n v w) in
          absurd (clash (sym (ap (λ c. c.latches.rwel) is ∙ storing_disarms (C n).mode v (clean_at n) l.wp (stored_register (C n)) (C n).latches m (clean_by n v w) (sym low ∙ wp_low)) ∙ e)))
    ]

    wel_stop : (C (suc n)).latches.wel ≡ true → Enabled (suc n)
    wel_stop e =
        let f = ap (λ z. z.latches.wel) (sym is) ∙ e in
        elim (stop_latches (x9520.level (C n) l) (clean_at n) l) [
          | inl same ↦ enabled_on n nc (not_zero e) (h.wel (ap (λ z. z.wel) (sym same) ∙ f))
          | inr (inl d) ↦ enabled_on n nc (not_zero e) (h.wel (sym d.1.4 ∙ f))
          | inr (inr o) ↦ elim (latched_wel (C n).latches o.0 (ap (λ z. z.wel) (sym o.1.3) ∙ f)) [
            | inl was ↦ enabled_on n nc (not_zero e) (h.wel was)
            | inr two ↦ (let w = subst (W n) two (latch_writes o.0 o.1.0 o.1.1 o.1.2) in
                record {
                  first = n;
                  later = lt-suc_self n;
                  enables = w;
                  since = λ j lo hi. subst (λ i. (IsCut (calls i) → ⊥) × (W i 0 → ⊥)) (let z : n ≡ j = omega arith in z) (nc, not_zero e);
                })
          ]
        ]

    armed_new : (v : ℕ) → v ≡ 6 → W n v → (W n 0 → ⊥) → Enabled n → Armed (suc n)
    armed_new v e w nz p = record {
      first = p.first;
      second = n;
      second_later = p.later;
      later = lt-suc_self n;
      enables = p.enables;
      arms = subst (W n) e w;
      since = further p.first n p.since nc nz;
      alone = λ j u lo hi x. absurd (omega arith);
    }

    rwel_stop : (C (suc n)).latches.rwel ≡ true → Armed (suc n)
    rwel_stop e =
        let f = ap (λ z. z.latches.rwel) (sym is) ∙ e in
        let nz = not_zero (ordered e) in
        elim (stop_latches (x9520.level (C n) l) (clean_at n) l) [
          | inl same ↦ (let was = ap (λ z. z.rwel) (sym same) ∙ f in armed_on n nc nz (idles_only was e) (h.rwel was))
          | inr (inl d) ↦ absurd (clash (sym d.1.3 ∙ f))
          | inr (inr o) ↦ elim (latched_rwel (C n).latches o.0 (ap (λ z. z.rwel) (sym o.1.3) ∙ f)) [
            | inl was ↦ armed_on n nc nz (idles_only was e) (h.rwel was)
            | inr six ↦ armed_new o.0 six.0 (latch_writes o.0 o.1.0 o.1.1 o.1.2) nz (h.wel six.1)
          ]
        ]

  no_write : (n : ℕ) → (IsStop n → ⊥) → (v : ℕ) → W n v → ⊥
  no_write n f v w = f w.stop

  known_event : (n : ℕ) → Event ops keeps number see seat (B n) (calls n) (B (suc n)) (history ops b calls n) → Known n → Known (suc n)
  known_event n (calm m f c) h = kept n (C (suc n)) refl c (no_write n f) (λ e. sym m.wel ∙ e) m.rwel h
  known_event n (stops l low is st c) h = record { wel = wel_stop n l low is st c h; rwel = rwel_stop n l low is st c h }
  known_event n (finishes is f c) h = kept n _ is c (no_write n f) (λ e. ap (λ z. z.wel) (sym (finish_latches (C n))) ∙ e) (λ e. ap (λ z. z.rwel) (sym (finish_latches (C n))) ∙ e) h
  known_event n (cuts p is f c) h = record {
    wel = λ e. absurd (clash (ap (λ z. z.wel) (sym (ap (λ z. z.latches) is ∙ cut_latches (C n) p)) ∙ e));
    rwel = λ e. absurd (clash (ap (λ z. z.rwel) (sym (ap (λ z. z.latches) is ∙ cut_latches (C n) p)) ∙ e));
  }

  pub known : (n : ℕ) → Known n
  known zero = record {
    wel = λ e. absurd (clash (ap (λ z. z.latches.wel) (sym new) ∙ e));
    rwel = λ e. absurd (clash (ap (λ z. z.latches.rwel) (sym new) ∙ e));
  }
  known (suc n) = known_event n (event ops keeps number see seat b closed new calls n) (known n)
