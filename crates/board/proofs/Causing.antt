-- A stored byte changes only by an acknowledged write that ended clean with WP LOW. Assumes nothing.
use Rattle.std.proofs.Common.{◌≡◌, ℕ, zero, suc, ◌+◌, ◌-◌, ◌/◌, ◌%◌, ◌^◌, ◌≤◌, Bool, true, false, cond, ◌&&◌, ◌⊎◌, List, [], ◌∷◌, length, eqb, ltb, Some, None, Option, ◌≢◌, refl, sym, ap, ◌∙◌, subst, inl, inr, arith, lt-suc_self}
use borrow.Author.Tests.{clash}
use Rattle.std.proofs.lemmas.Bool.{and_parts, cond-true, cases_eq, eqb-true, eqb-false, ne_eqb}
use Rattle.std.proofs.lemmas.Option.{none-some}
use Rattle.std.specs.Option.{unwrap_or}
use Rattle.part.specs.declared.levels.Levels.{Levels}
use Rattle.part.specs.declared.power.PowerCut.{PowerCut}
use Rattle.part.specs.Ops.{Ops}
use Rattle.part.specs.Keeps.{Keeps, Stored, Finishes, Cuts}
use Rattle.part.specs.Moves.{Move, moved, after}
use Rattle.board.specs.declared.board.Board.{Board}
use Rattle.board.specs.declared.call.Call.{Call}
use Rattle.board.specs.declared.call.Call.TheVariants.{Sample, Finish, Cut}
use Rattle.board.specs.declared.bus.Phase.TheVariants.{Closed}
use Rattle.board.specs.Engine.{numbered}
use Rattle.board.specs.Samples.{levels}
use Rattle.board.specs.Wires.{Edge, steady, started, stopped, rose, fell, edge, next, Byte, Transfer, value, reading, all_acked, acked_by, address, is_clean, clean, values, carried}
use Rattle.board.specs.Runs.{History, pulls_by, told, offered, edge_of, onward, state, history}
use Rattle.board.specs.Cause.{Among, EachPulled, Writes, Written, Caused}
use Rattle.board.proofs.Running.{Advances, advances, good}
use Rattle.board.proofs.Bearing.{so_far, Bears, Open, facts, onto, onto_open, open_edge}

-- in a transfer for writing every byte that is acknowledged was pulled for
reading_more : (x : Byte) (bs : List Byte) → reading (x ∷ bs) ≡ false → reading bs ≡ false
reading_more x [] h = refl
reading_more x (y ∷ bs) h = h

pub each_pulled : (bs : List Byte) → all_acked bs ≡ true → reading bs ≡ false → EachPulled bs
each_pulled [] a r = tt
each_pulled (x ∷ bs) a r =
    let p = and_parts (all_acked bs) _ a in
    let q = reading_more x bs r in
    (ap (λ z. acked_by z x) (sym q) ∙ p.1, each_pulled bs p.0 q)

abbrev pub edge_tag : Edge → ℕ
edge_tag steady = 0
edge_tag started = 0
edge_tag stopped = 1
edge_tag (rose w) = 0
edge_tag fell = 0

pub is_stopped : (e : Edge) → (e ≡ stopped) ⊎ (e ≡ stopped → ⊥)
is_stopped steady = inr (λ z. let y : ◌≡◌ {A = ℕ} 0 1 = ap edge_tag z in omega arith)
is_stopped started = inr (λ z. let y : ◌≡◌ {A = ℕ} 0 1 = ap edge_tag z in omega arith)
is_stopped stopped = inl refl
is_stopped (rose w) = inr (λ z. let y : ◌≡◌ {A = ℕ} 0 1 = ap edge_tag z in omega arith)
is_stopped fell = inr (λ z. let y : ◌≡◌ {A = ℕ} 0 1 = ap edge_tag z in omega arith)

module _ {S : Type 0} (ops : Ops S) (keeps : Keeps ops) where
  then_stored : (s t u : S) → Stored ops s t → Stored ops t u → Stored ops s u
  then_stored s t u p q = record { cell = λ k i. q.cell k i ∙ p.cell k i; under_way = λ k i. q.under_way k i ∙ p.under_way k i }

  same_stored : (s : S) → Stored ops s s
  same_stored s = record { cell = λ k i. refl; under_way = λ k i. refl }

  offered_stored : (l : Levels) (bs : List Byte) (x : ℕ) (s : S) → Stored ops s (moved ops s (offered l bs x))
  offered_stored l [] x s = (keeps.addresses s x).stored
  offered_stored l (a ∷ []) x s = (keeps.aiming s a.value l x).calm.stored
  offered_stored l (y ∷ (z ∷ bs)) x s = (keeps.taking s (address (z ∷ bs)) l x).stored

  maybe_stored : (q : Bool) (m : Move) (s : S) → Stored ops s (moved ops s m) → Stored ops s (after ops s (cond q (m ∷ []) []))
  maybe_stored true m s h = h
  maybe_stored false m s h = same_stored s

  -- no edge but a STOP changes a stored byte, or a write under way
  pub edge_stored : (e : Edge) (l : Levels) (o : Option Transfer) (s : S) → (e ≡ stopped → ⊥) → Stored ops s (after ops s (told e l o))
  edge_stored steady l o s n = same_stored s
  edge_stored started l o s n = (keeps.starts s).calm.stored
  edge_stored stopped l o s n = absurd (n refl)
  edge_stored (rose w) l None s n = same_stored s
  edge_stored (rose w) l (Some t) s n = maybe_stored _ _ s (offered_stored l t.bytes (value (w ∷ t.bits)) s)
  edge_stored fell l None s n = same_stored s
  edge_stored fell l (Some t) s n = maybe_stored _ _ s (keeps.gives s (address t.bytes)).calm.stored

  -- what one call does to a cell of the numbered part k
  record Fate (b : Board S) (call : Call) (c : Board S) (h : History) (k i : ℕ) : Type 0 where
    cell : (ops.cell c.part k i ≡ ops.cell b.part k i) ⊎ (ops.under_way b.part k i ≡ Some (ops.cell c.part k i))
    under_way : (v : ℕ) → ops.under_way c.part k i ≡ Some v → (ops.under_way b.part k i ≡ Some v) ⊎ Writes ops b call c h k v

  quiet_fate : (b : Board S) (call : Call) (c : Board S) (h : History) (k i : ℕ) → ops.cell c.part k i ≡ ops.cell b.part k i → ops.under_way c.part k i ≡ ops.under_way b.part k i → Fate b call c h k i
  quiet_fate b call c h k i e f = record { cell = inl e; under_way = λ v g. inl (sym f ∙ g) }

  -- a STOP, of which the levels have reached the part
  pub clean_some : (o : Option Transfer) → clean o ≡ true → (t : Transfer) × ((o ≡ Some t) × (is_clean t ≡ true))
  clean_some None h = absurd (clash h)
  clean_some (Some t) h = (t, (refl, h))

  pub one_rise : (t : Transfer) → is_clean t ≡ true → so_far t ≡ values t.bytes
  one_rise t h =
      let c = and_parts (eqb (length t.bits) 1) _ h in
      let one = eqb-true _ 1 c.0 in
      rw (ne_eqb (length t.bits) 8 (λ z. omega (arith, one, z))) refl

  stop_fate : (b : Board S) (x : ℕ) (c : Board S) (h : History) (k i : ℕ) → edge_of ops b (Sample x) c ≡ stopped
      → c.part ≡ ops.stop (ops.level b.part (levels x)) (clean h.ongoing) (levels x) → Open ops keeps h.answer h.ongoing b.part → Fate b (Sample x) c h k i
  stop_fate b x c h k i st e held =
      let l = levels x in
      let up = keeps.levels b.part l in
      let halt = keeps.stops (ops.level b.part l) (clean h.ongoing) l in
      record {
        cell = inl (rw e (halt.cell k i ∙ up.calm.stored.cell k i));
        under_way = λ v u. elim (halt.under_way k i) [
          | inl same ↦ inl (sym (up.calm.stored.under_way k i) ∙ sym same ∙ ap (λ s. ops.under_way s k i) (sym e) ∙ u)
          | inr new ↦ inr (ended v (sym new.3 ∙ ap (λ s. ops.under_way s k i) (sym e) ∙ u) new.1 new.2)
        ];
      }
    where
      ended : (v : ℕ) → ops.staged (ops.level b.part (levels x)) k i ≡ Some v → clean h.ongoing ≡ true → (levels x).wp ≡ false → Writes ops b (Sample x) c h k v
      ended v u cl low =
          let w = clean_some h.ongoing cl in
          let t = w.0 in
          let up = keeps.levels b.part (levels x) in
          let r = onto ops keeps h.answer h.ongoing b.part _ up.calm.fixed up.calm.fades (held t w.1.0) k i v u in
          let f = facts ops keeps h.answer t _ k v (subst (λ o. Bears ops keeps h.answer o (ops.level b.part (levels x)) k v) w.1.0 r) in
          record {
            stop = st;
            low = low;
            t = t;
            ongoing = w.1.0;
            clean = w.1.1;
            writing = f.2;
            mine = sym (up.calm.fixed.owner _) ∙ f.3;
            acked = each_pulled t.bytes f.1 f.2;
            carries = subst (λ u. Among v (carried u)) (one_rise t w.1.1) f.0;
          }

  -- a finish and a power cut store what is under way, or not, and leave none
  store_or_not : (u o : Option ℕ) (new old : ℕ) → o ≡ u → new ≡ unwrap_or o old → (new ≡ old) ⊎ (o ≡ Some new)
  store_or_not None o new old e h = inl (h ∙ ap (λ z. unwrap_or z old) e)
  store_or_not (Some v) o new old e h = inr (e ∙ ap Some (sym (h ∙ ap (λ z. unwrap_or z old) e)))

  finish_fate : (b : Board S) (q : ℕ) (c : Board S) (h : History) (k i : ℕ) → c.part ≡ ops.finish b.part q → Fate b (Finish q) c h k i
  finish_fate b q c h k i e = elim (cases_eq k q) [ inl same ↦ mine same | inr other ↦ others other ]
    where
      f : Finishes ops b.part q (ops.finish b.part q)
      f = keeps.finishes b.part q

      mine : k ≡ q → Fate b (Finish q) c h k i
      mine same = subst (λ j. Fate b (Finish q) c h j i) (sym same) (record {
        cell = store_or_not _ (ops.under_way b.part q i) _ _ refl (ap (λ s. ops.cell s q i) e ∙ f.stores i);
        under_way = λ v u. absurd (none-some v (sym (f.ends i) ∙ ap (λ s. ops.under_way s q i) (sym e) ∙ u));
      })

      others : (k ≢ q) → Fate b (Finish q) c h k i
      others n = quiet_fate b (Finish q) c h k i (ap (λ s. ops.cell s k i) e ∙ f.other_cell k i n) (ap (λ s. ops.under_way s k i) e ∙ f.other_under_way k i n)

  cut_fate : (b : Board S) (p : PowerCut) (c : Board S) (h : History) (k i : ℕ) → c.part ≡ ops.cut b.part p → Fate b (Cut p) c h k i
  cut_fate b p c h k i e = record {
    cell = by (eqb (p.mask / 2 ^ ops.offset b.part k i % 2) 1) refl;
    under_way = λ v u. absurd (none-some v (sym (f.ends k i) ∙ ap (λ s. ops.under_way s k i) (sym e) ∙ u));
  }
    where
      f : Cuts ops b.part p (ops.cut b.part p)
      f = keeps.cuts b.part p

      by : (t : Bool) → eqb (p.mask / 2 ^ ops.offset b.part k i % 2) 1 ≡ t → (ops.cell c.part k i ≡ ops.cell b.part k i) ⊎ (ops.under_way b.part k i ≡ Some (ops.cell c.part k i))
      by true g = store_or_not _ (ops.under_way b.part k i) _ _ refl (ap (λ s. ops.cell s k i) e ∙ f.marked k i (eqb-true _ 1 g))
      by false g = inl (ap (λ s. ops.cell s k i) e ∙ f.unmarked k i (eqb-false _ 1 g))

  abbrev told_by : Board S → ℕ → Board S → History → List Move
  told_by b x c h = told (edge_of ops b (Sample x) c) (levels x) h.ongoing

  sample_fate : (b : Board S) (x : ℕ) (c : Board S) (h : History) (k i : ℕ) → c.part ≡ after ops (ops.level b.part (levels x)) (told_by b x c h)
      → Open ops keeps h.answer h.ongoing b.part → Fate b (Sample x) c h k i
  sample_fate b x c h k i e held = elim (is_stopped (edge_of ops b (Sample x) c)) [
    | inl st ↦ stop_fate b x c h k i st (e ∙ ap (λ z. after ops (ops.level b.part (levels x)) (told z (levels x) h.ongoing)) st) held
    | inr n ↦ (
        let r = then_stored _ _ _ (keeps.levels b.part (levels x)).calm.stored (edge_stored (edge_of ops b (Sample x) c) (levels x) h.ongoing (ops.level b.part (levels x)) n) in
        quiet_fate b (Sample x) c h k i (ap (λ s. ops.cell s k i) e ∙ r.cell k i) (ap (λ s. ops.under_way s k i) e ∙ r.under_way k i))
  ]

  sample_fate_by : (t : Bool) (b : Board S) (x : ℕ) (c : Board S) (h : History) (k i : ℕ) → ltb x 32 ≡ t → Advances ops b (Sample x) c h
      → Open ops keeps h.answer h.ongoing b.part → Fate b (Sample x) c h k i
  sample_fate_by true b x c h k i e a held = sample_fate b x c h k i (a.part ∙ ap (after ops b.part) (cond-true _ _ _ e)) held
  sample_fate_by false b x c h k i e a held = let same = a.refused e in quiet_fate b (Sample x) c h k i (ap (λ z. ops.cell z.part k i) same) (ap (λ z. ops.under_way z.part k i) same)

  finish_fate_by : (t : Bool) (b : Board S) (q : ℕ) (c : Board S) (h : History) (k i : ℕ) → (numbered ops b q && ops.busy b.part q) ≡ t → Advances ops b (Finish q) c h → Fate b (Finish q) c h k i
  finish_fate_by true b q c h k i e a = finish_fate b q c h k i (a.part ∙ ap (after ops b.part) (cond-true _ _ _ e))
  finish_fate_by false b q c h k i e a = let same = a.refused e in quiet_fate b (Finish q) c h k i (ap (λ z. ops.cell z.part k i) same) (ap (λ z. ops.under_way z.part k i) same)

  fate : (b : Board S) (call : Call) (c : Board S) (h : History) (k i : ℕ) → Advances ops b call c h → Open ops keeps h.answer h.ongoing b.part → Fate b call c h k i
  fate b (Sample x) c h k i a held = sample_fate_by (ltb x 32) b x c h k i refl a held
  fate b (Finish q) c h k i a held = finish_fate_by _ b q c h k i refl a
  fate b (Cut p) c h k i a held = cut_fate b p c h k i a.part

  -- what is staged, over a whole run
  held_sample : (t : Bool) (b : Board S) (x : ℕ) (c : Board S) (h : History) → ltb x 32 ≡ t → Advances ops b (Sample x) c h → Open ops keeps h.answer h.ongoing b.part
      → let n = onward ops b (Sample x) c h in Open ops keeps n.answer n.ongoing c.part
  held_sample true b x c h e a held =
      let l = levels x in
      let up = keeps.levels b.part l in
      let u = open_edge ops keeps b.bus.scl c.bus.scl b.bus.sda c.bus.sda l h.answer h.byte h.ongoing (ops.level b.part l)
      (onto_open ops keeps h.answer h.ongoing b.part _ up.calm.fixed up.calm.fades held) in
      rw (a.part, e) u
  held_sample false b x c h e a held =
      let same = a.refused e in
      subst (λ d. let n = onward ops b (Sample x) d h in Open ops keeps n.answer n.ongoing d.part) (sym same) (rw e (edge_kept b.bus.scl b.bus.sda held))
    where
      edge_kept : (p d : Bool) → Open ops keeps h.answer h.ongoing b.part → Open ops keeps h.answer (next (edge p p d d) (pulls_by b.bus.scl h.ongoing h.answer h.byte) h.ongoing) b.part
      edge_kept true true z = z
      edge_kept true false z = z
      edge_kept false d z = z

  held_finish : (t : Bool) (b : Board S) (q : ℕ) (c : Board S) (h : History) → (numbered ops b q && ops.busy b.part q) ≡ t → Advances ops b (Finish q) c h
      → Open ops keeps h.answer h.ongoing b.part → let n = onward ops b (Finish q) c h in Open ops keeps n.answer n.ongoing c.part
  held_finish true b q c h e a held = let f = keeps.finishes b.part q in rw (a.part, e) (onto_open ops keeps h.answer h.ongoing b.part _ f.fixed f.fades held)
  held_finish false b q c h e a held = let same = a.refused e in subst (λ d. let n = onward ops b (Finish q) d h in Open ops keeps n.answer n.ongoing d.part) (sym same) (rw e held)

  held_call : (b : Board S) (call : Call) (c : Board S) (h : History) → Advances ops b call c h → Open ops keeps h.answer h.ongoing b.part
      → let n = onward ops b call c h in Open ops keeps n.answer n.ongoing c.part
  held_call b (Sample x) c h a held = held_sample (ltb x 32) b x c h refl a held
  held_call b (Finish q) c h a held = held_finish _ b q c h refl a held
  held_call b (Cut p) c h a held = λ t e. absurd (none-some _ e)

  -- a run from a board on which no transfer is open
  module _ (b : Board S) (closed : b.bus.phase ≡ Closed) (calls : ℕ → Call) where
    abbrev B : ℕ → Board S
    B n = state ops b calls n

    abbrev H : ℕ → History
    H n = history ops b calls n

    goes : (n : ℕ) → Advances ops (B n) (calls n) (B (suc n)) (H n)
    goes n = advances ops (B n) (calls n) (H n) (good ops b calls closed n)

    held : (n : ℕ) → Open ops keeps (H n).answer (H n).ongoing (B n).part
    held zero = λ t e. absurd (none-some _ e)
    held (suc n) = held_call (B n) (calls n) (B (suc n)) (H n) (goes n) (held n)

    module _ (p k i : ℕ) where
      abbrev W : ℕ → ℕ → Type 0
      W n v = Written ops b calls p n k v

      record Sourced (n : ℕ) : Type 0 where
        cell : (ops.cell (B n).part k i ≡ ops.cell (B p).part k i) ⊎ W n (ops.cell (B n).part k i)
        under_way : (v : ℕ) → ops.under_way (B n).part k i ≡ Some v → W n v

      later : (n v : ℕ) → W n v → W (suc n) v
      later n v w = let lt = w.to in record { n = w.n; from = w.from; to = omega arith; write = w.write }

      sourced_on : (n : ℕ) → p ≤ n → Sourced n → Sourced (suc n)
      sourced_on n le s =
          let f = fate (B n) (calls n) (B (suc n)) (H n) k i (goes n) (held n) in
          record {
            cell = elim f.cell [
              | inl e ↦ elim s.cell [
                | inl g ↦ inl (e ∙ g)
                | inr w ↦ inr (later n _ (subst (W n) (sym e) w))
              ]
              | inr u ↦ inr (later n _ (s.under_way _ u))
            ];
            under_way = λ v u. elim (f.under_way v u) [
              | inl g ↦ later n v (s.under_way v g)
              | inr w ↦ record { n = n; from = le; to = lt-suc_self n; write = w }
            ];
          }

      sourced : (d n : ℕ) → n ≡ d + p → Sourced p → Sourced n
      sourced zero n e s = let z : p ≡ n = omega arith in subst Sourced z s
      sourced (suc d) n e s = let z : suc (d + p) ≡ n = omega arith in subst Sourced z (sourced_on (d + p) (omega arith) (sourced d (d + p) refl s))

      abbrev Outcome : ℕ → Type 0
      Outcome q = (ops.cell (B q).part k i ≡ ops.cell (B p).part k i) ⊎ W q (ops.cell (B q).part k i)

    caused_here : (p q k i : ℕ) → p ≤ q → ops.under_way (B p).part k i ≡ None → Outcome p k i q
    caused_here p q k i le free = (sourced p k i (q - p) q (omega arith) (record { cell = inl refl; under_way = λ v u. absurd (none-some v (sym free ∙ u)) })).cell

  pub caused : (b : Board S) → b.bus.phase ≡ Closed → Caused ops b
  unfolding Caused
  caused b closed calls p q k i le free = caused_here b closed calls p q k i le free
