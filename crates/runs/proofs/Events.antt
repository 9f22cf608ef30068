-- What each call of a run is to an X9520 on the board, and what holds of the chip in every state. Assumes nothing.
use Rattle.std.proofs.Common.{◌≡◌, ℕ, zero, suc, ◌/◌, Bool, true, false, cond, ◌&&◌, List, [], ◌∷◌, length, eqb, ltb, Some, Option, refl, sym, ap, ◌∙◌, subst, inl, inr, arith}
use borrow.Author.Tests.{clash}
use Rattle.std.proofs.lemmas.Bool.{and_parts, cond-true, cases_eq, eqb-true}
use Rattle.std.proofs.lemmas.Option.{none-some}
use Rattle.part.specs.declared.levels.Levels.{Levels}
use Rattle.part.specs.declared.power.PowerCut.{PowerCut}
use Rattle.part.specs.Ops.{Ops}
use Rattle.part.specs.Keeps.{Keeps}
use Rattle.part.specs.Moves.{Move, levelling, finishing, after}
use Rattle.part.specs.Seats.{Seat}
use Rattle.part.proofs.Seated.{mine_or_not}
use Rattle.eeprom.specs.Cells.{byte_at, staged_at, under_way_at}
use Rattle.x9520.specs.declared.state.X9520.{X9520}
use Rattle.x9520.specs.Chip.{x9520}
use Rattle.x9520.specs.State.{fresh}
use Rattle.x9520.proofs.Lock.{Guarded, Sendable, guarded_fresh}
use Rattle.x9520.proofs.Calm.{CalmMove, calm_equal}
use Rattle.x9520.proofs.Waiting.{Waiting, waiting_fresh}
use Rattle.x9520.proofs.Place.{outside, holding, where_is, apart, bytes_held, finish_any_mode}
use Rattle.board.specs.declared.board.Board.{Board}
use Rattle.board.specs.declared.bus.Phase.TheVariants.{Closed}
use Rattle.board.specs.declared.call.Call.{Call}
use Rattle.board.specs.declared.call.Call.TheVariants.{Sample, Finish, Cut}
use Rattle.board.specs.Engine.{numbered}
use Rattle.board.specs.Samples.{odd, levels}
use Rattle.board.specs.Wires.{Edge, steady, stopped, edge, next, Byte, Transfer, some_byte, is_clean, clean, values}
use Rattle.board.specs.Runs.{History, IsCut, pulls_by, told, edge_of, moves_of, onward, state, history}
use Rattle.board.specs.Cause.{wp_of, EachPulled}
use Rattle.board.proofs.Running.{Advances, advances, good, edge_same}
use Rattle.board.proofs.Causing.{edge_tag, is_stopped, clean_some, one_rise, each_pulled}
use Rattle.runs.proofs.Seated.{addr, addr_is, EachMove, My, guarded_after, waiting_after, calm_after, number_after, told_sendable, told_calm}
use Rattle.runs.proofs.Placing.{At, By, Open, Keeping, open_kept, level_keeping, open_edge}

not_stopped : (e : Edge) → e ≡ steady → e ≡ stopped → ⊥
not_stopped e s h = let y : ◌≡◌ {A = ℕ} 0 1 = ap edge_tag (sym s ∙ h) in omega arith

module _ {S : Type 0} (ops : Ops S) (keeps : Keeps ops) (number : S → ℕ) (see : S → X9520) (seat : Seat ops x9520 number see) where
  -- from the board b to c, with what was before, h
  pub data Event (b : Board S) (call : Call) (c : Board S) (h : History) : Type 0 where
    calm : CalmMove (see b.part) (see c.part) → (edge_of ops b call c ≡ stopped → ⊥) → (IsCut call → ⊥) → Event b call c h
    stops : (l : Levels) → wp_of call ≡ l.wp → see c.part ≡ x9520.stop (x9520.level (see b.part) l) (clean h.ongoing) l → edge_of ops b call c ≡ stopped → (IsCut call → ⊥) → Event b call c h
    finishes : see c.part ≡ x9520.finish (see b.part) 0 → (edge_of ops b call c ≡ stopped → ⊥) → (IsCut call → ⊥) → Event b call c h
    cuts : (p : PowerCut) → see c.part ≡ x9520.cut (see b.part) p → (edge_of ops b call c ≡ stopped → ⊥) → IsCut call → Event b call c h

  same_event : (b : Board S) (call : Call) (c : Board S) (h : History) → c ≡ b → edge_of ops b call b ≡ steady → (IsCut call → ⊥) → Event b call c h
  same_event b call c h e st n = calm (calm_equal _ _ (ap (λ z. see z.part) e)) (not_stopped _ (ap (edge_of ops b call) e ∙ st)) n

  sample_event : (t : Bool) (b : Board S) (x : ℕ) (c : Board S) (h : History) → ltb x 32 ≡ t → Advances ops b (Sample x) c h → Event b (Sample x) c h
  sample_event true b x c h e a =
      let l = levels x in
      let moves : c.part ≡ after ops b.part (levelling l ∷ told (edge_of ops b (Sample x) c) l h.ongoing) = a.part ∙ ap (after ops b.part) (cond-true _ _ _ e) in
      elim (is_stopped (edge_of ops b (Sample x) c)) [
        | inl st ↦ stops l refl (ap see (moves ∙ ap (λ z. after ops b.part (levelling l ∷ told z l h.ongoing)) st) ∙ seat.stop (ops.level b.part l) (clean h.ongoing) l
            ∙ ap (λ z. x9520.stop z (clean h.ongoing) l) (seat.level b.part l)) st (λ z. z)
        | inr n ↦ calm (subst (λ u. CalmMove (see b.part) (see u)) (sym moves)
            (calm_after ops keeps number see seat (levelling l ∷ told (edge_of ops b (Sample x) c) l h.ongoing) b.part (tt, told_calm _ l h.ongoing n))) n (λ z. z)
      ]
  sample_event false b x c h e a = same_event b (Sample x) c h (a.refused e) (edge_same b.bus.scl b.bus.sda) (λ z. z)

  finish_event : (t : Bool) (b : Board S) (q : ℕ) (c : Board S) (h : History) → (numbered ops b q && ops.busy b.part q) ≡ t → Advances ops b (Finish q) c h → Event b (Finish q) c h
  finish_event true b q c h e a =
      let moves : c.part ≡ ops.finish b.part q = a.part ∙ ap (after ops b.part) (cond-true _ _ _ e) in
      elim (cases_eq q (number b.part)) [
        | inl m ↦ finishes (ap see (moves ∙ ap (ops.finish b.part) m) ∙ seat.finish b.part) (not_stopped _ refl) (λ z. z)
        | inr n ↦ calm (calm_equal _ _ (ap see moves ∙ seat.finish_other b.part q n)) (not_stopped _ refl) (λ z. z)
      ]
  finish_event false b q c h e a = same_event b (Finish q) c h (a.refused e) refl (λ z. z)

  event_of : (b : Board S) (call : Call) (c : Board S) (h : History) → Advances ops b call c h → Event b call c h
  event_of b (Sample x) c h a = sample_event (ltb x 32) b x c h refl a
  event_of b (Finish q) c h a = finish_event _ b q c h refl a
  event_of b (Cut p) c h a = cuts p (ap see a.part ∙ seat.cut b.part p) (not_stopped _ refl) tt

  -- what the calls make the part go through can be sent
  maybe : (q : Bool) (ms : List Move) → EachMove Sendable ms → EachMove Sendable (cond q ms [])
  maybe true ms h = h
  maybe false ms h = tt

  moves_sendable : (b : Board S) (call : Call) (c : Board S) (o : Option Transfer) → EachMove Sendable (moves_of ops b call c o)
  moves_sendable b (Sample x) c o = maybe (ltb x 32) (levelling (levels x) ∷ told (edge_of ops b (Sample x) c) (levels x) o) (tt, told_sendable _ (levels x) o)
  moves_sendable b (Finish q) c o = maybe _ (finishing q ∷ []) (tt, tt)
  moves_sendable b (Cut p) c o = (tt, tt)

  -- the chip's place, over each call
  place_sample : (t : Bool) (b : Board S) (x : ℕ) (c : Board S) (h : History) → ltb x 32 ≡ t → Advances ops b (Sample x) c h
      → Open ops keeps number see seat h.answer h.ongoing b.part → let n = onward ops b (Sample x) c h in Open ops keeps number see seat n.answer n.ongoing c.part
  place_sample true b x c h e a p =
      let l = levels x in
      let u = open_edge ops keeps number see seat b.bus.scl c.bus.scl b.bus.sda c.bus.sda l h.answer h.byte h.ongoing (ops.level b.part l)
      (open_kept ops keeps number see seat h.answer h.ongoing b.part _ (level_keeping ops keeps number see seat b.part l) p) in
      rw (a.part, e) u
  place_sample false b x c h e a p =
      subst (λ d. let n = onward ops b (Sample x) d h in Open ops keeps number see seat n.answer n.ongoing d.part) (sym (a.refused e)) (rw e (kept b.bus.scl b.bus.sda p))
    where
      kept : (q d : Bool) → Open ops keeps number see seat h.answer h.ongoing b.part
          → Open ops keeps number see seat h.answer (next (edge q q d d) (pulls_by b.bus.scl h.ongoing h.answer h.byte) h.ongoing) b.part
      kept true true z = z
      kept true false z = z
      kept false d z = z

  finish_mode : (s : S) (q : ℕ) → (see (ops.finish s q)).mode ≡ (see s).mode
  finish_mode s q = elim (cases_eq q (number s)) [
    | inl m ↦ ap (λ c. c.mode) (ap (λ j. see (ops.finish s j)) m ∙ seat.finish s) ∙ finish_any_mode (see s) 0
    | inr n ↦ ap (λ c. c.mode) (seat.finish_other s q n)
  ]

  finish_keeping : (s : S) (q : ℕ) → Keeping ops keeps number see seat s (ops.finish s q)
  finish_keeping s q = record { mode = finish_mode s q; owner = (keeps.finishes s q).fixed.owner; number_is = seat.fixed s (finishing q) }

  place_finish : (t : Bool) (b : Board S) (q : ℕ) (c : Board S) (h : History) → (numbered ops b q && ops.busy b.part q) ≡ t → Advances ops b (Finish q) c h
      → Open ops keeps number see seat h.answer h.ongoing b.part → let n = onward ops b (Finish q) c h in Open ops keeps number see seat n.answer n.ongoing c.part
  place_finish true b q c h e a p = rw (a.part, e) (open_kept ops keeps number see seat h.answer h.ongoing b.part _ (finish_keeping b.part q) p)
  place_finish false b q c h e a p = subst (λ d. let n = onward ops b (Finish q) d h in Open ops keeps number see seat n.answer n.ongoing d.part) (sym (a.refused e)) (rw e p)

  place_call : (b : Board S) (call : Call) (c : Board S) (h : History) → Advances ops b call c h → Open ops keeps number see seat h.answer h.ongoing b.part
      → let n = onward ops b call c h in Open ops keeps number see seat n.answer n.ongoing c.part
  place_call b (Sample x) c h a p = place_sample (ltb x 32) b x c h refl a p
  place_call b (Finish q) c h a p = place_finish _ b q c h refl a p
  place_call b (Cut w) c h a p = λ t e. absurd (none-some _ e)

  -- a run from a board on which no transfer is open and the chip is fresh
  module _ (b : Board S) (closed : b.bus.phase ≡ Closed) (new : see b.part ≡ fresh) (calls : ℕ → Call) where
    abbrev pub B : ℕ → Board S
    B n = state ops b calls n

    abbrev pub H : ℕ → History
    H n = history ops b calls n

    abbrev pub C : ℕ → X9520
    C n = see (B n).part

    goes : (n : ℕ) → Advances ops (B n) (calls n) (B (suc n)) (H n)
    goes n = advances ops (B n) (calls n) (H n) (good ops b calls closed n)

    pub event : (n : ℕ) → Event (B n) (calls n) (B (suc n)) (H n)
    event n = event_of (B n) (calls n) (B (suc n)) (H n) (goes n)

    number_is : (n : ℕ) → number (B n).part ≡ number b.part
    number_is zero = refl
    number_is (suc n) = ap number (goes n).part ∙ number_after ops keeps number see seat (moves_of ops (B n) (calls n) (B (suc n)) (H n).ongoing) (B n).part ∙ number_is n

    pub guarded : (n : ℕ) → Guarded (C n)
    guarded zero = subst Guarded (sym new) guarded_fresh
    guarded (suc n) = subst (λ s. Guarded (see s)) (sym (goes n).part) (guarded_after ops keeps number see seat _ (B n).part (moves_sendable (B n) (calls n) (B (suc n)) (H n).ongoing) (guarded n))

    pub waiting : (n : ℕ) → Waiting (C n)
    waiting zero = subst Waiting (sym new) waiting_fresh
    waiting (suc n) = subst (λ s. Waiting (see s)) (sym (goes n).part) (waiting_after ops keeps number see seat (moves_of ops (B n) (calls n) (B (suc n)) (H n).ongoing) (B n).part (waiting n))

    placed : (n : ℕ) → Open ops keeps number see seat (H n).answer (H n).ongoing (B n).part
    placed zero t e = absurd (none-some _ e)
    placed (suc n) t e = place_call (B n) (calls n) (B (suc n)) (H n) (goes n) (placed n) t e

    -- what is asked of its number is asked of the chip
    pub cell_is : (n i : ℕ) → ops.cell (B n).part (number b.part) i ≡ byte_at (C n).eeprom i
    cell_is n i = ap (λ j. ops.cell (B n).part j i) (sym (number_is n)) ∙ (seat.shown (B n).part).cell i

    pub staged_is : (n i : ℕ) → ops.staged (B n).part (number b.part) i ≡ staged_at (C n).eeprom i
    staged_is n i = ap (λ j. ops.staged (B n).part j i) (sym (number_is n)) ∙ (seat.shown (B n).part).staged i

    pub under_way_is : (n i : ℕ) → ops.under_way (B n).part (number b.part) i ≡ under_way_at (C n).eeprom i
    under_way_is n i = ap (λ j. ops.under_way (B n).part j i) (sym (number_is n)) ∙ (seat.shown (B n).part).under_way i

    pub tap_is : (n j : ℕ) → ops.tap (B n).part (number b.part) j ≡ x9520.tap (C n) 0 j
    tap_is n j = ap (λ m. ops.tap (B n).part m j) (sym (number_is n)) ∙ (seat.shown (B n).part).tap j

    -- at a clean STOP the chip holds a register byte exactly where that byte was sent to its register
    pub record Sent (n v : ℕ) : Type 0 where
      pub t : Transfer
      pub ongoing : (H n).ongoing ≡ Some t
      pub clean_is : is_clean t ≡ true
      pub bytes : values t.bytes ≡ v ∷ (255 ∷ (164 ∷ []))
      pub acked : EachPulled t.bytes
      pub mine : ops.owner (B n).part 82 ≡ Some (number b.part)

    by_at : (n : ℕ) (t : Transfer) → (H n).ongoing ≡ Some t → is_clean t ≡ true → By ops keeps number see seat (B n).part (values t.bytes)
    by_at n t e c =
        let p = and_parts (eqb (length t.bits) 1) _ c in
        let a = and_parts (some_byte t.bytes) _ p.1 in
        let one : length t.bits ≡ 1 = eqb-true _ 1 p.0 in
        subst (By ops keeps number see seat (B n).part) (one_rise ops keeps t c) ((placed n t e).by (a.1, λ z s. absurd (omega (arith, one, z))))

    holds_at : (n v : ℕ) (bs : List Byte) → some_byte bs ≡ true → By ops keeps number see seat (B n).part (values bs) → where_is (C n).mode ≡ holding v
        → (values bs ≡ v ∷ (255 ∷ (164 ∷ []))) × (ops.owner (B n).part 82 ≡ Some (number b.part))
    holds_at n v [] some r h = absurd (clash some)
    holds_at n v (x ∷ bs) some r h =
        let a = addr (values (x ∷ bs)) in
        elim (mine_or_not ops x9520 number see (B n).part (a / 2)) [
          | inl m ↦ by (odd a) refl m
          | inr o ↦ apart outside (holding v) (sym (ap where_is (r.aside o)) ∙ h) (λ z. omega (arith, z))
        ]
      where
        by : (q : Bool) → odd (addr (values (x ∷ bs))) ≡ q → My ops keeps number see seat (B n).part (addr (values (x ∷ bs)) / 2)
            → (values (x ∷ bs) ≡ v ∷ (255 ∷ (164 ∷ []))) × (ops.owner (B n).part 82 ≡ Some (number b.part))
        by true e m = apart outside (holding v) (sym (r.reading m e) ∙ h) (λ z. omega (arith, z))
        by false e m =
            let is = bytes_held (values (x ∷ bs)) v (sym (r.writing m e) ∙ h) in
            let a : addr (values (x ∷ bs)) ≡ 164 = ap addr is in
            (is, ap (λ z. ops.owner (B n).part (z / 2)) (sym a) ∙ m ∙ ap Some (number_is n))

    pub sent_by : (n v : ℕ) → clean (H n).ongoing ≡ true → where_is (C n).mode ≡ holding v → Sent n v
    sent_by n v c h =
        let w = clean_some ops keeps (H n).ongoing c in
        let t = w.0 in
        let p = and_parts (some_byte t.bytes) _ (and_parts (eqb (length t.bits) 1) _ w.1.1).1 in
        let r = holds_at n v t.bytes p.0 (by_at n t w.1.0 w.1.1) h in
        record { t = t; ongoing = w.1.0; clean_is = w.1.1; bytes = r.0; acked = each_pulled t.bytes p.1 (ap odd (sym (addr_is t.bytes) ∙ ap addr r.0)); mine = r.1 }

    pub held_by : (n v : ℕ) (t : Transfer) → (H n).ongoing ≡ Some t → is_clean t ≡ true → values t.bytes ≡ v ∷ (255 ∷ (164 ∷ []))
        → ops.owner (B n).part 82 ≡ Some (number b.part) → where_is (C n).mode ≡ holding v
    held_by n v t e c is mine =
        let r : At ops keeps number see seat (B n).part 164 (v ∷ (255 ∷ (164 ∷ []))) = subst (By ops keeps number see seat (B n).part) is (by_at n t e c) in
        r.writing (mine ∙ ap Some (sym (number_is n))) refl
