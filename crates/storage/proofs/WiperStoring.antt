-- A byte written to a DCP of an X9520 by itself: whether the job is accepted, where the wipers stand after it, and where after a power cut.
use Rattle.std.proofs.Common.{◌≡◌, ℕ, zero, suc, ◌+◌, ◌-◌, ◌%◌, ◌<◌, ◌≤◌, ◌≢◌, Bool, true, false, cond, not, ◌&&◌, eqb, leb, ltb, ◌⊎◌, List, [], ◌∷◌, length, Some, None, Option, unwrap_or, sym, refl, ap, ◌∙◌, subst, inl, inr, arith, min, lit<}
use borrow.Author.Tests.{clash}
use Rattle.std.proofs.lemmas.Bool.{lt-ltb, le-ltb, le-leb, lt-leb, eq-eqb, ne_eqb, and_from, and_parts, cases_lt, cases_eq}
use Rattle.std.proofs.lemmas.List.{get_or_past, get_or-set_same, get_or-set_other}
use Rattle.std.specs.Option.{option_or}
use Rattle.refusals.specs.Told.{Told, ok, refused}
use Rattle.part.specs.declared.levels.Levels.{Levels}
use Rattle.part.specs.declared.power.PowerCut.{PowerCut}
use Rattle.eeprom.specs.Cells.{byte_at, staged_at, under_way_at, is_busy, unstages, cuts, marks}
use Rattle.eeprom.specs.declared.Eeprom.{Eeprom}
use Rattle.eeprom.proofs.Moves.{free_if, stages_staged, unstages_staged, cuts_byte, cuts_under_way}
use Rattle.dcp.specs.Taps.{byte_of, bytes as table, looked, Inverse}
use Rattle.dcp.specs.Wiper.{at_byte, tap_of, entry_for, byte_for}
use Rattle.dcp.specs.declared.dcp.Dcp.{Dcp}
use Rattle.dcp.specs.declared.taps.Entry.{Entry}
use Rattle.dcp.proofs.Standing.{holds}
use Rattle.dcp.proofs.Table.{inverse}
use Rattle.protection.specs.Lock.{locks_wipers as wipers_in_chip}
use Rattle.protection.specs.declared.latches.Latches.{Latches}
use Rattle.x9520.specs.Bytes.{taken_rests}
use Rattle.x9520.specs.Chip.{x9520, as_part, tap_at}
use Rattle.x9520.specs.Keeping.{moves as own_moves}
use Rattle.x9520.specs.Sound.{Sound}
use Rattle.x9520.specs.State.{wipers_from}
use Rattle.x9520.specs.Writing.{rejected, names, aim_for, Verdict, refused as no_move, moves, dcp_verdict, acks, taken, cells_taken, with_moved, no_dcp}
use Rattle.x9520.specs.declared.state.Device.TheVariants.{Dcps}
use Rattle.x9520.specs.declared.state.Mode.TheVariants.{DcpByte}
use Rattle.x9520.specs.declared.state.X9520.{X9520}
use Rattle.x9520.proofs.Calm.{stop_begins, stop_byte}
use Rattle.runs.specs.Lock.{locks_wipers}
use Rattle.runs.proofs.Bits.{wipers_is}
use Rattle.storage.specs.Storing.{dcp_byte, taps_of, Means, NamesDcp, DcpTakes, AtMostOne}
use Rattle.controller.specs.Work.{later, written}
use Rattle.storage.proofs.Accepting.{AcceptedIf, accepted_if}
use Rattle.storage.proofs.OneByte.{takes_one, takes_one_only}
use Rattle.storage.proofs.Over.{over, free_under_way, over_cell, over_ready, over_rest}
use Rattle.storage.proofs.WiperReading.{at_mode, dcp_of, tap_is, names_dcp}

-- A byte means the tap that it moves a wiper to.
by_table : (b : ℕ) (e : Entry) → Inverse b e → (byte_of e.tap ≡ b) ⊎ (byte_of e.tap ≡ b → ⊥) → Means 100 b e.tap
by_table b e h (inl p) = inl (h.below, p)
by_table b e h (inr n) =
    let none = λ (u : ℕ) (lt : u < 100) (f : byte_of u ≡ b). n (ap byte_of (h.back u lt f) ∙ f) in
    inr (h.none none, none)

capped : (taps b : ℕ) → 1 ≤ taps → (b < taps) ⊎ (taps ≤ b) → ((b < taps) × (min b (taps - 1) ≡ b)) ⊎ ((taps ≤ b) × (min b (taps - 1) + 1 ≡ taps))
capped taps b h (inl lt) = inl (lt, omega arith)
capped taps b h (inr le) = inr (le, omega arith)

entry_means : (j : ℕ) → j < 3 → (b : ℕ) → Means (taps_of j) b (entry_for (taps_of j) b).tap
entry_means zero h b = capped 64 b (lit< tt) (cases_lt b 64)
entry_means (suc zero) h b = by_table b (looked table b) (inverse b) (cases_eq _ b)
entry_means (suc (suc zero)) h b = capped 256 b (lit< tt) (cases_lt b 256)
entry_means (suc (suc (suc n))) h b = absurd (omega arith)

means : (j : ℕ) → j < 3 → (b : ℕ) → Means (taps_of j) b (tap_of (at_byte (taps_of j) b))
means j h b = subst (Means (taps_of j) b) (sym (holds (taps_of j) b).tap) (entry_means j h b)

-- the first byte of a write names its DCP
first_byte : (store : Bool) (j : ℕ) → j < 3 → (dcp_byte j store % 128 ≡ j) × (leb 128 (dcp_byte j store) ≡ store)
first_byte true j h = (omega arith, le-leb 128 (128 + j) (omega arith))
first_byte false j h = (omega arith, lt-leb 128 j (omega arith))

named : (j : ℕ) (store : Bool) → j < 3 → aim_for Dcps (dcp_byte j store) ≡ names j store
named j store h = let f = first_byte store j h in names_dcp (dcp_byte j store) j f.0 h ∙ ap (names j) f.1

dcp_byte_small : (j : ℕ) (store : Bool) → j < 3 → dcp_byte j store < 256
dcp_byte_small j true h = omega (arith, h)
dcp_byte_small j false h = omega (arith, h)

-- with WP LOW the data byte moves the wiper where WEL is set and the wipers are not locked
decided_by : (e k : Bool) (x y : Verdict) → cond (not e) x (cond k x y) ≡ cond (e && not k) y x
decided_by true true x y = refl
decided_by true false x y = refl
decided_by false k x y = refl

decided : (l : Latches) (r : ℕ) (store wp : Bool) → wp ≡ false → dcp_verdict l r store wp ≡ cond (l.wel && not (locks_wipers r)) (moves store) no_move
decided l r store wp low = rw low (decided_by l.wel (wipers_in_chip r) no_move (moves store)) ∙ ap (λ k. cond (l.wel && not k) (moves store) no_move) (sym (wipers_is r))

-- A first byte names a DCP or gets no ACK.
named_or_rejected : (first : ℕ) → first < 256 → NamesDcp first ⊎ (aim_for Dcps first ≡ rejected)
named_or_rejected first small = elim (cases_lt (first % 128) 3) [
  | inl h ↦ inl (elim (cases_lt first 128) [
    | inl low ↦ (first % 128, false, h, omega (arith, low))
    | inr high ↦ (first % 128, true, h, omega (arith, high, small))
  ])
  | inr past ↦ inr (rw (le-ltb (first % 128) 3 past) refl)
]

opens_if : (e k : Bool) (store : Bool) → (e ≡ true) × (k ≡ false) → acks (cond (e && not k) (moves store) no_move) ≡ true
opens_if e k store h = rw (h.0, h.1) refl

opens_only : (e k : Bool) (store : Bool) → acks (cond (e && not k) (moves store) no_move) ≡ true → (e ≡ true) × (k ≡ false)
opens_only true true store h = absurd (clash h)
opens_only true false store h = (refl, refl)
opens_only false k store h = absurd (clash h)

module _ (l : Levels) (s : X9520) (first : ℕ) (ds : List ℕ) (low : l.wp ≡ false) where
  abbrev any_job : X9520 × Told (List ℕ)
  any_job = written x9520 l 87 (first ∷ ds) s

  -- the chip that awaits data bytes for a DCP
  abbrev awaiting : ℕ → Bool → X9520
  awaiting j store = at_mode (x9520.level s l) j (DcpByte store)

  named_is : {j : ℕ} {store : Bool} → is_busy s.eeprom ≡ false → aim_for Dcps first ≡ names j store → any_job.1 ≡ (later x9520 l 174 2 ds (awaiting j store)).1
  unfolding written
  named_is free name = rw (free, name) refl

  rejected_is : is_busy s.eeprom ≡ false → aim_for Dcps first ≡ rejected → any_job.1 ≡ refused 8 1
  unfolding written
  rejected_is free none = rw (free, none) refl

  acks_is : (j : ℕ) (store : Bool) (v : ℕ) → x9520.takes (awaiting j store) 174 l v ≡ acks (cond (s.latches.wel && not (locks_wipers (byte_at s.eeprom 259))) (moves store) no_move)
  acks_is j store v = ap acks (decided s.latches (byte_at s.eeprom 259) store l.wp low)

  takes_if : NamesDcp first × AtMostOne (λ v. DcpTakes s.latches.wel (byte_at s.eeprom 259)) ds → is_busy s.eeprom ≡ false → any_job.1 ≡ ok []
  takes_if ((j, store, in_range, is), h) free =
      named_is free (ap (aim_for Dcps) is ∙ named j store in_range)
      ∙ takes_one l 174 (awaiting j store) (λ v t. acks_is j store v ∙ opens_if _ _ store t) ds h

  takes_only_by : NamesDcp first ⊎ (aim_for Dcps first ≡ rejected) → is_busy s.eeprom ≡ false → any_job.1 ≡ ok [] →
      NamesDcp first × AtMostOne (λ v. DcpTakes s.latches.wel (byte_at s.eeprom 259)) ds
  takes_only_by (inl (j, store, in_range, is)) free accepted =
      let t = awaiting j store in
      let told = sym (named_is free (ap (aim_for Dcps) is ∙ named j store in_range)) ∙ accepted in
      let one = takes_one_only l 174 t refl (λ v h. opens_only _ _ store (sym (acks_is j store v) ∙ h)) ds told in
      ((j, store, in_range, is), one)
  takes_only_by (inr none) free accepted = let refuses = rejected_is free none in cc

  pub dcp_accepts : first < 256 → AcceptedIf x9520 s any_job.1 (NamesDcp first × AtMostOne (λ v. DcpTakes s.latches.wel (byte_at s.eeprom 259)) ds)
  dcp_accepts small = accepted_if as_part own_moves l 87 (first ∷ ds) s (λ free takes. takes_if takes free) (takes_only_by (named_or_rejected first small))

-- what an accepted job leaves
record Wrote (s : X9520) (j : ℕ) (store : Bool) (v : ℕ) (t : X9520) : Type 0 where
  dcps : t.dcps ≡ with_moved s.dcps j v
  named : t.named ≡ j
  wel : t.latches.wel ≡ true
  byte : (i : ℕ) → byte_at t.eeprom i ≡ byte_at s.eeprom i
  under_way : (i : ℕ) → under_way_at t.eeprom i ≡ cond (store && eqb i (256 + j)) (Some v) None

staged_by : (store : Bool) (e : Eeprom 260) (n j v i : ℕ) → j < 3 → staged_at (cells_taken (moves store) (unstages e) n j v) i ≡ cond (store && eqb i (256 + j)) (Some v) None
staged_by true e n j v i in_range = stages_staged (unstages e) (256 + j) v i ∙ rw (lt-ltb (256 + j) 260 (omega arith), unstages_staged e i) refl
staged_by false e n j v i in_range = unstages_staged e i

none_by : (store : Bool) (i k v : ℕ) → (store ≡ true → i ≢ k) → cond (store && eqb i k) (Some v) None ≡ None
none_by true i k v other = rw (ne_eqb i k (other refl)) refl
none_by false i k v other = refl

module _ (l : Levels) (s : X9520) (j : ℕ) (store : Bool) (v : ℕ) where
  abbrev pub job : X9520 × Told (List ℕ)
  job = written x9520 l 87 (dcp_byte j store ∷ (v ∷ [])) s

  abbrev open_to : Bool
  open_to = s.latches.wel && not (locks_wipers (byte_at s.eeprom 259))

  -- the chip before the STOP, where both bytes got an ACK
  abbrev moving : X9520
  moving = taken (moves store) (at_mode (x9520.level s l) j (DcpByte store)) v

  module _ (low : l.wp ≡ false) (in_range : j < 3) where
    job_is : is_busy s.eeprom ≡ false → open_to ≡ true → job ≡ (x9520.stop moving true l, ok [])
    unfolding written
    job_is free opens = rw (free, named j store in_range, decided s.latches (byte_at s.eeprom 259) store l.wp low, opens) refl

    -- of one data byte for a DCP that the first byte names
    pub wiper_accepts : AcceptedIf x9520 s job.1 (DcpTakes s.latches.wel (x9520.cell s 0 259))
    wiper_accepts =
        let any = dcp_accepts l s (dcp_byte j store) (v ∷ []) low (dcp_byte_small j store in_range) in
        record {
          accepts = λ free takes. any.accepts free ((j, store, in_range, refl), takes);
          accepts_only = λ accepted. let only = any.accepts_only accepted in (only.0, only.1.1);
        }

    wrote : is_busy s.eeprom ≡ false → open_to ≡ true → Wrote s j store v (x9520.stop moving true l)
    wrote free opens =
        let rests = taken_rests (moves store) (unstages s.eeprom) s.counter j v in
        record {
          dcps = refl;
          named = refl;
          wel = (and_parts _ _ opens).0;
          byte = λ i. stop_byte moving true l i ∙ rests.byte i;
          under_way = λ i. stop_begins moving true l refl low i
              ∙ ap (λ o. option_or o (staged_at moving.eeprom i)) (rests.under_way i ∙ free_under_way s.eeprom free i)
              ∙ staged_by store s.eeprom s.counter j v i in_range;
        }

    accepted_wrote : job.1 ≡ ok [] → Wrote s j store v job.0
    accepted_wrote accepted =
        let only = wiper_accepts.accepts_only accepted in
        let free = only.0 in
        let opens = and_from _ _ only.1.0 (ap not only.1.1) in
        subst (Wrote s j store v) (sym (ap (λ w. w.0) (job_is free opens))) (wrote free opens)

-- A DCP as number j is to be: so many taps, and its register holds the byte of its tap.
abbrev Whole : ℕ → Dcp → Type 0
Whole j d = (d.taps ≡ taps_of j) × (d.register ≡ byte_for d.taps (tap_of d))

sound_by : (s : X9520) → s.named < 3 → ((j : ℕ) → j < 3 → Whole j (dcp_of s.dcps j)) → Sound s
sound_by s n whole = record { latches = s.latches.ordered; named = n; taps = λ j h. (whole j h).0; registers = λ j h. (whole j h).1 }

at_byte_whole : (j b : ℕ) → Whole j (at_byte (taps_of j) b)
at_byte_whole j b = (refl, (holds (taps_of j) b).byte)

-- DCP j of a chip that is sound is there
some_taps : (j : ℕ) → j < 3 → 0 < taps_of j
some_taps zero h = lit< tt
some_taps (suc zero) h = lit< tt
some_taps (suc (suc zero)) h = lit< tt
some_taps (suc (suc (suc n))) h = absurd (omega arith)

there_by : (s : X9520) → Sound s → (j : ℕ) → j < 3 → (j < length s.dcps) ⊎ (length s.dcps ≤ j) → j < length s.dcps
there_by s sound j h (inl lt) = lt
there_by s sound j h (inr past) = absurd (omega (arith, ap (λ d. d.taps) (get_or_past s.dcps j no_dcp past), sound.taps j h, some_taps j h))

-- the wipers after a byte for DCP j
moved_dcp : (s : X9520) (j v : ℕ) → Sound s → j < 3 → dcp_of (with_moved s.dcps j v) j ≡ at_byte (taps_of j) v
moved_dcp s j v sound h =
    let there : j < length s.dcps = there_by s sound j h (cases_lt j (length s.dcps)) in
    rw (lt-ltb j 3 h) (get_or-set_same s.dcps j _ no_dcp there ∙ ap (λ n. at_byte n v) (sound.taps j h))

other_dcp : (s : X9520) (j v i : ℕ) → j < 3 → i ≢ j → dcp_of (with_moved s.dcps j v) i ≡ dcp_of s.dcps i
other_dcp s j v i h other = rw (lt-ltb j 3 h) (get_or-set_other s.dcps j i _ no_dcp other)

-- at power-up each wiper goes to its stored byte
powered_dcp : (e : Eeprom 260) (j : ℕ) → j < 3 → dcp_of (wipers_from e) j ≡ at_byte (taps_of j) (byte_at e (256 + j))
powered_dcp e zero h = refl
powered_dcp e (suc zero) h = refl
powered_dcp e (suc (suc zero)) h = refl
powered_dcp e (suc (suc (suc n))) h = absurd (omega arith)

pub sound_cut : (s : X9520) (p : PowerCut) → Sound (x9520.cut s p)
sound_cut s p = sound_by (x9520.cut s p) (lit< tt) (λ j h. subst (Whole j) (sym (powered_dcp (cuts s.eeprom p.mask) j h)) (at_byte_whole j _))

pub cut_free : (s : X9520) (p : PowerCut) → x9520.busy (x9520.cut s p) 0 ≡ false
cut_free s p = free_if (cuts s.eeprom p.mask) (cuts_under_way s.eeprom p.mask)

-- what power-up stores in a cell, by whether the power cut lets a write under way be stored: with none under way its byte stays
uncut_byte : (marked : Bool) (write : Option ℕ) (byte : ℕ) → write ≡ None → cond marked (unwrap_or write byte) byte ≡ byte
uncut_byte true write byte none = ap (λ w. unwrap_or w byte) none
uncut_byte false write byte none = refl

-- the chip once its write cycle is over
module _ (s : X9520) where
  abbrev rested : X9520
  rested = over x9520 s

  dcps_rest : rested.dcps ≡ s.dcps
  dcps_rest = over_rest as_part s (λ s. s.dcps) (λ e. refl)

  -- a finish moves no wiper
  pub wiper_finish : (i : ℕ) → x9520.tap rested 0 i ≡ x9520.tap s 0 i
  wiper_finish i = ap (λ d. tap_at d i) dcps_rest

  pub sound_over : Sound s → Sound rested
  sound_over sound = sound_by rested (rw (over_rest as_part s (λ s. s.named) (λ e. refl)) sound.named) (λ j h. rw dcps_rest (sound.taps j h, sound.registers j h))

  -- after a power cut each wiper stands at its stored byte
  cut_byte : (m i : ℕ) → byte_at (cuts rested.eeprom m) i ≡ unwrap_or (under_way_at s.eeprom i) (byte_at s.eeprom i)
  cut_byte m i =
      let none : under_way_at rested.eeprom i ≡ None = free_under_way rested.eeprom (over_ready as_part own_moves s) i in
      cuts_byte rested.eeprom m i ∙ uncut_byte (marks m i) _ _ none ∙ over_cell as_part own_moves s i

  cut_tap : (p : PowerCut) (j : ℕ) → j < 3 → x9520.tap (x9520.cut rested p) 0 j ≡ tap_of (at_byte (taps_of j) (unwrap_or (under_way_at s.eeprom (256 + j)) (byte_at s.eeprom (256 + j))))
  cut_tap p j h =
      let e = cuts rested.eeprom p.mask in
      tap_is (wipers_from e) j h ∙ ap tap_of (powered_dcp e j h) ∙ ap (λ b. tap_of (at_byte (taps_of j) b)) (cut_byte p.mask (256 + j))

module _ (l : Levels) (s : X9520) (j : ℕ) (store : Bool) (v : ℕ) (low : l.wp ≡ false) (in_range : j < 3) (accepted : (job l s j store v).1 ≡ ok []) where
  abbrev after : X9520
  after = (job l s j store v).0

  left : Wrote s j store v after
  left = accepted_wrote l s j store v low in_range accepted

  other_dcps : (i : ℕ) → i ≢ j → dcp_of after.dcps i ≡ dcp_of s.dcps i
  other_dcps i other = ap (λ d. dcp_of d i) left.dcps ∙ other_dcp s j v i in_range other

  pub wiper_others : (i : ℕ) → i ≢ j → x9520.tap after 0 i ≡ x9520.tap s 0 i
  wiper_others i other = ap (λ d. cond (ltb i 3) (tap_of d) 0) (other_dcps i other)

  -- A byte that was not stored is gone after a power cut.
  pub wiper_falls_back : store ≡ false → (p : PowerCut) → Means (taps_of j) (x9520.cell s 0 (256 + j)) (x9520.tap (x9520.cut (over x9520 after) p) 0 j)
  wiper_falls_back unstored p = rw (cut_tap after p j in_range, left.under_way (256 + j), left.byte (256 + j), unstored) (means j in_range (x9520.cell s 0 (256 + j)))

  its_write : store ≡ true → under_way_at after.eeprom (256 + j) ≡ Some v
  its_write stored = left.under_way (256 + j) ∙ rw (stored, eq-eqb (256 + j) (256 + j) refl) refl

  -- Once its cycle is over the byte is stored, if it was to be, and no other is.
  pub wiper_holds : store ≡ true → x9520.cell (over x9520 after) 0 (256 + j) ≡ v
  wiper_holds stored = over_cell as_part own_moves after (256 + j) ∙ ap (λ w. unwrap_or w (byte_at after.eeprom (256 + j))) (its_write stored)

  pub wiper_cells : (i : ℕ) → (store ≡ true → i ≢ 256 + j) → x9520.cell (over x9520 after) 0 i ≡ x9520.cell s 0 i
  wiper_cells i other =
      over_cell as_part own_moves after i
      ∙ ap (λ w. unwrap_or w (byte_at after.eeprom i)) (left.under_way i ∙ none_by store i (256 + j) v other)
      ∙ left.byte i

  -- a byte that is not stored starts no cycle
  pub wiper_free : store ≡ false → x9520.busy after 0 ≡ false
  wiper_free unstored = free_if after.eeprom (λ i. left.under_way i ∙ rw unstored refl)

  pub wiper_wel : (over x9520 after).latches.wel ≡ true
  wiper_wel = over_rest as_part after (λ t. t.latches.wel) (λ e. refl) ∙ left.wel

  module _ (sound : Sound s) where
    its_dcp : dcp_of after.dcps j ≡ at_byte (taps_of j) v
    its_dcp = ap (λ d. dcp_of d j) left.dcps ∙ moved_dcp s j v sound in_range

    its_tap : x9520.tap after 0 j ≡ tap_of (at_byte (taps_of j) v)
    its_tap = tap_is after.dcps j in_range ∙ ap tap_of its_dcp

    pub wiper_moves : Means (taps_of j) v (x9520.tap after 0 j)
    wiper_moves = subst (Means (taps_of j) v) (sym its_tap) (means j in_range v)

    -- A byte that was stored comes back after a power cut.
    pub wiper_returns : store ≡ true → (p : PowerCut) → x9520.tap (x9520.cut (over x9520 after) p) 0 j ≡ x9520.tap after 0 j
    wiper_returns stored p =
        let old : ℕ = byte_at after.eeprom (256 + j) in
        cut_tap after p j in_range ∙ ap (λ o. tap_of (at_byte (taps_of j) (unwrap_or o old))) (its_write stored) ∙ sym its_tap

    whole_after : (i : ℕ) → (i ≡ j) ⊎ (i ≡ j → ⊥) → i < 3 → Whole i (dcp_of after.dcps i)
    whole_after i (inl e) h = subst (λ k. Whole k (dcp_of after.dcps k)) (sym e) (subst (Whole j) (sym its_dcp) (at_byte_whole j v))
    whole_after i (inr n) h = subst (Whole i) (sym (other_dcps i n)) (sound.taps i h, sound.registers i h)

    pub sound_written : Sound after
    sound_written = sound_by after (rw left.named in_range) (λ i h. whole_after i (cases_eq i j) h)
