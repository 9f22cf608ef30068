-- What a write job leaves in the memory of an X9520 by itself, and what a read job brings of it.
use Rattle.std.proofs.Common.{◌≡◌, ℕ, ◌+◌, ◌%◌, ◌<◌, ◌≤◌, Bool, true, false, cond, not, eqb, leb, ◌⊎◌, List, [], ◌∷◌, length, sym, refl, ap, ◌∙◌, inl, inr, arith}
use borrow.Author.Tests.{clash}
use Rattle.std.proofs.lemmas.Bool.{leb-false, lt-ltb, lt-leb, cond_both}
use Rattle.refusals.specs.Told.{Told, ok}
use Rattle.part.specs.declared.levels.Levels.{Levels}
use Rattle.eeprom.specs.Cells.{byte_at, is_busy, stages, unstages, begins}
use Rattle.eeprom.specs.Pages.{next_in_page}
use Rattle.eeprom.specs.declared.Eeprom.{Eeprom}
use Rattle.protection.specs.Lock.{lock_bits, locks_memory, wp_forbids}
use Rattle.protection.specs.declared.latches.Latches.{Latches}
use Rattle.x9520.specs.Chip.{x9520, as_part, flags_at}
use Rattle.x9520.specs.Keeping.{moves}
use Rattle.x9520.specs.State.{chip}
use Rattle.x9520.specs.Writing.{Verdict, refused, barred, pages, memory_verdict, acks, taken}
use Rattle.x9520.specs.declared.state.Device.TheVariants.{Memory}
use Rattle.x9520.specs.declared.state.Mode.TheVariants.{Idle, MemoryBytes, Reading}
use Rattle.x9520.specs.declared.state.X9520.{X9520}
use Rattle.runs.specs.Lock.{locks_cell}
use Rattle.runs.proofs.Bits.{lock_is}
use Rattle.storage.specs.Cells.{Stands}
use Rattle.storage.specs.Storing.{MemoryTakes}
use Rattle.controller.specs.Work.{on_ack, later, closed, written, given, read}
use Rattle.storage.proofs.Accepting.{AcceptedIf, accepted_if, free_if_accepted}
use Rattle.storage.proofs.Filling.{filled, reached, turns_16, over_stands}
use Rattle.storage.proofs.Giving.{Reads, reads_cells}
use Rattle.storage.proofs.Over.{over, over_rest}

-- The locked memory begins where a page does, so the next cell of a page is no more locked than the cell.
from_border : (b n : ℕ) → b % 16 ≡ 0 → leb b n ≡ false → leb b (next_in_page 16 n) ≡ false
from_border b n h e = lt-leb b _ (let z = leb-false b n e in omega arith)

unlocked_by : (none quarter half : Bool) (n : ℕ) → cond none false (cond quarter (leb 192 n) (cond half (leb 128 n) true)) ≡ false →
    cond none false (cond quarter (leb 192 (next_in_page 16 n)) (cond half (leb 128 (next_in_page 16 n)) true)) ≡ false
unlocked_by true quarter half n h = refl
unlocked_by false true half n h = from_border 192 n refl h
unlocked_by false false true n h = from_border 128 n refl h
unlocked_by false false false n h = h

unlocked_next : (r n : ℕ) → locks_memory r n ≡ false → locks_memory r (next_in_page 16 n) ≡ false
unlocked_next r n h = unlocked_by (eqb (lock_bits r) 0) (eqb (lock_bits r) 1) (eqb (lock_bits r) 2) n h

-- so it is enough that the first cell is not locked, and the law of the lock says of it what the chip goes by
page_is : (r first : ℕ) → first < 256 → locks_cell r first ≡ locks_memory r first
page_is r first h = lock_is r first ∙ rw (lt-ltb first 256 h) refl

-- a data byte for the memory is staged, or gets no ACK
abbrev StagedOrRefused : Verdict → Type 0
StagedOrRefused v = (v ≡ pages) ⊎ (acks v ≡ false)

staged_or_refused : (k : Latches) (r n : ℕ) (wp : Bool) → StagedOrRefused (memory_verdict k r n wp)
staged_or_refused k r n wp =
    cond_both (not k.wel) _ _ StagedOrRefused (λ e. inr refl) (λ e.
    cond_both (wp_forbids true wp r) _ _ StagedOrRefused (λ f. inr refl) (λ f.
    cond_both (locks_memory r n) barred pages StagedOrRefused (λ g. inr refl) (λ g. inl refl)))

-- staged with WEL set and for a cell that is not locked
staged_only : (wel wp locked : Bool) → cond (not wel) refused (cond wp refused (cond locked barred pages)) ≡ pages → (wel ≡ true) × (locked ≡ false)
staged_only true true locked h = absurd (clash (ap acks h))
staged_only true false true h = absurd (clash (ap acks h))
staged_only true false false h = (refl, refl)
staged_only false wp locked h = absurd (clash (ap acks h))

module _ (l : Levels) where
  -- the data byte x, number n of the job, judged v, and the bytes after it
  abbrev byte_and_later : Verdict → ℕ → ℕ → List ℕ → X9520 → X9520 × Told (List ℕ)
  byte_and_later v n x xs s = on_ack (acks v) n (later x9520 l 160 (n + 1) xs) (taken v s x)

  staged_if_accepted : (v : Verdict) (n x : ℕ) (xs : List ℕ) (s : X9520) → StagedOrRefused v → (byte_and_later v n x xs s).1 ≡ ok [] → v ≡ pages
  staged_if_accepted v n x xs s (inl e) h = e
  staged_if_accepted v n x xs s (inr e) h = let r = rw e at h in cc

  module _ (s : X9520) where
    -- the chip that takes data bytes, with the counter at c
    abbrev taking : Eeprom 260 → ℕ → X9520
    taking e c = chip e s.dcps s.latches (flags_at s.flags l) c s.named MemoryBytes

    -- where all of them are accepted, each is staged
    all_staged : (n : ℕ) (ds : List ℕ) (e : Eeprom 260) (c : ℕ) → (later x9520 l 160 n ds (taking e c)).1 ≡ ok [] →
        later x9520 l 160 n ds (taking e c) ≡ (taking (filled 16 e c ds) (reached 16 c ds), ok [])
    all_staged n [] e c h = refl
    all_staged n (x ∷ xs) e c h =
        let judged = memory_verdict s.latches (byte_at e 259) c l.wp in
        let pages_is = staged_if_accepted judged n x xs (taking e c) (staged_or_refused s.latches (byte_at e 259) c l.wp) h in
        let same = ap (λ v. byte_and_later v n x xs (taking e c)) pages_is in
        same ∙ all_staged (n + 1) xs (stages e c x) (next_in_page 16 c) (sym (ap (λ w. w.1) same) ∙ h)

    -- with WEL set they are, in a page that is not locked
    all_accepted : l.wp ≡ false → s.latches.wel ≡ true → (n : ℕ) (ds : List ℕ) (e : Eeprom 260) (c : ℕ) → locks_memory (byte_at e 259) c ≡ false →
        (later x9520 l 160 n ds (taking e c)).1 ≡ ok []
    all_accepted low wel n [] e c h = refl
    all_accepted low wel n (x ∷ xs) e c h =
        let v : memory_verdict s.latches (byte_at e 259) c l.wp ≡ pages = rw (low, wel, h) refl in
        ap (λ v. (byte_and_later v n x xs (taking e c)).1) v ∙ all_accepted low wel (n + 1) xs (stages e c x) (next_in_page 16 c) (unlocked_next (byte_at e 259) c h)

    -- where one is accepted WEL is set, and the page is not locked
    open_only : (ds : List ℕ) (e : Eeprom 260) (c : ℕ) → (later x9520 l 160 2 ds (taking e c)).1 ≡ ok [] → 1 ≤ length ds → (s.latches.wel ≡ true) × (locks_memory (byte_at e 259) c ≡ false)
    open_only [] e c h one = absurd (omega (arith, one))
    open_only (x ∷ xs) e c h one =
        let judged = memory_verdict s.latches (byte_at e 259) c l.wp in
        let r = byte_at e 259 in
        staged_only s.latches.wel (wp_forbids true l.wp r) (locks_memory r c) (staged_if_accepted judged 2 x xs (taking e c) (staged_or_refused s.latches r c l.wp) h)

    accepted_by : l.wp ≡ false → (ds : List ℕ) (e : Eeprom 260) (c : ℕ) → (1 ≤ length ds → (s.latches.wel ≡ true) × (locks_memory (byte_at e 259) c ≡ false)) →
        (later x9520 l 160 2 ds (taking e c)).1 ≡ ok []
    accepted_by low [] e c takes = refl
    accepted_by low (x ∷ xs) e c takes = let h = takes (omega arith) in all_accepted low h.0 2 (x ∷ xs) e c h.1

    module _ (first : ℕ) (ds : List ℕ) where
      abbrev job : X9520 × Told (List ℕ)
      job = written x9520 l 80 (first ∷ ds) s

      job_is : is_busy s.eeprom ≡ false → job ≡ closed x9520 l (later x9520 l 160 2 ds (taking (unstages s.eeprom) first))
      unfolding written
      job_is free = rw free refl

      pub memory_accepts : l.wp ≡ false → first < 256 → AcceptedIf x9520 s job.1 (MemoryTakes s.latches.wel (x9520.cell s 0 259) first ds)
      memory_accepts low small =
          let same : locks_cell (byte_at s.eeprom 259) first ≡ locks_memory (byte_at s.eeprom 259) first = page_is (byte_at s.eeprom 259) first small in
          accepted_if as_part moves l 80 (first ∷ ds) s
          (λ free takes. ap (λ w. w.1) (job_is free) ∙ accepted_by low ds (unstages s.eeprom) first (λ one. ((takes one).0, sym same ∙ (takes one).1)))
          (λ free accepted one. let h = open_only ds (unstages s.eeprom) first (sym (ap (λ w. w.1) (job_is free)) ∙ accepted) one in (h.0, same ∙ h.1))

      -- the chip once the STOP has begun what the bytes staged
      abbrev begun : X9520
      begun = chip (begins (filled 16 (unstages s.eeprom) first ds)) s.dcps s.latches (flags_at s.flags l) (reached 16 first ds) s.named Idle

      accepted_is : l.wp ≡ false → job.1 ≡ ok [] → job.0 ≡ begun
      accepted_is low accepted =
          let started = job_is (free_if_accepted as_part moves l 80 (first ∷ ds) s accepted) in
          let all = all_staged 2 ds (unstages s.eeprom) first (sym (ap (λ w. w.1) started) ∙ accepted) in
          ap (λ w. w.0) started ∙ ap (λ w. (closed x9520 l w).0) all ∙ rw low refl

      -- each cell then has the last byte that fell on it, or its old one
      pub memory_cells : l.wp ≡ false → first < 256 → job.1 ≡ ok [] → (i : ℕ) → Stands 16 first ds i (x9520.cell s 0 i) (x9520.cell (over x9520 job.0) 0 i)
      memory_cells low small accepted i =
          let free : is_busy s.eeprom ≡ false = free_if_accepted as_part moves l 80 (first ∷ ds) s accepted in
          over_stands 16 first ds i as_part moves job.0 s.eeprom turns_16 (omega arith) small free (ap (λ t. t.eeprom) (accepted_is low accepted))

      -- the latches and the wipers stay
      pub memory_latches : l.wp ≡ false → job.1 ≡ ok [] → (over x9520 job.0).latches ≡ s.latches
      memory_latches low accepted = over_rest as_part job.0 (λ t. t.latches) (λ e. refl) ∙ ap (λ t. t.latches) (accepted_is low accepted)

      pub memory_wipers : l.wp ≡ false → job.1 ≡ ok [] → (j : ℕ) → x9520.tap (over x9520 job.0) 0 j ≡ x9520.tap s 0 j
      memory_wipers low accepted j = over_rest as_part job.0 (λ t. x9520.tap t 0 j) (λ e. refl) ∙ ap (λ t. x9520.tap t 0 j) (accepted_is low accepted)

  -- the chip that gives the cells, with the counter at c
  abbrev giving : X9520 → ℕ → X9520
  giving s c = chip (unstages s.eeprom) s.dcps s.latches (flags_at s.flags l) c s.named (Reading Memory)

  read_is : (i n : ℕ) (s : X9520) → is_busy s.eeprom ≡ false → (read x9520 l 80 (i ∷ []) n s).1 ≡ ok (given x9520 l 161 n (giving s i)).1
  unfolding read
  read_is i n s free = rw (free, free) refl

  -- a read brings the cells from i on
  pub memory_reads : (i n : ℕ) (s : X9520) → x9520.busy s 0 ≡ false → i < 256 → Reads x9520 l 80 (i ∷ []) n s (λ j v. v ≡ x9520.cell s 0 ((i + j) % 256) % 256)
  memory_reads i n s free h = reads_cells x9520 l 161 (giving s) (byte_at s.eeprom) (λ i. refl) (λ i. refl) i h (read_is i n s free)
