-- What a write job leaves in the memory of a DS1846 by itself, and what a read job brings of it.
use Rattle.std.proofs.Common.{◌≡◌, ℕ, ◌+◌, ◌%◌, ◌<◌, true, false, not, ◌&&◌, ltb, List, [], ◌∷◌, refl, ap, ◌∙◌, arith, min}
use Rattle.std.proofs.lemmas.Bool.{ltb-true, ltb-false, cond_both}
use Rattle.refusals.specs.Told.{Told, ok}
use Rattle.part.specs.declared.levels.Levels.{Levels}
use Rattle.eeprom.specs.Cells.{byte_at, is_busy, stages, unstages, stopped, begins}
use Rattle.eeprom.specs.Pages.{next_in_page}
use Rattle.eeprom.specs.declared.Eeprom.{Eeprom}
use Rattle.ds1846.specs.Chip.{ds1846, as_part, chip, taken, tap_of}
use Rattle.ds1846.specs.Keeping.{moves}
use Rattle.ds1846.specs.declared.state.Ds1846.{Ds1846}
use Rattle.ds1846.specs.declared.state.Mode.TheVariants.{Idle, Writing, Reading}
use Rattle.storage.specs.Cells.{Stands}
use Rattle.controller.specs.Work.{on_ack, later, sent, closed, written, given, read}
use Rattle.storage.proofs.Accepting.{AcceptedIf, accepted_if, free_if_accepted}
use Rattle.storage.proofs.Filling.{turns_8, filled, reached, over_stands}
use Rattle.storage.proofs.Giving.{Reads, reads_cells}
use Rattle.storage.proofs.Over.{over}

-- wipers 0 and 2 follow their bytes up to tap 99
pub tap_capped : (n : ℕ) → tap_of n ≡ min n 99
tap_capped n = cond_both (ltb 99 n) 99 n (λ t. t ≡ min n 99)
    (λ e. let h = ltb-true 99 n e in omega (arith, h)) (λ e. let h = ltb-false 99 n e in omega (arith, h))

module _ (l : Levels) where
  -- with WP LOW each data byte is staged at its cell of the page
  all_taken : (e : Eeprom 256) (c n : ℕ) (ds : List ℕ) → (not (is_busy e) && not l.wp) ≡ true →
      later ds1846 l 162 n ds (chip e c Writing) ≡ (chip (filled 8 e c ds) (reached 8 c ds) Writing, ok [])
  all_taken e c n [] h = refl
  all_taken e c n (x ∷ xs) h =
      ap (λ ack. on_ack ack n (later ds1846 l 162 (n + 1) xs) (taken ack (chip e c Writing) x)) h
      ∙ all_taken (stages e c x) (next_in_page 8 c) (n + 1) xs h

  -- the address and the first byte
  aimed_at : (x : ℕ) (xs : List ℕ) (s : Ds1846) → is_busy s.eeprom ≡ false → sent ds1846 l 81 (x ∷ xs) s ≡ later ds1846 l 162 2 xs (chip (unstages s.eeprom) x Writing)
  aimed_at x xs s free = rw (free, free) refl

  module _ (first : ℕ) (ds : List ℕ) (s : Ds1846) where
    abbrev job : Ds1846 × Told (List ℕ)
    job = written ds1846 l 81 (first ∷ ds) s

    -- all bytes get their ACK, and the STOP begins what they staged
    job_is : l.wp ≡ false → is_busy s.eeprom ≡ false → job ≡ (chip (begins (filled 8 (unstages s.eeprom) first ds)) (reached 8 first ds) Idle, ok [])
    unfolding written
    job_is low free =
        ap (closed ds1846 l) (aimed_at first ds s free ∙ all_taken (unstages s.eeprom) first 2 ds (λ i. not (free i) && not (low i)))
        ∙ ap (λ wp. (chip (stopped (not wp) (filled 8 (unstages s.eeprom) first ds)) (reached 8 first ds) Idle, ok [])) low

    pub ds_accepts : l.wp ≡ false → AcceptedIf ds1846 s job.1 (Unit {0})
    ds_accepts low = accepted_if as_part moves l 81 (first ∷ ds) s (λ free any. ap (λ w. w.1) (job_is low free)) (λ free accepted. tt)

    -- each cell then has the last byte that fell on it, or its old one
    pub ds_cells : l.wp ≡ false → first < 256 → job.1 ≡ ok [] → (i : ℕ) → Stands 8 first ds i (ds1846.cell s 0 i) (ds1846.cell (over ds1846 job.0) 0 i)
    ds_cells low small accepted i =
        let free : is_busy s.eeprom ≡ false = free_if_accepted as_part moves l 81 (first ∷ ds) s accepted in
        over_stands 8 first ds i as_part moves job.0 s.eeprom turns_8 (omega arith) small free (ap (λ w. w.0.eeprom) (job_is low free))

  read_is : (i n : ℕ) (s : Ds1846) → is_busy s.eeprom ≡ false → (read ds1846 l 81 (i ∷ []) n s).1 ≡ ok (given ds1846 l 163 n (chip (unstages s.eeprom) i Reading)).1
  unfolding read
  read_is i n s free = rw (free, free, free) refl

  -- a read brings the cells from i on
  pub ds_reads : (i n : ℕ) (s : Ds1846) → ds1846.busy s 0 ≡ false → i < 256 → Reads ds1846 l 81 (i ∷ []) n s (λ j v. v ≡ ds1846.cell s 0 ((i + j) % 256) % 256)
  ds_reads i n s free h = reads_cells ds1846 l 163 (λ i. chip (unstages s.eeprom) i Reading) (byte_at s.eeprom) (λ i. refl) (λ i. refl) i h (read_is i n s free)
