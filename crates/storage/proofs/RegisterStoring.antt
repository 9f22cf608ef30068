-- The register of an X9520 by itself: what jobs that write 02h, 06h and a byte to it store there, and what reads of it bring.
use Rattle.std.proofs.Common.{◌≡◌, ℕ, ◌+◌, ◌*◌, ◌/◌, ◌%◌, ◌≢◌, Bool, true, false, cond, ◌&&◌, ◌||◌, eqb, ◌⊎◌, List, [], ◌∷◌, Some, None, unwrap_or, sym, refl, ap, ◌∙◌, subst, inl, inr, arith}
use borrow.Author.Tests.{clash}
use Rattle.std.proofs.Math.Bool.{and_assoc}
use Rattle.std.proofs.lemmas.Bool.{eqb-true, eq-eqb, ne_eqb, cases_eq}
use Rattle.refusals.specs.Told.{Told, ok, refused}
use Rattle.part.specs.declared.levels.Levels.{Levels}
use Rattle.eeprom.specs.Cells.{byte_at, under_way_at, is_busy, stages, unstages, begins}
use Rattle.eeprom.proofs.Moves.{busy_if, free_if, stages_staged, unstages_staged, begins_under_way}
use Rattle.protection.specs.Latching.{disarmed}
use Rattle.protection.specs.declared.latches.Latches.{Latches}
use Rattle.x9520.specs.Chip.{x9520, as_part, flags_at}
use Rattle.x9520.specs.Keeping.{moves}
use Rattle.x9520.specs.Register.{weigh, stored_register, register_byte, latched}
use Rattle.x9520.specs.State.{chip, flags}
use Rattle.x9520.specs.Writing.{Verdict, refused as no_ack, latches, stores, armed_verdict, register_verdict, acks, taken}
use Rattle.x9520.specs.declared.state.Device.TheVariants.{Register}
use Rattle.x9520.specs.declared.state.Mode.TheVariants.{Idle, RegisterByte, Reading}
use Rattle.x9520.specs.declared.state.X9520.{X9520}
use Rattle.board.specs.Samples.{bit_value}
use Rattle.storage.specs.Storing.{bit, RegisterTakes, AtMostOne, Shows}
use Rattle.controller.specs.Work.{on_ack, done, later, closed, written, given, addressed, fetched, read}
use Rattle.storage.proofs.Accepting.{AcceptedIf, accepted_if, busy_refuses, free_if_accepted}
use Rattle.storage.proofs.Giving.{Reads, reads_same}
use Rattle.storage.proofs.OneByte.{takes_one, takes_one_only}
use Rattle.storage.proofs.Over.{over, free_under_way, over_cell, over_ready, over_rest}
use Rattle.board.proofs.Samples.{bit_small}

-- a job that writes the byte x to the register
abbrev register_job : Levels → ℕ → X9520 → X9520 × Told (List ℕ)
register_job l x s = written x9520 l 82 (255 ∷ (x ∷ [])) s

-- how 02h, 06h and a byte with bit 2 clear and bit 1 set are judged with WP LOW, by the latches k and the stored register byte r
module _ (k : Latches) (r : ℕ) where
  enables : k.rwel ≡ false → register_verdict k r false 2 ≡ latches
  enables clear = rw clear refl

  enable_stored : k.rwel ≡ true → register_verdict k r false 2 ≡ stores
  enable_stored set = rw set refl

  arms : k.wel ≡ true → k.rwel ≡ false → register_verdict k r false 6 ≡ latches
  arms wel clear = rw (clear, wel) refl

  byte_stored : (zero : Bool) (x : ℕ) → eqb x 0 ≡ zero → k.rwel ≡ true → bit 4 x ≡ false → bit 2 x ≡ true → register_verdict k r false x ≡ stores
  byte_stored true x is_zero rwel clear set = absurd (clash (sym (ap (bit 2) (eqb-true x 0 is_zero)) ∙ set))
  byte_stored false x not_zero rwel clear set = rw (not_zero, rwel, set, clear) refl

-- Which data bytes the register takes with WP LOW.
acks_if : (k : Latches) (r x : ℕ) → RegisterTakes k.wel k.rwel x → acks (register_verdict k r false x) ≡ true
acks_if k r x = by_rwel k.rwel
  where
    -- with RWEL set: one with bit 1 set changes nothing or is stored
    kept_or_stored : (zero four : Bool) → acks (cond zero latches (cond four latches stores)) ≡ true
    kept_or_stored true four = refl
    kept_or_stored false true = refl
    kept_or_stored false false = refl

    by_rwel : (rwel : Bool) → RegisterTakes k.wel rwel x →
        acks (cond (eqb x 0) latches (cond rwel (armed_verdict r false x) (cond (eqb x 2 || (eqb x 6 && k.wel)) latches no_ack))) ≡ true
    by_rwel false (inl e) = rw e refl
    by_rwel false (inr (inl e)) = rw e refl
    by_rwel false (inr (inr h)) = rw (h.0, h.1) refl
    by_rwel true (inl e) = rw e refl
    by_rwel true (inr h) = rw h (kept_or_stored (eqb x 0) (bit 4 x))

acked : (b : Bool) (v : Verdict) → acks (cond b v no_ack) ≡ true → b ≡ true
acked true v h = refl
acked false v h = h

acks_only : (k : Latches) (r x : ℕ) → acks (register_verdict k r false x) ≡ true → RegisterTakes k.wel k.rwel x
acks_only k r x = by_rwel k.rwel (cases_eq x 0)
  where
    named : (two six wel : Bool) → (two || (six && wel)) ≡ true → eqb x 2 ≡ two → eqb x 6 ≡ six → (x ≡ 2) ⊎ ((x ≡ 6) × (wel ≡ true))
    named true six wel h two six_is = inl (eqb-true x 2 two)
    named false true wel h two six = inr (eqb-true x 6 six, h)
    named false false wel h two six = absurd (clash h)

    by_rwel : (rwel : Bool) → (x ≡ 0) ⊎ (x ≡ 0 → ⊥) →
        acks (cond (eqb x 0) latches (cond rwel (armed_verdict r false x) (cond (eqb x 2 || (eqb x 6 && k.wel)) latches no_ack))) ≡ true → RegisterTakes k.wel rwel x
    by_rwel false (inl e) h = inl e
    by_rwel false (inr n) h = inr (named (eqb x 2) (eqb x 6) k.wel (acked _ latches (rw (ne_eqb x 0 n) at h)) refl refl)
    by_rwel true (inl e) h = inl e
    by_rwel true (inr n) h = inr (acked (bit 2 x) _ (rw (ne_eqb x 0 n) at h))

module _ (l : Levels) (s : X9520) (first : ℕ) (ds : List ℕ) (low : l.wp ≡ false) where
  abbrev any_job : X9520 × Told (List ℕ)
  any_job = written x9520 l 82 (first ∷ ds) s

  -- the chip that awaits data bytes for the register
  abbrev awaiting : X9520
  awaiting = chip (unstages s.eeprom) s.dcps s.latches (flags_at s.flags l) s.counter s.named RegisterByte

  opens_is : is_busy s.eeprom ≡ false → first ≡ 255 → any_job.1 ≡ (later x9520 l 164 2 ds awaiting).1
  unfolding written
  opens_is free e = rw (free, eq-eqb first 255 e) refl

  rejected_is : is_busy s.eeprom ≡ false → (first ≡ 255 → ⊥) → any_job.1 ≡ refused 8 1
  unfolding written
  rejected_is free n = rw (free, ne_eqb first 255 n) refl

  acks_is : (x : ℕ) → x9520.takes awaiting 164 l x ≡ acks (register_verdict s.latches (stored_register s) false x)
  acks_is x = rw low refl

  takes_only_by : (first ≡ 255) ⊎ (first ≡ 255 → ⊥) → is_busy s.eeprom ≡ false → any_job.1 ≡ ok [] → (first ≡ 255) × AtMostOne (RegisterTakes s.latches.wel s.latches.rwel) ds
  takes_only_by (inl e) free accepted =
      (e, takes_one_only l 164 awaiting refl (λ x h. acks_only s.latches (stored_register s) x (sym (acks_is x) ∙ h)) ds (sym (opens_is free e) ∙ accepted))
  takes_only_by (inr n) free accepted = let refuses = rejected_is free n in cc

  pub register_takes : AcceptedIf x9520 s any_job.1 ((first ≡ 255) × AtMostOne (RegisterTakes s.latches.wel s.latches.rwel) ds)
  register_takes =
      accepted_if as_part moves l 82 (first ∷ ds) s
      (λ free h. opens_is free h.0 ∙ takes_one l 164 awaiting (λ x t. acks_is x ∙ acks_if s.latches (stored_register s) x t) ds h.1)
      (takes_only_by (cases_eq first 255))

-- an accepted job of the chip s that leaves the stored bytes and the wipers as they were, and WEL set
pub record Took (s : X9520) (w : X9520 × Told (List ℕ)) : Type 0 where
  pub accepted : w.1 ≡ ok []
  pub cells : (i : ℕ) → x9520.cell w.0 0 i ≡ x9520.cell s 0 i
  pub wipers : (j : ℕ) → x9520.tap w.0 0 j ≡ x9520.tap s 0 j
  pub wel_is : w.0.latches.wel ≡ true

-- one that starts no cycle, and leaves RWEL so
pub record Enabled (s : X9520) (rwel : Bool) (w : X9520 × Told (List ℕ)) : Type 0 where
  pub took : Took s w
  pub free : is_busy w.0.eeprom ≡ false
  rwel_is : w.0.latches.rwel ≡ rwel

-- one that starts the cycle of the register byte x alone, at the levels l
record Begun (s : X9520) (l : Levels) (x : ℕ) (w : X9520 × Told (List ℕ)) : Type 0 where
  took : Took s w
  under_way : (i : ℕ) → under_way_at w.0.eeprom i ≡ cond (eqb i 259) (Some x) None
  flags_are : w.0.flags ≡ flags (bit 64 x && l.v2ro) (bit 32 x && l.v3ro)
  rwel_is : w.0.latches.rwel ≡ false

-- a job with WP LOW while no write is under way
module _ (l : Levels) (x : ℕ) (s : X9520) (low : l.wp ≡ false) (free : is_busy s.eeprom ≡ false) where
  -- the chip once it has heard the register's write address and FFh
  abbrev opened_register : X9520
  opened_register = chip (unstages s.eeprom) s.dcps s.latches (flags_at s.flags l) s.counter s.named RegisterByte

  -- the byte, by how it is judged
  judged : (v : Verdict) → register_verdict s.latches (stored_register s) false x ≡ v → register_job l x s ≡ closed x9520 l (on_ack (acks v) 2 done (taken v opened_register x))
  unfolding written
  judged v is = rw (free, low, is) refl

  -- a byte for the latches: with nothing staged nothing comes under way at the STOP
  enabling : (rwel : Bool) → register_verdict s.latches (stored_register s) false x ≡ latches → (latched s.latches x).wel ≡ true →
      (latched s.latches x).rwel ≡ rwel → Enabled s rwel (register_job l x s)
  enabling rwel is wel_is rwel_is =
      let e = unstages s.eeprom in
      let job : register_job l x s ≡ (chip (begins e) s.dcps (latched s.latches x) (flags_at s.flags l) s.counter s.named Idle, ok []) = judged latches is ∙ rw low refl in
      record {
        took = record {
          accepted = ap (λ w. w.1) job;
          cells = λ i. ap (λ w. x9520.cell w.0 0 i) job;
          wipers = λ j. ap (λ w. x9520.tap w.0 0 j) job;
          wel_is = ap (λ w. w.0.latches.wel) job ∙ wel_is;
        };
        free = ap (λ w. is_busy w.0.eeprom) job ∙ free_if (begins e) (λ i. begins_under_way e i ∙ rw (free_under_way s.eeprom free i) (unstages_staged s.eeprom i));
        rwel_is = ap (λ w. w.0.latches.rwel) job ∙ rwel_is;
      }

  -- a byte to be stored
  beginning : register_verdict s.latches (stored_register s) false x ≡ stores → s.latches.wel ≡ true → Begun s l x (register_job l x s)
  beginning is wel =
      let e = stages (unstages s.eeprom) 259 x in
      let shown = flags (bit 64 x && l.v2ro) (bit 32 x && l.v3ro) in
      let job : register_job l x s ≡ (chip (begins e) s.dcps (disarmed s.latches) shown s.counter s.named Idle, ok []) = judged stores is ∙ rw low refl in
      record {
        took = record {
          accepted = ap (λ w. w.1) job;
          cells = λ i. ap (λ w. x9520.cell w.0 0 i) job;
          wipers = λ j. ap (λ w. x9520.tap w.0 0 j) job;
          wel_is = ap (λ w. w.0.latches.wel) job ∙ wel;
        };
        under_way = λ i. ap (λ w. under_way_at w.0.eeprom i) job ∙ begins_under_way e i
            ∙ rw (free_under_way s.eeprom free i) (stages_staged (unstages s.eeprom) 259 x i) ∙ ap (cond (eqb i 259) (Some x)) (unstages_staged s.eeprom i);
        flags_are = ap (λ w. w.0.flags) job;
        rwel_is = ap (λ w. w.0.latches.rwel) job;
      }

-- a job of 02h with RWEL clear
module _ (l : Levels) (s : X9520) (low : l.wp ≡ false) (rwel : s.latches.rwel ≡ false) where
  pub enabled_if : is_busy s.eeprom ≡ false → Enabled s false (register_job l 2 s)
  enabled_if free = enabling l 2 s low free false (enables s.latches (stored_register s) rwel) refl rwel

  pub enabled_if_accepted : (register_job l 2 s).1 ≡ ok [] → Enabled s false (register_job l 2 s)
  enabled_if_accepted accepted = enabled_if (free_if_accepted as_part moves l 82 (255 ∷ (2 ∷ [])) s accepted)

-- With RWEL set already 02h is a register byte, whose cycle runs when the job of 06h comes.
module _ (l0 l1 : Levels) (s : X9520) (low : l0.wp ≡ false) (free : is_busy s.eeprom ≡ false) where
  abbrev enable_and_arm : Told (List ℕ)
  enable_and_arm = (register_job l1 6 (register_job l0 2 s).0).1

  armed_refuses : s.latches.rwel ≡ true → enable_and_arm ≡ refused 8 0
  armed_refuses rwel =
      let w = register_job l0 2 s in
      let begun = beginning l0 2 s low free (enable_stored s.latches (stored_register s) rwel) (s.latches.ordered rwel) in
      busy_refuses as_part moves l1 82 (255 ∷ (6 ∷ [])) w.0 (busy_if w.0.eeprom 259 2 (begun.under_way 259))

  disarmed_by : (rwel : Bool) → s.latches.rwel ≡ rwel → enable_and_arm ≡ ok [] → s.latches.rwel ≡ false
  disarmed_by true set accepted = let refuses = armed_refuses set in cc
  disarmed_by false clear accepted = clear

-- A read of the register, with FFh first or without: each byte given is the register.
module _ (l : Levels) (s : X9520) where
  abbrev reading_register : X9520
  reading_register = chip (unstages s.eeprom) s.dcps s.latches (flags_at s.flags l) s.counter s.named (Reading Register)

  addressed_is : (aim : List ℕ) → (aim ≡ []) ⊎ (aim ≡ 255 ∷ []) → is_busy s.eeprom ≡ false → addressed x9520 l 82 aim (x9520.level s l) ≡ (reading_register, ok [])
  addressed_is aim (inl e) free = rw (e, free) refl
  addressed_is aim (inr e) free = rw (e, free, free) refl

  read_is : (aim : List ℕ) (n : ℕ) → (aim ≡ []) ⊎ (aim ≡ 255 ∷ []) → is_busy s.eeprom ≡ false → (read x9520 l 82 aim n s).1 ≡ ok (given x9520 l 165 n reading_register).1
  unfolding read
  read_is aim n aims free = ap (λ w. (fetched x9520 l 165 n w.1 w.0).1) (addressed_is aim aims free)

-- the register byte with x stored, the flags a and b, RWEL clear and WEL set
abbrev shown : ℕ → Bool → Bool → ℕ
shown x a b = x / 128 * 128 + weigh 64 a + weigh 32 b + x / 8 % 4 * 8 + weigh 4 false + weigh 2 true + x % 2

weight_of : (n : ℕ) (b : Bool) → weigh n b ≡ n * bit_value b
weight_of n true = omega arith
weight_of n false = omega arith

bit_read : (b : Bool) (n : ℕ) → n ≡ bit_value b → eqb n 1 ≡ b
bit_read true n e = rw e refl
bit_read false n e = rw e refl

shows : (x : ℕ) (a b p q : Bool) → a ≡ (bit 64 x && p) → b ≡ (bit 32 x && q) → Shows x p q (shown x a b % 256)
shows x a b p q v2os v3os =
    let v : ℕ = shown x a b % 256 in
    let same : (m n : ℕ) → m ≡ n → eqb m 1 ≡ eqb n 1 = λ m n. ap (λ n. eqb n 1) in
    let small_a = bit_small a in
    let small_b = bit_small b in
    let weight_a = weight_of 64 a in
    let weight_b = weight_of 32 b in
    record {
      eight_bits = omega arith;
      por1 = same (v / 128 % 2) (x / 128 % 2) (omega arith);
      v2os = bit_read a (v / 64 % 2) (omega arith) ∙ v2os;
      v3os = bit_read b (v / 32 % 2) (omega arith) ∙ v3os;
      bl1 = same (v / 16 % 2) (x / 16 % 2) (omega arith);
      bl0 = same (v / 8 % 2) (x / 8 % 2) (omega arith);
      rwel = bit_read false (v / 4 % 2) (omega arith);
      wel = bit_read true (v / 2 % 2) (omega arith);
      por0 = same (v / 1 % 2) (x / 1 % 2) (omega arith);
    }

shown_is : (l : Levels) (s : X9520) (x : ℕ) (p q : Bool) → stored_register s ≡ x → s.flags ≡ flags p q → s.latches.wel ≡ true → s.latches.rwel ≡ false →
    register_byte (reading_register l s) ≡ shown x (p && l.v2ro) (q && l.v3ro)
shown_is l s x p q stored flags_are wel rwel = rw (stored, flags_are, wel, rwel) refl

-- Once the cycle of a register byte is over it is stored, and the register shows it.
module _ (s : X9520) (l : Levels) (x : ℕ) (w : X9520 × Told (List ℕ)) (begun : Begun s l x w) where
  over_stored : x9520.cell (over x9520 w.0) 0 259 ≡ x
  over_stored = over_cell as_part moves w.0 259 ∙ ap (λ u. unwrap_or u (byte_at w.0.eeprom 259)) (begun.under_way 259)

  over_others : (i : ℕ) → i ≢ 259 → x9520.cell (over x9520 w.0) 0 i ≡ x9520.cell s 0 i
  over_others i other =
      over_cell as_part moves w.0 i
      ∙ ap (λ u. unwrap_or u (byte_at w.0.eeprom i)) (begun.under_way i ∙ ap (λ here. cond here (Some x) None) (ne_eqb i 259 other))
      ∙ begun.took.cells i

  over_wipers : (j : ℕ) → x9520.tap (over x9520 w.0) 0 j ≡ x9520.tap s 0 j
  over_wipers j = over_rest as_part w.0 (λ t. x9520.tap t 0 j) (λ e. refl) ∙ begun.took.wipers j

  over_wel : (over x9520 w.0).latches.wel ≡ true
  over_wel = over_rest as_part w.0 (λ t. t.latches.wel) (λ e. refl) ∙ begun.took.wel_is

  over_shows : (rl : Levels) → Shows x (l.v2ro && rl.v2ro) (l.v3ro && rl.v3ro) (register_byte (reading_register rl (over x9520 w.0)) % 256)
  over_shows rl =
      let a : Bool = bit 64 x in
      let b : Bool = bit 32 x in
      let flags_are = over_rest as_part w.0 (λ s. s.flags) (λ e. refl) ∙ begun.flags_are in
      let rwel = over_rest as_part w.0 (λ s. s.latches.rwel) (λ e. refl) ∙ begun.rwel_is in
      subst (λ v. Shows x (l.v2ro && rl.v2ro) (l.v3ro && rl.v3ro) (v % 256)) (sym (shown_is rl (over x9520 w.0) x (a && l.v2ro) (b && l.v3ro) over_stored flags_are over_wel rwel))
      (shows x ((a && l.v2ro) && rl.v2ro) ((b && l.v3ro) && rl.v3ro) (l.v2ro && rl.v2ro) (l.v3ro && rl.v3ro) (and_assoc a l.v2ro rl.v2ro) (and_assoc b l.v3ro rl.v3ro))

-- Three jobs write 02h, 06h and x.
module _ (l0 l1 l : Levels) (x : ℕ) (s0 : X9520) where
  abbrev first_job : X9520 × Told (List ℕ)
  first_job = register_job l0 2 s0

  abbrev second_job : X9520 × Told (List ℕ)
  second_job = register_job l1 6 first_job.0

  abbrev third_job : X9520 × Told (List ℕ)
  third_job = register_job l x second_job.0

  -- WP is LOW, and x has bit 2 clear and bit 1 set
  module _ (low0 : l0.wp ≡ false) (low1 : l1.wp ≡ false) (low : l.wp ≡ false) (clear : bit 4 x ≡ false) (set : bit 2 x ≡ true) where
    three_jobs : is_busy s0.eeprom ≡ false → s0.latches.rwel ≡ false → Enabled s0 false first_job × (Enabled first_job.0 true second_job × Begun second_job.0 l x third_job)
    three_jobs free rwel =
        let s1 = first_job.0 in
        let s2 = second_job.0 in
        let p = enabled_if l0 s0 low0 rwel free in
        let q = enabling l1 6 s1 low1 p.free true (arms s1.latches (stored_register s1) p.took.wel_is p.rwel_is) p.took.wel_is p.took.wel_is in
        let judged = byte_stored s2.latches (stored_register s2) (eqb x 0) x refl q.rwel_is clear set in
        (p, (q, beginning l x s2 low q.free judged q.took.wel_is))

    pub register_accepts : x9520.busy s0 0 ≡ false → s0.latches.rwel ≡ false → (first_job.1 ≡ ok []) × ((second_job.1 ≡ ok []) × (third_job.1 ≡ ok []))
    register_accepts free rwel = let jobs = three_jobs free rwel in (jobs.0.took.accepted, (jobs.1.0.took.accepted, jobs.1.1.took.accepted))

    -- where the first two are accepted, the chip was as the third needs it
    module _ (accepted0 : first_job.1 ≡ ok []) (accepted1 : second_job.1 ≡ ok []) where
      jobs : Enabled s0 false first_job × (Enabled first_job.0 true second_job × Begun second_job.0 l x third_job)
      jobs =
          let free = free_if_accepted as_part moves l0 82 (255 ∷ (2 ∷ [])) s0 accepted0 in
          three_jobs free (disarmed_by l0 l1 s0 low0 free s0.latches.rwel refl accepted1)

      begun : Begun second_job.0 l x third_job
      begun = jobs.1.1

      pub register_cell : x9520.cell (over x9520 third_job.0) 0 259 ≡ x
      register_cell = over_stored second_job.0 l x third_job begun

      -- no other cell changes, and no wiper moves
      pub register_others : (i : ℕ) → i ≢ 259 → x9520.cell (over x9520 third_job.0) 0 i ≡ x9520.cell s0 0 i
      register_others i other = over_others second_job.0 l x third_job begun i other ∙ jobs.1.0.took.cells i ∙ jobs.0.took.cells i

      pub register_wipers : (j : ℕ) → x9520.tap (over x9520 third_job.0) 0 j ≡ x9520.tap s0 0 j
      register_wipers j = over_wipers second_job.0 l x third_job begun j ∙ jobs.1.0.took.wipers j ∙ jobs.0.took.wipers j

      pub register_wel : (over x9520 third_job.0).latches.wel ≡ true
      register_wel = over_wel second_job.0 l x third_job begun

      pub register_reads : (rl : Levels) (aim : List ℕ) (n : ℕ) → (aim ≡ []) ⊎ (aim ≡ 255 ∷ []) →
          Reads x9520 rl 82 aim n (over x9520 third_job.0) (λ j v. Shows x (l.v2ro && rl.v2ro) (l.v3ro && rl.v3ro) v)
      register_reads rl aim n aims =
          let d = over x9520 third_job.0 in
          reads_same x9520 rl 165 (reading_register rl d) refl (Shows x (l.v2ro && rl.v2ro) (l.v3ro && rl.v3ro))
          (read_is rl d aim n aims (over_ready as_part moves third_job.0)) (over_shows second_job.0 l x third_job begun rl)
