-- With RWEL set, a byte that waits to change the latches is 00h, or has bits 2 and 1 set and changes nothing. Assumes nothing.
use Rattle.std.proofs.Common.{◌≡◌, ℕ, ◌/◌, ◌%◌, Bool, true, false, not, eqb, ◌⊎◌, sym, refl, ap, ◌∙◌, inl, inr, arith, lit<}
use borrow.Author.Tests.{clash}
use Rattle.std.proofs.lemmas.Bool.{cond_both, eqb-true}
use Rattle.part.specs.Ops.{is}
use Rattle.part.specs.Moves.{Move, starting, addressing, aiming, taking, giving, levelling, stopping, finishing, cutting, renewing, moved}
use Rattle.protection.specs.declared.latches.Latches.{Latches}
use Rattle.protection.specs.Lock.{wp_forbids, locks_memory, locks_wipers}
use Rattle.x9520.specs.declared.state.Mode.{Mode}
use Rattle.x9520.specs.declared.state.Mode.TheVariants.{Idle, Aiming, MemoryBytes, DcpByte, RegisterByte, Moved, Latching, Storing, Reading}
use Rattle.x9520.specs.declared.state.X9520.{X9520}
use Rattle.x9520.specs.Chip.{x9520, hears, latches_stopped}
use Rattle.x9520.specs.Register.{bit, stored_register}
use Rattle.x9520.specs.State.{fresh, heard_in, mode_after, device}
use Rattle.x9520.specs.Writing.{aim_of, Verdict, refused, barred, pages, moves, latches, stores, memory_verdict, dcp_verdict, armed_verdict, register_verdict, verdict_in, verdict, mode_taken}
use Rattle.x9520.proofs.Lock.{mode_tag, other_mode, heard_tag, aimed_tag, byte_held}
use Rattle.x9520.proofs.Calm.{taken_rwel}

-- a byte with bits 2 and 1 set
abbrev pub Idles : ℕ → Type 0
Idles x = (bit 2 x ≡ true) × (bit 4 x ≡ true)

abbrev pub Waiting : X9520 → Type 0
Waiting s = (v : ℕ) → s.mode ≡ Latching v → s.latches.rwel ≡ true → (v ≡ 0) ⊎ Idles v

-- a data byte, by what it was judged to do
abbrev Judged : Latches → ℕ → Verdict → Type 0
Judged l x refused = Unit {0}
Judged l x barred = Unit {0}
Judged l x pages = Unit {0}
Judged l x (moves store) = Unit {0}
Judged l x latches = l.rwel ≡ true → (x ≡ 0) ⊎ Idles x
Judged l x stores = Unit {0}

judged_memory : (l : Latches) (r n : ℕ) (wp : Bool) (x : ℕ) → Judged l x (memory_verdict l r n wp)
judged_memory l r n wp x =
    let P = Judged l x in
    cond_both (not l.wel) refused _ P (λ e. tt) (λ e. cond_both (wp_forbids true wp r) refused _ P (λ f. tt) (λ f. cond_both (locks_memory r n) barred pages P (λ g. tt) (λ g. tt)))

judged_dcp : (l : Latches) (r : ℕ) (store wp : Bool) (x : ℕ) → Judged l x (dcp_verdict l r store wp)
judged_dcp l r store wp x =
    let P = Judged l x in
    cond_both (not l.wel) refused _ P (λ e. tt) (λ e. cond_both (wp_forbids store wp r) refused _ P (λ f. tt) (λ f. cond_both (locks_wipers r) refused (moves store) P (λ g. tt) (λ g. tt)))

judged_armed : (l : Latches) (r : ℕ) (wp : Bool) (x : ℕ) → Judged l x (armed_verdict r wp x)
judged_armed l r wp x =
    let P = Judged l x in
    cond_both (bit 2 x) _ refused P (λ e. cond_both (bit 4 x) latches _ P (λ f g. inr (e, f)) (λ f. cond_both (wp_forbids true wp r) refused stores P (λ g. tt) (λ g. tt))) (λ e. tt)

judged_register : (l : Latches) (r : ℕ) (wp : Bool) (x : ℕ) → Judged l x (register_verdict l r wp x)
judged_register l r wp x =
    let P = Judged l x in
    cond_both (wp_forbids false wp r) refused _ P (λ e. tt) (λ e.
    cond_both (eqb x 0) latches _ P (λ f g. inl (eqb-true x 0 f)) (λ f.
    cond_both l.rwel (armed_verdict r wp x) _ P (λ g. judged_armed l r wp x) (λ g.
    cond_both _ latches refused P (λ k h. absurd (clash (sym g ∙ h))) (λ k. tt))))

judged_in : (m : Mode) (l : Latches) (r n : ℕ) (wp : Bool) (x : ℕ) → Judged l x (verdict_in m l r n wp x)
judged_in Idle l r n wp x = tt
judged_in (Aiming d) l r n wp x = tt
judged_in MemoryBytes l r n wp x = judged_memory l r n wp x
judged_in (DcpByte store) l r n wp x = judged_dcp l r store wp x
judged_in RegisterByte l r n wp x = judged_register l r wp x
judged_in Moved l r n wp x = tt
judged_in (Latching y) l r n wp x = tt
judged_in (Storing y) l r n wp x = tt
judged_in (Reading d) l r n wp x = tt

judged : (s : X9520) (a : ℕ) (wp : Bool) (x : ℕ) → Judged s.latches x (verdict s a wp x)
judged s a wp x =
    cond_both (is a (heard_in s.mode)) (verdict_in s.mode s.latches (stored_register s) s.counter wp x) refused (Judged s.latches x)
    (λ e. judged_in s.mode s.latches (stored_register s) s.counter wp x) (λ e. tt)

take_waits : (w : Verdict) (l : Latches) (x v : ℕ) → Judged l x w → mode_taken w x ≡ Latching v → (l.rwel ≡ true) → (v ≡ 0) ⊎ Idles v
take_waits refused l x v j e h = other_mode Idle (Latching v) e (λ z. omega arith)
take_waits barred l x v j e h = other_mode Idle (Latching v) e (λ z. omega arith)
take_waits pages l x v j e h = other_mode MemoryBytes (Latching v) e (λ z. omega arith)
take_waits (moves store) l x v j e h = other_mode Moved (Latching v) e (λ z. omega arith)
take_waits latches l x v j e h = rw (sym (ap byte_held e)) (j h)
take_waits stores l x v j e h = other_mode (Storing x) (Latching v) e (λ z. omega arith)

-- an address byte leaves none waiting
addressed_tag : (b : Bool) (x : ℕ) → mode_tag (mode_after b x) ≡ 6 → ⊥
addressed_tag true x e = heard_tag (eqb (x % 2) 1) (device (x / 2)) 6 (lit< tt) (lit< tt) e
addressed_tag false x e = omega (arith, e)

pub waiting_step : (s : X9520) (m : Move) → Waiting s → Waiting (moved x9520 s m)
waiting_step s starting h v e r = other_mode Idle (Latching v) e (λ z. omega arith)
waiting_step s (addressing x) h v e r = other_mode _ (Latching v) e (addressed_tag (hears s x) x)
waiting_step s (aiming a l x) h v e r = other_mode _ (Latching v) e (aimed_tag (aim_of s a x) 6 (lit< tt))
waiting_step s (taking a l x) h v e r = take_waits (verdict s a l.wp x) s.latches x v (judged s a l.wp x) e (taken_rwel (verdict s a l.wp x) s.latches r)
waiting_step s (giving a) h v e r = h v e r
waiting_step s (levelling l) h v e r = h v e r
waiting_step s (stopping clean l) h v e r = other_mode Idle (Latching v) e (λ z. omega arith)
waiting_step s (finishing k) h v e r = h v e r
waiting_step s (cutting p) h v e r = other_mode Idle (Latching v) e (λ z. omega arith)
waiting_step s renewing h v e r = other_mode Idle (Latching v) e (λ z. omega arith)

pub waiting_fresh : Waiting fresh
waiting_fresh v e r = other_mode Idle (Latching v) e (λ z. omega arith)

-- the STOP that begins a register cycle clears RWEL
pub storing_disarms : (m : Mode) (v : ℕ) (c wp : Bool) (r : ℕ) (l : Latches) → m ≡ Storing v → c ≡ true → wp ≡ false → (latches_stopped m c wp r l).rwel ≡ false
storing_disarms m v c wp r l e f g = rw (e, f, g) refl
