-- What a byte that is written does to the cells, the wipers and the address heard. Assumes nothing.
use Rattle.std.specs.Prelude.{◌≡◌, ℕ, ◌+◌, ◌/◌, ◌%◌, Bool, true, false, cond, not, ◌&&◌, ◌||◌, ◌⊎◌, List, Some, None, Option, ◌==◌, refl}
use Rattle.std.proofs.Common.{ap, sym, ◌∙◌, subst, inl, arith}
use borrow.Author.Tests.{clash}
use Rattle.std.proofs.lemmas.Bool.{eqb-true, eqb-false}
use Rattle.part.specs.Ops.{is}
use Rattle.eeprom.specs.declared.Eeprom.{Eeprom}
use Rattle.eeprom.specs.Cells.{staged_at}
use Rattle.eeprom.specs.OnePart.{of_part}
use Rattle.eeprom.proofs.Moves.{unstages_staged}
use Rattle.eeprom.proofs.Numbered.{staged_by}
use Rattle.eeprom.proofs.OnePart.{Rests, rests, unstages_rests, stages_rests}
use Rattle.dcp.specs.declared.dcp.Dcp.{Dcp}
use Rattle.protection.specs.declared.latches.Latches.{Latches}
use Rattle.x9520.specs.declared.state.Device.{Device}
use Rattle.x9520.specs.declared.state.Device.TheVariants.{Memory, Register, Dcps}
use Rattle.x9520.specs.declared.state.Mode.{Mode}
use Rattle.x9520.specs.declared.state.Mode.TheVariants.{Idle, Aiming, MemoryBytes, DcpByte, RegisterByte, Moved, Latching, Storing, Reading}
use Rattle.x9520.specs.declared.state.X9520.{X9520}
use Rattle.protection.specs.Lock.{locks_memory, locks_wipers, wp_forbids}
use Rattle.x9520.specs.Register.{bit, stored_register}
use Rattle.x9520.specs.State.{known, device, write_byte, heard_in}
use Rattle.x9520.specs.Writing.{rejected, names, opens, aim_for, aim_in, aim_of, aim_mode, Verdict, refused, barred, pages, moves, latches, stores, memory_verdict, dcp_verdict, armed_verdict, register_verdict, verdict_in, verdict, acks, cells_taken, dcps_taken, mode_taken}

-- what holds of both ways holds of a choice
either : {V : Type 0} (P : V → Type 0) (b : Bool) (u v : V) → P u → P v → P (cond b u v)
either P true u v p q = p
either P false u v p q = q

-- the lasting cells, and the writes under way
pub taken_rests : (v : Verdict) (e : Eeprom 260) (n m x : ℕ) → Rests e (cells_taken v e n m x)
taken_rests refused e n m x = unstages_rests e
taken_rests barred e n m x = unstages_rests e
taken_rests pages e n m x = stages_rests e n x
taken_rests (moves true) e n m x = stages_rests e (256 + m) x
taken_rests (moves false) e n m x = rests e
taken_rests latches e n m x = rests e
taken_rests stores e n m x = stages_rests e 259 x

pub taken_none : (v : Verdict) (e : Eeprom 260) (n m x i : ℕ) → acks v ≡ false → staged_at (cells_taken v e n m x) i ≡ None
taken_none refused e n m x i h = unstages_staged e i
taken_none barred e n m x i h = unstages_staged e i
taken_none pages e n m x i h = absurd (clash (sym h))
taken_none (moves store) e n m x i h = absurd (clash (sym h))
taken_none latches e n m x i h = absurd (clash (sym h))
taken_none stores e n m x i h = absurd (clash (sym h))

-- the one cell that a byte may be staged for
abbrev pub target : Verdict → ℕ → ℕ → ℕ
target refused n m = 0
target barred n m = 0
target pages n m = n
target (moves store) n m = 256 + m
target latches n m = 0
target stores n m = 259

pub taken_staged : (v : Verdict) (e : Eeprom 260) (n m x k i : ℕ) (o : Option ℕ) → o ≡ Some 0 → acks v ≡ true
    → (of_part k (staged_at (cells_taken v e n m x) i) None ≡ of_part k (staged_at e i) None)
    ⊎ ((of_part k (staged_at (cells_taken v e n m x) i) None ≡ None)
    ⊎ ((i ≡ target v n m) × (o ≡ Some k) × (of_part k (staged_at (cells_taken v e n m x) i) None ≡ Some x)))
taken_staged refused e n m x k i o h a = absurd (clash a)
taken_staged barred e n m x k i o h a = absurd (clash a)
taken_staged pages e n m x k i o h a = staged_by e n x k i o h
taken_staged (moves true) e n m x k i o h a = staged_by e (256 + m) x k i o h
taken_staged (moves false) e n m x k i o h a = inl refl
taken_staged latches e n m x k i o h a = inl refl
taken_staged stores e n m x k i o h a = staged_by e 259 x k i o h

-- without an ACK no wiper moves
pub taken_dcps : (v : Verdict) (d : List Dcp) (m x : ℕ) → acks v ≡ false → dcps_taken v d m x ≡ d
taken_dcps refused d m x h = refl
taken_dcps barred d m x h = refl
taken_dcps pages d m x h = refl
taken_dcps (moves store) d m x h = absurd (clash (sym h))
taken_dcps latches d m x h = refl
taken_dcps stores d m x h = refl

-- after a data byte only what the transfer heard is heard
record HearsOnly (a x : ℕ) (v : Verdict) : Type 0 where
  only : (y : ℕ) → is y (heard_in (mode_taken v x)) ≡ true → is y (Some a) ≡ true

silent : (a x : ℕ) → HearsOnly a x refused
silent a x = record { only = λ y h. absurd (clash h) }

keeps : (a x : ℕ) (v : Verdict) → heard_in (mode_taken v x) ≡ Some a → HearsOnly a x v
keeps a x v e = record { only = λ y h. ap (is y) (sym e) ∙ h }

memory_hears : (l : Latches) (r n : ℕ) (wp : Bool) (x : ℕ) → HearsOnly 160 x (memory_verdict l r n wp)
memory_hears l r n wp x =
    either (HearsOnly 160 x) (not l.wel) _ _ (silent 160 x) (
    either (HearsOnly 160 x) (wp_forbids true wp r) _ _ (silent 160 x) (
    either (HearsOnly 160 x) (locks_memory r n) barred pages (record { only = λ y h. absurd (clash h) }) (keeps 160 x pages refl)))

dcp_hears : (l : Latches) (r : ℕ) (store wp : Bool) (x : ℕ) → HearsOnly 174 x (dcp_verdict l r store wp)
dcp_hears l r store wp x =
    either (HearsOnly 174 x) (not l.wel) _ _ (silent 174 x) (
    either (HearsOnly 174 x) (wp_forbids store wp r) _ _ (silent 174 x) (
    either (HearsOnly 174 x) (locks_wipers r) _ _ (silent 174 x) (keeps 174 x (moves store) refl)))

armed_hears : (r : ℕ) (wp : Bool) (x : ℕ) → HearsOnly 164 x (armed_verdict r wp x)
armed_hears r wp x =
    either (HearsOnly 164 x) (bit 2 x) _ _ (
    either (HearsOnly 164 x) (bit 4 x) _ _ (keeps 164 x latches refl) (
    either (HearsOnly 164 x) (wp_forbids true wp r) _ _ (silent 164 x) (keeps 164 x stores refl))) (silent 164 x)

register_hears : (l : Latches) (r : ℕ) (wp : Bool) (x : ℕ) → HearsOnly 164 x (register_verdict l r wp x)
register_hears l r wp x =
    either (HearsOnly 164 x) (wp_forbids false wp r) _ _ (silent 164 x) (
    either (HearsOnly 164 x) (x == 0) _ _ (keeps 164 x latches refl) (
    either (HearsOnly 164 x) l.rwel _ _ (armed_hears r wp x) (
    either (HearsOnly 164 x) (x == 2 || (x == 6 && l.wel)) _ _ (keeps 164 x latches refl) (silent 164 x))))

hears_in : (w : Mode) (l : Latches) (r n : ℕ) (wp : Bool) (x y : ℕ) → is y (heard_in (mode_taken (verdict_in w l r n wp x) x)) ≡ true → is y (heard_in w) ≡ true
hears_in Idle l r n wp x y h = h
hears_in (Aiming d) l r n wp x y h = absurd (clash h)
hears_in MemoryBytes l r n wp x y h = (memory_hears l r n wp x).only y h
hears_in (DcpByte store) l r n wp x y h = (dcp_hears l r store wp x).only y h
hears_in RegisterByte l r n wp x y h = (register_hears l r wp x).only y h
hears_in Moved l r n wp x y h = absurd (clash h)
hears_in (Latching z) l r n wp x y h = absurd (clash h)
hears_in (Storing z) l r n wp x y h = absurd (clash h)
hears_in (Reading d) l r n wp x y h = absurd (clash h)

pub taken_heard : (s : X9520) (a : ℕ) (wp : Bool) (x y : ℕ) → is y (heard_in (mode_taken (verdict s a wp x) x)) ≡ true → is y (heard_in s.mode) ≡ true
taken_heard s a wp x y =
    either (λ v. is y (heard_in (mode_taken v x)) ≡ true → is y (heard_in s.mode) ≡ true) (is a (heard_in s.mode)) _ refused
    (hears_in s.mode s.latches (stored_register s) s.counter wp x y) (λ h. absurd (clash h))

-- and so after a first byte
aimed_for : (d : Device) (x y : ℕ) → is y (heard_in (aim_mode (aim_for d x))) ≡ true → is y (Some (write_byte d)) ≡ true
aimed_for Memory x y h = h
aimed_for Register x y h = either (λ v. is y (heard_in (aim_mode v)) ≡ true → is y (Some 164) ≡ true) (x == 255) opens rejected (λ g. g) (λ g. absurd (clash g)) h
aimed_for Dcps x y h = either (λ v. is y (heard_in (aim_mode v)) ≡ true → is y (Some 174) ≡ true) _ (names _ _) rejected (λ g. g) (λ g. absurd (clash g)) h

aimed_in : (m : Mode) (x y : ℕ) → is y (heard_in (aim_mode (aim_in m x))) ≡ true → is y (heard_in m) ≡ true
aimed_in Idle x y h = h
aimed_in (Aiming d) x y h = aimed_for d x y h
aimed_in MemoryBytes x y h = absurd (clash h)
aimed_in (DcpByte store) x y h = absurd (clash h)
aimed_in RegisterByte x y h = absurd (clash h)
aimed_in Moved x y h = absurd (clash h)
aimed_in (Latching z) x y h = absurd (clash h)
aimed_in (Storing z) x y h = absurd (clash h)
aimed_in (Reading d) x y h = absurd (clash h)

pub aimed_heard : (s : X9520) (a x y : ℕ) → is y (heard_in (aim_mode (aim_of s a x))) ≡ true → is y (heard_in s.mode) ≡ true
aimed_heard s a x y =
    either (λ v. is y (heard_in (aim_mode v)) ≡ true → is y (heard_in s.mode) ≡ true) (is a (heard_in s.mode)) _ rejected
    (aimed_in s.mode x y) (λ h. absurd (clash h))

-- the address byte heard is for one of the chip's addresses
for_known : (n a : ℕ) → known (n / 2) ≡ true → (n == a) ≡ true → known (a / 2) ≡ true
for_known n a h e = subst (λ b. known (b / 2) ≡ true) (eqb-true n a e) h

write_known : (d : Device) (a : ℕ) → (write_byte d == a) ≡ true → known (a / 2) ≡ true
write_known Memory a h = for_known 160 a refl h
write_known Register a h = for_known 164 a refl h
write_known Dcps a h = for_known 174 a refl h

read_known : (d : Device) (a : ℕ) → (write_byte d + 1 == a) ≡ true → known (a / 2) ≡ true
read_known Memory a h = for_known 161 a refl h
read_known Register a h = for_known 165 a refl h
read_known Dcps a h = for_known 175 a refl h

pub heard_known : (m : Mode) (a : ℕ) → is a (heard_in m) ≡ true → known (a / 2) ≡ true
heard_known Idle a h = absurd (clash h)
heard_known (Aiming d) a h = write_known d a h
heard_known MemoryBytes a h = for_known 160 a refl h
heard_known (DcpByte store) a h = for_known 174 a refl h
heard_known RegisterByte a h = for_known 164 a refl h
heard_known Moved a h = for_known 174 a refl h
heard_known (Latching z) a h = for_known 164 a refl h
heard_known (Storing z) a h = for_known 164 a refl h
heard_known (Reading d) a h = read_known d a h

acked_by : (b : Bool) (v : Verdict) → acks (cond b v refused) ≡ true → b ≡ true
acked_by true v h = refl
acked_by false v h = absurd (clash h)

pub acked_heard : (s : X9520) (a : ℕ) (wp : Bool) (x : ℕ) → acks (verdict s a wp x) ≡ true → is a (heard_in s.mode) ≡ true
acked_heard s a wp x h = acked_by (is a (heard_in s.mode)) (verdict_in s.mode s.latches (stored_register s) s.counter wp x) h

pub acked_known : (s : X9520) (a : ℕ) (wp : Bool) (x : ℕ) → acks (verdict s a wp x) ≡ true → known (a / 2) ≡ true
acked_known s a wp x h = heard_known s.mode a (acked_heard s a wp x h)

-- an address byte is the one of its device, for writing or for reading
of_device : (b c : Bool) (n : ℕ) → (n == 80) ≡ b → (n == 82) ≡ c → known n ≡ true → write_byte (cond b Memory (cond c Register Dcps)) ≡ n + n
of_device true c n e f h = let z = eqb-true n 80 e in omega arith
of_device false true n e f h = let z = eqb-true n 82 f in omega arith
of_device false false n e f h = let z = eqb-true n 87 (rw (e, f) at h) in omega arith

pub mode_heard : (odd : Bool) (x : ℕ) → (x % 2 == 1) ≡ odd → known (x / 2) ≡ true → heard_in (cond odd (Reading (device (x / 2))) (Aiming (device (x / 2)))) ≡ Some x
mode_heard true x e h =
    let p = eqb-true (x % 2) 1 e in
    let q : write_byte (device (x / 2)) ≡ x / 2 + x / 2 = of_device (x / 2 == 80) (x / 2 == 82) (x / 2) refl refl h in
    let z : write_byte (device (x / 2)) + 1 ≡ x = omega arith in
    ap Some z
mode_heard false x e h =
    let p = eqb-false (x % 2) 1 e in
    let q : write_byte (device (x / 2)) ≡ x / 2 + x / 2 = of_device (x / 2 == 80) (x / 2 == 82) (x / 2) refl refl h in
    let z : write_byte (device (x / 2)) ≡ x = omega arith in
    ap Some z
