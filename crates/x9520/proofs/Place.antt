-- How far a register write has come: by the chip's mode, and by the bytes of the transfer. With each ACK the two agree. Assumes nothing.
use Rattle.std.proofs.Common.{◌≡◌, ℕ, ◌/◌, ◌%◌, Bool, true, false, cond, ◌&&◌, eqb, ltb, leb, ◌⊎◌, List, [], ◌∷◌, sym, refl, ap, ◌∙◌, inl, inr, arith}
use borrow.Author.Tests.{clash}
use Rattle.std.proofs.lemmas.Bool.{eqb-true, eqb-false, eq-eqb, ne_eqb}
use Rattle.part.specs.declared.levels.Levels.{Levels}
use Rattle.part.specs.Ops.{is}
use Rattle.protection.specs.declared.latches.Latches.{Latches}
use Rattle.x9520.specs.declared.state.Device.TheVariants.{Memory, Register, Dcps}
use Rattle.x9520.specs.declared.state.Mode.{Mode}
use Rattle.x9520.specs.declared.state.Mode.TheVariants.{Idle, Aiming, MemoryBytes, DcpByte, RegisterByte, Moved, Latching, Storing, Reading}
use Rattle.x9520.specs.declared.state.X9520.{X9520}
use Rattle.x9520.specs.Chip.{x9520, hears}
use Rattle.x9520.specs.Register.{stored_register}
use Rattle.x9520.specs.State.{device, heard_in, mode_after}
use Rattle.x9520.specs.Writing.{Aim, rejected, at_cell, names, opens, aim_in, aim_of, aim_acks, aim_mode, Verdict, refused, barred, pages, moves, latches, stores, verdict_in, verdict, acks, mode_taken}
use Rattle.x9520.proofs.Lock.{Judged, judged}

pub data Place : Type 0 where
  outside : Place
  aimed : Place
  opened : Place
  holding : (byte : ℕ) → Place

abbrev pub where_is : Mode → Place
where_is Idle = outside
where_is (Aiming Memory) = outside
where_is (Aiming Register) = aimed
where_is (Aiming Dcps) = outside
where_is MemoryBytes = outside
where_is (DcpByte store) = outside
where_is RegisterByte = opened
where_is Moved = outside
where_is (Latching x) = holding x
where_is (Storing x) = holding x
where_is (Reading d) = outside

-- the register's address byte for writing is 164, and its first byte 255; the newest byte comes first
abbrev pub place : List ℕ → Place
place [] = outside
place (a ∷ []) = cond (eqb a 164) aimed outside
place (x ∷ (a ∷ [])) = cond (eqb a 164 && eqb x 255) opened outside
place (v ∷ (x ∷ (a ∷ []))) = cond (eqb a 164 && eqb x 255) (holding v) outside
place (v ∷ (x ∷ (y ∷ (a ∷ bs)))) = outside

abbrev tag : Place → ℕ
tag outside = 0
tag aimed = 1
tag opened = 2
tag (holding v) = 3

abbrev pub held_byte : Place → ℕ
held_byte outside = 0
held_byte aimed = 0
held_byte opened = 0
held_byte (holding v) = v

-- places with other tags are not one
pub apart : {X : Type 0} (p q : Place) → p ≡ q → (tag p ≡ tag q → ⊥) → X
apart p q e n = absurd (n (ap tag e))

-- the chip holds a byte for the STOP only in two modes
pub is_holding : (m : Mode) (v : ℕ) → where_is m ≡ holding v → (m ≡ Latching v) ⊎ (m ≡ Storing v)
is_holding Idle v e = apart outside (holding v) e (λ z. omega arith)
is_holding (Aiming Memory) v e = apart outside (holding v) e (λ z. omega arith)
is_holding (Aiming Register) v e = apart aimed (holding v) e (λ z. omega arith)
is_holding (Aiming Dcps) v e = apart outside (holding v) e (λ z. omega arith)
is_holding MemoryBytes v e = apart outside (holding v) e (λ z. omega arith)
is_holding (DcpByte store) v e = apart outside (holding v) e (λ z. omega arith)
is_holding RegisterByte v e = apart opened (holding v) e (λ z. omega arith)
is_holding Moved v e = apart outside (holding v) e (λ z. omega arith)
is_holding (Latching x) v e = inl (ap Latching (ap held_byte e))
is_holding (Storing x) v e = inr (ap Storing (ap held_byte e))
is_holding (Reading d) v e = apart outside (holding v) e (λ z. omega arith)

-- and only three bytes are such a transfer
one_byte : {X : Type 0} (t : Bool) (v : ℕ) → cond t aimed outside ≡ holding v → X
one_byte true v e = apart aimed (holding v) e (λ z. omega arith)
one_byte false v e = apart outside (holding v) e (λ z. omega arith)

two_bytes : {X : Type 0} (t : Bool) (v : ℕ) → cond t opened outside ≡ holding v → X
two_bytes true v e = apart opened (holding v) e (λ z. omega arith)
two_bytes false v e = apart outside (holding v) e (λ z. omega arith)

three_bytes : (t u : Bool) (w x a v : ℕ) → eqb a 164 ≡ t → eqb x 255 ≡ u → cond (t && u) (holding w) outside ≡ holding v → (w ∷ (x ∷ (a ∷ []))) ≡ (v ∷ (255 ∷ (164 ∷ [])))
three_bytes true true w x a v f g e = ap (λ b. b ∷ (x ∷ (a ∷ []))) (ap held_byte e) ∙ ap (λ b. v ∷ (b ∷ (a ∷ []))) (eqb-true x 255 g) ∙ ap (λ b. v ∷ (255 ∷ (b ∷ []))) (eqb-true a 164 f)
three_bytes true false w x a v f g e = apart outside (holding v) e (λ z. omega arith)
three_bytes false u w x a v f g e = apart outside (holding v) e (λ z. omega arith)

pub bytes_held : (bs : List ℕ) (v : ℕ) → place bs ≡ holding v → bs ≡ (v ∷ (255 ∷ (164 ∷ [])))
bytes_held [] v e = apart outside (holding v) e (λ z. omega arith)
bytes_held (a ∷ []) v e = one_byte (eqb a 164) v e
bytes_held (x ∷ (a ∷ [])) v e = two_bytes (eqb a 164 && eqb x 255) v e
bytes_held (w ∷ (x ∷ (a ∷ []))) v e = three_bytes (eqb a 164) (eqb x 255) w x a v refl refl e
bytes_held (w ∷ (x ∷ (y ∷ (a ∷ bs)))) v e = apart outside (holding v) e (λ z. omega arith)

-- an address byte
even_place : (b c : Bool) (x : ℕ) → (x % 2 ≡ 1 → ⊥) → eqb (x / 2) 80 ≡ b → eqb (x / 2) 82 ≡ c → where_is (Aiming (cond b Memory (cond c Register Dcps))) ≡ place (x ∷ [])
even_place true c x n e f = let z = eqb-true (x / 2) 80 e in sym (ap (λ t. cond t aimed outside) (ne_eqb x 164 (λ y. omega arith)))
even_place false true x n e f = let z = eqb-true (x / 2) 82 f in sym (ap (λ t. cond t aimed outside) (eq-eqb x 164 (omega arith)))
even_place false false x n e f = sym (ap (λ t. cond t aimed outside) (ne_eqb x 164 (λ y. eqb-false (x / 2) 82 f (omega arith))))

write_place : (odd : Bool) (x : ℕ) → eqb (x % 2) 1 ≡ odd → x % 2 ≡ 0 → where_is (cond odd (Reading (device (x / 2))) (Aiming (device (x / 2)))) ≡ place (x ∷ [])
write_place true x e f = let z = eqb-true (x % 2) 1 e in absurd (omega arith)
write_place false x e f = even_place (eqb (x / 2) 80) (eqb (x / 2) 82) x (eqb-false (x % 2) 1 e) refl refl

write_by : (t : Bool) (x : ℕ) → t ≡ true → x % 2 ≡ 0 → where_is (mode_after t x) ≡ place (x ∷ [])
write_by true x h e = write_place (eqb (x % 2) 1) x refl e
write_by false x h e = absurd (clash h)

read_place : (odd : Bool) (x : ℕ) → eqb (x % 2) 1 ≡ odd → x % 2 ≡ 1 → where_is (cond odd (Reading (device (x / 2))) (Aiming (device (x / 2)))) ≡ outside
read_place true x e f = refl
read_place false x e f = absurd (eqb-false (x % 2) 1 e f)

read_by : (t : Bool) (x : ℕ) → x % 2 ≡ 1 → where_is (mode_after t x) ≡ outside
read_by true x e = read_place (eqb (x % 2) 1) x refl e
read_by false x e = refl

odd_out : (t : Bool) (x : ℕ) → eqb x 164 ≡ t → x % 2 ≡ 1 → outside ≡ cond t aimed outside
odd_out true x h e = let z = eqb-true x 164 h in absurd (omega arith)
odd_out false x h e = refl

heard_place : (odd : Bool) (s : X9520) (x : ℕ) → eqb (x % 2) 1 ≡ odd → x9520.hears s x ≡ true → where_is (x9520.address s x).mode ≡ place (x ∷ [])
heard_place true s x e h = let z = eqb-true (x % 2) 1 e in read_by (hears s x) x z ∙ odd_out (eqb x 164) x refl z
heard_place false s x e h = let z : x % 2 ≡ 1 → ⊥ = eqb-false (x % 2) 1 e in write_by (hears s x) x h (omega arith)

-- any address byte heard
pub address_place : (s : X9520) (x : ℕ) → x9520.hears s x ≡ true → where_is (x9520.address s x).mode ≡ place (x ∷ [])
address_place s x h = heard_place (eqb (x % 2) 1) s x refl h

pub read_address : (s : X9520) (x : ℕ) → x % 2 ≡ 1 → where_is (x9520.address s x).mode ≡ outside
read_address s x e = read_by (hears s x) x e

-- one byte more, where the bytes before are no register write, or one that waits for its first byte, or for its data byte
out_one : (t u : Bool) → cond t aimed outside ≡ outside → cond (t && u) opened outside ≡ outside
out_one true u e = apart aimed outside e (λ z. omega arith)
out_one false u e = refl

out_two : (t : Bool) (v : ℕ) → cond t opened outside ≡ outside → cond t (holding v) outside ≡ outside
out_two true v e = apart opened outside e (λ z. omega arith)
out_two false v e = refl

out_more : (x b : ℕ) (bs : List ℕ) → place (b ∷ bs) ≡ outside → place (x ∷ (b ∷ bs)) ≡ outside
out_more x b [] e = out_one (eqb b 164) (eqb x 255) e
out_more x b (a ∷ []) e = out_two (eqb a 164 && eqb b 255) x e
out_more x b (a ∷ (c ∷ bs)) e = refl

aimed_one : (t u : Bool) → aimed ≡ cond t aimed outside → u ≡ true → opened ≡ cond (t && u) opened outside
aimed_one true true e h = refl
aimed_one true false e h = absurd (clash h)
aimed_one false u e h = apart aimed outside e (λ z. omega arith)

aimed_two : {X : Type 0} (t : Bool) → aimed ≡ cond t opened outside → X
aimed_two true e = apart aimed opened e (λ z. omega arith)
aimed_two false e = apart aimed outside e (λ z. omega arith)

aimed_three : {X : Type 0} (t : Bool) (v : ℕ) → aimed ≡ cond t (holding v) outside → X
aimed_three true v e = apart aimed (holding v) e (λ z. omega arith)
aimed_three false v e = apart aimed outside e (λ z. omega arith)

aimed_more : (x b : ℕ) (bs : List ℕ) → aimed ≡ place (b ∷ bs) → eqb x 255 ≡ true → opened ≡ place (x ∷ (b ∷ bs))
aimed_more x b [] e h = aimed_one (eqb b 164) (eqb x 255) e h
aimed_more x b (a ∷ []) e h = aimed_two (eqb a 164 && eqb b 255) e
aimed_more x b (a ∷ (c ∷ [])) e h = aimed_three (eqb c 164 && eqb a 255) b e
aimed_more x b (a ∷ (c ∷ (d ∷ bs))) e h = apart aimed outside e (λ z. omega arith)

opened_one : {X : Type 0} (t : Bool) → opened ≡ cond t aimed outside → X
opened_one true e = apart opened aimed e (λ z. omega arith)
opened_one false e = apart opened outside e (λ z. omega arith)

opened_two : (t : Bool) (v : ℕ) → opened ≡ cond t opened outside → holding v ≡ cond t (holding v) outside
opened_two true v e = refl
opened_two false v e = apart opened outside e (λ z. omega arith)

opened_three : {X : Type 0} (t : Bool) (v : ℕ) → opened ≡ cond t (holding v) outside → X
opened_three true v e = apart opened (holding v) e (λ z. omega arith)
opened_three false v e = apart opened outside e (λ z. omega arith)

opened_more : (x b : ℕ) (bs : List ℕ) → opened ≡ place (b ∷ bs) → holding x ≡ place (x ∷ (b ∷ bs))
opened_more x b [] e = opened_one (eqb b 164) e
opened_more x b (a ∷ []) e = opened_two (eqb a 164 && eqb b 255) x e
opened_more x b (a ∷ (c ∷ [])) e = opened_three (eqb c 164 && eqb a 255) b e
opened_more x b (a ∷ (c ∷ (d ∷ bs))) e = apart opened outside e (λ z. omega arith)

-- the first byte after a write address
register_aim : (t : Bool) (x b : ℕ) (bs : List ℕ) → eqb x 255 ≡ t → aimed ≡ place (b ∷ bs) → aim_acks (cond t opens rejected) ≡ true
    → where_is (aim_mode (cond t opens rejected)) ≡ place (x ∷ (b ∷ bs))
register_aim true x b bs f e h = aimed_more x b bs e f
register_aim false x b bs f e h = absurd (clash h)

dcp_aim : (t : Bool) (j : ℕ) (store : Bool) → where_is (aim_mode (cond t (names j store) rejected)) ≡ outside
dcp_aim true j store = refl
dcp_aim false j store = refl

aim_in_place : (m : Mode) (x b : ℕ) (bs : List ℕ) → where_is m ≡ place (b ∷ bs) → aim_acks (aim_in m x) ≡ true → where_is (aim_mode (aim_in m x)) ≡ place (x ∷ (b ∷ bs))
aim_in_place Idle x b bs e h = absurd (clash h)
aim_in_place (Aiming Memory) x b bs e h = sym (out_more x b bs (sym e))
aim_in_place (Aiming Register) x b bs e h = register_aim (eqb x 255) x b bs refl e h
aim_in_place (Aiming Dcps) x b bs e h = dcp_aim (ltb (x % 128) 3) (x % 128) (leb 128 x) ∙ sym (out_more x b bs (sym e))
aim_in_place MemoryBytes x b bs e h = absurd (clash h)
aim_in_place (DcpByte store) x b bs e h = absurd (clash h)
aim_in_place RegisterByte x b bs e h = absurd (clash h)
aim_in_place Moved x b bs e h = absurd (clash h)
aim_in_place (Latching y) x b bs e h = absurd (clash h)
aim_in_place (Storing y) x b bs e h = absurd (clash h)
aim_in_place (Reading d) x b bs e h = absurd (clash h)

aim_by : (t : Bool) (m : Mode) (x b : ℕ) (bs : List ℕ) → where_is m ≡ place (b ∷ bs) → aim_acks (cond t (aim_in m x) rejected) ≡ true
    → where_is (aim_mode (cond t (aim_in m x) rejected)) ≡ place (x ∷ (b ∷ bs))
aim_by true m x b bs e h = aim_in_place m x b bs e h
aim_by false m x b bs e h = absurd (clash h)

-- a data byte, by what it was judged to do
taken_place : (v : Verdict) (m : Mode) (l : Latches) (r n x b : ℕ) (bs : List ℕ) → Judged m l r n x v → where_is m ≡ place (b ∷ bs) → acks v ≡ true → where_is (mode_taken v x) ≡ place (x ∷ (b ∷ bs))
taken_place refused m l r n x b bs j e h = absurd (clash h)
taken_place barred m l r n x b bs j e h = absurd (clash h)
taken_place pages m l r n x b bs j e h = sym (out_more x b bs (sym e ∙ ap where_is j.0))
taken_place (moves store) m l r n x b bs j e h = sym (out_more x b bs (sym e ∙ ap where_is j.0))
taken_place latches m l r n x b bs j e h = opened_more x b bs (sym (ap where_is j) ∙ e)
taken_place stores m l r n x b bs j e h = opened_more x b bs (sym (ap where_is j.0) ∙ e)

module _ (s : X9520) (a : ℕ) (l : Levels) (x b : ℕ) (bs : List ℕ) where
  pub aim_place : where_is s.mode ≡ place (b ∷ bs) → x9520.aims s a l x ≡ true → where_is (x9520.aim s a l x).mode ≡ place (x ∷ (b ∷ bs))
  aim_place e h = aim_by (is a (heard_in s.mode)) s.mode x b bs e h

  pub take_place : where_is s.mode ≡ place (b ∷ bs) → x9520.takes s a l x ≡ true → where_is (x9520.take s a l x).mode ≡ place (x ∷ (b ∷ bs))
  take_place e h = taken_place (verdict s a l.wp x) s.mode s.latches (stored_register s) s.counter x b bs (judged s a l.wp x) e h

-- Without an ACK, the chip hears nothing more.
no_aim : (v : Aim) → aim_acks v ≡ false → aim_mode v ≡ Idle
no_aim rejected h = refl
no_aim (at_cell i) h = absurd (clash (sym h))
no_aim (names j store) h = absurd (clash (sym h))
no_aim opens h = absurd (clash (sym h))

no_take : (v : Verdict) (x : ℕ) → acks v ≡ false → mode_taken v x ≡ Idle
no_take refused x h = refl
no_take barred x h = refl
no_take pages x h = absurd (clash (sym h))
no_take (moves store) x h = absurd (clash (sym h))
no_take latches x h = absurd (clash (sym h))
no_take stores x h = absurd (clash (sym h))

unheard_by : (t : Bool) (x : ℕ) → t ≡ false → mode_after t x ≡ Idle
unheard_by true x h = absurd (clash (sym h))
unheard_by false x h = refl

module _ (s : X9520) where
  pub unacked_address : (x : ℕ) → x9520.hears s x ≡ false → (x9520.address s x).mode ≡ Idle
  unacked_address x h = unheard_by (hears s x) x h

  pub unacked_aim : (a : ℕ) (l : Levels) (x : ℕ) → x9520.aims s a l x ≡ false → (x9520.aim s a l x).mode ≡ Idle
  unacked_aim a l x h = no_aim (aim_of s a x) h

  pub unacked_take : (a : ℕ) (l : Levels) (x : ℕ) → x9520.takes s a l x ≡ false → (x9520.take s a l x).mode ≡ Idle
  unacked_take a l x h = no_take (verdict s a l.wp x) x h

  -- what hears nothing takes nothing
  pub idle_aims : s.mode ≡ Idle → (a : ℕ) (l : Levels) (x : ℕ) → x9520.aims s a l x ≡ false
  idle_aims e a l x = ap (λ m. aim_acks (cond (is a (heard_in m)) (aim_in m x) rejected)) e

  pub idle_aim : s.mode ≡ Idle → (a : ℕ) (l : Levels) (x : ℕ) → (x9520.aim s a l x).mode ≡ Idle
  idle_aim e a l x = unacked_aim a l x (idle_aims e a l x)

  pub idle_takes : s.mode ≡ Idle → (a : ℕ) (l : Levels) (x : ℕ) → x9520.takes s a l x ≡ false
  idle_takes e a l x = ap (λ m. acks (cond (is a (heard_in m)) (verdict_in m s.latches (stored_register s) s.counter l.wp x) refused)) e

  pub idle_take : s.mode ≡ Idle → (a : ℕ) (l : Levels) (x : ℕ) → (x9520.take s a l x).mode ≡ Idle
  idle_take e a l x = unacked_take a l x (idle_takes e a l x)

  pub start_mode : (x9520.start s).mode ≡ Idle
  start_mode = refl

  pub give_mode : (a : ℕ) → (x9520.give s a).mode ≡ s.mode
  give_mode a = refl

  pub level_mode : (l : Levels) → (x9520.level s l).mode ≡ s.mode
  level_mode l = refl

  pub finish_any_mode : (k : ℕ) → (x9520.finish s k).mode ≡ s.mode
  finish_any_mode k = refl
