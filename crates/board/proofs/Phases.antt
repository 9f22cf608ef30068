-- What the phase of the bus says of the open transfer, and what is told of both when the wires move. Assumes nothing.
use Rattle.std.proofs.Common.{◌≡◌, ℕ, suc, ◌+◌, ◌-◌, ◌*◌, ◌/◌, ◌%◌, ◌^◌, ◌≤◌, Bool, true, false, cond, not, ◌&&◌, ◌⊎◌, List, [], ◌∷◌, length, eqb, Some, None, Option, refl, sym, ap, ◌∙◌, inl, inr, arith}
use borrow.Author.Tests.{clash}
use Rattle.std.proofs.lemmas.Bool.{and_parts, and_left, and_right, lt-ltb, le-ltb, ne_eqb}
use Rattle.board.specs.declared.bus.Kind.{Kind}
use Rattle.board.specs.declared.bus.Kind.TheVariants.{Address, First, Later}
use Rattle.board.specs.declared.bus.Next.{Next}
use Rattle.board.specs.declared.bus.Next.TheVariants.{ThenFirst, ThenLater, ThenGiven}
use Rattle.board.specs.declared.bus.Phase.{Phase}
use Rattle.board.specs.declared.bus.Phase.TheVariants.{Closed, Deaf, Taking, AckDue, AckPulled, AckRisen, Giving, Released, Wanted}
use Rattle.board.specs.Engine.{pulls as pulls_now, clean as clean_now}
use Rattle.board.specs.Samples.{odd}
use Rattle.board.specs.Wires.{Byte, Transfer, transfer, value, address, reading, all_acked, sending, giving, some_byte, is_clean, clean}
use Rattle.board.specs.Runs.{free, ack, bit_at, slot, pulls_in, pulls_by}

-- the byte that is acknowledged, x, after the bytes bs, is the one that the phase goes on from
abbrev pub Follows : Next → ℕ → List Byte → Type 0
Follows (ThenFirst a) x bs = (bs ≡ []) × (x ≡ a) × (odd a ≡ false)
Follows (ThenGiven a) x bs = (bs ≡ []) × (x ≡ a) × (odd a ≡ true)
Follows (ThenLater a) x bs = (some_byte bs ≡ true) × (address bs ≡ a)

-- the kind of a byte to come, after the bytes bs
abbrev pub Fits : Kind → List Byte → Type 0
Fits Address bs = bs ≡ []
Fits (First a) bs = (x : Byte) × (bs ≡ x ∷ []) × (x.value ≡ a)
Fits (Later a) bs = (x : Byte) × ((y : Byte) × ((ys : List Byte) × (bs ≡ x ∷ (y ∷ ys)) × (address bs ≡ a)))

-- a byte is offered no more: one was not acknowledged, or the one whose eighth bit has come will not be
abbrev pub Dead : Bool → Bool → ℕ → Transfer → Type 0
Dead scl answer byte t =
    ((all_acked t.bytes ≡ false) × (pulls_in (slot scl t) answer byte ≡ false))
    ⊎ ((length t.bits ≡ 8) × (sending t.bytes ≡ true) × (answer ≡ false))

pub record Deafened (scl answer : Bool) (byte : ℕ) (o : Option Transfer) : Type 0 where
  pub t : Transfer
  pub is : o ≡ Some t
  pub dead : Dead scl answer byte t

-- some bits of a byte that is sent
pub record Coming (scl : Bool) (kind : Kind) (bits byte : ℕ) (o : Option Transfer) : Type 0 where
  pub t : Transfer
  pub is : o ≡ Some t
  pub long : length t.bits ≡ bits
  pub few : bits ≤ 7
  pub reads : byte ≡ value t.bits
  pub sends : sending t.bytes ≡ true
  pub fits : Fits kind t.bytes
  pub unpulled : slot scl t ≡ free

-- a byte with its eighth bit, which the part has answered by an ACK
pub record Due (after : Next) (answer : Bool) (o : Option Transfer) : Type 0 where
  pub t : Transfer
  pub is : o ≡ Some t
  pub long : length t.bits ≡ 8
  pub sends : sending t.bytes ≡ true
  pub answered : answer ≡ true
  pub follows : Follows after (value t.bits) t.bytes

-- and with its ninth
pub record Risen (after : Next) (answer : Bool) (o : Option Transfer) : Type 0 where
  pub x : Byte
  pub bs : List Byte
  pub is : o ≡ Some (transfer (x ∷ bs) [])
  pub sends : sending bs ≡ true
  pub pulled : x.pulled ≡ true
  pub answered : answer ≡ true
  pub follows : Follows after x.value bs

-- n bits of a byte given are past, and the next is on the wire; its rise has come where SCL is HIGH
abbrev pub rises_at : Bool → ℕ → ℕ
rises_at true n = suc n
rises_at false n = n

pub record Shifts (byte n rest : ℕ) (out : Bool) : Type 0 where
  pub out_is : out ≡ odd (byte / 2 ^ (7 - n))
  pub rest_is : rest ≡ byte % 2 ^ (7 - n) * 2 ^ (n + 1)

pub record Gives (scl : Bool) (byte a rises rest : ℕ) (out : Bool) (o : Option Transfer) : Type 0 where
  pub t : Transfer
  pub is : o ≡ Some t
  pub given : giving t.bytes ≡ true
  pub from : address t.bytes ≡ a
  pub n : ℕ
  pub few : n ≤ 7
  pub at : rises ≡ rises_at scl n
  pub long : length t.bits ≡ rises
  pub shifts : Shifts byte n rest out

-- all eight bits of a byte given are past
pub record Ninth (a : ℕ) (o : Option Transfer) : Type 0 where
  pub t : Transfer
  pub is : o ≡ Some t
  pub given : giving t.bytes ≡ true
  pub from : address t.bytes ≡ a
  pub long : length t.bits ≡ 8

-- and the master has acknowledged it
pub record Asked (a : ℕ) (o : Option Transfer) : Type 0 where
  pub x : Byte
  pub bs : List Byte
  pub is : o ≡ Some (transfer (x ∷ bs) [])
  pub given : giving (x ∷ bs) ≡ true
  pub before : giving bs ≡ true
  pub from : address (x ∷ bs) ≡ a

-- SCL, the part's last answer, the byte that it gave last, and the open transfer
abbrev pub Tied : Phase → Bool → Bool → ℕ → Option Transfer → Type 0
Tied Closed scl answer byte o = o ≡ None
Tied Deaf scl answer byte o = Deafened scl answer byte o
Tied (Taking kind bits so_far) scl answer byte o = Coming scl kind bits so_far o
Tied (AckDue next) scl answer byte o = (scl ≡ true) × Due next answer o
Tied (AckPulled next) scl answer byte o = (scl ≡ false) × Due next answer o
Tied (AckRisen next) scl answer byte o = (scl ≡ true) × Risen next answer o
Tied (Giving a rises rest out) scl answer byte o = Gives scl byte a rises rest out o
Tied (Released a) scl answer byte o = (scl ≡ false) × Ninth a o
Tied (Wanted a) scl answer byte o = (scl ≡ true) × Asked a o

-- a byte is either sent or given
pub not_giving : (bs : List Byte) → sending bs ≡ true → giving bs ≡ false
not_giving bs h = and_right (all_acked bs) _ (not_of (reading bs) (and_parts (all_acked bs) _ h).1)
  where
    not_of : (b : Bool) → not b ≡ true → b ≡ false
    not_of true e = sym e
    not_of false e = refl

pub not_sending : (bs : List Byte) → giving bs ≡ true → sending bs ≡ false
not_sending bs h = and_right (all_acked bs) _ (ap not (and_parts (all_acked bs) _ h).1)

pub given_some : (bs : List Byte) → giving bs ≡ true → some_byte bs ≡ true
given_some [] h = absurd (clash h)
given_some (x ∷ bs) h = refl

-- what the wires say of a pull is what the phase says
pub slot_low_sent : (t : Transfer) → length t.bits ≡ 8 → sending t.bytes ≡ true → slot false t ≡ ack
slot_low_sent t e h = rw (le-ltb (length t.bits) 8 (omega (arith, e)), h) refl

slot_high_eight : (t : Transfer) → length t.bits ≡ 8 → sending t.bytes ≡ true → slot true t ≡ free
slot_high_eight t e h = rw (ne_eqb (length t.bits) 0 (λ z. omega (arith, e, z)), not_giving t.bytes h) refl

slot_low_given : (t : Transfer) (n : ℕ) → length t.bits ≡ n → n ≤ 7 → giving t.bytes ≡ true → slot false t ≡ bit_at (7 - n)
slot_low_given t n e h g = rw (lt-ltb (length t.bits) 8 (omega (arith, e, h)), g, e) refl

slot_high_given : (t : Transfer) (n : ℕ) → length t.bits ≡ suc n → giving t.bytes ≡ true → slot true t ≡ bit_at (7 - n)
slot_high_given t n e g = rw (ne_eqb (length t.bits) 0 (λ z. omega (arith, e, z)), g, e) (ap bit_at (let z : 8 - suc n ≡ 7 - n = omega arith in z))

given_pull : (scl : Bool) (byte a rises rest : ℕ) (out answer : Bool) (o : Option Transfer) → Gives scl byte a rises rest out o → pulls_by scl o answer byte ≡ not out
given_pull true byte a rises rest out answer o g = rw g.is (ap (λ z. pulls_in z answer byte) (slot_high_given g.t g.n (g.long ∙ g.at) g.given) ∙ ap not (sym g.shifts.out_is))
given_pull false byte a rises rest out answer o g = rw g.is (ap (λ z. pulls_in z answer byte) (slot_low_given g.t g.n (g.long ∙ g.at) g.few g.given) ∙ ap not (sym g.shifts.out_is))

dead_pull : (scl answer : Bool) (byte : ℕ) (t : Transfer) → Dead scl answer byte t → pulls_in (slot scl t) answer byte ≡ false
dead_pull scl answer byte t (inl d) = d.1
dead_pull true answer byte t (inr d) = ap (λ z. pulls_in z answer byte) (slot_high_eight t d.0 d.1)
dead_pull false answer byte t (inr d) = ap (λ z. pulls_in z answer byte) (slot_low_sent t d.0 d.1) ∙ d.2

due_pull : (scl answer : Bool) (byte : ℕ) (n : Next) (o : Option Transfer) → Due n answer o → pulls_by scl o answer byte ≡ not scl
due_pull true answer byte n o d = rw d.is (ap (λ z. pulls_in z answer byte) (slot_high_eight d.t d.long d.sends))
due_pull false answer byte n o d = rw d.is (ap (λ z. pulls_in z answer byte) (slot_low_sent d.t d.long d.sends) ∙ d.answered)

pub pull_of : (ph : Phase) (scl answer : Bool) (byte : ℕ) (o : Option Transfer) → Tied ph scl answer byte o → pulls_by scl o answer byte ≡ pulls_now ph
pull_of Closed scl answer byte o h = rw h refl
pull_of Deaf scl answer byte o h = rw h.is (dead_pull scl answer byte h.t h.dead)
pull_of (Taking kind bits so_far) scl answer byte o h = rw h.is (ap (λ z. pulls_in z answer byte) h.unpulled)
pull_of (AckDue n) scl answer byte o h = due_pull scl answer byte n o h.1 ∙ ap not h.0
pull_of (AckPulled n) scl answer byte o h = due_pull scl answer byte n o h.1 ∙ ap not h.0
pull_of (AckRisen n) scl answer byte o h = rw (h.1.is, h.0) (ap (λ z. pulls_in (cond z ack free) answer byte) h.1.sends ∙ h.1.answered)
pull_of (Giving a rises left out) scl answer byte o h = given_pull scl byte a rises left out answer o h
pull_of (Released a) scl answer byte o h = rw (h.1.is, h.0) (rw (le-ltb (length h.1.t.bits) 8 (omega (arith, h.1.long)), not_sending h.1.t.bytes h.1.given) refl)
pull_of (Wanted a) scl answer byte o h = rw (h.1.is, h.0) (rw (not_sending h.1.bs h.1.before) refl)

-- and so of a clean STOP
not_one : (t : Transfer) (n : ℕ) → length t.bits ≡ n → (n ≡ 1 → ⊥) → is_clean t ≡ false
not_one t n e h = and_left _ _ (ne_eqb (length t.bits) 1 (λ z. h (sym e ∙ z)))

alone : (b : Bool) → (b && true) ≡ b
alone true = refl
alone false = refl

coming_clean : (kind : Kind) (bits : ℕ) (scl : Bool) (so_far : ℕ) (o : Option Transfer) → Coming scl kind bits so_far o → clean o ≡ clean_now (Taking kind bits so_far)
coming_clean Address bits scl so_far o c = rw (c.is, c.fits) (and_right (eqb (length c.t.bits) 1) _ refl)
coming_clean (First a) bits scl so_far o c =
    let s = and_parts (all_acked c.t.bytes) _ c.sends in
    rw c.is (rw s.0 (rw (c.fits.1, c.long) (alone (eqb bits 1))))
coming_clean (Later a) bits scl so_far o c =
    let s = and_parts (all_acked c.t.bytes) _ c.sends in
    rw c.is (rw s.0 (rw (c.fits.1.1.1, c.long) (alone (eqb bits 1))))

dead_clean : (scl answer : Bool) (byte : ℕ) (t : Transfer) → Dead scl answer byte t → is_clean t ≡ false
dead_clean scl answer byte t (inl d) = and_right (eqb (length t.bits) 1) _ (and_right (some_byte t.bytes) _ d.0)
dead_clean scl answer byte t (inr d) = not_one t 8 d.0 (λ z. omega arith)

pub clean_of : (ph : Phase) (scl answer : Bool) (byte : ℕ) (o : Option Transfer) → Tied ph scl answer byte o → clean o ≡ clean_now ph
clean_of Closed scl answer byte o h = rw h refl
clean_of Deaf scl answer byte o h = rw h.is (dead_clean scl answer byte h.t h.dead)
clean_of (Taking kind bits so_far) scl answer byte o h = coming_clean kind bits scl so_far o h
clean_of (AckDue n) scl answer byte o h = rw h.1.is (not_one h.1.t 8 h.1.long (λ z. omega arith))
clean_of (AckPulled n) scl answer byte o h = rw h.1.is (not_one h.1.t 8 h.1.long (λ z. omega arith))
clean_of (AckRisen n) scl answer byte o h = rw h.1.is refl
clean_of (Giving a rises left out) scl answer byte o h =
    let g = and_parts (all_acked h.t.bytes) _ h.given in
    rw h.is (rw (given_some h.t.bytes h.given, g.0, h.long) (alone (eqb rises 1)))
clean_of (Released a) scl answer byte o h = rw h.1.is (not_one h.1.t 8 h.1.long (λ z. omega arith))
clean_of (Wanted a) scl answer byte o h = rw h.1.is refl
