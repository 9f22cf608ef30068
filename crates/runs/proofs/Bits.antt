-- What the law says that a register byte locks and that WP forbids is what the chip goes by. Assumes nothing.
use Rattle.std.proofs.Common.{◌≡◌, ℕ, ◌/◌, ◌%◌, Bool, true, false, cond, ◌&&◌, ◌||◌, ltb, leb, ◌⊎◌, refl, ap, ◌∙◌, inl, inr, arith}
use Rattle.std.proofs.lemmas.Bool.{cases_eq, cases_lt, eq-eqb, ne_eqb, lt-ltb, le-ltb, le-leb, lt-leb, and_from, and_left, and_right, or_right, or_from}
use Rattle.protection.specs.Lock.{lock_bits, locks_wipers as wipers_in_chip, wp_forbids}
use Rattle.x9520.proofs.Locks.{locks}
use Rattle.runs.specs.Lock.{bl1, bl0, stored_wiper, locks_cell, locks_wipers, forbidden}

-- the two bits as one number
record Bits (r : ℕ) (one zero : Bool) (n : ℕ) : Type 0 where
  bl1_is : bl1 r ≡ one
  bl0_is : bl0 r ≡ zero
  number : lock_bits r ≡ n

bits_of : (r : ℕ) → Bits r false false 0 ⊎ (Bits r false true 1 ⊎ (Bits r true false 2 ⊎ Bits r true true 3))
bits_of r = elim (cases_eq (r / 16 % 2) 1) [
  | inl one ↦ elim (cases_eq (r / 8 % 2) 1) [
    | inl e ↦ inr (inr (inr (record { bl1_is = eq-eqb _ 1 one; bl0_is = eq-eqb _ 1 e; number = omega (arith, one, e) })))
    | inr d ↦ (let z : r / 8 % 2 ≡ 1 → ⊥ = d in inr (inr (inl (record { bl1_is = eq-eqb _ 1 one; bl0_is = ne_eqb _ 1 d; number = omega (arith, one, z) }))))
  ]
  | inr none ↦ (let y : r / 16 % 2 ≡ 1 → ⊥ = none in elim (cases_eq (r / 8 % 2) 1) [
    | inl e ↦ inr (inl (record { bl1_is = ne_eqb _ 1 none; bl0_is = eq-eqb _ 1 e; number = omega (arith, y, e) }))
    | inr d ↦ (let z : r / 8 % 2 ≡ 1 → ⊥ = d in inl (record { bl1_is = ne_eqb _ 1 none; bl0_is = ne_eqb _ 1 d; number = omega (arith, y, z) }))
  ])
]

-- by the bits, what the chip goes by
pub wipers_is : (r : ℕ) → locks_wipers r ≡ wipers_in_chip r
wipers_is r = elim (bits_of r) [
  | inl b ↦ rw (b.bl1_is, b.bl0_is, b.number) refl
  | inr (inl b) ↦ rw (b.bl1_is, b.bl0_is, b.number) refl
  | inr (inr (inl b)) ↦ rw (b.bl1_is, b.bl0_is, b.number) refl
  | inr (inr (inr b)) ↦ rw (b.bl1_is, b.bl0_is, b.number) refl
]

pub forbidden_is : (stored wp : Bool) (r : ℕ) → forbidden stored wp (locks_wipers r) ≡ wp_forbids stored wp r
forbidden_is stored false r = refl
forbidden_is true true r = refl
forbidden_is false true r = wipers_is r

-- where a cell stands: in the memory, or among the stored wipers, or neither
record Place (i : ℕ) (memory wiper : Bool) : Type 0 where
  below : ltb i 256 ≡ memory
  last : leb i 255 ≡ memory
  stored : stored_wiper i ≡ wiper
  under : ltb i 259 ≡ (memory || wiper)

place : (i : ℕ) → Place i true false ⊎ (Place i false true ⊎ Place i false false)
place i = elim (cases_lt i 256) [
  | inl h ↦ inl (record { below = lt-ltb i 256 h; last = le-leb i 255 (omega (arith, h)); stored = and_left _ _ (lt-leb 256 i (omega (arith, h))); under = lt-ltb i 259 (omega (arith, h)) })
  | inr g ↦ elim (cases_lt i 259) [
    | inl h ↦ inr (inl (record {
      below = le-ltb i 256 g;
      last = lt-leb i 255 (omega (arith, g));
      stored = and_from _ _ (le-leb 256 i g) (le-leb i 258 (omega (arith, h)));
      under = lt-ltb i 259 h;
    }))
    | inr h ↦ inr (inr (record { below = le-ltb i 256 g; last = lt-leb i 255 (omega (arith, g)); stored = and_right _ _ (lt-leb i 258 (omega (arith, h))); under = le-ltb i 259 h }))
  ]
]

-- a cell of the memory is locked where `inner` is true, and a stored wiper in any case
abbrev Same : (inner : Bool) (i : ℕ) → Type 0
Same inner i = ((inner && leb i 255) || stored_wiper i) ≡ cond (ltb i 256) inner (ltb i 259 && true)

same : (inner : Bool) (i : ℕ) → Same inner i
same inner i = elim (place i) [
  | inl p ↦ rw (p.below, p.last, p.stored) (in_memory inner)
  | inr (inl p) ↦ rw (p.below, p.last, p.stored, p.under) (or_right (inner && false) true refl)
  | inr (inr p) ↦ rw (p.below, p.last, p.stored, p.under) (or_from (inner && false) false (and_right inner false refl) refl)
]
  where
    in_memory : (b : Bool) → ((b && true) || false) ≡ b
    in_memory true = refl
    in_memory false = refl

nowhere : (memory under : Bool) → false ≡ cond memory false (under && false)
nowhere true under = refl
nowhere false true = refl
nowhere false false = refl

pub lock_is : (r i : ℕ) → locks_cell r i ≡ locks r i
lock_is r i = elim (bits_of r) [
  | inl b ↦ rw (b.bl1_is, b.bl0_is, b.number) (nowhere (ltb i 256) (ltb i 259))
  | inr (inl b) ↦ rw (b.bl1_is, b.bl0_is, b.number) (same (leb 192 i) i)
  | inr (inr (inl b)) ↦ rw (b.bl1_is, b.bl0_is, b.number) (same (leb 128 i) i)
  | inr (inr (inr b)) ↦ rw (b.bl1_is, b.bl0_is, b.number) (ap (λ z. (z && leb i 255) || stored_wiper i) (le-leb 0 i (omega arith)) ∙ same true i)
]
