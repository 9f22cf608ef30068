-- What is asked of a number or of an address byte of a pair is asked of one of the two parts. Assumes nothing.
use Rattle.std.specs.Prelude.{◌≡◌, ℕ, ◌+◌, ◌-◌, ◌/◌, ◌<◌, ◌≤◌, Bool, true, false, cond, ◌⊎◌, Some, None, Option, refl}
use Rattle.std.proofs.Common.{ap, ◌∙◌, inl, inr, arith}
use Rattle.std.proofs.lemmas.Bool.{cases_lt, lt-ltb, le-ltb, cases_Bool}
use Rattle.part.specs.Ops.{Ops}
use Rattle.pair.specs.declared.Pair.{Pair}
use Rattle.pair.specs.Both.{both, shift, addressed}

-- all that is asked of one numbered part
pub record Seen : Type 0 where
  pub cells : ℕ
  pub wipers : ℕ
  pub offset : ℕ → ℕ
  pub cell : ℕ → ℕ
  pub staged : ℕ → Option ℕ
  pub under_way : ℕ → Option ℕ
  pub busy : Bool
  pub tap : ℕ → ℕ

abbrev pub seen : {S : Type 0} → Ops S → S → ℕ → Seen
seen o s k = record {
  cells = o.cells s k;
  wipers = o.wipers s k;
  offset = o.offset s k;
  cell = o.cell s k;
  staged = o.staged s k;
  under_way = o.under_way s k;
  busy = o.busy s k;
  tap = o.tap s k;
}

module _ {A B : Type 0} (a : Ops A) (b : Ops B) where
  -- a fact of a number, from a state s to t, is one of that number in the first part, or of what is left of it in the second
  pub by_number : (P : Seen → Seen → Type 0) (s t : Pair A B) (k : ℕ) → a.count t.first ≡ a.count s.first
      → (k < a.count s.first → P (seen a s.first k) (seen a t.first k))
      → (a.count s.first ≤ k → P (seen b s.second (k - a.count s.first)) (seen b t.second (k - a.count s.first)))
      → P (seen (both a b) s k) (seen (both a b) t k)
  by_number P s t k c p q =
      let n = a.count s.first in
      elim (cases_lt k n) [ inl h ↦ rw (c, lt-ltb k n h) (p h) | inr h ↦ rw (c, le-ltb k n h) (q h) ]

  -- and so is a fact of a number in one state
  pub at_number : (P : Seen → Type 0) (s : Pair A B) (k : ℕ)
      → (k < a.count s.first → P (seen a s.first k))
      → (a.count s.first ≤ k → P (seen b s.second (k - a.count s.first)))
      → P (seen (both a b) s k)
  at_number P s k p q = by_number (λ u _. P u) s s k refl p q

  -- a fact of an address byte, from a state s to t, is one of the part that the byte is for
  pub by_byte : (P : Bool → Bool → Type 0) (f : A → ℕ → Bool) (g : B → ℕ → Bool) (s t : Pair A B) (x : ℕ) → a.has t.first (x / 2) ≡ a.has s.first (x / 2)
      → P (f s.first x) (f t.first x) → P (g s.second x) (g t.second x) → P (addressed a b f g s x) (addressed a b f g t x)
  by_byte P f g s t x c p q = elim (cases_Bool (a.has s.first (x / 2))) [ inl e ↦ rw (c, e) p | inr e ↦ rw (c, e) q ]

-- the second's numbers, from the pair's and back
pub unshift : (c k : ℕ) (o : Option ℕ) → shift c o ≡ Some k → (c ≤ k) × (o ≡ Some (k - c))
unshift c k None h = let z : ◌≡◌ {A = ℕ} 0 1 = cc in absurd (omega arith)
unshift c k (Some d) h =
    let z : c + d ≡ k = cc in
    let e : d ≡ k - c = omega arith in
    (omega arith, ap Some e)

pub reshift : (c k : ℕ) (o : Option ℕ) → c ≤ k → o ≡ Some (k - c) → shift c o ≡ Some k
reshift c k o h e = let z : c + (k - c) ≡ k = omega arith in ap (shift c) e ∙ ap Some z

-- the owner of an address is one of the part that answers it, with whether that is the first
pub owned : (e : Bool) (c k : ℕ) (o o' : Option ℕ) → cond e o (shift c o') ≡ Some k → ((e ≡ true) × (o ≡ Some k)) ⊎ ((e ≡ false) × (c ≤ k) × (o' ≡ Some (k - c)))
owned true c k o o' h = inl (refl, h)
owned false c k o o' h = let z = unshift c k o' h in inr (refl, z.0, z.1)
