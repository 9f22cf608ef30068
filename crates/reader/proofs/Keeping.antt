-- What the reader keeps is that of the recording's open transfer, and it is small.
use Rattle.std.proofs.Common.{◌≡◌, ℕ, zero, suc, ◌+◌, ◌*◌, ◌^◌, ◌<◌, ◌≤◌, Bool, true, false, not, cond, List, [], ◌∷◌, length, Some, None, Option, option_map, refl, ap, arith, add-one, ltb, rules, le_of_suc-le-suc, not-suc-le-zero, pow_pos}
use Rattle.std.proofs.lemmas.Bool.{lt-ltb, ne_eqb}
use Rattle.board.specs.Samples.{bit_value}
use Rattle.std.specs.Prelude.{◌==◌}
use Rattle.board.specs.Wires.{address, some_byte, Edge, steady, started, stopped, rose, fell, edge, Transfer, Byte, value, risen_by, next}
use Rattle.reader.specs.declared.transfer.Transfer.{Transfer as Record}
use Rattle.reader.specs.Kept.{kept_of, kept_risen_by, kept_next, kept_address, AllSmall}
use Rattle.reader.specs.Reading.{prolonged}
use Rattle.reader.specs.Transfers.{address_of}
use Rattle.reader.specs.Steps.{kept_prolonged}

whole : (bit : Bool) (bs : List Byte) (v : ℕ) → cond (length bs == 0) v (address bs) ≡ address (record { value = v; low = not bit; pulled = not bit } ∷ bs)
whole bit [] v = refl
whole bit (x ∷ bs) v = rw (ne_eqb (suc (length bs)) 0 (λ z. omega (arith, z))) refl

risen_kept : (small bit : Bool) (t : Transfer) → kept_risen_by small bit (kept_of t) ≡ kept_of (risen_by small bit (not bit) t)
risen_kept true bit t = rw add-one refl
risen_kept false bit t = rw add-one (rw (whole bit t.bytes (value t.bits)) refl)

pub next_kept : (scl scl' sda sda' : Bool) (o : Option Transfer) → kept_next (edge scl scl' sda sda') (option_map kept_of o) ≡ option_map kept_of (next (edge scl scl' sda sda') (not sda') o)
next_kept true true true true o = refl
next_kept true true true false o = refl
next_kept true true false true o = refl
next_kept true true false false o = refl
next_kept true false sda sda' o = refl
next_kept false true sda sda' None = refl
next_kept false true sda sda' (Some t) = ap Some (risen_kept (ltb (length t.bits) 8) sda' t)
next_kept false false sda sda' o = refl

-- what is kept answers as the transfer does
pub address_kept : (t : Transfer) → kept_address (kept_of t) ≡ address_of t
address_kept t = by_bytes t.bytes
  where
    by_bytes : (bs : List Byte) → cond (ltb 0 (length bs)) (address bs) (cond (length t.bits == 8) (value t.bits) 0) ≡ cond (some_byte bs) (address bs) (cond (length t.bits == 8) (value t.bits) 0)
    by_bytes [] = refl
    by_bytes (x ∷ bs) = rw (lt-ltb 0 (suc (length bs)) (omega arith)) refl

pub prolonged_all : (n : ℕ) (t : Transfer) → kept_prolonged n (kept_of t) ≡ prolonged n t
prolonged_all n t = ap (λ a (r : Record). record { first = r.first; last = n; address = a; ninths = length t.bytes; clean = false }) (address_kept t)

-- it is small
value_below : (w : List Bool) (k : ℕ) → length w ≤ k → value w < 2 ^ k
value_below [] k h = pow_pos k
value_below (b ∷ w) zero h = absurd (not-suc-le-zero h)
value_below (b ∷ w) (suc k) h = omega (arith, value_below w k (le_of_suc-le-suc h), bit_small b, pow_more k)
  where
    bit_small : (b : Bool) → bit_value b < 2
    bit_small true = omega arith
    bit_small false = omega arith

    pow_more : (k : ℕ) → 2 ^ suc k ≡ 2 ^ k * 2
    pow_more k = search rules

-- no more whole bytes than samples
pub few : ℕ → Option Transfer → Type 0
few n None = Unit {0}
few n (Some t) = length t.bytes ≤ n

few_later : (n : ℕ) (o : Option Transfer) → few n o → few (suc n) o
unfolding few
few_later n None h = tt
few_later n (Some t) h = omega (arith, h)

few_risen : (small bit pulled : Bool) (n : ℕ) (t : Transfer) → length t.bytes ≤ n → length (risen_by small bit pulled t).bytes ≤ suc n
few_risen true bit pulled n t h = omega (arith, h)
few_risen false bit pulled n t h = omega (arith, h)

pub few_next : (e : Edge) (pulled : Bool) (n : ℕ) (o : Option Transfer) → few n o → few (suc n) (next e pulled o)
unfolding few
few_next steady pulled n o h = few_later n o h
few_next started pulled n o h = omega arith
few_next stopped pulled n o h = tt
few_next (rose bit) pulled n None h = tt
few_next (rose bit) pulled n (Some t) h = few_risen (ltb (length t.bits) 8) bit pulled n t h
few_next fell pulled n o h = few_later n o h

pub few_none : (n : ℕ) → few n None
unfolding few
few_none n = tt

pub small_kept : (n : ℕ) (o : Option Transfer) → n + 1 < 2 ^ 64 → few n o → AllSmall (option_map kept_of o)
unfolding few
small_kept n None h k = tt
small_kept n (Some t) h k = (λ m. value_below t.bits 7 (le_of_suc-le-suc m), omega (arith, h, k))
