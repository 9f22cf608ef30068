-- A STOP is judged by an open transfer of a recording as by the rises since its START. Assumes nothing.
use Rattle.std.proofs.Common.{◌≡◌, ℕ, zero, suc, ◌+◌, ◌*◌, ◌≤◌, ◌%◌, Bool, true, false, List, ◌∷◌, length, ltb, Some, None, Option, refl, subst, inl, inr, arith}
use Rattle.std.proofs.lemmas.Bool.{cases_eq, ltb-true, ltb-false, ne_eqb}
use Rattle.board.specs.Wires.{Edge, steady, started, stopped, rose, fell, Transfer as Open, risen_by, next}
use Rattle.reader.specs.Reading.{last_acked, clean_shown}
use Rattle.reader.specs.Recording.{edge_at, open_after, with_rise, rises_after, last_is_low, last_but_one_is_low, clean_rises, clean_at}

-- t is the open transfer with these rises
record Made (t : Open) (ws : List Bool) : Type 0 where
  count : length ws ≡ length t.bytes * 9 + length t.bits
  few : length t.bits ≤ 8
  ninth : length t.bits ≡ 0 → last_acked t.bytes ≡ last_is_low ws
  one : length t.bits ≡ 1 → last_acked t.bytes ≡ last_but_one_is_low ws

made_risen : (q bit pulled : Bool) (t : Open) (ws : List Bool) → ltb (length t.bits) 8 ≡ q → Made t ws → Made (risen_by q bit pulled t) (bit ∷ ws)
made_risen true bit pulled t ws e m = record {
  count = omega (arith, m.count);
  few = omega (arith, ltb-true _ 8 e);
  ninth = λ z. absurd (omega (arith, z));
  one = λ z. m.ninth (omega (arith, z));
}
made_risen false bit pulled t ws e m = record {
  count = omega (arith, m.count, m.few, ltb-false _ 8 e);
  few = omega arith;
  ninth = λ z. refl;
  one = λ z. absurd (omega (arith, z));
}

abbrev AllMade : Option Open → Option (List Bool) → Type 0
AllMade None None = Unit {0}
AllMade None (Some ws) = ⊥
AllMade (Some t) None = ⊥
AllMade (Some t) (Some ws) = Made t ws

made_next : (e : Edge) (pulled : Bool) (o : Option Open) (p : Option (List Bool)) → AllMade o p → AllMade (next e pulled o) (with_rise e p)
made_next steady pulled o p m = m
made_next started pulled o p m = record { count = refl; few = omega arith; ninth = λ z. refl; one = λ z. refl }
made_next stopped pulled o p m = tt
made_next (rose bit) pulled None None m = tt
made_next (rose bit) pulled None (Some ws) m = absurd m
made_next (rose bit) pulled (Some t) None m = absurd m
made_next (rose bit) pulled (Some t) (Some ws) m = made_risen (ltb (length t.bits) 8) bit pulled t ws refl m
made_next fell pulled o p m = m

made : (xs : List ℕ) (n : ℕ) → AllMade (open_after xs n) (rises_after xs n)
made xs zero = tt
made xs (suc n) = made_next (edge_at xs n) _ (open_after xs n) (rises_after xs n) (made xs n)

judged : (t : Open) (p : Option (List Bool)) → AllMade (Some t) p → clean_shown t ≡ clean_rises p
judged t None m = absurd m
judged t (Some ws) m = elim (cases_eq (length t.bits) 1) [
  | inl e ↦ (let r : length ws % 9 ≡ 1 = omega (arith, e, m.count) in rw (e, r) (m.one e))
  | inr d ↦ (let r : length ws % 9 ≡ 1 → ⊥ = λ z. d (omega (arith, z, m.count, m.few)) in rw (ne_eqb _ _ d, ne_eqb _ _ r) refl)
]

pub clean_told : (xs : List ℕ) (n : ℕ) (t : Open) → open_after xs n ≡ Some t → clean_shown t ≡ clean_at xs n
clean_told xs n t e = judged t (rises_after xs n) (subst (λ o. AllMade o (rises_after xs n)) e (made xs n))
