-- What a move of a part is to a chip that sits in it: a move of its own, or nothing, or a START. Assumes nothing.
use Rattle.std.proofs.Common.{◌≡◌, ℕ, ◌/◌, ◌⊎◌, Some, None, Option, refl, ap, ◌∙◌, inl, inr}
use Rattle.std.proofs.lemmas.Bool.{cases_eq}
use Rattle.std.proofs.lemmas.Option.{none-some, same_Some}
use Rattle.part.specs.Ops.{Ops}
use Rattle.part.specs.Moves.{Move, starting, addressing, aiming, taking, levelling, stopping, giving, finishing, cutting, renewing, moved}
use Rattle.part.specs.Seats.{Seat, Mine}

same_number : (o : Option ℕ) (k : ℕ) → (o ≡ Some k) ⊎ (o ≡ Some k → ⊥)
same_number None k = inr (none-some k)
same_number (Some j) k = elim (cases_eq j k) [ inl e ↦ inl (ap Some e) | inr n ↦ inr (λ e. n (same_Some j k e)) ]

-- a finish of the chip's number in the part is one of the chip's only number
abbrev pub own : Move → Move
own starting = starting
own (addressing x) = addressing x
own (aiming a l x) = aiming a l x
own (taking a l x) = taking a l x
own (giving a) = giving a
own (levelling l) = levelling l
own (stopping clean l) = stopping clean l
own (finishing k) = finishing 0
own (cutting p) = cutting p
own renewing = renewing

module _ {S C : Type 0} (ops : Ops S) (chip : Ops C) (number : S → ℕ) (see : S → C) where
  pub mine_or_not : (s : S) (n : ℕ) → Mine ops chip number see s n ⊎ (Mine ops chip number see s n → ⊥)
  mine_or_not s n = same_number (ops.owner s n) (number s)

  -- a move reaches the chip, or leaves it untouched, or as after a START
  abbrev pub Reached : S → Move → Type 0
  Reached s m = (see (moved ops s m) ≡ moved chip (see s) (own m)) ⊎ ((see (moved ops s m) ≡ see s) ⊎ (see (moved ops s m) ≡ chip.start (see s)))

  pub reached : Seat ops chip number see → (s : S) (m : Move) → Reached s m
  reached seat s starting = inl (seat.start s)
  reached seat s (addressing x) = elim (mine_or_not s (x / 2)) [
    | inl e ↦ elim (seat.address s x e) [ inl r ↦ inl r.1 | inr r ↦ inr r.1 ]
    | inr n ↦ elim (seat.address_other s x n) [ inl r ↦ inr (inl r) | inr r ↦ inl r.0 ]
  ]
  reached seat s (aiming a l x) = elim (mine_or_not s (a / 2)) [
    | inl e ↦ elim (seat.aim s a l x e) [ inl r ↦ inl r.1 | inr r ↦ inr r.1 ]
    | inr n ↦ elim (seat.aim_other s a l x n) [ inl r ↦ inr (inl r) | inr r ↦ inl r.0 ]
  ]
  reached seat s (taking a l x) = elim (mine_or_not s (a / 2)) [
    | inl e ↦ elim (seat.take s a l x e) [ inl r ↦ inl r.1 | inr r ↦ inr r.1 ]
    | inr n ↦ elim (seat.take_other s a l x n) [ inl r ↦ inr (inl r) | inr r ↦ inl r.0 ]
  ]
  reached seat s (giving a) = elim (mine_or_not s (a / 2)) [
    | inl e ↦ elim (seat.give s a e) [ inl r ↦ inl r.1 | inr r ↦ inr (inl r) ]
    | inr n ↦ elim (seat.give_other s a n) [ inl r ↦ inr (inl r) | inr r ↦ inl r.0 ]
  ]
  reached seat s (levelling l) = inl (seat.level s l)
  reached seat s (stopping clean l) = inl (seat.stop s clean l)
  reached seat s (finishing k) = elim (cases_eq k (number s)) [ inl e ↦ inl (ap (λ j. see (ops.finish s j)) e ∙ seat.finish s) | inr n ↦ inr (inl (seat.finish_other s k n)) ]
  reached seat s (cutting p) = inl (seat.cut s p)
  reached seat s renewing = inl (seat.renew s)
