-- The seats of a pair: a chip that sits in either part sits in the pair, and directly where it sits directly in the part.
-- In the first part its number stays; in the second it comes after the first part's numbers. Assumes nothing.
use Rattle.std.specs.Prelude.{ℕ, ◌+◌}
use Rattle.part.specs.Ops.{Ops}
use Rattle.part.specs.Seats.{Seat, Direct}
use Rattle.pair.specs.Both.{both}

module _ {A B C : Type 0} (a : Ops A) (b : Ops B) (chip : Ops C) where
  abbrev pub Firsts : Type 0
  Firsts = (number : A → ℕ) (see : A → C) →
      (Seat a chip number see → Seat (both a b) chip (λ s. number s.first) (λ s. see s.first))
      × (Direct a chip number see → Direct (both a b) chip (λ s. number s.first) (λ s. see s.first))

  abbrev pub Seconds : Type 0
  Seconds = (number : B → ℕ) (see : B → C) →
      (Seat b chip number see → Seat (both a b) chip (λ s. a.count s.first + number s.second) (λ s. see s.second))
      × (Direct b chip number see → Direct (both a b) chip (λ s. a.count s.first + number s.second) (λ s. see s.second))
