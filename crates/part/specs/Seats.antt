-- Where a chip sits in a part, however deep in pairs or layers: its number, and the function that shows it in the part's state.
-- A byte under an address that its number owns reaches it and gets the chip's own ACK, or is withheld: then there is no ACK, and the chip is
-- untouched, or as after a START, which drops what was staged.
use Rattle.std.specs.Prelude.{◌≡◌, ℕ, ◌/◌, ◌<◌, Bool, false, ◌⊎◌, Some, ◌≢◌}
use Rattle.part.specs.declared.levels.Levels.{Levels}
use Rattle.part.specs.declared.power.PowerCut.{PowerCut}
use Rattle.part.specs.Ops.{Ops}
use Rattle.part.specs.Moves.{Move, moved}

-- the chip moved as itself with its own ACK; or the byte was withheld from it: there is no ACK, and it is untouched, or has dropped what was staged
abbrev pub Routed : {C : Type 0} → Bool → Bool → C → C → C → C → Type 0
Routed ack own-ack t own same dropped = ((ack ≡ own-ack) × (t ≡ own)) ⊎ ((ack ≡ false) × ((t ≡ same) ⊎ (t ≡ dropped)))

-- the part has the number k, and what is asked of it is asked of the chip
pub record Shown {S C : Type 0} (ops : Ops S) (chip : Ops C) (k : ℕ) (s : S) (c : C) : Type 0 where
  pub within : k < ops.count s
  pub cells : ops.cells s k ≡ chip.cells c 0
  pub wipers : ops.wipers s k ≡ chip.wipers c 0
  pub offset : (i : ℕ) → ops.offset s k i ≡ chip.offset c 0 i
  pub cell : (i : ℕ) → ops.cell s k i ≡ chip.cell c 0 i
  pub staged : (i : ℕ) → ops.staged s k i ≡ chip.staged c 0 i
  pub under_way : (i : ℕ) → ops.under_way s k i ≡ chip.under_way c 0 i
  pub busy : ops.busy s k ≡ chip.busy c 0
  pub tap : (j : ℕ) → ops.tap s k j ≡ chip.tap c 0 j

module _ {S C : Type 0} (ops : Ops S) (chip : Ops C) (number : S → ℕ) (see : S → C) where
  -- the chip's number owns the address n, or does not
  abbrev pub Mine : S → ℕ → Type 0
  Mine s n = ops.owner s n ≡ Some (number s)

  -- under an address that its number does not own the chip is untouched, or moves as itself under an address that it does not own either
  abbrev pub Aside : S → ℕ → C → C → Type 0
  Aside s n t own = (t ≡ see s) ⊎ ((t ≡ own) × (chip.owner (see s) n ≢ Some 0))

  pub record Seat : Type 0 where
    pub shown : (s : S) → Shown ops chip (number s) s (see s)
    -- no move changes its number
    pub fixed : (s : S) (m : Move) → number (moved ops s m) ≡ number s
    -- START, levels, STOP, power cuts and renewal reach it always, and a finish where it names its number
    pub start : (s : S) → see (ops.start s) ≡ chip.start (see s)
    pub level : (s : S) (l : Levels) → see (ops.level s l) ≡ chip.level (see s) l
    pub stop : (s : S) (clean : Bool) (l : Levels) → see (ops.stop s clean l) ≡ chip.stop (see s) clean l
    pub cut : (s : S) (p : PowerCut) → see (ops.cut s p) ≡ chip.cut (see s) p
    pub renew : (s : S) → see (ops.renew s) ≡ chip.renew (see s)
    pub finish : (s : S) → see (ops.finish s (number s)) ≡ chip.finish (see s) 0
    pub finish_other : (s : S) (k : ℕ) → (k ≢ number s) → see (ops.finish s k) ≡ see s
    -- bytes under an address that its number owns
    pub address : (s : S) (x : ℕ) → Mine s (x / 2) → Routed (ops.hears s x) (chip.hears (see s) x) (see (ops.address s x)) (chip.address (see s) x) (see s) (chip.start (see s))
    pub aim : (s : S) (a : ℕ) (l : Levels) (x : ℕ) → Mine s (a / 2)
        → Routed (ops.aims s a l x) (chip.aims (see s) a l x) (see (ops.aim s a l x)) (chip.aim (see s) a l x) (see s) (chip.start (see s))
    pub take : (s : S) (a : ℕ) (l : Levels) (x : ℕ) → Mine s (a / 2)
        → Routed (ops.takes s a l x) (chip.takes (see s) a l x) (see (ops.take s a l x)) (chip.take (see s) a l x) (see s) (chip.start (see s))
    pub give : (s : S) (a : ℕ) → Mine s (a / 2) → ((ops.given s a ≡ chip.given (see s) a) × (see (ops.give s a) ≡ chip.give (see s) a)) ⊎ (see (ops.give s a) ≡ see s)
    -- bytes under any other address
    pub address_other : (s : S) (x : ℕ) → (Mine s (x / 2) → ⊥) → Aside s (x / 2) (see (ops.address s x)) (chip.address (see s) x)
    pub aim_other : (s : S) (a : ℕ) (l : Levels) (x : ℕ) → (Mine s (a / 2) → ⊥) → Aside s (a / 2) (see (ops.aim s a l x)) (chip.aim (see s) a l x)
    pub take_other : (s : S) (a : ℕ) (l : Levels) (x : ℕ) → (Mine s (a / 2) → ⊥) → Aside s (a / 2) (see (ops.take s a l x)) (chip.take (see s) a l x)
    pub give_other : (s : S) (a : ℕ) → (Mine s (a / 2) → ⊥) → Aside s (a / 2) (see (ops.give s a)) (chip.give (see s) a)

  -- A seat is direct where nothing is withheld: under an address that its number owns the chip always moves as itself, with its own ACK.
  pub record Direct : Type 0 where
    pub seat : Seat
    pub address : (s : S) (x : ℕ) → Mine s (x / 2) → (ops.hears s x ≡ chip.hears (see s) x) × (see (ops.address s x) ≡ chip.address (see s) x)
    pub aim : (s : S) (a : ℕ) (l : Levels) (x : ℕ) → Mine s (a / 2) → (ops.aims s a l x ≡ chip.aims (see s) a l x) × (see (ops.aim s a l x) ≡ chip.aim (see s) a l x)
    pub take : (s : S) (a : ℕ) (l : Levels) (x : ℕ) → Mine s (a / 2) → (ops.takes s a l x ≡ chip.takes (see s) a l x) × (see (ops.take s a l x) ≡ chip.take (see s) a l x)
    pub give : (s : S) (a : ℕ) → Mine s (a / 2) → (ops.given s a ≡ chip.given (see s) a) × (see (ops.give s a) ≡ chip.give (see s) a)

-- a chip as a part of its own sits in itself, under the number 0
abbrev pub Itself : {C : Type 0} → Ops C → Type 0
Itself chip = Direct chip chip (λ s. 0) (λ s. s)
