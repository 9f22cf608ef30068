-- Recovery: from every state ten rises with SDA released read it HIGH once, and then SDA LOW leaves a board that awaits an address.
use Rattle.std.specs.Prelude.{◌≡◌, ℕ, zero, suc, ◌/◌, ◌<◌, Bool, true, false, List, [], ◌∷◌, length, nat_lt}
use Rattle.part.specs.Ops.{Ops}
use Rattle.part.specs.Keeps.{Unstaged, Unheard}
use Rattle.board.specs.declared.board.Board.{Board}
use Rattle.board.specs.declared.call.Call.{Call}
use Rattle.board.specs.declared.call.Call.TheVariants.{Sample, Finish, Cut}
use Rattle.board.specs.Samples.{odd, levels}
use Rattle.board.specs.Wires.{Edge, steady, started, stopped, rose, fell, value}
use Rattle.board.specs.Runs.{IsCut, step, state, edge_at}

-- a sample in which the master releases SDA, the other lines being as they like, or one that is refused
abbrev pub Releases : Call → Type 0
Releases (Sample x) = nat_lt x 32 ≡ true → odd (x / 2) ≡ true
Releases (Finish k) = ⊥
Releases (Cut p) = ⊥

-- the bits of some rises, the newest first
abbrev pub more_bits : Edge → List Bool → List Bool
more_bits steady w = w
more_bits started w = w
more_bits stopped w = w
more_bits (rose bit) w = bit ∷ w
more_bits fell w = w

module _ {S : Type 0} (ops : Ops S) where
  -- the bits at the rises in the first n calls
  abbrev pub bits : Board S → (ℕ → Call) → ℕ → List Bool
  bits b calls zero = []
  bits b calls (suc n) = more_bits (edge_at ops b calls n) (bits b calls n)

  -- of ten rises with SDA released one reads HIGH
  abbrev pub TenFree : Board S → Type 0
  TenFree b = (calls : ℕ → Call) (n : ℕ) → ((j : ℕ) → j < n → Releases (calls j)) → length (bits b calls n) ≡ 10 →
      (j : ℕ) × ((j < n) × (edge_at ops b calls j ≡ rose true))

  -- call j is no START, STOP or power cut
  abbrev pub Plain : Board S → (ℕ → Call) → ℕ → Type 0
  Plain b calls j = (edge_at ops b calls j ≡ started → ⊥) × (edge_at ops b calls j ≡ stopped → ⊥) × (IsCut (calls j) → ⊥)

  -- Nothing is staged and nothing heard, and in every continuation without START, STOP or power cut the next eight rises are an address byte:
  -- at the eighth it is offered to the part.
  pub record Awaits (b : Board S) : Type 0 where
    pub unstaged : Unstaged ops b.part
    pub unheard : Unheard ops b.part
    pub address : (calls : ℕ → Call) (n x : ℕ) → ((j : ℕ) → j < n → Plain b calls j) → length (bits b calls n) ≡ 7 → calls n ≡ Sample x →
        (bit : Bool) → edge_at ops b calls n ≡ rose bit →
        (state ops b calls (suc n)).part ≡ ops.address (ops.level (state ops b calls n).part (levels x)) (value (bit ∷ bits b calls n))

  pub record Recovers (b : Board S) : Type 0 where
    pub frees : TenFree b
    -- with SCL and SDA HIGH, a sample with SCL HIGH and SDA LOW
    pub awaits : b.bus.scl ≡ true → b.bus.sda ≡ true → (x : ℕ) → nat_lt x 32 ≡ true → odd x ≡ true → odd (x / 2) ≡ false → Awaits (step ops b (Sample x))
    -- a sample changes no stored byte
    pub stored : (x k i : ℕ) → ops.cell (step ops b (Sample x)).part k i ≡ ops.cell b.part k i

-- in every state of every run
unfoldable pub Recoverable : {S : Type 0} → Ops S → Board S → Type 0
Recoverable ops b = (calls : ℕ → Call) (n : ℕ) → Recovers ops (state ops b calls n)
