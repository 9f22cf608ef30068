-- Each state of a run is what the rules make of the calls so far, said in the words of the wires.
use Rattle.std.specs.Prelude.{◌≡◌, ℕ, suc, ◌/◌, Bool, true, false, cond, not, ◌&&◌, nat_lt}
use Rattle.part.specs.Ops.{Ops}
use Rattle.part.specs.Moves.{after}
use Rattle.board.specs.declared.board.Board.{Board}
use Rattle.board.specs.declared.call.Call.{Call}
use Rattle.board.specs.declared.call.Call.TheVariants.{Sample, Finish, Cut}
use Rattle.board.specs.Engine.{numbered}
use Rattle.board.specs.Samples.{odd}
use Rattle.board.specs.Runs.{state, history, moves_at, pulls}

-- SCL after a call, and SDA on the wire, with whether a part pulls: HIGH where the master releases it and no part pulls
abbrev pub scl_after : Bool → Call → Bool
scl_after scl (Sample x) = cond (nat_lt x 32) (odd x) scl
scl_after scl (Finish k) = scl
scl_after scl (Cut p) = true

abbrev pub sda_after : Bool → Call → Bool → Bool
sda_after sda (Sample x) pulled = cond (nat_lt x 32) (odd (x / 2) && not pulled) sda
sda_after sda (Finish k) pulled = sda
sda_after sda (Cut p) pulled = true

module _ {S : Type 0} (ops : Ops S) where
  -- a sample with bit 5, 6 or 7 set, and a finish of no part of the board, or of one that has no write under way
  abbrev pub Refused : Board S → Call → Type 0
  Refused b (Sample x) = nat_lt x 32 ≡ false
  Refused b (Finish k) = (numbered ops b k && ops.busy b.part k) ≡ false
  Refused b (Cut p) = ⊥

  module _ (b : Board S) (calls : ℕ → Call) where
    -- from state n to the next
    pub record Step (n : ℕ) : Type 0 where
      -- the part goes through exactly the moves that the wires tell it of, a finish and a power cut besides
      pub part : (state ops b calls (suc n)).part ≡ after ops (state ops b calls n).part (moves_at ops b calls n)
      pub scl : (state ops b calls (suc n)).bus.scl ≡ scl_after (state ops b calls n).bus.scl (calls n)
      pub sda : (state ops b calls (suc n)).bus.sda ≡ sda_after (state ops b calls n).bus.sda (calls n) (pulls (state ops b calls (suc n)).bus.scl (history ops b calls (suc n)))
      -- a refused call changes nothing
      pub refused : Refused (state ops b calls n) (calls n) → state ops b calls (suc n) ≡ state ops b calls n

  unfoldable pub Obeys : Board S → Type 0
  Obeys b = (calls : ℕ → Call) (n : ℕ) → Step b calls n
