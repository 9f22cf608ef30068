-- Why a stored byte may change: an acknowledged write to its part that carried the new byte, ended by a clean STOP with WP LOW.
use Rattle.std.specs.Prelude.{◌≡◌, ℕ, suc, ◌/◌, ◌<◌, ◌≤◌, Bool, true, false, ◌⊎◌, List, [], ◌∷◌, Some, None}
use Rattle.part.specs.Ops.{Ops}
use Rattle.board.specs.declared.board.Board.{Board}
use Rattle.board.specs.declared.call.Call.{Call}
use Rattle.board.specs.declared.call.Call.TheVariants.{Sample, Finish, Cut}
use Rattle.board.specs.Samples.{levels}
use Rattle.board.specs.Wires.{stopped, Byte, Transfer, address, reading, is_clean, values, carried}
use Rattle.board.specs.Runs.{History, edge_of, state, history}

-- WP in a sample
abbrev pub wp_of : Call → Bool
wp_of (Sample x) = (levels x).wp
wp_of (Finish k) = false
wp_of (Cut p) = false

abbrev pub Among : ℕ → List ℕ → Type 0
Among v [] = ⊥
Among v (x ∷ xs) = (v ≡ x) ⊎ Among v xs

-- at the ninth rise of every byte a part pulled
abbrev pub EachPulled : List Byte → Type 0
EachPulled [] = Unit {0}
EachPulled (x ∷ bs) = (x.pulled ≡ true) × EachPulled bs

-- From the board b to c this call is the clean STOP, with WP LOW, of an acknowledged write to the numbered part k, and v is among the bytes
-- that the write carried; h is what was before.
pub record Writes {S : Type 0} (ops : Ops S) (b : Board S) (call : Call) (c : Board S) (h : History) (k v : ℕ) : Type 0 where
  pub stop : edge_of ops b call c ≡ stopped
  pub low : wp_of call ≡ false
  pub t : Transfer
  pub ongoing : h.ongoing ≡ Some t
  pub clean : is_clean t ≡ true
  pub writing : reading t.bytes ≡ false
  pub mine : ops.owner b.part (address t.bytes / 2) ≡ Some k
  pub acked : EachPulled t.bytes
  pub carries : Among v (carried (values t.bytes))

module _ {S : Type 0} (ops : Ops S) (b : Board S) (calls : ℕ → Call) where
  -- one of the calls from state p to state q does
  pub record Written (p q k v : ℕ) : Type 0 where
    pub n : ℕ
    pub from : p ≤ n
    pub to : n < q
    pub write : Writes ops (state ops b calls n) (calls n) (state ops b calls (suc n)) (history ops b calls n) k v

-- A cell with no write under way holds the same byte in a later state, or it was written in between.
unfoldable pub Caused : {S : Type 0} → Ops S → Board S → Type 0
Caused ops b = (calls : ℕ → Call) (p q k i : ℕ) → p ≤ q → ops.under_way (state ops b calls p).part k i ≡ None →
    (ops.cell (state ops b calls q).part k i ≡ ops.cell (state ops b calls p).part k i)
    ⊎ Written ops b calls p q k (ops.cell (state ops b calls q).part k i)
