-- What a chip promises besides the laws of every part: in each state that its moves can make; and, of levels given again and of its
-- renewal, in every state.
use Rattle.std.specs.Prelude.{◌≡◌, ℕ, ◌%◌, Bool, true, false, List, Some, None}
use Rattle.part.specs.declared.levels.Levels.{Levels}
use Rattle.part.specs.Ops.{Ops}
use Rattle.part.specs.Keeps.{Settled}
use Rattle.part.specs.Moves.{Move, after}

module _ {S : Type 0} (ops : Ops S) where
  pub record Chip (s : S) : Type 0 where
    -- a cell's offset in the mask of a power cut is its number modulo 16
    pub offsets : (k i : ℕ) → ops.offset s k i ≡ i % 16
    -- while a write is under way it hears nothing, and has heard nothing
    pub deaf : (k : ℕ) → ops.busy s k ≡ true → (x : ℕ) → (ops.hears s x ≡ false) × (ops.heard s x ≡ false)
    -- it has heard one address byte at most
    pub one_heard : (x y : ℕ) → ops.heard s x ≡ true → ops.heard s y ≡ true → x ≡ y
    -- without an ACK for a first byte or a later one nothing stays staged
    pub aim_unacked : (a : ℕ) (l : Levels) (x : ℕ) → ops.aims s a l x ≡ false → (k i : ℕ) → ops.staged (ops.aim s a l x) k i ≡ None
    pub take_unacked : (a : ℕ) (l : Levels) (x : ℕ) → ops.takes s a l x ≡ false → (k i : ℕ) → ops.staged (ops.take s a l x) k i ≡ None
    -- at a clean STOP with WP LOW all that is staged comes under way
    pub begins : (l : Levels) → l.wp ≡ false → (k i v : ℕ) → ops.staged s k i ≡ Some v → ops.under_way (ops.stop s true l) k i ≡ Some v

  -- whatever is done to it from a state on
  abbrev pub AlwaysChip : S → Type 0
  AlwaysChip s = (moves : List Move) → Chip (after ops s moves)

  -- levels that are known stay known at a STOP at them, and at a finish; of the other moves each part keeps that by law (`Settles`)
  pub record StaysSettled : Type 0 where
    pub after_stop : (s : S) (l : Levels) (clean : Bool) → Settled ops l s → Settled ops l (ops.stop s clean l)
    pub after_finish : (s : S) (l : Levels) (q : ℕ) → Settled ops l s → Settled ops l (ops.finish s q)

  -- renewal makes it the fresh chip, whatever it was
  abbrev pub Renews : S → Type 0
  Renews fresh = (s : S) → ops.renew s ≡ fresh
