-- Clocks: SCL LOW and then HIGH with SDA released, at the levels l of the other lines.
use Rattle.std.specs.Prelude.{◌≡◌, ℕ, zero, suc, ◌<◌, ◌≤◌, true, false}
use Rattle.part.specs.declared.levels.Levels.{Levels}
use Rattle.part.specs.Ops.{Ops}
use Rattle.board.specs.declared.board.Board.{Board}
use Rattle.board.specs.Engine.{with_levels}

module _ {S : Type 0} (ops : Ops S) where
  abbrev pub clock : Levels → Board S → Board S
  clock l b = with_levels ops (with_levels ops b false true l) true true l

  abbrev pub clocks : Levels → ℕ → Board S → Board S
  clocks l zero b = b
  clocks l (suc n) b = clock l (clocks l n b)

  -- clock number k is the first at which SDA reads HIGH, and one of ten
  pub record Frees (l : Levels) (k : ℕ) (b : Board S) : Type 0 where
    pub least : 1 ≤ k
    pub most : k ≤ 10
    pub low : (j : ℕ) → 1 ≤ j → j < k → (clocks l j b).bus.sda ≡ false
    pub high : (clocks l k b).bus.sda ≡ true
