-- The recovery of the wires at the levels l of the lines beside them: as a master, and by the board it leaves.
use Rattle.std.specs.Prelude.{◌≡◌, ℕ, zero, suc, ◌+◌, Bool, true, false, cond, List, [], ◌∷◌}
use Rattle.refusals.specs.Told.{Told, ok}
use Rattle.part.specs.Ops.{Ops}
use Rattle.part.specs.declared.levels.Levels.{Levels}
use Rattle.board.specs.declared.board.Board.{Board}
use Rattle.board.specs.Engine.{idle_bus, with_levels}
use Rattle.board.specs.Clocks.{clocks, Frees}
use Rattle.controller.specs.Master.{Master, ended, ◌then◌}
use Rattle.controller.specs.Bytes.{put, stop, clock}

-- SDA goes LOW with SCL HIGH, and then comes STOP
unfoldable pub release : Levels → Master Bool
release l = put l true false then (λ _. stop l)

-- Clocks up to the first at which SDA reads HIGH, numbered from k on, n at most.
unfoldable pub clocking : Levels → ℕ → ℕ → Master (Told (List ℕ))
clocking l zero k = ended (ok [])
clocking l (suc n) k = clock l then (λ high. cond high (release l then (λ _. ended (ok (k ∷ [])))) (clocking l n (k + 1)))

-- Ten clocks at most, and no board needs more (`Recovers`): that they run out never comes.
abbrev pub recovering : Levels → Master (Told (List ℕ))
recovering l = clocking l 10 1

module _ {S : Type 0} (ops : Ops S) where
  -- SDA LOW with SCL HIGH, and then STOP: 10, 00, 10, 11
  abbrev pub released : Levels → Board S → Board S
  released l b = with_levels ops (with_levels ops (with_levels ops (with_levels ops b true false l) false false l) true false l) true true l

  -- a recovery of k clocks, from one board to another, on which the wires are idle
  pub record Recovers (l : Levels) (k : ℕ) (before after : Board S) : Type 0 where
    pub frees : Frees ops l k before
    pub after_is : after ≡ released l (clocks ops l k before)
    pub idle : after.bus ≡ idle_bus
