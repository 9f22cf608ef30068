-- A master: from what it has read so far it says which sample it gives next, or it has ended with an answer.
use Rattle.std.specs.Prelude.{ℕ, Bool, List, [], ◌∷◌}
use Rattle.part.specs.Ops.{Ops}
use Rattle.board.specs.declared.board.Board.{Board}
use Rattle.board.specs.Engine.{sampled}

pub data Master (A : Type 0) : Type 0 where
  ended : A → Master A
  gives : ℕ → (Bool → Master A) → Master A

-- one master after another, which goes on from the answer
infixr 20 ◌then◌
abbrev pub ◌then◌ : {A B : Type 0} → Master A → (A → Master B) → Master B
◌then◌ (ended a) f = f a
◌then◌ (gives x k) f = gives x (λ level. k level then f)

module _ {S : Type 0} (ops : Ops S) where
  -- the board after a sample, and SDA on the wire then
  unfoldable pub after_sample : Board S → ℕ → Board S
  after_sample b x = sampled ops b x

  unfoldable pub reads : Board S → ℕ → Bool
  reads b x = (sampled ops b x).bus.sda

  -- the board after a master's run on it, and the master's answer
  abbrev pub run : {A : Type 0} → Master A → Board S → Board S × A
  run (ended a) b = (b, a)
  run (gives x k) b = run (k (reads b x)) (after_sample b x)

  -- the samples that it gives in that run
  abbrev pub samples_of : {A : Type 0} → Master A → Board S → List ℕ
  samples_of (ended a) b = []
  samples_of (gives x k) b = x ∷ samples_of (k (reads b x)) (after_sample b x)
