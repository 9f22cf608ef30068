-- The lock of an X9520 that is one of two parts: it sits in itself, so it sits in the pair, and the lock holds of each that sits there. Assumes nothing.
use Rattle.std.proofs.Common.{◌≡◌, ◌+◌, ap, ◌∙◌, subst, arith}
use Rattle.part.specs.Ops.{Ops}
use Rattle.part.specs.Keeps.{Keeps}
use Rattle.part.specs.Seats.{Itself}
use Rattle.eeprom.proofs.Seat.{sits_itself}
use Rattle.x9520.specs.declared.state.X9520.{X9520}
use Rattle.x9520.specs.Chip.{x9520, as_part}
use Rattle.x9520.specs.Keeping.{moves}
use Rattle.x9520.specs.State.{fresh}
use Rattle.pair.specs.declared.Pair.{Pair}
use Rattle.pair.specs.Both.{both, join}
use Rattle.pair.proofs.Seating.{firsts, seconds}
use Rattle.board.specs.declared.board.Board.{Board}
use Rattle.board.specs.Engine.{idle}
use Rattle.runs.specs.Lawful.{Lawful}
use Rattle.runs.specs.Lock.{LockHolds, Locks}

itself : Itself x9520
itself = sits_itself as_part moves

module _ {S : Type 0} (ops : Ops S) where
  pub first_lock : (b : Board (Pair X9520 S)) → Lawful (both x9520 ops) b → LockHolds (both x9520 ops) b 0
  unfolding Locks
  first_lock b law = law.locks (λ s. 0) (λ s. s.first) ((firsts x9520 ops x9520 (λ s. 0) (λ s. s)).0 itself.seat)

  -- its number comes after those of the first part, which the making of the board leaves as they are
  pub second_lock : Keeps ops → (s : S) (b : Board (Pair S X9520)) → b ≡ idle (join (ops.renew s) fresh) → Lawful (both ops x9520) b → LockHolds (both ops x9520) b (ops.count s)
  unfolding Locks
  second_lock keeps s b made law =
      let z : ops.count s + 0 ≡ ops.count s = omega arith in
      let number : ops.count b.part.first + 0 ≡ ops.count s = ap (λ d. ops.count d.part.first + 0) made ∙ ap (λ n. n + 0) (keeps.renews s).count ∙ z in
      subst (LockHolds (both ops x9520) b) number (law.locks (λ p. ops.count p.first + 0) (λ p. p.second) ((seconds ops x9520 x9520 keeps (λ s. 0) (λ s. s)).0 itself.seat))
