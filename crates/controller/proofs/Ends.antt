-- START and STOP on a board, as the part sees them.
use Rattle.std.proofs.Common.{◌≡◌, Bool, true, false, refl}
use Rattle.part.specs.Keeps.{Keeps, Settled}
use Rattle.part.specs.Ops.{Ops}
use Rattle.part.specs.declared.levels.Levels.{Levels}
use Rattle.board.specs.Engine.{with_levels, idle}
use Rattle.board.specs.declared.board.Board.{Board}
use Rattle.board.specs.declared.bus.Kind.{Kind}
use Rattle.board.specs.declared.bus.Kind.TheVariants.{Address, First, Later}
use Rattle.board.specs.declared.bus.Phase.TheVariants.{Closed, Deaf, Taking}
use Rattle.controller.specs.Bytes.{put, start, stop}
use Rattle.controller.specs.Master.{◌then◌, run}
use Rattle.controller.proofs.Bits.{at, taking, deaf, put_run, three}
use Rattle.controller.proofs.Runs.{onward}

-- a byte that comes after the address byte
abbrev pub AfterAddress : Kind → Type 0
AfterAddress Address = ⊥
AfterAddress (First y) = Unit {0}
AfterAddress (Later y) = Unit {0}

module _ {S : Type 0} (ops : Ops S) (keeps : Keeps ops) (l : Levels) where
  starts : (b c d e f : Board S) → with_levels ops b false true l ≡ c → with_levels ops c true true l ≡ d → with_levels ops d true false l ≡ e → with_levels ops e false false l ≡ f →
      run ops (start l) b ≡ (f, f.bus.sda)
  unfolding start
  starts b c d e f g h j k =
      onward ops (put l false true) (λ _. put l true true then (λ _. put l true false then (λ _. put l false false))) b c c.bus.sda
      (put_run ops l false true b c g) (three ops l true true false true false false c d e f h j k)

  -- a START on idle wires: the part is handed the levels, and then it is told
  pub first_start : (s : S) → run ops (start l) (idle s) ≡ (taking false Address (ops.start (ops.level s l)), false)
  first_start s =
      let t : S = ops.level s l in
      let settled : Settled ops l t = keeps.settles.after_level s l in
      let started : Settled ops l (ops.start t) = keeps.settles.after_start t l settled in
      starts (idle s) (at false true Closed t) (at true true Closed t) (at true false (Taking Address 0 0) (ops.start t)) (taking false Address (ops.start t))
      refl
      (λ i. at true true Closed (settled i))
      (λ i. at true false (Taking Address 0 0) (ops.start (settled i)))
      (λ i. taking false Address (started i))

  module _ (s : S) (settled : Settled ops l s) where
    -- a repeated one
    pub next_start : (sda : Bool) (kind : Kind) → run ops (start l) (taking sda kind s) ≡ (taking false Address (ops.start s), false)
    next_start sda kind =
        let t : S = ops.start s in
        let started : Settled ops l t = keeps.settles.after_start s l settled in
        starts (taking sda kind s) (taking true kind s) (at true true (Taking kind 1 1) s) (at true false (Taking Address 0 0) t) (taking false Address t)
        (λ i. taking true kind (settled i))
        (λ i. at true true (Taking kind 1 1) (settled i))
        (λ i. at true false (Taking Address 0 0) (ops.start (settled i)))
        (λ i. taking false Address (started i))

    -- a STOP after an acknowledged byte of a write is clean
    pub clean_stop : (sda : Bool) (kind : Kind) → AfterAddress kind → run ops (stop l) (taking sda kind s) ≡ (idle (ops.stop s true l), true)
    unfolding stop
    clean_stop sda (First z) after =
        three ops l false true true false false true (taking sda (First z) s) (taking false (First z) s) (at true false (Taking (First z) 1 0) s) (idle (ops.stop s true l))
        (λ i. taking false (First z) (settled i)) (λ i. at true false (Taking (First z) 1 0) (settled i)) (λ i. idle (ops.stop (settled i) true l))
    clean_stop sda (Later z) after =
        three ops l false true true false false true (taking sda (Later z) s) (taking false (Later z) s) (at true false (Taking (Later z) 1 0) s) (idle (ops.stop s true l))
        (λ i. taking false (Later z) (settled i)) (λ i. at true false (Taking (Later z) 1 0) (settled i)) (λ i. idle (ops.stop (settled i) true l))
    clean_stop sda Address after = absurd after

    -- and one after a byte without an ACK is not
    pub deaf_stop : run ops (stop l) (deaf s) ≡ (idle (ops.stop s false l), true)
    unfolding stop
    deaf_stop =
        three ops l false true true false false true (deaf s) (at false false Deaf s) (at true false Deaf s) (idle (ops.stop s false l))
        (λ i. at false false Deaf (settled i)) (λ i. at true false Deaf (settled i)) (λ i. idle (ops.stop (settled i) false l))
