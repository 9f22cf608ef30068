-- Clock after clock of a recovery, and what its master's run comes to.
use Rattle.std.proofs.Common.{◌≡◌, ℕ, zero, suc, ◌+◌, ◌<◌, ◌≤◌, Bool, true, false, cond, ltb, ltb-true, ltb-false, List, [], ◌∷◌, ◌⊎◌, inl, inr, sym, refl, ap, ◌∙◌, arith}
use Rattle.std.proofs.Math.Nat.{le-suc_iff}
use Rattle.refusals.specs.Told.{Told, ok}
use Rattle.part.specs.Ops.{Ops}
use Rattle.part.specs.declared.levels.Levels.{Levels}
use Rattle.board.specs.declared.board.Board.{Board}
use Rattle.board.specs.Engine.{idle_bus, with_levels}
use Rattle.board.specs.Clocks.{clock, clocks, Frees}
use Rattle.board.specs.Runs.{SampledBy}
use Rattle.board.proofs.Clocks.{bound, at_most_nine, clock_low}
use Rattle.controller.specs.Master.{Master, ended, ◌then◌, run, samples_of}
use Rattle.controller.specs.Bytes.{put, stop, clock as clock_master}
use Rattle.controller.specs.Recovery.{release, clocking, recovering, released, Recovers}
use Rattle.controller.proofs.Runs.{put_sample, onward}
use Rattle.controller.proofs.Sampling.{job_sampled}

module _ {S : Type 0} (ops : Ops S) (l : Levels) where
  put_run : (scl sda : Bool) (b : Board S) → run ops (put l scl sda) b ≡ (with_levels ops b scl sda l, (with_levels ops b scl sda l).bus.sda)
  put_run scl sda b = put_sample ops l scl sda b _ _ refl refl

  clock_run : (b : Board S) → run ops (clock_master l) b ≡ (clock ops l b, (clock ops l b).bus.sda)
  unfolding clock_master
  clock_run b = onward ops (put l false true) (λ _. put l true true) b _ _ (put_run false true b) (put_run true true _)

  -- from the clock's contract to the board and the level
  clocked : (b c : Board S) (high : Bool) {level : Bool} → high ≡ level → run ops (clock_master l) b ≡ (c, high) → (c ≡ clock ops l b) × ((clock ops l b).bus.sda ≡ level)
  clocked b c high is e = (ap (λ r. r.0) (sym e ∙ clock_run b), ap (λ r. r.1) (sym (clock_run b) ∙ e) ∙ is)

  -- before clock number k: all before it read LOW
  pub record SoFar (start b : Board S) (k : ℕ) : Type 0 where
    pub before : ℕ
    pub number : k ≡ suc before
    pub board : b ≡ clocks ops l before start
    pub low : (i : ℕ) → 1 ≤ i → i ≤ before → (clocks ops l i start).bus.sda ≡ false
    pub left : bound b + before ≤ 9

  pub so_far_none : (b : Board S) → SoFar b b 1
  so_far_none b =
      record { before = 0; number = refl; board = refl; low = λ i h k. let none : ⊥ = omega (arith, h, k) in absurd none; left = omega (arith, at_most_nine b) }

  low_too : (start : Board S) (j : ℕ) → ((i : ℕ) → 1 ≤ i → i ≤ j → (clocks ops l i start).bus.sda ≡ false) → (clocks ops l (suc j) start).bus.sda ≡ false → (i : ℕ)
      → 1 ≤ i → (i ≤ j) ⊎ (i ≡ suc j) → (clocks ops l i start).bus.sda ≡ false
  low_too start j low last i h (inl k) = low i h k
  low_too start j low last i h (inr e) = ap (λ i. (clocks ops l i start).bus.sda) e ∙ last

  -- one more that reads LOW
  pub so_far_more : (start b c : Board S) (k : ℕ) (high : Bool) → high ≡ false → SoFar start b k → run ops (clock_master l) b ≡ (c, high) → SoFar start c (k + 1)
  so_far_more start b c k high is s e =
      let j = s.before in
      let stepped = clocked b c high is e in
      let last : (clocks ops l (suc j) start).bus.sda ≡ false = ap (λ b. (clock ops l b).bus.sda) (sym s.board) ∙ stepped.1 in
      let fewer : bound c < bound b = rw stepped.0 (clock_low ops b l stepped.1) in
      record {
        before = suc j;
        number = omega (arith, s.number);
        board = stepped.0 ∙ ap (clock ops l) s.board;
        low = λ i h k. low_too start j s.low last i h (le-suc_iff.0 k);
        left = omega (arith, fewer, s.left);
      }

  pub so_far_small : (start b : Board S) (k : ℕ) → SoFar start b k → k ≤ 10
  so_far_small start b k s = omega (arith, s.number, s.left)

  pub nearer : (b c : Board S) (high : Bool) → high ≡ false → run ops (clock_master l) b ≡ (c, high) → bound c < bound b
  nearer b c high is e = let stepped = clocked b c high is e in rw stepped.0 (clock_low ops b l stepped.1)

  -- the first that reads HIGH
  pub high_board : (start b c : Board S) (k : ℕ) (level : Bool) → level ≡ true → SoFar start b k → run ops (clock_master l) b ≡ (c, level) → c ≡ clocks ops l k start
  high_board start b c k level is s e =
      (clocked b c level is e).0 ∙ ap (clock ops l) s.board ∙ ap (λ k. clocks ops l k start) (sym s.number)

  pub high_frees : (start b c : Board S) (k : ℕ) (level : Bool) → level ≡ true → SoFar start b k → run ops (clock_master l) b ≡ (c, level) → Frees ops l k start
  high_frees start b c k level is s e =
      let stepped = clocked b c level is e in
      record {
        least = omega (arith, s.number);
        most = so_far_small start b k s;
        low = λ i h m. s.low i h (omega (arith, m, s.number));
        high = ap (λ c. c.bus.sda) (sym (high_board start b c k level is s e) ∙ stepped.0) ∙ stepped.1;
      }

  -- which way a master goes on by a level
  switch : (t u : Bool) (m n : Master (Told (List ℕ))) (b : Board S) → t ≡ u → run ops (cond t m n) b ≡ run ops (cond u m n) b
  switch t u m n b e = ap (λ t. run ops (cond t m n) b) e

  abbrev after_clocks : ℕ → Master (Told (List ℕ))
  after_clocks k = release l then (λ _. ended (ok (k ∷ [])))

  -- a master that clocks on comes to the first clock that reads HIGH
  reached : (start : Board S) (k : ℕ) → Frees ops l k start → (n j : ℕ) → j < k → k ≤ j + n → run ops (clocking l n (j + 1)) (clocks ops l j start) ≡ run ops (after_clocks k) (clocks ops l k start)
  unfolding clocking
  reached start k f zero j h m = let none : ⊥ = omega (arith, h, m) in absurd none
  reached start k f (suc n) j h m =
      onward ops (clock_master l) (λ high. cond high (after_clocks (j + 1)) (clocking l n (j + 1 + 1))) (clocks ops l j start) (clocks ops l (suc j) start) _
      (clock_run (clocks ops l j start)) (by_test (ltb (suc j) k) refl (reached start k f n (suc j)))
    where
      by_test : (t : Bool) → ltb (suc j) k ≡ t
          → (suc j < k → k ≤ suc j + n → run ops (clocking l n (suc j + 1)) (clocks ops l (suc j) start) ≡ run ops (after_clocks k) (clocks ops l k start))
          → run ops (cond (clocks ops l (suc j) start).bus.sda (after_clocks (j + 1)) (clocking l n (j + 1 + 1))) (clocks ops l (suc j) start) ≡ run ops (after_clocks k) (clocks ops l k start)
      by_test true e go =
          let less : suc j < k = ltb-true (suc j) k e in
          let next : j + 1 + 1 ≡ suc j + 1 = omega arith in
          switch _ _ _ _ _ (f.low (suc j) (omega arith) less) ∙ ap (λ i. run ops (clocking l n i) (clocks ops l (suc j) start)) next ∙ go less (omega (arith, m))
      by_test false e go =
          let most : k ≤ suc j = ltb-false (suc j) k e in
          let here : suc j ≡ k = omega (arith, h, most) in
          let number : j + 1 ≡ k = omega (arith, h, most) in
          let high : (clocks ops l (suc j) start).bus.sda ≡ true = ap (λ i. (clocks ops l i start).bus.sda) here ∙ f.high in
          switch _ _ _ _ _ high ∙ (λ i. run ops (after_clocks (number i)) (clocks ops l (here i) start))

  stop_run : (b : Board S) → (run ops (stop l) b).0 ≡ with_levels ops (with_levels ops (with_levels ops b false false l) true false l) true true l
  unfolding stop
  stop_run b =
      ap (λ r. r.0) (onward ops (put l false false) (λ _. put l true false then (λ _. put l true true)) b _ _ (put_run false false b)
      (onward ops (put l true false) (λ _. put l true true) _ _ _ (put_run true false _) (put_run true true _)))

  release_run : (b : Board S) → (run ops (release l) b).0 ≡ released ops l b
  unfolding release
  release_run b =
      ap (λ z. z.0) (onward ops (put l true false) (λ _. stop l) b _ _ (put_run true false b) refl) ∙ stop_run (with_levels ops b true false l)

  -- a whole recovery, by its master
  pub recovered : (k : ℕ) (b c d : Board S) → Frees ops l k b → c ≡ clocks ops l k b → (run ops (release l) c).0 ≡ d → run ops (recovering l) b ≡ (d, ok (k ∷ []))
  recovered k b c d f is e =
      reached b k f 10 0 (omega (arith, f.least)) (omega (arith, f.most))
      ∙ onward ops (release l) (λ _. ended (ok (k ∷ []))) (clocks ops l k b) d _ (λ i. ((ap (λ b. (run ops (release l) b).0) (sym is) ∙ e) i, (run ops (release l) (clocks ops l k b)).1)) refl

  -- a clock ends with SCL HIGH; from both wires HIGH a START and a STOP leave idle wires
  clocked_high : (k : ℕ) (b : Board S) → 1 ≤ k → (clocks ops l k b).bus.scl ≡ true
  clocked_high zero b h = absurd (omega (arith, h))
  clocked_high (suc n) b h = refl

  released_idle : (b : Board S) → b.bus.scl ≡ true → b.bus.sda ≡ true → (released ops l b).bus ≡ idle_bus
  released_idle b scl sda = rw (scl, sda) refl

  -- and by the board it leaves
  pub recovers : (k : ℕ) (b c d : Board S) → Frees ops l k b → c ≡ clocks ops l k b → (run ops (release l) c).0 ≡ d → Recovers ops l k b d
  recovers k b c d f is e =
      let after : d ≡ released ops l (clocks ops l k b) = sym e ∙ release_run c ∙ ap (released ops l) is in
      record { frees = f; after_is = after; idle = ap (λ d. d.bus) after ∙ released_idle (clocks ops l k b) (clocked_high k b f.least) f.high }

  pub recovery_sampled : (k : ℕ) (b c d : Board S) → Frees ops l k b → c ≡ clocks ops l k b → (run ops (release l) c).0 ≡ d → SampledBy ops b (samples_of ops (recovering l) b) d
  recovery_sampled k b c d f is e = job_sampled ops (recovering l) b d _ (recovered k b c d f is e)

pub ruleset recovery = (recovered, recovers)

pub ruleset free_clocks = (so_far_none, so_far_more, so_far_small, nearer)
