-- A part that hears only while nothing is under way, takes only what it has heard, and forgets it at the STOP,
-- has nothing staged and nothing heard while a write is under way. Assumes nothing.
use Rattle.std.proofs.Common.{◌≡◌, ℕ, ◌%◌, Bool, true, false, ◌⊎◌, List, [], ◌∷◌, Some, None, Option, sym, refl, ◌∙◌, inl, inr, ⊎_elim, arith}
use borrow.Author.Tests.{clash}
use Rattle.std.specs.Option.{option_or}
use Rattle.std.proofs.lemmas.Bool.{cases_eq}
use Rattle.part.specs.declared.levels.Levels.{Levels}
use Rattle.part.specs.Ops.{Ops}
use Rattle.part.specs.Keeps.{Keeps, Stored, Fades, Forgets, Finishes}
use Rattle.part.specs.Moves.{Move, starting, addressing, aiming, taking, giving, levelling, stopping, finishing, cutting, renewing, moved, after}
use Rattle.part.specs.Chips.{Chip, AlwaysChip}

-- what a chip shows of its single moves
pub record Shows {S : Type 0} (ops : Ops S) : Type 0 where
  pub offsets : (s : S) (k i : ℕ) → ops.offset s k i ≡ i % 16
  pub hears_free : (s : S) (k x : ℕ) → ops.busy s k ≡ true → ops.hears s x ≡ false
  pub one_heard : (s : S) (x y : ℕ) → ops.heard s x ≡ true → ops.heard s y ≡ true → x ≡ y
  pub aim_unacked : (s : S) (a : ℕ) (l : Levels) (x : ℕ) → ops.aims s a l x ≡ false → (k i : ℕ) → ops.staged (ops.aim s a l x) k i ≡ None
  pub take_unacked : (s : S) (a : ℕ) (l : Levels) (x : ℕ) → ops.takes s a l x ≡ false → (k i : ℕ) → ops.staged (ops.take s a l x) k i ≡ None
  pub takes_heard : (s : S) (a : ℕ) (l : Levels) (x : ℕ) → ops.takes s a l x ≡ true → ops.heard s a ≡ true
  pub hangs_up : (s : S) (clean : Bool) (l : Levels) (x : ℕ) → ops.heard (ops.stop s clean l) x ≡ false
  pub renews_free : (s : S) (k : ℕ) → ops.busy (ops.renew s) k ≡ false
  pub begins_all : (s : S) (l : Levels) (k i : ℕ) → l.wp ≡ false → ops.under_way (ops.stop s true l) k i ≡ option_or (ops.under_way s k i) (ops.staged s k i)

not_true : (b : Bool) → (b ≡ true → ⊥) → b ≡ false
not_true true h = absurd (h refl)
not_true false h = refl

module _ {S : Type 0} (ops : Ops S) (keeps : Keeps ops) (shows : Shows ops) where
  -- the part k has nothing under way, or nothing staged and nothing heard
  pub record Quiet (s : S) (k : ℕ) : Type 0 where
    pub unheard : (x : ℕ) → ops.heard s x ≡ false
    pub unstaged : (i : ℕ) → ops.staged s k i ≡ None

  abbrev Free : S → Type 0
  Free s = (k : ℕ) → ops.busy s k ≡ true → Quiet s k

  was_busy : (s t : S) → Stored ops s t → (k : ℕ) → ops.busy t k ≡ true → ops.busy s k ≡ true
  was_busy s t l k h =
      let u = (keeps.shape t).busy_by k h in
      (keeps.shape s).busy_if k u.0 u.1.0 (sym (l.under_way k u.0) ∙ u.1.1)

  unheard_after : (s t : S) → Forgets ops s t → ((x : ℕ) → ops.heard s x ≡ false) → (x : ℕ) → ops.heard t x ≡ false
  unheard_after s t f n x = not_true (ops.heard t x) (λ h. clash (sym (n x) ∙ f x h))

  faded : (s t : S) (k i : ℕ) → (ops.staged t k i ≡ ops.staged s k i) ⊎ (ops.staged t k i ≡ None) → ops.staged s k i ≡ None → ops.staged t k i ≡ None
  faded s t k i (inl e) n = e ∙ n
  faded s t k i (inr e) n = e

  calm : (s t : S) → Stored ops s t → Fades ops s t → Forgets ops s t → Free s → Free t
  calm s t l f g free k h =
      let q = free k (was_busy s t l k h) in
      record { unheard = unheard_after s t g q.unheard; unstaged = λ i. faded s t k i (f k i) (q.unstaged i) }

  addressed : (s : S) (x : ℕ) → Free s → Free (ops.address s x)
  addressed s x free k h =
      let a = keeps.addresses s x in
      let busy = was_busy s (ops.address s x) a.stored k h in
      let q = free k busy in
      record {
        unheard = λ y. not_true _ (λ e. ⊎_elim (λ o. clash (sym (q.unheard y) ∙ o)) (λ o. clash (sym (shows.hears_free s k x busy) ∙ o.1)) (a.heard y e));
        unstaged = λ i. faded s (ops.address s x) k i (a.fades k i) (q.unstaged i);
      }

  taken_by : (b : Bool) (s : S) (a : ℕ) (l : Levels) (x : ℕ) → ops.takes s a l x ≡ b → Free s → Free (ops.take s a l x)
  taken_by true s a l x e free k h =
      let q = free k (was_busy s (ops.take s a l x) (keeps.taking s a l x).stored k h) in
      absurd (clash (sym (q.unheard a) ∙ shows.takes_heard s a l x e))
  taken_by false s a l x e free k h =
      let t = keeps.taking s a l x in
      calm s (ops.take s a l x) t.stored (t.unacked e).1 t.forgets free k h

  no_write : (t : S) (k : ℕ) → ((i : ℕ) → ops.under_way t k i ≡ None) → ops.busy t k ≡ true → ⊥
  no_write t k n h = let u = (keeps.shape t).busy_by k h in let e = n u.0 in let f = u.1.1 in let z : ◌≡◌ {A = ℕ} 0 1 = cc in omega arith

  finished : (s t : S) (q : ℕ) → Finishes ops s q t → Free s → Free t
  finished s t q f free k h =
      ⊎_elim
      (λ e. absurd (no_write t k (λ i. rw e (f.ends i)) h))
      (λ n.
      let u = (keeps.shape t).busy_by k h in
      let was = (keeps.shape s).busy_if k u.0 u.1.0 (sym (f.other_under_way k u.0 n) ∙ u.1.1) in
      record { unheard = unheard_after s t f.forgets (free k was).unheard; unstaged = λ i. f.other_staged k i n ∙ (free k was).unstaged i })
      (cases_eq k q)

  step : (s : S) (m : Move) → Free s → Free (moved ops s m)
  step s starting free = let c = (keeps.starts s).calm in calm s _ c.stored c.fades c.forgets free
  step s (addressing x) free = addressed s x free
  step s (aiming a l x) free = let c = (keeps.aiming s a l x).calm in calm s _ c.stored c.fades c.forgets free
  step s (taking a l x) free = taken_by (ops.takes s a l x) s a l x refl free
  step s (giving a) free = let c = (keeps.gives s a).calm in calm s _ c.stored c.fades c.forgets free
  step s (levelling l) free = let c = (keeps.levels s l).calm in calm s _ c.stored c.fades c.forgets free
  step s (stopping clean l) free = λ k h. record { unheard = shows.hangs_up s clean l; unstaged = (keeps.stops s clean l).unstaged k }
  step s (finishing q) free = finished s (ops.finish s q) q (keeps.finishes s q) free
  step s (cutting p) free = λ k h. absurd (no_write (ops.cut s p) k ((keeps.cuts s p).ends k) h)
  step s renewing free = λ k h. absurd (clash (sym (shows.renews_free s k) ∙ h))

  -- with nothing under way in the cell, what is staged for it begins
  begun : (u w : Option ℕ) (v : ℕ) → w ≡ Some v → (u ≡ None → option_or u w ≡ Some v)
  begun u w v e n = rw n e

  idle_cell : (s : S) → Free s → (k i v : ℕ) → ops.staged s k i ≡ Some v → (o : Option ℕ) → ops.under_way s k i ≡ o → ops.under_way s k i ≡ None
  idle_cell s free k i v h None e = e
  idle_cell s free k i v h (Some u) e =
      let n = (free k ((keeps.shape s).busy_if k i u e)).unstaged i in
      let z : ◌≡◌ {A = ℕ} 0 1 = cc in absurd (omega arith)

  chip : (s : S) → Free s → Chip ops s
  chip s free = record {
    offsets = shows.offsets s;
    deaf = λ k h x. (shows.hears_free s k x h, (free k h).unheard x);
    one_heard = shows.one_heard s;
    aim_unacked = shows.aim_unacked s;
    take_unacked = shows.take_unacked s;
    begins = λ l low k i v h. shows.begins_all s l k i low ∙ begun (ops.under_way s k i) (ops.staged s k i) v h (idle_cell s free k i v h (ops.under_way s k i) refl);
  }

  all_after : (ms : List Move) (s : S) → Free s → Chip ops (after ops s ms)
  all_after [] s free = chip s free
  all_after (m ∷ ms) s free = all_after ms (moved ops s m) (step s m free)

  -- from a state with nothing under way
  pub always_chip : (s : S) → ((k : ℕ) → ops.busy s k ≡ false) → AlwaysChip ops s
  always_chip s idle ms = all_after ms s (λ k h. absurd (clash (sym (idle k) ∙ h)))
