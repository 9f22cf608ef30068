-- What the moves of two parts leave as it was, the pair leaves as it was. Assumes nothing.
use Rattle.std.specs.Prelude.{◌≡◌, Bool, true, false, ◌⊎◌, None, refl}
use Rattle.std.proofs.Common.{ap, inl}
use Rattle.part.specs.declared.levels.Levels.{Levels}
use Rattle.part.specs.Ops.{Ops}
use Rattle.part.specs.Keeps.{Fixed, Stored, Fades, Unstaged, Forgets, Unheard, Still, Calm, Passes, Settled}
use Rattle.pair.specs.declared.Pair.{Pair}
use Rattle.pair.specs.Both.{both, one}
use Rattle.pair.specs.Numbers.{by_number, at_number, by_byte}

-- a part that does not move
pub fixed_self : {S : Type 0} (o : Ops S) (s : S) → Fixed o s s
fixed_self o s = record {
  count = refl;
  has = λ n. refl;
  owner = λ n. refl;
  cells = λ k. refl;
  wipers = λ k. refl;
  offset = λ k i. refl;
}

stored_self : {S : Type 0} (o : Ops S) (s : S) → Stored o s s
stored_self o s = record { cell = λ k i. refl; under_way = λ k i. refl }

module _ {A B : Type 0} (a : Ops A) (b : Ops B) where
  -- both parts move; the first's count stays, so that a number means the same part before and after
  pub fixed_both : (s t : Pair A B) → Fixed a s.first t.first → Fixed b s.second t.second → Fixed (both a b) s t
  fixed_both s t p q = record {
    count = rw (p.count, q.count);
    has = λ n. rw (p.has n, q.has n);
    owner = λ n. rw (p.has n, p.owner n, p.count, q.owner n);
    cells = λ k. by_number a b (λ u v. v.cells ≡ u.cells) s t k p.count (λ _. p.cells k) (λ _. q.cells _);
    wipers = λ k. by_number a b (λ u v. v.wipers ≡ u.wipers) s t k p.count (λ _. p.wipers k) (λ _. q.wipers _);
    offset = λ k i. by_number a b (λ u v. v.offset i ≡ u.offset i) s t k p.count (λ _. p.offset k i) (λ _. q.offset _ i);
  }

  stored_both : (s t : Pair A B) → Fixed a s.first t.first → Stored a s.first t.first → Stored b s.second t.second → Stored (both a b) s t
  stored_both s t c p q = record {
    cell = λ k i. by_number a b (λ u v. v.cell i ≡ u.cell i) s t k c.count (λ _. p.cell k i) (λ _. q.cell _ i);
    under_way = λ k i. by_number a b (λ u v. v.under_way i ≡ u.under_way i) s t k c.count (λ _. p.under_way k i) (λ _. q.under_way _ i);
  }

  pub fades_both : (s t : Pair A B) → Fixed a s.first t.first → Fades a s.first t.first → Fades b s.second t.second → Fades (both a b) s t
  fades_both s t c p q k i = by_number a b (λ u v. (v.staged i ≡ u.staged i) ⊎ (v.staged i ≡ None)) s t k c.count (λ _. p k i) (λ _. q _ i)

  pub still_both : (s t : Pair A B) → Fixed a s.first t.first → Still a s.first t.first → Still b s.second t.second → Still (both a b) s t
  still_both s t c p q k j = by_number a b (λ u v. v.tap j ≡ u.tap j) s t k c.count (λ _. p k j) (λ _. q _ j)

  pub forgets_both : (s t : Pair A B) → Fixed a s.first t.first → Forgets a s.first t.first → Forgets b s.second t.second → Forgets (both a b) s t
  forgets_both s t c p q x = by_byte a b (λ u v. v ≡ true → u ≡ true) a.heard b.heard s t x (c.has _) (p x) (q x)

  pub unheard_both : (t : Pair A B) → Unheard a t.first → Unheard b t.second → Unheard (both a b) t
  unheard_both t p q x = by_byte a b (λ _ v. v ≡ false) a.heard b.heard t t x refl (p x) (q x)

  pub calm_both : (s t : Pair A B) → Calm a s.first t.first → Calm b s.second t.second → Calm (both a b) s t
  calm_both s t p q =
      let c = p.fixed in
      record {
        fixed = fixed_both s t c q.fixed;
        stored = stored_both s t c p.stored q.stored;
        fades = fades_both s t c p.fades q.fades;
        forgets = forgets_both s t c p.forgets q.forgets;
      }

  pub passes_both : (s t : Pair A B) → Passes a s.first t.first → Passes b s.second t.second → Passes (both a b) s t
  passes_both s t p q = record {
    calm = calm_both s t p.calm q.calm;
    still = still_both s t p.calm.fixed p.still q.still;
  }

  pub settles_both : (s t : Pair A B) (l : Levels) → (Settled a l s.first → Settled a l t.first) → (Settled b l s.second → Settled b l t.second) → Settled (both a b) l s → Settled (both a b) l t
  settles_both s t l p q h = rw (p (ap (λ w. w.first) h), q (ap (λ w. w.second) h))

  pub unstaged_both : (t : Pair A B) → Unstaged a t.first → Unstaged b t.second → Unstaged (both a b) t
  unstaged_both t p q k i = at_number a b (λ v. v.staged i ≡ None) t k (λ _. p k i) (λ _. q _ i)

  -- one part moves, with whether it is the first
  pub one_fixed : (h : Bool) (f : A → A) (g : B → B) (s : Pair A B) → Fixed a s.first (f s.first) → Fixed b s.second (g s.second) → Fixed (both a b) s (one h f g s)
  one_fixed true f g s p q = fixed_both s _ p (fixed_self b s.second)
  one_fixed false f g s p q = fixed_both s _ (fixed_self a s.first) q

  pub one_stored : (h : Bool) (f : A → A) (g : B → B) (s : Pair A B) → Fixed a s.first (f s.first) → Stored a s.first (f s.first) → Stored b s.second (g s.second)
      → Stored (both a b) s (one h f g s)
  one_stored true f g s c p q = stored_both s _ c p (stored_self b s.second)
  one_stored false f g s c p q = stored_both s _ (fixed_self a s.first) (stored_self a s.first) q

  pub one_fades : (h : Bool) (f : A → A) (g : B → B) (s : Pair A B) → Fixed a s.first (f s.first) → Fades a s.first (f s.first) → Fades b s.second (g s.second) → Fades (both a b) s (one h f g s)
  one_fades true f g s c p q = fades_both s _ c p (λ k i. inl refl)
  one_fades false f g s c p q = fades_both s _ (fixed_self a s.first) (λ k i. inl refl) q

  pub one_still : (h : Bool) (f : A → A) (g : B → B) (s : Pair A B) → Fixed a s.first (f s.first) → Still a s.first (f s.first) → Still b s.second (g s.second) → Still (both a b) s (one h f g s)
  one_still true f g s c p q = still_both s _ c p (λ k j. refl)
  one_still false f g s c p q = still_both s _ (fixed_self a s.first) (λ k j. refl) q

  pub one_forgets : (h : Bool) (f : A → A) (g : B → B) (s : Pair A B) → Fixed a s.first (f s.first) → Forgets a s.first (f s.first) → Forgets b s.second (g s.second)
      → Forgets (both a b) s (one h f g s)
  one_forgets true f g s c p q = forgets_both s _ c p (λ x e. e)
  one_forgets false f g s c p q = forgets_both s _ (fixed_self a s.first) (λ x e. e) q

  pub one_passes : (h : Bool) (f : A → A) (g : B → B) (s : Pair A B) → Passes a s.first (f s.first) → Passes b s.second (g s.second) → Passes (both a b) s (one h f g s)
  one_passes h f g s p q =
      let c = p.calm.fixed in
      record {
        calm = record {
          fixed = one_fixed h f g s c q.calm.fixed;
          stored = one_stored h f g s c p.calm.stored q.calm.stored;
          fades = one_fades h f g s c p.calm.fades q.calm.fades;
          forgets = one_forgets h f g s c p.calm.forgets q.calm.forgets;
        };
        still = one_still h f g s c p.still q.still;
      }

  pub one_settles : (h : Bool) (f : A → A) (g : B → B) (s : Pair A B) (l : Levels) → (Settled a l s.first → Settled a l (f s.first))
      → (Settled b l s.second → Settled b l (g s.second)) → Settled (both a b) l s → Settled (both a b) l (one h f g s)
  one_settles true f g s l p q = settles_both s _ l p (λ e. e)
  one_settles false f g s l p q = settles_both s _ l (λ e. e) q
