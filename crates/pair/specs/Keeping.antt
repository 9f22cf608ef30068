-- Two parts that keep the laws keep them as a pair. Assumes nothing.
-- p is a fact of the first part and q one of the second; h is whether the byte or the number is for the first.
use Rattle.std.specs.Prelude.{◌≡◌, ℕ, ◌/◌, ◌<◌, Bool, true, false, cond, ◌⊎◌, Some, None, Option, ◌≢◌, refl}
use Rattle.std.proofs.Common.{sym, ◌∙◌, inl, inr, arith}
use Rattle.std.proofs.lemmas.Bool.{ltb-true, ltb-false, or_left, or_right, cond-true, cond-false}
use Rattle.std.specs.Option.{unwrap_or}
use Rattle.part.specs.declared.levels.Levels.{Levels}
use Rattle.part.specs.declared.power.PowerCut.{PowerCut}
use Rattle.part.specs.Ops.{Ops}
use Rattle.part.specs.Keeps.{Keeps, Shape, Fixed, Fades, UnstagedAt, Still, Starts, Addresses, Aims, Takes, Stops, Finishes, Cuts, Settles, Marked}
use Rattle.pair.specs.declared.Pair.{Pair}
use Rattle.pair.specs.Both.{both, join, one, in_first, rest, for_first, addressed}
use Rattle.pair.specs.Numbers.{Seen, seen, by_number, at_number, by_byte, unshift, reshift, owned}
use Rattle.pair.specs.Moves.{fixed_self, fixed_both, fades_both, still_both, forgets_both, unheard_both, calm_both, passes_both, settles_both, unstaged_both, one_fixed, one_stored, one_fades, one_still, one_forgets, one_passes, one_settles}

-- one write of x may come to be staged, in cell n of the part that owns the address
abbrev Staging : ℕ → ℕ → ℕ → Type 0 → Option ℕ → Option ℕ → Type 0
Staging n x i Owns before after = (after ≡ before) ⊎ ((after ≡ None) ⊎ ((i ≡ n) × Owns × (after ≡ Some x)))

staging_by : {Owns Owns' : Type 0} (n x i : ℕ) (before after : Option ℕ) → (Owns → Owns') → Staging n x i Owns before after → Staging n x i Owns' before after
staging_by n x i before after f (inl e) = inl e
staging_by n x i before after f (inr (inl e)) = inr (inl e)
staging_by n x i before after f (inr (inr w)) = inr (inr (w.0, f w.1, w.2))

module _ {A B : Type 0} (a : Ops A) (b : Ops B) (ka : Keeps a) (kb : Keeps b) where
  -- a state by itself
  hears_has : (h : Bool) (s : Pair A B) (x : ℕ) → cond h (a.hears s.first x) (b.hears s.second x) ≡ true → (both a b).has s (x / 2) ≡ true
  hears_has true s x e = or_left _ _ ((ka.shape s.first).hears_has x e)
  hears_has false s x e = or_right _ _ ((kb.shape s.second).hears_has x e)

  shape : (s : Pair A B) → Shape (both a b) s
  shape s =
      let p = ka.shape s.first in
      let q = kb.shape s.second in
      record {
        owner_in = λ n k h. elim (owned (a.has s.first n) _ k _ _ h) [ inl e ↦ omega (arith, p.owner_in n k e.1) | inr e ↦ omega (arith, e.1, q.owner_in n _ e.2) ];
        owner_has = λ n k h. elim (owned (a.has s.first n) _ k _ _ h) [ inl e ↦ or_left _ _ e.0 | inr e ↦ or_right _ _ (q.owner_has n _ e.2) ];
        offset_in = λ k i. at_number a b (λ u. u.offset i < 16) s k (λ _. p.offset_in k i) (λ _. q.offset_in _ i);
        cells_in = λ k h. at_number a b (λ u. u.cells ≡ 0) s k (λ lt. absurd (omega arith)) (λ le. q.cells_in _ (omega arith));
        wipers_in = λ k h. at_number a b (λ u. u.wipers ≡ 0) s k (λ lt. absurd (omega arith)) (λ le. q.wipers_in _ (omega arith));
        staged_in = λ k i v. at_number a b (λ u. u.staged i ≡ Some v → i < u.cells) s k (λ _. p.staged_in k i v) (λ _. q.staged_in _ i v);
        under_way_in = λ k i v. at_number a b (λ u. u.under_way i ≡ Some v → i < u.cells) s k (λ _. p.under_way_in k i v) (λ _. q.under_way_in _ i v);
        busy_if = λ k i v. at_number a b (λ u. u.under_way i ≡ Some v → u.busy ≡ true) s k (λ _. p.busy_if k i v) (λ _. q.busy_if _ i v);
        busy_by = λ k. at_number a b (λ u. u.busy ≡ true → (i : ℕ) × ((v : ℕ) × (u.under_way i ≡ Some v))) s k (λ _. p.busy_by k) (λ _. q.busy_by _);
        hears_has = λ x h. hears_has (for_first a b s x) s x h;
      }

  starts : (s : Pair A B) → Starts (both a b) s ((both a b).start s)
  starts s =
      let p = ka.starts s.first in
      let q = kb.starts s.second in
      record {
        calm = calm_both a b s _ p.calm q.calm;
        unstaged = unstaged_both a b _ p.unstaged q.unstaged;
        unheard = unheard_both a b _ p.unheard q.unheard;
      }

  -- what is heard after an address byte x, with whether it is for the first
  heard_after : (h : Bool) (s : Pair A B) (x y : ℕ) → (both a b).heard (one h (λ u. a.address u x) (λ v. b.address v x) s) y ≡ true
      → ((both a b).heard s y ≡ true) ⊎ ((y ≡ x) × (cond h (a.hears s.first x) (b.hears s.second x) ≡ true))
  heard_after true s x y =
      let p = ka.addresses s.first x in
      by_byte a b (λ u v. v ≡ true → (u ≡ true) ⊎ ((y ≡ x) × (a.hears s.first x ≡ true))) a.heard b.heard s _ y (p.fixed.has _) (p.heard y) inl
  heard_after false s x y =
      by_byte a b (λ u v. v ≡ true → (u ≡ true) ⊎ ((y ≡ x) × (b.hears s.second x ≡ true))) a.heard b.heard s _ y refl inl ((kb.addresses s.second x).heard y)

  addresses : (s : Pair A B) (x : ℕ) → Addresses (both a b) s x ((both a b).address s x)
  addresses s x =
      let p = ka.addresses s.first x in
      let q = kb.addresses s.second x in
      let h = for_first a b s x in
      let c = p.fixed in
      record {
        fixed = one_fixed a b h _ _ s c q.fixed;
        stored = one_stored a b h _ _ s c p.stored q.stored;
        fades = one_fades a b h _ _ s c p.fades q.fades;
        still = one_still a b h _ _ s c p.still q.still;
        heard = heard_after h s x;
      }

  -- where the part that answers an address has nothing staged in the owner, the pair has nothing staged there
  unstaged_first : (s : Pair A B) (u : A) (n : ℕ) → a.has s.first n ≡ true → Fixed a s.first u → UnstagedAt a s.first n u → UnstagedAt (both a b) s n (join u s.second)
  unstaged_first s u n e c p k i h =
      let o = sym (cond-true _ _ _ e) ∙ h in
      by_number a b (λ _ v. v.staged i ≡ None) s (join u s.second) k c.count (λ _. p k i o) (λ le. absurd (omega (arith, (ka.shape s.first).owner_in n k o)))

  unstaged_second : (s : Pair A B) (v : B) (n : ℕ) → a.has s.first n ≡ false → UnstagedAt b s.second n v → UnstagedAt (both a b) s n (join s.first v)
  unstaged_second s v n e q k i h =
      let o = unshift _ k _ (sym (cond-false _ _ _ e) ∙ h) in
      by_number a b (λ _ w. w.staged i ≡ None) s (join s.first v) k refl (λ lt. absurd (omega (arith, o.0))) (λ _. q _ i o.1)

  aim_unacked : (h : Bool) (s : Pair A B) (y : ℕ) (l : Levels) (x : ℕ) → for_first a b s y ≡ h → cond h (a.aims s.first y l x) (b.aims s.second y l x) ≡ false →
      UnstagedAt (both a b) s (y / 2) (one h (λ u. a.aim u y l x) (λ v. b.aim v y l x) s)
  aim_unacked true s y l x e z = let p = ka.aiming s.first y l x in unstaged_first s _ (y / 2) e p.calm.fixed (p.unacked z)
  aim_unacked false s y l x e z = unstaged_second s _ (y / 2) e ((kb.aiming s.second y l x).unacked z)

  aiming : (s : Pair A B) (y : ℕ) (l : Levels) (x : ℕ) → Aims (both a b) s y ((both a b).aims s y l x) ((both a b).aim s y l x)
  aiming s y l x =
      let p = ka.aiming s.first y l x in
      let q = kb.aiming s.second y l x in
      let h = for_first a b s y in
      let m = one_passes a b h _ _ s (record { calm = p.calm; still = p.still }) (record { calm = q.calm; still = q.still }) in
      record { calm = m.calm; still = m.still; unacked = aim_unacked h s y l x refl }

  take_acked : (h : Bool) (s : Pair A B) (y : ℕ) (l : Levels) (x : ℕ) → for_first a b s y ≡ h → cond h (a.takes s.first y l x) (b.takes s.second y l x) ≡ true →
      let t = one h (λ u. a.take u y l x) (λ v. b.take v y l x) s in
      (n : ℕ) × ((k i : ℕ) → Staging n x i ((both a b).owner s (y / 2) ≡ Some k) ((both a b).staged s k i) ((both a b).staged t k i))
  take_acked true s y l x e z =
      let p = ka.taking s.first y l x in
      let w = p.acked z in (
        w.0,
        λ k i. by_number a b (λ u v. Staging w.0 x i ((both a b).owner s (y / 2) ≡ Some k) (u.staged i) (v.staged i)) s _ k p.fixed.count
            (λ _. staging_by w.0 x i _ _ (λ o. cond-true _ _ _ e ∙ o) (w.1 k i))
            (λ _. inl refl),
      )
  take_acked false s y l x e z =
      let w = (kb.taking s.second y l x).acked z in (
        w.0,
        λ k i. by_number a b (λ u v. Staging w.0 x i ((both a b).owner s (y / 2) ≡ Some k) (u.staged i) (v.staged i)) s _ k refl
            (λ _. inl refl)
            (λ le. staging_by w.0 x i _ _ (λ o. cond-false _ _ _ e ∙ reshift _ k _ le o) (w.1 _ i)),
      )

  take_unacked : (h : Bool) (s : Pair A B) (y : ℕ) (l : Levels) (x : ℕ) → for_first a b s y ≡ h → cond h (a.takes s.first y l x) (b.takes s.second y l x) ≡ false →
      let t = one h (λ u. a.take u y l x) (λ v. b.take v y l x) s in UnstagedAt (both a b) s (y / 2) t × Fades (both a b) s t × Still (both a b) s t
  take_unacked true s y l x e z =
      let p = ka.taking s.first y l x in
      let c = p.fixed in
      let w = p.unacked z in
      (unstaged_first s _ (y / 2) e c w.0, fades_both a b s _ c w.1 (λ k i. inl refl), still_both a b s _ c w.2 (λ k j. refl))
  take_unacked false s y l x e z =
      let w = (kb.taking s.second y l x).unacked z in
      (unstaged_second s _ (y / 2) e w.0, fades_both a b s _ (fixed_self a s.first) (λ k i. inl refl) w.1, still_both a b s _ (fixed_self a s.first) (λ k j. refl) w.2)

  taking : (s : Pair A B) (y : ℕ) (l : Levels) (x : ℕ) → Takes (both a b) s y x ((both a b).takes s y l x) ((both a b).take s y l x)
  taking s y l x =
      let p = ka.taking s.first y l x in
      let q = kb.taking s.second y l x in
      let h = for_first a b s y in
      record {
        fixed = one_fixed a b h _ _ s p.fixed q.fixed;
        stored = one_stored a b h _ _ s p.fixed p.stored q.stored;
        forgets = one_forgets a b h _ _ s p.fixed p.forgets q.forgets;
        acked = take_acked h s y l x refl;
        unacked = take_unacked h s y l x refl;
      }

  stops : (s : Pair A B) (clean : Bool) (l : Levels) → Stops (both a b) s clean l ((both a b).stop s clean l)
  stops s clean l =
      let p = ka.stops s.first clean l in
      let q = kb.stops s.second clean l in
      let t = (both a b).stop s clean l in
      let c = p.fixed.count in
      record {
        fixed = fixed_both a b s t p.fixed q.fixed;
        cell = λ k i. by_number a b (λ u v. v.cell i ≡ u.cell i) s t k c (λ _. p.cell k i) (λ _. q.cell _ i);
        under_way = λ k i. by_number a b
            (λ u v. (v.under_way i ≡ u.under_way i) ⊎ ((u.under_way i ≡ None) × (clean ≡ true) × (l.wp ≡ false) × (v.under_way i ≡ u.staged i)))
            s t k c (λ _. p.under_way k i) (λ _. q.under_way _ i);
        unstaged = unstaged_both a b t p.unstaged q.unstaged;
        forgets = forgets_both a b s t p.fixed p.forgets q.forgets;
      }

  -- of a finish of number m: a fact of that number, and one of another, k
  finish_at : (h : Bool) (P : Seen → Seen → Type 0) (s : Pair A B) (m : ℕ) → in_first a b s m ≡ h →
      P (seen a s.first m) (seen a (a.finish s.first m) m) →
      P (seen b s.second (rest a b s m)) (seen b (b.finish s.second (rest a b s m)) (rest a b s m)) →
      P (seen (both a b) s m) (seen (both a b) (one h (λ u. a.finish u m) (λ v. b.finish v (rest a b s m)) s) m)
  finish_at true P s m e p q = by_number a b P s _ m (ka.finishes s.first m).fixed.count (λ _. p) (λ le. absurd (omega (arith, ltb-true m _ e)))
  finish_at false P s m e p q = by_number a b P s _ m refl (λ lt. absurd (omega (arith, ltb-false m _ e))) (λ _. q)

  finish_off : (h : Bool) (P : Seen → Seen → Type 0) (s : Pair A B) (m k : ℕ) → in_first a b s m ≡ h → (k ≢ m) → ((u : Seen) → P u u) →
      P (seen a s.first k) (seen a (a.finish s.first m) k) →
      ((rest a b s k ≢ rest a b s m) → P (seen b s.second (rest a b s k)) (seen b (b.finish s.second (rest a b s m)) (rest a b s k))) →
      P (seen (both a b) s k) (seen (both a b) (one h (λ u. a.finish u m) (λ v. b.finish v (rest a b s m)) s) k)
  finish_off true P s m k e d self p q = by_number a b P s _ k (ka.finishes s.first m).fixed.count (λ _. p) (λ _. self _)
  finish_off false P s m k e d self p q = by_number a b P s _ k refl (λ _. self _) (λ le. q (λ z. d (omega (arith, ltb-false m _ e))))

  -- and one of an address byte x that another, k, owns: of whether m is busy, and of what is asked of x before and after
  finish_under : (h : Bool) (P : Bool → Bool → Bool → Type 0) (f : A → ℕ → Bool) (g : B → ℕ → Bool) (s : Pair A B) (m k x : ℕ) → in_first a b s m ≡ h → (k ≢ m) →
      (both a b).owner s (x / 2) ≡ Some k → ((w u : Bool) → P w u u) →
      (a.owner s.first (x / 2) ≡ Some k → P (a.busy s.first m) (f s.first x) (f (a.finish s.first m) x)) →
      ((rest a b s k ≢ rest a b s m) → b.owner s.second (x / 2) ≡ Some (rest a b s k) →
      P (b.busy s.second (rest a b s m)) (g s.second x) (g (b.finish s.second (rest a b s m)) x)) →
      P ((both a b).busy s m) (addressed a b f g s x) (addressed a b f g (one h (λ u. a.finish u m) (λ v. b.finish v (rest a b s m)) s) x)
  finish_under true P f g s m k x e d o self p q =
      let c = (ka.finishes s.first m).fixed.has (x / 2) in
      elim (owned (a.has s.first (x / 2)) _ k _ _ o) [ inl r ↦ rw (e, c, r.0) (p r.1) | inr r ↦ rw (c, r.0) (self _ _) ]
  finish_under false P f g s m k x e d o self p q = elim (owned (a.has s.first (x / 2)) _ k _ _ o) [
    | inl r ↦ rw r.0 (self _ _)
    | inr r ↦ rw (e, r.0) (q (λ z. d (omega (arith, ltb-false m _ e, r.1, z))) r.2)
  ]

  finishing : (s : Pair A B) (m : ℕ) → Finishes (both a b) s m ((both a b).finish s m)
  finishing s m =
      let p = ka.finishes s.first m in
      let q = kb.finishes s.second (rest a b s m) in
      let h = in_first a b s m in
      record {
        fixed = one_fixed a b h _ _ s p.fixed q.fixed;
        stores = λ i. finish_at h (λ u v. v.cell i ≡ unwrap_or (u.under_way i) (u.cell i)) s m refl (p.stores i) (q.stores i);
        ends = λ i. finish_at h (λ u v. v.under_way i ≡ None) s m refl (p.ends i) (q.ends i);
        fades = one_fades a b h _ _ s p.fixed p.fades q.fades;
        forgets = one_forgets a b h _ _ s p.fixed p.forgets q.forgets;
        other_cell = λ k i d. finish_off h (λ u v. v.cell i ≡ u.cell i) s m k refl d (λ u. refl) (p.other_cell k i d) (q.other_cell _ i);
        other_under_way = λ k i d. finish_off h (λ u v. v.under_way i ≡ u.under_way i) s m k refl d (λ u. refl) (p.other_under_way k i d) (q.other_under_way _ i);
        other_staged = λ k i d. finish_off h (λ u v. v.staged i ≡ u.staged i) s m k refl d (λ u. refl) (p.other_staged k i d) (q.other_staged _ i);
        other_tap = λ k j d. finish_off h (λ u v. v.tap j ≡ u.tap j) s m k refl d (λ u. refl) (p.other_tap k j d) (q.other_tap _ j);
        other_heard = λ k x d o. finish_under h (λ _ u v. v ≡ u) a.heard b.heard s m k x refl d o (λ w u. refl) (p.other_heard k x d) (q.other_heard _ x);
        other_hears = λ k x d o. finish_under h (λ w u v. (v ≡ u) ⊎ ((w ≡ true) × (v ≡ true))) a.hears b.hears s m k x refl d o (λ w u. inl refl)
            (p.other_hears k x d) (q.other_hears _ x);
      }

  cutting : (s : Pair A B) (power : PowerCut) → Cuts (both a b) s power ((both a b).cut s power)
  cutting s power =
      let p = ka.cuts s.first power in
      let q = kb.cuts s.second power in
      let t = (both a b).cut s power in
      let c = p.fixed.count in
      record {
        fixed = fixed_both a b s t p.fixed q.fixed;
        marked = λ k i. by_number a b (λ u v. Marked (both a b) power.mask (u.offset i) → v.cell i ≡ unwrap_or (u.under_way i) (u.cell i)) s t k c (λ _. p.marked k i) (λ _. q.marked _ i);
        unmarked = λ k i. by_number a b (λ u v. (Marked (both a b) power.mask (u.offset i) → ⊥) → v.cell i ≡ u.cell i) s t k c (λ _. p.unmarked k i) (λ _. q.unmarked _ i);
        ends = λ k i. at_number a b (λ u. u.under_way i ≡ None) t k (λ _. p.ends k i) (λ _. q.ends _ i);
        unstaged = unstaged_both a b t p.unstaged q.unstaged;
        unheard = unheard_both a b t p.unheard q.unheard;
      }

  settles : Settles (both a b)
  settles =
      let p = ka.settles in
      let q = kb.settles in
      record {
        after_level = λ s l. rw (p.after_level s.first l, q.after_level s.second l);
        after_start = λ s l. settles_both a b s _ l (p.after_start s.first l) (q.after_start s.second l);
        after_address = λ s l x. one_settles a b (for_first a b s x) _ _ s l (p.after_address s.first l x) (q.after_address s.second l x);
        after_aim = λ s l y x. one_settles a b (for_first a b s y) _ _ s l (p.after_aim s.first l y x) (q.after_aim s.second l y x);
        after_take = λ s l y x. one_settles a b (for_first a b s y) _ _ s l (p.after_take s.first l y x) (q.after_take s.second l y x);
        after_give = λ s l y. one_settles a b (for_first a b s y) _ _ s l (p.after_give s.first l y) (q.after_give s.second l y);
      }

  pub keeps_both : Keeps (both a b)
  keeps_both = record {
    shape = shape;
    renews = λ s. fixed_both a b s _ (ka.renews s.first) (kb.renews s.second);
    starts = starts;
    addresses = addresses;
    aiming = aiming;
    taking = taking;
    gives = λ s y. one_passes a b (for_first a b s y) _ _ s (ka.gives s.first y) (kb.gives s.second y);
    levels = λ s l. passes_both a b s _ (ka.levels s.first l) (kb.levels s.second l);
    stops = stops;
    finishes = finishing;
    cuts = cutting;
    settles = settles;
  }
