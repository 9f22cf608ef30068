-- A part with no numbered part keeps the laws of a part, given what its own moves do to the address byte heard. Assumes nothing.
use Rattle.std.proofs.Common.{◌≡◌, ℕ, ◌/◌, Bool, true, false, cond, ◌⊎◌, Some, None, Option, sym, refl, ap, ◌∙◌, inl, inr, arith}
use borrow.Author.Tests.{clash}
use Rattle.std.proofs.lemmas.Bool.{eqb-true}
use Rattle.std.proofs.lemmas.Option.{none-some}
use Rattle.part.specs.declared.levels.Levels.{Levels}
use Rattle.part.specs.declared.power.PowerCut.{PowerCut}
use Rattle.part.specs.Ops.{is}
use Rattle.part.specs.Keeps.{Keeps, Shape, Fixed, Stored, Forgets, Unheard, Calm, Settles}
use Rattle.part.specs.Bare.{Bare, bare_part}

-- an address byte is heard where b is true, or none is
pub heard_if : (b : Bool) (x : ℕ) → (cond b (Some x) None ≡ None) ⊎ ((cond b (Some x) None ≡ Some x) × (b ≡ true))
heard_if true x = inr (refl, refl)
heard_if false x = inl refl

module _ {S : Type 0} (b : Bare S) where
  -- the address byte heard stays, or none is heard
  abbrev pub Stays : S → S → Type 0
  Stays s t = (b.heard t ≡ b.heard s) ⊎ (b.heard t ≡ None)

  -- what each of the part's own moves is to do
  pub record BareMoves : Type 0 where
    pub hears : (s : S) (x : ℕ) → b.hears s x ≡ true → b.has (x / 2) ≡ true
    pub start : (s : S) → b.heard (b.start s) ≡ None
    pub address : (s : S) (x : ℕ) → (b.heard (b.address s x) ≡ None) ⊎ ((b.heard (b.address s x) ≡ Some x) × (b.hears s x ≡ true))
    pub aim : (s : S) (a : ℕ) (l : Levels) (x : ℕ) → Stays s (b.aim s a l x)
    pub take : (s : S) (a : ℕ) (l : Levels) (x : ℕ) → Stays s (b.take s a l x)
    pub give : (s : S) (a : ℕ) → Stays s (b.give s a)
    pub stop : (s : S) (clean : Bool) (l : Levels) → Stays s (b.stop s clean l)
    pub cut : (s : S) (p : PowerCut) → b.heard (b.cut s p) ≡ None

  silent : (t : S) → b.heard t ≡ None → Unheard (bare_part b) t
  silent t e x = ap (is x) e

  forgets : (s t : S) → Stays s t → Forgets (bare_part b) s t
  forgets s t (inl e) x h = sym (ap (is x) e) ∙ h
  forgets s t (inr e) x h = absurd (clash (sym (silent t e x) ∙ h))

  heard_one : (c : Bool) (s : S) (o : Option ℕ) (x y : ℕ) → (o ≡ None) ⊎ ((o ≡ Some x) × (c ≡ true)) → is y o ≡ true → (is y (b.heard s) ≡ true) ⊎ ((y ≡ x) × (c ≡ true))
  heard_one c s o x y (inl e) h = absurd (clash (sym (ap (is y) e) ∙ h))
  heard_one c s o x y (inr e) h = inr (sym (eqb-true x y (sym (ap (is y) e.0) ∙ h)), e.1)

  fixed : (s t : S) → Fixed (bare_part b) s t
  fixed s t = record { count = refl; has = λ a. refl; owner = λ a. refl; cells = λ k. refl; wipers = λ k. refl; offset = λ k i. refl }

  stored : (s t : S) → Stored (bare_part b) s t
  stored s t = record { cell = λ k i. refl; under_way = λ k i. refl }

  calm : (s t : S) → Stays s t → Calm (bare_part b) s t
  calm s t h = record { fixed = fixed s t; stored = stored s t; fades = λ k i. inl refl; forgets = forgets s t h }

  shape : BareMoves → (s : S) → Shape (bare_part b) s
  shape m s = record {
    owner_in = λ a k h. absurd (none-some k h);
    owner_has = λ a k h. absurd (none-some k h);
    offset_in = λ k i. omega arith;
    cells_in = λ k h. refl;
    wipers_in = λ k h. refl;
    staged_in = λ k i v h. absurd (none-some v h);
    under_way_in = λ k i v h. absurd (none-some v h);
    busy_if = λ k i v h. absurd (none-some v h);
    busy_by = λ k h. absurd (clash h);
    hears_has = m.hears s;
  }

  settles : Settles (bare_part b)
  settles = record {
    after_level = λ s l. refl;
    after_start = λ s l h. refl;
    after_address = λ s l x h. refl;
    after_aim = λ s l a x h. refl;
    after_take = λ s l a x h. refl;
    after_give = λ s l a h. refl;
  }

  pub keeps_bare : BareMoves → Keeps (bare_part b)
  keeps_bare m = record {
    shape = shape m;
    renews = λ s. fixed s _;
    starts = λ s. record { calm = calm s _ (inr (m.start s)); unstaged = λ k i. refl; unheard = silent _ (m.start s) };
    addresses = λ s x. record {
      fixed = fixed s _;
      stored = stored s _;
      fades = λ k i. inl refl;
      still = λ k j. refl;
      heard = λ y h. heard_one _ s _ x y (m.address s x) h;
    };
    aiming = λ s a l x. record { calm = calm s _ (m.aim s a l x); still = λ k j. refl; unacked = λ e k i o. refl };
    taking = λ s a l x. record {
      fixed = fixed s _;
      stored = stored s _;
      forgets = forgets s _ (m.take s a l x);
      acked = λ e. (0, λ k i. inl refl);
      unacked = λ e. ((λ k i o. refl), (λ k i. inl refl), (λ k j. refl));
    };
    gives = λ s a. record { calm = calm s _ (m.give s a); still = λ k j. refl };
    levels = λ s l. record { calm = calm s _ (inl refl); still = λ k j. refl };
    stops = λ s clean l. record { fixed = fixed s _; cell = λ k i. refl; under_way = λ k i. inl refl; unstaged = λ k i. refl; forgets = forgets s _ (m.stop s clean l) };
    finishes = λ s q. record {
      fixed = fixed s _;
      stores = λ i. refl;
      ends = λ i. refl;
      fades = λ k i. inl refl;
      forgets = λ x h. h;
      other_cell = λ k i n. refl;
      other_under_way = λ k i n. refl;
      other_staged = λ k i n. refl;
      other_tap = λ k j n. refl;
      other_heard = λ k x n o. refl;
      other_hears = λ k x n o. inl refl;
    };
    cuts = λ s p. record {
      fixed = fixed s _;
      marked = λ k i n. refl;
      unmarked = λ k i n. refl;
      ends = λ k i. refl;
      unstaged = λ k i. refl;
      unheard = silent _ (m.cut s p);
    };
    settles = settles;
  }
