-- A chip that is the one numbered part keeps the laws of a part, given what its own moves do. Assumes nothing.
use Rattle.std.proofs.Common.{◌≡◌, ℕ, ◌%◌, ◌/◌, ◌^◌, Bool, true, false, not, ◌&&◌, ◌⊎◌, eqb, Some, None, Option, sym, refl, ap, subst, ◌∙◌, inl, inr, arith}
use borrow.Author.Tests.{clash}
use Rattle.std.proofs.lemmas.Bool.{eq-eqb, eqb-true, ne_eqb, and_parts, cond-true, cond-false}
use Rattle.part.specs.declared.levels.Levels.{Levels}
use Rattle.part.specs.declared.power.PowerCut.{PowerCut}
use Rattle.part.specs.Ops.{is}
use Rattle.part.specs.Keeps.{Keeps, Shape, Fixed, Stored, Unstaged, UnstagedAt, Fades, Forgets, Unheard, Still, Calm, Starts, Addresses, Aims, Takes, Passes, Stops, Finishes, Cuts, Settles}
use Rattle.part.specs.Chips.{AlwaysChip}
use Rattle.part.proofs.Busy.{Shows, always_chip}
use Rattle.eeprom.specs.declared.Eeprom.{Eeprom}
use Rattle.eeprom.specs.Cells.{byte_at, staged_at, under_way_at, is_busy, stages, unstages, stopped, finishes, cuts}
use Rattle.eeprom.specs.OnePart.{OnePart, of_part, hears_at, part_of}
use Rattle.eeprom.proofs.Moves.{staged_in, under_way_in, unstages_staged, cuts_byte, cuts_staged, cuts_under_way}
use Rattle.eeprom.proofs.Numbered.{part_none, other_part, owned, write_of, busy_of, busy_from, stopped_byte, stopped_staged, stopped_under_way, finish_stores, finish_ends, finish_staged, elsewhere, cut_stores, apart, deaf_while_busy, begins_in, never_busy}

-- no stored byte changes, and no write under way comes, goes or changes
pub record Rests {N : ℕ} (e f : Eeprom N) : Type 0 where
  pub byte : (i : ℕ) → byte_at f i ≡ byte_at e i
  pub under_way : (i : ℕ) → under_way_at f i ≡ under_way_at e i

one_byte : (o : Option ℕ) (x y : ℕ) → is x o ≡ true → is y o ≡ true → x ≡ y
one_byte None x y h g = absurd (clash h)
one_byte (Some z) x y h g = sym (eqb-true z x h) ∙ eqb-true z y g

module _ {N : ℕ} (e : Eeprom N) where
  pub rests : Rests e e
  rests = record { byte = λ i. refl; under_way = λ i. refl }

  pub unstages_rests : Rests e (unstages e)
  unstages_rests = record { byte = λ i. refl; under_way = λ i. refl }

  pub stages_rests : (n b : ℕ) → Rests e (stages e n b)
  stages_rests n b = record { byte = λ i. refl; under_way = λ i. refl }

module _ {S : Type 0} {N : ℕ} (c : OnePart S N) where
  pub fixed : (s t : S) → Fixed (part_of c) s t
  fixed s t = record {
    count = refl;
    has = λ a. refl;
    owner = λ a. refl;
    cells = λ k. refl;
    wipers = λ k. refl;
    offset = λ k i. refl;
  }

  pub stored : (s t : S) → Rests (c.eeprom s) (c.eeprom t) → Stored (part_of c) s t
  stored s t r = record { cell = λ k i. ap (λ v. of_part k v 0) (r.byte i); under_way = λ k i. ap (λ v. of_part k v None) (r.under_way i) }

  pub unstaged : (t : S) → ((i : ℕ) → staged_at (c.eeprom t) i ≡ None) → Unstaged (part_of c) t
  unstaged t h k i = part_none (eqb k 0) _ (h i)

  pub still : (s t : S) → ((j : ℕ) → c.tap t j ≡ c.tap s j) → Still (part_of c) s t
  still s t h k j = ap (λ v. of_part k v 0) (h j)

  -- the address byte heard stays, or none is heard
  pub stays : (s t : S) → c.heard t ≡ c.heard s → Forgets (part_of c) s t
  stays s t e x h = sym (ap (is x) e) ∙ h

  silent : (t : S) → c.heard t ≡ None → Unheard (part_of c) t
  silent t e x = ap (is x) e

  pub ended : (s t : S) → c.heard t ≡ None → Forgets (part_of c) s t
  ended s t e x h = absurd (clash (sym (silent t e x) ∙ h))

  -- where nothing stays staged, nothing does in the part that owns an address
  pub refused : (s t : S) (a : ℕ) → Unstaged (part_of c) t → Still (part_of c) s t → UnstagedAt (part_of c) s a t × Fades (part_of c) s t × Still (part_of c) s t
  refused s t a none w = ((λ k i o. none k i), (λ k i. inr (none k i)), w)

  -- a move that drops the writes staged, and leaves the cells else as they were
  dropped : (s t : S) → c.eeprom t ≡ unstages (c.eeprom s) → Unstaged (part_of c) t
  dropped s t e = unstaged t (λ i. ap (λ f. staged_at f i) e ∙ unstages_staged (c.eeprom s) i)

  drops : (s t : S) → c.eeprom t ≡ unstages (c.eeprom s) → Forgets (part_of c) s t → Calm (part_of c) s t
  drops s t e h = record {
    fixed = fixed s t;
    stored = stored s t (subst (λ f. Rests (c.eeprom s) f) (sym e) (unstages_rests (c.eeprom s)));
    fades = λ k i. inr (dropped s t e k i);
    forgets = h;
  }

  -- a move that changes no cell, no wiper and not what is heard
  passes : (s t : S) → c.eeprom t ≡ c.eeprom s → ((j : ℕ) → c.tap t j ≡ c.tap s j) → c.heard t ≡ c.heard s → Passes (part_of c) s t
  passes s t e j h = record {
    calm = record {
      fixed = fixed s t;
      stored = stored s t (subst (λ f. Rests (c.eeprom s) f) (sym e) (rests (c.eeprom s)));
      fades = λ k i. inl (ap (λ f. of_part k (staged_at f i) None) e);
      forgets = stays s t h;
    };
    still = still s t j;
  }

  shape : (s : S) → Shape (part_of c) s
  shape s = record {
    owner_in = λ a k h. let z = (owned (c.has a) k h).0 in omega arith;
    owner_has = λ a k h. (owned (c.has a) k h).1;
    offset_in = λ k i. omega arith;
    cells_in = λ k h. other_part k 0 N h;
    wipers_in = λ k h. other_part k 0 c.wipers h;
    staged_in = λ k i v h. write_of N (eqb k 0) _ i v (staged_in (c.eeprom s) i v) h;
    under_way_in = λ k i v h. write_of N (eqb k 0) _ i v (under_way_in (c.eeprom s) i v) h;
    busy_if = λ k i v h. busy_of (c.eeprom s) (eqb k 0) i v h;
    busy_by = λ k h. busy_from (c.eeprom s) (eqb k 0) h;
    hears_has = λ x h. (and_parts _ _ h).0;
  }

  starts : (s t : S) → c.eeprom t ≡ unstages (c.eeprom s) → c.heard t ≡ None → Starts (part_of c) s t
  starts s t e h = record { calm = drops s t e (ended s t h); unstaged = dropped s t e; unheard = silent t h }

  stops : (s : S) (clean : Bool) (l : Levels) (t : S) → c.eeprom t ≡ stopped (clean && not l.wp) (c.eeprom s) → c.heard t ≡ None → Stops (part_of c) s clean l t
  stops s clean l t e h =
      let b = clean && not l.wp in
      record {
        fixed = fixed s t;
        cell = λ k i. ap (λ v. of_part k v 0) (ap (λ f. byte_at f i) e ∙ stopped_byte (c.eeprom s) b i);
        under_way = λ k i. rw e (stopped_under_way (c.eeprom s) clean l.wp k i);
        unstaged = unstaged t (λ i. ap (λ f. staged_at f i) e ∙ stopped_staged (c.eeprom s) b i);
        forgets = ended s t h;
      }

  one_heard : (b : Bool) (o p : Option ℕ) (x y : ℕ) → (p ≡ None) ⊎ ((p ≡ Some x) × (b ≡ true)) → is y p ≡ true → (is y o ≡ true) ⊎ ((y ≡ x) × (b ≡ true))
  one_heard b o p x y (inl e) h = absurd (clash (sym (ap (is y) e) ∙ h))
  one_heard b o p x y (inr e) h = inr (sym (eqb-true x y (sym (ap (is y) e.0) ∙ h)), e.1)

  cutting : (s : S) (p : PowerCut) (t : S) → c.eeprom t ≡ cuts (c.eeprom s) p.mask → c.heard t ≡ None → Cuts (part_of c) s p t
  cutting s p t e h =
      let byte = λ (i : ℕ). ap (λ f. byte_at f i) e ∙ cuts_byte (c.eeprom s) p.mask i in
      record {
        fixed = fixed s t;
        marked = λ k i m. cut_stores (eqb k 0) _ _ _ (byte i ∙ cond-true _ _ _ (eq-eqb (p.mask / 2 ^ (i % 16) % 2) 1 m));
        unmarked = λ k i m. ap (λ v. of_part k v 0) (byte i ∙ cond-false _ _ _ (ne_eqb (p.mask / 2 ^ (i % 16) % 2) 1 m));
        ends = λ k i. part_none (eqb k 0) _ (ap (λ f. under_way_at f i) e ∙ cuts_under_way (c.eeprom s) p.mask i);
        unstaged = unstaged t (λ i. ap (λ f. staged_at f i) e ∙ cuts_staged (c.eeprom s) p.mask i);
        unheard = silent t h;
      }

  -- what each of the chip's own moves is to do
  pub record Passed (s t : S) : Type 0 where
    pub eeprom : c.eeprom t ≡ c.eeprom s
    pub tap : (j : ℕ) → c.tap t j ≡ c.tap s j
    pub heard : c.heard t ≡ c.heard s

  pub record Left (e : Eeprom N) (t : S) : Type 0 where
    pub eeprom : c.eeprom t ≡ e
    pub heard : c.heard t ≡ None

  -- an address byte x: the chip hears it, or nothing
  pub record Addressed (s : S) (x : ℕ) (t : S) : Type 0 where
    pub eeprom : c.eeprom t ≡ unstages (c.eeprom s)
    pub tap : (j : ℕ) → c.tap t j ≡ c.tap s j
    pub heard : (c.heard t ≡ None) ⊎ ((c.heard t ≡ Some x) × (hears_at c.has (c.eeprom s) x ≡ true))

  pub record Aimed (s t : S) : Type 0 where
    pub eeprom : c.eeprom t ≡ unstages (c.eeprom s)
    pub tap : (j : ℕ) → c.tap t j ≡ c.tap s j
    pub forgets : Forgets (part_of c) s t

  pub record OwnMoves : Type 0 where
    pub put : (s : S) (e : Eeprom N) → c.eeprom (c.with_eeprom s e) ≡ e
    pub put_heard : (s : S) (e : Eeprom N) → c.heard (c.with_eeprom s e) ≡ c.heard s
    pub put_back : (s : S) → c.with_eeprom s (c.eeprom s) ≡ s
    pub start : (s : S) → Left (unstages (c.eeprom s)) (c.start s)
    pub address : (s : S) (x : ℕ) → Addressed s x (c.address s x)
    pub aim : (s : S) (a : ℕ) (l : Levels) (x : ℕ) → Aimed s (c.aim s a l x)
    pub take : (s : S) (a : ℕ) (l : Levels) (x : ℕ) → Takes (part_of c) s a x (c.takes s a l x) (c.take s a l x)
    pub unacked : (s : S) (a : ℕ) (l : Levels) (x : ℕ) → c.takes s a l x ≡ false → Unstaged (part_of c) (c.take s a l x)
    pub give : (s : S) (a : ℕ) → Passed s (c.give s a)
    pub level : (s : S) (l : Levels) → Passed s (c.level s l)
    pub stop : (s : S) (clean : Bool) (l : Levels) → Left (stopped (clean && not l.wp) (c.eeprom s)) (c.stop s clean l)
    pub cut : (s : S) (p : PowerCut) → Left (cuts (c.eeprom s) p.mask) (c.cut s p)
    pub settles : Settles (part_of c)

module _ {S : Type 0} {N : ℕ} (c : OnePart S N) (m : OwnMoves c) where
  addressing : (s : S) (x : ℕ) → Addresses (part_of c) s x (c.address s x)
  addressing s x =
      let t = c.address s x in
      let d = m.address s x in
      record {
        fixed = fixed c s t;
        stored = stored c s t (subst (λ f. Rests (c.eeprom s) f) (sym d.eeprom) (unstages_rests (c.eeprom s)));
        fades = λ k i. inr (dropped c s t d.eeprom k i);
        still = still c s t d.tap;
        heard = λ y h. one_heard c _ (c.heard s) (c.heard t) x y d.heard h;
      }

  aiming : (s : S) (a : ℕ) (l : Levels) (x : ℕ) → Aims (part_of c) s a (c.aims s a l x) (c.aim s a l x)
  aiming s a l x =
      let t = c.aim s a l x in
      let d = m.aim s a l x in
      record {
        calm = drops c s t d.eeprom d.forgets;
        still = still c s t d.tap;
        unacked = λ h k i o. dropped c s t d.eeprom k i;
      }

  finishing : (s : S) (q : ℕ) → Finishes (part_of c) s q ((part_of c).finish s q)
  finishing s q =
      let e = c.eeprom s in
      let f = of_part q (finishes e) e in
      let put = m.put s f in
      let back = m.put_back s in
      record {
        fixed = fixed c s _;
        stores = λ i. ap (λ g. of_part q (byte_at g i) 0) put ∙ finish_stores e (eqb q 0) i;
        ends = λ i. ap (λ g. of_part q (under_way_at g i) None) put ∙ finish_ends e (eqb q 0) i;
        fades = λ k i. inl (ap (λ g. of_part k (staged_at g i) None) put ∙ ap (λ w. of_part k w None) (finish_staged e (eqb q 0) i));
        forgets = stays c s _ (m.put_heard s f);
        other_cell = λ k i h. ap (λ g. of_part k (byte_at g i) 0) put ∙ elsewhere e (λ g. byte_at g i) 0 (eqb k 0) (eqb q 0) (apart k q h);
        other_under_way = λ k i h. ap (λ g. of_part k (under_way_at g i) None) put ∙ elsewhere e (λ g. under_way_at g i) None (eqb k 0) (eqb q 0) (apart k q h);
        other_staged = λ k i h. ap (λ g. of_part k (staged_at g i) None) put ∙ elsewhere e (λ g. staged_at g i) None (eqb k 0) (eqb q 0) (apart k q h);
        other_tap = λ k j h. elsewhere e (λ g. c.tap (c.with_eeprom s g) j) 0 (eqb k 0) (eqb q 0) (apart k q h) ∙ ap (λ t. of_part k (c.tap t j) 0) back;
        other_heard = λ k x h o. ap (is x) (m.put_heard s f);
        other_hears = λ k x h o. let z = (owned (c.has (x / 2)) k o).0 in inl (ap (λ g. hears_at c.has g x) (put ∙ other_part q e (finishes e) (omega arith)));
      }

  pub keeps_part : Keeps (part_of c)
  keeps_part = record {
    shape = shape c;
    renews = λ s. fixed c s _;
    starts = λ s. starts c s _ (m.start s).eeprom (m.start s).heard;
    addresses = addressing;
    aiming = aiming;
    taking = m.take;
    gives = λ s a. passes c s _ (m.give s a).eeprom (m.give s a).tap (m.give s a).heard;
    levels = λ s l. passes c s _ (m.level s l).eeprom (m.level s l).tap (m.level s l).heard;
    stops = λ s clean l. stops c s clean l _ (m.stop s clean l).eeprom (m.stop s clean l).heard;
    finishes = finishing;
    cuts = λ s p. cutting c s p _ (m.cut s p).eeprom (m.cut s p).heard;
    settles = m.settles;
  }

  -- where a byte gets an ACK only in the transfer that it comes in, and a fresh chip has no write under way
  shows : ((s : S) (a : ℕ) (l : Levels) (x : ℕ) → c.takes s a l x ≡ true → is a (c.heard s) ≡ true) → is_busy (c.eeprom c.fresh) ≡ false → Shows (part_of c)
  shows heard free = record {
    offsets = λ s k i. refl;
    hears_free = λ s k x h. deaf_while_busy (c.eeprom s) (eqb k 0) _ h;
    one_heard = λ s x y. one_byte (c.heard s) x y;
    aim_unacked = λ s a l x h. dropped c s (c.aim s a l x) (m.aim s a l x).eeprom;
    take_unacked = m.unacked;
    takes_heard = heard;
    hangs_up = λ s clean l x. ap (is x) (m.stop s clean l).heard;
    renews_free = λ s k. never_busy (eqb k 0) _ free;
    begins_all = λ s l k i low. ap (λ f. of_part k (under_way_at f i) None) (m.stop s true l).eeprom ∙ begins_in (c.eeprom s) (eqb k 0) l.wp i low;
  }

  pub always_part : ((s : S) (a : ℕ) (l : Levels) (x : ℕ) → c.takes s a l x ≡ true → is a (c.heard s) ≡ true) → is_busy (c.eeprom c.fresh) ≡ false → AlwaysChip (part_of c) c.fresh
  always_part heard free = always_chip (part_of c) keeps_part (shows heard free) c.fresh (λ k. never_busy (eqb k 0) _ free)
