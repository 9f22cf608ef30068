-- A chip that sits in either part sits in the pair: under an address that its number owns, the byte is for its part. Assumes nothing.
use Rattle.std.proofs.Common.{◌≡◌, ℕ, ◌+◌, Bool, true, false, cond, ◌⊎◌, Some, Option, refl, ap, ◌∙◌, inl, inr, arith}
use Rattle.std.proofs.lemmas.Bool.{cases_lt, lt-ltb, le-ltb}
use Rattle.part.specs.Ops.{Ops}
use Rattle.part.specs.Keeps.{Keeps}
use Rattle.part.specs.Moves.{Move, moved, starting, addressing, aiming, taking, giving, levelling, stopping, finishing, cutting, renewing}
use Rattle.part.specs.Seats.{Mine, Seat, Direct, Shown}
use Rattle.pair.specs.declared.Pair.{Pair}
use Rattle.pair.specs.Both.{both, one, in_first, rest, for_first, shift}
use Rattle.pair.specs.Numbers.{owned}
use Rattle.pair.specs.Seats.{Firsts, Seconds}

-- no move changes how many numbered parts there are
count_kept : {S : Type 0} (o : Ops S) (k : Keeps o) (s : S) (m : Move) → o.count (moved o s m) ≡ o.count s
count_kept o k s starting = (k.starts s).calm.fixed.count
count_kept o k s (addressing x) = (k.addresses s x).fixed.count
count_kept o k s (aiming a l x) = (k.aiming s a l x).calm.fixed.count
count_kept o k s (taking a l x) = (k.taking s a l x).fixed.count
count_kept o k s (giving a) = (k.gives s a).calm.fixed.count
count_kept o k s (levelling l) = (k.levels s l).calm.fixed.count
count_kept o k s (stopping clean l) = (k.stops s clean l).fixed.count
count_kept o k s (finishing q) = (k.finishes s q).fixed.count
count_kept o k s (cutting p) = (k.cuts s p).fixed.count
count_kept o k s renewing = (k.renews s).count

-- where a number does not own an address in the pair, it does not in the part that answers it, with whether that is the first
not_owned : (e : Bool) (o o' : Option ℕ) (k : ℕ) → (cond e o o' ≡ Some k → ⊥) → ((e ≡ true) × (o ≡ Some k → ⊥)) ⊎ ((e ≡ false) × (o' ≡ Some k → ⊥))
not_owned true o o' k h = inl (refl, h)
not_owned false o o' k h = inr (refl, h)

module _ {A B : Type 0} (a : Ops A) (b : Ops B) where
  -- what no move of either part changes, no move of the pair changes
  module _ (f : A → ℕ) (g : B → ℕ) (p : (u : A) (m : Move) → f (moved a u m) ≡ f u) (q : (v : B) (m : Move) → g (moved b v m) ≡ g v) where
    abbrev Kept : Pair A B → Pair A B → Type 0
    Kept s t = (f t.first ≡ f s.first) × (g t.second ≡ g s.second)

    one_kept : (h : Bool) (m n : Move) (s : Pair A B) → Kept s (one h (λ u. moved a u m) (λ v. moved b v n) s)
    one_kept true m n s = (p s.first m, refl)
    one_kept false m n s = (refl, q s.second n)

    kept : (s : Pair A B) (m : Move) → Kept s (moved (both a b) s m)
    kept s starting = (p s.first starting, q s.second starting)
    kept s (addressing x) = one_kept (for_first a b s x) (addressing x) (addressing x) s
    kept s (aiming y l x) = one_kept (for_first a b s y) (aiming y l x) (aiming y l x) s
    kept s (taking y l x) = one_kept (for_first a b s y) (taking y l x) (taking y l x) s
    kept s (giving y) = one_kept (for_first a b s y) (giving y) (giving y) s
    kept s (levelling l) = (p s.first (levelling l), q s.second (levelling l))
    kept s (stopping clean l) = (p s.first (stopping clean l), q s.second (stopping clean l))
    kept s (finishing k) = one_kept (in_first a b s k) (finishing k) (finishing (rest a b s k)) s
    kept s (cutting w) = (p s.first (cutting w), q s.second (cutting w))
    kept s renewing = (p s.first renewing, q s.second renewing)

  -- a chip in the first part
  module _ {C : Type 0} (chip : Ops C) (number : A → ℕ) (see : A → C) (r : Seat a chip number see) where
    inside : (s : Pair A B) → in_first a b s (number s.first) ≡ true
    inside s = lt-ltb _ _ (r.shown s.first).within

    mine : (s : Pair A B) (n : ℕ) → Mine (both a b) chip (λ t. number t.first) (λ t. see t.first) s n → (a.has s.first n ≡ true) × Mine a chip number see s.first n
    mine s n h = elim (owned (a.has s.first n) _ _ _ _ h) [ inl e ↦ e | inr e ↦ absurd (omega (arith, e.1, (r.shown s.first).within)) ]

    other : (s : Pair A B) (n : ℕ) → (Mine (both a b) chip (λ t. number t.first) (λ t. see t.first) s n → ⊥)
        → ((a.has s.first n ≡ true) × (Mine a chip number see s.first n → ⊥)) ⊎ (a.has s.first n ≡ false)
    other s n h = elim (not_owned (a.has s.first n) _ _ _ h) [ inl e ↦ inl e | inr e ↦ inr e.0 ]

    first_shown : (s : Pair A B) → Shown (both a b) chip (number s.first) s (see s.first)
    first_shown s =
        let e = inside s in
        let w = r.shown s.first in
        record {
          within = omega (arith, w.within);
          cells = rw e w.cells;
          wipers = rw e w.wipers;
          offset = λ i. rw e (w.offset i);
          cell = λ i. rw e (w.cell i);
          staged = λ i. rw e (w.staged i);
          under_way = λ i. rw e (w.under_way i);
          busy = rw e w.busy;
          tap = λ j. rw e (w.tap j);
        }

    first_seat : Seat (both a b) chip (λ s. number s.first) (λ s. see s.first)
    first_seat = record {
      shown = first_shown;
      fixed = λ s m. (kept number (λ v. 0) r.fixed (λ v n. refl) s m).0;
      start = λ s. r.start s.first;
      level = λ s l. r.level s.first l;
      stop = λ s clean l. r.stop s.first clean l;
      cut = λ s p. r.cut s.first p;
      renew = λ s. r.renew s.first;
      finish = λ s. rw (inside s) (r.finish s.first);
      finish_other = λ s k d. elim (cases_lt k (a.count s.first)) [
        | inl h ↦ rw (lt-ltb k _ h) (r.finish_other s.first k d)
        | inr h ↦ rw (le-ltb k _ h) refl
      ];
      address = λ s x m. let w = mine s _ m in rw w.0 (r.address s.first x w.1);
      aim = λ s y l x m. let w = mine s _ m in rw w.0 (r.aim s.first y l x w.1);
      take = λ s y l x m. let w = mine s _ m in rw w.0 (r.take s.first y l x w.1);
      give = λ s y m. let w = mine s _ m in rw w.0 (r.give s.first y w.1);
      address_other = λ s x m. elim (other s _ m) [ inl w ↦ rw w.0 (r.address_other s.first x w.1) | inr e ↦ rw e (inl refl) ];
      aim_other = λ s y l x m. elim (other s _ m) [ inl w ↦ rw w.0 (r.aim_other s.first y l x w.1) | inr e ↦ rw e (inl refl) ];
      take_other = λ s y l x m. elim (other s _ m) [ inl w ↦ rw w.0 (r.take_other s.first y l x w.1) | inr e ↦ rw e (inl refl) ];
      give_other = λ s y m. elim (other s _ m) [ inl w ↦ rw w.0 (r.give_other s.first y w.1) | inr e ↦ rw e (inl refl) ];
    }

    first_direct : Direct a chip number see → Direct (both a b) chip (λ s. number s.first) (λ s. see s.first)
    first_direct d = record {
      seat = first_seat;
      address = λ s x m. let w = mine s _ m in rw w.0 (d.address s.first x w.1);
      aim = λ s y l x m. let w = mine s _ m in rw w.0 (d.aim s.first y l x w.1);
      take = λ s y l x m. let w = mine s _ m in rw w.0 (d.take s.first y l x w.1);
      give = λ s y m. let w = mine s _ m in rw w.0 (d.give s.first y w.1);
    }

  -- a chip in the second part
  module _ (ka : Keeps a) {C : Type 0} (chip : Ops C) (number : B → ℕ) (see : B → C) (r : Seat b chip number see) where
    abbrev past_first : Pair A B → ℕ
    past_first s = a.count s.first + number s.second

    outside : (s : Pair A B) → in_first a b s (past_first s) ≡ false
    outside s = le-ltb _ (a.count s.first) (omega arith)

    back : (s : Pair A B) → rest a b s (past_first s) ≡ number s.second
    back s = omega arith

    -- an owner in the first part is a number of the first
    mine_too : (s : Pair A B) (n : ℕ) → Mine (both a b) chip past_first (λ t. see t.second) s n → (a.has s.first n ≡ false) × Mine b chip number see s.second n
    mine_too s n h = elim (owned (a.has s.first n) _ _ _ _ h) [
      | inl e ↦ absurd (omega (arith, (ka.shape s.first).owner_in n _ e.1))
      | inr e ↦ (e.0, e.2 ∙ ap Some (back s))
    ]

    other_too : (s : Pair A B) (n : ℕ) → (Mine (both a b) chip past_first (λ t. see t.second) s n → ⊥)
        → (a.has s.first n ≡ true) ⊎ ((a.has s.first n ≡ false) × (Mine b chip number see s.second n → ⊥))
    other_too s n h = elim (not_owned (a.has s.first n) _ _ _ h) [ inl e ↦ inl e.0 | inr e ↦ inr (e.0, λ o. e.1 (ap (shift (a.count s.first)) o)) ]

    second_shown : (s : Pair A B) → Shown (both a b) chip (past_first s) s (see s.second)
    second_shown s =
        let e = outside s in
        let f = back s in
        let w = r.shown s.second in
        record {
          within = omega (arith, w.within);
          cells = rw (e, f) w.cells;
          wipers = rw (e, f) w.wipers;
          offset = λ i. rw (e, f) (w.offset i);
          cell = λ i. rw (e, f) (w.cell i);
          staged = λ i. rw (e, f) (w.staged i);
          under_way = λ i. rw (e, f) (w.under_way i);
          busy = rw (e, f) w.busy;
          tap = λ j. rw (e, f) (w.tap j);
        }

    second_kept : (s : Pair A B) (m : Move) → past_first (moved (both a b) s m) ≡ past_first s
    second_kept s m = let w = kept a.count number (count_kept a ka) r.fixed s m in omega (arith, w.0, w.1)

    second_seat : Seat (both a b) chip past_first (λ s. see s.second)
    second_seat = record {
      shown = second_shown;
      fixed = second_kept;
      start = λ s. r.start s.second;
      level = λ s l. r.level s.second l;
      stop = λ s clean l. r.stop s.second clean l;
      cut = λ s p. r.cut s.second p;
      renew = λ s. r.renew s.second;
      finish = λ s. rw (outside s, back s) (r.finish s.second);
      finish_other = λ s k d. elim (cases_lt k (a.count s.first)) [
        | inl h ↦ rw (lt-ltb k _ h) refl
        | inr h ↦ rw (le-ltb k _ h) (r.finish_other s.second _ (λ e. d (omega (arith, e, h))))
      ];
      address = λ s x m. let w = mine_too s _ m in rw w.0 (r.address s.second x w.1);
      aim = λ s y l x m. let w = mine_too s _ m in rw w.0 (r.aim s.second y l x w.1);
      take = λ s y l x m. let w = mine_too s _ m in rw w.0 (r.take s.second y l x w.1);
      give = λ s y m. let w = mine_too s _ m in rw w.0 (r.give s.second y w.1);
      address_other = λ s x m. elim (other_too s _ m) [ inl e ↦ rw e (inl refl) | inr w ↦ rw w.0 (r.address_other s.second x w.1) ];
      aim_other = λ s y l x m. elim (other_too s _ m) [ inl e ↦ rw e (inl refl) | inr w ↦ rw w.0 (r.aim_other s.second y l x w.1) ];
      take_other = λ s y l x m. elim (other_too s _ m) [ inl e ↦ rw e (inl refl) | inr w ↦ rw w.0 (r.take_other s.second y l x w.1) ];
      give_other = λ s y m. elim (other_too s _ m) [ inl e ↦ rw e (inl refl) | inr w ↦ rw w.0 (r.give_other s.second y w.1) ];
    }

    second_direct : Direct b chip number see → Direct (both a b) chip past_first (λ s. see s.second)
    second_direct d = record {
      seat = second_seat;
      address = λ s x m. let w = mine_too s _ m in rw w.0 (d.address s.second x w.1);
      aim = λ s y l x m. let w = mine_too s _ m in rw w.0 (d.aim s.second y l x w.1);
      take = λ s y l x m. let w = mine_too s _ m in rw w.0 (d.take s.second y l x w.1);
      give = λ s y m. let w = mine_too s _ m in rw w.0 (d.give s.second y w.1);
    }

module _ {A B C : Type 0} (a : Ops A) (b : Ops B) (chip : Ops C) where
  pub firsts : Firsts a b chip
  firsts number see = ((λ r. first_seat a b chip number see r), λ d. first_direct a b chip number see d.seat d)

  pub seconds : Keeps a → Seconds a b chip
  seconds ka number see = ((λ r. second_seat a b ka chip number see r), λ d. second_direct a b ka chip number see d.seat d)
