-- The last record of a row that grew, changed in its place, and what stands in the row after one sample more.
use Rattle.std.proofs.Common.{◌≡◌, ℕ, ◌+◌, ◌-◌, Bool, true, false, ◌||◌, cond, List, [], ◌∷◌, ◌++◌, set, Some, None, Option, option_map, sym, refl, ap, ◌∙◌, subst, ◌⊎◌, inl, inr, arith, ltb-true}
use Rattle.std.specs.Prelude.{nat_eq, nat_lt}
use borrow.Author.Tests.{clash, ne_eqb}
use Rattle.std.specs.List.{slice_get}
use Rattle.std.proofs.lemmas.Option.{same_Some, none-some}
use Rattle.rows.specs.declared.row.Row.{Row}
use Rattle.rows.specs.Rows.{items_of, row_of, holds_none, Grown}
use Rattle.rows.proofs.Growing.{last_grown, grown_other}
use Rattle.board.specs.Wires.{Transfer as Open, started, stopped, rose}
use Rattle.reader.specs.declared.kept.Kept.{Kept}
use Rattle.reader.specs.declared.transfer.Transfer.{Transfer}
use Rattle.reader.specs.declared.wires.Edge.{Edge as Seen}
use Rattle.reader.specs.declared.wires.Edge.TheVariants.{Steady, Fall}
use Rattle.reader.specs.Kept.{kept_of, kept_new, kept_risen_by, kept_risen, kept_next, kept_address, rise_shows, kept_clean, edge_of}
use Rattle.reader.specs.Steps.{HasLast, Stands, kept_prolonged, Changes, Begins, GoesOn, Reaches, Stopped, Grows}
use Rattle.reader.specs.Reading.{opened, prolonged, ended, with_last, going_on, ending, clean_shown}
use Rattle.reader.specs.Transfers.{Shows}
use Rattle.reader.proofs.Keeping.{prolonged_all, address_kept}
use Rattle.reader.proofs.Words.{with_last_more}

-- rows that are not empty, by their last
record Snoc (f : Transfer → Transfer) (r : Transfer) (rows : List Transfer) : Type 0 where
  ys : List Transfer
  y : Transfer
  all : r ∷ rows ≡ ys ++ (y ∷ [])
  changed : with_last f (r ∷ rows) ≡ ys ++ (f y ∷ [])

snoc : (f : Transfer → Transfer) (r : Transfer) (rows : List Transfer) → Snoc f r rows
snoc f r [] = record { ys = []; y = r; all = refl; changed = refl }
snoc f r (s ∷ rows) =
    let more = snoc f s rows in
    record { ys = r ∷ more.ys; y = more.y; all = ap (λ zs. r ∷ zs) more.all; changed = ap (λ zs. r ∷ zs) more.changed }

last_is : (a b : Row Transfer) (f : Transfer → Transfer) (r : Transfer) (rows : List Transfer) (s : Snoc f r rows) → Grown a (r ∷ rows) b → slice_get (row_of b) (b.count - 1) ≡ Some s.y
last_is a b f r rows s g = last_grown a b s.ys s.y (subst (λ zs. Grown a zs b) s.all g)

-- a row that grew has a last
pub grown_some : (a b : Row Transfer) (r : Transfer) (rows : List Transfer) → Grown a (r ∷ rows) b → slice_get (row_of b) (b.count - 1) ≡ None → ⊥
grown_some a b r rows g e = none-some _ (sym e ∙ last_is a b (λ r. r) r rows (snoc (λ r. r) r rows) g)

-- what replacing it makes
pub changed : (f : Transfer → Transfer) (b c : Row Transfer) (last : Transfer) → Some last ≡ slice_get (row_of b) (b.count - 1) → c.count ≡ b.count
    → items_of c ≡ cond (holds_none b) (items_of b) (set (items_of b) (b.count - 1) (f last)) → Changes f b c
changed f b c last l n i a r rows g =
    let s = snoc f r rows in
    let same : last ≡ s.y = same_Some _ _ (l ∙ last_is a b f r rows s g) in
    let j : items_of c ≡ cond (holds_none b) (items_of b) (set (items_of b) (b.count - 1) (f s.y)) =
    subst (λ y. items_of c ≡ cond (holds_none b) (items_of b) (set (items_of b) (b.count - 1) (f y))) same i in
    subst (λ zs. Grown a zs c) (sym s.changed) (grown_other a b c s.ys s.y (f s.y) (subst (λ zs. Grown a zs b) s.all g) n j)

-- a record that is changed twice
twice : (f g : Transfer → Transfer) (rows : List Transfer) → with_last f (with_last g rows) ≡ with_last (λ r. f (g r)) rows
twice f g [] = refl
twice f g (r ∷ []) = refl
twice f g (r ∷ (s ∷ [])) = refl
twice f g (r ∷ (s ∷ (u ∷ rows))) = ap (λ zs. r ∷ zs) (twice f g (s ∷ (u ∷ rows)))

ended_twice : (n m : ℕ) (o : Option Open) (clean : Open → Bool) (rows : List Transfer) → ending n o clean (ending m o (λ t. false) rows) ≡ ending n o clean rows
ended_twice n m None clean rows = refl
ended_twice n m (Some t) clean rows = twice (ended n (clean t)) (ended m false) rows

-- the last record shows the transfer that is open
last_prolonged : (n : ℕ) (t : Open) (r : Transfer) (rows : List Transfer) → HasLast (Some t) (with_last (prolonged n t) (r ∷ rows))
last_prolonged n t r [] = (refl, refl)
last_prolonged n t r (s ∷ []) = (refl, refl)
last_prolonged n t r (s ∷ (u ∷ rows)) = last_prolonged n t s (u ∷ rows)

last_pushed : (t : Open) (r : Transfer) (rows : List Transfer) → Shows r t → HasLast (Some t) (rows ++ (r ∷ []))
last_pushed t r [] h = h
last_pushed t r (s ∷ []) h = h
last_pushed t r (s ∷ (u ∷ rows)) h = last_pushed t r (u ∷ rows) h

-- a record shows the same of two open transfers
abbrev Alike : Kept → Kept → Type 0
Alike k l = (kept_address k ≡ kept_address l) × (k.ninths ≡ l.ninths)

shows_alike : (t u : Open) (r : Transfer) → Alike (kept_of t) (kept_of u) → Shows r t → Shows r u
shows_alike t u r a h = (h.0 ∙ sym (address_kept t) ∙ a.0 ∙ address_kept u, h.1 ∙ a.1)

last_alike : (t u : Open) (rows : List Transfer) → Alike (kept_of t) (kept_of u) → HasLast (Some t) rows → HasLast (Some u) rows
last_alike t u [] a h = h
last_alike t u (r ∷ []) a h = shows_alike t u r a h
last_alike t u (r ∷ (s ∷ rows)) a h = last_alike t u (s ∷ rows) a h

-- such a record goes on where it only reaches a sample
shown : (n : ℕ) (t : Open) (rows : List Transfer) → HasLast (Some t) rows → with_last (ended n false) rows ≡ with_last (prolonged n t) rows
shown n t [] h = absurd h
shown n t (r ∷ []) h = λ i. record { first = r.first; last = n; address = h.0 i; ninths = h.1 i; clean = false } ∷ []
shown n t (r ∷ (s ∷ rows)) h = ap (λ zs. r ∷ zs) (shown n t (s ∷ rows) h)

stands_on : (n m : ℕ) (t u : Open) (start : Row Transfer) (rows : List Transfer) (b : Row Transfer) → Alike (kept_of t) (kept_of u)
    → Stands start m (Some t) rows b → Stands start n (Some u) (with_last (prolonged n u) rows) b
stands_on n m t u start rows b a s =
    let last = last_alike t u s.written a s.last in
    record { written = s.written; last = last; reached = shown n u s.written last ∙ sym (twice (prolonged n u) (ended m false) s.written) ∙ ap (with_last (prolonged n u)) s.reached; grown = s.grown }

-- what an open transfer's record becomes: where what it shows changes, it is changed
prolonged_on : (n m : ℕ) (t u : Open) (start : Row Transfer) (rows : List Transfer) (b c : Row Transfer) → Changes (prolonged n u) b c
    → Stands start m (Some t) rows b → Stands start n (Some u) (with_last (prolonged n u) rows) c
prolonged_on n m t u start rows b c h s = by s.written s.last s.reached s.grown
  where
    by : (w : List Transfer) → HasLast (Some t) w → with_last (ended m false) w ≡ rows → Grown start w b → Stands start n (Some u) (with_last (prolonged n u) rows) c
    by [] last reached g = absurd last
    by (r ∷ w) last reached g = record {
      written = with_last (prolonged n u) (r ∷ w);
      last = last_prolonged n u r w;
      reached = twice (ended n false) (prolonged n u) (r ∷ w) ∙ sym (twice (prolonged n u) (ended m false) (r ∷ w)) ∙ ap (with_last (prolonged n u)) reached;
      grown = h start r w g;
    }

pub gone_on : (n : ℕ) (before after : Option Kept) (k l : Kept) (b c : Row Transfer) → before ≡ Some k → after ≡ Some l → Changes (kept_prolonged n l) b c → GoesOn n before after b c
gone_on n before after k l b c i j h None u e f start m rows s = absurd (none-some _ (sym e ∙ i))
gone_on n before after k l b c i j h (Some t) None e f start m rows s = absurd (none-some _ (sym f ∙ j))
gone_on n before after k l b c i j h (Some t) (Some u) e f start m rows s =
    let alike : kept_prolonged n l ≡ prolonged n u = ap (kept_prolonged n) (same_Some _ _ (sym j ∙ f)) ∙ prolonged_all n u in
    prolonged_on n m t u start rows b c (subst (λ p. Changes p b c) alike h) s

-- and else it stays
abbrev AllAlike : Option Kept → Option Kept → Type 0
AllAlike None None = Unit {0}
AllAlike None (Some l) = ⊥
AllAlike (Some k) None = ⊥
AllAlike (Some k) (Some l) = Alike k l

stayed : (n : ℕ) (before after : Option Kept) (b : Row Transfer) → AllAlike before after → GoesOn n before after b b
stayed n before after b a t u e f start m rows s = by t u (subst (λ o. AllAlike o (option_map kept_of u)) e (subst (AllAlike before) f a)) s
  where
    by : (t u : Option Open) → AllAlike (option_map kept_of t) (option_map kept_of u) → Stands start m t rows b → Stands start n u (going_on n t u rows) b
    by None None a s = record { written = s.written; last = tt; reached = s.reached; grown = s.grown }
    by None (Some u) a s = absurd a
    by (Some t) None a s = absurd a
    by (Some t) (Some u) a s = stands_on n m t u start rows b a s

all_alike : (o : Option Kept) → AllAlike o o
all_alike None = tt
all_alike (Some k) = (refl, refl)

pub quiet : (n : ℕ) (before after : Option Kept) (b : Row Transfer) (e : Seen) → after ≡ kept_next (edge_of e) before → (e ≡ Steady) ⊎ (e ≡ Fall) → Grows (edge_of e) n before after b b
quiet n before after b e k (inl s) = rw s (stayed n before after b (subst (AllAlike before) (sym (rw s at k)) (all_alike before)))
quiet n before after b e k (inr s) = rw s (stayed n before after b (subst (AllAlike before) (sym (rw s at k)) (all_alike before)))

-- a rise that is neither the eighth nor the ninth
neither : (p q : Bool) → (p || q) ≡ false → p ≡ false
neither true q e = absurd (clash (sym e))
neither false q e = refl

risen_alike : (small bit : Bool) (k : Kept) → nat_lt k.bits 8 ≡ small → rise_shows (kept_risen_by small bit k) ≡ false → Alike k (kept_risen_by small bit k)
risen_alike true bit k lt e = (rw (ne_eqb k.bits 8 (λ z. omega (arith, z, ltb-true _ 8 lt)), neither (nat_eq (k.bits + 1) 8) (nat_eq (k.bits + 1) 0) e) refl, refl)
risen_alike false bit k lt e = absurd (clash (sym e))

pub unshown : (n : ℕ) (before after : Option Kept) (k l : Kept) (b : Row Transfer) (bit : Bool) → after ≡ kept_next (rose bit) before
    → before ≡ Some k → after ≡ Some l → rise_shows l ≡ false → GoesOn n before after b b
unshown n before after k l b bit f i j e =
    let is : l ≡ kept_risen bit k = same_Some _ _ (sym j ∙ f ∙ ap (kept_next (rose bit)) i) in
    let alike : Alike k l = subst (Alike k) (sym is) (risen_alike (nat_lt k.bits 8) bit k refl (ap rise_shows (sym is) ∙ e)) in
    stayed n before after b (subst (λ o. AllAlike o after) (sym i) (subst (AllAlike (Some k)) (sym j) alike))

-- a STOP
pub stopped_by : (n : ℕ) (before : Option Kept) (k : Kept) (b c : Row Transfer) → before ≡ Some k → Changes (ended n (kept_clean k)) b c → Stopped n before b c
stopped_by n before k b c i h None e start rows m g = absurd (none-some _ (sym e ∙ i))
stopped_by n before k b c i h (Some t) e start [] m g = absurd m
stopped_by n before k b c i h (Some t) e start (r ∷ rows) m g =
    let same : kept_clean k ≡ clean_shown t = ap kept_clean (same_Some _ _ (sym i ∙ e)) in
    subst (λ q. Grown start (with_last (ended n q) (r ∷ rows)) c) same (h start r rows g)

pub stands_stopped : (n : ℕ) (before after : Option Kept) (b c : Row Transfer) → after ≡ None → Stopped n before b c → Grows stopped n before after b c
stands_stopped n before after b c closed h t None e f start m rows s =
    record {
      written = ending n t clean_shown s.written;
      last = tt;
      reached = sym (ended_twice n m t clean_shown s.written) ∙ ap (ending n t clean_shown) s.reached;
      grown = h t e start s.written s.last s.grown;
    }
stands_stopped n before after b c closed h t (Some u) e f start m rows s = absurd (none-some _ (sym closed ∙ f))

-- a START
pub stands_begun : (n : ℕ) (before after : Option Kept) (b c d : Row Transfer) → after ≡ Some kept_new → Reaches n before b c → Begins n c d → Grows started n before after b d
stands_begun n before after b c d is h k t None e f start m rows s = absurd (none-some _ (sym f ∙ is))
stands_begun n before after b c d is h k t (Some u) e f start m rows s =
    let new : kept_new ≡ kept_of u = same_Some _ _ (sym is ∙ f) in
    let w = ending n t (λ t. false) s.written in
    record {
      written = w ++ (opened n ∷ []);
      last = last_pushed u (opened n) w (ap kept_address new ∙ address_kept u, ap (λ (k : Kept). k.ninths) new);
      reached = with_last_more (ended n false) w (opened n) ∙ ap (λ zs. zs ++ (opened n ∷ [])) (sym (ended_twice n m t (λ t. false) s.written) ∙ ap (ending n t (λ t. false)) s.reached);
      grown = k start w (h t e start s.written s.last s.grown);
    }

-- the last sample of all
pub stands_ended : (n m : ℕ) (before : Option Kept) (b c : Row Transfer) (o : Option Open) (start : Row Transfer) (rows : List Transfer) → m ≡ n
    → before ≡ option_map kept_of o → Reaches m before b c → Stands start n o rows b → Grown start rows c
stands_ended n m before b c o start rows e i h s = subst (λ zs. Grown start zs c) (ap (λ k. ending k o (λ t. false) s.written) e ∙ s.reached) (h o i start s.written s.last s.grown)
