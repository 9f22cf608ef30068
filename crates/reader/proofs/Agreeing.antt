-- The recording of a run of samples shows the transfers of that run. Assumes nothing.
use Rattle.std.proofs.Common.{◌≡◌, ℕ, zero, suc, ◌+◌, ◌*◌, ◌/◌, ◌<◌, ◌≤◌, Bool, true, false, not, ◌&&◌, ◌⊎◌, List, [], ◌∷◌, length, eqb, ltb, Some, None, Option, map, eq-or-lt_of_le, refl, sym, ap, ◌∙◌, subst, inl, inr, arith}
use borrow.Author.Tests.{clash, ltb-false, le-ltb, ne_eqb}
use Rattle.std.proofs.lemmas.Bool.{and_from, and_left, cond-true}
use Rattle.std.proofs.lemmas.List.{get_or-map, length-map}
use Rattle.std.proofs.lemmas.Option.{none-some, same_Some}
use Rattle.part.specs.Ops.{Ops}
use Rattle.board.specs.declared.board.Board.{Board}
use Rattle.board.specs.declared.call.Call.TheVariants.{Sample}
use Rattle.board.specs.Engine.{idle_bus}
use Rattle.board.specs.Samples.{bit_value, odd}
use Rattle.board.specs.Wires.{Edge, steady, started, stopped, rose, fell, edge, Byte, Transfer as Open, value as number, next, rising, risen, risen_by, address, reading, all_acked, acked_by, sending, some_byte, is_clean, clean}
use Rattle.board.specs.Runs.{History, pulls, pulls_by, onward, state, history, edge_at as run_edge}
use Rattle.board.specs.Obeys.{sda_after as sda_of}
use Rattle.board.proofs.Running.{steps}
use Rattle.reader.specs.Recording.{scl_after, sda_after, edge_at, open_after, clean_at}
use Rattle.reader.specs.Reading.{last_acked, clean_shown}
use Rattle.reader.specs.declared.transfer.Transfer.{Transfer as Row}
use Rattle.reader.specs.Transfers.{address_of, is_stop, Bounds, Closed, LeftOpen, IsTransfer, no_transfer, at, Reads}
use Rattle.reader.specs.Agreement.{HeldLow, Records, calls, ongoing_at, Alike, Agrees, ReadsRuns}
use Rattle.reader.proofs.Rises.{clean_told}

-- a sample byte tells both wires
scl_told : (c d : Bool) → odd (bit_value c + 2 * bit_value d) ≡ c
scl_told true true = refl
scl_told true false = refl
scl_told false true = refl
scl_told false false = refl

sda_told : (c d : Bool) → odd ((bit_value c + 2 * bit_value d) / 2) ≡ d
sda_told true true = refl
sda_told true false = refl
sda_told false true = refl
sda_told false false = refl

-- A byte y of the recording, and the byte x of the run, which came after the bytes bs: a byte sent that a part acknowledged is LOW.
record Twin (y x : Byte) (bs : List Byte) : Type 0 where
  value : y.value ≡ x.value
  low : y.low ≡ x.low
  real : sending bs ≡ true → x.pulled ≡ true → x.low ≡ true

abbrev Twins : List Byte → List Byte → Type 0
Twins [] [] = Unit {0}
Twins [] (x ∷ bs) = ⊥
Twins (y ∷ cs) [] = ⊥
Twins (y ∷ cs) (x ∷ bs) = Twin y x bs × Twins cs bs

-- the open transfer of the recording, and that of the run
abbrev Same : Option Open → Option Open → Type 0
Same None None = Unit {0}
Same None (Some t) = ⊥
Same (Some u) None = ⊥
Same (Some u) (Some t) = (u.bits ≡ t.bits) × Twins u.bytes t.bytes

-- at a ninth rise a part that pulls for the ACK of a byte sent makes SDA LOW
abbrev Ninth : Bool → Bool → Option Open → Type 0
Ninth pulled w o = (t : Open) → o ≡ Some t → 8 ≤ length t.bits → sending t.bytes ≡ true → pulled ≡ true → w ≡ false

rise_by : (q : Bool) (w p : Bool) (u t : Open) → ltb (length t.bits) 8 ≡ q → u.bits ≡ t.bits → Twins u.bytes t.bytes → Ninth p w (Some t)
    → Same (Some (risen_by q w (not w) u)) (Some (risen_by q w p t))
rise_by true w p u t e bits bytes n = (ap (λ z. w ∷ z) bits, bytes)
rise_by false w p u t e bits bytes n = (refl, (record { value = ap number bits; low = refl; real = λ s q. ap not (n t refl (ltb-false _ 8 e) s q) }, bytes))

rise_same : (w p : Bool) (v o : Option Open) → Same v o → Ninth p w o → Same (rising w (not w) v) (rising w p o)
rise_same w p None None s n = s
rise_same w p None (Some t) s n = absurd s
rise_same w p (Some u) None s n = absurd s
rise_same w p (Some u) (Some t) s n = subst (λ z. Same (Some (risen_by (ltb (length z) 8) w (not w) u)) (Some (risen w p t))) (sym s.0) (rise_by (ltb (length t.bits) 8) w p u t refl s.0 s.1 n)

next_same : (c e d w p : Bool) (v o : Option Open) → Same v o → (c ≡ false → e ≡ true → Ninth p w o) → Same (next (edge c e d w) (not w) v) (next (edge c e d w) p o)
next_same true true true true p v o s n = s
next_same true true true false p v o s n = (refl, tt)
next_same true true false true p v o s n = tt
next_same true true false false p v o s n = s
next_same true false d w p v o s n = s
next_same false true d w p v o s n = rise_same w p v o s (n refl refl)
next_same false false d w p v o s n = s

-- both have the same address and number of bytes
same_address : (cs bs : List Byte) → Twins cs bs → address cs ≡ address bs
same_address [] [] s = refl
same_address [] (x ∷ bs) s = absurd s
same_address (y ∷ cs) [] s = absurd s
same_address (y ∷ []) (x ∷ []) s = s.0.value
same_address (y ∷ []) (x ∷ (z ∷ bs)) s = absurd s.1
same_address (y ∷ (v ∷ cs)) (x ∷ []) s = absurd s.1
same_address (y ∷ (v ∷ cs)) (x ∷ (z ∷ bs)) s = same_address (v ∷ cs) (z ∷ bs) s.1

same_length : (cs bs : List Byte) → Twins cs bs → length cs ≡ length bs
same_length [] [] s = refl
same_length [] (x ∷ bs) s = absurd s
same_length (y ∷ cs) [] s = absurd s
same_length (y ∷ cs) (x ∷ bs) s = ap suc (same_length cs bs s.1)

same_some : (cs bs : List Byte) → Twins cs bs → some_byte cs ≡ some_byte bs
same_some [] [] s = refl
same_some [] (x ∷ bs) s = absurd s
same_some (y ∷ cs) [] s = absurd s
same_some (y ∷ cs) (x ∷ bs) s = refl

-- p is judged as q is, or p alone holds, and that for a reason
abbrev Judged : Bool → Bool → Type 0 → Type 0
Judged p q H = (p ≡ q) ⊎ ((p ≡ true) × (q ≡ false) × H)

-- a last byte after one that was not acknowledged, and one sent after those that all were
deaf_judged : (l : Bool) (y x : Byte) (bs : List Byte) → x.low ≡ l → all_acked bs ≡ false → Twin y x bs → Judged y.low false (HeldLow (x ∷ bs))
deaf_judged true y x bs low deaf t = inr (t.low ∙ low, refl, (low, inl deaf))
deaf_judged false y x bs low deaf t = inl (t.low ∙ low)

sent_judged : (l p : Bool) (y x : Byte) (bs : List Byte) → x.low ≡ l → x.pulled ≡ p → sending bs ≡ true → Twin y x bs → Judged y.low x.pulled (HeldLow (x ∷ bs))
sent_judged true true y x bs low pulled sends t = inl (t.low ∙ low ∙ sym pulled)
sent_judged true false y x bs low pulled sends t = inr (t.low ∙ low, pulled, (low, inr (sends, pulled)))
sent_judged false true y x bs low pulled sends t = absurd (clash (sym low ∙ t.real sends pulled))
sent_judged false false y x bs low pulled sends t = inl (t.low ∙ low ∙ sym pulled)

last_judged : (a r : Bool) (y x : Byte) (bs : List Byte) → all_acked bs ≡ a → reading bs ≡ r → Twin y x bs → Judged y.low (a && acked_by r x) (HeldLow (x ∷ bs))
last_judged false r y x bs e f t = deaf_judged x.low y x bs refl e t
last_judged true true y x bs e f t = inl t.low
last_judged true false y x bs e f t = sent_judged x.low x.pulled y x bs refl refl (and_from _ _ e (ap not f)) t

bytes_judged : (cs bs : List Byte) → Twins cs bs → Judged (last_acked cs) (some_byte bs && all_acked bs) (HeldLow bs)
bytes_judged [] [] s = inl refl
bytes_judged [] (x ∷ bs) s = absurd s
bytes_judged (y ∷ cs) [] s = absurd s
bytes_judged (y ∷ cs) (x ∷ bs) s = last_judged (all_acked bs) (reading bs) y x bs refl refl s.0

and_judged : (a p q : Bool) (H : Type 0) → Judged p q H → Judged (a && p) (a && q) H
and_judged true p q H j = j
and_judged false p q H j = inl refl

-- the STOP that ends them
clean_judged : (u t : Open) → u.bits ≡ t.bits → Twins u.bytes t.bytes → Judged (clean_shown u) (is_clean t) (HeldLow t.bytes)
clean_judged u t bits bytes = rw bits (and_judged (eqb (length t.bits) 1) _ _ _ (bytes_judged u.bytes t.bytes bytes))

held_acked : (cs bs : List Byte) → Twins cs bs → HeldLow bs → last_acked cs ≡ true
held_acked [] [] s h = absurd h
held_acked [] (x ∷ bs) s h = absurd s
held_acked (y ∷ cs) [] s h = absurd s
held_acked (y ∷ cs) (x ∷ bs) s h = s.0.low ∙ h.0

held_clean : (u t : Open) → u.bits ≡ t.bits → Twins u.bytes t.bytes → length t.bits ≡ 1 → HeldLow t.bytes → clean_shown u ≡ true
held_clean u t bits bytes one h = rw (bits, one) (held_acked u.bytes t.bytes bytes h)

same_address_of : (u t : Open) → u.bits ≡ t.bits → Twins u.bytes t.bytes → address_of u ≡ address_of t
same_address_of u t bits bytes = rw (bits, same_some u.bytes t.bytes bytes, same_address u.bytes t.bytes bytes) refl

no_stop : (e : Edge) → (Bounds e → ⊥) → is_stop e ≡ false
no_stop steady h = refl
no_stop started h = refl
no_stop stopped h = absurd (h (inr refl))
no_stop (rose bit) h = refl
no_stop fell h = refl

-- where one has an open transfer, so has the other
some_of : (v o : Option Open) (u : Open) → Same v o → v ≡ Some u → (t : Open) × ((o ≡ Some t) × (u.bits ≡ t.bits) × Twins u.bytes t.bytes)
some_of None o u s e = absurd (none-some u e)
some_of (Some v) None u s e = absurd s
some_of (Some v) (Some t) u s e = let f = subst (λ z. (z.bits ≡ t.bits) × Twins z.bytes t.bytes) (same_Some v u e) s in (t, (refl, f.0, f.1))

-- what a record says of its STOP, by what its transfer o says
held_at : (r p stops : Bool) (o : Option Open) (t : Open) → r ≡ p → o ≡ Some t → Judged p (stops && is_clean t) (HeldLow t.bytes)
    → (r ≡ (stops && clean o)) ⊎ ((r ≡ true) × ((stops && clean o) ≡ false) × ((u : Open) × ((o ≡ Some u) × HeldLow u.bytes)))
held_at r p stops o t e f (inl g) = inl (e ∙ g ∙ sym (ap (λ o. stops && clean o) f))
held_at r p stops o t e f (inr g) = inr (e ∙ g.0, ap (λ o. stops && clean o) f ∙ g.1, (t, (f, g.2)))

-- the pull at the ninth rise of a byte sent is the part's answer, and the answer stays as it is there
low_of : (w sda p a : Bool) → w ≡ (sda && not a) → p ≡ a → p ≡ true → w ≡ false
low_of w true p true h e f = h
low_of w false p true h e f = h
low_of w sda p false h e f = absurd (clash (sym e ∙ f))

low_pull : (t : Open) (answer : Bool) (byte : ℕ) → 8 ≤ length t.bits → sending t.bytes ≡ true → pulls_by false (Some t) answer byte ≡ answer
low_pull t answer byte long sends = rw (le-ltb (length t.bits) 8 long, sends) refl

module _ {S : Type 0} (ops : Ops S) where
  high_pull : (b c : Board S) (x : ℕ) (h : History) (t : Open) → ltb x 32 ≡ true → b.bus.scl ≡ false → c.bus.scl ≡ true → h.ongoing ≡ Some t
      → 8 ≤ length t.bits → sending t.bytes ≡ true → pulls true (onward ops b (Sample x) c h) ≡ h.answer
  high_pull b c x h t ok before after is long sends = rw (ok, before, after, is, ne_eqb (length t.bits) 7 (λ z. omega (arith, long, z)), le-ltb (length t.bits) 8 long) (rw sends refl)

  ninth : (b c : Board S) (x : ℕ) (h : History) → (ltb x 32 ≡ false → c ≡ b)
      → c.bus.sda ≡ sda_of b.bus.sda (Sample x) (pulls c.bus.scl (onward ops b (Sample x) c h)) → b.bus.scl ≡ false → c.bus.scl ≡ true
      → Ninth (pulls b.bus.scl h) c.bus.sda h.ongoing
  ninth b c x h refused sda before after t is long sends pull = by (ltb x 32) refl
    where
      by : (q : Bool) → ltb x 32 ≡ q → c.bus.sda ≡ false
      by true ok =
          let p : pulls b.bus.scl h ≡ h.answer = rw (before, is) (low_pull t h.answer h.byte long sends) in
          let a : pulls c.bus.scl (onward ops b (Sample x) c h) ≡ h.answer = ap (λ z. pulls z (onward ops b (Sample x) c h)) after ∙ high_pull b c x h t ok before after is long sends in
          low_of c.bus.sda (odd (x / 2)) _ h.answer (sda ∙ cond-true _ _ _ ok ∙ ap (λ z. odd (x / 2) && not z) a) p pull
      by false bad = absurd (clash (sym before ∙ sym (ap (λ z. z.bus.scl) (refused bad)) ∙ after))

  module _ (b : Board S) (idle : b.bus ≡ idle_bus) (samples : ℕ → ℕ) (n : ℕ) (xs : List ℕ) (records : Records ops b samples n xs) where
    abbrev B : ℕ → Board S
    B j = state ops b (calls ops b samples) j

    abbrev H : ℕ → History
    H j = history ops b (calls ops b samples) j

    -- the edges and open transfers of the run
    abbrev E : ℕ → Edge
    E j = run_edge ops b (calls ops b samples) j

    abbrev O : ℕ → Option Open
    O j = ongoing_at ops b samples j

    -- the recording's wires, edges and open transfers
    scl_same : (j : ℕ) → j ≤ n → scl_after xs j ≡ (B j).bus.scl
    scl_same zero h = sym (ap (λ z. z.scl) idle)
    scl_same (suc j) h = ap odd (records.1 j h) ∙ scl_told (B (suc j)).bus.scl (B (suc j)).bus.sda

    sda_same : (j : ℕ) → j ≤ n → sda_after xs j ≡ (B j).bus.sda
    sda_same zero h = sym (ap (λ z. z.sda) idle)
    sda_same (suc j) h = ap (λ z. odd (z / 2)) (records.1 j h) ∙ sda_told (B (suc j)).bus.scl (B (suc j)).bus.sda

    edge_alike : (j : ℕ) → j < n → edge_at xs j ≡ E j
    edge_alike j h = rw (scl_same j (omega arith), scl_same (suc j) h, sda_same j (omega arith), sda_same (suc j) h) refl

    open_same : (j : ℕ) → j ≤ n → Same (open_after xs j) (O j)
    open_same zero h = tt
    open_same (suc j) h =
        let was = open_same j (omega arith) in
        let s = steps ops b (calls ops b samples) (ap (λ z. z.phase) idle) j in
        let goes = next_same (B j).bus.scl (B (suc j)).bus.scl (B j).bus.sda (B (suc j)).bus.sda (pulls (B j).bus.scl (H j)) (open_after xs j) (O j) was
        (λ before after. ninth (B j) (B (suc j)) (samples j) (H j) s.refused s.sda before after) in
        subst (λ z. Same (next z (not (sda_after xs (suc j))) (open_after xs j)) (O (suc j))) (sym (edge_alike j h))
        (subst (λ z. Same (next (E j) (not z) (open_after xs j)) (O (suc j))) (sym (sda_same (suc j) h)) goes)

    -- the record of the run beside one of the recording
    abbrev own : Row → Row
    own r = record { first = r.first; last = r.last; address = r.address; ninths = r.ninths; clean = is_stop (E r.last) && clean (O r.last) }

    abbrev Ours : Row → Type 0
    Ours r = IsTransfer E O (λ j. clean (O j)) n r

    shown : (j : ℕ) → j < n → Bounds (E j) → Bounds (edge_at xs j)
    shown j h k = subst Bounds (sym (edge_alike j h)) k

    record Beside (r : Row) : Type 0 where
      ours : Ours (own r)
      alike : Alike ops b samples r (own r)

    closed_beside : (r : Row) → IsTransfer (edge_at xs) (open_after xs) (clean_at xs) n r → Closed (edge_at xs) (open_after xs) (clean_at xs) n r → Beside r
    closed_beside r i c =
        let within = i.within in
        let f = some_of (open_after xs r.last) (O r.last) c.t (open_same r.last (omega arith)) c.opened in
        let t = f.0 in
        let g = f.1 in
        let e = edge_alike r.last within in
        let stops = is_stop (E r.last) in
        let so : r.clean ≡ (stops && clean_shown c.t) = c.clean ∙ ap (λ k. is_stop k && clean_at xs r.last) e ∙ ap (λ q. stops && q) (sym (clean_told xs r.last c.t c.opened)) in
        let j = and_judged stops _ _ _ (clean_judged c.t t g.1 g.2) in
        let same : (o : Open) → O r.last ≡ Some o → t ≡ o = λ o is. same_Some t o (sym g.0 ∙ is) in
        record {
          ours = record {
            starts = sym (edge_alike r.first (let o = i.order in omega arith)) ∙ i.starts;
            order = i.order;
            within = within;
            between = λ k lo hi z. i.between k lo hi (shown k (omega arith) z);
            ends = inl (record {
              later = c.later;
              bounds = subst Bounds e c.bounds;
              t = t;
              opened = g.0;
              shows = (c.shows.0 ∙ same_address_of c.t t g.1 g.2, c.shows.1 ∙ same_length c.t.bytes t.bytes g.2);
              clean = refl;
            });
          };
          alike = record {
            first = refl;
            last = refl;
            address = refl;
            ninths = refl;
            clean = held_at r.clean _ stops _ t so g.0 j;
            held = λ o is stop one h. so ∙ and_from _ _ (ap is_stop stop) (held_clean c.t t g.1 g.2 (ap (λ o. length o.bits) (same o is) ∙ one) (subst (λ o. HeldLow o.bytes) (sym (same o is)) h));
          };
        }

    open_beside : (r : Row) → IsTransfer (edge_at xs) (open_after xs) (clean_at xs) n r → LeftOpen (edge_at xs) (open_after xs) (clean_at xs) n r → Beside r
    open_beside r i c =
        let within = i.within in
        let f = some_of (open_after xs n) (O n) c.t (open_same n (omega arith)) c.opened in
        let t = f.0 in
        let g = f.1 in
        let starts = sym (edge_alike r.first (let o = i.order in omega arith)) ∙ i.starts in
        let dirty = and_left _ (clean (O r.last)) (unstopped (eq-or-lt_of_le i.order) starts) in
        record {
          ours = record {
            starts = starts;
            order = i.order;
            within = within;
            between = λ k lo hi z. i.between k lo hi (shown k (omega arith) z);
            ends = inr (record {
              at_end = c.at_end;
              on = λ k lo hi z. c.on k lo hi (shown k hi z);
              t = t;
              opened = g.0;
              shows = (c.shows.0 ∙ same_address_of c.t t g.1 g.2, c.shows.1 ∙ same_length c.t.bytes t.bytes g.2);
              clean = dirty;
            });
          };
          alike = record {
            first = refl;
            last = refl;
            address = refl;
            ninths = refl;
            clean = inl (c.clean ∙ sym dirty);
            held = λ o is stop one h. absurd (clash (sym (unstopped (eq-or-lt_of_le i.order) starts) ∙ ap is_stop stop));
          };
        }
      where
        unstopped : (r.first ≡ r.last) ⊎ (r.first < r.last) → E r.first ≡ started → is_stop (E r.last) ≡ false
        unstopped (inl e) s = ap (λ k. is_stop (E k)) (sym e) ∙ ap is_stop s
        unstopped (inr l) s = no_stop _ (λ z. c.on r.last l i.within (shown r.last i.within z))

    beside : (r : Row) → IsTransfer (edge_at xs) (open_after xs) (clean_at xs) n r → Beside r
    beside r i = by i.ends
      where
        by : Closed (edge_at xs) (open_after xs) (clean_at xs) n r ⊎ LeftOpen (edge_at xs) (open_after xs) (clean_at xs) n r → Beside r
        by (inl c) = closed_beside r i c
        by (inr c) = open_beside r i c

    agreeing : (rows : List Row) → Reads (edge_at xs) (open_after xs) (clean_at xs) n rows → Agrees ops b samples n rows
    agreeing rows reads =
        let long = length-map rows own in
        record {
          own = map own rows;
          reads = record {
            each = λ i h. subst Ours (sym (at_own i (omega (arith, h, long)))) (beside (at rows i) (reads.each i (omega (arith, h, long)))).ours;
            rising = λ i h. (
                let lt : suc i < length rows = omega (arith, h, long) in
                rw (at_own i (omega (arith, lt)), at_own (suc i) lt) (reads.rising i lt));
            all = λ j h s. (
                let f = reads.all j h (edge_alike j h ∙ s) in
                (f.0, (omega (arith, f.1.0, long), rw (at_own f.0 f.1.0) f.1.1)));
          };
          many = sym long;
          alike = λ i h. subst (Alike ops b samples (at rows i)) (sym (at_own i h)) (beside (at rows i) (reads.each i h)).alike;
        }
      where
        at_own : (i : ℕ) → i < length rows → at (map own rows) i ≡ own (at rows i)
        at_own i h = get_or-map own rows i no_transfer no_transfer h

pub reads_runs : {S : Type 0} (ops : Ops S) → ReadsRuns ops
unfolding ReadsRuns
reads_runs ops b idle samples n xs records rows reads = agreeing ops b idle samples n xs records rows reads
