-- What is staged was carried by the open transfer, an acknowledged write so far. Assumes nothing.
use Rattle.std.proofs.Common.{◌≡◌, ℕ, suc, ◌/◌, ◌≤◌, Bool, true, false, cond, not, ◌&&◌, ◌⊎◌, List, [], ◌∷◌, length, eqb, ltb, Some, None, Option, refl, sym, ap, ◌∙◌, subst, inl, inr, arith}
use borrow.Author.Tests.{clash}
use Rattle.std.proofs.lemmas.Bool.{and_parts, and_from, ltb-true, ltb-false, eqb-true, lt-ltb, eq-eqb, ne_eqb, not-true}
use Rattle.std.proofs.lemmas.Option.{none-some, same_Some}
use Rattle.part.specs.declared.levels.Levels.{Levels}
use Rattle.part.specs.Ops.{Ops}
use Rattle.part.specs.Keeps.{Keeps, Fixed, Fades}
use Rattle.part.specs.Moves.{Move, giving as giving_byte, moved, after}
use Rattle.board.specs.Samples.{odd}
use Rattle.board.specs.Wires.{rose, fell, edge, Byte, Transfer, transfer, value, next, rising, address, reading, all_acked, acked_by, sending, giving, values, carried}
use Rattle.board.specs.Runs.{pulls_by, told, offered, answer_after}
use Rattle.board.specs.Cause.{Among}

-- the values of the bytes that have come, that of a byte without its ninth rise among them
abbrev pub so_far : Transfer → List ℕ
so_far t = cond (eqb (length t.bits) 8) (value t.bits ∷ values t.bytes) (values t.bytes)

faded : (o p : Option ℕ) (v : ℕ) → (p ≡ o) ⊎ (p ≡ None) → p ≡ Some v → o ≡ Some v
faded o p v (inl e) h = sym e ∙ h
faded o p v (inr e) h = let z : ◌≡◌ {A = ℕ} 0 1 = cc in absurd (omega arith)

module _ {S : Type 0} (ops : Ops S) (keeps : Keeps ops) where
  -- a write of v to the numbered part k has come so far
  pub record Bears (answer : Bool) (o : Option Transfer) (s : S) (k v : ℕ) : Type 0 where
    pub t : Transfer
    pub is : o ≡ Some t
    pub few : length t.bits ≤ 8
    pub acked : all_acked t.bytes ≡ true
    pub writing : reading t.bytes ≡ false
    pub mine : ops.owner s (address t.bytes / 2) ≡ Some k
    pub answered : length t.bits ≡ 8 → answer ≡ true
    pub carries : Among v (carried (so_far t))

  abbrev pub Held : Bool → Option Transfer → S → Type 0
  Held answer o s = (k i v : ℕ) → ops.staged s k i ≡ Some v → Bears answer o s k v

  -- the part moves, and what is staged only fades
  pub onto : (answer : Bool) (o : Option Transfer) (s u : S) → Fixed ops s u → Fades ops s u → Held answer o s → Held answer o u
  onto answer o s u x f h k i v e =
      let r = h k i v (faded _ _ v (f k i) e) in
      record { t = r.t; is = r.is; few = r.few; acked = r.acked; writing = r.writing; mine = x.owner _ ∙ r.mine; answered = r.answered; carries = r.carries }

  unstaged : (answer : Bool) (o : Option Transfer) (u : S) → ((k i : ℕ) → ops.staged u k i ≡ None) → Held answer o u
  unstaged answer o u n k i v e = let f = n k i in let z : ◌≡◌ {A = ℕ} 0 1 = cc in absurd (omega arith)

  -- a rise at which nothing is offered: a bit more, or the ninth
  more_bits : (w pulled answer : Bool) (byte : ℕ) (o : Option Transfer) (s : S) (k v : ℕ) → pulled ≡ pulls_by false o answer byte → (r : Bears answer o s k v)
      → (length r.t.bits ≡ 7 → ⊥) → (q : Bool) → ltb (length r.t.bits) 8 ≡ q → Bears answer (rising w pulled o) s k v
  more_bits w pulled answer byte o s k v p r n true e =
      let t = r.t in
      let lt = ltb-true _ 8 e in
      record {
        t = transfer t.bytes (w ∷ t.bits);
        is = rw (r.is, e) refl;
        few = omega arith;
        acked = r.acked;
        writing = r.writing;
        mine = r.mine;
        answered = λ z. absurd (n (omega (arith, z)));
        carries = rw (ne_eqb (suc (length t.bits)) 8 (λ z. n (omega (arith, z))))
            (subst (λ z. Among v (carried (cond z (value t.bits ∷ values t.bytes) (values t.bytes)))) (ne_eqb (length t.bits) 8 (λ z. omega (arith, z))) r.carries);
      }
  more_bits w pulled answer byte o s k v p r n false e =
      let t = r.t in
      let le = ltb-false _ 8 e in
      let few = r.few in
      let eight : length t.bits ≡ 8 = omega arith in
      let sends : sending t.bytes ≡ true = and_from _ _ r.acked (ap not r.writing) in
      let pull : pulled ≡ true = p ∙ rw (r.is, e, sends) (r.answered eight) in
      let x : Byte = record { value = value t.bits; low = not w; pulled = pulled } in
      let carries = subst (λ z. Among v (carried (cond z (value t.bits ∷ values t.bytes) (values t.bytes)))) (eq-eqb (length t.bits) 8 eight) r.carries in
      let same = longer t.bytes x (value t.bits) v carries in
      record {
        t = transfer (x ∷ t.bytes) [];
        is = rw (r.is, e) refl;
        few = omega arith;
        acked = and_from _ _ r.acked (ap (λ z. acked_by z x) r.writing ∙ pull);
        writing = ap odd same ∙ r.writing;
        mine = ap (λ a. ops.owner s (a / 2)) same ∙ r.mine;
        answered = λ z. absurd (omega (arith, z));
        carries = carries;
      }
    where
      longer : (bs : List Byte) (x : Byte) (y v : ℕ) → Among v (carried (y ∷ values bs)) → address (x ∷ bs) ≡ address bs
      longer [] x y v h = absurd h
      longer (z ∷ bs) x y v h = refl

  abbrev Facts : Transfer → S → ℕ → ℕ → Type 0
  Facts t s k v = Among v (carried (so_far t)) × (all_acked t.bytes ≡ true) × (reading t.bytes ≡ false) × (ops.owner s (address t.bytes / 2) ≡ Some k)

  pub facts : (answer : Bool) (t : Transfer) (s : S) (k v : ℕ) → Bears answer (Some t) s k v → Facts t s k v
  facts answer t s k v r = subst (λ u. Facts u s k v) (sym (same_Some t r.t r.is)) (r.carries, r.acked, r.writing, r.mine)

  abbrev offered_byte : Levels → Bool → List Byte → List Bool → Move
  offered_byte l w bs bits = offered l bs (value (w ∷ bits))

  seven : (bs : List Byte) (bits : List Bool) → length bits ≡ 7 → so_far (transfer bs bits) ≡ values bs
  seven bs bits e = rw (ne_eqb (length bits) 8 (λ z. omega (arith, z))) refl

  -- the eighth rise of a later byte
  taken_by : (ack : Bool) (answer : Bool) (s : S) (l : Levels) (w : Bool) (y z : Byte) (bs : List Byte) (bits : List Bool) (a x : ℕ) → ops.takes s a l x ≡ ack
      → a ≡ address (y ∷ (z ∷ bs)) → x ≡ value (w ∷ bits) → length bits ≡ 7 → sending (y ∷ (z ∷ bs)) ≡ true
      → Held answer (Some (transfer (y ∷ (z ∷ bs)) bits)) s → Held (ops.takes s a l x) (Some (transfer (y ∷ (z ∷ bs)) (w ∷ bits))) (ops.take s a l x)
  taken_by true answer s l w y z bs bits a x e at is seven_bits sends h k i v st =
      let bytes = y ∷ (z ∷ bs) in
      let t = keeps.taking s a l x in
      let c = and_parts (all_acked bytes) _ sends in
      let own = t.fixed.owner (address bytes / 2) in
      let eight : eqb (suc (length bits)) 8 ≡ true = eq-eqb _ _ (omega arith) in
      let now : (x ≡ v) ⊎ Facts (transfer bytes bits) s k v → (ops.owner s (address bytes / 2) ≡ Some k) → Bears (ops.takes s a l x) (Some (transfer bytes (w ∷ bits))) (ops.take s a l x) k v =
      λ g m. record {
        t = transfer bytes (w ∷ bits);
        is = refl;
        few = omega arith;
        acked = c.0;
        writing = not-true _ c.1;
        mine = own ∙ m;
        answered = λ q. e;
        carries = rw eight (carry g);
      } in
      elim ((t.acked e).1 k i) [
        | inl same ↦ (let f = facts answer _ s k v (h k i v (sym same ∙ st)) in now (inr f) f.3)
        | inr (inl gone) ↦ absurd (let q : ◌≡◌ {A = ℕ} 0 1 = cc in omega arith)
        | inr (inr new) ↦ now (inl (let q : x ≡ v = cc in q)) (ap (λ n. ops.owner s (n / 2)) (sym at) ∙ new.1)
      ]
    where
      carry : (x ≡ v) ⊎ Facts (transfer (y ∷ (z ∷ bs)) bits) s k v → Among v (value (w ∷ bits) ∷ carried (values (y ∷ (z ∷ bs))))
      carry (inl q) = inl (sym q ∙ is)
      carry (inr f) = inr (subst (λ u. Among v (carried u)) (seven (y ∷ (z ∷ bs)) bits seven_bits) f.0)
  taken_by false answer s l w y z bs bits a x e at is seven_bits sends h k i v st =
      let t = (keeps.taking s a l x).unacked e in
      let f = facts answer _ s k v (h k i v (faded _ _ v (t.1 k i) st)) in
      let n = t.0 k i (ap (λ n. ops.owner s (n / 2)) at ∙ f.3) in
      absurd (let q : ◌≡◌ {A = ℕ} 0 1 = cc in omega arith)

  none_yet : (answer : Bool) (t : Transfer) (o : Option Transfer) (s u : S) (new : Bool) → carried (so_far t) ≡ [] → Fades ops s u → Held answer (Some t) s → Held new o u
  none_yet answer t o s u new c f h k i v e =
      let r = facts answer t s k v (h k i v (faded _ _ v (f k i) e)) in
      absurd (subst (Among v) c r.0)

  offered_held : (bs : List Byte) (bits : List Bool) (answer w : Bool) (l : Levels) (s : S) → length bits ≡ 7 → sending bs ≡ true → Held answer (Some (transfer bs bits)) s
      → Held (answer_after ops s (offered_byte l w bs bits ∷ []) answer) (Some (transfer bs (w ∷ bits))) (moved ops s (offered_byte l w bs bits))
  offered_held [] bits answer w l s e sends h = none_yet answer (transfer [] bits) _ s _ _ (ap carried (seven [] bits e)) (keeps.addresses s _).fades h
  offered_held (a ∷ []) bits answer w l s e sends h = none_yet answer (transfer (a ∷ []) bits) _ s _ _ (ap carried (seven (a ∷ []) bits e)) (keeps.aiming s _ l _).calm.fades h
  offered_held (y ∷ (z ∷ bs)) bits answer w l s e sends h = taken_by _ answer s l w y z bs bits (address (z ∷ bs)) (value (w ∷ bits)) refl refl refl e sends h

  rose_by : (q : Bool) (t : Transfer) (w pulled answer : Bool) (byte : ℕ) (l : Levels) (s : S) → pulled ≡ pulls_by false (Some t) answer byte
      → (eqb (length t.bits) 7 && sending t.bytes) ≡ q → Held answer (Some t) s →
      let ms = cond q (offered_byte l w t.bytes t.bits ∷ []) [] in Held (answer_after ops s ms answer) (rising w pulled (Some t)) (after ops s ms)
  rose_by true t w pulled answer byte l s p e h =
      let c = and_parts (eqb (length t.bits) 7) _ e in
      let long = eqb-true _ 7 c.0 in
      rw (lt-ltb (length t.bits) 8 (omega (arith, long))) (offered_held t.bytes t.bits answer w l s long c.1 h)
  rose_by false t w pulled answer byte l s p e h = λ k i v st. (
      let r = h k i v st in
      let f = facts answer t s k v r in
      more_bits w pulled answer byte (Some t) s k v p r (λ z. clash (sym e ∙ rw (eq-eqb (length t.bits) 7 (ap (λ u. length u.bits) (same_Some t r.t r.is) ∙ z), f.1, f.2) refl)) _ refl)

  held_rose : (o : Option Transfer) (w pulled answer : Bool) (byte : ℕ) (l : Levels) (s : S) → pulled ≡ pulls_by false o answer byte → Held answer o s
      → Held (answer_after ops s (told (rose w) l o) answer) (rising w pulled o) (after ops s (told (rose w) l o))
  held_rose None w pulled answer byte l s p h = λ k i v st. absurd (none-some _ (h k i v st).is)
  held_rose (Some t) w pulled answer byte l s p h = rose_by _ t w pulled answer byte l s p refl h

  -- every edge, of which the levels have reached the part
  held_fell : (q : Bool) (answer : Bool) (o : Option Transfer) (s : S) (a : ℕ) → Held answer o s → let ms = cond q (giving_byte a ∷ []) [] in Held (answer_after ops s ms answer) o (after ops s ms)
  held_fell true answer o s a h = onto answer o s _ (keeps.gives s a).calm.fixed (keeps.gives s a).calm.fades h
  held_fell false answer o s a h = h

  fell_to : (o : Option Transfer) (answer : Bool) (l : Levels) (s : S) → Held answer o s → Held (answer_after ops s (told fell l o) answer) o (after ops s (told fell l o))
  fell_to None answer l s h = h
  fell_to (Some t) answer l s h = held_fell (eqb (length t.bits) 0 && giving t.bytes) answer (Some t) s (address t.bytes) h

  -- nothing is known of what is staged while no transfer is open
  abbrev pub Open : Bool → Option Transfer → S → Type 0
  Open answer o s = (t : Transfer) → o ≡ Some t → Held answer o s

  pub onto_open : (answer : Bool) (o : Option Transfer) (s u : S) → Fixed ops s u → Fades ops s u → Open answer o s → Open answer o u
  onto_open answer o s u x f h t e = onto answer o s u x f (h t e)

  rose_open : (o : Option Transfer) (w : Bool) (answer : Bool) (byte : ℕ) (l : Levels) (s : S) → Open answer o s → let p = pulls_by false o answer byte in
      Open (answer_after ops s (told (rose w) l o) answer) (rising w p o) (after ops s (told (rose w) l o))
  rose_open None w answer byte l s h = λ t e. absurd (none-some _ e)
  rose_open (Some u) w answer byte l s h = λ t e. held_rose (Some u) w _ answer byte l s refl (h u refl)

  pub open_edge : (c e d w : Bool) (l : Levels) (answer : Bool) (byte : ℕ) (o : Option Transfer) (s : S) → Open answer o s →
      Open (answer_after ops s (told (edge c e d w) l o) answer) (next (edge c e d w) (pulls_by c o answer byte) o) (after ops s (told (edge c e d w) l o))
  open_edge true true true true l answer byte o s h = h
  open_edge true true true false l answer byte o s h = λ t e. unstaged answer _ _ (keeps.starts s).unstaged
  open_edge true true false true l answer byte o s h = λ t e. unstaged answer _ _ (keeps.stops s _ l).unstaged
  open_edge true true false false l answer byte o s h = h
  open_edge true false d w l answer byte o s h = λ t e. fell_to o answer l s (h t e)
  open_edge false true d w l answer byte o s h = rose_open o w answer byte l s h
  open_edge false false d w l answer byte o s h = h
