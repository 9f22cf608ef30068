-- In an acknowledged transfer so far, an X9520 on the board stands where the bytes of that transfer have brought it. Assumes nothing.
use Rattle.std.proofs.Common.{◌≡◌, ℕ, ◌/◌, ◌%◌, ◌<◌, ◌≤◌, Bool, true, false, cond, not, ◌&&◌, List, [], ◌∷◌, length, eqb, ltb, Some, None, Option, ◌≢◌, refl, sym, ap, ◌∙◌, subst, inl, inr, arith}
use borrow.Author.Tests.{clash}
use Rattle.std.proofs.lemmas.Bool.{and_parts, and_left, ltb-true, ltb-false, eqb-true, eqb-false, lt-ltb, eq-eqb, ne_eqb, not-true}
use Rattle.std.proofs.lemmas.Option.{none-some, same_Some}
use Rattle.part.specs.declared.levels.Levels.{Levels}
use Rattle.part.specs.Ops.{Ops}
use Rattle.part.specs.Keeps.{Keeps}
use Rattle.part.specs.Moves.{addressing, aiming, taking, levelling, giving as giving_byte, moved, after}
use Rattle.part.specs.Seats.{Seat, Routed, Aside}
use Rattle.part.proofs.Seated.{mine_or_not}
use Rattle.x9520.specs.declared.state.X9520.{X9520}
use Rattle.x9520.specs.declared.state.Mode.TheVariants.{Idle}
use Rattle.x9520.specs.Chip.{x9520}
use Rattle.x9520.specs.State.{known}
use Rattle.x9520.proofs.Place.{outside, where_is, place, address_place, read_address, aim_place, take_place, unacked_address, idle_aim, idle_take, start_mode, give_mode, level_mode}
use Rattle.board.specs.Samples.{odd}
use Rattle.board.specs.Wires.{rose, fell, edge, Byte, Transfer, transfer, value, next, rising, address, reading, all_acked, acked_by, sending, giving, values}
use Rattle.board.specs.Runs.{pulls_by, told, offered, pulls_in, answer_after}
use Rattle.board.proofs.Phases.{slot_low_sent}
use Rattle.board.proofs.Bearing.{so_far}
use Rattle.runs.proofs.Seated.{addr, addr_is, My}

-- every byte is acknowledged, one without its ninth rise by the part's answer
abbrev pub Alive : Bool → Transfer → Type 0
Alive answer t = (all_acked t.bytes ≡ true) × (length t.bits ≡ 8 → sending t.bytes ≡ true → answer ≡ true)

so_far_at : (n : Bool) (bs : List Byte) (bits : List Bool) → eqb (length bits) 8 ≡ n → so_far (transfer bs bits) ≡ cond n (value bits ∷ values bs) (values bs)
so_far_at n bs bits e = ap (λ z. cond z (value bits ∷ values bs) (values bs)) e

unowned : (b : Bool) → (cond {A = Option ℕ} b (Some 0) None ≡ Some 0 → ⊥) → b ≡ false
unowned true h = absurd (h refl)
unowned false h = refl

module _ {S : Type 0} (ops : Ops S) (keeps : Keeps ops) (number : S → ℕ) (see : S → X9520) (seat : Seat ops x9520 number see) where
  abbrev Mine : S → ℕ → Type 0
  Mine s n = My ops keeps number see seat s n

  -- the chip after the bytes xs
  pub record At (s : S) (a : ℕ) (xs : List ℕ) : Type 0 where
    pub writing : Mine s (a / 2) → odd a ≡ false → where_is (see s).mode ≡ place xs
    pub reading : Mine s (a / 2) → odd a ≡ true → where_is (see s).mode ≡ outside
    pub aside : (Mine s (a / 2) → ⊥) → (see s).mode ≡ Idle

  abbrev pub By : S → List ℕ → Type 0
  By s [] = (see s).mode ≡ Idle
  By s (x ∷ xs) = At s (addr (x ∷ xs)) (x ∷ xs)

  pub record Placed (answer : Bool) (t : Transfer) (s : S) : Type 0 where
    pub few : length t.bits ≤ 8
    pub by : Alive answer t → By s (so_far t)

  abbrev pub Open : Bool → Option Transfer → S → Type 0
  Open answer o s = (t : Transfer) → o ≡ Some t → Placed answer t s

  -- moves that keep its mode, its number and the owners
  pub record Keeping (s u : S) : Type 0 where
    pub mode : (see u).mode ≡ (see s).mode
    pub owner : (n : ℕ) → ops.owner u n ≡ ops.owner s n
    pub number_is : number u ≡ number s

  back : (s u : S) → Keeping s u → (n : ℕ) → Mine u n → Mine s n
  back s u k n h = sym (k.owner n) ∙ h ∙ ap Some k.number_is

  forth : (s u : S) → Keeping s u → (n : ℕ) → Mine s n → Mine u n
  forth s u k n h = k.owner n ∙ h ∙ ap Some (sym k.number_is)

  at_kept : (s u : S) (a : ℕ) (xs : List ℕ) → Keeping s u → At s a xs → At u a xs
  at_kept s u a xs k r = record {
    writing = λ m e. ap where_is k.mode ∙ r.writing (back s u k _ m) e;
    reading = λ m e. ap where_is k.mode ∙ r.reading (back s u k _ m) e;
    aside = λ n. k.mode ∙ r.aside (λ m. n (forth s u k _ m));
  }

  by_kept : (s u : S) (xs : List ℕ) → Keeping s u → By s xs → By u xs
  by_kept s u [] k h = k.mode ∙ h
  by_kept s u (x ∷ xs) k h = at_kept s u _ _ k h

  pub open_kept : (answer : Bool) (o : Option Transfer) (s u : S) → Keeping s u → Open answer o s → Open answer o u
  open_kept answer o s u k h t e = let p = h t e in record { few = p.few; by = λ a. by_kept s u (so_far t) k (p.by a) }

  pub level_keeping : (s : S) (l : Levels) → Keeping s (ops.level s l)
  level_keeping s l = record { mode = ap (λ c. c.mode) (seat.level s l) ∙ level_mode (see s) l; owner = (keeps.levels s l).calm.fixed.owner; number_is = seat.fixed s (levelling l) }

  give_mode_is : (s : S) (a : ℕ) → (see (ops.give s a)).mode ≡ (see s).mode
  give_mode_is s a = elim (mine_or_not ops x9520 number see s (a / 2)) [
    | inl e ↦ elim (seat.give s a e) [ inl r ↦ ap (λ c. c.mode) r.1 ∙ give_mode (see s) a | inr r ↦ ap (λ c. c.mode) r ]
    | inr n ↦ elim (seat.give_other s a n) [ inl r ↦ ap (λ c. c.mode) r | inr r ↦ ap (λ c. c.mode) r.0 ∙ give_mode (see s) a ]
  ]

  give_keeping : (s : S) (a : ℕ) → Keeping s (ops.give s a)
  give_keeping s a = record { mode = give_mode_is s a; owner = (keeps.gives s a).calm.fixed.owner; number_is = seat.fixed s (giving_byte a) }

  -- A byte that the part is handed under the address byte a, and acknowledges: the chip is at its place where it keeps place with the bytes
  -- under an address that its number owns, and idles under any other.
  handed : (s t : S) (c : X9520) (a : ℕ) (xs : List ℕ) (got own : Bool) → ops.owner t (a / 2) ≡ ops.owner s (a / 2) → number t ≡ number s → got ≡ true
      → (Mine s (a / 2) → Routed got own (see t) c (see s) (x9520.start (see s)))
      → ((Mine s (a / 2) → ⊥) → Aside ops x9520 number see s (a / 2) (see t) c)
      → (own ≡ true → Mine s (a / 2) → odd a ≡ false → where_is c.mode ≡ place xs) → (odd a ≡ true → where_is c.mode ≡ outside)
      → ((Mine s (a / 2) → ⊥) → ((see s).mode ≡ Idle) × (x9520.owner (see s) (a / 2) ≢ Some 0 → c.mode ≡ Idle)) → At t a xs
  handed s t c a xs got own owner num ack mine other writes reads idles =
      elim (mine_or_not ops x9520 number see s (a / 2)) [
        | inl m ↦ elim (mine m) [
          | inl q ↦ record {
            writing = λ w e. ap (λ z. where_is z.mode) q.1 ∙ writes (sym q.0 ∙ ack) m e;
            reading = λ w e. ap (λ z. where_is z.mode) q.1 ∙ reads e;
            aside = λ n. absurd (n (owner ∙ m ∙ ap Some (sym num)));
          }
          | inr q ↦ absurd (clash (sym q.0 ∙ ack))
        ]
        | inr n ↦ (
            let still : (see t).mode ≡ Idle = elim (other n) [
              | inl q ↦ ap (λ z. z.mode) q ∙ (idles n).0
              | inr q ↦ ap (λ z. z.mode) q.0 ∙ (idles n).1 q.1
            ] in
            let not_mine : Mine t (a / 2) → ⊥ = λ w. n (sym owner ∙ w ∙ ap Some num) in
            record { writing = λ w e. absurd (not_mine w); reading = λ w e. absurd (not_mine w); aside = λ w. still })
      ]

  -- a whole byte, offered and acknowledged
  address_by : (s : S) (x : ℕ) → (see s).mode ≡ Idle → ops.hears s x ≡ true → By (ops.address s x) (x ∷ [])
  address_by s x idle ack =
      handed s (ops.address s x) (x9520.address (see s) x) x (x ∷ []) _ _ ((keeps.addresses s x).fixed.owner (x / 2)) (seat.fixed s (addressing x)) ack
      (seat.address s x) (seat.address_other s x) (λ own m e. address_place (see s) x own) (λ e. read_address (see s) x (eqb-true (x % 2) 1 e))
      (λ n. (idle, λ q. unacked_address (see s) x (and_left (known (x / 2)) _ (unowned (known (x / 2)) q))))

  -- a byte after others
  aim_by : (s : S) (a : ℕ) (l : Levels) (x b : ℕ) (bs : List ℕ) → odd a ≡ false → ops.aims s a l x ≡ true → At s a (b ∷ bs) → At (ops.aim s a l x) a (x ∷ (b ∷ bs))
  aim_by s a l x b bs even ack r =
      handed s (ops.aim s a l x) (x9520.aim (see s) a l x) a (x ∷ (b ∷ bs)) _ _ ((keeps.aiming s a l x).calm.fixed.owner (a / 2)) (seat.fixed s (aiming a l x)) ack
      (seat.aim s a l x) (seat.aim_other s a l x) (λ own m e. aim_place (see s) a l x b bs (r.writing m e) own) (λ z. absurd (clash (sym even ∙ z)))
      (λ n. (r.aside n, λ q. idle_aim (see s) (r.aside n) a l x))

  take_by : (s : S) (a : ℕ) (l : Levels) (x b : ℕ) (bs : List ℕ) → odd a ≡ false → ops.takes s a l x ≡ true → At s a (b ∷ bs) → At (ops.take s a l x) a (x ∷ (b ∷ bs))
  take_by s a l x b bs even ack r =
      handed s (ops.take s a l x) (x9520.take (see s) a l x) a (x ∷ (b ∷ bs)) _ _ ((keeps.taking s a l x).fixed.owner (a / 2)) (seat.fixed s (taking a l x)) ack
      (seat.take s a l x) (seat.take_other s a l x) (λ own m e. take_place (see s) a l x b bs (r.writing m e) own) (λ z. absurd (clash (sym even ∙ z)))
      (λ n. (r.aside n, λ q. idle_take (see s) (r.aside n) a l x))

  pub offered_by : (l : Levels) (bs : List Byte) (x : ℕ) (s : S) (was : Bool) → sending bs ≡ true → By s (values bs) → answer_after ops s (offered l bs x ∷ []) was ≡ true
      → By (moved ops s (offered l bs x)) (x ∷ values bs)
  offered_by l [] x s was sends h ack = address_by s x h ack
  offered_by l (y ∷ []) x s was sends h ack = aim_by s y.value l x y.value [] (not-true _ (and_parts _ _ sends).1) ack h
  offered_by l (y ∷ (z ∷ bs)) x s was sends h ack =
      let same = addr_is (z ∷ bs) in
      let a = address (z ∷ bs) in
      let r : At s a (y.value ∷ (z.value ∷ values bs)) = subst (λ n. At s n (y.value ∷ (z.value ∷ values bs))) same h in
      subst (λ n. At (ops.take s a l x) n (x ∷ (y.value ∷ (z.value ∷ values bs)))) (sym same) (take_by s a l x y.value (z.value ∷ values bs) (not-true _ (and_parts _ _ sends).1) ack r)

  -- a rise, with whether it is the eighth of a byte sent
  longer_by : (s : S) (x : ℕ) (bs : List Byte) → reading bs ≡ true → By s (values bs) → By s (x ∷ values bs)
  longer_by s x [] r h = absurd (clash r)
  longer_by s x (y ∷ bs) r h =
      let a = addr (values (y ∷ bs)) in
      let odd_a : odd a ≡ true = ap odd (addr_is (y ∷ bs)) ∙ r in
      record { writing = λ m e. absurd (clash (sym e ∙ odd_a)); reading = h.reading; aside = h.aside }

  eighth : (bs : List Byte) (bits : List Bool) (w : Bool) (l : Levels) (answer : Bool) (s : S) → length bits ≡ 7 → sending bs ≡ true → Placed answer (transfer bs bits) s
      → Placed (answer_after ops s (offered l bs (value (w ∷ bits)) ∷ []) answer) (transfer bs (w ∷ bits)) (moved ops s (offered l bs (value (w ∷ bits))))
  eighth bs bits w l answer s e sends p = record {
    few = omega (arith, e);
    by = λ a. (
        let before : By s (values bs) = subst (By s) (so_far_at false bs bits (ne_eqb _ _ (λ z. omega (arith, e, z)))) (p.by (a.0, λ z y. absurd (omega (arith, e, z)))) in
        let after_it = offered_by l bs (value (w ∷ bits)) s answer sends before (a.1 (omega (arith, e)) sends) in
        subst (By (moved ops s (offered l bs (value (w ∷ bits))))) (sym (so_far_at true bs (w ∷ bits) (eq-eqb _ _ (omega (arith, e))))) after_it);
  }

  more_by : (q : Bool) (bs : List Byte) (bits : List Bool) (w : Bool) (answer : Bool) (s : S) → eqb (length bits) 7 ≡ q → length bits < 8
      → (eqb (length bits) 7 && sending bs) ≡ false → Placed answer (transfer bs bits) s → Placed answer (transfer bs (w ∷ bits)) s
  more_by true bs bits w answer s e lt f p =
      let long = eqb-true _ 7 e in
      record {
        few = omega arith;
        by = λ a. (
            let before : By s (values bs) = subst (By s) (so_far_at false bs bits (ne_eqb _ _ (λ z. omega (arith, long, z)))) (p.by (a.0, λ z y. absurd (omega (arith, long, z)))) in
            let reads : reading bs ≡ true = not_not (reading bs) (sym (ap (λ b. b && not (reading bs)) a.0) ∙ sym (ap (λ b. b && sending bs) e) ∙ f) in
            subst (By s) (sym (so_far_at true bs (w ∷ bits) (eq-eqb _ _ (omega (arith, long))))) (longer_by s (value (w ∷ bits)) bs reads before));
      }
    where
      not_not : (b : Bool) → not b ≡ false → b ≡ true
      not_not true h = refl
      not_not false h = sym h
  more_by false bs bits w answer s e lt f p =
      let short = eqb-false _ 7 e in
      record {
        few = omega arith;
        by = λ a. (
            let before : By s (values bs) = subst (By s) (so_far_at false bs bits (ne_eqb _ _ (λ z. omega (arith, z)))) (p.by (a.0, λ z y. absurd (omega (arith, z)))) in
            subst (By s) (sym (so_far_at false bs (w ∷ bits) (ne_eqb _ _ (λ z. short (omega (arith, z)))))) before);
      }

  ninth_by : (bs : List Byte) (bits : List Bool) (w pulled answer : Bool) (byte : ℕ) (s : S) → 8 ≤ length bits
      → pulled ≡ pulls_by false (Some (transfer bs bits)) answer byte → Placed answer (transfer bs bits) s
      → Placed answer (transfer (record { value = value bits; low = not w; pulled = pulled } ∷ bs) []) s
  ninth_by bs bits w pulled answer byte s le is p =
      let few = p.few in
      let long : length bits ≡ 8 = omega arith in
      let x : Byte = record { value = value bits; low = not w; pulled = pulled } in
      record {
        few = omega arith;
        by = λ a. (
            let c = and_parts (all_acked bs) _ a.0 in
            let answered : sending bs ≡ true → answer ≡ true = λ sends. sym (is ∙ ap (λ z. pulls_in z answer byte) (slot_low_sent (transfer bs bits) long sends))
            ∙ ap (λ r. acked_by r x) (sym (not-true _ (and_parts (all_acked bs) _ sends).1)) ∙ c.1 in
            subst (By s) (so_far_at true bs bits (eq-eqb _ _ long)) (p.by (c.0, λ z sends. answered sends)));
      }

  opened_as : (answer : Bool) (o : Option Transfer) (u : Transfer) (s : S) → o ≡ Some u → Placed answer u s → Open answer o s
  opened_as answer o u s e p t z = subst (λ v. Placed answer v s) (same_Some u t (sym e ∙ z)) p

  rose_by : (q r : Bool) (bs : List Byte) (bits : List Bool) (w pulled answer : Bool) (byte : ℕ) (l : Levels) (s : S) → (eqb (length bits) 7 && sending bs) ≡ q
      → ltb (length bits) 8 ≡ r → pulled ≡ pulls_by false (Some (transfer bs bits)) answer byte → Placed answer (transfer bs bits) s →
      let ms = cond q (offered l bs (value (w ∷ bits)) ∷ []) [] in Open (answer_after ops s ms answer) (rising w pulled (Some (transfer bs bits))) (after ops s ms)
  rose_by true r bs bits w pulled answer byte l s e f is p =
      let c = and_parts (eqb (length bits) 7) _ e in
      let long = eqb-true _ 7 c.0 in
      opened_as (answer_after ops s (offered l bs (value (w ∷ bits)) ∷ []) answer) _ (transfer bs (w ∷ bits)) (moved ops s (offered l bs (value (w ∷ bits))))
      (rw (lt-ltb (length bits) 8 (omega (arith, long))) refl) (eighth bs bits w l answer s long c.1 p)
  rose_by false true bs bits w pulled answer byte l s e f is p =
      opened_as answer _ (transfer bs (w ∷ bits)) s (rw f refl) (more_by _ bs bits w answer s refl (ltb-true _ 8 f) e p)
  rose_by false false bs bits w pulled answer byte l s e f is p =
      opened_as answer _ (transfer (record { value = value bits; low = not w; pulled = pulled } ∷ bs) []) s (rw f refl) (ninth_by bs bits w pulled answer byte s (ltb-false _ 8 f) is p)

  rose_open : (o : Option Transfer) (w : Bool) (answer : Bool) (byte : ℕ) (l : Levels) (s : S) → Open answer o s
      → Open (answer_after ops s (told (rose w) l o) answer) (rising w (pulls_by false o answer byte) o) (after ops s (told (rose w) l o))
  rose_open None w answer byte l s h = λ t e. absurd (none-some _ e)
  rose_open (Some t) w answer byte l s h = rose_by _ _ t.bytes t.bits w _ answer byte l s refl refl refl (h t refl)

  fell_by : (q : Bool) (answer : Bool) (o : Option Transfer) (s : S) (a : ℕ) → Open answer o s → let ms = cond q (giving_byte a ∷ []) [] in Open (answer_after ops s ms answer) o (after ops s ms)
  fell_by true answer o s a h = open_kept answer o s _ (give_keeping s a) h
  fell_by false answer o s a h = h

  fell_open : (o : Option Transfer) (answer : Bool) (l : Levels) (s : S) → Open answer o s → Open (answer_after ops s (told fell l o) answer) o (after ops s (told fell l o))
  fell_open None answer l s h = h
  fell_open (Some t) answer l s h = fell_by (eqb (length t.bits) 0 && giving t.bytes) answer (Some t) s (address t.bytes) h

  begun : (answer : Bool) (s : S) → Open answer (Some (transfer [] [])) (ops.start s)
  begun answer s = opened_as answer _ (transfer [] []) (ops.start s) refl (record { few = omega arith; by = λ a. ap (λ c. c.mode) (seat.start s) ∙ start_mode (see s) })

  -- every edge, of which the levels have reached the part
  pub open_edge : (c e d w : Bool) (l : Levels) (answer : Bool) (byte : ℕ) (o : Option Transfer) (s : S) → Open answer o s →
      Open (answer_after ops s (told (edge c e d w) l o) answer) (next (edge c e d w) (pulls_by c o answer byte) o) (after ops s (told (edge c e d w) l o))
  open_edge true true true true l answer byte o s h = h
  open_edge true true true false l answer byte o s h = begun answer s
  open_edge true true false true l answer byte o s h = λ t e. absurd (none-some _ e)
  open_edge true true false false l answer byte o s h = h
  open_edge true false d w l answer byte o s h = fell_open o answer l s h
  open_edge false true d w l answer byte o s h = rose_open o w answer byte l s h
  open_edge false false d w l answer byte o s h = h
