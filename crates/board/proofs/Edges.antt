-- At each edge of the wires the phase stays tied to the open transfer, and the part goes through the moves that it is told of. Assumes nothing.
use Rattle.std.proofs.Common.{◌≡◌, ℕ, zero, suc, ◌+◌, ◌*◌, ◌/◌, ◌%◌, ◌^◌, ◌<◌, ◌≤◌, Bool, true, false, cond, not, ◌&&◌, List, [], ◌∷◌, length, eqb, ltb, leb, Some, Option, refl, sym, ap, ◌∙◌, inl, inr, arith}
use borrow.Author.Tests.{clash}
use Rattle.std.proofs.lemmas.Bool.{and_parts, and_from, and_left, and_right, ltb-true, ltb-false, eqb-true, eqb-false, lt-ltb, le-ltb, ne_eqb, le-leb, lt-leb, not-true}
use native.Mathlib.Nat.{pow-suc}
use lib.Pow.{pow_mono}
use Rattle.part.specs.declared.levels.Levels.{Levels}
use Rattle.part.specs.Ops.{Ops}
use Rattle.part.specs.Moves.{Move, addressing, aiming, taking, giving as giving_byte, after}
use Rattle.board.specs.declared.board.Board.{Board}
use Rattle.board.specs.declared.bus.Kind.{Kind}
use Rattle.board.specs.declared.bus.Kind.TheVariants.{Address, First, Later}
use Rattle.board.specs.declared.bus.Next.{Next}
use Rattle.board.specs.declared.bus.Next.TheVariants.{ThenFirst, ThenLater, ThenGiven}
use Rattle.board.specs.declared.bus.Phase.{Phase}
use Rattle.board.specs.declared.bus.Phase.TheVariants.{Closed, Deaf, Taking, AckDue, AckPulled, AckRisen, Giving, Released, Wanted}
use Rattle.board.specs.Engine.{with, no_bits, addressed, aimed, taken, whole, bit_taken, rise_at, fetch, go_on, shift, fall_at}
use Rattle.board.specs.Samples.{bit_value, odd}
use Rattle.board.specs.Wires.{rose, fell, Byte, Transfer, transfer, value, rising, address, reading, all_acked, acked_by, sending, giving, some_byte}
use Rattle.board.specs.Runs.{free, ack, slot, pulls_in, pulls_by, offered, told, answer_after, byte_after}
use Rattle.board.proofs.Phases.{Fits, Dead, Deafened, Coming, Due, Risen, Shifts, Gives, Ninth, Tied, not_giving, not_sending, given_some, pull_of}

-- a number of seven bits or fewer
bit_le : (b : Bool) → bit_value b ≤ 1
bit_le true = omega arith
bit_le false = omega arith

pub value_lt : (w : List Bool) → value w < 2 ^ length w
value_lt [] = omega arith
value_lt (b ∷ w) = let h = value_lt w in let n = bit_le b in rw (pow-suc 2 (length w)) (omega arith)

pub value_small : (w : List Bool) → length w ≤ 7 → value w < 128
value_small w h = let p : 2 ^ length w ≤ 2 ^ 7 = pow_mono h in omega (arith, value_lt w)

-- the bits of a byte given come one after another
decide : (b : Bool) (m k : ℕ) → eqb m 1 ≡ b → (m ≡ 1 → 128 ≤ k) → ((m ≡ 1 → ⊥) → k < 128) → leb 128 k ≡ b
decide true m k e f g = le-leb 128 k (f (eqb-true m 1 e))
decide false m k e f g = lt-leb 128 k (g (eqb-false m 1 e))

next_shift : (n byte left : ℕ) (out : Bool) → n ≤ 6 → Shifts byte n left out → Shifts byte (suc n) (left % 128 * 2) (leb 128 left)
next_shift zero byte left out h s =
    let r : left ≡ byte % 128 * 2 = s.rest_is in
    record { out_is = decide _ (byte / 64 % 2) left refl (λ e. omega arith) (λ e. omega arith); rest_is = (let z : left % 128 * 2 ≡ byte % 64 * 4 = omega arith in z) }
next_shift (suc zero) byte left out h s =
    let r : left ≡ byte % 64 * 4 = s.rest_is in
    record { out_is = decide _ (byte / 32 % 2) left refl (λ e. omega arith) (λ e. omega arith); rest_is = (let z : left % 128 * 2 ≡ byte % 32 * 8 = omega arith in z) }
next_shift (suc (suc zero)) byte left out h s =
    let r : left ≡ byte % 32 * 8 = s.rest_is in
    record { out_is = decide _ (byte / 16 % 2) left refl (λ e. omega arith) (λ e. omega arith); rest_is = (let z : left % 128 * 2 ≡ byte % 16 * 16 = omega arith in z) }
next_shift (suc (suc (suc zero))) byte left out h s =
    let r : left ≡ byte % 16 * 16 = s.rest_is in
    record { out_is = decide _ (byte / 8 % 2) left refl (λ e. omega arith) (λ e. omega arith); rest_is = (let z : left % 128 * 2 ≡ byte % 8 * 32 = omega arith in z) }
next_shift (suc (suc (suc (suc zero)))) byte left out h s =
    let r : left ≡ byte % 8 * 32 = s.rest_is in
    record { out_is = decide _ (byte / 4 % 2) left refl (λ e. omega arith) (λ e. omega arith); rest_is = (let z : left % 128 * 2 ≡ byte % 4 * 64 = omega arith in z) }
next_shift (suc (suc (suc (suc (suc zero))))) byte left out h s =
    let r : left ≡ byte % 4 * 64 = s.rest_is in
    record { out_is = decide _ (byte / 2 % 2) left refl (λ e. omega arith) (λ e. omega arith); rest_is = (let z : left % 128 * 2 ≡ byte % 2 * 128 = omega arith in z) }
next_shift (suc (suc (suc (suc (suc (suc zero)))))) byte left out h s =
    let r : left ≡ byte % 2 * 128 = s.rest_is in
    record { out_is = decide _ (byte / 1 % 2) left refl (λ e. omega arith) (λ e. omega arith); rest_is = (let z : left % 128 * 2 ≡ byte % 1 * 256 = omega arith in z) }
next_shift (suc (suc (suc (suc (suc (suc (suc n))))))) byte left out h s = absurd (omega arith)

-- with a byte that is not acknowledged nothing is pulled at a fall
dead_low : (t : Transfer) → all_acked t.bytes ≡ false → slot false t ≡ free
dead_low t h = rw (and_left (all_acked t.bytes) (reading t.bytes) h, and_left (all_acked t.bytes) (not (reading t.bytes)) h) (same (ltb (length t.bits) 8))
  where
    same : (b : Bool) → cond b free free ≡ free
    same true = refl
    same false = refl

unpulled_low : (t : Transfer) → length t.bits ≤ 7 → giving t.bytes ≡ false → slot false t ≡ free
unpulled_low t h g = rw (lt-ltb (length t.bits) 8 (omega arith), g) refl

unpulled_high : (bs : List Byte) (b : Bool) (w : List Bool) → giving bs ≡ false → slot true (transfer bs (b ∷ w)) ≡ free
unpulled_high bs b w g = rw (ne_eqb (suc (length w)) 0 (λ z. omega (arith, z)), g) refl

-- the next byte after an acknowledged one
acked_sent : (x : Byte) (bs : List Byte) → sending bs ≡ true → x.pulled ≡ true → all_acked (x ∷ bs) ≡ true
acked_sent x bs h p =
    let s = and_parts (all_acked bs) _ h in
    and_from _ _ s.0 (ap (λ r. acked_by r x) (not-true (reading bs) s.1) ∙ p)

later_fits : (a : ℕ) (x : Byte) (bs : List Byte) → some_byte bs ≡ true → address bs ≡ a → Fits (Later a) (x ∷ bs)
later_fits a x [] h e = absurd (clash h)
later_fits a x (y ∷ ys) h e = (x, (y, (ys, refl, e)))

later_address : (x : Byte) (bs : List Byte) → some_byte bs ≡ true → address (x ∷ bs) ≡ address bs
later_address x [] h = absurd (clash h)
later_address x (y ∷ ys) h = refl

module _ {S : Type 0} (ops : Ops S) where
  -- the board c, after the part s was told the moves ms
  pub record Went (c : Board S) (scl : Bool) (s : S) (ms : List Move) (answer : Bool) (byte : ℕ) (o : Option Transfer) : Type 0 where
    pub tied : Tied c.bus.phase scl (answer_after ops s ms answer) (byte_after ops s ms byte) o
    pub part : c.part ≡ after ops s ms

  pub silent : (c : Board S) (scl : Bool) (s : S) (ms : List Move) (answer : Bool) (byte : ℕ) (o : Option Transfer) → ms ≡ [] → c.part ≡ s
      → Tied c.bus.phase scl answer byte o → Went c scl s ms answer byte o
  silent c scl s ms answer byte o e p t = rw e (record { tied = t; part = p })

  -- falls
  no_give : (l : Levels) (o : Option Transfer) (t : Transfer) → o ≡ Some t → (length t.bits ≡ 0 → giving t.bytes ≡ false) → told fell l o ≡ []
  no_give l o t is h = rw is (by (eqb (length t.bits) 0) refl)
    where
      by : (b : Bool) → eqb (length t.bits) 0 ≡ b → cond (b && giving t.bytes) (giving_byte (address t.bytes) ∷ []) [] ≡ []
      by true e = rw (h (eqb-true _ 0 e)) refl
      by false e = refl

  fetched : (b : Board S) (l : Levels) (answer : Bool) (byte : ℕ) (o : Option Transfer) (bs : List Byte) (a : ℕ) → o ≡ Some (transfer bs []) → giving bs ≡ true
      → address bs ≡ a → Went (fetch ops b a) false b.part (told fell l o) answer byte o
  fetched b l answer byte o bs a is g e =
      let say : told fell l o ≡ giving_byte a ∷ [] = rw (is, g, e) refl in
      rw say (record {
        tied = record {
          t = transfer bs [];
          is = is;
          given = g;
          from = e;
          n = 0;
          few = omega arith;
          at = refl;
          long = refl;
          shifts = record { out_is = refl; rest_is = refl };
        };
        part = refl;
      })

  kept_first : (b : Board S) (l : Levels) (answer : Bool) (byte a : ℕ) (o : Option Transfer) → (r : Risen (ThenFirst a) answer o)
      → Went (with b (no_bits (First a)) b.part) false b.part (told fell l o) answer byte o
  kept_first b l answer byte a o r =
      let f = r.follows in
      let bytes = r.x ∷ r.bs in
      let alone : bytes ≡ r.x ∷ [] = ap (λ z. r.x ∷ z) f.0 in
      let even : reading bytes ≡ false = ap reading alone ∙ ap odd f.1 ∙ f.2 in
      let sends : sending bytes ≡ true = and_from _ _ (acked_sent r.x r.bs r.sends r.pulled) (ap not even) in
      let quiet = not_giving bytes sends in
      silent _ false b.part _ answer byte o (no_give l o _ r.is (λ z. quiet)) refl
      (record {
        t = transfer bytes [];
        is = r.is;
        long = refl;
        few = omega arith;
        reads = refl;
        sends = sends;
        fits = (r.x, alone, f.1);
        unpulled = unpulled_low (transfer bytes []) (omega arith) quiet;
      })

  kept_later : (b : Board S) (l : Levels) (answer : Bool) (byte a : ℕ) (o : Option Transfer) → (r : Risen (ThenLater a) answer o)
      → Went (with b (no_bits (Later a)) b.part) false b.part (told fell l o) answer byte o
  kept_later b l answer byte a o r =
      let f = r.follows in
      let bytes = r.x ∷ r.bs in
      let even : reading bytes ≡ false = ap odd (later_address r.x r.bs f.0) ∙ not-true _ (and_parts (all_acked r.bs) _ r.sends).1 in
      let sends : sending bytes ≡ true = and_from _ _ (acked_sent r.x r.bs r.sends r.pulled) (ap not even) in
      let quiet = not_giving bytes sends in
      silent _ false b.part _ answer byte o (no_give l o _ r.is (λ z. quiet)) refl
      (record {
        t = transfer bytes [];
        is = r.is;
        long = refl;
        few = omega arith;
        reads = refl;
        sends = sends;
        fits = later_fits a r.x r.bs f.0 f.1;
        unpulled = unpulled_low (transfer bytes []) (omega arith) quiet;
      })

  went_on : (n : Next) (b : Board S) (l : Levels) (answer : Bool) (byte : ℕ) (o : Option Transfer) → (r : Risen n answer o) → Went (go_on ops n b) false b.part (told fell l o) answer byte o
  went_on (ThenFirst a) b l answer byte o r = kept_first b l answer byte a o r
  went_on (ThenLater a) b l answer byte o r = kept_later b l answer byte a o r
  went_on (ThenGiven a) b l answer byte o r =
      let f = r.follows in
      let alone : r.x ∷ r.bs ≡ r.x ∷ [] = ap (λ z. r.x ∷ z) f.0 in
      fetched b l answer byte o (r.x ∷ r.bs) a r.is (and_from _ _ (acked_sent r.x r.bs r.sends r.pulled) (ap reading alone ∙ ap odd f.1 ∙ f.2)) (ap address alone ∙ f.1)

  shifted : (t : Bool) (b : Board S) (l : Levels) (answer : Bool) (byte a rises left : ℕ) (out : Bool) (o : Option Transfer) → ltb rises 8 ≡ t
      → Gives true byte a rises left out o → Went (shift ops t b a rises left) false b.part (told fell l o) answer byte o
  shifted true b l answer byte a rises left out o e g =
      let lt = ltb-true rises 8 e in
      let at : rises ≡ suc g.n = g.at in
      let silence = no_give l o g.t g.is (λ z. absurd (omega (arith, g.long, z))) in
      silent _ false b.part _ answer byte o silence refl
      (record {
        t = g.t;
        is = g.is;
        given = g.given;
        from = g.from;
        n = suc g.n;
        few = omega arith;
        at = g.at;
        long = g.long;
        shifts = next_shift g.n byte left out (omega arith) g.shifts;
      })
  shifted false b l answer byte a rises left out o e g =
      let le = ltb-false rises 8 e in
      let few = g.few in
      let at : rises ≡ suc g.n = g.at in
      let silence = no_give l o g.t g.is (λ z. absurd (omega (arith, g.long, z))) in
      silent _ false b.part _ answer byte o silence refl (refl, record { t = g.t; is = g.is; given = g.given; from = g.from; long = g.long ∙ (let z : rises ≡ 8 = omega arith in z) })

  dead_fall : (l : Levels) (answer : Bool) (byte : ℕ) (o : Option Transfer) (t : Transfer) → o ≡ Some t → Dead true answer byte t → (told fell l o ≡ []) × Dead false answer byte t
  dead_fall l answer byte o t is (inl d) = (no_give l o t is (λ z. and_left (all_acked t.bytes) _ d.0), inl (d.0, ap (λ z. pulls_in z answer byte) (dead_low t d.0)))
  dead_fall l answer byte o t is (inr d) = (no_give l o t is (λ z. absurd (omega (arith, d.0, z))), inr d)

  -- the phase stays, and nothing is told
  stays : (ph : Phase) (b : Board S) (scl : Bool) (ms : List Move) (answer : Bool) (byte : ℕ) (o : Option Transfer) → b.bus.phase ≡ ph → ms ≡ []
      → Tied ph scl answer byte o → Went b scl b.part ms answer byte o
  stays ph b scl ms answer byte o e n t = silent b scl b.part ms answer byte o n refl (rw e t)

  pub fall_went : (ph : Phase) (b : Board S) (l : Levels) (answer : Bool) (byte : ℕ) (o : Option Transfer) → b.bus.phase ≡ ph → Tied ph true answer byte o
      → Went (fall_at ops ph b) false b.part (told fell l o) answer byte o
  fall_went Closed b l answer byte o e h = stays Closed b false _ answer byte o e (rw h refl) h
  fall_went Deaf b l answer byte o e h =
      let d = dead_fall l answer byte o h.t h.is h.dead in
      stays Deaf b false _ answer byte o e d.0 (record { t = h.t; is = h.is; dead = d.1 })
  fall_went (Taking kind bits so_far) b l answer byte o e h =
      let quiet = not_giving h.t.bytes h.sends in
      stays (Taking kind bits so_far) b false _ answer byte o e (no_give l o h.t h.is (λ z. quiet))
      (record { t = h.t; is = h.is; long = h.long; few = h.few; reads = h.reads; sends = h.sends; fits = h.fits; unpulled = unpulled_low h.t (omega (arith, h.long, h.few)) quiet })
  fall_went (AckDue n) b l answer byte o e h = silent _ false b.part _ answer byte o (no_give l o h.1.t h.1.is (λ z. absurd (omega (arith, h.1.long, z)))) refl (refl, h.1)
  fall_went (AckPulled n) b l answer byte o e h = absurd (clash (sym h.0))
  fall_went (AckRisen n) b l answer byte o e h = went_on n b l answer byte o h.1
  fall_went (Giving a rises left out) b l answer byte o e h = shifted (ltb rises 8) b l answer byte a rises left out o refl h
  fall_went (Released a) b l answer byte o e h = absurd (clash (sym h.0))
  fall_went (Wanted a) b l answer byte o e h = fetched b l answer byte o (h.1.x ∷ h.1.bs) a h.1.is h.1.given h.1.from

  -- rises
  no_offer : (l : Levels) (w : Bool) (o : Option Transfer) (t : Transfer) → o ≡ Some t → (length t.bits ≡ 7 → sending t.bytes ≡ false) → told (rose w) l o ≡ []
  no_offer l w o t is h = rw is (by (eqb (length t.bits) 7) refl)
    where
      by : (b : Bool) → eqb (length t.bits) 7 ≡ b → cond (b && sending t.bytes) (offered l t.bytes (value (w ∷ t.bits)) ∷ []) [] ≡ []
      by true e = rw (h (eqb-true _ 7 e)) refl
      by false e = refl

  offers : (l : Levels) (w : Bool) (o : Option Transfer) (t : Transfer) (x : ℕ) → o ≡ Some t → length t.bits ≡ 7 → sending t.bytes ≡ true → x ≡ value (w ∷ t.bits)
      → told (rose w) l o ≡ offered l t.bytes x ∷ []
  offers l w o t x is e s v = rw (is, e, s, v) refl

  one_bit : (w pulled : Bool) (o : Option Transfer) (t : Transfer) → o ≡ Some t → length t.bits < 8 → rising w pulled o ≡ Some (transfer t.bytes (w ∷ t.bits))
  one_bit w pulled o t is h = rw (is, lt-ltb (length t.bits) 8 h) refl

  abbrev ninth_of : Bool → Bool → Transfer → Byte
  ninth_of w pulled t = record { value = value t.bits; low = not w; pulled = pulled }

  the_ninth : (w pulled : Bool) (o : Option Transfer) (t : Transfer) → o ≡ Some t → length t.bits ≡ 8 → rising w pulled o ≡ Some (transfer (ninth_of w pulled t ∷ t.bytes) [])
  the_ninth w pulled o t is h = rw (is, le-ltb (length t.bits) 8 (omega (arith, h))) refl

  -- a byte that is not acknowledged
  lost : (scl answer : Bool) (byte : ℕ) (o : Option Transfer) (x : Byte) (bs : List Byte) → o ≡ Some (transfer (x ∷ bs) []) → all_acked (x ∷ bs) ≡ false
      → (sending bs ≡ true → answer ≡ false) → Deafened true answer byte o
  lost scl answer byte o x bs is h q = record { t = transfer (x ∷ bs) []; is = is; dead = inl (h, by (sending bs) q) }
    where
      by : (b : Bool) → (b ≡ true → answer ≡ false) → pulls_in (cond b ack free) answer byte ≡ false
      by true f = f refl
      by false f = refl

  dead_high : (t : Transfer) (answer : Bool) (byte : ℕ) (w : Bool) → all_acked t.bytes ≡ false → Dead true answer byte (transfer t.bytes (w ∷ t.bits))
  dead_high t answer byte w h = inl (h, ap (λ z. pulls_in z answer byte) (unpulled_high t.bytes w t.bits (and_left (all_acked t.bytes) _ h)))

  dead_rise_by : (q : Bool) (w pulled answer : Bool) (byte : ℕ) (o : Option Transfer) (t : Transfer) → o ≡ Some t → ltb (length t.bits) 8 ≡ q → all_acked t.bytes ≡ false
      → Deafened true answer byte (rising w pulled o)
  dead_rise_by true w pulled answer byte o t is e h = record { t = transfer t.bytes (w ∷ t.bits); is = one_bit w pulled o t is (ltb-true _ 8 e); dead = dead_high t answer byte w h }
  dead_rise_by false w pulled answer byte o t is e h =
      let gone : rising w pulled o ≡ Some (transfer (ninth_of w pulled t ∷ t.bytes) []) = rw (is, e) refl in
      lost true answer byte _ (ninth_of w pulled t) t.bytes gone (and_left (all_acked t.bytes) _ h) (λ z. absurd (clash (sym (and_left (all_acked t.bytes) _ h) ∙ z)))

  sent_odd : (bs : List Byte) → sending bs ≡ true → reading bs ≡ false
  sent_odd bs h = not-true _ (and_parts (all_acked bs) _ h).1

  dead_rise : (w : Bool) (l : Levels) (answer : Bool) (byte : ℕ) (o : Option Transfer) (t : Transfer) → o ≡ Some t → Dead false answer byte t
      → (told (rose w) l o ≡ []) × Deafened true answer byte (rising w false o)
  dead_rise w l answer byte o t is (inl d) = (no_offer l w o t is (λ z. and_left (all_acked t.bytes) _ d.0), dead_rise_by (ltb (length t.bits) 8) w false answer byte o t is refl d.0)
  dead_rise w l answer byte o t is (inr d) =
      let x = ninth_of w false t in
      let unacked : all_acked (x ∷ t.bytes) ≡ false = and_right (all_acked t.bytes) _ (ap (λ r. acked_by r x) (sent_odd t.bytes d.1)) in
      (no_offer l w o t is (λ z. absurd (omega (arith, d.0, z))), lost true answer byte _ x t.bytes (the_ninth w false o t is d.0) unacked (λ z. d.2))

  -- a whole byte
  due_after : (is_odd : Bool) (answer : Bool) (o : Option Transfer) (t : Transfer) (x : ℕ) → o ≡ Some t → length t.bits ≡ 8 → sending t.bytes ≡ true → answer ≡ true
      → t.bytes ≡ [] → value t.bits ≡ x → odd x ≡ is_odd → Due (cond is_odd (ThenGiven x) (ThenFirst x)) answer o
  due_after true answer o t x is long sends ok none v e = record { t = t; is = is; long = long; sends = sends; answered = ok; follows = (none, v, e) }
  due_after false answer o t x is long sends ok none v e = record { t = t; is = is; long = long; sends = sends; answered = ok; follows = (none, v, e) }

  deaf_now : (answer : Bool) (byte : ℕ) (o : Option Transfer) (t : Transfer) → o ≡ Some t → length t.bits ≡ 8 → sending t.bytes ≡ true → answer ≡ false → Deafened true answer byte o
  deaf_now answer byte o t is long sends h = record { t = t; is = is; dead = inr (long, sends, h) }

  addressed_went : (r : Bool) (b : Board S) (l : Levels) (x : ℕ) (answer : Bool) (byte : ℕ) (o : Option Transfer) (t : Transfer) → ops.hears b.part x ≡ r → o ≡ Some t
      → length t.bits ≡ 8 → sending t.bytes ≡ true → t.bytes ≡ [] → value t.bits ≡ x → Went (addressed ops r b x) true b.part (addressing x ∷ []) answer byte o
  addressed_went true b l x answer byte o t h is long sends none v = record { tied = due_tied (odd x) refl; part = refl }
    where
      due_tied : (p : Bool) → odd x ≡ p → Tied (AckDue (cond p (ThenGiven x) (ThenFirst x))) true (ops.hears b.part x) byte o
      due_tied p e = (refl, due_after p _ o t x is long sends h none v e)
  addressed_went false b l x answer byte o t h is long sends none v = record { tied = deaf_now _ byte o t is long sends h; part = refl }

  aimed_went : (r : Bool) (b : Board S) (a : ℕ) (l : Levels) (x : ℕ) (answer : Bool) (byte : ℕ) (o : Option Transfer) (t : Transfer) → ops.aims b.part a l x ≡ r
      → o ≡ Some t → length t.bits ≡ 8 → sending t.bytes ≡ true → some_byte t.bytes ≡ true → address t.bytes ≡ a
      → Went (aimed ops r b a l x) true b.part (aiming a l x ∷ []) answer byte o
  aimed_went true b a l x answer byte o t h is long sends some e = record { tied = (refl, record { t = t; is = is; long = long; sends = sends; answered = h; follows = (some, e) }); part = refl }
  aimed_went false b a l x answer byte o t h is long sends some e = record { tied = deaf_now _ byte o t is long sends h; part = refl }

  taken_went : (r : Bool) (b : Board S) (a : ℕ) (l : Levels) (x : ℕ) (answer : Bool) (byte : ℕ) (o : Option Transfer) (t : Transfer) → ops.takes b.part a l x ≡ r
      → o ≡ Some t → length t.bits ≡ 8 → sending t.bytes ≡ true → some_byte t.bytes ≡ true → address t.bytes ≡ a
      → Went (taken ops r b a l x) true b.part (taking a l x ∷ []) answer byte o
  taken_went true b a l x answer byte o t h is long sends some e = record { tied = (refl, record { t = t; is = is; long = long; sends = sends; answered = h; follows = (some, e) }); part = refl }
  taken_went false b a l x answer byte o t h is long sends some e = record { tied = deaf_now _ byte o t is long sends h; part = refl }

  abbrev with_eighth : Bool → Transfer → Transfer
  with_eighth w t = transfer t.bytes (w ∷ t.bits)

  whole_went : (kind : Kind) (b : Board S) (w : Bool) (l : Levels) (x : ℕ) (answer : Bool) (byte : ℕ) (o p : Option Transfer) (t : Transfer) → o ≡ Some t
      → p ≡ Some (with_eighth w t) → length t.bits ≡ 7 → sending t.bytes ≡ true → Fits kind t.bytes → x ≡ value (w ∷ t.bits)
      → Went (whole ops kind b l x) true b.part (told (rose w) l o) answer byte p
  whole_went Address b w l x answer byte o p t is then long sends fits v =
      let say : told (rose w) l o ≡ addressing x ∷ [] = offers l w o t x is long sends v ∙ ap (λ bs. offered l bs x ∷ []) fits in
      rw say (addressed_went (ops.hears b.part x) b l x answer byte p (with_eighth w t) refl then (omega (arith, long)) sends fits (sym v))
  whole_went (First a) b w l x answer byte o p t is then long sends fits v =
      let say : told (rose w) l o ≡ aiming a l x ∷ [] = offers l w o t x is long sends v ∙ ap (λ bs. offered l bs x ∷ []) fits.1 ∙ ap (λ z. aiming z l x ∷ []) fits.2 in
      rw say (aimed_went (ops.aims b.part a l x) b a l x answer byte p (with_eighth w t) refl then (omega (arith, long)) sends (ap some_byte fits.1) (ap address fits.1 ∙ fits.2))
  whole_went (Later a) b w l x answer byte o p t is then long sends fits v =
      let say : told (rose w) l o ≡ taking a l x ∷ [] = offers l w o t x is long sends v ∙ ap (λ bs. offered l bs x ∷ []) fits.1.1.1
      ∙ ap (λ z. taking z l x ∷ []) (ap address (sym fits.1.1.1) ∙ fits.1.1.2) in
      rw say (taken_went (ops.takes b.part a l x) b a l x answer byte p (with_eighth w t) refl then (omega (arith, long)) sends (ap some_byte fits.1.1.1) fits.1.1.2)

  bit_went : (q : Bool) (kind : Kind) (b : Board S) (w : Bool) (l : Levels) (bits so_far : ℕ) (pulled answer : Bool) (byte : ℕ) (o : Option Transfer) → ltb bits 7 ≡ q
      → Coming false kind bits so_far o
      → Went (bit_taken ops q b kind bits l (so_far % 128 * 2 + bit_value w)) true b.part (told (rose w) l o) answer byte (rising w pulled o)
  bit_went true kind b w l bits so_far pulled answer byte o e c =
      let lt = ltb-true bits 7 e in
      let small = value_small c.t.bits (omega (arith, c.long, c.few)) in
      silent _ true b.part _ answer byte _ (no_offer l w o c.t c.is (λ z. absurd (omega (arith, c.long, z)))) refl
      (record {
        t = with_eighth w c.t;
        is = one_bit w pulled o c.t c.is (omega (arith, c.long));
        long = omega (arith, c.long);
        few = omega arith;
        reads = omega (arith, c.reads, small);
        sends = c.sends;
        fits = c.fits;
        unpulled = unpulled_high c.t.bytes w c.t.bits (not_giving c.t.bytes c.sends);
      })
  bit_went false kind b w l bits so_far pulled answer byte o e c =
      let le = ltb-false bits 7 e in
      let few = c.few in
      let long : length c.t.bits ≡ 7 = omega (arith, c.long) in
      let small = value_small c.t.bits (omega (arith, long)) in
      whole_went kind b w l _ answer byte o (rising w pulled o) c.t c.is (one_bit w pulled o c.t c.is (omega (arith, long))) long c.sends c.fits (omega (arith, c.reads, small))

  -- the ninth bit of a byte given
  asked : (w : Bool) (b : Board S) (l : Levels) (pulled answer : Bool) (byte a : ℕ) (o : Option Transfer) → Ninth a o
      → Went (with b (cond w Deaf (Wanted a)) b.part) true b.part (told (rose w) l o) answer byte (rising w pulled o)
  asked true b l pulled answer byte a o n =
      let x = ninth_of true pulled n.t in
      let g = and_parts (all_acked n.t.bytes) _ n.given in
      let unacked : all_acked (x ∷ n.t.bytes) ≡ false = and_right (all_acked n.t.bytes) _ (ap (λ r. acked_by r x) g.1) in
      silent _ true b.part _ answer byte _ (no_offer l true o n.t n.is (λ z. absurd (omega (arith, n.long, z)))) refl
      (lost true answer byte _ x n.t.bytes (the_ninth true pulled o n.t n.is n.long) unacked (λ z. absurd (clash (sym (not_sending n.t.bytes n.given) ∙ z))))
  asked false b l pulled answer byte a o n =
      let x = ninth_of false pulled n.t in
      let g = and_parts (all_acked n.t.bytes) _ n.given in
      let same = later_address x n.t.bytes (given_some n.t.bytes n.given) in
      let acked : all_acked (x ∷ n.t.bytes) ≡ true = and_from _ _ g.0 (ap (λ r. acked_by r x) g.1) in
      silent _ true b.part _ answer byte _ (no_offer l false o n.t n.is (λ z. absurd (omega (arith, n.long, z)))) refl
      (refl, record { x = x; bs = n.t.bytes; is = the_ninth false pulled o n.t n.is n.long; given = and_from _ _ acked (ap odd same ∙ g.1); before = n.given; from = same ∙ n.from })

  given_rise : (b : Board S) (w : Bool) (l : Levels) (pulled answer : Bool) (byte a rises left : ℕ) (out : Bool) (o : Option Transfer)
      → Gives false byte a rises left out o
      → Went (with b (Giving a (cond (ltb rises 8) (rises + 1) rises) left out) b.part) true b.part (told (rose w) l o) answer byte (rising w pulled o)
  given_rise b w l pulled answer byte a rises left out o g =
      let at : rises ≡ g.n = g.at in
      let few = g.few in
      let lt : rises < 8 = omega arith in
      silent _ true b.part _ answer byte _ (no_offer l w o g.t g.is (λ z. not_sending g.t.bytes g.given)) refl
      (rw (lt-ltb rises 8 lt) (record {
        t = with_eighth w g.t;
        is = one_bit w pulled o g.t g.is (omega (arith, g.long));
        given = g.given;
        from = g.from;
        n = g.n;
        few = g.few;
        at = omega arith;
        long = omega (arith, g.long);
        shifts = g.shifts;
      }))

  pub rise_went : (ph : Phase) (b : Board S) (w : Bool) (l : Levels) (answer : Bool) (byte : ℕ) (o : Option Transfer) → b.bus.phase ≡ ph → Tied ph false answer byte o
      → Went (rise_at ops ph b w l) true b.part (told (rose w) l o) answer byte (rising w (pulls_by false o answer byte) o)
  rise_went Closed b w l answer byte o e h = stays Closed b true _ answer byte _ e (rw h refl) (rw h refl)
  rise_went Deaf b w l answer byte o e h =
      let d = dead_rise w l answer byte o h.t h.is h.dead in
      let unpulled : pulls_by false o answer byte ≡ false = pull_of Deaf false answer byte o h in
      rw unpulled (stays Deaf b true _ answer byte _ e d.0 d.1)
  rise_went (Taking kind bits so_far) b w l answer byte o e h = bit_went (ltb bits 7) kind b w l bits so_far _ answer byte o refl h
  rise_went (AckDue n) b w l answer byte o e h = absurd (clash h.0)
  rise_went (AckPulled n) b w l answer byte o e h =
      let pull : pulls_by false o answer byte ≡ true = pull_of (AckPulled n) false answer byte o h in
      let d = h.1 in
      rw pull (silent _ true b.part _ answer byte _ (no_offer l w o d.t d.is (λ z. absurd (omega (arith, d.long, z)))) refl
      (refl, record { x = ninth_of w true d.t; bs = d.t.bytes; is = the_ninth w true o d.t d.is d.long; sends = d.sends; pulled = refl; answered = d.answered; follows = d.follows }))
  rise_went (AckRisen n) b w l answer byte o e h = absurd (clash h.0)
  rise_went (Giving a rises left out) b w l answer byte o e h = given_rise b w l _ answer byte a rises left out o h
  rise_went (Released a) b w l answer byte o e h = asked w b l _ answer byte a o h.1
  rise_went (Wanted a) b w l answer byte o e h = absurd (clash h.0)
