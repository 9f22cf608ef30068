-- Bits sent and read on a board whose part has been handed the levels of the lines before: they change it no more.
use Rattle.std.proofs.Common.{◌≡◌, ℕ, ◌+◌, ◌*◌, ◌/◌, ◌%◌, ◌<◌, Bool, true, false, cond, not, leb, ltb, sym, refl, ◌∙◌, arith}
use Rattle.std.proofs.lemmas.Bool.{eqb-true, eqb-false, leb-true, leb-false}
use Rattle.part.specs.Keeps.{Settled}
use Rattle.part.specs.Ops.{Ops}
use Rattle.part.specs.declared.levels.Levels.{Levels}
use Rattle.board.specs.Engine.{whole, with_wires, with_levels}
use Rattle.board.specs.Samples.{bit_value, odd}
use Rattle.board.specs.declared.board.Board.{Board}
use Rattle.board.specs.declared.bus.Kind.{Kind}
use Rattle.board.specs.declared.bus.Kind.TheVariants.{Address, First, Later}
use Rattle.board.specs.declared.bus.Next.{Next}
use Rattle.board.specs.declared.bus.Next.TheVariants.{ThenFirst, ThenLater, ThenGiven}
use Rattle.board.specs.declared.bus.Phase.{Phase}
use Rattle.board.specs.declared.bus.Phase.TheVariants.{Deaf, Taking, AckDue, AckPulled, AckRisen, Giving}
use Rattle.controller.specs.Bytes.{put, send_bit, read_bit}
use Rattle.controller.specs.Master.{ended, ◌then◌, run}
use Rattle.controller.proofs.Runs.{put_sample, onward}

-- the value of a bit: of the lowest of a number, and of the highest of eight
value_is : (b : Bool) (n : ℕ) → (b ≡ true → n ≡ 1) → (b ≡ false → n ≡ 0) → bit_value b ≡ n
value_is true n one none = sym (one refl)
value_is false n one none = sym (none refl)

pub low_is : (n : ℕ) → bit_value (odd n) ≡ n % 2
low_is n = value_is (odd n) (n % 2) (eqb-true (n % 2) 1) (λ e. let h = eqb-false (n % 2) 1 e in omega (arith, h))

pub high_is : (n : ℕ) → n < 256 → bit_value (leb 128 n) ≡ n / 128
high_is n small =
    value_is (leb 128 n) (n / 128) (λ e. let h = leb-true 128 n e in omega (arith, h, small)) (λ e. let h = leb-false 128 n e in omega (arith, h))

module _ {S : Type 0} where
  -- a board by its parts
  abbrev pub at : Bool → Bool → Phase → S → Board S
  at scl sda ph s = record { bus = record { scl = scl; sda = sda; phase = ph }; part = s }

  -- a byte of some kind comes next, or the part is deaf
  abbrev pub taking : Bool → Kind → S → Board S
  taking sda kind s = at false sda (Taking kind 0 0) s

  abbrev pub deaf : S → Board S
  deaf s = at false true Deaf s

module _ {S : Type 0} (ops : Ops S) (l : Levels) where
  -- a byte that the master sends, by its kind: whether the part gives an ACK, what the part is then, and what comes next
  abbrev pub acks : Kind → S → ℕ → Bool
  acks Address s x = ops.hears s x
  acks (First y) s x = ops.aims s y l x
  acks (Later y) s x = ops.takes s y l x

  abbrev pub offered : Kind → S → ℕ → S
  offered Address s x = ops.address s x
  offered (First y) s x = ops.aim s y l x
  offered (Later y) s x = ops.take s y l x

  abbrev pub next_of : Kind → ℕ → Next
  next_of Address x = cond (odd x) (ThenGiven x) (ThenFirst x)
  next_of (First y) x = ThenLater y
  next_of (Later y) x = ThenLater y

  -- the board once the master has read the ACK
  abbrev pub gone : Next → S → Board S
  gone (ThenFirst y) s = taking true (First y) s
  gone (ThenLater y) s = taking true (Later y) s
  gone (ThenGiven y) s =
      at false (not (not (odd (ops.given s y / 128)))) (Giving y 0 (ops.given s y % 128 * 2) (odd (ops.given s y / 128))) (ops.give s y)

  abbrev pub answered : Bool → Next → S → Board S
  answered true n s = gone n s
  answered false n s = deaf s

  pub put_run : (scl sda : Bool) (b c : Board S) → with_levels ops b scl sda l ≡ c → run ops (put l scl sda) b ≡ (c, c.bus.sda)
  put_run scl sda b c e = put_sample ops l scl sda b c c.bus.sda (sym e) refl

  -- three samples, the answer being the level of the second
  pub three : (x y z : Bool) (p q r : Bool) (b c d e : Board S) → with_levels ops b x p l ≡ c → with_levels ops c y q l ≡ d → with_levels ops d z r l ≡ e →
      run ops (put l x p then (λ _. put l y q then (λ _. put l z r))) b ≡ (e, e.bus.sda)
  three x y z p q r b c d e f g h =
      onward ops (put l x p) (λ _. put l y q then (λ _. put l z r)) b c c.bus.sda (put_run x p b c f)
      (onward ops (put l y q) (λ _. put l z r) c d d.bus.sda (put_run y q c d g) (put_run z r d e h))

  -- one sample and then the answer is the level of the sample before
  pub read_three : (b c d e : Board S) → with_levels ops b false true l ≡ c → with_levels ops c true true l ≡ d → with_levels ops d false true l ≡ e →
      run ops (read_bit l) b ≡ (e, d.bus.sda)
  read_three b c d e f g h =
      onward ops (put l false true) (λ _. put l true true then (λ high. put l false true then (λ _. ended high))) b c c.bus.sda (put_run false true b c f)
      (onward ops (put l true true) (λ high. put l false true then (λ _. ended high)) c d d.bus.sda (put_run true true c d g)
      (onward ops (put l false true) (λ _. ended d.bus.sda) d e e.bus.sda (put_run false true d e h) refl))

  -- the board after the rise of an eighth bit, and after the fall
  abbrev risen : Bool → Bool → Next → S → Board S
  risen w true n s = at true w (AckDue n) s
  risen w false n s = at true w Deaf s

  abbrev pub fallen : Bool → Bool → Next → S → Board S
  fallen w true n s = at false false (AckPulled n) s
  fallen w false n s = at false w Deaf s

  with_wires_at : (sda w : Bool) (kind : Kind) (v x : ℕ) (s : S) (ack : Bool) → acks kind s x ≡ ack →
      with_wires ops (whole ops kind (at false sda (Taking kind 7 v) s) l x) true w ≡ risen w ack (next_of kind x) (offered kind s x)
  with_wires_at sda w Address v x s true h = rw h refl
  with_wires_at sda w Address v x s false h = rw h refl
  with_wires_at sda w (First y) v x s true h = rw h refl
  with_wires_at sda w (First y) v x s false h = rw h refl
  with_wires_at sda w (Later y) v x s true h = rw h refl
  with_wires_at sda w (Later y) v x s false h = rw h refl

  falls_to : (w ack : Bool) (n : Next) (s : S) → Settled ops l s → with_levels ops (risen w ack n s) false w l ≡ fallen w ack n s
  falls_to true true n s h = λ i. at false false (AckPulled n) (h i)
  falls_to false true n s h = λ i. at false false (AckPulled n) (h i)
  falls_to true false n s h = λ i. at false true Deaf (h i)
  falls_to false false n s h = λ i. at false false Deaf (h i)

  -- the ninth bit
  ninth_falls : (n : Next) (s : S) → Settled ops l s → with_levels ops (at true false (AckRisen n) s) false true l ≡ gone n s
  ninth_falls (ThenFirst y) s settled = λ i. gone (ThenFirst y) (settled i)
  ninth_falls (ThenLater y) s settled = λ i. gone (ThenLater y) (settled i)
  ninth_falls (ThenGiven y) s settled = λ i. gone (ThenGiven y) (settled i)

  pub ninth : (w ack : Bool) (n : Next) (s : S) → Settled ops l s → run ops (read_bit l) (fallen w ack n s) ≡ (answered ack n s, not ack)
  ninth w true n s settled =
      read_three (at false false (AckPulled n) s) (at false false (AckPulled n) s) (at true false (AckRisen n) s) (gone n s)
      (λ i. at false false (AckPulled n) (settled i)) (λ i. at true false (AckRisen n) (settled i)) (ninth_falls n s settled)
  ninth w false n s settled =
      read_three (at false w Deaf s) (deaf s) (at true true Deaf s) (deaf s)
      (λ i. deaf (settled i)) (λ i. at true true Deaf (settled i)) (λ i. deaf (settled i))

  module _ (s : S) (settled : Settled ops l s) where
    -- a bit that is not the eighth, after k of which v has come
    pub more_bit : (sda w : Bool) (kind : Kind) (k v : ℕ) → ltb k 7 ≡ true →
        run ops (send_bit l w) (at false sda (Taking kind k v) s) ≡ (at false w (Taking kind (k + 1) (v % 128 * 2 + bit_value w)) s, w)
    more_bit sda true kind k v h =
        let here : Phase = Taking kind k v in
        let next : Phase = Taking kind (k + 1) (v % 128 * 2 + 1) in
        three false true false true true true (at false sda here s) (at false true here s) (at true true next s) (at false true next s)
        (λ i. at false true here (settled i)) (rw h (λ i. at true true next (settled i))) (λ i. at false true next (settled i))
    more_bit sda false kind k v h =
        let here : Phase = Taking kind k v in
        let next : Phase = Taking kind (k + 1) (v % 128 * 2 + 0) in
        three false true false false false false (at false sda here s) (at false false here s) (at true false next s) (at false false next s)
        (λ i. at false false here (settled i)) (rw h (λ i. at true false next (settled i))) (λ i. at false false next (settled i))

    -- the eighth, and then the part is handed the byte
    pub eighth_bit : (sda w : Bool) (kind : Kind) (v x : ℕ) (ack : Bool) → v % 128 * 2 + bit_value w ≡ x → acks kind s x ≡ ack → Settled ops l (offered kind s x) →
        run ops (send_bit l w) (at false sda (Taking kind 7 v) s) ≡ (fallen w ack (next_of kind x) (offered kind s x), (fallen w ack (next_of kind x) (offered kind s x)).bus.sda)
    eighth_bit sda true kind v x ack is e t_settled =
        let here : Phase = Taking kind 7 v in
        let n : Next = next_of kind x in
        let t : S = offered kind s x in
        three false true false true true true (at false sda here s) (at false true here s) (risen true ack n t) (fallen true ack n t)
        (λ i. at false true here (settled i))
        ((λ i. with_wires ops (whole ops kind (at false true here (settled i)) l (is i)) true true) ∙ with_wires_at true true kind v x s ack e)
        (falls_to true ack n t t_settled)
    eighth_bit sda false kind v x ack is e t_settled =
        let here : Phase = Taking kind 7 v in
        let n : Next = next_of kind x in
        let t : S = offered kind s x in
        three false true false false false false (at false sda here s) (at false false here s) (risen false ack n t) (fallen false ack n t)
        (λ i. at false false here (settled i))
        ((λ i. with_wires ops (whole ops kind (at false false here (settled i)) l (is i)) true false) ∙ with_wires_at false false kind v x s ack e)
        (falls_to false ack n t t_settled)
