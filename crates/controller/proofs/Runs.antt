-- What a run of masters comes to, piece by piece.
use Rattle.std.proofs.Common.{◌≡◌, ℕ, suc, ◌+◌, ◌-◌, ◌*◌, ◌/◌, ◌%◌, ◌^◌, ◌<◌, ◌≤◌, Bool, true, false, not, Ok, Err, Result, sym, refl, ap, ◌∙◌, pow-suc, add-one, arith, pow_mono}
use mir.Val.{bool_byte}
use Rattle.std.proofs.lemmas.Bool.{lt-ltb}
use Rattle.refusals.specs.declared.Refusal.{Refusal}
use Rattle.refusals.specs.Told.{Told, ok, refused, told, number, place}
use Rattle.part.specs.Ops.{Ops}
use Rattle.part.specs.declared.levels.Levels.{Levels}
use Rattle.board.specs.declared.board.Board.{Board}
use Rattle.board.specs.Engine.{sampled, with_sample, with_levels, sample_told}
use Rattle.board.specs.Samples.{bit_value, odd, sample_byte}
use Rattle.board.proofs.Samples.{bit_small, byte_sampled}
use Rattle.controller.specs.Master.{Master, ended, gives, ◌then◌, after_sample, reads, run}
use Rattle.controller.specs.Bytes.{send_bit, read_bit, send_bits, read_bits, send, receive}

pub byte_bit : (b : Bool) → bool_byte b ≡ bit_value b
byte_bit true = refl
byte_bit false = refl

apart : {X A : Type 0} (a : A) (m n : ℕ) → ◌≡◌ {A = Told A} (ok a) (refused m n) → X
apart a m n e =
    let z : ◌≡◌ {A = ℕ} 0 1 = cc in
    let f : ⊥ = omega arith in
    absurd f

its_level : (r : Result Bool Refusal) (level : Bool) → told (λ level. level) r ≡ ok level → r ≡ Ok level
its_level (Ok x) level e = cc
its_level (Err refusal) level e = apart level (number refusal) (place refusal) (sym e)

module _ {S : Type 0} (ops : Ops S) where
  -- the board after a sample of the tool, and the answer
  pub put_sample : (l : Levels) (scl sda : Bool) (b after : Board S) (level : Bool) → after ≡ with_levels ops b scl sda l → level ≡ after.bus.sda
      → ◌≡◌ {A = Board S × Bool} (after_sample ops b (sample_byte l scl sda), reads ops b (sample_byte l scl sda)) (after, level)
  unfolding after_sample reads
  put_sample l scl sda b after level e f =
      let h : sampled ops b (sample_byte l scl sda) ≡ after = byte_sampled ops l scl sda b ∙ sym e in
      λ i. (h i, (ap (λ c. c.bus.sda) h ∙ sym f) i)

  -- a sample that is not refused is answered
  pub taken_sample : (b : Board S) (x : ℕ) (r : Result Bool Refusal) → x < 32 → told (λ level. level) r ≡ sample_told ops b x → r ≡ Ok (with_sample ops b x).bus.sda
  taken_sample b x r h f = its_level r _ (rw (lt-ltb x 32 h) at f)

  -- the board after it, and the answer
  pub answered : (b after : Board S) (x : ℕ) (r : Result Bool Refusal) (level : Bool) → x < 32 → after ≡ sampled ops b x → told (λ level. level) r ≡ sample_told ops b x
      → r ≡ Ok level → ◌≡◌ {A = Board S × Bool} (after_sample ops b x, reads ops b x) (after, level)
  unfolding after_sample reads
  answered b after x r level h e f k =
      let s : sampled ops b x ≡ with_sample ops b x = rw (lt-ltb x 32 h) refl in
      let same : Ok (with_sample ops b x).bus.sda ≡ Ok level = sym (taken_sample b x r h f) ∙ k in
      let l : (with_sample ops b x).bus.sda ≡ level = cc in
      let m : (sampled ops b x).bus.sda ≡ level = ap (λ c. c.bus.sda) s ∙ l in
      λ i. (sym e i, m i)

  -- one master after another
  pub after : {A B : Type 0} (m : Master A) (f : A → Master B) (b : Board S) → run ops (m then f) b ≡ run ops (f (run ops m b).1) (run ops m b).0
  after (ended a) f b = refl
  after (gives x k) f b = after (k (reads ops b x)) f (after_sample ops b x)

  -- a run goes on from where a part of it has come to
  pub onward : {A B : Type 0} (m : Master A) (f : A → Master B) (b c : Board S) (a : A) {z : Board S × B} → run ops m b ≡ (c, a) → run ops (f a) c ≡ z → run ops (m then f) b ≡ z
  onward m f b c a e h = after m f b ∙ ap (λ r. run ops (f r.1) r.0) e ∙ h

  module _ (l : Levels) where
    -- one bit more of a byte sent
    pub sent_more : (x n : ℕ) (b c : Board S) (r : Bool) {z : Board S × Unit {0}} → n < 8 → run ops (send_bit l (odd (x / 2 ^ (7 - n)))) b ≡ (c, r)
        → run ops (send_bits l (8 - n) x) b ≡ z → run ops (send_bits l (8 - (n + 1)) x) c ≡ z
    sent_more x n b c r {z} h e f =
        let p : 8 - n ≡ suc (7 - n) = omega arith in
        let q : 8 - (n + 1) ≡ 7 - n = omega arith in
        let f' : run ops (send_bits l (suc (7 - n)) x) b ≡ z = rw p at f in
        rw q (sym (onward (send_bit l (odd (x / 2 ^ (7 - n)))) (λ _. send_bits l (7 - n) x) b c r e refl) ∙ f')

    pub sent_all : (x n : ℕ) (b : Board S) {z : Board S × Unit {0}} → 8 ≤ n → run ops (send_bits l (8 - n) x) b ≡ z → z ≡ (b, tt)
    sent_all x n b {z} h f =
        let p : 8 - n ≡ 0 = omega arith in
        let f' : run ops (send_bits l 0 x) b ≡ z = rw p at f in
        sym f'

    -- a byte sent
    pub sent : (x : ℕ) (b c d : Board S) (high : Bool) → run ops (send_bits l 8 x) b ≡ (c, tt) → run ops (read_bit l) c ≡ (d, high) → run ops (send l x) b ≡ (d, not high)
    unfolding send
    sent x b c d high e f =
        onward (send_bits l 8 x) (λ _. read_bit l then (λ high. ended (not high))) b c tt e (onward (read_bit l) (λ high. ended (not high)) c d high f refl)

    -- one bit more of a byte read
    read_more : (v n : ℕ) (b c : Board S) (high : Bool) {z : Board S × ℕ} → n < 8 → run ops (read_bit l) b ≡ (c, high) → run ops (read_bits l (8 - n) v) b ≡ z
        → run ops (read_bits l (8 - (n + 1)) (v * 2 + bit_value high)) c ≡ z
    read_more v n b c high {z} h e f =
        let p : 8 - n ≡ suc (7 - n) = omega arith in
        let q : 8 - (n + 1) ≡ 7 - n = omega arith in
        let f' : run ops (read_bits l (suc (7 - n)) v) b ≡ z = rw p at f in
        rw q (sym (onward (read_bit l) (λ high. read_bits l (7 - n) (v * 2 + bit_value high)) b c high e refl) ∙ f')

    pub read_step : (v n : ℕ) (b c : Board S) (high : Bool) {z : Board S × ℕ} → n < 8 → v < 2 ^ n → run ops (read_bit l) b ≡ (c, high) → run ops (read_bits l (8 - n) v) b ≡ z →
        (v % 128 * 2 + bool_byte high < 2 ^ (n + 1)) × (run ops (read_bits l (8 - (n + 1)) (v % 128 * 2 + bool_byte high)) c ≡ z)
    read_step v n b c high {z} h k e f =
        let m : 2 ^ n ≤ 2 ^ 7 = pow_mono (let k : n ≤ 7 = omega arith in k) in
        let same : v % 128 * 2 + bool_byte high ≡ v * 2 + bit_value high = omega (arith, byte_bit high) in
        let w : 2 ^ (n + 1) ≡ 2 ^ n * 2 = rw add-one (pow-suc 2 n) in
        (omega (arith, bit_small high), rw same (read_more v n b c high h e f))

    pub read_all : (v n : ℕ) (b : Board S) {z : Board S × ℕ} → 8 ≤ n → run ops (read_bits l (8 - n) v) b ≡ z → z ≡ (b, v)
    read_all v n b {z} h f =
        let p : 8 - n ≡ 0 = omega arith in
        let f' : run ops (read_bits l 0 v) b ≡ z = rw p at f in
        sym f'

    -- a byte read
    pub received : (more : Bool) (b c d : Board S) (v : ℕ) (r : Bool) → run ops (read_bits l 8 0) b ≡ (c, v) → run ops (send_bit l (not more)) c ≡ (d, r) → run ops (receive l more) b ≡ (d, v)
    unfolding receive
    received more b c d v r e f =
        onward (read_bits l 8 0) (λ v. send_bit l (not more) then (λ _. ended v)) b c v e (onward (send_bit l (not more)) (λ _. ended v) c d r f refl)
