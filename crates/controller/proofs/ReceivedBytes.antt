-- A byte read, which the part gives, on a board whose part has been handed the levels of the lines before.
use Rattle.std.proofs.Common.{◌≡◌, ℕ, suc, ◌+◌, ◌*◌, ◌/◌, ◌%◌, Bool, true, false, not, leb, ltb, refl, ap, ◌∙◌, arith}
use Rattle.std.proofs.Math.Bool.{not-not}
use Rattle.part.specs.Keeps.{Settled}
use Rattle.part.specs.Ops.{Ops}
use Rattle.part.specs.declared.levels.Levels.{Levels}
use Rattle.board.specs.Samples.{bit_value, odd}
use Rattle.board.specs.declared.board.Board.{Board}
use Rattle.board.specs.declared.bus.Phase.{Phase}
use Rattle.board.specs.declared.bus.Phase.TheVariants.{Deaf, Giving, Released, Wanted}
use Rattle.controller.specs.Bytes.{send_bit, read_bit, read_bits, receive}
use Rattle.controller.specs.Master.{ended, ◌then◌, run}
use Rattle.controller.proofs.Bits.{low_is, high_is, at, deaf, three, read_three}
use Rattle.controller.proofs.Runs.{onward}

module _ {S : Type 0} (ops : Ops S) (l : Levels) where
  -- the board while a byte g that the part gave is on its way
  abbrev coming_byte : Bool → ℕ → ℕ → S → Board S
  coming_byte sda y g s = at false sda (Giving y 0 (g % 128 * 2) (odd (g / 128))) s

  -- and while the byte that the part t gives is
  abbrev pub coming : Bool → ℕ → S → Board S
  coming sda y t = coming_byte sda y (ops.given t y) (ops.give t y)

  module _ (s : S) (settled : Settled ops l s) (y : ℕ) where
    -- a bit that is not the eighth: v has come of the byte, and then u; r and then q is left of it
    bit_more : (n k v u r q : ℕ) (sda w : Bool) {z : Board S × ℕ} → ltb k 7 ≡ true → ltb k 8 ≡ true → ltb (k + 1) 8 ≡ true → v * 2 + bit_value w ≡ u → r % 128 * 2 ≡ q →
        run ops (read_bits l n u) (at false (not (not (leb 128 r))) (Giving y (k + 1) q (leb 128 r)) s) ≡ z → run ops (read_bits l (suc n) v) (at false sda (Giving y k r w) s) ≡ z
    bit_more n k v u r q sda w {z} before_7 before_8 next_before_8 is rest others =
        let out : Bool = leb 128 r in
        let here : Phase = Giving y k r w in
        let up : Phase = Giving y (k + 1) r w in
        let next : ℕ → Board S = λ q. at false (not (not out)) (Giving y (k + 1) q out) s in
        let others' : run ops (read_bits l n (v * 2 + bit_value (not (not w)))) (next (r % 128 * 2)) ≡ z =
        (λ i. run ops (read_bits l n (v * 2 + bit_value (not-not w i))) (next (rest i))) ∙ ap (λ u. run ops (read_bits l n u) (next q)) is ∙ others in
        onward ops (read_bit l) (λ high. read_bits l n (v * 2 + bit_value high)) (at false sda here s) (next (r % 128 * 2)) (not (not w))
        (read_three ops l (at false sda here s) (at false (not (not w)) here s) (at true (not (not w)) up s) (next (r % 128 * 2))
        (λ i. at false (not (not w)) here (settled i))
        (rw before_8 (λ i. at true (not (not w)) up (settled i)))
        (rw next_before_8 (λ i. at false (not (not out)) (Giving y (k + 1) (r % 128 * 2) out) (settled i))))
        others'

    -- the eighth: then SDA is released
    bit_last : (v u r : ℕ) (sda w : Bool) → v * 2 + bit_value w ≡ u → run ops (read_bits l 1 v) (at false sda (Giving y 7 r w) s) ≡ (at false true (Released y) s, u)
    bit_last v u r sda w is =
        let here : Phase = Giving y 7 r w in
        let up : Phase = Giving y 8 r w in
        let released : Board S = at false true (Released y) s in
        onward ops (read_bit l) (λ high. ended (v * 2 + bit_value high)) (at false sda here s) released (not (not w))
        (read_three ops l (at false sda here s) (at false (not (not w)) here s) (at true (not (not w)) up s) released
        (λ i. at false (not (not w)) here (settled i))
        (λ i. at true (not (not w)) up (settled i))
        (λ i. at false true (Released y) (settled i)))
        ((λ i. (released, v * 2 + bit_value (not-not w i))) ∙ (λ i. (released, is i)))

    eight : (g : ℕ) (sda : Bool) → run ops (read_bits l 8 0) (coming_byte sda y g s) ≡ (at false true (Released y) s, g % 256)
    eight g sda =
        bit_more 7 0 0 (g / 128 % 2) (g % 128 * 2) (g % 64 * 4) sda (odd (g / 128)) refl refl refl (omega (arith, low_is (g / 128))) (omega arith)
        (bit_more 6 1 (g / 128 % 2) (g / 64 % 4) (g % 64 * 4) (g % 32 * 8) _ (leb 128 (g % 128 * 2)) refl refl refl (omega (arith, high_is (g % 128 * 2) (omega arith))) (omega arith)
        (bit_more 5 2 (g / 64 % 4) (g / 32 % 8) (g % 32 * 8) (g % 16 * 16) _ (leb 128 (g % 64 * 4)) refl refl refl (omega (arith, high_is (g % 64 * 4) (omega arith))) (omega arith)
        (bit_more 4 3 (g / 32 % 8) (g / 16 % 16) (g % 16 * 16) (g % 8 * 32) _ (leb 128 (g % 32 * 8)) refl refl refl (omega (arith, high_is (g % 32 * 8) (omega arith))) (omega arith)
        (bit_more 3 4 (g / 16 % 16) (g / 8 % 32) (g % 8 * 32) (g % 4 * 64) _ (leb 128 (g % 16 * 16)) refl refl refl (omega (arith, high_is (g % 16 * 16) (omega arith))) (omega arith)
        (bit_more 2 5 (g / 8 % 32) (g / 4 % 64) (g % 4 * 64) (g % 2 * 128) _ (leb 128 (g % 8 * 32)) refl refl refl (omega (arith, high_is (g % 8 * 32) (omega arith))) (omega arith)
        (bit_more 1 6 (g / 4 % 64) (g / 2 % 128) (g % 2 * 128) 0 _ (leb 128 (g % 4 * 64)) refl refl refl (omega (arith, high_is (g % 4 * 64) (omega arith))) (omega arith)
        (bit_last (g / 2 % 128) (g % 256) 0 _ (leb 128 (g % 2 * 128)) (omega (arith, high_is (g % 2 * 128) (omega arith))))))))))

    -- a byte with an ACK, and then the next one comes
    pub read_more : (g : ℕ) (sda : Bool) → run ops (receive l true) (coming_byte sda y g s) ≡ (coming false y s, g % 256)
    unfolding receive
    read_more g sda =
        let released : Board S = at false true (Released y) s in
        onward ops (read_bits l 8 0) (λ v. send_bit l false then (λ _. ended v)) (coming_byte sda y g s) released (g % 256) (eight g sda)
        (onward ops (send_bit l false) (λ _. ended (g % 256)) released (coming false y s) false
        (three ops l false true false false false false released (at false false (Released y) s) (at true false (Wanted y) s) (coming false y s)
        (λ i. at false false (Released y) (settled i)) (λ i. at true false (Wanted y) (settled i)) (λ i. coming false y (settled i))) refl)

    -- and one without, which is the last
    pub read_last : (g : ℕ) (sda : Bool) → run ops (receive l false) (coming_byte sda y g s) ≡ (deaf s, g % 256)
    unfolding receive
    read_last g sda =
        let released : Board S = at false true (Released y) s in
        onward ops (read_bits l 8 0) (λ v. send_bit l true then (λ _. ended v)) (coming_byte sda y g s) released (g % 256) (eight g sda)
        (onward ops (send_bit l true) (λ _. ended (g % 256)) released (deaf s) true
        (three ops l false true false true true true released released (at true true Deaf s) (deaf s)
        (λ i. at false true (Released y) (settled i)) (λ i. at true true Deaf (settled i)) (λ i. deaf (settled i))) refl)
