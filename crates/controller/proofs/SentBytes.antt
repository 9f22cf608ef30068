-- A byte sent, on a board whose part has been handed the levels of the lines before.
use Rattle.std.proofs.Common.{◌≡◌, ℕ, suc, ◌+◌, ◌*◌, ◌/◌, ◌%◌, ◌^◌, ◌<◌, Bool, true, false, not, ltb, refl, ◌∙◌, arith}
use Rattle.std.proofs.Math.Bool.{not-not}
use Rattle.part.specs.Keeps.{Settled}
use Rattle.part.specs.Ops.{Ops}
use Rattle.part.specs.declared.levels.Levels.{Levels}
use Rattle.board.specs.Samples.{bit_value, odd}
use Rattle.board.specs.declared.board.Board.{Board}
use Rattle.board.specs.declared.bus.Kind.{Kind}
use Rattle.board.specs.declared.bus.Phase.TheVariants.{Taking}
use Rattle.controller.specs.Bytes.{send_bit, read_bit, send_bits, send}
use Rattle.controller.specs.Master.{ended, ◌then◌, run}
use Rattle.controller.proofs.Bits.{low_is, at, taking, acks, offered, next_of, answered, fallen, more_bit, eighth_bit, ninth}
use Rattle.controller.proofs.Runs.{onward}

module _ {S : Type 0} (ops : Ops S) (l : Levels) (s : S) (settled : Settled ops l s) (kind : Kind) (x : ℕ) (small : x < 256) where
  -- one of the first seven bits: of the byte v has come, and then u
  bit_more : (n k v u : ℕ) (sda : Bool) {z : Board S × Unit {0}} → ltb k 7 ≡ true → v % 128 * 2 + bit_value (odd (x / 2 ^ n)) ≡ u →
      run ops (send_bits l n x) (at false (odd (x / 2 ^ n)) (Taking kind (k + 1) u) s) ≡ z → run ops (send_bits l (suc n) x) (at false sda (Taking kind k v) s) ≡ z
  bit_more n k v u sda h is others =
      let w : Bool = odd (x / 2 ^ n) in
      onward ops (send_bit l w) (λ _. send_bits l n x) (at false sda (Taking kind k v) s) (at false w (Taking kind (k + 1) u) s) w
      (more_bit ops l s settled sda w kind k v h ∙ (λ i. (at false w (Taking kind (k + 1) (is i)) s, w))) others

  -- the bits before the last
  seven : (sda : Bool) {z : Board S × Unit {0}} → run ops (send_bits l 1 x) (at false (odd (x / 2)) (Taking kind 7 (x / 2)) s) ≡ z → run ops (send_bits l 8 x) (taking sda kind s) ≡ z
  seven sda last =
      bit_more 7 0 0 (x / 128) sda refl (omega (arith, low_is (x / 128)))
      (bit_more 6 1 (x / 128) (x / 64) _ refl (omega (arith, small, low_is (x / 64)))
      (bit_more 5 2 (x / 64) (x / 32) _ refl (omega (arith, small, low_is (x / 32)))
      (bit_more 4 3 (x / 32) (x / 16) _ refl (omega (arith, small, low_is (x / 16)))
      (bit_more 3 4 (x / 16) (x / 8) _ refl (omega (arith, small, low_is (x / 8)))
      (bit_more 2 5 (x / 8) (x / 4) _ refl (omega (arith, small, low_is (x / 4)))
      (bit_more 1 6 (x / 4) (x / 2) _ refl (omega (arith, small, low_is (x / 2))) last))))))

  pub byte_sent : (sda ack : Bool) → acks ops l kind s x ≡ ack → Settled ops l (offered ops l kind s x) →
      run ops (send l x) (taking sda kind s) ≡ (answered ops l ack (next_of ops l kind x) (offered ops l kind s x), ack)
  unfolding send
  byte_sent sda ack e t_settled =
      let t : S = offered ops l kind s x in
      let n = next_of ops l kind x in
      let w : Bool = odd (x / 1) in
      let before : Board S = at false (odd (x / 2)) (Taking kind 7 (x / 2)) s in
      let fell : Board S = fallen ops l w ack n t in
      let is : x / 2 % 128 * 2 + bit_value w ≡ x = omega (arith, small, low_is (x / 1)) in
      let last : run ops (send_bits l 1 x) before ≡ (fell, tt) =
      onward ops (send_bit l w) (λ _. ended tt) before fell fell.bus.sda (eighth_bit ops l s settled (odd (x / 2)) w kind (x / 2) x ack is e t_settled) refl in
      onward ops (send_bits l 8 x) (λ _. read_bit l then (λ high. ended (not high))) (taking sda kind s) fell tt (seven sda last)
      (onward ops (read_bit l) (λ high. ended (not high)) fell (answered ops l ack n t) (not ack) (ninth ops l w ack n t t_settled) (λ i. (answered ops l ack n t, not-not ack i)))
