-- A write job from idle wires is its work on the part.
use Rattle.std.proofs.Common.{◌≡◌, ℕ, suc, ◌+◌, ◌%◌, ◌<◌, Bool, true, false, List, [], ◌∷◌, refl, ap, ◌∙◌, arith}
use Rattle.std.proofs.lemmas.Bool.{ne_eqb}
use Rattle.refusals.specs.Told.{Told, ok, refused}
use Rattle.part.specs.Keeps.{Keeps, Settled}
use Rattle.part.specs.Ops.{Ops}
use Rattle.part.specs.declared.levels.Levels.{Levels}
use Rattle.board.specs.Engine.{idle}
use Rattle.board.specs.Samples.{odd}
use Rattle.board.specs.declared.board.Board.{Board}
use Rattle.board.specs.declared.bus.Kind.{Kind}
use Rattle.board.specs.declared.bus.Kind.TheVariants.{Address, First, Later}
use Rattle.board.specs.declared.bus.Next.TheVariants.{ThenLater}
use Rattle.controller.specs.Bytes.{start, stop}
use Rattle.controller.specs.Bytes.{AllBytes}
use Rattle.controller.specs.Jobs.{acked, unless_refused, send_one, send_all, open_with, write_byte, sending, writing}
use Rattle.controller.specs.Master.{◌then◌, run}
use Rattle.controller.specs.Work.{on_ack, is_ok, later, bytes, sent, written, on_idle}
use Rattle.controller.proofs.Bits.{taking, deaf, acks, offered, next_of, gone, answered}
use Rattle.controller.proofs.Ends.{AfterAddress, first_start, clean_stop, deaf_stop}
use Rattle.controller.proofs.Runs.{onward}
use Rattle.controller.proofs.Sends.{one_sent as sent_one, opens, writes}
use Rattle.controller.proofs.SentBytes.{byte_sent}
use Rattle.controller.proofs.Settling.{sent_settles}

-- an address byte for writing is even
write_even : (a : ℕ) → odd (write_byte a) ≡ false
write_even a = ne_eqb (write_byte a % 2) 1 (λ e. absurd (omega (arith, e)))

write_small : (a : ℕ) → write_byte a < 256
write_small a = omega arith

-- the byte that comes after some bytes under the address byte y
abbrev after_bytes : ℕ → List ℕ → Kind
after_bytes y [] = First y
after_bytes y (x ∷ xs) = Later y

after_address : (y : ℕ) (xs : List ℕ) → AfterAddress (after_bytes y xs)
after_address y [] = tt
after_address y (x ∷ xs) = tt

module _ {S : Type 0} where
  -- the board after bytes sent: a byte of the kind may come, or the part is deaf
  abbrev pub left : Kind → Told (List ℕ) → S → Board S
  left kind (ok xs) s = taking true kind s
  left kind (refused n p) s = deaf s

  abbrev leaves : Kind → S × Told (List ℕ) → Board S × Told (List ℕ)
  leaves kind w = (left kind w.1 w.0, w.1)

module _ {S : Type 0} (ops : Ops S) (keeps : Keeps ops) (l : Levels) where
  offered_settled : (kind : Kind) (x : ℕ) (s : S) → Settled ops l s → Settled ops l (offered ops l kind s x)
  offered_settled Address x s settled = keeps.settles.after_address s l x settled
  offered_settled (First y) x s settled = keeps.settles.after_aim s l y x settled
  offered_settled (Later y) x s settled = keeps.settles.after_take s l y x settled

  one_sent : (n x : ℕ) (sda ack : Bool) (kind : Kind) (s : S) → x < 256 → Settled ops l s → acks ops l kind s x ≡ ack →
      run ops (send_one l n x) (taking sda kind s) ≡ (answered ops l ack (next_of ops l kind x) (offered ops l kind s x), acked n ack)
  one_sent n x sda ack kind s small settled e =
      sent_one ops l n x (taking sda kind s) (answered ops l ack (next_of ops l kind x) (offered ops l kind s x)) ack
      (byte_sent ops l s settled kind x small sda ack e (offered_settled kind x s settled)) refl

  -- a byte sent and then the others, as the work has it
  one_by_one : (kind : Kind) (y n x : ℕ) (xs : List ℕ) (s : S) (go : S → S × Told (List ℕ)) (ack : Bool) →
      next_of ops l kind x ≡ ThenLater y → x < 256 → Settled ops l s → acks ops l kind s x ≡ ack →
      run ops (send_all l (n + 1) xs) (taking true (Later y) (offered ops l kind s x)) ≡ leaves (Later y) (go (offered ops l kind s x)) →
      run ops (send_all l n (x ∷ xs)) (taking true kind s) ≡ leaves (Later y) (on_ack ack n go (offered ops l kind s x))
  unfolding send_all
  one_by_one kind y n x xs s go true is small settled e others =
      let t : S = offered ops l kind s x in
      onward ops (send_one l n x) (λ t. unless_refused t (send_all l (n + 1) xs)) (taking true kind s) (taking true (Later y) t) (ok [])
      (one_sent n x true true kind s small settled e ∙ (λ i. (gone ops l (is i) t, ok []))) others
  one_by_one kind y n x xs s go false is small settled e others =
      let t : S = offered ops l kind s x in
      onward ops (send_one l n x) (λ t. unless_refused t (send_all l (n + 1) xs)) (taking true kind s) (deaf t) (refused 8 n)
      (one_sent n x true false kind s small settled e) refl

  none_sent : (n : ℕ) (b : Board S) → run ops (send_all l n []) b ≡ (b, ok [])
  unfolding send_all
  none_sent n b = refl

  later_sent : (y n : ℕ) (xs : List ℕ) (s : S) → AllBytes xs → Settled ops l s → run ops (send_all l n xs) (taking true (Later y) s) ≡ leaves (Later y) (later ops l y n xs s)
  later_sent y n [] s small settled = none_sent n (taking true (Later y) s)
  later_sent y n (x ∷ xs) s small settled =
      one_by_one (Later y) y n x xs s (later ops l y (n + 1) xs) (ops.takes s y l x) refl (small 0) settled refl
      (later_sent y (n + 1) xs (ops.take s y l x) (λ i. small (suc i)) (keeps.settles.after_take s l y x settled))

  bytes_sent : (y : ℕ) (xs : List ℕ) (s : S) → AllBytes xs → Settled ops l s → run ops (send_all l 1 xs) (taking true (First y) s) ≡ leaves (after_bytes y xs) (bytes ops l y xs s)
  bytes_sent y [] s small settled = none_sent 1 (taking true (First y) s)
  bytes_sent y (x ∷ xs) s small settled =
      one_by_one (First y) y 1 x xs s (later ops l y 2 xs) (ops.aims s y l x) refl (small 0) settled refl
      (later_sent y 2 xs (ops.aim s y l x) (λ i. small (suc i)) (keeps.settles.after_aim s l y x settled))

  -- START and an address byte, from a board on which START leads to the part t
  pub address_sent : (n y : ℕ) (b : Board S) (t : S) (ack high : Bool) → y < 256 → Settled ops l t → run ops (start l) b ≡ (taking false Address t, high) → ops.hears t y ≡ ack →
      run ops (open_with l n y) b ≡ (answered ops l ack (next_of ops l Address y) (ops.address t y), acked n ack)
  address_sent n y b t ack high small settled started e =
      opens ops l n y b (taking false Address t) (answered ops l ack (next_of ops l Address y) (ops.address t y)) high (acked n ack) started
      (one_sent n y false ack Address t small settled e)

  -- START, the write address and the bytes
  pub all_sent : (a : ℕ) (xs : List ℕ) (b : Board S) (s : S) (high : Bool) → AllBytes xs → Settled ops l s → run ops (start l) b ≡ (taking false Address (ops.start s), high) →
      run ops (sending l a xs) b ≡ leaves (after_bytes (write_byte a) xs) (sent ops l a xs s)
  unfolding sending
  all_sent a xs b s high small settled started = by_ack (ops.hears (ops.start s) (write_byte a)) refl
    where
      y : ℕ
      y = write_byte a

      t : S
      t = ops.address (ops.start s) y

      start_settled : Settled ops l (ops.start s)
      start_settled = keeps.settles.after_start s l settled

      by_ack : (ack : Bool) → ops.hears (ops.start s) y ≡ ack →
          run ops (open_with l 0 y then (λ t. unless_refused t (send_all l 1 xs))) b ≡ leaves (after_bytes y xs) (on_ack ack 0 (bytes ops l y xs) t)
      by_ack true e =
          onward ops (open_with l 0 y) (λ t. unless_refused t (send_all l 1 xs)) b (taking true (First y) t) (ok [])
          (address_sent 0 y b (ops.start s) true high (write_small a) start_settled started e ∙ (rw (write_even a) refl))
          (bytes_sent y xs t small (keeps.settles.after_address (ops.start s) l y start_settled))
      by_ack false e =
          onward ops (open_with l 0 y) (λ t. unless_refused t (send_all l 1 xs)) b (deaf t) (refused 8 0)
          (address_sent 0 y b (ops.start s) false high (write_small a) start_settled started e) refl

  -- the STOP
  stops : (kind : Kind) (t : Told (List ℕ)) (s : S) → AfterAddress kind → Settled ops l s → (run ops (stop l) (left kind t s)).0 ≡ idle (ops.stop s (is_ok t) l)
  stops kind (ok xs) s after settled = ap (λ r. r.0) (clean_stop ops keeps l s settled true kind after)
  stops kind (refused n p) s after settled = ap (λ r. r.0) (deaf_stop ops keeps l s settled)

  pub write_work : (a : ℕ) (xs : List ℕ) (s : S) → AllBytes xs → run ops (writing l a xs) (idle s) ≡ on_idle (written ops l a xs s)
  unfolding written
  write_work a xs s small =
      let t : S = ops.level s l in
      let settled : Settled ops l t = keeps.settles.after_level s l in
      let kind : Kind = after_bytes (write_byte a) xs in
      let w : S × Told (List ℕ) = sent ops l a xs t in
      writes ops l a xs (idle s) (left kind w.1 w.0) (idle (ops.stop w.0 (is_ok w.1) l)) w.1
      (all_sent a xs (idle s) t false small settled (first_start ops keeps l s))
      (stops kind w.1 w.0 (after_address (write_byte a) xs) (sent_settles ops keeps l a xs t settled))
