-- A read job from idle wires is its work on the part.
use Rattle.std.proofs.Common.{◌≡◌, ℕ, zero, suc, ◌+◌, ◌/◌, ◌%◌, ◌<◌, ◌≤◌, Bool, true, false, not, List, [], ◌∷◌, ◌++◌, length, refl, ap, ◌∙◌, arith, eq-eqb, lt-ltb}
use Rattle.std.proofs.lemmas.List.{append_assoc}
use Rattle.refusals.specs.Told.{Told, ok, refused}
use Rattle.part.specs.Keeps.{Keeps, Settled}
use Rattle.part.specs.Ops.{Ops}
use Rattle.part.specs.declared.levels.Levels.{Levels}
use Rattle.board.specs.Engine.{idle}
use Rattle.board.specs.Samples.{odd}
use Rattle.board.specs.declared.board.Board.{Board}
use Rattle.board.specs.declared.bus.Kind.TheVariants.{Address, Later}
use Rattle.board.specs.declared.bus.Next.TheVariants.{ThenGiven}
use Rattle.controller.specs.Bytes.{receive, start}
use Rattle.controller.specs.Bytes.{AllBytes}
use Rattle.controller.specs.Jobs.{receive_all, read_byte, write_byte, open_with, close, unless_refused, stop_refused, end_refused, addressing, sending, reading}
use Rattle.controller.specs.Master.{ended, ◌then◌, run}
use Rattle.controller.specs.Work.{given, done, on_ack, on_ok, begun, sent, addressed, fetched, on_idle, read as read_work}
use Rattle.controller.proofs.Bits.{taking, deaf, gone}
use Rattle.controller.proofs.Ends.{first_start, next_start, deaf_stop}
use Rattle.controller.proofs.ReceivedBytes.{coming, read_more, read_last}
use Rattle.controller.proofs.Runs.{onward}
use Rattle.controller.proofs.Sends.{closes}
use Rattle.controller.proofs.Settling.{sent_settles, addressed_settles, given_settles}
use Rattle.controller.proofs.WriteWork.{address_sent, all_sent, left}

-- an address byte for reading is odd
read_odd : (a : ℕ) → odd (read_byte a) ≡ true
read_odd a = eq-eqb (read_byte a % 2) 1 (omega arith)

read_small : (a : ℕ) → read_byte a < 256
read_small a = omega arith

module _ {S : Type 0} (ops : Ops S) (keeps : Keeps ops) (l : Levels) where
  -- the board after the address of a read: a byte is on its way, or the part is deaf
  abbrev asked : ℕ → Told (List ℕ) → S → Board S
  asked y (ok xs) s = gone ops l (ThenGiven y) s
  asked y (refused n p) s = deaf s

  abbrev asks : ℕ → S × Told (List ℕ) → Board S × Told (List ℕ)
  asks y w = (asked y w.1 w.0, w.1)

  -- and once a refusal has ended the read with its STOP
  abbrev going : ℕ → Told (List ℕ) → S → Board S
  going y (ok xs) s = gone ops l (ThenGiven y) s
  going y (refused n p) s = idle (ops.stop s false l)

  -- the address of a read, number n of the job, from a board on which START leads to the part t
  read_address : (n a : ℕ) (b : Board S) (t : S) (ack high : Bool) → Settled ops l t → run ops (start l) b ≡ (taking false Address t, high) → ops.hears t (read_byte a) ≡ ack →
      run ops (open_with l n (read_byte a)) b ≡ asks (read_byte a) (on_ack ack n done (ops.address t (read_byte a)))
  read_address n a b t true high settled started e = address_sent ops keeps l n (read_byte a) b t true high (read_small a) settled started e ∙ (rw (read_odd a) refl)
  read_address n a b t false high settled started e = address_sent ops keeps l n (read_byte a) b t false high (read_small a) settled started e

  -- after aim bytes, at a repeated START
  read_again : (n a y : ℕ) (t : Told (List ℕ)) (s : S) → Settled ops l s →
      run ops (unless_refused t (open_with l n (read_byte a))) (left (Later y) t s) ≡ asks (read_byte a) (on_ok t (begun ops l n (read_byte a) done) s)
  read_again n a y (ok xs) s settled =
      read_address n a (taking true (Later y) s) (ops.start s) (ops.hears (ops.start s) (read_byte a)) false (keeps.settles.after_start s l settled)
      (next_start ops keeps l s settled true (Later y)) refl
  read_again n a y (refused m p) s settled = refl

  address_run : (a : ℕ) (aim : List ℕ) (s : S) → AllBytes aim → run ops (addressing l a aim) (idle s) ≡ asks (read_byte a) (addressed ops l a aim (ops.level s l))
  unfolding addressing
  address_run a [] s small =
      let t : S = ops.start (ops.level s l) in
      let settled : Settled ops l t = keeps.settles.after_start (ops.level s l) l (keeps.settles.after_level s l) in
      read_address 0 a (idle s) t (ops.hears t (read_byte a)) false settled (first_start ops keeps l s) refl
  address_run a (x ∷ xs) s small =
      let t : S = ops.level s l in
      let settled : Settled ops l t = keeps.settles.after_level s l in
      let n : ℕ = 1 + length (x ∷ xs) in
      let w : S × Told (List ℕ) = sent ops l a (x ∷ xs) t in
      onward ops (sending l a (x ∷ xs)) (λ t. unless_refused t (open_with l n (read_byte a))) (idle s) (left (Later (write_byte a)) w.1 w.0) w.1
      (all_sent ops keeps l a (x ∷ xs) (idle s) t false small settled (first_start ops keeps l s))
      (read_again n a (write_byte a) w.1 w.0 (sent_settles ops keeps l a (x ∷ xs) t settled))

  -- a refusal ends with its STOP
  stops_refused : (y : ℕ) (t : Told (List ℕ)) (s : S) → Settled ops l s → run ops (stop_refused l t) (asked y t s) ≡ (going y t s, t)
  stops_refused y (ok xs) s settled = refl
  stops_refused y (refused n p) s settled = closes ops l (refused n p) (deaf s) (idle (ops.stop s false l)) (ap (λ r. r.0) (deaf_stop ops keeps l s settled))

  -- the bytes
  all_received : (y n : ℕ) (sda : Bool) (got : List ℕ) (s : S) → Settled ops l s →
      run ops (receive_all l (suc n) got) (coming ops l sda y s) ≡ (deaf (given ops l y (suc n) s).0, ok (got ++ (given ops l y (suc n) s).1))
  unfolding receive_all
  all_received y zero sda got s settled =
      onward ops (receive l false) (λ v. ended (ok (got ++ (v ∷ [])))) (coming ops l sda y s) (deaf (ops.give s y)) (ops.given s y % 256)
      (read_last ops l (ops.give s y) (keeps.settles.after_give s l y settled) y (ops.given s y) sda) refl
  all_received y (suc n) sda got s settled =
      let t : S = ops.give s y in
      let v : ℕ = ops.given s y % 256 in
      let given_later : S × List ℕ = given ops l y (suc n) t in
      let t_settled : Settled ops l t = keeps.settles.after_give s l y settled in
      let goes : run ops (receive l true then (λ v. receive_all l (suc n) (got ++ (v ∷ [])))) (coming ops l sda y s) ≡ (deaf given_later.0, ok (got ++ (v ∷ given_later.1))) =
      onward ops (receive l true) (λ v. receive_all l (suc n) (got ++ (v ∷ []))) (coming ops l sda y s) (coming ops l false y t) v
      (read_more ops l t t_settled y (ops.given s y) sda)
      (all_received y n false (got ++ (v ∷ [])) t t_settled ∙ (λ i. (deaf given_later.0, ok (append_assoc got (v ∷ []) given_later.1 i)))) in
      rw (lt-ltb 0 (suc n) (omega arith)) goes

  -- the bytes and the STOP
  finishes : (y n : ℕ) (t : Told (List ℕ)) (s : S) → Settled ops l s →
      run ops (unless_refused t (receive_all l (suc n) [] then close l)) (going y t s) ≡ on_idle (fetched ops l y (suc n) t s)
  finishes y n (ok xs) s settled =
      let r : S × List ℕ = given ops l y (suc n) s in
      onward ops (receive_all l (suc n) []) (close l) (gone ops l (ThenGiven y) s) (deaf r.0) (ok r.1)
      (all_received y n (not (not (odd (ops.given s y / 128)))) [] s settled)
      (closes ops l (ok r.1) (deaf r.0) (idle (ops.stop r.0 false l)) (ap (λ r. r.0) (deaf_stop ops keeps l r.0 (given_settles ops keeps l y (suc n) s settled))))
  finishes y n (refused m p) s settled = refl

  pub read_run : (a : ℕ) (aim : List ℕ) (n : ℕ) (s : S) → AllBytes aim → 1 ≤ n → run ops (reading l a aim n) (idle s) ≡ on_idle (read_work ops l a aim n s)
  unfolding reading end_refused read_work
  read_run a aim zero s small one = absurd (omega (arith, one))
  read_run a aim (suc n) s small one =
      let y : ℕ = read_byte a in
      let t : S = ops.level s l in
      let w : S × Told (List ℕ) = addressed ops l a aim t in
      let settled : Settled ops l w.0 = addressed_settles ops keeps l a aim t (keeps.settles.after_level s l) in
      onward ops (end_refused l (addressing l a aim)) (λ t. unless_refused t (receive_all l (suc n) [] then close l)) (idle s) (going y w.1 w.0) w.1
      (onward ops (addressing l a aim) (stop_refused l) (idle s) (asked y w.1 w.0) w.1 (address_run a aim s small) (stops_refused y w.1 w.0 settled))
      (finishes y n w.1 w.0 settled)
