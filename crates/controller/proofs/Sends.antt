-- What the runs of the jobs come to, from the runs of their pieces.
use Rattle.std.proofs.Common.{◌≡◌, ℕ, suc, ◌+◌, ◌-◌, ◌<◌, ◌≤◌, Bool, true, false, List, [], ◌∷◌, length, get_or, drop, Ok, Err, Result, is_ok, is_err, sym, refl, ap, ◌∙◌, arith}
use borrow.Author.Tests.{clash}
use Rattle.refusals.specs.declared.Refusal.{Refusal}
use Rattle.refusals.specs.Told.{Told, ok, refused, told, number, place}
use Rattle.part.specs.Ops.{Ops}
use Rattle.part.specs.declared.levels.Levels.{Levels}
use Rattle.board.specs.declared.board.Board.{Board}
use Rattle.controller.specs.Master.{ended, ◌then◌, run}
use Rattle.controller.specs.Bytes.{start, stop, send}
use Rattle.controller.specs.Transfers.{Sent}
use Rattle.controller.specs.Jobs.{acked, unless_refused, send_one, send_all, open_with, close, write_byte, read_byte, stop_refused, end_refused, sending, addressing, writing, unless_ready, waiting}
use Rattle.std.proofs.lemmas.List.{at_drop_more, at_drop_all}
use Rattle.controller.proofs.Runs.{onward}

-- nothing is said of the count where a byte got no ACK
pub uncounted : (n count : ℕ) (r : Result (Unit {0}) Refusal) → is_err r ≡ true → Sent n count r
uncounted n count (Ok x) t = absurd (clash t)
uncounted n count (Err y) t = tt

module _ {S : Type 0} (ops : Ops S) (l : Levels) where
  pub one_sent : (n x : ℕ) (b c : Board S) (ack : Bool) {t : Told (List ℕ)} → run ops (send l x) b ≡ (c, ack) → acked n ack ≡ t → run ops (send_one l n x) b ≡ (c, t)
  unfolding send_one
  one_sent n x b c ack e f = onward ops (send l x) (λ ack. ended (acked n ack)) b c ack e (λ i. (c, f i))

  pub opens : (n x : ℕ) (b c d : Board S) (r : Bool) (t : Told (List ℕ)) → run ops (start l) b ≡ (c, r) → run ops (send_one l n x) c ≡ (d, t) → run ops (open_with l n x) b ≡ (d, t)
  unfolding open_with
  opens n x b c d r t e f = onward ops (start l) (λ _. send_one l n x) b c r e f

  -- one more of some bytes, with its ACK
  pub all_more : (n m i : ℕ) (xs : List ℕ) (b c : Board S) (r : Result (Unit {0}) Refusal) {z : Board S × Told (List ℕ)} → m ≡ n + 1 → i < length xs → is_err r ≡ false →
      run ops (send_one l n (get_or xs i 0)) b ≡ (c, told (λ _. []) r) → run ops (send_all l n (drop i xs)) b ≡ z → run ops (send_all l m (drop (i + 1) xs)) c ≡ z
  unfolding send_all
  all_more n m i xs b c (Ok x) {z} next h t e f =
      let more : run ops (send_all l (n + 1) (drop (i + 1) xs)) c ≡ z =
      sym (onward ops (send_one l n (get_or xs i 0)) (λ t. unless_refused t (send_all l (n + 1) (drop (i + 1) xs))) b c (ok []) e refl)
      ∙ sym (ap (λ m. run ops m b) (at_drop_more (send_all l n) xs i 0 h))
      ∙ f in
      rw next more
  all_more n m i xs b c (Err y) next h t e f = absurd (clash (sym t))

  -- the byte without an ACK ends them
  pub all_refused : (n i : ℕ) (xs : List ℕ) (b c : Board S) (r : Result (Unit {0}) Refusal) {z : Board S × Told (List ℕ)} → i < length xs → is_err r ≡ true
      → run ops (send_one l n (get_or xs i 0)) b ≡ (c, told (λ _. []) r) → run ops (send_all l n (drop i xs)) b ≡ z → z ≡ (c, told (λ _. []) r)
  unfolding send_all
  all_refused n i xs b c (Ok x) h t e f = absurd (clash t)
  all_refused n i xs b c (Err y) h t e f =
      sym f
      ∙ ap (λ m. run ops m b) (at_drop_more (send_all l n) xs i 0 h)
      ∙ onward ops (send_one l n (get_or xs i 0)) (λ t. unless_refused t (send_all l (n + 1) (drop (i + 1) xs))) b c (refused (number y) (place y)) e refl

  pub all_sent : (n i : ℕ) (xs : List ℕ) (b : Board S) {z : Board S × Told (List ℕ)} → length xs ≤ i → run ops (send_all l n (drop i xs)) b ≡ z → z ≡ (b, ok [])
  unfolding send_all
  all_sent n i xs b h f = sym f ∙ ap (λ m. run ops m b) (at_drop_all (send_all l n) xs i h)

  -- START, the write address and the bytes
  pub sends : (a : ℕ) (xs : List ℕ) (b c d : Board S) (r : Result (Unit {0}) Refusal) (t : Told (List ℕ)) → is_err r ≡ false
      → run ops (open_with l 0 (write_byte a)) b ≡ (c, told (λ _. []) r) → run ops (send_all l 1 xs) c ≡ (d, t) → run ops (sending l a xs) b ≡ (d, t)
  unfolding sending
  sends a xs b c d (Ok x) t h e f = onward ops (open_with l 0 (write_byte a)) (λ t. unless_refused t (send_all l 1 xs)) b c (ok []) e f
  sends a xs b c d (Err y) t h e f = absurd (clash (sym h))

  pub sends_refused : (a : ℕ) (xs : List ℕ) (b c : Board S) (r : Result (Unit {0}) Refusal) → is_err r ≡ true
      → run ops (open_with l 0 (write_byte a)) b ≡ (c, told (λ _. []) r) → run ops (sending l a xs) b ≡ (c, told (λ _. []) r)
  unfolding sending
  sends_refused a xs b c (Ok x) h e = absurd (clash h)
  sends_refused a xs b c (Err y) h e = onward ops (open_with l 0 (write_byte a)) (λ t. unless_refused t (send_all l 1 xs)) b c (refused (number y) (place y)) e refl

  -- STOP, and the answer
  pub closes : (t : Told (List ℕ)) (b c : Board S) → (run ops (stop l) b).0 ≡ c → run ops (close l t) b ≡ (c, t)
  unfolding close
  closes t b c e = onward ops (stop l) (λ _. ended t) b _ _ refl (λ i. (e i, t))

  pub writes : (a : ℕ) (xs : List ℕ) (b c d : Board S) (t : Told (List ℕ)) → run ops (sending l a xs) b ≡ (c, t) → (run ops (stop l) c).0 ≡ d → run ops (writing l a xs) b ≡ (d, t)
  unfolding writing
  writes a xs b c d t e f = onward ops (sending l a xs) (close l) b c t e (closes t c d f)

  -- one poll more of a wait, which got no ACK
  pub wait_more : (a n polls : ℕ) (b c : Board S) (r : Result (Unit {0}) Refusal) {z : Board S × Told (List ℕ)} → n < polls → is_ok r ≡ false
      → run ops (writing l a []) b ≡ (c, told (λ _. []) r) → run ops (waiting l a (polls - n)) b ≡ z → run ops (waiting l a (polls - (n + 1))) c ≡ z
  unfolding waiting
  wait_more a n polls b c (Ok x) {z} h t e f = absurd (clash (sym t))
  wait_more a n polls b c (Err y) {z} h t e f =
      let q : polls - n ≡ suc (polls - (n + 1)) = omega arith in
      let f' : run ops (waiting l a (suc (polls - (n + 1)))) b ≡ z = rw q at f in
      sym (onward ops (writing l a []) (λ t. unless_ready t (waiting l a (polls - (n + 1)))) b c (refused (number y) (place y)) e refl) ∙ f'

  pub wait_ready : (a n polls : ℕ) (b c : Board S) (r : Result (Unit {0}) Refusal) {z : Board S × Told (List ℕ)} → n < polls → is_ok r ≡ true
      → run ops (writing l a []) b ≡ (c, told (λ _. []) r) → run ops (waiting l a (polls - n)) b ≡ z → z ≡ (c, ok [])
  unfolding waiting
  wait_ready a n polls b c (Ok x) {z} h t e f =
      let q : polls - n ≡ suc (polls - (n + 1)) = omega arith in
      let f' : run ops (waiting l a (suc (polls - (n + 1)))) b ≡ z = rw q at f in
      sym f' ∙ onward ops (writing l a []) (λ t. unless_ready t (waiting l a (polls - (n + 1)))) b c (ok []) e refl
  wait_ready a n polls b c (Err y) {z} h t e f = absurd (clash t)

  pub wait_over : (a n polls : ℕ) (b : Board S) {z : Board S × Told (List ℕ)} → polls ≤ n → run ops (waiting l a (polls - n)) b ≡ z → z ≡ (b, refused 10 0)
  unfolding waiting
  wait_over a n polls b {z} h f =
      let q : polls - n ≡ 0 = omega arith in
      let f' : run ops (waiting l a 0) b ≡ z = rw q at f in
      sym f'

  -- a read with no aim bytes
  pub reads_directly : (a : ℕ) (xs : List ℕ) (b c : Board S) (t : Told (List ℕ)) {z : Board S × Told (List ℕ)} → length xs ≡ 0
      → run ops (open_with l 0 (read_byte a)) b ≡ (c, t) → run ops (stop_refused l t) c ≡ z → run ops (end_refused l (addressing l a xs)) b ≡ z
  unfolding addressing end_refused
  reads_directly a [] b c t h e f = onward ops (open_with l 0 (read_byte a)) (stop_refused l) b c t e f
  reads_directly a (x ∷ xs) b c t h e f = let none : ⊥ = omega arith in absurd none

  -- a read after aim bytes
  pub reads_aimed : (a : ℕ) (xs : List ℕ) (b c d : Board S) (t : Told (List ℕ)) {z : Board S × Told (List ℕ)} → (length xs ≡ 0 → ⊥)
      → run ops (sending l a xs) b ≡ (c, ok []) → run ops (open_with l (1 + length xs) (read_byte a)) c ≡ (d, t) → run ops (stop_refused l t) d ≡ z
      → run ops (end_refused l (addressing l a xs)) b ≡ z
  unfolding addressing end_refused
  reads_aimed a [] b c d t h e f g = absurd (h refl)
  reads_aimed a (x ∷ xs) b c d t h e f g =
      onward ops (sending l a (x ∷ xs) then (λ t. unless_refused t (open_with l (1 + length (x ∷ xs)) (read_byte a)))) (stop_refused l) b d t
      (onward ops (sending l a (x ∷ xs)) (λ t. unless_refused t (open_with l (1 + length (x ∷ xs)) (read_byte a))) b c (ok []) e f) g

  -- an aim byte without an ACK
  pub aim_refused : (a n p : ℕ) (xs : List ℕ) (b c d : Board S) → (length xs ≡ 0 → ⊥) → run ops (sending l a xs) b ≡ (c, refused n p) → (run ops (stop l) c).0 ≡ d
      → run ops (end_refused l (addressing l a xs)) b ≡ (d, refused n p)
  unfolding addressing end_refused
  aim_refused a n p [] b c d h e f = absurd (h refl)
  aim_refused a n p (x ∷ xs) b c d h e f =
      onward ops (sending l a (x ∷ xs) then (λ t. unless_refused t (open_with l (1 + length (x ∷ xs)) (read_byte a)))) (stop_refused l) b c (refused n p)
      (onward ops (sending l a (x ∷ xs)) (λ t. unless_refused t (open_with l (1 + length (x ∷ xs)) (read_byte a))) b c (refused n p) e refl)
      (closes (refused n p) c d f)
