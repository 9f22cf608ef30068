-- What the run of a read's bytes comes to.
use Rattle.std.proofs.Common.{◌≡◌, ℕ, suc, ◌+◌, ◌-◌, ◌<◌, ◌≤◌, Bool, true, false, ltb, List, [], ◌∷◌, ◌++◌, sym, refl, ap, ◌∙◌, subst, arith, ltb-false, ltb-true}
use Rattle.std.proofs.lemmas.Bool.{lt-ltb, le-ltb, le-leb}
use Rattle.refusals.specs.Told.{Told, ok, refused}
use Rattle.part.specs.Ops.{Ops}
use Rattle.part.specs.declared.levels.Levels.{Levels}
use Rattle.board.specs.declared.board.Board.{Board}
use Rattle.rows.specs.declared.row.Row.{Row}
use Rattle.controller.specs.Answers.{Answered, Into, Lasts, plain}
use Rattle.controller.specs.Master.{Master, ◌then◌, run}
use Rattle.controller.specs.Bytes.{receive, stop}
use Rattle.controller.specs.Jobs.{receive_all, reading, addressing, end_refused, unless_refused, close, with_room}
use Rattle.controller.proofs.Runs.{onward}
use Rattle.controller.proofs.Sends.{closes}

-- more is left to read exactly if the next byte is not the last
left_test : (a b : ℕ) → ltb 0 (b - a) ≡ ltb a b
left_test a b = by_test (ltb a b) refl
  where
    by_test : (t : Bool) → ltb a b ≡ t → ltb 0 (b - a) ≡ ltb a b
    by_test true e = let h : a < b = ltb-true a b e in lt-ltb 0 (b - a) (omega arith) ∙ sym e
    by_test false e = let h : b ≤ a = ltb-false a b e in le-ltb 0 (b - a) (omega arith) ∙ sym e

module _ {S : Type 0} (ops : Ops S) (l : Levels) where
  pub received_more : (n count v : ℕ) (got : List ℕ) (b c : Board S) {z : Board S × Told (List ℕ)} → n < count → run ops (receive l (ltb (n + 1) count)) b ≡ (c, v)
      → run ops (receive_all l (count - n) got) b ≡ z → run ops (receive_all l (count - (n + 1)) (got ++ (v ∷ []))) c ≡ z
  unfolding receive_all
  received_more n count v got b c {z} h e f =
      let q : count - n ≡ suc (count - (n + 1)) = omega arith in
      let f' : run ops (receive_all l (suc (count - (n + 1))) got) b ≡ z = rw q at f in
      let e' : run ops (receive l (ltb 0 (count - (n + 1)))) b ≡ (c, v) = rw (left_test (n + 1) count) e in
      sym (onward ops (receive l (ltb 0 (count - (n + 1)))) (λ v. receive_all l (count - (n + 1)) (got ++ (v ∷ []))) b c v e' refl) ∙ f'

  pub received_all : (n count : ℕ) (got : List ℕ) (b : Board S) {z : Board S × Told (List ℕ)} → count ≤ n → run ops (receive_all l (count - n) got) b ≡ z → z ≡ (b, ok got)
  unfolding receive_all
  received_all n count got b {z} h f =
      let q : count - n ≡ 0 = omega arith in
      let f' : run ops (receive_all l 0 got) b ≡ z = rw q at f in
      sym f'

  -- a whole read
  pub reads_all : (a n : ℕ) (aim got : List ℕ) (b c d e : Board S) → run ops (end_refused l (addressing l a aim)) b ≡ (c, ok [])
      → run ops (receive_all l n []) c ≡ (d, ok got) → (run ops (stop l) d).0 ≡ e → run ops (reading l a aim n) b ≡ (e, ok got)
  unfolding reading
  reads_all a n aim got b c d e p q r =
      onward ops (end_refused l (addressing l a aim)) (λ t. unless_refused t (receive_all l n [] then close l)) b c (ok []) p
      (onward ops (receive_all l n []) (close l) c d (ok got) q (closes ops l (ok got) d e r))

  pub reads_refused : (a n m p : ℕ) (aim : List ℕ) (b c : Board S) → run ops (end_refused l (addressing l a aim)) b ≡ (c, refused m p) → run ops (reading l a aim n) b ≡ (c, refused m p)
  unfolding reading
  reads_refused a n m p aim b c e =
      onward ops (end_refused l (addressing l a aim)) (λ t. unless_refused t (receive_all l n [] then close l)) b c (refused m p) e refl

  -- the address and the aim bytes by other names
  pub same_address : (a a' : ℕ) (xs xs' : List ℕ) (b : Board S) {z : Board S × Told (List ℕ)} → a ≡ a' → xs ≡ xs' → run ops (end_refused l (addressing l a xs)) b ≡ z
      → run ops (end_refused l (addressing l a' xs')) b ≡ z
  same_address a a' xs xs' b p q e =
      sym (ap (λ x. run ops (end_refused l (addressing l x xs)) b) p ∙ ap (λ ys. run ops (end_refused l (addressing l a' ys)) b) q) ∙ e

-- where the row has room the job is run
pub roomy_run : {S : Type 0} (ops : Ops S) (n room : ℕ) (m : Master (Told (List ℕ))) (b : Board S) {z : Board S × Told (List ℕ)} → n ≤ room → run ops m b ≡ z → run ops (with_room n room m) b ≡ z
roomy_run ops n room m b h e = rw (le-leb n room h) e

-- what a job leaves, from what its run comes to
pub into : {S : Type 0} (z : Board S × Told (List ℕ)) (b : Board S) (t : Told (List ℕ)) (before after : Row ℕ) → z ≡ (b, t) → Answered before t after → Into z b before after (plain t)
into z b t before after e h =
    record { board_is = sym (ap (λ r. r.0) e); row_is = subst (λ r. Answered before r.1 after) (sym e) h; answer_is = ap (λ r. plain r.1) (sym e) }

pub lasts : {S : Type 0} (n : ℕ) (z : Board S × Told (List ℕ)) (b : Board S) (t : Told (List ℕ)) → z ≡ (b, t) → Lasts n t → Lasts n z.1
lasts n z b t e h = subst (λ r. Lasts n r.1) (sym e) h
