-- What the contracts of the jobs say of idle wires, from the runs of their masters.
use Rattle.std.proofs.Common.{◌≡◌, ℕ, zero, suc, ◌<◌, ◌≤◌, Bool, true, false, cond, leb, List, [], sym, refl, ap, ◌∙◌, subst}
use Rattle.std.proofs.lemmas.Bool.{lt-leb}
use Rattle.refusals.specs.Told.{Told, ok, refused}
use Rattle.part.specs.Keeps.{Keeps}
use Rattle.part.specs.Ops.{Ops}
use Rattle.part.specs.declared.levels.Levels.{Levels}
use Rattle.board.specs.Engine.{idle}
use Rattle.board.specs.declared.board.Board.{Board}
use Rattle.rows.specs.declared.row.Row.{Row}
use Rattle.controller.specs.Answers.{Into}
use Rattle.controller.specs.Bytes.{AllBytes}
use Rattle.controller.specs.Jobs.{writing, reading, unless_ready, waiting, with_room as with_room_given}
use Rattle.controller.specs.Master.{ended, run}
use Rattle.controller.specs.Work.{written, polled, with_room, on_idle, Works, WorksInto, read as read_work, unless_ready as unless_ready_work}
use Rattle.controller.proofs.AllBytes.{no_bytes}
use Rattle.controller.proofs.ReadWork.{read_run}
use Rattle.controller.proofs.Runs.{onward}
use Rattle.controller.proofs.WriteWork.{write_work}

module _ {S : Type 0} (ops : Ops S) (keeps : Keeps ops) (l : Levels) where
  pub write_works : (a : ℕ) (xs : List ℕ) (b c : Board S) (t : Told (List ℕ)) → AllBytes xs → run ops (writing l a xs) b ≡ (c, t) → Works (written ops l a xs) b c t
  unfolding Works
  write_works a xs b c t small e s is = sym e ∙ ap (run ops (writing l a xs)) is ∙ write_work ops keeps l a xs s small

  -- a wait, poll after poll
  poll_more : (a n : ℕ) (t : Told (List ℕ)) (s : S) → ((s : S) → run ops (waiting l a n) (idle s) ≡ on_idle (polled ops l a n s)) →
      run ops (unless_ready t (waiting l a n)) (idle s) ≡ on_idle (unless_ready_work ops l t (polled ops l a n) s)
  poll_more a n (ok xs) s f = refl
  poll_more a n (refused m p) s f = f s

  poll_run : (a n : ℕ) (s : S) → run ops (waiting l a n) (idle s) ≡ on_idle (polled ops l a n s)
  unfolding waiting polled
  poll_run a zero s = refl
  poll_run a (suc n) s =
      onward ops (writing l a []) (λ t. unless_ready t (waiting l a n)) (idle s) (idle (written ops l a [] s).0) (written ops l a [] s).1 (write_work ops keeps l a [] s no_bytes)
      (poll_more a n (written ops l a [] s).1 (written ops l a [] s).0 (poll_run a n))

  pub wait_works : (a m x n : ℕ) (b c : Board S) (t : Told (List ℕ)) → a ≡ m → x ≡ n → run ops (waiting l a x) b ≡ (c, t) → Works (polled ops l m n) b c t
  unfolding Works
  wait_works a m x n b c t p q e s is = sym e ∙ ap (run ops (waiting l a x)) is ∙ poll_run a x s ∙ (λ i. on_idle (polled ops l (p i) (q i) s))

  -- a read, where the row has room
  read_fits : (fits : Bool) (a : ℕ) (aim : List ℕ) (n : ℕ) (s : S) → AllBytes aim → 1 ≤ n →
      run ops (cond fits (reading l a aim n) (ended (refused 9 0))) (idle s) ≡ on_idle (cond fits (read_work ops l a aim n s) (s, refused 9 0))
  read_fits true a aim n s small one = read_run ops keeps l a aim n s small one
  read_fits false a aim n s small one = refl

  pub read_works : (a room : ℕ) (aim : List ℕ) (n : ℕ) (b c : Board S) (before after : Row ℕ) (t : Told (Unit {0})) → AllBytes aim → 1 ≤ n →
      Into (run ops (with_room_given n room (reading l a aim n)) b) c before after t → WorksInto (with_room n room (read_work ops l a aim n)) b c before after t
  unfolding WorksInto
  read_works a room aim n b c before after t small one e s is =
      subst (λ z. Into z c before after t) (ap (run ops (with_room_given n room (reading l a aim n))) is ∙ read_fits (leb n room) a aim n s small one) e

  pub no_room_works : (n room : ℕ) (go : S → S × Told (List ℕ)) (b : Board S) (row : Row ℕ) → room < n → WorksInto (with_room n room go) b b row row (refused 9 0)
  unfolding WorksInto
  no_room_works n room go b row h s is = rw (lt-leb n room h) (record { board_is = is; row_is = refl; answer_is = refl })
