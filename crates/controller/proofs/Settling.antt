-- After the work of a job the part still knows the levels of the lines: handed again, they change nothing.
use Rattle.std.proofs.Common.{ℕ, zero, suc, ◌+◌, Bool, true, false, List, [], ◌∷◌, length}
use Rattle.refusals.specs.Told.{Told, ok, refused}
use Rattle.part.specs.Keeps.{Keeps, Settled}
use Rattle.part.specs.Ops.{Ops}
use Rattle.part.specs.declared.levels.Levels.{Levels}
use Rattle.controller.specs.Jobs.{read_byte, write_byte}
use Rattle.controller.specs.Work.{on_ack, on_ok, done, later, bytes, begun, sent, given, addressed}

module _ {S : Type 0} (ops : Ops S) (keeps : Keeps ops) (l : Levels) where
  abbrev Settling : (S → S × Told (List ℕ)) → Type 0
  Settling go = (s : S) → Settled ops l s → Settled ops l (go s).0

  on_ack_settles : (ack : Bool) (n : ℕ) (go : S → S × Told (List ℕ)) → Settling go → Settling (on_ack ack n go)
  on_ack_settles true n go f s settled = f s settled
  on_ack_settles false n go f s settled = settled

  on_ok_settles : (t : Told (List ℕ)) (go : S → S × Told (List ℕ)) → Settling go → Settling (on_ok t go)
  on_ok_settles (ok xs) go f s settled = f s settled
  on_ok_settles (refused n p) go f s settled = settled

  later_settles : (y n : ℕ) (xs : List ℕ) → Settling (later ops l y n xs)
  later_settles y n [] s settled = settled
  later_settles y n (x ∷ xs) s settled =
      on_ack_settles (ops.takes s y l x) n (later ops l y (n + 1) xs) (later_settles y (n + 1) xs) (ops.take s y l x) (keeps.settles.after_take s l y x settled)

  bytes_settles : (y : ℕ) (xs : List ℕ) → Settling (bytes ops l y xs)
  bytes_settles y [] s settled = settled
  bytes_settles y (x ∷ xs) s settled =
      on_ack_settles (ops.aims s y l x) 1 (later ops l y 2 xs) (later_settles y 2 xs) (ops.aim s y l x) (keeps.settles.after_aim s l y x settled)

  begun_settles : (n y : ℕ) (go : S → S × Told (List ℕ)) → Settling go → Settling (begun ops l n y go)
  begun_settles n y go f s settled =
      let started : Settled ops l (ops.start s) = keeps.settles.after_start s l settled in
      on_ack_settles (ops.hears (ops.start s) y) n go f (ops.address (ops.start s) y) (keeps.settles.after_address (ops.start s) l y started)

  pub sent_settles : (a : ℕ) (xs : List ℕ) → Settling (sent ops l a xs)
  sent_settles a xs = begun_settles 0 (write_byte a) (bytes ops l (write_byte a) xs) (bytes_settles (write_byte a) xs)

  readdressed : (n a : ℕ) → Settling (begun ops l n (read_byte a) done)
  readdressed n a = begun_settles n (read_byte a) done (λ s settled. settled)

  pub addressed_settles : (a : ℕ) (aim : List ℕ) → Settling (addressed ops l a aim)
  addressed_settles a [] s settled = readdressed 0 a s settled
  addressed_settles a (x ∷ xs) s settled =
      let w : S × Told (List ℕ) = sent ops l a (x ∷ xs) s in
      let n : ℕ = 1 + length (x ∷ xs) in
      on_ok_settles w.1 (begun ops l n (read_byte a) done) (readdressed n a) w.0 (sent_settles a (x ∷ xs) s settled)

  pub given_settles : (y n : ℕ) (s : S) → Settled ops l s → Settled ops l (given ops l y n s).0
  given_settles y zero s settled = settled
  given_settles y (suc n) s settled = given_settles y n (ops.give s y) (keeps.settles.after_give s l y settled)
