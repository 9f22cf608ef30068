-- The DCPs and the register of an X9520 take one data byte at most.
use Rattle.std.proofs.Common.{◌≡◌, ℕ, Bool, true, false, cond, eqb, List, [], ◌∷◌, refl}
use Rattle.std.proofs.lemmas.Bool.{both_ways}
use Rattle.refusals.specs.Told.{Told, ok}
use Rattle.part.specs.declared.levels.Levels.{Levels}
use Rattle.x9520.specs.Chip.{x9520}
use Rattle.x9520.specs.Writing.{Verdict, refused, barred, pages, moves, latches, stores, verdict, acks, taken}
use Rattle.x9520.specs.declared.state.X9520.{X9520}
use Rattle.storage.specs.Storing.{AtMostOne}
use Rattle.controller.specs.Work.{on_ack, later}

-- in an accepted job each byte got its ACK
acked_if : (ack : Bool) (n : ℕ) (go : X9520 → X9520 × Told (List ℕ)) (s : X9520) → (on_ack ack n go s).1 ≡ ok [] → ack ≡ true
acked_if true n go s h = refl
acked_if false n go s h = cc

not_acked : (b : Bool) → acks (cond b refused refused) ≡ false
not_acked true = refl
not_acked false = refl

-- Under the address byte y, which is not the memory's, no byte is taken after a data byte, whatever became of that.
spent : (y : ℕ) → eqb 160 y ≡ false → (v : Verdict) (s : X9520) (l : Levels) (x z : ℕ) → x9520.takes (taken v s x) y l z ≡ false
spent y other refused s l x z = refl
spent y other barred s l x z = refl
spent y other pages s l x z = rw other refl
spent y other (moves store) s l x z = not_acked (eqb 174 y)
spent y other latches s l x z = not_acked (eqb 164 y)
spent y other stores s l x z = not_acked (eqb 164 y)

-- a chip that awaits data bytes, and takes one of which Takes holds
module _ (l : Levels) (y : ℕ) (s : X9520) {Takes : ℕ → Type 0} where
  pub takes_one : ((x : ℕ) → Takes x → x9520.takes s y l x ≡ true) → (ds : List ℕ) → AtMostOne Takes ds → (later x9520 l y 2 ds s).1 ≡ ok []
  takes_one takes [] h = refl
  takes_one takes (x ∷ []) h = rw (takes x h) refl
  takes_one takes (x ∷ (z ∷ zs)) h = absurd h

  pub takes_one_only : eqb 160 y ≡ false → ((x : ℕ) → x9520.takes s y l x ≡ true → Takes x) → (ds : List ℕ) → (later x9520 l y 2 ds s).1 ≡ ok [] → AtMostOne Takes ds
  takes_one_only other only [] h = tt
  takes_one_only other only (x ∷ []) h = only x (acked_if (x9520.takes s y l x) 2 (later x9520 l y 3 []) (x9520.take s y l x) h)
  takes_one_only other only (x ∷ (z ∷ zs)) h =
      let t = x9520.take s y l x in
      let first = rw (acked_if (x9520.takes s y l x) 2 (later x9520 l y 3 (z ∷ zs)) t h) at h in
      let second = acked_if (x9520.takes t y l z) 3 (later x9520 l y 4 zs) (x9520.take t y l z) first in
      both_ways _ (spent y other (verdict s y l.wp x) s l x z) second
