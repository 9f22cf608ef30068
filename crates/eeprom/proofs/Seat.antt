-- A chip that is the one numbered part sits in itself, directly. Assumes nothing.
use Rattle.std.proofs.Common.{ℕ, refl, inl, inr, arith}
use Rattle.std.proofs.lemmas.Bool.{ne_eqb}
use Rattle.part.specs.Seats.{Seat, Itself}
use Rattle.eeprom.specs.OnePart.{OnePart, part_of}
use Rattle.eeprom.proofs.OnePart.{OwnMoves}

module _ {S : Type 0} {N : ℕ} (c : OnePart S N) (m : OwnMoves c) where
  seat : Seat (part_of c) (part_of c) (λ s. 0) (λ s. s)
  seat = record {
    shown = λ s. record {
      within = omega arith;
      cells = refl;
      wipers = refl;
      offset = λ i. refl;
      cell = λ i. refl;
      staged = λ i. refl;
      under_way = λ i. refl;
      busy = refl;
      tap = λ j. refl;
    };
    fixed = λ s n. refl;
    start = λ s. refl;
    level = λ s l. refl;
    stop = λ s clean l. refl;
    cut = λ s p. refl;
    renew = λ s. refl;
    finish = λ s. refl;
    finish_other = λ s k d. rw (ne_eqb k 0 d) (m.put_back s);
    address = λ s x h. inl (refl, refl);
    aim = λ s a l x h. inl (refl, refl);
    take = λ s a l x h. inl (refl, refl);
    give = λ s a h. inl (refl, refl);
    address_other = λ s x d. inr (refl, d);
    aim_other = λ s a l x d. inr (refl, d);
    take_other = λ s a l x d. inr (refl, d);
    give_other = λ s a d. inr (refl, d);
  }

  pub sits_itself : Itself (part_of c)
  sits_itself = record {
    seat = seat;
    address = λ s x h. (refl, refl);
    aim = λ s a l x h. (refl, refl);
    take = λ s a l x h. (refl, refl);
    give = λ s a h. (refl, refl);
  }
