-- An X9520 in the part of a board is sound in every state of every run since the board was made.
use Rattle.std.proofs.Common.{◌≡◌, ℕ, zero, suc, ◌<◌, ◌⊎◌, List, [], ◌∷◌, length, sym, refl, subst, inl, inr, lit<}
use Rattle.part.specs.Keeps.{Keeps}
use Rattle.part.specs.Moves.{Move, starting, moved, after}
use Rattle.part.specs.Ops.{Ops}
use Rattle.part.specs.Seats.{Seat}
use Rattle.part.proofs.Seated.{own, reached}
use Rattle.x9520.specs.Chip.{x9520}
use Rattle.x9520.specs.Sound.{Sound}
use Rattle.x9520.specs.State.{factory}
use Rattle.x9520.specs.declared.state.X9520.{X9520}
use Rattle.x9520.proofs.Standing.{Stands, powered_stands, step, sound}
use Rattle.board.specs.Engine.{idle}
use Rattle.board.specs.Runs.{state, moves_at, call_at, Leads}
use Rattle.board.specs.declared.board.Board.{Board}
use Rattle.board.specs.declared.bus.Phase.TheVariants.{Closed}
use Rattle.board.specs.declared.call.Call.{Call}
use Rattle.board.proofs.Running.{steps}
use Rattle.storage.specs.Storing.{Made}

-- what makes it sound is kept by each of its moves
abbrev Standing : X9520 → Type 0
Standing c = Stands c.dcps × (c.named < 3)

by_reached : (c d : X9520) (m : Move) → (d ≡ moved x9520 c m) ⊎ ((d ≡ c) ⊎ (d ≡ x9520.start c)) → Standing c → Standing d
by_reached c d m (inl e) h = subst Standing (sym e) (step c m h)
by_reached c d m (inr (inl e)) h = subst Standing (sym e) h
by_reached c d m (inr (inr e)) h = subst Standing (sym e) (step c starting h)

module _ {S : Type 0} (ops : Ops S) (keeps : Keeps ops) (number : S → ℕ) (see : S → X9520) (seat : Seat ops x9520 number see) where
  -- each move of the part reaches the chip as one of its own, or leaves it untouched, or as after a START
  stands_move : (s : S) (m : Move) → Standing (see s) → Standing (see (moved ops s m))
  stands_move s m = by_reached (see s) _ (own m) (reached ops x9520 number see seat s m)

  stands_after : (ms : List Move) (s : S) → Standing (see s) → Standing (see (after ops s ms))
  stands_after [] s h = h
  stands_after (m ∷ ms) s h = stands_after ms (moved ops s m) (stands_move s m h)

  stands_at : (b : Board S) (calls : ℕ → Call) → b.bus.phase ≡ Closed → Standing (see b.part) → (n : ℕ) → Standing (see (state ops b calls n).part)
  stands_at b calls closed h zero = h
  stands_at b calls closed h (suc n) =
      subst (λ s. Standing (see s)) (sym (steps ops b calls closed n).part)
      (stands_after (moves_at ops b calls n) _ (stands_at b calls closed h n))

  stands_led : (b c : Board S) (calls : List Call) → b.bus.phase ≡ Closed → Standing (see b.part) → Leads ops b calls c → Standing (see c.part)
  unfolding Leads
  stands_led b c calls closed h e = subst (λ d. Standing (see d.part)) (sym e) (stands_at b (call_at calls) closed h (length calls))

  pub made_sound : (b : Board S) → Made ops b → Sound (see b.part)
  made_sound b (p, calls, e) =
      let h = stands_led (idle (ops.renew p)) b calls refl (subst Standing (sym (seat.renew p)) (powered_stands factory, lit< tt)) e in
      sound (see b.part) h.0 h.1
