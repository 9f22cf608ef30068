-- What the moves that the wires tell of are to an X9520 on the board. Assumes nothing.
use Rattle.std.proofs.Common.{◌≡◌, ℕ, suc, ◌^◌, ◌<◌, Bool, true, false, cond, List, [], ◌∷◌, length, eqb, Some, None, Option, refl, sym, ◌∙◌, subst, inl, inr}
use Rattle.std.proofs.lemmas.Bool.{and_parts, eqb-true}
use Rattle.part.specs.declared.levels.Levels.{Levels}
use Rattle.part.specs.Ops.{Ops}
use Rattle.part.specs.Keeps.{Keeps}
use Rattle.part.specs.Moves.{Move, starting, addressing, aiming, taking, levelling, stopping, giving as giving_byte, finishing, cutting, renewing, moved, after}
use Rattle.part.specs.Seats.{Seat, Mine}
use Rattle.part.proofs.Seated.{own, reached}
use Rattle.x9520.specs.declared.state.X9520.{X9520}
use Rattle.x9520.specs.Chip.{x9520}
use Rattle.x9520.proofs.Lock.{Guarded, Sendable, guarded_step}
use Rattle.x9520.proofs.Calm.{CalmMove, Calms, calm_same, calm_equal, calm_then, calm_move}
use Rattle.x9520.proofs.Waiting.{Waiting, waiting_step}
use Rattle.board.specs.Wires.{Edge, steady, started, stopped, rose, fell, Byte, Transfer, value, address, values}
use Rattle.board.specs.Runs.{told, offered}
use Rattle.board.proofs.Edges.{value_lt}

-- the address byte, by the values
abbrev pub addr : List ℕ → ℕ
addr [] = 0
addr (x ∷ []) = x
addr (x ∷ (y ∷ xs)) = addr (y ∷ xs)

pub addr_is : (bs : List Byte) → addr (values bs) ≡ address bs
addr_is [] = refl
addr_is (x ∷ []) = refl
addr_is (x ∷ (y ∷ bs)) = addr_is (y ∷ bs)

abbrev pub EachMove : (Move → Type 0) → List Move → Type 0
EachMove P [] = Unit {0}
EachMove P (m ∷ ms) = P m × EachMove P ms

module _ {S : Type 0} (ops : Ops S) (keeps : Keeps ops) (number : S → ℕ) (see : S → X9520) (seat : Seat ops x9520 number see) where
  abbrev pub My : S → ℕ → Type 0
  My s n = Mine ops x9520 number see s n

  own_sendable : (m : Move) → Sendable m → Sendable (own m)
  own_sendable starting h = h
  own_sendable (addressing x) h = h
  own_sendable (aiming a l x) h = h
  own_sendable (taking a l x) h = h
  own_sendable (giving_byte a) h = h
  own_sendable (levelling l) h = h
  own_sendable (stopping clean l) h = h
  own_sendable (finishing k) h = tt
  own_sendable (cutting p) h = h
  own_sendable renewing h = h

  own_calm : (m : Move) → Calms m → Calms (own m)
  own_calm starting h = h
  own_calm (addressing x) h = h
  own_calm (aiming a l x) h = h
  own_calm (taking a l x) h = h
  own_calm (giving_byte a) h = h
  own_calm (levelling l) h = h
  own_calm (stopping clean l) h = absurd h
  own_calm (finishing k) h = absurd h
  own_calm (cutting p) h = absurd h
  own_calm renewing h = absurd h

  pub guarded_after : (ms : List Move) (s : S) → EachMove Sendable ms → Guarded (see s) → Guarded (see (after ops s ms))
  guarded_after [] s h g = g
  guarded_after (m ∷ ms) s h g = guarded_after ms (moved ops s m) h.1 (elim (reached ops x9520 number see seat s m) [
    | inl e ↦ subst Guarded (sym e) (guarded_step (see s) (own m) (own_sendable m h.0) g)
    | inr (inl e) ↦ subst Guarded (sym e) g
    | inr (inr e) ↦ subst Guarded (sym e) (guarded_step (see s) starting tt g)
  ])

  pub waiting_after : (ms : List Move) (s : S) → Waiting (see s) → Waiting (see (after ops s ms))
  waiting_after [] s h = h
  waiting_after (m ∷ ms) s h = waiting_after ms (moved ops s m) (elim (reached ops x9520 number see seat s m) [
    | inl e ↦ subst Waiting (sym e) (waiting_step (see s) (own m) h)
    | inr (inl e) ↦ subst Waiting (sym e) h
    | inr (inr e) ↦ subst Waiting (sym e) (waiting_step (see s) starting h)
  ])

  pub calm_after : (ms : List Move) (s : S) → EachMove Calms ms → CalmMove (see s) (see (after ops s ms))
  calm_after [] s h = calm_same (see s)
  calm_after (m ∷ ms) s h = calm_then _ _ _ (elim (reached ops x9520 number see seat s m) [
    | inl e ↦ subst (CalmMove (see s)) (sym e) (calm_move (see s) (own m) (own_calm m h.0))
    | inr (inl e) ↦ calm_equal (see s) _ e
    | inr (inr e) ↦ subst (CalmMove (see s)) (sym e) (calm_move (see s) starting tt)
  ]) (calm_after ms (moved ops s m) h.1)

  -- its number stays, and so does what it owns
  pub number_after : (ms : List Move) (s : S) → number (after ops s ms) ≡ number s
  number_after [] s = refl
  number_after (m ∷ ms) s = number_after ms (moved ops s m) ∙ seat.fixed s m

-- what an edge tells is sent in eight bits, and is calm where it is no STOP
offered_sendable : (l : Levels) (bs : List Byte) (x : ℕ) → x < 256 → Sendable (offered l bs x)
offered_sendable l [] x h = tt
offered_sendable l (a ∷ []) x h = h
offered_sendable l (y ∷ (z ∷ bs)) x h = tt

offered_calm : (l : Levels) (bs : List Byte) (x : ℕ) → Calms (offered l bs x)
offered_calm l [] x = tt
offered_calm l (a ∷ []) x = tt
offered_calm l (y ∷ (z ∷ bs)) x = tt

eight_bits : (w : Bool) (bits : List Bool) → length bits ≡ 7 → value (w ∷ bits) < 256
eight_bits w bits e = let h : value (w ∷ bits) < 2 ^ suc (length bits) = value_lt (w ∷ bits) in subst (λ n. value (w ∷ bits) < 2 ^ suc n) e h

maybe_each : (P : Move → Type 0) (q : Bool) (m : Move) → (q ≡ true → P m) → EachMove P (cond q (m ∷ []) [])
maybe_each P true m h = (h refl, tt)
maybe_each P false m h = tt

pub told_sendable : (e : Edge) (l : Levels) (o : Option Transfer) → EachMove Sendable (told e l o)
told_sendable steady l o = tt
told_sendable started l o = (tt, tt)
told_sendable stopped l o = (tt, tt)
told_sendable (rose w) l None = tt
told_sendable (rose w) l (Some t) = maybe_each Sendable _ _ (λ q. offered_sendable l t.bytes _ (eight_bits w t.bits (eqb-true _ 7 (and_parts (eqb (length t.bits) 7) _ q).0)))
told_sendable fell l None = tt
told_sendable fell l (Some t) = maybe_each Sendable _ _ (λ q. tt)

pub told_calm : (e : Edge) (l : Levels) (o : Option Transfer) → (e ≡ stopped → ⊥) → EachMove Calms (told e l o)
told_calm steady l o n = tt
told_calm started l o n = (tt, tt)
told_calm stopped l o n = absurd (n refl)
told_calm (rose w) l None n = tt
told_calm (rose w) l (Some t) n = maybe_each Calms _ _ (λ q. offered_calm l t.bytes _)
told_calm fell l None n = tt
told_calm fell l (Some t) n = maybe_each Calms _ _ (λ q. tt)
