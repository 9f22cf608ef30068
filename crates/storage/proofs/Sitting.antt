-- The work of a job on a part is, for a chip that sits directly in it and whose number owns the address, the same work on the chip;
-- and what the part is asked of it afterwards is asked of the chip.
use Rattle.std.proofs.Common.{◌≡◌, ℕ, zero, suc, ◌+◌, ◌/◌, ◌%◌, ◌<◌, Bool, true, false, cond, List, [], ◌∷◌, length, Some, sym, refl, ap, ◌∙◌, subst, arith}
use borrow.Author.Tests.{clash}
use Rattle.std.proofs.lemmas.Bool.{lt-ltb}
use Rattle.refusals.specs.Told.{Told, ok, refused}
use Rattle.part.specs.Keeps.{Keeps}
use Rattle.part.specs.Moves.{Move, starting, addressing, aiming, taking, giving, levelling, stopping, finishing, cutting, renewing, moved}
use Rattle.part.specs.Ops.{Ops}
use Rattle.part.specs.Seats.{Direct, Mine, Shown}
use Rattle.part.specs.declared.levels.Levels.{Levels}
use Rattle.board.specs.Engine.{finish_by, numbered, finished}
use Rattle.board.specs.declared.board.Board.{Board}
use Rattle.controller.specs.Jobs.{write_byte, read_byte}
use Rattle.controller.specs.Work.{on_ack, on_ok, done, is_ok, later, bytes, begun, sent, closed, written, given, addressed, fetched, read}
use Rattle.storage.proofs.Over.{over}

-- both address bytes of an address are its own
write_half : (a : ℕ) → write_byte a / 2 ≡ a % 128
write_half a = omega arith

read_half : (a : ℕ) → read_byte a / 2 ≡ a % 128
read_half a = omega arith

-- a chip in a part: its number, and the function that shows it
pub record Sits {S C : Type 0} (ops : Ops S) (chip : Ops C) : Type 0 where
  pub keeps : Keeps ops
  pub number : S → ℕ
  pub see : S → C
  pub direct : Direct ops chip number see

abbrev pub sitting : {S C : Type 0} {ops : Ops S} {chip : Ops C} {number : S → ℕ} {see : S → C} → Keeps ops → Direct ops chip number see → Sits ops chip
sitting {number = number} {see = see} keeps direct = record { keeps = keeps; number = number; see = see; direct = direct }

module _ {S C : Type 0} {ops : Ops S} {chip : Ops C} (sits : Sits ops chip) where
  -- the chip's number, and who owns an address, are in t as in s
  pub record Same (s t : S) : Type 0 where
    pub number_is : sits.number t ≡ sits.number s
    pub owner : (n : ℕ) → ops.owner t n ≡ ops.owner s n

  pub same : (s : S) → Same s s
  same s = record { number_is = refl; owner = λ n. refl }

  pub same_then : {s t u : S} → Same s t → Same t u → Same s u
  same_then p q = record { number_is = q.number_is ∙ p.number_is; owner = λ n. q.owner n ∙ p.owner n }

  -- no move changes either
  owner_moved : (s : S) (m : Move) (n : ℕ) → ops.owner (moved ops s m) n ≡ ops.owner s n
  owner_moved s starting = (sits.keeps.starts s).calm.fixed.owner
  owner_moved s (addressing x) = (sits.keeps.addresses s x).fixed.owner
  owner_moved s (aiming a l x) = (sits.keeps.aiming s a l x).calm.fixed.owner
  owner_moved s (taking a l x) = (sits.keeps.taking s a l x).fixed.owner
  owner_moved s (giving a) = (sits.keeps.gives s a).calm.fixed.owner
  owner_moved s (levelling l) = (sits.keeps.levels s l).calm.fixed.owner
  owner_moved s (stopping clean l) = (sits.keeps.stops s clean l).fixed.owner
  owner_moved s (finishing k) = (sits.keeps.finishes s k).fixed.owner
  owner_moved s (cutting p) = (sits.keeps.cuts s p).fixed.owner
  owner_moved s renewing = (sits.keeps.renews s).owner

  pub same_moved : (s : S) (m : Move) → Same s (moved ops s m)
  same_moved s m = record { number_is = sits.direct.seat.fixed s m; owner = owner_moved s m }

  abbrev pub Owned : S → ℕ → Type 0
  Owned s a = Mine ops chip sits.number sits.see s a

  pub still_owned : {s t : S} → Same s t → {a : ℕ} → Owned s a → Owned t a
  still_owned p {a} m = p.owner a ∙ m ∙ ap Some (sym p.number_is)

  -- From s on the part came to w.0 with the answer w.1; the chip, if its number owns the address a, came to v.0 with the answer v.1, and these are the same.
  record Sees {A : Type 0} (a : ℕ) (s : S) (w : S × A) (v : C × A) : Type 0 where
    stays : Same s w.0
    part : Owned s a → sits.see w.0 ≡ v.0
    answer : Owned s a → w.1 ≡ v.1

  abbrev Follows : {A : Type 0} → ℕ → (S → S × A) → (C → C × A) → Type 0
  Follows a go own = (s : S) → Sees a s (go s) (own (sits.see s))

  -- one step, and then another by its answer
  sees_then : {A B : Type 0} {a : ℕ} {s : S} {w : S × A} {v : C × A} (go : A → S → S × B) (own : A → C → C × B) → Sees a s w v → ((x : A) → Follows a (go x) (own x)) →
      Sees a s (go w.1 w.0) (own v.1 v.0)
  sees_then {w = w} go own r f =
      let q = f w.1 w.0 in
      record {
        stays = same_then r.stays q.stays;
        part = λ m. q.part (still_owned r.stays m) ∙ (λ i. (own (r.answer m i) (r.part m i)).0);
        answer = λ m. q.answer (still_owned r.stays m) ∙ (λ i. (own (r.answer m i) (r.part m i)).1);
      }

  ends : {A : Type 0} (a : ℕ) (x : A) → Follows a (λ s. (s, x)) (λ c. (c, x))
  ends a x s = record { stays = same s; part = λ m. refl; answer = λ m. refl }

  -- a move, with what is asked before it
  by_move : {A : Type 0} (a : ℕ) (s : S) (m : Move) (x y : A) (c : C) → (Owned s a → (x ≡ y) × (sits.see (moved ops s m) ≡ c)) → Sees a s (moved ops s m, x) (c, y)
  by_move a s m x y c h = record { stays = same_moved s m; part = λ o. (h o).1; answer = λ o. (h o).0 }

  -- a move that reaches the chip under any address
  always : {A : Type 0} (a : ℕ) (s : S) (m : Move) (x : A) (c : C) → sits.see (moved ops s m) ≡ c → Sees a s (moved ops s m, x) (c, x)
  always a s m x c e = by_move a s m x x c (λ o. (refl, e))

  -- the work goes on where there is an ACK, or where nothing was refused
  on_ack_sees : (a n : ℕ) (go : S → S × Told (List ℕ)) (own : C → C × Told (List ℕ)) → Follows a go own → (ack : Bool) → Follows a (on_ack ack n go) (on_ack ack n own)
  on_ack_sees a n go own f true s = f s
  on_ack_sees a n go own f false s = ends a (refused 8 n) s

  on_ok_sees : (a : ℕ) (go : S → S × Told (List ℕ)) (own : C → C × Told (List ℕ)) → Follows a go own → (t : Told (List ℕ)) → Follows a (on_ok t go) (on_ok t own)
  on_ok_sees a go own f (ok xs) s = f s
  on_ok_sees a go own f (refused n p) s = ends a (refused n p) s

  acked_sees : {a : ℕ} {s : S} {w : S × Bool} {v : C × Bool} (n : ℕ) (go : S → S × Told (List ℕ)) (own : C → C × Told (List ℕ)) → Sees a s w v → Follows a go own →
      Sees a s (on_ack w.1 n go w.0) (on_ack v.1 n own v.0)
  acked_sees {a = a} n go own r f = sees_then (λ ack. on_ack ack n go) (λ ack. on_ack ack n own) r (on_ack_sees a n go own f)

  address_sees : (y : ℕ) → Follows (y / 2) (λ s. (ops.address s y, ops.hears s y)) (λ c. (chip.address c y, chip.hears c y))
  address_sees y s = by_move (y / 2) s (addressing y) _ _ _ (sits.direct.address s y)

  seen : {A : Type 0} {a : ℕ} {s : S} {w : S × A} {v : C × A} → Sees (a % 128) s w v → a < 128 → Owned s a → (sits.see w.0 ≡ v.0) × (w.1 ≡ v.1)
  seen {a = a} {s = s} r h m = let m' = subst (Owned s) (let e : a ≡ a % 128 = omega (arith, h) in e) m in (r.part m', r.answer m')

  module _ (l : Levels) where
    later_sees : (y n : ℕ) (xs : List ℕ) → Follows (y / 2) (later ops l y n xs) (later chip l y n xs)
    later_sees y n [] s = ends (y / 2) (ok []) s
    later_sees y n (x ∷ xs) s = acked_sees n _ _ (by_move (y / 2) s (taking y l x) _ _ _ (sits.direct.take s y l x)) (later_sees y (n + 1) xs)

    bytes_see : (y : ℕ) (xs : List ℕ) → Follows (y / 2) (bytes ops l y xs) (bytes chip l y xs)
    bytes_see y [] s = ends (y / 2) (ok []) s
    bytes_see y (x ∷ xs) s = acked_sees 1 _ _ (by_move (y / 2) s (aiming y l x) _ _ _ (sits.direct.aim s y l x)) (later_sees y 2 xs)

    begun_sees : (n y : ℕ) (go : S → S × Told (List ℕ)) (own : C → C × Told (List ℕ)) → Follows (y / 2) go own → Follows (y / 2) (begun ops l n y go) (begun chip l n y own)
    begun_sees n y go own f s =
        acked_sees n go own
        (sees_then (λ _ t. (ops.address t y, ops.hears t y)) (λ _ c. (chip.address c y, chip.hears c y)) (always (y / 2) s starting (tt {0}) _ (sits.direct.seat.start s)) (λ _. address_sees y))
        f

    sent_sees : (a : ℕ) (xs : List ℕ) → Follows (a % 128) (sent ops l a xs) (sent chip l a xs)
    sent_sees a xs = subst (λ b. Follows b (sent ops l a xs) (sent chip l a xs)) (write_half a) (begun_sees 0 (write_byte a) _ _ (bytes_see (write_byte a) xs))

    closed_sees : (a : ℕ) (t : Told (List ℕ)) → Follows a (λ s. closed ops l (s, t)) (λ c. closed chip l (c, t))
    closed_sees a t s = always a s (stopping (is_ok t) l) t _ (sits.direct.seat.stop s (is_ok t) l)

    written_sees : (a : ℕ) (xs : List ℕ) → Follows (a % 128) (written ops l a xs) (written chip l a xs)
    unfolding written
    written_sees a xs s =
        sees_then (λ t s. closed ops l (s, t)) (λ t c. closed chip l (c, t))
        (sees_then (λ _. sent ops l a xs) (λ _. sent chip l a xs) (always (a % 128) s (levelling l) (tt {0}) _ (sits.direct.seat.level s l)) (λ _. sent_sees a xs))
        (closed_sees (a % 128))

    given_sees : (y n : ℕ) → Follows (y / 2) (given ops l y n) (given chip l y n)
    given_sees y zero s = ends (y / 2) [] s
    given_sees y (suc n) s =
        sees_then (λ x t. ((given ops l y n t).0, x % 256 ∷ (given ops l y n t).1)) (λ x c. ((given chip l y n c).0, x % 256 ∷ (given chip l y n c).1))
        (by_move (y / 2) s (giving y) _ _ _ (sits.direct.give s y))
        (λ x t. let r = given_sees y n t in record { stays = r.stays; part = r.part; answer = λ m. ap (λ xs. x % 256 ∷ xs) (r.answer m) })

    readdressed : (n a : ℕ) → Follows (a % 128) (begun ops l n (read_byte a) done) (begun chip l n (read_byte a) done)
    readdressed n a =
        subst (λ b. Follows b (begun ops l n (read_byte a) done) (begun chip l n (read_byte a) done)) (read_half a)
        (begun_sees n (read_byte a) done done (ends (read_byte a / 2) (ok [])))

    addressed_sees : (a : ℕ) (aim : List ℕ) → Follows (a % 128) (addressed ops l a aim) (addressed chip l a aim)
    addressed_sees a [] s = readdressed 0 a s
    addressed_sees a (x ∷ xs) s =
        sees_then (λ t. on_ok t (begun ops l (1 + length (x ∷ xs)) (read_byte a) done)) (λ t. on_ok t (begun chip l (1 + length (x ∷ xs)) (read_byte a) done))
        (sent_sees a (x ∷ xs) s) (on_ok_sees (a % 128) _ _ (readdressed (1 + length (x ∷ xs)) a))

    fetched_sees : (y n : ℕ) (t : Told (List ℕ)) → Follows (y / 2) (fetched ops l y n t) (fetched chip l y n t)
    fetched_sees y n (ok xs) s =
        sees_then (λ xs t. (ops.stop t false l, ok xs)) (λ xs c. (chip.stop c false l, ok xs)) (given_sees y n s)
        (λ xs t. always (y / 2) t (stopping false l) (ok xs) _ (sits.direct.seat.stop t false l))
    fetched_sees y n (refused r p) s = always (y / 2) s (stopping false l) (refused r p) _ (sits.direct.seat.stop s false l)

    read_sees : (a : ℕ) (aim : List ℕ) (n : ℕ) → Follows (a % 128) (read ops l a aim n) (read chip l a aim n)
    unfolding read
    read_sees a aim n s =
        sees_then (fetched ops l (read_byte a) n) (fetched chip l (read_byte a) n)
        (sees_then (λ _. addressed ops l a aim) (λ _. addressed chip l a aim) (always (a % 128) s (levelling l) (tt {0}) _ (sits.direct.seat.level s l)) (λ _. addressed_sees a aim))
        (subst (λ b. (t : Told (List ℕ)) → Follows b (fetched ops l (read_byte a) n t) (fetched chip l (read_byte a) n t)) (read_half a) (fetched_sees (read_byte a) n))

    -- its number and the owners stay, whoever owns the address
    pub same_written : (a : ℕ) (xs : List ℕ) (s : S) → Same s (written ops l a xs s).0
    same_written a xs s = (written_sees a xs s).stays

    pub same_read : (a : ℕ) (aim : List ℕ) (n : ℕ) (s : S) → Same s (read ops l a aim n s).0
    same_read a aim n s = (read_sees a aim n s).stays

    pub see_written : (a : ℕ) (xs : List ℕ) (s : S) → a < 128 → Owned s a →
        (sits.see (written ops l a xs s).0 ≡ (written chip l a xs (sits.see s)).0) × ((written ops l a xs s).1 ≡ (written chip l a xs (sits.see s)).1)
    see_written a xs s = seen (written_sees a xs s)

    pub see_read : (a : ℕ) (aim : List ℕ) (n : ℕ) (s : S) → a < 128 → Owned s a →
        (sits.see (read ops l a aim n s).0 ≡ (read chip l a aim n (sits.see s)).0) × ((read ops l a aim n s).1 ≡ (read chip l a aim n (sits.see s)).1)
    see_read a aim n s = seen (read_sees a aim n s)

  -- a finish of its number on a board: the chip's write cycle, if one runs, is over
  over_by : (p q : Bool) (b : Board S) → p ≡ true → q ≡ chip.busy (sits.see b.part) 0 → sits.see (finish_by ops p q b (sits.number b.part)).part ≡ over chip (sits.see b.part)
  over_by true true b e f = sits.direct.seat.finish b.part ∙ ap (λ t. cond t (chip.finish (sits.see b.part) 0) (sits.see b.part)) f
  over_by true false b e f = ap (λ t. cond t (chip.finish (sits.see b.part) 0) (sits.see b.part)) f
  over_by false q b e f = absurd (clash e)

  pub over_finished : (b : Board S) → sits.see (finished ops b (sits.number b.part)).part ≡ over chip (sits.see b.part)
  over_finished b = let h = sits.direct.seat.shown b.part in over_by (numbered ops b (sits.number b.part)) _ b (lt-ltb _ _ h.within) h.busy

  finish_stays : (p q : Bool) (b : Board S) (k : ℕ) → ((finish_by ops p q b k).bus ≡ b.bus) × Same b.part (finish_by ops p q b k).part
  finish_stays true true b k = (refl, same_moved b.part (finishing k))
  finish_stays true false b k = (refl, same b.part)
  finish_stays false q b k = (refl, same b.part)

  pub bus_finished : (b : Board S) (k : ℕ) → (finished ops b k).bus ≡ b.bus
  bus_finished b k = (finish_stays (numbered ops b k) (ops.busy b.part k) b k).0

  pub same_finished : (b : Board S) (k : ℕ) → Same b.part (finished ops b k).part
  same_finished b k = (finish_stays (numbered ops b k) (ops.busy b.part k) b k).1

  -- what is asked of the number that it has had since s is asked of the chip
  pub shown_still : {s t : S} → Same s t → Shown ops chip (sits.number s) t (sits.see t)
  shown_still {t = t} p = subst (λ k. Shown ops chip k t (sits.see t)) p.number_is (sits.direct.seat.shown t)
