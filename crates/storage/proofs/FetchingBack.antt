-- What a read job does to the part, from idle wires, and what it brings from a DS1846 and from an X9520.
use Rattle.std.proofs.Common.{◌≡◌, ℕ, zero, suc, ◌+◌, ◌%◌, ◌<◌, ◌≤◌, Bool, true, false, ◌⊎◌, List, [], ◌∷◌, length, None, Option, sym, refl, ap, ◌∙◌, subst, inl, inr, arith}
use borrow.Author.Tests.{clash}
use Rattle.refusals.specs.Told.{Told, ok, refused}
use Rattle.part.specs.Keeps.{Keeps}
use Rattle.part.specs.Ops.{Ops}
use Rattle.part.specs.Seats.{Shown}
use Rattle.part.specs.declared.levels.Levels.{Levels}
use Rattle.dcp.specs.Wiper.{byte_for}
use Rattle.protection.specs.declared.latches.Latches.{Latches}
use Rattle.ds1846.specs.Chip.{ds1846}
use Rattle.ds1846.specs.Keeping.{tap_same}
use Rattle.x9520.specs.Chip.{x9520, latches_stopped}
use Rattle.x9520.specs.Register.{stored_register}
use Rattle.x9520.specs.declared.state.Mode.{Mode}
use Rattle.x9520.specs.declared.state.Mode.TheVariants.{Idle, Aiming, MemoryBytes, DcpByte, RegisterByte, Moved, Latching, Storing, Reading}
use Rattle.x9520.specs.declared.state.X9520.{X9520}
use Rattle.board.specs.Engine.{idle_bus}
use Rattle.board.specs.declared.board.Board.{Board}
use Rattle.controller.specs.Bytes.{AllBytes}
use Rattle.storage.specs.Fetching.{KeepsBytes, after_read, FetchesCells, Ds1846Fetches, X9520Fetches, Fetches}
use Rattle.controller.specs.Jobs.{reading, write_byte, read_byte}
use Rattle.controller.specs.Master.{run}
use Rattle.storage.specs.Storing.{Brings, taps_of}
use Rattle.controller.specs.Work.{on_ack, on_ok, done, later, bytes, begun, sent, given, addressed, fetched, read as read_work}
use Rattle.controller.proofs.AllBytes.{one_byte}
use Rattle.storage.proofs.Bringing.{idle_board, now, asked, brings_now}
use Rattle.storage.proofs.Ds1846Storing.{ds_reads}
use Rattle.storage.proofs.Giving.{Reads, reads_as}
use Rattle.storage.proofs.MemoryStoring.{memory_reads}
use Rattle.controller.proofs.ReadWork.{read_run}
use Rattle.storage.proofs.Sitting.{Sits, sitting, Same, same_read, Owned, see_read, shown_still}
use Rattle.storage.proofs.SoundBoard.{made_sound}
use Rattle.storage.proofs.WiperReading.{wiper_reads}

-- what the moves of a read leave as it was in a part or a chip, as far as f shows it; only a later aim byte is not among them
record Leaves {S A : Type 0} (ops : Ops S) (f : S → A) : Type 0 where
  start : (s : S) → f (ops.start s) ≡ f s
  address : (s : S) (x : ℕ) → f (ops.address s x) ≡ f s
  aim : (s : S) (y : ℕ) (l : Levels) (x : ℕ) → f (ops.aim s y l x) ≡ f s
  give : (s : S) (y : ℕ) → f (ops.give s y) ≡ f s
  level : (s : S) (l : Levels) → f (ops.level s l) ≡ f s
  stop : (s : S) (l : Levels) → f (ops.stop s false l) ≡ f s

module _ {S A : Type 0} (ops : Ops S) (f : S → A) (leaves : Leaves ops f) (l : Levels) where
  -- a later aim byte leaves it too, or there is none
  abbrev Later : List ℕ → Type 0
  Later aim = ((s : S) (y x : ℕ) → f (ops.take s y l x) ≡ f s) ⊎ (length aim ≤ 1)

  on_ack_leaves : (ack : Bool) (n : ℕ) (go : S → S × Told (List ℕ)) (s : S) → ((s : S) → f (go s).0 ≡ f s) → f (on_ack ack n go s).0 ≡ f s
  on_ack_leaves true n go s h = h s
  on_ack_leaves false n go s h = refl

  on_ok_leaves : (t : Told (List ℕ)) (go : S → S × Told (List ℕ)) (s : S) → ((s : S) → f (go s).0 ≡ f s) → f (on_ok t go s).0 ≡ f s
  on_ok_leaves (ok xs) go s h = h s
  on_ok_leaves (refused n p) go s h = refl

  later_leaves : (y n : ℕ) (xs : List ℕ) → ((s : S) (x : ℕ) → f (ops.take s y l x) ≡ f s) → (s : S) → f (later ops l y n xs s).0 ≡ f s
  later_leaves y n [] h s = refl
  later_leaves y n (x ∷ xs) h s =
      on_ack_leaves (ops.takes s y l x) n (later ops l y (n + 1) xs) (ops.take s y l x) (later_leaves y (n + 1) xs h) ∙ h s x

  -- the bytes after the first aim byte
  rest_leaves : (y x : ℕ) (xs : List ℕ) → Later (x ∷ xs) → (s : S) → f (later ops l y 2 xs s).0 ≡ f s
  rest_leaves y x xs (inl h) s = later_leaves y 2 xs (λ s. h s y) s
  rest_leaves y x [] (inr h) s = refl
  rest_leaves y x (z ∷ xs) (inr h) s = absurd (omega (arith, h))

  begun_leaves : (n y : ℕ) (go : S → S × Told (List ℕ)) → ((s : S) → f (go s).0 ≡ f s) → (s : S) → f (begun ops l n y go s).0 ≡ f s
  begun_leaves n y go h s = on_ack_leaves (ops.hears (ops.start s) y) n go (ops.address (ops.start s) y) h ∙ leaves.address (ops.start s) y ∙ leaves.start s

  addressed_leaves : (a : ℕ) (aim : List ℕ) → Later aim → (s : S) → f (addressed ops l a aim s).0 ≡ f s
  addressed_leaves a [] h s = begun_leaves 0 (read_byte a) done (λ s. refl) s
  addressed_leaves a (x ∷ xs) h s =
      on_ok_leaves (sent ops l a (x ∷ xs) s).1 (begun ops l (1 + length (x ∷ xs)) (read_byte a) done) (sent ops l a (x ∷ xs) s).0
      (begun_leaves (1 + length (x ∷ xs)) (read_byte a) done (λ s. refl))
      ∙ begun_leaves 0 (write_byte a) (bytes ops l (write_byte a) (x ∷ xs))
      (λ s. on_ack_leaves (ops.aims s (write_byte a) l x) 1 (later ops l (write_byte a) 2 xs) (ops.aim s (write_byte a) l x) (rest_leaves (write_byte a) x xs h) ∙ leaves.aim s (write_byte a) l x) s

  given_leaves : (y n : ℕ) (s : S) → f (given ops l y n s).0 ≡ f s
  given_leaves y zero s = refl
  given_leaves y (suc n) s = given_leaves y n (ops.give s y) ∙ leaves.give s y

  fetched_leaves : (y n : ℕ) (t : Told (List ℕ)) (s : S) → f (fetched ops l y n t s).0 ≡ f s
  fetched_leaves y n (ok xs) s = leaves.stop (given ops l y n s).0 l ∙ given_leaves y n s
  fetched_leaves y n (refused r p) s = leaves.stop s l

  read_leaves : (a : ℕ) (aim : List ℕ) (n : ℕ) → Later aim → (s : S) → f (read_work ops l a aim n s).0 ≡ f s
  unfolding read_work
  read_leaves a aim n h s =
      let w : S × Told (List ℕ) = addressed ops l a aim (ops.level s l) in
      fetched_leaves (read_byte a) n w.1 w.0 ∙ addressed_leaves a aim h (ops.level s l) ∙ leaves.level s l

-- every part leaves its stored bytes and the writes under way
module _ {S : Type 0} (ops : Ops S) (keeps : Keeps ops) where
  cell_left : (k i : ℕ) → Leaves ops (λ s. ops.cell s k i)
  cell_left k i = record {
    start = λ s. (keeps.starts s).calm.stored.cell k i;
    address = λ s x. (keeps.addresses s x).stored.cell k i;
    aim = λ s y l x. (keeps.aiming s y l x).calm.stored.cell k i;
    give = λ s y. (keeps.gives s y).calm.stored.cell k i;
    level = λ s l. (keeps.levels s l).calm.stored.cell k i;
    stop = λ s l. (keeps.stops s false l).cell k i;
  }

  -- a STOP that is not clean begins none
  not_begun : {u v : Option ℕ} {A B : Type 0} → (v ≡ u) ⊎ ((u ≡ None) × (false ≡ true) × A × B) → v ≡ u
  not_begun (inl e) = e
  not_begun (inr h) = absurd (clash h.1)

  under_way_left : (k i : ℕ) → Leaves ops (λ s. ops.under_way s k i)
  under_way_left k i = record {
    start = λ s. (keeps.starts s).calm.stored.under_way k i;
    address = λ s x. (keeps.addresses s x).stored.under_way k i;
    aim = λ s y l x. (keeps.aiming s y l x).calm.stored.under_way k i;
    give = λ s y. (keeps.gives s y).calm.stored.under_way k i;
    level = λ s l. (keeps.levels s l).calm.stored.under_way k i;
    stop = λ s l. not_begun ((keeps.stops s false l).under_way k i);
  }

  -- the same writes under way are as busy
  busy_then : (s t : S) (k : ℕ) → ((i : ℕ) → ops.under_way t k i ≡ ops.under_way s k i) → ops.busy t k ≡ true → ops.busy s k ≡ true
  busy_then s t k same h =
      let u = (keeps.shape t).busy_by k h in
      (keeps.shape s).busy_if k u.0 u.1.0 (sym (same u.0) ∙ u.1.1)

  as_busy : (p q : Bool) → (p ≡ true → q ≡ true) → (q ≡ true → p ≡ true) → p ≡ q
  as_busy true q f g = sym (f refl)
  as_busy false true f g = g refl
  as_busy false false f g = refl

  keeps_bytes : (l : Levels) (a : ℕ) (aim : List ℕ) (n : ℕ) (b c : Board S) → c.part ≡ (read_work ops l a aim n b.part).0 → (k : ℕ) → KeepsBytes ops k b c
  keeps_bytes l a aim n b c is k =
      let s : S = b.part in
      let under_way : (i : ℕ) → ops.under_way c.part k i ≡ ops.under_way s k i =
      λ i. ap (λ t. ops.under_way t k i) is ∙ read_leaves ops (λ t. ops.under_way t k i) (under_way_left k i) l a aim n (inl (λ t y x. (keeps.taking t y l x).stored.under_way k i)) s in
      record {
        cell = λ i. ap (λ t. ops.cell t k i) is ∙ read_leaves ops (λ t. ops.cell t k i) (cell_left k i) l a aim n (inl (λ t y x. (keeps.taking t y l x).stored.cell k i)) s;
        under_way = under_way;
        busy = as_busy _ _ (busy_then s c.part k under_way) (busy_then c.part s k (λ i. sym (under_way i)));
      }

-- an X9520 leaves its wipers and its latches too
wiper_left : (j : ℕ) → Leaves x9520 (λ s. x9520.tap s 0 j)
wiper_left j = record {
  start = λ s. refl;
  address = λ s x. refl;
  aim = λ s y l x. refl;
  give = λ s y. refl;
  level = λ s l. refl;
  stop = λ s l. refl;
}

latches_stop : (m : Mode) (wp : Bool) (r : ℕ) (l : Latches) → latches_stopped m false wp r l ≡ l
latches_stop Idle wp r l = refl
latches_stop (Aiming d) wp r l = refl
latches_stop MemoryBytes wp r l = refl
latches_stop (DcpByte store) wp r l = refl
latches_stop RegisterByte wp r l = refl
latches_stop Moved wp r l = refl
latches_stop (Latching x) wp r l = refl
latches_stop (Storing x) wp r l = refl
latches_stop (Reading d) wp r l = refl

latches_left : Leaves x9520 (λ s. s.latches)
latches_left = record {
  start = λ s. refl;
  address = λ s x. refl;
  aim = λ s y l x. refl;
  give = λ s y. refl;
  level = λ s l. refl;
  stop = λ s l. latches_stop s.mode l.wp (stored_register s) s.latches;
}

module _ {S : Type 0} (ops : Ops S) (keeps : Keeps ops) (l : Levels) (a : ℕ) (aim : List ℕ) (n : ℕ) (b : Board S)
    (small : AllBytes aim) (idle_b : b.bus ≡ idle_bus) (one : 1 ≤ n) (few : a < 128) where
  abbrev c : Board S
  c = after_read ops l a aim n b

  part_is : c.part ≡ (read_work ops l a aim n b.part).0
  part_is = ap (λ w. w.0.part) (ap (run ops (reading l a aim n)) (idle_board b idle_b) ∙ read_run ops keeps l a aim n b.part small one)

  -- the chip after the job
  module _ {C : Type 0} {chip : Ops C} (sits : Sits ops chip) where
    shown_after : Shown ops chip (sits.number b.part) c.part (sits.see c.part)
    shown_after = shown_still sits (subst (Same sits b.part) (sym part_is) (same_read sits l a aim n b.part))

    see_after : Owned sits b.part a → sits.see c.part ≡ (read_work chip l a aim n (sits.see b.part)).0
    see_after mine = ap sits.see part_is ∙ (see_read sits l a aim n b.part few mine).0

    -- memory at the address m
    fetches_cells : (m : ℕ) → Owned sits b.part a →
        ((i : ℕ) → chip.busy (sits.see b.part) 0 ≡ false → i < 256 → Reads chip l m (i ∷ []) n (sits.see b.part) (λ j v. v ≡ chip.cell (sits.see b.part) 0 ((i + j) % 256) % 256)) →
        FetchesCells ops l a aim n b m (sits.number b.part)
    fetches_cells m mine reads at ready i h is =
        let was = asked sits (now sits b idle_b) in
        subst (λ xs. Brings ops b l a xs n (λ j v. v ≡ ops.cell b.part (sits.number b.part) ((i + j) % 256) % 256)) (sym is)
        (brings_now sits l a (i ∷ []) n (one_byte i h) one few mine (now sits b idle_b)
        (reads_as (λ j v is. is ∙ ap (λ x. x % 256) (sym (was.cell ((i + j) % 256))))
        (subst (λ m. Reads chip l m (i ∷ []) n (sits.see b.part) (λ j v. v ≡ chip.cell (sits.see b.part) 0 ((i + j) % 256) % 256)) (sym at) (reads i (sym was.busy ∙ ready) h))))

  -- the wipers of a DS1846 follow its stored bytes
  ds1846_fetches : (sits : Sits ops ds1846) → Owned sits b.part a → Ds1846Fetches ops l a aim n b (sits.number b.part)
  ds1846_fetches sits mine =
      let was = asked sits (now sits b idle_b) in
      let then = shown_after sits in
      let kept = keeps_bytes ops keeps l a aim n b c part_is (sits.number b.part) in
      record {
        cells = fetches_cells sits 81 mine (λ i. ds_reads l i n (sits.see b.part));
        wipers = λ j. then.tap j ∙ tap_same (sits.see b.part).eeprom (sits.see c.part).eeprom (λ i. sym (then.cell i) ∙ kept.cell i ∙ was.cell i) j ∙ sym (was.tap j);
      }

  x9520_fetches : (sits : Sits ops x9520) → Owned sits b.part a → X9520Fetches ops l a aim n b (sits.number b.part) (sits.see b.part) (sits.see c.part)
  x9520_fetches sits mine =
      let was = asked sits (now sits b idle_b) in
      let chip : X9520 = sits.see b.part in
      record {
        cells = fetches_cells sits 80 mine (λ i. memory_reads l i n chip);
        tap = λ at ready made x j h names in_range is.
            subst (λ xs. Brings ops b l a xs n (λ i v. v ≡ byte_for (taps_of j) (ops.tap b.part (sits.number b.part) j))) (sym is)
            (brings_now sits l a (x ∷ []) n (one_byte x h) one few mine (now sits b idle_b)
            (reads_as (λ i v is. is ∙ ap (byte_for (taps_of j)) (sym (was.tap j)))
            (subst (λ m. Reads x9520 l m (x ∷ []) n chip (λ i v. v ≡ byte_for (taps_of j) (x9520.tap chip 0 j))) (sym at)
            (wiper_reads l chip x j n names in_range (made_sound ops keeps sits.number sits.see sits.direct.seat b made) (sym was.busy ∙ ready)))));
        wipers = λ short j.
            (shown_after sits).tap j ∙ ap (λ s. x9520.tap s 0 j) (see_after sits mine)
            ∙ read_leaves x9520 (λ s. x9520.tap s 0 j) (wiper_left j) l a aim n (inr short) chip ∙ sym (was.tap j);
        latches = λ short. ap (λ s. s.latches) (see_after sits mine) ∙ read_leaves x9520 (λ s. s.latches) latches_left l a aim n (inr short) chip;
      }

pub every_read : {S : Type 0} (ops : Ops S) → Keeps ops → Fetches ops
unfolding Fetches
every_read ops keeps l a aim n b small one few idle_b =
    record {
      keeps_bytes = keeps_bytes ops keeps l a aim n b (after_read ops l a aim n b) (part_is ops keeps l a aim n b small idle_b one few);
      ds1846 = λ number see direct mine. ds1846_fetches ops keeps l a aim n b small idle_b one few (sitting keeps direct) mine;
      x9520 = λ number see direct mine. x9520_fetches ops keeps l a aim n b small idle_b one few (sitting keeps direct) mine;
    }
