-- Which write jobs are accepted, and what one stores, later jobs bring back: of each chip that sits directly in a part, alone or anywhere in pairs,
-- and whose number owns the address. What a register byte locks is what the law of the lock writes out in numbers.
use Rattle.std.specs.Prelude.{◌≡◌, ℕ, ◌+◌, ◌/◌, ◌%◌, ◌<◌, ◌≤◌, Bool, true, false, ◌&&◌, ◌⊎◌, List, [], ◌∷◌, length, min, Some, ◌==◌, ◌≢◌, slice_index_or}
use Rattle.refusals.specs.Told.{Told, ok}
use Rattle.part.specs.Ops.{Ops}
use Rattle.part.specs.Seats.{Direct}
use Rattle.part.specs.declared.levels.Levels.{Levels}
use Rattle.part.specs.declared.power.PowerCut.{PowerCut}
use Rattle.dcp.specs.Taps.{byte_of}
use Rattle.dcp.specs.Wiper.{byte_for}
use Rattle.ds1846.specs.declared.state.Ds1846.{Ds1846}
use Rattle.ds1846.specs.Chip.{ds1846}
use Rattle.x9520.specs.declared.state.X9520.{X9520}
use Rattle.x9520.specs.Chip.{x9520}
use Rattle.board.specs.declared.board.Board.{Board}
use Rattle.board.specs.declared.call.Call.{Call}
use Rattle.board.specs.Engine.{idle, idle_bus, finished, cut}
use Rattle.board.specs.Runs.{Leads}
use Rattle.board.specs.Samples.{odd}
use Rattle.runs.specs.Lock.{locks_cell, locks_wipers}
use Rattle.storage.specs.Cells.{Stands}
use Rattle.controller.specs.Bytes.{AllBytes}
use Rattle.controller.specs.Jobs.{writing, reading}
use Rattle.controller.specs.Master.{run}

-- DCPs 0, 1 and 2 have 64, 100 and 256 taps
abbrev pub taps_of : ℕ → ℕ
taps_of j = slice_index_or (64 ∷ (100 ∷ (256 ∷ []))) j 0

-- the first byte of a write to DCP j, with whether the next one is to be stored
abbrev pub dcp_byte : ℕ → Bool → ℕ
dcp_byte j true = 128 + j
dcp_byte j false = j

-- The byte v means tap t. Of 100 taps it is the one whose byte v is, and 99 where v is the byte of none; else a byte is its tap,
-- and one beyond the taps means the last.
abbrev pub means_by : Bool → ℕ → ℕ → ℕ → Type 0
means_by true taps v t = ((t < 100) × (byte_of t ≡ v)) ⊎ ((t ≡ 99) × ((u : ℕ) → u < 100 → byte_of u ≢ v))
means_by false taps v t = ((v < taps) × (t ≡ v)) ⊎ ((taps ≤ v) × (t + 1 ≡ taps))

abbrev pub Means : ℕ → ℕ → ℕ → Type 0
Means taps v t = means_by (taps == 100) taps v t

-- a bit of a byte, by its weight
abbrev pub bit : ℕ → ℕ → Bool
bit weight x = odd (x / weight)

-- What an X9520 takes while it is not busy, by its latches WEL and RWEL and by its register byte r.
-- Data bytes for the memory from cell first on: with WEL set, and for a page that is not locked.
abbrev pub MemoryTakes : (wel : Bool) → (r first : ℕ) → (ds : List ℕ) → Type 0
MemoryTakes wel r first ds = 1 ≤ length ds → (wel ≡ true) × (locks_cell r first ≡ false)

-- A data byte for a DCP: with WEL set, and where the wipers are not locked.
abbrev pub DcpTakes : (wel : Bool) → (r : ℕ) → Type 0
DcpTakes wel r = (wel ≡ true) × (locks_wipers r ≡ false)

-- The data byte x for the register: 00h always; with RWEL clear 02h, and 06h where WEL is set; with RWEL set each byte with bit 1 set.
abbrev pub RegisterTakes : (wel rwel : Bool) → (x : ℕ) → Type 0
RegisterTakes wel false x = (x ≡ 0x00) ⊎ ((x ≡ 0x02) ⊎ ((x ≡ 0x06) × (wel ≡ true)))
RegisterTakes wel true x = (x ≡ 0x00) ⊎ (bit 2 x ≡ true)

-- the first byte names DCP 0, 1 or 2
abbrev pub NamesDcp : (first : ℕ) → Type 0
NamesDcp first = (j : ℕ) × (store : Bool) × (j < 3) × (first ≡ dcp_byte j store)

-- no data byte, or one, which is taken
abbrev pub AtMostOne : (Takes : ℕ → Type 0) → List ℕ → Type 0
AtMostOne Takes [] = Unit {0}
AtMostOne Takes (x ∷ []) = Takes x
AtMostOne Takes (x ∷ (y ∷ ys)) = ⊥

-- the addresses of an X9520
abbrev pub X9520Address : ℕ → Type 0
X9520Address a = (a ≡ 80) ⊎ ((a ≡ 82) ⊎ (a ≡ 87))

-- What the register shows, read as v, of a byte x that was stored there, with whether V2RO and V3RO were HIGH all the while:
-- the stored bits 7, 4, 3 and 0, the flags, RWEL clear and WEL set.
pub record Shows (x : ℕ) (v2ro v3ro : Bool) (v : ℕ) : Type 0 where
  pub eight_bits : v < 256
  pub por1 : bit 128 v ≡ bit 128 x
  pub v2os : bit 64 v ≡ (bit 64 x && v2ro)
  pub v3os : bit 32 v ≡ (bit 32 x && v3ro)
  pub bl1 : bit 16 v ≡ bit 16 x
  pub bl0 : bit 8 v ≡ bit 8 x
  pub rwel : bit 4 v ≡ false
  pub wel : bit 2 v ≡ true
  pub por0 : bit 1 v ≡ bit 1 x

module _ {S : Type 0} (ops : Ops S) where
  -- A read job of n bytes on the board d is accepted, and byte number j of those that it brings is one of which P j says that it may be.
  pub record Brings (d : Board S) (l : Levels) (a : ℕ) (aim : List ℕ) (n : ℕ) (P : ℕ → ℕ → Type 0) : Type 0 where
    pub got : List ℕ
    pub answer : (run ops (reading l a aim n) d).1 ≡ ok got
    pub count : length got ≡ n
    pub each : (j : ℕ) → j < n → P j (slice_index_or got j 0)

  -- a board some calls after its making
  abbrev pub Made : Board S → Type 0
  Made b = (p : S) × (calls : List Call) × Leads ops (idle (ops.renew p)) calls b

  -- Of a write job from the board b to the board c, with its answer; k is the number of the chip written to.
  module _ (b c : Board S) (answer : Told (List ℕ)) (k : ℕ) where
    -- Memory of pages of so many cells, at the address m: after the finish a read aimed at any cell i brings for each cell the last of the data
    -- bytes ds that fell on it, or its old byte; after cell FFh it goes on at 00h.
    abbrev pub BringsCells : ℕ → ℕ → ℕ → List ℕ → Type 0
    BringsCells m page first ds =
        (l : Levels) (i n : ℕ) → i < 256 → 1 ≤ n →
        Brings (finished ops c k) l m (i ∷ []) n (λ j v. Stands page first ds ((i + j) % 256) (ops.cell b.part k ((i + j) % 256) % 256) v)

    -- each cell itself, of the memory or not, holds that after the finish
    abbrev pub HoldsCells : ℕ → ℕ → List ℕ → Type 0
    HoldsCells page first ds = (i : ℕ) → Stands page first ds i (ops.cell b.part k i) (ops.cell (finished ops c k).part k i)

    -- The write is accepted exactly if the chip is not busy and takes its bytes.
    pub record Accepts (Takes : Type 0) : Type 0 where
      pub accepts : ops.busy b.part k ≡ false → Takes → answer ≡ ok []
      pub accepts_only : answer ≡ ok [] → (ops.busy b.part k ≡ false) × Takes

    -- the address byte alone is accepted exactly if the chip is not busy
    abbrev pub AcceptsEmpty : Type 0
    AcceptsEmpty = Accepts (Unit {0})

    -- A DS1846 takes any bytes unless it is busy. Its wipers follow cells F8h, F9h and FAh: wiper 1 the whole byte, the others its low seven bits up to tap 99.
    pub record Ds1846Stores (first : ℕ) (ds : List ℕ) : Type 0 where
      pub accepted : Accepts (Unit {0})
      pub ready : ops.busy (finished ops c k).part k ≡ false
      pub holds : answer ≡ ok [] → HoldsCells 8 first ds
      pub brings : answer ≡ ok [] → BringsCells 81 8 first ds
      pub wiper_0 : ops.tap (finished ops c k).part k 0 ≡ min (ops.cell (finished ops c k).part k 249 % 128) 99
      pub wiper_1 : ops.tap (finished ops c k).part k 1 ≡ ops.cell (finished ops c k).part k 248
      pub wiper_2 : ops.tap (finished ops c k).part k 2 ≡ min (ops.cell (finished ops c k).part k 250 % 128) 99

    -- So does the memory of an X9520, if it takes the data bytes. WEL stays set where it was, and no wiper moves; `after` is the chip after the finish.
    pub record MemoryStores (chip after : X9520) (first : ℕ) (ds : List ℕ) : Type 0 where
      pub accepted : Accepts (MemoryTakes chip.latches.wel (ops.cell b.part k 259) first ds)
      pub ready : ops.busy (finished ops c k).part k ≡ false
      pub holds : answer ≡ ok [] → HoldsCells 16 first ds
      pub brings : answer ≡ ok [] → BringsCells 80 16 first ds
      pub enabled : answer ≡ ok [] → chip.latches.wel ≡ true → after.latches.wel ≡ true
      pub wipers : answer ≡ ok [] → (j : ℕ) → ops.tap (finished ops c k).part k j ≡ ops.tap b.part k j

    -- a read of DCP j on the board d brings the byte of its tap; bit 7 of the byte that names the DCP does not count
    abbrev pub BringsTap : ℕ → Board S → Type 0
    BringsTap j d =
        (l : Levels) (x n : ℕ) → x < 256 → x % 128 ≡ j → 1 ≤ n →
        Brings d l 87 (x ∷ []) n (λ i v. v ≡ byte_for (taps_of j) (ops.tap d.part k j))

    -- The byte v for DCP j, to be stored or not: the wiper goes to the tap of v, and the others stay; a finish moves none, and a read brings the byte
    -- of that tap. After a power cut then the wiper stands there again if v was stored, and if not at the tap of the old stored byte.
    -- No other byte changes, WEL stays set, and where v is not stored the chip is ready at once.
    pub record WiperStores (chip after : X9520) (j : ℕ) (store : Bool) (v : ℕ) : Type 0 where
      pub accepted : Accepts (DcpTakes chip.latches.wel (ops.cell b.part k 259))
      pub moves : answer ≡ ok [] → Means (taps_of j) v (ops.tap c.part k j)
      pub others : answer ≡ ok [] → (i : ℕ) → (i ≢ j) → ops.tap c.part k i ≡ ops.tap b.part k i
      pub finish : (i : ℕ) → ops.tap (finished ops c k).part k i ≡ ops.tap c.part k i
      pub brings : answer ≡ ok [] → BringsTap j (finished ops c k)
      pub returns : answer ≡ ok [] → store ≡ true → (p : PowerCut) → ops.tap (cut ops (finished ops c k) p).part k j ≡ ops.tap c.part k j
      pub falls_back : answer ≡ ok [] → store ≡ false → (p : PowerCut) → Means (taps_of j) (ops.cell b.part k (256 + j)) (ops.tap (cut ops (finished ops c k) p).part k j)
      pub brings_after : (p : PowerCut) → BringsTap j (cut ops (finished ops c k) p)
      pub ready : ops.busy (finished ops c k).part k ≡ false
      pub ready_at_once : answer ≡ ok [] → store ≡ false → ops.busy c.part k ≡ false
      pub holds : answer ≡ ok [] → store ≡ true → ops.cell (finished ops c k).part k (256 + j) ≡ v
      pub cells : answer ≡ ok [] → (i : ℕ) → (store ≡ true → i ≢ 256 + j) → ops.cell (finished ops c k).part k i ≡ ops.cell b.part k i
      pub enabled : answer ≡ ok [] → after.latches.wel ≡ true

    -- The byte x for the register, with bit 2 clear and bit 1 set, written at the levels l, after jobs that wrote 02h and 06h to it from the board b0 on,
    -- with the answers t0 and t1: it is stored and nothing else, no wiper moves, WEL stays set, and the register shows it.
    pub record RegisterStores (l : Levels) (b0 : Board S) (chip after : X9520) (t0 t1 : Told (List ℕ)) (x : ℕ) : Type 0 where
      pub accepts : ops.busy b0.part k ≡ false → chip.latches.rwel ≡ false → (t0 ≡ ok []) × ((t1 ≡ ok []) × (answer ≡ ok []))
      pub stores : t0 ≡ ok [] → t1 ≡ ok [] → ops.cell (finished ops c k).part k 259 ≡ x
      pub brings : t0 ≡ ok [] → t1 ≡ ok [] →
          (rl : Levels) (aim : List ℕ) (n : ℕ) → (aim ≡ []) ⊎ (aim ≡ 255 ∷ []) → 1 ≤ n →
          Brings (finished ops c k) rl 82 aim n (λ j v. Shows x (l.v2ro && rl.v2ro) (l.v3ro && rl.v3ro) v)
      pub ready : ops.busy (finished ops c k).part k ≡ false
      pub enabled : t0 ≡ ok [] → t1 ≡ ok [] → after.latches.wel ≡ true
      pub cells : t0 ≡ ok [] → t1 ≡ ok [] → (i : ℕ) → (i ≢ 259) → ops.cell (finished ops c k).part k i ≡ ops.cell b0.part k i
      pub wipers : t0 ≡ ok [] → t1 ≡ ok [] → (j : ℕ) → ops.tap (finished ops c k).part k j ≡ ops.tap b0.part k j

    -- The byte 02h for the register of a chip with RWEL clear sets WEL and leaves the chip ready; no byte changes and no wiper moves.
    pub record Enables (then : X9520) : Type 0 where
      pub accepts : ops.busy b.part k ≡ false → answer ≡ ok []
      pub enabled : answer ≡ ok [] → then.latches.wel ≡ true
      pub ready : answer ≡ ok [] → ops.busy c.part k ≡ false
      pub cells : answer ≡ ok [] → (i : ℕ) → ops.cell c.part k i ≡ ops.cell b.part k i
      pub wipers : answer ≡ ok [] → (j : ℕ) → ops.tap c.part k j ≡ ops.tap b.part k j

  -- A write job of the bytes xs to the address a, at the levels l with WP LOW. A wiper is spoken of on boards made of fresh chips, on which each has its taps.
  pub record Stores (l : Levels) (a : ℕ) (xs : List ℕ) (b c : Board S) (answer : Told (List ℕ)) : Type 0 where
    -- no bytes, to an address of either chip
    pub empty_ds1846 : (number : S → ℕ) (see : S → Ds1846) → Direct ops ds1846 number see → a ≡ 81 → ops.owner b.part 81 ≡ Some (number b.part) →
        xs ≡ [] → AcceptsEmpty b c answer (number b.part)
    pub empty_x9520 : (number : S → ℕ) (see : S → X9520) → Direct ops x9520 number see → X9520Address a → ops.owner b.part a ≡ Some (number b.part) →
        xs ≡ [] → AcceptsEmpty b c answer (number b.part)
    pub ds1846 : (number : S → ℕ) (see : S → Ds1846) → Direct ops ds1846 number see → a ≡ 81 → ops.owner b.part 81 ≡ Some (number b.part) →
        (first : ℕ) (ds : List ℕ) → xs ≡ first ∷ ds → Ds1846Stores b c answer (number b.part) first ds
    pub memory : (number : S → ℕ) (see : S → X9520) → Direct ops x9520 number see → a ≡ 80 → ops.owner b.part 80 ≡ Some (number b.part) →
        (first : ℕ) (ds : List ℕ) → xs ≡ first ∷ ds → MemoryStores b c answer (number b.part) (see b.part) (see (finished ops c (number b.part)).part) first ds
    pub wiper : (number : S → ℕ) (see : S → X9520) → Direct ops x9520 number see → a ≡ 87 → ops.owner b.part 87 ≡ Some (number b.part) → Made b →
        (j : ℕ) (store : Bool) (v : ℕ) → j < 3 → xs ≡ dcp_byte j store ∷ (v ∷ []) → WiperStores b c answer (number b.part) (see b.part) (see (finished ops c (number b.part)).part) j store v
    pub register : (number : S → ℕ) (see : S → X9520) → Direct ops x9520 number see → a ≡ 82 → ops.owner b.part 82 ≡ Some (number b.part) →
        (l0 l1 : Levels) (b0 b1 : Board S) (t0 t1 : Told (List ℕ)) → l0.wp ≡ false → l1.wp ≡ false → b0.bus ≡ idle_bus →
        run ops (writing l0 82 (255 ∷ (2 ∷ []))) b0 ≡ (b1, t0) → run ops (writing l1 82 (255 ∷ (6 ∷ []))) b1 ≡ (b, t1) →
        (x : ℕ) → bit 4 x ≡ false → bit 2 x ≡ true → xs ≡ 255 ∷ (x ∷ []) → RegisterStores b c answer (number b.part) l b0 (see b0.part) (see (finished ops c (number b.part)).part) t0 t1 x
    pub enable : (number : S → ℕ) (see : S → X9520) → Direct ops x9520 number see → a ≡ 82 → ops.owner b.part 82 ≡ Some (number b.part) →
        xs ≡ 255 ∷ (2 ∷ []) → (see b.part).latches.rwel ≡ false → Enables b c answer (number b.part) (see c.part)
    -- any bytes for the DCPs or for the register: the first byte names a DCP, or is FFh, and at most one data byte follows
    pub dcp_takes : (number : S → ℕ) (see : S → X9520) → Direct ops x9520 number see → a ≡ 87 → ops.owner b.part 87 ≡ Some (number b.part) →
        (first : ℕ) (ds : List ℕ) → xs ≡ first ∷ ds →
        Accepts b c answer (number b.part) (NamesDcp first × AtMostOne (λ v. DcpTakes (see b.part).latches.wel (ops.cell b.part (number b.part) 259)) ds)
    pub register_takes : (number : S → ℕ) (see : S → X9520) → Direct ops x9520 number see → a ≡ 82 → ops.owner b.part 82 ≡ Some (number b.part) →
        (first : ℕ) (ds : List ℕ) → xs ≡ first ∷ ds →
        Accepts b c answer (number b.part) ((first ≡ 0xff) × AtMostOne (RegisterTakes (see b.part).latches.wel (see b.part).latches.rwel) ds)

-- Of every write job with WP LOW, of any bytes, on every board with idle wires.
unfoldable pub BringsBack : {S : Type 0} → Ops S → Type 0
BringsBack {S} ops = (l : Levels) (a : ℕ) (xs : List ℕ) (b : Board S) → l.wp ≡ false → AllBytes xs → b.bus ≡ idle_bus →
    Stores ops l a xs b (run ops (writing l a xs) b).0 (run ops (writing l a xs) b).1
