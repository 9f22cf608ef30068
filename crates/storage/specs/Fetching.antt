-- What a read job does from idle wires: it changes no byte of the part; and from a chip that sits directly in it, alone or anywhere in pairs,
-- and whose number owns the address, it brings what is kept there.
use Rattle.std.specs.Prelude.{◌≡◌, ℕ, ◌+◌, ◌%◌, ◌<◌, ◌≤◌, false, List, [], ◌∷◌, length, Some}
use Rattle.part.specs.Ops.{Ops}
use Rattle.part.specs.Seats.{Direct}
use Rattle.part.specs.declared.levels.Levels.{Levels}
use Rattle.dcp.specs.Wiper.{byte_for}
use Rattle.ds1846.specs.declared.state.Ds1846.{Ds1846}
use Rattle.ds1846.specs.Chip.{ds1846}
use Rattle.x9520.specs.declared.state.X9520.{X9520}
use Rattle.x9520.specs.Chip.{x9520}
use Rattle.board.specs.declared.board.Board.{Board}
use Rattle.board.specs.Engine.{idle_bus}
use Rattle.controller.specs.Bytes.{AllBytes}
use Rattle.controller.specs.Jobs.{reading}
use Rattle.controller.specs.Master.{run}
use Rattle.storage.specs.Storing.{Brings, Made, taps_of}

module _ {S : Type 0} (ops : Ops S) where
  -- From the board b to the board c the chip with number k keeps its bytes, and what is under way in it.
  pub record KeepsBytes (k : ℕ) (b c : Board S) : Type 0 where
    pub cell : (i : ℕ) → ops.cell c.part k i ≡ ops.cell b.part k i
    pub under_way : (i : ℕ) → ops.under_way c.part k i ≡ ops.under_way b.part k i
    pub busy : ops.busy c.part k ≡ ops.busy b.part k

  -- its wipers stand
  abbrev pub WipersStill : ℕ → Board S → Board S → Type 0
  WipersStill k b c = (j : ℕ) → ops.tap c.part k j ≡ ops.tap b.part k j

  -- a read job of n bytes at the levels l from the board b, to the address a after the aim bytes
  module _ (l : Levels) (a : ℕ) (aim : List ℕ) (n : ℕ) (b : Board S) where
    abbrev pub after_read : Board S
    after_read = (run ops (reading l a aim n) b).0

    -- memory at the address m, aimed at cell i: cell after cell from there, and on from FFh to 00h
    abbrev pub FetchesCells : ℕ → ℕ → Type 0
    FetchesCells m k = a ≡ m → ops.busy b.part k ≡ false → (i : ℕ) → i < 256 → aim ≡ i ∷ [] →
        Brings ops b l a aim n (λ j v. v ≡ ops.cell b.part k ((i + j) % 256) % 256)

    -- a DCP, by a byte that names it: the byte of its tap, as often as bytes are wanted
    abbrev pub FetchesTap : ℕ → Type 0
    FetchesTap k = a ≡ 87 → ops.busy b.part k ≡ false → Made ops b → (x j : ℕ) → x < 256 → x % 128 ≡ j → j < 3 → aim ≡ x ∷ [] →
        Brings ops b l a aim n (λ i v. v ≡ byte_for (taps_of j) (ops.tap b.part k j))

    pub record Ds1846Fetches (k : ℕ) : Type 0 where
      pub cells : FetchesCells 81 k
      pub wipers : WipersStill k b after_read

    -- With one aim byte at most the wipers and the latches stay, whether the job is accepted or not: a second is a data byte, which may move a wiper or clear RWEL.
    pub record X9520Fetches (k : ℕ) (chip then : X9520) : Type 0 where
      pub cells : FetchesCells 80 k
      pub tap : FetchesTap k
      pub wipers : length aim ≤ 1 → WipersStill k b after_read
      pub latches : length aim ≤ 1 → then.latches ≡ chip.latches

    -- whether the job is accepted or not, and whoever owns the address, every chip keeps its bytes
    pub record FetchesFrom : Type 0 where
      pub keeps_bytes : (k : ℕ) → KeepsBytes k b after_read
      pub ds1846 : (number : S → ℕ) (see : S → Ds1846) → Direct ops ds1846 number see → ops.owner b.part a ≡ Some (number b.part) → Ds1846Fetches (number b.part)
      pub x9520 : (number : S → ℕ) (see : S → X9520) → Direct ops x9520 number see → ops.owner b.part a ≡ Some (number b.part) →
          X9520Fetches (number b.part) (see b.part) (see after_read.part)

-- Of every read job of one byte or more, with any aim bytes, on every board with idle wires.
unfoldable pub Fetches : {S : Type 0} → Ops S → Type 0
Fetches {S} ops = (l : Levels) (a : ℕ) (aim : List ℕ) (n : ℕ) (b : Board S) → AllBytes aim → 1 ≤ n → a < 128 → b.bus ≡ idle_bus → FetchesFrom ops l a aim n b
