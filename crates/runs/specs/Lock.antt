-- The lock of an X9520: what must have been written to its register before a locked byte or wiper differs. What a register byte locks, and when
-- WP forbids one to be written, is said here by cases and in numbers, and by nothing that the chip itself is made of.
use Rattle.std.specs.Prelude.{◌≡◌, ℕ, suc, ◌/◌, ◌<◌, ◌≤◌, Bool, true, false, ◌&&◌, ◌||◌, ◌⊎◌, [], ◌∷◌, Some, is_some, nat_le}
use Rattle.part.specs.Ops.{Ops}
use Rattle.part.specs.Seats.{Seat}
use Rattle.x9520.specs.declared.state.X9520.{X9520}
use Rattle.x9520.specs.Chip.{x9520}
use Rattle.board.specs.declared.board.Board.{Board}
use Rattle.board.specs.declared.call.Call.{Call}
use Rattle.board.specs.Samples.{odd}
use Rattle.board.specs.Wires.{stopped, Transfer, is_clean, values}
use Rattle.board.specs.Runs.{IsCut, edge_of, state, history}
use Rattle.board.specs.Cause.{wp_of, EachPulled}

-- the bits of a register byte that lock, BL1 and BL0
abbrev pub bl1 : ℕ → Bool
bl1 r = odd (r / 16)

abbrev pub bl0 : ℕ → Bool
bl0 r = odd (r / 8)

abbrev pub within : ℕ → ℕ → ℕ → Bool
within from to i = nat_le from i && nat_le i to

-- the stored wipers
abbrev pub stored_wiper : ℕ → Bool
stored_wiper i = within 256 258 i

-- Which cells BL1 and BL0 lock: none, the last quarter of the memory, its last half, or all of it, and with it the stored wipers.
abbrev pub cells_locked : Bool → Bool → ℕ → Bool
cells_locked false false i = false
cells_locked false true i = within 0xc0 0xff i || stored_wiper i
cells_locked true false i = within 0x80 0xff i || stored_wiper i
cells_locked true true i = within 0x00 0xff i || stored_wiper i

abbrev pub wipers_locked : Bool → Bool → Bool
wipers_locked false false = false
wipers_locked false true = true
wipers_locked true false = true
wipers_locked true true = true

-- what a register byte locks: a cell, and the wipers
abbrev pub locks_cell : ℕ → ℕ → Bool
locks_cell r i = cells_locked (bl1 r) (bl0 r) i

abbrev pub locks_wipers : ℕ → Bool
locks_wipers r = wipers_locked (bl1 r) (bl0 r)

-- A write to the register, to be stored or for the latches, is forbidden by WP HIGH: a stored one always, the other where something is locked.
abbrev pub forbidden : (stored wp locked : Bool) → Bool
forbidden stored false locked = false
forbidden true true locked = true
forbidden false true locked = locked

module _ {S : Type 0} (ops : Ops S) (b : Board S) (calls : ℕ → Call) (k : ℕ) where
  -- the register byte of part k, as it is stored, and whether another is staged for it
  abbrev pub register : ℕ → ℕ
  register n = ops.cell (state ops b calls n).part k 259

  abbrev pub stores_register : ℕ → Bool
  stores_register n = is_some (ops.staged (state ops b calls n).part k 259)

  -- Call n writes the byte v to the register of the X9520 with number k: it is the clean STOP of a transfer of A4h, which k owns, FFh and v,
  -- each acknowledged, and WP does not forbid it.
  pub record Registers (n v : ℕ) : Type 0 where
    pub stop : edge_of ops (state ops b calls n) (calls n) (state ops b calls (suc n)) ≡ stopped
    pub t : Transfer
    pub ongoing : (history ops b calls n).ongoing ≡ Some t
    pub clean : is_clean t ≡ true
    pub sent : values t.bytes ≡ v ∷ (0xff ∷ (0xa4 ∷ []))
    pub acked : EachPulled t.bytes
    pub mine : ops.owner (state ops b calls n).part 0x52 ≡ Some k
    pub passes : forbidden (stores_register n) (wp_of (calls n)) (locks_wipers (register n)) ≡ false

  -- from call m to call n, both with them, none is a power cut, and none writes 00h
  abbrev pub Unbroken : ℕ → ℕ → Type 0
  Unbroken m n = (j : ℕ) → m ≤ j → j ≤ n → (IsCut (calls j) → ⊥) × (Registers j 0 → ⊥)

  -- From state p to state q the register was opened: 02h, 06h and a byte that does not lock were written to it in that order, unbroken,
  -- and the last one in between, with WP LOW. Between 06h and that byte nothing else was written to it but bytes that change nothing,
  -- those with bits 2 and 1 set.
  pub record Opened (lock : ℕ → Bool) (p q : ℕ) : Type 0 where
    pub first : ℕ
    pub second : ℕ
    pub third : ℕ
    pub byte : ℕ
    pub second_later : first < second
    pub third_later : second < third
    pub from : p ≤ third
    pub to : third < q
    pub enables : Registers first 0x02
    pub arms : Registers second 0x06
    pub unlocks : Registers third byte
    pub low : wp_of (calls third) ≡ false
    pub unlocking : lock byte ≡ false
    pub unbroken : Unbroken first third
    pub alone : (j v : ℕ) → second < j → j < third → Registers j v → (odd (v / 2) ≡ true) × (odd (v / 4) ≡ true)

  -- a byte, or a wiper with no power cut between, that is locked in state p and differs in state q
  pub record Locked (p q : ℕ) : Type 0 where
    pub byte : (i : ℕ) → locks_cell (register p) i ≡ true →
        (ops.cell (state ops b calls q).part k i ≡ ops.cell (state ops b calls p).part k i) ⊎ Opened (λ r. locks_cell r i) p q
    pub wiper : (j : ℕ) → locks_wipers (register p) ≡ true → ((n : ℕ) → p ≤ n → n < q → IsCut (calls n) → ⊥) →
        (ops.tap (state ops b calls q).part k j ≡ ops.tap (state ops b calls p).part k j) ⊎ Opened locks_wipers p q

-- The lock holds of the X9520 with number k: in every run of the board, from any state with nothing under way in it to any later one.
unfoldable pub LockHolds : {S : Type 0} → Ops S → Board S → ℕ → Type 0
LockHolds ops b k = (calls : ℕ → Call) (p q : ℕ) → p ≤ q → ops.busy (state ops b calls p).part k ≡ false → Locked ops b calls k p q

-- and so of every X9520 on the board, alone or however deep in pairs or layers
unfoldable pub Locks : {S : Type 0} → Ops S → Board S → Type 0
Locks {S} ops b = (number : S → ℕ) (see : S → X9520) → Seat ops x9520 number see → LockHolds ops b (number b.part)
