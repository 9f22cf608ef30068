-- Transfers on two wires: each lies from a START to the next START or STOP, or to the end. What lies between sample j and the one before it
-- is `edges j`, the open transfer after j samples is `opens j`, and `cleans j` says whether a STOP at sample j is clean: of a recording, or
-- of a run of a board. A recording takes each LOW ninth bit for an ACK, and a board does not.
use Rattle.std.specs.Prelude.{◌≡◌, ℕ, suc, ◌<◌, ◌≤◌, Bool, true, false, cond, ◌&&◌, ◌⊎◌, List, length, Some, Option, ◌==◌, slice_index_or}
use Rattle.board.specs.Wires.{Edge, steady, started, stopped, rose, fell, Transfer as Open, some_byte, address, value}
use Rattle.reader.specs.declared.transfer.Transfer.{Transfer}

-- the address byte: whole at its eighth rise, and 0 before
abbrev pub address_of : Open → ℕ
address_of t = cond (some_byte t.bytes) (address t.bytes) (cond (length t.bits == 8) (value t.bits) 0)

abbrev pub is_stop : Edge → Bool
is_stop steady = false
is_stop started = false
is_stop stopped = true
is_stop (rose bit) = false
is_stop fell = false

-- START or STOP
abbrev pub Bounds : Edge → Type 0
Bounds e = (e ≡ started) ⊎ (e ≡ stopped)

-- the numbers of a record are those of the transfer t
abbrev pub Shows : Transfer → Open → Type 0
Shows r t = (r.address ≡ address_of t) × (r.ninths ≡ length t.bytes)

module _ (edges : ℕ → Edge) (opens : ℕ → Option Open) (cleans : ℕ → Bool) (n : ℕ) (r : Transfer) where
  -- its last sample is the next START or STOP
  pub record Closed : Type 0 where
    pub later : r.first < r.last
    pub bounds : Bounds (edges r.last)
    pub t : Open
    pub opened : opens r.last ≡ Some t
    pub shows : Shows r t
    pub clean : r.clean ≡ (is_stop (edges r.last) && cleans r.last)

  -- it is left open, and ends with the last sample
  pub record LeftOpen : Type 0 where
    pub at_end : suc r.last ≡ n
    pub on : (j : ℕ) → r.first < j → j < n → Bounds (edges j) → ⊥
    pub t : Open
    pub opened : opens n ≡ Some t
    pub shows : Shows r t
    pub clean : r.clean ≡ false

  -- The record is a transfer of the first n samples.
  pub record IsTransfer : Type 0 where
    pub starts : edges r.first ≡ started
    pub order : r.first ≤ r.last
    pub within : r.last < n
    pub between : (j : ℕ) → r.first < j → j < r.last → Bounds (edges j) → ⊥
    pub ends : Closed ⊎ LeftOpen

-- a record that stands where there is none
abbrev pub no_transfer : Transfer
no_transfer = record { first = 0; last = 0; address = 0; ninths = 0; clean = false }

abbrev pub at : List Transfer → ℕ → Transfer
at rows i = slice_index_or rows i no_transfer

-- The rows are exactly the transfers of the first n samples, in order, each once.
pub record Reads (edges : ℕ → Edge) (opens : ℕ → Option Open) (cleans : ℕ → Bool) (n : ℕ) (rows : List Transfer) : Type 0 where
  pub each : (i : ℕ) → i < length rows → IsTransfer edges opens cleans n (at rows i)
  pub rising : (i : ℕ) → suc i < length rows → (at rows i).first < (at rows (suc i)).first
  pub all : (j : ℕ) → j < n → edges j ≡ started → (i : ℕ) × ((i < length rows) × ((at rows i).first ≡ j))
