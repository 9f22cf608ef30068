-- The reader and the board: the recording of a run of samples, read back, shows the transfers of that run.
use Rattle.std.specs.Prelude.{◌≡◌, ℕ, suc, ◌+◌, ◌*◌, ◌<◌, true, false, ◌⊎◌, List, [], ◌∷◌, length, Some, Option, slice_index_or}
use Rattle.part.specs.Ops.{Ops}
use Rattle.board.specs.declared.board.Board.{Board}
use Rattle.board.specs.declared.call.Call.{Call}
use Rattle.board.specs.declared.call.Call.TheVariants.{Sample}
use Rattle.board.specs.Engine.{idle_bus}
use Rattle.board.specs.Samples.{bit_value}
use Rattle.board.specs.Wires.{stopped, Byte, Transfer as Open, all_acked, sending, clean}
use Rattle.board.specs.Runs.{state, history, edge_at as run_edge}
use Rattle.reader.specs.declared.transfer.Transfer.{Transfer}
use Rattle.reader.specs.Recording.{edge_at, open_after, clean_at}
use Rattle.reader.specs.Transfers.{at, Reads}

-- The last whole byte has a LOW ninth bit, and the run did not acknowledge it: a byte before it was not acknowledged, so that the parts are
-- deaf, or it was sent and no part pulled.
abbrev pub HeldLow : List Byte → Type 0
HeldLow [] = ⊥
HeldLow (x ∷ bs) = (x.low ≡ true) × ((all_acked bs ≡ false) ⊎ ((sending bs ≡ true) × (x.pulled ≡ false)))

module _ {S : Type 0} (ops : Ops S) (b : Board S) (samples : ℕ → ℕ) where
  -- the run of these samples
  abbrev pub calls : ℕ → Call
  calls j = Sample (samples j)

  -- xs is the recording of its first n samples: the levels of the wires after each
  abbrev pub Records : ℕ → List ℕ → Type 0
  Records n xs = (length xs ≡ n) × ((j : ℕ) → j < n → let c = state ops b calls (suc j) in slice_index_or xs j 0 ≡ bit_value c.bus.scl + 2 * bit_value c.bus.sda)

  abbrev pub ongoing_at : ℕ → Option Open
  ongoing_at n = (history ops b calls n).ongoing

  -- A record of the recording, r, and one of the run, s: the same, but that r calls a STOP clean which is not,
  -- where it comes one rise after a byte with a LOW ninth bit that is no ACK in the run. Elsewhere it never does, and there it always does.
  pub record Alike (r s : Transfer) : Type 0 where
    pub first : r.first ≡ s.first
    pub last : r.last ≡ s.last
    pub address : r.address ≡ s.address
    pub ninths : r.ninths ≡ s.ninths
    pub clean : (r.clean ≡ s.clean) ⊎ ((r.clean ≡ true) × (s.clean ≡ false) × ((t : Open) × ((ongoing_at r.last ≡ Some t) × HeldLow t.bytes)))
    pub held : (t : Open) → ongoing_at r.last ≡ Some t → run_edge ops b calls r.last ≡ stopped → length t.bits ≡ 1 → HeldLow t.bytes → r.clean ≡ true

  -- the transfers of the run's first n samples, beside those read from its recording
  pub record Agrees (n : ℕ) (rows : List Transfer) : Type 0 where
    pub own : List Transfer
    pub reads : Reads (run_edge ops b calls) ongoing_at (λ j. clean (ongoing_at j)) n own
    pub many : length rows ≡ length own
    pub alike : (i : ℕ) → i < length rows → Alike (at rows i) (at own i)

-- For every run of samples from idle wires: both HIGH, no transfer open.
unfoldable pub ReadsRuns : {S : Type 0} → Ops S → Type 0
ReadsRuns {S} ops = (b : Board S) → b.bus ≡ idle_bus → (samples : ℕ → ℕ) (n : ℕ) (xs : List ℕ) → Records ops b samples n xs →
    (rows : List Transfer) → Reads (edge_at xs) (open_after xs) (clean_at xs) n rows → Agrees ops b samples n rows
