-- What one sample does to the reader and to its row. Between samples the reader keeps the last of them and what `Kept` says.
use Rattle.std.specs.Prelude.{◌≡◌, ℕ, zero, suc, false, List, [], ◌∷◌, ◌++◌, Some, None, Option, option_map, slice_index_or}
use Rattle.rows.specs.declared.row.Row.{Row}
use Rattle.rows.specs.Rows.{Grown}
use Rattle.board.specs.Wires.{Edge, Transfer as Open, edge}
use Rattle.reader.specs.declared.kept.Kept.{Kept}
use Rattle.reader.specs.declared.reader.Reader.{Reader}
use Rattle.reader.specs.declared.transfer.Transfer.{Transfer}
use Rattle.reader.specs.Kept.{kept_of, kept_address, kept_next, wires_at}
use Rattle.reader.specs.Reading.{clean_shown, opened, with_last, going_on, ending, grown}
use Rattle.reader.specs.Recording.{open_after}
use Rattle.reader.specs.Transfers.{Shows}

-- the last of n samples; before the first both wires count as HIGH
abbrev pub sample_after : List ℕ → ℕ → ℕ
sample_after xs zero = 3
sample_after xs (suc n) = slice_index_or xs n 0

-- what the reader keeps after n samples
abbrev pub reader_after : List ℕ → ℕ → Reader
reader_after xs n = record { sample = sample_after xs n; opened = option_map kept_of (open_after xs n) }

-- what one sample more shows, and what is kept then
abbrev pub seen : ℕ → Reader → Edge
seen x r = let v = wires_at r.sample in let w = wires_at x in edge v.scl w.scl v.sda w.sda

abbrev pub stepped : ℕ → Reader → Reader
stepped x r = record { sample = x; opened = kept_next (seen x r) r.opened }

-- a record that goes on to sample n, by what is kept of its transfer
abbrev pub kept_prolonged : ℕ → Kept → Transfer → Transfer
kept_prolonged n k r = record { first = r.first; last = n; address = kept_address k; ninths = k.ninths; clean = false }

-- the last of the records that a row grew by changes
abbrev pub Changes : (Transfer → Transfer) → Row Transfer → Row Transfer → Type 0
Changes f before after = (start : Row Transfer) (r : Transfer) (rows : List Transfer) → Grown start (r ∷ rows) before → Grown start (with_last f (r ∷ rows)) after

-- one record more
abbrev pub Begins : ℕ → Row Transfer → Row Transfer → Type 0
Begins n before after = (start : Row Transfer) (rows : List Transfer) → Grown start rows before → Grown start (rows ++ (opened n ∷ [])) after

-- where a transfer is open, the last record shows it
abbrev pub HasLast : Option Open → List Transfer → Type 0
HasLast None rows = Unit {0}
HasLast (Some t) [] = ⊥
HasLast (Some t) (r ∷ []) = Shows r t
HasLast (Some t) (r ∷ (s ∷ rows)) = HasLast (Some t) (s ∷ rows)

-- The row after sample n, where `rows` are the records and o is the open transfer. It grew by all of them as they are, but
-- that the record of an open transfer, which is the last of them, may have an earlier last sample than n.
pub record Stands (start : Row Transfer) (n : ℕ) (o : Option Open) (rows : List Transfer) (row : Row Transfer) : Type 0 where
  pub written : List Transfer
  pub last : HasLast o written
  pub reached : ending n o (λ t. false) written ≡ rows
  pub grown : Grown start written row

module _ (n : ℕ) (before : Option Kept) (old new : Row Transfer) where
  -- an open transfer's record reaches sample n and is otherwise as it was, or ends there with its STOP
  abbrev pub Reaches : Type 0
  Reaches = (t : Option Open) → before ≡ option_map kept_of t → (start : Row Transfer) (rows : List Transfer) → HasLast t rows → Grown start rows old → Grown start (ending n t (λ t. false) rows) new

  abbrev pub Stopped : Type 0
  Stopped = (t : Option Open) → before ≡ option_map kept_of t → (start : Row Transfer) (rows : List Transfer) → HasLast t rows → Grown start rows old → Grown start (ending n t clean_shown rows) new

module _ (n : ℕ) (before after : Option Kept) (old new : Row Transfer) where
  -- a row that stands for the records after some sample stands after sample n for what becomes of them
  abbrev pub Turns : (Option Open → Option Open → List Transfer → List Transfer) → Type 0
  Turns by = (t u : Option Open) → before ≡ option_map kept_of t → after ≡ option_map kept_of u
      → (start : Row Transfer) (m : ℕ) (rows : List Transfer) → Stands start m t rows old → Stands start n u (by t u rows) new

  abbrev pub GoesOn : Type 0
  GoesOn = Turns (going_on n)

-- the row grows by sample n as the recording's rows do
abbrev pub Grows : Edge → ℕ → Option Kept → Option Kept → Row Transfer → Row Transfer → Type 0
Grows e n before after old new = Turns n before after old new (grown e n)
