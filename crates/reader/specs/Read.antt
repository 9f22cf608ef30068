-- What a reading answers, and what becomes of the row.
use Rattle.std.specs.Prelude.{◌≡◌, ℕ, Bool, true, false, cond, List, length, nat_lt}
use Rattle.std.specs.List.{list_all}
use Rattle.refusals.specs.Told.{Told, ok, refused}
use Rattle.rows.specs.declared.row.Row.{Row}
use Rattle.rows.specs.Rows.{Grown}
use Rattle.reader.specs.declared.transfer.Transfer.{Transfer}
use Rattle.reader.specs.Reading.{rows_after}
use Rattle.reader.specs.Recording.{edge_at, open_after, clean_at}
use Rattle.reader.specs.Transfers.{Reads}

-- no byte has bit 5, 6 or 7 set
abbrev pub readable : List ℕ → Bool
readable xs = list_all (λ x. nat_lt x 32) xs

abbrev pub transfers : List ℕ → List Transfer
transfers xs = rows_after xs (length xs)

-- in the words of the wires: the rows are the transfers of the recording, in order, each once
abbrev pub ReadsAll : List ℕ → List Transfer → Type 0
ReadsAll xs rows = Reads (edge_at xs) (open_after xs) (clean_at xs) (length xs) rows

-- and no other list is
unfoldable pub Exactly : List ℕ → List Transfer → Type 0
Exactly xs rows = ReadsAll xs rows × ((others : List Transfer) → ReadsAll xs others → others ≡ rows)

-- how many transfers there are
abbrev pub counted : List ℕ → Told ℕ
counted xs = cond (readable xs) (ok (length (transfers xs))) (refused 1 0)

-- A recording, whether it is readable, whether the row has room for all its transfers, the row before and after, and what is told:
-- its transfers are appended, or the row is as it was.
abbrev pub Read : Bool → Bool → List ℕ → Row Transfer → Row Transfer → Told (Unit {0}) → Type 0
Read false room xs before after answer = (after ≡ before) × (answer ≡ refused 1 0)
Read true false xs before after answer = (after ≡ before) × (answer ≡ refused 9 0)
Read true true xs before after answer = Grown before (transfers xs) after × (answer ≡ ok tt)
