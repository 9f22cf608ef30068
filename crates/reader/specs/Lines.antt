-- The text of a transfer's line, and of a refusal's.
use Rattle.std.specs.Prelude.{ℕ, List, ◌++◌, codes, decimal}
use Rattle.refusals.specs.declared.Refusal.{Refusal}
use Rattle.refusals.specs.Told.{number}
use Rattle.board.specs.Samples.{bit_value}
use Rattle.reader.specs.declared.transfer.Transfer.{Transfer}

-- the five numbers of a record
abbrev pub transfer_text : Transfer → List ℕ
transfer_text r =
    decimal r.first ++ (codes " " ++ (decimal r.last ++ (codes " " ++ (decimal r.address ++ (codes " " ++ (decimal r.ninths ++ (codes " " ++ decimal (bit_value r.clean))))))))

abbrev pub refused_text : Refusal → List ℕ
refused_text r = codes "no " ++ decimal (number r)
