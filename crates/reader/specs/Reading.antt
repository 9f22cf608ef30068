-- How a row of transfers grows with each sample of a recording.
use Rattle.std.specs.Prelude.{ℕ, zero, suc, List, [], ◌∷◌, ◌++◌, length, false, Bool, Some, None, Option, ◌&&◌, ◌==◌}
use Rattle.board.specs.Wires.{Edge, steady, started, stopped, rose, fell, Byte, Transfer as Open}
use Rattle.reader.specs.declared.transfer.Transfer.{Transfer}
use Rattle.reader.specs.Recording.{edge_at, open_after}
use Rattle.reader.specs.Transfers.{address_of}

-- a STOP of an open transfer is clean: its last whole byte has a LOW ninth bit, and one bit came since
abbrev pub last_acked : List Byte → Bool
last_acked [] = false
last_acked (x ∷ bs) = x.low

abbrev pub clean_shown : Open → Bool
clean_shown t = (length t.bits == 1) && last_acked t.bytes

-- a transfer of which no more than its START has come
abbrev pub opened : ℕ → Transfer
opened n = record { first = n; last = n; address = 0; ninths = 0; clean = false }

-- it goes on to sample n, where the open transfer is t
abbrev pub prolonged : ℕ → Open → Transfer → Transfer
prolonged n t r = record { first = r.first; last = n; address = address_of t; ninths = length t.bytes; clean = false }

-- it ends at sample n, with whether that is a clean STOP
abbrev pub ended : ℕ → Bool → Transfer → Transfer
ended n clean r = record { first = r.first; last = n; address = r.address; ninths = r.ninths; clean = clean }

-- the last of the rows changed, if there is one
abbrev pub with_last : (Transfer → Transfer) → List Transfer → List Transfer
with_last f [] = []
with_last f (r ∷ []) = f r ∷ []
with_last f (r ∷ (s ∷ rows)) = r ∷ with_last f (s ∷ rows)

-- while a transfer is open, before and after the sample
abbrev pub going_on : ℕ → Option Open → Option Open → List Transfer → List Transfer
going_on n None after rows = rows
going_on n (Some t) None rows = rows
going_on n (Some t) (Some u) rows = with_last (prolonged n u) rows

abbrev pub ending : ℕ → Option Open → (Open → Bool) → List Transfer → List Transfer
ending n None clean rows = rows
ending n (Some t) clean rows = with_last (ended n (clean t)) rows

-- sample n, by what it shows, with the open transfer before and after it
abbrev pub grown : Edge → ℕ → Option Open → Option Open → List Transfer → List Transfer
grown steady n before after rows = going_on n before after rows
grown started n before after rows = ending n before (λ t. false) rows ++ (opened n ∷ [])
grown stopped n before after rows = ending n before clean_shown rows
grown (rose bit) n before after rows = going_on n before after rows
grown fell n before after rows = going_on n before after rows

-- the rows after n samples
abbrev pub rows_after : List ℕ → ℕ → List Transfer
rows_after xs zero = []
rows_after xs (suc n) = grown (edge_at xs n) n (open_after xs n) (open_after xs (suc n)) (rows_after xs n)
