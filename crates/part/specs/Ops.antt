-- What a part is, as functions over its state: what can be asked of it, and what moves it.
-- A numbered part is one chip of it, counted from 0; k is its number, i a cell's, j a wiper's.
-- An address has 7 bits; an address byte is an address and then 1 for reading, 0 for writing.
use Rattle.std.specs.Prelude.{ℕ, ◌-◌, Bool, false, cond, Some, None, Option, ◌==◌, nat_lt}
use Rattle.part.specs.declared.levels.Levels.{Levels}
use Rattle.part.specs.declared.power.PowerCut.{PowerCut}

pub record Ops (S : Type 0) : Type 0 where
  -- what no move changes: how many numbered parts it has, its addresses, and the number that owns an address, if one does
  pub count : S → ℕ
  pub has : S → ℕ → Bool
  pub owner : S → ℕ → Option ℕ
  -- how many cells and wipers a numbered part has, and a cell's offset in the mask of a power cut
  pub cells : S → ℕ → ℕ
  pub wipers : S → ℕ → ℕ
  pub offset : S → ℕ → ℕ → ℕ
  -- a cell's stored byte, the value staged for it, and the value that a write under way brings it
  pub cell : S → ℕ → ℕ → ℕ
  pub staged : S → ℕ → ℕ → Option ℕ
  pub under_way : S → ℕ → ℕ → Option ℕ
  -- whether a numbered part has a write under way
  pub busy : S → ℕ → Bool
  -- where a wiper stands
  pub tap : S → ℕ → ℕ → ℕ
  -- whether an address byte is one heard in this transfer, and whether it would be heard now
  pub heard : S → ℕ → Bool
  pub hears : S → ℕ → Bool
  -- every chip in it made fresh, any other part as it was
  pub renew : S → S
  pub start : S → S
  -- an address byte, which gets an ACK exactly when it is heard
  pub address : S → ℕ → S
  -- the first byte after a write address and each later one, under the transfer's address byte: whether it gets an ACK, and the part after it
  pub aims : S → ℕ → Levels → ℕ → Bool
  pub aim : S → ℕ → Levels → ℕ → S
  pub takes : S → ℕ → Levels → ℕ → Bool
  pub take : S → ℕ → Levels → ℕ → S
  -- a byte fetched for sending, under the transfer's address byte, and the part after it
  pub given : S → ℕ → ℕ
  pub give : S → ℕ → S
  -- the levels of a sample; a STOP, clean or not; the end of the writes under way in a numbered part; a power cut
  pub level : S → Levels → S
  pub stop : S → Bool → Levels → S
  pub finish : S → ℕ → S
  pub cut : S → PowerCut → S

-- what is left of a part's number past n parts, or none where it is one of them
abbrev pub past : ℕ → ℕ → Option ℕ
past n k = cond (nat_lt k n) None (Some (k - n))

-- there is a number, and it is k
abbrev pub is : ℕ → Option ℕ → Bool
is k None = false
is k (Some o) = o == k

-- what stands at a number, where there are n
abbrev pub below : {A : Type 0} → ℕ → ℕ → A → Option A
below n i a = cond (nat_lt i n) (Some a) None
