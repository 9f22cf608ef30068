-- What a write leaves in the cells of a memory, in the words of one who writes and reads: the cell that a byte falls on, and the last byte there.
use Rattle.std.specs.Prelude.{◌≡◌, ℕ, ◌+◌, ◌*◌, ◌/◌, ◌%◌, ◌<◌, ◌⊎◌, List, length, slice_index_or, ◌≢◌}

-- Byte number n of the data ds, counted from 0, which begin at cell a: it stays in the page of a, of so many cells.
abbrev pub falls_on : ℕ → ℕ → ℕ → ℕ
falls_on page a n = a / page * page + (a + n) % page

-- the last of the data ds to fall on cell i is v
pub record Last (page a : ℕ) (ds : List ℕ) (i v : ℕ) : Type 0 where
  pub n : ℕ
  pub among : n < length ds
  pub there : falls_on page a n ≡ i
  pub value : slice_index_or ds n 0 ≡ v
  pub no_later : (m : ℕ) → n < m → m < length ds → falls_on page a m ≢ i

-- none of them falls on it
abbrev pub Missed : ℕ → ℕ → List ℕ → ℕ → Type 0
Missed page a ds i = (n : ℕ) → n < length ds → falls_on page a n ≢ i

-- v stands in cell i, where b stood before
abbrev pub Stands : ℕ → ℕ → List ℕ → ℕ → ℕ → ℕ → Type 0
Stands page a ds i b v = Last page a ds i v ⊎ (Missed page a ds i × (v ≡ b))
