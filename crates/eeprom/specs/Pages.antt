-- The pages of a memory. n is a cell's number.
use Rattle.std.specs.Prelude.{ℕ, ◌+◌, ◌*◌, ◌/◌, ◌%◌}

-- the cell after n in its page of so many cells; after the last of the page comes its first
abbrev pub next_in_page : ℕ → ℕ → ℕ
next_in_page page n = n / page * page + (n % page + 1) % page
