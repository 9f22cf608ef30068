-- What the register byte locks among all cells: the memory by number, and the three stored wipers with the wipers. Assumes nothing.
use Rattle.std.specs.Prelude.{ℕ, Bool, cond, ◌&&◌, nat_lt}
use Rattle.protection.specs.Lock.{locks_memory, locks_wipers}

-- cells 0 to 255 are the memory, 256 to 258 the stored wipers; the register byte itself is never locked
abbrev pub locks : ℕ → ℕ → Bool
locks r i = cond (nat_lt i 256) (locks_memory r i) (nat_lt i 259 && locks_wipers r)
