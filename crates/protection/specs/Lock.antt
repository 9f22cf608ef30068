-- What a register byte locks, by its bits 4 and 3, and what WP forbids.
use Rattle.std.specs.Prelude.{Bool, true, false, cond, not, ◌&&◌, ◌||◌, ℕ, ◌/◌, ◌%◌, ◌==◌, nat_le}
use Rattle.protection.specs.declared.lock.Lock.{Lock}
use Rattle.protection.specs.declared.lock.Lock.TheVariants.{Nothing, LastQuarter, LastHalf, All}

abbrev pub lock_bits : ℕ → ℕ
lock_bits r = r / 8 % 4

-- the kinds of locks by these bits
abbrev pub lock_of : ℕ → Lock
lock_of r =
    cond (lock_bits r == 0) Nothing (
    cond (lock_bits r == 1) LastQuarter (
    cond (lock_bits r == 2) LastHalf All))

-- of the 256 memory cells none, the last quarter, the last half, or all
abbrev pub locks_memory : ℕ → ℕ → Bool
locks_memory r i =
    cond (lock_bits r == 0) false (
    cond (lock_bits r == 1) (nat_le 192 i) (
    cond (lock_bits r == 2) (nat_le 128 i) true))

-- the wipers and the stored wipers: wherever some memory is locked
abbrev pub locks_wipers : ℕ → Bool
locks_wipers r = not (lock_bits r == 0)

-- WP HIGH forbids stored writes, and every write while something is locked.
abbrev pub wp_forbids : Bool → Bool → ℕ → Bool
wp_forbids stores wp r = wp && (stores || locks_wipers r)
