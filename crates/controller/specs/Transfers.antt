-- The count of the bytes sent in a job.
use Rattle.std.specs.Prelude.{◌≡◌, ℕ, ◌+◌, ◌-◌, ◌^◌, min, Ok, Err, Result}
use Rattle.refusals.specs.declared.Refusal.{Refusal}

-- one byte more, where the count has not run full
abbrev pub counted : ℕ → ℕ
counted n = min (n + 1) (2 ^ 64 - 1)

-- the count is n where every byte got its ACK
abbrev pub Sent : ℕ → ℕ → Result (Unit {0}) Refusal → Type 0
Sent n count (Ok _) = count ≡ n
Sent n count (Err _) = Unit {0}
