-- What callers need of an offset that is answered, besides which one it is.
use Rattle.std.specs.Prelude.{ℕ, ◌<◌, ◌≤◌, Ok, Err, Result}
use Rattle.refusals.specs.declared.Refusal.{Refusal}

-- the offset answered lies past the one given, and in the file or at its end
abbrev pub Onward : {X : Type 0} → ℕ → ℕ → Result (X × ℕ) Refusal → Type 0
Onward at end (Ok p) = (at < p.1) × (p.1 ≤ end)
Onward at end (Err e) = Unit {0}
