-- A part of one address, 21h, that gives back the last byte written to it. Assumes nothing.
-- Yours: for every state and every byte, in turn or not, what each move of lib.rt leaves and each question answers; a u8 is a ℕ.
use Rattle.std.specs.Prelude.{ℕ, ◌/◌, Bool, cond, Some, None, Option, ◌==◌}
use Rattle.part.specs.Ops.{Ops, is}
use Rattle.part.specs.Bare.{Bare, bare_part}
-- Yours: the struct of src/lib.rt; one of src/state.rt is declared.state.Name
use Rattle.echo.specs.declared.Echo.{Echo}

-- Yours: a state by its fields
abbrev pub state : Option ℕ → ℕ → Echo
state h n = record { heard = h; last = n }

abbrev pub fresh : Echo
fresh = state None 255

-- Yours: which address bytes it hears; here both of 21h, always
abbrev pub hears : ℕ → Bool
hears x = x / 2 == 33

-- Yours: what a byte written does; here it is kept in a transfer that was heard, and in any other it is not
abbrev pub taken : Echo → ℕ → ℕ → Echo
taken s a x = state s.heard (cond (is a s.heard) x s.last)

-- Yours: the fields, which crates/part/specs/Bare.antt explains; s is the state before, a the address byte, x a byte, l the levels
abbrev pub as_bare : Bare Echo
as_bare = record {
  has = λ n. (n == 33);
  heard = λ s. s.heard;
  hears = λ s x. hears x;
  renew = λ s. s;
  start = λ s. state None s.last;
  address = λ s x. state (cond (hears x) (Some x) None) s.last;
  aims = λ s a l x. is a s.heard;
  aim = λ s a l x. taken s a x;
  takes = λ s a l x. is a s.heard;
  take = λ s a l x. taken s a x;
  given = λ s a. s.last;
  give = λ s a. s;
  stop = λ s clean l. state None s.last;
  cut = λ s p. fresh;
}

abbrev pub echo : Ops Echo
echo = bare_part as_bare
