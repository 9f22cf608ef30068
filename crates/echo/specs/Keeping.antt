-- It keeps the laws of a part: they follow from what each move does to the address byte heard. Assumes nothing.
use Rattle.std.specs.Prelude.{refl}
use Rattle.std.proofs.Common.{inl, inr}
use Rattle.part.specs.Keeps.{Keeps}
use Rattle.part.proofs.Bare.{BareMoves, keeps_bare, heard_if}
use Rattle.echo.specs.Chip.{as_bare, echo, hears}

-- Yours: of aim, take, give and stop, whether what was heard stays (inl refl) or none is heard (inr refl); after start and cut none is
moves : BareMoves as_bare
moves = record {
  hears = λ s x h. h;
  start = λ s. refl;
  address = λ s x. heard_if (hears x) x;
  aim = λ s a l x. inl refl;
  take = λ s a l x. inl refl;
  give = λ s a. inl refl;
  stop = λ s clean l. inr refl;
  cut = λ s p. refl;
}

pub keeps_echo : Keeps echo
keeps_echo = keeps_bare as_bare moves
