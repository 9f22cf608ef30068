-- A part with no numbered part, so with no cells, no writes and no wipers: what it says of itself, and its functions as a part.
-- Levels by themselves do not move it; a is the transfer's address byte, x a byte, l the levels.
use Rattle.std.specs.Prelude.{ℕ, Bool, false, None, Option}
use Rattle.part.specs.declared.levels.Levels.{Levels}
use Rattle.part.specs.declared.power.PowerCut.{PowerCut}
use Rattle.part.specs.Ops.{Ops, is}

pub record Bare (S : Type 0) : Type 0 where
  -- its addresses; the address byte heard in this transfer; whether an address byte would be heard now
  pub has : ℕ → Bool
  pub heard : S → Option ℕ
  pub hears : S → ℕ → Bool
  -- the moves of a part
  pub renew : S → S
  pub start : S → S
  pub address : S → ℕ → S
  pub aims : S → ℕ → Levels → ℕ → Bool
  pub aim : S → ℕ → Levels → ℕ → S
  pub takes : S → ℕ → Levels → ℕ → Bool
  pub take : S → ℕ → Levels → ℕ → S
  pub given : S → ℕ → ℕ
  pub give : S → ℕ → S
  pub stop : S → Bool → Levels → S
  pub cut : S → PowerCut → S

abbrev pub bare_part : {S : Type 0} → Bare S → Ops S
bare_part b = record {
  count = λ s. 0;
  has = λ s n. b.has n;
  owner = λ s n. None;
  cells = λ s k. 0;
  wipers = λ s k. 0;
  offset = λ s k i. 0;
  cell = λ s k i. 0;
  staged = λ s k i. None;
  under_way = λ s k i. None;
  busy = λ s k. false;
  tap = λ s k j. 0;
  heard = λ s x. is x (b.heard s);
  hears = b.hears;
  renew = b.renew;
  start = b.start;
  address = b.address;
  aims = b.aims;
  aim = b.aim;
  takes = b.takes;
  take = b.take;
  given = b.given;
  give = b.give;
  level = λ s l. s;
  stop = b.stop;
  finish = λ s k. s;
  cut = b.cut;
}
