-- A chip that is the one numbered part, with number 0, and keeps its cells in an EEPROM: the functions of such a part.
-- k is a numbered part's number, i a cell's, j a wiper's; a is the transfer's address byte, x a byte, l the levels.
use Rattle.std.specs.Prelude.{ℕ, ◌/◌, ◌%◌, Bool, false, cond, not, ◌&&◌, Some, None, Option, ◌==◌}
use Rattle.part.specs.declared.levels.Levels.{Levels}
use Rattle.part.specs.declared.power.PowerCut.{PowerCut}
use Rattle.part.specs.Ops.{Ops, is}
use Rattle.eeprom.specs.declared.Eeprom.{Eeprom}
use Rattle.eeprom.specs.Cells.{byte_at, staged_at, under_way_at, is_busy, finishes}

-- what holds of part 0, or of any other
abbrev pub of_part : {A : Type 0} → ℕ → A → A → A
of_part k mine other = cond (k == 0) mine other

-- an address byte is heard that has one of the chip's addresses, while no write is under way
abbrev pub hears_at : {N : ℕ} → (ℕ → Bool) → Eeprom N → ℕ → Bool
hears_at has e x = has (x / 2) && not (is_busy e)

pub record OnePart (S : Type 0) (N : ℕ) : Type 0 where
  -- its addresses, and how many wipers it has
  pub has : ℕ → Bool
  pub wipers : ℕ
  -- its EEPROM, and the chip with another in its place; where a wiper stands; the address byte heard
  pub eeprom : S → Eeprom N
  pub with_eeprom : S → Eeprom N → S
  pub tap : S → ℕ → ℕ
  pub heard : S → Option ℕ
  -- the moves of a part; a finish alone is the same for every such chip
  pub fresh : S
  pub start : S → S
  pub address : S → ℕ → S
  pub aims : S → ℕ → Levels → ℕ → Bool
  pub aim : S → ℕ → Levels → ℕ → S
  pub takes : S → ℕ → Levels → ℕ → Bool
  pub take : S → ℕ → Levels → ℕ → S
  pub given : S → ℕ → ℕ
  pub give : S → ℕ → S
  pub level : S → Levels → S
  pub stop : S → Bool → Levels → S
  pub cut : S → PowerCut → S

module _ {S : Type 0} {N : ℕ} (c : OnePart S N) where
  abbrev pub part_of : Ops S
  part_of = record {
    count = λ s. 1;
    has = λ s n. c.has n;
    owner = λ s n. cond (c.has n) (Some 0) None;
    cells = λ s k. of_part k N 0;
    wipers = λ s k. of_part k c.wipers 0;
    offset = λ s k i. i % 16;
    cell = λ s k i. of_part k (byte_at (c.eeprom s) i) 0;
    staged = λ s k i. of_part k (staged_at (c.eeprom s) i) None;
    under_way = λ s k i. of_part k (under_way_at (c.eeprom s) i) None;
    busy = λ s k. of_part k (is_busy (c.eeprom s)) false;
    tap = λ s k j. of_part k (c.tap s j) 0;
    heard = λ s x. is x (c.heard s);
    hears = λ s. hears_at c.has (c.eeprom s);
    renew = λ s. c.fresh;
    start = c.start;
    address = c.address;
    aims = c.aims;
    aim = c.aim;
    takes = c.takes;
    take = c.take;
    given = c.given;
    give = c.give;
    level = c.level;
    stop = c.stop;
    finish = λ s k. c.with_eeprom s (of_part k (finishes (c.eeprom s)) (c.eeprom s));
    cut = c.cut;
  }
