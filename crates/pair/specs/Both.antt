-- Two parts as one. Assumes nothing.
-- k is a numbered part's number and n an address; y is the transfer's address byte, x a byte, l the levels.
use Rattle.std.specs.Prelude.{ℕ, ◌+◌, ◌-◌, ◌/◌, Bool, true, false, cond, ◌||◌, Some, None, Option, nat_lt}
use Rattle.part.specs.Ops.{Ops}
use Rattle.pair.specs.declared.Pair.{Pair}

abbrev pub join : {A B : Type 0} → A → B → Pair A B
join u v = record { first = u; second = v }

-- one part moves, the first or the second, and the other stays as it is
abbrev pub one : {A B : Type 0} → Bool → (A → A) → (B → B) → Pair A B → Pair A B
one true f g s = join (f s.first) s.second
one false f g s = join s.first (g s.second)

-- the numbers of the second's parts come after those of the first's c parts
abbrev pub shift : ℕ → Option ℕ → Option ℕ
shift c None = None
shift c (Some k) = Some (c + k)

module _ {A B : Type 0} (a : Ops A) (b : Ops B) where
  -- whether a number is one of the first's, and what is left of it where it is the second's
  abbrev pub in_first : Pair A B → ℕ → Bool
  in_first s k = nat_lt k (a.count s.first)

  abbrev pub rest : Pair A B → ℕ → ℕ
  rest s k = k - a.count s.first

  -- what is asked of a number is asked of the part that has it
  abbrev pub numbered : {X : Type 0} → (A → ℕ → X) → (B → ℕ → X) → Pair A B → ℕ → X
  numbered f g s k = cond (in_first s k) (f s.first k) (g s.second (rest s k))

  -- an address byte is for the first wherever that has the address, busy or not, and else for the second
  abbrev pub for_first : Pair A B → ℕ → Bool
  for_first s y = a.has s.first (y / 2)

  -- what is asked of an address byte is asked of the part that it is for
  abbrev pub addressed : {X : Type 0} → (A → ℕ → X) → (B → ℕ → X) → Pair A B → ℕ → X
  addressed f g s y = cond (for_first s y) (f s.first y) (g s.second y)

  -- address bytes and the bytes under them reach one part, a finish the part that has the number, and all else both
  abbrev pub both : Ops (Pair A B)
  both = record {
    count = λ s. a.count s.first + b.count s.second;
    has = λ s n. a.has s.first n || b.has s.second n;
    owner = λ s n. cond (a.has s.first n) (a.owner s.first n) (shift (a.count s.first) (b.owner s.second n));
    cells = numbered a.cells b.cells;
    wipers = numbered a.wipers b.wipers;
    offset = numbered a.offset b.offset;
    cell = numbered a.cell b.cell;
    staged = numbered a.staged b.staged;
    under_way = numbered a.under_way b.under_way;
    busy = numbered a.busy b.busy;
    tap = numbered a.tap b.tap;
    heard = addressed a.heard b.heard;
    hears = addressed a.hears b.hears;
    renew = λ s. join (a.renew s.first) (b.renew s.second);
    start = λ s. join (a.start s.first) (b.start s.second);
    address = λ s x. one (for_first s x) (λ u. a.address u x) (λ v. b.address v x) s;
    aims = λ s y l x. cond (for_first s y) (a.aims s.first y l x) (b.aims s.second y l x);
    aim = λ s y l x. one (for_first s y) (λ u. a.aim u y l x) (λ v. b.aim v y l x) s;
    takes = λ s y l x. cond (for_first s y) (a.takes s.first y l x) (b.takes s.second y l x);
    take = λ s y l x. one (for_first s y) (λ u. a.take u y l x) (λ v. b.take v y l x) s;
    given = addressed a.given b.given;
    give = λ s y. one (for_first s y) (λ u. a.give u y) (λ v. b.give v y) s;
    level = λ s l. join (a.level s.first l) (b.level s.second l);
    stop = λ s clean l. join (a.stop s.first clean l) (b.stop s.second clean l);
    finish = λ s k. one (in_first s k) (λ u. a.finish u k) (λ v. b.finish v (rest s k)) s;
    cut = λ s p. join (a.cut s.first p) (b.cut s.second p);
  }
