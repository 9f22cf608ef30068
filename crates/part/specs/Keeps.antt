-- What a part must keep to, in every state: what each move may do, and what it must. Assumes nothing of any one chip.
use Rattle.std.specs.Prelude.{◌≡◌, ℕ, ◌/◌, ◌%◌, ◌^◌, ◌<◌, ◌≤◌, Bool, true, false, ◌⊎◌, Some, None, ◌≢◌}
use Rattle.std.specs.Option.{unwrap_or}
use Rattle.part.specs.declared.levels.Levels.{Levels}
use Rattle.part.specs.declared.power.PowerCut.{PowerCut}
use Rattle.part.specs.Ops.{Ops}

module _ {S : Type 0} (ops : Ops S) where
  -- a state by itself: owners are numbers of the part, and own addresses of the part; offsets have four bits;
  -- writes are to cells that there are; busy means that a write is under way; only its own addresses are heard
  pub record Shape (s : S) : Type 0 where
    pub owner_in : (a k : ℕ) → ops.owner s a ≡ Some k → k < ops.count s
    pub owner_has : (a k : ℕ) → ops.owner s a ≡ Some k → ops.has s a ≡ true
    pub offset_in : (k i : ℕ) → ops.offset s k i < 16
    pub cells_in : (k : ℕ) → ops.count s ≤ k → ops.cells s k ≡ 0
    pub wipers_in : (k : ℕ) → ops.count s ≤ k → ops.wipers s k ≡ 0
    pub staged_in : (k i v : ℕ) → ops.staged s k i ≡ Some v → i < ops.cells s k
    pub under_way_in : (k i v : ℕ) → ops.under_way s k i ≡ Some v → i < ops.cells s k
    pub busy_if : (k i v : ℕ) → ops.under_way s k i ≡ Some v → ops.busy s k ≡ true
    pub busy_by : (k : ℕ) → ops.busy s k ≡ true → (i : ℕ) × ((v : ℕ) × (ops.under_way s k i ≡ Some v))
    pub hears_has : (x : ℕ) → ops.hears s x ≡ true → ops.has s (x / 2) ≡ true

  -- from s to t, what no move changes
  pub record Fixed (s t : S) : Type 0 where
    pub count : ops.count t ≡ ops.count s
    pub has : (a : ℕ) → ops.has t a ≡ ops.has s a
    pub owner : (a : ℕ) → ops.owner t a ≡ ops.owner s a
    pub cells : (k : ℕ) → ops.cells t k ≡ ops.cells s k
    pub wipers : (k : ℕ) → ops.wipers t k ≡ ops.wipers s k
    pub offset : (k i : ℕ) → ops.offset t k i ≡ ops.offset s k i

  -- no stored byte changes, and no write under way comes, goes or changes
  pub record Stored (s t : S) : Type 0 where
    pub cell : (k i : ℕ) → ops.cell t k i ≡ ops.cell s k i
    pub under_way : (k i : ℕ) → ops.under_way t k i ≡ ops.under_way s k i

  -- a staged write stays or goes; nothing is staged
  abbrev pub Fades : S → S → Type 0
  Fades s t = (k i : ℕ) → (ops.staged t k i ≡ ops.staged s k i) ⊎ (ops.staged t k i ≡ None)

  abbrev pub Unstaged : S → Type 0
  Unstaged t = (k i : ℕ) → ops.staged t k i ≡ None

  -- nothing is staged in the part that owns the address a, if one does
  abbrev pub UnstagedAt : S → ℕ → S → Type 0
  UnstagedAt s a t = (k i : ℕ) → ops.owner s a ≡ Some k → ops.staged t k i ≡ None

  -- what is heard was heard before; nothing is heard
  abbrev pub Forgets : S → S → Type 0
  Forgets s t = (x : ℕ) → ops.heard t x ≡ true → ops.heard s x ≡ true

  abbrev pub Unheard : S → Type 0
  Unheard t = (x : ℕ) → ops.heard t x ≡ false

  -- no wiper moves
  abbrev pub Still : S → S → Type 0
  Still s t = (k j : ℕ) → ops.tap t k j ≡ ops.tap s k j

  -- a move that stages nothing, stores nothing and hears nothing new
  pub record Calm (s t : S) : Type 0 where
    pub fixed : Fixed s t
    pub stored : Stored s t
    pub fades : Fades s t
    pub forgets : Forgets s t

  pub record Starts (s t : S) : Type 0 where
    pub calm : Calm s t
    pub unstaged : Unstaged t
    pub unheard : Unheard t

  -- an address byte x: only by an ACK is it the address heard
  pub record Addresses (s : S) (x : ℕ) (t : S) : Type 0 where
    pub fixed : Fixed s t
    pub stored : Stored s t
    pub fades : Fades s t
    pub still : Still s t
    pub heard : (y : ℕ) → ops.heard t y ≡ true → (ops.heard s y ≡ true) ⊎ ((y ≡ x) × (ops.hears s x ≡ true))

  -- the first byte after a write address, under the address byte a
  pub record Aims (s : S) (a : ℕ) (ack : Bool) (t : S) : Type 0 where
    pub calm : Calm s t
    pub still : Still s t
    pub unacked : ack ≡ false → UnstagedAt s (a / 2) t

  -- a later byte x under the address byte a: with an ACK one write of x may be staged, in the part that owns the address, and a wiper may move;
  -- without one nothing stays staged there, nothing comes to be staged elsewhere, and no wiper moves
  pub record Takes (s : S) (a x : ℕ) (ack : Bool) (t : S) : Type 0 where
    pub fixed : Fixed s t
    pub stored : Stored s t
    pub forgets : Forgets s t
    pub acked : ack ≡ true → (n : ℕ) × ((k i : ℕ) →
        (ops.staged t k i ≡ ops.staged s k i)
        ⊎ ((ops.staged t k i ≡ None)
        ⊎ ((i ≡ n) × (ops.owner s (a / 2) ≡ Some k) × (ops.staged t k i ≡ Some x))))
    pub unacked : ack ≡ false → UnstagedAt s (a / 2) t × Fades s t × Still s t

  -- a byte fetched for sending, and the levels
  pub record Passes (s t : S) : Type 0 where
    pub calm : Calm s t
    pub still : Still s t

  -- a STOP: a write under way stays; one comes only out of a staged write, where the STOP is clean and WP LOW; nothing is staged afterwards
  pub record Stops (s : S) (clean : Bool) (l : Levels) (t : S) : Type 0 where
    pub fixed : Fixed s t
    pub cell : (k i : ℕ) → ops.cell t k i ≡ ops.cell s k i
    pub under_way : (k i : ℕ) →
        (ops.under_way t k i ≡ ops.under_way s k i)
        ⊎ ((ops.under_way s k i ≡ None) × (clean ≡ true) × (l.wp ≡ false) × (ops.under_way t k i ≡ ops.staged s k i))
    pub unstaged : Unstaged t
    pub forgets : Forgets s t

  -- A finish of part q stores all that is under way there, and leaves none; a cell with nothing under way keeps its byte. Every other part is as it was,
  -- and so is what was heard, and would be heard, under the addresses that it owns; but a layer over several parts may hear nothing while a write is
  -- under way in any of them, and the end of that write then lets it hear again.
  pub record Finishes (s : S) (q : ℕ) (t : S) : Type 0 where
    pub fixed : Fixed s t
    pub stores : (i : ℕ) → ops.cell t q i ≡ unwrap_or (ops.under_way s q i) (ops.cell s q i)
    pub ends : (i : ℕ) → ops.under_way t q i ≡ None
    pub fades : Fades s t
    pub forgets : Forgets s t
    pub other_cell : (k i : ℕ) → (k ≢ q) → ops.cell t k i ≡ ops.cell s k i
    pub other_under_way : (k i : ℕ) → (k ≢ q) → ops.under_way t k i ≡ ops.under_way s k i
    pub other_staged : (k i : ℕ) → (k ≢ q) → ops.staged t k i ≡ ops.staged s k i
    pub other_tap : (k j : ℕ) → (k ≢ q) → ops.tap t k j ≡ ops.tap s k j
    pub other_heard : (k x : ℕ) → (k ≢ q) → ops.owner s (x / 2) ≡ Some k → ops.heard t x ≡ ops.heard s x
    pub other_hears : (k x : ℕ) → (k ≢ q) → ops.owner s (x / 2) ≡ Some k
        → (ops.hears t x ≡ ops.hears s x) ⊎ ((ops.busy s q ≡ true) × (ops.hears t x ≡ true))

  -- bit n of a number is 1
  abbrev pub Marked : ℕ → ℕ → Type 0
  Marked m n = m / 2 ^ n % 2 ≡ 1

  -- a power cut stores exactly the writes under way whose offset is marked in its mask; nothing is under way, staged or heard afterwards
  pub record Cuts (s : S) (p : PowerCut) (t : S) : Type 0 where
    pub fixed : Fixed s t
    pub marked : (k i : ℕ) → Marked p.mask (ops.offset s k i) → ops.cell t k i ≡ unwrap_or (ops.under_way s k i) (ops.cell s k i)
    pub unmarked : (k i : ℕ) → (Marked p.mask (ops.offset s k i) → ⊥) → ops.cell t k i ≡ ops.cell s k i
    pub ends : (k i : ℕ) → ops.under_way t k i ≡ None
    pub unstaged : Unstaged t
    pub unheard : Unheard t

  -- the levels l are known: given again, they change nothing
  abbrev pub Settled : Levels → S → Type 0
  Settled l s = ops.level s l ≡ s

  -- The same levels again change nothing, also when a START or bytes at these levels lay between.
  pub record Settles : Type 0 where
    pub after_level : (s : S) (l : Levels) → Settled l (ops.level s l)
    pub after_start : (s : S) (l : Levels) → Settled l s → Settled l (ops.start s)
    pub after_address : (s : S) (l : Levels) (x : ℕ) → Settled l s → Settled l (ops.address s x)
    pub after_aim : (s : S) (l : Levels) (a x : ℕ) → Settled l s → Settled l (ops.aim s a l x)
    pub after_take : (s : S) (l : Levels) (a x : ℕ) → Settled l s → Settled l (ops.take s a l x)
    pub after_give : (s : S) (l : Levels) (a : ℕ) → Settled l s → Settled l (ops.give s a)

-- The laws of a part.
pub record Keeps {S : Type 0} (ops : Ops S) : Type 0 where
  pub shape : (s : S) → Shape ops s
  pub renews : (s : S) → Fixed ops s (ops.renew s)
  pub starts : (s : S) → Starts ops s (ops.start s)
  pub addresses : (s : S) (x : ℕ) → Addresses ops s x (ops.address s x)
  pub aiming : (s : S) (a : ℕ) (l : Levels) (x : ℕ) → Aims ops s a (ops.aims s a l x) (ops.aim s a l x)
  pub taking : (s : S) (a : ℕ) (l : Levels) (x : ℕ) → Takes ops s a x (ops.takes s a l x) (ops.take s a l x)
  pub gives : (s : S) (a : ℕ) → Passes ops s (ops.give s a)
  pub levels : (s : S) (l : Levels) → Passes ops s (ops.level s l)
  pub stops : (s : S) (clean : Bool) (l : Levels) → Stops ops s clean l (ops.stop s clean l)
  pub finishes : (s : S) (q : ℕ) → Finishes ops s q (ops.finish s q)
  pub cuts : (s : S) (p : PowerCut) → Cuts ops s p (ops.cut s p)
  pub settles : Settles ops
