-- Samples and finishes given to a board by its own step functions, and what is asked of it afterwards.
-- A sample has SCL in bit 0, the master's SDA in bit 1 and WP in bit 2. WP is LOW but where a name has `high` in it; the monitors are LOW.
use Rattle.std.specs.Prelude.{ℕ, zero, suc, ◌+◌, ◌*◌, ◌/◌, ◌%◌, ◌^◌, false, cond, List, [], ◌∷◌, ◌++◌}
use Rattle.refusals.specs.Told.{Told, ok, refused}
use Rattle.part.specs.Ops.{Ops}
use Rattle.part.specs.declared.levels.Levels.{Levels}
use Rattle.board.specs.declared.board.Board.{Board}
use Rattle.board.specs.Samples.{bit_value}
use Rattle.board.specs.Clocks.{clock}
use Rattle.board.specs.Engine.{sampled, finished, cell_told, tap_told}

pub data Call : Type 0 where
  samples : List ℕ → Call
  finish : (part : ℕ) → Call

-- the samples of START and STOP, of a bit sent and of the first bits of a number, highest first
abbrev pub start : List ℕ
start = 2 ∷ 3 ∷ 1 ∷ 0 ∷ []

abbrev pub stop : List ℕ
stop = 0 ∷ 1 ∷ 3 ∷ []

abbrev pub bit_sent : ℕ → List ℕ
bit_sent b = (2 * b) ∷ (2 * b + 1) ∷ (2 * b) ∷ []

abbrev pub bits_sent : ℕ → ℕ → List ℕ
bits_sent zero x = []
bits_sent (suc n) x = bit_sent (x / 2 ^ n % 2) ++ bits_sent n x

-- a byte sent, up to its ninth rise, at which the ACK is read
abbrev pub sent : ℕ → List ℕ
sent x = bits_sent 8 x ++ (2 ∷ 3 ∷ [])

abbrev pub all_sent : List ℕ → List ℕ
all_sent [] = []
all_sent (x ∷ xs) = sent x ++ (2 ∷ all_sent xs)

-- samples with w added to each: with `wp` their WP is HIGH, and with 0 they stay
abbrev pub raised : ℕ → List ℕ → List ℕ
raised w [] = []
raised w (x ∷ xs) = (x + w) ∷ raised w xs

abbrev pub wp : ℕ
wp = 4

-- a write of bytes to an address, whatever the ACKs: without its STOP, whole, with WP HIGH throughout, and with WP HIGH at the STOP alone
abbrev pub unstopped : ℕ → List ℕ → List ℕ
unstopped a xs = start ++ all_sent ((2 * a) ∷ xs)

abbrev pub write : ℕ → List ℕ → Call
write a xs = samples (unstopped a xs ++ stop)

abbrev pub write_high : ℕ → List ℕ → Call
write_high a xs = samples (raised wp (unstopped a xs ++ stop))

abbrev pub write_stop_high : ℕ → List ℕ → Call
write_stop_high a xs = samples (unstopped a xs ++ raised wp stop)

-- the lines beside the wires at each clock asked
abbrev pub quiet : Levels
quiet = record { wp = false; v2ro = false; v3ro = false }

-- A question: the bytes of some cells from one on, the tap of a wiper, which bytes of a write get an ACK (1 for one) and which get one with WP HIGH,
-- the bytes that a read gives, or the level of SDA at each of some clocks (1 for HIGH).
pub data Question : Type 0 where
  cells : (part from count : ℕ) → Question
  tap : (part wiper : ℕ) → Question
  acks : (address : ℕ) (bytes : List ℕ) → Question
  acks_high : (address : ℕ) (bytes : List ℕ) → Question
  reads : (address count : ℕ) → Question
  clocks : (count : ℕ) → Question

module _ {S : Type 0} (ops : Ops S) where
  abbrev pub give : Board S → List ℕ → Board S
  give b [] = b
  give b (x ∷ xs) = give (sampled ops b x) xs

  unfoldable pub play : Board S → List Call → Board S
  play b [] = b
  play b (samples xs ∷ cs) = play (give b xs) cs
  play b (finish k ∷ cs) = play (finished ops b k) cs

  -- an answer, and none where it is refused
  abbrev pub shown : Told ℕ → List ℕ
  shown (ok v) = v ∷ []
  shown (refused n p) = []

  abbrev pub cells_of : Board S → ℕ → ℕ → ℕ → List ℕ
  cells_of b k i zero = []
  cells_of b k i (suc n) = shown (cell_told ops b k i) ++ cells_of b k (i + 1) n

  -- an ACK is a LOW ninth bit; w is added to each sample
  abbrev pub acks_of : ℕ → Board S → List ℕ → List ℕ
  acks_of w b [] = []
  acks_of w b (x ∷ xs) = let c = give b (raised w (sent x)) in cond c.bus.sda 0 1 ∷ acks_of w (give c (raised w (2 ∷ []))) xs

  -- n bits read after v, then the rest of k bytes; every byte but the last is acknowledged
  abbrev pub bits_read : Board S → ℕ → ℕ → Board S × ℕ
  bits_read b zero v = (b, v)
  bits_read b (suc n) v = let c = give b (2 ∷ 3 ∷ []) in bits_read (give c (2 ∷ [])) n (v * 2 + bit_value c.bus.sda)

  abbrev pub ninth : ℕ → ℕ
  ninth zero = 1
  ninth (suc n) = 0

  abbrev pub bytes_read : Board S → ℕ → List ℕ
  bytes_read b zero = []
  bytes_read b (suc k) = let p = bits_read b 8 0 in p.1 ∷ bytes_read (give p.0 (bit_sent (ninth k))) k

  abbrev pub clock_levels : Board S → ℕ → List ℕ
  clock_levels b zero = []
  clock_levels b (suc n) = let c = clock ops quiet b in bit_value c.bus.sda ∷ clock_levels c n

  -- what is asked and played stays shut: it would compute sample by sample
  unfoldable pub answer : Board S → Question → List ℕ
  answer b (cells k i n) = cells_of b k i n
  answer b (tap k j) = shown (tap_told ops b k j)
  answer b (acks a xs) = acks_of 0 (give b start) ((2 * a) ∷ xs)
  answer b (acks_high a xs) = acks_of wp (give b (raised wp start)) ((2 * a) ∷ xs)
  answer b (reads a n) = bytes_read (give b (start ++ all_sent ((2 * a + 1) ∷ []))) n
  answer b (clocks n) = clock_levels b n
