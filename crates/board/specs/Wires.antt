-- What the two wires show, by their levels alone: rises, falls, START, STOP, transfers and their bytes.
-- Lists have the newest first.
use Rattle.std.specs.Prelude.{ℕ, ◌+◌, ◌*◌, Bool, true, false, not, ◌&&◌, List, [], ◌∷◌, length, Some, None, Option, ◌==◌, nat_lt}
use Rattle.board.specs.Samples.{bit_value, odd}

-- What lies between two samples: START, STOP, a rise with the bit on SDA, a fall, or nothing.
pub data Edge : Type 0 where
  steady : Edge
  started : Edge
  stopped : Edge
  rose : (bit : Bool) → Edge
  fell : Edge

-- SCL before and now, SDA on the wire before and now
abbrev pub edge : Bool → Bool → Bool → Bool → Edge
edge true true true true = steady
edge true true true false = started
edge true true false true = stopped
edge true true false false = steady
edge true false before now = fell
edge false true before now = rose now
edge false false before now = steady

-- A byte of a transfer, whole with its ninth rise: whether the ninth bit was LOW, and whether a part pulled there.
pub record Byte : Type 0 where
  pub value : ℕ
  pub low : Bool
  pub pulled : Bool

-- An open transfer: its whole bytes, and the bits since.
pub record Transfer : Type 0 where
  pub bytes : List Byte
  pub bits : List Bool

abbrev pub transfer : List Byte → List Bool → Transfer
transfer bs w = record { bytes = bs; bits = w }

-- the number of some bits
abbrev pub value : List Bool → ℕ
value [] = 0
value (b ∷ w) = value w * 2 + bit_value b

-- One rise more, with its bit and whether a part pulls: the ninth after eight bits makes a byte whole.
abbrev pub risen_by : Bool → Bool → Bool → Transfer → Transfer
risen_by true bit pulled t = transfer t.bytes (bit ∷ t.bits)
risen_by false bit pulled t = transfer (record { value = value t.bits; low = not bit; pulled = pulled } ∷ t.bytes) []

abbrev pub risen : Bool → Bool → Transfer → Transfer
risen bit pulled t = risen_by (nat_lt (length t.bits) 8) bit pulled t

abbrev pub rising : Bool → Bool → Option Transfer → Option Transfer
rising bit pulled None = None
rising bit pulled (Some t) = Some (risen bit pulled t)

-- START opens a transfer and STOP closes it.
abbrev pub next : Edge → Bool → Option Transfer → Option Transfer
next steady pulled o = o
next started pulled o = Some (transfer [] [])
next stopped pulled o = None
next (rose bit) pulled o = rising bit pulled o
next fell pulled o = o

-- the address byte, the first of all
abbrev pub address : List Byte → ℕ
address [] = 0
address (x ∷ []) = x.value
address (x ∷ (y ∷ bs)) = address (y ∷ bs)

-- the transfer is for reading: its address byte is odd
abbrev pub reading : List Byte → Bool
reading bs = odd (address bs)

-- A byte given is acknowledged by a LOW ninth bit, and a byte sent by a part's pull.
abbrev pub acked_by : Bool → Byte → Bool
acked_by true x = x.low
acked_by false x = x.pulled

-- Every byte is acknowledged. A byte is given where it is not the first and the transfer is for reading, and else it is sent.
abbrev pub all_acked : List Byte → Bool
all_acked [] = true
all_acked (x ∷ bs) = all_acked bs && acked_by (reading bs) x

-- the next byte is sent, or is given: after a byte that is not acknowledged there is none
abbrev pub sending : List Byte → Bool
sending bs = all_acked bs && not (reading bs)

abbrev pub giving : List Byte → Bool
giving bs = all_acked bs && reading bs

abbrev pub some_byte : List Byte → Bool
some_byte [] = false
some_byte (x ∷ bs) = true

-- A STOP is clean in a transfer where exactly one rise lies after the ninth of an acknowledged byte.
abbrev pub is_clean : Transfer → Bool
is_clean t = (length t.bits == 1) && (some_byte t.bytes && all_acked t.bytes)

abbrev pub clean : Option Transfer → Bool
clean None = false
clean (Some t) = is_clean t

-- the values of some bytes
abbrev pub values : List Byte → List ℕ
values [] = []
values (x ∷ bs) = x.value ∷ values bs

-- what a write carries: all bytes but the first two
abbrev pub carried : List ℕ → List ℕ
carried [] = []
carried (x ∷ []) = []
carried (x ∷ (y ∷ [])) = []
carried (x ∷ (y ∷ (z ∷ xs))) = x ∷ carried (y ∷ (z ∷ xs))
