-- What a refusal tells, and what a call that may be refused answers: by case, its number and its values.
use Rattle.std.specs.Prelude.{ℕ, Ok, Err, Result}
use Rattle.refusals.specs.declared.Refusal.{Refusal}
use Rattle.refusals.specs.declared.Refusal.TheVariants.{BadSample, NoSuchPart, NothingUnderWay, NoSuchCell, FileEnds, UnknownKind, OutOfLimit, NoAck, NoRoom, NeverReady}

abbrev pub number : Refusal → ℕ
number BadSample = 1
number NoSuchPart = 2
number NothingUnderWay = 3
number NoSuchCell = 4
number FileEnds = 5
number UnknownKind = 6
number OutOfLimit = 7
number (NoAck byte) = 8
number NoRoom = 9
number NeverReady = 10

-- the byte without an ACK; every other refusal tells 0
abbrev pub place : Refusal → ℕ
place BadSample = 0
place NoSuchPart = 0
place NothingUnderWay = 0
place NoSuchCell = 0
place FileEnds = 0
place UnknownKind = 0
place OutOfLimit = 0
place (NoAck byte) = byte
place NoRoom = 0
place NeverReady = 0

-- an answer, or a refusal by its number and its place
pub data Told (A : Type 0) : Type 0 where
  ok : A → Told A
  refused : ℕ → ℕ → Told A

-- what a result tells, its value shown by f
abbrev pub told : {X A : Type 0} → (X → A) → Result X Refusal → Told A
told f (Ok x) = ok (f x)
told f (Err e) = refused (number e) (place e)

-- go on with an answer, and keep a refusal
abbrev pub and_then : {A B : Type 0} → Told A → (A → Told B) → Told B
and_then (ok a) f = f a
and_then (refused n p) f = refused n p
