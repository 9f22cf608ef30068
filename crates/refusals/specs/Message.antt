-- What a refusal says in words.
use Rattle.std.specs.Prelude.{ℕ, List, ◌++◌, codes, decimal}
use Rattle.refusals.specs.declared.Refusal.{Refusal}
use Rattle.refusals.specs.declared.Refusal.TheVariants.{BadSample, NoSuchPart, NothingUnderWay, NoSuchCell, FileEnds, UnknownKind, OutOfLimit, NoAck, NoRoom, NeverReady}

abbrev pub message : Refusal → List ℕ
message BadSample = codes "a sample has bit 5, 6 or 7 set"
message NoSuchPart = codes "the board has no such part"
message NothingUnderWay = codes "no write is under way"
message NoSuchCell = codes "the part has no such cell or wiper"
message FileEnds = codes "the file ends inside a job"
message UnknownKind = codes "no job has this kind byte"
message OutOfLimit = codes "a number breaks a limit"
message (NoAck byte) = codes "byte " ++ (decimal byte ++ codes " got no ACK")
message NoRoom = codes "a row is too short for all that is to go in"
message NeverReady = codes "no poll got an ACK"
