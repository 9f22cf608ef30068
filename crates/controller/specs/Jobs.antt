-- The jobs as masters, at the levels l of the lines beside the wires: what they give, and what they answer.
-- An answer is some bytes, or a refusal by its number and its place.
use Rattle.std.specs.Prelude.{ℕ, zero, suc, ◌+◌, ◌*◌, ◌%◌, Bool, true, false, cond, List, [], ◌∷◌, ◌++◌, length, nat_le, nat_lt}
use Rattle.std.specs.List.{list_all}
use Rattle.refusals.specs.Told.{Told, ok, refused}
use Rattle.part.specs.declared.levels.Levels.{Levels}
use Rattle.board.specs.Samples.{bit_value}
use Rattle.controller.specs.Master.{Master, ended, gives, ◌then◌}
use Rattle.controller.specs.Bytes.{start, stop, send, receive}

-- an address byte: seven bits, and then 0 for writing, 1 for reading
abbrev pub write_byte : ℕ → ℕ
write_byte a = a % 128 * 2

abbrev pub read_byte : ℕ → ℕ
read_byte a = a % 128 * 2 + 1

-- whether byte number n of a job got its ACK
abbrev pub acked : ℕ → Bool → Told (List ℕ)
acked n true = ok []
acked n false = refused 8 n

-- a refusal ends a job
abbrev pub unless_refused : Told (List ℕ) → Master (Told (List ℕ)) → Master (Told (List ℕ))
unless_refused (ok xs) m = m
unless_refused (refused n p) m = ended (refused n p)

-- byte number n of a job
unfoldable pub send_one : Levels → ℕ → ℕ → Master (Told (List ℕ))
send_one l n x = send l x then (λ ack. ended (acked n ack))

-- bytes one after another, numbered from n on, up to the first that gets no ACK
unfoldable pub send_all : Levels → ℕ → List ℕ → Master (Told (List ℕ))
send_all l n [] = ended (ok [])
send_all l n (x ∷ xs) = send_one l n x then (λ t. unless_refused t (send_all l (n + 1) xs))

-- START and a byte
unfoldable pub open_with : Levels → ℕ → ℕ → Master (Told (List ℕ))
open_with l n x = start l then (λ _. send_one l n x)

-- STOP, and then the answer
unfoldable pub close : Levels → Told (List ℕ) → Master (Told (List ℕ))
close l t = stop l then (λ _. ended t)

-- a missing ACK ends a job with a STOP
abbrev pub stop_refused : Levels → Told (List ℕ) → Master (Told (List ℕ))
stop_refused l (ok xs) = ended (ok xs)
stop_refused l (refused n p) = close l (refused n p)

unfoldable pub end_refused : Levels → Master (Told (List ℕ)) → Master (Told (List ℕ))
end_refused l m = m then stop_refused l

-- START, the write address and the bytes
unfoldable pub sending : Levels → ℕ → List ℕ → Master (Told (List ℕ))
sending l a xs = open_with l 0 (write_byte a) then (λ t. unless_refused t (send_all l 1 xs))

-- A write. A missing ACK goes straight to the STOP.
unfoldable pub writing : Levels → ℕ → List ℕ → Master (Told (List ℕ))
writing l a xs = sending l a xs then close l

-- The address of a read. Aim bytes, if any, are sent as a write first, and then a START is repeated.
unfoldable pub addressing : Levels → ℕ → List ℕ → Master (Told (List ℕ))
addressing l a [] = open_with l 0 (read_byte a)
addressing l a (y ∷ ys) = sending l a (y ∷ ys) then (λ t. unless_refused t (open_with l (1 + length (y ∷ ys)) (read_byte a)))

-- n bytes more, each with an ACK but the last
unfoldable pub receive_all : Levels → ℕ → List ℕ → Master (Told (List ℕ))
receive_all l zero got = ended (ok got)
receive_all l (suc n) got = receive l (nat_lt 0 n) then (λ v. receive_all l n (got ++ (v ∷ [])))

-- A read of n bytes. A missing ACK goes straight to the STOP.
unfoldable pub reading : Levels → ℕ → List ℕ → ℕ → Master (Told (List ℕ))
reading l a aim n = end_refused l (addressing l a aim) then (λ t. unless_refused t (receive_all l n [] then close l))

abbrev pub unless_ready : Told (List ℕ) → Master (Told (List ℕ)) → Master (Told (List ℕ))
unless_ready (ok xs) m = ended (ok [])
unless_ready (refused n p) m = m

-- A wait of at most n polls, each a write of no bytes, up to the first that gets its ACK.
unfoldable pub waiting : Levels → ℕ → ℕ → Master (Told (List ℕ))
waiting l a zero = ended (refused 10 0)
waiting l a (suc n) = writing l a [] then (λ t. unless_ready t (waiting l a n))

-- Samples given one after another; the levels read are the answer, 1 for HIGH.
unfoldable pub giving : List ℕ → List ℕ → Master (Told (List ℕ))
giving [] got = ended (ok got)
giving (x ∷ xs) got = gives x (λ high. giving xs (got ++ (bit_value high ∷ [])))

-- the board takes every one of the samples
abbrev pub all_samples : List ℕ → Bool
all_samples xs = list_all (λ x. nat_lt x 32) xs

-- A job that answers n bytes gives nothing where the caller's row has no room for them all.
abbrev pub with_room : ℕ → ℕ → Master (Told (List ℕ)) → Master (Told (List ℕ))
with_room n room m = cond (nat_le n room) m (ended (refused 9 0))

-- All samples are tested before the first is given, and then the room.
abbrev pub sampling : List ℕ → ℕ → Master (Told (List ℕ))
sampling xs room = cond (all_samples xs) (with_room (length xs) room (giving xs [])) (ended (refused 1 0))

-- the levels of the lines while a job writes
abbrev pub lowered : Levels → Levels
lowered l = record { wp = false; v2ro = l.v2ro; v3ro = l.v3ro }
