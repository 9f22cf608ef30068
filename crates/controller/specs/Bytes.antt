-- What the tool's master gives for START, a bit, a byte and STOP, at the levels l of the lines beside the wires.
use Rattle.std.specs.Prelude.{ℕ, zero, suc, ◌+◌, ◌*◌, ◌/◌, ◌^◌, ◌<◌, Bool, true, false, not, List, slice_index_or}
use Rattle.part.specs.declared.levels.Levels.{Levels}
use Rattle.board.specs.Samples.{bit_value, odd, sample_byte}
use Rattle.controller.specs.Master.{Master, ended, gives, ◌then◌}

-- each of a list is a byte
abbrev pub AllBytes : List ℕ → Type 0
AllBytes xs = (i : ℕ) → slice_index_or xs i 0 < 256

-- one sample: SCL and SDA as the master drives them; it reads SDA on the wire
abbrev pub put : Levels → Bool → Bool → Master Bool
put l scl sda = gives (sample_byte l scl sda) ended

-- a clock is 01, 11 with SDA released; it reads the level of the second
unfoldable pub clock : Levels → Master Bool
clock l = put l false true then (λ _. put l true true)

-- SCL and SDA: 01, 11, 10, 00
unfoldable pub start : Levels → Master Bool
start l = put l false true then (λ _. put l true true then (λ _. put l true false then (λ _. put l false false)))

-- 00, 10, 11
unfoldable pub stop : Levels → Master Bool
stop l = put l false false then (λ _. put l true false then (λ _. put l true true))

-- a bit is sent as 0b, 1b, 0b
abbrev pub send_bit : Levels → Bool → Master Bool
send_bit l b = put l false b then (λ _. put l true b then (λ _. put l false b))

-- and read by 01, 11, 01: it is the level of the second
abbrev pub read_bit : Levels → Master Bool
read_bit l = put l false true then (λ _. put l true true then (λ high. put l false true then (λ _. ended high)))

-- the low n bits of x, highest first
abbrev pub send_bits : Levels → ℕ → ℕ → Master (Unit {0})
send_bits l zero x = ended tt
send_bits l (suc n) x = send_bit l (odd (x / 2 ^ n)) then (λ _. send_bits l n x)

-- n bits more of a number, of which v has come
abbrev pub read_bits : Levels → ℕ → ℕ → Master ℕ
read_bits l zero v = ended v
read_bits l (suc n) v = read_bit l then (λ high. read_bits l n (v * 2 + bit_value high))

-- a byte sent; the answer is whether it got an ACK, a LOW ninth bit
unfoldable pub send : Levels → ℕ → Master Bool
send l x = send_bits l 8 x then (λ _. read_bit l then (λ high. ended (not high)))

-- a byte read; the ninth bit is an ACK, LOW, where more is wanted
unfoldable pub receive : Levels → Bool → Master ℕ
receive l more = read_bits l 8 0 then (λ v. send_bit l (not more) then (λ _. ended v))
