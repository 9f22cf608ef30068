-- The note of an accepted write.
use Rattle.std.specs.Prelude.{◌≡◌, ℕ, false, cond, List, Some, None, Ok, Err, Option, Result, ◌==◌}
use Rattle.refusals.specs.declared.Refusal.{Refusal}
use Rattle.refusals.specs.Told.{Told, ok, refused}
use Rattle.controller.specs.declared.note.Note.{Note}

-- the part at the address may be busy, and no wait has found it ready
abbrev pub noted : ℕ → Note
noted a = record { address = a; spent = false }

-- an ACK at the address spends its note, and no other
abbrev pub after_ready : ℕ → Option Note → Option Note
after_ready a None = None
after_ready a (Some note) = cond (note.address == a) None (Some note)

-- what a wait at the address leaves of a note, by its answer
abbrev pub after_wait : ℕ → Told (List ℕ) → Option Note → Option Note
after_wait a (ok xs) note = after_ready a note
after_wait a (refused n p) note = note

-- an accepted write to the address gives its note
abbrev pub Noted : ℕ → Result Note Refusal → Type 0
Noted a (Ok note) = note ≡ noted a
Noted a (Err e) = Unit {0}
