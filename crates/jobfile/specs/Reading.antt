-- What a read of some fields leaves as it was.
use Rattle.std.specs.Prelude.{◌≡◌, ◌≤◌}
use Rattle.jobfile.specs.declared.fields.Fields.{Fields}

-- the same file, read on from where it was
abbrev pub ReadOn : Fields → Fields → Type 0
ReadOn before after = (after.file ≡ before.file) × (before.at ≤ after.at)
