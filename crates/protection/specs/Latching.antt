-- The two write enable latches: what sets and clears them.
use Rattle.std.specs.Prelude.{refl, true, false}
use borrow.Author.Tests.{clash}
use Rattle.protection.specs.declared.latches.Latches.{Latches}

abbrev pub cleared : Latches
cleared = record { wel = false; rwel = false; ordered = λ e. e }

abbrev pub enabled : Latches → Latches
enabled l = record { wel = true; rwel = l.rwel; ordered = λ e. refl }

-- RWEL comes to stand where WEL does
abbrev pub armed : Latches → Latches
armed l = record { wel = l.wel; rwel = l.wel; ordered = λ e. e }

abbrev pub disarmed : Latches → Latches
disarmed l = record { wel = l.wel; rwel = false; ordered = λ e. absurd (clash e) }
