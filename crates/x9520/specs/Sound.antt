-- What holds of an X9520 in each state that its moves can make.
use Rattle.std.specs.Prelude.{◌≡◌, ℕ, ◌<◌, true, List, [], ◌∷◌, slice_index, slice_index_or}
use Rattle.part.specs.Moves.{Move, after}
use Rattle.dcp.specs.Wiper.{byte_for, tap_of}
use Rattle.x9520.specs.declared.state.X9520.{X9520}
use Rattle.x9520.specs.Chip.{x9520}
use Rattle.x9520.specs.Writing.{no_dcp}

pub record Sound (s : X9520) : Type 0 where
  -- RWEL never stands without WEL
  pub latches : s.latches.rwel ≡ true → s.latches.wel ≡ true
  -- the DCP last named is one of the three
  pub named : s.named < 3
  -- DCPs 0, 1 and 2 have 64, 100 and 256 taps, and each wiper register holds the byte of its tap
  pub taps : (j : ℕ) → j < 3 → (slice_index_or s.dcps j no_dcp).taps ≡ slice_index (64 ∷ 100 ∷ 256 ∷ []) j
  pub registers : (j : ℕ) → j < 3 →
      (slice_index_or s.dcps j no_dcp).register ≡ byte_for (slice_index_or s.dcps j no_dcp).taps (tap_of (slice_index_or s.dcps j no_dcp))

-- whatever is done to it from a state on
abbrev pub AlwaysSound : X9520 → Type 0
AlwaysSound s = (moves : List Move) → Sound (after x9520 s moves)
