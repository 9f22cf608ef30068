-- A read of a DCP of an X9520 by itself brings the byte of the tap where its wiper stands.
use Rattle.std.proofs.Common.{◌≡◌, ℕ, zero, suc, ◌+◌, ◌-◌, ◌%◌, ◌<◌, false, leb, ltb, List, [], ◌∷◌, get_or, sym, refl, ap, ◌∙◌, subst, arith}
use Rattle.std.proofs.lemmas.Bool.{lt-ltb, cond_both}
use Rattle.refusals.specs.Told.{ok}
use Rattle.part.specs.declared.levels.Levels.{Levels}
use Rattle.eeprom.specs.Cells.{is_busy, unstages}
use Rattle.dcp.specs.Taps.{byte_of}
use Rattle.dcp.specs.Wiper.{tap_of, entry_for, byte_for}
use Rattle.dcp.specs.declared.dcp.Dcp.{Dcp}
use Rattle.dcp.proofs.Table.{inverse}
use Rattle.x9520.specs.Chip.{x9520, tap_at, wiper_register}
use Rattle.x9520.specs.Sound.{Sound}
use Rattle.x9520.specs.State.{chip}
use Rattle.x9520.specs.Writing.{names, aim_for, no_dcp}
use Rattle.x9520.specs.declared.state.Device.TheVariants.{Dcps}
use Rattle.x9520.specs.declared.state.Mode.{Mode}
use Rattle.x9520.specs.declared.state.Mode.TheVariants.{Reading}
use Rattle.x9520.specs.declared.state.X9520.{X9520}
use Rattle.storage.specs.Storing.{taps_of}
use Rattle.controller.specs.Work.{given, read}
use Rattle.storage.proofs.Giving.{Reads, reads_same}

-- the chip in a transfer to the DCPs, where it has named DCP m
abbrev pub at_mode : X9520 → ℕ → Mode → X9520
at_mode s m w = chip (unstages s.eeprom) s.dcps s.latches s.flags s.counter m w

abbrev pub dcp_of : List Dcp → ℕ → Dcp
dcp_of ds j = get_or ds j no_dcp

pub tap_is : (ds : List Dcp) (j : ℕ) → j < 3 → tap_at ds j ≡ tap_of (dcp_of ds j)
tap_is ds j h = rw (lt-ltb j 3 h) refl

-- a first byte names a DCP by its bits 6 to 0
pub names_dcp : (x j : ℕ) → x % 128 ≡ j → j < 3 → aim_for Dcps x ≡ names j (leb 128 x)
names_dcp x j e h = rw (e, lt-ltb j 3 h) refl

-- the byte of a tap has eight bits
byte_of_small : (t : ℕ) → t < 100 → byte_of t < 256
byte_of_small t h =
    let P = λ (b : ℕ). b < 256 in
    cond_both (ltb t 25) t _ P (λ e. omega arith) (λ e.
    cond_both (ltb t 50) (81 - t) _ P (λ f. omega arith) (λ f.
    cond_both (ltb t 75) (t + 14) (195 - t) P (λ g. omega arith) (λ g. omega arith)))

byte_small : (j r : ℕ) → j < 3 → byte_for (taps_of j) (entry_for (taps_of j) r).tap < 256
byte_small zero r h = omega arith
byte_small (suc zero) r h = byte_of_small _ (inverse r).below
byte_small (suc (suc zero)) r h = omega arith
byte_small (suc (suc (suc n))) r h = absurd (omega arith)

module _ (u : X9520) (sound : Sound u) (j : ℕ) (in_range : j < 3) where
  register_is : wiper_register u.dcps j ≡ (dcp_of u.dcps j).register
  register_is = rw (lt-ltb j 3 in_range) refl

  register_small : wiper_register u.dcps j < 256
  register_small =
      let d = dcp_of u.dcps j in
      rw (register_is, sound.registers j in_range) (subst (λ n. byte_for n (entry_for n d.register).tap < 256) (sym (sound.taps j in_range)) (byte_small j d.register in_range))

  byte_is : wiper_register u.dcps j % 256 ≡ byte_for (taps_of j) (x9520.tap u 0 j)
  byte_is =
      let d = dcp_of u.dcps j in
      let whole : wiper_register u.dcps j % 256 ≡ wiper_register u.dcps j = omega (arith, register_small) in
      whole ∙ register_is ∙ sound.registers j in_range ∙ ap (λ n. byte_for n (tap_of d)) (sound.taps j in_range) ∙ ap (byte_for (taps_of j)) (sym (tap_is u.dcps j in_range))

module _ (l : Levels) (u : X9520) (x j n : ℕ) (names_it : x % 128 ≡ j) (in_range : j < 3) where
  -- the chip that gives the wiper register of DCP j
  abbrev giving : X9520
  giving = at_mode (x9520.level u l) j (Reading Dcps)

  read_is : is_busy u.eeprom ≡ false → (read x9520 l 87 (x ∷ []) n u).1 ≡ ok (given x9520 l 175 n giving).1
  unfolding read
  read_is free = rw (free, names_dcp x j names_it in_range, free) refl

  pub wiper_reads : Sound u → x9520.busy u 0 ≡ false → Reads x9520 l 87 (x ∷ []) n u (λ i v. v ≡ byte_for (taps_of j) (x9520.tap u 0 j))
  wiper_reads sound free = reads_same x9520 l 175 giving refl (λ v. v ≡ byte_for (taps_of j) (x9520.tap u 0 j)) (read_is free) (byte_is u sound j in_range)
