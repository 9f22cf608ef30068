-- The table of 100 taps and its inverse. Assumes nothing.
use Rattle.std.proofs.Common.{◌≡◌, ℕ, ◌<◌, ◌⊎◌, length, get_or, sym, ◌∙◌, inl, inr, arith}
use Rattle.std.proofs.lemmas.List.FromFn.{length-map-range_with_len, get_or-map-range_with_len}
use Rattle.std.proofs.lemmas.Bool.Decides.{nat_tests as cases}
use Rattle.dcp.specs.Taps.{byte_of, bytes, tap_in, looked, Inverse}
use Rattle.dcp.proofs.Places.{Found, Missing, tells}

length_bytes : length bytes ≡ 100
unfolding bytes
length_bytes = length-map-range_with_len byte_of 0 100

pub byte_at : (t : ℕ) → t < 100 → get_or bytes t 0 ≡ byte_of t
unfolding bytes
byte_at t h = get_or-map-range_with_len byte_of 0 100 t t 0 h (omega arith)

apart : (s t : ℕ) → s < 100 → t < 100 → byte_of s ≡ byte_of t → s ≡ t
apart s t h k e = grind (arith, cases)

found : (b : ℕ) → Found b bytes → Inverse b (looked bytes b)
found b f =
    let lt : tap_in bytes b < 100 = omega (arith, f.0, length_bytes) in
    let is : byte_of (tap_in bytes b) ≡ b = sym (byte_at _ lt) ∙ f.1 in
    record {
      below = lt;
      its = byte_at (tap_in bytes b) lt;
      back = λ t h e. apart (tap_in bytes b) t lt h (is ∙ sym e);
      none = λ n. absurd (n _ lt is);
    }

missing : (b : ℕ) → Missing b bytes → Inverse b (looked bytes b)
missing b m = record {
  below = omega (arith, m.1);
  its = byte_at (tap_in bytes b) (omega (arith, m.1));
  back = λ t h e. absurd (m.0 t (omega (arith, length_bytes)) (byte_at t h ∙ e));
  none = λ n. m.1;
}

either : (b : ℕ) → Found b bytes ⊎ Missing b bytes → Inverse b (looked bytes b)
either b (inl f) = found b f
either b (inr m) = missing b m

pub inverse : (b : ℕ) → Inverse b (looked bytes b)
inverse b = either b (tells b bytes)
