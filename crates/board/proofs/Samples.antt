-- A sample given by the levels of its lines is one given by its byte. Assumes nothing.
use Rattle.std.proofs.Common.{◌≡◌, ℕ, ◌+◌, ◌*◌, ◌/◌, ◌%◌, ◌<◌, Bool, true, false, [], ◌∷◌, sym, ◌∙◌, arith}
use Rattle.std.proofs.lemmas.Bool.{lt-ltb, eq-eqb, ne_eqb}
use Rattle.part.specs.declared.levels.Levels.{Levels}
use Rattle.part.specs.Ops.{Ops}
use Rattle.board.specs.declared.board.Board.{Board}
use Rattle.board.specs.Engine.{sampled, with_sample, with_levels}
use Rattle.board.specs.Runs.{SampledBy}
use Rattle.board.specs.Samples.{bit_value, odd, sample_byte}
use Rattle.board.proofs.Splices.{after_leads}

pub bit_small : (b : Bool) → bit_value b < 2
bit_small true = omega arith
bit_small false = omega arith

-- such a byte is one that the board takes
sample_small : (l : Levels) (scl sda : Bool) → sample_byte l scl sda < 32
sample_small l scl sda = omega (arith, bit_small scl, bit_small sda, bit_small l.wp, bit_small l.v2ro, bit_small l.v3ro)

-- and it has the bits that it was made of
bit_at : (b : Bool) (n x : ℕ) → x ≡ bit_value b + 2 * n → odd x ≡ b
bit_at true n x e = eq-eqb (x % 2) 1 (omega (arith, e))
bit_at false n x e = ne_eqb (x % 2) 1 (λ f. absurd (omega (arith, e, f)))

module _ (l : Levels) (scl sda : Bool) where
  scl_bit : odd (sample_byte l scl sda) ≡ scl
  scl_bit = bit_at scl (bit_value sda + 2 * bit_value l.wp + 4 * bit_value l.v2ro + 8 * bit_value l.v3ro) _ (omega arith)

  sda_bit : odd (sample_byte l scl sda / 2) ≡ sda
  sda_bit = bit_at sda (bit_value l.wp + 2 * bit_value l.v2ro + 4 * bit_value l.v3ro) _ (omega (arith, bit_small scl))

  wp_bit : odd (sample_byte l scl sda / 4) ≡ l.wp
  wp_bit = bit_at l.wp (bit_value l.v2ro + 2 * bit_value l.v3ro) _ (omega (arith, bit_small scl, bit_small sda))

  v2ro_bit : odd (sample_byte l scl sda / 8) ≡ l.v2ro
  v2ro_bit = bit_at l.v2ro (bit_value l.v3ro) _ (omega (arith, bit_small scl, bit_small sda, bit_small l.wp))

  v3ro_bit : odd (sample_byte l scl sda / 16) ≡ l.v3ro
  v3ro_bit = bit_at l.v3ro 0 _ (omega (arith, bit_small scl, bit_small sda, bit_small l.wp, bit_small l.v2ro))

module _ {S : Type 0} (ops : Ops S) (l : Levels) (scl sda : Bool) (b : Board S) where
  pub byte_sampled : sampled ops b (sample_byte l scl sda) ≡ with_levels ops b scl sda l
  byte_sampled =
      let same : with_sample ops b (sample_byte l scl sda) ≡ with_levels ops b scl sda l = λ i.
      with_levels ops b (scl_bit l scl sda i) (sda_bit l scl sda i) (record { wp = wp_bit l scl sda i; v2ro = v2ro_bit l scl sda i; v3ro = v3ro_bit l scl sda i }) in
      rw (lt-ltb _ 32 (sample_small l scl sda)) same

  pub put_sampled : (c : Board S) → c ≡ with_levels ops b scl sda l → SampledBy ops b (sample_byte l scl sda ∷ []) c
  put_sampled c e = after_leads ops b c _ (e ∙ sym byte_sampled)
