-- The bytes that a read of a chip by itself brings, where it gives the same byte each time, and where it gives one cell after another.
use Rattle.std.proofs.Common.{◌≡◌, ℕ, zero, suc, ◌+◌, ◌%◌, ◌<◌, List, length, get_or, sym, refl, ap, ◌∙◌, subst, arith}
use Rattle.refusals.specs.Told.{ok}
use Rattle.part.specs.Ops.{Ops}
use Rattle.part.specs.declared.levels.Levels.{Levels}
use Rattle.controller.specs.Work.{given, read}

-- A read of n bytes is accepted, and byte number j of those that it brings is one of which P j says that it may be.
pub record Reads {C : Type 0} (chip : Ops C) (l : Levels) (a : ℕ) (aim : List ℕ) (n : ℕ) (s : C) (P : ℕ → ℕ → Type 0) : Type 0 where
  pub got : List ℕ
  pub answer : (read chip l a aim n s).1 ≡ ok got
  pub count : length got ≡ n
  pub each : (j : ℕ) → j < n → P j (get_or got j 0)

-- and so is one of which Q says it, where P says no less
pub reads_as : {C : Type 0} {chip : Ops C} {l : Levels} {a : ℕ} {aim : List ℕ} {n : ℕ} {s : C} {P Q : ℕ → ℕ → Type 0} → ((j v : ℕ) → P j v → Q j v) →
    Reads chip l a aim n s P → Reads chip l a aim n s Q
reads_as f r = record { got = r.got; answer = r.answer; count = r.count; each = λ j h. f j (get_or r.got j 0) (r.each j h) }

module _ {C : Type 0} (chip : Ops C) (l : Levels) (y : ℕ) where
  abbrev bytes_given : ℕ → C → List ℕ
  bytes_given n s = (given chip l y n s).1

  given_length : (n : ℕ) (s : C) → length (bytes_given n s) ≡ n
  given_length zero s = refl
  given_length (suc n) s = ap suc (given_length n (chip.give s y))

  -- giving a byte leaves the chip as it is
  module _ (s : C) (stays : chip.give s y ≡ s) where
    given_same : (n j : ℕ) → j < n → get_or (bytes_given n s) j 0 ≡ chip.given s y % 256
    given_same zero j h = absurd (omega arith)
    given_same (suc n) zero h = refl
    given_same (suc n) (suc j) h = ap (λ t. get_or (bytes_given n t) j 0) stays ∙ given_same n j (omega arith)

    pub reads_same : {a : ℕ} {aim : List ℕ} {n : ℕ} {d : C} (P : ℕ → Type 0) → (read chip l a aim n d).1 ≡ ok (bytes_given n s) →
        P (chip.given s y % 256) → Reads chip l a aim n d (λ j v. P v)
    reads_same {n = n} P e p = record {
      got = bytes_given n s;
      answer = e;
      count = given_length n s;
      each = λ j h. subst P (sym (given_same n j h)) p;
    }

  -- it gives the cell at its counter, which goes up, FFh to 00h
  module _ (at : ℕ → C) (cell : ℕ → ℕ) (gives : (i : ℕ) → chip.given (at i) y ≡ cell i) (goes_on : (i : ℕ) → chip.give (at i) y ≡ at ((i + 1) % 256)) where
    given_cells : (n i j : ℕ) → i < 256 → j < n → get_or (bytes_given n (at i)) j 0 ≡ cell ((i + j) % 256) % 256
    given_cells zero i j h k = absurd (omega arith)
    given_cells (suc n) i zero h k = ap (λ v. v % 256) (gives i) ∙ ap (λ i. cell i % 256) (let same : i ≡ (i + 0) % 256 = omega arith in same)
    given_cells (suc n) i (suc j) h k =
        let same : ((i + 1) % 256 + j) % 256 ≡ (i + suc j) % 256 = omega arith in
        ap (λ t. get_or (bytes_given n t) j 0) (goes_on i) ∙ given_cells n ((i + 1) % 256) j (omega arith) (omega arith) ∙ ap (λ i. cell i % 256) same

    pub reads_cells : {a : ℕ} {aim : List ℕ} {n : ℕ} {d : C} (i : ℕ) → i < 256 → (read chip l a aim n d).1 ≡ ok (bytes_given n (at i)) →
        Reads chip l a aim n d (λ j v. v ≡ cell ((i + j) % 256) % 256)
    reads_cells {n = n} i h e = record {
      got = bytes_given n (at i);
      answer = e;
      count = given_length n (at i);
      each = λ j k. given_cells n i j h k;
    }
