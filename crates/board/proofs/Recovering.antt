-- Ten rises free the wires, and a START then leaves a board that awaits an address. Assumes nothing.
use Rattle.std.proofs.Common.{◌≡◌, ℕ, zero, suc, ◌+◌, ◌*◌, ◌/◌, ◌%◌, ◌<◌, ◌≤◌, Bool, true, false, cond, ◌⊎◌, List, ◌∷◌, length, ltb, Option, refl, sym, ap, ◌∙◌, subst, inl, inr, arith, lt-suc_self}
use borrow.Author.Tests.{clash}
use Rattle.std.proofs.lemmas.Bool.{cond-true, lt-ltb, le-ltb}
use Rattle.part.specs.declared.levels.Levels.{Levels}
use Rattle.part.specs.Ops.{Ops}
use Rattle.part.specs.Keeps.{Keeps}
use Rattle.part.specs.Moves.{after}
use Rattle.board.specs.declared.board.Board.{Board}
use Rattle.board.specs.declared.call.Call.{Call}
use Rattle.board.specs.declared.call.Call.TheVariants.{Sample, Finish, Cut}
use Rattle.board.specs.declared.bus.Kind.TheVariants.{Address}
use Rattle.board.specs.declared.bus.Phase.{Phase}
use Rattle.board.specs.declared.bus.Phase.TheVariants.{Closed, Taking}
use Rattle.board.specs.Engine.{no_bits, addressed, bit_taken, rise_at, fall_at, lower, act, level, with_levels, with_sample, finish_by, numbered}
use Rattle.board.specs.Samples.{bit_value, odd, levels}
use Rattle.board.specs.Wires.{Edge, steady, started, stopped, rose, fell, edge, value, Transfer, clean}
use Rattle.board.specs.Runs.{History, IsCut, told, step, state, history, edge_of, edge_at}
use Rattle.board.specs.Recovery.{Releases, more_bits, bits, TenFree, Plain, Awaits, Recoverable}
use Rattle.board.proofs.Clocks.{bound, at_most_nine, no_rise, rise_low}
use Rattle.board.proofs.Edges.{value_small}
use Rattle.board.proofs.Running.{Advances, advances, good, edge_same}
use Rattle.board.proofs.Causing.{is_stopped, edge_stored}

-- how a sample with SDA released counts
abbrev rises_in : Edge → ℕ
rises_in steady = 0
rises_in started = 0
rises_in stopped = 0
rises_in (rose w) = 1
rises_in fell = 0

longer : (e : Edge) (w : List Bool) → length (more_bits e w) ≡ rises_in e + length w
longer steady w = omega arith
longer started w = omega arith
longer stopped w = omega arith
longer (rose b) w = omega arith
longer fell w = omega arith

module _ {S : Type 0} (ops : Ops S) where
  -- a rise reads HIGH, or fewer rises may yet read LOW
  abbrev Nearer : Edge → Board S → Board S → Type 0
  Nearer e b c = (e ≡ rose true) ⊎ (rises_in e + bound c ≤ bound b)

  by_wire : (w : Bool) (b : Board S) (l : Levels) → b.bus.scl ≡ false → (with_levels ops b true true l).bus.sda ≡ w → Nearer (rose w) b (with_levels ops b true true l)
  by_wire true b l e h = inl refl
  by_wire false b l e h = let less = rise_low ops b l e h in inr (omega (arith, less))

  -- SCL before and now, by themselves
  by_scl : (p q d w : Bool) (b : Board S) (l : Levels) → b.bus.scl ≡ p → (with_levels ops b q true l).bus.sda ≡ w → Nearer (edge p q d w) b (with_levels ops b q true l)
  by_scl true true d w b l e h = inr (omega (arith, no_rise ops b true l (λ z. absurd (clash (sym z ∙ e))), none d w))
    where
      none : (d w : Bool) → rises_in (edge true true d w) ≡ 0
      none true true = refl
      none true false = refl
      none false true = refl
      none false false = refl
  by_scl true false d w b l e h = inr (omega (arith, no_rise ops b false l (λ z. refl)))
  by_scl false true d w b l e h = by_wire w b l e h
  by_scl false false d w b l e h = inr (omega (arith, no_rise ops b false l (λ z. refl)))

  sample_near : (t : Bool) (b : Board S) (x : ℕ) → ltb x 32 ≡ t → (ltb x 32 ≡ true → odd (x / 2) ≡ true) → let c = cond t (with_sample ops b x) b in Nearer (edge_of ops b (Sample x) c) b c
  sample_near true b x e h =
      let z : with_sample ops b x ≡ with_levels ops b (odd x) true (levels x) = ap (λ s. with_levels ops b (odd x) s (levels x)) (h e) in
      subst (λ c. Nearer (edge b.bus.scl (odd x) b.bus.sda c.bus.sda) b c) (sym z) (by_scl b.bus.scl (odd x) b.bus.sda _ b (levels x) refl refl)
  sample_near false b x e h = inr (rw (edge_same b.bus.scl b.bus.sda) (omega arith))

  call_near : (b : Board S) (call : Call) → Releases call → Nearer (edge_of ops b call (step ops b call)) b (step ops b call)
  call_near b (Sample x) h = sample_near (ltb x 32) b x refl h
  call_near b (Finish k) h = absurd h
  call_near b (Cut p) h = absurd h

  module _ (b : Board S) (calls : ℕ → Call) where
    abbrev Found : ℕ → Type 0
    Found n = (j : ℕ) × ((j < n) × (edge_at ops b calls j ≡ rose true))

    searched : (n : ℕ) → ((j : ℕ) → j < n → Releases (calls j)) → Found n ⊎ (length (bits ops b calls n) + bound (state ops b calls n) ≤ bound b)
    searched zero h = inr (omega arith)
    searched (suc n) h = elim (searched n (λ j lt. h j (omega arith))) [
      | inl f ↦ (let lt = f.1.0 in inl (f.0, (omega arith, f.1.1)))
      | inr le ↦ elim (call_near (state ops b calls n) (calls n) (h n (lt-suc_self n))) [
        | inl high ↦ inl (n, (lt-suc_self n, high))
        | inr near ↦ inr (omega (arith, le, near, longer (edge_at ops b calls n) (bits ops b calls n)))
      ]
    ]

  ten_free : (b : Board S) → TenFree ops b
  ten_free b calls n h ten = elim (searched b calls n h) [ inl f ↦ f | inr le ↦ absurd (omega (arith, le, ten, at_most_nine b)) ]

  -- after START the bits of an address byte come in
  abbrev coming : List Bool → Phase
  coming w = Taking Address (length w) (value w)

  few_before : (e : Edge) (w : List Bool) → length (more_bits e w) ≤ 7 → length w ≤ 7
  few_before e w h = omega (arith, longer e w)

  act_coming : (p q d w : Bool) (b : Board S) (l : Levels) (v : List Bool) → b.bus.phase ≡ coming v → (edge p q d w ≡ started → ⊥) → (edge p q d w ≡ stopped → ⊥)
      → length (more_bits (edge p q d w) v) ≤ 7 → (act ops p q d w (lower ops p q b) l).bus.phase ≡ coming (more_bits (edge p q d w) v)
  act_coming true true true true b l v e s t h = e
  act_coming true true true false b l v e s t h = absurd (s refl)
  act_coming true true false true b l v e s t h = absurd (t refl)
  act_coming true true false false b l v e s t h = e
  act_coming true false d w b l v e s t h = ap (λ ph. (fall_at ops ph b).bus.phase) e ∙ e
  act_coming false true d w b l v e s t h =
      let small = value_small v (omega arith) in
      ap (λ ph. (rise_at ops ph b w l).bus.phase) e
      ∙ ap (λ z. (bit_taken ops z b Address (length v) l (value v % 128 * 2 + bit_value w)).bus.phase) (lt-ltb (length v) 7 (omega arith))
      ∙ (let y : value v % 128 * 2 + bit_value w ≡ value v * 2 + bit_value w = omega arith in
      let x : length v + 1 ≡ suc (length v) = omega arith in
      ap (λ z. Taking Address z (value v % 128 * 2 + bit_value w)) x ∙ ap (Taking Address (suc (length v))) y)
  act_coming false false d w b l v e s t h = e

  sample_coming : (t : Bool) (b : Board S) (x : ℕ) (v : List Bool) → let c = cond t (with_sample ops b x) b in b.bus.phase ≡ coming v
      → (edge_of ops b (Sample x) c ≡ started → ⊥) → (edge_of ops b (Sample x) c ≡ stopped → ⊥) → length (more_bits (edge_of ops b (Sample x) c) v) ≤ 7
      → c.bus.phase ≡ coming (more_bits (edge_of ops b (Sample x) c) v)
  sample_coming true b x v e s t h = act_coming b.bus.scl (odd x) b.bus.sda _ (level ops b (levels x)) (levels x) v e s t h
  sample_coming false b x v e s t h = e ∙ ap (λ z. coming (more_bits z v)) (sym (edge_same b.bus.scl b.bus.sda))

  finish_coming : (p q : Bool) (b : Board S) (k : ℕ) (v : List Bool) → b.bus.phase ≡ coming v → (finish_by ops p q b k).bus.phase ≡ coming v
  finish_coming true true b k v e = e
  finish_coming true false b k v e = e
  finish_coming false q b k v e = e

  call_coming : (b : Board S) (call : Call) (v : List Bool) → b.bus.phase ≡ coming v → (edge_of ops b call (step ops b call) ≡ started → ⊥)
      → (edge_of ops b call (step ops b call) ≡ stopped → ⊥) → (IsCut call → ⊥) → length (more_bits (edge_of ops b call (step ops b call)) v) ≤ 7
      → (step ops b call).bus.phase ≡ coming (more_bits (edge_of ops b call (step ops b call)) v)
  call_coming b (Sample x) v e s t c h = sample_coming (ltb x 32) b x v e s t h
  call_coming b (Finish k) v e s t c h = finish_coming (numbered ops b k) (ops.busy b.part k) b k v e
  call_coming b (Cut p) v e s t c h = absurd (c tt)

  module _ (b : Board S) (new : b.bus.phase ≡ no_bits Address) (calls : ℕ → Call) where
    phase_at : (n : ℕ) → ((j : ℕ) → j < n → Plain ops b calls j) → length (bits ops b calls n) ≤ 7 → (state ops b calls n).bus.phase ≡ coming (bits ops b calls n)
    phase_at zero h few = new
    phase_at (suc n) h few =
        let p = h n (lt-suc_self n) in
        call_coming (state ops b calls n) (calls n) (bits ops b calls n) (phase_at n (λ j lt. h j (omega arith)) (few_before (edge_at ops b calls n) (bits ops b calls n) few)) p.0 p.1 p.2 few

  -- the eighth rise offers the byte
  addressed_part : (r : Bool) (b : Board S) (x : ℕ) → (addressed ops r b x).part ≡ ops.address b.part x
  addressed_part true b x = refl
  addressed_part false b x = refl

  act_eighth : (p q d w : Bool) (b : Board S) (l : Levels) (v : List Bool) (bit : Bool) → b.bus.phase ≡ coming v → length v ≡ 7 → edge p q d w ≡ rose bit
      → (act ops p q d w (lower ops p q b) l).part ≡ ops.address b.part (value (bit ∷ v))
  act_eighth true true true true b l v bit e h r = absurd (let y : ◌≡◌ {A = ℕ} 0 1 = ap rises_in r in omega arith)
  act_eighth true true true false b l v bit e h r = absurd (let y : ◌≡◌ {A = ℕ} 0 1 = ap rises_in r in omega arith)
  act_eighth true true false true b l v bit e h r = absurd (let y : ◌≡◌ {A = ℕ} 0 1 = ap rises_in r in omega arith)
  act_eighth true true false false b l v bit e h r = absurd (let y : ◌≡◌ {A = ℕ} 0 1 = ap rises_in r in omega arith)
  act_eighth true false d w b l v bit e h r = absurd (let y : ◌≡◌ {A = ℕ} 0 1 = ap rises_in r in omega arith)
  act_eighth false true d w b l v bit e h r =
      let small = value_small v (omega arith) in
      ap (λ ph. (rise_at ops ph b w l).part) e
      ∙ ap (λ z. (bit_taken ops z b Address (length v) l (value v % 128 * 2 + bit_value w)).part) (le-ltb (length v) 7 (omega arith))
      ∙ addressed_part (ops.hears b.part (value v % 128 * 2 + bit_value w)) b (value v % 128 * 2 + bit_value w)
      ∙ ap (ops.address b.part) (let y : value v % 128 * 2 + bit_value w ≡ value v * 2 + bit_value w = omega arith in y)
      ∙ ap (λ z. ops.address b.part (value v * 2 + bit_value z)) (same_bit r)
    where
      bit_in : Edge → Bool
      bit_in steady = false
      bit_in started = false
      bit_in stopped = false
      bit_in (rose z) = z
      bit_in fell = false

      same_bit : rose w ≡ rose bit → w ≡ bit
      same_bit z = ap bit_in z
  act_eighth false false d w b l v bit e h r = absurd (let y : ◌≡◌ {A = ℕ} 0 1 = ap rises_in r in omega arith)

  sample_eighth : (t : Bool) (b : Board S) (x : ℕ) (v : List Bool) (bit : Bool) → let c = cond t (with_sample ops b x) b in b.bus.phase ≡ coming v → length v ≡ 7
      → edge_of ops b (Sample x) c ≡ rose bit → c.part ≡ ops.address (ops.level b.part (levels x)) (value (bit ∷ v))
  sample_eighth true b x v bit e h r = act_eighth b.bus.scl (odd x) b.bus.sda _ (level ops b (levels x)) (levels x) v bit e h r
  sample_eighth false b x v bit e h r = absurd (let y : ◌≡◌ {A = ℕ} 0 1 = ap rises_in (sym (edge_same b.bus.scl b.bus.sda) ∙ r) in omega arith)

  -- SCL and SDA HIGH, and then SDA LOW with SCL HIGH
  pulled_down : (p d : Bool) (ph : Phase) (s : S) (l : Levels) → p ≡ true → d ≡ true
      → let c = with_levels ops (record { bus = record { scl = p; sda = d; phase = ph }; part = s }) true false l in
      (c.bus.phase ≡ no_bits Address) × (c.part ≡ ops.start (ops.level s l))
  pulled_down true true ph s l e f = (refl, refl)
  pulled_down true false ph s l e f = absurd (clash f)
  pulled_down false d ph s l e f = absurd (clash e)

  down : (b : Board S) (x : ℕ) → ltb x 32 ≡ true → odd x ≡ true → odd (x / 2) ≡ false → step ops b (Sample x) ≡ with_levels ops b true false (levels x)
  down b x t e f = cond-true _ _ _ t ∙ ap (λ c. with_levels ops b c (odd (x / 2)) (levels x)) e ∙ ap (λ d. with_levels ops b true d (levels x)) f

module _ {S : Type 0} (ops : Ops S) (keeps : Keeps ops) where
  awaits_at : (c : Board S) (s : S) → c.bus.phase ≡ no_bits Address → c.part ≡ ops.start s → Awaits ops c
  awaits_at c s e f = record {
    unstaged = λ k i. ap (λ u. ops.staged u k i) f ∙ (keeps.starts s).unstaged k i;
    unheard = λ x. ap (λ u. ops.heard u x) f ∙ (keeps.starts s).unheard x;
    address = λ calls n x plain seven is bit r. (
        let ph = phase_at ops c e calls n plain (omega (arith, seven)) in
        ap (λ z. (step ops (state ops c calls n) z).part) is
        ∙ sample_eighth ops (ltb x 32) (state ops c calls n) x (bits ops c calls n) bit ph seven
        (ap (λ z. edge_of ops (state ops c calls n) z (step ops (state ops c calls n) z)) (sym is) ∙ r));
  }

  awaits : (b : Board S) → b.bus.scl ≡ true → b.bus.sda ≡ true → (x : ℕ) → ltb x 32 ≡ true → odd x ≡ true → odd (x / 2) ≡ false → Awaits ops (step ops b (Sample x))
  awaits b p d x t e f =
      let z = down ops b x t e f in
      let w = pulled_down ops b.bus.scl b.bus.sda b.bus.phase b.part (levels x) p d in
      awaits_at (step ops b (Sample x)) _ (ap (λ c. c.bus.phase) z ∙ w.0) (ap (λ c. c.part) z ∙ w.1)

  -- a sample changes no stored byte
  told_cell : (e : Edge) (l : Levels) (o : Option Transfer) (s : S) (k i : ℕ) → ops.cell (after ops s (told e l o)) k i ≡ ops.cell s k i
  told_cell e l o s k i = elim (is_stopped e) [
    | inl st ↦ ap (λ z. ops.cell (after ops s (told z l o)) k i) st ∙ (keeps.stops s (clean o) l).cell k i
    | inr n ↦ (edge_stored ops keeps e l o s n).cell k i
  ]

  sample_cell : (t : Bool) (b : Board S) (x : ℕ) (c : Board S) (h : History) (k i : ℕ) → ltb x 32 ≡ t → Advances ops b (Sample x) c h → ops.cell c.part k i ≡ ops.cell b.part k i
  sample_cell true b x c h k i e a =
      ap (λ s. ops.cell s k i) (a.part ∙ ap (after ops b.part) (cond-true _ _ _ e))
      ∙ told_cell (edge_of ops b (Sample x) c) (levels x) h.ongoing (ops.level b.part (levels x)) k i
      ∙ (keeps.levels b.part (levels x)).calm.stored.cell k i
  sample_cell false b x c h k i e a = ap (λ z. ops.cell z.part k i) (a.refused e)

  pub recoverable : (b : Board S) → b.bus.phase ≡ Closed → Recoverable ops b
  unfolding Recoverable
  recoverable b closed calls n =
      let at = state ops b calls n in
      record {
        frees = ten_free ops at;
        awaits = λ p d x t e f. awaits at p d x t e f;
        stored = λ x k i. sample_cell (ltb x 32) at x _ _ k i refl (advances ops at (Sample x) (history ops b calls n) (good ops b calls closed n));
      }
