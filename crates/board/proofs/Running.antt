-- Every state of a run is what the wires make of it. Assumes nothing.
use Rattle.std.proofs.Common.{◌≡◌, ℕ, zero, suc, ◌+◌, ◌%◌, ◌*◌, ◌/◌, Bool, true, false, cond, not, ◌&&◌, [], ltb, Option, refl, sym, ap, ◌∙◌, arith}
use borrow.Author.Tests.{clash}
use Rattle.std.proofs.lemmas.Bool.{and_parts, cond-true}
use Rattle.part.specs.declared.levels.Levels.{Levels}
use Rattle.part.specs.Ops.{Ops}
use Rattle.part.specs.Moves.{after}
use Rattle.board.specs.declared.board.Board.{Board}
use Rattle.board.specs.declared.call.Call.{Call}
use Rattle.board.specs.declared.call.Call.TheVariants.{Sample, Finish, Cut}
use Rattle.board.specs.declared.bus.Kind.{Kind}
use Rattle.board.specs.declared.bus.Kind.TheVariants.{Address, First, Later}
use Rattle.board.specs.declared.bus.Phase.{Phase}
use Rattle.board.specs.declared.bus.Phase.TheVariants.{Closed, Deaf, Taking, AckDue, AckPulled, AckRisen, Giving, Released, Wanted}
use Rattle.board.specs.Engine.{pulls as pulls_now, addressed, aimed, taken, whole, bit_taken, rise_at, lower, act, level, with_sample, finish_by, numbered}
use Rattle.board.specs.Samples.{bit_value, odd, levels}
use Rattle.board.specs.Wires.{edge, steady, Transfer, transfer, next}
use Rattle.board.specs.Runs.{History, pulls, pulls_by, told, step, edge_of, moves_of, onward, state, history}
use Rattle.board.specs.Obeys.{scl_after, sda_after, Refused, Step, Obeys}
use Rattle.board.proofs.Phases.{Tied, pull_of, clean_of}
use Rattle.board.proofs.Edges.{Went, silent, fall_went, rise_went}

by_contra : (p : Bool) (d : Bool) → (p ≡ true → d ≡ false) → d ≡ true → p ≡ false
by_contra true d f e = absurd (clash (sym (f refl) ∙ e))
by_contra false d f e = refl

pub edge_same : (c d : Bool) → edge c c d d ≡ steady
edge_same true true = refl
edge_same true false = refl
edge_same false d = refl

module _ {S : Type 0} (ops : Ops S) where
  -- one edge, of which the levels have reached the part
  acts : (c e d w : Bool) (b : Board S) (l : Levels) (answer : Bool) (byte : ℕ) (o : Option Transfer) → Tied b.bus.phase c answer byte o
      → Went ops (act ops c e d w (lower ops c e b) l) e b.part (told (edge c e d w) l o) answer byte (next (edge c e d w) (pulls_by c o answer byte) o)
  acts true true true true b l answer byte o t = silent ops b true b.part [] answer byte o refl refl t
  acts true true true false b l answer byte o t =
      record { tied = record { t = transfer [] []; is = refl; long = refl; few = omega arith; reads = refl; sends = refl; fits = refl; unpulled = refl }; part = refl }
  acts true true false true b l answer byte o t = record { tied = refl; part = ap (λ z. ops.stop b.part z l) (sym (clean_of b.bus.phase true answer byte o t)) }
  acts true true false false b l answer byte o t = silent ops b true b.part [] answer byte o refl refl t
  acts true false d w b l answer byte o t = fall_went ops b.bus.phase b l answer byte o refl t
  acts false true d w b l answer byte o t = rise_went ops b.bus.phase b w l answer byte o refl t
  acts false false d w b l answer byte o t = silent ops b false b.part [] answer byte o refl refl t

  -- a rise changes no pull
  whole_pull : (kind : Kind) (b : Board S) (l : Levels) (x : ℕ) → pulls_now (whole ops kind b l x).bus.phase ≡ false
  whole_pull Address b l x = by (ops.hears b.part x)
    where
      by : (r : Bool) → pulls_now (addressed ops r b x).bus.phase ≡ false
      by true = refl
      by false = refl
  whole_pull (First a) b l x = by (ops.aims b.part a l x)
    where
      by : (r : Bool) → pulls_now (aimed ops r b a l x).bus.phase ≡ false
      by true = refl
      by false = refl
  whole_pull (Later a) b l x = by (ops.takes b.part a l x)
    where
      by : (r : Bool) → pulls_now (taken ops r b a l x).bus.phase ≡ false
      by true = refl
      by false = refl

  rise_pull : (ph : Phase) (b : Board S) (w : Bool) (l : Levels) (answer : Bool) (byte : ℕ) (o : Option Transfer) → b.bus.phase ≡ ph → Tied ph false answer byte o
      → pulls_now (rise_at ops ph b w l).bus.phase ≡ pulls_now ph
  rise_pull Closed b w l answer byte o e t = ap pulls_now e
  rise_pull Deaf b w l answer byte o e t = ap pulls_now e
  rise_pull (Taking kind bits so_far) b w l answer byte o e t = by (ltb bits 7)
    where
      by : (q : Bool) → pulls_now (bit_taken ops q b kind bits l (so_far % 128 * 2 + bit_value w)).bus.phase ≡ false
      by true = refl
      by false = whole_pull kind b l _
  rise_pull (AckDue n) b w l answer byte o e t = refl
  rise_pull (AckPulled n) b w l answer byte o e t = refl
  rise_pull (AckRisen n) b w l answer byte o e t = absurd (clash t.0)
  rise_pull (Giving a rises left out) b w l answer byte o e t = refl
  rise_pull (Released a) b w l answer byte o e t = by w
    where
      by : (v : Bool) → pulls_now (cond v Deaf (Wanted a)) ≡ false
      by true = refl
      by false = refl
  rise_pull (Wanted a) b w l answer byte o e t = refl

  -- SDA on the wire, by the pull before the rise, START or STOP and by the one after it
  wired : (c e d w sda : Bool) (b : Board S) (l : Levels) (answer : Bool) (byte : ℕ) (o : Option Transfer) → Tied b.bus.phase c answer byte o → (pulls_now b.bus.phase ≡ true → d ≡ false)
      → w ≡ (sda && not (pulls_now (lower ops c e b).bus.phase)) → w ≡ (sda && not (pulls_now (act ops c e d w (lower ops c e b) l).bus.phase))
  wired true true true true sda b l answer byte o t low h = h
  wired true true true false sda b l answer byte o t low h = h ∙ ap (λ p. sda && not p) (by_contra _ _ low refl)
  wired true true false true sda b l answer byte o t low h = ap (λ z. z && true) (sym (and_parts sda _ (sym h)).0)
  wired true true false false sda b l answer byte o t low h = h
  wired true false d w sda b l answer byte o t low h = h
  wired false true d w sda b l answer byte o t low h = h ∙ ap (λ p. sda && not p) (sym (rise_pull b.bus.phase b w l answer byte o refl t))
  wired false false d w sda b l answer byte o t low h = h

  -- the board b after what was before, h
  pub record Good (b : Board S) (h : History) : Type 0 where
    pub tied : Tied b.bus.phase b.bus.scl h.answer h.byte h.ongoing
    pub low : pulls_now b.bus.phase ≡ true → b.bus.sda ≡ false

  pub record Advances (b : Board S) (k : Call) (c : Board S) (h : History) : Type 0 where
    pub good : Good c (onward ops b k c h)
    pub part : c.part ≡ after ops b.part (moves_of ops b k c h.ongoing)
    pub scl : c.bus.scl ≡ scl_after b.bus.scl k
    pub sda : c.bus.sda ≡ sda_after b.bus.sda k (pulls c.bus.scl (onward ops b k c h))
    pub refused : Refused ops b k → c ≡ b

  low_after : (w sda p : Bool) → w ≡ (sda && not p) → p ≡ true → w ≡ false
  low_after w true true h e = h
  low_after w false true h e = h
  low_after w sda false h e = absurd (clash e)

  accepted : (b : Board S) (x : ℕ) (h : History) → ltb x 32 ≡ true → Good b h → Advances b (Sample x) (with_sample ops b x) h
  accepted b x h e g =
      let l = levels x in
      let up = level ops b l in
      let w = (with_sample ops b x).bus.sda in
      let went = acts b.bus.scl (odd x) b.bus.sda w up l h.answer h.byte h.ongoing g.tied in
      let seen = wired b.bus.scl (odd x) b.bus.sda w (odd (x / 2)) up l h.answer h.byte h.ongoing g.tied g.low refl in
      let moves = moves_of ops b (Sample x) (with_sample ops b x) h.ongoing in
      let pull : pulls (odd x) (onward ops b (Sample x) (with_sample ops b x) h) ≡ pulls_now (with_sample ops b x).bus.phase = rw e (pull_of _ _ _ _ _ went.tied) in
      record {
        good = record { tied = rw e went.tied; low = low_after w (odd (x / 2)) _ seen };
        part = rw e went.part;
        scl = rw e refl;
        sda = seen ∙ ap (λ z. odd (x / 2) && not z) (sym pull) ∙ sym (cond-true _ _ _ e);
        refused = λ r. absurd (clash (sym r ∙ e));
      }

  -- a call that changes nothing
  idles : (b : Board S) (k : Call) (h : History) → moves_of ops b k b h.ongoing ≡ [] → edge_of ops b k b ≡ steady → scl_after b.bus.scl k ≡ b.bus.scl
      → ((p : Bool) → sda_after b.bus.sda k p ≡ b.bus.sda) → (onward ops b k b h).ongoing ≡ h.ongoing → Good b h → Advances b k b h
  idles b k h m e c d o g = record {
    good = record { tied = rw (m, o) g.tied; low = g.low };
    part = rw m refl;
    scl = sym c;
    sda = sym (d _);
    refused = λ r. refl;
  }

  sample_by : (t : Bool) (b : Board S) (x : ℕ) (h : History) → ltb x 32 ≡ t → Good b h → Advances b (Sample x) (cond t (with_sample ops b x) b) h
  sample_by true b x h e g = accepted b x h e g
  sample_by false b x h e g =
      let s = edge_same b.bus.scl b.bus.sda in
      idles b (Sample x) h (rw e refl) s (rw e refl) (λ p. rw e refl) (rw s refl) g

  finish_of : (p q : Bool) (b : Board S) (k : ℕ) (h : History) → numbered ops b k ≡ p → ops.busy b.part k ≡ q → Good b h → Advances b (Finish k) (finish_by ops p q b k) h
  finish_of true true b k h e f g = record {
    good = record { tied = rw (e, f) g.tied; low = g.low };
    part = rw (e, f) refl;
    scl = refl;
    sda = refl;
    refused = λ r. absurd (clash (sym r ∙ rw (e, f) refl));
  }
  finish_of true false b k h e f g = idles b (Finish k) h (rw (e, f) refl) refl refl (λ z. refl) refl g
  finish_of false q b k h e f g = idles b (Finish k) h (rw e refl) refl refl (λ z. refl) refl g

  pub advances : (b : Board S) (k : Call) (h : History) → Good b h → Advances b k (step ops b k) h
  advances b (Sample x) h g = sample_by (ltb x 32) b x h refl g
  advances b (Finish k) h g = finish_of (numbered ops b k) (ops.busy b.part k) b k h refl refl g
  advances b (Cut p) h g = record { good = record { tied = refl; low = λ e. absurd (clash e) }; part = refl; scl = refl; sda = refl; refused = λ r. absurd r }

  -- a run from a board on which no transfer is open
  module _ (b : Board S) (calls : ℕ → Call) (closed : b.bus.phase ≡ Closed) where
    pub good : (n : ℕ) → Good (state ops b calls n) (history ops b calls n)
    good zero = record { tied = rw closed refl; low = λ e. absurd (clash (sym (ap pulls_now closed) ∙ e)) }
    good (suc n) = (advances (state ops b calls n) (calls n) (history ops b calls n) (good n)).good

    pub steps : (n : ℕ) → Step ops b calls n
    steps n =
        let a = advances (state ops b calls n) (calls n) (history ops b calls n) (good n) in
        record { part = a.part; scl = a.scl; sda = a.sda; refused = a.refused }

  pub obeys : (b : Board S) → b.bus.phase ≡ Closed → Obeys ops b
  unfolding Obeys
  obeys b closed calls n = steps b calls closed n
