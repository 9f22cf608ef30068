-- Jobs on a board in whose part a chip sits directly: what the chip is after a write job, a finish and a power cut, and what a read job then brings.
use Rattle.std.proofs.Common.{◌≡◌, ℕ, ◌<◌, ◌≤◌, List, sym, refl, ap, ◌∙◌, subst}
use Rattle.refusals.specs.Told.{Told}
use Rattle.part.specs.Moves.{cutting}
use Rattle.part.specs.Ops.{Ops}
use Rattle.part.specs.Seats.{Shown}
use Rattle.part.specs.declared.levels.Levels.{Levels}
use Rattle.part.specs.declared.power.PowerCut.{PowerCut}
use Rattle.board.specs.Engine.{idle, idle_bus, finished, cut}
use Rattle.board.specs.declared.board.Board.{Board}
use Rattle.controller.specs.Bytes.{AllBytes}
use Rattle.controller.specs.Jobs.{writing, reading}
use Rattle.controller.specs.Master.{run}
use Rattle.storage.specs.Storing.{Brings}
use Rattle.controller.specs.Work.{written, on_idle, read as read_work}
use Rattle.storage.proofs.Giving.{Reads}
use Rattle.storage.proofs.Over.{over}
use Rattle.controller.proofs.ReadWork.{read_run}
use Rattle.storage.proofs.Sitting.{Sits, Same, same, same_then, same_moved, same_written, same_finished, Owned, still_owned, see_written, see_read, over_finished, bus_finished, shown_still}
use Rattle.controller.proofs.WriteWork.{write_work}

pub idle_board : {S : Type 0} (b : Board S) → b.bus ≡ idle_bus → b ≡ idle b.part
idle_board b e = λ i. record { bus = e i; part = b.part }

module _ {S C : Type 0} {ops : Ops S} {chip : Ops C} (sits : Sits ops chip) where
  -- The board d with idle wires shows the chip as u; its number, and who owns an address, are as they were in the state s of the part.
  pub record Now (s : S) (d : Board S) (u : C) : Type 0 where
    pub wires : d.bus ≡ idle_bus
    pub chip_is : sits.see d.part ≡ u
    pub kept : Same sits s d.part

  pub now : (b : Board S) → b.bus ≡ idle_bus → Now b.part b (sits.see b.part)
  now b idle_b = record { wires = idle_b; chip_is = refl; kept = same sits b.part }

  -- what is asked of the chip's number is asked of the chip
  pub asked : {s : S} {d : Board S} {u : C} → Now s d u → Shown ops chip (sits.number s) d.part u
  asked {s} {d} before = subst (λ u. Shown ops chip (sits.number s) d.part u) before.chip_is (shown_still sits before.kept)

  pub finish_now : {s : S} {d : Board S} {u : C} → Now s d u → Now s (finished ops d (sits.number s)) (over chip u)
  finish_now {s} {d} before = record {
    wires = bus_finished sits d (sits.number s) ∙ before.wires;
    chip_is = ap (λ k. sits.see (finished ops d k).part) (sym before.kept.number_is) ∙ over_finished sits d ∙ ap (over chip) before.chip_is;
    kept = same_then sits before.kept (same_finished sits d (sits.number s));
  }

  pub cut_now : {s : S} {d : Board S} {u : C} → Now s d u → (p : PowerCut) → Now s (cut ops d p) (chip.cut u p)
  cut_now {s} {d} before p = record {
    wires = refl;
    chip_is = sits.direct.seat.cut d.part p ∙ ap (λ u. chip.cut u p) before.chip_is;
    kept = same_then sits before.kept (same_moved sits d.part (cutting p));
  }

  -- a write job
  module _ (l : Levels) (a : ℕ) (xs : List ℕ) (b : Board S) {c : Board S} {answer : Told (List ℕ)} (small : AllBytes xs) (ran : run ops (writing l a xs) b ≡ (c, answer)) where
    work_is : b.bus ≡ idle_bus → ◌≡◌ {A = Board S × Told (List ℕ)} (c, answer) (on_idle (written ops l a xs b.part))
    work_is idle_b = sym ran ∙ ap (run ops (writing l a xs)) (idle_board b idle_b) ∙ write_work ops sits.keeps l a xs b.part small

    -- whoever owns the address
    pub job_kept : b.bus ≡ idle_bus → (c.bus ≡ idle_bus) × Same sits b.part c.part
    job_kept idle_b =
        let c_is : c ≡ idle (written ops l a xs b.part).0 = ap (λ w. w.0) (work_is idle_b) in
        (ap (λ d. d.bus) c_is, subst (λ d. Same sits b.part d.part) (sym c_is) (same_written sits l a xs b.part))

    pub job_now : {s : S} {u : C} → a < 128 → Owned sits s a → Now s b u → (answer ≡ (written chip l a xs u).1) × Now s c (written chip l a xs u).0
    job_now {u = u} few mine before =
        let work = work_is before.wires in
        let kept = job_kept before.wires in
        let seen = see_written sits l a xs b.part few (still_owned sits before.kept mine) in (
          ap (λ w. w.1) work ∙ seen.1 ∙ ap (λ u. (written chip l a xs u).1) before.chip_is,
          record {
            wires = kept.0;
            chip_is = ap (λ w. sits.see w.0.part) work ∙ seen.0 ∙ ap (λ u. (written chip l a xs u).0) before.chip_is;
            kept = same_then sits before.kept kept.1;
          },
        )

  -- a read job brings what the chip gives
  pub brings_now : {s : S} {d : Board S} {u : C} {P : ℕ → ℕ → Type 0} (l : Levels) (a : ℕ) (aim : List ℕ) (n : ℕ) → AllBytes aim → 1 ≤ n → a < 128 → Owned sits s a → Now s d u →
      Reads chip l a aim n u P → Brings ops d l a aim n P
  brings_now {d = d} l a aim n small one few mine before reads =
      let work : run ops (reading l a aim n) d ≡ on_idle (read_work ops l a aim n d.part) =
      ap (run ops (reading l a aim n)) (idle_board d before.wires) ∙ read_run ops sits.keeps l a aim n d.part small one in
      let seen = see_read sits l a aim n d.part few (still_owned sits before.kept mine) in
      record {
        got = reads.got;
        answer = ap (λ w. w.1) work ∙ seen.1 ∙ ap (λ u. (read_work chip l a aim n u).1) before.chip_is ∙ reads.answer;
        count = reads.count;
        each = reads.each;
      }
