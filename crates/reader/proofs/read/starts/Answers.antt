use Rattle.std.proofs.Common.{◌≡◌, suc, ◌+◌, ◌≤◌, length, Bool, true, false, sym, ap, ◌∙◌, subst, add-one, add-zero, arith}
use Rattle.reader.specs.Kept.{edge_of, starts}
use Rattle.reader.proofs.After.{wires_after}
use Rattle.reader.specs.Reading.{rows_after}
use Rattle.reader.specs.Recording.{edge_at}
use Rattle.reader.proofs.After.{few_rows, started_at, count_more}
use Rattle.reader.proofs.read.starts.Goals.{then-is_start, else-is_start}
use Rattle.reader.proofs.read.starts.Goals as goal

pub loop-at-init : goal.loop-at-init
loop-at-init c = (c.idle-wires.ensures, omega arith, omega arith)

pub loop-n-init : goal.loop-n-init
loop-n-init c = (c.loop-at.invariant.0, add-zero _ ∙ c.loop-at.invariant.1, omega arith)

pub overflow_add-few : goal.overflow_add-few
overflow_add-few c = omega (arith, c.loop-n.invariant.2, c.loop-n-test.true, c.min-end.ensures, c.saturating_add.ensures)

pub loop-n-preserved : goal.loop-n-preserved
loop-n-preserved c =
    let xs = c.args.recording.now in
    let n = c.loop-n.n in
    let so = c.loop-at.count + c.loop-n.few in
    let now = c.loop-at.count + c.if-is_start.few in
    let started : (b : Bool) → b ≡ starts (edge_of c.edge.result) → starts (edge_at xs n) ≡ b =
    λ b e. started_at xs n c.loop-n.wires c.at-next.result c.edge.result b c.loop-n.invariant.0 c.at-next.ensures c.edge.ensures e in
    let counted : (now ≡ length (rows_after xs (suc n))) × (c.loop-at.at + c.if-is_start.few ≤ suc n) =
    elim c.if-is_start.branch [
      | then-is_start w ↦ (
        count_more xs n so now true (started true (sym w.if-is_start.true ∙ c.is_start.ensures)) c.loop-n.invariant.1 (omega (arith, w.few-is)),
        omega (arith, w.few-is, c.loop-n.invariant.2),
      )
      | else-is_start w ↦ (
        count_more xs n so now false (started false (sym w.if-is_start.false ∙ c.is_start.ensures)) c.loop-n.invariant.1 (omega (arith, w.few-is)),
        omega (arith, w.few-is, c.loop-n.invariant.2),
      )
    ] in
    rw add-one (c.at-next.ensures, counted.0, counted.1)

pub overflow_add-count : goal.overflow_add-count
overflow_add-count c = omega (
  arith,
  c.from-count.ensures,
  c.loop-n.invariant.1,
  few_rows c.args.recording.now c.loop-n.n,
  c.loop-n.auto.n-end (omega (arith, c.min-end.ensures, c.saturating_add.ensures, c.loop-at-test.true)),
  c.min-end.ensures,
  c.min-end.type_inv,
)

pub loop-at-preserved : goal.loop-at-preserved
loop-at-preserved c =
    let all : c.loop-n.n ≡ c.min-end.result = omega (arith, c.loop-n-test.false, c.loop-n.auto.n-end (omega (arith, c.min-end.ensures, c.saturating_add.ensures, c.loop-at-test.true))) in
    let counted = ap (λ few. c.loop-at.count + few) c.from-count.ensures ∙ c.loop-n.invariant.1 in (
      subst (λ n. c.loop-n.wires ≡ wires_after c.args.recording.now n) all c.loop-n.invariant.0,
      subst (λ n. c.loop-at.count + c.from-count.result ≡ length (rows_after c.args.recording.now n)) all counted,
      omega (arith, c.min-end.ensures),
    )

pub returns : goal.returns
returns c =
    let all : c.loop-at.at ≡ length c.args.recording.now = omega (arith, c.loop-at-test.false, c.loop-at.invariant.2) in
    c.loop-at.invariant.1 ∙ ap (λ n. length (rows_after c.args.recording.now n)) all
