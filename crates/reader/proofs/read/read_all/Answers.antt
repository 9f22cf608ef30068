use Rattle.std.proofs.Common.{◌≡◌, ◌-◌, suc, length, get_or, sym, ap, ◌∙◌, subst, add-one, arith}
use Rattle.reader.specs.declared.reader.Reader.{Reader}
use Rattle.reader.specs.Kept.{AllSmall, starts}
use Rattle.reader.specs.Steps.{seen, stepped, reader_after, Stands}
use Rattle.reader.specs.Reading.{grown, rows_after}
use Rattle.reader.specs.Recording.{open_after}
use Rattle.reader.proofs.After.{seen_at, reader_more, small_after, room_left}
use Rattle.reader.proofs.Changing.{stands_ended}
use Rattle.reader.proofs.read.read_all.Goals as goal

pub step-requires-clause-small : goal.step-requires-clause-small
step-requires-clause-small c = subst (λ (r : Reader). AllSmall r.opened) (sym c.loop-n.invariant.0) (small_after c.args.recording.now c.loop-n.n (omega (arith, c.loop-n-test.true)))

pub step-requires-clause-room : goal.step-requires-clause-room
step-requires-clause-room c started =
    let xs = c.args.recording.now in
    let n = c.loop-n.n in
    room_left xs n (n - 1) c.args.row.now c.loop-n.row c.loop-n-test.true c.requires c.loop-n.invariant.1 (sym (ap starts (ap (seen (get_or xs n 0)) c.loop-n.invariant.0 ∙ seen_at xs n)) ∙ started)

pub loop-n-preserved : goal.loop-n-preserved
loop-n-preserved c =
    let xs = c.args.recording.now in
    let n = c.loop-n.n in
    let reader : c.step.new.self ≡ reader_after xs (suc n) = c.step.ensures.reader ∙ ap (stepped (get_or xs n 0)) c.loop-n.invariant.0 ∙ reader_more xs n in
    let row = c.step.ensures.row (open_after xs n) (open_after xs (suc n)) (ap (λ (r : Reader). r.opened) c.loop-n.invariant.0)
    (ap (λ (r : Reader). r.opened) reader) c.args.row.now (n - 1) (rows_after xs n) c.loop-n.invariant.1 in
    let rows : Stands c.args.row.now n (open_after xs (suc n)) (rows_after xs (suc n)) c.step.new.row =
    subst (λ e. Stands c.args.row.now n (open_after xs (suc n)) (grown e n (open_after xs n) (open_after xs (suc n)) (rows_after xs n)) c.step.new.row)
    (ap (seen (get_or xs n 0)) c.loop-n.invariant.0 ∙ seen_at xs n) row in
    let last : n ≡ suc n - 1 = omega arith in
    rw add-one (reader, subst (λ k. Stands c.args.row.now k (open_after xs (suc n)) (rows_after xs (suc n)) c.step.new.row) last rows, c.step.ensures.lender ∙ c.loop-n.invariant.2)

pub returns-clause-grown : goal.returns-clause-grown
returns-clause-grown c =
    let xs = c.args.recording.now in
    let all : c.loop-n.n ≡ length xs = omega (arith, c.loop-n-test.false, c.loop-n.auto.n-end) in
    let stands = subst (λ k. Stands c.args.row.now (k - 1) (open_after xs k) (rows_after xs k) c.loop-n.row) all c.loop-n.invariant.1 in
    let opened = ap (λ (r : Reader). r.opened) (c.loop-n.invariant.0 ∙ ap (reader_after xs) all) in
    stands_ended (length xs - 1) c.saturating_sub.result c.loop-n.reader.opened c.loop-n.row c.reach.new.row
    (open_after xs (length xs)) c.args.row.now (rows_after xs (length xs)) c.saturating_sub.ensures opened c.reach.ensures.reaches stands
