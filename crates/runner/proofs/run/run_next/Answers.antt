use Rattle.std.proofs.Common.{◌≡◌, ap, ◌∙◌, sym, subst}
use Rattle.refusals.specs.Told.{refused, number, told}
use Rattle.rows.specs.Rows.{Grown}
use Rattle.jobfile.specs.Jobs.{said}
use Rattle.runner.specs.Results.{Listed, no, seen_between}
use Rattle.runner.specs.Runs.{file_job_run, job_run, bytes_of}
use Rattle.runner.proofs.Listing.{seen_same, grown_bytes, one_more}
use Rattle.runner.proofs.run.run_next.Goals as goal

pub returns-in-Ok-clause-results : goal.returns-in-Ok-clause-results
returns-in-Ok-clause-results g c =
    let ran = c.run_job-note.ensures.run in
    let places : seen_between c.len-from.result c.len.result (told (λ x. x) c.run_job-note.result.1) ≡ _ =
    ap (λ n. seen_between n c.len.result (told (λ x. x) c.run_job-note.result.1)) c.len-from.ensures
    ∙ ap (λ n. seen_between c.args.bytes.now.count n (told (λ x. x) c.run_job-note.result.1)) c.len.ensures
    ∙ seen_same c.args.bytes.now c.run_job-note.new.bytes _ _ ran.row_is ran.answer_is in
    let listed : Listed c.args.number c.args.bytes.now.count (job_run g.P.Part.ops c.args.lines.now (said c.in-Ok.job) c.args.board.now).1 c.args.results.now c.append.new.self = (
      record { number = c.args.number; outcome = c.outcome-outcome.result },
      one_more c.args.results.now _ _ c.requires.result c.append.ensures.count c.append.ensures.items,
      ap (λ s. (c.args.number, s)) (c.outcome-outcome.ensures ∙ places),
    ) in
    subst (λ j. Listed c.args.number c.args.bytes.now.count
    (file_job_run g.P.Part.ops c.args.lines.now (told said j) c.args.at c.args.board.now).1 c.args.results.now c.append.new.self)
    (sym c.in-Ok.is) listed

pub returns-in-Ok-clause-bytes : goal.returns-in-Ok-clause-bytes
returns-in-Ok-clause-bytes g c =
    subst (λ j. Grown c.args.bytes.now (bytes_of (file_job_run g.P.Part.ops c.args.lines.now (told said j) c.args.at c.args.board.now).1) c.run_job-note.new.bytes)
    (sym c.in-Ok.is) (grown_bytes _ _ _ c.run_job-note.ensures.run.row_is)

pub returns-in-Err-clause-results : goal.returns-in-Err-clause-results
returns-in-Err-clause-results g c =
    let listed : Listed c.args.number c.args.bytes.now.count (refused (number c.in-Err.refusal) c.args.at) c.args.results.now c.append-in-Err.new.self =
    (_, one_more c.args.results.now _ _ c.requires.result c.append-in-Err.ensures.count c.append-in-Err.ensures.items, ap (λ why. (c.args.number, no why.number why.place)) c.new.ensures) in
    subst (λ j. Listed c.args.number c.args.bytes.now.count
    (file_job_run g.P.Part.ops c.args.lines.now (told said j) c.args.at c.args.board.now).1 c.args.results.now c.append-in-Err.new.self)
    (sym c.in-Err.is) listed
