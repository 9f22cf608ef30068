use Rattle.std.proofs.Common.{◌≡◌, ◌+◌, ◌<◌, ◌^◌, length, refl, ap, ◌∙◌, sym, subst, arith, inl}
use Rattle.std.specs.Iterator.Adapters.{enumerate_source, enumerate_count}
use Rattle.refusals.specs.Told.{told}
use Rattle.rows.specs.Rows.{Grown}
use Rattle.jobfile.specs.Jobs.{said}
use Rattle.jobfile.specs.FileJobs.{file_jobs}
use Rattle.jobfile.specs.Left.{left}
use Rattle.jobfile.proofs.Turns.{few_jobs}
use Rattle.runner.specs.Sizes.{job_answers}
use Rattle.runner.specs.Results.{Listed}
use Rattle.runner.specs.Runs.{file_job_run, bytes_of, Within}
use Rattle.runner.proofs.Progress.{SoFar, so_far_none, so_far_more, so_far_all, result_fits}
use Rattle.runner.proofs.run.run_jobs.Goals as goal

pub loop-before-init : goal.loop-before-init
loop-before-init g c =
    let none : enumerate_count c.into_iter-before-iterator.result ≡ 0 = cc in
    let all : left (enumerate_source c.into_iter-before-iterator.result) ≡ file_jobs c.args.file.now = cc in
    let fits : enumerate_count c.into_iter-before-iterator.result + length (left (enumerate_source c.into_iter-before-iterator.result)) < 2 ^ 64 =
    omega (arith, ap length all, few_jobs c.args.file.now) in
    ((tt, tt, inl fits), tt, so_far_none g.P.Part.ops c.args.lines.now _ c.args.board.now c.args.results.now c.args.bytes.now _ _ none all c.requires.results c.requires.bytes, refl, refl, refl)

pub run_next-note-requires-clause-result : goal.run_next-note-requires-clause-result
run_next-note-requires-clause-result g c =
    result_fits g.P.Part.ops c.args.lines.now _ c.args.board.now c.args.results.now c.args.bytes.now _ _ _ _ _ c.loop-before.invariant.2
    _ _ c.in-Some.ensures.steps.0

pub loop-before-preserved : goal.loop-before-preserved
loop-before-preserved g c =
    let job = told said c.in-Some.job in
    let ran = c.run_next-note.ensures in
    let same = c.loop-before.invariant.3 in
    let number : c.in-Some.before + 1 ≡ enumerate_count c.loop-before.before-iterator + 1 = omega (arith, c.in-Some.ensures.steps.1) in
    let board = subst (λ l. c.run_next-note.new.board ≡ (file_job_run g.P.Part.ops l job c.in-Some.at c.loop-before.board).0) same ran.board in
    let results = subst (λ l. Listed (c.in-Some.before + 1) c.loop-before.bytes.count
    (file_job_run g.P.Part.ops l job c.in-Some.at c.loop-before.board).1 c.loop-before.results c.run_next-note.new.results) same ran.results in
    let listed = subst (λ n. Listed n c.loop-before.bytes.count
    (file_job_run g.P.Part.ops c.args.lines.now job c.in-Some.at c.loop-before.board).1 c.loop-before.results c.run_next-note.new.results) number results in
    let bytes = subst (λ l. Grown c.loop-before.bytes (bytes_of (file_job_run g.P.Part.ops l job c.in-Some.at c.loop-before.board).1) c.run_next-note.new.bytes) same ran.bytes in
    let within = subst (λ l. Within (job_answers job) (file_job_run g.P.Part.ops l job c.in-Some.at c.loop-before.board).1) same ran.within in
    let more = so_far_more g.P.Part.ops c.args.lines.now _ c.args.board.now c.args.results.now c.args.bytes.now _ _ _ _ _ c.loop-before.invariant.2
    _ _ c.in-Some.ensures.steps.0 _ _ _ board listed bytes within in (
      c.in-Some.ensures.goes.keeps,
      tt,
      subst (λ n. SoFar g.P.Part.ops c.args.lines.now (file_jobs c.args.file.now) c.args.board.now c.args.results.now c.args.bytes.now n
          (left (enumerate_source c.next.new.self)) c.run_next-note.new.board c.run_next-note.new.results c.run_next-note.new.bytes)
          (sym c.in-Some.ensures.steps.2) more,
      ran.lines ∙ same,
      ran.results_lender ∙ c.loop-before.invariant.4,
      ran.bytes_lender ∙ c.loop-before.invariant.5,
    )

pub returns-clause-board : goal.returns-clause-board
returns-clause-board g c = (so_far_all g.P.Part.ops c.args.lines.now _ c.args.board.now c.args.results.now c.args.bytes.now _ _ _ _ _ c.loop-before.invariant.2 c.in-None.ensures.steps.0.0).0

pub returns-clause-filed : goal.returns-clause-filed
returns-clause-filed g c = (so_far_all g.P.Part.ops c.args.lines.now _ c.args.board.now c.args.results.now c.args.bytes.now _ _ _ _ _ c.loop-before.invariant.2 c.in-None.ensures.steps.0.0).1
