use Rattle.std.proofs.Common.{ℕ, ◌≤◌, List, [], Ok, length, sym, refl, ap, ◌∙◌, subst}
use Rattle.refusals.specs.Told.{ok}
use Rattle.jobfile.specs.Jobs.{said}
use Rattle.rows.specs.Rows.{room_of}
use Rattle.controller.specs.Jobs.{reading}
use Rattle.runner.specs.Sizes.{answers}
use Rattle.runner.specs.Runs.{job_run, Within}
use Rattle.runner.proofs.Answering.{without_bytes, none_within, same_into, lasts_within, called, enough_room, enough_samples}
use Rattle.runner.proofs.run.run_job.Goals as goal

pub returns-in-Write : goal.returns-in-Write
unfolding job_run
returns-in-Write g c =
    let ran = ap (λ j. job_run g.P.Part.ops c.args.lines.now (said j) c.args.board.now) c.in-Write.is ∙ c.run_write.ensures.run in
    record { run = without_bytes _ _ c.run_write.result.1 c.args.bytes.now ran; within = none_within _ _ _ c.run_write.result.1 ran; lines = c.run_write.ensures.lines; lender = refl }

pub returns-in-Read : goal.returns-in-Read
unfolding job_run
returns-in-Read g c =
    let n : ℕ = c.in-Read.job.count in
    let room : n ≤ room_of c.args.bytes.now = subst (λ j. answers (said j) ≤ room_of c.args.bytes.now) c.in-Read.is c.requires in
    let same = enough_room g.P.Part.ops n (room_of c.args.bytes.now) (reading c.args.lines.now c.in-Read.job.address c.in-Read.job.aim.now n) c.args.board.now room in
    let job = ap (λ j. job_run g.P.Part.ops c.args.lines.now (said j) c.args.board.now) (sym c.in-Read.is) in
    let most = lasts_within n _ c.read.ensures.count in
    record {
      run = same_into _ _ _ _ _ _ (same ∙ job) c.read.ensures.run;
      within = subst (λ j. Within (answers (said j)) (job_run g.P.Part.ops c.args.lines.now (said j) c.args.board.now).1) (sym c.in-Read.is) (subst (λ z. Within n z.1) same most);
      lines = refl;
      lender = c.read.ensures.lender;
    }

pub returns-in-Wait : goal.returns-in-Wait
unfolding job_run
returns-in-Wait g c =
    let ran = ap (λ j. job_run g.P.Part.ops c.args.lines.now (said j) c.args.board.now) c.in-Wait.is ∙ c.wait.ensures.run in
    record { run = without_bytes _ _ c.wait.result.1 c.args.bytes.now ran; within = none_within _ _ _ c.wait.result.1 ran; lines = c.wait.ensures.lines; lender = refl }

pub returns-in-Finish : goal.returns-in-Finish
unfolding job_run
returns-in-Finish g c =
    let ran = ap (λ j. job_run g.P.Part.ops c.args.lines.now (said j) c.args.board.now) c.in-Finish.is ∙ called _ _ _ c.finish.result c.finish.ensures.after c.finish.ensures.answer in
    record { run = without_bytes _ _ c.finish.result c.args.bytes.now ran; within = none_within _ _ _ c.finish.result ran; lines = refl; lender = refl }

pub returns-in-Cut : goal.returns-in-Cut
unfolding job_run
returns-in-Cut g c =
    let board = ap (λ b. (b, ok [])) (sym c.cut.ensures) in
    let ran = ap (λ j. job_run g.P.Part.ops c.args.lines.now (said j) c.args.board.now) c.in-Cut.is ∙ board in
    record { run = without_bytes _ _ (Ok tt) c.args.bytes.now ran; within = none_within _ _ _ (Ok tt) ran; lines = refl; lender = refl }

pub returns-in-Recover : goal.returns-in-Recover
unfolding job_run
returns-in-Recover g c =
    let job = ap (λ j. job_run g.P.Part.ops c.args.lines.now (said j) c.args.board.now) (sym c.in-Recover.is) in
    let most = lasts_within 1 _ c.run_recovery.ensures.count in
    record {
      run = same_into _ _ _ _ _ _ job c.run_recovery.ensures.run;
      within = subst (λ j. Within (answers (said j)) (job_run g.P.Part.ops c.args.lines.now (said j) c.args.board.now).1) (sym c.in-Recover.is) most;
      lines = refl;
      lender = c.run_recovery.ensures.lender;
    }

pub returns-in-Samples : goal.returns-in-Samples
unfolding job_run
returns-in-Samples g c =
    let xs : List ℕ = c.in-Samples.job.bytes.now in
    let room : length xs ≤ room_of c.args.bytes.now = subst (λ j. answers (said j) ≤ room_of c.args.bytes.now) c.in-Samples.is c.requires in
    let same = enough_samples g.P.Part.ops xs (room_of c.args.bytes.now) c.args.board.now room in
    let job = ap (λ j. job_run g.P.Part.ops c.args.lines.now (said j) c.args.board.now) (sym c.in-Samples.is) in
    let most = lasts_within (length xs) _ c.samples.ensures.count in
    record {
      run = same_into _ _ _ _ _ _ (same ∙ job) c.samples.ensures.run;
      within = subst (λ j. Within (answers (said j)) (job_run g.P.Part.ops c.args.lines.now (said j) c.args.board.now).1) (sym c.in-Samples.is) (subst (λ z. Within (length xs) z.1) same most);
      lines = refl;
      lender = c.samples.ensures.lender;
    }
