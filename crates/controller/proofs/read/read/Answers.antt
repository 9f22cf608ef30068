use Rattle.std.proofs.Common.{ℕ, ◌≤◌, List, [], sym, refl, ap, ◌∙◌, subst, arith}
use Rattle.std.proofs.lemmas.Result.{err_from_is_err_and}
use Rattle.refusals.specs.Told.{Told, ok, refused, told}
use Rattle.rows.specs.Rows.{room_of}
use Rattle.controller.specs.Answers.{Into}
use Rattle.controller.specs.Bytes.{AllBytes}
use Rattle.controller.specs.Master.{Master, run}
use Rattle.controller.specs.Jobs.{receive_all, reading, with_room}
use Rattle.controller.proofs.Receives.{reads_all, reads_refused, same_address, roomy_run, into, lasts}
use Rattle.controller.proofs.Sampling.{job_sampled}
use Rattle.controller.proofs.Working.{read_works}
use Rattle.controller.proofs.read.read.Goals as goal

pub returns-in_err-reading : goal.returns-in_err-reading
returns-in_err-reading g c =
    let room : c.args.job.now.count ≤ room_of c.args.row.now = omega (arith, c.if-room-from.false, c.from.ensures, c.room.ensures, c.count.ensures.value) in
    let one : 1 ≤ c.args.job.now.count = omega (arith, c.count.ensures.value, c.count.ensures.limit) in
    let opened = same_address g.P.Part.ops c.args.lines.now _ c.args.job.now.address _ c.args.job.now.aim.now c.args.board.now c.address.ensures.value c.aim.ensures.value
    c.in_err-reading.ensures.run in
    let job : Master (Told (List ℕ)) = with_room c.args.job.now.count (room_of c.args.row.now) (reading c.args.lines.now c.args.job.now.address c.args.job.now.aim.now c.args.job.now.count) in
    let ran = roomy_run g.P.Part.ops c.args.job.now.count (room_of c.args.row.now) _ _ room
    (reads_refused g.P.Part.ops c.args.lines.now c.args.job.now.address c.args.job.now.count _ _ c.args.job.now.aim.now c.args.board.now _ opened) in
    let exit = err_from_is_err_and c.from_residual.result c.from_residual.ensures.1 in
    let done : Into (run g.P.Part.ops job c.args.board.now) _ c.args.row.now c.args.row.now (told (λ x. x) c.from_residual.result) = rw (exit.1, exit.2)
    (into _ _ (refused _ _) c.args.row.now c.args.row.now ran refl) in
    record {
      run = done;
      work = read_works g.P.Part.ops g.met.P.Part.keeps c.args.lines.now c.args.job.now.address (room_of c.args.row.now) c.args.job.now.aim.now c.args.job.now.count
          c.args.board.now _ c.args.row.now c.args.row.now _ (subst AllBytes c.aim.ensures.value c.in_err-reading.ensures.bytes) one done;
      sampled = job_sampled g.P.Part.ops job c.args.board.now _ _ ran;
      count = lasts _ _ _ (refused _ _) ran tt;
      lender = refl;
    }

pub returns : goal.returns
returns g c =
    let room : c.args.job.now.count ≤ room_of c.args.row.now = omega (arith, c.if-room-from.false, c.from.ensures, c.room.ensures, c.count.ensures.value) in
    let one : 1 ≤ c.args.job.now.count = omega (arith, c.count.ensures.value, c.count.ensures.limit) in
    let opened = same_address g.P.Part.ops c.args.lines.now _ c.args.job.now.address _ c.args.job.now.aim.now c.args.board.now c.address.ensures.value c.aim.ensures.value
    c.in_ok-reading.ensures.run in
    let got : List ℕ = c.receive_all-reading.ensures.run.0 in
    let count = ap (λ n. run g.P.Part.ops (receive_all c.args.lines.now n []) c.open_read.new.board) (sym c.count-2.ensures.value) in
    let job : Master (Told (List ℕ)) = with_room c.args.job.now.count (room_of c.args.row.now) (reading c.args.lines.now c.args.job.now.address c.args.job.now.aim.now c.args.job.now.count) in
    let ran = roomy_run g.P.Part.ops c.args.job.now.count (room_of c.args.row.now) _ _ room
    (reads_all g.P.Part.ops c.args.lines.now c.args.job.now.address c.args.job.now.count c.args.job.now.aim.now got c.args.board.now _ _ _ opened
    (count ∙ c.receive_all-reading.ensures.run.3) c.stop.ensures.run) in
    let done = into _ _ (ok got) c.args.row.now c.receive_all-reading.new.row ran c.receive_all-reading.ensures.run.2 in
    record {
      run = done;
      work = read_works g.P.Part.ops g.met.P.Part.keeps c.args.lines.now c.args.job.now.address (room_of c.args.row.now) c.args.job.now.aim.now c.args.job.now.count
          c.args.board.now _ c.args.row.now c.receive_all-reading.new.row _ (subst AllBytes c.aim.ensures.value c.in_ok-reading.ensures.bytes) one done;
      sampled = job_sampled g.P.Part.ops job c.args.board.now _ _ ran;
      count = lasts _ _ _ (ok got) ran (c.receive_all-reading.ensures.run.1 ∙ c.count-2.ensures.value);
      lender = c.receive_all-reading.ensures.lender;
    }
