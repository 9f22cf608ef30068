use Rattle.std.proofs.Common.{◌<◌, length, arith}
use Rattle.rows.specs.Rows.{items_of}
use Rattle.runner.proofs.Answering.{one_byte}
use Rattle.runner.proofs.Listing.{one_more}
use Rattle.runner.proofs.run.run_recovery.Goals as goal

pub returns : goal.returns
returns g c =
    let room : c.args.bytes.now.count < length (items_of c.args.bytes.now) = omega (arith, c.requires) in
    let grown = one_more c.args.bytes.now _ _ room c.append.ensures.count c.append.ensures.items in
    let byte = one_byte _ _ _ c.args.bytes.now _ c.recover-clocks.ensures.run grown in
    record { run = byte.0; count = byte.1; lender = c.append.ensures.lender }
