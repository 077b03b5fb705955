use Rattle.client_batches.proofs.Committed.{commits-ended}
use Rattle.client_batches.proofs.committing.commit_lines.Goals as goal

pub returns-in-Err : goal.returns-in-Err
returns-in-Err g c =
    commits-ended g.P.Stepper.did g.met.P.Stepper.goes_on c.args.p.now c.commit_all.new.p c.give_back.new.p (g.L.Listing.asking c.args.filespace) c.args.lines.now c.args.tickets.now c.in-Err.refusal
    c.give_back.result c.in-Err.ensures c.give_back.ensures
