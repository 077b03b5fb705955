use Rattle.std.proofs.Common.{rules}
use Rattle.client_batches.proofs.Committed.{alone-out}
use Rattle.client_batches.proofs.committing.commit_alone.Goals as goal

pub returns-in-Some : goal.returns-in-Some
returns-in-Some g c =
    alone-out g.P.Stepper.did g.met.P.Stepper.goes_on c.args.p.now c.try_lines.new.p c.give_back.new.p (g.L.Listing.asking c.args.filespace c.args.line.now) c.args.ticket.now c.in-Ok.tried c.in-Some.why
    c.give_back.result c.taken_out.result (search rules) c.in-Ok.ensures c.give_back.ensures c.taken_out.ensures
