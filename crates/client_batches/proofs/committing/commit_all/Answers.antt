use Rattle.std.proofs.Common.{rules}
use Rattle.client_batches.proofs.Committed.{all-single}
use Rattle.client_batches.proofs.committing.commit_all.Goals as goal

pub returns-in-Some : goal.returns-in-Some
returns-in-Some g c =
    all-single g.P.Stepper.did g.met.P.Stepper.goes_on c.args.p.now c.try_lines.new.p c.one_by_one.new.p (g.L.Listing.asking c.args.filespace) c.args.lines.now c.args.tickets.now c.in-Ok.tried
    c.in-Some.field-0 c.one_by_one.result (search rules) c.in-Ok.ensures c.one_by_one.ensures
