-- That a ticket was asked for is looked for, and not cited: a body that gives objects up untried is refused for want of that fact.
use Rattle.std.proofs.Common.{rules}
use Rattle.copy_attempts.proofs.Making.{tries-opened, tries-refused}
use Rattle.copy_attempts.proofs.attempt.try_once.Goals as goal

pub returns-in-Ok : goal.returns-in-Ok
returns-in-Ok g c =
    tries-opened g.P.Stepper.did g.met.P.Stepper.goes_on c.args.p.now _ c.spend.new.p c.args.object c.args.aim c.args.avoid c.args.size c.in-Ok.ticket c.spend.result
    (search rules) c.spend.ensures

pub returns-in-Err : goal.returns-in-Err
returns-in-Err g c =
    tries-refused g.P.Stepper.did c.args.p.now _ c.args.object c.args.aim c.args.avoid c.args.size c.in-Err.refusal c.unopened.result (search rules) c.unopened.ensures
