-- That the copy was begun is looked for, and not cited: a body that drops each ticket at once is refused for want of that fact.
use Rattle.std.proofs.Common.{rules}
use Rattle.copy_attempts.proofs.Making.{spends-given}
use Rattle.copy_attempts.proofs.attempt.spend.Goals as goal

pub returns-in-Err : goal.returns-in-Err
returns-in-Err g c =
    spends-given g.P.Stepper.did g.met.P.Stepper.goes_on c.args.p.now _ c.give_up.new.p c.args.ticket c.args.size c.in-Err.refusal c.give_up.result (search rules) c.give_up.ensures
