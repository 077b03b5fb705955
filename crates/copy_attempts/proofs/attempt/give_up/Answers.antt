-- That the ticket was dropped is looked for, and not cited: a body that leaves it is refused for want of that fact.
use Rattle.std.proofs.Common.{rules}
use Rattle.copy_attempts.proofs.Making.{gives-back}
use Rattle.copy_attempts.proofs.attempt.give_up.Goals as goal

pub returns-else-is_spent_by : goal.returns-else-is_spent_by
returns-else-is_spent_by g c =
    gives-back g.P.Stepper.did c.args.p.now _ c.args.ticket c.args.refusal c.behind_drop.result (search rules) (search rules)
