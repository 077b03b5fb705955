-- That the ticket was dropped is looked for, and not cited: a body that leaves it is refused for want of that fact.
use Rattle.std.proofs.Common.{rules}
use Rattle.sessions.proofs.Put.{gives-back}
use Rattle.sessions.proofs.putting.give_back.Goals as goal

pub returns-else-is_lasting : goal.returns-else-is_lasting
returns-else-is_lasting g c = gives-back g.P.Stepper.did c.args.p.now _ c.args.ticket c.args.refusal c.behind_drop.result (search rules) (search rules)
