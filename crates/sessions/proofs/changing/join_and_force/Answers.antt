-- That all was made durable is looked for, and not cited: a body that answers before is refused for want of that fact.
use Rattle.std.proofs.Common.{rules}
use Rattle.sessions.proofs.Changed.{changes-forced, changes-unforced}
use Rattle.sessions.proofs.changing.join_and_force.Goals as goal

pub returns-in-Ok-force : goal.returns-in-Ok-force
returns-in-Ok-force g c =
    changes-forced g.P.Stepper.did g.met.P.Stepper.goes_on c.args.p.now c.join-answer.new.p _ c.args.change c.in-Ok.number c.in-Ok-force.field-0 c.in-Ok.ensures (search rules)

pub returns-in-Err-force : goal.returns-in-Err-force
returns-in-Err-force g c =
    changes-unforced g.P.Stepper.did g.met.P.Stepper.goes_on c.args.p.now c.join-answer.new.p _ c.args.change c.in-Ok.number c.in-Err-force.refusal c.in-Ok.ensures (search rules)
