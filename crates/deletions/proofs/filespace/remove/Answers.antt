-- That all was made durable is looked for, and not cited: a body that doesn't force is refused for want of that fact.
use Rattle.std.proofs.Common.{rules}
use Rattle.deletions.proofs.Whole.{removes, unforced-by}
use Rattle.deletions.proofs.filespace.remove.Goals as goal

pub returns-in-Ok-force : goal.returns-in-Ok-force
returns-in-Ok-force g c =
    removes g.P.Stepper.did g.met.P.Stepper.goes_on c.args.p.now c.remove_row.new.p _ c.args.filespace c.args.names.now.name c.in-Ok-force.field-0 c.in-Ok.ensures (search rules)

pub returns-in-Err-force : goal.returns-in-Err-force
returns-in-Err-force g c =
    unforced-by g.P.Stepper.did g.met.P.Stepper.goes_on c.args.p.now c.remove_row.new.p _ c.args.filespace c.args.names.now.name c.in-Err-force.refusal c.stopping.result c.stopping.ensures c.in-Ok.ensures (search rules)
