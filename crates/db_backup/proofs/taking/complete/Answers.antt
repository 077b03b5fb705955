-- That all was made durable is looked for, and not cited: a body that answers before is refused for want of that fact.
use Rattle.std.proofs.Common.{rules}
use Rattle.db_backup.proofs.Pieced.{completes-forced, completes-not, completes-unforced}
use Rattle.db_backup.proofs.taking.complete.Goals as goal

pub returns-in-Ok-force : goal.returns-in-Ok-force
returns-in-Ok-force g c = completes-forced g.P.Stepper.did g.met.P.Stepper.goes_on c.args.p.now c.go_on.new.p _ c.args.taken c.in-Ok.field-0 c.in-Ok-force.field-0 c.in-Ok.ensures (search rules)

pub returns-in-Err-force : goal.returns-in-Err-force
returns-in-Err-force g c =
    completes-unforced g.P.Stepper.did g.met.P.Stepper.goes_on c.args.p.now c.go_on.new.p _ c.args.taken c.in-Ok.field-0 c.in-Err-force.refusal c.stopping.result c.stopping.ensures c.in-Ok.ensures (search rules)

pub returns-in-Err : goal.returns-in-Err
returns-in-Err g c =
    completes-not g.P.Stepper.did g.met.P.Stepper.goes_on c.args.p.now c.go_on.new.p c.give_up.new.p c.args.taken c.in-Err.refusal c.give_up.result c.begun_file-file.result c.begun_file-file.ensures c.in-Err.ensures
    c.give_up.ensures
