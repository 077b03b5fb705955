use Rattle.pool_restores.proofs.Destroying.{destroyed, unasked, unchanged, unfound}
use Rattle.pool_restores.proofs.volume.destroy.Goals as goal

pub returns-in-Err-destroying_of : goal.returns-in-Err-destroying_of
returns-in-Err-destroying_of g c =
    unfound g.P.Stepper.did c.args.p.now c.ask_volumes.new.p c.args.file c.in-Ok.lines c.as_slice.result.now c.in-Err-destroying_of.refusal c.as_slice.ensures c.in-Err-destroying_of.ensures c.in-Ok.ensures

pub returns-in-Err : goal.returns-in-Err
returns-in-Err g c = unasked g.P.Stepper.did c.args.p.now c.ask_volumes.new.p c.args.file c.in-Err.refusal c.in-Err.ensures

pub returns-in-Ok-commit_change : goal.returns-in-Ok-commit_change
returns-in-Ok-commit_change g c =
    destroyed g.P.Stepper.did g.met.P.Stepper.goes_on c.args.p.now c.ask_volumes.new.p c.commit_change.new.p c.args.file c.in-Ok-commit_change.field-0 c.in-Ok.lines c.as_slice.result.now
    c.in-Ok-destroying_of.change c.as_slice.ensures c.in-Ok-destroying_of.ensures c.in-Ok.ensures c.in-Ok-commit_change.ensures

pub returns-in-Err-commit_change : goal.returns-in-Err-commit_change
returns-in-Err-commit_change g c =
    unchanged g.P.Stepper.did g.met.P.Stepper.goes_on c.args.p.now c.ask_volumes.new.p c.commit_change.new.p c.args.file c.in-Ok.lines c.as_slice.result.now c.in-Ok-destroying_of.change
    c.in-Err-commit_change.refusal c.unmade.result c.as_slice.ensures c.in-Ok-destroying_of.ensures c.unmade.ensures c.in-Ok.ensures c.in-Err-commit_change.ensures
