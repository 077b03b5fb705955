use Rattle.incrementals.proofs.Working.{lists-done, lists-unbound, lists-unended}
use Rattle.incrementals.proofs.process.commit_lists.Goals as goal

pub returns-in-Err : goal.returns-in-Err
returns-in-Err g c =
    lists-unbound g.P.Stepper.did c.args.p.now c.commit_rebound.new.p c.args.filespace c.args.plan.now c.args.sent c.in-Err.refusal c.in-Err.ensures

pub returns-in-Ok-commit_gone : goal.returns-in-Ok-commit_gone
returns-in-Ok-commit_gone g c =
    lists-done g.P.Stepper.did g.met.P.Stepper.goes_on c.args.p.now c.commit_rebound.new.p c.commit_gone.new.p c.args.filespace c.args.plan.now c.args.sent c.in-Ok.rebound c.in-Ok-commit_gone.gone c.in-Ok.ensures c.in-Ok-commit_gone.ensures

pub returns-in-Err-commit_gone : goal.returns-in-Err-commit_gone
returns-in-Err-commit_gone g c =
    lists-unended g.P.Stepper.did g.met.P.Stepper.goes_on c.args.p.now c.commit_rebound.new.p c.commit_gone.new.p c.args.filespace c.args.plan.now c.args.sent c.in-Ok.rebound c.in-Err-commit_gone.refusal c.in-Ok.ensures c.in-Err-commit_gone.ensures
