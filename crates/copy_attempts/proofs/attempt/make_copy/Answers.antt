use Rattle.steps.proofs.Joining.{so_call}
use Rattle.copy_attempts.specs.Attempts.{Goes}
use Rattle.copy_attempts.specs.Outcomes.{Attempt}
use Rattle.copy_attempts.proofs.Facts.{attempt-of}
use Rattle.copy_attempts.proofs.attempt.make_copy.Goals as goal

pub returns : goal.returns
returns g c =
    so_call g.P.Stepper.did (λ events. Goes c.args.object c.args.aim c.args.avoid c.args.size events c.try_all.result)
    (λ events. Attempt c.args.object c.args.aim c.args.avoid c.args.size events c.try_all.result)
    c.args.p.now c.try_all.new.p c.try_all.ensures (λ events h. attempt-of c.args.object c.args.aim c.args.avoid c.args.size events c.try_all.result h)
