use Rattle.steps.proofs.Joining.{so_call}
use Rattle.sessions.specs.Changing.{Changes, Changing}
use Rattle.sessions.proofs.Changed.{changing-of}
use Rattle.sessions.proofs.changing.commit_change.Goals as goal

pub returns : goal.returns
returns g c =
    so_call g.P.Stepper.did (λ events. Changes c.args.change events c.join_and_force.result) (λ events. Changing c.args.change events c.join_and_force.result) c.args.p.now c.join_and_force.new.p
    c.join_and_force.ensures (λ events h. changing-of c.args.change events c.join_and_force.result h)
