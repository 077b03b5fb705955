use Rattle.sessions.proofs.Allowed.{validates}
use Rattle.sessions.proofs.validating.ask_and_tell.Goals as goal

pub returns : goal.returns
returns g c =
    validates g.P.Stepper.did c.args.p.now c.ask_validity.new.p c.args.domain c.args.set c.ask_validity.result c.validity.result c.ask_validity.ensures c.validity.ensures
