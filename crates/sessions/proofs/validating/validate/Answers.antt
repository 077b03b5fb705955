use Rattle.sessions.proofs.Allowed.{validating-of}
use Rattle.sessions.specs.Validating.{Validates, Validating}
use Rattle.steps.proofs.Joining.{so_call}
use Rattle.sessions.proofs.validating.validate.Goals as goal

pub returns : goal.returns
returns g c =
    so_call g.P.Stepper.did (λ events. Validates c.args.domain c.args.set events c.ask_and_tell.result) (λ events. Validating c.args.domain c.args.set events c.ask_and_tell.result) c.args.p.now c.ask_and_tell.new.p
    c.ask_and_tell.ensures (λ events h. validating-of c.args.domain c.args.set events c.ask_and_tell.result h)
