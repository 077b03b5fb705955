use Rattle.command_steps.proofs.Worked.{validates}
use Rattle.command_steps.proofs.doing.validate.Goals as goal

pub returns : goal.returns
returns g c = validates g.P.Stepper.did c.args.p.now c.ask_validity.new.p c.args.set.now c.ask_validity.result c.validated_by.result c.ask_validity.ensures c.validated_by.ensures
