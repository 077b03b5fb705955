use Rattle.sessions.proofs.Put.{looks}
use Rattle.sessions.proofs.filespaces.look.Goals as goal

pub returns : goal.returns
returns g c = looks g.P.Stepper.did c.args.p.now c.ask_for.new.p c.args.node.now c.args.filespace.now c.ask_for.result c.there_or_not.result c.ask_for.ensures c.there_or_not.ensures
