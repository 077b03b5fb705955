use Rattle.sessions.specs.Getting.{Gets}
use Rattle.sessions.specs.InTurn.{OrMemory}
use Rattle.command_steps.proofs.Worked.{gives-err, gives-ok}
use Rattle.command_steps.specs.declared.outcome.Outcome.TheVariants.{Read}
use Rattle.command_steps.proofs.doing.get.Goals as goal

pub returns-in-Ok-clause-gets : goal.returns-in-Ok-clause-gets
returns-in-Ok-clause-gets g c = gives-ok g.P.Stepper.did c.args.p.now c.get_file.new.p (OrMemory (Gets c.args.file.now.node c.args.file.now.filespace c.args.file.now.path)) Read c.in-Ok.file c.in-Ok.ensures.gets

pub returns-in-Err-clause-gets : goal.returns-in-Err-clause-gets
returns-in-Err-clause-gets g c = gives-err g.P.Stepper.did c.args.p.now c.get_file.new.p (OrMemory (Gets c.args.file.now.node c.args.file.now.filespace c.args.file.now.path)) Read c.in-Err.refusal c.in-Err.ensures.gets
