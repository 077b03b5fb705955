use Rattle.std.proofs.Common.{Err, inr, refl}
use Rattle.kinds.specs.declared.refusal.Refusal.TheVariants.{Memory}
use Rattle.sessions.specs.Getting.{Gets}
use Rattle.sessions.specs.InTurn.{OrMemory}
use Rattle.steps.proofs.Joining.{call_of_none}
use Rattle.command_steps.proofs.doing.get_file.Goals as goal

pub returns-in-Err-clone-2-clause-gets : goal.returns-in-Err-clone-2-clause-gets
returns-in-Err-clone-2-clause-gets g c =
    call_of_none g.P.Stepper.did (λ events. OrMemory (Gets c.args.file.now.node c.args.file.now.filespace c.args.file.now.path) events (Err Memory)) c.args.p.now c.args.p.now (g.met.P.Stepper.stays c.args.p.now) (inr (refl, refl))

pub returns-in-Err-clone-clause-gets : goal.returns-in-Err-clone-clause-gets
returns-in-Err-clone-clause-gets g c =
    call_of_none g.P.Stepper.did (λ events. OrMemory (Gets c.args.file.now.node c.args.file.now.filespace c.args.file.now.path) events (Err Memory)) c.args.p.now c.args.p.now (g.met.P.Stepper.stays c.args.p.now) (inr (refl, refl))

pub returns-in-Err-clause-gets : goal.returns-in-Err-clause-gets
returns-in-Err-clause-gets g c =
    call_of_none g.P.Stepper.did (λ events. OrMemory (Gets c.args.file.now.node c.args.file.now.filespace c.args.file.now.path) events (Err Memory)) c.args.p.now c.args.p.now (g.met.P.Stepper.stays c.args.p.now) (inr (refl, refl))
