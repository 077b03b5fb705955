use Rattle.std.proofs.Common.{inl}
use Rattle.sessions.proofs.Turns.{wanted-as}
use Rattle.sessions.specs.InTurn.{OrMemory}
use Rattle.steps.proofs.Joining.{so_call}
use Rattle.command_steps.specs.Doing.{PutsText}
use Rattle.command_steps.proofs.doing.put_text.Goals as goal

pub returns-in-Ok-row_of-clause-puts : goal.returns-in-Ok-row_of-clause-puts
returns-in-Ok-row_of-clause-puts g c =
    so_call g.P.Stepper.did (λ events. PutsText c.args.binder.now c.args.file.now events c.put_row.result) (λ events. OrMemory (PutsText c.args.binder.now c.args.file.now) events c.put_row.result) c.args.p.now c.put_row.new.p
    c.put_row.ensures.puts (λ xs f. inl f)

pub returns-in-Err-row_of-clause-puts : goal.returns-in-Err-row_of-clause-puts
returns-in-Err-row_of-clause-puts g c =
    wanted-as g.P.Stepper.did c.args.p.now (PutsText c.args.binder.now c.args.file.now) c.in-Err-row_of.refusal (g.met.P.Stepper.stays c.args.p.now) c.in-Err-row_of.ensures.memory

pub returns-in-Err-clause-puts : goal.returns-in-Err-clause-puts
returns-in-Err-clause-puts g c =
    wanted-as g.P.Stepper.did c.args.p.now (PutsText c.args.binder.now c.args.file.now) c.in-Err.refusal (g.met.P.Stepper.stays c.args.p.now) c.in-Err.ensures.memory
