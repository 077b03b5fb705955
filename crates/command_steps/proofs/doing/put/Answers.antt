use Rattle.std.proofs.Common.{ℕ}
use Rattle.reports.specs.declared.shown.Shown.TheVariants.{Stored}
use Rattle.sessions.specs.InTurn.{OrMemory}
use Rattle.command_steps.proofs.Worked.{gives-err, gives-ok}
use Rattle.command_steps.specs.Doing.{PutsText}
use Rattle.command_steps.specs.declared.outcome.Outcome.TheVariants.{Said}
use Rattle.command_steps.proofs.doing.put.Goals as goal

pub returns-in-Ok-clause-puts : goal.returns-in-Ok-clause-puts
returns-in-Ok-clause-puts g c = gives-ok g.P.Stepper.did c.args.p.now c.put_text.new.p (OrMemory (PutsText c.args.binder.now c.args.file.now)) (λ (object : ℕ). Said (Stored object)) c.in-Ok.object c.in-Ok.ensures.puts

pub returns-in-Err-clause-puts : goal.returns-in-Err-clause-puts
returns-in-Err-clause-puts g c = gives-err g.P.Stepper.did c.args.p.now c.put_text.new.p (OrMemory (PutsText c.args.binder.now c.args.file.now)) (λ (object : ℕ). Said (Stored object)) c.in-Err.refusal c.in-Err.ensures.puts
