use Rattle.std.proofs.Common.{◌≡◌, ◌⊎◌, List, subst}
use Rattle.kinds.specs.declared.refusal.Refusal.TheVariants.{Memory}
use Rattle.inventory_answers.specs.declared.reply.Answer.{Answer}
use Rattle.admin_commands.specs.Orders.{work_of}
use Rattle.command_steps.proofs.Withheld.{asked, not-asked}
use Rattle.command_steps.specs.Jobs.{refused_for}
use Rattle.command_steps.proofs.jobs.withhold.Goals as goal

pub returns-in-Ok : goal.returns-in-Ok
returns-in-Ok g c = λ k kept many.
    asked g.P.Stepper.did k kept c.args.p.now c.look_up.new.p c.args.count c.args.number c.args.command.now c.in-Ok.answers c.refused_for-why.result many c.in-Ok.ensures
    (subst (λ (answers : List Answer). (c.refused_for-why.result ≡ Memory) ⊎ (c.refused_for-why.result ≡ refused_for c.args.count c.args.number (work_of c.args.command.now answers))) c.as_slice.ensures c.refused_for-why.ensures)

pub returns-in-Err : goal.returns-in-Err
returns-in-Err g c = λ k kept many. not-asked g.P.Stepper.did k kept c.args.p.now c.look_up.new.p c.args.number c.args.command.now c.in-Err.refusal c.in-Err.ensures
