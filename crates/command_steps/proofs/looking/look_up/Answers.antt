use Rattle.admin_commands.specs.Orders.{needs}
use Rattle.command_steps.specs.Doing.{AsksAll}
use Rattle.inventory_answers.specs.declared.query.Query.{Query}
use Rattle.sessions.proofs.Turns.{or-memory}
use Rattle.std.proofs.Common.{List, subst, ◌∙◌}
use Rattle.steps.specs.Calls.{Call}
use Rattle.command_steps.proofs.looking.look_up.Goals as goal

pub returns-in-Ok : goal.returns-in-Ok
returns-in-Ok g c = or-memory g.P.Stepper.did c.args.p.now c.ask_all-answers.new.p (AsksAll (needs c.args.command.now)) c.ask_all-answers.result
    (subst (λ (qs : List Query). Call g.P.Stepper.did c.args.p.now c.ask_all-answers.new.p (λ events. AsksAll qs events c.ask_all-answers.result)) (c.as_slice.ensures.value ∙ c.in-Ok.ensures) c.ask_all-answers.ensures)
