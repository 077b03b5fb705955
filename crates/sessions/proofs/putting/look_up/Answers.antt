use Rattle.std.proofs.Common.{ℕ, List, subst}
use Rattle.sessions.proofs.Turns.{or-memory}
use Rattle.sessions.specs.Asking.{AsksNode}
use Rattle.steps.specs.Calls.{Call}
use Rattle.sessions.proofs.putting.look_up.Goals as goal

pub returns-in-Ok : goal.returns-in-Ok
returns-in-Ok g c =
    or-memory g.P.Stepper.did c.args.p.now c.ask_node.new.p (AsksNode c.args.node.now) c.ask_node.result
    (subst (λ (node : List ℕ). Call g.P.Stepper.did c.args.p.now c.ask_node.new.p (λ events. AsksNode node events c.ask_node.result)) c.in-Ok.ensures.cases c.ask_node.ensures)
