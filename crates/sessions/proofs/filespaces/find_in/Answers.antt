use Rattle.std.proofs.Common.{ℕ, Option, sym, subst}
use Rattle.steps.specs.Calls.{Call}
use Rattle.sessions.proofs.Turns.{turn-goes}
use Rattle.sessions.specs.InTurn.{OrMemory}
use Rattle.sessions.specs.Putting.{AsksFor, Defines, FindsIn}
use Rattle.sessions.proofs.filespaces.find_in.Goals as goal

pub returns-in-Ok : goal.returns-in-Ok
returns-in-Ok g c =
    subst (λ (it : Option ℕ). Call g.P.Stepper.did c.args.p.now c.ask_for.new.p (λ events. FindsIn c.args.node.now c.args.filespace.now c.args.number it events c.ask_for.result)) (sym c.in-None.is)
    (turn-goes g.P.Stepper.did g.met.P.Stepper.goes_on c.args.p.now c.define.new.p c.ask_for.new.p (OrMemory (Defines c.args.number c.args.filespace.now))
    (λ (done : Unit {0}). AsksFor c.args.node.now c.args.filespace.now) tt c.ask_for.result c.in-Ok.ensures c.ask_for.ensures)
