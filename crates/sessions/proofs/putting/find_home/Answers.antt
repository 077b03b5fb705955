use Rattle.std.proofs.Common.{ℕ}
use Rattle.inventory_work.specs.declared.lines.Rules.{Rules}
use Rattle.sessions.proofs.Turns.{decided, turn-goes, turn-refused}
use Rattle.sessions.specs.Asking.{AsksNode, AsksRules}
use Rattle.sessions.specs.Homes.{home_of}
use Rattle.sessions.specs.InTurn.{Decides, InTurn, OrMemory}
use Rattle.sessions.proofs.putting.find_home.Goals as goal

pub returns-in-Ok-ask_rules : goal.returns-in-Ok-ask_rules
returns-in-Ok-ask_rules g c =
    turn-goes g.P.Stepper.did g.met.P.Stepper.goes_on c.args.p.now c.look_up.new.p c.ask_rules.new.p (OrMemory (AsksNode c.args.node.now))
    (λ (number : ℕ). InTurn (AsksRules number) (λ (rules : Rules). Decides (home_of number rules c.args.binder.now c.args.path.now))) c.in-Ok.number c.home_of.result c.in-Ok.ensures
    (turn-goes g.P.Stepper.did g.met.P.Stepper.goes_on c.look_up.new.p c.ask_rules.new.p c.ask_rules.new.p (AsksRules c.in-Ok.number)
    (λ (rules : Rules). Decides (home_of c.in-Ok.number rules c.args.binder.now c.args.path.now)) c.in-Ok-ask_rules.rules c.home_of.result c.in-Ok-ask_rules.ensures
    (decided g.P.Stepper.did c.ask_rules.new.p (home_of c.in-Ok.number c.in-Ok-ask_rules.rules c.args.binder.now c.args.path.now) c.home_of.result (g.met.P.Stepper.stays c.ask_rules.new.p) c.home_of.ensures))

pub returns-in-Err-ask_rules : goal.returns-in-Err-ask_rules
returns-in-Err-ask_rules g c =
    turn-goes g.P.Stepper.did g.met.P.Stepper.goes_on c.args.p.now c.look_up.new.p c.ask_rules.new.p (OrMemory (AsksNode c.args.node.now))
    (λ (number : ℕ). InTurn (AsksRules number) (λ (rules : Rules). Decides (home_of number rules c.args.binder.now c.args.path.now))) c.in-Ok.number _ c.in-Ok.ensures
    (turn-refused g.P.Stepper.did c.look_up.new.p c.ask_rules.new.p (AsksRules c.in-Ok.number) (λ (rules : Rules). Decides (home_of c.in-Ok.number rules c.args.binder.now c.args.path.now))
    c.in-Err-ask_rules.refusal c.in-Err-ask_rules.ensures)

pub returns-in-Err : goal.returns-in-Err
returns-in-Err g c =
    turn-refused g.P.Stepper.did c.args.p.now c.look_up.new.p (OrMemory (AsksNode c.args.node.now))
    (λ (number : ℕ). InTurn (AsksRules number) (λ (rules : Rules). Decides (home_of number rules c.args.binder.now c.args.path.now))) c.in-Err.refusal c.in-Err.ensures
