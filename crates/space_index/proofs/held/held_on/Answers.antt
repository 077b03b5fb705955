use Rattle.std.proofs.Common.{Option, subst, sym, ◌∙◌}
use Rattle.space_index.specs.declared.held.Held.{Held}
use Rattle.space_index.specs.Claimed.{IsHeldAt}
use Rattle.space_index.proofs.Claiming.{held_new}
use Rattle.space_index.proofs.held.held_on.Goals as goal

pub returns-in-Some-clause-was : goal.returns-in-Some-clause-was
returns-in-Some-clause-was c = λ tickets are. (subst (λ (o : Option Held). IsHeldAt c.args.file tickets o) (sym c.take_out.ensures.was ∙ c.in-Some.is) (are c.args.file)).0

pub returns-in-None-clause-was : goal.returns-in-None-clause-was
returns-in-None-clause-was c = λ tickets are.
    held_new c.args.file c.args.pool tickets c.new.result c.new.ensures.actors c.new.ensures.ends (subst (λ (o : Option Held). IsHeldAt c.args.file tickets o) (sym c.take_out.ensures.was ∙ c.in-None.is) (are c.args.file))
