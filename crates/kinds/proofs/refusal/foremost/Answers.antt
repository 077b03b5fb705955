use Rattle.std.proofs.Common.{◌≤◌, IfSome, All, Contains, sym, subst}
use Rattle.kinds.specs.Refusals.{place_of}
use Rattle.kinds.proofs.Order.{foremost-more, foremost-done, foremost-held, foremost-least}
use Rattle.kinds.proofs.refusal.foremost.Goals as goal

pub held-preserved : goal.held-preserved
held-preserved c = foremost-more _ _ _ _ _ c.held-test.true c.held.invariant c.sooner_of-found.ensures

pub returns-clause-value : goal.returns-clause-value
returns-clause-value c = foremost-done _ _ _ c.held-test.false c.held.invariant

pub returns-clause-one : goal.returns-clause-one
returns-clause-one c =
    subst (λ o. IfSome o (Contains c.args.held.now)) (sym (foremost-done c.args.held.now _ _ c.held-test.false c.held.invariant)) (foremost-held c.args.held.now)

pub returns-clause-least : goal.returns-clause-least
returns-clause-least c =
    subst (λ o. IfSome o (λ e. All (λ other. place_of e ≤ place_of other) c.args.held.now)) (sym (foremost-done c.args.held.now _ _ c.held-test.false c.held.invariant)) (foremost-least c.args.held.now)
