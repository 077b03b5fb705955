use Rattle.std.proofs.Common.{List, ℕ, Result, ap, ◌∙◌, sym, subst}
use Rattle.kinds.specs.declared.refusal.Refusal.{Refusal}
use Rattle.policy_domains.specs.Makings.{Brings}
use Rattle.policy_domains.specs.Rows.{DomainRow, changed}
use Rattle.policy_domains.specs.Sets.{in_sets}
use Rattle.policy_domains.specs.Changes.{set_after}
use Rattle.policy_domains.proofs.Places.{within, outside}
use Rattle.policy_domains.proofs.changes.make.Goals as goal

pub returns-in-Some : goal.returns-in-Some
returns-in-Some c =
    subst (λ (said : Result (List (List ℕ × DomainRow)) Refusal). Brings c.change_within.result c.args.rows.now.entries c.change_within.new.rows.entries said)
    (ap (λ domain. changed domain (in_sets (changed c.in-Some.set.now (set_after c.args.change.now))) c.args.rows.now.entries) c.domain_of.ensures
    ∙ sym (within c.args.change.now c.in-Some.set.now c.args.rows.now.entries c.in-Some.ensures))
    c.change_within.ensures

pub returns-in-None : goal.returns-in-None
returns-in-None c =
    subst (λ (said : Result (List (List ℕ × DomainRow)) Refusal). Brings c.make_outside.result c.args.rows.now.entries c.make_outside.new.rows.entries said)
    (sym (outside c.args.change.now c.args.rows.now.entries c.in-None.ensures)) c.make_outside.ensures
