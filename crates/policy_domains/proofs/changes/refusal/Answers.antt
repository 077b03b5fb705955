use Rattle.std.proofs.Common.{ap, ◌∙◌, sym}
use Rattle.std.specs.Result.{result_err}
use Rattle.policy_domains.specs.Rows.{changed}
use Rattle.policy_domains.specs.Sets.{in_sets}
use Rattle.policy_domains.specs.Changes.{set_after}
use Rattle.policy_domains.proofs.Places.{within, outside}
use Rattle.policy_domains.proofs.changes.refusal.Goals as goal

pub returns-in-Some : goal.returns-in-Some
returns-in-Some c =
    c.of_within.ensures
    ∙ ap (λ domain. result_err (changed domain (in_sets (changed c.in-Some.set.now (set_after c.args.change.now))) c.args.rows.now.entries)) c.domain_of.ensures
    ∙ ap result_err (sym (within c.args.change.now c.in-Some.set.now c.args.rows.now.entries c.in-Some.ensures))

pub returns-in-None : goal.returns-in-None
returns-in-None c = c.refusal_outside.ensures ∙ ap result_err (sym (outside c.args.change.now c.args.rows.now.entries c.in-None.ensures))
