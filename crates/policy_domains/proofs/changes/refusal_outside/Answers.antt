use Rattle.std.proofs.Common.{sym, ap, ◌∙◌}
use Rattle.std.specs.Result.{result_err}
use Rattle.policy_domains.specs.Changes.{domains_after}
use Rattle.policy_domains.proofs.changes.refusal_outside.Goals as goal

pub returns-in-Domain : goal.returns-in-Domain
returns-in-Domain c = c.of_domain.ensures c.in-Domain.back_retention ∙ ap (λ change. result_err (domains_after change c.args.rows.now.entries)) (sym c.in-Domain.is)
