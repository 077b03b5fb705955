use Rattle.std.proofs.Common.{sym, ap, ◌∙◌}
use Rattle.std.specs.Result.{result_err}
use Rattle.policy_domains.specs.Rows.{DomainRow}
use Rattle.policy_domains.specs.Sets.{set_changed}
use Rattle.policy_domains.specs.Errors.{error_at}
use Rattle.policy_domains.proofs.Errors.{error_in_sets}
use Rattle.policy_domains.proofs.refusals.of_set.Goals as goal

pub returns-in-Some : goal.returns-in-Some
returns-in-Some c =
    c.set_in.ensures
    ∙ ap (λ s. result_err (set_changed c.args.verb c.args.set.now s)) c.sets.ensures
    ∙ ap (error_at (λ (d : DomainRow). set_changed c.args.verb c.args.set.now d.sets)) c.in-Some.ensures.value
    ∙ sym (error_in_sets c.args.domain.now (set_changed c.args.verb c.args.set.now) c.args.rows.now.entries)
