use Rattle.std.proofs.Common.{sym, ap, ◌∙◌}
use Rattle.policy_domains.specs.Groups.{groups_changed}
use Rattle.policy_domains.specs.Rows.{row_of, changed}
use Rattle.policy_domains.specs.Errors.{error_at}
use Rattle.policy_domains.proofs.Errors.{error_changed, error_within}
use Rattle.policy_domains.proofs.refusals.group_in.Goals as goal

pub returns-in-Some : goal.returns-in-Some
returns-in-Some c =
    c.refusal.ensures
    ∙ ap (error_at (groups_changed c.args.verb c.args.group)) (c.in-Some.ensures.value ∙ ap (row_of c.args.class.now) c.classes.ensures)
    ∙ sym (error_changed c.args.class.now (groups_changed c.args.verb c.args.group) c.args.row.now.classes)
    ∙ sym (error_within (λ classes. record { default_class = c.args.row.now.default_class; classes = classes }) (changed c.args.class.now (groups_changed c.args.verb c.args.group) c.args.row.now.classes))
