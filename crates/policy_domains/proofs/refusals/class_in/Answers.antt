use Rattle.std.proofs.Common.{sym, ap, ◌∙◌}
use Rattle.std.specs.Result.{result_err}
use Rattle.policy_domains.specs.Rows.{defined}
use Rattle.policy_domains.specs.Sets.{bare_class, class_changed}
use Rattle.policy_domains.proofs.Errors.{error_within}
use Rattle.policy_domains.proofs.refusals.class_in.Goals as goal

pub returns-in-Define : goal.returns-in-Define
returns-in-Define c =
    c.define_refusal.ensures bare_class
    ∙ ap (λ rows. result_err (defined c.args.class.now bare_class rows)) c.classes.ensures
    ∙ sym (error_within (λ classes. record { default_class = c.args.row.now.default_class; classes = classes }) (defined c.args.class.now bare_class c.args.row.now.classes))
    ∙ ap (λ verb. result_err (class_changed verb c.args.class.now c.args.row.now)) (sym c.in-Define.is)
