use Rattle.std.proofs.Common.{List, length, ◌+◌, ap, ◌∙◌}
use Rattle.version_groups.specs.Versions.{are_distinct, has_object}
use Rattle.version_groups.specs.declared.versions.Version.{Version}
use Rattle.version_groups.proofs.Lists.{distinct-without_object}
use Rattle.version_groups.proofs.Laws.{length-without_object}
use Rattle.version_groups.proofs.versions.Versions.remove.Goals as goal

pub invariant_of-self : goal.invariant_of-self
invariant_of-self c = ap are_distinct c.take_out.ensures ∙ distinct-without_object c.args.object c.self.inside.items.items c.self.invariant

pub returns-clause-one : goal.returns-clause-one
returns-clause-one c there =
    ap (λ (t : List Version). length t + 1) c.take_out.ensures
    ∙ length-without_object c.args.object c.self.inside.items.items c.self.invariant (ap (has_object c.args.object) c.self.view_is ∙ there)
    ∙ ap length c.self.view_is
