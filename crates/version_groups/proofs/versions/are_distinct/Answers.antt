use Rattle.std.proofs.Common.{not, ◌≡◌, sym, refl, ◌∙◌}
use Rattle.std.specs.Bool.{◌==◌}
use Rattle.version_groups.specs.declared.versions.Version.{Version}
use Rattle.version_groups.proofs.Lists.{all_later-more, all_later-stop, all_later-all}
use Rattle.version_groups.proofs.versions.are_distinct.Goals as goal

pub versions-init : goal.versions-init
versions-init c = refl

pub versions-preserved : goal.versions-preserved
versions-preserved c = c.versions.invariant ∙ all_later-more (λ (v w : Version). not (w.object == v.object)) _ _ c.index-versions-i.result c.versions-test.true (sym c.are_of_others.ensures ∙ c.if-not-are_of_others.false)

pub returns-then-not-are_of_others : goal.returns-then-not-are_of_others
returns-then-not-are_of_others c = sym (c.versions.invariant ∙ all_later-stop (λ (v w : Version). not (w.object == v.object)) _ _ c.index-versions-i.result c.versions-test.true (sym c.are_of_others.ensures ∙ c.if-not-are_of_others.true))

pub returns : goal.returns
returns c = sym (c.versions.invariant ∙ all_later-all (λ (v w : Version). not (w.object == v.object)) _ _ c.versions-test.false)
