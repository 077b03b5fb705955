use Rattle.std.proofs.Common.{◌≡◌, true, false, ◌∷◌, sym, subst}
use Rattle.version_groups.specs.Versions.{has_object, are_distinct, superseded}
use Rattle.version_groups.proofs.Lists.{distinct-put}
use Rattle.version_groups.proofs.Altered.{AnswersBy-keeps}
use Rattle.version_groups.proofs.versions.Versions.put.Goals as goal

pub invariant_of-self : goal.invariant_of-self
invariant_of-self c =
    AnswersBy-keeps (λ s. are_distinct s ≡ true) c.put_newest.result _ (c.args.version ∷ superseded c.args.version.stored c.self.inside.items.items) c.self.inside.items.items c.put_newest.ensures.value c.put_newest.ensures.unchanged
    (distinct-put c.args.version c.self.inside.items.items (subst (λ s. has_object c.args.version.object s ≡ false) (sym c.self.view_is) c.requires) c.self.invariant)
    c.self.invariant
