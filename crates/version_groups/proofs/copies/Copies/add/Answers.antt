use Rattle.std.proofs.Common.{◌≡◌, true, not, sym, subst}
use Rattle.std.specs.Bool.{IsTrue}
use Rattle.std.proofs.lemmas.Bool.{not-true}
use Rattle.version_groups.specs.Copies.{has_copy, are_by_pool, with_copy}
use Rattle.version_groups.proofs.Lists.{by_pool-with_copy}
use Rattle.version_groups.proofs.Altered.{AnswersBy-keeps}
use Rattle.version_groups.proofs.copies.Copies.add.Goals as goal

pub invariant_of-self : goal.invariant_of-self
invariant_of-self c =
    AnswersBy-keeps (λ s. are_by_pool s ≡ true) c.put_in.result _ (with_copy c.args.copy c.self.inside.items.items) c.self.inside.items.items c.put_in.ensures.value c.put_in.ensures.unchanged
    (by_pool-with_copy c.args.copy c.self.inside.items.items (not-true (has_copy c.args.copy.pool c.self.inside.items.items) (subst (λ s. IsTrue (not (has_copy c.args.copy.pool s))) (sym c.self.view_is) c.requires)) c.self.invariant)
    c.self.invariant
