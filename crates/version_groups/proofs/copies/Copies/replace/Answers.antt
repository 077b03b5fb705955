use Rattle.std.proofs.Common.{◌≡◌, true, false, not, sym, subst, ap, ◌∙◌}
use Rattle.std.specs.Bool.{IsTrue}
use Rattle.std.proofs.lemmas.Bool.{not-true}
use Rattle.version_groups.specs.Copies.{has_copy, are_by_pool, with_copy, without_copy}
use Rattle.version_groups.proofs.Lists.{by_pool-with_copy, by_pool-without_copy}
use Rattle.version_groups.proofs.Altered.{AnswersBy-keeps}
use Rattle.version_groups.proofs.copies.Copies.replace.Goals as goal

pub invariant_of-self : goal.invariant_of-self
invariant_of-self c =
    let left : c.take_out.new.items.items ≡ without_copy c.args.from c.self.inside.items.items = c.take_out.ensures.value in
    let ordered : are_by_pool c.take_out.new.items.items ≡ true = ap are_by_pool left ∙ by_pool-without_copy c.args.from c.self.inside.items.items c.self.invariant in
    let free : has_copy c.args.copy.pool c.take_out.new.items.items ≡ false =
    not-true (has_copy c.args.copy.pool c.take_out.new.items.items) (subst (λ s. IsTrue (not (has_copy c.args.copy.pool s))) (ap (without_copy c.args.from) (sym c.self.view_is) ∙ sym left) c.requires) in
    AnswersBy-keeps (λ s. are_by_pool s ≡ true) c.put_in.result _ (with_copy c.args.copy c.take_out.new.items.items) c.take_out.new.items.items c.put_in.ensures.value c.put_in.ensures.unchanged
    (by_pool-with_copy c.args.copy c.take_out.new.items.items free ordered)
    ordered
