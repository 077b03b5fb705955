use Rattle.std.proofs.Common.{length, ◌≡◌, true, ap, ◌∙◌, subst, sym}
use Rattle.std.proofs.lemmas.List.{with_items_is}
use Rattle.version_groups.specs.Versions.{are_distinct, versions_altered}
use Rattle.version_groups.proofs.Altered.{Alters-keeps, distinct-altered}
use Rattle.version_groups.proofs.versions.Versions.alter.Goals as goal

pub invariant_of-self : goal.invariant_of-self
invariant_of-self c =
    let before : are_distinct c.as_mut_slice.result.now ≡ true = ap are_distinct c.as_mut_slice.ensures.value ∙ c.self.invariant in
    ap are_distinct (with_items_is c.self.inside.items c.alter.new.versions (let stays : length c.alter.new.versions ≡ length c.as_mut_slice.result.now = c.alter.auto.versions in stays ∙ c.as_mut_slice.ensures.len))
    ∙ Alters-keeps (λ s. are_distinct s ≡ true) c.args.change c.alter.result c.as_mut_slice.result.now c.alter.new.versions (versions_altered c.args.object c.args.change c.as_mut_slice.result.now) before
    (λ xs e. distinct-altered c.args.object c.args.change c.as_mut_slice.result.now xs before e) c.alter.ensures
