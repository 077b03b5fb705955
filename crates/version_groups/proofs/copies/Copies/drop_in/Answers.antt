use Rattle.std.proofs.Common.{ap, ◌∙◌}
use Rattle.version_groups.specs.Copies.{are_by_pool}
use Rattle.version_groups.proofs.Lists.{by_pool-without_copy}
use Rattle.version_groups.proofs.copies.Copies.drop_in.Goals as goal

pub invariant_of-self : goal.invariant_of-self
invariant_of-self c = ap are_by_pool c.take_out.ensures.value ∙ by_pool-without_copy c.args.pool c.self.inside.items.items c.self.invariant
