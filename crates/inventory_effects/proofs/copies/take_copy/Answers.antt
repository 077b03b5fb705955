use Rattle.std.proofs.Common.{List, ap, ◌∙◌}
use Rattle.kinds.specs.declared.segment.Segment.{Segment}
use Rattle.inventory_rows.specs.State.{inv_of}
use Rattle.inventory_effects.specs.Volumes.{taken}
use Rattle.inventory_effects.proofs.Taken.{taken_copy}
use Rattle.inventory_effects.proofs.copies.take_copy.Goals as goal

pub returns-in-Some-copy_in-clause-taken : goal.returns-in-Some-copy_in-clause-taken
returns-in-Some-copy_in-clause-taken c =
    taken_copy c.args.object c.args.pool (inv_of c.args.tables.now) c.in-Some.version.now c.in-Some-copy_in.copy.now c.take.new.pools c.in-Some.ensures.value c.in-Some-copy_in.ensures
    (c.take.ensures ∙ ap (λ (xs : List Segment). taken c.args.object xs c.args.tables.now.today c.args.tables.now.pools) c.as_slice.ensures.value)
