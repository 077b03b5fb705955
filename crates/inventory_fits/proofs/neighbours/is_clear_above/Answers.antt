use Rattle.std.proofs.Common.{subst, sym, ◌∙◌}
use Rattle.std.specs.BTreeMap.Range.{entries_between}
use Rattle.std.specs.declared.ops.Bound.TheVariants.{Included, Unbounded}
use Rattle.inventory_rows.specs.volume_rows.Held.{held_cmp}
use Rattle.inventory_fits.proofs.Ahead.{AreLeft, all_left, first_decides}
use Rattle.inventory_fits.proofs.neighbours.is_clear_above.Goals as goal

pub held-init : goal.held-init
held-init c =
    all_left c.args.moved.now c.args.number c.args.sequential c.args.segment.now c.args.start c.args.held.now.entries c.into_iter-there-iterator.result c.requires.start c.range-there-items.ensures.ordered c.requires.apart
    (c.into_iter-there-iterator.ensures.into_iter_gives ∙ c.range-there-items.ensures.between tt)

pub returns-then-not-leaves : goal.returns-then-not-leaves
returns-then-not-leaves c =
    c.is_clear_of.ensures
    ∙ first_decides c.args.moved.now c.args.number c.args.sequential c.args.segment.now (entries_between held_cmp (Included c.args.start) Unbounded c.args.held.now.entries) _ (c.in-Some.there.now, c.in-Some.field-0-1.now)
    (subst (AreLeft c.args.moved.now c.args.number c.args.sequential c.args.segment.now (entries_between held_cmp (Included c.args.start) Unbounded c.args.held.now.entries)) c.in-Some.ensures.steps c.held.invariant)
    (sym c.leaves.ensures ∙ c.if-not-leaves.true)
