use Rattle.std.proofs.Common.{refl}
use Rattle.inventory_rows.specs.State.{inv_of}
use Rattle.inventory_rules.specs.Common.{each}
use Rattle.inventory_rules.specs.Copies.{drop_copy}
use Rattle.inventory_effects.proofs.Loops.{next_at, last}
use Rattle.inventory_effects.proofs.copies.drop_copies.Goals as goal

pub items-preserved : goal.items-preserved
items-preserved c =
    next_at drop_copy (each drop_copy) (λ x xs s. refl) c.args.items.now c.items.item-index _ (inv_of c.items.tables) (inv_of c.drop_copy.new.tables) _ c.items-test.true c.drop_copy.ensures c.items.invariant

pub returns : goal.returns
returns c = last drop_copy (each drop_copy) (λ s. refl) c.args.items.now c.items.item-index (inv_of c.items.tables) _ c.items-test.false c.items.invariant
