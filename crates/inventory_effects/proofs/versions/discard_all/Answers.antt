use Rattle.std.proofs.Common.{refl}
use Rattle.inventory_rows.specs.State.{inv_of}
use Rattle.inventory_rules.specs.Common.{each}
use Rattle.inventory_rules.specs.Versions.{discard}
use Rattle.inventory_effects.proofs.Loops.{next_at, last}
use Rattle.inventory_effects.proofs.versions.discard_all.Goals as goal

pub items-preserved : goal.items-preserved
items-preserved c =
    next_at discard (each discard) (λ x xs s. refl) c.args.items.now c.items.item-index _ (inv_of c.items.tables) (inv_of c.discard.new.tables) _ c.items-test.true c.discard.ensures c.items.invariant

pub returns : goal.returns
returns c = last discard (each discard) (λ s. refl) c.args.items.now c.items.item-index (inv_of c.items.tables) _ c.items-test.false c.items.invariant
