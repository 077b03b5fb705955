use Rattle.std.proofs.Common.{refl}
use Rattle.inventory_rows.specs.State.{inv_of}
use Rattle.inventory_rules.specs.Common.{each}
use Rattle.inventory_rules.specs.Versions.{expire}
use Rattle.inventory_effects.proofs.Loops.{next, last}
use Rattle.inventory_effects.proofs.versions.expire_all.Goals as goal

pub items-preserved : goal.items-preserved
items-preserved c =
    next (expire c.args.filespace) (each (expire c.args.filespace)) (λ x xs s. refl) c.args.items.now c.items.item-index c.item-item.result (inv_of c.items.tables) (inv_of c.expire.new.tables) _ c.items-test.true c.item-item.is c.expire.ensures c.items.invariant

pub returns : goal.returns
returns c = last (expire c.args.filespace) (each (expire c.args.filespace)) (λ s. refl) c.args.items.now c.items.item-index (inv_of c.items.tables) _ c.items-test.false c.items.invariant
