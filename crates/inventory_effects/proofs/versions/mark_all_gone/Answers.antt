use Rattle.std.proofs.Common.{refl}
use Rattle.inventory_rows.specs.State.{inv_of}
use Rattle.inventory_rules.specs.Common.{each}
use Rattle.inventory_rules.specs.Versions.{mark_gone, CanBeGone}
use Rattle.inventory_effects.proofs.Loops.{here, further, over}
use Rattle.inventory_effects.proofs.versions.mark_all_gone.Goals as goal

pub mark_gone-requires : goal.mark_gone-requires
mark_gone-requires c =
    here (CanBeGone c.args.filespace) (mark_gone c.args.filespace) (each (mark_gone c.args.filespace)) c.args.items.now c.items.item-index c.item-item.result (inv_of c.items.tables) _ c.items-test.true c.item-item.is c.items.invariant

pub items-init : goal.items-init
items-init c = record { can = c.requires; comes = refl }

pub items-preserved : goal.items-preserved
items-preserved c =
    further (CanBeGone c.args.filespace) (mark_gone c.args.filespace) (each (mark_gone c.args.filespace)) (λ x xs s. refl) c.args.items.now c.items.item-index c.item-item.result (inv_of c.items.tables) (inv_of c.mark_gone.new.tables) _ c.items-test.true c.item-item.is c.mark_gone.ensures c.items.invariant

pub returns : goal.returns
returns c =
    over (CanBeGone c.args.filespace) (mark_gone c.args.filespace) (each (mark_gone c.args.filespace)) (λ s. refl) c.args.items.now c.items.item-index (inv_of c.items.tables) _ c.items-test.false c.items.invariant
