use Rattle.std.proofs.Common.{refl, drop, ◌+◌}
use Rattle.std.proofs.lemmas.Result.{err_from_is_err_and}
use Rattle.inventory_rows.specs.State.{inv_of}
use Rattle.inventory_rules.specs.Common.{each}
use Rattle.inventory_rules.specs.Versions.{hold, CanHold}
use Rattle.inventory_effects.proofs.Loops.{first, split_item}
use Rattle.inventory_effects.proofs.Ways.{along_next, keeps_same, keeps_then}
use Rattle.inventory_effects.proofs.arrivals.hold_all.Goals as goal

pub items-init : goal.items-init
items-init c = record { under = record { can = c.requires; comes = refl }; way = keeps_same c.args.log.now (inv_of c.args.tables.now) }

pub hold-requires : goal.hold-requires
hold-requires c =
    first (CanHold c.args.filespace) (hold c.args.filespace) (each (hold c.args.filespace)) (drop c.items.item-index c.args.items.now) (drop (c.items.item-index + 1) c.args.items.now) c.item-item.result (inv_of c.items.tables) _
    (split_item c.args.items.now c.items.item-index c.item-item.result c.items-test.true c.item-item.is) c.items.invariant.under

pub items-preserved : goal.items-preserved
items-preserved c =
    along_next (CanHold c.args.filespace) (hold c.args.filespace) (each (hold c.args.filespace)) (λ x xs s. refl) c.args.log.now (inv_of c.args.tables.now) (drop c.items.item-index c.args.items.now) (drop (c.items.item-index + 1) c.args.items.now) c.item-item.result c.items.log c.hold.new.log (inv_of c.items.tables) (inv_of c.hold.new.tables) _
    (split_item c.args.items.now c.items.item-index c.item-item.result c.items-test.true c.item-item.is) c.in_ok-hold.ensures c.items.invariant

pub returns-in_err-hold : goal.returns-in_err-hold
returns-in_err-hold c =
    let p = err_from_is_err_and c.from_residual.result c.from_residual.ensures.1 in
    rw (p.1, p.2) (c.in_err-hold.ensures.0, keeps_then c.items.invariant.way c.in_err-hold.ensures.1)
