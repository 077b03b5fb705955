use Rattle.std.proofs.Common.{◌≡◌, ◌++◌, drop}
use Rattle.inventory_rows.specs.State.{inv_of}
use Rattle.run_past.specs.Before.{named}
use Rattle.run_past.proofs.prepared.named.Given as goal

abbrev pub invariant-items : goal.invariant-items
invariant-items g l = l.kept.items ++ named g.T.ItemNamed.object (drop l.item-index l.items) (inv_of l.tables) ≡ named g.T.ItemNamed.object l.items (inv_of l.tables)
