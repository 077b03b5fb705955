use Rattle.std.proofs.Common.{◌≡◌, ◌++◌, drop}
use Rattle.std.specs.List.{flat_map}
use Rattle.inventory_rows.specs.object_rows.Filespaces.{versions_at}
use Rattle.inventory_rows.specs.State.{inv_of}
use Rattle.run_past.specs.Before.{newest_of}
use Rattle.run_past.proofs.prepared.newest.Given as goal

abbrev pub invariant-items : goal.invariant-items
invariant-items l =
    l.kept.items ++ flat_map (λ i. newest_of (versions_at l.filespace i.path (inv_of l.tables).clients.filespaces) (inv_of l.tables)) (drop l.item-index l.items)
    ≡ flat_map (λ i. newest_of (versions_at l.filespace i.path (inv_of l.tables).clients.filespaces) (inv_of l.tables)) l.items
