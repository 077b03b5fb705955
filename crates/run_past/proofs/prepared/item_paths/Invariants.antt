use Rattle.std.proofs.Common.{◌≡◌, ◌++◌, drop}
use Rattle.std.specs.List.{flat_map}
use Rattle.inventory_rows.specs.State.{inv_of}
use Rattle.run_past.specs.Before.{path_if}
use Rattle.run_past.proofs.prepared.item_paths.Given as goal

abbrev pub invariant-items : goal.invariant-items
invariant-items l = l.kept.items ++ flat_map (λ i. path_if l.filespace i.path (inv_of l.tables)) (drop l.item-index l.items) ≡ flat_map (λ i. path_if l.filespace i.path (inv_of l.tables)) l.items
