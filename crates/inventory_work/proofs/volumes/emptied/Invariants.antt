use Rattle.std.proofs.Common.{◌≡◌, ◌++◌}
use Rattle.std.specs.List.{flat_map}
use Rattle.inventory_work.specs.Volumes.{reusable_files}
use Rattle.inventory_work.proofs.volumes.emptied.Given as goal

abbrev pub invariant-volumes : goal.invariant-volumes
invariant-volumes l =
    l.files.items ++ flat_map (λ e. reusable_files l.tables.today l.tables.pools e.0) l.file-iterator ≡ flat_map (λ e. reusable_files l.tables.today l.tables.pools e.0) l.tables.pools.volumes
