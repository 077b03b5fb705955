use Rattle.std.proofs.Common.{◌≡◌, ◌++◌}
use Rattle.std.specs.List.{flat_map}
use Rattle.inventory_work.specs.Volumes.{eligible_files}
use Rattle.inventory_work.proofs.volumes.eligible_in.Given as goal

abbrev pub invariant-volumes : goal.invariant-volumes
invariant-volumes l =
    l.files.items ++ flat_map (eligible_files l.pool l.threshold l.pools) l.file-iterator ≡ flat_map (eligible_files l.pool l.threshold l.pools) l.pools.volumes
