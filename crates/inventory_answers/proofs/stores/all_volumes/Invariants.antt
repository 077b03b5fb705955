use Rattle.std.proofs.Common.{◌≡◌, ◌++◌}
use Rattle.std.specs.List.{flat_map}
use Rattle.inventory_answers.specs.Stores.{volume_lines_of}
use Rattle.inventory_answers.proofs.stores.all_volumes.Given as goal

abbrev pub invariant-volumes : goal.invariant-volumes
invariant-volumes l =
    l.lines.items ++ flat_map (volume_lines_of l.pools l.pool) l.file-iterator ≡ flat_map (volume_lines_of l.pools l.pool) l.pools.volumes
