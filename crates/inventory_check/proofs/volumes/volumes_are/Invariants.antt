use Rattle.std.proofs.Common.{◌≡◌}
use Rattle.std.specs.List.{list_all, AllByRecursion}
use Rattle.inventory_rows.specs.Search.{segments_on}
use Rattle.inventory_rows.specs.State.{inv_of}
use Rattle.inventory_rules.specs.Held.{holding}
use Rattle.inventory_rules.specs.Valid.{is_volume, volumes_are}
use Rattle.inventory_check.proofs.volumes.volumes_are.Given as goal

abbrev pub invariant-volumes : goal.invariant-volumes
invariant-volumes l = record {
  left : list_all (is_volume (inv_of l.tables)) l.file-iterator ≡ volumes_are (inv_of l.tables);
  tied : AllByRecursion (λ f. f.1.segments ≡ holding (segments_on f.0 (inv_of l.tables))) l.file-iterator;
}
