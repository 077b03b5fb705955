use Rattle.std.proofs.Common.{◌≡◌, true, nat_le}
use Rattle.std.specs.List.{list_all}
use Rattle.std.specs.Option.{option_map_or}
use Rattle.inventory_check.proofs.stores.volumes_by_today.Given as goal

abbrev pub invariant-volumes : goal.invariant-volumes
invariant-volumes l = list_all (λ f. option_map_or (λ day. nat_le day l.tables.today) f.1.emptied true) l.volume-iterator ≡ list_all (λ f. option_map_or (λ day. nat_le day l.tables.today) f.1.emptied true) l.tables.pools.volumes
