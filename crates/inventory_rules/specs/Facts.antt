-- What a valid database says, fact by fact.
use Rattle.std.specs.Prelude.{◌≡◌, ◌-◌, ◌^◌, true, nat_lt, nat_le, ◌&&◌, [], ◌∷◌, ◌++◌, map}
use Rattle.std.specs.List.{list_all}
use Rattle.std.specs.Map.{keys_of}
use Rattle.std.specs.Option.{option_map_or}
use Rattle.inventory_rows.specs.version_groups.Versions.{are_distinct}
use Rattle.inventory_rows.specs.Items.{count_items, most_items}
use Rattle.inventory_rows.specs.Search.{versions, copies}
use Rattle.inventory_rows.specs.State.{Inv}
use Rattle.inventory_rules.specs.Valid.{are_apart, classes_are, copies_cite, defaults_are_there, filespaces_apart, filespaces_cite, groups_are_orderly, held_cite, is_named_soundly, lie_in, names_apart, no_ring, nodes_cite, pools_cite, rules_cite, versions_are_copied, volumes_are, volumes_cite}

-- the conditions under which a database is valid, each by itself
pub record Facts (v : Inv) : Type 0 where
  pub nodes_cite : nodes_cite v ≡ true
  pub filespaces_cite : filespaces_cite v ≡ true
  pub held_cite : held_cite v ≡ true
  pub rules_cite : rules_cite v ≡ true
  pub pools_cite : pools_cite v ≡ true
  pub volumes_cite : volumes_cite v ≡ true
  pub copies_cite : copies_cite v ≡ true
  pub nodes_drawn : lie_in 1 v.next_node (keys_of v.clients.nodes) ≡ true
  pub filespaces_drawn : lie_in 1 v.next_filespace (keys_of v.clients.filespaces) ≡ true
  pub pools_drawn : lie_in 1 v.next_pool (keys_of v.stores.pools) ≡ true
  pub files_drawn : lie_in 4 v.next_file (keys_of v.stores.volumes ++ keys_of v.backups) ≡ true
  pub objects_drawn : lie_in 1 v.next_object (map (λ version. version.object) (versions v)) ≡ true
  pub clients_bounded : lie_in 1 (2 ^ 32 - 1) (v.next_node ∷ v.next_filespace ∷ []) ≡ true
  pub pools_bounded : lie_in 1 (2 ^ 16) (v.next_pool ∷ []) ≡ true
  pub files_bounded : lie_in 4 (2 ^ 32 - 1) (v.next_file ∷ []) ≡ true
  pub objects_bounded : lie_in 1 (2 ^ 62) (v.next_object ∷ []) ≡ true
  pub number_bounded : nat_lt v.number (2 ^ 62) ≡ true
  pub day_bounded : nat_lt v.today (2 ^ 31) ≡ true
  pub objects_apart : are_distinct (versions v) ≡ true
  pub files_apart : are_apart (keys_of v.stores.volumes ++ keys_of v.backups) ≡ true
  pub backups_apart : are_apart (map (λ b. b.1.number) v.backups) ≡ true
  pub backups_past : list_all (λ b. nat_le b.1.number v.number) v.backups ≡ true
  pub copies_past : list_all (λ e. nat_le e.1.placed v.number) (copies v) ≡ true
  pub node_names : names_apart (map (λ n. n.1.name) v.clients.nodes) ≡ true
  pub pool_names : names_apart (map (λ p. p.1.name) v.stores.pools) ≡ true
  pub volume_names : names_apart (map (λ f. f.1.name) v.stores.volumes) ≡ true
  pub filespace_names : filespaces_apart v ≡ true
  pub named_soundly : list_all is_named_soundly v.stores.volumes ≡ true
  pub defaults_there : defaults_are_there v ≡ true
  pub groups_orderly : groups_are_orderly v ≡ true
  pub versions_copied : versions_are_copied v ≡ true
  pub volumes_are : volumes_are v ≡ true
  pub no_ring : no_ring v ≡ true
  pub versions_by_today : list_all (λ version. nat_le version.stored v.today && option_map_or (λ day. nat_le day v.today) version.since true) (versions v) ≡ true
  pub backups_by_today : list_all (λ b. nat_le b.1.taken v.today) v.backups ≡ true
  pub volumes_by_today : list_all (λ f. option_map_or (λ day. nat_le day v.today) f.1.emptied true) v.stores.volumes ≡ true
  pub classes_are : classes_are v ≡ true
  pub few_items : nat_le (count_items v) most_items ≡ true
