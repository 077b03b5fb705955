-- A database within a transaction. Some segments lie on their volumes before their copies are in the rows, or still lie there though their
-- copies are gone: these are pending. At a transaction's beginning and at its end none is.
use Rattle.std.specs.Prelude.{◌≡◌, ℕ, ◌-◌, ◌^◌, Bool, true, nat_le, is_some, ◌==◌, ◌&&◌, false, List, [], ◌∷◌, ◌++◌, map, filter}
use Rattle.std.specs.List.{list_all, flat_map, AllByRecursion}
use Rattle.std.specs.Map.{keys_of}
use Rattle.std.specs.Option.{option_map_or}
use Rattle.kinds.specs.declared.segment.Segment.{Segment}
use Rattle.inventory_rows.specs.version_groups.declared.copies.CopyRow.{CopyRow}
use Rattle.inventory_rows.specs.version_groups.Versions.{are_distinct}
use Rattle.inventory_rows.specs.volume_rows.declared.volume.Volume.{Volume}
use Rattle.inventory_rows.specs.pool_rows.PoolRows.{is_sequential}
use Rattle.inventory_rows.specs.Search.{copies, is_primary_kind, pool, segments_on, versions}
use Rattle.inventory_rows.specs.State.{Inv}
use Rattle.inventory_rules.specs.Held.{holding}
use Rattle.inventory_rules.specs.Valid.{are_apart, are_disjoint, filespaces_apart, filespaces_cite, groups_are_orderly, held_cite, is_emptied_rightly, is_named_soundly, is_placed, is_sized, lie_in, may_have, names_apart, versions_are_copied, volumes_cite}

-- the pending segments of a volume
abbrev pub pending_on : ℕ → List (ℕ × Segment) → List (ℕ × Segment)
pending_on file pending = filter (λ e. e.1.file == file) pending

-- what lies on a volume: the segments of the copies, and the pending ones
abbrev pub lying : List (ℕ × Segment) → ℕ → Inv → List (ℕ × Segment)
lying pending file v = segments_on file v ++ pending_on file pending

-- the segments of some copies, each with its object
abbrev pub segments_of : List (ℕ × CopyRow) → List (ℕ × Segment)
segments_of copies = flat_map (λ e. map (λ s. (e.0, s)) e.1.segments) copies

-- what is asked of a volume on which these segments lie
abbrev pub is_volume_with : Inv → List (ℕ × Segment) → ℕ × Volume → Bool
is_volume_with v there f =
    is_sized (is_sequential f.1.pool v.stores) v f.1
    && (may_have f.1.access (option_map_or (λ p. is_primary_kind p.kind) (pool f.1.pool v) false)
    && (are_disjoint (is_sequential f.1.pool v.stores) there
    && (list_all (λ e. is_placed (is_sequential f.1.pool v.stores) f.1 e.1) there
    && is_emptied_rightly (is_sequential f.1.pool v.stores) f.1 there)))

-- the facts of the volumes, with these segments pending
pub record VolumeFacts (pending : List (ℕ × Segment)) (v : Inv) : Type 0 where
  pub cite : volumes_cite v ≡ true
  pub drawn : lie_in 4 v.next_file (keys_of v.stores.volumes ++ keys_of v.backups) ≡ true
  pub bounded : lie_in 4 (2 ^ 32 - 1) (v.next_file ∷ []) ≡ true
  pub apart : are_apart (keys_of v.stores.volumes ++ keys_of v.backups) ≡ true
  pub names : names_apart (map (λ f. f.1.name) v.stores.volumes) ≡ true
  pub soundly : list_all is_named_soundly v.stores.volumes ≡ true
  pub by_today : list_all (λ f. option_map_or (λ day. nat_le day v.today) f.1.emptied true) v.stores.volumes ≡ true
  pub are : list_all (λ f. is_volume_with v (lying pending f.0 v) f) v.stores.volumes ≡ true
  pub tied : AllByRecursion (λ f. f.1.segments ≡ holding (lying pending f.0 v)) v.stores.volumes

-- each copy lies in a pool that is there
abbrev pub copies_in_pools : Inv → Bool
copies_in_pools v = list_all (λ e. is_some (pool e.1.pool v)) (copies v)

-- the facts of the filespaces and of the objects in them, where nothing was placed by a transaction behind the n-th
pub record VersionFacts (n : ℕ) (v : Inv) : Type 0 where
  pub cite : filespaces_cite v ≡ true
  pub held : held_cite v ≡ true
  pub drawn : lie_in 1 v.next_filespace (keys_of v.clients.filespaces) ≡ true
  pub names : filespaces_apart v ≡ true
  pub objects_drawn : lie_in 1 v.next_object (map (λ version. version.object) (versions v)) ≡ true
  pub objects_bounded : lie_in 1 (2 ^ 62) (v.next_object ∷ []) ≡ true
  pub objects_apart : are_distinct (versions v) ≡ true
  pub in_pools : copies_in_pools v ≡ true
  pub past : list_all (λ e. nat_le e.1.placed n) (copies v) ≡ true
  pub orderly : groups_are_orderly v ≡ true
  pub copied : versions_are_copied v ≡ true
  pub by_today : list_all (λ version. nat_le version.stored v.today && option_map_or (λ day. nat_le day v.today) version.since true) (versions v) ≡ true
