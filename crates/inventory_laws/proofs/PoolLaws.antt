-- A legal change of storage pools leaves a valid database.
use Rattle.std.proofs.Common.{◌≡◌, ℕ, ◌+◌, ◌^◌, true, not, ◌&&◌, List, [], ◌++◌, Option, Some, None, is_some, nat_lt, Result, Ok, Err, if◌then◌else◌, refl, ◌∙◌}
use Rattle.std.specs.Prelude.{◌==◌}
use Rattle.std.specs.Option.{option_map_or}
use Rattle.std.proofs.lemmas.Bool.{and_parts, not-true}
use Rattle.kinds.specs.declared.change.PoolChange.TheVariants as store
use Rattle.kinds.specs.declared.change.Verb.TheVariants as verb
use Rattle.kinds.specs.declared.pool.PoolKind.{PoolKind}
use Rattle.kinds.specs.declared.pool.PoolRule.{PoolRule}
use Rattle.kinds.specs.declared.refusal.By.TheVariants as by
use Rattle.kinds.specs.declared.refusal.Refusal.{Refusal}
use Rattle.kinds.specs.declared.refusal.Refusal.TheVariants.{BadHierarchy, Exists, InUse, InventoryFull, NotFound}
use Rattle.inventory_rules.specs.entries.declared.change.Change.TheVariants as change
use Rattle.inventory_rules.specs.inventory_rows.version_groups.declared.copies.CopyRow.{CopyRow}
use Rattle.inventory_rules.specs.inventory_rows.volume_rows.declared.volume.Volume.{Volume}
use Rattle.inventory_rules.specs.inventory_rows.pool_tables.declared.pool.Pool.{Pool}
use Rattle.inventory_rules.specs.inventory_rows.pool_tables.Names.{pool_name}
use Rattle.kinds.specs.Names.{is_same_name}
use Rattle.inventory_rules.specs.inventory_rows.pool_tables.Rows.{named, row_at, with_row, without_row}
use Rattle.inventory_rules.proofs.of_inventory_rows.of_pool_tables.Ascending.{none_from}
use Rattle.inventory_rules.specs.inventory_rows.pool_rows.Changes.{define_pool, delete_numbered, delete_pool, is_next_there, is_pool, new_pool, pool_before, unless_before, unless_filled, volume_of_pool}
use Rattle.inventory_rules.specs.inventory_rows.pool_rows.Hierarchy.{is_bad_hierarchy}
use Rattle.inventory_rules.specs.inventory_rows.pool_rows.PoolRows.{PoolRows, pool_named}
use Rattle.inventory_rules.specs.inventory_rows.Search.{copies, destinations, holds_copy, is_destination}
use Rattle.inventory_rules.specs.inventory_rows.State.{Inv}
use Rattle.inventory_rules.specs.Common.{or_same, full_at}
use Rattle.inventory_rules.specs.Transactions.{effect, causes, sizes_refused, parts_fit}
use Rattle.inventory_rules.specs.Held.{IsTied}
use Rattle.inventory_rules.specs.Journal.{Journal}
use Rattle.kinds.specs.Refusals.{refusal_of, unless}
use Rattle.inventory_rules.specs.Stores.{collocation_refused, destination_used}
use Rattle.inventory_rules.specs.Valid.{is_valid}
use Rattle.inventory_laws.proofs.Facts.{facts_of}
use Rattle.inventory_laws.proofs.StoreLegal.{held, none_of_both, unless_so, where_so}
use Rattle.inventory_laws.proofs.Lists.{none_of}
use Rattle.inventory_laws.proofs.StoreRows.{none_where, number_there, some_from}
use Rattle.inventory_laws.proofs.Stored.{IsRoom, Stands, becomes, room, stored}
use Rattle.inventory_laws.proofs.Pools.{pool_comes, pool_goes}

pub pool_defined : (j : Journal) (name class : List ℕ) (kind : PoolKind) (rule : PoolRule) (v : Inv) → is_valid v ≡ true → IsTied v → causes j (change.Pool (store.Pool verb.Define name class kind rule)) v ≡ []
    → sizes_refused (change.Pool (store.Pool verb.Define name class kind rule)) v ≡ [] → Stands (effect (change.Pool (store.Pool verb.Define name class kind rule)) v)
unfolding effect
pool_defined j name class kind rule v valid tied legal sizes =
    let f = facts_of v valid in
    let s = v.stores in
    let k = v.next_pool in
    let x = new_pool name class kind rule in
    let new : Result PoolRows Refusal = Ok (record s { pools = with_row k x s.pools }) in
    let h = none_of_both (refusal_of (define_pool k name class kind rule s)) (collocation_refused class rule ++ full_at k (2 ^ 16)) legal in
    let full = none_of_both (collocation_refused class rule) (full_at k (2 ^ 16)) h.1 in
    let hierarchy : Result PoolRows Refusal = (if is_bad_hierarchy k class kind rule.next s then Err BadHierarchy else new) in
    let named_so : Result PoolRows Refusal = (if is_some (pool_named name s) then Err Exists else hierarchy) in
    let a = where_so (is_some (named class s.classes) && is_next_there rule.next s) NotFound named_so h.0 in
    let b = unless_so (is_some (pool_named name s)) Exists hierarchy a.1 in
    let c = unless_so (is_bad_hierarchy k class kind rule.next s) BadHierarchy new b.1 in
    let t = and_parts (is_some (named class s.classes)) (is_next_there rule.next s) a.0 in
    becomes v (define_pool k name class kind rule s) new (k + 1) v.next_file v.backups (a.2 ∙ b.2 ∙ c.2)
    (pool_comes v x f tied t.0 t.1 (none_from (pool_named name s) b.0) (held (nat_lt (k + 1) (2 ^ 16)) InventoryFull full.1))
    (room (change.Pool (store.Pool verb.Define name class kind rule)) v sizes)

-- the pool with this number may go
free_before : (v : Inv) (k : ℕ) (o : Option ℕ) → refusal_of (unless_before k v.stores o) ≡ [] → (o ≡ None) × (unless_before k v.stores o ≡ Ok (record v.stores { pools = without_row k v.stores.pools }))
free_before v k None h = (refl, refl)
free_before v k (Some n) h = absurd cc

pub free_filled : (v : Inv) (k : ℕ) (o : Option ℕ) → refusal_of (unless_filled k v.stores o) ≡ []
    → (o ≡ None) × (pool_before k v.stores ≡ None) × (unless_filled k v.stores o ≡ Ok (record v.stores { pools = without_row k v.stores.pools }))
free_filled v k None h = let t = free_before v k (pool_before k v.stores) h in (refl, t.0, t.1)
free_filled v k (Some n) h = absurd cc

-- the number that the name gives, or none
goes_at : (v : Inv) (name : List ℕ) → is_valid v ≡ true → IsTied v → (o : Option ℕ) → pool_named name v.stores ≡ o → refusal_of (delete_numbered v.stores o) ≡ []
    → option_map_or (λ n. unless (not (is_destination n v)) (InUse by.Destination)) o [] ≡ [] → option_map_or (λ n. not (holds_copy n v)) o true ≡ true
    → IsRoom (stored v (or_same v.stores (delete_numbered v.stores o)) v.next_pool v.next_file v.backups) → Stands (stored v (or_same v.stores (delete_numbered v.stores o)) v.next_pool v.next_file v.backups)
goes_at v name valid tied None found legal used empty = absurd cc
goes_at v name valid tied (Some k) found legal used empty =
    let f = facts_of v valid in
    let t = free_filled v k (volume_of_pool k v.stores) legal in
    let x = some_from (row_at k v.stores.pools) (number_there (λ (p : Pool). is_same_name (pool_name p) name) k v.stores.pools found) in
    becomes v (delete_numbered v.stores (Some k)) (Ok (record v.stores { pools = without_row k v.stores.pools })) v.next_pool v.next_file v.backups t.2
    (pool_goes v k x.0 f tied x.1
    (none_of (λ (n : ℕ). n == k) (destinations v) (not-true (is_destination k v) (held (not (is_destination k v)) (InUse by.Destination) used)))
    (none_where (λ (e : Volume). e.pool == k) v.stores.volumes t.0)
    (none_of (λ (e : ℕ × CopyRow). e.1.pool == k) (copies v) (not-true (holds_copy k v) empty))
    (none_where (λ (p : Pool). is_pool p.settings.next k) v.stores.pools t.1))

pub pool_deleted : (j : Journal) (name class : List ℕ) (kind : PoolKind) (rule : PoolRule) (v : Inv) → is_valid v ≡ true → IsTied v → causes j (change.Pool (store.Pool verb.Delete name class kind rule)) v ≡ []
    → sizes_refused (change.Pool (store.Pool verb.Delete name class kind rule)) v ≡ [] → parts_fit (change.Pool (store.Pool verb.Delete name class kind rule)) v ≡ true
    → Stands (effect (change.Pool (store.Pool verb.Delete name class kind rule)) v)
unfolding effect parts_fit
pool_deleted j name class kind rule v valid tied legal sizes fit =
    let h = none_of_both (refusal_of (delete_pool name v.stores)) (destination_used name v) legal in
    goes_at v name valid tied (pool_named name v.stores) refl h.0 h.1 fit (room (change.Pool (store.Pool verb.Delete name class kind rule)) v sizes)
