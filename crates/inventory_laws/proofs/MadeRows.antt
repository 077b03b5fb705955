-- Changes of the policy, of nodes and filespaces, of device classes, pools and volumes, reuse and database backups.
use Rattle.std.proofs.Common.{◌≡◌, ℕ, ◌+◌, ◌-◌, ◌^◌, ◌<◌, ◌≤◌, Bool, true, false, not, cond, List, [], ◌∷◌, ◌++◌, Option, Some, None, refl, subst, arith}
use Rattle.std.specs.Prelude.{IsOk, IsTrue, is_none, is_some, nat_le, ◌&&◌, ◌==◌}
use Rattle.std.specs.BTreeMap.{is_at}
use Rattle.std.specs.List.{list_all}
use Rattle.std.specs.Map.{lookup}
use Rattle.std.specs.Option.{option_map_or}
use Rattle.std.specs.Ordering.{nat_cmp}
use Rattle.std.proofs.lemmas.Bool.{eqb-true, leb-true}
use Rattle.kinds.specs.declared.change.DefineOrDelete.TheVariants as two
use Rattle.kinds.specs.declared.change.Verb.TheVariants as verb
use Rattle.kinds.specs.declared.change.ObjectChange.{ObjectChange}
use Rattle.kinds.specs.declared.change.ObjectChange.TheVariants as client
use Rattle.kinds.specs.declared.change.PolicyChange.{PolicyChange}
use Rattle.kinds.specs.declared.change.PoolChange.{PoolChange}
use Rattle.kinds.specs.declared.change.PoolChange.TheVariants as store
use Rattle.kinds.specs.declared.refusal.Refusal.TheVariants as refusal
use Rattle.inventory_rules.specs.entries.declared.change.Change.TheVariants as change
use Rattle.inventory_rules.specs.inventory_rows.policy_domains.Changes.{after, names_active}
use Rattle.inventory_rules.specs.inventory_rows.policy_domains.Rows.{row_of}
use Rattle.inventory_rules.specs.inventory_rows.object_rows.Changes.{rows_changed}
use Rattle.inventory_rules.specs.inventory_rows.pool_rows.Changed.{changed}
use Rattle.inventory_rules.specs.inventory_rows.pool_rows.Segments.{may_reuse_at}
use Rattle.inventory_rules.specs.inventory_rows.pool_tables.Rows.{row_at}
use Rattle.inventory_rules.specs.inventory_rows.pool_tables.Scratch.{is_scratch_name}
use Rattle.inventory_rules.specs.inventory_rows.volume_rows.declared.volume.Volume.{Volume}
use Rattle.inventory_rules.specs.inventory_rows.Search.{is_primary}
use Rattle.inventory_rules.specs.inventory_rows.State.{Inv}
use Rattle.inventory_rules.specs.Clients.{CanClients, client_bounds, client_refused}
use Rattle.inventory_rules.specs.Policy.{CanPolicy, destination_refused, domain_used, policy_refused}
use Rattle.inventory_rules.specs.Stores.{CanReuse, CanStores, capacity_fits, collocation_refused, store_bounds, store_refused}
use Rattle.inventory_rules.specs.Facts.{Facts}
use Rattle.inventory_rules.specs.Transactions.{parts_fit}
use Rattle.inventory_laws.proofs.Facts.{first, rest}
use Rattle.kinds.specs.Refusals.{bad_value, unless, refusal_of}
use Rattle.inventory_rules.specs.Common.{file_bound, files_refused, full_at, is_free_file}
use Rattle.inventory_rules.specs.Valid.{may_have}
use Rattle.inventory_rules.specs.inventory_rows.pool_rows.PoolRows.{pool_capacity}
use Rattle.inventory_laws.proofs.Causes.{back_nil, below, beyond, file_below, front_nil, holds, is_made, is_said, not_false, not_some}

pub can_policy : (c : PolicyChange) (v : Inv) → policy_refused c v ≡ [] → CanPolicy c v
can_policy c v h =
    let named : List _ = unless (not (names_active c)) bad_value in
    let others : List _ = refusal_of (after c v.domains) ++ (destination_refused c v ++ domain_used c v) in
    record {
      named = not_false (names_active c) (holds (not (names_active c)) bad_value (front_nil named others h));
      made = is_made (after c v.domains) (front_nil (refusal_of (after c v.domains)) (destination_refused c v ++ domain_used c v) (back_nil named others h));
    }

pub can_clients : (c : ObjectChange) (v : Inv) → Facts v → client_refused c v ≡ [] → CanClients c v
can_clients (client.Node two.Define name domain) v f h =
    let c : ObjectChange = client.Node two.Define name domain in
    let bounds : client_bounds c v ≡ [] = back_nil (refusal_of (rows_changed c v.next_node v.clients)) (client_bounds c v) h in
    let next : v.next_node + 1 < 2 ^ 32 - 1 = below v.next_node (2 ^ 32 - 1) (back_nil (unless (is_some (row_of domain v.domains)) refusal.NotFound) (full_at v.next_node (2 ^ 32 - 1)) bounds) in
    record {
      free = not_some (lookup (is_at (nat_cmp v.next_node)) v.clients.nodes) (beyond 1 v.next_node v.next_node v.clients.nodes f.nodes_drawn (omega arith));
      made = is_made (rows_changed c v.next_node v.clients) (front_nil (refusal_of (rows_changed c v.next_node v.clients)) (client_bounds c v) h);
      next = omega (arith, next);
    }
can_clients (client.Node two.Delete name domain) v f h =
    let c : ObjectChange = client.Node two.Delete name domain in
    record { free = tt; made = is_made (rows_changed c v.next_node v.clients) (front_nil (refusal_of (rows_changed c v.next_node v.clients)) (client_bounds c v) h); next = tt }
can_clients (client.Filespace two.Define node name n) v f h =
    let c : ObjectChange = client.Filespace two.Define node name n in
    let bounds : client_bounds c v ≡ [] = back_nil (refusal_of (rows_changed c v.next_node v.clients)) (client_bounds c v) h in
    let same : n ≡ v.next_filespace = eqb-true n v.next_filespace (holds (n == v.next_filespace) bad_value (front_nil (unless (n == v.next_filespace) bad_value) (full_at v.next_filespace (2 ^ 32 - 1)) bounds)) in
    let next : v.next_filespace + 1 < 2 ^ 32 - 1 = below v.next_filespace (2 ^ 32 - 1) (back_nil (unless (n == v.next_filespace) bad_value) (full_at v.next_filespace (2 ^ 32 - 1)) bounds) in
    record {
      free = not_some (lookup (is_at (nat_cmp n)) v.clients.filespaces) (beyond 1 v.next_filespace n v.clients.filespaces f.filespaces_drawn (omega (arith, same)));
      made = is_made (rows_changed c v.next_node v.clients) (front_nil (refusal_of (rows_changed c v.next_node v.clients)) (client_bounds c v) h);
      next = omega (arith, next, same);
    }
can_clients (client.Filespace two.Delete node name n) v f h =
    let c : ObjectChange = client.Filespace two.Delete node name n in
    record { free = tt; made = is_made (rows_changed c v.next_node v.clients) (front_nil (refusal_of (rows_changed c v.next_node v.clients)) (client_bounds c v) h); next = tt }

made_of : (c : PoolChange) (v : Inv) → store_refused c v ≡ [] → IsOk (changed c v.next_pool v.stores)
made_of c v h = is_made (changed c v.next_pool v.stores) (front_nil (refusal_of (changed c v.next_pool v.stores)) (store_bounds c v) h)

no_row : {X : Type 0} (o : Option X) → o ≡ None → IsTrue (is_none o)
no_row None h = refl
no_row (Some x) h = absurd cc

both_true : (a b : Bool) → a ≡ true → b ≡ true → IsTrue (a && b)
both_true true b p q = q
both_true false b p q = absurd cc

pub can_stores : (c : PoolChange) (v : Inv) → Facts v → store_refused c v ≡ [] → parts_fit (change.Pool c) v ≡ true → CanStores c v
unfolding parts_fit
can_stores (store.DevClass v1 name capacity) v f h fit = record { free = refl; made = made_of (store.DevClass v1 name capacity) v h; next = tt }
can_stores (store.Pool verb.Define name class kind rule) v f h fit =
    let c : PoolChange = store.Pool verb.Define name class kind rule in
    let bounds : store_bounds c v ≡ [] = back_nil (refusal_of (changed c v.next_pool v.stores)) (store_bounds c v) h in
    let less : v.next_pool + 1 < 2 ^ 16 = below v.next_pool (2 ^ 16) (back_nil (collocation_refused class rule) (full_at v.next_pool (2 ^ 16)) bounds) in
    record {
      free = no_row (row_at v.next_pool v.stores.pools) (beyond 1 v.next_pool v.next_pool v.stores.pools f.pools_drawn (omega arith));
      made = made_of c v h;
      next = omega (arith, less);
    }
can_stores (store.Pool verb.Update name class kind rule) v f h fit = record { free = refl; made = made_of (store.Pool verb.Update name class kind rule) v h; next = tt }
can_stores (store.Pool verb.Delete name class kind rule) v f h fit = record { free = refl; made = made_of (store.Pool verb.Delete name class kind rule) v h; next = tt }
can_stores (store.Volume verb.Define name pool file capacity access) v f h fit =
    let c : PoolChange = store.Volume verb.Define name pool file capacity access in
    let bounds : store_bounds c v ≡ [] = back_nil (refusal_of (changed c v.next_pool v.stores)) (store_bounds c v) h in
    let new : (list_all (is_free_file v) (file ∷ []) && true) ≡ true = holds (list_all (is_free_file v) (file ∷ []) && true) bad_value (front_nil (files_refused (file ∷ []) v) (file_bound file v) bounds) in
    let one : (is_free_file v file && true) ≡ true = first (list_all (is_free_file v) (file ∷ [])) true new in
    let here : is_free_file v file ≡ true = first (is_free_file v file) true one in
    let free : is_none (row_at file v.stores.volumes) ≡ true = first (is_none (row_at file v.stores.volumes)) (is_none (row_at file v.backups)) (rest (nat_le 4 file) (is_none (row_at file v.stores.volumes) && is_none (row_at file v.backups)) here) in
    let name_fits : not (is_scratch_name name) ≡ true = first (not (is_scratch_name name)) (capacity_fits (pool_capacity pool v.stores) capacity && may_have access (is_primary pool v)) fit in
    record {
      free = both_true (is_none (row_at file v.stores.volumes)) (not (is_scratch_name name)) free name_fits;
      made = made_of c v h;
      next = file_below file v (back_nil (files_refused (file ∷ []) v) (file_bound file v) bounds);
    }
can_stores (store.Volume verb.Update name pool file capacity access) v f h fit = record { free = refl; made = made_of (store.Volume verb.Update name pool file capacity access) v h; next = tt }
can_stores (store.Volume verb.Delete name pool file capacity access) v f h fit = record { free = refl; made = made_of (store.Volume verb.Delete name pool file capacity access) v h; next = tt }

-- a day of emptying that is kept isn't behind today
emptied_past : (today file : ℕ) (volumes : List (ℕ × Volume)) → list_all (λ f. option_map_or (λ day. nat_le day today) f.1.emptied true) volumes ≡ true → (w : Volume) → row_at file volumes ≡ Some w → option_map_or (λ day. nat_le day today) w.emptied true ≡ true
emptied_past today file [] h w is = absurd cc
emptied_past today file (e ∷ es) h w is =
    let here : option_map_or (λ day. nat_le day today) e.1.emptied true ≡ true = first (option_map_or (λ day. nat_le day today) e.1.emptied true) (list_all (λ f. option_map_or (λ day. nat_le day today) f.1.emptied true) es) h in
    let there : list_all (λ f. option_map_or (λ day. nat_le day today) f.1.emptied true) es ≡ true = rest (option_map_or (λ day. nat_le day today) e.1.emptied true) (list_all (λ f. option_map_or (λ day. nat_le day today) f.1.emptied true) es) h in
    elim (is_at (nat_cmp file) e.0) as (λ b. cond b (Some e.1) (row_at file es) ≡ Some w → option_map_or (λ day. nat_le day today) w.emptied true ≡ true) [
      | true ↦ λ s. let same : e.1 ≡ w = cc in subst (λ (x : Volume). option_map_or (λ day. nat_le day today) x.emptied true ≡ true) same here
      | false ↦ λ s. emptied_past today file es there w s
    ] is

day_past : (today : ℕ) (o : Option ℕ) (day : ℕ) → option_map_or (λ day. nat_le day today) o true ≡ true → o ≡ Some day → day ≤ today
day_past today None day h is = absurd cc
day_past today (Some d) day h is = let same : d ≡ day = cc in omega (arith, leb-true d today h, same)

pub can_reuse : (file : ℕ) (v : Inv) → Facts v → refusal_of (may_reuse_at file v.today v.stores) ≡ [] → CanReuse file v
can_reuse file v f h = record {
  emptied = λ w found day is. day_past v.today w.emptied day (emptied_past v.today file v.stores.volumes f.volumes_by_today w found) is;
  made = is_said (may_reuse_at file v.today v.stores) h;
}
