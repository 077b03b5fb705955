-- How many items the nodes and filespaces are after a change of them.
use Rattle.std.proofs.Common.{◌≡◌, ℕ, ◌+◌, ◌^◌, ◌-◌, ◌≤◌, Bool, true, false, cond, is_some, List, [], ◌++◌, length, Option, Some, None, Result, Ok, Err, ap, ◌∙◌, arith}
use Rattle.std.specs.Prelude.{◌==◌}
use Rattle.std.specs.BTreeMap.{insert_entry}
use Rattle.std.specs.Map.{lookup, remove_entry}
use Rattle.std.specs.Ordering.{nat_cmp}
use Rattle.std.proofs.lemmas.Bool.{eqb-true}
use Rattle.kinds.specs.Least.{lesser}
use Rattle.kinds.specs.declared.change.DefineOrDelete.TheVariants as two
use Rattle.kinds.specs.declared.change.ObjectChange.{ObjectChange}
use Rattle.kinds.specs.declared.change.ObjectChange.TheVariants as client
use Rattle.kinds.specs.declared.refusal.By.{By}
use Rattle.kinds.specs.declared.refusal.Refusal.{Refusal}
use Rattle.kinds.specs.declared.refusal.Refusal.TheVariants.{Exists}
use Rattle.inventory_rules.specs.entries.declared.change.Change.TheVariants as change
use Rattle.inventory_rules.specs.inventory_rows.version_groups.declared.groups.Filespace.{Filespace}
use Rattle.inventory_rules.specs.inventory_rows.version_groups.Entries.{if_found}
use Rattle.inventory_rules.specs.inventory_rows.object_rows.declared.place.Node.{Node}
use Rattle.inventory_rules.specs.inventory_rows.object_rows.Changes.{by_filespace, by_object, filespaces_defined, filespaces_without, least_in, least_object, nodes_with, nodes_without, rows_changed, unless_used, with_nodes}
use Rattle.inventory_rules.specs.inventory_rows.object_rows.Filespaces.{at_number, filespace_at}
use Rattle.inventory_rules.specs.inventory_rows.object_rows.Items.{items_of_held}
use Rattle.inventory_rules.specs.inventory_rows.object_rows.Names.{filespace_named, filespace_of, node_named}
use Rattle.inventory_rules.specs.inventory_rows.object_rows.Rows.{Rows, with_filespaces}
use Rattle.inventory_rules.specs.inventory_rows.pool_tables.Rows.{row_at}
use Rattle.inventory_rules.specs.inventory_rows.Items.{count_items, items_of_filespace}
use Rattle.inventory_rules.specs.inventory_rows.State.{Inv}
use Rattle.inventory_rules.specs.Common.{or_same, full_at, one_if}
use Rattle.inventory_rules.specs.Transactions.{effect}
use Rattle.kinds.specs.Refusals.{refusal_of, bad_value, unless}
use Rattle.inventory_rules.specs.Clients.{client_bounds, client_refused, is_new_client}
use Rattle.inventory_rules.specs.Facts.{Facts}
use Rattle.inventory_laws.proofs.Absent.{undrawn, unless_holds}
use Rattle.inventory_laws.proofs.CountedParts.{in_backups, in_clients, in_domains, in_stores, nothing_first, nothing_then, second_less, second_more}
use Rattle.inventory_laws.proofs.Weights.{length-inserted, length-removed, rows, rows-inserted, rows-removed}

node_more : (w n s k : ℕ) → w ≡ 1 + n → w + s + k + 0 ≡ n + s + k + 1
node_more w n s k h = omega (arith, h)

space_more : (n w s k : ℕ) → w ≡ 1 + (0 + s) → n + w + k + 0 ≡ n + s + k + 1
space_more n w s k h = omega (arith, h)

node_less : (w n s k : ℕ) → w ≤ n → w + s + k ≤ n + s + k
node_less w n s k h = omega (arith, h)

space_less : (n w s k : ℕ) → w ≤ s → n + w + k ≤ n + s + k
space_less n w s k h = omega (arith, h)

node_defined : (name domain : List ℕ) (number : ℕ) (rs : Rows) → row_at number rs.nodes ≡ None → refusal_of (with_nodes rs (nodes_with name domain number rs.nodes)) ≡ [] → in_clients (or_same rs (with_nodes rs (nodes_with name domain number rs.nodes))) + 0 ≡ in_clients rs + 1
node_defined name domain number rs absent h = go (is_some (node_named name rs.nodes)) h where
  go : (b : Bool) → refusal_of (with_nodes rs (cond {A = Result (List (ℕ × Node)) Refusal} b (Err Exists) (Ok (insert_entry nat_cmp rs.nodes number (record { name = name; domain = domain }))))) ≡ []
      → in_clients (or_same rs (with_nodes rs (cond {A = Result (List (ℕ × Node)) Refusal} b (Err Exists) (Ok (insert_entry nat_cmp rs.nodes number (record { name = name; domain = domain })))))) + 0 ≡ in_clients rs + 1
  go true k = absurd cc
  go false k =
      node_more (length (insert_entry nat_cmp rs.nodes number (record { name = name; domain = domain }))) (length rs.nodes) (rows items_of_filespace rs.filespaces) (items_of_held rs.held)
      (length-inserted nat_cmp rs.nodes number (record { name = name; domain = domain }) absent)

space_defined : (node : ℕ) (name : List ℕ) (number : ℕ) (rs : Rows) → row_at number rs.filespaces ≡ None → refusal_of (with_filespaces rs (filespaces_defined node name number rs.nodes rs.filespaces)) ≡ []
    → in_clients (or_same rs (with_filespaces rs (filespaces_defined node name number rs.nodes rs.filespaces))) + 0 ≡ in_clients rs + 1
space_defined node name number rs absent h = there (lookup (at_number node) rs.nodes) h where
  go : (b : Bool) → refusal_of (with_filespaces rs (cond {A = Result (List (ℕ × Filespace)) Refusal} b (Err Exists) (Ok (insert_entry nat_cmp rs.filespaces number (record { node = node; name = name; groups = [] }))))) ≡ []
      → in_clients (or_same rs (with_filespaces rs (cond {A = Result (List (ℕ × Filespace)) Refusal} b (Err Exists) (Ok (insert_entry nat_cmp rs.filespaces number (record { node = node; name = name; groups = [] })))))) + 0 ≡ in_clients rs + 1
  go true k = absurd cc
  go false k =
      space_more (length rs.nodes) (rows items_of_filespace (insert_entry nat_cmp rs.filespaces number (record { node = node; name = name; groups = [] }))) (rows items_of_filespace rs.filespaces) (items_of_held rs.held)
      (rows-inserted items_of_filespace nat_cmp rs.filespaces number (record { node = node; name = name; groups = [] }) absent)

  there : (o : Option Node) → refusal_of (with_filespaces rs (if_found o (λ n. cond {A = Result (List (ℕ × Filespace)) Refusal} (is_some (filespace_named node name rs.filespaces)) (Err Exists) (Ok (insert_entry nat_cmp rs.filespaces number (record { node = node; name = name; groups = [] })))))) ≡ []
      → in_clients (or_same rs (with_filespaces rs (if_found o (λ n. cond {A = Result (List (ℕ × Filespace)) Refusal} (is_some (filespace_named node name rs.filespaces)) (Err Exists) (Ok (insert_entry nat_cmp rs.filespaces number (record { node = node; name = name; groups = [] }))))))) + 0 ≡ in_clients rs + 1
  there None k = absurd cc
  there (Some n) k = go (is_some (filespace_named node name rs.filespaces)) k

node_deleted : (name : List ℕ) (rs : Rows) → in_clients (or_same rs (with_nodes rs (nodes_without name rs.filespaces rs.nodes))) ≤ in_clients rs
node_deleted name rs = there (node_named name rs.nodes) where
  go : (number : ℕ) (u : Option By) → in_clients (or_same rs (with_nodes rs (unless_used u (remove_entry (at_number number) rs.nodes)))) ≤ in_clients rs
  go number None = node_less (length (remove_entry (at_number number) rs.nodes)) (length rs.nodes) (rows items_of_filespace rs.filespaces) (items_of_held rs.held) (length-removed (at_number number) rs.nodes)
  go number (Some u) = omega arith

  there : (o : Option ℕ) → in_clients (or_same rs (with_nodes rs (if_found o (λ number. unless_used (by_filespace (filespace_of number rs.filespaces)) (remove_entry (at_number number) rs.nodes))))) ≤ in_clients rs
  there None = omega arith
  there (Some number) = go number (by_filespace (filespace_of number rs.filespaces))

space_deleted : (number : ℕ) (rs : Rows) → in_clients (or_same rs (with_filespaces rs (filespaces_without number rs.held rs.filespaces))) ≤ in_clients rs
space_deleted number rs = there (filespace_at number rs.filespaces) where
  go : (u : Option By) → in_clients (or_same rs (with_filespaces rs (unless_used u (remove_entry (at_number number) rs.filespaces)))) ≤ in_clients rs
  go None = space_less (length rs.nodes) (rows items_of_filespace (remove_entry (at_number number) rs.filespaces)) (rows items_of_filespace rs.filespaces) (items_of_held rs.held) (rows-removed items_of_filespace (at_number number) rs.filespaces)
  go (Some u) = omega arith

  there : (o : Option Filespace) → in_clients (or_same rs (with_filespaces rs (if_found o (λ f. unless_used (by_object (lesser (least_object f.groups) (least_in number rs.held))) (remove_entry (at_number number) rs.filespaces))))) ≤ in_clients rs
  there None = omega arith
  there (Some f) = go (by_object (lesser (least_object f.groups) (least_in number rs.held)))

-- the number of a filespace is the one that is drawn next
drawn_next : (number : ℕ) (v : Inv) → (unless (number == v.next_filespace) bad_value ++ full_at v.next_filespace (2 ^ 32 - 1)) ≡ [] → number ≡ v.next_filespace
drawn_next number v h = eqb-true number v.next_filespace (unless_holds (number == v.next_filespace) bad_value (nothing_first (unless (number == v.next_filespace) bad_value) (full_at v.next_filespace (2 ^ 32 - 1)) h))

pub clients_more : (c : ObjectChange) (v : Inv) → Facts v → client_refused c v ≡ [] → is_new_client c ≡ true → in_clients (or_same v.clients (rows_changed c v.next_node v.clients)) + 0 ≡ in_clients v.clients + 1
clients_more (client.Node two.Define name domain) v f h n =
    node_defined name domain v.next_node v.clients (undrawn 1 v.next_node v.clients.nodes f.nodes_drawn)
    (nothing_first (refusal_of (rows_changed (client.Node two.Define name domain) v.next_node v.clients)) (client_bounds (client.Node two.Define name domain) v) h)
clients_more (client.Node two.Delete name domain) v f h n = absurd cc
clients_more (client.Filespace two.Define node name number) v f h n =
    let next : number ≡ v.next_filespace = drawn_next number v (nothing_then (refusal_of (rows_changed (client.Filespace two.Define node name number) v.next_node v.clients)) (client_bounds (client.Filespace two.Define node name number) v) h) in
    space_defined node name number v.clients (ap (λ k. row_at k v.clients.filespaces) next ∙ undrawn 1 v.next_filespace v.clients.filespaces f.filespaces_drawn)
    (nothing_first (refusal_of (rows_changed (client.Filespace two.Define node name number) v.next_node v.clients)) (client_bounds (client.Filespace two.Define node name number) v) h)
clients_more (client.Filespace two.Delete node name number) v f h n = absurd cc

more_clients : (c : ObjectChange) (v : Inv) → Facts v → client_refused c v ≡ [] → is_new_client c ≡ true
    → in_domains v.domains + in_clients (or_same v.clients (rows_changed c v.next_node v.clients)) + in_stores v.stores + in_backups v.backups + 0 ≡ count_items v + 1
more_clients c v f h n =
    second_more (in_domains v.domains) (in_clients v.clients) (in_clients (or_same v.clients (rows_changed c v.next_node v.clients))) (in_stores v.stores) (in_backups v.backups) 0 1 (clients_more c v f h n)

pub clients_counted : (c : ObjectChange) (v : Inv) → Facts v → client_refused c v ≡ [] → is_new_client c ≡ true → count_items (effect (change.Object c) v) + 0 ≡ count_items v + one_if (is_new_client c)
unfolding effect
clients_counted (client.Node two.Define name domain) v f h n = more_clients (client.Node two.Define name domain) v f h n
clients_counted (client.Node two.Delete name domain) v f h n = absurd cc
clients_counted (client.Filespace two.Define node name number) v f h n = more_clients (client.Filespace two.Define node name number) v f h n
clients_counted (client.Filespace two.Delete node name number) v f h n = absurd cc

pub clients_take : (c : ObjectChange) (v : Inv) → is_new_client c ≡ false → count_items (effect (change.Object c) v) ≤ count_items v
unfolding effect
clients_take (client.Node two.Define name domain) v n = absurd cc
clients_take (client.Node two.Delete name domain) v n =
    second_less (in_domains v.domains) (in_clients v.clients) (in_clients (or_same v.clients (with_nodes v.clients (nodes_without name v.clients.filespaces v.clients.nodes)))) (in_stores v.stores) (in_backups v.backups) (node_deleted name v.clients)
clients_take (client.Filespace two.Define node name number) v n = absurd cc
clients_take (client.Filespace two.Delete node name number) v n =
    second_less (in_domains v.domains) (in_clients v.clients) (in_clients (or_same v.clients (with_filespaces v.clients (filespaces_without number v.clients.held v.clients.filespaces)))) (in_stores v.stores) (in_backups v.backups) (space_deleted number v.clients)
