-- A change of nodes and filespaces leaves a valid database.
use Rattle.std.proofs.Common.{◌≡◌, ℕ, ◌+◌, ◌-◌, ◌^◌, ◌≤◌, ◌<◌, max, true, false, not, ltb, leb, eqb, ◌&&◌, ◌||◌, is_some, if◌then◌else◌, List, [], ◌∷◌, ◌++◌, Option, Some, None, Result, Ok, Err, refl, sym, ap, subst, ◌∙◌, arith, le-leb, lt-ltb, ltb-true, eqb-true}
use Rattle.std.specs.BTreeMap.{insert_entry}
use Rattle.std.specs.List.{list_all}
use Rattle.std.specs.Map.{keys_of, lookup, remove_entry}
use Rattle.std.specs.Ordering.{nat_cmp}
use Rattle.kinds.specs.declared.change.DefineOrDelete.TheVariants as two
use Rattle.kinds.specs.declared.change.ObjectChange.{ObjectChange}
use Rattle.kinds.specs.declared.change.ObjectChange.TheVariants as client
use Rattle.kinds.specs.declared.refusal.Refusal.{Refusal}
use Rattle.kinds.specs.declared.refusal.Refusal.TheVariants as refusal
use Rattle.inventory_rules.specs.entries.declared.change.Change.TheVariants as change
use Rattle.inventory_rules.specs.inventory_rows.policy_domains.Rows.{row_of}
use Rattle.inventory_rules.specs.inventory_rows.version_groups.declared.groups.Filespace.{Filespace}
use Rattle.inventory_rules.specs.inventory_rows.version_groups.Entries.{if_found}
use Rattle.inventory_rules.specs.inventory_rows.object_rows.declared.held_object.HeldRow.{HeldRow}
use Rattle.inventory_rules.specs.inventory_rows.object_rows.declared.place.Node.{Node}
use Rattle.inventory_rules.specs.inventory_rows.object_rows.Changes.{by_filespace, by_object, filespaces_defined, filespaces_without, least, least_in, least_object, nodes_with, nodes_without, numbers_in, rows_changed, unless_used, with_nodes}
use Rattle.inventory_rules.specs.inventory_rows.object_rows.Filespaces.{at_number, filespace_at, versions_in, versions_of}
use Rattle.inventory_rules.specs.inventory_rows.object_rows.HeldRows.{held_versions, is_held_row}
use Rattle.inventory_rules.specs.inventory_rows.object_rows.Names.{filespace_named, filespace_of, node_named}
use Rattle.inventory_rules.specs.inventory_rows.object_rows.Rows.{Rows, kept_of, with_filespaces}
use Rattle.inventory_rules.proofs.of_inventory_rows.of_object_rows.Least.{least_of_none}
use Rattle.inventory_rules.proofs.of_inventory_rows.of_object_rows.Splices.{flatten-remove_entry}
use Rattle.kinds.specs.Least.{lesser}
use Rattle.kinds.specs.Names.{is_same_name}
use Rattle.inventory_rules.specs.inventory_rows.Items.{count_items, most_items}
use Rattle.inventory_rules.specs.inventory_rows.Search.{versions}
use Rattle.inventory_rules.specs.inventory_rows.State.{Inv}
use Rattle.inventory_rules.specs.Common.{or_same, full_at}
use Rattle.inventory_rules.specs.Transactions.{effect, causes, sizes_refused}
use Rattle.inventory_rules.specs.Held.{IsTied}
use Rattle.inventory_rules.specs.Journal.{Journal}
use Rattle.kinds.specs.Refusals.{refusal_of, bad_value, unless}
use Rattle.inventory_rules.specs.Clients.{client_bounds}
use Rattle.inventory_rules.specs.Valid.{is_orderly, is_valid}
use Rattle.inventory_laws.proofs.Names.{names_swap, no_space, node_unnamed, space_unnamed}
use Rattle.inventory_laws.proofs.RowParts.{ClientParts, Parts, PolicyParts, VersionParts, clock_later, files_later, le_itself, le_more, parts_of, valid_from, versions_later}
use Rattle.inventory_laws.proofs.Refusals.{behind_nil, below_bound, few_items, front_nil, given, met, number_bounded}
use Rattle.inventory_laws.proofs.Facts.{both, first, rest}
use Rattle.inventory_laws.proofs.RowsKept.{AreLeft, Adds, adds-insert_entry, adds-map, all_later-adds, all_later-left, below-apart, bound-grows, flat_map-adds, found-insert_entry, found-remove_entry, left-map, left-remove_entry, list_all-adds, list_all-left, list_all-mono, list_all-two, none_at, not_at_other, swap}

-- ---- what the changes make of the rows

node_defined : (name domain : List ℕ) (number : ℕ) (rows new : Rows) → with_nodes rows (nodes_with name domain number rows.nodes) ≡ Ok new
    → (node_named name rows.nodes ≡ None) × (new ≡ record rows { nodes = insert_entry nat_cmp rows.nodes number (record { name = name; domain = domain }) })
node_defined name domain number rows new h =
    elim (node_named name rows.nodes) as (λ o. with_nodes rows (if is_some o then Err refusal.Exists else Ok (insert_entry nat_cmp rows.nodes number (record { name = name; domain = domain }))) ≡ Ok new
    → (o ≡ None) × (new ≡ record rows { nodes = insert_entry nat_cmp rows.nodes number (record { name = name; domain = domain }) })) [
      | None ↦ λ t. (refl, cc)
      | Some n ↦ λ t. absurd (cc)
    ] h

node_gone : (name : List ℕ) (rows new : Rows) → with_nodes rows (nodes_without name rows.filespaces rows.nodes) ≡ Ok new
    → (n : ℕ) × (filespace_of n rows.filespaces ≡ None) × (new ≡ record rows { nodes = remove_entry (at_number n) rows.nodes })
node_gone name rows new h =
    elim (node_named name rows.nodes) as (λ o. with_nodes rows (if_found o (λ n. unless_used (by_filespace (filespace_of n rows.filespaces)) (remove_entry (at_number n) rows.nodes))) ≡ Ok new
    → (n : ℕ) × (filespace_of n rows.filespaces ≡ None) × (new ≡ record rows { nodes = remove_entry (at_number n) rows.nodes })) [
      | None ↦ λ t. absurd (cc)
      | Some n ↦ λ t.
          let w : (filespace_of n rows.filespaces ≡ None) × (new ≡ record rows { nodes = remove_entry (at_number n) rows.nodes }) =
          elim (filespace_of n rows.filespaces) as (λ o. with_nodes rows (unless_used (by_filespace o) (remove_entry (at_number n) rows.nodes)) ≡ Ok new
          → (o ≡ None) × (new ≡ record rows { nodes = remove_entry (at_number n) rows.nodes })) [
            | None ↦ λ u. (refl, cc)
            | Some m ↦ λ u. absurd (cc)
          ] t in
          (n, w.0, w.1)
    ] h

abbrev if_free : Option ℕ → List (ℕ × Filespace) → Result (List (ℕ × Filespace)) Refusal
if_free o new = if is_some o then Err refusal.Exists else Ok new

space_defined : (node : ℕ) (name : List ℕ) (number : ℕ) (rows new : Rows) → with_filespaces rows (filespaces_defined node name number rows.nodes rows.filespaces) ≡ Ok new
    → (is_some (lookup (at_number node) rows.nodes) ≡ true) × (filespace_named node name rows.filespaces ≡ None)
    × (new ≡ record rows { filespaces = insert_entry nat_cmp rows.filespaces number (record { node = node; name = name; groups = [] }) })
space_defined node name number rows new h =
    elim (lookup (at_number node) rows.nodes) as (λ x. with_filespaces rows (if_found x (λ _. if_free (filespace_named node name rows.filespaces) (insert_entry nat_cmp rows.filespaces number (record { node = node; name = name; groups = [] })))) ≡ Ok new
    → (is_some x ≡ true) × (filespace_named node name rows.filespaces ≡ None)
    × (new ≡ record rows { filespaces = insert_entry nat_cmp rows.filespaces number (record { node = node; name = name; groups = [] }) })) [
      | None ↦ λ t. absurd (cc)
      | Some x ↦ λ t.
          let w : (filespace_named node name rows.filespaces ≡ None) × (new ≡ record rows { filespaces = insert_entry nat_cmp rows.filespaces number (record { node = node; name = name; groups = [] }) }) =
          elim (filespace_named node name rows.filespaces) as (λ o. with_filespaces rows (if_free o (insert_entry nat_cmp rows.filespaces number (record { node = node; name = name; groups = [] }))) ≡ Ok new
          → (o ≡ None) × (new ≡ record rows { filespaces = insert_entry nat_cmp rows.filespaces number (record { node = node; name = name; groups = [] }) })) [
            | None ↦ λ u. (refl, cc)
            | Some m ↦ λ u. absurd (cc)
          ] t in
          (refl, w.0, w.1)
    ] h

-- of two numbers neither is there where the lesser one isn't
neither : (a b : Option ℕ) → lesser a b ≡ None → (a ≡ None) × (b ≡ None)
neither None b h = (refl, h)
neither (Some n) None h = absurd (cc)
neither (Some n) (Some m) h = absurd (cc)

-- no object is held in the filespace
none_in : (n : ℕ) (held : List (ℕ × HeldRow)) → least_in n held ≡ None → list_all (λ h. not (eqb h.1.filespace n)) held ≡ true
none_in n [] h = refl
none_in n (e ∷ held) h =
    elim (eqb e.1.filespace n) as (λ b. least (if b then e.0 ∷ numbers_in n held else numbers_in n held) ≡ None → (not b && list_all (λ h. not (eqb h.1.filespace n)) held) ≡ true) [
      | true ↦ λ t. let first_one : Some e.0 ≡ None = (neither (Some e.0) (least (numbers_in n held)) t).0 in absurd (cc)
      | false ↦ λ t. none_in n held t
    ] h

space_gone : (number : ℕ) (rows new : Rows) → with_filespaces rows (filespaces_without number rows.held rows.filespaces) ≡ Ok new
    → (f : Filespace) × (filespace_at number rows.filespaces ≡ Some f) × (lesser (least_object f.groups) (least_in number rows.held) ≡ None) × (new ≡ record rows { filespaces = remove_entry (at_number number) rows.filespaces })
space_gone number rows new h =
    elim (filespace_at number rows.filespaces) as (λ o. filespace_at number rows.filespaces ≡ o
    → with_filespaces rows (if_found o (λ f. unless_used (by_object (lesser (least_object f.groups) (least_in number rows.held))) (remove_entry (at_number number) rows.filespaces))) ≡ Ok new
    → (f : Filespace) × (filespace_at number rows.filespaces ≡ Some f) × (lesser (least_object f.groups) (least_in number rows.held) ≡ None) × (new ≡ record rows { filespaces = remove_entry (at_number number) rows.filespaces })) [
      | None ↦ λ _ t. absurd (cc)
      | Some f ↦ λ there t.
          let w : (lesser (least_object f.groups) (least_in number rows.held) ≡ None) × (new ≡ record rows { filespaces = remove_entry (at_number number) rows.filespaces }) =
          elim (lesser (least_object f.groups) (least_in number rows.held)) as (λ o. with_filespaces rows (unless_used (by_object o) (remove_entry (at_number number) rows.filespaces)) ≡ Ok new
          → (o ≡ None) × (new ≡ record rows { filespaces = remove_entry (at_number number) rows.filespaces })) [
            | None ↦ λ u. (refl, cc)
            | Some m ↦ λ u. absurd (cc)
          ] t in
          (f, there, w.0, w.1)
    ] refl h

-- ---- numbers

next_drawn : (n : ℕ) → leb 1 n ≡ true → (leb 1 n && ltb n (n + 1)) ≡ true
next_drawn n h = both _ _ h (lt-ltb n (n + 1) (omega arith))

drawn_max : (n next : ℕ) → leb 1 n ≡ true → (leb 1 n && ltb n (max next (n + 1))) ≡ true
drawn_max n next h = both _ _ h (lt-ltb n (max next (n + 1)) (omega arith))

from_one : (n : ℕ) → leb 1 (n + 1) ≡ true
from_one n = le-leb 1 (n + 1) (omega arith)

le_next : (n : ℕ) → n ≤ n + 1
le_next n = omega arith

le_max : (n m : ℕ) → n ≤ max n (m + 1)
le_max n m = omega arith

max_from_one : (n m : ℕ) → leb 1 (max n (m + 1)) ≡ true
max_from_one n m = le-leb 1 (max n (m + 1)) (omega arith)

max_next : (n bound : ℕ) → ltb (n + 1) bound ≡ true → ltb (max n (n + 1)) bound ≡ true
max_next n bound h = lt-ltb (max n (n + 1)) bound (let b : n + 1 < bound = ltb-true (n + 1) bound h in omega arith)

-- ---- nodes

spaces_swap : (f g : ℕ × Filespace) → (not (eqb f.1.node g.1.node) || not (is_same_name f.1.name g.1.name)) ≡ (not (eqb g.1.node f.1.node) || not (is_same_name g.1.name f.1.name))
spaces_swap f g =
    ap (λ b. not b || not (is_same_name f.1.name g.1.name)) (swap f.1.node g.1.node) ∙ ap (λ b. not (eqb g.1.node f.1.node) || not b) (names_swap f.1.name g.1.name)

module _ (next_node next_filespace : ℕ) (nodes : List (ℕ × Node)) (fs : List (ℕ × Filespace)) (held : List (ℕ × HeldRow)) (p : ClientParts next_node next_filespace nodes fs held) where
  node_free : lookup (at_number next_node) nodes ≡ None
  node_free = none_at next_node nodes (below-apart 1 next_node (keys_of nodes) p.nodes_drawn)

  -- a node gets the next number
  more_nodes : (x : Node) → node_named x.name nodes ≡ None → ltb (next_node + 1) (2 ^ 32 - 1) ≡ true → ClientParts (next_node + 1) next_filespace (insert_entry nat_cmp nodes next_node x) fs held
  more_nodes x fresh below =
      let adds : Adds (next_node, x) nodes (insert_entry nat_cmp nodes next_node x) = adds-insert_entry nat_cmp next_node x nodes node_free in
      record {
        filespaces_cite = list_all-mono (λ f. is_some (lookup (at_number f.1.node) nodes)) (λ f. is_some (lookup (at_number f.1.node) (insert_entry nat_cmp nodes next_node x)))
            (λ f h. found-insert_entry (at_number f.1.node) nat_cmp next_node x nodes h) fs p.filespaces_cite;
        held_cite = p.held_cite;
        nodes_drawn = list_all-adds (λ n. leb 1 n && ltb n (next_node + 1)) (adds-map (λ (e : ℕ × Node). e.0) adds) (bound-grows 1 next_node (next_node + 1) (le_next next_node) (keys_of nodes) p.nodes_drawn)
            (next_drawn next_node (first _ _ (first _ _ p.bounded)));
        filespaces_drawn = p.filespaces_drawn;
        bounded = both _ _ (both _ _ (from_one next_node) below) (rest _ _ p.bounded);
        node_names = all_later-adds (λ a b. not (is_same_name a b)) (λ a b. ap not (names_swap a b)) (adds-map (λ (e : ℕ × Node). e.1.name) adds) (node_unnamed x.name nodes fresh) p.node_names;
        filespace_names = p.filespace_names;
        groups_orderly = p.groups_orderly;
      }

  -- a node without filespaces goes
  fewer_nodes : (n : ℕ) → filespace_of n fs ≡ None → ClientParts next_node next_filespace (remove_entry (at_number n) nodes) fs held
  fewer_nodes n unused =
      let left : AreLeft (remove_entry (at_number n) nodes) nodes = left-remove_entry (at_number n) nodes in
      record {
        filespaces_cite = list_all-two (λ f. not (eqb f.1.node n)) (λ f. is_some (lookup (at_number f.1.node) nodes)) (λ f. is_some (lookup (at_number f.1.node) (remove_entry (at_number n) nodes)))
            (λ f other there. ap is_some (found-remove_entry (at_number f.1.node) (at_number n) (λ k at. not_at_other f.1.node n k other at) nodes) ∙ there) fs (no_space n fs unused) p.filespaces_cite;
        held_cite = p.held_cite;
        nodes_drawn = list_all-left (λ n. leb 1 n && ltb n next_node) (left-map (λ (e : ℕ × Node). e.0) left) p.nodes_drawn;
        filespaces_drawn = p.filespaces_drawn;
        bounded = p.bounded;
        node_names = all_later-left (λ a b. not (is_same_name a b)) (left-map (λ (e : ℕ × Node). e.1.name) left) p.node_names;
        filespace_names = p.filespace_names;
        groups_orderly = p.groups_orderly;
      }

  -- ---- filespaces

  space_free : lookup (at_number next_filespace) fs ≡ None
  space_free = none_at next_filespace fs (below-apart 1 next_filespace (keys_of fs) p.filespaces_drawn)

  -- a filespace without groups gets a number that none has
  more_spaces : (n : ℕ) (f : Filespace) → lookup (at_number n) fs ≡ None → leb 1 n ≡ true → ltb (max next_filespace (n + 1)) (2 ^ 32 - 1) ≡ true
      → f.groups ≡ [] → is_some (lookup (at_number f.node) nodes) ≡ true → filespace_named f.node f.name fs ≡ None
      → ClientParts next_node (max next_filespace (n + 1)) nodes (insert_entry nat_cmp fs n f) held
  more_spaces n f free least below bare there fresh =
      let adds : Adds (n, f) fs (insert_entry nat_cmp fs n f) = adds-insert_entry nat_cmp n f fs free in
      record {
        filespaces_cite = list_all-adds (λ f. is_some (lookup (at_number f.1.node) nodes)) adds p.filespaces_cite there;
        held_cite = list_all-mono (λ h. is_held_row h && is_some (filespace_at h.1.filespace fs)) (λ h. is_held_row h && is_some (filespace_at h.1.filespace (insert_entry nat_cmp fs n f)))
            (λ h t. both _ _ (first _ _ t) (found-insert_entry (at_number h.1.filespace) nat_cmp n f fs (rest _ _ t))) held p.held_cite;
        nodes_drawn = p.nodes_drawn;
        filespaces_drawn = list_all-adds (λ m. leb 1 m && ltb m (max next_filespace (n + 1))) (adds-map (λ (e : ℕ × Filespace). e.0) adds)
            (bound-grows 1 next_filespace (max next_filespace (n + 1)) (le_max next_filespace n) (keys_of fs) p.filespaces_drawn)
            (drawn_max n next_filespace least);
        bounded = both _ _ (first _ _ p.bounded) (both _ _ (both _ _ (max_from_one next_filespace n) below) refl);
        node_names = p.node_names;
        filespace_names = all_later-adds (λ f g. not (eqb f.1.node g.1.node) || not (is_same_name f.1.name g.1.name)) spaces_swap adds (space_unnamed f.node f.name fs fresh) p.filespace_names;
        groups_orderly = list_all-adds (λ f. list_all (λ g. is_orderly g.1) f.1.groups) adds p.groups_orderly (ap (list_all (λ g. is_orderly g.1)) bare);
      }

  -- a filespace goes in which no object is held
  fewer_spaces : (n : ℕ) → list_all (λ h. not (eqb h.1.filespace n)) held ≡ true → ClientParts next_node next_filespace nodes (remove_entry (at_number n) fs) held
  fewer_spaces n none =
      let left : AreLeft (remove_entry (at_number n) fs) fs = left-remove_entry (at_number n) fs in
      record {
        filespaces_cite = list_all-left (λ f. is_some (lookup (at_number f.1.node) nodes)) left p.filespaces_cite;
        held_cite = list_all-two (λ h. not (eqb h.1.filespace n)) (λ h. is_held_row h && is_some (filespace_at h.1.filespace fs)) (λ h. is_held_row h && is_some (filespace_at h.1.filespace (remove_entry (at_number n) fs)))
            (λ h other t. both _ _ (first _ _ t) (ap is_some (found-remove_entry (at_number h.1.filespace) (at_number n) (λ k at. not_at_other h.1.filespace n k other at) fs) ∙ rest _ _ t)) held none p.held_cite;
        nodes_drawn = p.nodes_drawn;
        filespaces_drawn = list_all-left (λ n. leb 1 n && ltb n next_filespace) (left-map (λ (e : ℕ × Filespace). e.0) left) p.filespaces_drawn;
        bounded = p.bounded;
        node_names = p.node_names;
        filespace_names = all_later-left (λ f g. not (eqb f.1.node g.1.node) || not (is_same_name f.1.name g.1.name)) left p.filespace_names;
        groups_orderly = list_all-left (λ f. list_all (λ g. is_orderly g.1) f.1.groups) left p.groups_orderly;
      }

more_spaces-versions : (n : ℕ) (fs : List (ℕ × Filespace)) (f : Filespace) → lookup (at_number n) fs ≡ None → f.groups ≡ [] → versions_of (insert_entry nat_cmp fs n f) ≡ versions_of fs
more_spaces-versions n fs f free bare = flat_map-adds (λ (e : ℕ × Filespace). versions_in e.1.groups) (adds-insert_entry nat_cmp n f fs free) (ap versions_in bare)

fewer_spaces-versions : (n : ℕ) (fs : List (ℕ × Filespace)) (f : Filespace) → filespace_at n fs ≡ Some f → least_object f.groups ≡ None → versions_of (remove_entry (at_number n) fs) ≡ versions_of fs
fewer_spaces-versions n fs f there unused =
    flatten-remove_entry (λ (m : ℕ) (x : Filespace). versions_in x.groups) (at_number n) fs f there (λ _. least_of_none (versions_in f.groups) unused)

-- ---- the database

-- what holds of the rows of clients and of what speaks of them, with these numbers to come
record ClientsHold (v : Inv) (next_node next_filespace : ℕ) (rows : Rows) : Type 0 where
  clients : ClientParts next_node next_filespace rows.nodes rows.filespaces rows.held
  policy : PolicyParts v.domains rows.nodes v.stores.pools
  versions : VersionParts (v.number + 1) v.today v.next_object v.stores (kept_of rows)

module _ (v : Inv) (p : Parts v) where
  counted : VersionParts (v.number + 1) v.today v.next_object v.stores (versions v)
  counted = versions_later v.number (v.number + 1) v.today v.today v.next_object v.stores (versions v) (le_more v.number) (le_itself v.today) p.versions

  hold-node_defined : (name domain : List ℕ) (new : Rows) → client_bounds (client.Node two.Define name domain) v ≡ [] → rows_changed (client.Node two.Define name domain) v.next_node v.clients ≡ Ok new
      → ClientsHold v (v.next_node + 1) v.next_filespace new
  hold-node_defined name domain new h said =
      let w : (node_named name v.clients.nodes ≡ None) × (new ≡ record v.clients { nodes = insert_entry nat_cmp v.clients.nodes v.next_node (record { name = name; domain = domain }) }) = node_defined name domain v.next_node v.clients new said in
      let there : is_some (row_of domain v.domains) ≡ true = met (is_some (row_of domain v.domains)) refusal.NotFound (front_nil (unless (is_some (row_of domain v.domains)) refusal.NotFound) (full_at v.next_node (2 ^ 32 - 1)) h) in
      let below : ltb (v.next_node + 1) (2 ^ 32 - 1) ≡ true = below_bound v.next_node (2 ^ 32 - 1) (behind_nil (unless (is_some (row_of domain v.domains)) refusal.NotFound) (full_at v.next_node (2 ^ 32 - 1)) h) in
      let node : Node = record { name = name; domain = domain } in
      subst (ClientsHold v (v.next_node + 1) v.next_filespace) (sym w.1)
      (record {
        clients = more_nodes v.next_node v.next_filespace v.clients.nodes v.clients.filespaces v.clients.held p.clients node w.0 below;
        policy = record {
          nodes_cite = list_all-adds (λ n. is_some (row_of n.1.domain v.domains)) (adds-insert_entry nat_cmp v.next_node node v.clients.nodes (node_free v.next_node v.next_filespace v.clients.nodes v.clients.filespaces v.clients.held p.clients)) p.policy.nodes_cite there;
          rules_cite = p.policy.rules_cite;
          defaults_there = p.policy.defaults_there;
        };
        versions = counted;
      })

  hold-node_gone : (name domain : List ℕ) (new : Rows) → rows_changed (client.Node two.Delete name domain) v.next_node v.clients ≡ Ok new → ClientsHold v v.next_node v.next_filespace new
  hold-node_gone name domain new said =
      let w : (n : ℕ) × (filespace_of n v.clients.filespaces ≡ None) × (new ≡ record v.clients { nodes = remove_entry (at_number n) v.clients.nodes }) = node_gone name v.clients new said in
      subst (ClientsHold v v.next_node v.next_filespace) (sym w.2)
      (record {
        clients = fewer_nodes v.next_node v.next_filespace v.clients.nodes v.clients.filespaces v.clients.held p.clients w.0 w.1;
        policy = record {
          nodes_cite = list_all-left (λ n. is_some (row_of n.1.domain v.domains)) (left-remove_entry (at_number w.0) v.clients.nodes) p.policy.nodes_cite;
          rules_cite = p.policy.rules_cite;
          defaults_there = p.policy.defaults_there;
        };
        versions = counted;
      })

  hold-space_defined : (node : ℕ) (name : List ℕ) (n : ℕ) (new : Rows) → client_bounds (client.Filespace two.Define node name n) v ≡ [] → rows_changed (client.Filespace two.Define node name n) v.next_node v.clients ≡ Ok new
      → ClientsHold v v.next_node (max v.next_filespace (n + 1)) new
  hold-space_defined node name n new h said =
      let fs : List (ℕ × Filespace) = v.clients.filespaces in
      let f : Filespace = record { node = node; name = name; groups = [] } in
      let w : (is_some (lookup (at_number node) v.clients.nodes) ≡ true) × (filespace_named node name v.clients.filespaces ≡ None) × (new ≡ record v.clients { filespaces = insert_entry nat_cmp v.clients.filespaces n (record { node = node; name = name; groups = [] }) }) = space_defined node name n v.clients new said in
      let same : n ≡ v.next_filespace = eqb-true n v.next_filespace (met (eqb n v.next_filespace) bad_value (front_nil (unless (eqb n v.next_filespace) bad_value) (full_at v.next_filespace (2 ^ 32 - 1)) h)) in
      let below : ltb (v.next_filespace + 1) (2 ^ 32 - 1) ≡ true = below_bound v.next_filespace (2 ^ 32 - 1) (behind_nil (unless (eqb n v.next_filespace) bad_value) (full_at v.next_filespace (2 ^ 32 - 1)) h) in
      let free : lookup (at_number n) v.clients.filespaces ≡ None = ap (λ m. lookup (at_number m) v.clients.filespaces) same ∙ space_free v.next_node v.next_filespace v.clients.nodes v.clients.filespaces v.clients.held p.clients in
      subst (ClientsHold v v.next_node (max v.next_filespace (n + 1))) (sym w.2)
      (record {
        clients = more_spaces v.next_node v.next_filespace v.clients.nodes v.clients.filespaces v.clients.held p.clients n f free
            (ap (leb 1) same ∙ first _ _ (first _ _ (rest _ _ p.clients.bounded)))
            (ap (λ m. ltb (max v.next_filespace (m + 1)) (2 ^ 32 - 1)) same ∙ max_next v.next_filespace (2 ^ 32 - 1) below) refl w.0 w.1;
        policy = p.policy;
        versions = subst (VersionParts (v.number + 1) v.today v.next_object v.stores) (sym (ap (λ vs. vs ++ held_versions v.clients.held) (more_spaces-versions n v.clients.filespaces f free refl))) counted;
      })

  hold-space_gone : (node : ℕ) (name : List ℕ) (n : ℕ) (new : Rows) → rows_changed (client.Filespace two.Delete node name n) v.next_node v.clients ≡ Ok new → ClientsHold v v.next_node v.next_filespace new
  hold-space_gone node name n new said =
      let w : (f : Filespace) × (filespace_at n v.clients.filespaces ≡ Some f) × (lesser (least_object f.groups) (least_in n v.clients.held) ≡ None) × (new ≡ record v.clients { filespaces = remove_entry (at_number n) v.clients.filespaces }) = space_gone n v.clients new said in
      let unused : (least_object w.0.groups ≡ None) × (least_in n v.clients.held ≡ None) = neither (least_object w.0.groups) (least_in n v.clients.held) w.2 in
      subst (ClientsHold v v.next_node v.next_filespace) (sym w.3)
      (record {
        clients = fewer_spaces v.next_node v.next_filespace v.clients.nodes v.clients.filespaces v.clients.held p.clients n (none_in n v.clients.held unused.1);
        policy = p.policy;
        versions = subst (VersionParts (v.number + 1) v.today v.next_object v.stores) (sym (ap (λ vs. vs ++ held_versions v.clients.held) (fewer_spaces-versions n v.clients.filespaces w.0 w.1 unused.0))) counted;
      })

  parts-clients : (next_node next_filespace : ℕ) (rows : Rows) → ltb (v.number + 1) (2 ^ 62) ≡ true
      → leb (count_items (record v { number = v.number + 1; next_node = next_node; next_filespace = next_filespace; clients = rows })) most_items ≡ true
      → ClientsHold v next_node next_filespace rows → Parts (record v { number = v.number + 1; next_node = next_node; next_filespace = next_filespace; clients = rows })
  parts-clients next_node next_filespace rows numbered few s = record {
    policy = s.policy;
    clients = s.clients;
    stores = p.stores;
    files = files_later v.number (v.number + 1) v.today v.today v.next_file v.stores.volumes v.backups (le_more v.number) (le_itself v.today) p.files;
    versions = s.versions;
    clock = clock_later v.number (v.number + 1) v.today v.today v.stores.volumes numbered p.clock.day_bounded (le_itself v.today) p.clock;
    few_items = few;
  }

parts-object : (c : ObjectChange) (v : Inv) → refusal_of (rows_changed c v.next_node v.clients) ≡ [] → client_bounds c v ≡ [] → sizes_refused (change.Object c) v ≡ [] → Parts v → Parts (effect (change.Object c) v)
unfolding effect
parts-object (client.Node two.Define name domain) v h b sizes p =
    let c : ObjectChange = client.Node two.Define name domain in
    parts-clients v p (v.next_node + 1) v.next_filespace (or_same v.clients (rows_changed (client.Node two.Define name domain) v.next_node v.clients)) (number_bounded (change.Object c) v sizes) (few_items (change.Object c) v sizes)
    (given (ClientsHold v (v.next_node + 1) v.next_filespace) v.clients (rows_changed (client.Node two.Define name domain) v.next_node v.clients) h (λ new said. hold-node_defined v p name domain new b said))
parts-object (client.Node two.Delete name domain) v h b sizes p =
    let c : ObjectChange = client.Node two.Delete name domain in
    parts-clients v p v.next_node v.next_filespace (or_same v.clients (rows_changed (client.Node two.Delete name domain) v.next_node v.clients)) (number_bounded (change.Object c) v sizes) (few_items (change.Object c) v sizes)
    (given (ClientsHold v v.next_node v.next_filespace) v.clients (rows_changed (client.Node two.Delete name domain) v.next_node v.clients) h (λ new said. hold-node_gone v p name domain new said))
parts-object (client.Filespace two.Define node name n) v h b sizes p =
    let c : ObjectChange = client.Filespace two.Define node name n in
    parts-clients v p v.next_node (max v.next_filespace (n + 1)) (or_same v.clients (rows_changed (client.Filespace two.Define node name n) v.next_node v.clients)) (number_bounded (change.Object c) v sizes) (few_items (change.Object c) v sizes)
    (given (ClientsHold v v.next_node (max v.next_filespace (n + 1))) v.clients (rows_changed (client.Filespace two.Define node name n) v.next_node v.clients) h (λ new said. hold-space_defined v p node name n new b said))
parts-object (client.Filespace two.Delete node name n) v h b sizes p =
    let c : ObjectChange = client.Filespace two.Delete node name n in
    parts-clients v p v.next_node v.next_filespace (or_same v.clients (rows_changed (client.Filespace two.Delete node name n) v.next_node v.clients)) (number_bounded (change.Object c) v sizes) (few_items (change.Object c) v sizes)
    (given (ClientsHold v v.next_node v.next_filespace) v.clients (rows_changed (client.Filespace two.Delete node name n) v.next_node v.clients) h (λ new said. hold-space_gone v p node name n new said))

pub object_stays : (j : Journal) (c : ObjectChange) (v : Inv) → is_valid v ≡ true → IsTied v → causes j (change.Object c) v ≡ [] → sizes_refused (change.Object c) v ≡ []
    → (is_valid (effect (change.Object c) v) ≡ true) × IsTied (effect (change.Object c) v)
object_stays j c v h t r s =
    valid_from (effect (change.Object c) v)
    (parts-object c v (front_nil (refusal_of (rows_changed c v.next_node v.clients)) (client_bounds c v) r) (behind_nil (refusal_of (rows_changed c v.next_node v.clients)) (client_bounds c v) r) s (parts_of v h t))
