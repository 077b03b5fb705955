-- The causes that refuse a transaction which brings items come before a database that would be too large.
use Rattle.std.proofs.Common.{◌≡◌, ℕ, ◌+◌, ◌^◌, ◌-◌, max, Bool, true, false, cond, not, ◌&&◌, List, [], ◌∷◌, ◌++◌, map, length, Option, Some, None, is_some, Result, Ok, Err, refl}
use Rattle.std.specs.Prelude.{◌==◌, nat_le, nat_lt}
use Rattle.std.specs.BTreeMap.{insert_entry}
use Rattle.std.specs.Cmp.Lexicographic.{slice_cmp}
use Rattle.std.specs.List.{flat_map, list_all}
use Rattle.std.specs.Map.{lookup}
use Rattle.std.specs.Ordering.{nat_cmp}
use Rattle.std.proofs.lemmas.Bool.{and_from}
use Rattle.kinds.specs.Names.{is_same_name}
use Rattle.kinds.specs.Refusals.{bad_value, place_of, refusal_of, unless}
use Rattle.kinds.specs.declared.change.DefineOrDelete.TheVariants as two
use Rattle.kinds.specs.declared.change.ObjectChange.{ObjectChange}
use Rattle.kinds.specs.declared.change.ObjectChange.TheVariants as client
use Rattle.kinds.specs.declared.change.PolicyChange.{PolicyChange}
use Rattle.kinds.specs.declared.change.PolicyChange.TheVariants as policy
use Rattle.kinds.specs.declared.change.PoolChange.{PoolChange}
use Rattle.kinds.specs.declared.change.PoolChange.TheVariants as store
use Rattle.kinds.specs.declared.change.Verb.TheVariants as verb
use Rattle.kinds.specs.declared.pool.Access.{Access}
use Rattle.kinds.specs.declared.pool.PoolKind.{PoolKind}
use Rattle.kinds.specs.declared.pool.PoolRule.{PoolRule}
use Rattle.kinds.specs.declared.refusal.Refusal.{Refusal}
use Rattle.kinds.specs.declared.refusal.Refusal.TheVariants as refusal
use Rattle.entries.specs.change_items.declared.items.MovedCopy.{MovedCopy}
use Rattle.entries.specs.change_items.declared.items.NewCopy.{NewCopy}
use Rattle.entries.specs.change_items.declared.items.NewHeldObject.{NewHeldObject}
use Rattle.entries.specs.change_items.declared.items.NewVersion.{NewVersion}
use Rattle.entries.specs.change_items.declared.items.ScratchVolume.{ScratchVolume}
use Rattle.entries.specs.declared.change.Change.{Change}
use Rattle.entries.specs.declared.change.Change.TheVariants as change
use Rattle.inventory_rows.specs.policy_domains.Changes.{after, names_active}
use Rattle.inventory_rows.specs.policy_domains.Rows.{DomainRow, SetRow, active_set, changed, changed_row, defined, row_of, with_row, within}
use Rattle.inventory_rows.specs.policy_domains.declared.classes.ManagementClass.{ManagementClass}
use Rattle.inventory_rows.specs.policy_domains.Sets.{activated, bare_class, class_changed, empty_domain, empty_set, in_sets, set_changed, to_activate}
use Rattle.inventory_rows.specs.object_rows.Changes.{filespaces_defined, nodes_with, rows_changed}
use Rattle.inventory_rows.specs.object_rows.Filespaces.{at_number, filespace_at}
use Rattle.inventory_rows.specs.object_rows.Names.{filespace_named, node_named}
use Rattle.inventory_rows.specs.object_rows.Rows.{Rows, most_kept}
use Rattle.inventory_rows.specs.object_rows.declared.place.Node.{Node}
use Rattle.inventory_rows.specs.pool_rows.Changed.{changed as store_after}
use Rattle.inventory_rows.specs.pool_rows.Changes.{define_pool, define_volume, is_next_there, new_pool, new_volume}
use Rattle.inventory_rows.specs.pool_rows.ClassChanges.{define_class}
use Rattle.inventory_rows.specs.pool_rows.Hierarchy.{is_bad_hierarchy}
use Rattle.inventory_rows.specs.pool_rows.PoolRows.{PoolRows, pool_named, volume_named}
use Rattle.inventory_rows.specs.pool_tables.Rows.{named, row_at, with_row as with_numbered}
use Rattle.inventory_rows.specs.version_groups.Entries.{all_later, if_found, on_ok}
use Rattle.inventory_rows.specs.version_groups.declared.groups.Filespace.{Filespace}
use Rattle.inventory_rows.specs.version_groups.declared.copies.CopyRow.{CopyRow}
use Rattle.inventory_rows.specs.version_groups.declared.versions.Version.{Version}
use Rattle.inventory_rows.specs.Search.{copy_in, version, versions}
use Rattle.inventory_rows.specs.State.{Inv}
use Rattle.inventory_rules.specs.Backups.{after_refused, backup_at, is_done}
use Rattle.inventory_rules.specs.Clients.{client_bounds, client_refused, is_new_client}
use Rattle.inventory_rules.specs.Common.{file_bound, files_refused, full_at, is_free_file}
use Rattle.inventory_rules.specs.Copies.{copied_refused, copy_list_refused, copy_refused, move_refused, moved_refused, stale_copy}
use Rattle.inventory_rules.specs.Journal.{Journal}
use Rattle.inventory_rules.specs.Policy.{destination_refused, domain_used, is_new_policy, policy_refused}
use Rattle.inventory_rules.specs.Segments.{scratch_refused}
use Rattle.inventory_rules.specs.Stores.{is_new_store, collocation_refused, store_bounds, store_refused}
use Rattle.inventory_rules.specs.Transactions.{brings_items, causes}
use Rattle.inventory_rules.specs.Valid.{disk}
use Rattle.inventory_rules.specs.Versions.{arrivals_refused, filespace_there, gone_or_unknown, is_new_object, name_once, new_refused, object_refused, objects_refused, of_version}
use Rattle.inventory_laws.proofs.VolumeRows.{list_all-append}

-- a refusal that is answered before a database that would be too large, or is that one
abbrev pub is_sooner : Refusal → Bool
is_sooner e = nat_le (place_of e) (place_of refusal.InventoryFull)

abbrev pub are_sooner : List Refusal → Bool
are_sooner es = list_all is_sooner es

both : (xs ys : List Refusal) → are_sooner xs ≡ true → are_sooner ys ≡ true → are_sooner (xs ++ ys) ≡ true
both xs ys a b = list_all-append is_sooner xs ys a b

unless_sooner : (b : Bool) (e : Refusal) → is_sooner e ≡ true → are_sooner (unless b e) ≡ true
unless_sooner true e h = refl
unless_sooner false e h = and_from (is_sooner e) true h refl

each_sooner : {X : Type 0} (f : X → List Refusal) → ((x : X) → are_sooner (f x) ≡ true) → (xs : List X) → are_sooner (flat_map f xs) ≡ true
each_sooner f all [] = refl
each_sooner f all (x ∷ xs) = both (f x) (flat_map f xs) (all x) (each_sooner f all xs)

-- ---- what the rows answer

unless_err : {S : Type 0} (b : Bool) (e : Refusal) (r : Result S Refusal) → is_sooner e ≡ true → are_sooner (refusal_of r) ≡ true → are_sooner (refusal_of (cond {A = Result S Refusal} b (Err e) r)) ≡ true
unless_err true e r h k = and_from (is_sooner e) true h refl
unless_err false e r h k = k

where_ok : {S : Type 0} (b : Bool) (e : Refusal) (r : Result S Refusal) → is_sooner e ≡ true → are_sooner (refusal_of r) ≡ true → are_sooner (refusal_of (cond {A = Result S Refusal} b r (Err e))) ≡ true
where_ok true e r h k = k
where_ok false e r h k = and_from (is_sooner e) true h refl

within_sooner : {A B : Type 0} (place : A → B) (r : Result A Refusal) → are_sooner (refusal_of r) ≡ true → are_sooner (refusal_of (within place r)) ≡ true
within_sooner place (Ok a) h = refl
within_sooner place (Err e) h = h

on_ok_sooner : {A B : Type 0} (place : A → B) (r : Result A Refusal) → are_sooner (refusal_of r) ≡ true → are_sooner (refusal_of (on_ok place r)) ≡ true
on_ok_sooner place (Ok a) h = refl
on_ok_sooner place (Err e) h = h

found_sooner : {A B : Type 0} (o : Option A) (step : A → Result B Refusal) → ((x : A) → are_sooner (refusal_of (step x)) ≡ true) → are_sooner (refusal_of (if_found o step)) ≡ true
found_sooner None step all = refl
found_sooner (Some x) step all = all x

changed_sooner : {V : Type 0} (name : List ℕ) (step : V → Result V Refusal) (rows : List (List ℕ × V)) → ((v : V) → are_sooner (refusal_of (step v)) ≡ true) → are_sooner (refusal_of (changed name step rows)) ≡ true
changed_sooner {V} name step rows all = go (row_of name rows) where
  go : (o : Option V) → are_sooner (refusal_of (changed_row name step rows o)) ≡ true
  go None = refl
  go (Some v) = within_sooner _ (step v) (all v)

-- ---- what isn't as it was named

gone_sooner : (o : Option ℕ) → is_sooner (gone_or_unknown o) ≡ true
gone_sooner None = refl
gone_sooner (Some n) = refl

stale_sooner : (o : Option ℕ) (c : Option CopyRow) → is_sooner (stale_copy o c) ≡ true
stale_sooner (Some n) c = refl
stale_sooner None (Some c) = refl
stale_sooner None None = refl

version_sooner : (j : Journal) (object : ℕ) (rule : Version → List Refusal) (o : Option Version) → ((w : Version) → are_sooner (rule w) ≡ true) → are_sooner (of_version j object rule o) ≡ true
version_sooner j object rule None all = and_from (is_sooner (gone_or_unknown (j.removed object))) true (gone_sooner (j.removed object)) refl
version_sooner j object rule (Some w) all = all w

moved_sooner : (j : Journal) (v : Inv) (i : MovedCopy) → are_sooner (moved_refused j v i) ≡ true
moved_sooner j v i = version_sooner j i.object (copy_refused j i.object i.from i.placed) (version i.object v) (λ w. unless_sooner _ (stale_copy (j.copy_changed i.object i.from) (copy_in i.from w)) (stale_sooner (j.copy_changed i.object i.from) (copy_in i.from w)))

copied_sooner : (j : Journal) (v : Inv) (i : NewCopy) → are_sooner (copied_refused j v i) ≡ true
copied_sooner j v i =
    version_sooner j i.object (λ w. unless (not (is_some (copy_in i.pool w))) (stale_copy (j.copy_changed i.object i.pool) (copy_in i.pool w))) (version i.object v)
    (λ w. unless_sooner _ (stale_copy (j.copy_changed i.object i.pool) (copy_in i.pool w)) (stale_sooner (j.copy_changed i.object i.pool) (copy_in i.pool w)))

-- ---- changes of the policy

defined_sooner : {V : Type 0} (name : List ℕ) (v : V) (rows : List (List ℕ × V)) → are_sooner (refusal_of (defined name v rows)) ≡ true
defined_sooner name v rows = unless_err (is_some (row_of name rows)) refusal.Exists (Ok (with_row name v rows)) refl refl

abbrev with_sets : DomainRow → List (List ℕ × SetRow) → DomainRow
with_sets d sets = record { back_retention = d.back_retention; sets = sets }

in_sets_sooner : (step : List (List ℕ × SetRow) → Result (List (List ℕ × SetRow)) Refusal) → ((sets : List (List ℕ × SetRow)) → are_sooner (refusal_of (step sets)) ≡ true) → (d : DomainRow) → are_sooner (refusal_of (in_sets step d)) ≡ true
in_sets_sooner step all d = within_sooner (with_sets d) (step d.sets) (all d.sets)

abbrev with_classes : SetRow → List (List ℕ × ManagementClass) → SetRow
with_classes s classes = record { default_class = s.default_class; classes = classes }

class_sooner : (class : List ℕ) (s : SetRow) → are_sooner (refusal_of (class_changed two.Define class s)) ≡ true
class_sooner class s = within_sooner (with_classes s) (defined class bare_class s.classes) (defined_sooner class bare_class s.classes)

to_activate_sooner : (o : Option SetRow) → are_sooner (refusal_of (to_activate o)) ≡ true
to_activate_sooner None = refl
to_activate_sooner (Some s) = where_ok (is_some s.default_class) refusal.NoDefaultClass (Ok s) refl refl

abbrev with_active : DomainRow → SetRow → DomainRow
with_active d set = record { back_retention = d.back_retention; sets = with_row active_set set d.sets }

activated_sooner : (set : List ℕ) (d : DomainRow) → are_sooner (refusal_of (activated set d)) ≡ true
activated_sooner set d = within_sooner (with_active d) (to_activate (row_of set d.sets)) (to_activate_sooner (row_of set d.sets))

policy_causes : (c : PolicyChange) (v : Inv) → are_sooner (refusal_of (after c v.domains)) ≡ true → are_sooner (destination_refused c v ++ domain_used c v) ≡ true → are_sooner (policy_refused c v) ≡ true
policy_causes c v rows uses =
    both (unless (not (names_active c)) bad_value) (refusal_of (after c v.domains) ++ (destination_refused c v ++ domain_used c v)) (unless_sooner (not (names_active c)) bad_value refl)
    (both (refusal_of (after c v.domains)) (destination_refused c v ++ domain_used c v) rows uses)

policy_sooner : (c : PolicyChange) (v : Inv) → is_new_policy c ≡ true → are_sooner (policy_refused c v) ≡ true
policy_sooner (policy.Domain verb.Define domain days) v b = policy_causes (policy.Domain verb.Define domain days) v (defined_sooner domain (empty_domain days) v.domains) refl
policy_sooner (policy.Domain verb.Update domain days) v b = absurd cc
policy_sooner (policy.Domain verb.Delete domain days) v b = absurd cc
policy_sooner (policy.Set two.Define domain set) v b =
    policy_causes (policy.Set two.Define domain set) v
    (changed_sooner domain (in_sets (set_changed two.Define set)) v.domains (in_sets_sooner (set_changed two.Define set) (defined_sooner set empty_set))) refl
policy_sooner (policy.Set two.Delete domain set) v b = absurd cc
policy_sooner (policy.Class two.Define domain set class) v b =
    policy_causes (policy.Class two.Define domain set class) v
    (changed_sooner domain (in_sets (changed set (class_changed two.Define class))) v.domains
    (in_sets_sooner (changed set (class_changed two.Define class)) (λ sets. changed_sooner set (class_changed two.Define class) sets (class_sooner class)))) refl
policy_sooner (policy.Class two.Delete domain set class) v b = absurd cc
policy_sooner (policy.Group v1 domain set class rule) v b = absurd cc
policy_sooner (policy.ArchiveGroup v1 domain set class rule) v b = absurd cc
policy_sooner (policy.Assign domain set class) v b = absurd cc
policy_sooner (policy.Activate domain set) v b = policy_causes (policy.Activate domain set) v (changed_sooner domain (activated set) v.domains (activated_sooner set)) refl

-- ---- nodes and filespaces

full_sooner : (next bound : ℕ) → are_sooner (full_at next bound) ≡ true
full_sooner next bound = unless_sooner (nat_lt (next + 1) bound) refusal.InventoryFull refl

abbrev with_node_rows : Rows → List (ℕ × Node) → Rows
with_node_rows rows nodes = record { nodes = nodes; filespaces = rows.filespaces; held = rows.held }

abbrev new_node : List ℕ → List ℕ → Node
new_node name domain = record { name = name; domain = domain }

nodes_sooner : (name domain : List ℕ) (number : ℕ) (nodes : List (ℕ × Node)) → are_sooner (refusal_of (nodes_with name domain number nodes)) ≡ true
nodes_sooner name domain number nodes = unless_err (is_some (node_named name nodes)) refusal.Exists (Ok (insert_entry nat_cmp nodes number (new_node name domain))) refl refl

abbrev with_filespace_rows : Rows → List (ℕ × Filespace) → Rows
with_filespace_rows rows filespaces = record { nodes = rows.nodes; filespaces = filespaces; held = rows.held }

abbrev new_filespace : ℕ → List ℕ → Filespace
new_filespace node name = record { node = node; name = name; groups = [] }

abbrev filespace_given : ℕ → List ℕ → ℕ → List (ℕ × Filespace) → Result (List (ℕ × Filespace)) Refusal
filespace_given node name number filespaces = cond (is_some (filespace_named node name filespaces)) (Err refusal.Exists) (Ok (insert_entry nat_cmp filespaces number (new_filespace node name)))

filespaces_sooner : (node : ℕ) (name : List ℕ) (number : ℕ) (nodes : List (ℕ × Node)) (filespaces : List (ℕ × Filespace)) → are_sooner (refusal_of (filespaces_defined node name number nodes filespaces)) ≡ true
filespaces_sooner node name number nodes filespaces =
    found_sooner (lookup (at_number node) nodes) (λ (n : Node). filespace_given node name number filespaces)
    (λ n. unless_err (is_some (filespace_named node name filespaces)) refusal.Exists (Ok (insert_entry nat_cmp filespaces number (new_filespace node name))) refl refl)

client_sooner : (c : ObjectChange) (v : Inv) → is_new_client c ≡ true → are_sooner (client_refused c v) ≡ true
client_sooner (client.Node two.Define name domain) v b =
    both (refusal_of (rows_changed (client.Node two.Define name domain) v.next_node v.clients)) (client_bounds (client.Node two.Define name domain) v)
    (on_ok_sooner (with_node_rows v.clients) (nodes_with name domain v.next_node v.clients.nodes) (nodes_sooner name domain v.next_node v.clients.nodes))
    (both (unless (is_some (row_of domain v.domains)) refusal.NotFound) (full_at v.next_node (2 ^ 32 - 1)) (unless_sooner (is_some (row_of domain v.domains)) refusal.NotFound refl) (full_sooner v.next_node (2 ^ 32 - 1)))
client_sooner (client.Node two.Delete name domain) v b = absurd cc
client_sooner (client.Filespace two.Define node name filespace) v b =
    both (refusal_of (rows_changed (client.Filespace two.Define node name filespace) v.next_node v.clients)) (client_bounds (client.Filespace two.Define node name filespace) v)
    (on_ok_sooner (with_filespace_rows v.clients) (filespaces_defined node name filespace v.clients.nodes v.clients.filespaces) (filespaces_sooner node name filespace v.clients.nodes v.clients.filespaces))
    (both (unless (filespace == v.next_filespace) bad_value) (full_at v.next_filespace (2 ^ 32 - 1)) (unless_sooner (filespace == v.next_filespace) bad_value refl) (full_sooner v.next_filespace (2 ^ 32 - 1)))
client_sooner (client.Filespace two.Delete node name filespace) v b = absurd cc

-- ---- device classes, pools and volumes

new_class_sooner : (class : List ℕ) (capacity : ℕ) (s : PoolRows) → are_sooner (refusal_of (define_class class capacity s)) ≡ true
new_class_sooner class capacity s =
    unless_err (is_some (named class s.classes)) refusal.Exists (Ok (record s { classes = insert_entry (slice_cmp nat_cmp) s.classes class (Some capacity) })) refl refl

abbrev pool_unless_bad : ℕ → List ℕ → List ℕ → PoolKind → PoolRule → PoolRows → Result PoolRows Refusal
pool_unless_bad number name class kind rule s = cond (is_bad_hierarchy number class kind rule.next s) (Err refusal.BadHierarchy) (Ok (record s { pools = with_numbered number (new_pool name class kind rule) s.pools }))

abbrev pool_unless_there : ℕ → List ℕ → List ℕ → PoolKind → PoolRule → PoolRows → Result PoolRows Refusal
pool_unless_there number name class kind rule s = cond (is_some (pool_named name s)) (Err refusal.Exists) (pool_unless_bad number name class kind rule s)

new_pool_sooner : (number : ℕ) (name class : List ℕ) (kind : PoolKind) (rule : PoolRule) (s : PoolRows) → are_sooner (refusal_of (define_pool number name class kind rule s)) ≡ true
new_pool_sooner number name class kind rule s =
    where_ok (is_some (named class s.classes) && is_next_there rule.next s) refusal.NotFound (pool_unless_there number name class kind rule s) refl
    (unless_err (is_some (pool_named name s)) refusal.Exists (pool_unless_bad number name class kind rule s) refl
    (unless_err (is_bad_hierarchy number class kind rule.next s) refusal.BadHierarchy (Ok (record s { pools = with_numbered number (new_pool name class kind rule) s.pools })) refl refl))

abbrev volume_unless_there : List ℕ → ℕ → ℕ → ℕ → Access → PoolRows → Result PoolRows Refusal
volume_unless_there name pool file capacity access s = cond (is_some (volume_named name s)) (Err refusal.Exists) (Ok (record s { volumes = with_numbered file (new_volume name pool capacity access) s.volumes }))

new_volume_sooner : (name : List ℕ) (pool file capacity : ℕ) (access : Access) (s : PoolRows) → are_sooner (refusal_of (define_volume name pool file capacity access s)) ≡ true
new_volume_sooner name pool file capacity access s =
    where_ok (is_some (row_at pool s.pools)) refusal.NotFound (volume_unless_there name pool file capacity access s) refl
    (unless_err (is_some (volume_named name s)) refusal.Exists (Ok (record s { volumes = with_numbered file (new_volume name pool capacity access) s.volumes })) refl refl)

file_sooner : (file : ℕ) (v : Inv) → are_sooner (file_bound file v) ≡ true
file_sooner file v = unless_sooner (nat_lt (max v.next_file (file + 1)) (2 ^ 32 - 1)) refusal.InventoryFull refl

files_sooner : (files : List ℕ) (v : Inv) → are_sooner (files_refused files v) ≡ true
files_sooner files v = unless_sooner (list_all (is_free_file v) files && all_later (λ a b. not (a == b)) files) bad_value refl

new_file_sooner : (file : ℕ) (v : Inv) → are_sooner (files_refused (file ∷ []) v ++ file_bound file v) ≡ true
new_file_sooner file v = both (files_refused (file ∷ []) v) (file_bound file v) (files_sooner (file ∷ []) v) (file_sooner file v)

store_causes : (c : PoolChange) (v : Inv) → are_sooner (refusal_of (store_after c v.next_pool v.stores)) ≡ true → are_sooner (store_bounds c v) ≡ true → are_sooner (store_refused c v) ≡ true
store_causes c v rows bounds = both (refusal_of (store_after c v.next_pool v.stores)) (store_bounds c v) rows bounds

store_sooner : (c : PoolChange) (v : Inv) → is_new_store c ≡ true → are_sooner (store_refused c v) ≡ true
store_sooner (store.DevClass two.Define class capacity) v b = store_causes (store.DevClass two.Define class capacity) v (new_class_sooner class capacity v.stores) refl
store_sooner (store.DevClass two.Delete class capacity) v b = absurd cc
store_sooner (store.Pool verb.Define name class kind rule) v b = store_causes (store.Pool verb.Define name class kind rule) v (new_pool_sooner v.next_pool name class kind rule v.stores)
    (both (collocation_refused class rule) (full_at v.next_pool (2 ^ 16)) (unless_sooner (not (rule.collocate && is_same_name disk class)) bad_value refl) (full_sooner v.next_pool (2 ^ 16)))
store_sooner (store.Pool verb.Update name class kind rule) v b = absurd cc
store_sooner (store.Pool verb.Delete name class kind rule) v b = absurd cc
store_sooner (store.Volume verb.Define name number file capacity access) v b = store_causes (store.Volume verb.Define name number file capacity access) v (new_volume_sooner name number file capacity access v.stores) (new_file_sooner file v)
store_sooner (store.Volume verb.Update name number file capacity access) v b = absurd cc
store_sooner (store.Volume verb.Delete name number file capacity access) v b = absurd cc

-- ---- versions and copies

new_scratch_sooner : (scratch : List ScratchVolume) (v : Inv) → are_sooner (scratch_refused scratch v) ≡ true
new_scratch_sooner scratch v =
    both (files_refused (map (λ (s : ScratchVolume). s.file) scratch) v) (flat_map (λ (s : ScratchVolume). file_bound s.file v) scratch) (files_sooner (map (λ (s : ScratchVolume). s.file) scratch) v)
    (each_sooner (λ (s : ScratchVolume). file_bound s.file v) (λ s. file_sooner s.file v) scratch)

object_sooner : (v : Inv) (object : ℕ) → are_sooner (object_refused v object) ≡ true
object_sooner v object =
    both (unless (is_new_object v object) bad_value) (unless (nat_lt (max v.next_object (object + 1)) (2 ^ 62)) refusal.InventoryFull) (unless_sooner (is_new_object v object) bad_value refl)
    (unless_sooner (nat_lt (max v.next_object (object + 1)) (2 ^ 62)) refusal.InventoryFull refl)

-- new objects, versions or held ones, with the volumes that are made for them
arrivals_sooner : (filespace : ℕ) (objects : List ℕ) (scratch : List ScratchVolume) (v : Inv) → are_sooner (new_refused filespace objects v ++ (scratch_refused scratch v ++ objects_refused objects v)) ≡ true
arrivals_sooner filespace objects scratch v =
    both (new_refused filespace objects v) (scratch_refused scratch v ++ objects_refused objects v)
    (both (filespace_there filespace v) (arrivals_refused objects v)
    (unless_sooner (is_some (filespace_at filespace v.clients.filespaces)) refusal.NotFound refl)
    (both (unless (name_once objects) bad_value) (unless (nat_le (length (versions v) + length objects) most_kept) refusal.InventoryFull)
    (unless_sooner (name_once objects) bad_value refl) (unless_sooner (nat_le (length (versions v) + length objects) most_kept) refusal.InventoryFull refl)))
    (both (scratch_refused scratch v) (objects_refused objects v) (new_scratch_sooner scratch v) (each_sooner (object_refused v) (object_sooner v) objects))

moves_sooner : (j : Journal) (items : List MovedCopy) (v : Inv) → are_sooner (move_refused j items v) ≡ true
moves_sooner j items v =
    both (unless (name_once (map (λ (i : MovedCopy). i.object) items)) bad_value) (flat_map (moved_refused j v) items) (unless_sooner (name_once (map (λ (i : MovedCopy). i.object) items)) bad_value refl)
    (each_sooner (moved_refused j v) (moved_sooner j v) items)

copy_list_sooner : (j : Journal) (items : List NewCopy) (v : Inv) → are_sooner (copy_list_refused j items v) ≡ true
copy_list_sooner j items v =
    both (unless (name_once (map (λ (i : NewCopy). i.object) items)) bad_value) (flat_map (copied_refused j v) items) (unless_sooner (name_once (map (λ (i : NewCopy). i.object) items)) bad_value refl)
    (each_sooner (copied_refused j v) (copied_sooner j v) items)

-- ---- database backups

after_sooner : (after : Option ℕ) (v : Inv) → are_sooner (after_refused after v) ≡ true
after_sooner None v = refl
after_sooner (Some file) v = unless_sooner (is_done (backup_at file v)) refusal.NotFound refl

-- ---- every transaction that brings items

pub sooner_causes : (j : Journal) (c : Change) (v : Inv) → brings_items c ≡ true → are_sooner (causes j c v) ≡ true
sooner_causes j (change.Day day) v b = absurd cc
sooner_causes j (change.Policy c) v b = policy_sooner c v b
sooner_causes j (change.Object c) v b = client_sooner c v b
sooner_causes j (change.Pool c) v b = store_sooner c v b
sooner_causes j (change.Backup c) v b = arrivals_sooner c.filespace (map (λ (i : NewVersion). i.object) c.items) c.scratch v
sooner_causes j (change.Hold c) v b = arrivals_sooner c.filespace (map (λ (i : NewHeldObject). i.object) c.items) c.scratch v
sooner_causes j (change.Rebind c) v b = absurd cc
sooner_causes j (change.Gone c) v b = absurd cc
sooner_causes j (change.Move c) v b = both (move_refused j c.items v) (scratch_refused c.scratch v) (moves_sooner j c.items v) (new_scratch_sooner c.scratch v)
sooner_causes j (change.Copy c) v b = both (copy_list_refused j c.items v) (scratch_refused c.scratch v) (copy_list_sooner j c.items v) (new_scratch_sooner c.scratch v)
sooner_causes j (change.DropCopies c) v b = absurd cc
sooner_causes j (change.Expire c) v b = absurd cc
sooner_causes j (change.Discard c) v b = absurd cc
sooner_causes j (change.Reuse file) v b = absurd cc
sooner_causes j (change.DbBegin file after) v b = both (after_refused after v) (files_refused (file ∷ []) v ++ file_bound file v) (after_sooner after v) (new_file_sooner file v)
sooner_causes j (change.DbEnd file) v b = absurd cc
sooner_causes j (change.DbDelete file) v b = absurd cc
