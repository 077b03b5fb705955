-- The refusals that a commit may be answered with: each cause that refuses a change is one of them, but for the reuse of a volume, which is a step of its own.
use Rattle.std.proofs.Common.{◌≡◌, ℕ, ◌+◌, ◌^◌, ◌-◌, max, Bool, true, false, cond, not, ◌&&◌, ◌||◌, if◌then◌else◌, List, [], ◌∷◌, ◌++◌, map, length, Option, Some, None, is_some, Result, Ok, Err, refl}
use Rattle.std.specs.Prelude.{◌==◌, nat_le, nat_lt}
use Rattle.std.specs.BTreeMap.{insert_entry}
use Rattle.std.specs.Cmp.Lexicographic.{slice_cmp}
use Rattle.std.specs.List.{flat_map, list_all}
use Rattle.std.specs.Option.{option_map_or}
use Rattle.std.specs.Map.{lookup, remove_entry}
use Rattle.std.specs.Ordering.{nat_cmp}
use Rattle.std.proofs.lemmas.Bool.{and_from}
use Rattle.kinds.specs.Names.{is_same_name}
use Rattle.kinds.specs.declared.rule.ArchiveRule.{ArchiveRule}
use Rattle.kinds.specs.declared.rule.BackupRule.{BackupRule}
use Rattle.kinds.specs.declared.segment.Digest.{Digest}
use Rattle.kinds.specs.Refusals.{bad_value, refusal_of, unless, used_by}
use Rattle.kinds.specs.Least.{lesser}
use Rattle.kinds.specs.declared.change.DefineOrDelete.{DefineOrDelete}
use Rattle.kinds.specs.declared.change.DefineOrDelete.TheVariants as two
use Rattle.kinds.specs.declared.change.ObjectChange.{ObjectChange}
use Rattle.kinds.specs.declared.change.ObjectChange.TheVariants as client
use Rattle.kinds.specs.declared.change.PolicyChange.{PolicyChange}
use Rattle.kinds.specs.declared.change.PolicyChange.TheVariants as policy
use Rattle.kinds.specs.declared.change.PoolChange.{PoolChange}
use Rattle.kinds.specs.declared.change.PoolChange.TheVariants as store
use Rattle.kinds.specs.declared.change.Verb.{Verb}
use Rattle.kinds.specs.declared.change.Verb.TheVariants as verb
use Rattle.kinds.specs.declared.pool.Access.{Access}
use Rattle.kinds.specs.declared.pool.PoolKind.{PoolKind}
use Rattle.kinds.specs.declared.pool.PoolRule.{PoolRule}
use Rattle.kinds.specs.declared.refusal.By.{By}
use Rattle.kinds.specs.declared.refusal.By.TheVariants as by
use Rattle.kinds.specs.declared.refusal.Refusal.{Refusal}
use Rattle.kinds.specs.declared.refusal.Refusal.TheVariants as refusal
use Rattle.entries.specs.change_items.declared.items.DiscardedVersion.{DiscardedVersion}
use Rattle.entries.specs.change_items.declared.items.DroppedCopy.{DroppedCopy}
use Rattle.entries.specs.change_items.declared.items.MovedCopy.{MovedCopy}
use Rattle.entries.specs.change_items.declared.items.NamedVersion.{NamedVersion}
use Rattle.entries.specs.change_items.declared.items.Rebinding.{Rebinding}
use Rattle.entries.specs.change_items.declared.reasons.DiscardReason.{DiscardReason}
use Rattle.entries.specs.change_items.declared.reasons.DiscardReason.TheVariants as because
use Rattle.entries.specs.change_items.declared.reasons.DropReason.{DropReason}
use Rattle.entries.specs.change_items.declared.reasons.DropReason.TheVariants as dropped
use Rattle.entries.specs.change_items.declared.items.NewCopy.{NewCopy}
use Rattle.entries.specs.change_items.declared.items.NewHeldObject.{NewHeldObject}
use Rattle.entries.specs.change_items.declared.items.NewVersion.{NewVersion}
use Rattle.entries.specs.change_items.declared.items.ScratchVolume.{ScratchVolume}
use Rattle.entries.specs.declared.change.Change.{Change}
use Rattle.entries.specs.declared.change.Change.TheVariants as change
use Rattle.inventory_rows.specs.policy_domains.Changes.{after, names_active}
use Rattle.inventory_rows.specs.policy_domains.Groups.{group_changed}
use Rattle.inventory_rows.specs.policy_domains.Rows.{DomainRow, SetRow, active_set, changed, changed_row, defined, deleted, row_of, with_row, within, without_row}
use Rattle.inventory_rows.specs.policy_domains.declared.classes.ManagementClass.{ManagementClass}
use Rattle.inventory_rows.specs.policy_domains.Sets.{activated, assigned, bare_class, class_changed, empty_domain, empty_set, in_sets, set_changed, to_activate}
use Rattle.inventory_rows.specs.object_rows.Changes.{by_filespace, by_object, filespaces_defined, filespaces_without, least_in, least_object, nodes_with, nodes_without, rows_changed, unless_used}
use Rattle.inventory_rows.specs.object_rows.Filespaces.{at_number, filespace_at, versions_at}
use Rattle.inventory_rows.specs.object_rows.Names.{filespace_named, filespace_of, node_named}
use Rattle.inventory_rows.specs.object_rows.Rows.{Rows, most_kept}
use Rattle.inventory_rows.specs.object_rows.declared.place.Node.{Node}
use Rattle.inventory_rows.specs.pool_rows.Changed.{changed as store_after}
use Rattle.inventory_rows.specs.pool_rows.Changes.{define_pool, define_volume, delete_filed, delete_numbered, is_bad_row, is_next_there, new_pool, new_volume, object_on, pool_before, unless_before, unless_filled, unless_held, update_filed, update_numbered, update_pool, volume_of_pool}
use Rattle.inventory_rows.specs.pool_rows.ClassChanges.{class_gone, define_class, delete_class, pool_of_class}
use Rattle.inventory_rows.specs.pool_rows.Hierarchy.{is_bad_hierarchy}
use Rattle.inventory_rows.specs.pool_rows.PoolRows.{PoolRows, class_capacity, pool_named, volume_named}
use Rattle.inventory_rows.specs.pool_tables.Rows.{named, row_at, with_row as with_numbered}
use Rattle.inventory_rows.specs.pool_tables.declared.pool.Pool.{Pool}
use Rattle.inventory_rows.specs.version_groups.Entries.{all_later, if_found, on_ok}
use Rattle.inventory_rows.specs.version_groups.Versions.{is_active}
use Rattle.inventory_rows.specs.version_groups.declared.groups.Filespace.{Filespace}
use Rattle.inventory_rows.specs.version_groups.declared.copies.CopyRow.{CopyRow}
use Rattle.inventory_rows.specs.version_groups.declared.versions.Version.{Version}
use Rattle.inventory_rows.specs.Search.{copy_in, filespace_of as filespace_kept, group, is_destination, is_primary, is_primary_kind, node_in, version, versions}
use Rattle.inventory_rows.specs.State.{Inv}
use Rattle.inventory_rules.specs.Backups.{after_refused, backup_at, is_done, is_unfinished}
use Rattle.inventory_rules.specs.Clients.{client_bounds, client_refused}
use Rattle.inventory_rules.specs.Common.{file_bound, files_refused, full_at, is_free_file}
use Rattle.inventory_rules.specs.Copies.{copied_refused, copy_list_refused, copy_refused, drop_reason_refused, drop_refused, dropped_refused, file_of, lies_elsewhere, lies_there, move_refused, moved_refused, named_drop_refused, placed_by, stale_copy, version_drop_refused}
use Rattle.inventory_rules.specs.Journal.{Journal}
use Rattle.inventory_rules.specs.Owed.{is_retained}
use Rattle.inventory_rules.specs.Policy.{destination_refused, domain_used, policy_refused}
use Rattle.inventory_rules.specs.Segments.{scratch_refused}
use Rattle.inventory_rules.specs.Stores.{access_refused, collocation_refused, pool_by_name, pool_of_volume, stays, store_bounds, store_refused}
use Rattle.inventory_rules.specs.Transactions.{causes}
use Rattle.inventory_rules.specs.Valid.{disk, may_have}
use Rattle.inventory_rules.specs.Versions.{all_lie_on, arrivals_refused, discard_reason_refused, discard_refused, discarded_refused, expire_refused, expired_refused, filespace_there, gone_or_unknown, gone_refused, in_use, is_in, is_new_object, is_under, name_once, named_gone_refused, new_refused, object_refused, objects_refused, of_version, paths_once, primary_lies_on, rebind_refused, rebinding_refused, stale_version}
use Rattle.inventory_laws.proofs.VolumeRows.{list_all-append}

-- a refusal of a commit's own
abbrev pub is_own : Refusal → Bool
is_own (refusal.BadValue at) = true
is_own refusal.NotFound = true
is_own refusal.Exists = true
is_own (refusal.InUse user) = true
is_own refusal.NoDefaultClass = true
is_own refusal.BadHierarchy = true
is_own (refusal.DayBack today given) = true
is_own (refusal.Busy holder) = true
is_own (refusal.Stale number) = true
is_own (refusal.Gone number) = true
is_own (refusal.DigestDiffers kept given) = true
is_own refusal.RecordFull = true
is_own refusal.InventoryFull = true
is_own _ = false

abbrev pub are_own : List Refusal → Bool
are_own es = list_all is_own es

both : (xs ys : List Refusal) → are_own xs ≡ true → are_own ys ≡ true → are_own (xs ++ ys) ≡ true
both xs ys a b = list_all-append is_own xs ys a b

unless_own : (b : Bool) (e : Refusal) → is_own e ≡ true → are_own (unless b e) ≡ true
unless_own true e h = refl
unless_own false e h = and_from (is_own e) true h refl

each_own : {X : Type 0} (f : X → List Refusal) → ((x : X) → are_own (f x) ≡ true) → (xs : List X) → are_own (flat_map f xs) ≡ true
each_own f all [] = refl
each_own f all (x ∷ xs) = both (f x) (flat_map f xs) (all x) (each_own f all xs)

-- ---- what the rows answer

unless_err : {S : Type 0} (b : Bool) (e : Refusal) (r : Result S Refusal) → is_own e ≡ true → are_own (refusal_of r) ≡ true → are_own (refusal_of (cond {A = Result S Refusal} b (Err e) r)) ≡ true
unless_err true e r h k = and_from (is_own e) true h refl
unless_err false e r h k = k

where_ok : {S : Type 0} (b : Bool) (e : Refusal) (r : Result S Refusal) → is_own e ≡ true → are_own (refusal_of r) ≡ true → are_own (refusal_of (cond {A = Result S Refusal} b r (Err e))) ≡ true
where_ok true e r h k = k
where_ok false e r h k = and_from (is_own e) true h refl

within_own : {A B : Type 0} (place : A → B) (r : Result A Refusal) → are_own (refusal_of r) ≡ true → are_own (refusal_of (within place r)) ≡ true
within_own place (Ok a) h = refl
within_own place (Err e) h = h

on_ok_own : {A B : Type 0} (place : A → B) (r : Result A Refusal) → are_own (refusal_of r) ≡ true → are_own (refusal_of (on_ok place r)) ≡ true
on_ok_own place (Ok a) h = refl
on_ok_own place (Err e) h = h

found_own : {A B : Type 0} (o : Option A) (step : A → Result B Refusal) → ((x : A) → are_own (refusal_of (step x)) ≡ true) → are_own (refusal_of (if_found o step)) ≡ true
found_own None step all = refl
found_own (Some x) step all = all x

changed_own : {V : Type 0} (name : List ℕ) (step : V → Result V Refusal) (rows : List (List ℕ × V)) → ((v : V) → are_own (refusal_of (step v)) ≡ true) → are_own (refusal_of (changed name step rows)) ≡ true
changed_own {V} name step rows all = go (row_of name rows) where
  go : (o : Option V) → are_own (refusal_of (changed_row name step rows o)) ≡ true
  go None = refl
  go (Some v) = within_own _ (step v) (all v)

-- ---- what isn't as it was named

gone_own : (o : Option ℕ) → is_own (gone_or_unknown o) ≡ true
gone_own None = refl
gone_own (Some n) = refl

stale_own : (o : Option ℕ) (c : Option CopyRow) → is_own (stale_copy o c) ≡ true
stale_own (Some n) c = refl
stale_own None (Some c) = refl
stale_own None None = refl

version_own : (j : Journal) (object : ℕ) (rule : Version → List Refusal) (o : Option Version) → ((w : Version) → are_own (rule w) ≡ true) → are_own (of_version j object rule o) ≡ true
version_own j object rule None all = and_from (is_own (gone_or_unknown (j.removed object))) true (gone_own (j.removed object)) refl
version_own j object rule (Some w) all = all w

moved_own : (j : Journal) (v : Inv) (i : MovedCopy) → are_own (moved_refused j v i) ≡ true
moved_own j v i = version_own j i.object (copy_refused j i.object i.from i.placed) (version i.object v) (λ w. unless_own _ (stale_copy (j.copy_changed i.object i.from) (copy_in i.from w)) (stale_own (j.copy_changed i.object i.from) (copy_in i.from w)))

copied_own : (j : Journal) (v : Inv) (i : NewCopy) → are_own (copied_refused j v i) ≡ true
copied_own j v i =
    version_own j i.object (λ w. unless (not (is_some (copy_in i.pool w))) (stale_copy (j.copy_changed i.object i.pool) (copy_in i.pool w))) (version i.object v)
    (λ w. unless_own _ (stale_copy (j.copy_changed i.object i.pool) (copy_in i.pool w)) (stale_own (j.copy_changed i.object i.pool) (copy_in i.pool w)))

-- ---- changes of the policy

abbrev with_retention : ℕ → DomainRow → Result DomainRow Refusal
with_retention days row = Ok (record { back_retention = days; sets = row.sets })

defined_own : {V : Type 0} (name : List ℕ) (v : V) (rows : List (List ℕ × V)) → are_own (refusal_of (defined name v rows)) ≡ true
defined_own name v rows = unless_err (is_some (row_of name rows)) refusal.Exists (Ok (with_row name v rows)) refl refl

abbrev with_sets : DomainRow → List (List ℕ × SetRow) → DomainRow
with_sets d sets = record { back_retention = d.back_retention; sets = sets }

in_sets_own : (step : List (List ℕ × SetRow) → Result (List (List ℕ × SetRow)) Refusal) → ((sets : List (List ℕ × SetRow)) → are_own (refusal_of (step sets)) ≡ true) → (d : DomainRow) → are_own (refusal_of (in_sets step d)) ≡ true
in_sets_own step all d = within_own (with_sets d) (step d.sets) (all d.sets)

abbrev with_classes : SetRow → List (List ℕ × ManagementClass) → SetRow
with_classes s classes = record { default_class = s.default_class; classes = classes }

class_own : (class : List ℕ) (s : SetRow) → are_own (refusal_of (class_changed two.Define class s)) ≡ true
class_own class s = within_own (with_classes s) (defined class bare_class s.classes) (defined_own class bare_class s.classes)

to_activate_own : (o : Option SetRow) → are_own (refusal_of (to_activate o)) ≡ true
to_activate_own None = refl
to_activate_own (Some s) = where_ok (is_some s.default_class) refusal.NoDefaultClass (Ok s) refl refl

abbrev with_active : DomainRow → SetRow → DomainRow
with_active d set = record { back_retention = d.back_retention; sets = with_row active_set set d.sets }

activated_own : (set : List ℕ) (d : DomainRow) → are_own (refusal_of (activated set d)) ≡ true
activated_own set d = within_own (with_active d) (to_activate (row_of set d.sets)) (to_activate_own (row_of set d.sets))

policy_causes : (c : PolicyChange) (v : Inv) → are_own (refusal_of (after c v.domains)) ≡ true → are_own (destination_refused c v ++ domain_used c v) ≡ true → are_own (policy_refused c v) ≡ true
policy_causes c v rows uses =
    both (unless (not (names_active c)) bad_value) (refusal_of (after c v.domains) ++ (destination_refused c v ++ domain_used c v)) (unless_own (not (names_active c)) bad_value refl)
    (both (refusal_of (after c v.domains)) (destination_refused c v ++ domain_used c v) rows uses)

deleted_own : {V : Type 0} (name : List ℕ) (rows : List (List ℕ × V)) → are_own (refusal_of (deleted name rows)) ≡ true
deleted_own name rows = where_ok (is_some (row_of name rows)) refusal.NotFound (Ok (without_row name rows)) refl refl

set_own : (two : DefineOrDelete) (set : List ℕ) (sets : List (List ℕ × SetRow)) → are_own (refusal_of (set_changed two set sets)) ≡ true
set_own two.Define set sets = defined_own set empty_set sets
set_own two.Delete set sets = deleted_own set sets

class_gone_own : (class : List ℕ) (s : SetRow) → are_own (refusal_of (class_changed two.Delete class s)) ≡ true
class_gone_own class s = within_own _ (deleted class s.classes) (deleted_own class s.classes)

in_class_own : (two : DefineOrDelete) (class : List ℕ) (s : SetRow) → are_own (refusal_of (class_changed two class s)) ≡ true
in_class_own two.Define class s = class_own class s
in_class_own two.Delete class s = class_gone_own class s

group_own : {R : Type 0} (change : Verb) (rule : R) (o : Option R) → are_own (refusal_of (group_changed change rule o)) ≡ true
group_own verb.Define rule None = refl
group_own verb.Define rule (Some old) = refl
group_own verb.Update rule None = refl
group_own verb.Update rule (Some old) = refl
group_own verb.Delete rule None = refl
group_own verb.Delete rule (Some old) = refl

-- a class whose backup group, or whose archive group, is changed
abbrev backup_changed : Verb → BackupRule → ManagementClass → Result ManagementClass Refusal
backup_changed change rule class = within (λ group. record { backup = group; archive = class.archive }) (group_changed change rule class.backup)

abbrev archive_changed : Verb → ArchiveRule → ManagementClass → Result ManagementClass Refusal
archive_changed change rule class = within (λ group. record { backup = class.backup; archive = group }) (group_changed change rule class.archive)

abbrev in_class : (class : List ℕ) → (ManagementClass → Result ManagementClass Refusal) → SetRow → Result SetRow Refusal
in_class class step s = within (with_classes s) (changed class step s.classes)

in_class_all : (class : List ℕ) (step : ManagementClass → Result ManagementClass Refusal) → ((m : ManagementClass) → are_own (refusal_of (step m)) ≡ true) → (s : SetRow) → are_own (refusal_of (in_class class step s)) ≡ true
in_class_all class step all s = within_own (with_classes s) (changed class step s.classes) (changed_own class step s.classes all)

backup_own : (change : Verb) (rule : BackupRule) (m : ManagementClass) → are_own (refusal_of (backup_changed change rule m)) ≡ true
backup_own change rule m = within_own _ (group_changed change rule m.backup) (group_own change rule m.backup)

archive_own : (change : Verb) (rule : ArchiveRule) (m : ManagementClass) → are_own (refusal_of (archive_changed change rule m)) ≡ true
archive_own change rule m = within_own _ (group_changed change rule m.archive) (group_own change rule m.archive)

assigned_own : (class : List ℕ) (s : SetRow) → are_own (refusal_of (assigned class s)) ≡ true
assigned_own class s = where_ok (is_some (row_of class s.classes)) refusal.NotFound (Ok _) refl refl

-- a change within a set of a domain
within_set_own : (domain set : List ℕ) (step : SetRow → Result SetRow Refusal) (v : Inv) → ((s : SetRow) → are_own (refusal_of (step s)) ≡ true) → are_own (refusal_of (changed domain (in_sets (changed set step)) v.domains)) ≡ true
within_set_own domain set step v all = changed_own domain (in_sets (changed set step)) v.domains (in_sets_own (changed set step) (λ sets. changed_own set step sets all))

used_own : {X : Type 0} (name : X → Refusal) (o : Option X) → ((x : X) → is_own (name x) ≡ true) → are_own (used_by name o) ≡ true
used_own name None all = refl
used_own name (Some x) all = and_from (is_own (name x)) true (all x) refl

policy_own : (c : PolicyChange) (v : Inv) → are_own (policy_refused c v) ≡ true
policy_own (policy.Domain verb.Define domain days) v = policy_causes (policy.Domain verb.Define domain days) v (defined_own domain (empty_domain days) v.domains) refl
policy_own (policy.Domain verb.Update domain days) v = policy_causes (policy.Domain verb.Update domain days) v (changed_own domain (with_retention days) v.domains (λ row. refl)) refl
policy_own (policy.Domain verb.Delete domain days) v =
    policy_causes (policy.Domain verb.Delete domain days) v (deleted_own domain v.domains) (used_own (λ n. refusal.InUse (by.Node n)) (node_in domain v) (λ n. refl))
policy_own (policy.Set two domain set) v = policy_causes (policy.Set two domain set) v (changed_own domain (in_sets (set_changed two set)) v.domains (in_sets_own (set_changed two set) (set_own two set))) refl
policy_own (policy.Class two domain set class) v = policy_causes (policy.Class two domain set class) v (within_set_own domain set (class_changed two class) v (in_class_own two class)) refl
policy_own (policy.Group verb.Define domain set class rule) v = policy_causes (policy.Group verb.Define domain set class rule) v
    (within_set_own domain set (in_class class (backup_changed verb.Define rule)) v (in_class_all class (backup_changed verb.Define rule) (backup_own verb.Define rule))) (both (unless (is_primary rule.destination v) refusal.NotFound) [] (unless_own (is_primary rule.destination v) refusal.NotFound refl) refl)
policy_own (policy.Group verb.Update domain set class rule) v = policy_causes (policy.Group verb.Update domain set class rule) v
    (within_set_own domain set (in_class class (backup_changed verb.Update rule)) v (in_class_all class (backup_changed verb.Update rule) (backup_own verb.Update rule))) (both (unless (is_primary rule.destination v) refusal.NotFound) [] (unless_own (is_primary rule.destination v) refusal.NotFound refl) refl)
policy_own (policy.Group verb.Delete domain set class rule) v = policy_causes (policy.Group verb.Delete domain set class rule) v
    (within_set_own domain set (in_class class (backup_changed verb.Delete rule)) v (in_class_all class (backup_changed verb.Delete rule) (backup_own verb.Delete rule))) refl
policy_own (policy.ArchiveGroup verb.Define domain set class rule) v = policy_causes (policy.ArchiveGroup verb.Define domain set class rule) v
    (within_set_own domain set (in_class class (archive_changed verb.Define rule)) v (in_class_all class (archive_changed verb.Define rule) (archive_own verb.Define rule))) (both (unless (is_primary rule.destination v) refusal.NotFound) [] (unless_own (is_primary rule.destination v) refusal.NotFound refl) refl)
policy_own (policy.ArchiveGroup verb.Update domain set class rule) v = policy_causes (policy.ArchiveGroup verb.Update domain set class rule) v
    (within_set_own domain set (in_class class (archive_changed verb.Update rule)) v (in_class_all class (archive_changed verb.Update rule) (archive_own verb.Update rule))) (both (unless (is_primary rule.destination v) refusal.NotFound) [] (unless_own (is_primary rule.destination v) refusal.NotFound refl) refl)
policy_own (policy.ArchiveGroup verb.Delete domain set class rule) v = policy_causes (policy.ArchiveGroup verb.Delete domain set class rule) v
    (within_set_own domain set (in_class class (archive_changed verb.Delete rule)) v (in_class_all class (archive_changed verb.Delete rule) (archive_own verb.Delete rule))) refl
policy_own (policy.Assign domain set class) v = policy_causes (policy.Assign domain set class) v (within_set_own domain set (assigned class) v (assigned_own class)) refl
policy_own (policy.Activate domain set) v = policy_causes (policy.Activate domain set) v (changed_own domain (activated set) v.domains (activated_own set)) refl

-- ---- nodes and filespaces

full_own : (next bound : ℕ) → are_own (full_at next bound) ≡ true
full_own next bound = unless_own (nat_lt (next + 1) bound) refusal.InventoryFull refl

abbrev with_node_rows : Rows → List (ℕ × Node) → Rows
with_node_rows rows nodes = record { nodes = nodes; filespaces = rows.filespaces; held = rows.held }

abbrev new_node : List ℕ → List ℕ → Node
new_node name domain = record { name = name; domain = domain }

nodes_own : (name domain : List ℕ) (number : ℕ) (nodes : List (ℕ × Node)) → are_own (refusal_of (nodes_with name domain number nodes)) ≡ true
nodes_own name domain number nodes = unless_err (is_some (node_named name nodes)) refusal.Exists (Ok (insert_entry nat_cmp nodes number (new_node name domain))) refl refl

abbrev with_filespace_rows : Rows → List (ℕ × Filespace) → Rows
with_filespace_rows rows filespaces = record { nodes = rows.nodes; filespaces = filespaces; held = rows.held }

abbrev new_filespace : ℕ → List ℕ → Filespace
new_filespace node name = record { node = node; name = name; groups = [] }

abbrev filespace_given : ℕ → List ℕ → ℕ → List (ℕ × Filespace) → Result (List (ℕ × Filespace)) Refusal
filespace_given node name number filespaces = cond (is_some (filespace_named node name filespaces)) (Err refusal.Exists) (Ok (insert_entry nat_cmp filespaces number (new_filespace node name)))

filespaces_own : (node : ℕ) (name : List ℕ) (number : ℕ) (nodes : List (ℕ × Node)) (filespaces : List (ℕ × Filespace)) → are_own (refusal_of (filespaces_defined node name number nodes filespaces)) ≡ true
filespaces_own node name number nodes filespaces =
    found_own (lookup (at_number node) nodes) (λ (n : Node). filespace_given node name number filespaces)
    (λ n. unless_err (is_some (filespace_named node name filespaces)) refusal.Exists (Ok (insert_entry nat_cmp filespaces number (new_filespace node name))) refl refl)

unused_own : {A : Type 0} (o : Option By) (rows : A) → are_own (refusal_of (unless_used o rows)) ≡ true
unused_own None rows = refl
unused_own (Some user) rows = refl

client_own : (c : ObjectChange) (v : Inv) → are_own (client_refused c v) ≡ true
client_own (client.Node two.Define name domain) v =
    both (refusal_of (rows_changed (client.Node two.Define name domain) v.next_node v.clients)) (client_bounds (client.Node two.Define name domain) v)
    (on_ok_own (with_node_rows v.clients) (nodes_with name domain v.next_node v.clients.nodes) (nodes_own name domain v.next_node v.clients.nodes))
    (both (unless (is_some (row_of domain v.domains)) refusal.NotFound) (full_at v.next_node (2 ^ 32 - 1)) (unless_own (is_some (row_of domain v.domains)) refusal.NotFound refl) (full_own v.next_node (2 ^ 32 - 1)))
client_own (client.Node two.Delete name domain) v =
    both (refusal_of (rows_changed (client.Node two.Delete name domain) v.next_node v.clients)) []
    (on_ok_own (with_node_rows v.clients) (nodes_without name v.clients.filespaces v.clients.nodes)
    (found_own (node_named name v.clients.nodes) (λ number. unless_used (by_filespace (filespace_of number v.clients.filespaces)) (remove_entry (at_number number) v.clients.nodes))
    (λ number. unused_own (by_filespace (filespace_of number v.clients.filespaces)) (remove_entry (at_number number) v.clients.nodes)))) refl
client_own (client.Filespace two.Define node name filespace) v =
    both (refusal_of (rows_changed (client.Filespace two.Define node name filespace) v.next_node v.clients)) (client_bounds (client.Filespace two.Define node name filespace) v)
    (on_ok_own (with_filespace_rows v.clients) (filespaces_defined node name filespace v.clients.nodes v.clients.filespaces) (filespaces_own node name filespace v.clients.nodes v.clients.filespaces))
    (both (unless (filespace == v.next_filespace) bad_value) (full_at v.next_filespace (2 ^ 32 - 1)) (unless_own (filespace == v.next_filespace) bad_value refl) (full_own v.next_filespace (2 ^ 32 - 1)))
client_own (client.Filespace two.Delete node name filespace) v =
    both (refusal_of (rows_changed (client.Filespace two.Delete node name filespace) v.next_node v.clients)) []
    (on_ok_own (with_filespace_rows v.clients) (filespaces_without filespace v.clients.held v.clients.filespaces)
    (found_own (filespace_at filespace v.clients.filespaces) (λ f. unless_used (by_object (lesser (least_object f.groups) (least_in filespace v.clients.held))) (remove_entry (at_number filespace) v.clients.filespaces))
    (λ f. unused_own (by_object (lesser (least_object f.groups) (least_in filespace v.clients.held))) (remove_entry (at_number filespace) v.clients.filespaces)))) refl

-- ---- device classes, pools and volumes

new_class_own : (class : List ℕ) (capacity : ℕ) (s : PoolRows) → are_own (refusal_of (define_class class capacity s)) ≡ true
new_class_own class capacity s =
    unless_err (is_some (named class s.classes)) refusal.Exists (Ok (record s { classes = insert_entry (slice_cmp nat_cmp) s.classes class (Some capacity) })) refl refl

abbrev pool_unless_bad : ℕ → List ℕ → List ℕ → PoolKind → PoolRule → PoolRows → Result PoolRows Refusal
pool_unless_bad number name class kind rule s = cond (is_bad_hierarchy number class kind rule.next s) (Err refusal.BadHierarchy) (Ok (record s { pools = with_numbered number (new_pool name class kind rule) s.pools }))

abbrev pool_unless_there : ℕ → List ℕ → List ℕ → PoolKind → PoolRule → PoolRows → Result PoolRows Refusal
pool_unless_there number name class kind rule s = cond (is_some (pool_named name s)) (Err refusal.Exists) (pool_unless_bad number name class kind rule s)

new_pool_own : (number : ℕ) (name class : List ℕ) (kind : PoolKind) (rule : PoolRule) (s : PoolRows) → are_own (refusal_of (define_pool number name class kind rule s)) ≡ true
new_pool_own number name class kind rule s =
    where_ok (is_some (named class s.classes) && is_next_there rule.next s) refusal.NotFound (pool_unless_there number name class kind rule s) refl
    (unless_err (is_some (pool_named name s)) refusal.Exists (pool_unless_bad number name class kind rule s) refl
    (unless_err (is_bad_hierarchy number class kind rule.next s) refusal.BadHierarchy (Ok (record s { pools = with_numbered number (new_pool name class kind rule) s.pools })) refl refl))

abbrev volume_unless_there : List ℕ → ℕ → ℕ → ℕ → Access → PoolRows → Result PoolRows Refusal
volume_unless_there name pool file capacity access s = cond (is_some (volume_named name s)) (Err refusal.Exists) (Ok (record s { volumes = with_numbered file (new_volume name pool capacity access) s.volumes }))

new_volume_own : (name : List ℕ) (pool file capacity : ℕ) (access : Access) (s : PoolRows) → are_own (refusal_of (define_volume name pool file capacity access s)) ≡ true
new_volume_own name pool file capacity access s =
    where_ok (is_some (row_at pool s.pools)) refusal.NotFound (volume_unless_there name pool file capacity access s) refl
    (unless_err (is_some (volume_named name s)) refusal.Exists (Ok (record s { volumes = with_numbered file (new_volume name pool capacity access) s.volumes })) refl refl)

file_own : (file : ℕ) (v : Inv) → are_own (file_bound file v) ≡ true
file_own file v = unless_own (nat_lt (max v.next_file (file + 1)) (2 ^ 32 - 1)) refusal.InventoryFull refl

files_own : (files : List ℕ) (v : Inv) → are_own (files_refused files v) ≡ true
files_own files v = unless_own (list_all (is_free_file v) files && all_later (λ a b. not (a == b)) files) bad_value refl

new_file_own : (file : ℕ) (v : Inv) → are_own (files_refused (file ∷ []) v ++ file_bound file v) ≡ true
new_file_own file v = both (files_refused (file ∷ []) v) (file_bound file v) (files_own (file ∷ []) v) (file_own file v)

store_causes : (c : PoolChange) (v : Inv) → are_own (refusal_of (store_after c v.next_pool v.stores)) ≡ true → are_own (store_bounds c v) ≡ true → are_own (store_refused c v) ≡ true
store_causes c v rows bounds = both (refusal_of (store_after c v.next_pool v.stores)) (store_bounds c v) rows bounds

class_left_own : (class : List ℕ) (s : PoolRows) (o : Option ℕ) → are_own (refusal_of (class_gone class s o)) ≡ true
class_left_own class s None = refl
class_left_own class s (Some pool) = refl

old_class_own : (class : List ℕ) (s : PoolRows) → are_own (refusal_of (delete_class class s)) ≡ true
old_class_own class s = where_ok (is_some (class_capacity class s)) refusal.NotFound (class_gone class s (pool_of_class class s)) refl (class_left_own class s (pool_of_class class s))

settings_own : (rule : PoolRule) (s : PoolRows) (o : Option ℕ) → are_own (refusal_of (update_numbered rule s o)) ≡ true
settings_own rule s None = refl
settings_own rule s (Some number) = unless_err (is_bad_row number rule.next s (row_at number s.pools)) refusal.BadHierarchy (Ok _) refl refl

pool_updated_own : (name : List ℕ) (rule : PoolRule) (s : PoolRows) → are_own (refusal_of (update_pool name rule s)) ≡ true
pool_updated_own name rule s = where_ok (is_next_there rule.next s) refusal.NotFound (update_numbered rule s (pool_named name s)) refl (settings_own rule s (pool_named name s))

before_own : (number : ℕ) (s : PoolRows) (o : Option ℕ) → are_own (refusal_of (unless_before number s o)) ≡ true
before_own number s None = refl
before_own number s (Some pool) = refl

filled_own : (number : ℕ) (s : PoolRows) (o : Option ℕ) → are_own (refusal_of (unless_filled number s o)) ≡ true
filled_own number s None = before_own number s (pool_before number s)
filled_own number s (Some file) = refl

pool_deleted_own : (s : PoolRows) (o : Option ℕ) → are_own (refusal_of (delete_numbered s o)) ≡ true
pool_deleted_own s None = refl
pool_deleted_own s (Some number) = filled_own number s (volume_of_pool number s)

volume_updated_own : (access : Access) (s : PoolRows) (o : Option ℕ) → are_own (refusal_of (update_filed access s o)) ≡ true
volume_updated_own access s None = refl
volume_updated_own access s (Some file) = refl

emptied_own : (file : ℕ) (s : PoolRows) (o : Option ℕ) → are_own (refusal_of (unless_held file s o)) ≡ true
emptied_own file s None = refl
emptied_own file s (Some object) = refl

volume_deleted_own : (s : PoolRows) (o : Option ℕ) → are_own (refusal_of (delete_filed s o)) ≡ true
volume_deleted_own s None = refl
volume_deleted_own s (Some file) = emptied_own file s (object_on (row_at file s.volumes))

collocation_own : (class : List ℕ) (rule : PoolRule) → are_own (collocation_refused class rule) ≡ true
collocation_own class rule = unless_own (not (rule.collocate && is_same_name disk class)) bad_value refl

used_destination_own : (v : Inv) (o : Option ℕ) → are_own (option_map_or (λ n. unless (not (is_destination n v)) (refusal.InUse by.Destination)) o []) ≡ true
used_destination_own v None = refl
used_destination_own v (Some n) = unless_own (not (is_destination n v)) (refusal.InUse by.Destination) refl

access_own : (access : Access) (o : Option Pool) → are_own (access_refused access o) ≡ true
access_own access None = refl
access_own access (Some p) = unless_own (may_have access (is_primary_kind p.kind)) bad_value refl

store_own : (c : PoolChange) (v : Inv) → are_own (store_refused c v) ≡ true
store_own (store.DevClass two.Define class capacity) v = store_causes (store.DevClass two.Define class capacity) v (new_class_own class capacity v.stores) refl
store_own (store.DevClass two.Delete class capacity) v = store_causes (store.DevClass two.Delete class capacity) v (old_class_own class v.stores) refl
store_own (store.Pool verb.Define name class kind rule) v = store_causes (store.Pool verb.Define name class kind rule) v (new_pool_own v.next_pool name class kind rule v.stores)
    (both (collocation_refused class rule) (full_at v.next_pool (2 ^ 16)) (collocation_own class rule) (full_own v.next_pool (2 ^ 16)))
store_own (store.Pool verb.Update name class kind rule) v = store_causes (store.Pool verb.Update name class kind rule) v (pool_updated_own name rule v.stores)
    (both (unless (stays class kind (pool_by_name name v)) bad_value) (collocation_refused class rule) (unless_own (stays class kind (pool_by_name name v)) bad_value refl) (collocation_own class rule))
store_own (store.Pool verb.Delete name class kind rule) v = store_causes (store.Pool verb.Delete name class kind rule) v (pool_deleted_own v.stores (pool_named name v.stores)) (used_destination_own v (pool_named name v.stores))
store_own (store.Volume verb.Define name number file capacity access) v = store_causes (store.Volume verb.Define name number file capacity access) v (new_volume_own name number file capacity access v.stores) (new_file_own file v)
store_own (store.Volume verb.Update name number file capacity access) v = store_causes (store.Volume verb.Update name number file capacity access) v (volume_updated_own access v.stores (volume_named name v.stores)) (access_own access (pool_of_volume name v))
store_own (store.Volume verb.Delete name number file capacity access) v = store_causes (store.Volume verb.Delete name number file capacity access) v (volume_deleted_own v.stores (volume_named name v.stores)) refl

-- ---- versions and copies

new_scratch_own : (scratch : List ScratchVolume) (v : Inv) → are_own (scratch_refused scratch v) ≡ true
new_scratch_own scratch v =
    both (files_refused (map (λ (s : ScratchVolume). s.file) scratch) v) (flat_map (λ (s : ScratchVolume). file_bound s.file v) scratch) (files_own (map (λ (s : ScratchVolume). s.file) scratch) v)
    (each_own (λ (s : ScratchVolume). file_bound s.file v) (λ s. file_own s.file v) scratch)

object_own : (v : Inv) (object : ℕ) → are_own (object_refused v object) ≡ true
object_own v object =
    both (unless (is_new_object v object) bad_value) (unless (nat_lt (max v.next_object (object + 1)) (2 ^ 62)) refusal.InventoryFull) (unless_own (is_new_object v object) bad_value refl)
    (unless_own (nat_lt (max v.next_object (object + 1)) (2 ^ 62)) refusal.InventoryFull refl)

-- new objects, versions or held ones, with the volumes that are made for them
arrivals_own : (filespace : ℕ) (objects : List ℕ) (scratch : List ScratchVolume) (v : Inv) → are_own (new_refused filespace objects v ++ (scratch_refused scratch v ++ objects_refused objects v)) ≡ true
arrivals_own filespace objects scratch v =
    both (new_refused filespace objects v) (scratch_refused scratch v ++ objects_refused objects v)
    (both (filespace_there filespace v) (arrivals_refused objects v)
    (unless_own (is_some (filespace_at filespace v.clients.filespaces)) refusal.NotFound refl)
    (both (unless (name_once objects) bad_value) (unless (nat_le (length (versions v) + length objects) most_kept) refusal.InventoryFull)
    (unless_own (name_once objects) bad_value refl) (unless_own (nat_le (length (versions v) + length objects) most_kept) refusal.InventoryFull refl)))
    (both (scratch_refused scratch v) (objects_refused objects v) (new_scratch_own scratch v) (each_own (object_refused v) (object_own v) objects))

moves_own : (j : Journal) (items : List MovedCopy) (v : Inv) → are_own (move_refused j items v) ≡ true
moves_own j items v =
    both (unless (name_once (map (λ (i : MovedCopy). i.object) items)) bad_value) (flat_map (moved_refused j v) items) (unless_own (name_once (map (λ (i : MovedCopy). i.object) items)) bad_value refl)
    (each_own (moved_refused j v) (moved_own j v) items)

copy_list_own : (j : Journal) (items : List NewCopy) (v : Inv) → are_own (copy_list_refused j items v) ≡ true
copy_list_own j items v =
    both (unless (name_once (map (λ (i : NewCopy). i.object) items)) bad_value) (flat_map (copied_refused j v) items) (unless_own (name_once (map (λ (i : NewCopy). i.object) items)) bad_value refl)
    (each_own (copied_refused j v) (copied_own j v) items)

stale_version_own : (removed changed : Option ℕ) → is_own (stale_version removed changed) ≡ true
stale_version_own (Some n) changed = refl
stale_version_own None (Some n) = refl
stale_version_own None None = refl

one_own : (e : Refusal) → is_own e ≡ true → are_own (e ∷ []) ≡ true
one_own e h = and_from (is_own e) true h refl

rebinds_own : (j : Journal) (filespace : ℕ) (items : List Rebinding) (v : Inv) → are_own (rebind_refused j filespace items v) ≡ true
rebinds_own j filespace items v =
    both (unless (paths_once (map (λ (i : Rebinding). i.path) items)) bad_value) (flat_map (rebinding_refused j filespace v) items) (unless_own (paths_once (map (λ (i : Rebinding). i.path) items)) bad_value refl)
    (each_own (rebinding_refused j filespace v) (λ i. unless_own (is_some (group filespace i.path v)) (gone_or_unknown (j.path_emptied filespace i.path)) (gone_own (j.path_emptied filespace i.path))) items)

gones_own : (j : Journal) (filespace : ℕ) (items : List NamedVersion) (v : Inv) → are_own (gone_refused j filespace items v) ≡ true
gones_own j filespace items v =
    both (unless (name_once (map (λ (i : NamedVersion). i.object) items)) bad_value) (flat_map (named_gone_refused j filespace v) items) (unless_own (name_once (map (λ (i : NamedVersion). i.object) items)) bad_value refl)
    (each_own (named_gone_refused j filespace v) (λ i. unless_own (is_active i.object (versions_at filespace i.path v.clients.filespaces)) (stale_version (j.removed i.object) (j.changed i.object)) (stale_version_own (j.removed i.object) (j.changed i.object))) items)

expired_own : (j : Journal) (filespace : ℕ) (v : Inv) (i : NamedVersion) → are_own (expired_refused j filespace v i) ≡ true
expired_own j filespace v i = go (is_under filespace i.path i.object v) where
  go : (b : Bool) → are_own (if b then unless (not (is_retained filespace i.path i.object v)) (refusal.InUse (by.Object i.object)) else gone_or_unknown (j.removed i.object) ∷ []) ≡ true
  go true = unless_own (not (is_retained filespace i.path i.object v)) (refusal.InUse (by.Object i.object)) refl
  go false = one_own (gone_or_unknown (j.removed i.object)) (gone_own (j.removed i.object))

expires_own : (j : Journal) (filespace : ℕ) (items : List NamedVersion) (v : Inv) → are_own (expire_refused j filespace items v) ≡ true
expires_own j filespace items v =
    both (unless (name_once (map (λ (i : NamedVersion). i.object) items)) bad_value) (flat_map (expired_refused j filespace v) items) (unless_own (name_once (map (λ (i : NamedVersion). i.object) items)) bad_value refl)
    (each_own (expired_refused j filespace v) (expired_own j filespace v) items)

discarded_own : (reason : DiscardReason) (object : ℕ) (found : Digest) (w : Version) (v : Inv) → are_own (discard_reason_refused reason object found w v) ≡ true
discarded_own (because.Audit file) object found w v =
    both (unless (all_lie_on file w) (in_use object)) (unless (not (is_same_name w.digest.0 found.0)) bad_value) (unless_own (all_lie_on file w) (in_use object) refl)
    (unless_own (not (is_same_name w.digest.0 found.0)) bad_value refl)
discarded_own (because.Volume file) object found w v = unless_own (primary_lies_on file w v || all_lie_on file w) (in_use object) refl
discarded_own (because.Filespace filespace) object found w v = unless_own (is_in filespace (filespace_kept object v)) refusal.NotFound refl

discards_own : (j : Journal) (reason : DiscardReason) (items : List DiscardedVersion) (v : Inv) → are_own (discard_refused j reason items v) ≡ true
discards_own j reason items v =
    both (unless (name_once (map (λ (i : DiscardedVersion). i.object) items)) bad_value) (flat_map (discarded_refused j reason v) items) (unless_own (name_once (map (λ (i : DiscardedVersion). i.object) items)) bad_value refl)
    (each_own (discarded_refused j reason v) (λ i. version_own j i.object (λ w. discard_reason_refused reason i.object i.found w v) (version i.object v) (λ w. discarded_own reason i.object i.found w v)) items)

reason_own : (reason : DropReason) (pool : ℕ) (kept found : Digest) (v : Inv) → are_own (drop_reason_refused reason pool kept found v) ≡ true
reason_own (dropped.Audit file) pool kept found v = unless_own (not (is_same_name kept.0 found.0)) bad_value refl
reason_own (dropped.Volume file) pool kept found v = unless_own (not (is_primary pool v)) bad_value refl

named_drop_own : (j : Journal) (reason : DropReason) (i : DroppedCopy) (w : Version) → are_own (named_drop_refused j reason i w) ≡ true
named_drop_own j reason i w = go (placed_by i.placed (copy_in i.pool w)) where
  go : (b : Bool) → are_own (if b then unless (lies_there (file_of reason) (copy_in i.pool w)) refusal.NotFound else stale_copy (j.copy_changed i.object i.pool) (copy_in i.pool w) ∷ []) ≡ true
  go true = unless_own (lies_there (file_of reason) (copy_in i.pool w)) refusal.NotFound refl
  go false = one_own (stale_copy (j.copy_changed i.object i.pool) (copy_in i.pool w)) (stale_own (j.copy_changed i.object i.pool) (copy_in i.pool w))

version_drop_own : (j : Journal) (reason : DropReason) (v : Inv) (i : DroppedCopy) (w : Version) → are_own (version_drop_refused j reason v i w) ≡ true
version_drop_own j reason v i w =
    both (named_drop_refused j reason i w) (unless (lies_elsewhere i.pool w.copies) (refusal.InUse (by.Object i.object)) ++ drop_reason_refused reason i.pool w.digest i.found v) (named_drop_own j reason i w)
    (both (unless (lies_elsewhere i.pool w.copies) (refusal.InUse (by.Object i.object))) (drop_reason_refused reason i.pool w.digest i.found v) (unless_own (lies_elsewhere i.pool w.copies) (refusal.InUse (by.Object i.object)) refl)
    (reason_own reason i.pool w.digest i.found v))

drops_own : (j : Journal) (reason : DropReason) (items : List DroppedCopy) (v : Inv) → are_own (drop_refused j reason items v) ≡ true
drops_own j reason items v =
    both (unless (name_once (map (λ (i : DroppedCopy). i.object) items)) bad_value) (flat_map (dropped_refused j reason v) items) (unless_own (name_once (map (λ (i : DroppedCopy). i.object) items)) bad_value refl)
    (each_own (dropped_refused j reason v) (λ i. version_own j i.object (version_drop_refused j reason v i) (version i.object v) (version_drop_own j reason v i)) items)

-- ---- database backups

after_own : (after : Option ℕ) (v : Inv) → are_own (after_refused after v) ≡ true
after_own None v = refl
after_own (Some file) v = unless_own (is_done (backup_at file v)) refusal.NotFound refl

-- ---- every change but the reuse of a volume

abbrev pub is_reuse : Change → Bool
is_reuse (change.Reuse file) = true
is_reuse _ = false

pub own_causes : (j : Journal) (c : Change) (v : Inv) → is_reuse c ≡ false → are_own (causes j c v) ≡ true
own_causes j (change.Day day) v b = unless_own (nat_le v.today day) (refusal.DayBack v.today day) refl
own_causes j (change.Policy c) v b = policy_own c v
own_causes j (change.Object c) v b = client_own c v
own_causes j (change.Pool c) v b = store_own c v
own_causes j (change.Backup c) v b = arrivals_own c.filespace (map (λ (i : NewVersion). i.object) c.items) c.scratch v
own_causes j (change.Hold c) v b = arrivals_own c.filespace (map (λ (i : NewHeldObject). i.object) c.items) c.scratch v
own_causes j (change.Rebind c) v b = rebinds_own j c.filespace c.items v
own_causes j (change.Gone c) v b = gones_own j c.filespace c.items v
own_causes j (change.Move c) v b = both (move_refused j c.items v) (scratch_refused c.scratch v) (moves_own j c.items v) (new_scratch_own c.scratch v)
own_causes j (change.Copy c) v b = both (copy_list_refused j c.items v) (scratch_refused c.scratch v) (copy_list_own j c.items v) (new_scratch_own c.scratch v)
own_causes j (change.DropCopies c) v b = drops_own j c.reason c.items v
own_causes j (change.Expire c) v b = expires_own j c.filespace c.items v
own_causes j (change.Discard c) v b = discards_own j c.reason c.items v
own_causes j (change.Reuse file) v b = absurd cc
own_causes j (change.DbBegin file after) v b = both (after_refused after v) (files_refused (file ∷ []) v ++ file_bound file v) (after_own after v) (new_file_own file v)
own_causes j (change.DbEnd file) v b = unless_own (is_unfinished (backup_at file v)) refusal.NotFound refl
own_causes j (change.DbDelete file) v b = unless_own (is_some (backup_at file v)) refusal.NotFound refl
