-- What the database and a command's own words refuse ends no run.
use Rattle.std.proofs.Common.{◌≡◌, ℕ, ◌+◌, ◌-◌, ◌^◌, ◌==◌, max, ◌&&◌, not, nat_le, nat_lt, is_some, Bool, true, false, if◌then◌else◌, List, [], ◌∷◌, ◌++◌, map, length, Option, None, Some, Result, Ok, Err, refl, subst}
use Rattle.std.proofs.lemmas.Option.{same_Some}
use Rattle.std.specs.BTreeMap.{insert_entry}
use Rattle.std.specs.Cmp.Lexicographic.{slice_cmp}
use Rattle.std.specs.List.{AllByRecursion, flat_map, list_all}
use Rattle.std.specs.Map.{lookup, remove_entry}
use Rattle.std.specs.Option.{option_map_or}
use Rattle.std.specs.Ordering.{nat_cmp}
use Rattle.kinds.specs.Names.{is_same_name}
use Rattle.kinds.specs.Refusals.{bad_value, foremost, refusal_of, unless, used_by}
use Rattle.kinds.specs.declared.change.DefineOrDelete.{DefineOrDelete}
use Rattle.kinds.specs.declared.change.DefineOrDelete.TheVariants as two
use Rattle.kinds.specs.declared.change.ObjectChange.{ObjectChange}
use Rattle.kinds.specs.declared.change.ObjectChange.TheVariants as client
use Rattle.kinds.specs.declared.change.PolicyChange.{PolicyChange}
use Rattle.kinds.specs.declared.change.PolicyChange.TheVariants as policy
use Rattle.kinds.specs.declared.change.PoolChange.{PoolChange}
use Rattle.kinds.specs.declared.change.PoolChange.TheVariants as store
use Rattle.kinds.specs.declared.change.Verb.{Verb}
use Rattle.kinds.specs.declared.change.Verb.TheVariants as verb
use Rattle.kinds.specs.declared.pool.Access.{Access}
use Rattle.kinds.specs.declared.pool.PoolKind.{PoolKind}
use Rattle.kinds.specs.declared.pool.PoolRule.{PoolRule}
use Rattle.kinds.specs.declared.refusal.By.{By}
use Rattle.kinds.specs.declared.refusal.By.TheVariants as by
use Rattle.kinds.specs.declared.refusal.Refusal.{Refusal}
use Rattle.kinds.specs.declared.refusal.Refusal.TheVariants as refused
use Rattle.kinds.specs.declared.rule.ArchiveRule.{ArchiveRule}
use Rattle.kinds.specs.declared.rule.BackupRule.{BackupRule}
use Rattle.entries.specs.change_items.declared.items.ScratchVolume.{ScratchVolume}
use Rattle.entries.specs.declared.change.Change.{Change}
use Rattle.entries.specs.declared.change.Change.TheVariants as change
use Rattle.inventory_rows.specs.object_rows.Changes.{by_filespace, filespaces_defined, filespaces_without, nodes_with, nodes_without, rows_changed, unless_used}
use Rattle.inventory_rows.specs.object_rows.Filespaces.{at_number, filespace_at}
use Rattle.inventory_rows.specs.object_rows.Names.{filespace_named, filespace_of, node_named}
use Rattle.inventory_rows.specs.object_rows.Rows.{Rows, most_kept}
use Rattle.inventory_rows.specs.policy_domains.Changes.{after, domain_changed, names_active}
use Rattle.inventory_rows.specs.policy_domains.Groups.{group_changed}
use Rattle.inventory_rows.specs.policy_domains.Rows.{DomainRow, SetRow, changed, changed_row, defined, deleted, row_of, with_row, with_value, within, without_row}
use Rattle.inventory_rows.specs.policy_domains.Sets.{activated, assigned, bare_class, class_changed, empty_domain, empty_set, in_sets, set_changed, to_activate}
use Rattle.inventory_rows.specs.policy_domains.declared.classes.ManagementClass.{ManagementClass}
use Rattle.inventory_rows.specs.pool_rows.Changed as stores
use Rattle.inventory_rows.specs.pool_rows.Changes.{change_pool, change_volume, delete_filed, delete_numbered, object_on, is_bad_row, is_next_there, new_pool, new_volume, pool_before, unless_before, unless_filled, unless_held, update_filed, update_numbered, volume_of_pool}
use Rattle.inventory_rows.specs.pool_rows.ClassChanges.{change_class, class_gone, pool_of_class}
use Rattle.inventory_rows.specs.pool_rows.PoolRows.{PoolRows, class_capacity, pool_named, volume_named}
use Rattle.inventory_rows.specs.pool_rows.Hierarchy.{is_bad_hierarchy}
use Rattle.inventory_rows.specs.pool_tables.RowChanges.{with_settings}
use Rattle.inventory_rows.specs.pool_tables.Rows.{edit_row, named, row_at, with_row as table_with}
use Rattle.inventory_rows.specs.pool_tables.declared.pool.Pool.{Pool}
use Rattle.inventory_rows.specs.version_groups.Entries.{all_later, if_found, on_ok}
use Rattle.inventory_rows.specs.version_groups.declared.groups.Filespace.{Filespace}
use Rattle.inventory_rows.specs.Search.{is_destination, is_primary, is_primary_kind, node_in, versions}
use Rattle.inventory_rows.specs.Items.{count_items, most_items}
use Rattle.inventory_rows.specs.State.{Inv}
use Rattle.inventory_rules.specs.Clients.{client_bounds}
use Rattle.inventory_rules.specs.Common.{file_bound, files_refused, full_at, is_free_file}
use Rattle.inventory_rules.specs.Journal.{Journal}
use Rattle.inventory_rules.specs.Policy.{destination_refused, domain_used}
use Rattle.inventory_rules.specs.Segments.{scratch_refused}
use Rattle.inventory_rules.specs.Stores.{access_refused, collocation_refused, pool_by_name, pool_of_volume, stays, store_bounds}
use Rattle.inventory_rules.specs.Transactions.{causes, effect, refused as refused_change, sizes_refused, then_valid}
use Rattle.inventory_rules.specs.Valid.{disk, is_valid, may_have}
use Rattle.inventory_rules.specs.Versions.{arrivals_refused, filespace_there, is_new_object, name_once, new_refused, object_refused, objects_refused}
use Rattle.machine.proofs.Elsewhere.{append-all, foremost-all, unless-all}
use Rattle.command_steps.specs.Answers.{halt_by}

-- ---- results

-- where it is refused, no run ends so
abbrev pub IsMild : {A : Type 0} → Result A Refusal → Type 0
IsMild (Ok x) = Unit {0}
IsMild (Err e) = halt_by e ≡ None

pub mild-err : {A : Type 0} (r : Result A Refusal) (e : Refusal) → IsMild r → r ≡ Err e → halt_by e ≡ None
mild-err (Ok x) e m h = absurd cc
mild-err (Err f) e m h = (let same : f ≡ e = cc in subst (λ (x : Refusal). halt_by x ≡ None) same m)

pub m-found : {X A : Type 0} (o : Option X) (f : X → Result A Refusal) → ((x : X) → IsMild (f x)) → IsMild (if_found o f)
m-found None f h = refl
m-found (Some x) f h = h x

pub m-on : {A B : Type 0} (f : A → B) (r : Result A Refusal) → IsMild r → IsMild (on_ok f r)
m-on f (Ok x) h = tt
m-on f (Err e) h = h

pub m-if : {A : Type 0} (b : Bool) (r s : Result A Refusal) → IsMild r → IsMild s → IsMild (if b then r else s)
m-if true r s h k = h
m-if false r s h k = k

m-within : {A B : Type 0} (f : A → B) (r : Result A Refusal) → IsMild r → IsMild (within f r)
m-within f (Ok x) h = tt
m-within f (Err e) h = h

-- ---- lists of refusals

abbrev pub AreMild : List Refusal → Type 0
AreMild list = AllByRecursion (λ e. halt_by e ≡ None) list

abbrev Mild : Refusal → Type 0
Mild e = halt_by e ≡ None

m-of : {A : Type 0} (r : Result A Refusal) → IsMild r → AreMild (refusal_of r)
m-of (Ok x) h = tt
m-of (Err e) h = (h, tt)

m-unless : (b : Bool) (e : Refusal) → halt_by e ≡ None → AreMild (unless b e)
m-unless b e h = unless-all Mild b e h

m-and : (xs ys : List Refusal) → AreMild xs → AreMild ys → AreMild (xs ++ ys)
m-and xs ys a b = append-all Mild xs ys a b

m-flat : {X : Type 0} (f : X → List Refusal) → ((x : X) → AreMild (f x)) → (xs : List X) → AreMild (flat_map f xs)
m-flat f h [] = tt
m-flat f h (x ∷ xs) = m-and (f x) (flat_map f xs) (h x) (m-flat f h xs)

-- ---- rows by name

m-defined : {V : Type 0} (name : List ℕ) (v : V) (rows : List (List ℕ × V)) → IsMild (defined name v rows)
m-defined name v rows = m-if (is_some (row_of name rows)) (Err refused.Exists) (Ok (with_row name v rows)) refl tt

m-deleted : {V : Type 0} (name : List ℕ) (rows : List (List ℕ × V)) → IsMild (deleted name rows)
m-deleted name rows = m-if (is_some (row_of name rows)) (Ok (without_row name rows)) (Err refused.NotFound) tt refl

m-row : {V : Type 0} (name : List ℕ) (step : V → Result V Refusal) (rows : List (List ℕ × V)) → ((v : V) → IsMild (step v)) → (o : Option V) → IsMild (changed_row name step rows o)
m-row name step rows h None = refl
m-row name step rows h (Some v) = m-within (λ w. with_value name w rows) (step v) (h v)

m-changed : {V : Type 0} (name : List ℕ) (step : V → Result V Refusal) (rows : List (List ℕ × V)) → ((v : V) → IsMild (step v)) → IsMild (changed name step rows)
m-changed name step rows h = m-row name step rows h (row_of name rows)

-- ---- policy

m-sets : (step : List (List ℕ × SetRow) → Result (List (List ℕ × SetRow)) Refusal) → ((rows : List (List ℕ × SetRow)) → IsMild (step rows)) → (row : DomainRow) → IsMild (in_sets step row)
m-sets step h row = m-within (λ sets. record { back_retention = row.back_retention; sets = sets }) (step row.sets) (h row.sets)

m-set : (d : DefineOrDelete) (set : List ℕ) (rows : List (List ℕ × SetRow)) → IsMild (set_changed d set rows)
m-set two.Define set rows = m-defined set empty_set rows
m-set two.Delete set rows = m-deleted set rows

m-class : (d : DefineOrDelete) (class : List ℕ) (set : SetRow) → IsMild (class_changed d class set)
m-class two.Define class set = m-within _ (defined class bare_class set.classes) (m-defined class bare_class set.classes)
m-class two.Delete class set = m-within _ (deleted class set.classes) (m-deleted class set.classes)

m-any : {R : Type 0} (v : Verb) (rule : R) (o : Option R) → IsMild (group_changed v rule o)
m-any verb.Define rule None = tt
m-any verb.Define rule (Some old) = refl
m-any verb.Update rule None = refl
m-any verb.Update rule (Some old) = tt
m-any verb.Delete rule None = refl
m-any verb.Delete rule (Some old) = tt

-- a class of a set gets a copy group, or its archive copy group
abbrev with_backup : Verb → List ℕ → BackupRule → SetRow → Result SetRow Refusal
with_backup v class rule set =
    within (λ classes. record { default_class = set.default_class; classes = classes })
    (changed class (λ (c : ManagementClass). within (λ g. record { backup = g; archive = c.archive }) (group_changed v rule c.backup)) set.classes)

abbrev with_archive : Verb → List ℕ → ArchiveRule → SetRow → Result SetRow Refusal
with_archive v class rule set =
    within (λ classes. record { default_class = set.default_class; classes = classes })
    (changed class (λ (c : ManagementClass). within (λ g. record { backup = c.backup; archive = g }) (group_changed v rule c.archive)) set.classes)

m-backup : (v : Verb) (class : List ℕ) (rule : BackupRule) (set : SetRow) → IsMild (with_backup v class rule set)
m-backup v class rule set =
    m-within _ (changed class (λ (c : ManagementClass). within (λ g. record { backup = g; archive = c.archive }) (group_changed v rule c.backup)) set.classes)
    (m-changed class (λ (c : ManagementClass). within (λ g. record { backup = g; archive = c.archive }) (group_changed v rule c.backup)) set.classes (λ c. m-within _ (group_changed v rule c.backup) (m-any v rule c.backup)))

m-archive : (v : Verb) (class : List ℕ) (rule : ArchiveRule) (set : SetRow) → IsMild (with_archive v class rule set)
m-archive v class rule set =
    m-within _ (changed class (λ (c : ManagementClass). within (λ g. record { backup = c.backup; archive = g }) (group_changed v rule c.archive)) set.classes)
    (m-changed class (λ (c : ManagementClass). within (λ g. record { backup = c.backup; archive = g }) (group_changed v rule c.archive)) set.classes (λ c. m-within _ (group_changed v rule c.archive) (m-any v rule c.archive)))

m-assigned : (class : List ℕ) (set : SetRow) → IsMild (assigned class set)
m-assigned class set = m-if (is_some (row_of class set.classes)) (Ok (record { default_class = Some class; classes = set.classes })) (Err refused.NotFound) tt refl

m-activate : (o : Option SetRow) → IsMild (to_activate o)
m-activate None = refl
m-activate (Some set) = m-if (is_some set.default_class) (Ok set) (Err refused.NoDefaultClass) tt refl

m-activated : (set : List ℕ) (row : DomainRow) → IsMild (activated set row)
m-activated set row = m-within _ (to_activate (row_of set row.sets)) (m-activate (row_of set row.sets))

m-domain : (v : Verb) (domain : List ℕ) (days : ℕ) (rows : List (List ℕ × DomainRow)) → IsMild (domain_changed v domain days rows)
m-domain verb.Define domain days rows = m-defined domain (empty_domain days) rows
m-domain verb.Update domain days rows = m-changed domain (λ (row : DomainRow). Ok (record { back_retention = days; sets = row.sets })) rows (λ row. tt)
m-domain verb.Delete domain days rows = m-deleted domain rows

pub m-after : (c : PolicyChange) (rows : List (List ℕ × DomainRow)) → IsMild (after c rows)
m-after (policy.Domain v domain days) rows = m-domain v domain days rows
m-after (policy.Set v domain set) rows = m-changed domain (in_sets (set_changed v set)) rows (m-sets (set_changed v set) (m-set v set))
m-after (policy.Class v domain set class) rows =
    m-changed domain (in_sets (changed set (class_changed v class))) rows (m-sets (changed set (class_changed v class)) (λ sets. m-changed set (class_changed v class) sets (m-class v class)))
m-after (policy.Group v domain set class rule) rows =
    m-changed domain (in_sets (changed set (with_backup v class rule))) rows
    (m-sets (changed set (with_backup v class rule)) (λ sets. m-changed set (with_backup v class rule) sets (m-backup v class rule)))
m-after (policy.ArchiveGroup v domain set class rule) rows =
    m-changed domain (in_sets (changed set (with_archive v class rule))) rows
    (m-sets (changed set (with_archive v class rule)) (λ sets. m-changed set (with_archive v class rule) sets (m-archive v class rule)))
m-after (policy.Assign domain set class) rows = m-changed domain (in_sets (changed set (assigned class))) rows (m-sets (changed set (assigned class)) (λ sets. m-changed set (assigned class) sets (m-assigned class)))
m-after (policy.Activate domain set) rows = m-changed domain (activated set) rows (m-activated set)

m-destination : (c : PolicyChange) (v : Inv) → AreMild (destination_refused c v)
m-destination (policy.Group verb.Define domain set class rule) v = m-unless (is_primary rule.destination v) refused.NotFound refl
m-destination (policy.Group verb.Update domain set class rule) v = m-unless (is_primary rule.destination v) refused.NotFound refl
m-destination (policy.Group verb.Delete domain set class rule) v = tt
m-destination (policy.ArchiveGroup verb.Define domain set class rule) v = m-unless (is_primary rule.destination v) refused.NotFound refl
m-destination (policy.ArchiveGroup verb.Update domain set class rule) v = m-unless (is_primary rule.destination v) refused.NotFound refl
m-destination (policy.ArchiveGroup verb.Delete domain set class rule) v = tt
m-destination (policy.Domain w domain days) v = tt
m-destination (policy.Set w domain set) v = tt
m-destination (policy.Class w domain set class) v = tt
m-destination (policy.Assign domain set class) v = tt
m-destination (policy.Activate domain set) v = tt

m-used : (o : Option ℕ) → AreMild (used_by (λ n. refused.InUse (by.Node n)) o)
m-used None = tt
m-used (Some n) = (refl, tt)

m-domain-used : (c : PolicyChange) (v : Inv) → AreMild (domain_used c v)
m-domain-used (policy.Domain verb.Delete domain days) v = m-used (node_in domain v)
m-domain-used (policy.Domain verb.Define domain days) v = tt
m-domain-used (policy.Domain verb.Update domain days) v = tt
m-domain-used (policy.Set w domain set) v = tt
m-domain-used (policy.Class w domain set class) v = tt
m-domain-used (policy.Group w domain set class rule) v = tt
m-domain-used (policy.ArchiveGroup w domain set class rule) v = tt
m-domain-used (policy.Assign domain set class) v = tt
m-domain-used (policy.Activate domain set) v = tt

-- ---- nodes and filespaces

m-unless-used : {A : Type 0} (o : Option By) (x : A) → IsMild (unless_used o x)
m-unless-used None x = tt
m-unless-used (Some user) x = refl

m-rows : (c : ObjectChange) (number : ℕ) (rows : Rows) → IsMild (rows_changed c number rows)
m-rows (client.Node two.Define name domain) number rows =
    m-on _ (nodes_with name domain number rows.nodes)
    (m-if (is_some (node_named name rows.nodes)) (Err refused.Exists) (Ok (insert_entry nat_cmp rows.nodes number (record { name = name; domain = domain }))) refl tt)
m-rows (client.Node two.Delete name domain) number rows =
    m-on _ (nodes_without name rows.filespaces rows.nodes)
    (m-found (node_named name rows.nodes) (λ n. unless_used (by_filespace (filespace_of n rows.filespaces)) (remove_entry (at_number n) rows.nodes))
    (λ n. m-unless-used (by_filespace (filespace_of n rows.filespaces)) (remove_entry (at_number n) rows.nodes)))
m-rows (client.Filespace two.Define node name filespace) number rows =
    m-on _ (filespaces_defined node name filespace rows.nodes rows.filespaces)
    (m-found (lookup (at_number node) rows.nodes) _
    (λ n. m-if (is_some (filespace_named node name rows.filespaces)) (Err refused.Exists) (Ok (insert_entry nat_cmp rows.filespaces filespace (record { node = node; name = name; groups = [] }))) refl tt))
m-rows (client.Filespace two.Delete node name filespace) number rows =
    m-on _ (filespaces_without filespace rows.held rows.filespaces)
    (m-found (filespace_at filespace rows.filespaces) _ (λ (f : Filespace). m-unless-used _ (remove_entry (at_number filespace) rows.filespaces)))

m-full : (next bound : ℕ) → AreMild (full_at next bound)
m-full next bound = m-unless (nat_lt (next + 1) bound) refused.InventoryFull refl

m-client : (c : ObjectChange) (v : Inv) → AreMild (client_bounds c v)
m-client (client.Node two.Define name domain) v =
    m-and (unless (is_some (row_of domain v.domains)) refused.NotFound) (full_at v.next_node (2 ^ 32 - 1)) (m-unless (is_some (row_of domain v.domains)) refused.NotFound refl) (m-full v.next_node (2 ^ 32 - 1))
m-client (client.Node two.Delete name domain) v = tt
m-client (client.Filespace two.Define node name filespace) v =
    m-and (unless (filespace == v.next_filespace) bad_value) (full_at v.next_filespace (2 ^ 32 - 1)) (m-unless (filespace == v.next_filespace) bad_value refl) (m-full v.next_filespace (2 ^ 32 - 1))
m-client (client.Filespace two.Delete node name filespace) v = tt

-- ---- device classes, pools and volumes

m-class-gone : (class : List ℕ) (s : PoolRows) (o : Option ℕ) → IsMild (class_gone class s o)
m-class-gone class s None = tt
m-class-gone class s (Some pool) = refl

m-change-class : (d : DefineOrDelete) (class : List ℕ) (capacity : ℕ) (s : PoolRows) → IsMild (change_class d class capacity s)
m-change-class two.Define class capacity s =
    m-if (is_some (named class s.classes)) (Err refused.Exists) (Ok (record s { classes = insert_entry (slice_cmp nat_cmp) s.classes class (Some capacity) })) refl tt
m-change-class two.Delete class capacity s =
    m-if (is_some (class_capacity class s)) (class_gone class s (pool_of_class class s)) (Err refused.NotFound) (m-class-gone class s (pool_of_class class s)) refl

m-update-numbered : (rule : PoolRule) (s : PoolRows) (o : Option ℕ) → IsMild (update_numbered rule s o)
m-update-numbered rule s None = refl
m-update-numbered rule s (Some number) =
    m-if (is_bad_row number rule.next s (row_at number s.pools)) (Err refused.BadHierarchy) (Ok (record s { pools = edit_row number (with_settings rule) s.pools })) refl tt

m-before : (number : ℕ) (s : PoolRows) (o : Option ℕ) → IsMild (unless_before number s o)
m-before number s None = tt
m-before number s (Some pool) = refl

m-filled : (number : ℕ) (s : PoolRows) (o : Option ℕ) → IsMild (unless_filled number s o)
m-filled number s None = m-before number s (pool_before number s)
m-filled number s (Some file) = refl

m-delete-numbered : (s : PoolRows) (o : Option ℕ) → IsMild (delete_numbered s o)
m-delete-numbered s None = refl
m-delete-numbered s (Some number) = m-filled number s (volume_of_pool number s)

m-pool : (v : Verb) (number : ℕ) (name class : List ℕ) (kind : PoolKind) (rule : PoolRule) (s : PoolRows) → IsMild (change_pool v number name class kind rule s)
m-pool verb.Define number name class kind rule s =
    m-if (is_some (named class s.classes) && is_next_there rule.next s)
    (if is_some (pool_named name s) then Err refused.Exists else (if is_bad_hierarchy number class kind rule.next s then Err refused.BadHierarchy else Ok (record s { pools = table_with number (new_pool name class kind rule) s.pools })))
    (Err refused.NotFound)
    (m-if (is_some (pool_named name s)) (Err refused.Exists) (if is_bad_hierarchy number class kind rule.next s then Err refused.BadHierarchy else Ok (record s { pools = table_with number (new_pool name class kind rule) s.pools })) refl
    (m-if (is_bad_hierarchy number class kind rule.next s) (Err refused.BadHierarchy) (Ok (record s { pools = table_with number (new_pool name class kind rule) s.pools })) refl tt))
    refl
m-pool verb.Update number name class kind rule s =
    m-if (is_next_there rule.next s) (update_numbered rule s (pool_named name s)) (Err refused.NotFound) (m-update-numbered rule s (pool_named name s)) refl
m-pool verb.Delete number name class kind rule s = m-delete-numbered s (pool_named name s)

m-update-filed : (access : Access) (s : PoolRows) (o : Option ℕ) → IsMild (update_filed access s o)
m-update-filed access s None = refl
m-update-filed access s (Some file) = tt

m-unless-held : (file : ℕ) (s : PoolRows) (o : Option ℕ) → IsMild (unless_held file s o)
m-unless-held file s None = tt
m-unless-held file s (Some object) = refl

m-delete-filed : (s : PoolRows) (o : Option ℕ) → IsMild (delete_filed s o)
m-delete-filed s None = refl
m-delete-filed s (Some file) = m-unless-held file s (object_on (row_at file s.volumes))

m-volume : (v : Verb) (name : List ℕ) (pool file capacity : ℕ) (access : Access) (s : PoolRows) → IsMild (change_volume v name pool file capacity access s)
m-volume verb.Define name pool file capacity access s =
    m-if (is_some (row_at pool s.pools))
    (if is_some (volume_named name s) then Err refused.Exists else Ok (record s { volumes = table_with file (new_volume name pool capacity access) s.volumes }))
    (Err refused.NotFound)
    (m-if (is_some (volume_named name s)) (Err refused.Exists) (Ok (record s { volumes = table_with file (new_volume name pool capacity access) s.volumes })) refl tt)
    refl
m-volume verb.Update name pool file capacity access s = m-update-filed access s (volume_named name s)
m-volume verb.Delete name pool file capacity access s = m-delete-filed s (volume_named name s)

m-stores : (c : PoolChange) (number : ℕ) (s : PoolRows) → IsMild (stores.changed c number s)
m-stores (store.DevClass d class capacity) number s = m-change-class d class capacity s
m-stores (store.Pool v name class kind rule) number s = m-pool v number name class kind rule s
m-stores (store.Volume v name pool file capacity access) number s = m-volume v name pool file capacity access s

m-file : (file : ℕ) (v : Inv) → AreMild (file_bound file v)
m-file file v = m-unless (nat_lt (max v.next_file (file + 1)) (2 ^ 32 - 1)) refused.InventoryFull refl

m-files : (files : List ℕ) (v : Inv) → AreMild (files_refused files v)
m-files files v = m-unless (list_all (is_free_file v) files && all_later (λ a b. not (a == b)) files) bad_value refl

m-option : {X : Type 0} (f : X → List Refusal) → ((x : X) → AreMild (f x)) → (o : Option X) → AreMild (option_map_or f o [])
m-option f h None = tt
m-option f h (Some x) = h x

m-access : (access : Access) (o : Option Pool) → AreMild (access_refused access o)
m-access access None = tt
m-access access (Some p) = m-unless (may_have access (is_primary_kind p.kind)) bad_value refl

m-collocation : (class : List ℕ) (rule : PoolRule) → AreMild (collocation_refused class rule)
m-collocation class rule = m-unless (not (rule.collocate && is_same_name disk class)) bad_value refl

m-store : (c : PoolChange) (v : Inv) → AreMild (store_bounds c v)
m-store (store.DevClass d class capacity) v = tt
m-store (store.Pool verb.Define name class kind rule) v = m-and (collocation_refused class rule) (full_at v.next_pool (2 ^ 16)) (m-collocation class rule) (m-full v.next_pool (2 ^ 16))
m-store (store.Pool verb.Update name class kind rule) v =
    m-and (unless (stays class kind (pool_by_name name v)) bad_value) (collocation_refused class rule) (m-unless (stays class kind (pool_by_name name v)) bad_value refl) (m-collocation class rule)
m-store (store.Pool verb.Delete name class kind rule) v =
    m-option (λ n. unless (not (is_destination n v)) (refused.InUse by.Destination)) (λ n. m-unless (not (is_destination n v)) (refused.InUse by.Destination) refl) (pool_named name v.stores)
m-store (store.Volume verb.Define name number file capacity access) v = m-and (files_refused (file ∷ []) v) (file_bound file v) (m-files (file ∷ []) v) (m-file file v)
m-store (store.Volume verb.Update name number file capacity access) v = m-access access (pool_of_volume name v)
m-store (store.Volume verb.Delete name number file capacity access) v = tt

-- ---- new objects

m-object : (v : Inv) (object : ℕ) → AreMild (object_refused v object)
m-object v object =
    m-and (unless (is_new_object v object) bad_value) (unless (nat_lt (max v.next_object (object + 1)) (2 ^ 62)) refused.InventoryFull) (m-unless (is_new_object v object) bad_value refl)
    (m-unless (nat_lt (max v.next_object (object + 1)) (2 ^ 62)) refused.InventoryFull refl)

m-new : (filespace : ℕ) (objects : List ℕ) (v : Inv) → AreMild (new_refused filespace objects v)
m-new filespace objects v =
    m-and (filespace_there filespace v) (arrivals_refused objects v) (m-unless (is_some (filespace_at filespace v.clients.filespaces)) refused.NotFound refl)
    (m-and (unless (name_once objects) bad_value) (unless (nat_le (length (versions v) + length objects) most_kept) refused.InventoryFull) (m-unless (name_once objects) bad_value refl)
    (m-unless (nat_le (length (versions v) + length objects) most_kept) refused.InventoryFull refl))

m-scratch : (scratch : List ScratchVolume) (v : Inv) → AreMild (scratch_refused scratch v)
m-scratch scratch v =
    m-and (files_refused (map (λ s. s.file) scratch) v) (flat_map (λ s. file_bound s.file v) scratch) (m-files (map (λ s. s.file) scratch) v)
    (m-flat (λ (s : ScratchVolume). file_bound s.file v) (λ s. m-file s.file v) scratch)

-- ---- changes

-- the changes that commands ask for, and that store a file
abbrev pub is_common : Change → Bool
is_common (change.Day day) = true
is_common (change.Policy c) = true
is_common (change.Object c) = true
is_common (change.Pool c) = true
is_common (change.Backup c) = true
is_common _ = false

m-causes : (j : Journal) (c : Change) (v : Inv) → is_common c ≡ true → AreMild (causes j c v)
m-causes j (change.Day day) v is = m-unless (nat_le v.today day) (refused.DayBack v.today day) refl
m-causes j (change.Policy c) v is =
    m-and (unless (not (names_active c)) bad_value) (refusal_of (after c v.domains) ++ (destination_refused c v ++ domain_used c v)) (m-unless (not (names_active c)) bad_value refl)
    (m-and (refusal_of (after c v.domains)) (destination_refused c v ++ domain_used c v) (m-of (after c v.domains) (m-after c v.domains)) (m-and (destination_refused c v) (domain_used c v) (m-destination c v) (m-domain-used c v)))
m-causes j (change.Object c) v is =
    m-and (refusal_of (rows_changed c v.next_node v.clients)) (client_bounds c v) (m-of (rows_changed c v.next_node v.clients) (m-rows c v.next_node v.clients)) (m-client c v)
m-causes j (change.Pool c) v is =
    m-and (refusal_of (stores.changed c v.next_pool v.stores)) (store_bounds c v) (m-of (stores.changed c v.next_pool v.stores) (m-stores c v.next_pool v.stores)) (m-store c v)
m-causes j (change.Backup c) v is =
    m-and (new_refused c.filespace (map (λ i. i.object) c.items) v) (scratch_refused c.scratch v ++ objects_refused (map (λ i. i.object) c.items) v) (m-new c.filespace (map (λ i. i.object) c.items) v)
    (m-and (scratch_refused c.scratch v) (objects_refused (map (λ i. i.object) c.items) v) (m-scratch c.scratch v) (m-flat (object_refused v) (m-object v) (map (λ i. i.object) c.items)))
m-causes j c v is = absurd cc

m-sizes : (c : Change) (v : Inv) → AreMild (sizes_refused c v)
m-sizes c v =
    m-and (unless (nat_le (count_items (effect c v)) most_items) refused.InventoryFull) (full_at v.number (2 ^ 62)) (m-unless (nat_le (count_items (effect c v)) most_items) refused.InventoryFull refl) (m-full v.number (2 ^ 62))

then-mild : (o : Option Refusal) (valid : Bool) (e : Refusal) → ((f : Refusal) → o ≡ Some f → halt_by f ≡ None) → then_valid o valid ≡ Some e → halt_by e ≡ None
then-mild (Some f) valid e h is = h e is
then-mild None true e h is = absurd cc
then-mild None false e h is = subst (λ (x : Refusal). halt_by x ≡ None) (same_Some bad_value e is) refl

pub m-refused : (j : Journal) (c : Change) (v : Inv) (e : Refusal) → is_common c ≡ true → refused_change j c v ≡ Some e → halt_by e ≡ None
unfolding refused_change
m-refused j c v e is h =
    then-mild (foremost (causes j c v ++ sizes_refused c v)) (is_valid (effect c v)) e
    (λ f at. foremost-all (λ x. halt_by x ≡ None) (causes j c v ++ sizes_refused c v) (m-and (causes j c v) (sizes_refused c v) (m-causes j c v is) (m-sizes c v)) f at) h
