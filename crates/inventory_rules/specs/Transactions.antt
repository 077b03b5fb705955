-- What the rules say of a transaction, a line for each kind of change: what it makes of the database, why it is refused, what has to fit, how many items it brings, and what making it asks.
use Rattle.std.specs.List.{sum_by}
use Rattle.std.specs.Prelude.{map, ◌+◌, Bool, true, false, ◌≡◌, nat_le, is_some, List, [], ◌∷◌, ◌++◌, ◌^◌, Option, Some, None, ◌&&◌, ℕ, length, ⊤, ◌<◌, nat_lt}
use Rattle.kinds.specs.Refusals.{unless, refusal_of, bad_value, foremost}
use Rattle.kinds.specs.declared.refusal.Refusal.{Refusal}
use Rattle.kinds.specs.declared.refusal.Refusal.TheVariants as refusal
use Rattle.entries.specs.declared.change.Change.{Change}
use Rattle.entries.specs.declared.change.Change.TheVariants as change
use Rattle.inventory_rows.specs.policy_domains.Changes as policy
use Rattle.inventory_rows.specs.pool_tables.RowChanges.{reuse_volume}
use Rattle.inventory_rows.specs.pool_rows.Segments.{may_reuse_at}
use Rattle.inventory_rows.specs.Items.{count_items, most_items}
use Rattle.inventory_rows.specs.State.{Inv}
use Rattle.inventory_rules.specs.Backups.{after_refused, begin_backup, end_backup, delete_backup, is_unfinished, backup_at, delays_now}
use Rattle.inventory_rules.specs.Clients.{client_changed, client_refused, is_new_client, CanClients}
use Rattle.inventory_rules.specs.Common.{or_same, each, with_stores, file_bound, files_refused, full_at, one_if, CanEach}
use Rattle.inventory_rules.specs.Copies.{put_moved, move_copy, add_copy, drop_copy, move_refused, copy_list_refused, drop_refused, new_copy_fits, moved_copy_fits, segments_left, CanCopy, CanMoveAll}
use Rattle.inventory_rules.specs.Journal.{Journal}
use Rattle.inventory_rules.specs.Policy.{policy_refused, is_new_policy, policy_added, policy_gone, AreSetsOrdered, IsPolicyOrdered, CanPolicy}
use Rattle.inventory_rules.specs.Segments.{make_scratch, scratch_refused, scratch_fits, items_fit, CanScratch}
use Rattle.inventory_rules.specs.Stores.{store_changed, store_refused, store_fits, is_new_store, CanStores, CanReuse}
use Rattle.inventory_rules.specs.Valid.{is_valid}
use Rattle.inventory_rules.specs.Versions.{back_up, hold, rebind, mark_gone, expire, discard, new_refused, rebind_refused, gone_refused, expire_refused, discard_refused, objects_refused, new_version_fits, new_held_fits, paths_added, items_of_new, items_of_new_held, AreGroupsOrdered, CanBackUp, CanHold, CanBeGone}

-- ---- effect

-- what a change makes of the rows
abbrev pub changed : Change → Inv → Inv
changed (change.Day day) v = record v { today = day }
changed (change.Policy c) v = record v { domains = or_same v.domains (policy.after c v.domains) }
changed (change.Object c) v = client_changed c v
changed (change.Pool c) v = store_changed c v
changed (change.Backup c) v = each (back_up c.filespace) c.items (each make_scratch c.scratch v)
changed (change.Hold c) v = each (hold c.filespace) c.items (each make_scratch c.scratch v)
changed (change.Rebind c) v = each (rebind c.filespace) c.items v
changed (change.Gone c) v = each (mark_gone c.filespace) c.items v
changed (change.Move c) v = each move_copy c.items (each put_moved c.items (each make_scratch c.scratch v))
changed (change.Copy c) v = each add_copy c.items (each make_scratch c.scratch v)
changed (change.DropCopies c) v = each drop_copy c.items v
changed (change.Expire c) v = each (expire c.filespace) c.items v
changed (change.Discard c) v = each discard c.items v
changed (change.Reuse file) v = with_stores (record v.stores { volumes = reuse_volume file v.stores.volumes }) v
changed (change.DbBegin file after) v = begin_backup file after v
changed (change.DbEnd file) v = end_backup file v
changed (change.DbDelete file) v = delete_backup file v

-- the database after a transaction
unfoldable pub effect : Change → Inv → Inv
effect c v = (let new = changed c v in record new { number = v.number + 1 })

-- a transaction on objects, copies and the volumes that they lie on
abbrev pub is_of_data : Change → Bool
is_of_data (change.Day day) = false
is_of_data (change.Policy c) = false
is_of_data (change.Object c) = false
is_of_data (change.Pool c) = false
is_of_data (change.Backup c) = true
is_of_data (change.Hold c) = true
is_of_data (change.Rebind c) = true
is_of_data (change.Gone c) = true
is_of_data (change.Move c) = true
is_of_data (change.Copy c) = true
is_of_data (change.DropCopies c) = true
is_of_data (change.Expire c) = true
is_of_data (change.Discard c) = true
is_of_data (change.Reuse file) = true
is_of_data (change.DbBegin file after) = false
is_of_data (change.DbEnd file) = false
is_of_data (change.DbDelete file) = false

-- the day, the policy, the nodes, the device classes, the pools, the database backups, and the numbers of nodes, filespaces and pools are as they were
pub record OnlyData (old new : Inv) : Type 0 where
  pub today : new.today ≡ old.today
  pub next_node : new.next_node ≡ old.next_node
  pub next_filespace : new.next_filespace ≡ old.next_filespace
  pub next_pool : new.next_pool ≡ old.next_pool
  pub domains : new.domains ≡ old.domains
  pub nodes : new.clients.nodes ≡ old.clients.nodes
  pub classes : new.stores.classes ≡ old.stores.classes
  pub pools : new.stores.pools ≡ old.stores.pools
  pub backups : new.backups ≡ old.backups

-- ---- refused

-- the refusals that hold of a change, in the order of their causes
abbrev pub causes : Journal → Change → Inv → List Refusal
causes j (change.Day day) v = unless (nat_le v.today day) (refusal.DayBack v.today day)
causes j (change.Policy c) v = policy_refused c v
causes j (change.Object c) v = client_refused c v
causes j (change.Pool c) v = store_refused c v
causes j (change.Backup c) v =
    new_refused c.filespace (map (λ i. i.object) c.items) v ++ (scratch_refused c.scratch v ++ objects_refused (map (λ i. i.object) c.items) v)
causes j (change.Hold c) v =
    new_refused c.filespace (map (λ i. i.object) c.items) v ++ (scratch_refused c.scratch v ++ objects_refused (map (λ i. i.object) c.items) v)
causes j (change.Rebind c) v = rebind_refused j c.filespace c.items v
causes j (change.Gone c) v = gone_refused j c.filespace c.items v
causes j (change.Move c) v = move_refused j c.items v ++ scratch_refused c.scratch v
causes j (change.Copy c) v = copy_list_refused j c.items v ++ scratch_refused c.scratch v
causes j (change.DropCopies c) v = drop_refused j c.reason c.items v
causes j (change.Expire c) v = expire_refused j c.filespace c.items v
causes j (change.Discard c) v = discard_refused j c.reason c.items v
causes j (change.Reuse file) v = refusal_of (may_reuse_at file v.today v.stores)
causes j (change.DbBegin file after) v = after_refused after v ++ (files_refused (file ∷ []) v ++ file_bound file v)
causes j (change.DbEnd file) v = unless (is_unfinished (backup_at file v)) refusal.NotFound
causes j (change.DbDelete file) v = unless (is_some (backup_at file v)) refusal.NotFound

-- a database that would be too large, or a transaction whose number would reach the bound
abbrev pub sizes_refused : Change → Inv → List Refusal
sizes_refused c v = unless (nat_le (count_items (effect c v)) most_items) refusal.InventoryFull ++ full_at v.number (2 ^ 62)

-- where nothing else is refused, the database after the transaction has to be valid
abbrev pub then_valid : Option Refusal → Bool → Option Refusal
then_valid (Some e) valid = Some e
then_valid None true = None
then_valid None false = Some bad_value

-- why the database refuses a transaction with this change, where it does
unfoldable pub refused : Journal → Change → Inv → Option Refusal
refused j c v = then_valid (foremost (causes j c v ++ sizes_refused c v)) (is_valid (effect c v))

-- ---- fits

-- what a change brings fits where it comes, and what it takes away is of no use
unfoldable pub parts_fit : Change → Inv → Bool
parts_fit (change.Day day) v = true
parts_fit (change.Policy c) v = true
parts_fit (change.Object c) v = true
parts_fit (change.Pool c) v = store_fits c v
parts_fit (change.Backup c) v = scratch_fits v c.scratch && items_fit new_version_fits (λ i. i.segments) c.items (each make_scratch c.scratch v)
parts_fit (change.Hold c) v = scratch_fits v c.scratch && items_fit new_held_fits (λ i. i.segments) c.items (each make_scratch c.scratch v)
parts_fit (change.Rebind c) v = true
parts_fit (change.Gone c) v = true
parts_fit (change.Move c) v = scratch_fits v c.scratch && items_fit (moved_copy_fits c.items) (λ i. i.segments) c.items (each make_scratch c.scratch v)
parts_fit (change.Copy c) v = scratch_fits v c.scratch && items_fit new_copy_fits (λ i. i.segments) c.items (each make_scratch c.scratch v)
parts_fit (change.DropCopies c) v = true
parts_fit (change.Expire c) v = true
parts_fit (change.Discard c) v = true
parts_fit (change.Reuse file) v = true
parts_fit (change.DbBegin file after) v = true
parts_fit (change.DbEnd file) v = true
parts_fit (change.DbDelete file) v = true

-- ---- items

-- a change that brings items
abbrev pub brings_items : Change → Bool
brings_items (change.Day day) = false
brings_items (change.Policy c) = is_new_policy c
brings_items (change.Object c) = is_new_client c
brings_items (change.Pool c) = is_new_store c
brings_items (change.Backup c) = true
brings_items (change.Hold c) = true
brings_items (change.Rebind c) = false
brings_items (change.Gone c) = false
brings_items (change.Move c) = true
brings_items (change.Copy c) = true
brings_items (change.DropCopies c) = false
brings_items (change.Expire c) = false
brings_items (change.Discard c) = false
brings_items (change.Reuse file) = false
brings_items (change.DbBegin file after) = true
brings_items (change.DbEnd file) = false
brings_items (change.DbDelete file) = false

-- how many items it brings
abbrev pub items_added : Change → Inv → ℕ
items_added (change.Day day) v = 0
items_added (change.Policy c) v = policy_added c v.domains
items_added (change.Object c) v = one_if (is_new_client c)
items_added (change.Pool c) v = one_if (is_new_store c)
items_added (change.Backup c) v = length c.scratch + (sum_by items_of_new c.items + paths_added c.filespace [] c.items v)
items_added (change.Hold c) v = length c.scratch + sum_by items_of_new_held c.items
items_added (change.Rebind c) v = 0
items_added (change.Gone c) v = 0
items_added (change.Move c) v = length c.scratch + sum_by (λ i. length i.segments) c.items
items_added (change.Copy c) v = length c.scratch + sum_by (λ i. 1 + length i.segments) c.items
items_added (change.DropCopies c) v = 0
items_added (change.Expire c) v = 0
items_added (change.Discard c) v = 0
items_added (change.Reuse file) v = 0
items_added (change.DbBegin file after) v = 1 + length (delays_now v)
items_added (change.DbEnd file) v = 0
items_added (change.DbDelete file) v = 0

-- how many items go that it replaces
abbrev pub items_gone : Change → Inv → ℕ
items_gone (change.Day day) v = 0
items_gone (change.Policy c) v = policy_gone c v.domains
items_gone (change.Object c) v = 0
items_gone (change.Pool c) v = 0
items_gone (change.Backup c) v = 0
items_gone (change.Hold c) v = 0
items_gone (change.Rebind c) v = 0
items_gone (change.Gone c) v = 0
items_gone (change.Move c) v = sum_by (segments_left v) c.items
items_gone (change.Copy c) v = 0
items_gone (change.DropCopies c) v = 0
items_gone (change.Expire c) v = 0
items_gone (change.Discard c) v = 0
items_gone (change.Reuse file) v = 0
items_gone (change.DbBegin file after) v = 0
items_gone (change.DbEnd file) v = 0
items_gone (change.DbDelete file) v = 0

-- ---- order

abbrev pub AreRowsOrdered : Inv → Type 0
AreRowsOrdered v = AreSetsOrdered v.domains × AreGroupsOrdered v.clients.filespaces

-- a new version puts a group where one may stand; no other change asks for an order
abbrev pub IsOrderedFor : Change → Inv → Type 0
IsOrderedFor (change.Day day) v = ⊤
IsOrderedFor (change.Policy c) v = IsPolicyOrdered c v.domains
IsOrderedFor (change.Object c) v = ⊤
IsOrderedFor (change.Pool c) v = ⊤
IsOrderedFor (change.Backup c) v = AreGroupsOrdered v.clients.filespaces
IsOrderedFor (change.Hold c) v = ⊤
IsOrderedFor (change.Rebind c) v = ⊤
IsOrderedFor (change.Gone c) v = ⊤
IsOrderedFor (change.Move c) v = ⊤
IsOrderedFor (change.Copy c) v = ⊤
IsOrderedFor (change.DropCopies c) v = ⊤
IsOrderedFor (change.Expire c) v = ⊤
IsOrderedFor (change.Discard c) v = ⊤
IsOrderedFor (change.Reuse file) v = ⊤
IsOrderedFor (change.DbBegin file after) v = ⊤
IsOrderedFor (change.DbEnd file) v = ⊤
IsOrderedFor (change.DbDelete file) v = ⊤

-- ---- made

-- Each step of a change can be made. Versions that go or are bound to another class, copies that go, a new day, and a database backup that
-- ends or is taken off the list ask nothing.
abbrev pub CanChange : Change → Inv → Type 0
CanChange (change.Day day) v = ⊤
CanChange (change.Policy c) v = CanPolicy c v
CanChange (change.Object c) v = CanClients c v
CanChange (change.Pool c) v = CanStores c v
CanChange (change.Backup c) v = CanEach CanScratch make_scratch c.scratch v × CanEach (CanBackUp c.filespace) (back_up c.filespace) c.items (each make_scratch c.scratch v)
CanChange (change.Hold c) v = CanEach CanScratch make_scratch c.scratch v × CanEach (CanHold c.filespace) (hold c.filespace) c.items (each make_scratch c.scratch v)
CanChange (change.Rebind c) v = ⊤
CanChange (change.Gone c) v = CanEach (CanBeGone c.filespace) (mark_gone c.filespace) c.items v
CanChange (change.Move c) v = CanEach CanScratch make_scratch c.scratch v × CanMoveAll c.items (each make_scratch c.scratch v)
CanChange (change.Copy c) v = CanEach CanScratch make_scratch c.scratch v × CanEach CanCopy add_copy c.items (each make_scratch c.scratch v)
CanChange (change.DropCopies c) v = ⊤
CanChange (change.Expire c) v = ⊤
CanChange (change.Discard c) v = ⊤
CanChange (change.Reuse file) v = CanReuse file v
CanChange (change.DbBegin file after) v = file + 1 < 2 ^ 32
CanChange (change.DbEnd file) v = ⊤
CanChange (change.DbDelete file) v = ⊤

-- a transaction can be made: so can its change, and there is room for its number
pub record CanMake (c : Change) (v : Inv) : Type 0 where
  pub number : v.number + 1 < 2 ^ 64
  pub change : CanChange c v

-- ---- days

-- a day that a transaction brings is one of the calendar
abbrev pub IsDayOf : Change → Type 0
IsDayOf (change.Day day) = nat_lt day (2 ^ 31) ≡ true
IsDayOf _ = ⊤
