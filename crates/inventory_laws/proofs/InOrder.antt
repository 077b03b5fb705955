-- The rows of the filespaces stand in order after a transaction whose steps keep them so.
use Rattle.std.proofs.Common.{◌≡◌, ℕ, Bool, true, false, cond, List, [], ◌∷◌, Option, Some, None, Result, Ok, Err, refl, sym, ap, subst}
use Rattle.std.specs.Map.{lookup}
use Rattle.kinds.specs.declared.refusal.Refusal.{Refusal}
use Rattle.inventory_rules.specs.entries.change_items.declared.items.DiscardedVersion.{DiscardedVersion}
use Rattle.inventory_rules.specs.entries.change_items.declared.items.DroppedCopy.{DroppedCopy}
use Rattle.inventory_rules.specs.entries.change_items.declared.items.NamedVersion.{NamedVersion}
use Rattle.inventory_rules.specs.entries.declared.change.Change.{Change}
use Rattle.inventory_rules.specs.inventory_rows.version_groups.declared.group.GroupChange.TheVariants.{Remove}
use Rattle.inventory_rules.specs.inventory_rows.version_groups.declared.groups.Filespace.{Filespace}
use Rattle.inventory_rules.specs.inventory_rows.version_groups.Entries.{if_found}
use Rattle.inventory_rules.specs.inventory_rows.object_rows.declared.place.Place.{Place}
use Rattle.inventory_rules.specs.inventory_rows.object_rows.Filespaces.{at_number, filespaces_after}
use Rattle.inventory_rules.specs.inventory_rows.object_rows.HeldRows.{has_row, has_under, held_without}
use Rattle.inventory_rules.specs.inventory_rows.object_rows.Places.{listed}
use Rattle.inventory_rules.specs.inventory_rows.object_rows.Rows.{filespaces_cleared, rows_after, rows_cleared, rows_without, with_filespaces as rows_with_filespaces, with_held}
use Rattle.inventory_rules.specs.inventory_rows.State.{Inv}
use Rattle.inventory_rules.specs.Common.{each, or_same, with_clients, with_filespaces}
use Rattle.inventory_rules.specs.Copies.{change_copy, drop_copy, dropped}
use Rattle.inventory_rules.specs.Transactions.{changed, effect}
use Rattle.inventory_rules.specs.Versions.{copies_at, discard, expire, take_versions}
use Rattle.inventory_rules.specs.Ordered.{IsOrdered}
use Rattle.inventory_laws.specs.Kept.{clients_after}
use Rattle.inventory_laws.proofs.Keeping.{take_all_kept}
use Rattle.inventory_laws.proofs.Ordered.{ordered_change, ordered_copy}
use Rattle.inventory_laws.proofs.VersionsWhole.{ordered_elsewhere}
use Rattle.inventory_laws.proofs.VolumeItems.{drops_kept}

pub each_ordered : {X : Type 0} (step : X → Inv → Inv) → ((i : X) (v : Inv) → IsOrdered v → IsOrdered (step i v)) → (items : List X) (v : Inv) → IsOrdered v → IsOrdered (each step items v)
each_ordered step stays [] v o = o
each_ordered step stays (i ∷ items) v o = each_ordered step stays items (step i v) (stays i v o)

-- the number that counts on is no row
pub counted : (c : Change) (v : Inv) → IsOrdered (changed c v) → IsOrdered (effect c v)
unfolding effect
counted c v o = ordered_elsewhere (changed c v) (effect c v) refl o

pub drop_ordered : (item : DroppedCopy) (v : Inv) → IsOrdered v → IsOrdered (drop_copy item v)
drop_ordered item v o = ordered_elsewhere (change_copy item.object (dropped item) v) (drop_copy item v) (ap (λ (x : Inv). x.clients) (drops_kept item v).only) (ordered_copy item.object (dropped item) v o)

-- what a step makes of the filespaces alone
same_filespaces : (v : Inv) (r : Result (List (ℕ × Filespace)) Refusal) → with_clients (or_same v.clients (rows_with_filespaces v.clients r)) v ≡ with_filespaces (or_same v.clients.filespaces r) v
same_filespaces v (Ok new) = refl
same_filespaces v (Err e) = refl

-- an object goes from a path
path_ordered : (n : ℕ) (path : List ℕ) (object : ℕ) (v : Inv) → IsOrdered v → IsOrdered (clients_after (rows_after n path (Remove object)) v)
path_ordered n path object v o = subst IsOrdered (sym (same_filespaces v (filespaces_after n path (Remove object) v.clients.filespaces))) (ordered_change n path (Remove object) v o)

-- a held object goes
row_ordered : (object : ℕ) (v : Inv) → IsOrdered v → IsOrdered (with_clients (or_same v.clients (with_held v.clients (Ok (held_without object v.clients.held)))) v)
row_ordered object v o = record { by_number = o.by_number; by_path = o.by_path }

cleared_ordered : (n : ℕ) (path : List ℕ) (object : ℕ) (v : Inv) → IsOrdered v → IsOrdered (clients_after (rows_cleared n path object) v)
cleared_ordered n path object v o = go (has_under n path object v.clients.held) where
  go : (b : Bool) → IsOrdered (with_clients (or_same v.clients (cond b (with_held v.clients (Ok (held_without object v.clients.held))) (rows_after n path (Remove object) v.clients))) v)
  go true = row_ordered object v o
  go false = path_ordered n path object v o

without_ordered : (object : ℕ) (v : Inv) → IsOrdered v → IsOrdered (clients_after (rows_without object) v)
without_ordered object v o = go (has_row object v.clients.held) where
  at : (p : Option Place) → IsOrdered (with_clients (or_same v.clients (rows_with_filespaces v.clients (if_found p (λ place. filespaces_after place.filespace place.path (Remove object) v.clients.filespaces)))) v)
  at None = o
  at (Some p) = path_ordered p.filespace p.path object v o

  go : (b : Bool) → IsOrdered (with_clients (or_same v.clients (cond b (with_held v.clients (Ok (held_without object v.clients.held))) (rows_with_filespaces v.clients (filespaces_cleared object (lookup (at_number object) (listed v.clients.filespaces)) v.clients.filespaces)))) v)
  go true = row_ordered object v o
  go false = at (lookup (at_number object) (listed v.clients.filespaces))

-- the volumes change before
taken_ordered : (object : ℕ) (v : Inv) → IsOrdered v → IsOrdered (take_versions object v)
taken_ordered object v o = ordered_elsewhere v (take_versions object v) (ap (λ (x : Inv). x.clients) (take_all_kept object (copies_at object v) v).only) o

pub expire_ordered : (filespace : ℕ) (item : NamedVersion) (v : Inv) → IsOrdered v → IsOrdered (expire filespace item v)
expire_ordered filespace item v o = cleared_ordered filespace item.path item.object (take_versions item.object v) (taken_ordered item.object v o)

pub discard_ordered : (item : DiscardedVersion) (v : Inv) → IsOrdered v → IsOrdered (discard item v)
discard_ordered item v o = without_ordered item.object (take_versions item.object v) (taken_ordered item.object v o)
