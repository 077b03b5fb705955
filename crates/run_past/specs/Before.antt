-- What stood of the objects and paths that a transaction may touch.
use Rattle.std.specs.Prelude.{◌≡◌, ℕ, Bool, ◌==◌, true, is_some, if◌then◌else◌, List, [], ◌∷◌, Option, None, Some}
use Rattle.std.specs.List.{AllByRecursion, flat_map, list_any}
use Rattle.std.specs.Ordering.{nat_cmp}
use Rattle.entries.specs.declared.change.Change.{Change}
use Rattle.entries.specs.declared.change.Change.TheVariants as change
use Rattle.entries.specs.change_items.declared.items.DiscardedVersion.{DiscardedVersion}
use Rattle.inventory_rows.specs.version_groups.declared.group.Group.{Group}
use Rattle.inventory_rows.specs.version_groups.declared.groups.Filespace.{Filespace}
use Rattle.inventory_rows.specs.version_groups.declared.versions.Version.{Version}
use Rattle.inventory_rows.specs.object_rows.Filespaces.{versions_at}
use Rattle.inventory_rows.specs.Ascending.{AreAscending}
use Rattle.inventory_rows.specs.Search.{filespace_of, group, version}
use Rattle.inventory_rows.specs.State.{Inv}
use Rattle.inventory_rules.specs.Versions.{is_in}
use Rattle.inventory_work.specs.Lists.{only}
use Rattle.run_past.specs.declared.prepared.PathAt.{PathAt}
use Rattle.run_past.specs.declared.prepared.Prepared.{Prepared}
use Rattle.run_past.specs.Told.{Told, has_key, has_path, pair_cmp}

-- ---- objects

abbrev pub found : Option Version → List Version
found None = []
found (Some w) = w ∷ []

-- what stood of the objects that items name
abbrev pub named : {X : Type 0} → (X → ℕ) → List X → Inv → List Version
named object items v = flat_map (λ i. found (version (object i) v)) items

-- the object that is the newest of a path
abbrev pub newest_of : List Version → Inv → List Version
newest_of [] v = []
newest_of (w ∷ older) v = found (version w.object v)

-- what stood of each object that a change may change or remove
abbrev pub stood : Change → Inv → List Version
stood (change.Backup c) v = flat_map (λ i. newest_of (versions_at c.filespace i.path v.clients.filespaces) v) c.items
stood (change.Gone c) v = named (λ i. i.object) c.items v
stood (change.Move c) v = named (λ i. i.object) c.items v
stood (change.Copy c) v = named (λ i. i.object) c.items v
stood (change.DropCopies c) v = named (λ i. i.object) c.items v
stood (change.Expire c) v = named (λ i. i.object) c.items v
stood (change.Discard c) v = named (λ i. i.object) c.items v
stood _ v = []

-- ---- paths

-- a path, where it has versions
abbrev pub path_if : ℕ → List ℕ → Inv → List PathAt
path_if filespace path v = only (is_some (group filespace path v)) (record { filespace = filespace; path = path })

-- one of the versions is of an object that goes
abbrev pub has_going : List DiscardedVersion → List Version → Bool
has_going items versions = list_any (λ w. list_any (λ i. i.object == w.object) items) versions

-- a path that has an object that goes
abbrev pub path_going : List DiscardedVersion → ℕ → List ℕ → Group → Inv → List PathAt
path_going items filespace path g v = if has_going items g.versions then path_if filespace path v else []

-- such paths of a filespace, and of all
abbrev pub going_in : List DiscardedVersion → ℕ → Filespace → Inv → List PathAt
going_in items filespace f v = flat_map (λ g. path_going items filespace g.0 g.1 v) f.groups

-- an object that goes is kept in the filespace
abbrev pub lie_in : List DiscardedVersion → ℕ → Inv → Bool
lie_in items filespace v = list_any (λ i. is_in filespace (filespace_of i.object v)) items

abbrev pub going_from : List DiscardedVersion → ℕ → Filespace → Inv → List PathAt
going_from items filespace f v = if lie_in items filespace v then going_in items filespace f v else []

abbrev pub going : List DiscardedVersion → List (ℕ × Filespace) → Inv → List PathAt
going items filespaces v = flat_map (λ f. going_from items f.0 f.1 v) filespaces

-- the paths with versions that a change may empty
abbrev pub paths : Change → Inv → List PathAt
paths (change.Expire c) v = flat_map (λ i. path_if c.filespace i.path v) c.items
paths (change.Discard c) v = going c.items v.clients.filespaces v
paths _ v = []

-- ---- both

-- What was kept of the database before a change, whose rows ascend: what it may touch, as it stood.
pub record IsBefore (c : Change) (v : Inv) (p : Prepared) : Type 0 where
  pub ascending : AreAscending v
  pub versions : p.versions.items ≡ stood c v
  pub paths : p.paths.items ≡ paths c v

-- There is memory for all that may be told of it.
pub record HasRoom (p : Prepared) (t : Told) : Type 0 where
  pub removed : AllByRecursion (λ w. has_key (nat_cmp w.object) t.removed ≡ true) p.versions.items
  pub changed : AllByRecursion (λ w. has_key (nat_cmp w.object) t.changed ≡ true) p.versions.items
  pub copies : AllByRecursion (λ w. AllByRecursion (λ c. has_key (pair_cmp (w.object, c.pool)) t.copies ≡ true) w.copies) p.versions.items
  pub paths : AllByRecursion (λ x. has_path x.filespace x.path t.emptied ≡ true) p.paths.items
