-- Where the objects that are kept come from, and their copies.
use Rattle.std.specs.Prelude.{◌≡◌, ◌⊎◌, ℕ, List, [], map, Contains}
use Rattle.std.specs.List.{AllByRecursion}
use Rattle.kinds.specs.declared.segment.Digest.{Digest}
use Rattle.kinds.specs.declared.segment.Segment.{Segment}
use Rattle.inventory_rules.specs.entries.declared.change.Change.{Change}
use Rattle.inventory_rules.specs.entries.declared.change.Change.TheVariants as change
use Rattle.inventory_rules.specs.inventory_rows.version_groups.declared.copies.CopyRow.{CopyRow}
use Rattle.inventory_rules.specs.inventory_rows.version_groups.declared.versions.Version.{Version}
use Rattle.inventory_rules.specs.inventory_rows.Search.{copies, versions}
use Rattle.inventory_rules.specs.inventory_rows.State.{Inv}
use Rattle.inventory_rules.specs.Common.{this}

-- an object by its number, how many bytes it has, and their digest
pub record Known : Type 0 where
  pub object : ℕ
  pub size : ℕ
  pub digest : Digest

abbrev pub known : Version → Known
known w = record { object = w.object; size = w.size; digest = w.digest }

-- the objects that a transaction brings
abbrev pub new_objects : Change → List Known
new_objects (change.Backup c) = map (λ i. record { object = i.object; size = i.size; digest = i.digest }) c.items
new_objects (change.Hold c) = map (λ i. record { object = i.object; size = i.size; digest = i.digest }) c.items
new_objects _ = []

-- the segments of the copies that it places, those of each with the object
abbrev pub placed_segments : Change → List (ℕ × List Segment)
placed_segments (change.Backup c) = map (λ i. (i.object, i.segments)) c.items
placed_segments (change.Hold c) = map (λ i. (i.object, i.segments)) c.items
placed_segments (change.Move c) = map (λ i. (i.object, i.segments)) c.items
placed_segments (change.Copy c) = map (λ i. (i.object, i.segments)) c.items
placed_segments _ = []

-- a copy of an object is one that was there, or has the segments of one of the object that the transaction places
abbrev pub IsPlaced : Change → Inv → (object : ℕ) → CopyRow → Type 0
IsPlaced c v object copy = Contains (copies v) (object, copy) ⊎ Contains (placed_segments c) (object, copy.segments)

-- What is kept of an object has number, size and digest of one that was kept before the transaction, or of one that it brings; and so has each of its copies its origin.
pub record ComesFrom (c : Change) (v : Inv) (w : Version) : Type 0 where
  pub object : Contains (map known (versions v)) (known w) ⊎ Contains (new_objects c) (known w)
  pub copies : AllByRecursion (IsPlaced c v w.object) w.copies

-- a copy of an object was there, or is placed by the transaction that comes next
abbrev pub IsOldOrNew : Inv → (object : ℕ) → CopyRow → Type 0
IsOldOrNew v object copy = Contains (copies v) (object, copy) ⊎ (copy.placed ≡ this v)

-- so is each of an object's copies
abbrev pub HasOldOrNew : Inv → Version → Type 0
HasOldOrNew v w = AllByRecursion (IsOldOrNew v w.object) w.copies
