-- The items of a transaction on data, each of which finds what it names on what the items before it left.
use Rattle.std.specs.Prelude.{◌≡◌, ⊤, ℕ, true, is_some, List, [], ◌∷◌, ◌++◌, map, Result, Some}
use Rattle.kinds.specs.declared.refusal.Refusal.{Refusal}
use Rattle.kinds.specs.declared.segment.Segment.{Segment}
use Rattle.inventory_rules.specs.entries.change_items.declared.items.DiscardedVersion.{DiscardedVersion}
use Rattle.inventory_rules.specs.entries.change_items.declared.items.DroppedCopy.{DroppedCopy}
use Rattle.inventory_rules.specs.entries.change_items.declared.items.MovedCopy.{MovedCopy}
use Rattle.inventory_rules.specs.entries.change_items.declared.items.NamedVersion.{NamedVersion}
use Rattle.inventory_rules.specs.entries.change_items.declared.items.NewCopy.{NewCopy}
use Rattle.inventory_rules.specs.entries.change_items.declared.items.NewHeldObject.{NewHeldObject}
use Rattle.inventory_rules.specs.entries.change_items.declared.items.NewVersion.{NewVersion}
use Rattle.inventory_rules.specs.inventory_rows.version_groups.declared.copies.CopyRow.{CopyRow}
use Rattle.inventory_rules.specs.inventory_rows.version_groups.declared.versions.Version.{Version}
use Rattle.inventory_rules.specs.inventory_rows.object_rows.Rows.{Rows, rows_cleared, rows_without}
use Rattle.inventory_rules.specs.inventory_rows.Search.{copies, copy_in, pool, version}
use Rattle.inventory_rules.specs.inventory_rows.State.{Inv}
use Rattle.inventory_rules.specs.Copies.{added, change_copy, dropped, moved, placed_now}
use Rattle.inventory_rules.specs.Versions.{held_too, inserted}
use Rattle.inventory_rules.specs.Halfway.{VersionFacts}
use Rattle.inventory_rules.specs.Reordered.{IsReordered}
use Rattle.inventory_laws.specs.Kept.{clients_after}

-- of each item so much holds on what the steps of the items before it left
abbrev pub EachCan : {X : Type 0} → (X → Inv → Type 0) → (X → Inv → Inv) → List X → Inv → Type 0
EachCan Can step [] v = ⊤
EachCan Can step (x ∷ items) v = Can x v × EachCan Can step items (step x v)

-- a new object comes into the rows, as these, with its copy
pub record Arrives (n object pool_number : ℕ) (segments : List Segment) (v w : Inv) : Type 0 where
  pub lies : is_some (pool pool_number v) ≡ true
  pub facts : VersionFacts n w
  pub order : IsReordered ((object, placed_now pool_number segments v) ∷ copies v) (copies w)

-- a client's file
abbrev pub Stores : ℕ → ℕ → NewVersion → Inv → Type 0
Stores n filespace item v = Arrives n item.object item.pool item.segments v (inserted filespace item v)

-- an object that a client archived
abbrev pub Holds : ℕ → ℕ → NewHeldObject → Inv → Type 0
Holds n filespace item v = Arrives n item.object item.pool item.segments v (held_too filespace item v)

-- a copy comes into the rows
pub record Adds (n : ℕ) (item : NewCopy) (v : Inv) : Type 0 where
  pub lies : is_some (pool item.pool v) ≡ true
  pub facts : VersionFacts n (change_copy item.object (added item v) v)
  pub order : IsReordered ((item.object, placed_now item.pool item.segments v) ∷ copies v) (copies (change_copy item.object (added item v) v))

-- a copy takes the place of another one
pub record Moves (n : ℕ) (item : MovedCopy) (v : Inv) : Type 0 where
  pub old : Version
  pub found : version item.object v ≡ Some old
  pub copy : CopyRow
  pub there : copy_in item.from old ≡ Some copy
  pub facts : VersionFacts n (change_copy item.object (moved item v) v)
  pub order : IsReordered ((item.object, placed_now item.pool item.segments v) ∷ copies v) ((item.object, copy) ∷ copies (change_copy item.object (moved item v) v))

-- a copy goes from the rows
pub record Drops (n : ℕ) (item : DroppedCopy) (v : Inv) : Type 0 where
  pub old : Version
  pub found : version item.object v ≡ Some old
  pub copy : CopyRow
  pub there : copy_in item.pool old ≡ Some copy
  pub facts : VersionFacts n (change_copy item.object (dropped item) v)
  pub order : IsReordered (copies v) ((item.object, copy) ∷ copies (change_copy item.object (dropped item) v))

-- an object goes from the rows by a step, with its copies
pub record Removes (n : ℕ) (step : Rows → Result Rows Refusal) (object : ℕ) (v : Inv) : Type 0 where
  pub old : Version
  pub found : version object v ≡ Some old
  pub facts : VersionFacts n (clients_after step v)
  pub order : IsReordered (copies v) (map (λ c. (object, c)) old.copies ++ copies (clients_after step v))

-- it goes from a path, as a version or held
abbrev pub Expires : ℕ → ℕ → NamedVersion → Inv → Type 0
Expires n filespace item v = Removes n (rows_cleared filespace item.path item.object) item.object v

-- it goes, wherever it is kept
abbrev pub Discards : ℕ → DiscardedVersion → Inv → Type 0
Discards n item v = Removes n (rows_without item.object) item.object v

-- what a path's versions are, or which class it has, changes, and no copy
pub record Rewrites (n : ℕ) (v w : Inv) : Type 0 where
  pub facts : VersionFacts n w
  pub order : IsReordered (copies v) (copies w)
