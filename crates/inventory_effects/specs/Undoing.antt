-- How steps that were made are undone, the newest first.
use Rattle.std.specs.Prelude.{◌≡◌, ⊤, ◌<◌, IsTrue, List, [], ◌∷◌, length, Result, Ok, Err}
use Rattle.kinds.specs.declared.refusal.Refusal.{Refusal}
use Rattle.kinds.specs.declared.refusal.Refusal.TheVariants.{Memory}
use Rattle.inventory_rows.specs.version_groups.declared.copies.CopyChange.TheVariants as copy
use Rattle.inventory_rows.specs.version_groups.declared.group.GroupChange.TheVariants as group
use Rattle.inventory_rows.specs.volume_rows.Held.{held_of}
use Rattle.inventory_rows.specs.object_rows.Filespaces.{versions_at}
use Rattle.inventory_rows.specs.object_rows.Rows.{rows_after, rows_altered, rows_without}
use Rattle.inventory_rows.specs.pool_tables.Rows.{row_at, without_row}
use Rattle.inventory_rows.specs.pool_rows.Segments.{undo_segment, is_there, is_bare_scratch}
use Rattle.inventory_rows.specs.State.{Inv}
use Rattle.inventory_rules.specs.Common.{or_same, with_stores}
use Rattle.inventory_effects.specs.declared.undo.Undo.{Undo}
use Rattle.inventory_effects.specs.declared.undo.Undo.TheVariants as undo

-- the database once a step is undone
abbrev pub undone : Undo → Inv → Inv
undone (undo.Scratch file next) v = record v { next_file = next; stores = record v.stores { volumes = without_row file v.stores.volumes } }
undone (undo.Segment object segment end emptied) v = with_stores (undo_segment object segment end emptied v.stores) v
undone (undo.Version filespace path class active next) v = record v { next_object = next; clients = or_same v.clients (rows_after filespace path (group.Undo class active) v.clients) }
undone (undo.Held object next) v = record v { next_object = next; clients = or_same v.clients (rows_without object v.clients) }
undone (undo.Copy object pool) v = record v { clients = or_same v.clients (rows_altered object (copy.Drop pool) v.clients) }

-- what was made is there
abbrev pub CanUndo : Undo → Inv → Type 0
CanUndo (undo.Scratch file next) v = IsTrue (is_bare_scratch (row_at file v.stores.volumes))
CanUndo (undo.Segment object segment end emptied) v = IsTrue (is_there (held_of object segment) (row_at segment.file v.stores.volumes))
CanUndo (undo.Version filespace path class active next) v = 0 < length (versions_at filespace path v.clients.filespaces)
CanUndo (undo.Held object next) v = ⊤
CanUndo (undo.Copy object pool) v = ⊤

-- the database once all steps are undone
abbrev pub all_undone : List Undo → Inv → Inv
all_undone [] v = v
all_undone (u ∷ log) v = all_undone log (undone u v)

abbrev pub CanUndoAll : List Undo → Inv → Type 0
CanUndoAll [] v = ⊤
CanUndoAll (u ∷ log) v = CanUndo u v × CanUndoAll log (undone u v)

-- from where more steps were made, undoing them leads to where it led before
pub record KeepsWay (log : List Undo) (v : Inv) (more : List Undo) (w : Inv) : Type 0 where
  pub can : CanUndoAll log v → CanUndoAll more w
  pub leads : all_undone more w ≡ all_undone log v

-- steps are made as it is said, or memory is wanted; either way what was made can be undone
abbrev pub Goes : {A : Type 0} → Result A Refusal → List Undo → Inv → List Undo → Inv → Inv → Type 0
Goes (Ok x) log v more w said = (w ≡ said) × KeepsWay log v more w
Goes (Err e) log v more w said = (e ≡ Memory) × KeepsWay log v more w

-- the same, where the last steps take no memory and can't be undone
abbrev pub Ends : {A : Type 0} → Result A Refusal → List Undo → Inv → List Undo → Inv → Inv → Type 0
Ends (Ok x) log v more w said = w ≡ said
Ends (Err e) log v more w said = (e ≡ Memory) × KeepsWay log v more w
