-- The rows of held objects.
use Rattle.std.specs.Prelude.{ℕ, ◌==◌, List, Result, Ok, Err, is_some, if◌then◌else◌}
use Rattle.std.specs.List.{flat_map}
use Rattle.kinds.specs.declared.refusal.Refusal.{Refusal}
use Rattle.kinds.specs.declared.refusal.Refusal.TheVariants.{NotFound}
use Rattle.inventory_work.specs.copy_groups.Retention.{is_held_on}
use Rattle.inventory_work.specs.inventory_rows.object_rows.declared.held_object.HeldRow.{HeldRow}
use Rattle.inventory_work.specs.inventory_rows.object_rows.Filespaces.{filespace_at}
use Rattle.inventory_work.specs.inventory_rows.State.{Inv}
use Rattle.inventory_work.specs.Lists.{only}
use Rattle.inventory_answers.specs.declared.lines.HeldLine.{HeldLine}

-- a held object, and whether it is owed today
abbrev pub held_line : ℕ → HeldRow → HeldLine
held_line today row = record {
  path = row.held.path;
  description = row.held.description;
  object = row.held.version.object;
  size = row.held.version.size;
  mtime = row.held.version.mtime;
  digest = row.held.version.digest;
  stored = row.held.version.stored;
  until = row.held.until;
  owed = is_held_on today row.held.until;
}

-- the object, where it is held in the filespace that is asked for
abbrev pub held_lines_of : ℕ → ℕ → HeldRow → List HeldLine
held_lines_of today filespace row = only (row.filespace == filespace) (held_line today row)

-- the objects that are held in a filespace, by number
abbrev pub held_lines : ℕ → ℕ → List (ℕ × HeldRow) → List HeldLine
held_lines today filespace held = flat_map (λ h. held_lines_of today filespace h.1) held

-- the objects that are held in a filespace, which has to be there
abbrev pub held_of : ℕ → Inv → Result (List HeldLine) Refusal
held_of filespace v = if is_some (filespace_at filespace v.clients.filespaces) then Ok (held_lines v.today filespace v.clients.held) else Err NotFound
