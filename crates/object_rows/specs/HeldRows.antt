-- Held objects by number, each with its filespace, and what is done with them.
use Rattle.std.specs.Prelude.{◌≡◌, ℕ, Bool, false, true, ◌==◌, ◌&&◌, is_none, is_some, List, [], map, Option, Result, nat_eq}
use Rattle.std.specs.BTreeMap.{insert_entry}
use Rattle.std.specs.Cmp.Lexicographic.{pointwise}
use Rattle.std.specs.List.{list_all, sum_by}
use Rattle.std.specs.List.Sorted.{IsStrictlySortedBy}
use Rattle.std.specs.Map.{keys_of, lookup, remove_entry, values_of}
use Rattle.std.specs.Option.{option_map, option_map_or, unwrap_or}
use Rattle.std.specs.Ordering.{nat_cmp}
use Rattle.version_groups.specs.kinds.declared.refusal.Refusal.{Refusal}
use Rattle.version_groups.specs.declared.copies.CopyChange.{CopyChange}
use Rattle.version_groups.specs.declared.copies.CopyRow.{CopyRow}
use Rattle.version_groups.specs.declared.groups.Filespace.{Filespace}
use Rattle.version_groups.specs.declared.versions.Version.{Version}
use Rattle.version_groups.specs.Copies.{copies_after}
use Rattle.version_groups.specs.Entries.{changed_at, on_ok, if_found}
use Rattle.version_groups.specs.Versions.{has_object, having_copies, version_of}
use Rattle.object_rows.specs.declared.held_object.HeldObject.{HeldObject}
use Rattle.object_rows.specs.declared.held_object.HeldRow.{HeldRow}
use Rattle.object_rows.specs.Filespaces.{at_number, versions_of}

-- what is kept of the held objects, as of any object
abbrev pub held_versions : List (ℕ × HeldRow) → List Version
held_versions held = map (λ e. e.1.held.version) held

-- the held object with this number, and its filespace
abbrev pub held_at : ℕ → List (ℕ × HeldRow) → Option HeldRow
held_at object held = lookup (at_number object) held

-- a held object has this number
abbrev pub has_row : ℕ → List (ℕ × HeldRow) → Bool
has_row object held = is_some (held_at object held)

-- the row stands under its object's number, and its object is not inactive from any day on
abbrev pub is_held_row : ℕ × HeldRow → Bool
is_held_row e = e.1.held.version.object == e.0 && is_none e.1.held.version.since

abbrev pub are_held_rows : List (ℕ × HeldRow) → Bool
are_held_rows held = list_all is_held_row held

-- each row belongs where it stands, and the rows stand in ascending order of their numbers, each number once
pub record AreHeld (held : List (ℕ × HeldRow)) : Type 0 where
  pub numbered : are_held_rows held ≡ true
  pub sorted : IsStrictlySortedBy nat_cmp (keys_of held)

-- no number is that of a held object and of a version in the filespaces
abbrev pub AreApart : List (ℕ × Filespace) → List (ℕ × HeldRow) → Type 0
AreApart filespaces held = (object : ℕ) → has_row object held ≡ true → has_object object (versions_of filespaces) ≡ false

-- a row is of this filespace and path
abbrev pub is_under : ℕ → List ℕ → HeldRow → Bool
is_under filespace path row = row.filespace == filespace && pointwise nat_eq row.held.path path

-- the object is held under this path of the filespace
abbrev pub has_under : ℕ → List ℕ → ℕ → List (ℕ × HeldRow) → Bool
has_under filespace path object held = option_map_or (is_under filespace path) (held_at object held) false

-- the rows and one more, under its object's number
abbrev pub held_with : ℕ → HeldObject → List (ℕ × HeldRow) → List (ℕ × HeldRow)
held_with filespace it held = insert_entry nat_cmp held it.version.object (record { filespace = filespace; held = it })

-- the rows but the object's
abbrev pub held_without : ℕ → List (ℕ × HeldRow) → List (ℕ × HeldRow)
held_without object held = remove_entry (at_number object) held

-- the row has these copies, if it is the object's
abbrev pub row_copied : ℕ → List CopyRow → HeldRow → HeldRow
row_copied object copies row = record row { held = record (row.held) { version = having_copies object copies row.held.version } }

-- the object's row, where it has one, has these copies
abbrev pub held_copied : ℕ → List CopyRow → List (ℕ × HeldRow) → List (ℕ × HeldRow)
held_copied object copies held = map (λ e. (e.0, row_copied object copies e.1)) held

-- the rows after a change of the copies of an object, which has to be there
abbrev pub held_altered : ℕ → CopyChange → List (ℕ × HeldRow) → Result (List (ℕ × HeldRow)) Refusal
held_altered object change held =
    if_found (version_of object (held_versions held)) (λ v. on_ok (λ copies. held_copied object copies held) (copies_after change v.copies))

-- a row after a change of its object's copies
abbrev pub row_altered : CopyChange → HeldRow → Result HeldRow Refusal
row_altered change row = on_ok (λ copies. record row { held = record (row.held) { version = record (row.held.version) { copies = copies } } }) (copies_after change row.held.version.copies)

-- the same, of the row that stands under the object's number
abbrev pub held_altered_at : ℕ → CopyChange → List (ℕ × HeldRow) → Result (List (ℕ × HeldRow)) Refusal
held_altered_at object change held = changed_at (at_number object) (row_altered change) held

-- the copies of the object that stands under a number
abbrev pub copies_at : ℕ → List (ℕ × HeldRow) → List CopyRow
copies_at object held = option_map_or (λ row. row.held.version.copies) (held_at object held) []

-- the weight of a row that was looked for
abbrev pub weigh_row : (List CopyRow → ℕ) → Option HeldRow → ℕ
weigh_row of found = unwrap_or (option_map (λ row. of row.held.version.copies) found) 0

-- the weight of the rows, where one weighs what its copies do
abbrev pub weigh_held : (List CopyRow → ℕ) → List (ℕ × HeldRow) → ℕ
weigh_held of held = sum_by (λ r. of r.held.version.copies) (values_of held)
