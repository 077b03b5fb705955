use Rattle.std.specs.Prelude.{◌≡◌, ℕ, slice_set, Bool, true, false, not, ◌==◌, ◌&&◌, List, [], ◌∷◌, map, filter, Option, Some, None, is_none, Result, Ok, Err, if◌then◌else◌}
use Rattle.std.specs.List.{list_any, find, slice_get}
use Rattle.std.specs.Option.{option_map_or}
use Rattle.version_groups.specs.Entries.{on_ok, if_found, all_later}
use Rattle.kinds.specs.declared.refusal.Refusal.{Refusal}
use Rattle.kinds.specs.declared.refusal.Refusal.TheVariants.{NotFound}
use Rattle.version_groups.specs.declared.copies.CopyChange.{CopyChange}
use Rattle.version_groups.specs.declared.copies.CopyRow.{CopyRow}
use Rattle.version_groups.specs.declared.versions.Version.{Version}
use Rattle.version_groups.specs.Copies.{copies_after}

-- one of the versions is that of the object with this number
abbrev pub has_object : ℕ → List Version → Bool
has_object object versions = list_any (λ v. v.object == object) versions

-- no two of the versions have one object number
abbrev pub are_distinct : List Version → Bool
are_distinct versions = all_later (λ v w. not (w.object == v.object)) versions

-- the version of the object with this number
abbrev pub version_of : ℕ → List Version → Option Version
version_of object versions = find (λ v. v.object == object) versions

abbrev pub is_empty : List Version → Bool
is_empty [] = true
is_empty (v ∷ versions) = false

-- there is an active version: the newest one has no day from which it is inactive
abbrev pub has_active : List Version → Bool
has_active [] = false
has_active (newest ∷ older) = is_none newest.since

-- the object's version is the active one
abbrev pub is_active : ℕ → List Version → Bool
is_active object [] = false
is_active object (newest ∷ older) = newest.object == object && is_none newest.since

-- the newest version is inactive from this day on
abbrev pub retired : ℕ → List Version → List Version
retired day [] = []
retired day (newest ∷ older) = record newest { since = Some day } ∷ older

-- no version is active from this day on: the active one, where there is one, becomes inactive
abbrev pub superseded : ℕ → List Version → List Version
superseded day versions = if has_active versions then retired day versions else versions

-- the active version behind the newest one, where there is one, becomes inactive
abbrev pub superseded_older : ℕ → List Version → List Version
superseded_older day [] = []
superseded_older day (newest ∷ older) = newest ∷ superseded day older

-- the newest version is active again
abbrev pub revived : List Version → List Version
revived [] = []
revived (newest ∷ older) = record newest { since = None } ∷ older

-- the versions but the newest; the one that is the newest then becomes active if so wanted
abbrev pub undone : Bool → List Version → List Version
undone active [] = []
undone active (newest ∷ older) = if active then revived older else older

-- the versions but the object's
abbrev pub without_object : ℕ → List Version → List Version
without_object object versions = filter (λ v. not (v.object == object)) versions

-- the version has these copies, if it is of the object
abbrev pub having_copies : ℕ → List CopyRow → Version → Version
having_copies object copies v = if v.object == object then record v { copies = copies } else v

-- the object's version has these copies
abbrev pub with_copies : ℕ → List CopyRow → List Version → List Version
with_copies object copies versions = map (having_copies object copies) versions

-- the copies of the object's version; none where it has no version
abbrev pub copies_of : ℕ → List Version → List CopyRow
copies_of object versions = option_map_or (λ v. v.copies) (version_of object versions) []

-- the versions after a change of the copies of the object's version, which has to be there
abbrev pub versions_altered : ℕ → CopyChange → List Version → Result (List Version) Refusal
versions_altered object change versions = if_found (version_of object versions) (λ v. on_ok (λ copies. with_copies object copies versions) (copies_after change v.copies))

-- the copies of the version at a place
abbrev pub copies_at : ℕ → List Version → List CopyRow
copies_at i versions = option_map_or (λ v. v.copies) (slice_get versions i) []

-- the version at a place has these copies
abbrev pub put_copies_at : ℕ → List Version → List CopyRow → List Version
put_copies_at i versions copies = option_map_or (λ v. slice_set versions i (record v { copies = copies })) (slice_get versions i) versions
