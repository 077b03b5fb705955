-- Which copies of a database are lost: those that are passed over, and those that don't stand on their volumes.
use Rattle.std.specs.Prelude.{◌≡◌, ℕ, ◌==◌, ◌&&◌, ◌||◌, not, Bool, List}
use Rattle.std.specs.List.{AllByRecursion, list_any}
use Rattle.kinds.specs.declared.segment.Segment.{Segment}
use Rattle.copy_checks.specs.Copies.{is_there}
use Rattle.inventory_rows.specs.version_groups.declared.copies.CopyRow.{CopyRow}
use Rattle.inventory_rows.specs.version_groups.declared.group.Group.{Group}
use Rattle.inventory_rows.specs.version_groups.declared.groups.Filespace.{Filespace}
use Rattle.inventory_rows.specs.version_groups.declared.versions.Version.{Version}
use Rattle.inventory_rows.specs.object_rows.declared.held_object.HeldRow.{HeldRow}
use Rattle.inventory_rows.specs.Search.{versions}
use Rattle.inventory_rows.specs.State.{Inv}
use Rattle.db_losses.specs.Losses.{Losses, is_lost}

-- the file is one of these
abbrev pub is_among : List ℕ → ℕ → Bool
is_among files file = list_any (λ f. f == file) files

-- a segment lies in one of the files that are passed over
abbrev pub is_skipped : List ℕ → List Segment → Bool
is_skipped skipped segments = list_any (λ s. is_among skipped s.file) segments

-- The copy of a version is missing: it is passed over, or doesn't stand in the image in its frames, with its object's size and digest.
abbrev pub is_missing : (ℕ → List ℕ) → List ℕ → Version → CopyRow → Bool
is_missing image skipped w c = is_skipped skipped c.segments || not (is_there image w.object w.size w.digest.0 c.segments)

-- the copies that are lost are those that are missing
abbrev pub AreJudged : (ℕ → List ℕ) → List ℕ → Losses → Inv → Type 0
AreJudged image skipped losses v = AllByRecursion (λ w. AllByRecursion (λ c. is_lost losses w.object c.pool ≡ is_missing image skipped w c) w.copies) (versions v)

-- ---- copy by copy

-- one of these copies of a version is missing, and is the one of this object in this pool
abbrev pub copies_miss : (ℕ → List ℕ) → List ℕ → Version → List CopyRow → (object pool : ℕ) → Bool
copies_miss image skipped w copies object pool = list_any (λ c. (object == w.object && pool == c.pool) && is_missing image skipped w c) copies

-- the same of the copies of some versions
abbrev pub versions_miss : (ℕ → List ℕ) → List ℕ → List Version → (object pool : ℕ) → Bool
versions_miss image skipped versions object pool = list_any (λ w. copies_miss image skipped w w.copies object pool) versions

-- of the versions of some groups, and of those in some filespaces
abbrev pub groups_miss : (ℕ → List ℕ) → List ℕ → List (List ℕ × Group) → (object pool : ℕ) → Bool
groups_miss image skipped groups object pool = list_any (λ g. versions_miss image skipped g.1.versions object pool) groups

abbrev pub filespaces_miss : (ℕ → List ℕ) → List ℕ → List (ℕ × Filespace) → (object pool : ℕ) → Bool
filespaces_miss image skipped filespaces object pool = list_any (λ f. groups_miss image skipped f.1.groups object pool) filespaces

-- and of some held objects
abbrev pub held_miss : (ℕ → List ℕ) → List ℕ → List (ℕ × HeldRow) → (object pool : ℕ) → Bool
held_miss image skipped held object pool = list_any (λ h. copies_miss image skipped h.1.held.version h.1.held.version.copies object pool) held

-- copies were found to be lost beside those that were
abbrev pub FindsLost : ((object pool : ℕ) → Bool) → (old new : Losses) → Type 0
FindsLost miss old new = (object pool : ℕ) → is_lost new object pool ≡ is_lost old object pool || miss object pool
