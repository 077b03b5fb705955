-- The copies that a database has in sequential pools.
use Rattle.std.specs.Prelude.{◌≡◌, ℕ, Bool, true, false, List, map, filter, length}
use Rattle.std.specs.List.{AllByRecursion}
use Rattle.sha2.specs.Sha256.{sha256}
use Rattle.contents.specs.Contents.{FramesHave, InImage}
use Rattle.copy_checks.specs.Copies.{is_there}
use Rattle.inventory_rows.specs.version_groups.declared.copies.CopyRow.{CopyRow}
use Rattle.inventory_rows.specs.version_groups.declared.versions.Version.{Version}
use Rattle.inventory_rows.specs.pool_rows.PoolRows.{is_sequential}
use Rattle.inventory_rows.specs.Search.{versions}
use Rattle.inventory_rows.specs.State.{Inv}
use Rattle.db_losses.specs.Losses.{has_copies}
use Rattle.db_restore.specs.Missing.{is_skipped}

-- the copy is in a sequential pool of the database
abbrev pub is_in_sequential : Inv → CopyRow → Bool
is_in_sequential p c = is_sequential c.pool p.stores

-- each copy in a sequential pool stands in the image, in its frames, with its object's size and digest
abbrev pub KeepsSequential : (ℕ → List ℕ) → Inv → Type 0
KeepsSequential image p = AllByRecursion (λ w. AllByRecursion (λ c. is_in_sequential p c ≡ true → is_there image w.object w.size w.digest.0 c.segments ≡ true) w.copies) (versions p)

-- A copy of a version stands in the image with these bytes, which have the object's size and digest: its segments' frames have them, one after the other.
pub record StandsWith (image : ℕ → List ℕ) (bytes : List ℕ) (w : Version) (c : CopyRow) : Type 0 where
  pub size : length bytes ≡ w.size
  pub digest : w.digest.0 ≡ sha256 bytes
  pub frames : FramesHave (InImage image) w.object 0 c.segments bytes

-- so does each copy in a sequential pool, with the bytes that `contents` gives its object
abbrev pub StandSequential : (contents : ℕ → List ℕ) → (ℕ → List ℕ) → Inv → Type 0
StandSequential contents image p = AllByRecursion (λ w. AllByRecursion (λ c. is_in_sequential p c ≡ true → StandsWith image (contents w.object) w c) w.copies) (versions p)

-- none of them has a segment in a file that is passed over
abbrev pub SparesSequential : List ℕ → Inv → Type 0
SparesSequential skipped p = AllByRecursion (λ w. AllByRecursion (λ c. is_in_sequential p c ≡ true → is_skipped skipped c.segments ≡ false) w.copies) (versions p)

-- a version with those of its copies that are in sequential pools
abbrev pub sequential_of : Inv → Version → Version
sequential_of p w = record w { copies = filter (is_in_sequential p) w.copies }

-- of versions, those that have a copy in a sequential pool, with these copies alone
abbrev pub with_sequential : Inv → List Version → List Version
with_sequential p versions = filter has_copies (map (sequential_of p) versions)
