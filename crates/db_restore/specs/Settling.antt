-- The volumes' files are made durable before they are read.
use Rattle.std.specs.Prelude.{◌≡◌, ℕ, true, false, Bool, is_some, List, Result, OnOk, IfOk}
use Rattle.store_api.specs.Disk.{History, standing, reads, settled}
use Rattle.store_api.specs.Runs.{GoesOn}
use Rattle.inventory_rows.specs.State.{Inv}
use Rattle.inventory_rows.specs.pool_tables.Rows.{row_at}
use Rattle.inventory_rows.specs.volume_rows.declared.volume.Volume.{Volume}
use Rattle.db_chains.specs.Reads.{OnlySettles}
use Rattle.db_losses.specs.Losses.{Losses}
use Rattle.db_restore.specs.Missing.{AreJudged, is_among}

-- a volume has this file
abbrev pub has_volume : ℕ → List (ℕ × Volume) → Bool
has_volume file volumes = is_some (row_at file volumes)

-- the files of these volumes are on the disk as they read, but those that are passed over
abbrev pub AreDurable : List ℕ → List (ℕ × Volume) → History → Type 0
AreDurable skipped volumes h = (file : ℕ) → has_volume file volumes ≡ true → is_among skipped file ≡ false → standing h file ≡ settled (reads h file)

-- A volume's file was made durable unless it is passed over, which changed nothing that is read.
pub record SettlesOne {T E : Type 0} (skipped : List ℕ) (file : ℕ) (result : Result T E) (old new : History) : Type 0 where
  pub goes : GoesOn (λ other. other ≡ file) old new
  pub settles : OnlySettles old new
  pub durable : OnOk result (is_among skipped file ≡ false → standing new file ≡ settled (reads new file))
  pub stays : OnOk result ((other : ℕ) → standing old other ≡ settled (reads old other) → standing new other ≡ settled (reads new other))

-- The volumes' files were made durable, which changed nothing that is read.
pub record Settles {T E : Type 0} (skipped : List ℕ) (volumes : List (ℕ × Volume)) (result : Result T E) (old new : History) : Type 0 where
  pub settles : OnlySettles old new
  pub durable : OnOk result (AreDurable skipped volumes new)

-- The volumes of a database were made durable and its copies looked at, which changed nothing that is read. On Ok it is known which copies are lost.
pub record Judges {E : Type 0} (p : Inv) (skipped : List ℕ) (result : Result Losses E) (old new : History) : Type 0 where
  pub settles : OnlySettles old new
  pub durable : OnOk result (AreDurable skipped p.stores.volumes new)
  pub judged : IfOk result (λ losses. AreJudged (reads old) skipped losses p)
