-- What an audit comes to in every history that its steps fit.
use Rattle.std.specs.Prelude.{◌≡◌, ℕ, ◌≤◌, true, List, length}
use Rattle.sha2.specs.Sha256.{sha256}
use Rattle.kinds.specs.ValueForms.{digest_with}
use Rattle.copy_runs.specs.Ends.{first_of}
use Rattle.copy_runs.specs.Returning.{Holds}
use Rattle.copy_runs.specs.Wanting.{IsIn}
use Rattle.inventory_rows.specs.version_groups.declared.copies.CopyRow.{CopyRow}
use Rattle.inventory_rows.specs.version_groups.declared.versions.Version.{Version}
use Rattle.inventory_rows.specs.Search.{lies_on, versions}
use Rattle.inventory_work.specs.declared.lines.CopyLine.{CopyLine}
use Rattle.machine.specs.Fits.{Fits, History, Own, inv, last}
use Rattle.steps.specs.Events.{Event}

-- ---- which copies

-- the line is of this copy of the object
pub record IsLineOf (line : CopyLine) (object : ℕ) (copy : CopyRow) : Type 0 where
  pub is_of : line.object ≡ object
  pub in_pool : line.pool ≡ copy.pool
  pub lies : line.placed ≡ copy.placed

-- In every history that the events fit, each copy that lies on the volume where it begins is on the list that was audited.
abbrev pub AreAllListed : (file : ℕ) → List CopyLine → List Event → Type 0
AreAllListed file lines events =
    (w : History) (actor : ℕ) (a b : Own) → Fits w actor a events b
    → (object : ℕ) (copy : CopyRow) → Holds object copy (inv w (first_of events)) → lies_on file copy ≡ true → (line : CopyLine) × IsIn line lines × IsLineOf line object copy

-- ---- a sound store

-- each object that is kept in a database of the history has as many bytes as its row says, with the SHA-256 that is kept
abbrev pub AreStored : History → Type 0
AreStored w =
    (n : ℕ) (x : Version) → w.base.number ≤ n → n ≤ last w → IsIn x (versions (inv w n)) → (length (w.contents x.object) ≡ x.size) × (x.digest ≡ digest_with (sha256 (w.contents x.object)))
