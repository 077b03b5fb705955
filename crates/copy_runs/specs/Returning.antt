-- A copy that an object has, and histories of valid databases: in these one that isn't there any more, as a transaction placed it, doesn't come back.
use Rattle.std.specs.Prelude.{◌≡◌, ℕ, ◌≤◌, Bool, true, false, Some}
use Rattle.inventory_rows.specs.version_groups.declared.copies.CopyRow.{CopyRow}
use Rattle.inventory_rows.specs.version_groups.declared.versions.Version.{Version}
use Rattle.inventory_rows.specs.Search.{copy_in, version}
use Rattle.inventory_rows.specs.State.{Inv}
use Rattle.inventory_rules.specs.Valid.{is_valid}
use Rattle.space.specs.declared.aim.Aim.TheVariants as aim
use Rattle.machine.specs.Fits.{History, inv, last}
use Rattle.copy_runs.specs.Wanting.{is_wanted}

-- each database of the history is valid
abbrev pub AreValid : History → Type 0
AreValid w = (n : ℕ) → w.base.number ≤ n → n ≤ last w → is_valid (inv w n) ≡ true

-- the copy is that of the object in its pool
abbrev pub Holds : (object : ℕ) → CopyRow → Inv → Type 0
Holds object copy v = (x : Version) × (version object v ≡ Some x) × (copy_in copy.pool x ≡ Some copy)

-- the object has a copy in that pool that the same transaction placed
abbrev pub is_kept : (object : ℕ) → CopyRow → Inv → Bool
is_kept object copy v = is_wanted (aim.Move copy.pool copy.placed 0 false) object v
