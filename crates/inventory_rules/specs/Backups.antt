-- Transactions on the list of database backups.
use Rattle.std.specs.BTreeMap.{is_at, insert_entry}
use Rattle.std.specs.List.{flat_map}
use Rattle.std.specs.Map.{lookup, set_value, remove_entry}
use Rattle.std.specs.Ordering.{nat_cmp}
use Rattle.std.specs.Prelude.{Bool, false, not, Option, Some, None, ℕ, ◌&&◌, if◌then◌else◌, List, [], ◌∷◌, true}
use Rattle.inventory_rows.specs.pool_rows.PoolRows.{is_sequential}
use Rattle.inventory_rows.specs.Search.{holds_copy}
use Rattle.inventory_rows.specs.State.{Inv}
use Rattle.inventory_rows.specs.declared.backup.Backup.{Backup}
use Rattle.kinds.specs.Refusals.{unless}
use Rattle.kinds.specs.declared.refusal.Refusal.{Refusal}
use Rattle.kinds.specs.declared.refusal.Refusal.TheVariants as refusal
use Rattle.inventory_rules.specs.Common.{this, draw_file}

-- ---- refused

abbrev pub is_unfinished : Option Backup → Bool
is_unfinished None = false
is_unfinished (Some b) = not b.is_done

abbrev pub backup_at : ℕ → Inv → Option Backup
backup_at file v = lookup (is_at (nat_cmp file)) v.backups

-- the backup is listed, and whole
abbrev pub is_done : Option Backup → Bool
is_done None = false
is_done (Some b) = b.is_done

-- a backup that follows another, by its file, follows one that is whole
abbrev pub after_refused : Option ℕ → Inv → List Refusal
after_refused None v = []
after_refused (Some file) v = unless (is_done (backup_at file v)) refusal.NotFound

-- ---- effect

-- each sequential pool that holds a copy, with its REUSEDELAY
abbrev pub delays_now : Inv → List (ℕ × ℕ)
delays_now v = flat_map (λ p. if is_sequential p.0 v.stores && holds_copy p.0 v then (p.0, p.1.settings.reuse_delay) ∷ [] else []) v.stores.pools

-- A backup begins. It holds what was before this transaction, and the transaction itself; where it follows another, only what came behind that one.
abbrev pub begin_backup : ℕ → Option ℕ → Inv → Inv
begin_backup file after v =
    draw_file file (record v { backups = insert_entry nat_cmp v.backups file (record { taken = v.today; number = this v; is_done = false; after = after; delays = delays_now v }) })

abbrev pub backup_ended : ℕ → Option Backup → List (ℕ × Backup) → List (ℕ × Backup)
backup_ended file None backups = backups
backup_ended file (Some b) backups = set_value (is_at (nat_cmp file)) backups (record b { is_done = true })

abbrev pub end_backup : ℕ → Inv → Inv
end_backup file v = record v { backups = backup_ended file (lookup (is_at (nat_cmp file)) v.backups) v.backups }

abbrev pub delete_backup : ℕ → Inv → Inv
delete_backup file v = record v { backups = remove_entry (is_at (nat_cmp file)) v.backups }
