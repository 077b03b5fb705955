-- How many items the list of database backups has after a backup begins, ends or is deleted.
use Rattle.std.proofs.Common.{◌≡◌, ℕ, ◌+◌, ◌≤◌, true, false, List, [], ◌∷◌, ◌++◌, length, Option, Some, None, refl, arith}
use Rattle.std.specs.BTreeMap.{is_at}
use Rattle.std.specs.Map.{lookup, set_value}
use Rattle.std.specs.Ordering.{nat_cmp}
use Rattle.inventory_rules.specs.entries.declared.change.Change.TheVariants as change
use Rattle.inventory_rules.specs.inventory_rows.declared.backup.Backup.{Backup}
use Rattle.inventory_rules.specs.inventory_rows.Items.{count_items}
use Rattle.inventory_rules.specs.inventory_rows.State.{Inv}
use Rattle.inventory_rules.specs.Backups.{after_refused, backup_ended, begin_backup, delays_now, delete_backup, end_backup}
use Rattle.inventory_rules.specs.Common.{this, file_bound, files_refused}
use Rattle.inventory_rules.specs.Transactions.{effect}
use Rattle.inventory_laws.proofs.Absent.{free_backup, one_free}
use Rattle.inventory_laws.proofs.CountedParts.{fourth_less, fourth_more, in_backups, in_clients, in_domains, in_stores, nothing_first, nothing_then}
use Rattle.inventory_laws.proofs.Weights.{rows-inserted, rows-removed, rows-set}

abbrev new_backup : Option ℕ → Inv → Backup
new_backup after v = record { taken = v.today; number = this v; is_done = false; after = after; delays = delays_now v }

begun : (w k n : ℕ) → w ≡ 1 + (n + k) → w + 0 ≡ k + (1 + n)
begun w k n h = omega (arith, h)

pub begin_counted : (file : ℕ) (after : Option ℕ) (v : Inv) → after_refused after v ++ (files_refused (file ∷ []) v ++ file_bound file v) ≡ [] → count_items (effect (change.DbBegin file after) v) + 0 ≡ count_items v + (1 + length (delays_now v))
unfolding effect
begin_counted file after v h =
    let numbered : files_refused (file ∷ []) v ++ file_bound file v ≡ [] = nothing_then (after_refused after v) (files_refused (file ∷ []) v ++ file_bound file v) h in
    let w : in_backups (begin_backup file after v).backups ≡ 1 + (length (delays_now v) + in_backups v.backups) =
    rows-inserted (λ (b : Backup). length b.delays) nat_cmp v.backups file (new_backup after v) (free_backup file v (one_free file v (nothing_first (files_refused (file ∷ []) v) (file_bound file v) numbered))) in
    fourth_more (in_domains v.domains) (in_clients v.clients) (in_stores v.stores) (in_backups v.backups) (in_backups (begin_backup file after v).backups) 0 (1 + length (delays_now v))
    (begun (in_backups (begin_backup file after v).backups) (in_backups v.backups) (length (delays_now v)) w)

same_less : (w k n : ℕ) → w + n ≡ k + n → w ≤ k
same_less w k n h = omega (arith, h)

ended_less : (file : ℕ) (o : Option Backup) (backups : List (ℕ × Backup)) → lookup (is_at (nat_cmp file)) backups ≡ o → in_backups (backup_ended file o backups) ≤ in_backups backups
ended_less file None backups h = omega arith
ended_less file (Some b) backups h =
    same_less (in_backups (set_value (is_at (nat_cmp file)) backups (record b { is_done = true }))) (in_backups backups) (length b.delays)
    (rows-set (λ (x : Backup). length x.delays) (is_at (nat_cmp file)) backups b (record b { is_done = true }) h)

pub end_takes : (file : ℕ) (v : Inv) → count_items (effect (change.DbEnd file) v) ≤ count_items v
unfolding effect
end_takes file v =
    fourth_less (in_domains v.domains) (in_clients v.clients) (in_stores v.stores) (in_backups v.backups) (in_backups (end_backup file v).backups)
    (ended_less file (lookup (is_at (nat_cmp file)) v.backups) v.backups refl)

pub delete_takes : (file : ℕ) (v : Inv) → count_items (effect (change.DbDelete file) v) ≤ count_items v
unfolding effect
delete_takes file v =
    fourth_less (in_domains v.domains) (in_clients v.clients) (in_stores v.stores) (in_backups v.backups) (in_backups (delete_backup file v).backups)
    (rows-removed (λ (x : Backup). length x.delays) (is_at (nat_cmp file)) v.backups)
