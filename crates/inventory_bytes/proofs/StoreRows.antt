-- How long the spellings of device classes, storage pools, volumes and database backups are at most.
use Rattle.std.proofs.Common.{ℕ, ◌+◌, ◌*◌, ◌≤◌, [], ◌∷◌, length, Some, arith}
use Rattle.std.specs.Cmp.Lexicographic.{slice_cmp}
use Rattle.std.specs.Int.{w16, w32, w64}
use Rattle.std.specs.List.{sum_by}
use Rattle.std.specs.Ordering.{nat_cmp}
use Rattle.std.specs.Prelude.{unwrap_or}
use Rattle.fields.specs.Editions.{second_form}
use Rattle.fields.specs.FieldLaws.{wide16, wide32, wide64}
use Rattle.fields.specs.Forms.{Form}
use Rattle.kinds.specs.PoolForms.{kind, kind_number, access, access_number, accesses, size_with, size_number, size_limit, pool_rule, settings}
use Rattle.kinds.specs.PoolForms as rules
use Rattle.kinds.specs.Pools.{is_capacity, is_pool}
use Rattle.kinds.specs.ValueForms.{capacity, or_zero, unless_zero}
use Rattle.kinds.specs.declared.pool.PoolKind.TheVariants.{Primary, Copy}
use Rattle.inventory_bytes.specs.StoreForms.{is_class, class_row, classes, pool_with, pool_fields, pool_row, pools, volume_with, volume_fields, volume_row, volumes, backup_with, backup_fields, backup_row, backups}
use Rattle.inventory_bytes.proofs.ClientRows.{day_within}
use Rattle.inventory_bytes.proofs.PolicyRows.{flag_within, days_within}
use Rattle.inventory_bytes.proofs.Spellings.{IsWithin, weakened, byte_within, number_within, limit_within, coded_within, name_within, pair_within, viewed_within, partly_within, only_within, option_within, table_of_rows, table_of_lists}

or_zero_within : {f : Form ℕ} {n : ℕ} → IsWithin f (λ _. n) → IsWithin (or_zero f) (λ _. n)
or_zero_within law = partly_within (λ n. Some (unless_zero n)) (λ o. unwrap_or o 0) law

capacity_within : IsWithin capacity (λ _. 8)
capacity_within = only_within is_capacity (number_within w64 wide64)

class_within : IsWithin class_row (λ _. 8)
unfolding class_row
class_within = only_within is_class (or_zero_within (number_within w64 wide64))

kind_within : IsWithin kind (λ _. 1)
kind_within = coded_within kind_number (Primary ∷ Copy ∷ [])

access_within : IsWithin access (λ _. 1)
access_within = coded_within access_number accesses

size_within : IsWithin size_limit (λ _. 8)
size_within = viewed_within size_with size_number (limit_within w64 wide64)

settings_within : IsWithin (settings second_form) (λ _. 20)
settings_within = only_within is_pool (viewed_within rules.pool_with rules.pool_fields (pair_within size_within (pair_within (or_zero_within (number_within w32 wide32))
    (pair_within byte_within (pair_within byte_within (pair_within byte_within (pair_within days_within (pair_within (number_within w16 wide16) flag_within))))))))

pool_within : IsWithin (pool_row second_form) (λ _. 85)
unfolding pool_row
pool_within = viewed_within pool_with pool_fields (pair_within (name_within 30) (pair_within (name_within 30) (pair_within kind_within settings_within)))

volume_within : IsWithin volume_row (λ _. 59)
unfolding volume_row
volume_within = partly_within (λ f. Some (volume_with f)) volume_fields (pair_within (name_within 30) (pair_within (number_within w32 wide32) (pair_within flag_within
    (pair_within capacity_within (pair_within access_within (pair_within (number_within w64 wide64) (option_within day_within)))))))

-- k bytes for each item, which is more than a row takes with its key and the counts of its lists
module _ {k : ℕ} (large : 4000 ≤ k) where
  pub classes_within : IsWithin classes (λ cs. 4 + k * length cs)
  classes_within = table_of_rows k (slice_cmp nat_cmp) 4294967295 (name_within 30) class_within (omega (arith, large))

  pub pools_within : IsWithin (pools second_form) (λ ps. 4 + k * length ps)
  pools_within = table_of_rows k nat_cmp 4294967295 (number_within w32 wide32) pool_within (omega (arith, large))

  pub volumes_within : IsWithin volumes (λ vs. 4 + k * length vs)
  volumes_within = table_of_rows k nat_cmp 4294967295 (number_within w32 wide32) volume_within (omega (arith, large))

  backup_within : IsWithin (backup_row second_form) (λ b. 22 + k * length b.delays)
  unfolding backup_row
  backup_within =
      weakened (viewed_within backup_with backup_fields (pair_within day_within (pair_within (number_within w64 wide64) (pair_within flag_within
      (pair_within (option_within (number_within w32 wide32)) (table_of_rows k nat_cmp 4294967295 (number_within w32 wide32) days_within (omega (arith, large))))))))
      (λ b. omega arith)

  pub backups_within : IsWithin (backups second_form) (λ bs. 4 + k * (length bs + sum_by (λ b. length b.1.delays) bs))
  backups_within = table_of_lists k 22 (λ b. length b.delays) nat_cmp 4294967295 (number_within w32 wide32) backup_within (omega (arith, large))
