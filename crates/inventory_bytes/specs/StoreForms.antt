-- The bytes of device classes, storage pools, volumes and database backups, and that they are forms.
use Rattle.std.proofs.Common.{sym, ap}
use Rattle.std.proofs.lemmas.Option.{same_Some}
use Rattle.std.specs.Prelude.{◌≡◌, ℕ, Bool, true, List, [], Option, Some, None, refl}
use Rattle.std.specs.Cmp.Lexicographic.{slice_cmp}
use Rattle.std.specs.Int.{w32, w64}
use Rattle.std.specs.Ordering.{nat_cmp}
use Rattle.fields.specs.Forms.{Form, IsForm, number, pair, viewed, only, partly, flag, option, ascending}
use Rattle.fields.specs.FieldLaws.{number_form, wide32, wide64}
use Rattle.fields.specs.FormLaws.{pair_form, viewed_form, partly_form, only_form, flag_form, option_form}
use Rattle.fields.specs.ListLaws.{ascending_form}
use Rattle.fields.specs.Editions.{Edition, added, added_form}
use Rattle.kinds.specs.declared.pool.Access.{Access}
use Rattle.kinds.specs.declared.pool.PoolKind.{PoolKind}
use Rattle.kinds.specs.declared.pool.PoolRule.{PoolRule}
use Rattle.kinds.specs.Pools.{is_capacity}
use Rattle.kinds.specs.PoolForms.{kind, kind_form, access, access_form, settings, settings_form}
use Rattle.kinds.specs.ValueForms.{name, name_form, day, day_form, days, days_form, capacity, capacity_form, or_zero, or_zero_form}
use Rattle.inventory_rows.specs.volume_rows.declared.volume.Volume.{Volume}
use Rattle.inventory_rows.specs.pool_tables.declared.pool.Pool.{Pool}
use Rattle.inventory_rows.specs.declared.backup.Backup.{Backup}

-- a device class: how many bytes its volumes have, or 0 for DISK
abbrev pub is_class : Option ℕ → Bool
is_class None = true
is_class (Some capacity) = is_capacity capacity

unfoldable pub class_row : Form (Option ℕ)
class_row = only is_class (or_zero (number w64))

-- the device classes by name
abbrev pub classes : Form (List (List ℕ × Option ℕ))
classes = ascending (slice_cmp nat_cmp) 4294967295 (name 30) class_row

-- a pool: its name, that of its device class, its kind, and its settings
abbrev pub pool_with : List ℕ × (List ℕ × (PoolKind × PoolRule)) → Pool
pool_with f = record { name = f.0; class = f.1.0; kind = f.1.1.0; settings = f.1.1.1 }

abbrev pub pool_fields : Pool → List ℕ × (List ℕ × (PoolKind × PoolRule))
pool_fields p = (p.name, (p.class, (p.kind, p.settings)))

unfoldable pub pool_row : Edition → Form Pool
pool_row e = viewed pool_with pool_fields (pair (name 30) (pair (name 30) (pair kind (settings e))))

-- the pools by number
abbrev pub pools : Edition → Form (List (ℕ × Pool))
pools e = ascending nat_cmp 4294967295 (number w32) (pool_row e)

-- a volume without its segments, which stand with the copies: its name, its pool, whether it is a scratch volume, its capacity, its access,
-- where the next frame is written, and the day on which it was emptied, where it is
abbrev pub VolumeFields : Type 0
VolumeFields = List ℕ × (ℕ × (Bool × (ℕ × (Access × (ℕ × Option ℕ)))))

abbrev pub volume_with : VolumeFields → Volume
volume_with f = record {
  name = f.0;
  pool = f.1.0;
  scratch = f.1.1.0;
  capacity = f.1.1.1.0;
  access = f.1.1.1.1.0;
  end = f.1.1.1.1.1.0;
  emptied = f.1.1.1.1.1.1;
  segments = [];
}

abbrev pub volume_fields : Volume → VolumeFields
volume_fields v = (v.name, (v.pool, (v.scratch, (v.capacity, (v.access, (v.end, v.emptied))))))

abbrev pub volume_bytes : Form VolumeFields
volume_bytes = pair (name 30) (pair (number w32) (pair flag (pair capacity (pair access (pair (number w64) (option day))))))

unfoldable pub volume_row : Form Volume
volume_row = partly (λ f. Some (volume_with f)) volume_fields volume_bytes

-- the volumes by file number
abbrev pub volumes : Form (List (ℕ × Volume))
volumes = ascending nat_cmp 4294967295 (number w32) volume_row

-- a database backup: the day on which it was taken, its number, whether it is whole, the backup that it follows, which the second form adds, and its
-- least delays by pool
abbrev pub BackupFields : Type 0
BackupFields = ℕ × (ℕ × (Bool × (Option ℕ × List (ℕ × ℕ))))

abbrev pub backup_with : BackupFields → Backup
backup_with f = record { taken = f.0; number = f.1.0; is_done = f.1.1.0; after = f.1.1.1.0; delays = f.1.1.1.1 }

abbrev pub backup_fields : Backup → BackupFields
backup_fields b = (b.taken, (b.number, (b.is_done, (b.after, b.delays))))

unfoldable pub backup_row : Edition → Form Backup
backup_row e = viewed backup_with backup_fields (pair day (pair (number w64) (pair flag (pair (added e None (option (number w32))) (ascending nat_cmp 4294967295 (number w32) days)))))

-- the listed backups by file number
abbrev pub backups : Edition → Form (List (ℕ × Backup))
backups e = ascending nat_cmp 4294967295 (number w32) (backup_row e)

-- ---- laws

pub class_row_form : IsForm class_row
unfolding class_row
class_row_form = only_form is_class (or_zero_form (number_form w64 wide64))

pub classes_form : IsForm classes
classes_form = ascending_form (slice_cmp nat_cmp) 4294967295 (name_form 30) class_row_form

pub pool_row_form : (e : Edition) → IsForm (pool_row e)
unfolding pool_row
pool_row_form e = viewed_form pool_with pool_fields (λ _. refl) (λ _. refl) (pair_form (name_form 30) (pair_form (name_form 30) (pair_form kind_form (settings_form e))))

pub pools_form : (e : Edition) → IsForm (pools e)
pools_form e = ascending_form nat_cmp 4294967295 (number_form w32 wide32) (pool_row_form e)

volume_back : (f : VolumeFields) (v : Volume) → Some (volume_with f) ≡ Some v → volume_fields v ≡ f
volume_back f v e = ap volume_fields (sym (same_Some (volume_with f) v e))

pub volume_row_form : IsForm volume_row
unfolding volume_row
volume_row_form = partly_form (λ f. Some (volume_with f)) volume_fields volume_back
    (pair_form (name_form 30) (pair_form (number_form w32 wide32) (pair_form flag_form (pair_form capacity_form (pair_form access_form (pair_form (number_form w64 wide64) (option_form day_form)))))))

pub volumes_form : IsForm volumes
volumes_form = ascending_form nat_cmp 4294967295 (number_form w32 wide32) volume_row_form

pub backup_row_form : (e : Edition) → IsForm (backup_row e)
unfolding backup_row
backup_row_form e = viewed_form backup_with backup_fields (λ _. refl) (λ _. refl)
    (pair_form day_form (pair_form (number_form w64 wide64) (pair_form flag_form (pair_form (added_form e None (option_form (number_form w32 wide32))) (ascending_form nat_cmp 4294967295 (number_form w32 wide32) days_form)))))

pub backups_form : (e : Edition) → IsForm (backups e)
backups_form e = ascending_form nat_cmp 4294967295 (number_form w32 wide32) (backup_row_form e)
