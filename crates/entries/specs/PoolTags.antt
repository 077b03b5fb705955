-- The bytes of the changes of device classes, storage pools and volumes, by their tags: 9 a device class, 10 a storage pool, 11 a volume.
use Rattle.std.specs.Prelude.{◌≡◌, ℕ, List, Option, Some, None, refl}
use Rattle.std.specs.Int.{w32}
use Rattle.std.proofs.Common.{sym, ap}
use Rattle.std.proofs.lemmas.Option.{same_Some}
use Rattle.fields.specs.Forms.{Form, IsForm, number, pair, variant, row, no_more}
use Rattle.fields.specs.FieldLaws.{number_form, wide32}
use Rattle.fields.specs.Editions.{Edition}
use Rattle.fields.specs.FormLaws.{IsTable, pair_form, row_table, no_more_table, variant_row}
use Rattle.kinds.specs.declared.change.DefineOrDelete.{DefineOrDelete}
use Rattle.kinds.specs.declared.change.PoolChange.{PoolChange}
use Rattle.kinds.specs.declared.change.PoolChange.TheVariants.{DevClass, Pool, Volume}
use Rattle.kinds.specs.declared.change.Verb.{Verb}
use Rattle.kinds.specs.declared.pool.Access.{Access}
use Rattle.kinds.specs.declared.pool.PoolKind.{PoolKind}
use Rattle.kinds.specs.declared.pool.PoolRule.{PoolRule}
use Rattle.kinds.specs.PoolForms.{kind, kind_form, access, access_form, settings, settings_form}
use Rattle.kinds.specs.ValueForms.{name, name_form, capacity, capacity_form}
use Rattle.kinds.specs.VerbForms.{verb, verb_form, define_or_delete, define_or_delete_form}

abbrev pub pool_tag : PoolChange → ℕ
pool_tag (DevClass v c b) = 9
pool_tag (Pool v p c k s) = 10
pool_tag (Volume v n p f b a) = 11

-- the verb, the name, and MAXCAPACITY
abbrev pub DeviceFields : Type 0
DeviceFields = DefineOrDelete × (List ℕ × ℕ)

abbrev pub device_fields : Form DeviceFields
device_fields = pair define_or_delete (pair (name 30) capacity)

abbrev pub device_with : DeviceFields → PoolChange
device_with f = DevClass f.0 f.1.0 f.1.1

abbrev pub device_of : PoolChange → Option DeviceFields
device_of (DevClass v c b) = Some (v, (c, b))
device_of _ = None

-- what a pool is: its device class, its kind, and its settings
abbrev pub Described : Type 0
Described = List ℕ × (PoolKind × PoolRule)

abbrev pub described : Edition → Form Described
described e = pair (name 30) (pair kind (settings e))

-- the verb, the name, and what the pool is
abbrev pub PoolFields : Type 0
PoolFields = Verb × (List ℕ × Described)

abbrev pub pool_fields : Edition → Form PoolFields
pool_fields e = pair verb (pair (name 30) (described e))

abbrev pub pool_with : PoolFields → PoolChange
pool_with f = Pool f.0 f.1.0 f.1.1.0 f.1.1.1.0 f.1.1.1.1

abbrev pub pool_of : PoolChange → Option PoolFields
pool_of (Pool v p c k s) = Some (v, (p, (c, (k, s))))
pool_of _ = None

-- where a volume is: its pool, its file number, its capacity, and its access
abbrev pub Located : Type 0
Located = ℕ × (ℕ × (ℕ × Access))

abbrev pub located : Form Located
located = pair (number w32) (pair (number w32) (pair capacity access))

-- the verb, the name, and where the volume is
abbrev pub VolumeFields : Type 0
VolumeFields = Verb × (List ℕ × Located)

abbrev pub volume_fields : Form VolumeFields
volume_fields = pair verb (pair (name 30) located)

abbrev pub volume_with : VolumeFields → PoolChange
volume_with f = Volume f.0 f.1.0 f.1.1.0 f.1.1.1.0 f.1.1.1.1.0 f.1.1.1.1.1

abbrev pub volume_of : PoolChange → Option VolumeFields
volume_of (Volume v n p f b a) = Some (v, (n, (p, (f, (b, a)))))
volume_of _ = None

-- what follows each tag
unfoldable pub pool_body : Edition → ℕ → Form PoolChange
pool_body e = row 9 (variant device_with device_of device_fields) (row 10 (variant pool_with pool_of (pool_fields e)) (row 11 (variant volume_with volume_of volume_fields) no_more))

-- ---- laws

device_back : (c : PoolChange) (f : DeviceFields) → device_of c ≡ Some f → device_with f ≡ c
device_back (DevClass v n b) f e = ap device_with (sym (same_Some (v, (n, b)) f e))
device_back _ f e = absurd cc

pool_back : (c : PoolChange) (f : PoolFields) → pool_of c ≡ Some f → pool_with f ≡ c
pool_back (Pool v p d k s) f e = ap pool_with (sym (same_Some (v, (p, (d, (k, s)))) f e))
pool_back _ f e = absurd cc

volume_back : (c : PoolChange) (f : VolumeFields) → volume_of c ≡ Some f → volume_with f ≡ c
volume_back (Volume v n p k b a) f e = ap volume_with (sym (same_Some (v, (n, (p, (k, (b, a))))) f e))
volume_back _ f e = absurd cc

pub described_form : (e : Edition) → IsForm (described e)
described_form e = pair_form (name_form 30) (pair_form kind_form (settings_form e))

pub located_form : IsForm located
located_form = pair_form (number_form w32 wide32) (pair_form (number_form w32 wide32) (pair_form capacity_form access_form))

pub pool_table : (e : Edition) → IsTable pool_tag (pool_body e)
unfolding pool_body
pool_table e = row_table (variant_row pool_tag 9 device_with device_of (λ _. refl) (λ _. refl) device_back (pair_form define_or_delete_form (pair_form (name_form 30) capacity_form)))
    (row_table (variant_row pool_tag 10 pool_with pool_of (λ _. refl) (λ _. refl) pool_back (pair_form verb_form (pair_form (name_form 30) (described_form e))))
    (row_table (variant_row pool_tag 11 volume_with volume_of (λ _. refl) (λ _. refl) volume_back (pair_form verb_form (pair_form (name_form 30) located_form)))
    (no_more_table pool_tag)))
