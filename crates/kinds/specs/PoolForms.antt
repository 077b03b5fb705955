-- The bytes of what a storage pool's definition says and of a volume's access, and that they are forms.
use Rattle.std.specs.Prelude.{◌≡◌, ℕ, Bool, false, List, [], ◌∷◌, Option, Some, None, refl}
use Rattle.std.specs.Int.{w16, w32, w64}
use Rattle.fields.specs.Forms.{Form, IsForm, byte, number, pair, viewed, only, coded, flag, limit, value_of}
use Rattle.fields.specs.Editions.{Edition, added, added_form}
use Rattle.fields.specs.FieldLaws.{byte_form, number_form, wide16, wide32, wide64}
use Rattle.fields.specs.FormLaws.{pair_form, viewed_form, only_form, coded_form, flag_form, limit_form}
use Rattle.kinds.specs.Pools.{is_pool}
use Rattle.kinds.specs.ValueForms.{days, days_form, or_zero, or_zero_form}
use Rattle.kinds.specs.declared.pool.Access.{Access}
use Rattle.kinds.specs.declared.pool.Access.TheVariants.{ReadWrite, ReadOnly, Unavailable, Offsite, Destroyed}
use Rattle.kinds.specs.declared.pool.PoolKind.{PoolKind}
use Rattle.kinds.specs.declared.pool.PoolKind.TheVariants.{Primary, Copy}
use Rattle.kinds.specs.declared.pool.PoolRule.{PoolRule}
use Rattle.kinds.specs.declared.pool.SizeLimit.{SizeLimit}
use Rattle.kinds.specs.declared.pool.SizeLimit.TheVariants.{At, NoLimit}

-- what a pool is for: 1 for a primary pool, 2 for a copy pool
abbrev pub kind_number : PoolKind → ℕ
kind_number Primary = 1
kind_number Copy = 2

abbrev pub kind : Form PoolKind
kind = coded kind_number (Primary ∷ Copy ∷ [])

-- a volume's access: 1 READWRITE, 2 READONLY, 3 UNAVAILABLE, 4 OFFSITE, 5 DESTROYED
abbrev pub access_number : Access → ℕ
access_number ReadWrite = 1
access_number ReadOnly = 2
access_number Unavailable = 3
access_number Offsite = 4
access_number Destroyed = 5

abbrev pub accesses : List Access
accesses = ReadWrite ∷ ReadOnly ∷ Unavailable ∷ Offsite ∷ Destroyed ∷ []

abbrev pub access : Form Access
access = coded access_number accesses

-- MAXSIZE: a number of eight bytes, all ones for NOLIMIT
abbrev pub size_with : Option ℕ → SizeLimit
size_with None = NoLimit
size_with (Some n) = At n

abbrev pub size_number : SizeLimit → Option ℕ
size_number NoLimit = None
size_number (At n) = Some n

abbrev pub size_limit : Form SizeLimit
size_limit = viewed size_with size_number (limit w64)

-- the parameters of a storage pool, in the order of their bytes
abbrev pub PoolFields : Type 0
PoolFields = SizeLimit × (Option ℕ × (ℕ × (ℕ × (ℕ × (ℕ × (ℕ × Bool))))))

abbrev pub pool_with : PoolFields → PoolRule
pool_with f = record {
  max_size = f.0;
  next = f.1.0;
  high = f.1.1.0;
  low = f.1.1.1.0;
  reclaim = f.1.1.1.1.0;
  reuse_delay = f.1.1.1.1.1.0;
  max_scratch = f.1.1.1.1.1.1.0;
  collocate = f.1.1.1.1.1.1.1;
}

abbrev pub pool_fields : PoolRule → PoolFields
pool_fields r = (r.max_size, (r.next, (r.high, (r.low, (r.reclaim, (r.reuse_delay, (r.max_scratch, r.collocate)))))))

-- MAXSIZE, the next pool's number or 0, HIGHMIG, LOWMIG, RECLAIM, REUSEDELAY, MAXSCRATCH, and whether a client's objects are kept together
abbrev pub pool_rule : Edition → Form PoolRule
pool_rule e = viewed pool_with pool_fields (pair size_limit (pair (or_zero (number w32)) (pair byte (pair byte (pair byte (pair days (pair (number w16) (added e false flag))))))))

-- a rule whose parameters are in their ranges
abbrev pub settings : Edition → Form PoolRule
settings e = only is_pool (pool_rule e)

-- ---- laws

kind_told : (k : PoolKind) → value_of kind_number (Primary ∷ Copy ∷ []) (kind_number k) ≡ Some k
kind_told Primary = refl
kind_told Copy = refl

pub kind_form : IsForm kind
kind_form = coded_form kind_number (Primary ∷ Copy ∷ []) kind_told

access_told : (a : Access) → value_of access_number accesses (access_number a) ≡ Some a
access_told ReadWrite = refl
access_told ReadOnly = refl
access_told Unavailable = refl
access_told Offsite = refl
access_told Destroyed = refl

pub access_form : IsForm access
access_form = coded_form access_number accesses access_told

size_back : (o : Option ℕ) → size_number (size_with o) ≡ o
size_back None = refl
size_back (Some n) = refl

size_forth : (l : SizeLimit) → size_with (size_number l) ≡ l
size_forth NoLimit = refl
size_forth (At n) = refl

pub size_limit_form : IsForm size_limit
size_limit_form = viewed_form size_with size_number size_back size_forth (limit_form w64 wide64)

pub pool_rule_form : (e : Edition) → IsForm (pool_rule e)
pool_rule_form e = viewed_form pool_with pool_fields (λ _. refl) (λ _. refl)
    (pair_form size_limit_form (pair_form (or_zero_form (number_form w32 wide32)) (pair_form byte_form (pair_form byte_form (pair_form byte_form (pair_form days_form (pair_form (number_form w16 wide16) (added_form e false flag_form))))))))

pub settings_form : (e : Edition) → IsForm (settings e)
settings_form e = only_form is_pool (pool_rule_form e)
