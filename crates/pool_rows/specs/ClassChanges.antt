-- How device classes are defined and deleted.
use Rattle.std.specs.Prelude.{ℕ, is_some, Option, Some, None, Result, Ok, Err, List, if◌then◌else◌}
use Rattle.std.specs.Map.{remove_entry}
use Rattle.std.specs.BTreeMap.{insert_entry, is_at}
use Rattle.std.specs.Cmp.Lexicographic.{slice_cmp}
use Rattle.std.specs.Ordering.{nat_cmp}
use Rattle.pool_tables.specs.kinds.declared.change.DefineOrDelete.{DefineOrDelete}
use Rattle.pool_tables.specs.kinds.declared.change.DefineOrDelete.TheVariants.{Define, Delete}
use Rattle.pool_tables.specs.kinds.declared.refusal.Refusal.{Refusal}
use Rattle.pool_tables.specs.kinds.declared.refusal.Refusal.TheVariants.{NotFound, Exists}
use Rattle.pool_tables.specs.kinds.Names.{is_same_name}
use Rattle.pool_tables.specs.Rows.{named, number_where}
use Rattle.pool_rows.specs.PoolRows.{PoolRows, class_capacity}
use Rattle.pool_rows.specs.Users.{used_by_pool}

-- the least pool of the class
abbrev pub pool_of_class : List ℕ → PoolRows → Option ℕ
pool_of_class class s = number_where (λ pool. is_same_name pool.class class) s.pools

-- a class of sequential volumes comes
abbrev pub define_class : List ℕ → ℕ → PoolRows → Result PoolRows Refusal
define_class class capacity s =
    if is_some (named class s.classes) then Err Exists else Ok (record s { classes = insert_entry (slice_cmp nat_cmp) s.classes class (Some capacity) })

abbrev pub class_gone : List ℕ → PoolRows → Option ℕ → Result PoolRows Refusal
class_gone class s None = Ok (record s { classes = remove_entry (is_at (slice_cmp nat_cmp class)) s.classes })
class_gone class s (Some pool) = Err (used_by_pool pool)

-- a class that no pool uses goes; DISK does not
abbrev pub delete_class : List ℕ → PoolRows → Result PoolRows Refusal
delete_class class s = if is_some (class_capacity class s) then class_gone class s (pool_of_class class s) else Err NotFound

abbrev pub change_class : DefineOrDelete → List ℕ → ℕ → PoolRows → Result PoolRows Refusal
change_class Define class capacity s = define_class class capacity s
change_class Delete class capacity s = delete_class class s
