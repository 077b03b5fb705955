-- Which pools may follow one another.
use Rattle.std.specs.Prelude.{ℕ, zero, suc, Bool, true, false, not, ◌==◌, ◌&&◌, ◌||◌, is_some, Option, Some, None, List, [], ◌∷◌, length}
use Rattle.std.specs.List.{list_any}
use Rattle.pool_tables.specs.kinds.declared.pool.PoolKind.{PoolKind}
use Rattle.pool_tables.specs.kinds.declared.pool.PoolKind.TheVariants.{Primary, Copy}
use Rattle.pool_tables.specs.declared.pool.Pool.{Pool}
use Rattle.pool_tables.specs.Rows.{row_at}
use Rattle.pool_rows.specs.PoolRows.{PoolRows, is_sequential, class_capacity}

abbrev pub next_in : Option Pool → Option ℕ
next_in None = None
next_in (Some pool) = pool.settings.next

-- the chain of next pools that begins with this one, so many steps long at most
abbrev pub chain : ℕ → Option ℕ → List (ℕ × Pool) → List ℕ
chain zero next pools = []
chain (suc steps) None pools = []
chain (suc steps) (Some pool) pools = pool ∷ chain steps (next_in (row_at pool pools)) pools

-- the chain that begins with `next` comes to this pool
abbrev pub comes_to : ℕ → Option ℕ → List (ℕ × Pool) → Bool
comes_to number next pools = list_any (λ pool. pool == number) (chain (length pools) next pools)

abbrev pub is_copy : PoolKind → Bool
is_copy Copy = true
is_copy Primary = false

abbrev pub is_copy_row : Option Pool → Bool
is_copy_row None = false
is_copy_row (Some pool) = is_copy pool.kind

-- the next pool is a copy pool, or of random access behind a sequential one
abbrev pub is_bad_next : Bool → Option ℕ → PoolRows → Bool
is_bad_next sequential None s = false
is_bad_next sequential (Some next) s = is_copy_row (row_at next s.pools) || (sequential && not (is_sequential next s))

-- a copy pool is of random access or has a next pool
abbrev pub is_bad_copy_pool : Bool → PoolKind → Option ℕ → Bool
is_bad_copy_pool sequential kind next = is_copy kind && (not sequential || is_some next)

-- the pool with this number, of this class and kind, may not have this next pool
abbrev pub is_bad_hierarchy : ℕ → List ℕ → PoolKind → Option ℕ → PoolRows → Bool
is_bad_hierarchy number class kind next s =
    is_bad_copy_pool (is_some (class_capacity class s)) kind next || is_bad_next (is_some (class_capacity class s)) next s || comes_to number next s.pools
