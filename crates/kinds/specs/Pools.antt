use Rattle.std.specs.Prelude.{ℕ, ◌^◌, Bool, true, ◌&&◌, nat_lt, nat_le, Option, Some, None}
use Rattle.kinds.specs.declared.pool.PoolRule.{PoolRule}
use Rattle.kinds.specs.declared.pool.SizeLimit.{SizeLimit}
use Rattle.kinds.specs.declared.pool.SizeLimit.TheVariants.{At, NoLimit}

-- how many bytes a volume may have
abbrev pub is_capacity : ℕ → Bool
is_capacity n = nat_le 65536 n && nat_le n (2 ^ 40)

-- the greatest size that a pool takes is 1 to 2^40 bytes, or there is none
abbrev pub is_size_limit : SizeLimit → Bool
is_size_limit (At n) = nat_le 1 n && nat_le n (2 ^ 40)
is_size_limit NoLimit = true

-- pools are numbered from 1 on
abbrev pub is_next : Option ℕ → Bool
is_next (Some n) = nat_lt 0 n
is_next None = true

-- each parameter of a storage pool is in its range
abbrev pub is_pool : PoolRule → Bool
is_pool r =
    is_size_limit r.max_size && is_next r.next && nat_le r.high 100 && nat_le r.low 99 && nat_le r.low r.high && nat_le 1 r.reclaim && nat_le r.reclaim 100 && nat_le r.max_scratch 9999
