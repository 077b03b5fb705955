use Rattle.std.specs.Prelude.{ℕ}
use Rattle.pool_tables.specs.kinds.declared.refusal.By.TheVariants.{Pool, Volume, Object}
use Rattle.pool_tables.specs.kinds.declared.refusal.Refusal.{Refusal}
use Rattle.pool_tables.specs.kinds.declared.refusal.Refusal.TheVariants.{InUse}

-- the refusals that name what stands in the way
abbrev pub used_by_pool : ℕ → Refusal
used_by_pool pool = InUse (Pool pool)

abbrev pub used_by_volume : ℕ → Refusal
used_by_volume file = InUse (Volume file)

abbrev pub used_by_object : ℕ → Refusal
used_by_object object = InUse (Object object)
