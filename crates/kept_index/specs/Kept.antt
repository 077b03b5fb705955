-- What it means that an index is kept beside rows and beside what is held.
use Rattle.std.specs.Prelude.{Option, Some, None}
use Rattle.pool_rows.specs.PoolRows.{PoolRows}
use Rattle.space.specs.Claims.{Claims}
use Rattle.space_index.specs.declared.index.Index.{Index}
use Rattle.space_index.specs.Tails.{IsIndexOf}
use Rattle.kept_index.specs.declared.kept.KeptIndex.{KeptIndex}

-- where there is an index it is that of these rows and of what is held beside them
abbrev pub IsIndexed : Option Index → PoolRows → Claims → Type 0
IsIndexed None s c = Unit {0}
IsIndexed (Some i) s c = IsIndexOf i s c

-- What is kept is the index of these rows and of what is held beside them, or it was lost.
abbrev pub IsKeptOf : KeptIndex → PoolRows → Claims → Type 0
IsKeptOf k s c = IsIndexed k.index s c
