-- What is kept beside the volumes: the totals of each pool.
use Rattle.std.specs.Prelude.{Bool, ◌&&◌, ◌≡◌, ◌≤◌, ◌<◌, ◌^◌, ◌+◌, ◌-◌, ℕ, true, unwrap_or, Option, Some, None, List}
use Rattle.std.specs.List.{AllByRecursion}
use Rattle.volume_rows.specs.declared.volume.Volume.{Volume}
use Rattle.pool_tables.specs.declared.totals.Totals.{Totals}
use Rattle.pool_tables.specs.Rows.{row_at}
use Rattle.pool_tables.specs.Names.{are_apart, IsIndex}
use Rattle.pool_tables.specs.Scratch.{volume_name, is_rightly_named, are_rightly_named}
use Rattle.pool_tables.specs.Sums.{used_blocks_on, blocks_of_volume, live_bytes_on, defined_one, scratch_one, total_of}

abbrev pub no_totals : Totals
no_totals = record {
  used_blocks = 0;
  blocks = 0;
  live_bytes = 0;
  defined = 0;
  scratch = 0;
}

-- the totals that are kept for a pool
abbrev pub totals_at : ℕ → List (ℕ × Totals) → Totals
totals_at pool totals = unwrap_or (row_at pool totals) no_totals

-- the totals by what each of them measures
abbrev pub totals_by : ((Volume → ℕ) → ℕ) → Totals
totals_by total = record {
  used_blocks = total used_blocks_on;
  blocks = total blocks_of_volume;
  live_bytes = total live_bytes_on;
  defined = total defined_one;
  scratch = total scratch_one;
}

-- what one volume comes to
abbrev pub totals_of_volume : Volume → Totals
totals_of_volume v = totals_by (λ measure. measure v)

-- the same where the volume is there
abbrev pub totals_of_row : Option Volume → Totals
totals_of_row None = no_totals
totals_of_row (Some v) = totals_of_volume v

-- what the volumes of a pool come to
abbrev pub totals_of : ℕ → List (ℕ × Volume) → Totals
totals_of pool volumes = totals_by (λ measure. total_of measure pool volumes)

-- these go, and those come
abbrev pub moved : Totals → Totals → Totals → Totals
moved less more t = record {
  used_blocks = t.used_blocks - less.used_blocks + more.used_blocks;
  blocks = t.blocks - less.blocks + more.blocks;
  live_bytes = t.live_bytes - less.live_bytes + more.live_bytes;
  defined = t.defined - less.defined + more.defined;
  scratch = t.scratch - less.scratch + more.scratch;
}

-- none of them is greater than this
pub record AreWithin (t : Totals) (most : ℕ) : Type 0 where
  pub used_blocks : t.used_blocks ≤ most
  pub blocks : t.blocks ≤ most
  pub live_bytes : t.live_bytes ≤ most
  pub defined : t.defined ≤ most
  pub scratch : t.scratch ≤ most

-- each of them is at most the other one
pub record AreAtMost (t most : Totals) : Type 0 where
  pub used_blocks : t.used_blocks ≤ most.used_blocks
  pub blocks : t.blocks ≤ most.blocks
  pub live_bytes : t.live_bytes ≤ most.live_bytes
  pub defined : t.defined ≤ most.defined
  pub scratch : t.scratch ≤ most.scratch

-- the names of these volumes are their own, and by their kinds
abbrev pub are_sound : List (ℕ × Volume) → Bool
are_sound volumes = are_apart volume_name volumes && are_rightly_named volumes

-- what a volume that is there has: a file number, a name by its kind, and little of everything that is counted
pub record IsSound (file : ℕ) (v : Volume) : Type 0 where
  pub small : file < 2 ^ 32
  pub few : AreWithin (totals_of_volume v) (2 ^ 56)
  pub named : is_rightly_named file v ≡ true

-- the names lead to the volumes, and the totals are those of the volumes
pub record AreCounted (names : List (List ℕ × ℕ)) (totals : List (ℕ × Totals)) (volumes : List (ℕ × Volume)) : Type 0 where
  pub index : IsIndex volume_name names volumes
  pub counted : (pool : ℕ) → totals_at pool totals ≡ totals_of pool volumes
  pub each : AllByRecursion (λ e. IsSound e.0 e.1) volumes
