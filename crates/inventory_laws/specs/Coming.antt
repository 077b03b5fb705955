-- Segments that are to come on volumes.
use Rattle.std.specs.Prelude.{◌≡◌, ℕ, Bool, true, not, ◌==◌, ◌||◌, List, map}
use Rattle.std.specs.List.{list_all, flat_map}
use Rattle.kinds.specs.declared.segment.Segment.{Segment}
use Rattle.inventory_rules.specs.inventory_rows.version_groups.Entries.{all_later}
use Rattle.inventory_rules.specs.inventory_rows.pool_tables.Rows.{row_at}
use Rattle.inventory_rules.specs.inventory_rows.pool_rows.PoolRows.{is_sequential_at}
use Rattle.inventory_rules.specs.inventory_rows.State.{Inv}
use Rattle.inventory_rules.specs.Halfway.{lying, VolumeFacts}
use Rattle.inventory_rules.specs.Segments.{are_clear, lies_rightly}

-- the segments of a copy in this pool
abbrev pub in_pool : ℕ → List Segment → List (ℕ × Segment)
in_pool number segments = map (λ s. (number, s)) segments

-- the segments of an object
abbrev pub of_object : ℕ → List Segment → List (ℕ × Segment)
of_object object segments = map (λ s. (object, s)) segments

-- the segments of some items, each with its pool
abbrev pub in_pools : {X : Type 0} → (X → ℕ) → (X → List Segment) → List X → List (ℕ × Segment)
in_pools number segments items = flat_map (λ i. in_pool (number i) (segments i)) items

-- a segment overlaps none of those that lie on its volume, the pending ones among them
abbrev pub is_clear_there : List (ℕ × Segment) → Inv → Segment → Bool
is_clear_there pending v s = list_all (λ e. are_clear (is_sequential_at s.file v.stores) s e.1) (lying pending s.file v)

-- two segments on one volume don't overlap
abbrev pub is_clear_of : Inv → Segment → Segment → Bool
is_clear_of v a b = not (a.file == b.file) || are_clear (is_sequential_at a.file v.stores) a b

-- These segments, each of a copy in the pool that stands with it, may come: each lies rightly on a volume of that pool, and overlaps neither what
-- lies there nor another one.
pub record MayCome (pending : List (ℕ × Segment)) (v : Inv) (coming : List (ℕ × Segment)) : Type 0 where
  pub lie : list_all (λ e. lies_rightly (is_sequential_at e.1.file v.stores) e.0 e.1 (row_at e.1.file v.stores.volumes)) coming ≡ true
  pub clear : list_all (λ e. is_clear_there pending v e.1) coming ≡ true
  pub apart : all_later (λ a b. is_clear_of v a.1 b.1) coming ≡ true

-- the facts of the volumes, and that these may still come
pub record Came (pending : List (ℕ × Segment)) (v : Inv) (coming : List (ℕ × Segment)) : Type 0 where
  pub facts : VolumeFacts pending v
  pub rest : MayCome pending v coming
