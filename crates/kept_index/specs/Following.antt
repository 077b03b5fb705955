-- The index while it follows a transaction.
use Rattle.std.specs.Prelude.{◌≡◌, ◌⊎◌, ℕ, Option, List}
use Rattle.kinds.specs.declared.segment.Segment.{Segment}
use Rattle.entries.specs.change_items.declared.items.ScratchVolume.{ScratchVolume}
use Rattle.pool_rows.specs.PoolRows.{PoolRows, is_sequential}
use Rattle.space.specs.declared.site.Site.{Site}
use Rattle.space.specs.Claims.{Claims}
use Rattle.space_index.specs.declared.index.Index.{Index}
use Rattle.space_index.specs.Tails.{base_at, IsIndexWith}
use Rattle.kept_index.specs.Steps.{AllLie, puts, scratches, takes}

-- It is the index of these rows, but for the sequential volumes, each of which is listed as it stands there or as it is to stand.
pub record IsUnderway (i : Index) (c : Claims) (s final : PoolRows) : Type 0 where
  pub sites : ℕ → Option Site
  pub is : IsIndexWith i s c sites
  pub listed : (file : ℕ) → (sites file ≡ base_at final c.tickets file) ⊎ (sites file ≡ base_at s c.tickets file)

-- These scratch volumes and then these segments are still to come, and that makes the rows what they are before segments go.
pub record Remains (i : Index) (c : Claims) (xs : List ScratchVolume) (es : List (ℕ × Segment)) (full final : PoolRows) : Type 0 where
  pub rows : PoolRows
  pub is : IsUnderway i c rows final
  pub rest : puts es (scratches xs rows) ≡ full
  pub kinds : (pool : ℕ) → is_sequential pool final ≡ is_sequential pool full

-- These segments are still to go, each lies on its volume when its turn comes, and that makes the rows what they are to be.
pub record AreLeaving (i : Index) (c : Claims) (today : ℕ) (es : List (ℕ × Segment)) (final : PoolRows) : Type 0 where
  pub rows : PoolRows
  pub is : IsUnderway i c rows final
  pub lie : AllLie today es rows
  pub rest : takes today es rows ≡ final
