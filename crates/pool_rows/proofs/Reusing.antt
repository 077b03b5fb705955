-- Whether a volume that is found may be reused.
use Rattle.std.proofs.Common.{◌≡◌, ℕ, Bool, Some, ap, ◌∙◌}
use Rattle.pool_tables.specs.volume_rows.declared.volume.Volume.{Volume}
use Rattle.pool_tables.specs.volume_rows.Volumes.{may_reuse}
use Rattle.pool_tables.specs.Rows.{row_at}
use Rattle.pool_rows.specs.PoolRows.{PoolRows, is_sequential_at}
use Rattle.pool_rows.specs.Segments.{delay_of, reuse_row, may_reuse_at}

pub reuse_found : (s : PoolRows) (file today delay : ℕ) (sequential : Bool) (v : Volume) → Some v ≡ row_at file s.volumes → sequential ≡ is_sequential_at file s → delay ≡ delay_of (row_at v.pool s.pools)
    → may_reuse sequential file delay today v ≡ may_reuse_at file today s
reuse_found s file today delay sequential v found q d =
    ap (λ b. may_reuse b file delay today v) q ∙ ap (λ n. may_reuse (is_sequential_at file s) file n today v) d ∙ ap (reuse_row s file today) found
