-- The tests of what a transaction brings, once the scratch volumes are made and before.
use Rattle.std.proofs.Common.{◌≡◌, ℕ, eqb, Bool, ◌&&◌, ◌||◌, List, map, filter, is_some, Option, Some, None, refl, sym, ap, ◌∙◌}
use Rattle.std.specs.List.{list_all, flat_map}
use Rattle.kinds.specs.declared.segment.Segment.{Segment}
use Rattle.entries.specs.change_items.declared.items.MovedCopy.{MovedCopy}
use Rattle.entries.specs.change_items.declared.items.ScratchVolume.{ScratchVolume}
use Rattle.inventory_rows.specs.version_groups.declared.copies.CopyRow.{CopyRow}
use Rattle.inventory_rows.specs.version_groups.declared.versions.Version.{Version}
use Rattle.inventory_rows.specs.volume_rows.declared.volume.Volume.{Volume}
use Rattle.inventory_rows.specs.object_rows.Rows.{Rows, kept_of}
use Rattle.inventory_rows.specs.pool_tables.Rows.{row_at}
use Rattle.inventory_rows.specs.pool_rows.PoolRows.{is_sequential, is_sequential_at, is_sequential_row}
use Rattle.inventory_rows.specs.Search.{pool, segments_on}
use Rattle.inventory_rows.specs.State.{Inv}
use Rattle.inventory_rules.specs.Segments.{are_clear, copy_fits_after, leaves, lies_rightly, segment_fits_after}
use Rattle.inventory_fits.specs.declared.targets.Target.{Target}
use Rattle.inventory_fits.specs.Fitting.{copy_fits_at, segment_fits_at}
use Rattle.inventory_fits.specs.Sizes.{have_bytes}
use Rattle.inventory_fits.specs.Targets.{made, target_of, target_at, is_sequential_target, lies_at}
use Rattle.inventory_fits.proofs.Lists.{same_all}
use Rattle.inventory_fits.proofs.Made.{same_clients, same_pools, same_capacity, made_target}

lies_by_target : (q : Bool) (number : ℕ) (s : Segment) (o : Option Volume) → lies_rightly q number s o ≡ lies_at q number s (target_of o)
lies_by_target q number s None = refl
lies_by_target q number s (Some volume) = refl

abbrev segments_in_rows : ℕ → Rows → List (ℕ × Segment)
segments_in_rows file rows = flat_map (λ (e : ℕ × CopyRow). map (λ (s : Segment). (e.0, s)) (filter (λ (s : Segment). eqb s.file file) e.1.segments)) (flat_map (λ (w : Version). map (λ (c : CopyRow). (w.object, c)) w.copies) (kept_of rows))

segments_stay : (file : ℕ) (scratch : List ScratchVolume) (v : Inv) → segments_on file (made scratch v) ≡ segments_on file v
segments_stay file scratch v = ap (segments_in_rows file) (same_clients scratch v)

sequential_stays : (number : ℕ) (scratch : List ScratchVolume) (v : Inv) → is_sequential number (made scratch v).stores ≡ is_sequential number v.stores
sequential_stays number scratch v = ap is_some (same_capacity number scratch v)

abbrev fits_by : List MovedCopy → Bool → ℕ → Segment → Option Target → List (ℕ × Segment) → Bool
fits_by moved q number s target there = lies_at q number s target && list_all (λ e. leaves moved number e.0 || are_clear q s e.1) there

segment_seen : (moved : List MovedCopy) (scratch : List ScratchVolume) (v : Inv) (number : ℕ) (s : Segment) → segment_fits_at moved scratch v number s ≡ segment_fits_after moved (made scratch v) number s
unfolding segment_fits_at
segment_seen moved scratch v number s =
    sym (
    ap (λ b. b && list_all (λ e. leaves moved number e.0 || are_clear (is_sequential number (made scratch v).stores) s e.1) (segments_on s.file (made scratch v)))
    (lies_by_target (is_sequential number (made scratch v).stores) number s (row_at s.file (made scratch v).stores.volumes))
    ∙ ap (λ q. fits_by moved q number s (target_of (row_at s.file (made scratch v).stores.volumes)) (segments_on s.file (made scratch v))) (sequential_stays number scratch v)
    ∙ ap (λ t. fits_by moved (is_sequential number v.stores) number s t (segments_on s.file (made scratch v))) (made_target s.file scratch v)
    ∙ ap (fits_by moved (is_sequential number v.stores) number s (target_at v.stores s.file scratch)) (segments_stay s.file scratch v)
    )

pub pool_stays : (number : ℕ) (scratch : List ScratchVolume) (v : Inv) → pool number (made scratch v) ≡ pool number v
pool_stays number scratch v = ap (row_at number) (same_pools scratch v)

pub copy_seen : (moved : List MovedCopy) (scratch : List ScratchVolume) (v : Inv) (number size : ℕ) (segments : List Segment) → copy_fits_at moved scratch v number size segments ≡ copy_fits_after moved (made scratch v) number size segments
unfolding copy_fits_at
copy_seen moved scratch v number size segments =
    ap (λ o. is_some o && (have_bytes size segments && list_all (segment_fits_at moved scratch v number) segments)) (sym (pool_stays number scratch v))
    ∙ ap (λ b. is_some (pool number (made scratch v)) && (have_bytes size segments && b)) (same_all (segment_fits_at moved scratch v number) (segment_fits_after moved (made scratch v) number) (segment_seen moved scratch v number) segments)

sequential_by_target : (scratch : List ScratchVolume) (v : Inv) (o : Option Volume) → is_sequential_row (made scratch v).stores o ≡ is_sequential_target v.stores (target_of o)
sequential_by_target scratch v None = refl
sequential_by_target scratch v (Some volume) = sequential_stays volume.pool scratch v

-- a volume's kind is that of its pool
pub sequential_seen : (file : ℕ) (scratch : List ScratchVolume) (v : Inv) → is_sequential_target v.stores (target_at v.stores file scratch) ≡ is_sequential_at file (made scratch v).stores
sequential_seen file scratch v = sym (sequential_by_target scratch v (row_at file (made scratch v).stores.volumes) ∙ ap (is_sequential_target v.stores) (made_target file scratch v))
