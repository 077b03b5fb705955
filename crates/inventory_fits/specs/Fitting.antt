-- The tests of new versions and copies, by what the database says before the scratch volumes are made.
use Rattle.std.specs.Prelude.{ℕ, Bool, true, false, not, ◌==◌, ◌&&◌, ◌||◌, is_some, List, [], ◌∷◌}
use Rattle.std.specs.List.{list_all, list_any, flat_map}
use Rattle.std.specs.Option.{option_map_or}
use Rattle.kinds.specs.declared.segment.Segment.{Segment}
use Rattle.entries.specs.change_items.declared.items.MovedCopy.{MovedCopy}
use Rattle.entries.specs.change_items.declared.items.NewCopy.{NewCopy}
use Rattle.entries.specs.change_items.declared.items.ScratchVolume.{ScratchVolume}
use Rattle.inventory_rows.specs.version_groups.declared.copies.CopyRow.{CopyRow}
use Rattle.inventory_rows.specs.version_groups.declared.versions.Version.{Version}
use Rattle.inventory_rows.specs.pool_rows.PoolRows.{is_sequential, is_sequential_at}
use Rattle.inventory_rows.specs.Search.{is_primary, pool, segments_on, version}
use Rattle.inventory_rows.specs.State.{Inv}
use Rattle.inventory_rules.specs.Segments.{are_clear, leaves}
use Rattle.inventory_fits.specs.Sizes.{have_bytes}
use Rattle.inventory_fits.specs.Targets.{lies_at, target_at}

-- two new segments don't overlap, the first of which lies on a volume of this kind
abbrev pub are_clear_by : Bool → Segment → Segment → Bool
are_clear_by sequential a b = not (a.file == b.file) || are_clear sequential a b

-- two new segments don't overlap
abbrev pub are_clear_pair : Inv → Segment → Segment → Bool
are_clear_pair v a b = are_clear_by (is_sequential_at a.file v.stores) a b

-- the first segments are each so related to those behind it
abbrev pub lead : {X : Type 0} → (X → X → Bool) → List X → List X → Bool
lead r [] others = true
lead r (x ∷ xs) others = (list_all (r x) xs && list_all (r x) others) && lead r xs others

-- one of the copies lies in a primary pool
abbrev pub has_primary : Inv → List CopyRow → Bool
has_primary v copies = list_any (λ c. is_primary c.pool v) copies

-- one of the copies but those in the one pool lies in the other
abbrev pub has_other : ℕ → ℕ → List CopyRow → Bool
has_other from pool copies = list_any (λ c. not (c.pool == from) && c.pool == pool) copies

-- each of the copies that lies in a primary pool lies in this one
abbrev pub are_primary_in : Inv → ℕ → List CopyRow → Bool
are_primary_in v from copies = list_all (λ c. not (is_primary c.pool v) || c.pool == from) copies

-- the first items' segments overlap neither one another nor those of later items
abbrev pub all_lead : {X S : Type 0} → (S → S → Bool) → (X → List S) → List X → Bool
all_lead r segments [] = true
all_lead r segments (x ∷ items) = lead r (segments x) (flat_map segments items) && all_lead r segments items

-- a segment lies on a volume of the pool, and overlaps none that lies there, but for those of copies that move from there
unfoldable pub segment_fits_at : List MovedCopy → List ScratchVolume → Inv → ℕ → Segment → Bool
segment_fits_at moved scratch v number s =
    lies_at (is_sequential number v.stores) number s (target_at v.stores s.file scratch)
    && list_all (λ e. leaves moved number e.0 || are_clear (is_sequential number v.stores) s e.1) (segments_on s.file v)

-- a copy's pool is there, its segments have so many bytes, and each fits
unfoldable pub copy_fits_at : List MovedCopy → List ScratchVolume → Inv → ℕ → ℕ → List Segment → Bool
copy_fits_at moved scratch v number size segments = is_some (pool number v) && (have_bytes size segments && list_all (segment_fits_at moved scratch v number) segments)

-- a new copy fits a version
abbrev pub added_fits_at : List ScratchVolume → Inv → NewCopy → Version → Bool
added_fits_at scratch v item w = copy_fits_at [] scratch v item.pool w.size item.segments && (not (is_primary item.pool v) || not (has_primary v w.copies))

-- it fits the version of its object
abbrev pub new_copy_fits_at : List ScratchVolume → Inv → NewCopy → Bool
new_copy_fits_at scratch v item = option_map_or (λ w. added_fits_at scratch v item w) (version item.object v) false

-- a copy that moves, together with these, fits a version
abbrev pub replaced_fits_at : List MovedCopy → List ScratchVolume → Inv → MovedCopy → Version → Bool
replaced_fits_at moved scratch v item w =
    copy_fits_at moved scratch v item.pool w.size item.segments && (not (has_other item.from item.pool w.copies) && (not (is_primary item.pool v) || are_primary_in v item.from w.copies))

-- it fits the version of its object
abbrev pub moved_copy_fits_at : List MovedCopy → List ScratchVolume → Inv → MovedCopy → Bool
moved_copy_fits_at moved scratch v item = option_map_or (λ w. replaced_fits_at moved scratch v item w) (version item.object v) false
