-- What a volume's row holds, as far as a new segment's frame may overlap it.
use Rattle.std.specs.Prelude.{ℕ, Bool, List, ◌||◌}
use Rattle.std.specs.List.{list_all}
use Rattle.kinds.specs.declared.segment.Segment.{Segment}
use Rattle.entries.specs.change_items.declared.items.MovedCopy.{MovedCopy}
use Rattle.inventory_rows.specs.version_groups.Entries.{all_later}
use Rattle.inventory_rows.specs.volume_rows.declared.held.HeldSegment.{HeldSegment}
use Rattle.inventory_rules.specs.Segments.{are_clear, leaves}

-- a segment that is held, on whichever volume
abbrev pub frame_of : HeldSegment → Segment
frame_of h = record { file = 0; offset = h.offset; len = h.len }

-- a segment is clear of each that is held
abbrev pub is_clear : Bool → Segment → List (HeldSegment × ℕ) → Bool
is_clear sequential s held = list_all (λ e. are_clear sequential s (frame_of e.0)) held

-- the same but for those of copies that move from this pool
abbrev pub is_clear_after : List MovedCopy → ℕ → Bool → Segment → List (HeldSegment × ℕ) → Bool
is_clear_after moved number sequential s held = list_all (λ e. leaves moved number e.0.object || are_clear sequential s (frame_of e.0)) held

-- no two that are held overlap
abbrev pub are_held_apart : Bool → List (HeldSegment × ℕ) → Bool
are_held_apart sequential held = all_later (λ a b. are_clear sequential (frame_of a.0) (frame_of b.0)) held

-- where a segment begins, before all that are held there
abbrev pub start_of : Segment → HeldSegment
start_of s = record { offset = s.offset; object = 0; len = 0 }
