use Rattle.std.specs.Prelude.{ℕ, zero, suc, ◌+◌, ◌*◌, ◌==◌, Bool, is_some, Option, Some, None, Result, Ok, Err, List, [], ◌∷◌, length, if◌then◌else◌}
use Rattle.std.specs.List.{sum_by}
use Rattle.std.specs.Map.{lookup, set_value, remove_entry}
use Rattle.std.specs.BTreeMap.{insert_entry, is_at}
use Rattle.kinds.specs.Least.{lesser}
use Rattle.kinds.specs.declared.refusal.Refusal.{Refusal}
use Rattle.kinds.specs.declared.refusal.Refusal.TheVariants.{NotFound}
use Rattle.volume_rows.specs.declared.held.HeldSegment.{HeldSegment}
use Rattle.volume_rows.specs.Held.{held_cmp, frame_bytes, blocks_of}

-- the number of the segment's repeats, where it stands there
abbrev pub repeats_of : HeldSegment → List (HeldSegment × ℕ) → Option ℕ
repeats_of s held = lookup (is_at (held_cmp s)) held

-- the segment stands there
abbrev pub is_held : HeldSegment → List (HeldSegment × ℕ) → Bool
is_held s held = is_some (repeats_of s held)

-- no segment stands there
abbrev pub is_bare : List (HeldSegment × ℕ) → Bool
is_bare held = length held == 0

abbrev pub raised : HeldSegment → Option ℕ → List (HeldSegment × ℕ) → List (HeldSegment × ℕ)
raised s None held = insert_entry held_cmp held s 0
raised s (Some n) held = set_value (is_at (held_cmp s)) held (n + 1)

-- the segment stands there once more
abbrev pub with_segment : HeldSegment → List (HeldSegment × ℕ) → List (HeldSegment × ℕ)
with_segment s held = raised s (repeats_of s held) held

abbrev pub lowered : HeldSegment → Option ℕ → List (HeldSegment × ℕ) → List (HeldSegment × ℕ)
lowered s None held = held
lowered s (Some zero) held = remove_entry (is_at (held_cmp s)) held
lowered s (Some (suc n)) held = set_value (is_at (held_cmp s)) held n

-- the segment stands there once less
abbrev pub without_segment : HeldSegment → List (HeldSegment × ℕ) → List (HeldSegment × ℕ)
without_segment s held = lowered s (repeats_of s held) held

-- the segment is taken away, or was not there
abbrev pub taken : HeldSegment → List (HeldSegment × ℕ) → Result (List (HeldSegment × ℕ)) Refusal
taken s held = if is_held s held then Ok (without_segment s held) else Err NotFound

-- what each segment weighs, as often as it stands there, in all
abbrev pub weight_of : (HeldSegment → ℕ) → List (HeldSegment × ℕ) → ℕ
weight_of weigh held = sum_by (λ e. weigh e.0 * (e.1 + 1)) held

-- the frames' bytes in all
abbrev pub live_bytes : List (HeldSegment × ℕ) → ℕ
live_bytes held = weight_of frame_bytes held

-- the frames' blocks in all
abbrev pub used_blocks : List (HeldSegment × ℕ) → ℕ
used_blocks held = weight_of blocks_of held

-- the least object with a segment there
abbrev pub least_object : List (HeldSegment × ℕ) → Option ℕ
least_object [] = None
least_object (e ∷ held) = lesser (Some e.0.object) (least_object held)
