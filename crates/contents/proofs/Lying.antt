-- How many bytes the copies of a valid database have, and where their frames lie.
use Rattle.std.proofs.Common.{◌≡◌, ℕ, ◌+◌, ◌%◌, ◌≤◌, eqb, Bool, true, false, cond, ◌&&◌, not, nat_le, is_some, List, [], ◌∷◌, length, Option, Some, None, refl, sym, ap, subst, ◌∙◌, arith}
use Rattle.std.specs.Prelude.{IfSome}
use Rattle.std.specs.BTreeMap.{is_at}
use Rattle.std.specs.Ordering.{nat_cmp}
use Rattle.std.specs.Option.{option_map_or}
use Rattle.std.specs.List.{AllByRecursion, list_all, sum_by}
use Rattle.std.proofs.lemmas.Bool.{eqb-true, le-leb, leb-true}
use Rattle.std.proofs.lemmas.List.Sums.{sum_by-cons}
use Rattle.std.proofs.lemmas.Option.{same_Some}
use Rattle.kinds.specs.declared.segment.Segment.{Segment}
use Rattle.volume_frames.specs.Frames.{bytes_len}
use Rattle.inventory_laws.specs.inventory_rows.version_groups.Copies.{are_by_pool}
use Rattle.inventory_laws.specs.inventory_rows.version_groups.Entries.{is_nil}
use Rattle.inventory_laws.specs.inventory_rows.version_groups.declared.copies.CopyRow.{CopyRow}
use Rattle.inventory_laws.specs.inventory_rows.version_groups.declared.versions.Version.{Version}
use Rattle.inventory_laws.specs.inventory_rows.volume_rows.declared.volume.Volume.{Volume}
use Rattle.inventory_laws.specs.inventory_rows.pool_rows.PoolRows.{is_sequential, pool_capacity}
use Rattle.inventory_laws.specs.inventory_rows.pool_tables.Rows.{row_at}
use Rattle.inventory_laws.proofs.of_inventory_rows.of_object_rows.Stands.{at-eqb}
use Rattle.inventory_laws.specs.inventory_rows.Search.{is_primary_kind, pool, segments_on, versions}
use Rattle.inventory_laws.specs.inventory_rows.State.{Inv}
use Rattle.inventory_laws.specs.inventory_rules.Valid.{are_disjoint, is_copied, is_of_pool, is_placed, is_sized, is_valid, is_volume, may_have, primary_copies, volumes_are}
use Rattle.inventory_laws.proofs.Facts.{facts_of, first, rest}
use Rattle.inventory_laws.proofs.VolumeRows.{all_so}
use Rattle.contents.proofs.Segments.{EachSegment, all_weaker, each_on, each_passes, versions_pass}

-- a copy's bytes are those of its segments together
sums : (segments : List Segment) → bytes_len segments ≡ sum_by (λ (s : Segment). s.len) segments
sums [] = refl
sums (s ∷ segments) = ap (λ n. s.len + n) (sums segments) ∙ sym (sum_by-cons (λ (x : Segment). x.len) s segments)

copied_sized : (v : Inv) (w : Version) → is_copied v w ≡ true → AllByRecursion (λ (c : CopyRow). bytes_len c.segments ≡ w.size) w.copies
copied_sized v w h =
    let full : CopyRow → Bool = λ (c : CopyRow). eqb (sum_by (λ s. s.len) c.segments) w.size in
    let all : list_all full w.copies ≡ true = rest (are_by_pool w.copies) (list_all full w.copies) (rest (nat_le (length (primary_copies v w)) 1) _ (rest (not (is_nil w.copies)) _ h)) in
    all_weaker (λ (c : CopyRow). full c ≡ true) (λ (c : CopyRow). bytes_len c.segments ≡ w.size) (λ c e. sums c.segments ∙ eqb-true (sum_by (λ s. s.len) c.segments) w.size e) w.copies (each_passes full w.copies all)

-- each copy has as many bytes as its object's size says
pub all_sized : (v : Inv) → is_valid v ≡ true → AllByRecursion (λ (x : Version). AllByRecursion (λ (c : CopyRow). bytes_len c.segments ≡ x.size) x.copies) (versions v)
all_sized v valid = all_weaker (λ (x : Version). is_copied v x ≡ true) (λ (x : Version). AllByRecursion (λ (c : CopyRow). bytes_len c.segments ≡ x.size) x.copies) (copied_sized v) (versions v) (each_passes (is_copied v) (versions v) (facts_of v valid).versions_copied)

-- ---- within the volumes

-- what holds for each number holds of each element for each number
swapped : {X : Type 0} (P : ℕ → X → Type 0) (xs : List X) → ((n : ℕ) → AllByRecursion (P n) xs) → AllByRecursion (λ (x : X). (n : ℕ) → P n x) xs
swapped P [] h = tt
swapped P (x ∷ xs) h = (λ n. (h n).0, swapped P xs (λ n. (h n).1))

-- a row that is found passes what all rows pass
row_passes : (test : ℕ × Volume → Bool) (k : ℕ) (volume : Volume) (rows : List (ℕ × Volume)) → list_all test rows ≡ true → row_at k rows ≡ Some volume → test (k, volume) ≡ true
row_passes test k volume [] all h = absurd cc
row_passes test k volume (e ∷ rows) all h =
    elim (is_at (nat_cmp k) e.0) as (λ b. is_at (nat_cmp k) e.0 ≡ b → cond b (Some e.1) (row_at k rows) ≡ Some volume → test (k, volume) ≡ true) [
      | true ↦ λ t s.
          let key : e.0 ≡ k = eqb-true e.0 k (sym (at-eqb k e.0) ∙ t) in
          subst (λ (n : ℕ). test (n, volume) ≡ true) key (subst (λ (x : Volume). test (e.0, x) ≡ true) (same_Some e.1 volume s) (first (test e) (list_all test rows) all))
      | false ↦ λ t s. row_passes test k volume rows (rest (test e) (list_all test rows) all) s
    ] refl h

-- the segment's frame ends within this volume, where there is one
abbrev is_within : Option Volume → Segment → Bool
is_within o s = option_map_or (λ (volume : Volume). nat_le (s.offset + 32 + s.len) volume.capacity) o true

-- what was written on a volume lies within its capacity, so that segments that are placed there do
placed_within : (sequential : Bool) (v : Inv) (volume : Volume) (s : Segment) → is_sized sequential v volume ≡ true → is_placed sequential volume s ≡ true → nat_le (s.offset + 32 + s.len) volume.capacity ≡ true
placed_within true v volume s sized placed =
    let end = leb-true volume.end volume.capacity (rest (option_map_or (λ capacity. eqb volume.capacity capacity) (pool_capacity volume.pool v.stores) false) (nat_le volume.end volume.capacity) sized) in
    let place = leb-true (s.offset + 32 + s.len) volume.end (first (nat_le (s.offset + 32 + s.len) volume.end) true placed) in
    le-leb (s.offset + 32 + s.len) volume.capacity (omega (arith, end, place))
placed_within false v volume s sized placed = first (nat_le (s.offset + 32 + s.len) volume.capacity) (eqb (s.offset % 4096) 0) placed

volume_within : (v : Inv) (file : ℕ) (volume : Volume) → is_volume v (file, volume) ≡ true → list_all (λ (e : ℕ × Segment). nat_le (e.1.offset + 32 + e.1.len) volume.capacity) (segments_on file v) ≡ true
volume_within v file volume h =
    let sequential = is_sequential volume.pool v.stores in
    let there = segments_on file v in
    let sized = first (is_sized sequential v volume) _ h in
    let placed = first (list_all (λ (e : ℕ × Segment). is_placed sequential volume e.1) there) _ (rest (are_disjoint sequential there) _ (rest (may_have volume.access (option_map_or (λ p. is_primary_kind p.kind) (pool volume.pool v) false)) _ (rest (is_sized sequential v volume) _ h))) in
    all_so (λ (e : ℕ × Segment). is_placed sequential volume e.1) (λ (e : ℕ × Segment). nat_le (e.1.offset + 32 + e.1.len) volume.capacity) (λ e t. placed_within sequential v volume e.1 sized t) there placed

all_true : (xs : List (ℕ × Segment)) → list_all (λ (e : ℕ × Segment). is_within None e.1) xs ≡ true
all_true [] = refl
all_true (x ∷ xs) = all_true xs

on_within : (v : Inv) (file : ℕ) (o : Option Volume) → volumes_are v ≡ true → row_at file v.stores.volumes ≡ o → list_all (λ (e : ℕ × Segment). is_within o e.1) (segments_on file v) ≡ true
on_within v file None are h = all_true (segments_on file v)
on_within v file (Some volume) are h = volume_within v file volume (row_passes (is_volume v) file volume v.stores.volumes are h)

within_row : (o : Option Volume) (s : Segment) → is_within o s ≡ true → IfSome o (λ volume. s.offset + 32 + s.len ≤ volume.capacity)
within_row None s h = tt
within_row (Some volume) s h = leb-true (s.offset + 32 + s.len) volume.capacity h

-- each segment ends within its volume, where that is there
pub all_within : (v : Inv) → is_valid v ≡ true → EachSegment (λ s. IfSome (row_at s.file v.stores.volumes) (λ volume. s.offset + 32 + s.len ≤ volume.capacity)) (versions v)
all_within v valid =
    let on : ℕ → Segment → Type 0 = λ file s. s.file ≡ file → is_within (row_at file v.stores.volumes) s ≡ true in
    let ends : Segment → Type 0 = λ s. IfSome (row_at s.file v.stores.volumes) (λ volume. s.offset + 32 + s.len ≤ volume.capacity) in
    all_weaker (λ (x : Version). (n : ℕ) → AllByRecursion (λ (c : CopyRow). AllByRecursion (on n) c.segments) x.copies) (λ (x : Version). AllByRecursion (λ (c : CopyRow). AllByRecursion ends c.segments) x.copies)
    (λ x each. all_weaker (λ (c : CopyRow). (n : ℕ) → AllByRecursion (on n) c.segments) (λ (c : CopyRow). AllByRecursion ends c.segments)
    (λ c every. all_weaker (λ (s : Segment). (n : ℕ) → on n s) ends (λ s h. within_row (row_at s.file v.stores.volumes) s (h s.file refl)) c.segments (swapped on c.segments every))
    x.copies (swapped (λ n (c : CopyRow). AllByRecursion (on n) c.segments) x.copies each))
    (versions v) (swapped (λ n (x : Version). AllByRecursion (λ (c : CopyRow). AllByRecursion (on n) c.segments) x.copies) (versions v)
    (λ n. each_on (is_within (row_at n v.stores.volumes)) n v (on_within v n (row_at n v.stores.volumes) (facts_of v valid).volumes_are refl)))

there_of_pool : (number : ℕ) (o : Option Volume) → is_of_pool number o ≡ true → is_some o ≡ true
there_of_pool number None t = absurd cc
there_of_pool number (Some volume) t = refl

-- each segment lies on a volume that is there
pub all_there : (v : Inv) → is_valid v ≡ true → EachSegment (λ s. is_some (row_at s.file v.stores.volumes) ≡ true) (versions v)
all_there v valid =
    versions_pass (λ e. is_some (pool e.1.pool v) && list_all (λ s. is_of_pool e.1.pool (row_at s.file v.stores.volumes)) e.1.segments) (λ s. is_some (row_at s.file v.stores.volumes) ≡ true)
    (λ e h. all_weaker (λ (s : Segment). is_of_pool e.1.pool (row_at s.file v.stores.volumes) ≡ true) (λ s. is_some (row_at s.file v.stores.volumes) ≡ true)
    (λ s t. there_of_pool e.1.pool (row_at s.file v.stores.volumes) t) e.1.segments
    (each_passes (λ s. is_of_pool e.1.pool (row_at s.file v.stores.volumes)) e.1.segments (rest (is_some (pool e.1.pool v)) (list_all (λ s. is_of_pool e.1.pool (row_at s.file v.stores.volumes)) e.1.segments) h)))
    (versions v) (facts_of v valid).copies_cite
