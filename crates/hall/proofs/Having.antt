-- What each copy of an object of a valid database has: all bytes of a piece, in frames within their volumes; and how many calls reading it takes at most.
use Rattle.std.proofs.Common.{◌≡◌, ℕ, zero, suc, get_or, take, ◌+◌, ◌^◌, ◌<◌, ◌≤◌, eqb, true, false, cond, ◌&&◌, nat_le, nat_lt, is_some, List, [], ◌∷◌, ◌++◌, length, Option, Some, None, sym, subst, arith}
use Rattle.std.specs.Prelude.{IfSome}
use Rattle.std.specs.List.{AllByRecursion, sum_by}
use Rattle.std.specs.Map.{values_of}
use Rattle.std.specs.Option.{option_map_or}
use Rattle.std.proofs.lemmas.Bool.{le-leb, leb-true}
use Rattle.std.proofs.lemmas.List.{take_more}
use Rattle.std.proofs.lemmas.List.Sums.{sum_by-cons, sum_by-le-sum_by}
use Rattle.std.proofs.lemmas.Option.{same_Some}
use Rattle.kinds.specs.declared.segment.Segment.{Segment}
use Rattle.volume_frames.specs.Frames.{bytes_len}
use Rattle.inventory_laws.proofs.Facts.{facts_of}
use Rattle.inventory_laws.proofs.Lists.{each_both}
use Rattle.inventory_rows.specs.Items.{count_items, items_of_filespace, items_of_group, items_of_version, most_items}
use Rattle.inventory_rows.specs.Search.{version, versions}
use Rattle.inventory_rows.specs.State.{Inv}
use Rattle.inventory_rows.specs.object_rows.Filespaces.{versions_in, versions_of}
use Rattle.inventory_rows.specs.object_rows.HeldRows.{held_versions}
use Rattle.inventory_rows.specs.object_rows.Items.{items_of_filespaces, items_of_held, items_with}
use Rattle.inventory_rows.specs.object_rows.declared.held_object.HeldRow.{HeldRow}
use Rattle.inventory_rows.specs.pool_tables.Rows.{row_at}
use Rattle.inventory_rows.specs.version_groups.Versions.{version_of}
use Rattle.inventory_rows.specs.version_groups.declared.copies.CopyRow.{CopyRow}
use Rattle.inventory_rows.specs.version_groups.declared.group.Group.{Group}
use Rattle.inventory_rows.specs.version_groups.declared.groups.Filespace.{Filespace}
use Rattle.inventory_rows.specs.version_groups.declared.versions.Version.{Version}
use Rattle.inventory_rows.specs.volume_rows.declared.volume.Volume.{Volume}
use Rattle.inventory_rules.specs.Valid.{is_valid}
use Rattle.contents.specs.Reading.{segments_in}
use Rattle.contents.proofs.Lying.{all_sized, all_there, all_within}
use Rattle.hall.specs.Reading.{HasPiece, calls_for, lies_within}
use Rattle.hall.proofs.Passing.{each_push}

-- what holds of each object holds of the one that is found
pub found_has : (P : Version → Type 0) (object : ℕ) (list : List Version) (w : Version) → AllByRecursion P list → version_of object list ≡ Some w → P w
found_has P object [] w all h = absurd cc
found_has P object (x ∷ list) w all h = elim (eqb x.object object) as (λ b. cond b (Some x) (version_of object list) ≡ Some w → P w) [
  | true ↦ λ t. subst P (same_Some x w t) all.0
  | false ↦ λ t. found_has P object list w all.1 t
] h

-- ---- frames

there_within : (o : Option Volume) (s : Segment) → is_some o ≡ true → IfSome o (λ volume. s.offset + 32 + s.len ≤ volume.capacity)
    → option_map_or (λ volume. nat_le (s.offset + 32 + s.len) volume.capacity) o false ≡ true
there_within None s there within = absurd cc
there_within (Some volume) s there within = le-leb (s.offset + 32 + s.len) volume.capacity within

pub all_have : (v : Inv) (w : Version) (offset count : ℕ) → is_valid v ≡ true → version w.object v ≡ Some w → offset + count ≤ w.size → w.size < 2 ^ 64 → AllByRecursion (HasPiece v offset count) w.copies
all_have v w offset count valid found room long =
    let sized = found_has (λ (x : Version). AllByRecursion (λ (c : CopyRow). bytes_len c.segments ≡ x.size) x.copies) w.object (versions v) w (all_sized v valid) found in
    let ends : Segment → Type 0 = λ s. IfSome (row_at s.file v.stores.volumes) (λ volume. s.offset + 32 + s.len ≤ volume.capacity) in
    let there : Segment → Type 0 = λ s. is_some (row_at s.file v.stores.volumes) ≡ true in
    let each_ends = found_has (λ (x : Version). AllByRecursion (λ (c : CopyRow). AllByRecursion ends c.segments) x.copies) w.object (versions v) w (all_within v valid) found in
    let each_there = found_has (λ (x : Version). AllByRecursion (λ (c : CopyRow). AllByRecursion there c.segments) x.copies) w.object (versions v) w (all_there v valid) found in
    let each_lies : AllByRecursion (λ (c : CopyRow). AllByRecursion (λ s. lies_within v s ≡ true) c.segments) w.copies =
    each_both (λ (c : CopyRow). AllByRecursion there c.segments) (λ (c : CopyRow). AllByRecursion ends c.segments) (λ (c : CopyRow). AllByRecursion (λ s. lies_within v s ≡ true) c.segments) w.copies
    (λ c a b. each_both there ends (λ s. lies_within v s ≡ true) c.segments (λ s t e. there_within (row_at s.file v.stores.volumes) s t e) a b) each_there each_ends in
    each_both (λ (c : CopyRow). bytes_len c.segments ≡ w.size) (λ (c : CopyRow). AllByRecursion (λ s. lies_within v s ≡ true) c.segments) (HasPiece v offset count) w.copies
    (λ c size lies. record { room = omega (arith, size, room); long = omega (arith, size, long); within = lies }) sized each_lies

-- a volume has at most 2^40 bytes, so that a frame within it ends below 2^64
near_on : (o : Option Volume) (s : Segment) → option_map_or (λ volume. nat_le (s.offset + 32 + s.len) volume.capacity) o false ≡ true → IfSome o (λ volume. volume.capacity ≤ 2 ^ 40)
    → s.offset + 32 + s.len < 2 ^ 64
near_on None s there bounded = absurd cc
near_on (Some volume) s there bounded = let le : s.offset + 32 + s.len ≤ volume.capacity = leb-true (s.offset + 32 + s.len) volume.capacity there in omega (arith, le, bounded)

pub near : (v : Inv) (s : Segment) → lies_within v s ≡ true → IfSome (row_at s.file v.stores.volumes) (λ volume. volume.capacity ≤ 2 ^ 40) → s.offset + 32 + s.len < 2 ^ 64
near v s there bounded = near_on (row_at s.file v.stores.volumes) s there bounded

-- ---- calls

few_in : (start offset count : ℕ) (segments : List Segment) → length (segments_in start offset count segments) ≤ length segments
few_in start offset count [] = omega arith
few_in start offset count (s ∷ segments) =
    let rest : length (segments_in (start + s.len) offset count segments) ≤ length segments = few_in (start + s.len) offset count segments in
    elim (nat_lt start (offset + count) && nat_lt offset (start + s.len)) as (λ b. length (cond b (s ∷ []) [] ++ segments_in (start + s.len) offset count segments) ≤ length (s ∷ segments)) [
      | true ↦ omega (arith, rest)
      | false ↦ omega (arith, rest)
    ]

each_below : {X : Type 0} (f : X → ℕ) (m : ℕ) (xs : List X) → sum_by f xs ≤ m → AllByRecursion (λ x. f x ≤ m) xs
each_below f m [] l = tt
each_below f m (x ∷ xs) l = let e = sum_by-cons f x xs in (omega (arith, e, l), each_below f m xs (omega (arith, e, l)))

each_joined : (P : Version → Type 0) (xs ys : List Version) → AllByRecursion P xs → AllByRecursion P ys → AllByRecursion P (xs ++ ys)
each_joined P [] ys a b = b
each_joined P (x ∷ xs) ys a b = (a.0, each_joined P xs ys a.1 b)

module _ (m : ℕ) where
  abbrev Few : Version → Type 0
  Few x = items_of_version x ≤ m

  few_in_groups : (gs : List (List ℕ × Group)) → sum_by (λ (g : List ℕ × Group). items_of_group g.1) gs ≤ m → AllByRecursion Few (versions_in gs)
  few_in_groups [] l = tt
  few_in_groups (g ∷ gs) l =
      let e = sum_by-cons (λ (x : List ℕ × Group). items_of_group x.1) g gs in
      each_joined Few g.1.versions (versions_in gs) (each_below items_of_version m g.1.versions (omega (arith, e, l))) (few_in_groups gs (omega (arith, e, l)))

  few_in_filespaces : (fs : List (ℕ × Filespace)) → items_of_filespaces fs ≤ m → AllByRecursion Few (versions_of fs)
  few_in_filespaces [] l = tt
  few_in_filespaces (f ∷ fs) l =
      let e = sum_by-cons (λ (x : ℕ × Filespace). items_of_filespace x.1) f fs in
      each_joined Few (versions_in f.1.groups) (versions_of fs) (few_in_groups f.1.groups (omega (arith, e, l))) (few_in_filespaces fs (omega (arith, e, l)))

  few_in_held : (hs : List (ℕ × HeldRow)) → items_of_held hs ≤ m → AllByRecursion Few (held_versions hs)
  few_in_held [] l = tt
  few_in_held (h ∷ hs) l =
      let e = sum_by-cons (λ (r : HeldRow). items_with r.held.version.copies) h.1 (values_of hs) in
      (omega (arith, e, l), few_in_held hs (omega (arith, e, l)))

few_items : (v : Inv) → is_valid v ≡ true → AllByRecursion (λ x. items_of_version x ≤ most_items) (versions v)
few_items v valid =
    let all : count_items v ≤ most_items = leb-true (count_items v) most_items (facts_of v valid).few_items in
    let fs : items_of_filespaces v.clients.filespaces ≤ count_items v = omega arith in
    let hs : items_of_held v.clients.held ≤ count_items v = omega arith in
    each_joined (λ x. items_of_version x ≤ most_items) (versions_of v.clients.filespaces) (held_versions v.clients.held)
    (few_in_filespaces most_items v.clients.filespaces (omega (arith, fs, all))) (few_in_held most_items v.clients.held (omega (arith, hs, all)))

-- the calls for all copies of an object are no more than a database has items
pub calls_bounded : (v : Inv) (w : Version) (offset count : ℕ) → is_valid v ≡ true → version w.object v ≡ Some w → calls_for offset count w.copies ≤ most_items
calls_bounded v w offset count valid found =
    let items : items_of_version w ≤ most_items = found_has (λ x. items_of_version x ≤ most_items) w.object (versions v) w (few_items v valid) found in
    let calls : calls_for offset count w.copies ≤ sum_by (λ (c : CopyRow). length c.segments) w.copies =
    sum_by-le-sum_by (λ (c : CopyRow). length (segments_in 0 offset count c.segments)) (λ (c : CopyRow). length c.segments) w.copies (λ c. few_in 0 offset count c.segments) in
    omega (arith, items, calls)

-- and so fewer than 2^24
pub few_calls : (v : Inv) (w : Version) (offset count : ℕ) → is_valid v ≡ true → version w.object v ≡ Some w → calls_for offset count w.copies < 2 ^ 24
few_calls v w offset count valid found = let all : calls_for offset count w.copies ≤ most_items = calls_bounded v w offset count valid found in omega (arith, all)

all_at : (P : Segment → Type 0) (xs : List Segment) (i : ℕ) (d : Segment) → i < length xs → AllByRecursion P xs → P (get_or xs i d)
all_at P [] i d lt all = absurd (omega (arith, lt))
all_at P (x ∷ xs) zero d lt all = all.0
all_at P (x ∷ xs) (suc i) d lt all = all_at P xs i d (omega (arith, lt)) all.1

-- of one segment more
pub near_more : (v : Inv) (segments : List Segment) (i : ℕ) (d : Segment) → i < length segments → AllByRecursion (λ s. lies_within v s ≡ true) segments
    → IfSome (row_at (get_or segments i d).file v.stores.volumes) (λ volume. volume.capacity ≤ 2 ^ 40) → AllByRecursion (λ (s : Segment). s.offset + 32 + s.len < 2 ^ 64) (take i segments)
    → AllByRecursion (λ (s : Segment). s.offset + 32 + s.len < 2 ^ 64) (take (i + 1) segments)
near_more v segments i d lt within bounded so_far =
    let s : Segment = get_or segments i d in
    subst (AllByRecursion (λ (x : Segment). x.offset + 32 + x.len < 2 ^ 64)) (sym (take_more segments i d lt))
    (each_push (λ (x : Segment). x.offset + 32 + x.len < 2 ^ 64) (take i segments) s so_far (near v s (all_at (λ x. lies_within v x ≡ true) segments i d lt within) bounded))
