-- Scratch volumes are made, and segments put on volumes, one after the other.
use Rattle.std.proofs.Common.{◌≡◌, ℕ, ◌+◌, ◌^◌, ◌%◌, Bool, true, false, not, cond, List, [], ◌∷◌, map, Option, Some, None, refl, sym, ap, ◌∙◌}
use Rattle.std.specs.Prelude.{eqb, is_none, is_some, nat_le, nat_lt, ◌&&◌, ◌||◌, ◌==◌, sum_by}
use Rattle.std.specs.BTreeMap.{is_at}
use Rattle.std.specs.List.{list_all, flat_map}
use Rattle.std.specs.Ordering.{match_ordering, nat_cmp}
use Rattle.std.specs.declared.cmp.Ordering.TheVariants.{Less, Equal, Greater}
use Rattle.std.proofs.lemmas.Bool.{lt-ltb, ltb-true}
use Rattle.std.proofs.lemmas.List.Folds.{list_all-map}
use Rattle.kinds.specs.declared.segment.Segment.{Segment}
use Rattle.inventory_rules.specs.entries.change_items.declared.items.ScratchVolume.{ScratchVolume}
use Rattle.inventory_rules.proofs.of_inventory_rows.of_object_rows.Stands.{at-eqb}
use Rattle.inventory_rules.specs.inventory_rows.pool_rows.PoolRows.{is_sequential, is_sequential_at}
use Rattle.inventory_rules.specs.inventory_rows.pool_rows.Segments.{with_volumes}
use Rattle.inventory_rules.specs.inventory_rows.pool_tables.RowChanges as table
use Rattle.inventory_rules.specs.inventory_rows.pool_tables.RowChanges.{scratch_volume}
use Rattle.inventory_rules.specs.inventory_rows.pool_tables.Rows.{changed, row_at, set_row, with_row}
use Rattle.inventory_rules.specs.inventory_rows.version_groups.Entries.{all_later}
use Rattle.inventory_rules.specs.inventory_rows.volume_rows.declared.held.HeldSegment.{HeldSegment}
use Rattle.inventory_rules.specs.inventory_rows.volume_rows.declared.volume.Volume.{Volume}
use Rattle.inventory_rules.specs.inventory_rows.volume_rows.Held.{held_of}
use Rattle.inventory_rules.specs.inventory_rows.volume_rows.Volumes.{put_on}
use Rattle.inventory_rules.specs.inventory_rows.State.{Inv}
use Rattle.inventory_rules.specs.entries.change_items.declared.items.MovedCopy.{MovedCopy}
use Rattle.inventory_rules.specs.Common.{or_same, CanEach, file_bound, files_refused, is_free_file}
use Rattle.inventory_rules.specs.Segments.{make_scratch, put, CanPut, CanScratch, has_room, put_step, are_clear, copy_fits_after, lies_rightly, scratch_fits, segment_fits_after, scratch_refused, leaves}
use Rattle.inventory_laws.proofs.Facts.{both, first, rest}
use Rattle.inventory_rules.specs.inventory_rows.Search.{pool, segments_on}
use Rattle.kinds.specs.Refusals.{bad_value}
use Rattle.inventory_laws.proofs.Causes.{back_nil, file_below, front_nil, holds, not_false}
use Rattle.inventory_laws.proofs.MadeItems.{all_so, items_apart, none_refused}

module _ {X : Type 0} where
  behind_row : (n : ℕ) (e : ℕ × X) (es : List (ℕ × X)) → is_at (nat_cmp n) e.0 ≡ false → row_at n (e ∷ es) ≡ None → row_at n es ≡ None
  behind_row n e es away h = sym (ap (λ b. cond b (Some e.1) (row_at n es)) away) ∙ h

  not_here : (n : ℕ) (e : ℕ × X) (es : List (ℕ × X)) → row_at n (e ∷ es) ≡ None → is_at (nat_cmp n) e.0 ≡ false
  not_here n e es h =
      elim (is_at (nat_cmp n) e.0) as (λ b. cond b (Some e.1) (row_at n es) ≡ None → b ≡ false) [
        | true ↦ λ t. absurd cc
        | false ↦ λ _. refl
      ] h

  -- a new row is not found under another number
  pub row_beside : (n m : ℕ) (x : X) (es : List (ℕ × X)) → eqb m n ≡ false → row_at n es ≡ None → row_at n (with_row m x es) ≡ None
  row_beside n m x [] apart none = ap (λ b. cond b (Some x) None) (at-eqb n m ∙ apart)
  row_beside n m x (e ∷ es) apart none =
      let away : is_at (nat_cmp n) e.0 ≡ false = not_here n e es none in
      elim (nat_cmp m e.0) as (λ r. row_at n (match_ordering r ((m, x) ∷ e ∷ es) ((e.0, x) ∷ es) (e ∷ with_row m x es)) ≡ None) [
        | Less ↦ ap (λ b. cond b (Some x) (row_at n (e ∷ es))) (at-eqb n m ∙ apart) ∙ none
        | Equal ↦ ap (λ b. cond b (Some x) (row_at n es)) away ∙ behind_row n e es away none
        | Greater ↦ ap (λ b. cond b (Some e.1) (row_at n (with_row m x es))) away ∙ row_beside n m x es apart (behind_row n e es away none)
      ]

-- the scratch volumes have file numbers that no volume has, each its own, with one behind it, and pools that are sequential
pub record AllNew (scratch : List ScratchVolume) (v : Inv) : Type 0 where
  pub free : list_all (λ s. is_none (row_at s.file v.stores.volumes)) scratch ≡ true
  pub apart : all_later (λ a b. not (a.file == b.file)) scratch ≡ true
  pub sequential : list_all (λ s. is_sequential s.pool v.stores) scratch ≡ true
  pub next : list_all (λ s. nat_lt (s.file + 1) (2 ^ 32)) scratch ≡ true

none_of : {X : Type 0} (o : Option X) → is_none o ≡ true → o ≡ None
none_of None h = refl
none_of (Some x) h = absurd cc

is_none_of : {X : Type 0} (o : Option X) → o ≡ None → is_none o ≡ true
is_none_of None h = refl
is_none_of (Some x) h = absurd cc

-- the others stay free
still_free : (s : ScratchVolume) (row : Volume) (others : List ScratchVolume) (volumes : List (ℕ × Volume)) → list_all (λ b. not (s.file == b.file)) others ≡ true → list_all (λ b. is_none (row_at b.file volumes)) others ≡ true
    → list_all (λ b. is_none (row_at b.file (with_row s.file row volumes))) others ≡ true
still_free s row [] volumes apart free = refl
still_free s row (b ∷ others) volumes apart free =
    let away : eqb s.file b.file ≡ false = not_false (eqb s.file b.file) (first (not (s.file == b.file)) (list_all (λ b. not (s.file == b.file)) others) apart) in
    let none : row_at b.file volumes ≡ None = none_of (row_at b.file volumes) (first (is_none (row_at b.file volumes)) (list_all (λ b. is_none (row_at b.file volumes)) others) free) in
    both (is_none (row_at b.file (with_row s.file row volumes))) (list_all (λ b. is_none (row_at b.file (with_row s.file row volumes))) others)
    (is_none_of (row_at b.file (with_row s.file row volumes)) (row_beside b.file s.file row volumes away none))
    (still_free s row others volumes (rest (not (s.file == b.file)) (list_all (λ b. not (s.file == b.file)) others) apart) (rest (is_none (row_at b.file volumes)) (list_all (λ b. is_none (row_at b.file volumes)) others) free))

pub can_scratch_all : (scratch : List ScratchVolume) (v : Inv) → AllNew scratch v → CanEach CanScratch make_scratch scratch v
can_scratch_all [] v n = tt
can_scratch_all (s ∷ others) v n =
    let apart : list_all (λ b. not (s.file == b.file)) others ≡ true = first (list_all (λ b. not (s.file == b.file)) others) (all_later (λ a b. not (a.file == b.file)) others) n.apart in
    let free : list_all (λ b. is_none (row_at b.file v.stores.volumes)) others ≡ true = rest (is_none (row_at s.file v.stores.volumes)) (list_all (λ b. is_none (row_at b.file v.stores.volumes)) others) n.free in (
      record {
        free = none_of (row_at s.file v.stores.volumes) (first (is_none (row_at s.file v.stores.volumes)) (list_all (λ b. is_none (row_at b.file v.stores.volumes)) others) n.free);
        sequential = first (is_sequential s.pool v.stores) (list_all (λ b. is_sequential b.pool v.stores) others) n.sequential;
        next = ltb-true (s.file + 1) (2 ^ 32) (first (nat_lt (s.file + 1) (2 ^ 32)) (list_all (λ b. nat_lt (b.file + 1) (2 ^ 32)) others) n.next);
      },
      can_scratch_all others (make_scratch s v) (record {
        free = still_free s _ others v.stores.volumes apart free;
        apart = rest (list_all (λ b. not (s.file == b.file)) others) (all_later (λ a b. not (a.file == b.file)) others) n.apart;
        sequential = rest (is_sequential s.pool v.stores) (list_all (λ b. is_sequential b.pool v.stores) others) n.sequential;
        next = rest (nat_lt (s.file + 1) (2 ^ 32)) (list_all (λ b. nat_lt (b.file + 1) (2 ^ 32)) others) n.next;
      }),
    )

-- ---- segments

put_capacity : (sequential : Bool) (held : HeldSegment) (w : Volume) → (put_on sequential held w).capacity ≡ w.capacity
put_capacity true held w = refl
put_capacity false held w = refl

-- where a row is set in the place of one with its capacity, there is as much room as before
room_set : (h : HeldSegment) (f g : ℕ) (old new : Volume) (rows : List (ℕ × Volume)) → new.capacity ≡ old.capacity → row_at g rows ≡ Some old → has_room h (row_at f (set_row g new rows)) ≡ has_room h (row_at f rows)
room_set h f g old new [] same found = refl
room_set h f g old new (e ∷ es) same found =
    elim (is_at (nat_cmp g) e.0) as (λ b. cond b (Some e.1) (row_at g es) ≡ Some old → has_room h (row_at f (cond b ((e.0, new) ∷ es) (e ∷ set_row g new es))) ≡ has_room h (cond (is_at (nat_cmp f) e.0) (Some e.1) (row_at f es))) [
      | true ↦ λ is. let it : e.1 ≡ old = cc in
          elim (is_at (nat_cmp f) e.0) as (λ b. has_room h (cond b (Some new) (row_at f es)) ≡ has_room h (cond b (Some e.1) (row_at f es))) [
            | true ↦ ap (λ n. nat_le (h.offset + 32 + h.len) n) (same ∙ sym (ap (λ (w : Volume). w.capacity) it))
            | false ↦ refl
          ]
      | false ↦ λ is. elim (is_at (nat_cmp f) e.0) as (λ b. has_room h (cond b (Some e.1) (row_at f (set_row g new es))) ≡ has_room h (cond b (Some e.1) (row_at f es))) [
        | true ↦ refl
        | false ↦ room_set h f g old new es same is
      ]
    ] found

-- a segment that was put leaves each volume its capacity
pub room_put : (h : HeldSegment) (f object : ℕ) (s : Segment) (v : Inv) → has_room h (row_at f (put_step object s v).stores.volumes) ≡ has_room h (row_at f v.stores.volumes)
room_put h f object s v = go (row_at s.file v.stores.volumes) refl where
  go : (o : Option Volume) → row_at s.file v.stores.volumes ≡ o → has_room h (row_at f (or_same v.stores (with_volumes v.stores (changed s.file (table.put (is_sequential_at s.file v.stores) (held_of object s)) v.stores.volumes o))).volumes) ≡ has_room h (row_at f v.stores.volumes)
  go None found = refl
  go (Some w) found = room_set h f s.file w (put_on (is_sequential_at s.file v.stores) (held_of object s) w) v.stores.volumes (put_capacity (is_sequential_at s.file v.stores) (held_of object s) w) found

-- there is room for all the segments
abbrev pub all_roomy : ℕ → List Segment → Inv → Bool
all_roomy object segments v = list_all (λ s. has_room (held_of object s) (row_at s.file v.stores.volumes)) segments

-- the volumes have as much room as before
abbrev pub IsAsRoomy : Inv → Inv → Type 0
IsAsRoomy old new = (h : HeldSegment) (f : ℕ) → has_room h (row_at f new.stores.volumes) ≡ has_room h (row_at f old.stores.volumes)

roomy_same : (object : ℕ) (segments : List Segment) (old new : Inv) → IsAsRoomy old new → all_roomy object segments new ≡ all_roomy object segments old
roomy_same object [] old new same = refl
roomy_same object (s ∷ segments) old new same =
    ap (λ b. b && all_roomy object segments new) (same (held_of object s) s.file) ∙ ap (λ b. has_room (held_of object s) (row_at s.file old.stores.volumes) && b) (roomy_same object segments old new same)

pub can_put_all : (object : ℕ) (segments : List Segment) (v : Inv) → all_roomy object segments v ≡ true → CanEach (CanPut object) (put_step object) segments v
can_put_all object [] v h = tt
can_put_all object (s ∷ segments) v h = (
  first (has_room (held_of object s) (row_at s.file v.stores.volumes)) (all_roomy object segments v) h,
  can_put_all object segments (put_step object s v) (roomy_same object segments v (put_step object s v) (λ h f. room_put h f object s v) ∙ rest (has_room (held_of object s) (row_at s.file v.stores.volumes)) (all_roomy object segments v) h),
)

pub roomy_puts : (object : ℕ) (segments : List Segment) (v : Inv) → IsAsRoomy v (put object segments v)
roomy_puts object [] v h f = refl
roomy_puts object (s ∷ segments) v h f = roomy_puts object segments (put_step object s v) h f ∙ room_put h f object s v

pub roomy_items : {X : Type 0} (number : X → ℕ) (parts : X → List Segment) (xs : List X) (old new : Inv) → IsAsRoomy old new → list_all (λ x. all_roomy (number x) (parts x) old) xs ≡ true → list_all (λ x. all_roomy (number x) (parts x) new) xs ≡ true
roomy_items number parts xs old new same h =
    all_so (λ x. all_roomy (number x) (parts x) old) (λ x. all_roomy (number x) (parts x) new) (λ x r. roomy_same (number x) (parts x) old new same ∙ r) xs h

-- a segment that lies rightly has room
room_right : (sequential : Bool) (number object : ℕ) (s : Segment) (o : Option Volume) → lies_rightly sequential number s o ≡ true → has_room (held_of object s) o ≡ true
room_right sequential number object s None h = absurd cc
room_right sequential number object s (Some w) h =
    let ends : Bool = nat_le (s.offset + 32 + s.len) w.capacity in
    first ends (sequential || s.offset % 4096 == 0) (rest (w.pool == number) (ends && (sequential || s.offset % 4096 == 0)) h)

roomy_fit : (moved : List MovedCopy) (v : Inv) (number object : ℕ) (segments : List Segment) → list_all (segment_fits_after moved v number) segments ≡ true → all_roomy object segments v ≡ true
roomy_fit moved v number object [] h = refl
roomy_fit moved v number object (s ∷ segments) h =
    let here : segment_fits_after moved v number s ≡ true = first (segment_fits_after moved v number s) (list_all (segment_fits_after moved v number) segments) h in
    let lies : lies_rightly (is_sequential number v.stores) number s (row_at s.file v.stores.volumes) ≡ true =
    first (lies_rightly (is_sequential number v.stores) number s (row_at s.file v.stores.volumes)) (list_all (λ e. leaves moved number e.0 || are_clear (is_sequential number v.stores) s e.1) (segments_on s.file v)) here in
    both (has_room (held_of object s) (row_at s.file v.stores.volumes)) (all_roomy object segments v) (room_right (is_sequential number v.stores) number object s (row_at s.file v.stores.volumes) lies)
    (roomy_fit moved v number object segments (rest (segment_fits_after moved v number s) (list_all (segment_fits_after moved v number) segments) h))

-- so has a copy that fits
pub roomy_copy : (moved : List MovedCopy) (v : Inv) (number size object : ℕ) (segments : List Segment) → copy_fits_after moved v number size segments ≡ true → all_roomy object segments v ≡ true
roomy_copy moved v number size object segments h =
    let sized : Bool = sum_by (λ s. s.len) segments == size in
    let fit : Bool = list_all (segment_fits_after moved v number) segments in
    roomy_fit moved v number object segments (rest sized fit (rest (is_some (pool number v)) (sized && fit) h))

-- ---- scratch volumes

-- the scratch volumes that a transaction makes, where it isn't refused and fits, are new
pub scratch_new : (scratch : List ScratchVolume) (v : Inv) → scratch_refused scratch v ≡ [] → scratch_fits v scratch ≡ true → AllNew scratch v
scratch_new scratch v h fit =
    let files : List ℕ = map (λ s. s.file) scratch in
    let bounds : flat_map (λ s. file_bound s.file v) scratch ≡ [] = back_nil (files_refused files v) (flat_map (λ s. file_bound s.file v) scratch) h in
    let named : (list_all (is_free_file v) files && all_later (λ a b. not (a == b)) files) ≡ true =
    holds (list_all (is_free_file v) files && all_later (λ a b. not (a == b)) files) bad_value (front_nil (files_refused files v) (flat_map (λ s. file_bound s.file v) scratch) h) in
    let free : list_all (λ s. is_free_file v s.file) scratch ≡ true = sym (list_all-map (is_free_file v) (λ (s : ScratchVolume). s.file) scratch) ∙ first (list_all (is_free_file v) files) (all_later (λ a b. not (a == b)) files) named in
    record {
      free = all_so (λ s. is_free_file v s.file) (λ s. is_none (row_at s.file v.stores.volumes))
          (λ s t. first (is_none (row_at s.file v.stores.volumes)) (is_none (row_at s.file v.backups)) (rest (nat_le 4 s.file) (is_none (row_at s.file v.stores.volumes) && is_none (row_at s.file v.backups)) t)) scratch free;
      apart = items_apart (λ s. s.file) scratch (rest (list_all (is_free_file v) files) (all_later (λ a b. not (a == b)) files) named);
      sequential = fit;
      next = none_refused (λ s. file_bound s.file v) (λ s. nat_lt (s.file + 1) (2 ^ 32)) (λ s t. lt-ltb (s.file + 1) (2 ^ 32) (file_below s.file v t)) scratch bounds;
    }
