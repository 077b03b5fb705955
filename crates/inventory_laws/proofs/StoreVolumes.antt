-- A volume that comes, changes, goes or is reused leaves a valid database.
use Rattle.std.proofs.Common.{◌≡◌, ℕ, ◌+◌, ◌-◌, ◌^◌, ◌<◌, ◌≤◌, max, Bool, true, false, cond, not, ◌&&◌, List, [], ◌∷◌, ◌++◌, map, filter, Option, Some, None, is_some, nat_le, nat_lt, if◌then◌else◌, refl, sym, ap, subst, ◌∙◌, arith}
use Rattle.std.specs.Prelude.{◌==◌}
use Rattle.std.specs.List.{list_all, flat_map, AllByRecursion}
use Rattle.std.specs.Map.{keys_of}
use Rattle.std.specs.Option.{option_map_or}
use Rattle.std.specs.BTreeMap.{is_at}
use Rattle.std.specs.Cmp.{nat_eq_equiv}
use Rattle.std.specs.Ordering.{nat_cmp}
use Rattle.std.proofs.lemmas.Bool.{and_parts, and_from, eqb-false, false≢true, le-leb, leb-true, lt-ltb, ltb-true, ne_eqb, not-true, not_from_false}
use Rattle.std.proofs.lemmas.List.Folds.{list_all-append}
use Rattle.kinds.specs.declared.pool.Access.{Access}
use Rattle.kinds.specs.declared.segment.Segment.{Segment}
use Rattle.inventory_rules.specs.inventory_rows.version_groups.declared.copies.CopyRow.{CopyRow}
use Rattle.inventory_rules.specs.inventory_rows.volume_rows.declared.held.HeldSegment.{HeldSegment}
use Rattle.inventory_rules.specs.inventory_rows.volume_rows.declared.volume.Volume.{Volume}
use Rattle.inventory_rules.specs.inventory_rows.volume_rows.Held.{held_of}
use Rattle.inventory_rules.specs.inventory_rows.volume_rows.Holdings.{least_object, weight_of, with_segment}
use Rattle.inventory_rules.specs.inventory_rows.volume_rows.Volumes.{reset}
use Rattle.inventory_rules.proofs.of_inventory_rows.of_volume_rows.Segments.{weight_of-with}
use Rattle.inventory_rules.specs.inventory_rows.pool_tables.declared.pool.Pool.{Pool}
use Rattle.inventory_rules.specs.inventory_rows.pool_tables.RowChanges.{with_access}
use Rattle.kinds.specs.Least.{lesser}
use Rattle.kinds.specs.Names.{is_same_name}
use Rattle.inventory_rules.specs.inventory_rows.pool_tables.Rows.{named, row_at, set_row, with_row, without_row}
use Rattle.inventory_rules.specs.inventory_rows.pool_tables.Scratch.{is_scratch_name, scratch_name}
use Rattle.inventory_rules.proofs.of_inventory_rows.of_pool_tables.Counting.{each_set, each_there}
use Rattle.inventory_rules.proofs.of_inventory_rows.of_pool_tables.Names.{same_flips}
use Rattle.inventory_rules.specs.inventory_rows.pool_rows.Changes.{new_volume}
use Rattle.inventory_rules.specs.inventory_rows.pool_rows.PoolRows.{PoolRows, is_sequential, pool_capacity, pool_class_capacity, volume_named}
use Rattle.inventory_rules.specs.inventory_rows.Search.{copies, is_primary, pool, segments_on}
use Rattle.inventory_rules.specs.inventory_rows.State.{Inv}
use Rattle.inventory_rules.specs.Held.{IsTied, holding}
use Rattle.inventory_rules.specs.Valid.{are_apart, are_disjoint, is_emptied_rightly, is_format_size, is_named_soundly, is_of_pool, is_placed, is_sized, is_volume, lie_in, may_have, names_apart, next_is_there}
use Rattle.inventory_rules.specs.Facts.{Facts}
use Rattle.inventory_rules.specs.Stores.{capacity_fits}
use Rattle.inventory_rules.specs.Reordered.{Picks}
use Rattle.inventory_laws.proofs.StoreLegal.{none_of_both}
use Rattle.inventory_laws.proofs.Lists.{all_also, all_alike, all_from, all_left, all_of, all_with, each_also, each_any, each_both, each_left, each_with, later_left, later_with, picks_joined, picks_map}
use Rattle.inventory_laws.proofs.StoreRows.{all_set, all_there, found_apart, map_same, name_free, other_row, row_came, row_went, seen_same}
use Rattle.inventory_laws.proofs.Stored.{stored, IsRoom, Stands, next_also, same_backups, stored_valid, volume_alike}

-- ---- the database with other volumes

abbrev pub with_volumes : Inv → List (ℕ × Volume) → PoolRows
with_volumes v volumes = record { classes = v.stores.classes; pools = v.stores.pools; volumes = volumes }

-- the copy lies in a pool that is there, and each of its segments on one of these volumes, which is of that pool
abbrev pub cites : Inv → List (ℕ × Volume) → CopyRow → Bool
cites v volumes c = is_some (pool c.pool v) && list_all (λ s. is_of_pool c.pool (row_at s.file volumes)) c.segments

-- what is to be shown of the volumes
pub record VolumesFit (v : Inv) (volumes : List (ℕ × Volume)) (next_file : ℕ) : Type 0 where
  pub cite : list_all (λ f. is_some (pool f.1.pool v)) volumes ≡ true
  pub copies : list_all (λ e. cites v volumes e.1) (copies v) ≡ true
  pub drawn : lie_in 4 next_file (keys_of volumes ++ keys_of v.backups) ≡ true
  pub bounded : lie_in 4 (2 ^ 32 - 1) (next_file ∷ []) ≡ true
  pub apart : are_apart (keys_of volumes ++ keys_of v.backups) ≡ true
  pub names : names_apart (map (λ f. f.1.name) volumes) ≡ true
  pub soundly : list_all is_named_soundly volumes ≡ true
  pub are : list_all (is_volume v) volumes ≡ true
  pub by_today : list_all (λ f. option_map_or (λ day. nat_le day v.today) f.1.emptied true) volumes ≡ true
  pub tied : AllByRecursion (λ (f : ℕ × Volume). f.1.segments ≡ holding (segments_on f.0 v)) volumes

same_class : (v : Inv) (volumes : List (ℕ × Volume)) (o : Option Pool) → pool_class_capacity (with_volumes v volumes) o ≡ pool_class_capacity v.stores o
same_class v volumes None = refl
same_class v volumes (Some p) = refl

pub volumes_stand : (v : Inv) (volumes : List (ℕ × Volume)) (next_file : ℕ) → Facts v → VolumesFit v volumes next_file → IsRoom (stored v (with_volumes v volumes) v.next_pool next_file v.backups)
    → Stands (stored v (with_volumes v volumes) v.next_pool next_file v.backups)
volumes_stand v volumes next_file f t room =
    let w = stored v (with_volumes v volumes) v.next_pool next_file v.backups in (
      stored_valid v (with_volumes v volumes) v.next_pool next_file v.backups f (same_backups v f) (record {
        rules_cite = f.rules_cite;
        pools_cite = all_also (λ (p : ℕ × Pool). is_some (named p.1.class v.stores.classes) && next_is_there p.1.settings.next v) (λ p. is_some (named p.1.class v.stores.classes) && next_is_there p.1.settings.next w) v.stores.pools
            (λ p h. let q = and_parts (is_some (named p.1.class v.stores.classes)) (next_is_there p.1.settings.next v) h in and_from (is_some (named p.1.class v.stores.classes)) (next_is_there p.1.settings.next w) q.0 (next_also p.1.settings.next v w (λ n s. s) q.1))
            f.pools_cite;
        volumes_cite = t.cite;
        copies_cite = t.copies;
        pools_drawn = f.pools_drawn;
        files_drawn = t.drawn;
        pools_bounded = f.pools_bounded;
        files_bounded = t.bounded;
        files_apart = t.apart;
        pool_names = f.pool_names;
        volume_names = t.names;
        named_soundly = t.soundly;
        versions_copied = f.versions_copied;
        volumes_are = all_alike (is_volume w) (is_volume v) volumes
            (each_any (λ (e : ℕ × Volume). is_volume w e ≡ is_volume v e) volumes (λ e. volume_alike v w e (record { there = refl; primary = refl; capacity = same_class v volumes (row_at e.1.pool v.stores.pools) }) refl))
            ∙ t.are;
        no_ring = f.no_ring;
        classes_are = f.classes_are;
        volumes_by_today = t.by_today;
      }) room,
      t.tied,
    )

-- ---- segments

-- a row that holds none: none is of an object
pub bare_from : (held : List (HeldSegment × ℕ)) → least_object held ≡ None → held ≡ []
bare_from [] h = refl
bare_from (e ∷ held) h = absurd (some_least e.0.object (least_object held) h) where
  some_least : (n : ℕ) (o : Option ℕ) → lesser (Some n) o ≡ None → ⊥
  some_least n None h = cc
  some_least n (Some m) h = cc

-- and then no segment lies there
pub none_lies : (segments : List (ℕ × Segment)) → holding segments ≡ [] → segments ≡ []
none_lies [] h = refl
none_lies (s ∷ segments) h = absurd (heavy (ap (weight_of (λ _. 1)) h)) where
  heavy : weight_of (λ _. 1) (with_segment (held_of s.0 s.1) (holding segments)) ≡ 0 → ⊥
  heavy t = omega (arith, t, weight_of-with (λ _. 1) (held_of s.0 s.1) (holding segments))

-- the segments of some copies that lie on the volume
abbrev those_on : ℕ → List (ℕ × CopyRow) → List (ℕ × Segment)
those_on file cs = flat_map (λ e. map (λ s. (e.0, s)) (filter (λ s. s.file == file) e.1.segments)) cs

nil_of_map : {A B : Type 0} (f : A → B) (xs : List A) → map f xs ≡ [] → xs ≡ []
nil_of_map f [] h = refl
nil_of_map f (x ∷ xs) h = absurd cc

none_kept : {A : Type 0} (p : A → Bool) (xs : List A) → filter p xs ≡ [] → list_all (λ x. not (p x)) xs ≡ true
none_kept p [] h = refl
none_kept {A} p (x ∷ xs) h =
    elim (p x) as (λ b. cond b (x ∷ filter p xs) (filter p xs) ≡ [] → (not b && list_all (λ x. not (p x)) xs) ≡ true) [
      | true ↦ λ t. absurd cc
      | false ↦ λ t. none_kept p xs t
    ] h

keeps_none : {A : Type 0} (p : A → Bool) (xs : List A) → list_all (λ x. not (p x)) xs ≡ true → filter p xs ≡ []
keeps_none p [] h = refl
keeps_none {A} p (x ∷ xs) h =
    elim (p x) as (λ b. (not b && list_all (λ x. not (p x)) xs) ≡ true → cond b (x ∷ filter p xs) (filter p xs) ≡ []) [
      | true ↦ λ t. absurd (false≢true t)
      | false ↦ λ t. keeps_none p xs t
    ] h

-- no segment of the copy lies on the volume
abbrev pub is_off : ℕ → CopyRow → Bool
is_off file c = list_all (λ s. not (s.file == file)) c.segments

off_where_none : (file : ℕ) (cs : List (ℕ × CopyRow)) → those_on file cs ≡ [] → AllByRecursion (λ (e : ℕ × CopyRow). is_off file e.1 ≡ true) cs
off_where_none file [] h = tt
off_where_none file (e ∷ cs) h =
    let t = none_of_both (map (λ (s : Segment). (e.0, s)) (filter (λ s. s.file == file) e.1.segments)) (those_on file cs) h in
    (none_kept (λ (s : Segment). s.file == file) e.1.segments (nil_of_map (λ (s : Segment). (e.0, s)) (filter (λ s. s.file == file) e.1.segments) t.0), off_where_none file cs t.1)

none_where_off : (file : ℕ) (cs : List (ℕ × CopyRow)) → AllByRecursion (λ (e : ℕ × CopyRow). is_off file e.1 ≡ true) cs → those_on file cs ≡ []
none_where_off file [] h = refl
none_where_off file (e ∷ cs) h =
    ap (λ (l : List Segment). map (λ (s : Segment). (e.0, s)) l ++ those_on file cs) (keeps_none (λ (s : Segment). s.file == file) e.1.segments h.0) ∙ none_where_off file cs h.1

of_pool_there : (n : ℕ) (o : Option Volume) → is_of_pool n o ≡ true → is_some o ≡ true
of_pool_there n None h = absurd (false≢true h)
of_pool_there n (Some x) h = refl

-- a segment of a copy lies on a volume that is there, so on none that isn't
off_absent : (file : ℕ) (volumes : List (ℕ × Volume)) → row_at file volumes ≡ None → (c : CopyRow) → list_all (λ s. is_of_pool c.pool (row_at s.file volumes)) c.segments ≡ true → is_off file c ≡ true
off_absent file volumes absent c h =
    all_also (λ (s : Segment). is_of_pool c.pool (row_at s.file volumes)) (λ s. not (s.file == file)) c.segments
    (λ s t. not_from_false (s.file == file) (ne_eqb s.file file (found_apart file s.file volumes absent (of_pool_there c.pool (row_at s.file volumes) t)))) h

-- the volumes that are left, or were there before, serve a copy without segments elsewhere
cites_else : (v : Inv) (file : ℕ) (old new : List (ℕ × Volume)) → ((q : ℕ) → (q ≡ file → ⊥) → row_at q old ≡ row_at q new) → (c : CopyRow) → is_off file c ≡ true → cites v old c ≡ true → cites v new c ≡ true
cites_else v file old new same c off h =
    let t = and_parts (is_some (pool c.pool v)) (list_all (λ s. is_of_pool c.pool (row_at s.file old)) c.segments) h in
    and_from (is_some (pool c.pool v)) (list_all (λ s. is_of_pool c.pool (row_at s.file new)) c.segments) t.0
    (all_from (λ (s : Segment). is_of_pool c.pool (row_at s.file new)) c.segments
    (each_both (λ (s : Segment). not (s.file == file) ≡ true) (λ s. is_of_pool c.pool (row_at s.file old) ≡ true) (λ s. is_of_pool c.pool (row_at s.file new) ≡ true) c.segments
    (λ s ne t. ap (is_of_pool c.pool) (sym (same s.file (eqb-false s.file file (not-true (s.file == file) ne)))) ∙ t)
    (all_of (λ (s : Segment). not (s.file == file)) c.segments off)
    (all_of (λ (s : Segment). is_of_pool c.pool (row_at s.file old)) c.segments t.1)))

copies_else : (v : Inv) (file : ℕ) (new : List (ℕ × Volume)) → ((q : ℕ) → (q ≡ file → ⊥) → row_at q v.stores.volumes ≡ row_at q new) → AllByRecursion (λ (e : ℕ × CopyRow). is_off file e.1 ≡ true) (copies v) → Facts v
    → list_all (λ e. cites v new e.1) (copies v) ≡ true
copies_else v file new same off f =
    all_from (λ (e : ℕ × CopyRow). cites v new e.1) (copies v)
    (each_both (λ (e : ℕ × CopyRow). is_off file e.1 ≡ true) (λ e. cites v v.stores.volumes e.1 ≡ true) (λ e. cites v new e.1 ≡ true) (copies v) (λ e o h. cites_else v file v.stores.volumes new same e.1 o h) off
    (all_of (λ (e : ℕ × CopyRow). cites v v.stores.volumes e.1) (copies v) f.copies_cite))

-- where no volume is, no segment lies
pub off_all : (v : Inv) (file : ℕ) → row_at file v.stores.volumes ≡ None → Facts v → AllByRecursion (λ (e : ℕ × CopyRow). is_off file e.1 ≡ true) (copies v)
off_all v file absent f =
    each_also (λ (e : ℕ × CopyRow). cites v v.stores.volumes e.1 ≡ true) (λ e. is_off file e.1 ≡ true) (copies v)
    (λ e h. off_absent file v.stores.volumes absent e.1 (and_parts (is_some (pool e.1.pool v)) (list_all (λ s. is_of_pool e.1.pool (row_at s.file v.stores.volumes)) e.1.segments) h).1)
    (all_of (λ (e : ℕ × CopyRow). cites v v.stores.volumes e.1) (copies v) f.copies_cite)

-- ---- a volume comes

new_sized : (v : Inv) (name : List ℕ) (number capacity : ℕ) (access : Access) (o : Option ℕ) → pool_capacity number v.stores ≡ o → capacity_fits o capacity ≡ true → is_sized (is_some o) v (new_volume name number capacity access) ≡ true
new_sized v name number capacity access None none h = and_from (is_format_size capacity) true h refl
new_sized v name number capacity access (Some class) some h =
    and_from (option_map_or (λ c. capacity == c) (pool_capacity number v.stores) false) (nat_le 0 capacity) (ap (λ o. option_map_or (λ c. capacity == c) o false) some ∙ h) (le-leb 0 capacity (omega arith))

new_emptied : (sequential : Bool) (name : List ℕ) (number capacity : ℕ) (access : Access) → is_emptied_rightly sequential (new_volume name number capacity access) [] ≡ true
new_emptied true name number capacity access = refl
new_emptied false name number capacity access = refl

-- what is asked of a volume on which no segment lies
bare_is : (v : Inv) (f : ℕ × Volume) → is_sized (is_sequential f.1.pool v.stores) v f.1 ≡ true → may_have f.1.access (is_primary f.1.pool v) ≡ true → is_emptied_rightly (is_sequential f.1.pool v.stores) f.1 [] ≡ true → segments_on f.0 v ≡ [] → is_volume v f ≡ true
bare_is v f sized may emptied none =
    and_from (is_sized (is_sequential f.1.pool v.stores) v f.1) (may_have f.1.access (is_primary f.1.pool v) && (are_disjoint (is_sequential f.1.pool v.stores) (segments_on f.0 v) && (list_all (λ e. is_placed (is_sequential f.1.pool v.stores) f.1 e.1) (segments_on f.0 v) && is_emptied_rightly (is_sequential f.1.pool v.stores) f.1 (segments_on f.0 v)))) sized
    (and_from (may_have f.1.access (is_primary f.1.pool v)) (are_disjoint (is_sequential f.1.pool v.stores) (segments_on f.0 v) && (list_all (λ e. is_placed (is_sequential f.1.pool v.stores) f.1 e.1) (segments_on f.0 v) && is_emptied_rightly (is_sequential f.1.pool v.stores) f.1 (segments_on f.0 v))) may
    (ap (λ (l : List (ℕ × Segment)). are_disjoint (is_sequential f.1.pool v.stores) l && (list_all (λ e. is_placed (is_sequential f.1.pool v.stores) f.1 e.1) l && is_emptied_rightly (is_sequential f.1.pool v.stores) f.1 l)) none ∙ emptied))

file_drawn : (least next file : ℕ) → nat_le least file ≡ true → (nat_le least file && nat_lt file (max next (file + 1))) ≡ true
file_drawn least next file h = and_from (nat_le least file) (nat_lt file (max next (file + 1))) h (lt-ltb file (max next (file + 1)) (omega arith))

drawn_still : (least next file n : ℕ) → (nat_le least n && nat_lt n next) ≡ true → (nat_le least n && nat_lt n (max next (file + 1))) ≡ true
drawn_still least next file n h =
    let t = and_parts (nat_le least n) (nat_lt n next) h in
    and_from (nat_le least n) (nat_lt n (max next (file + 1))) t.0 (lt-ltb n (max next (file + 1)) (let b : n < next = ltb-true n next t.1 in omega (arith, b)))

file_bounded : (least next file bound : ℕ) → nat_le least file ≡ true → nat_lt (max next (file + 1)) bound ≡ true → lie_in least bound (max next (file + 1) ∷ []) ≡ true
file_bounded least next file bound least_file h =
    and_from (nat_le least (max next (file + 1)) && nat_lt (max next (file + 1)) bound) true
    (and_from (nat_le least (max next (file + 1))) (nat_lt (max next (file + 1)) bound) (le-leb least (max next (file + 1)) (let b : least ≤ file = leb-true least file least_file in omega (arith, b))) h) refl

absent_at : (k q : ℕ) → is_at (nat_cmp k) q ≡ false → (k == q) ≡ false
absent_at k q h = ne_eqb k q (λ same. false≢true (sym h ∙ subst (λ (n : ℕ). is_at (nat_cmp k) n ≡ true) same (at_itself k))) where
  at_itself : (n : ℕ) → is_at (nat_cmp n) n ≡ true
  at_itself n = grind arith

-- a number that no row has differs from each
pub number_free : {V : Type 0} (k : ℕ) (rows : List (ℕ × V)) → row_at k rows ≡ None → list_all (λ n. not (k == n)) (keys_of rows) ≡ true
number_free k [] h = refl
number_free {V} k (e ∷ rows) h =
    elim (is_at (nat_cmp k) e.0) as (λ b. is_at (nat_cmp k) e.0 ≡ b → cond b (Some e.1) (row_at k rows) ≡ None → list_all (λ n. not (k == n)) (keys_of (e ∷ rows)) ≡ true) [
      | true ↦ λ _ t. absurd cc
      | false ↦ λ off t. and_from (not (k == e.0)) (list_all (λ n. not (k == n)) (keys_of rows)) (not_from_false (k == e.0) (absent_at k e.0 off)) (number_free k rows t)
    ] refl h

pub volume_comes : (v : Inv) (name : List ℕ) (number file capacity : ℕ) (access : Access) → Facts v → IsTied v → is_some (row_at number v.stores.pools) ≡ true → volume_named name v.stores ≡ None → nat_le 4 file ≡ true
    → row_at file v.stores.volumes ≡ None → row_at file v.backups ≡ None → nat_lt (max v.next_file (file + 1)) (2 ^ 32 - 1) ≡ true → not (is_scratch_name name) ≡ true → capacity_fits (pool_capacity number v.stores) capacity ≡ true
    → may_have access (is_primary number v) ≡ true → VolumesFit v (with_row file (new_volume name number capacity access) v.stores.volumes) (max v.next_file (file + 1))
volume_comes v name number file capacity access f tied there free least absent no_backup bound sound fits may =
    let x = new_volume name number capacity access in
    let old = v.stores.volumes in
    let new = with_row file x old in
    let next = max v.next_file (file + 1) in
    let picks : Picks (file, x) new old = row_came file x old absent in
    let keys : Picks file (keys_of new ++ keys_of v.backups) (keys_of old ++ keys_of v.backups) = picks_joined file (keys_of new) (keys_of old) (keys_of v.backups) (picks_map (λ (e : ℕ × Volume). e.0) (file, x) new old picks) in
    let off = off_all v file absent f in
    let none : segments_on file v ≡ [] = none_where_off file (copies v) off in record {
      cite = all_with (λ (e : ℕ × Volume). is_some (pool e.1.pool v)) (file, x) new old picks there f.volumes_cite;
      copies = copies_else v file new (λ q ne. sym (other_row file q x new old picks ne)) off f;
      drawn = all_with (λ n. nat_le 4 n && nat_lt n next) file (keys_of new ++ keys_of v.backups) (keys_of old ++ keys_of v.backups) keys (file_drawn 4 v.next_file file least)
          (all_also (λ n. nat_le 4 n && nat_lt n v.next_file) (λ n. nat_le 4 n && nat_lt n next) (keys_of old ++ keys_of v.backups) (drawn_still 4 v.next_file file) f.files_drawn);
      bounded = file_bounded 4 v.next_file file (2 ^ 32 - 1) least bound;
      apart = later_with (λ a b. not (a == b)) (λ a b. ap not (nat_eq_equiv.symm a b)) file (keys_of new ++ keys_of v.backups) (keys_of old ++ keys_of v.backups) keys
          (list_all-append (λ n. not (file == n)) (keys_of old) (keys_of v.backups) ∙ and_from (list_all (λ n. not (file == n)) (keys_of old)) (list_all (λ n. not (file == n)) (keys_of v.backups)) (number_free file old absent) (number_free file v.backups no_backup)) f.files_apart;
      names = later_with (λ a b. not (is_same_name a b)) (λ a b. ap not (same_flips a b)) name (map (λ (e : ℕ × Volume). e.1.name) new) (map (λ e. e.1.name) old) (picks_map (λ (e : ℕ × Volume). e.1.name) (file, x) new old picks)
          (name_free (λ (e : Volume). e.name) name old free) f.volume_names;
      soundly = all_with is_named_soundly (file, x) new old picks sound f.named_soundly;
      are = all_with (is_volume v) (file, x) new old picks (bare_is v (file, x) (new_sized v name number capacity access (pool_capacity number v.stores) refl fits) may (new_emptied (is_sequential number v.stores) name number capacity access) none) f.volumes_are;
      by_today = all_with (λ (e : ℕ × Volume). option_map_or (λ day. nat_le day v.today) e.1.emptied true) (file, x) new old picks refl f.volumes_by_today;
      tied = each_with (λ (e : ℕ × Volume). e.1.segments ≡ holding (segments_on e.0 v)) (file, x) new old picks (sym (ap holding none)) tied;
    }

-- ---- a volume goes

-- what the row of a volume without segments tells
pub off_bare : (v : Inv) (file : ℕ) (x : Volume) → IsTied v → row_at file v.stores.volumes ≡ Some x → least_object x.segments ≡ None → segments_on file v ≡ []
off_bare v file x tied there least =
    none_lies (segments_on file v) (sym (each_there (λ (e : ℕ × Volume). e.1.segments ≡ holding (segments_on e.0 v)) file x v.stores.volumes there tied) ∙ bare_from x.segments least)

pub volume_goes : (v : Inv) (file : ℕ) (x : Volume) → Facts v → IsTied v → row_at file v.stores.volumes ≡ Some x → least_object x.segments ≡ None → VolumesFit v (without_row file v.stores.volumes) v.next_file
volume_goes v file x f tied there least =
    let old = v.stores.volumes in
    let new = without_row file old in
    let picks : Picks (file, x) old new = row_went file x old there in
    let keys : Picks file (keys_of old ++ keys_of v.backups) (keys_of new ++ keys_of v.backups) = picks_joined file (keys_of old) (keys_of new) (keys_of v.backups) (picks_map (λ (e : ℕ × Volume). e.0) (file, x) old new picks) in
    let off = off_where_none file (copies v) (off_bare v file x tied there least) in record {
      cite = all_left (λ (e : ℕ × Volume). is_some (pool e.1.pool v)) (file, x) old new picks f.volumes_cite;
      copies = copies_else v file new (λ q ne. other_row file q x old new picks ne) off f;
      drawn = all_left (λ n. nat_le 4 n && nat_lt n v.next_file) file (keys_of old ++ keys_of v.backups) (keys_of new ++ keys_of v.backups) keys f.files_drawn;
      bounded = f.files_bounded;
      apart = later_left (λ a b. not (a == b)) file (keys_of old ++ keys_of v.backups) (keys_of new ++ keys_of v.backups) keys f.files_apart;
      names = later_left (λ a b. not (is_same_name a b)) x.name (map (λ (e : ℕ × Volume). e.1.name) old) (map (λ e. e.1.name) new) (picks_map (λ (e : ℕ × Volume). e.1.name) (file, x) old new picks) f.volume_names;
      soundly = all_left is_named_soundly (file, x) old new picks f.named_soundly;
      are = all_left (is_volume v) (file, x) old new picks f.volumes_are;
      by_today = all_left (λ (e : ℕ × Volume). option_map_or (λ day. nat_le day v.today) e.1.emptied true) (file, x) old new picks f.volumes_by_today;
      tied = each_left (λ (e : ℕ × Volume). e.1.segments ≡ holding (segments_on e.0 v)) (file, x) old new picks tied;
    }

-- ---- a volume changes

-- it stays in its pool, with its name, its kind and its segments
pub record Keeps (x y : Volume) : Type 0 where
  pub pool : y.pool ≡ x.pool
  pub name : y.name ≡ x.name
  pub scratch : y.scratch ≡ x.scratch
  pub segments : y.segments ≡ x.segments

-- how a volume is named, by its kind
abbrev sound_by : ℕ → Bool → List ℕ → Bool
sound_by k scratch name = if scratch then is_same_name name (scratch_name k) else not (is_scratch_name name)

sound_so : (k : ℕ) (x y : Volume) → Keeps x y → is_named_soundly (k, x) ≡ true → is_named_soundly (k, y) ≡ true
sound_so k x y keeps h =
    ap (λ b. sound_by k b y.name) keeps.scratch ∙ ap (sound_by k x.scratch) keeps.name ∙ h

pub volume_changes : (v : Inv) (file : ℕ) (x y : Volume) → Facts v → IsTied v → row_at file v.stores.volumes ≡ Some x → Keeps x y → is_volume v (file, y) ≡ true → option_map_or (λ day. nat_le day v.today) y.emptied true ≡ true
    → VolumesFit v (set_row file y v.stores.volumes) v.next_file
volume_changes v file x y f tied there keeps is day =
    let old = v.stores.volumes in
    let new = set_row file y old in
    let keys : keys_of new ≡ keys_of old = map_same (λ (e : ℕ × Volume). e.0) file x y old there (λ q. refl) in
    let names : map (λ (e : ℕ × Volume). e.1.name) new ≡ map (λ e. e.1.name) old = map_same (λ (e : ℕ × Volume). e.1.name) file x y old there (λ q. keeps.name) in record {
      cite = all_set (λ (e : ℕ × Volume). is_some (pool e.1.pool v)) file y old (ap (λ n. is_some (pool n v)) keeps.pool ∙ all_there (λ (e : ℕ × Volume). is_some (pool e.1.pool v)) file x old there f.volumes_cite) f.volumes_cite;
      copies = all_alike (λ (e : ℕ × CopyRow). cites v new e.1) (λ e. cites v old e.1) (copies v)
          (each_any (λ (e : ℕ × CopyRow). cites v new e.1 ≡ cites v old e.1) (copies v) (λ e.
          ap (λ b. is_some (pool e.1.pool v) && b) (all_alike (λ (s : Segment). is_of_pool e.1.pool (row_at s.file new)) (λ s. is_of_pool e.1.pool (row_at s.file old)) e.1.segments
          (each_any (λ (s : Segment). is_of_pool e.1.pool (row_at s.file new) ≡ is_of_pool e.1.pool (row_at s.file old)) e.1.segments (λ s. seen_same (is_of_pool e.1.pool) file s.file x y old there (ap (λ n. n == e.1.pool) keeps.pool))))))
          ∙ f.copies_cite;
      drawn = ap (λ (l : List ℕ). lie_in 4 v.next_file (l ++ keys_of v.backups)) keys ∙ f.files_drawn;
      bounded = f.files_bounded;
      apart = ap (λ (l : List ℕ). are_apart (l ++ keys_of v.backups)) keys ∙ f.files_apart;
      names = ap names_apart names ∙ f.volume_names;
      soundly = all_set is_named_soundly file y old (sound_so file x y keeps (all_there is_named_soundly file x old there f.named_soundly)) f.named_soundly;
      are = all_set (is_volume v) file y old is f.volumes_are;
      by_today = all_set (λ (e : ℕ × Volume). option_map_or (λ day. nat_le day v.today) e.1.emptied true) file y old day f.volumes_by_today;
      tied = each_set (λ (e : ℕ × Volume). e.1.segments ≡ holding (segments_on e.0 v)) file y old (keeps.segments ∙ each_there (λ (e : ℕ × Volume). e.1.segments ≡ holding (segments_on e.0 v)) file x old there tied) tied;
    }

-- another access
access_sized : (b : Bool) (v : Inv) (access : Access) (x : Volume) → is_sized b v (with_access access x) ≡ is_sized b v x
access_sized true v access x = refl
access_sized false v access x = refl

-- what is asked of a volume besides its size and its access
abbrev others : Inv → ℕ → Volume → Bool
others v file x =
    are_disjoint (is_sequential x.pool v.stores) (segments_on file v)
    && (list_all (λ e. is_placed (is_sequential x.pool v.stores) x e.1) (segments_on file v)
    && is_emptied_rightly (is_sequential x.pool v.stores) x (segments_on file v))

pub access_is : (v : Inv) (file : ℕ) (access : Access) (x : Volume) → may_have access (is_primary x.pool v) ≡ true → is_volume v (file, x) ≡ true → is_volume v (file, with_access access x) ≡ true
access_is v file access x may h =
    let a = and_parts (is_sized (is_sequential x.pool v.stores) v x) (may_have x.access (is_primary x.pool v) && others v file x) h in
    let b = and_parts (may_have x.access (is_primary x.pool v)) (others v file x) a.1 in
    and_from (is_sized (is_sequential x.pool v.stores) v (with_access access x)) (may_have access (is_primary x.pool v) && others v file x) (access_sized (is_sequential x.pool v.stores) v access x ∙ a.0) (and_from (may_have access (is_primary x.pool v)) (others v file x) may b.1)

-- a volume that is written from its beginning again
reset_sized : (b : Bool) (v : Inv) (x : Volume) → b ≡ true → is_sized b v x ≡ true → is_sized b v (reset x) ≡ true
reset_sized true v x is h =
    and_from (option_map_or (λ capacity. x.capacity == capacity) (pool_capacity x.pool v.stores) false) (nat_le 0 x.capacity) (and_parts (option_map_or (λ capacity. x.capacity == capacity) (pool_capacity x.pool v.stores) false) (nat_le x.end x.capacity) h).0 (le-leb 0 x.capacity (omega arith))
reset_sized false v x off h = absurd (false≢true off)

reset_emptied : (b : Bool) (x : Volume) → is_emptied_rightly b (reset x) [] ≡ true
reset_emptied true x = refl
reset_emptied false x = refl

pub reset_is : (v : Inv) (file : ℕ) (x : Volume) → is_sequential x.pool v.stores ≡ true → segments_on file v ≡ [] → is_volume v (file, x) ≡ true → is_volume v (file, reset x) ≡ true
reset_is v file x sequential none h =
    let a = and_parts (is_sized (is_sequential x.pool v.stores) v x) (may_have x.access (is_primary x.pool v) && others v file x) h in
    let b = and_parts (may_have x.access (is_primary x.pool v)) (others v file x) a.1 in
    bare_is v (file, reset x) (reset_sized (is_sequential x.pool v.stores) v x sequential a.0) b.0 (reset_emptied (is_sequential x.pool v.stores) x) none
