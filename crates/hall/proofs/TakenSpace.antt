-- What a transaction takes away is what it leaves free.
use Rattle.std.proofs.Common.{◌≡◌, ◌⊎◌, inl, inr, ℕ, ◌+◌, ◌/◌, Bool, true, false, cond, eqb, not, ◌&&◌, ◌||◌, List, [], ◌∷◌, ◌++◌, map, Option, Some, None, refl, sym, ap, subst, ◌∙◌, arith}
use Rattle.std.specs.Prelude.{◌==◌, is_some, nat_le}
use Rattle.std.specs.List.{AllByRecursion, Contains, filter, flat_map, list_all, list_any}
use Rattle.std.specs.Option.{option_map_or}
use Rattle.std.proofs.lemmas.Bool.{and_from, and_parts, eq-eqb, eqb-false, eqb-true, false≢true, leb-true, ne_eqb, not-true}
use Rattle.std.proofs.lemmas.List.Concat.{flat_map-append}
use Rattle.kinds.specs.declared.segment.Segment.{Segment}
use Rattle.inventory_rows.specs.version_groups.declared.copies.CopyRow.{CopyRow}
use Rattle.inventory_rows.specs.version_groups.declared.versions.Version.{Version}
use Rattle.inventory_rows.specs.version_groups.Entries.{all_later}
use Rattle.inventory_rows.specs.volume_rows.declared.volume.Volume.{Volume}
use Rattle.inventory_rows.specs.pool_tables.Rows.{row_at}
use Rattle.inventory_rows.proofs.of_pool_tables.Counting.{each_there}
use Rattle.inventory_rows.specs.pool_rows.PoolRows.{is_sequential}
use Rattle.inventory_rows.specs.Search.{copies, is_primary_kind, pool, segments_on, version}
use Rattle.inventory_rows.specs.State.{Inv}
use Rattle.inventory_rules.specs.Facts.{Facts}
use Rattle.inventory_rules.specs.Halfway.{pending_on, segments_of}
use Rattle.inventory_rules.specs.Reordered.{IsReordered, Picks}
use Rattle.inventory_rules.specs.Segments.{are_clear}
use Rattle.inventory_rules.specs.Valid.{are_disjoint, high_of, is_emptied_rightly, is_of_pool, is_placed, is_sized, is_volume, low_of, may_have}
use Rattle.inventory_laws.proofs.Lists.{all_from, all_of, each_also, each_joined, each_mapped}
use Rattle.inventory_laws.proofs.Orders.{all_later-reordered, reordered-flat_map, reordered_back}
use Rattle.inventory_laws.proofs.Origins.{contained_holds, each_contained}
use Rattle.inventory_laws.proofs.Swapping.{pending-segments_of}
use Rattle.space.specs.declared.places.Placed.{Placed}
use Rattle.space.proofs.Free.{frame_ends}
use Rattle.machine.specs.Machine.{all_segments, is_same_segment, left_by}
use Rattle.hall.specs.Joined.{goes_from, left_by_copy, left_by_version, placed_of}
use Rattle.hall.proofs.Pairs.{all_filtered, each_appended, each_filtered, each_flat, each_in, each_map, each_of_flat, some_or_none}
use Rattle.hall.proofs.RowsLeave.{rows_all, rows_left}

-- ---- lists

pub each_reordered : {A : Type 0} (P : A → Type 0) (xs ys : List A) → IsReordered xs ys → AllByRecursion P ys → AllByRecursion P xs
each_reordered P [] ys r all = tt
each_reordered {A} P (x ∷ xs) ys r all =
    let p : Picks x ys r.0 = r.1 in
    let parts = each_joined P p.before (x ∷ p.after) (subst (AllByRecursion P) p.was all) in
    (parts.1.0, each_reordered P xs r.0 r.2 (subst (AllByRecursion P) (sym p.becomes) (each_appended P p.before p.after parts.0 parts.1.1)))

none_passes : {A : Type 0} (p : A → Bool) (xs : List A) → AllByRecursion (λ x. p x ≡ false) xs → filter p xs ≡ []
none_passes p [] h = refl
none_passes {A} p (x ∷ xs) h = ap (λ b. cond {A = List A} b (x ∷ filter p xs) (filter p xs)) h.0 ∙ none_passes p xs h.1

is_in : {A : Type 0} (p : A → Bool) (xs : List A) → AllByRecursion (λ y. p y ≡ true → list_any p xs ≡ true) xs
is_in p [] = tt
is_in {A} p (y ∷ xs) =
    ((λ is. ap (λ b. b || list_any p xs) is), each_also (λ (z : A). p z ≡ true → list_any p xs ≡ true) (λ z. p z ≡ true → (p y || list_any p xs) ≡ true) xs (λ z f is. or_later (p y) (f is)) (is_in p xs))
  where
    or_later : (b : Bool) {c : Bool} → c ≡ true → (b || c) ≡ true
    or_later true h = refl
    or_later false h = h

not_in : {A : Type 0} (p : A → Bool) (xs : List A) → AllByRecursion (λ y. p y ≡ false) xs → list_any p xs ≡ false
not_in p [] h = refl
not_in p (y ∷ xs) h = ap (λ b. b || list_any p xs) h.0 ∙ not_in p xs h.1

-- each of the first is apart from each of the second
across : {A : Type 0} (r : A → A → Bool) (xs ys : List A) → all_later r (xs ++ ys) ≡ true → AllByRecursion (λ a. AllByRecursion (λ b. r a b ≡ true) ys) xs
across r [] ys h = tt
across {A} r (x ∷ xs) ys h =
    let parts = and_parts (list_all (r x) (xs ++ ys)) (all_later r (xs ++ ys)) h in
    ((each_joined (λ (b : A). r x b ≡ true) xs ys (all_of (r x) (xs ++ ys) parts.0)).1, across r xs ys parts.1)

-- ---- segments that are the same

flip : (a b : ℕ) → eqb a b ≡ eqb b a
flip a b = go (eqb a b) refl where
  go : (t : Bool) → eqb a b ≡ t → eqb a b ≡ eqb b a
  go true e = e ∙ sym (eq-eqb b a (sym (eqb-true a b e)))
  go false e = e ∙ sym (ne_eqb b a (λ t. eqb-false a b e (sym t)))

pub same_turned : (a b : Segment) → is_same_segment a b ≡ is_same_segment b a
same_turned a b =
    ap (λ t. t && (a.offset == b.offset && a.len == b.len)) (flip a.file b.file)
    ∙ ap (λ t. b.file == a.file && (t && a.len == b.len)) (flip a.offset b.offset)
    ∙ ap (λ t. b.file == a.file && (b.offset == a.offset && t)) (flip a.len b.len)

pub same_itself : (s : Segment) → is_same_segment s s ≡ true
same_itself s = and_from (s.file == s.file) (s.offset == s.offset && s.len == s.len) (eq-eqb s.file s.file refl) (and_from (s.offset == s.offset) (s.len == s.len) (eq-eqb s.offset s.offset refl) (eq-eqb s.len s.len refl))

-- a frame doesn't end before one begins that begins where it does
ends_later : (q : Bool) (a b : Segment) → nat_le (high_of q a) (low_of q b) ≡ true → a.offset ≡ b.offset → ⊥
ends_later true a b h o = omega (arith, leb-true (a.offset + 32 + a.len) b.offset h, o)
ends_later false a b h o = omega (arith, leb-true ((a.offset + 32 + a.len + 4095) / 4096) (b.offset / 4096) h, frame_ends a.offset a.len, ap (λ (n : ℕ). n / 4096) o)

pub clear_differs : (q : Bool) (a b : Segment) → are_clear q a b ≡ true → is_same_segment a b ≡ true → ⊥
clear_differs q a b clear same = go (nat_le (high_of q a) (low_of q b)) (nat_le (high_of q b) (low_of q a)) refl refl clear where
  starts : a.offset ≡ b.offset
  starts = eqb-true a.offset b.offset (and_parts (a.offset == b.offset) (a.len == b.len) (and_parts (a.file == b.file) (a.offset == b.offset && a.len == b.len) same).1).0

  go : (x y : Bool) → nat_le (high_of q a) (low_of q b) ≡ x → nat_le (high_of q b) (low_of q a) ≡ y → (x || y) ≡ true → ⊥
  go true y e f h = ends_later q a b e starts
  go false true e f h = ends_later q b a f (sym starts)
  go false false e f h = false≢true h

-- ---- no two segments of a valid database are the same

abbrev pub differ : ℕ × Segment → ℕ × Segment → Bool
differ a b = not (is_same_segment a.1 b.1)

all_differ : (xs : List (ℕ × Segment)) → ((file : ℕ) → (q : Bool) × (are_disjoint q (pending_on file xs) ≡ true)) → all_later differ xs ≡ true
all_differ [] h = refl
all_differ (x ∷ xs) h = and_from (list_all (differ x) xs) (all_later differ xs) first (all_differ xs (λ file. ((h file).0, less file (h file).0 (x.1.file == file) (h file).1))) where
  less : (file : ℕ) (q b : Bool) → are_disjoint q (cond {A = List (ℕ × Segment)} b (x ∷ pending_on file xs) (pending_on file xs)) ≡ true → are_disjoint q (pending_on file xs) ≡ true
  less file q true d = (and_parts (list_all (λ (e : ℕ × Segment). are_clear q x.1 e.1) (pending_on file xs)) (are_disjoint q (pending_on file xs)) d).1
  less file q false d = d

  own : list_all (λ (e : ℕ × Segment). are_clear (h x.1.file).0 x.1 e.1) (pending_on x.1.file xs) ≡ true
  own =
      (and_parts (list_all (λ (e : ℕ × Segment). are_clear (h x.1.file).0 x.1 e.1) (pending_on x.1.file xs)) (are_disjoint (h x.1.file).0 (pending_on x.1.file xs))
      (subst (λ b. are_disjoint (h x.1.file).0 (cond {A = List (ℕ × Segment)} b (x ∷ pending_on x.1.file xs) (pending_on x.1.file xs)) ≡ true) (eq-eqb x.1.file x.1.file refl) (h x.1.file).1)).0

  one : (e : ℕ × Segment) → ((e.1.file == x.1.file) ≡ true → are_clear (h x.1.file).0 x.1 e.1 ≡ true) → differ x e ≡ true
  one e clear = go (is_same_segment x.1 e.1) refl where
    go : (b : Bool) → is_same_segment x.1 e.1 ≡ b → differ x e ≡ true
    go true same =
        absurd (clear_differs (h x.1.file).0 x.1 e.1 (clear (flip e.1.file x.1.file ∙ (and_parts (x.1.file == e.1.file) (x.1.offset == e.1.offset && x.1.len == e.1.len) same).0)) same)
    go false other = ap not other

  first : list_all (differ x) xs ≡ true
  first =
      all_from (differ x) xs
      (each_also (λ (e : ℕ × Segment). (e.1.file == x.1.file) ≡ true → are_clear (h x.1.file).0 x.1 e.1 ≡ true) (λ e. differ x e ≡ true) xs one
      (all_filtered (λ (e : ℕ × Segment). are_clear (h x.1.file).0 x.1 e.1 ≡ true) (λ (e : ℕ × Segment). e.1.file == x.1.file) xs
      (all_of (λ (e : ℕ × Segment). are_clear (h x.1.file).0 x.1 e.1) (pending_on x.1.file xs) own)))

-- each segment of a copy lies on a volume of the copy's pool
abbrev pub LiesAt : Inv → ℕ → Segment → Type 0
LiesAt v number s = (volume : Volume) × (row_at s.file v.stores.volumes ≡ Some volume) × (number ≡ volume.pool)

pub each_lies : (v : Inv) → Facts v → AllByRecursion (λ (e : ℕ × CopyRow). AllByRecursion (LiesAt v e.1.pool) e.1.segments) (copies v)
each_lies v f =
    each_also (λ (e : ℕ × CopyRow). (is_some (pool e.1.pool v) && list_all (λ s. is_of_pool e.1.pool (row_at s.file v.stores.volumes)) e.1.segments) ≡ true) (λ (e : ℕ × CopyRow). AllByRecursion (LiesAt v e.1.pool) e.1.segments) (copies v)
    (λ e h. each_also (λ s. is_of_pool e.1.pool (row_at s.file v.stores.volumes) ≡ true) (LiesAt v e.1.pool) e.1.segments (λ s is. go e.1.pool (row_at s.file v.stores.volumes) is)
    (all_of (λ s. is_of_pool e.1.pool (row_at s.file v.stores.volumes)) e.1.segments (and_parts (is_some (pool e.1.pool v)) _ h).1))
    (all_of (λ (e : ℕ × CopyRow). is_some (pool e.1.pool v) && list_all (λ s. is_of_pool e.1.pool (row_at s.file v.stores.volumes)) e.1.segments) (copies v) f.copies_cite)
  where
    go : (number : ℕ) (o : Option Volume) → is_of_pool number o ≡ true → (volume : Volume) × (o ≡ Some volume) × (number ≡ volume.pool)
    go number None h = absurd (false≢true h)
    go number (Some volume) h = (volume, refl, sym (eqb-true volume.pool number h))

pub segments_differ : (v : Inv) → Facts v → all_later differ (segments_of (copies v)) ≡ true
segments_differ v f = all_differ (segments_of (copies v)) at where
  on_it : (file : ℕ) → segments_on file v ≡ pending_on file (segments_of (copies v))
  on_it file = sym (pending-segments_of file (copies v))

  -- none lies where there is no volume
  nowhere : (file : ℕ) → row_at file v.stores.volumes ≡ None → pending_on file (segments_of (copies v)) ≡ []
  nowhere file none =
      none_passes (λ (e : ℕ × Segment). e.1.file == file) (segments_of (copies v))
      (each_flat (λ (e : ℕ × Segment). (e.1.file == file) ≡ false) (λ (e : ℕ × CopyRow). map (λ s. (e.0, s)) e.1.segments) (copies v)
      (each_also (λ (e : ℕ × CopyRow). AllByRecursion (LiesAt v e.1.pool) e.1.segments) (λ (e : ℕ × CopyRow). AllByRecursion (λ (d : ℕ × Segment). (d.1.file == file) ≡ false) (map (λ s. (e.0, s)) e.1.segments)) (copies v)
      (λ e lie. each_map (λ (d : ℕ × Segment). (d.1.file == file) ≡ false) (λ s. (e.0, s)) e.1.segments
      (each_also (LiesAt v e.1.pool) (λ s. (s.file == file) ≡ false) e.1.segments (λ s l. ne_eqb s.file file (λ same. no_volume l.0 (sym l.1 ∙ ap (λ k. row_at k v.stores.volumes) same ∙ none))) lie))
      (each_lies v f)))
    where
      no_volume : (volume : Volume) → Some volume ≡ None → ⊥
      no_volume volume e = absurd cc

  at : (file : ℕ) → (q : Bool) × (are_disjoint q (pending_on file (segments_of (copies v))) ≡ true)
  at file = go (some_or_none (row_at file v.stores.volumes)) where
    go : ((volume : Volume) × (row_at file v.stores.volumes ≡ Some volume)) ⊎ (row_at file v.stores.volumes ≡ None) → (q : Bool) × (are_disjoint q (pending_on file (segments_of (copies v))) ≡ true)
    go (inl (volume, found)) =
        let q : Bool = is_sequential volume.pool v.stores in
        let is : is_volume v (file, volume) ≡ true = each_there (λ (e : ℕ × Volume). is_volume v e ≡ true) file volume v.stores.volumes found (all_of (is_volume v) v.stores.volumes f.volumes_are) in
        let rest : Bool = list_all (λ e. is_placed q volume e.1) (segments_on file v) && is_emptied_rightly q volume (segments_on file v) in
        let may : Bool = may_have volume.access (option_map_or (λ p. is_primary_kind p.kind) (pool volume.pool v) false) in
        let one = and_parts (is_sized q v volume) (may && (are_disjoint q (segments_on file v) && rest)) is in
        let two = and_parts may (are_disjoint q (segments_on file v) && rest) one.1 in
        (q, ap (are_disjoint q) (sym (on_it file)) ∙ (and_parts (are_disjoint q (segments_on file v)) rest two.1).0)
    go (inr none) = (true, ap (are_disjoint true) (nowhere file none))

-- ---- what is noted

abbrev pub taken_from : List (ℕ × CopyRow) → List Placed
taken_from olds = flat_map (λ e. placed_of e.1) olds

abbrev pub is_left : Inv → Segment → Bool
is_left w s = not (list_any (is_same_segment s) (all_segments w))

-- the segments of a copy that goes are noted
noted_by : (olds : List (ℕ × CopyRow)) (e : ℕ × CopyRow) → Contains olds e → AllByRecursion (λ s. Contains (taken_from olds) (record { pool = e.1.pool; segment = s })) e.1.segments
noted_by olds e there =
    each_mapped (Contains (taken_from olds)) (λ s. record { pool = e.1.pool; segment = s }) e.1.segments
    (contained_holds (λ (d : ℕ × CopyRow). AllByRecursion (Contains (taken_from olds)) (placed_of d.1)) olds e there (each_in (λ (d : ℕ × CopyRow). placed_of d.1) olds))

-- a segment is noted
abbrev Noted : List (ℕ × CopyRow) → Segment → Type 0
Noted olds s = (p : Placed) × Contains (taken_from olds) p × (p.segment ≡ s)

pub all_left_noted : (v w : Inv) (olds : List (ℕ × CopyRow)) → AllByRecursion (λ e. Contains olds e ⊎ Contains (copies w) e) (copies v)
    → AllByRecursion (λ s. (p : Placed) × Contains (taken_from olds) p × (p.segment ≡ s)) (left_by v w)
all_left_noted v w olds stays =
    each_filtered (Noted olds) (is_left w) (all_segments v)
    (each_flat (λ s. is_left w s ≡ true → Noted olds s) (λ (e : ℕ × CopyRow). e.1.segments) (copies v)
    (each_also (λ e. Contains olds e ⊎ Contains (copies w) e) (λ (e : ℕ × CopyRow). AllByRecursion (λ s. is_left w s ≡ true → Noted olds s) e.1.segments) (copies v) of_row stays))
  where
    of_row : (e : ℕ × CopyRow) → Contains olds e ⊎ Contains (copies w) e → AllByRecursion (λ s. is_left w s ≡ true → (p : Placed) × Contains (taken_from olds) p × (p.segment ≡ s)) e.1.segments
    of_row e (inl there) =
        each_also (λ s. Contains (taken_from olds) (record { pool = e.1.pool; segment = s })) (λ s. is_left w s ≡ true → (p : Placed) × Contains (taken_from olds) p × (p.segment ≡ s)) e.1.segments
        (λ s in_it left. (record { pool = e.1.pool; segment = s }, in_it, refl)) (noted_by olds e there)
    of_row e (inr there) =
        each_also (Contains (all_segments w)) (λ s. is_left w s ≡ true → (p : Placed) × Contains (taken_from olds) p × (p.segment ≡ s)) e.1.segments
        (λ s in_it left. absurd (false≢true (sym (ap not (contained_holds (λ y. is_same_segment s y ≡ true → list_any (is_same_segment s) (all_segments w) ≡ true) (all_segments w) s in_it (is_in (is_same_segment s) (all_segments w)) (same_itself s))) ∙ left)))
        (contained_holds (λ (d : ℕ × CopyRow). AllByRecursion (Contains (all_segments w)) d.1.segments) (copies w) e there (each_in (λ (d : ℕ × CopyRow). d.1.segments) (copies w)))

-- ---- what is free

module _ (v w : Inv) (f : Facts v) (news olds stay : List (ℕ × CopyRow)) (parted : IsReordered (copies v) (olds ++ stay)) (becomes : IsReordered (copies w) (news ++ stay))
    (clear : AllByRecursion (λ (e : ℕ × CopyRow). AllByRecursion (λ y. AllByRecursion (λ s. is_same_segment s y ≡ false) (all_segments v)) e.1.segments) news) where
  here : AllByRecursion (Contains (copies v)) olds
  here = (each_joined (Contains (copies v)) olds stay (each_reordered (Contains (copies v)) (olds ++ stay) (copies v) (reordered_back (copies v) (olds ++ stay) parted) (each_contained (copies v)))).0

  apart : AllByRecursion (λ (a : ℕ × Segment). AllByRecursion (λ b. differ a b ≡ true) (segments_of stay)) (segments_of olds)
  apart =
      across differ (segments_of olds) (segments_of stay)
      (ap (all_later differ) (sym (flat_map-append (λ (e : ℕ × CopyRow). map (λ s. (e.0, s)) e.1.segments) olds stay))
      ∙ sym (all_later-reordered differ (λ x y. ap not (same_turned x.1 y.1)) (segments_of (copies v)) (segments_of (olds ++ stay))
      (reordered-flat_map (λ (e : ℕ × CopyRow). map (λ s. (e.0, s)) e.1.segments) (copies v) (olds ++ stay) parted))
      ∙ segments_differ v f)

  -- a segment that is like none of those that stay isn't there any more
  none_like : (k : ℕ) (s : Segment) → Contains (all_segments v) s → AllByRecursion (λ b. differ (k, s) b ≡ true) (segments_of stay) → is_left w s ≡ true
  none_like k s there other =
      ap not (not_in (is_same_segment s) (all_segments w)
      (each_flat (λ y. is_same_segment s y ≡ false) (λ (e : ℕ × CopyRow). e.1.segments) (copies w)
      (each_reordered (λ (e : ℕ × CopyRow). AllByRecursion (λ y. is_same_segment s y ≡ false) e.1.segments) (copies w) (news ++ stay) becomes
      (each_appended (λ (e : ℕ × CopyRow). AllByRecursion (λ y. is_same_segment s y ≡ false) e.1.segments) news stay
      (each_also (λ (e : ℕ × CopyRow). AllByRecursion (λ y. AllByRecursion (λ s. is_same_segment s y ≡ false) (all_segments v)) e.1.segments) (λ (e : ℕ × CopyRow). AllByRecursion (λ y. is_same_segment s y ≡ false) e.1.segments) news
      (λ e all. each_also (λ y. AllByRecursion (λ s. is_same_segment s y ≡ false) (all_segments v)) (λ y. is_same_segment s y ≡ false) e.1.segments (λ y h. contained_holds (λ s. is_same_segment s y ≡ false) (all_segments v) s there h) all) clear)
      (each_also (λ (e : ℕ × CopyRow). AllByRecursion (λ b. differ (k, s) b ≡ true) (map (λ s. (e.0, s)) e.1.segments)) (λ (e : ℕ × CopyRow). AllByRecursion (λ y. is_same_segment s y ≡ false) e.1.segments) stay
      (λ e all. each_also (λ y. not (is_same_segment s y) ≡ true) (λ y. is_same_segment s y ≡ false) e.1.segments (λ y h. not-true (is_same_segment s y) h)
      (each_mapped (λ b. differ (k, s) b ≡ true) (λ s. (e.0, s)) e.1.segments all))
      (each_of_flat (λ b. differ (k, s) b ≡ true) (λ (e : ℕ × CopyRow). map (λ s. (e.0, s)) e.1.segments) stay other))))))

  abbrev Freed : Placed → Type 0
  Freed p = Contains (left_by v w) p.segment × LiesAt v p.pool p.segment

  pub all_noted_left : AllByRecursion Freed (taken_from olds)
  all_noted_left =
      each_flat Freed (λ (e : ℕ × CopyRow). placed_of e.1) olds
      (both olds here (each_of_flat (λ (a : ℕ × Segment). AllByRecursion (λ b. differ a b ≡ true) (segments_of stay)) (λ (e : ℕ × CopyRow). map (λ s. (e.0, s)) e.1.segments) olds apart))
    where
      passes : AllByRecursion (λ s. is_left w s ≡ true → Contains (left_by v w) s) (all_segments v)
      passes = all_filtered (Contains (left_by v w)) (is_left w) (all_segments v) (each_contained (left_by v w))

      both : (list : List (ℕ × CopyRow)) → AllByRecursion (Contains (copies v)) list
          → AllByRecursion (λ (e : ℕ × CopyRow). AllByRecursion (λ (a : ℕ × Segment). AllByRecursion (λ b. differ a b ≡ true) (segments_of stay)) (map (λ s. (e.0, s)) e.1.segments)) list
          → AllByRecursion (λ (e : ℕ × CopyRow). AllByRecursion (λ (p : Placed). Contains (left_by v w) p.segment × LiesAt v p.pool p.segment) (placed_of e.1)) list
      both [] a b = tt
      both (e ∷ list) a b =
          let in_v : AllByRecursion (Contains (all_segments v)) e.1.segments = contained_holds (λ (d : ℕ × CopyRow). AllByRecursion (Contains (all_segments v)) d.1.segments) (copies v) e a.0 (each_in (λ (d : ℕ × CopyRow). d.1.segments) (copies v)) in
          let lies : AllByRecursion (LiesAt v e.1.pool) e.1.segments = contained_holds (λ (d : ℕ × CopyRow). AllByRecursion (LiesAt v d.1.pool) d.1.segments) (copies v) e a.0 (each_lies v f) in
          let others = each_mapped (λ (d : ℕ × Segment). AllByRecursion (λ b. differ d b ≡ true) (segments_of stay)) (λ s. (e.0, s)) e.1.segments b.0 in (
            each_map (λ (p : Placed). Contains (left_by v w) p.segment × LiesAt v p.pool p.segment) (λ s. record { pool = e.1.pool; segment = s }) e.1.segments (three e e.1.segments in_v lies others),
            both list a.1 b.1,
          )
        where
          three : (e : ℕ × CopyRow) (list : List Segment) → AllByRecursion (Contains (all_segments v)) list → AllByRecursion (LiesAt v e.1.pool) list → AllByRecursion (λ s. AllByRecursion (λ b. differ (e.0, s) b ≡ true) (segments_of stay)) list
              → AllByRecursion (λ s. Contains (left_by v w) s × LiesAt v e.1.pool s) list
          three e [] a b c = tt
          three e (s ∷ list) a b c =
              ((contained_holds (λ s. is_left w s ≡ true → Contains (left_by v w) s) (all_segments v) s a.0 passes (none_like e.0 s a.0 c.0), b.0), three e list a.1 b.1 c.1)

-- ---- what is taken away, by the copies that go

taken_of_copies : (from : Option ℕ) (object : ℕ) (cs : List CopyRow) → flat_map (left_by_copy from) cs ≡ taken_from (map (λ (c : CopyRow). (object, c)) (filter (goes_from from) cs))
taken_of_copies from object [] = refl
taken_of_copies from object (c ∷ cs) =
    ap (λ (l : List Placed). left_by_copy from c ++ l) (taken_of_copies from object cs)
    ∙ elim (goes_from from c) as (λ b. cond {A = List Placed} b (placed_of c) [] ++ taken_from (map (λ (c : CopyRow). (object, c)) (filter (goes_from from) cs))
    ≡ taken_from (map (λ (c : CopyRow). (object, c)) (cond {A = List CopyRow} b (c ∷ filter (goes_from from) cs) (filter (goes_from from) cs)))) [ true ↦ refl | false ↦ refl ]

taken_of : (from : Option ℕ) (object : ℕ) (o : Option Version) → left_by_version from o ≡ taken_from (rows_left object from o)
taken_of from object None = refl
taken_of from object (Some w) = taken_of_copies from object w.copies

pub taken_of_all : {X : Type 0} (object : X → ℕ) (from : X → Option ℕ) (items : List X) (v : Inv) → flat_map (λ i. left_by_version (from i) (version (object i) v)) items ≡ taken_from (rows_all object from items v)
taken_of_all object from [] v = refl
taken_of_all object from (i ∷ items) v =
    ap (λ (l : List Placed). l ++ flat_map (λ i. left_by_version (from i) (version (object i) v)) items) (taken_of (from i) (object i) (version (object i) v))
    ∙ ap (λ (l : List Placed). taken_from (rows_left (object i) (from i) (version (object i) v)) ++ l) (taken_of_all object from items v)
    ∙ sym (flat_map-append (λ (e : ℕ × CopyRow). placed_of e.1) (rows_left (object i) (from i) (version (object i) v)) (rows_all object from items v))
