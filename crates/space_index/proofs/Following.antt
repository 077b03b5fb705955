-- The index after the rows, or what is held beside them, changed.
use Rattle.std.proofs.Common.{◌≡◌, ℕ, ◌+◌, ◌<◌, ◌/◌, Bool, true, false, cond, List, [], ◌∷◌, ◌++◌, take, drop, length, get_or, Option, Some, None, Result, Ok, Err, refl, sym, ap, subst, ◌∙◌, arith, inl, inr, ◌⊎◌, append_assoc, ◌*◌}
use Rattle.std.specs.Prelude.{◌≢◌, is_some, if◌then◌else◌}
use Rattle.std.specs.Option.{option_map}
use Rattle.std.specs.Map.{keys_of}
use Rattle.std.specs.List.Sorted.{IsStrictlySortedBy}
use Rattle.std.specs.BTreeMap.{is_at}
use Rattle.std.specs.Ordering.{nat_cmp}
use Rattle.std.proofs.lemmas.Bool.{cases_eq, eq-eqb, ne_eqb}
use Rattle.std.proofs.lemmas.List.Sums.{sum_by_more, sum_by-drop_more, sum_by-cons}
use Rattle.kinds.specs.declared.pool.Access.{Access}
use Rattle.kinds.specs.declared.refusal.Refusal.{Refusal}
use Rattle.kinds.specs.declared.refusal.Refusal.TheVariants.{NotFound}
use Rattle.kinds.specs.declared.segment.Segment.{Segment}
use Rattle.volume_rows.specs.declared.held.HeldSegment.{HeldSegment}
use Rattle.volume_rows.specs.declared.volume.Volume.{Volume}
use Rattle.volume_rows.specs.Held.{held_of}
use Rattle.volume_rows.specs.Holdings.{is_held, with_segment, without_segment, weight_of}
use Rattle.volume_rows.specs.Volumes.{put_on, take_from}
use Rattle.volume_rows.proofs.Entries.{sum_by-inserted, sum_by-removed}
use Rattle.volume_rows.proofs.Segments.{weight_of-with, weight_of-without}
use Rattle.pool_tables.specs.Rows.{row_at, set_row, row_set, changed}
use Rattle.pool_tables.specs.RowChanges.{put, take as take_of}
use Rattle.pool_tables.proofs.Counting.{at_is, apart_at, row_at-set_other}
use Rattle.pool_tables.proofs.Tables.{lookup-set}
use Rattle.pool_tables.proofs.Ascending.{last_row}
use Rattle.pool_rows.specs.PoolRows.{PoolRows, is_sequential, is_sequential_at}
use Rattle.pool_rows.specs.Segments.{with_volumes, put_segment, take_segment}
use Rattle.space.specs.declared.places.Placed.{Placed}
use Rattle.space.specs.declared.claims.Claim.{Claim}
use Rattle.space.specs.Claims.{Claims, held, released, noted, forgotten, forced}
use Rattle.space.specs.Volumes.{is_writable}
use Rattle.space_index.specs.declared.standing.Standing.{Standing}
use Rattle.space_index.specs.declared.random.RandomIndex.{RandomIndex}
use Rattle.space_index.specs.Counts.{reach}
use Rattle.space_index.specs.Index.{Shape, shape_of, shape_by, shape_of_row, shape_at, segment_on, copies_reach, there_reach, places_reach, tickets_reach, freed_reach, claims_reach, times_at, and_segment, IsEntry, IsIndexBy, IsRandomIndexOf, AreSame, with_access}
use Rattle.space_index.specs.Updates.{and_places, ChangesAt, HasAccessOf, IsAccessOf, rows_with, nothing}
use Rattle.space_index.proofs.Entries.{entry_same}

-- ---- the same said of equal volumes and numbers

entry_unless : (times others : ℕ → ℕ) (shape : Option Shape) (row : Option Standing) → (shape ≡ None) ⊎ ((k : ℕ) → times k ≡ others k) → IsEntry times shape row → IsEntry others shape row
entry_unless times others shape row (inr same) is = entry_same times others shape row same is
entry_unless times others None None (inl none) is = tt
entry_unless times others None (Some e) (inl none) is = absurd is
entry_unless times others (Some x) row (inl none) is = absurd cc

-- it is the index of other volumes, where they are the same to it: what is said of one that it doesn't keep is nothing to it
pub index_unless : (i : RandomIndex) (shapes others : ℕ → Option Shape) (times mores : ℕ → ℕ → ℕ) → ((f : ℕ) → shapes f ≡ others f) → ((f : ℕ) → (shapes f ≡ None) ⊎ ((k : ℕ) → times f k ≡ mores f k)) → IsIndexBy i shapes times → IsIndexBy i others mores
index_unless i shapes others times mores same counts is = record {
  entry = λ f. subst (λ (o : Option Shape). IsEntry (mores f) o (row_at f i.files.entries)) (same f) (entry_unless (times f) (mores f) (shapes f) (row_at f i.files.entries) (counts f) (is.entry f));
  listed = is.listed;
}

pub index_same : (i : RandomIndex) (shapes others : ℕ → Option Shape) (times mores : ℕ → ℕ → ℕ) → ((f : ℕ) → shapes f ≡ others f) → ((f k : ℕ) → times f k ≡ mores f k) → IsIndexBy i shapes times → IsIndexBy i others mores
index_same i shapes others times mores same counts is = index_unless i shapes others times mores same (λ f. inr (counts f)) is

pub counts_same : (i : RandomIndex) (shapes : ℕ → Option Shape) (times mores : ℕ → ℕ → ℕ) → ((f k : ℕ) → times f k ≡ mores f k) → IsIndexBy i shapes times → IsIndexBy i shapes mores
counts_same i shapes times mores counts is = index_same i shapes shapes times mores (λ f. refl) counts is

-- ---- places one after the other

pub places_none : (i : RandomIndex) (shapes : ℕ → Option Shape) (times : ℕ → ℕ → ℕ) (places : List Placed) → IsIndexBy i shapes times → IsIndexBy i shapes (and_places (take 0 places) times)
places_none i shapes times places is = counts_same i shapes times (and_places (take 0 places) times) (λ f k. omega arith) is

pub places_more : (i : RandomIndex) (shapes : ℕ → Option Shape) (times : ℕ → ℕ → ℕ) (places : List Placed) (n : ℕ) (p : Placed) → n < length places → IsIndexBy i shapes (and_segment ((get_or places n p).segment) (and_places (take n places) times))
    → IsIndexBy i shapes (and_places (take (n + 1) places) times)
places_more i shapes times places n p lt is =
    counts_same i shapes (and_segment ((get_or places n p).segment) (and_places (take n places) times)) (and_places (take (n + 1) places) times) (λ f k.
    omega (arith, sum_by_more (λ x. there_reach x.segment f k) places n p lt)) is

pub places_left : (i : RandomIndex) (shapes : ℕ → Option Shape) (times : ℕ → ℕ → ℕ) (places : List Placed) (n : ℕ) (p : Placed) → n < length places → IsIndexBy i shapes (and_places (drop n places) times)
    → IsIndexBy i shapes (and_segment ((get_or places n p).segment) (and_places (drop (n + 1) places) times))
places_left i shapes times places n p lt is =
    counts_same i shapes (and_places (drop n places) times) (and_segment ((get_or places n p).segment) (and_places (drop (n + 1) places) times)) (λ f k.
    omega (arith, sum_by-drop_more (λ x. there_reach x.segment f k) places n p lt)) is

pub places_gone : (i : RandomIndex) (shapes : ℕ → Option Shape) (times : ℕ → ℕ → ℕ) → IsIndexBy i shapes (and_places [] times) → IsIndexBy i shapes times
places_gone i shapes times is = counts_same i shapes (and_places [] times) times (λ f k. omega arith) is

-- ---- tickets and transactions

pub held_index : (i : RandomIndex) (s : PoolRows) (c : Claims) (number : ℕ) (claim : Claim) → row_at number c.tickets ≡ None → IsIndexBy i (shape_at s) (and_places claim.places (times_at s c)) → IsRandomIndexOf i s (held number claim c)
held_index i s c number claim absent is =
    counts_same i (shape_at s) (and_places claim.places (times_at s c)) (times_at s (held number claim c)) (λ f k.
    omega (arith, sum_by-inserted (λ t. places_reach t.1.places f k) nat_cmp c.tickets number claim absent)) is

pub noted_index : (i : RandomIndex) (s : PoolRows) (c : Claims) (number : ℕ) (places : List Placed) → row_at number c.freed ≡ None → IsIndexBy i (shape_at s) (and_places places (times_at s c)) → IsRandomIndexOf i s (noted number places c)
noted_index i s c number places absent is =
    counts_same i (shape_at s) (and_places places (times_at s c)) (times_at s (noted number places c)) (λ f k.
    omega (arith, sum_by-inserted (λ t. places_reach t.1 f k) nat_cmp c.freed number places absent)) is

number_same : (number q : ℕ) → is_at (nat_cmp number) q ≡ true → q ≡ number
number_same number q h = sym (at_is number q h)

pub release_index : (i : RandomIndex) (s : PoolRows) (c : Claims) (number : ℕ) (claim : Claim) → row_at number c.tickets ≡ Some claim → IsRandomIndexOf i s c → IsIndexBy i (shape_at s) (and_places claim.places (times_at s (released number c)))
release_index i s c number claim there is =
    counts_same i (shape_at s) (times_at s c) (and_places claim.places (times_at s (released number c))) (λ f k.
    omega (arith, sum_by-removed (λ t. places_reach t.1.places f k) (is_at (nat_cmp number)) number (number_same number) c.tickets claim there)) is

pub forget_index : (i : RandomIndex) (s : PoolRows) (c : Claims) (number : ℕ) (places : List Placed) → row_at number c.freed ≡ Some places → IsRandomIndexOf i s c → IsIndexBy i (shape_at s) (and_places places (times_at s (forgotten number c)))
forget_index i s c number places there is =
    counts_same i (shape_at s) (times_at s c) (and_places places (times_at s (forgotten number c))) (λ f k.
    omega (arith, sum_by-removed (λ t. places_reach t.1 f k) (is_at (nat_cmp number)) number (number_same number) c.freed places there)) is

-- what transactions took away, as far as it is still noted
abbrev pub and_freed : List (ℕ × List Placed) → (ℕ → ℕ → ℕ) → ℕ → ℕ → ℕ
and_freed freed times file block = times file block + freed_reach freed file block

pub freed_first : (i : RandomIndex) (shapes : ℕ → Option Shape) (times : ℕ → ℕ → ℕ) (number : ℕ) (places : List Placed) (freed all : List (ℕ × List Placed)) → all ≡ (number, places) ∷ freed → IsIndexBy i shapes (and_freed all times)
    → IsIndexBy i shapes (and_places places (and_freed freed times))
freed_first i shapes times number places freed all is-all is =
    counts_same i shapes (and_freed all times) (and_places places (and_freed freed times)) (λ f k.
    let whole : freed_reach all f k ≡ freed_reach ((number, places) ∷ freed) f k = ap (λ (l : List (ℕ × List Placed)). freed_reach l f k) is-all in
    omega (arith, whole, sum_by-cons (λ x. places_reach x.1 f k) (number, places) freed)) is

pub forced_begin : (i : RandomIndex) (s : PoolRows) (c : Claims) → IsRandomIndexOf i s c → IsIndexBy i (shape_at s) (and_freed c.freed (times_at s (forced c)))
forced_begin i s c is = counts_same i (shape_at s) (times_at s c) (and_freed c.freed (times_at s (forced c))) (λ f k. omega arith) is

pub forced_end : (i : RandomIndex) (shapes : ℕ → Option Shape) (times : ℕ → ℕ → ℕ) → IsIndexBy i shapes (and_freed [] times) → IsIndexBy i shapes times
forced_end i shapes times is = counts_same i shapes (and_freed [] times) times (λ f k. omega arith) is

-- ---- rows

shape_kind : (s t : PoolRows) (o : Option Volume) → ((pool : ℕ) → is_sequential pool t ≡ is_sequential pool s) → shape_of_row s o ≡ shape_of_row t o
shape_kind s t None kinds = refl
shape_kind s t (Some v) kinds = ap (λ (b : Bool). shape_by b v) (sym (kinds v.pool))

pub shapes_else : (file : ℕ) (s t : PoolRows) → ChangesAt file s t → AreSame file (shape_at s) (shape_at t)
shapes_else file s t changes q apart = ap (shape_of_row t) (changes.others q apart) ∙ sym (shape_kind s t (row_at q s.volumes) (λ pool. ap is_some (changes.kinds pool)))

-- what one volume's rows say may change with the volume
times_else : (file : ℕ) (s t : PoolRows) (c : Claims) → ChangesAt file s t → (q : ℕ) → q ≢ file → (k : ℕ) → times_at s c q k ≡ times_at t c q k
times_else file s t c changes q apart k = ap (λ (o : Option Volume). copies_reach q o k + claims_reach c q k) (sym (changes.others q apart))

-- the volume is gone
pub gone_index : (i : RandomIndex) (s t : PoolRows) (c : Claims) (file : ℕ) → ChangesAt file s t → row_at file t.volumes ≡ None → IsIndexBy i (shape_at t) (times_at s c) → IsRandomIndexOf i t c
gone_index i s t c file changes gone is =
    index_unless i (shape_at t) (shape_at t) (times_at s c) (times_at t c) (λ f. refl) (λ f. elim (cases_eq f file) [
      | inl same ↦ inl (ap (λ (n : ℕ). shape_at t n) same ∙ ap (shape_of_row t) gone)
      | inr apart ↦ inr (times_else file s t c changes f apart)
    ]) is

-- the volume isn't one of random access any more
pub aside_index : (i : RandomIndex) (s t : PoolRows) (c : Claims) (file : ℕ) → ChangesAt file s t → shape_at t file ≡ None → IsIndexBy i (shape_at t) (times_at s c) → IsRandomIndexOf i t c
aside_index i s t c file changes none is =
    index_unless i (shape_at t) (shape_at t) (times_at s c) (times_at t c) (λ f. refl) (λ f. elim (cases_eq f file) [
      | inl same ↦ inl (ap (shape_at t) same ∙ none)
      | inr apart ↦ inr (times_else file s t c changes f apart)
    ]) is

-- where a volume isn't there, what is said of it is nothing to the index
pub missing_index : (i : RandomIndex) (s : PoolRows) (c : Claims) (x : Segment) → row_at x.file s.volumes ≡ None → IsIndexBy i (shape_at s) (and_segment x (times_at s c)) → IsRandomIndexOf i s c
missing_index i s c x absent is =
    index_unless i (shape_at s) (shape_at s) (and_segment x (times_at s c)) (times_at s c) (λ f. refl) (λ f. elim (cases_eq f x.file) [
      | inl same ↦ inl (ap (shape_at s) same ∙ ap (shape_of_row s) absent)
      | inr apart ↦ inr (λ k. let none : there_reach x f k ≡ 0 = ap (λ (b : Bool). if b then reach x k else 0) (ne_eqb x.file f (λ h. apart (sym h))) in omega (arith, none))
    ]) is

pub missing_ready : (i : RandomIndex) (s : PoolRows) (c : Claims) (x : Segment) → row_at x.file s.volumes ≡ None → IsRandomIndexOf i s c → IsIndexBy i (shape_at s) (and_segment x (times_at s c))
missing_ready i s c x absent is =
    index_unless i (shape_at s) (shape_at s) (times_at s c) (and_segment x (times_at s c)) (λ f. refl) (λ f. elim (cases_eq f x.file) [
      | inl same ↦ inl (ap (shape_at s) same ∙ ap (shape_of_row s) absent)
      | inr apart ↦ inr (λ k. let none : there_reach x f k ≡ 0 = ap (λ (b : Bool). if b then reach x k else 0) (ne_eqb x.file f (λ h. apart (sym h))) in omega (arith, none))
    ]) is

shaped : ℕ → Bool → ℕ → Option Shape
shaped p a n = Some (record { pool = p; is_writable = a; blocks = n })

access_shape : (access : Access) (b : Bool) (v w : Volume) → HasAccessOf access v w → option_map (with_access (is_writable access)) (shape_by b v) ≡ shape_by b w
unfolding shaped
access_shape access true v w has = refl
access_shape access false v w has =
    ap (λ (p : ℕ). shaped p (is_writable access) (v.capacity / 4096)) (sym has.pool)
    ∙ ap (λ (a : Access). shaped w.pool (is_writable a) (v.capacity / 4096)) (sym has.access)
    ∙ ap (λ (n : ℕ). shaped w.pool (is_writable w.access) (n / 4096)) (sym has.capacity)

access_row : (access : Access) (s t : PoolRows) (o p : Option Volume) → ((pool : ℕ) → is_sequential pool t ≡ is_sequential pool s) → IsAccessOf access o p → option_map (with_access (is_writable access)) (shape_of_row s o) ≡ shape_of_row t p
access_row access s t None None kinds is = refl
access_row access s t None (Some w) kinds is = absurd is
access_row access s t (Some v) None kinds is = absurd is
access_row access s t (Some v) (Some w) kinds is =
    access_shape access (is_sequential v.pool s) v w is ∙ ap (λ (b : Bool). shape_by b w) (ap (λ (n : ℕ). is_sequential n s) (sym is.pool) ∙ sym (kinds w.pool))

access_reach : (access : Access) (file k : ℕ) (o p : Option Volume) → IsAccessOf access o p → copies_reach file o k ≡ copies_reach file p k
access_reach access file k None None is = refl
access_reach access file k None (Some w) is = absurd is
access_reach access file k (Some v) None is = absurd is
access_reach access file k (Some v) (Some w) is = ap (λ (l : List (HeldSegment × ℕ)). weight_of (λ h. reach (segment_on file h) k) l) (sym is.segments)

pub access_shapes : (access : Access) (s t : PoolRows) (file : ℕ) → ChangesAt file s t → IsAccessOf access (row_at file s.volumes) (row_at file t.volumes) → option_map (with_access (is_writable access)) (shape_at s file) ≡ shape_at t file
access_shapes access s t file changes is = access_row access s t (row_at file s.volumes) (row_at file t.volumes) (λ pool. ap is_some (changes.kinds pool)) is

pub access_index : (i : RandomIndex) (s t : PoolRows) (c : Claims) (access : Access) (file : ℕ) → ChangesAt file s t → IsAccessOf access (row_at file s.volumes) (row_at file t.volumes) → IsIndexBy i (shape_at t) (times_at s c) → IsRandomIndexOf i t c
access_index i s t c access file changes is index =
    counts_same i (shape_at t) (times_at s c) (times_at t c) (λ f k. elim (cases_eq f file) [
      | inl same ↦
          subst (λ (n : ℕ). times_at s c n k ≡ times_at t c n k) (sym same) (ap (λ (n : ℕ). n + claims_reach c file k) (access_reach access file k (row_at file s.volumes) (row_at file t.volumes) is))
      | inr apart ↦ times_else file s t c changes f apart k
    ]) index

-- ---- segments of copies

-- a volume in the place of another, of the same shape
module _ (s : PoolRows) (c : Claims) (file : ℕ) (v w : Volume) (there : row_at file s.volumes ≡ Some v) where
  after : PoolRows
  after = record s { volumes = set_row file w s.volumes }

  set_here : row_at file (set_row file w s.volumes) ≡ Some w
  set_here = lookup-set (is_at (nat_cmp file)) v w s.volumes there

  set_shapes : w.pool ≡ v.pool → shape_of w ≡ shape_of v → (f : ℕ) → shape_at s f ≡ shape_at (record s { volumes = set_row file w s.volumes }) f
  set_shapes pool shape f = elim (cases_eq f file) [
    | inl same ↦ subst (λ (n : ℕ). shape_of_row s (row_at n s.volumes) ≡ shape_of_row s (row_at n (set_row file w s.volumes))) (sym same)
        (ap (shape_of_row s) there ∙ sym (ap (shape_of_row s) set_here ∙ ap (λ (n : ℕ). shape_by (is_sequential n s) w) pool ∙ by_kind (is_sequential v.pool s)))
    | inr apart ↦ ap (shape_of_row s) (sym (row_at-set_other file f w s.volumes (λ h. apart (sym h))))
  ] where
    by_kind : (b : Bool) → shape_by b w ≡ shape_by b v
    by_kind true = refl
    by_kind false = ap (λ (x : Shape). Some x) shape

  there_here : (x : Segment) (k : ℕ) → x.file ≡ file → there_reach x file k ≡ reach x k
  there_here x k e = ap (λ (b : Bool). if b then reach x k else 0) (eq-eqb x.file file e)

  there_else : (x : Segment) (f k : ℕ) → x.file ≡ file → f ≢ file → there_reach x f k ≡ 0
  there_else x f k e apart = ap (λ (b : Bool). if b then reach x k else 0) (ne_eqb x.file f (λ h. apart (sym h ∙ e)))

  reach_of : Volume → ℕ → ℕ
  reach_of u k = weight_of (λ h. reach (segment_on file h) k) u.segments

  -- a segment more
  more_times : (x : Segment) → x.file ≡ file → ((k : ℕ) → reach_of w k ≡ reach_of v k + reach x k) → (f k : ℕ) → and_segment x (times_at s c) f k ≡ times_at (record s { volumes = set_row file w s.volumes }) c f k
  unfolding reach_of
  more_times x e more f k = elim (cases_eq f file) [
    | inl same ↦ subst (λ (n : ℕ). and_segment x (times_at s c) n k ≡ times_at (record s { volumes = set_row file w s.volumes }) c n k) (sym same)
        (let was : copies_reach file (row_at file s.volumes) k ≡ reach_of v k = ap (λ (o : Option Volume). copies_reach file o k) there in
        let now : copies_reach file (row_at file (set_row file w s.volumes)) k ≡ reach_of w k = ap (λ (o : Option Volume). copies_reach file o k) set_here in
        omega (arith, was, now, more k, there_here x k e))
    | inr apart ↦
        let same : copies_reach f (row_at f (set_row file w s.volumes)) k ≡ copies_reach f (row_at f s.volumes) k = ap (λ (o : Option Volume). copies_reach f o k) (row_at-set_other file f w s.volumes (λ h. apart (sym h))) in
        omega (arith, same, there_else x f k e apart)
  ]

  -- a segment fewer
  less_times : (x : Segment) → x.file ≡ file → ((k : ℕ) → reach_of w k + reach x k ≡ reach_of v k) → (f k : ℕ) → times_at s c f k ≡ and_segment x (times_at (record s { volumes = set_row file w s.volumes }) c) f k
  unfolding reach_of
  less_times x e less f k = elim (cases_eq f file) [
    | inl same ↦ subst (λ (n : ℕ). times_at s c n k ≡ and_segment x (times_at (record s { volumes = set_row file w s.volumes }) c) n k) (sym same)
        (let was : copies_reach file (row_at file s.volumes) k ≡ reach_of v k = ap (λ (o : Option Volume). copies_reach file o k) there in
        let now : copies_reach file (row_at file (set_row file w s.volumes)) k ≡ reach_of w k = ap (λ (o : Option Volume). copies_reach file o k) set_here in
        omega (arith, was, now, less k, there_here x k e))
    | inr apart ↦
        let same : copies_reach f (row_at f (set_row file w s.volumes)) k ≡ copies_reach f (row_at f s.volumes) k = ap (λ (o : Option Volume). copies_reach f o k) (row_at-set_other file f w s.volumes (λ h. apart (sym h))) in
        omega (arith, same, there_else x f k e apart)
  ]

put_shape : (b : Bool) (h : HeldSegment) (v : Volume) → (shape_of (put_on b h v) ≡ shape_of v) × ((put_on b h v).pool ≡ v.pool) × ((put_on b h v).segments ≡ with_segment h v.segments)
put_shape true h v = (refl, refl, refl)
put_shape false h v = (refl, refl, refl)

same_Ok : (x y : PoolRows) → (let a : Result PoolRows Refusal = Ok x in let b : Result PoolRows Refusal = Ok y in a ≡ b) → x ≡ y
same_Ok x y h = cc

not_Ok : (e : Refusal) (y : PoolRows) → (let a : Result PoolRows Refusal = Err e in let b : Result PoolRows Refusal = Ok y in a ≡ b) → ⊥
not_Ok e y h = cc

put_row : (i : RandomIndex) (s t : PoolRows) (c : Claims) (x : Segment) (b : Bool) (h : HeldSegment) (o : Option Volume) → ((k : ℕ) → reach (segment_on x.file h) k ≡ reach x k) → row_at x.file s.volumes ≡ o
    → with_volumes s (changed x.file (put b h) s.volumes o) ≡ Ok t → IsIndexBy i (shape_at s) (and_segment x (times_at s c)) → IsRandomIndexOf i t c
unfolding reach_of
put_row i s t c x b h None reaches there made is = absurd (not_Ok NotFound t made)
put_row i s t c x b h (Some v) reaches there made is =
    let w : Volume = put_on b h v in
    let shape = put_shape b h v in
    let new : PoolRows = record s { volumes = set_row x.file w s.volumes } in
    subst (λ (u : PoolRows). IsRandomIndexOf i u c) (same_Ok new t made)
    (index_same i (shape_at s) (shape_at new) (and_segment x (times_at s c)) (times_at new c) (set_shapes s c x.file v w there shape.1 shape.0)
    (more_times s c x.file v w there x refl (λ k. more k shape.2)) is) where
      more : (k : ℕ) → (put_on b h v).segments ≡ with_segment h v.segments → weight_of (λ g. reach (segment_on x.file g) k) ((put_on b h v).segments) ≡ weight_of (λ g. reach (segment_on x.file g) k) v.segments + reach x k
      more k are =
          ap (λ (l : List (HeldSegment × ℕ)). weight_of (λ g. reach (segment_on x.file g) k) l) are
          ∙ weight_of-with (λ g. reach (segment_on x.file g) k) h v.segments
          ∙ ap (λ (n : ℕ). weight_of (λ g. reach (segment_on x.file g) k) v.segments + n) (reaches k)

-- a segment of a copy came
pub put_index : (i : RandomIndex) (s t : PoolRows) (c : Claims) (x : Segment) (object : ℕ) → put_segment object x s ≡ Ok t → IsIndexBy i (shape_at s) (and_segment x (times_at s c)) → IsRandomIndexOf i t c
put_index i s t c x object made is = put_row i s t c x (is_sequential_at x.file s) (held_of object x) (row_at x.file s.volumes) (λ k. refl) refl made is

take_row : (i : RandomIndex) (s t : PoolRows) (c : Claims) (x : Segment) (b : Bool) (h : HeldSegment) (today : ℕ) (o : Option Volume) → ((k : ℕ) → reach (segment_on x.file h) k ≡ reach x k) → row_at x.file s.volumes ≡ o
    → with_volumes s (changed x.file (take_of b h today) s.volumes o) ≡ Ok t → IsRandomIndexOf i s c → IsIndexBy i (shape_at t) (and_segment x (times_at t c))
unfolding reach_of
take_row i s t c x b h today None reaches there made is = absurd (not_Ok NotFound t made)
take_row i s t c x b h today (Some v) reaches there made is = by_held (is_held h v.segments) refl made where
  w : Volume
  w = take_from b h today v

  less : is_held h v.segments ≡ true → (k : ℕ) → weight_of (λ g. reach (segment_on x.file g) k) (without_segment h v.segments) + reach x k ≡ weight_of (λ g. reach (segment_on x.file g) k) v.segments
  less stands k =
      ap (λ (n : ℕ). weight_of (λ g. reach (segment_on x.file g) k) (without_segment h v.segments) + n) (sym (reaches k)) ∙ weight_of-without (λ g. reach (segment_on x.file g) k) h v.segments stands

  by_held : (p : Bool) → is_held h v.segments ≡ p → with_volumes s (row_set x.file s.volumes (if p then Ok (take_from b h today v) else Err NotFound)) ≡ Ok t → IsIndexBy i (shape_at t) (and_segment x (times_at t c))
  by_held true stands made =
      let new : PoolRows = record s { volumes = set_row x.file (take_from b h today v) s.volumes } in
      subst (λ (u : PoolRows). IsIndexBy i (shape_at u) (and_segment x (times_at u c))) (same_Ok new t made)
      (index_same i (shape_at s) (shape_at new) (times_at s c) (and_segment x (times_at new c)) (set_shapes s c x.file v (take_from b h today v) there refl refl)
      (less_times s c x.file v (take_from b h today v) there x refl (less stands)) is)
  by_held false stands made = absurd (not_Ok NotFound t made)

-- a segment of a copy goes
pub take_ready : (i : RandomIndex) (s t : PoolRows) (c : Claims) (x : Segment) (object today : ℕ) → take_segment object x today s ≡ Ok t → IsRandomIndexOf i s c → IsIndexBy i (shape_at t) (and_segment x (times_at t c))
take_ready i s t c x object today made is = take_row i s t c x (is_sequential_at x.file s) (held_of object x) today (row_at x.file s.volumes) (λ k. refl) refl made is

-- ---- a volume comes

-- what stands for it
pub come_shape : (s t : PoolRows) (file : ℕ) (v : Volume) → row_at file t.volumes ≡ Some v → is_sequential v.pool t ≡ false → shape_at t file ≡ Some (shape_of v)
come_shape s t file v there random = ap (shape_of_row t) there ∙ ap (λ (b : Bool). shape_by b v) random

pub come_times : (s t : PoolRows) (c : Claims) (file : ℕ) (v : Volume) → row_at file t.volumes ≡ Some v → ((k : ℕ) → claims_reach c file k ≡ 0) → (k : ℕ) → weight_of (λ h. reach (segment_on file h) k) v.segments ≡ times_at t c file k
come_times s t c file v there free k =
    let now : copies_reach file (row_at file t.volumes) k ≡ weight_of (λ h. reach (segment_on file h) k) v.segments = ap (λ (o : Option Volume). copies_reach file o k) there in
    omega (arith, now, free k)

-- beside it nothing changes: where it was not there, what was said of it was nothing to the index
pub come_index : (i : RandomIndex) (s t : PoolRows) (c : Claims) (file : ℕ) → ChangesAt file s t → row_at file s.volumes ≡ None → IsRandomIndexOf i s c → IsIndexBy i (shape_at s) (times_at t c)
come_index i s t c file changes absent is =
    index_unless i (shape_at s) (shape_at s) (times_at s c) (times_at t c) (λ f. refl) (λ f. elim (cases_eq f file) [
      | inl same ↦ inl (ap (λ (n : ℕ). shape_at s n) same ∙ ap (shape_of_row s) absent)
      | inr apart ↦ inr (times_else file s t c changes f apart)
    ]) is

-- a sequential one comes: it isn't kept
pub sequential_index : (i : RandomIndex) (s t : PoolRows) (c : Claims) (file : ℕ) (v : Volume) → ChangesAt file s t → row_at file s.volumes ≡ None → row_at file t.volumes ≡ Some v → is_sequential v.pool t ≡ true → IsRandomIndexOf i s c → IsRandomIndexOf i t c
sequential_index i s t c file v changes absent there kind is =
    index_unless i (shape_at s) (shape_at t) (times_at s c) (times_at t c)
    (λ f. elim (cases_eq f file) [
      | inl same ↦ subst (λ (n : ℕ). shape_at s n ≡ shape_at t n) (sym same) (ap (shape_of_row s) absent ∙ sym (ap (shape_of_row t) there ∙ ap (λ (b : Bool). shape_by b v) kind))
      | inr apart ↦ sym (shapes_else file s t changes f apart)
    ])
    (λ f. elim (cases_eq f file) [
      | inl same ↦ inl (ap (λ (n : ℕ). shape_at s n) same ∙ ap (shape_of_row s) absent)
      | inr apart ↦ inr (times_else file s t c changes f apart)
    ]) is

-- ---- the rows one after the other

push_other : (xs : List (ℕ × Volume)) (file q : ℕ) (v : Volume) → q ≢ file → row_at q (xs ++ (file, v) ∷ []) ≡ row_at q xs
push_other [] file q v apart = ap (λ (b : Bool). cond b (Some v) None) (apart_at q file apart)
push_other (e ∷ xs) file q v apart = ap (λ (o : Option Volume). cond (is_at (nat_cmp q) e.0) (Some e.1) o) (push_other xs file q v apart)

push_here : (xs : List (ℕ × Volume)) (file : ℕ) (v : Volume) → row_at file xs ≡ None → row_at file (xs ++ (file, v) ∷ []) ≡ Some v
push_here [] file v absent = ap (λ (b : Bool). cond b (Some v) None) (itself file) where
  itself : (n : ℕ) → is_at (nat_cmp n) n ≡ true
  itself n = grind arith
push_here (e ∷ xs) file v absent =
    elim (is_at (nat_cmp file) e.0) as (λ b. cond b (Some e.1) (row_at file xs) ≡ None → cond b (Some e.1) (row_at file (xs ++ (file, v) ∷ [])) ≡ Some v) [
      | true ↦ λ h. absurd cc
      | false ↦ λ h. push_here xs file v h
    ] absent

pub push_changes : (s : PoolRows) (xs : List (ℕ × Volume)) (file : ℕ) (v : Volume) → ChangesAt file (rows_with s xs) (rows_with s (xs ++ (file, v) ∷ []))
push_changes s xs file v = record { others = λ q apart. push_other xs file q v apart; kinds = λ pool. refl }

pub push_there : (xs : List (ℕ × Volume)) (file : ℕ) (v : Volume) → row_at file xs ≡ None → row_at file (xs ++ (file, v) ∷ []) ≡ Some v
push_there xs file v absent = push_here xs file v absent

-- the index of a row more
pub row_absent : (xs : List (ℕ × Volume)) (file : ℕ) (v : Volume) (ys it all : List (ℕ × Volume)) → it ≡ (file, v) ∷ ys → xs ++ it ≡ all → IsStrictlySortedBy nat_cmp (keys_of all) → row_at file xs ≡ None
row_absent xs file v ys it all first whole sorted =
    let e : xs ++ (file, v) ∷ ys ≡ all = ap (λ (r : List (ℕ × Volume)). xs ++ r) (sym first) ∙ whole in
    (last_row xs file v ys (subst (λ (l : List (ℕ × Volume)). IsStrictlySortedBy nat_cmp (keys_of l)) (sym e) sorted)).1

pub row_pushed : (xs : List (ℕ × Volume)) (e : ℕ × Volume) (ys it all : List (ℕ × Volume)) → it ≡ e ∷ ys → xs ++ it ≡ all → (xs ++ e ∷ []) ++ ys ≡ all
row_pushed xs e ys it all first whole = append_assoc xs (e ∷ []) ys ∙ ap (λ (r : List (ℕ × Volume)). xs ++ r) (sym first) ∙ whole

-- ---- what is held, the first time

pub ticket_pushed : (now : ℕ → ℕ → ℕ) (number : ℕ) (claim : Claim) (rest all : List (ℕ × Claim)) (places : List Placed) → places ≡ claim.places → all ≡ (number, claim) ∷ rest → (f k : ℕ) → and_places places now f k + tickets_reach rest f k ≡ now f k + tickets_reach all f k
ticket_pushed now number claim rest all places are first f k =
    let them : places_reach places f k ≡ places_reach claim.places f k = ap (λ (l : List Placed). places_reach l f k) are in
    let whole : tickets_reach all f k ≡ tickets_reach ((number, claim) ∷ rest) f k = ap (λ (l : List (ℕ × Claim)). tickets_reach l f k) first in
    omega (arith, them, whole, sum_by-cons (λ x. places_reach x.1.places f k) (number, claim) rest)

pub freed_pushed : (now : ℕ → ℕ → ℕ) (number : ℕ) (gone : List Placed) (rest all : List (ℕ × List Placed)) (places : List Placed) → places ≡ gone → all ≡ (number, gone) ∷ rest → (f k : ℕ) → and_places places now f k + freed_reach rest f k ≡ now f k + freed_reach all f k
freed_pushed now number gone rest all places are first f k =
    let them : places_reach places f k ≡ places_reach gone f k = ap (λ (l : List Placed). places_reach l f k) are in
    let whole : freed_reach all f k ≡ freed_reach ((number, gone) ∷ rest) f k = ap (λ (l : List (ℕ × List Placed)). freed_reach l f k) first in
    omega (arith, them, whole, sum_by-cons (λ x. places_reach x.1 f k) (number, gone) rest)

pub all_index : (i : RandomIndex) (s : PoolRows) (c : Claims) → IsIndexBy i (shape_at s) (λ f k. (times_at s nothing f k + tickets_reach c.tickets f k) + freed_reach c.freed f k) → IsRandomIndexOf i s c
all_index i s c is = counts_same i (shape_at s) (λ f k. (times_at s nothing f k + tickets_reach c.tickets f k) + freed_reach c.freed f k) (times_at s c) (λ f k. omega arith) is

-- ---- the copies on a volume

abbrev pub copies_of : ℕ → List (HeldSegment × ℕ) → ℕ → ℕ
copies_of file held k = weight_of (λ h. reach (segment_on file h) k) held

pub copy_pushed : (file k : ℕ) (h : HeldSegment) (n : ℕ) (rest all : List (HeldSegment × ℕ)) (now whole : ℕ) → all ≡ (h, n) ∷ rest → now + copies_of file all k ≡ whole → (now + reach (segment_on file h) k * (n + 1)) + copies_of file rest k ≡ whole
copy_pushed file k h n rest all now whole first so_far =
    let parts : copies_of file all k ≡ reach (segment_on file h) k * (n + 1) + copies_of file rest k =
    ap (λ (l : List (HeldSegment × ℕ)). copies_of file l k) first ∙ sum_by-cons (λ e. reach (segment_on file e.0) k * (e.1 + 1)) (h, n) rest in
    omega (arith, parts, so_far)

-- ---- what the index doesn't see

pub stays_unkept : (i : RandomIndex) (s t : PoolRows) (c : Claims) (file : ℕ) → ChangesAt file s t → shape_at s file ≡ None → shape_at t file ≡ None → IsRandomIndexOf i s c → IsRandomIndexOf i t c
stays_unkept i s t c file changes none none-after is =
    index_unless i (shape_at s) (shape_at t) (times_at s c) (times_at t c)
    (λ f. elim (cases_eq f file) [
      | inl same ↦ subst (λ (n : ℕ). shape_at s n ≡ shape_at t n) (sym same) (none ∙ sym none-after)
      | inr apart ↦ sym (shapes_else file s t changes f apart)
    ])
    (λ f. elim (cases_eq f file) [
      | inl same ↦ inl (ap (λ (n : ℕ). shape_at s n) same ∙ none)
      | inr apart ↦ inr (times_else file s t c changes f apart)
    ]) is

pub stays_same : (i : RandomIndex) (s t : PoolRows) (c d : Claims) → t.volumes ≡ s.volumes → ((pool : ℕ) → is_sequential pool t ≡ is_sequential pool s) → d.tickets ≡ c.tickets → d.freed ≡ c.freed → IsRandomIndexOf i s c → IsRandomIndexOf i t d
stays_same i s t c d volumes kinds tickets freed is =
    index_same i (shape_at s) (shape_at t) (times_at s c) (times_at t d)
    (λ f. shape_kind s t (row_at f s.volumes) kinds ∙ ap (λ (l : List (ℕ × Volume)). shape_of_row t (row_at f l)) (sym volumes))
    (λ f k.
    ap (λ (l : List (ℕ × Volume)). copies_reach f (row_at f l) k + claims_reach c f k) (sym volumes)
    ∙ ap (λ (l : List (ℕ × Claim)). copies_reach f (row_at f t.volumes) k + (tickets_reach l f k + freed_reach c.freed f k)) (sym tickets)
    ∙ ap (λ (l : List (ℕ × List Placed)). copies_reach f (row_at f t.volumes) k + (tickets_reach d.tickets f k + freed_reach l f k)) (sym freed)) is
