-- The free space of a sequential pool by the volumes that are looked at and what is listed of the others is that by the definition.
use Rattle.std.proofs.Common.{◌≡◌, ℕ, ◌+◌, ◌-◌, ◌*◌, ◌<◌, ◌≤◌, Bool, true, false, List, [], ◌∷◌, ◌++◌, sum, Option, Some, None, unwrap_or, zero, suc, refl, sym, ap, subst, ◌∙◌, arith, inl, inr, ◌⊎◌, append_assoc}
use Rattle.std.specs.Prelude.{◌==◌, ◌&&◌, ◌||◌, not, is_some, nat_le, min, if◌then◌else◌}
use Rattle.std.specs.BTreeMap.Range.{range_contains, entries_between}
use Rattle.std.specs.declared.ops.Bound.TheVariants.{Excluded, Unbounded}
use Rattle.std.specs.Option.{option_map}
use Rattle.std.specs.List.{flat_map, sum_by}
use Rattle.std.specs.List.Sorted.{IsStrictlySortedBy}
use Rattle.std.specs.Map.{keys_of, values_of}
use Rattle.std.specs.Ordering.{nat_cmp}
use Rattle.std.proofs.lemmas.Bool.{cases_eq, cases_lt, ne_eqb, le-leb, lt-leb}
use Rattle.std.proofs.lemmas.List.{append-nil}
use Rattle.std.proofs.lemmas.List.Sums.{sum_by-cons, sum-map}
use Rattle.std.proofs.lemmas.Option.{same_Some}
use Rattle.volume_rows.specs.declared.volume.Volume.{Volume}
use Rattle.volume_rows.proofs.Entries.{sum_by-inserted}
use Rattle.pool_tables.specs.Rows.{row_at, with_row}
use Rattle.pool_rows.specs.PoolRows.{PoolRows, is_sequential, pool_capacity}
use Rattle.space.specs.declared.piece.Piece.{Piece}
use Rattle.space.specs.declared.claims.Claim.{Claim}
use Rattle.space.specs.declared.site.Site.{Site}
use Rattle.space.specs.declared.turn.Turn.{Turn}
use Rattle.space.specs.declared.turn.Turn.TheVariants.{Preferred, Filling, Empty}
use Rattle.space.specs.declared.request.Request.{Request}
use Rattle.space.specs.Claims.{Claims, counted}
use Rattle.space.specs.Volumes.{site_of, drawn_site, sites, has_tail, is_filling, is_empty, scratch_one, scratch_count}
use Rattle.space.specs.Pieces.{tail_piece, is_in_turn, tail_in, tails_in, tails, scratch_pieces, max_scratch, scratch_left, sequential_pieces, room, filled}
use Rattle.space_index.specs.declared.by_pool.Listing.{Listing}
use Rattle.space_index.specs.declared.held.Held.{Held}
use Rattle.space_index.specs.declared.lists.Lists.{Lists}
use Rattle.space_index.specs.declared.tails.Tails.{Tails}
use Rattle.space_index.specs.Claimed.{is_lone, with_held, IsHeldAt, AreHeld}
use Rattle.space_index.specs.Listed.{given_at, some_room, rooms_at}
use Rattle.space_index.specs.Tails.{room_if, IsListing, tail_room, filling_room, empty_room, scratch_room, home_by, open_home, own_home, IsOwnListing, AreLists, tail_by, base_of, base_in, IsTailsOf}
use Rattle.space_index.specs.Sequential.{seen_with, seen_in, view, over, AreMore, IsKnown, KnowsMore, AreNear, IsPart, AreSeenAs, Serves, listed_near, listed_else, rooms_of_own, own_rooms, either_of, in_either, listed_by, IsNext, IsNextOrNone}
use Rattle.space_index.proofs.Bags.{some_or, some_none}
use Rattle.space_index.proofs.Fills.{filled_none, filled_last, filled_more, filled-append}
use Rattle.space_index.proofs.Listings.{homed}
use Rattle.space_index.proofs.Looked.{put_here, put_other, put_ascends, more_none, more_then, more_known, not_before, over_more, all_ascend}
use Rattle.space_index.proofs.Numbers.{Ascends, ascends_sorted, sorted_ascends, none_below, bound, below_bound, below_higher, by_numbers, numbers_of, same_by_numbers, row_first, row_later}
use Rattle.space_index.proofs.Parts.{sized, split_numbers, below_same, sums_within, serves_append, serves_filled, serves_left, listed_within, part_room}
use Rattle.space_index.proofs.Places.{room-append}
use Rattle.space_index.proofs.Views.{claim_each, own_of, others_of, all_sites, site_row, seen_none, seen_some, free_sites, free_ascends, free_row, free_tails, view_is}

-- ---- volumes are collected

-- so far: what is listed below a number is looked at, and there stands room for what was taken off
pub record IsCollecting (see : ℕ → Option Site) (rooms : ℕ → Option ℕ) (old near : List (ℕ × Site)) (size rest low : ℕ) : Type 0 where
  pub more : AreMore see old near
  pub known : (q : ℕ) → q < low → row_at q near ≡ None → (see q ≡ None) ⊎ (rooms q ≡ None)
  pub amount : (g : ℕ × Site → List Piece) → IsPart g see rooms old → size ≤ rest + room (by_numbers (λ q. given_at g q (row_at q near)) 0 low)

pub collect_begin : (see : ℕ → Option Site) (rooms : ℕ → Option ℕ) (old : List (ℕ × Site)) (size : ℕ) → IsCollecting see rooms old old size size 0
collect_begin see rooms old size = record { more = more_none see old; known = λ q lt none. absurd (omega (arith, lt)); amount = λ g part. omega arith }

given_grows : (g : ℕ × Site → List Piece) (see : ℕ → Option Site) (old new : List (ℕ × Site)) → AreMore see old new → (q : ℕ) → room (given_at g q (row_at q old)) ≤ room (given_at g q (row_at q new))
unfolding given_at
given_grows g see old new more q = go (row_at q old) refl where
  go : (o : Option Site) → row_at q old ≡ o → room (given_at g q (row_at q old)) ≤ room (given_at g q (row_at q new))
  go None is = omega (arith, ap (λ (o : Option Site). room (given_at g q o)) is)
  go (Some x) is = omega (arith, ap (λ (o : Option Site). room (given_at g q o)) (is ∙ sym (more.kept q x is)))

-- up to a number and with what stands there
upto_next : (f : ℕ → List Piece) (low file : ℕ) → low ≤ file → room (by_numbers f 0 low) + room (f file) ≤ room (by_numbers f 0 (file + 1))
unfolding by_numbers
upto_next f low file le =
    let d : ℕ = file - low in
    let whole : file + 1 ≡ low + (d + 1) = omega (arith, le) in
    let at : 0 + low + d ≡ file = omega (arith, le) in
    let one : by_numbers f (0 + low + d) 1 ≡ f file = append-nil (f (0 + low + d)) ∙ ap f at in
    let e : room (by_numbers f 0 (file + 1)) ≡ room (by_numbers f 0 low ++ (by_numbers f (0 + low) d ++ by_numbers f (0 + low + d) 1)) =
    ap (λ (n : ℕ). room (by_numbers f 0 n)) whole ∙ ap room (split_numbers f 0 low (d + 1) ∙ ap (λ (l : List Piece). by_numbers f 0 low ++ l) (split_numbers f (0 + low) d 1)) in
    omega (arith, e, room-append (by_numbers f 0 low) (by_numbers f (0 + low) d ++ by_numbers f (0 + low + d) 1), room-append (by_numbers f (0 + low) d) (by_numbers f (0 + low + d) 1), ap room one)

-- the next one that is listed is looked at
pub collect_step : (see : ℕ → Option Site) (rooms : ℕ → Option ℕ) (old near new : List (ℕ × Site)) (size rest n low : ℕ) (e : ℕ × ℕ) → IsCollecting see rooms old near size rest low → IsNext rooms low e → KnowsMore see e.0 near new
    → rest ≤ n + (if is_some (row_at e.0 near) then 0 else e.1) → IsCollecting see rooms old new size n (e.0 + 1)
unfolding given_at
collect_step see rooms old near new size rest n low e is next knows less = record {
  more = more_then see old near new is.more knows.more;
  known = λ q lt none. elim (cases_eq q e.0) [
    | inl same ↦ inl (ap see same ∙ knows.known (ap (λ (k : ℕ). row_at k new) (sym same) ∙ none))
    | inr other ↦ elim (cases_lt q low) [
      | inl below ↦ is.known q below (not_before see near new q knows.more none)
      | inr above ↦ inr (next.none q above (before q e.0 lt other))
    ]
  ];
  amount = λ g part. amount g part (row_at e.0 near) refl;
} where
  before : (q k : ℕ) → q < k + 1 → (q ≡ k → ⊥) → q < k
  before q k lt other = grind (arith, lt, other)

  amount : (g : ℕ × Site → List Piece) → IsPart g see rooms old → (o : Option Site) → row_at e.0 near ≡ o → size ≤ n + room (by_numbers (λ q. given_at g q (row_at q new)) 0 (e.0 + 1))
  amount g part (Some x) was =
      let so_far : size ≤ rest + room (by_numbers (λ q. given_at g q (row_at q near)) 0 low) = is.amount g part in
      let grown : room (by_numbers (λ q. given_at g q (row_at q near)) 0 low) ≤ room (by_numbers (λ q. given_at g q (row_at q new)) 0 low) =
      sums_within (λ q. given_at g q (row_at q near)) (λ q. given_at g q (row_at q new)) 0 low (given_grows g see near new knows.more) in
      let all : room (by_numbers (λ q. given_at g q (row_at q new)) 0 low) + room (given_at g e.0 (row_at e.0 new)) ≤ room (by_numbers (λ q. given_at g q (row_at q new)) 0 (e.0 + 1)) =
      upto_next (λ q. given_at g q (row_at q new)) low e.0 next.above in
      let none : rest ≤ n + 0 = subst (λ (o : Option Site). rest ≤ n + (if is_some o then 0 else e.1)) was less in
      omega (arith, so_far, grown, all, none)
  amount g part None was =
      let so_far : size ≤ rest + room (by_numbers (λ q. given_at g q (row_at q near)) 0 low) = is.amount g part in
      let grown : room (by_numbers (λ q. given_at g q (row_at q near)) 0 low) ≤ room (by_numbers (λ q. given_at g q (row_at q new)) 0 low) =
      sums_within (λ q. given_at g q (row_at q near)) (λ q. given_at g q (row_at q new)) 0 low (given_grows g see near new knows.more) in
      let all : room (by_numbers (λ q. given_at g q (row_at q new)) 0 low) + room (given_at g e.0 (row_at e.0 new)) ≤ room (by_numbers (λ q. given_at g q (row_at q new)) 0 (e.0 + 1)) =
      upto_next (λ q. given_at g q (row_at q new)) low e.0 next.above in
      let more : rest ≤ n + e.1 = subst (λ (o : Option Site). rest ≤ n + (if is_some o then 0 else e.1)) was less in
      let has : room (given_at g e.0 (see e.0)) ≡ e.1 = part.room e.0 (not_before see old near e.0 is.more was) ∙ ap (λ (o : Option ℕ). unwrap_or o 0) next.there in
      let there : room (given_at g e.0 (row_at e.0 new)) ≡ room (given_at g e.0 (see e.0)) = ap (λ (o : Option Site). room (given_at g e.0 o)) (now (row_at e.0 new) refl) in
      omega (arith, so_far, grown, all, more, has, there) where
        now : (o : Option Site) → row_at e.0 new ≡ o → row_at e.0 new ≡ see e.0
        now None is-now = is-now ∙ sym (knows.known is-now)
        now (Some x) is-now = is-now ∙ sym (knows.more.come e.0 x was is-now)

module _ (see : ℕ → Option Site) (rooms : ℕ → Option ℕ) (old near : List (ℕ × Site)) (size rest low : ℕ) (is : IsCollecting see rooms old near size rest low) (g : ℕ × Site → List Piece) (part : IsPart g see rooms old) (begun : AreMore see [] old)
    (sites : List (ℕ × Site)) (all_seen : AreSeenAs see sites) (ascend-s : Ascends 0 sites) (ascend-n : Ascends 0 near) where
  -- under a number at which nothing is left to be listed
  same_at : (q : ℕ) → (row_at q near ≡ None → (see q ≡ None) ⊎ (rooms q ≡ None)) → given_at g q (row_at q sites) ≡ given_at g q (row_at q near)
  unfolding given_at
  same_at q none = ap (given_at g q) (all_seen q) ∙ go (row_at q near) refl where
    go : (o : Option Site) → row_at q near ≡ o → given_at g q (see q) ≡ given_at g q (row_at q near)
    go (Some x) now = ap (given_at g q) ((more_then see [] old near begun is.more).come q x refl now ∙ sym now)
    go None now = elim (none now) [
      | inl gone ↦ ap (given_at g q) gone ∙ sym (ap (given_at g q) now)
      | inr same ↦ part.none q (not_before see old near q is.more now) same ∙ sym (ap (given_at g q) now)
    ]

  -- nothing is left
  pub collect_end : ((q : ℕ) → low ≤ q → rooms q ≡ None) → Serves size (flat_map g sites) (flat_map g near)
  collect_end none = inl (same_by_numbers g g sites near ascend-s ascend-n (λ q. same_at q (λ absent. elim (cases_lt q low) [
    | inl below ↦ is.known q below absent
    | inr above ↦ inr (none q above)
  ])))

  -- there is enough
  pub collect_enough : rest ≡ 0 → Serves size (flat_map g sites) (flat_map g near)
  collect_enough enough =
      let m : ℕ = bound sites + bound near in
      let n : ℕ = low + m in
      let f-s : ℕ → List Piece = λ q. given_at g q (row_at q sites) in
      let f-n : ℕ → List Piece = λ q. given_at g q (row_at q near) in
      let front : by_numbers f-s 0 low ≡ by_numbers f-n 0 low = below_same f-s f-n 0 low (λ q lt. same_at q (is.known q (omega (arith, lt)))) in
      let all-s : flat_map g sites ≡ by_numbers f-n 0 low ++ by_numbers f-s (0 + low) m =
      numbers_of g n 0 n sites ascend-s (below_higher (bound sites) n sites (omega arith) (below_bound sites)) (omega arith) ∙ split_numbers f-s 0 low m ∙ ap (λ (l : List Piece). l ++ by_numbers f-s (0 + low) m) front in
      let all-n : flat_map g near ≡ by_numbers f-n 0 low ++ by_numbers f-n (0 + low) m =
      numbers_of g n 0 n near ascend-n (below_higher (bound near) n near (omega arith) (below_bound near)) (omega arith) ∙ split_numbers f-n 0 low m in
      inr (by_numbers f-n 0 low, by_numbers f-s (0 + low) m, by_numbers f-n (0 + low) m, all-s, all-n, omega (arith, is.amount g part, enough))

-- ---- the next one that is listed

pub next_first : (e : ℕ × ℕ) (rest rows : List (ℕ × ℕ)) → rows ≡ e ∷ rest → Ascends 0 rows → IsNext (λ q. row_at q rows) 0 e
unfolding Ascends
next_first e rest rows first ascend =
    let is : Ascends 0 (e ∷ rest) = subst (λ (l : List (ℕ × ℕ)). Ascends 0 l) first ascend in
    record {
      above = omega arith;
      there = ap (row_at e.0) first ∙ row_first e rest;
      none = λ q le lt. ap (row_at q) first ∙ row_later e rest q (λ same. omega (arith, same, lt)) ∙ none_below (e.0 + 1) q rest is.1 (omega (arith, lt));
    }

past_true : (file q : ℕ) → range_contains nat_cmp (Excluded file) Unbounded q ≡ true → file + 1 ≤ q
past_true file q h = grind (arith, h)

past_false : (file q : ℕ) → range_contains nat_cmp (Excluded file) Unbounded q ≡ false → q ≤ file
past_false file q h = grind (arith, h)

pub next_kept : (file low : ℕ) (e : ℕ × ℕ) (rest rows : List (ℕ × ℕ)) → entries_between nat_cmp (Excluded file) Unbounded rows ≡ e ∷ rest → Ascends low rows → IsNext (λ q. row_at q rows) (file + 1) e
unfolding Ascends
next_kept file low e rest [] first is = absurd cc
next_kept file low e rest (x ∷ rows) first is = go (range_contains nat_cmp (Excluded file) Unbounded x.0) refl first (λ h. next_kept file (x.0 + 1) e rest rows h is.1) where
  head : x ∷ entries_between nat_cmp (Excluded file) Unbounded rows ≡ e ∷ rest → x ≡ e
  head h = cc

  go : (b : Bool) → range_contains nat_cmp (Excluded file) Unbounded x.0 ≡ b → (if b then x ∷ entries_between nat_cmp (Excluded file) Unbounded rows else entries_between nat_cmp (Excluded file) Unbounded rows) ≡ e ∷ rest
      → (entries_between nat_cmp (Excluded file) Unbounded rows ≡ e ∷ rest → IsNext (λ q. row_at q rows) (file + 1) e) → IsNext (λ q. row_at q (x ∷ rows)) (file + 1) e
  go true on h later = subst (λ (y : ℕ × ℕ). IsNext (λ q. row_at q (x ∷ rows)) (file + 1) y) (head h) (record {
    above = past_true file x.0 on;
    there = row_first x rows;
    none = λ q le lt. row_later x rows q (λ same. omega (arith, same, lt)) ∙ none_below (x.0 + 1) q rows is.1 (omega (arith, lt));
  })
  go false off h later =
      let next = later h in
      let low : x.0 ≤ file = past_false file x.0 off in
      record {
        above = next.above;
        there = row_later x rows e.0 (λ same. omega (arith, same, low, next.above)) ∙ next.there;
        none = λ q le lt. row_later x rows q (λ same. omega (arith, same, low, le)) ∙ next.none q le lt;
      }

pub next_gone : (file low : ℕ) (rows : List (ℕ × ℕ)) → entries_between nat_cmp (Excluded file) Unbounded rows ≡ [] → Ascends low rows → (q : ℕ) → file + 1 ≤ q → row_at q rows ≡ None
unfolding Ascends
next_gone file low [] none is q le = refl
next_gone file low (x ∷ rows) none is q le = go (range_contains nat_cmp (Excluded file) Unbounded x.0) refl none (λ h. next_gone file (x.0 + 1) rows h is.1 q le) where
  go : (b : Bool) → range_contains nat_cmp (Excluded file) Unbounded x.0 ≡ b → (if b then x ∷ entries_between nat_cmp (Excluded file) Unbounded rows else entries_between nat_cmp (Excluded file) Unbounded rows) ≡ []
      → (entries_between nat_cmp (Excluded file) Unbounded rows ≡ [] → row_at q rows ≡ None) → row_at q (x ∷ rows) ≡ None
  go true on h later = absurd cc
  go false off h later = row_later x rows q (λ same. omega (arith, same, past_false file x.0 off, le)) ∙ later h

-- of two lists
pub either_none : (rooms others : List (ℕ × ℕ)) (q : ℕ) → row_at q rooms ≡ None → row_at q others ≡ None → in_either rooms others q ≡ None
either_none rooms others q none none' = ap (λ (o : Option ℕ). either_of o (row_at q others)) none ∙ none'

pub earlier_second : (rooms others : List (ℕ × ℕ)) (low : ℕ) (o : Option (ℕ × ℕ)) → ((q : ℕ) → low ≤ q → row_at q rooms ≡ None) → IsNextOrNone (λ q. row_at q others) low o → IsNextOrNone (in_either rooms others) low o
earlier_second rooms others low None none next = λ q le. either_none rooms others q (none q le) (next q le)
earlier_second rooms others low (Some b) none next = record {
  above = next.above;
  there = ap (λ (o : Option ℕ). either_of o (row_at b.0 others)) (none b.0 next.above) ∙ next.there;
  none = λ q le lt. either_none rooms others q (none q le) (next.none q le lt);
}

pub earlier_first : (rooms others : List (ℕ × ℕ)) (low : ℕ) (a : ℕ × ℕ) → IsNext (λ q. row_at q rooms) low a → ((q : ℕ) → low ≤ q → q < a.0 → row_at q others ≡ None) → IsNext (in_either rooms others) low a
earlier_first rooms others low a next none = record {
  above = next.above;
  there = ap (λ (o : Option ℕ). either_of o (row_at a.0 others)) next.there;
  none = λ q le lt. either_none rooms others q (next.none q le lt) (none q le lt);
}

pub earlier_other : (rooms others : List (ℕ × ℕ)) (low : ℕ) (a b : ℕ × ℕ) → IsNext (λ q. row_at q rooms) low a → IsNext (λ q. row_at q others) low b → b.0 < a.0 → IsNext (in_either rooms others) low b
earlier_other rooms others low a b first second less = record {
  above = second.above;
  there = ap (λ (o : Option ℕ). either_of o (row_at b.0 others)) (first.none b.0 second.above less) ∙ second.there;
  none = λ q le lt. either_none rooms others q (first.none q le (omega (arith, lt, less))) (second.none q le lt);
}

-- ---- two lists as one

merged : List (ℕ × ℕ) → List (ℕ × ℕ) → List (ℕ × ℕ)
merged rooms [] = rooms
merged rooms (e ∷ others) = with_row e.0 e.1 (merged rooms others)

module _ (rooms : List (ℕ × ℕ)) where
  merged_row : (q low : ℕ) (others : List (ℕ × ℕ)) → Ascends low others → row_at q (merged rooms others) ≡ either_of (row_at q others) (row_at q rooms)
  unfolding merged Ascends
  merged_row q low [] is = refl
  merged_row q low (e ∷ others) is = elim (cases_eq q e.0) [
    | inl same ↦ subst (λ (n : ℕ). row_at n (with_row e.0 e.1 (merged rooms others)) ≡ either_of (row_at n (e ∷ others)) (row_at n rooms)) (sym same)
        (put_here e.0 e.1 (merged rooms others) ∙ sym (ap (λ (o : Option ℕ). either_of o (row_at e.0 rooms)) (row_first e others)))
    | inr apart ↦
        put_other e.0 q e.1 (merged rooms others) apart ∙ merged_row q (e.0 + 1) others is.1 ∙ sym (ap (λ (o : Option ℕ). either_of o (row_at q rooms)) (row_later e others q apart))
  ]

  merged_ascends : (others : List (ℕ × ℕ)) → Ascends 0 rooms → Ascends 0 (merged rooms others)
  unfolding merged
  merged_ascends [] is = is
  merged_ascends (e ∷ others) is = put_ascends 0 e.0 e.1 (merged rooms others) (omega arith) (merged_ascends others is)

  merged_sum : (low : ℕ) (others : List (ℕ × ℕ)) → Ascends low others → ((q : ℕ) → (row_at q rooms ≡ None) ⊎ (row_at q others ≡ None)) → sum_by (λ e. e.1) (merged rooms others) ≡ sum_by (λ e. e.1) rooms + sum_by (λ e. e.1) others
  unfolding merged Ascends
  merged_sum low [] is apart = omega arith
  merged_sum low (e ∷ others) is apart =
      let none : row_at e.0 others ≡ None = none_below (e.0 + 1) e.0 others is.1 (omega arith) in
      let absent : row_at e.0 (merged rooms others) ≡ None =
      merged_row e.0 (e.0 + 1) others is.1 ∙ ap (λ (o : Option ℕ). either_of o (row_at e.0 rooms)) none ∙ elim (apart e.0) [
        | inl there ↦ there
        | inr gone ↦ absurd (some_not e.1 (sym (row_first e others) ∙ gone))
      ] in
      omega (arith, sum_by-inserted (λ (x : ℕ × ℕ). x.1) nat_cmp (merged rooms others) e.0 e.1 absent, merged_sum (e.0 + 1) others is.1 (λ q. later q (apart q)), sum_by-cons (λ (x : ℕ × ℕ). x.1) e others) where
        some_not : (n : ℕ) → (let o : Option ℕ = None in Some n ≡ o) → ⊥
        some_not n h = cc

        later : (q : ℕ) → (row_at q rooms ≡ None) ⊎ (row_at q (e ∷ others) ≡ None) → (row_at q rooms ≡ None) ⊎ (row_at q others ≡ None)
        later q (inl h) = inl h
        later q (inr h) = elim (cases_eq q e.0) [
          | inl same ↦ inr (none_below (e.0 + 1) q others is.1 (omega (arith, same)))
          | inr other ↦ inr (sym (row_later e others q other) ∙ h)
        ]

  module _ (others : List (ℕ × ℕ)) (ascend-r : Ascends 0 rooms) (ascend-o : Ascends 0 others) (apart : (q : ℕ) → (row_at q rooms ≡ None) ⊎ (row_at q others ≡ None)) where
    in_merged : (q : ℕ) → row_at q (merged rooms others) ≡ in_either rooms others q
    in_merged q = merged_row q 0 others ascend-o ∙ go (row_at q rooms) (row_at q others) (apart q) where
      go : (a b : Option ℕ) → (a ≡ None) ⊎ (b ≡ None) → either_of b a ≡ either_of a b
      go None None h = refl
      go (Some n) None h = refl
      go None (Some n) h = refl
      go (Some n) (Some k) (inl h) = absurd cc
      go (Some n) (Some k) (inr h) = absurd cc

    near_merged : (near : List (ℕ × Site)) → listed_near (merged rooms others) near ≡ listed_near rooms near + listed_near others near
    near_merged [] = refl
    near_merged (x ∷ near) =
        omega (arith, near_merged near, here x.0, sum_by-cons (λ e. unwrap_or (row_at e.0 (merged rooms others)) 0) x near, sum_by-cons (λ e. unwrap_or (row_at e.0 rooms) 0) x near, sum_by-cons (λ e. unwrap_or (row_at e.0 others) 0) x near) where
          go : (a b : Option ℕ) → (a ≡ None) ⊎ (b ≡ None) → unwrap_or (either_of a b) 0 ≡ unwrap_or a 0 + unwrap_or b 0
          go None b h = omega arith
          go (Some n) None h = omega arith
          go (Some n) (Some k) (inl h) = absurd cc
          go (Some n) (Some k) (inr h) = absurd cc

          here : (q : ℕ) → unwrap_or (row_at q (merged rooms others)) 0 ≡ unwrap_or (row_at q rooms) 0 + unwrap_or (row_at q others) 0
          here q = ap (λ (o : Option ℕ). unwrap_or o 0) (in_merged q) ∙ go (row_at q rooms) (row_at q others) (apart q)

    else_merged : (near : List (ℕ × Site)) → Ascends 0 near → listed_else (merged rooms others) near ≡ listed_else rooms near + listed_else others near
    else_merged near ascend-n =
        omega (arith, near_merged near, merged_sum 0 others ascend-o apart, sum-map (λ (e : ℕ × ℕ). e.1) (merged rooms others), sum-map (λ (e : ℕ × ℕ). e.1) rooms, sum-map (λ (e : ℕ × ℕ). e.1) others, listed_within rooms near ascend-r ascend-n, listed_within others near ascend-o ascend-n)

-- ---- what is listed of the volumes that are seen

room_seen : (Site → ℕ) → Option Site → Option ℕ
room_seen room None = None
room_seen room (Some x) = some_room (room x)

if_none : (b : Bool) → (let n : Option ℕ = None in (if b then n else None) ≡ None)
if_none true = refl
if_none false = refl

open_seen : (room : Site → ℕ) (number actor : ℕ) (b : Option Site) → room_if number (open_home room b None) ≡ room_seen room (seen_in number actor b None)
unfolding room_seen
open_seen room number actor None = refl
open_seen room number actor (Some x) = go (x.pool == number) where
  go : (b : Bool) → (if b then some_room (room x) else None) ≡ room_seen room (if b then Some x else None)
  go true = refl
  go false = refl

open_held : (room : Site → ℕ) (number : ℕ) (b : Option Site) (h : Held) → room_if number (open_home room b (Some h)) ≡ None
open_held room number None h = refl
open_held room number (Some x) h = refl

own_seen : (number actor : ℕ) (b : Option Site) (h : Held) → room_if number (own_home actor b (Some h)) ≡ room_seen filling_room (seen_in number actor b (Some h))
unfolding room_seen
own_seen number actor None h = refl
own_seen number actor (Some x) h = go (is_lone actor h) (x.pool == number) where
  go : (a b : Bool) → room_if number (if a then homed x.pool (filling_room (with_held h x)) else None) ≡ room_seen filling_room (if x.pool == number then (if a then Some (with_held h x) else None) else None)
  go true b = pool (x.pool == number) where
    pool : (b : Bool) → (if b then some_room (filling_room (with_held h x)) else None) ≡ room_seen filling_room (if b then Some (with_held h x) else None)
    pool true = refl
    pool false = refl
  go false b = pool (x.pool == number) where
    pool : (b : Bool) → (let n : Option ℕ = None in n ≡ room_seen filling_room (if b then None else None))
    pool true = refl
    pool false = refl

-- where tickets have space a volume isn't EMPTY
held_room : (h : Held) (x : Site) → empty_room (with_held h x) ≡ 0
held_room h x = go x.is_writable where
  go : (w : Bool) → (if w && (false && has_tail (with_held h x)) then x.capacity - (with_held h x).end - 32 else 0) ≡ 0
  go true = refl
  go false = refl

empty_seen : (number actor : ℕ) (b : Option Site) (h : Held) → (let n : Option ℕ = None in n ≡ room_seen empty_room (seen_in number actor b (Some h)))
unfolding room_seen
empty_seen number actor None h = refl
empty_seen number actor (Some x) h = go (x.pool == number) (is_lone actor h) where
  go : (a b : Bool) → (let n : Option ℕ = None in n ≡ room_seen empty_room (if a then (if b then Some (with_held h x) else None) else None))
  go true true = sym (ap some_room (held_room h x))
  go true false = refl
  go false b = refl

module _ (l : Lists) (s : PoolRows) (held : List (ℕ × Held)) (is : AreLists l (base_in s held) (λ q. row_at q held)) (number actor : ℕ) where
  own_row : (q : ℕ) → row_at q (own_rooms l number actor) ≡ room_if number (own_home actor (base_in s held q) (row_at q held))
  own_row q = go (row_at actor l.own.entries) (is.own actor) where
    go : (o : Option Listing) → IsOwnListing o (λ file. own_home actor (base_in s held file) (row_at file held)) → row_at q (rooms_of_own number o) ≡ room_if number (own_home actor (base_in s held q) (row_at q held))
    go None lists = sym (lists number q)
    go (Some x) lists = lists.listed number q

  pub lists_apart : (q : ℕ) → (row_at q (rooms_at number l.filling.pools.entries) ≡ None) ⊎ (row_at q (own_rooms l number actor) ≡ None)
  lists_apart q = go (row_at q held) refl where
    go : (h : Option Held) → row_at q held ≡ h → (row_at q (rooms_at number l.filling.pools.entries) ≡ None) ⊎ (row_at q (own_rooms l number actor) ≡ None)
    go None there = inr (own_row q ∙ ap (λ (h : Option Held). room_if number (own_home actor (base_in s held q) h)) there)
    go (Some h) there = inl (is.filling.listed number q ∙ ap (λ (h : Option Held). room_if number (open_home filling_room (base_in s held q) h)) there ∙ open_held filling_room number (base_in s held q) h)

  filling_listed : (q : ℕ) → listed_by Filling l number actor q ≡ room_seen filling_room (view s held number actor q)
  filling_listed q = go (row_at q held) refl where
    go : (h : Option Held) → row_at q held ≡ h → either_of (row_at q (rooms_at number l.filling.pools.entries)) (row_at q (own_rooms l number actor)) ≡ room_seen filling_room (seen_in number actor (base_in s held q) (row_at q held))
    go None there =
        ap (λ (o : Option ℕ). either_of (row_at q (rooms_at number l.filling.pools.entries)) o) (own_row q ∙ ap (λ (h : Option Held). room_if number (own_home actor (base_in s held q) h)) there)
        ∙ none_second (row_at q (rooms_at number l.filling.pools.entries))
        ∙ is.filling.listed number q
        ∙ ap (λ (h : Option Held). room_if number (open_home filling_room (base_in s held q) h)) there
        ∙ open_seen filling_room number actor (base_in s held q)
        ∙ sym (ap (λ (h : Option Held). room_seen filling_room (seen_in number actor (base_in s held q) h)) there) where
          none_second : (o : Option ℕ) → either_of o None ≡ o
          none_second None = refl
          none_second (Some n) = refl
    go (Some h) there =
        ap (λ (o : Option ℕ). either_of o (row_at q (own_rooms l number actor)))
        (is.filling.listed number q ∙ ap (λ (h : Option Held). room_if number (open_home filling_room (base_in s held q) h)) there ∙ open_held filling_room number (base_in s held q) h)
        ∙ own_row q
        ∙ ap (λ (h : Option Held). room_if number (own_home actor (base_in s held q) h)) there
        ∙ own_seen number actor (base_in s held q) h
        ∙ sym (ap (λ (h : Option Held). room_seen filling_room (seen_in number actor (base_in s held q) h)) there)

  empty_listed : (q : ℕ) → listed_by Empty l number actor q ≡ room_seen empty_room (view s held number actor q)
  empty_listed q = is.empty.listed number q ∙ go (row_at q held) where
    go : (h : Option Held) → room_if number (open_home empty_room (base_in s held q) h) ≡ room_seen empty_room (seen_in number actor (base_in s held q) h)
    go None = open_seen empty_room number actor (base_in s held q)
    go (Some h) = open_held empty_room number (base_in s held q) h ∙ empty_seen number actor (base_in s held q) h

-- what is seen is of the pool
seen_pool : (number actor : ℕ) (b : Option Site) (h : Option Held) (x : Site) → seen_in number actor b h ≡ Some x → (x.pool == number) ≡ true
seen_pool number actor None h x is = absurd cc
seen_pool number actor (Some y) h x is = go (y.pool == number) refl is where
  with_it : (h : Option Held) → seen_with actor y h ≡ Some x → x.pool ≡ y.pool
  with_it None e = sym (ap (λ (z : Site). z.pool) (same_Some y x e))
  with_it (Some h) e = if_lone (is_lone actor h) e where
    if_lone : (b : Bool) → (if b then Some (with_held h y) else None) ≡ Some x → x.pool ≡ y.pool
    if_lone true e = sym (ap (λ (z : Site). z.pool) (same_Some (with_held h y) x e))
    if_lone false e = absurd cc

  go : (b : Bool) → (y.pool == number) ≡ b → (if b then seen_with actor y h else None) ≡ Some x → (x.pool == number) ≡ true
  go true here e = ap (λ (n : ℕ). n == number) (with_it h e) ∙ here
  go false apart e = absurd cc

-- ---- the volumes that aren't looked at, turn by turn

test_else : (a w v p f t : Bool) (xs : List Piece) → a ≡ true → v ≡ false → p ≡ false → (if (a && (w && not v)) && (true && ((not p && f) && t)) then xs else []) ≡ (if w && (f && t) then xs else [])
test_else false w v p f t xs ea ev ep = absurd cc
test_else true w true p f t xs ea ev ep = absurd cc
test_else true w false true f t xs ea ev ep = absurd cc
test_else true true false false f t xs ea ev ep = refl
test_else true false false false f t xs ea ev ep = refl

preferred_else : (o h p f t : Bool) (xs : List Piece) → p ≡ false → (if o && (h && ((p && f) && t)) then xs else []) ≡ []
preferred_else o h true f t xs ep = absurd cc
preferred_else true true false f t xs ep = refl
preferred_else true false false f t xs ep = refl
preferred_else false h false f t xs ep = refl

-- a tail that passes has its room, and it isn't nothing
tail_has : (x : Site) (q : ℕ) (b : Bool) → room (if b then tail_piece (q, x) ∷ [] else []) ≡ (if b then x.capacity - x.end - 32 else 0)
tail_has x q true = omega arith
tail_has x q false = refl

last_of_three : (w f t : Bool) → (w && (f && t)) ≡ true → t ≡ true
last_of_three true true t h = h
last_of_three true false t h = absurd cc
last_of_three false f t h = absurd cc

tail_none : (x : Site) (q : ℕ) (w f : Bool) → (if w && (f && has_tail x) then x.capacity - x.end - 32 else 0) ≡ 0 → (if w && (f && has_tail x) then tail_piece (q, x) ∷ [] else []) ≡ []
tail_none x q w f none = go (w && (f && has_tail x)) refl where
  large : has_tail x ≡ true → 4096 ≤ x.capacity - x.end
  large h = grind (arith, h)

  go : (b : Bool) → (w && (f && has_tail x)) ≡ b → (if w && (f && has_tail x) then tail_piece (q, x) ∷ [] else []) ≡ []
  go false is = ap (λ (b : Bool). if b then tail_piece (q, x) ∷ [] else []) is
  go true is = absurd (omega (arith, large (last_of_three w f (has_tail x) is), sym (ap (λ (b : Bool). if b then x.capacity - x.end - 32 else 0) is) ∙ none))

-- a volume as a piece of 1 byte, where it is a scratch volume of the pool
abbrev counted_as : ℕ → ℕ × Site → List Piece
counted_as number e = sized (scratch_one number e.1) ∷ []

room-counted : (number : ℕ) (xs : List (ℕ × Site)) → room (flat_map (counted_as number) xs) ≡ scratch_count number xs
room-counted number [] = refl
room-counted number (e ∷ xs) = ap (λ (n : ℕ). scratch_one number e.1 + n) (room-counted number xs)

room_three : (xs ys zs : List Piece) → room (xs ++ ys ++ zs) ≡ room xs + room ys + room zs
room_three xs ys zs = room-append (xs ++ ys) zs ∙ ap (λ (n : ℕ). n + room zs) (room-append xs ys)

no_rows : Ascends {V = ℕ} 0 []
unfolding Ascends
no_rows = tt

module _ (number actor prefer avoid : ℕ) (see : ℕ → Option Site) (sees : (q : ℕ) (x : Site) → see q ≡ Some x → (x.pool == number) ≡ true) where
  absent_not : (near : List (ℕ × Site)) (k q : ℕ) (x : Site) → IsKnown see near k → row_at q near ≡ None → see q ≡ Some x → (q == k) ≡ false
  absent_not near k q x known absent there = ne_eqb q k (λ same. go (see q) there (ap see same ∙ known (ap (λ (n : ℕ). row_at n near) (sym same) ∙ absent))) where
    go : (o : Option Site) → o ≡ Some x → o ≡ None → ⊥
    go o a b = cc

  module _ (turn : Turn) (passes : Site → Bool) (turns : (q : ℕ) (x : Site) → is_in_turn turn prefer (q, x) ≡ (not (q == prefer) && passes x)) (rooms : ℕ → Option ℕ) (listed : (q : ℕ) → rooms q ≡ room_seen (λ x. tail_room (passes x) x) (see q)) (near : List (ℕ × Site))
      (preferred : IsKnown see near prefer) (avoided : IsKnown see near avoid) where
    here : (q : ℕ) (x : Site) → row_at q near ≡ None → see q ≡ Some x → tail_in turn number prefer avoid [] (q, x) ≡ (if x.is_writable && (passes x && has_tail x) then tail_piece (q, x) ∷ [] else [])
    here q x absent there =
        ap (λ (b : Bool). if (x.pool == number && (x.is_writable && not (q == avoid))) && (true && (b && has_tail x)) then tail_piece (q, x) ∷ [] else []) (turns q x)
        ∙ test_else (x.pool == number) x.is_writable (q == avoid) (q == prefer) (passes x) (has_tail x) (tail_piece (q, x) ∷ []) (sees q x there) (absent_not near avoid q x avoided absent there) (absent_not near prefer q x preferred absent there)

    by_sight : (q : ℕ) → row_at q near ≡ None → (o : Option Site) → see q ≡ o
        → (room (given_at (tail_in turn number prefer avoid []) q (see q)) ≡ unwrap_or (rooms q) 0) × (rooms q ≡ None → given_at (tail_in turn number prefer avoid []) q (see q) ≡ [])
    unfolding given_at room_seen
    by_sight q absent None none =
        let is_here : given_at (tail_in turn number prefer avoid []) q (see q) ≡ [] = ap (given_at (tail_in turn number prefer avoid []) q) none in (
          ap room is_here ∙ sym (ap (λ (o : Option ℕ). unwrap_or o 0) (listed q ∙ ap (room_seen (λ x. tail_room (passes x) x)) none)),
          (λ e. is_here),
        )
    by_sight q absent (Some x) there =
        let is_row : rooms q ≡ some_room (tail_room (passes x) x) = listed q ∙ ap (room_seen (λ x. tail_room (passes x) x)) there in
        let is_here : given_at (tail_in turn number prefer avoid []) q (see q) ≡ (if x.is_writable && (passes x && has_tail x) then tail_piece (q, x) ∷ [] else []) =
        ap (given_at (tail_in turn number prefer avoid []) q) there ∙ here q x absent there in (
          ap room is_here ∙ tail_has x q (x.is_writable && (passes x && has_tail x)) ∙ sym (ap (λ (o : Option ℕ). unwrap_or o 0) is_row ∙ some_or (tail_room (passes x) x)),
          (λ none. is_here ∙ tail_none x q x.is_writable (passes x) (some_none (tail_room (passes x) x) (sym is_row ∙ none))),
        )

    turn_part : IsPart (tail_in turn number prefer avoid []) see rooms near
    turn_part = record { none = λ q absent. (by_sight q absent (see q) refl).1; room = λ q absent. (by_sight q absent (see q) refl).0 }

  -- of the preferred volume all is looked at
  pub preferred_part : (near : List (ℕ × Site)) → IsKnown see near prefer → IsPart (tail_in Preferred number prefer avoid []) see (λ q. None) near
  unfolding given_at
  preferred_part near preferred = record { none = λ q absent unlisted. none q absent (see q) refl; room = λ q absent. ap room (none q absent (see q) refl) } where
    none : (q : ℕ) → row_at q near ≡ None → (o : Option Site) → see q ≡ o → given_at (tail_in Preferred number prefer avoid []) q (see q) ≡ []
    none q absent None is = ap (given_at (tail_in Preferred number prefer avoid []) q) is
    none q absent (Some x) is =
        ap (given_at (tail_in Preferred number prefer avoid []) q) is
        ∙ preferred_else (x.pool == number && (x.is_writable && not (q == avoid))) true (q == prefer) (is_filling x || is_empty x) (has_tail x) (tail_piece (q, x) ∷ []) (absent_not near prefer q x preferred absent is)

module _ (l : Lists) (s : PoolRows) (held : List (ℕ × Held)) (lists : AreLists l (base_in s held) (λ q. row_at q held)) (number actor prefer avoid : ℕ) (near : List (ℕ × Site)) (is : AreNear (view s held number actor) prefer avoid near) where
  sees : (q : ℕ) (x : Site) → view s held number actor q ≡ Some x → (x.pool == number) ≡ true
  sees q x there = seen_pool number actor (base_in s held q) (row_at q held) x there

  pub filling_part : IsPart (tail_in Filling number prefer avoid []) (view s held number actor) (listed_by Filling l number actor) near
  filling_part = turn_part number actor prefer avoid (view s held number actor) sees Filling is_filling (λ q x. refl) (listed_by Filling l number actor) (filling_listed l s held lists number actor) near is.preferred is.avoided

  pub empty_part : IsPart (tail_in Empty number prefer avoid []) (view s held number actor) (listed_by Empty l number actor) near
  empty_part = turn_part number actor prefer avoid (view s held number actor) sees Empty is_empty (λ q x. refl) (listed_by Empty l number actor) (empty_listed l s held lists number actor) near is.preferred is.avoided

  module _ (sites : List (ℕ × Site)) (all_seen : AreSeenAs (view s held number actor) sites) (ascend-s : Ascends 0 sites) (ascend-n : Ascends 0 near) where
    over_all : (q : ℕ) → row_at q sites ≡ over (row_at q near) (view s held number actor q)
    over_all = over_more (view s held number actor) sites near all_seen is.more

    pub preferred_same : tails_in Preferred number prefer avoid [] sites ≡ tails_in Preferred number prefer avoid [] near
    unfolding given_at
    preferred_same = same_by_numbers (tail_in Preferred number prefer avoid []) (tail_in Preferred number prefer avoid []) sites near ascend-s ascend-n (λ q. go q (row_at q near) refl) where
      part : IsPart (tail_in Preferred number prefer avoid []) (view s held number actor) (λ q. None) near
      part = preferred_part number actor prefer avoid (view s held number actor) sees near is.preferred

      go : (q : ℕ) (o : Option Site) → row_at q near ≡ o → given_at (tail_in Preferred number prefer avoid []) q (row_at q sites) ≡ given_at (tail_in Preferred number prefer avoid []) q (row_at q near)
      go q None none =
          ap (given_at (tail_in Preferred number prefer avoid []) q) (over_all q ∙ ap (λ (o : Option Site). over o (view s held number actor q)) none)
          ∙ part.none q none refl
          ∙ sym (ap (given_at (tail_in Preferred number prefer avoid []) q) none)
      go q (Some x) there = ap (given_at (tail_in Preferred number prefer avoid []) q) (over_all q ∙ ap (λ (o : Option Site). over o (view s held number actor q)) there ∙ sym there)

    -- the room behind the ends of all volumes
    pub tails_room : Ascends 0 (rooms_at number l.filling.pools.entries) → Ascends 0 (own_rooms l number actor) → Ascends 0 (rooms_at number l.empty.pools.entries)
        → room (tails number prefer avoid [] sites) ≡ room (tails number prefer avoid [] near) + listed_else (rooms_at number l.filling.pools.entries) near + listed_else (own_rooms l number actor) near + listed_else (rooms_at number l.empty.pools.entries) near
    tails_room ascend-f ascend-o ascend-e =
        let g-p : ℕ × Site → List Piece = tail_in Preferred number prefer avoid [] in
        let g-f : ℕ × Site → List Piece = tail_in Filling number prefer avoid [] in
        let g-e : ℕ × Site → List Piece = tail_in Empty number prefer avoid [] in
        let f-rows : List (ℕ × ℕ) = rooms_at number l.filling.pools.entries in
        let o-rows : List (ℕ × ℕ) = own_rooms l number actor in
        let e-rows : List (ℕ × ℕ) = rooms_at number l.empty.pools.entries in
        let all-rows : List (ℕ × ℕ) = merged f-rows o-rows in
        let apart = lists_apart l s held lists number actor in
        let p-room : room (flat_map g-p sites) ≡ room (flat_map g-p near) = ap room preferred_same in
        let f-room : room (flat_map g-f sites) ≡ room (flat_map g-f near) + listed_else all-rows near =
        part_room all-rows near (merged_ascends f-rows o-rows ascend-f) ascend-n g-f (view s held number actor) sites ascend-s over_all (λ q none. filling_part.room q none ∙ ap (λ (o : Option ℕ). unwrap_or o 0) (sym (in_merged f-rows o-rows ascend-f ascend-o apart q))) in
        let e-room : room (flat_map g-e sites) ≡ room (flat_map g-e near) + listed_else e-rows near =
        part_room e-rows near ascend-e ascend-n g-e (view s held number actor) sites ascend-s over_all empty_part.room in
        let all : room (tails number prefer avoid [] sites) ≡ room (flat_map g-p sites) + room (flat_map g-f sites) + room (flat_map g-e sites) = room_three (flat_map g-p sites) (flat_map g-f sites) (flat_map g-e sites) in
        let those : room (tails number prefer avoid [] near) ≡ room (flat_map g-p near) + room (flat_map g-f near) + room (flat_map g-e near) = room_three (flat_map g-p near) (flat_map g-f near) (flat_map g-e near) in
        omega (arith, p-room, f-room, e-room, all, those, else_merged f-rows o-rows ascend-f ascend-o apart near ascend-n)

-- more volumes are looked at
pub near_more : (see : ℕ → Option Site) (prefer avoid : ℕ) (old new : List (ℕ × Site)) → AreNear see prefer avoid old → AreMore see old new → AreNear see prefer avoid new
near_more see prefer avoid old new is more = record {
  more = more_then see [] old new is.more more;
  preferred = more_known see old new prefer more is.preferred;
  avoided = more_known see old new avoid more is.avoided;
}

-- turn after turn
pub serve_all : (size r1 r2 : ℕ) (p p' f f' e e' out0 out1 out2 out3 : List Piece) → p ≡ p' → out0 ≡ [] → out1 ≡ out0 ++ p' → r1 ≡ size - room out1 → Serves r1 f f' → out2 ≡ out1 ++ f' → r2 ≡ size - room out2 → Serves r2 e e' → out3 ≡ out2 ++ e'
    → Serves size (p ++ f ++ e) out3
serve_all size r1 r2 p p' f f' e e' out0 out1 out2 out3 same none is1 left1 serves1 is2 left2 serves2 is3 =
    let first : out1 ≡ p' = is1 ∙ ap (λ (l : List Piece). l ++ p') none in
    let second : out2 ≡ p' ++ f' = is2 ∙ ap (λ (l : List Piece). l ++ f') first in
    let third : out3 ≡ (p' ++ f') ++ e' = is3 ∙ ap (λ (l : List Piece). l ++ e') second in
    let now1 : Serves (size - room p') f f' = subst (λ (n : ℕ). Serves n f f') (left1 ∙ ap (λ (l : List Piece). size - room l) first) serves1 in
    let now2 : Serves (size - room (p' ++ f')) e e' = subst (λ (n : ℕ). Serves n e e') (left2 ∙ ap (λ (l : List Piece). size - room l) second) serves2 in
    let two : Serves size (p ++ f) (p' ++ f') = serves_append size p p' f f' (inl same) now1 in
    let three : Serves size ((p ++ f) ++ e) ((p' ++ f') ++ e') = serves_append size (p ++ f) (p' ++ f') e e' two now2 in
    subst (λ (l : List Piece). Serves size ((p ++ f) ++ e) l) (sym third) three

-- ---- scratch volumes

pub room_scratch : (capacity n file other : ℕ) → room (scratch_pieces capacity n file) ≡ room (scratch_pieces capacity n other)
room_scratch capacity zero file other = refl
room_scratch capacity (suc n) file other = ap (λ (k : ℕ). (capacity - 32) + k) (room_scratch capacity n (file + 1) (other + 1))

le_same : (size a f e m : ℕ) → nat_le (size - a - f - e) m ≡ nat_le size (a + f + e + m)
le_same size a f e m = elim (cases_lt m (size - a - f - e)) [
  | inl less ↦ lt-leb (size - a - f - e) m less ∙ sym (lt-leb size (a + f + e + m) (omega (arith, less)))
  | inr fits ↦ le-leb (size - a - f - e) m fits ∙ sym (le-leb size (a + f + e + m) (omega (arith, fits)))
]

-- a sequential pool has room where the sums say so
pub has_room_is : (size f e left n capacity next : ℕ) (all near : List Piece) → room all ≡ room near + f + e → left ≡ n
    → nat_le (size - room near - f - e) (room (scratch_pieces capacity left 0)) ≡ nat_le size (room (all ++ scratch_pieces capacity n next))
has_room_is size f e left n capacity next all near sums same =
    let scratch : room (scratch_pieces capacity left 0) ≡ room (scratch_pieces capacity n next) = ap (λ (k : ℕ). room (scratch_pieces capacity k 0)) same ∙ room_scratch capacity n 0 next in
    let whole : room near + f + e + room (scratch_pieces capacity left 0) ≡ room (all ++ scratch_pieces capacity n next) = omega (arith, scratch, sums, room-append all (scratch_pieces capacity n next)) in
    le_same size (room near) f e (room (scratch_pieces capacity left 0)) ∙ ap (λ (k : ℕ). nat_le size k) whole

-- what is used of all volumes and of scratch volumes
pub used_are : (size rest left n capacity next : ℕ) (all free first out : List Piece) → Serves size all free → first ≡ filled size free → rest ≡ size - room free → left ≡ n → out ≡ first ++ filled rest (scratch_pieces capacity left next)
    → out ≡ filled size (all ++ scratch_pieces capacity n next)
used_are size rest left n capacity next all free first out serves is-first is-rest same is =
    is
    ∙ ap (λ (l : List Piece). l ++ filled rest (scratch_pieces capacity left next)) (is-first ∙ sym (serves_filled size all free serves))
    ∙ ap (λ (k : ℕ). filled size all ++ filled k (scratch_pieces capacity left next)) (is-rest ∙ sym (serves_left size all free serves))
    ∙ ap (λ (k : ℕ). filled size all ++ filled (size - room all) (scratch_pieces capacity k next)) same
    ∙ sym (filled-append all (scratch_pieces capacity n next) size)

abbrev piece_at : ℕ → ℕ → Piece
piece_at file bytes = record { file = file; offset = 0; room = bytes }

-- one scratch volume more is filled
pub scratch_step : (capacity count i k left bytes file : ℕ) (out new whole : List Piece) (p : Piece) → i < count → (left ≡ 0 → ⊥) → bytes ≡ min left (capacity - 32) → p ≡ record { file = file + i; offset = 0; room = bytes } → new ≡ out ++ p ∷ [] → k ≡ left - bytes
    → out ++ filled left (scratch_pieces capacity (count - i) (file + i)) ≡ whole → new ++ filled k (scratch_pieces capacity (count - (i + 1)) (file + (i + 1))) ≡ whole
scratch_step capacity count i k left bytes file out new whole p lt some is-bytes is-p is-new is-k so_far =
    let more : count - i ≡ suc (count - (i + 1)) = omega (arith, lt) in
    let next : file + i + 1 ≡ file + (i + 1) = omega arith in
    let rest : List Piece = scratch_pieces capacity (count - (i + 1)) (file + (i + 1)) in
    let full : Piece = record { file = file + i; offset = 0; room = capacity - 32 } in
    let pieces : scratch_pieces capacity (count - i) (file + i) ≡ full ∷ rest =
    ap (λ (n : ℕ). scratch_pieces capacity n (file + i)) more ∙ ap (λ (n : ℕ). full ∷ scratch_pieces capacity (count - (i + 1)) n) next in
    let fills : filled left (full ∷ rest) ≡ p ∷ filled k rest = elim (cases_lt (capacity - 32) left) [
      | inl large ↦
          let all : bytes ≡ capacity - 32 = omega (arith, is-bytes, large) in
          filled_more left full rest some large
          ∙ ap (λ (n : ℕ). full ∷ filled n rest) (omega (arith, is-k, all))
          ∙ ap (λ (q : Piece). q ∷ filled k rest) (ap (piece_at (file + i)) (sym all) ∙ sym is-p)
      | inr fits ↦
          let all : bytes ≡ left = omega (arith, is-bytes, fits) in
          let none : k ≡ 0 = omega (arith, is-k, all) in
          filled_last left full rest some fits
          ∙ ap (λ (q : Piece). q ∷ []) (ap (piece_at (file + i)) (sym all) ∙ sym is-p)
          ∙ ap (λ (l : List Piece). p ∷ l) (sym (filled_none rest k none))
    ] in
    ap (λ (l : List Piece). l ++ filled k rest) is-new
    ∙ append_assoc out (p ∷ []) (filled k rest)
    ∙ ap (λ (l : List Piece). out ++ l) (sym (ap (filled left) pieces ∙ fills))
    ∙ so_far

times_more : (c n : ℕ) → c + c * n ≡ c * suc n
times_more c n = omega arith

pub scratch_times : (capacity n file : ℕ) → room (scratch_pieces capacity n file) ≡ (capacity - 32) * n
scratch_times capacity zero file = omega arith
scratch_times capacity (suc n) file = ap (λ (k : ℕ). (capacity - 32) + k) (scratch_times capacity n (file + 1)) ∙ times_more (capacity - 32) n

-- ---- scratch volumes, those among them that tickets have drawn

-- the pool and the kind of a volume are those of its row, or of what was drawn
module _ (s : PoolRows) (number actor : ℕ) (tickets : List (ℕ × Claim)) (held : List (ℕ × Held)) (are : AreHeld held tickets) (sequential : is_sequential number s ≡ true) (l : Listing) (lists : IsListing l (λ file. home_by scratch_room (base_in s held file))) where
  one_of : Option Site → ℕ
  one_of None = 0
  one_of (Some x) = scratch_one number x

  one_in : (x : Site) (b : Bool) → (if b && x.scratch then 1 else 0) ≡ unwrap_or (if b then some_room (scratch_room x) else None) 0
  one_in x true = sym (some_or (scratch_room x))
  one_in x false = refl

  row_one : (v : Volume) → one_of (Some (site_of v)) ≡ unwrap_or (room_if number (home_by scratch_room (tail_by (is_sequential v.pool s) v))) 0
  unfolding one_of
  row_one v = one_in (site_of v) (v.pool == number) ∙ go (is_sequential v.pool s) refl where
    false_true : (let a : Bool = false in a ≡ true) → ⊥
    false_true e = cc

    go : (b : Bool) → is_sequential v.pool s ≡ b → unwrap_or (if v.pool == number then some_room (scratch_room (site_of v)) else None) 0 ≡ unwrap_or (room_if number (home_by scratch_room (tail_by (is_sequential v.pool s) v))) 0
    go true h = sym (ap (λ (b : Bool). unwrap_or (room_if number (home_by scratch_room (tail_by b v))) 0) h)
    go false h =
        ap (λ (b : Bool). unwrap_or (if b then some_room (scratch_room (site_of v)) else None) 0) (ne_eqb v.pool number (λ same. false_true (sym h ∙ ap (λ (n : ℕ). is_sequential n s) same ∙ sequential)))
        ∙ sym (ap (λ (b : Bool). unwrap_or (room_if number (home_by scratch_room (tail_by b v))) 0) h)

  drawn_one : (pool : ℕ) → one_of (Some (drawn_site pool (unwrap_or (pool_capacity pool s) 0))) ≡ unwrap_or (room_if number (home_by scratch_room (Some (drawn_site pool (unwrap_or (pool_capacity pool s) 0))))) 0
  unfolding one_of
  drawn_one pool = one_in (drawn_site pool (unwrap_or (pool_capacity pool s) 0)) (pool == number)

  each_one : (q : ℕ) (o : Option Volume) (h : Option Held) → IsHeldAt q tickets h
      → one_of (claim_each s q (others_of actor tickets) (claim_each s q (own_of actor tickets) (option_map site_of o))) ≡ unwrap_or (room_if number (home_by scratch_room (base_of s o (option_map (λ k. k.pool) h)))) 0
  unfolding one_of
  each_one q None None is = ap one_of (seen_none s actor q tickets is None).0
  each_one q (Some v) None is = ap one_of (seen_none s actor q tickets is (Some (site_of v))).0 ∙ row_one v
  each_one q None (Some h) is =
      let any = seen_some s actor q tickets h is.0 is.1 None in
      ap one_of any.1 ∙ drawn_one h.pool
  each_one q (Some v) (Some h) is =
      let any = seen_some s actor q tickets h is.0 is.1 (Some (site_of v)) in
      ap one_of any.1 ∙ row_one v

  pub scratch_counts : Ascends 0 (rooms_at number l.pools.entries) → Ascends 0 (all_sites s actor tickets) → scratch_count number (all_sites s actor tickets) ≡ sum (values_of (rooms_at number l.pools.entries))
  unfolding Ascends given_at one_of
  scratch_counts ascend-r ascend-s =
      let none : List (ℕ × Site) = [] in
      let whole = part_room (rooms_at number l.pools.entries) none ascend-r no_sites (counted_as number) (λ q. row_at q (all_sites s actor tickets)) (all_sites s actor tickets) ascend-s (λ q. refl) (λ q absent. at q (row_at q (all_sites s actor tickets)) refl) in
      sym (room-counted number (all_sites s actor tickets)) ∙ whole ∙ omega arith where
        no_sites : Ascends {V = Site} 0 []
        no_sites = tt

        here : (q : ℕ) → one_of (row_at q (all_sites s actor tickets)) ≡ unwrap_or (row_at q (rooms_at number l.pools.entries)) 0
        here q =
            ap one_of (site_row s actor q tickets)
            ∙ each_one q (row_at q s.volumes) (row_at q held) (are q)
            ∙ sym (ap (λ (o : Option ℕ). unwrap_or o 0) (lists.listed number q))

        given : (q : ℕ) (o : Option Site) → room (given_at (counted_as number) q o) ≡ one_of o
        given q None = refl
        given q (Some x) = omega arith

        at : (q : ℕ) (o : Option Site) → row_at q (all_sites s actor tickets) ≡ o → room (given_at (counted_as number) q (row_at q (all_sites s actor tickets))) ≡ unwrap_or (row_at q (rooms_at number l.pools.entries)) 0
        at q o is = given q (row_at q (all_sites s actor tickets)) ∙ here q

-- ---- what is asked for

module _ (s : PoolRows) (claims : Claims) (r : Request) (number capacity : ℕ) (t : Tails) (is : IsTailsOf t s claims.tickets) (sequential : is_sequential number s ≡ true) (volumes : IsStrictlySortedBy nat_cmp (keys_of s.volumes))
    (scratches : IsStrictlySortedBy nat_cmp (keys_of (rooms_at number t.lists.scratch.pools.entries))) where
  ascend-all : Ascends 0 (sites s (counted r.actor claims))
  ascend-all = all_ascend s (counted r.actor claims).own (counted r.actor claims).others (ascends_sorted s.volumes volumes)

  ascend-free : Ascends 0 (free_sites number (counted r.actor claims).others (sites s (counted r.actor claims)))
  ascend-free = free_ascends number (counted r.actor claims).others 0 (sites s (counted r.actor claims)) ascend-all

  free_seen : AreSeenAs (view s t.held.entries number r.actor) (free_sites number (counted r.actor claims).others (sites s (counted r.actor claims)))
  free_seen q = free_row number (counted r.actor claims).others 0 q (sites s (counted r.actor claims)) ascend-all ∙ sym (view_is s number r.actor claims.tickets sequential t.held.entries is.held q)

  -- the space behind their ends is that of those on which nobody else has space
  tails_free : tails number r.prefer r.avoid (counted r.actor claims).others (sites s (counted r.actor claims)) ≡ tails number r.prefer r.avoid [] (free_sites number (counted r.actor claims).others (sites s (counted r.actor claims)))
  tails_free =
      ap (λ (l : List Piece). l ++ tails_in Filling number r.prefer r.avoid (counted r.actor claims).others (sites s (counted r.actor claims)) ++ tails_in Empty number r.prefer r.avoid (counted r.actor claims).others (sites s (counted r.actor claims)))
      (free_tails Preferred number r.prefer r.avoid (counted r.actor claims).others (sites s (counted r.actor claims)))
      ∙ ap (λ (l : List Piece). tails_in Preferred number r.prefer r.avoid [] (free_sites number (counted r.actor claims).others (sites s (counted r.actor claims))) ++ l ++ tails_in Empty number r.prefer r.avoid (counted r.actor claims).others (sites s (counted r.actor claims)))
      (free_tails Filling number r.prefer r.avoid (counted r.actor claims).others (sites s (counted r.actor claims)))
      ∙ ap (λ (l : List Piece). tails_in Preferred number r.prefer r.avoid [] (free_sites number (counted r.actor claims).others (sites s (counted r.actor claims))) ++ tails_in Filling number r.prefer r.avoid [] (free_sites number (counted r.actor claims).others (sites s (counted r.actor claims))) ++ l)
      (free_tails Empty number r.prefer r.avoid (counted r.actor claims).others (sites s (counted r.actor claims)))

  -- how many scratch volumes are left
  left_is : (left : ℕ) → left ≡ max_scratch (row_at number s.pools) - sum (values_of (rooms_at number t.lists.scratch.pools.entries)) → left ≡ scratch_left number s (sites s (counted r.actor claims))
  left_is left is-left =
      is-left
      ∙ ap (λ (n : ℕ). max_scratch (row_at number s.pools) - n)
      (sym (scratch_counts s number r.actor claims.tickets t.held.entries is.held sequential t.lists.scratch is.lists.scratch (ascends_sorted (rooms_at number t.lists.scratch.pools.entries) scratches) ascend-all))

  pub has_is : (near : List (ℕ × Site)) (left f o e rest fits : ℕ) (found : List Piece) (result : Bool) → AreNear (view s t.held.entries number r.actor) r.prefer r.avoid near → IsStrictlySortedBy nat_cmp (keys_of near)
      → IsStrictlySortedBy nat_cmp (keys_of (rooms_at number t.lists.filling.pools.entries)) → IsStrictlySortedBy nat_cmp (keys_of (own_rooms t.lists number r.actor)) → IsStrictlySortedBy nat_cmp (keys_of (rooms_at number t.lists.empty.pools.entries))
      → left ≡ max_scratch (row_at number s.pools) - sum (values_of (rooms_at number t.lists.scratch.pools.entries)) → found ≡ tails number r.prefer r.avoid [] near → f ≡ listed_else (rooms_at number t.lists.filling.pools.entries) near
      → o ≡ listed_else (own_rooms t.lists number r.actor) near → e ≡ listed_else (rooms_at number t.lists.empty.pools.entries) near → rest ≡ r.size - room found - (f + o) - e → fits ≡ room (scratch_pieces capacity left 0) → result ≡ nat_le rest fits
      → result ≡ nat_le r.size (room (sequential_pieces number capacity r.prefer r.avoid claims.next_file (counted r.actor claims) s))
  has_is near left f o e rest fits found result near_is sorted sorted-f sorted-o sorted-e is-left is-found is-f is-o is-e is-rest is-fits is-result =
      let sums : room (tails number r.prefer r.avoid (counted r.actor claims).others (sites s (counted r.actor claims))) ≡ room found + (f + o) + e =
      omega (
        arith,
        ap room tails_free,
        tails_room t.lists s t.held.entries is.lists number r.actor r.prefer r.avoid near near_is (free_sites number (counted r.actor claims).others (sites s (counted r.actor claims))) free_seen ascend-free (ascends_sorted near sorted)
            (ascends_sorted (rooms_at number t.lists.filling.pools.entries) sorted-f) (ascends_sorted (own_rooms t.lists number r.actor) sorted-o) (ascends_sorted (rooms_at number t.lists.empty.pools.entries) sorted-e),
        ap room is-found,
        is-f,
        is-o,
        is-e,
      ) in
      is-result
      ∙ ap (λ (n : ℕ). nat_le n fits) is-rest
      ∙ ap (λ (n : ℕ). nat_le (r.size - room found - (f + o) - e) n) is-fits
      ∙ has_room_is r.size (f + o) e left (scratch_left number s (sites s (counted r.actor claims))) capacity claims.next_file (tails number r.prefer r.avoid (counted r.actor claims).others (sites s (counted r.actor claims))) found sums (left_is left is-left)

  pub used_is : (near : List (ℕ × Site)) (left rest next : ℕ) (found first out : List Piece) → AreNear (view s t.held.entries number r.actor) r.prefer r.avoid near
      → ((places : List (ℕ × Site)) → AreSeenAs (view s t.held.entries number r.actor) places → IsStrictlySortedBy nat_cmp (keys_of places) → Serves r.size (tails number r.prefer r.avoid [] places) found)
      → left ≡ max_scratch (row_at number s.pools) - sum (values_of (rooms_at number t.lists.scratch.pools.entries)) → first ≡ filled r.size found → rest ≡ r.size - room found → next ≡ claims.next_file
      → out ≡ first ++ filled rest (scratch_pieces capacity left next) → out ≡ filled r.size (sequential_pieces number capacity r.prefer r.avoid claims.next_file (counted r.actor claims) s)
  used_is near left rest next found first out near_is serves is-left is-first is-rest is-next is-out =
      used_are r.size rest left (scratch_left number s (sites s (counted r.actor claims))) capacity claims.next_file (tails number r.prefer r.avoid (counted r.actor claims).others (sites s (counted r.actor claims))) found first out
      (subst (λ (l : List Piece). Serves r.size l found) (sym tails_free)
      (serves (free_sites number (counted r.actor claims).others (sites s (counted r.actor claims))) free_seen (sorted_ascends 0 (free_sites number (counted r.actor claims).others (sites s (counted r.actor claims))) ascend-free))) is-first is-rest (left_is left is-left)
      (is-out ∙ ap (λ (n : ℕ). first ++ filled rest (scratch_pieces capacity left n)) is-next)
