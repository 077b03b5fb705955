-- The free space of a pool of random access by the index is that by the definition.
use Rattle.std.proofs.Common.{◌≡◌, ℕ, ◌+◌, Bool, true, false, List, [], ◌∷◌, ◌++◌, map, sum, Option, Some, None, unwrap_or, refl, sym, ap, ◌∙◌, arith, inl, inr}
use Rattle.std.specs.Prelude.{◌==◌, ◌&&◌, not, is_some, nat_le, if◌then◌else◌}
use Rattle.std.specs.List.{flat_map, sum_by}
use Rattle.std.specs.List.Sorted.{IsStrictlySortedBy}
use Rattle.std.specs.Map.{keys_of, values_of}
use Rattle.std.specs.Ordering.{nat_cmp}
use Rattle.std.proofs.lemmas.Bool.{cases_eq, eq-eqb, ne_eqb, false≢true}
use Rattle.std.proofs.lemmas.List.Sums.{sum_by-cons, sum-map}
use Rattle.std.proofs.lemmas.Option.{same_Some}
use Rattle.volume_rows.specs.declared.volume.Volume.{Volume}
use Rattle.extent_map.specs.declared.extents.Run.{Run}
use Rattle.extent_map.specs.Blocks.{total_room, free_runs}
use Rattle.extent_map.proofs.FreeRuns.{total_room-cons, HaveBlocks, HaveBlocks-free_runs}
use Rattle.pool_tables.specs.Rows.{row_at}
use Rattle.pool_rows.specs.PoolRows.{PoolRows, pool_capacity, is_sequential}
use Rattle.space.specs.declared.counted.Counted.{Counted}
use Rattle.space.specs.declared.piece.Piece.{Piece}
use Rattle.space.specs.declared.request.Request.{Request}
use Rattle.space.specs.Placing.{may_take, has_place}
use Rattle.space.specs.Claims.{Claims, counted}
use Rattle.space.specs.Volumes.{is_writable}
use Rattle.space.specs.Pieces.{run_piece, free_pieces, open_pieces, preferred_pieces as preferred_of, other_pieces as others_of, random_pieces, pieces, pieces_by, room}
use Rattle.space_index.specs.declared.standing.Standing.{Standing}
use Rattle.space_index.specs.declared.random.RandomIndex.{RandomIndex}
use Rattle.space_index.specs.Listed.{some_room, rooms_at, given_at}
use Rattle.space_index.specs.Index.{shape_of, shape_by, shape_of_row, times_at, IsStanding, IsEntry, room_of, room_in_pool, IsRandomIndexOf}
use Rattle.space_index.specs.Choosing.{pieces_of, pieces_on, other_pieces, pieces_if, preferred_pieces, listed_pieces, listed_room}
use Rattle.space_index.proofs.Fills.{room-runs}
use Rattle.space_index.proofs.Numbers.{Ascends, ascends_sorted, same_by_numbers, weight_at, all_but, one_apart, all_rows, same_sums, only_one}
use Rattle.space_index.proofs.Uses.{used_are}

-- ---- where a volume has no room it has no free run

no_runs : (used : List Bool) → total_room (free_runs used) ≡ 0 → free_runs used ≡ []
no_runs used none = go (free_runs used) (HaveBlocks-free_runs 0 used) none where
  go : (runs : List Run) → HaveBlocks runs → total_room runs ≡ 0 → runs ≡ []
  go [] have zero = refl
  go (r ∷ runs) have zero = absurd (omega (arith, have.0, zero, total_room-cons r runs))

none_open : (b w a : Bool) (free : List Piece) → b ≡ false → (if b && (w && a) then free else []) ≡ []
none_open b w a free h = ap (λ (t : Bool). if t && (w && a) then free else []) h

none_writable : (b w a : Bool) (free : List Piece) → w ≡ false → (if b && (w && a) then free else []) ≡ []
none_writable true w a free h = ap (λ (t : Bool). if t && a then free else []) h
none_writable false w a free h = refl

some_open : (b w : Bool) (avoided : Bool) (free : List Piece) → b ≡ true → w ≡ true → (if b && (w && not avoided) then free else []) ≡ (if avoided then [] else free)
some_open b w avoided free holds may =
    ap (λ (t : Bool). if t && (w && not avoided) then free else []) holds ∙ ap (λ (t : Bool). if t && not avoided then free else []) may
    ∙ elim avoided as (λ t. (if not t then free else []) ≡ (if t then [] else free)) [ true ↦ refl | false ↦ refl ]

if_empty : (b : Bool) → (let none : List Piece = [] in none ≡ (if b then none else none))
if_empty true = refl
if_empty false = refl

module _ (i : RandomIndex) (s : PoolRows) (c : Claims) (number avoid actor : ℕ) (is : IsRandomIndexOf i s c) (random : is_sequential number s ≡ false) where
  rooms : List (ℕ × ℕ)
  rooms = rooms_at number i.pools.entries

  listed_at : ℕ → Option ℕ → List Piece
  listed_at q o = if q == avoid then [] else given_at {V = ℕ} (λ e. pieces_on i e.0) q o

  nothing : (q : ℕ) (o : Option ℕ) → o ≡ None → [] ≡ listed_at q o
  unfolding listed_at given_at
  nothing q o none = if_empty (q == avoid) ∙ ap (λ (x : Option ℕ). if q == avoid then [] else given_at {V = ℕ} (λ e. pieces_on i e.0) q x) (sym none)

  -- a volume of the pool that may be written
  open_here : (q : ℕ) (v : Volume) (e : Standing) → row_at q s.volumes ≡ Some v → row_at q i.files.entries ≡ Some e → IsStanding (times_at s c q) (shape_of v) e → v.pool ≡ number → is_writable v.access ≡ true
      → open_pieces number avoid (counted actor c) (q, v) ≡ listed_at q (row_at q (rooms_at number i.pools.entries))
  unfolding listed_at given_at
  open_here q v e there kept standing pool may =
      let free : List Piece = free_pieces (counted actor c) (q, v) in
      let runs : free ≡ pieces_on i q = ap (λ (u : List Bool). map (run_piece q) (free_runs u)) (sym (used_are s c actor q v there e standing)) ∙ ap (pieces_of q) (sym kept) in
      let room_is : room_of e ≡ total_room (free_runs e.blocks.used) = ap (λ (b : Bool). if b then total_room (free_runs e.blocks.used) else 0) (standing.access ∙ may) in
      let row : row_at q (rooms_at number i.pools.entries) ≡ some_room (total_room (free_runs e.blocks.used)) =
      is.listed number q ∙ ap (room_in_pool number) kept ∙ ap (λ (b : Bool). if b then some_room (room_of e) else None) (eq-eqb e.pool number (standing.pool ∙ pool)) ∙ ap some_room room_is in
      some_open (v.pool == number) (is_writable v.access) (q == avoid) free (eq-eqb v.pool number pool) may
      ∙ ap (λ (l : List Piece). if q == avoid then [] else l) (runs ∙ elim (cases_eq (total_room (free_runs e.blocks.used)) 0) [
        | inl none ↦
            let empty : pieces_on i q ≡ [] = ap (pieces_of q) kept ∙ ap (λ (l : List Run). map (run_piece q) l) (no_runs e.blocks.used none) in
            empty ∙ ap (given_at {V = ℕ} (λ x. pieces_on i x.0) q) (sym (row ∙ ap (λ (b : Bool). if b then None else Some (total_room (free_runs e.blocks.used))) (eq-eqb (total_room (free_runs e.blocks.used)) 0 none)))
        | inr some ↦
            ap (given_at {V = ℕ} (λ x. pieces_on i x.0) q) (sym (row ∙ ap (λ (b : Bool). if b then None else Some (total_room (free_runs e.blocks.used))) (ne_eqb (total_room (free_runs e.blocks.used)) 0 some)))
      ])

  standing_here : (q : ℕ) (v : Volume) (e : Standing) → row_at q s.volumes ≡ Some v → row_at q i.files.entries ≡ Some e → IsStanding (times_at s c q) (shape_of v) e
      → open_pieces number avoid (counted actor c) (q, v) ≡ listed_at q (row_at q (rooms_at number i.pools.entries))
  standing_here q v e there kept standing =
      let free : List Piece = free_pieces (counted actor c) (q, v) in
      elim (cases_eq v.pool number) [
        | inr other ↦
            let closed : v.pool == number ≡ false = ne_eqb v.pool number other in
            none_open (v.pool == number) (is_writable v.access) (not (q == avoid)) free closed
            ∙ nothing q (row_at q (rooms_at number i.pools.entries)) (is.listed number q ∙ ap (room_in_pool number) kept ∙ ap (λ (b : Bool). if b then some_room (room_of e) else None) (ap (λ (n : ℕ). n == number) standing.pool ∙ closed))
        | inl pool ↦ by_access (is_writable v.access) refl pool
      ] where
        by_access : (w : Bool) → is_writable v.access ≡ w → v.pool ≡ number → open_pieces number avoid (counted actor c) (q, v) ≡ listed_at q (row_at q (rooms_at number i.pools.entries))
        by_access true may pool = open_here q v e there kept standing pool may
        by_access false may pool =
            let none : room_of e ≡ 0 = ap (λ (b : Bool). if b then total_room (free_runs e.blocks.used) else 0) (standing.access ∙ may) in
            none_writable (v.pool == number) (is_writable v.access) (not (q == avoid)) (free_pieces (counted actor c) (q, v)) may
            ∙ nothing q (row_at q (rooms_at number i.pools.entries)) (is.listed number q ∙ ap (room_in_pool number) kept ∙ ap (λ (b : Bool). if b then some_room (room_of e) else None) (eq-eqb e.pool number (standing.pool ∙ pool)) ∙ ap some_room none)

  by_rows : (q : ℕ) (o : Option Volume) (p : Option Standing) → row_at q s.volumes ≡ o → row_at q i.files.entries ≡ p → IsEntry (times_at s c q) (shape_of_row s o) p
      → given_at (open_pieces number avoid (counted actor c)) q o ≡ listed_at q (row_at q (rooms_at number i.pools.entries))
  unfolding given_at
  by_rows q None None there kept entry = nothing q (row_at q (rooms_at number i.pools.entries)) (is.listed number q ∙ ap (room_in_pool number) kept)
  by_rows q None (Some e) there kept entry = absurd entry
  by_rows q (Some v) p there kept entry = by_kind (is_sequential v.pool s) refl p kept entry where
    by_kind : (b : Bool) → is_sequential v.pool s ≡ b → (p : Option Standing) → row_at q i.files.entries ≡ p → IsEntry (times_at s c q) (shape_by b v) p → open_pieces number avoid (counted actor c) (q, v) ≡ listed_at q (row_at q (rooms_at number i.pools.entries))
    by_kind true kind None kept entry =
        let other : v.pool == number ≡ false = ne_eqb v.pool number (λ same. false≢true (sym random ∙ ap (λ (n : ℕ). is_sequential n s) (sym same) ∙ kind)) in
        none_open (v.pool == number) (is_writable v.access) (not (q == avoid)) (free_pieces (counted actor c) (q, v)) other
        ∙ nothing q (row_at q (rooms_at number i.pools.entries)) (is.listed number q ∙ ap (room_in_pool number) kept)
    by_kind true kind (Some e) kept entry = absurd entry
    by_kind false kind None kept entry = absurd entry
    by_kind false kind (Some e) kept entry = standing_here q v e there kept entry

  -- under each number
  open_at : (q : ℕ) → given_at (open_pieces number avoid (counted actor c)) q (row_at q s.volumes) ≡ listed_at q (row_at q (rooms_at number i.pools.entries))
  open_at q = by_rows q (row_at q s.volumes) (row_at q i.files.entries) refl refl (is.entry q)

  module _ (prefer : ℕ) (volumes : Ascends 0 s.volumes) (ascend : Ascends 0 (rooms_at number i.pools.entries)) where
    others_at : (q : ℕ) (o : Option Volume) (r : Option ℕ) → given_at (open_pieces number avoid (counted actor c)) q o ≡ listed_at q r → given_at (others_of number prefer avoid (counted actor c)) q o ≡ given_at (other_pieces i prefer avoid) q r
    unfolding given_at listed_at
    others_at q None None same = refl
    others_at q None (Some r) same = if_empty (q == prefer) ∙ ap (λ (l : List Piece). if q == prefer then [] else l) same
    others_at q (Some v) None same = ap (λ (l : List Piece). if q == prefer then [] else l) (same ∙ sym (if_empty (q == avoid))) ∙ sym (if_empty (q == prefer))
    others_at q (Some v) (Some r) same = ap (λ (l : List Piece). if q == prefer then [] else l) same

    -- of the preferred volume alone
    preferred_from : ℕ × ℕ → List Piece
    preferred_from e = if e.0 == prefer then (if e.0 == avoid then [] else pieces_on i e.0) else []

    preferred_at : (q : ℕ) (o : Option Volume) (r : Option ℕ) → given_at (open_pieces number avoid (counted actor c)) q o ≡ listed_at q r → given_at (preferred_of number prefer avoid (counted actor c)) q o ≡ given_at preferred_from q r
    unfolding given_at listed_at preferred_from
    preferred_at q None None same = refl
    preferred_at q None (Some r) same = if_empty (q == prefer) ∙ ap (λ (l : List Piece). if q == prefer then l else []) same
    preferred_at q (Some v) None same = ap (λ (l : List Piece). if q == prefer then l else []) (same ∙ sym (if_empty (q == avoid))) ∙ sym (if_empty (q == prefer))
    preferred_at q (Some v) (Some r) same = ap (λ (l : List Piece). if q == prefer then l else []) same

    preferred_row : (o : Option ℕ) → given_at {V = ℕ} (λ e. if e.0 == avoid then [] else pieces_on i e.0) prefer o ≡ (if prefer == avoid then [] else pieces_if i prefer o)
    unfolding given_at
    preferred_row None = if_empty (prefer == avoid)
    preferred_row (Some r) = refl

    pub listed_are : listed_pieces i number prefer avoid ≡ random_pieces number prefer avoid (counted actor c) s
    unfolding preferred_from
    listed_are =
        ap (λ (l : List Piece). l ++ flat_map (other_pieces i prefer avoid) (rooms_at number i.pools.entries))
        (sym (preferred_row (row_at prefer (rooms_at number i.pools.entries)))
        ∙ sym (only_one (λ e. if e.0 == avoid then [] else pieces_on i e.0) prefer 0 (rooms_at number i.pools.entries) ascend)
        ∙ sym (same_by_numbers (preferred_of number prefer avoid (counted actor c)) preferred_from s.volumes (rooms_at number i.pools.entries) volumes ascend (λ q. preferred_at q (row_at q s.volumes) (row_at q (rooms_at number i.pools.entries)) (open_at q))))
        ∙ ap (λ (l : List Piece). flat_map (preferred_of number prefer avoid (counted actor c)) s.volumes ++ l)
        (sym (same_by_numbers (others_of number prefer avoid (counted actor c)) (other_pieces i prefer avoid) s.volumes (rooms_at number i.pools.entries) volumes ascend (λ q. others_at q (row_at q s.volumes) (row_at q (rooms_at number i.pools.entries)) (open_at q))))

-- ---- room

pub room-append : (xs ys : List Piece) → room (xs ++ ys) ≡ room xs + room ys
room-append [] ys = omega arith
room-append (p ∷ xs) ys = omega (arith, room-append xs ys)

pub room-flat_map : {V : Type 0} (f : ℕ × V → List Piece) (rows : List (ℕ × V)) → room (flat_map f rows) ≡ sum_by (λ e. room (f e)) rows
room-flat_map f [] = refl
room-flat_map f (e ∷ rows) = room-append (f e) (flat_map f rows) ∙ ap (λ (n : ℕ). room (f e) + n) (room-flat_map f rows) ∙ sym (sum_by-cons (λ x. room (f x)) e rows)

some_room_is : (n r : ℕ) → some_room n ≡ Some r → n ≡ r
some_room_is n r is = elim (cases_eq n 0) [
  | inl none ↦ absurd (apart r (sym (ap (λ (b : Bool). if b then None else Some n) (eq-eqb n 0 none)) ∙ is))
  | inr some ↦ same_Some n r (sym (ap (λ (b : Bool). if b then None else Some n) (ne_eqb n 0 some)) ∙ is)
] where
  apart : (r : ℕ) → (let o : Option ℕ = None in o ≡ Some r) → ⊥
  apart r h = cc

some_room_positive : (r : ℕ) → some_room 0 ≡ Some r → ⊥
some_room_positive r h = cc

module _ (i : RandomIndex) (s : PoolRows) (c : Claims) (number : ℕ) (is : IsRandomIndexOf i s c) where
  room_kept : (q r : ℕ) (p : Option Standing) → room_in_pool number p ≡ Some r → room (pieces_of q p) ≡ r
  room_kept q r None has = absurd (cc)
  room_kept q r (Some e) has = by_pool (e.pool == number) has where
    by_access : (w : Bool) → e.is_writable ≡ w → some_room (if w then total_room (free_runs e.blocks.used) else 0) ≡ Some r → room (pieces_of q (Some e)) ≡ r
    by_access true may has = room-runs q (free_runs e.blocks.used) ∙ some_room_is (total_room (free_runs e.blocks.used)) r has
    by_access false may has = absurd (some_room_positive r has)

    by_pool : (b : Bool) → (if b then some_room (room_of e) else None) ≡ Some r → room (pieces_of q (Some e)) ≡ r
    by_pool true has = by_access e.is_writable refl has
    by_pool false has = absurd (cc)

  pub piece_room : (q r : ℕ) → row_at q (rooms_at number i.pools.entries) ≡ Some r → room (pieces_on i q) ≡ r
  piece_room q r there = room_kept q r (row_at q i.files.entries) (sym (is.listed number q) ∙ there)

  value : ℕ × ℕ → ℕ
  value e = e.1

  module _ (prefer avoid : ℕ) (ascend : Ascends 0 (rooms_at number i.pools.entries)) where
    other_room : (q r : ℕ) → row_at q (rooms_at number i.pools.entries) ≡ Some r → room (other_pieces i prefer avoid (q, r)) ≡ all_but prefer (all_but avoid value) (q, r)
    unfolding all_but value
    other_room q r there =
        elim (q == prefer) as (λ b. room (if b then [] else if q == avoid then [] else pieces_on i q) ≡ (if b then 0 else if q == avoid then 0 else r)) [
          | true ↦ refl
          | false ↦ elim (q == avoid) as (λ b. room (if b then [] else pieces_on i q) ≡ (if b then 0 else r)) [ true ↦ refl | false ↦ piece_room q r there ]
        ]

    preferred_room : (o : Option ℕ) → row_at prefer (rooms_at number i.pools.entries) ≡ o → room (if prefer == avoid then [] else pieces_if i prefer o) ≡ weight_at (all_but avoid value) prefer o
    unfolding all_but value weight_at
    preferred_room None there = elim (prefer == avoid) as (λ b. room (if b then [] else []) ≡ 0) [ true ↦ refl | false ↦ refl ]
    preferred_room (Some r) there = elim (prefer == avoid) as (λ b. room (if b then [] else pieces_on i prefer) ≡ (if b then 0 else r)) [ true ↦ refl | false ↦ piece_room prefer r there ]

    avoided : (o : Option ℕ) → weight_at value avoid o ≡ unwrap_or o 0
    unfolding weight_at value
    avoided None = refl
    avoided (Some r) = refl

    pub room_listed : room (listed_pieces i number prefer avoid) ≡ listed_room i number avoid
    unfolding value
    room_listed =
        let rows : List (ℕ × ℕ) = rooms_at number i.pools.entries in
        let all : sum_by value rows ≡ sum_by (all_but avoid value) rows + weight_at value avoid (row_at avoid rows) = one_apart value 0 avoid rows ascend in
        let rest : sum_by (all_but avoid value) rows ≡ sum_by (all_but prefer (all_but avoid value)) rows + weight_at (all_but avoid value) prefer (row_at prefer rows) = one_apart (all_but avoid value) 0 prefer rows ascend in
        let others : room (flat_map (other_pieces i prefer avoid) rows) ≡ sum_by (all_but prefer (all_but avoid value)) rows =
        room-flat_map (other_pieces i prefer avoid) rows ∙ same_sums (λ e. room (other_pieces i prefer avoid e)) (all_but prefer (all_but avoid value)) rows (all_rows (λ e. room (other_pieces i prefer avoid e) ≡ all_but prefer (all_but avoid value) e) 0 rows ascend other_room) in
        let first : room (preferred_pieces i number prefer avoid) ≡ weight_at (all_but avoid value) prefer (row_at prefer rows) = preferred_room (row_at prefer rows) refl in
        let whole : room (listed_pieces i number prefer avoid) ≡ room (preferred_pieces i number prefer avoid) + room (flat_map (other_pieces i prefer avoid) rows) =
        room-append (preferred_pieces i number prefer avoid) (flat_map (other_pieces i prefer avoid) rows) in
        let sums : sum (values_of rows) ≡ sum_by value rows = sum-map (λ e. e.1) rows in
        omega (arith, all, rest, others, first, whole, sums, avoided (row_at avoid rows))

-- ---- pools

pub pieces_random : (number prefer avoid next_file : ℕ) (c : Counted) (s : PoolRows) → is_sequential number s ≡ false → pieces number prefer avoid next_file c s ≡ random_pieces number prefer avoid c s
pieces_random number prefer avoid next_file c s random = go (pool_capacity number s) random where
  go : (o : Option ℕ) → is_some o ≡ false → pieces_by o number prefer avoid next_file c s ≡ random_pieces number prefer avoid c s
  go None h = refl
  go (Some capacity) h = absurd (false≢true (sym h))

-- the free space by the index is that by the definition
pub listed_pieces_are : (i : RandomIndex) (s : PoolRows) (c : Claims) (number prefer avoid next_file actor : ℕ) → IsRandomIndexOf i s c → is_sequential number s ≡ false → IsStrictlySortedBy nat_cmp (keys_of s.volumes)
    → IsStrictlySortedBy nat_cmp (keys_of (rooms_at number i.pools.entries)) → listed_pieces i number prefer avoid ≡ pieces number prefer avoid next_file (counted actor c) s
listed_pieces_are i s c number prefer avoid next_file actor is random volumes rows =
    listed_are i s c number avoid actor is random prefer (ascends_sorted s.volumes volumes) (ascends_sorted (rooms_at number i.pools.entries) rows) ∙ sym (pieces_random number prefer avoid next_file (counted actor c) s random)

-- and so is its room
pub listed_room_is : (i : RandomIndex) (s : PoolRows) (c : Claims) (number prefer avoid next_file actor : ℕ) → IsRandomIndexOf i s c → is_sequential number s ≡ false → IsStrictlySortedBy nat_cmp (keys_of s.volumes)
    → IsStrictlySortedBy nat_cmp (keys_of (rooms_at number i.pools.entries)) → listed_room i number avoid ≡ room (pieces number prefer avoid next_file (counted actor c) s)
listed_room_is i s c number prefer avoid next_file actor is random volumes rows =
    sym (room_listed i s c number is prefer avoid (ascends_sorted (rooms_at number i.pools.entries) rows)) ∙ ap room (listed_pieces_are i s c number prefer avoid next_file actor is random volumes rows)

-- a pool that may take the object has room for it where the index says so
pub has_by_room : (r : Request) (next_file number size known : ℕ) (c : Counted) (s : PoolRows) → may_take r.size (row_at number s.pools) ≡ true → size ≡ r.size → known ≡ room (pieces number r.prefer r.avoid next_file c s)
    → nat_le size known ≡ has_place r next_file c s number
has_by_room r next_file number size known c s may size-is known-is =
    ap (λ (n : ℕ). nat_le n known) size-is ∙ ap (λ (n : ℕ). nat_le r.size n) known-is
    ∙ sym (ap (λ (b : Bool). b && nat_le r.size (room (pieces number r.prefer r.avoid next_file c s))) may)
