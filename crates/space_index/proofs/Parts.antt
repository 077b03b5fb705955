-- What is used of a sequential pool, and how much room it has, by the volumes that are looked at and what is listed of the others.
use Rattle.std.proofs.Common.{◌≡◌, ℕ, ◌+◌, ◌-◌, ◌<◌, ◌≤◌, List, [], ◌∷◌, ◌++◌, sum, Option, Some, None, unwrap_or, zero, suc, refl, sym, ap, ◌∙◌, arith, inl, inr, append_assoc}
use Rattle.std.specs.List.{flat_map, sum_by}
use Rattle.std.specs.Map.{values_of}
use Rattle.std.proofs.lemmas.List.{append-nil}
use Rattle.std.proofs.lemmas.List.Sums.{sum_by-cons, sum-map}
use Rattle.pool_tables.specs.Rows.{row_at}
use Rattle.space.specs.declared.piece.Piece.{Piece}
use Rattle.space.specs.declared.site.Site.{Site}
use Rattle.space.specs.Pieces.{room, filled}
use Rattle.space_index.specs.Listed.{given_at}
use Rattle.space_index.specs.Sequential.{over, Serves, listed_near, listed_else}
use Rattle.space_index.proofs.Fills.{filled_none, filled-append}
use Rattle.space_index.proofs.Numbers.{Ascends, bound, below_bound, below_higher, by_numbers, numbers_of}
use Rattle.space_index.proofs.Places.{room-append, room-flat_map}

-- ---- one piece list that serves as well as another

abbrev left : ℕ → List Piece → ℕ
left size xs = size - room xs

pub serves_same : (size : ℕ) (xs ys : List Piece) → xs ≡ ys → Serves size xs ys
serves_same size xs ys same = inl same

-- one after the other
pub serves_append : (size : ℕ) (xs ys us vs : List Piece) → Serves size xs ys → Serves (size - room ys) us vs → Serves size (xs ++ us) (ys ++ vs)
serves_append size xs ys us vs (inl same) (inl same') = inl (ap (λ (l : List Piece). l ++ us) same ∙ ap (λ (l : List Piece). ys ++ l) same')
serves_append size xs ys us vs (inl same) (inr more) =
    inr (
      ys ++ more.0,
      more.1,
      more.2,
      ap (λ (l : List Piece). l ++ us) same ∙ ap (λ (l : List Piece). ys ++ l) more.3 ∙ sym (append_assoc ys more.0 more.1),
      ap (λ (l : List Piece). ys ++ l) more.4 ∙ sym (append_assoc ys more.0 more.2),
      omega (arith, room-append ys more.0, more.5),
    )
serves_append size xs ys us vs (inr more) later =
    inr (
      more.0,
      more.1 ++ us,
      more.2 ++ vs,
      ap (λ (l : List Piece). l ++ us) more.3 ∙ append_assoc more.0 more.1 us,
      ap (λ (l : List Piece). l ++ vs) more.4 ∙ append_assoc more.0 more.2 vs,
      more.5,
    )

-- as much is filled, and as much is left
filled_front : (size : ℕ) (front behind : List Piece) → size ≤ room front → filled size (front ++ behind) ≡ filled size front
filled_front size front behind enough =
    filled-append front behind size ∙ ap (λ (l : List Piece). filled size front ++ l) (filled_none behind (size - room front) (omega (arith, enough))) ∙ append-nil (filled size front)

pub serves_filled : (size : ℕ) (xs ys : List Piece) → Serves size xs ys → filled size xs ≡ filled size ys
serves_filled size xs ys (inl same) = ap (filled size) same
serves_filled size xs ys (inr more) =
    ap (filled size) more.3 ∙ filled_front size more.0 more.1 more.5 ∙ sym (ap (filled size) more.4 ∙ filled_front size more.0 more.2 more.5)

pub serves_left : (size : ℕ) (xs ys : List Piece) → Serves size xs ys → size - room xs ≡ size - room ys
serves_left size xs ys (inl same) = ap (λ (l : List Piece). size - room l) same
serves_left size xs ys (inr more) =
    let is-x : room xs ≡ room more.0 + room more.1 = ap room more.3 ∙ room-append more.0 more.1 in
    let is-y : room ys ≡ room more.0 + room more.2 = ap room more.4 ∙ room-append more.0 more.2 in
    omega (arith, is-x, is-y, more.5)

-- ---- by numbers

pub split_numbers : (f : ℕ → List Piece) (low m n : ℕ) → by_numbers f low (m + n) ≡ by_numbers f low m ++ by_numbers f (low + m) n
unfolding by_numbers
split_numbers f low zero n =
    let none : zero + n ≡ n = omega arith in
    let none' : low ≡ low + 0 = omega arith in
    ap (λ (k : ℕ). by_numbers f low k) none ∙ ap (λ (k : ℕ). by_numbers f k n) none'
split_numbers f low (suc m) n =
    let one : suc m + n ≡ suc (m + n) = omega arith in
    let next : low + 1 + m ≡ low + suc m = omega arith in
    ap (λ (k : ℕ). by_numbers f low k) one
    ∙ ap (λ (l : List Piece). f low ++ l) (split_numbers f (low + 1) m n ∙ ap (λ (k : ℕ). by_numbers f (low + 1) m ++ by_numbers f k n) next)
    ∙ sym (append_assoc (f low) (by_numbers f (low + 1) m) (by_numbers f (low + suc m) n))

-- the same below a number
pub below_same : (f g : ℕ → List Piece) (low m : ℕ) → ((q : ℕ) → q < low + m → f q ≡ g q) → by_numbers f low m ≡ by_numbers g low m
unfolding by_numbers
below_same f g low zero same = refl
below_same f g low (suc m) same =
    ap (λ (l : List Piece). l ++ by_numbers f (low + 1) m) (same low (omega arith)) ∙ ap (λ (l : List Piece). g low ++ l) (below_same f g (low + 1) m (λ q lt. same q (omega (arith, lt))))

-- sums one by one
sums_same : (f g h k : ℕ → List Piece) (low n : ℕ) → ((q : ℕ) → room (f q) + room (g q) ≡ room (h q) + room (k q))
    → room (by_numbers f low n) + room (by_numbers g low n) ≡ room (by_numbers h low n) + room (by_numbers k low n)
unfolding by_numbers
sums_same f g h k low zero same = refl
sums_same f g h k low (suc n) same =
    let rest = sums_same f g h k (low + 1) n same in
    omega (arith, rest, same low, room-append (f low) (by_numbers f (low + 1) n), room-append (g low) (by_numbers g (low + 1) n), room-append (h low) (by_numbers h (low + 1) n), room-append (k low) (by_numbers k (low + 1) n))

pub sums_within : (f g : ℕ → List Piece) (low n : ℕ) → ((q : ℕ) → room (f q) ≤ room (g q)) → room (by_numbers f low n) ≤ room (by_numbers g low n)
unfolding by_numbers
sums_within f g low zero same = omega arith
sums_within f g low (suc n) same =
    let rest : room (by_numbers f (low + 1) n) ≤ room (by_numbers g (low + 1) n) = sums_within f g (low + 1) n same in
    omega (arith, rest, same low, room-append (f low) (by_numbers f (low + 1) n), room-append (g low) (by_numbers g (low + 1) n))

-- ---- pieces that only stand for their room

abbrev pub sized : ℕ → Piece
sized n = record { file = 0; offset = 0; room = n }

abbrev of_room : ℕ × ℕ → List Piece
of_room e = sized e.1 ∷ []

pub room_of_sized : (n : ℕ) → room (sized n ∷ []) ≡ n
room_of_sized n = omega arith

sums_of_rooms : (rooms : List (ℕ × ℕ)) → room (flat_map of_room rooms) ≡ sum (values_of rooms)
sums_of_rooms rooms = room-flat_map of_room rooms ∙ go rooms ∙ sym (sum-map (λ (e : ℕ × ℕ). e.1) rooms) where
  go : (rows : List (ℕ × ℕ)) → sum_by (λ e. room (of_room e)) rows ≡ sum_by (λ e. e.1) rows
  go [] = refl
  go (e ∷ rows) =
      sum_by-cons (λ x. room (of_room x)) e rows
      ∙ ap (λ (n : ℕ). n + sum_by (λ x. room (of_room x)) rows) (room_of_sized e.1)
      ∙ ap (λ (n : ℕ). e.1 + n) (go rows)
      ∙ sym (sum_by-cons (λ x. x.1) e rows)

abbrev of_listed : List (ℕ × ℕ) → ℕ × Site → List Piece
of_listed rooms e = sized (unwrap_or (row_at e.0 rooms) 0) ∷ []

sums_of_listed : (rooms : List (ℕ × ℕ)) (near : List (ℕ × Site)) → room (flat_map (of_listed rooms) near) ≡ listed_near rooms near
sums_of_listed rooms near = room-flat_map (of_listed rooms) near ∙ go near where
  go : (rows : List (ℕ × Site)) → sum_by (λ e. room (of_listed rooms e)) rows ≡ listed_near rooms rows
  go [] = refl
  go (e ∷ rows) =
      sum_by-cons (λ x. room (of_listed rooms x)) e rows
      ∙ ap (λ (n : ℕ). n + sum_by (λ x. room (of_listed rooms x)) rows) (room_of_sized (unwrap_or (row_at e.0 rooms) 0))
      ∙ ap (λ (n : ℕ). unwrap_or (row_at e.0 rooms) 0 + n) (go rows)
      ∙ sym (sum_by-cons (λ x. unwrap_or (row_at x.0 rooms) 0) e rows)

module _ (rooms : List (ℕ × ℕ)) (near : List (ℕ × Site)) (ascend-r : Ascends 0 rooms) (ascend-n : Ascends 0 near) where
  rooms_numbers : (n : ℕ) → bound rooms ≤ n → room (by_numbers (λ q. given_at of_room q (row_at q rooms)) 0 n) ≡ sum (values_of rooms)
  rooms_numbers n le = ap room (sym (numbers_of of_room n 0 n rooms ascend-r (below_higher (bound rooms) n rooms le (below_bound rooms)) (omega arith))) ∙ sums_of_rooms rooms

  listed_numbers : (n : ℕ) → bound near ≤ n → room (by_numbers (λ q. given_at (of_listed rooms) q (row_at q near)) 0 n) ≡ listed_near rooms near
  listed_numbers n le = ap room (sym (numbers_of (of_listed rooms) n 0 n near ascend-n (below_higher (bound near) n near le (below_bound near)) (omega arith))) ∙ sums_of_listed rooms near

  -- what is listed of some is within what is listed of all
  pub listed_within : listed_near rooms near ≤ sum (values_of rooms)
  unfolding given_at
  listed_within =
      let n : ℕ = bound rooms + bound near in
      let within : room (by_numbers (λ q. given_at (of_listed rooms) q (row_at q near)) 0 n) ≤ room (by_numbers (λ q. given_at of_room q (row_at q rooms)) 0 n) =
      sums_within (λ q. given_at (of_listed rooms) q (row_at q near)) (λ q. given_at of_room q (row_at q rooms)) 0 n (λ q. each q (row_at q near) (row_at q rooms) refl) in
      omega (arith, within, rooms_numbers n (omega arith), listed_numbers n (omega arith)) where
        each : (q : ℕ) (o : Option Site) (r : Option ℕ) → row_at q rooms ≡ r → room (given_at (of_listed rooms) q o) ≤ room (given_at of_room q r)
        each q None r is = omega arith
        each q (Some x) None is = omega (arith, room_of_sized (unwrap_or (row_at q rooms) 0), ap (λ (p : Option ℕ). unwrap_or p 0) is)
        each q (Some x) (Some r) is = omega (arith, room_of_sized (unwrap_or (row_at q rooms) 0), room_of_sized r, ap (λ (p : Option ℕ). unwrap_or p 0) is)

  -- the room of all volumes, from that of those that are looked at and what is listed of the others
  pub part_room : (g : ℕ × Site → List Piece) (view : ℕ → Option Site) (sites : List (ℕ × Site)) → Ascends 0 sites → ((q : ℕ) → row_at q sites ≡ over (row_at q near) (view q))
      → ((q : ℕ) → row_at q near ≡ None → room (given_at g q (view q)) ≡ unwrap_or (row_at q rooms) 0) → room (flat_map g sites) ≡ room (flat_map g near) + listed_else rooms near
  unfolding given_at
  part_room g view sites ascend-s is-over else_room =
      let n : ℕ = bound rooms + bound near + bound sites in
      let all : room (flat_map g sites) ≡ room (by_numbers (λ q. given_at g q (row_at q sites)) 0 n) =
      ap room (numbers_of g n 0 n sites ascend-s (below_higher (bound sites) n sites (omega arith) (below_bound sites)) (omega arith)) in
      let those : room (flat_map g near) ≡ room (by_numbers (λ q. given_at g q (row_at q near)) 0 n) =
      ap room (numbers_of g n 0 n near ascend-n (below_higher (bound near) n near (omega arith) (below_bound near)) (omega arith)) in
      let sums : room (by_numbers (λ q. given_at g q (row_at q sites)) 0 n) + room (by_numbers (λ q. given_at (of_listed rooms) q (row_at q near)) 0 n)
      ≡ room (by_numbers (λ q. given_at g q (row_at q near)) 0 n) + room (by_numbers (λ q. given_at of_room q (row_at q rooms)) 0 n) =
      sums_same (λ q. given_at g q (row_at q sites)) (λ q. given_at (of_listed rooms) q (row_at q near)) (λ q. given_at g q (row_at q near)) (λ q. given_at of_room q (row_at q rooms)) 0 n (λ q. each q (row_at q near) (row_at q rooms) refl refl) in
      omega (arith, all, those, sums, rooms_numbers n (omega arith), listed_numbers n (omega arith), listed_within) where
        each : (q : ℕ) (o : Option Site) (r : Option ℕ) → row_at q near ≡ o → row_at q rooms ≡ r
            → room (given_at g q (row_at q sites)) + room (given_at (of_listed rooms) q o) ≡ room (given_at g q o) + room (given_at of_room q r)
        each q None None now is =
            let here : room (given_at g q (row_at q sites)) ≡ unwrap_or (row_at q rooms) 0 = ap (λ (o : Option Site). room (given_at g q o)) (is-over q ∙ ap (λ (o : Option Site). over o (view q)) now) ∙ else_room q now in
            omega (arith, here, ap (λ (p : Option ℕ). unwrap_or p 0) is)
        each q None (Some r) now is =
            let here : room (given_at g q (row_at q sites)) ≡ unwrap_or (row_at q rooms) 0 = ap (λ (o : Option Site). room (given_at g q o)) (is-over q ∙ ap (λ (o : Option Site). over o (view q)) now) ∙ else_room q now in
            omega (arith, here, ap (λ (p : Option ℕ). unwrap_or p 0) is, room_of_sized r)
        each q (Some x) None now is =
            let here : room (given_at g q (row_at q sites)) ≡ room (g (q, x)) = ap (λ (o : Option Site). room (given_at g q o)) (is-over q ∙ ap (λ (o : Option Site). over o (view q)) now) in
            omega (arith, here, ap (λ (p : Option ℕ). unwrap_or p 0) is, room_of_sized (unwrap_or (row_at q rooms) 0))
        each q (Some x) (Some r) now is =
            let here : room (given_at g q (row_at q sites)) ≡ room (g (q, x)) = ap (λ (o : Option Site). room (given_at g q o)) (is-over q ∙ ap (λ (o : Option Site). over o (view q)) now) in
            omega (arith, here, ap (λ (p : Option ℕ). unwrap_or p 0) is, room_of_sized (unwrap_or (row_at q rooms) 0), room_of_sized r)
