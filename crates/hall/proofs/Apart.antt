-- The space of one ticket is clear of all others'.
use Rattle.std.proofs.Common.{◌≡◌, ◌≢◌, Bool, true, false, not, ◌&&◌, ◌||◌, List, [], ◌∷◌, ◌++◌, map, refl, sym, ap, subst, ◌∙◌}
use Rattle.std.specs.Prelude.{◌==◌, nat_le}
use Rattle.std.specs.List.{AllByRecursion, list_all}
use Rattle.std.proofs.lemmas.Bool.{and_parts, eq-eqb, eqb-true}
use Rattle.std.proofs.lemmas.Grind.{flat_map-append}
use Rattle.kinds.specs.declared.segment.Segment.{Segment}
use Rattle.inventory_laws.proofs.Lists.{all_of, each_also, each_within}
use Rattle.inventory_rows.specs.State.{Inv}
use Rattle.inventory_rows.specs.pool_rows.PoolRows.{is_sequential}
use Rattle.inventory_rows.specs.version_groups.Entries.{all_later}
use Rattle.inventory_rules.specs.Segments.{are_clear}
use Rattle.inventory_rules.specs.Valid.{high_of, low_of}
use Rattle.machine.specs.State.{Core, Ticket, inventory}
use Rattle.hall.specs.Beside.{IsApart, IsBeside}
use Rattle.hall.specs.Covered.{IsClear, IsVolume, NumbersAreDrawn, SpaceIsClear, all_space, are_apart_in, with_segments}

-- ---- lists

-- each of the first is so related to each of the second, and these among one another
pub later_joined : {X : Type 0} (r : X → X → Bool) (xs ys : List X) → all_later r (xs ++ ys) ≡ true → AllByRecursion (λ x. list_all (r x) ys ≡ true) xs × (all_later r ys ≡ true)
later_joined r [] ys h = (tt, h)
later_joined r (x ∷ xs) ys h =
    let parts = and_parts (list_all (r x) (xs ++ ys)) (all_later r (xs ++ ys)) h in
    let rest = later_joined r xs ys parts.1 in
    ((all_behind (r x) xs ys parts.0, rest.0), rest.1)
  where
    all_behind : {X : Type 0} (p : X → Bool) (xs ys : List X) → list_all p (xs ++ ys) ≡ true → list_all p ys ≡ true
    all_behind p [] ys h = h
    all_behind p (x ∷ xs) ys h = all_behind p xs ys (and_parts (p x) (list_all p (xs ++ ys)) h).1

-- the one in the middle
pub at_middle : {X : Type 0} (P : X → Type 0) (front : List X) (x : X) (back : List X) → AllByRecursion P (front ++ (x ∷ back)) → P x
at_middle P [] x back h = h.0
at_middle P (y ∷ front) x back h = at_middle P front x back h.1

pub both_joined : {X : Type 0} (P : X → Type 0) (xs ys : List X) → AllByRecursion P xs → AllByRecursion P ys → AllByRecursion P (xs ++ ys)
both_joined P [] ys a b = b
both_joined P (x ∷ xs) ys a b = (a.0, both_joined P xs ys a.1 b)

-- ---- two segments

-- that they don't overlap is said from both sides
turned_clear : (a b : Bool) → (a || b) ≡ true → (b || a) ≡ true
turned_clear true true h = refl
turned_clear true false h = refl
turned_clear false true h = refl
turned_clear false false h = h

if_same : (same : Bool) (rest : Bool) → (not same || rest) ≡ true → same ≡ true → rest ≡ true
if_same true rest h is = h
if_same false rest h is = absurd cc

module _ (v : Inv) (t : Ticket) (s : Segment) where
  -- of a ticket before it, and of one behind it
  before : (u : Ticket) (r : Segment) → are_apart_in v (u, r) (t, s) ≡ true → IsApart (is_sequential t.place.pool v.stores) s r
  before u r h same =
      let rest = if_same (r.file == s.file) _ h (eq-eqb r.file s.file same) in
      let parts = and_parts (u.place.pool == t.place.pool) (are_clear (is_sequential u.place.pool v.stores) r s && (not (is_sequential u.place.pool v.stores) || u.actor == t.actor)) rest in
      let clear = (and_parts (are_clear (is_sequential u.place.pool v.stores) r s) (not (is_sequential u.place.pool v.stores) || u.actor == t.actor) parts.1).0 in
      let there : are_clear (is_sequential t.place.pool v.stores) r s ≡ true = subst (λ n. are_clear (is_sequential n v.stores) r s ≡ true) (eqb-true u.place.pool t.place.pool parts.0) clear in
      turned_clear (nat_le (high_of (is_sequential t.place.pool v.stores) r) (low_of (is_sequential t.place.pool v.stores) s))
      (nat_le (high_of (is_sequential t.place.pool v.stores) s) (low_of (is_sequential t.place.pool v.stores) r)) there

  behind : (u : Ticket) (r : Segment) → are_apart_in v (t, s) (u, r) ≡ true → IsApart (is_sequential t.place.pool v.stores) s r
  behind u r h same =
      let rest = if_same (s.file == r.file) _ h (eq-eqb s.file r.file (sym same)) in
      let parts = and_parts (t.place.pool == u.place.pool) (are_clear (is_sequential t.place.pool v.stores) s r && (not (is_sequential t.place.pool v.stores) || t.actor == u.actor)) rest in
      (and_parts (are_clear (is_sequential t.place.pool v.stores) s r) (not (is_sequential t.place.pool v.stores) || t.actor == u.actor) parts.1).0

pick_mapped : {A B : Type 0} (P : B → Type 0) (f : A → B) (front : List A) (x : A) (back : List A) (rest : List B) → AllByRecursion P (map f (front ++ (x ∷ back)) ++ rest) → P (f x)
pick_mapped P f [] x back rest h = h.0
pick_mapped P f (y ∷ front) x back rest h = pick_mapped P f front x back rest h.1

pick_alone : {A B : Type 0} (P : B → Type 0) (f : A → B) (front : List A) (x : A) (back : List A) → AllByRecursion P (map f (front ++ (x ∷ back))) → P (f x)
pick_alone P f [] x back h = h.0
pick_alone P f (y ∷ front) x back h = pick_alone P f front x back h.1

-- ---- all others

module _ (c : Core) (front : List Ticket) (t : Ticket) (back : List Ticket) (ahead : List Segment) (s : Segment) (beyond : List Segment)
    (tickets : c.tickets ≡ front ++ (t ∷ back)) (segments : t.place.segments ≡ ahead ++ (s ∷ beyond)) (space : SpaceIsClear c) (numbers : NumbersAreDrawn c) where
  apart : all_later (are_apart_in (inventory c)) (all_space front ++ (with_segments t ++ all_space back)) ≡ true
  apart = subst (λ l. all_later (are_apart_in (inventory c)) l ≡ true) (ap all_space tickets ∙ flat_map-append with_segments front (t ∷ back)) space.apart

  others_before : AllByRecursion (λ u. AllByRecursion (IsApart (is_sequential t.place.pool (inventory c).stores) s) u.place.segments) front
  others_before =
      let all = later_joined (are_apart_in (inventory c)) (all_space front) (with_segments t ++ all_space back) apart in
      each_within (λ x. IsApart (is_sequential t.place.pool (inventory c).stores) s x.1) (λ (u : Ticket) (r : Segment). (u, r)) (λ u. u.place.segments) front
      (each_also (λ x. list_all (are_apart_in (inventory c) x) (with_segments t ++ all_space back) ≡ true) (λ x. IsApart (is_sequential t.place.pool (inventory c).stores) s x.1) (all_space front)
      (λ x h. before (inventory c) t s x.0 x.1
      (pick_mapped (λ y. are_apart_in (inventory c) x y ≡ true) (λ (r : Segment). (t, r)) ahead s beyond (all_space back)
      (subst (λ l. AllByRecursion (λ y. are_apart_in (inventory c) x y ≡ true) (map (λ (r : Segment). (t, r)) l ++ all_space back)) segments
      (all_of (are_apart_in (inventory c) x) (with_segments t ++ all_space back) h)))) all.0)

  others_behind : AllByRecursion (λ u. AllByRecursion (IsApart (is_sequential t.place.pool (inventory c).stores) s) u.place.segments) back
  others_behind =
      let all = later_joined (are_apart_in (inventory c)) (all_space front) (with_segments t ++ all_space back) apart in
      let own = later_joined (are_apart_in (inventory c)) (with_segments t) (all_space back) all.1 in
      let here : list_all (are_apart_in (inventory c) (t, s)) (all_space back) ≡ true =
      pick_alone (λ y. list_all (are_apart_in (inventory c) y) (all_space back) ≡ true) (λ (r : Segment). (t, r)) ahead s beyond
      (subst (λ l. AllByRecursion (λ y. list_all (are_apart_in (inventory c) y) (all_space back) ≡ true) (map (λ (r : Segment). (t, r)) l)) segments own.0) in
      each_within (λ x. IsApart (is_sequential t.place.pool (inventory c).stores) s x.1) (λ (u : Ticket) (r : Segment). (u, r)) (λ u. u.place.segments) back
      (each_also (λ x. are_apart_in (inventory c) (t, s) x ≡ true) (λ x. IsApart (is_sequential t.place.pool (inventory c).stores) s x.1) (all_space back)
      (λ x h. behind (inventory c) t s x.0 x.1 h) (all_of (are_apart_in (inventory c) (t, s)) (all_space back) here))

  abbrev Other : Ticket → Type 0
  Other u = u.number ≢ t.number → AllByRecursion (IsApart (is_sequential t.place.pool (inventory c).stores) s) u.place.segments

  pub ticket_beside : IsBeside c t.place.pool t.number s
  ticket_beside = record {
    volume = at_middle (λ r. IsVolume c r.file) ahead s beyond (subst (λ l. AllByRecursion (λ r. IsVolume c r.file) l) segments
        (at_middle (λ u. AllByRecursion (λ r. IsVolume c r.file) u.place.segments) front t back
        (subst (λ l. AllByRecursion (λ u. AllByRecursion (λ r. IsVolume c r.file) u.place.segments) l) tickets numbers.files)));
    copies = (at_middle (IsClear c t.place.pool) ahead s beyond (subst (λ l. AllByRecursion (IsClear c t.place.pool) l) segments
        (at_middle (λ u. AllByRecursion (IsClear c u.place.pool) u.place.segments) front t back
        (subst (λ l. AllByRecursion (λ u. AllByRecursion (IsClear c u.place.pool) u.place.segments) l) tickets space.clear)))).0;
    others = subst (λ l. AllByRecursion Other l) (sym tickets) (both_joined Other front (t ∷ back)
        (each_also (λ u. AllByRecursion (IsApart (is_sequential t.place.pool (inventory c).stores) s) u.place.segments) Other front (λ u h other. h) others_before)
        ((λ other. absurd (other refl)), each_also (λ u. AllByRecursion (IsApart (is_sequential t.place.pool (inventory c).stores) s) u.place.segments) Other back (λ u h other. h) others_behind));
  }
