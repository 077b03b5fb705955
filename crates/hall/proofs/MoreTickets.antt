-- One ticket more: its seat and its space behind those that are held, and what is kept of the numbers and the space of all.
use Rattle.std.proofs.Common.{◌≡◌, inl, inr, ℕ, ◌+◌, ◌*◌, ◌/◌, ◌<◌, ◌≤◌, ◌^◌, max, Bool, true, false, cond, not, ◌&&◌, ◌||◌, is_some, List, [], ◌∷◌, ◌++◌, length, map, Result, Ok, Err, refl, sym, ap, subst, ◌∙◌, arith}
use Rattle.std.specs.Prelude.{◌==◌, nat_le}
use Rattle.std.specs.List.{AllByRecursion, list_all, sum_by}
use Rattle.std.specs.Ordering.{match_ordering, nat_cmp}
use Rattle.std.specs.declared.cmp.Ordering.TheVariants.{Greater}
use Rattle.std.proofs.lemmas.Bool.{and_from, and_parts, eq-eqb, eqb-true, false≢true, le-leb}
use Rattle.std.proofs.lemmas.Grind.{flat_map-append}
use Rattle.store_api.specs.Disk.{History, reads}
use Rattle.kinds.specs.declared.refusal.Refusal.{Refusal}
use Rattle.kinds.specs.declared.segment.Segment.{Segment}
use Rattle.contents.specs.Contents.{InImage, TookHave}
use Rattle.inventory_rows.specs.pool_rows.PoolRows.{is_sequential}
use Rattle.inventory_rows.specs.pool_tables.Rows.{with_row, without_row}
use Rattle.inventory_rows.specs.version_groups.Entries.{all_later}
use Rattle.inventory_rows.specs.Search.{pool}
use Rattle.inventory_rows.specs.State.{Inv}
use Rattle.inventory_rows.proofs.of_pool_tables.Counting.{apart_at}
use Rattle.inventory_rules.specs.Segments.{are_clear}
use Rattle.inventory_laws.proofs.Lists.{all_from, each_also, each_any, each_both}
use Rattle.inventory_laws.proofs.StoreRows.{nat_itself}
use Rattle.space.specs.declared.places.Placed.{Placed}
use Rattle.space.specs.Claims.{Claims, drawn, held}
use Rattle.space_laws.specs.Apart.{AllApart, IsBefore}
use Rattle.machine.specs.Machine.{files_drawn}
use Rattle.machine.specs.State.{Core, Place, Purpose, Ticket, copying, inventory, object_of, storing}
use Rattle.hall.specs.declared.seat.Seat.{Seat}
use Rattle.hall.specs.Covered.{IsClear, IsFilled, IsObject, IsVolume, LiesIn, NumbersAreDrawn, SpaceIsClear, all_space, are_apart_in, bring_others, is_later, with_segments}
use Rattle.hall.specs.Drawn.{AreBelow, last_file, with_seat}
use Rattle.hall.specs.Good.{HasTaken, IsFirm, is_firm_at}
use Rattle.hall.specs.Held.{AreSeatsOf, Held, IsSeatOf}
use Rattle.hall.proofs.Apart.{both_joined}
use Rattle.hall.proofs.FirmSeats.{all_less, firm_more, none_firm}
use Rattle.hall.proofs.PlacesChosen.{IsApartFrom, IsLawfulIn}
use Rattle.hall.proofs.Seating.{seated_core}

-- ---- rows

above : (k n : ℕ) → n < k → nat_cmp k n ≡ Greater
above k n lt = grind (arith, lt)

-- a row with a number above all others comes last
pub row_last : {V : Type 0} (k : ℕ) (x : V) (rows : List (ℕ × V)) → AllByRecursion (λ e. e.0 < k) rows → with_row k x rows ≡ rows ++ ((k, x) ∷ [])
row_last k x [] below = refl
row_last {V} k x (e ∷ rows) below =
    ap (λ o. match_ordering o ((k, x) ∷ e ∷ rows) ((e.0, x) ∷ rows) (e ∷ with_row k x rows)) (above k e.0 below.0) ∙ ap (λ (l : List (ℕ × V)). e ∷ l) (row_last k x rows below.1)

last_went : {V : Type 0} (k : ℕ) (x : V) (rows : List (ℕ × V)) → AllByRecursion (λ e. e.0 < k) rows → without_row k (rows ++ ((k, x) ∷ [])) ≡ rows
last_went {V} k x [] below = ap (λ (b : Bool). cond b [] ((k, x) ∷ [])) (nat_itself k)
last_went {V} k x (e ∷ rows) below =
    ap (λ (b : Bool). cond b (rows ++ ((k, x) ∷ [])) (e ∷ without_row k (rows ++ ((k, x) ∷ [])))) (apart_at k e.0 (λ same. absurd (omega (arith, same, below.0))))
    ∙ ap (λ (l : List (ℕ × V)). e ∷ l) (last_went k x rows below.1)

-- and where it goes again all is as it was
pub row_undone : {V : Type 0} (k : ℕ) (x : V) (rows : List (ℕ × V)) → AllByRecursion (λ e. e.0 < k) rows → without_row k (with_row k x rows) ≡ rows
row_undone k x rows below = ap (without_row k) (row_last k x rows below) ∙ last_went k x rows below

pub seats_more : (k : ℕ) (s : Seat) (t : Ticket) (seats : List (ℕ × Seat)) (ts : List Ticket) → AreSeatsOf seats ts → IsSeatOf k s t → AreSeatsOf (seats ++ ((k, s) ∷ [])) (ts ++ (t ∷ []))
seats_more k s t [] [] are is = (is, tt)
seats_more k s t [] (u ∷ ts) are is = absurd are
seats_more k s t (e ∷ seats) [] are is = absurd are
seats_more k s t (e ∷ seats) (u ∷ ts) are is = (are.0, seats_more k s t seats ts are.1 is)

pub seats_below : (next : ℕ) (seats : List (ℕ × Seat)) (ts : List Ticket) → AreSeatsOf seats ts → AllByRecursion (λ t. t.number < next) ts → AllByRecursion (λ e. e.0 < next) seats
seats_below next [] [] are below = tt
seats_below next [] (u ∷ ts) are below = absurd are
seats_below next (e ∷ seats) [] are below = absurd are
seats_below next (e ∷ seats) (u ∷ ts) are below = (omega (arith, are.0.number, below.0), seats_below next seats ts are.1 below.1)

-- the new one isn't firm, and of the others no more are
pub opened_firm : (k next : ℕ) (s : Seat) (seats : List (ℕ × Seat)) (ts : List Ticket) → AreSeatsOf seats ts → AllByRecursion (λ t. t.number < next) ts → next ≡ k → s.is_firm ≡ false
    → ((n : ℕ) → is_firm_at n (with_row k s seats) ≡ true → is_firm_at n seats ≡ true) × (is_firm_at next (with_row k s seats) ≡ false)
opened_firm k next s seats ts are below at loose =
    let rows = seats_below k seats ts are (subst (λ n. AllByRecursion (λ t. t.number < n) ts) at below) in
    let same : (n : ℕ) → is_firm_at n (with_row k s seats) ≡ is_firm_at n seats = λ n. ap (is_firm_at n) (row_last k s seats rows) ∙ firm_more k n s seats loose in
    (λ n firm. sym (same n) ∙ firm, ap (λ n. is_firm_at n (with_row k s seats)) at ∙ same k ∙ none_firm k seats rows)

-- ---- numbers of files

drawn_more : (segments : List Segment) (next : ℕ) → next ≤ files_drawn segments next
drawn_more [] next = omega arith
drawn_more (s ∷ segments) next = let more = drawn_more segments (max next (s.file + 1)) in omega (arith, more)

drawn_behind : (segments : List Segment) (next : ℕ) → AllByRecursion (λ s. s.file < files_drawn segments next) segments
drawn_behind [] next = tt
drawn_behind (s ∷ segments) next = (let more = drawn_more segments (max next (s.file + 1)) in omega (arith, more), drawn_behind segments (max next (s.file + 1)))

drawn_below : (segments : List Segment) (next bound : ℕ) → next < bound → AllByRecursion (λ s. s.file + 1 < bound) segments → files_drawn segments next < bound
drawn_below [] next bound below all = below
drawn_below (s ∷ segments) next bound below all = drawn_below segments (max next (s.file + 1)) bound (omega (arith, below, all.0)) all.1

pub drawn_last : (places : List Placed) (next : ℕ) → 1 ≤ next → files_drawn (map (λ p. p.segment) places) next ≡ max next (last_file places + 1)
drawn_last [] next least = omega (arith, least)
drawn_last (p ∷ places) next least = let rest = drawn_last places (max next (p.segment.file + 1)) (omega (arith, least)) in omega (arith, rest)

-- ---- lists with one element more

later_more : {X : Type 0} (r : X → X → Bool) (xs ys : List X) → all_later r xs ≡ true → AllByRecursion (λ x. list_all (r x) ys ≡ true) xs → all_later r ys ≡ true → all_later r (xs ++ ys) ≡ true
later_more r [] ys first between second = second
later_more r (x ∷ xs) ys first between second =
    let t = and_parts (list_all (r x) xs) (all_later r xs) first in
    and_from (list_all (r x) (xs ++ ys)) (all_later r (xs ++ ys)) (all_joined (r x) xs ys t.0 between.0) (later_more r xs ys t.1 between.1 second)
  where
    all_joined : {X : Type 0} (p : X → Bool) (xs ys : List X) → list_all p xs ≡ true → list_all p ys ≡ true → list_all p (xs ++ ys) ≡ true
    all_joined p [] ys a b = b
    all_joined p (x ∷ xs) ys a b = let t = and_parts (p x) (list_all p xs) a in and_from (p x) (list_all p (xs ++ ys)) t.0 (all_joined p xs ys t.1 b)

pub to_mapped : {A B : Type 0} (P : B → Type 0) (f : A → B) (xs : List A) → AllByRecursion (λ x. P (f x)) xs → AllByRecursion P (map f xs)
to_mapped P f [] all = tt
to_mapped P f (x ∷ xs) all = (all.0, to_mapped P f xs all.1)

to_space : (P : Ticket × Segment → Type 0) (ts : List Ticket) → AllByRecursion (λ u. AllByRecursion (λ r. P (u, r)) u.place.segments) ts → AllByRecursion P (all_space ts)
to_space P [] all = tt
to_space P (u ∷ ts) all = both_joined P (with_segments u) (all_space ts) (to_mapped P (λ r. (u, r)) u.place.segments all.0) (to_space P ts all.1)

-- what holds of each segment of some and each of others
turned : {A B : Type 0} (R : A → B → Type 0) (xs : List A) (ys : List B) → AllByRecursion (λ x. AllByRecursion (λ y. R x y) ys) xs → AllByRecursion (λ y. AllByRecursion (λ x. R x y) xs) ys
turned R [] ys all = each_any (λ y. Unit {0}) ys (λ y. tt)
turned R (x ∷ xs) ys all = each_both (R x) (λ y. AllByRecursion (λ z. R z y) xs) (λ y. AllByRecursion (λ z. R z y) (x ∷ xs)) ys (λ y h t. (h, t)) all.0 (turned R xs ys all.1)

tickets_turned : (R : Segment → Ticket → Segment → Type 0) (xs : List Segment) (ts : List Ticket) → AllByRecursion (λ s. AllByRecursion (λ u. AllByRecursion (R s u) u.place.segments) ts) xs
    → AllByRecursion (λ u. AllByRecursion (λ r. AllByRecursion (λ s. R s u r) xs) u.place.segments) ts
tickets_turned R xs ts all =
    each_also (λ u. AllByRecursion (λ s. AllByRecursion (R s u) u.place.segments) xs) (λ u. AllByRecursion (λ r. AllByRecursion (λ s. R s u r) xs) u.place.segments) ts
    (λ u h. turned (λ s r. R s u r) xs u.place.segments h) (turned (λ s u. AllByRecursion (R s u) u.place.segments) xs ts all)

-- ---- the space of one ticket more

-- a ticket that took nothing yet
abbrev pub fresh_ticket : (key actor size : ℕ) → Purpose → Place → Ticket
fresh_ticket key actor size purpose place = record { number = key; actor = actor; size = size; purpose = purpose; place = place; bytes = []; is_sealed = false }

apart_by : (c : Core) (t u : Ticket) (s r : Segment) → (r.file ≡ s.file → IsApartFrom c t.actor t.place.pool s u r) → are_apart_in (inventory c) (u, r) (t, s) ≡ true
apart_by c t u s r h = go (r.file == s.file) refl where
  pool_as : (n : ℕ) (b : Bool) → u.place.pool ≡ n → is_sequential n (inventory c).stores ≡ b → is_sequential u.place.pool (inventory c).stores ≡ b
  pool_as n b same is = ap (λ (k : ℕ). is_sequential k (inventory c).stores) same ∙ is

  by_actor : (b : Bool) → (b ≡ true → (u.actor == t.actor) ≡ true) → (not b || u.actor == t.actor) ≡ true
  by_actor true own = own refl
  by_actor false own = refl

  go : (b : Bool) → (r.file == s.file) ≡ b
      → (not b || (u.place.pool == t.place.pool && (are_clear (is_sequential u.place.pool (inventory c).stores) r s && (not (is_sequential u.place.pool (inventory c).stores) || u.actor == t.actor)))) ≡ true
  go false isnt = refl
  go true same =
      let a : IsApartFrom c t.actor t.place.pool s u r = h (eqb-true r.file s.file same) in
      let kind : is_sequential u.place.pool (inventory c).stores ≡ is_sequential t.place.pool (inventory c).stores = ap (λ (k : ℕ). is_sequential k (inventory c).stores) a.pool in
      and_from (u.place.pool == t.place.pool) (are_clear (is_sequential u.place.pool (inventory c).stores) r s && (not (is_sequential u.place.pool (inventory c).stores) || u.actor == t.actor))
      (eq-eqb u.place.pool t.place.pool a.pool)
      (and_from (are_clear (is_sequential u.place.pool (inventory c).stores) r s) (not (is_sequential u.place.pool (inventory c).stores) || u.actor == t.actor)
      (ap (λ (b : Bool). are_clear b r s) kind ∙ a.clear)
      (ap (λ (b : Bool). not b || u.actor == t.actor) kind ∙ by_actor (is_sequential t.place.pool (inventory c).stores) a.own))

-- two segments of its own
own_apart : (v : Inv) (t : Ticket) (a b : Segment) → (is_sequential t.place.pool v.stores ≡ false → (block : ℕ) × (b.offset ≡ 4096 * block)) → (a.file ≡ b.file → a.offset + 32 + a.len ≤ b.offset)
    → are_apart_in v (t, a) (t, b) ≡ true
own_apart v t a b block before = go (a.file == b.file) refl where
  clear_by : (q : Bool) → (q ≡ false → (n : ℕ) × (b.offset ≡ 4096 * n)) → a.offset + 32 + a.len ≤ b.offset → are_clear q a b ≡ true
  clear_by true at le = ap (λ (x : Bool). x || nat_le (b.offset + 32 + b.len) a.offset) (le-leb (a.offset + 32 + a.len) b.offset le)
  clear_by false at le =
      ap (λ (x : Bool). x || nat_le ((b.offset + 32 + b.len + 4095) / 4096) (a.offset / 4096))
      (le-leb ((a.offset + 32 + a.len + 4095) / 4096) (b.offset / 4096) (let n = at refl in omega (arith, le, n.1)))

  own_actor : (q : Bool) → (not q || t.actor == t.actor) ≡ true
  own_actor true = eq-eqb t.actor t.actor refl
  own_actor false = refl

  go : (q : Bool) → (a.file == b.file) ≡ q
      → (not q || (t.place.pool == t.place.pool && (are_clear (is_sequential t.place.pool v.stores) a b && (not (is_sequential t.place.pool v.stores) || t.actor == t.actor)))) ≡ true
  go false isnt = refl
  go true same =
      and_from (t.place.pool == t.place.pool) (are_clear (is_sequential t.place.pool v.stores) a b && (not (is_sequential t.place.pool v.stores) || t.actor == t.actor)) (eq-eqb t.place.pool t.place.pool refl)
      (and_from (are_clear (is_sequential t.place.pool v.stores) a b) (not (is_sequential t.place.pool v.stores) || t.actor == t.actor)
      (clear_by (is_sequential t.place.pool v.stores) block (before (eqb-true a.file b.file same))) (own_actor (is_sequential t.place.pool v.stores)))

module _ (v : Inv) (t : Ticket) where
  -- on a volume of random access a segment begins with a block
  abbrev Block : Segment → Type 0
  Block s = is_sequential t.place.pool v.stores ≡ false → (block : ℕ) × (s.offset ≡ 4096 * block)

  before_next : (p q : Placed) → IsBefore p q → p.segment.file ≡ q.segment.file → p.segment.offset + 32 + p.segment.len ≤ q.segment.offset
  before_next p q (inl other) same = absurd (other same)
  before_next p q (inr le) same = le

  one_own : (p : Placed) (qs : List Placed) → AllByRecursion (IsBefore p) qs → AllByRecursion Block (map (λ q. q.segment) qs)
      → list_all (are_apart_in v (t, p.segment)) (map (λ s. (t, s)) (map (λ q. q.segment) qs)) ≡ true
  one_own p [] all blocks = refl
  one_own p (q ∷ qs) all blocks =
      and_from (are_apart_in v (t, p.segment) (t, q.segment)) (list_all (are_apart_in v (t, p.segment)) (map (λ s. (t, s)) (map (λ x. x.segment) qs)))
      (own_apart v t p.segment q.segment blocks.0 (before_next p q all.0)) (one_own p qs all.1 blocks.1)

  each_own : (ps : List Placed) → AllByRecursion Block (map (λ p. p.segment) ps) → AllApart ps → all_later (are_apart_in v) (map (λ s. (t, s)) (map (λ p. p.segment) ps)) ≡ true
  each_own [] blocks apart = refl
  each_own (p ∷ ps) blocks apart =
      and_from (list_all (are_apart_in v (t, p.segment)) (map (λ s. (t, s)) (map (λ x. x.segment) ps))) (all_later (are_apart_in v) (map (λ s. (t, s)) (map (λ x. x.segment) ps)))
      (one_own p ps apart.0 blocks.1) (each_own ps blocks.1 apart.1)

  all_own : (segments : List Segment) → AllByRecursion Block segments → (places : List Placed) → map (λ p. p.segment) places ≡ segments → AllApart places
      → all_later (are_apart_in v) (map (λ s. (t, s)) segments) ≡ true
  all_own segments blocks places are apart =
      subst (λ (l : List Segment). all_later (are_apart_in v) (map (λ s. (t, s)) l) ≡ true) are (each_own places (subst (λ (l : List Segment). AllByRecursion Block l) (sym are) blocks) apart)

append_none : {X : Type 0} (xs : List X) → xs ++ [] ≡ xs
append_none [] = refl
append_none {X} (x ∷ xs) = ap (λ (l : List X). x ∷ l) (append_none xs)

-- A ticket joins that took nothing yet, in places that are lawful.
module _ (c : Core) (t : Ticket) (file object number : ℕ) (places : List Placed) (nothing : t.bytes ≡ []) (open_ : t.is_sealed ≡ false) (are : map (λ p. p.segment) places ≡ t.place.segments)
    (lawful : AllByRecursion (IsLawfulIn c t.actor t.place.pool) t.place.segments) (apart : AllApart places) (some : AllByRecursion (λ s. 0 < s.len) t.place.segments)
    (whole : sum_by (λ s. s.len) t.place.segments ≡ t.size) (small : t.size < 2 ^ 44) (few : length t.place.segments ≤ 2 ^ 23) where
  joins_filled : IsFilled t
  joins_filled = record {
    within = let none : length t.bytes ≡ 0 = ap length nothing in omega (arith, none);
    whole = λ sealed. absurd (false≢true (sym open_ ∙ sealed));
    room = whole;
    some = some;
    small = small;
    few = few;
  }

  space_apart : SpaceIsClear c → all_later (are_apart_in (inventory c)) (all_space (c.tickets ++ (t ∷ []))) ≡ true
  space_apart s =
      let mine : List (Ticket × Segment) = map (λ x. (t, x)) t.place.segments in
      let between : AllByRecursion (λ x. list_all (are_apart_in (inventory c) x) mine ≡ true) (all_space c.tickets) =
      to_space (λ x. list_all (are_apart_in (inventory c) x) mine ≡ true) c.tickets
      (each_also (λ u. AllByRecursion (λ r. AllByRecursion (λ y. r.file ≡ y.file → IsApartFrom c t.actor t.place.pool y u r) t.place.segments) u.place.segments)
      (λ u. AllByRecursion (λ r. list_all (are_apart_in (inventory c) (u, r)) mine ≡ true) u.place.segments) c.tickets
      (λ u h. each_also (λ r. AllByRecursion (λ y. r.file ≡ y.file → IsApartFrom c t.actor t.place.pool y u r) t.place.segments)
      (λ r. list_all (are_apart_in (inventory c) (u, r)) mine ≡ true) u.place.segments
      (λ r g. all_from (are_apart_in (inventory c) (u, r)) mine
      (to_mapped (λ x. are_apart_in (inventory c) (u, r) x ≡ true) (λ y. (t, y)) t.place.segments
      (each_also (λ y. r.file ≡ y.file → IsApartFrom c t.actor t.place.pool y u r) (λ y. are_apart_in (inventory c) (u, r) (t, y) ≡ true) t.place.segments (λ y k. apart_by c t u y r k) g))) h)
      (tickets_turned (λ y u r. r.file ≡ y.file → IsApartFrom c t.actor t.place.pool y u r) t.place.segments c.tickets
      (each_also (IsLawfulIn c t.actor t.place.pool) (λ y. AllByRecursion (λ u. AllByRecursion (λ r. r.file ≡ y.file → IsApartFrom c t.actor t.place.pool y u r) u.place.segments) c.tickets) t.place.segments
      (λ y k. k.apart) lawful))) in
      let own : all_later (are_apart_in (inventory c)) mine ≡ true =
      all_own (inventory c) t t.place.segments
      (each_also (IsLawfulIn c t.actor t.place.pool) (λ y. is_sequential t.place.pool (inventory c).stores ≡ false → (block : ℕ) × (y.offset ≡ 4096 * block)) t.place.segments (λ y k. k.block) lawful) places are apart in
      ap (all_later (are_apart_in (inventory c))) (flat_map-append with_segments c.tickets (t ∷ []) ∙ ap (λ (l : List (Ticket × Segment)). all_space c.tickets ++ l) (append_none mine))
      ∙ later_more (are_apart_in (inventory c)) (all_space c.tickets) mine s.apart between own

  pub space_joins : SpaceIsClear c → SpaceIsClear (seated_core (c.tickets ++ (t ∷ [])) file object number c)
  space_joins s = record {
    filled = both_joined IsFilled c.tickets (t ∷ []) s.filled (joins_filled, tt);
    clear = both_joined (λ u. AllByRecursion (IsClear c u.place.pool) u.place.segments) c.tickets (t ∷ []) s.clear
        (each_also (IsLawfulIn c t.actor t.place.pool) (IsClear c t.place.pool) t.place.segments (λ y k. k.clear) lawful, tt);
    apart = space_apart s;
  }

  pub taken_joins : (seats next : List (ℕ × Seat)) → ((n : ℕ) → is_firm_at n next ≡ true → is_firm_at n seats ≡ true) → is_firm_at t.number next ≡ false → (h : History)
      → AllByRecursion (HasTaken seats h) c.tickets → AllByRecursion (HasTaken next h) (c.tickets ++ (t ∷ []))
  taken_joins seats next less loose h taken =
      both_joined (HasTaken next h) c.tickets (t ∷ []) (all_less seats next h c.tickets less taken) (
        record {
          stands = subst (λ bytes. TookHave (InImage (reads h)) (object_of t.purpose) 0 t.place.segments bytes) (sym nothing) (none_stands (InImage (reads h)) (object_of t.purpose) 0 t.place.segments);
          firm = λ is. absurd (isnt is);
        },
        tt,
      )
    where
      isnt : IsFirm next t → ⊥
      isnt (inl sealed) = false≢true (sym open_ ∙ sealed)
      isnt (inr (new, firm)) = false≢true (sym loose ∙ firm)

      none_stands : (P : ℕ → ℕ → List ℕ → Type 0) (x n : ℕ) (segments : List Segment) → TookHave P x n segments []
      none_stands P x n [] = refl
      none_stands P x n (s ∷ segments) = tt

  -- ---- numbers

  object_still : (p : Purpose) → c.next_object ≤ object → IsObject c p → IsObject (seated_core (c.tickets ++ (t ∷ [])) file object number c) p
  object_still (storing x) le h = (h.0, omega (arith, h.1, le), h.2)
  object_still (copying x a) le h = h

  pub numbers_join : NumbersAreDrawn c → t.number ≡ c.next_ticket → number ≡ c.next_ticket + 1 → number < 2 ^ 62 → file ≡ files_drawn t.place.segments c.next_file → AllByRecursion (λ s. s.file + 1 < 2 ^ 32) t.place.segments
      → c.next_object ≤ object → object < 2 ^ 62 → IsObject (seated_core (c.tickets ++ (t ∷ [])) file object number c) t.purpose → is_some (pool t.place.pool (inventory c)) ≡ true
      → AllByRecursion (λ u. bring_others u t ≡ true) c.tickets
      → NumbersAreDrawn (seated_core (c.tickets ++ (t ∷ [])) file object number c)
  numbers_join n at next low drawn files objects bound mine there others =
      let more : c.next_file ≤ file = let m = drawn_more t.place.segments c.next_file in omega (arith, m, drawn) in
      record {
        tickets = later_more is_later c.tickets (t ∷ []) n.tickets
            (each_also (λ u. u.number < c.next_ticket) (λ u. list_all (is_later u) (t ∷ []) ≡ true) c.tickets
            (λ u lt. and_from (is_later u t) true (le-leb (u.number + 1) t.number (omega (arith, lt, at))) refl) n.below) refl;
        below = both_joined (λ u. u.number < number) c.tickets (t ∷ []) (each_also (λ u. u.number < c.next_ticket) (λ u. u.number < number) c.tickets (λ u lt. omega (arith, lt, next)) n.below) (omega (arith, at, next), tt);
        objects = both_joined (λ u. IsObject (seated_core (c.tickets ++ (t ∷ [])) file object number c) u.purpose) c.tickets (t ∷ [])
            (each_also (λ u. IsObject c u.purpose) (λ u. IsObject (seated_core (c.tickets ++ (t ∷ [])) file object number c) u.purpose) c.tickets (λ u h. object_still u.purpose objects h) n.objects) (mine, tt);
        pools = both_joined (λ u. is_some (pool u.place.pool (inventory c)) ≡ true) c.tickets (t ∷ []) n.pools (there, tt);
        apart = later_more bring_others c.tickets (t ∷ []) n.apart (each_also (λ u. bring_others u t ≡ true) (λ u. list_all (bring_others u) (t ∷ []) ≡ true) c.tickets (λ u h. and_from (bring_others u t) true h refl) others) refl;
        files = both_joined (λ u. AllByRecursion (λ s. IsVolume (seated_core (c.tickets ++ (t ∷ [])) file object number c) s.file) u.place.segments) c.tickets (t ∷ [])
            (each_also (λ u. AllByRecursion (λ s. IsVolume c s.file) u.place.segments) (λ u. AllByRecursion (λ s. IsVolume (seated_core (c.tickets ++ (t ∷ [])) file object number c) s.file) u.place.segments) c.tickets
            (λ u h. each_also (λ (s : Segment). IsVolume c s.file) (λ s. IsVolume (seated_core (c.tickets ++ (t ∷ [])) file object number c) s.file) u.place.segments (λ s v. (v.0, omega (arith, v.1, more), v.2, v.3)) h) n.files) (
              each_both (IsLawfulIn c t.actor t.place.pool) (λ s. s.file < files_drawn t.place.segments c.next_file) (λ s. IsVolume (seated_core (c.tickets ++ (t ∷ [])) file object number c) s.file) t.place.segments
                  (λ s k lt. (k.least, omega (arith, lt, drawn), k.no_backup, k.drawn)) lawful (drawn_behind t.place.segments c.next_file),
              tt,
            );
        lying = both_joined (λ u. AllByRecursion (λ s. LiesIn c u.place.pool s.file) u.place.segments) c.tickets (t ∷ []) n.lying
            (each_also (IsLawfulIn c t.actor t.place.pool) (λ s. LiesIn c t.place.pool s.file) t.place.segments (λ s k. k.lies) lawful, tt);
        none_back = n.none_back;
        next_file = (n.next_file.0, omega (arith, n.next_file.1, more));
        next_object = (n.next_object.0, omega (arith, n.next_object.1, objects));
        bounds = (let below = drawn_below t.place.segments c.next_file (2 ^ 32) n.bounds.0 files in omega (arith, below, drawn), bound, low);
      }

-- ---- a seat that goes again

pub last_below : (places : List Placed) → AllByRecursion (λ p. p.segment.file + 1 < 2 ^ 32) places → last_file places + 1 < 2 ^ 32
last_below [] all = omega arith
last_below (p ∷ places) all = let rest = last_below places all.1 in omega (arith, rest, all.0)

pub seat_undone : (h now : Held) (s : Seat) (put left : List (ℕ × Seat)) (claims : Claims) → h ≡ now → AreBelow now → put ≡ with_row h.next_ticket s h.seats → left ≡ without_row h.next_ticket put → claims ≡ h.claims
    → record h { seats = left; claims = claims } ≡ now
seat_undone h now s put left claims is below came went same =
    ap (λ (l : List (ℕ × Seat)). record h { seats = l; claims = claims }) (went ∙ ap (without_row h.next_ticket) came ∙ row_undone h.next_ticket s h.seats (subst AreBelow (sym is) below))
    ∙ ap (λ (x : Claims). record h { claims = x }) same ∙ is

-- ---- a seat that stays

-- the claims of an answer, or these
abbrev claims_in : Claims → Result Claims Refusal → Claims
claims_in d (Ok c) = c
claims_in d (Err e) = d

pub ok_same : (a b : Claims) (r : Result Claims Refusal) → r ≡ Ok a → r ≡ Ok b → a ≡ b
ok_same a b r is also = ap (claims_in a) (sym is ∙ also)

pub seat_done : (h now : Held) (s : Seat) (put : List (ℕ × Seat)) (last : ℕ) (places : List Placed) (held_now drawn_now : Claims) → h ≡ now → put ≡ with_row h.next_ticket s h.seats → last ≡ last_file s.places → places ≡ s.places
    → held_now ≡ held h.next_ticket (record { actor = s.actor; places = places }) h.claims → drawn_now ≡ drawn last held_now → (h.next_ticket ≡ now.next_ticket) × (record h { seats = put; claims = drawn_now; next_ticket = h.next_ticket + 1 } ≡ with_seat s now)
seat_done h now s put last places held_now drawn_now is came file same got draws = (
  ap (λ (x : Held). x.next_ticket) is,
  ap (λ (l : List (ℕ × Seat)). record h { seats = l; claims = drawn_now; next_ticket = h.next_ticket + 1 }) came
      ∙ ap (λ (x : Claims). record h { seats = with_row h.next_ticket s h.seats; claims = x; next_ticket = h.next_ticket + 1 })
      (draws ∙ ap (λ (n : ℕ). drawn n held_now) file ∙ ap (drawn (last_file s.places)) (got ∙ ap (λ (l : List Placed). held h.next_ticket (record { actor = s.actor; places = l }) h.claims) same))
      ∙ ap (with_seat s) is,
)
