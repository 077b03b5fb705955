-- One of the tickets is changed, and it alone.
use Rattle.std.proofs.Common.{◌≡◌, ◌≢◌, ℕ, ◌<◌, Bool, true, false, cond, not, ◌&&◌, ◌||◌, List, [], ◌∷◌, ◌++◌, map, Option, Some, None, refl, sym, ap, subst, ◌∙◌, if◌then◌else◌, arith}
use Rattle.std.specs.Prelude.{◌==◌}
use Rattle.std.specs.BTreeMap.{is_at}
use Rattle.std.specs.List.{AllByRecursion, list_all}
use Rattle.std.specs.Ordering.{nat_cmp}
use Rattle.std.proofs.lemmas.Bool.{and_parts, eq-eqb, eqb-false, eqb-true}
use Rattle.std.proofs.lemmas.List.{map-append}
use Rattle.kinds.specs.declared.segment.Segment.{Segment}
use Rattle.inventory_laws.proofs.Lists.{each_joined}
use Rattle.inventory_laws.proofs.Orders.{filter-append}
use Rattle.inventory_rows.specs.pool_tables.Rows.{row_at, set_row}
use Rattle.inventory_rows.specs.version_groups.Entries.{all_later}
use Rattle.machine.specs.State.{Place, Ticket, is_among, is_ticket, own_tickets, ticket, without}
use Rattle.hall.specs.declared.seat.Seat.{Seat}
use Rattle.hall.specs.Covered.{all_space, is_later, with_segments}
use Rattle.hall.specs.Held.{AreSeatsOf, IsSeatOf}
use Rattle.hall.specs.Placed.{claim_of}
use Rattle.hall.proofs.Apart.{at_middle, both_joined}
use Rattle.hall.proofs.Tickets.{AreBehind, behind, key_is, none_found, number_is, turned, without_other}

-- ---- the change

pub some_is : {A : Type 0} (x y : A) → Some x ≡ Some y → x ≡ y
some_is {A} x y h = ap (λ (o : Option A). or_that x o) h
  where
    or_that : A → Option A → A
    or_that z None = z
    or_that z (Some w) = w

-- the actor's ticket with this number is changed
abbrev pub edit : (actor k : ℕ) → (Ticket → Ticket) → Ticket → Ticket
edit actor k f t = if is_ticket actor k t then f t else t

abbrev pub edited : (actor k : ℕ) → (Ticket → Ticket) → List Ticket → List Ticket
edited actor k f ts = map (edit actor k f) ts

-- The change leaves whose ticket it is, what for, and where.
pub record IsLike (f : Ticket → Ticket) : Type 0 where
  pub number : (t : Ticket) → (f t).number ≡ t.number
  pub actor : (t : Ticket) → (f t).actor ≡ t.actor
  pub place : (t : Ticket) → (f t).place ≡ t.place
  pub purpose : (t : Ticket) → (f t).purpose ≡ t.purpose
  pub claim : (t : Ticket) → claim_of (f t) ≡ claim_of t

module _ (actor k : ℕ) (f : Ticket → Ticket) where
  pub by_edit : (P : Ticket → Type 0) (t : Ticket) → P (f t) → P t → P (edit actor k f t)
  by_edit P t a b = elim (is_ticket actor k t) as (λ c. P (if c then f t else t)) [
    | true ↦ a
    | false ↦ b
  ]

  pub edit_number : IsLike f → (t : Ticket) → (edit actor k f t).number ≡ t.number
  edit_number like t = by_edit (λ u. u.number ≡ t.number) t (like.number t) refl

  pub edit_actor : IsLike f → (t : Ticket) → (edit actor k f t).actor ≡ t.actor
  edit_actor like t = by_edit (λ u. u.actor ≡ t.actor) t (like.actor t) refl

  pub edit_place : IsLike f → (t : Ticket) → (edit actor k f t).place ≡ t.place
  edit_place like t = by_edit (λ u. u.place ≡ t.place) t (like.place t) refl

  pub edit_purpose : IsLike f → (t : Ticket) → (edit actor k f t).purpose ≡ t.purpose
  edit_purpose like t = by_edit (λ u. u.purpose ≡ t.purpose) t (like.purpose t) refl

  pub each_edited : (P : Ticket → Type 0) (ts : List Ticket) → ((t : Ticket) → P t → P (f t)) → AllByRecursion P ts → AllByRecursion P (edited actor k f ts)
  each_edited P [] keeps all = tt
  each_edited P (t ∷ ts) keeps all = (by_edit P t (keeps t all.0) all.0, each_edited P ts keeps all.1)

  -- another ticket
  edit_other : (t : Ticket) → (k == t.number) ≡ false → edit actor k f t ≡ t
  edit_other t h = elim (t.actor == actor) as (λ a. (if a && t.number == k then f t else t) ≡ t) [
    | true ↦ ap (λ b. if b then f t else t) (turned k t.number false h)
    | false ↦ refl
  ]

  -- the ticket itself
  edit_own : (t : Ticket) → t.actor ≡ actor → t.number ≡ k → edit actor k f t ≡ f t
  edit_own t a n =
      ap (λ b. if b && t.number == k then f t else t) (eq-eqb t.actor actor a)
      ∙ ap (λ b. if b then f t else t) (eq-eqb t.number k n)

  edited_behind : (ts : List Ticket) → AreBehind k ts → edited actor k f ts ≡ ts
  edited_behind [] h = refl
  edited_behind (t ∷ ts) h =
      ap (λ u. u ∷ edited actor k f ts) (edit_other t (other k t.number h.0)) ∙ ap (λ (l : List Ticket). t ∷ l) (edited_behind ts h.1)
    where
      other : (k n : ℕ) → k < n → (k == n) ≡ false
      other k n l = elim (k == n) as (λ b. (k == n) ≡ b → b ≡ false) [
        | true ↦ λ e. absurd (let same : k ≡ n = eqb-true k n e in omega (arith, same, l))
        | false ↦ λ e. refl
      ] refl

  pub claims_edited : IsLike f → (ts : List Ticket) → map claim_of (edited actor k f ts) ≡ map claim_of ts
  claims_edited like [] = refl
  claims_edited like (t ∷ ts) =
      ap (λ c. c ∷ map claim_of (edited actor k f ts)) (by_edit (λ u. claim_of u ≡ claim_of t) t (like.claim t) refl)
      ∙ ap (λ cs. claim_of t ∷ cs) (claims_edited like ts)

  -- ---- those that are held

  seats_same : (seats : List (ℕ × Seat)) (ts us : List Ticket) → us ≡ ts → AreSeatsOf seats ts → AreSeatsOf seats us
  seats_same seats ts us e are = subst (AreSeatsOf seats) (sym e) are

  pub seats_edited : (s next : Seat) (seats : List (ℕ × Seat)) (ts : List Ticket) → AreSeatsOf seats ts → all_later is_later ts ≡ true → row_at k seats ≡ Some s → s.actor ≡ actor
      → ((t : Ticket) → IsSeatOf k s t → IsSeatOf k next (f t)) → AreSeatsOf (set_row k next seats) (edited actor k f ts)
  seats_edited s next [] ts are rises there mine becomes = absurd cc
  seats_edited s next (e ∷ seats) [] are rises there mine becomes = absurd are
  seats_edited s next (e ∷ seats) (t ∷ ts) are rises there mine becomes =
      let parts = and_parts (list_all (is_later t) ts) (all_later is_later ts) rises in
      elim (is_at (nat_cmp k) e.0) as (λ b. is_at (nat_cmp k) e.0 ≡ b → cond b (Some e.1) (row_at k seats) ≡ Some s
      → AreSeatsOf (cond b ((e.0, next) ∷ seats) (e ∷ set_row k next seats)) (edited actor k f (t ∷ ts))) [
        | true ↦ λ at found.
            let n : t.number ≡ k = number_is k t.number (key_is k e.0 e.1 t true are.0 at) in
            let key : e.0 ≡ k = sym are.0.number ∙ n in
            let seat : IsSeatOf k s t = subst (λ (x : Seat). IsSeatOf k x t) (some_is e.1 s found) (subst (λ x. IsSeatOf x e.1 t) key are.0) in
            let own : edit actor k f t ≡ f t = edit_own t (seat.actor ∙ mine) n in (
              subst (λ u. IsSeatOf e.0 next u) (sym own) (subst (λ x. IsSeatOf x next (f t)) (sym key) (becomes t seat)),
              seats_same seats ts (edited actor k f ts) (edited_behind ts (behind k t ts n parts.0)) are.1,
            )
        | false ↦ λ at found. (
          subst (λ u. IsSeatOf e.0 e.1 u) (sym (edit_other t (key_is k e.0 e.1 t false are.0 at))) are.0,
          seats_edited s next seats ts are.1 parts.1 found mine becomes,
        )
      ] refl there

-- ---- relations between tickets

all_mapped : {A : Type 0} (p : A → Bool) (q : A → Bool) (h : A → A) (xs : List A) → ((x : A) → p (h x) ≡ q x) → list_all p (map h xs) ≡ list_all q xs
all_mapped p q h [] same = refl
all_mapped p q h (x ∷ xs) same = ap (λ b. b && list_all p (map h xs)) (same x) ∙ ap (λ b. q x && b) (all_mapped p q h xs same)

pub later_mapped : {A : Type 0} (r : A → A → Bool) (h : A → A) (xs : List A) → ((a b : A) → r (h a) (h b) ≡ r a b) → all_later r (map h xs) ≡ all_later r xs
later_mapped r h [] same = refl
later_mapped r h (x ∷ xs) same =
    ap (λ b. b && all_later r (map h xs)) (all_mapped (r (h x)) (r x) h xs (same x)) ∙ ap (λ b. list_all (r x) xs && b) (later_mapped r h xs same)

-- the space of changed tickets
abbrev pub edit_pair : (Ticket → Ticket) → Ticket × Segment → Ticket × Segment
edit_pair h e = (h e.0, e.1)

pairs_edited : (h : Ticket → Ticket) (t : Ticket) (segments : List Segment) → map (λ s. (h t, s)) segments ≡ map (edit_pair h) (map (λ s. (t, s)) segments)
pairs_edited h t [] = refl
pairs_edited h t (s ∷ segments) = ap (λ (l : List (Ticket × Segment)). (h t, s) ∷ l) (pairs_edited h t segments)

pub space_mapped : (h : Ticket → Ticket) → ((t : Ticket) → (h t).place ≡ t.place) → (ts : List Ticket) → all_space (map h ts) ≡ map (edit_pair h) (all_space ts)
space_mapped h same [] = refl
space_mapped h same (t ∷ ts) =
    ap (λ (l : List (Ticket × Segment)). l ++ all_space (map h ts))
    (ap (λ (p : Place). map (λ s. (h t, s)) p.segments) (same t) ∙ pairs_edited h t t.place.segments)
    ∙ ap (λ (l : List (Ticket × Segment)). map (edit_pair h) (with_segments t) ++ l) (space_mapped h same ts)
    ∙ sym (map-append (edit_pair h) (with_segments t) (all_space ts))

-- ---- where the ticket stands

-- A ticket stands between others, which have other numbers.
pub record StandsAmong (actor k : ℕ) (t : Ticket) (ts : List Ticket) : Type 0 where
  pub front : List Ticket
  pub back : List Ticket
  pub whole : ts ≡ front ++ (t ∷ back)
  pub actor_is : t.actor ≡ actor
  pub number_is : t.number ≡ k
  pub ahead : AllByRecursion (λ u. u.number ≢ k) front
  pub beyond : AllByRecursion (λ u. u.number ≢ k) back

behind_other : (k : ℕ) (ts : List Ticket) → AreBehind k ts → AllByRecursion (λ u. u.number ≢ k) ts
behind_other k [] h = tt
behind_other k (t ∷ ts) h = ((λ (e : t.number ≡ k). omega (arith, e, h.0)), behind_other k ts h.1)

-- it isn't found at a ticket with another number
skips : (k : ℕ) (u : Ticket) (rest : List Ticket) (a : Bool) → (u.number == k) ≡ false → ticket k (cond a (u ∷ rest) rest) ≡ ticket k rest
skips k u rest true n = ap (λ b. cond b (Some u) (ticket k rest)) n
skips k u rest false n = refl

none_some : (o : Option Ticket) (t : Ticket) → o ≡ None → o ≡ Some t → ⊥
none_some o t a b = let both : Some t ≡ None = sym b ∙ a in absurd cc

pub stands_among : (actor k : ℕ) (t : Ticket) (ts : List Ticket) → all_later is_later ts ≡ true → ticket k (own_tickets actor ts) ≡ Some t → StandsAmong actor k t ts
stands_among actor k t [] rises found = absurd cc
stands_among actor k t (u ∷ ts) rises found =
    let parts = and_parts (list_all (is_later u) ts) (all_later is_later ts) rises in
    let rest : List Ticket = own_tickets actor ts in
    elim (u.number == k) as (λ n. (u.number == k) ≡ n → StandsAmong actor k t (u ∷ ts)) [
      | true ↦ λ n.
          let number : u.number ≡ k = eqb-true u.number k n in
          let after : AreBehind k ts = behind k u ts number parts.0 in
          elim (u.actor == actor) as (λ a. (u.actor == actor) ≡ a → ticket k (cond a (u ∷ rest) rest) ≡ Some t → StandsAmong actor k t (u ∷ ts)) [
            | true ↦ λ a f.
                let same : u ≡ t = some_is u t (ap (λ b. cond b (Some u) (ticket k rest)) (sym n) ∙ f) in
                subst (λ x. StandsAmong actor k x (u ∷ ts)) same
                (record {
                  front = [];
                  back = ts;
                  whole = refl;
                  actor_is = eqb-true u.actor actor a;
                  number_is = number;
                  ahead = tt;
                  beyond = behind_other k ts after;
                })
            | false ↦ λ a f. absurd (none_some (ticket k rest) t (none_found actor k ts after) f)
          ] refl found
      | false ↦ λ n.
          let deeper = stands_among actor k t ts parts.1 (sym (skips k u rest (u.actor == actor) n) ∙ found) in
          record {
            front = u ∷ deeper.front;
            back = deeper.back;
            whole = ap (λ (l : List Ticket). u ∷ l) deeper.whole;
            actor_is = deeper.actor_is;
            number_is = deeper.number_is;
            ahead = (eqb-false u.number k n, deeper.ahead);
            beyond = deeper.beyond;
          }
    ] refl

-- ---- without it, and with the changed one in its place

module _ (actor k : ℕ) where
  not_key : (n : ℕ) → n ≢ k → (k == n) ≡ false
  not_key n other = elim (k == n) as (λ b. (k == n) ≡ b → b ≡ false) [
    | true ↦ λ e. absurd (other (sym (eqb-true k n e)))
    | false ↦ λ e. refl
  ] refl

  others_stay : (ts : List Ticket) → AllByRecursion (λ u. u.number ≢ k) ts → without actor (k ∷ []) ts ≡ ts
  others_stay [] h = refl
  others_stay (t ∷ ts) h = without_other actor k t ts (not_key t.number h.0) ∙ ap (λ (l : List Ticket). t ∷ l) (others_stay ts h.1)

  edited_others : (f : Ticket → Ticket) (ts : List Ticket) → AllByRecursion (λ u. u.number ≢ k) ts → edited actor k f ts ≡ ts
  edited_others f [] h = refl
  edited_others f (t ∷ ts) h =
      ap (λ u. u ∷ edited actor k f ts) (edit_other actor k f t (not_key t.number h.0)) ∙ ap (λ (l : List Ticket). t ∷ l) (edited_others f ts h.1)

  among_own : (t : Ticket) → t.actor ≡ actor → t.number ≡ k → not (is_among actor (k ∷ []) t) ≡ false
  among_own t a n =
      ap (λ b. not (b && (k == t.number || false))) (eq-eqb t.actor actor a)
      ∙ ap (λ b. not (b || false)) (eq-eqb k t.number (sym n))

  module _ (t : Ticket) (ts : List Ticket) (among : StandsAmong actor k t ts) where
    pub without_is : without actor (k ∷ []) ts ≡ among.front ++ among.back
    without_is =
        ap (without actor (k ∷ [])) among.whole
        ∙ filter-append (λ u. not (is_among actor (k ∷ []) u)) among.front (t ∷ among.back)
        ∙ ap (λ (l : List Ticket). l ++ without actor (k ∷ []) (t ∷ among.back)) (others_stay among.front among.ahead)
        ∙ ap (λ b. among.front ++ cond b (t ∷ without actor (k ∷ []) among.back) (without actor (k ∷ []) among.back)) (among_own t among.actor_is among.number_is)
        ∙ ap (λ (l : List Ticket). among.front ++ l) (others_stay among.back among.beyond)

    pub edited_is : (f : Ticket → Ticket) → edited actor k f ts ≡ among.front ++ (f t ∷ among.back)
    edited_is f =
        ap (edited actor k f) among.whole
        ∙ map-append (edit actor k f) among.front (t ∷ among.back)
        ∙ ap (λ (l : List Ticket). l ++ (edit actor k f t ∷ edited actor k f among.back)) (edited_others f among.front among.ahead)
        ∙ ap (λ u. among.front ++ (u ∷ edited actor k f among.back)) (edit_own actor k f t among.actor_is among.number_is)
        ∙ ap (λ (l : List Ticket). among.front ++ (f t ∷ l)) (edited_others f among.back among.beyond)

    -- the others have other numbers
    pub others_left : AllByRecursion (λ u. u.number ≢ k) (without actor (k ∷ []) ts)
    others_left = subst (AllByRecursion (λ u. u.number ≢ k)) (sym without_is) (both_joined (λ u. u.number ≢ k) among.front among.back among.ahead among.beyond)

    -- what holds of it
    pub own_has : (P : Ticket → Type 0) → AllByRecursion P ts → P t
    own_has P all = at_middle P among.front t among.back (subst (AllByRecursion P) among.whole all)

    -- what holds of the others and of the changed one
    pub each_put : (P : Ticket → Type 0) (f : Ticket → Ticket) → AllByRecursion P (without actor (k ∷ []) ts) → P (f t) → AllByRecursion P (edited actor k f ts)
    each_put P f all own =
        let parts = each_joined P among.front among.back (subst (AllByRecursion P) without_is all) in
        subst (AllByRecursion P) (sym (edited_is f)) (both_joined P among.front (f t ∷ among.back) parts.0 (own, parts.1))

    pub each_replaced : (P : Ticket → Type 0) (f : Ticket → Ticket) → AllByRecursion P ts → P (f t) → AllByRecursion P (edited actor k f ts)
    each_replaced P f all own =
        let parts = each_joined P among.front (t ∷ among.back) (subst (AllByRecursion P) among.whole all) in
        subst (AllByRecursion P) (sym (edited_is f)) (both_joined P among.front (f t ∷ among.back) parts.0 (own, parts.1.1))
