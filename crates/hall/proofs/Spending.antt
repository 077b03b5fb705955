-- Tickets are spent, one after the other.
use Rattle.std.proofs.Common.{◌≡◌, ◌&&◌, ◌||◌, ℕ, Bool, true, false, cond, not, is_some, List, [], ◌∷◌, map, refl, sym, ap, subst, ◌∙◌}
use Rattle.std.specs.Prelude.{◌==◌}
use Rattle.std.specs.BTreeMap.{is_at}
use Rattle.std.specs.List.{AllByRecursion, filter, list_all, list_any}
use Rattle.std.specs.Ordering.{nat_cmp}
use Rattle.std.proofs.lemmas.Bool.{and_parts, eqb-false, not-true}
use Rattle.inventory_rows.specs.pool_tables.Rows.{row_at, without_row}
use Rattle.inventory_rows.specs.version_groups.Entries.{all_later}
use Rattle.inventory_rules.specs.Versions.{name_once}
use Rattle.inventory_rows.proofs.of_pool_tables.Counting.{apart_at, at_is}
use Rattle.inventory_laws.proofs.Gone.{lookup-beside_removed}
use Rattle.inventory_laws.proofs.Lists.{each_also}
use Rattle.machine.specs.State.{Ticket, is_among, own_tickets, ticket, without}
use Rattle.hall.specs.declared.seat.Seat.{Seat}
use Rattle.hall.specs.Covered.{is_later}
use Rattle.hall.specs.Held.{AreSeatsOf, Held}
use Rattle.hall.specs.Joined.{without_seats}
use Rattle.hall.specs.Placed.{claim_of}
use Rattle.hall.specs.Seats.{own, without_seat}
use Rattle.hall.proofs.Lists.{later_kept}
use Rattle.hall.proofs.Tickets.{claims_gone, matches, matches_some, seats_gone}

-- ---- lists

filter_twice : {A : Type 0} (p q r : A → Bool) → ((x : A) → p x ≡ (r x && q x)) → (xs : List A) → filter p xs ≡ filter q (filter r xs)
filter_twice p q r h [] = refl
filter_twice {A} p q r h (x ∷ xs) = ap (λ b. cond b (x ∷ filter p xs) (filter p xs)) (h x) ∙ go (r x) (q x) (filter_twice p q r h xs) where
  put : (b : Bool) → filter p xs ≡ filter q (filter r xs) → q x ≡ b → cond b (x ∷ filter p xs) (filter p xs) ≡ filter q (x ∷ filter r xs)
  put true rest is = ap (λ (l : List A). x ∷ l) rest ∙ sym (ap (λ b. cond b (x ∷ filter q (filter r xs)) (filter q (filter r xs))) is)
  put false rest is = rest ∙ sym (ap (λ b. cond b (x ∷ filter q (filter r xs)) (filter q (filter r xs))) is)

  go : (a b : Bool) → filter p xs ≡ filter q (filter r xs) → cond (r x && q x) (x ∷ filter p xs) (filter p xs) ≡ filter q (cond (r x) (x ∷ filter r xs) (filter r xs))
  go a b rest = elim (r x) as (λ c. cond (c && q x) (x ∷ filter p xs) (filter p xs) ≡ filter q (cond c (x ∷ filter r xs) (filter r xs))) [
    | true ↦ put (q x) rest refl
    | false ↦ rest
  ]

-- one of several numbers is the first of them or one of the rest
one_more : (actor k : ℕ) (ks : List ℕ) (t : Ticket) → not (is_among actor (k ∷ ks) t) ≡ (not (is_among actor (k ∷ []) t) && not (is_among actor ks t))
one_more actor k ks t = go (t.actor == actor) (k == t.number) (list_any (λ n. n == t.number) ks) where
  go : (a b r : Bool) → not (a && (b || r)) ≡ (not (a && (b || false)) && not (a && r))
  go true true r = refl
  go true false r = refl
  go false b r = refl

without_more : (actor k : ℕ) (ks : List ℕ) (ts : List Ticket) → without actor (k ∷ ks) ts ≡ without actor ks (without actor (k ∷ []) ts)
without_more actor k ks ts = filter_twice (λ t. not (is_among actor (k ∷ ks) t)) (λ t. not (is_among actor ks t)) (λ t. not (is_among actor (k ∷ []) t)) (one_more actor k ks) ts

without_none : (actor : ℕ) (ts : List Ticket) → without actor [] ts ≡ ts
without_none actor [] = refl
without_none actor (t ∷ ts) = ap (λ b. cond b (t ∷ without actor [] ts) (without actor [] ts)) (stays (t.actor == actor)) ∙ ap (λ (l : List Ticket). t ∷ l) (without_none actor ts) where
  stays : (b : Bool) → not (b && false) ≡ true
  stays true = refl
  stays false = refl

-- ---- what is held

-- each of these numbers is a ticket's of the actor
abbrev pub AreMine : (actor : ℕ) → List ℕ → List (ℕ × Seat) → Type 0
AreMine actor numbers seats = AllByRecursion (λ k. is_some (own actor (row_at k seats)) ≡ true) numbers

beside : (k other : ℕ) → (k ≡ other → ⊥) → (q : ℕ) → is_at (nat_cmp k) q ≡ true → is_at (nat_cmp other) q ≡ false
beside k other ne q here = apart_at other q (λ e. ne (at_is k q here ∙ sym e))

still_mine : (actor k : ℕ) (ks : List ℕ) (seats : List (ℕ × Seat)) → list_all (λ b. not (k == b)) ks ≡ true → AreMine actor ks seats → AreMine actor ks (without_row k seats)
still_mine actor k [] seats apart mine = tt
still_mine actor k (n ∷ ks) seats apart mine =
    let parts = and_parts (not (k == n)) (list_all (λ b. not (k == b)) ks) apart in
    let same : row_at n (without_row k seats) ≡ row_at n seats = lookup-beside_removed (is_at (nat_cmp k)) (is_at (nat_cmp n)) (beside k n (eqb-false k n (not-true (k == n) parts.0))) seats in
    (subst (λ o. is_some (own actor o) ≡ true) (sym same) mine.0, still_mine actor k ks seats parts.1 mine.1)

pub all_seats_gone : (actor : ℕ) (numbers : List ℕ) (h : Held) (ts : List Ticket) → AreSeatsOf h.seats ts → all_later is_later ts ≡ true → name_once numbers ≡ true → AreMine actor numbers h.seats
    → AreSeatsOf (without_seats numbers h).seats (without actor numbers ts)
all_seats_gone actor [] h ts are rises once mine = subst (AreSeatsOf h.seats) (sym (without_none actor ts)) are
all_seats_gone actor (k ∷ numbers) h ts are rises once mine =
    let parts = and_parts (list_all (λ b. not (k == b)) numbers) (name_once numbers) once in
    subst (AreSeatsOf (without_seats numbers (without_seat k h)).seats) (sym (without_more actor k numbers ts))
    (all_seats_gone actor numbers (without_seat k h) (without actor (k ∷ []) ts) (seats_gone actor k h.seats ts are rises mine.0)
    (later_kept is_later (λ t. not (is_among actor (k ∷ []) t)) ts rises) parts.1 (still_mine actor k numbers h.seats parts.0 mine.1))

pub all_claims_gone : (actor : ℕ) (numbers : List ℕ) (h : Held) (ts : List Ticket) → AreSeatsOf h.seats ts → all_later is_later ts ≡ true → name_once numbers ≡ true → AreMine actor numbers h.seats
    → h.claims.tickets ≡ map claim_of ts → (without_seats numbers h).claims.tickets ≡ map claim_of (without actor numbers ts)
all_claims_gone actor [] h ts are rises once mine is = is ∙ ap (map claim_of) (sym (without_none actor ts))
all_claims_gone actor (k ∷ numbers) h ts are rises once mine is =
    let parts = and_parts (list_all (λ b. not (k == b)) numbers) (name_once numbers) once in
    all_claims_gone actor numbers (without_seat k h) (without actor (k ∷ []) ts) (seats_gone actor k h.seats ts are rises mine.0)
    (later_kept is_later (λ t. not (is_among actor (k ∷ []) t)) ts rises) parts.1 (still_mine actor k numbers h.seats parts.0 mine.1)
    (ap (without_row k) is ∙ claims_gone actor k h.seats ts are rises mine.0)
    ∙ ap (map claim_of) (sym (without_more actor k numbers ts))

-- the rest of what is held stays
pub seats_only : (numbers : List ℕ) (h : Held) → without_seats numbers h ≡ record h { seats = (without_seats numbers h).seats; claims = (without_seats numbers h).claims }
seats_only [] h = refl
seats_only (k ∷ numbers) h = seats_only numbers (without_seat k h)

pub freed_stay : (numbers : List ℕ) (h : Held) → (without_seats numbers h).claims.freed ≡ h.claims.freed
freed_stay [] h = refl
freed_stay (k ∷ numbers) h = freed_stay numbers (without_seat k h)

pub next_stays : (numbers : List ℕ) (h : Held) → (without_seats numbers h).claims.next_file ≡ h.claims.next_file
next_stays [] h = refl
next_stays (k ∷ numbers) h = next_stays numbers (without_seat k h)

-- the actor's tickets with these numbers are held
pub mine_of : (actor : ℕ) (numbers : List ℕ) (h : Held) (ts : List Ticket) → AreSeatsOf h.seats ts → all_later is_later ts ≡ true → AllByRecursion (λ k. is_some (ticket k (own_tickets actor ts)) ≡ true) numbers
    → AreMine actor numbers h.seats
mine_of actor numbers h ts are rises there =
    each_also (λ k. is_some (ticket k (own_tickets actor ts)) ≡ true) (λ k. is_some (own actor (row_at k h.seats)) ≡ true) numbers
    (λ k is. matches_some k (own actor (row_at k h.seats)) (ticket k (own_tickets actor ts)) (matches actor k h.seats ts are rises) ∙ is) there
