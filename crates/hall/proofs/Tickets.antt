-- The tickets that are held, beside those of the machine.
use Rattle.std.proofs.Common.{◌≡◌, ℕ, ◌+◌, ◌<◌, Bool, true, false, cond, not, ◌&&◌, ◌||◌, is_some, List, [], ◌∷◌, map, Option, Some, None, refl, sym, ap, subst, ◌∙◌, if◌then◌else◌, arith}
use Rattle.std.specs.Prelude.{◌==◌}
use Rattle.std.specs.BTreeMap.{is_at}
use Rattle.std.specs.List.{AllByRecursion, list_all}
use Rattle.std.specs.Ordering.{nat_cmp}
use Rattle.std.proofs.lemmas.Bool.{and_parts, eq-eqb, eqb-false, eqb-true, false≢true, leb-true, ne_eqb}
use Rattle.inventory_laws.proofs.Lists.{all_of, each_also}
use Rattle.inventory_rows.specs.pool_tables.Rows.{row_at, without_row}
use Rattle.inventory_rows.specs.version_groups.Entries.{all_later}
use Rattle.space.specs.declared.claims.Claim.{Claim}
use Rattle.machine.specs.State.{Ticket, is_among, own_tickets, ticket, without}
use Rattle.hall.specs.declared.seat.Seat.{Seat}
use Rattle.hall.specs.Covered.{is_later}
use Rattle.hall.specs.Held.{AreSeatsOf, IsSeatOf}
use Rattle.hall.specs.Placed.{claim_of}
use Rattle.hall.specs.Seats.{own}
use Rattle.hall.proofs.Lists.{same_number}

-- ---- numbers rise

-- each of these has a greater number
abbrev pub AreBehind : ℕ → List Ticket → Type 0
AreBehind k ts = AllByRecursion (λ t. k < t.number) ts

one_behind : (k : ℕ) (t u : Ticket) → t.number ≡ k → is_later t u ≡ true → k < u.number
one_behind k t u n h = let l = leb-true (t.number + 1) u.number h in omega (arith, n, l)

pub behind : (k : ℕ) (t : Ticket) (ts : List Ticket) → t.number ≡ k → list_all (is_later t) ts ≡ true → AreBehind k ts
behind k t ts n h = each_also (λ u. is_later t u ≡ true) (λ u. k < u.number) ts (λ u l. one_behind k t u n l) (all_of (is_later t) ts h)

-- ---- a ticket goes

among_one : (actor k : ℕ) (t : Ticket) (b c : Bool) → (t.actor == actor) ≡ b → (k == t.number) ≡ c → not (is_among actor (k ∷ []) t) ≡ not (b && c)
among_one actor k t true true p q = ap (λ x. not (x && (k == t.number || false))) p ∙ ap (λ x. not (x || false)) q
among_one actor k t true false p q = ap (λ x. not (x && (k == t.number || false))) p ∙ ap (λ x. not (x || false)) q
among_one actor k t false c p q = ap (λ x. not (x && (k == t.number || false))) p

stays : (actor k : ℕ) (t : Ticket) → (k == t.number) ≡ false → not (is_among actor (k ∷ []) t) ≡ true
stays actor k t h = elim (t.actor == actor) as (λ b. (t.actor == actor) ≡ b → not (is_among actor (k ∷ []) t) ≡ true) [
  | true ↦ λ p. among_one actor k t true false p h
  | false ↦ λ p. among_one actor k t false false p h
] refl

pub without_other : (actor k : ℕ) (t : Ticket) (ts : List Ticket) → (k == t.number) ≡ false → without actor (k ∷ []) (t ∷ ts) ≡ t ∷ without actor (k ∷ []) ts
without_other actor k t ts h = ap (λ b. cond b (t ∷ without actor (k ∷ []) ts) (without actor (k ∷ []) ts)) (stays actor k t h)

pub not_number : (k n : ℕ) → k < n → (k == n) ≡ false
not_number k n l = ne_eqb k n (λ (h : k ≡ n). omega (arith, h, l))

none_behind : (actor k : ℕ) (ts : List Ticket) → AreBehind k ts → without actor (k ∷ []) ts ≡ ts
none_behind actor k [] h = refl
none_behind actor k (t ∷ ts) h = without_other actor k t ts (not_number k t.number h.0) ∙ ap (λ (l : List Ticket). t ∷ l) (none_behind actor k ts h.1)

without_at : (actor k : ℕ) (t : Ticket) (ts : List Ticket) → t.actor ≡ actor → t.number ≡ k → AreBehind k ts → without actor (k ∷ []) (t ∷ ts) ≡ ts
without_at actor k t ts a n h =
    ap (λ b. cond b (t ∷ without actor (k ∷ []) ts) (without actor (k ∷ []) ts)) (among_one actor k t true true (eq-eqb t.actor actor a) (eq-eqb k t.number (sym n)))
    ∙ none_behind actor k ts h

-- ---- the actor's own

own_actor : (actor : ℕ) (s : Seat) → is_some (own actor (Some s)) ≡ true → s.actor ≡ actor
own_actor actor s h = elim (s.actor == actor) as (λ b. (s.actor == actor) ≡ b → is_some (if b then Some s else None) ≡ true → s.actor ≡ actor) [
  | true ↦ λ e _. eqb-true s.actor actor e
  | false ↦ λ e m. absurd (false≢true m)
] refl h

-- the key of a held ticket is the ticket's number
pub key_is : (k : ℕ) (key : ℕ) (s : Seat) (t : Ticket) (b : Bool) → IsSeatOf key s t → is_at (nat_cmp k) key ≡ b → (k == t.number) ≡ b
key_is k key s t b is h = ap (λ n. k == n) is.number ∙ sym (same_number k key) ∙ h

pub number_is : (k n : ℕ) → (k == n) ≡ true → n ≡ k
number_is k n h = sym (eqb-true k n h)

pub seats_gone : (actor k : ℕ) (seats : List (ℕ × Seat)) (ts : List Ticket) → AreSeatsOf seats ts → all_later is_later ts ≡ true → is_some (own actor (row_at k seats)) ≡ true
    → AreSeatsOf (without_row k seats) (without actor (k ∷ []) ts)
seats_gone actor k [] [] are rises mine = absurd (false≢true mine)
seats_gone actor k [] (t ∷ ts) are rises mine = absurd are
seats_gone actor k (e ∷ seats) [] are rises mine = absurd are
seats_gone actor k (e ∷ seats) (t ∷ ts) are rises mine =
    let parts = and_parts (list_all (is_later t) ts) (all_later is_later ts) rises in
    elim (is_at (nat_cmp k) e.0) as
    (λ b. is_at (nat_cmp k) e.0 ≡ b → is_some (own actor (cond b (Some e.1) (row_at k seats))) ≡ true → AreSeatsOf (cond b seats (e ∷ without_row k seats)) (without actor (k ∷ []) (t ∷ ts))) [
      | true ↦ λ at m.
          let n : t.number ≡ k = number_is k t.number (key_is k e.0 e.1 t true are.0 at) in
          subst (λ (l : List Ticket). AreSeatsOf seats l) (sym (without_at actor k t ts (are.0.actor ∙ own_actor actor e.1 m) n (behind k t ts n parts.0))) are.1
      | false ↦ λ at m.
          subst (λ (l : List Ticket). AreSeatsOf (e ∷ without_row k seats) l) (sym (without_other actor k t ts (key_is k e.0 e.1 t false are.0 at)))
          (are.0, seats_gone actor k seats ts are.1 parts.1 m)
    ] refl mine

pub claims_gone : (actor k : ℕ) (seats : List (ℕ × Seat)) (ts : List Ticket) → AreSeatsOf seats ts → all_later is_later ts ≡ true → is_some (own actor (row_at k seats)) ≡ true
    → without_row k (map claim_of ts) ≡ map claim_of (without actor (k ∷ []) ts)
claims_gone actor k [] [] are rises mine = refl
claims_gone actor k [] (t ∷ ts) are rises mine = absurd are
claims_gone actor k (e ∷ seats) [] are rises mine = absurd are
claims_gone actor k (e ∷ seats) (t ∷ ts) are rises mine =
    let parts = and_parts (list_all (is_later t) ts) (all_later is_later ts) rises in
    let claims : List (ℕ × Claim) = map claim_of ts in
    elim (is_at (nat_cmp k) e.0) as
    (λ b. is_at (nat_cmp k) e.0 ≡ b → is_some (own actor (cond b (Some e.1) (row_at k seats))) ≡ true → without_row k (map claim_of (t ∷ ts)) ≡ map claim_of (without actor (k ∷ []) (t ∷ ts))) [
      | true ↦ λ at m.
          let same : (k == t.number) ≡ true = key_is k e.0 e.1 t true are.0 at in
          let n : t.number ≡ k = number_is k t.number same in
          ap (λ b. cond b claims (claim_of t ∷ without_row k claims)) (same_number k t.number ∙ same)
          ∙ ap (map claim_of) (sym (without_at actor k t ts (are.0.actor ∙ own_actor actor e.1 m) n (behind k t ts n parts.0)))
      | false ↦ λ at m.
          let other : (k == t.number) ≡ false = key_is k e.0 e.1 t false are.0 at in
          ap (λ b. cond b claims (claim_of t ∷ without_row k claims)) (same_number k t.number ∙ other)
          ∙ ap (λ (l : List (ℕ × Claim)). claim_of t ∷ l) (claims_gone actor k seats ts are.1 parts.1 m)
          ∙ ap (map claim_of) (sym (without_other actor k t ts other))
    ] refl mine

-- ---- the ticket with a number

-- a ticket that is held is one of the machine's, and there is none where none is held
abbrev pub Matches : ℕ → Option Seat → Option Ticket → Type 0
Matches k None None = Unit {0}
Matches k (Some s) (Some t) = IsSeatOf k s t
Matches k _ _ = ⊥

pub matches_some : (k : ℕ) (s : Option Seat) (t : Option Ticket) → Matches k s t → is_some s ≡ is_some t
matches_some k None None h = refl
matches_some k None (Some t) h = absurd h
matches_some k (Some s) None h = absurd h
matches_some k (Some s) (Some t) h = refl

pub none_found : (actor k : ℕ) (ts : List Ticket) → AreBehind k ts → ticket k (own_tickets actor ts) ≡ None
none_found actor k [] h = refl
none_found actor k (t ∷ ts) h =
    let rest : ticket k (own_tickets actor ts) ≡ None = none_found actor k ts h.1 in
    elim (t.actor == actor) as (λ b. ticket k (cond b (t ∷ own_tickets actor ts) (own_tickets actor ts)) ≡ None) [
      | true ↦ ap (λ b. cond b (Some t) (ticket k (own_tickets actor ts))) (ne_eqb t.number k (λ (e : t.number ≡ k). omega (arith, e, h.0))) ∙ rest
      | false ↦ rest
    ]

-- the number of a ticket is tested from both sides alike
pub turned : (k n : ℕ) (b : Bool) → (k == n) ≡ b → (n == k) ≡ b
turned k n true h = eq-eqb n k (number_is k n h)
turned k n false h = ne_eqb n k (λ (e : n ≡ k). eqb-false k n h (sym e))

pub matches : (actor k : ℕ) (seats : List (ℕ × Seat)) (ts : List Ticket) → AreSeatsOf seats ts → all_later is_later ts ≡ true → Matches k (own actor (row_at k seats)) (ticket k (own_tickets actor ts))
matches actor k [] [] are rises = tt
matches actor k [] (t ∷ ts) are rises = absurd are
matches actor k (e ∷ seats) [] are rises = absurd are
matches actor k (e ∷ seats) (t ∷ ts) are rises =
    let parts = and_parts (list_all (is_later t) ts) (all_later is_later ts) rises in
    let mine : List Ticket = own_tickets actor ts in
    elim (is_at (nat_cmp k) e.0) as (λ b. is_at (nat_cmp k) e.0 ≡ b → Matches k (own actor (cond b (Some e.1) (row_at k seats))) (ticket k (cond (t.actor == actor) (t ∷ mine) mine))) [
      | true ↦ λ at.
          let same : (k == t.number) ≡ true = key_is k e.0 e.1 t true are.0 at in
          let n : t.number ≡ k = number_is k t.number same in
          subst (λ a. Matches k (if a then Some e.1 else None) (ticket k (cond (t.actor == actor) (t ∷ mine) mine))) (ap (λ x. x == actor) are.0.actor)
          (elim (t.actor == actor) as (λ b. Matches k (if b then Some e.1 else None) (ticket k (cond b (t ∷ mine) mine))) [
            | true ↦ subst (λ c. Matches k (Some e.1) (cond c (Some t) (ticket k mine))) (sym (turned k t.number true same)) (subst (λ x. IsSeatOf x e.1 t) (sym are.0.number ∙ n) are.0)
            | false ↦ subst (λ o. Matches k None o) (sym (none_found actor k ts (behind k t ts n parts.0))) tt
          ])
      | false ↦ λ at.
          let other : (k == t.number) ≡ false = key_is k e.0 e.1 t false are.0 at in
          elim (t.actor == actor) as (λ b. Matches k (own actor (row_at k seats)) (ticket k (cond b (t ∷ mine) mine))) [
            | true ↦ subst (λ c. Matches k (own actor (row_at k seats)) (cond c (Some t) (ticket k mine))) (sym (turned k t.number false other)) (matches actor k seats ts are.1 parts.1)
            | false ↦ matches actor k seats ts are.1 parts.1
          ]
    ] refl
