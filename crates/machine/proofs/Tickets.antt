-- The tickets of one actor among those of all.
use Rattle.std.proofs.Common.{◌≡◌, ℕ, ◌==◌, ◌&&◌, Bool, true, false, not, List, [], ◌∷◌, ◌++◌, map, refl, sym, ap, ◌∙◌, if◌then◌else◌}
use Rattle.std.proofs.lemmas.Bool.{and_parts, eq-eqb, eqb-true, ne_eqb}
use Rattle.std.specs.List.{filter, list_any}
use Rattle.machine.specs.State.{Ticket, is_among, is_ticket, own_tickets, sealed, sealing, taking, took, without}

not-is : (b : Bool) → not b ≡ false → b ≡ true
not-is true h = refl
not-is false h = absurd cc

-- ---- one ticket more

pub own-push : (actor : ℕ) (tickets : List Ticket) (t : Ticket) → t.actor ≡ actor → own_tickets actor (tickets ++ t ∷ []) ≡ own_tickets actor tickets ++ t ∷ []
own-push actor [] t h = ap (λ (b : Bool). if b then t ∷ [] else []) (eq-eqb t.actor actor h)
own-push actor (x ∷ tickets) t h =
    elim (x.actor == actor) as (λ b. (if b then x ∷ own_tickets actor (tickets ++ t ∷ []) else own_tickets actor (tickets ++ t ∷ [])) ≡ (if b then x ∷ own_tickets actor tickets else own_tickets actor tickets) ++ t ∷ []) [
      | true ↦ ap (λ (r : List Ticket). x ∷ r) (own-push actor tickets t h)
      | false ↦ own-push actor tickets t h
    ]

pub others-push : (other : ℕ) (tickets : List Ticket) (t : Ticket) → (t.actor ≡ other → ⊥) → own_tickets other (tickets ++ t ∷ []) ≡ own_tickets other tickets
others-push other [] t n = ap (λ (b : Bool). if b then t ∷ [] else []) (ne_eqb t.actor other n)
others-push other (x ∷ tickets) t n =
    elim (x.actor == other) as (λ b. (if b then x ∷ own_tickets other (tickets ++ t ∷ []) else own_tickets other (tickets ++ t ∷ [])) ≡ (if b then x ∷ own_tickets other tickets else own_tickets other tickets)) [
      | true ↦ ap (λ (r : List Ticket). x ∷ r) (others-push other tickets t n)
      | false ↦ others-push other tickets t n
    ]

-- ---- each ticket changes, and stays its actor's

own-map : (actor : ℕ) (f : Ticket → Ticket) → ((t : Ticket) → (f t).actor ≡ t.actor) → (tickets : List Ticket) → own_tickets actor (map f tickets) ≡ map f (own_tickets actor tickets)
own-map actor f keeps [] = refl
own-map actor f keeps (t ∷ tickets) =
    ap (λ (n : ℕ). if n == actor then f t ∷ own_tickets actor (map f tickets) else own_tickets actor (map f tickets)) (keeps t)
    ∙ elim (t.actor == actor) as (λ b. (if b then f t ∷ own_tickets actor (map f tickets) else own_tickets actor (map f tickets)) ≡ map f (if b then t ∷ own_tickets actor tickets else own_tickets actor tickets)) [
      | true ↦ ap (λ (r : List Ticket). f t ∷ r) (own-map actor f keeps tickets)
      | false ↦ own-map actor f keeps tickets
    ]

others-map : (other : ℕ) (f : Ticket → Ticket) → ((t : Ticket) → (f t).actor ≡ t.actor) → ((t : Ticket) → (t.actor == other) ≡ true → f t ≡ t) → (tickets : List Ticket)
    → own_tickets other (map f tickets) ≡ own_tickets other tickets
others-map other f keeps same [] = refl
others-map other f keeps same (t ∷ tickets) =
    ap (λ (n : ℕ). if n == other then f t ∷ own_tickets other (map f tickets) else own_tickets other (map f tickets)) (keeps t)
    ∙ elim (t.actor == other) as (λ b. (t.actor == other) ≡ b → (if b then f t ∷ own_tickets other (map f tickets) else own_tickets other (map f tickets)) ≡ (if b then t ∷ own_tickets other tickets else own_tickets other tickets)) [
      | true ↦ λ e. ap (λ (x : Ticket). x ∷ own_tickets other (map f tickets)) (same t e) ∙ ap (λ (r : List Ticket). t ∷ r) (others-map other f keeps same tickets)
      | false ↦ λ _. others-map other f keeps same tickets
    ] refl

-- another actor's ticket isn't this one's
not-ticket : (actor other number : ℕ) (t : Ticket) → (other ≡ actor → ⊥) → (t.actor == other) ≡ true → is_ticket actor number t ≡ false
not-ticket actor other number t n e =
    let is : t.actor ≡ other = eqb-true t.actor other e in
    ap (λ (b : Bool). b && t.number == number) (ne_eqb t.actor actor (λ (h : t.actor ≡ actor). n (sym is ∙ h)))

keeps-actor : (actor number : ℕ) (f : Ticket → Ticket) → ((t : Ticket) → (f t).actor ≡ t.actor) → (t : Ticket) → (if is_ticket actor number t then f t else t).actor ≡ t.actor
keeps-actor actor number f keeps t = elim (is_ticket actor number t) as (λ b. (if b then f t else t).actor ≡ t.actor) [
  | true ↦ keeps t
  | false ↦ refl
]

leaves-other : (actor other number : ℕ) (f : Ticket → Ticket) → (other ≡ actor → ⊥) → (t : Ticket) → (t.actor == other) ≡ true → (if is_ticket actor number t then f t else t) ≡ t
leaves-other actor other number f n t e = ap (λ (b : Bool). if b then f t else t) (not-ticket actor other number t n e)

pub own-taking : (actor number : ℕ) (bytes : List ℕ) (tickets : List Ticket) → own_tickets actor (taking actor number bytes tickets) ≡ taking actor number bytes (own_tickets actor tickets)
own-taking actor number bytes tickets = own-map actor (λ t. if is_ticket actor number t then took bytes t else t) (keeps-actor actor number (took bytes) (λ t. refl)) tickets

pub others-taking : (actor other number : ℕ) (bytes : List ℕ) (tickets : List Ticket) → (other ≡ actor → ⊥) → own_tickets other (taking actor number bytes tickets) ≡ own_tickets other tickets
others-taking actor other number bytes tickets n =
    others-map other (λ t. if is_ticket actor number t then took bytes t else t) (keeps-actor actor number (took bytes) (λ t. refl)) (leaves-other actor other number (took bytes) n) tickets

pub own-sealing : (actor number : ℕ) (tickets : List Ticket) → own_tickets actor (sealing actor number tickets) ≡ sealing actor number (own_tickets actor tickets)
own-sealing actor number tickets = own-map actor (λ t. if is_ticket actor number t then sealed t else t) (keeps-actor actor number sealed (λ t. refl)) tickets

pub others-sealing : (actor other number : ℕ) (tickets : List Ticket) → (other ≡ actor → ⊥) → own_tickets other (sealing actor number tickets) ≡ own_tickets other tickets
others-sealing actor other number tickets n =
    others-map other (λ t. if is_ticket actor number t then sealed t else t) (keeps-actor actor number sealed (λ t. refl)) (leaves-other actor other number sealed n) tickets

-- ---- tickets go

filter-swap : (p q : Ticket → Bool) (tickets : List Ticket) → filter p (filter q tickets) ≡ filter q (filter p tickets)
filter-swap p q [] = refl
filter-swap p q (t ∷ tickets) =
    let rest : filter p (filter q tickets) ≡ filter q (filter p tickets) = filter-swap p q tickets in
    elim (q t) as (λ b. q t ≡ b → filter p (if b then t ∷ filter q tickets else filter q tickets) ≡ filter q (if p t then t ∷ filter p tickets else filter p tickets)) [
      | true ↦ λ e. elim (p t) as (λ c. (if c then t ∷ filter p (filter q tickets) else filter p (filter q tickets)) ≡ filter q (if c then t ∷ filter p tickets else filter p tickets)) [
        | true ↦ ap (λ (r : List Ticket). t ∷ r) rest ∙ sym (ap (λ (b : Bool). if b then t ∷ filter q (filter p tickets) else filter q (filter p tickets)) e)
        | false ↦ rest
      ]
      | false ↦ λ e. elim (p t) as (λ c. filter p (filter q tickets) ≡ filter q (if c then t ∷ filter p tickets else filter p tickets)) [
        | true ↦ rest ∙ sym (ap (λ (b : Bool). if b then t ∷ filter q (filter p tickets) else filter q (filter p tickets)) e)
        | false ↦ rest
      ]
    ] refl

pub own-without : (actor : ℕ) (numbers : List ℕ) (tickets : List Ticket) → own_tickets actor (without actor numbers tickets) ≡ without actor numbers (own_tickets actor tickets)
own-without actor numbers tickets = filter-swap (λ t. t.actor == actor) (λ t. not (is_among actor numbers t)) tickets

-- what goes is no other actor's
gone-mine : (actor other : ℕ) (numbers : List ℕ) (t : Ticket) → (other ≡ actor → ⊥) → not (is_among actor numbers t) ≡ false → (t.actor == other) ≡ false
gone-mine actor other numbers t n e =
    let parts = and_parts (t.actor == actor) (list_any (λ k. k == t.number) numbers) (not-is (is_among actor numbers t) e) in
    ne_eqb t.actor other (λ (h : t.actor ≡ other). n (sym h ∙ eqb-true t.actor actor parts.0))

pub others-without : (actor other : ℕ) (numbers : List ℕ) (tickets : List Ticket) → (other ≡ actor → ⊥) → own_tickets other (without actor numbers tickets) ≡ own_tickets other tickets
others-without actor other numbers [] n = refl
others-without actor other numbers (t ∷ tickets) n =
    let rest : own_tickets other (without actor numbers tickets) ≡ own_tickets other tickets = others-without actor other numbers tickets n in
    elim (not (is_among actor numbers t)) as (λ b. not (is_among actor numbers t) ≡ b → own_tickets other (if b then t ∷ without actor numbers tickets else without actor numbers tickets) ≡ (if t.actor == other then t ∷ own_tickets other tickets else own_tickets other tickets)) [
      | true ↦ λ _. elim (t.actor == other) as (λ c. (if c then t ∷ own_tickets other (without actor numbers tickets) else own_tickets other (without actor numbers tickets)) ≡ (if c then t ∷ own_tickets other tickets else own_tickets other tickets)) [
        | true ↦ ap (λ (r : List Ticket). t ∷ r) rest
        | false ↦ rest
      ]
      | false ↦ λ e. rest ∙ sym (ap (λ (c : Bool). if c then t ∷ own_tickets other tickets else own_tickets other tickets) (gone-mine actor other numbers t n e))
    ] refl
