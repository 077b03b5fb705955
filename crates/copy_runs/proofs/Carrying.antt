-- The one ticket that an attempt has, step by step.
use Rattle.std.proofs.Common.{◌≡◌, ◌⊎◌, inl, inr, ℕ, ◌==◌, ◌&&◌, ◌||◌, Bool, true, false, not, Contains, List, [], ◌∷◌, ◌++◌, length, Option, Some, None, Result, Ok, Err, refl, sym, ap, subst, ◌∙◌, arith, if◌then◌else◌}
use Rattle.std.proofs.lemmas.Bool.{eq-eqb, false≢true}
use Rattle.std.proofs.lemmas.List.Elements.{Contains-push_cases}
use Rattle.std.specs.List.{list_any}
use Rattle.kinds.specs.Refusals.{foremost, number_of}
use Rattle.kinds.specs.declared.refusal.Refusal.{Refusal}
use Rattle.inventory_rows.specs.State.{Inv}
use Rattle.space.specs.declared.aim.Aim.{Aim}
use Rattle.space.specs.declared.aim.Aim.TheVariants as aim
use Rattle.space.specs.Placing.{walked}
use Rattle.steps.specs.declared.asked.Asked.TheVariants as asked
use Rattle.steps.specs.Events.{event}
use Rattle.steps.specs.Events.Deed.{OpenCopy, CopyPiece, Seal, Commit, DropTicket, Force}
use Rattle.machine.specs.Causes.{of_ticket}
use Rattle.machine.specs.Fits.{History, Own, Step, inv, is_write_fault}
use Rattle.machine.specs.Machine.{next_count, size_of}
use Rattle.machine.specs.Pieces.{piece}
use Rattle.machine.specs.Says.{Says, is_elsewhere}
use Rattle.machine.specs.State.{Ticket, copying, is_ticket, object_of, sealed, sealing, taking, ticket, took, without}

-- where a further copy is wanted, the pool is the one that it goes to
abbrev pub IsAimed : Aim → (pool : ℕ) → Type 0
IsAimed (aim.New number) pool = Unit {0}
IsAimed (aim.Move from placed to along) pool = Unit {0}
IsAimed (aim.Copy to) pool = pool ≡ to

-- the actor has this ticket and no other, for a copy of the object with this aim, sealed or not
pub record Carries (actor number object : ℕ) (a : Aim) (is_full : Bool) (own : Own) : Type 0 where
  pub t : Ticket
  pub only : own.tickets ≡ t ∷ []
  pub named : t.number ≡ number
  pub mine : t.actor ≡ actor
  pub purpose : t.purpose ≡ copying object a
  pub pool : IsAimed a t.place.pool
  pub full : t.is_sealed ≡ is_full

-- ---- it is opened

one-of : (x y : ℕ) → Contains (x ∷ []) y → x ≡ y
one-of x y h = elim (Contains-push_cases [] x y h) as (λ _. x ≡ y) [
  | inl none ↦ absurd (omega (arith, none.1))
  | inr same ↦ same
]

aimed : (a : Aim) (v : Inv) (pool : ℕ) → Contains (walked a v.stores) pool → IsAimed a pool
aimed (aim.New number) v pool h = tt
aimed (aim.Move from placed to along) v pool h = tt
aimed (aim.Copy to) v pool h = sym (one-of to pool h)

pub opened : (w : History) (actor : ℕ) (a b : Own) (n object : ℕ) (to : Aim) (avoid number : ℕ) → a.tickets ≡ [] → Step w actor a (event n (OpenCopy object to avoid (Ok number))) b
    → Carries actor number object to false b
opened w actor a b n object to avoid number none s =
    let h = s.has.tickets in
    let t : Ticket = record { number = number; actor = actor; purpose = h.0; size = size_of object (inv w n); place = h.1; bytes = []; is_sealed = false } in
    record {
      t = t;
      only = h.3 ∙ ap (λ (ts : List Ticket). ts ++ t ∷ []) none;
      named = refl;
      mine = refl;
      purpose = h.2.0;
      pool = aimed to (inv w n) h.1.pool h.2.1;
      full = refl;
    }

-- ---- the ticket that the actor has

both-true : (a b : Bool) → a ≡ true → b ≡ true → (a && b) ≡ true
both-true a b h g = ap (λ x. x && b) h ∙ g

pub found : (actor number object : ℕ) (a : Aim) (is_full : Bool) (own : Own) → (c : Carries actor number object a is_full own) → ticket number own.tickets ≡ Some c.t
found actor number object a is_full own c =
    ap (ticket number) c.only ∙ ap (λ (b : Bool). if b then Some c.t else None) (eq-eqb c.t.number number c.named)

is-mine : (actor number object : ℕ) (a : Aim) (is_full : Bool) (own : Own) → (c : Carries actor number object a is_full own) → is_ticket actor number c.t ≡ true
is-mine actor number object a is_full own c = both-true (c.t.actor == actor) (c.t.number == number) (eq-eqb c.t.actor actor c.mine) (eq-eqb c.t.number number c.named)

-- without it there is none
pub without-it : (actor number object : ℕ) (a : Aim) (is_full : Bool) (own : Own) → Carries actor number object a is_full own → without actor (number ∷ []) own.tickets ≡ []
without-it actor number object a is_full own c =
    ap (without actor (number ∷ [])) c.only
    ∙ ap (λ (b : Bool). if not b then c.t ∷ [] else [])
    (both-true (c.t.actor == actor) ((number == c.t.number) || false) (eq-eqb c.t.actor actor c.mine) (ap (λ b. b || false) (eq-eqb number c.t.number (sym c.named))))

-- ---- pieces

pub takes : (w : History) (actor : ℕ) (a b : Own) (n number count object : ℕ) (to : Aim) → Carries actor number object to false a → Step w actor a (event n (CopyPiece number (Ok count))) b
    → Carries actor number object to false b
takes w actor a b n number count object to c s =
    let h = s.has.tickets in
    let bytes : List ℕ = piece (length h.0.bytes) (next_count h.0) (w.contents (object_of h.0.purpose)) in
    let is : is_ticket actor number c.t ≡ true = is-mine actor number object to false a c in
    record {
      t = took bytes c.t;
      only = h.2 ∙ ap (taking actor number bytes) c.only ∙ ap (λ (b : Bool). (if b then took bytes c.t else c.t) ∷ []) is;
      named = c.named;
      mine = c.mine;
      purpose = c.purpose;
      pool = c.pool;
      full = c.full;
    }

pub seals : (w : History) (actor : ℕ) (a b : Own) (n number object : ℕ) (to : Aim) → Carries actor number object to false a → Step w actor a (event n (Seal number (Ok tt))) b
    → Carries actor number object to true b
seals w actor a b n number object to c s =
    let is : is_ticket actor number c.t ≡ true = is-mine actor number object to false a c in
    record {
      t = sealed c.t;
      only = s.has.tickets ∙ ap (sealing actor number) c.only ∙ ap (λ (b : Bool). (if b then sealed c.t else c.t) ∷ []) is;
      named = c.named;
      mine = c.mine;
      purpose = c.purpose;
      pool = c.pool;
      full = refl;
    }

-- ---- refusals

-- behind a refusal the actor has the ticket as before, or none; and none where writing to a volume failed
pub record Keeps (actor number object : ℕ) (a : Aim) (e : Refusal) (own : Own) : Type 0 where
  pub fault : is_write_fault e ≡ true → own.tickets ≡ []
  pub either : (own.tickets ≡ []) ⊎ ((is_full : Bool) × Carries actor number object a is_full own)

-- the same ticket, among the same tickets
same-ticket : (actor number object : ℕ) (a : Aim) (is_full : Bool) (old new : Own) → Carries actor number object a is_full old → new.tickets ≡ old.tickets → Carries actor number object a is_full new
same-ticket actor number object a is_full old new c h = record { t = c.t; only = h ∙ c.only; named = c.named; mine = c.mine; purpose = c.purpose; pool = c.pool; full = c.full }

-- behind a refusal of a piece or of a seal
kept-or-lost : (actor number object : ℕ) (a : Aim) (is_full : Bool) (e : Refusal) (old new : Own) → Carries actor number object a is_full old
    → new.tickets ≡ (if is_write_fault e then without actor (number ∷ []) old.tickets else old.tickets) → Keeps actor number object a e new
kept-or-lost actor number object a is_full e old new c h =
    elim (is_write_fault e) as (λ b. is_write_fault e ≡ b → new.tickets ≡ (if b then without actor (number ∷ []) old.tickets else old.tickets) → Keeps actor number object a e new) [
      | true ↦ λ f g. (let none : new.tickets ≡ [] = g ∙ without-it actor number object a is_full old c in record { fault = λ _. none; either = inl none })
      | false ↦ λ f g. record { fault = λ t. absurd (false≢true (sym f ∙ t)); either = inr (is_full, same-ticket actor number object a is_full old new c g) }
    ] refl h

pub piece-refused : (w : History) (actor : ℕ) (a b : Own) (n number object : ℕ) (to : Aim) (e : Refusal) → Carries actor number object to false a
    → Step w actor a (event n (CopyPiece number (Err e))) b
    → Keeps actor number object to e b
piece-refused w actor a b n number object to e c s = kept-or-lost actor number object to false e a b c s.has.tickets

pub seal-refused : (w : History) (actor : ℕ) (a b : Own) (n number object : ℕ) (to : Aim) (e : Refusal) → Carries actor number object to false a → Step w actor a (event n (Seal number (Err e))) b
    → Keeps actor number object to e b
seal-refused w actor a b n number object to e c s = kept-or-lost actor number object to false e a b c s.has.tickets

pub commit-refused : (w : History) (actor : ℕ) (a b : Own) (n number object : ℕ) (to : Aim) (e : Refusal) → Carries actor number object to true a → is_write_fault e ≡ false
    → Step w actor a (event n (Commit asked.Placed (number ∷ []) (Err e))) b → Keeps actor number object to e b
commit-refused w actor a b n number object to e c mild s = record {
  fault = λ t. absurd (false≢true (sym mild ∙ t));
  either = elim s.has.tickets as (λ _. (b.tickets ≡ []) ⊎ ((is_full : Bool) × Carries actor number object to is_full b)) [
    | inl same ↦ inr (true, same-ticket actor number object to true a b c same)
    | inr spent ↦ inl (spent.1 ∙ without-it actor number object to true a c)
  ];
}

-- ---- the end of the ticket

pub committed-none : (w : History) (actor : ℕ) (a b : Own) (n number object : ℕ) (to : Aim) (is : ℕ) → Carries actor number object to true a
    → Step w actor a (event n (Commit asked.Placed (number ∷ []) (Ok is))) b
    → b.tickets ≡ []
committed-none w actor a b n number object to is c s = s.has.tickets ∙ without-it actor number object to true a c

pub dropped-none : (w : History) (actor : ℕ) (a b : Own) (n number object : ℕ) (to : Aim) (e : Refusal) → Keeps actor number object to e a
    → Step w actor a (event n (DropTicket number (Ok tt))) b → b.tickets ≡ []
dropped-none w actor a b n number object to e k s = elim k.either as (λ _. b.tickets ≡ []) [
  | inl none ↦ s.has.tickets ∙ ap (without actor (number ∷ [])) none
  | inr c ↦ s.has.tickets ∙ without-it actor number object to c.0 a c.1
]

ten-elsewhere : (e : Refusal) → number_of e ≡ 10 → is_elsewhere e ≡ true → ⊥
ten-elsewhere e h t =
    let one : list_any (λ n. n == 10) (20 ∷ 21 ∷ 24 ∷ 25 ∷ 31 ∷ 40 ∷ 41 ∷ 50 ∷ []) ≡ true = subst (λ (m : ℕ). list_any (λ n. n == m) (20 ∷ 21 ∷ 24 ∷ 25 ∷ 31 ∷ 40 ∷ 41 ∷ 50 ∷ []) ≡ true) h t in
    let never : false ≡ true = one in
    absurd cc

-- a ticket that isn't there any more, and wasn't to be dropped
pub undropped-none : (w : History) (actor : ℕ) (a b : Own) (n number object : ℕ) (to : Aim) (e other : Refusal) → Keeps actor number object to e a → number_of other ≡ 10
    → Step w actor a (event n (DropTicket number (Err other))) b → b.tickets ≡ []
unfolding Says
undropped-none w actor a b n number object to e other k ten s = elim k.either as (λ _. b.tickets ≡ []) [
  | inl none ↦ s.has.tickets ∙ none
  | inr c ↦ elim s.says as (λ _. b.tickets ≡ []) [
    | inl held ↦ (let none : foremost [] ≡ Some other = sym (ap (λ (o : Option Ticket). foremost (of_ticket (λ t. []) o)) (found actor number object to c.0 a c.1)) ∙ held in absurd cc)
    | inr away ↦ absurd (ten-elsewhere other ten away)
  ]
]

-- ---- steps that leave the tickets

pub open-refused : (w : History) (actor : ℕ) (a b : Own) (n object : ℕ) (to : Aim) (avoid : ℕ) (e : Refusal) → Step w actor a (event n (OpenCopy object to avoid (Err e))) b → b.tickets ≡ a.tickets
open-refused w actor a b n object to avoid e s = s.has.tickets

pub force-leaves : (w : History) (actor : ℕ) (a b : Own) (n : ℕ) (answer : Result ℕ Refusal) → Step w actor a (event n (Force answer)) b → b.tickets ≡ a.tickets
force-leaves w actor a b n answer s = s.has.tickets
