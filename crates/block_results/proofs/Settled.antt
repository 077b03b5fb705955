-- Steps of an actor that had no ticket, and whose tickets are all spent, leave none.
use Rattle.std.proofs.Common.{◌≡◌, ◌⊎◌, inl, inr, ℕ, ◌==◌, ◌&&◌, ◌||◌, Bool, true, false, not, if◌then◌else◌, List, [], ◌∷◌, ◌++◌, map, Option, None, Some, Ok, Err, refl, sym, ap, subst, ◌∙◌}
use Rattle.std.proofs.lemmas.Bool.{eq-eqb, eqb-true}
use Rattle.std.specs.List.{AllByRecursion, list_any}
use Rattle.kinds.specs.Refusals.{foremost, number_of}
use Rattle.kinds.specs.declared.refusal.Refusal.{Refusal}
use Rattle.kinds.specs.declared.refusal.Refusal.TheVariants as refused
use Rattle.machine.specs.Causes.{of_ticket}
use Rattle.machine.specs.Fits.{Fits, History, Own as Holding, Step, TicketsDoubt, is_write_fault}
use Rattle.machine.specs.Says.{Says, is_elsewhere}
use Rattle.machine.specs.State.{Ticket, is_among, is_ticket, sealed, sealing, taking, ticket, took, without}
use Rattle.steps.specs.Events.{Deed, Event, event}
use Rattle.steps.specs.Events.Deed.{OpenNew, OpenCopy, WritePiece, CopyPiece, Seal, Commit, DropTicket, ReadPiece, Ask, Image, Reuse, Force}
use Rattle.steps.specs.Spent.{AreSettled, IsSettled, is_spent}

-- ---- truth values

either-not : (x s : Bool) → not x ≡ true → (x || s) ≡ true → s ≡ true
either-not true s h k = absurd cc
either-not false s h k = k

either-so : (x y s : Bool) → not (x || false) ≡ true → ((x && y) || s) ≡ true → s ≡ true
either-so true y s h k = absurd cc
either-so false y s h k = k

either-one : (x s : Bool) → not (x || false) ≡ true → (x || s) ≡ true → s ≡ true
either-one true s h k = absurd cc
either-one false s h k = k

either-never : (x y s : Bool) → y ≡ false → ((x && y) || s) ≡ true → s ≡ true
either-never true true s h k = absurd cc
either-never true false s h k = k
either-never false y s h k = k

either-other : (x y s : Bool) → x ≡ false → ((x && y) || s) ≡ true → s ≡ true
either-other true y s h k = absurd cc
either-other false y s h k = k

-- ---- lists of tickets

each-so : (P Q : Ticket → Type 0) → ((t : Ticket) → P t → Q t) → (ts : List Ticket) → AllByRecursion P ts → AllByRecursion Q ts
each-so P Q so [] h = tt
each-so P Q so (t ∷ ts) h = (so t h.0, each-so P Q so ts h.1)

each-both : (P R Q : Ticket → Type 0) → ((t : Ticket) → P t → R t → Q t) → (ts : List Ticket) → AllByRecursion P ts → AllByRecursion R ts → AllByRecursion Q ts
each-both P R Q so [] h k = tt
each-both P R Q so (t ∷ ts) h k = (so t h.0 k.0, each-both P R Q so ts h.1 k.1)

each-map : (f : Ticket → Ticket) (P Q : Ticket → Type 0) → ((t : Ticket) → P t → Q (f t)) → (ts : List Ticket) → AllByRecursion P ts → AllByRecursion Q (map f ts)
each-map f P Q so [] h = tt
each-map f P Q so (t ∷ ts) h = (so t h.0, each-map f P Q so ts h.1)

each-push : (P : Ticket → Type 0) (ts : List Ticket) (x : Ticket) → AllByRecursion P ts → P x → AllByRecursion P (ts ++ (x ∷ []))
each-push P [] x h k = (k, tt)
each-push P (t ∷ ts) x h k = (h.0, each-push P ts x h.1 k)

module _ (actor : ℕ) where
  each-without : (numbers : List ℕ) (P Q : Ticket → Type 0) → ((t : Ticket) → P t → not (is_among actor numbers t) ≡ true → Q t) → (ts : List Ticket) → AllByRecursion P ts → AllByRecursion Q (without actor numbers ts)
  each-without numbers P Q so [] h = tt
  each-without numbers P Q so (t ∷ ts) h =
      elim (not (is_among actor numbers t)) as (λ b. not (is_among actor numbers t) ≡ b → AllByRecursion Q (if b then t ∷ without actor numbers ts else without actor numbers ts)) [
        | true ↦ λ is. (so t h.0 is, each-without numbers P Q so ts h.1)
        | false ↦ λ is. each-without numbers P Q so ts h.1
      ] refl

  -- ---- tickets that are due

  -- the ticket is the actor's, and one of these steps spends it
  abbrev IsDue : List Event → Ticket → Type 0
  IsDue later t = (t.actor ≡ actor) × (is_spent t.number later ≡ true)

  abbrev AreDue : List Event → List Ticket → Type 0
  AreDue later ts = AllByRecursion (IsDue later) ts

  -- its own ticket isn't among these
  not-among : (numbers : List ℕ) (t : Ticket) → t.actor ≡ actor → not (is_among actor numbers t) ≡ true → not (list_any (λ n. n == t.number) numbers) ≡ true
  not-among numbers t mine is = subst (λ (z : Bool). not (z && list_any (λ n. n == t.number) numbers) ≡ true) (eq-eqb t.actor actor mine) is

  took-due : (number : ℕ) (bytes : List ℕ) (later : List Event) (t : Ticket) → IsDue later t → IsDue later (if is_ticket actor number t then took bytes t else t)
  took-due number bytes later t h = elim (is_ticket actor number t) as (λ b. IsDue later (if b then took bytes t else t)) [
    | true ↦ h
    | false ↦ h
  ]

  sealed-due : (number : ℕ) (later : List Event) (t : Ticket) → IsDue later t → IsDue later (if is_ticket actor number t then sealed t else t)
  sealed-due number later t h = elim (is_ticket actor number t) as (λ b. IsDue later (if b then sealed t else t)) [
    | true ↦ h
    | false ↦ h
  ]

  taking-due : (number : ℕ) (bytes : List ℕ) (later : List Event) (ts : List Ticket) → AreDue later ts → AreDue later (taking actor number bytes ts)
  taking-due number bytes later ts h = each-map (λ t. if is_ticket actor number t then took bytes t else t) (IsDue later) (IsDue later) (took-due number bytes later) ts h

  sealing-due : (number : ℕ) (later : List Event) (ts : List Ticket) → AreDue later ts → AreDue later (sealing actor number ts)
  sealing-due number later ts h = each-map (λ t. if is_ticket actor number t then sealed t else t) (IsDue later) (IsDue later) (sealed-due number later) ts h

  -- a ticket to which writing failed goes
  abbrev IsDueOr : (number : ℕ) → Bool → List Event → Ticket → Type 0
  IsDueOr number spent later t = (t.actor ≡ actor) × (((number == t.number && spent) || is_spent t.number later) ≡ true)

  refused-due : (number : ℕ) (later : List Event) (ts : List Ticket) (spent : Bool) → AllByRecursion (IsDueOr number spent later) ts → AreDue later (if spent then without actor (number ∷ []) ts else ts)
  refused-due number later ts true h =
      each-without (number ∷ []) (IsDueOr number true later) (IsDue later) (λ t d is. (d.0, either-so (number == t.number) true (is_spent t.number later) (not-among (number ∷ []) t d.0 is) d.1)) ts h
  refused-due number later ts false h = each-so (IsDueOr number false later) (IsDue later) (λ t d. (d.0, either-never (number == t.number) false (is_spent t.number later) refl d.1)) ts h

  -- ---- a ticket that isn't there

  none-found : (number : ℕ) (ts : List Ticket) → ticket number ts ≡ None → AllByRecursion (λ t. (t.number == number) ≡ false) ts
  none-found number [] h = tt
  none-found number (t ∷ ts) h =
      elim (t.number == number) as (λ b. (t.number == number) ≡ b → (if b then Some t else ticket number ts) ≡ None → ((t.number == number) ≡ false) × AllByRecursion (λ x. (x.number == number) ≡ false) ts) [
        | true ↦ λ is found. absurd cc
        | false ↦ λ is found. (is, none-found number ts found)
      ] refl h

  other-way : (x y : ℕ) (b : Bool) → (x == y) ≡ false → (y == x) ≡ b → (y == x) ≡ false
  other-way x y true h k = (let one : (x == y) ≡ true = eq-eqb x y (sym (eqb-true y x k)) in let odd : false ≡ true = sym h ∙ one in absurd cc)
  other-way x y false h k = k

  not-ten : (e : Refusal) → is_elsewhere e ≡ true → (number_of e == 10) ≡ false
  not-ten refused.NotFound h = absurd cc
  not-ten e h = refl

  no-such : (number : ℕ) (e : Refusal) (found : Option Ticket) → foremost (of_ticket (λ t. []) found) ≡ Some e → found ≡ None
  no-such number e None h = refl
  no-such number e (Some t) h = absurd cc

  undropped-due : (number : ℕ) (e : Refusal) (later : List Event) (ts : List Ticket) → (foremost (of_ticket (λ t. []) (ticket number ts)) ≡ Some e) ⊎ (is_elsewhere e ≡ true)
      → AllByRecursion (IsDueOr number (number_of e == 10) later) ts → AreDue later ts
  undropped-due number e later ts (inl held) h =
      each-both (IsDueOr number (number_of e == 10) later) (λ t. (t.number == number) ≡ false) (IsDue later)
      (λ t d other. (d.0, either-other (number == t.number) (number_of e == 10) (is_spent t.number later) (other-way t.number number (number == t.number) other refl) d.1)) ts h
      (none-found number ts (no-such number e (ticket number ts) held))
  undropped-due number e later ts (inr is) h =
      each-so (IsDueOr number (number_of e == 10) later) (IsDue later) (λ t d. (d.0, either-never (number == t.number) (number_of e == 10) (is_spent t.number later) (not-ten e is) d.1)) ts h

  -- ---- one step

  module _ (w : History) where
    due-as : (later : List Event) (old new : List Ticket) → new ≡ old → AreDue later old → AreDue later new
    due-as later old new is h = subst (λ (ts : List Ticket). AreDue later ts) (sym is) h

    doubt-due : (numbers : List ℕ) (e : Refusal) (later : List Event) (old new : List Ticket) → TicketsDoubt actor numbers e old new → AreDue later old → AreDue later new
    doubt-due numbers e later old new (inl is) h = due-as later old new is h
    doubt-due numbers e later old new (inr (fault, is)) h = due-as later (without actor numbers old) new is (each-without numbers (IsDue later) (IsDue later) (λ t d other. d) old h)

    due-step : (a b : Holding) (n : ℕ) (d : Deed) (later : List Event) → AreDue (event n d ∷ later) a.tickets → IsSettled d later → Step w actor a (event n d) b → AreDue later b.tickets
    unfolding Says
    due-step a b n (OpenNew pool size prefer (Ok number)) later h settled s =
        due-as later _ b.tickets s.has.tickets.3 (each-push (IsDue later) a.tickets _ h (refl, settled))
    due-step a b n (OpenNew pool size prefer (Err e)) later h settled s = due-as later a.tickets b.tickets s.has.tickets h
    due-step a b n (OpenCopy object aim avoid (Ok number)) later h settled s =
        due-as later _ b.tickets s.has.tickets.3 (each-push (IsDue later) a.tickets _ h (refl, settled))
    due-step a b n (OpenCopy object aim avoid (Err e)) later h settled s = due-as later a.tickets b.tickets s.has.tickets h
    due-step a b n (WritePiece number bytes (Ok count)) later h settled s = due-as later (taking actor number bytes a.tickets) b.tickets s.has.tickets (taking-due number bytes later a.tickets h)
    due-step a b n (WritePiece number bytes (Err e)) later h settled s =
        due-as later (if is_write_fault e then without actor (number ∷ []) a.tickets else a.tickets) b.tickets s.has.tickets (refused-due number later a.tickets (number_of e == 25) h)
    due-step a b n (CopyPiece number (Ok count)) later h settled s =
        due-as later (taking actor number _ a.tickets) b.tickets s.has.tickets.2 (taking-due number _ later a.tickets h)
    due-step a b n (CopyPiece number (Err e)) later h settled s =
        due-as later (if is_write_fault e then without actor (number ∷ []) a.tickets else a.tickets) b.tickets s.has.tickets (refused-due number later a.tickets (number_of e == 25) h)
    due-step a b n (Seal number (Ok done)) later h settled s = due-as later (sealing actor number a.tickets) b.tickets s.has.tickets (sealing-due number later a.tickets h)
    due-step a b n (Seal number (Err e)) later h settled s =
        due-as later (if is_write_fault e then without actor (number ∷ []) a.tickets else a.tickets) b.tickets s.has.tickets (refused-due number later a.tickets (number_of e == 25) h)
    due-step a b n (Commit asked numbers (Ok number)) later h settled s =
        due-as later (without actor numbers a.tickets) b.tickets s.has.tickets
        (each-without numbers (IsDue (event n (Commit asked numbers (Ok number)) ∷ later)) (IsDue later)
        (λ t d other. (d.0, either-not (list_any (λ x. x == t.number) numbers) (is_spent t.number later) (not-among numbers t d.0 other) d.1)) a.tickets h)
    due-step a b n (Commit asked numbers (Err e)) later h settled s = doubt-due numbers e later a.tickets b.tickets s.has.tickets h
    due-step a b n (DropTicket number (Ok done)) later h settled s =
        due-as later (without actor (number ∷ []) a.tickets) b.tickets s.has.tickets
        (each-without (number ∷ []) (IsDue (event n (DropTicket number (Ok done)) ∷ later)) (IsDue later)
        (λ t d other. (d.0, either-one (number == t.number) (is_spent t.number later) (not-among (number ∷ []) t d.0 other) d.1)) a.tickets h)
    due-step a b n (DropTicket number (Err e)) later h settled s = due-as later a.tickets b.tickets s.has.tickets (undropped-due number e later a.tickets s.says h)
    due-step a b n (ReadPiece object kept from offset wanted answer) later h settled s = due-as later a.tickets b.tickets s.has.tickets h
    due-step a b n (Ask query answer) later h settled s = due-as later a.tickets b.tickets s.has.tickets h
    due-step a b n (Image kind answer) later h settled s = due-as later a.tickets b.tickets s.has.tickets h
    due-step a b n (Reuse file answer) later h settled s = due-as later a.tickets b.tickets s.has.tickets h
    due-step a b n (Force answer) later h settled s = due-as later a.tickets b.tickets s.has.tickets h

    none-due : (ts : List Ticket) → AreDue [] ts → ts ≡ []
    none-due [] h = refl
    none-due (t ∷ ts) h = (let odd : false ≡ true = h.0.1 in absurd cc)

    due-walk : (events : List Event) (a b : Holding) → AreDue events a.tickets → AreSettled events → Fits w actor a events b → b.tickets ≡ []
    unfolding Fits
    due-walk [] a b h settled f = ap (λ (o : Holding). o.tickets) f ∙ none-due a.tickets h
    due-walk (e ∷ events) a b h settled f = due-walk events f.0 b (due-step a f.0 e.n e.deed events h settled.0 f.1) settled.1 f.2

    pub settled-none : (events : List Event) (a b : Holding) → a.tickets ≡ [] → AreSettled events → Fits w actor a events b → b.tickets ≡ []
    settled-none events a b none settled f = due-walk events a b (subst (λ (ts : List Ticket). AreDue events ts) (sym none) tt) settled f
