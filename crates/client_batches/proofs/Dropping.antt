-- Tickets are given back, one after the other.
use Rattle.std.proofs.Common.{◌≡◌, ℕ, zero, suc, ◌+◌, ◌<◌, List, [], ◌∷◌, ◌++◌, length, take, drop, get_or, None, Some, Result, refl, sym, ap, subst, ◌∙◌, append-nil, append_assoc, arith}
use Rattle.std.proofs.lemmas.List.{take-append-drop, take_more}
use Rattle.kinds.specs.declared.refusal.Refusal.{Refusal}
use Rattle.steps.proofs.Joining.{GoesOn, then_makes}
use Rattle.steps.specs.Calls.{Call, IsStep, MakesStep}
use Rattle.steps.specs.Events.{Event, event}
use Rattle.steps.specs.Events.Deed.{DropTicket}
use Rattle.client_batches.specs.Tickets.{DropsAll, DropsEach, lasting_in}

-- one more
drops_more : (front : List ℕ) (ticket : ℕ) (answer : Result (Unit {0}) Refusal) (xs ys : List Event) → DropsAll front xs → lasting_in answer ≡ None → IsStep (DropTicket ticket answer) ys
    → DropsAll (front ++ ticket ∷ []) (xs ++ ys)
drops_more [] ticket answer xs ys none lasts is = subst (λ (zs : List Event). DropsAll (ticket ∷ []) (zs ++ ys)) (sym none) (answer, lasts, (ys, [], sym (append-nil ys), is, refl))
drops_more (t ∷ front) ticket answer xs ys h lasts is =
    (h.0, h.1, (h.2.0, h.2.1 ++ ys, ap (λ (zs : List Event). zs ++ ys) h.2.2 ∙ append_assoc h.2.0 h.2.1 ys, h.2.3, drops_more front ticket answer h.2.1 ys h.2.4 lasts is))

-- those up to a place, and the one that stands there
pub taken_with : {A : Type 0} (xs : List A) (place : ℕ) (x : A) → place < length xs → x ≡ get_or xs place x → take (place + 1) xs ≡ take place xs ++ x ∷ []
taken_with {A} xs place x l is = take_more xs place x l ∙ ap (λ (y : A). take place xs ++ y ∷ []) (sym is)

-- and those behind it
pub parted_at : {A : Type 0} (xs : List A) (place : ℕ) (x : A) → place < length xs → x ≡ get_or xs place x → xs ≡ take place xs ++ x ∷ drop (place + 1) xs
parted_at {A} xs place x l is =
    sym (take-append-drop (place + 1) xs) ∙ ap (λ (ys : List A). ys ++ drop (place + 1) xs) (taken_with xs place x l is) ∙ append_assoc (take place xs) (x ∷ []) (drop (place + 1) xs)

-- what stands at a place, whatever stands for nothing there
pub same_at : {L : Type 0} (lines : List L) (place : ℕ) (x : L) → place < length lines → get_or lines place x ≡ get_or lines place (get_or lines place x)
same_at [] place x l = absurd (omega (arith, l))
same_at (y ∷ lines) zero x l = refl
same_at (y ∷ lines) (suc place) x l = same_at lines place x (omega (arith, l))

pub drops-next : {S : Type 0} (did : S → List Event → S → Type 0) → GoesOn did → (p q r : S) (tickets : List ℕ) (place ticket : ℕ) (answer : Result (Unit {0}) Refusal)
    → place < length tickets → ticket ≡ get_or tickets place ticket → Call did p q (λ events. DropsAll (take place tickets) events) → MakesStep did q r (DropTicket ticket answer)
    → lasting_in answer ≡ None → Call did p r (λ events. DropsAll (take (place + 1) tickets) events)
drops-next did goes p q r tickets place ticket answer within is a d lasts =
    then_makes did goes (λ events. DropsAll (take place tickets) events) (λ events. DropsAll (take (place + 1) tickets) events) p q r (DropTicket ticket answer) a d
    (λ xs f n listed. subst (λ (ts : List ℕ). DropsAll ts (xs ++ event n (DropTicket ticket answer) ∷ [])) (sym (taken_with tickets place ticket within is))
    (drops_more (take place tickets) ticket answer xs (event n (DropTicket ticket answer) ∷ []) f lasts (n, refl, listed)))

pub drops-ended : {S : Type 0} (did : S → List Event → S → Type 0) → GoesOn did → (p q r : S) (tickets : List ℕ) (place ticket : ℕ) (answer : Result (Unit {0}) Refusal) (e : Refusal)
    → place < length tickets → ticket ≡ get_or tickets place ticket → Call did p q (λ events. DropsAll (take place tickets) events) → MakesStep did q r (DropTicket ticket answer)
    → lasting_in answer ≡ Some e → Call did p r (λ events. DropsEach tickets events (Some e))
drops-ended did goes p q r tickets place ticket answer e within is a d lasts =
    then_makes did goes (λ events. DropsAll (take place tickets) events) (λ events. DropsEach tickets events (Some e)) p q r (DropTicket ticket answer) a d
    (λ xs f n listed. (take place tickets, ticket, drop (place + 1) tickets, parted_at tickets place ticket within is, answer, lasts, (xs, event n (DropTicket ticket answer) ∷ [], refl, f, (n, refl, listed))))
