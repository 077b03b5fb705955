-- Queries that are asked one after the other.
use Rattle.std.proofs.Common.{◌≡◌, inl, inr, ℕ, ◌+◌, ◌<◌, List, [], ◌∷◌, ◌++◌, length, take, drop, get_or, Ok, Err, refl, sym, ap, subst, ◌∙◌, append-nil, append_assoc}
use Rattle.std.proofs.lemmas.List.{take-append-drop, take_more}
use Rattle.kinds.specs.declared.refusal.Refusal.{Refusal}
use Rattle.kinds.specs.declared.refusal.Refusal.TheVariants.{Memory}
use Rattle.inventory_answers.specs.declared.query.Query.{Query}
use Rattle.inventory_answers.specs.declared.reply.Answer.{Answer}
use Rattle.steps.proofs.Joining.{GoesOn, call_then, does_made, makes_step, so_call, then_call}
use Rattle.steps.specs.Calls.{Call, Does, IsStep, Made, Then}
use Rattle.steps.specs.Events.{Event}
use Rattle.steps.specs.Events.Deed.{Ask}
use Rattle.command_steps.specs.Doing.{Asked, AsksAll}

-- a query that was answered was asked by a step
stepped : {S : Type 0} (did : S → List Event → S → Type 0) (p q : S) (query : Query) (answer : Answer) → Does did p q (Ask query (Ok answer)) → Call did p q (λ events. IsStep (Ask query (Ok answer)) events)
stepped did p q query answer (inl d) = makes_step did p q (Ask query (Ok answer)) d
stepped did p q query answer (inr d) = absurd cc

-- one query more
asked-more : (front : List Query) (answers : List Answer) (query : Query) (answer : Answer) (xs ys : List Event) → Asked front answers xs → IsStep (Ask query (Ok answer)) ys
    → Asked (front ++ (query ∷ [])) (answers ++ (answer ∷ [])) (xs ++ ys)
asked-more [] [] query answer xs ys h step = (ys, [], ap (λ (zs : List Event). zs ++ ys) h ∙ sym (append-nil ys), step, refl)
asked-more (f ∷ front) (a ∷ answers) query answer xs ys h step = (h.0, h.1 ++ ys, ap (λ (zs : List Event). zs ++ ys) h.2 ∙ append_assoc h.0 h.1 ys, h.3, asked-more front answers query answer h.1 ys h.4 step)
asked-more [] (a ∷ answers) query answer xs ys h step = absurd h
asked-more (f ∷ front) [] query answer xs ys h step = absurd h

taken-more : (queries : List Query) (place : ℕ) (x : Query) → place < length queries → x ≡ get_or queries place x → take (place + 1) queries ≡ take place queries ++ (x ∷ [])
taken-more queries place x within is = take_more queries place x within ∙ ap (λ (y : Query). take place queries ++ (y ∷ [])) (sym is)

parted : (queries : List Query) (place : ℕ) (x : Query) → place < length queries → x ≡ get_or queries place x → queries ≡ take place queries ++ (x ∷ drop (place + 1) queries)
parted queries place x within is =
    sym (take-append-drop (place + 1) queries) ∙ ap (λ (qs : List Query). qs ++ drop (place + 1) queries) (taken-more queries place x within is)
    ∙ append_assoc (take place queries) (x ∷ []) (drop (place + 1) queries)

-- ---- the calls

pub looked-next : {S : Type 0} (did : S → List Event → S → Type 0) → GoesOn did → (o p q : S) (queries : List Query) (place : ℕ) (x : Query) (answers : List Answer) (answer : Answer) → place < length queries
    → x ≡ get_or queries place x → Call did o p (λ events. Asked (take place queries) answers events) → Does did p q (Ask x (Ok answer))
    → Call did o q (λ events. Asked (take (place + 1) queries) (answers ++ (answer ∷ [])) events)
looked-next did goes o p q queries place x answers answer within is a d =
    call_then did goes (λ events. Asked (take place queries) answers events) (λ events. IsStep (Ask x (Ok answer)) events) (λ events. Asked (take (place + 1) queries) (answers ++ (answer ∷ [])) events) o p q a
    (stepped did p q x answer d)
    (λ xs ys f h. subst (λ (qs : List Query). Asked qs (answers ++ (answer ∷ [])) (xs ++ ys)) (sym (taken-more queries place x within is)) (asked-more (take place queries) answers x answer xs ys f h))

-- the next one was refused
pub looked-stopped : {S : Type 0} (did : S → List Event → S → Type 0) → GoesOn did → (o p q : S) (queries : List Query) (place : ℕ) (x : Query) (answers : List Answer) (e : Refusal) → place < length queries
    → x ≡ get_or queries place x → Call did o p (λ events. Asked (take place queries) answers events) → Does did p q (Ask x (Err e)) → Call did o q (λ events. AsksAll queries events (Err e))
looked-stopped did goes o p q queries place x answers e within is a d =
    so_call did (λ events. Then (λ xs. Asked (take place queries) answers xs) (λ ys. Made (Ask x (Err e)) ys) events) (λ events. AsksAll queries events (Err e)) o q
    (then_call did goes (λ events. Asked (take place queries) answers events) (λ events. Made (Ask x (Err e)) events) o p q a (does_made did p q (Ask x (Err e)) d))
    (λ xs f. (take place queries, answers, inl (x, drop (place + 1) queries, parted queries place x within is, f)))

-- memory was wanted for its answer
pub looked-wanting : {S : Type 0} (did : S → List Event → S → Type 0) → GoesOn did → (o p q : S) (queries : List Query) (place : ℕ) (x : Query) (answers : List Answer) (answer : Answer) → place < length queries
    → x ≡ get_or queries place x → Call did o p (λ events. Asked (take place queries) answers events) → Does did p q (Ask x (Ok answer)) → Call did o q (λ events. AsksAll queries events (Err Memory))
looked-wanting did goes o p q queries place x answers answer within is a d =
    so_call did (λ events. Asked (take (place + 1) queries) (answers ++ (answer ∷ [])) events) (λ events. AsksAll queries events (Err Memory)) o q
    (looked-next did goes o p q queries place x answers answer within is a d)
    (λ xs f. (take (place + 1) queries, answers ++ (answer ∷ []), inr (drop (place + 1) queries, sym (take-append-drop (place + 1) queries), f, refl)))
