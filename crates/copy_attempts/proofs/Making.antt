-- The parts of an attempt, one after the other.
use Rattle.std.proofs.Common.{◌≡◌, inl, inr, ℕ, ◌+◌, ◌-◌, ◌<◌, ◌^◌, suc, false, List, [], ◌∷◌, ◌++◌, length, None, Some, Result, Ok, Err, refl, ap, subst, ◌∙◌, arith}
use Rattle.std.proofs.lemmas.List.{length-append}
use Rattle.std.specs.List.{AllByRecursion}
use Rattle.kinds.specs.declared.refusal.Holder.{Holder}
use Rattle.kinds.specs.declared.refusal.Holder.TheVariants as holder
use Rattle.kinds.specs.declared.refusal.Refusal.{Refusal}
use Rattle.kinds.specs.declared.refusal.Refusal.TheVariants as refused
use Rattle.space.specs.declared.aim.Aim.{Aim}
use Rattle.steps.specs.declared.asked.Asked.TheVariants as asked
use Rattle.steps.proofs.Joining.{GoesOn, does_made, makes_step, so_call, then_call, then_does}
use Rattle.steps.specs.Calls.{Call, Does, IsStep, Made, MakesStep, Then, Waits}
use Rattle.steps.specs.Events.{Event, event}
use Rattle.steps.specs.Events.Deed.{OpenCopy, CopyPiece, Seal, Commit, DropTicket, Force}
use Rattle.copy_attempts.specs.declared.outcome.Came.{Came}
use Rattle.copy_attempts.specs.Attempts.{Awaits, Copies, Ends, Fills, GivesUp, Goes, Held, IsPiece, Makes, Pieces, Spends, Tries, Waited, behind_drop, holder_in, is_spent_by, piece_count, stopping, unopened}

-- ---- pieces

all-behind : (P : Event → Type 0) (xs : List Event) (e : Event) → AllByRecursion P xs → P e → AllByRecursion P (xs ++ e ∷ [])
all-behind P [] e h last = (last, tt)
all-behind P (x ∷ xs) e h last = (h.0, all-behind P xs e h.1 last)

one-longer : (xs : List Event) (e : Event) (number : ℕ) → length xs ≡ number → length (xs ++ e ∷ []) ≡ number + 1
one-longer xs e number h = length-append xs (e ∷ []) ∙ ap (λ n. n + 1) h

pub pieces-more : {S : Type 0} (did : S → List Event → S → Type 0) → GoesOn did → (p q r : S) (ticket number done : ℕ)
    → Call did p q (λ events. Pieces ticket number events) → Does did q r (CopyPiece ticket (Ok done)) → Call did p r (λ events. Pieces ticket (number + 1) events)
pieces-more did goes p q r ticket number done a d =
    then_does did goes (λ events. Pieces ticket number events) (λ events. Pieces ticket (number + 1) events) p q r (CopyPiece ticket (Ok done)) a d
    (λ xs f n listed. record {
      only = all-behind (λ e. IsPiece ticket e.deed) xs (event n (CopyPiece ticket (Ok done))) f.only refl;
      count = one-longer xs (event n (CopyPiece ticket (Ok done))) number f.count;
    })
    (λ xs f m. absurd cc)

pub pieces-refused : {S : Type 0} (did : S → List Event → S → Type 0) → GoesOn did → (p q r : S) (ticket number count : ℕ) (e : Refusal)
    → Call did p q (λ events. Pieces ticket number events) → number < count → Does did q r (CopyPiece ticket (Err e)) → Call did p r (λ events. Copies ticket count events (Err e))
pieces-refused did goes p q r ticket number count e a less d =
    so_call did (λ events. Then (λ xs. Pieces ticket number xs) (λ ys. Made (CopyPiece ticket (Err e)) ys) events) (λ events. Copies ticket count events (Err e)) p r
    (then_call did goes (λ events. Pieces ticket number events) (λ events. Made (CopyPiece ticket (Err e)) events) p q r a (does_made did q r (CopyPiece ticket (Err e)) d))
    (λ xs f. (number, less, f))

-- ---- a ticket

pub fills-sealed : {S : Type 0} (did : S → List Event → S → Type 0) → GoesOn did → (p q r : S) (ticket size count : ℕ) (answer : Result (Unit {0}) Refusal) → count ≡ piece_count size
    → Call did p q (λ events. Copies ticket count events (Ok tt)) → Does did q r (Seal ticket answer) → Call did p r (λ events. Fills ticket size events answer)
fills-sealed did goes p q r ticket size count answer same a d =
    so_call did (λ events. Then (λ xs. Pieces ticket (piece_count size) xs) (λ ys. Made (Seal ticket answer) ys) events) (λ events. Fills ticket size events answer) p r
    (then_call did goes (λ events. Pieces ticket (piece_count size) events) (λ events. Made (Seal ticket answer) events) p q r
    (subst (λ (n : ℕ). Call did p q (λ events. Pieces ticket n events)) same a) (does_made did q r (Seal ticket answer) d))
    (λ xs f. inr f)

pub makes-placed : {S : Type 0} (did : S → List Event → S → Type 0) → GoesOn did → (p q r : S) (ticket size : ℕ) (answer : Result ℕ Refusal)
    → Call did p q (λ events. Fills ticket size events (Ok tt)) → Call did q r (λ events. Made (Commit asked.Placed (ticket ∷ []) answer) events)
    → Call did p r (λ events. Makes ticket size events answer)
makes-placed did goes p q r ticket size answer a b =
    so_call did (λ events. Then (λ xs. Fills ticket size xs (Ok tt)) (λ ys. Made (Commit asked.Placed (ticket ∷ []) answer) ys) events) (λ events. Makes ticket size events answer) p r
    (then_call did goes (λ events. Fills ticket size events (Ok tt)) (λ events. Made (Commit asked.Placed (ticket ∷ []) answer) events) p q r a b)
    (λ xs f. inr f)

pub gives-back : {S : Type 0} (did : S → List Event → S → Type 0) (p q : S) (ticket : ℕ) (e : Refusal) (result : Result Came Refusal) → is_spent_by e ≡ false
    → (answer : Result (Unit {0}) Refusal) × MakesStep did p q (DropTicket ticket answer) × (result ≡ behind_drop e answer) → Call did p q (λ events. GivesUp ticket e events result)
gives-back did p q ticket e result spent d =
    so_call did (λ events. IsStep (DropTicket ticket d.0) events) (λ events. GivesUp ticket e events result) p q (makes_step did p q (DropTicket ticket d.0) d.1)
    (λ xs f. inr (spent, d.0, f, d.2))

pub spends-given : {S : Type 0} (did : S → List Event → S → Type 0) → GoesOn did → (p q r : S) (ticket size : ℕ) (e : Refusal) (result : Result Came Refusal)
    → Call did p q (λ events. Makes ticket size events (Err e)) → Call did q r (λ events. GivesUp ticket e events result) → Call did p r (λ events. Spends ticket size events result)
spends-given did goes p q r ticket size e result a b =
    so_call did (λ events. Then (λ xs. Makes ticket size xs (Err e)) (λ ys. GivesUp ticket e ys result) events) (λ events. Spends ticket size events result) p r
    (then_call did goes (λ events. Makes ticket size events (Err e)) (λ events. GivesUp ticket e events result) p q r a b)
    (λ xs f. inr (e, f))

-- ---- tries

pub tries-refused : {S : Type 0} (did : S → List Event → S → Type 0) (p q : S) (object : ℕ) (aim : Aim) (avoid size : ℕ) (e : Refusal) (result : Result Came Refusal)
    → Does did p q (OpenCopy object aim avoid (Err e)) → result ≡ unopened e → Call did p q (λ events. Tries object aim avoid size events result)
tries-refused did p q object aim avoid size e result d same =
    so_call did (λ events. Made (OpenCopy object aim avoid (Err e)) events) (λ events. Tries object aim avoid size events result) p q (does_made did p q (OpenCopy object aim avoid (Err e)) d)
    (λ xs f. inl (e, f, same))

pub tries-opened : {S : Type 0} (did : S → List Event → S → Type 0) → GoesOn did → (p q r : S) (object : ℕ) (aim : Aim) (avoid size ticket : ℕ) (result : Result Came Refusal)
    → Does did p q (OpenCopy object aim avoid (Ok ticket)) → Call did q r (λ events. Spends ticket size events result) → Call did p r (λ events. Tries object aim avoid size events result)
tries-opened did goes p q r object aim avoid size ticket result d b =
    so_call did (λ events. Then (λ xs. Made (OpenCopy object aim avoid (Ok ticket)) xs) (λ ys. Spends ticket size ys result) events) (λ events. Tries object aim avoid size events result) p r
    (then_call did goes (λ events. Made (OpenCopy object aim avoid (Ok ticket)) events) (λ events. Spends ticket size events result) p q r
    (does_made did p q (OpenCopy object aim avoid (Ok ticket)) d) b)
    (λ xs f. inr (ticket, f))

awaited : {S : Type 0} (did : S → List Event → S → Type 0) (p q : S) (h : Holder) (answer : Result (Unit {0}) Refusal) → Waits did p q h answer → Call did p q (λ events. Awaits h events answer)
awaited did p q (holder.Unforced number) answer w =
    so_call did (λ events. Made (Force w.0) events) (λ events. Awaits (holder.Unforced number) events answer) p q (does_made did p q (Force w.0) w.2) (λ xs f. (w.0, w.1, f))
awaited did p q (holder.Ticket number) answer w = ([], w.0, (refl, w.1))
awaited did p q (holder.Image actor) answer w = ([], w.0, (refl, w.1))

held-call : {S : Type 0} (did : S → List Event → S → Type 0) → GoesOn did → (p q r : S) (object : ℕ) (aim : Aim) (avoid size : ℕ) (tried : Result Came Refusal) (h : Holder)
    (answer : Result (Unit {0}) Refusal) → holder_in tried ≡ Some h → Call did p q (λ events. Tries object aim avoid size events tried) → Waits did q r h answer
    → Call did p r (λ events. Held object aim avoid size events answer)
held-call did goes p q r object aim avoid size tried h answer is a w =
    so_call did (λ events. Then (λ xs. Tries object aim avoid size xs tried) (λ ys. Awaits h ys answer) events) (λ events. Held object aim avoid size events answer) p r
    (then_call did goes (λ events. Tries object aim avoid size events tried) (λ events. Awaits h events answer) p q r a (awaited did q r h answer w))
    (λ xs f. (tried, h, is, f))

one-more : (n : ℕ) → suc n ≡ n + 1
one-more n = omega arith

pub waits-more : {S : Type 0} (did : S → List Event → S → Type 0) → GoesOn did → (o p q r : S) (object : ℕ) (aim : Aim) (avoid size number : ℕ) (tried : Result Came Refusal) (h : Holder)
    → Call did o p (λ events. Waited object aim avoid size number events) → Call did p q (λ events. Tries object aim avoid size events tried) → holder_in tried ≡ Some h → Waits did q r h (Ok tt)
    → Call did o r (λ events. Waited object aim avoid size (number + 1) events)
waits-more did goes o p q r object aim avoid size number tried h a b is w =
    subst (λ (n : ℕ). Call did o r (λ events. Waited object aim avoid size n events)) (one-more number)
    (so_call did (λ events. Then (λ xs. Waited object aim avoid size number xs) (λ ys. Held object aim avoid size ys (Ok tt)) events) (λ events. Waited object aim avoid size (suc number) events) o r
    (then_call did goes (λ events. Waited object aim avoid size number events) (λ events. Held object aim avoid size events (Ok tt)) o p r a
    (held-call did goes p q r object aim avoid size tried h (Ok tt) is b w))
    (λ xs f. f))

-- the last try behind those that waited
goes-on : {S : Type 0} (did : S → List Event → S → Type 0) → GoesOn did → (o p q : S) (object : ℕ) (aim : Aim) (avoid size number : ℕ) (result : Result Came Refusal)
    → Call did o p (λ events. Waited object aim avoid size number events) → Call did p q (λ events. Ends object aim avoid size number events result)
    → Call did o q (λ events. Goes object aim avoid size events result)
goes-on did goes o p q object aim avoid size number result a b =
    so_call did (λ events. Then (λ xs. Waited object aim avoid size number xs) (λ ys. Ends object aim avoid size number ys result) events) (λ events. Goes object aim avoid size events result) o q
    (then_call did goes (λ events. Waited object aim avoid size number events) (λ events. Ends object aim avoid size number events result) o p q a b)
    (λ xs f. (number, f))

pub goes-came : {S : Type 0} (did : S → List Event → S → Type 0) → GoesOn did → (o p q : S) (object : ℕ) (aim : Aim) (avoid size number : ℕ) (result : Result Came Refusal)
    → Call did o p (λ events. Waited object aim avoid size number events) → Call did p q (λ events. Tries object aim avoid size events result) → holder_in result ≡ None
    → Call did o q (λ events. Goes object aim avoid size events result)
goes-came did goes o p q object aim avoid size number result a b none =
    goes-on did goes o p q object aim avoid size number result a
    (so_call did (λ events. Tries object aim avoid size events result) (λ events. Ends object aim avoid size number events result) p q b (λ xs f. inl (none, f)))

pub goes-stopped : {S : Type 0} (did : S → List Event → S → Type 0) → GoesOn did
    → (o p q r : S) (object : ℕ) (aim : Aim) (avoid size number : ℕ) (tried : Result Came Refusal) (h : Holder) (e other : Refusal)
    → Call did o p (λ events. Waited object aim avoid size number events) → Call did p q (λ events. Tries object aim avoid size events tried)
    → holder_in tried ≡ Some h → Waits did q r h (Err e) → other ≡ stopping e
    → Call did o r (λ events. Goes object aim avoid size events (Err other))
goes-stopped did goes o p q r object aim avoid size number tried h e other a b is w same =
    goes-on did goes o p r object aim avoid size number (Err other) a
    (so_call did (λ events. Held object aim avoid size events (Err e)) (λ events. Ends object aim avoid size number events (Err other)) p r
    (held-call did goes p q r object aim avoid size tried h (Err e) is b w) (λ xs f. inr (inl (e, f, ap Err same))))

pub goes-used : {S : Type 0} (did : S → List Event → S → Type 0) → GoesOn did → (o p : S) (object : ℕ) (aim : Aim) (avoid size number : ℕ) → did p [] p → number ≡ 2 ^ 64 - 1
    → Call did o p (λ events. Waited object aim avoid size number events) → Call did o p (λ events. Goes object aim avoid size events (Err refused.Memory))
goes-used did goes o p object aim avoid size number stays all a =
    goes-on did goes o p p object aim avoid size number (Err refused.Memory) a ([], stays, inr (inr (all, refl, refl)))
