-- Tries, one after the other.
use Rattle.std.proofs.Common.{◌≡◌, inl, inr, ℕ, ◌+◌, ◌-◌, ◌^◌, suc, List, [], None, Some, Result, Ok, Err, refl, ap, subst, arith}
use Rattle.kinds.specs.declared.refusal.Holder.{Holder}
use Rattle.kinds.specs.declared.refusal.Holder.TheVariants as holder
use Rattle.kinds.specs.declared.refusal.Refusal.{Refusal}
use Rattle.kinds.specs.declared.refusal.Refusal.TheVariants as refused
use Rattle.copy_attempts.specs.Attempts.{Awaits}
use Rattle.steps.proofs.Joining.{GoesOn, does_made, so_call, then_call}
use Rattle.steps.specs.Calls.{Call, Made, Then, Waits}
use Rattle.steps.specs.Events.{Event}
use Rattle.steps.specs.Events.Deed.{Force}
use Rattle.sessions.specs.Waiting.{Ends, Held, Obtains, Waited, holder_in}

awaited : {S : Type 0} (did : S → List Event → S → Type 0) (p q : S) (h : Holder) (answer : Result (Unit {0}) Refusal) → Waits did p q h answer → Call did p q (λ events. Awaits h events answer)
awaited did p q (holder.Unforced number) answer w =
    so_call did (λ events. Made (Force w.0) events) (λ events. Awaits (holder.Unforced number) events answer) p q (does_made did p q (Force w.0) w.2) (λ xs f. (w.0, w.1, f))
awaited did p q (holder.Ticket number) answer w = ([], w.0, (refl, w.1))
awaited did p q (holder.Image actor) answer w = ([], w.0, (refl, w.1))

-- an answer by which one waits says who holds it
pub held-by : {A : Type 0} (answer : Result A Refusal) (h : Holder) → holder_in answer ≡ Some h → answer ≡ Err (refused.Busy h)
held-by (Ok x) h is = absurd cc
held-by (Err (refused.Busy other)) h is = (let same : other ≡ h = cc in ap (λ (it : Holder). Err (refused.Busy it)) same)
held-by (Err e) h is = absurd cc

held-call : {S A : Type 0} (did : S → List Event → S → Type 0) → GoesOn did → (Tries : Result A Refusal → List Event → Type 0) (p q r : S) (tried : Result A Refusal) (h : Holder)
    (answer : Result (Unit {0}) Refusal) → holder_in tried ≡ Some h → Call did p q (Tries tried) → Waits did q r h answer
    → Call did p r (λ events. Held Tries events answer)
held-call did goes Tries p q r tried h answer is a w =
    so_call did (λ events. Then (Tries (Err (refused.Busy h))) (λ ys. Awaits h ys answer) events) (λ events. Held Tries events answer) p r
    (then_call did goes (Tries (Err (refused.Busy h))) (λ events. Awaits h events answer) p q r (subst (λ it. Call did p q (Tries it)) (held-by tried h is) a) (awaited did q r h answer w))
    (λ xs f. (h, f))

one-more : (n : ℕ) → suc n ≡ n + 1
one-more n = omega arith

pub waits-more : {S A : Type 0} (did : S → List Event → S → Type 0) → GoesOn did → (Tries : Result A Refusal → List Event → Type 0) (o p q r : S) (number : ℕ) (tried : Result A Refusal) (h : Holder)
    → Call did o p (Waited Tries number) → Call did p q (Tries tried) → holder_in tried ≡ Some h → Waits did q r h (Ok tt)
    → Call did o r (Waited Tries (number + 1))
waits-more did goes Tries o p q r number tried h a b is w =
    subst (λ (n : ℕ). Call did o r (Waited Tries n)) (one-more number)
    (then_call did goes (Waited Tries number) (λ events. Held Tries events (Ok tt)) o p r a (held-call did goes Tries p q r tried h (Ok tt) is b w))

-- the last try behind those that waited
obtains : {S A : Type 0} (did : S → List Event → S → Type 0) → GoesOn did → (Tries : Result A Refusal → List Event → Type 0) (o p q : S) (number : ℕ) (result : Result A Refusal)
    → Call did o p (Waited Tries number) → Call did p q (λ events. Ends Tries number events result)
    → Call did o q (λ events. Obtains Tries events result)
obtains did goes Tries o p q number result a b =
    so_call did (λ events. Then (Waited Tries number) (λ ys. Ends Tries number ys result) events) (λ events. Obtains Tries events result) o q
    (then_call did goes (Waited Tries number) (λ events. Ends Tries number events result) o p q a b)
    (λ xs f. (number, f))

pub obtains-came : {S A : Type 0} (did : S → List Event → S → Type 0) → GoesOn did → (Tries : Result A Refusal → List Event → Type 0) (o p q : S) (number : ℕ) (result : Result A Refusal)
    → Call did o p (Waited Tries number) → Call did p q (Tries result) → holder_in result ≡ None
    → Call did o q (λ events. Obtains Tries events result)
obtains-came did goes Tries o p q number result a b none =
    obtains did goes Tries o p q number result a (so_call did (Tries result) (λ events. Ends Tries number events result) p q b (λ xs f. inl (none, f)))

pub obtains-stopped : {S A : Type 0} (did : S → List Event → S → Type 0) → GoesOn did → (Tries : Result A Refusal → List Event → Type 0) (o p q r : S) (number : ℕ) (tried : Result A Refusal) (h : Holder) (e : Refusal)
    → Call did o p (Waited Tries number) → Call did p q (Tries tried) → holder_in tried ≡ Some h → Waits did q r h (Err e)
    → Call did o r (λ events. Obtains Tries events (Err e))
obtains-stopped did goes Tries o p q r number tried h e a b is w =
    obtains did goes Tries o p r number (Err e) a
    (so_call did (λ events. Held Tries events (Err e)) (λ events. Ends Tries number events (Err e)) p r (held-call did goes Tries p q r tried h (Err e) is b w) (λ xs f. inr (inl (e, f, refl))))

pub obtains-used : {S A : Type 0} (did : S → List Event → S → Type 0) → GoesOn did → (Tries : Result A Refusal → List Event → Type 0) (o p : S) (number : ℕ) → did p [] p → number ≡ 2 ^ 64 - 1
    → Call did o p (Waited Tries number) → Call did o p (λ events. Obtains Tries events (Err refused.Memory))
obtains-used did goes Tries o p number stays all a =
    obtains did goes Tries o p p number (Err refused.Memory) a ([], stays, inr (inr (all, refl, refl)))
