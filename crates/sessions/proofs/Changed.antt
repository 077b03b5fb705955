-- A change, step by step, and what it leaves.
use Rattle.std.proofs.Common.{◌≡◌, inl, inr, ℕ, zero, suc, ◌+◌, ◌-◌, ◌≤◌, min, true, false, List, [], ◌∷◌, ◌++◌, length, take, Option, Some, None, Result, Ok, Err, refl, sym, ap, subst, ◌∙◌, arith}
use Rattle.std.proofs.lemmas.Bool.{cond-false}
use Rattle.std.proofs.lemmas.List.{length-take}
use Rattle.std.specs.List.{AllByRecursion, slice_get}
use Rattle.kinds.specs.declared.refusal.Holder.{Holder}
use Rattle.kinds.specs.declared.refusal.Holder.TheVariants as holder
use Rattle.kinds.specs.declared.refusal.Refusal.{Refusal}
use Rattle.kinds.specs.declared.refusal.Refusal.TheVariants as refused
use Rattle.entries.specs.declared.change.Change.{Change}
use Rattle.copy_attempts.proofs.Facts.{made-append}
use Rattle.copy_attempts.specs.Attempts.{Awaits}
use Rattle.machine.proofs.Histories.{after-number}
use Rattle.machine.proofs.Runs.{fits-cut, fits-one}
use Rattle.machine.specs.Changes.{filled}
use Rattle.machine.specs.Fits.{Fits, History, IsMadeOf, JoinsAt, Own, Step, inv, last, sight_at}
use Rattle.machine.specs.Says.{Says}
use Rattle.machine.specs.State.{after}
use Rattle.steps.proofs.Acknowledged.{receipts-behind}
use Rattle.steps.proofs.Joining.{GoesOn, does_made, so_call, then_call}
use Rattle.steps.specs.declared.asked.Asked.TheVariants.{Plain}
use Rattle.steps.specs.Calls.{Call, Does, Made, Then}
use Rattle.steps.specs.Events.{Deed, Event, event}
use Rattle.steps.specs.Events.Deed.{Commit, Force}
use Rattle.steps.specs.Receipts.{is_forced, is_made, made, receipts}
use Rattle.sessions.proofs.Causes.{HasEnds, caused-behind, has-ends, made-all, made-caused, obtains-all, obtains-caused, then-all}
use Rattle.sessions.specs.Changing.{Changes, Changing, Commits, IsAcknowledged, IsJournaled, IsOf, Joins, numbers}
use Rattle.sessions.specs.Outcomes.{HasCause, IsCaused}
use Rattle.sessions.specs.Waiting.{Waited}

-- ---- the steps in their order

pub changes-forced : {S : Type 0} (did : S → List Event → S → Type 0) → GoesOn did → (p q r : S) (c : Change) (number last : ℕ) → Call did p q (λ events. Joins (Plain c) events (Ok number))
    → Does did q r (Force (Ok last)) → Call did p r (λ events. Changes c events (Ok number))
changes-forced did goes p q r c number last a d =
    so_call did (λ events. Then (λ xs. Joins (Plain c) xs (Ok number)) (λ ys. Made (Force (Ok last)) ys) events) (λ events. Changes c events (Ok number)) p r
    (then_call did goes (λ events. Joins (Plain c) events (Ok number)) (λ events. Made (Force (Ok last)) events) p q r a (does_made did q r (Force (Ok last)) d)) (λ xs f. (last, f))

pub changes-unforced : {S : Type 0} (did : S → List Event → S → Type 0) → GoesOn did → (p q r : S) (c : Change) (number : ℕ) (e : Refusal) → Call did p q (λ events. Joins (Plain c) events (Ok number))
    → Does did q r (Force (Err e)) → Call did p r (λ events. Changes c events (Err e))
changes-unforced did goes p q r c number e a d =
    so_call did (λ events. Then (λ xs. Joins (Plain c) xs (Ok number)) (λ ys. Made (Force (Err e)) ys) events) (λ events. Changes c events (Err e)) p r
    (then_call did goes (λ events. Joins (Plain c) events (Ok number)) (λ events. Made (Force (Err e)) events) p q r a (does_made did q r (Force (Err e)) d)) (λ xs f. inr (number, f))

pub changes-not : {S : Type 0} (did : S → List Event → S → Type 0) (p q : S) (c : Change) (e : Refusal) → Call did p q (λ events. Joins (Plain c) events (Err e)) → Call did p q (λ events. Changes c events (Err e))
changes-not did p q c e a = so_call did (λ events. Joins (Plain c) events (Err e)) (λ events. Changes c events (Err e)) p q a (λ xs f. inl f)

-- ---- no others

pub joins-only : (c : Change) (events : List Event) (result : Result ℕ Refusal) → Joins (Plain c) events result → AllByRecursion (λ e. IsOf c e.deed) events
joins-only c events result j =
    obtains-all (λ e. IsOf c e.deed) (λ n answer. tt) (Commits (Plain c)) (λ answer xs h. made-all (λ e. IsOf c e.deed) (Commit (Plain c) [] answer) xs h (λ n. (refl, refl))) events result j

forced-only : (c : Change) (answer : Result ℕ Refusal) (events : List Event) → Made (Force answer) events → AllByRecursion (λ e. IsOf c e.deed) events
forced-only c answer events h = made-all (λ e. IsOf c e.deed) (Force answer) events h (λ n. tt)

changes-only : (c : Change) (events : List Event) (result : Result ℕ Refusal) → Changes c events result → AllByRecursion (λ e. IsOf c e.deed) events
changes-only c events (Ok number) (last, (xs, ys, cut, j, f)) = then-all (λ e. IsOf c e.deed) events xs ys cut (joins-only c xs (Ok number) j) (forced-only c (Ok last) ys f)
changes-only c events (Err e) (inl j) = joins-only c events (Err e) j
changes-only c events (Err e) (inr (number, (xs, ys, cut, j, f))) = then-all (λ e. IsOf c e.deed) events xs ys cut (joins-only c xs (Ok number) j) (forced-only c (Err e) ys f)

-- ---- causes

each-caused : (c : Change) (answer : Result ℕ Refusal) (xs : List Event) → Commits (Plain c) answer xs → HasCause numbers xs answer
each-caused c (Ok number) xs h = tt
each-caused c (Err e) xs h = made-caused (Commit (Plain c) [] (Err e)) e numbers xs h refl (λ listed. listed)

numbers-end : HasEnds numbers
numbers-end = has-ends numbers refl refl

pub joins-caused : (c : Change) (events : List Event) (result : Result ℕ Refusal) → Joins (Plain c) events result → HasCause numbers events result
joins-caused c events result j = obtains-caused numbers numbers-end (Commits (Plain c)) (each-caused c) events result j

changes-caused : (c : Change) (events : List Event) (result : Result ℕ Refusal) → Changes c events result → HasCause numbers events result
changes-caused c events (Ok number) h = tt
changes-caused c events (Err e) (inl j) = joins-caused c events (Err e) j
changes-caused c events (Err e) (inr (number, (xs, ys, cut, j, f))) =
    subst (λ (es : List Event). IsCaused numbers es e) (sym cut) (caused-behind numbers xs ys e (made-caused (Force (Err e)) e numbers ys f refl (numbers-end e)))

-- ---- what is acknowledged

pub made-none : (d : Deed) (events : List Event) → Made d events → is_made d ≡ false → made events ≡ []
made-none d events (inl h) none = ap made h.1 ∙ cond-false (is_made d) (event h.0 d ∷ []) [] none
made-none d events (inr h) none = ap made h.1

pub awaits-none : (h : Holder) (events : List Event) (answer : Result (Unit {0}) Refusal) → Awaits h events answer → made events ≡ []
awaits-none (holder.Unforced number) events answer (a, same, f) = made-none (Force a) events f refl
awaits-none (holder.Ticket number) events answer h = ap made h.0
awaits-none (holder.Image actor) events answer h = ap made h.0

pub two-none : (events xs ys : List Event) → events ≡ xs ++ ys → made xs ≡ [] → made ys ≡ [] → made events ≡ []
two-none events xs ys cut a b = ap made cut ∙ made-append xs ys ∙ ap (λ (l : List Event). l ++ made ys) a ∙ b

pub waited-none : (c : Change) (number : ℕ) (events : List Event) → Waited (Commits (Plain c)) number events → made events ≡ []
waited-none c zero events h = ap made h
waited-none c (suc number) events (xs, ys, cut, waited, (h, (zs, ws, apart, tried, awaited))) =
    two-none events xs ys cut (waited-none c number xs waited)
    (two-none ys zs ws apart (made-none (Commit (Plain c) [] (Err (refused.Busy h))) zs tried refl) (awaits-none h ws (Ok tt) awaited))

-- the one transaction that joins
pub joins-made : (c : Change) (number : ℕ) (events : List Event) → Joins (Plain c) events (Ok number) → (n : ℕ) × (made events ≡ event n (Commit (Plain c) [] (Ok number)) ∷ [])
joins-made c number events (waited, (xs, ys, cut, some, inl (none, inl it))) =
    (it.0, ap made cut ∙ made-append xs ys ∙ ap (λ (l : List Event). l ++ made ys) (waited-none c waited xs some) ∙ ap made it.1)
joins-made c number events (waited, (xs, ys, cut, some, inl (none, inr m))) = absurd cc
joins-made c number events (waited, (xs, ys, cut, some, inr (inl (e, held, is)))) = absurd cc
joins-made c number events (waited, (xs, ys, cut, some, inr (inr h))) = (let is : Ok number ≡ Err refused.Memory = h.2 in absurd cc)

changes-acknowledged : (c : Change) (events : List Event) (result : Result ℕ Refusal) → Changes c events result → IsAcknowledged c events result
changes-acknowledged c events (Ok number) (last, (xs, ys, cut, j, inl f)) =
    let it = joins-made c number xs j in
    let forced : is_forced ys ≡ true = ap is_forced f.1 in
    (it.0, ap receipts cut ∙ receipts-behind xs ys forced ∙ ap (λ (l : List Event). l ++ receipts ys) it.1 ∙ ap (λ (l : List Event). event it.0 (Commit (Plain c) [] (Ok number)) ∷ receipts l) f.1)
changes-acknowledged c events (Ok number) (last, (xs, ys, cut, j, inr f)) = absurd cc
changes-acknowledged c events (Err e) h = tt

pub changing-of : (c : Change) (events : List Event) (result : Result ℕ Refusal) → Changes c events result → Changing c events result
changing-of c events result h = record {
  order = h;
  only = changes-only c events result h;
  acknowledged = changes-acknowledged c events result h;
  cause = changes-caused c events result h;
}

-- ---- in a history

-- the database behind a number of the history has this number
pub inv-number : (w : History) (n : ℕ) → w.base.number ≤ n → n ≤ last w → (inv w n).number ≡ n
unfolding inv
inv-number w n low high =
    let long : length (take (n - w.base.number) w.journal) ≡ min (n - w.base.number) (length w.journal) = length-take (n - w.base.number) w.journal in
    let number : (after w.base (take (n - w.base.number) w.journal)).number ≡ w.base.number + length (take (n - w.base.number) w.journal) = after-number w.base (take (n - w.base.number) w.journal) in
    omega (arith, low, high, long, number)

journaled-as : (w : History) (actor n number next_file : ℕ) (c : Change) (a : Own) (joined : Option Change) → w.base.number ≤ n → number ≡ n + 1 → IsMadeOf (Plain c) [] (sight_at w a n next_file) joined
    → JoinsAt w actor n joined → IsJournaled w actor c number
journaled-as w actor n number next_file c a None low is made at = absurd made
journaled-as w actor n number next_file c a (Some d) low is made at =
    let same : d ≡ filled next_file (inv w n) c = cc in
    (n, next_file, low, is, subst (λ (it : Change). slice_get w.journal (n - w.base.number) ≡ Some (record { actor = actor; change = it })) same at)

pub committed : (w : History) (actor : ℕ) (a b : Own) (n number : ℕ) (c : Change) → Step w actor a (event n (Commit (Plain c) [] (Ok number))) b → IsJournaled w actor c number
unfolding Says
committed w actor a b n number c s =
    let next : number ≡ (inv w n).number + 1 = s.says.1 in
    let this : (inv w n).number ≡ n = inv-number w n s.begun s.within in
    journaled-as w actor n number s.next_file c a s.joined s.begun (omega (arith, next, this)) s.joins s.joins_at

pub joined-in : (w : History) (actor : ℕ) (old new : Own) (c : Change) (number : ℕ) (events : List Event) → Fits w actor old events new → Joins (Plain c) events (Ok number) → IsJournaled w actor c number
joined-in w actor old new c number events f (waited, (xs, ys, cut, some, inl (none, inl it))) =
    let parts = fits-cut w actor old new xs ys (subst (λ (es : List Event). Fits w actor old es new) cut f) in
    committed w actor parts.0 new it.0 number c (fits-one w actor parts.0 new (event it.0 (Commit (Plain c) [] (Ok number))) (subst (λ (es : List Event). Fits w actor parts.0 es new) it.1 parts.2))
joined-in w actor old new c number events f (waited, (xs, ys, cut, some, inl (none, inr m))) = absurd cc
joined-in w actor old new c number events f (waited, (xs, ys, cut, some, inr (inl (e, held, is)))) = absurd cc
joined-in w actor old new c number events f (waited, (xs, ys, cut, some, inr (inr h))) = (let is : Ok number ≡ Err refused.Memory = h.2 in absurd cc)

pub changed-in : (w : History) (actor : ℕ) (old new : Own) (c : Change) (number : ℕ) (events : List Event) → Fits w actor old events new → Changes c events (Ok number) → IsJournaled w actor c number
changed-in w actor old new c number events f (last, (xs, ys, cut, j, forced)) =
    let parts = fits-cut w actor old new xs ys (subst (λ (es : List Event). Fits w actor old es new) cut f) in
    joined-in w actor old parts.0 c number xs parts.1 j
