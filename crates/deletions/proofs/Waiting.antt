-- The transaction of a volume's row, which is tried until nobody holds the volume.
use Rattle.std.proofs.Common.{◌≡◌, ◌⊎◌, inl, inr, ℕ, zero, suc, ◌+◌, true, false, List, [], ◌∷◌, ◌++◌, Some, None, Option, Result, Ok, Err, refl, sym, ap, subst, ◌∙◌, arith, if◌then◌else◌, append_assoc}
use Rattle.std.proofs.lemmas.List.{append-nil}
use Rattle.std.specs.List.{AllByRecursion}
use Rattle.kinds.specs.declared.refusal.Holder.{Holder}
use Rattle.kinds.specs.declared.refusal.Holder.TheVariants as holder
use Rattle.kinds.specs.declared.refusal.Refusal.{Refusal}
use Rattle.kinds.specs.declared.refusal.Refusal.TheVariants as refused
use Rattle.steps.specs.declared.asked.Asked.{Asked}
use Rattle.steps.proofs.Joining.{GoesOn, call_then, does_made, so_call}
use Rattle.steps.specs.Calls.{Call, Made, Waits, forced}
use Rattle.steps.specs.Events.{Deed, Event, event, refusal}
use Rattle.steps.specs.Events.Deed.{Commit, Force}
use Rattle.steps.specs.Receipts.{made}
use Rattle.copy_attempts.proofs.Facts.{all-append, made-append, met-behind, some-memory}
use Rattle.copy_attempts.specs.Attempts.{Awaits, stopping}
use Rattle.copy_attempts.specs.Outcomes.{Met, MetBy}
use Rattle.copy_runs.proofs.Ending.{stopped-behind}
use Rattle.copy_runs.specs.Ends.{IsStopped}
use Rattle.deletions.specs.declared.row.Went.{Went}
use Rattle.deletions.specs.declared.row.Went.TheVariants as came
use Rattle.deletions.specs.Filespaces.{is_kept_by, unremoved}
use Rattle.deletions.specs.Volumes.{FoundHeld, IsRefusedLast, IsRowStep, RemovesRow, RowGone, RowKept, TriesRow, Waited, held_or_kept, holder_of, outcome_of_row}
use Rattle.deletions.proofs.Trying.{tried}
use Rattle.deletions.proofs.Working.{stopped-by}

-- ---- what an answer led to

-- who is named as the holder holds it
holder-is : (e : Refusal) (h : Holder) → holder_of e ≡ Some h → e ≡ refused.Busy h
holder-is (refused.Syntax at) h s = absurd cc
holder-is (refused.UnknownWord at) h s = absurd cc
holder-is (refused.Ambiguous at) h s = absurd cc
holder-is (refused.BadValue at) h s = absurd cc
holder-is refused.NotFound h s = absurd cc
holder-is refused.Exists h s = absurd cc
holder-is (refused.InUse by) h s = absurd cc
holder-is refused.NoDefaultClass h s = absurd cc
holder-is refused.BadHierarchy h s = absurd cc
holder-is (refused.DayBack today given) h s = absurd cc
holder-is refused.NoBackupGroup h s = absurd cc
holder-is refused.NoArchiveGroup h s = absurd cc
holder-is (refused.NoSpace pool) h s = absurd cc
holder-is (refused.Busy other) h s = let same : other ≡ h = cc in ap refused.Busy same
holder-is (refused.Stale seq) h s = absurd cc
holder-is (refused.Gone seq) h s = absurd cc
holder-is refused.Unavailable h s = absurd cc
holder-is (refused.WriteFault file) h s = absurd cc
holder-is refused.TreeFault h s = absurd cc
holder-is (refused.Changed listed read) h s = absurd cc
holder-is (refused.DigestDiffers kept given) h s = absurd cc
holder-is refused.TooLarge h s = absurd cc
holder-is refused.RecordFull h s = absurd cc
holder-is refused.InventoryFull h s = absurd cc
holder-is (refused.NotYet file day) h s = absurd cc
holder-is (refused.LogFault file count) h s = absurd cc
holder-is refused.RunFull h s = absurd cc
holder-is refused.Memory h s = absurd cc

not-gone : (e : Refusal) (o : Option Holder) → held_or_kept e o ≡ Ok came.Gone → ⊥
not-gone e (Some h) s = cc
not-gone e None s = cc

held-one : (e : Refusal) (o : Option Holder) (h : Holder) → held_or_kept e o ≡ Ok (came.Held h) → o ≡ Some h
held-one e (Some k) h s = let same : k ≡ h = cc in ap Some same
held-one e None h s = absurd cc

kept-one : (e f : Refusal) (o : Option Holder) → held_or_kept e o ≡ Err f → f ≡ unremoved e
kept-one e f (Some h) s = absurd cc
kept-one e f None s = let same : unremoved e ≡ f = cc in sym same

answer-gone : (answer : Result ℕ Refusal) → outcome_of_row answer ≡ Ok came.Gone → (number : ℕ) × (answer ≡ Ok number)
answer-gone (Ok number) s = (number, refl)
answer-gone (Err e) s = absurd (not-gone e (holder_of e) s)

answer-held : (answer : Result ℕ Refusal) (h : Holder) → outcome_of_row answer ≡ Ok (came.Held h) → answer ≡ Err (refused.Busy h)
answer-held (Ok number) h s = absurd cc
answer-held (Err e) h s = ap Err (holder-is e h (held-one e (holder_of e) h s))

answer-kept : (answer : Result ℕ Refusal) (f : Refusal) → outcome_of_row answer ≡ Err f → (e : Refusal) × (answer ≡ Err e) × (f ≡ unremoved e)
answer-kept (Ok number) f s = absurd cc
answer-kept (Err e) f s = (e, refl, kept-one e f (holder_of e) s)

no-memory : (t : Went) → Ok t ≡ Err refused.Memory → ⊥
no-memory t h = cc

was-gone : (asked : Asked) (events : List Event) (t : Went) → t ≡ came.Gone → TriesRow asked events (Ok t) → (n : ℕ) × (number : ℕ) × (events ≡ tried n asked (Ok number))
was-gone asked events t is (inl h) = absurd (no-memory t h.1)
was-gone asked events t is (inr h) =
    let r = answer-gone h.1 (sym h.3 ∙ ap Ok is) in
    (h.0, r.0, h.2 ∙ ap (λ (a : Result ℕ Refusal). tried h.0 asked a) r.1)

was-held : (asked : Asked) (events : List Event) (t : Went) (k : Holder) → t ≡ came.Held k → TriesRow asked events (Ok t) → FoundHeld asked k events
was-held asked events t k is (inl h) = absurd (no-memory t h.1)
was-held asked events t k is (inr h) = (h.0, h.2 ∙ ap (λ (a : Result ℕ Refusal). tried h.0 asked a) (answer-held h.1 k (sym h.3 ∙ ap Ok is)))

-- ---- the transaction was refused

abbrev KeptBy : Asked → List Event → Refusal → Type 0
KeptBy asked events e = IsStopped events e ⊎ ((is_kept_by e ≡ true) × MetBy (λ d. d ≡ Commit asked [] (Err e)) events)

kept-cause : (asked : Asked) (n : ℕ) (e : Refusal) → KeptBy asked (tried n asked (Err e)) (unremoved e)
kept-cause asked n e = elim (is_kept_by e) as (λ b. is_kept_by e ≡ b → KeptBy asked (tried n asked (Err e)) (if b then e else stopping e)) [
  | true ↦ λ t. inr (t, inl refl)
  | false ↦ λ t. inl (stopped-by (tried n asked (Err e)) e (inl refl))
] refl

kept-place : (asked : Asked) (n : ℕ) (e : Refusal) → IsStopped (tried n asked (Err e)) (unremoved e) ⊎ IsRefusedLast asked (unremoved e) (tried n asked (Err e))
kept-place asked n e = elim (is_kept_by e) as (λ b. IsStopped (tried n asked (Err e)) (if b then e else stopping e) ⊎ IsRefusedLast asked (if b then e else stopping e) (tried n asked (Err e))) [
  | true ↦ inr (0, ([], tried n asked (Err e), refl, refl, (n, refl)))
  | false ↦ inl (stopped-by (tried n asked (Err e)) e (inl refl))
]

was-kept : (asked : Asked) (events : List Event) (f : Refusal) → TriesRow asked events (Err f) → RowKept asked events f
was-kept asked events f (inl h) =
    let same : f ≡ refused.Memory = cc in
    subst (λ (es : List Event). RowKept asked es f) (sym h.0) (record { cause = inl (inl same); only = tt; place = inl (inl same) })
was-kept asked events f (inr h) =
    let r = answer-kept h.1 f (sym h.3) in
    let is : events ≡ tried h.0 asked (Err r.0) = h.2 ∙ ap (λ (a : Result ℕ Refusal). tried h.0 asked a) r.1 in
    subst (λ (es : List Event). RowKept asked es f) (sym is)
    (subst (λ (x : Refusal). RowKept asked (tried h.0 asked (Err r.0)) x) (sym r.2) (record { cause = kept-cause asked h.0 r.0; only = (inr (Err r.0, refl), tt); place = kept-place asked h.0 r.0 }))

-- ---- waiting

awaited : {S : Type 0} (did : S → List Event → S → Type 0) (p q : S) (h : Holder) (answer : Result (Unit {0}) Refusal) → Waits did p q h answer → Call did p q (λ events. Awaits h events answer)
awaited did p q (holder.Unforced number) answer w =
    so_call did (λ events. Made (Force w.0) events) (λ events. Awaits (holder.Unforced number) events answer) p q (does_made did p q (Force w.0) w.2) (λ xs f. (w.0, w.1, f))
awaited did p q (holder.Ticket number) answer w = ([], w.0, (refl, w.1))
awaited did p q (holder.Image actor) answer w = ([], w.0, (refl, w.1))

plus-one : (n : ℕ) → suc n ≡ n + 1
plus-one n = omega arith

pub waits-again : {S : Type 0} (did : S → List Event → S → Type 0) → GoesOn did → (o p q r : S) (asked : Asked) (number : ℕ) (t : Went) (h : Holder) → t ≡ came.Held h
    → Call did o p (λ events. Waited asked number events) → Call did p q (λ events. TriesRow asked events (Ok t)) → Waits did q r h (Ok tt)
    → Call did o r (λ events. Waited asked (number + 1) events)
waits-again did goes o p q r asked number t h is a b w =
    subst (λ (n : ℕ). Call did o r (λ events. Waited asked n events)) (plus-one number)
    (call_then did goes (λ events. Waited asked number events)
    (λ ys. (k : Holder) × (us : List Event) × (vs : List Event) × (ys ≡ us ++ vs) × FoundHeld asked k us × Awaits k vs (Ok tt)) (λ events. Waited asked (suc number) events) o p r a
    (call_then did goes (λ events. TriesRow asked events (Ok t)) (λ events. Awaits h events (Ok tt))
    (λ ys. (k : Holder) × (us : List Event) × (vs : List Event) × (ys ≡ us ++ vs) × FoundHeld asked k us × Awaits k vs (Ok tt)) p q r b
    (awaited did q r h (Ok tt) w) (λ xs ys f g. (h, xs, ys, refl, was-held asked xs t h is f, g)))
    (λ xs ys f g. (xs, ys, refl, f, (g.0, (g.1, g.2, g.3, g.4, g.5)))))

-- ---- steps of the wait

abbrev AreRowSteps : Asked → List Event → Type 0
AreRowSteps asked events = AllByRecursion (λ x. IsRowStep asked x.deed) events

pub rows-append : (asked : Asked) (xs ys : List Event) → AreRowSteps asked xs → AreRowSteps asked ys → AreRowSteps asked (xs ++ ys)
rows-append asked xs ys a b = all-append (λ x. IsRowStep asked x.deed) xs ys a b

force-only : (asked : Asked) (answer : Result ℕ Refusal) (events : List Event) → Made (Force answer) events → AreRowSteps asked events
force-only asked answer events (inl h) = subst (AreRowSteps asked) (sym h.1) (inl (inr (answer, refl)), tt)
force-only asked answer events (inr h) = subst (AreRowSteps asked) (sym h.1) tt

force-unmade : (answer : Result ℕ Refusal) (events : List Event) → Made (Force answer) events → made events ≡ []
force-unmade answer events (inl h) = ap made h.1
force-unmade answer events (inr h) = ap made h.1

awaits-only : (asked : Asked) (h : Holder) (ys : List Event) (answer : Result (Unit {0}) Refusal) → Awaits h ys answer → AreRowSteps asked ys
awaits-only asked (holder.Unforced number) ys answer w = force-only asked w.0 ys w.2
awaits-only asked (holder.Ticket number) ys answer w = subst (AreRowSteps asked) (sym w.0) tt
awaits-only asked (holder.Image actor) ys answer w = subst (AreRowSteps asked) (sym w.0) tt

awaits-unmade : (h : Holder) (ys : List Event) (answer : Result (Unit {0}) Refusal) → Awaits h ys answer → made ys ≡ []
awaits-unmade (holder.Unforced number) ys answer w = force-unmade w.0 ys w.2
awaits-unmade (holder.Ticket number) ys answer w = ap made w.0
awaits-unmade (holder.Image actor) ys answer w = ap made w.0

found-only : (asked : Asked) (h : Holder) (xs : List Event) → FoundHeld asked h xs → AreRowSteps asked xs
found-only asked h xs f = subst (AreRowSteps asked) (sym f.1) (inr (Err (refused.Busy h), refl), tt)

found-unmade : (asked : Asked) (h : Holder) (xs : List Event) → FoundHeld asked h xs → made xs ≡ []
found-unmade asked h xs f = ap made f.1

waited-only : (asked : Asked) (number : ℕ) (events : List Event) → Waited asked number events → AreRowSteps asked events
waited-only asked zero events h = subst (AreRowSteps asked) (sym h) tt
waited-only asked (suc number) events (xs, ys, is, f, (h, (us, vs, same, g, w))) =
    subst (AreRowSteps asked) (sym (is ∙ ap (λ (es : List Event). xs ++ es) same))
    (rows-append asked xs (us ++ vs) (waited-only asked number xs f) (rows-append asked us vs (found-only asked h us g) (awaits-only asked h vs (Ok tt) w)))

both-none : (xs ys : List Event) → made xs ≡ [] → made ys ≡ [] → made (xs ++ ys) ≡ []
both-none xs ys a b = made-append xs ys ∙ ap (λ (es : List Event). es ++ made ys) a ∙ b

waited-unmade : (asked : Asked) (number : ℕ) (events : List Event) → Waited asked number events → made events ≡ []
waited-unmade asked zero events h = ap made h
waited-unmade asked (suc number) events (xs, ys, is, f, (h, (us, vs, same, g, w))) =
    ap made (is ∙ ap (λ (es : List Event). xs ++ es) same)
    ∙ both-none xs (us ++ vs) (waited-unmade asked number xs f) (both-none us vs (found-unmade asked h us g) (awaits-unmade h vs (Ok tt) w))

-- the transaction that was made, and no other
pub row-gone-only : (asked : Asked) (events : List Event) → RowGone asked events → AreRowSteps asked events
row-gone-only asked events (number, (xs, ys, is, f, (n, joined, same))) =
    subst (AreRowSteps asked) (sym (is ∙ ap (λ (es : List Event). xs ++ es) same)) (rows-append asked xs (tried n asked (Ok joined)) (waited-only asked number xs f) (inr (Ok joined, refl), tt))

pub row-gone-made : (asked : Asked) (events : List Event) → RowGone asked events → (n : ℕ) × (joined : ℕ) × (made events ≡ tried n asked (Ok joined))
row-gone-made asked events (number, (xs, ys, is, f, (n, joined, same))) = (
  n,
  joined,
  ap made (is ∙ ap (λ (es : List Event). xs ++ es) same) ∙ made-append xs (tried n asked (Ok joined)) ∙ ap (λ (es : List Event). es ++ tried n asked (Ok joined)) (waited-unmade asked number xs f),
)

-- ---- how it ends

-- waits behind waits
more-waits : (asked : Asked) (number more : ℕ) (xs ys : List Event) → Waited asked number xs → Waited asked more ys → (n : ℕ) × Waited asked n (xs ++ ys)
more-waits asked number zero xs ys a none = (number, subst (λ (es : List Event). Waited asked number es) (sym (ap (λ (es : List Event). xs ++ es) none ∙ append-nil xs)) a)
more-waits asked number (suc more) xs ys a (us, vs, is, b, rest) =
    let r = more-waits asked number more xs us a b in
    (suc r.0, (xs ++ us, vs, ap (λ (es : List Event). xs ++ es) is ∙ sym (append_assoc xs us vs), r.1, rest))

last-behind : (asked : Asked) (number : ℕ) (xs ys : List Event) (e : Refusal) → Waited asked number xs → IsRefusedLast asked e ys → IsRefusedLast asked e (xs ++ ys)
last-behind asked number xs ys e a (more, (us, vs, is, b, one)) =
    let r = more-waits asked number more xs us a b in
    (r.0, (xs ++ us, vs, ap (λ (es : List Event). xs ++ es) is ∙ sym (append_assoc xs us vs), r.1, one))

kept-behind : (asked : Asked) (number : ℕ) (xs ys : List Event) (e : Refusal) → Waited asked number xs → RowKept asked ys e → RowKept asked (xs ++ ys) e
kept-behind asked number xs ys e waited h = record { cause = behind h.cause; only = rows-append asked xs ys (waited-only asked number xs waited) h.only; place = there h.place } where
  there : IsStopped ys e ⊎ IsRefusedLast asked e ys → IsStopped (xs ++ ys) e ⊎ IsRefusedLast asked e (xs ++ ys)
  there (inl s) = inl (stopped-behind xs ys e s)
  there (inr s) = inr (last-behind asked number xs ys e waited s)

  behind : KeptBy asked ys e → KeptBy asked (xs ++ ys) e
  behind (inl s) = inl (stopped-behind xs ys e s)
  behind (inr s) = inr (s.0, met-behind (λ d. d ≡ Commit asked [] (Err e)) xs ys s.1)

pub row-went : {S : Type 0} (did : S → List Event → S → Type 0) → GoesOn did → (o p q : S) (asked : Asked) (number : ℕ) (t : Went) → t ≡ came.Gone
    → Call did o p (λ events. Waited asked number events) → Call did p q (λ events. TriesRow asked events (Ok t)) → Call did o q (λ events. RemovesRow asked events (Ok tt))
row-went did goes o p q asked number t is a b =
    call_then did goes (λ events. Waited asked number events) (λ events. TriesRow asked events (Ok t)) (λ events. RowGone asked events) o p q a b
    (λ xs ys f g. (number, (xs, ys, refl, f, was-gone asked ys t is g)))

pub row-was-kept : {S : Type 0} (did : S → List Event → S → Type 0) → GoesOn did → (o p q : S) (asked : Asked) (number : ℕ) (e : Refusal)
    → Call did o p (λ events. Waited asked number events) → Call did p q (λ events. TriesRow asked events (Err e)) → Call did o q (λ events. RemovesRow asked events (Err e))
row-was-kept did goes o p q asked number e a b =
    call_then did goes (λ events. Waited asked number events) (λ events. TriesRow asked events (Err e)) (λ events. RowKept asked events e) o p q a b
    (λ xs ys f g. kept-behind asked number xs ys e f (was-kept asked ys e g))

made-met : (d : Deed) (e : Refusal) (events : List Event) → Made d events → refusal d ≡ Some e → (e ≡ refused.Memory) ⊎ Met e events
made-met d e events (inl h) is = inr (subst (λ (es : List Event). Met e es) (sym h.1) (inl is))
made-met d e events (inr h) is = inl (some-memory e d is h.0)

forced-err : (answer : Result ℕ Refusal) (e : Refusal) → Err e ≡ forced answer → answer ≡ Err e
forced-err (Ok number) e h = absurd (let never : Err e ≡ Ok tt = h in cc)
forced-err (Err f) e h = let same : e ≡ f = cc in ap Err (sym same)

abbrev Is : (a b : Result (Unit {0}) Refusal) → Type 0
Is a b = a ≡ b

-- a wait for another than a transaction is refused as the step was, or for want of memory
not-waited : (h : Holder) (e : Refusal) → Is (Err e) (Ok tt) ⊎ (Is (Err e) (Err (refused.Busy h)) ⊎ Is (Err e) (Err refused.Memory)) → (e ≡ refused.Memory) ⊎ (Some (refused.Busy h) ≡ Some e)
not-waited h e (inl s) = absurd (let never : Is (Err e) (Ok tt) = s in cc)
not-waited h e (inr (inl s)) = let same : e ≡ refused.Busy h = cc in inr (ap Some (sym same))
not-waited h e (inr (inr s)) = let same : e ≡ refused.Memory = cc in inl same

met-first : (x : Event) (ys : List Event) (e : Refusal) → (e ≡ refused.Memory) ⊎ (refusal x.deed ≡ Some e) → (e ≡ refused.Memory) ⊎ Met e (x ∷ ys)
met-first x ys e (inl h) = inl h
met-first x ys e (inr h) = inr (inl h)

met-later : (x : Event) (ys : List Event) (e : Refusal) → (e ≡ refused.Memory) ⊎ Met e ys → (e ≡ refused.Memory) ⊎ Met e (x ∷ ys)
met-later x ys e (inl h) = inl h
met-later x ys e (inr h) = inr (inr h)

wait-met : (asked : Asked) (n : ℕ) (h : Holder) (ys : List Event) (e : Refusal) → Awaits h ys (Err e) → (e ≡ refused.Memory) ⊎ Met e (event n (Commit asked [] (Err (refused.Busy h))) ∷ ys)
wait-met asked n (holder.Unforced number) ys e w =
    let m : Made (Force (Err e)) ys = subst (λ (r : Result ℕ Refusal). Made (Force r) ys) (forced-err w.0 e w.1) w.2 in
    met-later (event n (Commit asked [] (Err (refused.Busy (holder.Unforced number))))) ys e (made-met (Force (Err e)) e ys m refl)
wait-met asked n (holder.Ticket number) ys e w = met-first (event n (Commit asked [] (Err (refused.Busy (holder.Ticket number))))) ys e (not-waited (holder.Ticket number) e w.1)
wait-met asked n (holder.Image actor) ys e w = met-first (event n (Commit asked [] (Err (refused.Busy (holder.Image actor))))) ys e (not-waited (holder.Image actor) e w.1)

memory-stops : (events : List Event) (e : Refusal) → (e ≡ refused.Memory) ⊎ Met e events → IsStopped events (stopping e)
memory-stops events e (inl h) = inl (ap stopping h)
memory-stops events e (inr h) = stopped-by events e h

unwaited : (asked : Asked) (h : Holder) (e : Refusal) (xs ys : List Event) → FoundHeld asked h xs → Awaits h ys (Err e) → RowKept asked (xs ++ ys) (stopping e)
unwaited asked h e xs ys f w =
    let stops : IsStopped (xs ++ ys) (stopping e) =
    subst (λ (es : List Event). IsStopped (es ++ ys) (stopping e)) (sym f.1) (memory-stops (event f.0 (Commit asked [] (Err (refused.Busy h))) ∷ ys) e (wait-met asked f.0 h ys e w)) in
    record { cause = inl stops; only = rows-append asked xs ys (found-only asked h xs f) (awaits-only asked h ys (Err e) w); place = inl stops }

-- the wait was refused
pub row-unwaited : {S : Type 0} (did : S → List Event → S → Type 0) → GoesOn did → (o p q r : S) (asked : Asked) (number : ℕ) (t : Went) (h : Holder) (e other : Refusal) → t ≡ came.Held h → other ≡ stopping e
    → Call did o p (λ events. Waited asked number events) → Call did p q (λ events. TriesRow asked events (Ok t)) → Waits did q r h (Err e)
    → Call did o r (λ events. RemovesRow asked events (Err other))
row-unwaited did goes o p q r asked number t h e other is same a b w =
    subst (λ (x : Refusal). Call did o r (λ events. RemovesRow asked events (Err x))) (sym same)
    (call_then did goes (λ events. Waited asked number events) (λ events. RowKept asked events (stopping e)) (λ events. RowKept asked events (stopping e)) o p r a
    (call_then did goes (λ events. TriesRow asked events (Ok t)) (λ events. Awaits h events (Err e)) (λ events. RowKept asked events (stopping e)) p q r b (awaited did q r h (Err e) w)
    (λ xs ys f g. unwaited asked h e xs ys (was-held asked xs t h is f) g))
    (λ xs ys f g. kept-behind asked number xs ys (stopping e) f g))

-- it was waited as often as a number counts
pub row-given-up : {S : Type 0} (did : S → List Event → S → Type 0) (o p : S) (asked : Asked) (number : ℕ) → Call did o p (λ events. Waited asked number events)
    → Call did o p (λ events. RemovesRow asked events (Err refused.Memory))
row-given-up did o p asked number a =
    so_call did (λ events. Waited asked number events) (λ events. RemovesRow asked events (Err refused.Memory)) o p a
    (λ xs f. record { cause = inl (inl refl); only = waited-only asked number xs f; place = inl (inl refl) })

pub row-begins : {S : Type 0} (did : S → List Event → S → Type 0) (p : S) (asked : Asked) → did p [] p → Call did p p (λ events. Waited asked 0 events)
row-begins did p asked stays = ([], stays, refl)

-- memory was wanted for the transaction
pub row-wanting : {S : Type 0} (did : S → List Event → S → Type 0) (p : S) (asked : Asked) (e : Refusal) → did p [] p → e ≡ refused.Memory → Call did p p (λ events. RemovesRow asked events (Err e))
row-wanting did p asked e stays is = ([], stays, record { cause = inl (inl is); only = tt; place = inl (inl is) })

pub row-asked : {S : Type 0} (did : S → List Event → S → Type 0) (p q : S) (asked other : Asked) (result : Result (Unit {0}) Refusal) → other ≡ asked → Call did p q (λ events. RemovesRow other events result)
    → Call did p q (λ events. RemovesRow asked events result)
row-asked did p q asked other result is c = subst (λ (a : Asked). Call did p q (λ events. RemovesRow a events result)) is c
