-- Each transaction that joins by an attempt is that of its copy.
use Rattle.std.proofs.Common.{◌≡◌, inl, inr, ℕ, ◌-◌, ◌==◌, Bool, true, false, cond, List, [], ◌∷◌, ◌++◌, Some, Result, Ok, Err, refl, sym, ap, subst, ◌∙◌, if◌then◌else◌}
use Rattle.std.proofs.lemmas.Bool.{false≢true}
use Rattle.std.specs.List.{AllByRecursion, slice_get}
use Rattle.kinds.specs.Refusals.{number_of}
use Rattle.kinds.specs.declared.refusal.Refusal.{Refusal}
use Rattle.kinds.specs.declared.refusal.Refusal.TheVariants as refused
use Rattle.entries.specs.declared.change.Change.{Change}
use Rattle.space.specs.declared.aim.Aim.{Aim}
use Rattle.steps.specs.declared.asked.Asked.TheVariants as asked
use Rattle.steps.specs.Calls.{fails_object}
use Rattle.steps.specs.Events.{Event, event}
use Rattle.steps.specs.Events.Deed.{OpenCopy, Commit}
use Rattle.steps.specs.Receipts.{is_made, made}
use Rattle.copy_attempts.proofs.Facts.{all-append, made-append}
use Rattle.copy_attempts.specs.declared.outcome.Came.{Came}
use Rattle.copy_attempts.specs.declared.outcome.Came.TheVariants as came
use Rattle.copy_attempts.specs.Attempts.{Ends, GivesUp, Goes, Makes, Spends, Tries, behind_drop, came_of, is_passed, stopping, unopened}
use Rattle.copy_attempts.specs.Outcomes.{Attempt, Commits}
use Rattle.machine.specs.Fits.{Fits, History, Own}
use Rattle.machine.proofs.Runs.{fits-cut, fits-one}
use Rattle.copy_runs.proofs.Carrying.{Carries, opened}
use Rattle.copy_runs.proofs.Committed.{entered}
use Rattle.copy_runs.proofs.Told.{fills-full, fits-made, goes-tale, none-some, ok-err, waited-none}
use Rattle.copy_runs.specs.declared.wanted.Wanted.{Wanted}
use Rattle.copy_runs.specs.Runs.{EntersOnly, IsEntered, IsEntryFor, LeavesNone, Tried, Try, wanted_by}
use Rattle.copy_runs.specs.Wanting.{IsIn}

-- one of the steps joined, and its transaction is that of the copy
abbrev EntryIn : History → (actor object : ℕ) → Aim → List Event → Type 0
EntryIn w actor object to events =
    (e : Event) × (c : Change) × IsIn e events × (is_made e.deed ≡ true) × IsEntryFor object to c
    × (slice_get w.journal (e.n - w.base.number) ≡ Some (record { actor = actor; change = c }))

in-later : {A : Type 0} (x : A) (xs ys : List A) → IsIn x ys → IsIn x (xs ++ ys)
in-later x [] ys h = h
in-later x (y ∷ xs) ys h = inr (in-later x xs ys h)

entry-later : (w : History) (actor object : ℕ) (to : Aim) (xs ys all : List Event) → all ≡ xs ++ ys → EntryIn w actor object to ys → EntryIn w actor object to all
entry-later w actor object to xs ys all is h = (h.0, h.1, subst (λ (es : List Event). IsIn h.0 es) (sym is) (in-later h.0 xs ys h.2), h.3, h.4, h.5)

-- ---- what isn't a copy that was made

abbrev is_copy : Result Came Refusal → Bool
is_copy (Ok (came.Copied number)) = true
is_copy (Ok came.Failed) = false
is_copy (Ok came.Passed) = false
is_copy (Err e) = false

came-none : (e : Refusal) → is_copy (came_of e) ≡ false
came-none e =
    elim (is_passed e) as (λ b. is_copy (if b then Ok came.Passed else (if fails_object e then Ok came.Failed else Err (stopping e))) ≡ false) [
      | true ↦ refl
      | false ↦ elim (fails_object e) as (λ b. is_copy (if b then Ok came.Failed else Err (stopping e)) ≡ false) [
        | true ↦ refl
        | false ↦ refl
      ]
    ]

unopened-none : (e : Refusal) → is_copy (unopened e) ≡ false
unopened-none e = elim (number_of e == 10) as (λ b. is_copy (if b then Err e else came_of e) ≡ false) [
  | true ↦ refl
  | false ↦ came-none e
]

dropped-none : (e : Refusal) (answer : Result (Unit {0}) Refusal) → is_copy (behind_drop e answer) ≡ false
dropped-none e (Ok done) = came-none e
dropped-none e (Err other) = refl

not-copy : (number : ℕ) (result : Result Came Refusal) → Ok (came.Copied number) ≡ result → is_copy result ≡ false → ⊥
not-copy number result is none = false≢true (sym none ∙ sym (ap is_copy is))

-- ---- one attempt

makes-entry : (w : History) (actor number size object done : ℕ) (to : Aim) (a b : Own) (events : List Event) → Makes number size events (Ok done) → Carries actor number object to false a
    → Fits w actor a events b → EntryIn w actor object to events
makes-entry w actor number size object done to a b events (inl h) c f = absurd (ok-err done h.0 h.2)
makes-entry w actor number size object done to a b events (inr h) c f =
    let r = fits-cut w actor a b h.0 h.1 (subst (λ (es : List Event). Fits w actor a es b) h.2 f) in
    let d : Carries actor number object to true r.0 = fills-full w actor number size object to a r.0 h.0 h.3 c r.1 in
    entry-later w actor object to h.0 h.1 events h.2
    (elim h.4 as (λ _. EntryIn w actor object to h.1) [
      | inl step ↦ (let s = fits-one w actor r.0 b (event step.0 (Commit asked.Placed (number ∷ []) (Ok done))) (subst (λ (es : List Event). Fits w actor r.0 es b) step.1 r.2) in
          let it = entered w actor r.0 b step.0 number object to done d s in
          (event step.0 (Commit asked.Placed (number ∷ []) (Ok done)), it.0, subst (λ (es : List Event). IsIn (event step.0 (Commit asked.Placed (number ∷ []) (Ok done))) es) (sym step.1) (inl refl), refl, it.1, it.2))
      | inr memory ↦ absurd (none-some refused.Memory memory.0)
    ])

gives-none : (number done : ℕ) (e : Refusal) (events : List Event) → GivesUp number e events (Ok (came.Copied done)) → ⊥
gives-none number done e events (inl g) = not-copy done (came_of e) g.2 (came-none e)
gives-none number done e events (inr g) = not-copy done (behind_drop e g.1) g.3 (dropped-none e g.1)

spends-entry : (w : History) (actor number size object done : ℕ) (to : Aim) (a b : Own) (events : List Event) → Spends number size events (Ok (came.Copied done)) → Carries actor number object to false a
    → Fits w actor a events b → EntryIn w actor object to events
spends-entry w actor number size object done to a b events (inl h) c f = makes-entry w actor number size object h.0 to a b events h.1 c f
spends-entry w actor number size object done to a b events (inr h) c f = absurd (gives-none number done h.0 h.1.1 h.1.4)

tries-entry : (w : History) (actor object : ℕ) (to : Aim) (avoid size done : ℕ) (a b : Own) (events : List Event) → Tries object to avoid size events (Ok (came.Copied done)) → a.tickets ≡ []
    → Fits w actor a events b → EntryIn w actor object to events
tries-entry w actor object to avoid size done a b events (inl h) none f = absurd (not-copy done (unopened h.0) h.2 (unopened-none h.0))
tries-entry w actor object to avoid size done a b events (inr h) none f =
    let r = fits-cut w actor a b h.1.0 h.1.1 (subst (λ (es : List Event). Fits w actor a es b) h.1.2 f) in
    entry-later w actor object to h.1.0 h.1.1 events h.1.2
    (elim (fits-made w actor a r.0 (OpenCopy object to avoid (Ok h.0)) h.1.0 h.1.3 r.1) as (λ _. EntryIn w actor object to h.1.1) [
      | inl s ↦ spends-entry w actor h.0 size object done to r.0 b h.1.1 h.1.4 (opened w actor a r.0 s.0 object to avoid h.0 none s.1) r.2
      | inr m ↦ absurd (none-some refused.Memory m.0)
    ])

ends-entry : (w : History) (actor object : ℕ) (to : Aim) (avoid size waited done : ℕ) (a b : Own) (events : List Event) → Ends object to avoid size waited events (Ok (came.Copied done)) → a.tickets ≡ []
    → Fits w actor a events b → EntryIn w actor object to events
ends-entry w actor object to avoid size waited done a b events (inl h) none f = tries-entry w actor object to avoid size done a b events h.1 none f
ends-entry w actor object to avoid size waited done a b events (inr (inl h)) none f = absurd (ok-err (came.Copied done) (stopping h.0) h.2)
ends-entry w actor object to avoid size waited done a b events (inr (inr h)) none f = absurd (ok-err (came.Copied done) refused.Memory h.2)

goes-entry : (w : History) (actor object : ℕ) (to : Aim) (avoid size done : ℕ) (a b : Own) (events : List Event) → Goes object to avoid size events (Ok (came.Copied done)) → a.tickets ≡ []
    → Fits w actor a events b → EntryIn w actor object to events
goes-entry w actor object to avoid size done a b events h none f =
    let r = fits-cut w actor a b h.1.0 h.1.1 (subst (λ (es : List Event). Fits w actor a es b) h.1.2 f) in
    entry-later w actor object to h.1.0 h.1.1 events h.1.2
    (ends-entry w actor object to avoid size h.0 done r.0 b h.1.1 h.1.4 (waited-none w actor object to avoid size h.0 a r.0 h.1.0 h.1.3 none r.1) r.2)

-- ---- its transactions

made-in : (e : Event) (events : List Event) → IsIn e events → is_made e.deed ≡ true → IsIn e (made events)
made-in e [] h m = absurd h
made-in e (x ∷ events) (inl h) m = subst (λ (es : List Event). IsIn e es) (sym (ap (λ b. cond b (x ∷ made events) (made events)) (ap (λ (y : Event). is_made y.deed) h ∙ m))) (inl h)
made-in e (x ∷ events) (inr h) m = elim (is_made x.deed) as (λ b. IsIn e (cond b (x ∷ made events) (made events))) [
  | true ↦ inr (made-in e events h m)
  | false ↦ made-in e events h m
]

only-one : (e x : Event) → IsIn e (x ∷ []) → x ≡ e
only-one e x (inl h) = h
only-one e x (inr h) = absurd h

entries-one : (w : History) (actor : ℕ) (wanted : List Wanted) (x : Wanted) (avoid : ℕ) (a b : Own) (events : List Event) (result : Result Came Refusal) → IsIn x wanted
    → Goes x.object x.aim avoid x.size events result → Commits events result → a.tickets ≡ [] → Fits w actor a events b → AllByRecursion (IsEntered w actor wanted) (made events)
entries-one w actor wanted x avoid a b events (Ok (came.Copied done)) m h k none f =
    let e = goes-entry w actor x.object x.aim avoid x.size done a b events h none f in
    let it : Event = event k.0 (Commit asked.Placed (k.1 ∷ []) (Ok done)) in
    let same : it ≡ e.0 = only-one e.0 it (subst (λ (es : List Event). IsIn e.0 es) k.2 (made-in e.0 events e.2 e.3)) in
    subst (λ (es : List Event). AllByRecursion (IsEntered w actor wanted) es) (sym k.2) (subst (λ (y : Event). IsEntered w actor wanted y) (sym same) (x, e.1, m, e.4, e.5), tt)
entries-one w actor wanted x avoid a b events (Ok came.Failed) m h k none f = subst (λ (es : List Event). AllByRecursion (IsEntered w actor wanted) es) (sym k) tt
entries-one w actor wanted x avoid a b events (Ok came.Passed) m h k none f = subst (λ (es : List Event). AllByRecursion (IsEntered w actor wanted) es) (sym k) tt
entries-one w actor wanted x avoid a b events (Err e) m h k none f = subst (λ (es : List Event). AllByRecursion (IsEntered w actor wanted) es) (sym k) tt

pub attempt-enters : (wanted : List Wanted) (x : Wanted) (avoid : ℕ) (events : List Event) (result : Result Came Refusal) → IsIn x wanted → Attempt x.object x.aim avoid x.size events result → EntersOnly wanted events
attempt-enters wanted x avoid events result m h w actor a b none f = entries-one w actor wanted x avoid a b events result m h.order h.commits none f

-- ---- several, one after the other

pub enters-append : (wanted : List Wanted) (xs ys : List Event) → EntersOnly wanted xs → LeavesNone xs → EntersOnly wanted ys → EntersOnly wanted (xs ++ ys)
enters-append wanted xs ys p leaves q w actor a b none f =
    let r = fits-cut w actor a b xs ys f in
    subst (λ (es : List Event). AllByRecursion (IsEntered w actor wanted) es) (sym (made-append xs ys))
    (all-append (IsEntered w actor wanted) (made xs) (made ys) (p w actor a r.0 none r.1) (q w actor r.0 b (leaves w actor a r.0 none r.1) r.2))

pub unmade-enters : (wanted : List Wanted) (xs : List Event) → made xs ≡ [] → EntersOnly wanted xs
unmade-enters wanted xs h w actor a b none f = subst (λ (es : List Event). AllByRecursion (IsEntered w actor wanted) es) (sym h) tt

attempt-leaves : (x : Wanted) (avoid : ℕ) (events : List Event) (c : Came) → Attempt x.object x.aim avoid x.size events (Ok c) → LeavesNone events
attempt-leaves x avoid events c h w actor a b none f = (goes-tale w actor x.object x.aim avoid x.size a b events (Ok c) h.order none f).empty refl

pub tried-enters : (wanted : List Wanted) (avoid : ℕ) (tries : List Try) (events : List Event) → ((x : Wanted) → IsIn x (wanted_by tries) → IsIn x wanted) → Tried avoid tries events → EntersOnly wanted events
tried-enters wanted avoid [] events within h = unmade-enters wanted events (ap made h)
tried-enters wanted avoid (t ∷ tries) events within h =
    subst (λ (es : List Event). EntersOnly wanted es) (sym h.2)
    (enters-append wanted h.0 h.1 (attempt-enters wanted t.0 avoid h.0 (Ok t.1) (within t.0 (inl refl)) h.3) (attempt-leaves t.0 avoid h.0 t.1 h.3)
    (tried-enters wanted avoid tries h.1 (λ x m. within x (inr m)) h.4))
