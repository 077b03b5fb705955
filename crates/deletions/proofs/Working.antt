-- What the parts of a list of discards did, one after the other.
use Rattle.std.proofs.Common.{◌≡◌, inl, inr, ℕ, ◌+◌, ◌-◌, ◌≤◌, ◌<◌, true, false, ◌||◌, List, [], ◌∷◌, ◌++◌, append_assoc, map, length, take, drop, Some, Result, Ok, Err, refl, sym, ap, subst, ◌∙◌, arith, if◌then◌else◌}
use Rattle.std.proofs.Math.Seq.{take-add}
use Rattle.std.proofs.lemmas.Grind.{flat_map-append}
use Rattle.std.proofs.lemmas.List.{append-nil, length-append, length-drop, length-map, length-take, take_all, take_rest}
use Rattle.std.proofs.lemmas.List.Elements.{filter-append}
use Rattle.kinds.specs.declared.refusal.Refusal.{Refusal}
use Rattle.kinds.specs.declared.refusal.Refusal.TheVariants as refused
use Rattle.entries.specs.change_items.declared.reasons.DiscardReason.{DiscardReason}
use Rattle.steps.proofs.Joining.{GoesOn, call_then, does_alone}
use Rattle.steps.specs.Calls.{Call, Does}
use Rattle.steps.specs.Events.{Event, event, refusal_in}
use Rattle.steps.specs.Events.Deed.{Commit}
use Rattle.steps.specs.Receipts.{is_made, made}
use Rattle.copy_attempts.proofs.Facts.{all-append}
use Rattle.copy_attempts.specs.Attempts.{is_passed, is_stopping, stopping}
use Rattle.copy_attempts.specs.Outcomes.{Met}
use Rattle.copy_runs.proofs.Ending.{stopped-behind}
use Rattle.copy_runs.specs.Ends.{IsStopped}
use Rattle.deletions.specs.declared.objects.Doomed.{Doomed}
use Rattle.deletions.specs.declared.objects.Tried.{Tried}
use Rattle.deletions.specs.declared.objects.Tried.TheVariants as came
use Rattle.deletions.specs.Discarding.{AreDiscarding, Breaks, Handled, Handles, IsDiscarding, Tries, Works, discarded, discarding, discards, is_long, items_by, items_in, outcome, refused_as}

-- ---- events one after the other

pub only-append : (reason : DiscardReason) (xs ys : List Event) → AreDiscarding reason xs → AreDiscarding reason ys → AreDiscarding reason (xs ++ ys)
only-append reason xs ys a b = all-append (λ e. IsDiscarding reason e.deed) xs ys a b

pub discards-append : (xs ys : List Event) → discards (made (xs ++ ys)) ≡ discards (made xs) + discards (made ys)
discards-append xs ys =
    ap discards (filter-append (λ e. is_made e.deed) xs ys) ∙ ap length (flat_map-append (λ e. items_by e.deed) (made xs) (made ys)) ∙ length-append (items_in (made xs)) (items_in (made ys))

pub breaks-behind : (reason : DiscardReason) (xs ys : List Event) (e : Refusal) → AreDiscarding reason xs → Breaks reason ys e → Breaks reason (xs ++ ys) e
breaks-behind reason xs ys e only q = record { cause = stopped-behind xs ys e q.cause; only = only-append reason xs ys only q.only }

-- ---- objects that are handled

pub handles-only : (reason : DiscardReason) (objects : List Doomed) (events : List Event) → Handles reason objects events → AreDiscarding reason events
handles-only reason objects [] h = tt
handles-only reason objects (e ∷ events) (inl (run, rest, is, (n, number, few, same), h)) =
    (subst (λ (x : Event). IsDiscarding reason x.deed) (sym same) (run, Ok number, refl), handles-only reason rest events h)
handles-only reason objects (e ∷ events) (inr (inl (it, rest, is, (n, why, passed, same), h))) =
    (subst (λ (x : Event). IsDiscarding reason x.deed) (sym same) (it ∷ [], Err why, refl), handles-only reason rest events h)
handles-only reason objects (e ∷ events) (inr (inr ((n, why, those, refused, same), h))) =
    (subst (λ (x : Event). IsDiscarding reason x.deed) (sym same) (those, Err why, refl), handles-only reason objects events h)

joined-runs : (objects more run rest : List Doomed) → objects ≡ run ++ rest → objects ++ more ≡ run ++ (rest ++ more)
joined-runs objects more run rest is = ap (λ (ls : List Doomed). ls ++ more) is ∙ append_assoc run rest more

-- some objects, and then others
handles-append : (reason : DiscardReason) (objects more : List Doomed) (xs ys : List Event) → Handles reason objects xs → Handles reason more ys → Handles reason (objects ++ more) (xs ++ ys)
handles-append reason objects more [] ys p q = subst (λ (ls : List Doomed). Handles reason (ls ++ more) ys) (sym p) q
handles-append reason objects more (x ∷ xs) ys (inl (run, rest, is, r, h)) q = inl (run, rest ++ more, joined-runs objects more run rest is, r, handles-append reason rest more xs ys h q)
handles-append reason objects more (x ∷ xs) ys (inr (inl (it, rest, is, r, h))) q =
    inr (inl (it, rest ++ more, ap (λ (ls : List Doomed). ls ++ more) is, r, handles-append reason rest more xs ys h q))
handles-append reason objects more (x ∷ xs) ys (inr (inr (r, h))) q = inr (inr (r, handles-append reason objects more xs ys h q))

handled-append : (reason : DiscardReason) (objects more : List Doomed) (xs ys : List Event) (a b : ℕ) → Handled reason objects xs a → Handled reason more ys b
    → Handled reason (objects ++ more) (xs ++ ys) (a + b)
handled-append reason objects more xs ys a b p q = record {
  each = handles-append reason objects more xs ys p.each q.each;
  count = discards-append xs ys ∙ ap (λ n. n + discards (made ys)) p.count ∙ ap (λ n. a + n) q.count;
}

-- ---- one transaction

memory-outcome : (answer : Result ℕ Refusal) → refusal_in answer ≡ Some refused.Memory → outcome answer ≡ Err refused.Memory
memory-outcome (Ok number) h = absurd cc
memory-outcome (Err e) h = let same : e ≡ refused.Memory = cc in ap (λ (x : Refusal). outcome (Err x)) same

pub tries-none : {S : Type 0} (did : S → List Event → S → Type 0) (p : S) (reason : DiscardReason) (objects : List Doomed) (e : Refusal) → did p [] p → e ≡ refused.Memory
    → Call did p p (λ events. Tries reason objects events (Err e))
tries-none did p reason objects e stays h = ([], stays, inl (refl, ap Err h))

pub tries-made : {S : Type 0} (did : S → List Event → S → Type 0) (p q : S) (reason : DiscardReason) (objects : List Doomed) (answer : Result ℕ Refusal) (result : Result Tried Refusal)
    → Does did p q (Commit (discarding reason objects) [] answer) → result ≡ outcome answer → Call did p q (λ events. Tries reason objects events result)
tries-made did p q reason objects answer result d h =
    does_alone did (λ events. Tries reason objects events result) p q (Commit (discarding reason objects) [] answer) d
    (λ n listed. inr (n, answer, refl, h))
    (λ memory. inl (refl, h ∙ memory-outcome answer memory))

pub stopped-by : (events : List Event) (e : Refusal) → Met e events → IsStopped events (stopping e)
stopped-by events e h = elim (is_stopping e) as (λ b. is_stopping e ≡ b → IsStopped events (if b then e else refused.Memory)) [
  | true ↦ λ t. inr (t, h)
  | false ↦ λ t. inl refl
] refl

-- a refusal isn't taken for a removal
refused-not : (e : Refusal) → refused_as e ≡ Ok came.Made → ⊥
refused-not e h =
    elim (is_passed e) as (λ b. (if b then Ok came.Refused else (if is_long e then Ok came.TooLong else Err (stopping e))) ≡ Ok came.Made → ⊥) [
      | true ↦ λ s. cc
      | false ↦ λ s. elim (is_long e) as (λ b. (if b then Ok came.TooLong else Err (stopping e)) ≡ Ok came.Made → ⊥) [
        | true ↦ λ t. cc
        | false ↦ λ t. cc
      ] s
    ] h

refused-passed : (e : Refusal) → refused_as e ≡ Ok came.Refused → is_passed e ≡ true
refused-passed e h =
    elim (is_passed e) as (λ b. (if b then Ok came.Refused else (if is_long e then Ok came.TooLong else Err (stopping e))) ≡ Ok came.Refused → b ≡ true) [
      | true ↦ λ s. refl
      | false ↦ λ s. absurd (elim (is_long e) as (λ b. (if b then Ok came.TooLong else Err (stopping e)) ≡ Ok came.Refused → ⊥) [
        | true ↦ λ t. cc
        | false ↦ λ t. cc
      ] s)
    ] h

refused-long : (e : Refusal) → refused_as e ≡ Ok came.TooLong → (is_passed e || is_long e) ≡ true
refused-long e h =
    elim (is_passed e) as (λ b. (if b then Ok came.Refused else (if is_long e then Ok came.TooLong else Err (stopping e))) ≡ Ok came.TooLong → (b || is_long e) ≡ true) [
      | true ↦ λ s. refl
      | false ↦ λ s. elim (is_long e) as (λ b. (if b then Ok came.TooLong else Err (stopping e)) ≡ Ok came.TooLong → b ≡ true) [
        | true ↦ λ t. refl
        | false ↦ λ t. absurd cc
      ] s
    ] h

refused-ends : (e f : Refusal) → refused_as e ≡ Err f → f ≡ stopping e
refused-ends e f h =
    elim (is_passed e) as (λ b. (if b then Ok came.Refused else (if is_long e then Ok came.TooLong else Err (stopping e))) ≡ Err f → f ≡ stopping e) [
      | true ↦ λ s. absurd cc
      | false ↦ λ s. elim (is_long e) as (λ b. (if b then Ok came.TooLong else Err (stopping e)) ≡ Err f → f ≡ stopping e) [
        | true ↦ λ t. absurd cc
        | false ↦ λ t. cc
      ] s
    ] h

-- what was answered
pub answered : (answer : Result ℕ Refusal) → outcome answer ≡ Ok came.Made → (number : ℕ) × (answer ≡ Ok number)
answered (Ok number) h = (number, refl)
answered (Err e) h = absurd (refused-not e h)

pub passed-by : (answer : Result ℕ Refusal) → outcome answer ≡ Ok came.Refused → (e : Refusal) × (answer ≡ Err e) × (is_passed e ≡ true)
passed-by (Ok number) h = absurd cc
passed-by (Err e) h = (e, refl, refused-passed e h)

pub long-by : (answer : Result ℕ Refusal) → outcome answer ≡ Ok came.TooLong → (e : Refusal) × (answer ≡ Err e) × ((is_passed e || is_long e) ≡ true)
long-by (Ok number) h = absurd cc
long-by (Err e) h = (e, refl, refused-long e h)

pub ended-by : (answer : Result ℕ Refusal) (f : Refusal) → outcome answer ≡ Err f → (e : Refusal) × (answer ≡ Err e) × (f ≡ stopping e)
ended-by (Ok number) f h = absurd cc
ended-by (Err e) f h = (e, refl, refused-ends e f h)

-- ---- a transaction, by what it came to

-- the event of a transaction that was answered so
abbrev tried : ℕ → DiscardReason → List Doomed → Result ℕ Refusal → List Event
tried n reason objects answer = event n (Commit (discarding reason objects) [] answer) ∷ []

-- one that was tried, and what it came to
abbrev Came : DiscardReason → List Doomed → Result Tried Refusal → List Event → Type 0
Came reason objects result events = (n : ℕ) × (answer : Result ℕ Refusal) × (events ≡ tried n reason objects answer) × (outcome answer ≡ result)

not-memory : (t : Tried) (e : Refusal) → Ok t ≡ Err e → ⊥
not-memory t e h = cc

came-ok : (reason : DiscardReason) (objects : List Doomed) (events : List Event) (t : Tried) → Tries reason objects events (Ok t) → Came reason objects (Ok t) events
came-ok reason objects events t (inl h) = absurd (not-memory t refused.Memory h.1)
came-ok reason objects events t (inr h) = (h.0, h.1, h.2, sym h.3)

-- the objects of a transaction are as many as it was made of
spelled : (objects : List Doomed) → length (map discarded objects ++ []) ≡ length objects
spelled objects = ap length (append-nil (map discarded objects)) ∙ length-map objects discarded

handled-run : (n number : ℕ) (reason : DiscardReason) (objects : List Doomed) → length objects ≤ 256 → Handled reason objects (tried n reason objects (Ok number)) (length objects)
handled-run n number reason objects few = record {
  each = inl (objects, [], sym (append-nil objects), (n, number, few, refl), refl);
  count = spelled objects;
}

handled-alone : (n : ℕ) (reason : DiscardReason) (objects : List Doomed) (e : Refusal) → length objects ≡ 1 → is_passed e ≡ true → Handled reason objects (tried n reason objects (Err e)) 0
handled-alone n reason [] e one passed = absurd (omega (arith, one))
handled-alone n reason (l ∷ []) e one passed = record { each = inr (inl (l, [], refl, (n, e, passed, refl), refl)); count = refl }
handled-alone n reason (l ∷ k ∷ objects) e one passed = absurd (omega (arith, one))

-- a refused transaction, and what came behind it
refused-before : (n : ℕ) (reason : DiscardReason) (those objects : List Doomed) (e : Refusal) (ys : List Event) (result : Result ℕ Refusal) → (is_passed e || is_long e) ≡ true
    → Works reason objects ys result → Works reason objects (tried n reason those (Err e) ++ ys) result
refused-before n reason those objects e ys (Ok count) refused h = record { each = inr (inr ((n, e, those, refused, refl), h.each)); count = h.count }
refused-before n reason those objects e ys (Err f) refused h = breaks-behind reason (tried n reason those (Err e)) ys f ((those, Err e, refl), tt) h

came-refused : (n : ℕ) (reason : DiscardReason) (objects : List Doomed) (answer : Result ℕ Refusal) (f : Refusal) → outcome answer ≡ Err f → Breaks reason (tried n reason objects answer) f
came-refused n reason objects answer f h =
    let r = ended-by answer f h in
    subst (λ (x : Refusal). Breaks reason (tried n reason objects answer) x) (sym r.2) (subst (λ (a : Result ℕ Refusal). Breaks reason (tried n reason objects a) (stopping r.0)) (sym r.1)
    (record { cause = stopped-by (tried n reason objects (Err r.0)) r.0 (inl refl); only = ((objects, Err r.0, refl), tt) }))

tried-err : (reason : DiscardReason) (objects : List Doomed) (events : List Event) (e : Refusal) → Tries reason objects events (Err e) → Breaks reason events e
tried-err reason objects events e (inl h) =
    let same : e ≡ refused.Memory = cc in
    subst (λ (x : Refusal). Breaks reason events x) (sym same) (subst (λ (es : List Event). Breaks reason es refused.Memory) (sym h.0) (record { cause = inl refl; only = tt }))
tried-err reason objects events e (inr h) = subst (λ (es : List Event). Breaks reason es e) (sym h.2) (came-refused h.0 reason objects h.1 e (sym h.3))

-- ---- several transactions

pub works-none : {S : Type 0} (did : S → List Event → S → Type 0) (p : S) (reason : DiscardReason) → did p [] p → Call did p p (λ events. Handled reason [] events 0)
works-none did p reason stays = ([], stays, record { each = refl; count = refl })

pub works-next : {S : Type 0} (did : S → List Event → S → Type 0) → GoesOn did → (p q r : S) (reason : DiscardReason) (objects more : List Doomed) (at run a b : ℕ) → more ≡ take run (drop at objects)
    → Call did p q (λ events. Handled reason (take at objects) events a) → Call did q r (λ events. Handled reason more events b)
    → Call did p r (λ events. Handled reason (take (at + run) objects) events (a + b))
works-next did goes p q r reason objects more at run a b is x y =
    subst (λ (ls : List Doomed). Call did p r (λ events. Handled reason ls events (a + b))) (ap (λ (ls : List Doomed). take at objects ++ ls) is ∙ sym (take-add at run objects))
    (call_then did goes (λ events. Handled reason (take at objects) events a) (λ events. Handled reason more events b) (λ events. Handled reason (take at objects ++ more) events (a + b)) p q r x y
    (λ xs ys f g. handled-append reason (take at objects) more xs ys a b f g))

pub works-all : {S : Type 0} (did : S → List Event → S → Type 0) (p q : S) (reason : DiscardReason) (objects : List Doomed) (at a : ℕ) → length objects ≤ at
    → Call did p q (λ events. Handled reason (take at objects) events a) → Call did p q (λ events. Works reason objects events (Ok a))
works-all did p q reason objects at a l x = subst (λ (ls : List Doomed). Call did p q (λ events. Handled reason ls events a)) (take_all at objects l) x

pub works-break : {S : Type 0} (did : S → List Event → S → Type 0) → GoesOn did → (p q r : S) (reason : DiscardReason) (objects : List Doomed) (a : ℕ) (e : Refusal)
    → Call did p q (λ events. Handled reason objects events a) → Call did q r (λ events. Breaks reason events e) → Call did p r (λ events. Breaks reason events e)
works-break did goes p q r reason objects a e x y =
    call_then did goes (λ events. Handled reason objects events a) (λ events. Breaks reason events e) (λ events. Breaks reason events e) p q r x y
    (λ xs ys f g. breaks-behind reason xs ys e (handles-only reason objects xs f.each) g)

-- ---- one transaction, by what it came to

came-call : {S : Type 0} (did : S → List Event → S → Type 0) (p q : S) (reason : DiscardReason) (objects : List Doomed) (t u : Tried) → t ≡ u
    → Call did p q (λ events. Tries reason objects events (Ok t)) → Call did p q (Came reason objects (Ok u))
came-call did p q reason objects t u h c = subst (λ (x : Tried). Call did p q (Came reason objects (Ok x))) h (c.0, c.1, came-ok reason objects c.0 t c.2)

removed-all : (reason : DiscardReason) (objects : List Doomed) (events : List Event) → length objects ≤ 256 → Came reason objects (Ok came.Made) events → Handled reason objects events (length objects)
removed-all reason objects events few c =
    let r = answered c.1 c.3 in
    subst (λ (es : List Event). Handled reason objects es (length objects)) (sym c.2) (subst (λ (x : Result ℕ Refusal). Handled reason objects (tried c.0 reason objects x) (length objects)) (sym r.1)
    (handled-run c.0 r.0 reason objects few))

pub tried-all : {S : Type 0} (did : S → List Event → S → Type 0) (p q : S) (reason : DiscardReason) (objects : List Doomed) (t : Tried) → t ≡ came.Made → length objects ≤ 256
    → Call did p q (λ events. Tries reason objects events (Ok t)) → Call did p q (λ events. Works reason objects events (Ok (length objects)))
tried-all did p q reason objects t h few c = let x = came-call did p q reason objects t came.Made h c in (x.0, x.1, removed-all reason objects x.0 few x.2)

passed-one : (reason : DiscardReason) (objects : List Doomed) (events : List Event) → length objects ≡ 1 → Came reason objects (Ok came.Refused) events → Handled reason objects events 0
passed-one reason objects events one c =
    let r = passed-by c.1 c.3 in
    subst (λ (es : List Event). Handled reason objects es 0) (sym c.2) (subst (λ (x : Result ℕ Refusal). Handled reason objects (tried c.0 reason objects x) 0) (sym r.1)
    (handled-alone c.0 reason objects r.0 one r.2))

pub tried-one : {S : Type 0} (did : S → List Event → S → Type 0) (p q : S) (reason : DiscardReason) (objects : List Doomed) (t : Tried) → t ≡ came.Refused → length objects ≡ 1
    → Call did p q (λ events. Tries reason objects events (Ok t)) → Call did p q (λ events. Works reason objects events (Ok 0))
tried-one did p q reason objects t h one c = let x = came-call did p q reason objects t came.Refused h c in (x.0, x.1, passed-one reason objects x.0 one x.2)

long-ends : (reason : DiscardReason) (objects : List Doomed) (events : List Event) → Came reason objects (Ok came.TooLong) events → Breaks reason events refused.Memory
long-ends reason objects events c = subst (λ (es : List Event). Breaks reason es refused.Memory) (sym c.2) (record { cause = inl refl; only = ((objects, c.1, refl), tt) })

pub tried-long : {S : Type 0} (did : S → List Event → S → Type 0) (p q : S) (reason : DiscardReason) (objects : List Doomed) (t : Tried) → t ≡ came.TooLong
    → Call did p q (λ events. Tries reason objects events (Ok t)) → Call did p q (λ events. Works reason objects events (Err refused.Memory))
tried-long did p q reason objects t h c = let x = came-call did p q reason objects t came.TooLong h c in (x.0, x.1, long-ends reason objects x.0 x.2)

pub tried-breaks : {S : Type 0} (did : S → List Event → S → Type 0) (p q : S) (reason : DiscardReason) (objects : List Doomed) (e : Refusal)
    → Call did p q (λ events. Tries reason objects events (Err e)) → Call did p q (λ events. Works reason objects events (Err e))
tried-breaks did p q reason objects e c = (c.0, c.1, tried-err reason objects c.0 e c.2)

behind-refused : (reason : DiscardReason) (those objects : List Doomed) (xs ys : List Event) (result : Result ℕ Refusal) → Came reason those (Ok came.Refused) xs → Works reason objects ys result
    → Works reason objects (xs ++ ys) result
behind-refused reason those objects xs ys result c h =
    let r = passed-by c.1 c.3 in
    subst (λ (es : List Event). Works reason objects (es ++ ys) result) (sym c.2) (subst (λ (x : Result ℕ Refusal). Works reason objects (tried c.0 reason those x ++ ys) result) (sym r.1)
    (refused-before c.0 reason those objects r.0 ys result (ap (λ b. b || is_long r.0) r.2) h))

behind-long : (reason : DiscardReason) (those objects : List Doomed) (xs ys : List Event) (result : Result ℕ Refusal) → Came reason those (Ok came.TooLong) xs → Works reason objects ys result
    → Works reason objects (xs ++ ys) result
behind-long reason those objects xs ys result c h =
    let r = long-by c.1 c.3 in
    subst (λ (es : List Event). Works reason objects (es ++ ys) result) (sym c.2) (subst (λ (x : Result ℕ Refusal). Works reason objects (tried c.0 reason those x ++ ys) result) (sym r.1)
    (refused-before c.0 reason those objects r.0 ys result r.2 h))

pub refused-then : {S : Type 0} (did : S → List Event → S → Type 0) → GoesOn did → (p q r : S) (reason : DiscardReason) (objects : List Doomed) (t : Tried) (result : Result ℕ Refusal) → t ≡ came.Refused
    → Call did p q (λ events. Tries reason objects events (Ok t)) → Call did q r (λ events. Works reason objects events result) → Call did p r (λ events. Works reason objects events result)
refused-then did goes p q r reason objects t result h a b =
    call_then did goes (Came reason objects (Ok came.Refused)) (λ events. Works reason objects events result) (λ events. Works reason objects events result) p q r
    (came-call did p q reason objects t came.Refused h a) b (λ xs ys f g. behind-refused reason objects objects xs ys result f g)

pub long-then : {S : Type 0} (did : S → List Event → S → Type 0) → GoesOn did → (p q r : S) (reason : DiscardReason) (objects : List Doomed) (t : Tried) (result : Result ℕ Refusal) → t ≡ came.TooLong
    → Call did p q (λ events. Tries reason objects events (Ok t)) → Call did q r (λ events. Works reason objects events result) → Call did p r (λ events. Works reason objects events result)
long-then did goes p q r reason objects t result h a b =
    call_then did goes (Came reason objects (Ok came.TooLong)) (λ events. Works reason objects events result) (λ events. Works reason objects events result) p q r
    (came-call did p q reason objects t came.TooLong h a) b (λ xs ys f g. behind-long reason objects objects xs ys result f g)

-- ---- lengths

pub few-one : (more count place : ℕ) (objects : List Doomed) → count ≤ place → more ≤ length (take (place + 1 - place) (drop place objects)) → count + more ≤ place + 1
few-one more count place objects few h = omega (arith, length-take (place + 1 - place) (drop place objects))

pub one-there : (place : ℕ) (objects : List Doomed) → place < length objects → length (take (place + 1 - place) (drop place objects)) ≡ 1
one-there place objects l = omega (arith, l, length-take (place + 1 - place) (drop place objects), length-drop place objects)

one-more : (n : ℕ) → n + 1 - n ≡ 1
one-more n = omega arith

pub step-one : (place : ℕ) (objects : List Doomed) → take (place + 1 - place) (drop place objects) ≡ take 1 (drop place objects)
step-one place objects = ap (λ n. take n (drop place objects)) (one-more place)

pub next-run : (at run : ℕ) (objects : List Doomed) → take run (take (length objects - at) (drop at objects)) ≡ take run (drop at objects)
next-run at run objects = ap (take run) (take_rest objects at)

pub few-run : (more count at run : ℕ) (rest : List Doomed) → count ≤ at → more ≤ length (take run rest) → count + more ≤ at + run
few-run more count at run rest few h = omega (arith, length-take run rest)

pub within-run : (at run : ℕ) (objects : List Doomed) → at ≤ length objects → run ≤ length (take (length objects - at) (drop at objects)) → at + run ≤ length objects
within-run at run objects l h = omega (arith, length-take (length objects - at) (drop at objects), length-drop at objects)
