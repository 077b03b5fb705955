-- What the parts of an expiration did, one after the other.
use Rattle.std.proofs.Common.{◌≡◌, inl, inr, ℕ, zero, suc, ◌+◌, ◌-◌, ◌≤◌, ◌<◌, get_or, true, false, ◌||◌, List, [], ◌∷◌, ◌++◌, append_assoc, map, length, take, drop, Some, Result, Ok, Err, refl, sym, ap, subst, ◌∙◌, arith, if◌then◌else◌}
use Rattle.std.proofs.Math.Seq.{take-add}
use Rattle.std.proofs.lemmas.Grind.{flat_map-append}
use Rattle.std.proofs.lemmas.List.{append-nil, length-append, length-drop, length-map, length-take, take_all, take_more, take_rest}
use Rattle.std.proofs.lemmas.List.Elements.{filter-append}
use Rattle.kinds.specs.declared.refusal.Refusal.{Refusal}
use Rattle.kinds.specs.declared.refusal.Refusal.TheVariants as refusal
use Rattle.inventory_answers.specs.declared.query.Query.{Query}
use Rattle.inventory_answers.specs.declared.query.Query.TheVariants as query
use Rattle.inventory_answers.specs.declared.reply.Answer.{Answer}
use Rattle.inventory_answers.specs.declared.reply.Rows.TheVariants as rows
use Rattle.inventory_work.specs.declared.lines.UnretainedLine.{UnretainedLine}
use Rattle.steps.proofs.Acknowledged.{receipts-behind}
use Rattle.steps.proofs.Joining.{GoesOn, call_then, does_alone}
use Rattle.steps.specs.Calls.{Call, Does}
use Rattle.steps.specs.Events.{Event, event, refusal_in}
use Rattle.steps.specs.Events.Deed.{Ask, Commit, Force}
use Rattle.steps.specs.Receipts.{is_made, made, receipts}
use Rattle.expiration.proofs.Exact.{all-exact}
use Rattle.expiration.proofs.Rows.{all-expired}
use Rattle.expiration.specs.declared.lines.Tried.{Tried}
use Rattle.expiration.specs.declared.lines.Tried.TheVariants as came
use Rattle.expiration.specs.Expiring.{AreExpiring, AreOf, AsksToday, Breaks, Expiration, Finishes, Handled, Handles, IsCaused, IsExpiring, IsFinish, Lists, Met, Tries, Works, ending, is_ending, is_long, is_passed, line_of, lines_by, named, refused_as, removed, removed_lines, removing, outcome}

-- ---- events one after the other

pub only-append : (xs ys : List Event) → AreExpiring xs → AreExpiring ys → AreExpiring (xs ++ ys)
only-append [] ys a b = b
only-append (x ∷ xs) ys a b = (a.0, only-append xs ys a.1 b)

met-behind : (xs ys : List Event) (e : Refusal) → Met e ys → Met e (xs ++ ys)
met-behind [] ys e h = h
met-behind (x ∷ xs) ys e h = inr (met-behind xs ys e h)

caused-behind : (xs ys : List Event) (e : Refusal) → IsCaused ys e → IsCaused (xs ++ ys) e
caused-behind xs ys e (inl h) = inl h
caused-behind xs ys e (inr h) = inr (h.0, met-behind xs ys e h.1)

removed-append : (xs ys : List Event) → removed (made (xs ++ ys)) ≡ removed (made xs) + removed (made ys)
removed-append xs ys =
    ap removed (filter-append (λ e. is_made e.deed) xs ys) ∙ ap length (flat_map-append (λ e. lines_by e.deed) (made xs) (made ys)) ∙ length-append (removed_lines (made xs)) (removed_lines (made ys))

pub breaks-behind : (xs ys : List Event) (e : Refusal) → AreExpiring xs → Breaks ys e → Breaks (xs ++ ys) e
breaks-behind xs ys e only q = record { cause = caused-behind xs ys e q.cause; only = only-append xs ys only q.only }

-- ---- objects that are handled

-- what handles objects is the removal of objects
pub handles-only : (lines : List UnretainedLine) (events : List Event) → Handles lines events → AreExpiring events
handles-only lines [] h = tt
handles-only lines (e ∷ events) (inl (run, rest, is, (n, number, filespace, of, same), h)) =
    (subst (λ (x : Event). IsExpiring x.deed) (sym same) (filespace, run, refl, refl), handles-only rest events h)
handles-only lines (e ∷ events) (inr (inl (line, rest, is, (n, why, passed, same), h))) =
    (subst (λ (x : Event). IsExpiring x.deed) (sym same) (line.filespace, line ∷ [], refl, refl), handles-only rest events h)
handles-only lines (e ∷ events) (inr (inr ((n, why, filespace, those, refused, same), h))) =
    (subst (λ (x : Event). IsExpiring x.deed) (sym same) (filespace, those, refl, refl), handles-only lines events h)

joined-runs : (lines more run rest : List UnretainedLine) → lines ≡ run ++ rest → lines ++ more ≡ run ++ (rest ++ more)
joined-runs lines more run rest is = ap (λ (ls : List UnretainedLine). ls ++ more) is ∙ append_assoc run rest more

-- some objects, and then others
handles-append : (lines more : List UnretainedLine) (xs ys : List Event) → Handles lines xs → Handles more ys → Handles (lines ++ more) (xs ++ ys)
handles-append lines more [] ys p q = subst (λ (ls : List UnretainedLine). Handles (ls ++ more) ys) (sym p) q
handles-append lines more (x ∷ xs) ys (inl (run, rest, is, r, h)) q = inl (run, rest ++ more, joined-runs lines more run rest is, r, handles-append rest more xs ys h q)
handles-append lines more (x ∷ xs) ys (inr (inl (line, rest, is, r, h))) q = inr (inl (line, rest ++ more, ap (λ (ls : List UnretainedLine). ls ++ more) is, r, handles-append rest more xs ys h q))
handles-append lines more (x ∷ xs) ys (inr (inr (r, h))) q = inr (inr (r, handles-append lines more xs ys h q))

handled-append : (lines more : List UnretainedLine) (xs ys : List Event) (a b : ℕ) → Handled lines xs a → Handled more ys b → Handled (lines ++ more) (xs ++ ys) (a + b)
handled-append lines more xs ys a b p q = record {
  each = handles-append lines more xs ys p.each q.each;
  count = removed-append xs ys ∙ ap (λ n. n + removed (made ys)) p.count ∙ ap (λ n. a + n) q.count;
}

-- ---- one transaction

memory-outcome : (answer : Result ℕ Refusal) → refusal_in answer ≡ Some refusal.Memory → outcome answer ≡ Err refusal.Memory
memory-outcome (Ok number) h = absurd cc
memory-outcome (Err e) h = let same : e ≡ refusal.Memory = cc in ap (λ (x : Refusal). outcome (Err x)) same

pub tries-none : {S : Type 0} (did : S → List Event → S → Type 0) (p : S) (filespace : ℕ) (lines : List UnretainedLine) (e : Refusal) → did p [] p → e ≡ refusal.Memory
    → Call did p p (λ events. Tries filespace lines events (Err e))
tries-none did p filespace lines e stays h = ([], stays, inl (refl, ap Err h))

pub tries-made : {S : Type 0} (did : S → List Event → S → Type 0) (p q : S) (filespace : ℕ) (lines : List UnretainedLine) (answer : Result ℕ Refusal) (result : Result Tried Refusal)
    → Does did p q (Commit (removing filespace lines) [] answer) → result ≡ outcome answer → Call did p q (λ events. Tries filespace lines events result)
tries-made did p q filespace lines answer result d h =
    does_alone did (λ events. Tries filespace lines events result) p q (Commit (removing filespace lines) [] answer) d
    (λ n listed. inr (n, answer, refl, h))
    (λ memory. inl (refl, h ∙ memory-outcome answer memory))

-- it ends a run, or stands for want of memory
ending-caused : (events : List Event) (e : Refusal) → Met e events → IsCaused events (ending e)
ending-caused events e met =
    elim (is_ending e) as (λ b. is_ending e ≡ b → IsCaused events (if b then e else refusal.Memory)) [
      | true ↦ λ h. inr (h, met)
      | false ↦ λ h. inl refl
    ] refl

-- a refusal isn't taken for a removal
refused-not : (e : Refusal) → refused_as e ≡ Ok came.Removed → ⊥
refused-not e h =
    elim (is_passed e) as (λ b. (if b then Ok came.Refused else (if is_long e then Ok came.TooLong else Err (ending e))) ≡ Ok came.Removed → ⊥) [
      | true ↦ λ s. cc
      | false ↦ λ s. elim (is_long e) as (λ b. (if b then Ok came.TooLong else Err (ending e)) ≡ Ok came.Removed → ⊥) [
        | true ↦ λ t. cc
        | false ↦ λ t. cc
      ] s
    ] h

refused-passed : (e : Refusal) → refused_as e ≡ Ok came.Refused → is_passed e ≡ true
refused-passed e h =
    elim (is_passed e) as (λ b. (if b then Ok came.Refused else (if is_long e then Ok came.TooLong else Err (ending e))) ≡ Ok came.Refused → b ≡ true) [
      | true ↦ λ s. refl
      | false ↦ λ s. absurd (elim (is_long e) as (λ b. (if b then Ok came.TooLong else Err (ending e)) ≡ Ok came.Refused → ⊥) [
        | true ↦ λ t. cc
        | false ↦ λ t. cc
      ] s)
    ] h

refused-long : (e : Refusal) → refused_as e ≡ Ok came.TooLong → (is_passed e || is_long e) ≡ true
refused-long e h =
    elim (is_passed e) as (λ b. (if b then Ok came.Refused else (if is_long e then Ok came.TooLong else Err (ending e))) ≡ Ok came.TooLong → (b || is_long e) ≡ true) [
      | true ↦ λ s. refl
      | false ↦ λ s. elim (is_long e) as (λ b. (if b then Ok came.TooLong else Err (ending e)) ≡ Ok came.TooLong → b ≡ true) [
        | true ↦ λ t. refl
        | false ↦ λ t. absurd cc
      ] s
    ] h

refused-ends : (e f : Refusal) → refused_as e ≡ Err f → f ≡ ending e
refused-ends e f h =
    elim (is_passed e) as (λ b. (if b then Ok came.Refused else (if is_long e then Ok came.TooLong else Err (ending e))) ≡ Err f → f ≡ ending e) [
      | true ↦ λ s. absurd cc
      | false ↦ λ s. elim (is_long e) as (λ b. (if b then Ok came.TooLong else Err (ending e)) ≡ Err f → f ≡ ending e) [
        | true ↦ λ t. absurd cc
        | false ↦ λ t. cc
      ] s
    ] h

-- what was answered
answered : (answer : Result ℕ Refusal) → outcome answer ≡ Ok came.Removed → (number : ℕ) × (answer ≡ Ok number)
answered (Ok number) h = (number, refl)
answered (Err e) h = absurd (refused-not e h)

passed-by : (answer : Result ℕ Refusal) → outcome answer ≡ Ok came.Refused → (e : Refusal) × (answer ≡ Err e) × (is_passed e ≡ true)
passed-by (Ok number) h = absurd cc
passed-by (Err e) h = (e, refl, refused-passed e h)

long-by : (answer : Result ℕ Refusal) → outcome answer ≡ Ok came.TooLong → (e : Refusal) × (answer ≡ Err e) × ((is_passed e || is_long e) ≡ true)
long-by (Ok number) h = absurd cc
long-by (Err e) h = (e, refl, refused-long e h)

ended-by : (answer : Result ℕ Refusal) (f : Refusal) → outcome answer ≡ Err f → (e : Refusal) × (answer ≡ Err e) × (f ≡ ending e)
ended-by (Ok number) f h = absurd cc
ended-by (Err e) f h = (e, refl, refused-ends e f h)

-- ---- a transaction, by what it came to

-- the event of a transaction that was answered so
abbrev tried : ℕ → ℕ → List UnretainedLine → Result ℕ Refusal → List Event
tried n filespace lines answer = event n (Commit (removing filespace lines) [] answer) ∷ []

-- one that was tried, and what it came to
abbrev Came : ℕ → List UnretainedLine → Result Tried Refusal → List Event → Type 0
Came filespace lines result events = (n : ℕ) × (answer : Result ℕ Refusal) × (events ≡ tried n filespace lines answer) × (outcome answer ≡ result)

not-memory : (t : Tried) (e : Refusal) → Ok t ≡ Err e → ⊥
not-memory t e h = cc

came-ok : (filespace : ℕ) (lines : List UnretainedLine) (events : List Event) (t : Tried) → Tries filespace lines events (Ok t) → Came filespace lines (Ok t) events
came-ok filespace lines events t (inl h) = absurd (not-memory t refusal.Memory h.1)
came-ok filespace lines events t (inr h) = (h.0, h.1, h.2, sym h.3)

-- the lines of a transaction are those that it was made of
spelled : (filespace : ℕ) (lines : List UnretainedLine) → length (map (line_of filespace) (map named lines) ++ []) ≡ length lines
spelled filespace lines = ap length (append-nil (map (line_of filespace) (map named lines))) ∙ length-map (map named lines) (line_of filespace) ∙ length-map lines named

handled-run : (n number filespace : ℕ) (lines : List UnretainedLine) → AreOf filespace lines → Handled lines (tried n filespace lines (Ok number)) (length lines)
handled-run n number filespace lines of = record {
  each = inl (lines, [], sym (append-nil lines), (n, number, filespace, of, refl), refl);
  count = spelled filespace lines;
}

handled-passed : (n filespace : ℕ) (l : UnretainedLine) (e : Refusal) → l.filespace ≡ filespace → is_passed e ≡ true → Handled (l ∷ []) (tried n filespace (l ∷ []) (Err e)) 0
handled-passed n filespace l e is passed = record {
  each = inr (inl (l, [], refl, (n, e, passed, ap (λ (f : ℕ). event n (Commit (removing f (l ∷ [])) [] (Err e))) (sym is)), refl));
  count = refl;
}

handled-alone : (n filespace : ℕ) (lines : List UnretainedLine) (e : Refusal) → AreOf filespace lines → length lines ≡ 1 → is_passed e ≡ true → Handled lines (tried n filespace lines (Err e)) 0
handled-alone n filespace [] e of one passed = absurd (omega (arith, one))
handled-alone n filespace (l ∷ []) e of one passed = handled-passed n filespace l e of.0 passed
handled-alone n filespace (l ∷ k ∷ lines) e of one passed = absurd (omega (arith, one))

-- a refused transaction, and what came behind it
refused-before : (n filespace : ℕ) (those lines : List UnretainedLine) (e : Refusal) (ys : List Event) (result : Result ℕ Refusal) → (is_passed e || is_long e) ≡ true → Works lines ys result
    → Works lines (tried n filespace those (Err e) ++ ys) result
refused-before n filespace those lines e ys (Ok count) refused h = record {
  each = inr (inr ((n, e, filespace, those, refused, refl), h.each));
  count = h.count;
}
refused-before n filespace those lines e ys (Err f) refused h = breaks-behind (tried n filespace those (Err e)) ys f ((filespace, those, refl, refl), tt) h

came-refused : (n filespace : ℕ) (lines : List UnretainedLine) (answer : Result ℕ Refusal) (f : Refusal) → outcome answer ≡ Err f → Breaks (tried n filespace lines answer) f
came-refused n filespace lines answer f h =
    let r = ended-by answer f h in
    subst (λ (x : Refusal). Breaks (tried n filespace lines answer) x) (sym r.2) (subst (λ (a : Result ℕ Refusal). Breaks (tried n filespace lines a) (ending r.0)) (sym r.1)
    (record { cause = ending-caused (tried n filespace lines (Err r.0)) r.0 (inl refl); only = ((filespace, lines, refl, refl), tt) }))

tried-err : (filespace : ℕ) (lines : List UnretainedLine) (events : List Event) (e : Refusal) → Tries filespace lines events (Err e) → Breaks events e
tried-err filespace lines events e (inl h) =
    let same : e ≡ refusal.Memory = cc in
    subst (λ (x : Refusal). Breaks events x) (sym same) (subst (λ (es : List Event). Breaks es refusal.Memory) (sym h.0) (record { cause = inl refl; only = tt }))
tried-err filespace lines events e (inr h) = subst (λ (es : List Event). Breaks es e) (sym h.2) (came-refused h.0 filespace lines h.1 e (sym h.3))

-- ---- several transactions

-- nothing was done yet
pub works-none : {S : Type 0} (did : S → List Event → S → Type 0) (p : S) → did p [] p → Call did p p (λ events. Handled [] events 0)
works-none did p stays = ([], stays, record { each = refl; count = refl })

-- more were removed
works-more : {S : Type 0} (did : S → List Event → S → Type 0) → GoesOn did → (p q r : S) (lines more : List UnretainedLine) (a b : ℕ) → Call did p q (λ events. Handled lines events a)
    → Call did q r (λ events. Handled more events b) → Call did p r (λ events. Handled (lines ++ more) events (a + b))
works-more did goes p q r lines more a b x y =
    call_then did goes (λ events. Handled lines events a) (λ events. Handled more events b) (λ events. Handled (lines ++ more) events (a + b)) p q r x y
    (λ xs ys f g. handled-append lines more xs ys a b f g)

-- those that come next
pub works-next : {S : Type 0} (did : S → List Event → S → Type 0) → GoesOn did → (p q r : S) (lines more : List UnretainedLine) (at run a b : ℕ) → more ≡ take run (drop at lines)
    → Call did p q (λ events. Handled (take at lines) events a) → Call did q r (λ events. Handled more events b) → Call did p r (λ events. Handled (take (at + run) lines) events (a + b))
works-next did goes p q r lines more at run a b is x y =
    subst (λ (ls : List UnretainedLine). Call did p r (λ events. Handled ls events (a + b))) (ap (λ (ls : List UnretainedLine). take at lines ++ ls) is ∙ sym (take-add at run lines))
    (works-more did goes p q r (take at lines) more a b x y)

-- all of them
pub works-all : {S : Type 0} (did : S → List Event → S → Type 0) (p q : S) (lines : List UnretainedLine) (at a : ℕ) → length lines ≤ at → Call did p q (λ events. Handled (take at lines) events a)
    → Call did p q (λ events. Works lines events (Ok a))
works-all did p q lines at a l x = subst (λ (ls : List UnretainedLine). Call did p q (λ events. Handled ls events a)) (take_all at lines l) x

-- it broke behind what was removed
pub works-break : {S : Type 0} (did : S → List Event → S → Type 0) → GoesOn did → (p q r : S) (lines : List UnretainedLine) (a : ℕ) (e : Refusal) → Call did p q (λ events. Handled lines events a)
    → Call did q r (λ events. Breaks events e) → Call did p r (λ events. Breaks events e)
works-break did goes p q r lines a e x y =
    call_then did goes (λ events. Handled lines events a) (λ events. Breaks events e) (λ events. Breaks events e) p q r x y (λ xs ys f g. breaks-behind xs ys e (handles-only lines xs f.each) g)

-- ---- one transaction, by what it came to

came-call : {S : Type 0} (did : S → List Event → S → Type 0) (p q : S) (filespace : ℕ) (lines : List UnretainedLine) (t u : Tried) → t ≡ u
    → Call did p q (λ events. Tries filespace lines events (Ok t)) → Call did p q (Came filespace lines (Ok u))
came-call did p q filespace lines t u h c = subst (λ (x : Tried). Call did p q (Came filespace lines (Ok x))) h (c.0, c.1, came-ok filespace lines c.0 t c.2)

-- all are removed
removed-all : (filespace : ℕ) (lines : List UnretainedLine) (events : List Event) → AreOf filespace lines → Came filespace lines (Ok came.Removed) events → Handled lines events (length lines)
removed-all filespace lines events of c =
    let r = answered c.1 c.3 in
    subst (λ (es : List Event). Handled lines es (length lines)) (sym c.2) (subst (λ (x : Result ℕ Refusal). Handled lines (tried c.0 filespace lines x) (length lines)) (sym r.1)
    (handled-run c.0 r.0 filespace lines of))

pub tried-all : {S : Type 0} (did : S → List Event → S → Type 0) (p q : S) (filespace : ℕ) (lines : List UnretainedLine) (t : Tried) → t ≡ came.Removed → AreOf filespace lines
    → Call did p q (λ events. Tries filespace lines events (Ok t)) → Call did p q (λ events. Works lines events (Ok (length lines)))
tried-all did p q filespace lines t h of c = let x = came-call did p q filespace lines t came.Removed h c in (x.0, x.1, removed-all filespace lines x.0 of x.2)

-- the one is passed over
passed-one : (filespace : ℕ) (lines : List UnretainedLine) (events : List Event) → AreOf filespace lines → length lines ≡ 1 → Came filespace lines (Ok came.Refused) events → Handled lines events 0
passed-one filespace lines events of one c =
    let r = passed-by c.1 c.3 in
    subst (λ (es : List Event). Handled lines es 0) (sym c.2) (subst (λ (x : Result ℕ Refusal). Handled lines (tried c.0 filespace lines x) 0) (sym r.1)
    (handled-alone c.0 filespace lines r.0 of one r.2))

pub tried-one : {S : Type 0} (did : S → List Event → S → Type 0) (p q : S) (filespace : ℕ) (lines : List UnretainedLine) (t : Tried) → t ≡ came.Refused → AreOf filespace lines → length lines ≡ 1
    → Call did p q (λ events. Tries filespace lines events (Ok t)) → Call did p q (λ events. Works lines events (Ok 0))
tried-one did p q filespace lines t h of one c = let x = came-call did p q filespace lines t came.Refused h c in (x.0, x.1, passed-one filespace lines x.0 of one x.2)

-- want of memory ends it
long-ends : (filespace : ℕ) (lines : List UnretainedLine) (events : List Event) → Came filespace lines (Ok came.TooLong) events → Breaks events refusal.Memory
long-ends filespace lines events c = subst (λ (es : List Event). Breaks es refusal.Memory) (sym c.2) (record { cause = inl refl; only = ((filespace, lines, refl, refl), tt) })

pub tried-long : {S : Type 0} (did : S → List Event → S → Type 0) (p q : S) (filespace : ℕ) (lines : List UnretainedLine) (t : Tried) → t ≡ came.TooLong
    → Call did p q (λ events. Tries filespace lines events (Ok t)) → Call did p q (λ events. Works lines events (Err refusal.Memory))
tried-long did p q filespace lines t h c = let x = came-call did p q filespace lines t came.TooLong h c in (x.0, x.1, long-ends filespace lines x.0 x.2)

pub tried-breaks : {S : Type 0} (did : S → List Event → S → Type 0) (p q : S) (filespace : ℕ) (lines : List UnretainedLine) (e : Refusal)
    → Call did p q (λ events. Tries filespace lines events (Err e))
    → Call did p q (λ events. Works lines events (Err e))
tried-breaks did p q filespace lines e c = (c.0, c.1, tried-err filespace lines c.0 e c.2)

-- where it was refused, and what followed
behind-refused : (filespace : ℕ) (those lines : List UnretainedLine) (xs ys : List Event) (result : Result ℕ Refusal) → Came filespace those (Ok came.Refused) xs → Works lines ys result
    → Works lines (xs ++ ys) result
behind-refused filespace those lines xs ys result c h =
    let r = passed-by c.1 c.3 in
    subst (λ (es : List Event). Works lines (es ++ ys) result) (sym c.2) (subst (λ (x : Result ℕ Refusal). Works lines (tried c.0 filespace those x ++ ys) result) (sym r.1)
    (refused-before c.0 filespace those lines r.0 ys result (ap (λ b. b || is_long r.0) r.2) h))

behind-long : (filespace : ℕ) (those lines : List UnretainedLine) (xs ys : List Event) (result : Result ℕ Refusal) → Came filespace those (Ok came.TooLong) xs → Works lines ys result
    → Works lines (xs ++ ys) result
behind-long filespace those lines xs ys result c h =
    let r = long-by c.1 c.3 in
    subst (λ (es : List Event). Works lines (es ++ ys) result) (sym c.2) (subst (λ (x : Result ℕ Refusal). Works lines (tried c.0 filespace those x ++ ys) result) (sym r.1)
    (refused-before c.0 filespace those lines r.0 ys result r.2 h))

pub refused-then : {S : Type 0} (did : S → List Event → S → Type 0) → GoesOn did → (p q r : S) (filespace : ℕ) (lines : List UnretainedLine) (t : Tried) (result : Result ℕ Refusal) → t ≡ came.Refused
    → Call did p q (λ events. Tries filespace lines events (Ok t)) → Call did q r (λ events. Works lines events result) → Call did p r (λ events. Works lines events result)
refused-then did goes p q r filespace lines t result h a b =
    call_then did goes (Came filespace lines (Ok came.Refused)) (λ events. Works lines events result) (λ events. Works lines events result) p q r
    (came-call did p q filespace lines t came.Refused h a) b
    (λ xs ys f g. behind-refused filespace lines lines xs ys result f g)

pub long-then : {S : Type 0} (did : S → List Event → S → Type 0) → GoesOn did → (p q r : S) (filespace : ℕ) (lines : List UnretainedLine) (t : Tried) (result : Result ℕ Refusal) → t ≡ came.TooLong
    → Call did p q (λ events. Tries filespace lines events (Ok t)) → Call did q r (λ events. Works lines events result) → Call did p r (λ events. Works lines events result)
long-then did goes p q r filespace lines t result h a b =
    call_then did goes (Came filespace lines (Ok came.TooLong)) (λ events. Works lines events result) (λ events. Works lines events result) p q r
    (came-call did p q filespace lines t came.TooLong h a) b
    (λ xs ys f g. behind-long filespace lines lines xs ys result f g)

-- ---- asking, and the end

ask-breaks : (n : ℕ) (q : Query) (e : Refusal) → Breaks (event n (Ask q (Err e)) ∷ []) (ending e)
ask-breaks n q e = record { cause = ending-caused (event n (Ask q (Err e)) ∷ []) e (inl refl); only = (tt, tt) }

force-breaks : (n : ℕ) (e : Refusal) → Breaks (event n (Force (Err e)) ∷ []) (ending e)
force-breaks n e = record { cause = ending-caused (event n (Force (Err e)) ∷ []) e (inl refl); only = (tt, tt) }

none-breaks : (e : Refusal) → Some e ≡ Some refusal.Memory → Breaks [] (ending e)
none-breaks e h = let same : e ≡ refusal.Memory = cc in record { cause = inl (ap ending same); only = tt }

-- what wasn't answered
pub asks-breaks : {S : Type 0} (did : S → List Event → S → Type 0) (p q : S) (query : Query) (e : Refusal) → Does did p q (Ask query (Err e)) → Call did p q (λ events. Breaks events (ending e))
asks-breaks did p q query e d = does_alone did (λ events. Breaks events (ending e)) p q (Ask query (Err e)) d (λ n listed. ask-breaks n query e) (λ h. none-breaks e h)

-- the lines were listed
pub asks-lists : {S : Type 0} (did : S → List Event → S → Type 0) (p q : S) (answer : Answer) (lines : List UnretainedLine) → Does did p q (Ask query.Unretained (Ok answer))
    → answer.rows ≡ rows.Unretained lines
    → Call did p q (λ events. Lists events (Ok lines))
asks-lists did p q answer lines d h = does_alone did (λ events. Lists events (Ok lines)) p q (Ask query.Unretained (Ok answer)) d (λ n listed. (n, answer, refl, h)) (λ m. absurd cc)

-- an answer without lines
pub asks-nothing : {S : Type 0} (did : S → List Event → S → Type 0) (p q : S) (query : Query) (answer : Answer) → Does did p q (Ask query (Ok answer))
    → Call did p q (λ events. Breaks events refusal.Memory)
asks-nothing did p q query answer d =
    does_alone did (λ events. Breaks events refusal.Memory) p q (Ask query (Ok answer)) d (λ n listed. record { cause = inl refl; only = (tt, tt) }) (λ m. absurd cc)

pub asks-today : {S : Type 0} (did : S → List Event → S → Type 0) (p q : S) (answer : Answer) → Does did p q (Ask query.Today (Ok answer)) → Call did p q (λ events. AsksToday events (Ok tt))
asks-today did p q answer d = does_alone did (λ events. AsksToday events (Ok tt)) p q (Ask query.Today (Ok answer)) d (λ n listed. (n, answer, refl)) (λ m. absurd cc)

pub forces-break : {S : Type 0} (did : S → List Event → S → Type 0) (p q : S) (e : Refusal) → Does did p q (Force (Err e)) → Call did p q (λ events. Breaks events (ending e))
forces-break did p q e d = does_alone did (λ events. Breaks events (ending e)) p q (Force (Err e)) d (λ n listed. force-breaks n e) (λ h. none-breaks e h)

-- all was made durable, and then the number was asked
finish-of : (n m number : ℕ) (answer : Answer) → IsFinish (event n (Force (Ok number)) ∷ event m (Ask query.Today (Ok answer)) ∷ [])
finish-of n m number answer = record { forced = refl; none = refl; only = (tt, (tt, tt)) }

joined-finish : (xs ys : List Event) (number : ℕ) (result : Result (Unit {0}) Refusal) → (n : ℕ) × (xs ≡ event n (Force (Ok number)) ∷ []) → AsksToday ys result → Finishes (xs ++ ys) result
joined-finish xs ys number (Ok done) f g =
    subst (λ (es : List Event). Finishes (es ++ ys) (Ok done)) (sym f.1) (subst (λ (es : List Event). Finishes (event f.0 (Force (Ok number)) ∷ es) (Ok done)) (sym g.2) (finish-of f.0 g.0 number g.1))
joined-finish xs ys number (Err e) f g =
    breaks-behind xs ys e (subst AreExpiring (sym f.1) (tt, tt)) g

pub finishes : {S : Type 0} (did : S → List Event → S → Type 0) → GoesOn did → (p q r : S) (number : ℕ) (result : Result (Unit {0}) Refusal) → Call did q r (λ events. AsksToday events result)
    → Does did p q (Force (Ok number)) → Call did p r (λ events. Finishes events result)
finishes did goes p q r number result a d =
    call_then did goes (λ events. (n : ℕ) × (events ≡ event n (Force (Ok number)) ∷ [])) (λ events. AsksToday events result) (λ events. Finishes events result) p q r
    (does_alone did (λ events. (n : ℕ) × (events ≡ event n (Force (Ok number)) ∷ [])) p q (Force (Ok number)) d (λ n listed. (n, refl)) (λ m. absurd cc))
    a (λ xs ys f g. joined-finish xs ys number result f g)

-- ---- the whole

lists-only : (events : List Event) (lines : List UnretainedLine) → Lists events (Ok lines) → AreExpiring events
lists-only events lines h = subst AreExpiring (sym h.2) (tt, tt)

lists-none : (events : List Event) (lines : List UnretainedLine) → Lists events (Ok lines) → made events ≡ []
lists-none events lines h = ap made h.2

-- what is acknowledged is what the middle of the steps made
acknowledged : (xs ys zs : List Event) (lines : List UnretainedLine) → Lists xs (Ok lines) → IsFinish zs → receipts ((xs ++ ys) ++ zs) ≡ made ys
acknowledged xs ys zs lines a c =
    receipts-behind (xs ++ ys) zs c.forced ∙ ap (λ (r : List Event). made (xs ++ ys) ++ r) c.none ∙ append-nil (made (xs ++ ys))
    ∙ filter-append (λ e. is_made e.deed) xs ys ∙ ap (λ (m : List Event). m ++ made ys) (lists-none xs lines a)

-- a count, or the refusal that came after it
abbrev pub ended_by : ℕ → Result (Unit {0}) Refusal → Result ℕ Refusal
ended_by count (Ok done) = Ok count
ended_by count (Err e) = Err e

finished : (xs ys zs : List Event) (lines : List UnretainedLine) (count : ℕ) → Lists xs (Ok lines) → Handled lines ys count → IsFinish zs → Expiration ((xs ++ ys) ++ zs) (Ok count)
finished xs ys zs lines count a b c =
    let there : receipts ((xs ++ ys) ++ zs) ≡ made ys = acknowledged xs ys zs lines a c in
    record {
      count = sym b.count ∙ ap removed (sym there);
      expired = all-expired xs ys zs lines a b.each c.forced;
      exact = all-exact xs ys zs lines a b.each there;
      cause = tt;
      only = only-append (xs ++ ys) zs (only-append xs ys (lists-only xs lines a) (handles-only lines ys b.each)) c.only;
    }

broken : (events : List Event) (e : Refusal) → Breaks events e → Expiration events (Err e)
broken events e h = record { count = tt; expired = tt; exact = tt; cause = h.cause; only = h.only }

-- it ended behind what was listed, and behind what was handled
listed-break : (xs ys : List Event) (lines : List UnretainedLine) (e : Refusal) → Lists xs (Ok lines) → Breaks ys e → Breaks (xs ++ ys) e
listed-break xs ys lines e a b = breaks-behind xs ys e (lists-only xs lines a) b

-- listed, removed and finished
all-done : {S : Type 0} (did : S → List Event → S → Type 0) → GoesOn did → (p q r s : S) (lines : List UnretainedLine) (count : ℕ) (result : Result (Unit {0}) Refusal)
    → Call did p q (λ events. Lists events (Ok lines)) → Call did q r (λ events. Works lines events (Ok count)) → Call did r s (λ events. Finishes events result)
    → Call did p s (λ events. Expiration events (ended_by count result))
all-done did goes p q r s lines count (Ok done) a b c =
    call_then did goes (λ events. (xs : List Event) × (ys : List Event) × (events ≡ xs ++ ys) × Lists xs (Ok lines) × Handled lines ys count) (λ events. IsFinish events)
    (λ events. Expiration events (Ok count)) p r s
    (call_then did goes (λ events. Lists events (Ok lines)) (λ events. Handled lines events count)
    (λ events. (xs : List Event) × (ys : List Event) × (events ≡ xs ++ ys) × Lists xs (Ok lines) × Handled lines ys count) p q r a b
    (λ xs ys f g. (xs, ys, refl, f, g)))
    c (λ xs zs f g. subst (λ (es : List Event). Expiration (es ++ zs) (Ok count)) (sym f.2) (finished f.0 f.1 zs lines count f.3 f.4 g))
all-done did goes p q r s lines count (Err e) a b c =
    call_then did goes (λ events. Lists events (Ok lines)) (λ events. Breaks events e) (λ events. Expiration events (Err e)) p q s a (works-break did goes q r s lines count e b c)
    (λ xs ys f g. broken (xs ++ ys) e (listed-break xs ys lines e f g))

pub expires : {S : Type 0} (did : S → List Event → S → Type 0) → GoesOn did → (p q r s : S) (lines those : List UnretainedLine) (count : ℕ) (result : Result (Unit {0}) Refusal) → those ≡ lines
    → Call did p q (λ events. Lists events (Ok lines)) → Call did q r (λ events. Works those events (Ok count)) → Call did r s (λ events. Finishes events result)
    → Call did p s (λ events. Expiration events (ended_by count result))
expires did goes p q r s lines those count result same a b c =
    all-done did goes p q r s lines count result a (subst (λ (ls : List UnretainedLine). Call did q r (λ events. Works ls events (Ok count))) same b) c

pub expire-breaks : {S : Type 0} (did : S → List Event → S → Type 0) → GoesOn did → (p q r : S) (lines : List UnretainedLine) (e : Refusal)
    → Call did p q (λ events. Lists events (Ok lines)) → Call did q r (λ events. Works lines events (Err e)) → Call did p r (λ events. Expiration events (Err e))
expire-breaks did goes p q r lines e a b =
    call_then did goes (λ events. Lists events (Ok lines)) (λ events. Breaks events e) (λ events. Expiration events (Err e)) p q r a b
    (λ xs ys f g. broken (xs ++ ys) e (listed-break xs ys lines e f g))

pub list-breaks : {S : Type 0} (did : S → List Event → S → Type 0) (p q : S) (e : Refusal) → Call did p q (λ events. Lists events (Err e)) → Call did p q (λ events. Expiration events (Err e))
list-breaks did p q e a = (a.0, a.1, broken a.0 e a.2)

-- ---- lengths

pub few-one : (more count place : ℕ) (lines : List UnretainedLine) → count ≤ place → more ≤ length (take (place + 1 - place) (drop place lines)) → count + more ≤ place + 1
few-one more count place lines few h = omega (arith, length-take (place + 1 - place) (drop place lines))

-- the one of a place, and those of one filespace
pub one-there : (place : ℕ) (lines : List UnretainedLine) → place < length lines → length (take (place + 1 - place) (drop place lines)) ≡ 1
one-there place lines l = omega (arith, l, length-take (place + 1 - place) (drop place lines), length-drop place lines)

of-taken : (filespace n : ℕ) (lines : List UnretainedLine) → AreOf filespace lines → AreOf filespace (take n lines)
of-taken filespace zero lines h = tt
of-taken filespace (suc n) [] h = tt
of-taken filespace (suc n) (l ∷ lines) h = (h.0, of-taken filespace n lines h.1)

of-dropped : (filespace n : ℕ) (lines : List UnretainedLine) → AreOf filespace lines → AreOf filespace (drop n lines)
of-dropped filespace zero lines h = h
of-dropped filespace (suc n) [] h = tt
of-dropped filespace (suc n) (l ∷ lines) h = of-dropped filespace n lines h.1

pub of-part : (filespace at n : ℕ) (lines : List UnretainedLine) → AreOf filespace lines → AreOf filespace (take n (drop at lines))
of-part filespace at n lines h = of-taken filespace n (drop at lines) (of-dropped filespace at lines h)

of-one-more : (filespace : ℕ) (line : UnretainedLine) (lines : List UnretainedLine) → AreOf filespace lines → line.filespace ≡ filespace → AreOf filespace (lines ++ line ∷ [])
of-one-more filespace line [] h e = (e, tt)
of-one-more filespace line (l ∷ lines) h e = (h.0, of-one-more filespace line lines h.1 e)

pub of-more : (filespace run : ℕ) (line : UnretainedLine) (lines : List UnretainedLine) → run < length lines → AreOf filespace (take run lines) → (get_or lines run line).filespace ≡ filespace
    → AreOf filespace (take (run + 1) lines)
of-more filespace run line lines l h e = subst (AreOf filespace) (sym (take_more lines run line l)) (of-one-more filespace (get_or lines run line) (take run lines) h e)

one-more : (n : ℕ) → n + 1 - n ≡ 1
one-more n = omega arith

pub step-one : (place : ℕ) (lines : List UnretainedLine) → take (place + 1 - place) (drop place lines) ≡ take 1 (drop place lines)
step-one place lines = ap (λ n. take n (drop place lines)) (one-more place)

pub next-run : (at run : ℕ) (lines : List UnretainedLine) → take run (take (length lines - at) (drop at lines)) ≡ take run (drop at lines)
next-run at run lines = ap (take run) (take_rest lines at)

pub few-run : (more count at run : ℕ) (rest : List UnretainedLine) → count ≤ at → more ≤ length (take run rest) → count + more ≤ at + run
few-run more count at run rest few h = omega (arith, length-take run rest)

pub within-run : (at run : ℕ) (lines : List UnretainedLine) → at ≤ length lines → run ≤ length (take (length lines - at) (drop at lines)) → at + run ≤ length lines
within-run at run lines l h = omega (arith, length-take (length lines - at) (drop at lines), length-drop at lines)
