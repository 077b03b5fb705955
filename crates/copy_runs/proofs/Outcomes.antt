-- What a run came to.
use Rattle.std.proofs.Common.{◌≡◌, inl, inr, ℕ, ◌+◌, ◌≤◌, ◌==◌, Bool, true, false, cond, List, [], ◌∷◌, ◌++◌, map, filter, length, Result, Ok, Err, refl, sym, ap, subst, ◌∙◌, arith, append_assoc}
use Rattle.std.proofs.lemmas.Bool.{eq-eqb, false≢true, or_left, or_right}
use Rattle.std.proofs.lemmas.List.{length-append, length-map}
use Rattle.std.proofs.lemmas.List.Elements.{filter-append}
use Rattle.std.specs.List.{AllByRecursion}
use Rattle.kinds.specs.declared.refusal.Refusal.{Refusal}
use Rattle.space.specs.declared.aim.Aim.{Aim}
use Rattle.steps.specs.Events.{Event}
use Rattle.steps.specs.Receipts.{made}
use Rattle.machine.specs.Fits.{Fits, History, Own}
use Rattle.machine.proofs.Runs.{fits-cut, fits-rises}
use Rattle.copy_attempts.proofs.Facts.{all-append, caused-behind, made-append}
use Rattle.steps.proofs.Spending.{settled-append}
use Rattle.copy_attempts.specs.declared.outcome.Came.{Came}
use Rattle.copy_attempts.specs.declared.outcome.Came.TheVariants as came
use Rattle.copy_attempts.specs.Outcomes.{AreOf, Attempt, Commits, IsCaused, MetBy, may_leave}
use Rattle.steps.specs.Spent.{AreSettled}
use Rattle.copy_runs.specs.declared.wanted.Moved.{Moved}
use Rattle.copy_runs.specs.declared.wanted.Wanted.{Wanted}
use Rattle.copy_runs.specs.Runs.{AreOfThese, Broken, Done, EntersOnly, Handled, HasFailed, IsOfOne, LeavesNone, Run, Runs, Tried, Try, copies_in, failed_by, failed_tries, failing_in, is_among, is_copied, is_failed, is_failing, moved_by, wanted_by}
use Rattle.copy_runs.specs.Wanting.{IsIn, IsPast, IsWantedAllAlong}
use Rattle.copy_runs.proofs.Entries.{attempt-enters, enters-append, tried-enters}
use Rattle.copy_runs.proofs.Told.{Tale, Unwanted, fits-empty, goes-tale, past-later}

-- ---- elements

pub in-before : {A : Type 0} (x : A) (xs ys : List A) → IsIn x xs → IsIn x (xs ++ ys)
in-before x [] ys h = absurd h
in-before x (y ∷ xs) ys (inl h) = inl h
in-before x (y ∷ xs) ys (inr h) = inr (in-before x xs ys h)

pub in-behind : {A : Type 0} (x : A) (xs ys : List A) → IsIn x ys → IsIn x (xs ++ ys)
in-behind x [] ys h = h
in-behind x (y ∷ xs) ys h = inr (in-behind x xs ys h)

abbrev Within : List Wanted → List Wanted → Type 0
Within some all = (x : Wanted) → IsIn x some → IsIn x all

-- ---- only its own steps

of-these : (wanted : List Wanted) (avoid : ℕ) (x : Wanted) → IsIn x wanted → (events : List Event) → AreOf x.object x.aim avoid events → AreOfThese wanted avoid events
of-these wanted avoid x m [] h = tt
of-these wanted avoid x m (e ∷ events) h = ((x, m, h.0), of-these wanted avoid x m events h.1)

these-append : (wanted : List Wanted) (avoid : ℕ) (xs ys : List Event) → AreOfThese wanted avoid xs → AreOfThese wanted avoid ys → AreOfThese wanted avoid (xs ++ ys)
these-append wanted avoid xs ys a b = all-append (λ e. IsOfOne wanted avoid e.deed) xs ys a b

tried-only : (wanted : List Wanted) (avoid : ℕ) (tries : List Try) (events : List Event) → Within (wanted_by tries) wanted → Tried avoid tries events → AreOfThese wanted avoid events
tried-only wanted avoid [] events within h = subst (λ (es : List Event). AreOfThese wanted avoid es) (sym h) tt
tried-only wanted avoid (t ∷ tries) events within h =
    subst (λ (es : List Event). AreOfThese wanted avoid es) (sym h.2)
    (these-append wanted avoid h.0 h.1 (of-these wanted avoid t.0 (within t.0 (inl refl)) h.0 h.3.only) (tried-only wanted avoid tries h.1 (λ x m. within x (inr m)) h.4))

-- ---- how many copies were made

pub copies-append : (xs ys : List Event) → copies_in (xs ++ ys) ≡ copies_in xs + copies_in ys
copies-append [] ys = omega arith
copies-append (x ∷ xs) ys = let h : copies_in (xs ++ ys) ≡ copies_in xs + copies_in ys = copies-append xs ys in omega arith

abbrev one_or_none : Bool → ℕ
one_or_none true = 1
one_or_none false = 0

commits-one : (xs : List Event) (c : Came) → Commits xs (Ok c) → copies_in (made xs) ≡ one_or_none (is_copied c)
commits-one xs (came.Copied number) h = ap copies_in h.2
commits-one xs came.Failed h = ap copies_in h
commits-one xs came.Passed h = ap copies_in h

filter-one : (test : Bool) (t : Try) (l : List Try) → length (cond test (t ∷ l) l) ≡ one_or_none test + length l
filter-one true t l = omega arith
filter-one false t l = omega arith

tried-moved : (avoid : ℕ) (tries : List Try) (events : List Event) → Tried avoid tries events → length (filter (λ t. is_copied t.1) tries) ≡ copies_in (made events)
tried-moved avoid [] events h = sym (ap (λ (es : List Event). copies_in (made es)) h)
tried-moved avoid (t ∷ tries) events h =
    let rest : length (filter (λ u. is_copied u.1) tries) ≡ copies_in (made h.1) = tried-moved avoid tries h.1 h.4 in
    let one : copies_in (made h.0) ≡ one_or_none (is_copied t.1) = commits-one h.0 t.1 h.3.commits in
    let all : copies_in (made events) ≡ copies_in (made h.0) + copies_in (made h.1) =
    ap (λ (es : List Event). copies_in (made es)) h.2 ∙ ap copies_in (made-append h.0 h.1) ∙ copies-append (made h.0) (made h.1) in
    let counted : length (cond (is_copied t.1) (t ∷ filter (λ u. is_copied u.1) tries) (filter (λ u. is_copied u.1) tries)) ≡ one_or_none (is_copied t.1) + length (filter (λ u. is_copied u.1) tries) =
    filter-one (is_copied t.1) t (filter (λ u. is_copied u.1) tries) in
    counted ∙ sym (all ∙ ap (λ n. n + copies_in (made h.1)) one ∙ ap (λ n. one_or_none (is_copied t.1) + n) (sym rest))

-- ---- how many failed

met-some : (events : List Event) → MetBy (λ d. is_failing d ≡ true) events → 1 ≤ failing_in events
met-some [] h = absurd h
met-some (e ∷ events) (inl h) =
    subst (λ (n : ℕ). 1 ≤ n) (sym (ap (λ (b : Bool). length (cond b (e ∷ filter (λ x. is_failing x.deed) events) (filter (λ x. is_failing x.deed) events))) h)) (omega arith)
met-some (e ∷ events) (inr h) =
    let m : 1 ≤ failing_in events = met-some events h in
    elim (is_failing e.deed) as (λ b. 1 ≤ length (cond b (e ∷ filter (λ x. is_failing x.deed) events) (filter (λ x. is_failing x.deed) events))) [
      | true ↦ omega arith
      | false ↦ m
    ]

pub failing-append : (xs ys : List Event) → failing_in (xs ++ ys) ≡ failing_in xs + failing_in ys
failing-append xs ys = ap length (filter-append (λ (e : Event). is_failing e.deed) xs ys) ∙ length-append (filter (λ (e : Event). is_failing e.deed) xs) (filter (λ (e : Event). is_failing e.deed) ys)

failed-one : (xs : List Event) (x : Wanted) (avoid : ℕ) (c : Came) → Attempt x.object x.aim avoid x.size xs (Ok c) → one_or_none (is_failed c) ≤ failing_in xs
failed-one xs x avoid (came.Copied number) h = omega arith
failed-one xs x avoid came.Failed h = met-some xs h.means
failed-one xs x avoid came.Passed h = omega arith

tried-risen : (avoid : ℕ) (tries : List Try) (events : List Event) → Tried avoid tries events → length (failed_tries tries) ≤ failing_in events
tried-risen avoid [] events h = omega arith
tried-risen avoid (t ∷ tries) events h =
    let rest : length (failed_tries tries) ≤ failing_in h.1 = tried-risen avoid tries h.1 h.4 in
    let one : one_or_none (is_failed t.1) ≤ failing_in h.0 = failed-one h.0 t.0 avoid t.1 h.3 in
    let all : failing_in events ≡ failing_in h.0 + failing_in h.1 = ap failing_in h.2 ∙ failing-append h.0 h.1 in
    let counted : length (cond (is_failed t.1) (t ∷ failed_tries tries) (failed_tries tries)) ≡ one_or_none (is_failed t.1) + length (failed_tries tries) = filter-one (is_failed t.1) t
    (failed_tries tries) in
    subst (λ (n : ℕ). n ≤ failing_in events) (sym counted) (omega arith)

-- each failed object had an attempt that failed
tried-failed : (wanted : List Wanted) (avoid : ℕ) (events : List Event) (tries : List Try) (before those : List Event) → Within (wanted_by tries) wanted → events ≡ before ++ those
    → Tried avoid tries those
    → AllByRecursion (HasFailed wanted avoid events) (failed_by tries)
tried-failed wanted avoid events [] before those within is h = tt
tried-failed wanted avoid events (t ∷ tries) before those within is h =
    let cut : events ≡ before ++ (h.0 ++ h.1) = is ∙ ap (λ (es : List Event). before ++ es) h.2 in
    let rest : AllByRecursion (HasFailed wanted avoid events) (failed_by tries) =
    tried-failed wanted avoid events tries (before ++ h.0) h.1 (λ x m. within x (inr m)) (cut ∙ sym (append_assoc before h.0 h.1)) h.4 in
    elim t.1 as (λ c. Attempt t.0.object t.0.aim avoid t.0.size h.0 (Ok c)
    → AllByRecursion (HasFailed wanted avoid events) (map (λ (u : Try). u.0.object) (cond (is_failed c) (t ∷ failed_tries tries) (failed_tries tries)))) [
      | came.Copied number ↦ λ a. rest
      | came.Failed ↦ λ a. ((t.0, before, h.0, h.1, within t.0 (inl refl), refl, cut, a), rest)
      | came.Passed ↦ λ a. rest
    ] h.3

-- ---- in a history

unwanted-never : (w : History) (from to first last object : ℕ) (a : Aim) → first ≤ from → to ≤ last → Unwanted w from to a object → IsWantedAllAlong w first last a object → ⊥
unwanted-never w from to first last object a l r u along =
    let low : from ≤ u.0 = u.1 in
    let high : u.0 ≤ to = u.2 in
    let begin : first ≤ u.0 = omega arith in
    let end : u.0 ≤ last = omega arith in
    false≢true (sym u.3 ∙ along u.0 begin end)

-- the object is among those that failed, where it is among those of the later tries
among-later : (object : ℕ) (t : Try) (tries : List Try) → is_among object (failed_by tries) ≡ true → is_among object (failed_by (t ∷ tries)) ≡ true
among-later object t tries h = elim (is_failed t.1) as (λ b. is_among object (map (λ (u : Try). u.0.object) (cond b (t ∷ failed_tries tries) (failed_tries tries))) ≡ true) [
  | true ↦ or_right (t.0.object == object) (is_among object (failed_by tries)) h
  | false ↦ h
]

tried-done : (w : History) (actor : ℕ) (a b : Own) (avoid : ℕ) (tries : List Try) (events : List Event) → a.tickets ≡ [] → Tried avoid tries events → Fits w actor a events b
    → (x : Wanted) → IsIn x (wanted_by tries) → IsPast a.reached x.aim → IsWantedAllAlong w a.reached b.reached x.aim x.object → is_among x.object (failed_by tries) ≡ true
tried-done w actor a b avoid [] events none h f x m past along = absurd m
tried-done w actor a b avoid (t ∷ tries) events none h f x m past along =
    let r = fits-cut w actor a b h.0 h.1 (subst (λ (es : List Event). Fits w actor a es b) h.2 f) in
    let tale : Tale w t.0.object t.0.aim a r.0 (Ok t.1) = goes-tale w actor t.0.object t.0.aim avoid t.0.size a r.0 h.0 (Ok t.1) h.3.order none r.1 in
    let rise : a.reached ≤ r.0.reached = fits-rises w actor a r.0 h.0 r.1 in
    let later : r.0.reached ≤ b.reached = fits-rises w actor r.0 b h.1 r.2 in
    let same : a.reached ≤ a.reached = omega arith in
    elim m as (λ _. is_among x.object (failed_by (t ∷ tries)) ≡ true) [
      | inl is ↦ elim t.1 as (λ c. Tale w t.0.object t.0.aim a r.0 (Ok c)
          → is_among x.object (map (λ (u : Try). u.0.object) (cond (is_failed c) (t ∷ failed_tries tries) (failed_tries tries))) ≡ true) [
            | came.Copied number ↦ λ k. absurd (unwanted-never w a.reached r.0.reached a.reached b.reached t.0.object t.0.aim same later (k.done refl (subst (λ (y : Wanted). IsPast a.reached y.aim)
                (sym is) past))
                (subst (λ (y : Wanted). IsWantedAllAlong w a.reached b.reached y.aim y.object) (sym is) along))
            | came.Failed ↦ λ k. or_left (t.0.object == x.object) (is_among x.object (failed_by tries)) (eq-eqb t.0.object x.object (ap (λ (y : Wanted). y.object) is))
            | came.Passed ↦ λ k. absurd (unwanted-never w a.reached r.0.reached a.reached b.reached t.0.object t.0.aim same later (k.done refl (subst (λ (y : Wanted). IsPast a.reached y.aim)
                (sym is) past))
                (subst (λ (y : Wanted). IsWantedAllAlong w a.reached b.reached y.aim y.object) (sym is) along))
          ] tale
      | inr there ↦ among-later x.object t tries
          (tried-done w actor r.0 b avoid tries h.1 (tale.empty refl) h.4 r.2 x there (past-later a.reached r.0.reached x.aim rise past) (λ n low high. along n (omega arith) high))
    ]

tried-none : (avoid : ℕ) (tries : List Try) (events : List Event) → Tried avoid tries events → LeavesNone events
tried-none avoid [] events h w actor a b none f = ap (λ (o : Own). o.tickets) (fits-empty w actor a b (subst (λ (es : List Event). Fits w actor a es b) h f)) ∙ none
tried-none avoid (t ∷ tries) events h w actor a b none f =
    let r = fits-cut w actor a b h.0 h.1 (subst (λ (es : List Event). Fits w actor a es b) h.2 f) in
    let tale : Tale w t.0.object t.0.aim a r.0 (Ok t.1) = goes-tale w actor t.0.object t.0.aim avoid t.0.size a r.0 h.0 (Ok t.1) h.3.order none r.1 in
    tried-none avoid tries h.1 h.4 w actor r.0 b (tale.empty refl) r.2

tried-settled : (avoid : ℕ) (tries : List Try) (events : List Event) → Tried avoid tries events → AreSettled events
tried-settled avoid [] events h = subst AreSettled (sym h) tt
tried-settled avoid (t ∷ tries) events h = subst AreSettled (sym h.2) (settled-append h.0 h.1 (h.3.settled refl) (tried-settled avoid tries h.1 h.4))

-- ---- the whole

done-by : (avoid : ℕ) (events : List Event) (m : Moved) (tries : List Try) → Tried avoid tries events → m ≡ moved_by tries → Done (wanted_by tries) avoid events m
done-by avoid events m tries h count = record {
  failed = failed_by tries;
  moved = ap (λ (k : Moved). k.moved) count ∙ tried-moved avoid tries events h;
  number = length-map (failed_tries tries) (λ (t : Try). t.0.object) ∙ sym (ap (λ (k : Moved). k.failed) count);
  risen = subst (λ (n : ℕ). n ≤ failing_in events) (sym (ap (λ (k : Moved). k.failed) count)) (tried-risen avoid tries events h);
  each = tried-failed (wanted_by tries) avoid events tries [] events (λ x m. m) refl h;
  done = λ w actor a b none f x m past along. tried-done w actor a b avoid tries events none h f x m past along;
  settled = tried-settled avoid tries events h;
  none_left = tried-none avoid tries events h;
}

handled-done : (wanted : List Wanted) (avoid : ℕ) (events : List Event) (m : Moved) → Handled wanted avoid events m → Done wanted avoid events m
handled-done wanted avoid events m h = subst (λ (ws : List Wanted). Done ws avoid events m) h.all (done-by avoid events m h.tries h.tried h.count)

handled-only : (wanted all : List Wanted) (avoid : ℕ) (events : List Event) (m : Moved) → Within wanted all → Handled wanted avoid events m → AreOfThese all avoid events
handled-only wanted all avoid events m within h = tried-only all avoid h.tries events (λ x i. within x (subst (λ (ws : List Wanted). IsIn x ws) h.all i)) h.tried

handled-enters : (wanted all : List Wanted) (avoid : ℕ) (events : List Event) (m : Moved) → Within wanted all → Handled wanted avoid events m → EntersOnly all events
handled-enters wanted all avoid events m within h = tried-enters all avoid h.tries events (λ x i. within x (subst (λ (ws : List Wanted). IsIn x ws) h.all i)) h.tried

caused-all : (object : ℕ) (to : Aim) (avoid : ℕ) (events xs ys : List Event) (e : Refusal) → events ≡ xs ++ ys → IsCaused object to avoid ys e → IsCaused object to avoid events e
caused-all object to avoid events xs ys e is h = subst (λ (es : List Event). IsCaused object to avoid es e) (sym is) (caused-behind object to avoid xs ys e h)

-- no ticket is left by the attempt that ended the run
attempt-none : (x : Wanted) (avoid : ℕ) (events : List Event) (e : Refusal) → Attempt x.object x.aim avoid x.size events (Err e) → may_leave (Err e) ≡ false → LeavesNone events
attempt-none x avoid events e h leave w actor a b none f = (goes-tale w actor x.object x.aim avoid x.size a b events (Err e) h.order none f).empty leave

pub then-none : (xs ys : List Event) → LeavesNone xs → LeavesNone ys → LeavesNone (xs ++ ys)
then-none xs ys p q w actor a b none f = let r = fits-cut w actor a b xs ys f in q w actor r.0 b (p w actor a r.0 none r.1) r.2

broken-run : (wanted : List Wanted) (avoid : ℕ) (events : List Event) (e : Refusal) → Broken wanted avoid events e → Run wanted avoid events (Err e)
broken-run wanted avoid events e h =
    let next : IsIn h.next wanted = subst (λ (ws : List Wanted). IsIn h.next ws) (sym h.all) (in-behind h.next h.done (h.next ∷ h.rest) (inl refl)) in
    let d : Done h.done avoid h.steps.0 h.m = handled-done h.done avoid h.steps.0 h.m h.steps.3 in
    let within : Within h.done wanted = λ x i. subst (λ (ws : List Wanted). IsIn x ws) (sym h.all) (in-before x h.done (h.next ∷ h.rest) i) in
    record {
      steps = h;
      only = subst (λ (es : List Event). AreOfThese wanted avoid es) (sym h.steps.2)
          (these-append wanted avoid h.steps.0 h.steps.1 (handled-only h.done wanted avoid h.steps.0 h.m within h.steps.3) (of-these wanted avoid h.next next h.steps.1 h.steps.4.only));
      entries = subst (λ (es : List Event). EntersOnly wanted es) (sym h.steps.2)
          (enters-append wanted h.steps.0 h.steps.1 (handled-enters h.done wanted avoid h.steps.0 h.m within h.steps.3) d.none_left
          (attempt-enters wanted h.next avoid h.steps.1 (Err e) next h.steps.4));
      outcome = (
        (h.next, next, caused-all h.next.object h.next.aim avoid events h.steps.0 h.steps.1 e h.steps.2 h.steps.4.means),
        (λ leave. subst AreSettled (sym h.steps.2) (settled-append h.steps.0 h.steps.1 d.settled (h.steps.4.settled leave))),
        (λ leave. subst LeavesNone (sym h.steps.2) (then-none h.steps.0 h.steps.1 d.none_left (attempt-none h.next avoid h.steps.1 e h.steps.4 leave))),
      );
    }

pub run-of : (wanted : List Wanted) (avoid : ℕ) (events : List Event) (result : Result Moved Refusal) → Runs wanted avoid events result → Run wanted avoid events result
run-of wanted avoid events (Ok m) h = record {
  steps = h;
  only = handled-only wanted wanted avoid events m (λ x i. i) h;
  entries = handled-enters wanted wanted avoid events m (λ x i. i) h;
  outcome = handled-done wanted avoid events m h;
}
run-of wanted avoid events (Err e) h = broken-run wanted avoid events e h
