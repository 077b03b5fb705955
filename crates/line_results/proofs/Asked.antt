-- Look-ups: what the database answers to the queries of a command, one after the other.
use Rattle.std.proofs.Common.{◌≡◌, ◌⊎◌, inl, inr, ℕ, Bool, true, false, List, [], ◌∷◌, ◌++◌, None, Some, Result, Ok, Err, refl, sym, ap, subst, ◌∙◌}
use Rattle.std.proofs.lemmas.Option.{same_Some}
use Rattle.std.specs.List.{AllByRecursion}
use Rattle.kinds.specs.Refusals.{foremost, refusal_of}
use Rattle.kinds.specs.declared.refusal.Refusal.{Refusal}
use Rattle.kinds.specs.declared.refusal.Refusal.TheVariants as refused
use Rattle.inventory_rows.specs.State.{Inv}
use Rattle.inventory_answers.specs.Answered.{answered}
use Rattle.inventory_answers.specs.declared.query.Query.{Query}
use Rattle.inventory_answers.specs.declared.query.Query.TheVariants as query
use Rattle.inventory_answers.specs.declared.reply.Answer.{Answer}
use Rattle.command_words.specs.Reading.{◌>>=◌}
use Rattle.steps.specs.Calls.{Made}
use Rattle.steps.specs.Events.{Event, refusal}
use Rattle.steps.specs.Events.Deed.{Ask}
use Rattle.machine.specs.Alone.{Alone}
use Rattle.machine.specs.Causes.{ask_refused}
use Rattle.machine.specs.Machine.{Asks, IsAnswer, Later, Never, Places, Stays, answer_with}
use Rattle.machine.specs.State.{Core, Machine, inventory, sight}
use Rattle.command_steps.specs.Doing.{Asked, AsksAll}
use Rattle.line_results.specs.Commands.{IsStopped, answers_to}
use Rattle.line_results.specs.Resting.{EndsRun, IsAtRest, IsLate, database}
use Rattle.line_results.proofs.Leaving.{rest-as}
use Rattle.line_results.proofs.Runs.{AreLast, Became, Refuses, alone-none, alone-parts, became-same, became-still, ends-err, ends-ok, ends-since, late-ends, late-on, one-or-none, stays-became, stops-run}

-- the run ended so
abbrev pub EndsBy : {A : Type 0} → (old new : Machine) → Result A Refusal → Type 0
EndsBy old new result = (e : Refusal) × (result ≡ Err e) × EndsRun old new e

pub ends-by-since : {A : Type 0} (old mid new : Machine) (result : Result A Refusal) → Became old.core old mid → EndsBy mid new result → EndsBy old new result
ends-by-since old mid new result b (e, is, ends) = (e, is, ends-since old mid new e b.onward ends)

pub stopped-err : (A : Type 0) (e : Refusal) → AreLast e → IsStopped {A = A} (Err e)
stopped-err A e (inl h) = inl (ap Err h)
stopped-err A e (inr h) = inr (ap Err h)

pub last-of : (A : Type 0) (e : Refusal) → IsStopped {A = A} (Err e) → AreLast e
last-of A e (inl h) = let is : e ≡ refused.RunFull = cc in inl is
last-of A e (inr h) = let is : e ≡ refused.Memory = cc in inr is

pub unstopped : (A : Type 0) (x : A) → IsStopped {A = A} (Ok x) → ⊥
unstopped A x (inl h) = cc
unstopped A x (inr h) = cc

-- ---- one query

-- the length of the log, which the database doesn't know
abbrev pub is_log : Query → Bool
is_log query.LogBytes = true
is_log _ = false

with-same : (n : ℕ) (q : Query) (a : Answer) → is_log q ≡ false → answer_with n q a ≡ a
with-same n query.LogBytes a h = absurd cc
with-same n q a h = refl

pub refused-of : {A : Type 0} (r : Result A Refusal) (e : Refusal) → foremost (refusal_of r) ≡ Some e → r ≡ Err e
refused-of (Ok x) e h = absurd cc
refused-of (Err f) e h = ap Err (same_Some f e h)

-- it was answered as the database has it, or the run ended; and nothing changed
pub record Told (q : Query) (old new : Machine) (answer : Result Answer Refusal) : Type 0 where
  pub still : Became old.core old new
  pub told : (answer ≡ answered q (database old)) ⊎ EndsBy old new answer
  pub late : IsLate old → IsStopped answer

told-refused : (q : Query) (e : Refusal) (old new : Machine) → Refuses (ask_refused q (sight 0 old.core)) Never old new e → (IsLate old → AreLast e) → Told q old new (Err e)
told-refused q e old new (inl (inl s, b)) last = record { still = b; told = inr (e, refl, stops-run old new e s); late = λ l. stopped-err Answer e (last l) }
told-refused q e old new (inl (inr f, b)) last = record { still = b; told = inl (sym (refused-of (answered q (database old)) e f)); late = λ l. stopped-err Answer e (last l) }
told-refused q e old new (inr (soon, none, never)) last = absurd never

asked-one : (q : Query) (answer : Result Answer Refusal) (old new : Machine) → is_log q ≡ false → old.core.fault ≡ None → Later old new → Asks 0 q old new answer → Told q old new answer
asked-one q (Ok a) old new unlogged none later h =
    let t = ends-ok (ask_refused q (sight 0 old.core)) (λ told after. IsAnswer old.core.log_length q (inventory old.core) told × Stays old after) Never old new a h in
    let is : IsAnswer old.core.log_length q (inventory old.core) a = t.2.0 in
    let same : a ≡ is.0 = is.2 ∙ with-same old.core.log_length q is.0 unlogged in
    record {
      still = stays-became old new later t.2.1;
      told = inl (sym (subst (λ (x : Answer). answered q (database old) ≡ Ok x) (sym same) is.1));
      late = λ l. absurd (t.0 l);
    }
asked-one q (Err e) old new unlogged none later h =
    told-refused q e old new
    (ends-err (ask_refused q (sight 0 old.core)) (λ (told : Answer) (after : Machine). IsAnswer old.core.log_length q (inventory old.core) told × Stays old after) Never old new e none later h)
    (λ l. late-ends (ask_refused q (sight 0 old.core)) (λ (told : Answer) (after : Machine). IsAnswer old.core.log_length q (inventory old.core) told × Stays old after) Never old new e l h)

not-asked : (q : Query) (answer : Result Answer Refusal) (old new : Machine) → refusal (Ask q answer) ≡ Some refused.Memory → new ≡ old → Told q old new answer
not-asked q (Ok a) old new h same = absurd cc
not-asked q (Err e) old new h same =
    let is : e ≡ refused.Memory = same_Some e refused.Memory h in
    record { still = became-same old new same; told = inr (e, refl, subst (λ (x : Refusal). EndsRun old new x) (sym is) tt); late = λ l. stopped-err Answer e (inr is) }

module _ (trusted : Type 0) (places : Places) where
  -- where no fault has halted the machine
  pub asked-unhalted : (q : Query) (answer : Result Answer Refusal) (events : List Event) (old new : Machine) → is_log q ≡ false → old.core.fault ≡ None → Made (Ask q answer) events
      → Alone trusted places 0 events old new → Told q old new answer
  asked-unhalted q answer events old new unlogged none made f =
      elim (one-or-none trusted places (Ask q answer) events old new (λ contents seen h. h) (λ contents m. refl) made f) as (λ _. Told q old new answer) [
        | inl s ↦ asked-one q answer old new unlogged none s.0 s.1
        | inr s ↦ not-asked q answer old new s.0 s.1
      ]

  pub asked-step : (q : Query) (answer : Result Answer Refusal) (events : List Event) (old new : Machine) → is_log q ≡ false → IsAtRest old.core → Made (Ask q answer) events
      → Alone trusted places 0 events old new → Told q old new answer
  asked-step q answer events old new unlogged rest made f = asked-unhalted q answer events old new unlogged rest.fault made f

-- ---- all of them

-- these are the answers
abbrev pub AreAnswers : List Query → List Answer → Inv → Type 0
AreAnswers [] [] v = Unit {0}
AreAnswers (q ∷ queries) (a ∷ answers) v = (answered q v ≡ Ok a) × AreAnswers queries answers v
AreAnswers _ _ v = ⊥

abbrev then_others : List Query → Inv → Result Answer Refusal → Result (List Answer) Refusal
then_others queries v r = r >>= λ first. answers_to queries v >>= λ others. Ok (first ∷ others)

abbrev then_all : Answer → Result (List Answer) Refusal → Result (List Answer) Refusal
then_all a r = r >>= λ others. Ok (a ∷ others)

all-answered : (queries : List Query) (answers : List Answer) (v : Inv) → AreAnswers queries answers v → answers_to queries v ≡ Ok answers
all-answered [] [] v h = refl
all-answered [] (a ∷ answers) v h = absurd h
all-answered (q ∷ queries) [] v h = absurd h
all-answered (q ∷ queries) (a ∷ answers) v h = ap (then_others queries v) h.0 ∙ ap (then_all a) (all-answered queries answers v h.1)

first-refused : (front : List Query) (answers : List Answer) (q : Query) (rest : List Query) (v : Inv) (e : Refusal) → AreAnswers front answers v → answered q v ≡ Err e
    → answers_to (front ++ (q ∷ rest)) v ≡ Err e
first-refused [] [] q rest v e h is = ap (then_others rest v) is
first-refused [] (a ∷ answers) q rest v e h is = absurd h
first-refused (x ∷ front) [] q rest v e h is = absurd h
first-refused (x ∷ front) (a ∷ answers) q rest v e h is =
    ap (then_others (front ++ (q ∷ rest)) v) h.0 ∙ ap (then_all a) (first-refused front answers q rest v e h.1 is)

pub record AllAsked (queries : List Query) (answers : List Answer) (old new : Machine) : Type 0 where
  pub still : Became old.core old new
  pub are : AreAnswers queries answers (database old)
  pub late : IsLate old → (queries ≡ []) × (answers ≡ [])

answer-told : (q : Query) (a : Answer) (old mid : Machine) → (Ok a ≡ answered q (database old)) ⊎ EndsBy old mid (Ok a) → answered q (database old) ≡ Ok a
answer-told q a old mid (inl h) = sym h
answer-told q a old mid (inr (e, h, r)) = absurd cc

one-more : (q : Query) (a : Answer) (queries : List Query) (answers : List Answer) (old mid new : Machine) → Told q old mid (Ok a) → AllAsked queries answers mid new → AllAsked (q ∷ queries) (a ∷ answers) old new
one-more q a queries answers old mid new t o = record {
  still = became-still old.core old mid new t.still o.still;
  are = (answer-told q a old mid t.told, subst (λ (c : Core). AreAnswers queries answers (inventory c)) t.still.core o.are);
  late = λ l. absurd (unstopped Answer a (t.late l));
}

-- what was asked of a command is no log's length
abbrev pub AreUnlogged : List Query → Type 0
AreUnlogged queries = AllByRecursion (λ q. is_log q ≡ false) queries

all-split : (xs ys : List Query) → AreUnlogged (xs ++ ys) → AreUnlogged xs × AreUnlogged ys
all-split [] ys h = (tt, h)
all-split (x ∷ xs) ys h = let r = all-split xs ys h.1 in ((h.0, r.0), r.1)

-- They were answered as the database has it, or one is refused so, or the run ended; and nothing changed.
pub record Looked (queries : List Query) (old new : Machine) (result : Result (List Answer) Refusal) : Type 0 where
  pub still : Became old.core old new
  pub told : (result ≡ answers_to queries (database old)) ⊎ EndsBy old new result
  pub late : IsLate old → IsStopped result ⊎ ((queries ≡ []) × (result ≡ Ok []))

refused-told : (queries front : List Query) (answers : List Answer) (q : Query) (rest : List Query) (e : Refusal) (old mid new : Machine) → queries ≡ front ++ (q ∷ rest)
    → Became old.core old mid → AreAnswers front answers (database old) → (Err e ≡ answered q (database mid)) ⊎ EndsBy {A = Answer} mid new (Err e)
    → (Err e ≡ answers_to queries (database old)) ⊎ EndsBy {A = List Answer} old new (Err e)
refused-told queries front answers q rest e old mid new same b are (inl h) =
    let here : Err e ≡ answered q (database old) = subst (λ (c : Core). Err e ≡ answered q (inventory c)) b.core h in
    inl (subst (λ (qs : List Query). Err e ≡ answers_to qs (database old)) (sym same) (sym (first-refused front answers q rest (database old) e are (sym here))))
refused-told queries front answers q rest e old mid new same b are (inr (f, h, r)) =
    let is : e ≡ f = cc in
    inr (e, refl, subst (λ (x : Refusal). EndsRun old new x) (sym is) (ends-since old mid new f b.onward r))

module _ (trusted : Type 0) (places : Places) where
  asked-these : (queries : List Query) (answers : List Answer) (events : List Event) (old new : Machine) → AreUnlogged queries → IsAtRest old.core → Asked queries answers events
      → Alone trusted places 0 events old new → AllAsked queries answers old new
  asked-these [] [] events old new un rest h f = record { still = became-same old new (alone-none trusted places 0 events old new h f); are = tt; late = λ l. (refl, refl) }
  asked-these [] (a ∷ answers) events old new un rest h f = absurd h
  asked-these (q ∷ queries) [] events old new un rest h f = absurd h
  asked-these (q ∷ queries) (a ∷ answers) events old new un rest (xs, ys, cut, step, next) f =
      let parts = alone-parts trusted places 0 events xs ys old new cut f in
      let one = asked-step trusted places q (Ok a) xs old parts.0 un.0 rest (inl step) parts.1 in
      one-more q a queries answers old parts.0 new one
      (asked-these queries answers ys parts.0 new un.1 (rest-as parts.0.core old.core one.still.core rest) next parts.2)

  pub looked : (queries : List Query) (events : List Event) (result : Result (List Answer) Refusal) (old new : Machine) → AreUnlogged queries → IsAtRest old.core → AsksAll queries events result
      → Alone trusted places 0 events old new → Looked queries old new result
  looked queries events (Ok answers) old new un rest h f =
      let all = asked-these queries answers events old new un rest h f in
      record {
        still = all.still;
        told = inl (sym (all-answered queries answers (database old) all.are));
        late = λ l. inr ((all.late l).0, ap Ok (all.late l).1);
      }
  looked queries events (Err e) old new un rest (front, answers, inl (q, others, same, (xs, ys, cut, asked, made))) f =
      let parts = alone-parts trusted places 0 events xs ys old new cut f in
      let apart = all-split front (q ∷ others) (subst AreUnlogged same un) in
      let all = asked-these front answers xs old parts.0 apart.0 rest asked parts.1 in
      let one = asked-step trusted places q (Err e) ys parts.0 new apart.1.0 (rest-as parts.0.core old.core all.still.core rest) made parts.2 in
      record {
        still = became-still old.core old parts.0 new all.still one.still;
        told = refused-told queries front answers q others e old parts.0 new same all.still all.are one.told;
        late = λ l. inl (stopped-err (List Answer) e (last-of Answer e (one.late (late-on old parts.0 all.still.onward l))));
      }
  looked queries events (Err e) old new un rest (front, answers, inr (others, same, asked, wanted)) f =
      let apart = all-split front others (subst AreUnlogged same un) in
      let all = asked-these front answers events old new apart.0 rest asked f in
      record {
        still = all.still;
        told = inr (e, refl, subst (λ (x : Refusal). EndsRun old new x) (sym wanted) tt);
        late = λ l. inl (inr (ap Err wanted));
      }
