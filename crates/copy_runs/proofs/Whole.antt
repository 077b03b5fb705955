-- What a process came to that began with other steps, made its copies then, and ended.
use Rattle.std.proofs.Common.{◌≡◌, inl, inr, ℕ, ◌+◌, ◌≤◌, true, false, cond, List, [], ◌∷◌, ◌++◌, Result, Ok, Err, refl, sym, ap, subst, ◌∙◌, arith, append_assoc}
use Rattle.std.proofs.lemmas.List.{append-nil}
use Rattle.std.specs.List.{AllByRecursion}
use Rattle.kinds.specs.declared.refusal.Refusal.{Refusal}
use Rattle.inventory_answers.specs.declared.query.Query.{Query}
use Rattle.inventory_answers.specs.declared.query.Query.TheVariants as query
use Rattle.inventory_answers.specs.declared.reply.Answer.{Answer}
use Rattle.steps.proofs.Acknowledged.{receipts-behind}
use Rattle.steps.specs.Events.{Deed, Event, event}
use Rattle.steps.specs.Events.Deed.{Ask}
use Rattle.steps.specs.Receipts.{is_forced, is_made, made, receipts}
use Rattle.machine.specs.Fits.{Fits, History, Own, Step}
use Rattle.machine.proofs.Runs.{fits-cut, fits-first, fits-rises, step-rises}
use Rattle.copy_attempts.proofs.Facts.{all-append, caused-behind, made-append}
use Rattle.steps.proofs.Spending.{settled-append}
use Rattle.steps.specs.Spent.{AreSettled, IsSettled}
use Rattle.copy_runs.specs.declared.wanted.Moved.{Moved}
use Rattle.copy_runs.specs.declared.wanted.Wanted.{Wanted}
use Rattle.copy_runs.specs.Ends.{AreAsking, AreEnding, Finished, IsAsking, IsEnding, last_of}
use Rattle.copy_runs.specs.Processes.{Answers, AreMoving, Completes, IsDoneAllAlong, IsMoving, Process}
use Rattle.copy_runs.specs.Runs.{AreOfThese, Done, EntersOnly, HasFailed, IsCausedByOne, LeavesNone, copies_in, failing_in}
use Rattle.copy_runs.proofs.Carrying.{force-leaves}
use Rattle.copy_runs.proofs.Ending.{stopped-behind}
use Rattle.copy_runs.proofs.Entries.{enters-append, unmade-enters}
use Rattle.copy_runs.proofs.Outcomes.{copies-append, failing-append, then-none}
use Rattle.copy_runs.proofs.Told.{fits-empty, past-later, reaches}
use Rattle.copy_runs.proofs.Unheld.{ending-unheld, run-unheld, unheld-behind}

-- ---- questions and the end

unmade-one : (d : Deed) → IsAsking d → is_made d ≡ false
unmade-one d h = ap is_made h.2

pub asks-unmade : (xs : List Event) → AreAsking xs → made xs ≡ []
asks-unmade [] h = refl
asks-unmade (x ∷ xs) h = ap (λ b. cond b (x ∷ made xs) (made xs)) (unmade-one x.deed h.0) ∙ asks-unmade xs h.1

end-unmade : (d : Deed) → IsEnding d → is_made d ≡ false
end-unmade d (inl h) = unmade-one d h
end-unmade d (inr h) = ap is_made h.1

pub ends-unmade : (xs : List Event) → AreEnding xs → made xs ≡ []
ends-unmade [] h = refl
ends-unmade (x ∷ xs) h = ap (λ b. cond b (x ∷ made xs) (made xs)) (end-unmade x.deed h.0) ∙ ends-unmade xs h.1

ask-settled : (d : Deed) (later : List Event) → IsAsking d → IsSettled d later
ask-settled d later h = subst (λ (k : Deed). IsSettled k later) (sym h.2) tt

asks-settled : (xs : List Event) → AreAsking xs → AreSettled xs
asks-settled [] h = tt
asks-settled (x ∷ xs) h = (ask-settled x.deed xs h.0, asks-settled xs h.1)

ask-leaves : (w : History) (actor : ℕ) (a b : Own) (n : ℕ) (q : Query) (answer : Result Answer Refusal) → Step w actor a (event n (Ask q answer)) b → b.tickets ≡ a.tickets
ask-leaves w actor a b n q answer s = s.has.tickets

ends-leave : (w : History) (actor : ℕ) (a b : Own) (n : ℕ) (d : Deed) → IsEnding d → Step w actor a (event n d) b → b.tickets ≡ a.tickets
ends-leave w actor a b n d (inl h) s = ask-leaves w actor a b n h.0 h.1 (subst (λ (k : Deed). Step w actor a (event n k) b) h.2 s)
ends-leave w actor a b n d (inr h) s = force-leaves w actor a b n h.0 (subst (λ (k : Deed). Step w actor a (event n k) b) h.1 s)

pub ends-none : (xs : List Event) → AreEnding xs → LeavesNone xs
ends-none [] h w actor a b none f = ap (λ (o : Own). o.tickets) (fits-empty w actor a b f) ∙ none
ends-none (x ∷ xs) h w actor a b none f =
    let r = fits-first w actor a b x xs f in
    ends-none xs h.1 w actor r.0 b (ends-leave w actor a r.0 x.n x.deed h.0 r.1 ∙ none) r.2

end-settled : (d : Deed) (later : List Event) → IsEnding d → IsSettled d later
end-settled d later (inl h) = ask-settled d later h
end-settled d later (inr h) = subst (λ (k : Deed). IsSettled k later) (sym h.1) tt

pub ends-settled : (xs : List Event) → AreEnding xs → AreSettled xs
ends-settled [] h = tt
ends-settled (x ∷ xs) h = (end-settled x.deed xs h.0, ends-settled xs h.1)

asking-ends : (xs : List Event) → AreAsking xs → AreEnding xs
asking-ends [] h = tt
asking-ends (x ∷ xs) h = (inl h.0, asking-ends xs h.1)

ending-moves : (wanted : List Wanted) (avoid : ℕ) (xs : List Event) → AreEnding xs → AreMoving wanted avoid xs
ending-moves wanted avoid [] h = tt
ending-moves wanted avoid (x ∷ xs) h = (inl h.0, ending-moves wanted avoid xs h.1)

these-move : (wanted : List Wanted) (avoid : ℕ) (xs : List Event) → AreOfThese wanted avoid xs → AreMoving wanted avoid xs
these-move wanted avoid [] h = tt
these-move wanted avoid (x ∷ xs) h = (inr h.0, these-move wanted avoid xs h.1)

-- What such a process may begin with: no copy is in what it makes, no ticket is left, whoever made its steps.
pub record IsBegun (xs : List Event) : Type 0 where
  pub unmade : copies_in (made xs) ≡ 0
  pub settled : AreSettled xs
  pub none_left : LeavesNone xs

-- questions alone
pub asks-begun : (xs : List Event) → AreAsking xs → IsBegun xs
asks-begun xs asks = record { unmade = ap copies_in (asks-unmade xs asks); settled = asks-settled xs asks; none_left = ends-none xs (asking-ends xs asks) }

-- what a finish is
pub record IsFinish (zs : List Event) : Type 0 where
  pub forced : is_forced zs ≡ true
  pub none : receipts zs ≡ []
  pub ending : AreEnding zs

pub finish-is : (zs : List Event) → Finished zs → IsFinish zs
finish-is zs h = subst IsFinish (sym h.4) (record { forced = refl; none = refl; ending = (inr (Ok h.2, refl), (inl (query.Today, Ok h.3, refl), tt)) })

-- ---- numbers

pub reached-last : (w : History) (actor : ℕ) (a b : Own) (e : Event) (events : List Event) → Fits w actor a (e ∷ events) b → a.reached ≤ last_of (e ∷ events)
reached-last w actor a b e [] f = (fits-first w actor a b e [] f).1.since
reached-last w actor a b e (x ∷ events) f =
    let r = fits-first w actor a b e (x ∷ events) f in
    let i : a.reached ≤ r.0.reached = step-rises w actor a r.0 e r.1 in
    let j : r.0.reached ≤ last_of (x ∷ events) = reached-last w actor r.0 b x events r.2 in
    omega arith

pub last-behind : (xs : List Event) (y : Event) (ys : List Event) → last_of (xs ++ (y ∷ ys)) ≡ last_of (y ∷ ys)
last-behind [] y ys = refl
last-behind (x ∷ []) y ys = refl
last-behind (x ∷ k ∷ xs) y ys = last-behind (k ∷ xs) y ys

-- ---- each failed object, among all events

around : (xs before those after zs : List Event) → xs ++ ((before ++ (those ++ after)) ++ zs) ≡ (xs ++ before) ++ (those ++ (after ++ zs))
around xs before those after zs =
    ap (λ (es : List Event). xs ++ es) (append_assoc before (those ++ after) zs ∙ ap (λ (es : List Event). before ++ es) (append_assoc those after zs))
    ∙ sym (append_assoc xs before (those ++ (after ++ zs)))

failed-among : (wanted : List Wanted) (avoid : ℕ) (xs ys zs : List Event) (object : ℕ) → HasFailed wanted avoid ys object → HasFailed wanted avoid (xs ++ (ys ++ zs)) object
failed-among wanted avoid xs ys zs object h =
    (h.0, xs ++ h.1, h.2, h.3 ++ zs, h.4, h.5, ap (λ (es : List Event). xs ++ (es ++ zs)) h.6 ∙ around xs h.1 h.2 h.3 zs, h.7)

all-among : (wanted : List Wanted) (avoid : ℕ) (xs ys zs : List Event) (objects : List ℕ) → AllByRecursion (HasFailed wanted avoid ys) objects
    → AllByRecursion (HasFailed wanted avoid (xs ++ (ys ++ zs))) objects
all-among wanted avoid xs ys zs [] h = tt
all-among wanted avoid xs ys zs (o ∷ objects) h = (failed-among wanted avoid xs ys zs o h.0, all-among wanted avoid xs ys zs objects h.1)

-- ---- the whole

done-all : (wanted : List Wanted) (failed : List ℕ) (avoid : ℕ) (x : Event) (xs ys : List Event) (z : Event) (zs : List Event) (m : Moved) → LeavesNone (x ∷ xs) → (d : Done wanted avoid ys m)
    → IsDoneAllAlong wanted d.failed ((x ∷ xs) ++ (ys ++ (z ∷ zs)))
done-all wanted failed avoid x xs ys z zs m none_before d w actor a b none f it inside past along =
    let r = fits-cut w actor a b (x ∷ xs) (ys ++ (z ∷ zs)) f in
    let t = fits-cut w actor r.0 b ys (z ∷ zs) r.2 in
    let s = fits-first w actor a r.0 x xs r.1 in
    let low : x.n ≤ s.0.reached = reaches w actor a s.0 x s.1 in
    let then_low : s.0.reached ≤ r.0.reached = fits-rises w actor s.0 r.0 xs s.2 in
    let first : x.n ≤ r.0.reached = omega arith in
    let high : t.0.reached ≤ last_of (z ∷ zs) = reached-last w actor t.0 b z zs t.2 in
    let ending : last_of ((x ∷ xs) ++ (ys ++ (z ∷ zs))) ≡ last_of (z ∷ zs) =
    ap last_of (sym (append_assoc (x ∷ xs) ys (z ∷ zs))) ∙ last-behind ((x ∷ xs) ++ ys) z zs in
    let empty : r.0.tickets ≡ [] = none_before w actor a r.0 none r.1 in
    d.done w actor r.0 t.0 empty t.1 it inside (past-later x.n r.0.reached it.aim first past)
    (λ n begin end. along n (omega arith) (subst (λ (k : ℕ). n ≤ k) (sym ending) (omega arith)))

process-of : (wanted : List Wanted) (avoid : ℕ) (x : Event) (xs ys zs : List Event) (m : Moved) → IsBegun (x ∷ xs) → Done wanted avoid ys m → IsFinish zs
    → Process wanted avoid ((x ∷ xs) ++ (ys ++ zs)) m
process-of wanted avoid x xs ys [] m begun d fin = let never : false ≡ true = fin.forced in absurd cc
process-of wanted avoid x xs ys (z ∷ zs) m begun d fin =
    let first : List Event = x ∷ xs in
    let end : List Event = z ∷ zs in
    let acknowledged : copies_in (receipts (first ++ (ys ++ end))) ≡ copies_in (made first) + copies_in (made ys) =
    ap copies_in (ap receipts (sym (append_assoc first ys end)) ∙ receipts-behind (first ++ ys) end fin.forced ∙ ap (λ (r : List Event). made (first ++ ys) ++ r) fin.none
    ∙ append-nil (made (first ++ ys)) ∙ made-append first ys)
    ∙ copies-append (made first) (made ys) in
    let none : copies_in (made first) ≡ 0 = begun.unmade in
    let count : m.moved ≡ copies_in (made ys) = d.moved in
    let all : failing_in (first ++ (ys ++ end)) ≡ failing_in first + (failing_in ys + failing_in end) = failing-append first (ys ++ end) ∙ ap (λ n. failing_in first + n) (failing-append ys end) in
    let few : m.failed ≤ failing_in ys = d.risen in
    record {
      failed = d.failed;
      moved = omega arith;
      number = d.number;
      risen = omega arith;
      each = all-among wanted avoid first ys end d.failed d.each;
      done = done-all wanted d.failed avoid x xs ys z zs m begun.none_left d;
      settled = settled-append first (ys ++ end) begun.settled (settled-append ys end d.settled (ends-settled end fin.ending));
      none_left = then-none first (ys ++ end) begun.none_left (then-none ys end d.none_left (ends-none end fin.ending));
    }

moving-append : (wanted : List Wanted) (avoid : ℕ) (xs ys : List Event) → AreMoving wanted avoid xs → AreMoving wanted avoid ys → AreMoving wanted avoid (xs ++ ys)
moving-append wanted avoid xs ys a b = all-append (λ e. IsMoving wanted avoid e.deed) xs ys a b

one-behind : (wanted : List Wanted) (avoid : ℕ) (xs ys : List Event) (e : Refusal) → IsCausedByOne wanted avoid ys e → IsCausedByOne wanted avoid (xs ++ ys) e
one-behind wanted avoid xs ys e h = (h.0, h.1, caused-behind h.0.object h.0.aim avoid xs ys e h.2)

-- what it answers, and that its steps behind those that it began with are no others
pub record Told (wanted : List Wanted) (avoid : ℕ) (first events : List Event) (result : Result Moved Refusal) : Type 0 where
  pub answers : Answers wanted avoid (first ++ events) result
  pub only : AreMoving wanted avoid events
  pub entries : EntersOnly wanted events

pub process-told : (wanted : List Wanted) (avoid : ℕ) (x : Event) (xs ys : List Event) (result : Result Moved Refusal) → IsBegun (x ∷ xs) → Completes wanted avoid ys result
    → Told wanted avoid (x ∷ xs) ys result
process-told wanted avoid x xs ys (Ok m) begun h =
    let fin : IsFinish h.1 = finish-is h.1 h.4 in
    subst (λ (es : List Event). Told wanted avoid (x ∷ xs) es (Ok m)) (sym h.2) (record {
      answers = process-of wanted avoid x xs h.0 h.1 m begun h.3.outcome fin;
      only = moving-append wanted avoid h.0 h.1 (these-move wanted avoid h.0 h.3.only) (ending-moves wanted avoid h.1 fin.ending);
      entries = enters-append wanted h.0 h.1 h.3.entries h.3.outcome.none_left (unmade-enters wanted h.1 (ends-unmade h.1 fin.ending));
    })
process-told wanted avoid x xs ys (Err e) begun (inl h) = record {
  answers = record {
    cause = inr (one-behind wanted avoid (x ∷ xs) ys e h.outcome.0);
    unheld = unheld-behind (x ∷ xs) ys e (run-unheld wanted avoid ys e h);
    settled = λ leave. settled-append (x ∷ xs) ys begun.settled (h.outcome.1 leave);
    none_left = λ leave. then-none (x ∷ xs) ys begun.none_left (h.outcome.2 leave);
  };
  only = these-move wanted avoid ys h.only;
  entries = h.entries;
}
process-told wanted avoid x xs ys (Err e) begun (inr h) =
    let run : Done wanted avoid h.1.0 h.0 = h.1.3.outcome in
    subst (λ (es : List Event). Told wanted avoid (x ∷ xs) es (Err e)) (sym h.1.2) (record {
      answers = record {
        cause = inl (stopped-behind (x ∷ xs) (h.1.0 ++ h.1.1) e (stopped-behind h.1.0 h.1.1 e h.1.4.0));
        unheld = unheld-behind (x ∷ xs) (h.1.0 ++ h.1.1) e (unheld-behind h.1.0 h.1.1 e (ending-unheld h.1.1 e h.1.4.1 h.1.4.0));
        settled = λ leave. settled-append (x ∷ xs) (h.1.0 ++ h.1.1) begun.settled (settled-append h.1.0 h.1.1 run.settled (ends-settled h.1.1 h.1.4.1));
        none_left = λ leave. then-none (x ∷ xs) (h.1.0 ++ h.1.1) begun.none_left (then-none h.1.0 h.1.1 run.none_left (ends-none h.1.1 h.1.4.1));
      };
      only = moving-append wanted avoid h.1.0 h.1.1 (these-move wanted avoid h.1.0 h.1.3.only) (ending-moves wanted avoid h.1.1 h.1.4.1);
      entries = enters-append wanted h.1.0 h.1.1 h.1.3.entries run.none_left (unmade-enters wanted h.1.1 (ends-unmade h.1.1 h.1.4.1));
    })
