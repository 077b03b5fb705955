-- Parts of a process join.
use Rattle.std.proofs.Common.{◌≡◌, ◌⊎◌, inl, inr, ℕ, ◌+◌, ◌≤◌, ◌==◌, ◌||◌, Bool, true, false, List, [], ◌∷◌, ◌++◌, length, Result, Ok, Err, refl, sym, ap, ap₂, subst, ◌∙◌, arith, append_assoc}
use Rattle.std.proofs.lemmas.Bool.{or_left, or_right}
use Rattle.std.proofs.lemmas.List.{append-nil, length-append}
use Rattle.std.proofs.lemmas.List.Folds.{list_any-append}
use Rattle.std.specs.List.{AllByRecursion}
use Rattle.steps.proofs.Acknowledged.{receipts-behind}
use Rattle.steps.specs.Events.{Event}
use Rattle.steps.specs.Receipts.{is_forced, made, receipts}
use Rattle.machine.specs.Fits.{Fits, History, Own}
use Rattle.machine.proofs.Runs.{fits-cut, fits-rises}
use Rattle.copy_attempts.proofs.Facts.{all-append, made-append}
use Rattle.steps.proofs.Spending.{settled-append}
use Rattle.steps.specs.Spent.{AreSettled}
use Rattle.copy_runs.specs.declared.wanted.Moved.{Moved}
use Rattle.copy_runs.specs.declared.wanted.Wanted.{Wanted}
use Rattle.copy_runs.specs.Ends.{AreAsking, AreEnding}
use Rattle.copy_runs.specs.Parts.{Part, both_moved, none_moved}
use Rattle.copy_runs.specs.Processes.{AreMoving, IsMoving}
use Rattle.copy_runs.specs.Runs.{AreOfThese, Done, EntersOnly, HasFailed, IsDone, IsEntered, IsOfOne, LeavesNone, Run, copies_in, failing_in, is_among}
use Rattle.copy_runs.specs.Wanting.{IsIn, IsPast, IsWantedAllAlong}
use Rattle.copy_runs.proofs.Entries.{enters-append, unmade-enters}
use Rattle.copy_runs.proofs.Outcomes.{copies-append, failing-append, in-before, in-behind, then-none}
use Rattle.copy_runs.proofs.Told.{past-later}
use Rattle.copy_runs.proofs.Whole.{IsBegun, asks-begun, asks-unmade}

abbrev Within : List Wanted → List Wanted → Type 0
Within some all = (x : Wanted) → IsIn x some → IsIn x all

-- ---- of more wanted copies

widen-only : (some all : List Wanted) (avoid : ℕ) (xs : List Event) → Within some all → AreMoving some avoid xs → AreMoving all avoid xs
widen-only some all avoid [] within h = tt
widen-only some all avoid (x ∷ xs) within h = (
  elim h.0 as (λ _. IsMoving all avoid x.deed) [
    | inl ending ↦ inl ending
    | inr one ↦ inr (one.0, within one.0 one.1, one.2)
  ],
  widen-only some all avoid xs within h.1,
)

widen-entered : (some all : List Wanted) (w : History) (actor : ℕ) (xs : List Event) → Within some all → AllByRecursion (IsEntered w actor some) xs → AllByRecursion (IsEntered w actor all) xs
widen-entered some all w actor [] within h = tt
widen-entered some all w actor (x ∷ xs) within h = ((h.0.0, h.0.1, within h.0.0 h.0.2, h.0.3, h.0.4), widen-entered some all w actor xs within h.1)

widen-enters : (some all : List Wanted) (xs : List Event) → Within some all → EntersOnly some xs → EntersOnly all xs
widen-enters some all xs within h w actor a b none f = widen-entered some all w actor (made xs) within (h w actor a b none f)

-- an object that failed in a part did so in the whole
failed-in : (some all : List Wanted) (avoid : ℕ) (before xs after : List Event) (object : ℕ) → Within some all → HasFailed some avoid xs object → HasFailed all avoid (before ++ (xs ++ after)) object
failed-in some all avoid before xs after object within h = (
  h.0,
  before ++ h.1,
  h.2,
  h.3 ++ after,
  within h.0 h.4,
  h.5,
  ap (λ (es : List Event). before ++ (es ++ after)) h.6
      ∙ ap (λ (es : List Event). before ++ es) (append_assoc h.1 (h.2 ++ h.3) after ∙ ap (λ (es : List Event). h.1 ++ es) (append_assoc h.2 h.3 after))
      ∙ sym (append_assoc before h.1 (h.2 ++ (h.3 ++ after))),
  h.7,
)

all-in : (some all : List Wanted) (avoid : ℕ) (before xs after : List Event) (objects : List ℕ) → Within some all → AllByRecursion (HasFailed some avoid xs) objects
    → AllByRecursion (HasFailed all avoid (before ++ (xs ++ after))) objects
all-in some all avoid before xs after [] within h = tt
all-in some all avoid before xs after (o ∷ objects) within h = (failed-in some all avoid before xs after o within h.0, all-in some all avoid before xs after objects within h.1)

-- the objects that failed in the first of two parts
pub all-before : (wanted : List Wanted) (avoid : ℕ) (xs after : List Event) (objects : List ℕ) → AllByRecursion (HasFailed wanted avoid xs) objects → AllByRecursion (HasFailed wanted avoid (xs ++ after)) objects
all-before wanted avoid xs after objects h = all-in wanted wanted avoid [] xs after objects (λ x i. i) h

each-append : (P : ℕ → Type 0) (xs ys : List ℕ) → AllByRecursion P xs → AllByRecursion P ys → AllByRecursion P (xs ++ ys)
each-append P [] ys h g = g
each-append P (x ∷ xs) ys h g = (h.0, each-append P xs ys h.1 g)

-- ---- one part behind another

pub in-either : {A : Type 0} (x : A) (xs ys : List A) → IsIn x (xs ++ ys) → IsIn x xs ⊎ IsIn x ys
in-either x [] ys m = inr m
in-either x (l ∷ xs) ys (inl h) = inl (inl h)
in-either x (l ∷ xs) ys (inr m) = elim (in-either x xs ys m) as (λ _. IsIn x (l ∷ xs) ⊎ IsIn x ys) [
  | inl h ↦ inl (inr h)
  | inr h ↦ inr h
]

among-before : (object : ℕ) (xs ys : List ℕ) → is_among object xs ≡ true → is_among object (xs ++ ys) ≡ true
among-before object xs ys h = list_any-append (λ n. n == object) xs ys ∙ or_left (is_among object xs) (is_among object ys) h

among-behind : (object : ℕ) (xs ys : List ℕ) → is_among object ys ≡ true → is_among object (xs ++ ys) ≡ true
among-behind object xs ys h = list_any-append (λ n. n == object) xs ys ∙ or_right (is_among object xs) (is_among object ys) h

done-join : (ws vs : List Wanted) (avoid : ℕ) (xs ys : List Event) (m k : Moved) → Done ws avoid xs m → Done vs avoid ys k → Done (ws ++ vs) avoid (xs ++ ys) (both_moved m k)
done-join ws vs avoid xs ys m k d e =
    let more : copies_in (made (xs ++ ys)) ≡ copies_in (made xs) + copies_in (made ys) = ap copies_in (made-append xs ys) ∙ copies-append (made xs) (made ys) in
    let first : m.moved ≡ copies_in (made xs) = d.moved in
    let next : k.moved ≡ copies_in (made ys) = e.moved in
    let few : m.failed ≤ failing_in xs = d.risen in
    let few_then : k.failed ≤ failing_in ys = e.risen in
    let all : failing_in (xs ++ ys) ≡ failing_in xs + failing_in ys = failing-append xs ys in
    let count : length d.failed ≡ m.failed = d.number in
    let count_then : length e.failed ≡ k.failed = e.number in
    let long : length (d.failed ++ e.failed) ≡ length d.failed + length e.failed = length-append d.failed e.failed in
    record {
      failed = d.failed ++ e.failed;
      moved = omega arith;
      number = omega arith;
      risen = omega arith;
      each = each-append (HasFailed (ws ++ vs) avoid (xs ++ ys)) d.failed e.failed
          (all-in ws (ws ++ vs) avoid [] xs ys d.failed (λ x i. in-before x ws vs i) d.each)
          (subst (λ (es : List Event). AllByRecursion (HasFailed (ws ++ vs) avoid (xs ++ es)) e.failed) (append-nil ys)
          (all-in vs (ws ++ vs) avoid xs ys [] e.failed (λ x i. in-behind x ws vs i) e.each));
      done = λ w actor a b none f x i past along.
          (let r = fits-cut w actor a b xs ys f in
          let rise : a.reached ≤ r.0.reached = fits-rises w actor a r.0 xs r.1 in
          let later : r.0.reached ≤ b.reached = fits-rises w actor r.0 b ys r.2 in
          elim (in-either x ws vs i) as (λ _. is_among x.object (d.failed ++ e.failed) ≡ true) [
            | inl here ↦ among-before x.object d.failed e.failed (d.done w actor a r.0 none r.1 x here past (λ n low high. along n low (omega arith)))
            | inr there ↦ among-behind x.object d.failed e.failed (e.done w actor r.0 b (d.none_left w actor a r.0 none r.1) r.2 x there
                (past-later a.reached r.0.reached x.aim rise past) (λ n low high. along n (omega arith) high))
          ]);
      settled = settled-append xs ys d.settled e.settled;
      none_left = then-none xs ys d.none_left e.none_left;
    }

pub part-join : (ws vs : List Wanted) (avoid : ℕ) (xs ys : List Event) (m k : Moved) → Part ws avoid xs m → Part vs avoid ys k → Part (ws ++ vs) avoid (xs ++ ys) (both_moved m k)
part-join ws vs avoid xs ys m k p q = record {
  done = done-join ws vs avoid xs ys m k p.done q.done;
  only = all-append (λ e. IsMoving (ws ++ vs) avoid e.deed) xs ys
      (widen-only ws (ws ++ vs) avoid xs (λ x i. in-before x ws vs i) p.only)
      (widen-only vs (ws ++ vs) avoid ys (λ x i. in-behind x ws vs i) q.only);
  entries = enters-append (ws ++ vs) xs ys (widen-enters ws (ws ++ vs) xs (λ x i. in-before x ws vs i) p.entries) p.done.none_left
      (widen-enters vs (ws ++ vs) ys (λ x i. in-behind x ws vs i) q.entries);
}

-- ---- the parts

asking-moves : (avoid : ℕ) (xs : List Event) → AreAsking xs → AreMoving [] avoid xs
asking-moves avoid [] h = tt
asking-moves avoid (x ∷ xs) h = (inl (inl h.0), asking-moves avoid xs h.1)

pub part-of-asks : (avoid : ℕ) (xs : List Event) → AreAsking xs → Part [] avoid xs none_moved
part-of-asks avoid xs asks =
    let b : IsBegun xs = asks-begun xs asks in
    record {
      done = record {
        failed = [];
        moved = sym b.unmade;
        number = refl;
        risen = omega arith;
        each = tt;
        done = λ w actor a c none f x i past along. absurd i;
        settled = b.settled;
        none_left = b.none_left;
      };
      only = asking-moves avoid xs asks;
      entries = unmade-enters [] xs (asks-unmade xs asks);
    }

these-move : (wanted : List Wanted) (avoid : ℕ) (xs : List Event) → AreOfThese wanted avoid xs → AreMoving wanted avoid xs
these-move wanted avoid [] h = tt
these-move wanted avoid (x ∷ xs) h = (inr h.0, these-move wanted avoid xs h.1)

pub part-of-run : (wanted : List Wanted) (avoid : ℕ) (xs : List Event) (m : Moved) → Run wanted avoid xs (Ok m) → Part wanted avoid xs m
part-of-run wanted avoid xs m r = record { done = r.outcome; only = these-move wanted avoid xs r.only; entries = r.entries }

-- ---- what was made is acknowledged once all is forced

pub part-acknowledged : (wanted : List Wanted) (avoid : ℕ) (xs zs : List Event) (m : Moved) → Part wanted avoid xs m → is_forced zs ≡ true → receipts zs ≡ [] → m.moved ≡ copies_in (receipts (xs ++ zs))
part-acknowledged wanted avoid xs zs m p forced none =
    p.done.moved ∙ ap copies_in (sym (receipts-behind xs zs forced ∙ ap (λ (r : List Event). made xs ++ r) none ∙ append-nil (made xs)))

-- ---- the same part

-- of the same events, with the same counts; its failed objects stay
pub part-as : (wanted : List Wanted) (avoid : ℕ) (xs es : List Event) (m n : Moved) → es ≡ xs → n ≡ m → Part wanted avoid xs m → Part wanted avoid es n
part-as wanted avoid xs es m n is same p =
    let back : xs ≡ es = sym is in
    record {
      done = record {
        failed = p.done.failed;
        moved = ap (λ (k : Moved). k.moved) same ∙ p.done.moved ∙ ap (λ (ls : List Event). copies_in (made ls)) back;
        number = p.done.number ∙ ap (λ (k : Moved). k.failed) (sym same);
        risen = subst (λ (k : Moved). k.failed ≤ failing_in es) (sym same) (subst (λ (ls : List Event). m.failed ≤ failing_in ls) back p.done.risen);
        each = subst (λ (ls : List Event). AllByRecursion (HasFailed wanted avoid ls) p.done.failed) back p.done.each;
        done = subst (λ (ls : List Event). IsDone wanted p.done.failed ls) back p.done.done;
        settled = subst AreSettled back p.done.settled;
        none_left = subst LeavesNone back p.done.none_left;
      };
      only = subst (λ (ls : List Event). AreMoving wanted avoid ls) back p.only;
      entries = subst (λ (ls : List Event). EntersOnly wanted ls) back p.entries;
    }

abbrev counted_as : ℕ → ℕ → Moved
counted_as moved failed = record { moved = moved; failed = failed }

same-counts : (a b c d : ℕ) → a ≡ b → c ≡ d → counted_as a c ≡ counted_as b d
same-counts a b c d h g = ap₂ counted_as h g

pub none-before : (m : Moved) → both_moved none_moved m ≡ m
none-before m = same-counts (0 + m.moved) m.moved (0 + m.failed) m.failed (none m.moved) (none m.failed) where
  none : (n : ℕ) → 0 + n ≡ n
  none n = omega arith

pub none-behind : (m : Moved) → both_moved m none_moved ≡ m
none-behind m = same-counts (m.moved + 0) m.moved (m.failed + 0) m.failed (none m.moved) (none m.failed) where
  none : (n : ℕ) → n + 0 ≡ n
  none n = omega arith

-- a part between questions
pub part-behind-asks : (wanted : List Wanted) (avoid : ℕ) (xs ys : List Event) (m : Moved) → AreAsking xs → Part wanted avoid ys m → Part wanted avoid (xs ++ ys) m
part-behind-asks wanted avoid xs ys m asks p = part-as wanted avoid (xs ++ ys) (xs ++ ys) (both_moved none_moved m) m refl (sym (none-before m)) (part-join [] wanted avoid xs ys none_moved m (part-of-asks avoid xs asks) p)

-- ---- the objects that failed in them

pub asks-failed : (avoid : ℕ) (xs : List Event) (asks : AreAsking xs) → (part-of-asks avoid xs asks).done.failed ≡ []
unfolding part-of-asks
asks-failed avoid xs asks = refl

pub as-failed : (wanted : List Wanted) (avoid : ℕ) (xs es : List Event) (m n : Moved) (is : es ≡ xs) (same : n ≡ m) (p : Part wanted avoid xs m) → (part-as wanted avoid xs es m n is same p).done.failed ≡ p.done.failed
unfolding part-as
as-failed wanted avoid xs es m n is same p = refl

joined-failed : (ws vs : List Wanted) (avoid : ℕ) (xs ys : List Event) (m k : Moved) (d : Done ws avoid xs m) (e : Done vs avoid ys k) → (done-join ws vs avoid xs ys m k d e).failed ≡ d.failed ++ e.failed
unfolding done-join
joined-failed ws vs avoid xs ys m k d e = refl

pub join-failed : (ws vs : List Wanted) (avoid : ℕ) (xs ys : List Event) (m k : Moved) (p : Part ws avoid xs m) (q : Part vs avoid ys k) → (part-join ws vs avoid xs ys m k p q).done.failed ≡ p.done.failed ++ q.done.failed
unfolding part-join
join-failed ws vs avoid xs ys m k p q = joined-failed ws vs avoid xs ys m k p.done q.done

pub behind-failed : (wanted : List Wanted) (avoid : ℕ) (xs ys : List Event) (m : Moved) (asks : AreAsking xs) (p : Part wanted avoid ys m) → (part-behind-asks wanted avoid xs ys m asks p).done.failed ≡ p.done.failed
unfolding part-behind-asks
behind-failed wanted avoid xs ys m asks p =
    as-failed wanted avoid (xs ++ ys) (xs ++ ys) (both_moved none_moved m) m refl (sym (none-before m)) (part-join [] wanted avoid xs ys none_moved m (part-of-asks avoid xs asks) p)
    ∙ join-failed [] wanted avoid xs ys none_moved m (part-of-asks avoid xs asks) p ∙ ap (λ (fs : List ℕ). fs ++ p.done.failed) (asks-failed avoid xs asks)
