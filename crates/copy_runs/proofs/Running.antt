-- Attempts one after the other.
use Rattle.std.proofs.Common.{◌≡◌, ℕ, ◌+◌, ◌<◌, ◌≤◌, Bool, List, [], ◌∷◌, ◌++◌, filter, length, take, drop, get_or, Ok, Err, refl, sym, ap, subst, ◌∙◌, arith, append_assoc}
use Rattle.std.proofs.lemmas.List.{append-nil, length-append, take-append-drop, take_all, take_more}
use Rattle.std.proofs.lemmas.List.Elements.{filter-append}
use Rattle.kinds.specs.declared.refusal.Refusal.{Refusal}
use Rattle.steps.proofs.Joining.{GoesOn, call_then}
use Rattle.steps.specs.Calls.{Call}
use Rattle.steps.specs.Events.{Event}
use Rattle.copy_attempts.specs.declared.outcome.Came.{Came}
use Rattle.copy_attempts.specs.declared.outcome.Came.TheVariants as came
use Rattle.copy_attempts.specs.Outcomes.{Attempt}
use Rattle.copy_runs.specs.declared.wanted.Moved.{Moved}
use Rattle.copy_runs.specs.declared.wanted.Wanted.{Wanted}
use Rattle.copy_runs.specs.Runs.{Broken, Handled, Tried, Try, counted, is_copied, is_failed, moved_by, wanted_by}

-- one more try, behind the others
tried-more : (avoid : ℕ) (tries : List Try) (t : Try) (xs ys : List Event) → Tried avoid tries xs → Attempt t.0.object t.0.aim avoid t.0.size ys (Ok t.1) → Tried avoid (tries ++ t ∷ []) (xs ++ ys)
tried-more avoid [] t xs ys h a = (ys, [], ap (λ (es : List Event). es ++ ys) h ∙ sym (append-nil ys), a, refl)
tried-more avoid (u ∷ tries) t xs ys h a =
    (h.0, h.1 ++ ys, ap (λ (es : List Event). es ++ ys) h.2 ∙ append_assoc h.0 h.1 ys, h.3, tried-more avoid tries t h.1 ys h.4 a)

wanted-more : (tries : List Try) (t : Try) → wanted_by (tries ++ t ∷ []) ≡ wanted_by tries ++ t.0 ∷ []
wanted-more [] t = refl
wanted-more (u ∷ tries) t = ap (λ (xs : List Wanted). u.0 ∷ xs) (wanted-more tries t)

abbrev moved_with : ℕ → ℕ → Moved
moved_with moved failed = record { moved = moved; failed = failed }

many : (test : Came → Bool) (tries : List Try) (t : Try) → length (filter (λ u. test u.1) (tries ++ t ∷ [])) ≡ length (filter (λ u. test u.1) tries) + length (filter (λ u. test u.1) (t ∷ []))
many test tries t = ap length (filter-append (λ u. test u.1) tries (t ∷ [])) ∙ length-append (filter (λ u. test u.1) tries) (filter (λ u. test u.1) (t ∷ []))

more-none : (n : ℕ) → n + 0 ≡ n
more-none n = omega arith

both-counts : (tries : List Try) (x : Wanted) (c : Came) → moved_by (tries ++ (x, c) ∷ []) ≡ counted (moved_by tries) c
both-counts tries x (came.Copied number) =
    ap (λ n. moved_with n (length (filter (λ u. is_failed u.1) (tries ++ (x, came.Copied number) ∷ [])))) (many is_copied tries (x, came.Copied number))
    ∙ ap (λ n. moved_with (length (filter (λ u. is_copied u.1) tries) + 1) n) (many is_failed tries (x, came.Copied number) ∙ more-none (length (filter (λ u. is_failed u.1) tries)))
both-counts tries x came.Failed =
    ap (λ n. moved_with n (length (filter (λ u. is_failed u.1) (tries ++ (x, came.Failed) ∷ [])))) (many is_copied tries (x, came.Failed) ∙ more-none (length (filter (λ u. is_copied u.1) tries)))
    ∙ ap (λ n. moved_with (length (filter (λ u. is_copied u.1) tries)) n) (many is_failed tries (x, came.Failed))
both-counts tries x came.Passed =
    ap (λ n. moved_with n (length (filter (λ u. is_failed u.1) (tries ++ (x, came.Passed) ∷ [])))) (many is_copied tries (x, came.Passed) ∙ more-none (length (filter (λ u. is_copied u.1) tries)))
    ∙ ap (λ n. moved_with (length (filter (λ u. is_copied u.1) tries)) n) (many is_failed tries (x, came.Passed) ∙ more-none (length (filter (λ u. is_failed u.1) tries)))

handled-more : (avoid : ℕ) (done : List Wanted) (x : Wanted) (c : Came) (m : Moved) (xs ys : List Event) → Handled done avoid xs m → Attempt x.object x.aim avoid x.size ys (Ok c)
    → Handled (done ++ x ∷ []) avoid (xs ++ ys) (counted m c)
handled-more avoid done x c m xs ys h a = record {
  tries = h.tries ++ (x, c) ∷ [];
  all = wanted-more h.tries (x, c) ∙ ap (λ (es : List Wanted). es ++ x ∷ []) h.all;
  tried = tried-more avoid h.tries (x, c) xs ys h.tried a;
  count = ap (λ (k : Moved). counted k c) h.count ∙ sym (both-counts h.tries x c);
}

pub handled-none : (avoid : ℕ) → Handled [] avoid [] (record { moved = 0; failed = 0 })
handled-none avoid = record { tries = []; all = refl; tried = refl; count = refl }

taken-more : (wanted : List Wanted) (place : ℕ) (x : Wanted) → place < length wanted → x ≡ get_or wanted place x → take (place + 1) wanted ≡ take place wanted ++ x ∷ []
taken-more wanted place x l is = take_more wanted place x l ∙ ap (λ (y : Wanted). take place wanted ++ y ∷ []) (sym is)

parted : (wanted : List Wanted) (place : ℕ) (x : Wanted) → place < length wanted → x ≡ get_or wanted place x → wanted ≡ take place wanted ++ x ∷ drop (place + 1) wanted
parted wanted place x l is =
    sym (take-append-drop (place + 1) wanted) ∙ ap (λ (ws : List Wanted). ws ++ drop (place + 1) wanted) (taken-more wanted place x l is)
    ∙ append_assoc (take place wanted) (x ∷ []) (drop (place + 1) wanted)

pub handled-next : {S : Type 0} (did : S → List Event → S → Type 0) → GoesOn did → (p q r : S) (wanted : List Wanted) (avoid place : ℕ) (x : Wanted) (c : Came) (m new : Moved)
    → new ≡ counted m c → place < length wanted → x ≡ get_or wanted place x
    → Call did p q (λ events. Handled (take place wanted) avoid events m) → Call did q r (λ events. Attempt x.object x.aim avoid x.size events (Ok c))
    → Call did p r (λ events. Handled (take (place + 1) wanted) avoid events new)
handled-next did goes p q r wanted avoid place x c m new same l is a b =
    subst (λ (k : Moved). Call did p r (λ events. Handled (take (place + 1) wanted) avoid events k)) (sym same)
    (call_then did goes (λ events. Handled (take place wanted) avoid events m) (λ events. Attempt x.object x.aim avoid x.size events (Ok c)) (λ events. Handled (take
    (place + 1) wanted) avoid events (counted m c)) p q r a b
    (λ xs ys f g. subst (λ (ws : List Wanted). Handled ws avoid (xs ++ ys) (counted m c)) (sym (taken-more wanted place x l is)) (handled-more avoid (take place wanted) x c m xs ys f g)))

pub run-breaks : {S : Type 0} (did : S → List Event → S → Type 0) → GoesOn did → (p q r : S) (wanted : List Wanted) (avoid place : ℕ) (x : Wanted) (e : Refusal) (m : Moved)
    → place < length wanted → x ≡ get_or wanted place x
    → Call did p q (λ events. Handled (take place wanted) avoid events m) → Call did q r (λ events. Attempt x.object x.aim avoid x.size events (Err e))
    → Call did p r (λ events. Broken wanted avoid events e)
run-breaks did goes p q r wanted avoid place x e m l is a b =
    call_then did goes (λ events. Handled (take place wanted) avoid events m) (λ events. Attempt x.object x.aim avoid x.size events (Err e)) (λ events. Broken wanted avoid events e) p q r a b
    (λ xs ys f g. record { done = take place wanted; next = x; rest = drop (place + 1) wanted; m = m; all = parted wanted place x l is; steps = (xs, ys, refl, f, g) })

pub handled-all : {S : Type 0} (did : S → List Event → S → Type 0) (p q : S) (wanted : List Wanted) (avoid : ℕ) (m : Moved)
    → Call did p q (λ events. Handled (take (length wanted) wanted) avoid events m) → Call did p q (λ events. Handled wanted avoid events m)
handled-all did p q wanted avoid m a = (a.0, a.1, subst (λ (ws : List Wanted). Handled ws avoid a.0 m) (take_all (length wanted) wanted (omega arith)) a.2)

-- the counts are no greater than the number of tries
moved-few : (m : Moved) (c : Came) (place : ℕ) → m.moved ≤ place → (counted m c).moved ≤ place + 1
moved-few m (came.Copied number) place h = omega arith
moved-few m came.Failed place h = omega arith
moved-few m came.Passed place h = omega arith

failed-few : (m : Moved) (c : Came) (place : ℕ) → m.failed ≤ place → (counted m c).failed ≤ place + 1
failed-few m (came.Copied number) place h = omega arith
failed-few m came.Failed place h = omega arith
failed-few m came.Passed place h = omega arith

pub few-moved : (m new : Moved) (c : Came) (place : ℕ) → new ≡ counted m c → m.moved ≤ place → new.moved ≤ place + 1
few-moved m new c place same h = subst (λ (k : Moved). k.moved ≤ place + 1) (sym same) (moved-few m c place h)

pub few-failed : (m new : Moved) (c : Came) (place : ℕ) → new ≡ counted m c → m.failed ≤ place → new.failed ≤ place + 1
few-failed m new c place same h = subst (λ (k : Moved). k.failed ≤ place + 1) (sym same) (failed-few m c place h)
