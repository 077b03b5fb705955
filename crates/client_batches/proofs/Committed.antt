-- Lists are committed, or their lines one by one.
use Rattle.std.proofs.Common.{◌≡◌, inl, inr, ℕ, zero, suc, ◌+◌, ◌-◌, ◌<◌, List, [], ◌∷◌, ◌++◌, length, map, take, drop, get_or, Option, None, Some, Result, Ok, Err, refl, sym, ap, subst, ◌∙◌, append-nil, append_assoc, arith}
use Rattle.std.proofs.lemmas.List.{drop-drop, length-take, take-append-drop, take_all, take_more}
use Rattle.kinds.specs.Answers.{AnswersBy}
use Rattle.kinds.specs.declared.refusal.Refusal.{Refusal}
use Rattle.kinds.specs.declared.refusal.Refusal.TheVariants as refused
use Rattle.steps.proofs.Joining.{GoesOn, call_then, does_made, so_call, then_call}
use Rattle.steps.specs.declared.asked.Asked.{Asked}
use Rattle.steps.specs.Calls.{Call, Does, Made, Then}
use Rattle.steps.specs.Events.{Event}
use Rattle.steps.specs.Events.Deed.{Commit}
use Rattle.client_batches.proofs.Dropping.{parted_at, same_at}
use Rattle.client_batches.specs.Commits.{Alone, Commits, CommitsAll, EachAlone, Singles, Tries, outcome, taken_out}
use Rattle.client_batches.specs.Tickets.{GivesBack}

-- ---- one transaction

pub tries-none : {S : Type 0} (did : S → List Event → S → Type 0) (p : S) (asked : Asked) (tickets : List ℕ) (e : Refusal) → did p [] p → e ≡ refused.Memory
    → Call did p p (λ events. Tries asked tickets events (Err e))
tries-none did p asked tickets e stays h = ([], stays, inl (refl, ap Err h))

pub tries-made : {S : Type 0} (did : S → List Event → S → Type 0) (p q : S) (asked : Asked) (tickets : List ℕ) (answer : Result ℕ Refusal) (result : Result (Option Refusal) Refusal)
    → Does did p q (Commit asked tickets answer) → result ≡ outcome answer → Call did p q (λ events. Tries asked tickets events result)
tries-made did p q asked tickets answer result d h =
    so_call did (λ events. Made (Commit asked tickets answer) events) (λ events. Tries asked tickets events result) p q (does_made did p q (Commit asked tickets answer) d) (λ xs f. inr (answer, f, h))

-- ---- a line by itself

pub alone-committed : {S : Type 0} (did : S → List Event → S → Type 0) (p q : S) (asked : Asked) (ticket : List ℕ) → Call did p q (λ events. Tries asked ticket events (Ok None))
    → Call did p q (λ events. Alone asked ticket events (Ok None))
alone-committed did p q asked ticket a = so_call did (λ events. Tries asked ticket events (Ok None)) (λ events. Alone asked ticket events (Ok None)) p q a (λ xs f. inl (f, refl))

pub alone-ended : {S : Type 0} (did : S → List Event → S → Type 0) (p q : S) (asked : Asked) (ticket : List ℕ) (e : Refusal) → Call did p q (λ events. Tries asked ticket events (Err e))
    → Call did p q (λ events. Alone asked ticket events (Err e))
alone-ended did p q asked ticket e a = so_call did (λ events. Tries asked ticket events (Err e)) (λ events. Alone asked ticket events (Err e)) p q a (λ xs f. inr (inl (e, f, refl)))

pub alone-out : {S : Type 0} (did : S → List Event → S → Type 0) → GoesOn did → (p q r : S) (asked : Asked) (ticket : List ℕ) (tried : Option Refusal) (e why : Refusal) (result : Result (Option Refusal) Refusal)
    → tried ≡ Some e → Call did p q (λ events. Tries asked ticket events (Ok tried)) → Call did q r (λ events. GivesBack ticket e events why) → result ≡ taken_out why
    → Call did p r (λ events. Alone asked ticket events result)
alone-out did goes p q r asked ticket tried e why result is a b h =
    so_call did (λ events. Then (λ xs. Tries asked ticket xs (Ok (Some e))) (λ ys. GivesBack ticket e ys why) events) (λ events. Alone asked ticket events result) p r
    (then_call did goes (λ events. Tries asked ticket events (Ok (Some e))) (λ events. GivesBack ticket e events why) p q r
    (subst (λ (t : Option Refusal). Call did p q (λ events. Tries asked ticket events (Ok t))) is a) b) (λ xs f. inr (inr (e, why, f, h)))

-- ---- line by line

behind_one : {L : Type 0} (front : List L) (tickets : List ℕ) → drop (suc (length front)) tickets ≡ drop (length front) (drop 1 tickets)
behind_one front tickets =
    let next : suc (length front) ≡ 1 + length front = omega arith in
    ap (λ k. drop k tickets) next ∙ sym (drop-drop (length front) 1 tickets)

-- one more
singles_more : {L : Type 0} (asking : List L → Asked) (front : List L) (tickets : List ℕ) (outs : List (Option Refusal)) (l : L) (out : Option Refusal) (xs ys : List Event) → Singles asking front tickets outs xs
    → Alone (asking (l ∷ [])) (take 1 (drop (length front) tickets)) ys (Ok out) → Singles asking (front ++ l ∷ []) tickets (outs ++ out ∷ []) (xs ++ ys)
singles_more asking [] tickets [] l out xs ys none h =
    subst (λ (zs : List Event). Singles asking (l ∷ []) tickets (out ∷ []) (zs ++ ys)) (sym none) (ys, [], sym (append-nil ys), h, refl)
singles_more asking [] tickets (o ∷ outs) l out xs ys a h = elim a [ ]
singles_more asking (f ∷ front) tickets [] l out xs ys a h = elim a [ ]
singles_more asking (f ∷ front) tickets (o ∷ outs) l out xs ys a h = (
  a.0,
  a.1 ++ ys,
  ap (λ (zs : List Event). zs ++ ys) a.2 ∙ append_assoc a.0 a.1 ys,
  a.3,
  singles_more asking front (drop 1 tickets) outs l out a.1 ys a.4
      (subst (λ (ts : List ℕ). Alone (asking (l ∷ [])) (take 1 ts) ys (Ok out)) (behind_one front tickets) h),
)

-- so many are as many as their place
long_to : {L : Type 0} (lines : List L) (place : ℕ) → place < length lines → length (take place lines) ≡ place
long_to lines place l = omega (arith, l, length-take place lines)

first_at : {L : Type 0} (lines : List L) (place : ℕ) (x : L) → place < length lines → take 1 (drop place lines) ≡ get_or lines place x ∷ []
first_at [] place x l = absurd (omega (arith, l))
first_at (y ∷ lines) zero x l = refl
first_at (y ∷ lines) (suc place) x l = first_at lines place x (omega (arith, l))

-- the one line of a place
one_at : {L : Type 0} (lines : List L) (place : ℕ) (x : L) → place < length lines → take (place + 1 - place) (drop place lines) ≡ get_or lines place x ∷ []
one_at lines place x l =
    let one : place + 1 - place ≡ 1 = omega arith in
    ap (λ n. take n (drop place lines)) one ∙ first_at lines place x l

-- a line, where there is one
some_of : {L : Type 0} (lines : List L) (place : ℕ) → place < length lines → L
some_of [] place l = absurd (omega (arith, l))
some_of (y ∷ lines) place l = y

singles_to : {L : Type 0} (asking : List L → Asked) (lines : List L) (place : ℕ) (x : L) (tickets : List ℕ) (outs : List (Option Refusal)) (out : Option Refusal) (xs ys : List Event) → place < length lines
    → Singles asking (take place lines) tickets outs xs → Alone (asking (take (place + 1 - place) (drop place lines))) (take 1 (drop place tickets)) ys (Ok out)
    → Singles asking (take (place + 1) lines) tickets (outs ++ out ∷ []) (xs ++ ys)
singles_to {L} asking lines place x tickets outs out xs ys within f h =
    let l = get_or lines place x in
    subst (λ (ls : List L). Singles asking ls tickets (outs ++ out ∷ []) (xs ++ ys)) (sym (take_more lines place x within))
    (singles_more asking (take place lines) tickets outs l out xs ys f
    (subst (λ k. Alone (asking (l ∷ [])) (take 1 (drop k tickets)) ys (Ok out)) (sym (long_to lines place within))
    (subst (λ (ls : List L). Alone (asking ls) (take 1 (drop place tickets)) ys (Ok out)) (one_at lines place x within) h)))

pub singles-next : {L S : Type 0} (did : S → List Event → S → Type 0) → GoesOn did → (p q r : S) (asking : List L → Asked) (lines : List L) (place : ℕ) (tickets ticket : List ℕ) (outs : List (Option Refusal))
    (out : Option Refusal) → place < length lines → ticket ≡ take 1 (drop place tickets) → Call did p q (λ events. Singles asking (take place lines) tickets outs events)
    → Call did q r (λ events. Alone (asking (take (place + 1 - place) (drop place lines))) ticket events (Ok out))
    → Call did p r (λ events. Singles asking (take (place + 1) lines) tickets (outs ++ out ∷ []) events)
singles-next did goes p q r asking lines place tickets ticket outs out within own a b =
    call_then did goes (λ events. Singles asking (take place lines) tickets outs events) (λ events. Alone (asking (take (place + 1 - place) (drop place lines))) ticket events (Ok out))
    (λ events. Singles asking (take (place + 1) lines) tickets (outs ++ out ∷ []) events) p q r a b
    (λ xs ys f h. singles_to asking lines place (some_of lines place within) tickets outs out xs ys within f
    (subst (λ (ts : List ℕ). Alone (asking (take (place + 1 - place) (drop place lines))) ts ys (Ok out)) own h))

-- the call ended at the next one
pub singles-ended : {L S : Type 0} (did : S → List Event → S → Type 0) → GoesOn did → (p q r : S) (asking : List L → Asked) (lines : List L) (place : ℕ) (tickets ticket : List ℕ) (outs : List (Option Refusal))
    (e : Refusal) → place < length lines → ticket ≡ take 1 (drop place tickets) → Call did p q (λ events. Singles asking (take place lines) tickets outs events)
    → Call did q r (λ events. Alone (asking (take (place + 1 - place) (drop place lines))) ticket events (Err e))
    → Call did p r (λ events. EachAlone asking lines tickets events (Err e))
singles-ended {L} did goes p q r asking lines place tickets ticket outs e within own a b =
    let l = get_or lines place (some_of lines place within) in
    call_then did goes (λ events. Singles asking (take place lines) tickets outs events) (λ events. Alone (asking (take (place + 1 - place) (drop place lines))) ticket events (Err e))
    (λ events. EachAlone asking lines tickets events (Err e)) p q r a b
    (λ xs ys f h. record {
      front = take place lines;
      back = l ∷ drop (place + 1) lines;
      outs = outs;
      xs = xs;
      ys = ys;
      lined = parted_at lines place l within (same_at lines place (some_of lines place within) within);
      made = refl;
      singles = f;
      ends = inr (
        l,
        drop (place + 1) lines,
        refl,
        subst (λ k. Alone (asking (l ∷ [])) (take 1 (drop k tickets)) ys (Err e)) (sym (long_to lines place within))
            (subst (λ (ls : List L). Alone (asking ls) (take 1 (drop place tickets)) ys (Err e)) (one_at lines place (some_of lines place within) within)
            (subst (λ (ts : List ℕ). Alone (asking (take (place + 1 - place) (drop place lines))) ts ys (Err e)) own h)),
      );
    })

-- memory was wanted for what is answered
pub singles-wanting : {L S : Type 0} (did : S → List Event → S → Type 0) → GoesOn did → (p q r : S) (asking : List L → Asked) (lines : List L) (place : ℕ) (tickets ticket : List ℕ) (outs : List (Option Refusal))
    (out : Option Refusal) → place < length lines → ticket ≡ take 1 (drop place tickets) → Call did p q (λ events. Singles asking (take place lines) tickets outs events)
    → Call did q r (λ events. Alone (asking (take (place + 1 - place) (drop place lines))) ticket events (Ok out))
    → Call did p r (λ events. EachAlone asking lines tickets events (Err refused.Memory))
singles-wanting did goes p q r asking lines place tickets ticket outs out within own a b =
    so_call did (λ events. Singles asking (take (place + 1) lines) tickets (outs ++ out ∷ []) events) (λ events. EachAlone asking lines tickets events (Err refused.Memory)) p r
    (singles-next did goes p q r asking lines place tickets ticket outs out within own a b)
    (λ xs f. record {
      front = take (place + 1) lines;
      back = drop (place + 1) lines;
      outs = outs ++ out ∷ [];
      xs = xs;
      ys = [];
      lined = sym (take-append-drop (place + 1) lines);
      made = sym (append-nil xs);
      singles = f;
      ends = inl (refl, refl);
    })

pub singles-all : {L S : Type 0} (did : S → List Event → S → Type 0) (p q : S) (asking : List L → Asked) (lines : List L) (tickets : List ℕ) (outs : List (Option Refusal))
    → Call did p q (λ events. Singles asking (take (length lines) lines) tickets outs events) → Call did p q (λ events. EachAlone asking lines tickets events (Ok outs))
singles-all {L} did p q asking lines tickets outs a =
    so_call did (λ events. Singles asking (take (length lines) lines) tickets outs events) (λ events. EachAlone asking lines tickets events (Ok outs)) p q a
    (λ xs f. subst (λ (ls : List L). Singles asking ls tickets outs xs) (take_all (length lines) lines (omega arith)) f)

-- ---- a list

pub all-committed : {L S : Type 0} (did : S → List Event → S → Type 0) (p q : S) (asking : List L → Asked) (lines : List L) (tickets : List ℕ) (result : Result (List (Option Refusal)) Refusal)
    → Call did p q (λ events. Tries (asking lines) tickets events (Ok None)) → AnswersBy (λ outs. outs) result (map (λ l. None) lines) → Call did p q (λ events. CommitsAll asking lines tickets events result)
all-committed did p q asking lines tickets result a h =
    so_call did (λ events. Tries (asking lines) tickets events (Ok None)) (λ events. CommitsAll asking lines tickets events result) p q a (λ xs f. inl (f, h))

pub all-ended : {L S : Type 0} (did : S → List Event → S → Type 0) (p q : S) (asking : List L → Asked) (lines : List L) (tickets : List ℕ) (e : Refusal)
    → Call did p q (λ events. Tries (asking lines) tickets events (Err e)) → Call did p q (λ events. CommitsAll asking lines tickets events (Err e))
all-ended did p q asking lines tickets e a =
    so_call did (λ events. Tries (asking lines) tickets events (Err e)) (λ events. CommitsAll asking lines tickets events (Err e)) p q a (λ xs f. inr (inl (e, f, refl)))

pub all-single : {L S : Type 0} (did : S → List Event → S → Type 0) → GoesOn did → (p q r : S) (asking : List L → Asked) (lines : List L) (tickets : List ℕ) (tried : Option Refusal) (why : Refusal) (result : Result (List (Option Refusal)) Refusal)
    → tried ≡ Some why → Call did p q (λ events. Tries (asking lines) tickets events (Ok tried)) → Call did q r (λ events. EachAlone asking lines tickets events result)
    → Call did p r (λ events. CommitsAll asking lines tickets events result)
all-single did goes p q r asking lines tickets tried why result is a b =
    so_call did (λ events. Then (λ xs. Tries (asking lines) tickets xs (Ok (Some why))) (λ ys. EachAlone asking lines tickets ys result) events) (λ events. CommitsAll asking lines tickets events result) p r
    (then_call did goes (λ events. Tries (asking lines) tickets events (Ok (Some why))) (λ events. EachAlone asking lines tickets events result) p q r
    (subst (λ (t : Option Refusal). Call did p q (λ events. Tries (asking lines) tickets events (Ok t))) is a) b) (λ xs f. inr (inr (why, f)))

pub commits-ended : {L S : Type 0} (did : S → List Event → S → Type 0) → GoesOn did → (p q r : S) (asking : List L → Asked) (lines : List L) (tickets : List ℕ) (why e : Refusal)
    → Call did p q (λ events. CommitsAll asking lines tickets events (Err why)) → Call did q r (λ events. GivesBack tickets why events e) → Call did p r (λ events. Commits asking lines tickets events (Err e))
commits-ended did goes p q r asking lines tickets why e a b =
    so_call did (λ events. Then (λ xs. CommitsAll asking lines tickets xs (Err why)) (λ ys. GivesBack tickets why ys e) events) (λ events. Commits asking lines tickets events (Err e)) p r
    (then_call did goes (λ events. CommitsAll asking lines tickets events (Err why)) (λ events. GivesBack tickets why events e) p q r a b) (λ xs f. (why, f))
