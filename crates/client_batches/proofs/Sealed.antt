-- Tickets are sealed, one after the other.
use Rattle.std.proofs.Common.{◌≡◌, ◌⊎◌, inl, inr, ℕ, suc, ◌+◌, ◌==◌, ◌<◌, ◌≤◌, Bool, true, false, if◌then◌else◌, List, [], ◌∷◌, ◌++◌, length, take, drop, get_or, Option, Result, Ok, Err, refl, sym, ap, subst, ◌∙◌, append-nil, append_assoc, arith}
use Rattle.std.proofs.lemmas.List.{take-append-drop, take_all}
use Rattle.kinds.specs.Refusals.{number_of}
use Rattle.kinds.specs.declared.refusal.Refusal.{Refusal}
use Rattle.kinds.specs.declared.refusal.Refusal.TheVariants as refused
use Rattle.kinds.specs.declared.segment.Digest.{Digest}
use Rattle.client_files.specs.declared.outcome.Came.{Came}
use Rattle.client_files.specs.declared.outcome.Came.TheVariants as came
use Rattle.client_files.specs.Sending.{stopping}
use Rattle.client_plan.specs.declared.lines.SendLine.{SendLine}
use Rattle.client_trees.specs.Files.{Files}
use Rattle.inventory_work.specs.declared.lines.Rules.{Rules}
use Rattle.steps.proofs.Joining.{GoesOn, call_then, does_made, so_call, then_call}
use Rattle.steps.specs.Calls.{Call, Does, Made, Then}
use Rattle.steps.specs.Events.{Event}
use Rattle.steps.specs.Events.Deed.{Seal}
use Rattle.client_batches.specs.declared.batch.Batch.{Batch}
use Rattle.client_batches.specs.Batches.{Batches}
use Rattle.client_batches.proofs.Dropping.{parted_at, taken_with}
use Rattle.client_batches.proofs.Filled.{tickets_long}
use Rattle.client_batches.specs.Seals.{Seals, SealsEach, SealsOne, SealsSo, StopsSealing, sealed_as}
use Rattle.client_batches.specs.Sends.{tickets_in}
use Rattle.client_batches.specs.Tickets.{GivesBack}
use Rattle.client_batches.specs.Verdicts.{has_ticket}

-- ---- one

pub one-sealed : {S : Type 0} (did : S → List Event → S → Type 0) (p q : S) (c : Came) (ticket : ℕ) (digest : Digest) (answer : Result (Unit {0}) Refusal) (result : Result Came Refusal)
    → c ≡ came.Written ticket digest → Does did p q (Seal ticket answer) → result ≡ sealed_as ticket digest answer → Call did p q (λ events. SealsOne c events result)
one-sealed did p q c ticket digest answer result is d same =
    subst (λ (x : Came). Call did p q (λ events. SealsOne x events result)) (sym is)
    (so_call did (λ events. Made (Seal ticket answer) events) (λ events. SealsOne (came.Written ticket digest) events result) p q (does_made did p q (Seal ticket answer) d) (λ xs f. (answer, f, same)))

pub one-failed : {S : Type 0} (did : S → List Event → S → Type 0) (p : S) (c : Came) (e : Refusal) → c ≡ came.Failed e → did p [] p → Call did p p (λ events. SealsOne c events (Ok c))
one-failed did p c e is stays = subst (λ (x : Came). Call did p p (λ events. SealsOne x events (Ok x))) (sym is) ([], stays, (refl, refl))

-- ---- what came of a file behind its seal

-- it is as it was; or its ticket went, and it failed
abbrev pub IsBehind : (c s : Came) → Type 0
IsBehind c s = (s ≡ c) ⊎ ((has_ticket c ≡ true) × (e : Refusal) × (s ≡ came.Failed e))

abbrev pub AreBehind : (all sealed : List Came) → Type 0
AreBehind [] [] = Unit {0}
AreBehind (c ∷ all) (s ∷ sealed) = IsBehind c s × AreBehind all sealed
AreBehind _ _ = ⊥

abbrev came_in : Came → Result Came Refusal → Came
came_in other (Ok c) = c
came_in other (Err e) = other

failed-as : (ticket : ℕ) (digest : Digest) (e : Refusal) (s : Came) (b : Bool) → ◌≡◌ {A = Result Came Refusal} (Ok s) (if b then Ok (came.Failed e) else Err (stopping e)) → IsBehind (came.Written ticket digest) s
failed-as ticket digest e s true is = inr (refl, e, ap (came_in s) is)
failed-as ticket digest e s false is = absurd cc

behind-one : (c s : Came) (events : List Event) → SealsOne c events (Ok s) → IsBehind c s
behind-one (came.Written ticket digest) s events (Ok done, made, is) = inl (ap (came_in s) is)
behind-one (came.Written ticket digest) s events (Err e, made, is) = failed-as ticket digest e s (number_of e == 25) is
behind-one (came.Failed e) s events h = inl (ap (came_in s) h.1)
behind-one (came.Held holder) s events h = inl (ap (came_in s) h.1)

pub behind-each : (all sealed : List Came) (events : List Event) → SealsEach all sealed events → AreBehind all sealed
behind-each [] [] events h = tt
behind-each [] (s ∷ sealed) events h = absurd h
behind-each (c ∷ all) [] events h = absurd h
behind-each (c ∷ all) (s ∷ sealed) events (xs, ys, cut, one, rest) = (behind-one c s xs one, behind-each all sealed ys rest)

pub behind-long : (all sealed : List Came) → AreBehind all sealed → length sealed ≡ length all
behind-long [] [] h = refl
behind-long [] (s ∷ sealed) h = absurd h
behind-long (c ∷ all) [] h = absurd h
behind-long (c ∷ all) (s ∷ sealed) h = ap suc (behind-long all sealed h.1)

one-fewer : (c s : Came) → IsBehind c s → length (tickets_in (s ∷ [])) ≤ length (tickets_in (c ∷ []))
one-fewer c s (inl is) = subst (λ (x : Came). length (tickets_in (x ∷ [])) ≤ length (tickets_in (c ∷ []))) (sym is) (omega arith)
one-fewer c s (inr h) = subst (λ (x : Came). length (tickets_in (x ∷ [])) ≤ length (tickets_in (c ∷ []))) (sym h.2) (omega arith)

pub behind-fewer : (all sealed : List Came) → AreBehind all sealed → length (tickets_in sealed) ≤ length (tickets_in all)
behind-fewer [] [] h = omega arith
behind-fewer [] (s ∷ sealed) h = absurd h
behind-fewer (c ∷ all) [] h = absurd h
behind-fewer (c ∷ all) (s ∷ sealed) h =
    let of_sealed = tickets_long s sealed in
    let of_all = tickets_long c all in
    let one = one-fewer c s h.0 in
    let rest = behind-fewer all sealed h.1 in
    omega (arith, of_sealed, of_all, one, rest)

-- no more tickets than before
pub most_sealed : {S : Type 0} (did : S → List Event → S → Type 0) (p q : S) (all sealed : List Came) (tickets held : List ℕ) → tickets ≡ tickets_in all → length tickets ≤ 32 → held ≡ tickets_in sealed
    → Call did p q (λ events. SealsSo all sealed events (Ok tt)) → length held ≤ 32
most_sealed did p q all sealed tickets held of few is a =
    let fewer = behind-fewer all sealed (behind-each all sealed a.0 a.2) in
    let long : length held ≡ length (tickets_in sealed) = ap length is in
    let all_long : length tickets ≡ length (tickets_in all) = ap length of in
    omega (arith, fewer, long, all_long, few)

-- ---- one more

seals_more : (front sealed : List Came) (c s : Came) (xs ys : List Event) → SealsEach front sealed xs → SealsOne c ys (Ok s) → SealsEach (front ++ c ∷ []) (sealed ++ s ∷ []) (xs ++ ys)
seals_more [] [] c s xs ys none one = subst (λ (zs : List Event). SealsEach (c ∷ []) (s ∷ []) (zs ++ ys)) (sym none) (ys, [], sym (append-nil ys), one, refl)
seals_more [] (t ∷ sealed) c s xs ys h one = absurd h
seals_more (f ∷ front) [] c s xs ys h one = absurd h
seals_more (f ∷ front) (t ∷ sealed) c s xs ys (us, vs, cut, first, rest) one =
    (us, vs ++ ys, ap (λ (zs : List Event). zs ++ ys) cut ∙ append_assoc us vs ys, first, seals_more front sealed c s vs ys rest one)

pub seals-next : {S : Type 0} (did : S → List Event → S → Type 0) → GoesOn did → (p q r : S) (all : List Came) (place : ℕ) (x : Came) (sealed got : List Came) (s : Came) → place < length all → x ≡ get_or all place x
    → got ≡ sealed ++ s ∷ [] → Call did p q (λ events. SealsEach (take place all) sealed events) → Call did q r (λ events. SealsOne x events (Ok s))
    → Call did p r (λ events. SealsEach (take (place + 1) all) got events)
seals-next did goes p q r all place x sealed got s within is more a b =
    call_then did goes (λ events. SealsEach (take place all) sealed events) (λ events. SealsOne x events (Ok s)) (λ events. SealsEach (take (place + 1) all) got events) p q r a b
    (λ xs ys f h. subst (λ (ss : List Came). SealsEach (take (place + 1) all) ss (xs ++ ys)) (sym more)
    (subst (λ (cs : List Came). SealsEach cs (sealed ++ s ∷ []) (xs ++ ys)) (sym (taken_with all place x within is)) (seals_more (take place all) sealed x s xs ys f h)))

pub seals-last : {S : Type 0} (did : S → List Event → S → Type 0) (p q : S) (all sealed : List Came) → Call did p q (λ events. SealsEach (take (length all) all) sealed events)
    → Call did p q (λ events. SealsSo all sealed events (Ok tt))
seals-last did p q all sealed a =
    so_call did (λ events. SealsEach (take (length all) all) sealed events) (λ events. SealsSo all sealed events (Ok tt)) p q a
    (λ xs f. subst (λ (cs : List Came). SealsEach cs sealed xs) (take_all (length all) all (omega arith)) f)

-- ---- ends

pub seals-wanting : {S : Type 0} (did : S → List Event → S → Type 0) (p q : S) (all : List Came) (place : ℕ) (sealed got : List Came) (e : Refusal) → e ≡ refused.Memory
    → Call did p q (λ events. SealsEach (take place all) sealed events) → Call did p q (λ events. SealsSo all got events (Err e))
seals-wanting did p q all place sealed got e is a =
    so_call did (λ events. SealsEach (take place all) sealed events) (λ events. SealsSo all got events (Err e)) p q a
    (λ xs f. record {
      front = take place all;
      back = drop place all;
      sealed = sealed;
      xs = xs;
      ys = [];
      parts = sym (take-append-drop place all);
      made = sym (append-nil xs);
      seals = f;
      ends = inl (is, refl);
    })

pub seals-ended : {S : Type 0} (did : S → List Event → S → Type 0) → GoesOn did → (p q r : S) (all : List Came) (place : ℕ) (x : Came) (sealed got : List Came) (e : Refusal) → place < length all → x ≡ get_or all place x
    → Call did p q (λ events. SealsEach (take place all) sealed events) → Call did q r (λ events. SealsOne x events (Err e)) → Call did p r (λ events. SealsSo all got events (Err e))
seals-ended did goes p q r all place x sealed got e within is a b =
    call_then did goes (λ events. SealsEach (take place all) sealed events) (λ events. SealsOne x events (Err e)) (λ events. SealsSo all got events (Err e)) p q r a b
    (λ xs ys f h. record {
      front = take place all;
      back = x ∷ drop (place + 1) all;
      sealed = sealed;
      xs = xs;
      ys = ys;
      parts = parted_at all place x within is;
      made = refl;
      seals = f;
      ends = inr (x, drop (place + 1) all, refl, h);
    })

pub seals-given : {S : Type 0} (did : S → List Event → S → Type 0) → GoesOn did → (p q r : S) (all sealed : List Came) (tickets : List ℕ) (why e : Refusal) → tickets ≡ tickets_in all
    → Call did p q (λ events. SealsSo all sealed events (Err why)) → Call did q r (λ events. GivesBack tickets why events e) → Call did p r (λ events. Seals all sealed events (Err e))
seals-given did goes p q r all sealed tickets why e is a b =
    so_call did (λ events. Then (λ xs. StopsSealing all why xs) (λ ys. GivesBack tickets why ys e) events) (λ events. Seals all sealed events (Err e)) p r
    (then_call did goes (λ events. StopsSealing all why events) (λ events. GivesBack tickets why events e) p q r a b)
    (λ xs f. (why, subst (λ (ts : List ℕ). Then (λ xs. StopsSealing all why xs) (λ ys. GivesBack ts why ys e) xs) is f))

-- of each file of a batch it is said what came of it behind its seal
pub batch_each : (rules : Rules) (told : Option Files) (filespace : ℕ) (lines : List SendLine) (before after : ℕ) (events : List Event) (b : Batch) → Batches rules told filespace lines before after events (Ok b)
    → length b.sealed ≡ length b.came
batch_each rules told filespace lines before after events b (xs, ys, cut, sent, inl (e, seals, is)) = absurd cc
batch_each rules told filespace lines before after events b (xs, ys, cut, sent, inr (us, vs, parts, seals, stores)) = behind-long b.came b.sealed (behind-each b.came b.sealed us seals)
