-- A plan is carried out, and then all is made durable.
use Rattle.std.proofs.Common.{◌≡◌, inl, inr, ℕ, Bool, true, false, List, [], Option, Result, Ok, Err, refl, sym, ap, subst, ◌∙◌}
use Rattle.kinds.specs.Answers.{AnswersBy}
use Rattle.kinds.specs.declared.refusal.Refusal.{Refusal}
use Rattle.choosers.specs.declared.rule.Rule.{Rule}
use Rattle.client_plan.specs.Plans.{Lists}
use Rattle.client_trees.specs.Files.{Files}
use Rattle.steps.proofs.Joining.{GoesOn, call_of_none, does_made, so_call, then_call}
use Rattle.steps.specs.Calls.{Call, Does, Made, Then}
use Rattle.steps.specs.Events.{Event}
use Rattle.steps.specs.Events.Deed.{Force}
use Rattle.incrementals.specs.declared.answering.Outs.{Outs}
use Rattle.incrementals.specs.declared.answering.Sent.{Sent}
use Rattle.incrementals.specs.declared.planning.Begun.{Begun}
use Rattle.incrementals.specs.Answering.{sent_of}
use Rattle.incrementals.specs.Filespaces.{HasFilespace}
use Rattle.incrementals.specs.Planning.{Begins}
use Rattle.incrementals.specs.Process.{CarriesOut, CommitsLists, Finishes, Forces, Increments, Works, forced_as, is_idle, is_sending, no_outs}
use Rattle.client_batches.specs.Handling.{BindsPaths, EndsVersions, SendsFiles}

-- ---- lists

pub lists-unbound : {S : Type 0} (did : S → List Event → S → Type 0) (p q : S) (filespace : ℕ) (plan : Lists) (sent : List (Option Refusal)) (e : Refusal) → Call did p q (λ events. BindsPaths filespace plan.rebind events (Err e))
    → Call did p q (λ events. CommitsLists filespace plan sent events (Err e))
lists-unbound did p q filespace plan sent e a =
    so_call did (λ events. BindsPaths filespace plan.rebind events (Err e)) (λ events. CommitsLists filespace plan sent events (Err e)) p q a (λ xs f. inl f)

pub lists-unended : {S : Type 0} (did : S → List Event → S → Type 0) → GoesOn did → (p q r : S) (filespace : ℕ) (plan : Lists) (sent rebound : List (Option Refusal)) (e : Refusal)
    → Call did p q (λ events. BindsPaths filespace plan.rebind events (Ok rebound)) → Call did q r (λ events. EndsVersions filespace plan.gone events (Err e))
    → Call did p r (λ events. CommitsLists filespace plan sent events (Err e))
lists-unended did goes p q r filespace plan sent rebound e a b =
    so_call did (λ events. Then (λ xs. BindsPaths filespace plan.rebind xs (Ok rebound)) (λ ys. EndsVersions filespace plan.gone ys (Err e)) events) (λ events. CommitsLists filespace plan sent events (Err e)) p r
    (then_call did goes (λ events. BindsPaths filespace plan.rebind events (Ok rebound)) (λ events. EndsVersions filespace plan.gone events (Err e)) p q r a b) (λ xs f. inr (rebound, f))

pub lists-done : {S : Type 0} (did : S → List Event → S → Type 0) → GoesOn did → (p q r : S) (filespace : ℕ) (plan : Lists) (sent rebound gone : List (Option Refusal))
    → Call did p q (λ events. BindsPaths filespace plan.rebind events (Ok rebound)) → Call did q r (λ events. EndsVersions filespace plan.gone events (Ok gone))
    → Call did p r (λ events. CommitsLists filespace plan sent events (Ok (record { sent = sent; rebound = rebound; gone = gone })))
lists-done did goes p q r filespace plan sent rebound gone a b =
    so_call did (λ events. Then (λ xs. BindsPaths filespace plan.rebind xs (Ok rebound)) (λ ys. EndsVersions filespace plan.gone ys (Ok gone)) events)
    (λ events. CommitsLists filespace plan sent events (Ok (record { sent = sent; rebound = rebound; gone = gone }))) p r
    (then_call did goes (λ events. BindsPaths filespace plan.rebind events (Ok rebound)) (λ events. EndsVersions filespace plan.gone events (Ok gone)) p q r a b) (λ xs f. (refl, f))

-- ---- the plan

pub carries-unsent : {S : Type 0} (did : S → List Event → S → Type 0) (p q : S) (filespace : ℕ) (b : Begun) (told : Option Files) (before after : ℕ) (e : Refusal)
    → Call did p q (λ events. SendsFiles b.classes told filespace b.plan.send before after events (Err e)) → Call did p q (λ events. CarriesOut filespace b told before after events (Err e))
carries-unsent did p q filespace b told before after e a =
    so_call did (λ events. SendsFiles b.classes told filespace b.plan.send before after events (Err e)) (λ events. CarriesOut filespace b told before after events (Err e)) p q a (λ xs f. inr (e, f, refl))

pub carries-sent : {S : Type 0} (did : S → List Event → S → Type 0) → GoesOn did → (p q r : S) (filespace : ℕ) (b : Begun) (told : Option Files) (before after : ℕ) (sent : List (Option Refusal)) (result : Result Outs Refusal)
    → Call did p q (λ events. SendsFiles b.classes told filespace b.plan.send before after events (Ok sent)) → Call did q r (λ events. CommitsLists filespace b.plan sent events result)
    → Call did p r (λ events. CarriesOut filespace b told before after events result)
carries-sent did goes p q r filespace b told before after sent result a c =
    so_call did (λ events. Then (λ xs. SendsFiles b.classes told filespace b.plan.send before after xs (Ok sent)) (λ ys. CommitsLists filespace b.plan sent ys result) events)
    (λ events. CarriesOut filespace b told before after events result) p r
    (then_call did goes (λ events. SendsFiles b.classes told filespace b.plan.send before after events (Ok sent)) (λ events. CommitsLists filespace b.plan sent events result) p q r a c) (λ xs f. inl (sent, f))

pub works-idle : {S : Type 0} (did : S → List Event → S → Type 0) (p : S) (node filespace : List ℕ) (b : Begun) (told : Option Files) (count : ℕ) (result : Result Outs Refusal) → did p [] p → is_idle b.plan ≡ true → result ≡ Ok no_outs
    → Call did p p (λ events. Works node filespace b told count count events result)
works-idle did p node filespace b told count result stays idle is = ([], stays, inl (idle, refl, refl, is))

pub works-unfound : {S : Type 0} (did : S → List Event → S → Type 0) (p q : S) (node filespace : List ℕ) (b : Begun) (told : Option Files) (count : ℕ) (sends : Bool) (e : Refusal) → is_idle b.plan ≡ false → sends ≡ is_sending b.plan
    → Call did p q (λ events. HasFilespace node b.node filespace sends events (Err e)) → Call did p q (λ events. Works node filespace b told count count events (Err e))
works-unfound did p q node filespace b told count sends e busy is a =
    so_call did (λ events. HasFilespace node b.node filespace sends events (Err e)) (λ events. Works node filespace b told count count events (Err e)) p q a
    (λ xs f. inr (inr (busy, e, subst (λ s. HasFilespace node b.node filespace s xs (Err e)) is f, refl, refl)))

pub works-found : {S : Type 0} (did : S → List Event → S → Type 0) → GoesOn did → (p q r : S) (node filespace : List ℕ) (b : Begun) (told : Option Files) (before after : ℕ) (sends : Bool) (number : ℕ) (result : Result Outs Refusal)
    → is_idle b.plan ≡ false → sends ≡ is_sending b.plan
    → Call did p q (λ events. HasFilespace node b.node filespace sends events (Ok number)) → Call did q r (λ events. CarriesOut number b told before after events result)
    → Call did p r (λ events. Works node filespace b told before after events result)
works-found did goes p q r node filespace b told before after sends number result busy is a c =
    so_call did (λ events. Then (λ xs. HasFilespace node b.node filespace (is_sending b.plan) xs (Ok number)) (λ ys. CarriesOut number b told before after ys result) events)
    (λ events. Works node filespace b told before after events result) p r
    (then_call did goes (λ events. HasFilespace node b.node filespace (is_sending b.plan) events (Ok number)) (λ events. CarriesOut number b told before after events result) p q r
    (subst (λ s. Call did p q (λ events. HasFilespace node b.node filespace s events (Ok number))) is a) c) (λ xs f. inr (inl (busy, number, f)))

-- ---- the end

pub forces-made : {S : Type 0} (did : S → List Event → S → Type 0) (p q : S) (answer : Result ℕ Refusal) (result : Result (Unit {0}) Refusal) → Does did p q (Force answer) → result ≡ forced_as answer → Call did p q (λ events. Forces events result)
forces-made did p q answer result d is = so_call did (λ events. Made (Force answer) events) (λ events. Forces events result) p q (does_made did p q (Force answer) d) (λ xs f. (answer, f, is))

pub finishes-unworked : {S : Type 0} (did : S → List Event → S → Type 0) (p q : S) (node filespace : List ℕ) (b : Begun) (told : Option Files) (before after : ℕ) (e : Refusal)
    → Call did p q (λ events. Works node filespace b told before after events (Err e)) → Call did p q (λ events. Finishes node filespace b told before after events (Err e))
finishes-unworked did p q node filespace b told before after e a =
    so_call did (λ events. Works node filespace b told before after events (Err e)) (λ events. Finishes node filespace b told before after events (Err e)) p q a (λ xs f. inl f)

pub finishes-unforced : {S : Type 0} (did : S → List Event → S → Type 0) → GoesOn did → (p q r : S) (node filespace : List ℕ) (b : Begun) (told : Option Files) (before after : ℕ) (o : Outs) (e : Refusal)
    → Call did p q (λ events. Works node filespace b told before after events (Ok o)) → Call did q r (λ events. Forces events (Err e))
    → Call did p r (λ events. Finishes node filespace b told before after events (Err e))
finishes-unforced did goes p q r node filespace b told before after o e a c =
    so_call did (λ events. Then (λ xs. Works node filespace b told before after xs (Ok o)) (λ ys. Forces ys (Err e)) events) (λ events. Finishes node filespace b told before after events (Err e)) p r
    (then_call did goes (λ events. Works node filespace b told before after events (Ok o)) (λ events. Forces events (Err e)) p q r a c) (λ xs f. inr (o, f))

pub finishes-done : {S : Type 0} (did : S → List Event → S → Type 0) → GoesOn did → (p q r : S) (node filespace : List ℕ) (b : Begun) (told : Option Files) (before after : ℕ) (o : Outs)
    → Call did p q (λ events. Works node filespace b told before after events (Ok o)) → Call did q r (λ events. Forces events (Ok tt))
    → Call did p r (λ events. Finishes node filespace b told before after events (Ok o))
finishes-done did goes p q r node filespace b told before after o a c =
    then_call did goes (λ events. Works node filespace b told before after events (Ok o)) (λ events. Forces events (Ok tt)) p q r a c

-- ---- all of it

pub increments-unbegun : {S : Type 0} (did : S → List Event → S → Type 0) (p q : S) (node filespace : List ℕ) (choice : List Rule) (told : Option Files) (before after : ℕ) (e : Refusal)
    → Call did p q (λ events. Begins node filespace choice told before after events (Err e)) → Call did p q (λ events. Increments node filespace choice told before after events (Err e))
increments-unbegun did p q node filespace choice told before after e a =
    so_call did (λ events. Begins node filespace choice told before after events (Err e)) (λ events. Increments node filespace choice told before after events (Err e)) p q a (λ xs f. inl (e, f, refl))

pub increments-ended : {S : Type 0} (did : S → List Event → S → Type 0) → GoesOn did → (p q r : S) (node filespace : List ℕ) (choice : List Rule) (told now : Option Files) (before count after : ℕ) (b : Begun) (e : Refusal) → now ≡ told
    → Call did p q (λ events. Begins node filespace choice told before count events (Ok b)) → Call did q r (λ events. Finishes node filespace b now count after events (Err e))
    → Call did p r (λ events. Increments node filespace choice told before after events (Err e))
increments-ended did goes p q r node filespace choice told now before count after b e same a c =
    so_call did (λ events. Then (λ xs. Begins node filespace choice told before count xs (Ok b)) (λ ys. Finishes node filespace b told count after ys (Err e)) events)
    (λ events. Increments node filespace choice told before after events (Err e)) p r
    (then_call did goes (λ events. Begins node filespace choice told before count events (Ok b)) (λ events. Finishes node filespace b told count after events (Err e)) p q r a
    (subst (λ (o : Option Files). Call did q r (λ events. Finishes node filespace b o count after events (Err e))) same c)) (λ xs f. inr (inl (b, count, e, f, refl)))

pub increments-done : {S : Type 0} (did : S → List Event → S → Type 0) → GoesOn did → (p q r : S) (node filespace : List ℕ) (choice : List Rule) (told now : Option Files) (before count after : ℕ) (b : Begun) (o : Outs) (result : Result Sent Refusal)
    → now ≡ told → Call did p q (λ events. Begins node filespace choice told before count events (Ok b)) → Call did q r (λ events. Finishes node filespace b now count after events (Ok o)) → AnswersBy (λ s. s) result (sent_of b.plan o)
    → Call did p r (λ events. Increments node filespace choice told before after events result)
increments-done did goes p q r node filespace choice told now before count after b o result same a c is =
    so_call did (λ events. Then (λ xs. Begins node filespace choice told before count xs (Ok b)) (λ ys. Finishes node filespace b told count after ys (Ok o)) events)
    (λ events. Increments node filespace choice told before after events result) p r
    (then_call did goes (λ events. Begins node filespace choice told before count events (Ok b)) (λ events. Finishes node filespace b told count after events (Ok o)) p q r a
    (subst (λ (t : Option Files). Call did q r (λ events. Finishes node filespace b t count after events (Ok o))) same c)) (λ xs f. inr (inr (b, count, o, f, is)))
