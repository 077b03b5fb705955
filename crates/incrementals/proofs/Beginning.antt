-- Questions, the filespace, and the plan.
use Rattle.std.proofs.Common.{◌≡◌, inl, inr, ℕ, Bool, true, false, List, [], Option, None, Some, Result, Ok, Err, refl, sym, ap, subst, ◌∙◌}
use Rattle.kinds.specs.declared.refusal.Refusal.{Refusal}
use Rattle.kinds.specs.declared.refusal.Refusal.TheVariants as refused
use Rattle.choosers.specs.declared.rule.Rule.{Rule}
use Rattle.client_trees.specs.Files.{Files}
use Rattle.inventory_answers.specs.declared.lines.FilespaceLine.{FilespaceLine}
use Rattle.inventory_answers.specs.declared.lines.VersionLine.{VersionLine}
use Rattle.inventory_answers.specs.declared.query.Query.TheVariants as query
use Rattle.steps.proofs.Joining.{GoesOn, does_made, so_call, then_call}
use Rattle.steps.specs.declared.asked.Asked.{Asked}
use Rattle.steps.specs.Calls.{Call, Does, Made, Then}
use Rattle.steps.specs.Events.{Event}
use Rattle.steps.specs.Events.Deed.{Commit}
use Rattle.incrementals.specs.declared.asking.Basis.{Basis}
use Rattle.incrementals.specs.declared.asking.Ruled.{Ruled}
use Rattle.incrementals.specs.declared.planning.Begun.{Begun}
use Rattle.incrementals.specs.Asking.{AsksAll, AsksFor, AsksNode, AsksNodeRules, AsksRules, AsksVersions, HasFilespaces}
use Rattle.incrementals.specs.Filespaces.{DefinesAndFinds, DefinesOne, FindsOne, HasFilespace, defined, defining, number_in, there}
use Rattle.incrementals.specs.Planning.{Begins, Plans}

-- ---- questions

pub node-unknown : {S : Type 0} (did : S → List Event → S → Type 0) (p q : S) (node : List ℕ) (e : Refusal) → Call did p q (λ events. AsksNode node events (Err e)) → Call did p q (λ events. AsksNodeRules node events (Err e))
node-unknown did p q node e a = so_call did (λ events. AsksNode node events (Err e)) (λ events. AsksNodeRules node events (Err e)) p q a (λ xs f. inr (e, f, refl))

pub node-known : {S : Type 0} (did : S → List Event → S → Type 0) → GoesOn did → (p q r : S) (node : List ℕ) (number : ℕ) (result : Result Ruled Refusal) → Call did p q (λ events. AsksNode node events (Ok number))
    → Call did q r (λ events. AsksRules number events result) → Call did p r (λ events. AsksNodeRules node events result)
node-known did goes p q r node number result a b =
    so_call did (λ events. Then (λ xs. AsksNode node xs (Ok number)) (λ ys. AsksRules number ys result) events) (λ events. AsksNodeRules node events result) p r
    (then_call did goes (λ events. AsksNode node events (Ok number)) (λ events. AsksRules number events result) p q r a b) (λ xs f. inl (number, f))

pub all-unlisted : {S : Type 0} (did : S → List Event → S → Type 0) (p q : S) (node filespace : List ℕ) (e : Refusal) → Call did p q (λ events. AsksVersions node filespace events (Err e))
    → Call did p q (λ events. AsksAll node filespace events (Err e))
all-unlisted did p q node filespace e a = so_call did (λ events. AsksVersions node filespace events (Err e)) (λ events. AsksAll node filespace events (Err e)) p q a (λ xs f. inl f)

pub all-unruled : {S : Type 0} (did : S → List Event → S → Type 0) → GoesOn did → (p q r : S) (node filespace : List ℕ) (versions : List VersionLine) (e : Refusal) → Call did p q (λ events. AsksVersions node filespace events (Ok versions))
    → Call did q r (λ events. AsksNodeRules node events (Err e)) → Call did p r (λ events. AsksAll node filespace events (Err e))
all-unruled did goes p q r node filespace versions e a b =
    so_call did (λ events. Then (λ xs. AsksVersions node filespace xs (Ok versions)) (λ ys. AsksNodeRules node ys (Err e)) events) (λ events. AsksAll node filespace events (Err e)) p r
    (then_call did goes (λ events. AsksVersions node filespace events (Ok versions)) (λ events. AsksNodeRules node events (Err e)) p q r a b) (λ xs f. inr (versions, f))

pub all-ruled : {S : Type 0} (did : S → List Event → S → Type 0) → GoesOn did → (p q r : S) (node filespace : List ℕ) (versions : List VersionLine) (ruled : Ruled) → Call did p q (λ events. AsksVersions node filespace events (Ok versions))
    → Call did q r (λ events. AsksNodeRules node events (Ok ruled)) → Call did p r (λ events. AsksAll node filespace events (Ok (record { versions = versions; ruled = ruled })))
all-ruled did goes p q r node filespace versions ruled a b = then_call did goes (λ events. AsksVersions node filespace events (Ok versions)) (λ events. AsksNodeRules node events (Ok ruled)) p q r a b

-- ---- the filespace

pub finds-none : {S : Type 0} (did : S → List Event → S → Type 0) (p q : S) (node filespace : List ℕ) (e : Refusal) → Call did p q (λ events. AsksFor {A = List FilespaceLine} (query.Filespaces (Some node)) HasFilespaces events (Err e))
    → Call did p q (λ events. FindsOne node filespace events (Err e))
finds-none did p q node filespace e a =
    so_call did (λ events. AsksFor {A = List FilespaceLine} (query.Filespaces (Some node)) HasFilespaces events (Err e)) (λ events. FindsOne node filespace events (Err e)) p q a (λ xs f. f)

pub finds-one : {S : Type 0} (did : S → List Event → S → Type 0) (p q : S) (node filespace : List ℕ) (lines : List FilespaceLine) (found : Option ℕ) → found ≡ number_in filespace lines
    → Call did p q (λ events. AsksFor (query.Filespaces (Some node)) HasFilespaces events (Ok lines)) → Call did p q (λ events. FindsOne node filespace events (Ok found))
finds-one did p q node filespace lines found is a =
    so_call did (λ events. AsksFor (query.Filespaces (Some node)) HasFilespaces events (Ok lines)) (λ events. FindsOne node filespace events (Ok found)) p q a (λ xs f. (lines, f, is))

pub defines-none : {S : Type 0} (did : S → List Event → S → Type 0) (p : S) (node : ℕ) (filespace : List ℕ) (e : Refusal) → did p [] p → e ≡ refused.Memory → Call did p p (λ events. DefinesOne node filespace events (Err e))
defines-none did p node filespace e stays is = ([], stays, inl (refl, ap Err is))

pub defines-made : {S : Type 0} (did : S → List Event → S → Type 0) (p q : S) (node : ℕ) (filespace : List ℕ) (asked : Asked) (answer : Result ℕ Refusal) (result : Result (Unit {0}) Refusal) → asked ≡ defining node filespace
    → Does did p q (Commit asked [] answer) → result ≡ defined answer → Call did p q (λ events. DefinesOne node filespace events result)
defines-made did p q node filespace asked answer result same d is =
    so_call did (λ events. Made (Commit asked [] answer) events) (λ events. DefinesOne node filespace events result) p q (does_made did p q (Commit asked [] answer) d)
    (λ xs f. inr (answer, subst (λ (a : Asked). Made (Commit a [] answer) xs) same f, is))

pub defined-found : {S : Type 0} (did : S → List Event → S → Type 0) → GoesOn did → (p q r : S) (node : List ℕ) (number : ℕ) (filespace : List ℕ) (found : Option ℕ) (result : Result ℕ Refusal)
    → Call did p q (λ events. DefinesOne number filespace events (Ok tt)) → Call did q r (λ events. FindsOne node filespace events (Ok found)) → result ≡ there found
    → Call did p r (λ events. DefinesAndFinds node number filespace events result)
defined-found did goes p q r node number filespace found result a b is =
    so_call did (λ events. Then (λ xs. DefinesOne number filespace xs (Ok tt)) (λ ys. FindsOne node filespace ys (Ok found)) events) (λ events. DefinesAndFinds node number filespace events result) p r
    (then_call did goes (λ events. DefinesOne number filespace events (Ok tt)) (λ events. FindsOne node filespace events (Ok found)) p q r a b) (λ xs f. inl (found, f, is))

pub defined-lost : {S : Type 0} (did : S → List Event → S → Type 0) → GoesOn did → (p q r : S) (node : List ℕ) (number : ℕ) (filespace : List ℕ) (e : Refusal)
    → Call did p q (λ events. DefinesOne number filespace events (Ok tt)) → Call did q r (λ events. FindsOne node filespace events (Err e))
    → Call did p r (λ events. DefinesAndFinds node number filespace events (Err e))
defined-lost did goes p q r node number filespace e a b =
    so_call did (λ events. Then (λ xs. DefinesOne number filespace xs (Ok tt)) (λ ys. FindsOne node filespace ys (Err e)) events) (λ events. DefinesAndFinds node number filespace events (Err e)) p r
    (then_call did goes (λ events. DefinesOne number filespace events (Ok tt)) (λ events. FindsOne node filespace events (Err e)) p q r a b) (λ xs f. inr (inl (e, f, refl)))

pub defined-refused : {S : Type 0} (did : S → List Event → S → Type 0) (p q : S) (node : List ℕ) (number : ℕ) (filespace : List ℕ) (e : Refusal) → Call did p q (λ events. DefinesOne number filespace events (Err e))
    → Call did p q (λ events. DefinesAndFinds node number filespace events (Err e))
defined-refused did p q node number filespace e a =
    so_call did (λ events. DefinesOne number filespace events (Err e)) (λ events. DefinesAndFinds node number filespace events (Err e)) p q a (λ xs f. inr (inr (e, f, refl)))

pub has-found : {S : Type 0} (did : S → List Event → S → Type 0) (p q : S) (node : List ℕ) (number : ℕ) (filespace : List ℕ) (sends : Bool) (found : Option ℕ) (n : ℕ) → found ≡ Some n
    → Call did p q (λ events. FindsOne node filespace events (Ok found)) → Call did p q (λ events. HasFilespace node number filespace sends events (Ok n))
has-found did p q node number filespace sends found n is a =
    so_call did (λ events. FindsOne node filespace events (Ok found)) (λ events. HasFilespace node number filespace sends events (Ok n)) p q a
    (λ xs f. inl (n, subst (λ (o : Option ℕ). FindsOne node filespace xs (Ok o)) is f, refl))

pub has-unanswered : {S : Type 0} (did : S → List Event → S → Type 0) (p q : S) (node : List ℕ) (number : ℕ) (filespace : List ℕ) (sends : Bool) (e : Refusal) → Call did p q (λ events. FindsOne node filespace events (Err e))
    → Call did p q (λ events. HasFilespace node number filespace sends events (Err e))
has-unanswered did p q node number filespace sends e a =
    so_call did (λ events. FindsOne node filespace events (Err e)) (λ events. HasFilespace node number filespace sends events (Err e)) p q a (λ xs f. inr (inl (e, f, refl)))

pub has-none : {S : Type 0} (did : S → List Event → S → Type 0) (p q : S) (node : List ℕ) (number : ℕ) (filespace : List ℕ) (sends : Bool) (found : Option ℕ) → found ≡ None → sends ≡ false
    → Call did p q (λ events. FindsOne node filespace events (Ok found)) → Call did p q (λ events. HasFilespace node number filespace sends events (Err refused.NotFound))
has-none did p q node number filespace sends found is lacks a =
    so_call did (λ events. FindsOne node filespace events (Ok found)) (λ events. HasFilespace node number filespace sends events (Err refused.NotFound)) p q a
    (λ xs f. inr (inr (inl (lacks, subst (λ (o : Option ℕ). FindsOne node filespace xs (Ok o)) is f, refl))))

pub has-defined : {S : Type 0} (did : S → List Event → S → Type 0) → GoesOn did → (p q r : S) (node : List ℕ) (number : ℕ) (filespace : List ℕ) (sends : Bool) (found : Option ℕ) (result : Result ℕ Refusal) → found ≡ None → sends ≡ true
    → Call did p q (λ events. FindsOne node filespace events (Ok found)) → Call did q r (λ events. DefinesAndFinds node number filespace events result)
    → Call did p r (λ events. HasFilespace node number filespace sends events result)
has-defined did goes p q r node number filespace sends found result is sending a b =
    so_call did (λ events. Then (λ xs. FindsOne node filespace xs (Ok None)) (λ ys. DefinesAndFinds node number filespace ys result) events) (λ events. HasFilespace node number filespace sends events result) p r
    (then_call did goes (λ events. FindsOne node filespace events (Ok None)) (λ events. DefinesAndFinds node number filespace events result) p q r
    (subst (λ (o : Option ℕ). Call did p q (λ events. FindsOne node filespace events (Ok o))) is a) b) (λ xs f. inr (inr (inr (sending, f))))

-- ---- the plan

pub begins-unasked : {S : Type 0} (did : S → List Event → S → Type 0) (p q : S) (node filespace : List ℕ) (choice : List Rule) (told : Option Files) (count : ℕ) (e : Refusal) → Call did p q (λ events. AsksAll node filespace events (Err e))
    → Call did p q (λ events. Begins node filespace choice told count count events (Err e))
begins-unasked did p q node filespace choice told count e a =
    so_call did (λ events. AsksAll node filespace events (Err e)) (λ events. Begins node filespace choice told count count events (Err e)) p q a (λ xs f. inl (f, refl))

pub begins-asked : {S : Type 0} (did : S → List Event → S → Type 0) (p q : S) (node filespace : List ℕ) (choice : List Rule) (told : Option Files) (before after : ℕ) (basis : Basis) (result : Result Begun Refusal)
    → Call did p q (λ events. AsksAll node filespace events (Ok basis)) → Plans choice told basis before after result → Call did p q (λ events. Begins node filespace choice told before after events result)
begins-asked did p q node filespace choice told before after basis (Ok b) a h =
    so_call did (λ events. AsksAll node filespace events (Ok basis)) (λ events. Begins node filespace choice told before after events (Ok b)) p q a (λ xs f. (basis, f, h))
begins-asked did p q node filespace choice told before after basis (Err e) a h =
    so_call did (λ events. AsksAll node filespace events (Ok basis)) (λ events. Begins node filespace choice told before after events (Err e)) p q a (λ xs f. inr (basis, f, h))
