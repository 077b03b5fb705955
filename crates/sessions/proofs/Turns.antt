-- Calls one after the other.
use Rattle.std.proofs.Common.{◌≡◌, inl, inr, List, [], Result, Ok, Err, refl, sym, ap, subst}
use Rattle.kinds.specs.Answers.{Answers}
use Rattle.kinds.specs.declared.refusal.Refusal.{Refusal}
use Rattle.kinds.specs.declared.refusal.Refusal.TheVariants.{Memory}
use Rattle.steps.proofs.Joining.{GoesOn, call_of_none, so_call, then_call}
use Rattle.steps.specs.Calls.{Call, Then}
use Rattle.steps.specs.Events.{Event}
use Rattle.sessions.specs.InTurn.{Decides, InTurn, OrMemory}

pub turn-refused : {S A B : Type 0} (did : S → List Event → S → Type 0) (p q : S) (First : List Event → Result A Refusal → Type 0) (Next : A → List Event → Result B Refusal → Type 0) (e : Refusal)
    → Call did p q (λ events. First events (Err e)) → Call did p q (λ events. InTurn First Next events (Err e))
turn-refused did p q First Next e a = so_call did (λ events. First events (Err e)) (λ events. InTurn First Next events (Err e)) p q a (λ xs f. inl (e, f, refl))

pub turn-goes : {S A B : Type 0} (did : S → List Event → S → Type 0) → GoesOn did → (p q r : S) (First : List Event → Result A Refusal → Type 0) (Next : A → List Event → Result B Refusal → Type 0) (x : A) (result : Result B Refusal)
    → Call did p q (λ events. First events (Ok x)) → Call did q r (λ events. Next x events result) → Call did p r (λ events. InTurn First Next events result)
turn-goes did goes p q r First Next x result a b =
    so_call did (λ events. Then (λ xs. First xs (Ok x)) (λ ys. Next x ys result) events) (λ events. InTurn First Next events result) p r
    (then_call did goes (λ events. First events (Ok x)) (λ events. Next x events result) p q r a b) (λ xs f. inr (x, f))

pub decided : {S A : Type 0} (did : S → List Event → S → Type 0) (p : S) (said result : Result A Refusal) → did p [] p → Answers result said → Call did p p (λ events. Decides said events result)
decided did p said result stays h = call_of_none did (λ events. Decides said events result) p p stays (refl, h)

pub or-memory : {S A : Type 0} (did : S → List Event → S → Type 0) (p q : S) (Calls : List Event → Result A Refusal → Type 0) (result : Result A Refusal) → Call did p q (λ events. Calls events result)
    → Call did p q (λ events. OrMemory Calls events result)
or-memory did p q Calls result a = so_call did (λ events. Calls events result) (λ events. OrMemory Calls events result) p q a (λ xs f. inl f)

pub wanted : {S A : Type 0} (did : S → List Event → S → Type 0) (p : S) (Calls : List Event → Result A Refusal → Type 0) → did p [] p → Call did p p (λ events. OrMemory Calls events (Err Memory))
wanted did p Calls stays = call_of_none did (λ events. OrMemory Calls events (Err Memory)) p p stays (inr (refl, refl))

itself : {A : Type 0} (said : Result A Refusal) → Answers said said
itself (Ok x) = refl
itself (Err e) = inr refl

pub decided-as : {S A : Type 0} (did : S → List Event → S → Type 0) (p : S) (said result : Result A Refusal) → did p [] p → result ≡ said → Call did p p (λ events. Decides said events result)
decided-as did p said result stays h = decided did p said result stays (subst (λ it. Answers it said) (sym h) (itself said))

pub wanted-as : {S A : Type 0} (did : S → List Event → S → Type 0) (p : S) (Calls : List Event → Result A Refusal → Type 0) (e : Refusal) → did p [] p → e ≡ Memory → Call did p p (λ events. OrMemory Calls events (Err e))
wanted-as did p Calls e stays h = call_of_none did (λ events. OrMemory Calls events (Err e)) p p stays (inr (refl, ap Err h))
