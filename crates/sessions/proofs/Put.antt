-- A file that is put, part by part.
use Rattle.std.proofs.Common.{◌≡◌, inr, ℕ, false, List, Option, Result, Ok, Err, refl}
use Rattle.kinds.specs.declared.refusal.Refusal.{Refusal}
use Rattle.client_files.specs.declared.outcome.Came.{Came}
use Rattle.client_files.specs.Outcomes.{Sending}
use Rattle.client_trees.specs.Files.{ClientFile}
use Rattle.steps.proofs.Joining.{GoesOn, does_made, makes_step, so_call, then_call}
use Rattle.steps.specs.Calls.{Call, Does, IsStep, Made, MakesStep, Then}
use Rattle.steps.specs.Events.{Event}
use Rattle.steps.specs.Events.Deed.{DropTicket, Force}
use Rattle.sessions.specs.Changing.{Changing}
use Rattle.sessions.specs.Putting.{AsksFor, Defines, ForcesOne, GivesBack, Looks, OrGivesBack, SendsOnce, behind_drop, defined, defined_by, is_lasting, sealed_of, there_or_not}
use Rattle.sessions.specs.declared.sending.Sealed.{Sealed}

pub sends-once : {S : Type 0} (did : S → List Event → S → Type 0) (p q : S) (file : Option ClientFile) (pool size before after : ℕ) (came : Result Came Refusal) (result : Result Sealed Refusal)
    → Call did p q (λ events. Sending file pool size before after events came) → result ≡ sealed_of came → Call did p q (SendsOnce file pool size result)
sends-once did p q file pool size before after came result a is =
    so_call did (λ events. Sending file pool size before after events came) (SendsOnce file pool size result) p q a (λ xs f. (before, after, came, f, is))

pub defines : {S : Type 0} (did : S → List Event → S → Type 0) (p q : S) (node : ℕ) (filespace : List ℕ) (answer : Result ℕ Refusal) (result : Result (Unit {0}) Refusal)
    → Call did p q (λ events. Changing (defined node filespace) events answer) → result ≡ defined_by answer → Call did p q (λ events. Defines node filespace events result)
defines did p q node filespace answer result a is =
    so_call did (λ events. Changing (defined node filespace) events answer) (λ events. Defines node filespace events result) p q a (λ xs f. (answer, f, is))

pub gives-back : {S : Type 0} (did : S → List Event → S → Type 0) (p q : S) (ticket : ℕ) (why e : Refusal) → is_lasting why ≡ false
    → (answer : Result (Unit {0}) Refusal) × MakesStep did p q (DropTicket ticket answer) × (e ≡ behind_drop why answer) → Call did p q (λ events. GivesBack ticket why events e)
gives-back did p q ticket why e lasting d =
    so_call did (λ events. IsStep (DropTicket ticket d.0) events) (λ events. GivesBack ticket why events e) p q (makes_step did p q (DropTicket ticket d.0) d.1)
    (λ xs f. inr (lasting, d.0, f, d.2))

pub or-gives-back : {S : Type 0} (did : S → List Event → S → Type 0) → GoesOn did → (p q r : S) (ticket : ℕ) (Tries : List Event → Result ℕ Refusal → Type 0) (why e : Refusal)
    → Call did p q (λ events. Tries events (Err why)) → Call did q r (λ events. GivesBack ticket why events e) → Call did p r (λ events. OrGivesBack ticket Tries events (Err e))
or-gives-back did goes p q r ticket Tries why e a b =
    so_call did (λ events. Then (λ xs. Tries xs (Err why)) (λ ys. GivesBack ticket why ys e) events) (λ events. OrGivesBack ticket Tries events (Err e)) p r
    (then_call did goes (λ events. Tries events (Err why)) (λ events. GivesBack ticket why events e) p q r a b) (λ xs f. (why, f))

pub forces-one : {S : Type 0} (did : S → List Event → S → Type 0) (p q : S) (number last : ℕ) → Does did p q (Force (Ok last)) → Call did p q (λ events. ForcesOne number events (Ok number))
forces-one did p q number last d =
    so_call did (λ events. Made (Force (Ok last)) events) (λ events. ForcesOne number events (Ok number)) p q (does_made did p q (Force (Ok last)) d) (λ xs f. (refl, last, f))

pub looks : {S : Type 0} (did : S → List Event → S → Type 0) (p q : S) (node filespace : List ℕ) (answer : Result ℕ Refusal) (result : Result (Option ℕ) Refusal)
    → Call did p q (λ events. AsksFor node filespace events answer) → result ≡ there_or_not answer → Call did p q (λ events. Looks node filespace events result)
looks did p q node filespace answer result a is =
    so_call did (λ events. AsksFor node filespace events answer) (λ events. Looks node filespace events result) p q a (λ xs f. (answer, f, is))
