-- A restore asks, chooses, and gives back.
use Rattle.std.proofs.Common.{◌≡◌, inl, inr, ℕ, List, Option, Result, Ok, Err, refl}
use Rattle.kinds.specs.Answers.{AnswersBy}
use Rattle.kinds.specs.declared.refusal.Refusal.{Refusal}
use Rattle.kinds.specs.declared.refusal.Refusal.TheVariants.{Memory}
use Rattle.inventory_answers.specs.declared.lines.VersionLine.{VersionLine}
use Rattle.inventory_answers.specs.declared.query.Query.TheVariants as query
use Rattle.inventory_answers.specs.declared.reply.Answer.{Answer}
use Rattle.inventory_answers.specs.declared.reply.Rows.TheVariants as rows
use Rattle.client_files.specs.declared.outcome.Gave.{Gave}
use Rattle.client_trees.specs.Files.{Files}
use Rattle.steps.proofs.Joining.{GoesOn, does_made, so_call, then_call}
use Rattle.steps.specs.Calls.{Call, Does, Made, Then}
use Rattle.steps.specs.Events.{Event}
use Rattle.steps.specs.Events.Deed.{Ask}
use Rattle.restores.specs.Chosen.{chosen}
use Rattle.restores.specs.Given.{Gives, GivesEach, Stops}
use Rattle.restores.specs.Restores.{Asks, Begins, Restores, unasked}
use Rattle.restores.specs.declared.choosing.RestoreLine.{RestoreLine}
use Rattle.restores.specs.declared.choosing.Which.{Which}

pub asks-refused : {S : Type 0} (did : S → List Event → S → Type 0) (p q : S) (node filespace : List ℕ) (why e : Refusal) → Does did p q (Ask (query.Versions node filespace) (Err why)) → e ≡ unasked why
    → Call did p q (λ events. Asks node filespace events (Err e))
asks-refused did p q node filespace why e d same =
    so_call did (λ events. Made (Ask (query.Versions node filespace) (Err why)) events) (λ events. Asks node filespace events (Err e)) p q (does_made did p q (Ask (query.Versions node filespace) (Err why)) d)
    (λ xs made. inl (why, same, made))

pub asks-answered : {S : Type 0} (did : S → List Event → S → Type 0) (p q : S) (node filespace : List ℕ) (answer : Answer) (lines : List VersionLine) → Does did p q (Ask (query.Versions node filespace) (Ok answer))
    → answer.rows ≡ rows.Versions lines → Call did p q (λ events. Asks node filespace events (Ok lines))
asks-answered did p q node filespace answer lines d is =
    so_call did (λ events. Made (Ask (query.Versions node filespace) (Ok answer)) events) (λ events. Asks node filespace events (Ok lines)) p q (does_made did p q (Ask (query.Versions node filespace) (Ok answer)) d)
    (λ xs made. (answer, is, made))

pub asks-other : {S : Type 0} (did : S → List Event → S → Type 0) (p q : S) (node filespace : List ℕ) (answer : Answer) (e : Refusal) → Does did p q (Ask (query.Versions node filespace) (Ok answer)) → e ≡ Memory
    → Call did p q (λ events. Asks node filespace events (Err e))
asks-other did p q node filespace answer e d none =
    so_call did (λ events. Made (Ask (query.Versions node filespace) (Ok answer)) events) (λ events. Asks node filespace events (Err e)) p q (does_made did p q (Ask (query.Versions node filespace) (Ok answer)) d)
    (λ xs made. inr (answer, none, made))

pub asks-as-answered : {S : Type 0} (did : S → List Event → S → Type 0) (p q : S) (node filespace : List ℕ) (answer : Answer) (result : Result (List VersionLine) Refusal) → Does did p q (Ask (query.Versions node filespace) (Ok answer))
    → ((lines : List VersionLine) → result ≡ Ok lines → answer.rows ≡ rows.Versions lines) → ((e : Refusal) → result ≡ Err e → e ≡ Memory) → Call did p q (λ events. Asks node filespace events result)
asks-as-answered did p q node filespace answer (Ok lines) d ok err = asks-answered did p q node filespace answer lines d (ok lines refl)
asks-as-answered did p q node filespace answer (Err e) d ok err = asks-other did p q node filespace answer e d (err e refl)

pub begins-unasked : {S : Type 0} (did : S → List Event → S → Type 0) (p q : S) (node filespace : List ℕ) (which : Which) (e : Refusal) → Call did p q (λ events. Asks node filespace events (Err e))
    → Call did p q (λ events. Begins node filespace which events (Err e))
begins-unasked did p q node filespace which e a = so_call did (λ events. Asks node filespace events (Err e)) (λ events. Begins node filespace which events (Err e)) p q a (λ xs f. inl f)

pub begins-asked : {S : Type 0} (did : S → List Event → S → Type 0) (p q : S) (node filespace : List ℕ) (which : Which) (lines : List VersionLine) (result : Result (List RestoreLine) Refusal)
    → Call did p q (λ events. Asks node filespace events (Ok lines)) → AnswersBy (λ rows. rows) result (chosen which lines) → Call did p q (λ events. Begins node filespace which events result)
begins-asked did p q node filespace which lines (Ok chosen) a said =
    so_call did (λ events. Asks node filespace events (Ok lines)) (λ events. Begins node filespace which events (Ok chosen)) p q a (λ xs f. (lines, f, said))
begins-asked did p q node filespace which lines (Err e) a said = so_call did (λ events. Asks node filespace events (Ok lines)) (λ events. Begins node filespace which events (Err e)) p q a (λ xs f. inr (lines, f, said))

pub restores-unbegun : {S : Type 0} (did : S → List Event → S → Type 0) (p q : S) (node filespace : List ℕ) (which : Which) (count : ℕ) (told : Option Files) (e : Refusal)
    → Call did p q (λ events. Begins node filespace which events (Err e)) → Call did p q (λ events. Restores node filespace which count count told told events (Err e))
restores-unbegun did p q node filespace which count told e a =
    so_call did (λ events. Begins node filespace which events (Err e)) (λ events. Restores node filespace which count count told told events (Err e)) p q a (λ xs f. inl (f, refl, refl))

pub restores-each : {S : Type 0} (did : S → List Event → S → Type 0) → GoesOn did → (p q r : S) (node filespace : List ℕ) (which : Which) (before after : ℕ) (old new : Option Files) (lines : List RestoreLine) (gave : List Gave)
    → Call did p q (λ events. Begins node filespace which events (Ok lines)) → Call did q r (λ events. GivesEach lines before after old new events (Ok gave))
    → Call did p r (λ events. Restores node filespace which before after old new events (Ok (record { lines = lines; gave = gave })))
restores-each did goes p q r node filespace which before after old new lines gave a b =
    then_call did goes (λ events. Begins node filespace which events (Ok lines)) (λ events. Gives lines gave before after old new events) p q r a b

pub restores-stopped : {S : Type 0} (did : S → List Event → S → Type 0) → GoesOn did → (p q r : S) (node filespace : List ℕ) (which : Which) (before after : ℕ) (old new : Option Files) (lines : List RestoreLine) (e : Refusal)
    → Call did p q (λ events. Begins node filespace which events (Ok lines)) → Call did q r (λ events. GivesEach lines before after old new events (Err e))
    → Call did p r (λ events. Restores node filespace which before after old new events (Err e))
restores-stopped did goes p q r node filespace which before after old new lines e a b =
    so_call did (λ events. Then (λ xs. Begins node filespace which xs (Ok lines)) (λ ys. Stops lines before after old new e ys) events) (λ events. Restores node filespace which before after old new events (Err e)) p r
    (then_call did goes (λ events. Begins node filespace which events (Ok lines)) (λ events. Stops lines before after old new e events) p q r a b) (λ xs f. inr (lines, f))
