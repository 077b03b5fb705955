-- What an incremental backup asks, and what it is answered.
use Rattle.std.specs.Prelude.{◌≡◌, ◌⊎◌, ℕ, ◌==◌, true, false, List, [], ◌∷◌, if◌then◌else◌, Option, None, Some, Result, Ok, Err}
use Rattle.kinds.specs.Refusals.{number_of}
use Rattle.kinds.specs.declared.refusal.Refusal.{Refusal}
use Rattle.kinds.specs.declared.refusal.Refusal.TheVariants as refused
use Rattle.inventory_answers.specs.declared.lines.FilespaceLine.{FilespaceLine}
use Rattle.inventory_answers.specs.declared.lines.VersionLine.{VersionLine}
use Rattle.inventory_answers.specs.declared.query.Query.{Query}
use Rattle.inventory_answers.specs.declared.query.Query.TheVariants as query
use Rattle.inventory_answers.specs.declared.reply.Answer.{Answer}
use Rattle.inventory_answers.specs.declared.reply.Rows.TheVariants as rows
use Rattle.inventory_work.specs.declared.search.Found.{Found}
use Rattle.inventory_work.specs.declared.search.Found.TheVariants as found
use Rattle.inventory_work.specs.declared.search.Named.TheVariants as thing
use Rattle.steps.specs.Calls.{Made, Then}
use Rattle.steps.specs.Events.{Event, has_number}
use Rattle.steps.specs.Events.Deed.{Ask}
use Rattle.incrementals.specs.declared.asking.Basis.{Basis}
use Rattle.incrementals.specs.declared.asking.Ruled.{Ruled}

-- what is named isn't there, a halted hall, a full run; what can't be answered there stands for want of memory
abbrev pub unasked : Refusal → Refusal
unasked e = if has_number (10 ∷ 40 ∷ 41 ∷ []) e then e else refused.Memory

-- a filespace that isn't there has no versions
abbrev pub unlisted : Refusal → Result (List VersionLine) Refusal
unlisted e = if number_of e == 10 then Ok [] else Err (unasked e)

-- ---- what answers have

abbrev pub HasVersions : List VersionLine → Answer → Type 0
HasVersions lines answer = answer.rows ≡ rows.Versions lines

abbrev pub number_found : Found → Option ℕ
number_found (found.Number number) = Some number
number_found (found.DevClass capacity) = None

abbrev pub HasNumber : ℕ → Answer → Type 0
HasNumber number answer = (found : Found) × (answer.rows ≡ rows.Lookup found) × (number_found found ≡ Some number)

abbrev pub HasRules : (node : ℕ) → Ruled → Answer → Type 0
HasRules node r answer = (answer.rows ≡ rows.Rules r.rules) × (r.today ≡ answer.today) × (r.node ≡ node)

abbrev pub HasFilespaces : List FilespaceLine → Answer → Type 0
HasFilespaces lines answer = answer.rows ≡ rows.Filespaces lines

-- ---- questions

-- this was asked, and the answer has that
abbrev pub Answered : Query → (Answer → Type 0) → List Event → Type 0
Answered q Has events = (answer : Answer) × Has answer × Made (Ask q (Ok answer)) events

-- It wasn't asked for want of memory, or not answered by such rows, or the question was refused.
abbrev pub Unanswered : Query → List Event → Refusal → Type 0
Unanswered q events e =
    ((e ≡ refused.Memory) × (events ≡ []))
    ⊎ ((answer : Answer) × (e ≡ refused.Memory) × Made (Ask q (Ok answer)) events)
    ⊎ ((why : Refusal) × (e ≡ unasked why) × Made (Ask q (Err why)) events)

abbrev pub AsksFor : {A : Type 0} → Query → (A → Answer → Type 0) → List Event → Result A Refusal → Type 0
AsksFor q Has events (Ok x) = Answered q (Has x) events
AsksFor q Has events (Err e) = Unanswered q events e

-- the versions of a filespace, which has none where it isn't there
abbrev pub AsksVersions : (node filespace : List ℕ) → List Event → Result (List VersionLine) Refusal → Type 0
AsksVersions node filespace events (Ok lines) =
    Answered (query.Versions node filespace) (HasVersions lines) events
    ⊎ ((lines ≡ []) × (why : Refusal) × ((number_of why == 10) ≡ true) × Made (Ask (query.Versions node filespace) (Err why)) events)
AsksVersions node filespace events (Err e) = ((number_of e == 10) ≡ false) × Unanswered (query.Versions node filespace) events e

-- the number of a node
abbrev pub AsksNode : (node : List ℕ) → List Event → Result ℕ Refusal → Type 0
AsksNode node events result = AsksFor (query.Lookup (thing.Node node)) HasNumber events result

-- the rules of the classes of the node with this number
abbrev pub AsksRules : (number : ℕ) → List Event → Result Ruled Refusal → Type 0
AsksRules number events result = AsksFor (query.Rules number) (HasRules number) events result

-- the rules of the classes of the node with this name
abbrev pub AsksNodeRules : (node : List ℕ) → List Event → Result Ruled Refusal → Type 0
AsksNodeRules node events result =
    ((number : ℕ) × Then (λ xs. AsksNode node xs (Ok number)) (λ ys. AsksRules number ys result) events)
    ⊎ ((e : Refusal) × AsksNode node events (Err e) × (result ≡ Err e))

-- first the versions of a filespace, and then the rules of its node's classes
abbrev pub AsksAll : (node filespace : List ℕ) → List Event → Result Basis Refusal → Type 0
AsksAll node filespace events (Ok b) = Then (λ xs. AsksVersions node filespace xs (Ok b.versions)) (λ ys. AsksNodeRules node ys (Ok b.ruled)) events
AsksAll node filespace events (Err e) =
    AsksVersions node filespace events (Err e)
    ⊎ ((versions : List VersionLine) × Then (λ xs. AsksVersions node filespace xs (Ok versions)) (λ ys. AsksNodeRules node ys (Err e)) events)
