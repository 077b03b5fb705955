-- What a command asks before it does anything.
use Rattle.std.specs.Prelude.{◌≡◌, ◌⊎◌, ℕ, if◌then◌else◌, List, [], ◌∷◌, Result, Ok, Err}
use Rattle.kinds.specs.declared.refusal.Refusal.{Refusal}
use Rattle.kinds.specs.declared.refusal.Refusal.TheVariants.{Memory}
use Rattle.inventory_answers.specs.declared.lines.VersionLine.{VersionLine}
use Rattle.inventory_answers.specs.declared.query.Query.{Query}
use Rattle.inventory_answers.specs.declared.query.Query.TheVariants as query
use Rattle.inventory_answers.specs.declared.reply.Answer.{Answer}
use Rattle.inventory_answers.specs.declared.reply.Rows.{Rows}
use Rattle.inventory_answers.specs.declared.reply.Rows.TheVariants as rows
use Rattle.inventory_work.specs.declared.lines.Rules.{Rules}
use Rattle.inventory_work.specs.declared.search.Found.TheVariants as found
use Rattle.inventory_work.specs.declared.search.Named.{Named}
use Rattle.inventory_work.specs.declared.search.Named.TheVariants as thing
use Rattle.steps.specs.Calls.{Made}
use Rattle.steps.specs.Events.{Event, has_number}
use Rattle.steps.specs.Events.Deed.{Ask}

-- what was named isn't there, a halted hall, a full run; what can't be answered there stands for want of memory
abbrev pub unasked : Refusal → Refusal
unasked e = if has_number (10 ∷ 40 ∷ 41 ∷ []) e then e else Memory

-- The query was asked, and its rows are these; or it was refused, or answered by rows of another kind.
abbrev pub Asks : {A : Type 0} → Query → (kind : A → Rows) → List Event → Result A Refusal → Type 0
Asks query kind events (Ok lines) = (answer : Answer) × (answer.rows ≡ kind lines) × Made (Ask query (Ok answer)) events
Asks query kind events (Err e) =
    ((why : Refusal) × (e ≡ unasked why) × Made (Ask query (Err why)) events)
    ⊎ ((answer : Answer) × (e ≡ Memory) × Made (Ask query (Ok answer)) events)

-- the number under a name is asked
abbrev pub AsksNumber : Named → List Event → Result ℕ Refusal → Type 0
AsksNumber named events result = Asks (query.Lookup named) (λ number. rows.Lookup (found.Number number)) events result

-- that of a node, and that of a node's filespace
abbrev pub AsksNode : (node : List ℕ) → List Event → Result ℕ Refusal → Type 0
AsksNode node events result = AsksNumber (thing.Node node) events result

abbrev pub AsksFilespace : (node filespace : List ℕ) → List Event → Result ℕ Refusal → Type 0
AsksFilespace node filespace events result = AsksNumber (thing.Filespace node filespace) events result

-- the rules of the classes of a node's domain are asked
abbrev pub AsksRules : (node : ℕ) → List Event → Result Rules Refusal → Type 0
AsksRules number events result = Asks (query.Rules number) rows.Rules events result

-- the versions of one path of a filespace are asked
abbrev pub AsksPath : (node filespace path : List ℕ) → List Event → Result (List VersionLine) Refusal → Type 0
AsksPath node filespace path events result = Asks (query.Path node filespace path) rows.Versions events result
