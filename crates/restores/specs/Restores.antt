-- A restore: what it asks, and what it gives back.
use Rattle.std.specs.Prelude.{◌≡◌, ◌⊎◌, ℕ, List, [], ◌∷◌, if◌then◌else◌, Option, Result, Ok, Err}
use Rattle.kinds.specs.declared.refusal.Refusal.{Refusal}
use Rattle.kinds.specs.declared.refusal.Refusal.TheVariants.{Memory}
use Rattle.inventory_answers.specs.declared.lines.VersionLine.{VersionLine}
use Rattle.inventory_answers.specs.declared.query.Query.TheVariants as query
use Rattle.inventory_answers.specs.declared.reply.Answer.{Answer}
use Rattle.inventory_answers.specs.declared.reply.Rows.TheVariants as rows
use Rattle.client_trees.specs.Files.{Files}
use Rattle.steps.specs.Calls.{Made, Then}
use Rattle.steps.specs.Events.{Event, has_number}
use Rattle.steps.specs.Events.Deed.{Ask}
use Rattle.restores.specs.Chosen.{chosen}
use Rattle.restores.specs.Given.{Gives, Stops}
use Rattle.restores.specs.declared.choosing.RestoreLine.{RestoreLine}
use Rattle.restores.specs.declared.choosing.Which.{Which}
use Rattle.restores.specs.declared.process.Restored.{Restored}

-- the filespace isn't there, a halted hall, a full run; what can't be answered there stands for want of memory
abbrev pub unasked : Refusal → Refusal
unasked e = if has_number (10 ∷ 40 ∷ 41 ∷ []) e then e else Memory

-- The versions of the filespace were asked, and these are they; or the question was refused, or wasn't answered by versions.
abbrev pub Asks : (node filespace : List ℕ) → List Event → Result (List VersionLine) Refusal → Type 0
Asks node filespace events (Ok lines) = (answer : Answer) × (answer.rows ≡ rows.Versions lines) × Made (Ask (query.Versions node filespace) (Ok answer)) events
Asks node filespace events (Err e) =
    ((why : Refusal) × (e ≡ unasked why) × Made (Ask (query.Versions node filespace) (Err why)) events)
    ⊎ ((answer : Answer) × (e ≡ Memory) × Made (Ask (query.Versions node filespace) (Ok answer)) events)

-- those that are restored of the versions that were answered; or the question was refused, or memory was wanted
abbrev pub Begins : (node filespace : List ℕ) → Which → List Event → Result (List RestoreLine) Refusal → Type 0
Begins node filespace which events (Ok rows) = (lines : List VersionLine) × Asks node filespace events (Ok lines) × (rows ≡ chosen which lines)
Begins node filespace which events (Err e) = Asks node filespace events (Err e) ⊎ ((lines : List VersionLine) × Asks node filespace events (Ok lines) × (e ≡ Memory))

-- What was asked is answered, of each whether it was restored; or the restore ended before its first object, or at one of them.
abbrev pub Restores : (node filespace : List ℕ) → Which → (before after : ℕ) → (old new : Option Files) → List Event → Result Restored Refusal → Type 0
Restores node filespace which before after old new events (Ok r) =
    Then (λ xs. Begins node filespace which xs (Ok r.lines)) (λ ys. Gives r.lines r.gave before after old new ys) events
Restores node filespace which before after old new events (Err e) =
    (Begins node filespace which events (Err e) × (after ≡ before) × (new ≡ old))
    ⊎ ((lines : List RestoreLine) × Then (λ xs. Begins node filespace which xs (Ok lines)) (λ ys. Stops lines before after old new e ys) events)
