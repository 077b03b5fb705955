-- Why an incremental backup ends with a refusal.
use Rattle.std.specs.Prelude.{◌≡◌, ◌⊎◌, ℕ, Bool, true, List, [], ◌∷◌, None, Some, Ok}
use Rattle.kinds.specs.declared.refusal.Refusal.{Refusal}
use Rattle.kinds.specs.declared.refusal.Refusal.TheVariants as refused
use Rattle.inventory_answers.specs.declared.lines.FilespaceLine.{FilespaceLine}
use Rattle.inventory_answers.specs.declared.query.Query.TheVariants as query
use Rattle.inventory_answers.specs.declared.reply.Answer.{Answer}
use Rattle.copy_attempts.specs.Outcomes.{Met, MetBy}
use Rattle.steps.specs.Events.{Deed, Event, has_number}
use Rattle.steps.specs.Events.Deed.{Ask}
use Rattle.tree_api.specs.Cause.{Rose}
use Rattle.incrementals.specs.Asking.{HasFilespaces}
use Rattle.incrementals.specs.Filespaces.{number_in}

-- what is named isn't there, somebody else has what it waits for, a bound of the database's, a halted hall, a full run, or want of memory
abbrev pub is_ending : Refusal → Bool
is_ending e = has_number (10 ∷ 21 ∷ 31 ∷ 40 ∷ 41 ∷ 50 ∷ []) e

-- the filespace wasn't among those of its node
abbrev pub IsMissing : (node filespace : List ℕ) → Deed → Type 0
IsMissing node filespace d =
    (answer : Answer) × (lines : List FilespaceLine) × (d ≡ Ask (query.Filespaces (Some node)) (Ok answer)) × HasFilespaces lines answer × (number_in filespace lines ≡ None)

-- Want of memory; a refusal that ends it, which one of the steps met; a listing that failed, by which the tree's count of faults rose; or the filespace went meanwhile.
abbrev pub IsCaused : (node filespace : List ℕ) → (before after : ℕ) → List Event → Refusal → Type 0
IsCaused node filespace before after events e =
    (e ≡ refused.Memory)
    ⊎ ((is_ending e ≡ true) × Met e events)
    ⊎ ((e ≡ refused.TreeFault) × Rose before after)
    ⊎ ((e ≡ refused.NotFound) × MetBy (IsMissing node filespace) events)
