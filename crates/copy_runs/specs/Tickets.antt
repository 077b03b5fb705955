-- Tickets for the moves of copies that were listed before.
use Rattle.std.specs.Prelude.{◌≡◌, ◌⊎◌, ℕ, Bool, List, Result, Ok, Err}
use Rattle.kinds.specs.declared.refusal.Refusal.{Refusal}
use Rattle.inventory_answers.specs.declared.query.Query.TheVariants as query
use Rattle.inventory_answers.specs.declared.reply.Answer.{Answer}
use Rattle.inventory_answers.specs.declared.reply.Rows.TheVariants as rows
use Rattle.inventory_work.specs.declared.lines.CopyLine.{CopyLine}
use Rattle.space.specs.declared.aim.Aim.TheVariants as aim
use Rattle.steps.specs.Calls.{Then}
use Rattle.steps.specs.Events.{Deed, Event}
use Rattle.steps.specs.Events.Deed.{Ask, OpenCopy}
use Rattle.copy_attempts.specs.Outcomes.{MetBy}
use Rattle.copy_runs.specs.Wanting.{IsIn}

-- one of the copies with which the question for those on a volume was answered is the object's in this pool
abbrev pub ListsOnVolume : (object pool : ℕ) → Deed → Type 0
ListsOnVolume object pool d =
    (file : ℕ) × (answer : Answer) × (lines : List CopyLine) × (line : CopyLine)
    × (d ≡ Ask (query.OnVolume file) (Ok answer)) × (answer.rows ≡ rows.OnVolume lines) × IsIn line lines × (line.object ≡ object) × (line.pool ≡ pool)

-- one of those with which the question for the copies in this pool was answered is the object's
abbrev pub ListsInPool : (object pool : ℕ) → Deed → Type 0
ListsInPool object pool d =
    (answer : Answer) × (lines : List CopyLine) × (line : CopyLine) × (d ≡ Ask (query.OnPool pool) (Ok answer)) × (answer.rows ≡ rows.OnPool lines) × IsIn line lines × (line.object ≡ object)

-- the object's copy in the pool was listed
abbrev pub ListsCopy : (object pool : ℕ) → Deed → Type 0
ListsCopy object pool d = ListsOnVolume object pool d ⊎ ListsInPool object pool d

-- The copy was listed, and behind that it got no ticket for its move, but this refusal.
abbrev pub GotNoTicket : (object from placed to : ℕ) → (along : Bool) → (avoid : ℕ) → List Event → Refusal → Type 0
GotNoTicket object from placed to along avoid events e =
    Then (λ xs. MetBy (ListsCopy object from) xs) (λ ys. MetBy (λ d. d ≡ OpenCopy object (aim.Move from placed to along) avoid (Err e)) ys) events
