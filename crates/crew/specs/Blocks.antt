-- What came of a block.
use Rattle.std.specs.Prelude.{ℕ, ◌+◌, List, length, Option, Some}
use Rattle.std.specs.List.{AllByRecursion}
use Rattle.steps.specs.Events.{Event}
use Rattle.store_api.specs.Disk.{History}
use Rattle.hall.specs.Held.{Hall}
use Rattle.crew.specs.Knowing.{IsWithin}
use Rattle.crew.specs.Passes.{EachDid}
use Rattle.crew.specs.Ran.{RanFrom, began}
use Rattle.machine.specs.Turns.{Turn}

-- Some turns led from this hall to that one, each of them a step of the actor of one of the jobs, and what they say of the actor of each job is what that job did.
abbrev pub CameTo : {S J : Type 0} → (told : S → Option History) → (moment : S → ℕ) → (faults : S → ℕ → ℕ) → (did : J → ℕ → List Event → J → Type 0) → (first : ℕ) → (hall : Hall S) → (jobs : List J) → (hall_after : Hall S)
    → (jobs_after : List J) → Type 0
CameTo told moment faults did first hall jobs hall_after jobs_after =
    (turns : List Turn) × RanFrom told moment faults (Some (began told moment faults hall)) turns hall_after × AllByRecursion (IsWithin first (first + length jobs)) turns × EachDid did first turns jobs jobs_after
