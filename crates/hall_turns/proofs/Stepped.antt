-- A step of an actor that has a hall alone is one event.
use Rattle.std.proofs.Common.{◌≡◌, ℕ, true, List, [], ◌∷◌, Option, Result, Ok, Err, refl}
use Rattle.store_api.specs.Disk.{History}
use Rattle.kinds.specs.declared.refusal.Refusal.{Refusal}
use Rattle.steps.specs.Calls.{piece_of}
use Rattle.steps.specs.Events.{Deed, event, is_listed, refusal, refusal_in}
use Rattle.hall.specs.Alone.{Did, raised}
use Rattle.hall.specs.Held.{Hall}
use Rattle.hall.specs.Steps.{Goes, Steps}

module _ {S N : Type 0} (told : S → Option History) (moment : S → ℕ) (faults : S → ℕ → ℕ) (deed : Deed) (name after : N) (actor refused actor_after refused_after : ℕ) (old new : Hall S) where
  -- the step was made
  pub made_alone : after ≡ name → actor_after ≡ actor → refused_after ≡ raised refused (refusal deed) → Steps told moment faults actor deed old new → Goes told old new → is_listed deed ≡ true
      → (n : ℕ) × Did told moment faults name actor refused old (event n deed ∷ []) after actor_after refused_after new × (is_listed deed ≡ true)
  made_alone named same counted steps goes listed =
      (old.held.vault.database.number, (named, same, counted, (new, refl, steps, goes, refl)), listed)

-- a read's bytes don't matter for the count
pub read_counted : (count now : ℕ) (answer : Result ℕ Refusal) (bytes : List ℕ) → now ≡ raised count (refusal_in answer) → now ≡ raised count (refusal_in (piece_of answer bytes))
read_counted count now (Ok n) bytes is = is
read_counted count now (Err e) bytes is = is
