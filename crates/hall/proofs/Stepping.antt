-- A hall that was in a state of the machine is in one again behind a step.
use Rattle.std.proofs.Common.{◌≡◌, ℕ, Option, Some, None, refl, subst}
use Rattle.store_api.specs.Disk.{History}
use Rattle.store_api.specs.Runs.{GoesOn}
use Rattle.store_api.specs.Told.{Told}
use Rattle.store_api.proofs.Runs.{goes_none, goes_weaker, told_map}
use Rattle.steps.specs.Events.{Deed}
use Rattle.machine.specs.State.{Machine}
use Rattle.hall.specs.Good.{Is}
use Rattle.hall.specs.Held.{Hall, Held}
use Rattle.machine.specs.Alone.{behind}
use Rattle.hall.specs.Steps.{Goes, Looks, Steps}

module _ {S : Type 0} (told : S → Option History) (moment : S → ℕ) (faults : S → ℕ → ℕ) (actor : ℕ) (deed : Deed) where
  pub still_good : (old new : Hall S) → Steps told moment faults actor deed old new → ((m : Machine) × Is told moment faults old m) → (m : Machine) × Is told moment faults new m
  still_good old new steps good = let made = steps good.0 good.1 in (behind deed good.0.contents made.1, made.4)

  -- a step that changed nothing, of the hall as it is seen
  pub stays_seen : (hall now : Hall S) → hall ≡ now → Steps told moment faults actor deed hall hall → Steps told moment faults actor deed now now
  stays_seen hall now seen steps = subst (λ h. Steps told moment faults actor deed h h) seen steps

  pub goes_seen : (hall now new : Hall S) → hall ≡ now → Steps told moment faults actor deed hall new → Steps told moment faults actor deed now new
  goes_seen hall now new seen steps = subst (λ h. Steps told moment faults actor deed h new) seen steps

-- ---- what every step leaves

told_same : (told : Option History) (mine : ℕ → Type 0) → Told told told (GoesOn mine)
told_same None mine = tt
told_same (Some h) mine = goes_none mine h

module _ {S : Type 0} (told : S → Option History) where
  pub goes_nowhere : (hall : Hall S) → Goes told hall hall
  goes_nowhere hall = record { base = refl; opened = refl; files = told_same (told hall.store) (λ file. Unit {0}) }

  pub looks_none : (hall : Hall S) → Looks told hall hall
  looks_none hall = record { held = refl; files = told_same (told hall.store) (λ file. ⊥) }

  -- no device call was made
  pub goes_held : (hall now : Hall S) (held : Held) → hall ≡ now → held.base ≡ hall.held.base → held.opened ≡ hall.held.opened → Goes told now (record { store = hall.store; held = held })
  goes_held hall now held seen base opened =
      subst (λ h. Goes told h (record { store = hall.store; held = held })) seen (record { base = base; opened = opened; files = told_same (told hall.store) (λ file. Unit {0}) })

  -- calls were made
  pub goes_over : (mine : ℕ → Type 0) (hall now new : Hall S) → hall ≡ now → new.held.base ≡ hall.held.base → new.held.opened ≡ hall.held.opened → Told (told hall.store) (told new.store) (GoesOn mine)
      → Goes told now new
  goes_over mine hall now new seen base opened files =
      subst (λ h. Goes told h new) seen (record {
        base = base;
        opened = opened;
        files = told_map (told hall.store) (told new.store) (GoesOn mine) (GoesOn (λ file. Unit {0})) (λ h n goes. goes_weaker mine (λ file. Unit {0}) h n (λ file own. tt) goes) files;
      })
