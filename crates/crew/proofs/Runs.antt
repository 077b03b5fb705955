-- A run on a hall goes on.
use Rattle.std.proofs.Common.{◌≡◌, ℕ, ◌≤◌, ◌<◌, List, [], ◌∷◌, ◌++◌, Option, Some, refl, sym, subst}
use Rattle.std.specs.List.{AllByRecursion}
use Rattle.store_api.specs.Disk.{History}
use Rattle.hall.specs.Held.{Hall}
use Rattle.hall.specs.Steps.{Goes, Steps}
use Rattle.crew.specs.Ran.{Began, Ran, RanFrom, began}
use Rattle.steps.specs.Events.{Deed, Event, event}
use Rattle.crew.specs.Knowing.{IsWithin, turn}
use Rattle.crew.proofs.Seating.{all_more}
use Rattle.machine.specs.Turns.{Turn}

module _ {S : Type 0} (told : S → Option History) (moment : S → ℕ) (faults : S → ℕ → ℕ) where
  -- one turn more
  ran_more : (turns : List Turn) (t : Turn) (old mid new : Hall S) → Ran told moment faults turns old mid → t.did.n ≡ mid.held.vault.database.number → Steps told moment faults t.actor t.did.deed mid new → Goes told mid new
      → Ran told moment faults (turns ++ t ∷ []) old new
  ran_more [] t old mid new ran number steps goes =
      (new, subst (λ (h : Hall S). t.did.n ≡ h.held.vault.database.number) ran number, subst (λ (h : Hall S). Steps told moment faults t.actor t.did.deed h new) ran steps, subst (λ (h : Hall S). Goes told h new) ran goes, refl)
  ran_more (x ∷ turns) t old mid new ran number steps goes = (ran.0, ran.1, ran.2, ran.3, ran_more turns t ran.0 mid new ran.4 number steps goes)

  pub from_more : (first : Option Began) (turns : List Turn) (t : Turn) (mid new : Hall S) → RanFrom told moment faults first turns mid → t.did.n ≡ mid.held.vault.database.number → Steps told moment faults t.actor t.did.deed mid new
      → Goes told mid new → RanFrom told moment faults first (turns ++ t ∷ []) new
  from_more first turns t mid new ran number steps goes = (ran.0, ran.1, ran_more turns t ran.0 mid new ran.2 number steps goes)

  -- by a step that was told
  pub from_told : (first : Option Began) (turns after : List Turn) (actor asked n : ℕ) (deed : Deed) (mid new : Hall S) → RanFrom told moment faults first turns mid → after ≡ turns ++ turn actor (event n deed) ∷ []
      → asked ≡ actor → n ≡ mid.held.vault.database.number → Steps told moment faults asked deed mid new → Goes told mid new → RanFrom told moment faults first after new
  from_told first turns after actor asked n deed mid new ran is same number steps goes =
      subst (λ (l : List Turn). RanFrom told moment faults first l new) (sym is)
      (from_more first turns (turn actor (event n deed)) mid new ran number (subst (λ (a : ℕ). Steps told moment faults a deed mid new) same steps) goes)

  -- none
  pub from_none : (first : Option Began) (turns : List Turn) (hall : Hall S) → turns ≡ [] → first ≡ Some (began told moment faults hall) → RanFrom told moment faults first turns hall
  from_none first turns hall none is = subst (λ (l : List Turn). RanFrom told moment faults first l hall) (sym none) (hall, is, refl)

-- a step of one of the block's actors joins those that were told
pub still_within : (least most asked actor : ℕ) (e : Event) (turns after : List Turn) → AllByRecursion (IsWithin least most) turns → after ≡ turns ++ turn actor e ∷ [] → asked ≡ actor → (least ≤ asked) × (asked < most)
    → AllByRecursion (IsWithin least most) after
still_within least most asked actor e turns after all is same within =
    subst (λ (l : List Turn). AllByRecursion (IsWithin least most) l) (sym is)
    (all_more (IsWithin least most) turns (turn actor e) all (subst (λ (a : ℕ). (least ≤ a) × (a < most)) same within))
