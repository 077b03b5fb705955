-- What came of the objects that were to be restored, one after the other.
use Rattle.std.specs.Prelude.{◌≡◌, ◌⊎◌, ℕ, List, [], ◌∷◌, ◌++◌, Option, Result, Ok, Err}
use Rattle.kinds.specs.declared.refusal.Refusal.{Refusal}
use Rattle.kinds.specs.declared.refusal.Refusal.TheVariants.{Memory}
use Rattle.client_files.specs.declared.outcome.Gave.{Gave}
use Rattle.client_files.specs.Restoring.{Restoring}
use Rattle.client_trees.specs.Files.{Files}
use Rattle.steps.specs.Events.{Event}
use Rattle.restores.specs.declared.choosing.RestoreLine.{RestoreLine}

-- Each in its turn was restored, or not and why, and each began with what the one before it left of the tree.
abbrev pub Gives : List RestoreLine → List Gave → (before after : ℕ) → (old new : Option Files) → List Event → Type 0
Gives [] [] before after old new events = (events ≡ []) × (after ≡ before) × (new ≡ old)
Gives (l ∷ lines) (g ∷ gave) before after old new events =
    (xs : List Event) × (ys : List Event) × (count : ℕ) × (between : Option Files) × (events ≡ xs ++ ys)
    × Restoring l.stored l.path before count old between xs (Ok g) × Gives lines gave count after between new ys
Gives _ _ before after old new events = ⊥

-- a step of the next one ended the call
abbrev pub Ends : List RestoreLine → (before after : ℕ) → (old new : Option Files) → Refusal → List Event → Type 0
Ends [] before after old new e events = ⊥
Ends (l ∷ lines) before after old new e events = Restoring l.stored l.path before after old new events (Err e)

-- Some were, and then memory was wanted for what is answered, or a step of the next one ended the call.
pub record Stops (lines : List RestoreLine) (before after : ℕ) (old new : Option Files) (e : Refusal) (events : List Event) : Type 0 where
  pub front : List RestoreLine
  pub back : List RestoreLine
  pub gave : List Gave
  pub count : ℕ
  pub between : Option Files
  pub xs : List Event
  pub ys : List Event
  pub lined : lines ≡ front ++ back
  pub made : events ≡ xs ++ ys
  pub gives : Gives front gave before count old between xs
  pub ends : ((e ≡ Memory) × (ys ≡ []) × (after ≡ count) × (new ≡ between)) ⊎ Ends back count after between new e ys

-- each was restored, or not and why; or the call ended
abbrev pub GivesEach : List RestoreLine → (before after : ℕ) → (old new : Option Files) → List Event → Result (List Gave) Refusal → Type 0
GivesEach lines before after old new events (Ok gave) = Gives lines gave before after old new events
GivesEach lines before after old new events (Err e) = Stops lines before after old new e events
