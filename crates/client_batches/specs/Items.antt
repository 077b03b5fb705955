-- Which items the transactions of lists have.
use Rattle.std.specs.Prelude.{◌≡◌, ℕ, List, [], ◌∷◌, ◌++◌, length, map, Option, None, Some, Ok}
use Rattle.std.specs.List.{flat_map}
use Rattle.kinds.specs.declared.refusal.Refusal.{Refusal}
use Rattle.entries.specs.change_items.declared.items.NamedVersion.{NamedVersion}
use Rattle.entries.specs.change_items.declared.items.Rebinding.{Rebinding}
use Rattle.entries.specs.declared.change.Change.TheVariants as change
use Rattle.steps.specs.declared.asked.Asked.{Asked}
use Rattle.steps.specs.declared.asked.Asked.TheVariants as asked
use Rattle.steps.specs.declared.asked.Item.{Item}
use Rattle.steps.specs.Events.{Deed, Event}
use Rattle.steps.specs.Events.Deed.{Commit}

-- a stored file: its path, its class and its time
abbrev pub Stored : Type 0
Stored = List ℕ × List ℕ × ℕ

-- the files that a transaction stores, the paths that it binds anew, and the versions that it ends
abbrev pub stored_by : Asked → List Stored
stored_by (asked.Backup filespace items) = map (λ (i : Item). (i.path, i.class, i.mtime)) items
stored_by _ = []

abbrev pub rebound_by : Asked → List Rebinding
rebound_by (asked.Plain (change.Rebind c)) = c.items
rebound_by _ = []

abbrev pub ended_by : Asked → List NamedVersion
ended_by (asked.Plain (change.Gone c)) = c.items
ended_by _ = []

-- those of a step that made its transaction
abbrev pub made_by : {X : Type 0} → (Asked → List X) → Deed → List X
made_by items (Commit asked tickets (Ok number)) = items asked
made_by items _ = []

-- those of some steps, one after the other
abbrev pub items_in : {X : Type 0} → (Asked → List X) → List Event → List X
items_in items events = flat_map (λ e. made_by items e.deed) events

-- those of the lines that are committed, where this is why others aren't
abbrev pub kept : {L X : Type 0} → (L → List X) → List L → List (Option Refusal) → List X
kept give [] outs = []
kept give (l ∷ lines) [] = []
kept give (l ∷ lines) (None ∷ outs) = give l ++ kept give lines outs
kept give (l ∷ lines) (Some e ∷ outs) = kept give lines outs

-- Of each line it is said whether it is committed; and the transactions that these steps made have these files, paths and versions, and no others.
pub record IsExact {L : Type 0} (lines : List L) (outs : List (Option Refusal)) (files : List Stored) (paths : List Rebinding) (versions : List NamedVersion) (events : List Event) : Type 0 where
  pub each : length outs ≡ length lines
  pub stored : items_in stored_by events ≡ files
  pub rebound : items_in rebound_by events ≡ paths
  pub ended : items_in ended_by events ≡ versions
