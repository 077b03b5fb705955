-- One actor alone, and paths whose versions stand in the order of their numbers.
use Rattle.std.specs.Prelude.{◌≡◌, ℕ, nat_lt, true, Bool, List, [], ◌∷◌}
use Rattle.inventory_rows.specs.version_groups.declared.versions.Version.{Version}
use Rattle.inventory_rows.specs.version_groups.Entries.{all_later}
use Rattle.inventory_rows.specs.object_rows.Filespaces.{versions_at}
use Rattle.inventory_rows.specs.State.{Inv}
use Rattle.steps.specs.Events.{Event}
use Rattle.machine.specs.Fits.{History, Own, Step}

-- These events fit a history one after the other, and each was made at the number that the one before it reached: between them no other actor's transaction joined.
unfoldable pub FitsAlone : History → (actor : ℕ) → Own → List Event → Own → Type 0
FitsAlone w actor old [] new = new ≡ old
FitsAlone w actor old (e ∷ events) new = (between : Own) × Step w actor old e between × (e.n ≡ old.reached) × FitsAlone w actor between events new

-- the versions of a path stand in the order of their numbers, the greatest first
abbrev pub are_in_turn : List Version → Bool
are_in_turn versions = all_later (λ a b. nat_lt b.object a.object) versions

-- so do those of each path
abbrev pub AreInTurn : Inv → Type 0
AreInTurn v = (filespace : ℕ) (path : List ℕ) → are_in_turn (versions_at filespace path v.clients.filespaces) ≡ true
