-- An index that is built from a list of pairs.
use Rattle.std.specs.Prelude.{◌≡◌, ℕ, Bool, true, false, not, is_some, List, ◌++◌, Result, Ok, Err}
use Rattle.std.specs.List.{list_all}
use Rattle.std.specs.Map.{lookup}
use Rattle.std.specs.declared.cmp.Ordering.{Ordering}
use Rattle.version_groups.specs.kinds.declared.refusal.Refusal.{Refusal}
use Rattle.version_groups.specs.kinds.declared.refusal.Refusal.TheVariants.{Memory}
use Rattle.object_rows.specs.declared.held_object.HeldRow.{HeldRow}
use Rattle.object_rows.specs.declared.place.Place.{Place}
use Rattle.object_rows.specs.Filespaces.{at_number}
use Rattle.object_rows.specs.Index.{AreDistinct, IsIndex}

module _ {K V : Type 0} (R : K → K → Ordering) where
  -- the index leads to the pairs that it had and to these; or two of them have one key; or memory is wanted
  abbrev pub Built : Result Bool Refusal → List (K × V) → List (K × V) → List (K × V) → Type 0
  Built (Ok true) new done pairs = IsIndex R new (done ++ pairs)
  Built (Ok false) new done pairs = AreDistinct R (done ++ pairs) → ⊥
  Built (Err e) new done pairs = e ≡ Memory

  -- an index of some pairs becomes one of these pairs more
  abbrev pub Builds : Result Bool Refusal → List (K × V) → List (K × V) → List (K × V) → Type 0
  Builds result old new pairs = (done : List (K × V)) → IsIndex R old done → Built result new done pairs

-- none of the held objects has a number that has a place
abbrev pub are_apart : List (ℕ × Place) → List (ℕ × HeldRow) → Bool
are_apart places held = list_all (λ e. not (is_some (lookup (at_number e.0) places))) held
