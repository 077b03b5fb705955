-- When a copy is still wanted in a database.
use Rattle.std.specs.Prelude.{◌≡◌, ◌⊎◌, ℕ, ◌≤◌, Bool, true, false, not, List, [], ◌∷◌}
use Rattle.std.specs.Option.{option_map_or}
use Rattle.inventory_rows.specs.version_groups.Copies.{has_copy}
use Rattle.inventory_rows.specs.version_groups.declared.versions.Version.{Version}
use Rattle.inventory_rows.specs.Search.{copy_in, version}
use Rattle.inventory_rows.specs.State.{Inv}
use Rattle.inventory_rules.specs.Copies.{placed_by}
use Rattle.space.specs.declared.aim.Aim.{Aim}
use Rattle.space.specs.declared.aim.Aim.TheVariants as aim
use Rattle.machine.specs.Fits.{History, inv}

-- The copy that is to move is there, as the transaction that is named placed it; or the pool that a further one goes to has none.
abbrev pub is_open_for : Aim → Version → Bool
is_open_for (aim.New pool) w = false
is_open_for (aim.Move from placed to along) w = placed_by placed (copy_in from w)
is_open_for (aim.Copy to) w = not (has_copy to w.copies)

-- the object is kept, and its copy is still to be made
abbrev pub is_wanted : Aim → (object : ℕ) → Inv → Bool
is_wanted a object v = option_map_or (is_open_for a) (version object v) false

-- at each number from the one to the other
abbrev pub IsWantedAllAlong : History → (from to : ℕ) → Aim → (object : ℕ) → Type 0
IsWantedAllAlong w from to a object = (n : ℕ) → from ≤ n → n ≤ to → is_wanted a object (inv w n) ≡ true

-- a copy that is to move was placed by a transaction up to this number
abbrev pub IsPast : ℕ → Aim → Type 0
IsPast n (aim.New pool) = Unit {0}
IsPast n (aim.Move from placed to along) = placed ≤ n
IsPast n (aim.Copy to) = Unit {0}

-- one of the elements
abbrev pub IsIn : {A : Type 0} → A → List A → Type 0
IsIn x [] = ⊥
IsIn x (y ∷ ys) = (y ≡ x) ⊎ IsIn x ys
