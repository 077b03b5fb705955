-- Where the version of each object stands, as the index of objects says it.
use Rattle.std.specs.Prelude.{◌≡◌, ℕ, Bool, true, not, List, map, Option}
use Rattle.std.specs.List.{flat_map, list_all, AllByRecursion}
use Rattle.std.specs.List.Sorted.{IsStrictlySortedBy}
use Rattle.std.specs.Map.{keys_of, lookup}
use Rattle.std.specs.Option.{option_map}
use Rattle.std.specs.Ordering.{nat_cmp}
use Rattle.version_groups.specs.declared.group.Group.{Group}
use Rattle.version_groups.specs.declared.groups.Filespace.{Filespace}
use Rattle.version_groups.specs.declared.versions.Version.{Version}
use Rattle.version_groups.specs.Groups.{AreByPath}
use Rattle.version_groups.specs.Versions.{is_empty}
use Rattle.object_rows.specs.declared.place.Place.{Place}
use Rattle.object_rows.specs.Filespaces.{at_number}
use Rattle.object_rows.specs.Index.{IsIndex}

-- the places of the versions of a path, by object
abbrev pub listed_at : ℕ → List ℕ → List Version → List (ℕ × Place)
listed_at n path versions = map (λ v. (v.object, record { filespace = n; path = path })) versions

-- the places of the versions of a filespace
abbrev pub listed_in : ℕ → List (List ℕ × Group) → List (ℕ × Place)
listed_in n groups = flat_map (λ g. listed_at n g.0 g.1.versions) groups

-- the places of all versions
abbrev pub listed : List (ℕ × Filespace) → List (ℕ × Place)
listed filespaces = flat_map (λ f. listed_in f.0 f.1.groups) filespaces

-- where the version of an object stands
abbrev pub place_of : ℕ → List (ℕ × Filespace) → Option Place
place_of object filespaces = lookup (at_number object) (listed filespaces)

-- the filespace in which the version of an object stands
abbrev pub filespace_with : ℕ → List (ℕ × Filespace) → Option ℕ
filespace_with object filespaces = option_map (λ place. place.filespace) (place_of object filespaces)

-- each of the groups has a version
abbrev pub are_full : List (List ℕ × Group) → Bool
are_full groups = list_all (λ g. not (is_empty g.1.versions)) groups

-- each group of each filespace has a version
abbrev pub are_all_full : List (ℕ × Filespace) → Bool
are_all_full filespaces = list_all (λ f. are_full f.1.groups) filespaces

-- the groups of each filespace stand by path
abbrev pub PathsAscend : List (ℕ × Filespace) → Type 0
PathsAscend filespaces = AllByRecursion (λ f. AreByPath f.1.groups) filespaces

-- the groups stand by path, and each has a version
abbrev pub AreOrderly : List (List ℕ × Group) → Type 0
AreOrderly groups = AreByPath groups × (are_full groups ≡ true)

-- so do those of each filespace
abbrev pub AreAllOrderly : List (ℕ × Filespace) → Type 0
AreAllOrderly filespaces = AllByRecursion (λ f. AreOrderly f.1.groups) filespaces

-- the index leads to the place of each version by its object's number, which no other version has; filespaces stand by number,
-- and their groups are orderly
pub record Indexed (places : List (ℕ × Place)) (filespaces : List (ℕ × Filespace)) : Type 0 where
  pub index : IsIndex nat_cmp places (listed filespaces)
  pub by_number : IsStrictlySortedBy nat_cmp (keys_of filespaces)
  pub orderly : AreAllOrderly filespaces
