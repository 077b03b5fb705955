-- What is done to the index of the filespaces' names, and how it is built.
use Rattle.std.specs.Prelude.{◌≡◌, ℕ, ◌+◌, Bool, true, false, is_some, List, length, Some, None, Result, Ok, Err, if◌then◌else◌}
use Rattle.std.specs.Cmp.Lexicographic.{slice_cmp}
use Rattle.std.specs.Map.{lookup}
use Rattle.std.specs.Ordering.{nat_cmp}
use Rattle.version_groups.specs.kinds.declared.refusal.Refusal.{Refusal}
use Rattle.version_groups.specs.kinds.declared.refusal.Refusal.TheVariants.{Memory}
use Rattle.version_groups.specs.declared.groups.Filespace.{Filespace}
use Rattle.object_rows.specs.Build.{Builds}
use Rattle.object_rows.specs.Filespaces.{at_number}
use Rattle.object_rows.specs.Names.{at_name, named_of, names_at}

-- among a node's names this one leads to this number now, and each other name to where it led
pub record NamePut (name : List ℕ) (number : ℕ) (old new : List (List ℕ × ℕ)) : Type 0 where
  pub found : (q : List ℕ) → lookup (at_name q) new ≡ (if at_name name q then Some number else lookup (at_name q) old)
  pub count : length new ≡ length old + (if is_some (lookup (at_name name) old) then 0 else 1)

-- this one leads nowhere now, and each other name to where it led
pub record NameTaken (name : List ℕ) (old new : List (List ℕ × ℕ)) : Type 0 where
  pub found : (q : List ℕ) → lookup (at_name q) new ≡ (if at_name name q then None else lookup (at_name q) old)
  pub count : length new + (if is_some (lookup (at_name name) old) then 1 else 0) ≡ length old

-- the names of other nodes are the same
abbrev pub KeepsOthers : ℕ → List (ℕ × List (List ℕ × ℕ)) → List (ℕ × List (List ℕ × ℕ)) → Type 0
KeepsOthers node old new = (m : ℕ) → at_number node m ≡ false → names_at m new ≡ names_at m old

-- the name is put in for the node
pub record Puts (node : ℕ) (name : List ℕ) (number : ℕ) (old new : List (ℕ × List (List ℕ × ℕ))) : Type 0 where
  pub here : NamePut name number (names_at node old) (names_at node new)
  pub others : KeepsOthers node old new

-- the name is taken out for the node
pub record Takes (node : ℕ) (name : List ℕ) (old new : List (ℕ × List (List ℕ × ℕ))) : Type 0 where
  pub here : NameTaken name (names_at node old) (names_at node new)
  pub others : KeepsOthers node old new

-- for each node the index leads to the filespaces that it led to and to these; or two of them, of one node, have one name; or memory is
-- wanted
abbrev pub BuildsNames : Result Bool Refusal → List (ℕ × List (List ℕ × ℕ)) → List (ℕ × List (List ℕ × ℕ)) → List (ℕ × Filespace) → Type 0
BuildsNames (Ok true) old new filespaces = (node : ℕ) → Builds (slice_cmp nat_cmp) (Ok true) (names_at node old) (names_at node new) (named_of node filespaces)
BuildsNames (Ok false) old new filespaces = (node : ℕ) × Builds (slice_cmp nat_cmp) (Ok false) (names_at node old) (names_at node new) (named_of node filespaces)
BuildsNames (Err e) old new filespaces = e ≡ Memory
