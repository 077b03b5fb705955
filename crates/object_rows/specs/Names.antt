-- Nodes and filespaces by name.
use Rattle.std.specs.Prelude.{ℕ, Bool, ◌==◌, List, [], ◌∷◌, Option, Some, None, if◌then◌else◌}
use Rattle.std.specs.BTreeMap.{is_at}
use Rattle.std.specs.Cmp.Lexicographic.{slice_cmp}
use Rattle.std.specs.List.{flat_map}
use Rattle.std.specs.List.Sorted.{IsStrictlySortedBy}
use Rattle.std.specs.Map.{keys_of, lookup}
use Rattle.std.specs.Option.{unwrap_or}
use Rattle.std.specs.Ordering.{nat_cmp}
use Rattle.version_groups.specs.declared.groups.Filespace.{Filespace}
use Rattle.object_rows.specs.declared.place.Node.{Node}
use Rattle.object_rows.specs.Filespaces.{at_number}
use Rattle.object_rows.specs.Index.{IsIndex}

-- a key that is this name
abbrev pub at_name : List ℕ → List ℕ → Bool
at_name name = is_at (slice_cmp nat_cmp name)

-- the nodes' names, each with the node's number
abbrev pub named : List (ℕ × Node) → List (List ℕ × ℕ)
named nodes = flat_map (λ e. (e.1.name, e.0) ∷ []) nodes

-- the number of the node with this name
abbrev pub node_named : List ℕ → List (ℕ × Node) → Option ℕ
node_named name nodes = lookup (at_name name) (named nodes)

-- a filespace's name and number, where it is one of the node
abbrev pub name_in : ℕ → ℕ → Filespace → List (List ℕ × ℕ)
name_in node n f = if f.node == node then (f.name, n) ∷ [] else []

-- the names of the node's filespaces, each with the filespace's number
abbrev pub named_of : ℕ → List (ℕ × Filespace) → List (List ℕ × ℕ)
named_of node filespaces = flat_map (λ e. name_in node e.0 e.1) filespaces

-- the number of the node's filespace with this name
abbrev pub filespace_named : ℕ → List ℕ → List (ℕ × Filespace) → Option ℕ
filespace_named node name filespaces = lookup (at_name name) (named_of node filespaces)

abbrev pub first_number : List (List ℕ × ℕ) → Option ℕ
first_number [] = None
first_number (e ∷ es) = Some e.1

-- the least number of a filespace of the node: filespaces stand in the order of their numbers
abbrev pub filespace_of : ℕ → List (ℕ × Filespace) → Option ℕ
filespace_of node filespaces = first_number (named_of node filespaces)

-- the index leads to each node by its name, which no other node has; nodes stand by number
pub record NodesIndexed (names : List (List ℕ × ℕ)) (nodes : List (ℕ × Node)) : Type 0 where
  pub index : IsIndex (slice_cmp nat_cmp) names (named nodes)
  pub by_number : IsStrictlySortedBy nat_cmp (keys_of nodes)

-- the names that the index has for a node, each with its filespace's number; none where it doesn't have the node
abbrev pub names_at : ℕ → List (ℕ × List (List ℕ × ℕ)) → List (List ℕ × ℕ)
names_at node spaces = unwrap_or (lookup (at_number node) spaces) []

-- for each node the index leads to each of its filespaces by its name, which no other filespace of the node has
pub record SpacesIndexed (spaces : List (ℕ × List (List ℕ × ℕ))) (filespaces : List (ℕ × Filespace)) : Type 0 where
  pub index : (node : ℕ) → IsIndex (slice_cmp nat_cmp) (names_at node spaces) (named_of node filespaces)
