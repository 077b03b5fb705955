-- The objects of a database of which no copy is left, with the names under which they were kept.
use Rattle.std.specs.Prelude.{ℕ, not, List, [], ◌∷◌, ◌++◌, map, filter, Option, Some, None}
use Rattle.std.specs.BTreeMap.{insert_entry}
use Rattle.std.specs.List.{flat_map}
use Rattle.std.specs.Map.{lookup}
use Rattle.std.specs.Ordering.{nat_cmp}
use Rattle.inventory_rows.specs.version_groups.declared.group.Group.{Group}
use Rattle.inventory_rows.specs.version_groups.declared.groups.Filespace.{Filespace}
use Rattle.inventory_rows.specs.version_groups.declared.versions.Version.{Version}
use Rattle.inventory_rows.specs.object_rows.declared.held_object.HeldRow.{HeldRow}
use Rattle.inventory_rows.specs.object_rows.declared.place.Node.{Node}
use Rattle.inventory_rows.specs.object_rows.Filespaces.{at_number, filespace_at}
use Rattle.inventory_rows.specs.object_rows.Rows.{Rows}
use Rattle.db_losses.specs.declared.lost.Lost.{Lost}
use Rattle.db_losses.specs.Losses.{Losses, has_copies, version_left}

-- those of some versions of which no copy is left, each with the names of its node and filespace and its path
abbrev pub lost_in_versions : Losses → (node filespace path : List ℕ) → List Version → List (ℕ × Lost)
lost_in_versions losses node filespace path versions =
    map (λ w. (w.object, record { node = node; filespace = filespace; path = path })) (filter (λ w. not (has_copies (version_left losses w))) versions)

-- those of the versions of some groups
abbrev pub lost_in_groups : Losses → (node filespace : List ℕ) → List (List ℕ × Group) → List (ℕ × Lost)
lost_in_groups losses node filespace groups = flat_map (λ g. lost_in_versions losses node filespace g.0 g.1.versions) groups

-- those in a filespace of this node, which is there
abbrev pub lost_of_node : Losses → Option Node → Filespace → List (ℕ × Lost)
lost_of_node losses None f = []
lost_of_node losses (Some node) f = lost_in_groups losses node.name f.name f.groups

abbrev pub lost_in_filespaces : Losses → List (ℕ × Node) → List (ℕ × Filespace) → List (ℕ × Lost)
lost_in_filespaces losses nodes filespaces = flat_map (λ f. lost_of_node losses (lookup (at_number f.1.node) nodes) f.1) filespaces

-- the same of an object that is held in a filespace of this node
abbrev pub lost_held_of : Losses → Option Node → Filespace → HeldRow → List (ℕ × Lost)
lost_held_of losses None f row = []
lost_held_of losses (Some node) f row = lost_in_versions losses node.name f.name row.held.path (row.held.version ∷ [])

abbrev pub lost_held_in : Losses → List (ℕ × Node) → Option Filespace → HeldRow → List (ℕ × Lost)
lost_held_in losses nodes None row = []
lost_held_in losses nodes (Some f) row = lost_held_of losses (lookup (at_number f.node) nodes) f row

abbrev pub lost_in_held : Losses → List (ℕ × Node) → List (ℕ × Filespace) → List (ℕ × HeldRow) → List (ℕ × Lost)
lost_in_held losses nodes filespaces held = flat_map (λ h. lost_held_in losses nodes (filespace_at h.1.filespace filespaces) h.1) held

-- all of them, in the order in which they are kept; in a valid database each node and each filespace that is named is there
abbrev pub lost_rows : Losses → Rows → List (ℕ × Lost)
lost_rows losses rows = lost_in_filespaces losses rows.nodes rows.filespaces ++ lost_in_held losses rows.nodes rows.filespaces rows.held

-- rows by number: each is put where its number belongs
abbrev pub all_put : List (ℕ × Lost) → List (ℕ × Lost) → List (ℕ × Lost)
all_put [] out = out
all_put (e ∷ rows) out = all_put rows (insert_entry nat_cmp out e.0 e.1)
