-- What each change of nodes and filespaces makes of the rows, or how it is refused: what isn't there first, then what is there
-- already, then what is used.
use Rattle.std.specs.Prelude.{◌≡◌, ⊤, ℕ, ◌==◌, false, List, [], ◌∷◌, map, Option, Some, None, is_some, Result, Ok, Err, if◌then◌else◌}
use Rattle.std.specs.BTreeMap.{insert_entry}
use Rattle.std.specs.Map.{lookup, remove_entry}
use Rattle.std.specs.Ordering.{nat_cmp}
use Rattle.version_groups.specs.kinds.Answers.{Becomes, Makes}
use Rattle.version_groups.specs.kinds.declared.change.DefineOrDelete.TheVariants.{Define, Delete}
use Rattle.version_groups.specs.kinds.Least.{lesser}
use Rattle.version_groups.specs.kinds.declared.change.ObjectChange.{ObjectChange}
use Rattle.version_groups.specs.kinds.declared.change.ObjectChange.TheVariants as change
use Rattle.version_groups.specs.kinds.declared.refusal.By.{By}
use Rattle.version_groups.specs.kinds.declared.refusal.By.TheVariants as by
use Rattle.version_groups.specs.kinds.declared.refusal.Refusal.{Refusal}
use Rattle.version_groups.specs.kinds.declared.refusal.Refusal.TheVariants.{Exists, InUse}
use Rattle.version_groups.specs.declared.group.Group.{Group}
use Rattle.version_groups.specs.declared.groups.Filespace.{Filespace}
use Rattle.version_groups.specs.Entries.{on_ok, if_found}
use Rattle.object_rows.specs.declared.held_object.HeldRow.{HeldRow}
use Rattle.object_rows.specs.declared.place.Node.{Node}
use Rattle.object_rows.specs.Filespaces.{at_number, filespace_at, versions_in}
use Rattle.object_rows.specs.Names.{filespace_named, filespace_of, node_named}
use Rattle.object_rows.specs.Rows.{Rows, with_filespaces}

-- the least of some numbers
abbrev pub least : List ℕ → Option ℕ
least [] = None
least (n ∷ ns) = lesser (Some n) (least ns)

-- the least object that has a version in the groups
abbrev pub least_object : List (List ℕ × Group) → Option ℕ
least_object groups = least (map (λ v. v.object) (versions_in groups))

-- the numbers of the objects that are held in the filespace
abbrev pub numbers_in : ℕ → List (ℕ × HeldRow) → List ℕ
numbers_in filespace [] = []
numbers_in filespace (e ∷ held) = if e.1.filespace == filespace then e.0 ∷ numbers_in filespace held else numbers_in filespace held

-- the least object that is held in the filespace
abbrev pub least_in : ℕ → List (ℕ × HeldRow) → Option ℕ
least_in filespace held = least (numbers_in filespace held)

-- what is done where nothing uses the thing, and the refusal where something does
abbrev pub unless_used : {A : Type 0} → Option By → A → Result A Refusal
unless_used None rows = Ok rows
unless_used (Some user) rows = Err (InUse user)

-- the filespace that uses a node, or the object that uses a filespace
abbrev pub by_filespace : Option ℕ → Option By
by_filespace None = None
by_filespace (Some n) = Some (by.Filespace n)

abbrev pub by_object : Option ℕ → Option By
by_object None = None
by_object (Some n) = Some (by.Object n)

-- the nodes once a node is defined: a name is given once
abbrev pub nodes_with : List ℕ → List ℕ → ℕ → List (ℕ × Node) → Result (List (ℕ × Node)) Refusal
nodes_with name domain number nodes =
    if is_some (node_named name nodes) then Err Exists else Ok (insert_entry nat_cmp nodes number (record { name = name; domain = domain }))

-- the nodes once a node is deleted: it has to be there, and without filespaces
abbrev pub nodes_without : List ℕ → List (ℕ × Filespace) → List (ℕ × Node) → Result (List (ℕ × Node)) Refusal
nodes_without name filespaces nodes =
    if_found (node_named name nodes) (λ number. unless_used (by_filespace (filespace_of number filespaces)) (remove_entry (at_number number) nodes))

-- the filespaces once one is defined: its node has to be there, and gives a name once
abbrev pub filespaces_defined : ℕ → List ℕ → ℕ → List (ℕ × Node) → List (ℕ × Filespace) → Result (List (ℕ × Filespace)) Refusal
filespaces_defined node name number nodes filespaces =
    if_found (lookup (at_number node) nodes) (λ _. if is_some (filespace_named node name filespaces) then Err Exists else Ok (insert_entry nat_cmp filespaces number (record { node = node; name = name; groups = [] })))

-- the filespaces once one is deleted: it has to be there, without versions, and without held objects
abbrev pub filespaces_without : ℕ → List (ℕ × HeldRow) → List (ℕ × Filespace) → Result (List (ℕ × Filespace)) Refusal
filespaces_without number held filespaces =
    if_found (filespace_at number filespaces) (λ f. unless_used (by_object (lesser (least_object f.groups) (least_in number held))) (remove_entry (at_number number) filespaces))

abbrev pub with_nodes : Rows → Result (List (ℕ × Node)) Refusal → Result Rows Refusal
with_nodes rows said = on_ok (λ nodes. record { nodes = nodes; filespaces = rows.filespaces; held = rows.held }) said

-- the rows after a change; a node that is defined gets this number
abbrev pub rows_changed : ObjectChange → ℕ → Rows → Result Rows Refusal
rows_changed (change.Node Define name domain) number rows = with_nodes rows (nodes_with name domain number rows.nodes)
rows_changed (change.Node Delete name domain) number rows = with_nodes rows (nodes_without name rows.filespaces rows.nodes)
rows_changed (change.Filespace Define node name filespace) number rows = with_filespaces rows (filespaces_defined node name filespace rows.nodes rows.filespaces)
rows_changed (change.Filespace Delete node name filespace) number rows = with_filespaces rows (filespaces_without filespace rows.held rows.filespaces)

-- nothing has the number of what is defined
abbrev pub HasFreeNumber : ObjectChange → ℕ → Rows → Type 0
HasFreeNumber (change.Node Define name domain) number rows = is_some (lookup (at_number number) rows.nodes) ≡ false
HasFreeNumber (change.Node Delete name domain) number rows = ⊤
HasFreeNumber (change.Filespace Define node name filespace) number rows = is_some (filespace_at filespace rows.filespaces) ≡ false
HasFreeNumber (change.Filespace Delete node name filespace) number rows = ⊤

-- a change makes of the old rows what is said; only a definition takes memory
abbrev pub Changes : {A S : Type 0} → ObjectChange → Result A Refusal → S → S → Result S Refusal → Type 0
Changes (change.Node Define name domain) result old new said = Becomes result old new said
Changes (change.Node Delete name domain) result old new said = Makes result old new said
Changes (change.Filespace Define node name filespace) result old new said = Becomes result old new said
Changes (change.Filespace Delete node name filespace) result old new said = Makes result old new said
