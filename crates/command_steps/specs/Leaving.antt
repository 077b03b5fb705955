-- What a line leaves of the clients' trees.
use Rattle.std.specs.Prelude.{◌⊎◌, ℕ, Option, None, Some}
use Rattle.client_trees.specs.Files.{Files}
use Rattle.client_files.specs.Restoring.{Leads}
use Rattle.command_steps.specs.Clients.{Client, IsKept, Known, Turns}
use Rattle.command_steps.specs.Lines.{Line, asks}
use Rattle.command_steps.specs.Owns.{Own, on_tree, own_of, tree_of}

-- the number of the tree that a line names
abbrev pub named_by : Own → Option ℕ
named_by (on_tree work) = Some (tree_of work)
named_by own = None

abbrev pub tree_named : Line → Option ℕ
tree_named (asks c) = named_by (own_of c)
tree_named line = None

-- no tree changed, or the named one alone
abbrev pub ChangesOnly : Option ℕ → Client → Type 0
ChangesOnly None k = IsKept k
ChangesOnly (Some number) k = IsKept k ⊎ ((before : Known) × (after : Known) × Turns number before after k)

-- this holds of the files of the tree with this number, before the line and behind it, where it tells them; no other tree changed
abbrev pub TreeHas : (number : ℕ) → (Files → Files → Type 0) → Client → Type 0
TreeHas number Q k = (before : Known) × (after : Known) × Turns number before after k × Leads Q before.files after.files
