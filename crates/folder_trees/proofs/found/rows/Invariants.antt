use Rattle.std.proofs.Common.{◌≡◌, ◌++◌, map}
use Rattle.std.specs.Map.{keys_of}
use Rattle.client_trees.specs.declared.tree.FileRow.{FileRow}
use Rattle.folder_trees.proofs.found.rows.Given as goal

abbrev pub invariant-files : goal.invariant-files
invariant-files l = map (λ (f : FileRow). f.path) l.rows.items ++ keys_of l.path-iterator ≡ keys_of l.files.entries
