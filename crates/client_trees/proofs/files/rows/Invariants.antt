use Rattle.std.proofs.Common.{◌≡◌, ◌++◌, map}
use Rattle.client_trees.specs.Files.{row_of}
use Rattle.client_trees.proofs.files.rows.Given as goal

abbrev pub invariant-files : goal.invariant-files
invariant-files l = l.rows.items ++ map row_of l.path-iterator ≡ map row_of l.files.entries
