-- The rows of a listing stand in the order of the paths that were found.
use Rattle.std.proofs.Common.{◌≡◌, ℕ, List, sym, subst}
use Rattle.std.specs.Prelude.{map}
use Rattle.std.specs.Cmp.Lexicographic.{slice_cmp}
use Rattle.std.specs.List.Sorted.{IsStrictlySortedBy}
use Rattle.std.specs.Ordering.{nat_cmp}
use Rattle.client_trees.specs.declared.tree.FileRow.{FileRow}
use Rattle.client_trees.specs.Files.{AreInOrder}

pub in_order : (rows : List FileRow) (keys : List (List ℕ)) → map (λ (f : FileRow). f.path) rows ≡ keys → IsStrictlySortedBy (slice_cmp nat_cmp) keys → AreInOrder rows
in_order rows keys all ordered = subst (λ (l : List (List ℕ)). IsStrictlySortedBy (slice_cmp nat_cmp) l) (sym all) ordered
