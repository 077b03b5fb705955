-- The rows of files stand in the order of the files.
use Rattle.std.proofs.Common.{◌≡◌, ℕ, List, [], ◌∷◌, map, refl, sym, ap, subst, ◌∙◌}
use Rattle.std.specs.Cmp.Lexicographic.{slice_cmp}
use Rattle.std.specs.List.Sorted.{IsStrictlySortedBy}
use Rattle.std.specs.Map.{keys_of}
use Rattle.std.specs.Ordering.{nat_cmp}
use Rattle.client_trees.specs.declared.tree.FileRow.{FileRow}
use Rattle.client_trees.specs.Files.{Files, row_of, AreInOrder}

paths_of : (files : Files) → map (λ (f : FileRow). f.path) (map row_of files) ≡ keys_of files
paths_of [] = refl
paths_of (f ∷ files) = ap (λ l. f.0 ∷ l) (paths_of files)

pub in_order : (rows : List FileRow) (files : Files) → rows ≡ map row_of files → IsStrictlySortedBy (slice_cmp nat_cmp) (keys_of files) → AreInOrder rows
in_order rows files all ordered =
    subst (λ (l : List (List ℕ)). IsStrictlySortedBy (slice_cmp nat_cmp) l) (sym (ap (map (λ (f : FileRow). f.path)) all ∙ paths_of files)) ordered
