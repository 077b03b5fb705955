-- What calls leave of files: at their path, and at others.
use Rattle.std.proofs.Common.{◌≡◌, ℕ, Bool, true, false, not, cond, List, [], ◌∷◌, ◌++◌, filter, Option, Some, None, Ordering, refl, sym, ap, ◌∙◌}
use Rattle.std.proofs.lemmas.Cmp.{eq_by_cmp_equiv, nat_list_cmp_total, tied_itself}
use Rattle.std.proofs.lemmas.Map.{lookup-remove_entry}
use Rattle.std.proofs.lemmas.Map.Keys.{IsDistinct-from_sorted}
use Rattle.std.specs.BTreeMap.{insert_entry, is_at}
use Rattle.std.specs.Cmp.Lexicographic.{slice_cmp}
use Rattle.std.specs.List.Sorted.{IsStrictlySortedBy}
use Rattle.std.specs.Map.{keys_of, lookup, remove_entry, set_value}
use Rattle.std.specs.Ordering.{is_eq, match_ordering, nat_cmp}
use Rattle.std.specs.declared.cmp.Ordering.TheVariants.{Less, Equal, Greater}
use Rattle.client_trees.specs.Files.{ClientFile, Files, altered, appended, created, file_at, finished, others, removed}

abbrev at : List ℕ → List ℕ → Bool
at path = is_at (slice_cmp nat_cmp path)

-- ---- at other paths

others_of : (path : List ℕ) (f : List ℕ × ClientFile) (files : Files) → at path f.0 ≡ true → others path (f ∷ files) ≡ others path files
others_of path f files h = rw h refl

others_with : (path : List ℕ) (f : List ℕ × ClientFile) (files more : Files) → others path files ≡ others path more → others path (f ∷ files) ≡ others path (f ∷ more)
others_with path f files more h = elim (at path f.0) as (λ b. cond (not b) (f ∷ others path files) (others path files) ≡ cond (not b) (f ∷ others path more) (others path more)) [
  | true ↦ h
  | false ↦ ap (λ l. f ∷ l) h
]

itself : (path : List ℕ) → at path path ≡ true
itself path = ap is_eq (tied_itself nat_list_cmp_total path)

pub others-created : (path : List ℕ) (file : ClientFile) (files : Files) → others path (insert_entry (slice_cmp nat_cmp) files path file) ≡ others path files
others-created path file [] = others_of path (path, file) [] (itself path)
others-created path file (f ∷ files) =
    elim (slice_cmp nat_cmp path f.0) as (λ r. slice_cmp nat_cmp path f.0 ≡ r → others path (match_ordering r ((path, file) ∷ f ∷ files) ((f.0, file) ∷ files) (f ∷ insert_entry (slice_cmp nat_cmp) files path file)) ≡ others path (f ∷ files)) [
      | Less ↦ λ _. others_of path (path, file) (f ∷ files) (itself path)
      | Equal ↦ λ same. others_of path (f.0, file) files (ap is_eq same) ∙ sym (others_of path f files (ap is_eq same))
      | Greater ↦ λ _. others_with path f (insert_entry (slice_cmp nat_cmp) files path file) files (others-created path file files)
    ] refl

others-set : (path : List ℕ) (file : ClientFile) (files : Files) → others path (set_value (at path) files file) ≡ others path files
others-set path file [] = refl
others-set path file (f ∷ files) =
    elim (at path f.0) as (λ b. at path f.0 ≡ b → others path (cond b ((f.0, file) ∷ files) (f ∷ set_value (at path) files file)) ≡ others path (f ∷ files)) [
      | true ↦ λ same. others_of path (f.0, file) files same ∙ sym (others_of path f files same)
      | false ↦ λ _. others_with path f (set_value (at path) files file) files (others-set path file files)
    ] refl

pub others-removed : (path : List ℕ) (files : Files) → others path (removed path files) ≡ others path files
others-removed path [] = refl
others-removed path (f ∷ files) =
    elim (at path f.0) as (λ b. at path f.0 ≡ b → others path (cond b files (f ∷ remove_entry (at path) files)) ≡ others path (f ∷ files)) [
      | true ↦ λ same. sym (others_of path f files same)
      | false ↦ λ _. others_with path f (remove_entry (at path) files) files (others-removed path files)
    ] refl

others-altered : (change : ClientFile → ClientFile) (path : List ℕ) (files : Files) (found : Option ClientFile) → others path (altered change path files found) ≡ others path files
others-altered change path files None = refl
others-altered change path files (Some file) = others-set path (change file) files

pub others-appended : (path more : List ℕ) (files : Files) → others path (appended path more files) ≡ others path files
others-appended path more files = others-altered (λ (f : ClientFile). record f { bytes = f.bytes ++ more }) path files (file_at path files)

pub others-finished : (path : List ℕ) (mtime : ℕ) (files : Files) → others path (finished path mtime files) ≡ others path files
others-finished path mtime files = others-altered (λ (f : ClientFile). record f { mtime = mtime }) path files (file_at path files)

-- ---- at the path

pub at-created : (path : List ℕ) (file : ClientFile) (files : Files) → file_at path (insert_entry (slice_cmp nat_cmp) files path file) ≡ Some file
at-created path file [] = rw (itself path) refl
at-created path file (f ∷ files) =
    elim (slice_cmp nat_cmp path f.0) as (λ r. slice_cmp nat_cmp path f.0 ≡ r → file_at path (match_ordering r ((path, file) ∷ f ∷ files) ((f.0, file) ∷ files) (f ∷ insert_entry (slice_cmp nat_cmp) files path file)) ≡ Some file) [
      | Less ↦ λ _. rw (itself path) refl
      | Equal ↦ λ same. rw same refl
      | Greater ↦ λ above. rw above (at-created path file files)
    ] refl

at-set : (path : List ℕ) (file new : ClientFile) (files : Files) → file_at path files ≡ Some file → file_at path (set_value (at path) files new) ≡ Some new
at-set path file new [] h = absurd cc
at-set path file new (f ∷ files) h =
    elim (at path f.0) as (λ b. at path f.0 ≡ b → cond b (Some f.1) (file_at path files) ≡ Some file → file_at path (cond b ((f.0, new) ∷ files) (f ∷ set_value (at path) files new)) ≡ Some new) [
      | true ↦ λ yes _. ap (λ b. cond b (Some new) (file_at path files)) yes
      | false ↦ λ no there. ap (λ b. cond b (Some f.1) (file_at path (set_value (at path) files new))) no ∙ at-set path file new files there
    ] refl h

at-altered : (change : ClientFile → ClientFile) (path : List ℕ) (files : Files) (file : ClientFile) → file_at path files ≡ Some file → file_at path (altered change path files (file_at path files)) ≡ Some (change file)
at-altered change path files file h = ap (λ o. file_at path (altered change path files o)) h ∙ at-set path file (change file) files h

pub at-appended : (path more : List ℕ) (files : Files) (file : ClientFile) → file_at path files ≡ Some file → file_at path (appended path more files) ≡ Some (record file { bytes = file.bytes ++ more })
at-appended path more files file h = at-altered (λ (f : ClientFile). record f { bytes = f.bytes ++ more }) path files file h

pub at-finished : (path : List ℕ) (mtime : ℕ) (files : Files) (file : ClientFile) → file_at path files ≡ Some file → file_at path (finished path mtime files) ≡ Some (record file { mtime = mtime })
at-finished path mtime files file h = at-altered (λ (f : ClientFile). record f { mtime = mtime }) path files file h

one_path : (path x y : List ℕ) → at path x ≡ true → at path y ≡ is_eq (slice_cmp nat_cmp x y)
one_path path x y h = (eq_by_cmp_equiv nat_list_cmp_total).congr path x y h

pub at-removed : (path : List ℕ) (files : Files) → IsStrictlySortedBy (slice_cmp nat_cmp) (keys_of files) → file_at path (removed path files) ≡ None
at-removed path files sorted =
    lookup-remove_entry (eq_by_cmp_equiv nat_list_cmp_total) (at path) (one_path path) path files (IsDistinct-from_sorted (slice_cmp nat_cmp) (keys_of files) sorted)
    ∙ ap (λ b. cond b None (file_at path files)) (itself path)
