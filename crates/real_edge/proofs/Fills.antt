-- Bytes that are read piece by piece.
use Rattle.std.proofs.Common.{◌≡◌, ℕ, ◌+◌, ◌≤◌, List, ◌++◌, length, take, drop, Option, None, Some, IfSome, sym, ◌∙◌, ap, subst, arith}
use Rattle.std.proofs.lemmas.List.{drop-drop}
use Rattle.std.proofs.lemmas.Grind.{common_steps}
use Rattle.std.proofs.Math.Seq.{take-add}
use Rattle.store_api.specs.Told.{Told}
use Rattle.files_api.specs.Folder.{Folder}
use Rattle.files_api.specs.Calls.{Looks, Reads}

-- what is known of a folder after a look is known of it before
pub known_before : (K : Folder → Type 0) (x y : Option Folder) → Told x y Looks → IfSome y K → IfSome x K
known_before K None None looks known = tt
known_before K (Some a) (Some b) looks known = subst K looks known
known_before K None (Some b) looks known = tt
known_before K (Some a) None looks known = absurd looks

pub known_both : {K L M : Folder → Type 0} (x : Option Folder) → IfSome x K → IfSome x L → ((d : Folder) → K d → L d → M d) → IfSome x M
known_both None k l f = tt
known_both (Some a) k l f = f a k l

-- a front of the bytes, and more of them behind it
pub front_filled : (file : List ℕ) (offset done count : ℕ) (into read behind : List ℕ) → done ≤ length into → count ≤ length read → take done into ≡ take done (drop offset file) → Reads file (offset + done) read count
    → take (done + count) (take done into ++ (read ++ behind)) ≡ take (done + count) (drop offset file)
front_filled file offset done count into read behind within fits front reads =
    take-add done count (take done into ++ (read ++ behind))
    ∙ ap (λ (l : List ℕ). l ++ take count (drop done (take done into ++ (read ++ behind)))) (seam ∙ front)
    ∙ ap (λ (l : List ℕ). take done (drop offset file) ++ l) (next ∙ reads.same ∙ ap (take count) (sym (drop-drop done offset file)))
    ∙ sym (take-add done count (drop offset file))
  where
    seam : take done (take done into ++ (read ++ behind)) ≡ take done into
    seam = grind (arith, common_steps, within)

    next : take count (drop done (take done into ++ (read ++ behind))) ≡ take count read
    next = grind (arith, common_steps, within, fits)

pub known_more : {K M : Folder → Type 0} (x : Option Folder) → IfSome x K → ((d : Folder) → K d → M d) → IfSome x M
known_more None k f = tt
known_more (Some a) k f = f a k
