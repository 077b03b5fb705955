-- What is asked of each part of a path is asked of each text of a list.
use Rattle.std.proofs.Common.{◌≡◌, ℕ, Bool, List, [], ◌∷◌, Bor, refl, sym, ap, ◌∙◌}
use Rattle.std.specs.Prelude.{map, drop, ◌&&◌}
use Rattle.std.specs.List.{list_all}
use Rattle.folder_trees.specs.Places.{is_name}

all_mapped : (texts : List (Bor (List ℕ))) → list_all (λ x. is_name x.now) texts ≡ list_all is_name (map (λ x. x.now) texts)
all_mapped [] = refl
all_mapped (x ∷ texts) = ap (λ b. is_name x.now && b) (all_mapped texts)

behind_mapped : (texts : List (Bor (List ℕ))) → map (λ x. x.now) (drop 1 texts) ≡ drop 1 (map (λ x. x.now) texts)
behind_mapped [] = refl
behind_mapped (x ∷ texts) = refl

pub behind_first : (texts : List (Bor (List ℕ))) (parts : List (List ℕ)) → map (λ x. x.now) texts ≡ parts → list_all (λ x. is_name x.now) (drop 1 texts) ≡ list_all is_name (drop 1 parts)
behind_first texts parts same = all_mapped (drop 1 texts) ∙ ap (list_all is_name) (behind_mapped texts ∙ ap (drop 1) same)
