-- Lists whose items name different things.
use Rattle.std.proofs.Common.{◌≡◌, ℕ, ◌&&◌, ◌+◌, ◌<◌, ◌≤◌, Bool, true, false, List, [], ◌∷◌, ◌++◌, length, get_or, drop, map, refl, sym, ap, ◌∙◌}
use Rattle.std.proofs.Math.Path.{fun_ext}
use Rattle.std.specs.List.{flat_map, list_all}
use Rattle.std.proofs.lemmas.List.{drop_all}
use Rattle.std.proofs.lemmas.List.Folds.{list_all-map}
use Rattle.inventory_rules.specs.inventory_rows.version_groups.Entries.{all_later}
use Rattle.inventory_rules.proofs.of_inventory_rows.of_version_groups.Lists.{drop_at}

-- what is said of parts of the items
pub all_later_map : {X Y : Type 0} (r : Y → Y → Bool) (f : X → Y) (xs : List X) → all_later r (map f xs) ≡ all_later (λ a b. r (f a) (f b)) xs
all_later_map r f [] = refl
all_later_map r f (x ∷ xs) =
    ap (λ b. b && all_later r (map f xs)) (list_all-map (r (f x)) f xs) ∙ ap (λ b. list_all (λ y. r (f x) (f y)) xs && b) (all_later_map r f xs)

-- one more passes
pub all_more : {X : Type 0} (p : X → Bool) (xs : List X) (i : ℕ) (d : X) → i < length xs → p (get_or xs i d) ≡ true → list_all p (drop i xs) ≡ list_all p (drop (i + 1) xs)
all_more p xs i d l h = ap (list_all p) (drop_at xs i d l) ∙ ap (λ b. b && list_all p (drop (i + 1) xs)) h

-- this one doesn't
pub all_stop : {X : Type 0} (p : X → Bool) (xs : List X) (i : ℕ) (d : X) → i < length xs → p (get_or xs i d) ≡ false → list_all p (drop i xs) ≡ false
all_stop p xs i d l h = ap (list_all p) (drop_at xs i d l) ∙ ap (λ b. b && list_all p (drop (i + 1) xs)) h

-- each passed
pub all_done : {X : Type 0} (p : X → Bool) (xs : List X) (i : ℕ) → length xs ≤ i → list_all p (drop i xs) ≡ true
all_done p xs i l = ap (list_all p) (drop_all i xs l)

-- what each item gives, by what it names
pub flat_map_named : {X Y Z : Type 0} (f : Y → List Z) (name : X → Y) (xs : List X) → flat_map f (map name xs) ≡ flat_map (λ x. f (name x)) xs
flat_map_named f name [] = refl
flat_map_named f name (x ∷ xs) = ap (λ zs. f (name x) ++ zs) (flat_map_named f name xs)

-- items that differ where what they name does name different things where the names are apart
pub apart_by : {X Y : Type 0} (r : X → X → Bool) (s : Y → Y → Bool) (name : X → Y) → ((a b : X) → r a b ≡ s (name a) (name b)) → (xs : List X) → all_later s (map name xs) ≡ all_later r xs
apart_by r s name same xs = all_later_map s name xs ∙ ap (λ q. all_later q xs) (sym (fun_ext (λ a. fun_ext (λ b. same a b))))
