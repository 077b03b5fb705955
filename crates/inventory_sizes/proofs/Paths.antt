-- Paths that get a group, counted item by item.
use Rattle.std.proofs.Common.{◌≡◌, ℕ, ◌+◌, ◌<◌, Bool, true, false, cond, not, ◌||◌, Some, None, is_some, List, [], ◌∷◌, length, get_or, take, drop, refl, sym, ap, ◌∙◌}
use Rattle.std.specs.List.{fold, list_any}
use Rattle.std.proofs.lemmas.List.{drop_more}
use Rattle.std.proofs.lemmas.List.Sums.{fold_more}
use Rattle.entries.specs.change_items.declared.items.NewVersion.{NewVersion}
use Rattle.kinds.specs.Names.{is_same_name}
use Rattle.inventory_rows.specs.Search.{group}
use Rattle.inventory_rows.specs.State.{Inv}
use Rattle.inventory_rules.specs.Common.{one_if}
use Rattle.inventory_rules.specs.Versions.{paths_added}
use Rattle.inventory_rows.specs.object_rows.Items.{left}
use Rattle.inventory_sizes.proofs.Rooms.{two_more, two_stop}

-- the paths of items, the last one first
abbrev pub paths_of : List NewVersion → List (List ℕ)
paths_of items = fold (λ s i. i.path ∷ s) [] items

swapped : (a b c : Bool) → (b || (a || c)) ≡ ((a || b) || c)
swapped true true c = refl
swapped true false c = refl
swapped false true c = refl
swapped false false c = refl

among : (path : List ℕ) (seen : List (List ℕ)) (items : List NewVersion) → list_any (is_same_name path) (fold (λ (s : List (List ℕ)) (i : NewVersion). i.path ∷ s) seen items) ≡ (list_any (λ (i : NewVersion). is_same_name path i.path) items || list_any (is_same_name path) seen)
among path seen [] = refl
among path seen (i ∷ items) =
    among path (i.path ∷ seen) items
    ∙ swapped (is_same_name path i.path) (list_any (λ (j : NewVersion). is_same_name path j.path) items) (list_any (is_same_name path) seen)

or_none : (a : Bool) → (a || false) ≡ a
or_none true = refl
or_none false = refl

-- one of the paths that were seen is that of an item before
pub seen_before : (path : List ℕ) (items : List NewVersion) → list_any (is_same_name path) (paths_of items) ≡ list_any (λ (i : NewVersion). is_same_name path i.path) items
seen_before path items = among path [] items ∙ or_none (list_any (λ (i : NewVersion). is_same_name path i.path) items)

counted : (b : Bool) → cond b 0 1 ≡ one_if (not b)
counted true = refl
counted false = refl

-- a path gets a group: it has none, and isn't the path of one of the items before
abbrev pub path_comes : ℕ → Inv → List NewVersion → List ℕ → Bool
path_comes filespace v earlier path = not (is_some (group filespace path v) || list_any (λ (j : NewVersion). is_same_name path j.path) earlier)

abbrev comes_at : ℕ → Inv → List NewVersion → ℕ → NewVersion → Bool
comes_at filespace v items i d = path_comes filespace v (take i items) (get_or items i d).path

next : (filespace : ℕ) (v : Inv) (items : List NewVersion) (i : ℕ) (d : NewVersion) → i < length items
    → paths_added filespace (paths_of (take i items)) (drop i items) v ≡ one_if (comes_at filespace v items i d) + paths_added filespace (paths_of (take (i + 1) items)) (drop (i + 1) items) v
next filespace v items i d l =
    let path : List ℕ = (get_or items i d).path in
    let seen : paths_of (take (i + 1) items) ≡ path ∷ paths_of (take i items) = fold_more (λ (s : List (List ℕ)) (j : NewVersion). j.path ∷ s) [] items i d l in
    ap (λ (xs : List NewVersion). paths_added filespace (paths_of (take i items)) xs v) (drop_more items i d l)
    ∙ ap (λ n. n + paths_added filespace (path ∷ paths_of (take i items)) (drop (i + 1) items) v)
    (ap (λ b. cond (is_some (group filespace path v) || b) 0 1) (seen_before path (take i items)) ∙ counted (is_some (group filespace path v) || list_any (λ (j : NewVersion). is_same_name path j.path) (take i items)))
    ∙ ap (λ (s : List (List ℕ)). one_if (comes_at filespace v items i d) + paths_added filespace s (drop (i + 1) items) v) (sym seen)

-- what is left of the room after the next item's path
pub path_more : (filespace : ℕ) (v : Inv) (items : List NewVersion) (i : ℕ) (d : NewVersion) → i < length items → (b : Bool) → b ≡ path_comes filespace v (take i items) (get_or items i d).path → (room rest : ℕ) → Some rest ≡ left (one_if b) room
    → left (paths_added filespace (paths_of (take (i + 1) items)) (drop (i + 1) items) v) rest ≡ left (paths_added filespace (paths_of (take i items)) (drop i items) v) room
path_more filespace v items i d l b c room rest h =
    let behind : ℕ = paths_added filespace (paths_of (take (i + 1) items)) (drop (i + 1) items) v in
    sym (ap (λ n. left n room) (next filespace v items i d l ∙ ap (λ t. one_if t + behind) (sym c)) ∙ two_more (one_if b) behind room rest (sym h))

-- it has none for it
pub path_stop : (filespace : ℕ) (v : Inv) (items : List NewVersion) (i : ℕ) (d : NewVersion) → i < length items → (b : Bool) → b ≡ path_comes filespace v (take i items) (get_or items i d).path → (room : ℕ) → None ≡ left (one_if b) room
    → None ≡ left (paths_added filespace (paths_of (take i items)) (drop i items) v) room
path_stop filespace v items i d l b c room h =
    let behind : ℕ = paths_added filespace (paths_of (take (i + 1) items)) (drop (i + 1) items) v in
    sym (ap (λ n. left n room) (next filespace v items i d l ∙ ap (λ t. one_if t + behind) (sym c)) ∙ two_stop (one_if b) behind room (sym h))
