-- The items of the filespaces and of the held objects, by all objects.
use Rattle.std.proofs.Common.{◌≡◌, ℕ, ◌+◌, true, false, cond, suc, eqb, List, [], ◌∷◌, ◌++◌, length, Some, refl, sym, ap, ◌∙◌, arith}
use Rattle.std.specs.Map.{values_of}
use Rattle.std.proofs.lemmas.Bool.{eqb-true}
use Rattle.std.proofs.lemmas.List.Sums.{sum_by-cons}
use Rattle.inventory_rules.specs.inventory_rows.version_groups.declared.copies.CopyRow.{CopyRow}
use Rattle.inventory_rules.specs.inventory_rows.version_groups.declared.group.Group.{Group}
use Rattle.inventory_rules.specs.inventory_rows.version_groups.declared.groups.Filespace.{Filespace}
use Rattle.inventory_rules.specs.inventory_rows.version_groups.declared.versions.Version.{Version}
use Rattle.inventory_rules.specs.inventory_rows.version_groups.Versions.{are_distinct, has_object, version_of, with_copies}
use Rattle.inventory_rules.proofs.of_inventory_rows.of_version_groups.Lists.{are_of_others}
use Rattle.inventory_rules.specs.inventory_rows.object_rows.declared.held_object.HeldRow.{HeldRow}
use Rattle.inventory_rules.specs.inventory_rows.object_rows.Filespaces.{filespace_copied, filespaces_copied, groups_copied, versions_in, versions_of}
use Rattle.inventory_rules.specs.inventory_rows.object_rows.HeldRows.{held_versions}
use Rattle.inventory_rules.specs.inventory_rows.object_rows.Items.{items_of_held, items_with}
use Rattle.inventory_rules.specs.inventory_rows.object_rows.Rows.{Rows, kept_of, rows_copied}
use Rattle.inventory_rules.proofs.of_inventory_rows.of_object_rows.VersionLists.{none_of_others, with_copies-others}
use Rattle.inventory_rules.specs.inventory_rows.Items.{items_of_filespace, items_of_group, items_of_version}
use Rattle.inventory_rules.proofs.CopiedLists.{kept_of-copied}
use Rattle.inventory_laws.proofs.Facts.{first, rest}
use Rattle.inventory_laws.proofs.Weights.{rows, rows-cons, rows-map, weigh, weigh-cons}

joined : (a b c n m l : ℕ) → a ≡ 1 + (n + b) → b ≡ m + l → c ≡ 1 + (n + m) → a ≡ c + l
joined a b c n m l h g e = omega (arith, h, g, e)

pub weigh-append : {X : Type 0} (f : X → ℕ) (xs ys : List X) → weigh f (xs ++ ys) ≡ weigh f xs + weigh f ys
weigh-append f [] ys = omega arith
weigh-append f (x ∷ xs) ys = joined (weigh f (x ∷ (xs ++ ys))) (weigh f (xs ++ ys)) (weigh f (x ∷ xs)) (f x) (weigh f xs) (weigh f ys) (weigh-cons f x (xs ++ ys)) (weigh-append f xs ys) (weigh-cons f x xs)

-- ---- groups and their versions

in_groups : (gs : List (List ℕ × Group)) → rows items_of_group gs ≡ length gs + weigh items_of_version (versions_in gs)
in_groups [] = refl
in_groups (g ∷ gs) =
    next (rows items_of_group (g ∷ gs)) (rows items_of_group gs) (weigh items_of_version (g.1.versions ++ versions_in gs)) (items_of_group g.1) (length gs) (weigh items_of_version (versions_in gs))
    (rows-cons items_of_group g gs) (in_groups gs) (weigh-append items_of_version g.1.versions (versions_in gs))
  where
    next : (a b c n g w : ℕ) → a ≡ 1 + (n + b) → b ≡ g + w → c ≡ n + w → a ≡ suc g + c
    next a b c n g w h i e = omega (arith, h, i, e)

abbrev groups_of : Filespace → ℕ
groups_of f = length f.groups

one_space : (a b c d n l g w k : ℕ) → a ≡ 1 + (n + b) → b ≡ g + w → n ≡ l + k → d ≡ 1 + (l + g) → c ≡ k + w → a ≡ d + c
one_space a b c d n l g w k h i e m r = omega (arith, h, i, e, m, r)

-- the filespaces, their groups, and what all versions weigh
pub in_spaces : (fs : List (ℕ × Filespace)) → rows items_of_filespace fs ≡ rows groups_of fs + weigh items_of_version (versions_of fs)
in_spaces [] = refl
in_spaces (f ∷ fs) =
    one_space (rows items_of_filespace (f ∷ fs)) (rows items_of_filespace fs) (weigh items_of_version (versions_in f.1.groups ++ versions_of fs)) (rows groups_of (f ∷ fs)) (items_of_filespace f.1) (groups_of f.1) (rows groups_of fs)
    (weigh items_of_version (versions_of fs)) (weigh items_of_version (versions_in f.1.groups))
    (rows-cons items_of_filespace f fs) (in_spaces fs) (in_groups f.1.groups) (rows-cons groups_of f fs) (weigh-append items_of_version (versions_in f.1.groups) (versions_of fs))

-- ---- held objects

one_held : (a b c d n : ℕ) → a ≡ 1 + n + b → b ≡ c → d ≡ 1 + (n + c) → a ≡ d
one_held a b c d n h i e = omega (arith, h, i, e)

pub in_held : (held : List (ℕ × HeldRow)) → items_of_held held ≡ weigh items_of_version (held_versions held)
in_held [] = refl
in_held (e ∷ held) =
    one_held (items_of_held (e ∷ held)) (items_of_held held) (weigh items_of_version (held_versions held)) (weigh items_of_version (held_versions (e ∷ held))) (items_of_version e.1.held.version)
    (sum_by-cons (λ (r : HeldRow). items_with r.held.version.copies) e.1 (values_of held)) (in_held held) (weigh-cons items_of_version e.1.held.version (held_versions held))

-- the filespaces with what they have, and the held objects
abbrev pub in_rows : Rows → ℕ
in_rows r = rows items_of_filespace r.filespaces + items_of_held r.held

both_kinds : (a b c d e w : ℕ) → a ≡ c + d → b ≡ e → w ≡ d + e → a + b ≡ c + w
both_kinds a b c d e w h i m = omega (arith, h, i, m)

-- the filespaces, their groups, and what all objects weigh
pub in_kept : (r : Rows) → in_rows r ≡ rows groups_of r.filespaces + weigh items_of_version (kept_of r)
in_kept r =
    both_kinds (rows items_of_filespace r.filespaces) (items_of_held r.held) (rows groups_of r.filespaces) (weigh items_of_version (versions_of r.filespaces)) (weigh items_of_version (held_versions r.held)) (weigh items_of_version (kept_of r))
    (in_spaces r.filespaces) (in_held r.held) (weigh-append items_of_version (versions_of r.filespaces) (held_versions r.held))

-- ---- the copies of one object

length-copied : (k : ℕ) (cs : List CopyRow) (gs : List (List ℕ × Group)) → length (groups_copied k cs gs) ≡ length gs
length-copied k cs [] = refl
length-copied k cs (g ∷ gs) = let more : length (groups_copied k cs gs) ≡ length gs = length-copied k cs gs in omega (arith, more)

-- a version's copies and their segments
abbrev pub in_copies : List CopyRow → ℕ
in_copies cs = weigh (λ c. length c.segments) cs

here : (a b n o c : ℕ) → a ≡ 1 + (n + b) → c ≡ 1 + (o + b) → a + o ≡ c + n
here a b n o c h g = omega (arith, h, g)

behind : (a b c d n o k : ℕ) → a ≡ 1 + (k + b) → c ≡ 1 + (k + d) → b + o ≡ d + n → a + o ≡ c + n
behind a b c d n o k h g e = omega (arith, h, g, e)

pub weigh-with_copies : (k : ℕ) (cs : List CopyRow) (vs : List Version) (w : Version) → are_distinct vs ≡ true → version_of k vs ≡ Some w → weigh items_of_version (with_copies k cs vs) + in_copies w.copies ≡ weigh items_of_version vs + in_copies cs
weigh-with_copies k cs [] w d h = absurd cc
weigh-with_copies k cs (v ∷ vs) w d h =
    elim (eqb v.object k) as (λ b. eqb v.object k ≡ b → cond b (Some v) (version_of k vs) ≡ Some w → weigh items_of_version (cond {A = Version} b (record v { copies = cs }) v ∷ with_copies k cs vs) + in_copies w.copies ≡ weigh items_of_version (v ∷ vs) + in_copies cs) [
      | true ↦ λ t g.
          let same : v ≡ w = cc in
          let others : are_of_others v.object vs ≡ true = first (are_of_others v.object vs) (are_distinct vs) d in
          let none : has_object k vs ≡ false = ap (λ n. has_object n vs) (sym (eqb-true v.object k t)) ∙ none_of_others v.object vs others in
          let stays : with_copies k cs vs ≡ vs = with_copies-others k cs vs none in
          ap (λ l. weigh items_of_version (record v { copies = cs } ∷ l) + in_copies w.copies) stays
          ∙ ap (λ (x : Version). weigh items_of_version (record v { copies = cs } ∷ vs) + in_copies x.copies) (sym same)
          ∙ here (weigh items_of_version (record v { copies = cs } ∷ vs)) (weigh items_of_version vs) (in_copies cs) (in_copies v.copies) (weigh items_of_version (v ∷ vs))
          (weigh-cons items_of_version (record v { copies = cs }) vs) (weigh-cons items_of_version v vs)
      | false ↦ λ t g.
          behind (weigh items_of_version (v ∷ with_copies k cs vs)) (weigh items_of_version (with_copies k cs vs)) (weigh items_of_version (v ∷ vs)) (weigh items_of_version vs) (in_copies cs) (in_copies w.copies) (items_of_version v)
          (weigh-cons items_of_version v (with_copies k cs vs)) (weigh-cons items_of_version v vs) (weigh-with_copies k cs vs w (rest (are_of_others v.object vs) (are_distinct vs) d) g)
    ] refl h

copied : (a b f g v w n o : ℕ) → a ≡ g + w → b ≡ f + v → g ≡ f → w + o ≡ v + n → a + o ≡ b + n
copied a b f g v w n o h i e m = omega (arith, h, i, e, m)

-- the rows once the object has these copies in place of those
pub in_rows-copied : (k : ℕ) (cs : List CopyRow) (r : Rows) (w : Version) → are_distinct (kept_of r) ≡ true → version_of k (kept_of r) ≡ Some w → in_rows (rows_copied k cs r) + in_copies w.copies ≡ in_rows r + in_copies cs
in_rows-copied k cs r w d h =
    copied (in_rows (rows_copied k cs r)) (in_rows r) (rows groups_of r.filespaces) (rows groups_of (filespaces_copied k cs r.filespaces)) (weigh items_of_version (kept_of r)) (weigh items_of_version (with_copies k cs (kept_of r))) (in_copies cs) (in_copies w.copies)
    (in_kept (rows_copied k cs r) ∙ ap (λ vs. rows groups_of (filespaces_copied k cs r.filespaces) + weigh items_of_version vs) (kept_of-copied k cs r))
    (in_kept r)
    (rows-map groups_of (filespace_copied k cs) (λ f. length-copied k cs f.groups) r.filespaces)
    (weigh-with_copies k cs (kept_of r) w d h)
