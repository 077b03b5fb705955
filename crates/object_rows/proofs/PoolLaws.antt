-- Counts of copies by pools.
use Rattle.std.proofs.Common.{◌≡◌, ℕ, ◌+◌, Bool, true, false, cond, eqb, not, ◌&&◌, ◌||◌, List, [], ◌∷◌, sum_by, refl, ap, ◌∙◌, arith}
use Rattle.std.proofs.lemmas.List.Folds.{sum_by-zero}
use Rattle.std.proofs.lemmas.List.Sums.{sum_by-cons}
use Rattle.std.specs.List.{list_all, list_any}
use Rattle.version_groups.specs.declared.copies.CopyRow.{CopyRow}
use Rattle.version_groups.specs.declared.group.Group.{Group}
use Rattle.version_groups.specs.declared.groups.Filespace.{Filespace}
use Rattle.version_groups.specs.declared.versions.Version.{Version}
use Rattle.version_groups.specs.Copies.{has_copy}
use Rattle.object_rows.specs.declared.held_object.HeldRow.{HeldRow}
use Rattle.object_rows.specs.Held.{filespaces_hold, groups_hold, held_hold, versions_hold}
use Rattle.object_rows.specs.HeldRows.{weigh_held}
use Rattle.object_rows.specs.Tally.{kept_at, placed_in, weigh, weigh_filespaces, weigh_group, weigh_groups}
use Rattle.object_rows.proofs.Counts.{at_values}

-- ---- one after another

pub next_more : {X : Type 0} (f : X → ℕ) (x : X) (rest : List X) (now next total : ℕ) → next ≡ now + f x → now + sum_by f (x ∷ rest) ≡ total → next + sum_by f rest ≡ total
next_more f x rest now next total h i = omega (arith, h, i, sum_by-cons f x rest)

-- ---- a pool with a copy counts more than nothing

abbrev some_in : ℕ → Bool
some_in n = not (eqb n 0)

not-all : {X : Type 0} (p : X → Bool) (xs : List X) → not (list_all p xs) ≡ list_any (λ x. not (p x)) xs
not-all p [] = refl
not-all p (x ∷ xs) = elim (p x) as (λ b. not (b && list_all p xs) ≡ (not b || list_any (λ y. not (p y)) xs)) [ true ↦ not-all p xs | false ↦ refl ]

any_alike : {X : Type 0} (p q : X → Bool) → ((x : X) → p x ≡ q x) → (xs : List X) → list_any p xs ≡ list_any q xs
any_alike p q same [] = refl
any_alike p q same (x ∷ xs) = ap (λ b. b || list_any p xs) (same x) ∙ ap (λ b. q x || b) (any_alike p q same xs)

some_of : {X : Type 0} (f : X → ℕ) (p : X → Bool) → ((x : X) → some_in (f x) ≡ p x) → (xs : List X) → some_in (sum_by f xs) ≡ list_any p xs
some_of f p same xs = ap not (sum_by-zero f xs) ∙ not-all (λ x. eqb (f x) 0) xs ∙ any_alike (λ x. some_in (f x)) p same xs

pub nothing_first : (n : ℕ) → 0 + n ≡ n
nothing_first n = omega arith

one_or_none : (b : Bool) → some_in (cond b 1 0) ≡ b
one_or_none true = refl
one_or_none false = refl

in_copies : (pool : ℕ) (cs : List CopyRow) → some_in (placed_in pool cs) ≡ has_copy pool cs
in_copies pool cs = some_of (λ (c : CopyRow). cond (eqb c.pool pool) 1 0) (λ (c : CopyRow). eqb c.pool pool) (λ c. one_or_none (eqb c.pool pool)) cs

in_versions : (pool : ℕ) (vs : List Version) → some_in (weigh (placed_in pool) vs) ≡ versions_hold pool vs
in_versions pool vs = some_of (λ (v : Version). placed_in pool v.copies) (λ (v : Version). has_copy pool v.copies) (λ v. in_copies pool v.copies) vs

in_groups : (pool : ℕ) (gs : List (List ℕ × Group)) → some_in (weigh_groups 0 (placed_in pool) gs) ≡ groups_hold pool gs
in_groups pool gs =
    ap some_in (at_values (weigh_group 0 (placed_in pool)) gs)
    ∙ some_of (λ (e : List ℕ × Group). weigh_group 0 (placed_in pool) e.1) (λ (e : List ℕ × Group). versions_hold pool e.1.versions)
    (λ e. ap some_in (nothing_first (weigh (placed_in pool) e.1.versions)) ∙ in_versions pool e.1.versions) gs

in_filespaces : (pool : ℕ) (fs : List (ℕ × Filespace)) → some_in (weigh_filespaces 0 (placed_in pool) fs) ≡ filespaces_hold pool fs
in_filespaces pool fs =
    ap some_in (at_values (λ (f : Filespace). weigh_groups 0 (placed_in pool) f.groups) fs)
    ∙ some_of (λ (e : ℕ × Filespace). weigh_groups 0 (placed_in pool) e.1.groups) (λ (e : ℕ × Filespace). groups_hold pool e.1.groups) (λ e. in_groups pool e.1.groups) fs

-- a copy lies in the pool, as the counts say
pub counted_held : (pool : ℕ) (counts : List (ℕ × ℕ)) (fs : List (ℕ × Filespace)) → kept_at pool counts ≡ weigh_filespaces 0 (placed_in pool) fs → not (eqb (kept_at pool counts) 0) ≡ filespaces_hold pool fs
counted_held pool counts fs h = ap some_in h ∙ in_filespaces pool fs

in_held : (pool : ℕ) (held : List (ℕ × HeldRow)) → some_in (weigh_held (placed_in pool) held) ≡ held_hold pool held
in_held pool held =
    ap some_in (at_values (λ (r : HeldRow). placed_in pool r.held.version.copies) held)
    ∙ some_of (λ (e : ℕ × HeldRow). placed_in pool e.1.held.version.copies) (λ (e : ℕ × HeldRow). has_copy pool e.1.held.version.copies) (λ e. in_copies pool e.1.held.version.copies) held

-- and of a held object
pub counted_rows : (pool : ℕ) (counts : List (ℕ × ℕ)) (held : List (ℕ × HeldRow)) → kept_at pool counts ≡ weigh_held (placed_in pool) held → not (eqb (kept_at pool counts) 0) ≡ held_hold pool held
counted_rows pool counts held h = ap some_in h ∙ in_held pool held
