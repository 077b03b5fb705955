-- What is done to the groups of one filespace is done to all filespaces.
use Rattle.std.proofs.Common.{◌≡◌, ℕ, Bool, List, Some, Result, sym, ap, subst}
use Rattle.std.proofs.lemmas.Map.Steps.{set_value_same}
use Rattle.std.specs.Map.{lookup, set_value}
use Rattle.version_groups.specs.kinds.Answers.{Becomes, Makes}
use Rattle.version_groups.specs.kinds.declared.refusal.Refusal.{Refusal}
use Rattle.version_groups.specs.declared.copies.CopyChange.{CopyChange}
use Rattle.version_groups.specs.declared.copies.CopyChange.TheVariants.{Drop}
use Rattle.version_groups.specs.declared.group.Group.{Group}
use Rattle.version_groups.specs.declared.groups.Filespace.{Filespace}
use Rattle.version_groups.specs.Copies.{Alters}
use Rattle.version_groups.specs.Entries.{on_ok, if_found, changed_at}
use Rattle.version_groups.proofs.Altered.{Alters-lift, Becomes-lift}
use Rattle.version_groups.proofs.Maps.{Alters-entry}
use Rattle.object_rows.specs.Filespaces.{at_number, filespace_after, filespace_at, in_filespace}

pub Alters-in : {A : Type 0} (change : CopyChange) (r : Result A Refusal) (n : ℕ) (by : List (List ℕ × Group) → Result (List (List ℕ × Group)) Refusal) (fs : List (ℕ × Filespace)) (x : Filespace) (groups : List (List ℕ × Group)) → filespace_at n fs ≡ Some x
    → Alters {A = A} change r x.groups groups (by x.groups) → Alters {A = A} change r fs (set_value (at_number n) fs (record x { groups = groups })) (in_filespace n by fs)
Alters-in {A} change r n by fs x groups there h =
    Alters-entry {A = A} change r (at_number n) (filespace_after by) fs x (record x { groups = groups }) there
    (Alters-lift {A = A} change r x.groups groups (by x.groups) (λ (g : List (List ℕ × Group)). record x { groups = g }) h)

pub Makes-in : {A : Type 0} (r : Result A Refusal) (n : ℕ) (by : List (List ℕ × Group) → Result (List (List ℕ × Group)) Refusal) (fs : List (ℕ × Filespace)) (x : Filespace) (groups : List (List ℕ × Group)) → filespace_at n fs ≡ Some x
    → Makes {A = A} r x.groups groups (by x.groups) → Makes {A = A} r fs (set_value (at_number n) fs (record x { groups = groups })) (in_filespace n by fs)
Makes-in {A} r n by fs x groups there h = Alters-in {A = A} (Drop 0) r n by fs x groups there h

Becomes-entry : {A K X : Type 0} (r : Result A Refusal) (test : K → Bool) (f : X → Result X Refusal) (es : List (K × X)) (x y : X) → lookup test es ≡ Some x
    → Becomes {A = A} r x y (f x) → Becomes {A = A} r es (set_value test es y) (changed_at test f es)
Becomes-entry {A} {K} {X} r test f es x y found h =
    subst (λ (said : Result (List (K × X)) Refusal). Becomes {A = A} r es (set_value test es y) said) (ap (λ o. if_found o (λ z. on_ok (set_value test es) (f z))) (sym found))
    (subst (λ (old : List (K × X)). Becomes {A = A} r old (set_value test es y) (on_ok (set_value test es) (f x))) (set_value_same test es x found)
    (Becomes-lift r x y (f x) (set_value test es) h))

pub Becomes-in : {A : Type 0} (r : Result A Refusal) (n : ℕ) (by : List (List ℕ × Group) → Result (List (List ℕ × Group)) Refusal) (fs : List (ℕ × Filespace)) (x : Filespace) (groups : List (List ℕ × Group)) → filespace_at n fs ≡ Some x
    → Becomes {A = A} r x.groups groups (by x.groups) → Becomes {A = A} r fs (set_value (at_number n) fs (record x { groups = groups })) (in_filespace n by fs)
Becomes-in {A} r n by fs x groups there h =
    Becomes-entry {A = A} r (at_number n) (filespace_after by) fs x (record x { groups = groups }) there
    (Becomes-lift {A = A} r x.groups groups (by x.groups) (λ (g : List (List ℕ × Group)). record x { groups = g }) h)
