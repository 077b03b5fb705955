-- Tests of all elements of lists within lists.
use Rattle.std.proofs.Common.{◌≡◌, ℕ, ◌+◌, ◌-◌, ◌<◌, ◌≤◌, Bool, true, false, ◌&&◌, List, [], ◌∷◌, length, get_or, drop, map, Option, Some, None, is_some, refl, sym, ap, ap₂, ◌∙◌, arith}
use Rattle.std.specs.Prelude.{◌==◌}
use Rattle.std.specs.List.{list_all, flat_map, sum_by}
use Rattle.std.specs.Option.{option_map_or}
use Rattle.std.proofs.lemmas.Bool.Decides.{nat_tests}
use Rattle.std.proofs.lemmas.List.Folds.{list_all-append, list_all-map}
use Rattle.std.proofs.lemmas.List.Sums.{sum_by-drop_more}
use Rattle.kinds.specs.declared.rule.ArchiveRule.{ArchiveRule}
use Rattle.kinds.specs.declared.rule.BackupRule.{BackupRule}
use Rattle.inventory_rows.specs.policy_domains.declared.classes.ManagementClass.{ManagementClass}
use Rattle.inventory_rows.specs.policy_domains.Rows.{SetRow, DomainRow}
use Rattle.inventory_rows.specs.version_groups.declared.copies.CopyRow.{CopyRow}
use Rattle.inventory_rows.specs.version_groups.declared.groups.Filespace.{Filespace}
use Rattle.inventory_rows.specs.version_groups.declared.versions.Version.{Version}
use Rattle.inventory_rows.specs.object_rows.declared.held_object.HeldRow.{HeldRow}
use Rattle.inventory_rows.specs.object_rows.Filespaces.{versions_in, versions_of}
use Rattle.inventory_rows.specs.object_rows.HeldRows.{held_versions}
use Rattle.inventory_rows.specs.object_rows.Rows.{Rows, kept_of}
use Rattle.inventory_rows.specs.Search.{copies, destinations_of, destinations_of_set, pool, versions}
use Rattle.inventory_rows.specs.State.{Inv}
use Rattle.inventory_rules.specs.Valid.{rules_cite}
use Rattle.inventory_check.specs.Asked.{all_in_filespaces, all_in_groups, all_in_held}
use Rattle.inventory_check.specs.Rows.{class_cites, set_cites, domain_cites, domains_cite}

pub list_all-flat_map : {X A : Type 0} (p : A → Bool) (f : X → List A) (xs : List X) → list_all p (flat_map f xs) ≡ list_all (λ x. list_all p (f x)) xs
list_all-flat_map p f [] = refl
list_all-flat_map p f (x ∷ xs) = list_all-append p (f x) (flat_map f xs) ∙ ap (λ b. list_all p (f x) && b) (list_all-flat_map p f xs)

pub list_all-same : {X : Type 0} (p q : X → Bool) → ((x : X) → p x ≡ q x) → (xs : List X) → list_all p xs ≡ list_all q xs
list_all-same p q e [] = refl
list_all-same p q e (x ∷ xs) = ap (λ b. b && list_all p xs) (e x) ∙ ap (λ b. q x && b) (list_all-same p q e xs)

-- all versions of paths are those of the filespaces' groups
pub all_of_versions : (p : Version → Bool) (fs : List (ℕ × Filespace)) → list_all p (versions_of fs) ≡ all_in_filespaces p fs
all_of_versions p fs =
    list_all-flat_map p (λ (f : ℕ × Filespace). versions_in f.1.groups) fs
    ∙ list_all-same (λ (f : ℕ × Filespace). list_all p (versions_in f.1.groups)) (λ (f : ℕ × Filespace). all_in_groups p f.1.groups) (λ f. list_all-flat_map p (λ g. g.1.versions) f.1.groups) fs

-- all objects are those of the filespaces' groups, and the held ones
pub all_of_kept : (p : Version → Bool) (rows : Rows) → list_all p (kept_of rows) ≡ (all_in_filespaces p rows.filespaces && all_in_held p rows.held)
all_of_kept p rows =
    list_all-append p (versions_of rows.filespaces) (held_versions rows.held)
    ∙ ap₂ (λ a b. a && b) (all_of_versions p rows.filespaces) (list_all-map p (λ (h : ℕ × HeldRow). h.1.held.version) rows.held)

-- all copies are those of the objects
pub all_of_copies : (p : CopyRow → Bool) (v : Inv) → list_all (λ e. p e.1) (copies v) ≡ list_all (λ (version : Version). list_all p version.copies) (versions v)
all_of_copies p v =
    list_all-flat_map (λ (e : ℕ × CopyRow). p e.1) (λ (version : Version). map (λ (c : CopyRow). (version.object, c)) version.copies) (versions v)
    ∙ list_all-same (λ (version : Version). list_all (λ (e : ℕ × CopyRow). p e.1) (map (λ (c : CopyRow). (version.object, c)) version.copies)) (λ (version : Version). list_all p version.copies)
    (λ version. list_all-map (λ (e : ℕ × CopyRow). p e.1) (λ (c : CopyRow). (version.object, c)) version.copies) (versions v)

less_both : (a b left : ℕ) → a ≤ left → (a + b == left) ≡ (b == left - a)
less_both a b left h = grind (arith, nat_tests)

too_much : (a b left : ℕ) → left < a → (a + b == left) ≡ false
too_much a b left h = grind (arith, nat_tests)

-- a sum is a number where the sum behind the first element is what that element leaves of the number
pub sum_more : {X : Type 0} (f : X → ℕ) (xs : List X) (i left : ℕ) (d : X) (b : Bool) → i < length xs → f (get_or xs i d) ≤ left → (sum_by f (drop i xs) == left) ≡ b → (sum_by f (drop (i + 1) xs) == left - f (get_or xs i d)) ≡ b
sum_more f xs i left d b l fits h =
    sym (less_both (f (get_or xs i d)) (sum_by f (drop (i + 1) xs)) left fits) ∙ ap (λ n. n == left) (sym (sum_by-drop_more f xs i d l)) ∙ h

pub sum_stop : {X : Type 0} (f : X → ℕ) (xs : List X) (i left : ℕ) (d : X) (b : Bool) → i < length xs → left < f (get_or xs i d) → (sum_by f (drop i xs) == left) ≡ b → b ≡ false
sum_stop f xs i left d b l over h =
    sym h ∙ ap (λ n. n == left) (sum_by-drop_more f xs i d l) ∙ too_much (f (get_or xs i d)) (sum_by f (drop (i + 1) xs)) left over

-- all copy groups are those of the domains' sets
and_nothing : (b : Bool) → (b && true) ≡ b
and_nothing true = refl
and_nothing false = refl

abbrev is_cited : Inv → ℕ → Bool
is_cited v destination = is_some (pool destination v)

of_group : {R : Type 0} (v : Inv) (to : R → ℕ) (group : Option R) → list_all (is_cited v) (option_map_or (λ r. to r ∷ []) group []) ≡ option_map_or (λ r. is_cited v (to r)) group true
of_group v to None = refl
of_group v to (Some rule) = and_nothing (is_cited v (to rule))

of_class : (v : Inv) (class : ManagementClass) → list_all (is_cited v) (destinations_of class) ≡ class_cites v class
of_class v class =
    list_all-append (is_cited v) (option_map_or (λ (r : BackupRule). r.destination ∷ []) class.backup []) (option_map_or (λ (r : ArchiveRule). r.destination ∷ []) class.archive [])
    ∙ ap₂ (λ a b. a && b) (of_group v (λ (r : BackupRule). r.destination) class.backup) (of_group v (λ (r : ArchiveRule). r.destination) class.archive)

of_set : (v : Inv) (set : SetRow) → list_all (is_cited v) (destinations_of_set set) ≡ set_cites v set
of_set v set =
    list_all-flat_map (is_cited v) (λ (c : List ℕ × ManagementClass). destinations_of c.1) set.classes
    ∙ list_all-same (λ (c : List ℕ × ManagementClass). list_all (is_cited v) (destinations_of c.1)) (λ (c : List ℕ × ManagementClass). class_cites v c.1) (λ c. of_class v c.1) set.classes

of_domain : (v : Inv) (row : DomainRow) → list_all (is_cited v) (flat_map (λ s. destinations_of_set s.1) row.sets) ≡ domain_cites v row
of_domain v row =
    list_all-flat_map (is_cited v) (λ (s : List ℕ × SetRow). destinations_of_set s.1) row.sets
    ∙ list_all-same (λ (s : List ℕ × SetRow). list_all (is_cited v) (destinations_of_set s.1)) (λ (s : List ℕ × SetRow). set_cites v s.1) (λ s. of_set v s.1) row.sets

pub all_of_rules : (v : Inv) → rules_cite v ≡ domains_cite v
all_of_rules v =
    list_all-flat_map (is_cited v) (λ (d : List ℕ × DomainRow). flat_map (λ s. destinations_of_set s.1) d.1.sets) v.domains
    ∙ list_all-same (λ (d : List ℕ × DomainRow). list_all (is_cited v) (flat_map (λ s. destinations_of_set s.1) d.1.sets)) (λ (d : List ℕ × DomainRow). domain_cites v d.1) (λ d. of_domain v d.1) v.domains
