-- The destinations of all copy groups, found level by level.
use Rattle.std.proofs.Common.{◌≡◌, ℕ, Bool, true, false, ◌||◌, List, [], ◌∷◌, Option, Some, None, refl, ap, ap₂, ◌∙◌}
use Rattle.std.specs.Prelude.{◌==◌}
use Rattle.std.specs.List.{flat_map, list_any}
use Rattle.std.specs.Option.{option_map_or}
use Rattle.std.proofs.lemmas.List.Folds.{list_any-append}
use Rattle.kinds.specs.declared.rule.ArchiveRule.{ArchiveRule}
use Rattle.kinds.specs.declared.rule.BackupRule.{BackupRule}
use Rattle.inventory_rows.specs.policy_domains.declared.classes.ManagementClass.{ManagementClass}
use Rattle.inventory_rows.specs.policy_domains.Rows.{SetRow, DomainRow}
use Rattle.inventory_rows.specs.Search.{destinations_of, destinations_of_set, is_destination}
use Rattle.inventory_rows.specs.State.{Inv}
use Rattle.inventory_refusals.specs.Users.{goes_to, classes_go_to, sets_go_to, domains_go_to}

-- one of the lists' elements passes where one of the lists has such an element
any_in : {X A : Type 0} (p : A → Bool) (f : X → List A) (q : X → Bool) → ((x : X) → list_any p (f x) ≡ q x) → (xs : List X) → list_any p (flat_map f xs) ≡ list_any q xs
any_in p f q h [] = refl
any_in p f q h (x ∷ xs) =
    list_any-append p (f x) (flat_map f xs)
    ∙ ap (λ b. b || list_any p (flat_map f xs)) (h x)
    ∙ ap (λ b. q x || b) (any_in p f q h xs)

or_false : (b : Bool) → (b || false) ≡ b
or_false true = refl
or_false false = refl

in_group : {R : Type 0} (to : R → ℕ) (pool : ℕ) (group : Option R) → list_any (λ n. n == pool) (option_map_or (λ rule. to rule ∷ []) group []) ≡ option_map_or (λ rule. to rule == pool) group false
in_group to pool None = refl
in_group to pool (Some rule) = or_false (to rule == pool)

in_class : (pool : ℕ) (class : ManagementClass) → list_any (λ n. n == pool) (destinations_of class) ≡ goes_to pool class
in_class pool class =
    list_any-append (λ n. n == pool) (option_map_or (λ (rule : BackupRule). rule.destination ∷ []) class.backup []) (option_map_or (λ (rule : ArchiveRule). rule.destination ∷ []) class.archive [])
    ∙ ap₂ (λ a b. a || b) (in_group (λ (rule : BackupRule). rule.destination) pool class.backup) (in_group (λ (rule : ArchiveRule). rule.destination) pool class.archive)

in_set : (pool : ℕ) (set : SetRow) → list_any (λ n. n == pool) (destinations_of_set set) ≡ classes_go_to pool set.classes
in_set pool set = any_in (λ n. n == pool) (λ (c : List ℕ × ManagementClass). destinations_of c.1) (λ (c : List ℕ × ManagementClass). goes_to pool c.1) (λ c. in_class pool c.1) set.classes

in_domain : (pool : ℕ) (d : DomainRow) → list_any (λ n. n == pool) (flat_map (λ (s : List ℕ × SetRow). destinations_of_set s.1) d.sets) ≡ sets_go_to pool d.sets
in_domain pool d = any_in (λ n. n == pool) (λ (s : List ℕ × SetRow). destinations_of_set s.1) (λ (s : List ℕ × SetRow). classes_go_to pool s.1.classes) (λ s. in_set pool s.1) d.sets

pub destination_found : (pool : ℕ) (v : Inv) → is_destination pool v ≡ domains_go_to pool v.domains
destination_found pool v =
    any_in (λ n. n == pool) (λ (d : List ℕ × DomainRow). flat_map (λ (s : List ℕ × SetRow). destinations_of_set s.1) d.1.sets) (λ (d : List ℕ × DomainRow). sets_go_to pool d.1.sets) (λ d. in_domain pool d.1) v.domains
