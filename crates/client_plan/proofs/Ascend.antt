-- In a valid database the active versions of a filespace stand by path.
use Rattle.std.proofs.Common.{◌≡◌, ◌⊎◌, ℕ, suc, Bool, true, false, not, ◌&&◌, cond, List, [], ◌∷◌, ◌++◌, map, Option, Some, is_some, refl, sym, ap, subst, ◌∙◌, inl, inr, true≢false}
use Rattle.std.proofs.lemmas.List.{map-append}
use Rattle.std.proofs.lemmas.List.Elements.{filter-append}
use Rattle.std.specs.Cmp.Lexicographic.{slice_cmp}
use Rattle.std.specs.List.{list_all}
use Rattle.std.specs.List.Sorted.{IsStrictlySortedBy}
use Rattle.std.specs.Map.{keys_of, lookup}
use Rattle.std.specs.Ordering.{nat_cmp}
use Rattle.std.specs.declared.cmp.Ordering.TheVariants.{Less}
use Rattle.kinds.specs.declared.rule.RuleFound.{RuleFound}
use Rattle.inventory_rows.specs.Ascending.{AreAscending}
use Rattle.inventory_rows.specs.Search.{rule_in}
use Rattle.inventory_rows.specs.State.{Inv}
use Rattle.inventory_rows.specs.object_rows.Filespaces.{at_number, groups_in}
use Rattle.inventory_rows.specs.object_rows.Places.{PathsAscend}
use Rattle.inventory_rows.specs.version_groups.Groups.{AreByPath}
use Rattle.inventory_rows.specs.version_groups.declared.group.Group.{Group}
use Rattle.inventory_rows.specs.version_groups.declared.groups.Filespace.{Filespace}
use Rattle.inventory_rows.specs.version_groups.declared.versions.Version.{Version}
use Rattle.inventory_rules.specs.Facts.{Facts}
use Rattle.inventory_rules.specs.Valid.{are_all_inactive, is_orderly}
use Rattle.inventory_answers.specs.declared.lines.VersionLine.{VersionLine}
use Rattle.inventory_answers.specs.Clients.{version_line_at, lines_from, group_versions, version_lines, versions_at}
use Rattle.client_plan.specs.Plans.{AreActive, actives}
use Rattle.client_plan.proofs.Walk.{IsBefore}

-- the paths of the active ones
abbrev active_paths : List VersionLine → List (List ℕ)
active_paths lines = map (λ (l : VersionLine). l.path) (actives lines)

active_paths-append : (xs ys : List VersionLine) → active_paths (xs ++ ys) ≡ active_paths xs ++ active_paths ys
active_paths-append xs ys =
    ap (map (λ (l : VersionLine). l.path)) (filter-append (λ (l : VersionLine). not (is_some l.since)) xs ys) ∙ map-append (λ (l : VersionLine). l.path) (actives xs) (actives ys)

both : (a b : Bool) → (a && b) ≡ true → (a ≡ true) × (b ≡ true)
both true b h = (refl, h)
both false b h = absurd (true≢false (sym h))

-- none of some inactive versions is active
none_active : (rule : Option RuleFound) (today : ℕ) (path : List ℕ) (group : Group) (place : ℕ) (older : List Version) → are_all_inactive older ≡ true
    → active_paths (lines_from (version_line_at rule today path group) place older) ≡ []
none_active rule today path group place [] h = refl
none_active rule today path group place (w ∷ older) h =
    let parts = both (is_some w.since) (are_all_inactive older) h in
    rw parts.0 (none_active rule today path group (suc place) older parts.1)

-- of a group's versions the newest alone may be active
newest_only : (group : Group) (newest : Version) (older : List Version) → group.versions ≡ newest ∷ older → is_orderly group ≡ true → are_all_inactive older ≡ true
newest_only group newest older e h =
    let there : is_orderly (record group { versions = newest ∷ older }) ≡ true = subst (λ (vs : List Version). is_orderly (record group { versions = vs }) ≡ true) e h in
    (both (are_all_inactive older) _ there).0

-- one path at most
abbrev IsOnePath : List ℕ → List (List ℕ) → Type 0
IsOnePath path paths = (paths ≡ []) ⊎ (paths ≡ path ∷ [])

first_active : (rule : Option RuleFound) (today : ℕ) (path : List ℕ) (group : Group) (newest : Version) (older : List Version) → are_all_inactive older ≡ true → (b : Bool) → is_some newest.since ≡ b
    → IsOnePath path (active_paths (lines_from (version_line_at rule today path group) 0 (newest ∷ older)))
first_active rule today path group newest older h true e = inl (rw e (none_active rule today path group 1 older h))
first_active rule today path group newest older h false e = inr (rw e (ap (λ l. path ∷ l) (none_active rule today path group 1 older h)))

of_versions : (rule : Option RuleFound) (today : ℕ) (path : List ℕ) (group : Group) (versions : List Version) → group.versions ≡ versions → is_orderly group ≡ true
    → IsOnePath path (active_paths (lines_from (version_line_at rule today path group) 0 versions))
of_versions rule today path group [] e h = inl refl
of_versions rule today path group (newest ∷ older) e h = first_active rule today path group newest older (newest_only group newest older e h) (is_some newest.since) refl

of_group : (rule : Option RuleFound) (today : ℕ) (path : List ℕ) (group : Group) → is_orderly group ≡ true → IsOnePath path (active_paths (group_versions rule today path group))
of_group rule today path group h = of_versions rule today path group group.versions refl h

-- groups that are orderly
abbrev are_orderly : List (List ℕ × Group) → Bool
are_orderly groups = list_all (λ g. is_orderly g.1) groups

-- a path before others, behind one path at most that it lies before, too
behind_one : (p q : List ℕ) (ones others : List (List ℕ)) → IsOnePath q ones → slice_cmp nat_cmp p q ≡ Less → IsBefore p others → IsBefore p (ones ++ others)
behind_one p q ones others (inl none) below h = subst (λ (l : List (List ℕ)). IsBefore p (l ++ others)) (sym none) h
behind_one p q ones others (inr one) below h = subst (λ (l : List (List ℕ)). IsBefore p (l ++ others)) (sym one) (below, h)

before_all : (filespace : ℕ) (v : Inv) (p : List ℕ) (groups : List (List ℕ × Group)) → are_orderly groups ≡ true → IsBefore p (keys_of groups)
    → IsBefore p (active_paths (version_lines filespace v groups))
before_all filespace v p [] h below = tt
before_all filespace v p (g ∷ groups) h below =
    let parts = both (is_orderly g.1) (are_orderly groups) h in
    subst (λ (l : List (List ℕ)). IsBefore p l) (sym (active_paths-append (group_versions (rule_in filespace g.1.class v) v.today g.0 g.1) (version_lines filespace v groups)))
    (behind_one p g.0 (active_paths (group_versions (rule_in filespace g.1.class v) v.today g.0 g.1)) (active_paths (version_lines filespace v groups))
    (of_group (rule_in filespace g.1.class v) v.today g.0 g.1 parts.0) below.0 (before_all filespace v p groups parts.1 below.1))

-- paths that ascend, behind one path at most that lies before them
one_more_ascends : (q : List ℕ) (ones others : List (List ℕ)) → IsOnePath q ones → IsBefore q others → IsStrictlySortedBy (slice_cmp nat_cmp) others
    → IsStrictlySortedBy (slice_cmp nat_cmp) (ones ++ others)
unfolding IsStrictlySortedBy
one_more_ascends q ones others (inl none) before h = subst (λ (l : List (List ℕ)). IsStrictlySortedBy (slice_cmp nat_cmp) (l ++ others)) (sym none) h
one_more_ascends q ones others (inr one) before h = subst (λ (l : List (List ℕ)). IsStrictlySortedBy (slice_cmp nat_cmp) (l ++ others)) (sym one) (before, h)

none_ascends : AreByPath []
unfolding IsStrictlySortedBy
none_ascends = tt

tail_of : (g : List ℕ × Group) (groups : List (List ℕ × Group)) → AreByPath (g ∷ groups) → IsBefore g.0 (keys_of groups) × AreByPath groups
unfolding IsStrictlySortedBy
tail_of g groups h = h

in_groups : (filespace : ℕ) (v : Inv) (groups : List (List ℕ × Group)) → are_orderly groups ≡ true → AreByPath groups → AreActive (actives (version_lines filespace v groups))
in_groups filespace v [] h ascend = none_ascends
in_groups filespace v (g ∷ groups) h ascend =
    let parts = both (is_orderly g.1) (are_orderly groups) h in
    let behind = tail_of g groups ascend in
    subst (λ (l : List (List ℕ)). IsStrictlySortedBy (slice_cmp nat_cmp) l)
    (sym (active_paths-append (group_versions (rule_in filespace g.1.class v) v.today g.0 g.1) (version_lines filespace v groups)))
    (one_more_ascends g.0 (active_paths (group_versions (rule_in filespace g.1.class v) v.today g.0 g.1)) (active_paths (version_lines filespace v groups))
    (of_group (rule_in filespace g.1.class v) v.today g.0 g.1 parts.0) (before_all filespace v g.0 groups parts.1 behind.0) (in_groups filespace v groups parts.1 behind.1))

-- what holds of the groups of every filespace holds of those of one
abbrev Fine : List (List ℕ × Group) → Type 0
Fine groups = (are_orderly groups ≡ true) × AreByPath groups

found_fine : (o : Option Filespace) (f : Filespace) → Fine f.groups → Fine (groups_in o) → (b : Bool) → Fine (groups_in (cond b (Some f) o))
found_fine o f here there true = here
found_fine o f here there false = there

filespace_fine : (filespace : ℕ) (filespaces : List (ℕ × Filespace)) → list_all (λ (f : ℕ × Filespace). are_orderly f.1.groups) filespaces ≡ true → PathsAscend filespaces
    → Fine (groups_in (lookup (at_number filespace) filespaces))
filespace_fine filespace [] h ascend = (refl, none_ascends)
filespace_fine filespace (f ∷ filespaces) h ascend =
    let parts = both (are_orderly f.1.groups) (list_all (λ (f : ℕ × Filespace). are_orderly f.1.groups) filespaces) h in
    found_fine (lookup (at_number filespace) filespaces) f.1 (parts.0, ascend.0) (filespace_fine filespace filespaces parts.1 ascend.1) (at_number filespace f.0)

pub actives_ascend : (filespace : ℕ) (v : Inv) → Facts v → AreAscending v → AreActive (actives (versions_at filespace v))
actives_ascend filespace v facts ascend =
    let fine = filespace_fine filespace v.clients.filespaces facts.groups_orderly ascend.paths in
    in_groups filespace v (groups_in (lookup (at_number filespace) v.clients.filespaces)) fine.0 fine.1
