-- The versions of one path are those of its filespace that have the path.
use Rattle.std.proofs.Common.{◌≡◌, ℕ, suc, Bool, true, false, cond, List, [], ◌∷◌, ◌++◌, append-nil, Some, refl, sym, ap, subst, ◌∙◌}
use Rattle.std.proofs.lemmas.List.Elements.{filter-append}
use Rattle.std.proofs.lemmas.Map.Text.{is_eq-slice_cmp}
use Rattle.std.proofs.lemmas.Slice.Eq.{bytes_eq-Decides}
use Rattle.std.specs.Cmp.Lexicographic.{slice_cmp}
use Rattle.std.specs.List.{AllByRecursion, filter}
use Rattle.std.specs.List.Sorted.{IsStrictlySortedBy}
use Rattle.std.specs.Map.{keys_of, lookup}
use Rattle.std.specs.Ordering.{nat_cmp, is_eq}
use Rattle.std.specs.declared.cmp.Ordering.TheVariants.{Less}
use Rattle.inventory_work.specs.inventory_rows.object_rows.Filespaces.{at_number, filespace_at, groups_in}
use Rattle.inventory_work.specs.inventory_rows.object_rows.Places.{PathsAscend}
use Rattle.inventory_work.specs.inventory_rows.Search.{rule_in}
use Rattle.inventory_work.specs.inventory_rows.State.{Inv}
use Rattle.inventory_work.specs.inventory_rows.version_groups.declared.group.Group.{Group}
use Rattle.inventory_work.specs.inventory_rows.version_groups.declared.groups.Filespace.{Filespace}
use Rattle.inventory_work.specs.inventory_rows.version_groups.declared.versions.Version.{Version}
use Rattle.inventory_work.specs.inventory_rows.version_groups.Groups.{AreByPath, at_path}
use Rattle.inventory_answers.specs.Clients.{group_versions, lines_from, version_line_at, version_lines, versions_at, versions_of_group, versions_under}
use Rattle.inventory_answers.specs.declared.lines.VersionLine.{VersionLine}

-- the line is one of the path
abbrev has : List ℕ → VersionLine → Bool
has path l = at_path path l.path

all-kept : (path : List ℕ) (line : ℕ → Version → VersionLine) → ((k : ℕ) (x : Version) → has path (line k x) ≡ true) → (k : ℕ) (rows : List Version) → filter (has path) (lines_from line k rows) ≡ lines_from line k rows
all-kept path line here k [] = refl
all-kept path line here k (x ∷ rows) =
    ap (λ (b : Bool). cond b (line k x ∷ filter (has path) (lines_from line (suc k) rows)) (filter (has path) (lines_from line (suc k) rows))) (here k x)
    ∙ ap (λ (l : List VersionLine). line k x ∷ l) (all-kept path line here (suc k) rows)

none-kept : (path : List ℕ) (line : ℕ → Version → VersionLine) → ((k : ℕ) (x : Version) → has path (line k x) ≡ false) → (k : ℕ) (rows : List Version) → filter (has path) (lines_from line k rows) ≡ []
none-kept path line here k [] = refl
none-kept path line here k (x ∷ rows) =
    ap (λ (b : Bool). cond b (line k x ∷ filter (has path) (lines_from line (suc k) rows)) (filter (has path) (lines_from line (suc k) rows))) (here k x) ∙ none-kept path line here (suc k) rows

same-path : (path other : List ℕ) → at_path path other ≡ true → path ≡ other
same-path path other h = (bytes_eq-Decides path other).0 (sym (is_eq-slice_cmp path other) ∙ h)

module _ (n : ℕ) (v : Inv) (path : List ℕ) where
  abbrev of-group : List ℕ × Group → List VersionLine
  of-group g = group_versions (rule_in n g.1.class v) v.today g.0 g.1

  -- paths behind it aren't it
  later-none : (groups : List (List ℕ × Group)) → AllByRecursion (λ p. slice_cmp nat_cmp path p ≡ Less) (keys_of groups) → filter (has path) (version_lines n v groups) ≡ []
  later-none [] h = refl
  later-none (g ∷ groups) h =
      filter-append (has path) (of-group g) (version_lines n v groups)
      ∙ ap (λ (l : List VersionLine). l ++ filter (has path) (version_lines n v groups)) (none-kept path (version_line_at (rule_in n g.1.class v) v.today g.0 g.1) (λ k x. ap is_eq h.0) 0 g.1.versions)
      ∙ later-none groups h.1

  in-groups : (groups : List (List ℕ × Group)) → AreByPath groups → filter (has path) (version_lines n v groups) ≡ versions_of_group n path v (lookup (at_path path) groups)
  unfolding IsStrictlySortedBy
  in-groups [] s = refl
  in-groups (g ∷ groups) s =
      elim (at_path path g.0) as (λ b. at_path path g.0 ≡ b → filter (has path) (version_lines n v (g ∷ groups)) ≡ versions_of_group n path v (cond b (Some g.1) (lookup (at_path path) groups))) [
        | true ↦ λ here.
            (let same : path ≡ g.0 = same-path path g.0 here in
            filter-append (has path) (of-group g) (version_lines n v groups)
            ∙ ap (λ (l : List VersionLine). l ++ filter (has path) (version_lines n v groups)) (all-kept path (version_line_at (rule_in n g.1.class v) v.today g.0 g.1) (λ k x. here) 0 g.1.versions)
            ∙ ap (λ (l : List VersionLine). of-group g ++ l) (later-none groups (subst (λ (p : List ℕ). AllByRecursion (λ q. slice_cmp nat_cmp p q ≡ Less) (keys_of groups)) (sym same) s.0))
            ∙ append-nil (of-group g)
            ∙ ap (λ (p : List ℕ). group_versions (rule_in n g.1.class v) v.today p g.1) (sym same))
        | false ↦ λ other.
            filter-append (has path) (of-group g) (version_lines n v groups)
            ∙ ap (λ (l : List VersionLine). l ++ filter (has path) (version_lines n v groups)) (none-kept path (version_line_at (rule_in n g.1.class v) v.today g.0 g.1) (λ k x. other) 0 g.1.versions)
            ∙ in-groups groups s.1
      ] refl

by-path : (n : ℕ) (filespaces : List (ℕ × Filespace)) → PathsAscend filespaces → AreByPath (groups_in (filespace_at n filespaces))
unfolding IsStrictlySortedBy
by-path n [] h = tt
by-path n (f ∷ filespaces) h =
    elim (at_number n f.0) as (λ b. AreByPath (groups_in (cond b (Some f.1) (filespace_at n filespaces)))) [
      | true ↦ h.0
      | false ↦ by-path n filespaces h.1
    ]

pub lines_of_path : (v : Inv) (n : ℕ) (path : List ℕ) → PathsAscend v.clients.filespaces → filter (λ l. at_path path l.path) (versions_at n v) ≡ versions_under n path v
lines_of_path v n path h = in-groups n v path (groups_in (filespace_at n v.clients.filespaces)) (by-path n v.clients.filespaces h)
