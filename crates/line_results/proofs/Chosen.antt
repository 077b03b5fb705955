-- Which version of a path is read.
use Rattle.std.proofs.Common.{◌≡◌, ◌⊎◌, inl, inr, ℕ, suc, Bool, true, false, cond, not, is_some, is_none, option_and_then, find, List, [], ◌∷◌, ◌++◌, Option, None, Some, Result, Ok, Err, refl, sym, ap, subst}
use Rattle.std.proofs.lemmas.Option.{same_Some}
use Rattle.std.specs.List.{AllByRecursion}
use Rattle.std.specs.Map.{lookup}
use Rattle.kinds.specs.declared.refusal.Refusal.{Refusal}
use Rattle.kinds.specs.declared.refusal.Refusal.TheVariants as refused
use Rattle.kinds.specs.declared.rule.RuleFound.{RuleFound}
use Rattle.inventory_rows.specs.object_rows.Filespaces.{at_number, filespace_at, group_at, groups_in, versions_in, versions_of}
use Rattle.inventory_rows.specs.version_groups.Entries.{if_found, on_ok}
use Rattle.inventory_rows.specs.version_groups.Groups.{at_path}
use Rattle.inventory_rows.specs.version_groups.declared.group.Group.{Group}
use Rattle.inventory_rows.specs.version_groups.declared.groups.Filespace.{Filespace}
use Rattle.inventory_rows.specs.version_groups.declared.versions.Version.{Version}
use Rattle.inventory_rows.specs.Search.{versions}
use Rattle.inventory_rows.specs.State.{Inv}
use Rattle.inventory_answers.specs.Clients.{lines_from, version_line_at, versions_of_group, versions_under}
use Rattle.inventory_answers.specs.declared.lines.VersionLine.{VersionLine}
use Rattle.command_steps.specs.sessions.Getting.{active_line}
use Rattle.line_results.specs.Files.{active_at}

-- ---- among the versions of a path

abbrev first_active : List Version → Option Version
first_active list = find (λ w. is_none w.since) list

-- the line is that of the version
pub record IsLineOf (line : VersionLine) (w : Version) : Type 0 where
  pub object : line.object ≡ w.object
  pub size : line.size ≡ w.size

module _ (rule : Option RuleFound) (today : ℕ) (path : List ℕ) (g : Group) where
  line-found : (place : ℕ) (list : List Version) (line : VersionLine) → active_line (lines_from (version_line_at rule today path g) place list) ≡ Some line
      → (w : Version) × (first_active list ≡ Some w) × IsLineOf line w
  line-found place [] line h = absurd cc
  line-found place (x ∷ list) line h =
      elim (x.since) as (λ o. cond (not (is_some o)) (Some (version_line_at rule today path g place x)) (active_line (lines_from (version_line_at rule today path g) (suc place) list)) ≡ Some line
      → (w : Version) × (cond (is_none o) (Some x) (first_active list) ≡ Some w) × IsLineOf line w) [
        | None ↦ λ k. (let same : version_line_at rule today path g place x ≡ line = same_Some (version_line_at rule today path g place x) line k in
            (x, refl, record { object = ap (λ (l : VersionLine). l.object) (sym same); size = ap (λ (l : VersionLine). l.size) (sym same) }))
        | Some d ↦ λ k. line-found (suc place) list line k
      ] h

  line-none : (place : ℕ) (list : List Version) → active_line (lines_from (version_line_at rule today path g) place list) ≡ None → first_active list ≡ None
  line-none place [] h = refl
  line-none place (x ∷ list) h =
      elim (x.since) as (λ o. cond (not (is_some o)) (Some (version_line_at rule today path g place x)) (active_line (lines_from (version_line_at rule today path g) (suc place) list)) ≡ None
      → cond (is_none o) (Some x) (first_active list) ≡ None) [
        | None ↦ λ k. absurd cc
        | Some d ↦ λ k. line-none (suc place) list k
      ] h

group-found : (filespace : ℕ) (path : List ℕ) (v : Inv) (o : Option Group) (line : VersionLine) → active_line (versions_of_group filespace path v o) ≡ Some line
    → (w : Version) × (option_and_then (λ (g : Group). first_active g.versions) o ≡ Some w) × IsLineOf line w
group-found filespace path v None line h = absurd cc
group-found filespace path v (Some g) line h = line-found _ v.today path g 0 g.versions line h

group-none : (filespace : ℕ) (path : List ℕ) (v : Inv) (o : Option Group) → active_line (versions_of_group filespace path v o) ≡ None → option_and_then (λ (g : Group). first_active g.versions) o ≡ None
group-none filespace path v None h = refl
group-none filespace path v (Some g) h = line-none _ v.today path g 0 g.versions h

pub active-found : (filespace : ℕ) (path : List ℕ) (v : Inv) (line : VersionLine) → active_line (versions_under filespace path v) ≡ Some line → (w : Version) × (active_at filespace path v ≡ Some w) × IsLineOf line w
active-found filespace path v line h = group-found filespace path v (group_at filespace path v.clients.filespaces) line h

pub active-none : (filespace : ℕ) (path : List ℕ) (v : Inv) → active_line (versions_under filespace path v) ≡ None → active_at filespace path v ≡ None
active-none filespace path v h = group-none filespace path v (group_at filespace path v.clients.filespaces) h

-- ---- the filespace

abbrev as_lines : List VersionLine → Result (List VersionLine) Refusal
as_lines lines = Ok lines

abbrev lines_in : Result (List VersionLine) Refusal → List VersionLine
lines_in (Ok lines) = lines
lines_in (Err e) = []

abbrev no_lines : Refusal → Result (List VersionLine) Refusal
no_lines e = Err e

abbrev error_of : Result (List VersionLine) Refusal → Refusal
error_of (Ok lines) = refused.Memory
error_of (Err e) = e

abbrev asked_lines : (ℕ → List VersionLine) → Option ℕ → (ℕ → Option ℕ) → Result (List VersionLine) Refusal
asked_lines h node f = on_ok h (if_found node (λ n. if_found (f n) Ok))

in-found : (h : ℕ → List VersionLine) (n : ℕ) (f : ℕ → Option ℕ) (b : Option ℕ) (lines : List VersionLine) → f n ≡ b → on_ok h (if_found b Ok) ≡ as_lines lines
    → (m : ℕ) × (f n ≡ Some m) × (h m ≡ lines)
in-found h n f None lines at is = absurd cc
in-found h n f (Some m) lines at is = (m, at, ap lines_in is)

pub asked-found : (h : ℕ → List VersionLine) (node : Option ℕ) (f : ℕ → Option ℕ) (lines : List VersionLine) → asked_lines h node f ≡ as_lines lines
    → (n : ℕ) × (m : ℕ) × (node ≡ Some n) × (f n ≡ Some m) × (h m ≡ lines)
asked-found h None f lines is = absurd cc
asked-found h (Some n) f lines is = let r = in-found h n f (f n) lines refl is in (n, r.0, refl, r.1, r.2)

in-none : (h : ℕ → List VersionLine) (n : ℕ) (f : ℕ → Option ℕ) (b : Option ℕ) (e : Refusal) → f n ≡ b → on_ok h (if_found b Ok) ≡ no_lines e → (e ≡ refused.NotFound) × (f n ≡ None)
in-none h n f None e at is = (sym (ap error_of is), at)
in-none h n f (Some m) e at is = absurd cc

pub asked-none : (h : ℕ → List VersionLine) (node : Option ℕ) (f : ℕ → Option ℕ) (e : Refusal) → asked_lines h node f ≡ no_lines e
    → (e ≡ refused.NotFound) × ((node ≡ None) ⊎ ((n : ℕ) × (node ≡ Some n) × (f n ≡ None)))
asked-none h None f e is = (sym (ap error_of is), inl refl)
asked-none h (Some n) f e is = let r = in-none h n f (f n) e refl is in (r.0, inr (n, refl, r.1))

-- ---- what holds of all versions holds of it

module _ (P : Version → Type 0) where
  all-front : (xs ys : List Version) → AllByRecursion P (xs ++ ys) → AllByRecursion P xs
  all-front [] ys h = tt
  all-front (x ∷ xs) ys h = (h.0, all-front xs ys h.1)

  all-back : (xs ys : List Version) → AllByRecursion P (xs ++ ys) → AllByRecursion P ys
  all-back [] ys h = h
  all-back (x ∷ xs) ys h = all-back xs ys h.1

  first-all : (list : List Version) (w : Version) → AllByRecursion P list → first_active list ≡ Some w → P w
  first-all [] w all h = absurd cc
  first-all (x ∷ list) w all h =
      elim (is_none x.since) as (λ b. cond b (Some x) (first_active list) ≡ Some w → P w) [
        | true ↦ λ k. subst P (same_Some x w k) all.0
        | false ↦ λ k. first-all list w all.1 k
      ] h

  groups-all : (test : List ℕ → Bool) (groups : List (List ℕ × Group)) (g : Group) → AllByRecursion P (versions_in groups) → lookup test groups ≡ Some g → AllByRecursion P g.versions
  groups-all test [] g all h = absurd cc
  groups-all test (e ∷ groups) g all h =
      elim (test e.0) as (λ b. cond b (Some e.1) (lookup test groups) ≡ Some g → AllByRecursion P g.versions) [
        | true ↦ λ k. subst (λ (x : Group). AllByRecursion P x.versions) (same_Some e.1 g k) (all-front e.1.versions (versions_in groups) all)
        | false ↦ λ k. groups-all test groups g (all-back e.1.versions (versions_in groups) all) k
      ] h

  spaces-all : (test : ℕ → Bool) (filespaces : List (ℕ × Filespace)) (f : Filespace) → AllByRecursion P (versions_of filespaces) → lookup test filespaces ≡ Some f → AllByRecursion P (versions_in f.groups)
  spaces-all test [] f all h = absurd cc
  spaces-all test (e ∷ filespaces) f all h =
      elim (test e.0) as (λ b. cond b (Some e.1) (lookup test filespaces) ≡ Some f → AllByRecursion P (versions_in f.groups)) [
        | true ↦ λ k. subst (λ (x : Filespace). AllByRecursion P (versions_in x.groups)) (same_Some e.1 f k) (all-front (versions_in e.1.groups) (versions_of filespaces) all)
        | false ↦ λ k. spaces-all test filespaces f (all-back (versions_in e.1.groups) (versions_of filespaces) all) k
      ] h

  path-all : (filespaces : List (ℕ × Filespace)) (path : List ℕ) (found : Option Filespace) (g : Group) → ((f : Filespace) → found ≡ Some f → AllByRecursion P (versions_in f.groups))
      → lookup (at_path path) (groups_in found) ≡ Some g → AllByRecursion P g.versions
  path-all filespaces path None g all h = absurd cc
  path-all filespaces path (Some f) g all h = groups-all (at_path path) f.groups g (all f refl) h

  found-all : (o : Option Group) (w : Version) → ((g : Group) → o ≡ Some g → AllByRecursion P g.versions) → option_and_then (λ (g : Group). first_active g.versions) o ≡ Some w → P w
  found-all None w all h = absurd cc
  found-all (Some g) w all h = first-all g.versions w (all g refl) h

  pub active-all : (filespace : ℕ) (path : List ℕ) (v : Inv) (w : Version) → AllByRecursion P (versions v) → active_at filespace path v ≡ Some w → P w
  active-all filespace path v w all h =
      found-all (group_at filespace path v.clients.filespaces) w
      (λ g at. path-all v.clients.filespaces path (filespace_at filespace v.clients.filespaces) g
      (λ f there. spaces-all (at_number filespace) v.clients.filespaces f (all-front (versions_of v.clients.filespaces) _ all) there) at) h
