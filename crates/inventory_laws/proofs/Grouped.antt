-- A change of the versions of one path, in the list of all versions.
use Rattle.std.proofs.Common.{◌≡◌, ℕ, Bool, true, false, cond, List, [], ◌∷◌, Option, Some, None, Ok, Result, refl, sym, ap, subst, ◌∙◌}
use Rattle.std.proofs.lemmas.Bool.{false≢true}
use Rattle.std.specs.BTreeMap.{insert_entry}
use Rattle.std.specs.Cmp.Lexicographic.{slice_cmp, nat_list_cmp_total}
use Rattle.std.specs.List.{list_all, AllByRecursion}
use Rattle.std.specs.Map.{remove_entry, set_value}
use Rattle.std.specs.Ordering.{nat_cmp}
use Rattle.kinds.specs.declared.refusal.Refusal.{Refusal}
use Rattle.inventory_rules.specs.inventory_rows.version_groups.declared.group.Group.{Group}
use Rattle.inventory_rules.specs.inventory_rows.version_groups.declared.group.GroupChange.{GroupChange}
use Rattle.inventory_rules.specs.inventory_rows.version_groups.declared.groups.Filespace.{Filespace}
use Rattle.inventory_rules.specs.inventory_rows.version_groups.declared.versions.Version.{Version}
use Rattle.inventory_rules.specs.inventory_rows.version_groups.Groups as grouped
use Rattle.inventory_rules.specs.inventory_rows.version_groups.Groups.{AreByPath, at_path, class_after, group_with, groups_after, groups_with, versions_after, without_empty}
use Rattle.inventory_rules.specs.inventory_rows.version_groups.Versions.{is_empty, superseded}
use Rattle.inventory_rules.proofs.of_inventory_rows.of_version_groups.Laws.{AfterIs, after-is}
use Rattle.inventory_rules.proofs.of_inventory_rows.of_version_groups.Maps.{insert_present, lookup-set}
use Rattle.inventory_rules.specs.inventory_rows.object_rows.Filespaces.{at_number, filespace_at, filespaces_after, filespaces_with, groups_in, versions_at, versions_in, versions_of}
use Rattle.inventory_rules.proofs.of_inventory_rows.of_object_rows.Full.{all-insert_entry, all-lookup, all-remove_set, all-set_value}
use Rattle.inventory_rules.proofs.of_inventory_rows.of_object_rows.Splices.{Splices, splice_in, splice_set, splice_new, flatten-remove_entry, remove_entry-absent}
use Rattle.inventory_rules.proofs.of_inventory_rows.of_object_rows.Steps.{Within, within}
use Rattle.inventory_rules.specs.Valid.{is_orderly}
use Rattle.inventory_laws.proofs.Frames.{frames, frames-set}
use Rattle.inventory_laws.proofs.Kept.{are_orderly}

abbrev of_group : List ℕ → Group → List Version
of_group path g = g.versions

abbrev of_filespace : ℕ → Filespace → List Version
of_filespace n f = versions_in f.groups

-- ---- one filespace
nil : (vs : List Version) → is_empty vs ≡ true → vs ≡ []
nil [] h = refl
nil (v ∷ vs) h = absurd (false≢true h)

settled : (path : List ℕ) (es : List (List ℕ × Group)) → versions_in (without_empty path es) ≡ versions_in es
settled path es =
    elim (grouped.group_at path es) as (λ o. grouped.group_at path es ≡ o → versions_in (cond (is_empty (grouped.versions_in o)) (remove_entry (at_path path) es) es) ≡ versions_in es) [
      | None ↦ λ none. ap versions_in (remove_entry-absent (at_path path) es none)
      | Some g ↦ λ there.
          elim (is_empty g.versions) as (λ b. is_empty g.versions ≡ b → versions_in (cond b (remove_entry (at_path path) es) es) ≡ versions_in es) [
            | true ↦ λ none. flatten-remove_entry of_group (at_path path) es g there (λ p. nil g.versions none)
            | false ↦ λ _. refl
          ] refl
    ] refl

changed_in : (path : List ℕ) (change : GroupChange) (groups new : List (List ℕ × Group)) → groups_after path change groups ≡ Ok new
    → Splices (grouped.versions_at path groups) (versions_after change (grouped.versions_at path groups)) (versions_in groups) (versions_in new)
changed_in path change groups new h =
    let w : AfterIs path change groups new = after-is path change groups new h in
    let g : Group = record { class = class_after change w.0.class; versions = versions_after change w.0.versions } in
    let s : (p : List ℕ) × (at_path path p ≡ true) × Splices w.0.versions g.versions (versions_in groups) (versions_in (set_value (at_path path) groups g)) = splice_set of_group (at_path path) groups w.0 g w.1 in
    let same : versions_in (set_value (at_path path) groups g) ≡ versions_in new = sym (settled path (set_value (at_path path) groups g)) ∙ ap versions_in w.3 in
    subst (λ (o : Option Group). Splices (grouped.versions_in o) (versions_after change (grouped.versions_in o)) (versions_in groups) (versions_in new)) (sym w.1)
    (subst (λ (t : List Version). Splices w.0.versions g.versions (versions_in groups) t) same s.2)

put_in : (path class : List ℕ) (v : Version) (groups : List (List ℕ × Group)) → AreByPath groups
    → Splices (grouped.versions_at path groups) (v ∷ superseded v.stored (grouped.versions_at path groups)) (versions_in groups) (versions_in (groups_with path class v groups))
put_in path class v groups sorted =
    elim (grouped.group_at path groups) as (λ o. grouped.group_at path groups ≡ o
    → Splices (grouped.versions_in o) (v ∷ superseded v.stored (grouped.versions_in o)) (versions_in groups) (versions_in (insert_entry (slice_cmp nat_cmp) groups path (group_with class v o)))) [
      | None ↦ λ none. splice_new of_group (slice_cmp nat_cmp) path (group_with class v None) groups none
      | Some g ↦ λ there.
          let g' : Group = group_with class v (Some g) in
          let w : (p : List ℕ) × (at_path path p ≡ true) × Splices g.versions g'.versions (versions_in groups) (versions_in (set_value (at_path path) groups g')) = splice_set of_group (at_path path) groups g g' there in
          subst (λ (t : List (List ℕ × Group)). Splices g.versions g'.versions (versions_in groups) (versions_in t)) (sym (insert_present nat_list_cmp_total path g' g groups sorted there)) w.2
    ] refl

-- each group passes a test that the path's group passes after the change
after_all : (p : Group → Bool) (path : List ℕ) (change : GroupChange) (groups new : List (List ℕ × Group)) → groups_after path change groups ≡ Ok new → list_all (λ g. p g.1) groups ≡ true
    → ((g : Group) → grouped.group_at path groups ≡ Some g → p g ≡ true → is_empty (versions_after change g.versions) ≡ false → p (record { class = class_after change g.class; versions = versions_after change g.versions }) ≡ true) → list_all (λ g. p g.1) new ≡ true
after_all p path change groups new h a keeps =
    let w : AfterIs path change groups new = after-is path change groups new h in
    let g : Group = record { class = class_after change w.0.class; versions = versions_after change w.0.versions } in
    let es : List (List ℕ × Group) = set_value (at_path path) groups g in
    let found : grouped.group_at path es ≡ Some g = lookup-set (at_path path) w.0 g groups w.1 in
    ap (λ (t : List (List ℕ × Group)). list_all (λ x. p x.1) t) (sym w.3)
    ∙ ap (λ (o : Option Group). list_all (λ x. p x.1) (cond (is_empty (grouped.versions_in o)) (remove_entry (at_path path) es) es)) found
    ∙ elim (is_empty g.versions) as (λ b. is_empty g.versions ≡ b → list_all (λ x. p x.1) (cond b (remove_entry (at_path path) es) es) ≡ true) [
      | true ↦ λ _. all-remove_set p (at_path path) groups g a
      | false ↦ λ some. all-set_value p (at_path path) groups g a (keeps w.0 w.1 (all-lookup p (at_path path) groups w.0 a w.1) some)
    ] refl

with_all : (p : Group → Bool) (path class : List ℕ) (v : Version) (groups : List (List ℕ × Group)) → list_all (λ g. p g.1) groups ≡ true
    → p (record { class = class; versions = v ∷ [] }) ≡ true → ((g : Group) → grouped.group_at path groups ≡ Some g → p g ≡ true → p (record { class = class; versions = v ∷ superseded v.stored g.versions }) ≡ true) → list_all (λ g. p g.1) (groups_with path class v groups) ≡ true
with_all p path class v groups a one more =
    all-insert_entry p (slice_cmp nat_cmp) groups path (group_with class v (grouped.group_at path groups)) a
    (elim (grouped.group_at path groups) as (λ o. grouped.group_at path groups ≡ o → p (group_with class v o) ≡ true) [
      | None ↦ λ _. one
      | Some g ↦ λ there. more g there (all-lookup p (at_path path) groups g a there)
    ] refl)

-- ---- all filespaces
versions_within : (n : ℕ) (by : List (List ℕ × Group) → Result (List (List ℕ × Group)) Refusal) (fs new : List (ℕ × Filespace)) (w : Within n by fs new) → Splices (versions_in w.filespace.groups) (versions_in w.groups) (versions_of fs) (versions_of new)
versions_within n by fs new w =
    let f : Filespace = record w.filespace { groups = w.groups } in
    let s : (m : ℕ) × (at_number n m ≡ true) × Splices (versions_in w.filespace.groups) (versions_in w.groups) (versions_of fs) (versions_of (set_value (at_number n) fs f)) = splice_set of_filespace (at_number n) fs w.filespace f w.there in
    subst (λ (t : List (ℕ × Filespace)). Splices (versions_in w.filespace.groups) (versions_in w.groups) (versions_of fs) (versions_of t)) w.becomes s.2

frames_within : (n : ℕ) (by : List (List ℕ × Group) → Result (List (List ℕ × Group)) Refusal) (fs new : List (ℕ × Filespace)) (w : Within n by fs new) → frames new ≡ frames fs
frames_within n by fs new w = ap frames (sym w.becomes) ∙ frames-set (at_number n) fs w.filespace w.groups w.there

orderly_within : (n : ℕ) (by : List (List ℕ × Group) → Result (List (List ℕ × Group)) Refusal) (fs new : List (ℕ × Filespace)) (w : Within n by fs new) → are_orderly fs ≡ true
    → (list_all (λ g. is_orderly g.1) w.filespace.groups ≡ true → list_all (λ g. is_orderly g.1) w.groups ≡ true) → are_orderly new ≡ true
orderly_within n by fs new w a keeps =
    let p : Filespace → Bool = λ (f : Filespace). list_all (λ g. is_orderly g.1) f.groups in
    ap are_orderly (sym w.becomes) ∙ all-set_value p (at_number n) fs (record w.filespace { groups = w.groups }) a (keeps (all-lookup p (at_number n) fs w.filespace a w.there))

pub versions_changed : (n : ℕ) (path : List ℕ) (change : GroupChange) (fs new : List (ℕ × Filespace)) → filespaces_after n path change fs ≡ Ok new
    → Splices (versions_at n path fs) (versions_after change (versions_at n path fs)) (versions_of fs) (versions_of new)
versions_changed n path change fs new h =
    let w : Within n (groups_after path change) fs new = within n (groups_after path change) fs new h in
    subst (λ (o : Option Filespace). Splices (grouped.versions_at path (groups_in o)) (versions_after change (grouped.versions_at path (groups_in o))) (versions_of fs) (versions_of new)) (sym w.there)
    (splice_in (changed_in path change w.filespace.groups w.groups w.after) (versions_within n (groups_after path change) fs new w))

pub frames_changed : (n : ℕ) (path : List ℕ) (change : GroupChange) (fs new : List (ℕ × Filespace)) → filespaces_after n path change fs ≡ Ok new → frames new ≡ frames fs
frames_changed n path change fs new h = frames_within n (groups_after path change) fs new (within n (groups_after path change) fs new h)

-- the path's versions stay orderly, where they have been and any are left
abbrev pub StayOrderly : ℕ → List ℕ → GroupChange → List (ℕ × Filespace) → Type 0
StayOrderly n path change fs = (g : Group) → g.versions ≡ versions_at n path fs → is_orderly g ≡ true → is_empty (versions_after change g.versions) ≡ false
    → is_orderly (record { class = class_after change g.class; versions = versions_after change g.versions }) ≡ true

pub orderly_changed : (n : ℕ) (path : List ℕ) (change : GroupChange) (fs new : List (ℕ × Filespace)) → filespaces_after n path change fs ≡ Ok new → are_orderly fs ≡ true → StayOrderly n path change fs → are_orderly new ≡ true
orderly_changed n path change fs new h a keeps =
    let w : Within n (groups_after path change) fs new = within n (groups_after path change) fs new h in
    orderly_within n (groups_after path change) fs new w a
    (λ t. after_all is_orderly path change w.filespace.groups w.groups w.after t
    (λ g there. keeps g (sym (ap (λ (o : Option Filespace). grouped.versions_at path (groups_in o)) w.there ∙ ap grouped.versions_in there))))

-- ---- a version that comes
pub ordered_at : (n : ℕ) (fs : List (ℕ × Filespace)) (f : Filespace) → AllByRecursion (λ f. AreByPath f.1.groups) fs → filespace_at n fs ≡ Some f → AreByPath f.groups
ordered_at n [] f a h = absurd (cc)
ordered_at n (e ∷ fs) f a h =
    elim (at_number n e.0) as (λ b. cond b (Some e.1) (filespace_at n fs) ≡ Some f → AreByPath f.groups) [
      | true ↦ λ t. let same : e.1 ≡ f = cc in subst (λ (x : Filespace). AreByPath x.groups) same a.0
      | false ↦ λ t. ordered_at n fs f a.1 t
    ] h

pub versions_put : (n : ℕ) (path class : List ℕ) (v : Version) (fs new : List (ℕ × Filespace)) → AllByRecursion (λ f. AreByPath f.1.groups) fs → filespaces_with n path class v fs ≡ Ok new
    → Splices (versions_at n path fs) (v ∷ superseded v.stored (versions_at n path fs)) (versions_of fs) (versions_of new)
versions_put n path class v fs new sorted h =
    let by : List (List ℕ × Group) → Result (List (List ℕ × Group)) Refusal = λ groups. Ok (groups_with path class v groups) in
    let w : Within n by fs new = within n by fs new h in
    let after : by w.filespace.groups ≡ Ok w.groups = w.after in
    let same : groups_with path class v w.filespace.groups ≡ w.groups = cc in
    subst (λ (o : Option Filespace). Splices (grouped.versions_at path (groups_in o)) (v ∷ superseded v.stored (grouped.versions_at path (groups_in o))) (versions_of fs) (versions_of new)) (sym w.there)
    (splice_in (subst (λ (t : List (List ℕ × Group)). Splices (grouped.versions_at path w.filespace.groups) (v ∷ superseded v.stored (grouped.versions_at path w.filespace.groups)) (versions_in w.filespace.groups) (versions_in t)) same
    (put_in path class v w.filespace.groups (ordered_at n fs w.filespace sorted w.there)))
    (versions_within n by fs new w))

pub frames_put : (n : ℕ) (path class : List ℕ) (v : Version) (fs new : List (ℕ × Filespace)) → filespaces_with n path class v fs ≡ Ok new → frames new ≡ frames fs
frames_put n path class v fs new h =
    let by : List (List ℕ × Group) → Result (List (List ℕ × Group)) Refusal = λ groups. Ok (groups_with path class v groups) in
    frames_within n by fs new (within n by fs new h)

pub orderly_put : (n : ℕ) (path class : List ℕ) (v : Version) (fs new : List (ℕ × Filespace)) → filespaces_with n path class v fs ≡ Ok new → are_orderly fs ≡ true
    → is_orderly (record { class = class; versions = v ∷ [] }) ≡ true
    → ((g : Group) → g.versions ≡ versions_at n path fs → is_orderly g ≡ true → is_orderly (record { class = class; versions = v ∷ superseded v.stored g.versions }) ≡ true) → are_orderly new ≡ true
orderly_put n path class v fs new h a one more =
    let by : List (List ℕ × Group) → Result (List (List ℕ × Group)) Refusal = λ groups. Ok (groups_with path class v groups) in
    let w : Within n by fs new = within n by fs new h in
    let after : by w.filespace.groups ≡ Ok w.groups = w.after in
    let same : groups_with path class v w.filespace.groups ≡ w.groups = cc in
    orderly_within n by fs new w a
    (λ t. ap (λ (es : List (List ℕ × Group)). list_all (λ g. is_orderly g.1) es) (sym same)
    ∙ with_all is_orderly path class v w.filespace.groups t one
    (λ g there. more g (sym (ap (λ (o : Option Filespace). grouped.versions_at path (groups_in o)) w.there ∙ ap grouped.versions_in there))))
