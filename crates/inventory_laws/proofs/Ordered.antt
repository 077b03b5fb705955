-- The rows of the filespaces stay in the order of their keys.
use Rattle.std.proofs.Common.{◌≡◌, ℕ, Bool, true, false, cond, List, [], ◌∷◌, Some, None, Ok, Err, Result, refl, sym, ap, subst}
use Rattle.std.proofs.lemmas.Map.{keys-set_value}
use Rattle.std.specs.Cmp.Lexicographic.{slice_cmp, nat_list_cmp_total}
use Rattle.std.specs.List.{AllByRecursion}
use Rattle.std.specs.List.Sorted.{IsStrictlySortedBy}
use Rattle.std.specs.Map.{keys_of, remove_entry, set_value}
use Rattle.std.specs.Ordering.{nat_cmp}
use Rattle.kinds.specs.declared.refusal.Refusal.{Refusal}
use Rattle.inventory_rules.specs.entries.change_items.declared.items.NewHeldObject.{NewHeldObject}
use Rattle.inventory_rules.specs.entries.change_items.declared.items.NewVersion.{NewVersion}
use Rattle.inventory_rules.specs.inventory_rows.version_groups.declared.copies.CopyChange.{CopyChange}
use Rattle.inventory_rules.specs.inventory_rows.version_groups.declared.copies.CopyRow.{CopyRow}
use Rattle.inventory_rules.specs.inventory_rows.version_groups.declared.group.Group.{Group}
use Rattle.inventory_rules.specs.inventory_rows.version_groups.declared.group.GroupChange.{GroupChange}
use Rattle.inventory_rules.specs.inventory_rows.version_groups.declared.groups.Filespace.{Filespace}
use Rattle.inventory_rules.specs.inventory_rows.version_groups.declared.versions.Version.{Version}
use Rattle.inventory_rules.specs.inventory_rows.version_groups.Copies.{copies_after}
use Rattle.inventory_rules.specs.inventory_rows.version_groups.Entries.{on_ok, if_found}
use Rattle.inventory_rules.specs.inventory_rows.version_groups.Groups as grouped
use Rattle.inventory_rules.specs.inventory_rows.version_groups.Groups.{AreByPath, at_path, class_after, group_with, groups_after, groups_with, versions_after}
use Rattle.inventory_rules.specs.inventory_rows.version_groups.Versions.{is_empty}
use Rattle.inventory_rules.proofs.of_inventory_rows.of_version_groups.Laws.{AfterIs, after-is}
use Rattle.inventory_rules.specs.inventory_rows.object_rows.Filespaces.{at_number, filespaces_copied, filespaces_with, groups_copied}
use Rattle.inventory_rules.specs.inventory_rows.object_rows.Rows.{rows_copied}
use Rattle.inventory_rules.proofs.of_inventory_rows.of_object_rows.Steps.{Within, within}
use Rattle.inventory_rules.proofs.of_inventory_rows.of_policy_domains.Sorted.{sorted-insert, sorted-remove}
use Rattle.inventory_rules.specs.inventory_rows.Search.{version}
use Rattle.inventory_rules.specs.inventory_rows.State.{Inv}
use Rattle.inventory_rules.specs.Common.{or_same, with_clients, with_filespaces}
use Rattle.inventory_rules.specs.Copies.{change_copy}
use Rattle.inventory_rules.specs.Versions.{change_group, held_too, inserted, new_version, AreGroupsOrdered}
use Rattle.inventory_rules.specs.Ordered.{IsOrdered}
use Rattle.inventory_laws.proofs.Frames.{frames, frames-copied, same_keys}
use Rattle.inventory_laws.proofs.GroupSteps.{either_way}
use Rattle.inventory_laws.proofs.Grouped.{frames_changed, frames_put, ordered_at}

-- ---- one filespace
abbrev Paths : List (ℕ × Filespace) → Type 0
Paths fs = AllByRecursion (λ f. AreByPath f.1.groups) fs

settled : (path : List ℕ) (es : List (List ℕ × Group)) (b : Bool) → AreByPath es → AreByPath (cond b (remove_entry (at_path path) es) es)
settled path es true h = sorted-remove (slice_cmp nat_cmp) (at_path path) es h
settled path es false h = h

paths_after : (path : List ℕ) (change : GroupChange) (groups new : List (List ℕ × Group)) → groups_after path change groups ≡ Ok new → AreByPath groups → AreByPath new
paths_after path change groups new h s =
    let w : AfterIs path change groups new = after-is path change groups new h in
    let g : Group = record { class = class_after change w.0.class; versions = versions_after change w.0.versions } in
    let es : List (List ℕ × Group) = set_value (at_path path) groups g in
    let in_order : AreByPath es = subst (IsStrictlySortedBy (slice_cmp nat_cmp)) (sym (keys-set_value (at_path path) groups g)) s in
    subst AreByPath w.3 (settled path es (is_empty (grouped.versions_at path es)) in_order)

paths-set : (n : ℕ) (fs : List (ℕ × Filespace)) (f : Filespace) → Paths fs → AreByPath f.groups → Paths (set_value (at_number n) fs f)
paths-set n [] f a h = a
paths-set n (e ∷ fs) f a h = elim (at_number n e.0) as (λ b. Paths (cond b ((e.0, f) ∷ fs) (e ∷ set_value (at_number n) fs f))) [ true ↦ (h, a.1) | false ↦ (a.0, paths-set n fs f a.1 h) ]

paths_within : (n : ℕ) (by : List (List ℕ × Group) → Result (List (List ℕ × Group)) Refusal) (fs new : List (ℕ × Filespace)) (w : Within n by fs new) → Paths fs → (AreByPath w.filespace.groups → AreByPath w.groups) → Paths new
paths_within n by fs new w a keeps = subst Paths w.becomes (paths-set n fs (record w.filespace { groups = w.groups }) a (keeps (ordered_at n fs w.filespace a w.there)))

-- ---- all filespaces
ordered_from : (v : Inv) (fs : List (ℕ × Filespace)) → IsOrdered v → frames fs ≡ frames v.clients.filespaces → Paths fs → IsOrdered (with_filespaces fs v)
ordered_from v fs o same paths = record { by_number = subst (IsStrictlySortedBy nat_cmp) (sym (same_keys v.clients.filespaces fs same)) o.by_number; by_path = paths }

pub ordered_change : (n : ℕ) (path : List ℕ) (change : GroupChange) (v : Inv) → IsOrdered v → IsOrdered (change_group n path change v)
ordered_change n path change v o =
    let fs : List (ℕ × Filespace) = v.clients.filespaces in
    either_way IsOrdered n path change v o
    (λ new said.
    let w : Within n (groups_after path change) fs new = within n (groups_after path change) fs new said in
    ordered_from v new o (frames_changed n path change fs new said) (paths_within n (groups_after path change) fs new w o.by_path (paths_after path change w.filespace.groups w.groups w.after)))

keys-copied : (k : ℕ) (cs : List CopyRow) (groups : List (List ℕ × Group)) → keys_of (groups_copied k cs groups) ≡ keys_of groups
keys-copied k cs [] = refl
keys-copied k cs (g ∷ groups) = ap (λ z. g.0 ∷ z) (keys-copied k cs groups)

paths-copied : (k : ℕ) (cs : List CopyRow) (fs : List (ℕ × Filespace)) → Paths fs → Paths (filespaces_copied k cs fs)
paths-copied k cs [] a = tt
paths-copied k cs (f ∷ fs) a = (subst (IsStrictlySortedBy (slice_cmp nat_cmp)) (sym (keys-copied k cs f.1.groups)) a.0, paths-copied k cs fs a.1)

-- what a change of copies makes of the rows, or that it is refused
pub copied_or_same : (P : Inv → Type 0) (k : ℕ) (step : CopyChange) (v : Inv) → P v → ((cs : List CopyRow) → P (with_clients (rows_copied k cs v.clients) v)) → P (change_copy k step v)
copied_or_same P k step v same made =
    elim (version k v) as (λ o. P (with_clients (or_same v.clients (if_found o (λ (x : Version). on_ok (λ c. rows_copied k c v.clients) (copies_after step x.copies)))) v)) [
      | None ↦ same
      | Some w ↦ elim (copies_after step w.copies) as (λ r. P (with_clients (or_same v.clients (on_ok (λ c. rows_copied k c v.clients) r)) v)) [
        | Ok cs ↦ made cs
        | Err e ↦ same
      ]
    ]

pub ordered_copy : (k : ℕ) (step : CopyChange) (v : Inv) → IsOrdered v → IsOrdered (change_copy k step v)
ordered_copy k step v o =
    let fs : List (ℕ × Filespace) = v.clients.filespaces in
    copied_or_same IsOrdered k step v o
    (λ cs.
    let a : IsOrdered (with_filespaces (filespaces_copied k cs fs) v) = ordered_from v (filespaces_copied k cs fs) o (frames-copied k cs fs) (paths-copied k cs fs o.by_path) in
    record { by_number = a.by_number; by_path = a.by_path })

-- ---- a new object
pub ordered_held : (n : ℕ) (item : NewHeldObject) (v : Inv) → IsOrdered v → IsOrdered (held_too n item v)
ordered_held n item v o = record { by_number = o.by_number; by_path = o.by_path }

pub paths_inserted : (n : ℕ) (item : NewVersion) (v : Inv) → AreGroupsOrdered v.clients.filespaces → AreGroupsOrdered (inserted n item v).clients.filespaces
paths_inserted n item v paths =
    let fs : List (ℕ × Filespace) = v.clients.filespaces in
    let x : Version = new_version v item in
    let by : List (List ℕ × Group) → Result (List (List ℕ × Group)) Refusal = λ groups. Ok (groups_with item.path item.class x groups) in
    elim (filespaces_with n item.path item.class x fs) as (λ r. filespaces_with n item.path item.class x fs ≡ r → Paths (or_same fs r)) [
      | Ok new ↦ λ said.
          let w : Within n by fs new = within n by fs new said in
          let after : by w.filespace.groups ≡ Ok w.groups = w.after in
          let same : groups_with item.path item.class x w.filespace.groups ≡ w.groups = cc in
          paths_within n by fs new w paths
          (λ s. subst AreByPath same (sorted-insert nat_list_cmp_total item.path (group_with item.class x (grouped.group_at item.path w.filespace.groups)) w.filespace.groups s))
      | Err e ↦ λ _. paths
    ] refl

pub ordered_inserted : (n : ℕ) (item : NewVersion) (v : Inv) → IsOrdered v → IsOrdered (inserted n item v)
ordered_inserted n item v o =
    let fs : List (ℕ × Filespace) = v.clients.filespaces in
    let x : Version = new_version v item in
    let numbers : IsStrictlySortedBy nat_cmp (keys_of (inserted n item v).clients.filespaces) =
    elim (filespaces_with n item.path item.class x fs) as (λ r. filespaces_with n item.path item.class x fs ≡ r → IsStrictlySortedBy nat_cmp (keys_of (or_same fs r))) [
      | Ok new ↦ λ said. subst (IsStrictlySortedBy nat_cmp) (sym (same_keys fs new (frames_put n item.path item.class x fs new said))) o.by_number
      | Err e ↦ λ _. o.by_number
    ] refl in
    record { by_number = numbers; by_path = paths_inserted n item v o.by_path }
