-- What a change of one object leaves of the others, where versions stand, and which filespaces there are.
use Rattle.std.proofs.Common.{◌≡◌, ℕ, Bool, true, false, cond, eqb, not, ◌||◌, List, [], ◌∷◌, ◌++◌, length, Option, Some, None, Ok, Err, refl, sym, ap, ap₂, subst, ◌∙◌}
use Rattle.std.proofs.lemmas.Bool.{false≢true, eqb-true, eqb-false, ne_eqb, and_parts, and_from}
use Rattle.std.specs.List.{list_all, AllByRecursion}
use Rattle.std.specs.Map.{lookup}
use Rattle.std.specs.Option.{is_some}
use Rattle.std.specs.Ordering.{nat_cmp}
use Rattle.inventory_rules.specs.entries.change_items.declared.items.NewVersion.{NewVersion}
use Rattle.inventory_rules.specs.inventory_rows.version_groups.declared.copies.CopyChange.{CopyChange}
use Rattle.inventory_rules.specs.inventory_rows.version_groups.declared.copies.CopyRow.{CopyRow}
use Rattle.inventory_rules.specs.inventory_rows.version_groups.declared.group.Group.{Group}
use Rattle.inventory_rules.specs.inventory_rows.version_groups.declared.group.GroupChange.{GroupChange}
use Rattle.inventory_rules.specs.inventory_rows.version_groups.declared.group.GroupChange.TheVariants.{Remove}
use Rattle.inventory_rules.specs.inventory_rows.version_groups.declared.groups.Filespace.{Filespace}
use Rattle.inventory_rules.specs.inventory_rows.version_groups.declared.versions.Version.{Version}
use Rattle.inventory_rules.specs.inventory_rows.version_groups.Groups.{AreByPath}
use Rattle.inventory_rules.specs.inventory_rows.version_groups.Versions.{are_distinct, has_object, is_empty, superseded, version_of, with_copies, without_object}
use Rattle.inventory_rules.specs.inventory_rows.object_rows.declared.place.Place.{Place}
use Rattle.inventory_rules.specs.inventory_rows.object_rows.Filespaces.{at_number, filespace_at, filespaces_after, filespaces_copied, filespaces_with, versions_at, versions_of}
use Rattle.inventory_rules.specs.inventory_rows.object_rows.HeldRows.{held_versions}
use Rattle.inventory_rules.specs.inventory_rows.object_rows.Index.{AreDistinct}
use Rattle.inventory_rules.specs.inventory_rows.object_rows.Places.{AreAllOrderly, are_full, listed, listed_at, place_of}
use Rattle.inventory_rules.proofs.of_inventory_rows.of_object_rows.ByNumber.{versions-there}
use Rattle.inventory_rules.proofs.of_inventory_rows.of_object_rows.Splices.{Splices}
use Rattle.inventory_rules.proofs.of_inventory_rows.of_object_rows.Stands.{Stands, at-eqb, listed-distinct, same_number, stands}
use Rattle.inventory_rules.proofs.of_inventory_rows.of_object_rows.Steps.{change_of}
use Rattle.inventory_rules.proofs.of_inventory_rows.of_object_rows.VersionLists.{parted}
use Rattle.inventory_rules.specs.inventory_rows.Search.{version, versions}
use Rattle.inventory_rules.specs.inventory_rows.State.{Inv}
use Rattle.inventory_rules.specs.Common.{or_same, with_filespaces}
use Rattle.inventory_rules.specs.Copies.{change_copy}
use Rattle.inventory_rules.specs.Versions.{change_group, inserted, new_version}
use Rattle.inventory_rules.specs.Valid.{is_orderly}
use Rattle.inventory_rules.specs.Halfway.{VersionFacts}
use Rattle.inventory_rules.specs.Ordered.{IsOrdered}
use Rattle.inventory_rules.proofs.CopiedLists.{kept_of-copied}
use Rattle.inventory_laws.proofs.Arriving.{has-objects, same_has, same_length}
use Rattle.inventory_laws.proofs.Frames.{frames-copied, same_there}
use Rattle.inventory_laws.proofs.GroupSteps.{either_way, objects, removes}
use Rattle.inventory_laws.proofs.Grouped.{frames_changed, frames_put, versions_changed, versions_put}
use Rattle.inventory_laws.proofs.Kept.{are_orderly, splice_kept}
use Rattle.inventory_laws.proofs.Ordered.{copied_or_same}
use Rattle.inventory_laws.proofs.PutSteps.{objects-superseded}

-- ---- searches of joined lists
abbrev or_else : {A : Type 0} → Option A → Option A → Option A
or_else None o = o
or_else (Some x) o = Some x

version_of-append : (k : ℕ) (vs ws : List Version) → version_of k (vs ++ ws) ≡ or_else (version_of k vs) (version_of k ws)
version_of-append k [] ws = refl
version_of-append k (v ∷ vs) ws = elim (eqb v.object k) as (λ b. cond b (Some v) (version_of k (vs ++ ws)) ≡ or_else (cond b (Some v) (version_of k vs)) (version_of k ws)) [ true ↦ refl | false ↦ version_of-append k vs ws ]

pub same_version : (k : ℕ) {xs ys old new : List Version} → Splices xs ys old new → version_of k ys ≡ version_of k xs → version_of k new ≡ version_of k old
same_version k {xs} {ys} s h =
    ap (version_of k) s.becomes ∙ version_of-append k s.before (ys ++ s.after)
    ∙ ap (or_else (version_of k s.before)) (version_of-append k ys s.after ∙ ap (λ o. or_else o (version_of k s.after)) h ∙ sym (version_of-append k xs s.after))
    ∙ sym (version_of-append k s.before (xs ++ s.after)) ∙ ap (version_of k) (sym s.was)

lookup-append : {V : Type 0} (test : ℕ → Bool) (xs ys : List (ℕ × V)) → lookup test (xs ++ ys) ≡ or_else (lookup test xs) (lookup test ys)
lookup-append test [] ys = refl
lookup-append test (x ∷ xs) ys = elim (test x.0) as (λ b. cond b (Some x.1) (lookup test (xs ++ ys)) ≡ or_else (cond b (Some x.1) (lookup test xs)) (lookup test ys)) [ true ↦ refl | false ↦ lookup-append test xs ys ]

same_lookup : {V : Type 0} (test : ℕ → Bool) {xs ys old new : List (ℕ × V)} → Splices xs ys old new → lookup test ys ≡ lookup test xs → lookup test new ≡ lookup test old
same_lookup test {xs} {ys} s h =
    ap (lookup test) s.becomes ∙ lookup-append test s.before (ys ++ s.after)
    ∙ ap (or_else (lookup test s.before)) (lookup-append test ys s.after ∙ ap (λ o. or_else o (lookup test s.after)) h ∙ sym (lookup-append test xs s.after))
    ∙ sym (lookup-append test s.before (xs ++ s.after)) ∙ ap (lookup test) (sym s.was)

lookup_behind : {V : Type 0} (test : ℕ → Bool) (xs ys : List (ℕ × V)) → lookup test xs ≡ None → lookup test (xs ++ ys) ≡ lookup test ys
lookup_behind test xs ys h = lookup-append test xs ys ∙ ap (λ o. or_else o (lookup test ys)) h

lookup_first : {V : Type 0} (test : ℕ → Bool) (xs ys : List (ℕ × V)) (v : V) → lookup test xs ≡ Some v → lookup test (xs ++ ys) ≡ Some v
lookup_first test xs ys v h = lookup-append test xs ys ∙ ap (λ o. or_else o (lookup test ys)) h

-- ---- versions of other objects
not_other : (n k other : ℕ) → n ≡ k → eqb other k ≡ false → eqb n other ≡ false
not_other n k other e h = ne_eqb n other (λ t. eqb-false other k h (sym t ∙ e))

pub version-without : (k other : ℕ) (vs : List Version) → eqb other k ≡ false → version_of other (without_object k vs) ≡ version_of other vs
version-without k other [] h = refl
version-without k other (v ∷ vs) h =
    elim (eqb v.object k) as (λ b. eqb v.object k ≡ b → version_of other (cond (not b) (v ∷ without_object k vs) (without_object k vs)) ≡ cond (eqb v.object other) (Some v) (version_of other vs)) [
      | true ↦ λ e. version-without k other vs h ∙ sym (ap (λ b. cond b (Some v) (version_of other vs)) (not_other v.object k other (eqb-true v.object k e) h))
      | false ↦ λ _. ap (λ o. cond (eqb v.object other) (Some v) o) (version-without k other vs h)
    ] refl

version-with_copies : (k other : ℕ) (cs : List CopyRow) (vs : List Version) → eqb other k ≡ false → version_of other (with_copies k cs vs) ≡ version_of other vs
version-with_copies k other cs [] h = refl
version-with_copies k other cs (v ∷ vs) h =
    elim (eqb v.object k) as (λ b. eqb v.object k ≡ b
    → cond (eqb (cond {A = Version} b (record v { copies = cs }) v).object other) (Some (cond {A = Version} b (record v { copies = cs }) v)) (version_of other (with_copies k cs vs)) ≡ cond (eqb v.object other) (Some v) (version_of other vs)) [
      | true ↦ λ e.
          let ne : eqb v.object other ≡ false = not_other v.object k other (eqb-true v.object k e) h in
          ap (λ b. cond b (Some (record v { copies = cs })) (version_of other (with_copies k cs vs))) ne ∙ version-with_copies k other cs vs h ∙ sym (ap (λ b. cond b (Some v) (version_of other vs)) ne)
      | false ↦ λ _. ap (λ o. cond (eqb v.object other) (Some v) o) (version-with_copies k other cs vs h)
    ] refl

pub other_copied : (k other : ℕ) (step : CopyChange) (v : Inv) → eqb other k ≡ false → version other (change_copy k step v) ≡ version other v
other_copied k other step v h =
    copied_or_same (λ w. version other w ≡ version other v) k step v refl
    (λ cs. ap (version_of other) (kept_of-copied k cs v.clients) ∙ version-with_copies k other cs (versions v) h)

pub other_removed : (n k other : ℕ) (path : List ℕ) (v : Inv) → eqb other k ≡ false → version other (change_group n path (Remove k) v) ≡ version other v
other_removed n k other path v h =
    either_way (λ w. version other w ≡ version other v) n path (Remove k) v refl
    (λ new said. same_version other (splice_kept v new (versions_changed n path (Remove k) v.clients.filespaces new said)) (version-without k other (versions_at n path v.clients.filespaces) h))

-- ---- the objects
object_stays : (k : ℕ) (cs : List CopyRow) (v : Version) (b : Bool) → (cond {A = Version} b (record v { copies = cs }) v).object ≡ v.object
object_stays k cs v true = refl
object_stays k cs v false = refl

objects-with_copies : (k : ℕ) (cs : List CopyRow) (vs : List Version) → objects (with_copies k cs vs) ≡ objects vs
objects-with_copies k cs [] = refl
objects-with_copies k cs (v ∷ vs) = ap₂ (λ a as_before. a ∷ as_before) (object_stays k cs v (eqb v.object k)) (objects-with_copies k cs vs)

pub objects_copied : (k : ℕ) (step : CopyChange) (v : Inv) → objects (versions (change_copy k step v)) ≡ objects (versions v)
objects_copied k step v =
    copied_or_same (λ w. objects (versions w) ≡ objects (versions v)) k step v refl
    (λ cs. ap objects (kept_of-copied k cs v.clients) ∙ objects-with_copies k cs (versions v))

-- ---- where versions stand
placed-without : (n : ℕ) (path : List ℕ) (k other : ℕ) (vs : List Version) → eqb other k ≡ false → lookup (at_number other) (listed_at n path (without_object k vs)) ≡ lookup (at_number other) (listed_at n path vs)
placed-without n path k other [] h = refl
placed-without n path k other (v ∷ vs) h =
    let here : Place = record { filespace = n; path = path } in
    elim (eqb v.object k) as (λ b. eqb v.object k ≡ b → lookup (at_number other) (listed_at n path (cond (not b) (v ∷ without_object k vs) (without_object k vs))) ≡ cond (at_number other v.object) (Some here) (lookup (at_number other) (listed_at n path vs))) [
      | true ↦ λ e. placed-without n path k other vs h ∙ sym (ap (λ b. cond b (Some here) (lookup (at_number other) (listed_at n path vs))) (at-eqb other v.object ∙ not_other v.object k other (eqb-true v.object k e) h))
      | false ↦ λ _. ap (λ o. cond (at_number other v.object) (Some here) o) (placed-without n path k other vs h)
    ] refl

pub place_stays : (n k other : ℕ) (path : List ℕ) (v : Inv) → eqb other k ≡ false → place_of other (change_group n path (Remove k) v).clients.filespaces ≡ place_of other v.clients.filespaces
place_stays n k other path v h =
    either_way (λ w. place_of other w.clients.filespaces ≡ place_of other v.clients.filespaces) n path (Remove k) v refl
    (λ new said. same_lookup (at_number other) (change_of n path (Remove k) v.clients.filespaces new said) (placed-without n path k other (versions_at n path v.clients.filespaces) h))

place_listed : (n : ℕ) (path : List ℕ) (k : ℕ) (vs : List Version) → has_object k vs ≡ true → lookup (at_number k) (listed_at n path vs) ≡ Some (record { filespace = n; path = path })
place_listed n path k [] h = absurd (false≢true h)
place_listed n path k (v ∷ vs) h =
    let here : Place = record { filespace = n; path = path } in
    ap (λ b. cond b (Some here) (lookup (at_number k) (listed_at n path vs))) (at-eqb k v.object)
    ∙ elim (eqb v.object k) as (λ b. (b || has_object k vs) ≡ true → cond b (Some here) (lookup (at_number k) (listed_at n path vs)) ≡ Some here) [
      | true ↦ λ _. refl
      | false ↦ λ t. place_listed n path k vs t
    ] h

none_before : (k : ℕ) (xs ys : List (ℕ × Place)) (p : Place) → AreDistinct nat_cmp (xs ++ ys) → lookup (at_number k) ys ≡ Some p → lookup (at_number k) xs ≡ None
none_before k [] ys p d h = refl
none_before k (x ∷ xs) ys p d h =
    let rest : lookup (at_number k) xs ≡ None = none_before k xs ys p d.1 h in
    elim (at_number k x.0) as (λ b. at_number k x.0 ≡ b → cond b (Some x.1) (lookup (at_number k) xs) ≡ None) [
      | true ↦ λ e.
          let clash : lookup (at_number k) (xs ++ ys) ≡ None = ap (λ m. lookup (at_number m) (xs ++ ys)) (same_number k x.0 e) ∙ d.0 in
          let found : lookup (at_number k) (xs ++ ys) ≡ Some p = lookup_behind (at_number k) xs ys rest ∙ h in
          let never : None ≡ Some p = sym clash ∙ found in
          absurd (cc)
      | false ↦ λ _. rest
    ] refl

pub place_of_path : (n k : ℕ) (path : List ℕ) (v : Inv) → are_distinct (versions v) ≡ true → has_object k (versions_at n path v.clients.filespaces) ≡ true → place_of k v.clients.filespaces ≡ Some (record { filespace = n; path = path })
place_of_path n k path v d has =
    let fs : List (ℕ × Filespace) = v.clients.filespaces in
    let xs : List (ℕ × Place) = listed_at n path (versions_at n path fs) in
    let here : Place = record { filespace = n; path = path } in
    let a : (new : List (ℕ × Filespace)) × (filespaces_after n path (Remove k) fs ≡ Ok new) = removes n path k fs has in
    let s : Splices xs (listed_at n path (without_object k (versions_at n path fs))) (listed fs) (listed a.0) = change_of n path (Remove k) fs a.0 a.1 in
    let found : lookup (at_number k) (xs ++ s.after) ≡ Some here = lookup_first (at_number k) xs s.after here (place_listed n path k (versions_at n path fs) has) in
    let apart : AreDistinct nat_cmp (s.before ++ (xs ++ s.after)) = subst (AreDistinct nat_cmp) s.was (listed-distinct fs (parted (versions_of fs) (held_versions v.clients.held) d).front) in
    ap (lookup (at_number k)) s.was ∙ lookup_behind (at_number k) s.before (xs ++ s.after) (none_before k s.before (xs ++ s.after) here apart found) ∙ found

-- the place that is found for an object is that of its version
pub full_groups : (groups : List (List ℕ × Group)) → list_all (λ g. is_orderly g.1) groups ≡ true → are_full groups ≡ true
full_groups [] h = refl
full_groups (g ∷ groups) h =
    let hs : (is_orderly g.1 ≡ true) × (list_all (λ g. is_orderly g.1) groups ≡ true) = and_parts (is_orderly g.1) (list_all (λ g. is_orderly g.1) groups) h in
    and_from (not (is_empty g.1.versions)) (are_full groups) (full g.1.class g.1.versions hs.0) (full_groups groups hs.1)
  where
    full : (class : List ℕ) (vs : List Version) → is_orderly (record { class = class; versions = vs }) ≡ true → not (is_empty vs) ≡ true
    full class [] t = t
    full class (v ∷ vs) t = refl

pub orderly_all : (fs : List (ℕ × Filespace)) → AllByRecursion (λ f. AreByPath f.1.groups) fs → are_orderly fs ≡ true → AreAllOrderly fs
orderly_all [] a h = tt
orderly_all (f ∷ fs) a h =
    let hs : (list_all (λ g. is_orderly g.1) f.1.groups ≡ true) × (are_orderly fs ≡ true) = and_parts (list_all (λ g. is_orderly g.1) f.1.groups) (are_orderly fs) h in
    ((a.0, full_groups f.1.groups hs.0), orderly_all fs a.1 hs.1)

pub path_of_place : (n k : ℕ) (v : Inv) (at : Place) → VersionFacts n v → IsOrdered v → place_of k v.clients.filespaces ≡ Some at → has_object k (versions_at at.filespace at.path v.clients.filespaces) ≡ true
path_of_place n k v at f o h =
    let fs : List (ℕ × Filespace) = v.clients.filespaces in
    let s : Stands k at fs = stands k fs at o.by_number (orderly_all fs o.by_path f.orderly) h in
    ap (has_object k) (versions-there k fs at s) ∙ s.has

-- ---- which filespaces there are
pub there_copied : (n k : ℕ) (step : CopyChange) (v : Inv) → is_some (filespace_at n (change_copy k step v).clients.filespaces) ≡ is_some (filespace_at n v.clients.filespaces)
there_copied n k step v =
    copied_or_same (λ w. is_some (filespace_at n w.clients.filespaces) ≡ is_some (filespace_at n v.clients.filespaces)) k step v refl
    (λ cs. same_there n v.clients.filespaces (filespaces_copied k cs v.clients.filespaces) (frames-copied k cs v.clients.filespaces))

pub there_changed : (n m : ℕ) (path : List ℕ) (step : GroupChange) (v : Inv) → is_some (filespace_at n (change_group m path step v).clients.filespaces) ≡ is_some (filespace_at n v.clients.filespaces)
there_changed n m path step v =
    either_way (λ w. is_some (filespace_at n w.clients.filespaces) ≡ is_some (filespace_at n v.clients.filespaces)) m path step v refl
    (λ new said. same_there n v.clients.filespaces new (frames_changed m path step v.clients.filespaces new said))

-- ---- after a new version
inserted_or_same : (P : List (ℕ × Filespace) → Type 0) (n : ℕ) (item : NewVersion) (v : Inv) → P v.clients.filespaces → ((new : List (ℕ × Filespace)) → filespaces_with n item.path item.class (new_version v item) v.clients.filespaces ≡ Ok new → P new)
    → P (inserted n item v).clients.filespaces
inserted_or_same P n item v same made =
    elim (filespaces_with n item.path item.class (new_version v item) v.clients.filespaces) as (λ r. filespaces_with n item.path item.class (new_version v item) v.clients.filespaces ≡ r → P (or_same v.clients.filespaces r)) [
      | Ok new ↦ λ e. made new e
      | Err e ↦ λ _. same
    ] refl

pub there_inserted : (n m : ℕ) (item : NewVersion) (v : Inv) → is_some (filespace_at n (inserted m item v).clients.filespaces) ≡ is_some (filespace_at n v.clients.filespaces)
there_inserted n m item v =
    inserted_or_same (λ fs. is_some (filespace_at n fs) ≡ is_some (filespace_at n v.clients.filespaces)) m item v refl
    (λ new said. same_there n v.clients.filespaces new (frames_put m item.path item.class (new_version v item) v.clients.filespaces new said))

pub other_inserted : (n other : ℕ) (item : NewVersion) (v : Inv) → IsOrdered v → eqb item.object other ≡ false → has_object other (versions (inserted n item v)) ≡ has_object other (versions v)
other_inserted n other item v o h =
    let xs : List Version = versions_at n item.path v.clients.filespaces in
    inserted_or_same (λ fs. has_object other (versions (with_filespaces fs v)) ≡ has_object other (versions v)) n item v refl
    (λ new said. same_has other (splice_kept v new (versions_put n item.path item.class (new_version v item) v.clients.filespaces new o.by_path said))
    (ap (λ b. b || has_object other (superseded v.today xs)) h ∙ has-objects other xs (superseded v.today xs) (objects-superseded v.today xs)))

-- ---- how many versions there are
pub length_copied : (k : ℕ) (step : CopyChange) (v : Inv) → length (versions (change_copy k step v)) ≡ length (versions v)
length_copied k step v = same_length (versions v) (versions (change_copy k step v)) (objects_copied k step v)

pub length_gone : (v w : Inv) → objects (versions w) ≡ objects (versions v) → length (versions w) ≡ length (versions v)
length_gone v w h = same_length (versions v) (versions w) h
