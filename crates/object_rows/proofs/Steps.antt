-- What each change of the filespaces makes of the list of places.
use Rattle.std.proofs.Common.{◌≡◌, ℕ, true, false, cond, eqb, not, ◌||◌, List, [], ◌∷◌, Option, Some, None, Result, Ok, Err, refl, sym, ap, subst, ◌∙◌}
use Rattle.std.proofs.lemmas.Bool.{false≢true, and_parts, eqb-true}
use Rattle.std.proofs.lemmas.Map.{keys-set_value}
use Rattle.std.specs.BTreeMap.{insert_entry}
use Rattle.std.specs.Cmp.Lexicographic.{slice_cmp, nat_list_cmp_total}
use Rattle.std.specs.Map.{keys_of, set_value, remove_entry}
use Rattle.std.specs.Ordering.{nat_cmp}
use Rattle.version_groups.specs.kinds.declared.refusal.Refusal.{Refusal}
use Rattle.version_groups.specs.declared.copies.CopyChange.{CopyChange}
use Rattle.version_groups.specs.declared.copies.CopyRow.{CopyRow}
use Rattle.version_groups.specs.declared.group.Group.{Group}
use Rattle.version_groups.specs.declared.group.GroupChange.{GroupChange}
use Rattle.version_groups.specs.declared.groups.Filespace.{Filespace}
use Rattle.version_groups.specs.declared.versions.Version.{Version}
use Rattle.version_groups.specs.Copies.{copies_after}
use Rattle.version_groups.specs.Entries.{on_ok, if_found}
use Rattle.version_groups.specs.Groups as grouped
use Rattle.version_groups.specs.Groups.{AreByPath, at_path, class_after, group_altered, group_with, groups_after, groups_altered, groups_with, names_kept, versions_after, without_empty}
use Rattle.version_groups.specs.Versions.{has_object, are_distinct, is_empty, retired, superseded, with_copies, without_object, version_of, versions_altered}
use Rattle.version_groups.proofs.Laws.{AfterIs, after-is}
use Rattle.version_groups.proofs.Lists.{are_of_others}
use Rattle.version_groups.proofs.Maps.{insert_present}
use Rattle.object_rows.specs.declared.place.Place.{Place}
use Rattle.object_rows.specs.Filespaces.{at_number, filespace_at, filespace_after, filespaces_after, filespaces_altered_at, filespaces_with, groups_in, in_filespace, versions_at, versions_in, versions_of}
use Rattle.object_rows.specs.Places.{AreAllOrderly, AreOrderly, listed, listed_at, listed_in}
use Rattle.object_rows.proofs.Splices.{Splices, splice_in, splice_same, splice_set, splice_new, splice_behind, flatten-remove_entry, remove_entry-absent}
use Rattle.object_rows.proofs.Stands.{same_number, same_path}
use Rattle.object_rows.proofs.VersionLists.{none_of_others, without_object-others}

-- ---- versions of the same objects are listed alike
pub listed-retired : (n : ℕ) (p : List ℕ) (day : ℕ) (vs : List Version) → listed_at n p (retired day vs) ≡ listed_at n p vs
listed-retired n p day [] = refl
listed-retired n p day (v ∷ vs) = refl

listed-superseded : (n : ℕ) (p : List ℕ) (day : ℕ) (vs : List Version) → listed_at n p (superseded day vs) ≡ listed_at n p vs
listed-superseded n p day [] = refl
listed-superseded n p day (v ∷ vs) = elim v.since as (λ s. listed_at n p (superseded day (record v { since = s } ∷ vs)) ≡ listed_at n p (v ∷ vs)) [ None ↦ refl | Some d ↦ refl ]

listed-with_copies : (n : ℕ) (p : List ℕ) (k : ℕ) (copies : List CopyRow) (vs : List Version) → listed_at n p (with_copies k copies vs) ≡ listed_at n p vs
listed-with_copies n p k copies [] = refl
listed-with_copies n p k copies (v ∷ vs) =
    let place : Place = record { filespace = n; path = p } in
    ap (λ t. ((cond {A = Version} (eqb v.object k) (record v { copies = copies }) v).object, place) ∷ t) (listed-with_copies n p k copies vs)
    ∙ elim (eqb v.object k) as (λ b. ((cond {A = Version} b (record v { copies = copies }) v).object, place) ∷ listed_at n p vs ≡ (v.object, place) ∷ listed_at n p vs) [ true ↦ refl | false ↦ refl ]

listed-altered : (n : ℕ) (p : List ℕ) (k : ℕ) (change : CopyChange) (vs xs : List Version) → versions_altered k change vs ≡ Ok xs → listed_at n p xs ≡ listed_at n p vs
listed-altered n p k change vs xs h =
    elim (version_of k vs) as (λ o. if_found o (λ v. on_ok (λ copies. with_copies k copies vs) (copies_after change v.copies)) ≡ Ok xs → listed_at n p xs ≡ listed_at n p vs) [
      | None ↦ λ t. absurd (cc)
      | Some v ↦ elim (copies_after change v.copies) as (λ r. on_ok (λ copies. with_copies k copies vs) r ≡ Ok xs → listed_at n p xs ≡ listed_at n p vs) [
        | Ok copies ↦ λ t. let same : with_copies k copies vs ≡ xs = cc in ap (listed_at n p) (sym same) ∙ listed-with_copies n p k copies vs
        | Err e ↦ λ t. absurd (cc)
      ]
    ] h

-- without the object's version one place fewer is listed
pub listed-without_object : (n : ℕ) (p : List ℕ) (k : ℕ) (vs : List Version) → are_distinct vs ≡ true → has_object k vs ≡ true → Splices ((k, record { filespace = n; path = p }) ∷ []) [] (listed_at n p vs) (listed_at n p (without_object k vs))
listed-without_object n p k [] d h = absurd (false≢true h)
listed-without_object n p k (v ∷ vs) d h =
    let place : Place = record { filespace = n; path = p } in
    let ds : (are_of_others v.object vs ≡ true) × (are_distinct vs ≡ true) = and_parts (are_of_others v.object vs) (are_distinct vs) d in
    elim (eqb v.object k) as (λ b. eqb v.object k ≡ b → (b || has_object k vs) ≡ true → Splices ((k, place) ∷ []) [] (listed_at n p (v ∷ vs)) (listed_at n p (cond (not b) (v ∷ without_object k vs) (without_object k vs)))) [
      | true ↦ λ e _.
          let named : v.object ≡ k = eqb-true v.object k e in
          record {
            before = [];
            after = listed_at n p vs;
            was = ap (λ m. (m, place) ∷ listed_at n p vs) named;
            becomes = ap (listed_at n p) (without_object-others k vs (ap (λ m. has_object m vs) (sym named) ∙ none_of_others v.object vs ds.0));
          }
      | false ↦ λ _ t. splice_behind ((v.object, place) ∷ []) (listed-without_object n p k vs ds.1 t)
    ] refl h

-- ---- one path
one_more : (n : ℕ) (p : List ℕ) (v : Version) (vs : List Version) → Splices [] ((v.object, record { filespace = n; path = p }) ∷ []) (listed_at n p vs) (listed_at n p (v ∷ superseded v.stored vs))
one_more n p v vs = record {
  before = [];
  after = listed_at n p vs;
  was = refl;
  becomes = ap (λ t. (v.object, record { filespace = n; path = p }) ∷ t) (listed-superseded n p v.stored vs);
}

pub put_in : (n : ℕ) (path class : List ℕ) (v : Version) (groups : List (List ℕ × Group)) → AreByPath groups → Splices [] ((v.object, record { filespace = n; path = path }) ∷ []) (listed_in n groups) (listed_in n (groups_with path class v groups))
put_in n path class v groups sorted =
    let place : Place = record { filespace = n; path = path } in
    elim (grouped.group_at path groups) as (λ o. grouped.group_at path groups ≡ o → Splices [] ((v.object, place) ∷ []) (listed_in n groups) (listed_in n (insert_entry (slice_cmp nat_cmp) groups path (group_with class v o)))) [
      | None ↦ λ none. splice_new (λ (p : List ℕ) (g : Group). listed_at n p g.versions) (slice_cmp nat_cmp) path (group_with class v None) groups none
      | Some g ↦ λ there.
          let g' : Group = group_with class v (Some g) in
          let w : (k : List ℕ) × (at_path path k ≡ true) × Splices (listed_at n k g.versions) (listed_at n k g'.versions) (listed_in n groups) (listed_in n (set_value (at_path path) groups g')) =
          splice_set (λ (p : List ℕ) (x : Group). listed_at n p x.versions) (at_path path) groups g g' there in
          subst (λ (t : List (List ℕ × Group)). Splices [] ((v.object, place) ∷ []) (listed_in n groups) (listed_in n t)) (sym (insert_present nat_list_cmp_total path g' g groups sorted there))
          (subst (λ (p : List ℕ). Splices [] ((v.object, record { filespace = n; path = p }) ∷ []) (listed_in n groups) (listed_in n (set_value (at_path path) groups g'))) (sym (same_path path w.0 w.1))
          (splice_in (one_more n w.0 v g.versions) w.2))
    ] refl

nil : (vs : List Version) → is_empty vs ≡ true → vs ≡ []
nil [] h = refl
nil (v ∷ vs) h = absurd (false≢true h)

settled : (n : ℕ) (path : List ℕ) (es : List (List ℕ × Group)) → listed_in n (without_empty path es) ≡ listed_in n es
settled n path es =
    elim (grouped.group_at path es) as (λ o. grouped.group_at path es ≡ o → listed_in n (cond (is_empty (grouped.versions_in o)) (remove_entry (at_path path) es) es) ≡ listed_in n es) [
      | None ↦ λ none. ap (listed_in n) (remove_entry-absent (at_path path) es none)
      | Some g ↦ λ there.
          elim (is_empty g.versions) as (λ b. is_empty g.versions ≡ b → listed_in n (cond b (remove_entry (at_path path) es) es) ≡ listed_in n es) [
            | true ↦ λ none. flatten-remove_entry (λ (p : List ℕ) (x : Group). listed_at n p x.versions) (at_path path) es g there (λ p. ap (listed_at n p) (nil g.versions none))
            | false ↦ λ _. refl
          ] refl
    ] refl

pub change_in : (n : ℕ) (path : List ℕ) (change : GroupChange) (groups new : List (List ℕ × Group)) → groups_after path change groups ≡ Ok new
    → Splices (listed_at n path (grouped.versions_at path groups)) (listed_at n path (versions_after change (grouped.versions_at path groups))) (listed_in n groups) (listed_in n new)
change_in n path change groups new h =
    let w : AfterIs path change groups new = after-is path change groups new h in
    let g : Group = record { class = class_after change w.0.class; versions = versions_after change w.0.versions } in
    let s : (k : List ℕ) × (at_path path k ≡ true) × Splices (listed_at n k w.0.versions) (listed_at n k g.versions) (listed_in n groups) (listed_in n (set_value (at_path path) groups g)) =
    splice_set (λ (p : List ℕ) (x : Group). listed_at n p x.versions) (at_path path) groups w.0 g w.1 in
    let same : listed_in n (set_value (at_path path) groups g) ≡ listed_in n new = sym (settled n path (set_value (at_path path) groups g)) ∙ ap (listed_in n) w.3 in
    subst (λ (o : Option Group). Splices (listed_at n path (grouped.versions_in o)) (listed_at n path (versions_after change (grouped.versions_in o))) (listed_in n groups) (listed_in n new)) (sym w.1)
    (subst (λ (p : List ℕ). Splices (listed_at n p w.0.versions) (listed_at n p g.versions) (listed_in n groups) (listed_in n new)) (sym (same_path path s.0 s.1))
    (subst (λ (t : List (ℕ × Place)). Splices (listed_at n s.0 w.0.versions) (listed_at n s.0 g.versions) (listed_in n groups) t) same s.2))

pub alter_in : (n : ℕ) (path : List ℕ) (k : ℕ) (change : CopyChange) (groups new : List (List ℕ × Group)) → groups_altered path k change groups ≡ Ok new → listed_in n new ≡ listed_in n groups
alter_in n path k change groups new h =
    elim (grouped.group_at path groups) as (λ o. grouped.group_at path groups ≡ o → if_found o (λ g. on_ok (set_value (at_path path) groups) (group_altered k change g)) ≡ Ok new → listed_in n new ≡ listed_in n groups) [
      | None ↦ λ _ t. absurd (cc)
      | Some g ↦ λ there.
          elim (versions_altered k change g.versions) as (λ r. versions_altered k change g.versions ≡ r → on_ok (set_value (at_path path) groups) (on_ok (λ versions. record g { versions = versions }) r) ≡ Ok new → listed_in n new ≡ listed_in n groups) [
            | Ok vs ↦ λ said t.
                let g' : Group = record g { versions = vs } in
                let same : set_value (at_path path) groups g' ≡ new = cc in
                let s : (p : List ℕ) × (at_path path p ≡ true) × Splices (listed_at n p g.versions) (listed_at n p vs) (listed_in n groups) (listed_in n (set_value (at_path path) groups g')) =
                splice_set (λ (p : List ℕ) (x : Group). listed_at n p x.versions) (at_path path) groups g g' there in
                ap (listed_in n) (sym same)
                ∙ splice_same (subst (λ (t : List (ℕ × Place)). Splices (listed_at n s.0 g.versions) t (listed_in n groups) (listed_in n (set_value (at_path path) groups g'))) (listed-altered n s.0 k change g.versions vs said) s.2)
            | Err e ↦ λ _ t. absurd (cc)
          ] refl
    ] refl h

-- ---- one filespace
pub record Within (n : ℕ) (by : List (List ℕ × Group) → Result (List (List ℕ × Group)) Refusal) (fs new : List (ℕ × Filespace)) : Type 0 where
  pub filespace : Filespace
  pub there : filespace_at n fs ≡ Some filespace
  pub groups : List (List ℕ × Group)
  pub after : by filespace.groups ≡ Ok groups
  pub becomes : set_value (at_number n) fs (record filespace { groups = groups }) ≡ new

pub within : (n : ℕ) (by : List (List ℕ × Group) → Result (List (List ℕ × Group)) Refusal) (fs new : List (ℕ × Filespace)) → in_filespace n by fs ≡ Ok new → Within n by fs new
within n by fs new h =
    elim (filespace_at n fs) as (λ o. filespace_at n fs ≡ o → if_found o (λ f. on_ok (set_value (at_number n) fs) (filespace_after by f)) ≡ Ok new → Within n by fs new) [
      | None ↦ λ _ t. absurd (cc)
      | Some f ↦ λ there.
          elim (by f.groups) as (λ r. by f.groups ≡ r → on_ok (set_value (at_number n) fs) (on_ok (λ groups. record f { groups = groups }) r) ≡ Ok new → Within n by fs new) [
            | Ok groups ↦ λ after t. record { filespace = f; there = there; groups = groups; after = after; becomes = let same : set_value (at_number n) fs (record f { groups = groups }) ≡ new = cc in same }
            | Err e ↦ λ _ t. absurd (cc)
          ] refl
    ] refl h

pub keys-within : (n : ℕ) (by : List (List ℕ × Group) → Result (List (List ℕ × Group)) Refusal) (fs new : List (ℕ × Filespace)) → Within n by fs new → keys_of new ≡ keys_of fs
keys-within n by fs new w = ap keys_of (sym w.becomes) ∙ keys-set_value (at_number n) fs (record w.filespace { groups = w.groups })

-- the list of places in one filespace, and that in all
pub listed-within : (n : ℕ) (by : List (List ℕ × Group) → Result (List (List ℕ × Group)) Refusal) (fs new : List (ℕ × Filespace)) (w : Within n by fs new) → Splices (listed_in n w.filespace.groups) (listed_in n w.groups) (listed fs) (listed new)
listed-within n by fs new w =
    let f : Filespace = record w.filespace { groups = w.groups } in
    let s : (m : ℕ) × (at_number n m ≡ true) × Splices (listed_in m w.filespace.groups) (listed_in m w.groups) (listed fs) (listed (set_value (at_number n) fs f)) =
    splice_set (λ (m : ℕ) (x : Filespace). listed_in m x.groups) (at_number n) fs w.filespace f w.there in
    subst (λ (t : List (ℕ × Filespace)). Splices (listed_in n w.filespace.groups) (listed_in n w.groups) (listed fs) (listed t)) w.becomes
    (subst (λ (m : ℕ). Splices (listed_in m w.filespace.groups) (listed_in m w.groups) (listed fs) (listed (set_value (at_number n) fs f))) (sym (same_number n s.0 s.1)) s.2)

pub orderly_at : (n : ℕ) (fs : List (ℕ × Filespace)) (f : Filespace) → AreAllOrderly fs → filespace_at n fs ≡ Some f → AreOrderly f.groups
orderly_at n [] f a h = absurd (cc)
orderly_at n (e ∷ fs) f a h =
    elim (at_number n e.0) as (λ b. cond b (Some e.1) (filespace_at n fs) ≡ Some f → AreOrderly f.groups) [
      | true ↦ λ t. let same : e.1 ≡ f = cc in subst (λ (x : Filespace). AreOrderly x.groups) same a.0
      | false ↦ λ t. orderly_at n fs f a.1 t
    ] h

pub orderly-set : (n : ℕ) (fs : List (ℕ × Filespace)) (f : Filespace) → AreAllOrderly fs → AreOrderly f.groups → AreAllOrderly (set_value (at_number n) fs f)
orderly-set n [] f a h = a
orderly-set n (e ∷ fs) f a h =
    elim (at_number n e.0) as (λ b. AreAllOrderly (cond b ((e.0, f) ∷ fs) (e ∷ set_value (at_number n) fs f))) [
      | true ↦ (h, a.1)
      | false ↦ (a.0, orderly-set n fs f a.1 h)
    ]

-- ---- all filespaces
pub put_of : (n : ℕ) (path class : List ℕ) (v : Version) (fs new : List (ℕ × Filespace)) → AreAllOrderly fs → filespaces_with n path class v fs ≡ Ok new
    → Splices [] ((v.object, record { filespace = n; path = path }) ∷ []) (listed fs) (listed new)
put_of n path class v fs new orderly h =
    let by : List (List ℕ × Group) → Result (List (List ℕ × Group)) Refusal = λ groups. Ok (groups_with path class v groups) in
    let w : Within n by fs new = within n by fs new h in
    let after : by w.filespace.groups ≡ Ok w.groups = w.after in
    let same : groups_with path class v w.filespace.groups ≡ w.groups = cc in
    splice_in (subst (λ (t : List (List ℕ × Group)). Splices [] ((v.object, record { filespace = n; path = path }) ∷ []) (listed_in n w.filespace.groups) (listed_in n t)) same
    (put_in n path class v w.filespace.groups (orderly_at n fs w.filespace orderly w.there).0))
    (listed-within n by fs new w)

pub change_of : (n : ℕ) (path : List ℕ) (change : GroupChange) (fs new : List (ℕ × Filespace)) → filespaces_after n path change fs ≡ Ok new
    → Splices (listed_at n path (versions_at n path fs)) (listed_at n path (versions_after change (versions_at n path fs))) (listed fs) (listed new)
change_of n path change fs new h =
    let w : Within n (groups_after path change) fs new = within n (groups_after path change) fs new h in
    subst (λ (o : Option Filespace). Splices (listed_at n path (grouped.versions_at path (groups_in o))) (listed_at n path (versions_after change (grouped.versions_at path (groups_in o)))) (listed fs) (listed new)) (sym w.there)
    (splice_in (change_in n path change w.filespace.groups w.groups w.after) (listed-within n (groups_after path change) fs new w))

-- a change that isn't refused names an object of the path
pub named_in : (n : ℕ) (path : List ℕ) (change : GroupChange) (fs new : List (ℕ × Filespace)) → filespaces_after n path change fs ≡ Ok new → names_kept change (versions_at n path fs) ≡ true
named_in n path change fs new h =
    let w : Within n (groups_after path change) fs new = within n (groups_after path change) fs new h in
    let a : AfterIs path change w.filespace.groups w.groups = after-is path change w.filespace.groups w.groups w.after in
    ap (λ (o : Option Filespace). names_kept change (grouped.versions_at path (groups_in o))) w.there ∙ ap (λ (o : Option Group). names_kept change (grouped.versions_in o)) a.1 ∙ a.2

pub alter_of : (n : ℕ) (path : List ℕ) (k : ℕ) (change : CopyChange) (fs new : List (ℕ × Filespace)) → filespaces_altered_at n path k change fs ≡ Ok new → listed new ≡ listed fs
alter_of n path k change fs new h =
    let w : Within n (groups_altered path k change) fs new = within n (groups_altered path k change) fs new h in
    splice_same (subst (λ (t : List (ℕ × Place)). Splices (listed_in n w.filespace.groups) t (listed fs) (listed new)) (alter_in n path k change w.filespace.groups w.groups w.after) (listed-within n (groups_altered path k change) fs new w))

-- a path's versions are some of all versions
versions-of_path : (path : List ℕ) (groups : List (List ℕ × Group)) → Splices (grouped.versions_at path groups) (grouped.versions_at path groups) (versions_in groups) (versions_in groups)
versions-of_path path groups =
    elim (grouped.group_at path groups) as (λ o. grouped.group_at path groups ≡ o → Splices (grouped.versions_in o) (grouped.versions_in o) (versions_in groups) (versions_in groups)) [
      | None ↦ λ _. record { before = []; after = versions_in groups; was = refl; becomes = refl }
      | Some g ↦ λ there.
          let s : (p : List ℕ) × (at_path path p ≡ true) × Splices g.versions g.versions (versions_in groups) (versions_in (set_value (at_path path) groups g)) =
          splice_set (λ (p : List ℕ) (x : Group). x.versions) (at_path path) groups g g there in
          record { before = s.2.before; after = s.2.after; was = s.2.was; becomes = s.2.was }
    ] refl

pub versions-within : (n : ℕ) (path : List ℕ) (fs : List (ℕ × Filespace)) → Splices (versions_at n path fs) (versions_at n path fs) (versions_of fs) (versions_of fs)
versions-within n path fs =
    elim (filespace_at n fs) as (λ o. filespace_at n fs ≡ o → Splices (grouped.versions_at path (groups_in o)) (grouped.versions_at path (groups_in o)) (versions_of fs) (versions_of fs)) [
      | None ↦ λ _. record { before = []; after = versions_of fs; was = refl; becomes = refl }
      | Some f ↦ λ there.
          let s : (m : ℕ) × (at_number n m ≡ true) × Splices (versions_in f.groups) (versions_in f.groups) (versions_of fs) (versions_of (set_value (at_number n) fs f)) =
          splice_set (λ (m : ℕ) (x : Filespace). versions_in x.groups) (at_number n) fs f f there in
          splice_in (versions-of_path path f.groups) (record { before = s.2.before; after = s.2.after; was = s.2.was; becomes = s.2.was })
    ] refl
