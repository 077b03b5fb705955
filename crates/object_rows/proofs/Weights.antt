-- What the changes of a path weigh.
use Rattle.std.proofs.Common.{◌≡◌, ◌⊎◌, ℕ, ◌+◌, Bool, true, false, cond, eqb, not, ◌||◌, List, [], ◌∷◌, ◌++◌, Option, Some, None, Result, Ok, Err, refl, sym, ap, subst, ◌∙◌, ⊎_elim, arith}
use Rattle.std.proofs.lemmas.Bool.{false≢true, and_parts, eq-eqb, eqb-true, not-true}
use Rattle.std.proofs.lemmas.List.Sums.{sum_by-cons}
use Rattle.std.proofs.lemmas.Map.{keys-set_value, lookup-remove_entry}
use Rattle.std.proofs.lemmas.Map.Entries.{sum_by-insert_entry, sum_by-set_value, sum_by-remove_entry}
use Rattle.std.proofs.lemmas.Map.Keys.{IsDistinct-from_sorted}
use Rattle.std.specs.BTreeMap.{insert_entry}
use Rattle.std.specs.Cmp.{eq_by_cmp_equiv, nat_cmp_total}
use Rattle.std.specs.Cmp.Lexicographic.{slice_cmp, nat_list_cmp_total}
use Rattle.std.specs.List.Sorted.{IsStrictlySortedBy}
use Rattle.std.specs.Map.{keys_of, remove_entry, set_value}
use Rattle.std.specs.Option.{option_map, unwrap_or}
use Rattle.std.specs.Ordering.{eq_by_cmp, nat_cmp}
use Rattle.version_groups.specs.kinds.declared.refusal.Refusal.{Refusal}
use Rattle.version_groups.specs.declared.copies.CopyChange.{CopyChange}
use Rattle.version_groups.specs.declared.copies.CopyRow.{CopyRow}
use Rattle.version_groups.specs.declared.group.Group.{Group}
use Rattle.version_groups.specs.declared.group.GroupChange.{GroupChange}
use Rattle.version_groups.specs.declared.group.GroupChange.TheVariants.{Gone, Rebind}
use Rattle.version_groups.specs.declared.groups.Filespace.{Filespace}
use Rattle.version_groups.specs.declared.versions.Version.{Version}
use Rattle.version_groups.specs.Copies.{copies_after}
use Rattle.version_groups.specs.Entries.{on_ok, if_found}
use Rattle.version_groups.specs.Groups as grouped
use Rattle.version_groups.specs.Groups.{AreByPath, at_path, class_after, group_altered, group_with, groups_after, groups_altered, groups_with, versions_after}
use Rattle.version_groups.specs.Versions.{are_distinct, has_active, has_object, is_empty, retired, revived, superseded, undone, version_of, with_copies, without_object}
use Rattle.version_groups.proofs.Laws.{AfterIs, after-is}
use Rattle.version_groups.proofs.Lists.{are_of_others, version_of-none}
use Rattle.version_groups.proofs.Maps.{insert_present, lookup-new, lookup-set}
use Rattle.object_rows.specs.Filespaces.{at_number, filespace_at, filespaces_after, filespaces_altered_at, filespaces_with, groups_in, versions_at, versions_in}
use Rattle.object_rows.specs.Changes.{least_object}
use Rattle.object_rows.specs.Places.{AreAllOrderly, are_full}
use Rattle.object_rows.specs.Rows.{NewestIs}
use Rattle.object_rows.specs.Tally.{Exchanges, ExchangesAt, WeighsTheSame, weigh, weigh_at, weigh_filespaces, weigh_found, weigh_group, weigh_groups}
use Rattle.object_rows.proofs.Full.{all-lookup}
use Rattle.object_rows.proofs.Least.{least_of_none}
use Rattle.object_rows.proofs.Stands.{path_itself}
use Rattle.object_rows.proofs.Steps.{Within, orderly_at, within}
use Rattle.object_rows.proofs.VersionLists.{none_of_others, with_copies-others, without_object-others}

-- ---- some versions

pub weigh-cons : (of : List CopyRow → ℕ) (v : Version) (vs : List Version) → weigh of (v ∷ vs) ≡ of v.copies + weigh of vs
weigh-cons of v vs = sum_by-cons (λ (w : Version). of w.copies) v vs

weigh-retired : (of : List CopyRow → ℕ) (day : ℕ) (vs : List Version) → weigh of (retired day vs) ≡ weigh of vs
weigh-retired of day [] = refl
weigh-retired of day (v ∷ vs) = weigh-cons of (record v { since = Some day }) vs ∙ sym (weigh-cons of v vs)

weigh-revived : (of : List CopyRow → ℕ) (vs : List Version) → weigh of (revived vs) ≡ weigh of vs
weigh-revived of [] = refl
weigh-revived of (v ∷ vs) = weigh-cons of (record v { since = None }) vs ∙ sym (weigh-cons of v vs)

weigh-superseded : (of : List CopyRow → ℕ) (day : ℕ) (vs : List Version) → weigh of (superseded day vs) ≡ weigh of vs
weigh-superseded of day vs = go (has_active vs) where
  go : (b : Bool) → weigh of (cond b (retired day vs) vs) ≡ weigh of vs
  go true = weigh-retired of day vs
  go false = refl

none_weighs : (of : List CopyRow → ℕ) (o : Option Version) → o ≡ None → weigh_found of o ≡ 0
none_weighs of o h = ap (weigh_found of) h

-- a new version is put in front
pub exchange_put : (v : Version) (day : ℕ) (vs : List Version) → has_object v.object vs ≡ false → Exchanges v.object vs (v ∷ superseded day vs)
exchange_put v day vs new of =
    let before : weigh_found of (version_of v.object vs) ≡ 0 = none_weighs of (version_of v.object vs) (version_of-none v.object vs new) in
    let behind : weigh_found of (version_of v.object (v ∷ superseded day vs)) ≡ of v.copies = ap (λ b. weigh_found of (cond b (Some v) (version_of v.object (superseded day vs)))) (eq-eqb v.object v.object refl) in
    let all : weigh of (v ∷ superseded day vs) ≡ of v.copies + weigh of (superseded day vs) = weigh-cons of v (superseded day vs) in
    let same : weigh of (superseded day vs) ≡ weigh of vs = weigh-superseded of day vs in
    omega arith

none_left : (k : ℕ) (vs : List Version) → has_object k (without_object k vs) ≡ false
none_left k [] = refl
none_left k (v ∷ vs) =
    elim (eqb v.object k) as (λ b. eqb v.object k ≡ b → has_object k (cond (not b) (v ∷ without_object k vs) (without_object k vs)) ≡ false) [
      | true ↦ λ _. none_left k vs
      | false ↦ λ other. ap (λ b. b || has_object k (without_object k vs)) other ∙ none_left k vs
    ] refl

weigh-without : (of : List CopyRow → ℕ) (k : ℕ) (vs : List Version) → are_distinct vs ≡ true → weigh of (without_object k vs) + weigh_found of (version_of k vs) ≡ weigh of vs
weigh-without of k [] d = refl
weigh-without of k (v ∷ vs) d =
    let ds : (are_of_others v.object vs ≡ true) × (are_distinct vs ≡ true) = and_parts (are_of_others v.object vs) (are_distinct vs) d in
    let all : weigh of (v ∷ vs) ≡ of v.copies + weigh of vs = weigh-cons of v vs in
    elim (eqb v.object k) as (λ b. eqb v.object k ≡ b → weigh of (cond (not b) (v ∷ without_object k vs) (without_object k vs)) + weigh_found of (cond b (Some v) (version_of k vs)) ≡ weigh of (v ∷ vs)) [
      | true ↦ λ named.
          let stay : without_object k vs ≡ vs = without_object-others k vs (ap (λ m. has_object m vs) (sym (eqb-true v.object k named)) ∙ none_of_others v.object vs ds.0) in
          let same : weigh of (without_object k vs) ≡ weigh of vs = ap (weigh of) stay in
          omega arith
      | false ↦ λ _.
          let fewer : weigh of (v ∷ without_object k vs) ≡ of v.copies + weigh of (without_object k vs) = weigh-cons of v (without_object k vs) in
          let rest : weigh of (without_object k vs) + weigh_found of (version_of k vs) ≡ weigh of vs = weigh-without of k vs ds.1 in
          omega arith
    ] refl

-- the object's version goes
pub exchange_remove : (k : ℕ) (vs : List Version) → are_distinct vs ≡ true → Exchanges k vs (without_object k vs)
exchange_remove k vs d of =
    let none : weigh_found of (version_of k (without_object k vs)) ≡ 0 = none_weighs of (version_of k (without_object k vs)) (version_of-none k (without_object k vs) (none_left k vs)) in
    let all : weigh of (without_object k vs) + weigh_found of (version_of k vs) ≡ weigh of vs = weigh-without of k vs d in
    omega arith

has-revived : (k : ℕ) (vs : List Version) → has_object k (revived vs) ≡ has_object k vs
has-revived k [] = refl
has-revived k (v ∷ vs) = refl

-- the newest version goes
pub exchange_undo : (k : ℕ) (active : Bool) (vs : List Version) → are_distinct vs ≡ true → NewestIs (Some k) vs → Exchanges k vs (undone active vs)
exchange_undo k active vs d w of =
    subst (λ (ws : List Version). weigh of (undone active ws) + weigh_found of (version_of k ws) ≡ weigh of ws + weigh_found of (version_of k (undone active ws))) (sym w.2)
    (go active)
  where
    v : Version
    v = w.0

    older : List Version
    older = w.1

    others : has_object k older ≡ false
    others =
        let ds : (are_of_others v.object older ≡ true) × (are_distinct older ≡ true) = and_parts (are_of_others v.object older) (are_distinct older) (ap are_distinct (sym w.2) ∙ d) in
        ap (λ m. has_object m older) (sym w.3) ∙ none_of_others v.object older ds.0

    all : weigh of (v ∷ older) ≡ of v.copies + weigh of older
    all = weigh-cons of v older

    found : weigh_found of (version_of k (v ∷ older)) ≡ of v.copies
    found = ap (λ b. weigh_found of (cond b (Some v) (version_of k older))) (eq-eqb v.object k w.3)

    go : (b : Bool) → weigh of (cond b (revived older) older) + weigh_found of (version_of k (v ∷ older)) ≡ weigh of (v ∷ older) + weigh_found of (version_of k (cond b (revived older) older))
    go true =
        let same : weigh of (revived older) ≡ weigh of older = weigh-revived of older in
        let none : weigh_found of (version_of k (revived older)) ≡ 0 = none_weighs of (version_of k (revived older)) (version_of-none k (revived older) (has-revived k older ∙ others)) in
        omega (arith, all, found)
    go false =
        let none : weigh_found of (version_of k older) ≡ 0 = none_weighs of (version_of k older) (version_of-none k older others) in
        omega (arith, all, found)

-- the object's version, where there is one, has other copies
pub exchange_alter : (k : ℕ) (copies : List CopyRow) (vs : List Version) → are_distinct vs ≡ true → Exchanges k vs (with_copies k copies vs)
exchange_alter k copies [] d of = refl
exchange_alter k copies (v ∷ vs) d of =
    let ds : (are_of_others v.object vs ≡ true) × (are_distinct vs ≡ true) = and_parts (are_of_others v.object vs) (are_distinct vs) d in
    let all : weigh of (v ∷ vs) ≡ of v.copies + weigh of vs = weigh-cons of v vs in
    elim (eqb v.object k) as (λ b. eqb v.object k ≡ b → weigh of (cond {A = Version} b (record v { copies = copies }) v ∷ with_copies k copies vs) + weigh_found of (cond b (Some v) (version_of k vs))
    ≡ weigh of (v ∷ vs) + weigh_found of (version_of k (cond {A = Version} b (record v { copies = copies }) v ∷ with_copies k copies vs))) [
      | true ↦ λ named.
          let others : has_object k vs ≡ false = ap (λ m. has_object m vs) (sym (eqb-true v.object k named)) ∙ none_of_others v.object vs ds.0 in
          let same : weigh of (with_copies k copies vs) ≡ weigh of vs = ap (weigh of) (with_copies-others k copies vs others) in
          let more : weigh of (record v { copies = copies } ∷ with_copies k copies vs) ≡ of copies + weigh of (with_copies k copies vs) = weigh-cons of (record v { copies = copies }) (with_copies k copies vs) in
          let found : weigh_found of (version_of k (record v { copies = copies } ∷ with_copies k copies vs)) ≡ of copies = ap (λ b. weigh_found of (cond {A = Option Version} b (Some (record v { copies = copies })) (version_of k (with_copies k copies vs)))) named in
          omega arith
      | false ↦ λ other.
          let more : weigh of (v ∷ with_copies k copies vs) ≡ of v.copies + weigh of (with_copies k copies vs) = weigh-cons of v (with_copies k copies vs) in
          let found : weigh_found of (version_of k (v ∷ with_copies k copies vs)) ≡ weigh_found of (version_of k (with_copies k copies vs)) = ap (λ b. weigh_found of (cond b (Some v) (version_of k (with_copies k copies vs)))) other in
          let rest : weigh of (with_copies k copies vs) + weigh_found of (version_of k vs) ≡ weigh of vs + weigh_found of (version_of k (with_copies k copies vs)) = exchange_alter k copies vs ds.1 of in
          omega arith
    ] refl

-- ---- the groups of a filespace

-- a group that was looked for
abbrev weigh_group_found : ℕ → (List CopyRow → ℕ) → Option Group → ℕ
weigh_group_found one of o = unwrap_or (option_map (weigh_group one of) o) 0

abbrev one_there : ℕ → Option Group → ℕ
one_there one None = 0
one_there one (Some g) = one

split_group : (one : ℕ) (of : List CopyRow → ℕ) (o : Option Group) → weigh_group_found one of o ≡ one_there one o + weigh of (grouped.versions_in o)
split_group one of None = refl
split_group one of (Some g) = refl

split_at : (one : ℕ) (of : List CopyRow → ℕ) (k : ℕ) (o : Option Group) → weigh_at one of k o ≡ one_there one o + weigh_found of (version_of k (grouped.versions_in o))
split_at one of k None = refl
split_at one of k (Some g) = refl

sums : (new old was now there here a b x y : ℕ) → new + was ≡ old + now → was ≡ there + a → now ≡ here + b → b + x ≡ a + y → new + (there + x) ≡ old + (here + y)
sums new old was now there here a b x y h i j e = omega (arith, h, i, j, e)

-- what one path's groups weigh decides what all do
abbrev pub GroupChanges : List ℕ → List (List ℕ × Group) → List (List ℕ × Group) → Type 0
GroupChanges path old new = (one : ℕ) (of : List CopyRow → ℕ) → weigh_groups one of new + weigh_group_found one of (grouped.group_at path old) ≡ weigh_groups one of old + weigh_group_found one of (grouped.group_at path new)

-- a change of one path's group, where none of its versions but the object's comes, goes or changes its weight
pub record InGroups (k : ℕ) (path : List ℕ) (old new : List (List ℕ × Group)) : Type 0 where
  pub groups : GroupChanges path old new
  pub versions : Exchanges k (grouped.versions_at path old) (grouped.versions_at path new)

pub in_groups : (k : ℕ) (path : List ℕ) (old new : List (List ℕ × Group)) → InGroups k path old new → (one : ℕ) (of : List CopyRow → ℕ)
    → weigh_groups one of new + weigh_at one of k (grouped.group_at path old) ≡ weigh_groups one of old + weigh_at one of k (grouped.group_at path new)
in_groups k path old new c one of =
    let was : Option Group = grouped.group_at path old in
    let now : Option Group = grouped.group_at path new in
    ap (λ n. weigh_groups one of new + n) (split_at one of k was)
    ∙ sums (weigh_groups one of new) (weigh_groups one of old) (weigh_group_found one of was) (weigh_group_found one of now) (one_there one was) (one_there one now) (weigh of (grouped.versions_in was)) (weigh of (grouped.versions_in now))
    (weigh_found of (version_of k (grouped.versions_in was))) (weigh_found of (version_of k (grouped.versions_in now))) (c.groups one of) (split_group one of was) (split_group one of now) (c.versions of)
    ∙ ap (λ n. weigh_groups one of old + n) (sym (split_at one of k now))

put-there : (path : List ℕ) (g : Group) (groups : List (List ℕ × Group)) → AreByPath groups → grouped.group_at path (insert_entry (slice_cmp nat_cmp) groups path g) ≡ Some g
put-there path g groups sorted =
    elim (grouped.group_at path groups) as (λ o. grouped.group_at path groups ≡ o → grouped.group_at path (insert_entry (slice_cmp nat_cmp) groups path g) ≡ Some g) [
      | None ↦ λ none. lookup-new nat_list_cmp_total path g groups none
      | Some x ↦ λ there. ap (grouped.group_at path) (insert_present nat_list_cmp_total path g x groups sorted there) ∙ lookup-set (at_path path) x g groups there
    ] refl

versions-put : (class : List ℕ) (v : Version) (o : Option Group) → (group_with class v o).versions ≡ v ∷ superseded v.stored (grouped.versions_in o)
versions-put class v None = refl
versions-put class v (Some g) = refl

pub put_groups : (path class : List ℕ) (v : Version) (groups : List (List ℕ × Group)) → AreByPath groups → has_object v.object (grouped.versions_at path groups) ≡ false → InGroups v.object path groups (groups_with path class v groups)
put_groups path class v groups sorted new =
    let g : Group = group_with class v (grouped.group_at path groups) in
    let there : grouped.group_at path (groups_with path class v groups) ≡ Some g = put-there path g groups sorted in
    record {
      groups = λ one of.
          sum_by-insert_entry (weigh_group one of) nat_list_cmp_total groups path g sorted ∙ ap (λ o. weigh_groups one of groups + weigh_group_found one of o) (sym there);
      versions = subst (Exchanges v.object (grouped.versions_at path groups)) (sym (ap grouped.versions_in there ∙ versions-put class v (grouped.group_at path groups))) (exchange_put v v.stored (grouped.versions_at path groups) new);
    }

-- the path's group becomes another one
set_groups : (k : ℕ) (path : List ℕ) (g new : Group) (groups : List (List ℕ × Group)) → grouped.group_at path groups ≡ Some g → Exchanges k g.versions new.versions → InGroups k path groups (set_value (at_path path) groups new)
set_groups k path g new groups there e =
    let now : grouped.group_at path (set_value (at_path path) groups new) ≡ Some new = lookup-set (at_path path) g new groups there in
    record {
      groups = λ one of.
          ap (λ o. weigh_groups one of (set_value (at_path path) groups new) + weigh_group_found one of o) there
          ∙ sum_by-set_value (weigh_group one of) (at_path path) groups g new there
          ∙ ap (λ o. weigh_groups one of groups + weigh_group_found one of o) (sym now);
      versions = subst (λ (o : Option Group). Exchanges k (grouped.versions_in o) (grouped.versions_at path (set_value (at_path path) groups new))) (sym there)
          (subst (λ (o : Option Group). Exchanges k g.versions (grouped.versions_in o)) (sym now) e);
    }

one_path : (p x y : List ℕ) → at_path p x ≡ true → at_path p y ≡ eq_by_cmp (slice_cmp nat_cmp) x y
one_path p x y h = (eq_by_cmp_equiv nat_list_cmp_total).congr p x y h

removed : (path : List ℕ) (groups : List (List ℕ × Group)) → AreByPath groups → grouped.group_at path (remove_entry (at_path path) groups) ≡ None
removed path groups sorted =
    lookup-remove_entry (eq_by_cmp_equiv nat_list_cmp_total) (at_path path) (one_path path) path groups (IsDistinct-from_sorted (slice_cmp nat_cmp) (keys_of groups) sorted)
    ∙ ap (λ b. cond b None (grouped.group_at path groups)) (path_itself path)

nil : (vs : List Version) → is_empty vs ≡ true → vs ≡ []
nil [] h = refl
nil (v ∷ vs) h = absurd (false≢true h)

gone_sums : (a b c d e : ℕ) → a + b ≡ c → c + d ≡ e + b → a + d ≡ e + 0
gone_sums a b c d e h i = omega (arith, h, i)

-- the path's group is left without versions, and goes
gone_groups : (k : ℕ) (path : List ℕ) (g new : Group) (groups : List (List ℕ × Group)) → AreByPath groups → grouped.group_at path groups ≡ Some g → Exchanges k g.versions new.versions → is_empty new.versions ≡ true
    → InGroups k path groups (remove_entry (at_path path) (set_value (at_path path) groups new))
gone_groups k path g new groups sorted there e empty =
    let es : List (List ℕ × Group) = set_value (at_path path) groups new in
    let in_order : AreByPath es = subst (IsStrictlySortedBy (slice_cmp nat_cmp)) (sym (keys-set_value (at_path path) groups new)) sorted in
    let none : grouped.group_at path (remove_entry (at_path path) es) ≡ None = removed path es in_order in
    let now : grouped.group_at path es ≡ Some new = lookup-set (at_path path) g new groups there in
    record {
      groups = λ one of.
          ap (λ o. weigh_groups one of (remove_entry (at_path path) es) + weigh_group_found one of o) there
          ∙ gone_sums (weigh_groups one of (remove_entry (at_path path) es)) (weigh_group one of new) (weigh_groups one of es) (weigh_group one of g) (weigh_groups one of groups)
          (ap (λ o. weigh_groups one of (remove_entry (at_path path) es) + weigh_group_found one of o) (sym now) ∙ sum_by-remove_entry (weigh_group one of) (at_path path) es)
          (sum_by-set_value (weigh_group one of) (at_path path) groups g new there)
          ∙ ap (λ o. weigh_groups one of groups + weigh_group_found one of o) (sym none);
      versions = subst (λ (o : Option Group). Exchanges k (grouped.versions_in o) (grouped.versions_at path (remove_entry (at_path path) es))) (sym there)
          (subst (Exchanges k g.versions) (nil new.versions empty ∙ ap grouped.versions_in (sym none)) e);
    }

pub change_groups : (k : ℕ) (path : List ℕ) (change : GroupChange) (groups new : List (List ℕ × Group)) → AreByPath groups → groups_after path change groups ≡ Ok new
    → Exchanges k (grouped.versions_at path groups) (versions_after change (grouped.versions_at path groups)) → InGroups k path groups new
change_groups k path change groups new sorted h e =
    let w : AfterIs path change groups new = after-is path change groups new h in
    let g : Group = record { class = class_after change w.0.class; versions = versions_after change w.0.versions } in
    let es : List (List ℕ × Group) = set_value (at_path path) groups g in
    let now : grouped.group_at path es ≡ Some g = lookup-set (at_path path) w.0 g groups w.1 in
    let x : Exchanges k w.0.versions g.versions = subst (λ (o : Option Group). Exchanges k (grouped.versions_in o) (versions_after change (grouped.versions_in o))) w.1 e in
    subst (InGroups k path groups) (ap (λ (o : Option Group). cond (is_empty (grouped.versions_in o)) (remove_entry (at_path path) es) es) (sym now) ∙ w.3)
    (elim (is_empty g.versions) as (λ b. is_empty g.versions ≡ b → InGroups k path groups (cond b (remove_entry (at_path path) es) es)) [
      | true ↦ λ empty. gone_groups k path w.0 g groups sorted w.1 x empty
      | false ↦ λ _. set_groups k path w.0 g groups w.1 x
    ] refl)

pub alter_groups : (k : ℕ) (path : List ℕ) (change : CopyChange) (groups new : List (List ℕ × Group)) → groups_altered path k change groups ≡ Ok new → are_distinct (grouped.versions_at path groups) ≡ true → InGroups k path groups new
alter_groups k path change groups new h d =
    elim (grouped.group_at path groups) as (λ o. grouped.group_at path groups ≡ o → if_found o (λ g. on_ok (set_value (at_path path) groups) (group_altered k change g)) ≡ Ok new → InGroups k path groups new) [
      | None ↦ λ _ t. absurd (cc)
      | Some g ↦ λ there.
          elim (version_of k g.versions) as (λ o. on_ok (set_value (at_path path) groups) (on_ok (λ versions. record g { versions = versions }) (if_found o (λ v. on_ok (λ copies. with_copies k copies g.versions) (copies_after change v.copies)))) ≡ Ok new → InGroups k path groups new) [
            | None ↦ λ t. absurd (cc)
            | Some v ↦ elim (copies_after change v.copies) as (λ r. on_ok (set_value (at_path path) groups) (on_ok (λ versions. record g { versions = versions }) (on_ok (λ copies. with_copies k copies g.versions) r)) ≡ Ok new → InGroups k path groups new) [
              | Ok copies ↦ λ t.
                  let same : set_value (at_path path) groups (record g { versions = with_copies k copies g.versions }) ≡ new = cc in
                  subst (InGroups k path groups) same
                  (set_groups k path g (record g { versions = with_copies k copies g.versions }) groups there (exchange_alter k copies g.versions (ap (λ (o : Option Group). are_distinct (grouped.versions_in o)) (sym there) ∙ d)))
              | Err e ↦ λ t. absurd (cc)
            ]
          ]
    ] refl h

-- ---- all filespaces

within_sums : (a b c d x y : ℕ) → a + b ≡ c + d → d + x ≡ b + y → a + x ≡ c + y
within_sums a b c d x y h i = omega (arith, h, i)

-- what is done to the groups of one filespace
pub in_filespaces : (k n : ℕ) (path : List ℕ) (by : List (List ℕ × Group) → Result (List (List ℕ × Group)) Refusal) (fs new : List (ℕ × Filespace)) (w : Within n by fs new) → InGroups k path w.filespace.groups w.groups → ExchangesAt n path k fs new
in_filespaces k n path by fs new w c one of =
    let f : Filespace = record w.filespace { groups = w.groups } in
    let now : filespace_at n new ≡ Some f = ap (filespace_at n) (sym w.becomes) ∙ lookup-set (at_number n) w.filespace f fs w.there in
    let all : weigh_filespaces one of new + weigh_groups one of w.filespace.groups ≡ weigh_filespaces one of fs + weigh_groups one of w.groups =
    ap (λ t. weigh_filespaces one of t + weigh_groups one of w.filespace.groups) (sym w.becomes) ∙ sum_by-set_value (λ (x : Filespace). weigh_groups one of x.groups) (at_number n) fs w.filespace f w.there in
    ap (λ (o : Option Filespace). weigh_filespaces one of new + weigh_at one of k (grouped.group_at path (groups_in o))) w.there
    ∙ within_sums (weigh_filespaces one of new) (weigh_groups one of w.filespace.groups) (weigh_filespaces one of fs) (weigh_groups one of w.groups) (weigh_at one of k (grouped.group_at path w.filespace.groups)) (weigh_at one of k (grouped.group_at path w.groups)) all
    (in_groups k path w.filespace.groups w.groups c one of)
    ∙ ap (λ (o : Option Filespace). weigh_filespaces one of fs + weigh_at one of k (grouped.group_at path (groups_in o))) (sym now)

pub put_exchanges : (n : ℕ) (path class : List ℕ) (v : Version) (fs new : List (ℕ × Filespace)) → AreAllOrderly fs → has_object v.object (versions_at n path fs) ≡ false → filespaces_with n path class v fs ≡ Ok new → ExchangesAt n path v.object fs new
put_exchanges n path class v fs new orderly fresh h =
    let by : List (List ℕ × Group) → Result (List (List ℕ × Group)) Refusal = λ groups. Ok (groups_with path class v groups) in
    let w : Within n by fs new = within n by fs new h in
    let after : by w.filespace.groups ≡ Ok w.groups = w.after in
    let same : groups_with path class v w.filespace.groups ≡ w.groups = cc in
    in_filespaces v.object n path by fs new w
    (subst (InGroups v.object path w.filespace.groups) same
    (put_groups path class v w.filespace.groups (orderly_at n fs w.filespace orderly w.there).0 (ap (λ (o : Option Filespace). has_object v.object (grouped.versions_at path (groups_in o))) (sym w.there) ∙ fresh)))

pub change_exchanges : (k n : ℕ) (path : List ℕ) (change : GroupChange) (fs new : List (ℕ × Filespace)) → AreAllOrderly fs → Exchanges k (versions_at n path fs) (versions_after change (versions_at n path fs)) → filespaces_after n path change fs ≡ Ok new
    → ExchangesAt n path k fs new
change_exchanges k n path change fs new orderly e h =
    let w : Within n (groups_after path change) fs new = within n (groups_after path change) fs new h in
    in_filespaces k n path (groups_after path change) fs new w
    (change_groups k path change w.filespace.groups w.groups (orderly_at n fs w.filespace orderly w.there).0 w.after
    (subst (λ (o : Option Filespace). Exchanges k (grouped.versions_at path (groups_in o)) (versions_after change (grouped.versions_at path (groups_in o)))) w.there e))

pub alter_exchanges : (k n : ℕ) (path : List ℕ) (change : CopyChange) (fs new : List (ℕ × Filespace)) → are_distinct (versions_at n path fs) ≡ true → filespaces_altered_at n path k change fs ≡ Ok new → ExchangesAt n path k fs new
alter_exchanges k n path change fs new d h =
    let w : Within n (groups_altered path k change) fs new = within n (groups_altered path k change) fs new h in
    in_filespaces k n path (groups_altered path k change) fs new w
    (alter_groups k path change w.filespace.groups w.groups w.after (ap (λ (o : Option Filespace). are_distinct (grouped.versions_at path (groups_in o))) (sym w.there) ∙ d))

-- ---- what weighs the same

cancelled : (a b c d : ℕ) → a + b ≡ c + d → d ≡ b → a ≡ c
cancelled a b c d h i = omega (arith, h, i)

-- a change of the path's group that leaves as many versions with their copies
same_groups : (path : List ℕ) (change : GroupChange) (groups new : List (List ℕ × Group)) → are_full groups ≡ true → groups_after path change groups ≡ Ok new
    → ((vs : List Version) → is_empty (versions_after change vs) ≡ is_empty vs) → ((of : List CopyRow → ℕ) (vs : List Version) → weigh of (versions_after change vs) ≡ weigh of vs)
    → (one : ℕ) (of : List CopyRow → ℕ) → weigh_groups one of new ≡ weigh_groups one of groups
same_groups path change groups new full h empty same one of =
    let w : AfterIs path change groups new = after-is path change groups new h in
    let g : Group = record { class = class_after change w.0.class; versions = versions_after change w.0.versions } in
    let es : List (List ℕ × Group) = set_value (at_path path) groups g in
    let now : grouped.group_at path es ≡ Some g = lookup-set (at_path path) w.0 g groups w.1 in
    let some : is_empty g.versions ≡ false = empty w.0.versions ∙ not-true (is_empty w.0.versions) (all-lookup (λ (x : Group). not (is_empty x.versions)) (at_path path) groups w.0 full w.1) in
    let stays : es ≡ new = sym (ap (λ (o : Option Group). cond (is_empty (grouped.versions_in o)) (remove_entry (at_path path) es) es) now ∙ ap (λ b. cond b (remove_entry (at_path path) es) es) some) ∙ w.3 in
    ap (weigh_groups one of) (sym stays)
    ∙ cancelled (weigh_groups one of es) (weigh_group one of w.0) (weigh_groups one of groups) (weigh_group one of g) (sum_by-set_value (weigh_group one of) (at_path path) groups w.0 g w.1) (ap (λ n. one + n) (same of w.0.versions))

pub change_weighs : (n : ℕ) (path : List ℕ) (change : GroupChange) (fs new : List (ℕ × Filespace)) → AreAllOrderly fs → filespaces_after n path change fs ≡ Ok new
    → ((vs : List Version) → is_empty (versions_after change vs) ≡ is_empty vs) → ((of : List CopyRow → ℕ) (vs : List Version) → weigh of (versions_after change vs) ≡ weigh of vs) → WeighsTheSame fs new
change_weighs n path change fs new orderly h empty same one of =
    let w : Within n (groups_after path change) fs new = within n (groups_after path change) fs new h in
    let f : Filespace = record w.filespace { groups = w.groups } in
    ap (weigh_filespaces one of) (sym w.becomes)
    ∙ cancelled (weigh_filespaces one of (set_value (at_number n) fs f)) (weigh_groups one of w.filespace.groups) (weigh_filespaces one of fs) (weigh_groups one of w.groups)
    (sum_by-set_value (λ (x : Filespace). weigh_groups one of x.groups) (at_number n) fs w.filespace f w.there)
    (same_groups path change w.filespace.groups w.groups (orderly_at n fs w.filespace orderly w.there).1 w.after empty same one of)

empty-retired : (day : ℕ) (vs : List Version) → is_empty (retired day vs) ≡ is_empty vs
empty-retired day [] = refl
empty-retired day (v ∷ vs) = refl

pub gone_weighs : (n : ℕ) (path : List ℕ) (k day : ℕ) (fs new : List (ℕ × Filespace)) → AreAllOrderly fs → (new ≡ fs) ⊎ (filespaces_after n path (Gone k day) fs ≡ Ok new) → WeighsTheSame fs new
gone_weighs n path k day fs new orderly h =
    ⊎_elim (λ stays. subst (WeighsTheSame fs) (sym stays) (λ one of. refl))
    (λ said. change_weighs n path (Gone k day) fs new orderly said (empty-retired day) (λ of vs. weigh-retired of day vs)) h

pub rebind_weighs : (n : ℕ) (path class : List ℕ) (fs new : List (ℕ × Filespace)) → AreAllOrderly fs → (new ≡ fs) ⊎ (filespaces_after n path (Rebind class) fs ≡ Ok new) → WeighsTheSame fs new
rebind_weighs n path class fs new orderly h =
    ⊎_elim (λ stays. subst (WeighsTheSame fs) (sym stays) (λ one of. refl))
    (λ said. change_weighs n path (Rebind class) fs new orderly said (λ vs. refl) (λ of vs. refl)) h

nothing_more : (a b c d : ℕ) → a + b ≡ c + d → b ≡ 0 → d ≡ 0 → a ≡ c
nothing_more a b c d h i j = omega (arith, h, i, j)

-- a filespace without groups comes
pub defined_weighs : (n : ℕ) (f : Filespace) (fs new : List (ℕ × Filespace)) → IsStrictlySortedBy nat_cmp (keys_of fs) → filespace_at n fs ≡ None → f.groups ≡ [] → new ≡ insert_entry nat_cmp fs n f → WeighsTheSame fs new
defined_weighs n f fs new sorted free empty entries one of =
    let weight : Filespace → ℕ = λ x. weigh_groups one of x.groups in
    ap (weigh_filespaces one of) entries
    ∙ nothing_more (weigh_filespaces one of (insert_entry nat_cmp fs n f)) (unwrap_or (option_map weight (filespace_at n fs)) 0) (weigh_filespaces one of fs) (weight f)
    (sum_by-insert_entry weight nat_cmp_total fs n f sorted) (ap (λ o. unwrap_or (option_map weight o) 0) free) (ap (weigh_groups one of) empty)

no_groups : (groups : List (List ℕ × Group)) → are_full groups ≡ true → versions_in groups ≡ [] → groups ≡ []
no_groups [] full h = refl
no_groups (g ∷ groups) full h = absurd (go g.1.versions (and_parts (not (is_empty g.1.versions)) (are_full groups) full).0 h) where
  go : (vs : List Version) → not (is_empty vs) ≡ true → vs ++ versions_in groups ≡ [] → ⊥
  go [] some e = false≢true some
  go (v ∷ vs) some e = absurd (cc)

emptied : (a b c d : ℕ) → a + b ≡ c → b ≡ 0 → a ≡ c
emptied a b c d h i = omega (arith, h, i)

-- a filespace without versions goes
pub deleted_weighs : (n : ℕ) (f : Filespace) (fs new : List (ℕ × Filespace)) → AreAllOrderly fs → filespace_at n fs ≡ Some f → least_object f.groups ≡ None → new ≡ remove_entry (at_number n) fs → WeighsTheSame fs new
deleted_weighs n f fs new orderly there unused entries one of =
    let weight : Filespace → ℕ = λ x. weigh_groups one of x.groups in
    let none : f.groups ≡ [] = no_groups f.groups (orderly_at n fs f orderly there).1 (least_of_none (versions_in f.groups) unused) in
    ap (weigh_filespaces one of) entries
    ∙ emptied (weigh_filespaces one of (remove_entry (at_number n) fs)) (unwrap_or (option_map weight (filespace_at n fs)) 0) (weigh_filespaces one of fs) 0
    (sum_by-remove_entry weight (at_number n) fs) (ap (λ o. unwrap_or (option_map weight o) 0) there ∙ ap (weigh_groups one of) none)
