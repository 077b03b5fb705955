-- Files that are gone from a client are marked one after the other.
use Rattle.std.proofs.Common.{◌≡◌, ℕ, Bool, true, false, cond, not, List, [], ◌∷◌, Option, Some, None, Result, Ok, Err, refl, sym, ap, ◌∙◌}
use Rattle.std.specs.Prelude.{IsTrue, eqb, is_none, ◌==◌}
use Rattle.std.specs.List.{list_all}
use Rattle.std.specs.Map.{lookup, remove_entry, set_value}
use Rattle.std.proofs.lemmas.Bool.{OnTrue_from, eq-eqb, eqb-true, false≢true}
use Rattle.kinds.specs.declared.refusal.Refusal.{Refusal}
use Rattle.inventory_rules.specs.entries.change_items.declared.items.NamedVersion.{NamedVersion}
use Rattle.inventory_rules.specs.inventory_rows.version_groups.declared.group.Group.{Group}
use Rattle.inventory_rules.specs.inventory_rows.version_groups.declared.group.GroupChange.{GroupChange}
use Rattle.inventory_rules.specs.inventory_rows.version_groups.declared.group.GroupChange.TheVariants as change
use Rattle.inventory_rules.specs.inventory_rows.version_groups.declared.groups.Filespace.{Filespace}
use Rattle.inventory_rules.specs.inventory_rows.version_groups.declared.versions.Version.{Version}
use Rattle.inventory_rules.specs.inventory_rows.version_groups.Entries.{all_later, if_found, on_ok}
use Rattle.inventory_rules.specs.inventory_rows.version_groups.Groups as grouped
use Rattle.inventory_rules.specs.inventory_rows.version_groups.Groups.{at_path, group_after, groups_after, without_empty}
use Rattle.inventory_rules.specs.inventory_rows.version_groups.Versions.{has_object, is_active, is_empty}
use Rattle.inventory_rules.proofs.of_inventory_rows.of_version_groups.Maps.{lookup-set}
use Rattle.inventory_rules.specs.inventory_rows.object_rows.Filespaces.{at_number, filespace_after, filespace_at, filespaces_after, groups_in, versions_at}
use Rattle.inventory_rules.proofs.of_inventory_rows.of_object_rows.Stands.{same_path}
use Rattle.inventory_rules.specs.inventory_rows.State.{Inv}
use Rattle.inventory_rules.specs.Common.{or_same, CanEach}
use Rattle.inventory_rules.specs.Versions.{mark_gone, CanBeGone}
use Rattle.inventory_laws.proofs.Facts.{first, rest}
use Rattle.inventory_laws.proofs.MadeItems.{others_hold}

-- ---- entries beside one that changes

module _ {K X : Type 0} (test other : K → Bool) (beside : (k : K) → test k ≡ true → other k ≡ false) where
  pub lookup-beside_set : (x : X) (es : List (K × X)) → lookup other (set_value test es x) ≡ lookup other es
  lookup-beside_set x [] = refl
  lookup-beside_set x (e ∷ es) =
      elim (test e.0) as (λ b. test e.0 ≡ b → lookup other (cond b ((e.0, x) ∷ es) (e ∷ set_value test es x)) ≡ lookup other (e ∷ es)) [
        | true ↦ λ here. let away : other e.0 ≡ false = beside e.0 here in ap (λ b. cond b (Some x) (lookup other es)) away ∙ ap (λ b. cond b (Some e.1) (lookup other es)) (sym away)
        | false ↦ λ _. ap (λ o. cond (other e.0) (Some e.1) o) (lookup-beside_set x es)
      ] refl

  pub lookup-beside_removed : (es : List (K × X)) → lookup other (remove_entry test es) ≡ lookup other es
  lookup-beside_removed [] = refl
  lookup-beside_removed (e ∷ es) =
      elim (test e.0) as (λ b. test e.0 ≡ b → lookup other (cond b es (e ∷ remove_entry test es)) ≡ lookup other (e ∷ es)) [
        | true ↦ λ here. ap (λ b. cond b (Some e.1) (lookup other es)) (sym (beside e.0 here))
        | false ↦ λ _. ap (λ o. cond (other e.0) (Some e.1) o) (lookup-beside_removed es)
      ] refl

-- a key that is this path is no other one
apart_paths : (p q : List ℕ) → at_path p q ≡ false → (r : List ℕ) → at_path p r ≡ true → at_path q r ≡ false
apart_paths p q apart r here =
    elim (at_path q r) as (λ b. at_path q r ≡ b → b ≡ false) [
      | true ↦ λ there. absurd (false≢true (sym apart ∙ ap (at_path p) (same_path q r there) ∙ here))
      | false ↦ λ _. refl
    ] refl

-- a change of one path's versions leaves those of another
groups-beside : (p q : List ℕ) (change : GroupChange) (groups : List (List ℕ × Group)) → at_path p q ≡ false → grouped.group_at q (or_same groups (groups_after p change groups)) ≡ grouped.group_at q groups
groups-beside p q change groups apart = found (grouped.group_at p groups) where
  settled : (b : Bool) (es : List (List ℕ × Group)) → grouped.group_at q (cond b (remove_entry (at_path p) es) es) ≡ grouped.group_at q es
  settled true es = lookup-beside_removed (at_path p) (at_path q) (apart_paths p q apart) es
  settled false es = refl

  said : (r : Result Group Refusal) → grouped.group_at q (or_same groups (on_ok (without_empty p) (on_ok (set_value (at_path p) groups) r))) ≡ grouped.group_at q groups
  said (Ok g) = settled (is_empty (grouped.versions_at p (set_value (at_path p) groups g))) (set_value (at_path p) groups g) ∙ lookup-beside_set (at_path p) (at_path q) (apart_paths p q apart) g groups
  said (Err e) = refl

  found : (o : Option Group) → grouped.group_at q (or_same groups (on_ok (without_empty p) (if_found o (λ g. on_ok (set_value (at_path p) groups) (group_after change g))))) ≡ grouped.group_at q groups
  found None = refl
  found (Some g) = said (group_after change g)

pub versions-beside : (n : ℕ) (p q : List ℕ) (change : GroupChange) (fs : List (ℕ × Filespace)) → at_path p q ≡ false → versions_at n q (or_same fs (filespaces_after n p change fs)) ≡ versions_at n q fs
versions-beside n p q change fs apart = found (filespace_at n fs) refl where
  said : (f : Filespace) → filespace_at n fs ≡ Some f → (r : Result (List (List ℕ × Group)) Refusal) → grouped.group_at q (or_same f.groups r) ≡ grouped.group_at q f.groups
      → versions_at n q (or_same fs (on_ok (set_value (at_number n) fs) (on_ok (λ groups. record f { groups = groups }) r))) ≡ versions_at n q fs
  said f there (Ok groups) h =
      let g : Filespace = record f { groups = groups } in
      ap (λ (o : Option Filespace). grouped.versions_at q (groups_in o)) (lookup-set (at_number n) f g fs there) ∙ ap grouped.versions_in h ∙ ap (λ (o : Option Filespace). grouped.versions_at q (groups_in o)) (sym there)
  said f there (Err e) h = refl

  found : (o : Option Filespace) → filespace_at n fs ≡ o → versions_at n q (or_same fs (if_found o (λ f. on_ok (set_value (at_number n) fs) (filespace_after (groups_after p change) f)))) ≡ versions_at n q fs
  found None there = refl
  found (Some f) there = said f there (groups_after p change f.groups) (groups-beside p q change f.groups apart)

-- ---- the items

-- of one path's versions one at most is active
one_active : (k m : ℕ) (vs : List Version) → is_active k vs ≡ true → is_active m vs ≡ true → k ≡ m
one_active k m [] h t = absurd cc
one_active k m (v ∷ vs) h t =
    sym (eqb-true v.object k (first (v.object == k) (is_none v.since) h)) ∙ eqb-true v.object m (first (v.object == m) (is_none v.since) t)

apart_numbers : (a b : ℕ) → a ≡ b → eqb a b ≡ false → ⊥
apart_numbers a b same apart = false≢true (sym apart ∙ eq-eqb a b same)

-- the items' objects are active at their paths
abbrev pub all_active : ℕ → List NamedVersion → List (ℕ × Filespace) → Bool
all_active n items fs = list_all (λ i. is_active i.object (versions_at n i.path fs)) items

pub can_be_gone_all : (n : ℕ) (items : List NamedVersion) (v : Inv) → all_later (λ a b. not (a.object == b.object)) items ≡ true → all_active n items v.clients.filespaces ≡ true → CanEach (CanBeGone n) (mark_gone n) items v
can_be_gone_all n [] v once h = tt
can_be_gone_all n (item ∷ items) v once h =
    let fs : List (ℕ × Filespace) = v.clients.filespaces in
    let new : List (ℕ × Filespace) = or_same fs (filespaces_after n item.path (change.Gone item.object v.today) fs) in
    let active : is_active item.object (versions_at n item.path fs) ≡ true = first (is_active item.object (versions_at n item.path fs)) (all_active n items fs) h in
    let apart : list_all (λ b. not (item.object == b.object)) items ≡ true = first (list_all (λ b. not (item.object == b.object)) items) (all_later (λ a b. not (a.object == b.object)) items) once in (
      OnTrue_from (has_object item.object (versions_at n item.path fs)) (IsTrue (is_active item.object (versions_at n item.path fs))) (λ _. active),
      can_be_gone_all n items (mark_gone n item v) (rest (list_all (λ b. not (item.object == b.object)) items) (all_later (λ a b. not (a.object == b.object)) items) once)
          (others_hold (λ i. i.object) item.object (λ i. is_active i.object (versions_at n i.path fs)) (λ i. is_active i.object (versions_at n i.path new)) (λ i away t. still_active i away t) items apart
          (rest (is_active item.object (versions_at n item.path fs)) (all_active n items fs) h)),
    )
  where
    still_active : (i : NamedVersion) → eqb item.object i.object ≡ false → is_active i.object (versions_at n i.path v.clients.filespaces) ≡ true
        → is_active i.object (versions_at n i.path (or_same v.clients.filespaces (filespaces_after n item.path (change.Gone item.object v.today) v.clients.filespaces))) ≡ true
    still_active i away t = go (at_path item.path i.path) refl where
      go : (b : Bool) → at_path item.path i.path ≡ b → is_active i.object (versions_at n i.path (or_same v.clients.filespaces (filespaces_after n item.path (change.Gone item.object v.today) v.clients.filespaces))) ≡ true
      go true here =
          let is : item.path ≡ i.path = same_path item.path i.path here in
          let active : is_active item.object (versions_at n item.path v.clients.filespaces) ≡ true = first (is_active item.object (versions_at n item.path v.clients.filespaces)) (all_active n items v.clients.filespaces) h in
          let same : item.object ≡ i.object = one_active item.object i.object (versions_at n i.path v.clients.filespaces) (ap (λ p. is_active item.object (versions_at n p v.clients.filespaces)) (sym is) ∙ active) t in
          absurd (apart_numbers item.object i.object same away)
      go false beside = ap (is_active i.object) (versions-beside n item.path i.path (change.Gone item.object v.today) v.clients.filespaces beside) ∙ t
