-- What steps of a transaction leave of the versions of a path.
use Rattle.std.proofs.Common.{◌≡◌, ℕ, Bool, true, false, cond, eqb, ◌&&◌, ◌||◌, List, [], ◌∷◌, map, Option, Some, None, Ok, Err, Result, refl, sym, ap, subst, ◌∙◌}
use Rattle.std.proofs.lemmas.Bool.{false≢true}
use Rattle.std.specs.List.{AllByRecursion}
use Rattle.std.specs.Map.{lookup}
use Rattle.std.specs.Option.{is_some, option_map}
use Rattle.kinds.specs.declared.refusal.Refusal.{Refusal}
use Rattle.entries.specs.change_items.declared.items.DiscardedVersion.{DiscardedVersion}
use Rattle.entries.specs.change_items.declared.items.NamedVersion.{NamedVersion}
use Rattle.entries.specs.change_items.declared.items.NewVersion.{NewVersion}
use Rattle.inventory_rows.specs.version_groups.declared.copies.CopyChange.{CopyChange}
use Rattle.inventory_rows.specs.version_groups.declared.copies.CopyRow.{CopyRow}
use Rattle.inventory_rows.specs.version_groups.declared.group.Group.{Group}
use Rattle.inventory_rows.specs.version_groups.declared.group.GroupChange.{GroupChange}
use Rattle.inventory_rows.specs.version_groups.declared.group.GroupChange.TheVariants.{Gone, Rebind, Remove}
use Rattle.inventory_rows.specs.version_groups.declared.groups.Filespace.{Filespace}
use Rattle.inventory_rows.specs.version_groups.declared.versions.Version.{Version}
use Rattle.inventory_rows.specs.version_groups.Groups as grouped
use Rattle.inventory_rows.specs.version_groups.Groups.{AreByPath, at_path, groups_after, groups_with, versions_after}
use Rattle.inventory_rows.specs.version_groups.Versions.{has_object, retired, superseded, with_copies, without_object}
use Rattle.inventory_rows.proofs.of_version_groups.Laws.{after-becomes, put-becomes}
use Rattle.inventory_rows.proofs.of_version_groups.Maps.{lookup-set}
use Rattle.inventory_rows.specs.object_rows.Filespaces.{at_number, filespace_at, filespace_copied, filespaces_copied, filespaces_with, group_copied, groups_in, versions_at}
use Rattle.inventory_rows.proofs.of_object_rows.Stands.{same_number, same_path}
use Rattle.inventory_rows.proofs.of_object_rows.Steps.{Within, within}
use Rattle.inventory_rows.specs.Search.{group}
use Rattle.inventory_rows.specs.State.{Inv}
use Rattle.inventory_rules.specs.Common.{each, or_same}
use Rattle.inventory_rules.specs.Copies.{change_copy}
use Rattle.inventory_rules.specs.Ordered.{IsOrdered}
use Rattle.inventory_rules.specs.Versions.{back_up, change_group, discard, expire, inserted, new_version, take_versions, AreGroupsOrdered}
use Rattle.inventory_laws.proofs.Arriving.{has-objects, has-version}
use Rattle.inventory_laws.proofs.Gone.{lookup-beside_set}
use Rattle.inventory_laws.proofs.GroupSteps.{either_way, objects-retired}
use Rattle.inventory_laws.proofs.Grouped.{ordered_at}
use Rattle.inventory_laws.proofs.Ordered.{copied_or_same, ordered_change, ordered_inserted}
use Rattle.inventory_laws.proofs.Others.{version-without}
use Rattle.inventory_laws.proofs.PutSteps.{objects-superseded}
use Rattle.inventory_laws.proofs.VersionsWhole.{ordered_elsewhere}
use Rattle.inventory_laws.proofs.VersionVolumes.{put_only}
use Rattle.run_past.proofs.Paths.{beside}
use Rattle.run_past.proofs.Versions.{cleared_or, same_rows, taken_same, turned, without_or}

-- ---- the versions of a path, where those of a path change

at_within : (n f : ℕ) (p : List ℕ) (by : List (List ℕ × Group) → Result (List (List ℕ × Group)) Refusal) (fs new : List (ℕ × Filespace)) (w : Within n by fs new) → versions_at f p new ≡ cond (at_number n f) (grouped.versions_at p w.groups) (versions_at f p fs)
at_within n f p by fs new w =
    let g : Filespace = record w.filespace { groups = w.groups } in
    elim (at_number n f) as (λ b. at_number n f ≡ b → versions_at f p new ≡ cond b (grouped.versions_at p w.groups) (versions_at f p fs)) [
      | true ↦ λ here.
          ap (λ m. versions_at m p new) (sym (same_number n f here)) ∙ ap (versions_at n p) (sym w.becomes) ∙ ap (λ (o : Option Filespace). grouped.versions_at p (groups_in o)) (lookup-set (at_number n) w.filespace g fs w.there)
      | false ↦ λ away. ap (versions_at f p) (sym w.becomes) ∙ ap (λ (o : Option Filespace). grouped.versions_at p (groups_in o)) (lookup-beside_set (at_number n) (at_number f) (beside n f away) g fs)
    ] refl

-- a path's versions stand in its filespace
stands_in : (n f : ℕ) (p : List ℕ) (fs : List (ℕ × Filespace)) (g : Filespace) → filespace_at n fs ≡ Some g → at_number n f ≡ true → grouped.versions_at p g.groups ≡ versions_at f p fs
stands_in n f p fs g there here = sym (ap (λ m. versions_at m p fs) (sym (same_number n f here)) ∙ ap (λ (o : Option Filespace). grouped.versions_at p (groups_in o)) there)

-- what holds of the versions of a path holds behind a change of a path's versions, where it holds of the changed ones if it is that path
pub at_change : (P : List Version → Type 0) (n f : ℕ) (path p : List ℕ) (c : GroupChange) (u : Inv) → AreGroupsOrdered u.clients.filespaces → P (versions_at f p u.clients.filespaces)
    → (at_number n f ≡ true → at_path path p ≡ true → P (versions_after c (versions_at f p u.clients.filespaces))) → P (versions_at f p (change_group n path c u).clients.filespaces)
at_change P n f path p c u paths same changes =
    let fs : List (ℕ × Filespace) = u.clients.filespaces in
    either_way (λ x. P (versions_at f p x.clients.filespaces)) n path c u same
    (λ new said.
    let w : Within n (groups_after path c) fs new = within n (groups_after path c) fs new said in
    let old : List (List ℕ × Group) = w.filespace.groups in
    subst P (sym (at_within n f p (groups_after path c) fs new w))
    (elim (at_number n f) as (λ b. at_number n f ≡ b → P (cond b (grouped.versions_at p w.groups) (versions_at f p fs))) [
      | true ↦ λ here.
          let stands : grouped.versions_at p old ≡ versions_at f p fs = stands_in n f p fs w.filespace w.there here in
          subst P (sym (after-becomes path c old w.groups (ordered_at n fs w.filespace paths w.there) w.after p))
          (elim (at_path path p) as (λ b. at_path path p ≡ b → P (cond b (versions_after c (grouped.versions_at path old)) (grouped.versions_at p old))) [
            | true ↦ λ there. subst P (ap (versions_after c) (sym stands ∙ ap (λ q. grouped.versions_at q old) (sym (same_path path p there)))) (changes here there)
            | false ↦ λ _. subst P (sym stands) same
          ] refl)
      | false ↦ λ _. same
    ] refl))

-- the same where a version comes
pub at_put : (P : List Version → Type 0) (n f : ℕ) (p : List ℕ) (item : NewVersion) (u : Inv) → AreGroupsOrdered u.clients.filespaces → P (versions_at f p u.clients.filespaces)
    → (at_number n f ≡ true → at_path item.path p ≡ true → P (new_version u item ∷ superseded u.today (versions_at f p u.clients.filespaces))) → P (versions_at f p (inserted n item u).clients.filespaces)
at_put P n f p item u paths same changes =
    let fs : List (ℕ × Filespace) = u.clients.filespaces in
    let x : Version = new_version u item in
    let by : List (List ℕ × Group) → Result (List (List ℕ × Group)) Refusal = λ groups. Ok (groups_with item.path item.class x groups) in
    elim (filespaces_with n item.path item.class x fs) as (λ r. filespaces_with n item.path item.class x fs ≡ r → P (versions_at f p (or_same fs r))) [
      | Ok new ↦ λ said.
          let w : Within n by fs new = within n by fs new said in
          let old : List (List ℕ × Group) = w.filespace.groups in
          let after : by old ≡ Ok w.groups = w.after in
          let becomes : groups_with item.path item.class x old ≡ w.groups = cc in
          subst P (sym (at_within n f p by fs new w))
          (elim (at_number n f) as (λ b. at_number n f ≡ b → P (cond b (grouped.versions_at p w.groups) (versions_at f p fs))) [
            | true ↦ λ here.
                let stands : grouped.versions_at p old ≡ versions_at f p fs = stands_in n f p fs w.filespace w.there here in
                subst (λ (t : List (List ℕ × Group)). P (grouped.versions_at p t)) becomes
                (subst P (sym (put-becomes item.path item.class x old (ordered_at n fs w.filespace paths w.there) p))
                (elim (at_path item.path p) as (λ b. at_path item.path p ≡ b → P (cond b (x ∷ superseded x.stored (grouped.versions_at item.path old)) (grouped.versions_at p old))) [
                  | true ↦ λ there. subst (λ (l : List Version). P (x ∷ superseded x.stored l)) (sym stands ∙ ap (λ q. grouped.versions_at q old) (sym (same_path item.path p there))) (changes here there)
                  | false ↦ λ _. subst P (sym stands) same
                ] refl))
            | false ↦ λ _. same
          ] refl)
      | Err e ↦ λ _. same
    ] refl

lookup-mapped : {K X Y : Type 0} (test : K → Bool) (h : X → Y) (es : List (K × X)) → lookup test (map (λ e. (e.0, h e.1)) es) ≡ option_map h (lookup test es)
lookup-mapped test h [] = refl
lookup-mapped test h (e ∷ es) = elim (test e.0) as (λ b. cond b (Some (h e.1)) (lookup test (map (λ e. (e.0, h e.1)) es)) ≡ option_map h (cond b (Some e.1) (lookup test es))) [ true ↦ refl | false ↦ lookup-mapped test h es ]

at_copied : (f k : ℕ) (p : List ℕ) (cs : List CopyRow) (fs : List (ℕ × Filespace)) → versions_at f p (filespaces_copied k cs fs) ≡ with_copies k cs (versions_at f p fs)
at_copied f k p cs fs =
    ap (λ (o : Option Filespace). grouped.versions_at p (groups_in o)) (lookup-mapped (at_number f) (filespace_copied k cs) fs) ∙ go (filespace_at f fs)
  where
    go : (o : Option Filespace) → grouped.versions_at p (groups_in (option_map (filespace_copied k cs) o)) ≡ with_copies k cs (grouped.versions_at p (groups_in o))
    go None = refl
    go (Some g) = ap grouped.versions_in (lookup-mapped (at_path p) (group_copied k cs) g.groups) ∙ here (grouped.group_at p g.groups) where
      here : (o : Option Group) → grouped.versions_in (option_map (group_copied k cs) o) ≡ with_copies k cs (grouped.versions_in o)
      here None = refl
      here (Some x) = refl

has-with_copies : (m k : ℕ) (cs : List CopyRow) (vs : List Version) → has_object m (with_copies k cs vs) ≡ has_object m vs
has-with_copies m k cs [] = refl
has-with_copies m k cs (v ∷ vs) =
    ap (λ b. eqb (cond {A = Version} (eqb v.object k) (record v { copies = cs }) v).object m || b) (has-with_copies m k cs vs)
    ∙ elim (eqb v.object k) as (λ b. (eqb (cond {A = Version} b (record v { copies = cs }) v).object m || has_object m vs) ≡ (eqb v.object m || has_object m vs)) [ true ↦ refl | false ↦ refl ]

-- ---- an object that stays at its path

-- the path has a version of the object
abbrev pub Stands : (f : ℕ) (p : List ℕ) (m : ℕ) → Inv → Type 0
Stands f p m u = has_object m (versions_at f p u.clients.filespaces) ≡ true

-- and the rows stand in order
pub record Keeps (f : ℕ) (p : List ℕ) (m : ℕ) (u : Inv) : Type 0 where
  pub ordered : IsOrdered u
  pub stands : Stands f p m u

pub each_stays : {X : Type 0} (P : Inv → Type 0) (Q : X → Type 0) (step : X → Inv → Inv) → ((x : X) (u : Inv) → Q x → P u → P (step x u)) → (xs : List X) (u : Inv) → AllByRecursion Q xs → P u → P (each step xs u)
each_stays P Q step stays [] u q p = p
each_stays P Q step stays (x ∷ xs) u q p = each_stays P Q step stays xs (step x u) q.1 (stays x u q.0 p)

pub each_any : {X : Type 0} (P : Inv → Type 0) (step : X → Inv → Inv) → ((x : X) (u : Inv) → P u → P (step x u)) → (xs : List X) (u : Inv) → P u → P (each step xs u)
each_any P step stays [] u p = p
each_any P step stays (x ∷ xs) u p = each_any P step stays xs (step x u) (stays x u p)

keeps_as : (f : ℕ) (p : List ℕ) (m : ℕ) (v w : Inv) → w.clients ≡ v.clients → Keeps f p m v → Keeps f p m w
keeps_as f p m v w h k = record { ordered = ordered_elsewhere v w h k.ordered; stands = ap (λ r. has_object m (versions_at f p r.filespaces)) h ∙ k.stands }

pub copy_stands : (f : ℕ) (p : List ℕ) (m k : ℕ) (c : CopyChange) (u : Inv) → Stands f p m u → Stands f p m (change_copy k c u)
copy_stands f p m k c u h = copied_or_same (Stands f p m) k c u h (λ cs. ap (has_object m) (at_copied f k p cs u.clients.filespaces) ∙ has-with_copies m k cs (versions_at f p u.clients.filespaces) ∙ h)

pub rebind_keeps : (n f : ℕ) (path p class : List ℕ) (m : ℕ) (u : Inv) → Keeps f p m u → Keeps f p m (change_group n path (Rebind class) u)
rebind_keeps n f path p class m u k = record {
  ordered = ordered_change n path (Rebind class) u k.ordered;
  stands = at_change (λ vs. has_object m vs ≡ true) n f path p (Rebind class) u k.ordered.by_path k.stands (λ _ _. k.stands);
}

pub gone_keeps : (n f object day : ℕ) (path p : List ℕ) (m : ℕ) (u : Inv) → Keeps f p m u → Keeps f p m (change_group n path (Gone object day) u)
gone_keeps n f object day path p m u k =
    let vs : List Version = versions_at f p u.clients.filespaces in
    record {
      ordered = ordered_change n path (Gone object day) u k.ordered;
      stands = at_change (λ l. has_object m l ≡ true) n f path p (Gone object day) u k.ordered.by_path k.stands (λ _ _. has-objects m vs (retired day vs) (objects-retired day vs) ∙ k.stands);
    }

-- another object's version goes
pub remove_keeps : (n f object : ℕ) (path p : List ℕ) (m : ℕ) (u : Inv) → eqb object m ≡ false → Keeps f p m u → Keeps f p m (change_group n path (Remove object) u)
remove_keeps n f object path p m u ne k =
    let vs : List Version = versions_at f p u.clients.filespaces in
    record {
      ordered = ordered_change n path (Remove object) u k.ordered;
      stands = at_change (λ l. has_object m l ≡ true) n f path p (Remove object) u k.ordered.by_path k.stands
          (λ _ _. has-version m (without_object object vs) ∙ ap is_some (version-without object m vs (turned object m ne)) ∙ sym (has-version m vs) ∙ k.stands);
    }

-- a version of another path goes
pub elsewhere_keeps : (n f object : ℕ) (path p : List ℕ) (m : ℕ) (u : Inv) → (at_number n f && at_path path p) ≡ false → Keeps f p m u → Keeps f p m (change_group n path (Remove object) u)
elsewhere_keeps n f object path p m u away k = record {
  ordered = ordered_change n path (Remove object) u k.ordered;
  stands = at_change (λ l. has_object m l ≡ true) n f path p (Remove object) u k.ordered.by_path k.stands
      (λ here there. let both : true ≡ false = sym (ap (λ b. b && at_path path p) here ∙ there) ∙ away in absurd (cc));
}

or-true : (b : Bool) → (b || true) ≡ true
or-true true = refl
or-true false = refl

pub back_up_keeps : (n f : ℕ) (p : List ℕ) (m : ℕ) (item : NewVersion) (u : Inv) → Keeps f p m u → Keeps f p m (back_up n item u)
back_up_keeps n f p m item u k =
    let w : Inv = inserted n item u in
    let vs : List Version = versions_at f p u.clients.filespaces in
    let k' : Keeps f p m w = record {
      ordered = ordered_inserted n item u k.ordered;
      stands = at_put (λ l. has_object m l ≡ true) n f p item u k.ordered.by_path k.stands
          (λ _ _. ap (λ b. eqb item.object m || b) (has-objects m vs (superseded u.today vs) (objects-superseded u.today vs) ∙ k.stands) ∙ or-true (eqb item.object m));
    } in
    keeps_as f p m w (back_up n item u) (same_rows w (back_up n item u) (put_only item.object item.segments w)) k'

pub expire_keeps : (n f : ℕ) (p : List ℕ) (m : ℕ) (item : NamedVersion) (u : Inv) → (at_number n f && at_path item.path p) ≡ false → Keeps f p m u → Keeps f p m (expire n item u)
expire_keeps n f p m item u away k =
    let w : Inv = take_versions item.object u in
    let k' : Keeps f p m w = keeps_as f p m u w (taken_same 0 item.object u) k in
    cleared_or (Keeps f p m) n item.object item.path w (λ row there. record { ordered = record { by_number = k'.ordered.by_number; by_path = k'.ordered.by_path }; stands = k'.stands }) (elsewhere_keeps n f item.object item.path p m w away k')

pub discard_keeps : (f : ℕ) (p : List ℕ) (m : ℕ) (item : DiscardedVersion) (u : Inv) → eqb item.object m ≡ false → Keeps f p m u → Keeps f p m (discard item u)
discard_keeps f p m item u ne k =
    let w : Inv = take_versions item.object u in
    let k' : Keeps f p m w = keeps_as f p m u w (taken_same 0 item.object u) k in
    without_or (Keeps f p m) item.object w (λ row there. record { ordered = record { by_number = k'.ordered.by_number; by_path = k'.ordered.by_path }; stands = k'.stands }) (λ n path. remove_keeps n f item.object path p m w ne k') k'

-- ---- a path with versions has a group

pub has_group : (f : ℕ) (p : List ℕ) (m : ℕ) (u : Inv) → Stands f p m u → is_some (group f p u) ≡ true
has_group f p m u h = go (group f p u) h where
  go : (o : Option Group) → has_object m (grouped.versions_in o) ≡ true → is_some o ≡ true
  go None has = absurd (false≢true has)
  go (Some g) has = refl
