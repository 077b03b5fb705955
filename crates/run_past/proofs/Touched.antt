-- What stood of that which a transaction names.
use Rattle.std.proofs.Common.{◌≡◌, ℕ, Bool, true, false, cond, eqb, not, ◌&&◌, ◌||◌, List, [], ◌∷◌, ◌++◌, map, Option, Some, None, refl, sym, ap, ◌∙◌}
use Rattle.std.proofs.lemmas.Bool.{and_parts, eq-eqb, eqb-true, false≢true, not-true, or_from, or_parts}
use Rattle.std.proofs.lemmas.List.Folds.{list_any-append}
use Rattle.std.specs.BTreeMap.{is_at}
use Rattle.std.specs.List.{AllByRecursion, flat_map, list_all, list_any}
use Rattle.std.specs.Map.{lookup}
use Rattle.std.specs.Option.{is_some, option_map, option_or}
use Rattle.std.specs.Ordering.{nat_cmp}
use Rattle.std.specs.Prelude.{nat_le}
use Rattle.kinds.specs.Refusals.{foremost, sooner_of, unless}
use Rattle.kinds.specs.declared.refusal.Refusal.{Refusal}
use Rattle.entries.specs.change_items.declared.items.DiscardedVersion.{DiscardedVersion}
use Rattle.entries.specs.change_items.declared.items.NamedVersion.{NamedVersion}
use Rattle.entries.specs.change_items.declared.items.NewVersion.{NewVersion}
use Rattle.entries.specs.declared.change.Change.{Change}
use Rattle.inventory_rows.specs.version_groups.declared.group.Group.{Group}
use Rattle.inventory_rows.specs.version_groups.declared.groups.Filespace.{Filespace}
use Rattle.inventory_rows.specs.version_groups.declared.versions.Version.{Version}
use Rattle.inventory_rows.specs.version_groups.Groups as grouped
use Rattle.inventory_rows.specs.version_groups.Groups.{at_path}
use Rattle.inventory_rows.specs.version_groups.Versions.{are_distinct, has_object}
use Rattle.inventory_rows.proofs.of_version_groups.Lists.{version_of-object}
use Rattle.inventory_rows.specs.object_rows.declared.held_object.HeldRow.{HeldRow}
use Rattle.inventory_rows.specs.object_rows.declared.place.Place.{Place}
use Rattle.inventory_rows.specs.object_rows.HeldRows.{held_at}
use Rattle.inventory_rows.specs.object_rows.Filespaces.{at_number, filespace_at, groups_in, versions_at}
use Rattle.inventory_rows.proofs.of_object_rows.Full.{all-lookup}
use Rattle.inventory_rows.proofs.of_object_rows.Stands.{at_itself, path_itself, same_number, same_path}
use Rattle.inventory_rows.specs.Search.{filespace_of, group, version, versions}
use Rattle.inventory_rows.specs.State.{Inv}
use Rattle.inventory_work.specs.Lists.{only}
use Rattle.inventory_rules.specs.Journal.{Journal}
use Rattle.inventory_rules.specs.Transactions.{causes, effect, refused, sizes_refused, then_valid}
use Rattle.inventory_rules.specs.Valid.{groups_are_orderly, is_orderly, is_valid}
use Rattle.inventory_rules.specs.Versions.{is_in, is_new_object, object_refused, objects_refused}
use Rattle.inventory_laws.proofs.Arriving.{has-version}
use Rattle.inventory_laws.proofs.Others.{place_of_path}
use Rattle.inventory_laws.proofs.Causes.{front_nil, back_nil, holds}
use Rattle.run_past.specs.Before.{found, going, going_from, going_in, has_going, lie_in, named, newest_of, path_going, path_if}
use Rattle.run_past.specs.Telling.{is_path}
use Rattle.run_past.specs.declared.prepared.PathAt.{PathAt}
use Rattle.run_past.proofs.Versions.{is_newest, names_it}

-- ---- nothing is refused

sooner_some : (a : Refusal) (o : Option Refusal) → sooner_of (Some a) o ≡ None → ⊥
sooner_some a None h = cc
sooner_some a (Some b) h = cc

none_held : (refusals : List Refusal) → foremost refusals ≡ None → refusals ≡ []
none_held [] h = refl
none_held (e ∷ refusals) h = absurd (sooner_some e (foremost refusals) h)

no_cause : (o : Option Refusal) (valid : Bool) → then_valid o valid ≡ None → o ≡ None
no_cause None valid h = refl
no_cause (Some e) valid h = absurd cc

pub legal_causes : (j : Journal) (c : Change) (v : Inv) → refused j c v ≡ None → causes j c v ≡ []
unfolding refused
legal_causes j c v h = front_nil (causes j c v) (sizes_refused c v) (none_held (causes j c v ++ sizes_refused c v) (no_cause (foremost (causes j c v ++ sizes_refused c v)) (is_valid (effect c v)) h))

-- ---- objects

-- one that stood is the object's
abbrev pub is_of : ℕ → Version → Bool
is_of k b = is_at (nat_cmp b.object) k

found_of : (k : ℕ) (a : Version) (v : Inv) (o : Option Version) → version k v ≡ Some a → o ≡ version k v → list_any (is_of k) (found o) ≡ true
found_of k a v o there is =
    ap (λ x. list_any (is_of k) (found x)) (is ∙ there) ∙ ap (λ m. at_number m k || false) (version_of-object k (versions v) a there) ∙ ap (λ b. b || false) (at_itself k)

-- whoever names an object that is there has it among what stood
pub named_none : {X : Type 0} (object : X → ℕ) (items : List X) (k : ℕ) (a : Version) (v : Inv) → version k v ≡ Some a → list_any (is_of k) (named object items v) ≡ false → list_any (names_it object k) items ≡ false
named_none object [] k a v there h = refl
named_none object (i ∷ items) k a v there h =
    let hs = or_parts (list_any (is_of k) (found (version (object i) v))) (list_any (is_of k) (named object items v)) (sym (list_any-append (is_of k) (found (version (object i) v)) (named object items v)) ∙ h) in
    or_from (eqb (object i) k) (list_any (names_it object k) items)
    (elim (eqb (object i) k) as (λ b. eqb (object i) k ≡ b → b ≡ false) [
      | true ↦ λ e. absurd (false≢true (sym hs.0 ∙ found_of k a v (version (object i) v) there (ap (λ m. version m v) (eqb-true (object i) k e))))
      | false ↦ λ _. refl
    ] refl)
    (named_none object items k a v there hs.1)

not_newest : (k : ℕ) (a : Version) (v : Inv) (vs : List Version) → version k v ≡ Some a → list_any (is_of k) (newest_of vs v) ≡ false → is_newest k vs ≡ false
not_newest k a v [] there h = refl
not_newest k a v (w ∷ vs) there h =
    elim (eqb w.object k) as (λ b. eqb w.object k ≡ b → b ≡ false) [
      | true ↦ λ e. absurd (false≢true (sym h ∙ found_of k a v (version w.object v) there (ap (λ m. version m v) (eqb-true w.object k e))))
      | false ↦ λ _. refl
    ] refl

pub newest_none : (n k : ℕ) (items : List NewVersion) (a : Version) (v : Inv) → version k v ≡ Some a → list_any (is_of k) (flat_map (λ i. newest_of (versions_at n i.path v.clients.filespaces) v) items) ≡ false
    → AllByRecursion (λ i. is_newest k (versions_at n i.path v.clients.filespaces) ≡ false) items
newest_none n k [] a v there h = tt
newest_none n k (i ∷ items) a v there h =
    let vs : List Version = versions_at n i.path v.clients.filespaces in
    let rest : List Version = flat_map (λ (i : NewVersion). newest_of (versions_at n i.path v.clients.filespaces) v) items in
    let hs = or_parts (list_any (is_of k) (newest_of vs v)) (list_any (is_of k) rest) (sym (list_any-append (is_of k) (newest_of vs v) rest) ∙ h) in
    (not_newest k a v vs there hs.0, newest_none n k items a v there hs.1)

-- new objects are no objects that are there
pub new_others : {X : Type 0} (object : X → ℕ) (items : List X) (k : ℕ) (a : Version) (v : Inv) → version k v ≡ Some a → objects_refused (map object items) v ≡ [] → list_any (names_it object k) items ≡ false
new_others object [] k a v there h = refl
new_others object (i ∷ items) k a v there h =
    let here : object_refused v (object i) ≡ [] = front_nil (object_refused v (object i)) (objects_refused (map object items) v) h in
    let new : is_new_object v (object i) ≡ true = holds (is_new_object v (object i)) _ (front_nil (unless (is_new_object v (object i)) _) _ here) in
    let fresh : has_object (object i) (versions v) ≡ false = not-true (has_object (object i) (versions v)) (and_parts (nat_le 1 (object i)) (not (has_object (object i) (versions v))) new).1 in
    or_from (eqb (object i) k) (list_any (names_it object k) items)
    (elim (eqb (object i) k) as (λ b. eqb (object i) k ≡ b → b ≡ false) [
      | true ↦ λ e. absurd (false≢true (sym fresh ∙ ap (λ m. has_object m (versions v)) (eqb-true (object i) k e) ∙ has-version k (versions v) ∙ ap is_some there))
      | false ↦ λ _. refl
    ] refl)
    (new_others object items k a v there (back_nil (object_refused v (object i)) (objects_refused (map object items) v) h))

-- ---- paths

-- a group that stands has a version
pub record HasNewest (g : Group) : Type 0 where
  pub newest : Version
  pub older : List Version
  pub is : g.versions ≡ newest ∷ older

newest_in : (g : Group) → is_orderly g ≡ true → HasNewest g
newest_in g h = go g.versions refl h where
  go : (vs : List Version) → g.versions ≡ vs → is_orderly (record { class = g.class; versions = vs }) ≡ true → HasNewest g
  go [] e t = absurd (false≢true t)
  go (w ∷ vs) e t = record { newest = w; older = vs; is = e }

pub stands_newest : (f : ℕ) (p : List ℕ) (g : Group) (v : Inv) → groups_are_orderly v ≡ true → group f p v ≡ Some g → HasNewest g
stands_newest f p g v orderly there = go (filespace_at f v.clients.filespaces) refl there where
  go : (o : Option Filespace) → filespace_at f v.clients.filespaces ≡ o → grouped.group_at p (groups_in o) ≡ Some g → HasNewest g
  go None none t = absurd cc
  go (Some x) at t =
      newest_in g (all-lookup is_orderly (at_path p) x.groups g (all-lookup (λ (y : Filespace). list_all (λ z. is_orderly z.1) y.groups) (at_number f) v.clients.filespaces x orderly at) t)

-- a path that stands is among those of the same name
path_there : (n f : ℕ) (path p : List ℕ) (g : Group) (v : Inv) → group f p v ≡ Some g → at_number n f ≡ true → at_path path p ≡ true → list_any (is_path f p) (path_if n path v) ≡ true
path_there n f path p g v there here same =
    let is : group n path v ≡ Some g = ap (λ m. group m path v) (same_number n f here) ∙ ap (λ q. group f q v) (same_path path p same) ∙ there in
    ap (λ (o : Option Group). list_any (is_path f p) (only (is_some o) (record { filespace = n; path = path }))) is ∙ ap (λ b. (b && at_path path p) || false) here ∙ ap (λ b. b || false) same

pub others_paths : (n f : ℕ) (p : List ℕ) (items : List NamedVersion) (g : Group) (v : Inv) → group f p v ≡ Some g → list_any (is_path f p) (flat_map (λ i. path_if n i.path v) items) ≡ false
    → AllByRecursion (λ i. (at_number n f && at_path i.path p) ≡ false) items
others_paths n f p [] g v there h = tt
others_paths n f p (i ∷ items) g v there h =
    let rest : List PathAt = flat_map (λ (i : NamedVersion). path_if n i.path v) items in
    let hs = or_parts (list_any (is_path f p) (path_if n i.path v)) (list_any (is_path f p) rest) (sym (list_any-append (is_path f p) (path_if n i.path v) rest) ∙ h) in (
      elim (at_number n f && at_path i.path p) as (λ b. (at_number n f && at_path i.path p) ≡ b → b ≡ false) [
        | true ↦ λ e. let both = and_parts (at_number n f) (at_path i.path p) e in absurd (false≢true (sym hs.0 ∙ path_there n f i.path p g v there both.0 both.1))
        | false ↦ λ _. refl
      ] refl,
      others_paths n f p items g v there hs.1,
    )

-- a path that isn't among those of objects that go has none of these
not_going_in : (n f : ℕ) (p : List ℕ) (items : List DiscardedVersion) (g : Group) (v : Inv) (groups : List (List ℕ × Group)) → group f p v ≡ Some g → at_number n f ≡ true → lookup (at_path p) groups ≡ Some g
    → list_any (is_path f p) (flat_map (λ x. path_going items n x.0 x.1 v) groups) ≡ false → has_going items g.versions ≡ false
not_going_in n f p items g v [] there here at h = absurd cc
not_going_in n f p items g v (x ∷ groups) there here at h =
    let rest : List PathAt = flat_map (λ (x : List ℕ × Group). path_going items n x.0 x.1 v) groups in
    let hs = or_parts (list_any (is_path f p) (path_going items n x.0 x.1 v)) (list_any (is_path f p) rest) (sym (list_any-append (is_path f p) (path_going items n x.0 x.1 v) rest) ∙ h) in
    elim (at_path p x.0) as (λ b. at_path p x.0 ≡ b → cond b (Some x.1) (lookup (at_path p) groups) ≡ Some g → has_going items g.versions ≡ false) [
      | true ↦ λ same t.
          let is : x.1 ≡ g = cc in
          let back : at_path x.0 p ≡ true = ap (at_path x.0) (same_path p x.0 same) ∙ path_itself x.0 in
          ap (λ (y : Group). has_going items y.versions) (sym is)
          ∙ elim (has_going items x.1.versions) as (λ b. has_going items x.1.versions ≡ b → b ≡ false) [
            | true ↦ λ goes.
                absurd (false≢true (sym hs.0 ∙ ap (λ b. list_any (is_path f p) (cond b (path_if n x.0 v) [])) goes ∙ path_there n f x.0 p g v there here back))
            | false ↦ λ _. refl
          ] refl
      | false ↦ λ _ t. not_going_in n f p items g v groups there here t hs.1
    ] refl at

-- an object that goes lies in the filespace of the path that has it
named_lies : (f o : ℕ) (items : List DiscardedVersion) (v : Inv) → filespace_of o v ≡ Some f → list_any (λ (i : DiscardedVersion). eqb i.object o) items ≡ true → lie_in items f v ≡ true
named_lies f o [] v there h = absurd (false≢true h)
named_lies f o (i ∷ items) v there h =
    elim (eqb i.object o) as (λ b. eqb i.object o ≡ b → (b || list_any (λ (i : DiscardedVersion). eqb i.object o) items) ≡ true → (is_in f (filespace_of i.object v) || lie_in items f v) ≡ true) [
      | true ↦ λ e _. ap (λ x. is_in f x || lie_in items f v) (ap (λ m. filespace_of m v) (eqb-true i.object o e) ∙ there) ∙ ap (λ b. b || lie_in items f v) (eq-eqb f f refl)
      | false ↦ λ _ t. ap (λ b. is_in f (filespace_of i.object v) || b) (named_lies f o items v there t) ∙ elim (is_in f (filespace_of i.object v)) as (λ b. (b || true) ≡ true) [ true ↦ refl | false ↦ refl ]
    ] refl h

going_lies : (f : ℕ) (items : List DiscardedVersion) (v : Inv) (vs : List Version) → ((o : ℕ) → has_object o vs ≡ true → filespace_of o v ≡ Some f) → has_going items vs ≡ true → lie_in items f v ≡ true
going_lies f items v [] lies h = absurd (false≢true h)
going_lies f items v (w ∷ vs) lies h =
    elim (list_any (λ (i : DiscardedVersion). eqb i.object w.object) items) as (λ b. list_any (λ (i : DiscardedVersion). eqb i.object w.object) items ≡ b → (b || has_going items vs) ≡ true → lie_in items f v ≡ true) [
      | true ↦ λ e _. named_lies f w.object items v (lies w.object (ap (λ b. b || has_object w.object vs) (eq-eqb w.object w.object refl))) e
      | false ↦ λ _ t. going_lies f items v vs (λ o has. lies o (ap (λ b. eqb w.object o || b) has ∙ elim (eqb w.object o) as (λ b. (b || true) ≡ true) [ true ↦ refl | false ↦ refl ])) t
    ] refl h

-- the objects of a path lie in its filespace
lies_at : (f o : ℕ) (p : List ℕ) (g : Group) (v : Inv) → are_distinct (versions v) ≡ true → group f p v ≡ Some g → has_object o g.versions ≡ true → filespace_of o v ≡ Some f
lies_at f o p g v distinct there has =
    ap (λ (x : Option Place). option_or (option_map (λ (y : Place). y.filespace) x) (option_map (λ (r : HeldRow). r.filespace) (held_at o v.clients.held)))
    (place_of_path f o p v distinct (ap (λ (x : Option Group). has_object o (grouped.versions_in x)) there ∙ has))

not_going_from : (n f : ℕ) (p : List ℕ) (items : List DiscardedVersion) (g : Group) (v : Inv) (x : Filespace) → are_distinct (versions v) ≡ true → group f p v ≡ Some g → at_number f n ≡ true → lookup (at_path p) x.groups ≡ Some g
    → list_any (is_path f p) (going_from items n x v) ≡ false → has_going items g.versions ≡ false
not_going_from n f p items g v x distinct there same at h =
    elim (has_going items g.versions) as (λ b. has_going items g.versions ≡ b → b ≡ false) [
      | true ↦ λ goes.
          let lies : lie_in items n v ≡ true = ap (λ m. lie_in items m v) (sym (same_number f n same)) ∙ going_lies f items v g.versions (λ o has. lies_at f o p g v distinct there has) goes in
          let none : list_any (is_path f p) (going_in items n x v) ≡ false = sym (ap (λ b. list_any (is_path f p) (cond b (going_in items n x v) [])) lies) ∙ h in
          sym goes ∙ not_going_in n f p items g v x.groups there (ap (at_number n) (same_number f n same) ∙ at_itself n) at none
      | false ↦ λ _. refl
    ] refl

pub not_going : (f : ℕ) (p : List ℕ) (items : List DiscardedVersion) (g : Group) (v : Inv) (fs : List (ℕ × Filespace)) → are_distinct (versions v) ≡ true → group f p v ≡ Some g → grouped.group_at p (groups_in (filespace_at f fs)) ≡ Some g
    → list_any (is_path f p) (going items fs v) ≡ false → has_going items g.versions ≡ false
not_going f p items g v [] distinct there at h = absurd cc
not_going f p items g v (x ∷ fs) distinct there at h =
    let hs = or_parts (list_any (is_path f p) (going_from items x.0 x.1 v)) (list_any (is_path f p) (going items fs v)) (sym (list_any-append (is_path f p) (going_from items x.0 x.1 v) (going items fs v)) ∙ h) in
    elim (at_number f x.0) as (λ b. at_number f x.0 ≡ b → grouped.group_at p (groups_in (cond b (Some x.1) (filespace_at f fs))) ≡ Some g → has_going items g.versions ≡ false) [
      | true ↦ λ same t. not_going_from x.0 f p items g v x.1 distinct there same t hs.0
      | false ↦ λ _ t. not_going f p items g v fs distinct there t hs.1
    ] refl at

-- an object of a path from which nothing goes isn't one that goes
pub not_named : (items : List DiscardedVersion) (g : Group) (h : HasNewest g) → has_going items g.versions ≡ false → list_any (names_it (λ i. i.object) h.newest.object) items ≡ false
not_named items g h none = (or_parts (list_any (names_it (λ (i : DiscardedVersion). i.object) h.newest.object) items) (has_going items h.older) (ap (has_going items) (sym h.is) ∙ none)).0
