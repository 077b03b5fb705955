-- What a transaction removes is kept nowhere behind it.
use Rattle.std.proofs.Common.{◌≡◌, ◌⊎◌, inl, inr, ℕ, true, false, eqb, not, ◌||◌, List, [], ◌∷◌, ◌++◌, map, Some, Result, refl, sym, ap, subst, ◌∙◌}
use Rattle.std.proofs.lemmas.Bool.{and_parts, eqb-false, eqb-true, eq-eqb, ne_eqb, not-true, or_left, or_right}
use Rattle.std.specs.List.{list_all, AllByRecursion}
use Rattle.std.specs.Option.{is_some, option_map_or}
use Rattle.kinds.specs.Refusals.{bad_value, unless}
use Rattle.kinds.specs.declared.refusal.Refusal.{Refusal}
use Rattle.entries.specs.change_items.declared.items.NamedVersion.{NamedVersion}
use Rattle.entries.specs.change_items.declared.lists.NamedVersions.{NamedVersions}
use Rattle.entries.specs.declared.change.Change.TheVariants.{Expire}
use Rattle.inventory_rows.specs.version_groups.declared.versions.Version.{Version}
use Rattle.inventory_rows.specs.version_groups.Versions.{are_distinct, has_object}
use Rattle.inventory_rows.proofs.of_version_groups.Lists.{version_of-object}
use Rattle.inventory_rows.specs.object_rows.Filespaces.{versions_at}
use Rattle.inventory_rows.specs.object_rows.HeldRows.{has_under, is_under as row_under}
use Rattle.inventory_rows.specs.object_rows.Places.{place_of}
use Rattle.inventory_rows.specs.object_rows.Rows.{Rows, rows_cleared}
use Rattle.inventory_rows.proofs.of_object_rows.Splices.{Splices}
use Rattle.inventory_rows.proofs.of_object_rows.VersionLists.{apart_behind, parted}
use Rattle.inventory_rows.specs.Search.{version, versions}
use Rattle.inventory_rows.specs.State.{Inv}
use Rattle.inventory_rules.specs.Common.{each, with_clients}
use Rattle.inventory_rules.specs.Halfway.{VersionFacts}
use Rattle.inventory_rules.specs.Journal.{Journal}
use Rattle.inventory_rules.specs.Ordered.{IsOrdered}
use Rattle.inventory_rules.specs.Transactions.{causes, effect}
use Rattle.inventory_rules.specs.Valid.{is_valid}
use Rattle.inventory_rules.specs.Versions.{expire, expired_refused, is_under, name_once}
use Rattle.inventory_laws.specs.Kept.{clients_after}
use Rattle.inventory_laws.proofs.Arriving.{has-append, has-version}
use Rattle.inventory_laws.proofs.Facts.{facts_of}
use Rattle.inventory_laws.proofs.Leaves.{Goes, after_is, cleared, facts_after, ordered_after, other_after}
use Rattle.inventory_laws.proofs.Others.{path_of_place}
use Rattle.inventory_laws.proofs.Removals.{Expires, expire_found, none_of_each}
use Rattle.inventory_laws.proofs.ScratchList.{none_of_both, unless_not}
use Rattle.inventory_laws.proofs.VersionsWhole.{begins, ordered_elsewhere}
use Rattle.inventory_laws.proofs.VolumeItems.{removes_kept, versions_kept}
use Rattle.expiration.proofs.Listing.{Member}

-- the facts of the objects between two items, and that the rows stand in order
record Rowed (n : ℕ) (v : Inv) : Type 0 where
  pub facts : VersionFacts n v
  pub ordered : IsOrdered v

-- nothing is kept of the object
abbrev pub IsAbsent : ℕ → Inv → Type 0
IsAbsent object v = has_object object (versions v) ≡ false

abbrev by_path : ℕ → NamedVersion → Rows → Result Rows Refusal
by_path filespace i = rows_cleared filespace i.path i.object

-- ---- one object

under : (n filespace : ℕ) (i : NamedVersion) (v : Inv) → Rowed n v → Expires filespace i v → is_under filespace i.path i.object v ≡ true
under n filespace i v r e =
    elim e.stands as (λ _. (has_under filespace i.path i.object v.clients.held || has_object i.object (versions_at filespace i.path v.clients.filespaces)) ≡ true) [
      | inl h ↦ or_left (has_under filespace i.path i.object v.clients.held) (has_object i.object (versions_at filespace i.path v.clients.filespaces)) h
      | inr p ↦ or_right (has_under filespace i.path i.object v.clients.held) (has_object i.object (versions_at filespace i.path v.clients.filespaces))
          (path_of_place n i.object v (record { filespace = filespace; path = i.path }) r.facts r.ordered p)
    ]

goes : (n filespace : ℕ) (i : NamedVersion) (v : Inv) → Rowed n v → (e : Expires filespace i v) → Goes n i.object e.old v (by_path filespace i v.clients)
goes n filespace i v r e = cleared n filespace i.object i.path v e.old r.facts e.found (under n filespace i v r e)

-- the rows behind it
rows_are : (n filespace : ℕ) (i : NamedVersion) (v : Inv) (old : Version) → (g : Goes n i.object old v (by_path filespace i v.clients)) → (expire filespace i v).clients ≡ g.rows
rows_are n filespace i v old g =
    ap (λ (x : Inv). x.clients) (removes_kept (by_path filespace i) i.object v).only ∙ ap (λ (x : Inv). x.clients) (after_is n i.object old v (by_path filespace i) g)

rowed : (n filespace : ℕ) (i : NamedVersion) (v : Inv) → Rowed n v → Expires filespace i v → Rowed n (expire filespace i v)
rowed n filespace i v r e =
    let g : Goes n i.object e.old v (by_path filespace i v.clients) = goes n filespace i v r e in
    let k = removes_kept (by_path filespace i) i.object v in
    record {
      facts = versions_kept n (clients_after (by_path filespace i) v) (expire filespace i v) k (facts_after n i.object e.old v (by_path filespace i) g);
      ordered = ordered_elsewhere (clients_after (by_path filespace i) v) (expire filespace i v) (ap (λ (x : Inv). x.clients) k.only)
          (ordered_after n i.object e.old v (by_path filespace i) g r.ordered);
    }

-- where one element goes from versions of which no two are of one object, none is left of its object
spliced-absent : (k : ℕ) (old : Version) (vs ws : List Version) → are_distinct vs ≡ true → eqb old.object k ≡ true → Splices (old ∷ []) [] vs ws → has_object k ws ≡ false
spliced-absent k old vs ws d here s =
    let all : are_distinct (s.before ++ (old ∷ s.after)) ≡ true = ap are_distinct (sym s.was) ∙ d in
    let there : has_object k (old ∷ s.after) ≡ true = ap (λ b. b || has_object k s.after) here in
    let before : has_object k s.before ≡ false = apart_behind k s.before (old ∷ s.after) all there in
    let rest : are_distinct ((old ∷ []) ++ s.after) ≡ true = (parted s.before (old ∷ s.after) all).behind in
    let behind : has_object k s.after ≡ false = (parted (old ∷ []) s.after rest).apart k (ap (λ b. b || false) here) in
    ap (has_object k) s.becomes ∙ has-append k s.before s.after ∙ ap (λ b. b || has_object k s.after) before ∙ behind

-- of the object nothing is kept then
absent : (n filespace : ℕ) (i : NamedVersion) (v : Inv) → Rowed n v → Expires filespace i v → IsAbsent i.object (expire filespace i v)
absent n filespace i v r e =
    let g : Goes n i.object e.old v (by_path filespace i v.clients) = goes n filespace i v r e in
    let is : versions (expire filespace i v) ≡ versions (with_clients g.rows v) = ap (λ (c : Rows). versions (with_clients c v)) (rows_are n filespace i v e.old g) in
    ap (has_object i.object) is
    ∙ spliced-absent i.object e.old (versions v) (versions (with_clients g.rows v)) r.facts.objects_apart (eq-eqb e.old.object i.object (version_of-object i.object (versions v) e.old e.found))
    g.leaves.spliced

-- of another object it is as it was
other : (n filespace k : ℕ) (i : NamedVersion) (v : Inv) → eqb k i.object ≡ false → Rowed n v → Expires filespace i v → version k (expire filespace i v) ≡ version k v
other n filespace k i v ne r e =
    ap (version k) (removes_kept (by_path filespace i) i.object v).only ∙ other_after n i.object k e.old v (by_path filespace i) e.found (goes n filespace i v r e) ne

other-absent : (n filespace k : ℕ) (i : NamedVersion) (v : Inv) → Rowed n v → Expires filespace i v → IsAbsent k v → IsAbsent k (expire filespace i v)
other-absent n filespace k i v r e h =
    elim (eqb k i.object) as (λ b. eqb k i.object ≡ b → IsAbsent k (expire filespace i v)) [
      | true ↦ λ t. subst (λ (m : ℕ). IsAbsent m (expire filespace i v)) (sym (eqb-true k i.object t)) (absent n filespace i v r e)
      | false ↦ λ ne. has-version k (versions (expire filespace i v)) ∙ ap is_some (other n filespace k i v ne r e) ∙ sym (has-version k (versions v)) ∙ h
    ] refl

-- another one that can go still can
abbrev Stands : ℕ → NamedVersion → Rows → Type 0
Stands filespace k c = (has_under filespace k.path k.object c.held ≡ true) ⊎ (place_of k.object c.filespaces ≡ Some (record { filespace = filespace; path = k.path }))

still : (n filespace : ℕ) (i k : NamedVersion) (v : Inv) → eqb k.object i.object ≡ false → Rowed n v → Expires filespace i v → Expires filespace k v → Expires filespace k (expire filespace i v)
still n filespace i k v ne r e f =
    let g : Goes n i.object e.old v (by_path filespace i v.clients) = goes n filespace i v r e in
    let there : Stands filespace k g.rows = elim f.stands as (λ _. Stands filespace k g.rows) [
      | inl h ↦ inl (ap (λ o. option_map_or (row_under filespace k.path) o false) (g.leaves.held k.object ne) ∙ h)
      | inr p ↦ inr (g.leaves.places k.object ne ∙ p)
    ] in
    record {
      old = f.old;
      found = other n filespace k.object i v ne r e ∙ f.found;
      stands = subst (Stands filespace k) (sym (rows_are n filespace i v e.old g)) there;
    }

-- ---- one after the other

abbrev CanAll : ℕ → List NamedVersion → Inv → Type 0
CanAll filespace items v = AllByRecursion (λ i. Expires filespace i v) items

abbrev numbers_of : List NamedVersion → List ℕ
numbers_of items = map (λ (i : NamedVersion). i.object) items

turned : (a b : ℕ) → not (eqb a b) ≡ true → eqb b a ≡ false
turned a b h = ne_eqb b a (λ t. eqb-false a b (not-true (eqb a b) h) (sym t))

others : (n filespace : ℕ) (i : NamedVersion) (items : List NamedVersion) (v : Inv) → Rowed n v → Expires filespace i v → list_all (λ b. not (eqb i.object b)) (numbers_of items) ≡ true
    → CanAll filespace items v
    → CanAll filespace items (expire filespace i v)
others n filespace i [] v r e apart h = tt
others n filespace i (k ∷ items) v r e apart h =
    let parts = and_parts (not (eqb i.object k.object)) (list_all (λ b. not (eqb i.object b)) (numbers_of items)) apart in
    (still n filespace i k v (turned i.object k.object parts.0) r e h.0, others n filespace i items v r e parts.1 h.1)

stays-absent : (n filespace k : ℕ) (items : List NamedVersion) (v : Inv) → Rowed n v → CanAll filespace items v → name_once (numbers_of items) ≡ true → IsAbsent k v
    → IsAbsent k (each (expire filespace) items v)
stays-absent n filespace k [] v r h once a = a
stays-absent n filespace k (i ∷ items) v r h once a =
    let parts = and_parts (list_all (λ b. not (eqb i.object b)) (numbers_of items)) (name_once (numbers_of items)) once in
    stays-absent n filespace k items (expire filespace i v) (rowed n filespace i v r h.0) (others n filespace i items v r h.0 parts.0 h.1) parts.1 (other-absent n filespace k i v r h.0 a)

all-absent : (n filespace : ℕ) (k : NamedVersion) (items : List NamedVersion) (v : Inv) → Rowed n v → CanAll filespace items v → name_once (numbers_of items) ≡ true → Member k items
    → IsAbsent k.object (each (expire filespace) items v)
all-absent n filespace k [] v r h once m = absurd m
all-absent n filespace k (i ∷ items) v r h once (inl same) =
    let parts = and_parts (list_all (λ b. not (eqb i.object b)) (numbers_of items)) (name_once (numbers_of items)) once in
    subst (λ (x : NamedVersion). IsAbsent x.object (each (expire filespace) items (expire filespace i v))) same
    (stays-absent n filespace i.object items (expire filespace i v) (rowed n filespace i v r h.0) (others n filespace i items v r h.0 parts.0 h.1) parts.1 (absent n filespace i v r h.0))
all-absent n filespace k (i ∷ items) v r h once (inr m) =
    let parts = and_parts (list_all (λ b. not (eqb i.object b)) (numbers_of items)) (name_once (numbers_of items)) once in
    all-absent n filespace k items (expire filespace i v) (rowed n filespace i v r h.0) (others n filespace i items v r h.0 parts.0 h.1) parts.1 m

-- ---- the transaction

pub removed-absent : (j : Journal) (c : NamedVersions) (v : Inv) (k : NamedVersion) → is_valid v ≡ true → IsOrdered v → causes j (Expire c) v ≡ [] → Member k c.items
    → IsAbsent k.object (effect (Expire c) v)
unfolding effect
removed-absent j c v k valid ordered cause m =
    let facts : VersionFacts v.number v = begins v (facts_of v valid) in
    let parts = none_of_both (unless (name_once (numbers_of c.items)) bad_value) _ cause in
    all-absent v.number c.filespace k c.items v (record { facts = facts; ordered = ordered })
    (none_of_each (expired_refused j c.filespace v) (λ i. Expires c.filespace i v) (expire_found j c.filespace v.number v facts) c.items parts.1)
    (unless_not (name_once (numbers_of c.items)) bad_value parts.0) m
