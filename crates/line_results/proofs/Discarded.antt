-- What discards leave in a filespace: nothing that they name, and nothing that wasn't there.
use Rattle.std.proofs.Common.{◌≡◌, ℕ, Bool, true, false, eqb, not, ◌||◌, List, [], ◌∷◌, ◌++◌, map, Option, Some, None, Result, Ok, Err, if◌then◌else◌, refl, sym, ap, subst, ◌∙◌}
use Rattle.std.proofs.lemmas.Bool.{and_parts, eqb-false, eqb-true, false≢true, ne_eqb}
use Rattle.std.specs.Prelude.{is_some}
use Rattle.std.specs.List.{AllByRecursion, flat_map, list_all, list_any}
use Rattle.std.specs.Map.{lookup}
use Rattle.std.specs.Option.{option_map, option_or}
use Rattle.kinds.specs.Refusals.{bad_value, unless}
use Rattle.kinds.specs.declared.refusal.Refusal.{Refusal}
use Rattle.entries.specs.change_items.declared.items.DiscardedVersion.{DiscardedVersion}
use Rattle.entries.specs.change_items.declared.lists.DiscardedVersions.{DiscardedVersions}
use Rattle.entries.specs.declared.change.Change.TheVariants as change
use Rattle.inventory_rows.specs.object_rows.declared.held_object.HeldRow.{HeldRow}
use Rattle.inventory_rows.specs.object_rows.declared.place.Place.{Place}
use Rattle.inventory_rows.specs.object_rows.Filespaces.{at_number, filespace_at, filespaces_after, versions_of}
use Rattle.inventory_rows.specs.object_rows.HeldRows.{has_row, held_at, held_versions, held_without}
use Rattle.inventory_rows.specs.object_rows.Places.{listed, place_of}
use Rattle.inventory_rows.specs.object_rows.Rows.{Rows, filespace_of_kept, filespaces_cleared, rows_without, with_filespaces, with_held}
use Rattle.inventory_rows.specs.version_groups.declared.group.GroupChange.TheVariants.{Remove}
use Rattle.inventory_rows.specs.version_groups.declared.groups.Filespace.{Filespace}
use Rattle.inventory_rows.specs.version_groups.declared.versions.Version.{Version}
use Rattle.inventory_rows.specs.version_groups.Versions.{are_distinct, has_object}
use Rattle.inventory_rows.specs.Search.{filespace_of, version, versions}
use Rattle.inventory_rows.specs.State.{Inv}
use Rattle.inventory_rows.proofs.of_object_rows.Stands.{has-listed}
use Rattle.inventory_rows.proofs.of_version_groups.Lists.{version_of-object}
use Rattle.inventory_rules.specs.Common.{each, or_same, with_clients}
use Rattle.inventory_rules.specs.Halfway.{VersionFacts}
use Rattle.inventory_rules.specs.Journal.{Journal}
use Rattle.inventory_rules.specs.Ordered.{IsOrdered}
use Rattle.inventory_rules.specs.Transactions.{causes, effect}
use Rattle.inventory_rules.specs.Valid.{is_valid}
use Rattle.inventory_rules.specs.Versions.{discard, discarded_refused, name_once}
use Rattle.inventory_laws.specs.Kept.{OnlyVolumes, clients_after}
use Rattle.inventory_laws.proofs.Arriving.{has-append, has-version}
use Rattle.inventory_laws.proofs.Facts.{facts_of}
use Rattle.inventory_laws.proofs.Frames.{frames, same_there}
use Rattle.inventory_laws.proofs.Grouped.{frames_changed}
use Rattle.inventory_laws.proofs.Leaves.{Goes, after_is, facts_after, ordered_after, other_after, without}
use Rattle.inventory_laws.proofs.PutSteps.{held_none}
use Rattle.inventory_laws.proofs.Removals.{Found, discard_found, none_of_each}
use Rattle.inventory_laws.proofs.VersionsWhole.{begins, ordered_elsewhere}
use Rattle.inventory_laws.proofs.VolumeItems.{removes_kept, versions_kept}
use Rattle.machine.proofs.Elsewhere.{append-none}

-- ---- lists of versions

not-true : (b : Bool) → not b ≡ true → b ≡ false
not-true true h = absurd (false≢true h)
not-true false h = refl

pub both-false : (a b : Bool) → a ≡ false → b ≡ false → (a || b) ≡ false
both-false a b h k = ap (λ (x : Bool). x || b) h ∙ k

pub left-false : (a b : Bool) → (a || b) ≡ false → a ≡ false
left-false true b h = h
left-false false b h = refl

turned : (a b : ℕ) → eqb a b ≡ false → eqb b a ≡ false
turned a b h = ne_eqb b a (λ e. eqb-false a b h (sym e))

pub none-of : {A : Type 0} (o : Option A) → is_some o ≡ false → o ≡ None
none-of None h = refl
none-of (Some x) h = absurd (false≢true (sym h))

in-middle : {A : Type 0} (p : A → Bool) (x : A) (before after : List A) → list_all p (before ++ (x ∷ after)) ≡ true → p x ≡ true
in-middle p x [] after h = (and_parts (p x) (list_all p after) h).0
in-middle p x (b ∷ before) after h = in-middle p x before after (and_parts (p b) (list_all p (before ++ (x ∷ after))) h).1

pub apart-after : (old : Version) (ws : List Version) → list_all (λ (w : Version). not (eqb w.object old.object)) ws ≡ true → has_object old.object ws ≡ false
apart-after old [] h = refl
apart-after old (w ∷ ws) h =
    let t = and_parts (not (eqb w.object old.object)) (list_all (λ (x : Version). not (eqb x.object old.object)) ws) h in
    both-false (eqb w.object old.object) (has_object old.object ws) (not-true (eqb w.object old.object) t.0) (apart-after old ws t.1)

-- of versions each of which has a number of its own one went
is-gone : (old : Version) (before after : List Version) → are_distinct (before ++ (old ∷ after)) ≡ true → has_object old.object (before ++ after) ≡ false
is-gone old [] after h = apart-after old after (and_parts (list_all (λ (w : Version). not (eqb w.object old.object)) after) (are_distinct after) h).0
is-gone old (b ∷ before) after h =
    let t = and_parts (list_all (λ (w : Version). not (eqb w.object b.object)) (before ++ (old ∷ after))) (are_distinct (before ++ (old ∷ after))) h in
    both-false (eqb b.object old.object) (has_object old.object (before ++ after))
    (turned old.object b.object (not-true (eqb old.object b.object) (in-middle (λ (w : Version). not (eqb w.object b.object)) old before after t.0))) (is-gone old before after t.1)

-- ---- one object goes

-- what holds of versions, and the order of the rows
pub record InOrder (n : ℕ) (v : Inv) : Type 0 where
  pub facts : VersionFacts n v
  pub ordered : IsOrdered v

module _ (n : ℕ) (item : DiscardedVersion) (v : Inv) (h : InOrder n v) (d : Found item.object v) where
  leaves : Goes n item.object d.old v (rows_without item.object v.clients)
  leaves = without n item.object v d.old h.facts h.ordered d.found

  kept : OnlyVolumes (clients_after (rows_without item.object) v) (discard item v)
  kept = removes_kept (rows_without item.object) item.object v

  rows-are : (discard item v).clients ≡ leaves.rows
  rows-are = ap (λ (x : Inv). x.clients) kept.only ∙ ap (λ (x : Inv). x.clients) (after_is n item.object d.old v (rows_without item.object) leaves)

  order-goes : InOrder n (discard item v)
  order-goes = record {
    facts = versions_kept n (clients_after (rows_without item.object) v) (discard item v) kept (facts_after n item.object d.old v (rows_without item.object) leaves);
    ordered = ordered_elsewhere (clients_after (rows_without item.object) v) (discard item v) (ap (λ (x : Inv). x.clients) kept.only) (ordered_after n item.object d.old v (rows_without item.object) leaves h.ordered);
  }

  version-other : (other : ℕ) → eqb other item.object ≡ false → version other (discard item v) ≡ version other v
  version-other other ne = ap (version other) kept.only ∙ other_after n item.object other d.old v (rows_without item.object) d.found leaves ne

  -- where another object is kept
  space-other : (other : ℕ) → eqb other item.object ≡ false → filespace_of other (discard item v) ≡ filespace_of other v
  space-other other ne =
      ap (filespace_of_kept other) rows-are
      ∙ ap (λ (p : Option Place). option_or (option_map (λ (place : Place). place.filespace) p) (option_map (λ (row : HeldRow). row.filespace) (held_at other leaves.rows.held))) (leaves.leaves.places other ne)
      ∙ ap (λ (r : Option HeldRow). option_or (option_map (λ (place : Place). place.filespace) (place_of other v.clients.filespaces)) (option_map (λ (row : HeldRow). row.filespace) r)) (leaves.leaves.held other ne)

  has-gone : has_object item.object (versions (with_clients leaves.rows v)) ≡ false
  has-gone =
      let s = leaves.leaves.spliced in
      let apart : are_distinct (s.before ++ (d.old ∷ s.after)) ≡ true = subst (λ (l : List Version). are_distinct l ≡ true) s.was h.facts.objects_apart in
      let number : d.old.object ≡ item.object = version_of-object item.object (versions v) d.old d.found in
      ap (has_object item.object) s.becomes ∙ subst (λ (k : ℕ). has_object k (s.before ++ s.after) ≡ false) number (is-gone d.old s.before s.after apart)

  place-gone : place_of item.object leaves.rows.filespaces ≡ None
  place-gone =
      none-of (place_of item.object leaves.rows.filespaces) (has-listed item.object leaves.rows.filespaces
      ∙ left-false (has_object item.object (versions_of leaves.rows.filespaces)) (has_object item.object (held_versions leaves.rows.held))
      (sym (has-append item.object (versions_of leaves.rows.filespaces) (held_versions leaves.rows.held)) ∙ has-gone))

  -- it is kept nowhere
  space-itself : filespace_of item.object (discard item v) ≡ None
  space-itself =
      ap (filespace_of_kept item.object) rows-are
      ∙ ap (λ (p : Option Place). option_or (option_map (λ (place : Place). place.filespace) p) (option_map (λ (row : HeldRow). row.filespace) (held_at item.object leaves.rows.held))) place-gone
      ∙ ap (λ (r : Option HeldRow). option_or (option_map (λ (place : Place). place.filespace) None) (option_map (λ (row : HeldRow). row.filespace) r)) (held_none item.object (with_clients leaves.rows v) leaves.leaves.facts.held has-gone)

  -- and has no version
  version-itself : version item.object (discard item v) ≡ None
  version-itself =
      ap (version item.object) kept.only ∙ ap (version item.object) (after_is n item.object d.old v (rows_without item.object) leaves)
      ∙ none-of (version item.object (with_clients leaves.rows v)) (sym (has-version item.object (versions (with_clients leaves.rows v))) ∙ has-gone)

-- ---- several, one after the other

found-on : (n : ℕ) (item : DiscardedVersion) (v : Inv) (h : InOrder n v) (d : Found item.object v) (items : List DiscardedVersion) → list_all (λ b. not (eqb item.object b)) (map (λ (i : DiscardedVersion). i.object) items) ≡ true
    → AllByRecursion (λ (i : DiscardedVersion). Found i.object v) items → AllByRecursion (λ (i : DiscardedVersion). Found i.object (discard item v)) items
found-on n item v h d [] apart found = tt
found-on n item v h d (k ∷ items) apart found =
    let t = and_parts (not (eqb item.object k.object)) (list_all (λ b. not (eqb item.object b)) (map (λ (i : DiscardedVersion). i.object) items)) apart in
    let ne : eqb k.object item.object ≡ false = turned item.object k.object (not-true (eqb item.object k.object) t.0) in
    (record { old = found.0.old; found = version-other n item v h d k.object ne ∙ found.0.found }, found-on n item v h d items t.1 found.1)

after-run : (filespace n : ℕ) (items : List DiscardedVersion) (v : Inv) → InOrder n v → AllByRecursion (λ (i : DiscardedVersion). Found i.object v) items → name_once (map (λ (i : DiscardedVersion). i.object) items) ≡ true → (m : ℕ)
    → filespace_of m (each discard items v) ≡ Some filespace → (filespace_of m v ≡ Some filespace) × (list_any (λ (i : DiscardedVersion). eqb i.object m) items ≡ false)
after-run filespace n [] v h found once m is = (is, refl)
after-run filespace n (i ∷ items) v h found once m is =
    let parts = and_parts (list_all (λ b. not (eqb i.object b)) (map (λ (x : DiscardedVersion). x.object) items)) (name_once (map (λ (x : DiscardedVersion). x.object) items)) once in
    let rest = after-run filespace n items (discard i v) (order-goes n i v h found.0) (found-on n i v h found.0 items parts.0 found.1) parts.1 m is in
    elim (eqb m i.object) as (λ b. eqb m i.object ≡ b → (filespace_of m v ≡ Some filespace) × ((eqb i.object m || list_any (λ (x : DiscardedVersion). eqb x.object m) items) ≡ false)) [
      | true ↦ λ same. (let there : filespace_of i.object (discard i v) ≡ Some filespace = subst (λ (k : ℕ). filespace_of k (discard i v) ≡ Some filespace) (eqb-true m i.object same) rest.0 in
          let odd : None ≡ Some filespace = sym (space-itself n i v h found.0) ∙ there in cc)
      | false ↦ λ other. (sym (space-other n i v h found.0 m other) ∙ rest.0, both-false (eqb i.object m) (list_any (λ (x : DiscardedVersion). eqb x.object m) items) (turned m i.object other) rest.1)
    ] refl

versions-run : (n : ℕ) (items : List DiscardedVersion) (v : Inv) → InOrder n v → AllByRecursion (λ (i : DiscardedVersion). Found i.object v) items → name_once (map (λ (i : DiscardedVersion). i.object) items) ≡ true → (m : ℕ) (w : Version)
    → version m (each discard items v) ≡ Some w → (version m v ≡ Some w) × (list_any (λ (i : DiscardedVersion). eqb i.object m) items ≡ false)
versions-run n [] v h found once m w is = (is, refl)
versions-run n (i ∷ items) v h found once m w is =
    let parts = and_parts (list_all (λ b. not (eqb i.object b)) (map (λ (x : DiscardedVersion). x.object) items)) (name_once (map (λ (x : DiscardedVersion). x.object) items)) once in
    let rest = versions-run n items (discard i v) (order-goes n i v h found.0) (found-on n i v h found.0 items parts.0 found.1) parts.1 m w is in
    elim (eqb m i.object) as (λ b. eqb m i.object ≡ b → (version m v ≡ Some w) × ((eqb i.object m || list_any (λ (x : DiscardedVersion). eqb x.object m) items) ≡ false)) [
      | true ↦ λ same. (let there : version i.object (discard i v) ≡ Some w = subst (λ (k : ℕ). version k (discard i v) ≡ Some w) (eqb-true m i.object same) rest.0 in
          let odd : None ≡ Some w = sym (version-itself n i v h found.0) ∙ there in cc)
      | false ↦ λ other. (sym (version-other n i v h found.0 m other) ∙ rest.0, both-false (eqb i.object m) (list_any (λ (x : DiscardedVersion). eqb x.object m) items) (turned m i.object other) rest.1)
    ] refl

run-order : (n : ℕ) (items : List DiscardedVersion) (v : Inv) → InOrder n v → AllByRecursion (λ (i : DiscardedVersion). Found i.object v) items → name_once (map (λ (i : DiscardedVersion). i.object) items) ≡ true
    → InOrder n (each discard items v)
run-order n [] v h found once = h
run-order n (i ∷ items) v h found once =
    let parts = and_parts (list_all (λ b. not (eqb i.object b)) (map (λ (x : DiscardedVersion). x.object) items)) (name_once (map (λ (x : DiscardedVersion). x.object) items)) once in
    run-order n items (discard i v) (order-goes n i v h found.0) (found-on n i v h found.0 items parts.0 found.1) parts.1

-- ---- a transaction

unless-none : (b : Bool) (e : Refusal) → unless b e ≡ [] → b ≡ true
unless-none true e is = refl
unless-none false e is = absurd cc

-- what it names is there, each object once
record Named (c : DiscardedVersions) (v : Inv) : Type 0 where
  found : AllByRecursion (λ (i : DiscardedVersion). Found i.object v) c.items
  once : name_once (map (λ (i : DiscardedVersion). i.object) c.items) ≡ true

named : (j : Journal) (c : DiscardedVersions) (v : Inv) → causes j (change.Discard c) v ≡ [] → Named c v
named j c v legal =
    let parts = append-none (unless (name_once (map (λ (i : DiscardedVersion). i.object) c.items)) bad_value) (flat_map (discarded_refused j c.reason v) c.items) legal in
    record {
      found = none_of_each (discarded_refused j c.reason v) (λ (i : DiscardedVersion). Found i.object v) (discard_found j c.reason v) c.items parts.1;
      once = unless-none (name_once (map (λ (i : DiscardedVersion). i.object) c.items)) bad_value parts.0;
    }

pub in-order : (v : Inv) → is_valid v ≡ true → IsOrdered v → InOrder v.number v
in-order v valid ordered = record { facts = begins v (facts_of v valid); ordered = ordered }

-- what is kept in a filespace behind it was kept there before, and isn't named
pub discarded-left : (filespace : ℕ) (j : Journal) (c : DiscardedVersions) (v : Inv) → is_valid v ≡ true → IsOrdered v → causes j (change.Discard c) v ≡ [] → (m : ℕ) → filespace_of m (effect (change.Discard c) v) ≡ Some filespace
    → (filespace_of m v ≡ Some filespace) × (list_any (λ (i : DiscardedVersion). eqb i.object m) c.items ≡ false)
unfolding effect
discarded-left filespace j c v valid ordered legal m is =
    let it : Named c v = named j c v legal in
    after-run filespace v.number c.items v (in-order v valid ordered) it.found it.once m is

-- what has a version behind it had that before, and isn't named
pub discarded-versions : (j : Journal) (c : DiscardedVersions) (v : Inv) → is_valid v ≡ true → IsOrdered v → causes j (change.Discard c) v ≡ [] → (m : ℕ) (w : Version) → version m (effect (change.Discard c) v) ≡ Some w
    → (version m v ≡ Some w) × (list_any (λ (i : DiscardedVersion). eqb i.object m) c.items ≡ false)
unfolding effect
discarded-versions j c v valid ordered legal m w is =
    let it : Named c v = named j c v legal in
    versions-run v.number c.items v (in-order v valid ordered) it.found it.once m w is

pub discarded-ordered : (j : Journal) (c : DiscardedVersions) (v : Inv) → is_valid v ≡ true → IsOrdered v → causes j (change.Discard c) v ≡ [] → IsOrdered (effect (change.Discard c) v)
unfolding effect
discarded-ordered j c v valid ordered legal =
    let it : Named c v = named j c v legal in
    let r = (run-order v.number c.items v (in-order v valid ordered) it.found it.once).ordered in
    record { by_number = r.by_number; by_path = r.by_path }

-- ---- which filespaces are there

cleared-frames : (object : ℕ) (rows : Rows) (found : Option Place) → frames (or_same rows (with_filespaces rows (filespaces_cleared object found rows.filespaces))).filespaces ≡ frames rows.filespaces
cleared-frames object rows None = refl
cleared-frames object rows (Some at) =
    let said : Result (List (ℕ × Filespace)) Refusal = filespaces_after at.filespace at.path (Remove object) rows.filespaces in
    elim said as (λ r. said ≡ r → frames (or_same rows (with_filespaces rows r)).filespaces ≡ frames rows.filespaces) [
      | Ok new ↦ λ is. frames_changed at.filespace at.path (Remove object) rows.filespaces new is
      | Err e ↦ λ is. refl
    ] refl

without-frames : (object : ℕ) (rows : Rows) → frames (or_same rows (rows_without object rows)).filespaces ≡ frames rows.filespaces
without-frames object rows =
    elim (has_row object rows.held) as (λ b. frames
    (or_same rows (if b then with_held rows (Ok (held_without object rows.held)) else with_filespaces rows (filespaces_cleared object (lookup (at_number object) (listed rows.filespaces)) rows.filespaces))).filespaces
    ≡ frames rows.filespaces) [
      | true ↦ refl
      | false ↦ cleared-frames object rows (lookup (at_number object) (listed rows.filespaces))
    ]

there-one : (filespace : ℕ) (item : DiscardedVersion) (v : Inv) → is_some (filespace_at filespace (discard item v).clients.filespaces) ≡ is_some (filespace_at filespace v.clients.filespaces)
there-one filespace item v =
    ap (λ (x : Inv). is_some (filespace_at filespace x.clients.filespaces)) (removes_kept (rows_without item.object) item.object v).only
    ∙ same_there filespace v.clients.filespaces (or_same v.clients (rows_without item.object v.clients)).filespaces (without-frames item.object v.clients)

there-run : (filespace : ℕ) (items : List DiscardedVersion) (v : Inv) → is_some (filespace_at filespace (each discard items v).clients.filespaces) ≡ is_some (filespace_at filespace v.clients.filespaces)
there-run filespace [] v = refl
there-run filespace (i ∷ items) v = there-run filespace items (discard i v) ∙ there-one filespace i v

-- a discard takes none away
pub discarded-there : (filespace : ℕ) (c : DiscardedVersions) (v : Inv) → is_some (filespace_at filespace (effect (change.Discard c) v).clients.filespaces) ≡ is_some (filespace_at filespace v.clients.filespaces)
unfolding effect
discarded-there filespace c v = there-run filespace c.items v
