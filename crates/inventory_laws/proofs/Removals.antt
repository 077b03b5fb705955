-- Copies and objects that go: what a transaction finds that has no cause to be refused, what each step keeps, and what the whole leaves.
use Rattle.std.proofs.Common.{◌≡◌, ◌⊎◌, inl, inr, ℕ, Bool, true, false, cond, eqb, not, ◌||◌, List, [], ◌∷◌, ◌++◌, length, is_some, Option, Some, None, Ok, Result, refl, sym, subst, ◌∙◌, ◌+◌, map, ap, arith, ◌≤◌}
use Rattle.std.specs.Prelude.{nat_le}
use Rattle.std.specs.List.{flat_map, find, list_all, AllByRecursion}
use Rattle.std.specs.Option.{option_map_or}
use Rattle.std.proofs.lemmas.Bool.{false≢true, le-leb, leb-true, or_left, or_right}
use Rattle.kinds.specs.declared.refusal.Refusal.{Refusal}
use Rattle.kinds.specs.Refusals.{bad_value, unless}
use Rattle.inventory_rules.specs.entries.change_items.declared.items.DiscardedVersion.{DiscardedVersion}
use Rattle.inventory_rules.specs.entries.change_items.declared.items.DroppedCopy.{DroppedCopy}
use Rattle.inventory_rules.specs.entries.change_items.declared.items.NamedVersion.{NamedVersion}
use Rattle.inventory_rules.specs.entries.change_items.declared.reasons.DiscardReason.{DiscardReason}
use Rattle.inventory_rules.specs.entries.change_items.declared.reasons.DropReason.{DropReason}
use Rattle.inventory_rules.specs.entries.change_items.declared.lists.DiscardedVersions.{DiscardedVersions}
use Rattle.inventory_rules.specs.entries.change_items.declared.lists.DroppedCopies.{DroppedCopies}
use Rattle.inventory_rules.specs.entries.change_items.declared.lists.NamedVersions.{NamedVersions}
use Rattle.inventory_rules.specs.entries.declared.change.Change.TheVariants.{Discard, DropCopies, Expire}
use Rattle.inventory_rules.specs.inventory_rows.version_groups.declared.copies.CopyRow.{CopyRow}
use Rattle.inventory_rules.specs.inventory_rows.version_groups.declared.group.GroupChange.TheVariants.{Remove}
use Rattle.inventory_rules.specs.inventory_rows.version_groups.declared.groups.Filespace.{Filespace}
use Rattle.inventory_rules.specs.inventory_rows.version_groups.declared.versions.Version.{Version}
use Rattle.inventory_rules.specs.inventory_rows.version_groups.Versions.{has_object}
use Rattle.inventory_rules.specs.inventory_rows.object_rows.declared.held_object.HeldRow.{HeldRow}
use Rattle.inventory_rules.specs.inventory_rows.object_rows.Filespaces.{filespaces_after, versions_at, versions_of}
use Rattle.inventory_rules.specs.inventory_rows.object_rows.HeldRows.{has_under, held_at, held_versions, is_under as row_under}
use Rattle.inventory_rules.specs.inventory_rows.object_rows.Places.{place_of}
use Rattle.inventory_rules.specs.inventory_rows.object_rows.Rows.{Rows, rows_cleared, rows_without}
use Rattle.inventory_rules.proofs.of_inventory_rows.of_object_rows.Splices.{Splices}
use Rattle.inventory_rules.specs.inventory_rows.Search.{copy_in, version, versions}
use Rattle.inventory_rules.specs.inventory_rows.State.{Inv}
use Rattle.inventory_rules.specs.inventory_rows.Items.{count_items}
use Rattle.inventory_rules.specs.Journal.{Journal}
use Rattle.inventory_rules.specs.Copies.{dropped_refused, lies_elsewhere, named_drop_refused, placed_by, stale_copy, version_drop_refused, change_copy, drop_copy, dropped}
use Rattle.inventory_rules.specs.Versions.{discarded_refused, expired_refused, is_under, of_version, discard, expire, name_once, take_versions}
use Rattle.inventory_rules.specs.Transactions.{effect, causes, sizes_refused}
use Rattle.inventory_rules.specs.Halfway.{VersionFacts}
use Rattle.inventory_rules.specs.Held.{IsTied}
use Rattle.inventory_rules.specs.Valid.{is_valid}
use Rattle.inventory_rules.specs.Ordered.{IsOrdered}
use Rattle.inventory_rules.proofs.Touched.{effect-data}
use Rattle.inventory_laws.specs.Kept.{clients_after, OnlyVolumes}
use Rattle.inventory_laws.specs.Steady.{IsSteady}
use Rattle.inventory_laws.proofs.Arriving.{has-append, has-version}
use Rattle.inventory_laws.proofs.CopyCounts.{is_found}
use Rattle.inventory_laws.proofs.GroupSteps.{removes}
use Rattle.inventory_laws.proofs.Grouped.{versions_changed}
use Rattle.inventory_laws.proofs.HeldNumbers.{has-held}
use Rattle.inventory_laws.proofs.Kept.{is_held_there}
use Rattle.inventory_laws.proofs.Leaves.{Goes, after_is, cleared, facts_after, order_after, ordered_after, other_after, without}
use Rattle.inventory_laws.proofs.Others.{other_copied, path_of_place, place_of_path}
use Rattle.inventory_laws.proofs.ScratchList.{none_of_both, unless_not}
use Rattle.inventory_laws.proofs.CopySteps as copy
use Rattle.inventory_laws.proofs.VersionsWhole.{ordered_elsewhere}
use Rattle.inventory_laws.proofs.VolumeItems.{drops_kept, removes_kept}
use Rattle.inventory_laws.proofs.Steady.{drop_steady, remove_steady}
use Rattle.inventory_laws.proofs.DataEnds.{begins, ends}
use Rattle.inventory_laws.proofs.RemovedItems.{Holds, HoldsInOrder, all_hold}
use Rattle.inventory_laws.proofs.Stays.{data_less, each_less}
use Rattle.inventory_laws.proofs.GroupTakes.{cleared_takes, going_takes, without_takes}

-- ---- lists of causes

pub none_of_each : {X A : Type 0} (f : X → List A) (P : X → Type 0) → ((x : X) → f x ≡ [] → P x) → (xs : List X) → flat_map f xs ≡ [] → AllByRecursion P xs
none_of_each f P so [] h = tt
none_of_each f P so (x ∷ xs) h =
    let parts = none_of_both (f x) (flat_map f xs) h in
    (so x parts.0, none_of_each f P so xs parts.1)

-- a test whose failing is a cause
pub passed : {A : Type 0} (b : Bool) (xs : List A) (x : A) → cond b xs (x ∷ []) ≡ [] → (b ≡ true) × (xs ≡ [])
passed true xs x h = (refl, h)
passed false xs x h = absurd cc

-- ---- versions that are there

-- an object that has a version
pub record Found (object : ℕ) (v : Inv) : Type 0 where
  pub old : Version
  pub found : version object v ≡ Some old

pub version_there : (j : Journal) (object : ℕ) (rule : Version → List Refusal) (v : Inv) (o : Option Version) → version object v ≡ o → of_version j object rule o ≡ [] → (w : Version) × (version object v ≡ Some w) × (rule w ≡ [])
version_there j object rule v None e h = absurd cc
version_there j object rule v (Some w) e h = (w, e, h)

-- ---- copies that are dropped

pub record Drops (item : DroppedCopy) (v : Inv) : Type 0 where
  pub old : Version
  pub found : version item.object v ≡ Some old
  pub copy : CopyRow
  pub there : copy_in item.pool old ≡ Some copy
  pub another : nat_le 2 (length old.copies) ≡ true

copy_there : (placed : ℕ) (o : Option CopyRow) (named : List Refusal) (stale : Refusal) → cond (placed_by placed o) named (stale ∷ []) ≡ [] → (c : CopyRow) × (o ≡ Some c)
copy_there placed None named stale h = absurd cc
copy_there placed (Some c) named stale h = (c, refl)

-- beside one in the pool and one in another there are two copies
some_behind : (number : ℕ) (copies : List CopyRow) (old : CopyRow) → find (λ c. eqb c.pool number) copies ≡ Some old → nat_le 1 (length copies) ≡ true
some_behind number [] old h = absurd cc
some_behind number (c ∷ copies) old h = le-leb 1 (length (c ∷ copies)) (omega arith)

others_behind : (number : ℕ) (copies : List CopyRow) → lies_elsewhere number copies ≡ true → nat_le 1 (length copies) ≡ true
others_behind number [] h = absurd cc
others_behind number (c ∷ copies) h = le-leb 1 (length (c ∷ copies)) (omega arith)

two_of : (c : CopyRow) (copies : List CopyRow) → nat_le 1 (length copies) ≡ true → nat_le 2 (length (c ∷ copies)) ≡ true
two_of c copies h = let some : 1 ≤ length copies = leb-true 1 (length copies) h in le-leb 2 (length (c ∷ copies)) (omega (arith, some))

two_copies : (number : ℕ) (copies : List CopyRow) (old : CopyRow) → find (λ c. eqb c.pool number) copies ≡ Some old → lies_elsewhere number copies ≡ true → nat_le 2 (length copies) ≡ true
two_copies number [] old h k = absurd cc
two_copies number (c ∷ copies) old h k =
    elim (eqb c.pool number) as (λ b. cond b (Some c) (find (λ c. eqb c.pool number) copies) ≡ Some old → (not b || lies_elsewhere number copies) ≡ true → nat_le 2 (length (c ∷ copies)) ≡ true) [
      | true ↦ λ t u. two_of c copies (others_behind number copies u)
      | false ↦ λ t u. two_of c copies (some_behind number copies old t)
    ] h k

pub drop_found : (j : Journal) (reason : DropReason) (v : Inv) (item : DroppedCopy) → dropped_refused j reason v item ≡ [] → Drops item v
drop_found j reason v item h =
    let w = version_there j item.object (version_drop_refused j reason v item) v (version item.object v) refl h in
    let one = none_of_both (named_drop_refused j reason item w.0) _ w.2 in
    let two = none_of_both _ _ one.1 in
    let c = copy_there item.placed (copy_in item.pool w.0) _ (stale_copy (j.copy_changed item.object item.pool) (copy_in item.pool w.0)) one.0 in
    record { old = w.0; found = w.1; copy = c.0; there = c.1; another = two_copies item.pool w.0.copies c.0 c.1 (unless_not _ _ two.0) }

-- ---- objects that expire

-- the object is held under the path, or its version stands there
pub record Expires (filespace : ℕ) (item : NamedVersion) (v : Inv) : Type 0 where
  pub old : Version
  pub found : version item.object v ≡ Some old
  pub stands : (has_under filespace item.path item.object v.clients.held ≡ true) ⊎ (place_of item.object v.clients.filespaces ≡ Some (record { filespace = filespace; path = item.path }))

has_in : (k : ℕ) {xs ys old new : List Version} → Splices xs ys old new → has_object k xs ≡ true → has_object k old ≡ true
has_in k {xs} s h =
    ap (has_object k) s.was ∙ has-append k s.before (xs ++ s.after)
    ∙ or_right (has_object k s.before) (has_object k (xs ++ s.after)) (has-append k xs s.after ∙ or_left (has_object k xs) (has_object k s.after) h)

-- what is kept of an object is found by its number, where it is held, and where a version stands
kept_under : (filespace object : ℕ) (path : List ℕ) (v : Inv) → list_all (is_held_there v.clients.filespaces) v.clients.held ≡ true → is_under filespace path object v ≡ true → has_object object (versions v) ≡ true
kept_under filespace object path v held h = has-append object (versions_of v.clients.filespaces) (held_versions v.clients.held) ∙ go (has_under filespace path object v.clients.held) refl h where
  row_there : (o : Option HeldRow) → option_map_or (row_under filespace path) o false ≡ true → is_some o ≡ true
  row_there None t = absurd (false≢true t)
  row_there (Some row) t = refl

  go : (b : Bool) → has_under filespace path object v.clients.held ≡ b → (b || has_object object (versions_at filespace path v.clients.filespaces)) ≡ true → (has_object object (versions_of v.clients.filespaces) || has_object object (held_versions v.clients.held)) ≡ true
  go true e t = or_right (has_object object (versions_of v.clients.filespaces)) (has_object object (held_versions v.clients.held)) (has-held object v.clients.filespaces v.clients.held held ∙ row_there (held_at object v.clients.held) e)
  go false e t =
      let a : (new : List (ℕ × Filespace)) × (filespaces_after filespace path (Remove object) v.clients.filespaces ≡ Ok new) = removes filespace path object v.clients.filespaces t in
      or_left (has_object object (versions_of v.clients.filespaces)) (has_object object (held_versions v.clients.held)) (has_in object (versions_changed filespace path (Remove object) v.clients.filespaces a.0 a.1) t)

pub expire_found : (j : Journal) (filespace n : ℕ) (v : Inv) → VersionFacts n v → (item : NamedVersion) → expired_refused j filespace v item ≡ [] → Expires filespace item v
expire_found j filespace n v f item h =
    let under : is_under filespace item.path item.object v ≡ true = (passed _ _ _ h).0 in
    let w : (x : Version) × (version item.object v ≡ Some x) = is_found (version item.object v) (sym (has-version item.object (versions v)) ∙ kept_under filespace item.object item.path v f.held under) in
    record { old = w.0; found = w.1; stands = go (has_under filespace item.path item.object v.clients.held) refl under }
  where
    go : (b : Bool) → has_under filespace item.path item.object v.clients.held ≡ b → (b || has_object item.object (versions_at filespace item.path v.clients.filespaces)) ≡ true
        → (has_under filespace item.path item.object v.clients.held ≡ true) ⊎ (place_of item.object v.clients.filespaces ≡ Some (record { filespace = filespace; path = item.path }))
    go true e t = inl e
    go false e t = inr (place_of_path filespace item.object item.path v f.objects_apart t)

under_by : (n filespace : ℕ) (item : NamedVersion) (v : Inv) → VersionFacts n v → IsOrdered v → Expires filespace item v → is_under filespace item.path item.object v ≡ true
under_by n filespace item v f o e = go e.stands where
  held : Bool
  held = has_under filespace item.path item.object v.clients.held

  stands : Bool
  stands = has_object item.object (versions_at filespace item.path v.clients.filespaces)

  go : (held ≡ true) ⊎ (place_of item.object v.clients.filespaces ≡ Some (record { filespace = filespace; path = item.path })) → (held || stands) ≡ true
  go (inl h) = or_left held stands h
  go (inr p) = or_right held stands (path_of_place n item.object v (record { filespace = filespace; path = item.path }) f o p)

-- ---- objects that are discarded

abbrev pub Discards : DiscardedVersion → Inv → Type 0
Discards item v = Found item.object v

pub discard_found : (j : Journal) (reason : DiscardReason) (v : Inv) (item : DiscardedVersion) → discarded_refused j reason v item ≡ [] → Discards item v
discard_found j reason v item h =
    let w = version_there j item.object _ v (version item.object v) refl h in
    record { old = w.0; found = w.1 }

-- ---- a copy goes

drop_holds : (n : ℕ) (item : DroppedCopy) (v : Inv) → Holds n v → Drops item v → Holds n (drop_copy item v)
drop_holds n item v h d =
    let u : Inv = change_copy item.object (dropped item) v in
    let k : OnlyVolumes u (drop_copy item v) = drops_kept item v in
    let r = copy.dropped n item.object item.pool v d.old d.copy h.steady.versions d.found d.there d.another in
    record { steady = drop_steady n [] item v d.old d.copy d.found d.there r.0 r.1 h.steady.volumes h.steady.cite }

drop_stays : (item other : DroppedCopy) (v : Inv) → eqb other.object item.object ≡ false → Drops other v → Drops other (drop_copy item v)
drop_stays item other v ne d =
    let k : OnlyVolumes (change_copy item.object (dropped item) v) (drop_copy item v) = drops_kept item v in
    record {
      old = d.old;
      found = ap (version other.object) k.only ∙ other_copied item.object other.object (dropped item) v ne ∙ d.found;
      copy = d.copy;
      there = d.there;
      another = d.another;
    }

-- ---- an object goes

-- the volumes give back its segments, and the rows change by a step
abbrev going : (Rows → Result Rows Refusal) → ℕ → Inv → Inv
going step object v = clients_after step (take_versions object v)

goes_on : (n object : ℕ) (old : Version) (step : Rows → Result Rows Refusal) (v : Inv) → HoldsInOrder n v → version object v ≡ Some old → Goes n object old v (step v.clients) → HoldsInOrder n (going step object v)
goes_on n object old step v h found g =
    let s : IsSteady n [] v = h.holds.steady in
    record {
      holds = record { steady = remove_steady n [] step object v old found (facts_after n object old v step g) (order_after n object old v step g) s.volumes s.cite };
      ordered = ordered_elsewhere (clients_after step v) (going step object v) (ap (λ (x : Inv). x.clients) (removes_kept step object v).only) (ordered_after n object old v step g h.ordered);
    }

other_going : (n object other : ℕ) (old : Version) (step : Rows → Result Rows Refusal) (v : Inv) → version object v ≡ Some old → Goes n object old v (step v.clients) → eqb other object ≡ false → version other (going step object v) ≡ version other v
other_going n object other old step v found g ne = ap (version other) (removes_kept step object v).only ∙ other_after n object other old v step found g ne

-- where it stays held, or its version stands
still_stands : (n filespace object : ℕ) (other : NamedVersion) (old : Version) (step : Rows → Result Rows Refusal) (v : Inv) → version object v ≡ Some old → Goes n object old v (step v.clients) → eqb other.object object ≡ false → Expires filespace other v
    → Expires filespace other (going step object v)
still_stands n filespace object other old step v found g ne e =
    let w : Inv = going step object v in
    let same : w.clients ≡ g.rows = ap (λ (x : Inv). x.clients) (removes_kept step object v).only ∙ ap (λ (x : Inv). x.clients) (after_is n object old v step g) in
    record {
      old = e.old;
      found = other_going n object other.object old step v found g ne ∙ e.found;
      stands = go same e.stands;
    }
  where
    here : Rows → Type 0
    here c = (has_under filespace other.path other.object c.held ≡ true) ⊎ (place_of other.object c.filespaces ≡ Some (record { filespace = filespace; path = other.path }))

    kept : here v.clients → here g.rows
    kept (inl h) = inl (ap (λ o. option_map_or (row_under filespace other.path) o false) (g.leaves.held other.object ne) ∙ h)
    kept (inr p) = inr (g.leaves.places other.object ne ∙ p)

    go : (going step object v).clients ≡ g.rows → here v.clients → here (going step object v).clients
    go same h = subst here (sym same) (kept h)

-- ---- by a path

expire_goes : (n filespace : ℕ) (item : NamedVersion) (v : Inv) → HoldsInOrder n v → (e : Expires filespace item v) → Goes n item.object e.old v (rows_cleared filespace item.path item.object v.clients)
expire_goes n filespace item v h e =
    cleared n filespace item.object item.path v e.old h.holds.steady.versions e.found (under_by n filespace item v h.holds.steady.versions h.ordered e)

expire_holds : (n filespace : ℕ) (item : NamedVersion) (v : Inv) → HoldsInOrder n v → Expires filespace item v → HoldsInOrder n (expire filespace item v)
expire_holds n filespace item v h e = goes_on n item.object e.old (rows_cleared filespace item.path item.object) v h e.found (expire_goes n filespace item v h e)

expire_stays : (n filespace : ℕ) (item other : NamedVersion) (v : Inv) → eqb other.object item.object ≡ false → HoldsInOrder n v → Expires filespace item v → Expires filespace other v → Expires filespace other (expire filespace item v)
expire_stays n filespace item other v ne h first e = still_stands n filespace item.object other first.old (rows_cleared filespace item.path item.object) v first.found (expire_goes n filespace item v h first) ne e

-- ---- by its number

discard_goes : (n : ℕ) (item : DiscardedVersion) (v : Inv) → HoldsInOrder n v → (d : Discards item v) → Goes n item.object d.old v (rows_without item.object v.clients)
discard_goes n item v h d = without n item.object v d.old h.holds.steady.versions h.ordered d.found

discard_holds : (n : ℕ) (item : DiscardedVersion) (v : Inv) → HoldsInOrder n v → Discards item v → HoldsInOrder n (discard item v)
discard_holds n item v h d = goes_on n item.object d.old (rows_without item.object) v h d.found (discard_goes n item v h d)

discard_stays : (n : ℕ) (item other : DiscardedVersion) (v : Inv) → eqb other.object item.object ≡ false → HoldsInOrder n v → Discards item v → Discards other v → Discards other (discard item v)
discard_stays n item other v ne h first d = record { old = d.old; found = other_going n item.object other.object first.old (rows_without item.object) v first.found (discard_goes n item v h first) ne ∙ d.found }

-- ---- the transactions

pub drop_valid : (j : Journal) (c : DroppedCopies) (v : Inv) → is_valid v ≡ true → IsTied v → causes j (DropCopies c) v ≡ [] → sizes_refused (DropCopies c) v ≡ [] → (is_valid (effect (DropCopies c) v) ≡ true) × IsTied (effect (DropCopies c) v)
drop_valid j c v valid tied cause sizes =
    let n : ℕ = v.number + 1 in
    let parts = none_of_both (unless (name_once (map (λ (i : DroppedCopy). i.object) c.items)) bad_value) (flat_map (dropped_refused j c.reason v) c.items) cause in
    let found : AllByRecursion (λ i. Drops i v) c.items = none_of_each (dropped_refused j c.reason v) (λ i. Drops i v) (drop_found j c.reason v) c.items parts.1 in
    ends (DropCopies c) v refl valid sizes
    (all_hold (Holds n) Drops (λ (i : DroppedCopy). i.object) drop_copy (drop_holds n) (λ i k x ne _ _ d. drop_stays i k x ne d) c.items v
    (record { holds = begins v valid tied; finds = found; once = unless_not (name_once (map (λ (i : DroppedCopy). i.object) c.items)) bad_value parts.0 }))

pub expire_valid : (j : Journal) (c : NamedVersions) (v : Inv) → is_valid v ≡ true → IsTied v → IsOrdered v → causes j (Expire c) v ≡ [] → sizes_refused (Expire c) v ≡ [] → (is_valid (effect (Expire c) v) ≡ true) × IsTied (effect (Expire c) v)
expire_valid j c v valid tied ordered cause sizes =
    let n : ℕ = v.number + 1 in
    let start : HoldsInOrder n v = record { holds = begins v valid tied; ordered = ordered } in
    let parts = none_of_both (unless (name_once (map (λ (i : NamedVersion). i.object) c.items)) bad_value) (flat_map (expired_refused j c.filespace v) c.items) cause in
    let found : AllByRecursion (λ i. Expires c.filespace i v) c.items = none_of_each (expired_refused j c.filespace v) (λ i. Expires c.filespace i v) (expire_found j c.filespace n v start.holds.steady.versions) c.items parts.1 in
    ends (Expire c) v refl valid sizes
    (all_hold (HoldsInOrder n) (Expires c.filespace) (λ (i : NamedVersion). i.object) (expire c.filespace) (expire_holds n c.filespace) (expire_stays n c.filespace) c.items v
    (record { holds = start; finds = found; once = unless_not (name_once (map (λ (i : NamedVersion). i.object) c.items)) bad_value parts.0 })).holds

pub discard_valid : (j : Journal) (c : DiscardedVersions) (v : Inv) → is_valid v ≡ true → IsTied v → IsOrdered v → causes j (Discard c) v ≡ [] → sizes_refused (Discard c) v ≡ [] → (is_valid (effect (Discard c) v) ≡ true) × IsTied (effect (Discard c) v)
discard_valid j c v valid tied ordered cause sizes =
    let n : ℕ = v.number + 1 in
    let parts = none_of_both (unless (name_once (map (λ (i : DiscardedVersion). i.object) c.items)) bad_value) (flat_map (discarded_refused j c.reason v) c.items) cause in
    let found : AllByRecursion (λ i. Discards i v) c.items = none_of_each (discarded_refused j c.reason v) (λ i. Discards i v) (discard_found j c.reason v) c.items parts.1 in
    ends (Discard c) v refl valid sizes
    (all_hold (HoldsInOrder n) Discards (λ (i : DiscardedVersion). i.object) discard (discard_holds n) (discard_stays n) c.items v
    (record { holds = record { holds = begins v valid tied; ordered = ordered }; finds = found; once = unless_not (name_once (map (λ (i : DiscardedVersion). i.object) c.items)) bad_value parts.0 })).holds

-- ---- no more items

pub expire_takes : (c : NamedVersions) (v : Inv) → count_items (effect (Expire c) v) ≤ count_items v
unfolding effect
expire_takes c v =
    data_less v (effect (Expire c) v) (effect-data (Expire c) v refl)
    (each_less (expire c.filespace) (λ i w. going_takes (rows_cleared c.filespace i.path i.object) (cleared_takes c.filespace i.path i.object) i.object w) c.items v)

pub discard_all_takes : (c : DiscardedVersions) (v : Inv) → count_items (effect (Discard c) v) ≤ count_items v
unfolding effect
discard_all_takes c v = data_less v (effect (Discard c) v) (effect-data (Discard c) v refl) (each_less discard (λ i w. going_takes (rows_without i.object) (without_takes i.object) i.object w) c.items v)
