-- The segments that a transaction takes from their volumes, one after the other.
use Rattle.std.proofs.Common.{◌≡◌, ◌⊎◌, inl, inr, ℕ, ◌+◌, Bool, true, false, cond, eqb, not, ◌||◌, List, [], ◌∷◌, ◌++◌, map, Option, Some, None, Result, refl, sym, ap, subst, ◌∙◌, append_assoc}
use Rattle.std.specs.Prelude.{IfSome}
use Rattle.std.specs.List.{flat_map, list_all, AllByRecursion}
use Rattle.std.specs.Option.{option_map_or}
use Rattle.std.proofs.lemmas.Bool.{and_parts, eq-eqb, eqb-false, ne_eqb, not-true, or_left, or_right}
use Rattle.kinds.specs.declared.refusal.Refusal.{Refusal}
use Rattle.kinds.specs.Refusals.{bad_value, unless}
use Rattle.kinds.specs.declared.segment.Segment.{Segment}
use Rattle.entries.specs.change_items.declared.items.DiscardedVersion.{DiscardedVersion}
use Rattle.entries.specs.change_items.declared.items.NamedVersion.{NamedVersion}
use Rattle.entries.specs.change_items.declared.lists.DiscardedVersions.{DiscardedVersions}
use Rattle.entries.specs.change_items.declared.lists.NamedVersions.{NamedVersions}
use Rattle.entries.specs.declared.change.Change.TheVariants.{Discard, Expire}
use Rattle.inventory_rows.specs.version_groups.declared.copies.CopyRow.{CopyRow}
use Rattle.inventory_rows.specs.version_groups.declared.versions.Version.{Version}
use Rattle.inventory_rows.specs.version_groups.Versions.{has_object}
use Rattle.inventory_rows.specs.object_rows.Filespaces.{versions_at}
use Rattle.inventory_rows.specs.object_rows.HeldRows.{has_under, is_under as row_under}
use Rattle.inventory_rows.specs.object_rows.Places.{place_of}
use Rattle.inventory_rows.specs.object_rows.Rows.{Rows, rows_cleared, rows_without}
use Rattle.inventory_rows.specs.volume_rows.Held.{held_of}
use Rattle.inventory_rows.specs.volume_rows.Holdings.{is_held}
use Rattle.inventory_rows.specs.volume_rows.declared.volume.Volume.{Volume}
use Rattle.inventory_rows.specs.Search.{segments_on, version}
use Rattle.inventory_rows.specs.State.{Inv}
use Rattle.pool_tables.specs.Rows.{row_at}
use Rattle.pool_tables.proofs.Counting.{each_there}
use Rattle.pool_rows.specs.PoolRows.{PoolRows}
use Rattle.pool_rows.specs.Segments.{take_segment}
use Rattle.inventory_rules.specs.Common.{each, or_same, with_stores}
use Rattle.inventory_rules.specs.Halfway.{lying, pending_on, segments_of, VolumeFacts}
use Rattle.inventory_rules.specs.Held.{holding, IsTied}
use Rattle.inventory_rules.specs.Journal.{Journal}
use Rattle.inventory_rules.specs.Ordered.{IsOrdered}
use Rattle.inventory_rules.specs.Reordered.{IsReordered}
use Rattle.inventory_rules.specs.Segments.{take_all, take_away}
use Rattle.inventory_rules.specs.Transactions.{causes}
use Rattle.inventory_rules.specs.Valid.{is_valid}
use Rattle.inventory_rules.specs.Versions.{copies_at, copies_of, discard, discarded_refused, expire, expired_refused, is_under, name_once, take_versions}
use Rattle.inventory_laws.specs.Kept.{clients_after}
use Rattle.inventory_laws.specs.Steady.{IsSteady}
use Rattle.inventory_laws.proofs.Changing.{take_list, take_one}
use Rattle.inventory_laws.proofs.DataEnds.{begins}
use Rattle.inventory_laws.proofs.Holding.{holding-reordered, is_held-with}
use Rattle.inventory_laws.proofs.Leaves.{Goes, after_is, cleared, facts_after, order_after, ordered_after, other_after, without}
use Rattle.inventory_laws.proofs.Orders.{reordered_front}
use Rattle.inventory_laws.proofs.Others.{path_of_place}
use Rattle.inventory_laws.proofs.RemovedItems.{HoldsInOrder, Underway}
use Rattle.inventory_laws.proofs.Removals.{Discards, Expires, discard_found, expire_found, none_of_each}
use Rattle.inventory_laws.proofs.ScratchList.{none_of_both, unless_not}
use Rattle.inventory_laws.proofs.Steady.{remove_steady}
use Rattle.inventory_laws.proofs.Swapping.{facts_swapped}
use Rattle.inventory_laws.proofs.VersionsWhole.{ordered_elsewhere}
use Rattle.inventory_laws.proofs.VolumeItems.{removes_kept}
use Rattle.kept_index.specs.Steps.{AllLie, LiesOn, of_object, takes, with_take}

-- ---- segments one after the other

takes_append : (today : ℕ) (es others : List (ℕ × Segment)) (s : PoolRows) → takes today (es ++ others) s ≡ takes today others (takes today es s)
takes_append today [] others s = refl
takes_append today (e ∷ es) others s = takes_append today es others (with_take today e s)

lie_append : (today : ℕ) (es others : List (ℕ × Segment)) (s : PoolRows) → AllLie today es s → AllLie today others (takes today es s) → AllLie today (es ++ others) s
lie_append today [] others s first rest = rest
lie_append today (e ∷ es) others s first rest = (first.0, lie_append today es others (with_take today e s) first.1 rest)

-- from one database to another these segments went
pub record Took (es : List (ℕ × Segment)) (v w : Inv) : Type 0 where
  pub lie : AllLie v.today es v.stores
  pub stores : w.stores ≡ takes v.today es v.stores
  pub today : w.today ≡ v.today

pub took_then : (es others : List (ℕ × Segment)) (v w x : Inv) → Took es v w → Took others w x → Took (es ++ others) v x
took_then es others v w x first rest = record {
  lie = lie_append v.today es others v.stores first.lie
      (subst (λ (s : PoolRows). AllLie v.today others s) first.stores (subst (λ (day : ℕ). AllLie day others w.stores) first.today rest.lie));
  stores = rest.stores ∙ ap (λ (day : ℕ). takes day others w.stores) first.today ∙ ap (takes v.today others) first.stores ∙ sym (takes_append v.today es others v.stores);
  today = rest.today ∙ first.today;
}

-- ---- the segments of copies

pub away_today : (object : ℕ) (segments : List Segment) (v : Inv) → (take_away object segments v).today ≡ v.today
away_today object [] v = refl
away_today object (x ∷ segments) v = away_today object segments (with_stores (or_same v.stores (take_segment object x v.today v.stores)) v)

pub away_stores : (object : ℕ) (segments : List Segment) (v : Inv) → (take_away object segments v).stores ≡ takes v.today (of_object (object, segments)) v.stores
away_stores object [] v = refl
away_stores object (x ∷ segments) v = away_stores object segments (with_stores (or_same v.stores (take_segment object x v.today v.stores)) v)

-- a pending segment lies on its volume
lie_one : (p : List (ℕ × Segment)) (v : Inv) (object : ℕ) (x : Segment) → VolumeFacts ((object, x) ∷ p) v → LiesOn (object, x) v.stores
lie_one p v object x f = go (row_at x.file v.stores.volumes) refl where
  order : IsReordered (lying ((object, x) ∷ p) x.file v) ((object, x) ∷ lying p x.file v)
  order =
      subst (λ b. IsReordered (segments_on x.file v ++ cond b ((object, x) ∷ pending_on x.file p) (pending_on x.file p)) ((object, x) ∷ lying p x.file v)) (sym (eq-eqb x.file x.file refl))
      (reordered_front (segments_on x.file v) (object, x) (pending_on x.file p))

  go : (o : Option Volume) → row_at x.file v.stores.volumes ≡ o → IfSome o (λ (w : Volume). is_held (held_of object x) w.segments ≡ true)
  go None absent = tt
  go (Some w) found =
      let tied : w.segments ≡ holding (lying ((object, x) ∷ p) x.file v) = each_there (λ (e : ℕ × Volume). e.1.segments ≡ holding (lying ((object, x) ∷ p) e.0 v)) x.file w v.stores.volumes found f.tied in
      ap (is_held (held_of object x)) (tied ∙ holding-reordered (lying ((object, x) ∷ p) x.file v) ((object, x) ∷ lying p x.file v) order) ∙ is_held-with (held_of object x) (holding (lying p x.file v))

list_lies : (p : List (ℕ × Segment)) (object : ℕ) (segments : List Segment) (v : Inv) → VolumeFacts (of_object (object, segments) ++ p) v → AllLie v.today (of_object (object, segments)) v.stores
list_lies p object [] v f = tt
list_lies p object (x ∷ segments) v f = (
  lie_one (of_object (object, segments) ++ p) v object x f,
  list_lies p object segments (take_away object (x ∷ []) v) (take_one (of_object (object, segments) ++ p) v object x f),
)

-- the segments of some copies of an object
abbrev pub of_copies : ℕ → List CopyRow → List (ℕ × Segment)
of_copies object cs = flat_map (λ (r : CopyRow). of_object (object, r.segments)) cs

list_took : (p : List (ℕ × Segment)) (object : ℕ) (segments : List Segment) (v : Inv) → VolumeFacts (of_object (object, segments) ++ p) v → Took (of_object (object, segments)) v (take_away object segments v)
list_took p object segments v f = record { lie = list_lies p object segments v f; stores = away_stores object segments v; today = away_today object segments v }

pub copies_took : (p : List (ℕ × Segment)) (object : ℕ) (cs : List CopyRow) (v : Inv) → VolumeFacts (segments_of (map (λ (r : CopyRow). (object, r)) cs) ++ p) v → Took (of_copies object cs) v (take_all object cs v)
copies_took p object [] v f = record { lie = tt; stores = refl; today = refl }
copies_took p object (r ∷ cs) v f =
    let w : Inv = take_away object r.segments v in
    let rest : List (ℕ × Segment) = segments_of (map (λ (d : CopyRow). (object, d)) cs) ++ p in
    let all : VolumeFacts (of_object (object, r.segments) ++ rest) v =
    subst (λ (l : List (ℕ × Segment)). VolumeFacts l v) (append_assoc (of_object (object, r.segments)) (segments_of (map (λ (d : CopyRow). (object, d)) cs)) p) f in
    took_then (of_object (object, r.segments)) (of_copies object cs) v w (take_all object cs w) (list_took rest object r.segments v all) (copies_took p object cs w (take_list rest object r.segments v all))

-- ---- an object goes with its copies

abbrev pub going : (Rows → Result Rows Refusal) → ℕ → Inv → Inv
going step object v = clients_after step (take_versions object v)

-- what the clients' rows are doesn't matter to volumes
pub took_elsewhere : (es : List (ℕ × Segment)) (v u w x : Inv) → u.stores ≡ v.stores → u.today ≡ v.today → x.stores ≡ w.stores → x.today ≡ w.today → Took es u w → Took es v x
took_elsewhere es v u w x stores today after later took = record {
  lie = subst (λ (s : PoolRows). AllLie v.today es s) stores (subst (λ (day : ℕ). AllLie day es u.stores) today took.lie);
  stores = after ∙ took.stores ∙ ap (λ (day : ℕ). takes day es u.stores) today ∙ ap (takes v.today es) stores;
  today = later ∙ took.today ∙ today;
}

pub all_stores : (object : ℕ) (cs : List CopyRow) (v u : Inv) → u.stores ≡ v.stores → u.today ≡ v.today → (take_all object cs u).stores ≡ (take_all object cs v).stores
all_stores object [] v u stores today = stores
all_stores object (r ∷ cs) v u stores today =
    all_stores object cs (take_away object r.segments v) (take_away object r.segments u)
    (away_stores object r.segments u ∙ ap (λ (day : ℕ). takes day (of_object (object, r.segments)) u.stores) today ∙ ap (takes v.today (of_object (object, r.segments))) stores ∙ sym (away_stores object r.segments v))
    (away_today object r.segments u ∙ today ∙ sym (away_today object r.segments v))

all_today : (object : ℕ) (cs : List CopyRow) (v : Inv) → (take_all object cs v).today ≡ v.today
all_today object [] v = refl
all_today object (r ∷ cs) v = all_today object cs (take_away object r.segments v) ∙ away_today object r.segments v

going_took : (n object : ℕ) (old : Version) (step : Rows → Result Rows Refusal) (v : Inv) → HoldsInOrder n v → version object v ≡ Some old → Goes n object old v (step v.clients) → Took (of_copies object (copies_at object v)) v (going step object v)
going_took n object old step v h found g =
    let u : Inv = clients_after step v in
    let facts : VolumeFacts (segments_of (map (λ (r : CopyRow). (object, r)) old.copies) ++ []) u =
    facts_swapped [] (map (λ (r : CopyRow). (object, r)) old.copies) [] v u refl refl refl refl (order_after n object old v step g) h.holds.steady.volumes in
    subst (λ (cs : List CopyRow). Took (of_copies object cs) v (clients_after step (take_all object cs v))) (sym (ap copies_of found))
    (took_elsewhere (of_copies object old.copies) v u (take_all object old.copies u) (clients_after step (take_all object old.copies v)) refl refl
    (sym (all_stores object old.copies v u refl refl)) (all_today object old.copies v ∙ sym (all_today object old.copies u)) (copies_took [] object old.copies u facts))

goes_on : (n object : ℕ) (old : Version) (step : Rows → Result Rows Refusal) (v : Inv) → HoldsInOrder n v → version object v ≡ Some old → Goes n object old v (step v.clients) → HoldsInOrder n (going step object v)
goes_on n object old step v h found g =
    let s : IsSteady n [] v = h.holds.steady in
    record {
      holds = record { steady = remove_steady n [] step object v old found (facts_after n object old v step g) (order_after n object old v step g) s.volumes s.cite };
      ordered = ordered_elsewhere (clients_after step v) (going step object v) (ap (λ (x : Inv). x.clients) (removes_kept step object v).only) (ordered_after n object old v step g h.ordered);
    }

other_going : (n object other : ℕ) (old : Version) (step : Rows → Result Rows Refusal) (v : Inv) → version object v ≡ Some old → Goes n object old v (step v.clients) → eqb other object ≡ false → version other (going step object v) ≡ version other v
other_going n object other old step v found g ne = ap (version other) (removes_kept step object v).only ∙ other_after n object other old v step found g ne

other_copies : (n object other : ℕ) (old : Version) (step : Rows → Result Rows Refusal) (v : Inv) → version object v ≡ Some old → Goes n object old v (step v.clients) → eqb other object ≡ false
    → of_copies other (copies_at other (going step object v)) ≡ of_copies other (copies_at other v)
other_copies n object other old step v found g ne = ap (λ (o : Option Version). of_copies other (copies_of o)) (other_going n object other old step v found g ne)

-- ---- items one after the other

pub turned : (a b : ℕ) → not (eqb a b) ≡ true → eqb b a ≡ false
turned a b h = ne_eqb b a (λ t. eqb-false a b (not-true (eqb a b) h) (sym t))

module _ {X : Type 0} (Between : Inv → Type 0) (Finds : X → Inv → Type 0) (object : X → ℕ) (what : X → Inv → List (ℕ × Segment)) (step : X → Inv → Inv) where
  others : (i : X) (v : Inv) → ((k : X) → eqb (object k) (object i) ≡ false → Finds k v → Finds k (step i v)) → (items : List X) → list_all (λ b. not (eqb (object i) b)) (map object items) ≡ true
      → AllByRecursion (λ k. Finds k v) items → AllByRecursion (λ k. Finds k (step i v)) items
  others i v stay [] apart h = tt
  others i v stay (k ∷ items) apart h =
      let parts = and_parts (not (eqb (object i) (object k))) (list_all (λ b. not (eqb (object i) b)) (map object items)) apart in
      (stay k (turned (object i) (object k) parts.0) h.0, others i v stay items parts.1 h.1)

  still : (i : X) (v : Inv) → ((k : X) → eqb (object k) (object i) ≡ false → what k (step i v) ≡ what k v) → (items : List X) → list_all (λ b. not (eqb (object i) b)) (map object items) ≡ true
      → flat_map (λ k. what k (step i v)) items ≡ flat_map (λ k. what k v) items
  still i v same [] apart = refl
  still i v same (k ∷ items) apart =
      let parts = and_parts (not (eqb (object i) (object k))) (list_all (λ b. not (eqb (object i) b)) (map object items)) apart in
      ap (λ (l : List (ℕ × Segment)). l ++ flat_map (λ j. what j (step i v)) items) (same k (turned (object i) (object k) parts.0)) ∙ ap (λ (l : List (ℕ × Segment)). what k v ++ l) (still i v same items parts.1)

  pub all_took : ((i : X) (v : Inv) → Between v → Finds i v → Between (step i v)) → ((i k : X) (v : Inv) → eqb (object k) (object i) ≡ false → Between v → Finds i v → Finds k v → Finds k (step i v))
      → ((i k : X) (v : Inv) → eqb (object k) (object i) ≡ false → Between v → Finds i v → what k (step i v) ≡ what k v) → ((i : X) (v : Inv) → Between v → Finds i v → Took (what i v) v (step i v))
      → (items : List X) (v : Inv) → Underway Between Finds object items v → Took (flat_map (λ i. what i v) items) v (each step items v)
  all_took goes stay same one [] v u = record { lie = tt; stores = refl; today = refl }
  all_took goes stay same one (i ∷ items) v u =
      let parts = and_parts (list_all (λ b. not (eqb (object i) b)) (map object items)) (name_once (map object items)) u.once in
      let w : Inv = step i v in
      let rest : Took (flat_map (λ k. what k w) items) w (each step items w) =
      all_took goes stay same one items w
      (record {
        holds = goes i v u.holds u.finds.0;
        finds = others i v (λ k ne. stay i k v ne u.holds u.finds.0) items parts.0 u.finds.1;
        once = parts.1;
      }) in
      subst (λ (l : List (ℕ × Segment)). Took (what i v ++ l) v (each step items w)) (still i v (λ k ne. same i k v ne u.holds u.finds.0) items parts.0)
      (took_then (what i v) (flat_map (λ k. what k w) items) v w (each step items w) (one i v u.holds u.finds.0) rest)

-- ---- objects that expire

under_by : (n filespace : ℕ) (item : NamedVersion) (v : Inv) → HoldsInOrder n v → Expires filespace item v → is_under filespace item.path item.object v ≡ true
under_by n filespace item v h e = go e.stands where
  held : Bool
  held = has_under filespace item.path item.object v.clients.held

  stands : Bool
  stands = has_object item.object (versions_at filespace item.path v.clients.filespaces)

  go : (held ≡ true) ⊎ (place_of item.object v.clients.filespaces ≡ Some (record { filespace = filespace; path = item.path })) → (held || stands) ≡ true
  go (inl t) = or_left held stands t
  go (inr p) = or_right held stands (path_of_place n item.object v (record { filespace = filespace; path = item.path }) h.holds.steady.versions h.ordered p)

expire_goes : (n filespace : ℕ) (item : NamedVersion) (v : Inv) → HoldsInOrder n v → (e : Expires filespace item v) → Goes n item.object e.old v (rows_cleared filespace item.path item.object v.clients)
expire_goes n filespace item v h e = cleared n filespace item.object item.path v e.old h.holds.steady.versions e.found (under_by n filespace item v h e)

still_stands : (n filespace object : ℕ) (other : NamedVersion) (old : Version) (step : Rows → Result Rows Refusal) (v : Inv) → version object v ≡ Some old → Goes n object old v (step v.clients) → eqb other.object object ≡ false → Expires filespace other v
    → Expires filespace other (going step object v)
still_stands n filespace object other old step v found g ne e =
    let same : (going step object v).clients ≡ g.rows = ap (λ (x : Inv). x.clients) (removes_kept step object v).only ∙ ap (λ (x : Inv). x.clients) (after_is n object old v step g) in
    record {
      old = e.old;
      found = other_going n object other.object old step v found g ne ∙ e.found;
      stands = subst here (sym same) (kept e.stands);
    }
  where
    here : Rows → Type 0
    here c = (has_under filespace other.path other.object c.held ≡ true) ⊎ (place_of other.object c.filespaces ≡ Some (record { filespace = filespace; path = other.path }))

    kept : here v.clients → here g.rows
    kept (inl h) = inl (ap (λ o. option_map_or (row_under filespace other.path) o false) (g.leaves.held other.object ne) ∙ h)
    kept (inr p) = inr (g.leaves.places other.object ne ∙ p)

pub expire_took : (j : Journal) (c : NamedVersions) (v : Inv) → is_valid v ≡ true → IsTied v → IsOrdered v → causes j (Expire c) v ≡ [] → Took (flat_map (λ (i : NamedVersion). of_copies i.object (copies_at i.object v)) c.items) v (each (expire c.filespace) c.items v)
expire_took j c v valid tied ordered cause =
    let n : ℕ = v.number + 1 in
    let start : HoldsInOrder n v = record { holds = begins v valid tied; ordered = ordered } in
    let parts = none_of_both (unless (name_once (map (λ (i : NamedVersion). i.object) c.items)) bad_value) (flat_map (expired_refused j c.filespace v) c.items) cause in
    let found : AllByRecursion (λ i. Expires c.filespace i v) c.items = none_of_each (expired_refused j c.filespace v) (λ i. Expires c.filespace i v) (expire_found j c.filespace n v start.holds.steady.versions) c.items parts.1 in
    all_took (HoldsInOrder n) (Expires c.filespace) (λ (i : NamedVersion). i.object) (λ i w. of_copies i.object (copies_at i.object w)) (expire c.filespace)
    (λ i w h e. goes_on n i.object e.old (rows_cleared c.filespace i.path i.object) w h e.found (expire_goes n c.filespace i w h e))
    (λ i k w ne h e d. still_stands n c.filespace i.object k e.old (rows_cleared c.filespace i.path i.object) w e.found (expire_goes n c.filespace i w h e) ne d)
    (λ i k w ne h e. other_copies n i.object k.object e.old (rows_cleared c.filespace i.path i.object) w e.found (expire_goes n c.filespace i w h e) ne)
    (λ i w h e. going_took n i.object e.old (rows_cleared c.filespace i.path i.object) w h e.found (expire_goes n c.filespace i w h e)) c.items v
    (record { holds = start; finds = found; once = unless_not (name_once (map (λ (i : NamedVersion). i.object) c.items)) bad_value parts.0 })

-- ---- objects that are discarded

discard_goes : (n : ℕ) (item : DiscardedVersion) (v : Inv) → HoldsInOrder n v → (d : Discards item v) → Goes n item.object d.old v (rows_without item.object v.clients)
discard_goes n item v h d = without n item.object v d.old h.holds.steady.versions h.ordered d.found

pub discard_took : (j : Journal) (c : DiscardedVersions) (v : Inv) → is_valid v ≡ true → IsTied v → IsOrdered v → causes j (Discard c) v ≡ [] → Took (flat_map (λ (i : DiscardedVersion). of_copies i.object (copies_at i.object v)) c.items) v (each discard c.items v)
discard_took j c v valid tied ordered cause =
    let n : ℕ = v.number + 1 in
    let parts = none_of_both (unless (name_once (map (λ (i : DiscardedVersion). i.object) c.items)) bad_value) (flat_map (discarded_refused j c.reason v) c.items) cause in
    let found : AllByRecursion (λ i. Discards i v) c.items = none_of_each (discarded_refused j c.reason v) (λ i. Discards i v) (discard_found j c.reason v) c.items parts.1 in
    all_took (HoldsInOrder n) Discards (λ (i : DiscardedVersion). i.object) (λ i w. of_copies i.object (copies_at i.object w)) discard
    (λ i w h d. goes_on n i.object d.old (rows_without i.object) w h d.found (discard_goes n i w h d))
    (λ i k w ne h d e. record { old = e.old; found = other_going n i.object k.object d.old (rows_without i.object) w d.found (discard_goes n i w h d) ne ∙ e.found })
    (λ i k w ne h d. other_copies n i.object k.object d.old (rows_without i.object) w d.found (discard_goes n i w h d) ne)
    (λ i w h d. going_took n i.object d.old (rows_without i.object) w h d.found (discard_goes n i w h d)) c.items v
    (record { holds = record { holds = begins v valid tied; ordered = ordered }; finds = found; once = unless_not (name_once (map (λ (i : DiscardedVersion). i.object) c.items)) bad_value parts.0 })
