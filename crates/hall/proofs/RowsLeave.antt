-- The copies that go with a transaction, and those that stay.
use Rattle.std.proofs.Common.{◌≡◌, ◌⊎◌, inl, inr, ◌||◌, ℕ, Bool, true, false, cond, eqb, not, ◌&&◌, List, [], ◌∷◌, ◌++◌, length, map, Option, Some, None, refl, sym, ap, subst, ◌∙◌, append_assoc}
use Rattle.std.specs.Prelude.{◌==◌, nat_le, Result}
use Rattle.std.specs.List.{AllByRecursion, filter, find, flat_map, list_all, sum_by}
use Rattle.std.specs.Option.{option_map_or}
use Rattle.std.proofs.lemmas.Bool.{and_parts, eqb-false, ne_eqb, not-true, or_left, or_right}
use Rattle.entries.specs.change_items.declared.items.DiscardedVersion.{DiscardedVersion}
use Rattle.entries.specs.change_items.declared.items.DroppedCopy.{DroppedCopy}
use Rattle.entries.specs.change_items.declared.items.NamedVersion.{NamedVersion}
use Rattle.inventory_rows.specs.version_groups.declared.copies.CopyRow.{CopyRow}
use Rattle.inventory_rows.specs.version_groups.declared.versions.Version.{Version}
use Rattle.inventory_rows.specs.version_groups.Copies.{are_by_pool, without_copy}
use Rattle.inventory_rows.specs.version_groups.Entries.{is_nil}
use Rattle.inventory_rows.specs.object_rows.Filespaces.{versions_at}
use Rattle.inventory_rows.specs.version_groups.Versions.{has_object}
use Rattle.inventory_rows.specs.object_rows.HeldRows.{has_under, is_under as row_under}
use Rattle.inventory_rows.specs.object_rows.Places.{place_of}
use Rattle.inventory_rows.specs.object_rows.Rows.{Rows, rows_cleared, rows_without}
use Rattle.inventory_rows.proofs.of_object_rows.Splices.{Splices}
use Rattle.kinds.specs.declared.refusal.Refusal.{Refusal}
use Rattle.inventory_rows.specs.Search.{copies, version}
use Rattle.inventory_rows.specs.State.{Inv}
use Rattle.inventory_rules.specs.Common.{each}
use Rattle.inventory_rules.specs.Copies.{change_copy, drop_copy, dropped}
use Rattle.inventory_rules.specs.Halfway.{VersionFacts}
use Rattle.inventory_rules.specs.Ordered.{IsOrdered}
use Rattle.inventory_rules.specs.Reordered.{IsReordered}
use Rattle.inventory_rules.specs.Valid.{is_copied, primary_copies}
use Rattle.inventory_rules.specs.Versions.{discard, expire, is_under, name_once, take_versions}
use Rattle.inventory_laws.specs.Kept.{OnlyVolumes, clients_after}
use Rattle.inventory_laws.proofs.Copied.{own_of}
use Rattle.inventory_laws.proofs.CopyLists.{copy_goes}
use Rattle.inventory_laws.proofs.CopySteps as copy_steps
use Rattle.inventory_laws.proofs.Leaves.{Goes, after_is, cleared, facts_after, order_after, ordered_after, other_after, without}
use Rattle.inventory_laws.proofs.Orders.{filter-append, reordered_behind, reordered_itself, reordered_then}
use Rattle.inventory_laws.proofs.Others.{other_copied, path_of_place}
use Rattle.inventory_laws.proofs.Removals.{Discards, Drops, Expires}
use Rattle.inventory_laws.proofs.VersionsWhole.{ordered_elsewhere}
use Rattle.inventory_laws.proofs.VolumeItems.{drops_kept, removes_kept, versions_kept}
use Rattle.hall.specs.Joined.{goes_from}

-- the copies of an object that go, each with the object
abbrev pub rows_left : (object : ℕ) → Option ℕ → Option Version → List (ℕ × CopyRow)
rows_left object from o = option_map_or (λ w. map (λ (c : CopyRow). (object, c)) (filter (goes_from from) w.copies)) o []

-- those of the objects that some items name
abbrev pub rows_all : {X : Type 0} → (X → ℕ) → (X → Option ℕ) → List X → Inv → List (ℕ × CopyRow)
rows_all object from items v = flat_map (λ i. rows_left (object i) (from i) (version (object i) v)) items

-- ---- the copy in a pool alone, or all

pub all_of_them : (cs : List CopyRow) → filter (goes_from None) cs ≡ cs
all_of_them [] = refl
all_of_them (c ∷ cs) = ap (λ (l : List CopyRow). c ∷ l) (all_of_them cs)

none_else : (pool : ℕ) (cs : List CopyRow) → filter (goes_from (Some pool)) (without_copy pool cs) ≡ []
none_else pool [] = refl
none_else pool (c ∷ cs) = go (eqb c.pool pool) refl (none_else pool cs) where
  go : (b : Bool) → eqb c.pool pool ≡ b → filter (goes_from (Some pool)) (without_copy pool cs) ≡ [] → filter (goes_from (Some pool)) (cond {A = List CopyRow} (not b) (c ∷ without_copy pool cs) (without_copy pool cs)) ≡ []
  go true e more = more
  go false e more = ap (λ b. cond {A = List CopyRow} b (c ∷ filter (goes_from (Some pool)) (without_copy pool cs)) (filter (goes_from (Some pool)) (without_copy pool cs))) e ∙ more

is_its : (pool : ℕ) (cs : List CopyRow) (old : CopyRow) → find (λ (c : CopyRow). eqb c.pool pool) cs ≡ Some old → eqb old.pool pool ≡ true
is_its pool [] old h = absurd cc
is_its pool (c ∷ cs) old h = go (eqb c.pool pool) refl (λ t. is_its pool cs old t) h where
  go : (b : Bool) → eqb c.pool pool ≡ b → (find (λ (c : CopyRow). eqb c.pool pool) cs ≡ Some old → eqb old.pool pool ≡ true) → cond {A = Option CopyRow} b (Some c) (find (λ (c : CopyRow). eqb c.pool pool) cs) ≡ Some old → eqb old.pool pool ≡ true
  go true e more t = let same : c ≡ old = cc in subst (λ (d : CopyRow). eqb d.pool pool ≡ true) same e
  go false e more t = more t

both_nil : {A : Type 0} (a b : List A) → a ++ b ≡ [] → (a ≡ []) × (b ≡ [])
both_nil [] b h = (refl, h)
both_nil (y ∷ a) b h = absurd cc

pub one_of_them : (pool : ℕ) (cs : List CopyRow) (old : CopyRow) → are_by_pool cs ≡ true → find (λ (c : CopyRow). eqb c.pool pool) cs ≡ Some old → filter (goes_from (Some pool)) cs ≡ old ∷ []
one_of_them pool cs old by there =
    let s : Splices (old ∷ []) [] cs (without_copy pool cs) = copy_goes pool cs old by there in
    let rest : filter (goes_from (Some pool)) s.before ++ filter (goes_from (Some pool)) s.after ≡ [] =
    sym (filter-append (goes_from (Some pool)) s.before s.after) ∙ ap (filter (goes_from (Some pool))) (sym s.becomes) ∙ none_else pool cs in
    let parts = both_nil (filter (goes_from (Some pool)) s.before) (filter (goes_from (Some pool)) s.after) rest in
    ap (filter (goes_from (Some pool))) s.was ∙ filter-append (goes_from (Some pool)) s.before (old ∷ s.after)
    ∙ ap (λ (l : List CopyRow). l ++ filter (goes_from (Some pool)) (old ∷ s.after)) parts.0
    ∙ ap (λ b. cond {A = List CopyRow} b (old ∷ filter (goes_from (Some pool)) s.after) (filter (goes_from (Some pool)) s.after)) (is_its pool cs old there)
    ∙ ap (λ (l : List CopyRow). old ∷ l) parts.1

pub by_pool : (v : Inv) (w : Version) → is_copied v w ≡ true → are_by_pool w.copies ≡ true
by_pool v w t =
    let few : Bool = nat_le (length (primary_copies v w)) 1 in
    let sizes : Bool = list_all (λ c. sum_by (λ s. s.len) c.segments == w.size) w.copies in
    let one = and_parts (not (is_nil w.copies)) (few && (are_by_pool w.copies && sizes)) t in
    let two = and_parts few (are_by_pool w.copies && sizes) one.1 in
    (and_parts (are_by_pool w.copies) sizes two.1).0

-- ---- item by item

turned : (a b : ℕ) → not (eqb a b) ≡ true → eqb b a ≡ false
turned a b h = ne_eqb b a (λ t. eqb-false a b (not-true (eqb a b) h) (sym t))

module _ {X : Type 0} (object : X → ℕ) (from : X → Option ℕ) (step : X → Inv → Inv) (Between : Inv → Type 0) (Finds : X → Inv → Type 0) where
  -- what a step takes away, and what it leaves
  pub record Went (i : X) (v : Inv) : Type 0 where
    pub holds : Between (step i v)
    pub order : IsReordered (copies v) (rows_left (object i) (from i) (version (object i) v) ++ copies (step i v))
    pub others : (k : ℕ) → eqb k (object i) ≡ false → version k (step i v) ≡ version k v
    pub finds : (k : X) → eqb (object k) (object i) ≡ false → Finds k v → Finds k (step i v)

  rows_still : (i : X) (v : Inv) → Went i v → (items : List X) → list_all (λ b. not (eqb (object i) b)) (map object items) ≡ true → rows_all object from items (step i v) ≡ rows_all object from items v
  rows_still i v g [] apart = refl
  rows_still i v g (k ∷ items) apart =
      let parts = and_parts (not (eqb (object i) (object k))) (list_all (λ b. not (eqb (object i) b)) (map object items)) apart in
      ap (λ (o : Option Version). rows_left (object k) (from k) o ++ rows_all object from items (step i v)) (g.others (object k) (turned (object i) (object k) parts.0))
      ∙ ap (λ (l : List (ℕ × CopyRow)). rows_left (object k) (from k) (version (object k) v) ++ l) (rows_still i v g items parts.1)

  finds_still : (i : X) (v : Inv) → Went i v → (items : List X) → list_all (λ b. not (eqb (object i) b)) (map object items) ≡ true → AllByRecursion (λ k. Finds k v) items → AllByRecursion (λ k. Finds k (step i v)) items
  finds_still i v g [] apart h = tt
  finds_still i v g (k ∷ items) apart h =
      let parts = and_parts (not (eqb (object i) (object k))) (list_all (λ b. not (eqb (object i) b)) (map object items)) apart in
      (g.finds k (turned (object i) (object k) parts.0) h.0, finds_still i v g items parts.1 h.1)

  pub all_went : ((i : X) (v : Inv) → Between v → Finds i v → Went i v) → (items : List X) (v : Inv) → Between v → AllByRecursion (λ i. Finds i v) items → name_once (map object items) ≡ true
      → IsReordered (copies v) (rows_all object from items v ++ copies (each step items v))
  all_went goes [] v b finds once = reordered_itself (copies v)
  all_went goes (i ∷ items) v b finds once =
      let parts = and_parts (list_all (λ b. not (eqb (object i) b)) (map object items)) (name_once (map object items)) once in
      let g : Went i v = goes i v b finds.0 in
      let end : Inv = each step items (step i v) in
      let here : List (ℕ × CopyRow) = rows_left (object i) (from i) (version (object i) v) in
      let more : IsReordered (copies (step i v)) (rows_all object from items (step i v) ++ copies end) = all_went goes items (step i v) g.holds (finds_still i v g items parts.0 finds.1) parts.1 in
      let same : IsReordered (copies (step i v)) (rows_all object from items v ++ copies end) = subst (λ (l : List (ℕ × CopyRow)). IsReordered (copies (step i v)) (l ++ copies end)) (rows_still i v g items parts.0) more in
      subst (IsReordered (copies v)) (sym (append_assoc here (rows_all object from items v) (copies end)))
      (reordered_then (copies v) (here ++ copies (step i v)) (here ++ (rows_all object from items v ++ copies end)) g.order (reordered_behind here (copies (step i v)) (rows_all object from items v ++ copies end) same))

-- ---- a copy goes

pub drop_went : (n : ℕ) (item : DroppedCopy) (v : Inv) → VersionFacts n v → Drops item v → Went (λ (i : DroppedCopy). i.object) (λ (i : DroppedCopy). Some i.pool) drop_copy (VersionFacts n) Drops item v
drop_went n item v f d =
    let u : Inv = change_copy item.object (dropped item) v in
    let k : OnlyVolumes u (drop_copy item v) = drops_kept item v in
    let r = copy_steps.dropped n item.object item.pool v d.old d.copy f d.found d.there d.another in
    let one : rows_left item.object (Some item.pool) (version item.object v) ≡ (item.object, d.copy) ∷ [] =
    ap (λ (o : Option Version). rows_left item.object (Some item.pool) o) d.found
    ∙ ap (map (λ (c : CopyRow). (item.object, c))) (one_of_them item.pool d.old.copies d.copy (by_pool v d.old (own_of n item.object v d.old f d.found).copied) d.there) in
    record {
      holds = versions_kept n u (drop_copy item v) k r.0;
      order = subst (λ (l : List (ℕ × CopyRow)). IsReordered (copies v) (l ++ copies (drop_copy item v))) (sym one)
          (subst (λ (l : List (ℕ × CopyRow)). IsReordered (copies v) ((item.object, d.copy) ∷ l)) (sym (ap (λ (x : Inv). copies x) k.only)) r.1);
      others = λ other ne. ap (version other) k.only ∙ other_copied item.object other (dropped item) v ne;
      finds = λ other ne e. record {
        old = e.old;
        found = ap (version other.object) k.only ∙ other_copied item.object other.object (dropped item) v ne ∙ e.found;
        copy = e.copy;
        there = e.there;
        another = e.another;
      };
    }

-- ---- an object goes

abbrev going : (Rows → Result Rows Refusal) → ℕ → Inv → Inv
going step object v = clients_after step (take_versions object v)

-- what is said of versions, and the order of the rows
pub record InOrder (n : ℕ) (v : Inv) : Type 0 where
  pub facts : VersionFacts n v
  pub ordered : IsOrdered v

module _ (n object : ℕ) (old : Version) (step : Rows → Result Rows Refusal) (v : Inv) (h : InOrder n v) (found : version object v ≡ Some old) (g : Goes n object old v (step v.clients)) where
  kept_volumes : OnlyVolumes (clients_after step v) (going step object v)
  kept_volumes = removes_kept step object v

  goes_on : InOrder n (going step object v)
  goes_on = record {
    facts = versions_kept n (clients_after step v) (going step object v) kept_volumes (facts_after n object old v step g);
    ordered = ordered_elsewhere (clients_after step v) (going step object v) (ap (λ (x : Inv). x.clients) kept_volumes.only) (ordered_after n object old v step g h.ordered);
  }

  order_of : IsReordered (copies v) (rows_left object None (version object v) ++ copies (going step object v))
  order_of =
      let one : rows_left object None (version object v) ≡ map (λ (c : CopyRow). (object, c)) old.copies =
      ap (λ (o : Option Version). rows_left object None o) found ∙ ap (map (λ (c : CopyRow). (object, c))) (all_of_them old.copies) in
      subst (λ (l : List (ℕ × CopyRow)). IsReordered (copies v) (l ++ copies (going step object v))) (sym one)
      (subst (λ (l : List (ℕ × CopyRow)). IsReordered (copies v) (map (λ (c : CopyRow). (object, c)) old.copies ++ l)) (sym (ap (λ (x : Inv). copies x) kept_volumes.only)) (order_after n object old v step g))

  other_of : (other : ℕ) → eqb other object ≡ false → version other (going step object v) ≡ version other v
  other_of other ne = ap (version other) kept_volumes.only ∙ other_after n object other old v step found g ne

  still_stands : (filespace : ℕ) (other : NamedVersion) → eqb other.object object ≡ false → Expires filespace other v → Expires filespace other (going step object v)
  still_stands filespace other ne e =
      let same : (going step object v).clients ≡ g.rows = ap (λ (x : Inv). x.clients) kept_volumes.only ∙ ap (λ (x : Inv). x.clients) (after_is n object old v step g) in
      record {
        old = e.old;
        found = other_of other.object ne ∙ e.found;
        stands = subst here (sym same) (kept e.stands);
      }
    where
      here : Rows → Type 0
      here c = (has_under filespace other.path other.object c.held ≡ true) ⊎ (place_of other.object c.filespaces ≡ Some (record { filespace = filespace; path = other.path }))

      kept : here v.clients → here g.rows
      kept (inl t) = inl (ap (λ o. option_map_or (row_under filespace other.path) o false) (g.leaves.held other.object ne) ∙ t)
      kept (inr p) = inr (g.leaves.places other.object ne ∙ p)

under_by : (n filespace : ℕ) (item : NamedVersion) (v : Inv) → InOrder n v → Expires filespace item v → is_under filespace item.path item.object v ≡ true
under_by n filespace item v h e = go e.stands where
  held : Bool
  held = has_under filespace item.path item.object v.clients.held

  stands : Bool
  stands = has_object item.object (versions_at filespace item.path v.clients.filespaces)

  go : (held ≡ true) ⊎ (place_of item.object v.clients.filespaces ≡ Some (record { filespace = filespace; path = item.path })) → (held || stands) ≡ true
  go (inl t) = or_left held stands t
  go (inr p) = or_right held stands (path_of_place n item.object v (record { filespace = filespace; path = item.path }) h.facts h.ordered p)

pub expire_went : (n filespace : ℕ) (item : NamedVersion) (v : Inv) → InOrder n v → Expires filespace item v
    → Went (λ (i : NamedVersion). i.object) (λ (i : NamedVersion). None) (expire filespace) (InOrder n) (Expires filespace) item v
expire_went n filespace item v h e =
    let g : Goes n item.object e.old v (rows_cleared filespace item.path item.object v.clients) = cleared n filespace item.object item.path v e.old h.facts e.found (under_by n filespace item v h e) in
    record {
      holds = goes_on n item.object e.old (rows_cleared filespace item.path item.object) v h e.found g;
      order = order_of n item.object e.old (rows_cleared filespace item.path item.object) v h e.found g;
      others = other_of n item.object e.old (rows_cleared filespace item.path item.object) v h e.found g;
      finds = λ other ne t. still_stands n item.object e.old (rows_cleared filespace item.path item.object) v h e.found g filespace other ne t;
    }

pub discard_went : (n : ℕ) (item : DiscardedVersion) (v : Inv) → InOrder n v → Discards item v
    → Went (λ (i : DiscardedVersion). i.object) (λ (i : DiscardedVersion). None) discard (InOrder n) Discards item v
discard_went n item v h d =
    let g : Goes n item.object d.old v (rows_without item.object v.clients) = without n item.object v d.old h.facts h.ordered d.found in
    record {
      holds = goes_on n item.object d.old (rows_without item.object) v h d.found g;
      order = order_of n item.object d.old (rows_without item.object) v h d.found g;
      others = other_of n item.object d.old (rows_without item.object) v h d.found g;
      finds = λ other ne t. record { old = t.old; found = other_of n item.object d.old (rows_without item.object) v h d.found g other.object ne ∙ t.found };
    }
