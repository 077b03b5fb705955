-- What drops of copies for the deletion of a volume leave: rows in order, the volume under its name in its pool, and of what still lies on the volume nothing that they name, and nothing that wasn't there so before.
use Rattle.std.proofs.Common.{◌≡◌, ℕ, Bool, true, false, cond, eqb, not, ◌||◌, if◌then◌else◌, List, [], ◌∷◌, map, Some, None, Result, Ok, Err, is_some, refl, sym, ap, subst, ◌∙◌}
use Rattle.std.proofs.lemmas.Bool.{and_parts, eqb-false, eqb-true, false≢true, ne_eqb, not-true}
use Rattle.std.proofs.lemmas.Option.{same_Some}
use Rattle.std.specs.List.{AllByRecursion, flat_map, list_all, list_any}
use Rattle.kinds.specs.Refusals.{bad_value, unless}
use Rattle.kinds.specs.declared.refusal.Refusal.{Refusal}
use Rattle.kinds.specs.declared.refusal.Refusal.TheVariants as refused
use Rattle.entries.specs.change_items.declared.items.DroppedCopy.{DroppedCopy}
use Rattle.entries.specs.change_items.declared.lists.DroppedCopies.{DroppedCopies}
use Rattle.entries.specs.change_items.declared.reasons.DropReason.TheVariants as since
use Rattle.entries.specs.declared.change.Change.TheVariants as change
use Rattle.inventory_rows.specs.pool_tables.Rows.{row_at}
use Rattle.inventory_rows.specs.version_groups.Copies.{copies_after, has_copy, without_copy}
use Rattle.inventory_rows.specs.version_groups.Versions.{version_of, with_copies}
use Rattle.inventory_rows.specs.version_groups.declared.copies.CopyRow.{CopyRow}
use Rattle.inventory_rows.specs.version_groups.declared.versions.Version.{Version}
use Rattle.inventory_rows.specs.volume_rows.declared.volume.Volume.{Volume}
use Rattle.inventory_rows.specs.Search.{copy_in, lies_on, version, versions}
use Rattle.inventory_rows.specs.State.{Inv}
use Rattle.inventory_rules.specs.Common.{each}
use Rattle.inventory_rules.specs.Copies.{change_copy, drop_copy, dropped, dropped_refused, lies_there, named_drop_refused, placed_by, stale_copy, version_drop_refused}
use Rattle.inventory_rules.specs.Journal.{Journal}
use Rattle.inventory_rules.specs.Ordered.{IsOrdered}
use Rattle.inventory_rules.specs.Transactions.{causes, effect}
use Rattle.inventory_rules.specs.Valid.{is_valid}
use Rattle.inventory_rules.specs.Versions.{name_once}
use Rattle.inventory_rules.proofs.CopiedLists.{kept_of-copied}
use Rattle.inventory_laws.specs.Kept.{OnlyVolumes}
use Rattle.inventory_laws.proofs.Copied.{altered}
use Rattle.inventory_laws.proofs.CopyLists.{has-in_pool}
use Rattle.inventory_laws.proofs.InOrder.{counted, drop_ordered, each_ordered}
use Rattle.inventory_laws.proofs.Others.{other_copied}
use Rattle.inventory_laws.proofs.Removals.{Drops, drop_found, none_of_each, version_there}
use Rattle.inventory_laws.proofs.VolumeItems.{drops_kept}
use Rattle.machine.proofs.Elsewhere.{append-none}
use Rattle.line_results.proofs.Cited.{found-among, in-its-pool}
use Rattle.line_results.proofs.Discarded.{both-false}

-- ---- one copy goes

turned : (a b : ℕ) → eqb a b ≡ false → eqb b a ≡ false
turned a b h = ne_eqb b a (λ e. eqb-false a b h (sym e))

none-left : (number : ℕ) (copies : List CopyRow) → has_copy number (without_copy number copies) ≡ false
none-left number [] = refl
none-left number (c ∷ copies) =
    elim (eqb c.pool number) as (λ b. eqb c.pool number ≡ b → has_copy number (cond (not b) (c ∷ without_copy number copies) (without_copy number copies)) ≡ false) [
      | true ↦ λ same. none-left number copies
      | false ↦ λ other. both-false (eqb c.pool number) (has_copy number (without_copy number copies)) other (none-left number copies)
    ] refl

-- what is found of an object whose copies changed has these
has-those : (k : ℕ) (copies : List CopyRow) (ws : List Version) (w : Version) → version_of k (with_copies k copies ws) ≡ Some w → w.copies ≡ copies
has-those k copies [] w found = absurd (let odd : None ≡ Some w = found in cc)
has-those k copies (x ∷ ws) w found =
    elim (eqb x.object k) as (λ b. eqb x.object k ≡ b → cond (eqb (cond {A = Version} b (record x { copies = copies }) x).object k) (Some (cond {A = Version} b (record x { copies = copies }) x)) (version_of k (with_copies k copies ws)) ≡ Some w
    → w.copies ≡ copies) [
      | true ↦ λ same is.
          (let it : Some (record x { copies = copies }) ≡ Some w = sym (ap (λ (b : Bool). cond b (Some (record x { copies = copies })) (version_of k (with_copies k copies ws))) same) ∙ is in
          sym (ap (λ (y : Version). y.copies) (same_Some (record x { copies = copies }) w it)))
      | false ↦ λ other is. has-those k copies ws w (sym (ap (λ (b : Bool). cond b (Some x) (version_of k (with_copies k copies ws))) other) ∙ is)
    ] refl found

module _ (item : DroppedCopy) (v : Inv) (d : Drops item v) where
  kept : OnlyVolumes (change_copy item.object (dropped item) v) (drop_copy item v)
  kept = drops_kept item v

  said : copies_after (dropped item) d.old.copies ≡ Ok (without_copy item.pool d.old.copies)
  said = ap (λ (b : Bool). cond {A = Result (List CopyRow) Refusal} b (Ok (without_copy item.pool d.old.copies)) (Err refused.NotFound)) (has-in_pool item.pool d.old.copies ∙ ap is_some d.there)

  version-itself : version item.object (drop_copy item v) ≡ version_of item.object (with_copies item.object (without_copy item.pool d.old.copies) (versions v))
  version-itself =
      ap (version item.object) kept.only ∙ ap (version item.object) (sym (altered item.object (dropped item) v d.old (without_copy item.pool d.old.copies) d.found said))
      ∙ ap (version_of item.object) (kept_of-copied item.object (without_copy item.pool d.old.copies) v.clients)

  -- none of its object's lies in that pool any more
  gone : (w : Version) → version item.object (drop_copy item v) ≡ Some w → has_copy item.pool w.copies ≡ false
  gone w found =
      ap (has_copy item.pool) (has-those item.object (without_copy item.pool d.old.copies) (versions v) w (sym version-itself ∙ found)) ∙ none-left item.pool d.old.copies

  version-other : (other : ℕ) → eqb other item.object ≡ false → version other (drop_copy item v) ≡ version other v
  version-other other ne = ap (version other) kept.only ∙ other_copied item.object other (dropped item) v ne

-- ---- several

-- a copy is there that may go, in this pool
record DropsFrom (number : ℕ) (item : DroppedCopy) (v : Inv) : Type 0 where
  drops : Drops item v
  from : item.pool ≡ number

still-from : (number : ℕ) (item other : DroppedCopy) (v : Inv) → DropsFrom number item v → eqb other.object item.object ≡ false → DropsFrom number other v → DropsFrom number other (drop_copy item v)
still-from number item other v first ne d = record {
  drops = record {
    old = d.drops.old;
    found = version-other item v first.drops other.object ne ∙ d.drops.found;
    copy = d.drops.copy;
    there = d.drops.there;
    another = d.drops.another;
  };
  from = d.from;
}

others-from : (number : ℕ) (item : DroppedCopy) (v : Inv) → DropsFrom number item v → (items : List DroppedCopy) → list_all (λ b. not (eqb item.object b)) (map (λ (i : DroppedCopy). i.object) items) ≡ true
    → AllByRecursion (λ (i : DroppedCopy). DropsFrom number i v) items → AllByRecursion (λ (i : DroppedCopy). DropsFrom number i (drop_copy item v)) items
others-from number item v first [] apart all = tt
others-from number item v first (i ∷ items) apart all =
    let parts = and_parts (not (eqb item.object i.object)) (list_all (λ b. not (eqb item.object b)) (map (λ (x : DroppedCopy). x.object) items)) apart in
    (still-from number item i v first (turned item.object i.object (not-true (eqb item.object i.object) parts.0)) all.0, others-from number item v first items parts.1 all.1)

-- an object of which a copy is in the pool still isn't named, and is as it was
drops-run : (number : ℕ) (items : List DroppedCopy) (v : Inv) → AllByRecursion (λ (i : DroppedCopy). DropsFrom number i v) items → name_once (map (λ (i : DroppedCopy). i.object) items) ≡ true → (m : ℕ) (w : Version) → has_copy number w.copies ≡ true
    → version m (each drop_copy items v) ≡ Some w → (version m v ≡ Some w) × (list_any (λ (i : DroppedCopy). eqb i.object m) items ≡ false)
drops-run number [] v all once m w has is = (is, refl)
drops-run number (i ∷ items) v all once m w has is =
    let parts = and_parts (list_all (λ b. not (eqb i.object b)) (map (λ (x : DroppedCopy). x.object) items)) (name_once (map (λ (x : DroppedCopy). x.object) items)) once in
    let rest = drops-run number items (drop_copy i v) (others-from number i v all.0 items parts.0 all.1) parts.1 m w has is in
    elim (eqb m i.object) as (λ b. eqb m i.object ≡ b → (version m v ≡ Some w) × ((eqb i.object m || list_any (λ (x : DroppedCopy). eqb x.object m) items) ≡ false)) [
      | true ↦ λ same.
          (let there : version i.object (drop_copy i v) ≡ Some w = subst (λ (k : ℕ). version k (drop_copy i v) ≡ Some w) (eqb-true m i.object same) rest.0 in
          let none : has_copy number w.copies ≡ false = subst (λ (n : ℕ). has_copy n w.copies ≡ false) all.0.from (gone i v all.0.drops w there) in
          absurd (false≢true (sym none ∙ has)))
      | false ↦ λ other. (sym (version-other i v all.0.drops m other) ∙ rest.0, both-false (eqb i.object m) (list_any (λ (x : DroppedCopy). eqb x.object m) items) (turned m i.object other) rest.1)
    ] refl

-- ---- a transaction

-- what is dropped for a volume's deletion lies on it
lies-named : (b lies : Bool) (stale : Refusal) → (if b then unless lies refused.NotFound else stale ∷ []) ≡ [] → lies ≡ true
lies-named true true stale h = refl
lies-named true false stale h = absurd cc
lies-named false lies stale h = absurd cc

drop-there : (j : Journal) (file : ℕ) (x : Volume) (v : Inv) → is_valid v ≡ true → row_at file v.stores.volumes ≡ Some x → (item : DroppedCopy) → dropped_refused j (since.Volume file) v item ≡ [] → DropsFrom x.pool item v
drop-there j file x v valid at item legal =
    let d : Drops item v = drop_found j (since.Volume file) v item legal in
    let w = version_there j item.object (version_drop_refused j (since.Volume file) v item) v (version item.object v) refl legal in
    let one = append-none (named_drop_refused j (since.Volume file) item w.0) _ w.2 in
    let lies : lies_there file (copy_in item.pool w.0) ≡ true =
    lies-named (placed_by item.placed (copy_in item.pool w.0)) (lies_there file (copy_in item.pool w.0)) (stale_copy (j.copy_changed item.object item.pool) (copy_in item.pool w.0)) one.0 in
    let same : w.0 ≡ d.old = same_Some w.0 d.old (sym w.1 ∙ d.found) in
    let on_it : lies_on file d.copy ≡ true = sym (ap (lies_there file) d.there) ∙ subst (λ (y : Version). lies_there file (copy_in item.pool y) ≡ true) same lies in
    let in_it = found-among (λ (c : CopyRow). lies_on file c ≡ true → c.pool ≡ x.pool) item.pool d.old.copies d.copy d.there (in-its-pool file item.object v x d.old valid at d.found) in
    record { drops = d; from = sym in_it.1 ∙ in_it.0 on_it }

unless-none : (b : Bool) (e : Refusal) → unless b e ≡ [] → b ≡ true
unless-none true e is = refl
unless-none false e is = absurd cc

-- what is still in the volume's pool behind it was so before, and isn't named
pub dropped-versions : (j : Journal) (file : ℕ) (items : List DroppedCopy) (x : Volume) (v : Inv) → is_valid v ≡ true → row_at file v.stores.volumes ≡ Some x → causes j (change.DropCopies (record { reason = since.Volume file; items = items })) v ≡ []
    → (m : ℕ) (w : Version) → has_copy x.pool w.copies ≡ true → version m (effect (change.DropCopies (record { reason = since.Volume file; items = items })) v) ≡ Some w → (version m v ≡ Some w) × (list_any (λ (i : DroppedCopy). eqb i.object m) items ≡ false)
unfolding effect
dropped-versions j file items x v valid at legal m w has is =
    let parts = append-none (unless (name_once (map (λ (i : DroppedCopy). i.object) items)) bad_value) (flat_map (dropped_refused j (since.Volume file) v) items) legal in
    let all : AllByRecursion (λ (i : DroppedCopy). DropsFrom x.pool i v) items =
    none_of_each (dropped_refused j (since.Volume file) v) (λ (i : DroppedCopy). DropsFrom x.pool i v) (λ i none. drop-there j file x v valid at i none) items parts.1 in
    drops-run x.pool items v all (unless-none (name_once (map (λ (i : DroppedCopy). i.object) items)) bad_value parts.0) m w has is

pub dropped-ordered : (c : DroppedCopies) (v : Inv) → IsOrdered v → IsOrdered (effect (change.DropCopies c) v)
dropped-ordered c v ordered = counted (change.DropCopies c) v (each_ordered drop_copy drop_ordered c.items v ordered)
