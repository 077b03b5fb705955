-- Copies that are dropped: their segments go from their volumes, one after the other.
use Rattle.std.proofs.Common.{◌≡◌, ℕ, ◌+◌, ◌<◌, true, false, cond, eqb, List, [], ◌∷◌, ◌++◌, map, Option, Some, refl, sym, ap, subst, ◌∙◌, arith}
use Rattle.std.specs.Prelude.{nat_lt}
use Rattle.std.specs.List.{AllByRecursion, filter, find, flat_map, list_all}
use Rattle.std.specs.Option.{option_map_or}
use Rattle.std.proofs.lemmas.Bool.{and_parts, eqb-true, ltb-true}
use Rattle.std.proofs.lemmas.Option.{same_Some}
use Rattle.kinds.specs.Refusals.{bad_value, unless}
use Rattle.kinds.specs.declared.segment.Segment.{Segment}
use Rattle.entries.specs.change_items.declared.items.DroppedCopy.{DroppedCopy}
use Rattle.entries.specs.change_items.declared.lists.DroppedCopies.{DroppedCopies}
use Rattle.entries.specs.declared.change.Change.TheVariants.{DropCopies}
use Rattle.inventory_rows.specs.version_groups.declared.copies.CopyRow.{CopyRow}
use Rattle.inventory_rows.specs.version_groups.Copies.{are_by_pool}
use Rattle.inventory_rows.specs.Search.{is_primary, version}
use Rattle.inventory_rows.specs.State.{Inv}
use Rattle.inventory_rules.specs.Common.{each}
use Rattle.inventory_rules.specs.Copies.{change_copy, drop_copy, dropped, dropped_refused, segments_in}
use Rattle.inventory_rules.specs.Halfway.{segments_of, VolumeFacts}
use Rattle.inventory_rules.specs.Held.{IsTied}
use Rattle.inventory_rules.specs.Journal.{Journal}
use Rattle.inventory_rules.specs.Segments.{take_all, take_away}
use Rattle.inventory_rules.specs.Transactions.{causes}
use Rattle.inventory_rules.specs.Valid.{is_valid}
use Rattle.inventory_rules.specs.Versions.{copies_at, copies_of, name_once}
use Rattle.inventory_laws.proofs.Copied.{Own, own_of}
use Rattle.inventory_laws.proofs.CopyLists.{sound_by_pool}
use Rattle.inventory_laws.proofs.CopySteps as copy
use Rattle.inventory_laws.proofs.DataEnds.{begins}
use Rattle.inventory_laws.proofs.Others.{other_copied}
use Rattle.inventory_laws.proofs.RemovedItems.{Holds}
use Rattle.inventory_laws.proofs.Removals.{Drops, drop_found, none_of_each}
use Rattle.inventory_laws.proofs.ScratchList.{none_of_both, unless_not}
use Rattle.inventory_laws.proofs.Steady.{drop_steady}
use Rattle.inventory_laws.proofs.Swapping.{facts_swapped}
use Rattle.inventory_laws.proofs.VolumeItems.{drops_kept}
use Rattle.kept_index.proofs.Going.{Took, all_stores, all_took, away_today, copies_took, of_copies, took_elsewhere}

-- ---- the copy in a pool

abbrev pub in_the_pool : ℕ → List CopyRow → List CopyRow
in_the_pool pool cs = filter (λ c. eqb c.pool pool) cs

none_above : (pool n : ℕ) (cs : List CopyRow) → n ≡ pool → list_all (λ d. nat_lt n d.pool) cs ≡ true → in_the_pool pool cs ≡ []
none_above pool n [] same h = refl
none_above pool n (d ∷ cs) same h =
    let t = and_parts (nat_lt n d.pool) (list_all (λ d. nat_lt n d.pool) cs) h in
    elim (eqb d.pool pool) as (λ b. eqb d.pool pool ≡ b → cond {A = List CopyRow} b (d ∷ in_the_pool pool cs) (in_the_pool pool cs) ≡ []) [
      | true ↦ λ is. absurd (let low : n < d.pool = ltb-true n d.pool t.0 in let equal : d.pool ≡ pool = eqb-true d.pool pool is in omega (arith, low, equal, same))
      | false ↦ λ is. none_above pool n cs same t.1
    ] refl

pub one_there : (pool : ℕ) (cs : List CopyRow) (old : CopyRow) → are_by_pool cs ≡ true → find (λ c. eqb c.pool pool) cs ≡ Some old → in_the_pool pool cs ≡ old ∷ []
one_there pool [] old h k = absurd cc
one_there pool (c ∷ cs) old h k =
    let t = and_parts (list_all (λ d. nat_lt c.pool d.pool) cs) (are_by_pool cs) h in
    elim (eqb c.pool pool) as (λ b. eqb c.pool pool ≡ b → cond {A = Option CopyRow} b (Some c) (find (λ d. eqb d.pool pool) cs) ≡ Some old → cond {A = List CopyRow} b (c ∷ in_the_pool pool cs) (in_the_pool pool cs) ≡ old ∷ []) [
      | true ↦ λ is some. ap (λ (l : List CopyRow). c ∷ l) (none_above pool c.pool cs (eqb-true c.pool pool is) t.0) ∙ ap (λ (x : CopyRow). x ∷ []) (same_Some c old some)
      | false ↦ λ is some. one_there pool cs old t.1 some
    ] refl k

-- ---- one copy goes

drop_goes_on : (n : ℕ) (item : DroppedCopy) (v : Inv) → Holds n v → Drops item v → Holds n (drop_copy item v)
drop_goes_on n item v h d =
    let r = copy.dropped n item.object item.pool v d.old d.copy h.steady.versions d.found d.there d.another in
    record { steady = drop_steady n [] item v d.old d.copy d.found d.there r.0 r.1 h.steady.volumes h.steady.cite }

others_stay : (item : DroppedCopy) (other : ℕ) (v : Inv) → eqb other item.object ≡ false → version other (drop_copy item v) ≡ version other v
others_stay item other v ne = ap (version other) (drops_kept item v).only ∙ other_copied item.object other (dropped item) v ne

still_drops : (item other : DroppedCopy) (v : Inv) → eqb other.object item.object ≡ false → Drops other v → Drops other (drop_copy item v)
still_drops item other v ne d = record { old = d.old; found = others_stay item other.object v ne ∙ d.found; copy = d.copy; there = d.there; another = d.another }

abbrev pub what_drops : DroppedCopy → Inv → List (ℕ × Segment)
what_drops item v = of_copies item.object (in_the_pool item.pool (copies_at item.object v))

drop_took : (n : ℕ) (item : DroppedCopy) (v : Inv) → Holds n v → Drops item v → Took (what_drops item v) v (drop_copy item v)
drop_took n item v h d =
    let u : Inv = change_copy item.object (dropped item) v in
    let r = copy.dropped n item.object item.pool v d.old d.copy h.steady.versions d.found d.there d.another in
    let one : List CopyRow = d.copy ∷ [] in
    let facts : VolumeFacts (segments_of (map (λ (c : CopyRow). (item.object, c)) one) ++ []) u = facts_swapped [] (map (λ (c : CopyRow). (item.object, c)) one) [] v u refl refl refl refl r.1 h.steady.volumes in
    let own : Own n v d.old = own_of n item.object v d.old h.steady.versions d.found in
    let there : in_the_pool item.pool (copies_at item.object v) ≡ one =
    ap (λ o. in_the_pool item.pool (copies_of o)) d.found ∙ one_there item.pool d.old.copies d.copy (sound_by_pool (λ (c : CopyRow). is_primary c.pool v) d.old.size d.old.copies own.copied) d.there in
    let segments : segments_in item.pool (version item.object v) ≡ d.copy.segments = ap (segments_in item.pool) d.found ∙ ap (λ (o : Option CopyRow). option_map_or (λ (c : CopyRow). c.segments) o []) d.there in
    subst (λ (cs : List CopyRow). Took (of_copies item.object cs) v (drop_copy item v)) (sym there)
    (took_elsewhere (of_copies item.object one) v u (take_all item.object one u) (drop_copy item v) refl refl
    (ap (λ (ss : List Segment). (take_away item.object ss v).stores) segments ∙ all_stores item.object one u v refl refl)
    (away_today item.object (segments_in item.pool (version item.object v)) v ∙ sym (away_today item.object d.copy.segments u)) (copies_took [] item.object one u facts))

-- ---- all of them

pub drop_all_took : (j : Journal) (c : DroppedCopies) (v : Inv) → is_valid v ≡ true → IsTied v → causes j (DropCopies c) v ≡ [] → Took (flat_map (λ i. what_drops i v) c.items) v (each drop_copy c.items v)
drop_all_took j c v valid tied cause =
    let n : ℕ = v.number + 1 in
    let parts = none_of_both (unless (name_once (map (λ (i : DroppedCopy). i.object) c.items)) bad_value) (flat_map (dropped_refused j c.reason v) c.items) cause in
    let found : AllByRecursion (λ i. Drops i v) c.items = none_of_each (dropped_refused j c.reason v) (λ i. Drops i v) (drop_found j c.reason v) c.items parts.1 in
    all_took (Holds n) Drops (λ (i : DroppedCopy). i.object) what_drops drop_copy (drop_goes_on n) (λ i k w ne h d e. still_drops i k w ne e)
    (λ i k w ne h d. ap (λ o. of_copies k.object (in_the_pool k.pool (copies_of o))) (others_stay i k.object w ne)) (drop_took n) c.items v
    (record { holds = begins v valid tied; finds = found; once = unless_not (name_once (map (λ (i : DroppedCopy). i.object) c.items)) bad_value parts.0 })
