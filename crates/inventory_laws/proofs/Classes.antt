-- A device class that comes or goes leaves a valid database.
use Rattle.std.proofs.Common.{◌≡◌, ℕ, true, false, cond, ◌&&◌, List, Option, Some, None, is_some, is_none, refl, sym, ap, subst, ◌∙◌}
use Rattle.std.specs.List.{list_all, AllByRecursion}
use Rattle.std.specs.Map.{remove_entry}
use Rattle.std.specs.BTreeMap.{insert_entry, is_at}
use Rattle.std.specs.Cmp.Lexicographic.{slice_cmp}
use Rattle.std.specs.Ordering.{nat_cmp}
use Rattle.std.proofs.lemmas.Bool.{and_parts, and_from, false≢true, false_from_ne_true}
use Rattle.inventory_rules.specs.inventory_rows.pool_tables.declared.pool.Pool.{Pool}
use Rattle.kinds.specs.Names.{is_same_name}
use Rattle.inventory_rules.specs.inventory_rows.pool_tables.Rows.{named, row_at, number_where}
use Rattle.inventory_rules.proofs.of_inventory_rows.of_pool_tables.Counting.{each_there}
use Rattle.inventory_rules.proofs.of_inventory_rows.of_pool_tables.Names.{same_is, at_name}
use Rattle.inventory_rules.specs.inventory_rows.pool_rows.PoolRows.{capacity_there, pool_class_capacity}
use Rattle.inventory_rules.specs.inventory_rows.Search.{pool}
use Rattle.inventory_rules.specs.inventory_rows.State.{Inv}
use Rattle.inventory_rules.specs.Held.{IsTied}
use Rattle.inventory_rules.specs.Valid.{disk, is_class, next_is_there}
use Rattle.inventory_rules.specs.Facts.{Facts}
use Rattle.inventory_laws.proofs.Lists.{all_of, all_from, all_left, all_with, each_also, each_both, came, went, lookup_left}
use Rattle.inventory_laws.proofs.RowsKept.{passes-lookup}
use Rattle.inventory_laws.proofs.StoreRows.{none_where}
use Rattle.inventory_laws.proofs.Stored.{stored, with_pools, IsRoom, Stands, Alike, uses_found, next_also, seen, same_backups, stored_valid}

-- what stands under another name stays where a class comes
found_besides : (c class : List ℕ) (capacity : Option ℕ) (classes : List (List ℕ × Option ℕ)) → named class classes ≡ None → is_some (named c classes) ≡ true → named c (insert_entry (slice_cmp nat_cmp) classes class capacity) ≡ named c classes
found_besides c class capacity classes absent there =
    lookup_left (is_at (slice_cmp nat_cmp c)) (class, capacity) (insert_entry (slice_cmp nat_cmp) classes class capacity) classes (came (slice_cmp nat_cmp) class capacity classes absent)
    (false_from_ne_true (is_at (slice_cmp nat_cmp c) class) apart)
  where
    apart : is_at (slice_cmp nat_cmp c) class ≡ true → ⊥
    apart is =
        let same : c ≡ class = same_is c class (sym (at_name c class) ∙ is) in
        false≢true (sym (ap is_some absent) ∙ subst (λ (n : List ℕ). is_some (named n classes) ≡ true) same there)

-- and where one goes
left_besides : (c class : List ℕ) (x : Option ℕ) (classes : List (List ℕ × Option ℕ)) → named class classes ≡ Some x → is_same_name c class ≡ false → named c (remove_entry (is_at (slice_cmp nat_cmp class)) classes) ≡ named c classes
left_besides c class x classes there ne =
    let w = went (is_at (slice_cmp nat_cmp class)) classes x there in
    let same : class ≡ w.0 = same_is class w.0 (sym (at_name class w.0) ∙ w.1) in
    sym (lookup_left (is_at (slice_cmp nat_cmp c)) (w.0, x) classes (remove_entry (is_at (slice_cmp nat_cmp class)) classes) w.2 (at_name c w.0 ∙ ap (is_same_name c) (sym same) ∙ ne))

-- each pool's class is what it was
abbrev ClassesStay : Inv → List (List ℕ × Option ℕ) → Type 0
ClassesStay v classes = AllByRecursion (λ (p : ℕ × Pool). named p.1.class classes ≡ named p.1.class v.stores.classes) v.stores.pools

pub alike : (v : Inv) (classes : List (List ℕ × Option ℕ)) → ClassesStay v classes → (n : ℕ) → Alike v.stores (with_pools v classes v.stores.pools) n
alike v classes h n = record {
  there = refl;
  primary = refl;
  capacity = elim (row_at n v.stores.pools) as (λ o. row_at n v.stores.pools ≡ o → pool_class_capacity (with_pools v classes v.stores.pools) o ≡ pool_class_capacity v.stores o) [
    | None ↦ λ _. refl
    | Some p ↦ λ found. ap capacity_there (each_there (λ (e : ℕ × Pool). named e.1.class classes ≡ named e.1.class v.stores.classes) n p v.stores.pools found h)
  ] refl;
}

row_cites : (c d : Option (Option ℕ)) (o : Option ℕ) (v w : Inv) → ((n : ℕ) → is_some (pool n v) ≡ true → is_some (pool n w) ≡ true) → c ≡ d → (is_some d && next_is_there o v) ≡ true → (is_some c && next_is_there o w) ≡ true
row_cites c d o v w there same t =
    let p = and_parts (is_some d) (next_is_there o v) t in and_from (is_some c) (next_is_there o w) (ap is_some same ∙ p.0) (next_also o v w there p.1)

pub classes_stand : (v : Inv) (classes : List (List ℕ × Option ℕ)) → Facts v → IsTied v → ClassesStay v classes → (is_some (named disk classes) && list_all is_class classes) ≡ true
    → IsRoom (stored v (with_pools v classes v.stores.pools) v.next_pool v.next_file v.backups) → Stands (stored v (with_pools v classes v.stores.pools) v.next_pool v.next_file v.backups)
classes_stand v classes f tied h are room =
    let s = seen v classes v.stores.pools v.next_pool v.backups f (uses_found v (with_pools v classes v.stores.pools) f (λ n _. alike v classes h n)) in (
      stored_valid v (with_pools v classes v.stores.pools) v.next_pool v.next_file v.backups f (same_backups v f) (record {
        rules_cite = s.rules_cite;
        pools_cite = all_from (λ (p : ℕ × Pool). is_some (named p.1.class classes) && next_is_there p.1.settings.next (stored v (with_pools v classes v.stores.pools) v.next_pool v.next_file v.backups)) v.stores.pools
            (each_both (λ (p : ℕ × Pool). (is_some (named p.1.class v.stores.classes) && next_is_there p.1.settings.next v) ≡ true) (λ p. named p.1.class classes ≡ named p.1.class v.stores.classes)
            (λ p. (is_some (named p.1.class classes) && next_is_there p.1.settings.next (stored v (with_pools v classes v.stores.pools) v.next_pool v.next_file v.backups)) ≡ true) v.stores.pools
            (λ p t same.
            row_cites (named p.1.class classes) (named p.1.class v.stores.classes) p.1.settings.next v (stored v (with_pools v classes v.stores.pools) v.next_pool v.next_file v.backups) (λ n t. t) same t)
            (all_of (λ (p : ℕ × Pool). is_some (named p.1.class v.stores.classes) && next_is_there p.1.settings.next v) v.stores.pools f.pools_cite) h);
        volumes_cite = s.volumes_cite;
        copies_cite = s.copies_cite;
        pools_drawn = f.pools_drawn;
        files_drawn = f.files_drawn;
        pools_bounded = f.pools_bounded;
        files_bounded = f.files_bounded;
        files_apart = f.files_apart;
        pool_names = f.pool_names;
        volume_names = f.volume_names;
        named_soundly = f.named_soundly;
        versions_copied = s.versions_copied;
        volumes_are = s.volumes_are;
        no_ring = f.no_ring;
        classes_are = are;
        volumes_by_today = f.volumes_by_today;
      }) room,
      tied,
    )

-- a class comes
pub defined_stays : (v : Inv) (class : List ℕ) (capacity : Option ℕ) → Facts v → named class v.stores.classes ≡ None → ClassesStay v (insert_entry (slice_cmp nat_cmp) v.stores.classes class capacity)
defined_stays v class capacity f absent =
    each_also (λ (p : ℕ × Pool). (is_some (named p.1.class v.stores.classes) && next_is_there p.1.settings.next v) ≡ true) (λ p. named p.1.class (insert_entry (slice_cmp nat_cmp) v.stores.classes class capacity) ≡ named p.1.class v.stores.classes) v.stores.pools
    (λ p t. found_besides p.1.class class capacity v.stores.classes absent (and_parts (is_some (named p.1.class v.stores.classes)) (next_is_there p.1.settings.next v) t).0)
    (all_of (λ (p : ℕ × Pool). is_some (named p.1.class v.stores.classes) && next_is_there p.1.settings.next v) v.stores.pools f.pools_cite)

-- a class goes that no pool has
pub deleted_stays : (v : Inv) (class : List ℕ) (x : Option ℕ) → named class v.stores.classes ≡ Some x → number_where (λ p. is_same_name p.class class) v.stores.pools ≡ None → ClassesStay v (remove_entry (is_at (slice_cmp nat_cmp class)) v.stores.classes)
deleted_stays v class x there unused =
    each_also (λ (p : ℕ × Pool). is_same_name p.1.class class ≡ false) (λ p. named p.1.class (remove_entry (is_at (slice_cmp nat_cmp class)) v.stores.classes) ≡ named p.1.class v.stores.classes) v.stores.pools
    (λ p t. left_besides p.1.class class x v.stores.classes there t)
    (none_where (λ (p : Pool). is_same_name p.class class) v.stores.pools unused)

-- DISK is there and it alone has no capacity, still where a class with a capacity comes
pub defined_are : (class : List ℕ) (capacity : ℕ) (classes : List (List ℕ × Option ℕ)) → (is_some (named disk classes) && list_all is_class classes) ≡ true → named class classes ≡ None
    → (is_some (named disk (insert_entry (slice_cmp nat_cmp) classes class (Some capacity))) && list_all is_class (insert_entry (slice_cmp nat_cmp) classes class (Some capacity))) ≡ true
defined_are class capacity classes h absent =
    let new : List (List ℕ × Option ℕ) = insert_entry (slice_cmp nat_cmp) classes class (Some capacity) in
    let t = and_parts (is_some (named disk classes)) (list_all is_class classes) h in
    and_from (is_some (named disk new)) (list_all is_class new) (ap is_some (found_besides disk class (Some capacity) classes absent t.0) ∙ t.0)
    (all_with is_class (class, Some capacity) new classes (came (slice_cmp nat_cmp) class (Some capacity) classes absent) (ap (λ b. cond b false true) (other t.0)) t.1)
  where
    other : is_some (named disk classes) ≡ true → is_same_name disk class ≡ false
    other there = false_from_ne_true (is_same_name disk class) (λ is. false≢true (sym (ap is_some absent) ∙ subst (λ (n : List ℕ). is_some (named n classes) ≡ true) (same_is disk class is) there))

-- a class with a capacity isn't DISK
with_capacity : (class : List ℕ) (x : Option ℕ) (classes : List (List ℕ × Option ℕ)) → list_all is_class classes ≡ true → named class classes ≡ Some x → is_some x ≡ true → is_same_name disk class ≡ false
with_capacity class x classes all there has =
    let k = passes-lookup is_class (is_at (slice_cmp nat_cmp class)) classes x all there in
    let same : class ≡ k.0 = same_is class k.0 (sym (at_name class k.0) ∙ k.1) in
    false_from_ne_true (is_same_name disk class) (λ is. neither x has (sym (ap (λ b. cond b (is_none x) (is_some x)) (sym (ap (is_same_name disk) same) ∙ is)) ∙ k.2))
  where
    neither : (x : Option ℕ) → is_some x ≡ true → is_none x ≡ true → ⊥
    neither None a b = false≢true a
    neither (Some n) a b = false≢true b

-- so it is where such a class goes
pub deleted_are : (class : List ℕ) (x : Option ℕ) (classes : List (List ℕ × Option ℕ)) → (is_some (named disk classes) && list_all is_class classes) ≡ true → named class classes ≡ Some x → is_some x ≡ true
    → (is_some (named disk (remove_entry (is_at (slice_cmp nat_cmp class)) classes)) && list_all is_class (remove_entry (is_at (slice_cmp nat_cmp class)) classes)) ≡ true
deleted_are class x classes h there has =
    let new : List (List ℕ × Option ℕ) = remove_entry (is_at (slice_cmp nat_cmp class)) classes in
    let t = and_parts (is_some (named disk classes)) (list_all is_class classes) h in
    let w = went (is_at (slice_cmp nat_cmp class)) classes x there in
    and_from (is_some (named disk new)) (list_all is_class new) (ap is_some (left_besides disk class x classes there (with_capacity class x classes t.1 there has)) ∙ t.0) (all_left is_class (w.0, x) classes new w.2 t.1)
