-- A storage pool that comes or goes leaves a valid database.
use Rattle.std.proofs.Common.{◌≡◌, ℕ, zero, suc, ◌+◌, ◌^◌, ◌<◌, true, false, cond, not, ◌&&◌, ◌||◌, List, [], ◌∷◌, map, length, Option, Some, None, is_some, nat_le, nat_lt, refl, sym, ap, ◌∙◌, arith}
use Rattle.std.specs.Prelude.{◌==◌}
use Rattle.std.specs.List.{list_all, list_any, AllByRecursion}
use Rattle.std.specs.Map.{keys_of}
use Rattle.std.specs.Option.{option_map_or}
use Rattle.std.proofs.lemmas.Bool.{and_parts, and_from, eqb-false, le-leb, lt-ltb, ltb-true, ne_eqb, not-true, not_from_false}
use Rattle.inventory_rules.specs.inventory_rows.version_groups.declared.copies.CopyRow.{CopyRow}
use Rattle.inventory_rules.specs.inventory_rows.volume_rows.declared.volume.Volume.{Volume}
use Rattle.inventory_rules.specs.inventory_rows.pool_tables.declared.pool.Pool.{Pool}
use Rattle.kinds.specs.Names.{is_same_name}
use Rattle.inventory_rules.specs.inventory_rows.pool_tables.Rows.{named, row_at, with_row, without_row}
use Rattle.inventory_rules.proofs.of_inventory_rows.of_pool_tables.Counting.{apart_at, each_there}
use Rattle.inventory_rules.proofs.of_inventory_rows.of_pool_tables.Names.{same_flips}
use Rattle.inventory_rules.specs.inventory_rows.pool_rows.Changes.{is_next_there, is_pool}
use Rattle.inventory_rules.specs.inventory_rows.pool_rows.Hierarchy.{chain, comes_to, next_in}
use Rattle.inventory_rules.specs.inventory_rows.pool_rows.PoolRows.{PoolRows, pool_class_capacity, pool_named}
use Rattle.inventory_rules.specs.inventory_rows.Search.{copies, destinations, is_primary_kind, pool}
use Rattle.inventory_rules.specs.inventory_rows.State.{Inv}
use Rattle.inventory_rules.specs.Held.{IsTied}
use Rattle.inventory_rules.specs.Valid.{lie_in, next_is_there}
use Rattle.inventory_rules.specs.Facts.{Facts}
use Rattle.inventory_rules.specs.Reordered.{Picks}
use Rattle.inventory_laws.proofs.Lists.{all_also, all_from, all_left, all_of, all_with, each_also, each_any, each_both, each_left, later_left, later_with, longer, picks_map}
use Rattle.inventory_laws.proofs.StoreRows.{found_apart, name_free, other_row, row_came, row_went}
use Rattle.inventory_laws.proofs.Walks.{meets, On, Found, Leads, meets_agree, meets_down, meets_never, one_step_more}
use Rattle.inventory_laws.proofs.Stored.{stored, with_pools, IsRoom, Stands, Alike, Uses, uses_found, next_also, same_capacity, seen, same_backups, stored_valid}

-- ---- chains of next pools

-- the next pool of the pool with this number
abbrev pub next_of : List (ℕ × Pool) → ℕ → Option ℕ
next_of pools x = next_in (row_at x pools)

pub walked : (k : ℕ) (pools : List (ℕ × Pool)) (n : ℕ) (o : Option ℕ) → list_any (λ p. p == k) (chain n o pools) ≡ meets k (next_of pools) n o
walked k pools zero o = refl
walked k pools (suc n) None = refl
walked k pools (suc n) (Some x) = ap (λ b. (x == k) || b) (walked k pools n (next_of pools x))

-- each row's next pool is there
abbrev pub NextsThere : List (ℕ × Pool) → Type 0
NextsThere pools = AllByRecursion (λ (p : ℕ × Pool). On (Found pools) p.1.settings.next) pools

pub nexts : (T : ℕ → Type 0) (pools : List (ℕ × Pool)) → AllByRecursion (λ (p : ℕ × Pool). On T p.1.settings.next) pools → (x : ℕ) → On T (next_of pools x)
nexts T pools h x =
    elim (row_at x pools) as (λ o. row_at x pools ≡ o → On T (next_in o)) [
      | None ↦ λ _. tt
      | Some p ↦ λ found. each_there (λ (e : ℕ × Pool). On T e.1.settings.next) x p pools found h
    ] refl

pub leads : (pools : List (ℕ × Pool)) → NextsThere pools → Leads (next_of pools) pools
leads pools h = each_any (λ (e : ℕ × Pool). On (Found pools) (next_of pools e.0)) pools (λ e. nexts (Found pools) pools h e.0)

-- no row's chain comes back
abbrev pub NoRing : List (ℕ × Pool) → List (ℕ × Pool) → Type 0
NoRing all pools = AllByRecursion (λ (p : ℕ × Pool). comes_to p.0 p.1.settings.next all ≡ false) pools

pub no_ring_of : (all pools : List (ℕ × Pool)) → list_all (λ p. not (comes_to p.0 p.1.settings.next all)) pools ≡ true → NoRing all pools
no_ring_of all pools h =
    each_also (λ (p : ℕ × Pool). not (comes_to p.0 p.1.settings.next all) ≡ true) (λ p. comes_to p.0 p.1.settings.next all ≡ false) pools
    (λ p t. not-true (comes_to p.0 p.1.settings.next all) t) (all_of (λ p. not (comes_to p.0 p.1.settings.next all)) pools h)

pub no_ring_from : (all pools : List (ℕ × Pool)) → NoRing all pools → list_all (λ p. not (comes_to p.0 p.1.settings.next all)) pools ≡ true
no_ring_from all pools h =
    all_from (λ p. not (comes_to p.0 p.1.settings.next all)) pools
    (each_also (λ (p : ℕ × Pool). comes_to p.0 p.1.settings.next all ≡ false) (λ p. not (comes_to p.0 p.1.settings.next all) ≡ true) pools (λ p t. not_from_false (comes_to p.0 p.1.settings.next all) t) h)

-- a pool comes whose number no pool names
module _ (k : ℕ) (x : Pool) (pools new : List (ℕ × Pool)) (picks : Picks (k, x) new pools) (absent : row_at k pools ≡ None) (there : NextsThere pools) where
  same_next : (q : ℕ) → Found pools q → (next_of pools q ≡ next_of new q) × On (Found pools) (next_of pools q)
  same_next q found = (ap next_in (sym (other_row k q x new pools picks (found_apart k q pools absent found))), nexts (Found pools) pools there q)

  came_to : (number : ℕ) (o : Option ℕ) → On (Found pools) o → comes_to number o new ≡ meets number (next_of pools) (suc (length pools)) o
  came_to number o on =
      walked number new (length new) o ∙ ap (λ n. meets number (next_of new) n o) (longer (k, x) new pools picks)
      ∙ sym (meets_agree number (next_of pools) (next_of new) (Found pools) same_next (suc (length pools)) o on)

  old_row : (number : ℕ) (o : Option ℕ) → On (Found pools) o → comes_to number o pools ≡ false → comes_to number o new ≡ false
  old_row number o on h =
      came_to number o on ∙ one_step_more number (next_of pools) pools (leads pools there) o on ∙ sym (walked number pools (length pools) o) ∙ h

  new_row : (o : Option ℕ) → On (Found pools) o → comes_to k o new ≡ false
  new_row o on =
      came_to k o on
      ∙ meets_never k (next_of pools) (Found pools) (λ q found. nexts (Found pools) pools there q) (λ q found. ne_eqb q k (found_apart k q pools absent found)) (suc (length pools)) o on

  ring_with : On (Found pools) x.settings.next → list_all (λ p. not (comes_to p.0 p.1.settings.next pools)) pools ≡ true → list_all (λ p. not (comes_to p.0 p.1.settings.next new)) new ≡ true
  ring_with on h =
      all_with (λ p. not (comes_to p.0 p.1.settings.next new)) (k, x) new pools picks (not_from_false (comes_to k x.settings.next new) (new_row x.settings.next on))
      (no_ring_from new pools
      (each_both (λ (p : ℕ × Pool). On (Found pools) p.1.settings.next) (λ p. comes_to p.0 p.1.settings.next pools ≡ false) (λ p. comes_to p.0 p.1.settings.next new ≡ false) pools
      (λ p on t. old_row p.0 p.1.settings.next on t) there (no_ring_of pools pools h)))

-- a pool goes that is no pool's next one
module _ (k : ℕ) (x : Pool) (pools new : List (ℕ × Pool)) (picks : Picks (k, x) pools new) (before : AllByRecursion (λ (p : ℕ × Pool). is_pool p.1.settings.next k ≡ false) pools) where
  -- a number that isn't its
  abbrev Else : ℕ → Type 0
  Else q = q ≡ k → ⊥

  on_else : (o : Option ℕ) → is_pool o k ≡ false → On Else o
  on_else None h = tt
  on_else (Some n) h = eqb-false n k h

  elsewhere : AllByRecursion (λ (p : ℕ × Pool). On Else p.1.settings.next) pools
  elsewhere = each_also (λ (p : ℕ × Pool). is_pool p.1.settings.next k ≡ false) (λ p. On Else p.1.settings.next) pools (λ p h. on_else p.1.settings.next h) before

  left_next : (q : ℕ) → Else q → (next_of pools q ≡ next_of new q) × On Else (next_of pools q)
  left_next q ne = (ap next_in (other_row k q x pools new picks ne), nexts Else pools elsewhere q)

  left_row : (number : ℕ) (o : Option ℕ) → On Else o → comes_to number o pools ≡ false → comes_to number o new ≡ false
  left_row number o on h =
      walked number new (length new) o ∙ sym (meets_agree number (next_of pools) (next_of new) Else left_next (length new) o on)
      ∙ meets_down number (next_of pools) (length new) o (ap (λ n. meets number (next_of pools) n o) (sym (longer (k, x) pools new picks)) ∙ sym (walked number pools (length pools) o) ∙ h)

  ring_left : list_all (λ p. not (comes_to p.0 p.1.settings.next pools)) pools ≡ true → list_all (λ p. not (comes_to p.0 p.1.settings.next new)) new ≡ true
  ring_left h =
      no_ring_from new new
      (each_left (λ (p : ℕ × Pool). comes_to p.0 p.1.settings.next new ≡ false) (k, x) pools new picks
      (each_both (λ (p : ℕ × Pool). On Else p.1.settings.next) (λ p. comes_to p.0 p.1.settings.next pools ≡ false) (λ p. comes_to p.0 p.1.settings.next new ≡ false) pools
      (λ p on t. left_row p.0 p.1.settings.next on t) elsewhere (no_ring_of pools pools h)))

-- ---- what a valid database says of its pools

on_found : (o : Option ℕ) (v : Inv) → next_is_there o v ≡ true → On (Found v.stores.pools) o
on_found None v h = tt
on_found (Some n) v h = h

pub nexts_there : (v : Inv) → Facts v → NextsThere v.stores.pools
nexts_there v f =
    each_also (λ (p : ℕ × Pool). (is_some (named p.1.class v.stores.classes) && next_is_there p.1.settings.next v) ≡ true) (λ p. On (Found v.stores.pools) p.1.settings.next) v.stores.pools
    (λ p t. on_found p.1.settings.next v (and_parts (is_some (named p.1.class v.stores.classes)) (next_is_there p.1.settings.next v) t).1)
    (all_of (λ (p : ℕ × Pool). is_some (named p.1.class v.stores.classes) && next_is_there p.1.settings.next v) v.stores.pools f.pools_cite)

not_below : (n k : ℕ) → nat_lt n k ≡ true → k ≡ n → ⊥
not_below n k h same = let t : n < k = ltb-true n k h in omega (arith, t, same)

-- no row has a number that isn't drawn yet
pub undrawn : {V : Type 0} (least k : ℕ) (rows : List (ℕ × V)) → lie_in least k (keys_of rows) ≡ true → row_at k rows ≡ None
undrawn least k [] h = refl
undrawn least k (e ∷ rows) h =
    let t = and_parts (nat_le least e.0 && nat_lt e.0 k) (lie_in least k (keys_of rows)) h in
    let b = and_parts (nat_le least e.0) (nat_lt e.0 k) t.0 in
    ap (λ c. cond c (Some e.1) (row_at k rows)) (apart_at k e.0 (not_below e.0 k b.1)) ∙ undrawn least k rows t.1

-- a pool whose row is the same
pub alike_row : (v : Inv) (pools : List (ℕ × Pool)) (n : ℕ) → row_at n pools ≡ row_at n v.stores.pools → Alike v.stores (with_pools v v.stores.classes pools) n
alike_row v pools n same = record {
  there = ap is_some same;
  primary = ap (λ (o : Option Pool). option_map_or (λ p. is_primary_kind p.kind) o false) same;
  capacity = same_capacity v pools (row_at n pools) ∙ ap (pool_class_capacity v.stores) same;
}

-- ---- a pool comes

pub next_found : (o : Option ℕ) (s : PoolRows) → is_next_there o s ≡ true → On (Found s.pools) o
next_found None s h = tt
next_found (Some n) s h = h

pub found_there : (o : Option ℕ) (w : Inv) → On (Found w.stores.pools) o → next_is_there o w ≡ true
found_there None w h = refl
found_there (Some n) w h = h

on_also : (S T : ℕ → Type 0) (o : Option ℕ) → ((n : ℕ) → S n → T n) → On S o → On T o
on_also S T None up h = tt
on_also S T (Some n) up h = up n h

one_more_drawn : (k n : ℕ) → (nat_le 1 n && nat_lt n k) ≡ true → (nat_le 1 n && nat_lt n (k + 1)) ≡ true
one_more_drawn k n h =
    let t = and_parts (nat_le 1 n) (nat_lt n k) h in
    and_from (nat_le 1 n) (nat_lt n (k + 1)) t.0 (lt-ltb n (k + 1) (let b : n < k = ltb-true n k t.1 in omega (arith, b)))

next_drawn : (k : ℕ) → lie_in 1 (2 ^ 16) (k ∷ []) ≡ true → (nat_le 1 k && nat_lt k (k + 1)) ≡ true
next_drawn k h =
    let t = and_parts (nat_le 1 k && nat_lt k (2 ^ 16)) true h in
    and_from (nat_le 1 k) (nat_lt k (k + 1)) (and_parts (nat_le 1 k) (nat_lt k (2 ^ 16)) t.0).0 (lt-ltb k (k + 1) (omega arith))

next_bounded : (k bound : ℕ) → nat_lt (k + 1) bound ≡ true → lie_in 1 bound ((k + 1) ∷ []) ≡ true
next_bounded k bound h = and_from (nat_le 1 (k + 1) && nat_lt (k + 1) bound) true (and_from (nat_le 1 (k + 1)) (nat_lt (k + 1) bound) (le-leb 1 (k + 1) (omega arith)) h) refl

pub pool_comes : (v : Inv) (x : Pool) → Facts v → IsTied v → is_some (named x.class v.stores.classes) ≡ true → is_next_there x.settings.next v.stores ≡ true → pool_named x.name v.stores ≡ None
    → nat_lt (v.next_pool + 1) (2 ^ 16) ≡ true
    → IsRoom (stored v (with_pools v v.stores.classes (with_row v.next_pool x v.stores.pools)) (v.next_pool + 1) v.next_file v.backups)
    → Stands (stored v (with_pools v v.stores.classes (with_row v.next_pool x v.stores.pools)) (v.next_pool + 1) v.next_file v.backups)
pool_comes v x f tied class next name bound room =
    let k = v.next_pool in
    let old = v.stores.pools in
    let new = with_row k x old in
    let w = stored v (with_pools v v.stores.classes new) (k + 1) v.next_file v.backups in
    let absent : row_at k old ≡ None = undrawn 1 k old f.pools_drawn in
    let picks : Picks (k, x) new old = row_came k x old absent in
    let there : (n : ℕ) → is_some (row_at n old) ≡ true → row_at n new ≡ row_at n old = λ n found. other_row k n x new old picks (found_apart k n old absent found) in
    let still : (n : ℕ) → is_some (row_at n old) ≡ true → is_some (row_at n new) ≡ true = λ n found. ap is_some (there n found) ∙ found in
    let s = seen v v.stores.classes new (k + 1) v.backups f (uses_found v (with_pools v v.stores.classes new) f (λ n found. alike_row v new n (there n found))) in
    let on : On (Found old) x.settings.next = next_found x.settings.next v.stores next in (
      stored_valid v (with_pools v v.stores.classes new) (k + 1) v.next_file v.backups f (same_backups v f) (record {
        rules_cite = s.rules_cite;
        pools_cite = all_with (λ (p : ℕ × Pool). is_some (named p.1.class v.stores.classes) && next_is_there p.1.settings.next w) (k, x) new old picks
            (and_from (is_some (named x.class v.stores.classes)) (next_is_there x.settings.next w) class (found_there x.settings.next w (on_also (Found old) (Found new) x.settings.next still on)))
            (all_also (λ (p : ℕ × Pool). is_some (named p.1.class v.stores.classes) && next_is_there p.1.settings.next v) (λ p. is_some (named p.1.class v.stores.classes) && next_is_there p.1.settings.next w) old
            (λ p t. let q = and_parts (is_some (named p.1.class v.stores.classes)) (next_is_there p.1.settings.next v) t in and_from (is_some (named p.1.class v.stores.classes)) (next_is_there p.1.settings.next w) q.0 (next_also p.1.settings.next v w still q.1))
            f.pools_cite);
        volumes_cite = s.volumes_cite;
        copies_cite = s.copies_cite;
        pools_drawn = all_with (λ n. nat_le 1 n && nat_lt n (k + 1)) k (keys_of new) (keys_of old) (picks_map (λ (e : ℕ × Pool). e.0) (k, x) new old picks) (next_drawn k f.pools_bounded)
            (all_also (λ n. nat_le 1 n && nat_lt n k) (λ n. nat_le 1 n && nat_lt n (k + 1)) (keys_of old) (one_more_drawn k) f.pools_drawn);
        files_drawn = f.files_drawn;
        pools_bounded = next_bounded k (2 ^ 16) bound;
        files_bounded = f.files_bounded;
        files_apart = f.files_apart;
        pool_names = later_with (λ a b. not (is_same_name a b)) (λ a b. ap not (same_flips a b)) x.name (map (λ (p : ℕ × Pool). p.1.name) new) (map (λ p. p.1.name) old) (picks_map (λ (p : ℕ × Pool). p.1.name) (k, x) new old picks)
            (name_free (λ (p : Pool). p.name) x.name old name) f.pool_names;
        volume_names = f.volume_names;
        named_soundly = f.named_soundly;
        versions_copied = s.versions_copied;
        volumes_are = s.volumes_are;
        no_ring = ring_with k x old new picks absent (nexts_there v f) on f.no_ring;
        classes_are = f.classes_are;
        volumes_by_today = f.volumes_by_today;
      }) room,
      tied,
    )

-- ---- a pool goes

pub pool_goes : (v : Inv) (k : ℕ) (x : Pool) → Facts v → IsTied v → row_at k v.stores.pools ≡ Some x
    → AllByRecursion (λ n. (n == k) ≡ false) (destinations v) → AllByRecursion (λ (e : ℕ × Volume). (e.1.pool == k) ≡ false) v.stores.volumes → AllByRecursion (λ (e : ℕ × CopyRow). (e.1.pool == k) ≡ false) (copies v)
    → AllByRecursion (λ (p : ℕ × Pool). is_pool p.1.settings.next k ≡ false) v.stores.pools
    → IsRoom (stored v (with_pools v v.stores.classes (without_row k v.stores.pools)) v.next_pool v.next_file v.backups)
    → Stands (stored v (with_pools v v.stores.classes (without_row k v.stores.pools)) v.next_pool v.next_file v.backups)
pool_goes v k x f tied there of_groups of_volumes of_copies before room =
    let old = v.stores.pools in
    let new = without_row k old in
    let w = stored v (with_pools v v.stores.classes new) v.next_pool v.next_file v.backups in
    let picks : Picks (k, x) old new = row_went k x old there in
    let alike : (n : ℕ) → (n == k) ≡ false → Alike v.stores (with_pools v v.stores.classes new) n = λ n ne. alike_row v new n (sym (other_row k n x old new picks (eqb-false n k ne))) in
    let uses : Uses v (with_pools v v.stores.classes new) = record {
      destinations = each_also (λ n. (n == k) ≡ false) (Alike v.stores (with_pools v v.stores.classes new)) (destinations v) alike of_groups;
      volumes = each_also (λ (e : ℕ × Volume). (e.1.pool == k) ≡ false) (λ e. Alike v.stores (with_pools v v.stores.classes new) e.1.pool) v.stores.volumes (λ e h. alike e.1.pool h) of_volumes;
      copies = each_also (λ (e : ℕ × CopyRow). (e.1.pool == k) ≡ false) (λ e. Alike v.stores (with_pools v v.stores.classes new) e.1.pool) (copies v) (λ e h. alike e.1.pool h) of_copies;
    } in
    let s = seen v v.stores.classes new v.next_pool v.backups f uses in (
      stored_valid v (with_pools v v.stores.classes new) v.next_pool v.next_file v.backups f (same_backups v f) (record {
        rules_cite = s.rules_cite;
        pools_cite = all_from (λ (p : ℕ × Pool). is_some (named p.1.class v.stores.classes) && next_is_there p.1.settings.next w) new
            (each_left (λ (p : ℕ × Pool). (is_some (named p.1.class v.stores.classes) && next_is_there p.1.settings.next w) ≡ true) (k, x) old new picks
            (each_both (λ (p : ℕ × Pool). (is_some (named p.1.class v.stores.classes) && next_is_there p.1.settings.next v) ≡ true) (λ p. is_pool p.1.settings.next k ≡ false) (λ p. (is_some (named p.1.class v.stores.classes) && next_is_there p.1.settings.next w) ≡ true) old
            (λ p t off. let q = and_parts (is_some (named p.1.class v.stores.classes)) (next_is_there p.1.settings.next v) t in
            and_from (is_some (named p.1.class v.stores.classes)) (next_is_there p.1.settings.next w) q.0 (next_left k v w (λ n ne. ap is_some (sym (other_row k n x old new picks (eqb-false n k ne)))) p.1.settings.next off q.1))
            (all_of (λ (p : ℕ × Pool). is_some (named p.1.class v.stores.classes) && next_is_there p.1.settings.next v) old f.pools_cite) before));
        volumes_cite = s.volumes_cite;
        copies_cite = s.copies_cite;
        pools_drawn = all_left (λ n. nat_le 1 n && nat_lt n v.next_pool) k (keys_of old) (keys_of new) (picks_map (λ (e : ℕ × Pool). e.0) (k, x) old new picks) f.pools_drawn;
        files_drawn = f.files_drawn;
        pools_bounded = f.pools_bounded;
        files_bounded = f.files_bounded;
        files_apart = f.files_apart;
        pool_names = later_left (λ a b. not (is_same_name a b)) x.name (map (λ (p : ℕ × Pool). p.1.name) old) (map (λ p. p.1.name) new) (picks_map (λ (p : ℕ × Pool). p.1.name) (k, x) old new picks) f.pool_names;
        volume_names = f.volume_names;
        named_soundly = f.named_soundly;
        versions_copied = s.versions_copied;
        volumes_are = s.volumes_are;
        no_ring = ring_left k x old new picks before f.no_ring;
        classes_are = f.classes_are;
        volumes_by_today = f.volumes_by_today;
      }) room,
      tied,
    )
  where
    next_left : (k : ℕ) (v w : Inv) → ((n : ℕ) → (n == k) ≡ false → is_some (pool n w) ≡ is_some (pool n v)) → (o : Option ℕ) → is_pool o k ≡ false → next_is_there o v ≡ true → next_is_there o w ≡ true
    next_left k v w same None off h = refl
    next_left k v w same (Some n) off h = same n off ∙ h
