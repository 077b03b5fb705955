-- A storage pool whose settings change: what the database is then.
use Rattle.std.proofs.Common.{◌≡◌, ℕ, Bool, true, false, cond, not, ◌&&◌, List, [], ◌∷◌, ◌++◌, map, length, Option, Some, None, is_some, nat_le, ⊎_elim, refl, sym, ap, subst, ◌∙◌}
use Rattle.std.specs.Prelude.{◌==◌}
use Rattle.std.specs.List.{list_all, AllByRecursion}
use Rattle.std.specs.Map.{keys_of}
use Rattle.std.specs.Option.{option_map_or}
use Rattle.std.specs.BTreeMap.{is_at}
use Rattle.std.specs.Ordering.{nat_cmp}
use Rattle.std.proofs.lemmas.Bool.{and_parts, and_from, cases_eq, eqb-false, not-true}
use Rattle.std.proofs.lemmas.List.Folds.{list_all-map}
use Rattle.std.proofs.lemmas.Map.{length-set_value}
use Rattle.kinds.specs.declared.pool.PoolRule.{PoolRule}
use Rattle.inventory_rules.specs.inventory_rows.pool_tables.declared.pool.Pool.{Pool}
use Rattle.inventory_rules.specs.inventory_rows.pool_tables.RowChanges.{with_settings}
use Rattle.inventory_rules.specs.inventory_rows.pool_tables.Rows.{named, row_at, set_row}
use Rattle.inventory_rules.proofs.of_inventory_rows.of_pool_tables.Counting.{apart_at, each_set, row_at-set_other}
use Rattle.inventory_rules.proofs.of_inventory_rows.of_pool_tables.Tables.{lookup-set}
use Rattle.inventory_rules.specs.inventory_rows.pool_rows.Changes.{is_next_there}
use Rattle.inventory_rules.specs.inventory_rows.pool_rows.Hierarchy.{comes_to, next_in}
use Rattle.inventory_rules.specs.inventory_rows.pool_rows.PoolRows.{pool_class_capacity}
use Rattle.inventory_rules.specs.inventory_rows.declared.backup.Backup.{Backup}
use Rattle.inventory_rules.specs.inventory_rows.Delays.{lowered}
use Rattle.inventory_rules.specs.inventory_rows.Search.{is_primary_kind, pool}
use Rattle.inventory_rules.specs.inventory_rows.State.{Inv}
use Rattle.inventory_rules.specs.Stores.{backups_lowered}
use Rattle.inventory_rules.specs.Valid.{are_apart, is_valid, lie_in, names_apart, next_is_there, no_ring}
use Rattle.inventory_rules.specs.Facts.{Facts}
use Rattle.inventory_laws.proofs.Facts.{facts_of}
use Rattle.inventory_laws.proofs.Lists.{all_also, all_of, each_both}
use Rattle.inventory_laws.proofs.StoreRows.{all_set, all_there, map_same, nat_itself, seen_same}
use Rattle.inventory_laws.proofs.Walks.{meets, On, Found, no_return, to_it}
use Rattle.inventory_laws.proofs.Stored.{stored, with_pools, IsRoom, Alike, BackupFacts, same_capacity, uses_found, next_also, seen, stored_valid}
use Rattle.inventory_laws.proofs.Pools.{NextsThere, leads, next_of, nexts, no_ring_from, no_ring_of, walked}

-- ---- chains of next pools

-- where numbers are apart, each row is the one with its number
own_rows : {V : Type 0} (rows : List (ℕ × V)) → are_apart (keys_of rows) ≡ true → AllByRecursion (λ (e : ℕ × V). row_at e.0 rows ≡ Some e.1) rows
own_rows [] h = tt
own_rows {V} (e ∷ rows) h =
    let t = and_parts (list_all (λ n. not (e.0 == n)) (keys_of rows)) (are_apart (keys_of rows)) h in (
      ap (λ b. cond b (Some e.1) (row_at e.0 rows)) (nat_itself e.0),
      each_both (λ (d : ℕ × V). not (e.0 == d.0) ≡ true) (λ d. row_at d.0 rows ≡ Some d.1) (λ d. row_at d.0 (e ∷ rows) ≡ Some d.1) rows
          (λ d ne own. ap (λ b. cond b (Some e.1) (row_at d.0 rows)) (apart_at d.0 e.0 (λ same. eqb-false e.0 d.0 (not-true (e.0 == d.0) ne) (sym same))) ∙ own)
          (each_key (λ n. not (e.0 == n)) rows t.0) (own_rows rows t.1),
    )
  where
    each_key : (p : ℕ → Bool) (rows : List (ℕ × V)) → list_all p (keys_of rows) ≡ true → AllByRecursion (λ (d : ℕ × V). p d.0 ≡ true) rows
    each_key p rows h = all_of (λ (d : ℕ × V). p d.0) rows (sym (list_all-map p (λ (d : ℕ × V). d.0) rows) ∙ h)

module _ (k : ℕ) (x y : Pool) (pools : List (ℕ × Pool)) (there : row_at k pools ≡ Some x) where
  besides : (q : ℕ) → (q ≡ k → ⊥) → next_of (set_row k y pools) q ≡ next_of pools q
  besides q ne = ap next_in (row_at-set_other k q y pools (λ same. ne (sym same)))

  new_next : next_of (set_row k y pools) k ≡ y.settings.next
  new_next = ap next_in (lookup-set (is_at (nat_cmp k)) x y pools there)

  set_walk : (p : ℕ) (o : Option ℕ) → comes_to p o (set_row k y pools) ≡ meets p (next_of (set_row k y pools)) (length pools) o
  set_walk p o = walked p (set_row k y pools) (length (set_row k y pools)) o ∙ ap (λ n. meets p (next_of (set_row k y pools)) n o) (length-set_value (is_at (nat_cmp k)) pools y)

  -- a chain to the pool that changes is as it was
  to_pool : (o : Option ℕ) → comes_to k o pools ≡ false → comes_to k o (set_row k y pools) ≡ false
  to_pool o h = set_walk k o ∙ to_it k (next_of pools) (next_of (set_row k y pools)) besides (length pools) o ∙ sym (walked k pools (length pools) o) ∙ h

  to_other : NextsThere pools → On (Found pools) y.settings.next → comes_to k y.settings.next pools ≡ false → (p : ℕ) (o : Option ℕ) → next_of pools p ≡ o → On (Found pools) o → comes_to p o pools ≡ false → comes_to p o (set_row k y pools) ≡ false
  to_other all on new p o own on_o h =
      set_walk p o
      ∙ subst (λ (o : Option ℕ). On (Found pools) o → meets p (next_of pools) (length pools) o ≡ false → meets p (next_of (set_row k y pools)) (length pools) o ≡ false) own
      (no_return k (next_of pools) (next_of (set_row k y pools)) besides pools (leads pools all) (subst (On (Found pools)) (sym new_next) on)
      (ap (meets k (next_of pools) (length pools)) new_next ∙ sym (walked k pools (length pools) y.settings.next) ∙ new) p)
      on_o (sym (walked p pools (length pools) o) ∙ h)

  pub ring_set : NextsThere pools → On (Found pools) y.settings.next → are_apart (keys_of pools) ≡ true → comes_to k y.settings.next pools ≡ false → list_all (λ p. not (comes_to p.0 p.1.settings.next pools)) pools ≡ true
      → list_all (λ p. not (comes_to p.0 p.1.settings.next (set_row k y pools))) (set_row k y pools) ≡ true
  ring_set all on apart new h =
      no_ring_from (set_row k y pools) (set_row k y pools)
      (each_set (λ (p : ℕ × Pool). comes_to p.0 p.1.settings.next (set_row k y pools) ≡ false) k y pools (to_pool y.settings.next new)
      (each_both (λ (p : ℕ × Pool). row_at p.0 pools ≡ Some p.1) (λ p. comes_to p.0 p.1.settings.next pools ≡ false) (λ p. comes_to p.0 p.1.settings.next (set_row k y pools) ≡ false) pools
      (λ p own t.
      ⊎_elim
      (λ (same : p.0 ≡ k). ap (λ n. comes_to n p.1.settings.next (set_row k y pools)) same ∙ to_pool p.1.settings.next (ap (λ n. comes_to n p.1.settings.next pools) (sym same) ∙ t))
      (λ (ne : p.0 ≡ k → ⊥). to_other all on new p.0 p.1.settings.next (ap next_in own) (subst (On (Found pools)) (ap next_in own) (nexts (Found pools) pools all p.0)) t)
      (cases_eq p.0 k))
      (own_rows pools apart) (no_ring_of pools pools h)))

-- ---- the backups' delays

same_map : {A B : Type 0} (g : A → B) (h : A → A) → ((x : A) → g (h x) ≡ g x) → (xs : List A) → map g (map h xs) ≡ map g xs
same_map g h same [] = refl
same_map {A} {B} g h same (x ∷ xs) = ap (λ (y : B). y ∷ map g (map h xs)) (same x) ∙ ap (λ (l : List B). g x ∷ l) (same_map g h same xs)

-- what doesn't see the delays is the same of all backups
lowered_same : {B : Type 0} (g : ℕ × Backup → B) → ((n : ℕ) (b : Backup) (delays : List (ℕ × ℕ)) → g (n, record b { delays = delays }) ≡ g (n, b)) → (o : Option ℕ) (delay : ℕ) (backups : List (ℕ × Backup)) → map g (backups_lowered o delay backups) ≡ map g backups
lowered_same g same None delay backups = refl
lowered_same g same (Some n) delay backups = same_map g (λ (b : ℕ × Backup). (b.0, record b.1 { delays = lowered n delay b.1.delays })) (λ b. same b.0 b.1 (lowered n delay b.1.delays)) backups

lowered_all : (p : ℕ × Backup → Bool) → ((n : ℕ) (b : Backup) (delays : List (ℕ × ℕ)) → p (n, record b { delays = delays }) ≡ p (n, b)) → (o : Option ℕ) (delay : ℕ) (backups : List (ℕ × Backup)) → list_all p backups ≡ true → list_all p (backups_lowered o delay backups) ≡ true
lowered_all p same o delay backups h =
    sym (list_all-map (λ b. b) p (backups_lowered o delay backups)) ∙ ap (list_all (λ b. b)) (lowered_same p same o delay backups) ∙ list_all-map (λ b. b) p backups ∙ h

pub lowered_facts : (v : Inv) (o : Option ℕ) (delay : ℕ) → Facts v → BackupFacts v (backups_lowered o delay v.backups)
lowered_facts v o delay f = record {
  apart = ap are_apart (lowered_same (λ (b : ℕ × Backup). b.1.number) (λ n b d. refl) o delay v.backups) ∙ f.backups_apart;
  past = lowered_all (λ (b : ℕ × Backup). nat_le b.1.number v.number) (λ n b d. refl) o delay v.backups f.backups_past;
  by_today = lowered_all (λ (b : ℕ × Backup). nat_le b.1.taken v.today) (λ n b d. refl) o delay v.backups f.backups_by_today;
}

-- ---- the pool

-- the database with these settings of the pool
abbrev pub settled_in : Inv → ℕ → Pool → PoolRule → Option ℕ → Inv
settled_in v k x rule o = stored v (with_pools v v.stores.classes (set_row k (with_settings rule x) v.stores.pools)) v.next_pool v.next_file (backups_lowered o rule.reuse_delay v.backups)

pub settings_valid : (v : Inv) (k : ℕ) (x : Pool) (rule : PoolRule) (o : Option ℕ) → Facts v → row_at k v.stores.pools ≡ Some x → is_next_there rule.next v.stores ≡ true → IsRoom (settled_in v k x rule o) → no_ring (settled_in v k x rule o) ≡ true
    → is_valid (settled_in v k x rule o) ≡ true
settings_valid v k x rule o f there next room ring =
    let y = with_settings rule x in
    let old = v.stores.pools in
    let new = set_row k y old in
    let w = settled_in v k x rule o in
    let backups = backups_lowered o rule.reuse_delay v.backups in
    let files : keys_of backups ≡ keys_of v.backups = lowered_same (λ (b : ℕ × Backup). b.0) (λ n b d. refl) o rule.reuse_delay v.backups in
    let alike : (n : ℕ) → Alike v.stores (with_pools v v.stores.classes new) n = λ n. record {
      there = seen_same is_some k n x y old there refl;
      primary = seen_same (λ (p : Option Pool). option_map_or (λ q. is_primary_kind q.kind) p false) k n x y old there refl;
      capacity = same_capacity v new (row_at n new) ∙ seen_same (pool_class_capacity v.stores) k n x y old there refl;
    } in
    let still : (n : ℕ) → is_some (pool n v) ≡ true → is_some (row_at n new) ≡ true = λ n found. seen_same is_some k n x y old there refl ∙ found in
    let s = seen v v.stores.classes new v.next_pool backups f (uses_found v (with_pools v v.stores.classes new) f (λ n _. alike n)) in
    let class = and_parts (is_some (named x.class v.stores.classes)) (next_is_there x.settings.next v) (all_there (λ (p : ℕ × Pool). is_some (named p.1.class v.stores.classes) && next_is_there p.1.settings.next v) k x old there f.pools_cite) in
    stored_valid v (with_pools v v.stores.classes new) v.next_pool v.next_file backups f (lowered_facts v o rule.reuse_delay f) (record {
      rules_cite = s.rules_cite;
      pools_cite = all_set (λ (p : ℕ × Pool). is_some (named p.1.class v.stores.classes) && next_is_there p.1.settings.next w) k y old
          (and_from (is_some (named x.class v.stores.classes)) (next_is_there rule.next w) class.0 (next_then rule.next v w still next))
          (all_also (λ (p : ℕ × Pool). is_some (named p.1.class v.stores.classes) && next_is_there p.1.settings.next v) (λ p. is_some (named p.1.class v.stores.classes) && next_is_there p.1.settings.next w) old
          (λ p t. let q = and_parts (is_some (named p.1.class v.stores.classes)) (next_is_there p.1.settings.next v) t in and_from (is_some (named p.1.class v.stores.classes)) (next_is_there p.1.settings.next w) q.0 (next_also p.1.settings.next v w still q.1))
          f.pools_cite);
      volumes_cite = s.volumes_cite;
      copies_cite = s.copies_cite;
      pools_drawn = ap (lie_in 1 v.next_pool) (map_same (λ (p : ℕ × Pool). p.0) k x y old there (λ q. refl)) ∙ f.pools_drawn;
      files_drawn = ap (λ (l : List ℕ). lie_in 4 v.next_file (keys_of v.stores.volumes ++ l)) files ∙ f.files_drawn;
      pools_bounded = f.pools_bounded;
      files_bounded = f.files_bounded;
      files_apart = ap (λ (l : List ℕ). are_apart (keys_of v.stores.volumes ++ l)) files ∙ f.files_apart;
      pool_names = ap names_apart (map_same (λ (p : ℕ × Pool). p.1.name) k x y old there (λ q. refl)) ∙ f.pool_names;
      volume_names = f.volume_names;
      named_soundly = f.named_soundly;
      versions_copied = s.versions_copied;
      volumes_are = s.volumes_are;
      no_ring = ring;
      classes_are = f.classes_are;
      volumes_by_today = f.volumes_by_today;
    }) room
  where
    next_then : (o : Option ℕ) (v w : Inv) → ((n : ℕ) → is_some (pool n v) ≡ true → is_some (pool n w) ≡ true) → is_next_there o v.stores ≡ true → next_is_there o w ≡ true
    next_then None v w still h = refl
    next_then (Some n) v w still h = still n h

-- it is valid exactly where no chain of next pools comes back
pub settings_stand : (v : Inv) (k : ℕ) (x : Pool) (rule : PoolRule) (o : Option ℕ) → Facts v → row_at k v.stores.pools ≡ Some x → is_next_there rule.next v.stores ≡ true → IsRoom (settled_in v k x rule o)
    → is_valid (settled_in v k x rule o) ≡ no_ring (settled_in v k x rule o)
settings_stand v k x rule o f there next room =
    both_so (is_valid (settled_in v k x rule o)) (no_ring (settled_in v k x rule o)) (settings_valid v k x rule o f there next room) (λ h. (facts_of (settled_in v k x rule o) h).no_ring)
  where
    both_so : (a b : Bool) → (b ≡ true → a ≡ true) → (a ≡ true → b ≡ true) → a ≡ b
    both_so true b up down = sym (down refl)
    both_so false true up down = up refl
    both_so false false up down = refl
