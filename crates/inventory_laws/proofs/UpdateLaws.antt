-- A legal change of a storage pool's settings.
use Rattle.std.proofs.Common.{◌≡◌, ℕ, true, false, ◌||◌, List, [], ◌++◌, Option, Some, None, is_some, Result, Ok, refl, sym, ap, subst, ◌∙◌}
use Rattle.std.specs.Map.{keys_of}
use Rattle.std.proofs.lemmas.Bool.{or_parts}
use Rattle.kinds.specs.declared.change.PoolChange.TheVariants as store
use Rattle.kinds.specs.declared.change.Verb.TheVariants as verb
use Rattle.kinds.specs.declared.pool.PoolKind.{PoolKind}
use Rattle.kinds.specs.declared.pool.PoolRule.{PoolRule}
use Rattle.kinds.specs.declared.refusal.Refusal.{Refusal}
use Rattle.kinds.specs.declared.refusal.Refusal.TheVariants.{BadHierarchy, NotFound}
use Rattle.inventory_rules.specs.entries.declared.change.Change.TheVariants as change
use Rattle.inventory_rules.specs.inventory_rows.pool_tables.declared.pool.Pool.{Pool}
use Rattle.inventory_rules.specs.inventory_rows.pool_tables.Names.{pool_name}
use Rattle.inventory_rules.specs.inventory_rows.pool_tables.RowChanges.{with_settings}
use Rattle.kinds.specs.Names.{is_same_name}
use Rattle.inventory_rules.specs.inventory_rows.pool_tables.Rows.{edit_row, edited, row_at, set_row}
use Rattle.inventory_rules.specs.inventory_rows.pool_rows.Changes.{is_bad_row, is_next_there, update_numbered, update_pool}
use Rattle.inventory_rules.specs.inventory_rows.pool_rows.Hierarchy.{comes_to, is_bad_copy_pool, is_bad_next}
use Rattle.inventory_rules.specs.inventory_rows.pool_rows.PoolRows.{PoolRows, class_capacity, pool_named}
use Rattle.inventory_rules.specs.inventory_rows.State.{Inv}
use Rattle.inventory_rules.specs.Common.{or_same}
use Rattle.inventory_rules.specs.Stores.{backups_lowered, collocation_refused, pool_by_name, stays}
use Rattle.inventory_rules.specs.Transactions.{effect, causes, sizes_refused}
use Rattle.inventory_rules.specs.Held.{IsTied}
use Rattle.inventory_rules.specs.Journal.{Journal}
use Rattle.kinds.specs.Refusals.{refusal_of, bad_value, unless}
use Rattle.inventory_rules.specs.Valid.{are_apart, is_valid, no_ring}
use Rattle.inventory_laws.proofs.Facts.{facts_of}
use Rattle.inventory_laws.proofs.StoreLegal.{none_of_both, unless_so, where_so}
use Rattle.inventory_laws.proofs.StoreRows.{number_there, some_from}
use Rattle.inventory_laws.proofs.Stored.{IsRoom, room, stored, with_pools}
use Rattle.inventory_laws.proofs.Pools.{nexts_there, next_found}
use Rattle.inventory_laws.proofs.Updates.{ring_set, settings_stand}

-- what it says that the settings may change
pub record Updated (v : Inv) (name : List ℕ) (rule : PoolRule) : Type 0 where
  pub number : ℕ
  pub row : Pool
  pub there : row_at number v.stores.pools ≡ Some row
  pub next : is_next_there rule.next v.stores ≡ true
  pub apart : comes_to number rule.next v.stores.pools ≡ false
  pub gives : update_pool name rule v.stores ≡ Ok (with_pools v v.stores.classes (set_row number (with_settings rule row) v.stores.pools))

numbered_so : (rule : PoolRule) (s : PoolRows) (o : Option ℕ) → refusal_of (update_numbered rule s o) ≡ []
    → (k : ℕ) × (o ≡ Some k) × (is_bad_row k rule.next s (row_at k s.pools) ≡ false) × (update_numbered rule s o ≡ Ok (record s { pools = edit_row k (with_settings rule) s.pools }))
numbered_so rule s None h = absurd cc
numbered_so rule s (Some k) h = (let t = unless_so (is_bad_row k rule.next s (row_at k s.pools)) BadHierarchy (Ok (record s { pools = edit_row k (with_settings rule) s.pools })) h in (k, refl, t.0, t.2))

-- no chain comes back to a row that is not a bad one
no_return_so : (k : ℕ) (next : Option ℕ) (s : PoolRows) (x : Pool) → is_bad_row k next s (Some x) ≡ false → comes_to k next s.pools ≡ false
no_return_so k next s x h =
    (or_parts (is_bad_copy_pool (is_some (class_capacity x.class s)) x.kind next || is_bad_next (is_some (class_capacity x.class s)) next s) (comes_to k next s.pools) h).1

updated_so : (v : Inv) (name : List ℕ) (rule : PoolRule) → refusal_of (update_pool name rule v.stores) ≡ [] → Updated v name rule
updated_so v name rule h =
    let s = v.stores in
    let a = where_so (is_next_there rule.next s) NotFound (update_numbered rule s (pool_named name s)) h in
    let b = numbered_so rule s (pool_named name s) a.1 in
    let x = some_from (row_at b.0 s.pools) (number_there (λ (p : Pool). is_same_name (pool_name p) name) b.0 s.pools b.1) in record {
      number = b.0;
      row = x.0;
      there = x.1;
      next = a.0;
      apart = no_return_so b.0 rule.next s x.0 (ap (is_bad_row b.0 rule.next s) (sym x.1) ∙ b.2);
      gives = a.2 ∙ b.3 ∙ ap (λ (o : Option Pool). Ok (record s { pools = edited b.0 (with_settings rule) s.pools o })) x.1;
    }

-- valid exactly where no chain of next pools comes back, and tied
abbrev pub OrRing : Inv → Type 0
OrRing w = (is_valid w ≡ no_ring w) × IsTied w

pub pool_updated : (j : Journal) (name class : List ℕ) (kind : PoolKind) (rule : PoolRule) (v : Inv) → is_valid v ≡ true → IsTied v → causes j (change.Pool (store.Pool verb.Update name class kind rule)) v ≡ []
    → sizes_refused (change.Pool (store.Pool verb.Update name class kind rule)) v ≡ [] → OrRing (effect (change.Pool (store.Pool verb.Update name class kind rule)) v)
unfolding effect
pool_updated j name class kind rule v valid tied legal sizes =
    let s = v.stores in
    let h = none_of_both (refusal_of (update_pool name rule s)) (unless (stays class kind (pool_by_name name v)) bad_value ++ collocation_refused class rule) legal in
    let u = updated_so v name rule h.0 in
    let o = pool_named name (or_same s (update_pool name rule s)) in
    let backups = backups_lowered o rule.reuse_delay v.backups in
    subst (λ (r : Result PoolRows Refusal). IsRoom (stored v (or_same s r) v.next_pool v.next_file backups) → OrRing (stored v (or_same s r) v.next_pool v.next_file backups)) (sym u.gives)
    (λ space. (settings_stand v u.number u.row rule o (facts_of v valid) u.there u.next space, tied))
    (room (change.Pool (store.Pool verb.Update name class kind rule)) v sizes)

-- where the pools' numbers are apart, no chain comes back
pub pool_updated_rings : (j : Journal) (name class : List ℕ) (kind : PoolKind) (rule : PoolRule) (v : Inv) → is_valid v ≡ true → causes j (change.Pool (store.Pool verb.Update name class kind rule)) v ≡ []
    → are_apart (keys_of v.stores.pools) ≡ true → no_ring (effect (change.Pool (store.Pool verb.Update name class kind rule)) v) ≡ true
unfolding effect
pool_updated_rings j name class kind rule v valid legal apart =
    let s = v.stores in
    let f = facts_of v valid in
    let h = none_of_both (refusal_of (update_pool name rule s)) (unless (stays class kind (pool_by_name name v)) bad_value ++ collocation_refused class rule) legal in
    let u = updated_so v name rule h.0 in
    let backups = backups_lowered (pool_named name (or_same s (update_pool name rule s))) rule.reuse_delay v.backups in
    subst (λ (r : Result PoolRows Refusal). no_ring (stored v (or_same s r) v.next_pool v.next_file backups) ≡ true) (sym u.gives)
    (ring_set u.number u.row (with_settings rule u.row) s.pools u.there (nexts_there v f) (next_found rule.next s u.next) apart u.apart f.no_ring)
