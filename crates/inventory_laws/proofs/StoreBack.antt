-- What a valid database says of a pool that went and of a volume that was defined.
use Rattle.std.proofs.Common.{◌≡◌, ℕ, Bool, true, false, cond, not, ◌&&◌, ◌||◌, List, [], ◌∷◌, ◌++◌, Option, Some, None, is_some, Result, Ok, Err, refl, sym, ap, subst, ◌∙◌}
use Rattle.std.specs.Prelude.{◌==◌, nat_le}
use Rattle.std.specs.BTreeMap.{is_at}
use Rattle.std.specs.List.{list_all, list_any}
use Rattle.std.specs.Map.{keys_of}
use Rattle.std.specs.Option.{option_map_or}
use Rattle.std.specs.Ordering.{nat_cmp}
use Rattle.std.proofs.lemmas.Bool.{and_parts, and_from, eqb-false, eqb-true, not-true}
use Rattle.kinds.specs.declared.change.PoolChange.{PoolChange}
use Rattle.kinds.specs.declared.change.PoolChange.TheVariants as store
use Rattle.kinds.specs.declared.change.Verb.TheVariants as verb
use Rattle.kinds.specs.declared.pool.Access.{Access}
use Rattle.kinds.specs.declared.refusal.Refusal.{Refusal}
use Rattle.kinds.specs.declared.refusal.Refusal.TheVariants.{Exists, NotFound}
use Rattle.kinds.specs.Refusals.{refusal_of}
use Rattle.inventory_rules.specs.entries.declared.change.Change.TheVariants as change
use Rattle.inventory_rules.specs.inventory_rows.version_groups.declared.copies.CopyRow.{CopyRow}
use Rattle.inventory_rules.specs.inventory_rows.volume_rows.declared.volume.Volume.{Volume}
use Rattle.inventory_rules.specs.inventory_rows.pool_tables.declared.pool.Pool.{Pool}
use Rattle.inventory_rules.specs.inventory_rows.pool_tables.Rows.{row_at, with_row, without_row}
use Rattle.inventory_rules.specs.inventory_rows.pool_tables.Scratch.{is_scratch_name}
use Rattle.inventory_rules.proofs.of_inventory_rows.of_pool_tables.Counting.{apart_at, at_is, each_there}
use Rattle.inventory_rules.specs.inventory_rows.pool_rows.Changes.{define_volume, delete_numbered, delete_pool, new_volume, volume_of_pool}
use Rattle.inventory_rules.specs.inventory_rows.pool_rows.PoolRows.{PoolRows, is_sequential, pool_capacity, pool_named, volume_named}
use Rattle.inventory_rules.specs.inventory_rows.Search.{copies, holds_copy, is_primary, is_primary_kind, pool, segments_on}
use Rattle.inventory_rules.specs.inventory_rows.State.{Inv}
use Rattle.inventory_rules.specs.Common.{file_bound, files_refused, or_same}
use Rattle.inventory_rules.specs.Facts.{Facts}
use Rattle.inventory_rules.specs.Stores.{capacity_fits, destination_used, store_fits, store_refused, volume_fits}
use Rattle.inventory_rules.specs.Transactions.{effect}
use Rattle.inventory_rules.specs.Valid.{are_apart, are_disjoint, is_emptied_rightly, is_format_size, is_named_soundly, is_of_pool, is_placed, is_sized, is_volume, may_have}
use Rattle.inventory_laws.proofs.PoolLaws.{free_filled}
use Rattle.inventory_laws.proofs.ScratchBack.{own_row}
use Rattle.inventory_laws.proofs.StoreLegal.{none_of_both, unless_so, where_so}
use Rattle.inventory_laws.proofs.VolumeFacts.{capacity_kept}
use Rattle.inventory_laws.proofs.VolumeRows.{each_of_all}

-- ---- a pool that went

gone_row : {V : Type 0} (k : ℕ) (rows : List (ℕ × V)) → are_apart (keys_of rows) ≡ true → row_at k (without_row k rows) ≡ None
gone_row k [] h = refl
gone_row {V} k (e ∷ rows) h =
    let parts = and_parts (list_all (λ n. not (e.0 == n)) (keys_of rows)) (are_apart (keys_of rows)) h in
    elim (is_at (nat_cmp k) e.0) as (λ b. is_at (nat_cmp k) e.0 ≡ b → row_at k (cond {A = List (ℕ × V)} b rows (e ∷ without_row k rows)) ≡ None) [
      | true ↦ λ on. absent_row k e.0 (at_is k e.0 on) rows parts.0
      | false ↦ λ off. ap (λ b. cond {A = Option V} b (Some e.1) (row_at k (without_row k rows))) off ∙ gone_row k rows parts.1
    ] refl
  where
    absent_row : (k n : ℕ) → k ≡ n → (rows : List (ℕ × V)) → list_all (λ m. not (n == m)) (keys_of rows) ≡ true → row_at k rows ≡ None
    absent_row k n is [] t = refl
    absent_row k n is (x ∷ rows) t =
        let parts = and_parts (not (n == x.0)) (list_all (λ m. not (n == m)) (keys_of rows)) t in
        ap (λ b. cond {A = Option V} b (Some x.1) (row_at k rows)) (apart_at k x.0 (λ same. eqb-false n x.0 (not-true (n == x.0) parts.0) (sym is ∙ same))) ∙ absent_row k n is rows parts.1

none_holds : (k : ℕ) (pools : List (ℕ × Pool)) (there : ℕ × CopyRow → Bool) (cs : List (ℕ × CopyRow)) → row_at k pools ≡ None → list_all (λ e. is_some (row_at e.1.pool pools) && there e) cs ≡ true → not (list_any (λ e. e.1.pool == k) cs) ≡ true
none_holds k pools there [] absent h = refl
none_holds k pools there (e ∷ cs) absent h =
    let parts = and_parts (is_some (row_at e.1.pool pools) && there e) (list_all (λ e. is_some (row_at e.1.pool pools) && there e) cs) h in
    let here = and_parts (is_some (row_at e.1.pool pools)) (there e) parts.0 in
    elim (e.1.pool == k) as (λ b. (e.1.pool == k) ≡ b → not (b || list_any (λ e. e.1.pool == k) cs) ≡ true) [
      | true ↦ λ on. absurd (let clash : false ≡ true = sym (ap (λ n. is_some (row_at n pools)) (eqb-true e.1.pool k on) ∙ ap (λ (o : Option Pool). is_some o) absent) ∙ here.0 in cc)
      | false ↦ λ off. none_holds k pools there cs absent parts.1
    ] refl

pool_back : (v : Inv) (o : Option ℕ) → are_apart (keys_of v.stores.pools) ≡ true → refusal_of (delete_numbered v.stores o) ≡ []
    → list_all (λ e. is_some (row_at e.1.pool (or_same v.stores (delete_numbered v.stores o)).pools) && list_all (λ s. is_of_pool e.1.pool (row_at s.file (or_same v.stores (delete_numbered v.stores o)).volumes)) e.1.segments) (copies v) ≡ true
    → option_map_or (λ n. not (holds_copy n v)) o true ≡ true
pool_back v None apart legal cite = refl
pool_back v (Some k) apart legal cite =
    let t = free_filled v k (volume_of_pool k v.stores) legal in
    let s : PoolRows = record v.stores { pools = without_row k v.stores.pools } in
    none_holds k s.pools (λ e. list_all (λ x. is_of_pool e.1.pool (row_at x.file s.volumes)) e.1.segments) (copies v) (gone_row k v.stores.pools apart)
    (subst (λ (r : Result PoolRows Refusal). list_all (λ e. is_some (row_at e.1.pool (or_same v.stores r).pools) && list_all (λ x. is_of_pool e.1.pool (row_at x.file (or_same v.stores r).volumes)) e.1.segments) (copies v) ≡ true) t.2 cite)

-- ---- a volume that was defined

abbrev Sized : Inv → Volume → Option ℕ → Type 0
Sized w x o = is_sized (is_some o) w x ≡ true

capacity_back : (w : Inv) (x : Volume) (o : Option ℕ) → pool_capacity x.pool w.stores ≡ o → Sized w x o → capacity_fits o x.capacity ≡ true
capacity_back w x None found h = (and_parts (is_format_size x.capacity) (x.end == 0 && not x.scratch) h).0
capacity_back w x (Some c) found h =
    ap (λ o. option_map_or (λ capacity. x.capacity == capacity) o false) (sym found) ∙ (and_parts (option_map_or (λ capacity. x.capacity == capacity) (pool_capacity x.pool w.stores) false) (nat_le x.end x.capacity) h).0

volume_back : (name : List ℕ) (number file capacity : ℕ) (access : Access) (v w : Inv) → w.stores ≡ record v.stores { volumes = with_row file (new_volume name number capacity access) v.stores.volumes } → Facts w → volume_fits name number capacity access v ≡ true
volume_back name number file capacity access v w is f =
    let x : Volume = new_volume name number capacity access in
    let rows : List (ℕ × Volume) = with_row file x v.stores.volumes in
    let found : row_at file w.stores.volumes ≡ Some x = ap (λ s. row_at file s.volumes) is ∙ own_row file x v.stores.volumes in
    let named : is_named_soundly (file, x) ≡ true = each_there (λ (e : ℕ × Volume). is_named_soundly e ≡ true) file x w.stores.volumes found (each_of_all is_named_soundly w.stores.volumes f.named_soundly) in
    let here : is_volume w (file, x) ≡ true = each_there (λ (e : ℕ × Volume). is_volume w e ≡ true) file x w.stores.volumes found (each_of_all (is_volume w) w.stores.volumes f.volumes_are) in
    let q : Bool = is_sequential number w.stores in
    let rest : Bool = are_disjoint q (segments_on file w) && (list_all (λ e. is_placed q x e.1) (segments_on file w) && is_emptied_rightly q x (segments_on file w)) in
    let primary : Bool = option_map_or (λ (p : Pool). is_primary_kind p.kind) (pool number w) false in
    let one = and_parts (is_sized q w x) (may_have access primary && rest) here in
    let two = and_parts (may_have access primary) rest one.1 in
    let kept : pool_capacity number w.stores ≡ pool_capacity number v.stores = ap (pool_capacity number) is ∙ capacity_kept number rows v.stores in
    let same : primary ≡ is_primary number v = ap (λ s. option_map_or (λ (p : Pool). is_primary_kind p.kind) (row_at number s.pools) false) is in
    and_from (not (is_scratch_name name)) (capacity_fits (pool_capacity number v.stores) capacity && may_have access (is_primary number v)) named
    (and_from (capacity_fits (pool_capacity number v.stores) capacity) (may_have access (is_primary number v))
    (ap (λ o. capacity_fits o capacity) (sym kept) ∙ capacity_back w x (pool_capacity number w.stores) refl one.0)
    (ap (may_have access) (sym same) ∙ two.0))

volume_defined : (name : List ℕ) (number file capacity : ℕ) (access : Access) (s : PoolRows) → refusal_of (define_volume name number file capacity access s) ≡ [] → define_volume name number file capacity access s ≡ Ok (record s { volumes = with_row file (new_volume name number capacity access) s.volumes })
volume_defined name number file capacity access s h =
    let new : Result PoolRows Refusal = Ok (record s { volumes = with_row file (new_volume name number capacity access) s.volumes }) in
    let inner : Result PoolRows Refusal = (cond {A = Result PoolRows Refusal} (is_some (volume_named name s)) (Err Exists) new) in
    let a = where_so (is_some (row_at number s.pools)) NotFound inner h in
    let b = unless_so (is_some (volume_named name s)) Exists new a.1 in
    a.2 ∙ b.2

-- ---- the changes

pub stores_back : (c : PoolChange) (v : Inv) → are_apart (keys_of v.stores.pools) ≡ true → store_refused c v ≡ [] → Facts (effect (change.Pool c) v) → store_fits c v ≡ true
unfolding effect
stores_back (store.DevClass v1 class capacity) v apart h f = refl
stores_back (store.Pool verb.Define name class kind rule) v apart h f = refl
stores_back (store.Pool verb.Update name class kind rule) v apart h f = refl
stores_back (store.Pool verb.Delete name class kind rule) v apart h f =
    let parts = none_of_both (refusal_of (delete_pool name v.stores)) (destination_used name v) h in
    pool_back v (pool_named name v.stores) apart parts.0 f.copies_cite
stores_back (store.Volume verb.Define name number file capacity access) v apart h f =
    let parts = none_of_both (refusal_of (define_volume name number file capacity access v.stores)) (files_refused (file ∷ []) v ++ file_bound file v) h in
    volume_back name number file capacity access v (effect (change.Pool (store.Volume verb.Define name number file capacity access)) v)
    (ap (or_same v.stores) (volume_defined name number file capacity access v.stores parts.0)) f
stores_back (store.Volume verb.Update name number file capacity access) v apart h f = refl
stores_back (store.Volume verb.Delete name number file capacity access) v apart h f = refl
