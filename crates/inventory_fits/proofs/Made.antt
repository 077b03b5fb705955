-- What stays where scratch volumes are made, and which volume a file is then.
use Rattle.std.proofs.Common.{◌≡◌, ℕ, eqb, Bool, true, false, cond, List, [], ◌∷◌, Option, Some, None, refl, sym, ap, ◌∙◌, arith}
use Rattle.std.proofs.lemmas.Bool.{eqb-true}
use Rattle.std.proofs.lemmas.Map.Lookups.{exact_unsigned}
use Rattle.std.specs.BTreeMap.{is_at}
use Rattle.std.specs.Option.{option_map_or}
use Rattle.std.specs.Ordering.{match_ordering, nat_cmp}
use Rattle.std.specs.declared.cmp.Ordering.TheVariants.{Less, Equal, Greater}
use Rattle.entries.specs.change_items.declared.items.ScratchVolume.{ScratchVolume}
use Rattle.inventory_rows.specs.volume_rows.declared.volume.Volume.{Volume}
use Rattle.inventory_rows.proofs.of_object_rows.Stands.{at-eqb}
use Rattle.inventory_rows.specs.pool_tables.declared.pool.Pool.{Pool}
use Rattle.inventory_rows.specs.pool_tables.Rows.{row_at, with_row}
use Rattle.inventory_rows.specs.pool_tables.RowChanges.{scratch_volume}
use Rattle.inventory_rows.specs.pool_rows.PoolRows.{PoolRows, pool_capacity, pool_class_capacity}
use Rattle.inventory_rows.specs.State.{Inv}
use Rattle.inventory_rules.specs.Common.{each}
use Rattle.inventory_rules.specs.Segments.{make_scratch}
use Rattle.inventory_fits.specs.declared.targets.Target.{Target}
use Rattle.inventory_fits.specs.Targets.{made, target_of, scratch_target, after_scratch, target_at}

-- a row that is put there is found, and each other one as before
both_ways : {V : Type 0} (a b : Bool) (v x : V) (o : Option V) → (a ≡ true → b ≡ true → ⊥) → cond a (Some v) (cond b (Some x) o) ≡ cond b (Some x) (cond a (Some v) o)
both_ways true true v x o never = absurd (never refl refl)
both_ways true false v x o never = refl
both_ways false true v x o never = refl
both_ways false false v x o never = refl

not_greater : (k : ℕ) → nat_cmp k k ≡ Greater → ⊥
not_greater k h = let same : nat_cmp k k ≡ Equal = grind arith in let clash : Equal ≡ Greater = sym same ∙ h in cc

pub row_of_with : {V : Type 0} (file k : ℕ) (x : V) (rows : List (ℕ × V)) → row_at file (with_row k x rows) ≡ cond (eqb k file) (Some x) (row_at file rows)
row_of_with file k x [] = ap (λ b. cond b (Some x) None) (at-eqb file k)
row_of_with {V} file k x (e ∷ rows) =
    elim (nat_cmp k e.0) as (λ o. nat_cmp k e.0 ≡ o → row_at file (match_ordering o ((k, x) ∷ e ∷ rows) ((e.0, x) ∷ rows) (e ∷ with_row k x rows)) ≡ cond (eqb k file) (Some x) (row_at file (e ∷ rows))) [
      | Less ↦ λ h. ap (λ b. cond b (Some x) (row_at file (e ∷ rows))) (at-eqb file k)
      | Equal ↦ λ h.
          let same : e.0 ≡ k = sym (exact_unsigned k e.0 h) in
          let found : is_at (nat_cmp file) e.0 ≡ eqb k file = at-eqb file e.0 ∙ ap (λ n. eqb n file) same in
          ap (λ b. cond b (Some x) (row_at file rows)) found
          ∙ again (eqb k file) e.1 x (row_at file rows)
          ∙ ap (λ b. cond (eqb k file) (Some x) (cond b (Some e.1) (row_at file rows))) (sym found)
      | Greater ↦ λ h.
          ap (λ o. cond (is_at (nat_cmp file) e.0) (Some e.1) o) (row_of_with file k x rows)
          ∙ both_ways (is_at (nat_cmp file) e.0) (eqb k file) e.1 x (row_at file rows) (λ a b.
          let first : e.0 ≡ file = eqb-true e.0 file (sym (at-eqb file e.0) ∙ a) in
          let second : k ≡ file = eqb-true k file b in
          not_greater k (sym (ap (nat_cmp k) (first ∙ sym second)) ∙ h))
    ] refl where
      again : (b : Bool) (v x : V) (o : Option V) → cond b (Some x) o ≡ cond b (Some x) (cond b (Some v) o)
      again true v x o = refl
      again false v x o = refl

-- a pool's capacity is said by the classes and the pools alone
capacity_with : (stores : PoolRows) (volumes : List (ℕ × Volume)) (o : Option Pool) → pool_class_capacity (record stores { volumes = volumes }) o ≡ pool_class_capacity stores o
capacity_with stores volumes None = refl
capacity_with stores volumes (Some p) = refl

abbrev with_volumes : List (ℕ × Volume) → PoolRows → PoolRows
with_volumes volumes stores = record stores { volumes = volumes }

pub pool_capacity_with : (volumes : List (ℕ × Volume)) (stores : PoolRows) (pool : ℕ) → pool_capacity pool (with_volumes volumes stores) ≡ pool_capacity pool stores
pool_capacity_with volumes stores pool = capacity_with stores volumes (row_at pool stores.pools)

scratch_target_with : (volumes : List (ℕ × Volume)) (stores : PoolRows) (s : ScratchVolume) → scratch_target (with_volumes volumes stores) s ≡ scratch_target stores s
scratch_target_with volumes stores s = ap (λ (o : Option ℕ). the_target s.pool (option_map_or (λ c. c) o 0)) (pool_capacity_with volumes stores s.pool)
  where
    the_target : ℕ → ℕ → Target
    the_target pool capacity = record { pool = pool; capacity = capacity }

after_scratch_with : (volumes : List (ℕ × Volume)) (stores : PoolRows) (file : ℕ) (scratch : List ScratchVolume) (before : Option Target) → after_scratch (with_volumes volumes stores) file scratch before ≡ after_scratch stores file scratch before
after_scratch_with volumes stores file [] before = refl
after_scratch_with volumes stores file (s ∷ scratch) before =
    after_scratch_with volumes stores file scratch (cond (eqb s.file file) (Some (scratch_target (with_volumes volumes stores) s)) before)
    ∙ ap (λ (t : Target). after_scratch stores file scratch (cond (eqb s.file file) (Some t) before)) (scratch_target_with volumes stores s)

target_cond : (b : Bool) (x : Volume) (o : Option Volume) → target_of (cond b (Some x) o) ≡ cond b (target_of (Some x)) (target_of o)
target_cond true x o = refl
target_cond false x o = refl

abbrev capacity_for : ScratchVolume → Inv → ℕ
capacity_for s v = option_map_or (λ c. c) (pool_capacity s.pool v.stores) 0

abbrev volume_for : ScratchVolume → Inv → Volume
volume_for s v = scratch_volume s.pool s.file (capacity_for s v)

targets : (file : ℕ) (scratch : List ScratchVolume) (v : Inv) → target_of (row_at file (each make_scratch scratch v).stores.volumes) ≡ after_scratch v.stores file scratch (target_of (row_at file v.stores.volumes))
targets file [] v = refl
targets file (s ∷ scratch) v =
    let volumes : List (ℕ × Volume) = with_row s.file (volume_for s v) v.stores.volumes in
    targets file scratch (make_scratch s v)
    ∙ after_scratch_with volumes v.stores file scratch (target_of (row_at file volumes))
    ∙ ap (after_scratch v.stores file scratch) (ap target_of (row_of_with file s.file (volume_for s v) v.stores.volumes) ∙ target_cond (eqb s.file file) (volume_for s v) (row_at file v.stores.volumes))

clients_stay : (scratch : List ScratchVolume) (v : Inv) → (each make_scratch scratch v).clients ≡ v.clients
clients_stay [] v = refl
clients_stay (s ∷ scratch) v = clients_stay scratch (make_scratch s v)

pools_stay : (scratch : List ScratchVolume) (v : Inv) → (each make_scratch scratch v).stores.pools ≡ v.stores.pools
pools_stay [] v = refl
pools_stay (s ∷ scratch) v = pools_stay scratch (make_scratch s v)

capacity_stays : (pool : ℕ) (scratch : List ScratchVolume) (v : Inv) → pool_capacity pool (each make_scratch scratch v).stores ≡ pool_capacity pool v.stores
capacity_stays pool [] v = refl
capacity_stays pool (s ∷ scratch) v = capacity_stays pool scratch (make_scratch s v) ∙ pool_capacity_with (with_row s.file (volume_for s v) v.stores.volumes) v.stores pool

pub same_clients : (scratch : List ScratchVolume) (v : Inv) → (made scratch v).clients ≡ v.clients
unfolding made
same_clients scratch v = clients_stay scratch v

pub same_pools : (scratch : List ScratchVolume) (v : Inv) → (made scratch v).stores.pools ≡ v.stores.pools
unfolding made
same_pools scratch v = pools_stay scratch v

pub same_capacity : (pool : ℕ) (scratch : List ScratchVolume) (v : Inv) → pool_capacity pool (made scratch v).stores ≡ pool_capacity pool v.stores
unfolding made
same_capacity pool scratch v = capacity_stays pool scratch v

pub made_target : (file : ℕ) (scratch : List ScratchVolume) (v : Inv) → target_of (row_at file (made scratch v).stores.volumes) ≡ target_at v.stores file scratch
unfolding made
made_target file scratch v = targets file scratch v
