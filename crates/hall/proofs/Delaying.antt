-- The rows of database backups over a transaction: which were there before it, and their least delays beside those of the pools.
use Rattle.std.proofs.Common.{◌≡◌, ◌⊎◌, inl, inr, ℕ, ◌-◌, ◌<◌, ◌≤◌, min, eqb, Bool, true, false, cond, not, ◌&&◌, List, [], ◌∷◌, ◌++◌, map, Option, None, Some, Result, Ok, Err, IfOk, is_some, refl, sym, ap, subst, ◌∙◌, arith}
use Rattle.std.specs.Prelude.{IfSome, nat_lt, ◌==◌}
use Rattle.std.specs.BTreeMap.{insert_entry, is_at}
use Rattle.std.specs.Cmp.Lexicographic.{slice_cmp}
use Rattle.std.specs.List.{list_all}
use Rattle.std.specs.Map.{lookup}
use Rattle.std.specs.Ordering.{nat_cmp}
use Rattle.std.proofs.lemmas.Bool.{and_parts, eqb-false, eqb-true, false≢true, lt-ltb, ltb-true}
use Rattle.std.proofs.lemmas.Option.{same_Some}
use Rattle.kinds.specs.Names.{is_same_name}
use Rattle.kinds.specs.declared.change.DefineOrDelete.{DefineOrDelete}
use Rattle.kinds.specs.declared.change.DefineOrDelete.TheVariants as two
use Rattle.kinds.specs.declared.change.ObjectChange.{ObjectChange}
use Rattle.kinds.specs.declared.change.ObjectChange.TheVariants as client
use Rattle.kinds.specs.declared.change.PoolChange.{PoolChange}
use Rattle.kinds.specs.declared.change.PoolChange.TheVariants as store
use Rattle.kinds.specs.declared.change.Verb.{Verb}
use Rattle.kinds.specs.declared.change.Verb.TheVariants as verb
use Rattle.kinds.specs.declared.pool.Access.{Access}
use Rattle.kinds.specs.declared.pool.PoolKind.{PoolKind}
use Rattle.kinds.specs.declared.pool.PoolRule.{PoolRule}
use Rattle.kinds.specs.declared.refusal.Refusal.{Refusal}
use Rattle.kinds.specs.declared.refusal.Refusal.TheVariants as refusal
use Rattle.entries.specs.declared.change.Change.{Change}
use Rattle.entries.specs.declared.change.Change.TheVariants as change
use Rattle.inventory_rows.specs.Delays.{lowered}
use Rattle.inventory_rows.specs.version_groups.Entries.{all_later}
use Rattle.inventory_rows.specs.volume_rows.declared.volume.Volume.{Volume}
use Rattle.inventory_rows.specs.declared.backup.Backup.{Backup}
use Rattle.inventory_rows.specs.pool_tables.declared.pool.Pool.{Pool}
use Rattle.inventory_rows.specs.pool_tables.Names.{pool_name, row_named}
use Rattle.inventory_rows.specs.pool_tables.RowChanges.{with_settings}
use Rattle.inventory_rows.specs.pool_tables.Rows.{edit_row, edited, named, row_at, set_row, with_row, without_row}
use Rattle.inventory_rows.specs.pool_rows.Changed as stores
use Rattle.inventory_rows.specs.pool_rows.Changes.{change_pool, change_volume, delete_filed, delete_numbered, is_bad_row, is_next_there, new_pool, new_volume, object_on, pool_before, unless_before, unless_filled, unless_held, update_filed, update_numbered, volume_of_pool}
use Rattle.inventory_rows.specs.pool_rows.ClassChanges.{change_class, class_gone, pool_of_class}
use Rattle.inventory_rows.specs.pool_rows.Hierarchy.{is_bad_hierarchy}
use Rattle.inventory_rows.specs.pool_rows.PoolRows.{PoolRows, class_capacity, pool_named, volume_named}
use Rattle.inventory_rows.specs.State.{Inv}
use Rattle.inventory_rows.proofs.of_pool_tables.Counting.{apart_at, at_is, each_there}
use Rattle.inventory_rules.specs.Backups.{backup_at, backup_ended, delays_now}
use Rattle.inventory_rules.specs.Common.{this}
use Rattle.inventory_rules.specs.Clients.{client_changed}
use Rattle.inventory_rules.specs.Facts.{Facts}
use Rattle.inventory_rules.specs.Stores.{backups_lowered, store_changed}
use Rattle.inventory_rules.specs.Transactions.{OnlyData, effect}
use Rattle.inventory_rules.specs.Valid.{is_valid}
use Rattle.inventory_rules.proofs.Touched.{effect-data}
use Rattle.inventory_laws.proofs.Facts.{facts_of}
use Rattle.inventory_laws.proofs.Gone.{lookup-beside_removed, lookup-beside_set}
use Rattle.inventory_laws.proofs.Pools.{undrawn}
use Rattle.inventory_laws.proofs.Rising.{row_gone}
use Rattle.inventory_laws.proofs.Said.{if_either, kept_or}
use Rattle.inventory_laws.proofs.ScratchBack.{own_row}
use Rattle.inventory_laws.proofs.StoreRows.{found_apart, none_where, other_row, row_came}
use Rattle.hall.specs.Protected.{HasDelay, is_protected}
use Rattle.hall.proofs.DrawnNext.{KeepsBackup, row_so}

-- ---- least delays that are lowered

-- each is that of the same pool, and no greater
abbrev pub AreLowered : List (ℕ × ℕ) → List (ℕ × ℕ) → Type 0
AreLowered [] [] = Unit {0}
AreLowered (d ∷ old) (e ∷ new) = (e.0 ≡ d.0) × (e.1 ≤ d.1) × AreLowered old new
AreLowered _ _ = ⊥

same_lowered : (delays : List (ℕ × ℕ)) → AreLowered delays delays
same_lowered [] = tt
same_lowered (d ∷ delays) = (refl, omega arith, same_lowered delays)

abbrev lower_one : ℕ → ℕ → ℕ × ℕ → ℕ × ℕ
lower_one pool delay d = cond (d.0 == pool) (d.0, min d.1 delay) d

one_lowered : (pool delay : ℕ) (d : ℕ × ℕ) → ((lower_one pool delay d).0 ≡ d.0) × ((lower_one pool delay d).1 ≤ d.1)
one_lowered pool delay d = elim (d.0 == pool) as (λ b. ((cond b (d.0, min d.1 delay) d).0 ≡ d.0) × ((cond b (d.0, min d.1 delay) d).1 ≤ d.1)) [
  | true ↦ (refl, omega arith)
  | false ↦ (refl, omega arith)
]

all_lowered : (pool delay : ℕ) (delays : List (ℕ × ℕ)) → AreLowered delays (lowered pool delay delays)
all_lowered pool delay [] = tt
all_lowered pool delay (d ∷ delays) = let one = one_lowered pool delay d in (one.0, one.1, all_lowered pool delay delays)

-- what is no less than a least delay is no less than the lowered one
has_lowered : (n delay : ℕ) (old new : List (ℕ × ℕ)) → AreLowered old new → HasDelay delay (lookup (is_at (nat_cmp n)) old) → HasDelay delay (lookup (is_at (nat_cmp n)) new)
has_lowered n delay [] [] low has = has
has_lowered n delay [] (e ∷ new) low has = absurd low
has_lowered n delay (d ∷ old) [] low has = absurd low
has_lowered n delay (d ∷ old) (e ∷ new) low has =
    subst (λ (k : ℕ). HasDelay delay (cond (is_at (nat_cmp n) k) (Some e.1) (lookup (is_at (nat_cmp n)) new))) (sym low.0) (go (has_lowered n delay old new low.2) (is_at (nat_cmp n) d.0) has)
  where
    go : (HasDelay delay (lookup (is_at (nat_cmp n)) old) → HasDelay delay (lookup (is_at (nat_cmp n)) new)) → (b : Bool)
        → HasDelay delay (cond b (Some d.1) (lookup (is_at (nat_cmp n)) old)) → HasDelay delay (cond b (Some e.1) (lookup (is_at (nat_cmp n)) new))
    go rest true has = let less = low.1 in omega (arith, less, has)
    go rest false has = rest has

-- the least delay of the pool whose delay is changed isn't above the new one
is_lowered : (n delay : ℕ) (delays : List (ℕ × ℕ)) → is_some (lookup (is_at (nat_cmp n)) delays) ≡ true → HasDelay delay (lookup (is_at (nat_cmp n)) (lowered n delay delays))
is_lowered n delay [] there = absurd (false≢true there)
is_lowered n delay (d ∷ delays) there =
    elim (d.0 == n) as (λ b. (d.0 == n) ≡ b → HasDelay delay (cond (is_at (nat_cmp n) (cond b (d.0, min d.1 delay) d).0) (Some (cond b (d.0, min d.1 delay) d).1) (lookup (is_at (nat_cmp n)) (lowered n delay delays)))) [
      | true ↦ λ same. here (is_lowered n delay delays) (is_at (nat_cmp n) d.0) there
      | false ↦ λ other. further (is_lowered n delay delays) other (is_at (nat_cmp n) d.0) refl there
    ] refl
  where
    here : (is_some (lookup (is_at (nat_cmp n)) delays) ≡ true → HasDelay delay (lookup (is_at (nat_cmp n)) (lowered n delay delays))) → (b : Bool)
        → is_some (cond b (Some d.1) (lookup (is_at (nat_cmp n)) delays)) ≡ true → HasDelay delay (cond b (Some (min d.1 delay)) (lookup (is_at (nat_cmp n)) (lowered n delay delays)))
    here rest true there = omega arith
    here rest false there = rest there

    further : (is_some (lookup (is_at (nat_cmp n)) delays) ≡ true → HasDelay delay (lookup (is_at (nat_cmp n)) (lowered n delay delays))) → (d.0 == n) ≡ false → (b : Bool) → is_at (nat_cmp n) d.0 ≡ b
        → is_some (cond b (Some d.1) (lookup (is_at (nat_cmp n)) delays)) ≡ true → HasDelay delay (cond b (Some d.1) (lookup (is_at (nat_cmp n)) (lowered n delay delays)))
    further rest other true at there = absurd (eqb-false d.0 n other (sym (at_is n d.0 at)))
    further rest other false at there = rest there

has_some : (delay : ℕ) (o : Option ℕ) → HasDelay delay o → is_some o ≡ true
has_some delay None has = absurd has
has_some delay (Some least) has = refl

-- numbers of which none is another's, without the first ones
apart_behind : (xs ys : List ℕ) → all_later (λ a b. not (a == b)) (xs ++ ys) ≡ true → all_later (λ a b. not (a == b)) ys ≡ true
apart_behind [] ys h = h
apart_behind (x ∷ xs) ys h = apart_behind xs ys (and_parts (list_all (λ b. not (x == b)) (xs ++ ys)) (all_later (λ a b. not (a == b)) (xs ++ ys)) h).1

-- ---- rows

names_set : {V : Type 0} (name_of : V → List ℕ) (name : List ℕ) (k : ℕ) (x y : V) (rows : List (ℕ × V)) → row_at k rows ≡ Some x → name_of y ≡ name_of x → row_named name_of name (set_row k y rows) ≡ row_named name_of name rows
names_set name_of name k x y [] there same = absurd cc
names_set {V} name_of name k x y (e ∷ rows) there same =
    elim (is_at (nat_cmp k) e.0) as (λ b. cond b (Some e.1) (row_at k rows) ≡ Some x → row_named name_of name (cond b ((e.0, y) ∷ rows) (e ∷ set_row k y rows)) ≡ row_named name_of name (e ∷ rows)) [
      | true ↦ λ is. ap (λ (n : List ℕ). cond (is_same_name n name) (Some e.0) (row_named name_of name rows)) (same ∙ ap name_of (sym (same_Some e.1 x is)))
      | false ↦ λ is. ap (λ (o : Option ℕ). cond (is_same_name (name_of e.1) name) (Some e.0) o) (names_set name_of name k x y rows is same)
    ] there

pub row_set_own : {V : Type 0} (k : ℕ) (x y : V) (rows : List (ℕ × V)) → row_at k rows ≡ Some x → row_at k (set_row k y rows) ≡ Some y
row_set_own k x y [] there = absurd cc
row_set_own {V} k x y (e ∷ rows) there =
    elim (is_at (nat_cmp k) e.0) as (λ b. is_at (nat_cmp k) e.0 ≡ b → cond b (Some e.1) (row_at k rows) ≡ Some x → row_at k (cond b ((e.0, y) ∷ rows) (e ∷ set_row k y rows)) ≡ Some y) [
      | true ↦ λ at is. ap (λ b. cond b (Some y) (row_at k rows)) at
      | false ↦ λ at is. ap (λ b. cond b (Some e.1) (row_at k (set_row k y rows))) at ∙ row_set_own k x y rows is
    ] refl there

-- ---- a row behind a transaction

-- The row of the same backup: only its least delays may have been lowered, and whether it is whole is left open.
pub record Lowers (old new : Backup) : Type 0 where
  pub taken : new.taken ≡ old.taken
  pub number : new.number ≡ old.number
  pub after : new.after ≡ old.after
  pub delays : AreLowered old.delays new.delays

-- a whole backup was listed before, and was whole, or became it by this transaction
abbrev pub Came : (file : ℕ) → Change → Option Backup → Option Backup → Type 0
Came file c old None = Unit {0}
Came file c None (Some new) = new.is_done ≡ true → ⊥
Came file c (Some old) (Some new) = new.is_done ≡ true → Lowers old new × ((old.is_done ≡ true) ⊎ (c ≡ change.DbEnd file))

-- one that was protected later was protected before
pub protected_before : (old new : Backup) (before later : ℕ) → before ≤ later → Lowers old new → is_protected later new ≡ true → is_protected before old ≡ true
protected_before old new before later le low young =
    go old.delays new.delays low.delays (subst (λ (t : ℕ). list_all (λ (d : ℕ × ℕ). nat_lt (later - t) d.1) new.delays ≡ true) low.taken young)
  where
    both : (a b : Bool) → a ≡ true → b ≡ true → a && b ≡ true
    both true b one two = two
    both false b one two = one

    go : (olds news : List (ℕ × ℕ)) → AreLowered olds news → list_all (λ (d : ℕ × ℕ). nat_lt (later - old.taken) d.1) news ≡ true → list_all (λ (d : ℕ × ℕ). nat_lt (before - old.taken) d.1) olds ≡ true
    go [] [] low all = refl
    go [] (e ∷ news) low all = absurd low
    go (d ∷ olds) [] low all = absurd low
    go (d ∷ olds) (e ∷ news) low all =
        let parts = and_parts (nat_lt (later - old.taken) e.1) (list_all (λ (d : ℕ × ℕ). nat_lt (later - old.taken) d.1) news) all in
        let less : later - old.taken < e.1 = ltb-true (later - old.taken) e.1 parts.0 in
        let lower : e.1 ≤ d.1 = low.1 in
        both (nat_lt (before - old.taken) d.1) (list_all (λ (d : ℕ × ℕ). nat_lt (before - old.taken) d.1) olds) (lt-ltb (before - old.taken) d.1 (omega (arith, le, less, lower)))
        (go olds news low.2 parts.1)

module _ (file : ℕ) where
  itself : (b : Backup) → Lowers b b
  itself b = record { taken = refl; number = refl; after = refl; delays = same_lowered b.delays }

  lowers_it : (b : Backup) (pool delay : ℕ) → Lowers b (record b { delays = lowered pool delay b.delays })
  lowers_it b pool delay = record { taken = refl; number = refl; after = refl; delays = all_lowered pool delay b.delays }

  same_came : (c : Change) (o : Option Backup) → Came file c o o
  same_came c None = tt
  same_came c (Some b) = λ done. (itself b, inl done)

  none_came : (c : Change) (o : Option Backup) → Came file c o None
  none_came c None = tt
  none_came c (Some b) = tt

  -- where the change neither lists nor ends nor takes off the list the backup in this file
  kept_came : (c : Change) (v : Inv) → KeepsBackup file c → Came file c (backup_at file v) (backup_at file (effect c v))
  kept_came c v keeps = row_so (Came file c) (same_came c) (λ b pool delay done. (lowers_it b pool delay, inl done)) file c v keeps

  abbrev Both : Option Backup → Option Backup → Type 0
  Both None o = Unit {0}
  Both (Some a) None = Unit {0}
  Both (Some a) (Some b) = Lowers a b

  same_both : (o : Option Backup) → Both o o
  same_both None = tt
  same_both (Some b) = itself b

  -- the row itself, of one that isn't whole either
  pub kept_lowers : (c : Change) (v : Inv) → KeepsBackup file c → (old new : Backup) → backup_at file v ≡ Some old → backup_at file (effect c v) ≡ Some new → Lowers old new
  kept_lowers c v keeps old new before behind =
      subst (λ o. Both o (Some new)) before (subst (Both (backup_at file v)) behind (row_so Both same_both (λ b pool delay. lowers_it b pool delay) file c v keeps))

  -- a backup that begins isn't whole
  begun_came : (c : Change) (x : Backup) (backups : List (ℕ × Backup)) → x.is_done ≡ false → Came file c (row_at file backups) (row_at file (with_row file x backups))
  begun_came c x backups unfinished = subst (Came file c (row_at file backups)) (sym (own_row file x backups)) (new_row (row_at file backups)) where
    new_row : (o : Option Backup) → Came file c o (Some x)
    new_row None = λ done. false≢true (sym unfinished ∙ done)
    new_row (Some old) = λ done. absurd (false≢true (sym unfinished ∙ done))

  -- the row that is set is its own
  ended_came : (o : Option Backup) (backups : List (ℕ × Backup)) → row_at file backups ≡ o → Came file (change.DbEnd file) (row_at file backups) (row_at file (backup_ended file o backups))
  ended_came None backups at = same_came (change.DbEnd file) (row_at file backups)
  ended_came (Some b) backups at =
      subst (λ o. Came file (change.DbEnd file) o (row_at file (set_row file (record b { is_done = true }) backups))) (sym at)
      (subst (Came file (change.DbEnd file) (Some b)) (sym (row_set_own file b (record b { is_done = true }) backups at))
      (λ done. (record { taken = refl; number = refl; after = refl; delays = same_lowered b.delays }, inr refl)))

  begin_at : (k : ℕ) (after : Option ℕ) (v : Inv) (b : Bool) → eqb k file ≡ b → Came file (change.DbBegin k after) (backup_at file v) (backup_at file (effect (change.DbBegin k after) v))
  unfolding effect
  begin_at k after v false other = kept_came (change.DbBegin k after) v (eqb-false k file other)
  begin_at k after v true same =
      subst (λ (n : ℕ). Came file (change.DbBegin n after) (backup_at file v) (backup_at file (effect (change.DbBegin n after) v))) (sym (eqb-true k file same)) (begun_came (change.DbBegin file after) (record { taken = v.today; number = this v; is_done = false; after = after; delays = delays_now v }) v.backups refl)

  end_at : (k : ℕ) (v : Inv) (b : Bool) → eqb k file ≡ b → Came file (change.DbEnd k) (backup_at file v) (backup_at file (effect (change.DbEnd k) v))
  unfolding effect
  end_at k v false other = kept_came (change.DbEnd k) v (eqb-false k file other)
  end_at k v true same =
      subst (λ (n : ℕ). Came file (change.DbEnd n) (backup_at file v) (backup_at file (effect (change.DbEnd n) v))) (sym (eqb-true k file same)) (ended_came (lookup (is_at (nat_cmp file)) v.backups) v.backups refl)

  delete_at : (k : ℕ) (v : Inv) → is_valid v ≡ true → (b : Bool) → eqb k file ≡ b → Came file (change.DbDelete k) (backup_at file v) (backup_at file (effect (change.DbDelete k) v))
  unfolding effect
  delete_at k v valid false other = kept_came (change.DbDelete k) v (eqb-false k file other)
  delete_at k v valid true same =
      subst (λ (n : ℕ). Came file (change.DbDelete n) (backup_at file v) (backup_at file (effect (change.DbDelete n) v))) (sym (eqb-true k file same))
      (subst (Came file (change.DbDelete file) (backup_at file v))
      (sym (row_gone file v.backups (apart_behind (map (λ e. e.0) v.stores.volumes) (map (λ (e : ℕ × Backup). e.0) v.backups) (facts_of v valid).files_apart))) (none_came (change.DbDelete file) (backup_at file v)))

  -- a whole backup behind a transaction was listed before it
  pub came : (c : Change) (v : Inv) → is_valid v ≡ true → Came file c (backup_at file v) (backup_at file (effect c v))
  came (change.DbBegin k after) v valid = begin_at k after v (eqb k file) refl
  came (change.DbEnd k) v valid = end_at k v (eqb k file) refl
  came (change.DbDelete k) v valid = delete_at k v valid (eqb k file) refl
  came (change.Day day) v valid = kept_came (change.Day day) v tt
  came (change.Policy x) v valid = kept_came (change.Policy x) v tt
  came (change.Object x) v valid = kept_came (change.Object x) v tt
  came (change.Pool x) v valid = kept_came (change.Pool x) v tt
  came (change.Backup x) v valid = kept_came (change.Backup x) v tt
  came (change.Hold x) v valid = kept_came (change.Hold x) v tt
  came (change.Rebind x) v valid = kept_came (change.Rebind x) v tt
  came (change.Gone x) v valid = kept_came (change.Gone x) v tt
  came (change.Move x) v valid = kept_came (change.Move x) v tt
  came (change.Copy x) v valid = kept_came (change.Copy x) v tt
  came (change.DropCopies x) v valid = kept_came (change.DropCopies x) v tt
  came (change.Expire x) v valid = kept_came (change.Expire x) v tt
  came (change.Discard x) v valid = kept_came (change.Discard x) v tt
  came (change.Reuse k) v valid = kept_came (change.Reuse k) v tt

-- ---- the delay of a pool behind a transaction

-- a transaction that changes the delay of this pool, as the database behind it has it
abbrev pub IsUpdate : Change → (n delay : ℕ) → PoolRows → Type 0
IsUpdate (change.Pool (store.Pool verb.Update name class kind rule)) n delay t = (delay ≡ rule.reuse_delay) × (pool_named name t ≡ Some n)
IsUpdate _ n delay t = ⊥

-- of a pool that has a volume
module _ (n : ℕ) (v : Inv) (f : Facts v) (p : Pool) (there : row_at n v.stores.pools ≡ Some p) (file : ℕ) (volume : Volume) (lies : row_at file v.stores.volumes ≡ Some volume) (its : volume.pool ≡ n) where
  abbrev Same : Option Pool → Type 0
  Same o = IfSome o (λ (q : Pool). q.settings.reuse_delay ≡ p.settings.reuse_delay)

  -- its delay is the same
  abbrev As : PoolRows → Type 0
  As t = Same (row_at n t.pools)

  -- or this transaction changed it
  abbrev SameOr : Change → PoolRows → Option Pool → Type 0
  SameOr c t o = IfSome o (λ (q : Pool). (q.settings.reuse_delay ≡ p.settings.reuse_delay) ⊎ IsUpdate c n q.settings.reuse_delay t)

  abbrev pub AsOr : Change → PoolRows → Type 0
  AsOr c t = SameOr c t (row_at n t.pools)

  itself_as : As v.stores
  itself_as = subst Same (sym there) refl

  same_as : (t : PoolRows) → row_at n t.pools ≡ row_at n v.stores.pools → As t
  same_as t same = subst Same (sym (same ∙ there)) refl

  or_as : (c : Change) (t : PoolRows) → As t → AsOr c t
  or_as c t h = go (row_at n t.pools) h where
    go : (o : Option Pool) → Same o → SameOr c t o
    go None h = tt
    go (Some q) h = inl h

  is_there : is_some (row_at n v.stores.pools) ≡ true
  is_there = ap is_some there

  beside_pool : (k : ℕ) → (k ≡ n → ⊥) → (q : ℕ) → is_at (nat_cmp k) q ≡ true → is_at (nat_cmp n) q ≡ false
  beside_pool k ne q here = apart_at n q (λ e. ne (at_is k q here ∙ sym e))

  classes_as : (what : DefineOrDelete) (class : List ℕ) (capacity : ℕ) → IfOk (change_class what class capacity v.stores) As
  classes_as two.Define class capacity =
      if_either As (is_some (named class v.stores.classes)) (Err refusal.Exists) (Ok (record v.stores { classes = insert_entry (slice_cmp nat_cmp) v.stores.classes class (Some capacity) })) (λ is. tt) (λ isnt. itself_as)
  classes_as two.Delete class capacity =
      if_either As (is_some (class_capacity class v.stores)) (class_gone class v.stores (pool_of_class class v.stores)) (Err refusal.NotFound) (λ is. gone (pool_of_class class v.stores)) (λ isnt. tt)
    where
      gone : (o : Option ℕ) → IfOk (class_gone class v.stores o) As
      gone None = itself_as
      gone (Some q) = tt

  defined_as : (name class : List ℕ) (kind : PoolKind) (rule : PoolRule) → IfOk (change_pool verb.Define v.next_pool name class kind rule v.stores) As
  defined_as name class kind rule =
      let k = v.next_pool in
      let x = new_pool name class kind rule in
      let absent : row_at k v.stores.pools ≡ None = undrawn 1 k v.stores.pools f.pools_drawn in
      if_either As (is_some (named class v.stores.classes) && is_next_there rule.next v.stores) _ (Err refusal.NotFound) (λ is.
      if_either As (is_some (pool_named name v.stores)) (Err refusal.Exists) _ (λ used. tt) (λ free.
      if_either As (is_bad_hierarchy k class kind rule.next v.stores) (Err refusal.BadHierarchy) (Ok (record v.stores { pools = with_row k x v.stores.pools })) (λ bad. tt) (λ good.
      same_as (record v.stores { pools = with_row k x v.stores.pools }) (other_row k n x (with_row k x v.stores.pools) v.stores.pools (row_came k x v.stores.pools absent) (found_apart k n v.stores.pools absent is_there))))) (λ isnt. tt)

  updated_as : (name class : List ℕ) (kind : PoolKind) (rule : PoolRule)
      → IfOk (change_pool verb.Update v.next_pool name class kind rule v.stores) (AsOr (change.Pool (store.Pool verb.Update name class kind rule)))
  updated_as name class kind rule =
      if_either (AsOr (change.Pool (store.Pool verb.Update name class kind rule))) (is_next_there rule.next v.stores) (update_numbered rule v.stores (pool_named name v.stores)) (Err refusal.NotFound) (λ is. numbered (pool_named name v.stores) refl) (λ isnt. tt)
    where
      by : (k : ℕ) → pool_named name v.stores ≡ Some k → (x : Pool) → row_at k v.stores.pools ≡ Some x → (b : Bool) → eqb k n ≡ b
          → AsOr (change.Pool (store.Pool verb.Update name class kind rule)) (record v.stores { pools = set_row k (with_settings rule x) v.stores.pools })
      by k is x at true same =
          subst (SameOr (change.Pool (store.Pool verb.Update name class kind rule)) (record v.stores { pools = set_row k (with_settings rule x) v.stores.pools }))
          (sym (subst (λ (m : ℕ). row_at m (set_row k (with_settings rule x) v.stores.pools) ≡ Some (with_settings rule x)) (eqb-true k n same) (row_set_own k x (with_settings rule x) v.stores.pools at)))
          (inr (refl, names_set pool_name name k x (with_settings rule x) v.stores.pools at refl ∙ is ∙ ap (λ (m : ℕ). Some m) (eqb-true k n same)))
      by k is x at false other =
          or_as (change.Pool (store.Pool verb.Update name class kind rule)) (record v.stores { pools = set_row k (with_settings rule x) v.stores.pools })
          (same_as (record v.stores { pools = set_row k (with_settings rule x) v.stores.pools })
          (lookup-beside_set (is_at (nat_cmp k)) (is_at (nat_cmp n)) (beside_pool k (eqb-false k n other)) (with_settings rule x) v.stores.pools))

      set : (k : ℕ) → pool_named name v.stores ≡ Some k → (o : Option Pool) → row_at k v.stores.pools ≡ o → AsOr (change.Pool (store.Pool verb.Update name class kind rule)) (record v.stores { pools = edited k (with_settings rule) v.stores.pools o })
      set k is None at = or_as (change.Pool (store.Pool verb.Update name class kind rule)) v.stores itself_as
      set k is (Some x) at = by k is x at (eqb k n) refl

      numbered : (o : Option ℕ) → pool_named name v.stores ≡ o → IfOk (update_numbered rule v.stores o) (AsOr (change.Pool (store.Pool verb.Update name class kind rule)))
      numbered None is = tt
      numbered (Some k) is = if_either (AsOr (change.Pool (store.Pool verb.Update name class kind rule))) (is_bad_row k rule.next v.stores (row_at k v.stores.pools)) (Err refusal.BadHierarchy)
          (Ok (record v.stores { pools = edit_row k (with_settings rule) v.stores.pools })) (λ bad. tt) (λ good. set k is (row_at k v.stores.pools) refl)

  -- a pool with a volume isn't deleted
  deleted_as : (name class : List ℕ) (kind : PoolKind) (rule : PoolRule) → IfOk (change_pool verb.Delete v.next_pool name class kind rule v.stores) As
  deleted_as name class kind rule = numbered (pool_named name v.stores) where
    before : (k : ℕ) (o : Option ℕ) → (k ≡ n → ⊥) → IfOk (unless_before k v.stores o) As
    before k None ne = same_as (record v.stores { pools = without_row k v.stores.pools }) (lookup-beside_removed (is_at (nat_cmp k)) (is_at (nat_cmp n)) (beside_pool k ne) v.stores.pools)
    before k (Some q) ne = tt

    filled : (k : ℕ) (o : Option ℕ) → volume_of_pool k v.stores ≡ o → IfOk (unless_filled k v.stores o) As
    filled k None none =
        before k (pool_before k v.stores) (λ same. eqb-false volume.pool k
        (each_there (λ (e : ℕ × Volume). (e.1.pool == k) ≡ false) file volume v.stores.volumes lies (none_where (λ (x : Volume). x.pool == k) v.stores.volumes none)) (its ∙ sym same))
    filled k (Some q) none = tt

    numbered : (o : Option ℕ) → IfOk (delete_numbered v.stores o) As
    numbered None = tt
    numbered (Some k) = filled k (volume_of_pool k v.stores) refl

  volumes_as : (what : Verb) (name : List ℕ) (number k capacity : ℕ) (access : Access) → IfOk (change_volume what name number k capacity access v.stores) As
  volumes_as verb.Define name number k capacity access =
      if_either As (is_some (row_at number v.stores.pools)) _ (Err refusal.NotFound) (λ is.
      if_either As (is_some (volume_named name v.stores)) (Err refusal.Exists) (Ok (record v.stores { volumes = with_row k (new_volume name number capacity access) v.stores.volumes })) (λ used. tt)
      (λ free. itself_as)) (λ isnt. tt)
  volumes_as verb.Update name number k capacity access = updated (volume_named name v.stores) where
    updated : (o : Option ℕ) → IfOk (update_filed access v.stores o) As
    updated None = tt
    updated (Some k) = itself_as
  volumes_as verb.Delete name number k capacity access = deleted (volume_named name v.stores) where
    held : (k : ℕ) (o : Option ℕ) → IfOk (unless_held k v.stores o) As
    held k None = itself_as
    held k (Some object) = tt

    deleted : (o : Option ℕ) → IfOk (delete_filed v.stores o) As
    deleted None = tt
    deleted (Some k) = held k (object_on (row_at k v.stores.volumes))

  stores_as : (x : PoolChange) → AsOr (change.Pool x) (store_changed x v).stores
  stores_as (store.DevClass what class capacity) =
      or_as (change.Pool (store.DevClass what class capacity)) (store_changed (store.DevClass what class capacity) v).stores (kept_or As v.stores (stores.changed (store.DevClass what class capacity) v.next_pool v.stores) itself_as (classes_as what class capacity))
  stores_as (store.Pool verb.Define name class kind rule) =
      or_as (change.Pool (store.Pool verb.Define name class kind rule)) (store_changed (store.Pool verb.Define name class kind rule) v).stores (kept_or As v.stores (stores.changed (store.Pool verb.Define name class kind rule) v.next_pool v.stores) itself_as (defined_as name class kind rule))
  stores_as (store.Pool verb.Update name class kind rule) =
      kept_or (AsOr (change.Pool (store.Pool verb.Update name class kind rule))) v.stores (stores.changed (store.Pool verb.Update name class kind rule) v.next_pool v.stores)
      (or_as (change.Pool (store.Pool verb.Update name class kind rule)) v.stores itself_as) (updated_as name class kind rule)
  stores_as (store.Pool verb.Delete name class kind rule) =
      or_as (change.Pool (store.Pool verb.Delete name class kind rule)) (store_changed (store.Pool verb.Delete name class kind rule) v).stores (kept_or As v.stores (stores.changed (store.Pool verb.Delete name class kind rule) v.next_pool v.stores) itself_as (deleted_as name class kind rule))
  stores_as (store.Volume verb.Define name number k capacity access) =
      or_as (change.Pool (store.Volume verb.Define name number k capacity access)) (store_changed (store.Volume verb.Define name number k capacity access) v).stores (kept_or As v.stores (stores.changed (store.Volume verb.Define name number k capacity access) v.next_pool v.stores) itself_as (volumes_as verb.Define name number k capacity access))
  stores_as (store.Volume verb.Update name number k capacity access) =
      or_as (change.Pool (store.Volume verb.Update name number k capacity access)) (store_changed (store.Volume verb.Update name number k capacity access) v).stores (kept_or As v.stores (stores.changed (store.Volume verb.Update name number k capacity access) v.next_pool v.stores) itself_as (volumes_as verb.Update name number k capacity access))
  stores_as (store.Volume verb.Delete name number k capacity access) =
      or_as (change.Pool (store.Volume verb.Delete name number k capacity access)) (store_changed (store.Volume verb.Delete name number k capacity access) v).stores (kept_or As v.stores (stores.changed (store.Volume verb.Delete name number k capacity access) v.next_pool v.stores) itself_as (volumes_as verb.Delete name number k capacity access))

  clients_as : (x : ObjectChange) → As (client_changed x v).stores
  clients_as (client.Node two.Define name domain) = itself_as
  clients_as (client.Node two.Delete name domain) = itself_as
  clients_as (client.Filespace two.Define node name k) = itself_as
  clients_as (client.Filespace two.Delete node name k) = itself_as

  data_as : (c : Change) (w : Inv) → OnlyData v w → AsOr c w.stores
  data_as c w o = or_as c w.stores (same_as w.stores (ap (λ (rows : List (ℕ × Pool)). row_at n rows) o.pools))

  -- its delay is as it was, or the transaction changed it
  pub delay_as : (c : Change) → AsOr c (effect c v).stores
  unfolding effect
  delay_as (change.Day day) = or_as (change.Day day) v.stores itself_as
  delay_as (change.Policy x) = or_as (change.Policy x) v.stores itself_as
  delay_as (change.Object x) = or_as (change.Object x) (client_changed x v).stores (clients_as x)
  delay_as (change.Pool x) = stores_as x
  delay_as (change.Backup x) = data_as (change.Backup x) (effect (change.Backup x) v) (effect-data (change.Backup x) v refl)
  delay_as (change.Hold x) = data_as (change.Hold x) (effect (change.Hold x) v) (effect-data (change.Hold x) v refl)
  delay_as (change.Rebind x) = data_as (change.Rebind x) (effect (change.Rebind x) v) (effect-data (change.Rebind x) v refl)
  delay_as (change.Gone x) = data_as (change.Gone x) (effect (change.Gone x) v) (effect-data (change.Gone x) v refl)
  delay_as (change.Move x) = data_as (change.Move x) (effect (change.Move x) v) (effect-data (change.Move x) v refl)
  delay_as (change.Copy x) = data_as (change.Copy x) (effect (change.Copy x) v) (effect-data (change.Copy x) v refl)
  delay_as (change.DropCopies x) = data_as (change.DropCopies x) (effect (change.DropCopies x) v) (effect-data (change.DropCopies x) v refl)
  delay_as (change.Expire x) = data_as (change.Expire x) (effect (change.Expire x) v) (effect-data (change.Expire x) v refl)
  delay_as (change.Discard x) = data_as (change.Discard x) (effect (change.Discard x) v) (effect-data (change.Discard x) v refl)
  delay_as (change.Reuse k) = data_as (change.Reuse k) (effect (change.Reuse k) v) (effect-data (change.Reuse k) v refl)
  delay_as (change.DbBegin k after) = or_as (change.DbBegin k after) v.stores itself_as
  delay_as (change.DbEnd k) = or_as (change.DbEnd k) v.stores itself_as
  delay_as (change.DbDelete k) = or_as (change.DbDelete k) v.stores itself_as

-- a backup's row where the delay of a pool was changed
lowered_row : (file pool delay : ℕ) (backups : List (ℕ × Backup)) (old new : Backup) → lookup (is_at (nat_cmp file)) backups ≡ Some old → lookup (is_at (nat_cmp file)) (backups_lowered (Some pool) delay backups) ≡ Some new
    → new.delays ≡ lowered pool delay old.delays
lowered_row file pool delay [] old new before behind = absurd cc
lowered_row file pool delay (e ∷ backups) old new before behind = elim (is_at (nat_cmp file) e.0) as
    (λ b. cond b (Some e.1) (lookup (is_at (nat_cmp file)) backups) ≡ Some old
    → cond b (Some (record e.1 { delays = lowered pool delay e.1.delays })) (lookup (is_at (nat_cmp file)) (backups_lowered (Some pool) delay backups)) ≡ Some new → new.delays ≡ lowered pool delay old.delays) [
      | true ↦ λ is at. ap (λ (x : Backup). x.delays) (sym (same_Some _ new at)) ∙ ap (λ (x : Backup). lowered pool delay x.delays) (same_Some e.1 old is)
      | false ↦ λ is at. lowered_row file pool delay backups old new is at
    ] before behind

update_row : (c : Change) (file n delay : ℕ) (v : Inv) (old new : Backup) → IsUpdate c n delay (effect c v).stores → backup_at file v ≡ Some old → backup_at file (effect c v) ≡ Some new
    → is_some (lookup (is_at (nat_cmp n)) old.delays) ≡ true → HasDelay delay (lookup (is_at (nat_cmp n)) new.delays)
unfolding effect
update_row (change.Day day) file n delay v old new is before behind some = absurd is
update_row (change.Policy x) file n delay v old new is before behind some = absurd is
update_row (change.Object x) file n delay v old new is before behind some = absurd is
update_row (change.Pool (store.DevClass what class capacity)) file n delay v old new is before behind some = absurd is
update_row (change.Pool (store.Pool verb.Define name class kind rule)) file n delay v old new is before behind some = absurd is
update_row (change.Pool (store.Pool verb.Update name class kind rule)) file n delay v old new is before behind some =
    subst (λ (l : List (ℕ × ℕ)). HasDelay delay (lookup (is_at (nat_cmp n)) l)) (sym (lowered_row file n delay v.backups old new before
    (subst (λ (d : ℕ). lookup (is_at (nat_cmp file)) (backups_lowered (Some n) d v.backups) ≡ Some new) (sym is.0)
    (subst (λ (o : Option ℕ). lookup (is_at (nat_cmp file)) (backups_lowered o rule.reuse_delay v.backups) ≡ Some new) is.1 behind)))) (is_lowered n delay old.delays some)
update_row (change.Pool (store.Pool verb.Delete name class kind rule)) file n delay v old new is before behind some = absurd is
update_row (change.Pool (store.Volume what name number k capacity access)) file n delay v old new is before behind some = absurd is
update_row (change.Backup x) file n delay v old new is before behind some = absurd is
update_row (change.Hold x) file n delay v old new is before behind some = absurd is
update_row (change.Rebind x) file n delay v old new is before behind some = absurd is
update_row (change.Gone x) file n delay v old new is before behind some = absurd is
update_row (change.Move x) file n delay v old new is before behind some = absurd is
update_row (change.Copy x) file n delay v old new is before behind some = absurd is
update_row (change.DropCopies x) file n delay v old new is before behind some = absurd is
update_row (change.Expire x) file n delay v old new is before behind some = absurd is
update_row (change.Discard x) file n delay v old new is before behind some = absurd is
update_row (change.Reuse k) file n delay v old new is before behind some = absurd is
update_row (change.DbBegin k after) file n delay v old new is before behind some = absurd is
update_row (change.DbEnd k) file n delay v old new is before behind some = absurd is
update_row (change.DbDelete k) file n delay v old new is before behind some = absurd is

-- a backup's least delay of a pool that has a volume isn't above that pool's delay behind a transaction either
pub delay_kept : (c : Change) (v : Inv) → is_valid v ≡ true → (n : ℕ) (file : ℕ) (volume : Volume) → row_at file v.stores.volumes ≡ Some volume → volume.pool ≡ n → (number : ℕ) (old new : Backup)
    → backup_at number v ≡ Some old → backup_at number (effect c v) ≡ Some new → Lowers old new
    → (p : Pool) → row_at n v.stores.pools ≡ Some p → HasDelay p.settings.reuse_delay (lookup (is_at (nat_cmp n)) old.delays)
    → IfSome (row_at n (effect c v).stores.pools) (λ (q : Pool). HasDelay q.settings.reuse_delay (lookup (is_at (nat_cmp n)) new.delays))
delay_kept c v valid n file volume lies its number old new before behind low p there has =
    go (row_at n (effect c v).stores.pools) (delay_as n v (facts_of v valid) p there file volume lies its c)
  where
    go : (o : Option Pool) → IfSome o (λ (q : Pool). (q.settings.reuse_delay ≡ p.settings.reuse_delay) ⊎ IsUpdate c n q.settings.reuse_delay (effect c v).stores)
        → IfSome o (λ (q : Pool). HasDelay q.settings.reuse_delay (lookup (is_at (nat_cmp n)) new.delays))
    go None h = tt
    go (Some q) (inl same) = subst (λ (d : ℕ). HasDelay d (lookup (is_at (nat_cmp n)) new.delays)) (sym same) (has_lowered n p.settings.reuse_delay old.delays new.delays low.delays has)
    go (Some q) (inr is) = update_row c number n q.settings.reuse_delay v old new is before behind (has_some p.settings.reuse_delay (lookup (is_at (nat_cmp n)) old.delays) has)
