-- What the copies of a protected backup need stays over each transaction: its volumes aren't reused, and lie where they lay.
use Rattle.std.proofs.Common.{◌≡◌, ◌⊎◌, ℕ, ◌+◌, ◌-◌, ◌<◌, ◌≤◌, Bool, true, false, cond, not, ◌&&◌, ◌||◌, List, [], ◌∷◌, ◌++◌, Option, None, Some, Result, Ok, Err, is_some, refl, sym, ap, subst, ◌∙◌, arith}
use Rattle.std.specs.Prelude.{IfSome, nat_le, nat_lt, ◌==◌}
use Rattle.std.specs.BTreeMap.{is_at}
use Rattle.std.specs.List.{AllByRecursion, list_all}
use Rattle.std.specs.Map.{lookup}
use Rattle.std.specs.Option.{option_map}
use Rattle.std.specs.Ordering.{nat_cmp}
use Rattle.std.proofs.lemmas.Bool.{and_parts, eqb-true, false≢true, leb-true, ltb-true}
use Rattle.kinds.specs.Refusals.{refusal_of}
use Rattle.kinds.specs.declared.change.DefineOrDelete.TheVariants as two
use Rattle.kinds.specs.declared.change.ObjectChange.{ObjectChange}
use Rattle.kinds.specs.declared.change.ObjectChange.TheVariants as client
use Rattle.kinds.specs.declared.change.PoolChange.{PoolChange}
use Rattle.kinds.specs.declared.change.PoolChange.TheVariants as store
use Rattle.kinds.specs.declared.change.Verb.TheVariants as verb
use Rattle.kinds.specs.declared.refusal.Refusal.{Refusal}
use Rattle.kinds.specs.declared.refusal.Refusal.TheVariants as refusal
use Rattle.kinds.specs.declared.segment.Segment.{Segment}
use Rattle.entries.specs.declared.change.Change.{Change}
use Rattle.entries.specs.declared.change.Change.TheVariants as change
use Rattle.inventory_rows.specs.declared.backup.Backup.{Backup}
use Rattle.inventory_rows.specs.volume_rows.Holdings.{is_bare, least_object, without_segment}
use Rattle.inventory_rows.specs.volume_rows.Volumes.{may_reuse, put_on, reuse_since, reuse_unless_used, take_from}
use Rattle.inventory_rows.specs.volume_rows.declared.held.HeldSegment.{HeldSegment}
use Rattle.inventory_rows.specs.volume_rows.declared.volume.Volume.{Volume}
use Rattle.inventory_rows.specs.pool_tables.declared.pool.Pool.{Pool}
use Rattle.inventory_rows.specs.pool_tables.Rows.{row_at}
use Rattle.inventory_rows.specs.pool_rows.PoolRows.{is_sequential, is_sequential_at}
use Rattle.inventory_rows.specs.pool_rows.Segments.{delay_of, reuse_row}
use Rattle.inventory_rows.specs.Search.{pool}
use Rattle.inventory_rows.specs.State.{Inv}
use Rattle.inventory_rows.proofs.of_pool_tables.Counting.{each_there}
use Rattle.inventory_rules.specs.Backups.{backup_at}
use Rattle.inventory_rules.specs.Clients.{client_changed}
use Rattle.inventory_rules.specs.Journal.{Journal}
use Rattle.inventory_rules.specs.Stores.{store_changed}
use Rattle.inventory_rules.specs.Transactions.{OnlyData, causes, effect}
use Rattle.inventory_rules.specs.Valid.{is_valid}
use Rattle.inventory_rules.proofs.Touched.{effect-data}
use Rattle.inventory_laws.specs.Rising.{is_reuse}
use Rattle.inventory_laws.proofs.Facts.{facts_of}
use Rattle.inventory_laws.proofs.Lists.{all_of}
use Rattle.inventory_laws.proofs.Rising.{Stands, draws_on, row_kept, sequential_stays}
use Rattle.inventory_laws.proofs.Tests.{unless_holds}
use Rattle.hall.specs.Protected.{EachSequential, HasDelay, IsLeft, IsProvided, IsStill, StillLies, Taken, is_protected}
use Rattle.hall.proofs.BackedUp.{both_sequential}
use Rattle.hall.proofs.Delaying.{Lowers, delay_kept, protected_before}
use Rattle.hall.proofs.VolumesStay.{BringsVolume, volume_new}

-- ---- days

le_same : (n : ℕ) → n ≤ n
le_same n = omega arith

clients_day : (x : ObjectChange) (v : Inv) → v.today ≤ (client_changed x v).today
clients_day (client.Node two.Define name domain) v = le_same v.today
clients_day (client.Node two.Delete name domain) v = le_same v.today
clients_day (client.Filespace two.Define node name n) v = le_same v.today
clients_day (client.Filespace two.Delete node name n) v = le_same v.today

stores_day : (x : PoolChange) (v : Inv) → v.today ≤ (store_changed x v).today
stores_day (store.DevClass what class capacity) v = le_same v.today
stores_day (store.Pool verb.Define name class kind rule) v = le_same v.today
stores_day (store.Pool verb.Update name class kind rule) v = le_same v.today
stores_day (store.Pool verb.Delete name class kind rule) v = le_same v.today
stores_day (store.Volume verb.Define name number k capacity access) v = le_same v.today
stores_day (store.Volume verb.Update name number k capacity access) v = le_same v.today
stores_day (store.Volume verb.Delete name number k capacity access) v = le_same v.today

data_day : (v w : Inv) → OnlyData v w → v.today ≤ w.today
data_day v w o = let same = o.today in omega (arith, same)

-- the day never falls
pub days_rise : (j : Journal) (c : Change) (v : Inv) → causes j c v ≡ [] → v.today ≤ (effect c v).today
unfolding effect
days_rise j (change.Day day) v free = leb-true v.today day (unless_holds (nat_le v.today day) (refusal.DayBack v.today day) free)
days_rise j (change.Policy x) v free = le_same v.today
days_rise j (change.Object x) v free = clients_day x v
days_rise j (change.Pool x) v free = stores_day x v
days_rise j (change.Backup x) v free = data_day v (effect (change.Backup x) v) (effect-data (change.Backup x) v refl)
days_rise j (change.Hold x) v free = data_day v (effect (change.Hold x) v) (effect-data (change.Hold x) v refl)
days_rise j (change.Rebind x) v free = data_day v (effect (change.Rebind x) v) (effect-data (change.Rebind x) v refl)
days_rise j (change.Gone x) v free = data_day v (effect (change.Gone x) v) (effect-data (change.Gone x) v refl)
days_rise j (change.Move x) v free = data_day v (effect (change.Move x) v) (effect-data (change.Move x) v refl)
days_rise j (change.Copy x) v free = data_day v (effect (change.Copy x) v) (effect-data (change.Copy x) v refl)
days_rise j (change.DropCopies x) v free = data_day v (effect (change.DropCopies x) v) (effect-data (change.DropCopies x) v refl)
days_rise j (change.Expire x) v free = data_day v (effect (change.Expire x) v) (effect-data (change.Expire x) v refl)
days_rise j (change.Discard x) v free = data_day v (effect (change.Discard x) v) (effect-data (change.Discard x) v refl)
days_rise j (change.Reuse k) v free = data_day v (effect (change.Reuse k) v) (effect-data (change.Reuse k) v refl)
days_rise j (change.DbBegin k after) v free = le_same v.today
days_rise j (change.DbEnd k) v free = le_same v.today
days_rise j (change.DbDelete k) v free = le_same v.today

-- ---- reuse

-- a volume that may be reused was emptied, and has rested for its pool's delay
rested_of : (file delay today day : ℕ) → refusal_of (cond {A = Result (Unit {0}) Refusal} (nat_le delay (today - day)) (Ok tt) (Err (refusal.NotYet file (day + delay)))) ≡ [] → delay ≤ today - day
rested_of file delay today day h = go (nat_le delay (today - day)) refl h where
  go : (b : Bool) → nat_le delay (today - day) ≡ b → refusal_of (cond {A = Result (Unit {0}) Refusal} b (Ok tt) (Err (refusal.NotYet file (day + delay)))) ≡ [] → delay ≤ today - day
  go true is h = leb-true delay (today - day) is
  go false is h = absurd cc

may_rest : (sequential : Bool) (file delay today : ℕ) (x : Volume) → refusal_of (may_reuse sequential file delay today x) ≡ [] → (day : ℕ) × (x.emptied ≡ Some day) × (delay ≤ today - day)
may_rest sequential file delay today x h = by_empty (not sequential || x.end == 0) h where
  since : (o : Option ℕ) → x.emptied ≡ o → refusal_of (reuse_since file delay today o) ≡ [] → (day : ℕ) × (x.emptied ≡ Some day) × (delay ≤ today - day)
  since None is h = absurd cc
  since (Some day) is h = (day, is, rested_of file delay today day h)

  used : (o : Option ℕ) → refusal_of (reuse_unless_used file delay today x o) ≡ [] → (day : ℕ) × (x.emptied ≡ Some day) × (delay ≤ today - day)
  used None h = since x.emptied refl h
  used (Some object) h = absurd cc

  by_empty : (b : Bool) → refusal_of (cond {A = Result (Unit {0}) Refusal} b (Err refusal.NotFound) (reuse_unless_used file delay today x (least_object x.segments))) ≡ [] → (day : ℕ) × (x.emptied ≡ Some day) × (delay ≤ today - day)
  by_empty true h = absurd cc
  by_empty false h = used (least_object x.segments) h

-- one of the least delays is one of those by which the backup is protected
young_of : (n today taken delay : ℕ) (delays : List (ℕ × ℕ)) → list_all (λ (d : ℕ × ℕ). nat_lt (today - taken) d.1) delays ≡ true → HasDelay delay (lookup (is_at (nat_cmp n)) delays) → today - taken < delay
young_of n today taken delay [] all has = absurd has
young_of n today taken delay (d ∷ delays) all has =
    let parts = and_parts (nat_lt (today - taken) d.1) (list_all (λ (d : ℕ × ℕ). nat_lt (today - taken) d.1) delays) all in
    go (ltb-true (today - taken) d.1 parts.0) (young_of n today taken delay delays parts.1) (is_at (nat_cmp n) d.0) has
  where
    go : today - taken < d.1 → (HasDelay delay (lookup (is_at (nat_cmp n)) delays) → today - taken < delay) → (b : Bool) → HasDelay delay (cond b (Some d.1) (lookup (is_at (nat_cmp n)) delays)) → today - taken < delay
    go less rest true has = omega (arith, less, has)
    go less rest false has = rest has

some_pool : (o : Option Pool) → is_some o ≡ true → (p : Pool) × (o ≡ Some p)
some_pool None h = absurd (false≢true h)
some_pool (Some p) h = (p, refl)

-- a volume that a protected backup needs isn't reused
pub never_reused : (j : Journal) (c : Change) (v : Inv) (b : Backup) (n : ℕ) (s : Segment) (x : Volume) → is_valid v ≡ true → causes j c v ≡ [] → row_at s.file v.stores.volumes ≡ Some x → IsStill v b n s x
    → is_protected v.today b ≡ true → is_reuse s.file c ≡ false
never_reused j c v b n s x valid free there still young = by_kind c free where
  has_pool : (p : Pool) × (row_at n v.stores.pools ≡ Some p)
  has_pool = some_pool (row_at n v.stores.pools) (subst (λ (k : ℕ). is_some (row_at k v.stores.pools) ≡ true) still.pool
      (each_there (λ (e : ℕ × Volume). is_some (pool e.1.pool v) ≡ true) s.file x v.stores.volumes there (all_of (λ (e : ℕ × Volume). is_some (pool e.1.pool v)) v.stores.volumes (facts_of v valid).volumes_cite)))

  too_early : (k : ℕ) → s.file ≡ k → causes j (change.Reuse k) v ≡ [] → ⊥
  too_early k same free =
      let p : Pool = has_pool.0 in
      let rest = may_rest (is_sequential_at k v.stores) k (delay_of (row_at x.pool v.stores.pools)) v.today x
      (subst (λ (o : Option Volume). refusal_of (reuse_row v.stores k v.today o) ≡ []) (subst (λ (m : ℕ). row_at m v.stores.volumes ≡ Some x) same there) free) in
      let delay : delay_of (row_at x.pool v.stores.pools) ≡ p.settings.reuse_delay = ap (λ (m : ℕ). delay_of (row_at m v.stores.pools)) still.pool ∙ ap delay_of has_pool.1 in
      let has : HasDelay p.settings.reuse_delay (lookup (is_at (nat_cmp n)) b.delays) = subst (λ (o : Option Pool). IfSome o (λ q. HasDelay q.settings.reuse_delay (lookup (is_at (nat_cmp n)) b.delays))) has_pool.1 still.delayed in
      let low : v.today - b.taken < p.settings.reuse_delay = young_of n v.today b.taken p.settings.reuse_delay b.delays young has in
      let day : ℕ = rest.0 in
      let after : b.taken ≤ day = subst (λ (o : Option ℕ). IfSome o (λ d. b.taken ≤ d)) rest.1 still.emptied in
      let late : delay_of (row_at x.pool v.stores.pools) ≤ v.today - day = rest.2 in
      omega (arith, delay, low, after, late)

  other : (k : ℕ) → causes j (change.Reuse k) v ≡ [] → (t : Bool) → (s.file == k) ≡ t → t ≡ false
  other k free false is = refl
  other k free true is = absurd (too_early k (eqb-true s.file k is) free)

  by_kind : (c : Change) → causes j c v ≡ [] → is_reuse s.file c ≡ false
  by_kind (change.Day day) free = refl
  by_kind (change.Policy y) free = refl
  by_kind (change.Object y) free = refl
  by_kind (change.Pool y) free = refl
  by_kind (change.Backup y) free = refl
  by_kind (change.Hold y) free = refl
  by_kind (change.Rebind y) free = refl
  by_kind (change.Gone y) free = refl
  by_kind (change.Move y) free = refl
  by_kind (change.Copy y) free = refl
  by_kind (change.DropCopies y) free = refl
  by_kind (change.Expire y) free = refl
  by_kind (change.Discard y) free = refl
  by_kind (change.Reuse k) free = other k free (s.file == k) refl
  by_kind (change.DbBegin k after) free = refl
  by_kind (change.DbEnd k) free = refl
  by_kind (change.DbDelete k) free = refl

-- ---- over a transaction

-- what is kept of the volume of a segment: its pool, that it ends no earlier than the segment, and that it wasn't emptied before a day
pub record HoldsOn (n last taken : ℕ) (x : Volume) : Type 0 where
  pub in_pool : x.pool ≡ n
  pub within : last ≤ x.end
  pub emptied : IfSome x.emptied (λ day. taken ≤ day)

holds_put : (n last taken : ℕ) (b : Bool) (s : HeldSegment) (x : Volume) → HoldsOn n last taken x → HoldsOn n last taken (put_on b s x)
holds_put n last taken true s x h = record { in_pool = h.in_pool; within = (let w = h.within in omega (arith, w)); emptied = tt }
holds_put n last taken false s x h = record { in_pool = h.in_pool; within = h.within; emptied = h.emptied }

holds_taken : (n last taken today : ℕ) → taken ≤ today → (b : Bool) (s : HeldSegment) (x : Volume) → HoldsOn n last taken x → HoldsOn n last taken (take_from b s today x)
holds_taken n last taken today le b s x h = record { in_pool = h.in_pool; within = h.within; emptied = go b (is_bare (without_segment s x.segments)) h.emptied } where
  go : (b bare : Bool) → IfSome x.emptied (λ day. taken ≤ day) → IfSome (cond b (cond bare (Some today) x.emptied) x.emptied) (λ day. taken ≤ day)
  go true true e = le
  go true false e = e
  go false bare e = e

holds_stand : (n last taken today : ℕ) → taken ≤ today → Stands today (HoldsOn n last taken)
holds_stand n last taken today le = record {
  comes = holds_put n last taken;
  goes = holds_taken n last taken today le;
  changes = λ access x h. record { in_pool = h.in_pool; within = h.within; emptied = h.emptied };
}

module _ (j : Journal) (c : Change) (v : Inv) (valid : is_valid v ≡ true) (free : causes j c v ≡ []) (file : ℕ) (old new : Backup) (before : backup_at file v ≡ Some old) (behind : backup_at file (effect c v) ≡ Some new)
    (low : Lowers old new) (young : is_protected (effect c v).today new ≡ true) where
  -- it was protected before
  was_young : is_protected v.today old ≡ true
  was_young = protected_before old new v.today (effect c v).today (days_rise j c v free) low young

  by_today : old.taken ≤ v.today
  by_today = leb-true old.taken v.today (each_there (λ (e : ℕ × Backup). nat_le e.1.taken v.today ≡ true) file old v.backups before (all_of (λ (e : ℕ × Backup). nat_le e.1.taken v.today) v.backups (facts_of v valid).backups_by_today))

  -- a segment that lies on a volume that is there before and behind the transaction
  still_lies : (n : ℕ) (s : Segment) (x y : Volume) → row_at s.file v.stores.volumes ≡ Some x → row_at s.file (effect c v).stores.volumes ≡ Some y → IsStill v old n s x → IsStill (effect c v) new n s y
  still_lies n s x y at then still =
      let other = never_reused j c v old n s x valid free at still was_young in
      let h : HoldsOn n (s.offset + 32 + s.len) old.taken y =
      row_kept (HoldsOn n (s.offset + 32 + s.len) old.taken) j c v s.file x y (holds_stand n (s.offset + 32 + s.len) old.taken v.today by_today) valid free other at then
      (record { in_pool = still.pool; within = still.within; emptied = still.emptied }) in
      record {
        pool = h.in_pool;
        sequential = subst (λ (k : ℕ). is_sequential k (effect c v).stores ≡ is_sequential k v.stores) still.pool (sequential_stays v (facts_of v valid) s.file x at c) ∙ still.sequential;
        within = h.within;
        emptied = subst (λ (t : ℕ). IfSome y.emptied (λ day. t ≤ day)) (sym low.taken) h.emptied;
        delayed = delays (row_at n v.stores.pools) refl;
      }
    where
      pool_there : is_some (row_at n v.stores.pools) ≡ true
      pool_there = subst (λ (k : ℕ). is_some (row_at k v.stores.pools) ≡ true) still.pool
          (each_there (λ (e : ℕ × Volume). is_some (pool e.1.pool v) ≡ true) s.file x v.stores.volumes at (all_of (λ (e : ℕ × Volume). is_some (pool e.1.pool v)) v.stores.volumes (facts_of v valid).volumes_cite))

      delays : (o : Option Pool) → row_at n v.stores.pools ≡ o → IfSome (row_at n (effect c v).stores.pools) (λ q. HasDelay q.settings.reuse_delay (lookup (is_at (nat_cmp n)) new.delays))
      delays None is = absurd (false≢true (sym (ap is_some is) ∙ pool_there))
      delays (Some p) is =
          delay_kept c v valid n s.file x at still.pool file old new before behind low p is
          (subst (λ (o : Option Pool). IfSome o (λ q. HasDelay q.settings.reuse_delay (lookup (is_at (nat_cmp n)) old.delays))) is still.delayed)

  -- no volume is made in the segment's file, where there is none
  abbrev pub NoneComes : Segment → Type 0
  NoneComes s = row_at s.file v.stores.volumes ≡ None → (k : ℕ) → BringsVolume s.file k c → ⊥

  one_left : (n : ℕ) (s : Segment) → NoneComes s → IsLeft v old n s → IsLeft (effect c v) new n s
  one_left n s apart (drawn, lies) = (below, go (row_at s.file v.stores.volumes) refl (row_at s.file (effect c v).stores.volumes) refl lies) where
    below : s.file < (effect c v).next_file
    below = let more = (draws_on c v).file in omega (arith, drawn, more)

    go : (o : Option Volume) → row_at s.file v.stores.volumes ≡ o → (r : Option Volume) → row_at s.file (effect c v).stores.volumes ≡ r → StillLies v old n s o → StillLies (effect c v) new n s r
    go o at None then h = tt
    go (Some x) at (Some y) then h = still_lies n s x y at then h
    go None at (Some y) then h =
        absurd (apart at y.pool (volume_new s.file c v y.pool (ap (λ (o : Option Volume). is_some (option_map (λ (w : Volume). w.pool) o)) at) (ap (option_map (λ (w : Volume). w.pool)) then)))

  each_left : (n : ℕ) (segments : List Segment) → AllByRecursion NoneComes segments → AllByRecursion (IsLeft v old n) segments → AllByRecursion (IsLeft (effect c v) new n) segments
  each_left n [] apart left = tt
  each_left n (s ∷ segments) apart left = (one_left n s apart.0 left.0, each_left n segments apart.1 left.1)

  -- what its copies need is there behind a transaction that makes no volume in the file of a segment of them
  pub provided_later : (t : Taken) → EachSequential (λ w r. AllByRecursion NoneComes r.segments) t.database → IsProvided v old t → IsProvided (effect c v) new t
  provided_later t apart has =
      both_sequential (λ w r. AllByRecursion NoneComes r.segments) (λ w r. AllByRecursion (IsLeft v old r.pool) r.segments) (λ w r. AllByRecursion (IsLeft (effect c v) new r.pool) r.segments)
      t.database (λ w r. each_left r.pool r.segments) apart has
