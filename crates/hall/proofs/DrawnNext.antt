-- The file and object numbers that are drawn next, and which database backups are listed, over a transaction.
use Rattle.std.proofs.Common.{◌≡◌, ℕ, ◌+◌, ◌<◌, ◌≤◌, max, true, false, cond, List, [], ◌∷◌, Option, None, Some, is_some, refl, sym, ap, subst, ◌∙◌, arith}
use Rattle.std.specs.List.{AllByRecursion}
use Rattle.std.specs.BTreeMap.{is_at}
use Rattle.std.specs.Map.{lookup}
use Rattle.std.specs.Ordering.{nat_cmp}
use Rattle.kinds.specs.declared.change.DefineOrDelete.TheVariants as two
use Rattle.kinds.specs.declared.change.ObjectChange.{ObjectChange}
use Rattle.kinds.specs.declared.change.ObjectChange.TheVariants as client
use Rattle.kinds.specs.declared.change.PoolChange.{PoolChange}
use Rattle.kinds.specs.declared.change.PoolChange.TheVariants as store
use Rattle.kinds.specs.declared.change.Verb.TheVariants as verb
use Rattle.kinds.specs.declared.segment.Segment.{Segment}
use Rattle.entries.specs.change_items.declared.items.NewHeldObject.{NewHeldObject}
use Rattle.entries.specs.change_items.declared.items.NewVersion.{NewVersion}
use Rattle.entries.specs.change_items.declared.items.ScratchVolume.{ScratchVolume}
use Rattle.entries.specs.declared.change.Change.{Change}
use Rattle.entries.specs.declared.change.Change.TheVariants as change
use Rattle.inventory_rows.specs.Delays.{lowered}
use Rattle.inventory_rows.specs.declared.backup.Backup.{Backup}
use Rattle.inventory_rows.specs.version_groups.declared.copies.CopyRow.{CopyRow}
use Rattle.inventory_rows.specs.State.{Inv}
use Rattle.inventory_rules.specs.Backups.{backup_at, backup_ended, is_unfinished}
use Rattle.inventory_rules.specs.Clients.{client_changed}
use Rattle.inventory_rules.specs.Common.{each}
use Rattle.inventory_rules.specs.Copies.{add_copy, added, change_copy, drop_copy, move_copy, put_moved, segments_in, version_at}
use Rattle.inventory_rules.specs.Segments.{make_scratch, put, take_all, take_away}
use Rattle.inventory_rules.specs.Stores.{backups_lowered, store_changed}
use Rattle.inventory_rules.specs.Transactions.{OnlyData, changed, effect}
use Rattle.inventory_rules.specs.Versions.{back_up, copies_at, discard, expire, held_too, hold, inserted, mark_gone, rebind}
use Rattle.inventory_rules.proofs.Touched.{effect-data}
use Rattle.inventory_rows.proofs.of_pool_tables.Counting.{apart_at, at_is}
use Rattle.inventory_laws.proofs.Gone.{lookup-beside_removed, lookup-beside_set}
use Rattle.inventory_laws.proofs.Stays.{row_at-inserted_other}

-- ---- numbers

-- the files and objects that a change draws are below these
abbrev pub DrawsBelow : (file object : ℕ) → Change → Type 0
DrawsBelow n m (change.Backup c) = AllByRecursion (λ (s : ScratchVolume). s.file < n) c.scratch × AllByRecursion (λ (i : NewVersion). i.object < m) c.items
DrawsBelow n m (change.Hold c) = AllByRecursion (λ (s : ScratchVolume). s.file < n) c.scratch × AllByRecursion (λ (i : NewHeldObject). i.object < m) c.items
DrawsBelow n m (change.Move c) = AllByRecursion (λ (s : ScratchVolume). s.file < n) c.scratch
DrawsBelow n m (change.Copy c) = AllByRecursion (λ (s : ScratchVolume). s.file < n) c.scratch
DrawsBelow n m (change.Pool (store.Volume verb.Define name number k capacity access)) = k < n
DrawsBelow n m (change.DbBegin k after) = k < n
DrawsBelow n m _ = Unit {0}

module _ (n m : ℕ) where
  -- neither is greater
  abbrev NoMore : Inv → Type 0
  NoMore v = (v.next_file ≤ n) × (v.next_object ≤ m)

  each_no_more : {X : Type 0} (step : X → Inv → Inv) (xs : List X) → ((x : X) (v : Inv) → NoMore v → NoMore (step x v)) → (v : Inv) → NoMore v → NoMore (each step xs v)
  each_no_more step [] one v h = h
  each_no_more step (x ∷ xs) one v h = each_no_more step xs one (step x v) (one x v h)

  each_below : {X : Type 0} (P : X → Type 0) (step : X → Inv → Inv) (xs : List X) → ((x : X) (v : Inv) → P x → NoMore v → NoMore (step x v)) → AllByRecursion P xs → (v : Inv) → NoMore v
      → NoMore (each step xs v)
  each_below P step [] one all v h = h
  each_below P step (x ∷ xs) one all v h = each_below P step xs one all.1 (step x v) (one x v all.0 h)

  put_no_more : (object : ℕ) (segments : List Segment) (v : Inv) → NoMore v → NoMore (put object segments v)
  put_no_more object [] v h = h
  put_no_more object (s ∷ segments) v h = put_no_more object segments (put object (s ∷ []) v) h

  taken_no_more : (object : ℕ) (segments : List Segment) (v : Inv) → NoMore v → NoMore (take_away object segments v)
  taken_no_more object [] v h = h
  taken_no_more object (s ∷ segments) v h = taken_no_more object segments (take_away object (s ∷ []) v) h

  all_taken_no_more : (object : ℕ) (copies : List CopyRow) (v : Inv) → NoMore v → NoMore (take_all object copies v)
  all_taken_no_more object [] v h = h
  all_taken_no_more object (x ∷ copies) v h = all_taken_no_more object copies (take_away object x.segments v) (taken_no_more object x.segments v h)

  max_below : (a b k : ℕ) → a ≤ k → b < k → max a (b + 1) ≤ k
  max_below a b k h l = omega (arith, h, l)

  scratches_no_more : (scratch : List ScratchVolume) (v : Inv) → AllByRecursion (λ (s : ScratchVolume). s.file < n) scratch → NoMore v → NoMore (each make_scratch scratch v)
  scratches_no_more scratch v below h =
      each_below (λ (s : ScratchVolume). s.file < n) make_scratch scratch (λ s w l is. (max_below w.next_file s.file n is.0 l, is.1)) below v h

  clients_no_more : (x : ObjectChange) (v : Inv) → NoMore v → NoMore (client_changed x v)
  clients_no_more (client.Node two.Define name domain) v h = h
  clients_no_more (client.Node two.Delete name domain) v h = h
  clients_no_more (client.Filespace two.Define node name k) v h = h
  clients_no_more (client.Filespace two.Delete node name k) v h = h

  stores_no_more : (x : PoolChange) (v : Inv) → DrawsBelow n m (change.Pool x) → NoMore v → NoMore (store_changed x v)
  stores_no_more (store.DevClass what name capacity) v d h = h
  stores_no_more (store.Pool verb.Define name class kind rule) v d h = h
  stores_no_more (store.Pool verb.Update name class kind rule) v d h = h
  stores_no_more (store.Pool verb.Delete name class kind rule) v d h = h
  stores_no_more (store.Volume verb.Define name number k capacity access) v d h = (max_below v.next_file k n h.0 d, h.1)
  stores_no_more (store.Volume verb.Update name number k capacity access) v d h = h
  stores_no_more (store.Volume verb.Delete name number k capacity access) v d h = h

  changed_no_more : (x : Change) (v : Inv) → DrawsBelow n m x → NoMore v → NoMore (changed x v)
  changed_no_more (change.Day day) v d h = h
  changed_no_more (change.Policy x) v d h = h
  changed_no_more (change.Object x) v d h = clients_no_more x v h
  changed_no_more (change.Pool x) v d h = stores_no_more x v d h
  changed_no_more (change.Backup x) v d h =
      each_below (λ (i : NewVersion). i.object < m) (back_up x.filespace) x.items
      (λ i w l is. put_no_more i.object i.segments (inserted x.filespace i w) (is.0, max_below w.next_object i.object m is.1 l)) d.1
      (each make_scratch x.scratch v) (scratches_no_more x.scratch v d.0 h)
  changed_no_more (change.Hold x) v d h =
      each_below (λ (i : NewHeldObject). i.object < m) (hold x.filespace) x.items
      (λ i w l is. put_no_more i.object i.segments (held_too x.filespace i w) (is.0, max_below w.next_object i.object m is.1 l)) d.1
      (each make_scratch x.scratch v) (scratches_no_more x.scratch v d.0 h)
  changed_no_more (change.Rebind x) v d h = each_no_more (rebind x.filespace) x.items (λ i w is. is) v h
  changed_no_more (change.Gone x) v d h = each_no_more (mark_gone x.filespace) x.items (λ i w is. is) v h
  changed_no_more (change.Move x) v d h =
      each_no_more move_copy x.items (λ i w is. taken_no_more i.object (segments_in i.from (version_at i.object w)) w is) (each put_moved x.items (each make_scratch x.scratch v))
      (each_no_more put_moved x.items (λ i w is. put_no_more i.object i.segments w is) (each make_scratch x.scratch v) (scratches_no_more x.scratch v d h))
  changed_no_more (change.Copy x) v d h = each_no_more add_copy x.items (λ i w is. put_no_more i.object i.segments (change_copy i.object (added i w) w) is) (each make_scratch x.scratch v)
      (scratches_no_more x.scratch v d h)
  changed_no_more (change.DropCopies x) v d h = each_no_more drop_copy x.items (λ i w is. taken_no_more i.object (segments_in i.pool (version_at i.object w)) w is) v h
  changed_no_more (change.Expire x) v d h = each_no_more (expire x.filespace) x.items (λ i w is. all_taken_no_more i.object (copies_at i.object w) w is) v h
  changed_no_more (change.Discard x) v d h = each_no_more discard x.items (λ i w is. all_taken_no_more i.object (copies_at i.object w) w is) v h
  changed_no_more (change.Reuse k) v d h = h
  changed_no_more (change.DbBegin k after) v d h = (max_below v.next_file k n h.0 d, h.1)
  changed_no_more (change.DbEnd k) v d h = h
  changed_no_more (change.DbDelete k) v d h = h

  pub draws_below : (c : Change) (v : Inv) → DrawsBelow n m c → v.next_file ≤ n → v.next_object ≤ m → ((effect c v).next_file ≤ n) × ((effect c v).next_object ≤ m)
  unfolding effect
  draws_below c v d f o = changed_no_more c v d (f, o)

-- ---- backups

-- the change neither lists nor ends nor takes off the list the backup in this file
abbrev pub KeepsBackup : ℕ → Change → Type 0
KeepsBackup file (change.DbBegin k after) = k ≡ file → ⊥
KeepsBackup file (change.DbEnd k) = k ≡ file → ⊥
KeepsBackup file (change.DbDelete k) = k ≡ file → ⊥
KeepsBackup file _ = Unit {0}

-- What holds of a row and itself, and of one and that with its least delays lowered.
module _ (R : Option Backup → Option Backup → Type 0) (same : (o : Option Backup) → R o o) (lower : (b : Backup) (pool delay : ℕ) → R (Some b) (Some (record b { delays = lowered pool delay b.delays }))) (file : ℕ) where
  abbrev found : List (ℕ × Backup) → Option Backup
  found backups = lookup (is_at (nat_cmp file)) backups

  abbrev Alike : (old new : List (ℕ × Backup)) → Type 0
  Alike old new = R (found old) (found new)

  as_found : (old new : List (ℕ × Backup)) → found new ≡ found old → Alike old new
  as_found old new is = subst (R (found old)) (sym is) (same (found old))

  lowered_so : (pool : Option ℕ) (delay : ℕ) (backups : List (ℕ × Backup)) → Alike backups (backups_lowered pool delay backups)
  lowered_so None delay backups = same (found backups)
  lowered_so (Some pool) delay [] = same None
  lowered_so (Some pool) delay (b ∷ backups) = elim (is_at (nat_cmp file) b.0) as
      (λ t. R (cond t (Some b.1) (found backups)) (cond t (Some (record b.1 { delays = lowered pool delay b.1.delays })) (found (backups_lowered (Some pool) delay backups)))) [
        | true ↦ lower b.1 pool delay
        | false ↦ lowered_so (Some pool) delay backups
      ]

  stores_listed : (x : PoolChange) (v : Inv) → Alike v.backups (store_changed x v).backups
  stores_listed (store.DevClass what name capacity) v = same (found v.backups)
  stores_listed (store.Pool verb.Define name class kind rule) v = same (found v.backups)
  stores_listed (store.Pool verb.Update name class kind rule) v = lowered_so _ rule.reuse_delay v.backups
  stores_listed (store.Pool verb.Delete name class kind rule) v = same (found v.backups)
  stores_listed (store.Volume verb.Define name number k capacity access) v = same (found v.backups)
  stores_listed (store.Volume verb.Update name number k capacity access) v = same (found v.backups)
  stores_listed (store.Volume verb.Delete name number k capacity access) v = same (found v.backups)

  clients_listed : (x : ObjectChange) (v : Inv) → Alike v.backups (client_changed x v).backups
  clients_listed (client.Node two.Define name domain) v = same (found v.backups)
  clients_listed (client.Node two.Delete name domain) v = same (found v.backups)
  clients_listed (client.Filespace two.Define node name k) v = same (found v.backups)
  clients_listed (client.Filespace two.Delete node name k) v = same (found v.backups)

  of_data : (v w : Inv) → OnlyData v w → Alike v.backups w.backups
  of_data v w o = as_found v.backups w.backups (ap found o.backups)

  beside : (k : ℕ) → (k ≡ file → ⊥) → (q : ℕ) → is_at (nat_cmp k) q ≡ true → is_at (nat_cmp file) q ≡ false
  beside k ne q here = apart_at file q (λ e. ne (at_is k q here ∙ sym e))

  ended_so : (k : ℕ) (o : Option Backup) (backups : List (ℕ × Backup)) → (k ≡ file → ⊥) → Alike backups (backup_ended k o backups)
  ended_so k None backups ne = same (found backups)
  ended_so k (Some b) backups ne = as_found backups (backup_ended k (Some b) backups) (lookup-beside_set (is_at (nat_cmp k)) (is_at (nat_cmp file)) (beside k ne) (record b { is_done = true }) backups)

  -- the row behind a change that keeps it, beside that before it
  pub row_so : (c : Change) (v : Inv) → KeepsBackup file c → R (backup_at file v) (backup_at file (effect c v))
  unfolding effect
  row_so (change.Day day) v keeps = same (found v.backups)
  row_so (change.Policy x) v keeps = same (found v.backups)
  row_so (change.Object x) v keeps = clients_listed x v
  row_so (change.Pool x) v keeps = stores_listed x v
  row_so (change.Backup x) v keeps = of_data v (effect (change.Backup x) v) (effect-data (change.Backup x) v refl)
  row_so (change.Hold x) v keeps = of_data v (effect (change.Hold x) v) (effect-data (change.Hold x) v refl)
  row_so (change.Rebind x) v keeps = of_data v (effect (change.Rebind x) v) (effect-data (change.Rebind x) v refl)
  row_so (change.Gone x) v keeps = of_data v (effect (change.Gone x) v) (effect-data (change.Gone x) v refl)
  row_so (change.Move x) v keeps = of_data v (effect (change.Move x) v) (effect-data (change.Move x) v refl)
  row_so (change.Copy x) v keeps = of_data v (effect (change.Copy x) v) (effect-data (change.Copy x) v refl)
  row_so (change.DropCopies x) v keeps = of_data v (effect (change.DropCopies x) v) (effect-data (change.DropCopies x) v refl)
  row_so (change.Expire x) v keeps = of_data v (effect (change.Expire x) v) (effect-data (change.Expire x) v refl)
  row_so (change.Discard x) v keeps = of_data v (effect (change.Discard x) v) (effect-data (change.Discard x) v refl)
  row_so (change.Reuse k) v keeps = of_data v (effect (change.Reuse k) v) (effect-data (change.Reuse k) v refl)
  row_so (change.DbBegin k after) v keeps = as_found v.backups _ (row_at-inserted_other k file _ v.backups keeps)
  row_so (change.DbEnd k) v keeps = ended_so k (lookup (is_at (nat_cmp k)) v.backups) v.backups keeps
  row_so (change.DbDelete k) v keeps = as_found v.backups _ (lookup-beside_removed (is_at (nat_cmp k)) (is_at (nat_cmp file)) (beside k keeps) v.backups)

-- it is listed behind a change that keeps it exactly where it was
pub backup_so : (file : ℕ) (c : Change) (v : Inv) → KeepsBackup file c → is_some (backup_at file (effect c v)) ≡ is_some (backup_at file v)
backup_so file c v keeps = row_so (λ a b. is_some b ≡ is_some a) (λ o. refl) (λ b pool delay. refl) file c v keeps

-- and exactly then it isn't whole yet
pub unfinished_so : (file : ℕ) (c : Change) (v : Inv) → KeepsBackup file c → is_unfinished (backup_at file (effect c v)) ≡ is_unfinished (backup_at file v)
unfinished_so file c v keeps = row_so (λ a b. is_unfinished b ≡ is_unfinished a) (λ o. refl) (λ b pool delay. refl) file c v keeps
