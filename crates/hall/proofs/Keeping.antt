-- What others hold isn't taken away by a transaction that isn't refused for it.
use Rattle.std.proofs.Common.{◌≡◌, ℕ, ◌+◌, ◌<◌, ◌≤◌, ◌^◌, ◌-◌, max, Bool, true, false, not, List, [], ◌∷◌, ◌++◌, Option, None, Some, is_some, refl, sym, ap, subst, ◌∙◌, arith}
use Rattle.std.specs.Prelude.{◌==◌, IfSome, nat_lt}
use Rattle.std.specs.List.{AllByRecursion, find, list_any}
use Rattle.std.specs.Option.{option_map_or}
use Rattle.std.proofs.lemmas.Bool.{eq-eqb, eqb-false, false≢true, ltb-true}
use Rattle.kinds.specs.declared.change.DefineOrDelete.TheVariants as two
use Rattle.kinds.specs.declared.change.ObjectChange.TheVariants as client
use Rattle.kinds.specs.declared.change.PoolChange.TheVariants as store
use Rattle.kinds.specs.declared.change.Verb.TheVariants as verb
use Rattle.kinds.specs.declared.pool.Access.{Access}
use Rattle.kinds.specs.declared.refusal.Refusal.TheVariants as refusal
use Rattle.kinds.specs.declared.refusal.Holder.TheVariants as holder
use Rattle.kinds.specs.Refusals.{refusal_of}
use Rattle.kinds.specs.declared.segment.Segment.{Segment}
use Rattle.entries.specs.declared.change.Change.{Change}
use Rattle.entries.specs.declared.change.Change.TheVariants as change
use Rattle.inventory_rows.specs.pool_rows.Changed as stores
use Rattle.inventory_rows.specs.pool_rows.PoolRows.{pool_named, volume_named}
use Rattle.inventory_rows.specs.State.{Inv}
use Rattle.inventory_rules.specs.Backups.{backup_at}
use Rattle.inventory_rules.specs.Common.{file_bound, files_refused}
use Rattle.inventory_rules.specs.Journal.{Journal}
use Rattle.inventory_rules.specs.Transactions.{causes}
use Rattle.inventory_laws.specs.Origins.{new_objects, placed_segments}
use Rattle.inventory_laws.proofs.Causes.{back_nil}
use Rattle.inventory_laws.proofs.Lists.{each_also, each_any, none_of}
use Rattle.inventory_laws.proofs.Tests.{unless_holds}
use Rattle.machine.specs.Causes.{is_plain}
use Rattle.machine.specs.Changes.{filled}
use Rattle.machine.specs.Machine.{file_drawn, has_file, held_by, held_refused, written_by}
use Rattle.machine.specs.State.{Core, Image, Ticket, inventory}
use Rattle.hall.specs.Covered.{IsVolume, is_any_reuse}
use Rattle.hall.proofs.DrawnNext.{DrawsBelow, KeepsBackup}
use Rattle.hall.proofs.Pairs.{none_found}
use Rattle.hall.proofs.PoolsStay.{KeepsPool}
use Rattle.hall.proofs.VolumesStay.{BringsVolume, KeepsVolume}

-- it neither reuses a volume nor begins or ends a backup
abbrev pub is_ordinary : Change → Bool
is_ordinary (change.Reuse file) = false
is_ordinary (change.DbBegin file after) = false
is_ordinary (change.DbEnd file) = false
is_ordinary _ = true

-- ---- held by tickets

pub none_held : (test : Ticket → Bool) (ts : List Ticket) → held_by test ts ≡ [] → AllByRecursion (λ t. test t ≡ false) ts
none_held test ts h = none_found test ts (go (find test ts) h) where
  go : (o : Option Ticket) → option_map_or (λ (t : Ticket). refusal.Busy (holder.Ticket t.number) ∷ []) o [] ≡ [] → o ≡ None
  go None h = refl
  go (Some t) h = absurd cc

named_held : (test : ℕ → Ticket → Bool) (ts : List Ticket) (o : Option ℕ) (k : ℕ) → option_map_or (λ it. held_by (test it) ts) o [] ≡ [] → o ≡ Some k → AllByRecursion (λ t. test k t ≡ false) ts
named_held test ts o k h at = none_held (test k) ts (subst (λ o. option_map_or (λ it. held_by (test it) ts) o [] ≡ []) at h)

-- for each number that a name has, no ticket passes
each_named : (test : ℕ → Ticket → Bool) (ts : List Ticket) (o : Option ℕ) → option_map_or (λ it. held_by (test it) ts) o [] ≡ [] → AllByRecursion (λ t. (k : ℕ) → o ≡ Some k → test k t ≡ false) ts
each_named test ts None h = each_any (λ t. (k : ℕ) → None ≡ Some k → test k t ≡ false) ts (λ t k at. absurd cc)
each_named test ts (Some n) h =
    each_also (λ t. test n t ≡ false) (λ t. (k : ℕ) → Some n ≡ Some k → test k t ≡ false) ts (λ t is k at. subst (λ k. test k t ≡ false) (same n k at) is) (none_held (test n) ts h)
  where
    same : (n k : ℕ) → Some n ≡ Some k → n ≡ k
    same n k at = cc

module _ (c : Core) where
  pub keeps_pools : (x : Change) → held_refused x c ≡ [] → AllByRecursion (λ t. KeepsPool t.place.pool x (inventory c)) c.tickets
  keeps_pools (change.Pool (store.Pool verb.Delete name class kind rule)) h =
      each_also (λ (t : Ticket). (k : ℕ) → pool_named name (inventory c).stores ≡ Some k → (t.place.pool == k) ≡ false) (λ t. (k : ℕ) → pool_named name (inventory c).stores ≡ Some k → k ≡ t.place.pool → ⊥) c.tickets
      (λ t isnt k at e. eqb-false t.place.pool k (isnt k at) (sym e)) (each_named (λ it t. t.place.pool == it) c.tickets (pool_named name (inventory c).stores) h)
  keeps_pools (change.Pool (store.Pool verb.Define name class kind rule)) h = each_any _ c.tickets (λ t. tt)
  keeps_pools (change.Pool (store.Pool verb.Update name class kind rule)) h = each_any _ c.tickets (λ t. tt)
  keeps_pools (change.Pool (store.Volume what name number k capacity access)) h = each_any _ c.tickets (λ t. tt)
  keeps_pools (change.Pool (store.DevClass what class capacity)) h = each_any _ c.tickets (λ t. tt)
  keeps_pools (change.Day day) h = each_any _ c.tickets (λ t. tt)
  keeps_pools (change.Policy x) h = each_any _ c.tickets (λ t. tt)
  keeps_pools (change.Object x) h = each_any _ c.tickets (λ t. tt)
  keeps_pools (change.Backup x) h = each_any _ c.tickets (λ t. tt)
  keeps_pools (change.Hold x) h = each_any _ c.tickets (λ t. tt)
  keeps_pools (change.Rebind x) h = each_any _ c.tickets (λ t. tt)
  keeps_pools (change.Gone x) h = each_any _ c.tickets (λ t. tt)
  keeps_pools (change.Move x) h = each_any _ c.tickets (λ t. tt)
  keeps_pools (change.Copy x) h = each_any _ c.tickets (λ t. tt)
  keeps_pools (change.DropCopies x) h = each_any _ c.tickets (λ t. tt)
  keeps_pools (change.Expire x) h = each_any _ c.tickets (λ t. tt)
  keeps_pools (change.Discard x) h = each_any _ c.tickets (λ t. tt)
  keeps_pools (change.Reuse k) h = each_any _ c.tickets (λ t. tt)
  keeps_pools (change.DbBegin k after) h = each_any _ c.tickets (λ t. tt)
  keeps_pools (change.DbEnd k) h = each_any _ c.tickets (λ t. tt)
  keeps_pools (change.DbDelete k) h = each_any _ c.tickets (λ t. tt)

  -- what is asked of one segment
  abbrev Kept : Change → Segment → Type 0
  Kept x s = KeepsVolume s.file x (inventory c) × KeepsBackup s.file x

  plain_kept : (x : Change) → ((s : Segment) → Kept x s) → AllByRecursion (λ (t : Ticket). AllByRecursion (Kept x) t.place.segments) c.tickets
  plain_kept x all = each_any (λ (t : Ticket). AllByRecursion (Kept x) t.place.segments) c.tickets (λ t. each_any (Kept x) t.place.segments all)

  pub keeps_volumes : (j : Journal) (x : Change) → held_refused x c ≡ [] → causes j x (inventory c) ≡ [] → is_ordinary x ≡ true → AllByRecursion (λ (t : Ticket). AllByRecursion (λ s. IsVolume c s.file) t.place.segments) c.tickets
      → AllByRecursion (λ (t : Ticket). AllByRecursion (λ s. KeepsVolume s.file x (inventory c) × KeepsBackup s.file x) t.place.segments) c.tickets
  keeps_volumes j (change.Pool (store.Volume verb.Delete name number file capacity access)) h cause ordinary volumes =
      each_also (λ (t : Ticket). (k : ℕ) → volume_named name (inventory c).stores ≡ Some k → has_file k t ≡ false) (λ (t : Ticket). AllByRecursion (Kept (change.Pool (store.Volume verb.Delete name number file capacity access))) t.place.segments) c.tickets
      (λ t isnt. each_of_segments t.place.segments (λ k at. isnt k at)) (each_named (λ it t. has_file it t) c.tickets (volume_named name (inventory c).stores) h)
    where
      each_of_segments : (segments : List Segment) → ((k : ℕ) → volume_named name (inventory c).stores ≡ Some k → list_any (λ (s : Segment). s.file == k) segments ≡ false)
          → AllByRecursion (Kept (change.Pool (store.Volume verb.Delete name number file capacity access))) segments
      each_of_segments segments isnt = go segments (λ k at. none_of (λ (s : Segment). s.file == k) segments (isnt k at)) where
        go : (list : List Segment) → ((k : ℕ) → volume_named name (inventory c).stores ≡ Some k → AllByRecursion (λ (s : Segment). (s.file == k) ≡ false) list)
            → AllByRecursion (Kept (change.Pool (store.Volume verb.Delete name number file capacity access))) list
        go [] all = tt
        go (s ∷ list) all = (((λ k at e. eqb-false s.file k (all k at).0 (sym e)), tt), go list (λ k at. (all k at).1))
  keeps_volumes j (change.DbDelete k) h cause ordinary volumes =
      each_also (λ (t : Ticket). AllByRecursion (λ s. IsVolume c s.file) t.place.segments) (λ (t : Ticket). AllByRecursion (Kept (change.DbDelete k)) t.place.segments) c.tickets
      (λ t all. each_also (λ s. IsVolume c s.file) (Kept (change.DbDelete k)) t.place.segments
      (λ s v. (tt, λ e. false≢true (sym (ap is_some (subst (λ f. backup_at f (inventory c) ≡ None) (sym e) v.2)) ∙ unless_holds (is_some (backup_at k (inventory c))) refusal.NotFound cause))) all) volumes
  keeps_volumes j (change.Reuse k) h cause ordinary volumes = absurd (false≢true ordinary)
  keeps_volumes j (change.DbBegin k after) h cause ordinary volumes = absurd (false≢true ordinary)
  keeps_volumes j (change.Pool (store.Volume verb.Define name number file capacity access)) h cause ordinary volumes = plain_kept (change.Pool (store.Volume verb.Define name number file capacity access)) (λ s. (tt, tt))
  keeps_volumes j (change.Pool (store.Volume verb.Update name number file capacity access)) h cause ordinary volumes = plain_kept (change.Pool (store.Volume verb.Update name number file capacity access)) (λ s. (tt, tt))
  keeps_volumes j (change.Pool (store.Pool what name class kind rule)) h cause ordinary volumes = plain_kept (change.Pool (store.Pool what name class kind rule)) (λ s. (tt, tt))
  keeps_volumes j (change.Pool (store.DevClass what class capacity)) h cause ordinary volumes = plain_kept (change.Pool (store.DevClass what class capacity)) (λ s. (tt, tt))
  keeps_volumes j (change.Day day) h cause ordinary volumes = plain_kept (change.Day day) (λ s. (tt, tt))
  keeps_volumes j (change.Policy x) h cause ordinary volumes = plain_kept (change.Policy x) (λ s. (tt, tt))
  keeps_volumes j (change.Object x) h cause ordinary volumes = plain_kept (change.Object x) (λ s. (tt, tt))
  keeps_volumes j (change.Backup x) h cause ordinary volumes = plain_kept (change.Backup x) (λ s. (tt, tt))
  keeps_volumes j (change.Hold x) h cause ordinary volumes = plain_kept (change.Hold x) (λ s. (tt, tt))
  keeps_volumes j (change.Rebind x) h cause ordinary volumes = plain_kept (change.Rebind x) (λ s. (tt, tt))
  keeps_volumes j (change.Gone x) h cause ordinary volumes = plain_kept (change.Gone x) (λ s. (tt, tt))
  keeps_volumes j (change.Move x) h cause ordinary volumes = plain_kept (change.Move x) (λ s. (tt, tt))
  keeps_volumes j (change.Copy x) h cause ordinary volumes = plain_kept (change.Copy x) (λ s. (tt, tt))
  keeps_volumes j (change.DropCopies x) h cause ordinary volumes = plain_kept (change.DropCopies x) (λ s. (tt, tt))
  keeps_volumes j (change.Expire x) h cause ordinary volumes = plain_kept (change.Expire x) (λ s. (tt, tt))
  keeps_volumes j (change.Discard x) h cause ordinary volumes = plain_kept (change.Discard x) (λ s. (tt, tt))
  keeps_volumes j (change.DbEnd k) h cause ordinary volumes = absurd (false≢true ordinary)

  -- ---- the image that is written

  any_image : (x : Change) (o : Option Image) → ((i : Image) → KeepsBackup i.file x) → IfSome o (λ i. KeepsBackup i.file x)
  any_image x None all = tt
  any_image x (Some i) all = all i

  pub keeps_image : (x : Change) → held_refused x c ≡ [] → is_ordinary x ≡ true → IfSome c.image (λ i. KeepsBackup i.file x)
  keeps_image (change.DbDelete k) h ordinary = go c.image h where
    go : (o : Option Image) → written_by k o ≡ [] → IfSome o (λ i. k ≡ i.file → ⊥)
    go None h = tt
    go (Some i) h = λ e. false≢true (sym (ap not (eq-eqb i.file k (sym e))) ∙ unless_holds (not (i.file == k)) (refusal.Busy (holder.Image i.actor)) h)
  keeps_image (change.Reuse k) h ordinary = absurd (false≢true ordinary)
  keeps_image (change.DbBegin k after) h ordinary = absurd (false≢true ordinary)
  keeps_image (change.Day day) h ordinary = any_image (change.Day day) c.image (λ i. tt)
  keeps_image (change.Policy x) h ordinary = any_image (change.Policy x) c.image (λ i. tt)
  keeps_image (change.Object x) h ordinary = any_image (change.Object x) c.image (λ i. tt)
  keeps_image (change.Pool x) h ordinary = any_image (change.Pool x) c.image (λ i. tt)
  keeps_image (change.Backup x) h ordinary = any_image (change.Backup x) c.image (λ i. tt)
  keeps_image (change.Hold x) h ordinary = any_image (change.Hold x) c.image (λ i. tt)
  keeps_image (change.Rebind x) h ordinary = any_image (change.Rebind x) c.image (λ i. tt)
  keeps_image (change.Gone x) h ordinary = any_image (change.Gone x) c.image (λ i. tt)
  keeps_image (change.Move x) h ordinary = any_image (change.Move x) c.image (λ i. tt)
  keeps_image (change.Copy x) h ordinary = any_image (change.Copy x) c.image (λ i. tt)
  keeps_image (change.DropCopies x) h ordinary = any_image (change.DropCopies x) c.image (λ i. tt)
  keeps_image (change.Expire x) h ordinary = any_image (change.Expire x) c.image (λ i. tt)
  keeps_image (change.Discard x) h ordinary = any_image (change.Discard x) c.image (λ i. tt)
  keeps_image (change.DbEnd k) h ordinary = absurd (false≢true ordinary)

-- ---- a change that comes from no ticket

-- what a plain change that draws the next file number brings
pub record IsPlainFrom (next : ℕ) (v : Inv) (x : Change) : Type 0 where
  pub objects : new_objects x ≡ []
  pub places : placed_segments x ≡ []
  pub reuse : is_any_reuse x ≡ false
  pub ordinary : is_ordinary x ≡ true
  pub draws : (m : ℕ) → DrawsBelow (file_drawn x next) m x
  pub further : next ≤ file_drawn x next
  pub files : (file pool : ℕ) → BringsVolume file pool x → next ≤ file
  pub bound : (j : Journal) → causes j x v ≡ [] → next < 2 ^ 32 → file_drawn x next < 2 ^ 32

drawn_bound : (j : Journal) (name : List ℕ) (number k capacity : ℕ) (access : Access) (v : Inv) → causes j (change.Pool (store.Volume verb.Define name number k capacity access)) v ≡ [] → max k (k + 1) < 2 ^ 32
drawn_bound j name number k capacity access v cause =
    let bound = back_nil (files_refused (k ∷ []) v) (file_bound k v) (back_nil (refusal_of (stores.changed (store.Volume verb.Define name number k capacity access) v.next_pool v.stores)) (files_refused (k ∷ []) v ++ file_bound k v) cause) in
    let low : max v.next_file (k + 1) < 2 ^ 32 - 1 = ltb-true (max v.next_file (k + 1)) (2 ^ 32 - 1) (unless_holds (nat_lt (max v.next_file (k + 1)) (2 ^ 32 - 1)) refusal.InventoryFull bound) in
    omega (arith, low)

pub plain_from : (next : ℕ) (v : Inv) (x : Change) → is_plain x ≡ true → IsPlainFrom next v (filled next v x)
plain_from next v (change.Pool (store.Volume verb.Define name number k capacity access)) plain = record {
  objects = refl;
  places = refl;
  reuse = refl;
  ordinary = refl;
  draws = λ m. omega arith;
  further = omega arith;
  files = λ file pool is. omega (arith, is);
  bound = λ j cause low. drawn_bound j name number next capacity access v cause;
}
plain_from next v (change.Pool (store.Volume verb.Update name number k capacity access)) plain = record { objects = refl; places = refl; reuse = refl; ordinary = refl; draws = λ m. tt; further = omega arith; files = λ file pool no. absurd no; bound = λ j cause low. low }
plain_from next v (change.Pool (store.Volume verb.Delete name number k capacity access)) plain = record { objects = refl; places = refl; reuse = refl; ordinary = refl; draws = λ m. tt; further = omega arith; files = λ file pool no. absurd no; bound = λ j cause low. low }
plain_from next v (change.Pool (store.Pool what name class kind rule)) plain = record { objects = refl; places = refl; reuse = refl; ordinary = refl; draws = λ m. tt; further = omega arith; files = λ file pool no. absurd no; bound = λ j cause low. low }
plain_from next v (change.Pool (store.DevClass what class capacity)) plain = record { objects = refl; places = refl; reuse = refl; ordinary = refl; draws = λ m. tt; further = omega arith; files = λ file pool no. absurd no; bound = λ j cause low. low }
plain_from next v (change.Object (client.Node what name domain)) plain = record { objects = refl; places = refl; reuse = refl; ordinary = refl; draws = λ m. tt; further = omega arith; files = λ file pool no. absurd no; bound = λ j cause low. low }
plain_from next v (change.Object (client.Filespace two.Define node name k)) plain = record { objects = refl; places = refl; reuse = refl; ordinary = refl; draws = λ m. tt; further = omega arith; files = λ file pool no. absurd no; bound = λ j cause low. low }
plain_from next v (change.Object (client.Filespace two.Delete node name k)) plain = record { objects = refl; places = refl; reuse = refl; ordinary = refl; draws = λ m. tt; further = omega arith; files = λ file pool no. absurd no; bound = λ j cause low. low }
plain_from next v (change.Day day) plain = record { objects = refl; places = refl; reuse = refl; ordinary = refl; draws = λ m. tt; further = omega arith; files = λ file pool no. absurd no; bound = λ j cause low. low }
plain_from next v (change.Policy x) plain = record { objects = refl; places = refl; reuse = refl; ordinary = refl; draws = λ m. tt; further = omega arith; files = λ file pool no. absurd no; bound = λ j cause low. low }
plain_from next v (change.Rebind x) plain = record { objects = refl; places = refl; reuse = refl; ordinary = refl; draws = λ m. tt; further = omega arith; files = λ file pool no. absurd no; bound = λ j cause low. low }
plain_from next v (change.Gone x) plain = record { objects = refl; places = refl; reuse = refl; ordinary = refl; draws = λ m. tt; further = omega arith; files = λ file pool no. absurd no; bound = λ j cause low. low }
plain_from next v (change.DropCopies x) plain = record { objects = refl; places = refl; reuse = refl; ordinary = refl; draws = λ m. tt; further = omega arith; files = λ file pool no. absurd no; bound = λ j cause low. low }
plain_from next v (change.Expire x) plain = record { objects = refl; places = refl; reuse = refl; ordinary = refl; draws = λ m. tt; further = omega arith; files = λ file pool no. absurd no; bound = λ j cause low. low }
plain_from next v (change.Discard x) plain = record { objects = refl; places = refl; reuse = refl; ordinary = refl; draws = λ m. tt; further = omega arith; files = λ file pool no. absurd no; bound = λ j cause low. low }
plain_from next v (change.DbDelete k) plain = record { objects = refl; places = refl; reuse = refl; ordinary = refl; draws = λ m. tt; further = omega arith; files = λ file pool no. absurd no; bound = λ j cause low. low }
plain_from next v (change.Backup x) plain = absurd (false≢true plain)
plain_from next v (change.Hold x) plain = absurd (false≢true plain)
plain_from next v (change.Move x) plain = absurd (false≢true plain)
plain_from next v (change.Copy x) plain = absurd (false≢true plain)
plain_from next v (change.Reuse k) plain = absurd (false≢true plain)
plain_from next v (change.DbBegin k after) plain = absurd (false≢true plain)
plain_from next v (change.DbEnd k) plain = absurd (false≢true plain)
