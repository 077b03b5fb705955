-- Why the machine refuses steps: a transaction that brings no items is refused as a database is full only for a bound of it, and nothing has to be waited for where nothing is held.
use Rattle.std.proofs.Common.{◌≡◌, ◌⊎◌, inl, inr, ℕ, ◌+◌, ◌-◌, ◌^◌, ◌<◌, ◌≤◌, ◌==◌, ◌||◌, not, nat_le, nat_lt, is_some, Bool, true, false, if◌then◌else◌, List, [], ◌∷◌, ◌++◌, map, Option, None, Some, Result, Ok, Err, refl, sym, ap, subst, arith}
use Rattle.std.proofs.lemmas.Bool.{leb-false, leb-true, ltb-false}
use Rattle.std.proofs.lemmas.Option.{same_Some}
use Rattle.std.specs.List.{AllByRecursion, find, flat_map}
use Rattle.std.specs.Map.{remove_entry}
use Rattle.std.specs.Option.{option_map_or}
use Rattle.kinds.specs.Least.{lesser}
use Rattle.kinds.specs.Names.{is_same_name}
use Rattle.kinds.specs.Refusals.{bad_value, foremost, refusal_of, unless}
use Rattle.kinds.specs.declared.change.DefineOrDelete.TheVariants as two
use Rattle.kinds.specs.declared.change.ObjectChange.TheVariants as client
use Rattle.kinds.specs.declared.change.PoolChange.TheVariants as store
use Rattle.kinds.specs.declared.change.Verb.TheVariants as verb
use Rattle.kinds.specs.declared.pool.Access.{Access}
use Rattle.kinds.specs.declared.refusal.By.{By}
use Rattle.kinds.specs.declared.refusal.By.TheVariants as by
use Rattle.kinds.specs.declared.refusal.Holder.{Holder}
use Rattle.kinds.specs.declared.refusal.Holder.TheVariants as holder
use Rattle.kinds.specs.declared.refusal.Refusal.{Refusal}
use Rattle.kinds.specs.declared.refusal.Refusal.TheVariants as refused
use Rattle.kinds.specs.declared.segment.Digest.{Digest}
use Rattle.entries.specs.change_items.declared.items.DiscardedVersion.{DiscardedVersion}
use Rattle.entries.specs.change_items.declared.items.DroppedCopy.{DroppedCopy}
use Rattle.entries.specs.change_items.declared.items.NamedVersion.{NamedVersion}
use Rattle.entries.specs.change_items.declared.reasons.DiscardReason.{DiscardReason}
use Rattle.entries.specs.change_items.declared.reasons.DiscardReason.TheVariants as because
use Rattle.entries.specs.change_items.declared.reasons.DropReason.{DropReason}
use Rattle.entries.specs.change_items.declared.reasons.DropReason.TheVariants as since
use Rattle.entries.specs.change_items.declared.lists.DiscardedVersions.{DiscardedVersions}
use Rattle.entries.specs.change_items.declared.lists.DroppedCopies.{DroppedCopies}
use Rattle.entries.specs.change_items.declared.lists.NamedVersions.{NamedVersions}
use Rattle.entries.specs.declared.change.Change.{Change}
use Rattle.entries.specs.declared.change.Change.TheVariants as change
use Rattle.inventory_rows.specs.Items.{count_items, most_items}
use Rattle.inventory_rows.specs.State.{Inv}
use Rattle.inventory_rows.specs.object_rows.Changes as spaces
use Rattle.inventory_rows.specs.object_rows.Changes.{by_object, filespaces_without, least_in, rows_changed, unless_used}
use Rattle.inventory_rows.specs.object_rows.Filespaces.{at_number, filespace_at}
use Rattle.inventory_rows.specs.object_rows.Rows.{Rows, with_filespaces}
use Rattle.inventory_rows.specs.pool_rows.Changes.{delete_filed, delete_volume, object_on, unless_held}
use Rattle.inventory_rows.specs.pool_rows.PoolRows.{PoolRows, volume_named}
use Rattle.inventory_rows.specs.pool_rows.Segments.{delay_of, reuse_row}
use Rattle.inventory_rows.specs.pool_rows.PoolRows.{is_sequential_at}
use Rattle.inventory_rows.specs.pool_tables.Rows.{row_at}
use Rattle.inventory_rows.specs.version_groups.Entries.{if_found}
use Rattle.inventory_rows.specs.version_groups.declared.groups.Filespace.{Filespace}
use Rattle.inventory_rows.specs.version_groups.declared.copies.CopyRow.{CopyRow}
use Rattle.inventory_rows.specs.version_groups.declared.versions.Version.{Version}
use Rattle.inventory_rows.specs.volume_rows.Holdings.{least_object}
use Rattle.inventory_rows.specs.volume_rows.Volumes.{reuse_since, reuse_unless_used}
use Rattle.inventory_rows.specs.volume_rows.declared.volume.Volume.{Volume}
use Rattle.inventory_rows.specs.Search.{copy_in, filespace_of, is_primary, version}
use Rattle.inventory_rules.specs.Backups.{backup_at}
use Rattle.inventory_rules.specs.Common.{full_at}
use Rattle.inventory_rules.specs.Copies.{drop_reason_refused, drop_refused, dropped_refused, file_of, lies_elsewhere, lies_there, named_drop_refused, placed_by, stale_copy, version_drop_refused}
use Rattle.inventory_rules.specs.Journal.{Journal}
use Rattle.inventory_rules.specs.Transactions.{causes, effect, refused as refused_by, sizes_refused, then_valid}
use Rattle.inventory_rules.specs.Valid.{is_valid}
use Rattle.inventory_rules.specs.Versions.{all_lie_on, discard_reason_refused, discard_refused, discarded_refused, expire_refused, expired_refused, gone_or_unknown, in_use, is_in, is_under, name_once, of_version, primary_lies_on}
use Rattle.inventory_rules.specs.Owed.{is_retained}
use Rattle.inventory_laws.proofs.StoreCounts.{reuse_takes}
use Rattle.inventory_answers.specs.Answered.{answered}
use Rattle.inventory_answers.specs.declared.query.Query.{Query}
use Rattle.steps.specs.declared.asked.Asked.TheVariants.{Plain}
use Rattle.machine.specs.Causes.{change_illegal, change_refused, is_plain, listed, reuse_refused}
use Rattle.machine.specs.Changes.{filled}
use Rattle.machine.specs.Machine.{Asks, Commits, Forces, Reuses, ended, has_file, held_by, held_refused, written_by}
use Rattle.machine.specs.State.{Core, Image, Machine, Ticket, inventory, sight}
use Rattle.machine.proofs.Elsewhere.{append-all, ended-all, foremost-all, unless-all}
use Rattle.line_results.proofs.Unfound.{IsFound, answered-found}

-- ---- what rows refuse

-- P holds of the refusals with which rows are refused that aren't as they were named
pub record Named (P : Refusal → Type 0) : Type 0 where
  pub bad : P bad_value
  pub missing : P refused.NotFound
  pub used : (by : By) → P (refused.InUse by)
  pub gone : (n : ℕ) → P (refused.Gone n)
  pub stale : (n : ℕ) → P (refused.Stale n)
  pub early : (file day : ℕ) → P (refused.NotYet file day)

-- where a result is refused P holds
abbrev pub IsOf : {A : Type 0} → (P : Refusal → Type 0) → Result A Refusal → Type 0
IsOf P (Ok x) = Unit {0}
IsOf P (Err e) = P e

all-of : {A : Type 0} (P : Refusal → Type 0) (r : Result A Refusal) → IsOf P r → AllByRecursion P (refusal_of r)
all-of P (Ok x) h = tt
all-of P (Err e) h = (h, tt)

if-of : {A : Type 0} (P : Refusal → Type 0) (b : Bool) (r s : Result A Refusal) → IsOf P r → IsOf P s → IsOf P (if b then r else s)
if-of P true r s h k = h
if-of P false r s h k = k

if-all : (P : Refusal → Type 0) (b : Bool) (xs ys : List Refusal) → AllByRecursion P xs → AllByRecursion P ys → AllByRecursion P (if b then xs else ys)
if-all P true xs ys h k = h
if-all P false xs ys h k = k

pub flat-all : {X : Type 0} (P : Refusal → Type 0) (f : X → List Refusal) → ((x : X) → AllByRecursion P (f x)) → (xs : List X) → AllByRecursion P (flat_map f xs)
flat-all P f h [] = tt
flat-all P f h (x ∷ xs) = append-all P (f x) (flat_map f xs) (h x) (flat-all P f h xs)

module _ (P : Refusal → Type 0) (named : Named P) where
  gone-or : (o : Option ℕ) → P (gone_or_unknown o)
  gone-or None = named.missing
  gone-or (Some n) = named.gone n

  pub stale-or : (o : Option ℕ) (c : Option CopyRow) → P (stale_copy o c)
  stale-or (Some n) c = named.stale n
  stale-or None (Some copy) = named.stale copy.placed
  stale-or None None = named.missing

  pub version-all : (j : Journal) (object : ℕ) (rule : Version → List Refusal) → ((w : Version) → AllByRecursion P (rule w)) → (found : Option Version) → AllByRecursion P (of_version j object rule found)
  version-all j object rule h None = (gone-or (j.removed object), tt)
  version-all j object rule h (Some w) = h w

  -- objects that expire
  expired-all : (j : Journal) (filespace : ℕ) (v : Inv) (item : NamedVersion) → AllByRecursion P (expired_refused j filespace v item)
  expired-all j filespace v item =
      if-all P (is_under filespace item.path item.object v) (unless (not (is_retained filespace item.path item.object v)) (in_use item.object)) (gone_or_unknown (j.removed item.object) ∷ [])
      (unless-all P (not (is_retained filespace item.path item.object v)) (in_use item.object) (named.used (by.Object item.object))) (gone-or (j.removed item.object), tt)

  pub expire-all : (j : Journal) (filespace : ℕ) (items : List NamedVersion) (v : Inv) → AllByRecursion P (expire_refused j filespace items v)
  expire-all j filespace items v =
      append-all P (unless (name_once (map (λ i. i.object) items)) bad_value) (flat_map (expired_refused j filespace v) items) (unless-all P (name_once (map (λ i. i.object) items)) bad_value named.bad)
      (flat-all P (expired_refused j filespace v) (expired-all j filespace v) items)

  -- objects that are discarded
  reason-all : (reason : DiscardReason) (object : ℕ) (found : Digest) (w : Version) (v : Inv) → AllByRecursion P (discard_reason_refused reason object found w v)
  reason-all (because.Audit file) object found w v =
      append-all P (unless (all_lie_on file w) (in_use object)) (unless (not (is_same_name w.digest.0 found.0)) bad_value) (unless-all P (all_lie_on file w) (in_use object) (named.used (by.Object object)))
      (unless-all P (not (is_same_name w.digest.0 found.0)) bad_value named.bad)
  reason-all (because.Volume file) object found w v = unless-all P (primary_lies_on file w v || all_lie_on file w) (in_use object) (named.used (by.Object object))
  reason-all (because.Filespace filespace) object found w v = unless-all P (is_in filespace (filespace_of object v)) refused.NotFound named.missing

  pub discard-all : (j : Journal) (reason : DiscardReason) (items : List DiscardedVersion) (v : Inv) → AllByRecursion P (discard_refused j reason items v)
  discard-all j reason items v =
      append-all P (unless (name_once (map (λ i. i.object) items)) bad_value) (flat_map (discarded_refused j reason v) items) (unless-all P (name_once (map (λ i. i.object) items)) bad_value named.bad)
      (flat-all P (discarded_refused j reason v)
      (λ i. version-all j i.object (λ w. discard_reason_refused reason i.object i.found w v) (λ w. reason-all reason i.object i.found w v) (version i.object v)) items)

  -- copies that are dropped
  drop-reason-all : (reason : DropReason) (pool : ℕ) (kept found : Digest) (v : Inv) → AllByRecursion P (drop_reason_refused reason pool kept found v)
  drop-reason-all (since.Audit file) pool kept found v = unless-all P (not (is_same_name kept.0 found.0)) bad_value named.bad
  drop-reason-all (since.Volume file) pool kept found v = unless-all P (not (is_primary pool v)) bad_value named.bad

  named-all : (j : Journal) (reason : DropReason) (item : DroppedCopy) (w : Version) → AllByRecursion P (named_drop_refused j reason item w)
  named-all j reason item w =
      if-all P (placed_by item.placed (copy_in item.pool w)) (unless (lies_there (file_of reason) (copy_in item.pool w)) refused.NotFound)
      (stale_copy (j.copy_changed item.object item.pool) (copy_in item.pool w) ∷ []) (unless-all P (lies_there (file_of reason) (copy_in item.pool w)) refused.NotFound named.missing)
      (stale-or (j.copy_changed item.object item.pool) (copy_in item.pool w), tt)

  dropped-all : (j : Journal) (reason : DropReason) (v : Inv) (item : DroppedCopy) (w : Version) → AllByRecursion P (version_drop_refused j reason v item w)
  dropped-all j reason v item w =
      append-all P (named_drop_refused j reason item w) _ (named-all j reason item w)
      (append-all P (unless (lies_elsewhere item.pool w.copies) (refused.InUse (by.Object item.object))) (drop_reason_refused reason item.pool w.digest item.found v)
      (unless-all P (lies_elsewhere item.pool w.copies) (refused.InUse (by.Object item.object)) (named.used (by.Object item.object))) (drop-reason-all reason item.pool w.digest item.found v))

  pub drop-all : (j : Journal) (reason : DropReason) (items : List DroppedCopy) (v : Inv) → AllByRecursion P (drop_refused j reason items v)
  drop-all j reason items v =
      append-all P (unless (name_once (map (λ i. i.object) items)) bad_value) (flat_map (dropped_refused j reason v) items) (unless-all P (name_once (map (λ i. i.object) items)) bad_value named.bad)
      (flat-all P (dropped_refused j reason v) (λ i. version-all j i.object (version_drop_refused j reason v i) (dropped-all j reason v i) (version i.object v)) items)

  -- volumes that are reused
  since-all : (file delay today : ℕ) (o : Option ℕ) → IsOf P (reuse_since file delay today o)
  since-all file delay today None = named.missing
  since-all file delay today (Some day) = if-of P (nat_le delay (today - day)) (Ok tt) (Err (refused.NotYet file (day + delay))) tt (named.early file (day + delay))

  used-all : (file delay today : ℕ) (v : Volume) (o : Option ℕ) → IsOf P (reuse_unless_used file delay today v o)
  used-all file delay today v None = since-all file delay today v.emptied
  used-all file delay today v (Some object) = named.used (by.Object object)

  row-all : (s : PoolRows) (file today : ℕ) (o : Option Volume) → IsOf P (reuse_row s file today o)
  row-all s file today None = named.missing
  row-all s file today (Some v) =
      if-of P (not (is_sequential_at file s) || v.end == 0) (Err refused.NotFound) (reuse_unless_used file (delay_of (row_at v.pool s.pools)) today v (least_object v.segments)) named.missing
      (used-all file (delay_of (row_at v.pool s.pools)) today v (least_object v.segments))

  pub reused-all : (j : Journal) (file : ℕ) (v : Inv) → AllByRecursion P (causes j (change.Reuse file) v)
  reused-all j file v = all-of P (reuse_row v.stores file v.today (row_at file v.stores.volumes)) (row-all v.stores file v.today (row_at file v.stores.volumes))

-- ---- a transaction

-- P holds of what may be answered whatever the transaction is
pub record Common (P : Refusal → Type 0) : Type 0 where
  pub full : P refused.RunFull
  pub fault : (file count : ℕ) → P (refused.LogFault file count)
  pub memory : P refused.Memory
  pub bad : P bad_value
  pub long : P refused.RecordFull

valid-all : (P : Refusal → Type 0) (o : Option Refusal) (valid : Bool) (e : Refusal) → P bad_value → ((f : Refusal) → o ≡ Some f → P f) → then_valid o valid ≡ Some e → P e
valid-all P (Some f) valid e bad h is = h e is
valid-all P None true e bad h is = absurd cc
valid-all P None false e bad h is = subst P (same_Some bad_value e is) bad

pub refused-all : (P : Refusal → Type 0) (j : Journal) (w : Change) (v : Inv) (e : Refusal) → P bad_value → AllByRecursion P (causes j w v) → AllByRecursion P (sizes_refused w v) → refused_by j w v ≡ Some e → P e
unfolding refused_by
refused-all P j w v e bad own sizes h =
    valid-all P (foremost (causes j w v ++ sizes_refused w v)) (is_valid (effect w v)) e bad
    (λ f is. foremost-all P (causes j w v ++ sizes_refused w v) (append-all P (causes j w v) (sizes_refused w v) own sizes) f is) h

pub listed-all : (P : Refusal → Type 0) (o : Option Refusal) → ((e : Refusal) → o ≡ Some e → P e) → AllByRecursion P (listed o)
listed-all P None h = tt
listed-all P (Some e) h = (h e refl, tt)

illegal-all : (P : Refusal → Type 0) (w : Change) (m : Machine) → P bad_value → AllByRecursion P (causes (sight 0 m.core).journal w (inventory m.core)) → AllByRecursion P (sizes_refused w (inventory m.core))
    → AllByRecursion P (change_illegal w (sight 0 m.core))
illegal-all P w m bad own sizes =
    listed-all P (refused_by (sight 0 m.core).journal w (inventory m.core)) (λ e is. refused-all P (sight 0 m.core).journal w (inventory m.core) e bad own sizes is)

module _ (P : Refusal → Type 0) (common : Common P) (m next : Machine) (e : Refusal) where
  -- a commit
  pub commit-all : (w : Change) → filled m.core.next_file (inventory m.core) w ≡ w → AllByRecursion P (causes (sight 0 m.core).journal w (inventory m.core)) → AllByRecursion P (sizes_refused w (inventory m.core))
      → AllByRecursion P (held_refused w m.core) → Commits 0 (Plain w) [] m next (Err e) → P e
  commit-all w as_is own sizes held (inl (inl why, stays)) = foremost-all P _ all e why where
    all : AllByRecursion P
        (ended m
        ++ ((unless (is_plain w) bad_value ++ change_refused 0 (Some (filled m.core.next_file (inventory m.core) w)) (sight 0 m.core))
        ++ held_refused (filled m.core.next_file (inventory m.core) w) m.core))
    all =
        append-all P (ended m) _ (ended-all P common.full common.fault m)
        (append-all P (unless (is_plain w) bad_value ++ change_refused 0 (Some (filled m.core.next_file (inventory m.core) w)) (sight 0 m.core)) _
        (append-all P (unless (is_plain w) bad_value) _ (unless-all P (is_plain w) bad_value common.bad)
        (subst (λ (x : Change). AllByRecursion P (change_refused 0 (Some x) (sight 0 m.core))) (sym as_is)
        (append-all P (change_illegal w (sight 0 m.core)) _ (illegal-all P w m common.bad own sizes) (unless-all P _ refused.RecordFull common.long))))
        (subst (λ (x : Change). AllByRecursion P (held_refused x m.core)) (sym as_is) held))
  commit-all w as_is own sizes held (inl (inr memory, stays)) = subst P (sym memory) common.memory
  commit-all w as_is own sizes held (inr (none, (c, file, count, was, fault, rose, joins))) = subst P (sym fault) (common.fault file count)

  -- the reuse of a volume
  pub reuse-all : (file : ℕ) → AllByRecursion P (causes (sight 0 m.core).journal (change.Reuse file) (inventory m.core)) → AllByRecursion P (sizes_refused (change.Reuse file) (inventory m.core))
      → AllByRecursion P (held_by (has_file file) m.core.tickets) → Reuses 0 file m next (Err e) → P e
  reuse-all file own sizes held (inl (inl why, stays)) =
      foremost-all P _
      (append-all P (ended m) _ (ended-all P common.full common.fault m)
      (append-all P (reuse_refused file (sight 0 m.core)) _ (illegal-all P (change.Reuse file) m common.bad own sizes) held)) e why
  reuse-all file own sizes held (inl (inr memory, stays)) = subst P (sym memory) common.memory
  reuse-all file own sizes held (inr (none, (log, count, is, fault, becomes))) = subst P (sym is) (common.fault log count)

  -- a question
  pub ask-all : P refused.NotFound → (q : Query) → Asks 0 q m next (Err e) → P e
  ask-all missing q (inl (inl why, stays)) =
      foremost-all P _ (append-all P (ended m) _ (ended-all P common.full common.fault m) (found-all (answered q (inventory m.core)) (answered-found q (inventory m.core)))) e why
    where
      found-all : {A : Type 0} (r : Result A Refusal) → IsFound r → AllByRecursion P (refusal_of r)
      found-all (Ok x) h = tt
      found-all (Err f) h = (subst P (sym h) missing, tt)
  ask-all missing q (inl (inr memory, stays)) = subst P (sym memory) common.memory
  ask-all missing q (inr (none, never)) = absurd never

  -- a force
  pub force-all : Forces 0 m next (Err e) → P e
  force-all (inl (inl why, stays)) = foremost-all P (ended m) (ended-all P common.full common.fault m) e why
  force-all (inl (inr memory, stays)) = subst P (sym memory) common.memory
  force-all (inr (none, (file, count, is, fault, becomes))) = subst P (sym is) (common.fault file count)

-- ---- bounds

abbrev IsOther : Refusal → Type 0
IsOther e = e ≡ refused.InventoryFull → ⊥

named-other : Named IsOther
named-other = record { bad = λ is. cc; missing = λ is. cc; used = λ by is. cc; gone = λ n is. cc; stale = λ n is. cc; early = λ file day is. cc }

common-other : Common IsOther
common-other = record { full = λ is. cc; fault = λ file count is. cc; memory = λ is. cc; bad = λ is. cc; long = λ is. cc }

-- no question and no force is refused so
pub ask-other : (q : Query) (m next : Machine) (e : Refusal) → Asks 0 q m next (Err e) → e ≡ refused.InventoryFull → ⊥
ask-other q m next e h = ask-all IsOther common-other m next e named-other.missing q h

pub force-other : (m next : Machine) (e : Refusal) → Forces 0 m next (Err e) → e ≡ refused.InventoryFull → ⊥
force-other m next e h = force-all IsOther common-other m next e h

-- the database would have too many items behind it, or no other number is left
abbrev pub Overflows : Change → Inv → Type 0
Overflows w v = (most_items < count_items (effect w v)) ⊎ (2 ^ 62 ≤ v.number + 1)

-- what is refused so, is for that
abbrev OnFull : Change → Inv → Refusal → Type 0
OnFull w v e = e ≡ refused.InventoryFull → Overflows w v

others-on : (w : Change) (v : Inv) (list : List Refusal) → AllByRecursion IsOther list → AllByRecursion (OnFull w v) list
others-on w v [] h = tt
others-on w v (e ∷ list) h = ((λ is. absurd (h.0 is)), others-on w v list h.1)

unless-when : (P : Refusal → Type 0) (b : Bool) (e : Refusal) → (b ≡ false → P e) → AllByRecursion P (unless b e)
unless-when P true e h = tt
unless-when P false e h = (h refl, tt)

pub sizes-on : (w : Change) (v : Inv) → AllByRecursion (λ e. e ≡ refused.InventoryFull → Overflows w v) (sizes_refused w v)
sizes-on w v =
    append-all (OnFull w v) (unless (nat_le (count_items (effect w v)) most_items) refused.InventoryFull) (full_at v.number (2 ^ 62))
    (unless-when (OnFull w v) (nat_le (count_items (effect w v)) most_items) refused.InventoryFull (λ no is. inl (leb-false (count_items (effect w v)) most_items no)))
    (unless-when (OnFull w v) (nat_lt (v.number + 1) (2 ^ 62)) refused.InventoryFull (λ no is. inr (ltb-false (v.number + 1) (2 ^ 62) no)))

common-on : (w : Change) (v : Inv) → Common (OnFull w v)
common-on w v = record { full = λ is. absurd cc; fault = λ file count is. absurd cc; memory = λ is. absurd cc; bad = λ is. absurd cc; long = λ is. absurd cc }

-- the lists have no more items than those of a database may have
abbrev pub IsFew : Inv → Type 0
IsFew v = nat_le (count_items v) most_items ≡ true

-- where none are brought a bound is that of numbers
few-left : (w : Change) (v : Inv) → count_items (effect w v) ≤ count_items v → IsFew v → Overflows w v → 2 ^ 62 ≤ v.number + 1
few-left w v less few (inl many) = (let most : count_items v ≤ most_items = leb-true (count_items v) most_items few in absurd (omega (arith, less, most, many)))
few-left w v less few (inr last) = last

held-other : (test : Ticket → Bool) (tickets : List Ticket) → AllByRecursion IsOther (held_by test tickets)
held-other test tickets = elim (find test tickets) as (λ o. AllByRecursion IsOther (option_map_or (λ t. refused.Busy (holder.Ticket t.number) ∷ []) o [])) [
  | None ↦ tt
  | Some t ↦ ((λ is. cc), tt)
]

written-other : (file : ℕ) (o : Option Image) → AllByRecursion IsOther (written_by file o)
written-other file None = tt
written-other file (Some i) = unless-all IsOther (not (i.file == file)) (refused.Busy (holder.Image i.actor)) (λ is. cc)

-- ---- what has to be waited for

abbrev pub IsNoHolder : Refusal → Type 0
IsNoHolder e = (h : Holder) → e ≡ refused.Busy h → ⊥

named-free : Named IsNoHolder
named-free = record { bad = λ h is. cc; missing = λ h is. cc; used = λ by h is. cc; gone = λ n h is. cc; stale = λ n h is. cc; early = λ file day h is. cc }

common-free : Common IsNoHolder
common-free = record { full = λ h is. cc; fault = λ file count h is. cc; memory = λ h is. cc; bad = λ h is. cc; long = λ h is. cc }

pub ask-unheld : (q : Query) (m next : Machine) (e : Refusal) → Asks 0 q m next (Err e) → IsNoHolder e
ask-unheld q m next e a = ask-all IsNoHolder common-free m next e named-free.missing q a

pub force-unheld : (m next : Machine) (e : Refusal) → Forces 0 m next (Err e) → IsNoHolder e
force-unheld m next e a = force-all IsNoHolder common-free m next e a

sizes-free : (w : Change) (v : Inv) → AllByRecursion IsNoHolder (sizes_refused w v)
sizes-free w v =
    append-all IsNoHolder (unless (nat_le (count_items (effect w v)) most_items) refused.InventoryFull) (full_at v.number (2 ^ 62))
    (unless-all IsNoHolder (nat_le (count_items (effect w v)) most_items) refused.InventoryFull (λ h is. cc)) (unless-all IsNoHolder (nat_lt (v.number + 1) (2 ^ 62)) refused.InventoryFull (λ h is. cc))

-- ---- transactions that bring no items

-- The rows refuse it with other refusals than that the database is full, or that something is held; so does the hall, of which nothing is held where that is free; and its numbers are its own.
pub record Takes (w : Change) : Type 1 where
  pub own : (P : Refusal → Type 0) → Named P → (j : Journal) (v : Inv) → AllByRecursion P (causes j w v)
  pub fills : (next_file : ℕ) (v : Inv) → filled next_file v w ≡ w
  pub held : (c : Core) → AllByRecursion IsOther (held_refused w c)
  pub free : (c : Core) → c.image ≡ None → c.tickets ≡ [] → held_refused w c ≡ []

pub expire-takes : (c : NamedVersions) → Takes (change.Expire c)
expire-takes c = record { own = λ P named j v. expire-all P named j c.filespace c.items v; fills = λ next_file v. refl; held = λ k. tt; free = λ k idle none. refl }

pub discard-takes : (c : DiscardedVersions) → Takes (change.Discard c)
discard-takes c = record { own = λ P named j v. discard-all P named j c.reason c.items v; fills = λ next_file v. refl; held = λ k. tt; free = λ k idle none. refl }

pub drop-takes : (c : DroppedCopies) → Takes (change.DropCopies c)
drop-takes c = record { own = λ P named j v. drop-all P named j c.reason c.items v; fills = λ next_file v. refl; held = λ k. tt; free = λ k idle none. refl }

pub delete-takes : (file : ℕ) → Takes (change.DbDelete file)
delete-takes file = record {
  own = λ P named j v. unless-all P (is_some (backup_at file v)) refused.NotFound named.missing;
  fills = λ next_file v. refl;
  held = λ k. written-other file k.image;
  free = λ k idle none. ap (λ (o : Option Image). written_by file o) idle;
}

-- a filespace's row
found-of : {X A : Type 0} (P : Refusal → Type 0) (o : Option X) (g : X → Result A Refusal) → P refused.NotFound → ((x : X) → IsOf P (g x)) → IsOf P (if_found o g)
found-of P None g missing h = missing
found-of P (Some x) g missing h = h x

rows-of : (P : Refusal → Type 0) (rows : Rows) (r : Result (List (ℕ × Filespace)) Refusal) → IsOf P r → IsOf P (with_filespaces rows r)
rows-of P rows (Ok x) h = tt
rows-of P rows (Err e) h = h

used-of : {A : Type 0} (P : Refusal → Type 0) (o : Option By) (x : A) → ((user : By) → P (refused.InUse user)) → IsOf P (unless_used o x)
used-of P None x h = tt
used-of P (Some user) x h = h user

space-of : (P : Refusal → Type 0) (named : Named P) (filespace : ℕ) (rows : Rows) → IsOf P (with_filespaces rows (filespaces_without filespace rows.held rows.filespaces))
space-of P named filespace rows =
    rows-of P rows (filespaces_without filespace rows.held rows.filespaces)
    (found-of P (filespace_at filespace rows.filespaces)
    (λ (f : Filespace). unless_used (by_object (lesser (spaces.least_object f.groups) (least_in filespace rows.held))) (remove_entry (at_number filespace) rows.filespaces)) named.missing
    (λ f. used-of P (by_object (lesser (spaces.least_object f.groups) (least_in filespace rows.held))) (remove_entry (at_number filespace) rows.filespaces) named.used))

pub filespace-takes : (name : List ℕ) (filespace : ℕ) → Takes (change.Object (client.Filespace two.Delete 0 name filespace))
filespace-takes name filespace = record {
  own = λ P named j v.
      append-all P (refusal_of (rows_changed (client.Filespace two.Delete 0 name filespace) v.next_node v.clients)) []
      (all-of P (rows_changed (client.Filespace two.Delete 0 name filespace) v.next_node v.clients) (space-of P named filespace v.clients)) tt;
  fills = λ next_file v. refl;
  held = λ k. tt;
  free = λ k idle none. refl;
}

-- a volume's row
object-of : (P : Refusal → Type 0) (file : ℕ) (s : PoolRows) (o : Option ℕ) → ((user : By) → P (refused.InUse user)) → IsOf P (unless_held file s o)
object-of P file s None h = tt
object-of P file s (Some object) h = h (by.Object object)

filed-of : (P : Refusal → Type 0) (s : PoolRows) (o : Option ℕ) → Named P → IsOf P (delete_filed s o)
filed-of P s None named = named.missing
filed-of P s (Some file) named = object-of P file s (object_on (row_at file s.volumes)) named.used

by-tickets : (tickets : List Ticket) (o : Option ℕ) → AllByRecursion IsOther (option_map_or (λ (it : ℕ). held_by (has_file it) tickets) o [])
by-tickets tickets None = tt
by-tickets tickets (Some file) = held-other (has_file file) tickets

no-tickets : (tickets : List Ticket) (o : Option ℕ) → tickets ≡ [] → option_map_or (λ (it : ℕ). held_by (has_file it) tickets) o [] ≡ []
no-tickets tickets None none = refl
no-tickets tickets (Some file) none = ap (λ (ts : List Ticket). held_by (has_file file) ts) none

pub volume-takes : (name : List ℕ) (file capacity : ℕ) (access : Access) → Takes (change.Pool (store.Volume verb.Delete name 0 file capacity access))
volume-takes name file capacity access = record {
  own = λ P named j v.
      append-all P (refusal_of (delete_volume name v.stores)) [] (all-of P (delete_volume name v.stores) (filed-of P v.stores (volume_named name v.stores) named)) tt;
  fills = λ next_file v. refl;
  held = λ k. by-tickets k.tickets (volume_named name (inventory k).stores);
  free = λ k idle none. no-tickets k.tickets (volume_named name (inventory k).stores) none;
}

-- a commit of one is refused as the database is full for a bound of numbers alone
pub commit-full : (w : Change) (m next : Machine) (e : Refusal) → Takes w → count_items (effect w (inventory m.core)) ≤ count_items (inventory m.core) → IsFew (inventory m.core) → Commits 0 (Plain w) [] m next (Err e)
    → e ≡ refused.InventoryFull → 2 ^ 62 ≤ (inventory m.core).number + 1
commit-full w m next e t less few h is =
    let v : Inv = inventory m.core in
    few-left w v less few
    (commit-all (OnFull w v) (common-on w v) m next e w (t.fills m.core.next_file v) (others-on w v (causes (sight 0 m.core).journal w v) (t.own IsOther named-other (sight 0 m.core).journal v)) (sizes-on w v)
    (others-on w v (held_refused w m.core) (t.held m.core)) h is)

-- and where no image is in progress, and there is no ticket, nothing has to be waited for
pub commit-unheld : (w : Change) (m next : Machine) (e : Refusal) → Takes w → m.core.image ≡ None → m.core.tickets ≡ [] → Commits 0 (Plain w) [] m next (Err e) → IsNoHolder e
commit-unheld w m next e t idle none h =
    commit-all IsNoHolder common-free m next e w (t.fills m.core.next_file (inventory m.core)) (t.own IsNoHolder named-free (sight 0 m.core).journal (inventory m.core)) (sizes-free w (inventory m.core))
    (subst (λ (l : List Refusal). AllByRecursion IsNoHolder l) (sym (t.free m.core idle none)) tt) h

pub reuse-full : (file : ℕ) (m next : Machine) (e : Refusal) → IsFew (inventory m.core) → Reuses 0 file m next (Err e) → e ≡ refused.InventoryFull → 2 ^ 62 ≤ (inventory m.core).number + 1
reuse-full file m next e few h is =
    let v : Inv = inventory m.core in
    let w : Change = change.Reuse file in
    few-left w v (reuse_takes file v) few
    (reuse-all (OnFull w v) (common-on w v) m next e file (others-on w v (causes (sight 0 m.core).journal w v) (reused-all IsOther named-other (sight 0 m.core).journal file v)) (sizes-on w v)
    (others-on w v (held_by (has_file file) m.core.tickets) (held-other (has_file file) m.core.tickets)) h is)

-- where there is no ticket nothing has to be waited for
pub reuse-unheld : (file : ℕ) (m next : Machine) (e : Refusal) → m.core.tickets ≡ [] → Reuses 0 file m next (Err e) → IsNoHolder e
reuse-unheld file m next e none h =
    reuse-all IsNoHolder common-free m next e file (reused-all IsNoHolder named-free (sight 0 m.core).journal file (inventory m.core)) (sizes-free (change.Reuse file) (inventory m.core))
    (subst (λ (ts : List Ticket). AllByRecursion IsNoHolder (held_by (has_file file) ts)) (sym none) tt) h

-- ---- what a legal transaction leaves

valid-none : (o : Option Refusal) (valid : Bool) → then_valid o valid ≡ None → (o ≡ None) × (valid ≡ true)
valid-none (Some e) valid is = absurd cc
valid-none None true is = (refl, refl)
valid-none None false is = absurd cc

pub legal-valid : (j : Journal) (w : Change) (v : Inv) → refused_by j w v ≡ None → is_valid (effect w v) ≡ true
unfolding refused_by
legal-valid j w v legal = (valid-none (foremost (causes j w v ++ sizes_refused w v)) (is_valid (effect w v)) legal).1
