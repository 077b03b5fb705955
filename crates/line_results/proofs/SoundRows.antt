-- No transaction puts the rows of filespaces out of their order, and one that isn't refused leaves on each volume's row the segments of the copies.
use Rattle.std.proofs.Common.{◌≡◌, ℕ, suc, ◌==◌, eqb, Bool, true, false, cond, not, if◌then◌else◌, List, [], ◌∷◌, take, Option, None, Some, Result, Ok, Err, is_some, refl, sym, ap, subst, arith}
use Rattle.std.proofs.lemmas.Bool.{eqb-true}
use Rattle.std.specs.BTreeMap.{insert_entry}
use Rattle.std.specs.Cmp.{nat_cmp_total}
use Rattle.std.specs.List.{AllByRecursion, list_all, slice_get}
use Rattle.std.specs.List.Sorted.{IsStrictlySortedBy}
use Rattle.std.specs.Map.{keys_of, lookup, remove_entry}
use Rattle.std.specs.Ordering.{match_ordering, nat_cmp}
use Rattle.std.specs.declared.cmp.Ordering.TheVariants.{Less, Equal, Greater}
use Rattle.kinds.specs.declared.change.DefineOrDelete.TheVariants as two
use Rattle.kinds.specs.declared.change.ObjectChange.{ObjectChange}
use Rattle.kinds.specs.declared.change.ObjectChange.TheVariants as client
use Rattle.kinds.specs.declared.refusal.By.{By}
use Rattle.kinds.specs.declared.refusal.Refusal.{Refusal}
use Rattle.kinds.specs.declared.refusal.Refusal.TheVariants as refused
use Rattle.kinds.specs.declared.segment.Segment.{Segment}
use Rattle.kinds.specs.Least.{lesser}
use Rattle.entries.specs.change_items.declared.items.MovedCopy.{MovedCopy}
use Rattle.entries.specs.change_items.declared.items.NewCopy.{NewCopy}
use Rattle.entries.specs.change_items.declared.items.NewHeldObject.{NewHeldObject}
use Rattle.entries.specs.change_items.declared.items.NewVersion.{NewVersion}
use Rattle.entries.specs.change_items.declared.items.ScratchVolume.{ScratchVolume}
use Rattle.entries.specs.declared.change.Change.{Change}
use Rattle.entries.specs.declared.change.Change.TheVariants as change
use Rattle.entries.specs.declared.entry.Entry.{Entry}
use Rattle.inventory_rows.specs.object_rows.declared.place.Node.{Node}
use Rattle.inventory_rows.specs.object_rows.Changes.{by_object, filespaces_defined, filespaces_without, least_in, least_object, nodes_with, nodes_without, unless_used, with_nodes}
use Rattle.inventory_rows.specs.object_rows.Filespaces.{at_number, filespace_at}
use Rattle.inventory_rows.specs.object_rows.Names.{filespace_named}
use Rattle.inventory_rows.specs.object_rows.Rows.{Rows, with_filespaces}
use Rattle.inventory_rows.specs.version_groups.declared.group.GroupChange.TheVariants as group
use Rattle.inventory_rows.specs.version_groups.declared.groups.Filespace.{Filespace}
use Rattle.inventory_rows.specs.version_groups.Entries.{if_found}
use Rattle.inventory_rows.specs.version_groups.Groups.{AreByPath}
use Rattle.inventory_rows.specs.State.{Inv}
use Rattle.inventory_rows.proofs.of_policy_domains.Sorted.{sorted-insert, sorted-remove}
use Rattle.inventory_rules.specs.Common.{each, or_same}
use Rattle.inventory_rules.specs.Copies.{add_copy, added, change_copy, drop_copy, move_copy, moved, put_moved, segments_in, take_moved, version_at}
use Rattle.inventory_rules.specs.Journal.{Journal}
use Rattle.inventory_rules.specs.Ordered.{IsOrdered}
use Rattle.inventory_rules.specs.Segments.{make_scratch, put}
use Rattle.inventory_rules.specs.Transactions.{IsDayOf, effect, refused as refused_by}
use Rattle.inventory_rules.specs.Valid.{are_apart, is_valid}
use Rattle.inventory_rules.specs.Versions.{back_up, discard, expire, held_too, hold, inserted, mark_gone, rebind}
use Rattle.inventory_rules.proofs.Touched.{effect-stores}
use Rattle.inventory_laws.proofs.Every.{stays}
use Rattle.inventory_laws.proofs.Facts.{both, facts_of}
use Rattle.inventory_laws.proofs.Fitting.{fitting}
use Rattle.inventory_laws.proofs.InOrder.{counted, discard_ordered, drop_ordered, each_ordered, expire_ordered}
use Rattle.inventory_laws.proofs.Ordered.{ordered_change, ordered_copy, ordered_held, ordered_inserted}
use Rattle.inventory_laws.proofs.VersionVolumes.{all_scratch_only, put_only, taken_only}
use Rattle.inventory_laws.proofs.VersionsWhole.{ordered_elsewhere}
use Rattle.machine.specs.State.{after}
use Rattle.line_results.specs.Sound.{HasSoundRows}
use Rattle.line_results.proofs.Bounds.{legal-valid}
use Rattle.line_results.proofs.Clearing.{legal-lists}
use Rattle.line_results.proofs.Standing.{stands-one}

-- ---- filespaces that come and go

abbrev Spaces : Type 0
Spaces = List (ℕ × Filespace)

abbrev Paths : Spaces → Type 0
Paths fs = AllByRecursion (λ f. AreByPath f.1.groups) fs

-- filespaces by number, and what is kept in each by path
abbrev Stand : Spaces → Type 0
Stand fs = IsStrictlySortedBy nat_cmp (keys_of fs) × Paths fs

paths-insert : (n : ℕ) (f : Filespace) (fs : Spaces) → AreByPath f.groups → Paths fs → Paths (insert_entry nat_cmp fs n f)
paths-insert n f [] h a = (h, tt)
paths-insert n f (e ∷ fs) h a = elim (nat_cmp n e.0) as (λ o. Paths (match_ordering o ((n, f) ∷ e ∷ fs) ((e.0, f) ∷ fs) (e ∷ insert_entry nat_cmp fs n f))) [
  | Less ↦ (h, a)
  | Equal ↦ (h, a.1)
  | Greater ↦ (a.0, paths-insert n f fs h a.1)
]

paths-remove : (test : ℕ → Bool) (fs : Spaces) → Paths fs → Paths (remove_entry test fs)
paths-remove test [] a = a
paths-remove test (e ∷ fs) a = elim (test e.0) as (λ b. Paths (cond b fs (e ∷ remove_entry test fs))) [
  | true ↦ a.1
  | false ↦ (a.0, paths-remove test fs a.1)
]

no-groups : AreByPath []
unfolding IsStrictlySortedBy
no-groups = tt

-- where they change they stand so
abbrev Keeps : Result Spaces Refusal → Type 0
Keeps (Ok fs) = Stand fs
Keeps (Err e) = Unit {0}

keeps-found : {A : Type 0} (o : Option A) (change : A → Result Spaces Refusal) → ((x : A) → Keeps (change x)) → Keeps (if_found o change)
keeps-found None change h = tt
keeps-found (Some x) change h = h x

keeps-if : (b : Bool) (x y : Result Spaces Refusal) → Keeps x → Keeps y → Keeps (if b then x else y)
keeps-if true x y h k = h
keeps-if false x y h k = k

keeps-unused : (user : Option By) (fs : Spaces) → Stand fs → Keeps (unless_used user fs)
keeps-unused None fs h = h
keeps-unused (Some by) fs h = tt

keeps-defined : (node number : ℕ) (name : List ℕ) (rows : Rows) → Stand rows.filespaces → Keeps (filespaces_defined node name number rows.nodes rows.filespaces)
keeps-defined node number name rows h =
    let new : Filespace = record { node = node; name = name; groups = [] } in
    keeps-found (lookup (at_number node) rows.nodes) (λ _. if is_some (filespace_named node name rows.filespaces) then Err refused.Exists else Ok (insert_entry nat_cmp rows.filespaces number new))
    (λ _. keeps-if (is_some (filespace_named node name rows.filespaces)) (Err refused.Exists) (Ok (insert_entry nat_cmp rows.filespaces number new)) tt
    (sorted-insert nat_cmp_total number new rows.filespaces h.0, paths-insert number new rows.filespaces no-groups h.1))

keeps-deleted : (number : ℕ) (rows : Rows) → Stand rows.filespaces → Keeps (filespaces_without number rows.held rows.filespaces)
keeps-deleted number rows h =
    let left : Spaces = remove_entry (at_number number) rows.filespaces in
    let stand : Stand left = (sorted-remove nat_cmp (at_number number) rows.filespaces h.0, paths-remove (at_number number) rows.filespaces h.1) in
    keeps-found (filespace_at number rows.filespaces) (λ f. unless_used (by_object (lesser (least_object f.groups) (least_in number rows.held))) left)
    (λ f. keeps-unused (by_object (lesser (least_object f.groups) (least_in number rows.held))) left stand)

spaces-stand : (rows : Rows) (said : Result Spaces Refusal) → Stand rows.filespaces → Keeps said → Stand (or_same rows (with_filespaces rows said)).filespaces
spaces-stand rows (Ok fs) h k = k
spaces-stand rows (Err e) h k = h

nodes-stand : (rows : Rows) (said : Result (List (ℕ × Node)) Refusal) → Stand rows.filespaces → Stand (or_same rows (with_nodes rows said)).filespaces
nodes-stand rows (Ok nodes) h = h
nodes-stand rows (Err e) h = h

ordered-of : (v : Inv) → Stand v.clients.filespaces → IsOrdered v
ordered-of v h = record { by_number = h.0; by_path = h.1 }

ordered-clients : (c : ObjectChange) (v : Inv) → Stand v.clients.filespaces → IsOrdered (effect (change.Object c) v)
unfolding effect
ordered-clients (client.Node two.Define name domain) v h = ordered-of (effect (change.Object (client.Node two.Define name domain)) v) (nodes-stand v.clients (nodes_with name domain v.next_node v.clients.nodes) h)
ordered-clients (client.Node two.Delete name domain) v h = ordered-of (effect (change.Object (client.Node two.Delete name domain)) v) (nodes-stand v.clients (nodes_without name v.clients.filespaces v.clients.nodes) h)
ordered-clients (client.Filespace two.Define node name filespace) v h =
    ordered-of (effect (change.Object (client.Filespace two.Define node name filespace)) v)
    (spaces-stand v.clients (filespaces_defined node name filespace v.clients.nodes v.clients.filespaces) h (keeps-defined node filespace name v.clients h))
ordered-clients (client.Filespace two.Delete node name filespace) v h =
    ordered-of (effect (change.Object (client.Filespace two.Delete node name filespace)) v)
    (spaces-stand v.clients (filespaces_without filespace v.clients.held v.clients.filespaces) h (keeps-deleted filespace v.clients h))

-- ---- objects and copies that come, and copies that move

ordered-put : (object : ℕ) (segments : List Segment) (v : Inv) → IsOrdered v → IsOrdered (put object segments v)
ordered-put object segments v o = ordered_elsewhere v (put object segments v) (put_only object segments v).clients o

ordered-scratch : (scratch : List ScratchVolume) (v : Inv) → IsOrdered v → IsOrdered (each make_scratch scratch v)
ordered-scratch scratch v o = ordered_elsewhere v (each make_scratch scratch v) (all_scratch_only scratch v).clients o

ordered-stored : (filespace : ℕ) (item : NewVersion) (v : Inv) → IsOrdered v → IsOrdered (back_up filespace item v)
ordered-stored filespace item v o = ordered-put item.object item.segments (inserted filespace item v) (ordered_inserted filespace item v o)

ordered-archived : (filespace : ℕ) (item : NewHeldObject) (v : Inv) → IsOrdered v → IsOrdered (hold filespace item v)
ordered-archived filespace item v o = ordered-put item.object item.segments (held_too filespace item v) (ordered_held filespace item v o)

ordered-copied : (item : NewCopy) (v : Inv) → IsOrdered v → IsOrdered (add_copy item v)
ordered-copied item v o = ordered-put item.object item.segments (change_copy item.object (added item v) v) (ordered_copy item.object (added item v) v o)

ordered-moved : (item : MovedCopy) (v : Inv) → IsOrdered v → IsOrdered (move_copy item v)
ordered-moved item v o =
    ordered_copy item.object (moved item v) (take_moved item v) (ordered_elsewhere v (take_moved item v) (taken_only item.object (segments_in item.from (version_at item.object v)) v).clients o)

-- ---- each transaction

pub ordered-one : (c : Change) (v : Inv) → IsOrdered v → IsOrdered (effect c v)
unfolding effect
ordered-one (change.Day day) v o = ordered_elsewhere v (effect (change.Day day) v) refl o
ordered-one (change.Policy c) v o = ordered_elsewhere v (effect (change.Policy c) v) refl o
ordered-one (change.Object c) v o = ordered-clients c v (o.by_number, o.by_path)
ordered-one (change.Pool c) v o = ordered_elsewhere v (effect (change.Pool c) v) (ap (λ (x : Inv). x.clients) (effect-stores c v)) o
ordered-one (change.Backup c) v o = counted (change.Backup c) v (each_ordered (back_up c.filespace) (ordered-stored c.filespace) c.items (each make_scratch c.scratch v) (ordered-scratch c.scratch v o))
ordered-one (change.Hold c) v o = counted (change.Hold c) v (each_ordered (hold c.filespace) (ordered-archived c.filespace) c.items (each make_scratch c.scratch v) (ordered-scratch c.scratch v o))
ordered-one (change.Rebind c) v o = counted (change.Rebind c) v (each_ordered (rebind c.filespace) (λ i w h. ordered_change c.filespace i.path (group.Rebind i.class) w h) c.items v o)
ordered-one (change.Gone c) v o = counted (change.Gone c) v (each_ordered (mark_gone c.filespace) (λ i w h. ordered_change c.filespace i.path (group.Gone i.object w.today) w h) c.items v o)
ordered-one (change.Move c) v o =
    counted (change.Move c) v
    (each_ordered move_copy ordered-moved c.items (each put_moved c.items (each make_scratch c.scratch v))
    (each_ordered put_moved (λ i w h. ordered-put i.object i.segments w h) c.items (each make_scratch c.scratch v) (ordered-scratch c.scratch v o)))
ordered-one (change.Copy c) v o = counted (change.Copy c) v (each_ordered add_copy ordered-copied c.items (each make_scratch c.scratch v) (ordered-scratch c.scratch v o))
ordered-one (change.DropCopies c) v o = counted (change.DropCopies c) v (each_ordered drop_copy drop_ordered c.items v o)
ordered-one (change.Expire c) v o = counted (change.Expire c) v (each_ordered (expire c.filespace) (expire_ordered c.filespace) c.items v o)
ordered-one (change.Discard c) v o = counted (change.Discard c) v (each_ordered discard discard_ordered c.items v o)
ordered-one (change.Reuse file) v o = ordered_elsewhere v (effect (change.Reuse file) v) refl o
ordered-one (change.DbBegin file after) v o = ordered_elsewhere v (effect (change.DbBegin file after) v) refl o
ordered-one (change.DbEnd file) v o = ordered_elsewhere v (effect (change.DbEnd file) v) refl o
ordered-one (change.DbDelete file) v o = ordered_elsewhere v (effect (change.DbDelete file) v) refl o

-- a day that a valid database comes to is one of the calendar
day-of : (c : Change) (v : Inv) → is_valid (effect c v) ≡ true → IsDayOf c
unfolding effect
day-of (change.Day day) v valid = (facts_of (effect (change.Day day) v) valid).day_bounded
day-of c v valid = tt

-- ---- pools that stand by number are apart

other : (k n : ℕ) → nat_cmp k n ≡ Less → not (k == n) ≡ true
other k n h = elim (eqb k n) as (λ b. eqb k n ≡ b → not b ≡ true) [
  | true ↦ λ same. absurd (let odd : nat_cmp k k ≡ Less = subst (λ (m : ℕ). nat_cmp k m ≡ Less) (sym (eqb-true k n same)) h in grind (arith, odd))
  | false ↦ λ _. refl
] refl

others : (k : ℕ) (ks : List ℕ) → AllByRecursion (λ n. nat_cmp k n ≡ Less) ks → list_all (λ n. not (k == n)) ks ≡ true
others k [] h = refl
others k (n ∷ ks) h = both (not (k == n)) (list_all (λ n. not (k == n)) ks) (other k n h.0) (others k ks h.1)

apart : (ks : List ℕ) → IsStrictlySortedBy nat_cmp ks → are_apart ks ≡ true
unfolding IsStrictlySortedBy
apart [] h = refl
apart (k ∷ ks) h = both (list_all (λ n. not (k == n)) ks) (are_apart ks) (others k ks h.0) (apart ks h.1)

-- ---- what a legal run keeps

pub sound-one : (j : Journal) (c : Change) (v : Inv) → HasSoundRows v → refused_by j c v ≡ None → HasSoundRows (effect c v)
sound-one j c v h legal =
    let lists = legal-lists j c v legal in
    let later : is_valid (effect c v) ≡ true = legal-valid j c v legal in
    let once : are_apart (keys_of v.stores.pools) ≡ true = apart (keys_of v.stores.pools) h.pools in
    let whole = stays j c v h.valid h.tied h.rows once (day-of c v later) lists.0 lists.1 (fitting j c v h.valid h.tied h.rows once lists.0 later) in
    record { valid = later; pools = stands-one c v h.pools; rows = ordered-one c v h.rows; tied = whole.1 }

-- where each transaction was legal where it was made the last database has them as the first one
pub sound-along : (v : Inv) (entries : List Entry) → HasSoundRows v
    → ((i : ℕ) (e : Entry) → slice_get entries i ≡ Some e → (j : Journal) × (refused_by j e.change (after v (take i entries)) ≡ None)) → HasSoundRows (after v entries)
sound-along v [] h legal = h
sound-along v (e ∷ entries) h legal =
    let first = legal 0 e refl in
    sound-along (effect e.change v) entries (sound-one first.0 e.change v h first.1) (λ i x at. legal (suc i) x at)
