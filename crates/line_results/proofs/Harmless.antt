-- Refusals for which no object fails: with others no step of what makes further copies of objects, or moves copies, is refused, where there is a place, what is copied can be read, records are short and no
-- count of faults rises.
use Rattle.std.proofs.Common.{◌≡◌, inl, inr, ℕ, ◌+◌, ◌-◌, ◌^◌, ◌==◌, ◌&&◌, not, nat_le, nat_lt, max, is_some, Bool, true, false, if◌then◌else◌, List, [], ◌∷◌, ◌++◌, length, map, Option, None, Some, Result, Ok, Err, refl, sym, subst, ◌∙◌}
use Rattle.std.proofs.lemmas.Bool.{false≢true, le-leb}
use Rattle.std.proofs.lemmas.Option.{same_Some}
use Rattle.std.specs.List.{AllByRecursion, flat_map, list_all}
use Rattle.std.specs.Option.{option_map_or}
use Rattle.kinds.specs.Refusals.{bad_value, foremost, refusal_of, unless}
use Rattle.kinds.specs.declared.change.PoolChange.TheVariants as store
use Rattle.kinds.specs.declared.change.Verb.TheVariants as verb
use Rattle.kinds.specs.declared.pool.Access.{Access}
use Rattle.kinds.specs.declared.pool.Access.TheVariants.{Destroyed}
use Rattle.kinds.specs.declared.refusal.Refusal.{Refusal}
use Rattle.kinds.specs.declared.refusal.Refusal.TheVariants as refused
use Rattle.kinds.specs.declared.segment.Digest.{Digest}
use Rattle.kinds.specs.declared.segment.Segment.{Segment}
use Rattle.entries.specs.EntryForm.{entry as entry_form}
use Rattle.entries.specs.change_items.declared.items.MovedCopy.{MovedCopy}
use Rattle.entries.specs.change_items.declared.items.NewCopy.{NewCopy}
use Rattle.entries.specs.change_items.declared.items.ScratchVolume.{ScratchVolume}
use Rattle.entries.specs.declared.change.Change.{Change}
use Rattle.entries.specs.declared.change.Change.TheVariants as change
use Rattle.inventory_rows.specs.pool_rows.Changes.{update_filed}
use Rattle.inventory_rows.specs.pool_rows.PoolRows.{PoolRows, volume_named}
use Rattle.inventory_rows.specs.pool_tables.declared.pool.Pool.{Pool}
use Rattle.inventory_rows.specs.version_groups.Entries.{all_later, is_nil}
use Rattle.inventory_rows.specs.version_groups.declared.copies.CopyRow.{CopyRow}
use Rattle.inventory_rows.specs.version_groups.declared.versions.Version.{Version}
use Rattle.inventory_rows.specs.Items.{count_items, most_items}
use Rattle.inventory_rows.specs.Search.{copy_in, is_primary_kind, pool, version}
use Rattle.inventory_rows.specs.State.{Inv}
use Rattle.inventory_rules.specs.Common.{file_bound, files_refused, full_at, is_free_file}
use Rattle.inventory_rules.specs.Copies.{copied_refused, copy_refused, moved_refused, placed_by, stale_copy}
use Rattle.inventory_rules.specs.Journal.{Journal}
use Rattle.inventory_rules.specs.Segments.{scratch_refused}
use Rattle.inventory_rules.specs.Stores.{access_refused, pool_of_volume}
use Rattle.inventory_rules.specs.Transactions.{causes, effect, refused as refused_by, sizes_refused}
use Rattle.inventory_rules.specs.Valid.{may_have}
use Rattle.inventory_rules.specs.Versions.{name_once}
use Rattle.inventory_answers.specs.Answered.{answered}
use Rattle.inventory_answers.specs.declared.query.Query.{Query}
use Rattle.contents.specs.Reading.{segments_in}
use Rattle.placing.specs.Placing.{is_readable}
use Rattle.space.specs.declared.aim.Aim.{Aim}
use Rattle.space.specs.declared.aim.Aim.TheVariants as aim
use Rattle.steps.specs.declared.asked.Asked.{Asked}
use Rattle.steps.specs.declared.asked.Asked.TheVariants as asked
use Rattle.steps.specs.Calls.{fails_object}
use Rattle.machine.specs.Causes.{asked_refused, change_illegal, change_refused, commit_refused, copied_already, copy_refused_by, copying_refused, digest_refused, digests_refused, drop_refused, is_copy_pool, is_plain, object_gone, of_ticket, of_tickets, seal_refused, storing_refused, ticket_in_use}
use Rattle.machine.specs.Changes.{all_tickets, are_so_many, change_of, copy_from, is_moved, move_from, placed_change, scratch_of}
use Rattle.machine.specs.Machine.{Asks, Commits, CopiesPiece, Drops, Forces, IsLostFor, IsTicket, OpensCopy, Places, Seals, asked_change, can_place_copy, ended, held_refused, next_count, placing_refused}
use Rattle.machine.specs.Pieces.{IsCopyLost, RoseAt}
use Rattle.machine.specs.State.{Core, Machine, Place, Sight, Ticket, inventory, is_storing, object_of, sight, ticket}
use Rattle.machine.proofs.Elsewhere.{append-all, ended-all, foremost-all, unless-all}
use Rattle.line_results.specs.Copied.{CanTake, HasPlace, IsCopyPlaced, IsReadableIn, IsShort, IsShortBy}
use Rattle.line_results.proofs.Bounds.{Named, flat-all, listed-all, refused-all, stale-or, version-all}
use Rattle.line_results.proofs.Readable.{contained_holds}
use Rattle.line_results.proofs.Unfound.{IsFound, answered-found}

-- ---- refusals

-- no object fails for it
abbrev pub IsHarmless : Refusal → Type 0
IsHarmless e = fails_object e ≡ false

abbrev pub AreHarmless : List Refusal → Type 0
AreHarmless list = AllByRecursion IsHarmless list

h-named : Named IsHarmless
h-named = record { bad = refl; missing = refl; used = λ by. refl; gone = λ n. refl; stale = λ n. refl; early = λ file day. refl }

pub h-unless : (b : Bool) (e : Refusal) → IsHarmless e → AreHarmless (unless b e)
h-unless b e h = unless-all IsHarmless b e h

h-and : (xs ys : List Refusal) → AreHarmless xs → AreHarmless ys → AreHarmless (xs ++ ys)
h-and xs ys a b = append-all IsHarmless xs ys a b

pub h-ended : (m : Machine) → AreHarmless (ended m)
h-ended m = ended-all IsHarmless refl (λ file count. refl) m

-- what is answered is one of these, or want of memory
pub h-answered : (list : List Refusal) (e : Refusal) → AreHarmless list → foremost list ≡ Some e → IsHarmless e
h-answered list e all h = foremost-all IsHarmless list all e h

pub h-as : (e f : Refusal) → IsHarmless f → e ≡ f → IsHarmless e
h-as e f h is = subst IsHarmless (sym is) h

-- ---- transactions

-- Whatever the database refuses such a change for, and whatever others hold, no object fails for that.
pub record IsGentle (c : Change) : Type 0 where
  pub own : (j : Journal) (v : Inv) → AllByRecursion IsHarmless (causes j c v)
  pub held : (k : Core) → AllByRecursion IsHarmless (held_refused c k)

h-files : (files : List ℕ) (v : Inv) → AreHarmless (files_refused files v)
h-files files v = h-unless (list_all (is_free_file v) files && all_later (λ a b. not (a == b)) files) bad_value refl

h-scratch : (scratch : List ScratchVolume) (v : Inv) → AreHarmless (scratch_refused scratch v)
h-scratch scratch v =
    h-and (files_refused (map (λ s. s.file) scratch) v) (flat_map (λ s. file_bound s.file v) scratch) (h-files (map (λ s. s.file) scratch) v)
    (flat-all IsHarmless (λ (s : ScratchVolume). file_bound s.file v) (λ s. h-unless (nat_lt (max v.next_file (s.file + 1)) (2 ^ 32 - 1)) refused.InventoryFull refl) scratch)

h-moved : (j : Journal) (v : Inv) (i : MovedCopy) → AreHarmless (moved_refused j v i)
h-moved j v i =
    version-all IsHarmless h-named j i.object (copy_refused j i.object i.from i.placed)
    (λ w. h-unless (placed_by i.placed (copy_in i.from w)) (stale_copy (j.copy_changed i.object i.from) (copy_in i.from w)) (stale-or IsHarmless h-named (j.copy_changed i.object i.from) (copy_in i.from w))) (version i.object v)

h-copied : (j : Journal) (v : Inv) (i : NewCopy) → AreHarmless (copied_refused j v i)
h-copied j v i =
    version-all IsHarmless h-named j i.object _
    (λ w. h-unless (not (is_some (copy_in i.pool w))) (stale_copy (j.copy_changed i.object i.pool) (copy_in i.pool w)) (stale-or IsHarmless h-named (j.copy_changed i.object i.pool) (copy_in i.pool w))) (version i.object v)

move-gentle : (scratch : List ScratchVolume) (items : List MovedCopy) → IsGentle (change.Move (record { scratch = scratch; items = items }))
move-gentle scratch items = record {
  own = λ j v. h-and _ (scratch_refused scratch v)
      (h-and (unless (name_once (map (λ i. i.object) items)) bad_value) (flat_map (moved_refused j v) items) (h-unless (name_once (map (λ i. i.object) items)) bad_value refl) (flat-all IsHarmless (moved_refused j v) (h-moved j v) items))
      (h-scratch scratch v);
  held = λ k. tt;
}

copy-gentle : (scratch : List ScratchVolume) (items : List NewCopy) → IsGentle (change.Copy (record { scratch = scratch; items = items }))
copy-gentle scratch items = record {
  own = λ j v. h-and _ (scratch_refused scratch v)
      (h-and (unless (name_once (map (λ i. i.object) items)) bad_value) (flat_map (copied_refused j v) items) (h-unless (name_once (map (λ i. i.object) items)) bad_value refl) (flat-all IsHarmless (copied_refused j v) (h-copied j v) items))
      (h-scratch scratch v);
  held = λ k. tt;
}

h-filed : (access : Access) (s : PoolRows) (o : Option ℕ) → AreHarmless (refusal_of (update_filed access s o))
h-filed access s None = (refl, tt)
h-filed access s (Some file) = tt

h-access : (access : Access) (o : Option Pool) → AreHarmless (access_refused access o)
h-access access None = tt
h-access access (Some p) = h-unless (may_have access (is_primary_kind p.kind)) bad_value refl

-- what a volume held is made known as lost
pub loss-gentle : (name : List ℕ) (file capacity : ℕ) → IsGentle (change.Pool (store.Volume verb.Update name 0 file capacity Destroyed))
loss-gentle name file capacity = record {
  own = λ j v. h-and (refusal_of (update_filed Destroyed v.stores (volume_named name v.stores))) (access_refused Destroyed (pool_of_volume name v)) (h-filed Destroyed v.stores (volume_named name v.stores)) (h-access Destroyed (pool_of_volume name v));
  held = λ k. tt;
}

-- what comes of tickets for copies
placed-gentle : (v : Inv) (tickets : List Ticket) → IsGentle (placed_change v tickets)
placed-gentle v tickets = by-kind (list_all is_moved tickets) where
  by-kind : (b : Bool)
      → IsGentle
      (if b
      then change.Move (record { scratch = scratch_of v tickets; items = flat_map (λ t. move_from t t.purpose) tickets })
      else change.Copy (record { scratch = scratch_of v tickets; items = map copy_from tickets }))
  by-kind true = move-gentle (scratch_of v tickets) (flat_map (λ t. move_from t t.purpose) tickets)
  by-kind false = copy-gentle (scratch_of v tickets) (map copy_from tickets)

if-gentle : (b : Bool) (x c : Change) → IsGentle x → (if b then Some x else None) ≡ Some c → IsGentle c
if-gentle true x c h is = subst IsGentle (same_Some x c is) h
if-gentle false x c h is = (let odd : ◌≡◌ {A = Option Change} None (Some c) = is in absurd cc)

pub joined-gentle : (actor : ℕ) (numbers : List ℕ) (c : Change) (k : Core) → asked_change actor asked.Placed numbers k ≡ Some c → IsGentle c
joined-gentle actor numbers c k is =
    (let tickets : List Ticket = all_tickets numbers (sight actor k) in
    if-gentle (are_so_many (length numbers) numbers (sight actor k) && not (is_nil numbers)) (placed_change (inventory k) tickets) c (placed-gentle (inventory k) tickets) is)

h-sizes : (c : Change) (v : Inv) → AreHarmless (sizes_refused c v)
h-sizes c v =
    h-and (unless (nat_le (count_items (effect c v)) most_items) refused.InventoryFull) (full_at v.number (2 ^ 62)) (h-unless (nat_le (count_items (effect c v)) most_items) refused.InventoryFull refl)
    (h-unless (nat_lt (v.number + 1) (2 ^ 62)) refused.InventoryFull refl)

h-illegal : (c : Change) (s : Sight) → IsGentle c → AreHarmless (change_illegal c s)
h-illegal c s h =
    listed-all IsHarmless (refused_by s.journal c s.inventory) (λ e is. refused-all IsHarmless s.journal c s.inventory e refl (h.own s.journal s.inventory) (h-sizes c s.inventory) is)

h-short : (b : Bool) → b ≡ true → AreHarmless (unless b refused.RecordFull)
h-short true is = tt
h-short false is = absurd (false≢true is)

h-change : (actor : ℕ) (o : Option Change) (s : Sight) → ((c : Change) → o ≡ Some c → IsGentle c) → ((c : Change) → o ≡ Some c → IsShortBy actor c) → AreHarmless (change_refused actor o s)
h-change actor None s gentle short = tt
h-change actor (Some c) s gentle short =
    h-and (change_illegal c s) _ (h-illegal c s (gentle c refl)) (h-short (nat_le (length (entry_form.spell (record { actor = actor; change = c }))) (2 ^ 24)) (le-leb _ (2 ^ 24) (short c refl)))

pub h-others : (o : Option Change) (k : Core) → ((c : Change) → o ≡ Some c → IsGentle c) → AreHarmless (option_map_or (λ c. held_refused c k) o [])
h-others None k gentle = tt
h-others (Some c) k gentle = (gentle c refl).held k

-- of tickets
h-option : (rule : Ticket → List Refusal) (o : Option Ticket) → ((t : Ticket) → AreHarmless (rule t)) → AreHarmless (option_map_or rule o [])
h-option rule None h = tt
h-option rule (Some t) h = h t

h-tickets : (rule : Ticket → List Refusal) (numbers : List ℕ) (s : Sight) → ((t : Ticket) → AreHarmless (rule t)) → AreHarmless (of_tickets rule numbers s)
h-tickets rule numbers s h = flat-all IsHarmless (λ number. option_map_or rule (ticket number s.tickets) []) (λ number. h-option rule (ticket number s.tickets) h) numbers

h-digest : (given : Digest) (o : Option Ticket) → AreHarmless (digest_refused given o)
h-digest given None = tt
h-digest given (Some t) = h-unless _ (refused.DigestDiffers _ given) refl

h-digests : (digests : List Digest) (numbers : List ℕ) (s : Sight) → AreHarmless (digests_refused digests numbers s)
h-digests [] numbers s = tt
h-digests (given ∷ others) [] s = tt
h-digests (given ∷ others) (number ∷ numbers) s = h-and (digest_refused given (ticket number s.tickets)) (digests_refused others numbers s) (h-digest given (ticket number s.tickets)) (h-digests others numbers s)

h-storing : (digests : List Digest) (numbers : List ℕ) (s : Sight) → AreHarmless (storing_refused digests numbers s)
h-storing digests numbers s =
    h-and (unless (length digests == length numbers) bad_value) _ (h-unless (length digests == length numbers) bad_value refl)
    (h-and (of_tickets (λ t. unless (is_storing t.purpose) bad_value) numbers s) (digests_refused digests numbers s) (h-tickets _ numbers s (λ t. h-unless (is_storing t.purpose) bad_value refl)) (h-digests digests numbers s))

h-asked : (a : Asked) (numbers : List ℕ) (s : Sight) → AreHarmless (asked_refused a numbers s)
h-asked (asked.Plain c) numbers s = h-unless (is_nil numbers && is_plain c) bad_value refl
h-asked (asked.Backup filespace items) numbers s = h-storing (map (λ i. i.digest) items) numbers s
h-asked (asked.Hold filespace items) numbers s = h-storing (map (λ i. i.digest) items) numbers s
h-asked asked.Placed numbers s = h-and (unless (not (is_nil numbers)) bad_value) _ (h-unless (not (is_nil numbers)) bad_value refl) (h-unless _ bad_value refl)

pub h-commit : (actor : ℕ) (a : Asked) (numbers : List ℕ) (s : Sight) → ((c : Change) → change_of a numbers s ≡ Some c → IsGentle c) → ((c : Change) → change_of a numbers s ≡ Some c → IsShortBy actor c)
    → AreHarmless (commit_refused actor a numbers s)
h-commit actor a numbers s gentle short =
    h-and _ _ (flat-all IsHarmless (λ number. unless (is_some (ticket number s.tickets)) refused.NotFound) (λ number. h-unless (is_some (ticket number s.tickets)) refused.NotFound refl) numbers)
    (h-and (unless (name_once numbers && nat_le (length numbers) 256) bad_value) _ (h-unless (name_once numbers && nat_le (length numbers) 256) bad_value refl)
    (h-and (asked_refused a numbers s) _ (h-asked a numbers s)
    (h-and (of_tickets (λ t. unless t.is_sealed (ticket_in_use t.number)) numbers s) _ (h-tickets _ numbers s (λ t. h-unless t.is_sealed (ticket_in_use t.number) refl)) (h-change actor (change_of a numbers s) s gentle short))))

-- ---- pieces and copies

h-of-ticket : (rule : Ticket → List Refusal) (o : Option Ticket) → ((t : Ticket) → AreHarmless (rule t)) → AreHarmless (of_ticket rule o)
h-of-ticket rule None h = (refl, tt)
h-of-ticket rule (Some t) h = h t

h-taking : (number : ℕ) (s : Sight) (t : Ticket) (b : Bool) → AreHarmless (if b then ticket_in_use number ∷ [] else unless (not t.is_sealed) (ticket_in_use number) ++ object_gone (object_of t.purpose) s)
h-taking number s t true = (refl, tt)
h-taking number s t false =
    h-and (unless (not t.is_sealed) (ticket_in_use number)) (object_gone (object_of t.purpose) s) (h-unless (not t.is_sealed) (ticket_in_use number) refl)
    (version-all IsHarmless h-named s.journal (object_of t.purpose) (λ w. []) (λ w. tt) (version (object_of t.purpose) s.inventory))

pub h-copying : (number : ℕ) (s : Sight) → AreHarmless (copying_refused number s)
h-copying number s = h-of-ticket _ (ticket number s.tickets) (λ t. h-taking number s t (is_storing t.purpose))

pub h-sealing : (number : ℕ) (s : Sight) → AreHarmless (seal_refused number s)
h-sealing number s = h-of-ticket _ (ticket number s.tickets) (λ t. h-unless (length t.bytes == t.size) (refused.Changed t.size (length t.bytes)) refl)

pub h-dropping : (number : ℕ) (s : Sight) → AreHarmless (drop_refused number s)
h-dropping number s = h-of-ticket _ (ticket number s.tickets) (λ t. tt)

h-already : (o : Option CopyRow) → AreHarmless (copied_already o)
h-already None = tt
h-already (Some copy) = (refl, tt)

pub h-opening : (object : ℕ) (a : Aim) (s : Sight) → AreHarmless (copy_refused_by object a s)
h-opening object (aim.New number) s = (refl, tt)
h-opening object (aim.Move from placed to along) s =
    h-and (unless (is_some (pool to s.inventory)) refused.NotFound) _ (h-unless (is_some (pool to s.inventory)) refused.NotFound refl)
    (version-all IsHarmless h-named s.journal object (copy_refused s.journal object from placed)
    (λ w. h-unless (placed_by placed (copy_in from w)) (stale_copy (s.journal.copy_changed object from) (copy_in from w)) (stale-or IsHarmless h-named (s.journal.copy_changed object from) (copy_in from w))) (version object s.inventory))
h-opening object (aim.Copy to) s =
    h-and (unless (is_copy_pool to s) refused.NotFound) _ (h-unless (is_copy_pool to s) refused.NotFound refl)
    (version-all IsHarmless h-named s.journal object _ (λ w. h-already (copy_in to w)) (version object s.inventory))

h-placing : (can : Bool) (placed : Result Place Refusal) → HasPlace placed → AreHarmless (placing_refused can placed)
h-placing true (Ok place) h = tt
h-placing true (Err e) h = (h, tt)
h-placing false placed h = tt

-- ---- questions

found-harmless : {A : Type 0} (r : Result A Refusal) → IsFound r → AreHarmless (refusal_of r)
found-harmless (Ok x) h = tt
found-harmless (Err f) h = (h-as f refused.NotFound refl h, tt)

pub h-asking : (q : Query) (v : Inv) → AreHarmless (refusal_of (answered q v))
h-asking q v = found-harmless (answered q v) (answered-found q v)

-- ---- what can be read

-- a copy that can be read isn't lost, where no count of faults rose
copy-kept : (m next : Machine) (t : Ticket) → ((file : ℕ) → RoseAt m.counts next.counts file → ⊥) → (copy : CopyRow) → IsReadableIn (length t.bytes) (next_count t) copy (inventory m.core)
    → IsCopyLost (RoseAt m.counts next.counts) (inventory m.core) (length t.bytes) (next_count t) copy → ⊥
copy-kept m next t never copy all (s, has, inl unreadable) =
    false≢true (sym unreadable ∙ contained_holds (λ (x : Segment). is_readable x.file (inventory m.core) ≡ true) (segments_in 0 (length t.bytes) (next_count t) copy.segments) s has all)
copy-kept m next t never copy all (s, has, inr rose) = never s.file rose

-- nor is the piece that a ticket takes next lost for each copy
pub read-never : (m next : Machine) (t : Ticket) → CanTake t (inventory m.core) → ((file : ℕ) → RoseAt m.counts next.counts file → ⊥) → (o : Option Version) → version (object_of t.purpose) (inventory m.core) ≡ o
    → IsLostFor m next 0 (length t.bytes) (next_count t) o → ⊥
read-never m next t can never None is lost = lost
read-never m next t can never (Some w) is lost =
    let k = can w is in
    let one = contained_holds (IsCopyLost (RoseAt m.counts next.counts) (inventory m.core) (length t.bytes) (next_count t)) w.copies k.0 k.1 lost in
    copy-kept m next t never k.0 k.2 one

-- ---- steps

module _ (m next : Machine) (e : Refusal) where
  pub ask-harmless : (q : Query) → Asks 0 q m next (Err e) → IsHarmless e
  ask-harmless q (inl (inl why, stays)) = h-answered _ e (h-and (ended m) _ (h-ended m) (h-asking q (inventory m.core))) why
  ask-harmless q (inl (inr memory, stays)) = h-as e refused.Memory refl memory
  ask-harmless q (inr (none, never)) = absurd never

  pub force-harmless : Forces 0 m next (Err e) → IsHarmless e
  force-harmless (inl (inl why, stays)) = h-answered (ended m) e (h-ended m) why
  force-harmless (inl (inr memory, stays)) = h-as e refused.Memory refl memory
  force-harmless (inr (none, (file, count, is, fault, becomes))) = h-as e (refused.LogFault file count) refl is

  pub open-harmless : (places : Places) (object : ℕ) (a : Aim) (avoid : ℕ) → ((placed : Result Place Refusal) → IsCopyPlaced places object a avoid m.core placed → HasPlace placed) → OpensCopy places 0 object a avoid m next (Err e) → IsHarmless e
  open-harmless places object a avoid room (placed, at, inl (inl why, stays)) =
      h-answered _ e
      (h-and (ended m) _ (h-ended m)
      (h-and (copy_refused_by object a (sight 0 m.core)) _ (h-opening object a (sight 0 m.core))
      (h-and (placing_refused (can_place_copy object a (inventory m.core)) placed) _ (h-placing (can_place_copy object a (inventory m.core)) placed (room placed at))
      (h-unless (nat_lt (m.core.next_ticket + 1) (2 ^ 62)) refused.InventoryFull refl)))) why
  open-harmless places object a avoid room (placed, at, inl (inr memory, stays)) = h-as e refused.Memory refl memory
  open-harmless places object a avoid room (placed, at, inr (none, never)) = absurd never

  pub piece-harmless : (number : ℕ) → ((t : Ticket) → IsTicket 0 number m t → CanTake t (inventory m.core)) → ((file : ℕ) → RoseAt m.counts next.counts file → ⊥) → CopiesPiece 0 number m next (Err e) → IsHarmless e
  piece-harmless number can never (inl (inl why, stays)) =
      h-answered _ e (h-and (ended m) (copying_refused number (sight 0 m.core)) (h-ended m) (h-copying number (sight 0 m.core))) why
  piece-harmless number can never (inl (inr memory, stays)) = h-as e refused.Memory refl memory
  piece-harmless number can never (inr (none, inl (t, is, why, cant, stays))) = absurd (read-never m next t (can t is) never (version (object_of t.purpose) (inventory m.core)) refl cant)
  piece-harmless number can never (inr (none, inr (t, file, is, has, why, rose, becomes))) = absurd (never file rose)

  pub seal-harmless : (number : ℕ) → ((file : ℕ) → RoseAt m.counts next.counts file → ⊥) → Seals 0 number m next (Err e) → IsHarmless e
  seal-harmless number never (inl (inl why, stays)) =
      h-answered _ e (h-and (ended m) (seal_refused number (sight 0 m.core)) (h-ended m) (h-sealing number (sight 0 m.core))) why
  seal-harmless number never (inl (inr memory, stays)) = h-as e refused.Memory refl memory
  seal-harmless number never (inr (none, (t, file, is, has, why, rose, becomes))) = absurd (never file rose)

  pub drop-harmless : (number : ℕ) → Drops 0 number m next (Err e) → IsHarmless e
  drop-harmless number (inl (inl why, stays)) = h-answered _ e (h-and (ended m) (drop_refused number (sight 0 m.core)) (h-ended m) (h-dropping number (sight 0 m.core))) why
  drop-harmless number (inl (inr memory, stays)) = h-as e refused.Memory refl memory
  drop-harmless number (inr (none, never)) = absurd never

  pub commit-harmless : (a : Asked) (numbers : List ℕ) → ((c : Change) → asked_change 0 a numbers m.core ≡ Some c → IsGentle c) → ((c : Change) → asked_change 0 a numbers m.core ≡ Some c → IsShort c) → Commits 0 a numbers m next (Err e)
      → IsHarmless e
  commit-harmless a numbers gentle short (inl (inl why, stays)) =
      h-answered _ e
      (h-and (ended m) _ (h-ended m)
      (h-and (commit_refused 0 a numbers (sight 0 m.core)) _ (h-commit 0 a numbers (sight 0 m.core) gentle short) (h-others (asked_change 0 a numbers m.core) m.core gentle))) why
  commit-harmless a numbers gentle short (inl (inr memory, stays)) = h-as e refused.Memory refl memory
  commit-harmless a numbers gentle short (inr (none, (c, file, count, is, why, fault, joins))) = h-as e (refused.LogFault file count) refl why
