-- The reuse of a volume as a transaction that may join: what is asked of it, and what the step's refusals rule out.
use Rattle.std.proofs.Common.{◌≡◌, inl, ℕ, ◌+◌, ◌≤◌, ◌^◌, ◌&&◌, Bool, true, false, not, List, [], ◌∷◌, ◌++◌, length, Option, None, Some, Ok, Err, is_some, refl, sym, ap, subst, ◌∙◌, if◌then◌else◌, arith}
use Rattle.std.specs.Prelude.{◌==◌, IfSome, nat_le, nat_lt}
use Rattle.std.specs.Int.{to_be_bytes, w32}
use Rattle.std.specs.List.{AllByRecursion, find, list_all}
use Rattle.std.specs.Option.{option_map_or}
use Rattle.std.proofs.lemmas.Bool.{and_parts, eqb-false, false≢true}
use Rattle.store_api.specs.Disk.{History}
use Rattle.kinds.specs.Refusals.{foremost, place_of, refusal_of, sooner_of, unless}
use Rattle.kinds.specs.declared.refusal.By.TheVariants as by
use Rattle.kinds.specs.declared.refusal.Holder.TheVariants as holder
use Rattle.kinds.specs.declared.refusal.Refusal.{Refusal}
use Rattle.kinds.specs.declared.refusal.Refusal.TheVariants as refusal
use Rattle.kinds.specs.declared.segment.Segment.{Segment}
use Rattle.item_refusals.proofs.Foremost.{foremost_append}
use Rattle.entries.specs.ChangeForm.{change as change_form, change_body, data_body}
use Rattle.entries.specs.EntryForm.{entry as entry_form, entry_in}
use Rattle.entries.specs.declared.change.Change.{Change}
use Rattle.entries.specs.declared.change.Change.TheVariants as change
use Rattle.inventory.proofs.Nothing.{none_of as nothing}
use Rattle.inventory_rows.specs.Items.{count_items, most_items}
use Rattle.inventory_rows.specs.pool_rows.PoolRows.{PoolRows}
use Rattle.inventory_rows.specs.pool_rows.Segments.{reuse_row}
use Rattle.inventory_rows.specs.pool_tables.Rows.{row_at}
use Rattle.inventory_rows.specs.Search.{pool, versions}
use Rattle.inventory_rows.specs.State.{Inv}
use Rattle.inventory_rows.specs.volume_rows.declared.volume.Volume.{Volume}
use Rattle.inventory_rules.specs.Facts.{Facts}
use Rattle.inventory_rules.specs.Held.{IsTied}
use Rattle.inventory_rules.specs.Journal.{Journal}
use Rattle.inventory_rules.specs.Run.{journal_of}
use Rattle.inventory_rules.specs.Transactions.{causes, effect, refused, sizes_refused, then_valid}
use Rattle.inventory_rules.specs.Valid.{is_of_pool, is_valid}
use Rattle.inventory_laws.proofs.Facts.{facts_of}
use Rattle.inventory_laws.proofs.Lists.{all_of, each_also, each_any, none_of}
use Rattle.inventory_laws.proofs.Tests.{both_none}
use Rattle.contents.proofs.Segments.{EachSegment, versions_pass}
use Rattle.steps.specs.Events.{is_listed}
use Rattle.steps.specs.Events.Deed.{Reuse}
use Rattle.machine.specs.Causes.{listed, reuse_refused}
use Rattle.machine.specs.Machine.{committed, ended, has_file, held_by, made, with_tickets}
use Rattle.machine.specs.State.{Core, Image, Machine, Ticket, inventory, sight, without}
use Rattle.machine.proofs.Elsewhere.{append-all, foremost-all, unless-all}
use Rattle.hall.specs.Covered.{NumbersAreDrawn}
use Rattle.hall.specs.Good.{Is}
use Rattle.hall.specs.Held.{Hall, Held, IsCore}
use Rattle.hall.specs.Reusing.{reuse_causes}
use Rattle.hall.specs.Seats.{ended_at}
use Rattle.hall.specs.Sights.{sight_of, tickets_of}
use Rattle.hall.specs.Steps.{Steps}
use Rattle.hall.proofs.Deciding.{illegal_all, reuse_all}
use Rattle.hall.proofs.DrawnNext.{KeepsBackup}
use Rattle.hall.proofs.Dropping.{no_later}
use Rattle.hall.proofs.Ended.{ended_first, ended_has, ended_is, next_answers}
use Rattle.hall.proofs.Joining.{Joins}
use Rattle.hall.proofs.Keeping.{none_held}
use Rattle.hall.proofs.Refusing.{held_forgot}
use Rattle.hall.proofs.Sighted.{sight_is, tickets_are}
use Rattle.hall.proofs.VolumesStay.{KeepsVolume}

-- ---- its record

entry_bytes : (actor file : ℕ) → entry_form.spell (record { actor = actor; change = change.Reuse file }) ≡ to_be_bytes w32 actor ++ (20 ∷ to_be_bytes w32 file)
unfolding entry_in change_form change_body data_body
entry_bytes actor file = refl

pub short_record : (actor file : ℕ) → length (entry_form.spell (record { actor = actor; change = change.Reuse file })) ≤ 2 ^ 24
short_record actor file =
    let bytes : length (entry_form.spell (record { actor = actor; change = change.Reuse file })) ≡ length (to_be_bytes w32 actor ++ (20 ∷ to_be_bytes w32 file)) = ap length (entry_bytes actor file) in
    let long : length (to_be_bytes w32 actor ++ (20 ∷ to_be_bytes w32 file)) ≡ 9 = refl in
    omega (arith, bytes, long)

-- ---- a transaction without tickets

pub none_among : (actor : ℕ) (ts : List Ticket) → without actor [] ts ≡ ts
none_among actor [] = refl
none_among actor (t ∷ ts) =
    ap (λ b. if not b then t ∷ without actor [] ts else without actor [] ts) (and_false (t.actor == actor)) ∙ ap (λ (l : List Ticket). t ∷ l) (none_among actor ts)
  where
    and_false : (b : Bool) → (b && false) ≡ false
    and_false true = refl
    and_false false = refl

pub made_alone : (actor : ℕ) (x : Change) (c : Core) → committed actor x [] c ≡ made actor x c
made_alone actor x c = ap (λ (ts : List Ticket). made actor x (with_tickets ts c)) (none_among actor c.tickets)

module _ (actor file : ℕ) (c : Core) where
  abbrev x : Change
  x = change.Reuse file

  -- no ticket has space on the volume
  pub no_ticket : held_by (has_file file) c.tickets ≡ [] → AllByRecursion (λ t. AllByRecursion (λ s. file ≡ s.file → ⊥) t.place.segments) c.tickets
  no_ticket held =
      each_also (λ t. has_file file t ≡ false) (λ t. AllByRecursion (λ s. file ≡ s.file → ⊥) t.place.segments) c.tickets
      (λ t isnt. each_also (λ (s : Segment). (s.file == file) ≡ false) (λ s. file ≡ s.file → ⊥) t.place.segments (λ s ne e. eqb-false s.file file ne (sym e))
      (none_of (λ (s : Segment). s.file == file) t.place.segments isnt)) (none_held (has_file file) c.tickets held)

  any_image : (o : Option Image) → IfSome o (λ i. KeepsBackup i.file x)
  any_image None = tt
  any_image (Some i) = tt

  pub reuse_joins : refused (journal_of c.base c.journal) x (inventory c) ≡ None → held_by (has_file file) c.tickets ≡ [] → NumbersAreDrawn c → Joins actor x [] c
  reuse_joins legal held n = record {
    legal = legal;
    once = refl;
    there = tt;
    spends = tt;
    objects = tt;
    places = tt;
    pools = each_any _ c.tickets (λ t. tt);
    volumes = each_also (λ t. AllByRecursion (λ s. file ≡ s.file → ⊥) t.place.segments) (λ t. AllByRecursion (λ s. KeepsVolume s.file x (inventory c) × KeepsBackup s.file x) t.place.segments) c.tickets
        (λ t none. each_also (λ s. file ≡ s.file → ⊥) (λ s. KeepsVolume s.file x (inventory c) × KeepsBackup s.file x) t.place.segments (λ s ne. (ne, tt)) none) (no_ticket held);
    image = any_image c.image;
    files = λ k number no. absurd no;
    draws = tt;
    bound = n.bounds.0;
    further = omega arith;
    short = short_record actor file;
  }

-- ---- the volume

some_row : (file today : ℕ) (s : PoolRows) (o : Option Volume) → refusal_of (reuse_row s file today o) ≡ [] → is_some o ≡ true
some_row file today s None h = absurd cc
some_row file today s (Some v) h = refl

-- it is there
pub reused_there : (j : Journal) (file : ℕ) (v : Inv) → causes j (change.Reuse file) v ≡ [] → is_some (row_at file v.stores.volumes) ≡ true
reused_there j file v h = some_row file v.today v.stores (row_at file v.stores.volumes) h

-- copies lie on volumes that are there
pub on_cited : (v : Inv) → is_valid v ≡ true → EachSegment (λ s. is_some (row_at s.file v.stores.volumes) ≡ true) (versions v)
on_cited v valid =
    let f : Facts v = facts_of v valid in
    versions_pass (λ e. is_some (pool e.1.pool v) && list_all (λ s. is_of_pool e.1.pool (row_at s.file v.stores.volumes)) e.1.segments) (λ s. is_some (row_at s.file v.stores.volumes) ≡ true)
    (λ e h. each_also (λ (s : Segment). is_of_pool e.1.pool (row_at s.file v.stores.volumes) ≡ true) (λ s. is_some (row_at s.file v.stores.volumes) ≡ true) e.1.segments
    (λ s is. of_there e.1.pool (row_at s.file v.stores.volumes) is)
    (all_of (λ (s : Segment). is_of_pool e.1.pool (row_at s.file v.stores.volumes)) e.1.segments (and_parts (is_some (pool e.1.pool v)) _ h).1))
    (versions v) f.copies_cite
  where
    of_there : (number : ℕ) (o : Option Volume) → is_of_pool number o ≡ true → is_some o ≡ true
    of_there number None h = h
    of_there number (Some volume) h = refl

-- ---- its refusals

-- the law that a legal reuse leaves a valid database
abbrev pub LeavesValid : Type 0
LeavesValid =
    (j : Journal) (file : ℕ) (v : Inv) → is_valid v ≡ true → IsTied v → causes j (change.Reuse file) v ≡ [] → sizes_refused (change.Reuse file) v ≡ []
    → (is_valid (effect (change.Reuse file) v) ≡ true) × IsTied (effect (change.Reuse file) v)

-- where none of these causes refuses a change, and what it leaves is valid, nothing does
pub as_valid : (P : Refusal → Type 0) (es : List Refusal) → AllByRecursion P es → (b : Bool) → (es ≡ [] → b ≡ true) → AllByRecursion P (listed (then_valid (foremost es) b))
as_valid P es all b valid = go (foremost es) refl b refl where
  go : (o : Option Refusal) → foremost es ≡ o → (t : Bool) → b ≡ t → AllByRecursion P (listed (then_valid o t))
  go (Some e) at t is = (foremost-all P es all e at, tt)
  go None at true is = tt
  go None at false is = absurd (false≢true (sym is ∙ valid (nothing es at)))

module _ (P : Refusal → Type 0) (none : P refusal.NotFound) (used : (object : ℕ) → P (refusal.InUse (by.Object object))) (early : (file day : ℕ) → P (refusal.NotYet file day)) (full : P refusal.InventoryFull)
    (busy : (n : ℕ) → P (refusal.Busy (holder.Ticket n))) where
  held_all : (test : Ticket → Bool) (ts : List Ticket) → AllByRecursion P (held_by test ts)
  held_all test ts = go (find test ts) where
    go : (o : Option Ticket) → AllByRecursion P (option_map_or (λ t. refusal.Busy (holder.Ticket t.number) ∷ []) o [])
    go None = tt
    go (Some t) = (busy t.number, tt)

  rules_all : LeavesValid → (j : Journal) (file : ℕ) (v : Inv) → is_valid v ≡ true → IsTied v → AllByRecursion P (listed (refused j (change.Reuse file) v))
  unfolding refused
  rules_all leaves j file v valid tied =
      as_valid P (causes j (change.Reuse file) v ++ sizes_refused (change.Reuse file) v)
      (append-all P (causes j (change.Reuse file) v) (sizes_refused (change.Reuse file) v) (reuse_all P none used early file v.today v.stores (row_at file v.stores.volumes))
      (append-all P (unless (nat_le (count_items (effect (change.Reuse file) v)) most_items) refusal.InventoryFull) (unless (nat_lt (v.number + 1) (2 ^ 62)) refusal.InventoryFull)
      (unless-all P (nat_le (count_items (effect (change.Reuse file) v)) most_items) refusal.InventoryFull full) (unless-all P (nat_lt (v.number + 1) (2 ^ 62)) refusal.InventoryFull full)))
      (is_valid (effect (change.Reuse file) v))
      (λ free. let parts = both_none (causes j (change.Reuse file) v) (sizes_refused (change.Reuse file) v) free in (leaves j file v valid tied parts.0 parts.1).0)

  -- each of them is one of these
  pub causes_all : LeavesValid → (actor file : ℕ) (h : Held) → is_valid h.vault.database ≡ true → IsTied h.vault.database → AllByRecursion P (reuse_causes actor file h)
  causes_all leaves actor file h valid tied =
      append-all P (reuse_refused file (sight_of actor h)) (held_by (has_file file) (tickets_of h.seats))
      (rules_all leaves (journal_of h.base h.vault.journal) file h.vault.database valid tied) (held_all (has_file file) (tickets_of h.seats))

pub refusal_listed : LeavesValid → (actor file : ℕ) (h : Held) (v : Inv) → v ≡ h.vault.database → is_valid v ≡ true → IsTied v → (e : Refusal) → foremost (reuse_causes actor file h) ≡ Some e
    → is_listed (Reuse file (Err e)) ≡ true
unfolding is_listed
refusal_listed leaves actor file h v same valid tied e at =
    foremost-all (λ x. is_listed (Reuse file (Err x)) ≡ true) (reuse_causes actor file h)
    (causes_all (λ x. is_listed (Reuse file (Err x)) ≡ true) refl (λ object. refl) (λ file day. refl) refl (λ n. refl) leaves actor file h (subst (λ d. is_valid d ≡ true) same valid) (subst IsTied same tied)) e at

-- ---- what is answered

listed_first : (o : Option Refusal) → foremost (listed o) ≡ o
listed_first None = refl
listed_first (Some e) = refl

-- what the rules refuse, and the least ticket that has space there
pub decided : (actor file : ℕ) (h : Held) (past : Journal) (illegal held : Option Refusal) → past ≡ journal_of h.base h.vault.journal → illegal ≡ refused past (change.Reuse file) h.vault.database
    → held ≡ foremost (held_by (has_file file) (tickets_of h.seats)) → sooner_of illegal held ≡ foremost (reuse_causes actor file h)
decided actor file h past illegal held same is_illegal is_held =
    let rules : illegal ≡ refused (journal_of h.base h.vault.journal) (change.Reuse file) h.vault.database = is_illegal ∙ ap (λ (j : Journal). refused j (change.Reuse file) h.vault.database) same in
    (λ i. sooner_of (rules i) (is_held i))
    ∙ ap (λ o. sooner_of o (foremost (held_by (has_file file) (tickets_of h.seats)))) (sym (listed_first (refused (journal_of h.base h.vault.journal) (change.Reuse file) h.vault.database)))
    ∙ sym (foremost_append (reuse_refused file (sight_of actor h)) (held_by (has_file file) (tickets_of h.seats)))

-- what refuses it over what the hall holds is what refuses it by the machine
pub causes_alike : (actor file : ℕ) (h : Held) (c : Core) → IsCore h c → reuse_causes actor file h ≡ reuse_refused file (sight actor c) ++ held_by (has_file file) c.tickets
causes_alike actor file h c is =
    let rules : reuse_refused file (sight_of actor h) ≡ reuse_refused file (sight actor c) = ap (reuse_refused file) (sight_is actor h c is) in
    let tickets : held_by (has_file file) (tickets_of h.seats) ≡ held_by (has_file file) c.tickets =
    ap (held_by (has_file file)) (tickets_are h.seats c.tickets is.tickets) ∙ held_forgot (has_file file) (λ t. refl) c.tickets in
    λ i. rules i ++ tickets i

-- none comes before a full run and a fault
causes_late : (actor file : ℕ) (h : Held) → AllByRecursion (λ e. 1 ≤ place_of e) (reuse_causes actor file h)
causes_late actor file h =
    append-all (λ e. 1 ≤ place_of e) (reuse_refused file (sight_of actor h)) (held_by (has_file file) (tickets_of h.seats))
    (illegal_all (λ e. 1 ≤ place_of e) (omega arith) (omega arith) (journal_of h.base h.vault.journal) (change.Reuse file) h.vault.database
    (reuse_all (λ e. 1 ≤ place_of e) (omega arith) (λ object. omega arith) (λ file day. omega arith) file h.vault.database.today h.vault.database.stores (row_at file h.vault.database.stores.volumes)))
    (held_all (λ e. 1 ≤ place_of e) (omega arith) (λ object. omega arith) (λ file day. omega arith) (omega arith) (λ n. omega arith) (has_file file) (tickets_of h.seats))

module _ {S : Type 0} (told : S → Option History) (moment : S → ℕ) (faults : S → ℕ → ℕ) (actor file : ℕ) (hall : Hall S) where
  pub answered_alike : (m : Machine) → Is told moment faults hall m
      → foremost (ended m ++ (reuse_refused file (sight actor m.core) ++ held_by (has_file file) m.core.tickets)) ≡ foremost (ended_at (moment hall.store) hall.held ++ reuse_causes actor file hall.held)
  answered_alike m is =
      let full : ended m ≡ ended_at (moment hall.store) hall.held = ended_is (moment hall.store) hall.held m is.core is.clock in
      let rest : reuse_refused file (sight actor m.core) ++ held_by (has_file file) m.core.tickets ≡ reuse_causes actor file hall.held = sym (causes_alike actor file hall.held m.core is.core) in
      λ i. foremost (full i ++ rest i)

  refused_by : (e : Refusal) → foremost (ended_at (moment hall.store) hall.held ++ reuse_causes actor file hall.held) ≡ Some e → Steps told moment faults actor (Reuse file (Err e)) hall hall
  refused_by e at = λ m is.
      (m.contents, m, refl, record { number = refl; later = no_later m m.contents m refl refl; step = inl (inl (answered_alike m is ∙ at), record { core = refl; contents = refl }) }, is)

  -- the run is full, or a fault has halted the hall
  pub declines_ended : (e : Refusal) → foremost (ended_at (moment hall.store) hall.held) ≡ Some e → Steps told moment faults actor (Reuse file (Err e)) hall hall
  declines_ended e full = refused_by e (ended_first (moment hall.store) hall.held (reuse_causes actor file hall.held) e full (causes_late actor file hall.held))

  -- it may not be reused
  pub declines : (e : Refusal) → foremost (ended_at (moment hall.store) hall.held) ≡ None → foremost (reuse_causes actor file hall.held) ≡ Some e → Steps told moment faults actor (Reuse file (Err e)) hall hall
  declines e free at = refused_by e (next_answers (ended_at (moment hall.store) hall.held) (reuse_causes actor file hall.held) free ∙ at)

  -- nothing refuses it
  pub may_begin : foremost (ended_at (moment hall.store) hall.held) ≡ None → foremost (reuse_causes actor file hall.held) ≡ None → (m : Machine) → Is told moment faults hall m
      → foremost (ended m ++ (reuse_refused file (sight actor m.core) ++ held_by (has_file file) m.core.tickets)) ≡ None
  may_begin free none m is = answered_alike m is ∙ next_answers (ended_at (moment hall.store) hall.held) (reuse_causes actor file hall.held) free ∙ none

pub ended_listed : (file moment : ℕ) (h : Held) (e : Refusal) → foremost (ended_at moment h) ≡ Some e → is_listed (Reuse file (Err e)) ≡ true
unfolding is_listed
ended_listed file moment h e is = ended_has (λ x. is_listed (Reuse file (Err x)) ≡ true) refl (λ file count. refl) moment h e is

pub fault_listed : (file : ℕ) (e : Refusal) (log count : ℕ) → e ≡ refusal.LogFault log count → is_listed (Reuse file (Err e)) ≡ true
unfolding is_listed
fault_listed file e log count is = ap (λ x. is_listed (Reuse file (Err x))) is

pub memory_listed : (file : ℕ) (e : Refusal) → e ≡ refusal.Memory → is_listed (Reuse file (Err e)) ≡ true
unfolding is_listed
memory_listed file e is = ap (λ x. is_listed (Reuse file (Err x))) is

pub number_listed : (file number : ℕ) → is_listed (Reuse file (Ok number)) ≡ true
unfolding is_listed
number_listed file number = refl
