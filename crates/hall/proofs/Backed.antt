-- The step that begins a database backup.
use Rattle.std.proofs.Common.{◌≡◌, ◌⊎◌, inl, inr, ℕ, ◌+◌, ◌-◌, ◌<◌, ◌≤◌, ◌^◌, Bool, true, false, not, ◌&&◌, is_none, cond, List, [], ◌∷◌, ◌++◌, length, drop, take, Option, None, Some, Result, Ok, Err, is_some, refl, sym, ap, subst, ◌∙◌, arith}
use Rattle.std.specs.Prelude.{IfSome, nat_le, nat_lt, ◌==◌, All}
use Rattle.std.specs.BTreeMap.{is_at}
use Rattle.std.specs.List.{AllByRecursion, list_all}
use Rattle.std.specs.Map.{lookup}
use Rattle.std.specs.Option.{option_map_or}
use Rattle.std.specs.Ordering.{nat_cmp}
use Rattle.std.proofs.lemmas.Bool.{and_parts, leb-true}
use Rattle.std.proofs.lemmas.List.{drop-append-le, length-append, length-drop, take_all}
use Rattle.store_api.specs.Cause.{NoneFell, Rose}
use Rattle.store_api.specs.Disk.{History, now, reads, settled, standing}
use Rattle.store_api.specs.Runs.{GoesOn, Synced}
use Rattle.store_api.specs.Told.{Told}
use Rattle.store_api.proofs.Runs.{goes_standing, told_map}
use Rattle.kinds.specs.Refusals.{bad_value, foremost, unless}
use Rattle.kinds.specs.declared.refusal.Refusal.{Refusal}
use Rattle.kinds.specs.declared.refusal.Refusal.TheVariants as refusal
use Rattle.store_api.specs.declared.store.Failed.{Failed}
use Rattle.fields.specs.Editions.{second_form}
use Rattle.entries.specs.Meaning.{Spells}
use Rattle.entries.specs.declared.change.Change.{Change}
use Rattle.entries.specs.declared.change.Change.TheVariants as change
use Rattle.entries.specs.declared.entry.Entry.{Entry}
use Rattle.backup_payloads.specs.Increments.{IsIncrement}
use Rattle.backup_payloads.specs.Holding.{holding, IsShort}
use Rattle.db_image.specs.Steps.{CanShut, Job}
use Rattle.db_image.specs.declared.phase.Phase.TheVariants.{Begun}
use Rattle.inventory.specs.Meant.{meaning}
use Rattle.inventory_rows.specs.declared.backup.Backup.{Backup}
use Rattle.inventory_rows.specs.pool_tables.Rows.{row_at}
use Rattle.inventory_rows.specs.version_groups.Entries.{all_later}
use Rattle.inventory_rows.specs.State.{Inv}
use Rattle.inventory.proofs.Nothing.{is_free, none_of}
use Rattle.inventory_laws.proofs.Causes.{back_nil, front_nil}
use Rattle.inventory_laws.proofs.Facts.{facts_of}
use Rattle.inventory_laws.proofs.ScratchBack.{own_row}
use Rattle.inventory_laws.proofs.Tests.{unless_holds}
use Rattle.inventory_rules.specs.Backups.{after_refused, backup_at, is_done, is_unfinished}
use Rattle.inventory_rules.specs.Common.{file_bound, files_refused, is_free_file}
use Rattle.inventory_rules.specs.Journal.{Journal}
use Rattle.inventory_rules.specs.Run.{journal_of}
use Rattle.inventory_rules.specs.Transactions.{causes, effect, refused}
use Rattle.inventory_rules.specs.Valid.{is_valid}
use Rattle.steps.specs.Events.{Deed}
use Rattle.steps.specs.Events.Deed.{Image as TakeImage}
use Rattle.steps.specs.declared.image.ImageKind.TheVariants as kind
use Rattle.steps.specs.declared.image.ImageReply.{ImageReply}
use Rattle.steps.specs.declared.image.ImageReply.TheVariants as reply
use Rattle.vault.specs.Files.{IsOurs, log_file}
use Rattle.vault.specs.Vaults.{Forces, State, Waits, all_forced, in_doubt, with_fault, with_waiting}
use Rattle.machine.specs.Causes.{image_refused, listed, since_refused}
use Rattle.machine.specs.Machine.{begun, ended, halting, in_progress, made, stamped, with_image, durable}
use Rattle.machine.specs.State.{Core, Image, Machine, Sight, backup, inventory, sight}
use Rattle.hall.specs.Backing.{IsHolding, backed_up, backup_begun, backup_by, backup_refused, begin_entry, begin_of, begun_forced, begun_waiting, job_by, kind_of, with_job, since_number}
use Rattle.hall.specs.Covered.{NumbersAreDrawn, left_open}
use Rattle.hall.specs.Good.{AllInProgress, InProgress, Is, IsKept, IsListed, IsPayload, WasSound, IsLawful}
use Rattle.hall.specs.Held.{BegunImage, Hall, Held, IsBackup, IsCore, IsImage, begun_of}
use Rattle.hall.specs.Imaging.{image_held}
use Rattle.hall.specs.Seats.{ended_at}
use Rattle.hall.specs.Sights.{sight_of}
use Rattle.db_image.proofs.One.{can_shut as settled_shut}
use Rattle.hall.proofs.Away.{IsUnused, is_away, is_there, next_unused}
use Rattle.hall.proofs.Backing.{imaged_at, is_imaged}
use Rattle.hall.proofs.BackedUp.{found_number}
use Rattle.hall.proofs.BackupJoins.{begin_joins, begin_takes, begin_possible}
use Rattle.hall.proofs.Ended.{ended_is, next_answers, none_halted}
use Rattle.hall.proofs.Forced.{forced_is, halted_is}
use Rattle.hall.proofs.Databases.{left_alone}
use Rattle.hall.proofs.Forcing.{all_have_stamps}
use Rattle.hall.proofs.Imaging.{held_alike, no_image, none_held, nothing_pends, parts_none}
use Rattle.hall.proofs.JoinedIs.{doubted_is, waiting_is}
use Rattle.hall.proofs.Joining.{Joins, all_of_it, last, valid_now}
use Rattle.hall.proofs.Reusable.{none_among}
use Rattle.hall.proofs.Runs.{after_end}
use Rattle.hall.proofs.Sighted.{forgetting, sight_is}
use Rattle.machine.proofs.Histories.{after-number}
use Rattle.vault.specs.Pieces.{Pending}
use Rattle.hall.specs.Protected.{HadBackups, KeepsAllBackups}
use Rattle.hall.proofs.BackupsAlike.{same_keeps}
use Rattle.hall.proofs.BackupsSpared.{durable_there, fresh_keeps, open_of}
use Rattle.hall.proofs.BackupsOver.{backs_over}
use Rattle.hall.proofs.BackupsBegun.{HoldsIt, begins_keeps}
use Rattle.hall.proofs.JoinedBackups.{all_joined}
use Rattle.hall.proofs.PlacesChosen.{scratch_absent}
use Rattle.hall.proofs.Promising.{number_begun}
use Rattle.hall.proofs.Stamped.{numbers_same}
use Rattle.vault.proofs.Goodness.{held_since}

-- ---- the refusals that hold

pub record MayBack (actor moment : ℕ) (after : Option ℕ) (h : Held) : Type 0 where
  pub free : foremost (ended_at moment h) ≡ None
  pub causes : image_refused (kind_of after) (sight_of actor h) ≡ []
  pub none : h.image ≡ None

pub may_back : (actor moment : ℕ) (after : Option ℕ) (h : Held) → foremost (backup_refused actor moment after h) ≡ None → MayBack actor moment after h
may_back actor moment after h none =
    let illegal : List Refusal = image_refused (kind_of after) (sight_of actor h) in
    let a = parts_none (ended_at moment h) (illegal ++ image_held h.image) none in
    let b = parts_none illegal (image_held h.image) a.1 in
    record { free = a.0; causes = none_of illegal b.0; none = none_held h.image b.1 }

none_listed : (o : Option Refusal) → listed o ≡ [] → o ≡ None
none_listed None h = refl
none_listed (Some e) h = absurd cc

-- its transaction is legal
pub legal_of : (actor : ℕ) (after : Option ℕ) (h : Held) → image_refused (kind_of after) (sight_of actor h) ≡ [] → refused (journal_of h.base h.vault.journal) (begin_of after h) h.vault.database ≡ None
legal_of actor None h free = none_listed (refused (journal_of h.base h.vault.journal) (begin_of None h) h.vault.database) free
legal_of actor (Some file) h free =
    none_listed (refused (journal_of h.base h.vault.journal) (begin_of (Some file) h) h.vault.database)
    (back_nil (since_refused file (sight_of actor h)) (listed (refused (journal_of h.base h.vault.journal) (begin_of (Some file) h) h.vault.database)) free)

-- a backup that it follows is of this run
pub since_first : (actor file : ℕ) (h : Held) (b : Backup) → image_refused (kind_of (Some file)) (sight_of actor h) ≡ [] → backup_at file h.vault.database ≡ Some b → h.base.number ≤ b.number
since_first actor file h b free at =
    let first : Bool = option_map_or (λ (b : Backup). nat_le h.base.number b.number) (backup_at file h.vault.database) false in
    let front : unless (is_done (backup_at file h.vault.database) && first) refusal.NotFound ≡ [] =
    front_nil (unless (is_done (backup_at file h.vault.database) && first) refusal.NotFound)
    (unless (option_map_or (λ (b : Backup). nat_lt (h.vault.database.number + 1 - b.number) (2 ^ 32)) (backup_at file h.vault.database) true) refusal.InventoryFull)
    (front_nil (since_refused file (sight_of actor h)) (listed (refused (journal_of h.base h.vault.journal) (begin_of (Some file) h) h.vault.database)) free) in
    let both = and_parts (is_done (backup_at file h.vault.database)) first (unless_holds (is_done (backup_at file h.vault.database) && first) refusal.NotFound front) in
    leb-true h.base.number b.number (subst (λ (o : Option Backup). option_map_or (λ (b : Backup). nat_le h.base.number b.number) o false ≡ true) at both.1)

-- the same as the machine has them
forget_alike : (after : Option ℕ) (s : Sight) → image_refused (kind_of after) s ≡ image_refused (kind_of after) (forgetting s)
forget_alike None s = refl
forget_alike (Some file) s = refl

pub backing_is : (actor moment : ℕ) (after : Option ℕ) (h : Held) (m : Machine) → IsCore h m.core → m.moment ≡ moment
    → ended m ++ (image_refused (kind_of after) (sight actor m.core) ++ in_progress m.core.image) ≡ backup_refused actor moment after h
backing_is actor moment after h m is at =
    ap (λ (l : List Refusal). l ++ (image_refused (kind_of after) (sight actor m.core) ++ in_progress m.core.image)) (ended_is moment h m is at)
    ∙ ap (λ (l : List Refusal). ended_at moment h ++ (image_refused (kind_of after) (sight actor m.core) ++ l)) (held_alike m.core.image ∙ ap image_held is.image)
    ∙ ap (λ (l : List Refusal). ended_at moment h ++ (l ++ image_held h.image)) (forget_alike after (sight actor m.core) ∙ ap (image_refused (kind_of after)) (sym (sight_is actor h m.core is)))

-- its transaction may join
pub backing_joins : (actor moment : ℕ) (after : Option ℕ) (h : Held) (m : Machine) → IsCore h m.core → MayBack actor moment after h → (numbers : NumbersAreDrawn m.core) → Joins actor (begin_of after h) [] m.core
backing_joins actor moment after h m is may numbers =
    subst (λ k. Joins actor (change.DbBegin k after) [] m.core) (sym is.space.next_file)
    (begin_joins actor m.core numbers (no_image m.core.image (is.image ∙ may.none)) after
    (subst (λ k. refused (journal_of m.core.base m.core.journal) (change.DbBegin k after) (inventory m.core) ≡ None) is.space.next_file
    (subst (λ (b : Inv). refused (journal_of b m.core.journal) (begin_of after h) (inventory m.core) ≡ None) (sym is.base)
    (subst (λ j. refused (journal_of h.base j) (begin_of after h) (inventory m.core) ≡ None) (sym is.journal)
    (subst (λ (v : Inv). refused (journal_of h.base h.vault.journal) (begin_of after h) v ≡ None) is.database (legal_of actor after h may.causes))))))

-- what the machine makes of it
pub begun_last : (actor : ℕ) (after : Option ℕ) (h : Held) (c : Core) → h.claims.next_file ≡ c.next_file → last actor (begin_of after h) [] c ≡ begun actor after c
begun_last actor after h c is =
    ap (λ tickets. record (made actor (begin_of after h) c) { tickets = tickets }) (none_among actor c.tickets) ∙ ap (λ k. made actor (change.DbBegin k after) c) is

-- ---- the backup is listed

pub begun_listed : (file : ℕ) (after : Option ℕ) (v : Inv) → is_unfinished (backup_at file (effect (change.DbBegin file after) v)) ≡ true
unfolding effect
begun_listed file after v = ap is_unfinished (own_row file _ v.backups)

-- its file is none of the vault's
free_from : (v : Inv) (file : ℕ) → files_refused (file ∷ []) v ≡ [] → 4 ≤ file
free_from v file h =
    let all = and_parts (list_all (is_free_file v) (file ∷ [])) (all_later (λ a b. not (a == b)) (file ∷ [])) (unless_holds (list_all (is_free_file v) (file ∷ []) && all_later (λ a b. not (a == b)) (file ∷ [])) bad_value h) in
    leb-true 4 file (and_parts (nat_le 4 file) (is_none (row_at file v.stores.volumes) && is_none (row_at file v.backups)) (and_parts (is_free_file v file) true all.0).0).0

pub begins_from : (j : Journal) (file : ℕ) (after : Option ℕ) (v : Inv) → refused j (change.DbBegin file after) v ≡ None → 4 ≤ file
begins_from j file after v legal =
    free_from v file (front_nil (files_refused (file ∷ []) v) (file_bound file v) (back_nil (after_refused after v) (files_refused (file ∷ []) v ++ file_bound file v) (is_free j (change.DbBegin file after) v legal).causes))

-- ---- what it holds

-- from a place of a list on, with one element behind it
from_place : {A : Type 0} (n k : ℕ) (xs : List A) (e : A) → n ≤ length xs → length xs + 1 - n ≤ k → take k (drop n (xs ++ e ∷ [])) ≡ drop n xs ++ e ∷ []
from_place n k xs e within long =
    let longer : length (drop n xs ++ (e ∷ [])) ≡ length (drop n xs) + 1 = length-append (drop n xs) (e ∷ []) in
    let front : length (drop n xs) ≡ length xs - n = length-drop n xs in
    ap (take k) (drop-append-le n xs (e ∷ []) within) ∙ take_all k (drop n xs ++ (e ∷ [])) (omega (arith, longer, front, within, long))

-- what a backup holds is the payload of its number, behind its transaction
its_payload : (actor : ℕ) (after : Option ℕ) (h : Held) (bytes : List ℕ) (c : Core) → c.base ≡ h.base → c.journal ≡ h.vault.journal ++ begin_entry actor after h ∷ [] → inventory c ≡ backed_up after h
    → h.vault.database.number ≡ h.base.number + length h.vault.journal → is_valid h.vault.database ≡ true → image_refused (kind_of after) (sight_of actor h) ≡ [] → IsHolding actor after h bytes
    → IsPayload c (h.vault.database.number + 1) bytes
its_payload actor None h bytes c base journal behind number valid free holds =
    let longer : length (h.vault.journal ++ (begin_entry actor None h ∷ [])) ≡ length h.vault.journal + 1 = length-append h.vault.journal (begin_entry actor None h ∷ []) in
    let all : length c.journal ≡ length (h.vault.journal ++ (begin_entry actor None h ∷ [])) = ap (λ (l : List Entry). length l) journal in
    let first : c.base.number ≡ h.base.number = ap (λ (v : Inv). v.number) base in
    inl (subst (Spells meaning second_form bytes) (sym behind ∙ sym (all_of_it c (h.vault.database.number + 1 - c.base.number) (omega (arith, longer, all, first, number)))) holds)
its_payload actor (Some file) h bytes c base journal behind number valid free holds =
    let b : Backup = holds.row in
    let at : backup_at file h.vault.database ≡ Some b = holds.listed in
    let e : Entry = begin_entry actor (Some file) h in
    let from : h.base.number ≤ b.number = since_first actor file h b free at in
    let to : b.number ≤ h.vault.database.number = leb-true b.number h.vault.database.number (found_number file h.vault.database.number h.vault.database.backups b (facts_of h.vault.database valid).backups_past at) in
    let first : c.base.number ≡ h.base.number = ap (λ (v : Inv). v.number) base in
    inr (
      file,
      b.number,
      omega (arith, first, from),
      omega (arith, to),
      subst (λ (es : List Entry). IsIncrement bytes (holding file b.number es))
          (sym (from_place (b.number - h.base.number) (h.vault.database.number + 1 - b.number) h.vault.journal e (omega (arith, number, to)) (omega (arith, number, from, to)))
          ∙ ap (λ (n : ℕ). take (h.vault.database.number + 1 - b.number) (drop (b.number - n) (h.vault.journal ++ (e ∷ [])))) (sym first)
          ∙ ap (λ (l : List Entry). take (h.vault.database.number + 1 - b.number) (drop (b.number - c.base.number) l)) (sym journal)) holds.spelled,
    )

-- what it holds, with what the backup that it follows is
its_holding : (actor : ℕ) (after : Option ℕ) (h : Held) (bytes : List ℕ) (c : Core) → c.base ≡ h.base → c.journal ≡ h.vault.journal ++ begin_entry actor after h ∷ [] → inventory c ≡ backed_up after h
    → h.vault.database.number ≡ h.base.number + length h.vault.journal → is_valid h.vault.database ≡ true → image_refused (kind_of after) (sight_of actor h) ≡ [] → after_refused after h.vault.database ≡ []
    → IsHolding actor after h bytes → HoldsIt h.vault.database c after bytes
its_holding actor None h bytes c base journal behind number valid free follows holds = subst (Spells meaning second_form bytes) (sym behind) holds
its_holding actor (Some file) h bytes c base journal behind number valid free follows holds =
    let b : Backup = holds.row in
    let at : backup_at file h.vault.database ≡ Some b = holds.listed in
    let e : Entry = begin_entry actor (Some file) h in
    let from : h.base.number ≤ b.number = since_first actor file h b free at in
    let to : b.number ≤ h.vault.database.number = leb-true b.number h.vault.database.number (found_number file h.vault.database.number h.vault.database.backups b (facts_of h.vault.database valid).backups_past at) in
    let first : c.base.number ≡ h.base.number = ap (λ (v : Inv). v.number) base in
    let same : since_number actor b.number (Some file) h ≡ drop (b.number - c.base.number) c.journal =
    sym (drop-append-le (b.number - h.base.number) h.vault.journal (e ∷ []) (omega (arith, number, to)))
    ∙ ap (λ (n : ℕ). drop (b.number - n) (h.vault.journal ++ (e ∷ []))) (sym first)
    ∙ ap (λ (l : List Entry). drop (b.number - c.base.number) l) (sym journal) in (
      b,
      at,
      sym (ap is_done at) ∙ unless_holds (is_done (backup_at file h.vault.database)) refusal.NotFound follows,
      omega (arith, first, from),
      subst (All IsShort) same holds.short,
      subst (λ (es : List Entry). IsIncrement bytes (holding file b.number es)) same holds.spelled,
    )

-- ---- it begins

module _ {S : Type 0} (told : S → Option History) (moment : S → ℕ) (faults : S → ℕ → ℕ) (clock : (s : S) → IfSome (told s) (λ h. now h ≡ moment s)) (actor : ℕ) (after : Option ℕ) (bytes : List ℕ) (hall : Hall S) (synced joined forced : S)
    (t1 : moment hall.store ≤ moment synced) (t2 : moment synced ≤ moment joined) (t3 : moment joined ≤ moment forced) (m : Machine) (is : Is told moment faults hall m)
    (free : foremost (backup_refused actor (moment hall.store) after hall.held) ≡ None) where
  may : MayBack actor (moment hall.store) after hall.held
  may = may_back actor (moment hall.store) after hall.held free

  abbrev k : ℕ
  k = hall.held.claims.next_file

  abbrev x : Change
  x = begin_of after hall.held

  next_is : k ≡ m.core.next_file
  next_is = is.core.space.next_file

  running : hall.held.vault.fault ≡ None
  running = none_halted (moment hall.store) hall.held may.free

  none_now : m.core.image ≡ None
  none_now = no_image m.core.image (is.core.image ∙ may.none)

  joins : Joins actor x [] m.core
  joins = backing_joins actor (moment hall.store) after hall.held m is.core may is.good.numbers

  from : 4 ≤ k
  from = begins_from (journal_of m.core.base m.core.journal) k after (inventory m.core) joins.legal

  unused : IsUnused k m.core
  unused = subst (λ n. IsUnused n m.core) (sym next_is) (next_unused m.core is.good.lawful is.good.numbers (subst (λ n. 4 ≤ n) next_is from))

  -- the new file was synced
  abbrev pub synced_hall : Hall S
  synced_hall = record { store = synced; held = hall.held }

  abbrev pub synced_at : Machine
  synced_at = record m { moment = moment synced; counts = faults synced }

  pub is_synced : Told (told hall.store) (told synced) (GoesOn (λ n. n ≡ k)) → Is told moment faults synced_hall synced_at
  is_synced did =
      is_away told moment faults clock hall synced t1 k m is (is.core.fault ∙ running) none_now unused did
      (backs_over told moment faults clock hall synced m is (GoesOn (λ n. n ≡ k)) (λ n. n ≡ k) (λ h new r. r) (λ new. KeepsAllBackups m.core hall.held.opened new hall.held.job) did
      (λ h new goes kept backups.
      fresh_keeps h new m.core hall.held.opened
      (open_of m.core (durable m.core) (now h) new (durable_there m.core)
      (held_since meaning (λ n. n ≡ k) hall.held.vault (durable m.core) h new (λ n ours same. omega (arith, ours, same, from)) goes (kept.sure (is.core.fault ∙ running))))
      k (let same = next_is in let up = is.good.numbers.next_file.1 in omega (arith, same, up)) (let same = next_is in let low = is.good.numbers.next_file.0 in let up = is.good.numbers.next_file.1 in omega (arith, same, low, up))
      (scratch_absent m.core k is.good.lawful is.good.numbers (let same = next_is in omega (arith, same))) goes hall.held.job backups))

  -- what is kept of backups behind its transaction
  pub begin_backs : Is told moment faults synced_hall synced_at
      → IfSome (told synced) (λ h. WasSound hall.held.base hall.held.opened h → HadBackups hall.held.base hall.held.opened h → KeepsAllBackups (last actor x [] m.core) hall.held.opened h hall.held.job)
  begin_backs there = all_joined actor x [] synced_at hall.held there.core there.good.lawful there.good.stamped.few there.good.numbers joins running (λ file same. absurd cc) (told synced) there.good.kept

  -- its transaction was made
  abbrev pub joined_hall : Hall S
  joined_hall = record { store = joined; held = begun_waiting actor after hall.held }

  abbrev pub joined_at : Machine
  joined_at = record { core = begun actor after m.core; contents = m.contents; moment = moment joined; counts = faults joined }

  pub is_joined : Told (told hall.store) (told synced) (GoesOn (λ n. n ≡ k)) → (number : ℕ)
      → (let result : Result ℕ Refusal = Ok number in Told (told synced) (told joined) (Waits meaning hall.held.vault (begin_entry actor after hall.held) result (with_waiting meaning hall.held.vault (begin_entry actor after hall.held))))
      → Is told moment faults joined_hall joined_at
  is_joined did number made_it =
      subst (λ c. Is told moment faults joined_hall (record { core = c; contents = m.contents; moment = moment joined; counts = faults joined })) (begun_last actor after hall.held m.core next_is)
      (waiting_is told moment faults clock actor x [] synced_hall joined running t2 synced_at (is_synced did) joins (begin_takes k after (inventory m.core)) refl (begin_backs (is_synced did)) number made_it)

  -- all was forced
  abbrev pub forced_hall : Hall S
  forced_hall = record { store = forced; held = begun_forced actor after (moment forced) hall.held }

  abbrev pub forced_at : Machine
  forced_at = record { core = stamped (moment forced) (begun actor after m.core); contents = m.contents; moment = moment forced; counts = faults forced }

  pub is_forced : Is told moment faults joined_hall joined_at → (number : ℕ)
      → (let result : Result ℕ Refusal = Ok number in Told (told joined) (told forced) (Forces meaning (begun_waiting actor after hall.held).vault result (all_forced (begun_waiting actor after hall.held).vault)))
      → Is told moment faults forced_hall forced_at
  is_forced before number did = forced_is told moment faults clock joined_hall forced refl t3 number did joined_at before

  -- its image is in progress
  abbrev pub begun_image : Image
  begun_image = record {
    actor = actor;
    picture = backup;
    file = m.core.next_file;
    seq = (inventory m.core).number + 1;
    unwritten = length bytes;
    copied = 0;
  }

  begun_seat : begun_of (Some begun_image) ≡ Some (backup_by actor k (hall.held.vault.database.number + 1))
  begun_seat =
      ap (λ n. let b : BegunImage = record { actor = actor; picture = backup; file = n; seq = (inventory m.core).number + 1 } in Some b) (sym next_is)
      ∙ ap (λ (v : Inv). let b : BegunImage = record { actor = actor; picture = backup; file = k; seq = v.number + 1 } in Some b) (sym is.core.database)

  is_backup : 0 < length bytes → IsBackup (job_by k (hall.held.vault.database.number + 1) bytes) begun_image
  is_backup some = record {
    picture = refl;
    file = sym next_is;
    mark = refl;
    number = ap (λ (v : Inv). v.number + 1) is.core.database;
    going = refl;
    within = tt;
    some = some;
    unwritten = refl;
    copied = refl;
  }

  -- the database behind its transaction, as the machine and as the hall has it
  abbrev behind_core : Core
  behind_core = begun actor after m.core

  behind_is : inventory behind_core ≡ effect (change.DbBegin m.core.next_file after) (inventory m.core)
  behind_is = after_end m.core.base m.core.journal (record { actor = actor; change = change.DbBegin m.core.next_file after })

  backed_is : backed_up after hall.held ≡ inventory behind_core
  backed_is =
      ap (λ n. effect (change.DbBegin n after) hall.held.vault.database) next_is
      ∙ ap (effect (change.DbBegin m.core.next_file after)) is.core.database
      ∙ sym behind_is

  one_more : length behind_core.journal ≡ length m.core.journal + 1
  one_more = length-append m.core.journal (record { actor = actor; change = change.DbBegin m.core.next_file after } ∷ [])

  few_behind : length behind_core.stamps ≤ length behind_core.journal
  few_behind = let few = is.good.stamped.few in omega (arith, few, one_more)

  last_is : (inventory m.core).number ≡ m.core.base.number + length m.core.journal
  last_is = after-number m.core.base m.core.journal

  all_stamps : length (stamped (moment forced) behind_core).stamps ≡ length behind_core.journal
  all_stamps = all_have_stamps (moment forced) behind_core few_behind

  now_listed : is_unfinished (backup_at m.core.next_file (inventory behind_core)) ≡ true
  now_listed = ap (λ v. is_unfinished (backup_at m.core.next_file v)) behind_is ∙ begun_listed m.core.next_file after (inventory m.core)

  listed_then : IsListed (left_open (stamped (moment forced) behind_core)) (Some begun_image)
  listed_then = λ _. (
    subst (λ n. 4 ≤ n) next_is from,
    subst (AllByRecursion (λ v. is_unfinished (backup_at m.core.next_file v) ≡ true)) (sym (left_alone (stamped (moment forced) behind_core) all_stamps)) (now_listed, tt),
  )

  holds_it : IsHolding actor after hall.held bytes → IsPayload (with_image (Some begun_image) (stamped (moment forced) behind_core)) ((inventory m.core).number + 1) bytes
  holds_it holds =
      let number : hall.held.vault.database.number ≡ hall.held.base.number + length hall.held.vault.journal =
      ap (λ (v : Inv). v.number) is.core.database ∙ (last_is ∙ ap (λ (v : Inv). v.number + length m.core.journal) is.core.base) ∙ ap (λ (l : List Entry). hall.held.base.number + length l) is.core.journal in
      subst (λ (n : ℕ). IsPayload (with_image (Some begun_image) (stamped (moment forced) behind_core)) (n + 1) bytes) (ap (λ (v : Inv). v.number) is.core.database)
      (its_payload actor after hall.held bytes (with_image (Some begun_image) (stamped (moment forced) behind_core)) is.core.base
      (ap (λ (l : List Entry). l ++ (record { actor = actor; change = change.DbBegin m.core.next_file after } ∷ [])) is.core.journal
      ∙ ap (λ (n : ℕ). hall.held.vault.journal ++ (record { actor = actor; change = change.DbBegin n after } ∷ [])) (sym next_is))
      (sym backed_is) number (subst (λ (v : Inv). is_valid v ≡ true) (sym is.core.database) (valid_now m.core is.good.lawful)) may.causes holds)

  progress : (h : History) → CanShut (standing h k) → IsHolding actor after hall.held bytes → InProgress (with_image (Some begun_image) (stamped (moment forced) behind_core)) (backup_begun actor after bytes (moment forced) hall.held) begun_image h
  progress h shut holds = record {
    since = omega (arith, last_is);
    durable = omega (arith, last_is, all_stamps, one_more);
    stands = (
      from,
      subst (λ n. is_some (backup_at n (inventory behind_core)) ≡ true) (sym next_is) (is_there (backup_at m.core.next_file (inventory behind_core)) now_listed),
      shut,
      holds_it holds,
    );
  }

  no_job : hall.held.job ≡ None
  no_job =
      (nothing_pends m.core.base.number hall.held.vault.generation hall.held.vault.pending hall.held.job
      (subst (λ (i : Option Image). IsImage m.core.base.number hall.held.vault.generation hall.held.vault.pending hall.held.job i) none_now (is.core.is_image running))).1

  pending_none : hall.held.vault.pending ≡ None
  pending_none =
      (nothing_pends m.core.base.number hall.held.vault.generation hall.held.vault.pending hall.held.job
      (subst (λ (i : Option Image). IsImage m.core.base.number hall.held.vault.generation hall.held.vault.pending hall.held.job i) none_now (is.core.is_image running))).0

  -- and all backups are kept
  begun_backs : Is told moment faults forced_hall forced_at → length bytes < 2 ^ 64 → IsHolding actor after hall.held bytes → (o : Option History)
      → IfSome o (λ h. WasSound forced_hall.held.base forced_hall.held.opened h → IsKept forced_at forced_hall.held h → HadBackups forced_hall.held.base forced_hall.held.opened h
      → KeepsAllBackups (with_image (Some begun_image) forced_at.core) forced_hall.held.opened h (Some (job_by k (hall.held.vault.database.number + 1) bytes)))
  begun_backs before small holds None = tt
  begun_backs before small holds (Some h) = λ sound kept had.
      let c : Core = with_image (Some begun_image) forced_at.core in
      let lawful : IsLawful c = (let g = before.good.lawful in record { valid = g.valid; tied = g.tied; legal = g.legal; short = g.short }) in
      let numbers : NumbersAreDrawn c = numbers_same forced_at.core.stamps (Some begun_image) forced_at.core.generation forced_at.core.log_length forced_at.core.fault forced_at.core before.good.numbers in
      let number : hall.held.vault.database.number ≡ hall.held.base.number + length hall.held.vault.journal =
      ap (λ (v : Inv). v.number) is.core.database ∙ (last_is ∙ ap (λ (v : Inv). v.number + length m.core.journal) is.core.base) ∙ ap (λ (l : List Entry). hall.held.base.number + length l) is.core.journal in
      let causes = (is_free (journal_of m.core.base m.core.journal) x (inventory m.core) joins.legal).causes in
      let follows : after_refused after hall.held.vault.database ≡ [] =
      subst (λ (v : Inv). after_refused after v ≡ []) (sym is.core.database) (front_nil (after_refused after (inventory m.core)) (files_refused (k ∷ []) (inventory m.core) ++ file_bound k (inventory m.core)) causes) in
      begins_keeps h m.contents actor after m.core forced_at.core.stamps (Some begun_image) is.good.lawful is.good.numbers lawful numbers (left_alone forced_at.core all_stamps) kept.firm (subst (λ n. 4 ≤ n) next_is from)
      (subst (λ n. n + 2 < 2 ^ 32) next_is (begin_possible k after (inventory m.core) causes)) (job_by k (hall.held.vault.database.number + 1) bytes) next_is
      (ap (λ (v : Inv). v.number + 1) is.core.database ∙ sym (ap (λ (v : Inv). v.number) behind_is ∙ number_begun m.core.next_file after (inventory m.core))) small forced_hall.held.opened
      (same_keeps h forced_at.core forced_at.core.tickets forced_at.core.next_file forced_at.core.next_object forced_at.core.next_ticket (Some begun_image) forced_at.core.generation forced_at.core.log_length forced_hall.held.opened None
      (subst (λ (j : Option Job). KeepsAllBackups forced_at.core forced_hall.held.opened h j) no_job (kept.backups had)))
      (subst (λ (v : Inv). HoldsIt v c after bytes) is.core.database
      (its_holding actor after hall.held bytes c is.core.base
      (ap (λ (l : List Entry). l ++ (record { actor = actor; change = change.DbBegin m.core.next_file after } ∷ [])) is.core.journal
      ∙ ap (λ (n : ℕ). hall.held.vault.journal ++ (record { actor = actor; change = change.DbBegin n after } ∷ [])) (sym next_is))
      (sym backed_is) number (subst (λ (v : Inv). is_valid v ≡ true) (sym is.core.database) (valid_now m.core is.good.lawful)) may.causes follows holds))

  -- its image is in progress
  pub is_begun : Is told moment faults forced_hall forced_at → IfSome (told forced) (λ h. CanShut (standing h k)) → IsHolding actor after hall.held bytes → 0 < length bytes → length bytes < 2 ^ 64
      → Is told moment faults (record { store = forced; held = backup_begun actor after bytes (moment forced) hall.held }) (record forced_at { core = with_image (Some begun_image) forced_at.core })
  is_begun before shut holds some small =
      is_imaged told moment faults forced_hall forced_at before (Some begun_image) (Some (backup_by actor k (hall.held.vault.database.number + 1))) (Some (job_by k (hall.held.vault.database.number + 1) bytes)) begun_seat
      (λ _. subst (λ (p : Option Pending). IsImage m.core.base.number hall.held.vault.generation p (Some (job_by k (hall.held.vault.database.number + 1) bytes)) (Some begun_image)) (sym pending_none) (is_backup some))
      (λ _. listed_then) (going (told forced) shut) (begun_backs before small holds (told forced))
    where
      going : (o : Option History) → IfSome o (λ h. CanShut (standing h k))
          → IfSome o (λ h. WasSound forced_hall.held.base forced_hall.held.opened h → IsKept forced_at forced_hall.held h → forced_at.core.fault ≡ None
          → AllInProgress (with_image (Some begun_image) forced_at.core) (backup_begun actor after bytes (moment forced) hall.held) (Some begun_image) h)
      going None shut = tt
      going (Some h) shut = λ sound kept none. progress h shut holds

-- ---- the new file

-- what was synced can have its gate shut, also behind calls on the vault's files
pub shut_then : (file : ℕ) (a b c d : Option History) → 4 ≤ file → (let result : Result (Unit {0}) Failed = Ok tt in Told a b (Synced file result)) → Told b c (GoesOn IsOurs) → Told c d (GoesOn IsOurs)
    → IfSome d (λ h. CanShut (standing h file))
shut_then file a None c None from s r q = tt
shut_then file a b c None from s r q = tt
shut_then file a b None (Some h) from s r q = absurd q
shut_then file a None (Some g) (Some h) from s r q = absurd r
shut_then file None (Some f) (Some g) (Some h) from s r q = absurd s
shut_then file (Some e) (Some f) (Some g) (Some h) from s r q =
    subst CanShut (sym (goes_standing IsOurs g h file (not_ours file from) q ∙ goes_standing IsOurs f g file (not_ours file from) r ∙ s.durable)) (settled_shut (reads e file))
  where
    not_ours : (file : ℕ) → 4 ≤ file → ¬ IsOurs file
    not_ours file from ours = omega (arith, from, ours)
