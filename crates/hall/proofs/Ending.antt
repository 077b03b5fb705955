-- The steps by which a database backup goes on and ends: what the hall is behind each.
use Rattle.std.proofs.Common.{◌≡◌, ◌⊎◌, inl, inr, ℕ, ◌+◌, ◌-◌, ◌<◌, ◌≤◌, Bool, true, false, if◌then◌else◌, List, [], ◌∷◌, ◌++◌, length, Option, None, Some, Result, Ok, Err, is_some, refl, sym, ap, subst, ◌∙◌, arith}
use Rattle.std.specs.Prelude.{IfSome, OnOk, nat_le}
use Rattle.std.specs.List.{AllByRecursion}
use Rattle.std.proofs.lemmas.Bool.{false≢true, leb-false}
use Rattle.store_api.specs.Disk.{History, now, standing}
use Rattle.store_api.specs.Runs.{GoesOn, Firm}
use Rattle.store_api.specs.Told.{Told}
use Rattle.store_api.proofs.Runs.{goes_image_after, told_map}
use Rattle.store_api.specs.declared.store.Failed.{Failed}
use Rattle.kinds.specs.declared.refusal.Refusal.{Refusal}
use Rattle.entries.specs.declared.change.Change.{Change}
use Rattle.entries.specs.declared.change.Change.TheVariants as change
use Rattle.db_image.specs.declared.phase.Phase.{Phase}
use Rattle.db_image.specs.declared.phase.Phase.TheVariants.{Begun, Durable, Open, Written, Failed as Stuck}
use Rattle.db_image.specs.declared.phase.Progress.{Progress}
use Rattle.db_image.specs.declared.phase.Progress.TheVariants.{Done, More}
use Rattle.db_image.specs.Steps.{IsWithin, Job, Stepped, Underway, at_phase, further, progress_at, written_to, UnderwayAs}
use Rattle.inventory.specs.Meant.{meaning}
use Rattle.inventory_rows.specs.State.{Inv}
use Rattle.inventory_rules.specs.Backups.{backup_at, is_unfinished}
use Rattle.vault.specs.Pieces.{Pending}
use Rattle.vault.specs.Vaults.{State, Waits, in_doubt, with_waiting}
use Rattle.entries.specs.declared.entry.Entry.{Entry}
use Rattle.inventory_rules.specs.Run.{journal_of}
use Rattle.inventory_rules.specs.Transactions.{refused}
use Rattle.machine.specs.Machine.{ending, halting, made, with_image, durable}
use Rattle.machine.specs.State.{Core, Image, Machine, backup, inventory}
use Rattle.hall.specs.Backing.{with_job}
use Rattle.hall.specs.Covered.{left_open}
use Rattle.hall.specs.Good.{AllInProgress, InProgress, Is, IsKept, IsListed, StandsOn, WasSound}
use Rattle.hall.specs.Held.{BegunImage, Hall, Held, IsBackup, IsImage, begun_of, has_failed, unwritten_at}
use Rattle.hall.specs.Joined.{joined_held}
use Rattle.hall.proofs.Away.{IsUnused, is_away, listed_unused}
use Rattle.hall.proofs.Backing.{OwnBackup, is_dropped, is_imaged}
use Rattle.hall.proofs.BackupJoins.{end_joins, end_takes}
use Rattle.hall.proofs.Databases.{last_left}
use Rattle.hall.proofs.JoinedIs.{doubted_is, waiting_is}
use Rattle.hall.proofs.Joining.{Joins, last, left_last}
use Rattle.hall.proofs.Reusable.{none_among}
use Rattle.hall.proofs.Stamping.{rise_over}
use Rattle.hall.specs.Protected.{HadBackups, KeepsAllBackups}
use Rattle.hall.proofs.BackupsAlike.{same_keeps}
use Rattle.hall.proofs.BackupsSpared.{dropped_keeps, durable_there, further_keeps, halted_any, job_keeps, open_of}
use Rattle.hall.proofs.BackupsOver.{backs_over}
use Rattle.hall.proofs.BackupsJoined.{ended_keeps}
use Rattle.hall.proofs.JoinedBackups.{past_left}
use Rattle.db_image.specs.Images.{image_bytes}
use Rattle.vault.proofs.Goodness.{held_since as vaults_since}
use Rattle.db_image.specs.declared.mark.Mark.TheVariants.{Backup as OfBackup}

-- ---- how far it is

-- the payload is written further, and no call failed
pub record GoesFurther (phase : Phase) (len : ℕ) : Type 0 where
  pub going : has_failed (further phase len) ≡ false
  pub within : IsWithin (further phase len) len

to_place : (n len : ℕ) → (has_failed (written_to n len) ≡ false) × IsWithin (written_to n len) len
to_place n len = elim (nat_le len n) as (λ t. nat_le len n ≡ t → (has_failed (if t then Durable else Written n) ≡ false) × IsWithin (if t then Durable else Written n) len) [
  | true ↦ λ e. (refl, tt)
  | false ↦ λ e. (refl, leb-false len n e)
] refl

pub further_goes : (phase : Phase) (len : ℕ) → has_failed phase ≡ false → IsWithin phase len → GoesFurther phase len
further_goes Begun len going within = let p = to_place 65536 len in record { going = p.0; within = p.1 }
further_goes (Written done) len going within = let p = to_place (done + 65536) len in record { going = p.0; within = p.1 }
further_goes Durable len going within = record { going = refl; within = tt }
further_goes Open len going within = record { going = refl; within = tt }
further_goes Stuck len going within = absurd (false≢true (sym going))

-- while a step answers that it goes on, less is left to write
left_to : (n len : ℕ) → 0 < n → 0 < len → unwritten_at (written_to n len) len < len
left_to n len some all = elim (nat_le len n) as (λ t. nat_le len n ≡ t → unwritten_at (if t then Durable else Written n) len < len) [
  | true ↦ λ e. all
  | false ↦ λ e. let more : n < len = leb-false len n e in omega (arith, some, more)
] refl

left_from : (done n len : ℕ) → done < n → done < len → unwritten_at (written_to n len) len < len - done
left_from done n len some all = elim (nat_le len n) as (λ t. nat_le len n ≡ t → unwritten_at (if t then Durable else Written n) len < len - done) [
  | true ↦ λ e. omega (arith, all)
  | false ↦ λ e. let more : n < len = leb-false len n e in omega (arith, some, more)
] refl

pub less_left : (phase : Phase) (len : ℕ) → has_failed phase ≡ false → IsWithin phase len → 0 < len → progress_at (further phase len) ≡ More → unwritten_at (further phase len) len < unwritten_at phase len
less_left Begun len going within some more = left_to 65536 len (omega arith) some
less_left (Written done) len going within some more = left_from done (done + 65536) len (omega arith) within
less_left Durable len going within some more = absurd cc
less_left Open len going within some more = absurd cc
less_left Stuck len going within some more = absurd (false≢true (sym going))

-- once it answers that it is done, all is written, and its gate is open
written_on : (n len : ℕ) → progress_at (written_to n len) ≡ More
written_on n len = elim (nat_le len n) as (λ t. progress_at (if t then Durable else Written n) ≡ More) [ true ↦ refl | false ↦ refl ]

more_done : More ≡ Done → ⊥
more_done e = absurd cc

pub record IsWritten (phase : Phase) (len : ℕ) : Type 0 where
  pub all : unwritten_at phase len ≡ 0
  pub opened : further phase len ≡ Open

pub all_written : (phase : Phase) (len : ℕ) → has_failed phase ≡ false → progress_at (further phase len) ≡ Done → IsWritten phase len
all_written Begun len going done = absurd (more_done (sym (written_on 65536 len) ∙ done))
all_written (Written k) len going done = absurd (more_done (sym (written_on (k + 65536) len) ∙ done))
all_written Durable len going done = record { all = refl; opened = refl }
all_written Open len going done = record { all = refl; opened = refl }
all_written Stuck len going done = absurd (false≢true (sym going))

-- ---- the hall behind a call of its writer

module _ {S : Type 0} (told : S → Option History) (moment : S → ℕ) (faults : S → ℕ → ℕ) (clock : (s : S) → IfSome (told s) (λ h. now h ≡ moment s)) (actor : ℕ) (hall : Hall S) (store : S)
    (since : moment hall.store ≤ moment store) (m : Machine) (is : Is told moment faults hall m) (running : hall.held.vault.fault ≡ None) (job : Job) (its_job : hall.held.job ≡ Some job)
    (own : OwnBackup actor job hall.held.vault.pending m.core.image) where
  listed_now : IsListed (left_open m.core) (Some own.its)
  listed_now = subst (λ (i : Option Image). IsListed (left_open m.core) i) own.there (is.good.listed (is.core.fault ∙ running))

  unused : IsUnused job.file m.core
  unused =
      let h = listed_now own.is.picture in
      subst (λ n. IsUnused n m.core) own.is.file (listed_unused own.its.file m.core is.good.lawful is.good.numbers h.0 h.1)

  -- the image is dropped, whatever came of the call
  abbrev pub dropped_at : Machine
  dropped_at = record m { core = with_image None m.core; moment = moment store; counts = faults store }

  dropped_unused : IsUnused job.file (with_image None m.core)
  dropped_unused = record { from = unused.from; volumes = unused.volumes; tickets = unused.tickets }

  none : m.core.fault ≡ None
  none = is.core.fault ∙ running

  -- all backups are kept over calls on its file
  own_keeps : (h new : History) → GoesOn (λ n. n ≡ job.file) h new → IsKept m hall.held h → KeepsAllBackups m.core hall.held.opened h hall.held.job → KeepsAllBackups m.core hall.held.opened new (Some job)
  own_keeps h new goes kept backups =
      job_keeps h new m.core hall.held.opened
      (open_of m.core (durable m.core) (now h) new (durable_there m.core)
      (vaults_since meaning (λ n. n ≡ job.file) hall.held.vault (durable m.core) h new (λ n ours same. let from = unused.from in omega (arith, ours, same, from)) goes (kept.sure none)))
      job none goes (subst (λ (j : Option Job). KeepsAllBackups m.core hall.held.opened h j) its_job backups)

  gone_backs : Told (told hall.store) (told store) (GoesOn (λ n. n ≡ job.file))
      → IfSome (told store) (λ h. WasSound hall.held.base hall.held.opened h → HadBackups hall.held.base hall.held.opened h → KeepsAllBackups (with_image None m.core) hall.held.opened h None)
  gone_backs did =
      backs_over told moment faults clock hall store m is (GoesOn (λ n. n ≡ job.file)) (λ n. n ≡ job.file) (λ h new r. r) (λ new. KeepsAllBackups (with_image None m.core) hall.held.opened new None) did
      (λ h new goes kept backups.
      same_keeps new m.core m.core.tickets m.core.next_file m.core.next_object m.core.next_ticket None m.core.generation m.core.log_length hall.held.opened None
      (dropped_keeps new m.core hall.held.opened (Some job) (own_keeps h new goes kept backups)))

  pub is_gone : Told (told hall.store) (told store) (GoesOn (λ n. n ≡ job.file)) → Is told moment faults (record { store = store; held = with_job None None hall.held }) dropped_at
  is_gone did =
      is_away told moment faults clock (record { store = hall.store; held = with_job None None hall.held }) store since job.file (record m { core = with_image None m.core })
      (is_dropped told moment faults hall m is own.none) (is.core.fault ∙ running) refl dropped_unused did (gone_backs did)

  -- the writer went on
  module _ {T : Type 0} (answer : T) (phase : Phase) (going : has_failed phase ≡ false) (within : IsWithin phase (length job.payload)) where
    abbrev pub next_job : Job
    next_job = at_phase phase job

    abbrev pub next_image : Image
    next_image = record own.its { unwritten = unwritten_at phase (length job.payload) }

    next_is : IsBackup next_job next_image
    next_is = record {
      picture = own.is.picture;
      file = own.is.file;
      mark = own.is.mark;
      number = own.is.number;
      going = going;
      within = within;
      some = own.is.some;
      unwritten = refl;
      copied = own.is.copied;
    }

    abbrev pub further_at : Machine
    further_at = record m { core = with_image (Some next_image) m.core; moment = moment store; counts = faults store }

    abbrev pub further_held : Held
    further_held = with_job hall.held.image (Some next_job) hall.held

    progress : (h new : History) → IsKept m hall.held h → (let result : Result T Failed = Ok answer in Stepped job next_job result h new)
        → InProgress (with_image (Some next_image) m.core) further_held next_image new
    progress h new k s =
        let p : InProgress m.core hall.held own.its h = subst (λ (i : Option Image). AllInProgress m.core hall.held i h) own.there (k.image (is.core.fault ∙ running)) in
        let stands : StandsOn m.core hall.held.vault (Some job) own.its h = subst (λ (j : Option Job). StandsOn m.core hall.held.vault j own.its h) its_job p.stands in
        record { since = p.since; durable = p.durable; stands = (stands.0, stands.1, s.underway stands.2, stands.3) }

    further_backs : (let result : Result T Failed = Ok answer in Told (told hall.store) (told store) (Stepped job next_job result))
        → IfSome (told store) (λ h. WasSound hall.held.base hall.held.opened h → HadBackups hall.held.base hall.held.opened h → KeepsAllBackups further_at.core hall.held.opened h (Some next_job))
    further_backs did =
        backs_over told moment faults clock hall store m is (let result : Result T Failed = Ok answer in Stepped job next_job result) (λ n. n ≡ job.file) (λ h new r. r.goes)
        (λ new. KeepsAllBackups further_at.core hall.held.opened new (Some next_job)) did
        (λ h new r kept backups.
        same_keeps new m.core m.core.tickets m.core.next_file m.core.next_object m.core.next_ticket (Some next_image) m.core.generation m.core.log_length hall.held.opened (Some next_job)
        (further_keeps new m.core hall.held.opened job phase (own_keeps h new r.goes kept backups)))

    pub is_further : (let result : Result T Failed = Ok answer in Told (told hall.store) (told store) (Stepped job next_job result)) → Is told moment faults (record { store = store; held = further_held }) further_at
    is_further did =
        is_imaged told moment faults (record { store = store; held = with_job None None hall.held }) dropped_at
        (is_gone (told_map (told hall.store) (told store) (let result : Result T Failed = Ok answer in Stepped job next_job result) (GoesOn (λ n. n ≡ job.file)) (λ h n r. r.goes) did))
        (Some next_image) hall.held.image (Some next_job) (sym (ap begun_of own.there) ∙ is.core.image)
        (λ _. subst (λ (p : Option Pending). IsImage m.core.base.number hall.held.vault.generation p (Some next_job) (Some next_image)) (sym own.none) next_is)
        (λ _. listed_now) (kept_both (told hall.store) (told store) did (clock hall.store) is.good.kept) (as_kept (told store) (further_backs did))
      where
        as_kept : (o : Option History) → IfSome o (λ h. WasSound hall.held.base hall.held.opened h → HadBackups hall.held.base hall.held.opened h → KeepsAllBackups further_at.core hall.held.opened h (Some next_job))
            → IfSome o (λ h. WasSound hall.held.base hall.held.opened h → IsKept dropped_at (with_job None None hall.held) h → HadBackups hall.held.base hall.held.opened h → KeepsAllBackups further_at.core hall.held.opened h (Some next_job))
        as_kept None backs = tt
        as_kept (Some h) backs = λ sound kept. backs sound

        kept_both : (o n : Option History) → (let result : Result T Failed = Ok answer in Told o n (Stepped job next_job result)) → IfSome o (λ h. now h ≡ moment hall.store)
            → IfSome o (λ h. WasSound hall.held.base hall.held.opened h → IsKept m hall.held h)
            → IfSome n (λ h. WasSound hall.held.base hall.held.opened h → IsKept dropped_at (with_job None None hall.held) h → dropped_at.core.fault ≡ None
            → AllInProgress (with_image (Some next_image) m.core) further_held (Some next_image) h)
        kept_both None None r at kept = tt
        kept_both None (Some new) r at kept = absurd r
        kept_both (Some h) None r at kept = absurd r
        kept_both (Some h) (Some new) r at kept = λ sound gone none.
            let first : hall.held.opened ≤ m.moment = rise_over hall.held.opened m.moment m.core.stamps is.good.stamped.rise in
            let before : hall.held.opened ≤ now h = omega (arith, first, is.clock, at) in
            progress h new (kept (sound.0, λ image it. sound.1 image (goes_image_after (λ n. n ≡ job.file) h new hall.held.opened image r.goes before it))) r

  -- ---- the transaction of its end

  module _ (last_store : S) (later : moment store ≤ moment last_store) (gone : Is told moment faults (record { store = store; held = with_job None None hall.held }) dropped_at)
      (legal : refused (journal_of hall.held.base hall.held.vault.journal) (change.DbEnd job.file) hall.held.vault.database ≡ None) where
    abbrev end_change : Change
    end_change = change.DbEnd job.file

    abbrev end_by : Entry
    end_by = record { actor = actor; change = end_change }

    still_listed : is_unfinished (backup_at job.file (inventory m.core)) ≡ true
    still_listed =
        let h = listed_now own.is.picture in
        subst (λ n. is_unfinished (backup_at n (inventory m.core)) ≡ true) own.is.file (last_left (λ v. is_unfinished (backup_at own.its.file v) ≡ true) m.core h.1)

    legal_there : refused (journal_of m.core.base m.core.journal) end_change (inventory m.core) ≡ None
    legal_there =
        subst (λ (b : Inv). refused (journal_of b m.core.journal) end_change (inventory m.core) ≡ None) (sym is.core.base)
        (subst (λ j. refused (journal_of hall.held.base j) end_change (inventory m.core) ≡ None) (sym is.core.journal)
        (subst (λ (v : Inv). refused (journal_of hall.held.base hall.held.vault.journal) end_change v ≡ None) is.core.database legal))

    joins : Joins actor end_change [] (with_image None m.core)
    joins = end_joins actor (with_image None m.core) gone.good.numbers refl job.file still_listed legal_there

    -- what the machine makes of it
    ending_is : last actor end_change [] (with_image None m.core) ≡ with_image None (ending actor own.its m.core)
    ending_is =
        ap (λ tickets. record (made actor end_change (with_image None m.core)) { tickets = tickets }) (none_among actor m.core.tickets)
        ∙ ap (λ n. made actor (change.DbEnd n) (with_image None m.core)) (sym own.is.file)

    -- what is kept of backups behind it, once the gate of this one is open
    abbrev pub EndBacked : Option History → Type 0
    EndBacked o = IfSome o (λ h. WasSound hall.held.base hall.held.opened h → HadBackups hall.held.base hall.held.opened h → KeepsAllBackups (last actor end_change [] (with_image None m.core)) hall.held.opened h None)

    pub ended_backs : {T : Type 0} (answer : T) → further job.phase (length job.payload) ≡ Open
        → (let result : Result T Failed = Ok answer in Told (told hall.store) (told store) (Stepped job (at_phase (further job.phase (length job.payload)) job) result)) → EndBacked (told store)
    ended_backs {T} answer opens did =
        backs_over told moment faults clock hall store m is (let result : Result T Failed = Ok answer in Stepped job (at_phase (further job.phase (length job.payload)) job) result) (λ n. n ≡ job.file) (λ h new r. r.goes)
        (λ new. KeepsAllBackups (last actor end_change [] (with_image None m.core)) hall.held.opened new None) did
        (λ h new r kept backups.
        let c : Core = with_image None m.core in
        let k : KeepsAllBackups c hall.held.opened new (Some job) =
        same_keeps new m.core m.core.tickets m.core.next_file m.core.next_object m.core.next_ticket None m.core.generation m.core.log_length hall.held.opened (Some job) (own_keeps h new r.goes kept backups) in
        let t = k.writes none in
        ended_keeps actor end_change [] c gone.good.lawful gone.good.numbers gone.good.stamped.few joins new hall.held.opened job t.0 t.1 (whole h new kept r) refl (past_left c gone.good.lawful)
        (left_last actor end_change [] c gone.good.stamped.few) k)
      where
        whole : (h new : History) → IsKept m hall.held h → (let result : Result T Failed = Ok answer in Stepped job (at_phase (further job.phase (length job.payload)) job) result h new)
            → Firm (standing new job.file) 0 (image_bytes OfBackup job.number job.payload)
        whole h new kept r =
            let p : InProgress m.core hall.held own.its h = subst (λ (i : Option Image). AllInProgress m.core hall.held i h) own.there (kept.image none) in
            let stands : StandsOn m.core hall.held.vault (Some job) own.its h = subst (λ (j : Option Job). StandsOn m.core hall.held.vault j own.its h) its_job p.stands in
            let next : Job = at_phase (further job.phase (length job.payload)) job in
            let under : UnderwayAs Open next new = subst (λ f. UnderwayAs f next new) opens (r.underway stands.2) in
            subst (λ mark. Firm (standing new job.file) 0 (image_bytes mark job.number job.payload)) own.is.mark under

    -- it waits for a force
    abbrev pub ended_at : Machine
    ended_at = record { core = with_image None (ending actor own.its m.core); contents = m.contents; moment = moment last_store; counts = faults last_store }

    abbrev pub ended_held : Held
    ended_held = joined_held end_change [] (with_waiting meaning hall.held.vault end_by) (with_job None None hall.held)

    pub is_ended : EndBacked (told store) → (number : ℕ) → (let result : Result ℕ Refusal = Ok number in Told (told store) (told last_store) (Waits meaning hall.held.vault end_by result (with_waiting meaning hall.held.vault end_by)))
        → Is told moment faults (record { store = last_store; held = ended_held }) ended_at
    is_ended backs number did =
        subst (λ c. Is told moment faults (record { store = last_store; held = ended_held }) (record { core = c; contents = m.contents; moment = moment last_store; counts = faults last_store })) ending_is
        (waiting_is told moment faults clock actor end_change [] (record { store = store; held = with_job None None hall.held }) last_store running later dropped_at gone joins (end_takes job.file (inventory m.core)) refl backs number did)

    -- it is in doubt, and the image is still held, whatever its writer is
    module _ (writer : Option Job) (end file count : ℕ) where
      abbrev pub in_doubt_at : Machine
      in_doubt_at = record { core = halting file count (ending actor own.its m.core); contents = m.contents; moment = moment last_store; counts = faults last_store }

      abbrev pub in_doubt_held : Held
      in_doubt_held = joined_held end_change [] (in_doubt meaning hall.held.vault end_by end file count) (with_job hall.held.image writer hall.held)

      pub is_in_doubt : EndBacked (told store) → (why : Refusal) → (let result : Result ℕ Refusal = Err why in Told (told store) (told last_store) (Waits meaning hall.held.vault end_by result (in_doubt meaning hall.held.vault end_by end file count)))
          → Is told moment faults (record { store = last_store; held = in_doubt_held }) in_doubt_at
      is_in_doubt backs why did =
          subst (λ c. Is told moment faults (record { store = last_store; held = in_doubt_held }) (record { core = halting file count (with_image m.core.image c); contents = m.contents; moment = moment last_store; counts = faults last_store })) ending_is
          (is_imaged told moment faults
          (record { store = last_store; held = joined_held end_change [] (in_doubt meaning hall.held.vault end_by end file count) (with_job None None hall.held) })
          (record { core = halting file count (last actor end_change [] (with_image None m.core)); contents = m.contents; moment = moment last_store; counts = faults last_store })
          (doubted_is told moment faults clock actor end_change [] (record { store = store; held = with_job None None hall.held }) last_store running later dropped_at gone joins (end_takes job.file (inventory m.core)) refl end file count backs why did)
          m.core.image hall.held.image writer is.core.image (λ none. absurd cc) (λ none. absurd cc) (halted_so (told last_store)) (halted_backs (told last_store)))
        where
          no_fault : {A : Type 0} {a : A} → Some a ≡ None → ⊥
          no_fault e = absurd cc

          halted_backs : (o : Option History) → IfSome o (λ h. WasSound hall.held.base hall.held.opened h
              → IsKept (record { core = halting file count (last actor end_change [] (with_image None m.core)); contents = m.contents; moment = moment last_store; counts = faults last_store })
              (joined_held end_change [] (in_doubt meaning hall.held.vault end_by end file count) (with_job None None hall.held)) h
              → HadBackups hall.held.base hall.held.opened h → KeepsAllBackups (with_image m.core.image (halting file count (last actor end_change [] (with_image None m.core)))) hall.held.opened h writer)
          halted_backs None = tt
          halted_backs (Some h) = λ sound kept had.
              let c : Core = halting file count (last actor end_change [] (with_image None m.core)) in
              same_keeps h c c.tickets c.next_file c.next_object c.next_ticket m.core.image c.generation c.log_length hall.held.opened writer
              (halted_any h c hall.held.opened no_fault None writer (kept.backups had))

          halted_so : (o : Option History) → IfSome o (λ h. WasSound hall.held.base hall.held.opened h
              → IsKept (record { core = halting file count (last actor end_change [] (with_image None m.core)); contents = m.contents; moment = moment last_store; counts = faults last_store })
              (joined_held end_change [] (in_doubt meaning hall.held.vault end_by end file count) (with_job None None hall.held)) h
              → (let fault : Option (ℕ × ℕ) = Some (file, count) in fault ≡ None)
              → AllInProgress (with_image m.core.image (halting file count (last actor end_change [] (with_image None m.core)))) in_doubt_held m.core.image h)
          halted_so None = tt
          halted_so (Some h) = λ sound kept none. absurd cc
