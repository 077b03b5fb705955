-- What comes of the calls by which a database backup in progress goes on, in their order.
use Rattle.std.proofs.Common.{◌≡◌, ◌⊎◌, inl, inr, ℕ, ◌+◌, ◌<◌, ◌≤◌, ◌^◌, Bool, true, false, List, [], ◌∷◌, ◌++◌, length, Option, None, Some, Result, Ok, Err, is_some, refl, sym, ap, subst, ◌∙◌, arith}
use Rattle.std.specs.Prelude.{IfErr, IfSome, OnErr, OnOk}
use Rattle.store_api.specs.Cause.{NoneFell, Rose}
use Rattle.store_api.specs.Disk.{History, now}
use Rattle.store_api.specs.Runs.{GoesOn}
use Rattle.store_api.specs.Told.{Told}
use Rattle.store_api.proofs.Runs.{told_map}
use Rattle.store_api.specs.declared.store.Failed.{Failed}
use Rattle.kinds.specs.Refusals.{foremost}
use Rattle.kinds.specs.declared.refusal.Refusal.{Refusal}
use Rattle.kinds.specs.declared.refusal.Refusal.TheVariants as refusal
use Rattle.entries.specs.declared.change.Change.TheVariants as change
use Rattle.entries.specs.declared.entry.Entry.{Entry}
use Rattle.db_image.specs.declared.phase.Progress.{Progress}
use Rattle.db_image.specs.declared.phase.Progress.TheVariants.{Done, More}
use Rattle.db_image.specs.Steps.{Job, Stepped, at_phase, further, progress_at}
use Rattle.inventory.specs.Meant.{meaning}
use Rattle.inventory_rows.specs.State.{Inv}
use Rattle.inventory_rules.specs.Run.{journal_of}
use Rattle.inventory_rules.specs.Transactions.{refused}
use Rattle.inventory_rules.specs.Backups.{backup_at, is_unfinished}
use Rattle.steps.specs.Events.{Deed, is_listed}
use Rattle.vault.specs.Files.{log_file}
use Rattle.steps.specs.Events.Deed.{Image as TakeImage}
use Rattle.steps.specs.declared.image.ImageKind.TheVariants as kind
use Rattle.steps.specs.declared.image.ImageReply.{ImageReply}
use Rattle.steps.specs.declared.image.ImageReply.TheVariants as reply
use Rattle.vault.specs.Vaults.{State, Waits, with_waiting}
use Rattle.machine.specs.State.{Machine}
use Rattle.hall.specs.Backing.{Ends, IsFileOf, IsGoing, WriteRose, Writes, WritesTo, end_by, end_refused, joined_number, with_job}
use Rattle.hall.specs.Good.{Is}
use Rattle.hall.specs.Held.{BegunImage, Hall, Held, IsImage, begun_of}
use Rattle.hall.specs.Imaging.{own_begun}
use Rattle.hall.specs.Joined.{RefusesJoin, joined_held}
use Rattle.hall.specs.Seats.{ended_at}
use Rattle.hall.specs.Steps.{Steps}
use Rattle.hall.proofs.Backing.{own_backup}
use Rattle.hall.proofs.BackupCalls.{fault_listed, few_stamps, full_listed, memory_listed, reply_listed}
use Rattle.hall.proofs.BackupEnds.{backup_ends, backup_full, backup_unended, seq_is}
use Rattle.hall.proofs.BackupRefused.{still_listed}
use Rattle.hall.proofs.BackupSteps.{backup_fails, backup_more}
use Rattle.hall.proofs.Committed.{parts_stay}
use Rattle.hall.proofs.Ended.{none_halted}
use Rattle.hall.proofs.Imaging.{time_to_go}

-- ---- what is there

pub the_job : (o : Option Job) → is_some o ≡ true → (job : Job) × (o ≡ Some job)
the_job None h = absurd cc
the_job (Some job) h = (job, refl)

pub the_image : (actor : ℕ) (i : Option BegunImage) → is_some (own_begun actor i) ≡ true → (b : BegunImage) × (i ≡ Some b)
the_image actor None h = absurd cc
the_image actor (Some b) h = (b, refl)

-- its writer met no fault
pub its_going : {S : Type 0} (told : S → Option History) (moment : S → ℕ) (faults : S → ℕ → ℕ) (actor : ℕ) (hall : Hall S) → ((m : Machine) × Is told moment faults hall m) → foremost (ended_at (moment hall.store) hall.held) ≡ None
    → is_some (own_begun actor hall.held.image) ≡ true → is_some hall.held.job ≡ true → IsGoing hall.held.job
its_going told moment faults actor hall (m, is) free mine backed =
    let j = the_job hall.held.job backed in
    subst IsGoing (sym j.1)
    (own_backup actor m.core.base.number hall.held.vault.generation hall.held.vault.pending j.0 m.core.image
    (subst (λ (o : Option BegunImage). is_some (own_begun actor o) ≡ true) (sym is.core.image) mine)
    (subst (λ (o : Option Job). IsImage m.core.base.number hall.held.vault.generation hall.held.vault.pending o m.core.image) j.1 (is.core.is_image (none_halted (moment hall.store) hall.held free)))).is.going

-- ---- a step of its writer

module _ {S : Type 0} (told : S → Option History) (moment : S → ℕ) (faults : S → ℕ → ℕ) (clock : (s : S) → IfSome (told s) (λ h. now h ≡ moment s)) (actor : ℕ) (hall : Hall S) (good : (m : Machine) × Is told moment faults hall m)
    (free : foremost (ended_at (moment hall.store) hall.held) ≡ None) (mine : is_some (own_begun actor hall.held.image) ≡ true) (backed : is_some hall.held.job ≡ true) (file seq : ℕ)
    (seat : IfSome hall.held.image (λ i. ◌≡◌ {A = ℕ × ℕ} (file, seq) (i.file, i.seq))) (mid : S) (c1 : NoneFell (faults hall.store) (faults mid)) (t1 : moment hall.store ≤ moment mid) (s1 : moment mid ≤ moment hall.store + 6)
    (held : Held) (answer : Result Progress Failed) (wrote : Writes hall.held.job hall.held held answer) (to : Told (told hall.store) (told mid) (WritesTo hall.held.job answer))
    (rose : OnErr answer (WriteRose hall.held.job (faults hall.store) (faults mid))) where
  job : Job
  job = (the_job hall.held.job backed).0

  its_job : hall.held.job ≡ Some job
  unfolding job the_job
  its_job = (the_job hall.held.job backed).1

  b : BegunImage
  b = (the_image actor hall.held.image mine).0

  its_image : hall.held.image ≡ Some b
  unfolding b the_image
  its_image = (the_image actor hall.held.image mine).1

  seat_is : ◌≡◌ {A = ℕ × ℕ} (file, seq) (b.file, b.seq)
  seat_is = subst (λ (o : Option BegunImage). IfSome o (λ i. ◌≡◌ {A = ℕ × ℕ} (file, seq) (i.file, i.seq))) its_image seat

  abbrev deed : Result ImageReply Refusal → Deed
  deed result = TakeImage kind.Next result

  abbrev len : ℕ
  len = length job.payload

  abbrev next_job : Job
  next_job = at_phase (further job.phase len) job

  wrote_it : (r : Result Progress Failed) → answer ≡ r → Writes (Some job) hall.held held r
  wrote_it r is = subst (λ o. Writes o hall.held held r) its_job (subst (Writes hall.held.job hall.held held) is wrote)

  told_it : (r : Result Progress Failed) → answer ≡ r → Told (told hall.store) (told mid) (WritesTo (Some job) r)
  told_it r is = subst (λ o. Told (told hall.store) (told mid) (WritesTo o r)) its_job (subst (λ r. Told (told hall.store) (told mid) (WritesTo hall.held.job r)) is to)

  pub next_more : answer ≡ Ok More → Steps told moment faults actor (deed (Ok reply.More)) hall (record { store = mid; held = held })
  next_more is =
      let w = wrote_it (Ok More) is in
      subst (λ h. Steps told moment faults actor (deed (Ok reply.More)) hall (record { store = mid; held = h })) (sym w.1)
      (backup_more told moment faults clock actor hall mid c1 t1 free mine job its_job (omega (arith, s1)) More (sym w.0) (told_it (Ok More) is))

  the_file : file ≡ job.file
  the_file =
      ap (λ (p : ℕ × ℕ). p.0) seat_is
      ∙ (own_file good)
    where
      own_file : ((m : Machine) × Is told moment faults hall m) → b.file ≡ job.file
      own_file (m, is) =
          let own = own_backup actor m.core.base.number hall.held.vault.generation hall.held.vault.pending job m.core.image
          (subst (λ (o : Option BegunImage). is_some (own_begun actor o) ≡ true) (sym is.core.image) mine)
          (subst (λ (o : Option Job). IsImage m.core.base.number hall.held.vault.generation hall.held.vault.pending o m.core.image) its_job (is.core.is_image (none_halted (moment hall.store) hall.held free))) in
          sym (seq_is own.its b (sym (ap begun_of own.there) ∙ is.core.image ∙ its_image)).1 ∙ own.is.file

  pub next_unwritten : (e : Failed) → answer ≡ Err e → Steps told moment faults actor (deed (Err (refusal.WriteFault file))) hall (record { store = mid; held = held })
  next_unwritten e is =
      let rises : WriteRose (Some job) (faults hall.store) (faults mid) =
      subst (λ o. WriteRose o (faults hall.store) (faults mid)) its_job (subst (λ r. OnErr r (WriteRose hall.held.job (faults hall.store) (faults mid))) is rose) in
      subst (λ n. Steps told moment faults actor (deed (Err (refusal.WriteFault n))) hall (record { store = mid; held = held })) (sym the_file)
      (subst (λ h. Steps told moment faults actor (deed (Err (refusal.WriteFault job.file))) hall (record { store = mid; held = h })) (sym (wrote_it (Err e) is))
      (backup_fails told moment faults clock actor hall mid c1 t1 free mine job its_job (omega (arith, s1)) (told_it (Err e) is) rises))

  -- ---- it is whole

  module _ (whole : answer ≡ Ok Done) where
    abbrev left_held : Held
    left_held = with_job hall.held.image (Some next_job) hall.held

    held_is : held ≡ left_held
    held_is = (wrote_it (Ok Done) whole).1

    done : progress_at (further job.phase len) ≡ Done
    done = sym (wrote_it (Ok Done) whole).0

    did : let result : Result Progress Failed = Ok Done in Told (told hall.store) (told mid) (Stepped job next_job result)
    did = told_it (Ok Done) whole

    -- the same rule of what was held before
    before : (o : Option Refusal) → refused (journal_of held.base held.vault.journal) (change.DbEnd file) held.vault.database ≡ o → refused (journal_of hall.held.base hall.held.vault.journal) (change.DbEnd job.file) hall.held.vault.database ≡ o
    before o h =
        subst (λ n. refused (journal_of hall.held.base hall.held.vault.journal) (change.DbEnd n) hall.held.vault.database ≡ o) the_file
        (subst (λ (x : Held). refused (journal_of x.base x.vault.journal) (change.DbEnd file) x.vault.database ≡ o) held_is h)

    next_full : (why : Refusal) → refused (journal_of held.base held.vault.journal) (change.DbEnd file) held.vault.database ≡ Some why → why ≡ refusal.InventoryFull → (new : Held) → new ≡ with_job None None held
        → Steps told moment faults actor (deed (Err why)) hall (record { store = mid; held = new })
    next_full why illegal full new is =
        subst (λ r. Steps told moment faults actor (deed (Err r)) hall (record { store = mid; held = new })) (sym full)
        (subst (λ h. Steps told moment faults actor (deed (Err refusal.InventoryFull)) hall (record { store = mid; held = h })) (sym (is ∙ ap (with_job None None) held_is))
        (backup_full told moment faults clock actor hall mid c1 t1 s1 free mine job its_job b its_image done did (before (Some refusal.InventoryFull) (illegal ∙ ap (λ r. Some r) full))))

    module _ (last : S) (c2 : NoneFell (faults mid) (faults last)) (t2 : moment mid ≤ moment last) (s2 : moment last ≤ moment mid + 1) (legal_now : end_refused file held ≡ None) where
      abbrev e : Entry
      e = end_by actor job.file

      entry_is : end_by actor file ≡ e
      entry_is = ap (end_by actor) the_file

      legal : refused (journal_of hall.held.base hall.held.vault.journal) (change.DbEnd job.file) hall.held.vault.database ≡ None
      legal = before None legal_now

      as_before : (r : Result ℕ Refusal) (v : State Inv) → Told (told mid) (told last) (Waits meaning held.vault (end_by actor file) r v) → Told (told mid) (told last) (Waits meaning hall.held.vault e r v)
      as_before r v waits =
          subst (λ (h : Held). Told (told mid) (told last) (Waits meaning h.vault e r v)) held_is
          (subst (λ (y : Entry). Told (told mid) (told last) (Waits meaning held.vault y r v)) entry_is waits)

      next_ends : (number : ℕ) (new : Held) → new ≡ with_job None None (joined_held (change.DbEnd file) [] (with_waiting meaning held.vault (end_by actor file)) held)
          → Told (told mid) (told last) (Waits {T = ℕ} {E = Refusal} meaning held.vault (end_by actor file) (Ok number) new.vault)
          → Steps told moment faults actor (deed (Ok (reply.Done seq))) hall (record { store = last; held = new })
      next_ends number new left waits =
          let form : new ≡ with_job None None (joined_held (change.DbEnd job.file) [] (with_waiting meaning hall.held.vault e) left_held) =
          left ∙ ap (λ (n : ℕ). with_job None None (joined_held (change.DbEnd n) [] (with_waiting meaning held.vault (end_by actor n)) held)) the_file
          ∙ ap (λ (h : Held). with_job None None (joined_held (change.DbEnd job.file) [] (with_waiting meaning h.vault e) h)) held_is in
          subst (λ n. Steps told moment faults actor (deed (Ok (reply.Done n))) hall (record { store = last; held = new })) (sym (ap (λ (p : ℕ × ℕ). p.1) seat_is))
          (subst (λ h. Steps told moment faults actor (deed (Ok (reply.Done b.seq))) hall (record { store = last; held = h })) (sym form)
          (backup_ends told moment faults clock actor hall mid c1 t1 s1 free mine job its_job b its_image done did last c2 t2 s2 legal number
          (subst (λ (v : State Inv). Told (told mid) (told last) (Waits {T = ℕ} {E = Refusal} meaning hall.held.vault e (Ok number) v)) (ap (λ (h : Held). h.vault) form) (as_before (Ok number) new.vault waits))))

      next_unended : (why : Refusal) (new : Held) → ((why ≡ refusal.Memory → ⊥) → Told (told mid) (told last) (Waits {T = ℕ} {E = Refusal} meaning held.vault (end_by actor file) (Err why) new.vault))
          → RefusesJoin held (end_by actor file) [] (faults mid) (faults last) why new (last ≡ mid) → Steps told moment faults actor (deed (Err why)) hall (record { store = last; held = new })
      next_unended why new waits refuses =
          backup_unended told moment faults clock actor hall mid c1 t1 s1 free mine job its_job b its_image done did last c2 t2 s2 legal why new (λ other. as_before (Err why) new.vault (waits other))
          (subst (λ (h : Held). RefusesJoin h e [] (faults mid) (faults last) why new (last ≡ mid)) held_is
          (subst (λ (y : Entry). RefusesJoin held y [] (faults mid) (faults last) why new (last ≡ mid)) entry_is refuses))

    err_is : {A : Type 0} {a b : Refusal} → (let r : Result A Refusal = Err a in r ≡ Err b) → a ≡ b
    err_is e = cc

    ok_is_none : {A : Type 0} {a : A} {b : Refusal} → (let r : Result A Refusal = Ok a in r ≡ Err b) → ⊥
    ok_is_none e = absurd cc

    -- its end, whatever came of it
    pub next_done : (last : S) (c2 : NoneFell (faults mid) (faults last)) (t2 : moment mid ≤ moment last) (s2 : moment last ≤ moment mid + 1) (new : Held) (answer : Result ImageReply Refusal)
        → Ends actor file seq held new (faults mid) (faults last) (last ≡ mid) answer
        → (end_refused file held ≡ None → (answer ≡ Err refusal.Memory → ⊥) → Told (told mid) (told last) (Waits meaning held.vault (end_by actor file) (joined_number held answer) new.vault))
        → Steps told moment faults actor (deed answer) hall (record { store = last; held = new })
    next_done last c2 t2 s2 new (Ok r) (is, legal, left) waits =
        subst (λ x. Steps told moment faults actor (deed (Ok x)) hall (record { store = last; held = new })) (sym is)
        (next_ends last c2 t2 s2 legal (held.vault.database.number + 1) new left (waits legal (λ no. ok_is_none no)))
    next_done last c2 t2 s2 new (Err why) (inl (illegal, full, left, same)) waits =
        subst (λ (s : S). Steps told moment faults actor (deed (Err why)) hall (record { store = s; held = new })) (sym same) (next_full why illegal full new left)
    next_done last c2 t2 s2 new (Err why) (inr (legal, refuses)) waits = next_unended last c2 t2 s2 legal why new (λ other. waits legal (λ same. other (err_is same))) refuses

    -- what that asks
    pub end_few : length held.stamps ≤ length held.vault.journal
    end_few = subst (λ (h : Held). length h.stamps ≤ length h.vault.journal) (sym held_is) (few_stamps told moment faults hall good)

    pub end_sure : held.vault.fault ≡ None
    end_sure = subst (λ (h : Held). h.vault.fault ≡ None) (sym held_is) (none_halted (moment hall.store) hall.held free)

    pub end_listed : is_unfinished (backup_at file held.vault.database) ≡ true
    end_listed =
        subst (λ (h : Held). is_unfinished (backup_at file h.vault.database) ≡ true) (sym held_is)
        (subst (λ n. is_unfinished (backup_at n hall.held.vault.database) ≡ true) (sym the_file) (still_listed told moment faults actor hall good free mine job its_job))

  pub end_time : moment mid + 1 ≤ 2 ^ 62
  end_time = let l : moment hall.store + 10 ≤ 2 ^ 62 = time_to_go (moment hall.store) hall.held free in omega (arith, l, s1)

  -- ---- its files

  pub wrote_files : (r : Result Progress Failed) → answer ≡ r → Told (told hall.store) (told mid) (GoesOn (IsFileOf hall.held.job))
  wrote_files (Ok p) is =
      subst (λ o. Told (told hall.store) (told mid) (GoesOn (IsFileOf o))) (sym its_job)
      (told_map (told hall.store) (told mid) (WritesTo (Some job) (Ok p)) (GoesOn (IsFileOf (Some job))) (λ h n r. r.goes) (told_it (Ok p) is))
  wrote_files (Err e) is =
      subst (λ o. Told (told hall.store) (told mid) (GoesOn (IsFileOf o))) (sym its_job)
      (told_map (told hall.store) (told mid) (WritesTo (Some job) (Err e)) (GoesOn (IsFileOf (Some job))) (λ h n r. r) (told_it (Err e) is))

  pub wrote_stays : (r : Result Progress Failed) → answer ≡ r → (held.base ≡ hall.held.base) × (held.opened ≡ hall.held.opened)
  wrote_stays (Ok p) is = let w = wrote_it (Ok p) is in (ap (λ (h : Held). h.base) w.1, ap (λ (h : Held). h.opened) w.1)
  wrote_stays (Err e) is = let w = wrote_it (Err e) is in (ap (λ (h : Held). h.base) w, ap (λ (h : Held). h.opened) w)

-- ---- of its end

pub ends_listed : (actor file seq : ℕ) (old new : Held) (before after : ℕ → ℕ) (same : Type 0) (answer : Result ImageReply Refusal) → Ends actor file seq old new before after same answer → is_listed (TakeImage kind.Next answer) ≡ true
ends_listed actor file seq old new before after same (Ok r) ends = reply_listed kind.Next r
ends_listed actor file seq old new before after same (Err e) (inl (illegal, full, left, rest)) = full_listed kind.Next e full
ends_listed actor file seq old new before after same (Err e) (inr (free_of, inl h)) = memory_listed kind.Next e h.0
ends_listed actor file seq old new before after same (Err e) (inr (free_of, inr h)) = fault_listed kind.Next e (log_file old.vault.generation) (after (log_file old.vault.generation)) h.0.1

pub ends_stay : (actor file seq : ℕ) (old new : Held) (before after : ℕ → ℕ) (same : Type 0) (answer : Result ImageReply Refusal) → Ends actor file seq old new before after same answer → (new.base ≡ old.base) × (new.opened ≡ old.opened)
ends_stay actor file seq old new before after same (Ok r) (is, free_of, left) = (ap (λ (h : Held). h.base) left, ap (λ (h : Held). h.opened) left)
ends_stay actor file seq old new before after same (Err e) (inl (illegal, full, left, rest)) = (ap (λ (h : Held). h.base) left, ap (λ (h : Held). h.opened) left)
ends_stay actor file seq old new before after same (Err e) (inr (free_of, refuses)) = parts_stay old new (end_by actor file) [] before after same (Err e) tt refuses
