-- The step by which a database backup ends, as one case of the machine, whatever came of its calls.
use Rattle.std.proofs.Common.{◌≡◌, ◌⊎◌, inl, inr, ℕ, ◌+◌, ◌<◌, ◌≤◌, ◌^◌, Bool, true, false, nat_le, List, [], ◌∷◌, ◌++◌, length, Option, None, Some, Result, Ok, Err, is_some, refl, sym, ap, subst, ◌∙◌, arith}
use Rattle.std.specs.Prelude.{IfErr, IfSome, OnErr, OnOk}
use Rattle.store_api.specs.Cause.{NoneFell, Rose}
use Rattle.store_api.specs.Disk.{History, now}
use Rattle.store_api.specs.Runs.{GoesOn}
use Rattle.store_api.specs.Told.{Told}
use Rattle.store_api.proofs.Runs.{told_map}
use Rattle.store_api.specs.declared.store.Failed.{Failed}
use Rattle.kinds.specs.Refusals.{foremost, unless}
use Rattle.kinds.specs.declared.refusal.Refusal.{Refusal}
use Rattle.kinds.specs.declared.refusal.Refusal.TheVariants as refusal
use Rattle.entries.specs.declared.change.Change.{Change}
use Rattle.entries.specs.declared.change.Change.TheVariants as change
use Rattle.entries.specs.declared.entry.Entry.{Entry}
use Rattle.db_image.specs.declared.phase.Phase.{Phase}
use Rattle.db_image.specs.declared.phase.Progress.{Progress}
use Rattle.db_image.specs.declared.phase.Progress.TheVariants.{Done}
use Rattle.db_image.specs.Steps.{IsWithin, Job, Stepped, at_phase, further, progress_at}
use Rattle.inventory.specs.Meant.{meaning}
use Rattle.inventory_rows.specs.State.{Inv}
use Rattle.inventory_rules.specs.Run.{journal_of}
use Rattle.inventory_rules.specs.Transactions.{refused}
use Rattle.steps.specs.Events.{Deed}
use Rattle.steps.specs.Events.Deed.{Image as TakeImage}
use Rattle.steps.specs.declared.image.ImageKind.TheVariants as kind
use Rattle.steps.specs.declared.image.ImageReply.{ImageReply}
use Rattle.steps.specs.declared.image.ImageReply.TheVariants as reply
use Rattle.vault.specs.Files.{log_file}
use Rattle.vault.specs.Vaults.{State, Waits, in_doubt, with_waiting}
use Rattle.vault.proofs.Goodness.{log_ours}
use Rattle.machine.specs.Causes.{image_refused}
use Rattle.machine.specs.Machine.{ended, ending, halting, with_image}
use Rattle.machine.specs.State.{Core, Image, Machine, inventory, sight}
use Rattle.hall.specs.Backing.{end_by, with_job}
use Rattle.hall.specs.Good.{Is}
use Rattle.hall.specs.Held.{BegunImage, Hall, Held, IsImage, begun_of, unwritten_at}
use Rattle.hall.specs.Imaging.{own_begun}
use Rattle.hall.specs.Joined.{RefusesJoin, joined_held, unjoined}
use Rattle.hall.specs.Seats.{ended_at}
use Rattle.hall.specs.Steps.{Steps}
use Rattle.hall.proofs.Backing.{OwnBackup, own_backup}
use Rattle.hall.proofs.Calling.{later_run}
use Rattle.hall.proofs.Committed.{unjoined_is}
use Rattle.hall.proofs.Ended.{ended_is, next_answers, none_halted}
use Rattle.hall.proofs.Ending.{IsWritten, all_written, dropped_at, ended_at as machine_ended, ended_backs, ended_held, further_at, further_goes, further_held, in_doubt_at, in_doubt_held, is_ended, is_further, is_gone, is_in_doubt, next_image}

not_memory : {log count : ℕ} → refusal.LogFault log count ≡ refusal.Memory → ⊥
not_memory e = absurd cc

some_is : {A : Type 0} {a b : A} → Some a ≡ Some b → a ≡ b
some_is e = cc

-- an image that is held so is the one that the machine has
pub seq_is : (i : Image) (b : BegunImage) → begun_of (Some i) ≡ Some b → (i.seq ≡ b.seq) × (i.file ≡ b.file)
seq_is i b e = let same = some_is e in (ap (λ (x : BegunImage). x.seq) same, ap (λ (x : BegunImage). x.file) same)

module _ {S : Type 0} (told : S → Option History) (moment : S → ℕ) (faults : S → ℕ → ℕ) (clock : (s : S) → IfSome (told s) (λ h. now h ≡ moment s)) (actor : ℕ) (hall : Hall S) (mid : S)
    (c1 : NoneFell (faults hall.store) (faults mid)) (t1 : moment hall.store ≤ moment mid) (s1 : moment mid ≤ moment hall.store + 6) (free : foremost (ended_at (moment hall.store) hall.held) ≡ None)
    (mine : is_some (own_begun actor hall.held.image) ≡ true) (job : Job) (its_job : hall.held.job ≡ Some job) (b : BegunImage) (its_image : hall.held.image ≡ Some b)
    (done : progress_at (further job.phase (length job.payload)) ≡ Done)
    (did : let result : Result Progress Failed = Ok Done in Told (told hall.store) (told mid) (Stepped job (at_phase (further job.phase (length job.payload)) job) result)) where
  running : hall.held.vault.fault ≡ None
  running = none_halted (moment hall.store) hall.held free

  abbrev deed : Result ImageReply Refusal → Deed
  deed result = TakeImage kind.Next result

  abbrev len : ℕ
  len = length job.payload

  abbrev x : Change
  x = change.DbEnd job.file

  abbrev e : Entry
  e = end_by actor job.file

  own : (m : Machine) → Is told moment faults hall m → OwnBackup actor job hall.held.vault.pending m.core.image
  own m is =
      own_backup actor m.core.base.number hall.held.vault.generation hall.held.vault.pending job m.core.image
      (subst (λ (o : Option BegunImage). is_some (own_begun actor o) ≡ true) (sym is.core.image) mine)
      (subst (λ (j : Option Job). IsImage m.core.base.number hall.held.vault.generation hall.held.vault.pending j m.core.image) its_job (is.core.is_image running))

  -- as it is held
  its : (m : Machine) (is : Is told moment faults hall m) → ((own m is).its.seq ≡ b.seq) × ((own m is).its.file ≡ b.file)
  its m is = seq_is (own m is).its b (sym (ap begun_of (own m is).there) ∙ is.core.image ∙ its_image)

  -- the file that is held is its writer's
  pub file_is : ((m : Machine) × Is told moment faults hall m) → b.file ≡ job.file
  file_is (m, is) = sym (its m is).1 ∙ (own m is).is.file

  open_now : (m : Machine) → Is told moment faults hall m → foremost (ended m ++ image_refused kind.Next (sight actor m.core)) ≡ None
  open_now m is =
      ap (λ (l : List Refusal). foremost (l ++ image_refused kind.Next (sight actor m.core))) (ended_is (moment hall.store) hall.held m is.core is.clock)
      ∙ next_answers (ended_at (moment hall.store) hall.held) (image_refused kind.Next (sight actor m.core)) free
      ∙ ap (λ (o : Option Image). foremost (unless (is_some o) refusal.NotFound)) (own m is).mine

  written : (m : Machine) (is : Is told moment faults hall m) → IsWritten job.phase len
  written m is = all_written job.phase len (own m is).is.going done

  none_left : (m : Machine) (is : Is told moment faults hall m) → (own m is).its.unwritten ≡ 0
  none_left m is = (own m is).is.unwritten ∙ (written m is).all

  gone_told : Told (told hall.store) (told mid) (GoesOn (λ n. n ≡ job.file))
  gone_told = told_map (told hall.store) (told mid) (let result : Result Progress Failed = Ok Done in Stepped job (at_phase (further job.phase len) job) result) (GoesOn (λ n. n ≡ job.file)) (λ h n r. r.goes) did

  abbrev gone_at : Machine → Machine
  gone_at m = record m { core = with_image None m.core; moment = moment mid; counts = faults mid }

  at_gone : (m : Machine) → Is told moment faults hall m → Is told moment faults (record { store = mid; held = with_job None None hall.held }) (gone_at m)
  at_gone m is = is_gone told moment faults clock actor hall mid t1 m is running job its_job (own m is) gone_told

  refused_there : (o : Option Refusal) (m : Machine) (is : Is told moment faults hall m) → refused (journal_of hall.held.base hall.held.vault.journal) x hall.held.vault.database ≡ o
      → refused (journal_of m.core.base m.core.journal) (change.DbEnd (own m is).its.file) (inventory m.core) ≡ o
  refused_there o m is held =
      subst (λ n. refused (journal_of m.core.base m.core.journal) (change.DbEnd n) (inventory m.core) ≡ o) (sym (own m is).is.file)
      (subst (λ (b : Inv). refused (journal_of b m.core.journal) x (inventory m.core) ≡ o) (sym is.core.base)
      (subst (λ j. refused (journal_of hall.held.base j) x (inventory m.core) ≡ o) (sym is.core.journal)
      (subst (λ (v : Inv). refused (journal_of hall.held.base hall.held.vault.journal) x v ≡ o) is.core.database held)))

  -- the number of its end would reach its bound
  pub backup_full : refused (journal_of hall.held.base hall.held.vault.journal) x hall.held.vault.database ≡ Some refusal.InventoryFull
      → Steps told moment faults actor (deed (Err refusal.InventoryFull)) hall (record { store = mid; held = with_job None None hall.held })
  backup_full full = λ m is.
      let o = own m is in (
        m.contents,
        gone_at m,
        refl,
        record {
          number = refl;
          later = later_run told moment faults hall mid c1 t1 (omega (arith, s1)) m (gone_at m) is refl refl;
          step = inr (
            open_now m is,
            (o.its, o.mine, inr (inl (o.is.picture, none_left m is, refl, refused_there (Some refusal.InventoryFull) m is full, record { core = refl; contents = refl }))),
          );
        },
        at_gone m is,
      )

  -- the writer is done, and the image is still in progress
  abbrev writer : Job
  writer = at_phase (further job.phase len) job

  abbrev left_held : Held
  left_held = with_job hall.held.image (Some writer) hall.held

  abbrev left_at : Machine → Machine
  left_at m = record m { moment = moment mid; counts = faults mid }

  at_left : (m : Machine) → Is told moment faults hall m → Is told moment faults (record { store = mid; held = left_held }) (left_at m)
  at_left m is =
      let o = own m is in
      let f = further_goes job.phase len o.is.going o.is.within in
      let none : unwritten_at (further job.phase len) len ≡ o.its.unwritten = ap (λ (p : Phase). unwritten_at p len) (written m is).opened ∙ sym (none_left m is) in
      subst (λ (i : Option Image). Is told moment faults (record { store = mid; held = left_held }) (record m { core = with_image i m.core; moment = moment mid; counts = faults mid }))
      (ap (λ n. Some (record o.its { unwritten = n })) none ∙ sym o.there)
      (is_further told moment faults clock actor hall mid t1 m is running job its_job o Done (further job.phase len) f.going f.within did)

  -- ---- the transaction of its end

  module _ (last : S) (c2 : NoneFell (faults mid) (faults last)) (t2 : moment mid ≤ moment last) (s2 : moment last ≤ moment mid + 1)
      (legal : refused (journal_of hall.held.base hall.held.vault.journal) x hall.held.vault.database ≡ None) where
    c12 : NoneFell (faults hall.store) (faults last)
    c12 n = let a = c1 n in let z = c2 n in omega (arith, a, z)

    -- it waits for a force
    pub backup_ends : (number : ℕ) → Told (told mid) (told last) (Waits {T = ℕ} {E = Refusal} meaning hall.held.vault e (Ok number) (with_waiting meaning hall.held.vault e))
        → Steps told moment faults actor (deed (Ok (reply.Done b.seq))) hall (record { store = last; held = with_job None None (joined_held x [] (with_waiting meaning hall.held.vault e) left_held) })
    backup_ends number waits = λ m is.
        let o = own m is in
        let next : Machine = record { core = with_image None (ending actor o.its m.core); contents = m.contents; moment = moment last; counts = faults last } in (
          m.contents,
          next,
          refl,
          record {
            number = refl;
            later = later_run told moment faults hall last c12 (omega (arith, t1, t2)) (omega (arith, s1, s2)) m next is refl refl;
            step = (open_now m is, (o.its, o.mine, sym (its m is).0, none_left m is, inr (o.is.picture, refused_there None m is legal, record { core = refl; contents = refl })));
          },
          is_ended told moment faults clock actor hall mid t1 m is running job its_job o last t2 (at_gone m is) legal (ended_backs told moment faults clock actor hall mid t1 m is running job its_job o last t2 (at_gone m is) legal Done (written m is).opened did) number waits,
        )

    module _ (end log count : ℕ) where
      doubts : (why : Refusal) → Told (told mid) (told last) (Waits {T = ℕ} {E = Refusal} meaning hall.held.vault e (Err why) (in_doubt meaning hall.held.vault e end log count)) → log < 4 → why ≡ refusal.LogFault log count
          → Rose (faults mid log) (faults last log) → count ≡ faults last log
          → Steps told moment faults actor (deed (Err why)) hall (record { store = last; held = joined_held x [] (in_doubt meaning hall.held.vault e end log count) left_held })
      doubts why waits ours is_fault rose is_count = λ m is.
          let o = own m is in
          let next : Machine = record { core = halting log count (ending actor o.its m.core); contents = m.contents; moment = moment last; counts = faults last } in
          let before = ap (λ (f : ℕ → ℕ). f log) is.counts in
          let less = c1 log in
          let rises : Rose (m.counts log) (faults last log) = omega (arith, before, less, rose) in (
            m.contents,
            next,
            refl,
            record {
              number = refl;
              later = later_run told moment faults hall last c12 (omega (arith, t1, t2)) (omega (arith, s1, s2)) m next is refl refl;
              step = inr (
                open_now m is,
                (
                  o.its,
                  o.mine,
                  inr (inr (log, count, moment last, ending actor o.its m.core, is_fault, (ours, rises, is_count), inr (inr (o.is.picture, refl)), record { core = refl; contents = refl })),
                ),
              );
            },
            is_in_doubt told moment faults clock actor hall mid t1 m is running job its_job o last t2 (at_gone m is) legal (Some writer) end log count (ended_backs told moment faults clock actor hall mid t1 m is running job its_job o last t2 (at_gone m is) legal Done (written m is).opened did) why waits,
          )

    wants_memory : (held : Held) → (held ≡ left_held) ⊎ (held ≡ unjoined x left_held) → Steps told moment faults actor (deed (Err refusal.Memory)) hall (record { store = mid; held = held })
    wants_memory held left = λ m is. (
      m.contents,
      left_at m,
      refl,
      record {
        number = refl;
        later = later_run told moment faults hall mid c1 t1 (omega (arith, s1)) m (left_at m) is refl refl;
        step = inl (inr refl, record { core = refl; contents = refl });
      },
      still m is left,
    )
      where
        still : (m : Machine) → Is told moment faults hall m → (held ≡ left_held) ⊎ (held ≡ unjoined x left_held) → Is told moment faults (record { store = mid; held = held }) (left_at m)
        still m is (inl same) = subst (λ h. Is told moment faults (record { store = mid; held = h }) (left_at m)) (sym same) (at_left m is)
        still m is (inr same) =
            subst (λ h. Is told moment faults (record { store = mid; held = h }) (left_at m)) (sym same)
            (unjoined_is told moment faults x (record { store = mid; held = left_held }) (left_at m) (at_left m is))

    -- it didn't join, or is in doubt
    pub backup_unended : (why : Refusal) (new : Held) → ((why ≡ refusal.Memory → ⊥) → Told (told mid) (told last) (Waits {T = ℕ} {E = Refusal} meaning hall.held.vault e (Err why) new.vault))
        → RefusesJoin left_held e [] (faults mid) (faults last) why new (last ≡ mid) → Steps told moment faults actor (deed (Err why)) hall (record { store = last; held = new })
    backup_unended why new waits (inl (memory, left, same)) =
        subst (λ r. Steps told moment faults actor (deed (Err r)) hall (record { store = last; held = new })) (sym memory)
        (subst (λ (s : S). Steps told moment faults actor (deed (Err refusal.Memory)) hall (record { store = s; held = new })) (sym same) (wants_memory new left))
    backup_unended why new waits (inr (doubt, is)) =
        let log : ℕ = log_file hall.held.vault.generation in
        let count : ℕ = faults last log in
        let end : ℕ = doubt.3.0 in
        let form : new ≡ joined_held x [] (in_doubt meaning hall.held.vault e end log count) left_held = is ∙ ap (λ v. joined_held x [] v left_held) doubt.3.1 in
        subst (λ (h : Held). Steps told moment faults actor (deed (Err why)) hall (record { store = last; held = h })) (sym form)
        (doubts end log count why
        (subst (λ (v : State Inv). Told (told mid) (told last) (Waits {T = ℕ} {E = Refusal} meaning hall.held.vault e (Err why) v)) doubt.3.1 (waits (λ same. not_memory (sym doubt.1 ∙ same))))
        (log_ours hall.held.vault.generation) doubt.1 doubt.2 refl)
