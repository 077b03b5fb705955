-- The steps of a database backup that goes on, each one case of the machine.
use Rattle.std.proofs.Common.{◌≡◌, ◌⊎◌, inl, inr, ℕ, ◌+◌, ◌-◌, ◌<◌, ◌≤◌, ◌^◌, Bool, true, false, List, [], ◌∷◌, ◌++◌, length, Option, None, Some, Result, Ok, Err, is_some, refl, sym, ap, subst, ◌∙◌, arith}
use Rattle.std.specs.Prelude.{IfSome}
use Rattle.store_api.specs.Cause.{NoneFell, Rose}
use Rattle.store_api.specs.Disk.{History, now}
use Rattle.store_api.specs.Runs.{GoesOn}
use Rattle.store_api.specs.Told.{Told}
use Rattle.store_api.proofs.Runs.{told_map}
use Rattle.store_api.specs.declared.store.Failed.{Failed}
use Rattle.kinds.specs.Refusals.{foremost, unless}
use Rattle.kinds.specs.declared.refusal.Refusal.{Refusal}
use Rattle.kinds.specs.declared.refusal.Refusal.TheVariants as refusal
use Rattle.entries.specs.declared.change.Change.TheVariants as change
use Rattle.db_image.specs.declared.phase.Phase.{Phase}
use Rattle.db_image.specs.declared.phase.Progress.TheVariants.{Done, More}
use Rattle.db_image.specs.Steps.{IsWithin, Job, Stepped, at_phase, further, progress_at}
use Rattle.inventory.specs.Meant.{meaning}
use Rattle.inventory_rows.specs.State.{Inv}
use Rattle.inventory_rules.specs.Run.{journal_of}
use Rattle.inventory_rules.specs.Transactions.{refused}
use Rattle.steps.specs.Events.{Deed}
use Rattle.steps.specs.Events.Deed.{Image as TakeImage}
use Rattle.steps.specs.declared.image.ImageKind.TheVariants as kind
use Rattle.steps.specs.declared.image.ImageReply.{ImageReply}
use Rattle.steps.specs.declared.image.ImageReply.TheVariants as reply
use Rattle.vault.specs.Vaults.{State, Waits, in_doubt, with_waiting}
use Rattle.machine.specs.Causes.{image_refused}
use Rattle.machine.specs.Machine.{ended, ending, with_image}
use Rattle.machine.specs.State.{Core, Image, Machine, inventory, sight}
use Rattle.hall.specs.Backing.{with_job}
use Rattle.hall.specs.Good.{Is}
use Rattle.hall.specs.Held.{BegunImage, Hall, Held, IsImage, begun_of, has_failed, unwritten_at}
use Rattle.hall.specs.Imaging.{own_begun}
use Rattle.hall.specs.Seats.{ended_at}
use Rattle.hall.specs.Steps.{Steps}
use Rattle.hall.proofs.Backing.{OwnBackup, own_backup}
use Rattle.hall.proofs.Calling.{later_run}
use Rattle.hall.proofs.Ended.{ended_is, next_answers, none_halted}
use Rattle.hall.proofs.Ending.{all_written, dropped_at, ended_at as machine_ended, ended_held, further_at, further_goes, further_held, in_doubt_at, in_doubt_held, is_ended, is_further, is_gone, is_in_doubt, less_left, next_image}

module _ {S : Type 0} (told : S → Option History) (moment : S → ℕ) (faults : S → ℕ → ℕ) (clock : (s : S) → IfSome (told s) (λ h. now h ≡ moment s)) (actor : ℕ) (hall : Hall S) (store : S)
    (counts : NoneFell (faults hall.store) (faults store)) (since : moment hall.store ≤ moment store) (free : foremost (ended_at (moment hall.store) hall.held) ≡ None)
    (mine : is_some (own_begun actor hall.held.image) ≡ true) (job : Job) (its_job : hall.held.job ≡ Some job) (soon : moment store ≤ moment hall.store + 7) where
  running : hall.held.vault.fault ≡ None
  running = none_halted (moment hall.store) hall.held free

  abbrev deed : Result ImageReply Refusal → Deed
  deed result = TakeImage kind.Next result

  own : (m : Machine) → Is told moment faults hall m → OwnBackup actor job hall.held.vault.pending m.core.image
  own m is =
      own_backup actor m.core.base.number hall.held.vault.generation hall.held.vault.pending job m.core.image
      (subst (λ (o : Option BegunImage). is_some (own_begun actor o) ≡ true) (sym is.core.image) mine)
      (subst (λ (j : Option Job). IsImage m.core.base.number hall.held.vault.generation hall.held.vault.pending j m.core.image) its_job (is.core.is_image running))

  open_now : (m : Machine) → Is told moment faults hall m → foremost (ended m ++ image_refused kind.Next (sight actor m.core)) ≡ None
  open_now m is =
      ap (λ (l : List Refusal). foremost (l ++ image_refused kind.Next (sight actor m.core))) (ended_is (moment hall.store) hall.held m is.core is.clock)
      ∙ next_answers (ended_at (moment hall.store) hall.held) (image_refused kind.Next (sight actor m.core)) free
      ∙ ap (λ (o : Option Image). foremost (unless (is_some o) refusal.NotFound)) (own m is).mine

  -- a part of it was written
  pub backup_more : {T : Type 0} (answer : T) → progress_at (further job.phase (length job.payload)) ≡ More
      → (let result : Result T Failed = Ok answer in Told (told hall.store) (told store) (Stepped job (at_phase (further job.phase (length job.payload)) job) result))
      → Steps told moment faults actor (deed (Ok reply.More)) hall (record { store = store; held = with_job hall.held.image (Some (at_phase (further job.phase (length job.payload)) job)) hall.held })
  backup_more answer more did = λ m is.
      let o = own m is in
      let len : ℕ = length job.payload in
      let f = further_goes job.phase len o.is.going o.is.within in
      let next : Machine = further_at told moment faults clock actor hall store since m is running job its_job o answer (further job.phase len) f.going f.within in
      let less : unwritten_at (further job.phase len) len < unwritten_at job.phase len = less_left job.phase len o.is.going o.is.within o.is.some more in (
        m.contents,
        next,
        refl,
        record {
          number = refl;
          later = later_run told moment faults hall store counts since (omega (arith, soon)) m next is refl refl;
          step = (open_now m is, (o.its, record o.its { unwritten = unwritten_at (further job.phase len) len }, o.mine, inl (omega (arith, less, o.is.unwritten), refl), record { core = refl; contents = refl }));
        },
        is_further told moment faults clock actor hall store since m is running job its_job o answer (further job.phase len) f.going f.within did,
      )

  -- a call on its file failed
  pub backup_fails : Told (told hall.store) (told store) (GoesOn (λ n. n ≡ job.file)) → Rose (faults hall.store job.file) (faults store job.file)
      → Steps told moment faults actor (deed (Err (refusal.WriteFault job.file))) hall (record { store = store; held = with_job None None hall.held })
  backup_fails did rose = λ m is.
      let o = own m is in
      let next : Machine = dropped_at told moment faults clock actor hall store since m is running job its_job o in
      let rises : Rose (m.counts job.file) (faults store job.file) = subst (λ n. Rose n (faults store job.file)) (sym (ap (λ (f : ℕ → ℕ). f job.file) is.counts)) rose in (
        m.contents,
        next,
        refl,
        record {
          number = refl;
          later = later_run told moment faults hall store counts since (omega (arith, soon)) m next is refl refl;
          step = inr (
            open_now m is,
            (
              o.its,
              o.mine,
              inl (o.is.picture, ap refusal.WriteFault (sym o.is.file), subst (λ n. Rose (m.counts n) (faults store n)) (sym o.is.file) rises, record { core = refl; contents = refl }),
            ),
          );
        },
        is_gone told moment faults clock actor hall store since m is running job its_job o did,
      )
