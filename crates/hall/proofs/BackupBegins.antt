-- The step that begins a database backup, as one case of the machine, whatever came of its calls.
use Rattle.std.proofs.Common.{◌≡◌, ◌⊎◌, inl, inr, ℕ, ◌+◌, ◌<◌, ◌≤◌, ◌^◌, true, List, [], ◌∷◌, ◌++◌, length, Option, None, Some, Result, Ok, Err, refl, sym, ap, subst, ◌∙◌, arith}
use Rattle.std.specs.Prelude.{IfErr, IfSome, OnErr, OnOk}
use Rattle.store_api.specs.Cause.{NoneFell, Rose}
use Rattle.store_api.specs.Disk.{History, now, standing}
use Rattle.store_api.specs.Runs.{GoesOn}
use Rattle.store_api.specs.Told.{Told}
use Rattle.kinds.specs.Refusals.{foremost}
use Rattle.kinds.specs.declared.refusal.Refusal.{Refusal}
use Rattle.kinds.specs.declared.refusal.Refusal.TheVariants as refusal
use Rattle.entries.specs.declared.change.Change.{Change}
use Rattle.entries.specs.declared.change.Change.TheVariants as change
use Rattle.entries.specs.declared.entry.Entry.{Entry}
use Rattle.db_image.specs.Steps.{CanShut}
use Rattle.inventory.specs.Meant.{meaning}
use Rattle.inventory_rows.specs.State.{Inv}
use Rattle.steps.specs.Events.{Deed, is_listed}
use Rattle.steps.specs.Events.Deed.{Image as TakeImage}
use Rattle.steps.specs.declared.image.ImageReply.{ImageReply}
use Rattle.steps.specs.declared.image.ImageReply.TheVariants as reply
use Rattle.vault.specs.Files.{log_file}
use Rattle.vault.specs.Vaults.{Forces, RefusesForce, State, Waits, all_forced, in_doubt, with_fault, with_waiting}
use Rattle.vault.proofs.Goodness.{log_ours}
use Rattle.machine.specs.Causes.{image_refused}
use Rattle.machine.specs.Machine.{BeginsBackup, Images, begun, ended, halting, in_progress, stamped, with_image}
use Rattle.machine.specs.State.{Core, Machine, inventory, sight}
use Rattle.hall.specs.Backing.{IsHolding, backup_begun, backup_refused, begin_entry, begin_of, begun_forced, begun_waiting, kind_of}
use Rattle.hall.specs.Good.{Is}
use Rattle.hall.specs.Held.{Hall, Held}
use Rattle.hall.specs.Joined.{RefusesJoin, joined_held, unjoined}
use Rattle.hall.specs.Seats.{with_vault}
use Rattle.hall.specs.Steps.{Steps}
use Rattle.hall.proofs.Backed.{MayBack, backing_is, backing_joins, begun_image, begun_last, is_begun, is_forced, is_joined, is_synced, may_back, begin_backs}
use Rattle.hall.proofs.BackupJoins.{begin_takes}
use Rattle.hall.proofs.Calling.{later_run}
use Rattle.hall.proofs.Committed.{unjoined_is}
use Rattle.hall.proofs.Dropping.{no_later}
use Rattle.hall.proofs.Ended.{none_halted}
use Rattle.hall.proofs.Forced.{halted_is}
use Rattle.hall.proofs.JoinedIs.{doubted_is}

-- a step of either kind
images_of : (actor : ℕ) (after : Option ℕ) (old new : Machine) (answer : Result ImageReply Refusal) → BeginsBackup actor after (image_refused (kind_of after) (sight actor old.core)) old new answer
    → Images actor (kind_of after) old new answer
images_of actor None old new answer is = is
images_of actor (Some file) old new answer is = is

no_fault : {A : Type 0} {a : A} → None ≡ Some a → ⊥
no_fault e = absurd cc

not_memory : {log count : ℕ} → refusal.LogFault log count ≡ refusal.Memory → ⊥
not_memory e = absurd cc

-- ---- it may not begin

pub backup_declines : {S : Type 0} (told : S → Option History) (moment : S → ℕ) (faults : S → ℕ → ℕ) (actor : ℕ) (after : Option ℕ) (hall : Hall S) (e : Refusal)
    → (foremost (backup_refused actor (moment hall.store) after hall.held) ≡ Some e) ⊎ (e ≡ refusal.Memory) → Steps told moment faults actor (TakeImage (kind_of after) (Err e)) hall hall
backup_declines told moment faults actor after hall e why = λ m is. (
  m.contents,
  m,
  refl,
  record {
    number = refl;
    later = no_later m m.contents m refl refl;
    step = images_of actor after m m (Err e) (inl (held m is why, record { core = refl; contents = refl }));
  },
  is,
)
  where
    held : (m : Machine) → Is told moment faults hall m → (foremost (backup_refused actor (moment hall.store) after hall.held) ≡ Some e) ⊎ (e ≡ refusal.Memory)
        → (foremost (ended m ++ (image_refused (kind_of after) (sight actor m.core) ++ in_progress m.core.image)) ≡ Some e) ⊎ (e ≡ refusal.Memory)
    held m is (inl full) = inl (ap foremost (backing_is actor (moment hall.store) after hall.held m is.core is.clock) ∙ full)
    held m is (inr memory) = inr memory

-- ---- the new file was made durable, or that failed

module _ {S : Type 0} (told : S → Option History) (moment : S → ℕ) (faults : S → ℕ → ℕ) (clock : (s : S) → IfSome (told s) (λ h. now h ≡ moment s)) (actor : ℕ) (after : Option ℕ) (hall : Hall S) (synced : S)
    (t1 : moment hall.store ≤ moment synced) (c1 : NoneFell (faults hall.store) (faults synced)) (s1 : moment synced ≤ moment hall.store + 1)
    (free : foremost (backup_refused actor (moment hall.store) after hall.held) ≡ None) (goes : Told (told hall.store) (told synced) (GoesOn (λ n. n ≡ hall.held.claims.next_file))) where
  abbrev k : ℕ
  k = hall.held.claims.next_file

  abbrev x : Change
  x = begin_of after hall.held

  abbrev e : Entry
  e = begin_entry actor after hall.held

  abbrev w : State Inv
  w = with_waiting meaning hall.held.vault e

  abbrev deed : Result ImageReply Refusal → Deed
  deed answer = TakeImage (kind_of after) answer

  may : MayBack actor (moment hall.store) after hall.held
  may = may_back actor (moment hall.store) after hall.held free

  none : hall.held.vault.fault ≡ None
  none = none_halted (moment hall.store) hall.held may.free

  open_now : (m : Machine) → Is told moment faults hall m → foremost (ended m ++ (image_refused (kind_of after) (sight actor m.core) ++ in_progress m.core.image)) ≡ None
  open_now m is = ap foremost (backing_is actor (moment hall.store) after hall.held m is.core is.clock) ∙ free

  abbrev synced_hall : Hall S
  synced_hall = record { store = synced; held = hall.held }

  abbrev synced_at : Machine → Machine
  synced_at m = record m { moment = moment synced; counts = faults synced }

  at_synced : (m : Machine) → Is told moment faults hall m → Is told moment faults synced_hall (synced_at m)
  at_synced m is = is_synced told moment faults clock actor after [] hall synced synced synced t1 (omega arith) (omega arith) m is free goes

  -- ---- its transaction

  module _ (joined : S) (t2 : moment synced ≤ moment joined) (c2 : NoneFell (faults synced) (faults joined)) (s2 : moment joined ≤ moment synced + 1) where
    c12 : NoneFell (faults hall.store) (faults joined)
    c12 n = let a = c1 n in let b = c2 n in omega (arith, a, b)

    wants_memory : (held : Held) → (held ≡ hall.held) ⊎ (held ≡ unjoined x hall.held) → Steps told moment faults actor (deed (Err refusal.Memory)) hall (record { store = synced; held = held })
    wants_memory held left = λ m is. (
      m.contents,
      synced_at m,
      refl,
      record {
        number = refl;
        later = later_run told moment faults hall synced c1 t1 (omega (arith, s1)) m (synced_at m) is refl refl;
        step = images_of actor after m (synced_at m) (Err refusal.Memory) (inl (inr refl, record { core = refl; contents = refl }));
      },
      still m is left,
    )
      where
        still : (m : Machine) → Is told moment faults hall m → (held ≡ hall.held) ⊎ (held ≡ unjoined x hall.held) → Is told moment faults (record { store = synced; held = held }) (synced_at m)
        still m is (inl same) = subst (λ h. Is told moment faults (record { store = synced; held = h }) (synced_at m)) (sym same) (at_synced m is)
        still m is (inr same) = subst (λ h. Is told moment faults (record { store = synced; held = h }) (synced_at m)) (sym same) (unjoined_is told moment faults x synced_hall (synced_at m) (at_synced m is))

    module _ (end log count : ℕ) where
      abbrev doubted_vault : State Inv
      doubted_vault = in_doubt meaning hall.held.vault e end log count

      abbrev doubted_held : Held
      doubted_held = joined_held x [] doubted_vault hall.held

      abbrev doubted_at : Machine → Machine
      doubted_at m = record { core = halting log count (begun actor after m.core); contents = m.contents; moment = moment joined; counts = faults joined }

      doubts : (why : Refusal) → Told (told synced) (told joined) (Waits {T = ℕ} {E = Refusal} meaning hall.held.vault e (Err why) doubted_vault) → log < 4 → why ≡ refusal.LogFault log count
          → Rose (faults synced log) (faults joined log) → count ≡ faults joined log → Steps told moment faults actor (deed (Err why)) hall (record { store = joined; held = doubted_held })
      doubts why did own is_fault rose is_count = λ m is.
          let before = ap (λ (f : ℕ → ℕ). f log) is.counts in
          let less = c1 log in
          let rises : Rose (m.counts log) (faults joined log) = omega (arith, before, less, rose) in (
            m.contents,
            doubted_at m,
            refl,
            record {
              number = refl;
              later = later_run told moment faults hall joined c12 (omega (arith, t1, t2)) (omega (arith, s1, s2)) m (doubted_at m) is refl refl;
              step = images_of actor after m (doubted_at m) (Err why) (inr (open_now m is, inl (log, count, is_fault, (own, rises, is_count), record { core = refl; contents = refl })));
            },
            subst (λ c. Is told moment faults (record { store = joined; held = doubted_held }) (record { core = halting log count c; contents = m.contents; moment = moment joined; counts = faults joined }))
                (begun_last actor after hall.held m.core is.core.space.next_file)
                (doubted_is told moment faults clock actor x [] synced_hall joined none t2 (synced_at m) (at_synced m is) (backing_joins actor (moment hall.store) after hall.held m is.core may is.good.numbers)
                (begin_takes k after (inventory m.core)) refl end log count (begin_backs told moment faults clock actor after [] hall synced synced synced t1 (omega arith) (omega arith) m is free (at_synced m is)) why did),
          )

    -- it didn't join, or is in doubt
    pub backup_unjoined : (why : Refusal) (new : Held) → ((why ≡ refusal.Memory → ⊥) → Told (told synced) (told joined) (Waits {T = ℕ} {E = Refusal} meaning hall.held.vault e (Err why) new.vault))
        → RefusesJoin hall.held e [] (faults synced) (faults joined) why new (joined ≡ synced) → Steps told moment faults actor (deed (Err why)) hall (record { store = joined; held = new })
    backup_unjoined why new did (inl (memory, left, same)) =
        subst (λ r. Steps told moment faults actor (deed (Err r)) hall (record { store = joined; held = new })) (sym memory)
        (subst (λ (s : S). Steps told moment faults actor (deed (Err refusal.Memory)) hall (record { store = s; held = new })) (sym same) (wants_memory new left))
    backup_unjoined why new did (inr (doubt, is)) =
        let log : ℕ = log_file hall.held.vault.generation in
        let count : ℕ = faults joined log in
        let end : ℕ = doubt.3.0 in
        let form : new ≡ joined_held x [] (in_doubt meaning hall.held.vault e end log count) hall.held = is ∙ ap (λ v. joined_held x [] v hall.held) doubt.3.1 in
        subst (λ (h : Held). Steps told moment faults actor (deed (Err why)) hall (record { store = joined; held = h })) (sym form)
        (doubts end log count why
        (subst (λ (v : State Inv). Told (told synced) (told joined) (Waits {T = ℕ} {E = Refusal} meaning hall.held.vault e (Err why) v)) doubt.3.1 (did (λ same. not_memory (sym doubt.1 ∙ same))))
        (log_ours hall.held.vault.generation) doubt.1 doubt.2 refl)

    -- ---- the force

    module _ (forced : S) (t3 : moment joined ≤ moment forced) (c3 : NoneFell (faults joined) (faults forced)) (s3 : moment forced ≤ moment joined + 3) (number : ℕ)
        (waits : Told (told synced) (told joined) (Waits {T = ℕ} {E = Refusal} meaning hall.held.vault e (Ok number) w)) where
      c13 : NoneFell (faults hall.store) (faults forced)
      c13 n = let a = c12 n in let b = c3 n in omega (arith, a, b)

      abbrev joined_hall : Hall S
      joined_hall = record { store = joined; held = begun_waiting actor after hall.held }

      abbrev joined_at : Machine → Machine
      joined_at m = record { core = begun actor after m.core; contents = m.contents; moment = moment joined; counts = faults joined }

      at_joined : (m : Machine) → Is told moment faults hall m → Is told moment faults joined_hall (joined_at m)
      at_joined m is = is_joined told moment faults clock actor after [] hall synced joined forced t1 t2 t3 m is free goes number waits

      module _ (log count : ℕ) where
        abbrev failed_at : Machine → Machine
        failed_at m = record { core = halting log count (begun actor after m.core); contents = m.contents; moment = moment forced; counts = faults forced }

        fails : (why : Refusal) (next : State Inv) → Told (told joined) (told forced) (Forces {T = ℕ} {E = Refusal} meaning w (Err why) next) → log < 4 → why ≡ refusal.LogFault log count
            → Rose (faults joined log) (faults forced log) → count ≡ faults forced log
            → Steps told moment faults actor (deed (Err why)) hall (record { store = forced; held = with_vault (with_fault w log count) (begun_waiting actor after hall.held) })
        fails why next did own is_fault rose is_count = λ m is.
            let before = ap (λ (f : ℕ → ℕ). f log) is.counts in
            let less = c12 log in
            let rises : Rose (m.counts log) (faults forced log) = omega (arith, before, less, rose) in (
              m.contents,
              failed_at m,
              refl,
              record {
                number = refl;
                later = later_run told moment faults hall forced c13 (omega (arith, t1, t2, t3)) (omega (arith, s1, s2, s3)) m (failed_at m) is refl refl;
                step = images_of actor after m (failed_at m) (Err why) (inr (open_now m is, inl (log, count, is_fault, (own, rises, is_count), record { core = refl; contents = refl })));
              },
              halted_is told moment faults clock joined_hall forced refl t3 log count why next did (joined_at m) (at_joined m is),
            )

      pub backup_unforced : (why : Refusal) (next : State Inv) → RefusesForce w (faults joined) (faults forced) why next (forced ≡ joined) → Told (told joined) (told forced) (Forces {T = ℕ} {E = Refusal} meaning w (Err why) next)
          → Steps told moment faults actor (deed (Err why)) hall (record { store = forced; held = with_vault next (begun_waiting actor after hall.held) })
      backup_unforced why next (inl h) did = absurd (no_fault h.0.2)
      backup_unforced why next (inr h) did =
          let log : ℕ = log_file hall.held.vault.generation in
          subst (λ v. Steps told moment faults actor (deed (Err why)) hall (record { store = forced; held = with_vault v (begun_waiting actor after hall.held) })) (sym h.3)
          (fails log (faults forced log) why next did (log_ours hall.held.vault.generation) h.1 h.2 refl)

      module _ (answer : ℕ) (did : Told (told joined) (told forced) (Forces {T = ℕ} {E = Refusal} meaning w (Ok answer) (all_forced w))) where
        abbrev forced_hall : Hall S
        forced_hall = record { store = forced; held = begun_forced actor after (moment forced) hall.held }

        abbrev forced_at : Machine → Machine
        forced_at m = record { core = stamped (moment forced) (begun actor after m.core); contents = m.contents; moment = moment forced; counts = faults forced }

        at_forced : (m : Machine) → Is told moment faults hall m → Is told moment faults forced_hall (forced_at m)
        at_forced m is = is_forced told moment faults clock actor after [] hall synced joined forced t1 t2 t3 m is free (at_joined m is) answer did

        -- the new file couldn't be made durable
        pub backup_unsynced : Rose (faults hall.store k) (faults synced k) → Steps told moment faults actor (deed (Err (refusal.WriteFault k))) hall forced_hall
        backup_unsynced rose = λ m is.
            let file : ℕ = m.core.next_file in
            let next_is : k ≡ file = is.core.space.next_file in
            let rises : Rose (m.counts k) (faults forced k) = (let before = ap (λ (f : ℕ → ℕ). f k) is.counts in let more = c2 k in let most = c3 k in omega (arith, before, more, most, rose)) in (
              m.contents,
              forced_at m,
              refl,
              record {
                number = refl;
                later = later_run told moment faults hall forced c13 (omega (arith, t1, t2, t3)) (omega (arith, s1, s2, s3)) m (forced_at m) is refl refl;
                step = images_of actor after m (forced_at m) (Err (refusal.WriteFault k))
                    (inr (open_now m is, inr (moment forced, ap refusal.WriteFault next_is, subst (λ n. Rose (m.counts n) (faults forced n)) next_is rises, record { core = refl; contents = refl })));
              },
              at_forced m is,
            )

        -- its image is in progress
        pub backup_begins : (bytes : List ℕ) → IfSome (told forced) (λ h. CanShut (standing h k)) → IsHolding actor after hall.held bytes → 0 < length bytes → length bytes < 2 ^ 64
            → Steps told moment faults actor (deed (Ok (reply.Begun k (hall.held.vault.database.number + 1)))) hall (record { store = forced; held = backup_begun actor after bytes (moment forced) hall.held })
        backup_begins bytes shut holds some small = λ m is.
            let image = begun_image told moment faults clock actor after bytes hall synced joined forced t1 t2 t3 m is free in
            let next : Machine = record { core = with_image (Some image) (stamped (moment forced) (begun actor after m.core)); contents = m.contents; moment = moment forced; counts = faults forced } in
            let begins : reply.Begun k (hall.held.vault.database.number + 1) ≡ reply.Begun m.core.next_file ((inventory m.core).number + 1) =
            ap (λ n. reply.Begun n (hall.held.vault.database.number + 1)) is.core.space.next_file ∙ ap (λ (v : Inv). reply.Begun m.core.next_file (v.number + 1)) is.core.database in (
              m.contents,
              next,
              refl,
              record {
                number = refl;
                later = later_run told moment faults hall forced c13 (omega (arith, t1, t2, t3)) (omega (arith, s1, s2, s3)) m next is refl refl;
                step = images_of actor after m next (Ok (reply.Begun k (hall.held.vault.database.number + 1))) (open_now m is, (length bytes, begins, record { core = refl; contents = refl }));
              },
              is_begun told moment faults clock actor after bytes hall synced joined forced t1 t2 t3 m is free (at_forced m is) shut holds some small,
            )
