-- The step that reuses a volume: its transaction joins, all is forced, and the file of a scratch volume is cut.
use Rattle.std.proofs.Common.{◌≡◌, ◌⊎◌, inl, inr, ℕ, ◌+◌, ◌<◌, ◌≤◌, ◌^◌, Bool, true, not, List, [], ◌∷◌, ◌++◌, length, Option, Some, None, Result, Ok, Err, is_some, refl, sym, ap, subst, ◌∙◌, arith, false}
use Rattle.std.specs.Prelude.{◌==◌, IfErr, IfOk, IfSome, OnErr, OnOk, if◌then◌else◌}
use Rattle.std.specs.List.{AllByRecursion, flat_map}
use Rattle.std.proofs.lemmas.Bool.{eq-eqb, eqb-true, false≢true}
use Rattle.std.proofs.lemmas.List.{length-append}
use Rattle.store_api.specs.Cause.{NoneFell, Rose}
use Rattle.store_api.specs.Disk.{History, now}
use Rattle.store_api.specs.Runs.{GoesOn}
use Rattle.store_api.specs.Told.{Told}
use Rattle.store_api.proofs.Runs.{goes_image_after, goes_later, goes_then, goes_weaker, told_map, told_then}
use Rattle.kinds.specs.Refusals.{foremost}
use Rattle.kinds.specs.declared.refusal.Refusal.{Refusal}
use Rattle.kinds.specs.declared.refusal.Refusal.TheVariants as refusal
use Rattle.contents.proofs.Segments.{EachSegment, each_weaker}
use Rattle.entries.specs.EntryForm.{entry as entry_form}
use Rattle.entries.specs.declared.change.Change.{Change}
use Rattle.entries.specs.declared.change.Change.TheVariants as change
use Rattle.entries.specs.declared.entry.Entry.{Entry}
use Rattle.inventory.proofs.Nothing.{is_free, none_of}
use Rattle.inventory.proofs.Orders.{ascending}
use Rattle.inventory.specs.Meant.{meaning}
use Rattle.inventory_rows.specs.Ascending.{AreAscending}
use Rattle.inventory_rows.specs.version_groups.declared.copies.CopyRow.{CopyRow}
use Rattle.inventory_rows.specs.version_groups.declared.versions.Version.{Version}
use Rattle.inventory_rows.specs.volume_rows.declared.volume.Volume.{Volume}
use Rattle.inventory_rows.specs.pool_tables.Rows.{row_at}
use Rattle.inventory_rows.specs.Search.{versions}
use Rattle.inventory_rows.specs.State.{Inv}
use Rattle.inventory_rules.specs.Backups.{backup_at}
use Rattle.inventory_rules.specs.Journal.{no_journal}
use Rattle.inventory_rules.specs.Run.{journal_of}
use Rattle.inventory_rules.specs.Transactions.{effect, refused}
use Rattle.inventory_rules.proofs.Journals.{not_refused}
use Rattle.inventory_laws.proofs.Lists.{each_also}
use Rattle.inventory_laws.proofs.StoreRows.{some_from}
use Rattle.inventory_laws.proofs.Tests.{both_none}
use Rattle.steps.specs.Events.{is_listed}
use Rattle.steps.specs.Events.Deed.{Reuse}
use Rattle.vault.specs.Files.{IsOurs, log_file}
use Rattle.vault.specs.Vaults.{Forces, IsPending, RefusesForce, State, Waits, all_forced, in_doubt, with_fault, with_waiting}
use Rattle.vault.proofs.Goodness.{log_ours, held_since}
use Rattle.machine.specs.Causes.{listed, reuse_refused}
use Rattle.machine.specs.Machine.{durable, ended, halting, has_file, held_by, last_moment, stamped, storing_contents}
use Rattle.machine.specs.State.{Core, Machine, inventory, is_among, sight, unforced}
use Rattle.hall.specs.Covered.{IsVolume, left_open, IsNewFile, Written, came, is_any_reuse, written, written_before, written_over}
use Rattle.hall.specs.Good.{Is, IsKept, WasSound}
use Rattle.hall.specs.Held.{Hall, Held, IsCore, IsImage}
use Rattle.hall.specs.Joined.{RefusesJoin, drawn_by, joined_held, unjoined}
use Rattle.hall.specs.Reusing.{Clears, ClearsBehind, Empties, IsReuse, reuse_causes}
use Rattle.hall.specs.Seats.{all_stamped, ended_at, with_vault}
use Rattle.hall.specs.Sights.{sight_of}
use Rattle.hall.specs.Steps.{Steps}
use Rattle.hall.proofs.Calling.{later_run}
use Rattle.hall.proofs.Cleared.{IsCleared, cleared_kept, clears_goes, fewer_reached, later_stamps}
use Rattle.hall.proofs.Committed.{RestStays, unjoined_is}
use Rattle.hall.proofs.Databases.{each_covered, left_alone, none_waits}
use Rattle.hall.proofs.DrawnNext.{backup_so}
use Rattle.hall.proofs.Dropping.{no_later}
use Rattle.hall.proofs.Ended.{none_halted, not_over}
use Rattle.hall.proofs.Forcing.{all_have_stamps, forced_kept, halted_kept, ours_alone}
use Rattle.hall.proofs.FreedFiles.{none_new}
use Rattle.hall.proofs.JoinedBytes.{bytes_joined}
use Rattle.hall.proofs.JoinedCore.{core_doubted, core_waiting}
use Rattle.hall.proofs.JoinedFreed.{TakesAway, number_behind}
use Rattle.hall.proofs.JoinedKept.{doubted_kept, lawful_joined, listed_joined, waiting_kept}
use Rattle.hall.proofs.JoinedNumbers.{numbers_joined}
use Rattle.hall.proofs.JoinedSpace.{space_joined}
use Rattle.hall.proofs.Joining.{Joins, inventory_last, last, long, spent, valid_now, free_of, inv_before, whole_at}
use Rattle.hall.proofs.Lists.{each_kept}
use Rattle.hall.proofs.PlacesChosen.{row_volume}
use Rattle.hall.proofs.Reusable.{fault_listed, made_alone, may_begin, memory_listed, no_ticket, number_listed, on_cited, reuse_joins, reused_there, short_record}
use Rattle.hall.proofs.Stamped.{IsNearlyGood, core_forced, core_halted, listed_stamped, nearly_halted, nearly_stamped}
use Rattle.hall.proofs.Stamping.{rise_later, rise_over}
use Rattle.hall.proofs.Takes.{takes_joined}
use Rattle.hall.specs.Protected.{HadBackups, IsWritten, IsWrittenOn, KeepsAllBackups}
use Rattle.hall.proofs.JoinedBackups.{joined_backups}
use Rattle.hall.proofs.BackupsSpared.{durable_there, had_before, open_of, written_keeps}
use Rattle.hall.proofs.Protecting.{spares_others}
use Rattle.inventory_laws.specs.Rising.{is_reuse}
use Rattle.kinds.specs.declared.segment.Segment.{Segment}

-- ---- what is kept over calls

-- of a store that was sound when the hall was opened, where it tells its bytes
pub kept_from : {S : Type 0} (told : S → Option History) (moment : S → ℕ) (old store : S) (base : Inv) (opened : ℕ) (mine : ℕ → Type 0) (R : History → History → Type 0) (P Q : History → Type 0) → opened ≤ moment old
    → ((s : S) → IfSome (told s) (λ h. now h ≡ moment s)) → Told (told old) (told store) R → ((h new : History) → R h new → GoesOn mine h new)
    → ((h new : History) → R h new → now new ≡ moment store → P h → Q new)
    → IfSome (told old) (λ h. WasSound base opened h → P h) → IfSome (told store) (λ h. WasSound base opened h → Q h)
kept_from told moment old store base opened mine R P Q from clock did goes leaves kept = both (told old) (told store) did (clock old) (clock store) kept where
  both : (o n : Option History) → Told o n R → IfSome o (λ h. now h ≡ moment old) → IfSome n (λ h. now h ≡ moment store) → IfSome o (λ h. WasSound base opened h → P h) → IfSome n (λ h. WasSound base opened h → Q h)
  both None None r at to kept = tt
  both None (Some new) r at to kept = absurd r
  both (Some h) None r at to kept = absurd r
  both (Some h) (Some new) r at to kept = λ sound.
      leaves h new r to (kept (sound.0, λ image it. sound.1 image (goes_image_after mine h new opened image (goes h new r) (omega (arith, from, at)) it)))

-- a checkpoint in progress goes on over a run on volumes' files
abbrev pub PendingStays : Type 0
PendingStays =
    (theirs : ℕ → Bool) (vault : State Inv) (snapshot : Inv) (old new : History) → ((n : ℕ) → theirs n ≡ true → 4 ≤ n) → GoesOn (λ n. theirs n ≡ true) old new
    → IsPending meaning vault snapshot old → IsPending meaning vault snapshot new

-- ---- what was written

-- behind the reuse of a volume nothing was written on it
reused_end : (file : ℕ) (w : Written) (v : Inv) (es : List Entry) (e : Entry) → is_reuse file e.change ≡ true → written_over file w v (es ++ (e ∷ [])) ≡ record { floor = 0; segments = [] }
reused_end file w v [] e is = ap (λ b. if b then record { floor = 0; segments = [] } else record { floor = w.floor; segments = w.segments ++ came file v (effect e.change v) }) is
reused_end file w v (y ∷ es) e is =
    reused_end file (if is_reuse file y.change then record { floor = 0; segments = [] } else record { floor = w.floor; segments = w.segments ++ came file v (effect y.change v) }) (effect y.change v) es e is

-- ---- what has to be so

pub record MayReuse (actor file : ℕ) (m : Machine) : Type 0 where
  pub none : foremost (ended m ++ (reuse_refused file (sight actor m.core) ++ held_by (has_file file) m.core.tickets)) ≡ None
  pub joins : Joins actor (change.Reuse file) [] m.core
  pub takes : TakesAway (change.Reuse file) (inventory m.core)
  pub clear : AllByRecursion (λ t. AllByRecursion (λ s. file ≡ s.file → ⊥) t.place.segments) m.core.tickets
  pub volume : IsVolume m.core file

-- The hall is in this state of the machine, and as good as one between the transaction and the force behind it: one that waits is the reuse of a volume.
pub record IsBetween {S : Type 0} (told : S → Option History) (moment : S → ℕ) (faults : S → ℕ → ℕ) (hall : Hall S) (m : Machine) : Type 0 where
  pub core : IsCore hall.held m.core
  pub clock : m.moment ≡ moment hall.store
  pub counts : m.counts ≡ faults hall.store
  pub good : IsNearlyGood m hall.held
  pub kept : IfSome (told hall.store) (λ h. WasSound hall.held.base hall.held.opened h → IsKept m hall.held h)

module _ {S : Type 0} (told : S → Option History) (moment : S → ℕ) (faults : S → ℕ → ℕ) (clock : (s : S) → IfSome (told s) (λ h. now h ≡ moment s)) (actor file : ℕ) (hall : Hall S)
    (free : foremost (ended_at (moment hall.store) hall.held) ≡ None) (may : (m : Machine) → Is told moment faults hall m → MayReuse actor file m) where
  abbrev x : Change
  x = change.Reuse file

  abbrev e : Entry
  e = record { actor = actor; change = x }

  none : hall.held.vault.fault ≡ None
  none = none_halted (moment hall.store) hall.held free

  opened_before : (m : Machine) → Is told moment faults hall m → hall.held.opened ≤ moment hall.store
  opened_before m is = let from : hall.held.opened ≤ m.moment = rise_over hall.held.opened m.moment m.core.stamps is.good.stamped.rise in omega (arith, from, is.clock)

  abbrev later_core : Machine → Core
  later_core m = last actor x [] m.core

  abbrev later_contents : Machine → ℕ → List ℕ
  later_contents m = storing_contents (spent actor [] m.core) m.contents

  -- ---- the transaction waits

  module _ (mid : S) (counts : NoneFell (faults hall.store) (faults mid)) (since : moment hall.store ≤ moment mid) where
    abbrev w : State Inv
    w = with_waiting meaning hall.held.vault e

    abbrev waiting_at : Machine → Machine
    waiting_at m = record { core = later_core m; contents = later_contents m; moment = moment mid; counts = faults mid }

    abbrev waiting_held : Held
    waiting_held = joined_held x [] w hall.held

    abbrev between_hall : Hall S
    between_hall = record { store = mid; held = waiting_held }

    waits_between : (number : ℕ) → Told (told hall.store) (told mid) (Waits {T = ℕ} {E = Refusal} meaning hall.held.vault e (Ok number) w) → (m : Machine) → Is told moment faults hall m → IsBetween told moment faults between_hall (waiting_at m)
    waits_between number did m is =
        let a = may m is in
        let few = is.good.stamped.few in
        record {
          core = core_waiting actor x [] hall.held m.core is.core is.good.lawful a.joins is.good.numbers few a.takes (none_new m.core actor x [] is.good.lawful a.joins is.good.numbers) none;
          clock = refl;
          counts = refl;
          good = record {
            lawful = lawful_joined actor x [] m.core is.good.lawful a.joins;
            few = (let more = long actor x [] m.core in omega (arith, more, few));
            rise = rise_later hall.held.opened m.moment (moment mid) m.core.stamps is.good.stamped.rise (omega (arith, is.clock, since));
            space = space_joined actor x [] m.core is.good.lawful a.joins is.good.numbers is.good.space few;
            numbers = numbers_joined actor x [] m.core is.good.lawful a.joins is.good.numbers is.good.space;
            bytes = bytes_joined actor x [] m.core m.contents is.good.lawful a.joins is.good.numbers is.good.space is.good.bytes;
          };
          kept = kept_from told moment hall.store mid hall.held.base hall.held.opened IsOurs (Waits {T = ℕ} {E = Refusal} meaning hall.held.vault e (Ok number) w) (IsKept m hall.held) (IsKept (waiting_at m) waiting_held)
              (opened_before m is) clock did (λ h new r. ours_alone hall.held.vault.generation h new r.goes)
              (λ h new r to k.
              let goes = ours_alone hall.held.vault.generation h new r.goes in
              let held = k.sure (is.core.fault ∙ none) in
              let image : IsImage m.core.base.number hall.held.vault.generation hall.held.vault.pending hall.held.job m.core.image = is.core.is_image none in
              waiting_kept actor x [] m hall.held h new goes is.core k is.good.lawful few is.good.numbers is.good.space is.good.bytes a.joins (r.since (durable m.core) held) (joined_backups actor x [] m hall.held is.core is.good.lawful few is.good.numbers a.joins none (λ file same. absurd cc) h k)
              w (r.held (durable m.core) held) r.pends image waiting_held.seats (λ n firm. firm) waiting_held.claims (is.core.fault ∙ none) (faults mid) (moment mid) (r.left (durable m.core) held))
              is.good.kept;
        }

    -- ---- all is forced, and the file cleared

    module _ (store : S) (later : moment mid ≤ moment store) (pends : PendingStays) (m : Machine) (is : Is told moment faults hall m) (b : IsBetween told moment faults between_hall (waiting_at m)) where
      abbrev c : Core
      c = later_core m

      abbrev row : Option Volume
      row = row_at file w.database.stores.volumes

      abbrev Gone : ℕ → Type 0
      Gone = IsCleared file row

      abbrev final_at : Machine
      final_at = record { core = stamped (moment store) c; contents = later_contents m; moment = moment store; counts = faults store }

      abbrev final_held : Held
      final_held = all_stamped (moment store) (with_vault (all_forced w) waiting_held)

      not_ours : (other : ℕ) → IsOurs other → ¬ Gone other
      not_ours other ours gone = omega (arith, ours, gone.0, (may m is).volume.0)

      no_copy : EachSegment (λ s. ¬ Gone s.file) (versions (inventory c))
      no_copy =
          each_weaker (λ s. is_some (row_at s.file (inventory c).stores.volumes) ≡ true) (λ s. ¬ Gone s.file)
          (λ s there gone. false≢true (sym (ap is_some gone.1) ∙ (ap (λ (v : Inv). is_some (row_at file v.stores.volumes)) b.core.database ∙ subst (λ n. is_some (row_at n (inventory c).stores.volumes) ≡ true) gone.0 there)))
          (versions (inventory c)) (on_cited (inventory c) (valid_now c b.good.lawful))

      no_covered : (t : ℕ) → EachSegment (λ s. ¬ Gone s.file) (flat_map versions (left_open (stamped t c)))
      no_covered t =
          subst (λ (l : List Inv). EachSegment (λ s. ¬ Gone s.file) (flat_map versions l)) (sym (left_alone (stamped t c) (all_have_stamps t c b.good.few)))
          (each_covered (λ (v : Version). AllByRecursion (λ (r : CopyRow). AllByRecursion (λ s. ¬ Gone s.file) r.segments) v.copies) (inventory c ∷ []) (no_copy, tt))

      no_space : AllByRecursion (λ t. AllByRecursion (λ s. ¬ Gone s.file) t.place.segments) c.tickets
      no_space =
          each_kept (λ t. AllByRecursion (λ s. ¬ Gone s.file) t.place.segments) (λ t. not (is_among actor [] t)) m.core.tickets
          (each_also (λ t. AllByRecursion (λ s. file ≡ s.file → ⊥) t.place.segments) (λ t. AllByRecursion (λ s. ¬ Gone s.file) t.place.segments) m.core.tickets
          (λ t clear. each_also (λ s. file ≡ s.file → ⊥) (λ s. ¬ Gone s.file) t.place.segments (λ s ne gone. ne (sym gone.0)) clear) (may m is).clear)

      no_backup : (other : ℕ) → is_some (backup_at other (inventory c)) ≡ true → ¬ Gone other
      no_backup other listed gone =
          let here : is_some (backup_at file (effect x (inventory m.core))) ≡ true =
          subst (λ v. is_some (backup_at file v) ≡ true) (inventory_last actor x [] m.core) (subst (λ n. is_some (backup_at n (inventory c)) ≡ true) gone.0 listed) in
          false≢true (sym (ap is_some (may m is).volume.2) ∙ (sym (backup_so file x (inventory m.core) tt) ∙ here))

      -- the volume was there
      was_there : (n : ℕ) → n ≡ file → IsNewFile c n → ⊥
      was_there n same unmade =
          let there : is_some (row_at file (inventory m.core).stores.volumes) ≡ true = reused_there (journal_of m.core.base m.core.journal) file (inventory m.core) (free_of actor x [] m.core is.good.lawful (may m is).joins).causes in
          let at : row_at n (inventory m.core).stores.volumes ≡ None =
          subst (λ (v : Inv). row_at n v.stores.volumes ≡ None) (inv_before actor x [] m.core (length m.core.journal) (omega arith) ∙ whole_at actor x [] m.core) (unmade (length m.core.journal)) in
          false≢true (sym (ap is_some (subst (λ k. row_at k (inventory m.core).stores.volumes ≡ None) same at)) ∙ there)

      -- nothing was written on it since
      not_written : (s : Segment) → s.file ≡ file → IsWritten (written s.file c) s → ⊥
      not_written s same is_written = by (subst (λ w. IsWritten w s) (ap (λ k. written k c) same ∙ reused_end file (written_before file m.core.base) m.core.base m.core.journal e (eq-eqb file file refl)) is_written) where
        by : IsWritten (record { floor = 0; segments = [] }) s → ⊥
        by (inl low) = omega (arith, low)
        by (inr there) = let few = there.1 in omega (arith, few)

      -- cutting its file takes away nothing that a backup needs
      cut_backs : (t : ℕ) (between new : History) → GoesOn Gone between new → IsKept (record (waiting_at m) { core = stamped t c; moment = t; counts = faults store }) (all_stamped t (with_vault (all_forced w) waiting_held)) between
          → HadBackups waiting_held.base waiting_held.opened new → KeepsAllBackups (stamped t c) waiting_held.opened new waiting_held.job
      cut_backs t between new on k2 had =
          written_keeps between new (stamped t c) waiting_held.opened
          (open_of (stamped t c) (durable (stamped t c)) (now between) new (durable_there (stamped t c)) (held_since meaning Gone (all_forced w) (durable (stamped t c)) between new not_ours on (k2.sure b.core.fault)))
          (λ n. ¬ Gone n) (λ s. ¬ Gone s.file)
          (λ v. (b.core.fault, inr (subst (λ es. AllByRecursion (λ y. is_any_reuse y.change ≡ false) es) (sym (none_waits (stamped t c) (all_have_stamps t c b.good.few))) tt)))
          (λ n filed gone. was_there n gone.0 filed.0.2)
          (λ s laid on_it gone. spared s on_it gone)
          (spares_others Gone (λ n. ¬ Gone n) (λ s. ¬ Gone s.file) between new (λ n own gone. own gone) (λ s own gone. own gone) on) waiting_held.job
          (k2.backups (had_before Gone waiting_held.base waiting_held.opened between new on k2.since had))
        where
          spared : (s : Segment) → IsWrittenOn (stamped t c) s → Gone s.file → ⊥
          spared s (inl written_there) gone = not_written s gone.0 written_there.0
          spared s (inr unmade) gone = was_there s.file gone.0 unmade

      cleared : (number : ℕ) (h new : History) → Empties file (Ok number) w (all_forced w) h new → now new ≡ moment store → IsKept (waiting_at m) waiting_held h → IsKept final_at final_held new
      cleared number h new (between, f, clears) to k =
          let t : ℕ = now between in
          let goes = ours_alone w.generation h between f.goes in
          let held = k.sure b.core.fault in
          let k2 = forced_kept (waiting_at m) waiting_held h between goes b.core k b.good.lawful b.good.few b.good.numbers (f.since (durable c) held) t refl (f.good (durable c) held) f.pends (faults store) in
          let on = clears_goes file row between new clears in
          let full = all_have_stamps t c b.good.few in
          let k3 = cleared_kept (record (waiting_at m) { core = stamped t c; moment = t; counts = faults store }) (all_stamped t (with_vault (all_forced w) waiting_held)) between new Gone on k2 not_ours (no_covered t) no_space no_backup
          b.core.fault (omega (arith, full))
          (λ snapshot p. pends (λ n. n == file) (all_forced w) snapshot between new (λ n same. omega (arith, eqb-true n file same, (may m is).volume.0))
          (goes_weaker Gone (λ n. (n == file) ≡ true) between new (λ n gone. eq-eqb n file gone.0) on) p)
          (cut_backs t between new on k2) in
          let further : t ≤ now new = goes_later Gone between new on in
          later_stamps (record (waiting_at m) { core = stamped t c; moment = t; counts = faults store }) (all_stamped t (with_vault (all_forced w) waiting_held)) new k3
          (stamped (moment store) c).stamps final_held.stamps (full ∙ sym (all_have_stamps (moment store) c b.good.few))
          (λ at. fewer_reached (length (unforced c)) at t (moment store) c.stamps (omega (arith, further, to))) (moment store) (faults store)

      abbrev OursOrGone : ℕ → Type 0
      OursOrGone other = IsOurs other ⊎ Gone other

      empties_goes : (number : ℕ) (h new : History) → Empties file (Ok number) w (all_forced w) h new → GoesOn OursOrGone h new
      empties_goes number h new (between, f, clears) =
          goes_then OursOrGone h between new (goes_weaker IsOurs OursOrGone h between (λ n own. inl own) (ours_alone w.generation h between f.goes))
          (goes_weaker Gone OursOrGone between new (λ n gone. inr gone) (clears_goes file row between new clears))

      emptied : (number : ℕ) → Told (told mid) (told store) (Empties file (Ok number) w (all_forced w)) → Is told moment faults (record { store = store; held = final_held }) final_at
      emptied number did = record {
        core = core_forced (moment store) waiting_held c b.core refl b.good.few;
        clock = refl;
        counts = refl;
        good = nearly_stamped (told store) (waiting_at m) waiting_held (all_forced w) (moment store) (faults store) c.image c.generation c.log_length waiting_held.image waiting_held.job b.good later
            (λ none. listed_stamped (moment store) c c.image b.good.few (listed_joined actor x [] m.core is.good.lawful (may m is).joins is.good.stamped.few (is.good.listed none)))
            (kept_from told moment mid store hall.held.base hall.held.opened OursOrGone (Empties file (Ok number) w (all_forced w)) (IsKept (waiting_at m) waiting_held) (IsKept final_at final_held)
            (rise_over hall.held.opened (moment mid) c.stamps b.good.rise) clock did (empties_goes number) (cleared number) b.kept);
      }

      -- ---- the log failed

      module _ (log count : ℕ) where
        abbrev failed_at : Machine
        failed_at = record { core = halting log count c; contents = later_contents m; moment = moment store; counts = faults store }

        abbrev failed_held : Held
        failed_held = with_vault (with_fault w log count) waiting_held

        failed : (why : Refusal) → Told (told mid) (told store) (Forces {T = ℕ} {E = Refusal} meaning w (Err why) (with_fault w log count)) → Is told moment faults (record { store = store; held = failed_held }) failed_at
        failed why did = record {
          core = core_halted log count w.forced w.sure waiting_held c b.core;
          clock = refl;
          counts = refl;
          good = nearly_halted (told store) (waiting_at m) waiting_held (with_fault w log count) (moment store) (faults store) log count b.good later
              (kept_from told moment mid store hall.held.base hall.held.opened IsOurs (Forces {T = ℕ} {E = Refusal} meaning w (Err why) (with_fault w log count)) (IsKept (waiting_at m) waiting_held) (IsKept failed_at failed_held)
              (rise_over hall.held.opened (moment mid) c.stamps b.good.rise) clock did (λ h new r. ours_alone w.generation h new r.goes)
              (λ h new r to k.
              let held = k.sure b.core.fault in
              halted_kept (waiting_at m) waiting_held h new (ours_alone w.generation h new r.goes) b.core k b.good.lawful b.good.few b.good.numbers (r.since (durable c) held) log count (with_fault w log count)
              (faults store) (moment store) (r.left (durable c) held)) b.kept);
        }

    -- ---- the step, behind the transaction

    module _ (store : S) (more : NoneFell (faults mid) (faults store)) (later : moment mid ≤ moment store) (soon : moment store ≤ moment hall.store + 5) (pends : PendingStays) (joined : ℕ)
        (waits : Told (told hall.store) (told mid) (Waits {T = ℕ} {E = Refusal} meaning hall.held.vault e (Ok joined) w)) where
      none_fell : NoneFell (faults hall.store) (faults store)
      none_fell n = let a = counts n in let b = more n in omega (arith, a, b)

      pub reuses : (number : ℕ) → number ≡ w.database.number → Told (told mid) (told store) (Empties file (Ok number) w (all_forced w))
          → Steps told moment faults actor (Reuse file (Ok number)) hall (record { store = store; held = all_stamped (moment store) (with_vault (all_forced w) waiting_held) })
      reuses number is_number did = λ m is.
          let a = may m is in
          let b = waits_between joined waits m is in (
            m.contents,
            final_at store later pends m is b,
            refl,
            record {
              number = refl;
              later = later_run told moment faults hall store none_fell (omega (arith, since, later)) (omega (arith, soon)) m (final_at store later pends m is b) is refl refl;
              step = (
                a.none,
                (
                  is_number ∙ (number_behind x hall.held.vault.database ∙ ap (λ (v : Inv). v.number + 1) is.core.database),
                  record { core = ap (stamped (moment store)) (made_alone actor x m.core); contents = refl },
                ),
              );
            },
            emptied store later pends m is b number did,
          )

      pub reuse_fails : (why : Refusal) (next : State Inv) → RefusesForce w (faults mid) (faults store) why next (store ≡ mid) → Told (told mid) (told store) (Forces {T = ℕ} {E = Refusal} meaning w (Err why) next)
          → Steps told moment faults actor (Reuse file (Err why)) hall (record { store = store; held = with_vault next waiting_held })
      reuse_fails why next (inl h) did = absurd (no_fault h.0.2) where
        no_fault : {A : Type 0} {a : A} → None ≡ Some a → ⊥
        no_fault e = absurd cc
      reuse_fails why next (inr h) did = λ m is.
          let log : ℕ = log_file w.generation in
          let count : ℕ = faults store log in
          let a = may m is in
          let b = waits_between joined waits m is in
          let rose : Rose (m.counts log) (faults store log) = (let before = ap (λ (f : ℕ → ℕ). f log) is.counts in let less = counts log in let rises : Rose (faults mid log) (faults store log) = h.2 in omega (arith, before, less, rises)) in (
            m.contents,
            failed_at store later pends m is b log count,
            refl,
            record {
              number = refl;
              later = later_run told moment faults hall store none_fell (omega (arith, since, later)) (omega (arith, soon)) m (failed_at store later pends m is b log count) is refl refl;
              step = inr (a.none, (log, count, h.1, (log_ours w.generation, rose, refl), record { core = ap (halting log count) (made_alone actor x m.core); contents = refl }));
            },
            subst (λ v. Is told moment faults (record { store = store; held = with_vault v waiting_held }) (failed_at store later pends m is b log count)) (sym h.3)
                (failed store later pends m is b log count why (subst (λ v. Told (told mid) (told store) (Forces {T = ℕ} {E = Refusal} meaning w (Err why) v)) h.3 did)),
          )

      -- whatever came of forcing what the hall holds behind the transaction
      abbrev pub Forced : Held → Type 0
      Forced held =
          (new : Held) (result : Result ℕ Refusal) → Told (told mid) (told store) (Empties file result held.vault new.vault)
          → OnOk result (new ≡ all_stamped (moment store) (with_vault (all_forced held.vault) held)) → IfOk result (λ number. number ≡ meaning.number held.vault.database) → OnErr result (new ≡ with_vault new.vault held)
          → IfErr result (λ why. RefusesForce held.vault (faults mid) (faults store) why new.vault (store ≡ mid))
          → Steps told moment faults actor (Reuse file result) hall (record { store = store; held = new })

      forced_waiting : Forced waiting_held
      forced_waiting new (Ok number) did ok is_number same err =
          subst (λ h. Steps told moment faults actor (Reuse file (Ok number)) hall (record { store = store; held = h })) (sym ok)
          (reuses number is_number (subst (λ (v : State Inv). Told (told mid) (told store) (Empties file (Ok number) w v)) (ap (λ (h : Held). h.vault) ok) did))
      forced_waiting new (Err why) did ok is_number same err =
          subst (λ h. Steps told moment faults actor (Reuse file (Err why)) hall (record { store = store; held = h })) (sym same) (reuse_fails why new.vault err did)

      pub forced_steps : (held : Held) → held ≡ waiting_held → Forced held
      forced_steps held is = subst Forced (sym is) forced_waiting

    -- ---- the transaction is in doubt

    module _ (soon : moment mid ≤ moment hall.store + 1) where
      module _ (end log count : ℕ) where
        abbrev doubted_vault : State Inv
        doubted_vault = in_doubt meaning hall.held.vault e end log count

        abbrev doubted_held : Held
        doubted_held = joined_held x [] doubted_vault hall.held

        abbrev doubted_at : Machine → Machine
        doubted_at m = record { core = halting log count (later_core m); contents = later_contents m; moment = moment mid; counts = faults mid }

        no_doubt : {A : Type 0} {a : A} → Some a ≡ None → ⊥
        no_doubt e = absurd cc

        doubts : (why : Refusal) → Told (told hall.store) (told mid) (Waits {T = ℕ} {E = Refusal} meaning hall.held.vault e (Err why) doubted_vault) → log < 4 → why ≡ refusal.LogFault log count
            → Rose (faults hall.store log) (faults mid log) → count ≡ faults mid log → Steps told moment faults actor (Reuse file (Err why)) hall (record { store = mid; held = doubted_held })
        doubts why did own is_fault rose is_count = λ m is.
            let a = may m is in
            let few = is.good.stamped.few in
            let rises : Rose (m.counts log) (faults mid log) = subst (λ n. Rose n (faults mid log)) (sym (ap (λ (f : ℕ → ℕ). f log) is.counts)) rose in
            let lawful = lawful_joined actor x [] m.core is.good.lawful a.joins in
            let space = space_joined actor x [] m.core is.good.lawful a.joins is.good.numbers is.good.space few in
            let numbers = numbers_joined actor x [] m.core is.good.lawful a.joins is.good.numbers is.good.space in
            let bytes = bytes_joined actor x [] m.core m.contents is.good.lawful a.joins is.good.numbers is.good.space is.good.bytes in (
              m.contents,
              doubted_at m,
              refl,
              record {
                number = refl;
                later = later_run told moment faults hall mid counts since (omega (arith, soon)) m (doubted_at m) is refl refl;
                step = inr (a.none, (log, count, is_fault, (own, rises, is_count), record { core = ap (halting log count) (made_alone actor x m.core); contents = refl }));
              },
              record {
                core = core_doubted actor x [] hall.held m.core is.core is.good.lawful a.joins is.good.numbers few a.takes (none_new m.core actor x [] is.good.lawful a.joins is.good.numbers) end log count;
                clock = refl;
                counts = refl;
                good = record {
                  lawful = record { valid = lawful.valid; tied = lawful.tied; legal = lawful.legal; short = lawful.short };
                  stamped = record {
                    few = (let more = long actor x [] m.core in omega (arith, more, few));
                    rise = rise_later hall.held.opened m.moment (moment mid) m.core.stamps is.good.stamped.rise (omega (arith, is.clock, since));
                    waiting = λ no. absurd (no_doubt no);
                  };
                  space = record { filled = space.filled; clear = space.clear; apart = space.apart };
                  numbers = record { tickets = numbers.tickets; below = numbers.below; objects = numbers.objects; apart = numbers.apart; pools = numbers.pools; files = numbers.files; lying = numbers.lying; none_back = numbers.none_back; next_file = numbers.next_file; next_object = numbers.next_object; bounds = numbers.bounds };
                  bytes = record { sized = bytes.sized; fronts = bytes.fronts };
                  listed = λ no. absurd (no_doubt no);
                  kept = kept_from told moment hall.store mid hall.held.base hall.held.opened IsOurs (Waits {T = ℕ} {E = Refusal} meaning hall.held.vault e (Err why) doubted_vault) (IsKept m hall.held) (IsKept (doubted_at m) doubted_held)
                      (opened_before m is) clock did (λ h new r. ours_alone hall.held.vault.generation h new r.goes)
                      (λ h new r to k.
                      let held = k.sure (is.core.fault ∙ none) in
                      doubted_kept actor x [] m hall.held h new (ours_alone hall.held.vault.generation h new r.goes) is.core k is.good.lawful few is.good.numbers is.good.space is.good.bytes a.joins (r.since (durable m.core) held) (joined_backups actor x [] m hall.held is.core is.good.lawful few is.good.numbers a.joins none (λ file same. absurd cc) h k)
                      log count doubted_vault doubted_held.seats (λ n firm. firm) doubted_held.claims (faults mid) (moment mid) (r.left (durable m.core) held)) is.good.kept;
                };
              },
            )

      wants_memory : (held : Held) → (held ≡ hall.held) ⊎ (held ≡ unjoined x hall.held) → Steps told moment faults actor (Reuse file (Err refusal.Memory)) hall (record { store = hall.store; held = held })
      wants_memory held left = λ m is. (
        m.contents,
        m,
        refl,
        record { number = refl; later = no_later m m.contents m refl refl; step = inl (inr refl, record { core = refl; contents = refl }) },
        still m is left,
      )
        where
          still : (m : Machine) → Is told moment faults hall m → (held ≡ hall.held) ⊎ (held ≡ unjoined x hall.held) → Is told moment faults (record { store = hall.store; held = held }) m
          still m is (inl same) = subst (λ h. Is told moment faults (record { store = hall.store; held = h }) m) (sym same) is
          still m is (inr same) = subst (λ h. Is told moment faults (record { store = hall.store; held = h }) m) (sym same) (unjoined_is told moment faults x hall m is)

      -- it didn't join, or is in doubt
      pub join_fails : (why : Refusal) (new : Held) → ((why ≡ refusal.Memory → ⊥) → Told (told hall.store) (told mid) (Waits {T = ℕ} {E = Refusal} meaning hall.held.vault e (Err why) new.vault))
          → RefusesJoin hall.held e [] (faults hall.store) (faults mid) why new (mid ≡ hall.store) → Steps told moment faults actor (Reuse file (Err why)) hall (record { store = mid; held = new })
      join_fails why new did (inl (memory, left, same)) =
          subst (λ r. Steps told moment faults actor (Reuse file (Err r)) hall (record { store = mid; held = new })) (sym memory)
          (subst (λ (s : S). Steps told moment faults actor (Reuse file (Err refusal.Memory)) hall (record { store = s; held = new })) (sym same) (wants_memory new left))
      join_fails why new did (inr (doubt, is)) =
          let log : ℕ = log_file hall.held.vault.generation in
          let count : ℕ = faults mid log in
          let end : ℕ = doubt.3.0 in
          let form : new ≡ joined_held x [] (in_doubt meaning hall.held.vault e end log count) hall.held = is ∙ ap (λ v. joined_held x [] v hall.held) doubt.3.1 in
          subst (λ (h : Held). Steps told moment faults actor (Reuse file (Err why)) hall (record { store = mid; held = h })) (sym form)
          (doubts end log count why
          (subst (λ (v : State Inv). Told (told hall.store) (told mid) (Waits {T = ℕ} {E = Refusal} meaning hall.held.vault e (Err why) v)) doubt.3.1 (did (λ same. not_memory (sym doubt.1 ∙ same))))
          (log_ours hall.held.vault.generation) doubt.1 doubt.2 refl)
        where
          not_memory : {log count : ℕ} → refusal.LogFault log count ≡ refusal.Memory → ⊥
          not_memory e = absurd cc

-- ---- what is known once nothing refuses it

pub record IsBegun (actor file moment : ℕ) (held : Held) (entry : Entry) : Type 0 where
  pub free : foremost (ended_at moment held) ≡ None
  pub entry_is : entry ≡ record { actor = actor; change = change.Reuse file }
  pub none : foremost (reuse_causes actor file held) ≡ None
  pub ascends : AreAscending held.vault.database
  pub rest : RestStays

pub begun_of : (actor file moment : ℕ) (held : Held) (r : Result Entry Refusal) (entry : Entry) → foremost (ended_at moment held) ≡ None → IsReuse actor file held r → r ≡ Ok entry → AreAscending held.vault.database → RestStays
    → IsBegun actor file moment held entry
begun_of actor file moment held r entry free answer is ascends rest =
    let a = subst (IsReuse actor file held) is answer in record { free = free; entry_is = a.0; none = a.1; ascends = ascends; rest = rest }

pub refused_of : (actor file : ℕ) (held : Held) (r : Result Entry Refusal) (why : Refusal) → IsReuse actor file held r → r ≡ Err why → foremost (reuse_causes actor file held) ≡ Some why
refused_of actor file held r why answer is = subst (IsReuse actor file held) is answer

none_listed : {A : Type 0} (o : Option A) → listed o ≡ [] → o ≡ None
none_listed None h = refl
none_listed (Some a) h = absurd cc

module _ (actor file moment : ℕ) (held : Held) (entry : Entry) (k : IsBegun actor file moment held entry) where
  legal_here : refused (journal_of held.base held.vault.journal) (change.Reuse file) held.vault.database ≡ None
  legal_here = none_listed (refused (journal_of held.base held.vault.journal) (change.Reuse file) held.vault.database) (both_none (reuse_refused file (sight_of actor held)) _ (none_of (reuse_causes actor file held) k.none)).0

  pub legal_of : refused no_journal entry.change held.vault.database ≡ None
  legal_of =
      subst (λ (y : Entry). refused no_journal y.change held.vault.database ≡ None) (sym k.entry_is) (not_refused (journal_of held.base held.vault.journal) no_journal (change.Reuse file) held.vault.database legal_here)

  pub short_of : length (entry_form.spell entry) ≤ 2 ^ 24
  short_of = subst (λ (y : Entry). length (entry_form.spell y) ≤ 2 ^ 24) (sym k.entry_is) (short_record actor file)

  pub drawn_of : IfSome (drawn_by entry.change) (λ number. number + 1 < 2 ^ 32)
  drawn_of = subst (λ (y : Entry). IfSome (drawn_by y.change) (λ number. number + 1 < 2 ^ 32)) (sym k.entry_is) tt

module _ {S : Type 0} (told : S → Option History) (moment : S → ℕ) (faults : S → ℕ → ℕ) (clock : (s : S) → IfSome (told s) (λ h. now h ≡ moment s)) (actor file : ℕ) (hall : Hall S) (entry : Entry)
    (k : IsBegun actor file (moment hall.store) hall.held entry) where
  pub may_reuse : (m : Machine) → Is told moment faults hall m → MayReuse actor file m
  may_reuse m is =
      let x : Change = change.Reuse file in
      let v : Inv = inventory m.core in
      let none = may_begin told moment faults actor file hall k.free k.none m is in
      let behind = both_none (ended m) (reuse_refused file (sight actor m.core) ++ held_by (has_file file) m.core.tickets) (none_of (ended m ++ (reuse_refused file (sight actor m.core) ++ held_by (has_file file) m.core.tickets)) none) in
      let parts = both_none (reuse_refused file (sight actor m.core)) (held_by (has_file file) m.core.tickets) behind.1 in
      let legal : refused (journal_of m.core.base m.core.journal) x v ≡ None = none_listed (refused (journal_of m.core.base m.core.journal) x v) parts.0 in
      let joins = reuse_joins actor file m.core legal parts.1 is.good.numbers in
      let valid = valid_now m.core is.good.lawful in
      let ascends : AreAscending v = subst AreAscending is.core.database k.ascends in
      let row = some_from (row_at file v.stores.volumes) (reused_there (journal_of m.core.base m.core.journal) file v (is_free (journal_of m.core.base m.core.journal) x v legal).causes) in
      record {
        none = none;
        joins = joins;
        takes = takes_joined actor x [] m.core is.good.lawful (ascending v ascends).rows joins is.good.space (λ quiet n a there. k.rest (journal_of m.core.base m.core.journal) x v n a valid ascends legal there refl);
        clear = no_ticket actor file m.core parts.1;
        volume = row_volume m.core valid is.good.numbers file row.0 row.1;
      }

  -- ---- behind the transaction

  -- what joining a transaction left
  abbrev pub JoinsTo : (mid : S) → Held → Result ℕ Refusal → Entry → Type 0
  JoinsTo mid held result y =
      ((result ≡ Err refusal.Memory → ⊥) → Told (told hall.store) (told mid) (Waits meaning hall.held.vault y result held.vault))
      × OnOk result (held ≡ joined_held y.change [] (with_waiting meaning hall.held.vault y) hall.held)
      × IfErr result (λ why. RefusesJoin hall.held y [] (faults hall.store) (faults mid) why held (mid ≡ hall.store))

  abbrev made_entry : Entry
  made_entry = record { actor = actor; change = change.Reuse file }

  pub few_behind : ((m : Machine) × Is told moment faults hall m) → (held : Held) (result : Result ℕ Refusal) (number : ℕ) → result ≡ Ok number → OnOk result (held ≡ joined_held entry.change [] (with_waiting meaning hall.held.vault entry) hall.held)
      → length held.stamps ≤ length held.vault.journal
  few_behind (m, is) held result number at ok =
      let form : held ≡ joined_held entry.change [] (with_waiting meaning hall.held.vault entry) hall.held = subst (λ r. OnOk r (held ≡ joined_held entry.change [] (with_waiting meaning hall.held.vault entry) hall.held)) at ok in
      let few : length hall.held.stamps ≤ length hall.held.vault.journal =
      subst (λ (l : List ℕ). length l ≤ length hall.held.vault.journal) is.core.stamps (subst (λ (l : List Entry). length m.core.stamps ≤ length l) is.core.journal is.good.stamped.few) in
      let longer : length (hall.held.vault.journal ++ (entry ∷ [])) ≡ length hall.held.vault.journal + 1 = length-append hall.held.vault.journal (entry ∷ []) in
      subst (λ (h : Held). length h.stamps ≤ length h.vault.journal) (sym form) (omega (arith, few, longer))

  module _ (mid : S) (counts : NoneFell (faults hall.store) (faults mid)) (since : moment hall.store ≤ moment mid) (soon : moment mid ≤ moment hall.store + 1) (held : Held) (result : Result ℕ Refusal)
      (joins : JoinsTo mid held result entry) where
    as_made : JoinsTo mid held result made_entry
    as_made = subst (JoinsTo mid held result) k.entry_is joins

    pub all_joined : (why : Refusal) → result ≡ Err why → Steps told moment faults actor (Reuse file (Err why)) hall (record { store = mid; held = held })
    all_joined why at =
        join_fails told moment faults clock actor file hall k.free may_reuse mid counts since soon why held
        (λ other. subst (λ r. Told (told hall.store) (told mid) (Waits meaning hall.held.vault made_entry r held.vault)) at (as_made.0 (λ same. other (err_is (sym at ∙ same)))))
        (subst (λ r. IfErr r (λ why. RefusesJoin hall.held made_entry [] (faults hall.store) (faults mid) why held (mid ≡ hall.store))) at as_made.2)
      where
        err_is : {A : Type 0} {a b : Refusal} → (let r : Result A Refusal = Err a in r ≡ Err b) → a ≡ b
        err_is e = cc

    module _ (store : S) (more : NoneFell (faults mid) (faults store)) (later : moment mid ≤ moment store) (few_calls : moment store ≤ moment mid + 4) (pends : PendingStays) (new : Held) (answer : Result ℕ Refusal)
        (did : Told (told mid) (told store) (Empties file answer held.vault new.vault)) (ok : OnOk answer (new ≡ all_stamped (moment store) (with_vault (all_forced held.vault) held)))
        (is_number : IfOk answer (λ number. number ≡ meaning.number held.vault.database)) (same : OnErr answer (new ≡ with_vault new.vault held))
        (err : IfErr answer (λ why. RefusesForce held.vault (faults mid) (faults store) why new.vault (store ≡ mid))) where
      pub all_reused : (number : ℕ) → result ≡ Ok number → Steps told moment faults actor (Reuse file answer) hall (record { store = store; held = new })
      all_reused number at =
          let form : held ≡ joined_held (change.Reuse file) [] (with_waiting meaning hall.held.vault made_entry) hall.held = subst (λ r. OnOk r (held ≡ joined_held (change.Reuse file) [] (with_waiting meaning hall.held.vault made_entry) hall.held)) at as_made.1 in
          let waits : Told (told hall.store) (told mid) (Waits {T = ℕ} {E = Refusal} meaning hall.held.vault made_entry (Ok number) held.vault) =
          subst (λ r. Told (told hall.store) (told mid) (Waits meaning hall.held.vault made_entry r held.vault)) at (as_made.0 (λ no. ok_is_none (sym at ∙ no))) in
          forced_steps told moment faults clock actor file hall k.free may_reuse mid counts since store more later (omega (arith, soon, few_calls)) pends number
          (subst (λ (v : State Inv). Told (told hall.store) (told mid) (Waits {T = ℕ} {E = Refusal} meaning hall.held.vault made_entry (Ok number) v)) (ap (λ (h : Held). h.vault) form) waits)
          held form new answer did ok is_number same err
        where
          ok_is_none : {A : Type 0} {a : A} {b : Refusal} → (let r : Result A Refusal = Ok a in r ≡ Err b) → ⊥
          ok_is_none e = absurd cc

-- ---- its refusals

pub join_listed : (file : ℕ) (held : Held) (entry : Entry) (numbers : List ℕ) (before after : ℕ → ℕ) (new : Held) (same : Type 0) (result : Result ℕ Refusal) (why : Refusal) → result ≡ Err why
    → IfErr result (λ why. RefusesJoin held entry numbers before after why new same) → is_listed (Reuse file (Err why)) ≡ true
join_listed file held entry numbers before after new same result why at err = go (subst (λ r. IfErr r (λ why. RefusesJoin held entry numbers before after why new same)) at err) where
  go : RefusesJoin held entry numbers before after why new same → is_listed (Reuse file (Err why)) ≡ true
  go (inl h) = memory_listed file why h.0
  go (inr h) = fault_listed file why (log_file held.vault.generation) (after (log_file held.vault.generation)) h.0.1

pub force_listed : (file : ℕ) (vault next : State Inv) (before after : ℕ → ℕ) (same : Type 0) (answer : Result ℕ Refusal) → IfErr answer (λ why. RefusesForce vault before after why next same) → is_listed (Reuse file answer) ≡ true
force_listed file vault next before after same (Ok number) err = number_listed file number
force_listed file vault next before after same (Err why) (inl h) = fault_listed file why h.0.0 h.0.1 h.0.3
force_listed file vault next before after same (Err why) (inr h) = fault_listed file why (log_file vault.generation) (after (log_file vault.generation)) h.1

-- ---- the files that changed, and what stays

pub emptied_files : (file : ℕ) (held new : Held) (moment : ℕ) (answer : Result ℕ Refusal) (old mid store : Option History) → Told old mid (GoesOn IsOurs) → Told mid store (Empties file answer held.vault new.vault)
    → OnOk answer (new ≡ all_stamped moment (with_vault (all_forced held.vault) held)) → Told old store (ClearsBehind file answer new)
emptied_files file held new moment (Ok number) old mid store first second ok =
    told_then old mid store (GoesOn IsOurs) (Empties file (Ok number) held.vault new.vault) (ClearsBehind file (Ok number) new)
    (λ h m n goes r. (
      r.0,
      goes_then IsOurs h m r.0 goes (ours_alone held.vault.generation m r.0 r.1.goes),
      subst (λ (o : Option Volume). Clears file o r.0 n) (sym (ap (λ (h : Held). row_at file h.vault.database.stores.volumes) ok)) r.2,
    )) first second
emptied_files file held new moment (Err why) old mid store first second ok =
    told_then old mid store (GoesOn IsOurs) (Empties file (Err why) held.vault new.vault) (ClearsBehind file (Err why) new)
    (λ h m n goes r. goes_then IsOurs h m n goes (ours_alone held.vault.generation m n r.goes)) first second

pub clears_over : (file : ℕ) (answer : Result ℕ Refusal) (held : Held) (old store : Option History) → Told old store (ClearsBehind file answer held) → Told old store (GoesOn (λ n. Unit {0}))
clears_over file (Ok number) held old store did =
    told_map old store (ClearsBehind file (Ok number) held) (GoesOn (λ n. Unit {0}))
    (λ h n r. goes_then (λ n. Unit {0}) h r.0 n (goes_weaker IsOurs (λ n. Unit {0}) h r.0 (λ n own. tt) r.1)
    (goes_weaker (IsCleared file (row_at file held.vault.database.stores.volumes)) (λ n. Unit {0}) r.0 n (λ n own. tt) (clears_goes file (row_at file held.vault.database.stores.volumes) r.0 n r.2))) did
clears_over file (Err why) held old store did =
    told_map old store (ClearsBehind file (Err why) held) (GoesOn (λ n. Unit {0})) (λ h n r. goes_weaker IsOurs (λ n. Unit {0}) h n (λ n own. tt) r) did

-- the hall is still the one that was opened
pub reuse_stays : (old held new : Held) (moment : ℕ) (answer : Result ℕ Refusal) → (held.base ≡ old.base) × (held.opened ≡ old.opened) → OnOk answer (new ≡ all_stamped moment (with_vault (all_forced held.vault) held))
    → OnErr answer (new ≡ with_vault new.vault held) → (new.base ≡ old.base) × (new.opened ≡ old.opened)
reuse_stays old held new moment (Ok number) stays ok same = (ap (λ (h : Held). h.base) ok ∙ stays.0, ap (λ (h : Held). h.opened) ok ∙ stays.1)
reuse_stays old held new moment (Err why) stays ok same = (ap (λ (h : Held). h.base) same ∙ stays.0, ap (λ (h : Held). h.opened) same ∙ stays.1)

-- there is time for the calls behind the transaction's
pub time_behind : (moment mid : ℕ) (h : Held) → foremost (ended_at moment h) ≡ None → mid ≤ moment + 1 → mid + 4 ≤ 2 ^ 62
time_behind moment mid h free le = let l : moment < last_moment = not_over moment h free in omega (arith, l, le)
