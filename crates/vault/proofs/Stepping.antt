-- The steps of a checkpoint one after another, up to its end.
use Rattle.std.proofs.Common.{◌≡◌, ⊎_elim, inl, inr, ℕ, ◌+◌, ◌<◌, ◌≤◌, List, [], length, drop, reverse, Option, Some, None, Result, Ok, Err, IfErr, sym, ◌∙◌, ap, subst, arith}
use Rattle.std.proofs.lemmas.List.{drop_all}
use Rattle.std.proofs.lemmas.Option.{none-some}
use Rattle.store_api.specs.Disk.{History, now}
use Rattle.store_api.specs.Runs.{GoesOn, EachImage}
use Rattle.store_api.specs.Told.{Told}
use Rattle.store_api.proofs.Runs.{goes_none, goes_then, each_then, each_weaker}
use Rattle.kinds.specs.declared.refusal.Refusal.{Refusal}
use Rattle.kinds.specs.declared.refusal.Refusal.TheVariants.{Memory}
use Rattle.log_file.specs.Blocks.{LogEnds}
use Rattle.db_image.specs.declared.phase.Phase.TheVariants.{Durable}
use Rattle.db_image.specs.declared.phase.Progress.{Progress}
use Rattle.db_image.specs.declared.phase.Progress.TheVariants.{More, Done}
use Rattle.db_image.specs.Steps.{at_phase, further}
use Rattle.entries.specs.declared.entry.Entry.{Entry}
use Rattle.entries.specs.Meaning.{Meaning}
use Rattle.vault.specs.Files.{log_file, IsOurs}
use Rattle.vault.specs.Recovery.{records_of, RecoversWithin}
use Rattle.vault.specs.Images.{left_of}
use Rattle.vault.specs.Pieces.{Pending, Nears}
use Rattle.vault.specs.Vaults.{State, IsGood, IsHeld, IsPending, IsLeft, IsFresh, IsMadeOf, with_pending, all_forced, halted_at, at_next, RecoversToEither, Begins, Pieced, Checkpointed, Faults, RefusesForce, RefusesCheckpoint}
use Rattle.vault.proofs.Committing.{good_held}
use Rattle.vault.proofs.Goodness.{log_ours, held_since}
use Rattle.vault.proofs.Leaving.{either_after}
use Rattle.vault.proofs.Leading.{of_some}

-- the steps that were taken so far
pub record Going {D : Type 0} (m : Meaning D) (vault next : State D) (old new : History) : Type 0 where
  pub goes : GoesOn IsOurs old new
  pub leads : (durable snapshot : D) → IsHeld m vault durable old → IsPending m vault snapshot old → IsPending m next snapshot new × IsHeld m next durable new
  pub since : (durable snapshot : D) → IsHeld m vault durable old → IsPending m vault snapshot old → EachImage (now old) new (RecoversToEither m durable vault.database)

-- none was taken yet
pub going_none : {D : Type 0} (m : Meaning D) (vault : State D) (h : History) → Going m vault vault h h
going_none m vault h = record {
  goes = goes_none IsOurs h;
  leads = λ durable snapshot held is. (is, held);
  since = λ durable snapshot held is. each_weaker (now h) h _ _ (λ files recovers. inl recovers) (held_since m (λ file. ⊥) vault durable h h (λ file ours no. no) (goes_none (λ file. ⊥) h) held);
}

pub told_going : {D : Type 0} (x : Option History) (m : Meaning D) (vault : State D) → Told x x (Going m vault vault)
told_going None m vault = tt
told_going (Some h) m vault = going_none m vault h

module _ {D : Type 0} (m : Meaning D) (vault middle : State D) (same : middle.database ≡ vault.database) (old mid new : History) (first : Going m vault middle old mid) where
  module _ {E : Type 0} (result : Result Progress E) (next : State D) (step : Pieced m middle result next mid new) where
    goes_two : GoesOn IsOurs old new
    goes_two = goes_then IsOurs old mid new first.goes step.goes

    since_two : (durable snapshot : D) → IsHeld m vault durable old → IsPending m vault snapshot old → EachImage (now old) new (RecoversToEither m durable vault.database)
    since_two durable snapshot held is =
        let on = first.leads durable snapshot held is in
        each_then IsOurs old mid new (RecoversToEither m durable vault.database) step.goes (first.since durable snapshot held is)
        (subst (λ (d : D). EachImage (now mid) new (RecoversToEither m durable d)) same (step.since durable snapshot on.1 on.0))

    left_two : (durable snapshot : D) → IsHeld m vault durable old → IsPending m vault snapshot old → IsLeft (RecoversToEither m durable vault.database) new
    left_two durable snapshot held is = either_after m IsOurs durable vault.database old new goes_two (since_two durable snapshot held is)

  -- one step more
  pub going_more : {E : Type 0} (next : State D) → (let result : Result Progress E = Ok More in Pieced m middle result next mid new) → Going m vault next old new
  going_more {E} next step = record {
    goes = goes_two {E = E} (Ok More) next step;
    leads = λ durable snapshot held is. let on = first.leads durable snapshot held is in step.leads durable snapshot on.1 on.0;
    since = since_two {E = E} (Ok More) next step;
  }

  -- one that failed
  pub going_failed : {E : Type 0} (why : E) (next : State D) → (let result : Result Progress E = Err why in Pieced m middle result next mid new) → (let result : Result Progress E = Err why in Pieced m vault result next old new)
  going_failed why next step = record { goes = goes_two (Err why) next step; leads = tt; since = since_two (Err why) next step; left = left_two (Err why) next step; shut = tt }

  -- the last one
  pub going_done : {E : Type 0} (pending last : Pending) (next : State D) → vault.pending ≡ Some pending → middle.pending ≡ Some last → last.start ≡ pending.start → (let result : Result Progress E = Ok Done in Pieced m middle result next mid new) → (let result : Result Progress E = Ok Done in Pieced m vault result next old new)
  going_done {E} pending last next there here starts step = record {
    goes = goes_two {E = E} (Ok Done) next step;
    leads = λ durable snapshot held is.
        let on = first.leads durable snapshot held is in
        let done = step.leads durable snapshot on.1 on.0 in
        (done.0, λ which at. subst (λ (n : ℕ). EachImage (now new) new (IsMadeOf m next snapshot n)) (starts ∙ ap (λ (p : Pending). p.start) (ap (of_some pending) (sym there ∙ at))) (done.1 last here));
    since = since_two {E = E} (Ok Done) next step;
    left = left_two {E = E} (Ok Done) next step;
    shut = tt;
  }

-- how much is left to write
abbrev pub left_to_write : Option Pending → ℕ
left_to_write None = 0
left_to_write (Some pending) = left_of pending.job.phase (length pending.job.payload)

-- a step where all of the journal was copied writes a piece of the payload
pub nears_piece : (journal : List Entry) (pending next : Pending) → pending.copied ≡ length journal → Nears journal pending next
    → (pending.job.phase ≡ Durable → ⊥) × (next.job ≡ at_phase (further pending.job.phase (length pending.job.payload)) pending.job) × (next.copied ≡ length journal)
nears_piece journal pending next all (same, inl piece) = (piece.0, piece.1, piece.2 ∙ all)
nears_piece journal pending next all (same, inr copy) = absurd (let more : pending.copied < next.copied = copy.2 in let few : next.copied ≤ length journal = copy.3 in omega (arith, more, few, all))

-- why a step was refused, where nothing wants memory
pub step_faults : {D : Type 0} (vault middle next : State D) (pending last : Pending) → middle ≡ with_pending vault (Some last) → vault.fault ≡ None → last.copied ≡ length vault.journal → (before between after : ℕ → ℕ) → ((file : ℕ) → before file ≤ between file) → (refusal : Refusal) (same : Type 0)
    → (refusal ≡ Memory → last.copied < length vault.journal) → RefusesCheckpoint middle between after refusal next same → Faults vault before after refusal next
step_faults vault middle next pending last is none all before between after fell refusal same memory (inl (inl wanted, unchanged, quiet)) = absurd (let few : last.copied < length vault.journal = memory wanted in omega (arith, few, all))
step_faults {D} vault middle next pending last is none all before between after fell refusal same memory (inl (inr halted, unchanged, quiet)) = absurd (none-some _ (sym (ap (λ (v : State D). v.fault) is ∙ none) ∙ halted.2))
step_faults {D} vault middle next pending last is none all before between after fell refusal same memory (inr faults) =
    let f = faults.1 in
    (none, (f.0, f.1, f.2, omega (arith, f.3, fell f.0), (f.4.0, f.4.1, f.4.2 ∙ ap (λ (v : State D). halted_at v f.4.0 f.4.1 f.0 (after f.0)) is)))

-- why a checkpoint wasn't begun: by the force, or by what came behind it
pub refused_by_force : {D : Type 0} (vault next : State D) → vault.fault ≡ None → (before after : ℕ → ℕ) (refusal : Refusal) (same : Type 0) → RefusesForce vault before after refusal next same → RefusesCheckpoint vault before after refusal next same
refused_by_force vault next none before after refusal same refuses =
    ⊎_elim (λ halted. inl (inr halted.0, halted.1, halted.2)) (λ failed. inr (failed.0, (log_file vault.generation, log_ours vault.generation, failed.1, failed.2, (vault.forced, vault.sure, failed.3)))) refuses

pub refused_behind : {D T : Type 0} (vault middle next : State D) → middle ≡ all_forced vault → vault.fault ≡ None → (before between after : ℕ → ℕ) → ((file : ℕ) → before file ≤ between file) → (result : Result T Refusal) (same : Type 0) → IfErr result (λ refusal. Faults middle between after refusal next) → IfErr result (λ refusal. RefusesCheckpoint vault before after refusal next same)
refused_behind vault middle next is none before between after fell (Ok done) same faults = tt
refused_behind {D} vault middle next is none before between after fell (Err refusal) same faults =
    let f = faults.1 in
    inr (none, (f.0, f.1, f.2, omega (arith, f.3, fell f.0), (f.4.0, f.4.1, f.4.2 ∙ ap (λ (v : State D). halted_at v f.4.0 f.4.1 f.0 (after f.0)) is)))

-- or by a step
pub refused_step : {D : Type 0} (vault middle next : State D) (pending : Pending) → middle ≡ with_pending (all_forced vault) (Some pending) → vault.fault ≡ None → (before between after : ℕ → ℕ) → ((file : ℕ) → before file ≤ between file) → (refusal : Refusal) (same : Type 0) → Faults middle between after refusal next → RefusesCheckpoint vault before after refusal next same
refused_step {D} vault middle next pending is none before between after fell refusal same faults =
    let f = faults.1 in
    inr (none, (f.0, f.1, f.2, omega (arith, f.3, fell f.0), (f.4.0, f.4.1, f.4.2 ∙ ap (λ (v : State D). halted_at v f.4.0 f.4.1 f.0 (after f.0)) is)))

-- ---- a whole checkpoint

module _ {D : Type 0} (m : Meaning D) (vault middle : State D) (pending : Pending) (is : middle ≡ with_pending (all_forced vault) (Some pending)) (starts : pending.start ≡ length vault.journal) (old mid new : History) {U F : Type 0} (begun : U)
    (begins : (let result : Result U F = Ok begun in Begins m vault result middle old mid)) where
  same_database : middle.database ≡ vault.database
  same_database = ap (λ (v : State D). v.database) is

  middle_of : (durable : D) → IsHeld m vault durable old → IsHeld m middle vault.database mid × IsPending m middle vault.database mid
  middle_of durable held = let both = begins.begun durable held in (subst (λ (d : D). IsHeld m middle d mid) same_database (good_held m middle mid both.0), both.1)

  module _ {E : Type 0} (result : Result Progress E) (next : State D) (pieced : Pieced m middle result next mid new) where
    goes_all : GoesOn IsOurs old new
    goes_all = goes_then IsOurs old mid new begins.goes pieced.goes

    since_all : (durable : D) → IsHeld m vault durable old → EachImage (now old) new (RecoversToEither m durable vault.database)
    since_all durable held =
        let middle = middle_of durable held in
        each_then IsOurs old mid new (RecoversToEither m durable vault.database) pieced.goes (begins.since durable held)
        (each_weaker (now mid) new _ _ (λ files either. inr (⊎_elim (λ r. r) (λ r. subst (RecoversWithin m files) same_database r) either)) (pieced.since vault.database vault.database middle.0 middle.1))

    left_all : (durable : D) → IsHeld m vault durable old → IsLeft (RecoversToEither m durable vault.database) new
    left_all durable held = either_after m IsOurs durable vault.database old new goes_all (since_all durable held)

    since_good : IsGood m vault old → EachImage (now old) new (λ files. RecoversWithin m files vault.database)
    since_good good moment files from to here = ⊎_elim (λ r. r) (λ r. r) (since_all vault.database (good_held m vault old good) moment files from to here)

    left_good : IsGood m vault old → IsLeft (λ files. RecoversWithin m files vault.database) new
    left_good good files left = ⊎_elim (λ r. r) (λ r. r) (left_all vault.database (good_held m vault old good) files left)

  pub checkpoint_failed : {T E : Type 0} (why : E) (next : State D) → (let result : Result Progress E = Err why in Pieced m middle result next mid new) → (let result : Result T E = Err why in Checkpointed m vault result next old new)
  checkpoint_failed why next pieced = record {
    goes = goes_all (Err why) next pieced;
    good = tt;
    fresh = tt;
    since = since_good (Err why) next pieced;
    left = left_good (Err why) next pieced;
    held_good = tt;
    held_fresh = tt;
    held_since = since_all (Err why) next pieced;
    held_left = left_all (Err why) next pieced;
  }

  pub checkpoint_made : {T E : Type 0} (done : T) (next : State D) → next ≡ at_next vault → (let result : Result Progress E = Ok Done in Pieced m middle result next mid new) → (let result : Result T E = Ok done in Checkpointed m vault result next old new)
  checkpoint_made {T} {E} done next is_next pieced = record {
    goes = goes_all {E = E} (Ok Done) next pieced;
    good = λ good. good_new vault.database (good_held m vault old good);
    fresh = λ good. fresh_new vault.database (good_held m vault old good);
    since = since_good {E = E} (Ok Done) next pieced;
    left = left_good {E = E} (Ok Done) next pieced;
    held_good = good_new;
    held_fresh = fresh_new;
    held_since = since_all {E = E} (Ok Done) next pieced;
    held_left = left_all {E = E} (Ok Done) next pieced;
  }
    where
      good_new : (durable : D) → IsHeld m vault durable old → IsGood m next new
      good_new durable held = let middle = middle_of durable held in (pieced.leads vault.database vault.database middle.0 middle.1).0

      none_behind : records_of (reverse (drop pending.start vault.journal)) ≡ []
      none_behind = ap (λ (l : List Entry). records_of (reverse l)) (drop_all pending.start vault.journal (omega (arith, starts)))

      fresh_new : (durable : D) → IsHeld m vault durable old → EachImage (now new) new (IsFresh m next)
      fresh_new durable held =
          let middle = middle_of durable held in
          let made : EachImage (now new) new (IsMadeOf m next vault.database pending.start) = (pieced.leads vault.database vault.database middle.0 middle.1).1 pending (ap (λ (v : State D). v.pending) is) in
          subst (λ (v : State D). EachImage (now new) new (IsFresh m v)) (sym is_next)
          (each_weaker (now new) new (IsMadeOf m (at_next vault) vault.database pending.start) (IsFresh m (at_next vault)) (λ files both. (both.0, subst (λ (l : List (List ℕ)). LogEnds (files (log_file (vault.generation + 1))) l) none_behind both.1))
          (subst (λ (v : State D). EachImage (now new) new (IsMadeOf m v vault.database pending.start)) is_next made))

-- it wasn't begun
pub checkpoint_not_begun : {D T U E F : Type 0} (m : Meaning D) (vault next : State D) (failed : F) (why : E) (old new : History) → (let result : Result U F = Err failed in Begins m vault result next old new) → (let result : Result T E = Err why in Checkpointed m vault result next old new)
checkpoint_not_begun m vault next failed why old new begins = record {
  goes = begins.goes;
  good = tt;
  fresh = tt;
  since = λ good moment files from to here. ⊎_elim (λ r. r) (λ r. r) (begins.since vault.database (good_held m vault old good) moment files from to here);
  left = λ good files left. ⊎_elim (λ r. r) (λ r. r) (begins.left vault.database (good_held m vault old good) files left);
  held_good = tt;
  held_fresh = tt;
  held_since = begins.since;
  held_left = begins.left;
}
