-- A backup of what came behind another is refused as not found only where none is there to be followed.
use Rattle.std.proofs.Common.{◌≡◌, ◌⊎◌, inl, inr, ℕ, ◌&&◌, nat_le, Bool, true, false, List, [], ◌∷◌, None, Option, Some, Result, Ok, Err, refl, sym, ap, subst, ◌∙◌}
use Rattle.std.proofs.lemmas.Bool.{false≢true}
use Rattle.std.specs.Option.{option_map_or}
use Rattle.kinds.specs.declared.refusal.Refusal.{Refusal}
use Rattle.kinds.specs.declared.refusal.Refusal.TheVariants as refused
use Rattle.entries.specs.declared.entry.Entry.{Entry}
use Rattle.inventory_rows.specs.declared.backup.Backup.{Backup}
use Rattle.inventory_rows.specs.version_groups.Entries.{on_ok}
use Rattle.inventory_rules.specs.Backups.{backup_at, is_done}
use Rattle.inventory_answers.specs.Stores.{backup_lines}
use Rattle.admin_words.specs.declared.command.Command.{Command}
use Rattle.admin_commands.specs.declared.work.Work.{Work}
use Rattle.admin_commands.specs.declared.work.Work.TheVariants.{Commit, Run, Show}
use Rattle.command_steps.specs.copy_attempts.Attempts.{is_stopping}
use Rattle.steps.specs.declared.image.ImageKind.TheVariants as image
use Rattle.steps.specs.Calls.{Made}
use Rattle.steps.specs.Events.{Deed, Event, event, is_listed}
use Rattle.steps.specs.Events.Deed.{Force, Image}
use Rattle.command_steps.specs.db_backup.declared.taking.Taken.{Taken}
use Rattle.command_steps.specs.db_backup.Backups.{Follows, FollowsNewest}
use Rattle.command_steps.specs.db_backup.Listing.{newest_file}
use Rattle.command_steps.proofs.of_db_backup.Following.{backs-so, not-followed}
use Rattle.machine.specs.Alone.{Alone}
use Rattle.machine.specs.Causes.{image_refused}
use Rattle.machine.specs.Machine.{BeginsBackup, Places, ended, in_progress}
use Rattle.machine.specs.State.{Core, Image as Picture, Machine, inventory, sight}
use Rattle.machine.proofs.Elsewhere.{AreElsewhere, ended-elsewhere, own-or-elsewhere}
use Rattle.command_steps.specs.Behind.{forces}
use Rattle.command_steps.specs.Clients.{Client}
use Rattle.command_steps.specs.Doing.{backed_up, behind_force}
use Rattle.command_steps.specs.Owns.{Own, back_up_since, own_of}
use Rattle.command_steps.specs.declared.outcome.Outcome.{Outcome}
use Rattle.line_results.specs.Bounds.{HasNoneToFollow, is_of_run}
use Rattle.line_results.specs.Clauses.{DeniedBy, DeniedOwn}
use Rattle.line_results.specs.Commands.{DoesOwn, Works, WorksWith}
use Rattle.line_results.specs.Resting.{database}
use Rattle.line_results.proofs.Runs.{alone-parts, stepped}
use Rattle.line_results.proofs.Told.{Like, like-none, like-run, listed-as, waited-like}

-- ---- the step that is so refused

progress-elsewhere : (i : Option Picture) → AreElsewhere (in_progress i)
progress-elsewhere None = tt
progress-elsewhere (Some i) = (refl, tt)

either-not : (a b : Bool) → (a ≡ false) ⊎ (b ≡ false) → a && b ≡ false
either-not true b (inl h) = absurd (false≢true (sym h))
either-not true b (inr h) = h
either-not false b h = refl

by-step : (file : ℕ) (m next : Machine) → BeginsBackup 0 (Some file) (image_refused (image.Since file) (sight 0 m.core)) m next (Err refused.NotFound) → is_of_run file m.core ≡ false
by-step file m next (inl (inl held, stays)) =
    elim (own-or-elsewhere (ended m) (image_refused (image.Since file) (sight 0 m.core)) (in_progress m.core.image) (ended-elsewhere m) (progress-elsewhere m.core.image) refused.NotFound held) as
    (λ _. is_of_run file m.core ≡ false) [
      | inl own ↦ either-not (is_done (backup_at file (inventory m.core))) (option_map_or (λ (b : Backup). nat_le m.core.base.number b.number) (backup_at file (inventory m.core)) false) (not-followed file (sight 0 m.core) own)
      | inr other ↦ absurd (false≢true other)
    ]
by-step file m next (inl (inr memory, stays)) = absurd cc
by-step file m next (inr (none, inl (log, count, is, fault, becomes))) = absurd cc
by-step file m next (inr (none, inr (moment, is, rose, becomes))) = absurd cc

-- ---- all steps

module _ (trusted : Type 0) (places : Places) where
  last-step : (file k : ℕ) (m new : Machine) → Alone trusted places 0 (event k (Image (image.Since file) (Err refused.NotFound)) ∷ []) m new → is_of_run file m.core ≡ false
  last-step file k m new f =
      let d : Deed = Image (image.Since file) (Err refused.NotFound) in
      let s = stepped trusted places k d (event k d ∷ []) m new (λ contents seen x. x) (λ contents x. refl) refl f in
      by-step file m new s.1

  denied-on : (o : Option ℕ) (events : List Event) (old mid new : Machine) → newest_file (backup_lines (database old).backups) ≡ o → mid.core ≡ old.core → Follows o events (Err refused.NotFound)
      → Alone trusted places 0 events mid new → HasNoneToFollow old
  denied-on None events old mid new newest same follows f = inl newest
  denied-on (Some file) events old mid new newest same follows f =
      let so = backs-so file events follows.order in
      let parts = alone-parts trusted places 0 events so.0 (event so.1 (Image (image.Since file) (Err refused.NotFound)) ∷ []) mid new so.2 f in
      let like : Like mid parts.0 = waited-like trusted places (Some file) so.3 so.0 mid mid parts.0 so.4 (like-none mid) parts.1 in
      inr (file, newest, ap (λ (k : Core). is_of_run file k) (sym same) ∙ sym (like-run file mid parts.0 like) ∙ last-step file so.1 parts.0 new parts.2)

  denied : (events : List Event) (old new : Machine) → FollowsNewest events (Err refused.NotFound) → Alone trusted places 0 events old new → HasNoneToFollow old
  denied events old new (inl (e, (inl memory, asks), is)) f = absurd (let never : refused.NotFound ≡ refused.Memory = (let same : refused.NotFound ≡ e = cc in same ∙ memory) in cc)
  denied events old new (inl (e, (inr met, asks), is)) f = absurd (let never : is_stopping refused.NotFound ≡ true = (let same : refused.NotFound ≡ e = cc in ap is_stopping same ∙ met.0) in false≢true never)
  denied events old new (inr (lines, (xs, ys, cut, listed, follows))) f =
      let parts = alone-parts trusted places 0 events xs ys old new cut f in
      let list = listed-as trusted places lines xs old parts.0 listed parts.1 in
      denied-on (newest_file lines) ys old parts.0 new (ap newest_file (sym list.1)) list.0 follows parts.2

-- ---- a command

not-answered : (answer : Result Taken Refusal) → Err refused.NotFound ≡ on_ok backed_up answer → answer ≡ Err refused.NotFound
not-answered (Ok t) is = absurd cc
not-answered (Err e) is = (let same : refused.NotFound ≡ e = cc in ap Err (sym same))

-- the earlier state has the same core
denied-as : (start old : Machine) → start.core ≡ old.core → HasNoneToFollow start → HasNoneToFollow old
denied-as start old same =
    subst (λ (k : Core). (newest_file (backup_lines (inventory k).backups) ≡ None) ⊎ ((file : ℕ) × (newest_file (backup_lines (inventory k).backups) ≡ Some file) × (is_of_run file k ≡ false))) same

module _ (trusted : Type 0) (places : Places) (k : Client) (old mid : Machine) (said : Result Outcome Refusal) (why : Refusal) (first : List Entry) where
  denied-own : (own : Own) (numbers : List ℕ) → (why ≡ refused.NotFound → said ≡ Err refused.NotFound) → DoesOwn trusted places k numbers own old mid said first → DeniedOwn own old why
  denied-own back_up_since numbers so (kept, ((start, events, still, alone, (answer, made, is)), are, generation, bytes, reason)) =
      λ h. denied-as start old still.core
      (denied trusted places events start mid (subst (λ (r : Result Taken Refusal). FollowsNewest events r) (not-answered answer (sym (so h) ∙ is)) made.order) alone)
  denied-own own numbers so h = tt

-- a force isn't so refused
force-not : (events : List Event) → Made (Force (Err refused.NotFound)) events → ⊥
unfolding is_listed
force-not events (inl (n, is, listed)) = false≢true listed
force-not events (inr (memory, none)) = cc

-- what was so refused behind a force was so refused before it
said-not : (answer : Result ℕ Refusal) (said : Result Outcome Refusal) (events : List Event) → Made (Force answer) events → Err refused.NotFound ≡ behind_force said answer → said ≡ Err refused.NotFound
said-not (Ok number) (Ok x) events made is = absurd cc
said-not (Ok number) (Err (refused.LogFault file count)) events made is = absurd cc
said-not (Ok number) (Err refused.RunFull) events made is = absurd cc
said-not (Ok number) (Err e) events made is = sym is
said-not (Err e) said events made is = absurd (let same : refused.NotFound ≡ e = cc in force-not events (subst (λ (x : Refusal). Made (Force (Err x)) events) (sym same) made))

module _ (trusted : Type 0) (places : Places) (k : Client) (c : Command) (old new : Machine) (why : Refusal) (added : List Entry) where
  denied-run : (numbers : List ℕ) → WorksWith trusted places k c (Ok (Run numbers)) forces old new (Err why) added → DeniedOwn (own_of c) old why
  denied-run numbers w =
      let ends = w.ends in
      denied-own trusted places k old w.mid w.said why w.first (own_of c) numbers
      (λ h. said-not ends.2.0 w.said ends.0 ends.2.1 (subst (λ (e : Refusal). Err e ≡ behind_force w.said ends.2.0) h ends.2.2)) w.does

  pub denied-by : (w : Result Work Refusal) → Works trusted places k c w forces old new (Err why) added → DeniedBy (own_of c) w old why
  denied-by (Ok (Run numbers)) h = denied-run numbers h
  denied-by (Ok (Commit what)) h = tt
  denied-by (Ok (Show q)) h = tt
  denied-by (Err given) h = tt
