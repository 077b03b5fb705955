-- A line of a job that is legal at each state that its turns pass isn't refused.
use Rattle.std.proofs.Common.{◌≡◌, ◌⊎◌, inl, inr, ℕ, ◌+◌, ◌<◌, ◌≤◌, ◌==◌, ◌&&◌, if◌then◌else◌, ◌^◌, is_some, nat_le, nat_lt, Contains, Bool, true, false, List, [], ◌∷◌, ◌++◌, length, Option, None, Some, Result, Ok, Err, refl, sym, ap, subst, ◌∙◌, append_assoc, true≢false, arith}
use Rattle.std.proofs.lemmas.Bool.{and_parts, eqb-true, lt-ltb}
use Rattle.std.proofs.lemmas.List.{append-nil}
use Rattle.std.proofs.lemmas.Option.{same_Some}
use Rattle.std.specs.List.{AllByRecursion}
use Rattle.std.specs.Option.{option_map_or}
use Rattle.kinds.specs.declared.change.DefineOrDelete.TheVariants as two
use Rattle.kinds.specs.declared.change.ObjectChange.TheVariants as client
use Rattle.kinds.specs.declared.change.PolicyChange.TheVariants as policy
use Rattle.sha2.specs.Sha256.{sha256}
use Rattle.kinds.specs.ValueForms.{digest_with}
use Rattle.kinds.specs.Refusals.{bad_value, foremost, number_of, refusal_of, unless}
use Rattle.kinds.specs.declared.refusal.Refusal.{Refusal}
use Rattle.kinds.specs.declared.refusal.Refusal.TheVariants as refused
use Rattle.entries.specs.declared.change.Change.{Change}
use Rattle.entries.specs.declared.change.Change.TheVariants as change
use Rattle.inventory_rows.specs.version_groups.Entries.{if_found, on_ok}
use Rattle.inventory_rows.specs.version_groups.declared.copies.CopyRow.{CopyRow}
use Rattle.inventory_rows.specs.version_groups.declared.versions.Version.{Version}
use Rattle.inventory_rows.specs.Search.{version}
use Rattle.inventory_rows.specs.State.{Inv}
use Rattle.inventory_rows.specs.object_rows.Names.{filespace_named, node_named}
use Rattle.inventory_rules.specs.Journal.{Journal}
use Rattle.inventory_rules.specs.Transactions.{effect, refused as refused_by}
use Rattle.inventory_rules.specs.Versions.{of_version, name_once}
use Rattle.kinds.specs.Names.{is_same_name}
use Rattle.kinds.specs.declared.segment.Digest.{Digest}
use Rattle.placing.specs.Placing.{can_read}
use Rattle.inventory_work.specs.Found.{filespace_asked, number_found}
use Rattle.inventory_work.specs.Rules.{rules_of}
use Rattle.inventory_work.specs.declared.lines.Rules.{Rules}
use Rattle.inventory_work.specs.declared.search.Found.{Found}
use Rattle.inventory_work.specs.declared.search.Found.TheVariants as found
use Rattle.inventory_work.specs.declared.search.Named.TheVariants as thing
use Rattle.choosers.specs.declared.rule.Rule.{Rule}
use Rattle.client_batches.specs.Rounds.{AwaitsOne, SendsAll, SendsNone, unwaited}
use Rattle.client_batches.specs.Verdicts.{waiting}
use Rattle.client_plan.specs.Plans.{AreActive, actives, plan_of, scheme}
use Rattle.client_plan.specs.declared.lines.SendLine.{SendLine}
use Rattle.line_results.specs.incrementals.Asking.{AsksAll as AsksAllOf, AsksNodeRules, AsksVersions, HasNumber, Unanswered, number_found as number_found_in}
use Rattle.line_results.specs.incrementals.Filespaces.{DefinesAndFinds, DefinesOne, FindsOne, HasFilespace, number_in, there, undefined}
use Rattle.line_results.specs.incrementals.Planning.{Begins, IsPlanned, Unlisted}
use Rattle.line_results.specs.incrementals.Process.{CarriesOut, Finishes, Incremental, Increments, Works, is_idle, is_sending}
use Rattle.line_results.specs.incrementals.declared.answering.Sent.{Sent}
use Rattle.line_results.specs.incrementals.declared.asking.Basis.{Basis}
use Rattle.line_results.specs.incrementals.declared.asking.Ruled.{Ruled}
use Rattle.line_results.specs.incrementals.declared.planning.Begun.{Begun}
use Rattle.kinds.specs.declared.refusal.Holder.{Holder}
use Rattle.kinds.specs.declared.refusal.Holder.TheVariants as holder
use Rattle.inventory_answers.specs.Answered.{answered, rows_of}
use Rattle.inventory_answers.specs.Clients.{filespace_lines, path_versions_of, versions_at, versions_of}
use Rattle.inventory_answers.specs.declared.lines.FilespaceLine.{FilespaceLine}
use Rattle.inventory_answers.specs.declared.lines.VersionLine.{VersionLine}
use Rattle.inventory_answers.specs.declared.query.Query.{Query}
use Rattle.inventory_answers.specs.declared.query.Query.TheVariants as query
use Rattle.inventory_answers.specs.declared.reply.Answer as rows
use Rattle.inventory_answers.specs.declared.reply.Rows as reply
use Rattle.inventory_answers.specs.declared.reply.Rows.TheVariants as replies
use Rattle.inventory_rows.specs.policy_domains.Changes.{after}
use Rattle.admin_words.specs.declared.command.Command.{Command}
use Rattle.admin_words.specs.declared.files.FileGet.{FileGet}
use Rattle.admin_words.specs.declared.files.FilePut.{FilePut}
use Rattle.admin_words.specs.declared.files.FilesRestore.{FilesRestore}
use Rattle.admin_words.specs.declared.files.IncrementalBackup.{IncrementalBackup}
use Rattle.admin_words.specs.declared.policy.NamedSet.{NamedSet}
use Rattle.admin_commands.specs.Orders.{needs, work_of}
use Rattle.admin_commands.specs.declared.work.Work.{Work}
use Rattle.admin_commands.specs.declared.work.Work.TheVariants.{Commit as CommitWork, Run, Show}
use Rattle.line_results.specs.client_files.Restoring.{Restoring as RestoringOne, is_unrestored}
use Rattle.line_results.specs.client_files.Sending.{Breaks, Fills, GivesUp, Sends as SendsFile, Writes, is_unfilled, is_unopened, stopping, unopened}
use Rattle.line_results.specs.client_files.declared.outcome.Came.{Came as SentAs}
use Rattle.line_results.specs.client_files.declared.outcome.Came.TheVariants as sent
use Rattle.line_results.specs.client_files.declared.outcome.Gave.{Gave}
use Rattle.line_results.specs.client_files.declared.outcome.Gave.TheVariants as gave
use Rattle.line_results.specs.client_files.declared.restoring.Stored.{Stored}
use Rattle.client_trees.specs.Files.{Files}
use Rattle.client_trees.specs.declared.tree.FileRow.{FileRow}
use Rattle.line_results.specs.copy_attempts.Outcomes.{MetBy}
use Rattle.line_results.specs.copy_pools.Backups.{Backup as PoolBackup}
use Rattle.line_results.specs.db_backup.Backups.{DatabaseBackup, IncrementalBackup as DatabaseIncrement}
use Rattle.line_results.specs.db_backup.Deleting.{HistoryDeletion}
use Rattle.line_results.specs.deletions.Filespaces.{FilespaceDeletion}
use Rattle.line_results.specs.deletions.Volumes.{VolumeDeletion}
use Rattle.line_results.specs.expiration.Expiring.{Expiration}
use Rattle.line_results.specs.pool_restores.Volumes.{VolumeRestore}
use Rattle.line_results.specs.reuse_delay.Reusing.{VolumeReuse}
use Rattle.line_results.specs.restores.Chosen.{chosen}
use Rattle.line_results.specs.restores.Given.{Ends as EndsAt, Stops}
use Rattle.line_results.specs.restores.Restores as restoring
use Rattle.line_results.specs.restores.Restores.{Restores}
use Rattle.line_results.specs.restores.declared.choosing.RestoreLine.{RestoreLine}
use Rattle.line_results.specs.restores.declared.choosing.Which.{Which}
use Rattle.reports.specs.declared.shown.Shown.TheVariants.{Done, Reused}
use Rattle.reports.specs.declared.shown.Shown.TheVariants as shown
use Rattle.script_loop.specs.Reply.{Answer}
use Rattle.line_results.specs.sessions.Asking.{Asks, AsksNode, AsksRules}
use Rattle.line_results.specs.sessions.Checkpoints.{Checkpointing, IsOf as IsOfCheckpoint, numbers as checkpoint_numbers}
use Rattle.line_results.specs.sessions.Getting.{Chooses, Gets, Misses, active_line, stored_of}
use Rattle.line_results.specs.sessions.Changing.{Changes as ChangesOf, Changing, IsOf as IsOfChange}
use Rattle.line_results.specs.sessions.Homes.{home_of}
use Rattle.line_results.specs.sessions.InTurn.{OrMemory}
use Rattle.inventory_work.specs.Copies.{has_pool}
use Rattle.space.specs.declared.aim.Aim.{Aim}
use Rattle.space.specs.declared.aim.Aim.TheVariants as aim
use Rattle.line_results.specs.sessions.Putting.{AsksFor as AsksForSpace, Defines, FindsFilespace, FindsHome, Looks, Sends as SendsSealed, SendsOnce, defined_by, is_unplaced, there_or_not, unplaced, CommitsOne, ForcesOne, GivesBack as GivesBackOne, Names, OrGivesBack, Puts, PutsIn, PutsUnder, StoresAndNames, backed_up, found_or, object_among, object_stored}
use Rattle.line_results.specs.sessions.Waiting.{holder_in}
use Rattle.line_results.specs.sessions.declared.homes.Home.{Home}
use Rattle.line_results.specs.sessions.declared.sending.Sealed.{Sealed}
use Rattle.line_results.specs.copy_attempts.Attempts.{Awaits as AwaitsHolder}
use Rattle.steps.specs.Calls.{IsStep, Made}
use Rattle.steps.specs.declared.asked.Asked.{Asked}
use Rattle.steps.specs.declared.asked.Asked.TheVariants.{Plain}
use Rattle.steps.specs.declared.image.ImageKind.{ImageKind}
use Rattle.steps.specs.declared.image.ImageKind.TheVariants as image
use Rattle.steps.specs.declared.image.ImageReply.{ImageReply}
use Rattle.steps.specs.Events.{Deed, Event, has_number, refusal, refusal_in, event}
use Rattle.steps.specs.Events.Deed.{Ask, Commit, Force, Image, OpenCopy, ReadPiece, OpenNew, Seal, WritePiece}
use Rattle.tree_api.specs.Cause.{Rose}
use Rattle.machine.proofs.Elsewhere.{append-all, append-none, ended-all, foremost-all, none-held, unless-all}
use Rattle.machine.specs.Alone.{Moves, with_contents}
use Rattle.machine.specs.Causes.{change_refused, has_copy_in, is_plain, listed, most_bytes, new_refused, read_refused, seal_refused, write_refused, asked_refused, commit_refused, digest_refused, ticket_in_use}
use Rattle.machine.specs.Changes.{change_of, paired, scratch_of, version_from}
use Rattle.machine.specs.Fits.{is_write_fault}
use Rattle.machine.proofs.Mild.{mild-seal, mild-write}
use Rattle.machine.specs.Machine.{Case, IsAnswer, IsLostFor, Places, ended, in_progress, read_count, IsTicket, held_refused}
use Rattle.machine.specs.Pieces.{IsCopyLost, RoseAt}
use Rattle.machine.specs.State.{Core, Image as Picture, Machine, backup, checkpoint as checkpoint_image, inventory, own_image, sight, Ticket, digest_of, is_storing, own_tickets, ticket}
use Rattle.machine.specs.Turns.{Turn, events_of}
use Rattle.crew.specs.Ran.{Turned}
use Rattle.line_results.specs.command_steps.Answers.{Ends as EndsLine, halt_by, nothing, refusal as answer_refused}
use Rattle.line_results.specs.command_steps.Behind.{Behind, behind, forces, no_more, reuses, with_reused}
use Rattle.line_results.specs.command_steps.Clients.{Client, Known}
use Rattle.line_results.specs.command_steps.Doing.{Asked as AskedOf, AsksAll, Does, DoesOwn, Doing, EndsWork, Forcing, Gives, MovesSo, Reusing, Told, Validates, WorksOrWants, backed_up as backed_up_as, the_number, the_second, validated_by, PutsText}
use Rattle.line_results.specs.command_steps.Jobs.{AnswersInJob, DoesInJob}
use Rattle.line_results.specs.command_steps.Lines.{Line, asks, comment, refused as refused_line}
use Rattle.line_results.specs.command_steps.Owns.{Mover, OnTree, Own, audit_volume, back_up, back_up_database, back_up_pool, back_up_since, checkpoint, delete_history, empty_filespace, empty_volume, erase, expire, get, last_of, moves, none_but_reuse, none_yet, on_tree, own_of, put, restore, validate, volume_restorer, write, file_put, row_put}
use Rattle.line_results.specs.command_steps.Trees.{DoesThere, GivesWanted, ShowsSent, is_absent, which_of}
use Rattle.line_results.specs.command_steps.declared.outcome.Outcome.{Outcome}
use Rattle.line_results.specs.command_steps.declared.outcome.Outcome.TheVariants as came
use Rattle.line_results.specs.command_steps.declared.outcome.Outcome.TheVariants.{Audited, Read, Rows, Said}
use Rattle.line_results.specs.volume_audits.Auditing.{VolumeAudit}
use Rattle.line_results.proofs.Asked.{is_log}
use Rattle.line_results.proofs.BackupRefused.{already-not, asked-missing, mild-defined, none-active, not-there-yet, number-shown, plan-idle, shown-there}
use Rattle.line_results.proofs.ForceEnds.{forced-done, forced-same}
use Rattle.line_results.proofs.Needs.{IsPlainWork, work-plain}
use Rattle.line_results.proofs.Planned.{versions_in}
use Rattle.line_results.proofs.PutNaming.{named-in, stored-clients}
use Rattle.line_results.proofs.PutHomes.{after-one, asked-there, defined-so, err-of, filespace-of, no-filespace, ok-of, rules-told, home-node}
use Rattle.line_results.proofs.Readable.{contained_holds, not-lost}
use Rattle.line_results.proofs.Stopping.{Ends, batch-ends, ends-halt, ends-stopping, finish-ends, forced-ends, given-up-ends, lists-end, unopened-ends, unwaited-ends}
use Rattle.line_results.specs.Clauses.{MayGive}
use Rattle.line_results.specs.Commands.{drawn, validated}
use Rattle.line_results.specs.Files.{filespace_defined}
use Rattle.line_results.specs.Resting.{Onward, RoseFrom, database}
use Rattle.block_results.specs.Filled.{IsFilled, IsInUse}
use Rattle.block_results.specs.Gone.{IsPoolGone, IsUnopened}
use Rattle.block_results.specs.Legal.{AreAnswers, AreThere, BringsTo, HasRoom, IsAnswered, IsAnsweredWith, IsBound, IsComplete, IsHome, IsKeptIn, IsLegal, IsNoBackup, IsReadable, IsThereOrDefined, MayBackUp, MayBy, MayCheckpoint, MayCommit, MayDo, MayGet, MayLose, MayOn, MayOwn, MayPut, MayStore, OpensAt, Passes, Remains, StaysKept, stored_with}
use Rattle.block_results.specs.Processes.{HaveNumbers, MayProcess}
use Rattle.block_results.specs.Refusing.{HasNoPlace, IsRefusedFor, IsUnended, IsUnread, bounds, held_reasons, own_reasons}
use Rattle.block_results.proofs.Came.{Said as SaidOf}
use Rattle.block_results.proofs.Fitting.{met-first, met-next}
use Rattle.block_results.proofs.BySteps.{core-left}
use Rattle.block_results.proofs.Filespaces.{exists-so}
use Rattle.block_results.proofs.InOrder.{Stood, Two, moved-number, passes-after, passes-before, split, stood, stood-within, turned-grows, turned-number}
use Rattle.block_results.proofs.Looking.{told-as}
use Rattle.block_results.proofs.Mild.{not-memory}
use Rattle.block_results.proofs.Moving.{no-ticket, numbers-of, unmoved, unrestored-volume}
use Rattle.line_results.proofs.Reasons.{stopping-mild}
use Rattle.line_results.specs.copy_runs.Ends.{IsStopped}
use Rattle.line_results.specs.copy_runs.Tickets.{GotNoTicket, ListsCopy}
use Rattle.line_results.proofs.Ticketed.{copy-there, no-pool-since}
use Rattle.block_results.proofs.Attempting.{none-full}
use Rattle.line_jobs.specs.Jobs.{is_held}
use Rattle.block_results.proofs.Processes.{AllStood, unaudited, unbacked-whole, uncopied, undeleted, unexpired, unfollowed}
use Rattle.block_results.proofs.Reasons.{moved-for}
use Rattle.block_results.proofs.Brought.{kept-brought}
use Rattle.block_results.proofs.Removing.{unemptied, unremoved}
use Rattle.block_results.proofs.Rows.{limited-same, rows-told as rows-of-told}
use Rattle.block_results.proofs.Single.{validity-is}
use Rattle.block_results.proofs.Sounding.{AreSound, asked-free, met-sound, turned-sound}
use Rattle.block_results.proofs.Ticketed.{HasTicket, Keeps, Opens, opened-to}
use Rattle.block_results.proofs.Turned.{here, moved, rose-within, turned-join, turned_on}

-- ---- a step among the turns

-- what the run ends by
ends-run : (m : Machine) (e : Refusal) → halt_by e ≡ None → foremost (ended m) ≡ Some e → ⊥
ends-run m e mild h = foremost-all (λ x. halt_by x ≡ None → ⊥) (ended m) (ended-all (λ x. halt_by x ≡ None → ⊥) (λ n. cc) (λ file count n. cc) m) e h mild

not-log : (file count : ℕ) → halt_by (refused.LogFault file count) ≡ None → ⊥
not-log file count h = cc

-- A step that has the numbers that it draws, and in which no call fails, is refused for a reason that its actor sees, since its object has no place, or for what others hold; or by what ends the run.
pub why-so : (places : Places) (actor : ℕ) (deed : Deed) (before after : Machine) (e : Refusal) → IsRefusedFor places actor deed before after e → halt_by e ≡ None → bounds deed before.core ≡ []
    → ((file : ℕ) → RoseAt before.counts after.counts file → ⊥) → (IsUnread actor deed before after → ⊥) → (IsUnended actor deed before → ⊥)
    → (foremost (own_reasons actor deed (sight actor before.core)) ≡ Some e) ⊎ HasNoPlace places actor deed before e ⊎ (foremost (held_reasons actor deed before.core) ≡ Some e)
why-so places actor deed before after e (inl h) mild bound rose unread unended = inl h
why-so places actor deed before after e (inr (inl h)) mild bound rose unread unended = inr (inl h)
why-so places actor deed before after e (inr (inr (inl h))) mild bound rose unread unended = inr (inr h)
why-so places actor deed before after e (inr (inr (inr (inl h)))) mild bound rose unread unended =
    let odd : foremost [] ≡ Some e = subst (λ (l : List Refusal). foremost l ≡ Some e) bound h in absurd cc
why-so places actor deed before after e (inr (inr (inr (inr (inl h))))) mild bound rose unread unended = absurd (ends-run before e mild h)
why-so places actor deed before after (refused.WriteFault file) (inr (inr (inr (inr (inr (inl h)))))) mild bound rose unread unended = absurd (rose file h)
why-so places actor deed before after (refused.LogFault file count) (inr (inr (inr (inr (inr (inl h)))))) mild bound rose unread unended = absurd (not-log file count mild)
why-so places actor deed before after refused.Unavailable (inr (inr (inr (inr (inr (inl h)))))) mild bound rose unread unended = absurd (unread h)
why-so places actor deed before after refused.InventoryFull (inr (inr (inr (inr (inr (inl h)))))) mild bound rose unread unended = absurd (unended h)
why-so places actor deed before after e (inr (inr (inr (inr (inr (inl h)))))) mild bound rose unread unended = absurd h
why-so places actor deed before after e (inr (inr (inr (inr (inr (inr h)))))) mild bound rose unread unended = absurd (not-memory e mild h)

-- A step for which nothing stands in its way but what others hold, and in which no call fails, is refused for that, or by what ends the run.
never-but : (places : Places) (actor : ℕ) (deed : Deed) (before after : Machine) (e : Refusal) → IsRefusedFor places actor deed before after e → halt_by e ≡ None → (foremost (own_reasons actor deed (sight actor before.core)) ≡ Some e → ⊥)
    → (HasNoPlace places actor deed before e → ⊥) → bounds deed before.core ≡ [] → ((file : ℕ) → RoseAt before.counts after.counts file → ⊥) → (IsUnread actor deed before after → ⊥)
    → (IsUnended actor deed before → ⊥) → foremost (held_reasons actor deed before.core) ≡ Some e
never-but places actor deed before after e for mild own place bound rose unread unended = elim (why-so places actor deed before after e for mild bound rose unread unended) as (λ _. foremost (held_reasons actor deed before.core) ≡ Some e) [
  | inl h ↦ absurd (own h)
  | inr rest ↦ elim rest as (λ _. foremost (held_reasons actor deed before.core) ≡ Some e) [
    | inl h ↦ absurd (place h)
    | inr h ↦ h
  ]
]

nothing-held : (e : Refusal) (l : List Refusal) → l ≡ [] → foremost l ≡ Some e → ⊥
nothing-held e l is h = (let odd : foremost [] ≡ Some e = subst (λ (x : List Refusal). foremost x ≡ Some e) is h in cc)

-- A step for which nothing stands in its way, and in which no call fails, isn't refused but by what ends the run.
never : (places : Places) (actor : ℕ) (deed : Deed) (before after : Machine) (e : Refusal) → IsRefusedFor places actor deed before after e → halt_by e ≡ None → (foremost (own_reasons actor deed (sight actor before.core)) ≡ Some e → ⊥)
    → (HasNoPlace places actor deed before e → ⊥) → held_reasons actor deed before.core ≡ [] → bounds deed before.core ≡ [] → ((file : ℕ) → RoseAt before.counts after.counts file → ⊥) → (IsUnread actor deed before after → ⊥)
    → (IsUnended actor deed before → ⊥) → ⊥
never places actor deed before after e for mild own place held bound rose unread unended =
    nothing-held e (held_reasons actor deed before.core) held (never-but places actor deed before after e for mild own place bound rose unread unended)

-- one that asks for nothing of others is refused for a reason that its actor sees
pub only-own : (places : Places) (actor : ℕ) (deed : Deed) (before after : Machine) (e : Refusal) → IsRefusedFor places actor deed before after e → halt_by e ≡ None → (HasNoPlace places actor deed before e → ⊥)
    → held_reasons actor deed before.core ≡ [] → bounds deed before.core ≡ [] → ((file : ℕ) → RoseAt before.counts after.counts file → ⊥) → (IsUnread actor deed before after → ⊥) → (IsUnended actor deed before → ⊥)
    → foremost (own_reasons actor deed (sight actor before.core)) ≡ Some e
only-own places actor deed before after e for mild place held bound rose unread unended =
    elim (why-so places actor deed before after e for mild bound rose unread unended) as (λ _. foremost (own_reasons actor deed (sight actor before.core)) ≡ Some e) [
      | inl h ↦ h
      | inr rest ↦ elim rest as (λ _. foremost (own_reasons actor deed (sight actor before.core)) ≡ Some e) [
        | inl h ↦ absurd (place h)
        | inr h ↦ absurd (nothing-held e (held_reasons actor deed before.core) held h)
      ]
    ]

module _ (trusted : Type 0) (places : Places) (actor : ℕ) where
  -- a step of the actor, where it stands among the turns
  pub record Stands (Is : Deed → Type 0) (turns : List Turn) (old new : Machine) : Type 0 where
    pub did : Event
    pub is : Is did.deed
    pub before : Machine
    pub after : Machine
    pub passes : Passes trusted places turns old new before
    pub made : Moves trusted places actor did before after
    pub first : Onward old before
    pub last : Onward after new

  passes-more : (t : Turn) (turns : List Turn) (old next new m : Machine) → Moves trusted places t.actor t.did old next → Passes trusted places turns next new m → Passes trusted places (t ∷ turns) old new m
  passes-more t turns old next new m made (front, back, parts, led, leads) = (t ∷ front, back, ap (λ (l : List Turn). t ∷ l) parts, (next, made, led), leads)

  onward-more : (a b c : Machine) → Onward a b → Onward b c → Onward a c
  onward-more a b c first second = record {
    counts = λ file. (let one = first.counts file in let two = second.counts file in omega (arith, one, two));
    since = (let one = first.since in let two = second.since in omega (arith, one, two));
  }

  stands-more : (Is : Deed → Type 0) (t : Turn) (turns : List Turn) (old next new : Machine) → Moves trusted places t.actor t.did old next → Stands Is turns next new → Stands Is (t ∷ turns) old new
  stands-more Is t turns old next new made s = record {
    did = s.did;
    is = s.is;
    before = s.before;
    after = s.after;
    passes = passes-more t turns old next new s.before made s.passes;
    made = s.made;
    first = onward-more old next s.before (moved trusted places t.actor t.did old next made) s.first;
    last = s.last;
  }

  stands-here : (Is : Deed → Type 0) (t : Turn) (turns : List Turn) (old next new : Machine) → t.actor ≡ actor → Is t.did.deed → Moves trusted places t.actor t.did old next → Turned trusted places turns next new → Stands Is (t ∷ turns) old new
  stands-here Is t turns old next new mine is made rest = record {
    did = t.did;
    is = is;
    before = old;
    after = next;
    passes = ([], t ∷ turns, refl, refl, (next, made, rest));
    made = subst (λ (a : ℕ). Moves trusted places a t.did old next) mine made;
    first = here old;
    last = turned_on trusted places turns next new rest;
  }

  pub stands : (Is : Deed → Type 0) (turns : List Turn) (old new : Machine) → Turned trusted places turns old new → MetBy Is (events_of actor turns) → Stands Is turns old new
  stands Is [] old new h met = absurd met
  stands Is (t ∷ turns) old new (next, made, rest) met =
      elim (t.actor == actor) as (λ b. (t.actor == actor) ≡ b → MetBy Is (if b then t.did ∷ events_of actor turns else events_of actor turns) → Stands Is (t ∷ turns) old new) [
        | true ↦ λ e m. elim m as (λ _. Stands Is (t ∷ turns) old new) [
          | inl is ↦ stands-here Is t turns old next new (eqb-true t.actor actor e) is made rest
          | inr later ↦ stands-more Is t turns old next new made (stands Is turns next new rest later)
        ]
        | false ↦ λ e m. stands-more Is t turns old next new made (stands Is turns next new rest m)
      ] refl met

  -- two of the actor's steps, of which the one comes among these and the other among those behind them
  pub two-of : (P Q : Deed → Type 0) (xs ys : List Event) (turns : List Turn) (old new : Machine) → events_of actor turns ≡ xs ++ ys → Turned trusted places turns old new → MetBy P xs → MetBy Q ys
      → Two trusted places actor P Q turns old new
  two-of P Q xs ys turns old new is ran first next =
      let s = split trusted places actor xs ys turns old new is ran in
      let a = stood trusted places actor P s.mine old s.mid s.led (subst (λ (l : List Event). MetBy P l) (sym s.own) first) in
      let b = stood trusted places actor Q s.others s.mid new s.leads (subst (λ (l : List Event). MetBy Q l) (sym s.rest) next) in
      let low = turned-number trusted places a.meets.back a.meets.after s.mid a.meets.leads in
      let high = turned-number trusted places b.meets.front s.mid b.meets.before b.meets.led in
      record {
        one = stood-within trusted places actor P [] s.mine s.others turns old old s.mid new s.parts refl s.leads a;
        two = stood-within trusted places actor Q s.mine s.others [] turns old s.mid new new (s.parts ∙ ap (λ (l : List Turn). s.mine ++ l) (sym (append-nil s.others))) s.led refl b;
        rises = omega (arith, low, high);
      }

  -- where it stood, with what is known of the counts
  abbrev pub stands-as : (Is : Deed → Type 0) (turns : List Turn) (old new : Machine) → Stood trusted places actor Is turns old new → Stands Is turns old new
  stands-as Is turns old new s = record {
    did = s.turn.did;
    is = s.is;
    before = s.meets.before;
    after = s.meets.after;
    passes = passes-before trusted places actor Is turns old new s;
    made = subst (λ (a : ℕ). Moves trusted places a s.turn.did s.meets.before s.meets.after) s.mine s.meets.made;
    first = turned_on trusted places s.meets.front old s.meets.before s.meets.led;
    last = turned_on trusted places s.meets.back s.meets.after new s.meets.leads;
  }

  -- a step that comes before the actor opens a ticket, and the one that spends this
  pub record Spent (D : Deed → Type 0) (c : Deed) (number : ℕ) (turns : List Turn) (old new : Machine) : Type 0 where
    pub one : Stood trusted places actor D turns old new
    pub two : Stood trusted places actor (λ x. x ≡ c) turns old new
    pub has : HasTicket trusted places actor number two.meets.before
    pub rises : (database one.meets.after).number ≤ (database two.meets.before).number

  pub spent-of : (D : Deed → Type 0) (number : ℕ) (front fills rest : List Event) (o c : Event) (turns : List Turn) (old new : Machine) → Turned trusted places turns old new → Opens number o.deed → AllByRecursion (λ e. Keeps e.deed) fills → MetBy D front
      → events_of actor turns ≡ front ++ (o ∷ (fills ++ (c ∷ rest))) → Spent D c.deed number turns old new
  spent-of D number front fills rest o c turns old new ran opens keep met is =
      let s = split trusted places actor front (o ∷ (fills ++ (c ∷ rest))) turns old new is ran in
      let a = stood trusted places actor D s.mine old s.mid s.led (subst (λ (l : List Event). MetBy D l) (sym s.own) met) in
      let b = opened-to trusted places actor number [] fills rest o c s.others s.mid new s.leads opens keep s.rest in
      let low = turned-number trusted places a.meets.back a.meets.after s.mid a.meets.leads in
      let high = turned-number trusted places b.0.meets.front s.mid b.0.meets.before b.0.meets.led in
      record {
        one = stood-within trusted places actor D [] s.mine s.others turns old old s.mid new s.parts refl s.leads a;
        two = stood-within trusted places actor (λ x. x ≡ c.deed) s.mine s.others [] turns old s.mid new new (s.parts ∙ ap (λ (l : List Turn). s.mine ++ l) (sym (append-nil s.others))) s.led refl b.0;
        has = b.1;
        rises = omega (arith, low, high);
      }

  -- and one that comes behind it
  pub record Followed (D : Deed → Type 0) (c : Deed) (number : ℕ) (Q : Deed → Type 0) (turns : List Turn) (old new : Machine) : Type 0 where
    pub spent : Spent D c number turns old new
    pub three : Stood trusted places actor Q turns old new
    pub rises : (database spent.two.meets.after).number ≤ (database three.meets.before).number

  pub followed-by : (D Q : Deed → Type 0) (number : ℕ) (front fills rest : List Event) (o c : Event) (turns : List Turn) (old new : Machine) → Turned trusted places turns old new → Opens number o.deed → AllByRecursion (λ e. Keeps e.deed) fills
      → MetBy D front → MetBy Q rest → events_of actor turns ≡ (front ++ (o ∷ (fills ++ (c ∷ [])))) ++ rest → Followed D c.deed number Q turns old new
  followed-by D Q number front fills rest o c turns old new ran opens keep met later is =
      let s = split trusted places actor (front ++ (o ∷ (fills ++ (c ∷ [])))) rest turns old new is ran in
      let t = spent-of D number front fills [] o c s.mine old s.mid s.led opens keep met s.own in
      let q = stood trusted places actor Q s.others s.mid new s.leads (subst (λ (l : List Event). MetBy Q l) (sym s.rest) later) in
      let low = turned-number trusted places t.two.meets.back t.two.meets.after s.mid t.two.meets.leads in
      let high = turned-number trusted places q.meets.front s.mid q.meets.before q.meets.led in
      record {
        spent = record {
          one = stood-within trusted places actor D [] s.mine s.others turns old old s.mid new s.parts refl s.leads t.one;
          two = stood-within trusted places actor (λ x. x ≡ c.deed) [] s.mine s.others turns old old s.mid new s.parts refl s.leads t.two;
          has = t.has;
          rises = t.rises;
        };
        three = stood-within trusted places actor Q s.mine s.others [] turns old s.mid new new (s.parts ∙ ap (λ (l : List Turn). s.mine ++ l) (sym (append-nil s.others))) s.led refl q;
        rises = omega (arith, low, high);
      }

  -- ---- a line

  module _ (turns : List Turn) (old new : Machine) (ran : Turned trusted places turns old new) (sounds : AreSound old.core) (unrisen : (file : ℕ) → RoseFrom old new file → ⊥) where
    abbrev Is : Machine → Type 0
    Is m = Passes trusted places turns old new m

    abbrev Brings : (Deed → Type 0) → (Inv → Bool) → Machine → Type 0
    Brings So is_there m = BringsTo trusted places actor turns old new So is_there m

    -- no fault has halted the hall, or its rows are sound
    passed-sound : (m : Machine) → Is m → AreSound m.core
    passed-sound m at = turned-sound trusted places at.0 old m at.3 sounds

    abbrev Opening : (pool size : ℕ) → Machine → Type 0
    Opening pool size m = OpensAt trusted places actor turns old new pool size m

    none-rose : (Q : Deed → Type 0) (s : Stands Q turns old new) (file : ℕ) → RoseAt s.before.counts s.after.counts file → ⊥
    none-rose Q s file rose = unrisen file (rose-within old s.before s.after new file s.first rose s.last)

    -- a question that is answered at each state isn't refused
    refused-none : {A : Type 0} (r : Result A Refusal) (x : A) (e : Refusal) → r ≡ Ok x → foremost (refusal_of r) ≡ Some e → ⊥
    refused-none r x e is h = (let odd : foremost [] ≡ Some e = subst (λ (s : Result _ Refusal). foremost (refusal_of s) ≡ Some e) is h in absurd cc)

    unasked : (q : Query) (e : Refusal) → halt_by e ≡ None → ((m : Machine) → Is m → (a : rows.Answer) × (answered q (database m) ≡ Ok a)) → MetBy (λ d. d ≡ Ask q (Err e)) (events_of actor turns) → ⊥
    unasked q e mild may met =
        let s = stands (λ d. d ≡ Ask q (Err e)) turns old new ran met in
        let told = may s.before s.passes in
        let for : IsRefusedFor places actor s.did.deed s.before s.after e = moved-for trusted places actor s.did s.before s.after e s.made (ap refusal s.is) in
        never places actor (Ask q (Err e)) s.before s.after e (subst (λ (d : Deed). IsRefusedFor places actor d s.before s.after e) s.is for) mild
        (λ h. refused-none (answered q (database s.before)) told.0 e told.1 h) (λ h. h) refl refl (none-rose (λ d. d ≡ Ask q (Err e)) s) (λ h. h) (λ h. h)

    -- a question that is refused, by which no run ends, is refused so by the database
    refused-so : {A : Type 0} (r : Result A Refusal) (e : Refusal) → foremost (refusal_of r) ≡ Some e → r ≡ Err e
    refused-so (Ok x) e h = absurd cc
    refused-so (Err f) e h = ap Err (same_Some f e h)

    asked-why : (q : Query) (e : Refusal) → halt_by e ≡ None → (s : Stands (λ d. d ≡ Ask q (Err e)) turns old new) → answered q (database s.before) ≡ Err e
    asked-why q e mild s =
        let for : IsRefusedFor places actor s.did.deed s.before s.after e = moved-for trusted places actor s.did s.before s.after e s.made (ap refusal s.is) in
        refused-so (answered q (database s.before)) e
        (only-own places actor (Ask q (Err e)) s.before s.after e (subst (λ (d : Deed). IsRefusedFor places actor d s.before s.after e) s.is for) mild (λ h. h) refl refl (none-rose (λ d. d ≡ Ask q (Err e)) s) (λ h. h) (λ h. h))

    -- a force isn't refused
    unforced : (e : Refusal) → halt_by e ≡ None → (s : Stands (λ d. d ≡ Force (Err e)) turns old new) → ⊥
    unforced e mild s =
        let for : IsRefusedFor places actor s.did.deed s.before s.after e = moved-for trusted places actor s.did s.before s.after e s.made (ap refusal s.is) in
        never places actor (Force (Err e)) s.before s.after e (subst (λ (d : Deed). IsRefusedFor places actor d s.before s.after e) s.is for) mild (λ h. cc) (λ h. h) refl refl
        (none-rose (λ d. d ≡ Force (Err e)) s) (λ h. h) (λ h. h)

    -- nor is a change
    plain-none : (b : Bool) (others : List Refusal) (e : Refusal) → b ≡ true → foremost others ≡ None → foremost (unless b bad_value ++ others) ≡ Some e → ⊥
    plain-none true others e is none h = (let odd : None ≡ Some e = sym none ∙ h in absurd cc)
    plain-none false others e is none h = absurd cc

    uncommitted : (what : Change) (e : Refusal) → is_plain what ≡ true → halt_by e ≡ None → ((m : Machine) → Is m → MayCommit actor what m) → (s : Stands (λ d. d ≡ Commit (Plain what) [] (Err e)) turns old new) → ⊥
    uncommitted what e plain mild may s =
        let for : IsRefusedFor places actor s.did.deed s.before s.after e = moved-for trusted places actor s.did s.before s.after e s.made (ap refusal s.is) in
        let free : MayCommit actor what s.before = may s.before s.passes in
        never places actor (Commit (Plain what) [] (Err e)) s.before s.after e (subst (λ (d : Deed). IsRefusedFor places actor d s.before s.after e) s.is for) mild
        (λ h. plain-none (is_plain what) (change_refused actor (Some (drawn what s.before)) (sight actor s.before.core)) e plain free.0 h) (λ h. h) free.1 refl (none-rose (λ d. d ≡ Commit (Plain what) [] (Err e)) s) (λ h. h) (λ h. h)

    -- ---- look-ups

    met-made : (d : Deed) (e : Refusal) (events : List Event) → refusal d ≡ Some e → halt_by e ≡ None → Made d events → MetBy (λ x. x ≡ d) events
    met-made d e events is mild (inl (n, one, listed)) = subst (λ (l : List Event). MetBy (λ x. x ≡ d) l) (sym one) (inl refl)
    met-made d e events is mild (inr (memory, none)) = absurd (not-memory e mild (same_Some e refused.Memory (sym is ∙ memory)))

    met-step : (d : Deed) (events : List Event) → IsStep d events → MetBy (λ x. x ≡ d) events
    met-step d events (n, one, listed) = subst (λ (l : List Event). MetBy (λ x. x ≡ d) l) (sym one) (inl refl)

    -- among all of the line's steps
    among : (Q : Deed → Type 0) (front own back : List Event) → events_of actor turns ≡ front ++ (own ++ back) → MetBy Q own → MetBy Q (events_of actor turns)
    among Q front own back is met = subst (λ (l : List Event). MetBy Q l) (sym is) (met-next front (own ++ back) Q (met-first own back Q met))

    all-behind : {A : Type 0} (P : A → Type 0) (xs ys : List A) → AllByRecursion P (xs ++ ys) → AllByRecursion P ys
    all-behind P [] ys h = h
    all-behind P (x ∷ xs) ys h = all-behind P xs ys h.1

    abbrev IsThere : Query → Type 0
    IsThere q = (m : Machine) → Is m → (a : rows.Answer) × (answered q (database m) ≡ Ok a)

    looked-none : (queries : List Query) (e : Refusal) (front own back : List Event) → events_of actor turns ≡ front ++ (own ++ back) → halt_by e ≡ None → AreThere Is queries → OrMemory (AsksAll queries) own (Err e) → ⊥
    looked-none queries e front own back cut mild may (inl (first, answers, inl (q, rest, same, (xs, ys, apart, asked, made)))) =
        let one : IsThere q = (all-behind IsThere first (q ∷ rest) (subst (λ (l : List Query). AllByRecursion IsThere l) same may)).0 in
        let met : MetBy (λ d. d ≡ Ask q (Err e)) ys = met-made (Ask q (Err e)) e ys refl mild made in
        let all : MetBy (λ d. d ≡ Ask q (Err e)) own = subst (λ (l : List Event). MetBy (λ d. d ≡ Ask q (Err e)) l) (sym apart) (met-next xs ys (λ d. d ≡ Ask q (Err e)) met) in
        unasked q e mild one (among (λ d. d ≡ Ask q (Err e)) front own back cut all)
    looked-none queries e front own back cut mild may (inl (first, answers, inr (rest, same, asked, wanted))) = not-memory e mild wanted
    looked-none queries e front own back cut mild may (inr (none, is)) = (let same : e ≡ refused.Memory = cc in not-memory e mild same)

    answer-in : (q : Query) (a : rows.Answer) (d : Deed) (m : Machine) → d ≡ Ask q (Ok a) → (seen : ℕ → List ℕ) (next : Machine) → Case places actor d (with_contents seen m) next → IsAnswer m.core.log_length q (database m) a
    answer-in q a d m is seen next h = (let g : Case places actor (Ask q (Ok a)) (with_contents seen m) next = subst (λ (x : Deed). Case places actor x (with_contents seen m) next) is h in g.1.0)

    answer-of : (q : Query) (a : rows.Answer) (s : Stands (λ d. d ≡ Ask q (Ok a)) turns old new) → IsAnswer s.before.core.log_length q (database s.before) a
    answer-of q a s = answer-in q a s.did.deed s.before s.is s.made.seen s.made.next s.made.made.step

    answer-at : (q : Query) (a : rows.Answer) → MetBy (λ d. d ≡ Ask q (Ok a)) (events_of actor turns) → (m : Machine) × Is m × IsAnswer m.core.log_length q (database m) a
    answer-at q a met = (let s = stands (λ d. d ≡ Ask q (Ok a)) turns old new ran met in (s.before, s.passes, answer-of q a s))

    looked-answers : (queries : List Query) (answers : List rows.Answer) (front own back : List Event) → events_of actor turns ≡ front ++ (own ++ back) → AskedOf queries answers own → AreAnswers Is queries answers
    looked-answers [] [] front own back cut h = tt
    looked-answers [] (a ∷ answers) front own back cut h = absurd h
    looked-answers (q ∷ queries) [] front own back cut h = absurd h
    looked-answers (q ∷ queries) (a ∷ answers) front own back cut (xs, ys, apart, step, next) =
        let all : events_of actor turns ≡ front ++ (xs ++ (ys ++ back)) = cut ∙ ap (λ (l : List Event). front ++ (l ++ back)) apart ∙ ap (λ (l : List Event). front ++ l) (append_assoc xs ys back) in
        let behind_it : events_of actor turns ≡ (front ++ xs) ++ (ys ++ back) = all ∙ sym (append_assoc front xs (ys ++ back)) in
        (answer-at q a (among (λ d. d ≡ Ask q (Ok a)) front xs (ys ++ back) all (met-step (Ask q (Ok a)) xs step)), looked-answers queries answers (front ++ xs) ys back behind_it next)

    -- ---- work

    met-both : (P Q : Deed → Type 0) (events : List Event) → AllByRecursion (λ e. P e.deed) events → MetBy Q events → MetBy (λ d. Q d × P d) events
    met-both P Q [] h met = absurd met
    met-both P Q (e ∷ events) h (inl is) = inl (is, h.0)
    met-both P Q (e ∷ events) h (inr later) = inr (met-both P Q events h.1 later)

    met-so : (P Q : Deed → Type 0) (events : List Event) → ((d : Deed) → P d → Q d) → MetBy P events → MetBy Q events
    met-so P Q [] so met = absurd met
    met-so P Q (e ∷ events) so (inl is) = inl (so e.deed is)
    met-so P Q (e ∷ events) so (inr later) = inr (met-so P Q events so later)

    -- of a change the commit was refused, or the force
    abbrev IsEither : Change → Refusal → Deed → Type 0
    IsEither what e d = (d ≡ Commit (Plain what) [] (Err e)) ⊎ (d ≡ Force (Err e))

    commit-as : (asked : Asked) (tickets : List ℕ) (answer : Result ℕ Refusal) (what : Change) (e : Refusal) → refusal_in answer ≡ Some e → asked ≡ Plain what → tickets ≡ [] → Commit asked tickets answer ≡ Commit (Plain what) [] (Err e)
    commit-as asked tickets (Ok x) what e r a t = absurd cc
    commit-as asked tickets (Err f) what e r a t = (let same : f ≡ e = same_Some f e r in cc)

    force-as : (answer : Result ℕ Refusal) (e : Refusal) → refusal_in answer ≡ Some e → Force answer ≡ Force (Err e)
    force-as (Ok x) e r = absurd cc
    force-as (Err f) e r = (let same : f ≡ e = same_Some f e r in cc)

    either-of : (what : Change) (e : Refusal) (d : Deed) → (refusal d ≡ Some e) × IsOfChange what d → IsEither what e d
    either-of what e (Commit asked tickets answer) (r, is) = inl (commit-as asked tickets answer what e r is.0 is.1)
    either-of what e (Force answer) (r, is) = inr (force-as answer e r)
    either-of what e d (r, is) = absurd is

    neither : (what : Change) (e : Refusal) → is_plain what ≡ true → halt_by e ≡ None → ((m : Machine) → Is m → MayCommit actor what m) → MetBy (IsEither what e) (events_of actor turns) → ⊥
    neither what e plain mild may met =
        let s = stands (IsEither what e) turns old new ran met in
        elim s.is as (λ _. ⊥) [
          | inl is ↦ uncommitted what e plain mild may (as-one (λ d. d ≡ Commit (Plain what) [] (Err e)) s is)
          | inr is ↦ unforced e mild (as-one (λ d. d ≡ Force (Err e)) s is)
        ]
      where
        as-one : (Q : Deed → Type 0) (s : Stands (IsEither what e) turns old new) → Q s.did.deed → Stands Q turns old new
        as-one Q s is = record { did = s.did; is = is; before = s.before; after = s.after; passes = s.passes; made = s.made; first = s.first; last = s.last }

    unchanged : (what : Change) (e : Refusal) (front own back : List Event) → events_of actor turns ≡ front ++ (own ++ back) → is_plain what ≡ true → halt_by e ≡ None → ((m : Machine) → Is m → MayCommit actor what m)
        → Changing what own (Err e) → ⊥
    unchanged what e front own back cut plain mild may h =
        elim h.cause as (λ _. ⊥) [
          | inl memory ↦ not-memory e mild memory
          | inr caused ↦
              let both = met-both (IsOfChange what) (λ d. refusal d ≡ Some e) own h.only caused.1 in
              neither what e plain mild may (among (IsEither what e) front own back cut (met-so (λ d. (refusal d ≡ Some e) × IsOfChange what d) (IsEither what e) own (either-of what e) both))
        ]

    -- VALIDATE
    validated-none : (r : Result (Unit {0}) Refusal) (e : Refusal) → r ≡ Ok tt → r ≡ Err e → ⊥
    validated-none r e a b = (let odd : ◌≡◌ {A = Result (Unit {0}) Refusal} (Ok tt) (Err e) = sym a ∙ b in cc)

    invalid : (set : NamedSet) (e : Refusal) (front own back : List Event) → events_of actor turns ≡ front ++ (own ++ back) → halt_by e ≡ None → ((m : Machine) → Is m → validated set (database m) ≡ Ok tt) → Validates set own (Err e) → ⊥
    invalid set e front own back cut mild may (answer, inr (none, wanted), is) =
        let same : ◌≡◌ {A = SaidOf} (Err e) (Err refused.Memory) = is ∙ ap validated_by wanted in
        not-memory e mild cc
    invalid set e front own back cut mild may (Err f, inl made, is) =
        let same : f ≡ e = cc in
        unasked (query.Validated set.domain set.set) f (subst (λ (x : Refusal). halt_by x ≡ None) (sym same) mild) (λ m here_it. (_, refl))
        (among (λ d. d ≡ Ask (query.Validated set.domain set.set) (Err f)) front own back cut (met-made (Ask (query.Validated set.domain set.set) (Err f)) f own refl (subst (λ (x : Refusal). halt_by x ≡ None) (sym same) mild) made))
    invalid set e front own back cut mild may (Ok a, inl (inl step), is) =
        let at = answer-at (query.Validated set.domain set.set) a (among (λ d. d ≡ Ask (query.Validated set.domain set.set) (Ok a)) front own back cut (met-step (Ask (query.Validated set.domain set.set) (Ok a)) own step)) in
        let told : answered (query.Validated set.domain set.set) (database at.0) ≡ Ok at.2.0 = at.2.1 in
        let same : a ≡ at.2.0 = at.2.2 in
        let shown : SaidOf = validated_by (answered (query.Validated set.domain set.set) (database at.0)) in
        let all : ◌≡◌ {A = SaidOf} (Err e) (on_ok (λ done. Said Done) (validated set (database at.0))) =
        is ∙ ap (λ (x : rows.Answer). validated_by (Ok x)) same ∙ ap validated_by (sym told) ∙ validity-is (after (policy.Activate set.domain set.set) (database at.0).domains) in
        let odd : ◌≡◌ {A = SaidOf} (Err e) (Ok (Said Done)) = all ∙ ap (λ (r : Result (Unit {0}) Refusal). on_ok (λ done. Said Done) r) (may at.0 at.1) in
        cc
    invalid set e front own back cut mild may (Ok a, inl (inr (memory, none)), is) = absurd cc

    -- ---- rows

    gives-err : {A : Type 0} (Calls : List Event → Result A Refusal → Type 0) (shape : A → Outcome) (events : List Event) (e : Refusal) → Gives Calls shape events (Err e) → Calls events (Err e)
    gives-err Calls shape events e (Ok x, calls, is) = absurd cc
    gives-err Calls shape events e (Err f, calls, is) = (let same : f ≡ e = cc in subst (λ (x : Refusal). Calls events (Err x)) same calls)

    -- rows that are answered at each state: they are the database's, and the question isn't refused
    rows-told : (q : Query) (m : Machine) (x : reply.Rows) → rows_of q (database m) ≡ Ok x → (a : rows.Answer) × (answered q (database m) ≡ Ok a)
    rows-told q m x is = (record { n = (database m).number; today = (database m).today; rows = x }, ap (λ (r : Result reply.Rows Refusal). on_ok (λ (y : reply.Rows). record { n = (database m).number; today = (database m).today; rows = y }) r) is)

    told-same : (log : ℕ) (q : Query) (v : Inv) (a : rows.Answer) → is_log q ≡ false → IsAnswer log q v a → answered q v ≡ Ok a
    told-same log q v a un h = told-as log q v a un h

    rows-of-step : (q : Query) (a : rows.Answer) → is_log q ≡ false → (s : Stands (λ d. d ≡ Ask q (Ok a)) turns old new) → rows_of q (database s.before) ≡ Ok a.rows
    rows-of-step q a un s =
        (rows-of-told (rows_of q (database s.before)) (database s.before).number (database s.before).today a (told-same s.before.core.log_length q (database s.before) a un (answer-of q a s))).0

    rows-at : (q : Query) (a : rows.Answer) → is_log q ≡ false → MetBy (λ d. d ≡ Ask q (Ok a)) (events_of actor turns) → (m : Machine) × Is m × (rows_of q (database m) ≡ Ok a.rows)
    rows-at q a un met = (let s = stands (λ d. d ≡ Ask q (Ok a)) turns old new ran met in (s.before, s.passes, rows-of-step q a un s))

    -- ---- GET

    abbrev path_query : FileGet → Query
    path_query g = query.Path g.node g.filespace g.path

    path-told : (g : FileGet) (line : VersionLine) (m : Machine) → IsReadable g line (database m) → (a : rows.Answer) × (answered (path_query g) (database m) ≡ Ok a)
    path-told g line m r = rows-told (path_query g) m (replies.Versions r.0) (ap (λ (x : Result (List VersionLine) Refusal). on_ok replies.Versions x) r.1)

    none-some : (o : Option VersionLine) (line : VersionLine) → o ≡ None → o ≡ Some line → ⊥
    none-some o line a b = (let odd : None ≡ Some line = sym a ∙ b in cc)

    -- the versions that were answered have this one for the active
    lines-at : (g : FileGet) (line : VersionLine) (a : rows.Answer) (lines : List VersionLine) → ((m : Machine) → Is m → IsReadable g line (database m)) → a.rows ≡ replies.Versions lines → MetBy (λ d. d ≡ Ask (path_query g) (Ok a)) (events_of actor turns)
        → active_line lines ≡ Some line
    lines-at g line a lines may is met =
        let at = rows-at (path_query g) a refl met in
        let r = may at.0 at.1 in
        let told : path_versions_of g.node g.filespace g.path (database at.0) ≡ Ok lines = ok-of replies.Versions versions_in (λ x. refl) (path_versions_of g.node g.filespace g.path (database at.0)) lines (at.2 ∙ ap (λ (x : reply.Rows). Ok x) is) in
        let both : ◌≡◌ {A = Result (List VersionLine) Refusal} (Ok r.0) (Ok lines) = sym r.1 ∙ told in
        let same : r.0 ≡ lines = cc in
        subst (λ (l : List VersionLine). active_line l ≡ Some line) same r.2

    met-asks : {A : Type 0} (q : Query) (kind : A → reply.Rows) (e : Refusal) (own : List Event) → halt_by e ≡ None → Asks q kind own (Err e) → MetBy (λ d. d ≡ Ask q (Err e)) own
    met-asks q kind e own mild (inl (why, same, made)) =
        let is : e ≡ why = limited-same why e (has_number (10 ∷ 40 ∷ 41 ∷ []) why) same mild in
        met-made (Ask q (Err e)) e own refl mild (subst (λ (x : Refusal). Made (Ask q (Err x)) own) (sym is) made)
    met-asks q kind e own mild (inr (answer, same, made)) = absurd (not-memory e mild same)

    unchosen : (g : FileGet) (e : Refusal) (front own back : List Event) → events_of actor turns ≡ front ++ (own ++ back) → halt_by e ≡ None → MayGet Is g → Chooses g.node g.filespace g.path own (Err e) → ⊥
    unchosen g e front own back cut mild (line, may) (inl asked) =
        unasked (path_query g) e mild (λ m there. path-told g line m (may m there)) (among (λ d. d ≡ Ask (path_query g) (Err e)) front own back cut (met-asks (path_query g) replies.Versions e own mild asked))
    unchosen g e front own back cut mild (line, may) (inr (lines, (a, is, inl step), none, said)) =
        none-some (active_line lines) line none (lines-at g line a lines may is (among (λ d. d ≡ Ask (path_query g) (Ok a)) front own back cut (met-step (Ask (path_query g) (Ok a)) own step)))
    unchosen g e front own back cut mild (line, may) (inr (lines, (a, is, inr (memory, empty)), none, said)) = absurd cc

    -- reading is refused as no copy may be read, or the version went
    abbrev gone_or_lost : List ℕ
    gone_or_lost = 23 ∷ 24 ∷ 40 ∷ 41 ∷ []

    abbrev IsNot : Refusal → Type 0
    IsNot e = has_number gone_or_lost e ≡ false

    read-there : (j : Journal) (object : ℕ) (kept : Digest) (at wanted : ℕ) (found : Option Version) (w : Version) → found ≡ Some w
        → AllByRecursion IsNot (unless (nat_le wanted most_bytes) bad_value ++ of_version j object (λ x. unless (has_copy_in 0 x) refused.NotFound ++ (unless (nat_le at x.size) bad_value ++ unless (is_same_name x.digest.0 kept.0) (refused.DigestDiffers x.digest kept))) found)
    read-there j object kept at wanted None w is = absurd cc
    read-there j object kept at wanted (Some x) w is =
        append-all IsNot (unless (nat_le wanted most_bytes) bad_value) _ (unless-all IsNot (nat_le wanted most_bytes) bad_value refl)
        (append-all IsNot (unless (has_copy_in 0 x) refused.NotFound) _ (unless-all IsNot (has_copy_in 0 x) refused.NotFound refl)
        (append-all IsNot (unless (nat_le at x.size) bad_value) _ (unless-all IsNot (nat_le at x.size) bad_value refl)
        (unless-all IsNot (is_same_name x.digest.0 kept.0) (refused.DigestDiffers x.digest kept) refl)))

    lost-never : (before last : Machine) (offset count : ℕ) (found : Option Version) (w : Version) (copy : CopyRow) → found ≡ Some w → ((file : ℕ) → RoseAt before.counts last.counts file → ⊥) → Contains w.copies copy → can_read copy (database before) ≡ true
        → IsLostFor before last 0 offset count found → ⊥
    lost-never before last offset count None w copy is none has readable lost = lost
    lost-never before last offset count (Some x) w copy is none has readable lost =
        let same : x ≡ w = same_Some x w is in
        let all : AllByRecursion (IsCopyLost (RoseAt before.counts last.counts) (inventory before.core) offset count) w.copies =
        subst (λ (y : Version). AllByRecursion (IsCopyLost (RoseAt before.counts last.counts) (inventory before.core) offset count) y.copies) same lost in
        not-lost (RoseAt before.counts last.counts) (inventory before.core) offset count copy none readable
        (contained_holds (IsCopyLost (RoseAt before.counts last.counts) (inventory before.core) offset count) w.copies copy has all)

    is-limited : (b : Bool) (why e : Refusal) → has_number gone_or_lost why ≡ b → e ≡ (if b then why else refused.Memory) → halt_by e ≡ None → has_number gone_or_lost e ≡ true
    is-limited true why e h is mild = subst (λ (x : Refusal). has_number gone_or_lost x ≡ true) (sym is) h
    is-limited false why e h is mild = absurd (not-memory e mild is)

    unpieced : (line : VersionLine) (kept : Digest) (g : FileGet) (at wanted : ℕ) (e : Refusal) → halt_by e ≡ None → has_number gone_or_lost e ≡ true → ((m : Machine) → Is m → IsReadable g line (database m))
        → MetBy (λ d. d ≡ ReadPiece line.object kept 0 at wanted (Err e)) (events_of actor turns) → ⊥
    unpieced line kept g at wanted e mild listed may met =
        let s = stands (λ d. d ≡ ReadPiece line.object kept 0 at wanted (Err e)) turns old new ran met in
        let for : IsRefusedFor places actor s.did.deed s.before s.after e = moved-for trusted places actor s.did s.before s.after e s.made (ap refusal s.is) in
        let r = may s.before s.passes in
        never places actor (ReadPiece line.object kept 0 at wanted (Err e)) s.before s.after e (subst (λ (d : Deed). IsRefusedFor places actor d s.before s.after e) s.is for) mild
        (λ h. true≢false (sym listed ∙ foremost-all IsNot (read_refused line.object kept 0 at wanted (sight actor s.before.core))
        (read-there (sight actor s.before.core).journal line.object kept at wanted (version line.object (database s.before)) r.3 r.4) e h))
        (λ h. h) refl refl (none-rose (λ d. d ≡ ReadPiece line.object kept 0 at wanted (Err e)) s)
        (λ h. lost-never s.before s.after at (read_count line.object wanted at (inventory s.before.core)) (version line.object (database s.before)) r.3 r.5 r.4 (none-rose (λ d. d ≡ ReadPiece line.object kept 0 at wanted (Err e)) s) r.6 r.7 h) (λ h. h)

    unmissed : (line : VersionLine) (g : FileGet) (at : ℕ) (e : Refusal) (front own back : List Event) → events_of actor turns ≡ front ++ (own ++ back) → halt_by e ≡ None → ((m : Machine) → Is m → IsReadable g line (database m))
        → Misses (stored_of line) at e own → ⊥
    unmissed line g at e front own back cut mild may (inl (wanted, why, is, made)) =
        let same : e ≡ why = limited-same why e (has_number gone_or_lost why) is mild in
        unpieced line line.digest g at wanted e mild (is-limited (has_number gone_or_lost why) why e refl is mild) may
        (among (λ d. d ≡ ReadPiece line.object line.digest 0 at wanted (Err e)) front own back cut
        (met-made (ReadPiece line.object line.digest 0 at wanted (Err e)) e own refl mild (subst (λ (x : Refusal). Made (ReadPiece line.object line.digest 0 at wanted (Err x)) own) (sym same) made)))
    unmissed line g at e front own back cut mild may (inr (inl (wanted, is, made))) = not-memory e mild is
    unmissed line g at e front own back cut mild may (inr (inr (on, is))) = not-memory e mild is

    ungot : (g : FileGet) (e : Refusal) (front own back : List Event) → events_of actor turns ≡ front ++ (own ++ back) → halt_by e ≡ None → MayGet Is g → Gets g.node g.filespace g.path own (Err e) → ⊥
    ungot g e front own back cut mild may (inl chooses) = unchosen g e front own back cut mild may chooses
    ungot g e front own back cut mild (line, may) (inr (s, (xs, ys, apart, (lines, active, (a, is, inl step), found, stored), (bytes, less, (us, vs, cut_in, on, misses))))) =
        let first : events_of actor turns ≡ front ++ (xs ++ (ys ++ back)) = cut ∙ ap (λ (l : List Event). front ++ (l ++ back)) apart ∙ ap (λ (l : List Event). front ++ l) (append_assoc xs ys back) in
        let later : events_of actor turns ≡ ((front ++ xs) ++ us) ++ (vs ++ back) =
        first ∙ sym (append_assoc front xs (ys ++ back)) ∙ ap (λ (l : List Event). (front ++ xs) ++ (l ++ back)) cut_in ∙ ap (λ (l : List Event). (front ++ xs) ++ l) (append_assoc us vs back) ∙ sym (append_assoc (front ++ xs) us (vs ++ back)) in
        let now : active_line lines ≡ Some line = lines-at g line a lines may is (among (λ d. d ≡ Ask (path_query g) (Ok a)) front xs (ys ++ back) first (met-step (Ask (path_query g) (Ok a)) xs step)) in
        let one : active ≡ line = same_Some active line (sym found ∙ now) in
        unmissed line g (length bytes) e ((front ++ xs) ++ us) vs back later mild may (subst (λ (t : Stored). Misses t (length bytes) e vs) (stored ∙ ap stored_of one) misses)
    ungot g e front own back cut mild (line, may) (inr (s, (xs, ys, apart, (lines, active, (a, is, inr (memory, none)), found, stored), reads))) = absurd cc

    ungot-or : (g : FileGet) (e : Refusal) (front own back : List Event) → events_of actor turns ≡ front ++ (own ++ back) → halt_by e ≡ None → MayGet Is g → OrMemory (Gets g.node g.filespace g.path) own (Err e) → ⊥
    ungot-or g e front own back cut mild may (inl h) = ungot g e front own back cut mild may h
    ungot-or g e front own back cut mild may (inr (none, is)) = (let same : e ≡ refused.Memory = cc in not-memory e mild same)

    -- ---- DSMC RESTORE

    abbrev versions_query : FilesRestore → Query
    versions_query r = query.Versions r.node r.filespace

    which-not : (r : FilesRestore) (v : Inv) (e : Refusal) → MayGive r v → which_of r.wanted ≡ Err e → ⊥
    which-not r v e (lines, (which, of, versions, are, is), there) refused = absurd cc

    versions-told : (r : FilesRestore) (m : Machine) → MayGive r (database m) → (a : rows.Answer) × (answered (versions_query r) (database m) ≡ Ok a)
    versions-told r m (lines, (which, of, versions, are, is), there) = rows-told (versions_query r) m (replies.Versions versions) (ap (λ (x : Result (List VersionLine) Refusal). on_ok replies.Versions x) are)

    met-versions : (r : FilesRestore) (e : Refusal) (own : List Event) → halt_by e ≡ None → restoring.Asks r.node r.filespace own (Err e) → MetBy (λ d. d ≡ Ask (versions_query r) (Err e)) own
    met-versions r e own mild (inl (why, same, made)) =
        let is : e ≡ why = limited-same why e (has_number (10 ∷ 40 ∷ 41 ∷ []) why) same mild in
        met-made (Ask (versions_query r) (Err e)) e own refl mild (subst (λ (x : Refusal). Made (Ask (versions_query r) (Err x)) own) (sym is) made)
    met-versions r e own mild (inr (answer, same, made)) = absurd (not-memory e mild same)

    unversioned : (r : FilesRestore) (e : Refusal) (front own back : List Event) → events_of actor turns ≡ front ++ (own ++ back) → halt_by e ≡ None → ((m : Machine) → Is m → MayGive r (database m)) → restoring.Asks r.node r.filespace own (Err e) → ⊥
    unversioned r e front own back cut mild may h =
        unasked (versions_query r) e mild (λ m there. versions-told r m (may m there)) (among (λ d. d ≡ Ask (versions_query r) (Err e)) front own back cut (met-versions r e own mild h))

    absent-not : (r : FilesRestore) (v : Inv) (which : Which) (lines : List VersionLine) (found : List RestoreLine) → which_of r.wanted ≡ Ok which → versions_of r.node r.filespace v ≡ Ok lines → found ≡ chosen which lines → is_absent r.wanted found ≡ true
        → MayGive r v → ⊥
    absent-not r v which lines found of are is none (wanted, (other, also, others, these, so), there) =
        let first : which ≡ other = cc in
        let second : lines ≡ others = cc in
        let same : found ≡ wanted = is ∙ ap (λ (w : Which). chosen w lines) first ∙ ap (λ (l : List VersionLine). chosen other l) second ∙ sym so in
        true≢false (sym none ∙ ap (is_absent r.wanted) same ∙ there)

    last-numbers : (e : Refusal) → has_number (40 ∷ 41 ∷ 50 ∷ []) e ≡ true → halt_by e ≡ None → ⊥
    last-numbers (refused.LogFault file count) h mild = not-log file count mild
    last-numbers refused.RunFull h mild = absurd cc
    last-numbers refused.Memory h mild = not-memory refused.Memory mild refl
    last-numbers e h mild = absurd cc

    stopping-ends : (b : Bool) (f e : Refusal) → has_number (40 ∷ 41 ∷ 50 ∷ []) f ≡ b → e ≡ (if b then f else refused.Memory) → halt_by e ≡ None → ⊥
    stopping-ends true f e h is mild = last-numbers e (subst (λ (x : Refusal). has_number (40 ∷ 41 ∷ 50 ∷ []) x ≡ true) (sym is) h) mild
    stopping-ends false f e h is mild = not-memory e mild is

    given-ends : (b : Bool) (f e : Refusal) → ◌≡◌ {A = Result Gave Refusal} (Err e) (if b then Ok (gave.Failed f) else Err (stopping f)) → halt_by e ≡ None → ⊥
    given-ends true f e is mild = absurd cc
    given-ends false f e is mild = (let same : e ≡ stopping f = cc in stopping-ends (has_number (40 ∷ 41 ∷ 50 ∷ []) f) f e refl same mild)

    object-ends : (s : Stored) (path : List ℕ) (before after_it : ℕ) (from to : Option Files) (e : Refusal) (own : List Event) → halt_by e ≡ None → RestoringOne s path before after_it from to own (Err e) → ⊥
    object-ends s path before after_it from to e own mild r = elim r.order as (λ _. ⊥) [
      | inl all ↦ (let odd = all.1 in absurd cc)
      | inr broken ↦ given-ends (is_unrestored broken.0) broken.0 e broken.2 mild
    ]

    next-ends : (lines : List RestoreLine) (before after_it : ℕ) (from to : Option Files) (e : Refusal) (own : List Event) → halt_by e ≡ None → EndsAt lines before after_it from to e own → ⊥
    next-ends [] before after_it from to e own mild h = h
    next-ends (l ∷ lines) before after_it from to e own mild h = object-ends l.stored l.path before after_it from to e own mild h

    stops-never : (lines : List RestoreLine) (before after_it : ℕ) (from to : Option Files) (e : Refusal) (own : List Event) → halt_by e ≡ None → Stops lines before after_it from to e own → ⊥
    stops-never lines before after_it from to e own mild h = elim h.ends as (λ _. ⊥) [
      | inl wanted ↦ not-memory e mild wanted.0
      | inr ended ↦ next-ends h.back h.count after_it h.between to e h.ys mild ended
    ]

    unrestored : (r : FilesRestore) (e : Refusal) (before after_it : Known) (front own back : List Event) → events_of actor turns ≡ front ++ (own ++ back) → halt_by e ≡ None → ((m : Machine) → Is m → MayGive r (database m))
        → GivesWanted r before after_it own (Err e) → ⊥
    unrestored r e before after_it front own back cut mild may (inr (f, inl wanted, none, same, is)) = (let one : e ≡ f = cc in not-memory e mild (one ∙ wanted))
    unrestored r e before after_it front own back cut mild may (inr (f, inr refused, none, same, is)) = which-not r (database old) f (may old ([], turns, refl, refl, ran)) refused
    unrestored r e before after_it front own back cut mild may (inl (which, of, (Err f, restores, is))) = (let one : f ≡ e = cc in unrestored-so which f restores (subst (λ (x : Refusal). halt_by x ≡ None) (sym one) mild)) where
      unrestored-so : (which : Which) (f : Refusal) → Restores r.node r.filespace which before.faults after_it.faults before.files after_it.files own (Err f) → halt_by f ≡ None → ⊥
      unrestored-so which f (inl (inl asked_it, x, y)) mild_f = unversioned r f front own back cut mild_f may asked_it
      unrestored-so which f (inl (inr (lines, asked_it, wanted), x, y)) mild_f = not-memory f mild_f wanted
      unrestored-so which f (inr (lines, (xs, ys, apart, begins, stops))) mild_f = stops-never lines before.faults after_it.faults before.files after_it.files f ys mild_f stops
    unrestored r e before after_it front own back cut mild may (inl (which, of, (Ok x, (xs, ys, apart, (lines, (a, rows_are, made), chosen_are), gives), is))) =
        absent-of (is_absent r.wanted x.lines) refl is
      where
        first : events_of actor turns ≡ front ++ (xs ++ (ys ++ back))
        first = cut ∙ ap (λ (l : List Event). front ++ (l ++ back)) apart ∙ ap (λ (l : List Event). front ++ l) (append_assoc xs ys back)

        asked-at : Made (Ask (versions_query r) (Ok a)) xs → (m : Machine) × Is m × (rows_of (versions_query r) (database m) ≡ Ok a.rows)
        asked-at (inl step) = rows-at (versions_query r) a refl (among (λ d. d ≡ Ask (versions_query r) (Ok a)) front xs (ys ++ back) first (met-step (Ask (versions_query r) (Ok a)) xs step))
        asked-at (inr (memory, none)) = absurd cc

        absent-of : (b : Bool) → is_absent r.wanted x.lines ≡ b → ◌≡◌ {A = SaidOf} (Err e) (if b then Err refused.NotFound else Ok (came.Restored x)) → ⊥
        absent-of false so same = absurd cc
        absent-of true so same =
            let at = asked-at made in
            let told : versions_of r.node r.filespace (database at.0) ≡ Ok lines = ok-of replies.Versions versions_in (λ y. refl) (versions_of r.node r.filespace (database at.0)) lines (at.2 ∙ ap (λ (y : reply.Rows). Ok y) rows_are) in
            absent-not r (database at.0) which lines x.lines of told chosen_are so (may at.0 at.1)

    -- WRITE and ERASE
    -- ---- DSMC INCREMENTAL

    -- others hold what it needs
    abbrev IsBusy : Refusal → Type 0
    IsBusy e = (h : Holder) × (e ≡ refused.Busy h)

    abbrev IsBusyOn : OnTree → Refusal → Type 0
    IsBusyOn (back_up i) e = IsBusy e
    IsBusyOn work e = ⊥

    abbrev IsBusyBy : Own → Refusal → Type 0
    IsBusyBy (on_tree work) e = IsBusyOn work e
    IsBusyBy checkpoint e = IsBusy e
    IsBusyBy empty_filespace e = IsFilled Is Brings empty_filespace (events_of actor turns) e
    IsBusyBy empty_volume e = IsBusy e ⊎ IsFilled Is Brings empty_volume (events_of actor turns) e
    IsBusyBy (moves mover) e = IsBusy e
    IsBusyBy back_up_pool e = IsBusy e
    IsBusyBy back_up_database e = IsBusy e
    IsBusyBy back_up_since e = IsBusy e
    IsBusyBy (delete_history to) e = IsBusy e
    IsBusyBy (put p) e = IsBusy e
    IsBusyBy own e = ⊥

    abbrev EndsOrBusy : Refusal → Type 0
    EndsOrBusy e = Ends e ⊎ IsBusy e

    waits-end : (o : Option Holder) (own : List Event) (e : Refusal) → AwaitsOne o own (Err e) → EndsOrBusy e
    waits-end None own e (none, is) = absurd cc
    waits-end (Some (holder.Unforced number)) own e (why, is, (answer, forced_so, made)) = inl (subst Ends (sym is) (unwaited-ends why (forced-ends why answer own made forced_so)))
    waits-end (Some (holder.Ticket number)) own e (why, is, (none, inl same)) = absurd cc
    waits-end (Some (holder.Ticket number)) own e (why, is, (none, inr (inl same))) =
        let one : why ≡ refused.Busy (holder.Ticket number) = cc in inr (holder.Ticket number, is ∙ ap unwaited one)
    waits-end (Some (holder.Ticket number)) own e (why, is, (none, inr (inr same))) = (let one : why ≡ refused.Memory = cc in inl (subst Ends (sym (is ∙ ap unwaited one)) refl))
    waits-end (Some (holder.Image other)) own e (why, is, (none, inl same)) = absurd cc
    waits-end (Some (holder.Image other)) own e (why, is, (none, inr (inl same))) =
        let one : why ≡ refused.Busy (holder.Image other) = cc in inr (holder.Image other, is ∙ ap unwaited one)
    waits-end (Some (holder.Image other)) own e (why, is, (none, inr (inr same))) = (let one : why ≡ refused.Memory = cc in inl (subst Ends (sym (is ∙ ap unwaited one)) refl))

    none-ends : (rules : Rules) (told : Option Files) (filespace : ℕ) (lines : List SendLine) (before after_it : ℕ) (own : List Event) (e : Refusal) → SendsNone rules told filespace lines before after_it own e → EndsOrBusy e
    none-ends rules told filespace lines before after_it own e (inl batch) = inl (batch-ends rules told filespace lines before after_it own e batch)
    none-ends rules told filespace lines before after_it own e (inr (inl (b, batch, memory))) = inl (subst Ends (sym memory) refl)
    none-ends rules told filespace lines before after_it own e (inr (inr (b, (xs, ys, apart, batch, awaits)))) = waits-end (waiting false b.came) ys e awaits

    sends-end : (rules : Rules) (told : Option Files) (filespace : ℕ) (lines : List SendLine) (before after_it : ℕ) (own : List Event) (e : Refusal) → SendsAll rules told filespace lines before after_it own (Err e) → EndsOrBusy e
    sends-end rules told filespace lines before after_it own e (number, rest, outs, count, (xs, ys, apart, rounds, inl m)) = inl (subst Ends (sym m.0) refl)
    sends-end rules told filespace lines before after_it own e (number, rest, outs, count, (xs, ys, apart, rounds, inr none)) = none-ends rules told filespace rest count after_it ys e none

    carries-end : (filespace : ℕ) (b : Begun) (told : Option Files) (before after_it : ℕ) (own : List Event) (e : Refusal) → CarriesOut filespace b told before after_it own (Err e) → EndsOrBusy e
    carries-end filespace b told before after_it own e (inl (sent, (xs, ys, apart, sends, lists))) = inl (lists-end filespace b sent ys e lists)
    carries-end filespace b told before after_it own e (inr (why, sends, is)) =
        let one : e ≡ why = cc in subst EndsOrBusy (sym one) (sends-end b.classes told filespace b.plan.send before after_it own why sends.order)

    rows-there : (q : Query) (e : Refusal) (front own back : List Event) → events_of actor turns ≡ front ++ (own ++ back) → halt_by e ≡ None → ((m : Machine) → Is m → (x : reply.Rows) × (rows_of q (database m) ≡ Ok x)) → MetBy (λ d. d ≡ Ask q (Err e)) own → ⊥
    rows-there q e front own back cut mild may met =
        unasked q e mild (λ m there. (let x = may m there in rows-told q m x.0 x.1)) (among (λ d. d ≡ Ask q (Err e)) front own back cut met)

    met-unanswered : (q : Query) (e : Refusal) (own : List Event) → halt_by e ≡ None → Unanswered q own e → MetBy (λ d. d ≡ Ask q (Err e)) own
    met-unanswered q e own mild (inl (memory, none)) = absurd (not-memory e mild memory)
    met-unanswered q e own mild (inr (inl (answer, memory, made))) = absurd (not-memory e mild memory)
    met-unanswered q e own mild (inr (inr (why, same, made))) =
        let is : e ≡ why = limited-same why e (has_number (10 ∷ 40 ∷ 41 ∷ []) why) same mild in
        met-made (Ask q (Err e)) e own refl mild (subst (λ (x : Refusal). Made (Ask q (Err x)) own) (sym is) made)

    rows-same : (r : Result reply.Rows Refusal) (x y : reply.Rows) → r ≡ Ok x → r ≡ Ok y → x ≡ y
    rows-same r x y a b = (let both : ◌≡◌ {A = Result reply.Rows Refusal} (Ok x) (Ok y) = sym a ∙ b in cc)

    abbrev AreHome : IncrementalBackup → ℕ → Type 0
    AreHome i node = (m : Machine) → Is m → IsHome actor i.node i.filespace node m

    -- the versions of the node's filespace are those of its number, or it isn't there
    versions-asked : (i : IncrementalBackup) (node : ℕ) (m : Machine) → IsHome actor i.node i.filespace node m
        → versions_of i.node i.filespace (database m) ≡ on_ok (λ n. versions_at n (database m)) (if_found (filespace_named node i.filespace (database m).clients.filespaces) Ok)
    versions-asked i node m home = ap (λ (r : Result ℕ Refusal). on_ok (λ n. versions_at n (database m)) r) (asked-there i.node i.filespace node (database m).clients home.0)

    -- they are asked in vain only where it isn't there
    versions-missing : (i : IncrementalBackup) (node : ℕ) (m : Machine) (e : Refusal) → IsHome actor i.node i.filespace node m → answered (query.Versions i.node i.filespace) (database m) ≡ Err e → e ≡ refused.NotFound
    versions-missing i node m e home h =
        asked-missing i.node i.filespace (database m).clients e
        (err-of (λ n. versions_at n (database m)) (filespace_asked i.node i.filespace (database m).clients) e
        (err-of replies.Versions (versions_of i.node i.filespace (database m)) e
        (err-of (λ (x : reply.Rows). record { n = (database m).number; today = (database m).today; rows = x }) (rows_of (query.Versions i.node i.filespace) (database m)) e h)))

    node-there : (i : IncrementalBackup) (node : ℕ) (m : Machine) → IsHome actor i.node i.filespace node m → rows_of (query.Lookup (thing.Node i.node)) (database m) ≡ Ok (replies.Lookup (found.Number node))
    node-there i node m (known, rules, are, there) = ap (λ (o : Option ℕ). on_ok replies.Lookup (number_found o)) known

    rules-there : (i : IncrementalBackup) (node : ℕ) (m : Machine) → IsHome actor i.node i.filespace node m → (x : reply.Rows) × (rows_of (query.Rules node) (database m) ≡ Ok x)
    rules-there i node m (known, rules, are, there) = (replies.Rules rules, ap (λ (r : Result Rules Refusal). on_ok replies.Rules r) are)

    spaces-there : (i : IncrementalBackup) (node : ℕ) (m : Machine) → IsHome actor i.node i.filespace node m
        → rows_of (query.Filespaces (Some i.node)) (database m) ≡ Ok (replies.Filespaces (filespace_lines (database m).clients (Some node)))
    spaces-there i node m (known, rules, are, there) = shown-there i.node node (database m) known

    -- the number that was answered is the node's
    number-as : (f : Found) (number : ℕ) → number_found_in f ≡ Some number → f ≡ found.Number number
    number-as (found.Number n) number is = (let same : n ≡ number = same_Some n number is in ap found.Number same)
    number-as (found.DevClass capacity) number is = absurd cc

    abbrev lookup-in : reply.Rows → Found
    lookup-in (replies.Lookup f) = f
    lookup-in _ = found.Number 0

    abbrev number-of-found : Found → ℕ
    number-of-found (found.Number n) = n
    number-of-found _ = 0

    node-answered : (i : IncrementalBackup) (node number : ℕ) (a : rows.Answer) → AreHome i node → HasNumber number a → MetBy (λ d. d ≡ Ask (query.Lookup (thing.Node i.node)) (Ok a)) (events_of actor turns) → number ≡ node
    node-answered i node number a may (f, is, so) met =
        let at = rows-at (query.Lookup (thing.Node i.node)) a refl met in
        let same : a.rows ≡ replies.Lookup (found.Number node) = rows-same (rows_of (query.Lookup (thing.Node i.node)) (database at.0)) a.rows (replies.Lookup (found.Number node)) at.2 (node-there i node at.0 (may at.0 at.1)) in
        let one : f ≡ found.Number node = ap lookup-in (sym is ∙ same) in
        let two : f ≡ found.Number number = number-as f number so in
        ap number-of-found (sym two ∙ one)

    made-ok : (q : Query) (a : rows.Answer) (own : List Event) → Made (Ask q (Ok a)) own → MetBy (λ d. d ≡ Ask q (Ok a)) own
    made-ok q a own (inl step) = met-step (Ask q (Ok a)) own step
    made-ok q a own (inr (memory, none)) = absurd cc

    unruled : (i : IncrementalBackup) (node : ℕ) (e : Refusal) (front own back : List Event) → events_of actor turns ≡ front ++ (own ++ back) → halt_by e ≡ None → AreHome i node → AsksNodeRules i.node own (Err e) → ⊥
    unruled i node e front own back cut mild may (inr (f, asked_it, is)) =
        let same : f ≡ e = cc in
        let mild_f : halt_by f ≡ None = subst (λ (x : Refusal). halt_by x ≡ None) (sym same) mild in
        rows-there (query.Lookup (thing.Node i.node)) f front own back cut mild_f (λ m there. (replies.Lookup (found.Number node), node-there i node m (may m there))) (met-unanswered (query.Lookup (thing.Node i.node)) f own mild_f asked_it)
    unruled i node e front own back cut mild may (inl (number, (xs, ys, apart, (a, has, made), asked_it))) =
        let first : events_of actor turns ≡ front ++ (xs ++ (ys ++ back)) = cut ∙ ap (λ (l : List Event). front ++ (l ++ back)) apart ∙ ap (λ (l : List Event). front ++ l) (append_assoc xs ys back) in
        let later : events_of actor turns ≡ (front ++ xs) ++ (ys ++ back) = first ∙ sym (append_assoc front xs (ys ++ back)) in
        let one : number ≡ node = node-answered i node number a may has (among (λ d. d ≡ Ask (query.Lookup (thing.Node i.node)) (Ok a)) front xs (ys ++ back) first (made-ok (query.Lookup (thing.Node i.node)) a xs made)) in
        let asked_so : Unanswered (query.Rules node) ys e = subst (λ (n : ℕ). Unanswered (query.Rules n) ys e) one asked_it in
        rows-there (query.Rules node) e (front ++ xs) ys back later mild (λ m there. rules-there i node m (may m there)) (met-unanswered (query.Rules node) e ys mild asked_so)

    unbased : (i : IncrementalBackup) (node : ℕ) (e : Refusal) (front own back : List Event) → events_of actor turns ≡ front ++ (own ++ back) → halt_by e ≡ None → AreHome i node → AsksAllOf i.node i.filespace own (Err e) → ⊥
    unbased i node e front own back cut mild may (inl (other, asked_it)) =
        let s = stands (λ d. d ≡ Ask (query.Versions i.node i.filespace) (Err e)) turns old new ran
        (among (λ d. d ≡ Ask (query.Versions i.node i.filespace) (Err e)) front own back cut (met-unanswered (query.Versions i.node i.filespace) e own mild asked_it)) in
        let missing : e ≡ refused.NotFound = versions-missing i node s.before e (may s.before s.passes) (asked-why (query.Versions i.node i.filespace) e mild s) in
        true≢false (sym (ap (λ (x : Refusal). number_of x == 10) missing) ∙ other)
    unbased i node e front own back cut mild may (inr (versions, (xs, ys, apart, asked_it, ruled))) =
        let first : events_of actor turns ≡ front ++ (xs ++ (ys ++ back)) = cut ∙ ap (λ (l : List Event). front ++ (l ++ back)) apart ∙ ap (λ (l : List Event). front ++ l) (append_assoc xs ys back) in
        unruled i node e (front ++ xs) ys back (first ∙ sym (append_assoc front xs (ys ++ back))) mild may ruled

    unlisted-not : (before after_it : ℕ) (e : Refusal) → halt_by e ≡ None → (Rose before after_it → ⊥) → Unlisted before after_it e → ⊥
    unlisted-not before after_it e mild sound (inl memory) = not-memory e mild memory
    unlisted-not before after_it e mild sound (inr (is, rose)) = sound rose

    unbegun : (i : IncrementalBackup) (node : ℕ) (rules : List Rule) (told : Option Files) (before after_it : ℕ) (e : Refusal) (front own back : List Event) → events_of actor turns ≡ front ++ (own ++ back) → halt_by e ≡ None → AreHome i node
        → (Rose before after_it → ⊥) → Begins i.node i.filespace rules told before after_it own (Err e) → ⊥
    unbegun i node rules told before after_it e front own back cut mild may sound (inl (asked_it, same)) = unbased i node e front own back cut mild may asked_it
    unbegun i node rules told before after_it e front own back cut mild may sound (inr (basis, asked_it, unlisted)) = unlisted-not before after_it e mild sound unlisted

    -- what was found is the filespace's number at the state where it was asked
    abbrev spaces-in : reply.Rows → List FilespaceLine
    spaces-in (replies.Filespaces lines) = lines
    spaces-in _ = []

    abbrev filespace-at : IncrementalBackup → ℕ → Machine → Option ℕ
    filespace-at i node m = filespace_named node i.filespace (database m).clients.filespaces

    abbrev AsksSpaces : IncrementalBackup → rows.Answer → Deed → Type 0
    AsksSpaces i a d = d ≡ Ask (query.Filespaces (Some i.node)) (Ok a)

    finds-so : (i : IncrementalBackup) (node : ℕ) (a : rows.Answer) (lines : List FilespaceLine) (found : Option ℕ) → AreHome i node → a.rows ≡ replies.Filespaces lines → found ≡ number_in i.filespace lines → (s : Stands (AsksSpaces i a) turns old new)
        → found ≡ filespace-at i node s.before
    finds-so i node a lines found may has is s =
        let all : List FilespaceLine = filespace_lines (database s.before).clients (Some node) in
        let same : a.rows ≡ replies.Filespaces all =
        rows-same (rows_of (query.Filespaces (Some i.node)) (database s.before)) a.rows (replies.Filespaces all) (rows-of-step (query.Filespaces (Some i.node)) a refl s) (spaces-there i node s.before (may s.before s.passes)) in
        let one : lines ≡ all = ap spaces-in (sym has ∙ same) in
        is ∙ ap (λ (l : List FilespaceLine). number_in i.filespace l) one ∙ number-shown node i.filespace (database s.before).clients (database s.before).clients.filespaces

    -- the filespace isn't missing where it was there at an earlier state
    abbrev IsEarlier : (turns : List Turn) → (old new : Machine) → IncrementalBackup → (node : ℕ) → Machine → Type 0
    IsEarlier ts a b i node n = (m : Machine) × Passes trusted places ts a b m × ((database m).number ≤ (database n).number) × (number : ℕ) × (filespace-at i node m ≡ Some number)

    none-missing : (i : IncrementalBackup) (node : ℕ) (n : Machine) → Remains Is node i.filespace → Is n → IsEarlier turns old new i node n → filespace-at i node n ≡ None → ⊥
    none-missing i node n stays there (m, passed, less, number, is) none = (let odd : None ≡ Some number = sym none ∙ stays m n passed there less number is in cc)

    -- of the steps that came before, one shows that it was there when they were made
    abbrev OwnStep : Deed → Type 0
    OwnStep d = Stood trusted places actor (λ x. x ≡ d) turns old new

    abbrev ShowsIt : IncrementalBackup → (node : ℕ) → List Event → Type 0
    ShowsIt i node events = (d : Deed) × MetBy (λ x. x ≡ d) events × ((s : OwnStep d) → (number : ℕ) × (filespace-at i node s.meets.after ≡ Some number))

    shown-behind : (i : IncrementalBackup) (node : ℕ) (front events : List Event) → ShowsIt i node events → ShowsIt i node (front ++ events)
    shown-behind i node front events (d, met, shows) = (d, met-next front events (λ x. x ≡ d) met, shows)

    -- where it is there before a step it is so behind it
    still-there : (i : IncrementalBackup) (node : ℕ) (d : Deed) → Remains Is node i.filespace → (s : OwnStep d) (number : ℕ) → filespace-at i node s.meets.before ≡ Some number → (k : ℕ) × (filespace-at i node s.meets.after ≡ Some k)
    still-there i node d stays s number there = (
      number,
      stays s.meets.before s.meets.after (passes-before trusted places actor (λ x. x ≡ d) turns old new s) (passes-after trusted places actor (λ x. x ≡ d) turns old new s)
          (moved-number trusted places s.turn.actor s.turn.did s.meets.before s.meets.after s.meets.made) number there,
    )

    unspaced : (i : IncrementalBackup) (node : ℕ) (before own back : List Event) → events_of actor turns ≡ before ++ (own ++ back) → AreHome i node → Remains Is node i.filespace → ShowsIt i node before → FindsOne i.node i.filespace own (Ok None) → ⊥
    unspaced i node before own back cut may stays (d, met, shows) (lines, (a, has, made), is) =
        let t = two-of (λ x. x ≡ d) (AsksSpaces i a) before (own ++ back) turns old new cut ran met (met-first own back (AsksSpaces i a) (made-ok (query.Filespaces (Some i.node)) a own made)) in
        let there = shows t.one in
        let s = stands-as (AsksSpaces i a) turns old new t.two in
        none-missing i node t.two.meets.before stays s.passes (t.one.meets.after, passes-after trusted places actor (λ x. x ≡ d) turns old new t.one, t.rises, there.0, there.1) (sym (finds-so i node a lines None may has is s))

    -- the filespaces of a node that is there are told
    unshown : (i : IncrementalBackup) (node : ℕ) (e : Refusal) (front own back : List Event) → events_of actor turns ≡ front ++ (own ++ back) → halt_by e ≡ None → AreHome i node → FindsOne i.node i.filespace own (Err e) → ⊥
    unshown i node e front own back cut mild may asked_it =
        rows-there (query.Filespaces (Some i.node)) e front own back cut mild
        (λ m there. (replies.Filespaces (filespace_lines (database m).clients (Some node)), spaces-there i node m (may m there))) (met-unanswered (query.Filespaces (Some i.node)) e own mild asked_it)

    -- steps in two parts
    parts-first : (front own back xs ys : List Event) → events_of actor turns ≡ front ++ (own ++ back) → own ≡ xs ++ ys → events_of actor turns ≡ front ++ (xs ++ (ys ++ back))
    parts-first front own back xs ys cut apart = cut ∙ ap (λ (l : List Event). front ++ (l ++ back)) apart ∙ ap (λ (l : List Event). front ++ l) (append_assoc xs ys back)

    parts-next : (front own back xs ys : List Event) → events_of actor turns ≡ front ++ (own ++ back) → own ≡ xs ++ ys → events_of actor turns ≡ (front ++ xs) ++ (ys ++ back)
    parts-next front own back xs ys cut apart = parts-first front own back xs ys cut apart ∙ sym (append_assoc front xs (ys ++ back))

    -- the change that defines it
    abbrev definition : IncrementalBackup → ℕ → Change
    definition i node = change.Object (client.Filespace two.Define node i.filespace 0)

    abbrev Defining : IncrementalBackup → ℕ → Result ℕ Refusal → Deed → Type 0
    Defining i node answer d = d ≡ Commit (Plain (definition i node)) [] answer

    made-so : (d : Deed) (own : List Event) → (refusal d ≡ Some refused.Memory → ⊥) → Made d own → MetBy (λ x. x ≡ d) own
    made-so d own unwanted (inl step) = met-step d own step
    made-so d own unwanted (inr (memory, none)) = absurd (unwanted memory)

    -- where it is refused that has a reason
    defining-why : (i : IncrementalBackup) (node : ℕ) (e : Refusal) → halt_by e ≡ None → (s : Stands (Defining i node (Err e)) turns old new)
        → foremost (change_refused actor (Some (filespace_defined node i.filespace (database s.before))) (sight actor s.before.core)) ≡ Some e
    defining-why i node e mild s =
        let for : IsRefusedFor places actor s.did.deed s.before s.after e = moved-for trusted places actor s.did s.before s.after e s.made (ap refusal s.is) in
        only-own places actor (Commit (Plain (definition i node)) [] (Err e)) s.before s.after e (subst (λ (d : Deed). IsRefusedFor places actor d s.before s.after e) s.is for) mild (λ h. h) refl refl
        (none-rose (Defining i node (Err e)) s) (λ h. h) (λ h. h)

    -- it is there already, or nothing is wrong with it
    undefined-not : (i : IncrementalBackup) (node : ℕ) (e : Refusal) (m : Machine) → (o : Option ℕ) → filespace-at i node m ≡ o → IsHome actor i.node i.filespace node m → (number_of e == 11) ≡ false
        → foremost (change_refused actor (Some (filespace_defined node i.filespace (database m))) (sight actor m.core)) ≡ Some e → ⊥
    undefined-not i node e m None none home other h =
        let free : MayCommit actor (filespace_defined node i.filespace (database m)) m = subst (λ (o : Option ℕ). IsThereOrDefined actor o node i.filespace m) none home.3 in
        let odd : None ≡ Some e = sym free.0 ∙ h in
        cc
    undefined-not i node e m (Some number) some home other h =
        true≢false (sym (ap (λ (x : Refusal). number_of x == 11) (exists-so actor node i.filespace i.node m.core e home.0 (ap (λ (o : Option ℕ). is_some o) some) h)) ∙ other)

    undefinable : (i : IncrementalBackup) (node : ℕ) (e : Refusal) (front own back : List Event) → events_of actor turns ≡ front ++ (own ++ back) → halt_by e ≡ None → AreHome i node → DefinesOne node i.filespace own (Err e) → ⊥
    undefinable i node e front own back cut mild may (inl (none, is)) = (let same : e ≡ refused.Memory = cc in not-memory e mild same)
    undefinable i node e front own back cut mild may (inr (Ok number, made, is)) = absurd cc
    undefinable i node e front own back cut mild may (inr (Err why, made, is)) =
        let same : e ≡ why = mild-defined trusted places e why (number_of why == 11) is mild in
        let other : (number_of why == 11) ≡ false = not-already why e (number_of why == 11) refl is in
        let mild_why : halt_by why ≡ None = subst (λ (x : Refusal). halt_by x ≡ None) same mild in
        let s = stands (Defining i node (Err why)) turns old new ran (among (Defining i node (Err why)) front own back cut (met-made (Commit (Plain (definition i node)) [] (Err why)) why own refl mild_why made)) in
        undefined-not i node why s.before (filespace-at i node s.before) refl (may s.before s.passes) other (defining-why i node why mild_why s)
      where
        not-already : (why e : Refusal) (b : Bool) → (number_of why == 11) ≡ b → ◌≡◌ {A = Result (Unit {0}) Refusal} (Err e) (if b then Ok tt else Err (undefined why)) → (number_of why == 11) ≡ false
        not-already why e true is h = absurd cc
        not-already why e false is h = is

    -- by that no run ends
    mild-there : (why : Refusal) → (number_of why == 11) ≡ true → halt_by why ≡ None
    mild-there (refused.LogFault file count) is = absurd cc
    mild-there refused.RunFull is = absurd cc
    mild-there refused.Memory is = absurd cc
    mild-there why is = refl

    -- behind the transaction that defines it, it is there
    commit-free : (i : IncrementalBackup) (node number : ℕ) (m next : Machine) → Case places actor (Commit (Plain (definition i node)) [] (Ok number)) m next → refused_by (sight actor m.core).journal (filespace_defined node i.filespace (database m)) (database m) ≡ None
    commit-free i node number m next h =
        let all = append-none (ended m) _ (none-held _ h.0) in
        let mine = append-none (change_refused actor (Some (filespace_defined node i.filespace (database m))) (sight actor m.core)) _ all.1 in
        let first = append-none (listed (refused_by (sight actor m.core).journal (filespace_defined node i.filespace (database m)) (database m))) _ mine.0 in
        none-listed (refused_by (sight actor m.core).journal (filespace_defined node i.filespace (database m)) (database m)) first.0
      where
        none-listed : (o : Option Refusal) → listed o ≡ [] → o ≡ None
        none-listed None is = refl
        none-listed (Some f) is = absurd cc

    commit-defines : (i : IncrementalBackup) (node number : ℕ) (m next : Machine) → Case places actor (Commit (Plain (definition i node)) [] (Ok number)) m next → filespace-at i node m ≡ None → filespace-at i node next ≡ Some (database m).next_filespace
    commit-defines i node number m next h none =
        let c : Change = filespace_defined node i.filespace (database m) in
        let same : c ≡ h.1.0 = same_Some c h.1.0 h.1.1 in
        let is : database next ≡ effect c (database m) =
        ap (λ (x : Core). inventory x) h.1.3.0 ∙ after-one m.core.base m.core.journal (record { actor = actor; change = h.1.0 }) ∙ ap (λ (x : Change). effect x (database m)) (sym same) in
        ap (λ (v : Inv). filespace_named node i.filespace v.clients.filespaces) is ∙ (defined-so (sight actor m.core).journal node i.filespace (database m) (commit-free i node number m next h) none).1

    defines-there : (i : IncrementalBackup) (node number : ℕ) (e : Event) (m next : Machine) → e.deed ≡ Commit (Plain (definition i node)) [] (Ok number) → Moves trusted places actor e m next → filespace-at i node m ≡ None
        → filespace-at i node next ≡ Some (database m).next_filespace
    defines-there i node number e m next is made none =
        let step : Case places actor (Commit (Plain (definition i node)) [] (Ok number)) (with_contents made.seen m) made.next = subst (λ (d : Deed). Case places actor d (with_contents made.seen m) made.next) is made.made.step in
        let core : next.core ≡ made.next.core = ap (λ (x : Machine). x.core) made.left ∙ core-left e.deed m.contents made.next in
        ap (λ (c : Core). filespace_named node i.filespace (inventory c).clients.filespaces) core ∙ commit-defines i node number (with_contents made.seen m) made.next step none

    -- and where that is refused since it is there, it is too
    there-already : (i : IncrementalBackup) (node : ℕ) (why : Refusal) → Remains Is node i.filespace → (number_of why == 11) ≡ true → (s : OwnStep (Commit (Plain (definition i node)) [] (Err why))) (o : Option ℕ) → filespace-at i node s.meets.before ≡ o
        → (k : ℕ) × (filespace-at i node s.meets.after ≡ Some k)
    there-already i node why stays already s (Some k) there = still-there i node (Commit (Plain (definition i node)) [] (Err why)) stays s k there
    there-already i node why stays already s None none =
        let reason = defining-why i node why (mild-there why already) (stands-as (Defining i node (Err why)) turns old new s) in
        absurd (true≢false (sym already ∙ not-there-yet actor node i.filespace s.meets.before.core why none reason))

    shown-by : (i : IncrementalBackup) (node : ℕ) (own : List Event) → Remains Is node i.filespace → DefinesOne node i.filespace own (Ok tt) → ShowsIt i node own
    shown-by i node own stays (inl (none, is)) = absurd cc
    shown-by i node own stays (inr (Ok number, made, is)) =
        (Commit (Plain (definition i node)) [] (Ok number), made-so (Commit (Plain (definition i node)) [] (Ok number)) own (λ h. cc) made, λ s. behind s (filespace-at i node s.meets.before) refl)
      where
        behind : (s : OwnStep (Commit (Plain (definition i node)) [] (Ok number))) (o : Option ℕ) → filespace-at i node s.meets.before ≡ o → (k : ℕ) × (filespace-at i node s.meets.after ≡ Some k)
        behind s (Some k) there = still-there i node (Commit (Plain (definition i node)) [] (Ok number)) stays s k there
        behind s None none = (
          (database s.meets.before).next_filespace,
          defines-there i node number s.turn.did s.meets.before s.meets.after s.is (subst (λ (a : ℕ). Moves trusted places a s.turn.did s.meets.before s.meets.after) s.mine s.meets.made) none,
        )
    shown-by i node own stays (inr (Err why, made, is)) =
        (Commit (Plain (definition i node)) [] (Err why), made-so (Commit (Plain (definition i node)) [] (Err why)) own (λ h. not-wanted (same_Some why refused.Memory h)) made, λ s. there-already i node why stays already s (filespace-at i node s.meets.before) refl)
      where
        already : (number_of why == 11) ≡ true
        already = already-not trusted places why (number_of why == 11) refl is

        not-wanted : why ≡ refused.Memory → ⊥
        not-wanted same = true≢false (sym already ∙ ap (λ (x : Refusal). number_of x == 11) same)

    -- it is defined and found
    undefined-none : (i : IncrementalBackup) (node : ℕ) (e : Refusal) (front own back : List Event) → events_of actor turns ≡ front ++ (own ++ back) → halt_by e ≡ None → AreHome i node → Remains Is node i.filespace
        → DefinesAndFinds i.node node i.filespace own (Err e) → ⊥
    undefined-none i node e front own back cut mild may stays (inl (found, (xs, ys, apart, defines, finds), is)) =
        unspaced i node (front ++ xs) ys back (parts-next front own back xs ys cut apart) may stays (shown-behind i node front xs (shown-by i node xs stays defines))
        (subst (λ (o : Option ℕ). FindsOne i.node i.filespace ys (Ok o)) (none-there found is) finds)
      where
        none-there : (o : Option ℕ) → ◌≡◌ {A = Result ℕ Refusal} (Err e) (there o) → o ≡ None
        none-there None h = refl
        none-there (Some k) h = absurd cc
    undefined-none i node e front own back cut mild may stays (inr (inl (why, (xs, ys, apart, defines, finds), is))) =
        let same : e ≡ why = cc in
        unshown i node why (front ++ xs) ys back (parts-next front own back xs ys cut apart) (subst (λ (x : Refusal). halt_by x ≡ None) same mild) may finds
    undefined-none i node e front own back cut mild may stays (inr (inr (why, defines, is))) =
        let same : e ≡ why = cc in
        undefinable i node why front own back cut (subst (λ (x : Refusal). halt_by x ≡ None) same mild) may defines

    unfound : (i : IncrementalBackup) (node number : ℕ) (sends : Bool) (e : Refusal) (before own back : List Event) → events_of actor turns ≡ before ++ (own ++ back) → halt_by e ≡ None → AreHome i node → Remains Is node i.filespace → number ≡ node
        → (sends ≡ false → ShowsIt i node before) → HasFilespace i.node number i.filespace sends own (Err e) → ⊥
    unfound i node number sends e front own back cut mild may stays own_node shows (inl (one, finds, is)) = absurd cc
    unfound i node number sends e front own back cut mild may stays own_node shows (inr (inl (f, asked_it, is))) =
        let same : f ≡ e = cc in
        let mild_f : halt_by f ≡ None = subst (λ (x : Refusal). halt_by x ≡ None) (sym same) mild in
        unshown i node f front own back cut mild_f may asked_it
    unfound i node number sends e front own back cut mild may stays own_node shows (inr (inr (inl (few, finds, is)))) = unspaced i node front own back cut may stays (shows few) finds
    unfound i node number sends e front own back cut mild may stays own_node shows (inr (inr (inr (some, (xs, ys, apart, finds, defines))))) =
        undefined-none i node e (front ++ xs) ys back (parts-next front own back xs ys cut apart) mild may stays (subst (λ (n : ℕ). DefinesAndFinds i.node n i.filespace ys (Err e)) own_node defines)

    or-busy : (e : Refusal) → halt_by e ≡ None → EndsOrBusy e → IsBusy e
    or-busy e mild (inl ends) = absurd (ends-halt e ends mild)
    or-busy e mild (inr busy) = busy

    -- ---- what it began with

    rules-node : (i : IncrementalBackup) (node : ℕ) (ruled : Ruled) (front own back : List Event) → events_of actor turns ≡ front ++ (own ++ back) → AreHome i node → AsksNodeRules i.node own (Ok ruled) → ruled.node ≡ node
    rules-node i node ruled front own back cut may (inr (f, asked_it, is)) = absurd cc
    rules-node i node ruled front own back cut may (inl (number, (xs, ys, apart, (a, has, made), (b, is, asked_it)))) =
        is.2
        ∙ node-answered i node number a may has (among (λ d. d ≡ Ask (query.Lookup (thing.Node i.node)) (Ok a)) front xs (ys ++ back) (parts-first front own back xs ys cut apart) (made-ok (query.Lookup (thing.Node i.node)) a xs made))

    -- versions were told, so the filespace was there
    versions-show : (i : IncrementalBackup) (node : ℕ) (a : rows.Answer) (versions : List VersionLine) → AreHome i node → Remains Is node i.filespace → a.rows ≡ replies.Versions versions → (s : OwnStep (Ask (query.Versions i.node i.filespace) (Ok a)))
        → (o : Option ℕ) → filespace-at i node s.meets.before ≡ o → (k : ℕ) × (filespace-at i node s.meets.after ≡ Some k)
    versions-show i node a versions may stays has s (Some k) there = still-there i node (Ask (query.Versions i.node i.filespace) (Ok a)) stays s k there
    versions-show i node a versions may stays has s None none =
        let t = stands-as (λ d. d ≡ Ask (query.Versions i.node i.filespace) (Ok a)) turns old new s in
        let told : rows_of (query.Versions i.node i.filespace) (database t.before) ≡ Ok (replies.Versions versions) = rows-of-step (query.Versions i.node i.filespace) a refl t ∙ ap (λ (x : reply.Rows). Ok x) has in
        let are : versions_of i.node i.filespace (database t.before) ≡ Ok versions = ok-of replies.Versions versions_in (λ x. refl) (versions_of i.node i.filespace (database t.before)) versions told in
        let missing : versions_of i.node i.filespace (database t.before) ≡ Err refused.NotFound =
        versions-asked i node t.before (may t.before t.passes) ∙ ap (λ (o : Option ℕ). on_ok (λ n. versions_at n (database t.before)) (if_found o Ok)) none in
        let odd : ◌≡◌ {A = Result (List VersionLine) Refusal} (Ok versions) (Err refused.NotFound) = sym are ∙ missing in
        absurd cc

    -- a plan that isn't idle and sends nothing goes by versions
    idle-without : (i : IncrementalBackup) (rules : List Rule) (files : List FileRow) (basis : Basis) (b : Begun) → IsPlanned rules files basis b → basis.versions ≡ [] → is_sending b.plan ≡ false → is_idle b.plan ≡ true
    idle-without i rules files basis b planned none unsent =
        let value = subst (λ (vs : List VersionLine). AreActive (actives vs) → b.plan ≡ plan_of (scheme basis.ruled.rules rules basis.ruled.today) files (actives vs)) none planned.value in
        plan-idle (scheme basis.ruled.rules rules basis.ruled.today) files b.plan (value none-active) unsent

    versions-shown : (i : IncrementalBackup) (node : ℕ) (versions : List VersionLine) (own : List Event) → AreHome i node → Remains Is node i.filespace → (versions ≡ [] → ⊥) → AsksVersions i.node i.filespace own (Ok versions) → ShowsIt i node own
    versions-shown i node versions own may stays some (inl (a, has, made)) =
        (Ask (query.Versions i.node i.filespace) (Ok a), made-ok (query.Versions i.node i.filespace) a own made, λ s. versions-show i node a versions may stays has s (filespace-at i node s.meets.before) refl)
    versions-shown i node versions own may stays some (inr (none, why, is, made)) = absurd (some none)

    abbrev HasBegun : IncrementalBackup → (node : ℕ) → Begun → List Event → Type 0
    HasBegun i node b events = (b.node ≡ node) × (is_idle b.plan ≡ false → is_sending b.plan ≡ false → ShowsIt i node events)

    shown-first : (i : IncrementalBackup) (node : ℕ) (xs ys : List Event) → ShowsIt i node xs → ShowsIt i node (xs ++ ys)
    shown-first i node xs ys (d, met, shows) = (d, met-first xs ys (λ x. x ≡ d) met, shows)

    begun-so : (i : IncrementalBackup) (node : ℕ) (rules : List Rule) (told : Option Files) (before count : ℕ) (b : Begun) (front own back : List Event) → events_of actor turns ≡ front ++ (own ++ back) → AreHome i node → Remains Is node i.filespace
        → Begins i.node i.filespace rules told before count own (Ok b) → HasBegun i node b (front ++ own)
    begun-so i node rules told before count b front own back cut may stays (basis, (xs, ys, apart, versions, ruled), (files, listing, planned)) = (
      planned.node ∙ rules-node i node basis.ruled (front ++ xs) ys back (parts-next front own back xs ys cut apart) may ruled,
      λ busy unsent. shown-behind i node front own
          (subst (λ (l : List Event). ShowsIt i node l) (sym apart)
          (shown-first i node xs ys (versions-shown i node basis.versions xs may stays (λ none. true≢false (sym (idle-without i rules files basis b planned none unsent) ∙ busy)) versions))),
    )

    works-busy : (i : IncrementalBackup) (node : ℕ) (b : Begun) (told : Option Files) (before after_it : ℕ) (e : Refusal) (front own back : List Event) → events_of actor turns ≡ front ++ (own ++ back) → halt_by e ≡ None → AreHome i node → Remains Is node i.filespace
        → HasBegun i node b front → Works i.node i.filespace b told before after_it own (Err e) → IsBusy e
    works-busy i node b told before after_it e front own back cut mild may stays begun (inl (idle, none, same, is)) = absurd cc
    works-busy i node b told before after_it e front own back cut mild may stays begun (inr (inl (busy, number, (xs, ys, apart, finds, carries)))) = or-busy e mild (carries-end number b told before after_it ys e carries)
    works-busy i node b told before after_it e front own back cut mild may stays begun (inr (inr (busy, f, finds, same, is))) =
        let one : f ≡ e = cc in
        absurd (unfound i node b.node (is_sending b.plan) f front own back cut (subst (λ (x : Refusal). halt_by x ≡ None) (sym one) mild) may stays begun.0 (λ few. begun.1 busy few) finds)

    finishes-busy : (i : IncrementalBackup) (node : ℕ) (b : Begun) (told : Option Files) (before after_it : ℕ) (e : Refusal) (front own back : List Event) → events_of actor turns ≡ front ++ (own ++ back) → halt_by e ≡ None → AreHome i node
        → Remains Is node i.filespace → HasBegun i node b front → Finishes i.node i.filespace b told before after_it own (Err e) → IsBusy e
    finishes-busy i node b told before after_it e front own back cut mild may stays begun (inl works) = works-busy i node b told before after_it e front own back cut mild may stays begun works
    finishes-busy i node b told before after_it e front own back cut mild may stays begun (inr (o, (xs, ys, apart, works, (answer, made, is)))) = absurd (ends-halt e (finish-ends e answer is) mild)

    increments-busy : (i : IncrementalBackup) (node : ℕ) (rules : List Rule) (told : Option Files) (before after_it : ℕ) (e : Refusal) (front own back : List Event) → events_of actor turns ≡ front ++ (own ++ back) → halt_by e ≡ None → AreHome i node
        → Remains Is node i.filespace → (Rose before after_it → ⊥) → Increments i.node i.filespace rules told before after_it own (Err e) → IsBusy e
    increments-busy i node rules told before after_it e front own back cut mild may stays sound (inl (f, begins, is)) =
        let same : f ≡ e = cc in
        absurd (unbegun i node rules told before after_it f front own back cut (subst (λ (x : Refusal). halt_by x ≡ None) (sym same) mild) may sound begins)
    increments-busy i node rules told before after_it e front own back cut mild may stays sound (inr (inl (b, count, f, (xs, ys, apart, begins, finishes), is))) =
        let same : f ≡ e = cc in
        let begun : HasBegun i node b (front ++ xs) = begun-so i node rules told before count b front xs (ys ++ back) (parts-first front own back xs ys cut apart) may stays begins in
        subst IsBusy same
        (finishes-busy i node b told count after_it f (front ++ xs) ys back (parts-next front own back xs ys cut apart) (subst (λ (x : Refusal). halt_by x ≡ None) (sym same) mild) may stays begun finishes)
    increments-busy i node rules told before after_it e front own back cut mild may stays sound (inr (inr (b, count, o, steps, memory))) = absurd (not-memory e mild memory)

    unbacked : (k : Client) (i : IncrementalBackup) (e : Refusal) (before after_it : Known) (front own back : List Event) → events_of actor turns ≡ front ++ (own ++ back) → halt_by e ≡ None → MayBackUp Is actor i → (Rose before.faults after_it.faults → ⊥)
        → (answer : Result Sent Refusal) → Incremental i.node i.filespace k.choice before.files before.faults after_it.faults own answer → ShowsSent answer (Err e) → IsBusy e
    unbacked k i e before after_it front own back cut mild (node, may, stays) sound (Ok told) made shown = absurd shown
    unbacked k i e before after_it front own back cut mild (node, may, stays) sound (Err f) made shown =
        let same : e ≡ f = cc in
        subst IsBusy (sym same)
        (increments-busy i node k.choice before.files before.faults after_it.faults f front own back cut (subst (λ (x : Refusal). halt_by x ≡ None) same mild) may stays sound made.order)

    unwritten : (k : Client) (work : OnTree) (e : Refusal) (front own back : List Event) → events_of actor turns ≡ front ++ (own ++ back) → halt_by e ≡ None → MayOn Is actor k work → DoesThere k work own (Err e) → IsBusyOn work e
    unwritten k (write w) e front own back cut mild may (inl (before, after_it, both, (none, (Ok done, writes, is)))) = absurd cc
    unwritten k (write w) e front own back cut mild may (inl (before, after_it, both, (none, (Err f, (same, count, rose, low, left), is)))) = absurd (may.1 before after_it both (omega (arith, rose, low)))
    unwritten k (erase x) e front own back cut mild may (inl (before, after_it, both, (none, (Ok done, erases, is)))) = absurd cc
    unwritten k (erase x) e front own back cut mild may (inl (before, after_it, both, (none, (Err f, erases, is)))) = absurd (may.1 before after_it both erases.1)
    unwritten k (back_up i) e front own back cut mild may (inl (before, after_it, both, backs)) = unbacked k i e before after_it front own back cut mild may.0 (λ rose. may.1.1 before after_it both rose) backs.0 backs.1 backs.3
    unwritten k (back_up i) e front own back cut mild may (inr (missing, kept, none, is)) = (let there = may.1.0 in absurd (omega (arith, missing, there)))
    unwritten k (restore r) e front own back cut mild may (inl (before, after_it, both, gives)) = absurd (unrestored r e before after_it front own back cut mild may.0 gives)
    unwritten k (restore r) e front own back cut mild may (inr (missing, kept, none, is)) = (let there = may.1 in absurd (omega (arith, missing, there)))
    unwritten k (write w) e front own back cut mild may (inr (missing, kept, none, is)) = (let there = may.0 in absurd (omega (arith, missing, there)))
    unwritten k (erase x) e front own back cut mild may (inr (missing, kept, none, is)) = (let there = may.0 in absurd (omega (arith, missing, there)))

    -- ---- CHECKPOINT

    abbrev IsOneStep : Refusal → Deed → Type 0
    IsOneStep e d = (d ≡ Image image.Checkpoint (Err e)) ⊎ (d ≡ Image image.Next (Err e)) ⊎ (d ≡ Force (Err e))

    image-as : (kind : ImageKind) (answer : Result ImageReply Refusal) (e : Refusal) → refusal_in answer ≡ Some e → Image kind answer ≡ Image kind (Err e)
    image-as kind (Ok x) e r = absurd cc
    image-as kind (Err f) e r = (let same : f ≡ e = same_Some f e r in cc)

    one-step-of : (e : Refusal) (d : Deed) → (refusal d ≡ Some e) × IsOfCheckpoint d → IsOneStep e d
    one-step-of e (Image image.Checkpoint answer) (r, is) = inl (image-as image.Checkpoint answer e r)
    one-step-of e (Image image.Next answer) (r, is) = inr (inl (image-as image.Next answer e r))
    one-step-of e (Force answer) (r, is) = inr (inr (force-as answer e r))
    one-step-of e d (r, is) = absurd is

    in-progress : (i : Option Picture) (e : Refusal) → foremost (in_progress i) ≡ Some e → IsBusy e
    in-progress None e h = absurd cc
    in-progress (Some i) e h = (holder.Image i.actor, sym (same_Some (refused.Busy (holder.Image i.actor)) e h))

    room-for : (b : Bool) → b ≡ true → unless b refused.InventoryFull ≡ []
    room-for true is = refl
    room-for false is = absurd cc

    begin-busy : (e : Refusal) → halt_by e ≡ None → ((m : Machine) → Is m → MayCheckpoint actor m) → (s : Stands (λ d. d ≡ Image image.Checkpoint (Err e)) turns old new) → IsBusy e
    begin-busy e mild may s =
        let for : IsRefusedFor places actor s.did.deed s.before s.after e = moved-for trusted places actor s.did s.before s.after e s.made (ap refusal s.is) in
        in-progress s.before.core.image e
        (never-but places actor (Image image.Checkpoint (Err e)) s.before s.after e (subst (λ (d : Deed). IsRefusedFor places actor d s.before s.after e) s.is for) mild (λ h. cc) (λ h. h)
        (room-for (nat_lt (s.before.core.generation + 1) (2 ^ 62)) (lt-ltb (s.before.core.generation + 1) (2 ^ 62) (may s.before s.passes).0)) (none-rose (λ d. d ≡ Image image.Checkpoint (Err e)) s) (λ h. h) (λ h. h))

    abbrev IsUnlisted : Refusal → Type 0
    IsUnlisted e = has_number checkpoint_numbers e ≡ false

    backup-not : (o : Option Picture) (i : Picture) → IsNoBackup o → o ≡ Some i → i.picture ≡ backup → ⊥
    backup-not None i clear is so = cc
    backup-not (Some j) i clear is so =
        let same : j ≡ i = same_Some j i is in
        let odd : checkpoint_image ≡ backup = sym clear ∙ ap (λ (x : Picture). x.picture) same ∙ so in
        cc

    next-never : (e : Refusal) → halt_by e ≡ None → has_number checkpoint_numbers e ≡ true → ((m : Machine) → Is m → MayCheckpoint actor m) → (s : Stands (λ d. d ≡ Image image.Next (Err e)) turns old new) → ⊥
    next-never e mild listed may s =
        let for : IsRefusedFor places actor s.did.deed s.before s.after e = moved-for trusted places actor s.did s.before s.after e s.made (ap refusal s.is) in
        never places actor (Image image.Next (Err e)) s.before s.after e (subst (λ (d : Deed). IsRefusedFor places actor d s.before s.after e) s.is for) mild
        (λ h. true≢false (sym listed ∙ foremost-all IsUnlisted (unless (is_some (own_image actor s.before.core.image)) refused.NotFound) (unless-all IsUnlisted (is_some (own_image actor s.before.core.image)) refused.NotFound refl) e h))
        (λ h. h) refl refl (none-rose (λ d. d ≡ Image image.Next (Err e)) s) (λ h. h)
        (λ h. backup-not (own_image actor s.before.core.image) h.0 (may s.before s.passes).1 h.1 h.2)

    checkpoint-busy : (e : Refusal) (front own back : List Event) → events_of actor turns ≡ front ++ (own ++ back) → halt_by e ≡ None → ((m : Machine) → Is m → MayCheckpoint actor m) → Checkpointing own (Err e) → IsBusy e
    checkpoint-busy e front own back cut mild may h =
        elim h.cause as (λ _. IsBusy e) [
          | inl memory ↦ absurd (not-memory e mild memory)
          | inr caused ↦
              let both = met-both IsOfCheckpoint (λ d. refusal d ≡ Some e) own h.only caused.1 in
              let s = stands (IsOneStep e) turns old new ran (among (IsOneStep e) front own back cut (met-so (λ d. (refusal d ≡ Some e) × IsOfCheckpoint d) (IsOneStep e) own (one-step-of e) both)) in
              elim s.is as (λ _. IsBusy e) [
                | inl is ↦ begin-busy e mild may (as-one (λ d. d ≡ Image image.Checkpoint (Err e)) s is)
                | inr rest ↦ elim rest as (λ _. IsBusy e) [
                  | inl is ↦ absurd (next-never e mild caused.0 may (as-one (λ d. d ≡ Image image.Next (Err e)) s is))
                  | inr is ↦ absurd (unforced e mild (as-one (λ d. d ≡ Force (Err e)) s is))
                ]
              ]
        ]
      where
        as-one : (Q : Deed → Type 0) (s : Stands (IsOneStep e) turns old new) → Q s.did.deed → Stands Q turns old new
        as-one Q s is = record { did = s.did; is = is; before = s.before; after = s.after; passes = s.passes; made = s.made; first = s.first; last = s.last }

    -- ---- processes

    -- a ticket for a copy was refused, since its pool isn't there
    abbrev IsUnopenedBy : Own → Refusal → Type 0
    IsUnopenedBy (moves mover) e =
        (e ≡ refused.NotFound) × (object : ℕ) × (a : Aim) × (avoid : ℕ) × MetBy (λ d. d ≡ OpenCopy object a avoid (Err refused.NotFound)) (events_of actor turns) × (m : Machine) × Is m × IsPoolGone a (database m)
    IsUnopenedBy own e = ⊥

    -- a step of a process stands at one of the states
    all-stood : (front own back : List Event) → events_of actor turns ≡ front ++ (own ++ back) → AllStood places actor Is own
    all-stood front own back cut K Q only met =
        let s = stands (λ d. Q d × K d) turns old new ran (among (λ d. Q d × K d) front own back cut (met-both K Q own only met)) in
        record {
          deed = s.did.deed;
          is = s.is;
          before = s.before;
          after = s.after;
          passes = s.passes;
          for = λ e is. moved-for trusted places actor s.did s.before s.after e s.made is;
          answers = λ q a un is. (rows-of-told (rows_of q (database s.before)) (database s.before).number (database s.before).today a
              (told-same s.before.core.log_length q (database s.before) a un (answer-in q a s.did.deed s.before is s.made.seen s.made.next s.made.made.step))).0;
          unrisen = none-rose (λ d. Q d × K d) s;
          sound = λ e is mild. met-sound trusted places actor s.did e s.before s.after mild is s.made (passed-sound s.before s.passes);
        }

    -- where one that was listed got no ticket, as something isn't there, it is the pool to which it was to go
    listed-free : (object from : ℕ) (d : Deed) (m next : Machine) → ListsCopy object from d → Case places actor d m next → m.core.fault ≡ None
    listed-free object from d m next (inl (file, answer, lines, l, is, told, among_them, named, lies)) h = asked-free places actor (query.OnVolume file) answer m next (subst (λ (x : Deed). Case places actor x m next) is h)
    listed-free object from d m next (inr (answer, lines, l, is, told, among_them, named)) h = asked-free places actor (query.OnPool from) answer m next (subst (λ (x : Deed). Case places actor x m next) is h)

    numbered : (m : Machine) → m.core.next_ticket + 1 < 2 ^ 62 → unless (nat_lt (m.core.next_ticket + 1) (2 ^ 62)) refused.InventoryFull ≡ []
    numbered m low = none-full (nat_lt (m.core.next_ticket + 1) (2 ^ 62)) (lt-ltb (m.core.next_ticket + 1) (2 ^ 62) low)

    unpooled : (front did back : List Event) → events_of actor turns ≡ front ++ (did ++ back) → HaveNumbers places Is actor → (object from placed to : ℕ) (along : Bool) (avoid : ℕ) → GotNoTicket object from placed to along avoid did refused.NotFound
        → (m : Machine) × Is m × (has_pool to (database m) ≡ false)
    unpooled front did back cut free object from placed to along avoid (xs, ys, apart, listed, met) =
        let a_move : Aim = aim.Move from placed to along in
        let Lists : Deed → Type 0 = ListsCopy object from in
        let Opens : Deed → Type 0 = (λ d. d ≡ OpenCopy object a_move avoid (Err refused.NotFound)) in
        let all : events_of actor turns ≡ (front ++ xs) ++ (ys ++ back) =
        cut ∙ ap (λ (l : List Event). front ++ (l ++ back)) apart ∙ ap (λ (l : List Event). front ++ l) (append_assoc xs ys back) ∙ sym (append_assoc front xs (ys ++ back)) in
        let s = split trusted places actor (front ++ xs) (ys ++ back) turns old new all ran in
        let a = stood trusted places actor Lists s.mine old s.mid s.led (subst (λ (l : List Event). MetBy Lists l) (sym s.own) (met-next front xs Lists listed)) in
        let b = stood trusted places actor Opens s.others s.mid new s.leads (subst (λ (l : List Event). MetBy Opens l) (sym s.rest) (met-first ys back Opens met)) in
        let one = stands-as Lists turns old new (stood-within trusted places actor Lists [] s.mine s.others turns old old s.mid new s.parts refl s.leads a) in
        let two = stands-as Opens turns old new (stood-within trusted places actor Opens s.mine s.others [] turns old s.mid new new (s.parts ∙ ap (λ (l : List Turn). s.mine ++ l) (sym (append-nil s.others))) s.led refl b) in
        let g = turned-grows trusted places (a.turn ∷ (a.meets.back ++ b.meets.front)) a.meets.before b.meets.before
        (a.meets.after, a.meets.made, turned-join trusted places a.meets.back b.meets.front a.meets.after s.mid b.meets.before a.meets.leads b.meets.led) in
        let valid = (passed-sound one.before one.passes (listed-free object from one.did.deed (with_contents one.made.seen one.before) one.made.next one.is one.made.made.step)).valid in
        let there = copy-there object from one.did.deed (database one.before) valid one.is
        (λ q x un is. (rows-of-told (rows_of q (database one.before)) (database one.before).number (database one.before).today x
        (told-same one.before.core.log_length q (database one.before) x un (answer-in q x one.did.deed one.before is one.made.seen one.made.next one.made.made.step))).0) in
        let for = subst (λ (d : Deed). IsRefusedFor places actor d two.before two.after refused.NotFound) two.is (moved-for trusted places actor two.did two.before two.after refused.NotFound two.made (ap refusal two.is)) in
        let bare = free two.before two.passes a_move avoid in
        let own = only-own places actor (OpenCopy object a_move avoid (Err refused.NotFound)) two.before two.after refused.NotFound for refl (λ h. (bare.1 object refused.NotFound h).1 refl) refl (numbered two.before bare.0) (none-rose Opens two) (λ h. h) (λ h. h) in
        (two.before, two.passes, no-pool-since actor object from placed to along one.before.core two.before.core (g.1, g.0, g.2) there own)

    unopened-by : (mover : Mover) (front did back : List Event) → events_of actor turns ≡ front ++ (did ++ back) → HaveNumbers places Is actor → (e : Refusal) → e ≡ refused.NotFound → (object from placed to : ℕ) (along : Bool) (avoid : ℕ)
        → GotNoTicket object from placed to along avoid did e → IsUnopenedBy (moves mover) e
    unopened-by mover front did back cut free e missing object from placed to along avoid got =
        let here_got : GotNoTicket object from placed to along avoid did refused.NotFound = subst (λ (x : Refusal). GotNoTicket object from placed to along avoid did x) missing got in
        let none = unpooled front did back cut free object from placed to along avoid here_got in
        let a_move : Aim = aim.Move from placed to along in (
          missing,
          object,
          a_move,
          avoid,
          among (λ d. d ≡ OpenCopy object a_move avoid (Err refused.NotFound)) front did back cut (no-ticket object from placed to avoid along refused.NotFound did here_got),
          none.0,
          none.1,
          none.2,
        )

    unrun : (k : Client) (own : Own) (numbers : List ℕ) (e : Refusal) (front did back : List Event) → events_of actor turns ≡ front ++ (did ++ back) → halt_by e ≡ None → MayProcess places Is actor numbers own → DoesOwn k own numbers did (Err e)
        → IsBusyBy own e ⊎ IsUnopenedBy own e
    unrun k expire numbers e front did back cut mild may h = absurd (unexpired places actor Is did (all-stood front did back cut) e mild may (gives-err Expiration _ did e h.1))
    unrun k (delete_history to) numbers e front did back cut mild may h = inl (undeleted places actor Is did (all-stood front did back cut) e mild to may (gives-err (HistoryDeletion to) _ did e h.1))
    unrun k (audit_volume fix) numbers e front did back cut mild may h =
        absurd (unaudited places actor Is did (all-stood front did back cut) e mild fix (the_number numbers) may (gives-err (VolumeAudit fix (the_number numbers)) Audited did e h.1))
    unrun k empty_filespace numbers e front did back cut mild may h =
        let it = unemptied places actor Is did (all-stood front did back cut) e mild (the_number numbers) may (gives-err (FilespaceDeletion (the_number numbers)) _ did e h.1) in
        let still = kept-brought trusted places actor (the_number numbers) turns old new ran sounds may front did back e cut it.0 it.1 in
        inl (the_number numbers, still.0, front, did, back, cut, still.1, (may.0, may.1, it.1), still.2)
    unrun k empty_volume numbers e front did back cut mild may h =
        inl (elim (unremoved places actor Is did (all-stood front did back cut) e mild (the_number numbers) may (gives-err (VolumeDeletion true (the_number numbers)) _ did e h.1)) as (λ _. IsBusyBy empty_volume e) [
          | inl busy ↦ inl busy
          | inr it ↦ inr (the_number numbers, it.0, front, did, back, cut, it.1, it.2, it.3)
        ])
    unrun k back_up_pool numbers e front did back cut mild may h =
        inl (uncopied places actor Is did (all-stood front did back cut) e mild (the_number numbers) (the_second numbers) may (gives-err (PoolBackup (the_number numbers) (the_second numbers)) _ did e h.1))
    unrun k back_up_database numbers e front did back cut mild may h = inl (unbacked-whole places actor Is did (all-stood front did back cut) e mild may (gives-err (DatabaseBackup None) backed_up_as did e h.1))
    unrun k back_up_since numbers e front did back cut mild may h =
        inl (unfollowed places actor Is did (all-stood front did back cut) e mild
        (λ xs ys apart. all-stood (front ++ xs) ys back (cut ∙ ap (λ (l : List Event). front ++ (l ++ back)) apart ∙ ap (λ (l : List Event). front ++ l) (append_assoc xs ys back) ∙ sym (append_assoc front xs (ys ++ back)))) may
        (gives-err DatabaseIncrement backed_up_as did e h.1))
    unrun k (moves mover) numbers e front did back cut mild may h =
        elim (unmoved places actor Is did (all-stood front did back cut) e mild numbers mover may (gives-err (MovesSo mover (the_number numbers) (the_second numbers)) _ did e h.1)) as (λ _. IsBusyBy (moves mover) e ⊎ IsUnopenedBy (moves mover) e) [
          | inl busy ↦ inl busy
          | inr (missing, object, from, placed, to, along, avoid, got) ↦ inr (unopened-by mover front did back cut (numbers-of places actor Is did (all-stood front did back cut) e mild numbers mover may) e missing object from placed to along avoid got)
        ]
    unrun k own numbers e front did back cut mild may h = absurd may

    -- RESTORE VOLUME
    unlost : (k : Client) (own : Own) (numbers : List ℕ) (e : Refusal) (front did back : List Event) → events_of actor turns ≡ front ++ (did ++ back) → halt_by e ≡ None → MayLose places Is actor numbers own → DoesOwn k own numbers did (Err e)
        → IsBusyBy own e ⊎ IsUnopenedBy own e
    unlost k (moves volume_restorer) numbers e front did back cut mild may h =
        let behind_it = (λ (xs ys : List Event) (apart : did ≡ xs ++ ys). cut ∙ ap (λ (l : List Event). front ++ (l ++ back)) apart ∙ ap (λ (l : List Event). front ++ l) (append_assoc xs ys back) ∙ sym (append_assoc front xs (ys ++ back))) in
        elim (unrestored-volume places actor Is did (all-stood front did back cut) e mild (the_number numbers) (λ xs ys apart. all-stood (front ++ xs) ys back (behind_it xs ys apart)) may.0 (λ m at. (may.1 m at).0)
        (λ m at. ((may.1 m at).1, (may.1 m at).2)) (λ m at c xs ys apart plain is why mild_why. unchanged c why (front ++ xs) ys back (behind_it xs ys apart) plain mild_why (subst (λ (x : Change). (n : Machine) → Is n → MayCommit actor x n) is (may.1 m at).3))
        (gives-err (VolumeRestore (the_number numbers)) _ did e h.1)) as (λ _. IsBusyBy (moves volume_restorer) e ⊎ IsUnopenedBy (moves volume_restorer) e) [
          | inl busy ↦ inl busy
          | inr (missing, object, from, placed, to, along, avoid, got) ↦ inr (unopened-by volume_restorer front did back cut may.0 e missing object from placed to along avoid got)
        ]
    unlost k own numbers e front did back cut mild may h = absurd may

    -- ---- PUT

    -- the node and the filespace of a file, as a backup names them
    abbrev owner-of : FilePut → IncrementalBackup
    owner-of p = record { node = p.node; filespace = p.filespace; tree = 0 }

    unasked-by : {A : Type 0} (q : Query) (kind : A → reply.Rows) (e : Refusal) (front own back : List Event) → events_of actor turns ≡ front ++ (own ++ back) → halt_by e ≡ None
        → ((m : Machine) → Is m → (x : reply.Rows) × (rows_of q (database m) ≡ Ok x)) → OrMemory (Asks q kind) own (Err e) → ⊥
    unasked-by q kind e front own back cut mild may (inl h) = rows-there q e front own back cut mild may (met-asks q kind e own mild h)
    unasked-by q kind e front own back cut mild may (inr (none, is)) = (let same : e ≡ refused.Memory = cc in not-memory e mild same)

    -- what holds of each state
    abbrev AreReady : List Rule → FilePut → ℕ → Home → Type 0
    AreReady choice p node home =
        (m : Machine) → Is m → IsHome actor p.node p.filespace node m × IsBound node choice p home (database m) × MayStore actor node p home.class m

    -- and of each at which a ticket is opened for it
    abbrev IsRoomy : FilePut → Home → Type 0
    IsRoomy p home = (m : Machine) → Opening home.pool (length p.text) m → HasRoom places actor home.pool (length p.text) m

    -- ---- where it goes

    node-asked : (p : FilePut) (node number : ℕ) (front own back : List Event) → events_of actor turns ≡ front ++ (own ++ back) → AreHome (owner-of p) node → OrMemory (AsksNode p.node) own (Ok number) → number ≡ node
    node-asked p node number front own back cut may (inr (none, is)) = absurd cc
    node-asked p node number front own back cut may (inl (a, is, made)) =
        let at = rows-at (query.Lookup (thing.Node p.node)) a refl (among (λ d. d ≡ Ask (query.Lookup (thing.Node p.node)) (Ok a)) front own back cut (made-ok (query.Lookup (thing.Node p.node)) a own made)) in
        let same : a.rows ≡ replies.Lookup (found.Number node) =
        rows-same (rows_of (query.Lookup (thing.Node p.node)) (database at.0)) a.rows (replies.Lookup (found.Number node)) at.2 (node-there (owner-of p) node at.0 (may at.0 at.1)) in
        ap number-of-found (ap lookup-in (sym is ∙ same))

    same-home : (choice : List Rule) (p : FilePut) (node : ℕ) (home : Home) (rules : Rules) (v : Inv) → IsBound node choice p home v → rules_of node v ≡ Ok rules → home_of node rules choice p.path ≡ Ok home
    same-home choice p node home rules v (others, are, is) asked =
        let both : ◌≡◌ {A = Result Rules Refusal} (Ok others) (Ok rules) = sym are ∙ asked in
        let same : others ≡ rules = cc in
        subst (λ (r : Rules). home_of node r choice p.path ≡ Ok home) same is

    bound-so : (choice : List Rule) (p : FilePut) (node : ℕ) (home : Home) (rules : Rules) (front own back : List Event) → events_of actor turns ≡ front ++ (own ++ back) → AreReady choice p node home → AsksRules node own (Ok rules)
        → home_of node rules choice p.path ≡ Ok home
    bound-so choice p node home rules front own back cut ready (a, is, made) =
        let at = rows-at (query.Rules node) a refl (among (λ d. d ≡ Ask (query.Rules node) (Ok a)) front own back cut (made-ok (query.Rules node) a own made)) in
        same-home choice p node home rules (database at.0) (ready at.0 at.1).1 (rules-told node rules (database at.0) (at.2 ∙ ap (λ (x : reply.Rows). Ok x) is))

    unhomed : (choice : List Rule) (p : FilePut) (node : ℕ) (home : Home) (e : Refusal) (front own back : List Event) → events_of actor turns ≡ front ++ (own ++ back) → halt_by e ≡ None → AreReady choice p node home
        → FindsHome p.node choice p.path own (Err e) → ⊥
    unhomed choice p node home e front own back cut mild ready (inl (f, asked_it, is)) =
        let same : f ≡ e = cc in
        unasked-by (query.Lookup (thing.Node p.node)) (λ number. replies.Lookup (found.Number number)) f front own back cut (subst (λ (x : Refusal). halt_by x ≡ None) (sym same) mild)
        (λ m there. (replies.Lookup (found.Number node), node-there (owner-of p) node m (ready m there).0)) asked_it
    unhomed choice p node home e front own back cut mild ready (inr (number, (xs, ys, apart, first, inl (f, asked_it, is)))) =
        let same : f ≡ e = cc in
        let one : number ≡ node = node-asked p node number front xs (ys ++ back) (parts-first front own back xs ys cut apart) (λ m there. (ready m there).0) first in
        unasked-by (query.Rules node) replies.Rules f (front ++ xs) ys back (parts-next front own back xs ys cut apart) (subst (λ (x : Refusal). halt_by x ≡ None) (sym same) mild)
        (λ m there. rules-there (owner-of p) node m (ready m there).0) (inl (subst (λ (n : ℕ). AsksRules n ys (Err f)) one asked_it))
    unhomed choice p node home e front own back cut mild ready (inr (number, (xs, ys, apart, first, inr (rules, (us, vs, cut_in, asked_it, (none, inl memory)))))) = not-memory e mild memory
    unhomed choice p node home e front own back cut mild ready (inr (number, (xs, ys, apart, first, inr (rules, (us, vs, cut_in, asked_it, (none, inr decided)))))) =
        let one : number ≡ node = node-asked p node number front xs (ys ++ back) (parts-first front own back xs ys cut apart) (λ m there. (ready m there).0) first in
        let at = parts-first (front ++ xs) ys back us vs (parts-next front own back xs ys cut apart) cut_in in
        let is : home_of node rules choice p.path ≡ Ok home = bound-so choice p node home rules (front ++ xs) us (vs ++ back) at ready (subst (λ (n : ℕ). AsksRules n us (Ok rules)) one asked_it) in
        let odd : ◌≡◌ {A = Result Home Refusal} (Ok home) (Err e) = sym is ∙ ap (λ (n : ℕ). home_of n rules choice p.path) (sym one) ∙ decided in
        cc

    homed : (choice : List Rule) (p : FilePut) (node : ℕ) (home other : Home) (front own back : List Event) → events_of actor turns ≡ front ++ (own ++ back) → AreReady choice p node home → FindsHome p.node choice p.path own (Ok other) → other ≡ home
    homed choice p node home other front own back cut ready (inl (f, asked_it, is)) = absurd cc
    homed choice p node home other front own back cut ready (inr (number, (xs, ys, apart, first, inl (f, asked_it, is)))) = absurd cc
    homed choice p node home other front own back cut ready (inr (number, (xs, ys, apart, first, inr (rules, (us, vs, cut_in, asked_it, (none, decided)))))) =
        let one : number ≡ node = node-asked p node number front xs (ys ++ back) (parts-first front own back xs ys cut apart) (λ m there. (ready m there).0) first in
        let at = parts-first (front ++ xs) ys back us vs (parts-next front own back xs ys cut apart) cut_in in
        let is : home_of node rules choice p.path ≡ Ok home = bound-so choice p node home rules (front ++ xs) us (vs ++ back) at ready (subst (λ (n : ℕ). AsksRules n us (Ok rules)) one asked_it) in
        let both : ◌≡◌ {A = Result Home Refusal} (Ok other) (Ok home) = sym decided ∙ ap (λ (n : ℕ). home_of n rules choice p.path) one ∙ is in
        cc

    -- ---- its filespace

    abbrev space_query : FilePut → Query
    space_query p = query.Lookup (thing.Filespace p.node p.filespace)

    space-told : (p : FilePut) (node number : ℕ) (a : rows.Answer) → AreHome (owner-of p) node → a.rows ≡ replies.Lookup (found.Number number) → (s : Stands (λ d. d ≡ Ask (space_query p) (Ok a)) turns old new)
        → filespace-at (owner-of p) node s.before ≡ Some number
    space-told p node number a may is s = filespace-of p.node p.filespace node number (database s.before) (may s.before s.passes).0 (rows-of-step (space_query p) a refl s ∙ ap (λ (x : reply.Rows). Ok x) is)

    rows-why : (q : Query) (e : Refusal) → halt_by e ≡ None → (s : Stands (λ d. d ≡ Ask q (Err e)) turns old new) → rows_of q (database s.before) ≡ Err e
    rows-why q e mild s = err-of (λ (x : reply.Rows). record { n = (database s.before).number; today = (database s.before).today; rows = x }) (rows_of q (database s.before)) e (asked-why q e mild s)

    space-missing : (p : FilePut) (node : ℕ) (e : Refusal) → halt_by e ≡ None → AreHome (owner-of p) node → (s : Stands (λ d. d ≡ Ask (space_query p) (Err e)) turns old new)
        → (filespace-at (owner-of p) node s.before ≡ None) × (e ≡ refused.NotFound)
    space-missing p node e mild may s = no-filespace p.node p.filespace node e (database s.before) (may s.before s.passes).0 (rows-why (space_query p) e mild s)

    looked-err : (f e : Refusal) → ◌≡◌ {A = Result (Option ℕ) Refusal} (Err e) (there_or_not (Err f)) → e ≡ f
    looked-err refused.NotFound e h = absurd cc
    looked-err f e h = cc

    unlooked : (p : FilePut) (node : ℕ) (e : Refusal) (front own back : List Event) → events_of actor turns ≡ front ++ (own ++ back) → halt_by e ≡ None → AreHome (owner-of p) node → Looks p.node p.filespace own (Err e) → ⊥
    unlooked p node e front own back cut mild may (Ok number, asked_it, is) = absurd cc
    unlooked p node e front own back cut mild may (Err f, inr (none, wanted), is) =
        let same : e ≡ f = looked-err f e is in
        let one : f ≡ refused.Memory = cc in
        not-memory e mild (same ∙ one)
    unlooked p node e front own back cut mild may (Err f, inl asked_it, is) =
        let same : e ≡ f = looked-err f e is in
        let mild_f : halt_by f ≡ None = subst (λ (x : Refusal). halt_by x ≡ None) same mild in
        let s = stands (λ d. d ≡ Ask (space_query p) (Err f)) turns old new ran
        (among (λ d. d ≡ Ask (space_query p) (Err f)) front own back cut (met-asks (space_query p) (λ number. replies.Lookup (found.Number number)) f own mild_f asked_it)) in
        let missing : f ≡ refused.NotFound = (space-missing p node f mild_f may s).1 in
        let odd : ◌≡◌ {A = Result (Option ℕ) Refusal} (Err e) (Ok None) = is ∙ ap (λ (x : Refusal). there_or_not (Err x)) missing in
        cc

    -- a change that is refused, by which no run ends, was refused at its commit
    either-one : (what : Change) (e : Refusal) (own : List Event) → MetBy (IsEither what e) own → MetBy (λ d. d ≡ Commit (Plain what) [] (Err e)) own ⊎ MetBy (λ d. d ≡ Force (Err e)) own
    either-one what e [] met = absurd met
    either-one what e (x ∷ own) (inl (inl is)) = inl (inl is)
    either-one what e (x ∷ own) (inl (inr is)) = inr (inl is)
    either-one what e (x ∷ own) (inr later) = elim (either-one what e own later) as (λ _. MetBy (λ d. d ≡ Commit (Plain what) [] (Err e)) (x ∷ own) ⊎ MetBy (λ d. d ≡ Force (Err e)) (x ∷ own)) [
      | inl h ↦ inl (inr h)
      | inr h ↦ inr (inr h)
    ]

    changing-refused : (what : Change) (e : Refusal) (front own back : List Event) → events_of actor turns ≡ front ++ (own ++ back) → halt_by e ≡ None → Changing what own (Err e) → MetBy (λ d. d ≡ Commit (Plain what) [] (Err e)) own
    changing-refused what e front own back cut mild h =
        elim h.cause as (λ _. MetBy (λ d. d ≡ Commit (Plain what) [] (Err e)) own) [
          | inl memory ↦ absurd (not-memory e mild memory)
          | inr caused ↦
              let both = met-both (IsOfChange what) (λ d. refusal d ≡ Some e) own h.only caused.1 in
              elim (either-one what e own (met-so (λ d. (refusal d ≡ Some e) × IsOfChange what d) (IsEither what e) own (either-of what e) both)) as (λ _. MetBy (λ d. d ≡ Commit (Plain what) [] (Err e)) own) [
                | inl it ↦ it
                | inr it ↦ absurd (unforced e mild (stands (λ d. d ≡ Force (Err e)) turns old new ran (among (λ d. d ≡ Force (Err e)) front own back cut it)))
              ]
        ]

    unplaced-mild : (why e : Refusal) (b : Bool) → is_unplaced why ≡ b → e ≡ (if b then why else refused.Memory) → halt_by e ≡ None → (e ≡ why) × (is_unplaced why ≡ true)
    unplaced-mild why e true has is mild = (is, has)
    unplaced-mild why e false has is mild = absurd (not-memory e mild is)

    defined-err : (why e : Refusal) → ◌≡◌ {A = Result (Unit {0}) Refusal} (Err e) (defined_by (Err why)) → halt_by e ≡ None → (e ≡ why) × ((number_of why == 11) ≡ false)
    defined-err refused.Exists e h mild = absurd cc
    defined-err why e h mild = (let same : e ≡ unplaced why = cc in ((unplaced-mild why e (is_unplaced why) refl same mild).0, refl))

    undefinable-put : (p : FilePut) (node : ℕ) (e : Refusal) (front own back : List Event) → events_of actor turns ≡ front ++ (own ++ back) → halt_by e ≡ None → AreHome (owner-of p) node → Defines node p.filespace own (Err e) → ⊥
    undefinable-put p node e front own back cut mild may (Ok number, changing, is) = absurd cc
    undefinable-put p node e front own back cut mild may (Err why, changing, is) =
        let same = defined-err why e is mild in
        let mild_why : halt_by why ≡ None = subst (λ (x : Refusal). halt_by x ≡ None) same.0 mild in
        let s = stands (Defining (owner-of p) node (Err why)) turns old new ran (among (Defining (owner-of p) node (Err why)) front own back cut (changing-refused (definition (owner-of p) node) why front own back cut mild_why changing)) in
        undefined-not (owner-of p) node why s.before (filespace-at (owner-of p) node s.before) refl (may s.before s.passes) same.1 (defining-why (owner-of p) node why mild_why s)

    defined-exists : (why : Refusal) → ◌≡◌ {A = Result (Unit {0}) Refusal} (Ok tt) (defined_by (Err why)) → why ≡ refused.Exists
    defined-exists refused.Exists h = refl
    defined-exists why h = absurd cc

    shown-put : (p : FilePut) (node : ℕ) (front own back : List Event) → events_of actor turns ≡ front ++ (own ++ back) → Remains Is node p.filespace → Defines node p.filespace own (Ok tt) → ShowsIt (owner-of p) node own
    shown-put p node front own back cut stays (Err why, changing, is) =
        let exists : why ≡ refused.Exists = defined-exists why is in
        let already : (number_of why == 11) ≡ true = ap (λ (x : Refusal). number_of x == 11) exists in (
          Commit (Plain (definition (owner-of p) node)) [] (Err why),
          changing-refused (definition (owner-of p) node) why front own back cut (mild-there why already) changing,
          λ s. there-already (owner-of p) node why stays already s (filespace-at (owner-of p) node s.meets.before) refl,
        )
    shown-put p node front own back cut stays (Ok number, changing, is) = joined-in changing.order
      where
        joined-in : ChangesOf (definition (owner-of p) node) own (Ok number) → ShowsIt (owner-of p) node own
        joined-in (last, (xs, ys, apart, (waited, (us, vs, cut_in, waits, inr (inl (f, held, odd)))), forced)) = absurd cc
        joined-in (last, (xs, ys, apart, (waited, (us, vs, cut_in, waits, inr (inr (many, none, odd)))), forced)) = absurd cc
        joined-in (last, (xs, ys, apart, (waited, (us, vs, cut_in, waits, inl (none, made))), forced)) =
            let it = shown-by (owner-of p) node vs stays (inr (Ok number, made, refl)) in
            let within = shown-behind (owner-of p) node us vs it in
            subst (λ (l : List Event). ShowsIt (owner-of p) node l) (sym apart) (shown-first (owner-of p) node xs ys (subst (λ (l : List Event). ShowsIt (owner-of p) node l) (sym cut_in) within))

    or-shown : (p : FilePut) (node : ℕ) (done : Unit {0}) (front own back : List Event) → events_of actor turns ≡ front ++ (own ++ back) → Remains Is node p.filespace → OrMemory (Defines node p.filespace) own (Ok done) → ShowsIt (owner-of p) node own
    or-shown p node done front own back cut stays (inl defines) = shown-put p node front own back cut stays defines
    or-shown p node done front own back cut stays (inr (none, is)) = absurd cc

    unfound-put : (p : FilePut) (node : ℕ) (e : Refusal) (front own back : List Event) → events_of actor turns ≡ front ++ (own ++ back) → halt_by e ≡ None → AreHome (owner-of p) node → Remains Is node p.filespace
        → FindsFilespace p.node p.filespace node own (Err e) → ⊥
    unfound-put p node e front own back cut mild may stays (inl (f, looks, is)) =
        let same : f ≡ e = cc in unlooked p node f front own back cut (subst (λ (x : Refusal). halt_by x ≡ None) (sym same) mild) may looks
    unfound-put p node e front own back cut mild may stays (inr (Some it, (xs, ys, apart, looks, (none, inl memory)))) = not-memory e mild memory
    unfound-put p node e front own back cut mild may stays (inr (Some it, (xs, ys, apart, looks, (none, inr odd)))) = cc
    unfound-put p node e front own back cut mild may stays (inr (None, (xs, ys, apart, looks, inl (f, inl defines, is)))) =
        let same : f ≡ e = cc in
        undefinable-put p node f (front ++ xs) ys back (parts-next front own back xs ys cut apart) (subst (λ (x : Refusal). halt_by x ≡ None) (sym same) mild) may defines
    unfound-put p node e front own back cut mild may stays (inr (None, (xs, ys, apart, looks, inl (f, inr (none, wanted), is)))) = (let same : e ≡ refused.Memory = cc in not-memory e mild same)
    unfound-put p node e front own back cut mild may stays (inr (None, (xs, ys, apart, looks, inr (done, (us, vs, cut_in, defines, inr (none, wanted)))))) = (let same : e ≡ refused.Memory = cc in not-memory e mild same)
    unfound-put p node e front own back cut mild may stays (inr (None, (xs, ys, apart, looks, inr (done, (us, vs, cut_in, defines, inl asked_it))))) =
        let at = parts-next front own back xs ys cut apart in
        let shows = shown-behind (owner-of p) node (front ++ xs) us (or-shown p node done (front ++ xs) us (vs ++ back) (parts-first (front ++ xs) ys back us vs at cut_in) stays defines) in
        let t = two-of (λ x. x ≡ shows.0) (λ x. x ≡ Ask (space_query p) (Err e)) ((front ++ xs) ++ us) (vs ++ back) turns old new (parts-next (front ++ xs) ys back us vs at cut_in) ran shows.1
        (met-first vs back (λ x. x ≡ Ask (space_query p) (Err e)) (met-asks (space_query p) (λ number. replies.Lookup (found.Number number)) e vs mild asked_it)) in
        let there = shows.2 t.one in
        let s = stands-as (λ x. x ≡ Ask (space_query p) (Err e)) turns old new t.two in
        none-missing (owner-of p) node t.two.meets.before stays s.passes (t.one.meets.after, passes-after trusted places actor (λ x. x ≡ shows.0) turns old new t.one, t.rises, there.0, there.1) (space-missing p node e mild may s).0

    -- its number was told
    abbrev SpaceAsked : FilePut → (number : ℕ) → List Event → Type 0
    SpaceAsked p number events = (a : rows.Answer) × (a.rows ≡ replies.Lookup (found.Number number)) × MetBy (λ d. d ≡ Ask (space_query p) (Ok a)) events

    space-in : (p : FilePut) (number : ℕ) (front own back : List Event) → SpaceAsked p number own → SpaceAsked p number (front ++ (own ++ back))
    space-in p number front own back (a, is, met) = (a, is, met-next front (own ++ back) (λ d. d ≡ Ask (space_query p) (Ok a)) (met-first own back (λ d. d ≡ Ask (space_query p) (Ok a)) met))

    asked-so : (p : FilePut) (number : ℕ) (own : List Event) → AsksForSpace p.node p.filespace own (Ok number) → SpaceAsked p number own
    asked-so p number own (inl (a, is, made)) = (a, is, made-ok (space_query p) a own made)
    asked-so p number own (inr (none, is)) = absurd cc

    there-some : (answer : Result ℕ Refusal) (it : ℕ) → ◌≡◌ {A = Result (Option ℕ) Refusal} (Ok (Some it)) (there_or_not answer) → answer ≡ Ok it
    there-some (Ok number) it h = (let same : it ≡ number = cc in ap Ok (sym same))
    there-some (Err refused.NotFound) it h = absurd cc
    there-some (Err e) it h = absurd cc

    space-asked : (p : FilePut) (node number : ℕ) (own : List Event) → FindsFilespace p.node p.filespace node own (Ok number) → SpaceAsked p number own
    space-asked p node number own (inl (f, looks, is)) = absurd cc
    space-asked p node number own (inr (Some it, (xs, ys, apart, (answer, asked_it, is), (none, decided)))) =
        let same : it ≡ number = cc in
        let told : SpaceAsked p it xs = asked-so p it xs (subst (λ (r : Result ℕ Refusal). AsksForSpace p.node p.filespace xs r) (there-some answer it is) asked_it) in
        subst (λ (l : List Event). SpaceAsked p number l) (sym apart) (space-in p number [] xs ys (subst (λ (n : ℕ). SpaceAsked p n xs) same told))
    space-asked p node number own (inr (None, (xs, ys, apart, looks, inl (f, defines, is)))) = absurd cc
    space-asked p node number own (inr (None, (xs, ys, apart, looks, inr (done, (us, vs, cut_in, defines, asked_it))))) =
        let told : SpaceAsked p number vs = asked-so p number vs asked_it in
        let (a, is, met) = told in
        subst (λ (l : List Event). SpaceAsked p number l) (sym apart)
        (a, is, met-next xs ys (λ d. d ≡ Ask (space_query p) (Ok a)) (subst (λ (l : List Event). MetBy (λ d. d ≡ Ask (space_query p) (Ok a)) l) (sym cut_in) (met-next us vs (λ d. d ≡ Ask (space_query p) (Ok a)) met)))

    -- ---- its place

    unopened-not : (choice : List Rule) (p : FilePut) (node : ℕ) (home : Home) (e : Refusal) → halt_by e ≡ None → (((h : Holder) → e ≡ refused.Busy h → ⊥)) → IsRoomy p home
        → Stood trusted places actor (λ d. d ≡ OpenNew home.pool (length p.text) 0 (Err e)) turns old new → ⊥
    unopened-not choice p node home e mild free roomy st =
        let s = stands-as (λ d. d ≡ OpenNew home.pool (length p.text) 0 (Err e)) turns old new st in
        let for : IsRefusedFor places actor s.did.deed s.before s.after e = moved-for trusted places actor s.did s.before s.after e s.made (ap refusal s.is) in
        let room = roomy s.before (st.turn, st.meets, st.mine, Err e, st.is, refl) in
        never places actor (OpenNew home.pool (length p.text) 0 (Err e)) s.before s.after e (subst (λ (d : Deed). IsRefusedFor places actor d s.before s.after e) s.is for) mild
        (λ h. nothing-held e (new_refused home.pool (length p.text) (sight actor s.before.core)) room.0 h) (λ h. (let held = room.1 e h in free held.0 held.1)) refl
        (two-rooms (nat_lt (s.before.core.next_object + 1) (2 ^ 62)) (nat_lt (s.before.core.next_ticket + 1) (2 ^ 62)) (lt-ltb (s.before.core.next_object + 1) (2 ^ 62) room.2) (lt-ltb (s.before.core.next_ticket + 1) (2 ^ 62) room.3))
        (none-rose (λ d. d ≡ OpenNew home.pool (length p.text) 0 (Err e)) s) (λ h. h) (λ h. h)
      where
        two-rooms : (a b : Bool) → a ≡ true → b ≡ true → unless a refused.InventoryFull ++ unless b refused.InventoryFull ≡ []
        two-rooms true true x y = refl
        two-rooms true false x y = absurd cc
        two-rooms false b x y = absurd cc

    -- a volume that can't be written has a count that rose
    abbrev IsUnfaulty : Refusal → Type 0
    IsUnfaulty e = is_write_fault e ≡ false

    nothing-foremost : (e : Refusal) → foremost [] ≡ Some e → ⊥
    nothing-foremost e h = cc

    faulty-not : (deed : Deed) (e : Refusal) → halt_by e ≡ None → refusal deed ≡ Some e → is_write_fault e ≡ true → ((m : Machine) → AllByRecursion IsUnfaulty (own_reasons actor deed (sight actor m.core)))
        → ((m : Machine) → bounds deed m.core ≡ []) → ((m : Machine) (f : Refusal) → HasNoPlace places actor deed m f → ⊥) → ((m : Machine) → held_reasons actor deed m.core ≡ [])
        → ((m n : Machine) → IsUnread actor deed m n → ⊥) → ((m : Machine) → IsUnended actor deed m → ⊥) → (s : Stands (λ d. d ≡ deed) turns old new) → ⊥
    faulty-not deed e mild is faulty own bound place held unread unended s =
        let for : IsRefusedFor places actor s.did.deed s.before s.after e = moved-for trusted places actor s.did s.before s.after e s.made (ap refusal s.is ∙ is) in
        let reason = only-own places actor deed s.before s.after e (subst (λ (d : Deed). IsRefusedFor places actor d s.before s.after e) s.is for) mild (place s.before e) (held s.before) (bound s.before) (none-rose (λ d. d ≡ deed) s)
        (unread s.before s.after) (unended s.before) in
        true≢false (sym faulty ∙ foremost-all IsUnfaulty (own_reasons actor deed (sight actor s.before.core)) (own s.before) e reason)

    unwritten-not : (number : ℕ) (bytes : List ℕ) (why : Refusal) (front own back : List Event) → events_of actor turns ≡ front ++ (own ++ back) → halt_by why ≡ None → is_write_fault why ≡ true → Made (WritePiece number bytes (Err why)) own → ⊥
    unwritten-not number bytes why front own back cut mild faulty made =
        faulty-not (WritePiece number bytes (Err why)) why mild refl faulty (λ m. all-behind IsUnfaulty (ended m) (write_refused number (length bytes) (sight actor m.core)) (mild-write m number (length bytes) (sight actor m.core)))
        (λ m. refl) (λ m f h. h) (λ m. refl) (λ m n h. h) (λ m h. h)
        (stands (λ d. d ≡ WritePiece number bytes (Err why)) turns old new ran (among (λ d. d ≡ WritePiece number bytes (Err why)) front own back cut (met-made (WritePiece number bytes (Err why)) why own refl mild made)))

    unsealed-not : (number : ℕ) (why : Refusal) (front own back : List Event) → events_of actor turns ≡ front ++ (own ++ back) → halt_by why ≡ None → is_write_fault why ≡ true → Made (Seal number (Err why)) own → ⊥
    unsealed-not number why front own back cut mild faulty made =
        faulty-not (Seal number (Err why)) why mild refl faulty (λ m. all-behind IsUnfaulty (ended m) (seal_refused number (sight actor m.core)) (mild-seal m number (sight actor m.core)))
        (λ m. refl) (λ m f h. h) (λ m. refl) (λ m n h. h) (λ m h. h)
        (stands (λ d. d ≡ Seal number (Err why)) turns old new ran (among (λ d. d ≡ Seal number (Err why)) front own back cut (met-made (Seal number (Err why)) why own refl mild made)))

    -- what isn't written by a fault ends the run
    unwritten-as : (why f : Refusal) (b : Bool) → is_write_fault why ≡ b → f ≡ (if b then why else stopping why) → halt_by f ≡ None → (f ≡ why) × (is_write_fault why ≡ true)
    unwritten-as why f true faulty is mild = (is, faulty)
    unwritten-as why f false faulty is mild = absurd (ends-halt f (subst Ends (sym is) (ends-stopping why)) mild)

    -- a text is filled in but for a fault
    breaks-not : (p : FilePut) (ticket before after_it : ℕ) (f : Refusal) (front own back : List Event) → events_of actor turns ≡ front ++ (own ++ back) → halt_by f ≡ None → (f ≡ refused.TreeFault → ⊥)
        → Breaks (Some (file_put p)) ticket (length p.text) before after_it f own → ⊥
    breaks-not p ticket before after_it f front own back cut mild sound (bytes, less, (xs, ys, apart, wrote, inl (none, inl tree))) = sound tree.0
    breaks-not p ticket before after_it f front own back cut mild sound (bytes, less, (xs, ys, apart, wrote, inl (none, inr early))) = (let short : length p.text ≤ length bytes = early.1 in omega (arith, less, short))
    breaks-not p ticket before after_it f front own back cut mild sound (bytes, less, (xs, ys, apart, wrote, inr (piece, why, is, made))) =
        let same = unwritten-as why f (is_write_fault why) refl is mild in
        unwritten-not ticket piece why (front ++ xs) ys back (parts-next front own back xs ys cut apart) (subst (λ (x : Refusal). halt_by x ≡ None) same.0 mild) same.1 made

    fills-not : (p : FilePut) (ticket before after_it : ℕ) (f : Refusal) (front own back : List Event) → events_of actor turns ≡ front ++ (own ++ back) → halt_by f ≡ None → (f ≡ refused.TreeFault → ⊥)
        → Fills (Some (file_put p)) ticket (length p.text) before after_it own (Err f) → ⊥
    fills-not p ticket before after_it f front own back cut mild sound (inl breaks) = breaks-not p ticket before after_it f front own back cut mild sound breaks
    fills-not p ticket before after_it f front own back cut mild sound (inr (inl (digest, copies, inl tree))) = sound tree.0
    fills-not p ticket before after_it f front own back cut mild sound (inr (inl (digest, copies, inr more))) = (let long : length p.text < length p.text = more.1 in omega (arith, long))
    fills-not p ticket before after_it f front own back cut mild sound (inr (inr (digest, why, is, (xs, ys, apart, copies, made)))) =
        let same = unwritten-as why f (is_write_fault why) refl is mild in
        unsealed-not ticket why (front ++ xs) ys back (parts-next front own back xs ys cut apart) (subst (λ (x : Refusal). halt_by x ≡ None) same.0 mild) same.1 made

    failing-as : (f e : Refusal) (b : Bool) → ◌≡◌ {A = Result SentAs Refusal} (Ok (sent.Failed e)) (if b then Ok (sent.Failed f) else Err (stopping f)) → e ≡ f
    failing-as f e true is = cc
    failing-as f e false is = absurd cc

    given-as : (ticket : ℕ) (f e : Refusal) (own : List Event) → GivesUp ticket f own (Ok (sent.Failed e)) → e ≡ f
    given-as ticket f e own (inl (spent, none, is)) = failing-as f e (is_unfilled f) is
    given-as ticket f e own (inr (left, Ok done, made, is)) = failing-as f e (is_unfilled f) is
    given-as ticket f e own (inr (left, Err other, made, is)) = absurd cc

    unopened-as : (f e : Refusal) → ◌≡◌ {A = Result SentAs Refusal} (Ok (sent.Failed e)) (unopened f) → (e ≡ f) × ((h : Holder) → f ≡ refused.Busy h → ⊥)
    unopened-as (refused.Busy holder) e is = absurd cc
    unopened-as f e is = (failing-as f e (is_unopened f) is, λ h odd. cc)

    -- one try
    untried : (choice : List Rule) (p : FilePut) (node : ℕ) (home : Home) (e : Refusal) (front own back : List Event) → events_of actor turns ≡ front ++ (own ++ back) → halt_by e ≡ None → (e ≡ refused.TreeFault → ⊥) → IsRoomy p home
        → holder_in {A = Sealed} (Err e) ≡ None → SendsOnce (Some (file_put p)) home.pool (length p.text) (Err e) own → ⊥
    untried choice p node home e front own back cut mild sound roomy free (before, after_it, Ok (sent.Written ticket digest), sending, is) = absurd cc
    untried choice p node home e front own back cut mild sound roomy free (before, after_it, Ok (sent.Held h), sending, is) =
        let same : e ≡ refused.Busy h = cc in
        let odd : Some h ≡ None = ap (λ (x : Refusal). holder_in {A = Sealed} (Err x)) (sym same) ∙ free in
        cc
    untried choice p node home e front own back cut mild sound roomy free (before, after_it, Err f, sending, is) =
        let same : e ≡ f = cc in
        ends-halt e (subst Ends (sym same) (sends-ends home.pool (length p.text) before after_it own f sending.order)) mild
      where
        sends-ends : (pool size before after_it : ℕ) (events : List Event) (f : Refusal) → SendsFile (Some (file_put p)) pool size before after_it events (Err f) → Ends f
        sends-ends pool size before after_it events f (inl (why, made, is)) = unopened-ends f why is
        sends-ends pool size before after_it events f (inr (ticket, (xs, ys, apart, made, inl (digest, fills, is)))) = absurd cc
        sends-ends pool size before after_it events f (inr (ticket, (xs, ys, apart, made, inr (why, (us, vs, cut_in, fills, gives))))) = given-up-ends ticket why f vs gives
    untried choice p node home e front own back cut mild sound roomy free (before, after_it, Ok (sent.Failed g), sending, is) =
        let same : e ≡ g = cc in
        failed-not g (subst (λ (x : Refusal). halt_by x ≡ None) same mild) (λ tree. sound (same ∙ tree)) sending.order
      where
        failed-not : (g : Refusal) → halt_by g ≡ None → (g ≡ refused.TreeFault → ⊥) → SendsFile (Some (file_put p)) home.pool (length p.text) before after_it own (Ok (sent.Failed g)) → ⊥
        failed-not g mild_g sound_g (inl (f, made, opened)) =
            let was = unopened-as f g opened in
            let mild_f : halt_by f ≡ None = subst (λ (x : Refusal). halt_by x ≡ None) was.0 mild_g in
            unopened-not choice p node home f mild_f was.1 roomy
            (stood trusted places actor (λ d. d ≡ OpenNew home.pool (length p.text) 0 (Err f)) turns old new ran
            (among (λ d. d ≡ OpenNew home.pool (length p.text) 0 (Err f)) front own back cut (met-made (OpenNew home.pool (length p.text) 0 (Err f)) f own refl mild_f made)))
        failed-not g mild_g sound_g (inr (ticket, (xs, ys, apart, made, inl (digest, fills, odd)))) = absurd cc
        failed-not g mild_g sound_g (inr (ticket, (xs, ys, apart, made, inr (f, (us, vs, cut_in, fills, gives))))) =
            let was : g ≡ f = given-as ticket f g vs gives in
            fills-not p ticket before after_it f (front ++ xs) us (vs ++ back) (parts-first (front ++ xs) ys back us vs (parts-next front own back xs ys cut apart) cut_in) (subst (λ (x : Refusal). halt_by x ≡ None) was mild_g)
            (λ tree. sound_g (was ∙ tree)) fills

    -- a wait that was refused
    waited-busy : (h : Holder) (own : List Event) (e : Refusal) → halt_by e ≡ None → AwaitsHolder h own (Err e) → IsBusy e
    waited-busy (holder.Unforced number) own e mild (answer, is, made) = absurd (ends-halt e (forced-ends e answer own made is) mild)
    waited-busy (holder.Ticket number) own e mild (none, inl same) = absurd cc
    waited-busy (holder.Ticket number) own e mild (none, inr (inl same)) = (holder.Ticket number, cc)
    waited-busy (holder.Ticket number) own e mild (none, inr (inr same)) = (let one : e ≡ refused.Memory = cc in absurd (not-memory e mild one))
    waited-busy (holder.Image other) own e mild (none, inl same) = absurd cc
    waited-busy (holder.Image other) own e mild (none, inr (inl same)) = (holder.Image other, cc)
    waited-busy (holder.Image other) own e mild (none, inr (inr same)) = (let one : e ≡ refused.Memory = cc in absurd (not-memory e mild one))

    unsent : (choice : List Rule) (p : FilePut) (node : ℕ) (home : Home) (e : Refusal) (front own back : List Event) → events_of actor turns ≡ front ++ (own ++ back) → halt_by e ≡ None → (e ≡ refused.TreeFault → ⊥) → IsRoomy p home
        → SendsSealed (Some (file_put p)) home.pool (length p.text) own (Err e) → IsBusy e
    unsent choice p node home e front own back cut mild sound roomy (waited, (xs, ys, apart, waits, inl (free, tries))) =
        absurd (untried choice p node home e (front ++ xs) ys back (parts-next front own back xs ys cut apart) mild sound roomy free tries)
    unsent choice p node home e front own back cut mild sound roomy (waited, (xs, ys, apart, waits, inr (inl (f, (h, (us, vs, cut_in, tries, awaits)), is)))) =
        let same : e ≡ f = cc in subst IsBusy (sym same) (waited-busy h vs f (subst (λ (x : Refusal). halt_by x ≡ None) same mild) awaits)
    unsent choice p node home e front own back cut mild sound roomy (waited, (xs, ys, apart, waits, inr (inr (many, none, is)))) = (let same : e ≡ refused.Memory = cc in absurd (not-memory e mild same))

    -- what was sent has the text's digest, and lies in a ticket that is there
    abbrev Opened : (ticket : ℕ) → List Event → Type 0
    Opened ticket own = (front : List Event) × (o : Event) × (fills : List Event) × (own ≡ front ++ (o ∷ fills)) × Opens ticket o.deed × AllByRecursion (λ e. Keeps e.deed) fills

    writes-keep : (ticket : ℕ) (d : Deed) → Writes ticket d → Keeps d
    writes-keep ticket (WritePiece number bytes (Ok done)) h = tt
    writes-keep ticket d h = absurd h

    all-keep : (ticket : ℕ) (events : List Event) → AllByRecursion (λ e. Writes ticket e.deed) events → AllByRecursion (λ e. Keeps e.deed) events
    all-keep ticket [] h = tt
    all-keep ticket (e ∷ events) h = (writes-keep ticket e.deed h.0, all-keep ticket events h.1)

    keep-more : (xs : List Event) (e : Event) → AllByRecursion (λ x. Keeps x.deed) xs → Keeps e.deed → AllByRecursion (λ x. Keeps x.deed) (xs ++ (e ∷ []))
    keep-more [] e h k = (k, tt)
    keep-more (x ∷ xs) e h k = (h.0, keep-more xs e h.1 k)

    unopened-written : (f : Refusal) (ticket : ℕ) (digest : Digest) → ◌≡◌ {A = Result SentAs Refusal} (Ok (sent.Written ticket digest)) (unopened f) → ⊥
    unopened-written (refused.Busy holder) ticket digest is = cc
    unopened-written f ticket digest is = written-not f (is_unopened f) is
      where
        written-not : (g : Refusal) (b : Bool) → ◌≡◌ {A = Result SentAs Refusal} (Ok (sent.Written ticket digest)) (if b then Ok (sent.Failed g) else Err (stopping g)) → ⊥
        written-not g true is = cc
        written-not g false is = cc

    failing-written : (f : Refusal) (ticket : ℕ) (digest : Digest) (b : Bool) → ◌≡◌ {A = Result SentAs Refusal} (Ok (sent.Written ticket digest)) (if b then Ok (sent.Failed f) else Err (stopping f)) → ⊥
    failing-written f ticket digest true is = cc
    failing-written f ticket digest false is = cc

    given-written : (other ticket : ℕ) (f : Refusal) (digest : Digest) (own : List Event) → GivesUp other f own (Ok (sent.Written ticket digest)) → ⊥
    given-written other ticket f digest own (inl (spent, none, is)) = failing-written f ticket digest (is_unfilled f) is
    given-written other ticket f digest own (inr (left, Ok done, made, is)) = failing-written f ticket digest (is_unfilled f) is
    given-written other ticket f digest own (inr (left, Err why, made, is)) = cc

    opened-in : (p : FilePut) (pool ticket before after_it : ℕ) (digest : Digest) (own : List Event) → SendsFile (Some (file_put p)) pool (length p.text) before after_it own (Ok (sent.Written ticket digest)) → Opened ticket own
    opened-in p pool ticket before after_it digest own (inl (f, made, is)) = absurd (unopened-written f ticket digest is)
    opened-in p pool ticket before after_it digest own (inr (other, (xs, ys, apart, made, inr (f, (us, vs, cut_in, fills, gives))))) = absurd (given-written other ticket f digest vs gives)
    opened-in p pool ticket before after_it digest own (inr (other, (xs, ys, apart, inr (memory, none), rest))) = absurd cc
    opened-in p pool ticket before after_it digest own (inr (other, (xs, ys, apart, inl (n, one, listed_it), inl (same, (short, (us, vs, cut_in, copies, (m, sealing_it, sealed_it))), is)))) =
        let ticket_is : ticket ≡ other = cc in (
          [],
          event n (OpenNew pool (length p.text) 0 (Ok other)),
          ys,
          apart ∙ ap (λ (l : List Event). l ++ ys) one,
          sym ticket_is,
          subst (λ (l : List Event). AllByRecursion (λ e. Keeps e.deed) l) (sym (cut_in ∙ ap (λ (l : List Event). us ++ l) sealing_it))
              (keep-more us (event m (Seal other (Ok tt))) (all-keep other us copies.1.only) tt),
        )

    sent-so : (p : FilePut) (pool : ℕ) (s : Sealed) (own : List Event) → SendsSealed (Some (file_put p)) pool (length p.text) own (Ok s) → (s.digest ≡ digest_with (sha256 p.text)) × Opened s.ticket own
    sent-so p pool s own (waited, (xs, ys, apart, waits, inr (inl (f, held, odd)))) = absurd cc
    sent-so p pool s own (waited, (xs, ys, apart, waits, inr (inr (many, none, odd)))) = absurd cc
    sent-so p pool s own (waited, (xs, ys, apart, waits, inl (free, (before, after_it, Err f, sending, is)))) = absurd cc
    sent-so p pool s own (waited, (xs, ys, apart, waits, inl (free, (before, after_it, Ok (sent.Failed f), sending, is)))) = absurd cc
    sent-so p pool s own (waited, (xs, ys, apart, waits, inl (free, (before, after_it, Ok (sent.Held h), sending, is)))) = absurd cc
    sent-so p pool s own (waited, (xs, ys, apart, waits, inl (free, (before, after_it, Ok (sent.Written ticket digest), sending, is)))) =
        let same : s ≡ record { ticket = ticket; digest = digest } = cc in
        let (front, o, fills, parts, opens, keep) = opened-in p pool ticket before after_it digest ys sending.order in (
          ap (λ (x : Sealed). x.digest) same ∙ sending.stored.hash ∙ ap (λ (l : List ℕ). digest_with (sha256 l)) (sym sending.stored.whole),
          subst (λ (n : ℕ). Opened n own) (sym (ap (λ (x : Sealed). x.ticket) same))
              (xs ++ front, o, fills, apart ∙ ap (λ (l : List Event). xs ++ l) parts ∙ sym (append_assoc xs front (o ∷ fills)), opens, keep),
        )

    -- ---- its transaction

    -- what is asked with the ticket, and the change that this is
    abbrev storing : ℕ → FilePut → (class : List ℕ) → Asked
    storing filespace p class = backed_up filespace (row_put p) class (digest_with (sha256 p.text))

    abbrev change-with : ℕ → FilePut → (class : List ℕ) → Inv → Option Ticket → Option Change
    change-with filespace p class v o =
        (let tickets = option_map_or (λ t. t ∷ []) o [] ++ [] in
        if length tickets == 1 && 1 == 1 then Some (change.Backup (record {
          filespace = filespace;
          scratch = scratch_of v tickets;
          items = paired version_from (record { path = p.path; class = class; mtime = p.mtime; digest = digest_with (sha256 p.text) } ∷ []) tickets;
        })) else None)

    change-is : (filespace : ℕ) (p : FilePut) (class : List ℕ) (number : ℕ) (t : Ticket) (m : Machine) → IsTicket actor number m t
        → change_of (storing filespace p class) (number ∷ []) (sight actor m.core) ≡ Some (stored_with filespace p class t (database m))
    change-is filespace p class number t m is = ap (change-with filespace p class (database m)) is

    -- it isn't refused with what a PUT passes on
    abbrev IsPassed : Refusal → Type 0
    IsPassed e = is_unplaced e ≡ false

    passed-there : (o : Option Ticket) (t : Ticket) → o ≡ Some t → AllByRecursion IsPassed (unless (is_some o) refused.NotFound ++ [])
    passed-there None t is = absurd cc
    passed-there (Some x) t is = tt

    passed-of : (rule : Ticket → List Refusal) (o : Option Ticket) → ((t : Ticket) → AllByRecursion IsPassed (rule t)) → AllByRecursion IsPassed (option_map_or rule o [] ++ [])
    passed-of rule None all = tt
    passed-of rule (Some t) all = append-all IsPassed (rule t) [] (all t) tt

    passed-digest : (given : Digest) (o : Option Ticket) → AllByRecursion IsPassed (digest_refused given o ++ [])
    passed-digest given None = tt
    passed-digest given (Some t) =
        append-all IsPassed (unless (is_same_name (digest_of t).0 given.0) (refused.DigestDiffers (digest_of t) given)) [] (unless-all IsPassed (is_same_name (digest_of t).0 given.0) (refused.DigestDiffers (digest_of t) given) refl) tt

    passed-change : (filespace : ℕ) (p : FilePut) (class : List ℕ) (number : ℕ) (t : Ticket) (m : Machine) → IsTicket actor number m t → MayCommit actor (stored_with filespace p class t (database m)) m
        → AllByRecursion IsPassed (change_refused actor (change_of (storing filespace p class) (number ∷ []) (sight actor m.core)) (sight actor m.core))
    passed-change filespace p class number t m is may =
        subst (λ (o : Option Change). AllByRecursion IsPassed (change_refused actor o (sight actor m.core))) (sym (change-is filespace p class number t m is))
        (subst (λ (l : List Refusal). AllByRecursion IsPassed l) (sym (none-held (change_refused actor (Some (stored_with filespace p class t (database m))) (sight actor m.core)) may.0)) tt)

    passed-commit : (filespace : ℕ) (p : FilePut) (class : List ℕ) (number : ℕ) (t : Ticket) (m : Machine) → IsTicket actor number m t → MayCommit actor (stored_with filespace p class t (database m)) m
        → AllByRecursion IsPassed (commit_refused actor (storing filespace p class) (number ∷ []) (sight actor m.core))
    passed-commit filespace p class number t m is may =
        let o : Option Ticket = ticket number (own_tickets actor m.core.tickets) in
        let given : Digest = digest_with (sha256 p.text) in
        append-all IsPassed (unless (is_some o) refused.NotFound ++ []) _ (passed-there o t is)
        (append-all IsPassed (unless (name_once (number ∷ []) && nat_le 1 256) bad_value) _ (unless-all IsPassed (name_once (number ∷ []) && nat_le 1 256) bad_value refl)
        (append-all IsPassed (asked_refused (storing filespace p class) (number ∷ []) (sight actor m.core)) _
        (append-all IsPassed (option_map_or (λ x. unless (is_storing x.purpose) bad_value) o [] ++ []) (digest_refused given o ++ [])
        (passed-of (λ x. unless (is_storing x.purpose) bad_value) o (λ x. unless-all IsPassed (is_storing x.purpose) bad_value refl)) (passed-digest given o))
        (append-all IsPassed (option_map_or (λ x. unless x.is_sealed (ticket_in_use x.number)) o [] ++ []) _
        (passed-of (λ x. unless x.is_sealed (ticket_in_use x.number)) o (λ x. unless-all IsPassed x.is_sealed (ticket_in_use x.number) refl)) (passed-change filespace p class number t m is may))))

    -- the filespace is the one that was told, where the transaction is tried
    abbrev Spending : FilePut → (filespace number : ℕ) → (class : List ℕ) → rows.Answer → Result ℕ Refusal → Type 0
    Spending p filespace number class a answer = Spent (λ d. d ≡ Ask (space_query p) (Ok a)) (Commit (storing filespace p class) (number ∷ []) answer) number turns old new

    still-told : (p : FilePut) (node filespace number : ℕ) (class : List ℕ) (a : rows.Answer) (answer : Result ℕ Refusal) → AreHome (owner-of p) node → Remains Is node p.filespace → a.rows ≡ replies.Lookup (found.Number filespace)
        → (t : Spending p filespace number class a answer) → filespace-at (owner-of p) node t.two.meets.before ≡ Some filespace
    still-told p node filespace number class a answer may stays has t =
        let s = stands-as (λ d. d ≡ Ask (space_query p) (Ok a)) turns old new t.one in
        let low = moved-number trusted places t.one.turn.actor t.one.turn.did t.one.meets.before t.one.meets.after t.one.meets.made in
        let high = t.rises in
        stays t.one.meets.before t.two.meets.before s.passes (passes-before trusted places actor (λ x. x ≡ Commit (storing filespace p class) (number ∷ []) answer) turns old new t.two) (omega (arith, low, high)) filespace
        (space-told p node filespace a may has s)

    uncommitted-put : (choice : List Rule) (p : FilePut) (node filespace number : ℕ) (home : Home) (a : rows.Answer) (why : Refusal) → halt_by why ≡ None → is_unplaced why ≡ true → AreReady choice p node home → Remains Is node p.filespace
        → a.rows ≡ replies.Lookup (found.Number filespace) → Spending p filespace number home.class a (Err why) → ⊥
    uncommitted-put choice p node filespace number home a why mild passed ready stays has t =
        let d : Deed = Commit (storing filespace p home.class) (number ∷ []) (Err why) in
        let s = stands-as (λ x. x ≡ d) turns old new t.two in
        let m : Machine = t.two.meets.before in
        let at = still-told p node filespace number home.class a (Err why) (λ n there. (ready n there).0) stays has t in
        let may : MayCommit actor (stored_with filespace p home.class t.has.0 (database m)) m = (ready m s.passes).2 filespace number t.has.0 at t.has.1 in
        let for : IsRefusedFor places actor s.did.deed s.before s.after why = moved-for trusted places actor s.did s.before s.after why s.made (ap refusal s.is) in
        let free : held_reasons actor d m.core ≡ [] = ap (λ (o : Option Change). option_map_or (λ it. held_refused it m.core) o []) (change-is filespace p home.class number t.has.0 m t.has.1) in
        let reason = only-own places actor d s.before s.after why (subst (λ (x : Deed). IsRefusedFor places actor x s.before s.after why) s.is for) mild (λ h. h) free refl (none-rose (λ x. x ≡ d) s) (λ h. h) (λ h. h) in
        true≢false (sym passed ∙ foremost-all IsPassed (commit_refused actor (storing filespace p home.class) (number ∷ []) (sight actor m.core)) (passed-commit filespace p home.class number t.has.0 m t.has.1 may) why reason)

    -- behind it the version is told
    kept-by : (filespace node : ℕ) (p : FilePut) (class : List ℕ) (t : Ticket) (v : Inv) → node_named p.node v.clients.nodes ≡ Some node → filespace_named node p.filespace v.clients.filespaces ≡ Some filespace
        → IsKeptIn p (effect (stored_with filespace p class t v) v)
    kept-by filespace node p class t v known there =
        let item = version_from (record { path = p.path; class = class; mtime = p.mtime; digest = digest_with (sha256 p.text) }) t in
        let b = stored-clients filespace p (scratch_of v (t ∷ [])) item v refl refl refl in
        let named = named-in node filespace p class item.object b.0 v (effect (stored_with filespace p class t v) v) b.1 b.2 known there in
        (named.0, named.1, item.object, named.2)

    committed-so : (filespace node number x : ℕ) (p : FilePut) (class : List ℕ) (t : Ticket) (m next : Machine) → IsTicket actor number m t → Case places actor (Commit (storing filespace p class) (number ∷ []) (Ok x)) m next
        → node_named p.node (database m).clients.nodes ≡ Some node → filespace_named node p.filespace (database m).clients.filespaces ≡ Some filespace → IsKeptIn p (database next)
    committed-so filespace node number x p class t m next is h known there =
        let same : stored_with filespace p class t (database m) ≡ h.1.0 = same_Some (stored_with filespace p class t (database m)) h.1.0 (sym (change-is filespace p class number t m is) ∙ h.1.1) in
        let left : database next ≡ effect (stored_with filespace p class t (database m)) (database m) =
        ap (λ (c : Core). inventory c) h.1.3.0 ∙ after-one m.core.base m.core.journal (record { actor = actor; change = h.1.0 }) ∙ ap (λ (c : Change). effect c (database m)) (sym same) in
        subst (λ (v : Inv). IsKeptIn p v) (sym left) (kept-by filespace node p class t (database m) known there)

    commits-there : (filespace node number x : ℕ) (p : FilePut) (class : List ℕ) (t : Ticket) (e : Event) (m next : Machine) → e.deed ≡ Commit (storing filespace p class) (number ∷ []) (Ok x) → Moves trusted places actor e m next → IsTicket actor number m t
        → node_named p.node (database m).clients.nodes ≡ Some node → filespace_named node p.filespace (database m).clients.filespaces ≡ Some filespace → IsKeptIn p (database next)
    commits-there filespace node number x p class t e m next is made own known there =
        let step : Case places actor (Commit (storing filespace p class) (number ∷ []) (Ok x)) (with_contents made.seen m) made.next = subst (λ (d : Deed). Case places actor d (with_contents made.seen m) made.next) is made.made.step in
        let core : next.core ≡ made.next.core = ap (λ (y : Machine). y.core) made.left ∙ core-left e.deed m.contents made.next in
        subst (λ (c : Core). IsKeptIn p (inventory c)) (sym core) (committed-so filespace node number x p class t (with_contents made.seen m) made.next own step known there)

    -- ---- its object's number

    abbrev path_of : FilePut → Query
    path_of p = query.Path p.node p.filespace p.path

    -- at a question behind it, it is still told
    kept-later : (choice : List Rule) (p : FilePut) (node filespace number x : ℕ) (home : Home) (a : rows.Answer) (Q : Deed → Type 0) → AreReady choice p node home → Remains Is node p.filespace → StaysKept Is p
        → a.rows ≡ replies.Lookup (found.Number filespace)
        → (f : Followed (λ d. d ≡ Ask (space_query p) (Ok a)) (Commit (storing filespace p home.class) (number ∷ []) (Ok x)) number Q turns old new) → IsKeptIn p (database f.three.meets.before)
    kept-later choice p node filespace number x home a Q ready stays keeps has f =
        let t : Spending p filespace number home.class a (Ok x) = f.spent in
        let d : Deed = Commit (storing filespace p home.class) (number ∷ []) (Ok x) in
        let m : Machine = t.two.meets.before in
        let there = passes-before trusted places actor (λ y. y ≡ d) turns old new t.two in
        let made = subst (λ (k : ℕ). Moves trusted places k t.two.turn.did t.two.meets.before t.two.meets.after) t.two.mine t.two.meets.made in
        let kept = commits-there filespace node number x p home.class t.has.0 t.two.turn.did m t.two.meets.after t.two.is made t.has.1 (ready m there).0.0 (still-told p node filespace number home.class a (Ok x) (λ n h. (ready n h).0) stays has t) in
        keeps t.two.meets.after f.three.meets.before (passes-after trusted places actor (λ y. y ≡ d) turns old new t.two) (passes-before trusted places actor Q turns old new f.three) f.rises kept

    path-refused-not : (p : FilePut) (v : Inv) (e : Refusal) → IsKeptIn p v → rows_of (path_of p) v ≡ Err e → ⊥
    path-refused-not p v e (lines, are, object, among_them) h =
        let odd : ◌≡◌ {A = Result (List VersionLine) Refusal} (Ok lines) (Err e) = sym are ∙ err-of replies.Versions (path_versions_of p.node p.filespace p.path v) e h in
        cc

    stored-told : (p : FilePut) (v : Inv) (lines : List VersionLine) (e : Refusal) → IsKeptIn p v → rows_of (path_of p) v ≡ Ok (replies.Versions lines) → object_stored (row_put p) (digest_with (sha256 p.text)) lines ≡ Err e → ⊥
    stored-told p v lines e (others, are, object, among_them) h missing =
        let told : path_versions_of p.node p.filespace p.path v ≡ Ok lines = ok-of replies.Versions versions_in (λ x. refl) (path_versions_of p.node p.filespace p.path v) lines h in
        let both : ◌≡◌ {A = Result (List VersionLine) Refusal} (Ok others) (Ok lines) = sym are ∙ told in
        let same : others ≡ lines = cc in
        let found_it : object_stored (row_put p) (digest_with (sha256 p.text)) lines ≡ Ok object =
        ap found_or (ap (λ (l : List VersionLine). object_among (row_put p) (digest_with (sha256 p.text)) l) (sym same) ∙ among_them) in
        let odd : ◌≡◌ {A = Result ℕ Refusal} (Ok object) (Err e) = sym found_it ∙ missing in
        cc

    -- ---- all of it

    -- where the steps are that sent it, and the one that commits it
    shape : (front fills more back : List Event) (o c : Event) (pre sends tail : List Event) → events_of actor turns ≡ pre ++ (sends ++ (tail ++ back)) → sends ≡ front ++ (o ∷ fills) → tail ≡ (c ∷ []) ++ more
        → events_of actor turns ≡ (pre ++ front) ++ (o ∷ (fills ++ (c ∷ (more ++ back))))
    shape front fills more back o c pre sends tail cut first next =
        cut ∙ ap (λ (l : List Event). pre ++ (l ++ (tail ++ back))) first ∙ ap (λ (l : List Event). pre ++ ((front ++ (o ∷ fills)) ++ (l ++ back))) next
        ∙ ap (λ (l : List Event). pre ++ l) (append_assoc front (o ∷ fills) (c ∷ (more ++ back))) ∙ sym (append_assoc pre front (o ∷ (fills ++ (c ∷ (more ++ back)))))

    shape-behind : (front fills rest : List Event) (o c : Event) → events_of actor turns ≡ front ++ (o ∷ (fills ++ (c ∷ rest))) → events_of actor turns ≡ (front ++ (o ∷ (fills ++ (c ∷ [])))) ++ rest
    shape-behind front fills rest o c cut =
        cut ∙ ap (λ (l : List Event). front ++ (o ∷ l)) (sym (append_assoc fills (c ∷ []) rest)) ∙ sym (append_assoc front (o ∷ (fills ++ (c ∷ []))) rest)

    -- what a refused transaction is passed on as, behind the drop of its ticket
    given-passed : (number : ℕ) (why e : Refusal) (own : List Event) → GivesBackOne number why own e → halt_by e ≡ None → (e ≡ why) × (is_unplaced why ≡ true)
    given-passed number why e own (inl (lasts, none, is)) mild = unplaced-mild why e (is_unplaced why) refl is mild
    given-passed number why e own (inr (left, Ok done, made, is)) mild = unplaced-mild why e (is_unplaced why) refl is mild
    given-passed number why e own (inr (left, Err other, made, is)) mild = absurd (ends-halt e (subst Ends (sym is) (ends-stopping other)) mild)

    stored-none : (choice : List Rule) (p : FilePut) (node filespace : ℕ) (home : Home) (number : ℕ) (e : Refusal) (pre sends own back : List Event) → events_of actor turns ≡ pre ++ (sends ++ (own ++ back)) → halt_by e ≡ None
        → AreReady choice p node home → Remains Is node p.filespace → SpaceAsked p filespace pre → Opened number sends
        → OrGivesBack number (OrMemory (CommitsOne (storing filespace p home.class) number)) own (Err e) → ⊥
    stored-none choice p node filespace home number e pre sends own back cut mild ready stays (a, has, met) (front, o, fills, parts, opens, keep) (why, (xs, ys, apart, inr (none, is), gives)) =
        let same : why ≡ refused.Memory = cc in not-memory e mild ((given-passed number why e ys gives mild).0 ∙ same)
    stored-none choice p node filespace home number e pre sends own back cut mild ready stays (a, has, met) (front, o, fills, parts, opens, keep) (why, (xs, ys, apart, inl (inr (memory, none)), gives)) =
        not-memory e mild ((given-passed number why e ys gives mild).0 ∙ same_Some why refused.Memory memory)
    stored-none choice p node filespace home number e pre sends own back cut mild ready stays (a, has, met) (front, o, fills, parts, opens, keep) (why, (xs, ys, apart, inl (inl (n, one, listed_it)), gives)) =
        let passed = given-passed number why e ys gives mild in
        let c : Event = event n (Commit (storing filespace p home.class) (number ∷ []) (Err why)) in
        let at = shape front fills ys back o c pre sends own cut parts (apart ∙ ap (λ (l : List Event). l ++ ys) one) in
        let met_it = met-first pre front (λ d. d ≡ Ask (space_query p) (Ok a)) met in
        uncommitted-put choice p node filespace number home a why (subst (λ (x : Refusal). halt_by x ≡ None) passed.0 mild) passed.1 ready stays has
        (spent-of (λ d. d ≡ Ask (space_query p) (Ok a)) number (pre ++ front) fills (ys ++ back) o c turns old new ran opens keep met_it at)

    unforced-put : (number : ℕ) (e : Refusal) (front own back : List Event) → events_of actor turns ≡ front ++ (own ++ back) → halt_by e ≡ None → ForcesOne number own (Err e) → ⊥
    unforced-put number e front own back cut mild made =
        unforced e mild (stands (λ d. d ≡ Force (Err e)) turns old new ran (among (λ d. d ≡ Force (Err e)) front own back cut (met-made (Force (Err e)) e own refl mild made)))

    -- behind the commit the number is asked
    unnamed : (choice : List Rule) (p : FilePut) (node filespace number x : ℕ) (home : Home) (e : Refusal) (front fills mids own back : List Event) (o c : Event) → c.deed ≡ Commit (storing filespace p home.class) (number ∷ []) (Ok x)
        → events_of actor turns ≡ front ++ (o ∷ (fills ++ (c ∷ (mids ++ (own ++ back))))) → halt_by e ≡ None → AreReady choice p node home → Remains Is node p.filespace → StaysKept Is p → SpaceAsked p filespace front → Opens number o.deed
        → AllByRecursion (λ y. Keeps y.deed) fills → Names p.node p.filespace (row_put p) (digest_with (sha256 p.text)) own (Err e) → ⊥
    unnamed choice p node filespace number x home e front fills mids own back o c is cut mild ready stays keeps (a, has, met) opens keep names = unnamed-by names
      where
        followed : (Q : Deed → Type 0) → MetBy Q own → Followed (λ d. d ≡ Ask (space_query p) (Ok a)) (Commit (storing filespace p home.class) (number ∷ []) (Ok x)) number Q turns old new
        followed Q later =
            subst (λ (d : Deed). Followed (λ d. d ≡ Ask (space_query p) (Ok a)) d number Q turns old new) is
            (followed-by (λ d. d ≡ Ask (space_query p) (Ok a)) Q number front fills (mids ++ (own ++ back)) o c turns old new ran opens keep met (met-next mids (own ++ back) Q (met-first own back Q later)) (shape-behind front fills (mids ++ (own ++ back)) o c cut))

        kept-at : (Q : Deed → Type 0) (f : Followed (λ d. d ≡ Ask (space_query p) (Ok a)) (Commit (storing filespace p home.class) (number ∷ []) (Ok x)) number Q turns old new) → IsKeptIn p (database f.three.meets.before)
        kept-at Q f = kept-later choice p node filespace number x home a Q ready stays keeps has f

        unnamed-by : Names p.node p.filespace (row_put p) (digest_with (sha256 p.text)) own (Err e) → ⊥
        unnamed-by (inl (f, inr (none, memory), same)) = (let one : e ≡ refused.Memory = cc in not-memory e mild one)
        unnamed-by (inl (f, inl asked_it, same)) =
            let one : e ≡ f = cc in
            let mild_f : halt_by f ≡ None = subst (λ (y : Refusal). halt_by y ≡ None) one mild in
            let it = followed (λ d. d ≡ Ask (path_of p) (Err f)) (met-asks (path_of p) replies.Versions f own mild_f asked_it) in
            path-refused-not p (database it.three.meets.before) f (kept-at (λ d. d ≡ Ask (path_of p) (Err f)) it) (rows-why (path_of p) f mild_f (stands-as (λ d. d ≡ Ask (path_of p) (Err f)) turns old new it.three))
        unnamed-by (inr (lines, (xs, ys, apart, inr (none, memory), decided))) = absurd cc
        unnamed-by (inr (lines, (xs, ys, apart, inl (b, are, made), (none, inl memory)))) = not-memory e mild memory
        unnamed-by (inr (lines, (xs, ys, apart, inl (b, are, made), (none, inr missing)))) =
            let here_it = subst (λ (l : List Event). MetBy (λ d. d ≡ Ask (path_of p) (Ok b)) l) (sym apart) (met-first xs ys (λ d. d ≡ Ask (path_of p) (Ok b)) (made-ok (path_of p) b xs made)) in
            let it = followed (λ d. d ≡ Ask (path_of p) (Ok b)) here_it in
            let told = rows-of-step (path_of p) b refl (stands-as (λ d. d ≡ Ask (path_of p) (Ok b)) turns old new it.three) in
            stored-told p (database it.three.meets.before) lines e (kept-at (λ d. d ≡ Ask (path_of p) (Ok b)) it) (told ∙ ap (λ (y : reply.Rows). Ok y) are) missing

    unstored : (choice : List Rule) (p : FilePut) (node filespace : ℕ) (home : Home) (number : ℕ) (e : Refusal) (pre sends own back : List Event) → events_of actor turns ≡ pre ++ (sends ++ (own ++ back)) → halt_by e ≡ None
        → AreReady choice p node home → Remains Is node p.filespace → StaysKept Is p → SpaceAsked p filespace pre → Opened number sends
        → StoresAndNames p.node p.filespace filespace (row_put p) home.class (record { ticket = number; digest = digest_with (sha256 p.text) }) own (Err e) → ⊥
    unstored choice p node filespace home number e pre sends own back cut mild ready stays keeps asked_it opened (inl (f, inl (g, refused_it, again), is)) =
        let same : e ≡ g = cc in
        stored-none choice p node filespace home number g pre sends own back cut (subst (λ (x : Refusal). halt_by x ≡ None) same mild) ready stays asked_it opened refused_it
    unstored choice p node filespace home number e pre sends own back cut mild ready stays keeps asked_it opened (inl (f, inr (x, (xs, ys, apart, commits, forced_it)), is)) =
        let same : e ≡ f = cc in
        unforced-put x f ((pre ++ sends) ++ xs) ys back (parts-next (pre ++ sends) own back xs ys (cut ∙ sym (append_assoc pre sends (own ++ back))) apart) (subst (λ (y : Refusal). halt_by y ≡ None) same mild) forced_it
    unstored choice p node filespace home number e pre sends own back cut mild ready stays keeps asked_it opened (inr (seq, (xs, ys, apart, inl (g, refused_it, odd), names))) = absurd cc
    unstored choice p node filespace home number e pre sends own back cut mild ready stays keeps asked_it opened (inr (seq, (xs, ys, apart, inr (x, (us, vs, cut_in, inr (none, odd), forced_it)), names))) = absurd cc
    unstored choice p node filespace home number e pre sends own back cut mild ready stays keeps asked_it opened (inr (seq, (xs, ys, apart, inr (x, (us, vs, cut_in, inl (inr (memory, none)), forced_it)), names))) = absurd cc
    unstored choice p node filespace home number e pre sends own back cut mild ready stays keeps (a, has, met) (front, o, fills, parts, opens, keep) (inr (seq, (xs, ys, apart, inr (x, (us, vs, cut_in, inl (inl (n, one, listed_it)), forced_it)), names))) =
        let c : Event = event n (Commit (storing filespace p home.class) (number ∷ []) (Ok x)) in
        let tail_is : own ≡ (c ∷ []) ++ (vs ++ ys) = apart ∙ ap (λ (l : List Event). l ++ ys) cut_in ∙ append_assoc us vs ys ∙ ap (λ (l : List Event). l ++ (vs ++ ys)) one in
        let at = shape front fills (vs ++ ys) back o c pre sends own cut parts tail_is in
        let all = at ∙ ap (λ (l : List Event). (pre ++ front) ++ (o ∷ (fills ++ (c ∷ l)))) (append_assoc vs ys back) in
        unnamed choice p node filespace number x home e (pre ++ front) fills vs ys back o c refl all mild ready stays keeps (a, has, met-first pre front (λ d. d ≡ Ask (space_query p) (Ok a)) met) opens keep names

    unput : (choice : List Rule) (p : FilePut) (e : Refusal) (front own back : List Event) → events_of actor turns ≡ front ++ (own ++ back) → halt_by e ≡ None → (e ≡ refused.TreeFault → ⊥) → MayPut places Is Opening actor choice p
        → Puts p.node p.filespace choice (Some (file_put p)) (row_put p) own (Err e) → IsBusy e
    unput choice p e front own back cut mild sound (node, home, ready, room, stays, keeps) (inl (f, finds, is)) =
        let same : e ≡ f = cc in absurd (unhomed choice p node home f front own back cut (subst (λ (x : Refusal). halt_by x ≡ None) same mild) ready finds)
    unput choice p e front own back cut mild sound (node, home, ready, room, stays, keeps) (inr (other, (xs, ys, apart, finds, under))) =
        under-home (subst (λ (h : Home). PutsUnder p.node p.filespace (Some (file_put p)) (row_put p) h ys (Err e)) (homed choice p node home other front xs (ys ++ back) (parts-first front own back xs ys cut apart) ready finds) under)
      where
        at : events_of actor turns ≡ (front ++ xs) ++ (ys ++ back)
        at = parts-next front own back xs ys cut apart

        node-is : home.node ≡ node
        node-is = (let b = (ready old ([], turns, refl, refl, ran)).1 in home-node node b.0 choice p.path home b.2)

        put-in : (filespace : ℕ) (us vs : List Event) → ys ≡ us ++ vs → FindsFilespace p.node p.filespace node us (Ok filespace) → PutsIn p.node p.filespace (Some (file_put p)) (row_put p) home filespace vs (Err e) → IsBusy e
        put-in filespace us vs cut_in spaces (inl (f, sends, is)) =
            let same : e ≡ f = cc in
            subst IsBusy (sym same)
            (unsent choice p node home f ((front ++ xs) ++ us) vs back (parts-next (front ++ xs) ys back us vs at cut_in) (subst (λ (x : Refusal). halt_by x ≡ None) same mild) (λ tree. sound (same ∙ tree)) room sends)
        put-in filespace us vs cut_in spaces (inr (s, (ps, qs, cut_more, sends, stores))) =
            let so = sent-so p home.pool s ps sends in
            let same : s ≡ record { ticket = s.ticket; digest = digest_with (sha256 p.text) } = ap (λ (d : Digest). record { ticket = s.ticket; digest = d }) so.0 in
            let (a, has, met) = space-asked p node filespace us spaces in
            absurd
            (unstored choice p node filespace home s.ticket e ((front ++ xs) ++ us) ps qs back (parts-first ((front ++ xs) ++ us) vs back ps qs (parts-next (front ++ xs) ys back us vs at cut_in) cut_more) mild ready stays keeps
            (a, has, met-next (front ++ xs) us (λ d. d ≡ Ask (space_query p) (Ok a)) met) so.1
            (subst (λ (x : Sealed). StoresAndNames p.node p.filespace filespace (row_put p) home.class x qs (Err e)) same stores))

        under-home : PutsUnder p.node p.filespace (Some (file_put p)) (row_put p) home ys (Err e) → IsBusy e
        under-home (inl (f, spaces, is)) =
            let same : e ≡ f = cc in
            absurd
            (unfound-put p node f (front ++ xs) ys back at (subst (λ (x : Refusal). halt_by x ≡ None) same mild) (λ m there. (ready m there).0) stays (subst (λ (n : ℕ). FindsFilespace p.node p.filespace n ys (Err f)) node-is spaces))
        under-home (inr (filespace, (us, vs, cut_in, spaces, puts))) =
            put-in filespace us vs cut_in (subst (λ (n : ℕ). FindsFilespace p.node p.filespace n us (Ok filespace)) node-is spaces) puts

    unput-text : (choice : List Rule) (p : FilePut) (e : Refusal) (front own back : List Event) → events_of actor turns ≡ front ++ (own ++ back) → halt_by e ≡ None → MayPut places Is Opening actor choice p → OrMemory (PutsText choice p) own (Err e) → IsBusy e
    unput-text choice p e front own back cut mild may (inl (inl (puts, sound))) = unput choice p e front own back cut mild (λ tree. sound (ap (λ (x : Refusal). Err x) tree)) may puts
    unput-text choice p e front own back cut mild may (inl (inr (puts, is))) = (let same : e ≡ refused.Memory = cc in absurd (not-memory e mild same))
    unput-text choice p e front own back cut mild may (inr (none, is)) = (let same : e ≡ refused.Memory = cc in absurd (not-memory e mild same))

    -- work of a command's own
    undone : (k : Client) (own : Own) (numbers : List ℕ) (e : Refusal) (front did back : List Event) → events_of actor turns ≡ front ++ (did ++ back) → halt_by e ≡ None → MayOwn places Is Opening actor k own → DoesOwn k own numbers did (Err e) → IsBusyBy own e
    undone k (validate set) numbers e front did back cut mild may h = absurd (invalid set e front did back cut mild may h.1)
    undone k (on_tree work) numbers e front did back cut mild may h = unwritten k work e front did back cut mild may h
    undone k none_but_reuse numbers e front did back cut mild may h =
        let g : (did ≡ []) × (◌≡◌ {A = SaidOf} (Err e) (Ok (Said (Reused 0)))) = h.1 in
        let is = g.1 in
        absurd cc
    undone k (put p) numbers e front did back cut mild may h = unput-text k.choice p e front did back cut mild may (gives-err (OrMemory (PutsText k.choice p)) (λ object. Said (shown.Stored object)) did e h.1)
    undone k (get g) numbers e front did back cut mild may h = absurd (ungot-or g e front did back cut mild may (gives-err (OrMemory (Gets g.node g.filespace g.path)) Read did e h.1))
    undone k checkpoint numbers e front did back cut mild may h = checkpoint-busy e front did back cut mild may (gives-err Checkpointing (λ seq. Said Done) did e h.1)
    undone k expire numbers e front did back cut mild may h = absurd may
    undone k empty_filespace numbers e front did back cut mild may h = absurd may
    undone k empty_volume numbers e front did back cut mild may h = absurd may
    undone k back_up_pool numbers e front did back cut mild may h = absurd may
    undone k (moves mover) numbers e front did back cut mild may h = absurd may
    undone k back_up_database numbers e front did back cut mild may h = absurd may
    undone k back_up_since numbers e front did back cut mild may h = absurd may
    undone k (delete_history to) numbers e front did back cut mild may h = absurd may
    undone k (audit_volume fix) numbers e front did back cut mild may h = absurd may
    undone k none_yet numbers e front did back cut mild may h = absurd may

    does-none : (k : Client) (c : Command) (work : Work) (e : Refusal) (front did back : List Event) → events_of actor turns ≡ front ++ (did ++ back) → IsPlainWork (Ok work) → halt_by e ≡ None → MayBy places Is Opening actor k (own_of c) (Ok work)
        → Does k c work did (Err e) → IsBusyBy (own_of c) e ⊎ IsUnopenedBy (own_of c) e
    does-none k c (CommitWork what) e front did back cut plain mild may h =
        absurd (unchanged what e front did back cut (and_parts (is_plain what) _ plain).0 mild may (gives-err (Changing what) (λ number. Said (last_of what)) did e h.1))
    does-none k c (Show q) e front did back cut plain mild may h =
        absurd (unasked q e mild may (among (λ d. d ≡ Ask q (Err e)) front did back cut (met-made (Ask q (Err e)) e did refl mild (gives-err (Told q) Rows did e h.1))))
    does-none k c (Run numbers) e front did back cut plain mild (inl may) h = inl (undone k (own_of c) numbers e front did back cut mild may h)
    does-none k c (Run numbers) e front did back cut plain mild (inr (inl may)) h = unrun k (own_of c) numbers e front did back cut mild may h
    does-none k c (Run numbers) e front did back cut plain mild (inr (inr may)) h = unlost k (own_of c) numbers e front did back cut mild may h

    -- what comes behind work that was done
    reuse-err : (it : Outcome) (e : Refusal) (events : List Event) → Reusing (Ok it) events (Err e) → VolumeReuse events (Err e)
    reuse-err it e events h = gives-err VolumeReuse (λ number. with_reused number it) events e h

    not-held : (e : Refusal) → is_held (Some e) ≡ false → IsBusy e → ⊥
    not-held e unheld (h, is) = (let same : true ≡ false = ap (λ (x : Refusal). is_held (Some x)) (sym is) ∙ unheld in absurd cc)

    -- of what stops a process only the bound of the database
    only-full : (e : Refusal) → halt_by e ≡ None → is_held (Some e) ≡ false → (own : List Event) → IsStopped own e → e ≡ refused.InventoryFull
    only-full e mild unheld own (inl wanted) = absurd (not-memory e mild wanted)
    only-full e mild unheld own (inr (stops, met)) = elim (stopping-mild e stops mild) as (λ _. e ≡ refused.InventoryFull) [
      | inl full ↦ full
      | inr busy ↦ absurd (not-held e unheld busy)
    ]

    ends-none : (b : Behind) (n : ℕ) (it : Outcome) (e : Refusal) (front own : List Event) (all : List Event) (answer : Answer) → all ≡ front ++ own → halt_by e ≡ None → is_held (Some e) ≡ false → answer ≡ answer_refused n e → EndsWork b (Ok it) own (Err e) → IsAnsweredWith b n all answer
    ends-none no_more n it e front own all answer cut mild unheld said (none, is) = absurd cc
    ends-none forces n it e front own all answer cut mild unheld said h = absurd (forced-done it e own h mild)
    ends-none reuses n it e front own all answer cut mild unheld said (Ok more, (xs, ys, apart, reused, forcing)) = absurd (forced-done more e ys forcing mild)
    ends-none reuses n it e front own all answer cut mild unheld said (Err f, (xs, ys, apart, reused, forcing)) =
        let same : e ≡ f = forced-same f e ys forcing mild in
        let mine : VolumeReuse xs (Err e) = reuse-err it e xs (subst (λ (x : Refusal). Reusing (Ok it) xs (Err x)) (sym same) reused) in
        let full : e ≡ refused.InventoryFull = only-full e mild unheld xs mine.came in
        inr (said ∙ ap (answer_refused n) full, front, xs, ys, cut ∙ ap (λ (l : List Event). front ++ l) apart, subst (λ (x : Refusal). VolumeReuse xs (Err x)) full mine)

    zero-with : (b : Behind) (n : ℕ) (all : List Event) (answer : Answer) → answer.tally.refused ≡ 0 → IsAnsweredWith b n all answer
    zero-with no_more n all answer h = h
    zero-with forces n all answer h = h
    zero-with reuses n all answer h = inl h

    -- a refusal of the work, by which no run ends, is answered as it is
    ends-same : (b : Behind) (f e : Refusal) (own : List Event) → halt_by e ≡ None → EndsWork b (Err f) own (Err e) → e ≡ f
    ends-same no_more f e own mild (none, is) = (let same : e ≡ f = cc in same)
    ends-same forces f e own mild h = forced-same f e own h mild
    ends-same reuses f e own mild (came, (xs, ys, apart, (none, is), forcing)) = forced-same f e ys (subst (λ (c : SaidOf). Forcing c ys (Err e)) is forcing) mild

    not-held-on : (work : OnTree) (e : Refusal) → is_held (Some e) ≡ false → IsBusyOn work e → ⊥
    not-held-on (back_up i) e unheld h = not-held e unheld h
    not-held-on work e unheld h = h

    in-use : (own : Own) (n : ℕ) (e : Refusal) (answer : Answer) → answer ≡ answer_refused n e → is_held (Some e) ≡ false → IsBusyBy own e → IsInUse Is Brings own n (events_of actor turns) answer
    in-use (on_tree work) n e answer said unheld h = absurd (not-held-on work e unheld h)
    in-use checkpoint n e answer said unheld h = absurd (not-held e unheld h)
    in-use (put p) n e answer said unheld h = absurd (not-held e unheld h)
    in-use empty_filespace n e answer said unheld h = (e, said, h)
    in-use empty_volume n e answer said unheld (inl h) = absurd (not-held e unheld h)
    in-use empty_volume n e answer said unheld (inr h) = (e, said, h)
    in-use back_up_pool n e answer said unheld h = absurd (not-held e unheld h)
    in-use back_up_database n e answer said unheld h = absurd (not-held e unheld h)
    in-use back_up_since n e answer said unheld h = absurd (not-held e unheld h)
    in-use (delete_history to) n e answer said unheld h = absurd (not-held e unheld h)
    in-use (moves mover) n e answer said unheld h = absurd (not-held e unheld h)
    in-use own n e answer said unheld h = absurd h

    abbrev Answered : (n : ℕ) → Command → Answer → Type 0
    Answered n c answer = IsAnsweredWith (behind c) n (events_of actor turns) answer ⊎ IsInUse Is Brings (own_of c) n (events_of actor turns) answer ⊎ IsUnopened Is (own_of c) n (events_of actor turns) answer

    unopened-so : (own : Own) (n : ℕ) (e : Refusal) (answer : Answer) → answer ≡ answer_refused n e → IsUnopenedBy own e → IsUnopened Is own n (events_of actor turns) answer
    unopened-so (moves mover) n e answer said (missing, object, a, avoid, met, m, at, gone) = (said ∙ ap (answer_refused n) missing, object, a, avoid, met, m, at, gone)
    unopened-so own n e answer said h = absurd h

    work-none : (k : Client) (n : ℕ) (c : Command) (work : Result Work Refusal) (e : Refusal) (answer : Answer) (front did : List Event) → events_of actor turns ≡ front ++ did → IsPlainWork work → halt_by e ≡ None → is_held (Some e) ≡ false → answer ≡ answer_refused n e
        → MayBy places Is Opening actor k (own_of c) work → WorksOrWants k c work did (Err e) → Answered n c answer
    work-none k n c (Err why) e answer front did cut plain mild unheld said may h = absurd may
    work-none k n c (Ok work) e answer front did cut plain mild unheld said may (inl (Ok it, (xs, ys, apart, does, ends))) =
        inl (ends-none (behind c) n it e (front ++ xs) ys (events_of actor turns) answer (cut ∙ ap (λ (l : List Event). front ++ l) apart ∙ sym (append_assoc front xs ys)) mild unheld said ends)
    work-none k n c (Ok work) e answer front did cut plain mild unheld said may (inl (Err f, (xs, ys, apart, does, ends))) =
        let same : e ≡ f = ends-same (behind c) f e ys mild ends in
        let busy = does-none k c work f front xs ys (cut ∙ ap (λ (l : List Event). front ++ l) apart) plain (subst (λ (x : Refusal). halt_by x ≡ None) same mild) may does in
        let as_is : answer ≡ answer_refused n f = said ∙ ap (answer_refused n) same in
        inr (elim busy as (λ _. IsInUse Is Brings (own_of c) n (events_of actor turns) answer ⊎ IsUnopened Is (own_of c) n (events_of actor turns) answer) [
          | inl held ↦ inl (in-use (own_of c) n f answer as_is (subst (λ (x : Refusal). is_held (Some x) ≡ false) same unheld) held)
          | inr unopened ↦ inr (unopened-so (own_of c) n f answer as_is unopened)
        ])
    work-none k n c (Ok work) e answer front did cut plain mild unheld said may (inr (kept, none, is)) = (let same : e ≡ refused.Memory = cc in absurd (not-memory e mild same))

    doing-none : (k : Client) (n : ℕ) (c : Command) (e : Refusal) (answer : Answer) → halt_by e ≡ None → is_held (Some e) ≡ false → answer ≡ answer_refused n e → MayDo places Is Opening actor k c → Doing k c (events_of actor turns) (Err e) → Answered n c answer
    doing-none k n c e answer mild unheld said may (inl (f, kept, looks, is)) =
        let same : e ≡ f = cc in
        absurd (looked-none (needs c) e [] (events_of actor turns) [] (sym (append-nil (events_of actor turns))) mild may.0 (subst (λ (x : Refusal). OrMemory (AsksAll (needs c)) (events_of actor turns) (Err x)) (sym same) looks))
    doing-none k n c e answer mild unheld said may (inr (answers, (xs, ys, cut, inl looks, works))) =
        work-none k n c (work_of c answers) e answer xs ys cut (work-plain c answers) mild unheld said (may.1 answers (looked-answers (needs c) answers [] xs ys cut looks)) works
    doing-none k n c e answer mild unheld said may (inr (answers, (xs, ys, cut, inr (none, is), works))) = absurd cc

    asks-complete : (k : Client) (n : ℕ) (c : Command) (answer : Answer) (why : Option Refusal) (said : SaidOf) → is_held why ≡ false → MayDo places Is Opening actor k c → Doing k c (events_of actor turns) said → EndsLine n said (Ok (answer, why)) → Answered n c answer
    asks-complete k n c answer why (Ok it) unheld may doing ends = inl (zero-with (behind c) n (events_of actor turns) answer (ap (λ (p : Answer × Option Refusal). p.0.tally.refused) ends))
    asks-complete k n c answer why (Err e) unheld may doing ends =
        doing-none k n c e answer ends.0 (subst (λ (w : Option Refusal). is_held w ≡ false) (ap (λ (p : Answer × Option Refusal). p.1) ends.1) unheld) (ap (λ (p : Answer × Option Refusal). p.0) ends.1) may doing

    in-job-complete : (k : Client) (in_use : Option ℕ) (n : ℕ) (line : Line) (answer : Answer) (why : Option Refusal) → is_held why ≡ false → IsLegal places Is Opening actor k in_use line → DoesInJob k in_use n line (events_of actor turns) (Ok (answer, why))
        → IsAnswered Is Brings n line (events_of actor turns) answer
    in-job-complete k None n comment answer why unheld may (kept, none, is) = (let same : ◌≡◌ {A = Answer × Option Refusal} (answer, why) (nothing, None) = cc in ap (λ (p : Answer × Option Refusal). p.0.tally.refused) same)
    in-job-complete k (Some number) n comment answer why unheld may (kept, none, is) = (let same : ◌≡◌ {A = Answer × Option Refusal} (answer, why) (nothing, None) = cc in ap (λ (p : Answer × Option Refusal). p.0.tally.refused) same)
    in-job-complete k None n (refused_line given) answer why unheld may h = absurd may
    in-job-complete k (Some number) n (refused_line given) answer why unheld may h = absurd may
    in-job-complete k None n (asks c) answer why unheld may (said, doing, ends) = asks-complete k n c answer why said unheld may doing ends
    in-job-complete k (Some number) n (asks c) answer why unheld may h = absurd may

  pub line-complete : (k : Client) (in_use : Option ℕ) (n : ℕ) (line : Line) (answer : Answer) (why : Option Refusal) (turns : List Turn) (old new : Machine) → Turned trusted places turns old new
      → AreSound old.core → is_held why ≡ false → AnswersInJob k in_use n line (events_of actor turns) (Ok (answer, why)) → IsComplete trusted places actor k in_use n line turns old new answer
  line-complete k in_use n line answer why turns old new ran sound unheld (inl h) = λ unrisen legal. in-job-complete turns old new ran sound unrisen k in_use n line answer why unheld legal h
  line-complete k in_use n line answer why turns old new ran sound unheld (inr (kept, none, is)) = absurd cc
