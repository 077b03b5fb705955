-- What comes of a process, and of what comes behind it.
use Rattle.std.proofs.Common.{◌≡◌, ◌⊎◌, inl, inr, ℕ, ◌≤◌, ◌+◌, ◌==◌, Bool, true, false, if◌then◌else◌, min, Option, None, List, [], ◌∷◌, ◌++◌, length, map, Some, Result, Ok, Err, refl, sym, ap, subst, ◌∙◌}
use Rattle.std.proofs.lemmas.Bool.{and_parts, eqb-true}
use Rattle.std.proofs.lemmas.List.{append-nil, append_cancel_left}
use Rattle.std.proofs.lemmas.Option.{same_Some}
use Rattle.std.specs.List.{AllByRecursion}
use Rattle.kinds.specs.declared.change.DefineOrDelete.TheVariants as two
use Rattle.kinds.specs.declared.change.ObjectChange.TheVariants as client
use Rattle.kinds.specs.declared.change.PoolChange.TheVariants as store
use Rattle.kinds.specs.declared.change.Verb.TheVariants as verb
use Rattle.kinds.specs.declared.refusal.Refusal.{Refusal}
use Rattle.kinds.specs.declared.refusal.Refusal.TheVariants as refused
use Rattle.choosers.specs.declared.rule.Rule.{Rule}
use Rattle.entries.specs.change_items.declared.reasons.DiscardReason.{DiscardReason}
use Rattle.entries.specs.change_items.declared.reasons.DiscardReason.TheVariants as because
use Rattle.entries.specs.change_items.declared.reasons.DropReason.TheVariants as since
use Rattle.entries.specs.declared.change.Change.{Change}
use Rattle.entries.specs.declared.change.Change.TheVariants as change
use Rattle.entries.specs.declared.entry.Entry.{Entry}
use Rattle.inventory_rows.specs.State.{Inv}
use Rattle.inventory_rows.specs.version_groups.Entries.{on_ok}
use Rattle.inventory_rules.specs.Valid.{is_valid}
use Rattle.admin_words.specs.declared.command.Command.{Command}
use Rattle.admin_words.specs.declared.files.IncrementalBackup.{IncrementalBackup}
use Rattle.admin_commands.specs.declared.work.Work.{Work}
use Rattle.admin_commands.specs.declared.work.Work.TheVariants.{Commit as CommitWork, Run, Show}
use Rattle.steps.specs.Spent.{AreSettled}
use Rattle.command_steps.specs.copy_pools.Backups.{Backup, IsBackup, Came as BackupCame}
use Rattle.command_steps.specs.copy_runs.Ends.{IsEnding}
use Rattle.command_steps.specs.copy_runs.declared.wanted.Moved.{Moved}
use Rattle.command_steps.specs.db_backup.Backups.{FollowsNewest, IsFollowing}
use Rattle.command_steps.specs.db_backup.Deleting.{HistoryDeletion, IsDeleting}
use Rattle.command_steps.specs.db_backup.Listing.{due_files}
use Rattle.command_steps.specs.db_backup.Taking.{Backs, IsOf as IsOfImage, kind_of, may_leave as may_leave_image}
use Rattle.command_steps.specs.db_backup.declared.taking.Taken.{Taken}
use Rattle.command_steps.specs.deletions.declared.copies.Removed.{Removed}
use Rattle.command_steps.specs.deletions.Discarding.{IsDiscarding, discarded}
use Rattle.command_steps.specs.deletions.Dropping.{IsTaking, dropped}
use Rattle.command_steps.specs.deletions.Filespaces as filespaces
use Rattle.command_steps.specs.deletions.Filespaces.{FilespaceDeletion}
use Rattle.command_steps.specs.deletions.Volumes as volumes
use Rattle.command_steps.specs.deletions.Volumes.{VolumeDeletion}
use Rattle.command_steps.specs.expiration.Expiring.{Expiration, IsExpiring, named}
use Rattle.command_steps.specs.copy_attempts.Outcomes.{IsOf as IsOfAttempt}
use Rattle.command_steps.specs.incrementals.Process.{may_leave}
use Rattle.command_steps.specs.incrementals.declared.answering.Sent.{Sent}
use Rattle.inventory_answers.specs.declared.lines.VolumeLine.{VolumeLine}
use Rattle.kinds.specs.declared.pool.Access.TheVariants.{Destroyed}
use Rattle.command_steps.specs.migration.Migrating.{IsMigration, Migration}
use Rattle.command_steps.specs.migration.Sweeping.{AllMigration, IsSweep}
use Rattle.command_steps.specs.pool_restores.Listing.{aim_of, destroying, destroying_found, volume_with}
use Rattle.command_steps.specs.pool_restores.Restoring.{IsRestore, PoolRestore}
use Rattle.command_steps.specs.pool_restores.Volumes.{IsVolumeRestore, VolumeRestore}
use Rattle.command_steps.specs.reclamation.Moving.{DataMove, IsMoving, into}
use Rattle.command_steps.specs.reclamation.Reclaiming.{IsReclaiming, Reclamation}
use Rattle.command_steps.specs.reuse_delay.Reusing.{IsReusing, VolumeReuse}
use Rattle.space.specs.declared.aim.Aim.{Aim}
use Rattle.space.specs.declared.aim.Aim.TheVariants as aim
use Rattle.script_loop.specs.declared.ends.Halt.{Halt}
use Rattle.command_steps.specs.sessions.Changing.{Changing, IsOf}
use Rattle.steps.specs.declared.asked.Asked.{Asked}
use Rattle.steps.specs.declared.image.ImageKind.{ImageKind}
use Rattle.steps.specs.declared.image.ImageKind.TheVariants as image
use Rattle.steps.specs.declared.asked.Asked.TheVariants.{Plain}
use Rattle.steps.specs.Events.{Deed, Event}
use Rattle.steps.specs.Events.Deed.{Ask, Commit, CopyPiece, DropTicket, Force, Image, OpenCopy, Reuse, Seal}
use Rattle.machine.specs.Alone.{Alone, with_contents}
use Rattle.machine.specs.Causes.{is_plain}
use Rattle.machine.specs.Changes.{filled, is_moving}
use Rattle.machine.specs.Laws.{RefusesElsewhere}
use Rattle.machine.specs.Machine.{Places, asked_change}
use Rattle.machine.specs.State.{Core, Machine, inventory}
use Rattle.command_steps.specs.Answers.{halt_by}
use Rattle.command_steps.specs.Behind.{Behind, behind, forces, no_more, reuses, with_reused}
use Rattle.command_steps.specs.Clients.{Client, IsKept}
use Rattle.command_steps.specs.Doing.{Does as DoesBy, DoesAlone as DoesAloneBy, DoesOwn as DoesOwnBy, DoesWork, EndsWork, Forcing, MovesSo, Reusing, backed_up, first_picks, moved_line, the_number, the_second}
use Rattle.command_steps.specs.Owns.{Mover, OnTree, Own, all_migrator, audit_volume, back_up, back_up_database, back_up_pool, back_up_since, checkpoint, data_mover, delete_history, empty_filespace, empty_volume, expire, get, last_of, migrator, moves, none_but_reuse, none_yet, on_tree, own_of, pool_restorer, put, reclaimer, validate, volume_restorer}
use Rattle.command_steps.specs.Trees.{DoesThere as DoesThereBy, ShowsSent}
use Rattle.command_steps.specs.volume_audits.Auditing.{IsAuditing, VolumeAudit}
use Rattle.command_steps.specs.volume_audits.declared.audit.Audit.{Audit}
use Rattle.command_steps.specs.volume_audits.Mending.{IsMending}
use Rattle.command_steps.specs.declared.outcome.Outcome.{Outcome}
use Rattle.command_steps.specs.declared.outcome.Outcome.TheVariants as came
use Rattle.command_steps.specs.declared.outcome.Outcome.TheVariants.{Said}
use Rattle.line_results.specs.Bounds.{IsReasoned}
use Rattle.line_results.specs.Commands.{Does, DoesAlone, DoesOwn, DoesThere, EndsWith, IsLoss, IsReuse, IsStill, IsStopped, MayMake, Processes, Ran, Tells, Works, WorksWith}
use Rattle.line_results.specs.Moving.{IsCopyReasoned}
use Rattle.line_results.specs.Resting.{Adds, EndsRun, IsAtRest, IsLate, NobodyHolds, SameBytes, SameImage, database, has_ended}
use Rattle.line_results.specs.Sound.{HasSoundRows}
use Rattle.line_results.specs.Trees.{HasBytes, IsOfBackup}
use Rattle.reports.specs.declared.shown.Shown.TheVariants.{Copied, DeletedHistory, DeletedVolume, DiscardedFilespace, Expired, Reused}
use Rattle.line_results.proofs.Backing.{AllBack, MayBack, back-walk, backed-none, backs-none, left_by, newest-none}
use Rattle.line_results.proofs.Changed.{changes}
use Rattle.line_results.proofs.BackupReason.{backup-reason, follow-reason}
use Rattle.line_results.proofs.BackupRefused.{backup-refused}
use Rattle.line_results.proofs.Copying.{AllCopy, Copies, IsCopy, MayJoin, copied-none, copies-idle, copies-walk, settled-free}
use Rattle.line_results.proofs.Free.{free-walk}
use Rattle.line_results.proofs.Growing.{Makes}
use Rattle.line_results.proofs.Idle.{still-idle}
use Rattle.line_results.proofs.Processing.{HasReuse, IsProcess, IsProcessOwn, IsProcessTree, IsRowless}
use Rattle.line_results.proofs.Leaving.{Left}
use Rattle.line_results.proofs.Mild.{is_common}
use Rattle.line_results.proofs.Needs.{IsPlainWork}
use Rattle.line_results.proofs.Keeping.{IsStored, each-same}
use Rattle.line_results.proofs.Opened.{orders-of}
use Rattle.line_results.proofs.Planned.{backup-sends}
use Rattle.line_results.proofs.CopyReason.{copy-reason}
use Rattle.line_results.proofs.MigrateReason.{all-reason, migrate-reason, migrations-try, sweeps-try}
use Rattle.line_results.proofs.MoveReason.{move-reason, moves-try, reclaim-reason, reclaims-try}
use Rattle.line_results.proofs.ReturnReason.{restore-pool-reason, restore-volume-reason, restores-try}
use Rattle.line_results.proofs.Reasons.{IsAny, audit-reason, copy-reasoned, copy-unreasoned, expire-reason, filespace-reason, history-reason, reasoned, reuses-reason, unreasoned, valid-behind, volume-reason}
use Rattle.line_results.proofs.Runs.{alone-none, alone-parts, onward-none}
use Rattle.line_results.proofs.Sending.{Sends, Stored, has-tickets, sends-walk, stored-none}
use Rattle.line_results.proofs.Settling.{Settled, may_stay, settles}
use Rattle.line_results.proofs.Spent.{spent-free}
use Rattle.line_results.proofs.Walking.{AllWalk, AreOf, Grew, MayWalk, Under, Walked, Walks, all-may-walk, all-walk, are-as, grew-none, grew-since, rose-in-as, walk, walked-none}

-- ---- steps of processes

ending-walks : (P : Change → Type 0) (d : Deed) → IsEnding d → Walks P d
ending-walks P d (inl (q, answer, is)) = subst (λ (x : Deed). Walks P x) (sym is) tt
ending-walks P d (inr (answer, is)) = subst (λ (x : Deed). Walks P x) (sym is) tt

-- what joins by a change that is asked as it stands
joined-plain : (P : Change → Type 0) (w c : Change) (core : Core) → P (filled core.next_file (inventory core) w) → asked_change 0 (Plain w) [] core ≡ Some c → P c
joined-plain P w c core p is = subst P (same_Some (filled core.next_file (inventory core) w) c is) p

plain-walks : (P : Change → Type 0) (d : Deed) (w : Change) (answer : Result ℕ Refusal) → ((next_file : ℕ) (v : Inv) → P (filled next_file v w)) → d ≡ Commit (Plain w) [] answer → Walks P d
plain-walks P d w answer p is = subst (λ (x : Deed). Walks P x) (sym is) (refl, λ c core joins. joined-plain P w c core (p core.next_file (inventory core)) joins)

asked-walks : (P : Change → Type 0) (asked : Asked) (tickets : List ℕ) (answer : Result ℕ Refusal) (w : Change) → ((next_file : ℕ) (v : Inv) → P (filled next_file v w)) → asked ≡ Plain w → tickets ≡ [] → Walks P (Commit asked tickets answer)
asked-walks P asked tickets answer w p is none = (none, λ c core joins. joined-plain P w c core (p core.next_file (inventory core)) (subst (λ (a : Asked). asked_change 0 a [] core ≡ Some c) is joins))

expiring-walks : (numbers : List ℕ) (d : Deed) → IsExpiring d → Walks (MayMake numbers expire) d
expiring-walks numbers (Ask query answer) h = tt
expiring-walks numbers (Force answer) h = tt
expiring-walks numbers (Commit asked tickets answer) (filespace, lines, is, none) =
    asked-walks (MayMake numbers expire) asked tickets answer (change.Expire (record { filespace = filespace; items = map named lines })) (λ next_file v. (filespace, map named lines, refl)) is none
expiring-walks numbers d h = absurd h

discarding-walks : (P : Change → Type 0) (reason : DiscardReason) (d : Deed) → ((items : List _) → P (change.Discard (record { reason = reason; items = items }))) → IsDiscarding reason d → Walks P d
discarding-walks P reason d p (objects, answer, is) =
    plain-walks P d (change.Discard (record { reason = reason; items = map discarded objects })) answer (λ next_file v. p (map discarded objects)) is

filespace-walks : (numbers : List ℕ) (d : Deed) → filespaces.IsDeleting (the_number numbers) d → Walks (MayMake numbers empty_filespace) d
filespace-walks numbers d (inl h) = ending-walks (MayMake numbers empty_filespace) d h
filespace-walks numbers d (inr (inl h)) = discarding-walks (MayMake numbers empty_filespace) (because.Filespace (the_number numbers)) d (λ items. inl (items, refl)) h
filespace-walks numbers d (inr (inr (name, answer, is))) =
    plain-walks (MayMake numbers empty_filespace) d (change.Object (client.Filespace two.Delete 0 name (the_number numbers))) answer (λ next_file v. inr (name, refl)) is

taking-walks : (numbers : List ℕ) (d : Deed) → IsTaking (the_number numbers) d → Walks (MayMake numbers empty_volume) d
taking-walks numbers d (inl (lines, answer, is)) =
    plain-walks (MayMake numbers empty_volume) d (change.DropCopies (record { reason = since.Volume (the_number numbers); items = map dropped lines })) answer (λ next_file v. inl (map dropped lines, refl)) is
taking-walks numbers d (inr h) = discarding-walks (MayMake numbers empty_volume) (because.Volume (the_number numbers)) d (λ items. inr (inl (items, refl))) h

volume-walks : (numbers : List ℕ) (d : Deed) → volumes.IsDeleting true (the_number numbers) d → Walks (MayMake numbers empty_volume) d
volume-walks numbers d (inl (inl h)) = ending-walks (MayMake numbers empty_volume) d h
volume-walks numbers d (inl (inr (row, answer, is))) =
    plain-walks (MayMake numbers empty_volume) d (change.Pool (store.Volume verb.Delete row.name 0 (the_number numbers) row.capacity row.access)) answer
    (λ next_file v. inr (inr (row.name, row.capacity, row.access, refl))) is
volume-walks numbers d (inr h) = taking-walks numbers d h

reusing-walks : (files : List ℕ) (d : Deed) → IsReusing files d → Walks (IsReuse reuses) d
reusing-walks files d (inl h) = ending-walks (IsReuse reuses) d h
reusing-walks files d (inr (file, answer, among, is)) = subst (λ (x : Deed). Walks (IsReuse reuses) x) (sym is) (file, refl)

-- a backup that is taken off the list
history-walks : (to : ℕ) (numbers files : List ℕ) (d : Deed) → IsDeleting files d → Walks (MayMake numbers (delete_history to)) d
history-walks to numbers files d (inl h) = ending-walks (MayMake numbers (delete_history to)) d h
history-walks to numbers files d (inr (file, answer, among, is)) = plain-walks (MayMake numbers (delete_history to)) d (change.DbDelete file) answer (λ next_file v. (file, refl)) is

-- a copy that is read, or mended where that is asked
mending-walks : (fix : Bool) (numbers : List ℕ) (d : Deed) → fix ≡ true → IsMending (the_number numbers) d → Walks (MayMake numbers (audit_volume fix)) d
mending-walks fix numbers d asked (line, found, answer, inl is) = plain-walks (MayMake numbers (audit_volume fix)) d _ answer (λ next_file v. (asked, inl (_, refl))) is
mending-walks fix numbers d asked (line, found, answer, inr is) = plain-walks (MayMake numbers (audit_volume fix)) d _ answer (λ next_file v. (asked, inr (_, refl))) is

auditing-walks : (fix : Bool) (numbers : List ℕ) (d : Deed) → IsAuditing fix (the_number numbers) d → MayWalk (MayMake numbers (audit_volume fix)) d
auditing-walks fix numbers d (inl h) = inl (ending-walks (MayMake numbers (audit_volume fix)) d h)
auditing-walks fix numbers d (inr (inl (line, offset, wanted, answer, is))) = subst (λ (x : Deed). MayWalk (MayMake numbers (audit_volume fix)) x) (sym is) (inr tt)
auditing-walks fix numbers d (inr (inr (asked, h))) = inl (mending-walks fix numbers d asked h)

-- a step of a backup of the whole database
backup-backs : (numbers : List ℕ) (d : Deed) → IsOfImage (kind_of None) d → MayBack (MayMake numbers back_up_database) d
backup-backs numbers (Image other answer) (inl same) = subst (λ (k : ImageKind). MayBack (MayMake numbers back_up_database) (Image k answer)) (sym same) (λ file. (file, inl refl))
backup-backs numbers (Image other answer) (inr same) = subst (λ (k : ImageKind). MayBack (MayMake numbers back_up_database) (Image k answer)) (sym same) (λ file. (file, inr (inl refl)))
backup-backs numbers (Commit asked tickets answer) (file, is, none) =
    asked-walks (MayMake numbers back_up_database) asked tickets answer (change.DbDelete file) (λ next_file v. (file, inr (inr refl))) is none
backup-backs numbers (Force answer) h = tt
backup-backs numbers d h = absurd h

-- and of one that follows another
since-backs : (numbers : List ℕ) (after : ℕ) (d : Deed) → IsOfImage (image.Since after) d → MayBack (MayMake numbers back_up_since) d
since-backs numbers after (Image other answer) (inl same) = subst (λ (k : ImageKind). MayBack (MayMake numbers back_up_since) (Image k answer)) (sym same) (λ file. (file, inl (after, refl)))
since-backs numbers after (Image other answer) (inr same) = subst (λ (k : ImageKind). MayBack (MayMake numbers back_up_since) (Image k answer)) (sym same) (λ file. (file, inr (inl refl)))
since-backs numbers after (Commit asked tickets answer) (file, is, none) =
    asked-walks (MayMake numbers back_up_since) asked tickets answer (change.DbDelete file) (λ next_file v. (file, inr (inr refl))) is none
since-backs numbers after (Force answer) h = tt
since-backs numbers after d h = absurd h

following-backs : (numbers : List ℕ) (d : Deed) → IsFollowing d → MayBack (MayMake numbers back_up_since) d
following-backs numbers d (inl (q, answer, is)) = subst (λ (x : Deed). MayBack (MayMake numbers back_up_since) x) (sym is) tt
following-backs numbers d (inr (after, h)) = since-backs numbers after d h

all-back : (P : Change → Type 0) (Is : Deed → Type 0) → ((d : Deed) → Is d → MayBack P d) → (events : List Event) → AllByRecursion (λ e. Is e.deed) events → AllBack P events
all-back P Is so [] h = tt
all-back P Is so (e ∷ events) h = (so e.deed h.0, all-back P Is so events h.1)

-- where the run goes on the backup leaves no image
leaves-none : (answer : Result Taken Refusal) (said : Result Outcome Refusal) → said ≡ on_ok backed_up answer → has_ended said ≡ false → may_leave_image answer ≡ false
leaves-none (Ok t) said is h = refl
leaves-none (Err e) said is h = ap (λ (r : Result Outcome Refusal). has_ended r) (sym is) ∙ h

-- P holds of nothing
abbrev pub NoOther : Change → Type 0
NoOther c = ⊥

ending-copies : (moving : Bool) (P : Change → Type 0) (d : Deed) → IsEnding d → Copies moving P d
ending-copies moving P d (inl (q, answer, is)) = subst (λ (x : Deed). Copies moving P x) (sym is) tt
ending-copies moving P d (inr (answer, is)) = subst (λ (x : Deed). Copies moving P x) (sym is) tt

-- an attempt for a copy that moves
attempt-moves : (P : Change → Type 0) (object : ℕ) (a : Aim) (avoid : ℕ) (d : Deed) → is_moving a ≡ true → IsOfAttempt object a avoid d → Copies true P d
attempt-moves P object a avoid (OpenCopy number to other answer) so (one, is, none) = ap is_moving is ∙ so
attempt-moves P object a avoid (CopyPiece number answer) so h = tt
attempt-moves P object a avoid (Seal number answer) so h = tt
attempt-moves P object a avoid (DropTicket number answer) so h = tt
attempt-moves P object a avoid (Force answer) so h = tt
attempt-moves P object a avoid (Commit asked tickets answer) so (number, is, one) = inl (number, is, one)
attempt-moves P object a avoid d so h = absurd h

pub data-moves : (file to : ℕ) (d : Deed) → IsMoving file to d → Copies true NoOther d
data-moves file to d (inl h) = ending-copies true NoOther d h
data-moves file to d (inr (object, from, placed, is)) = attempt-moves NoOther object (aim.Move from placed (into to from) false) file d refl is

pub reclaim-moves : (files : List ℕ) (pool : ℕ) (d : Deed) → IsReclaiming files pool d → Copies true NoOther d
reclaim-moves files pool d (inl h) = ending-copies true NoOther d h
reclaim-moves files pool d (inr (file, among, is)) = data-moves file pool d is

pub restore-moves : (P : Change → Type 0) (d : Deed) → IsRestore d → Copies true P d
restore-moves P d (inl h) = ending-copies true P d h
restore-moves P d (inr (object, pool, placed, is)) = attempt-moves P object (aim_of pool placed) 0 d refl is

-- the volume that is found has this file
has-file : (file : ℕ) (lines : List VolumeLine) (l : VolumeLine) → volume_with file lines ≡ Some l → l.file ≡ file
has-file file [] l is = absurd cc
has-file file (x ∷ lines) l is =
    elim (x.file == file) as (λ b. (x.file == file) ≡ b → (if b then Some x else volume_with file lines) ≡ Some l → l.file ≡ file) [
      | true ↦ λ same one. subst (λ (y : VolumeLine). y.file ≡ file) (same_Some x l one) (eqb-true x.file file same)
      | false ↦ λ other later. has-file file lines l later
    ] refl is

loss-found : (file : ℕ) (found : Option VolumeLine) (c : Change) → ((l : VolumeLine) → found ≡ Some l → l.file ≡ file) → destroying_found found ≡ Ok c → (next_file : ℕ) (v : Inv) → IsLoss file (filled next_file v c)
loss-found file None c so is next_file v = absurd cc
loss-found file (Some l) c so is next_file v =
    let same : destroying l ≡ c = cc in
    subst (λ (x : Change). IsLoss file (filled next_file v x)) same (l.name, l.capacity, ap (λ (k : ℕ). change.Pool (store.Volume verb.Update l.name 0 k l.capacity Destroyed)) (so l refl))

pub migration-moves : (pool : ℕ) (d : Deed) → IsMigration pool d → Copies true NoOther d
migration-moves pool d (inl h) = ending-copies true NoOther d h
migration-moves pool d (inr (object, placed, to, is)) = attempt-moves NoOther object (aim.Move pool placed to true) 0 d refl is

pub sweep-moves : (d : Deed) → IsSweep d → Copies true NoOther d
sweep-moves d (inl h) = ending-copies true NoOther d h
sweep-moves d (inr (object, pool, placed, to, is)) = attempt-moves NoOther object (aim.Move pool placed to true) 0 d refl is

pub volume-moves : (file : ℕ) (d : Deed) → IsVolumeRestore file d → Copies true (IsLoss file) d
volume-moves file d (inl h) = restore-moves (IsLoss file) d h
volume-moves file d (inr (lines, c, answer, of, is)) =
    subst (λ (x : Deed). Copies true (IsLoss file) x) (sym is)
    (inr (refl, λ w core joins. joined-plain (IsLoss file) c w core (loss-found file (volume_with file lines) c (λ l found. has-file file lines l found) of core.next_file (inventory core)) joins))

pub all-copies : (moving : Bool) (P : Change → Type 0) (Is : Deed → Type 0) → ((d : Deed) → Is d → Copies moving P d) → (events : List Event) → AllByRecursion (λ e. Is e.deed) events → AllCopy moving P events
all-copies moving P Is so [] h = tt
all-copies moving P Is so (e ∷ events) h = (so e.deed h.0, all-copies moving P Is so events h.1)

-- no ticket is left, unless one may be
module _ (events : List Event) (said : Result Outcome Refusal) (leave : may_stay said ≡ false) where
  moves-settled : (mover : Mover) (first second : ℕ) (answer : Result Moved Refusal) → MovesSo mover first second events answer → said ≡ on_ok (λ (m : Moved). Said (moved_line mover m)) answer → AreSettled events
  moves-settled data_mover first second (Ok m) h is = h.came.settled
  moves-settled data_mover first second (Err e) h is = h.came.settled (ap may_stay (sym is) ∙ leave)
  moves-settled reclaimer first second (Ok m) h is = h.came.settled
  moves-settled reclaimer first second (Err e) h is = h.came.settled (ap may_stay (sym is) ∙ leave)
  moves-settled pool_restorer first second (Ok m) h is = h.came.counts.settled
  moves-settled pool_restorer first second (Err e) h is = h.came.settled (ap may_stay (sym is) ∙ leave)
  moves-settled volume_restorer first second (Ok m) h is = h.came.counts.settled
  moves-settled volume_restorer first second (Err e) h is = h.came.settled (ap may_stay (sym is) ∙ leave)
  moves-settled migrator first second (Ok m) h is = h.came.settled
  moves-settled migrator first second (Err e) h is = h.came.settled (ap may_stay (sym is) ∙ leave)
  moves-settled all_migrator first second (Ok m) h is = h.came.settled
  moves-settled all_migrator first second (Err e) h is = h.came.settled (ap may_stay (sym is) ∙ leave)

backup-copies-one : (copy : ℕ) (d : Deed) → IsBackup copy d → Copies false NoOther d
backup-copies-one copy d (inl h) = ending-copies false NoOther d h
backup-copies-one copy (OpenCopy number to other answer) (inr (object, (one, is, none))) = ap is_moving is
backup-copies-one copy (CopyPiece number answer) (inr h) = tt
backup-copies-one copy (Seal number answer) (inr h) = tt
backup-copies-one copy (DropTicket number answer) (inr h) = tt
backup-copies-one copy (Force answer) (inr h) = tt
backup-copies-one copy (Commit asked tickets answer) (inr (object, (number, is, one))) = inl (number, is, one)
backup-copies-one copy d (inr (object, h)) = absurd h

pub backup-copies : (copy : ℕ) (events : List Event) → AllByRecursion (λ e. IsBackup copy e.deed) events → AllCopy false NoOther events
backup-copies copy [] h = tt
backup-copies copy (e ∷ events) h = (backup-copies-one copy e.deed h.0, backup-copies copy events h.1)

backup-settled : (primary copy : ℕ) (events : List Event) (answer : Result Moved Refusal) (said : Result Outcome Refusal) → BackupCame primary copy events answer
    → said ≡ on_ok (λ (copies : Moved). Said (Copied copies.moved copies.failed)) answer → may_stay said ≡ false → AreSettled events
backup-settled primary copy events (Ok m) said h is leave = h.settled
backup-settled primary copy events (Err e) said h is leave = h.settled (ap may_stay (sym is) ∙ leave)

changing-walks : (what : Change) (d : Deed) → IsOf what d → Walks IsAny d
changing-walks what (Commit asked tickets answer) h = (h.1, λ c core joins. tt)
changing-walks what (Force answer) h = tt
changing-walks what d h = absurd h

-- ---- the work

-- the earlier state with the bytes that objects have in the later one
abbrev since_of : (old mid : Machine) → Machine
since_of old mid = with_contents mid.contents old

-- The work of a process came to this, and these transactions were made.
pub record Began (trusted : Type 0) (places : Places) (k : Client) (c : Command) (w : Work) (b : Behind) (old mid : Machine) (said : Result Outcome Refusal) : Type 0 where
  pub first : List Entry
  pub does : Does trusted places k c (Ok w) old mid said first
  pub grew : Grew (IsReuse b) first [] (since_of old mid) mid
  pub free : may_stay said ≡ false → mid.core.tickets ≡ []
  pub idle : has_ended said ≡ false → mid.core.image ≡ None

-- work of a command's own
pub record OwnBegan (trusted : Type 0) (places : Places) (Did : List Entry → Type 0) (b : Behind) (old mid : Machine) (said : Result Outcome Refusal) : Type 0 where
  pub first : List Entry
  pub does : Did first
  pub grew : Grew (IsReuse b) first [] (since_of old mid) mid
  pub free : may_stay said ≡ false → mid.core.tickets ≡ []
  pub idle : has_ended said ≡ false → mid.core.image ≡ None

still-none : (m : Machine) → IsStill m m
still-none m = record { core = refl; contents = refl; onward = onward-none m }

-- what was made, in front of what is to come
began-grew : (P Q : Change → Type 0) (first : List Entry) (old mid : Machine) → Grew P [] first old mid → Grew Q first [] (since_of old mid) mid
began-grew P Q first old mid w = grew-since Q first old mid w.core w.onward w.fault

module _ (trusted : Type 0) (places : Places) (choice : List Rule) (b : Behind) where
  -- steps of a process without tickets, each of which is one of these
  process-began : (numbers : List ℕ) (own : Own) (said : Result Outcome Refusal) (events : List Event) (old mid : Machine) → IsAtRest old.core → DoesAloneBy choice own numbers events said → AllWalk (MayMake numbers own) events
      → IsReasoned numbers own old mid said × IsCopyReasoned places numbers own old said → Alone trusted places 0 events old mid → OwnBegan trusted places (λ added. Processes trusted places choice numbers own old mid said added) b old mid said
  process-began numbers own said events old mid rest did all why f =
      let r = walk trusted places (MayMake numbers own) [] events [] old old mid all (walked-none (MayMake numbers own) old rest) f in
      record {
        first = r.0;
        does = ((old, events, still-none old, f, did), r.1.grew.are, r.1.grew.core.generation, r.1.grew.contents, record { at_all = why.0; copying = why.1 });
        grew = began-grew (MayMake numbers own) (IsReuse b) r.0 old mid r.1.grew;
        free = λ h. r.1.free;
        idle = λ h. r.1.idle;
      }

  -- steps that begin images of database backups, and leave none where the run goes on
  images-began : (numbers : List ℕ) (own : Own) (said : Result Outcome Refusal) (events : List Event) (old mid : Machine) → IsAtRest old.core → DoesAloneBy choice own numbers events said → AllBack (MayMake numbers own) events
      → (has_ended said ≡ false → left_by false events ≡ false) → IsReasoned numbers own old mid said × IsCopyReasoned places numbers own old said → Alone trusted places 0 events old mid
      → OwnBegan trusted places (λ added. Processes trusted places choice numbers own old mid said added) b old mid said
  images-began numbers own said events old mid rest did all none why f =
      let r = back-walk trusted places (MayMake numbers own) [] events false [] old old mid all (backed-none (MayMake numbers own) old rest) f in
      record {
        first = r.0;
        does = ((old, events, still-none old, f, did), r.1.grew.are, r.1.grew.core.generation, r.1.grew.contents, record { at_all = why.0; copying = why.1 });
        grew = began-grew (MayMake numbers own) (IsReuse b) r.0 old mid r.1.grew;
        free = λ h. r.1.free;
        idle = λ h. r.1.idle (none h);
      }

  -- steps that make further copies, or move some
  copies-began : (moving : Bool) (P : Change → Type 0) (numbers : List ℕ) (own : Own) (said : Result Outcome Refusal) (events : List Event) (old mid : Machine) → ((c : Change) → MayJoin moving P c → MayMake numbers own c) → IsAtRest old.core
      → DoesAloneBy choice own numbers events said → AllCopy moving P events → (may_stay said ≡ false → AreSettled events) → IsReasoned numbers own old mid said × IsCopyReasoned places numbers own old said → Alone trusted places 0 events old mid
      → OwnBegan trusted places (λ added. Processes trusted places choice numbers own old mid said added) b old mid said
  copies-began moving P numbers own said events old mid may rest did all settled why f =
      let r = copies-walk moving P trusted places [] events [] old old mid all (copied-none moving P old rest) f in
      record {
        first = r.0;
        does = ((old, events, still-none old, f, did), are-as (MayJoin moving P) (MayMake numbers own) may r.0 r.1.grew.are, r.1.grew.core.generation, r.1.grew.contents, record { at_all = why.0; copying = why.1 });
        grew = began-grew (MayJoin moving P) (IsReuse b) r.0 old mid r.1.grew;
        free = λ h. settled-free moving P trusted places events old mid rest.tickets all (settled h) f;
        idle = λ h. copies-idle moving P trusted places events old mid all f ∙ rest.image;
      }

  -- what made no step
  none-began : (told said : Result Outcome Refusal) (events : List Event) (old mid : Machine) → IsAtRest old.core → events ≡ [] → said ≡ told → Alone trusted places 0 events old mid
      → OwnBegan trusted places (λ added. Tells told old mid said added) b old mid said
  none-began told said events old mid rest none is f =
      let same : mid ≡ old = alone-none trusted places 0 events old mid none f in
      record {
        first = [];
        does = (inl is, refl, ap (λ (m : Machine). m.core.generation) same, ap (λ (m : Machine). m.contents) same);
        grew = subst (λ (m : Machine). Grew (IsReuse b) [] [] (since_of old m) m) (sym same) (began-grew (IsReuse b) (IsReuse b) [] old old (grew-none (IsReuse b) old rest));
        free = λ h. subst (λ (m : Machine). m.core.tickets ≡ []) (sym same) rest.tickets;
        idle = λ h. subst (λ (m : Machine). m.core.image ≡ None) (sym same) rest.image;
      }

  no-other : (c : Change) (moving : Bool) → MayJoin moving NoOther c → IsCopy moving c
  no-other c moving (inl h) = h
  no-other c moving (inr h) = absurd h

  moves-began : NobodyHolds places → RefusesElsewhere places → (mover : Mover) (numbers : List ℕ) (said : Result Outcome Refusal) (events : List Event) (old mid : Machine) → IsAtRest old.core → HasSoundRows (database old) → DoesAloneBy choice (moves mover) numbers events said
      → Alone trusted places 0 events old mid → OwnBegan trusted places (λ added. DoesAlone trusted places choice numbers (moves mover) old mid said added) b old mid said
  moves-began nobody lawful data_mover numbers said events old mid rest sound h f =
      copies-began true NoOther numbers (moves data_mover) said events old mid (λ c is. no-other c true is) rest h
      (all-copies true NoOther (IsMoving (the_number numbers) (the_second numbers)) (data-moves (the_number numbers) (the_second numbers)) events h.1.only)
      (λ leave. moves-settled events said leave data_mover (the_number numbers) (the_second numbers) h.0 h.1 h.2) (
        unreasoned numbers (moves data_mover) old mid said (λ e. tt),
        copy-reasoned places numbers (moves data_mover) old (λ (m : Moved). Said (moved_line data_mover m)) h.0 said h.2
            (λ e is mild. move-reason trusted places nobody lawful events e old mid mild rest (moves-try (the_number numbers) (the_second numbers) events h.1.only) f sound.valid (the_number numbers) (the_second numbers)
            (subst (λ (r : Result Moved Refusal). DataMove (the_number numbers) (the_second numbers) events r) is h.1)),
      ) f
  moves-began nobody lawful reclaimer numbers said events old mid rest sound h f =
      copies-began true NoOther numbers (moves reclaimer) said events old mid (λ c is. no-other c true is) rest h
      (all-copies true NoOther (IsReclaiming h.1.files (the_number numbers)) (reclaim-moves h.1.files (the_number numbers)) events h.1.only)
      (λ leave. moves-settled events said leave reclaimer (the_number numbers) (the_second numbers) h.0 h.1 h.2) (
        unreasoned numbers (moves reclaimer) old mid said (λ e. tt),
        copy-reasoned places numbers (moves reclaimer) old (λ (m : Moved). Said (moved_line reclaimer m)) h.0 said h.2
            (λ e is mild. reclaim-reason trusted places nobody lawful events e old mid mild rest (reclaims-try h.1.files (the_number numbers) events h.1.only) f sound.valid (the_number numbers) (min (the_second numbers) 100)
            (subst (λ (r : Result Moved Refusal). Reclamation (the_number numbers) (min (the_second numbers) 100) events r) is h.1)),
      ) f
  moves-began nobody lawful pool_restorer numbers said events old mid rest sound h f =
      copies-began true NoOther numbers (moves pool_restorer) said events old mid (λ c is. no-other c true is) rest h (all-copies true NoOther IsRestore (restore-moves NoOther) events h.1.only)
      (λ leave. moves-settled events said leave pool_restorer (the_number numbers) (the_second numbers) h.0 h.1 h.2) (
        unreasoned numbers (moves pool_restorer) old mid said (λ e. tt),
        copy-reasoned places numbers (moves pool_restorer) old (λ (m : Moved). Said (moved_line pool_restorer m)) h.0 said h.2
            (λ e is mild. restore-pool-reason trusted places nobody lawful events e old mid mild rest (restores-try events h.1.only) f sound.valid (the_number numbers)
            (subst (λ (r : Result Moved Refusal). PoolRestore (the_number numbers) events r) is h.1)),
      ) f
  moves-began nobody lawful volume_restorer numbers said events old mid rest sound h f =
      copies-began true (IsLoss (the_number numbers)) numbers (moves volume_restorer) said events old mid (λ c is. is) rest h
      (all-copies true (IsLoss (the_number numbers)) (IsVolumeRestore (the_number numbers)) (volume-moves (the_number numbers)) events h.1.only)
      (λ leave. moves-settled events said leave volume_restorer (the_number numbers) (the_second numbers) h.0 h.1 h.2) (
        unreasoned numbers (moves volume_restorer) old mid said (λ e. tt),
        copy-reasoned places numbers (moves volume_restorer) old (λ (m : Moved). Said (moved_line volume_restorer m)) h.0 said h.2
            (λ e is mild. restore-volume-reason trusted places nobody lawful (the_number numbers) events e old mid mild rest sound.valid f
            (subst (λ (r : Result Moved Refusal). VolumeRestore (the_number numbers) events r) is h.1)),
      ) f
  moves-began nobody lawful migrator numbers said events old mid rest sound h f =
      copies-began true NoOther numbers (moves migrator) said events old mid (λ c is. no-other c true is) rest h (all-copies true NoOther (IsMigration (the_number numbers)) (migration-moves (the_number numbers)) events h.1.only)
      (λ leave. moves-settled events said leave migrator (the_number numbers) (the_second numbers) h.0 h.1 h.2) (
        unreasoned numbers (moves migrator) old mid said (λ e. tt),
        copy-reasoned places numbers (moves migrator) old (λ (m : Moved). Said (moved_line migrator m)) h.0 said h.2
            (λ e is mild. migrate-reason trusted places nobody lawful events e old mid mild rest (migrations-try (the_number numbers) events h.1.only) f sound.valid (the_number numbers) (min (the_second numbers) 100)
            (subst (λ (r : Result Moved Refusal). Migration first_picks (the_number numbers) (min (the_second numbers) 100) events r) is h.1)),
      ) f
  moves-began nobody lawful all_migrator numbers said events old mid rest sound h f =
      copies-began true NoOther numbers (moves all_migrator) said events old mid (λ c is. no-other c true is) rest h (all-copies true NoOther IsSweep sweep-moves events h.1.only)
      (λ leave. moves-settled events said leave all_migrator (the_number numbers) (the_second numbers) h.0 h.1 h.2) (
        unreasoned numbers (moves all_migrator) old mid said (λ e. tt),
        copy-reasoned places numbers (moves all_migrator) old (λ (m : Moved). Said (moved_line all_migrator m)) h.0 said h.2
            (λ e is mild. all-reason trusted places nobody lawful events e old mid mild rest (sweeps-try events h.1.only) f sound.valid
            (subst (λ (r : Result Moved Refusal). AllMigration first_picks events r) is h.1) sound.pools),
      ) f

  alone-began : NobodyHolds places → RefusesElsewhere places → (own : Own) (numbers : List ℕ) (said : Result Outcome Refusal) (events : List Event) (old mid : Machine) → IsProcessOwn own → IsAtRest old.core → HasSoundRows (database old) → DoesAloneBy choice own numbers events said
      → Alone trusted places 0 events old mid → OwnBegan trusted places (λ added. DoesAlone trusted places choice numbers own old mid said added) b old mid said
  alone-began nobody lawful expire numbers said events old mid so rest sound h f = process-began numbers expire said events old mid rest h (all-walk IsExpiring (MayMake numbers expire) (expiring-walks numbers) events h.1.only)
      (reasoned numbers expire old mid (λ expired. Said (Expired expired 0)) h.0 said h.2 (λ e is mild. expire-reason trusted places old mid e mild sound.valid events (subst (λ (r : Result ℕ Refusal). Expiration events r) is h.1) f), copy-unreasoned places numbers expire old said (λ e. tt)) f
  alone-began nobody lawful empty_filespace numbers said events old mid so rest sound h f =
      process-began numbers empty_filespace said events old mid rest h (all-walk (filespaces.IsDeleting (the_number numbers)) (MayMake numbers empty_filespace) (filespace-walks numbers) events h.1.only) (
        reasoned numbers empty_filespace old mid (λ discarded. Said (DiscardedFilespace discarded 0)) h.0 said h.2
            (λ e is mild. filespace-reason trusted places (the_number numbers) events e old mid mild (rest.tickets, rest.image) sound.valid sound.rows (subst (λ (r : Result ℕ Refusal). FilespaceDeletion (the_number numbers) events r) is h.1) f),
        copy-unreasoned places numbers empty_filespace old said (λ e. tt),
      ) f
  alone-began nobody lawful empty_volume numbers said events old mid so rest sound h f =
      process-began numbers empty_volume said events old mid rest h (all-walk (volumes.IsDeleting true (the_number numbers)) (MayMake numbers empty_volume) (volume-walks numbers) events h.1.only) (
        reasoned numbers empty_volume old mid (λ (went : Removed). Said (DeletedVolume went.discarded went.dropped)) h.0 said h.2
            (λ e is mild. volume-reason trusted places (the_number numbers) events e old mid mild (rest.tickets, rest.image) (sound.valid, sound.rows, sound.tied) (subst (λ (r : Result Removed Refusal). VolumeDeletion true (the_number numbers) events r) is h.1) f),
        copy-unreasoned places numbers empty_volume old said (λ e. tt),
      ) f
  alone-began nobody lawful back_up_pool numbers said events old mid so rest sound h f =
      copies-began false NoOther numbers back_up_pool said events old mid (λ c is. no-other c false is) rest h (backup-copies (the_second numbers) events h.1.only) (backup-settled (the_number numbers) (the_second numbers) events h.0 said h.1.came h.2) (
        unreasoned numbers back_up_pool old mid said (λ e. tt),
        copy-reasoned places numbers back_up_pool old (λ (copies : Moved). Said (Copied copies.moved copies.failed)) h.0 said h.2
            (λ e is mild. copy-reason trusted places nobody lawful (the_number numbers) (the_second numbers) events e old mid mild rest (subst (λ (r : Result Moved Refusal). Backup (the_number numbers) (the_second numbers) events r) is h.1) f),
      ) f
  alone-began nobody lawful (moves mover) numbers said events old mid so rest sound h f = moves-began nobody lawful mover numbers said events old mid rest sound h f
  alone-began nobody lawful back_up_database numbers said events old mid so rest sound (answer, made, is) f =
      images-began numbers back_up_database said events old mid rest (answer, made, is) (all-back (MayMake numbers back_up_database) (IsOfImage (kind_of None)) (backup-backs numbers) events made.only)
      (λ h. backs-none None events answer made.order (leaves-none answer said is h))
      (reasoned numbers back_up_database old mid backed_up answer said is (λ e same mild. backup-reason trusted places None e events old mid mild rest.image (subst (λ (r : Result Taken Refusal). Backs image.Backup events r) same made.order) f), copy-unreasoned places numbers back_up_database old said (λ e. tt)) f
  alone-began nobody lawful back_up_since numbers said events old mid so rest sound (answer, made, is) f =
      images-began numbers back_up_since said events old mid rest (answer, made, is) (all-back (MayMake numbers back_up_since) IsFollowing (following-backs numbers) events made.only)
      (λ h. newest-none events answer made.order (leaves-none answer said is h))
      (reasoned numbers back_up_since old mid backed_up answer said is (λ e same mild. follow-reason trusted places e mild events old mid rest.image (subst (λ (r : Result Taken Refusal). FollowsNewest events r) same made.order) f), copy-unreasoned places numbers back_up_since old said (λ e. tt)) f
  alone-began nobody lawful (delete_history to) numbers said events old mid so rest sound h f =
      process-began numbers (delete_history to) said events old mid rest h (all-walk (IsDeleting (due_files to h.1.lines)) (MayMake numbers (delete_history to)) (history-walks to numbers (due_files to h.1.lines)) events h.1.only) (
        reasoned numbers (delete_history to) old mid (λ deleted. Said (DeletedHistory deleted)) h.0 said h.2
            (λ e is mild. history-reason trusted places to events e old mid mild (rest.tickets, rest.image) sound.valid (subst (λ (r : Result ℕ Refusal). HistoryDeletion to events r) is h.1) f),
        copy-unreasoned places numbers (delete_history to) old said (λ e. tt),
      ) f
  alone-began nobody lawful (audit_volume fix) numbers said events old mid so rest sound h f =
      process-began numbers (audit_volume fix) said events old mid rest h
      (all-may-walk (IsAuditing fix (the_number numbers)) (MayMake numbers (audit_volume fix)) (auditing-walks fix numbers) events h.1.only) (
        reasoned numbers (audit_volume fix) old mid came.Audited h.0 said h.2
            (λ e is mild. audit-reason trusted places fix (the_number numbers) events e old mid mild (rest.tickets, rest.image) sound.valid (subst (λ (r : Result Audit Refusal). VolumeAudit fix (the_number numbers) events r) is h.1) f),
        copy-unreasoned places numbers (audit_volume fix) old said (λ e. tt),
      ) f
  alone-began nobody lawful none_but_reuse numbers said events old mid so rest sound h f = none-began (Ok (Said (Reused 0))) said events old mid rest h.0 h.1 f
  alone-began nobody lawful none_yet numbers said events old mid so rest sound h f = none-began (Err (refused.UnknownWord 1)) said events old mid rest h.0 h.1 f
  alone-began nobody lawful (on_tree work) numbers said events old mid so rest sound h f = absurd h
  alone-began nobody lawful own numbers said events old mid so rest sound h f = absurd so

-- all trees are as they were
kept-began : (trusted : Type 0) (places : Places) (k : Client) (Did : List Entry → Type 0) (b : Behind) (old mid : Machine) (said : Result Outcome Refusal) → IsKept k → OwnBegan trusted places Did b old mid said
    → OwnBegan trusted places (λ added. IsKept k × Did added) b old mid said
kept-began trusted places k Did b old mid said kept r = record { first = r.first; does = (kept, r.does); grew = r.grew; free = r.free; idle = r.idle }

stored-grew : (P Q : Change → Type 0) (whole : List Event) (first : List Entry) (old mid : Machine) → Stored P whole [] first old mid → Grew Q first [] (since_of old mid) mid
stored-grew P Q whole first old mid w =
    grew-since Q first old mid w.grew.core (record { counts = w.grew.onward.counts; since = w.grew.onward.since })
    (rose-in-as old (with_contents old.contents mid) old mid (λ file h. h) mid.core.fault w.grew.fault)

-- a backup that is answered so may leave no ticket
sent-leaves : (answer : Result Sent Refusal) (said : Result Outcome Refusal) → ShowsSent answer said → may_stay said ≡ false → may_leave answer ≡ false
sent-leaves (Ok s) said h stays = refl
sent-leaves (Err e) said h stays = ap may_stay (sym h) ∙ stays

module _ (trusted : Type 0) (places : Places) (nobody : NobodyHolds places) (lawful : RefusesElsewhere places) (k : Client) (b : Behind) where
  -- the backup of a tree; or there is no such tree
  back-up-began : (i : IncrementalBackup) (said : Result Outcome Refusal) (events : List Event) (old mid : Machine) → IsAtRest old.core → DoesThereBy k (back_up i) events said → Alone trusted places 0 events old mid
      → OwnBegan trusted places (λ added. DoesThere trusted places k (back_up i) old mid said added) b old mid said
  back-up-began i said events old mid rest (inl (before, after, turns, (answer, made, same, shows))) f =
      let P : Change → Type 0 = IsOfBackup k.choice i before.files (database old) in
      let all = backup-sends trusted places k.choice i before.files before.faults events old mid rest (orders-of i.node i.filespace k.choice before.files before.faults after.faults events answer made.order) f in
      let r = sends-walk P events trusted places [] events [] old old mid all (stored-none P events old rest) f in
      let free = free-walk places nobody P events trusted [] events [] old old mid all (stored-none P events old rest) f in
      record {
        first = r.0;
        does = inl (before, after, turns, ((old, events, still-none old, f, (answer, made, same, shows)), r.1.grew.are, r.1.grew.core.generation, r.1.keeps, each-same (IsStored mid.contents mid.core.tickets mid.core.next_object) (HasBytes mid) (λ i h. h.0) r.0 r.1.kept.0, backup-refused trusted places k.choice i before after events answer said old mid r.0 rest made.order shows free f r.1.grew.core.journal));
        grew = stored-grew P (IsReuse b) events r.0 old mid r.1;
        free = λ h. spent-free trusted places (Sends P events) (has-tickets P events) events old mid rest.tickets all (made.settled (sent-leaves answer said shows h)) f;
        idle = λ h. still-idle trusted places (Sends P events) (has-tickets P events) events old mid all f ∙ rest.image;
      }
  back-up-began i said events old mid rest (inr (missing, kept, none, is)) f =
      let same : mid ≡ old = alone-none trusted places 0 events old mid none f in
      record {
        first = [];
        does = inr (missing, kept, is, subst (λ (m : Machine). IsStill old m) (sym same) (still-none old), refl);
        grew = subst (λ (m : Machine). Grew (IsReuse b) [] [] (since_of old m) m) (sym same) (began-grew (IsReuse b) (IsReuse b) [] old old (grew-none (IsReuse b) old rest));
        free = λ h. subst (λ (m : Machine). m.core.tickets ≡ []) (sym same) rest.tickets;
        idle = λ h. subst (λ (m : Machine). m.core.image ≡ None) (sym same) rest.image;
      }

  tree-began : (work : OnTree) (said : Result Outcome Refusal) (events : List Event) (old mid : Machine) → IsProcessTree work → IsAtRest old.core → DoesThereBy k work events said → Alone trusted places 0 events old mid
      → OwnBegan trusted places (λ added. DoesThere trusted places k work old mid said added) b old mid said
  tree-began (back_up i) said events old mid so rest h f = back-up-began i said events old mid rest h f
  tree-began work said events old mid so rest h f = absurd so

  alone : (own : Own) (numbers : List ℕ) (said : Result Outcome Refusal) (events : List Event) (old mid : Machine) → IsProcessOwn own → IsAtRest old.core → HasSoundRows (database old) → IsKept k × DoesAloneBy k.choice own numbers events said
      → Alone trusted places 0 events old mid → OwnBegan trusted places (λ added. IsKept k × DoesAlone trusted places k.choice numbers own old mid said added) b old mid said
  alone own numbers said events old mid so rest sound (kept, h) f =
      kept-began trusted places k (λ added. DoesAlone trusted places k.choice numbers own old mid said added) b old mid said kept (alone-began trusted places k.choice b nobody lawful own numbers said events old mid so rest sound h f)

  own-began : (own : Own) (numbers : List ℕ) (said : Result Outcome Refusal) (events : List Event) (old mid : Machine) → IsProcessOwn own → IsAtRest old.core → HasSoundRows (database old) → DoesOwnBy k own numbers events said
      → Alone trusted places 0 events old mid → OwnBegan trusted places (λ added. DoesOwn trusted places k numbers own old mid said added) b old mid said
  own-began (on_tree work) numbers said events old mid so rest sound h f = tree-began work said events old mid so rest h f
  own-began expire numbers said events old mid so rest sound h f = alone expire numbers said events old mid so rest sound h f
  own-began empty_filespace numbers said events old mid so rest sound h f = alone empty_filespace numbers said events old mid so rest sound h f
  own-began empty_volume numbers said events old mid so rest sound h f = alone empty_volume numbers said events old mid so rest sound h f
  own-began back_up_pool numbers said events old mid so rest sound h f = alone back_up_pool numbers said events old mid so rest sound h f
  own-began (moves mover) numbers said events old mid so rest sound h f = alone (moves mover) numbers said events old mid so rest sound h f
  own-began back_up_database numbers said events old mid so rest sound h f = alone back_up_database numbers said events old mid so rest sound h f
  own-began back_up_since numbers said events old mid so rest sound h f = alone back_up_since numbers said events old mid so rest sound h f
  own-began (delete_history to) numbers said events old mid so rest sound h f = alone (delete_history to) numbers said events old mid so rest sound h f
  own-began (audit_volume fix) numbers said events old mid so rest sound h f = alone (audit_volume fix) numbers said events old mid so rest sound h f
  own-began none_but_reuse numbers said events old mid so rest sound h f = alone none_but_reuse numbers said events old mid so rest sound h f
  own-began none_yet numbers said events old mid so rest sound h f = alone none_yet numbers said events old mid so rest sound h f
  own-began own numbers said events old mid so rest sound h f = absurd so

  -- a change, which is known by what it makes of the database
  same-first : (first more : List Entry) (old mid : Machine) → Adds first old mid → Grew IsAny [] more old mid → Grew (IsReuse b) first [] (since_of old mid) mid
  same-first first more old mid adds w =
      let same : more ≡ first = append_cancel_left old.core.journal more first (sym w.core.journal ∙ adds.journal) in
      subst (λ (l : List Entry). Grew (IsReuse b) l [] (since_of old mid) mid) same (began-grew IsAny (IsReuse b) more old mid w)

  change-began : (c : Command) (what : Change) (said : Result Outcome Refusal) (events : List Event) (old mid : Machine) → is_plain what ≡ true → IsAtRest old.core → DoesBy k c (CommitWork what) events said
      → Alone trusted places 0 events old mid → Began trusted places k c (CommitWork what) b old mid said
  change-began c what said events old mid plain rest (kept, (answer, called, is)) f =
      let r = changes trusted places what events answer old mid plain rest called.order f in
      let w = walk trusted places IsAny [] events [] old old mid (all-walk (IsOf what) IsAny (changing-walks what) events called.only) (walked-none IsAny old rest) f in
      record { first = r.added; does = (kept, answer, r.commits, is, r.image, r.bytes); grew = same-first r.added w.0 old mid r.leaves.adds w.1.grew; free = λ h. w.1.free; idle = λ h. w.1.idle }

  began : (c : Command) (w : Work) (said : Result Outcome Refusal) (events : List Event) (old mid : Machine) → IsProcessOwn (own_of c) → IsRowless (Ok w) → IsPlainWork (Ok w) → IsAtRest old.core → HasSoundRows (database old) → DoesBy k c w events said
      → Alone trusted places 0 events old mid → Began trusted places k c w b old mid said
  began c (CommitWork what) said events old mid own rowless plain rest sound h f = change-began c what said events old mid (and_parts (is_plain what) (is_common what) plain).0 rest h f
  began c (Show q) said events old mid own rowless plain rest sound h f = absurd rowless
  began c (Run numbers) said events old mid own rowless plain rest sound h f =
      let r = own-began (own_of c) numbers said events old mid own rest sound h f in
      record { first = r.first; does = r.does; grew = r.grew; free = r.free; idle = r.idle }

-- ---- a valid database

walks-make : (P : Change → Type 0) (d : Deed) → Walks P d → Makes IsAny d
walks-make P (Commit asked tickets answer) h = λ c core is. tt
walks-make P (Image kind answer) h = absurd h
walks-make P d h = tt

copies-make : (P : Change → Type 0) (d : Deed) → Copies true P d → Makes IsAny d
copies-make P (Commit asked tickets answer) h = λ c core is. tt
copies-make P (Image kind answer) h = absurd h
copies-make P d h = tt

-- where volumes may be reused behind work, that leaves a valid database so
module _ (trusted : Type 0) (places : Places) (events : List Event) (old mid : Machine) (valid : is_valid (database old) ≡ true) (f : Alone trusted places 0 events old mid) where
  walks-valid : (P : Change → Type 0) (K : Deed → Type 0) → ((d : Deed) → K d → Walks P d) → AllByRecursion (λ e. K e.deed) events → is_valid (database mid) ≡ true
  walks-valid P K walks all = valid-behind trusted places K (λ d so. walks-make P d (walks d so)) events old mid all valid f

  copies-valid : (P : Change → Type 0) (K : Deed → Type 0) → ((d : Deed) → K d → Copies true P d) → AllByRecursion (λ e. K e.deed) events → is_valid (database mid) ≡ true
  copies-valid P K copies all = valid-behind trusted places K (λ d so. copies-make P d (copies d so)) events old mid all valid f

  none-valid : events ≡ [] → is_valid (database mid) ≡ true
  none-valid none = ap (λ (m : Machine). is_valid (database m)) (alone-none trusted places 0 events old mid none f) ∙ valid

  moves-valid : (mover : Mover) (first second : ℕ) (answer : Result Moved Refusal) → MovesSo mover first second events answer → is_valid (database mid) ≡ true
  moves-valid data_mover first second answer h = copies-valid NoOther (IsMoving first second) (data-moves first second) h.only
  moves-valid reclaimer first second answer h = copies-valid NoOther (IsReclaiming h.files first) (reclaim-moves h.files first) h.only
  moves-valid pool_restorer first second answer h = copies-valid NoOther IsRestore (restore-moves NoOther) h.only
  moves-valid volume_restorer first second answer h = copies-valid (IsLoss first) (IsVolumeRestore first) (volume-moves first) h.only
  moves-valid migrator first second answer h = copies-valid NoOther (IsMigration first) (migration-moves first) h.only
  moves-valid all_migrator first second answer h = copies-valid NoOther IsSweep sweep-moves h.only

  own-valid : (k : Client) (own : Own) (numbers : List ℕ) (said : Result Outcome Refusal) → HasReuse own → DoesOwnBy k own numbers events said → is_valid (database mid) ≡ true
  own-valid k expire numbers said so (kept, h) = walks-valid (MayMake numbers expire) IsExpiring (expiring-walks numbers) h.1.only
  own-valid k empty_filespace numbers said so (kept, h) = walks-valid (MayMake numbers empty_filespace) (filespaces.IsDeleting (the_number numbers)) (filespace-walks numbers) h.1.only
  own-valid k (moves mover) numbers said so (kept, h) = moves-valid mover (the_number numbers) (the_second numbers) h.0 h.1
  own-valid k none_but_reuse numbers said so (kept, h) = none-valid h.0
  own-valid k none_yet numbers said so (kept, h) = none-valid h.0
  own-valid k own numbers said so h = absurd so

  work-valid : (k : Client) (c : Command) (w : Work) (said : Result Outcome Refusal) → HasReuse (own_of c) → IsRowless (Ok w) → DoesBy k c w events said → is_valid (database mid) ≡ true
  work-valid k c (CommitWork what) said so rowless (kept, (answer, called, is)) = walks-valid IsAny (IsOf what) (changing-walks what) called.only
  work-valid k c (Show q) said so rowless h = absurd rowless
  work-valid k c (Run numbers) said so rowless h = own-valid k (own_of c) numbers said so h

-- ---- what comes behind it

-- All that came of it, and what is left.
pub record Processed (trusted : Type 0) (places : Places) (k : Client) (c : Command) (w : Work) (b : Behind) (old new : Machine) (result : Result Outcome Refusal) : Type 0 where
  pub added : List Entry
  pub works : WorksWith trusted places k c (Ok w) b old new result added
  pub left : Left result added old new
  pub doubt : length new.core.journal ≤ length new.core.stamps + length added
  pub late : IsLate old → IsStopped result

-- what was left is the same whatever bytes objects had before
left-with : (contents : ℕ → List ℕ) (result : Result Outcome Refusal) (added : List Entry) (old new : Machine) → Left result added (with_contents contents old) new → Left result added old new
left-with contents result added old new l = record {
  adds = record { base = l.adds.base; journal = l.adds.journal };
  onward = record { counts = l.onward.counts; since = l.onward.since };
  log = l.log;
  rests = l.rests;
  durable = l.durable;
}

ends-with : (contents : ℕ → List ℕ) (old new : Machine) (e : Refusal) → EndsRun (with_contents contents old) new e → EndsRun old new e
ends-with contents old new (refused.LogFault file count) h = h
ends-with contents old new refused.RunFull h = h
ends-with contents old new refused.Memory h = h
ends-with contents old new e h = absurd h

-- the reuse of volumes behind work that came to this
reused-grew : (trusted : Type 0) (places : Places) (first : List Entry) (said came : Result Outcome Refusal) (events : List Event) (old mid new : Machine) → Grew (IsReuse reuses) first [] old mid
    → (may_stay said ≡ false → mid.core.tickets ≡ []) → (has_ended said ≡ false → mid.core.image ≡ None) → Reusing said events came → Alone trusted places 0 events mid new
    → (more : List Entry) × Grew (IsReuse reuses) first more old new × (may_stay came ≡ false → new.core.tickets ≡ []) × (has_ended came ≡ false → new.core.image ≡ None)
reused-grew trusted places first (Ok it) came events old mid new g free idle (answer, called, is) f =
    let r = walk trusted places (IsReuse reuses) first events [] old mid new (all-walk (IsReusing called.files) (IsReuse reuses) (reusing-walks called.files) events called.only) (record { grew = g; free = free refl; idle = idle refl }) f in
    (r.0, r.1.grew, (λ h. r.1.free), λ h. r.1.idle)
reused-grew trusted places first (Err e) came events old mid new g free idle (none, is) f =
    let same : new ≡ mid = alone-none trusted places 0 events mid new none f in (
      [],
      subst (λ (m : Machine). Grew (IsReuse reuses) first [] old m) (sym same) g,
      (λ h. subst (λ (m : Machine). m.core.tickets ≡ []) (sym same) (free (ap may_stay (sym is) ∙ h))),
      λ h. subst (λ (m : Machine). m.core.image ≡ None) (sym same) (idle (ap (λ (r : Result Outcome Refusal). has_ended r) (sym is) ∙ h)),
    )

module _ (trusted : Type 0) (places : Places) (nobody : NobodyHolds places) (lawful : RefusesElsewhere places) (k : Client) (c : Command) (w : Work) where
  ended : (b : Behind) (said result : Result Outcome Refusal) (events : List Event) (old mid new : Machine) (g : Began trusted places k c w b old mid said) (later : List Entry) → AreOf (IsReuse b) later
      → EndsWith trusted places b said mid new result → Settled (g.first ++ later) (since_of old mid) new result → Processed trusted places k c w b old new result
  ended b said result events old mid new g later are ends s = record {
    added = g.first ++ later;
    works = record {
      said = said;
      mid = mid;
      first = g.first;
      later = later;
      parts = refl;
      adds = (let journal : mid.core.journal ≡ old.core.journal ++ (g.first ++ []) = g.grew.core.journal in record { base = g.grew.core.base; journal = journal ∙ ap (λ (l : List Entry). old.core.journal ++ l) (append-nil g.first) });
      does = g.does;
      ends = ends;
      reused = are;
      cause = λ e how is halts. ends-with mid.contents old new e (s.ends e how is halts);
    };
    left = left-with mid.contents result (g.first ++ later) old new s.left;
    doubt = s.doubt;
    late = s.late;
  }

  -- the newest image and the objects' bytes are what they were between
  since-image : (added : List Entry) (b : Behind) (first : List Entry) (old mid new : Machine) (result : Result Outcome Refusal) → Grew (IsReuse b) first [] (since_of old mid) mid → Settled added (since_of old mid) new result → SameImage mid new
  since-image added b first old mid new result g s = s.image ∙ sym g.core.generation

  since-bytes : (added : List Entry) (old mid new : Machine) (result : Result Outcome Refusal) → Settled added (since_of old mid) new result → SameBytes mid new
  since-bytes added old mid new result s = s.bytes

  behind-did : (b : Behind) (said result : Result Outcome Refusal) (events : List Event) (old mid new : Machine) → (b ≡ no_more → ⊥) → (b ≡ reuses → is_valid (database mid) ≡ true) → IsAtRest old.core → Began trusted places k c w b old mid said → EndsWork b said events result
      → Alone trusted places 0 events mid new → Processed trusted places k c w b old new result
  behind-did no_more said result events old mid new some valid rest g h f = absurd (some refl)
  behind-did forces said result events old mid new some valid rest g h f =
      let s = settles trusted places (IsReuse forces) g.first [] said result events (since_of old mid) mid new rest g.grew g.free g.idle h f in
      ended forces said result events old mid new g [] tt
      (events, f, h, since-image (g.first ++ []) forces g.first old mid new result g.grew s, since-bytes (g.first ++ []) old mid new result s, tt) s
  behind-did reuses said result events old mid new some valid rest g (came, (xs, ys, cut, reusing, forcing)) f =
      let parts = alone-parts trusted places 0 events xs ys mid new cut f in
      let r = reused-grew trusted places g.first said came xs (since_of old mid) mid parts.0 g.grew g.free g.idle reusing parts.1 in
      let s = settles trusted places (IsReuse reuses) g.first r.0 came result ys (since_of old mid) parts.0 new rest r.1 r.2 r.3 forcing parts.2 in
      ended reuses said result events old mid new g r.0 r.1.are (
        events,
        f,
        (came, (xs, ys, cut, reusing, forcing)),
        since-image (g.first ++ r.0) reuses g.first old mid new result g.grew s,
        since-bytes (g.first ++ r.0) old mid new result s,
        reuses-reason trusted places said came result xs ys mid parts.0 new
            (λ it same. (g.free (ap may_stay same), g.idle (ap (λ (x : Result Outcome Refusal). has_ended x) same))) (valid refl) reusing forcing parts.1 parts.2,
      ) s

  pub processed : (result : Result Outcome Refusal) (events : List Event) (old new : Machine) → IsProcess c → IsRowless (Ok w) → IsPlainWork (Ok w) → IsAtRest old.core → HasSoundRows (database old) → DoesWork k c (Ok w) events result
      → Alone trusted places 0 events old new → Processed trusted places k c w (behind c) old new result
  processed result events old new p rowless plain rest sound (said, (xs, ys, cut, does, ends)) f =
      let parts = alone-parts trusted places 0 events xs ys old new cut f in
      let g = began trusted places nobody lawful k (behind c) c w said xs old parts.0 p.own rowless plain rest sound does parts.1 in
      behind-did (behind c) said result ys old parts.0 new p.some (λ is. work-valid trusted places xs old parts.0 sound.valid parts.1 k c w said (p.reused is) rowless does) rest g ends parts.2
