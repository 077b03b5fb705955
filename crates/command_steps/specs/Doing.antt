-- What a command does, step by step, whoever makes the steps.
use Rattle.std.specs.Prelude.{◌≡◌, ◌⊎◌, ℕ, min, true, List, [], ◌∷◌, ◌++◌, None, Some, Result, Ok, Err}
use Rattle.kinds.specs.declared.refusal.Refusal.{Refusal}
use Rattle.kinds.specs.declared.refusal.Refusal.TheVariants.{LogFault, Memory, RunFull, TreeFault, UnknownWord}
use Rattle.choosers.specs.declared.rule.Rule.{Rule}
use Rattle.inventory_rows.specs.version_groups.Entries.{on_ok}
use Rattle.inventory_answers.specs.declared.query.Query.{Query}
use Rattle.inventory_answers.specs.declared.query.Query.TheVariants as query
use Rattle.inventory_answers.specs.declared.reply.Answer as rows
use Rattle.inventory_answers.specs.declared.reply.Rows as reply
use Rattle.inventory_answers.specs.declared.reply.Rows.TheVariants as kind
use Rattle.admin_words.specs.declared.command.Command.{Command}
use Rattle.admin_words.specs.declared.files.FilePut.{FilePut}
use Rattle.admin_words.specs.declared.policy.NamedSet.{NamedSet}
use Rattle.admin_commands.specs.Orders.{needs, work_of}
use Rattle.admin_commands.specs.declared.work.Work.{Work}
use Rattle.admin_commands.specs.declared.work.Work.TheVariants.{Commit, Show, Run}
use Rattle.reports.specs.declared.shown.Shown.{Shown}
use Rattle.reports.specs.declared.shown.Shown.TheVariants.{BackedUp, Copied, DeletedHistory, DeletedVolume, DiscardedFilespace, Done, Expired, RestoredCopies, Reused, Stored}
use Rattle.reports.specs.declared.shown.Shown.TheVariants as shown
use Rattle.copy_pools.specs.Backups.{Backup}
use Rattle.copy_runs.specs.declared.wanted.Moved.{Moved}
use Rattle.db_backup.specs.Backups.{DatabaseBackup, IncrementalBackup}
use Rattle.db_backup.specs.Deleting.{HistoryDeletion}
use Rattle.db_backup.specs.declared.taking.Taken.{Taken}
use Rattle.deletions.specs.Filespaces.{FilespaceDeletion}
use Rattle.deletions.specs.Volumes.{VolumeDeletion}
use Rattle.deletions.specs.declared.copies.Removed.{Removed}
use Rattle.expiration.specs.Expiring.{Expiration}
use Rattle.migration.specs.Migrating.{Migration}
use Rattle.migration.specs.Sweeping.{AllMigration}
use Rattle.migration.specs.Turns.{Picks}
use Rattle.pool_restores.specs.Restoring.{PoolRestore}
use Rattle.pool_restores.specs.Volumes.{VolumeRestore}
use Rattle.reclamation.specs.Moving.{DataMove}
use Rattle.reclamation.specs.Reclaiming.{Reclamation}
use Rattle.reuse_delay.specs.Reusing.{VolumeReuse}
use Rattle.sessions.specs.Changing.{Changing}
use Rattle.sessions.specs.Checkpoints.{Checkpointing}
use Rattle.sessions.specs.Getting.{Gets}
use Rattle.sessions.specs.InTurn.{OrMemory}
use Rattle.sessions.specs.Putting.{Puts}
use Rattle.steps.specs.Calls.{IsStep, Made, Then}
use Rattle.steps.specs.Events.{Event}
use Rattle.steps.specs.Events.Deed.{Ask, Force}
use Rattle.volume_audits.specs.Auditing.{VolumeAudit}
use Rattle.command_steps.specs.Behind.{Behind, behind, forces, no_more, reuses, with_reused}
use Rattle.command_steps.specs.Clients.{Client, IsKept}
use Rattle.command_steps.specs.Owns.{Mover, Own, all_migrator, audit_volume, back_up_database, back_up_pool, back_up_since, checkpoint, data_mover, delete_history, empty_filespace, empty_volume, expire, file_put, get, last_of, migrator, moves, none_but_reuse, none_yet, on_tree, own_of, pool_restorer, put, reclaimer, row_put, validate, volume_restorer}
use Rattle.command_steps.specs.Trees.{DoesThere}
use Rattle.command_steps.specs.declared.outcome.Outcome.{Outcome}
use Rattle.command_steps.specs.declared.outcome.Outcome.TheVariants.{Audited, Read, Rows, Said}

-- ---- look-ups

-- each query was asked by a step, one after the other, and these are the answers
abbrev pub Asked : List Query → List rows.Answer → List Event → Type 0
Asked [] [] events = events ≡ []
Asked (q ∷ queries) (a ∷ answers) events = Then (λ xs. IsStep (Ask q (Ok a)) xs) (λ ys. Asked queries answers ys) events
Asked _ _ events = ⊥

-- All were answered. Or the first of them were, and the next was refused so; or memory was wanted, for an answer or before a step.
abbrev pub AsksAll : List Query → List Event → Result (List rows.Answer) Refusal → Type 0
AsksAll queries events (Ok answers) = Asked queries answers events
AsksAll queries events (Err e) =
    (front : List Query) × (answers : List rows.Answer)
    × (((q : Query) × (rest : List Query) × (queries ≡ front ++ (q ∷ rest)) × Then (λ xs. Asked front answers xs) (λ ys. Made (Ask q (Err e)) ys) events)
    ⊎ ((rest : List Query) × (queries ≡ front ++ rest) × Asked front answers events × (e ≡ Memory)))

-- ---- work

-- what a call answered becomes an outcome, or it was refused so
abbrev pub Gives : {A : Type 0} → (Calls : List Event → Result A Refusal → Type 0) → (A → Outcome) → List Event → Result Outcome Refusal → Type 0
Gives {A = A} Calls shape events result = (answer : Result A Refusal) × Calls events answer × (result ≡ on_ok shape answer)

-- the query was asked by a step, or memory was wanted before it
abbrev pub Told : Query → List Event → Result rows.Answer Refusal → Type 0
Told q events answer = Made (Ask q answer) events

-- The set may be activated, or is refused so as its activation would be. Rows of another kind stand for want of memory.
abbrev pub validity : reply.Rows → Result Outcome Refusal
validity (kind.Validated None) = Ok (Said Done)
validity (kind.Validated (Some e)) = Err e
validity _ = Err Memory

abbrev pub validated_by : Result rows.Answer Refusal → Result Outcome Refusal
validated_by (Ok answer) = validity answer.rows
validated_by (Err e) = Err e

-- whether a policy set may be activated is asked
abbrev pub Validates : NamedSet → List Event → Result Outcome Refusal → Type 0
Validates set events result =
    (answer : Result rows.Answer Refusal) × OrMemory (Told (query.Validated set.domain set.set)) events answer × (result ≡ validated_by answer)

-- what was answered over a tree in memory, of which a fault is want of memory
abbrev pub within_memory : Result ℕ Refusal → Result ℕ Refusal
within_memory (Err TreeFault) = Err Memory
within_memory answer = answer

-- The text of a PUT is sent as the one file of a client. Where a call on the tree in memory that has this file failed, memory was wanted.
abbrev pub PutsText : List Rule → FilePut → List Event → Result ℕ Refusal → Type 0
PutsText choice p events result =
    (Puts p.node p.filespace choice (Some (file_put p)) (row_put p) events result × (result ≡ Err TreeFault → ⊥))
    ⊎ (Puts p.node p.filespace choice (Some (file_put p)) (row_put p) events (Err TreeFault) × (result ≡ Err Memory))

-- the number of the one thing that a command names
abbrev pub the_number : List ℕ → ℕ
the_number [] = 0
the_number (number ∷ others) = number

-- the number of the second thing
abbrev pub the_second : List ℕ → ℕ
the_second [] = 0
the_second (number ∷ others) = the_number others

-- of copies that may migrate the one of the least object is next
abbrev pub first_picks : Picks
first_picks list place = place ≡ 0

-- copies are moved, over these two numbers; a percentage is 100 at most
abbrev pub MovesSo : Mover → (first second : ℕ) → List Event → Result Moved Refusal → Type 0
MovesSo data_mover first second events result = DataMove first second events result
MovesSo reclaimer first second events result = Reclamation first (min second 100) events result
MovesSo pool_restorer first second events result = PoolRestore first events result
MovesSo volume_restorer first second events result = VolumeRestore first events result
MovesSo migrator first second events result = Migration first_picks first (min second 100) events result
MovesSo all_migrator first second events result = AllMigration first_picks events result

-- the last line of a command that moved so many, before any volume is used again
abbrev pub moved_line : Mover → Moved → Shown
moved_line data_mover m = shown.Moved m.moved m.failed 0
moved_line reclaimer m = shown.Moved m.moved m.failed 0
moved_line pool_restorer m = RestoredCopies m.moved m.failed 0
moved_line volume_restorer m = RestoredCopies m.moved m.failed 0
moved_line migrator m = shown.Moved m.moved m.failed 0
moved_line all_migrator m = shown.Moved m.moved m.failed 0

-- the last line of a database backup: its file, and the number of the last transaction that it holds
abbrev pub backed_up : Taken → Outcome
backed_up t = Said (BackedUp t.file t.seq)

-- work of a command's own that has nothing to do with trees, over the numbers of the things that it names; what isn't done so far is refused like an unknown word
abbrev pub DoesAlone : List Rule → Own → List ℕ → List Event → Result Outcome Refusal → Type 0
DoesAlone choice (validate set) numbers events result = Validates set events result
DoesAlone choice (put p) numbers events result = Gives (OrMemory (PutsText choice p)) (λ object. Said (Stored object)) events result
DoesAlone choice (get g) numbers events result = Gives (OrMemory (Gets g.node g.filespace g.path)) Read events result
DoesAlone choice checkpoint numbers events result = Gives Checkpointing (λ seq. Said Done) events result
DoesAlone choice expire numbers events result = Gives Expiration (λ expired. Said (Expired expired 0)) events result
DoesAlone choice empty_filespace numbers events result = Gives (FilespaceDeletion (the_number numbers)) (λ discarded. Said (DiscardedFilespace discarded 0)) events result
DoesAlone choice empty_volume numbers events result = Gives (VolumeDeletion true (the_number numbers)) (λ (went : Removed). Said (DeletedVolume went.discarded went.dropped)) events result
DoesAlone choice back_up_pool numbers events result = Gives (Backup (the_number numbers) (the_second numbers)) (λ (copies : Moved). Said (Copied copies.moved copies.failed)) events result
DoesAlone choice (moves mover) numbers events result = Gives (MovesSo mover (the_number numbers) (the_second numbers)) (λ (m : Moved). Said (moved_line mover m)) events result
DoesAlone choice back_up_database numbers events result = Gives (DatabaseBackup None) backed_up events result
DoesAlone choice back_up_since numbers events result = Gives IncrementalBackup backed_up events result
DoesAlone choice (delete_history to) numbers events result = Gives (HistoryDeletion to) (λ deleted. Said (DeletedHistory deleted)) events result
DoesAlone choice (audit_volume fix) numbers events result = Gives (VolumeAudit fix (the_number numbers)) Audited events result
DoesAlone choice none_but_reuse numbers events result = (events ≡ []) × (result ≡ Ok (Said (Reused 0)))
DoesAlone choice none_yet numbers events result = (events ≡ []) × (result ≡ Err (UnknownWord 1))
DoesAlone choice (on_tree work) numbers events result = ⊥

-- work of a command's own: on the tree that it names, or on none
abbrev pub DoesOwn : Client → Own → List ℕ → List Event → Result Outcome Refusal → Type 0
DoesOwn k (on_tree work) numbers events result = DoesThere k work events result
DoesOwn k own numbers events result = IsKept k × DoesAlone k.choice own numbers events result

-- A command whose work is this does it: its change is committed, its query answered, or its own work done.
abbrev pub Does : Client → Command → Work → List Event → Result Outcome Refusal → Type 0
Does k c (Commit what) events result = IsKept k × Gives (Changing what) (λ number. Said (last_of what)) events result
Does k c (Show q) events result = IsKept k × Gives (Told q) Rows events result
Does k c (Run numbers) events result = DoesOwn k (own_of c) numbers events result

-- ---- what comes behind work

-- Where the work was done emptied volumes are reused whose delay is over, and how many is said with it.
abbrev pub Reusing : (said : Result Outcome Refusal) → List Event → Result Outcome Refusal → Type 0
Reusing (Ok it) events result = Gives VolumeReuse (λ number. with_reused number it) events result
Reusing (Err e) events result = (events ≡ []) × (result ≡ Err e)

-- a run that ended can't be forced: what says that it did stands for want of memory
abbrev pub within_run : Result Outcome Refusal → Result Outcome Refusal
within_run (Err (LogFault file count)) = Err Memory
within_run (Err RunFull) = Err Memory
within_run said = said

-- what is answered where all came to this, and the force behind it was answered so
abbrev pub behind_force : Result Outcome Refusal → Result ℕ Refusal → Result Outcome Refusal
behind_force said (Ok number) = within_run said
behind_force said (Err e) = Err e

-- all is made durable, or that is refused
abbrev pub Forcing : (said : Result Outcome Refusal) → List Event → Result Outcome Refusal → Type 0
Forcing said events result = (answer : Result ℕ Refusal) × Made (Force answer) events × (result ≡ behind_force said answer)

-- what comes behind work that came to this
abbrev pub EndsWork : Behind → (said : Result Outcome Refusal) → List Event → Result Outcome Refusal → Type 0
EndsWork no_more said events result = (events ≡ []) × (result ≡ said)
EndsWork forces said events result = Forcing said events result
EndsWork reuses said events result = (came : Result Outcome Refusal) × Then (λ xs. Reusing said xs came) (λ ys. Forcing came ys result) events

-- ---- a command

-- its work is done with what comes behind it, or it is refused before it begins
abbrev pub DoesWork : Client → Command → Result Work Refusal → List Event → Result Outcome Refusal → Type 0
DoesWork k c (Ok work) events result = (said : Result Outcome Refusal) × Then (λ xs. Does k c work xs said) (λ ys. EndsWork (behind c) said ys result) events
DoesWork k c (Err why) events result = IsKept k × (events ≡ []) × (result ≡ Err why)

-- memory may be wanted before it
abbrev pub WorksOrWants : Client → Command → Result Work Refusal → List Event → Result Outcome Refusal → Type 0
WorksOrWants k c work events result = DoesWork k c work events result ⊎ (IsKept k × (events ≡ []) × (result ≡ Err Memory))

-- A command: its look-ups are asked, and by their answers its work is done, or it is refused. Memory may be wanted before either.
abbrev pub Doing : Client → Command → List Event → Result Outcome Refusal → Type 0
Doing k c events result =
    ((e : Refusal) × IsKept k × OrMemory (AsksAll (needs c)) events (Err e) × (result ≡ Err e))
    ⊎ ((answers : List rows.Answer) × Then (λ xs. OrMemory (AsksAll (needs c)) xs (Ok answers)) (λ ys. WorksOrWants k c (work_of c answers) ys result) events)
