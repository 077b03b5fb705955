-- What the work of a command comes to in a history, where other actors may make transactions between any two of its steps. `since` and `until` are the numbers that its actor had reached before the work and has reached behind it.
use Rattle.std.specs.Prelude.{◌≡◌, ◌⊎◌, ℕ, ◌-◌, ◌<◌, ◌≤◌, Contains, List, [], ◌∷◌, map, Option, None, Some, Ok}
use Rattle.std.specs.List.{AllByRecursion, slice_get}
use Rattle.sha2.specs.Sha256.{sha256}
use Rattle.kinds.specs.ValueForms.{digest_with}
use Rattle.kinds.specs.declared.change.DefineOrDelete.TheVariants as two
use Rattle.kinds.specs.declared.change.ObjectChange.TheVariants as client
use Rattle.kinds.specs.declared.refusal.Refusal.{Refusal}
use Rattle.kinds.specs.declared.refusal.Refusal.TheVariants.{NotFound}
use Rattle.choosers.specs.declared.rule.Rule.{Rule}
use Rattle.client_trees.specs.Files.{Files}
use Rattle.entries.specs.change_items.declared.items.NewVersion.{NewVersion}
use Rattle.entries.specs.change_items.declared.items.ScratchVolume.{ScratchVolume}
use Rattle.entries.specs.declared.change.Change.{Change}
use Rattle.entries.specs.declared.change.Change.TheVariants as change
use Rattle.inventory_rows.specs.object_rows.Names.{node_named}
use Rattle.inventory_rules.specs.Run.{journal_of}
use Rattle.inventory_rules.specs.Transactions.{refused}
use Rattle.inventory_work.specs.Rules.{rules_of}
use Rattle.inventory_answers.specs.Clients.{path_versions_of}
use Rattle.inventory_answers.specs.declared.lines.VersionLine.{VersionLine}
use Rattle.admin_words.specs.declared.files.FileGet.{FileGet}
use Rattle.admin_words.specs.declared.files.FilePut.{FilePut}
use Rattle.admin_words.specs.declared.files.FilesRestore.{FilesRestore}
use Rattle.admin_words.specs.declared.files.IncrementalBackup.{IncrementalBackup}
use Rattle.client_plan.specs.Plans.{Lists}
use Rattle.client_plan.specs.declared.lines.GoneLine.{GoneLine}
use Rattle.client_plan.specs.declared.lines.RebindLine.{RebindLine}
use Rattle.client_plan.specs.declared.lines.SendLine.{SendLine}
use Rattle.client_batches.specs.Listings.{named, rebound}
use Rattle.client_trees.specs.declared.tree.FileRow.{FileRow}
use Rattle.line_results.specs.copy_attempts.Outcomes.{MetBy}
use Rattle.line_results.specs.incrementals.Orders.{IsReadAs}
use Rattle.line_results.specs.incrementals.Planning.{IsListing, IsPlanned}
use Rattle.line_results.specs.incrementals.Process.{Done}
use Rattle.line_results.specs.incrementals.declared.answering.Sent.{Sent}
use Rattle.line_results.specs.incrementals.declared.asking.Basis.{Basis}
use Rattle.line_results.specs.incrementals.declared.planning.Begun.{Begun}
use Rattle.line_results.specs.restores.declared.process.Restored.{Restored}
use Rattle.line_results.specs.sessions.Getting.{active_line}
use Rattle.line_results.specs.sessions.Putting.{IsDecided, object_among}
use Rattle.steps.specs.declared.image.ImageKind.TheVariants as image
use Rattle.steps.specs.declared.image.ImageReply.TheVariants as reply
use Rattle.steps.specs.Events.{Event}
use Rattle.steps.specs.Events.Deed.{Image}
use Rattle.machine.specs.Changes.{filled}
use Rattle.machine.specs.Fits.{History, entries_to, inv}
use Rattle.line_results.specs.command_steps.Clients.{Client, Known, Turns}
use Rattle.line_results.specs.command_steps.Owns.{file_put, row_put}
use Rattle.line_results.specs.command_steps.Trees.{ShowsSent}
use Rattle.line_results.specs.command_steps.declared.outcome.Outcome.{Outcome}
use Rattle.line_results.specs.command_steps.declared.outcome.Outcome.TheVariants as came
use Rattle.line_results.specs.Trees.{HasVersions, IsChosen, Stand}
use Rattle.block_results.specs.Standing.{At, IsRefusedAt}

-- ---- a change

-- The change was made at one of the numbers: there it is legal, as the journal up to there tells it, and it stands in the history as the actor's. Numbers of files and filespaces are those that are drawn there.
abbrev pub IsMadeAt : History → (actor since until : ℕ) → Change → Type 0
IsMadeAt w actor since until what =
    (n : ℕ) × (next_file : ℕ) × (since ≤ n) × (n < until)
    × (slice_get w.journal (n - w.base.number) ≡ Some (record { actor = actor; change = filled next_file (inv w n) what }))
    × (refused (journal_of w.base (entries_to w n)) (filled next_file (inv w n) what) (inv w n) ≡ None)

-- ---- PUT

-- the object that was stored is that of a version of the path, at one of the numbers, which has the file's time and the SHA-256 of its text
abbrev pub IsNamedAt : History → (since until : ℕ) → FilePut → (object : ℕ) → Type 0
IsNamedAt w since until p object =
    At since until (λ n. (lines : List VersionLine) × (path_versions_of p.node p.filespace p.path (inv w n) ≡ Ok lines) × (object_among (row_put p) (digest_with (sha256 p.text)) lines ≡ Some object))

-- a filespace with the file's name for one is defined; or a version of the file's path is stored, with its time and the SHA-256 of its text
abbrev pub IsOfFile : FilePut → Change → Type 0
IsOfFile p c =
    ((node : ℕ) × (number : ℕ) × (c ≡ change.Object (client.Filespace two.Define node p.filespace number)))
    ⊎ ((filespace : ℕ) × (scratch : List ScratchVolume) × (item : NewVersion) × (c ≡ change.Backup (record { filespace = filespace; scratch = scratch; items = item ∷ [] }))
    × (item.path ≡ p.path) × (item.mtime ≡ p.mtime) × (item.digest ≡ digest_with (sha256 p.text)))

-- Why a PUT is refused: without a step being refused, since its path is left out, its class has no backup copy group, or no policy set is active, or none of the versions that were asked is the one that was stored (`IsDecided` of
-- sessions); or one of its steps was refused so.
abbrev pub IsUnputAt : History → (actor since until : ℕ) → List Rule → FilePut → List Event → Refusal → Type 0
IsUnputAt w actor since until choice p events why = IsDecided choice (Some (file_put p)) (row_put p) why ⊎ IsRefusedAt w actor since until events why

-- ---- GET

-- Why a GET is refused: the path has no active version at one of the numbers; or one of its steps was refused so.
abbrev pub IsUnreadAt : History → (actor since until : ℕ) → FileGet → List Event → Refusal → Type 0
IsUnreadAt w actor since until g events why =
    ((why ≡ NotFound) × At since until (λ n. (lines : List VersionLine) × (path_versions_of g.node g.filespace g.path (inv w n) ≡ Ok lines) × (active_line lines ≡ None)))
    ⊎ IsRefusedAt w actor since until events why

-- ---- CHECKPOINT

-- an image of the database of one of the numbers was begun, and written to its end
abbrev pub IsImagedAt : (since until : ℕ) → List Event → Type 0
IsImagedAt since until events =
    At since until (λ seq. ((file : ℕ) × MetBy (λ d. d ≡ Image image.Checkpoint (Ok (reply.Begun file seq))) events) × MetBy (λ d. d ≡ Image image.Next (Ok (reply.Done seq))) events)

-- ---- DSMC INCREMENTAL

-- What a backup's plan goes by, asked at numbers that don't fall: the versions of the filespace, the node, and the rules of its classes with the day.
abbrev pub IsBasisAt : History → (since until : ℕ) → IncrementalBackup → Basis → Type 0
IsBasisAt w since until i basis =
    At since until (λ n. HasVersions i.node i.filespace (inv w n) basis.versions
    × At n until (λ m. (node_named i.node (inv w m).clients.nodes ≡ Some basis.ruled.node)
    × At m until (λ l. (rules_of basis.ruled.node (inv w l) ≡ Ok basis.ruled.rules) × (basis.ruled.today ≡ (inv w l).today))))

-- the plan by that, of all files of the tree, which are these where it tells them
abbrev pub IsPlannedAt : History → (since until : ℕ) → List Rule → IncrementalBackup → (told : Option Files) → Begun → Type 0
IsPlannedAt w since until choice i told b = (basis : Basis) × IsBasisAt w since until i basis × (files : List FileRow) × IsListing told files × IsPlanned choice files basis b

-- A file of the plan that is to be sent becomes a version of its path, under its class, with its time; and where the tree tells its files, its SHA-256 is that of the file's bytes, which are as many as were listed.
abbrev pub IsSent : Option Files → Lists → NewVersion → Type 0
IsSent told plan item = (l : SendLine) × Contains plan.send l × (item.path ≡ l.file.path) × (item.class ≡ l.class) × (item.mtime ≡ l.file.mtime) × IsReadAs told l item.digest

-- files of the plan are stored, paths of the plan are bound anew, or versions of the plan are ended; or the node's filespace with this name is defined
abbrev pub IsOfPlan : (node : ℕ) → (name : List ℕ) → Option Files → Lists → Change → Type 0
IsOfPlan node name told plan c =
    ((filespace : ℕ) × (scratch : List ScratchVolume) × (items : List NewVersion) × (c ≡ change.Backup (record { filespace = filespace; scratch = scratch; items = items })) × AllByRecursion (IsSent told plan) items)
    ⊎ ((filespace : ℕ) × (lines : List RebindLine) × (c ≡ change.Rebind (record { filespace = filespace; items = map rebound lines })) × AllByRecursion (λ l. Contains plan.rebind l) lines)
    ⊎ ((filespace : ℕ) × (lines : List GoneLine) × (c ≡ change.Gone (record { filespace = filespace; items = map named lines })) × AllByRecursion (λ l. Contains plan.gone l) lines)
    ⊎ ((filespace : ℕ) × (c ≡ change.Object (client.Filespace two.Define node name filespace)))

-- the backup of the tree that the command names may make this transaction
abbrev pub IsOfTree : History → (since until : ℕ) → Client → IncrementalBackup → Change → Type 0
IsOfTree w since until k i c =
    (before : Known) × (after : Known) × Turns i.tree before after k × (b : Begun) × IsPlannedAt w since until k.choice i before.files b × IsOfPlan b.node i.filespace before.files b.plan c

-- What was sent: the acknowledged transactions have exactly the lines of such a plan but those that failed, which are named (`Done` of incrementals); and so it is shown.
abbrev pub HasSent : History → (since until : ℕ) → List Rule → IncrementalBackup → (before after : Known) → List Event → Outcome → Type 0
HasSent w since until choice i before after events it =
    (s : Sent) × (d : Done i.node i.filespace choice before.files before.faults after.faults s events) × IsPlannedAt w since until choice i before.files d.begun × ShowsSent (Ok s) (Ok it)

-- ---- DSMC RESTORE

-- What was answered is said of each version that was wanted at one of the numbers, and those that were restored stand in the tree.
abbrev pub HasGiven : History → (since until : ℕ) → FilesRestore → (before after : Known) → Outcome → Type 0
HasGiven w since until r before after it =
    (x : Restored) × (it ≡ came.Restored x) × At since until (λ n. IsChosen r (inv w n) x.lines) × Stand x before.files after.files
