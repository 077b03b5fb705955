-- What DSMC INCREMENTAL and DSMC RESTORE go by where one actor has the machine alone: the plan over the tree and the database, the transactions that it orders, and the versions that are restored.
use Rattle.std.specs.Prelude.{◌≡◌, ◌⊎◌, ℕ, ◌<◌, true, Contains, List, [], length, map, Option, None, Some, Result, Ok, Err}
use Rattle.std.specs.List.{AllByRecursion}
use Rattle.sha2.specs.Sha256.{sha256}
use Rattle.kinds.specs.ValueForms.{digest_with}
use Rattle.kinds.specs.declared.change.DefineOrDelete.TheVariants as two
use Rattle.kinds.specs.declared.change.ObjectChange.TheVariants as client
use Rattle.kinds.specs.declared.refusal.Refusal.{Refusal}
use Rattle.kinds.specs.declared.refusal.Refusal.TheVariants.{NotFound, TreeFault}
use Rattle.choosers.specs.declared.rule.Rule.{Rule}
use Rattle.entries.specs.change_items.declared.items.NewVersion.{NewVersion}
use Rattle.entries.specs.change_items.declared.items.ScratchVolume.{ScratchVolume}
use Rattle.entries.specs.declared.change.Change.{Change}
use Rattle.entries.specs.declared.change.Change.TheVariants as change
use Rattle.entries.specs.declared.entry.Entry.{Entry}
use Rattle.inventory_rows.specs.object_rows.Names.{filespace_named, node_named}
use Rattle.inventory_rows.specs.State.{Inv}
use Rattle.inventory_work.specs.Rules.{rules_of}
use Rattle.inventory_work.specs.declared.lines.Rules.{Rules}
use Rattle.inventory_answers.specs.Clients.{versions_of}
use Rattle.inventory_answers.specs.declared.lines.VersionLine.{VersionLine}
use Rattle.admin_words.specs.declared.files.FilesRestore.{FilesRestore}
use Rattle.admin_words.specs.declared.files.IncrementalBackup.{IncrementalBackup}
use Rattle.client_trees.specs.Files.{Files}
use Rattle.client_trees.specs.declared.tree.FileRow.{FileRow}
use Rattle.client_plan.specs.Plans.{AreActive, Lists, actives, plan_of, scheme}
use Rattle.client_plan.specs.declared.lines.GoneLine.{GoneLine}
use Rattle.client_plan.specs.declared.lines.RebindLine.{RebindLine}
use Rattle.client_plan.specs.declared.lines.SendLine.{SendLine}
use Rattle.client_batches.specs.Listings.{named, rebound}
use Rattle.command_steps.specs.incrementals.Orders.{IsReadAs}
use Rattle.command_steps.specs.incrementals.Planning.{IsListing}
use Rattle.command_steps.specs.restores.Chosen.{chosen}
use Rattle.command_steps.specs.restores.Standing.{AreApart, HaveFiles}
use Rattle.command_steps.specs.restores.declared.choosing.RestoreLine.{RestoreLine}
use Rattle.command_steps.specs.restores.declared.choosing.Which.{Which}
use Rattle.command_steps.specs.restores.declared.process.Restored.{Restored}
use Rattle.script_loop.specs.declared.ends.Halt.{Halt}
use Rattle.tree_api.specs.Cause.{Rose}
use Rattle.machine.specs.State.{Machine}
use Rattle.command_steps.specs.Clients.{Client, Known, Turns}
use Rattle.command_steps.specs.Answers.{halt_by}
use Rattle.command_steps.specs.Trees.{is_absent, which_of}
use Rattle.command_steps.specs.declared.outcome.Outcome.{Outcome}
use Rattle.command_steps.specs.declared.outcome.Outcome.TheVariants as came
use Rattle.line_results.specs.Files.{filespace_defined}
use Rattle.line_results.specs.Resting.{database, why_not}

-- ---- what an incremental backup may do

-- the versions of a filespace, by path; one that isn't there has none
abbrev pub HasVersions : (node filespace : List ℕ) → Inv → List VersionLine → Type 0
HasVersions node filespace v versions = (versions_of node filespace v ≡ Ok versions) ⊎ ((versions_of node filespace v ≡ Err NotFound) × (versions ≡ []))

-- This is the plan of a tree's files over the database: by the rules of the node's classes, the include-exclude list and the day, of all files of the tree, which are these where it tells them, and of the
-- active versions of the filespace.
pub record IsPlan (choice : List Rule) (i : IncrementalBackup) (told : Option Files) (v : Inv) (plan : Lists) : Type 0 where
  pub node : ℕ
  pub rules : Rules
  pub files : List FileRow
  pub versions : List VersionLine
  pub found : node_named i.node v.clients.nodes ≡ Some node
  pub ruled : rules_of node v ≡ Ok rules
  pub listed : IsListing told files
  pub kept : HasVersions i.node i.filespace v versions
  pub value : AreActive (actives versions) → plan ≡ plan_of (scheme rules choice v.today) files (actives versions)

-- A file of the plan that is to be sent becomes a version of its path, under its class, with its time and as many bytes as were listed; and where the tree tells its files, the file has as many, and the
-- version's digest is their SHA-256.
abbrev pub IsSent : Option Files → Lists → NewVersion → Type 0
IsSent told plan item = (l : SendLine) × Contains plan.send l × (item.path ≡ l.file.path) × (item.class ≡ l.class) × (item.mtime ≡ l.file.mtime) × (item.size ≡ l.file.size) × IsReadAs told l item.digest

-- files of the plan are stored, paths of the plan are bound anew, or versions of the plan are ended; or the node's filespace with this name is defined
abbrev pub IsOrdered : (node : ℕ) → (name : List ℕ) → Option Files → Lists → Change → Type 0
IsOrdered node name told plan c =
    ((filespace : ℕ) × (scratch : List ScratchVolume) × (items : List NewVersion) × (c ≡ change.Backup (record { filespace = filespace; scratch = scratch; items = items })) × AllByRecursion (IsSent told plan) items)
    ⊎ ((filespace : ℕ) × (lines : List RebindLine) × (c ≡ change.Rebind (record { filespace = filespace; items = map rebound lines })) × AllByRecursion (λ l. Contains plan.rebind l) lines)
    ⊎ ((filespace : ℕ) × (lines : List GoneLine) × (c ≡ change.Gone (record { filespace = filespace; items = map named lines })) × AllByRecursion (λ l. Contains plan.gone l) lines)
    ⊎ ((filespace : ℕ) × (c ≡ change.Object (client.Filespace two.Define node name filespace)))

-- The backup of a tree that tells these files, over this database, may make this transaction. The filespace that it may define is that of the node and the name that the command gives.
abbrev pub IsOfBackup : List Rule → IncrementalBackup → (told : Option Files) → Inv → Change → Type 0
IsOfBackup choice i told v c = (plan : Lists) × (p : IsPlan choice i told v plan) × IsOrdered p.node i.filespace told plan c

-- the backup of the tree that the command names may
abbrev pub IsOfTree : Client → IncrementalBackup → Inv → Change → Type 0
IsOfTree k i v c = (before : Known) × (after : Known) × Turns i.tree before after k × IsOfBackup k.choice i before.files v c

-- each object whose number was drawn already has the bytes that it had
abbrev pub KeepsBytes : (old new : Machine) → Type 0
KeepsBytes old new = (object : ℕ) → object < old.core.next_object → new.contents object ≡ old.contents object

-- the versions that a transaction brings
abbrev pub new_versions : Change → List NewVersion
new_versions (change.Backup c) = c.items
new_versions c = []

-- its object has as many bytes as it says, and they have its digest
abbrev pub HasBytes : Machine → NewVersion → Type 0
HasBytes m item = (item.size ≡ length (m.contents item.object)) × (item.digest ≡ digest_with (sha256 (m.contents item.object)))

-- each version that these transactions bring says so of its object, whose bytes are these from then on
abbrev pub HaveBytes : Machine → List Entry → Type 0
HaveBytes m added = AllByRecursion (λ e. AllByRecursion (HasBytes m) (new_versions e.change)) added

-- ---- why a backup is refused

-- the node's filespace isn't there, and the database has this reason against defining it
abbrev pub IsUndefinable : (node : ℕ) → (name : List ℕ) → Machine → Refusal → Type 0
IsUndefinable node name m why = (filespace_named node name (database m).clients.filespaces ≡ None) × (why_not (filespace_defined node name (database m)) m.core ≡ Some why)

-- Why a backup is refused: its node isn't there; the node has no rules; a call that lists the tree failed, by which the tree's count of faults rose; or its filespace isn't there and can't be defined.
abbrev pub StoresNothing : IncrementalBackup → (before after : Known) → Machine → Refusal → Type 0
StoresNothing i before after m e =
    ((node_named i.node (database m).clients.nodes ≡ None) × (e ≡ NotFound))
    ⊎ ((node : ℕ) × (node_named i.node (database m).clients.nodes ≡ Some node) × ((rules_of node (database m) ≡ Err e) ⊎ IsUndefinable node i.filespace m e))
    ⊎ ((e ≡ TreeFault) × Rose before.faults after.faults)

-- where a backup is refused, that is the cause, and it made no transaction; or the run ended
abbrev pub IsRefusedSo : IncrementalBackup → (before after : Known) → Machine → Result Outcome Refusal → (added : List Entry) → Type 0
IsRefusedSo i before after m (Ok it) added = Unit {0}
IsRefusedSo i before after m (Err e) added = (StoresNothing i before after m e × (added ≡ [])) ⊎ ((how : Halt) × (halt_by e ≡ Some how))

-- ---- what a restore gives

-- these of the filespace's versions are wanted
abbrev pub IsChosen : FilesRestore → Inv → List RestoreLine → Type 0
IsChosen r v lines = (which : Which) × (which_of r.wanted ≡ Ok which) × (versions : List VersionLine) × (versions_of r.node r.filespace v ≡ Ok versions) × (lines ≡ chosen which versions)

-- Where a tree tells its files, each object that was restored stands at its path, of its size and with its digest and time, if no two are restored to one path.
abbrev pub Stand : Restored → (old new : Option Files) → Type 0
Stand x (Some old) (Some new) = AreApart x.lines → HaveFiles x.lines x.gave new
Stand x old new = Unit {0}

-- Why nothing is restored: it isn't known which versions are wanted, or which the filespace has; the one object that is wanted isn't among them; or the run ended.
abbrev pub GivesNothing : FilesRestore → Inv → Refusal → Type 0
GivesNothing r v e =
    (which_of r.wanted ≡ Err e)
    ⊎ (versions_of r.node r.filespace v ≡ Err e)
    ⊎ ((e ≡ NotFound) × (lines : List RestoreLine) × IsChosen r v lines × (is_absent r.wanted lines ≡ true))
    ⊎ ((how : Halt) × (halt_by e ≡ Some how))

-- what is answered is said of each version that is wanted, and those that were restored stand in the tree; or nothing is restored, for a cause
abbrev pub GivesChosen : FilesRestore → Inv → (before after : Known) → Result Outcome Refusal → Type 0
GivesChosen r v before after (Ok (came.Restored x)) = IsChosen r v x.lines × Stand x before.files after.files
GivesChosen r v before after (Ok it) = Unit {0}
GivesChosen r v before after (Err e) = GivesNothing r v e
