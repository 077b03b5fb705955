-- What is done on a client's tree.
use Rattle.std.specs.Prelude.{◌≡◌, ◌⊎◌, Bool, true, false, List, [], if◌then◌else◌, Result, Ok, Err}
use Rattle.std.specs.Cmp.Lexicographic.{slice_cmp}
use Rattle.std.specs.List.Sorted.{IsPermutation, IsSortedByKey}
use Rattle.std.specs.Ordering.{nat_cmp}
use Rattle.kinds.specs.declared.refusal.Refusal.{Refusal}
use Rattle.kinds.specs.declared.refusal.Refusal.TheVariants.{Memory, NotFound}
use Rattle.path_patterns.specs.Patterns.{read_pattern}
use Rattle.choosers.specs.declared.rule.Rule.{Rule}
use Rattle.inventory_rows.specs.version_groups.Entries.{on_ok}
use Rattle.admin_words.specs.declared.files.FileErase.{FileErase}
use Rattle.admin_words.specs.declared.files.FilesRestore.{FilesRestore}
use Rattle.admin_words.specs.declared.files.FileWrite.{FileWrite}
use Rattle.admin_words.specs.declared.files.IncrementalBackup.{IncrementalBackup}
use Rattle.admin_words.specs.declared.files.Wanted.{Wanted}
use Rattle.admin_words.specs.declared.files.Wanted.TheVariants.{Active, Like, Object, On}
use Rattle.incrementals.specs.Process.{Incremental}
use Rattle.incrementals.specs.declared.answering.Failure.{Failure}
use Rattle.incrementals.specs.declared.answering.Sent.{Sent}
use Rattle.reports.specs.declared.shown.Shown.TheVariants.{Done}
use Rattle.restores.specs.Restores.{Restores}
use Rattle.restores.specs.declared.choosing.RestoreLine.{RestoreLine}
use Rattle.restores.specs.declared.choosing.Which.{Which}
use Rattle.restores.specs.declared.choosing.Which.TheVariants as which
use Rattle.restores.specs.declared.process.Restored.{Restored}
use Rattle.steps.specs.Events.{Event}
use Rattle.command_steps.specs.Clients.{Client, IsKept, IsNone, Known, Turns}
use Rattle.command_steps.specs.Owns.{OnTree, back_up, erase, restore, tree_of, write}
use Rattle.command_steps.specs.Writing.{Erases, Writes, bytes_of}
use Rattle.command_steps.specs.declared.outcome.Outcome.{Outcome}
use Rattle.command_steps.specs.declared.outcome.Outcome.TheVariants as came
use Rattle.command_steps.specs.declared.outcome.Outcome.TheVariants.{Said}

-- ---- WRITE and ERASE

-- a file was written
abbrev pub WritesFile : FileWrite → (before after : Known) → Result Outcome Refusal → Type 0
WritesFile w before after result = (answer : Result (Unit {0}) Refusal) × Writes w.path (bytes_of w.contents) w.mtime before after answer × (result ≡ on_ok (λ done. Said Done) answer)

-- a file was taken away
abbrev pub ErasesFile : FileErase → (before after : Known) → Result Outcome Refusal → Type 0
ErasesFile e before after result = (answer : Result (Unit {0}) Refusal) × Erases e.path before after answer × (result ≡ on_ok (λ done. Said Done) answer)

-- ---- DSMC INCREMENTAL

-- the same, with the paths for which nothing was committed in ascending order
pub record IsByPath (told shown : Sent) : Type 0 where
  pub counts : shown ≡ record told { failed = shown.failed }
  pub same : IsPermutation told.failed shown.failed
  pub order : IsSortedByKey (λ (f : Failure). f.path) (slice_cmp nat_cmp) shown.failed

abbrev pub ShowsSent : Result Sent Refusal → Result Outcome Refusal → Type 0
ShowsSent (Ok told) (Ok (came.Sent shown)) = IsByPath told shown
ShowsSent (Ok told) result = ⊥
ShowsSent (Err e) result = result ≡ Err e

-- the incremental backup of the tree's files, which stay as they were
abbrev pub BacksUp : List Rule → IncrementalBackup → (before after : Known) → List Event → Result Outcome Refusal → Type 0
BacksUp choice i before after events result =
    (answer : Result Sent Refusal) × Incremental i.node i.filespace choice before.files before.faults after.faults events answer × (after.files ≡ before.files) × ShowsSent answer result

-- ---- DSMC RESTORE

-- which versions are restored
abbrev pub which_of : Wanted → Result Which Refusal
which_of Active = Ok which.Active
which_of (Like pattern) = on_ok which.Like (read_pattern pattern)
which_of (On day) = Ok (which.On day)
which_of (Object object) = Ok (which.Object object)

-- an object is wanted by its number, and there is none
abbrev pub is_absent : Wanted → List RestoreLine → Bool
is_absent (Object object) [] = true
is_absent wanted lines = false

abbrev pub given_back : Wanted → Restored → Result Outcome Refusal
given_back wanted r = if is_absent wanted r.lines then Err NotFound else Ok (came.Restored r)

abbrev pub given_by : Wanted → Result Restored Refusal → Result Outcome Refusal
given_by wanted (Ok r) = given_back wanted r
given_by wanted (Err e) = Err e

-- These versions of the filespace were restored into the tree.
abbrev pub GivesBack : FilesRestore → Which → (before after : Known) → List Event → Result Outcome Refusal → Type 0
GivesBack r versions before after events result =
    (answer : Result Restored Refusal) × Restores r.node r.filespace versions before.faults after.faults before.files after.files events answer × (result ≡ given_by r.wanted answer)

-- Those that are wanted were. Or it isn't known which these are, or memory was wanted before anything was done.
abbrev pub GivesWanted : FilesRestore → (before after : Known) → List Event → Result Outcome Refusal → Type 0
GivesWanted r before after events result =
    ((versions : Which) × (which_of r.wanted ≡ Ok versions) × GivesBack r versions before after events result)
    ⊎ ((e : Refusal) × ((e ≡ Memory) ⊎ (which_of r.wanted ≡ Err e)) × (events ≡ []) × (after ≡ before) × (result ≡ Err e))

-- ---- each of them

-- what was done on a tree, which was `before` and is `after`
abbrev pub DoesOn : List Rule → OnTree → (before after : Known) → List Event → Result Outcome Refusal → Type 0
DoesOn choice (write w) before after events result = (events ≡ []) × WritesFile w before after result
DoesOn choice (erase e) before after events result = (events ≡ []) × ErasesFile e before after result
DoesOn choice (back_up i) before after events result = BacksUp choice i before after events result
DoesOn choice (restore r) before after events result = GivesWanted r before after events result

-- It was done on the tree that the command names, and all others are as they were. Or there is no such tree.
abbrev pub DoesThere : Client → OnTree → List Event → Result Outcome Refusal → Type 0
DoesThere k work events result =
    ((before : Known) × (after : Known) × Turns (tree_of work) before after k × DoesOn k.choice work before after events result)
    ⊎ (IsNone (tree_of work) k × IsKept k × (events ≡ []) × (result ≡ Err NotFound))
