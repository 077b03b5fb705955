-- What a command comes to where one actor has the machine alone.
use Rattle.std.specs.Prelude.{◌≡◌, ◌⊎◌, ℕ, Bool, true, false, List, [], ◌∷◌, ◌++◌, None, Some, Result, Ok, Err}
use Rattle.std.specs.List.{AllByRecursion}
use Rattle.kinds.specs.declared.change.DefineOrDelete.TheVariants as two
use Rattle.kinds.specs.declared.change.ObjectChange.TheVariants as client
use Rattle.kinds.specs.declared.change.PolicyChange.TheVariants as policy
use Rattle.kinds.specs.declared.change.PoolChange.TheVariants as store
use Rattle.kinds.specs.declared.change.Verb.TheVariants as verb
use Rattle.kinds.specs.declared.pool.Access.{Access}
use Rattle.kinds.specs.declared.pool.Access.TheVariants.{Destroyed}
use Rattle.kinds.specs.declared.refusal.Refusal.{Refusal}
use Rattle.kinds.specs.declared.refusal.Refusal.TheVariants.{Memory, NotFound, RunFull, UnknownWord}
use Rattle.choosers.specs.declared.rule.Rule.{Rule}
use Rattle.entries.specs.change_items.declared.items.DiscardedVersion.{DiscardedVersion}
use Rattle.entries.specs.change_items.declared.items.DroppedCopy.{DroppedCopy}
use Rattle.entries.specs.change_items.declared.items.NamedVersion.{NamedVersion}
use Rattle.entries.specs.change_items.declared.items.MovedCopy.{MovedCopy}
use Rattle.entries.specs.change_items.declared.items.NewCopy.{NewCopy}
use Rattle.entries.specs.change_items.declared.items.ScratchVolume.{ScratchVolume}
use Rattle.entries.specs.change_items.declared.reasons.DiscardReason.{DiscardReason}
use Rattle.entries.specs.change_items.declared.reasons.DiscardReason.TheVariants as because
use Rattle.entries.specs.change_items.declared.reasons.DropReason.TheVariants as since
use Rattle.entries.specs.declared.change.Change.{Change}
use Rattle.entries.specs.declared.change.Change.TheVariants as change
use Rattle.entries.specs.declared.entry.Entry.{Entry}
use Rattle.inventory_rows.specs.policy_domains.Changes.{after}
use Rattle.inventory_rows.specs.version_groups.Entries.{on_ok}
use Rattle.inventory_rows.specs.State.{Inv}
use Rattle.inventory_answers.specs.Answered.{answered}
use Rattle.inventory_answers.specs.declared.query.Query.{Query}
use Rattle.inventory_answers.specs.declared.reply.Answer as rows
use Rattle.command_words.specs.Reading.{◌>>=◌}
use Rattle.admin_words.specs.declared.command.Command.{Command}
use Rattle.admin_words.specs.declared.policy.NamedSet.{NamedSet}
use Rattle.admin_commands.specs.Orders.{needs, work_of}
use Rattle.admin_commands.specs.declared.work.Work.{Work}
use Rattle.admin_commands.specs.declared.work.Work.TheVariants.{Commit, Show, Run}
use Rattle.reports.specs.declared.shown.Shown.TheVariants.{Done, Reused, Stored}
use Rattle.script_loop.specs.declared.ends.Halt.{Halt}
use Rattle.command_steps.specs.sessions.declared.getting.FileRead.{FileRead}
use Rattle.steps.specs.Events.{Event}
use Rattle.machine.specs.Alone.{Alone}
use Rattle.machine.specs.Changes.{filled}
use Rattle.machine.specs.Machine.{Places}
use Rattle.machine.specs.State.{Machine}
use Rattle.command_steps.specs.Answers.{halt_by}
use Rattle.command_steps.specs.Behind.{Behind, behind, no_more, reuses}
use Rattle.command_steps.specs.Clients.{Client, IsKept, IsNone, Known, Turns}
use Rattle.command_steps.specs.Doing as steps
use Rattle.command_steps.specs.Doing.{EndsWork, the_number}
use Rattle.command_steps.specs.Owns.{Mover, OnTree, Own, audit_volume, back_up, back_up_database, back_up_pool, back_up_since, checkpoint, delete_history, empty_filespace, empty_volume, erase, expire, get, last_of, moves, none_but_reuse, none_yet, on_tree, own_of, put, restore, tree_of, validate, volume_restorer, write}
use Rattle.command_steps.specs.Trees.{BacksUp, ErasesFile, GivesWanted, WritesFile}
use Rattle.command_steps.specs.declared.outcome.Outcome.{Outcome}
use Rattle.command_steps.specs.declared.outcome.Outcome.TheVariants.{Read, Rows, Said}
use Rattle.line_results.specs.Bounds.{IsReasoned, IsReused}
use Rattle.line_results.specs.Files.{Checkpoints, Gets, Puts}
use Rattle.line_results.specs.Moving.{IsCopyReasoned}
use Rattle.line_results.specs.Resting.{Adds, Commits, EndsRun, IsLate, Onward, SameBytes, SameImage, database}
use Rattle.line_results.specs.Trees.{GivesChosen, HaveBytes, IsOfBackup, IsRefusedSo, KeepsBytes}

-- ---- what a command asks for

-- the answers to look-ups, in their order, or the first refusal
abbrev pub answers_to : List Query → Inv → Result (List rows.Answer) Refusal
answers_to [] v = Ok []
answers_to (q ∷ queries) v = answered q v >>= λ first. answers_to queries v >>= λ others. Ok (first ∷ others)

-- what a command asks for over a database: a change, rows, or work of its own; or why it is refused
abbrev pub work_over : Command → Inv → Result Work Refusal
work_over c v = answers_to (needs c) v >>= λ answers. work_of c answers

-- what the policy domains make of a set's activation: VALIDATE is answered OK exactly where they take it
abbrev pub validated : NamedSet → Inv → Result (Unit {0}) Refusal
validated s v = on_ok (λ domains. tt) (after (policy.Activate s.domain s.set) v.domains)

-- the change that is made: file numbers and filespace numbers are those that are drawn next
abbrev pub drawn : Change → Machine → Change
drawn c m = filled m.core.next_file (database m) c

-- ---- what it comes to

-- What is said of a result: which transactions it adds, oldest first, and the machine behind it.

-- what can be said without a change: these are the answer, unless the run ended
abbrev pub Tells : Result Outcome Refusal → (old new : Machine) → Result Outcome Refusal → (added : List Entry) → Type 0
Tells told old new result added = ((result ≡ told) ⊎ ((e : Refusal) × (result ≡ Err e) × EndsRun old new e)) × (added ≡ []) × SameImage old new × SameBytes old new

-- where the run ended, that has its cause
abbrev pub EndsSo : (old new : Machine) → Result Outcome Refusal → Type 0
EndsSo old new result = (e : Refusal) (how : Halt) → result ≡ Err e → halt_by e ≡ Some how → EndsRun old new e

-- ---- processes, which are said by their steps

-- nothing changed but the moment and the counts of faults
pub record IsStill (old new : Machine) : Type 0 where
  pub core : new.core ≡ old.core
  pub contents : new.contents ≡ old.contents
  pub onward : Onward old new

-- The script made these steps, which did this, alone, behind steps that changed nothing.
abbrev pub Ran : (trusted : Type 0) → Places → (Did : List Event → Type 0) → (old new : Machine) → Type 0
Ran trusted places Did old new = (mid : Machine) × (events : List Event) × IsStill old mid × Alone trusted places 0 events mid new × Did events

-- objects are discarded for this reason
abbrev pub IsDiscard : DiscardReason → Change → Type 0
IsDiscard reason c = (items : List DiscardedVersion) × (c ≡ change.Discard (record { reason = reason; items = items }))

-- copies are moved
abbrev pub IsMove : Change → Type 0
IsMove c = (scratch : List ScratchVolume) × (items : List MovedCopy) × (c ≡ change.Move (record { scratch = scratch; items = items }))

-- what the volume with this file number held is made known as lost
abbrev pub IsLoss : (file : ℕ) → Change → Type 0
IsLoss file c = (name : List ℕ) × (capacity : ℕ) × (c ≡ change.Pool (store.Volume verb.Update name 0 file capacity Destroyed))

-- by what moves copies; RESTORE VOLUME makes the loss known too
abbrev pub MayMove : Mover → (file : ℕ) → Change → Type 0
MayMove volume_restorer file c = IsMove c ⊎ IsLoss file c
MayMove mover file c = IsMove c

-- a database backup in this file ends, or is taken off the list
abbrev pub IsEndOrRemoval : (file : ℕ) → Change → Type 0
IsEndOrRemoval file c = (c ≡ change.DbEnd file) ⊎ (c ≡ change.DbDelete file)

-- what an audit of the volume found damaged is dropped, or discarded
abbrev pub IsMend : (file : ℕ) → Change → Type 0
IsMend file c = ((items : List DroppedCopy) × (c ≡ change.DropCopies (record { reason = since.Audit file; items = items }))) ⊎ IsDiscard (because.Audit file) c

-- the transactions that a process may make over the numbers of the things that it names: objects that aren't retained go; objects of the filespace are discarded, or its row goes; copies on the
-- volume are dropped, objects are discarded for it, or its row goes; copies are added, or moved; a database backup begins, the whole one following none and the other one following one, ends, or is taken
-- off the list; copies or objects that an audit found damaged go, where that is asked
abbrev pub MayMake : (numbers : List ℕ) → Own → Change → Type 0
MayMake numbers expire c = (filespace : ℕ) × (items : List NamedVersion) × (c ≡ change.Expire (record { filespace = filespace; items = items }))
MayMake numbers empty_filespace c =
    IsDiscard (because.Filespace (the_number numbers)) c ⊎ ((name : List ℕ) × (c ≡ change.Object (client.Filespace two.Delete 0 name (the_number numbers))))
MayMake numbers empty_volume c =
    ((items : List DroppedCopy) × (c ≡ change.DropCopies (record { reason = since.Volume (the_number numbers); items = items })))
    ⊎ IsDiscard (because.Volume (the_number numbers)) c
    ⊎ ((name : List ℕ) × (capacity : ℕ) × (access : Access) × (c ≡ change.Pool (store.Volume verb.Delete name 0 (the_number numbers) capacity access)))
MayMake numbers back_up_pool c = (scratch : List ScratchVolume) × (items : List NewCopy) × (c ≡ change.Copy (record { scratch = scratch; items = items }))
MayMake numbers (moves mover) c = MayMove mover (the_number numbers) c
MayMake numbers back_up_database c = (file : ℕ) × ((c ≡ change.DbBegin file None) ⊎ IsEndOrRemoval file c)
MayMake numbers back_up_since c = (file : ℕ) × (((after : ℕ) × (c ≡ change.DbBegin file (Some after))) ⊎ IsEndOrRemoval file c)
MayMake numbers (delete_history to) c = (file : ℕ) × (c ≡ change.DbDelete file)
MayMake numbers (audit_volume fix) c = (fix ≡ true) × IsMend (the_number numbers) c
MayMake numbers _ c = ⊥

-- Where it is refused, that has its reason, and so it has where it makes copies.
pub record Reasoned (places : Places) (numbers : List ℕ) (own : Own) (old new : Machine) (result : Result Outcome Refusal) : Type 0 where
  pub at_all : IsReasoned numbers own old new result
  pub copying : IsCopyReasoned places numbers own old result

-- A process ran: its own contract says what its steps did; each transaction that it made is one of these; and where it is refused, that has its reason.
abbrev pub Processes : (trusted : Type 0) → Places → List Rule → (numbers : List ℕ) → Own → (old new : Machine) → Result Outcome Refusal → (added : List Entry) → Type 0
Processes trusted places choice numbers own old new result added =
    Ran trusted places (λ events. steps.DoesAlone choice own numbers events result) old new × AllByRecursion (λ e. (e.actor ≡ 0) × MayMake numbers own e.change) added × SameImage old new × SameBytes old new
    × Reasoned places numbers own old new result

-- ---- work

-- work of a command's own that has nothing to do with trees, over the numbers of the things that it names; what isn't done so far is refused like an unknown word
abbrev pub DoesAlone : (trusted : Type 0) → Places → List Rule → (numbers : List ℕ) → Own → (old new : Machine) → Result Outcome Refusal → (added : List Entry) → Type 0
DoesAlone trusted places choice numbers (validate set) old new result added = Tells (on_ok (λ done. Said Done) (validated set (database old))) old new result added
DoesAlone trusted places choice numbers (put p) old new result added =
    (answer : Result ℕ Refusal) × Puts places choice p old new answer added × (result ≡ on_ok (λ object. Said (Stored object)) answer) × SameImage old new
DoesAlone trusted places choice numbers (get g) old new result added =
    (answer : Result FileRead Refusal) × Gets trusted g old new answer × (result ≡ on_ok Read answer) × (added ≡ []) × SameImage old new × SameBytes old new
DoesAlone trusted places choice numbers checkpoint old new result added =
    (answer : Result ℕ Refusal) × Checkpoints old new answer × (result ≡ on_ok (λ seq. Said Done) answer) × (added ≡ []) × SameBytes old new
DoesAlone trusted places choice numbers expire old new result added = Processes trusted places choice numbers expire old new result added
DoesAlone trusted places choice numbers empty_filespace old new result added = Processes trusted places choice numbers empty_filespace old new result added
DoesAlone trusted places choice numbers empty_volume old new result added = Processes trusted places choice numbers empty_volume old new result added
DoesAlone trusted places choice numbers back_up_pool old new result added = Processes trusted places choice numbers back_up_pool old new result added
DoesAlone trusted places choice numbers (moves mover) old new result added = Processes trusted places choice numbers (moves mover) old new result added
DoesAlone trusted places choice numbers back_up_database old new result added = Processes trusted places choice numbers back_up_database old new result added
DoesAlone trusted places choice numbers back_up_since old new result added = Processes trusted places choice numbers back_up_since old new result added
DoesAlone trusted places choice numbers (delete_history to) old new result added = Processes trusted places choice numbers (delete_history to) old new result added
DoesAlone trusted places choice numbers (audit_volume fix) old new result added = Processes trusted places choice numbers (audit_volume fix) old new result added
DoesAlone trusted places choice numbers none_but_reuse old new result added = Tells (Ok (Said (Reused 0))) old new result added
DoesAlone trusted places choice numbers none_yet old new result added = Tells (Err (UnknownWord 1)) old new result added
DoesAlone trusted places choice numbers (on_tree work) old new result added = ⊥

-- What was done on a tree, which was `before` and is `after`. WRITE and ERASE do nothing but that. A backup ran: its own contract says what its steps did; each transaction that it made is of the plan
-- over the tree and the database; what was stored already keeps its bytes; what it stored has as many bytes as each version says, with its digest; and where it is refused, that has its cause, and it made none. A restore ran, which
-- changes no more of the machine than a query does.
abbrev pub DoesOn : (trusted : Type 0) → Places → List Rule → OnTree → (before after : Known) → (old new : Machine) → Result Outcome Refusal → (added : List Entry) → Type 0
DoesOn trusted places choice (write w) before after old new result added = WritesFile w before after result × IsStill old new × (added ≡ [])
DoesOn trusted places choice (erase e) before after old new result added = ErasesFile e before after result × IsStill old new × (added ≡ [])
DoesOn trusted places choice (back_up i) before after old new result added =
    Ran trusted places (λ events. BacksUp choice i before after events result) old new
    × AllByRecursion (λ e. (e.actor ≡ 0) × IsOfBackup choice i before.files (database old) e.change) added × SameImage old new × KeepsBytes old new × HaveBytes new added
    × IsRefusedSo i before after old result added
DoesOn trusted places choice (restore r) before after old new result added =
    Ran trusted places (λ events. GivesWanted r before after events result) old new × GivesChosen r (database old) before after result × EndsSo old new result × IsStill old new × (added ≡ [])

-- It was done on the tree that the command names, and all others are as they were. Or there is no such tree, and nothing was done.
abbrev pub DoesThere : (trusted : Type 0) → Places → Client → OnTree → (old new : Machine) → Result Outcome Refusal → (added : List Entry) → Type 0
DoesThere trusted places k work old new result added =
    ((before : Known) × (after : Known) × Turns (tree_of work) before after k × DoesOn trusted places k.choice work before after old new result added)
    ⊎ (IsNone (tree_of work) k × IsKept k × (result ≡ Err NotFound) × IsStill old new × (added ≡ []))

-- work of a command's own: on the tree that it names, or on none
abbrev pub DoesOwn : (trusted : Type 0) → Places → Client → (numbers : List ℕ) → Own → (old new : Machine) → Result Outcome Refusal → (added : List Entry) → Type 0
DoesOwn trusted places k numbers (on_tree work) old new result added = DoesThere trusted places k work old new result added
DoesOwn trusted places k numbers own old new result added = IsKept k × DoesAlone trusted places k.choice numbers own old new result added

-- A command whose work over the database is this: it is done, or it is refused before that. But for work on a tree all trees are as they were.
abbrev pub Does : (trusted : Type 0) → Places → Client → Command → Result Work Refusal → (old new : Machine) → Result Outcome Refusal → (added : List Entry) → Type 0
Does trusted places k c (Err why) old new result added = IsKept k × Tells (Err why) old new result added
Does trusted places k c (Ok (Commit what)) old new result added =
    IsKept k × (answer : Result ℕ Refusal) × Commits (drawn what old) old new answer added × (result ≡ on_ok (λ number. Said (last_of what)) answer) × SameImage old new × SameBytes old new
Does trusted places k c (Ok (Show query)) old new result added = IsKept k × Tells (on_ok Rows (answered query (database old))) old new result added
Does trusted places k c (Ok (Run numbers)) old new result added = DoesOwn trusted places k numbers (own_of c) old new result added

-- What comes behind work that came to this: nothing, or what its steps did; and where the reuse of volumes is refused, that has its reason.
abbrev pub EndsWith : (trusted : Type 0) → Places → Behind → (said : Result Outcome Refusal) → (mid new : Machine) → Result Outcome Refusal → Type 0
EndsWith trusted places no_more said mid new result = (new ≡ mid) × (result ≡ said)
EndsWith trusted places b said mid new result = (events : List Event) × Alone trusted places 0 events mid new × EndsWork b said events result × SameImage mid new × SameBytes mid new × IsReused b said mid new result

-- volumes are reused where that comes behind the work
abbrev pub IsReuse : Behind → Change → Type 0
IsReuse reuses c = (file : ℕ) × (c ≡ change.Reuse file)
IsReuse b c = ⊥

-- Work is done, and then what comes behind it: `first` are the transactions of the work, and `later` those behind it. Where the run ended, that has its cause.
pub record WorksWith (trusted : Type 0) (places : Places) (k : Client) (c : Command) (w : Result Work Refusal) (b : Behind) (old new : Machine) (result : Result Outcome Refusal) (added : List Entry) : Type 0 where
  pub said : Result Outcome Refusal
  pub mid : Machine
  pub first : List Entry
  pub later : List Entry
  pub parts : added ≡ first ++ later
  pub adds : Adds first old mid
  pub does : Does trusted places k c w old mid said first
  pub ends : EndsWith trusted places b said mid new result
  pub reused : AllByRecursion (λ e. (e.actor ≡ 0) × IsReuse b e.change) later
  pub cause : EndsSo old new result

-- A command's work over the database, with what comes behind it; or it is refused before any.
abbrev pub Works : (trusted : Type 0) → Places → Client → Command → Result Work Refusal → Behind → (old new : Machine) → Result Outcome Refusal → (added : List Entry) → Type 0
Works trusted places k c w no_more old new result added = Does trusted places k c w old new result added
Works trusted places k c (Err why) b old new result added = IsKept k × Tells (Err why) old new result added
Works trusted places k c (Ok work) b old new result added = WorksWith trusted places k c (Ok work) b old new result added

-- the run ended before the command's work was known
abbrev pub BeginsNot : Client → (old new : Machine) → Result Outcome Refusal → (added : List Entry) → Type 0
BeginsNot k old new result added = IsKept k × (e : Refusal) × (result ≡ Err e) × EndsRun old new e × (added ≡ []) × SameImage old new × SameBytes old new

-- the run is full, or memory is wanted
abbrev pub IsStopped : {A : Type 0} → Result A Refusal → Type 0
IsStopped result = (result ≡ Err RunFull) ⊎ (result ≡ Err Memory)

-- a command that asks for nothing is refused by its own words, before any step, or isn't done so far
abbrev pub IsRefusedAsRead : Command → Result Outcome Refusal → Type 0
IsRefusedAsRead c result =
    (needs c ≡ [])
    × (((why : Refusal) × (work_of c [] ≡ Err why) × (result ≡ Err why))
    ⊎ ((numbers : List ℕ) × (work_of c [] ≡ Ok (Run numbers)) × (own_of c ≡ none_yet) × (result ≡ Err (UnknownWord 1))))

-- work that is done without a step: WRITE and ERASE
abbrev pub is_stepless : Own → Bool
is_stepless (on_tree (write w)) = true
is_stepless (on_tree (erase e)) = true
is_stepless own = false

-- a command that begins late, at a moment that is all but the last, finds the run full, or memory is wanted before that is seen; unless it is refused without a step, or is done without one
abbrev pub IsFull : Command → (old : Machine) → Result Outcome Refusal → Type 0
IsFull c old result = IsLate old → IsStopped result ⊎ (IsRefusedAsRead c result ⊎ (is_stepless (own_of c) ≡ true))

-- What a command comes to.
abbrev pub Comes : (trusted : Type 0) → Places → Client → Command → (old new : Machine) → Result Outcome Refusal → (added : List Entry) → Type 0
Comes trusted places k c old new result added =
    (BeginsNot k old new result added ⊎ Works trusted places k c (work_over c (database old)) (behind c) old new result added) × IsFull c old result
