-- One file is stored under the class that its path is bound to.
use Rattle.std.specs.Prelude.{◌≡◌, ◌⊎◌, ℕ, ◌==◌, ◌&&◌, Bool, true, false, List, [], ◌∷◌, Option, None, Some, if◌then◌else◌, Result, Ok, Err}
use Rattle.std.specs.List.{find}
use Rattle.std.specs.Option.{option_map}
use Rattle.kinds.specs.Names.{is_same_name}
use Rattle.kinds.specs.Refusals.{bad_value}
use Rattle.kinds.specs.declared.change.DefineOrDelete.TheVariants as two
use Rattle.kinds.specs.declared.change.ObjectChange.TheVariants as client
use Rattle.kinds.specs.declared.refusal.Refusal.{Refusal}
use Rattle.kinds.specs.declared.refusal.Refusal.TheVariants as refused
use Rattle.kinds.specs.declared.segment.Digest.{Digest}
use Rattle.choosers.specs.declared.rule.Rule.{Rule}
use Rattle.client_files.specs.declared.outcome.Came.{Came}
use Rattle.client_files.specs.declared.outcome.Came.TheVariants as came
use Rattle.client_files.specs.Outcomes.{Sending}
use Rattle.client_files.specs.Reading.{EndsEarly, GoesOn}
use Rattle.client_files.specs.Sending.{stopping}
use Rattle.client_plan.specs.Classes.{is_left_out}
use Rattle.client_trees.specs.Files.{ClientFile}
use Rattle.client_trees.specs.declared.tree.FileRow.{FileRow}
use Rattle.entries.specs.declared.change.Change.{Change}
use Rattle.entries.specs.declared.change.Change.TheVariants as change
use Rattle.inventory_answers.specs.declared.lines.VersionLine.{VersionLine}
use Rattle.steps.specs.declared.asked.Asked.{Asked}
use Rattle.steps.specs.declared.asked.Asked.TheVariants.{Backup}
use Rattle.steps.specs.Calls.{IsStep, Made, Then}
use Rattle.steps.specs.Events.{Event, has_number}
use Rattle.steps.specs.Events.Deed.{Commit, DropTicket, Force}
use Rattle.sessions.specs.Asking.{AsksFilespace, AsksNode, AsksPath, AsksRules}
use Rattle.sessions.specs.Changing.{Changing}
use Rattle.sessions.specs.Homes.{home_of}
use Rattle.sessions.specs.InTurn.{Decides, InTurn, OrMemory}
use Rattle.sessions.specs.Outcomes.{HasCauseOr}
use Rattle.sessions.specs.Waiting.{Obtains}
use Rattle.sessions.specs.declared.homes.Home.{Home}
use Rattle.sessions.specs.declared.sending.Sealed.{Sealed}

-- ---- what refusals lead to

-- What a transaction of this command may be refused with: what it names isn't there, it has more bytes than a record may have, a bound of the database's, a halted hall, a full
-- run, want of memory.
abbrev pub is_unplaced : Refusal → Bool
is_unplaced e = has_number (10 ∷ 30 ∷ 31 ∷ 40 ∷ 41 ∷ 50 ∷ []) e

-- what can't be answered there stands for want of memory
abbrev pub unplaced : Refusal → Refusal
unplaced e = if is_unplaced e then e else refused.Memory

-- the hall is halted, or the run is full: no ticket can be given back
abbrev pub is_lasting : Refusal → Bool
is_lasting e = has_number (40 ∷ 41 ∷ []) e

-- ---- where the file goes

-- the node is looked up, its rules are asked, and by them the path is bound
abbrev pub FindsHome : (node : List ℕ) → List Rule → (path : List ℕ) → List Event → Result Home Refusal → Type 0
FindsHome node choice path events result =
    InTurn (OrMemory (AsksNode node)) (λ number. InTurn (AsksRules number) (λ rules. Decides (home_of number rules choice path))) events result

-- ---- the filespace

-- it is there with its number, or it isn't there
abbrev pub there_or_not : Result ℕ Refusal → Result (Option ℕ) Refusal
there_or_not (Ok number) = Ok (Some number)
there_or_not (Err refused.NotFound) = Ok None
there_or_not (Err e) = Err e

-- its number is asked
abbrev pub AsksFor : (node filespace : List ℕ) → List Event → Result ℕ Refusal → Type 0
AsksFor node filespace events result = OrMemory (AsksFilespace node filespace) events result

abbrev pub Looks : (node filespace : List ℕ) → List Event → Result (Option ℕ) Refusal → Type 0
Looks node filespace events result = (answer : Result ℕ Refusal) × AsksFor node filespace events answer × (result ≡ there_or_not answer)

-- the change by which it is defined, whose number is filled in when it is made
abbrev pub defined : (node : ℕ) → List ℕ → Change
defined node filespace = change.Object (client.Filespace two.Define node filespace 0)

-- it is there behind a change that was answered so: somebody else may have defined it meanwhile
abbrev pub defined_by : Result ℕ Refusal → Result (Unit {0}) Refusal
defined_by (Ok number) = Ok tt
defined_by (Err refused.Exists) = Ok tt
defined_by (Err e) = Err (unplaced e)

abbrev pub Defines : (node : ℕ) → List ℕ → List Event → Result (Unit {0}) Refusal → Type 0
Defines number filespace events result = (answer : Result ℕ Refusal) × Changing (defined number filespace) events answer × (result ≡ defined_by answer)

-- where it isn't there it is defined, and its number is asked again
abbrev pub FindsIn : (node filespace : List ℕ) → (number : ℕ) → Option ℕ → List Event → Result ℕ Refusal → Type 0
FindsIn node filespace number None events result = InTurn (OrMemory (Defines number filespace)) (λ done. AsksFor node filespace) events result
FindsIn node filespace number (Some it) events result = Decides (Ok it) events result

-- the number of the filespace, which is defined where it isn't there
abbrev pub FindsFilespace : (node filespace : List ℕ) → (number : ℕ) → List Event → Result ℕ Refusal → Type 0
FindsFilespace node filespace number events result = InTurn (Looks node filespace) (FindsIn node filespace number) events result

-- ---- the ticket

-- what came of the file: its ticket is sealed, or it is refused
abbrev pub sealed_of : Result Came Refusal → Result Sealed Refusal
sealed_of (Ok (came.Written ticket digest)) = Ok (record { ticket = ticket; digest = digest })
sealed_of (Ok (came.Failed e)) = Err e
sealed_of (Ok (came.Held holder)) = Err (refused.Busy holder)
sealed_of (Err e) = Err e

-- one try to send it
abbrev pub SendsOnce : Option ClientFile → (pool size : ℕ) → Result Sealed Refusal → List Event → Type 0
SendsOnce file pool size answer events =
    (before : ℕ) × (after : ℕ) × (came : Result Came Refusal) × Sending file pool size before after events came × (answer ≡ sealed_of came)

-- it is sent, as soon as nobody holds the room that it needs
abbrev pub Sends : Option ClientFile → (pool size : ℕ) → List Event → Result Sealed Refusal → Type 0
Sends file pool size events result = Obtains (SendsOnce file pool size) events result

-- ---- the transaction

-- the file becomes a version of its path
abbrev pub backed_up : (filespace : ℕ) → FileRow → (class : List ℕ) → Digest → Asked
backed_up filespace file class digest = Backup filespace (record { path = file.path; class = class; mtime = file.mtime; digest = digest } ∷ [])

-- the refusal behind the drop of its ticket
abbrev pub behind_drop : Refusal → Result (Unit {0}) Refusal → Refusal
behind_drop why (Ok done) = unplaced why
behind_drop why (Err other) = stopping other

-- the ticket is given back, unless nobody can give it back
abbrev pub GivesBack : (ticket : ℕ) → Refusal → List Event → Refusal → Type 0
GivesBack ticket why events e =
    ((is_lasting why ≡ true) × (events ≡ []) × (e ≡ unplaced why))
    ⊎ ((is_lasting why ≡ false) × (answer : Result (Unit {0}) Refusal) × IsStep (DropTicket ticket answer) events × (e ≡ behind_drop why answer))

-- what was tried with the ticket was answered; or it was refused, and the ticket is given back
abbrev pub OrGivesBack : (ticket : ℕ) → (List Event → Result ℕ Refusal → Type 0) → List Event → Result ℕ Refusal → Type 0
OrGivesBack ticket Tries events (Ok number) = Tries events (Ok number)
OrGivesBack ticket Tries events (Err e) = (why : Refusal) × Then (λ xs. Tries xs (Err why)) (λ ys. GivesBack ticket why ys e) events

-- it is committed with its ticket
abbrev pub CommitsOne : Asked → (ticket : ℕ) → List Event → Result ℕ Refusal → Type 0
CommitsOne asked ticket events result = Made (Commit asked (ticket ∷ []) result) events

-- and then made durable
abbrev pub ForcesOne : (number : ℕ) → List Event → Result ℕ Refusal → Type 0
ForcesOne number events (Ok same) = (same ≡ number) × (last : ℕ) × Made (Force (Ok last)) events
ForcesOne number events (Err e) = Made (Force (Err e)) events

abbrev pub Stores : (filespace : ℕ) → FileRow → (class : List ℕ) → Sealed → List Event → Result ℕ Refusal → Type 0
Stores filespace file class s events result =
    InTurn (OrGivesBack s.ticket (OrMemory (CommitsOne (backed_up filespace file class s.digest) s.ticket))) ForcesOne events result

-- ---- the object's number

-- a version with this time and this digest
abbrev pub is_stored : FileRow → Digest → VersionLine → Bool
is_stored file digest l = l.mtime == file.mtime && is_same_name l.digest.0 digest.0

-- the object of the newest such, among the versions of the path
abbrev pub object_among : FileRow → Digest → List VersionLine → Option ℕ
object_among file digest lines = option_map (λ l. l.object) (find (is_stored file digest) lines)

-- what was found, or that it isn't there
abbrev pub found_or : {A : Type 0} → Option A → Result A Refusal
found_or None = Err refused.NotFound
found_or (Some it) = Ok it

abbrev pub object_stored : FileRow → Digest → List VersionLine → Result ℕ Refusal
object_stored file digest lines = found_or (object_among file digest lines)

-- the versions of the path are asked, among which it is
abbrev pub Names : (node filespace : List ℕ) → FileRow → Digest → List Event → Result ℕ Refusal → Type 0
Names node filespace file digest events result =
    InTurn (OrMemory (AsksPath node filespace file.path)) (λ lines. Decides (object_stored file digest lines)) events result

-- ---- all of it

abbrev pub StoresAndNames : (node filespace : List ℕ) → (number : ℕ) → FileRow → (class : List ℕ) → Sealed → List Event → Result ℕ Refusal → Type 0
StoresAndNames node filespace number file class s events result = InTurn (Stores number file class s) (λ seq. Names node filespace file s.digest) events result

-- into the filespace with this number
abbrev pub PutsIn : (node filespace : List ℕ) → Option ClientFile → FileRow → Home → (number : ℕ) → List Event → Result ℕ Refusal → Type 0
PutsIn node filespace given file home number events result =
    InTurn (Sends given home.pool file.size) (StoresAndNames node filespace number file home.class) events result

abbrev pub PutsUnder : (node filespace : List ℕ) → Option ClientFile → FileRow → Home → List Event → Result ℕ Refusal → Type 0
PutsUnder node filespace given file home events result = InTurn (FindsFilespace node filespace home.node) (PutsIn node filespace given file home) events result

-- A file is put: where it goes is found, its filespace is found or defined, it is sent, committed and made durable, and its object's number is asked.
abbrev pub Puts : (node filespace : List ℕ) → List Rule → Option ClientFile → FileRow → List Event → Result ℕ Refusal → Type 0
Puts node filespace choice given file events result = InTurn (FindsHome node choice file.path) (PutsUnder node filespace given file) events result

-- ---- why it isn't

-- What no step is refused with: the path is left out; its class has no backup copy group, or no policy set is active; a call on the tree failed; the file isn't as long as it was listed; or none of the versions
-- that were asked is the one that was stored.
abbrev pub IsDecided : List Rule → Option ClientFile → FileRow → Refusal → Type 0
IsDecided choice given file e =
    ((e ≡ bad_value) × (is_left_out choice file.path ≡ true))
    ⊎ (e ≡ refused.NoBackupGroup)
    ⊎ (e ≡ refused.TreeFault)
    ⊎ ((at : ℕ) × EndsEarly given at file.size e)
    ⊎ GoesOn given file.size e
    ⊎ (e ≡ refused.NotFound)

-- What a step may be refused with: something isn't there, no pool has room, others hold the room, a volume can't be written, the file is too large, the transaction has more bytes than a record may have, a bound of
-- the database's, a halted hall, a full run, want of memory.
abbrev pub numbers : List ℕ
numbers = 10 ∷ 20 ∷ 21 ∷ 25 ∷ 29 ∷ 30 ∷ 31 ∷ 40 ∷ 41 ∷ 50 ∷ []

-- What a PUT did: its steps in their order; and its refusal has its cause.
pub record Putting (node filespace : List ℕ) (choice : List Rule) (given : Option ClientFile) (file : FileRow) (events : List Event) (result : Result ℕ Refusal) : Type 0 where
  pub order : Puts node filespace choice given file events result
  pub cause : HasCauseOr (IsDecided choice given file) numbers events result
