-- What holds of a line of a job of a block that was answered, clause by clause: which transactions it makes, and that each is acknowledged; which rows and bytes it shows; why it is refused; and what it did that wasn't refused, with what it says of the bytes that
-- it stored. A line stands in a history: `old` is what its actor has before it, `new` what it has behind it, and each number that it speaks of lies between those that are reached there, so that it is no less than the number of any
-- transaction that the actor made before the line. Other actors may make transactions between any two of its steps.
use Rattle.std.specs.Prelude.{◌≡◌, ◌⊎◌, ℕ, List, [], ◌++◌, length, Option, None, Some, Result, Ok, Err}
use Rattle.std.specs.List.{AllByRecursion}
use Rattle.kinds.specs.declared.refusal.Refusal.{Refusal}
use Rattle.kinds.specs.declared.refusal.Refusal.TheVariants.{UnknownWord}
use Rattle.entries.specs.declared.change.Change.{Change}
use Rattle.inventory_answers.specs.Answered.{answered}
use Rattle.inventory_answers.specs.declared.reply.Answer as rows
use Rattle.admin_words.specs.declared.command.Command.{Command}
use Rattle.admin_commands.specs.declared.work.Work.{Work}
use Rattle.admin_commands.specs.declared.work.Work.TheVariants.{Commit, Show, Run}
use Rattle.reports.specs.declared.shown.Shown.TheVariants.{Done, Stored}
use Rattle.script_loop.specs.Reply.{Answer}
use Rattle.line_results.specs.sessions.BackedUp.{IsPut}
use Rattle.line_results.specs.sessions.Getting.{IsActiveVersion}
use Rattle.line_results.specs.sessions.declared.getting.FileRead.{FileRead}
use Rattle.line_results.specs.copy_runs.Ends.{first_of}
use Rattle.line_results.specs.db_backup.Rows.{FollowsAt, IsBackedUp}
use Rattle.line_results.specs.db_backup.declared.taking.Taken.{Taken}
use Rattle.steps.specs.Events.{Event}
use Rattle.steps.specs.Receipts.{made, receipts}
use Rattle.line_results.specs.incrementals.Orders.{AreQuestions}
use Rattle.machine.specs.Changes.{filled}
use Rattle.machine.specs.Fits.{Fits, History, Own as Holding, inv}
use Rattle.line_results.specs.command_steps.Answers.{answer_of, nothing, refusal}
use Rattle.line_results.specs.command_steps.Behind.{Behind, behind}
use Rattle.line_results.specs.command_steps.Clients.{Client, IsKept, Known, Turns}
use Rattle.line_results.specs.command_steps.Doing as steps
use Rattle.line_results.specs.command_steps.Doing.{EndsWork}
use Rattle.line_results.specs.command_steps.Jobs.{refused_for}
use Rattle.line_results.specs.command_steps.Leaving.{ChangesOnly, tree_named}
use Rattle.line_results.specs.command_steps.Lines.{Line, asks, comment, refused}
use Rattle.line_results.specs.command_steps.Owns.{OnTree, Own, back_up, back_up_database, back_up_since, checkpoint, file_put, get, last_of, none_yet, on_tree, own_of, put, restore, row_put, validate}
use Rattle.line_results.specs.command_steps.Trees.{DoesThere}
use Rattle.line_results.specs.command_steps.declared.outcome.Outcome.{Outcome}
use Rattle.line_results.specs.command_steps.declared.outcome.Outcome.TheVariants.{Read, Rows, Said}
use Rattle.line_results.specs.Commands.{IsReuse, MayMake, validated}
use Rattle.block_results.specs.Standing.{At, IsEntered, IsRefusedAt, WorkAt}
use Rattle.block_results.specs.Works.{HasGiven, HasSent, IsImagedAt, IsMadeAt, IsNamedAt, IsOfFile, IsOfTree, IsUnputAt, IsUnreadAt}

-- ---- journal: which transactions a line may make

-- work on a tree makes the transactions of a backup, or none
abbrev pub OrderedOn : History → (since until : ℕ) → Client → OnTree → Change → Type 0
OrderedOn w since until k (back_up i) c = IsOfTree w since until k i c
OrderedOn w since until k work c = ⊥

abbrev pub OrderedOwn : History → (since until : ℕ) → Client → (numbers : List ℕ) → Own → Change → Type 0
OrderedOwn w since until k numbers (put file) c = IsOfFile file c
OrderedOwn w since until k numbers (on_tree work) c = OrderedOn w since until k work c
OrderedOwn w since until k numbers own c = MayMake numbers own c

-- A change makes the one transaction that it names, with the numbers of files and filespaces that are drawn where it is made, and a query none. `n` is the number behind which it is made.
abbrev pub OrderedBy : History → (since until : ℕ) → Client → Own → Result Work Refusal → (n : ℕ) → Change → Type 0
OrderedBy w since until k own (Err why) n c = ⊥
OrderedBy w since until k own (Ok (Commit what)) n c = (next_file : ℕ) × (c ≡ filled next_file (inv w n) what)
OrderedBy w since until k own (Ok (Show query)) n c = ⊥
OrderedBy w since until k own (Ok (Run numbers)) n c = OrderedOwn w since until k numbers own c

-- which transactions a command may make whose work is this: those of the work, and behind some commands the reuse of volumes
abbrev pub orders : History → (since until : ℕ) → Client → Command → Result Work Refusal → (n : ℕ) → Change → Type 0
orders w since until k c work n made = OrderedBy w since until k (own_of c) work n made ⊎ IsReuse (behind c) made

-- ---- queries and bytes: what is shown

abbrev pub ShowsOn : History → (since until : ℕ) → Client → OnTree → Outcome → Type 0
ShowsOn w since until k (restore r) it = (before : Known) × (after : Known) × Turns r.tree before after k × HasGiven w since until r before after it
ShowsOn w since until k work it = Unit {0}

-- A GET shows the active version of its path at one of the numbers, with the bytes of its object; and a restore answers of each version that was wanted at one of the numbers, of which those that were restored stand in the tree.
abbrev pub ShowsOwn : History → (since until : ℕ) → Client → Own → Outcome → Type 0
ShowsOwn w since until k (get g) it = (file : FileRead) × (it ≡ Read file) × IsActiveVersion w since until g.node g.filespace g.path file
ShowsOwn w since until k (on_tree work) it = ShowsOn w since until k work it
ShowsOwn w since until k own it = Unit {0}

-- a query shows the rows over the database of one of the numbers
abbrev pub ShowsBy : History → (since until : ℕ) → Client → Own → Result Work Refusal → Outcome → Type 0
ShowsBy w since until k own (Err why) it = ⊥
ShowsBy w since until k own (Ok (Commit what)) it = Unit {0}
ShowsBy w since until k own (Ok (Show query)) it = (answer : rows.Answer) × (it ≡ Rows answer) × At since until (λ n. answered query (inv w n) ≡ Ok answer)
ShowsBy w since until k own (Ok (Run numbers)) it = ShowsOwn w since until k own it

-- ---- causes: why a command is refused

-- Work on a tree is refused as what was done there says (`DoesThere` of command_steps): since there is no such tree, a call on it failed, or one of the steps was refused so.
abbrev pub CauseOn : Client → OnTree → List Event → Refusal → Type 0
CauseOn k work events why = DoesThere k work events (Err why)

-- A process is refused as its own contract says (`DoesAlone` of command_steps): for a cause that it names in every history that its steps fit, or since one of them was refused so.
abbrev pub CauseOwn : History → (actor since until : ℕ) → Client → (numbers : List ℕ) → Own → List Event → Refusal → Type 0
CauseOwn w actor since until k numbers (validate set) events why = At since until (λ n. validated set (inv w n) ≡ Err why)
CauseOwn w actor since until k numbers (put p) events why = IsUnputAt w actor since until k.choice p events why
CauseOwn w actor since until k numbers (get g) events why = IsUnreadAt w actor since until g events why
CauseOwn w actor since until k numbers (on_tree work) events why = CauseOn k work events why
CauseOwn w actor since until k numbers checkpoint events why = IsRefusedAt w actor since until events why
CauseOwn w actor since until k numbers none_yet events why = why ≡ UnknownWord 1
CauseOwn w actor since until k numbers own events why = steps.DoesAlone k.choice own numbers events (Err why)

-- a look-up or the command's own words refuse it; the database of one of the numbers refuses its change, or its query
abbrev pub CauseBy : History → (actor since until : ℕ) → Client → Own → Result Work Refusal → List Event → Refusal → Type 0
CauseBy w actor since until k own (Err given) events why = why ≡ given
CauseBy w actor since until k own (Ok (Commit what)) events why = IsRefusedAt w actor since until events why
CauseBy w actor since until k own (Ok (Show query)) events why = At since until (λ n. answered query (inv w n) ≡ Err why)
CauseBy w actor since until k own (Ok (Run numbers)) events why = CauseOwn w actor since until k numbers own events why

-- ---- done: what a command did that was answered OK

-- a file was written or erased, the plan of a backup was carried out, or what was wanted was restored
abbrev pub DidOn : History → (since until : ℕ) → Client → OnTree → List Event → Outcome → Type 0
DidOn w since until k (back_up i) events it = (before : Known) × (after : Known) × Turns i.tree before after k × HasSent w since until k.choice i before after events it
DidOn w since until k work events it = DoesThere k work events (Ok it)

-- A database backup has the transactions of its beginning and its end in the history, both the actor's; one that follows another follows the whole one that had the greatest number where its first step was made.
abbrev pub DidOwn : History → (actor since until : ℕ) → Client → (numbers : List ℕ) → Own → List Event → Outcome → Type 0
DidOwn w actor since until k numbers (validate set) events it = (it ≡ Said Done) × At since until (λ n. validated set (inv w n) ≡ Ok tt)
DidOwn w actor since until k numbers (put p) events it =
    IsPut w actor p.node k.choice (Some (file_put p)) (row_put p) events × (object : ℕ) × (it ≡ Said (Stored object)) × IsNamedAt w since until p object
DidOwn w actor since until k numbers (get g) events it = Unit {0}
DidOwn w actor since until k numbers (on_tree work) events it = DidOn w since until k work events it
DidOwn w actor since until k numbers checkpoint events it = (it ≡ Said Done) × IsImagedAt since until events
DidOwn w actor since until k numbers none_yet events it = ⊥
DidOwn w actor since until k numbers back_up_database events it = steps.DoesAlone k.choice back_up_database numbers events (Ok it) × ((t : Taken) × (it ≡ steps.backed_up t) × IsBackedUp w actor None t)
DidOwn w actor since until k numbers back_up_since events it = steps.DoesAlone k.choice back_up_since numbers events (Ok it) × ((t : Taken) × (it ≡ steps.backed_up t) × FollowsAt w actor (first_of events) t)
DidOwn w actor since until k numbers own events it = steps.DoesAlone k.choice own numbers events (Ok it)

abbrev pub DidBy : History → (actor since until : ℕ) → Client → Own → Result Work Refusal → List Event → Outcome → Type 0
DidBy w actor since until k own (Err given) events it = ⊥
DidBy w actor since until k own (Ok (Commit what)) events it = (it ≡ Said (last_of what)) × IsMadeAt w actor since until what
DidBy w actor since until k own (Ok (Show query)) events it = Unit {0}
DidBy w actor since until k own (Ok (Run numbers)) events it = DidOwn w actor since until k numbers own events it

-- ---- a command

-- what comes behind a command's work, where it has any
abbrev pub EndsBy : Result Work Refusal → Behind → (came : Result Outcome Refusal) → List Event → Result Outcome Refusal → Type 0
EndsBy (Err why) b came events said = (events ≡ []) × (said ≡ came)
EndsBy (Ok work) b came events said = EndsWork b came events said

-- the answer to what was said of a command in line n
abbrev pub answer_by : (n : ℕ) → Result Outcome Refusal → Answer
answer_by n (Ok it) = answer_of n it
answer_by n (Err why) = refusal n why

-- What holds of a command in line n that was answered so. First its look-ups were asked, by which its work is this; then its work was done, and came to this; and then what comes behind it, where something does.
pub record CommandHolds (w : History) (actor : ℕ) (k : Client) (n : ℕ) (c : Command) (old : Holding) (events : List Event) (answer : Answer) (new : Holding) : Type 0 where
  pub looks : List Event
  pub works : List Event
  pub follows : List Event
  pub parts : events ≡ looks ++ (works ++ follows)
  pub asked : Holding
  pub done : Holding
  pub looked : Fits w actor old looks asked
  pub worked : Fits w actor asked works done
  pub followed : Fits w actor done follows new
  pub work : Result Work Refusal
  pub found : WorkAt w old.reached asked.reached c work
  pub came : Result Outcome Refusal
  pub said : Result Outcome Refusal
  pub ends : EndsBy work (behind c) came follows said
  pub answered : answer ≡ answer_by n said
  pub journal : AllByRecursion (IsEntered w actor (orders w asked.reached new.reached k c work)) (made events)
  pub acknowledged : receipts events ≡ made events
  pub shows : (it : Outcome) → came ≡ Ok it → ShowsBy w asked.reached done.reached k (own_of c) work it
  pub causes : (why : Refusal) → came ≡ Err why → CauseBy w actor asked.reached done.reached k (own_of c) work works why
  pub did : (it : Outcome) → came ≡ Ok it → DidBy w actor asked.reached done.reached k (own_of c) work works it

-- What holds of a command whose tree an earlier job of the block has: it is refused, by a look-up or by its own words where these refuse it, and else since it can't have the tree with this number; and it does nothing but ask.
pub record IsWithheld (w : History) (actor : ℕ) (k : Client) (number n : ℕ) (c : Command) (old : Holding) (events : List Event) (answer : Answer) (new : Holding) : Type 0 where
  pub kept : IsKept k
  pub work : Result Work Refusal
  pub found : WorkAt w old.reached new.reached c work
  pub answered : answer ≡ refusal n (refused_for (length k.old) number work)
  pub none : AreQuestions events

-- ---- a line

abbrev pub AsksHold : Option ℕ → History → (actor : ℕ) → Client → (n : ℕ) → Command → Holding → List Event → Answer → Holding → Type 0
AsksHold (Some number) w actor k n c old events answer new = IsWithheld w actor k number n c old events answer new
AsksHold None w actor k n c old events answer new = CommandHolds w actor k n c old events answer new

-- what holds of a line; a comment and a line that is refused as it stands make no step and leave the trees as they are
abbrev pub LineHolds : Option ℕ → History → (actor : ℕ) → Client → (n : ℕ) → Line → Holding → List Event → Answer → Holding → Type 0
LineHolds in_use w actor k n comment old events answer new = IsKept k × (events ≡ []) × (new ≡ old) × (answer ≡ nothing)
LineHolds in_use w actor k n (refused why) old events answer new = IsKept k × (events ≡ []) × (new ≡ old) × (answer ≡ refusal n why)
LineHolds in_use w actor k n (asks c) old events answer new = AsksHold in_use w actor k n c old events answer new

-- Where a tree is given, the line names it and an earlier job of the block has it. No tree changed but the one that the line names. Behind the line the actor has no ticket.
pub record Holds (w : History) (actor : ℕ) (k : Client) (in_use : Option ℕ) (n : ℕ) (line : Line) (old : Holding) (events : List Event) (answer : Answer) (new : Holding) : Type 0 where
  pub clauses : LineHolds in_use w actor k n line old events answer new
  pub trees : ChangesOnly (tree_named line) k
  pub tickets : new.tickets ≡ []
