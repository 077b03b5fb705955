-- What the top call answers, puts and leaves.
use Rattle.std.specs.Prelude.{◌≡◌, ◌⊎◌, ℕ, ◌-◌, ◌^◌, ◌<◌, ◌≤◌, Bool, true, false, is_some, Option, None, Some, IfSome, Result, IfErr, List, [], ◌∷◌, ◌++◌, map, reverse, codes, decimal, String, string_bytes}
use Rattle.std.specs.Io.KnownBytes.{Appends}
use Rattle.std.specs.declared.alloc.Global.{Global}
use Rattle.store_api.specs.Disk.{History, ImageAt, now, reads}
use Rattle.store_api.specs.Runs.{EachImage, GoesOn}
use Rattle.store_api.specs.Told.{Told}
use Rattle.store_api.specs.Cause.{NoneFell}
use Rattle.store_api.specs.Cause as store
use Rattle.kinds.specs.declared.refusal.OpenRefused.{OpenRefused}
use Rattle.kinds.specs.declared.refusal.OpenRefused.TheVariants as refused
use Rattle.entries.specs.declared.entry.Entry.{Entry}
use Rattle.inventory.specs.Meant.{meaning}
use Rattle.inventory_rows.specs.Fresh.{fresh}
use Rattle.inventory_rows.specs.State.{Inv}
use Rattle.inventory_rules.specs.Valid.{is_valid}
use Rattle.vault.specs.log_file.Cursor.{Looked}
use Rattle.script_loop.specs.Ends.{told_number, status_of, DoneAtEnd}
use Rattle.script_loop.specs.Runs.{Says, IsFront}
use Rattle.script_loop.specs.declared.ends.End.{End}
use Rattle.vault.specs.Openings.{Spared, OpenedAs, is_formatted, SaysWhy}
use Rattle.vault.specs.Recovery.{Recovers, IsBase}
use Rattle.hall.specs.Good.{AlwaysSafe, Is, Rise}
use Rattle.hall.specs.Held.{Hall}
use Rattle.hall.specs.Opening.{IsSound}
use Rattle.hall.specs.Protected.{AlwaysBacked, HadBackups, HoldTheirDatabases}
use Rattle.hall.specs.Steps.{IsTrusted}
use Rattle.hall_turns.specs.Left.{LeavesSound}
use Rattle.hall_turns.specs.Runs.{HasOwnBackups, IsBacked}
use Rattle.block_results.specs.command_steps.Clients.{Client}
use Rattle.block_results.specs.line_results.Resting.{IsAtRest, Onward}
use Rattle.machine.specs.State.{Machine}
use Rattle.blocks.specs.Shapes.{Gathered}
use Rattle.db_restore.specs.Chained.{MayNotRestore}
use Rattle.db_restore.specs.declared.done.RestoreDone.{RestoreDone}
use Rattle.db_restore.specs.declared.refused.NotRestored.{NotRestored}
use Rattle.recoveries.specs.Telling.{told_lines, told_status}
use Rattle.program_words.specs.Words.{wanted}
use Rattle.tsm_top.specs.declared.note.Note.{Note}
use Rattle.tsm_top.specs.declared.top.NotMade.{NotMade}
use Rattle.tsm_top.specs.declared.top.NotMade.TheVariants.{Exists, Refused}
use Rattle.tsm_top.specs.Restored.{IsRestored}
use Rattle.tsm_top.specs.Sites.{IsThere, site}
use Rattle.tsm_top.specs.Stands.{AnswersAt, EndsAt, standing}

-- What the words ask: a new database, a script over the one that is there or over a new one, or that the one which the backup in a file gives is restored on a day, without what lies in the files that are skipped.
pub data Command : Type 0 where
  format : Command
  run : Command
  fresh_run : Command
  restore : (file day : ℕ) → (skipped : List ℕ) → Command

-- the words are this one
abbrev pub IsOnly : List ℕ → List (String Global) → Type 0
IsOnly name words = map string_bytes words ≡ name ∷ []

-- the words ask this
abbrev pub Asks : List (String Global) → Command → Type 0
Asks words format = IsOnly (codes "format") words
Asks words run = IsOnly (codes "run") words
Asks words fresh_run = IsOnly (codes "fresh") words
Asks words (restore file day skipped) = wanted (map string_bytes words) ≡ Some (file, day, skipped)

-- the words ask that a database is restored
abbrev pub AskToRestore : List (String Global) → Type 0
AskToRestore words = (file : ℕ) × (day : ℕ) × (skipped : List ℕ) × Asks words (restore file day skipped)

-- How a call ended that ran no script: the words are no command; a database was made; there is one already; opening was refused; this came of restoring the database that the backup in a file gives; the
-- same, where memory was wanted for the lines that tell it; or memory was wanted to read the words.
pub data Closing : Type 0 where
  no_command : Closing
  formatted : Closing
  exists : Closing
  refused_opening : (why : OpenRefused) → Closing
  restored : (file : ℕ) → (came : Result RestoreDone NotRestored) → Closing
  untold : (file : ℕ) → (came : Result RestoreDone NotRestored) → Closing
  unread : Closing

-- the exit status
abbrev pub closing_status : Closing → ℕ
closing_status no_command = 2
closing_status formatted = 0
closing_status exists = 1
closing_status (refused_opening (refused.ReadFault file)) = 5
closing_status (refused_opening (refused.Damaged file at)) = 7
closing_status (refused_opening refused.NotFormatted) = 7
closing_status (refused_opening refused.RunFull) = 9
closing_status (refused_opening refused.Memory) = 8
closing_status (restored file came) = told_status came
closing_status (untold file came) = 8
closing_status unread = 8

-- The one line that is put; of a database that was restored, also a line for each object that was lost.
abbrev pub closing_line : Closing → List ℕ
closing_line no_command = codes "USAGE format | run | fresh | restoredb FILE DAY [FILES] | load N\n"
closing_line formatted = codes "FORMATTED\n"
closing_line exists = codes "REFUSED 11 Exists\n"
closing_line (refused_opening (refused.ReadFault file)) = told_number (codes "STORE FAULT ") file
closing_line (refused_opening (refused.Damaged file at)) = told_number (codes "DAMAGED " ++ (decimal file ++ codes " ")) at
closing_line (refused_opening refused.NotFormatted) = codes "NOT FORMATTED\n"
closing_line (refused_opening refused.RunFull) = codes "RUN FULL\n"
closing_line (refused_opening refused.Memory) = codes "MEMORY\n"
closing_line (restored file came) = told_lines file came
closing_line (untold file came) = codes "MEMORY\n"
closing_line unread = codes "MEMORY\n"

-- The one line was put; or, where the sink's count rose, a front of it, and the status is 4.
abbrev pub PutsLine : List ℕ → ℕ → ℕ → Option (List ℕ) → Option (List ℕ) → Type 0 → Type 0
PutsLine line own status before after rose =
    ((status ≡ own) × Appends before after line)
    ⊎ ((status ≡ 4) × rose × (put : List ℕ) × IsFront put line × Appends before after put)

-- the file's count of faults rose between these counts
abbrev pub RoseBetween : (ℕ → ℕ) → (ℕ → ℕ) → ℕ → Type 0
RoseBetween before after file = store.Rose (before file) (after file)

-- what the store's files recover to is no database, and this says why; told of what they are at the start, where the store tells it
abbrev pub IsNone : Option History → OpenRefused → Type 0
IsNone told why = IfSome told (λ h. SaysWhy meaning (reads h) why)

-- Why a database isn't made or opened: that file's count of faults rose; the files, as they are at the start, or, where a database was just put into
-- them, never over a store that tells its bytes; the moment came near the last one; or want of memory.
abbrev pub OpensNot : Command → (told : Option History) → (last : ℕ) → (rose : ℕ → Type 0) → OpenRefused → Type 0
OpensNot command told last rose (refused.ReadFault file) = (file < 4) × rose file
OpensNot format told last rose (refused.Damaged file at) = ⊥
OpensNot run told last rose (refused.Damaged file at) = (file < 4) × IsNone told (refused.Damaged file at)
OpensNot fresh_run told last rose (refused.Damaged file at) = (file < 4) × (is_some told ≡ false)
OpensNot (restore backup day skipped) told last rose (refused.Damaged file at) = ⊥
OpensNot format told last rose refused.NotFormatted = ⊥
OpensNot run told last rose refused.NotFormatted = IsNone told refused.NotFormatted
OpensNot fresh_run told last rose refused.NotFormatted = is_some told ≡ false
OpensNot (restore backup day skipped) told last rose refused.NotFormatted = ⊥
OpensNot command told last rose refused.RunFull = 2 ^ 62 - 2 ^ 24 ≤ last
OpensNot command told last rose refused.Memory = Unit {0}

-- of a store that tells its bytes: whether one of its images has an open gate
abbrev pub HasImage : Bool → Option History → Type 0
HasImage is told = IfSome told (λ h. is_formatted (reads h) ≡ is)

-- each image of now is a new server's database, as generation 0 with an empty log
abbrev pub IsNew : Option History → Type 0
IsNew told = IfSome told (λ h. EachImage (now h) h (IsBase meaning 0 fresh))

-- a store that told its bytes tells them still, and no other does
abbrev pub StillTells : (told left : Option History) → Type 0
StillTells told left = is_some left ≡ is_some told

-- What opening takes of a store: nothing of its files, as `Spared` says, and no database backup. Of a sound store each image of which backs, at the start, the database to which it recovers, each image of each moment since does so, too.
pub record SparesAll (old new : History) : Type 0 where
  pub files : Spared meaning old new
  pub backups : (contents : ℕ → List ℕ) → IsSound contents old → IsBacked old → AlwaysBacked (now old) new

-- What opening took from the files: nothing. Where they were opened, only the vault's were written. Where the database isn't in the first form, nothing that is
-- read changed, and each image since is one that a stop might have left at the start. Of a sound store, also of one in the first form, which is written anew in the
-- second, each image since recovers to a database to which one recovers that a stop might have left at the start; and no stop takes a database backup meanwhile (`SparesAll`). Where a database was to be made, the files were
-- only looked at, or no image had an open gate.
abbrev pub Spares : Command → (told left : Option History) → Type 0
Spares format told left = Told told left Looked ⊎ (HasImage false told × StillTells told left)
Spares run told left = Told told left SparesAll
Spares fresh_run told left = Told told left Looked ⊎ (HasImage false told × StillTells told left)
Spares (restore file day skipped) told left = ⊥

-- What the store is when a script begins: of a database that was opened, what opening left of it, as `Spares` says; of a new one, a store each of whose images of
-- then is that database, where no image had an open gate.
abbrev pub Opens : Command → (told left : Option History) → Type 0
Opens format told left = ⊥
Opens run told left = Told told left SparesAll
Opens fresh_run told left = HasImage false told × StillTells told left × IsNew left
Opens (restore file day skipped) told left = ⊥

-- The cause of it, where what is asked is one of these commands, and what it left of the files. `before` and `after` are the counts of faults.
abbrev pub HasCause : (asked : Command → Type 0) → Closing → (told left : Option History) → (last : ℕ) → (before after : ℕ → ℕ) → Type 0
HasCause asked no_command told left last before after = ((command : Command) → asked command → ⊥) × (left ≡ told)
HasCause asked formatted told left last before after = asked format × HasImage false told × StillTells told left × IsNew left
HasCause asked exists told left last before after = (asked format ⊎ asked fresh_run) × HasImage true told × Told told left Looked
HasCause asked (refused_opening why) told left last before after = (command : Command) × asked command × OpensNot command told last (RoseBetween before after) why × Spares command told left
HasCause asked (restored file came) told left last before after = (day : ℕ) × (skipped : List ℕ) × asked (restore file day skipped) × Told told left (IsRestored file day skipped came) × IfErr came (MayNotRestore day before after last)
HasCause asked (untold file came) told left last before after = (day : ℕ) × (skipped : List ℕ) × asked (restore file day skipped) × Told told left (IsRestored file day skipped came)
HasCause asked unread told left last before after = left ≡ told

-- The cause of it, as the words say.
abbrev pub HasCauseOf : Closing → List (String Global) → (told left : Option History) → (last : ℕ) → (before after : ℕ → ℕ) → Type 0
HasCauseOf why words told left last before after = HasCause (Asks words) why told left last before after

-- No script was run: the line was put, or the lines, nothing is in the journal or noted, and no database and no image is told of. `opened` and `last` are both the moment at the return.
pub record Shuts (why : Closing) (before after : Option (List ℕ)) (sink_rose : Type 0) (status : ℕ) (journal : List Entry) (stamps : List ℕ) (notes : List Note) (base : Option Inv) (generation opened last : ℕ) : Type 0 where
  pub line : PutsLine (closing_line why) (closing_status why) status before after sink_rose
  pub journal_is : journal ≡ []
  pub stamps_are : stamps ≡ []
  pub notes_are : notes ≡ []
  pub base_is : base ≡ None
  pub generation_is : generation ≡ 0
  pub opened_is : opened ≡ last

-- the refusal names a file of the vault
abbrev pub IsOurFile : OpenRefused → Type 0
IsOurFile (refused.Damaged file at) = file < 4
IsOurFile (refused.ReadFault file) = Unit {0}
IsOurFile refused.NotFormatted = Unit {0}
IsOurFile refused.RunFull = Unit {0}
IsOurFile refused.Memory = Unit {0}

-- how a call ends that couldn't make a database
abbrev pub closing_of : NotMade → Closing
closing_of Exists = exists
closing_of (Refused why) = refused_opening why

abbrev pub IsOurClosing : NotMade → Type 0
IsOurClosing Exists = Unit {0}
IsOurClosing (Refused why) = IsOurFile why

-- why no database was made
abbrev pub MakesNot : (told left : Option History) → (last : ℕ) → (rose : ℕ → Type 0) → NotMade → Type 0
MakesNot told left last rose Exists = HasImage true told × Told told left Looked
MakesNot told left last rose (Refused why) = OpensNot format told last rose why × Spares format told left

-- What a script runs over: `run`, over what the files recover to at the start; `fresh`, over a new server's database, where no image had an open gate.
abbrev pub RunsOver : Command → (told : Option History) → (base : Inv) → Type 0
RunsOver format told base = ⊥
RunsOver run told base = IfSome told (λ h. Recovers meaning (reads h) base)
RunsOver fresh_run told base = HasImage false told × IfSome told (λ h. base ≡ fresh)
RunsOver (restore file day skipped) told base = ⊥

-- The generation of the newest image when a script begins, as which the database is opened: that of the image that was the newest or, where that is in the first
-- form, the next one; of a new database, over a store that tells its bytes, it is 0.
abbrev pub StartsAt : Command → (told : Option History) → ℕ → Type 0
StartsAt format told start = ⊥
StartsAt run told start = IfSome told (λ h. (d : Inv) × OpenedAs meaning (reads h) d start)
StartsAt fresh_run told start = IfSome told (λ h. start ≡ 0)
StartsAt (restore file day skipped) told start = ⊥

-- what is known at the start: of a store that is run, that it is sound, its objects having these bytes; of a new database that the store tells its bytes
abbrev pub Sure : Command → (contents : ℕ → List ℕ) → (told : Option History) → Type 0
Sure format contents told = ⊥
Sure run contents None = ⊥
Sure run contents (Some h) = IsSound contents h
Sure fresh_run contents told = is_some told ≡ true
Sure (restore file day skipped) contents told = ⊥

-- what the store has of database backups at the start: where a database is run, those that this one lists as whole and that are protected on its day (`HasOwnBackups`); a new database lists none, so nothing is asked of its store
abbrev pub Had : Command → (told : Option History) → Type 0
Had format told = ⊥
Had run told = IfSome told HasOwnBackups
Had fresh_run told = Unit {0}
Had (restore file day skipped) told = ⊥

-- What no stop takes of database backups: at every moment since the opening each image that a stop may leave backs the database to which it recovers, so that it gives back each backup that this one lists as whole
-- and that is protected on its day, with every copy that the backup placed on sequential volumes; each image that a stop may leave at the end holds in the file of each whole backup that its database lists, and that
-- began in this run, the run's database behind the transaction by which it began, and no later one; and the store that is left has the backups of the database to which it recovers, so that a run over it keeps them, too.
pub record KeepsBacked (base : Inv) (journal : List Entry) (opened : ℕ) (h : History) : Type 0 where
  pub always : AlwaysBacked opened h
  pub hold : (image : ℕ → List ℕ) → ImageAt h (now h) image → (v : Inv) → Recovers meaning image v → HoldTheirDatabases image base journal v
  pub left : HasOwnBackups h

-- Where a sound store is run that has the backups of its database, and each image that a stop might have left at the start backs the database to which it recovers, so does each image of each moment from then on, those within opening included.
abbrev pub Throughout : Command → (told left : Option History) → Type 0
Throughout format told left = Unit {0}
Throughout run told left = (contents : ℕ → List ℕ) → Sure run contents told → Had run told → Told told left (λ old new. IsBacked old → AlwaysBacked (now old) new)
Throughout fresh_run told left = Unit {0}
Throughout (restore file day skipped) told left = Unit {0}

-- How a run begins: with the database that was opened, which is valid, no transaction, no ticket and no image; the numbers that are drawn next are that database's, and the first ticket's is 1.
pub record Begins (base : Inv) (opened : ℕ) (counts : ℕ → ℕ) (m : Machine) : Type 0 where
  pub database : m.core.base ≡ base
  pub valid : is_valid base ≡ true
  pub journal : m.core.journal ≡ []
  pub stamps : m.core.stamps ≡ []
  pub rests : IsAtRest m.core
  pub next_file : m.core.next_file ≡ base.next_file
  pub next_object : m.core.next_object ≡ base.next_object
  pub next_ticket : m.core.next_ticket ≡ 1
  pub clock : m.moment ≡ opened
  pub faults : m.counts ≡ counts

-- A script ran from this state of the machine on, over the clients' trees, which were `k.old` and are `k.new`. `trusted` says that the store was sound when it was opened. The lines' answers were put; the journal and the stamps are the machine's at the end; and where
-- the store is trusted each image of each moment since the opening is safe: it recovers to the database behind a transaction that is at least the last with a stamp by then, and holds every copy of
-- every object of it, with the object's bytes. And what is left is a sound store with every transaction that has a stamp.
pub record Ran (trusted : Type 0) (k : Client) (base : Inv) (left_told : Option History) (before after : ℕ → ℕ) (opened last : ℕ) (end : End) (journal : List Entry) (stamps : List ℕ) (notes : List Note) (generation : ℕ) (script was is : Option (List ℕ)) (first : Machine) : Type 0 where
  pub begins : Begins base opened before first
  pub there : trusted → IsThere left_told first
  pub final : Machine
  pub left_open : Option Gathered
  pub jobs : ℕ
  pub says : Says (AnswersAt trusted k.choice left_told) (EndsAt trusted k.choice left_told) (standing (site first k.old [])) (record { site = site final k.new notes; block = left_open; jobs = jobs }) script was is end
  pub onward : Onward first final
  pub base_stays : final.core.base ≡ base
  pub journal_is : journal ≡ final.core.journal
  pub stamps_are : stamps ≡ final.core.stamps
  pub generation_is : generation ≡ final.core.generation
  pub clock : final.moment ≡ last
  pub faults : final.counts ≡ after
  pub images : trusted → IfSome left_told (AlwaysSafe final.contents final.core opened)
  pub left : trusted → IfSome left_told (LeavesSound final)

-- A script was run over a database and the clients' trees. `told` is what the store told at the start, and `left_told` what it tells at the return; `opened` and `last` are the moments, and `before` and `after` the counts of faults, at the
-- end of opening and at the return. Over a store of which nothing is known the run is one of the machine in which bytes that are read are whatever was read; over a sound one they are the objects'.
pub record RanScript (command : Command) (k : Client) (told left_told : Option History) (before after : ℕ → ℕ) (opened last : ℕ) (end : End) (status : ℕ) (journal : List Entry) (stamps : List ℕ) (notes : List Note) (base : Option Inv) (generation : ℕ) (script left was is : Option (List ℕ)) : Type 0 where
  pub code : status ≡ status_of end
  pub database : Inv
  pub base_is : base ≡ Some database
  pub over : RunsOver command told database
  pub rest : DoneAtEnd end left
  pub rise : Rise opened last stamps
  pub start : ℕ
  pub starts : StartsAt command told start
  pub whole : (first : Machine) × (first.core.generation ≡ start) × Ran ⊥ k database left_told before after opened last end journal stamps notes generation script was is first
  pub sound : (contents : ℕ → List ℕ) → Sure command contents told
      → (first : Machine) × (first.contents ≡ contents) × (first.core.generation ≡ start) × Ran (Unit {0}) k database left_told before after opened last end journal stamps notes generation script was is first
  pub backups : (contents : ℕ → List ℕ) → Sure command contents told → Had command told → IfSome left_told (KeepsBacked database journal opened)

-- At every moment since the opening each image is safe, and what is left is a sound store; and where the store had the backups of the database that is run, so does each image of its own database's, at every moment since the start of the call
-- where each image then did.
pub record RanSafe (command : Command) (told left_told : Option History) (opened : ℕ) (journal : List Entry) (stamps : List ℕ) (base : Option Inv) : Type 0 where
  pub database : Inv
  pub base_is : base ≡ Some database
  pub safe : (contents : ℕ → List ℕ) → Sure command contents told
      → (final : Machine) × (final.core.base ≡ database) × (final.core.journal ≡ journal) × (final.core.stamps ≡ stamps) × IfSome left_told (AlwaysSafe final.contents final.core opened) × IfSome left_told (LeavesSound final)
  pub backups : (contents : ℕ → List ℕ) → Sure command contents told → Had command told → IfSome left_told (KeepsBacked database journal opened)
  pub throughout : Throughout command told left_told

-- The store counted on: its moment and its counts of faults didn't fall.
pub record Later {S : Type 0} (moment : S → ℕ) (faults : S → ℕ → ℕ) (old new : S) : Type 0 where
  pub counts : NoneFell (faults old) (faults new)
  pub time : moment old ≤ moment new

-- nothing was opened; or a script was run, and of each image that a stop may leave this holds
abbrev pub Images : {S : Type 0} → (asked : Command → Type 0) → (told : S → Option History) → (store left : S) → (opened : ℕ) → (journal : List Entry) → (stamps : List ℕ) → (base : Option Inv) → Type 0
Images asked told store left opened journal stamps base = (base ≡ None) ⊎ ((command : Command) × asked command × RanSafe command (told store) (told left) opened journal stamps base)

-- A script was run on a hall that was just opened and over the clients' trees, and left this store. In whatever state of the machine the hall was, the run went on from there.
pub record RanFrom {S : Type 0} (told : S → Option History) (moment : S → ℕ) (faults : S → ℕ → ℕ) (hall : Hall S) (k : Client) (left_store : S) (end : End) (status : ℕ) (journal : List Entry) (stamps : List ℕ) (notes : List Note) (generation : ℕ) (script left was is : Option (List ℕ)) : Type 0 where
  pub code : status ≡ status_of end
  pub rest : DoneAtEnd end left
  pub rise : Rise (moment hall.store) (moment left_store) stamps
  pub later : Later moment faults hall.store left_store
  pub goes : Told (told hall.store) (told left_store) (GoesOn (λ file. Unit {0}))
  pub whole : (m : Machine) → Is told moment faults hall m
      → Ran ⊥ k hall.held.base (told left_store) (faults hall.store) (faults left_store) (moment hall.store) (moment left_store) end journal stamps notes generation script was is m
  pub sound : (m : Machine) → Is told moment faults hall m → IsTrusted (told hall.store) hall.held
      → Ran (Unit {0}) k hall.held.base (told left_store) (faults hall.store) (faults left_store) (moment hall.store) (moment left_store) end journal stamps notes generation script was is m
  pub backups : (m : Machine) → Is told moment faults hall m → IsTrusted (told hall.store) hall.held → IfSome (told hall.store) (λ h. HadBackups hall.held.base (now h) h) → IfSome (told left_store) (KeepsBacked hall.held.base journal (moment hall.store))
