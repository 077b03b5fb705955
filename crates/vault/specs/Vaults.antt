-- The vault as a value, what no stop takes away from it, and what its calls do.
use Rattle.std.specs.Prelude.{◌≡◌, ◌⊎◌, ℕ, ◌+◌, ◌<◌, ◌≤◌, ◌^◌, List, [], ◌∷◌, ◌++◌, length, map, drop, reverse, Option, None, Some, Result, OnOk, IfOk}
use Rattle.std.specs.List.{AllByRecursion}
use Rattle.store_api.specs.Cause.{Rose}
use Rattle.store_api.specs.Disk.{History, now}
use Rattle.store_api.specs.Runs.{GoesOn, EachImage, LeftNow}
use Rattle.log_file.specs.Blocks.{blocks, LogEnds, IsClosed}
use Rattle.log_file.specs.Sure.{IsSure, HasWaiting}
use Rattle.log_file.specs.Sure as log
use Rattle.kinds.specs.declared.refusal.Refusal.{Refusal}
use Rattle.kinds.specs.declared.refusal.Refusal.TheVariants.{LogFault, RecordFull, Memory}
use Rattle.entries.specs.declared.entry.Entry.{Entry}
use Rattle.fields.specs.Editions.{Edition, second_form}
use Rattle.entries.specs.EntryForm.{entry}
use Rattle.entries.specs.Meaning.{Meaning}
use Rattle.vault.specs.Files.{image_file, log_file, IsOurs}
use Rattle.vault.specs.Recovery.{Newest, records_in, records_of, after_all, AllLegalIn, AllLegal, RecoversWithin}
use Rattle.db_image.specs.declared.phase.Progress.{Progress}
use Rattle.db_image.specs.declared.phase.Progress.TheVariants.{More, Done}
use Rattle.db_image.specs.declared.phase.Phase.TheVariants.{Durable}
use Rattle.db_image.specs.Steps.{written_to}
use Rattle.vault.specs.Images.{IsImage, StaysOlder, IsPaced}
use Rattle.vault.specs.Journals.{IsShort}
use Rattle.vault.specs.Pieces.{Pending, AllCounted, AllOrderly, StandsAt, Nears, job_of}

-- The generation of the newest image; the database; the entries that were committed since the opening, oldest first, and how many of
-- them are forced; where the gate lies behind the records of the log that are forced, and where behind all of them; after a fault the file
-- and the count to which its faults had risen; and a checkpoint that was begun.
pub record State (D : Type 0) : Type 0 where
  pub generation : ℕ
  pub database : D
  pub journal : List Entry
  pub forced : ℕ
  pub sure : ℕ
  pub end : ℕ
  pub fault : Option (ℕ × ℕ)
  pub pending : Option Pending

-- No stop takes away the newest image, which is of this form, or anything of its log, and the other image is older.
pub record HoldsIn {D : Type 0} (form : Edition) (m : Meaning D) (generation : ℕ) (base : D) (entries : List Entry) (end : ℕ) (h : History) : Type 0 where
  pub image : IsImage h (image_file generation) generation (m.spelled form base)
  pub other : StaysOlder generation (image_file (generation + 1)) h
  pub log : IsSure h (log_file generation) (records_in form entries) end
  pub valid : m.Valid form base
  pub legal : AllLegalIn form m base entries

-- the same in the form that is written
abbrev pub Holds : {D : Type 0} → Meaning D → (generation : ℕ) → (base : D) → List Entry → (end : ℕ) → History → Type 0
Holds m generation base entries end h = HoldsIn second_form m generation base entries end h

-- What a vault keeps is in order: its log is that of its generation, and where no fault halted it no record of the log is in doubt; a checkpoint that was begun
-- is of the next generation, and its log is as long as the entries that were copied to it; and each entry of the journal has few enough bytes.
pub record IsWhole (generation : ℕ) (journal : List Entry) (log : log.State) (fault : Option (ℕ × ℕ)) (pending : Option Pending) : Type 0 where
  pub file : log.file ≡ log_file generation
  pub sure : fault ≡ None → log.doubt ≡ None
  pub short : AllByRecursion IsShort journal
  pub orderly : AllOrderly (generation + 1) pending
  pub counted : AllCounted journal pending

-- Whatever a stop leaves, it recovers to the vault's database by an image and a log of this form: nothing that was committed waits for a force.
pub record IsGoodIn {D : Type 0} (form : Edition) (m : Meaning D) (vault : State D) (h : History) : Type 0 where
  pub base : D
  pub entries : List Entry
  pub holds : HoldsIn form m vault.generation base entries vault.end h
  pub gives : vault.database ≡ after_all m base entries
  pub none : vault.sure ≡ vault.end
  pub all : vault.forced ≡ length vault.journal

-- the same in the form that is written
abbrev pub IsGood : {D : Type 0} → Meaning D → State D → History → Type 0
IsGood m vault h = IsGoodIn second_form m vault h

-- The files recover to the vault's database, by a newest image of its generation and a log that ends where the vault's does.
pub record RecoversAs {D : Type 0} (m : Meaning D) (vault : State D) (files : ℕ → List ℕ) : Type 0 where
  pub recovers : RecoversWithin m files vault.database
  pub by_image : recovers.generation ≡ vault.generation
  pub written : recovers.form ≡ second_form
  pub log : length (blocks (records_of recovers.entries)) ≡ vault.end

-- Whatever a stop leaves, it recovers to the database `durable`, which has all that was forced and nothing of what wasn't. The vault's
-- database is that one after the entries that wait for a force: those of the journal behind the first `forced`.
pub record IsHeld {D : Type 0} (m : Meaning D) (vault : State D) (durable : D) (h : History) : Type 0 where
  pub base : D
  pub entries : List Entry
  pub waiting : List Entry
  pub holds : Holds m vault.generation base entries vault.sure h
  pub gives : durable ≡ after_all m base entries
  pub log : HasWaiting h (log_file vault.generation) (records_of entries) (records_of waiting) vault.sure vault.end
  pub legal : AllLegal m durable waiting
  pub all : vault.database ≡ after_all m durable waiting
  pub are : waiting ≡ reverse (drop vault.forced vault.journal)
  pub within : vault.forced ≤ length vault.journal

-- the vault with an entry more, which waits for a force
abbrev pub with_waiting : {D : Type 0} → Meaning D → State D → Entry → State D
with_waiting m vault e = record {
  generation = vault.generation;
  database = m.after vault.database e;
  journal = vault.journal ++ e ∷ [];
  forced = vault.forced;
  sure = vault.sure;
  end = vault.end + (5 + length (entry.spell e));
  fault = None;
  pending = vault.pending;
}

-- the vault where nothing waits any more
abbrev pub all_forced : {D : Type 0} → State D → State D
all_forced vault = record {
  generation = vault.generation;
  database = vault.database;
  journal = vault.journal;
  forced = length vault.journal;
  sure = vault.end;
  end = vault.end;
  fault = None;
  pending = vault.pending;
}

-- the vault with an entry more, which is forced with all that waited
abbrev pub with_entry : {D : Type 0} → Meaning D → State D → Entry → State D
with_entry m vault e = all_forced (with_waiting m vault e)

-- the vault with an entry that is in doubt, where its log ends there
abbrev pub in_doubt : {D : Type 0} → Meaning D → State D → Entry → (end file count : ℕ) → State D
in_doubt m vault e end file count = record {
  generation = vault.generation;
  database = m.after vault.database e;
  journal = vault.journal ++ e ∷ [];
  forced = vault.forced;
  sure = vault.sure;
  end = end;
  fault = Some (file, count);
  pending = None;
}

-- the vault after a fault that put no further entry in doubt, where so many of its entries are forced, up to a place of its log
abbrev pub halted_at : {D : Type 0} → State D → (forced sure file count : ℕ) → State D
halted_at vault forced sure file count = record {
  generation = vault.generation;
  database = vault.database;
  journal = vault.journal;
  forced = forced;
  sure = sure;
  end = vault.end;
  fault = Some (file, count);
  pending = None;
}

-- the same where no force was made in it
abbrev pub with_fault : {D : Type 0} → State D → (file count : ℕ) → State D
with_fault vault file count = halted_at vault vault.forced vault.sure file count

-- the vault with another checkpoint that was begun, or with none
abbrev pub with_pending : {D : Type 0} → State D → Option Pending → State D
with_pending vault pending = record {
  generation = vault.generation;
  database = vault.database;
  journal = vault.journal;
  forced = vault.forced;
  sure = vault.sure;
  end = vault.end;
  fault = vault.fault;
  pending = pending;
}

-- the vault after a checkpoint, where the log of the new image ends there
abbrev pub at_done : {D : Type 0} → State D → ℕ → State D
at_done vault end = record {
  generation = vault.generation + 1;
  database = vault.database;
  journal = vault.journal;
  forced = length vault.journal;
  sure = end;
  end = end;
  fault = None;
  pending = None;
}

-- the same where that log is empty
abbrev pub at_next : {D : Type 0} → State D → State D
at_next vault = at_done vault 0

-- A refusal without a device call: a fault had halted the vault earlier.
abbrev pub Halted : {D : Type 0} → State D → Refusal → Type 0
Halted vault refusal = (file : ℕ) × (count : ℕ) × (vault.fault ≡ Some (file, count)) × (refusal ≡ LogFault file count)

-- A call on the log failed, and so its entry is in doubt.
abbrev pub Doubts : {D : Type 0} → Meaning D → State D → Entry → (before after : ℕ → ℕ) → Refusal → State D → Type 0
Doubts m vault e before after refusal next = (vault.fault ≡ None) × (refusal ≡ LogFault (log_file vault.generation) (after (log_file vault.generation)))
    × Rose (before (log_file vault.generation)) (after (log_file vault.generation)) × ((end : ℕ) × (next ≡ in_doubt m vault e end (log_file vault.generation) (after (log_file vault.generation))))

-- the files recover to one of two databases
abbrev pub RecoversToEither : {D : Type 0} → Meaning D → (before after : D) → (ℕ → List ℕ) → Type 0
RecoversToEither m before after files = RecoversWithin m files before ⊎ RecoversWithin m files after

-- Whatever a stop right now leaves of the vault's files has P, and what stands in other files doesn't matter.
abbrev pub IsLeft : ((ℕ → List ℕ) → Type 0) → History → Type 0
IsLeft P h = (files : ℕ → List ℕ) → LeftNow IsOurs h files → P files

-- A checkpoint was begun. Its image is the database `snapshot`; the entries of the journal behind its start are legal one after another from there, and bring that to the vault's database.
-- It stands in the files of the next generation as far as it was made, and no stop opens its image's gate.
pub record IsPending {D : Type 0} (m : Meaning D) (vault : State D) (snapshot : D) (h : History) : Type 0 where
  pub pending : Pending
  pub is : vault.pending ≡ Some pending
  pub valid : m.Valid second_form snapshot
  pub stands : StandsAt (vault.generation + 1) (m.spelled second_form snapshot) vault.journal pending h
  pub legal : AllLegal m snapshot (reverse (drop pending.start vault.journal))
  pub gives : vault.database ≡ after_all m snapshot (reverse (drop pending.start vault.journal))

-- while a checkpoint is in progress its image's gate is shut in each image
abbrev pub StaysShut : {D : Type 0} → Meaning D → State D → History → History → Type 0
StaysShut {D} m vault old new = (snapshot : D) → IsPending m vault snapshot old → EachImage (now old) new (λ files. IsClosed (files (image_file (vault.generation + 1))))

-- An entry was committed, and waits for a force. A checkpoint that was begun goes on, and its image's gate stays shut. Whatever came of it, each image since recovers to the database with all that was forced
-- before, and so does whatever a stop leaves of the vault's files right after: nothing that waits is there.
pub record Waits {D T E : Type 0} (m : Meaning D) (vault : State D) (e : Entry) (result : Result T E) (next : State D) (old new : History) : Type 0 where
  pub goes : GoesOn (λ file. file ≡ log_file vault.generation) old new
  pub held : OnOk result ((durable : D) → IsHeld m vault durable old → IsHeld m next durable new)
  pub pends : OnOk result ((snapshot : D) → IsPending m vault snapshot old → IsPending m next snapshot new)
  pub shut : StaysShut m vault old new
  pub since : (durable : D) → IsHeld m vault durable old → EachImage (now old) new (λ files. RecoversWithin m files durable)
  pub left : (durable : D) → IsHeld m vault durable old → IsLeft (λ files. RecoversWithin m files durable) new

-- What waited was forced. On Ok the vault is good. A checkpoint that was begun goes on, and its image's gate stays shut. Whatever came of it, each image since recovers to the database with nothing of what
-- waited or to that with all of it, and so does whatever a stop leaves of the vault's files right after.
pub record Forces {D T E : Type 0} (m : Meaning D) (vault : State D) (result : Result T E) (next : State D) (old new : History) : Type 0 where
  pub goes : GoesOn (λ file. file ≡ log_file vault.generation) old new
  pub good : OnOk result ((durable : D) → IsHeld m vault durable old → IsGood m next new)
  pub pends : OnOk result ((snapshot : D) → IsPending m vault snapshot old → IsPending m next snapshot new)
  pub shut : StaysShut m vault old new
  pub since : (durable : D) → IsHeld m vault durable old → EachImage (now old) new (RecoversToEither m durable vault.database)
  pub left : (durable : D) → IsHeld m vault durable old → IsLeft (RecoversToEither m durable vault.database) new

-- An entry was committed and forced. On Ok the vault is good with it. Whatever came of it, each image since recovers to the database before it or
-- after it, and so does whatever a stop leaves of the vault's files right after.
pub record Committed {D T E : Type 0} (m : Meaning D) (vault : State D) (e : Entry) (result : Result T E) (next : State D) (old new : History) : Type 0 where
  pub goes : GoesOn IsOurs old new
  pub good : OnOk result (IsGood m vault old → IsGood m next new)
  pub since : IsGood m vault old → EachImage (now old) new (RecoversToEither m vault.database (m.after vault.database e))
  pub left : IsGood m vault old → IsLeft (RecoversToEither m vault.database (m.after vault.database e)) new

-- the newest image is the database, and its log is empty
abbrev pub IsFresh : {D : Type 0} → Meaning D → State D → (ℕ → List ℕ) → Type 0
IsFresh m vault files = Newest files vault.generation (m.spelled second_form vault.database) × LogEnds (files (log_file vault.generation)) []

-- A checkpoint was made, after what waited was forced. On Ok the vault is good, and the newest image of each image of now is the database and its log is empty.
-- Whatever came of it, each image since recovers to the database with nothing of what waited or to that with all of it, and so does whatever a stop leaves of the vault's files right
-- after; where nothing waited, to the database.
pub record Checkpointed {D T E : Type 0} (m : Meaning D) (vault : State D) (result : Result T E) (next : State D) (old new : History) : Type 0 where
  pub goes : GoesOn IsOurs old new
  pub good : OnOk result (IsGood m vault old → IsGood m next new)
  pub fresh : OnOk result (IsGood m vault old → EachImage (now new) new (IsFresh m next))
  pub since : IsGood m vault old → EachImage (now old) new (λ files. RecoversWithin m files vault.database)
  pub left : IsGood m vault old → IsLeft (λ files. RecoversWithin m files vault.database) new
  pub held_good : OnOk result ((durable : D) → IsHeld m vault durable old → IsGood m next new)
  pub held_fresh : OnOk result ((durable : D) → IsHeld m vault durable old → EachImage (now new) new (IsFresh m next))
  pub held_since : (durable : D) → IsHeld m vault durable old → EachImage (now old) new (RecoversToEither m durable vault.database)
  pub held_left : (durable : D) → IsHeld m vault durable old → IsLeft (RecoversToEither m durable vault.database) new

-- a call on an image or a log of the vault failed, and it takes no more
abbrev pub Faults : {D : Type 0} → State D → (before after : ℕ → ℕ) → Refusal → State D → Type 0
Faults vault before after refusal next = (vault.fault ≡ None) × ((file : ℕ) × IsOurs file × (refusal ≡ LogFault file (after file)) × Rose (before file) (after file) × ((forced : ℕ) × (sure : ℕ) × (next ≡ halted_at vault forced sure file (after file))))

-- A checkpoint of the vault's database was begun: its first piece is written, and it has all of the journal.
abbrev pub IsStarted : {D : Type 0} → Meaning D → State D → State D → Type 0
IsStarted m vault next = (pending : Pending) × (next ≡ with_pending vault (Some pending)) × (pending.start ≡ length vault.journal) × (pending.copied ≡ length vault.journal)
    × (length (m.spelled second_form vault.database) < 2 ^ 36) × (pending.job ≡ job_of (vault.generation + 1) (m.spelled second_form vault.database) (written_to 65536 (length (m.spelled second_form vault.database))))

-- the same, behind a force
abbrev pub IsBegun : {D : Type 0} → Meaning D → State D → State D → Type 0
IsBegun m vault next = IsStarted m (all_forced vault) next

-- A checkpoint was begun in a vault where nothing waits. On Ok the vault is good, and a checkpoint of its database is in progress. Whatever came of it, each image since recovers to the database.
pub record Started {D T E : Type 0} (m : Meaning D) (vault : State D) (result : Result T E) (next : State D) (old new : History) : Type 0 where
  pub goes : GoesOn IsOurs old new
  pub begun : OnOk result (IsGood m vault old → IsGood m next new × IsPending m next vault.database new)
  pub since : IsGood m vault old → EachImage (now old) new (λ files. RecoversWithin m files vault.database)

-- A checkpoint was begun, after what waited was forced. On Ok the vault is good, and a checkpoint of its database is in progress. Whatever came of it, each image since recovers to the
-- database with nothing of what waited or to that with all of it, and so does whatever a stop leaves of the vault's files right after.
pub record Begins {D T E : Type 0} (m : Meaning D) (vault : State D) (result : Result T E) (next : State D) (old new : History) : Type 0 where
  pub goes : GoesOn IsOurs old new
  pub begun : OnOk result ((durable : D) → IsHeld m vault durable old → IsGood m next new × IsPending m next vault.database new)
  pub since : (durable : D) → IsHeld m vault durable old → EachImage (now old) new (RecoversToEither m durable vault.database)
  pub left : (durable : D) → IsHeld m vault durable old → IsLeft (RecoversToEither m durable vault.database) new

-- The vault after a step of a checkpoint. It goes on; or it is done, where all of its payload is on the disk and all of the journal was copied, and its log is as long as the records of the
-- entries behind its start.
abbrev pub GoesTo : {D : Type 0} → State D → State D → Progress → Type 0
GoesTo vault next More = (pending : Pending) × (last : Pending) × (vault.pending ≡ Some pending) × (next ≡ with_pending vault (Some last)) × Nears vault.journal pending last
GoesTo vault next Done = (pending : Pending) × (vault.pending ≡ Some pending) × (next ≡ at_done vault (length (blocks (map entry.spell (drop pending.start vault.journal))))) × (pending.job.phase ≡ Durable) × (pending.copied ≡ length vault.journal)

-- A checkpoint is in progress that has all of the journal, and for each 8,192 bytes of its payload no more than one call was made since a moment.
abbrev pub IsInStep : {D : Type 0} → State D → (began moment : ℕ) → Type 0
IsInStep vault began moment = (pending : Pending) × (vault.pending ≡ Some pending) × (pending.start ≡ length vault.journal) × (pending.copied ≡ length vault.journal) × (length pending.job.payload < 2 ^ 36) × IsPaced pending.job.phase (length pending.job.payload) began moment

-- the newest image is this database, and its log has the entries of the journal from a place on
abbrev pub IsMadeOf : {D : Type 0} → Meaning D → State D → (snapshot : D) → (start : ℕ) → (ℕ → List ℕ) → Type 0
IsMadeOf m vault snapshot start files = Newest files vault.generation (m.spelled second_form snapshot) × LogEnds (files (log_file vault.generation)) (records_of (reverse (drop start vault.journal)))

-- What a step leaves of a checkpoint of `snapshot`, over a vault with that durable database. It goes on, and nothing more is durable. Or it is done, and the vault is good: the newest image of
-- each image of now is `snapshot`, and its log has all that was committed since.
abbrev pub Leads : {D : Type 0} → Meaning D → State D → State D → (durable snapshot : D) → History → Progress → Type 0
Leads m vault next durable snapshot new More = IsPending m next snapshot new × IsHeld m next durable new
Leads m vault next durable snapshot new Done = IsGood m next new × ((pending : Pending) → vault.pending ≡ Some pending → EachImage (now new) new (IsMadeOf m next snapshot pending.start))

-- While a checkpoint goes on its image's gate is shut.
abbrev pub ShutWhile : {D : Type 0} → Meaning D → State D → History → History → Progress → Type 0
ShutWhile m vault old new More = StaysShut m vault old new
ShutWhile m vault old new Done = Unit {0}

-- A step of a checkpoint was taken. Whatever came of it, each image since recovers to the database with nothing of what waited or to that with all of it, and so does whatever a
-- stop leaves of the vault's files right after.
pub record Pieced {D E : Type 0} (m : Meaning D) (vault : State D) (result : Result Progress E) (next : State D) (old new : History) : Type 0 where
  pub goes : GoesOn IsOurs old new
  pub leads : IfOk result (λ progress. (durable snapshot : D) → IsHeld m vault durable old → IsPending m vault snapshot old → Leads m vault next durable snapshot new progress)
  pub since : (durable snapshot : D) → IsHeld m vault durable old → IsPending m vault snapshot old → EachImage (now old) new (RecoversToEither m durable vault.database)
  pub left : (durable snapshot : D) → IsHeld m vault durable old → IsPending m vault snapshot old → IsLeft (RecoversToEither m durable vault.database) new
  pub shut : IfOk result (ShutWhile m vault old new)

-- Why an entry wasn't committed. It has too many bytes, or memory was wanted, or the vault is halted: then nothing changed. Or a call on
-- the log failed, and the entry is in doubt.
abbrev pub RefusesCommit : {D : Type 0} → Meaning D → State D → Entry → (before after : ℕ → ℕ) → Refusal → State D → (same : Type 0) → Type 0
RefusesCommit m vault e before after refusal next same =
    (((refusal ≡ Memory) ⊎ (((refusal ≡ RecordFull) × (2 ^ 24 < length (entry.spell e))) ⊎ Halted vault refusal)) × (next ≡ vault) × same)
    ⊎ Doubts m vault e before after refusal next

-- Why what waits wasn't forced. The vault is halted: then nothing changed. Or a call on the log failed.
abbrev pub RefusesForce : {D : Type 0} → State D → (before after : ℕ → ℕ) → Refusal → State D → (same : Type 0) → Type 0
RefusesForce vault before after refusal next same =
    (Halted vault refusal × (next ≡ vault) × same)
    ⊎ ((vault.fault ≡ None) × (refusal ≡ LogFault (log_file vault.generation) (after (log_file vault.generation)))
    × Rose (before (log_file vault.generation)) (after (log_file vault.generation)) × (next ≡ with_fault vault (log_file vault.generation) (after (log_file vault.generation))))

-- Why no checkpoint was made. Memory was wanted, or the vault is halted: then nothing changed. Or a call on a file of the vault failed.
abbrev pub RefusesCheckpoint : {D : Type 0} → State D → (before after : ℕ → ℕ) → Refusal → State D → (same : Type 0) → Type 0
RefusesCheckpoint vault before after refusal next same = (((refusal ≡ Memory) ⊎ Halted vault refusal) × (next ≡ vault) × same) ⊎ Faults vault before after refusal next
