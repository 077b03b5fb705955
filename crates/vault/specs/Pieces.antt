-- A checkpoint that is made in pieces: the image of the next generation, and its log with the entries that are committed meanwhile.
use Rattle.std.specs.Prelude.{◌≡◌, ◌≢◌, ◌⊎◌, ℕ, ◌+◌, ◌-◌, ◌<◌, ◌≤◌, ◌^◌, List, length, take, drop, map, Option, Some, None, IsSome, Result, IfOk, OnOk}
use Rattle.std.specs.List.{AllByRecursion}
use Rattle.store_api.specs.Disk.{History, standing, now}
use Rattle.store_api.specs.Runs.{GoesOn, EachImage}
use Rattle.log_file.specs.Blocks.{Fits, blocks, IsClosed, LogEnds}
use Rattle.log_file.specs.Sure.{IsSure, IsWritten}
use Rattle.log_file.specs.Sure as log
use Rattle.db_image.specs.declared.mark.Mark.TheVariants.{Server}
use Rattle.db_image.specs.declared.phase.Phase.{Phase}
use Rattle.db_image.specs.declared.phase.Phase.TheVariants.{Begun, Written, Durable, Open, Failed}
use Rattle.db_image.specs.Images.{NeverSpent, HasImage}
use Rattle.db_image.specs.Steps.{Job, FirmShut, Underway, KeepsShut, at_phase, further}
use Rattle.entries.specs.declared.entry.Entry.{Entry}
use Rattle.entries.specs.EntryForm.{entry}
use Rattle.vault.specs.Files.{image_file, log_file, IsOf}
use Rattle.vault.specs.Recovery.{Older}
use Rattle.vault.specs.Images.{IsImage, StaysOlder}

-- A checkpoint that was begun: the image as it is written; how many of the journal's entries it has; how many it and its log have; and that
-- log, once it was begun.
pub record Pending : Type 0 where
  pub job : Job
  pub start : ℕ
  pub copied : ℕ
  pub log : Option log.State

-- the image of a generation with this payload, written so far
abbrev pub job_of : ℕ → List ℕ → Phase → Job
job_of generation payload phase = record { file = image_file generation; mark = Server; number = generation; payload = payload; phase = phase }

-- The image is being written, and its gate is shut: some of its payload is left to write, or all of it is on the disk.
abbrev pub IsGoing : Phase → Type 0
IsGoing Begun = ⊥
IsGoing (Written done) = Unit {0}
IsGoing Durable = Unit {0}
IsGoing Open = ⊥
IsGoing Failed = ⊥

-- the log is that of this generation
abbrev pub IsLogOf : ℕ → Option log.State → Type 0
IsLogOf generation None = Unit {0}
IsLogOf generation (Some log) = (log.file ≡ log_file generation) × (log.doubt ≡ None)

-- nothing is in the log
abbrev pub IsEmpty : Option log.State → Type 0
IsEmpty None = Unit {0}
IsEmpty (Some log) = log.end ≡ 0

-- the log goes on by so many bytes
abbrev pub IsLonger : ℕ → Option log.State → Option log.State → Type 0
IsLonger count (Some old) (Some new) = new.end ≡ old.end + count
IsLonger count _ _ = ⊥

-- What a checkpoint keeps that makes this generation: its files, and an image that is being written; its log is begun when all of the payload is
-- on the disk.
pub record IsOrderly (generation : ℕ) (pending : Pending) : Type 0 where
  pub number : pending.job.number ≡ generation
  pub file : pending.job.file ≡ image_file generation
  pub mark : pending.job.mark ≡ Server
  pub going : IsGoing pending.job.phase
  pub log : IsLogOf generation pending.log
  pub durable : IsSome pending.log → pending.job.phase ≡ Durable
  pub ordered : pending.start ≤ pending.copied

-- its log is begun as soon as all of the payload is on the disk
abbrev pub IsLogged : Pending → Type 0
IsLogged pending = pending.job.phase ≡ Durable → IsSome pending.log

-- the same where there is one
abbrev pub AllOrderly : ℕ → Option Pending → Type 0
AllOrderly generation None = Unit {0}
AllOrderly generation (Some pending) = IsOrderly generation pending × IsLogged pending

-- the records of the journal's entries from one place to another
abbrev pub records_between : List Entry → ℕ → ℕ → List (List ℕ)
records_between journal start end = map entry.spell (take (end - start) (drop start journal))

-- The log is as long as the records that were copied to it. Before it is begun none was.
abbrev pub IsAsLong : List Entry → ℕ → ℕ → Option log.State → Type 0
IsAsLong journal start copied None = copied ≡ start
IsAsLong journal start copied (Some log) = log.end ≡ length (blocks (records_between journal start copied))

-- A checkpoint that was begun has entries of the journal, and its log is as long as these are.
abbrev pub AllCounted : List Entry → Option Pending → Type 0
AllCounted journal None = Unit {0}
AllCounted journal (Some pending) = (pending.copied ≤ length journal) × IsAsLong journal pending.start pending.copied pending.log

-- The log of a generation is written as far as entries were copied to it. Before it is begun none was.
abbrev pub CopiesAt : ℕ → List Entry → ℕ → ℕ → Option log.State → History → Type 0
CopiesAt generation journal start copied None h = copied ≡ start
CopiesAt generation journal start copied (Some log) h = IsWritten h (log_file generation) (records_between journal start copied) log.end

-- A checkpoint stands in the files of its generation as far as it was made, and no stop opens its image's gate.
pub record StandsAt (generation : ℕ) (payload : List ℕ) (journal : List Entry) (pending : Pending) (h : History) : Type 0 where
  pub few : generation < 2 ^ 62
  pub unspent : NeverSpent Server generation payload
  pub small : length payload < 2 ^ 64
  pub job : pending.job ≡ job_of generation payload pending.job.phase
  pub underway : Underway pending.job h
  pub shut : FirmShut (standing h (image_file generation))
  pub copies : CopiesAt generation journal pending.start pending.copied pending.log h
  pub ordered : pending.start ≤ pending.copied
  pub within : pending.copied ≤ length journal

-- What a step of a checkpoint does to it: a piece of the payload was written, of which some was left; or, where all of it is on the disk, records of entries behind those that were copied.
abbrev pub Nears : (journal : List Entry) → Pending → Pending → Type 0
Nears journal pending next = (next.start ≡ pending.start)
    × (((pending.job.phase ≢ Durable) × (next.job ≡ at_phase (further pending.job.phase (length pending.job.payload)) pending.job) × (next.copied ≡ pending.copied))
    ⊎ ((pending.job.phase ≡ Durable) × (next.job ≡ pending.job) × (pending.copied < next.copied) × (next.copied ≤ length journal)))

-- A checkpoint was begun: its image's gate was shut, and what stands first behind it was written. Only its files were written. Each image since has what was in the image's file, or a
-- shut gate.
pub record Starts {E : Type 0} (generation : ℕ) (payload : List ℕ) (start : ℕ) (result : Result Pending E) (old new : History) : Type 0 where
  pub goes : GoesOn (IsOf generation) old new
  pub stands : IfOk result (λ pending. (bound : ℕ) (journal : List Entry) → NeverSpent Server generation payload → StaysOlder bound (image_file generation) old → start ≡ length journal → StandsAt generation payload journal pending new)
  pub since : (bound : ℕ) → StaysOlder bound (image_file generation) old → EachImage (now old) new (λ files. Older bound (image_file generation) (files (image_file generation)))

-- A checkpoint went on by a step: a piece of its payload was written, or its log was begun. Only its files were written, and its image's gate stays
-- shut.
pub record Furthered {T E : Type 0} (generation : ℕ) (pending next : Pending) (result : Result T E) (old new : History) : Type 0 where
  pub goes : GoesOn (IsOf generation) old new
  pub stands : OnOk result ((payload : List ℕ) (journal : List Entry) → StandsAt generation payload journal pending old → StandsAt generation payload journal next new)
  pub shut : KeepsShut (image_file generation) old new

-- Records were copied to its log: those of the journal's entries up to a place.
pub record Extended {T E : Type 0} (generation : ℕ) (pending next : Pending) (batch : List ℕ) (place : ℕ) (result : Result T E) (old new : History) : Type 0 where
  pub goes : GoesOn (IsOf generation) old new
  pub stands : OnOk result ((payload : List ℕ) (journal : List Entry) → StandsAt generation payload journal pending old →
      batch ≡ blocks (records_between journal pending.copied place) → AllByRecursion Fits (records_between journal pending.copied place) → pending.copied ≤ place → place ≤ length journal →
      StandsAt generation payload journal next new)
  pub shut : KeepsShut (image_file generation) old new

-- the files have the image of this generation and payload, and a log of these records
abbrev pub HasBoth : ℕ → List ℕ → List (List ℕ) → (ℕ → List ℕ) → Type 0
HasBoth generation payload records files = HasImage (image_file generation) Server (files (image_file generation)) generation payload × LogEnds (files (log_file generation)) records

-- Its log was made durable, and then its image's gate was opened. On Ok both are there to stay. Whatever came of it, each image since has a shut gate in the
-- image's file, or has the image and the log.
pub record Finished {E : Type 0} (generation : ℕ) (pending : Pending) (result : Result log.State E) (old new : History) : Type 0 where
  pub goes : GoesOn (IsOf generation) old new
  pub stands : IfOk result (λ log. (payload : List ℕ) (journal : List Entry) → StandsAt generation payload journal pending old →
      IsImage new (image_file generation) generation payload × IsSure new (log_file generation) (records_between journal pending.start pending.copied) log.end)
  pub since : (payload : List ℕ) (journal : List Entry) → StandsAt generation payload journal pending old →
      EachImage (now old) new (λ files. IsClosed (files (image_file generation)) ⊎ HasBoth generation payload (records_between journal pending.start pending.copied) files)
