-- What database backups need as long as they are protected: their files, and the copies that stood on sequential volumes when they were taken.
use Rattle.std.specs.Prelude.{◌≡◌, ◌⊎◌, ℕ, ◌+◌, ◌-◌, ◌<◌, ◌≤◌, ◌^◌, Bool, true, false, is_some, nat_lt, List, [], ◌∷◌, map, length, take, Option, None, Some, IfSome}
use Rattle.std.specs.BTreeMap.{is_at}
use Rattle.std.specs.List.{AllByRecursion, Contains, list_all}
use Rattle.std.specs.Map.{lookup}
use Rattle.std.specs.Ordering.{nat_cmp}
use Rattle.sha2.specs.Sha256.{sha256}
use Rattle.fields.specs.Editions.{second_form}
use Rattle.kinds.specs.declared.segment.Segment.{Segment}
use Rattle.entries.specs.declared.entry.Entry.{Entry}
use Rattle.entries.specs.Meaning.{Spells}
use Rattle.store_api.specs.Disk.{History, ImageAt, now}
use Rattle.store_api.specs.Runs.{LeftNow}
use Rattle.contents.specs.Contents.{FramesHave, InImage, InStore}
use Rattle.backup_payloads.specs.Increments.{Increment, IsIncrement, last_number}
use Rattle.db_chains.specs.Chains.{Gives, IsBackupFile, Makes}
use Rattle.db_image.specs.Steps.{Job}
use Rattle.inventory.specs.Meant.{meaning}
use Rattle.inventory_rows.specs.declared.backup.Backup.{Backup}
use Rattle.inventory_rows.specs.version_groups.declared.copies.CopyRow.{CopyRow}
use Rattle.inventory_rows.specs.version_groups.declared.versions.Version.{Version}
use Rattle.inventory_rows.specs.volume_rows.declared.volume.Volume.{Volume}
use Rattle.inventory_rows.specs.pool_rows.PoolRows.{is_sequential}
use Rattle.inventory_rows.specs.pool_tables.Rows.{row_at}
use Rattle.inventory_rows.specs.Search.{versions}
use Rattle.inventory_rows.specs.State.{Inv}
use Rattle.inventory_rules.specs.Backups.{backup_at, is_done}
use Rattle.vault.specs.Recovery.{Recovers}
use Rattle.machine.specs.State.{Core, after, inventory, unforced}
use Rattle.hall.specs.Covered.{IsNewFile, Written, inv_at, is_any_reuse, left_open, written}

-- ---- which ones

-- on this day fewer days went by since the backup was taken than each of its least delays
abbrev pub is_protected : (today : ℕ) → Backup → Bool
is_protected today b = list_all (λ d. nat_lt (today - b.taken) d.1) b.delays

-- a database lists the backup as whole, and it is protected on the database's day
pub record IsProtected (v : Inv) (file : ℕ) (b : Backup) : Type 0 where
  pub listed : backup_at file v ≡ Some b
  pub done : b.is_done ≡ true
  pub young : is_protected v.today b ≡ true

-- ---- what one gives back

-- A backup as it was taken: the database that it gives, the increments of the chain that leads to it, newest first, and the bytes of that database's objects.
pub record Taken : Type 0 where
  pub database : Inv
  pub increments : List Increment
  pub contents : ℕ → List ℕ

-- each copy of a database that stands in a sequential pool
abbrev pub EachSequential : (Version → CopyRow → Type 0) → Inv → Type 0
EachSequential Q v = AllByRecursion (λ w. AllByRecursion (λ c. is_sequential c.pool v.stores ≡ true → Q w c) w.copies) (versions v)

-- a copy has its object's size and digest with these bytes, and P of each of its frames
pub record HasCopy (P : ℕ → ℕ → List ℕ → Type 0) (bytes : List ℕ) (w : Version) (c : CopyRow) : Type 0 where
  pub size : length bytes ≡ w.size
  pub digest : w.digest.0 ≡ sha256 bytes
  pub frames : FramesHave P w.object 0 c.segments bytes

-- the files of a backup: its own, and those of the backups that its chain goes back to
abbrev pub files_of : (file : ℕ) → List Increment → List ℕ
files_of file increments = file ∷ map (λ i. i.after) increments

-- A backup's row says what it gives: its number, and the day on which it was taken.
pub record IsRow (b : Backup) (t : Taken) : Type 0 where
  pub number : t.database.number ≡ b.number
  pub taken : t.database.today ≡ b.taken

-- An image gives a backup back: its files lead to the database of its row, of which each copy in a sequential pool stands in its frames.
pub record GivesBack (image : ℕ → List ℕ) (file : ℕ) (b : Backup) (t : Taken) : Type 0 where
  pub gives : Gives meaning image file b.number t.increments t.database
  pub row : IsRow b t
  pub copies : EachSequential (λ w c. HasCopy (InImage image) (t.contents w.object) w c) t.database

-- an image keeps the backups of a database: it gives each back that is whole and protected on the database's day
abbrev pub KeepsBackups : (ℕ → List ℕ) → Inv → Type 0
KeepsBackups image v = (file : ℕ) (b : Backup) → IsProtected v file b → (t : Taken) × GivesBack image file b t

-- ---- whose database a file holds

-- A backup's file holds this database in an image: it is the one of the row's number, as of the day on which the row says that it was taken; and the file leads to it, by some chain of increments.
pub record HoldsIn (image : ℕ → List ℕ) (file : ℕ) (b : Backup) (database : Inv) : Type 0 where
  pub number : database.number ≡ b.number
  pub taken : database.today ≡ b.taken
  pub increments : List Increment
  pub gives : Gives meaning image file b.number increments database

-- An image holds the databases of the backups that a database lists as whole and that began in the run with this base and these transactions, whether they are protected or not: each one's file holds the run's
-- database behind the transaction of the row's number, by which the backup began.
abbrev pub HoldTheirDatabases : (image : ℕ → List ℕ) → (base : Inv) → (journal : List Entry) → Inv → Type 0
HoldTheirDatabases image base journal v =
    (file : ℕ) (b : Backup) → backup_at file v ≡ Some b → b.is_done ≡ true → base.number ≤ b.number → HoldsIn image file b (after base (take (b.number - base.number) journal))

-- ---- what a database has of one

-- a least delay is there, and isn't above this one
abbrev pub HasDelay : (delay : ℕ) → (least : Option ℕ) → Type 0
HasDelay delay None = ⊥
HasDelay delay (Some least) = least ≤ delay

-- A segment that a backup needs, on a volume that is there: that lies in the copy's pool, which is sequential; the segment's frame ends where the volume does or before; the last copy didn't go
-- from it before the backup was taken; and the backup has a least delay of that pool, which isn't above the delay that the pool has now.
pub record IsStill (v : Inv) (b : Backup) (number : ℕ) (s : Segment) (volume : Volume) : Type 0 where
  pub pool : volume.pool ≡ number
  pub sequential : is_sequential number v.stores ≡ true
  pub within : s.offset + 32 + s.len ≤ volume.end
  pub emptied : IfSome volume.emptied (λ day. b.taken ≤ day)
  pub delayed : IfSome (row_at number v.stores.pools) (λ p. HasDelay p.settings.reuse_delay (lookup (is_at (nat_cmp number)) b.delays))

-- the volume is gone, or the segment lies where it lay
abbrev pub StillLies : Inv → Backup → (pool : ℕ) → Segment → Option Volume → Type 0
StillLies v b pool s None = Unit {0}
StillLies v b pool s (Some volume) = IsStill v b pool s volume

-- A segment that a backup needs, of this pool, is in a file whose number was drawn, and lies where it lay, as long as its volume is there.
abbrev pub IsLeft : Inv → Backup → (pool : ℕ) → Segment → Type 0
IsLeft v b pool s = (s.file < v.next_file) × StillLies v b pool s (row_at s.file v.stores.volumes)

-- what a database that lists a backup has of what its copies need: each segment of a copy in a sequential pool
abbrev pub IsProvided : Inv → Backup → Taken → Type 0
IsProvided v b t = EachSequential (λ w c. AllByRecursion (IsLeft v b c.pool) c.segments) t.database

-- ---- the store when it was opened

-- no volume lies on this file, whose number was drawn
abbrev pub IsNoVolume : Inv → ℕ → Type 0
IsNoVolume v n = (4 ≤ n) × (n < v.next_file) × (row_at n v.stores.volumes ≡ None)

-- Each image of the moment of the opening leads from the backup's files to the same database, and holds its copies in sequential pools; no volume lies on these files, and the others have smaller
-- numbers than the backup's own; and the base has what the copies need.
pub record WasGiven (base : Inv) (opened : ℕ) (h : History) (file : ℕ) (b : Backup) : Type 0 where
  pub backup : Taken
  pub row : IsRow b backup
  pub files : AllByRecursion (IsNoVolume base) (files_of file backup.increments)
  pub smaller : AllByRecursion (λ i. i.after < file) backup.increments
  pub provided : IsProvided base b backup
  pub gives : (image : ℕ → List ℕ) → ImageAt h opened image → Gives meaning image file b.number backup.increments backup.database
  pub copies : (image : ℕ → List ℕ) → ImageAt h opened image → EachSequential (λ w c. HasCopy (InImage image) (backup.contents w.object) w c) backup.database

-- a whole backup began before the database's last transaction, as the one by which it became whole came behind it
abbrev pub AreBefore : Inv → Type 0
AreBefore v = (file : ℕ) (b : Backup) → backup_at file v ≡ Some b → b.is_done ≡ true → b.number < v.number

-- the store was sound for the backups that the base lists as whole and that are protected
pub record HadBackups (base : Inv) (opened : ℕ) (h : History) : Type 0 where
  pub before : AreBefore base
  pub given : (file : ℕ) (b : Backup) → IsProtected base file b → WasGiven base opened h file b

-- ---- what the hall keeps

-- the file is one of these
abbrev pub IsOneOf : List ℕ → ℕ → Type 0
IsOneOf files n = Contains files n

-- Whatever a stop right now leaves of a backup's files leads to its database.
pub record IsReadable (h : History) (file : ℕ) (b : Backup) (t : Taken) : Type 0 where
  pub row : IsRow b t
  pub gives : (files : ℕ → List ℕ) → LeftNow (IsOneOf (files_of file t.increments)) h files → Gives meaning files file b.number t.increments t.database

-- a database of the run lists the file as a whole backup's
abbrev pub WasDone : Core → ℕ → Type 0
WasDone c n = (count : ℕ) × (is_done (backup_at n (inv_at count c)) ≡ true)

-- a database of the run has a volume with the file
abbrev pub WasVolume : Core → ℕ → Type 0
WasVolume c n = (count : ℕ) × (is_some (row_at n (inv_at count c).stores.volumes) ≡ true)

-- a number that was drawn, and no database of the run has a volume with the file
abbrev pub IsNever : Core → ℕ → Type 0
IsNever c n = (4 ≤ n) × (n < (inventory c).next_file) × IsNewFile c n

-- A file of a backup is one of no volume, and none is made with it: its number was drawn before the run, or a database of the run lists it as a whole backup's.
abbrev pub IsFiled : Core → ℕ → Type 0
IsFiled c n = IsNever c n × ((n < c.base.next_file) ⊎ WasDone c n)

-- a segment that a backup needs lies on a file that was a volume's: its number was drawn before the run, or a database of the run has that volume
abbrev pub IsLaid : Core → Segment → Type 0
IsLaid c s = (4 ≤ s.file) × ((s.file < c.base.next_file) ⊎ WasVolume c s.file)

-- A segment was written on its volume since that was emptied for the last time: it lies below where the volume ended before the run, or it came in it.
abbrev pub IsWritten : Written → Segment → Type 0
IsWritten w s = (s.offset + 32 + s.len ≤ w.floor) ⊎ Contains w.segments s

-- it was, and where the volume is there it is sequential; or no database of the run has the volume
abbrev pub IsWrittenOn : Core → Segment → Type 0
IsWrittenOn c s = (IsWritten (written s.file c) s × IfSome (row_at s.file (inventory c).stores.volumes) (λ x. is_sequential x.pool (inventory c).stores ≡ true)) ⊎ IsNewFile c s.file

-- No fault has halted the hall, and the database is the present one, or no transaction that waits is the reuse of a volume.
abbrev pub IsWatched : Core → Inv → Type 0
IsWatched c v = (c.fault ≡ None) × ((v.number ≡ (inventory c).number) ⊎ AllByRecursion (λ e. is_any_reuse e.change ≡ false) (unforced c))

-- What the copies of a backup need that a database lists is covered: no stop takes away the frames of those in sequential pools, which lie on files of volumes; and those that the run had were written
-- since these were emptied, so that no ticket's space overlaps them, and no file that is cut has them.
pub record IsCovered (h : History) (c : Core) (v : Inv) (t : Taken) : Type 0 where
  pub firm : EachSequential (λ w r. HasCopy (InStore h) (t.contents w.object) w r) t.database
  pub laid : EachSequential (λ w r. AllByRecursion (IsLaid c) r.segments) t.database
  pub written : IsWatched c v → EachSequential (λ w r. AllByRecursion (IsWrittenOn c) r.segments) t.database

-- none of a backup's files, and no segment that it needs as long as it is protected, is in the file of the backup that is written
abbrev pub IsAside : Option Job → (young : Type 0) → (file : ℕ) → Taken → Type 0
IsAside None young file t = Unit {0}
IsAside (Some job) young file t =
    AllByRecursion (λ n. n ≡ job.file → ⊥) (files_of file t.increments) × (young → EachSequential (λ w r. AllByRecursion (λ s. s.file ≡ job.file → ⊥) r.segments) t.database)

-- A backup that a database lists as whole: its files can be read where it is protected or of this run, one of this run gives the run's database of its number, and where it is protected all that
-- its copies need is there. As long as no fault has halted the hall none of that is in the file of the backup that is written.
pub record IsListedAs (h : History) (c : Core) (job : Option Job) (v : Inv) (file : ℕ) (b : Backup) : Type 0 where
  pub backup : Taken
  pub readable : IsReadable h file b backup
  pub own : c.base.number ≤ b.number → backup.database ≡ inv_at (b.number - c.base.number) c
  pub files : AllByRecursion (IsFiled c) (files_of file backup.increments)
  pub none_here : AllByRecursion (IsNoVolume v) (files_of file backup.increments)
  pub smaller : AllByRecursion (λ i. i.after < file) backup.increments
  pub provided : is_protected v.today b ≡ true → IsProvided v b backup
  pub covered : is_protected v.today b ≡ true → IsCovered h c v backup
  pub aside : c.fault ≡ None → IsAside job (is_protected v.today b ≡ true) file backup

-- each that is protected or of this run
abbrev pub HasBackups : History → Core → Option Job → Inv → Type 0
HasBackups h c job v = (file : ℕ) (b : Backup) → backup_at file v ≡ Some b → b.is_done ≡ true → (is_protected v.today b ≡ true) ⊎ (c.base.number ≤ b.number) → IsListedAs h c job v file b

-- An image backs a database: it keeps its backups, and the database has what these need, so that a hall may be opened there that keeps them, too.
pub record Backs (image : ℕ → List ℕ) (v : Inv) : Type 0 where
  pub before : AreBefore v
  pub each : (file : ℕ) (b : Backup) → IsProtected v file b
      → (t : Taken) × GivesBack image file b t × AllByRecursion (IsNoVolume v) (files_of file t.increments) × AllByRecursion (λ i. i.after < file) t.increments × IsProvided v b t

-- at every moment since the opening each image backs the database to which it recovers
abbrev pub AlwaysBacked : (opened : ℕ) → History → Type 0
AlwaysBacked opened h = (moment : ℕ) (image : ℕ → List ℕ) → opened ≤ moment → moment ≤ now h → ImageAt h moment image → (v : Inv) → Recovers meaning image v → Backs image v

-- ---- a backup that is written

-- What the backups that a written one follows give: nothing, where it is of the whole database; else whatever a stop right now leaves of their files leads to a database of which its own
-- transactions make the one that it gives.
abbrev pub LeadsTo : History → (file : ℕ) → List Increment → Inv → Type 0
LeadsTo h file [] v = Unit {0}
LeadsTo h file (i ∷ older) v =
    (i.after < file)
    × ((base : Inv) × ((files : ℕ → List ℕ) → LeftNow (IsOneOf (files_of i.after older)) h files → Gives meaning files i.after i.number older base) × Makes meaning base i.records v)

-- what it writes: the database, or the increment up to it
abbrev pub WritesIt : List ℕ → List Increment → Inv → Type 0
WritesIt payload [] v = Spells meaning second_form payload v
WritesIt payload (i ∷ older) v = IsIncrement payload i × (last_number i ≡ v.number)

-- The backup that is written is to give this back: its payload holds it, with the backups that it follows, of which no file is a volume's, and each has a smaller number than its own; each
-- database that a stop may bring back, and that lists it, has what its copies need while it is protected, and there that is covered; and none of that is in its own file.
pub record IsWriting (h : History) (c : Core) (job : Job) (t : Taken) : Type 0 where
  pub number : job.number ≡ t.database.number
  pub small : length job.payload < 2 ^ 64
  pub possible : IsBackupFile job.file
  pub holds : WritesIt job.payload t.increments t.database
  pub own : (c.base.number ≤ job.number) × (job.number ≤ c.base.number + length c.journal) × (t.database ≡ inv_at (job.number - c.base.number) c)
  pub leads : LeadsTo h job.file t.increments t.database
  pub never : IsNever c job.file
  pub files : AllByRecursion (IsFiled c) (map (λ i. i.after) t.increments)
  pub smaller : AllByRecursion (λ i. i.after < job.file) t.increments
  pub listed : AllByRecursion (λ v. IfSome (backup_at job.file v) (λ b. IsRow b t × (is_protected v.today b ≡ true → IsProvided v b t × IsCovered h c v t))) (left_open c)
  pub aside : EachSequential (λ w r. AllByRecursion (λ s. s.file ≡ job.file → ⊥) r.segments) t.database

-- a backup in progress, as long as no fault has halted the hall
abbrev pub WritesBackup : History → Core → Option Job → Type 0
WritesBackup h c None = Unit {0}
WritesBackup h c (Some job) = c.fault ≡ None → (t : Taken) × IsWriting h c job t

-- What no stop takes from a hall whose store was sound when it was opened, the backups of its base included: at every moment each image backs its own database, and those of each
-- database that a stop may bring back now; and what a backup in progress will need is there.
pub record KeepsAllBackups (c : Core) (opened : ℕ) (h : History) (job : Option Job) : Type 0 where
  pub always : AlwaysBacked opened h
  pub before : AllByRecursion AreBefore (left_open c)
  pub now : AllByRecursion (HasBackups h c job) (left_open c)
  pub writes : WritesBackup h c job
