-- What opening finds and does, and what formatting does.
use Rattle.std.specs.Prelude.{◌≡◌, ◌⊎◌, ℕ, ◌+◌, ◌-◌, ◌<◌, ◌≤◌, ◌^◌, ◌==◌, nat_lt, if◌then◌else◌, Bool, true, false, ◌||◌, List, [], ◌∷◌, length, Option, None, Some, Result, Ok, Err, OnOk, IfOk, IfErr}
use Rattle.store_api.specs.Cause.{Rose}
use Rattle.store_api.specs.Disk.{History, standing, reads, now, settled, ImageAt}
use Rattle.store_api.specs.Runs.{GoesOn, EachImage}
use Rattle.kinds.specs.declared.refusal.OpenRefused.{OpenRefused}
use Rattle.kinds.specs.declared.refusal.OpenRefused.TheVariants as refused
use Rattle.log_file.specs.Blocks.{blocks, LogIs, LogEnds}
use Rattle.log_file.specs.Starts.{KeepsLeft}
use Rattle.log_file.specs.Sure.{IsSure}
use Rattle.log_file.specs.Sure as log
use Rattle.db_image.specs.declared.mark.Mark.TheVariants.{Server}
use Rattle.db_image.specs.Images as image
use Rattle.db_image.specs.Steps.{FirmShut}
use Rattle.entries.specs.declared.entry.Entry.{Entry}
use Rattle.fields.specs.Editions.{Edition, first_form, second_form}
use Rattle.entries.specs.EntryForm.{SpellsIn}
use Rattle.entries.specs.Meaning.{Meaning, IsLegal, Spells}
use Rattle.vault.specs.Files.{image_file, IsOurs}
use Rattle.vault.specs.Recovery.{Newest, Headed, NotFormatted, IsDamaged, IsForeign, IsRefused, LogDamaged, Recovers, RecoversWithin, IsBase, IsNext, IsInstalledAs, records_in, after_all, AllLegalIn}
use Rattle.vault.specs.Vaults.{State, IsGoodIn, IsGood}

-- The store is sound: each image of now recovers to a database, and the gate that ends its log lies within its file.
abbrev pub IsSound : {D : Type 0} → Meaning D → History → Type 0
IsSound {D} m h = (files : ℕ → List ℕ) → ImageAt h (now h) files → (d : D) × RecoversWithin m files d

-- Calls that change nothing that is read, and after which a stop leaves no more than it might have before.
pub record Calm (old new : History) : Type 0 where
  pub goes : GoesOn IsOurs old new
  pub same : (file : ℕ) → reads new file ≡ reads old file
  pub images : EachImage (now old) new (λ files. ImageAt old (now old) files)

-- the files below this one were made durable
pub record SettledBelow (count : ℕ) (old new : History) : Type 0 where
  pub calm : Calm old new
  pub durable : (file : ℕ) → file < count → standing new file ≡ settled (reads old file)

-- All files of the vault were made durable, or that failed.
pub record SettledAll {T E : Type 0} (result : Result T E) (old new : History) : Type 0 where
  pub calm : Calm old new
  pub durable : OnOk result ((file : ℕ) → IsOurs file → standing new file ≡ settled (reads old file))

-- a refusal that doesn't speak of the files' bytes
abbrev pub SaysNothing : OpenRefused → Type 0
SaysNothing (refused.Damaged file at) = ⊥
SaysNothing refused.NotFormatted = ⊥
SaysNothing (refused.ReadFault file) = Unit {0}
SaysNothing refused.RunFull = Unit {0}
SaysNothing refused.Memory = Unit {0}

-- the file begins with the byte 1
abbrev pub has_open_gate : List ℕ → Bool
has_open_gate [] = false
has_open_gate (byte ∷ bytes) = byte == 1

-- one of the two images has an open gate
abbrev pub is_formatted : (ℕ → List ℕ) → Bool
is_formatted files = has_open_gate (files 0) || has_open_gate (files 1)

-- of two generations of which each may be there, the greater
abbrev pub greater : Option ℕ → Option ℕ → Option ℕ
greater None second = second
greater (Some first) None = Some first
greater (Some first) (Some second) = Some (if nat_lt first second then second else first)

-- The heads of the images are damaged, and the first finding is this one.
abbrev pub HeadsDamaged : (ℕ → List ℕ) → ℕ → ℕ → Type 0
HeadsDamaged files file at = ((file ≡ 0) × image.DamagedAt 0 Server (files 0) at) ⊎ ((file ≡ 1) × Headed 0 (files 0) × image.DamagedAt 1 Server (files 1) at)

-- why there is no newest image
abbrev pub HeadsRefused : (ℕ → List ℕ) → OpenRefused → Type 0
HeadsRefused files (refused.Damaged file at) = HeadsDamaged files file at
HeadsRefused files refused.NotFormatted = NotFormatted files
HeadsRefused files (refused.ReadFault file) = Unit {0}
HeadsRefused files refused.RunFull = Unit {0}
HeadsRefused files refused.Memory = Unit {0}

-- which image is the newest
abbrev pub FindsNewest : (ℕ → List ℕ) → Result ℕ OpenRefused → Type 0
FindsNewest files (Ok generation) = (payload : List ℕ) × Newest files generation payload
FindsNewest files (Err refusal) = HeadsRefused files refusal

-- why a payload gives no database
abbrev pub BaseRefused : {D : Type 0} → Meaning D → ℕ → List ℕ → OpenRefused → Type 0
BaseRefused m generation payload (refused.Damaged file at) = (file ≡ image_file generation) × (at ≡ 24) × IsForeign m payload
BaseRefused m generation payload refused.NotFormatted = ⊥
BaseRefused m generation payload (refused.ReadFault file) = Unit {0}
BaseRefused m generation payload refused.RunFull = Unit {0}
BaseRefused m generation payload refused.Memory = Unit {0}

-- the form, by whether it is the first
abbrev pub form_of : Bool → Edition
form_of true = first_form
form_of false = second_form

-- which database a payload is the spelling of, and whether in the first form
abbrev pub FindsBase : {D : Type 0} → Meaning D → ℕ → List ℕ → Result (D × Bool) OpenRefused → Type 0
FindsBase m generation payload (Ok found) = Spells m (form_of found.1) payload found.0
FindsBase m generation payload (Err refusal) = BaseRefused m generation payload refusal

-- an entry was applied, or it isn't legal
abbrev pub AppliesEntry : {D : Type 0} → Meaning D → Entry → D → D → Bool → Type 0
AppliesEntry m e old new true = IsLegal m old e × (new ≡ m.after old e)
AppliesEntry m e old new false = IsLegal m old e → ⊥

-- a record was applied, or it is no entry of the form that is legal there
abbrev pub Applies : {D : Type 0} → Edition → Meaning D → List ℕ → D → D → Bool → Type 0
Applies form m payload old new true = (e : Entry) × SpellsIn form payload e × IsLegal m old e × (new ≡ m.after old e)
Applies form m payload old new false = IsRefused form m old payload

-- a refusal that says that a base's log is damaged says where
abbrev pub LogRefused : {D : Type 0} → Edition → Meaning D → D → ℕ → List ℕ → OpenRefused → Type 0
LogRefused form m base file bytes (refused.Damaged which at) = (which ≡ file) × LogDamaged form m base bytes at
LogRefused form m base file bytes refused.NotFormatted = ⊥
LogRefused form m base file bytes (refused.ReadFault which) = Unit {0}
LogRefused form m base file bytes refused.RunFull = Unit {0}
LogRefused form m base file bytes refused.Memory = Unit {0}

-- the log has these entries of the form, legal one after another on the base, and this is the database after them
pub record Replays {D : Type 0} (form : Edition) (m : Meaning D) (base : D) (bytes : List ℕ) (d : D) (end : ℕ) : Type 0 where
  pub entries : List Entry
  pub log : LogIs bytes (records_in form entries)
  pub legal : AllLegalIn form m base entries
  pub gives : d ≡ after_all m base entries
  pub is_end : end ≡ length (blocks (records_in form entries))

-- A log was made durable and its entries were applied. Nothing that is read changed.
pub record Replayed {D : Type 0} (form : Edition) (m : Meaning D) (base : D) (file : ℕ) (result : Result log.State OpenRefused) (d : D) (old new : History) : Type 0 where
  pub goes : GoesOn (λ other. other ≡ file) old new
  pub same : reads new file ≡ reads old file
  pub left : KeepsLeft file old new
  pub replays : IfOk result (λ log. Replays form m base (reads old file) d log.end)
  pub sure : OnOk result ((payloads : List (List ℕ)) → LogEnds (reads old file) payloads → IsSure new file payloads (length (blocks payloads)))
  pub damaged : IfErr result (LogRefused form m base file (reads old file))

-- a refusal that says that the files are damaged or not formatted is right
abbrev pub SaysWhy : {D : Type 0} → Meaning D → (ℕ → List ℕ) → OpenRefused → Type 0
SaysWhy m files (refused.Damaged file at) = IsDamaged m files file at
SaysWhy m files refused.NotFormatted = NotFormatted files
SaysWhy m files (refused.ReadFault file) = Unit {0}
SaysWhy m files refused.RunFull = Unit {0}
SaysWhy m files refused.Memory = Unit {0}

-- The newest image is of this generation, and both images' files are on the disk.
pub record ImagesAre (generation : ℕ) (old new : History) : Type 0 where
  pub payload : List ℕ
  pub newest : Newest (reads old) generation payload
  pub durable : (file : ℕ) → file < 2 → standing new file ≡ settled (reads old file)

-- What the files recover to was read, and whether it stands there in the first form. Nothing that is read changed, and each image since is one that a stop might
-- have left at the start. What refuses as not formatted or damaged says what the files are. Over a store that was sound, or that is sound then, no stop takes anything away.
pub record Recovered {D : Type 0} (m : Meaning D) (result : Result (State D × Bool) OpenRefused) (old new : History) : Type 0 where
  pub calm : Calm old new
  pub recovers : IfOk result (λ found. (is : Recovers m (reads old) found.0.database) × (is.form ≡ form_of found.1) × (is.generation ≡ found.0.generation))
  pub images : IfOk result (λ found. ImagesAre found.0.generation old new)
  pub says : IfErr result (SaysWhy m (reads old))
  pub good : IsSound m old → IfOk result (λ found. IsGoodIn (form_of found.1) m found.0 new)
  pub good_now : IsSound m new → IfOk result (λ found. IsGoodIn (form_of found.1) m found.0 new)

-- A vault that was read was written in its next generation, in the form that is written. Each image since recovers to its database. On Ok it is the same vault there, and no stop takes anything of it away, though it be only
-- that the images from which it was read are on the disk.
pub record Rewritten {D : Type 0} (m : Meaning D) (vault : State D) (result : Result (State D) OpenRefused) (old new : History) : Type 0 where
  pub goes : GoesOn IsOurs old new
  pub since : (form : Edition) → IsGoodIn form m vault old → EachImage (now old) new (λ files. RecoversWithin m files vault.database)
  pub good : IfOk result (λ next. (form : Edition) → IsGoodIn form m vault old → IsGood m next new)
  pub good_now : IfOk result (λ next. (start : History) → ImagesAre vault.generation start old → IsGood m next new)

-- the files recover to a database to which those that a stop might have left then recover, too
pub record HadOne {D : Type 0} (m : Meaning D) (old : History) (files : ℕ → List ℕ) : Type 0 where
  pub database : D
  pub recovers : RecoversWithin m files database
  pub start : ℕ → List ℕ
  pub left : ImageAt old (now old) start
  pub same : RecoversWithin m start database

-- What opening takes from the files: nothing. Only the vault's own are written. Where what they recover to isn't in the first form, nothing that is read changed, and each image since is one that a stop might have left at the
-- start. Of a sound store, also of one in the first form, each image since recovers to a database to which one recovers that a stop might have left at the start.
pub record Spared {D : Type 0} (m : Meaning D) (old new : History) : Type 0 where
  pub goes : GoesOn IsOurs old new
  pub calm : ((d : D) (is : Recovers m (reads old) d) → is.form ≡ second_form) → Calm old new
  pub since : IsSound m old → EachImage (now old) new (HadOne m old)

-- Files recover to this database, and this is the generation as which they are opened: that of their newest image or, where that is in the first form, the next one.
abbrev pub OpenedAs : {D : Type 0} → Meaning D → (ℕ → List ℕ) → D → ℕ → Type 0
OpenedAs m files d generation = (is : Recovers m files d) × (((is.form ≡ second_form) × (generation ≡ is.generation)) ⊎ ((is.form ≡ first_form) × (generation ≡ is.generation + 1)))

-- The vault was opened. On Ok the files recovered to the vault's database; what refuses as not formatted or damaged says what they are. Over a store that was sound, or that is sound
-- then, no stop takes anything of the vault away, which is in the form that is written.
pub record Opened {D : Type 0} (m : Meaning D) (result : Result (State D) OpenRefused) (old new : History) : Type 0 where
  pub spared : Spared m old new
  pub opens : IfOk result (λ vault. OpenedAs m (reads old) vault.database vault.generation)
  pub says : IfErr result (SaysWhy m (reads old))
  pub good : IsSound m old → IfOk result (λ vault. IsGood m vault new)
  pub good_now : IsSound m new → IfOk result (λ vault. IsGood m vault new)

-- no transaction was made in the vault and no checkpoint begun, and no fault has halted it
abbrev pub IsNew : {D : Type 0} → State D → Type 0
IsNew vault = (vault.journal ≡ []) × (vault.forced ≡ 0) × (vault.fault ≡ None) × (vault.pending ≡ None)

-- Why opening was refused: a call on a file of the vault failed, the moment is all but the last, the files, or want of memory.
abbrev pub MayRefuseOpening : (before after : ℕ → ℕ) (moment : ℕ) → OpenRefused → Type 0
MayRefuseOpening before after moment (refused.ReadFault file) = IsOurs file × Rose (before file) (after file)
MayRefuseOpening before after moment refused.NotFormatted = Unit {0}
MayRefuseOpening before after moment (refused.Damaged file at) = IsOurs file
MayRefuseOpening before after moment refused.RunFull = 2 ^ 62 - 2 ^ 24 ≤ moment
MayRefuseOpening before after moment refused.Memory = Unit {0}

-- Why it couldn't be told whether an image has an open gate: a call on an image's file failed, the moment is all but the last, or want of memory.
abbrev pub MayRefuseLooking : (before after : ℕ → ℕ) (moment : ℕ) → OpenRefused → Type 0
MayRefuseLooking before after moment (refused.ReadFault file) = (file < 2) × Rose (before file) (after file)
MayRefuseLooking before after moment refused.NotFormatted = ⊥
MayRefuseLooking before after moment (refused.Damaged file at) = ⊥
MayRefuseLooking before after moment refused.RunFull = 2 ^ 62 - 2 ^ 24 ≤ moment
MayRefuseLooking before after moment refused.Memory = Unit {0}

-- Both images' gates were shut and both logs were begun, the files being on the disk. On Ok no stop opens a gate.
pub record Cleared {T E : Type 0} (result : Result T E) (old new : History) : Type 0 where
  pub goes : GoesOn IsOurs old new
  pub shut : OnOk result (((file : ℕ) → file < 2 → standing old file ≡ settled (reads old file)) → FirmShut (standing new 0) × FirmShut (standing new 1))

-- The database was put into the files. On Ok each image of now is it, as generation 0 with an empty log.
pub record Formatted {D T E : Type 0} (m : Meaning D) (d : D) (result : Result T E) (old new : History) : Type 0 where
  pub goes : GoesOn IsOurs old new
  pub installed : OnOk result (EachImage (now new) new (IsBase m 0 d))

-- A database was put into the files of a vault, whose images are on the disk, as its next generation with an empty log. Where the vault was good and its
-- generation isn't the last, each image since recovers to what it did, or to that database.
pub record PutBehind {D T E : Type 0} (m : Meaning D) (vault : State D) (d : D) (result : Result T E) (old new : History) : Type 0 where
  pub goes : GoesOn IsOurs old new
  pub installed : OnOk result ((start : History) → ImagesAre vault.generation start old → (next : ℕ) × IsNext vault.generation next × EachImage (now new) new (IsBase m next d))
  pub since : vault.generation + 1 < 2 ^ 62 → (form : Edition) → IsGoodIn form m vault old → EachImage (now old) new (λ files. RecoversWithin m files vault.database ⊎ RecoversWithin m files d)

-- no newest image is of the last generation
abbrev pub NotLast : (ℕ → List ℕ) → Type 0
NotLast files = (generation : ℕ) (payload : List ℕ) → Newest files generation payload → generation + 1 < 2 ^ 62

-- The same, over a store that may be in use: behind the generation of what its files recovered to. Where it is sound, and its newest image not of the last generation, each image since recovers to a database that one had at the start, or to
-- the one that is put in its place.
pub record Installed {D T E : Type 0} (m : Meaning D) (d : D) (result : Result T E) (old new : History) : Type 0 where
  pub goes : GoesOn IsOurs old new
  pub installed : OnOk result ((next : ℕ) × IsInstalledAs m (reads old) next × EachImage (now new) new (IsBase m next d))
  pub since : IsSound m old → NotLast (reads old) → EachImage (now old) new (λ files. HadOne m old files ⊎ RecoversWithin m files d)

-- Why no database was put into the files: a call on a file of the vault failed, the moment is all but the last, or want of memory.
abbrev pub MayRefuseFormatting : (before after : ℕ → ℕ) (moment : ℕ) → OpenRefused → Type 0
MayRefuseFormatting before after moment (refused.ReadFault file) = IsOurs file × Rose (before file) (after file)
MayRefuseFormatting before after moment refused.NotFormatted = ⊥
MayRefuseFormatting before after moment (refused.Damaged file at) = ⊥
MayRefuseFormatting before after moment refused.RunFull = 2 ^ 62 - 2 ^ 24 ≤ moment
MayRefuseFormatting before after moment refused.Memory = Unit {0}
