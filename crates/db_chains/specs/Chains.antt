-- What a database backup gives. One that holds a whole database gives that database. One that holds the transactions behind another backup gives what they make of the database that the other one
-- gives; so a full backup and the increments behind it are a chain.
use Rattle.std.specs.Prelude.{◌≡◌, ◌≢◌, ◌⊎◌, ℕ, ◌+◌, ◌^◌, ◌<◌, ◌≤◌, List, [], ◌∷◌}
use Rattle.db_image.specs.declared.mark.Mark.TheVariants.{Backup}
use Rattle.db_image.specs.Images.{HasImage}
use Rattle.entries.specs.declared.entry.Entry.{Entry}
use Rattle.entries.specs.EntryForm.{Spells}
use Rattle.entries.specs.Meaning.{Meaning, IsLegal}
use Rattle.backup_payloads.specs.Increments.{Increment, last_number}
use Rattle.backup_payloads.specs.Payloads.{IsPayload}
use Rattle.backup_payloads.specs.declared.payload.Payload.{Payload}
use Rattle.backup_payloads.specs.declared.payload.Payload.TheVariants.{Whole, Since}

-- A database backup stands in a file from 4 on, below the two last numbers.
abbrev pub IsBackupFile : ℕ → Type 0
IsBackupFile file = (4 ≤ file) × (file + 2 < 2 ^ 32)

-- the number of the last transaction that a backup holds
abbrev pub last_of : {D : Type 0} → Meaning D → Payload D → ℕ
last_of m (Whole d) = m.number d
last_of m (Since i) = last_number i

-- The file has a backup image with an open gate, whose payload is this. Its number is that of the last transaction that it holds.
pub record IsBackup {D : Type 0} (m : Meaning D) (files : ℕ → List ℕ) (file number : ℕ) (held : Payload D) : Type 0 where
  pub payload : List ℕ
  pub possible : IsBackupFile file
  pub image : HasImage file Backup (files file) number payload
  pub holds : IsPayload m payload held
  pub numbered : number ≡ last_of m held

-- the file is no backup
abbrev pub NoBackup : {D : Type 0} → Meaning D → (ℕ → List ℕ) → ℕ → Type 0
NoBackup {D} m files file = (number : ℕ) (held : Payload D) → IsBackup m files file number held → ⊥

-- The records are transactions in the form that is written, each legal where it stands, and they make this of a database.
abbrev pub Makes : {D : Type 0} → Meaning D → D → List (List ℕ) → D → Type 0
Makes m base [] d = d ≡ base
Makes m base (bytes ∷ records) d = (e : Entry) × Spells bytes e × IsLegal m base e × Makes m (m.after base e) records d

-- the record is no transaction in that form that is legal there
abbrev pub IsUnfit : {D : Type 0} → Meaning D → D → List ℕ → Type 0
IsUnfit m base bytes = (e : Entry) → Spells bytes e → IsLegal m base e → ⊥

-- one of the records is no such transaction, and those before it are
abbrev pub Fails : {D : Type 0} → Meaning D → D → List (List ℕ) → Type 0
Fails m base [] = ⊥
Fails m base (bytes ∷ records) = IsUnfit m base bytes ⊎ ((e : Entry) × Spells bytes e × IsLegal m base e × Fails m (m.after base e) records)

-- The backup of this number in the file gives this database: it holds it; or it follows a backup in a file of a smaller number, of the number that it says, and its transactions make the database of
-- the one that this other gives. The increments of the chain stand newest first.
abbrev pub Gives : {D : Type 0} → Meaning D → (ℕ → List ℕ) → (file number : ℕ) → List Increment → D → Type 0
Gives m files file number [] d = IsBackup m files file number (Whole d)
Gives {D} m files file number (i ∷ older) d =
    IsBackup m files file number (Since i) × (i.after < file) × ((base : D) × Gives m files i.after i.number older base × Makes m base i.records d)

-- the backup in the file gives this database
pub record IsGiven {D : Type 0} (m : Meaning D) (files : ℕ → List ℕ) (file : ℕ) (d : D) : Type 0 where
  pub number : ℕ
  pub increments : List Increment
  pub gives : Gives m files file number increments d

-- ---- what breaks a chain

-- A backup follows another: the file that it names has a smaller number, and no backup of another number than it says.
pub record Follows {D : Type 0} (m : Meaning D) (files : ℕ → List ℕ) (file : ℕ) (i : Increment) : Type 0 where
  pub number : ℕ
  pub backup : IsBackup m files file number (Since i)
  pub before : i.after < file
  pub known : (other : ℕ) (held : Payload D) → IsBackup m files i.after other held → other ≡ i.number

-- the file that a backup names hasn't a smaller number, or it has a backup of another number than the first one says
abbrev pub IsAstray : {D : Type 0} → Meaning D → (ℕ → List ℕ) → ℕ → Increment → Type 0
IsAstray {D} m files file i = (file ≤ i.after) ⊎ ((other : ℕ) × (held : Payload D) × IsBackup m files i.after other held × (other ≢ i.number))

-- A chain ends at the file: it is no backup, or the backup there doesn't follow another as it should.
abbrev pub IsEnd : {D : Type 0} → Meaning D → (ℕ → List ℕ) → ℕ → Type 0
IsEnd {D} m files file = NoBackup m files file ⊎ ((number : ℕ) × (i : Increment) × IsBackup m files file number (Since i) × IsAstray m files file i)

-- going back from the file, by these increments, newest first, one comes to an end at this file
abbrev pub EndsAt : {D : Type 0} → Meaning D → (ℕ → List ℕ) → ℕ → List Increment → ℕ → Type 0
EndsAt m files file [] at = (at ≡ file) × IsEnd m files file
EndsAt m files file (i ∷ older) at = Follows m files file i × EndsAt m files i.after older at

-- The backup of this number in the file is one of a chain in which, going forward, this file's is the first that holds a record that is no transaction which may be made there.
abbrev pub FailsAt : {D : Type 0} → Meaning D → (ℕ → List ℕ) → (file number : ℕ) → List Increment → ℕ → Type 0
FailsAt m files file number [] at = ⊥
FailsAt {D} m files file number (i ∷ older) at =
    IsBackup m files file number (Since i) × (i.after < file)
    × (FailsAt m files i.after i.number older at ⊎ ((at ≡ file) × ((base : D) × Gives m files i.after i.number older base × Fails m base i.records)))

-- The backup in the file gives no database, for what this file is: going back from the first, it is the first that isn't what it has to be; or else, going forward, the first one with a
-- record that is no transaction which may be made there.
abbrev pub IsBrokenAt : {D : Type 0} → Meaning D → (ℕ → List ℕ) → ℕ → ℕ → Type 0
IsBrokenAt m files file at =
    ((increments : List Increment) × EndsAt m files file increments at) ⊎ ((number : ℕ) × (increments : List Increment) × FailsAt m files file number increments at)
