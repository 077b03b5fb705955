-- What whole files recover to. Lists of entries stand newest first.
use Rattle.std.specs.Prelude.{◌≡◌, ◌⊎◌, ℕ, ◌+◌, ◌<◌, ◌≤◌, ◌^◌, List, [], ◌∷◌, ◌++◌, length}
use Rattle.std.specs.List.{AllByRecursion}
use Rattle.log_file.specs.Blocks.{Fits, blocks, IsClosed, LogIs, LogEnds}
use Rattle.log_file.specs.Blocks as log
use Rattle.db_image.specs.Images as image
use Rattle.db_image.specs.declared.mark.Mark.TheVariants.{Server}
use Rattle.db_image.specs.Images.{HasImage}
use Rattle.entries.specs.declared.entry.Entry.{Entry}
use Rattle.fields.specs.Editions.{Edition, second_form}
use Rattle.entries.specs.EntryForm.{entry_in, SpellsIn}
use Rattle.entries.specs.Meaning.{Meaning, IsLegal}
use Rattle.entries.specs.Meaning as database
use Rattle.vault.specs.Files.{image_file, log_file}

-- No image with an open gate is in the file, or one of an older generation.
abbrev pub Older : ℕ → ℕ → List ℕ → Type 0
Older generation file bytes = IsClosed bytes ⊎ ((older : ℕ) × (payload : List ℕ) × HasImage file Server bytes older payload × (older < generation))

-- Of the images with an open gate, the one of this generation and payload has the greater generation.
pub record Newest (files : ℕ → List ℕ) (generation : ℕ) (payload : List ℕ) : Type 0 where
  pub stands : HasImage (image_file generation) Server (files (image_file generation)) generation payload
  pub other : Older generation (image_file (generation + 1)) (files (image_file (generation + 1)))

-- the records of entries in a form, in the order in which they stand in the log
abbrev pub records_in : Edition → List Entry → List (List ℕ)
records_in form [] = []
records_in form (newest ∷ earlier) = records_in form earlier ++ (entry_in form).spell newest ∷ []

-- the same in the form that is written
abbrev pub records_of : List Entry → List (List ℕ)
records_of entries = records_in second_form entries

-- the database after entries
abbrev pub after_all : {D : Type 0} → Meaning D → D → List Entry → D
after_all m base [] = base
after_all m base (newest ∷ earlier) = m.after (after_all m base earlier) newest

-- Each entry is legal where it stands, and has a spelling in the form.
abbrev pub AllLegalIn : {D : Type 0} → Edition → Meaning D → D → List Entry → Type 0
AllLegalIn form m base [] = Unit {0}
AllLegalIn form m base (newest ∷ earlier) = (entry_in form).Fits newest × IsLegal m (after_all m base earlier) newest × AllLegalIn form m base earlier

-- the same in the form that is written
abbrev pub AllLegal : {D : Type 0} → Meaning D → D → List Entry → Type 0
AllLegal m base entries = AllLegalIn second_form m base entries

-- The files recover to this database. The payload of the newest image is the spelling of a database in one of the forms; its log has entries
-- in the same form that are legal one after another; and this is the database after them. `HasLog` says what it is to be a log of records.
pub record RecoversBy {D : Type 0} (m : Meaning D) (HasLog : List ℕ → List (List ℕ) → Type 0) (files : ℕ → List ℕ) (d : D) : Type 0 where
  pub form : Edition
  pub generation : ℕ
  pub base : D
  pub entries : List Entry
  pub valid : m.Valid form base
  pub newest : Newest files generation (m.spelled form base)
  pub log : HasLog (files (log_file generation)) (records_in form entries)
  pub legal : AllLegalIn form m base entries
  pub gives : d ≡ after_all m base entries

-- The log ends at the first gate that isn't open, or at the file's end.
abbrev pub Recovers : {D : Type 0} → Meaning D → (ℕ → List ℕ) → D → Type 0
Recovers m files d = RecoversBy m LogIs files d

-- The same, and the gate that ends the log lies within its file.
abbrev pub RecoversWithin : {D : Type 0} → Meaning D → (ℕ → List ℕ) → D → Type 0
RecoversWithin m files d = RecoversBy m LogEnds files d

-- The newest image is of this generation and is this database, in the form that is written, and its log is empty.
pub record IsBase {D : Type 0} (m : Meaning D) (number : ℕ) (d : D) (files : ℕ → List ℕ) : Type 0 where
  pub recovers : RecoversWithin m files d
  pub written : recovers.form ≡ second_form
  pub by_image : recovers.generation ≡ number
  pub alone : recovers.entries ≡ []

-- the generation behind this one; behind the last, 2^62 - 1, it is 0 again
abbrev pub IsNext : ℕ → ℕ → Type 0
IsNext generation next = ((generation + 1 < 2 ^ 62) × (next ≡ generation + 1)) ⊎ ((2 ^ 62 ≤ generation + 1) × (next ≡ 0))

-- Of which generation an image is that is put in the place of what the files recover to: of the next one; where they recover to nothing, of 0.
abbrev pub IsInstalledAs : {D : Type 0} → Meaning D → (ℕ → List ℕ) → ℕ → Type 0
IsInstalledAs {D} m files next = ((d : D) × (recovers : Recovers m files d) × IsNext recovers.generation next) ⊎ (((d : D) → Recovers m files d → ⊥) × (next ≡ 0))

-- No image has an open gate.
abbrev pub NotFormatted : (ℕ → List ℕ) → Type 0
NotFormatted files = IsClosed (files 0) × IsClosed (files 1)

-- no damage is in front of the payload of the file's image
abbrev pub Headed : ℕ → List ℕ → Type 0
Headed file bytes = IsClosed bytes ⊎ ((number : ℕ) × (payload : List ℕ) × HasImage file Server bytes number payload)

-- the payload is no database's, in either form
abbrev pub IsForeign : {D : Type 0} → Meaning D → List ℕ → Type 0
IsForeign {D} m payload = (form : Edition) (d : D) → database.Spells m form payload d → ⊥

-- the record is no entry of the form that is legal on the database
abbrev pub IsRefused : {D : Type 0} → Edition → Meaning D → D → List ℕ → Type 0
IsRefused form m d payload = (e : Entry) → SpellsIn form payload e → IsLegal m d e → ⊥

-- Behind these entries stands a record that is no entry of the form, or isn't legal there. The place is behind its gate and length.
pub record RefusedAt {D : Type 0} (form : Edition) (m : Meaning D) (base : D) (bytes : List ℕ) (entries : List Entry) (at : ℕ) : Type 0 where
  pub payload : List ℕ
  pub rest : List ℕ
  pub whole : bytes ≡ blocks (records_in form entries ++ payload ∷ []) ++ rest
  pub fits : AllByRecursion Fits (records_in form entries ++ payload ∷ [])
  pub refused : IsRefused form m (after_all m base entries) payload
  pub place : at ≡ length (blocks (records_in form entries)) + 5

-- the first damage of the log of a base, behind entries of its form that are legal
pub record LogDamaged {D : Type 0} (form : Edition) (m : Meaning D) (base : D) (bytes : List ℕ) (at : ℕ) : Type 0 where
  pub entries : List Entry
  pub legal : AllLegalIn form m base entries
  pub damage : log.DamagedAt bytes (records_in form entries) at ⊎ RefusedAt form m base bytes entries at

-- the newest image's payload is a database's, and its log is damaged
pub record DamagedBehind {D : Type 0} (m : Meaning D) (files : ℕ → List ℕ) (file at : ℕ) : Type 0 where
  pub form : Edition
  pub generation : ℕ
  pub base : D
  pub valid : m.Valid form base
  pub newest : Newest files generation (m.spelled form base)
  pub is_log : file ≡ log_file generation
  pub damage : LogDamaged form m base (files file) at

-- The files are damaged, and the first finding is this one: the head of image 0, the head of image 1, the payload of the newest
-- image, or its log.
abbrev pub IsDamaged : {D : Type 0} → Meaning D → (ℕ → List ℕ) → ℕ → ℕ → Type 0
IsDamaged m files file at = ((file ≡ 0) × image.DamagedAt 0 Server (files 0) at)
    ⊎ (((file ≡ 1) × Headed 0 (files 0) × image.DamagedAt 1 Server (files 1) at)
    ⊎ (((generation : ℕ) × (payload : List ℕ) × Newest files generation payload × IsForeign m payload × (file ≡ image_file generation) × (at ≡ 24))
    ⊎ DamagedBehind m files file at))
