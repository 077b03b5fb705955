-- What is kept of a hall at every moment.
use Rattle.std.specs.Prelude.{◌≡◌, ◌⊎◌, ℕ, ◌+◌, ◌-◌, ◌≤◌, ◌^◌, ◌==◌, ◌&&◌, ◌||◌, Bool, is_some, true, false, List, [], ◌∷◌, length, take, drop, Option, None, Some, IfSome}
use Rattle.std.specs.List.{AllByRecursion, slice_get}
use Rattle.store_api.specs.Disk.{History, reads, now, ImageAt}
use Rattle.fields.specs.Editions.{second_form}
use Rattle.entries.specs.EntryForm.{entry as entry_form}
use Rattle.entries.specs.Meaning.{Spells}
use Rattle.entries.specs.declared.entry.Entry.{Entry}
use Rattle.contents.specs.Contents.{FramesHave, HaveAll, Holds, InImage, InStore, TookHave}
use Rattle.inventory.specs.Meant.{meaning}
use Rattle.inventory_rows.specs.Search.{version, versions}
use Rattle.inventory_rows.specs.State.{Inv}
use Rattle.inventory_rules.specs.Backups.{backup_at, is_unfinished}
use Rattle.inventory_rules.specs.Run.{journal_of}
use Rattle.inventory_rules.specs.Transactions.{refused}
use Rattle.inventory_rules.specs.Held.{IsTied}
use Rattle.inventory_rules.specs.Valid.{is_valid}
use Rattle.backup_payloads.specs.Increments.{IsIncrement}
use Rattle.backup_payloads.specs.Holding.{holding}
use Rattle.db_image.specs.Steps.{Job, Underway}
use Rattle.log_file.specs.Safety.{acknowledged}
use Rattle.vault.specs.Recovery.{RecoversWithin}
use Rattle.vault.specs.Vaults.{State, IsHeld, IsLeft, IsPending}
use Rattle.machine.specs.Machine.{durable}
use Rattle.machine.specs.State.{Core, Image, Machine, Purpose, Ticket, backup, copying, inventory, is_storing, object_of, storing, unforced}
use Rattle.hall.specs.declared.seat.Seat.{Seat}
use Rattle.hall.specs.Covered.{NumbersAreDrawn, SpaceIsClear, covered, inv_at, is_any_reuse, left_open}
use Rattle.hall.specs.Held.{Hall, Held, IsCore}
use Rattle.hall.specs.Protected.{HadBackups, KeepsAllBackups}

-- ---- transactions and stamps

-- The base is a valid database, and each transaction of the run was legal where it was made, as the run's journal up to there tells it, and it has few enough bytes for a record.
pub record IsLawful (c : Core) : Type 0 where
  pub valid : is_valid c.base ≡ true
  pub tied : IsTied c.base
  pub legal : (i : ℕ) (e : Entry) → slice_get c.journal i ≡ Some e → refused (journal_of c.base (take i c.journal)) e.change (inv_at i c) ≡ None
  pub short : AllByRecursion (λ e. length (entry_form.spell e) ≤ 2 ^ 24) c.journal

-- stamps don't fall, and lie between two moments; the oldest comes first
abbrev pub Rise : (first last : ℕ) → List ℕ → Type 0
Rise first last [] = first ≤ last
Rise first last (stamp ∷ stamps) = (first ≤ stamp) × Rise stamp last stamps

-- The oldest transactions have stamps, which don't fall and lie between the opening and now. While no fault has halted the hall none of the others is the reuse of a volume, which is forced at once.
pub record IsStamped (opened moment : ℕ) (c : Core) : Type 0 where
  pub few : length c.stamps ≤ length c.journal
  pub rise : Rise opened moment c.stamps
  pub waiting : c.fault ≡ None → AllByRecursion (λ e. is_any_reuse e.change ≡ false) (unforced c)

-- ---- the bytes of objects

-- a copy's ticket is as long as its object, as long as that is kept, and its bytes are the front of that one's
abbrev pub IsFront : (contents : ℕ → List ℕ) → Inv → Purpose → (size : ℕ) → List ℕ → Type 0
IsFront contents v (storing object) size bytes = Unit {0}
IsFront contents v (copying object aim) size bytes = IfSome (version object v) (λ w. (size ≡ w.size) × (bytes ≡ take (length bytes) (contents object)))

-- Each kept object has as many bytes as its size says, and what is copied of one is the front of these.
pub record HasBytes (contents : ℕ → List ℕ) (c : Core) : Type 0 where
  pub sized : AllByRecursion (λ w. length (contents w.object) ≡ w.size) (versions (inventory c))
  pub fronts : AllByRecursion (λ t. IsFront contents (inventory c) t.purpose t.size t.bytes) c.tickets

-- ---- what images give back

-- An image is safe: it recovers to the database behind a transaction that is at least the one with this count, its log ends within its file, and it holds every copy of every object of
-- that database, with the object's bytes.
pub record IsSafe (contents : ℕ → List ℕ) (c : Core) (count : ℕ) (image : ℕ → List ℕ) : Type 0 where
  pub last : ℕ
  pub durable : count ≤ last
  pub made : last ≤ length c.journal
  pub recovers : RecoversWithin meaning image (inv_at last c)
  pub holds : Holds contents image (inv_at last c)

-- at every moment since the opening, each image that a stop may leave is safe, with what was acknowledged by then
abbrev pub AlwaysSafe : (contents : ℕ → List ℕ) → Core → (opened : ℕ) → History → Type 0
AlwaysSafe contents c opened h =
    (moment : ℕ) (image : ℕ → List ℕ) → opened ≤ moment → moment ≤ now h → ImageAt h moment image → IsSafe contents c (acknowledged moment c.stamps) image

-- files recover to the database behind a transaction that is at least the last with a stamp
abbrev pub RecoversToOne : Core → (ℕ → List ℕ) → Type 0
RecoversToOne c files = (last : ℕ) × (length c.stamps ≤ last) × (last ≤ length c.journal) × RecoversWithin meaning files (inv_at last c)

-- ---- tickets

-- a ticket is held under this number as firm
abbrev pub is_firm_at : (number : ℕ) → List (ℕ × Seat) → Bool
is_firm_at number [] = false
is_firm_at number (e ∷ seats) = e.0 == number && e.1.is_firm || is_firm_at number seats

-- the ticket is sealed, or it is a new object's and held as firm
abbrev pub IsFirm : List (ℕ × Seat) → Ticket → Type 0
IsFirm seats t = (t.is_sealed ≡ true) ⊎ ((is_storing t.purpose ≡ true) × (is_firm_at t.number seats ≡ true))

-- What a ticket took stands in its space; and where it is sealed, or firm, that is all that it is for, and no stop takes it away.
pub record HasTaken (seats : List (ℕ × Seat)) (h : History) (t : Ticket) : Type 0 where
  pub stands : TookHave (InImage (reads h)) (object_of t.purpose) 0 t.place.segments t.bytes
  pub firm : IsFirm seats t → FramesHave (InStore h) (object_of t.purpose) 0 t.place.segments t.bytes

-- ---- images in progress

-- the transactions behind one number up to another
abbrev pub between : (first last : ℕ) → Core → List Entry
between first last c = take (last - first) (drop (first - c.base.number) c.journal)

-- a backup is of the database of its number, whole or as the transactions behind another backup's number
abbrev pub IsPayload : Core → (seq : ℕ) → List ℕ → Type 0
IsPayload c seq payload =
    Spells meaning second_form payload (inv_at (seq - c.base.number) c)
    ⊎ ((file : ℕ) × (number : ℕ) × (c.base.number ≤ number) × (number ≤ seq) × IsIncrement payload (holding file number (between number seq c)))

abbrev pub StandsOn : Core → State Inv → Option Job → Image → History → Type 0
StandsOn c vault None i h = IsPending meaning vault (inv_at (i.seq - c.base.number) c) h
StandsOn c vault (Some job) i h = (4 ≤ job.file) × (is_some (backup_at job.file (inventory c)) ≡ true) × Underway job h × IsPayload c i.seq job.payload

-- An image in progress is of a database that no stop takes away, it stands in its file as far as it was written, with what a checkpoint has copied to its log; and once
-- any of it is written no stop opens its gate. A backup's file is listed as one.
pub record InProgress (c : Core) (held : Held) (i : Image) (h : History) : Type 0 where
  pub since : c.base.number ≤ i.seq
  pub durable : i.seq ≤ c.base.number + length c.stamps
  pub stands : StandsOn c held.vault held.job i h

abbrev pub AllInProgress : Core → Held → Option Image → History → Type 0
AllInProgress c held None h = Unit {0}
AllInProgress c held (Some i) h = InProgress c held i h

-- ---- the store

-- the store was sound at the opening: each image of that moment recovers to the hall's base, with a log that ends within its file, and holds every copy of every object of it
abbrev pub IsSoundWith : (contents : ℕ → List ℕ) → (base : Inv) → (opened : ℕ) → History → Type 0
IsSoundWith contents base opened h = (image : ℕ → List ℕ) → ImageAt h opened image → RecoversWithin meaning image base × Holds contents image base

abbrev pub WasSound : (base : Inv) → (opened : ℕ) → History → Type 0
WasSound base opened h = (contents : ℕ → List ℕ) × IsSoundWith contents base opened h

-- What no stop takes from a hall whose store was sound when it was opened. `contents` are its objects' bytes. At every moment each image is safe. Whatever a stop leaves right now of the
-- vault's files recovers to one of the databases since the last stamp, and in a hall that no fault has halted to that of the last stamp. Each covered copy is on the disk. What tickets took
-- stands, and an image in progress. Where the store was sound for the backups of the base, too, all backups are kept.
pub record IsKept (m : Machine) (held : Held) (h : History) : Type 0 where
  pub since : held.opened ≤ now h
  pub first : IsSoundWith m.contents m.core.base held.opened h
  pub always : AlwaysSafe m.contents m.core held.opened h
  pub left : IsLeft (RecoversToOne m.core) h
  pub sure : m.core.fault ≡ None → IsHeld meaning held.vault (durable m.core) h
  pub firm : HaveAll (InStore h) m.contents (covered m.core)
  pub tickets : AllByRecursion (HasTaken held.seats h) m.core.tickets
  pub image : m.core.fault ≡ None → AllInProgress m.core held m.core.image h
  pub backups : HadBackups held.base held.opened h → KeepsAllBackups m.core held.opened h held.job

-- a backup in progress is listed and not whole yet, in each of these databases
abbrev pub IsListed : List Inv → Option Image → Type 0
IsListed list None = Unit {0}
IsListed list (Some i) = i.picture ≡ backup → (4 ≤ i.file) × AllByRecursion (λ v. is_unfinished (backup_at i.file v) ≡ true) list

-- A hall is good: its transactions are lawful and its stamps in order, the space of its tickets is clear, its numbers are drawn, and its objects have bytes; while no fault has halted it, a backup
-- in progress is listed in each database that a stop may bring back, and not whole yet; and over a store that tells its bytes
-- and was sound when it was opened no stop takes away what it keeps.
pub record IsGood (told : Option History) (m : Machine) (held : Held) : Type 0 where
  pub lawful : IsLawful m.core
  pub stamped : IsStamped held.opened m.moment m.core
  pub space : SpaceIsClear m.core
  pub numbers : NumbersAreDrawn m.core
  pub bytes : HasBytes m.contents m.core
  pub listed : m.core.fault ≡ None → IsListed (left_open m.core) m.core.image
  pub kept : IfSome told (λ h. WasSound held.base held.opened h → IsKept m held h)

-- The hall is in this state of the machine, and good. `told`, `moment` and `faults` are its store's.
pub record Is {S : Type 0} (told : S → Option History) (moment : S → ℕ) (faults : S → ℕ → ℕ) (hall : Hall S) (m : Machine) : Type 0 where
  pub core : IsCore hall.held m.core
  pub clock : m.moment ≡ moment hall.store
  pub counts : m.counts ≡ faults hall.store
  pub good : IsGood (told hall.store) m hall.held
