-- What an actor did fits a history: each of its steps was made on the database of its number, and what joined there is its own.
use Rattle.std.specs.Prelude.{◌≡◌, ◌⊎◌, ℕ, ◌+◌, ◌-◌, ◌≤◌, ◌==◌, ◌||◌, if◌then◌else◌, Bool, true, false, Contains, List, [], ◌∷◌, ◌++◌, length, take, Option, None, Some, Ok, Err}
use Rattle.std.specs.List.{slice_get}
use Rattle.kinds.specs.declared.refusal.Refusal.{Refusal}
use Rattle.kinds.specs.Refusals.{number_of}
use Rattle.steps.specs.entries.declared.change.Change.{Change}
use Rattle.steps.specs.entries.declared.change.Change.TheVariants as change
use Rattle.steps.specs.entries.declared.entry.Entry.{Entry}
use Rattle.steps.specs.inventory_rows.State.{Inv}
use Rattle.item_refusals.specs.inventory_rules.Run.{journal_of}
use Rattle.steps.specs.space.declared.aim.Aim.{Aim}
use Rattle.steps.specs.space.Placing.{walked}
use Rattle.steps.specs.declared.asked.Asked.{Asked}
use Rattle.steps.specs.declared.image.ImageKind.{ImageKind}
use Rattle.steps.specs.declared.image.ImageKind.TheVariants as image
use Rattle.steps.specs.declared.image.ImageReply.{ImageReply}
use Rattle.steps.specs.declared.image.ImageReply.TheVariants as reply
use Rattle.steps.specs.Events.{Event, Deed}
use Rattle.steps.specs.Events.Deed.{OpenNew, OpenCopy, WritePiece, CopyPiece, Seal, Commit, DropTicket, Image, Reuse}
use Rattle.machine.specs.Changes.{all_tickets, change_of}
use Rattle.machine.specs.Machine.{next_count, size_of, storing_contents}
use Rattle.machine.specs.Pieces.{piece}
use Rattle.machine.specs.Says.{OfTicket, Says}
use Rattle.machine.specs.State.{Image as Picture, Picture as PictureKind, Place, Purpose, Sight, Ticket, after, backup, checkpoint, copying, object_of, storing, sealing, taking, without}

-- The database that a hall was opened with, every transaction that joins after it, the oldest first, whoever made it, and the bytes of each object.
pub record History : Type 0 where
  pub base : Inv
  pub journal : List Entry
  pub contents : ℕ → List ℕ

abbrev pub first : History → ℕ
first w = w.base.number

-- the number of the last transaction
abbrev pub last : History → ℕ
last w = w.base.number + length w.journal

-- the transactions up to this number
abbrev pub entries_to : History → ℕ → List Entry
entries_to w n = take (n - w.base.number) w.journal

-- the database behind the transaction with this number
unfoldable pub inv : History → ℕ → Inv
inv w n = after w.base (entries_to w n)

-- What an actor has: the number behind its last step, its tickets and its image.
pub record Own : Type 0 where
  pub reached : ℕ
  pub tickets : List Ticket
  pub image : Option Picture

-- what it sees at a number, where this file number is drawn next
abbrev pub sight_at : History → Own → (n next_file : ℕ) → Sight
sight_at w own n next_file = record {
  first = w.base.number;
  next_file = next_file;
  journal = journal_of w.base (entries_to w n);
  inventory = inv w n;
  tickets = own.tickets;
  image = own.image;
}

-- ---- what joins

-- the change that a commit makes of what is asked
abbrev pub IsMadeOf : Asked → List ℕ → Sight → Option Change → Type 0
IsMadeOf asked numbers s None = ⊥
IsMadeOf asked numbers s (Some c) = change_of asked numbers s ≡ Some c

-- nothing joined
abbrev pub Nothing : Option Change → Type 0
Nothing None = Unit {0}
Nothing (Some c) = ⊥

abbrev pub is_log_fault : Refusal → Bool
is_log_fault e = number_of e == 40

abbrev pub is_write_fault : Refusal → Bool
is_write_fault e = number_of e == 25

-- What a refused step left. Nothing joined; or behind a fault of the log its transaction is in doubt, and stands in the journal.
abbrev pub InDoubt : Refusal → (Option Change → Type 0) → Option Change → Type 0
InDoubt e Is joined = Nothing joined ⊎ ((is_log_fault e ≡ true) × Is joined)

-- the end of the actor's own backup
abbrev pub IsEnd : Option Picture → Option Change → Type 0
IsEnd (Some i) (Some c) = (i.picture ≡ backup) × (c ≡ change.DbEnd i.file)
IsEnd (Some i) None = i.picture ≡ checkpoint
IsEnd None joined = ⊥

abbrev pub ImageJoins : ImageKind → Sight → ImageReply → Option Change → Type 0
ImageJoins image.Backup s (reply.Begun file seq) joined = joined ≡ Some (change.DbBegin file None)
ImageJoins (image.Since after) s (reply.Begun file seq) joined = joined ≡ Some (change.DbBegin file (Some after))
ImageJoins image.Next s (reply.Done seq) joined = IsEnd s.image joined
ImageJoins _ s _ joined = Nothing joined

-- of a refused step: a backup's beginning may have joined, into whatever file, or its end
abbrev pub ImageDoubt : ImageKind → Sight → Option Change → Type 0
ImageDoubt image.Checkpoint s joined = Nothing joined
ImageDoubt image.Backup s joined = (file : ℕ) × (joined ≡ Some (change.DbBegin file None))
ImageDoubt (image.Since after) s joined = (file : ℕ) × (joined ≡ Some (change.DbBegin file (Some after)))
ImageDoubt image.Next s joined = IsEnd s.image joined

-- behind a fault of the log it is in doubt, and where the backup's own file failed it stands
abbrev pub BackupDoubt : ImageKind → Sight → Refusal → Option Change → Type 0
BackupDoubt kind s e joined = Nothing joined ⊎ (((is_log_fault e || is_write_fault e) ≡ true) × ImageDoubt kind s joined)

-- what joined by a step, if anything
abbrev pub Joined : Sight → Deed → Option Change → Type 0
Joined s (Commit asked numbers (Ok number)) joined = IsMadeOf asked numbers s joined
Joined s (Commit asked numbers (Err e)) joined = InDoubt e (IsMadeOf asked numbers s) joined
Joined s (Reuse file (Ok number)) joined = joined ≡ Some (change.Reuse file)
Joined s (Reuse file (Err e)) joined = InDoubt e (λ joined. joined ≡ Some (change.Reuse file)) joined
Joined s (Image kind (Ok told)) joined = ImageJoins kind s told joined
Joined s (Image kind (Err e)) joined = BackupDoubt kind s e joined
Joined s _ joined = Nothing joined

-- it stands in the history behind the number, as this actor's
abbrev pub JoinsAt : History → (actor n : ℕ) → Option Change → Type 0
JoinsAt w actor n None = Unit {0}
JoinsAt w actor n (Some c) = slice_get w.journal (n - w.base.number) ≡ Some (record { actor = actor; change = c })

abbrev pub number_after : ℕ → Option Change → ℕ
number_after n None = n
number_after n (Some c) = n + 1

-- ---- what the actor has afterwards

-- one ticket more
abbrev pub IsOpened : (actor number size : ℕ) → (Purpose → Place → Type 0) → List Ticket → List Ticket → Type 0
IsOpened actor number size Is old new =
    (purpose : Purpose) × (place : Place) × Is purpose place
    × (new ≡ old ++ (record { number = number; actor = actor; purpose = purpose; size = size; place = place; bytes = []; is_sealed = false }) ∷ [])

abbrev pub IsStoring : Purpose → Place → Type 0
IsStoring purpose place = (object : ℕ) × (purpose ≡ storing object)

-- for a copy of the object with this aim, in a pool that the aim walks
abbrev pub IsCopying : (object : ℕ) → Aim → Inv → Purpose → Place → Type 0
IsCopying object aim v purpose place = (purpose ≡ copying object aim) × Contains (walked aim v.stores) place.pool

-- behind a refusal a ticket to which writing failed is gone, and nothing else changed
abbrev pub TicketsRefused : (actor number : ℕ) → Refusal → List Ticket → List Ticket → Type 0
TicketsRefused actor number e old new = new ≡ (if is_write_fault e then without actor (number ∷ []) old else old)

-- behind a fault of the log a commit's tickets may be spent
abbrev pub TicketsDoubt : (actor : ℕ) → List ℕ → Refusal → List Ticket → List Ticket → Type 0
TicketsDoubt actor numbers e old new = (new ≡ old) ⊎ ((is_log_fault e ≡ true) × (new ≡ without actor numbers old))

abbrev pub TicketsAfter : (actor : ℕ) → (contents : ℕ → List ℕ) → Sight → Deed → List Ticket → Type 0
TicketsAfter actor contents s (OpenNew pool size prefer (Ok number)) new = IsOpened actor number size IsStoring s.tickets new
TicketsAfter actor contents s (OpenCopy object aim avoid (Ok number)) new = IsOpened actor number (size_of object s.inventory) (IsCopying object aim s.inventory) s.tickets new
TicketsAfter actor contents s (WritePiece number bytes (Ok count)) new = new ≡ taking actor number bytes s.tickets
TicketsAfter actor contents s (WritePiece number bytes (Err e)) new = TicketsRefused actor number e s.tickets new
TicketsAfter actor contents s (CopyPiece number (Ok count)) new =
    OfTicket number s (λ t. new ≡ taking actor number (piece (length t.bytes) (next_count t) (contents (object_of t.purpose))) s.tickets)
TicketsAfter actor contents s (CopyPiece number (Err e)) new = TicketsRefused actor number e s.tickets new
TicketsAfter actor contents s (Seal number (Ok done)) new = new ≡ sealing actor number s.tickets
TicketsAfter actor contents s (Seal number (Err e)) new = TicketsRefused actor number e s.tickets new
TicketsAfter actor contents s (Commit asked numbers (Ok number)) new = new ≡ without actor numbers s.tickets
TicketsAfter actor contents s (Commit asked numbers (Err e)) new = TicketsDoubt actor numbers e s.tickets new
TicketsAfter actor contents s (DropTicket number (Ok done)) new = new ≡ without actor (number ∷ []) s.tickets
TicketsAfter actor contents s _ new = new ≡ s.tickets

abbrev pub picture_of : ImageKind → PictureKind
picture_of image.Checkpoint = checkpoint
picture_of _ = backup

-- a backup's file failed, or the number of its end reached its bound
abbrev pub drops_image : Refusal → Bool
drops_image e = number_of e == 25 || number_of e == 31

-- the image that the actor has: it began one, wrote more of it, or has none any more
abbrev pub ImageAfter : Sight → Deed → Option Picture → Type 0
ImageAfter s (Image kind (Ok (reply.Begun file seq))) new = (i : Picture) × (new ≡ Some i) × (i.seq ≡ seq) × (i.file ≡ file) × (i.picture ≡ picture_of kind)
ImageAfter s (Image kind (Ok reply.More)) new = (i : Picture) × (j : Picture) × (s.image ≡ Some i) × (new ≡ Some j) × (j.seq ≡ i.seq) × (j.file ≡ i.file) × (j.picture ≡ i.picture)
ImageAfter s (Image kind (Ok (reply.Done seq))) new = new ≡ None
ImageAfter s (Image image.Next (Err e)) new = new ≡ (if drops_image e then None else s.image)
ImageAfter s _ new = new ≡ s.image

pub record Has (actor : ℕ) (contents : ℕ → List ℕ) (s : Sight) (deed : Deed) (number : ℕ) (own : Own) : Type 0 where
  pub reached : own.reached ≡ number
  pub tickets : TicketsAfter actor contents s deed own.tickets
  pub image : ImageAfter s deed own.image

-- ---- what is stored

-- Behind a commit that was answered the objects have the bytes that storing its tickets leaves them: each that a ticket of it stored has that ticket's, the first's where several stored one object.
abbrev pub IsStored : (contents : ℕ → List ℕ) → Sight → Deed → Type 0
IsStored contents s (Commit asked numbers (Ok number)) = (object : ℕ) → contents object ≡ storing_contents (all_tickets numbers s) contents object
IsStored contents s _ = Unit {0}

-- ---- one event, and several

-- An event fits: it comes no earlier than the actor's last, within the history, its reply says what holds there, what joined by it stands in the history, what it stored are the bytes of the
-- history's objects, and it leaves the actor with what it has then.
pub record Step (w : History) (actor : ℕ) (old : Own) (e : Event) (new : Own) : Type 0 where
  pub since : old.reached ≤ e.n
  pub begun : w.base.number ≤ e.n
  pub within : e.n ≤ last w
  pub next_file : ℕ
  pub says : Says actor w.contents (sight_at w old e.n next_file) e.deed
  pub joined : Option Change
  pub joins : Joined (sight_at w old e.n next_file) e.deed joined
  pub joins_at : JoinsAt w actor e.n joined
  pub stored : IsStored w.contents (sight_at w old e.n next_file) e.deed
  pub has : Has actor w.contents (sight_at w old e.n next_file) e.deed (number_after e.n joined) new

-- These events fit one after the other, and lead from what the actor has to what it has then.
unfoldable pub Fits : History → (actor : ℕ) → Own → List Event → Own → Type 0
Fits w actor old [] new = new ≡ old
Fits w actor old (e ∷ events) new = (between : Own) × Step w actor old e between × Fits w actor between events new
