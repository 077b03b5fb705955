-- What each step makes of the hall, and when it is refused: one definition a step.
use Rattle.std.specs.Prelude.{◌≡◌, ◌⊎◌, ℕ, ◌+◌, ◌-◌, ◌%◌, ◌^◌, ◌<◌, ◌≤◌, ◌==◌, max, nat_lt, Bool, true, false, not, ◌&&◌, is_some, List, [], ◌∷◌, ◌++◌, map, filter, length, drop, take, replicate, Option, None, Some, Result, Ok, Err}
use Rattle.std.specs.List.{find, flat_map, list_any}
use Rattle.std.specs.Option.{option_map_or}
use Rattle.contents.specs.store_api.Cause.{NoneFell}
use Rattle.kinds.specs.Refusals.{foremost, unless, refusal_of}
use Rattle.kinds.specs.declared.change.PoolChange.TheVariants as store
use Rattle.kinds.specs.declared.change.Verb.TheVariants as verb
use Rattle.kinds.specs.declared.refusal.Holder.TheVariants as holder
use Rattle.kinds.specs.declared.refusal.Refusal.{Refusal}
use Rattle.kinds.specs.declared.refusal.Refusal.TheVariants as refusal
use Rattle.kinds.specs.declared.segment.Digest.{Digest}
use Rattle.kinds.specs.declared.segment.Segment.{Segment}
use Rattle.steps.specs.entries.EntryForm.{entry as entry_form}
use Rattle.steps.specs.entries.declared.change.Change.{Change}
use Rattle.steps.specs.entries.declared.change.Change.TheVariants as change
use Rattle.steps.specs.entries.declared.entry.Entry.{Entry}
use Rattle.steps.specs.inventory_rows.version_groups.Entries.{is_nil}
use Rattle.steps.specs.inventory_rows.version_groups.declared.versions.Version.{Version}
use Rattle.steps.specs.inventory_rows.pool_rows.PoolRows.{pool_named, volume_named}
use Rattle.steps.specs.inventory_rows.Search.{copies, pool, version}
use Rattle.steps.specs.inventory_rows.State.{Inv}
use Rattle.item_refusals.specs.inventory_rules.Transactions.{effect, refused}
use Rattle.steps.specs.inventory_answers.Answered.{answered}
use Rattle.steps.specs.inventory_answers.declared.query.Query.{Query}
use Rattle.steps.specs.inventory_answers.declared.query.Query.TheVariants as query
use Rattle.steps.specs.inventory_answers.declared.reply.Answer.{Answer}
use Rattle.steps.specs.inventory_answers.declared.reply.Rows.TheVariants as rows
use Rattle.steps.specs.space.declared.aim.Aim.{Aim}
use Rattle.steps.specs.space.declared.aim.Aim.TheVariants as aim
use Rattle.steps.specs.declared.asked.Asked.{Asked}
use Rattle.steps.specs.declared.image.ImageKind.{ImageKind}
use Rattle.steps.specs.declared.image.ImageKind.TheVariants as image
use Rattle.steps.specs.declared.image.ImageReply.{ImageReply}
use Rattle.steps.specs.declared.image.ImageReply.TheVariants as reply
use Rattle.steps.specs.Events.{Event, Deed}
use Rattle.steps.specs.Events.Deed.{OpenNew, OpenCopy, WritePiece, CopyPiece, Seal, Commit, DropTicket, ReadPiece, Ask, Image, Reuse, Force}
use Rattle.machine.specs.Causes.{most_bytes, ask_refused, commit_refused, copy_refused_by, copying_refused, drop_refused, image_refused, new_refused, read_refused, reuse_refused, seal_refused, write_refused}
use Rattle.machine.specs.Changes.{all_tickets, change_of}
use Rattle.machine.specs.Pieces.{IsUnavailable, RoseAt, piece, piece_length}
use Rattle.machine.specs.State.{Core, Image as Picture, Machine, after, Place, Purpose, Sight, Ticket, checkpoint, backup, copying, inventory, is_storing, object_of, sight, storing, sealing, taking, ticket, unforced, without}

-- ---- placing

-- What placing is given beside the database: the live tickets, what the transactions that aren't forced yet free, each with the number of its transaction, and
-- the file number that is drawn next.
pub record Space : Type 0 where
  pub tickets : List Ticket
  pub freed : List (ℕ × Segment)
  pub next_file : ℕ

-- Where an object of so many bytes goes: database, space, actor, size, aim, the volume that is preferred, the volume that is avoided, and the place, or why there is none.
abbrev pub Places : Type 1
Places = Inv → Space → ℕ → ℕ → Aim → ℕ → ℕ → Result Place Refusal → Type 0

-- the segments of the copies of a database that another one doesn't have
abbrev pub is_same_segment : Segment → Segment → Bool
is_same_segment a b = a.file == b.file && (a.offset == b.offset && a.len == b.len)

abbrev pub all_segments : Inv → List Segment
all_segments v = flat_map (λ e. e.1.segments) (copies v)

abbrev pub left_by : Inv → Inv → List Segment
left_by old new = filter (λ s. not (list_any (is_same_segment s) (all_segments new))) (all_segments old)

-- what transactions free, the first of which is made on this database, each with its number
abbrev pub freed : Inv → List Entry → List (ℕ × Segment)
freed v [] = []
freed v (e ∷ entries) = (let new = effect e.change v in map (λ s. (new.number, s)) (left_by v new) ++ freed new entries)

-- the database behind the last transaction with a stamp
abbrev pub durable : Core → Inv
durable c = after c.base (take (length c.stamps) c.journal)

abbrev pub space : Core → Space
space c = record { tickets = c.tickets; freed = freed (durable c) (unforced c); next_file = c.next_file }

-- ---- refusals that any step may meet

-- from this moment on a run is full
abbrev pub last_moment : ℕ
last_moment = 2 ^ 62 - 2 ^ 24

abbrev pub halted : Option (ℕ × ℕ) → List Refusal
halted None = []
halted (Some f) = refusal.LogFault f.0 f.1 ∷ []

-- the run is full, or a fault has halted the hall
abbrev pub ended : Machine → List Refusal
ended m = unless (nat_lt m.moment last_moment) refusal.RunFull ++ halted m.core.fault

-- ---- how a step goes

-- the counts of no file fell, and the moment went on by a step's calls
pub record Later (old new : Machine) : Type 0 where
  pub counts : NoneFell old.counts new.counts
  pub since : old.moment ≤ new.moment
  pub soon : new.moment ≤ old.moment + 2 ^ 24

-- nothing else changed
pub record Stays (old new : Machine) : Type 0 where
  pub core : new.core ≡ old.core
  pub contents : new.contents ≡ old.contents

-- the hall became this one, and no object's bytes changed
pub record Becomes (left : Core) (old new : Machine) : Type 0 where
  pub core : new.core ≡ left
  pub contents : new.contents ≡ old.contents

-- A step ends so. `held` are the refusals that hold at its start, of which the foremost is answered. Where there is none it does what it is for; or device calls fail, and
-- then `Fails` says what that leaves. Memory may be wanted at any time, and leaves all as it was.
abbrev pub Ends : {A : Type 0} → (held : List Refusal) → (Does : A → Machine → Type 0) → (Fails : Refusal → Machine → Type 0) → Machine → Machine → Result A Refusal → Type 0
Ends held Does Fails old new (Ok x) = (foremost held ≡ None) × Does x new
Ends held Does Fails old new (Err e) =
    (((foremost held ≡ Some e) ⊎ (e ≡ refusal.Memory)) × Stays old new)
    ⊎ ((foremost held ≡ None) × Fails e new)

-- device calls of such a step don't make it fail
abbrev pub Never : Refusal → Machine → Type 0
Never e new = ⊥

-- what is answered by a query or a read changes nothing
abbrev pub Looks : {A : Type 0} → (A → Type 0) → Machine → A → Machine → Type 0
Looks Is old x new = Is x × Stays old new

-- ---- what becomes of the parts

abbrev pub with_tickets : List Ticket → Core → Core
with_tickets tickets c = record c { tickets = tickets }

-- the file number that is drawn next, behind those of the scratch volumes that the segments lie on
abbrev pub files_drawn : List Segment → ℕ → ℕ
files_drawn [] next = next
files_drawn (s ∷ segments) next = files_drawn segments (max next (s.file + 1))

-- another ticket, with the next number
abbrev pub opened : (actor size : ℕ) → Purpose → Place → Core → Core
opened actor size purpose place c = record c {
  tickets = c.tickets ++ (record { number = c.next_ticket; actor = actor; purpose = purpose; size = size; place = place; bytes = []; is_sealed = false }) ∷ [];
  next_ticket = c.next_ticket + 1;
  next_file = files_drawn place.segments c.next_file;
}

abbrev pub dropping : (actor number : ℕ) → Core → Core
dropping actor number c = with_tickets (without actor (number ∷ []) c.tickets) c

-- how many bytes the record of a transaction has
abbrev pub record_length : Entry → ℕ
record_length e = 5 + length (entry_form.spell e)

-- a transaction joins the journal, without a stamp
abbrev pub joined : Entry → Core → Core
joined e c = record c { journal = c.journal ++ e ∷ []; log_length = c.log_length + record_length e }

-- every transaction has a stamp: those that had none that of this moment
abbrev pub stamped : ℕ → Core → Core
stamped moment c = record c { stamps = c.stamps ++ replicate (length (unforced c)) moment }

-- a fault of a log or an image halts the hall
abbrev pub halting : (file count : ℕ) → Core → Core
halting file count c = record c { fault = Some (file, count) }

-- a log or image file's count rose to this one
abbrev pub IsLogFault : Machine → Machine → ℕ → ℕ → Type 0
IsLogFault old new file count = (file < 4) × RoseAt old.counts new.counts file × (count ≡ new.counts file)

-- ---- 1, 2: space

-- Placing is asked where it can be: the pool is there, and how many bytes are to be placed is known.
abbrev pub IsPlaced : (can : Bool) → (Result Place Refusal → Type 0) → Result Place Refusal → Type 0
IsPlaced true Is placed = Is placed
IsPlaced false Is placed = placed ≡ Err refusal.NotFound

abbrev pub placing_refused : (can : Bool) → Result Place Refusal → List Refusal
placing_refused true placed = refusal_of placed
placing_refused false placed = []

abbrev pub can_place_new : (pool size : ℕ) → Sight → Bool
can_place_new number size s = is_nil (new_refused number size s)

-- another ticket, for a new object with the next number
abbrev pub opened_new : (actor size : ℕ) → Place → Core → Core
opened_new actor size place c = record (opened actor size (storing c.next_object) place c) { next_object = c.next_object + 1 }

abbrev pub OpensNew : Places → (actor pool size prefer : ℕ) → Machine → Machine → Result ℕ Refusal → Type 0
OpensNew places actor number size prefer old new answer =
    (placed : Result Place Refusal)
    × IsPlaced (can_place_new number size (sight actor old.core)) (places (inventory old.core) (space old.core) actor size (aim.New number) prefer 0) placed
    × Ends
    (ended old
    ++ (new_refused number size (sight actor old.core)
    ++ (placing_refused (can_place_new number size (sight actor old.core)) placed  -- no room, or room that others hold, or no file number
    ++ (unless (nat_lt (old.core.next_object + 1) (2 ^ 62)) refusal.InventoryFull
    ++ unless (nat_lt (old.core.next_ticket + 1) (2 ^ 62)) refusal.InventoryFull))))
    (λ number after. (place : Place) × (placed ≡ Ok place) × (number ≡ old.core.next_ticket) × Becomes (opened_new actor size place old.core) old after)
    Never old new answer

-- the pool that an aim for a copy goes to
abbrev pub aimed_at : Aim → ℕ
aimed_at (aim.New number) = number
aimed_at (aim.Move from placed to along) = to
aimed_at (aim.Copy to) = to

abbrev pub size_of : ℕ → Inv → ℕ
size_of object v = option_map_or (λ w. w.size) (version object v) 0

abbrev pub is_for_copies : Aim → Bool
is_for_copies (aim.New number) = false
is_for_copies (aim.Move from placed to along) = true
is_for_copies (aim.Copy to) = true

abbrev pub can_place_copy : (object : ℕ) → Aim → Inv → Bool
can_place_copy object a v = is_for_copies a && (is_some (version object v) && is_some (pool (aimed_at a) v))

abbrev pub OpensCopy : Places → (actor object : ℕ) → Aim → (avoid : ℕ) → Machine → Machine → Result ℕ Refusal → Type 0
OpensCopy places actor object a avoid old new answer =
    (placed : Result Place Refusal)
    × IsPlaced (can_place_copy object a (inventory old.core)) (places (inventory old.core) (space old.core) actor (size_of object (inventory old.core)) a 0 avoid) placed
    × Ends
    (ended old
    ++ (copy_refused_by object a (sight actor old.core)
    ++ (placing_refused (can_place_copy object a (inventory old.core)) placed  -- no room, or room that others hold, or no file number
    ++ unless (nat_lt (old.core.next_ticket + 1) (2 ^ 62)) refusal.InventoryFull)))
    (λ number after. (place : Place) × (placed ≡ Ok place) × (number ≡ old.core.next_ticket) × Becomes (opened actor (size_of object (inventory old.core)) (copying object a) place old.core) old after)
    Never old new answer

-- ---- 3, 4, 5: pieces

abbrev pub has_file : ℕ → Ticket → Bool
has_file file t = list_any (λ s. s.file == file) t.place.segments

-- the actor's ticket with this number
abbrev pub IsTicket : (actor number : ℕ) → Machine → Ticket → Type 0
IsTicket actor number m t = ticket number (sight actor m.core).tickets ≡ Some t

-- writing to one of the ticket's volumes failed, and the ticket is dropped
abbrev pub DropsTicket : (actor number : ℕ) → Machine → Refusal → Machine → Type 0
DropsTicket actor number old e new =
    (t : Ticket) × (file : ℕ) × IsTicket actor number old t × (has_file file t ≡ true) × (e ≡ refusal.WriteFault file) × RoseAt old.counts new.counts file
    × Becomes (dropping actor number old.core) old new

abbrev pub WritesPiece : (actor number : ℕ) → List ℕ → Machine → Machine → Result ℕ Refusal → Type 0
WritesPiece actor number bytes old new answer =
    Ends
    (ended old ++ write_refused number (length bytes) (sight actor old.core))
    (λ count after. (t : Ticket) × IsTicket actor number old t × (count ≡ length t.bytes + length bytes) × Becomes (with_tickets (taking actor number bytes old.core.tickets) old.core) old after)
    (DropsTicket actor number old) old new answer

-- how many bytes are copied next
abbrev pub next_count : Ticket → ℕ
next_count t = piece_length most_bytes t.size (length t.bytes)

abbrev pub IsLostFor : (before after : Machine) → (from offset count : ℕ) → Option Version → Type 0
IsLostFor before after from offset count None = ⊥
IsLostFor before after from offset count (Some w) = IsUnavailable (RoseAt before.counts after.counts) (inventory before.core) from offset count w

-- each copy of the object misses something of the piece
abbrev pub CantRead : (object from offset count : ℕ) → Machine → Machine → Type 0
CantRead object from offset count old new = IsLostFor old new from offset count (version object (inventory old.core))

-- the ticket takes the next bytes of its object
abbrev pub Takes : (actor number : ℕ) → Ticket → Machine → Machine → Type 0
Takes actor number t old new =
    ¬ CantRead (object_of t.purpose) 0 (length t.bytes) (next_count t) old new
    × Becomes (with_tickets (taking actor number (piece (length t.bytes) (next_count t) (old.contents (object_of t.purpose))) old.core.tickets) old.core) old new

abbrev pub CopiesPiece : (actor number : ℕ) → Machine → Machine → Result ℕ Refusal → Type 0
CopiesPiece actor number old new answer =
    Ends (ended old ++ copying_refused number (sight actor old.core))
    (λ count after. (t : Ticket) × IsTicket actor number old t × (count ≡ length t.bytes + next_count t) × Takes actor number t old after)
    (λ e after.
    ((t : Ticket) × IsTicket actor number old t × (e ≡ refusal.Unavailable) × CantRead (object_of t.purpose) 0 (length t.bytes) (next_count t) old after × Stays old after)
    ⊎ DropsTicket actor number old e after) old new answer

abbrev pub Seals : (actor number : ℕ) → Machine → Machine → Result (Unit {0}) Refusal → Type 0
Seals actor number old new answer =
    Ends (ended old ++ seal_refused number (sight actor old.core))
    (λ done after. Becomes (with_tickets (sealing actor number old.core.tickets) old.core) old after)
    (DropsTicket actor number old) old new answer

-- ---- 6: transactions

-- the least ticket that holds space of this kind
abbrev pub held_by : (Ticket → Bool) → List Ticket → List Refusal
held_by test tickets = option_map_or (λ t. refusal.Busy (holder.Ticket t.number) ∷ []) (find test tickets) []

abbrev pub written_by : ℕ → Option Picture → List Refusal
written_by file None = []
written_by file (Some i) = unless (not (i.file == file)) (refusal.Busy (holder.Image i.actor))

-- a volume is deleted on which a live ticket has space, a pool in which one is placed, or a backup into which an image is written
abbrev pub held_refused : Change → Core → List Refusal
held_refused (change.Pool (store.Volume verb.Delete name number file capacity access)) c =
    option_map_or (λ it. held_by (has_file it) c.tickets) (volume_named name (inventory c).stores) []
held_refused (change.Pool (store.Pool verb.Delete name class kind rule)) c =
    option_map_or (λ it. held_by (λ t. t.place.pool == it) c.tickets) (pool_named name (inventory c).stores) []
held_refused (change.DbDelete file) c = written_by file c.image
held_refused _ c = []

-- the file number that is drawn next, behind the one that a change draws
abbrev pub file_drawn : Change → ℕ → ℕ
file_drawn (change.Pool (store.Volume verb.Define name pool file capacity access)) next = max next (file + 1)
file_drawn (change.DbBegin file after) next = max next (file + 1)
file_drawn _ next = next

-- a new object's bytes are its ticket's
abbrev pub stored_by : (object : ℕ) → Ticket → Bool
stored_by object t = is_storing t.purpose && object_of t.purpose == object

abbrev pub storing_contents : List Ticket → (ℕ → List ℕ) → ℕ → List ℕ
storing_contents tickets contents object = option_map_or (λ t. t.bytes) (find (stored_by object) tickets) (contents object)

-- the actor's transaction joins
abbrev pub made : (actor : ℕ) → Change → Core → Core
made actor change c = record (joined (record { actor = actor; change = change }) c) { next_file = file_drawn change c.next_file }

-- it joins, and its tickets are spent
abbrev pub committed : (actor : ℕ) → Change → List ℕ → Core → Core
committed actor change numbers c = made actor change (with_tickets (without actor numbers c.tickets) c)

abbrev pub asked_change : (actor : ℕ) → Asked → List ℕ → Core → Option Change
asked_change actor asked numbers c = change_of asked numbers (sight actor c)

abbrev pub Joins : (actor : ℕ) → Change → List ℕ → Core → Machine → Machine → Type 0
Joins actor change numbers core old new =
    (new.core ≡ core) × (new.contents ≡ storing_contents (all_tickets numbers (sight actor old.core)) old.contents)

abbrev pub Commits : (actor : ℕ) → Asked → List ℕ → Machine → Machine → Result ℕ Refusal → Type 0
Commits actor asked numbers old new answer =
    Ends
    (ended old
    ++ (commit_refused actor asked numbers (sight actor old.core)
    ++ option_map_or (λ change. held_refused change old.core) (asked_change actor asked numbers old.core) []))  -- others hold what it takes away
    (λ number after. (change : Change) × (asked_change actor asked numbers old.core ≡ Some change) × (number ≡ (inventory old.core).number + 1)
    × Joins actor change numbers (committed actor change numbers old.core) old after)
    (λ e after. (change : Change) × (file : ℕ) × (count : ℕ) × (asked_change actor asked numbers old.core ≡ Some change) × (e ≡ refusal.LogFault file count) × IsLogFault old after file count
    × Joins actor change numbers (halting file count (committed actor change numbers old.core)) old after) old new answer

-- ---- 7, 8, 9

abbrev pub Drops : (actor number : ℕ) → Machine → Machine → Result (Unit {0}) Refusal → Type 0
Drops actor number old new answer =
    Ends (ended old ++ drop_refused number (sight actor old.core)) (λ done after. Becomes (dropping actor number old.core) old after) Never old new answer

abbrev pub read_count : (object wanted offset : ℕ) → Inv → ℕ
read_count object wanted offset v = piece_length wanted (size_of object v) offset

abbrev pub Reads : (actor object : ℕ) → Digest → (from offset wanted : ℕ) → Machine → Machine → Result (List ℕ) Refusal → Type 0
Reads actor object kept from offset wanted old new answer =
    (let count = read_count object wanted offset (inventory old.core) in
    Ends
    (ended old ++ read_refused object kept from offset wanted (sight actor old.core))
    (λ bytes after. (bytes ≡ piece offset count (old.contents object)) × ¬ CantRead object from offset count old after × Stays old after)
    (λ e after. (e ≡ refusal.Unavailable) × CantRead object from offset count old after × Stays old after) old new answer)

-- the length of the log is what the hall alone knows
abbrev pub answer_with : (log_length : ℕ) → Query → Answer → Answer
answer_with log_length query.LogBytes a = record a { rows = rows.LogBytes log_length }
answer_with log_length _ a = a

abbrev pub IsAnswer : (log_length : ℕ) → Query → Inv → Answer → Type 0
IsAnswer log_length query v answer = (told : Answer) × (answered query v ≡ Ok told) × (answer ≡ answer_with log_length query told)

abbrev pub Asks : (actor : ℕ) → Query → Machine → Machine → Result Answer Refusal → Type 0
Asks actor query old new answer =
    Ends (ended old ++ ask_refused query (sight actor old.core)) (λ told after. IsAnswer old.core.log_length query (inventory old.core) told × Stays old after) Never old new answer

-- ---- 10: images

abbrev pub with_image : Option Picture → Core → Core
with_image i c = record c { image = i }

abbrev pub in_progress : Option Picture → List Refusal
in_progress None = []
in_progress (Some i) = refusal.Busy (holder.Image i.actor) ∷ []

-- the file of the image that a checkpoint writes
abbrev pub image_file : Core → ℕ
image_file c = (c.generation + 1) % 2

abbrev pub begun_change : (after : Option ℕ) → Core → Change
begun_change after c = change.DbBegin c.next_file after

-- a database backup begins
abbrev pub begun : (actor : ℕ) → (after : Option ℕ) → Core → Core
begun actor after c = made actor (begun_change after c) c

-- all are forced, and the checkpoint's image is of the database as it is
abbrev pub CheckpointBegun : (actor : ℕ) → Machine → ImageReply → Machine → Type 0
CheckpointBegun actor old told new =
    (unwritten : ℕ)
    × (told ≡ reply.Begun (image_file old.core) (inventory old.core).number)
    × Becomes (with_image (Some (record { actor = actor; picture = checkpoint; file = image_file old.core; seq = (inventory old.core).number; unwritten = unwritten; copied = 0 })) (stamped new.moment old.core)) old new

abbrev pub CheckpointFails : Machine → Refusal → Machine → Type 0
CheckpointFails old e new =
    (file : ℕ) × (count : ℕ) × (moment : ℕ) × (left : Core) × (e ≡ refusal.LogFault file count) × IsLogFault old new file count
    × ((left ≡ old.core) ⊎ (left ≡ stamped moment old.core)) × Becomes (halting file count left) old new

abbrev pub BeginsCheckpoint : (actor : ℕ) → Machine → Machine → Result ImageReply Refusal → Type 0
BeginsCheckpoint actor old new answer =
    Ends
    (ended old
    ++ (image_refused image.Checkpoint (sight actor old.core)
    ++ (in_progress old.core.image  -- another image is written
    ++ unless (nat_lt (old.core.generation + 1) (2 ^ 62)) refusal.InventoryFull)))
    (CheckpointBegun actor old) (CheckpointFails old) old new answer

-- the backup's transaction joins, with the file number that is drawn next, and all are forced; its image is of the database behind it
abbrev pub BackupBegun : (actor : ℕ) → (after : Option ℕ) → Machine → ImageReply → Machine → Type 0
BackupBegun actor after old told new =
    (unwritten : ℕ)
    × (told ≡ reply.Begun old.core.next_file ((inventory old.core).number + 1))
    × Becomes (with_image (Some (record { actor = actor; picture = backup; file = old.core.next_file; seq = (inventory old.core).number + 1; unwritten = unwritten; copied = 0 }))
    (stamped new.moment (begun actor after old.core))) old new

-- the log failed, and the backup's transaction is in doubt with all that wasn't forced; or writing to the backup's file did, behind its transaction
abbrev pub BackupFails : (actor : ℕ) → (after : Option ℕ) → Machine → Refusal → Machine → Type 0
BackupFails actor after old e new =
    ((file : ℕ) × (count : ℕ) × (e ≡ refusal.LogFault file count) × IsLogFault old new file count × Becomes (halting file count (begun actor after old.core)) old new)
    ⊎ ((moment : ℕ) × (e ≡ refusal.WriteFault old.core.next_file) × RoseAt old.counts new.counts old.core.next_file
    × Becomes (stamped moment (begun actor after old.core)) old new)

abbrev pub BeginsBackup : (actor : ℕ) → (after : Option ℕ) → List Refusal → Machine → Machine → Result ImageReply Refusal → Type 0
BeginsBackup actor after held old new answer =
    Ends
    (ended old
    ++ (held
    ++ in_progress old.core.image))  -- another image is written
    (BackupBegun actor after old) (BackupFails actor after old) old new answer

-- how many transactions came behind the image's
abbrev pub behind : Picture → Core → ℕ
behind i c = (inventory c).number - i.seq

-- a part of the payload was written; or, of a checkpoint, records of later transactions were copied
abbrev pub WroteMore : Picture → Picture → Core → Type 0
WroteMore i j c =
    ((j.unwritten < i.unwritten) × (j ≡ record i { unwritten = j.unwritten }))
    ⊎ ((i.unwritten ≡ 0) × (i.picture ≡ checkpoint) × (i.copied < j.copied) × (j.copied ≤ behind i c) × (j ≡ record i { copied = j.copied }))

-- the records of the transactions behind the image's are the log's
abbrev pub records_length : List Entry → ℕ
records_length [] = 0
records_length (e ∷ entries) = record_length e + records_length entries

abbrev pub checkpointed : (moment : ℕ) → Picture → Core → Core
checkpointed moment i c = record (with_image None (stamped moment c)) {
  generation = c.generation + 1;
  log_length = records_length (drop (i.seq - c.base.number) c.journal);
}

-- the transaction of a backup's end joins
abbrev pub ending : (actor : ℕ) → Picture → Core → Core
ending actor i c = made actor (change.DbEnd i.file) c

-- the image is whole: a checkpoint is the newest open image from now on, and a backup's end joins the journal
abbrev pub Finishes : (actor : ℕ) → Picture → Machine → Machine → Type 0
Finishes actor i old new =
    ((i.picture ≡ checkpoint) × (i.copied ≡ behind i old.core) × Becomes (checkpointed new.moment i old.core) old new)
    ⊎ ((i.picture ≡ backup) × (refused (sight actor old.core).journal (change.DbEnd i.file) (inventory old.core) ≡ None) × Becomes (with_image None (ending actor i old.core)) old new)

abbrev pub GoesOn : (actor : ℕ) → Machine → ImageReply → Machine → Type 0
GoesOn actor old reply.More new = (i : Picture) × (j : Picture) × ((sight actor old.core).image ≡ Some i) × WroteMore i j old.core × Becomes (with_image (Some j) old.core) old new
GoesOn actor old (reply.Done seq) new = (i : Picture) × ((sight actor old.core).image ≡ Some i) × (seq ≡ i.seq) × (i.unwritten ≡ 0) × Finishes actor i old new
GoesOn actor old (reply.Begun file seq) new = ⊥

-- Writing to a backup failed, or the number of its end would reach its bound: the image is dropped. A fault of an image or a log halts the hall; a backup's end may be in doubt then.
abbrev pub StopsShort : (actor : ℕ) → Machine → Refusal → Machine → Type 0
StopsShort actor old e new =
    (i : Picture) × ((sight actor old.core).image ≡ Some i)
    × (((i.picture ≡ backup) × (e ≡ refusal.WriteFault i.file) × RoseAt old.counts new.counts i.file × Becomes (with_image None old.core) old new)
    ⊎ ((i.picture ≡ backup) × (i.unwritten ≡ 0) × (e ≡ refusal.InventoryFull) × (refused (sight actor old.core).journal (change.DbEnd i.file) (inventory old.core) ≡ Some refusal.InventoryFull)
    × Becomes (with_image None old.core) old new)
    ⊎ ((file : ℕ) × (count : ℕ) × (moment : ℕ) × (core : Core) × (e ≡ refusal.LogFault file count) × IsLogFault old new file count
    × ((core ≡ old.core) ⊎ (core ≡ stamped moment old.core) ⊎ ((i.picture ≡ backup) × (core ≡ ending actor i old.core))) × Becomes (halting file count core) old new))

abbrev pub Continues : (actor : ℕ) → Machine → Machine → Result ImageReply Refusal → Type 0
Continues actor old new answer = Ends (ended old ++ image_refused image.Next (sight actor old.core)) (λ told after. GoesOn actor old told after) (StopsShort actor old) old new answer

abbrev pub Images : (actor : ℕ) → ImageKind → Machine → Machine → Result ImageReply Refusal → Type 0
Images actor image.Checkpoint old new answer = BeginsCheckpoint actor old new answer
Images actor image.Backup old new answer = BeginsBackup actor None (image_refused image.Backup (sight actor old.core)) old new answer
Images actor (image.Since after) old new answer = BeginsBackup actor (Some after) (image_refused (image.Since after) (sight actor old.core)) old new answer
Images actor image.Next old new answer = Continues actor old new answer

-- ---- 11, 12

abbrev pub Reuses : (actor file : ℕ) → Machine → Machine → Result ℕ Refusal → Type 0
Reuses actor file old new answer =
    Ends
    (ended old
    ++ (reuse_refused file (sight actor old.core)
    ++ held_by (has_file file) old.core.tickets))  -- a live ticket has space on it
    (λ number after. (number ≡ (inventory old.core).number + 1) × Becomes (stamped after.moment (made actor (change.Reuse file) old.core)) old after)
    (λ e after. (log : ℕ) × (count : ℕ) × (e ≡ refusal.LogFault log count) × IsLogFault old after log count
    × Becomes (halting log count (made actor (change.Reuse file) old.core)) old after) old new answer

-- the log failed: all that wasn't forced is in doubt
abbrev pub ForceFails : Machine → Refusal → Machine → Type 0
ForceFails old e new = (file : ℕ) × (count : ℕ) × (e ≡ refusal.LogFault file count) × IsLogFault old new file count × Becomes (halting file count old.core) old new

abbrev pub Forces : (actor : ℕ) → Machine → Machine → Result ℕ Refusal → Type 0
Forces actor old new answer =
    Ends (ended old)
    (λ number after. (number ≡ (inventory old.core).number) × Becomes (stamped after.moment old.core) old after)
    (ForceFails old) old new answer

-- ---- every step

abbrev pub Case : Places → (actor : ℕ) → Deed → Machine → Machine → Type 0
Case places actor (OpenNew number size prefer answer) old new = OpensNew places actor number size prefer old new answer
Case places actor (OpenCopy object a avoid answer) old new = OpensCopy places actor object a avoid old new answer
Case places actor (WritePiece number bytes answer) old new = WritesPiece actor number bytes old new answer
Case places actor (CopyPiece number answer) old new = CopiesPiece actor number old new answer
Case places actor (Seal number answer) old new = Seals actor number old new answer
Case places actor (Commit asked numbers answer) old new = Commits actor asked numbers old new answer
Case places actor (DropTicket number answer) old new = Drops actor number old new answer
Case places actor (ReadPiece object kept from offset wanted answer) old new = Reads actor object kept from offset wanted old new answer
Case places actor (Ask query answer) old new = Asks actor query old new answer
Case places actor (Image kind answer) old new = Images actor kind old new answer
Case places actor (Reuse file answer) old new = Reuses actor file old new answer
Case places actor (Force answer) old new = Forces actor old new answer

-- an actor's step is one of the machine's
pub record Made (places : Places) (actor : ℕ) (e : Event) (old new : Machine) : Type 0 where
  pub number : e.n ≡ (inventory old.core).number
  pub later : Later old new
  pub step : Case places actor e.deed old new

-- The machine stopped and started again, behind a transaction that is at least the last with a stamp: no ticket and no image is left.
pub record Restarted (old new : Machine) : Type 0 where
  pub kept : ℕ
  pub durable : length old.core.stamps ≤ kept
  pub made : kept ≤ length old.core.journal
  pub base : new.core.base ≡ after old.core.base (take kept old.core.journal)
  pub journal : new.core.journal ≡ []
  pub stamps : new.core.stamps ≡ []
  pub tickets : new.core.tickets ≡ []
  pub next_file : new.core.next_file ≡ new.core.base.next_file
  pub next_object : new.core.next_object ≡ new.core.base.next_object
  pub next_ticket : new.core.next_ticket ≡ 1
  pub image : new.core.image ≡ None
  pub fault : new.core.fault ≡ None
  pub contents : new.contents ≡ old.contents
