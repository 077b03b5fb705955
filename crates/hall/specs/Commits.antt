-- Why a commit is refused, over what the hall holds.
use Rattle.std.specs.Prelude.{ℕ, ◌==◌, nat_le, not, ◌&&◌, ◌||◌, if◌then◌else◌, is_none, is_some, List, [], ◌∷◌, ◌++◌, Bool, true, false, map, length, Option, None, Some, Result, Ok, Err, ◌≡◌, ◌⊎◌}
use Rattle.std.specs.List.{list_all}
use Rattle.std.specs.Option.{option_map_or}
use Rattle.kinds.specs.Names.{is_same_name}
use Rattle.kinds.specs.Refusals.{unless, bad_value, foremost}
use Rattle.kinds.specs.declared.change.DefineOrDelete.TheVariants as two
use Rattle.kinds.specs.declared.change.ObjectChange.{ObjectChange}
use Rattle.kinds.specs.declared.change.ObjectChange.TheVariants as client
use Rattle.kinds.specs.declared.change.PoolChange.{PoolChange}
use Rattle.kinds.specs.declared.change.PoolChange.TheVariants as store
use Rattle.kinds.specs.declared.change.Verb.TheVariants as verb
use Rattle.kinds.specs.declared.refusal.Refusal.{Refusal}
use Rattle.kinds.specs.declared.refusal.Refusal.TheVariants as refusal
use Rattle.kinds.specs.declared.segment.Digest.{Digest}
use Rattle.entries.specs.change_items.declared.items.ScratchVolume.{ScratchVolume}
use Rattle.entries.specs.declared.change.Change.{Change}
use Rattle.entries.specs.declared.change.Change.TheVariants as change
use Rattle.entries.specs.declared.entry.Entry.{Entry}
use Rattle.inventory_rows.specs.version_groups.Entries.{is_nil}
use Rattle.inventory_rows.specs.pool_tables.Rows.{row_at}
use Rattle.inventory_rows.specs.State.{Inv}
use Rattle.inventory_rules.specs.Versions.{name_once}
use Rattle.steps.specs.declared.asked.Asked.{Asked}
use Rattle.steps.specs.declared.asked.Asked.TheVariants as asked
use Rattle.steps.specs.declared.asked.HeldItem.{HeldItem}
use Rattle.steps.specs.declared.asked.Item.{Item}
use Rattle.machine.specs.Causes.{are_there, change_refused, is_plain, of_tickets, ticket_in_use}
use Rattle.machine.specs.Changes.{all_tickets, change_of, held_from, is_copied, is_copied_by, is_moved, is_moved_by, once, scratch_of, version_from}
use Rattle.machine.specs.Machine.{has_file, held_refused}
use Rattle.machine.specs.State.{Purpose, Sight, Ticket, is_storing, ticket}
use Rattle.hall.specs.declared.asked.Where.{Where}
use Rattle.hall.specs.declared.asked.Where.TheVariants.{Pool, Volume}
use Rattle.hall.specs.declared.asked.Needed.{Needed}
use Rattle.hall.specs.declared.asked.Needed.TheVariants.{There, New, Whole}
use Rattle.hall.specs.declared.seat.Hashed.{Hashed}
use Rattle.hall.specs.declared.seat.Hashed.TheVariants.{Done, Taking, Unhashed}
use Rattle.hall.specs.declared.seat.Seat.{Seat}
use Rattle.hall.specs.Held.{Held}
use Rattle.hall.specs.Seats.{own_seat}
use Rattle.hall.specs.Sights.{sight_of, state_of}

-- ---- single tickets

-- the ticket isn't as it has to be: it isn't there; or is there for a copy; or isn't sealed
abbrev pub lacks : Needed → Option Ticket → List Refusal
lacks There found = unless (is_some found) refusal.NotFound
lacks New found = option_map_or (λ t. unless (is_storing t.purpose) bad_value) found []
lacks Whole found = option_map_or (λ t. unless t.is_sealed (ticket_in_use t.number)) found []

-- a ticket's purpose is a copy that moves, or a further one
abbrev pub is_such : (moving : Bool) → Purpose → Bool
is_such true purpose = is_moved_by purpose
is_such false purpose = is_copied_by purpose

-- all of the caller's tickets are for copies that move, or for further ones
abbrev pub all_are : (moving : Bool) → List Ticket → Bool
all_are true tickets = list_all is_moved tickets
all_are false tickets = list_all is_copied tickets

-- its space lies there
abbrev pub lies : Where → Ticket → Bool
lies (Volume file) t = has_file file t
lies (Pool number) t = t.place.pool == number

-- ---- what is asked and the tickets don't go together

abbrev pub new_unfit : (count : ℕ) → List ℕ → Sight → List Refusal
new_unfit count numbers s = unless (count == length numbers) bad_value ++ of_tickets (λ t. unless (is_storing t.purpose) bad_value) numbers s

abbrev pub placed_unfit : List ℕ → Sight → List Refusal
placed_unfit numbers s =
    unless (not (is_nil numbers)) bad_value
    ++ unless (all_are true (all_tickets numbers s) || all_are false (all_tickets numbers s)) bad_value

abbrev pub asked_unfit : Asked → List ℕ → Sight → List Refusal
asked_unfit (asked.Plain c) numbers s = unless (is_nil numbers && is_plain c) bad_value
asked_unfit (asked.Backup filespace items) numbers s = new_unfit (length items) numbers s
asked_unfit (asked.Hold filespace items) numbers s = new_unfit (length items) numbers s
asked_unfit asked.Placed numbers s = placed_unfit numbers s

-- a ticket isn't the caller's, stands twice, or there are too many, or they aren't of the kind that is asked for: no transaction is looked at then
abbrev pub unfit : Asked → List ℕ → Sight → List Refusal
unfit asked numbers s =
    are_there numbers s
    ++ (unless (name_once numbers && nat_le (length numbers) 256) bad_value
    ++ asked_unfit asked numbers s)

-- ---- digests

-- the digest of a sealed ticket's bytes, where it is for a new object
abbrev pub digest_in : Hashed → Option Digest
digest_in (Done digest) = Some digest
digest_in (Taking hasher) = None
digest_in Unhashed = None

abbrev pub digest_at : Option Seat → Option Digest
digest_at None = None
digest_at (Some s) = digest_in s.hashed

abbrev pub differs : Digest → Option Digest → List Refusal
differs given None = []
differs given (Some kept) = unless (is_same_name kept.0 given.0) (refusal.DigestDiffers kept given)

-- the digests that are given, each beside its ticket's
abbrev pub differ : List Digest → (actor : ℕ) → List ℕ → Held → List Refusal
differ [] actor numbers h = []
differ (given ∷ others) actor [] h = []
differ (given ∷ others) actor (number ∷ numbers) h = differs given (digest_at (own_seat actor number h)) ++ differ others actor numbers h

abbrev pub digests_given : Asked → List Digest
digests_given (asked.Plain c) = []
digests_given (asked.Backup filespace items) = map (λ i. i.digest) items
digests_given (asked.Hold filespace items) = map (λ i. i.digest) items
digests_given asked.Placed = []

-- other bytes than were meant, or a ticket that isn't sealed
abbrev pub unready : Asked → (actor : ℕ) → List ℕ → Held → List Refusal
unready asked actor numbers h =
    differ (digests_given asked) actor numbers h ++ of_tickets (λ t. unless t.is_sealed (ticket_in_use t.number)) numbers (sight_of actor h)

-- ---- the transaction

-- what comes of each item and the caller's ticket whose number stands at its place, where that is there
abbrev pub zipped : {A B : Type 0} → (A → Ticket → B) → List A → List ℕ → Sight → List B
zipped f [] numbers s = []
zipped f (i ∷ items) [] s = []
zipped f (i ∷ items) (number ∷ numbers) s = option_map_or (λ t. f i t ∷ []) (ticket number s.tickets) [] ++ zipped f items numbers s

abbrev pub backup_of : (filespace : ℕ) → List Item → List ℕ → Sight → Change
backup_of filespace items numbers s = change.Backup (record { filespace = filespace; scratch = scratch_of s.inventory (all_tickets numbers s); items = zipped version_from items numbers s })

abbrev pub hold_of : (filespace : ℕ) → List HeldItem → List ℕ → Sight → Change
hold_of filespace items numbers s = change.Hold (record { filespace = filespace; scratch = scratch_of s.inventory (all_tickets numbers s); items = zipped held_from items numbers s })

-- a volume with this file number, where the database has none
abbrev pub new_file : Inv → (pool file : ℕ) → List ScratchVolume
new_file v pool file = if is_none (row_at file v.stores.volumes) then record { pool = pool; file = file } ∷ [] else []

-- those of these volumes that aren't among them come behind them, each once
abbrev pub scratch_more : List ScratchVolume → List ScratchVolume → List ScratchVolume
scratch_more volumes scratch = scratch ++ once (map (λ volume. volume.file) scratch) volumes

-- a volume that is defined gets this file number
abbrev pub filled_store : (next_file : ℕ) → PoolChange → PoolChange
filled_store next_file (store.Volume verb.Define name pool file capacity access) = store.Volume verb.Define name pool next_file capacity access
filled_store next_file c = c

-- a filespace that is defined gets this number
abbrev pub filled_client : (next_filespace : ℕ) → ObjectChange → ObjectChange
filled_client next_filespace (client.Filespace two.Define node name filespace) = client.Filespace two.Define node name next_filespace
filled_client next_filespace c = c

-- it isn't legal, or too long for a record, or others hold what it takes away
abbrev pub made_refused : (actor : ℕ) → Option Change → Held → List Refusal
made_refused actor made h = change_refused actor made (sight_of actor h) ++ option_map_or (λ c. held_refused c (state_of h)) made []

-- what is asked, as a change
abbrev pub change_asked : (actor : ℕ) → Asked → List ℕ → Held → Option Change
change_asked actor asked numbers h = change_of asked numbers (sight_of actor h)

-- why a commit is refused that may begin
abbrev pub commit_causes : (actor : ℕ) → Asked → List ℕ → Held → List Refusal
commit_causes actor asked numbers h =
    unfit asked numbers (sight_of actor h) ++ (unready asked actor numbers h ++ made_refused actor (change_asked actor asked numbers h) h)

-- The transaction that is asked, where nothing refuses it; or the foremost of what does, or want of memory.
abbrev pub IsAsked : (actor : ℕ) → Asked → List ℕ → Held → Result Entry Refusal → Type 0
IsAsked actor asked numbers h (Ok e) =
    (e.actor ≡ actor) × (change_asked actor asked numbers h ≡ Some e.change) × (foremost (commit_causes actor asked numbers h) ≡ None)
IsAsked actor asked numbers h (Err e) = (e ≡ refusal.Memory) ⊎ (foremost (commit_causes actor asked numbers h) ≡ Some e)
