-- Why a step is refused by what the actor itself can see: the database, what the journal tells, and its own tickets and image.
use Rattle.std.specs.Prelude.{ℕ, ◌+◌, ◌-◌, ◌^◌, ◌==◌, nat_le, nat_lt, Bool, true, false, not, ◌&&◌, ◌||◌, is_some, List, [], ◌∷◌, ◌++◌, map, length, Option, None, Some, if◌then◌else◌}
use Rattle.std.specs.List.{list_all, flat_map}
use Rattle.std.specs.Option.{option_map_or}
use Rattle.kinds.specs.Names.{is_same_name}
use Rattle.kinds.specs.Refusals.{unless, bad_value, refusal_of}
use Rattle.kinds.specs.declared.refusal.By.TheVariants as by
use Rattle.kinds.specs.declared.refusal.Refusal.{Refusal}
use Rattle.kinds.specs.declared.refusal.Refusal.TheVariants as refusal
use Rattle.kinds.specs.declared.segment.Digest.{Digest}
use Rattle.steps.specs.entries.EntryForm.{entry as entry_form}
use Rattle.steps.specs.entries.declared.change.Change.{Change}
use Rattle.steps.specs.entries.declared.change.Change.TheVariants as change
use Rattle.steps.specs.inventory_rows.version_groups.Entries.{is_nil}
use Rattle.steps.specs.inventory_rows.version_groups.declared.copies.CopyRow.{CopyRow}
use Rattle.steps.specs.inventory_rows.version_groups.declared.versions.Version.{Version}
use Rattle.steps.specs.inventory_rows.Search.{copy_in, is_primary, is_primary_kind, pool, version}
use Rattle.item_refusals.specs.inventory_rules.Backups.{backup_at, is_done}
use Rattle.item_refusals.specs.inventory_rules.Copies.{copy_refused}
use Rattle.item_refusals.specs.inventory_rules.Transactions.{refused}
use Rattle.item_refusals.specs.inventory_rules.Versions.{name_once, of_version}
use Rattle.steps.specs.inventory_answers.Answered.{answered}
use Rattle.steps.specs.inventory_answers.declared.query.Query.{Query}
use Rattle.steps.specs.space.declared.aim.Aim.{Aim}
use Rattle.steps.specs.space.declared.aim.Aim.TheVariants as aim
use Rattle.steps.specs.declared.asked.Asked.{Asked}
use Rattle.steps.specs.declared.asked.Asked.TheVariants as asked
use Rattle.steps.specs.declared.image.ImageKind.{ImageKind}
use Rattle.steps.specs.declared.image.ImageKind.TheVariants as image
use Rattle.machine.specs.Changes.{all_tickets, change_of, is_copied, is_moved}
use Rattle.machine.specs.State.{Sight, Ticket, digest_of, is_storing, object_of, ticket}

-- of a ticket that has to be one of the caller's
abbrev pub of_ticket : (Ticket → List Refusal) → Option Ticket → List Refusal
of_ticket rule None = refusal.NotFound ∷ []
of_ticket rule (Some t) = rule t

-- the ticket is in the way: it is sealed, or of the other kind
abbrev pub ticket_in_use : ℕ → Refusal
ticket_in_use number = refusal.InUse (by.Ticket number)

-- ---- space

abbrev pub new_refused : (pool size : ℕ) → Sight → List Refusal
new_refused number size s =
    unless (nat_lt size (2 ^ 44)) refusal.TooLarge  -- no object has so many bytes
    ++ unless (is_primary number s.inventory) refusal.NotFound  -- the pool isn't there, or is none for new objects

abbrev pub is_copy_pool : ℕ → Sight → Bool
is_copy_pool number s = option_map_or (λ p. not (is_primary_kind p.kind)) (pool number s.inventory) false

-- the copy pool has a copy already
abbrev pub copied_already : Option CopyRow → List Refusal
copied_already None = []
copied_already (Some copy) = refusal.Stale copy.placed ∷ []

abbrev pub copy_refused_by : ℕ → Aim → Sight → List Refusal
copy_refused_by object (aim.New number) s = bad_value ∷ []  -- no aim for a copy
copy_refused_by object (aim.Move from placed to along) s =
    unless (is_some (pool to s.inventory)) refusal.NotFound  -- the pool isn't there
    ++ of_version s.journal object (copy_refused s.journal object from placed) (version object s.inventory)  -- the object, or the copy that is to move, isn't as it was named
copy_refused_by object (aim.Copy to) s =
    unless (is_copy_pool to s) refusal.NotFound  -- the pool isn't there, or is no copy pool
    ++ of_version s.journal object (λ w. copied_already (copy_in to w)) (version object s.inventory)  -- the object isn't there, or has such a copy

-- ---- pieces

-- how many bytes a piece has at most
abbrev pub most_bytes : ℕ
most_bytes = 2 ^ 16

abbrev pub write_refused : (number count : ℕ) → Sight → List Refusal
write_refused number count s =
    unless (nat_le 1 count && nat_le count most_bytes) bad_value  -- no piece, or too long a one
    ++ of_ticket (λ t.
    unless (is_storing t.purpose && not t.is_sealed) (ticket_in_use number)  -- a copy's, or sealed
    ++ unless (nat_le (length t.bytes + count) t.size) (refusal.Changed t.size (length t.bytes + count))) (ticket number s.tickets)  -- more than it is for

-- the object whose copy is made is kept no longer
abbrev pub object_gone : ℕ → Sight → List Refusal
object_gone object s = of_version s.journal object (λ w. []) (version object s.inventory)

abbrev pub copying_refused : ℕ → Sight → List Refusal
copying_refused number s = of_ticket (λ t.
    if is_storing t.purpose then ticket_in_use number ∷ []  -- a new object's
    else unless (not t.is_sealed) (ticket_in_use number)  -- sealed
    ++ object_gone (object_of t.purpose) s) (ticket number s.tickets)  -- its object went

abbrev pub seal_refused : ℕ → Sight → List Refusal
seal_refused number s = of_ticket (λ t.
    unless (length t.bytes == t.size) (refusal.Changed t.size (length t.bytes))) (ticket number s.tickets)  -- less than it is for

abbrev pub drop_refused : ℕ → Sight → List Refusal
drop_refused number s = of_ticket (λ t. []) (ticket number s.tickets)

abbrev pub has_copy_in : ℕ → Version → Bool
has_copy_in from w = from == 0 || is_some (copy_in from w)

abbrev pub read_refused : (object : ℕ) → Digest → (from offset wanted : ℕ) → Sight → List Refusal
read_refused object kept from offset wanted s =
    unless (nat_le wanted most_bytes) bad_value  -- too long a buffer
    ++ of_version s.journal object (λ w.
    unless (has_copy_in from w) refusal.NotFound  -- no copy in that pool
    ++ (unless (nat_le offset w.size) bad_value  -- behind the object's end
    ++ unless (is_same_name w.digest.0 kept.0) (refusal.DigestDiffers w.digest kept))) (version object s.inventory)  -- another object than the caller means

-- ---- transactions

-- of each of the caller's tickets with these numbers
abbrev pub of_tickets : (Ticket → List Refusal) → List ℕ → Sight → List Refusal
of_tickets rule numbers s = flat_map (λ number. option_map_or rule (ticket number s.tickets) []) numbers

abbrev pub are_there : List ℕ → Sight → List Refusal
are_there numbers s = flat_map (λ number. unless (is_some (ticket number s.tickets)) refusal.NotFound) numbers

-- the digest that is given is that of the ticket's bytes; each in its turn
abbrev pub digest_refused : Digest → Option Ticket → List Refusal
digest_refused given None = []
digest_refused given (Some t) = unless (is_same_name (digest_of t).0 given.0) (refusal.DigestDiffers (digest_of t) given)

abbrev pub digests_refused : List Digest → List ℕ → Sight → List Refusal
digests_refused [] numbers s = []
digests_refused (given ∷ others) [] s = []
digests_refused (given ∷ others) (number ∷ numbers) s = digest_refused given (ticket number s.tickets) ++ digests_refused others numbers s

-- what has a step of its own, or comes from tickets alone
abbrev pub is_plain : Change → Bool
is_plain (change.Backup c) = false
is_plain (change.Hold c) = false
is_plain (change.Move c) = false
is_plain (change.Copy c) = false
is_plain (change.Reuse file) = false
is_plain (change.DbBegin file after) = false
is_plain (change.DbEnd file) = false
is_plain _ = true

-- new objects from tickets
abbrev pub storing_refused : List Digest → List ℕ → Sight → List Refusal
storing_refused digests numbers s =
    unless (length digests == length numbers) bad_value  -- not as many items as tickets
    ++ (of_tickets (λ t. unless (is_storing t.purpose) bad_value) numbers s  -- a copy's ticket
    ++ digests_refused digests numbers s)  -- other bytes than were meant

abbrev pub asked_refused : Asked → List ℕ → Sight → List Refusal
asked_refused (asked.Plain c) numbers s = unless (is_nil numbers && is_plain c) bad_value  -- tickets, or a change that isn't made so
asked_refused (asked.Backup filespace items) numbers s = storing_refused (map (λ i. i.digest) items) numbers s
asked_refused (asked.Hold filespace items) numbers s = storing_refused (map (λ i. i.digest) items) numbers s
asked_refused asked.Placed numbers s =
    unless (not (is_nil numbers)) bad_value  -- no ticket
    ++ unless (list_all is_moved (all_tickets numbers s) || list_all is_copied (all_tickets numbers s)) bad_value  -- not all to move, and not all further copies

abbrev pub listed : {A : Type 0} → Option A → List A
listed None = []
listed (Some x) = x ∷ []

abbrev pub change_illegal : Change → Sight → List Refusal
change_illegal c s = listed (refused s.journal c s.inventory)

-- the change isn't legal, or has more bytes than a record may have
abbrev pub change_refused : (actor : ℕ) → Option Change → Sight → List Refusal
change_refused actor None s = []
change_refused actor (Some c) s =
    change_illegal c s
    ++ unless (nat_le (length (entry_form.spell (record { actor = actor; change = c }))) (2 ^ 24)) refusal.RecordFull

abbrev pub commit_refused : (actor : ℕ) → Asked → List ℕ → Sight → List Refusal
commit_refused actor asked numbers s =
    are_there numbers s  -- a ticket isn't the caller's
    ++ (unless (name_once numbers && nat_le (length numbers) 256) bad_value  -- a ticket twice, or too many
    ++ (asked_refused asked numbers s
    ++ (of_tickets (λ t. unless t.is_sealed (ticket_in_use t.number)) numbers s  -- a ticket that isn't sealed
    ++ change_refused actor (change_of asked numbers s) s)))

-- ---- queries and images

abbrev pub ask_refused : Query → Sight → List Refusal
ask_refused query s = refusal_of (answered query s.inventory)

-- a backup that follows another follows a whole one of this run, of which fewer than 2^32 transactions are behind
abbrev pub since_refused : (after : ℕ) → Sight → List Refusal
since_refused file s =
    unless (is_done (backup_at file s.inventory) && option_map_or (λ b. nat_le s.first b.number) (backup_at file s.inventory) false) refusal.NotFound
    ++ unless (option_map_or (λ b. nat_lt (s.inventory.number + 1 - b.number) (2 ^ 32)) (backup_at file s.inventory) true) refusal.InventoryFull

abbrev pub image_refused : ImageKind → Sight → List Refusal
image_refused image.Checkpoint s = []
image_refused image.Backup s = change_illegal (change.DbBegin s.next_file None) s
image_refused (image.Since file) s = since_refused file s ++ change_illegal (change.DbBegin s.next_file (Some file)) s
image_refused image.Next s = unless (is_some s.image) refusal.NotFound  -- the caller has begun none

abbrev pub reuse_refused : ℕ → Sight → List Refusal
reuse_refused file s = change_illegal (change.Reuse file) s
