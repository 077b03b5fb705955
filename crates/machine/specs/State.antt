-- What the steps of all actors look at and change.
use Rattle.std.specs.Prelude.{ℕ, ◌==◌, ◌&&◌, Bool, true, false, not, List, [], ◌∷◌, ◌++◌, map, length, drop, filter, Option, None, Some, if◌then◌else◌}
use Rattle.std.specs.List.{find, list_any}
use Rattle.sha2.specs.Sha256.{sha256}
use Rattle.kinds.specs.ValueForms.{digest_with}
use Rattle.kinds.specs.declared.segment.Digest.{Digest}
use Rattle.kinds.specs.declared.segment.Segment.{Segment}
use Rattle.steps.specs.entries.declared.entry.Entry.{Entry}
use Rattle.steps.specs.inventory_rows.State.{Inv}
use Rattle.item_refusals.specs.inventory_rules.Journal.{Journal}
use Rattle.item_refusals.specs.inventory_rules.Run.{journal_of}
use Rattle.item_refusals.specs.inventory_rules.Transactions.{effect}
use Rattle.steps.specs.space.declared.aim.Aim.{Aim}

-- ---- tickets

-- where an object goes: its pool, and its segments there in the order of its data
pub record Place : Type 0 where
  pub pool : ℕ
  pub segments : List Segment

-- what a ticket is for: a new object, with the number that it has; or a copy of an object, with its aim
pub data Purpose : Type 0 where
  storing : (object : ℕ) → Purpose
  copying : (object : ℕ) (aim : Aim) → Purpose

-- Space that an actor has taken, and the bytes that it has written there.
pub record Ticket : Type 0 where
  pub number : ℕ
  pub actor : ℕ
  pub purpose : Purpose
  pub size : ℕ
  pub place : Place
  pub bytes : List ℕ
  pub is_sealed : Bool

abbrev pub is_storing : Purpose → Bool
is_storing (storing object) = true
is_storing (copying object aim) = false

abbrev pub object_of : Purpose → ℕ
object_of (storing object) = object
object_of (copying object aim) = object

-- the SHA-256 of what the ticket took
abbrev pub digest_of : Ticket → Digest
digest_of t = digest_with (sha256 t.bytes)

-- the ticket with this number
abbrev pub ticket : ℕ → List Ticket → Option Ticket
ticket number tickets = find (λ t. t.number == number) tickets

-- the ticket is the actor's, with this number
abbrev pub is_ticket : (actor number : ℕ) → Ticket → Bool
is_ticket actor number t = t.actor == actor && t.number == number

-- one of the actor's, with one of these numbers
abbrev pub is_among : (actor : ℕ) → List ℕ → Ticket → Bool
is_among actor numbers t = t.actor == actor && list_any (λ n. n == t.number) numbers

-- the tickets without those of the actor's that have these numbers
abbrev pub without : (actor : ℕ) → List ℕ → List Ticket → List Ticket
without actor numbers tickets = filter (λ t. not (is_among actor numbers t)) tickets

abbrev pub took : List ℕ → Ticket → Ticket
took bytes t = record t { bytes = t.bytes ++ bytes }

abbrev pub sealed : Ticket → Ticket
sealed t = record t { is_sealed = true }

-- the actor's ticket takes more bytes
abbrev pub taking : (actor number : ℕ) → List ℕ → List Ticket → List Ticket
taking actor number bytes tickets = map (λ t. if is_ticket actor number t then took bytes t else t) tickets

-- the actor's ticket is sealed
abbrev pub sealing : (actor number : ℕ) → List Ticket → List Ticket
sealing actor number tickets = map (λ t. if is_ticket actor number t then sealed t else t) tickets

-- ---- images in progress

-- what an image is of: a checkpoint, or a database backup
pub data Picture : Type 0 where
  checkpoint : Picture
  backup : Picture

-- An image in progress: whose it is, the file that it goes to, the number of the database that it is of, how many bytes of its payload are not
-- written yet, and how many records of later transactions a checkpoint has copied.
pub record Image : Type 0 where
  pub actor : ℕ
  pub picture : Picture
  pub file : ℕ
  pub seq : ℕ
  pub unwritten : ℕ
  pub copied : ℕ

-- ---- the hall

-- The database that the hall was opened with, and the transactions since, the oldest first; the stamps of the first of these, each the moment at which it
-- was known to be durable; the tickets; the file, object and ticket numbers that are drawn next; the image in progress; the generation of the newest open
-- image; the length of the log in bytes; and the file whose fault halted the hall, with its count.
pub record Core : Type 0 where
  pub base : Inv
  pub journal : List Entry
  pub stamps : List ℕ
  pub tickets : List Ticket
  pub next_file : ℕ
  pub next_object : ℕ
  pub next_ticket : ℕ
  pub image : Option Image
  pub generation : ℕ
  pub log_length : ℕ
  pub fault : Option (ℕ × ℕ)

-- With it the bytes of each object, the moment of the store, and how often a call on each file has failed.
pub record Machine : Type 0 where
  pub core : Core
  pub contents : ℕ → List ℕ
  pub moment : ℕ
  pub counts : ℕ → ℕ

-- the database after these transactions
abbrev pub after : Inv → List Entry → Inv
after v [] = v
after v (e ∷ entries) = after (effect e.change v) entries

-- the database now
abbrev pub inventory : Core → Inv
inventory c = after c.base c.journal

-- the transactions that aren't forced yet
abbrev pub unforced : Core → List Entry
unforced c = drop (length c.stamps) c.journal

-- ---- what an actor's own step looks at

-- The database, what the journal of the run tells, the number of the run's base, the file number that is drawn next, and the actor's own tickets and image.
pub record Sight : Type 0 where
  pub first : ℕ
  pub next_file : ℕ
  pub journal : Journal
  pub inventory : Inv
  pub tickets : List Ticket
  pub image : Option Image

abbrev pub own_tickets : ℕ → List Ticket → List Ticket
own_tickets actor tickets = filter (λ t. t.actor == actor) tickets

abbrev pub own_image : ℕ → Option Image → Option Image
own_image actor None = None
own_image actor (Some i) = if i.actor == actor then Some i else None

abbrev pub sight : ℕ → Core → Sight
sight actor c = record {
  first = c.base.number;
  next_file = c.next_file;
  journal = journal_of c.base c.journal;
  inventory = inventory c;
  tickets = own_tickets actor c.tickets;
  image = own_image actor c.image;
}
