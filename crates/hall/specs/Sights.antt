-- What the hall holds, as an actor's steps look at it: the tickets as they are held, which are the machine's without their bytes.
use Rattle.std.specs.Prelude.{ℕ, List, [], map, Option, None, Some}
use Rattle.inventory_rules.specs.Run.{journal_of}
use Rattle.machine.specs.State.{Core, Image, Sight, Ticket, own_tickets}
use Rattle.hall.specs.declared.seat.Seat.{Seat}
use Rattle.hall.specs.Held.{BegunImage, Held, purpose_of}

-- a ticket that is held under a number, without its bytes
abbrev pub ticket_of : ℕ → Seat → Ticket
ticket_of number s = record {
  number = number;
  actor = s.actor;
  purpose = purpose_of s.purpose;
  size = s.size;
  place = record { pool = s.pool; segments = map (λ p. p.segment) s.places };
  bytes = [];
  is_sealed = s.is_sealed;
}

abbrev pub tickets_of : List (ℕ × Seat) → List Ticket
tickets_of seats = map (λ e. ticket_of e.0 e.1) seats

-- the same of one that may be there
abbrev pub seen : ℕ → Option Seat → Option Ticket
seen number None = None
seen number (Some s) = Some (ticket_of number s)

-- an image in progress, without how far it is
abbrev pub image_seen : Option BegunImage → Option Image
image_seen None = None
image_seen (Some i) = Some (record { actor = i.actor; picture = i.picture; file = i.file; seq = i.seq; unwritten = 0; copied = 0 })

-- what a commit looks at, of an actor
abbrev pub sight_of : (actor : ℕ) → Held → Sight
sight_of actor h = record {
  first = h.base.number;
  next_file = h.claims.next_file;
  journal = journal_of h.base h.vault.journal;
  inventory = h.vault.database;
  tickets = own_tickets actor (tickets_of h.seats);
  image = None;
}

-- what is held by whomever, as the state of a machine whose base is the database as it is
abbrev pub state_of : Held → Core
state_of h = record {
  base = h.vault.database;
  journal = [];
  stamps = [];
  tickets = tickets_of h.seats;
  next_file = h.claims.next_file;
  next_object = h.next_object;
  next_ticket = h.next_ticket;
  image = image_seen h.image;
  generation = h.vault.generation;
  log_length = h.vault.end;
  fault = h.vault.fault;
}
