-- What steps make of what the hall holds, where no device call is made.
use Rattle.std.specs.Prelude.{ℕ, ◌-◌, ◌==◌, nat_lt, List, ◌++◌, length, replicate, Option, None, Some, if◌then◌else◌, Result}
use Rattle.kinds.specs.Refusals.{unless}
use Rattle.kinds.specs.declared.refusal.Refusal.{Refusal}
use Rattle.kinds.specs.declared.refusal.Refusal.TheVariants as refusal
use Rattle.inventory_rows.specs.pool_tables.Rows.{row_at, without_row}
use Rattle.inventory_rows.specs.version_groups.Entries.{on_ok}
use Rattle.inventory_rows.specs.State.{Inv}
use Rattle.inventory_answers.specs.Answered.{answered}
use Rattle.inventory_answers.specs.declared.query.Query.{Query}
use Rattle.inventory_answers.specs.declared.reply.Answer.{Answer}
use Rattle.space.specs.Claims.{forced, released}
use Rattle.vault.specs.Vaults.{State}
use Rattle.machine.specs.Machine.{answer_with, halted, last_moment}
use Rattle.hall.specs.declared.seat.Seat.{Seat}
use Rattle.hall.specs.Held.{Held}

-- the run is full, or a fault has halted the hall
abbrev pub ended_at : (moment : ℕ) → Held → List Refusal
ended_at moment h = unless (nat_lt moment last_moment) refusal.RunFull ++ halted h.vault.fault

-- a ticket, where it is the actor's
abbrev pub own : (actor : ℕ) → Option Seat → Option Seat
own actor None = None
own actor (Some s) = if s.actor == actor then Some s else None

-- the actor's ticket with this number
abbrev pub own_seat : (actor number : ℕ) → Held → Option Seat
own_seat actor number h = own actor (row_at number h.seats)

-- the ticket with this number goes, and its space is given back
abbrev pub without_seat : ℕ → Held → Held
without_seat number h = record h { seats = without_row number h.seats; claims = released number h.claims }

-- what is answered to a query
abbrev pub told : Query → Held → Result Answer Refusal
told query h = on_ok (answer_with h.vault.end query) (answered query h.vault.database)

-- the same with this vault
abbrev pub with_vault : State Inv → Held → Held
with_vault vault h = record h { vault = vault }

-- every transaction has a stamp, those that had none this one, and nothing is held because of them any more
abbrev pub all_stamped : (moment : ℕ) → Held → Held
all_stamped moment h = record h { stamps = h.stamps ++ replicate (length h.vault.journal - length h.stamps) moment; claims = forced h.claims }
