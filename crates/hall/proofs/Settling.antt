-- A file was synced, and tickets that lie on it are firm: it is the same state of the machine.
use Rattle.std.proofs.Common.{◌≡◌, ℕ, Option, Some, None}
use Rattle.std.specs.Prelude.{IfSome}
use Rattle.store_api.specs.Disk.{History}
use Rattle.store_api.specs.Told.{Told}
use Rattle.machine.specs.State.{Machine}
use Rattle.hall.specs.Frames.{IsSettled}
use Rattle.hall.specs.Good.{Is, IsKept, WasSound}
use Rattle.hall.specs.Held.{Hall, Held}
use Rattle.hall.specs.Taken.{firm_on}
use Rattle.hall.proofs.Seating.{kept_seated}
use Rattle.hall.proofs.SyncedSeats.{all_firm_on, seats_firm}

-- what holds behind calls of what they left
pub told_behind : (x y : Option History) (R : History → History → Type 0) (P : History → Type 0) → ((h new : History) → R h new → P new) → Told x y R → IfSome y P
told_behind None None R P does did = tt
told_behind None (Some new) R P does did = absurd did
told_behind (Some h) None R P does did = absurd did
told_behind (Some h) (Some new) R P does did = does h new did

module _ {S : Type 0} (told : S → Option History) (moment : S → ℕ) (faults : S → ℕ → ℕ) (hall : Hall S) (m : Machine) (o : Option ℕ) (is : Is told moment faults hall m) where
  abbrev next_held : Held
  next_held = record hall.held { seats = firm_on o hall.held.seats }

  kept_firm : (h : History) → IfSome o (IsSettled h) → IsKept m hall.held h → IsKept m next_held h
  kept_firm h settled k =
      kept_seated m.core.tickets m.core.next_file m.core.next_object m.core.next_ticket m hall.held (firm_on o hall.held.seats) hall.held.claims hall.held.next_object hall.held.next_ticket h k
      (all_firm_on o h hall.held.seats m.core.tickets is.core.tickets is.good.numbers.tickets is.good.space.filled settled k.tickets)

  all_kept : (t : Option History) → IfSome t (λ h. IfSome o (IsSettled h)) → IfSome t (λ h. WasSound hall.held.base hall.held.opened h → IsKept m hall.held h)
      → IfSome t (λ h. WasSound hall.held.base hall.held.opened h → IsKept m next_held h)
  all_kept None settled kept = tt
  all_kept (Some h) settled kept = λ sound. kept_firm h settled (kept sound)

  pub settles : IfSome (told hall.store) (λ h. IfSome o (IsSettled h)) → Is told moment faults (record hall { held = next_held }) m
  settles settled = record {
    core = record {
      base = is.core.base;
      journal = is.core.journal;
      database = is.core.database;
      stamps = is.core.stamps;
      forced = is.core.forced;
      tickets = seats_firm o hall.held.seats m.core.tickets is.core.tickets;
      space = is.core.space;
      next_object = is.core.next_object;
      next_ticket = is.core.next_ticket;
      image = is.core.image;
      is_image = is.core.is_image;
      generation = is.core.generation;
      log_length = is.core.log_length;
      fault = is.core.fault;
    };
    clock = is.clock;
    counts = is.counts;
    good = record {
      lawful = is.good.lawful;
      stamped = is.good.stamped;
      space = is.good.space;
      numbers = is.good.numbers;
      bytes = is.good.bytes;
      listed = is.good.listed;
      kept = all_kept (told hall.store) settled is.good.kept;
    };
  }
