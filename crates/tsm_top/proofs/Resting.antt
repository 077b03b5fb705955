-- A hall in which nothing is in progress is a machine at rest.
use Rattle.std.proofs.Common.{◌≡◌, ℕ, Option, List, [], ◌∷◌, length, refl, sym, ap, ◌∙◌}
use Rattle.store_api.specs.Disk.{History}
use Rattle.entries.specs.declared.entry.Entry.{Entry}
use Rattle.hall.specs.Good.{Is}
use Rattle.hall.specs.Held.{AreSeatsOf, Hall}
use Rattle.hall.specs.Rest.{Rests}
use Rattle.hall.specs.declared.seat.Seat.{Seat}
use Rattle.hall.proofs.Imaging.{no_image}
use Rattle.block_results.specs.line_results.Resting.{IsAtRest}
use Rattle.machine.specs.State.{Machine, Ticket}

pub no_seats : (seats : List (ℕ × Seat)) (tickets : List Ticket) → seats ≡ [] → AreSeatsOf seats tickets → tickets ≡ []
no_seats seats [] none are = refl
no_seats [] (t ∷ tickets) none are = absurd are
no_seats (s ∷ seats) (t ∷ tickets) none are = absurd cc

pub at_rest : {S : Type 0} (told : S → Option History) (moment : S → ℕ) (faults : S → ℕ → ℕ) (hall : Hall S) (m : Machine) → Is told moment faults hall m → Rests hall.held → IsAtRest m.core
at_rest told moment faults hall m is rests = record {
  tickets = no_seats hall.held.seats m.core.tickets rests.seats is.core.tickets;
  image = no_image m.core.image (is.core.image ∙ rests.image);
  durable = ap (λ (l : List ℕ). length l) is.core.stamps ∙ rests.durable ∙ sym (ap (λ (l : List Entry). length l) is.core.journal);
  fault = is.core.fault ∙ rests.fault;
}
