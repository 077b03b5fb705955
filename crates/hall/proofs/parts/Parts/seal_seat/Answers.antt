use Rattle.std.proofs.Common.{sym}
use Rattle.hall.proofs.SyncedSeats.{sealed_one}
use Rattle.hall.proofs.parts.Parts.seal_seat.Goals as goal

pub returns-in-Ok-clause-ok : goal.returns-in-Ok-clause-ok
returns-in-Ok-clause-ok g c =
    sealed_one c.args.number c.args.self.now _ c.in-Some.seat.now c.seal_at.new.seats.entries c.settle_after.new.seats.entries c.synced_file-synced.result c.self.view_is (sym c.in-Some.ensures.value)
    c.seal_at.ensures c.synced_file-synced.ensures c.settle_after.ensures
