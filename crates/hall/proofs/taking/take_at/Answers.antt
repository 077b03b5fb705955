use Rattle.std.proofs.Common.{sym, ap, ◌∙◌}
use Rattle.inventory_rows.specs.pool_tables.Rows.{set_row}
use Rattle.hall.specs.declared.seat.Seat.{Seat}
use Rattle.hall.proofs.taking.take_at.Goals as goal

pub returns : goal.returns
returns c = (
  c.in-Some.seat.now,
  c.take.new.self.hashed,
  sym c.in-Some.ensures.value,
  c.take.ensures.hashed,
  c.take.ensures.count,
  (c.get_mut.follows.holds c.take.new.self).0 ∙ ap (λ (s : Seat). set_row c.args.number s c.args.seats.now.entries) c.take.ensures.rest,
)
