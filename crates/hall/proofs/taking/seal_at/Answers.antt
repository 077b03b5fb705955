use Rattle.std.proofs.Common.{sym, ap, ◌∙◌}
use Rattle.inventory_rows.specs.pool_tables.Rows.{set_row}
use Rattle.hall.specs.declared.seat.Seat.{Seat}
use Rattle.hall.proofs.taking.seal_at.Goals as goal

pub returns : goal.returns
returns c = (
  c.in-Some.seat.now,
  c.seal.new.self.hashed,
  sym c.in-Some.ensures.value,
  c.seal.ensures.hashed,
  (c.get_mut.follows.holds c.seal.new.self).0 ∙ ap (λ (s : Seat). set_row c.args.number s c.args.seats.now.entries) c.seal.ensures.rest,
)
