use Rattle.std.proofs.Common.{◌∙◌, ap, arith, refl, rules, sym}
use Rattle.inventory_rows.specs.State.{inv_of}
use Rattle.hall.specs.Drawn.{last_file}
use Rattle.hall.proofs.Indexed.{kept_seated}
use Rattle.hall.proofs.MoreTickets.{last_below, ok_same, seat_done, seat_undone}
use Rattle.hall.proofs.parts.Parts.seat.Goals as goal

pub returns-in-Err-clause-same : goal.returns-in-Err-clause-same
returns-in-Err-clause-same c =
    seat_undone _ c.args.self.now _ c.insert.new.self.entries c.remove.new.self.entries c.hold-2.new.self c.self.view_is c.requires.below c.in_ok-insert.ensures.entries c.remove.ensures.entries c.in-Err.ensures.0

pub draw-requires : goal.draw-requires
draw-requires c = let low = last_below c.args.seat.places c.requires.files in let same = c.last_file-last.ensures ∙ ap last_file c.as_slice.ensures in omega (arith, low, same)

pub invariant_of-self-2 : goal.invariant_of-self-2
invariant_of-self-2 c = (
  c.self.invariant.0,
  kept_seated c.self.inside.index c.hold.new.self (inv_of c.tables.result.now) c.self.inside.vault.database c.self.inside.space c.hold-2.new.self c.draw.new.self _ _ _ (c.tables.ensures.value ∙ c.database.ensures)
      c.hold.ensures c.in_default.ensures c.draw.ensures c.self.invariant.1,
)

pub returns-clause-ok : goal.returns-clause-ok
returns-clause-ok c =
    seat_done _ c.args.self.now c.args.seat c.insert.new.self.entries c.last_file-last.result c.in_ok-clone.field-0 c.hold-2.new.self c.draw.new.self c.self.view_is c.in_ok-insert.ensures.entries (c.last_file-last.ensures ∙ ap last_file c.as_slice.ensures) (search rules) (sym (ok_same _ _ _ refl c.in_default.ensures))
    c.draw.ensures
