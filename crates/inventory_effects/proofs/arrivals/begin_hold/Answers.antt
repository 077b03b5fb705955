use Rattle.std.proofs.Common.{ap}
use Rattle.inventory_rows.specs.object_rows.Rows.{Rows}
use Rattle.inventory_rows.specs.State.{inv_of}
use Rattle.inventory_effects.proofs.InsertLaws.{held_goes, hold_refused_for_memory}
use Rattle.inventory_effects.proofs.Ways.{keeps_back, popped}
use Rattle.inventory_effects.proofs.arrivals.begin_hold.Goals as goal

pub returns-in-Ok : goal.returns-in-Ok
returns-in-Ok c =
    held_goes c.args.filespace c.args.item.now (inv_of c.args.tables.now) c.hold.new.self c.next_behind-tables.result c.in_ok-held.held c.args.log.now c.push.new.self
    c.requires c.in_ok-held.ensures c.next_behind-tables.ensures c.in_ok-push.ensures c.in-Ok.ensures.value c.in-Ok.ensures.undone

pub returns-in-Err : goal.returns-in-Err
returns-in-Err c = (
  hold_refused_for_memory c.args.filespace c.in_ok-held.held c.args.tables.now.objects c.in-Err.refusal c.requires.there c.requires.room c.in-Err.ensures.value.1,
  keeps_back c.args.log.now c.pop.new.self (inv_of c.args.tables.now) (record (inv_of c.args.tables.now) { clients = c.hold.new.self }) (popped c.pop.result _ c.args.log.now c.push.new.self c.pop.new.self c.in_ok-push.ensures c.pop.ensures)
      (ap (λ (r : Rows). record (inv_of c.args.tables.now) { clients = r }) c.in-Err.ensures.value.0),
)
