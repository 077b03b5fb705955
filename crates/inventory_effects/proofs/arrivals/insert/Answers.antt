use Rattle.std.proofs.Common.{ap}
use Rattle.inventory_rows.specs.object_rows.Rows.{Rows}
use Rattle.inventory_rows.specs.State.{inv_of}
use Rattle.inventory_effects.proofs.InsertLaws.{inserted_goes, refused_for_memory}
use Rattle.inventory_effects.proofs.Ways.{keeps_back, popped}
use Rattle.inventory_effects.proofs.arrivals.insert.Goals as goal

pub returns-in-Ok : goal.returns-in-Ok
returns-in-Ok c =
    inserted_goes c.args.filespace c.args.item.now (inv_of c.args.tables.now) c.in_ok-path.path c.in_ok-class.class c.in_ok-class.active c.insert.new.self c.next_behind-tables.result c.in_ok-version.version c.args.log.now c.push.new.self
    c.requires c.in_ok-version.ensures c.next_behind-tables.ensures c.in_ok-path.ensures.cases c.in_ok-class.ensures c.in_ok-push.ensures c.in-Ok.ensures.value c.in-Ok.ensures.newest c.in-Ok.ensures.undone

pub returns-in-Err : goal.returns-in-Err
returns-in-Err c = (
  refused_for_memory c.args.filespace c.args.item.now.path c.args.item.now.class c.in_ok-version.version c.args.tables.now.objects c.in-Err.refusal c.requires.there c.requires.room c.in-Err.ensures.value.1,
  keeps_back c.args.log.now c.pop.new.self (inv_of c.args.tables.now) (record (inv_of c.args.tables.now) { clients = c.insert.new.self }) (popped c.pop.result _ c.args.log.now c.push.new.self c.pop.new.self c.in_ok-push.ensures c.pop.ensures)
      (ap (λ (r : Rows). record (inv_of c.args.tables.now) { clients = r }) c.in-Err.ensures.value.0),
)
