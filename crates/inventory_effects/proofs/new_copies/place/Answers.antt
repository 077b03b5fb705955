use Rattle.std.proofs.Common.{◌≡◌, refl, ap, subst, Ok}
use Rattle.inventory_rows.specs.version_groups.declared.copies.CopyChange.TheVariants.{Add}
use Rattle.inventory_rows.specs.version_groups.declared.copies.CopyRow.{CopyRow}
use Rattle.inventory_rows.specs.object_rows.Rows.{Rows, rows_altered}
use Rattle.inventory_rows.specs.State.{inv_of}
use Rattle.inventory_rules.specs.Copies.{placed_now}
use Rattle.inventory_effects.proofs.CopyLaws.{placed_goes, placed_for_memory}
use Rattle.inventory_effects.proofs.Ways.{keeps_back, popped}
use Rattle.inventory_effects.proofs.new_copies.place.Goals as goal

pub returns-in-Ok : goal.returns-in-Ok
returns-in-Ok c =
    placed_goes c.args.item.now.object c.args.item.now.pool (placed_now c.args.item.now.pool c.args.item.now.segments (inv_of c.args.tables.now)) (inv_of c.args.tables.now) c.add_copy.new.self c.args.log.now c.push.new.self c.requires.there c.find.ensures.distinct c.requires.free refl c.in_ok-push.ensures
    (subst (λ (r : CopyRow). rows_altered c.args.item.now.object (Add r) c.args.tables.now.objects ≡ Ok c.add_copy.new.self) c.in_ok-copy.ensures c.in-Ok.ensures)

pub returns-in-Err : goal.returns-in-Err
returns-in-Err c = (
  placed_for_memory c.args.item.now.object c.in_ok-copy.copy c.args.tables.now.objects c.in-Err.refusal c.requires.there c.in-Err.ensures.1,
  keeps_back c.args.log.now c.pop.new.self (inv_of c.args.tables.now) (record (inv_of c.args.tables.now) { clients = c.add_copy.new.self }) (popped c.pop.result _ c.args.log.now c.push.new.self c.pop.new.self c.in_ok-push.ensures c.pop.ensures)
      (ap (λ (r : Rows). record (inv_of c.args.tables.now) { clients = r }) c.in-Err.ensures.0),
)
