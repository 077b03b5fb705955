use Rattle.inventory_effects.proofs.InsertLaws.{was_so}
use Rattle.inventory_effects.proofs.arrivals.class_before.Goals as goal

pub returns-in_ok-clone-in-Some : goal.returns-in_ok-clone-in-Some
returns-in_ok-clone-in-Some c =
    was_so c.args.filespace c.args.path.now c.args.tables.now.objects.filespaces c.in-Some.group.now c.in_ok-clone-in-Some.field-0 c.has_active.result c.filespaces-rows.ensures.sound.full c.in-Some.ensures c.in_ok-clone-in-Some.ensures.cases c.has_active.ensures
