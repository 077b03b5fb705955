use Rattle.inventory_rows.specs.State.{inv_of}
use Rattle.inventory_effects.proofs.PutLaws.{made_goes}
use Rattle.inventory_effects.proofs.puts.make_one.Goals as goal

pub returns-in-Ok : goal.returns-in-Ok
returns-in-Ok c =
    made_goes c.args.scratch.now (inv_of c.args.tables.now) c.add_scratch.new.self c.max-tables.result c.args.log.now c.push.new.self c.requires.free c.max-tables.ensures c.in_ok-push.ensures c.in-Ok.ensures
