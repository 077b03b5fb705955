use Rattle.inventory_rows.specs.State.{inv_of}
use Rattle.inventory_effects.proofs.PutLaws.{put_goes}
use Rattle.inventory_effects.proofs.puts.put_one.Goals as goal

pub returns-in-Ok : goal.returns-in-Ok
returns-in-Ok c =
    put_goes c.args.object c.args.segment.now (inv_of c.args.tables.now) c.put_segment.new.self c.end_at.result c.emptied_at.result c.args.log.now c.push.new.self c.end_at.ensures c.emptied_at.ensures c.in_ok-push.ensures c.in-Ok.ensures.put c.in-Ok.ensures.undone
