use Rattle.inventory_bytes.proofs.Filling.{none_put, one_put}
use Rattle.inventory_bytes.proofs.segments.put_segment.Goals as goal

pub returns-in_ok-hold-in-Some : goal.returns-in_ok-hold-in-Some
returns-in_ok-hold-in-Some c =
    one_put c.args.object c.args.segment.now c.new-held.result c.args.volumes.now.entries (c.get_mut.follows.lender c.hold.new.volume).entries c.in-Some.volume.now c.hold.new.volume c.new-held.ensures c.len-len.ensures.ordered c.in-Some.ensures.value
    (c.get_mut.follows.holds c.hold.new.volume).0 c.in_ok-hold-in-Some.ensures

pub returns-in-None : goal.returns-in-None
returns-in-None c = none_put c.args.object c.args.segment.now c.args.volumes.now.entries c.in-None.ensures.value
