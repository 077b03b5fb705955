use Rattle.kinds.specs.declared.segment.Segment.{Segment}
use Rattle.inventory_rows.specs.State.{inv_of}
use Rattle.hall.proofs.Having.{near_more}
use Rattle.hall.proofs.reading.frames_are_bounded.Goals as goal

pub segments-preserved : goal.segments-preserved
segments-preserved c =
    let d : Segment = record { file = 0; offset = 0; len = 0 } in
    record { near = near_more (inv_of c.args.tables.now) c.args.segments.now c.segments.segment-index d c.segments-test.true c.requires c.volume_is_bounded.ensures c.segments.invariant.near }
