use Rattle.std.proofs.Common.{drop}
use Rattle.inventory_rows.specs.State.{inv_of}
use Rattle.inventory_rules.specs.Segments.{put, CanPut, put_step}
use Rattle.inventory_effects.proofs.Ways.{Along}
use Rattle.inventory_effects.proofs.puts.put_all.Given as goal

abbrev pub invariant-segments : goal.invariant-segments
invariant-segments l =
    Along (CanPut l.object) (put_step l.object) (put l.object) l.fn.log (inv_of l.fn.tables) (drop l.segment-index l.segments) l.log (inv_of l.tables) (put l.object l.fn.segments (inv_of l.fn.tables))
