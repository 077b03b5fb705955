use Rattle.std.proofs.Common.{◌∙◌, take, sym, ap}
use Rattle.std.proofs.lemmas.List.{take_more}
use Rattle.kinds.specs.declared.segment.Segment.{Segment}
use Rattle.space.specs.Pieces.{blocks_used}
use Rattle.space.proofs.runs.mark_all.Goals as goal

pub segments-preserved : goal.segments-preserved
segments-preserved c = λ count h.
    let none : Segment = record { file = 0; offset = 0; len = 0 } in
    c.mark.ensures count (take c.segments.segment-index c.args.segments.now) (c.segments.invariant count h)
    ∙ ap (blocks_used count) (sym (take_more c.args.segments.now c.segments.segment-index none c.segments-test.true))
