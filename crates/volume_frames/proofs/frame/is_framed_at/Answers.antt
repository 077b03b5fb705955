use Rattle.volume_frames.proofs.Copies.{framed_tested, unframed_tested}
use Rattle.volume_frames.proofs.frame.is_framed_at.Goals as goal

pub returns-then-is_header : goal.returns-then-is_header
returns-then-is_header c =
    framed_tested c.args.file.now c.in-Some.header.now c.args.object c.args.number c.args.segment.now c.in-Some.ensures.cases (c.is_header.ensures.0 c.if-is_header.true)

pub returns-else-is_header : goal.returns-else-is_header
returns-else-is_header c =
    unframed_tested c.args.file.now c.in-Some.header.now c.args.object c.args.number c.args.segment.now c.in-Some.ensures.cases c.is_header.result c.is_header.ensures c.if-is_header.false
