use Rattle.std.proofs.Common.{◌+◌, drop}
use Rattle.inventory_rows.proofs.of_version_groups.Lists.{drop_at}
use Rattle.inventory_bytes.proofs.Filling.{one_more, one_short}
use Rattle.inventory_bytes.proofs.segments.put_segments.Goals as goal

pub returns-then-not-branch : goal.returns-then-not-branch
returns-then-not-branch c =
    one_short c.args.object _ (drop c.segments.segment-index c.args.segments.now) (drop (c.segments.segment-index + 1) c.args.segments.now) c.args.segments.now c.args.volumes.now.entries c.segments.volumes.entries c.put_segment.new.volumes.entries
    c.in_ok-put_segment.field-0 (drop_at c.args.segments.now c.segments.segment-index _ c.segments-test.true) c.in_ok-put_segment.ensures c.if-not-branch.true c.segments.invariant

pub segments-preserved : goal.segments-preserved
segments-preserved c =
    one_more c.args.object _ (drop c.segments.segment-index c.args.segments.now) (drop (c.segments.segment-index + 1) c.args.segments.now) c.args.segments.now c.args.volumes.now.entries c.segments.volumes.entries c.put_segment.new.volumes.entries
    c.in_ok-put_segment.field-0 (drop_at c.args.segments.now c.segments.segment-index _ c.segments-test.true) c.in_ok-put_segment.ensures c.if-not-branch.false c.segments.invariant
