use Rattle.std.proofs.Common.{◌≡◌, true, arith}
use Rattle.space_index.proofs.Counting.{outside_counts, marked_counts}
use Rattle.space_index.proofs.blocks.Blocks.put_one.Goals as goal

pub returns-then-block-blocks : goal.returns-then-block-blocks
returns-then-block-blocks c = outside_counts c.args.self.now c.args.block (omega arith)

pub returns-else-are_used : goal.returns-else-are_used
returns-else-are_used c =
    marked_counts c.args.self.now c.mark_used.new.self c.args.block c.mark_used.ensures (omega arith)
    (λ all. let is : c.are_used.result ≡ true = c.are_used.ensures.1 all in absurd (cc))
