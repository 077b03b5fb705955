use Rattle.std.proofs.Common.{◌≡◌, ◌∙◌, ◌+◌, ℕ, subst, arith}
use Rattle.space_index.specs.Counts.{AreCounted}
use Rattle.space_index.proofs.Counting.{so_far, one_further, whole_segment}
use Rattle.space_index.proofs.blocks.Blocks.put.Goals as goal

pub each-preserved : goal.each-preserved
each-preserved c = record {
  from = omega arith;
  upto = omega arith;
  counted = λ count times are.
      one_further c.put_one.new.self c.run_of-run.result.first c.each.block count times c.each.invariant.from
      (c.in_ok-put_one.ensures count (so_far times c.run_of-run.result.first c.each.block) (c.each.invariant.counted count times are));
}

pub returns : goal.returns
returns c = λ count times are.
    let run = c.run_of-run.result in
    let end : c.each.block ≡ run.first + run.blocks = omega arith in
    let now = c.each.invariant.counted count times are in
    whole_segment c.each.self c.args.segment.now run.first (run.first + run.blocks) count c.blocks-2.result times (c.blocks-2.ensures ∙ are.all) c.run_of-run.ensures.blocks
    (subst (λ (n : ℕ). AreCounted c.each.self count (so_far times run.first n)) end now)
