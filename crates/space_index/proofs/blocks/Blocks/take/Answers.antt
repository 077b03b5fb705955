use Rattle.std.proofs.Common.{◌≡◌, ◌∙◌, ◌+◌, ◌<◌, arith}
use Rattle.space_index.proofs.Counting.{so_far, one_left, none_left, segment_whole}
use Rattle.space_index.proofs.blocks.Blocks.take.Goals as goal

pub each-preserved : goal.each-preserved
each-preserved c = record {
  from = omega arith;
  upto = omega arith;
  counted = λ count times are.
      let end = c.run_of-run.result.first + c.run_of-run.result.blocks in
      let now = c.each.invariant.counted count times are in
      let within : c.each.block < count = omega (arith, now.all, c.run_of-run.ensures.within, c.blocks-2.ensures, are.all, c.each-test.true) in
      c.take_one.ensures count (so_far times (c.each.block + 1) end) (one_left c.each.self c.each.block end count times c.each-test.true now) within;
}

pub returns : goal.returns
returns c = λ count times are.
    let run = c.run_of-run.result in
    let end : c.each.block ≡ run.first + run.blocks = omega arith in
    none_left c.each.self c.each.block (run.first + run.blocks) count times end
    (c.each.invariant.counted count times (segment_whole c.args.self.now c.args.segment.now run.first (run.first + run.blocks) count c.blocks-2.result times (c.blocks-2.ensures ∙ are.all) c.run_of-run.ensures.blocks are))
