use Rattle.std.proofs.Common.{◌≡◌, ℕ, subst, arith}
use Rattle.space_index.specs.Counts.{AreCounted}
use Rattle.space_index.proofs.Counting.{so_often, often_none, often_more}
use Rattle.space_index.proofs.updates.put_times.Goals as goal

pub each-init : goal.each-init
each-init c = record {
  upto = omega arith;
  counted = λ count had are. often_none c.args.blocks.now c.args.segment.now count had are;
}

pub each-preserved : goal.each-preserved
each-preserved c = record {
  upto = omega arith;
  counted = λ count had are.
      often_more c.put.new.self c.args.segment.now c.each.counter count had (c.in_ok-put.ensures count (so_often had c.args.segment.now c.each.counter) (c.each.invariant.counted count had are));
}

pub returns : goal.returns
returns c = λ count had are.
    let end : c.each.counter ≡ c.args.times = omega arith in
    subst (λ (n : ℕ). AreCounted c.each.blocks count (so_often had c.args.segment.now n)) end (c.each.invariant.counted count had are)
