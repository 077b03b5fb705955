use Rattle.version_groups.proofs.Lists.{place_of-here, place_of-further, place_of-end, place_of-within}
use Rattle.std.proofs.Common.{◌≡◌, ◌≤◌, arith, length, refl}
use Rattle.version_groups.specs.Copies.{place_of}
use Rattle.version_groups.proofs.copies.place_of.Goals as goal

pub copies-preserved : goal.copies-preserved
copies-preserved c = place_of-further _ _ _ c.index-copies-i.result c.copies-test.true c.if-pool-copies.false c.copies.invariant

pub returns-then-pool-copies : goal.returns-then-pool-copies
returns-then-pool-copies c = record {
  value = place_of-here _ _ _ c.index-copies-i.result c.copies-test.true c.if-pool-copies.true c.copies.invariant;
  within = let h : c.copies.i ≤ length c.args.copies.now = omega arith in h;
}

pub returns : goal.returns
returns c = record {
  value = place_of-end _ _ _ c.copies-test.false c.copies.auto.i-end c.copies.invariant;
  within = let h : length c.args.copies.now ≤ length c.args.copies.now = omega arith in h;
}
