use Rattle.std.proofs.Common.{◌≡◌, ◌-◌, ◌<◌, ◌≤◌, ◌^◌}
use Rattle.extent_map.specs.Levels.{level_start}
use Rattle.extent_map.proofs.block_set.BlockSet.new.Given as goal

abbrev pub invariant-loop-base : goal.invariant-loop-base
invariant-loop-base l =
    record {
      last : l.base ≡ level_start l.depth;
      shallow : l.depth ≤ l.base;
      fits : l.base < 2 ^ 33;
    }

abbrev pub decreases-loop-base : goal.decreases-loop-base
decreases-loop-base l = l.count-2 - l.base
