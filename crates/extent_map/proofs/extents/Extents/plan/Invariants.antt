use Rattle.std.proofs.Common.{◌≡◌, ◌++◌, ◌≤◌, length, drop}
use Rattle.extent_map.specs.Blocks.{total_room, free_runs, free_runs_from, first_of}
use Rattle.extent_map.proofs.extents.Extents.plan.Given as goal

abbrev pub invariant-runs : goal.invariant-runs
invariant-runs l =
    record {
      within : l.at ≤ length l.self;
      enough : l.rest ≤ total_room (free_runs_from l.at (drop l.at l.self));
      so_far : l.runs.items ++ first_of l.rest (free_runs_from l.at (drop l.at l.self)) ≡ first_of l.bytes (free_runs l.self);
    }

abbrev pub decreases-runs : goal.decreases-runs
decreases-runs l = l.rest
