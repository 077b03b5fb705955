use Rattle.std.proofs.Common.{◌≡◌, ℕ, ◌-◌, ◌<◌, ◌≤◌, length, get_or, true}
use Rattle.extent_map.specs.Blocks.{end_of, marked}
use Rattle.extent_map.proofs.extents.Extents.mark_used.Given as goal

abbrev pub invariant-parts : goal.invariant-parts
invariant-parts l =
    record {
      low : l.fn.run.first ≤ l.at;
      high : l.at ≤ end_of l.fn.run;
      within : end_of l.fn.run ≤ length l.self;
      so_far : (k : ℕ) → l.fn.run.first ≤ k → k < l.at → get_or l.self k true ≡ true;
      whole : marked true l.fn.run l.self ≡ marked true l.fn.run l.fn.self;
    }

abbrev pub decreases-parts : goal.decreases-parts
decreases-parts l = l.end - l.at
