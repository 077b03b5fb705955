use Rattle.std.proofs.Common.{◌≡◌, ℕ, ◌-◌, ◌≤◌, if◌then◌else◌}
use Rattle.extent_map.specs.Bits.{is_between}
use Rattle.extent_map.specs.Levels.{bit_of, AllTell}
use Rattle.extent_map.proofs.block_set.fill_bits.Given as goal

abbrev pub invariant-loop-done : goal.invariant-loop-done
invariant-loop-done l =
    record {
      low : l.low ≤ l.done;
      high : l.done ≤ l.high;
      telling : AllTell l.words l.base;
      members : (i : ℕ) → l.base ≤ i → bit_of l.words i ≡ (if is_between l.low l.done i then l.set else bit_of l.initial.words i);
    }

abbrev pub decreases-loop-done : goal.decreases-loop-done
decreases-loop-done l = l.high - l.done
