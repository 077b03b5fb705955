use Rattle.std.proofs.Common.{◌-◌, ◌≤◌, length, take}
use Rattle.std.specs.Io.KnownBytes.{Appends}
use Rattle.tree_api.proofs.streams.put_all.Given as goal

-- a front of the bytes was put, and the count of faults didn't fall
abbrev pub invariant-pieces : goal.invariant-pieces
invariant-pieces g l =
    record {
      within : l.done ≤ length l.bytes;
      put : Appends (g.O.Sink.contents l.fn.out) (g.O.Sink.contents l.out) (take l.done l.bytes);
      kept : g.O.Sink.fault_count l.fn.out ≤ g.O.Sink.fault_count l.out;
    }

abbrev pub decreases-pieces : goal.decreases-pieces
decreases-pieces g l = length l.bytes - l.done
