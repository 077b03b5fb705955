use Rattle.std.proofs.Common.{◌-◌, ◌≤◌, length}
use Rattle.std.specs.Io.KnownBytes.{Keeps, prepend_known}
use Rattle.script_loop.proofs.reader.LineReader.advance.Given as goal

-- the same bytes are to come, and the count of faults didn't fall
abbrev pub invariant-pieces : goal.invariant-pieces
invariant-pieces g l =
    record {
      to_come : Keeps (prepend_known l.fn.self.held (g.I.Source.left l.fn.script)) (prepend_known l.self.held (g.I.Source.left l.script));
      kept : g.I.Source.fault_count l.fn.script ≤ g.I.Source.fault_count l.script;
    }

abbrev pub decreases-pieces : goal.decreases-pieces
decreases-pieces g l = 16384 - length l.self.held
