use Rattle.std.proofs.Common.{◌≡◌, ℕ, ◌+◌, ◌-◌, ◌^◌, ◌≤◌, List, Option}
use Rattle.std.specs.Io.KnownBytes.{prepend_known}
use Rattle.script_loop.specs.Pauses.{Stands}
use Rattle.script_loop.specs.Steps.{Underway}
use Rattle.script_loop.proofs.script.take_lines.Given as goal

-- how far a run has come that stood before its next line, and that the lines that may still come can be given
abbrev pub invariant-lines : goal.invariant-lines
invariant-lines g l =
    record {
      underway : (start : g.row.A.Denot) → (first contents : Option (List ℕ)) → Stands g.A.Answerer.serves start first contents l.fn.progress l.fn.server (g.I.Source.left l.fn.script) (g.O.Sink.contents l.fn.out)
          → Underway g.A.Answerer.serves start first contents l.progress-inside.number l.progress-inside.tally l.server (prepend_known l.progress-inside.reader.held (g.I.Source.left l.script)) (g.O.Sink.contents l.out);
      room : (m : ℕ) → m + l.progress-inside.number ≡ 2 ^ 20 + 1 → g.A.Answerer.can_take l.server m;
      low : l.fn.progress.next ≤ l.progress-inside.number;
      high : l.progress-inside.number ≤ 2 ^ 20 + 1;
      source : g.I.Source.fault_count l.fn.script ≤ g.I.Source.fault_count l.script;
      sink : g.O.Sink.fault_count l.fn.out ≤ g.O.Sink.fault_count l.out;
    }

abbrev pub decreases-lines : goal.decreases-lines
decreases-lines g l = 2 ^ 20 + 1 - l.progress-inside.number
