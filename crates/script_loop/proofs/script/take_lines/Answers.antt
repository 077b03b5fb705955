use Rattle.std.proofs.Common.{arith}
use Rattle.script_loop.proofs.Pausing.{waits}
use Rattle.script_loop.proofs.Underway.{goes_on, stops, full}
use Rattle.script_loop.proofs.script.take_lines.Goals as goal

pub lines-preserved : goal.lines-preserved
lines-preserved g c =
    record {
      underway = λ start first contents stands. goes_on g.A.Answerer.serves g.A.Answerer.halts _ _ _ _ _ _ _ _ _ c.lines.progress-inside.number c.lines.progress-inside.tally c.in-Took.sum (omega arith) (c.lines.invariant.underway start first contents stands) c.in-Took.ensures.takes;
      room = λ m is. c.in-Took.ensures.room m (omega (arith, is));
      low = omega (arith, c.lines.invariant.low);
      high = omega arith;
      source = omega (arith, c.lines.invariant.source, c.in-Took.ensures.source);
      sink = omega (arith, c.lines.invariant.sink, c.in-Took.ensures.sink);
    }

pub returns-in-Ends-clause-stops : goal.returns-in-Ends-clause-stops
returns-in-Ends-clause-stops g c =
    λ start first contents stands. stops g.A.Answerer.serves g.A.Answerer.halts _ _ _ _ _ _ _ _ _ c.lines.progress-inside.number c.lines.progress-inside.tally c.in-Ends.end (omega arith) (c.lines.invariant.underway start first contents stands) c.in-Ends.ensures.takes

pub returns-in-Asks-clause-stops : goal.returns-in-Asks-clause-stops
returns-in-Asks-clause-stops g c =
    λ start first contents stands. waits g.A.Answerer.serves g.A.Answerer.asks _ _ _ _ _ _ _ _ _ c.take_line.new.reader.held c.lines.progress-inside.number c.lines.progress-inside.tally c.in-Asks.over (c.lines.invariant.underway start first contents stands)
    c.in-Asks.ensures.takes.0 c.in-Asks.ensures.takes.1

pub returns-clause-stops : goal.returns-clause-stops
returns-clause-stops g c =
    λ start first contents stands. full g.A.Answerer.serves g.A.Answerer.halts _ _ _ _ _ _ c.lines.progress-inside.number c.lines.progress-inside.tally (omega arith) (c.lines.invariant.underway start first contents stands)
