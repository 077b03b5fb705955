use Rattle.std.proofs.Common.{◌+◌, ◌^◌, arith}
use Rattle.tsm_top.proofs.Parts.{comes_none, comes_some, next_on, room_at_first, room_on, sink_on, source_on}
use Rattle.tsm_top.proofs.script.answer_script.Goals as goal

pub returns-in-Err-clause-says : goal.returns-in-Err-clause-says
returns-in-Err-clause-says g c = c.in-Err.ensures.says (g.I.Source.left c.args.script.now)

pub parts-init : goal.parts-init
parts-init g c =
    let first = c.in-Ok.ensures.begun.0 in
    record {
      stands = c.in-Ok.ensures.begun.1 (g.I.Source.left c.args.script.now);
      within = omega (arith, first);
      room = room_at_first c.args.server c.in-Ok.progress c.in-Ok.ensures.begun.0 c.requires;
      source = omega arith;
      sink = c.in-Ok.ensures.sink;
    }

pub returns-in-Some-clause-says : goal.returns-in-Some-clause-says
returns-in-Some-clause-says g c =
    comes_some g.S.Store.told g.S.Store.moment_of g.S.Store.faults_of g.T.Tree.files g.T.Tree.fault_count c.args.server c.run_part-next.result.0 (g.I.Source.left c.args.script.now) (g.O.Sink.contents c.args.out.now) (g.I.Source.left c.run_part-next.new.script) (g.O.Sink.contents c.run_part-next.new.out) c.run_part-next.new.progress c.run_part-next.result.1 c.in-Some.end c.in-Some.is
    (c.run_part-next.ensures.comes c.args.server (g.I.Source.left c.args.script.now) (g.O.Sink.contents c.args.out.now) c.parts.invariant.stands)

pub parts-preserved : goal.parts-preserved
parts-preserved g c =
    let up = source_on c.run_part-next.result.1 (g.I.Source.fault_count c.parts.script) (g.I.Source.fault_count c.run_part-next.new.script) c.in-None.is c.run_part-next.ensures.source in
    let on = sink_on c.run_part-next.result.1 (g.O.Sink.fault_count c.parts.out) (g.O.Sink.fault_count c.run_part-next.new.out) c.in-None.is c.run_part-next.ensures.sink in
    record {
      stands =
          comes_none g.S.Store.told g.S.Store.moment_of g.S.Store.faults_of g.T.Tree.files g.T.Tree.fault_count c.args.server c.run_part-next.result.0 (g.I.Source.left c.args.script.now) (g.O.Sink.contents c.args.out.now) (g.I.Source.left c.run_part-next.new.script) (g.O.Sink.contents c.run_part-next.new.out) c.run_part-next.new.progress c.run_part-next.result.1 c.in-None.is
          (c.run_part-next.ensures.comes c.args.server (g.I.Source.left c.args.script.now) (g.O.Sink.contents c.args.out.now) c.parts.invariant.stands);
      within = next_on c.run_part-next.result.1 (c.parts.progress.next + 1) (2 ^ 20 + 1) c.run_part-next.new.progress.next c.in-None.is c.run_part-next.ensures.next;
      room = room_on c.run_part-next.result.1 c.run_part-next.result.0 c.run_part-next.new.progress c.in-None.is c.run_part-next.ensures.room;
      source = omega (arith, c.parts.invariant.source, up);
      sink = omega (arith, c.parts.invariant.sink, on);
    }
