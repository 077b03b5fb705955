use Rattle.tsm_top.proofs.Parts.{answers_as, is_open, room_behind, room_for_one, source_says}
use Rattle.tsm_top.proofs.script.run_part.Goals as goal

pub end_block-server-requires-clause-room : goal.end_block-server-requires-clause-room
end_block-server-requires-clause-room g c κs within = room_for_one c.run.new.server c.run.new.progress c.in-None.ensures.next.1 c.in-None.ensures.room

pub end_block-server-requires-clause-block : goal.end_block-server-requires-clause-block
end_block-server-requires-clause-block g c κs within =
    is_open g.S.Store.told g.S.Store.moment_of g.S.Store.faults_of g.T.Tree.files g.T.Tree.fault_count c.requires.stands.0 c.run.new.server c.requires.stands.1 c.requires.stands.2 _ _ c.run.new.progress
    (c.in-None.ensures.runs c.requires.stands.0 c.requires.stands.1 c.requires.stands.2 c.requires.stands.3)

pub returns-clause-comes : goal.returns-clause-comes
returns-clause-comes g c = λ start first contents stands.
    c.answered-ended.ensures.comes start c.run.new.server first contents (g.I.Source.left c.run.new.script) (c.in-None.ensures.runs start first contents stands)
    (answers_as g.S.Store.told g.S.Store.moment_of g.S.Store.faults_of g.T.Tree.files g.T.Tree.fault_count start c.run.new.server c.end_block-server.result.0 first contents (g.I.Source.left c.run.new.script) (g.O.Sink.contents c.run.new.out) c.run.new.progress c.number-number.result c.end_block-server.result.1
    (c.in-None.ensures.runs start first contents stands) c.number-number.ensures c.end_block-server.ensures.served c.end_block-server.ensures.halted)

pub returns-clause-room : goal.returns-clause-room
returns-clause-room g c =
    room_behind c.answered-ended.result c.run.new.server c.end_block-server.result.0 c.run.new.progress c.answered-ended.new.progress c.answered-ended.ensures.next c.in-None.ensures.room c.end_block-server.ensures.rest

pub returns-clause-end : goal.returns-clause-end
returns-clause-end g c = c.answered-ended.ensures.end (g.I.Source.left c.run.new.script) c.in-None.ensures.end

pub returns-clause-source : goal.returns-clause-source
returns-clause-source g c =
    source_says c.answered-ended.result (g.I.Source.fault_count c.args.script.now) (g.I.Source.fault_count c.run.new.script) (g.I.Source.fault_count c.run.new.script) c.in-None.ensures.source
    (c.answered-ended.ensures.source (g.I.Source.fault_count c.run.new.script))
