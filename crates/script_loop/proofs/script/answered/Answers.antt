use Rattle.std.proofs.Common.{refl, sym}
use Rattle.script_loop.proofs.Pausing.{goes_on_answered, stops_answered}
use Rattle.script_loop.proofs.Underway.{says}
use Rattle.script_loop.proofs.script.answered.Goals as goal

pub returns-in-Ok-clause-comes : goal.returns-in-Ok-clause-comes
returns-in-Ok-clause-comes g c =
    λ start state first contents left waits answers. (
      refl,
      goes_on_answered g.A.Answerer.serves g.A.Answerer.halts g.A.Answerer.asks start state _ first contents left _ _ c.args.progress.now c.progress.inside.reader.held c.progress.inside.number c.progress.inside.tally c.in-Ok.sum c.progress.inside.over c.args.reply
          (sym c.progress.view_is) c.requires waits answers c.in-Ok.ensures.put,
    )

pub returns-in-Err-clause-comes : goal.returns-in-Err-clause-comes
returns-in-Err-clause-comes g c =
    λ start state first contents left waits answers. says g.A.Answerer.serves g.A.Answerer.halts _ _ _ _ _ _ _ c.put_last.result (
    stops_answered g.A.Answerer.serves g.A.Answerer.halts g.A.Answerer.asks start state _ first contents left _ _ c.args.progress.now c.progress.inside.reader.held c.progress.inside.number c.progress.inside.tally c.in-Err.end c.progress.inside.over c.args.reply
    (sym c.progress.view_is) c.requires waits answers c.in-Err.ensures.put
    ) c.put_last.ensures.put
