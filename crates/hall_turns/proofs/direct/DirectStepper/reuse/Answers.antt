use Rattle.std.proofs.Common.{inl, refl}
use Rattle.steps.specs.Events.Deed.{Reuse}
use Rattle.hall_turns.proofs.Stepped.{made_alone}
use Rattle.hall_turns.proofs.direct.DirectStepper.reuse.Goals as goal

pub returns : goal.returns
returns g c = inl (
    made_alone g.S.Store.told g.S.Store.moment_of g.S.Store.faults_of (Reuse c.args.file c.reuse-answer.result) c.args.self.now.hall.ghost_name _ c.args.self.now.actor c.args.self.now.refused c.args.self.now.actor c.counted-self.result
    c.args.self.now.hall.now c.reuse-answer.new.self refl refl c.counted-self.ensures c.reuse-answer.ensures.step c.reuse-answer.ensures.goes c.reuse-answer.ensures.listed)
