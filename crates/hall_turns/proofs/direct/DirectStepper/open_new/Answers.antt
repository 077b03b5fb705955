use Rattle.std.proofs.Common.{inl, refl}
use Rattle.steps.specs.Events.Deed.{OpenNew}
use Rattle.hall_turns.proofs.Stepped.{made_alone}
use Rattle.hall_turns.proofs.direct.DirectStepper.open_new.Goals as goal

pub returns : goal.returns
returns g c = inl (
    made_alone g.S.Store.told g.S.Store.moment_of g.S.Store.faults_of (OpenNew c.args.pool c.args.size c.args.prefer c.open_new-answer.result) c.args.self.now.hall.ghost_name _ c.args.self.now.actor c.args.self.now.refused c.args.self.now.actor c.counted-self.result
    c.args.self.now.hall.now c.open_new-answer.new.self refl refl c.counted-self.ensures c.open_new-answer.ensures.step c.open_new-answer.ensures.goes c.open_new-answer.ensures.listed)
