use Rattle.std.proofs.Common.{inl, refl}
use Rattle.steps.specs.Events.Deed.{Image}
use Rattle.hall_turns.proofs.Stepped.{made_alone}
use Rattle.hall_turns.proofs.direct.DirectStepper.image.Goals as goal

pub returns : goal.returns
returns g c = inl (
    made_alone g.S.Store.told g.S.Store.moment_of g.S.Store.faults_of (Image c.args.kind c.image-answer.result) c.args.self.now.hall.ghost_name _ c.args.self.now.actor c.args.self.now.refused c.args.self.now.actor c.counted-self.result
    c.args.self.now.hall.now c.image-answer.new.hall refl refl c.counted-self.ensures c.image-answer.ensures.step c.image-answer.ensures.goes c.image-answer.ensures.listed)
