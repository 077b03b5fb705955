use Rattle.std.proofs.Common.{inl, refl}
use Rattle.steps.specs.Events.Deed.{Commit}
use Rattle.hall_turns.proofs.Stepped.{made_alone}
use Rattle.hall_turns.proofs.direct.DirectStepper.commit.Goals as goal

pub returns : goal.returns
returns g c = inl (
    made_alone g.S.Store.told g.S.Store.moment_of g.S.Store.faults_of (Commit c.args.asked.now c.args.tickets.now c.commit-answer.result) c.args.self.now.hall.ghost_name _ c.args.self.now.actor c.args.self.now.refused c.args.self.now.actor c.counted-self.result
    c.args.self.now.hall.now c.commit-answer.new.self refl refl c.counted-self.ensures c.commit-answer.ensures.step c.commit-answer.ensures.goes c.commit-answer.ensures.listed)
