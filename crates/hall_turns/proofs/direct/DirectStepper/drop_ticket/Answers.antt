use Rattle.std.proofs.Common.{refl}
use Rattle.steps.specs.Events.Deed.{DropTicket}
use Rattle.hall_turns.proofs.Stepped.{made_alone}
use Rattle.hall_turns.proofs.direct.DirectStepper.drop_ticket.Goals as goal

pub returns : goal.returns
returns g c =
    made_alone g.S.Store.told g.S.Store.moment_of g.S.Store.faults_of (DropTicket c.args.ticket c.drop_ticket-answer.result) c.args.self.now.hall.ghost_name _ c.args.self.now.actor c.args.self.now.refused c.args.self.now.actor c.counted-self.result
    c.args.self.now.hall.now c.drop_ticket-answer.new.self refl refl c.counted-self.ensures c.drop_ticket-answer.ensures.step c.drop_ticket-answer.ensures.goes c.drop_ticket-answer.ensures.listed
