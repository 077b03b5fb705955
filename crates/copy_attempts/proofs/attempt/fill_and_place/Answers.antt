use Rattle.copy_attempts.proofs.Making.{makes-placed}
use Rattle.copy_attempts.proofs.attempt.fill_and_place.Goals as goal

pub returns-in-Ok : goal.returns-in-Ok
returns-in-Ok g c =
    makes-placed g.P.Stepper.did g.met.P.Stepper.goes_on c.args.p.now c.fill.new.p c.place.new.p c.args.ticket c.args.size c.place.result c.in-Ok.ensures c.place.ensures
