-- That the ticket was sealed is looked for, and not cited: a body that doesn't seal it is refused for want of that fact.
use Rattle.std.proofs.Common.{rules}
use Rattle.copy_attempts.proofs.Making.{fills-sealed}
use Rattle.copy_attempts.proofs.attempt.fill.Goals as goal

pub returns-in-Ok : goal.returns-in-Ok
returns-in-Ok g c =
    fills-sealed g.P.Stepper.did g.met.P.Stepper.goes_on c.args.p.now c.copy_pieces.new.p _ c.args.ticket c.args.size c.piece_count.result _
    c.piece_count.ensures c.in-Ok.ensures (search rules)
