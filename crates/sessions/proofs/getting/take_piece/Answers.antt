use Rattle.std.proofs.Common.{take, ap}
use Rattle.sessions.proofs.Got.{takes-none, takes-refused}
use Rattle.sessions.proofs.getting.take_piece.Goals as goal

pub returns-in-Err-clause-takes : goal.returns-in-Err-clause-takes
returns-in-Err-clause-takes g c =
    takes-refused g.P.Stepper.did c.args.p.now c.read_piece.new.self c.args.stored.now c.args.at _ c.args.into.now.items c.in-Err.refusal c.unread.result c.in-Err.ensures.does c.unread.ensures

pub returns-then-count-eq0-clause-takes : goal.returns-then-count-eq0-clause-takes
returns-then-count-eq0-clause-takes g c =
    takes-none g.P.Stepper.did c.args.p.now c.read_piece.new.self c.args.stored.now c.args.at _ c.args.into.now.items (take c.in-Ok.count c.read_piece.new.into) c.in-Ok.ensures.does
    (ap (λ n. take n c.read_piece.new.into) c.if-count-eq0.true)
