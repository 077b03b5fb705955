use Rattle.client_files.proofs.Filling.{closes-given, closes-sealed}
use Rattle.client_files.proofs.sending.close.Goals as goal

pub returns-in-Ok : goal.returns-in-Ok
returns-in-Ok g c = closes-sealed g.P.Stepper.did c.args.p.now c.seal.new.self c.args.came c.in-Written.ticket c.in-Written.digest c.in-Written.is c.in-Ok.ensures

pub returns-in-Err : goal.returns-in-Err
returns-in-Err g c =
    closes-given g.P.Stepper.did g.met.P.Stepper.goes_on c.args.p.now c.seal.new.self c.give_up.new.p c.args.came c.in-Written.ticket c.in-Written.digest c.in-Err.refusal c.unwritten.result c.give_up.result c.in-Written.is
    c.in-Err.ensures c.unwritten.ensures c.give_up.ensures
