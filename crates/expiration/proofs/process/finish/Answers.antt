use Rattle.std.proofs.Common.{rules}
use Rattle.expiration.proofs.Working.{finishes}
use Rattle.expiration.proofs.process.finish.Goals as goal

pub returns-in-Ok : goal.returns-in-Ok
returns-in-Ok g c = finishes g.P.Stepper.did g.met.P.Stepper.goes_on c.args.p.now _ c.ask_today.new.p c.in-Ok.field-0 c.ask_today.result c.ask_today.ensures (search rules)
