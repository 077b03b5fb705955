use Rattle.crew.proofs.Writing.{open_holds}
use Rattle.crew.proofs.pass.PassStepper.open_new.Goals as goal

pub keep_hasher-requires : goal.keep_hasher-requires
keep_hasher-requires g c =
    open_holds c.in-Ok.ticket c.args.pool c.args.size c.args.prefer c.args.self.now.refused c.make.new.self.refused c.new.result c.args.self.now.own c.make.new.self.own c.in-Ok.ensures c.new.ensures
