use Rattle.std.proofs.Common.{Ok, Err, refl}
use Rattle.command_steps.proofs.Treed.{backs-up}
use Rattle.command_steps.specs.Clients.{seen}
use Rattle.command_steps.specs.declared.outcome.Outcome.TheVariants as came
use Rattle.command_steps.proofs.trees.back_up.Goals as goal

pub returns-in-Ok : goal.returns-in-Ok
returns-in-Ok g c =
    backs-up g.P.Stepper.did c.args.p.now c.incremental.new.p c.args.binder.now c.args.files.now (seen g.T.Tree.files g.T.Tree.fault_count c.args.tree.now) (seen g.T.Tree.files g.T.Tree.fault_count c.incremental.new.tree) (Ok c.in-Ok.sent) (Ok (came.Sent c.by_path.result))
    c.in-Ok.ensures.increments c.in-Ok.ensures.kept c.by_path.ensures

pub returns-in-Err : goal.returns-in-Err
returns-in-Err g c =
    backs-up g.P.Stepper.did c.args.p.now c.incremental.new.p c.args.binder.now c.args.files.now (seen g.T.Tree.files g.T.Tree.fault_count c.args.tree.now) (seen g.T.Tree.files g.T.Tree.fault_count c.incremental.new.tree) (Err c.in-Err.refusal) (Err c.in-Err.refusal)
    c.in-Err.ensures.increments c.in-Err.ensures.kept refl
