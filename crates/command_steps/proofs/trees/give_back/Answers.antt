use Rattle.std.proofs.Common.{Ok, Err, refl}
use Rattle.command_steps.proofs.Treed.{gives-back}
use Rattle.command_steps.specs.Clients.{seen}
use Rattle.command_steps.proofs.trees.give_back.Goals as goal

pub returns-in-Ok : goal.returns-in-Ok
returns-in-Ok g c =
    gives-back g.P.Stepper.did c.args.p.now c.restore.new.p c.args.files.now c.args.names.0 c.args.names.1 c.args.which.now (seen g.T.Tree.files g.T.Tree.fault_count c.args.tree.now) (seen g.T.Tree.files g.T.Tree.fault_count c.restore.new.tree) (Ok c.in-Ok.restored) c.given_back.result
    c.requires.node c.requires.filespace c.in-Ok.ensures.restores c.given_back.ensures

pub returns-in-Err : goal.returns-in-Err
returns-in-Err g c =
    gives-back g.P.Stepper.did c.args.p.now c.restore.new.p c.args.files.now c.args.names.0 c.args.names.1 c.args.which.now (seen g.T.Tree.files g.T.Tree.fault_count c.args.tree.now) (seen g.T.Tree.files g.T.Tree.fault_count c.restore.new.tree) (Err c.in-Err.refusal) (Err c.in-Err.refusal)
    c.requires.node c.requires.filespace c.in-Err.ensures.restores refl
