use Rattle.command_steps.proofs.Written.{unremoved, without}
use Rattle.command_steps.specs.Clients.{seen}
use Rattle.command_steps.proofs.writing.erase_file.Goals as goal

pub returns-in-Ok : goal.returns-in-Ok
returns-in-Ok g c = without c.args.path.now (g.T.Tree.files c.args.tree.now) (g.T.Tree.files c.remove.new.self) c.in-Ok.ensures.files.0 c.in-Ok.ensures.gone

pub returns-in-Err : goal.returns-in-Err
returns-in-Err g c =
    unremoved c.args.path.now (seen g.T.Tree.files g.T.Tree.fault_count c.args.tree.now) (seen g.T.Tree.files g.T.Tree.fault_count c.remove.new.self) c.in-Err.ensures.cause.rose c.in-Err.ensures.files.1
