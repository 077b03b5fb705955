use Rattle.command_steps.proofs.Written.{unappended}
use Rattle.command_steps.specs.Clients.{seen}
use Rattle.command_steps.proofs.writing.put_bytes.Goals as goal

pub returns-in-Err : goal.returns-in-Err
returns-in-Err g c =
    unappended c.args.path.now c.args.bytes.now (seen g.T.Tree.files g.T.Tree.fault_count c.args.tree.now) (seen g.T.Tree.files g.T.Tree.fault_count c.append.new.self) c.in-Err.ensures.cause.rose c.in-Err.ensures.files.1
