use Rattle.command_steps.proofs.Written.{takes-away}
use Rattle.command_steps.specs.Clients.{seen}
use Rattle.command_steps.specs.Writing.{bytes_of}
use Rattle.command_steps.proofs.writing.write_file.Goals as goal

pub returns-in-Ok : goal.returns-in-Ok
returns-in-Ok g c = c.in-Ok.ensures.1

pub returns-in-Err : goal.returns-in-Err
returns-in-Err g c =
    takes-away c.args.path.now (bytes_of c.args.contents.now) c.args.mtime (seen g.T.Tree.files g.T.Tree.fault_count c.args.tree.now) (seen g.T.Tree.files g.T.Tree.fault_count c.put_file.new.tree) (seen g.T.Tree.files g.T.Tree.fault_count c.remove.new.self) c.in-Err.refusal c.remove.result
    c.in-Err.ensures c.remove.ensures.files c.remove.ensures.gone c.remove.ensures.cause.rose c.remove.ensures.cause.kept
