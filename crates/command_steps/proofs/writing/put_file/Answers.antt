use Rattle.client_files.proofs.Giving.{begun}
use Rattle.command_steps.proofs.Written.{put-unfinished, put-whole, uncreated, unput}
use Rattle.command_steps.specs.Clients.{seen}
use Rattle.command_steps.specs.Writing.{bytes_of}
use Rattle.command_steps.proofs.writing.put_file.Goals as goal

pub returns-in-Err : goal.returns-in-Err
returns-in-Err g c = uncreated c.args.path.now (seen g.T.Tree.files g.T.Tree.fault_count c.args.tree.now) (seen g.T.Tree.files g.T.Tree.fault_count c.create.new.self) c.in-Err.ensures.cause.rose c.in-Err.ensures.files.1

pub put_contents-requires-clause-begun : goal.put_contents-requires-clause-begun
put_contents-requires-clause-begun g c = begun c.args.path.now (g.T.Tree.files c.args.tree.now) (g.T.Tree.files c.create.new.self) c.in-Ok.ensures.files.0

pub returns-in-Err-put_contents : goal.returns-in-Err-put_contents
returns-in-Err-put_contents g c =
    unput c.args.path.now (seen g.T.Tree.files g.T.Tree.fault_count c.args.tree.now) (seen g.T.Tree.files g.T.Tree.fault_count c.create.new.self) (seen g.T.Tree.files g.T.Tree.fault_count c.put_contents.new.tree) c.in-Err-put_contents.refusal c.in-Ok.ensures.files.0 c.in-Ok.ensures.cause.kept
    c.in-Err-put_contents.ensures

pub returns-in-Ok-finish : goal.returns-in-Ok-finish
returns-in-Ok-finish g c =
    put-whole c.args.path.now (bytes_of c.args.contents.now) c.args.mtime (seen g.T.Tree.files g.T.Tree.fault_count c.args.tree.now) (seen g.T.Tree.files g.T.Tree.fault_count c.create.new.self) (seen g.T.Tree.files g.T.Tree.fault_count c.put_contents.new.tree)
    (seen g.T.Tree.files g.T.Tree.fault_count c.finish.new.self) c.in-Ok.ensures.files.0 c.in-Ok.ensures.cause.kept c.in-Ok-put_contents.ensures c.in-Ok-finish.ensures.files.0 c.in-Ok-finish.ensures.cause.kept

pub returns-in-Err-finish : goal.returns-in-Err-finish
returns-in-Err-finish g c =
    put-unfinished c.args.path.now (bytes_of c.args.contents.now) c.args.mtime (seen g.T.Tree.files g.T.Tree.fault_count c.args.tree.now) (seen g.T.Tree.files g.T.Tree.fault_count c.create.new.self) (seen g.T.Tree.files g.T.Tree.fault_count c.put_contents.new.tree)
    (seen g.T.Tree.files g.T.Tree.fault_count c.finish.new.self) c.in-Ok.ensures.files.0 c.in-Ok.ensures.cause.kept c.in-Ok-put_contents.ensures c.in-Err-finish.ensures.cause.rose c.in-Err-finish.ensures.files.1
