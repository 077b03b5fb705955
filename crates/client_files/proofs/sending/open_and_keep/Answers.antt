use Rattle.client_files.specs.Reading.{file_of}
use Rattle.client_files.proofs.Filling.{puts-opened, puts-unopened}
use Rattle.client_files.proofs.sending.open_and_keep.Goals as goal

pub returns-in-Ok-clause-puts : goal.returns-in-Ok-clause-puts
returns-in-Ok-clause-puts g c =
    puts-opened g.P.Stepper.did g.met.P.Stepper.goes_on c.args.p.now c.open_new.new.self c.keep.new.p (file_of (g.T.Tree.files c.args.tree.now) c.args.file.now.path) c.args.pool c.args.file.now.size
    (g.T.Tree.fault_count c.args.tree.now) (g.T.Tree.fault_count c.keep.new.tree) c.in-Ok.ticket c.keep.result c.in-Ok.ensures c.keep.ensures.keeps

pub returns-in-Err-clause-puts : goal.returns-in-Err-clause-puts
returns-in-Err-clause-puts g c =
    puts-unopened g.P.Stepper.did c.args.p.now c.open_new.new.self (file_of (g.T.Tree.files c.args.tree.now) c.args.file.now.path) c.args.pool c.args.file.now.size
    (g.T.Tree.fault_count c.args.tree.now) (g.T.Tree.fault_count c.args.tree.now) c.in-Err.refusal c.unopened.result c.in-Err.ensures c.unopened.ensures
