use Rattle.client_files.specs.Reading.{file_of}
use Rattle.client_files.proofs.Whole.{sending-ended, sending-closed}
use Rattle.client_files.proofs.sending.send_file.Goals as goal

pub returns-in-Ok-clause-sends : goal.returns-in-Ok-clause-sends
returns-in-Ok-clause-sends g c =
    sending-closed g.P.Stepper.did g.met.P.Stepper.goes_on c.args.p.now c.open_and_keep.new.p c.close.new.p (file_of (g.T.Tree.files c.args.tree.now) c.args.file.now.path) c.args.pool c.args.file.now.size
    (g.T.Tree.fault_count c.args.tree.now) (g.T.Tree.fault_count c.open_and_keep.new.tree) c.in-Ok.came c.close.result c.in-Ok.ensures.puts c.close.ensures

pub returns-in-Err-clause-sends : goal.returns-in-Err-clause-sends
returns-in-Err-clause-sends g c =
    sending-ended g.P.Stepper.did c.args.p.now c.open_and_keep.new.p (file_of (g.T.Tree.files c.args.tree.now) c.args.file.now.path) c.args.pool c.args.file.now.size
    (g.T.Tree.fault_count c.args.tree.now) (g.T.Tree.fault_count c.open_and_keep.new.tree) c.in-Err.refusal c.in-Err.ensures.puts
