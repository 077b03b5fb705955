use Rattle.client_files.specs.Reading.{file_of}
use Rattle.sessions.proofs.Put.{sends-once}
use Rattle.sessions.proofs.sending.send_once.Goals as goal

pub returns-clause-sends : goal.returns-clause-sends
returns-clause-sends g c =
    sends-once g.P.Stepper.did c.args.p.now c.send_file.new.p (file_of (g.T.Tree.files c.args.tree.now) c.args.file.now.path) c.args.pool c.args.file.now.size (g.T.Tree.fault_count c.args.tree.now)
    (g.T.Tree.fault_count c.send_file.new.tree) c.send_file.result c.sealed_of.result c.send_file.ensures.sends c.sealed_of.ensures
