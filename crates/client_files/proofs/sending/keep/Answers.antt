use Rattle.client_files.specs.Reading.{file_of}
use Rattle.client_files.proofs.Filling.{keeps-given}
use Rattle.client_files.proofs.sending.keep.Goals as goal

pub returns-in-Err-clause-keeps : goal.returns-in-Err-clause-keeps
returns-in-Err-clause-keeps g c =
    keeps-given g.P.Stepper.did g.met.P.Stepper.goes_on c.args.p.now c.load.new.p c.give_up.new.p (file_of (g.T.Tree.files c.args.tree.now) c.args.path.now) c.args.ticket c.args.size
    (g.T.Tree.fault_count c.args.tree.now) (g.T.Tree.fault_count c.load.new.tree) c.in-Err.refusal c.give_up.result c.in-Err.ensures.loads c.give_up.ensures
