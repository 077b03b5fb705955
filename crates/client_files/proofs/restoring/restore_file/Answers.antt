use Rattle.client_files.proofs.Giving.{restores-not}
use Rattle.client_files.proofs.restoring.restore_file.Goals as goal

pub returns-in-Err-clause-restores : goal.returns-in-Err-clause-restores
returns-in-Err-clause-restores g c =
    restores-not g.P.Stepper.did c.args.p.now c.copy_out.new.p c.args.stored.now c.args.path.now (g.T.Tree.files c.args.tree.now) (g.T.Tree.files c.copy_out.new.tree) (g.T.Tree.files c.remove.new.self)
    (g.T.Tree.fault_count c.args.tree.now) (g.T.Tree.fault_count c.copy_out.new.tree) (g.T.Tree.fault_count c.remove.new.self) c.in-Err.refusal c.remove.result c.given_up.result c.in-Err.ensures.copies
    c.remove.ensures.files c.remove.ensures.gone c.remove.ensures.cause.rose c.in-Err.ensures.rises c.remove.ensures.cause.kept c.given_up.ensures
