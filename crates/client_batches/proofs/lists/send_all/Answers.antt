use Rattle.client_batches.proofs.Exactly.{files-sent}
use Rattle.client_batches.proofs.lists.send_all.Goals as goal

pub returns-clause-sends : goal.returns-clause-sends
returns-clause-sends g c =
    files-sent g.P.Stepper.did c.args.p.now c.send_rounds.new.p c.args.classes.now (g.T.Tree.files c.args.tree.now) c.args.filespace c.args.lines.now (g.T.Tree.fault_count c.args.tree.now) (g.T.Tree.fault_count c.send_rounds.new.tree) c.send_rounds.result c.send_rounds.ensures.sends
